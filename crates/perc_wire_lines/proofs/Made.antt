-- What lines do with octets that were made, or with the reason why none were.
use Rattle.std.proofs.Common.{◌≡◌, ℕ, ◌+◌, ◌-◌, ◌<◌, ◌≤◌, Bool, true, false, cond, List, ◌++◌, length, length-drop, take, drop, Some, None, Result, Ok, Err, Vec, Global, slice_get, inl, inr, refl, sym, ap, ◌∙◌, subst, arith}
use Rattle.std.specs.Prelude.{◌||◌, ◌==◌, nat_lt}
use Rattle.std.specs.Result.{IsErrAnd}
use Rattle.std.proofs.lemmas.Bool.Decides.{nat_tests}
use Rattle.std.proofs.lemmas.List.{length-append, length-take}
use Rattle.std.proofs.lemmas.Option.{slice_get_cases, slice_get_past, slice_get_within}
use Rattle.perc_member.specs.declared.datagram.Datagram as code_datagram
use Rattle.perc_report_line.specs.Report.{WireMade}
use Rattle.perc_run.specs.Hostile.{alter_datagram, alter_turn, altered, at_datagram, graft_datagrams, graft_turn, grafted, inject_turn, made, no_graft}
use Rattle.perc_run.specs.State.{Datagram, Refused, State, Turn, datagram_at}
use Rattle.perc_script_line.specs.declared.reason.Reason.{Reason}
use Rattle.perc_script_line.specs.declared.reason.Reason.TheVariants as reason
use Rattle.perc_sent.proofs.Finding.{at_within}
use Rattle.perc_sent.proofs.Rows.{datagram_place}
use Rattle.perc_conference_state.specs.declared.conference.Conference as code
use Rattle.perc_conference_state.specs.declared.conference.Stop.{Stop}
use Rattle.perc_conference_state.specs.declared.conference.Told.{Told}
use Rattle.perc_conference_state.specs.Mirror.{Does, Mirrors}
use Rattle.perc_conference_state.proofs.Turning.{does_stopped, out_of_memory}
use Rattle.perc_wire_lines.specs.Made.{IsDatagramOf, Makes, alteration, graft}
use Rattle.perc_wire_lines.proofs.Pushing.{added_long}

-- ---- an answer

abbrev pub turn_of : State → Result (List ℕ) Reason → Turn
turn_of s (Ok octets) = made s octets
turn_of s (Err why) = Refused why

-- None were made: there is a reason, or no memory was found.
pub does_nothing : (s : State) (turn : Turn) (answer : Result (List ℕ) Reason) (e : Stop) (result : Result Told Stop) (before after : List ℕ) (d : code.Conference)
    → turn ≡ turn_of s answer → Makes answer (Err e) → IsErrAnd result (λ given. given ≡ e) → Does turn result before after d
does_nothing s turn (Ok octets) e result before after d is none given =
    out_of_memory turn result before after d (subst (λ (x : Stop). IsErrAnd result (λ given. given ≡ x)) none given)
does_nothing s turn (Err why) e result before after d is none given = does_stopped turn why result e before after d is given none

pub answer_is : (answer : Result (List ℕ) Reason) (v : Vec ℕ Global) → Makes answer (Ok v) → answer ≡ Ok v.items
answer_is (Ok octets) v is = ap Ok (sym is)
answer_is (Err why) v is = absurd is

-- These were made.
pub does_made : (s : State) (turn : Turn) (answer : Result (List ℕ) Reason) (v : Vec ℕ Global) (result : Result Told Stop) (before after : List ℕ) (d : code.Conference)
    → turn ≡ turn_of s answer → Makes answer (Ok v) → Does (made s v.items) result before after d → Does turn result before after d
does_made s turn answer v result before after d is makes does =
    subst (λ (t : Turn). Does t result before after d) (sym (is ∙ ap (turn_of s) (answer_is answer v makes))) does

-- ---- datagrams

nothing_at : (s : State) (number : ℕ) (goes : Datagram → Turn) → datagram_at s.datagrams number ≡ None → at_datagram s number goes ≡ Refused reason.Datagram
nothing_at s number goes none = rw none refl

something_at : (s : State) (number : ℕ) (goes : Datagram → Turn) (d : Datagram) → datagram_at s.datagrams number ≡ Some d → at_datagram s number goes ≡ goes d
something_at s number goes d found = rw found refl

-- a number, from 1, and its place
at_number : (datagrams : List Datagram) (number place : ℕ) → number ≡ place + 1 → datagram_at datagrams number ≡ slice_get datagrams place
at_number datagrams number place is =
    let above : 0 < number = omega arith in
    let before : number - 1 ≡ place = omega arith in
    datagram_place datagrams number above ∙ ap (slice_get datagrams) before

pub datagram_here : (c : code.Conference) (s : State) (number place : ℕ) (a : code_datagram.Datagram) → Mirrors c s → number ≡ place + 1
    → slice_get c.datagrams.items place ≡ Some a → IsDatagramOf s number a.octets.items
datagram_here c s number place a mirrors is at =
    let there = at_within s.datagrams place (omega (arith, slice_get_within c.datagrams.items place a at, mirrors.datagrams.count)) in
    let it = mirrors.datagrams.each place a there.0 at there.1 in
    let few = it.few in
    record { datagram = there.0; there = at_number s.datagrams number place is ∙ there.1; octets_are = it.octets; few = omega (arith, few, ap length it.octets) }

none_at : {C D : Type 0} (cs : List C) (ds : List D) (place : ℕ) → length cs ≡ length ds → slice_get cs place ≡ None → slice_get ds place ≡ None
none_at cs ds place count none =
    elim ((slice_get_cases cs place).1) [
      | inl here ↦ absurd (let e = here.2 in cc)
      | inr past ↦ slice_get_past ds place (omega (arith, past.0, count))
    ]

pub datagram_nowhere : (c : code.Conference) (s : State) (number place : ℕ) → Mirrors c s → number ≡ place + 1 → slice_get c.datagrams.items place ≡ None
    → datagram_at s.datagrams number ≡ None
datagram_nowhere c s number place mirrors is none =
    at_number s.datagrams number place is ∙ none_at c.datagrams.items s.datagrams place mirrors.datagrams.count none

pub no_number : (s : State) (number : ℕ) → number ≡ 0 → datagram_at s.datagrams number ≡ None
no_number s number is = ap (datagram_at s.datagrams) is

-- ---- inject

pub inject_is : (s : State) (octets : List ℕ) → inject_turn s octets ≡ made s octets
unfolding inject_turn
inject_is s octets = refl

-- ---- alter

pub alter_nothing : (s : State) (number offset : ℕ) (new : List ℕ) → datagram_at s.datagrams number ≡ None → alter_turn s number offset new ≡ Refused reason.Datagram
unfolding alter_turn
alter_nothing s number offset new none = nothing_at s number (alter_datagram s offset new) none

alteration_is : (s : State) (octets : List ℕ) (b : Bool) → cond b (Refused reason.Datagram) (made s octets) ≡ turn_of s (cond b (Err reason.Datagram) (Ok octets))
alteration_is s octets true = refl
alteration_is s octets false = refl

pub alter_is : (s : State) (number offset : ℕ) (octets new : List ℕ) → (it : IsDatagramOf s number octets) → alter_turn s number offset new ≡ turn_of s (alteration octets offset new)
unfolding alter_turn
alter_is s number offset octets new it =
    let d = it.datagram in
    something_at s number (alter_datagram s offset new) d it.there
    ∙ alteration_is s (altered d.octets offset new) (nat_lt (length d.octets) (offset + length new))
    ∙ ap (λ (l : List ℕ). turn_of s (alteration l offset new)) (sym it.octets_are)

altered_length : (octets new : List ℕ) (offset : ℕ) → offset + length new ≤ length octets → length (altered octets offset new) ≡ length octets
altered_length octets new offset within =
    let front = take offset octets in
    let back = drop (offset + length new) octets in
    omega (arith, length-append (front ++ new) back, length-append front new, length-take offset octets, length-drop (offset + length new) octets)

altered_few : (octets new : List ℕ) (offset : ℕ) (b : Bool) (made_of : List ℕ) → nat_lt (length octets) (offset + length new) ≡ b → length octets ≤ 1500
    → cond b (Err reason.Datagram) (Ok (altered octets offset new)) ≡ Ok made_of → length made_of ≤ 1500
altered_few octets new offset true made_of test few is = absurd (cc)
altered_few octets new offset false made_of test few is =
    let within : offset + length new ≤ length octets = grind (arith, nat_tests) in
    let same : altered octets offset new ≡ made_of = cc in
    omega (arith, few, altered_length octets new offset within, ap length same)

pub alteration_few : (octets new : List ℕ) (offset : ℕ) (v : Vec ℕ Global) → length octets ≤ 1500 → Makes (alteration octets offset new) (Ok v) → length v.items ≤ 1500
alteration_few octets new offset v few makes =
    altered_few octets new offset (nat_lt (length octets) (offset + length new)) v.items refl few (answer_is (alteration octets offset new) v makes)

-- ---- graft

pub graft_first : (s : State) (first front second back : ℕ) → datagram_at s.datagrams first ≡ None → graft_turn s first front second back ≡ Refused reason.Datagram
unfolding graft_turn
graft_first s first front second back none = nothing_at s first (λ a. at_datagram s second (λ b. graft_datagrams s front back a b)) none

pub graft_second : (s : State) (first front second back : ℕ) (octets : List ℕ) → IsDatagramOf s first octets → datagram_at s.datagrams second ≡ None
    → graft_turn s first front second back ≡ Refused reason.Datagram
unfolding graft_turn
graft_second s first front second back octets it none =
    something_at s first (λ a. at_datagram s second (λ b. graft_datagrams s front back a b)) it.datagram it.there
    ∙ nothing_at s second (λ b. graft_datagrams s front back it.datagram b) none

grafted_length : (first second : List ℕ) (front back : ℕ) → front ≤ length first → back ≤ length second → length (grafted first front second back) ≡ front + back
grafted_length first second front back a b =
    let behind = drop (length second - back) second in
    omega (arith, length-append (take front first) behind, length-take front first, length-drop (length second - back) second)

within : (first second : List ℕ) (front back : ℕ) → no_graft first front second back ≡ false → (front ≤ length first) × (back ≤ length second)
within first second front back none = parts (nat_lt (length first) front) (nat_lt (length second) back) (front + back == 0) refl refl none
  where
    parts : (x y z : Bool) → nat_lt (length first) front ≡ x → nat_lt (length second) back ≡ y → (x || y || z) ≡ false → (front ≤ length first) × (back ≤ length second)
    parts true y z e f h = absurd (cc)
    parts false true z e f h = absurd (cc)
    parts false false z e f h = ((grind (arith, nat_tests)), (grind (arith, nat_tests)))

-- octets that are too many aren't made
made_few : (s : State) (first second : List ℕ) (front back : ℕ) (long : Bool) → nat_lt 1500 (front + back) ≡ long → no_graft first front second back ≡ false
    → made s (grafted first front second back) ≡ turn_of s (cond long (Err reason.Limit) (Ok (grafted first front second back)))
made_few s first second front back true test none =
    let w = within first second front back none in
    let octets = grafted first front second back in
    let above : 1500 < front + back = grind (arith, nat_tests) in
    let size = grafted_length first second front back w.0 w.1 in
    added_long s (WireMade (length s.datagrams + 1) octets) (record { octets = octets; unsealed = None }) (omega (arith, above, size))
made_few s first second front back false test none = refl

graft_of : (s : State) (first second : List ℕ) (front back : ℕ) (none : Bool) → no_graft first front second back ≡ none
    → cond none (Refused reason.Datagram) (made s (grafted first front second back))
    ≡ turn_of s (cond none (Err reason.Datagram) (cond (nat_lt 1500 (front + back)) (Err reason.Limit) (Ok (grafted first front second back))))
graft_of s first second front back true is = refl
graft_of s first second front back false is = made_few s first second front back (nat_lt 1500 (front + back)) refl is

pub graft_is : (s : State) (first front second back : ℕ) (xs ys : List ℕ) → IsDatagramOf s first xs → IsDatagramOf s second ys
    → graft_turn s first front second back ≡ turn_of s (graft xs front ys back)
unfolding graft_turn
graft_is s first front second back xs ys one other =
    let a = one.datagram in
    let b = other.datagram in
    something_at s first (λ x. at_datagram s second (λ y. graft_datagrams s front back x y)) a one.there
    ∙ something_at s second (λ y. graft_datagrams s front back a y) b other.there
    ∙ graft_of s a.octets b.octets front back (no_graft a.octets front b.octets back) refl
    ∙ ap (λ (l : List ℕ). turn_of s (graft l front b.octets back)) (sym one.octets_are)
    ∙ ap (λ (l : List ℕ). turn_of s (graft xs front l back)) (sym other.octets_are)

grafted_few : (first second : List ℕ) (front back : ℕ) (none long : Bool) (made_of : List ℕ) → no_graft first front second back ≡ none → nat_lt 1500 (front + back) ≡ long
    → cond none (Err reason.Datagram) (cond long (Err reason.Limit) (Ok (grafted first front second back))) ≡ Ok made_of → length made_of ≤ 1500
grafted_few first second front back true long made_of e f is = absurd (cc)
grafted_few first second front back false true made_of e f is = absurd (cc)
grafted_few first second front back false false made_of e f is =
    let w = within first second front back e in
    let few : front + back ≤ 1500 = grind (arith, nat_tests) in
    let same : grafted first front second back ≡ made_of = cc in
    omega (arith, few, grafted_length first second front back w.0 w.1, ap length same)

pub graft_few : (first second : List ℕ) (front back : ℕ) (v : Vec ℕ Global) → Makes (graft first front second back) (Ok v) → length v.items ≤ 1500
graft_few first second front back v makes =
    grafted_few first second front back (no_graft first front second back) (nat_lt 1500 (front + back)) v.items refl refl (answer_is (graft first front second back) v makes)
