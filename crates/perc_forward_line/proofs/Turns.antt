-- What a line does, by what was found.
use Rattle.std.proofs.Common.{◌≡◌, ℕ, suc, ◌+◌, ◌*◌, ◌≤◌, ◌<◌, Bool, true, false, cond, not, List, [], ◌∷◌, length, map, get_or, slice_get, Option, Some, None, Result, Ok, Err, ◌⊎◌, inl, inr, refl, sym, ap, subst, ◌∙◌, arith}
use Rattle.std.specs.Prelude.{◌&&◌, count_by, filter_map, find, nat_lt}
use Rattle.std.specs.Global.{Vec}
use Rattle.std.specs.List.{cons_option, list_all}
use Rattle.std.specs.Str.{bytes_eq}
use Rattle.std.specs.Option.{is_some, option_map, option_map_or}
use Rattle.std.proofs.lemmas.Bool.Decides.{nat_tests}
use Rattle.std.proofs.lemmas.Option.{same_Some, slice_get_read, slice_get_within}
use Rattle.std.proofs.lemmas.Slice.Eq.{bytes_eq-Decides}
use Rattle.perc_ohb.specs.Rewriting.{IsRewrite, Rewrite}
use Rattle.perc_conference_state.specs.Mirror.{Does, Mirrors}
use Rattle.perc_conference_state.specs.declared.conference.Conference as code
use Rattle.perc_conference_state.specs.declared.conference.Stop.{Stop}
use Rattle.perc_conference_state.specs.declared.conference.Stop.TheVariants as stop
use Rattle.perc_conference_state.specs.declared.conference.Told.{Told}
use Rattle.perc_distributor.specs.Forwarding.{Sent, Sealing}
use Rattle.perc_distributor.specs.Inbound.{Heard, taken}
use Rattle.perc_distributor.specs.Kept.{sent_of}
use Rattle.perc_forwarder.specs.Mirror.{HasTakings, MirrorsTakings, step_of}
use Rattle.perc_keyset.specs.declared.Entry.{Entry}
use Rattle.perc_member.specs.declared.member.Member as code_member
use Rattle.perc_report_line.specs.Report.{Report}
use Rattle.perc_run.specs.Forwarding.{Taking, are_present, associations_of, count_recipients, forward_by, forward_turn, forwarded, numbered, packet_in, reported_takings, rewrite_by, takings}
use Rattle.perc_run.specs.Sound.{IsOrderly}
use Rattle.perc_run.specs.State.{Datagram, Goes, Halts, Member, Refused, State, Turn, datagram_at, is_present, member_named, most_datagrams}
use Rattle.perc_script_line.specs.Script.{Changes}
use Rattle.perc_script_line.specs.declared.reason.Reason.{Reason}
use Rattle.perc_script_line.specs.declared.reason.Reason.TheVariants as reason
use Rattle.perc_word.specs.declared.name.Name as word
use Rattle.perc_forward_line.specs.Telling.{AreNumbers, AreOutputs, AreRecipients, AreThere, IsSealed, SealsAll, TakesAll, TellsAll, are_there, is_named_in}
use Rattle.perc_forward_line.proofs.Choosing.{count_same}
use Rattle.perc_forward_line.proofs.Making.{outputs_right}

-- ---- refused

pub does_err : (t : Turn) (result : Result Told Stop) (e f : Stop) (r : Reason) (before after : List ℕ) (c : code.Conference)
    → result ≡ Err e → e ≡ f → (f ≡ stop.Memory) ⊎ ((f ≡ stop.Refused r) × (t ≡ Refused r))
    → Does t result before after c
does_err t result e f r before after c is same (inl memory) =
    subst (λ (x : Result Told Stop). Does t x before after c) (sym (is ∙ ap (λ (x : Stop). Err x) (same ∙ memory))) (nothing t)
  where
    nothing : (u : Turn) → Does u (Err stop.Memory) before after c
    nothing (Goes lines next) = tt
    nothing (Refused why) = tt
    nothing (Halts name) = tt
does_err t result e f r before after c is same (inr h) =
    subst (λ (x : Result Told Stop). Does t x before after c) (sym (is ∙ ap (λ (x : Stop). Err x) (same ∙ h.0)))
    (subst (λ (u : Turn). Does u (Err (stop.Refused r)) before after c) (sym h.1) refl)

module _ (s : State) (name numbers : List ℕ) (changes : Changes) (to : Option (List (List ℕ))) where
  pub turn_unnamed : member_named name s ≡ None → forward_turn s name numbers changes to ≡ Refused reason.Name
  unfolding forward_turn
  turn_unnamed none = ap (λ (o : Option Member). option_map_or (λ m. forward_by s m numbers (rewrite_by changes) to) o (Refused reason.Name)) none

  turn_named : (m : Member) → member_named name s ≡ Some m → forward_turn s name numbers changes to ≡ forward_by s m numbers (rewrite_by changes) to
  unfolding forward_turn
  turn_named m some = ap (λ (o : Option Member). option_map_or (λ m. forward_by s m numbers (rewrite_by changes) to) o (Refused reason.Name)) some

  pub turn_absent : (m : Member) → member_named name s ≡ Some m → option_map_or (are_present s) to true ≡ false → forward_turn s name numbers changes to ≡ Refused reason.Name
  turn_absent m some absent = turn_named m some ∙ rw absent refl

  pub turn_missing : (m : Member) → member_named name s ≡ Some m → option_map_or (are_present s) to true ≡ true → are_there s numbers ≡ false → forward_turn s name numbers changes to ≡ Refused reason.Datagram
  turn_missing m some present missing = turn_named m some ∙ rw (present, missing) refl

  pub turn_limit : (m : Member) → member_named name s ≡ Some m → option_map_or (are_present s) to true ≡ true → AreThere s numbers
      → most_datagrams < length s.datagrams + length numbers * count_recipients s m to → forward_turn s name numbers changes to ≡ Refused reason.Limit
  turn_limit m some present there over =
      let test : nat_lt most_datagrams (length s.datagrams + length numbers * count_recipients s m to) ≡ true = above (length s.datagrams + length numbers * count_recipients s m to) over in
      turn_named m some ∙ rw (present, there, test) refl
    where
      above : (n : ℕ) → most_datagrams < n → nat_lt most_datagrams n ≡ true
      above n h = grind (arith, nat_tests)

  pub turn_goes : (m : Member) → member_named name s ≡ Some m → option_map_or (are_present s) to true ≡ true → AreThere s numbers
      → length s.datagrams + length numbers * count_recipients s m to ≤ most_datagrams → forward_turn s name numbers changes to ≡ forwarded s m numbers (rewrite_by changes) to
  turn_goes m some present there within =
      let test : nat_lt most_datagrams (length s.datagrams + length numbers * count_recipients s m to) ≡ false = below (length s.datagrams + length numbers * count_recipients s m to) within in
      turn_named m some ∙ rw (present, there, test) refl
    where
      below : (n : ℕ) → n ≤ most_datagrams → nat_lt most_datagrams n ≡ false
      below n h = grind (arith, nat_tests)

-- ---- why recipients and numbers aren't found

pub names_err : (s : State) (names : Option (List (List ℕ))) (e : Stop) → AreRecipients s names (Err e)
    → (e ≡ stop.Memory) ⊎ ((e ≡ stop.Refused reason.Name) × (option_map_or (are_present s) names true ≡ false))
names_err s names stop.Memory h = inl refl
names_err s names (stop.Refused r) h = inr h
names_err s names (stop.Foreign n) h = inr h

pub numbers_err : (s : State) (list : List ℕ) (e : Stop) → AreNumbers s list (Err e) → (e ≡ stop.Memory) ⊎ ((e ≡ stop.Refused reason.Datagram) × (are_there s list ≡ false))
numbers_err s list stop.Memory h = inl refl
numbers_err s list (stop.Refused r) h = inr h
numbers_err s list (stop.Foreign n) h = inr h

-- ---- found

-- a member's association, in the code
pub from_is : (s : State) (c : code.Conference) (place : ℕ) (m : Member) (x : code_member.Member) → Mirrors c s
    → slice_get s.members place ≡ Some m → x ≡ get_or c.members.items place x → x.association ≡ m.association
from_is s c place m x mirrors at is =
    let within : place < length c.members.items = omega (arith, slice_get_within s.members place m at, mirrors.members.count) in
    (mirrors.members.each place x m (slice_get_read c.members.items (length c.members.items) place x refl within is) at).association

name_is : (s : State) (name : List ℕ) (m : Member) → member_named name s ≡ Some m → m.name ≡ name
name_is s name m found = at s.members found
  where
    holds : (x : Member) → is_present name x ≡ true → x.name ≡ name
    holds x h = sym ((bytes_eq-Decides name x.name).0 (second x.present (bytes_eq name x.name) h))
      where
        second : (a b : Bool) → (a && b) ≡ true → b ≡ true
        second true b e = e
        second false b e = absurd cc

    at : (xs : List Member) → find (is_present name) xs ≡ Some m → m.name ≡ name
    at [] e = absurd cc
    at (x ∷ xs) e = one (is_present name x) refl (at xs) e
      where
        one : (b : Bool) → is_present name x ≡ b → (find (is_present name) xs ≡ Some m → m.name ≡ name) → cond b (Some x) (find (is_present name) xs) ≡ Some m → m.name ≡ name
        one true h later f = ap (λ (y : Member). y.name) (sym (same_Some _ _ f)) ∙ holds x h
        one false h later f = later f

-- the numbers that the limit is tested with
pub limit_facts : (s : State) (c : code.Conference) (m : Member) (name : List ℕ) (to recipients : Option (List (List ℕ))) (numbers list : List ℕ) (members : List code_member.Member) (made listed count : ℕ)
    → Mirrors c s
    → member_named name s ≡ Some m → to ≡ recipients → numbers ≡ list → members ≡ c.members.items → made ≡ length c.datagrams.items → listed ≡ length numbers
    → count ≡ count_by (λ x. x.present && not (bytes_eq name x.name) && is_named_in to x) members
    → made + listed * count ≡ length s.datagrams + length list * count_recipients s m recipients
limit_facts s c m name to recipients numbers list members made listed count mirrors found to_is numbers_are members_are made_is listed_is count_is =
    let counted : count ≡ count_recipients s m recipients =
    count_is ∙ ap (λ (cs : List code_member.Member). count_by (λ x. x.present && not (bytes_eq name x.name) && is_named_in to x) cs) members_are
    ∙ ap (λ (o : Option (List (List ℕ))). count_by (λ x. x.present && not (bytes_eq name x.name) && is_named_in o x) c.members.items) to_is
    ∙ count_same c.members.items s m name recipients mirrors.members (name_is s name m found) in
    let a : made ≡ length s.datagrams = made_is ∙ mirrors.datagrams.count in
    let b : listed ≡ length list = listed_is ∙ ap (λ (xs : List ℕ). length xs) numbers_are in
    ap (λ (n : ℕ). n + listed * count) a ∙ ap (λ (n : ℕ). length s.datagrams + n * count) b ∙ ap (λ (n : ℕ). length s.datagrams + length list * n) counted

-- ---- done

-- what the distributor took, and what the state is then
abbrev pub taken_by : State → Member → List ℕ → List Taking
taken_by s m numbers = (takings s.set s.heard m.association (numbered s.datagrams numbers)).0

abbrev pub behind_by : State → Member → List ℕ → State
behind_by s m numbers = record s { heard = (takings s.set s.heard m.association (numbered s.datagrams numbers)).1 }

-- A list was taken from a member, and what opened was sealed.
pub record Forwards (s : State) (m : Member) (numbers : List ℕ) (change : Rewrite) (to : Option (List (List ℕ))) (mid end : code.Conference) : Type 0 where
  pub takes : TakesAll s m.association numbers mid
  pub seals : SealsAll (behind_by s m numbers) (taken_by s m numbers) change to end

pub forwards_from : (s : State) (m : Member) (from numbers list : List ℕ) (change : Rewrite) (to recipients : Option (List (List ℕ))) (mid end : code.Conference)
    → from ≡ m.association → numbers ≡ list → to ≡ recipients
    → TakesAll s from numbers mid → ((t : State) (taken : List Taking) → Mirrors mid t → MirrorsTakings mid.distributor taken → SealsAll t taken change to end) → Forwards s m list change recipients mid end
forwards_from s m from numbers list change to recipients mid end from_is numbers_are to_is takes seals =
    let t = subst (λ (xs : List ℕ). TakesAll s m.association xs mid) numbers_are (subst (λ (x : List ℕ). TakesAll s x numbers mid) from_is takes) in
    record {
      takes = t;
      seals = subst (λ (o : Option (List (List ℕ))). SealsAll (behind_by s m list) (taken_by s m list) change o end) to_is (seals (behind_by s m list) (taken_by s m list) t.mirrors t.taken.taken);
    }

takings_count : (set : List Entry) (heard : List Heard) (from : List ℕ) (xs : List (ℕ × Datagram)) → length (takings set heard from xs).0 ≡ length xs
takings_count set heard from [] = refl
takings_count set heard from (x ∷ xs) = ap suc (takings_count set (taken set heard from x.1.octets).1 from xs)

numbered_few : (datagrams : List Datagram) (numbers : List ℕ) → length (numbered datagrams numbers) ≤ length numbers
numbered_few datagrams [] = omega arith
numbered_few datagrams (n ∷ numbers) = one (datagram_at datagrams n) (numbered_few datagrams numbers)
  where
    one : (o : Option Datagram) → length (numbered datagrams numbers) ≤ length numbers
        → length (cons_option (option_map (λ d. (n, d)) o) (numbered datagrams numbers)) ≤ suc (length numbers)
    one (Some d) h = omega arith
    one None h = omega arith

pub taken_few : (s : State) (m : Member) (numbers : List ℕ) → length numbers ≤ 32 → length (taken_by s m numbers) ≤ 32
taken_few s m numbers few = omega (arith, takings_count s.set s.heard m.association (numbered s.datagrams numbers), numbered_few s.datagrams numbers)

pub has_takings : (s : State) (m : Member) (from numbers list : List ℕ) (mid : code.Conference) → from ≡ m.association → numbers ≡ list
    → length list ≤ 32 → TakesAll s from numbers mid → HasTakings mid.distributor
has_takings s m from numbers list mid from_is numbers_are few takes =
    let t = subst (λ (xs : List ℕ). TakesAll s m.association xs mid) numbers_are (subst (λ (x : List ℕ). TakesAll s x numbers mid) from_is takes) in
    record { taken = taken_by s m list; mirrors = t.taken.taken; few = taken_few s m list few }

-- what the one worker seals of it, and what it keeps then
abbrev pub step_by : State → Member → List ℕ → Rewrite → Option (List (List ℕ)) → List Sent × List Sealing
step_by s m numbers change to = step_of (behind_by s m numbers) (taken_by s m numbers) change (option_map (associations_of s) to)

abbrev pub sealed_by : State → Member → List ℕ → Rewrite → Option (List (List ℕ)) → State
sealed_by s m numbers change to = record (behind_by s m numbers) { sealing = (step_by s m numbers change to).1 }

pub is_sealed : (s : State) (m : Member) (numbers : List ℕ) (change : Rewrite) (to : Option (List (List ℕ))) (mid end : code.Conference)
    → IsOrderly s → IsRewrite change → length numbers ≤ 32 → Forwards s m numbers change to mid end
    → IsSealed (sealed_by s m numbers change to) (taken_by s m numbers) change end
is_sealed s m numbers change to mid end orderly may few h =
    let right = outputs_right s.members s.set mid.distributor.batch.items (taken_by s m numbers) change (option_map (associations_of s) to) s.sealing may orderly.entries orderly.few_members (taken_few s m numbers few) h.takes.taken.taken.batch in
    record {
      mirrors = h.seals.mirrors;
      takings_are = h.seals.seals.takings_stay;
      right = subst (λ (sent : List Sent). AreOutputs s.members (taken_by s m numbers) change sent) (sym h.seals.seals.outputs) right;
      few = orderly.few_datagrams;
    }

pub does_goes : (s : State) (m : Member) (numbers : List ℕ) (change : Rewrite) (to : Option (List (List ℕ))) (t : Turn) (end new : code.Conference) (result : Result Told Stop) (before after : List ℕ)
    → map sent_of end.distributor.outputs ≡ (step_by s m numbers change to).0 → t ≡ forwarded s m numbers change to
    → TellsAll (sealed_by s m numbers change to) (taken_by s m numbers) change end result before after new → Does t result before after new
does_goes s m numbers change to t end new (Err e) before after outputs is h = does_err t (Err e) e e reason.Name before after new refl refl (inl h)
does_goes s m numbers change to t end new (Ok told) before after outputs is h =
    subst (λ (u : Turn). Does u (Ok told) before after new) (sym is)
    (subst (λ (sent : List Sent). let step = reported_takings s.members change sent 0 s.datagrams (taken_by s m numbers) in
    Does (Goes step.0 (record (sealed_by s m numbers change to) { datagrams = step.1 })) (Ok told) before after new) outputs h)
