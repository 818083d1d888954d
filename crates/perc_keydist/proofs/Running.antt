-- Runs one after another: over messages, and over more behind them.
use Rattle.std.specs.List.{flat_map}
use Rattle.std.specs.Prelude.{Option, Some, None, Result, Ok, Err}
use Rattle.std.proofs.Common.{◌≡◌, ℕ, ◌+◌, ◌≤◌, Bool, true, false, cond, eqb, List, [], ◌∷◌, ◌++◌, length, map, take, drop, refl, sym, ap, subst, ◌∙◌, append-nil, append_assoc, add-zero, add_assoc, arith}
use Rattle.std.specs.Int.{from_bool}
use Rattle.std.proofs.lemmas.List.{length-append, take-append-drop}
use Rattle.std.proofs.lemmas.List.Elements.{All-append, All-nil}
use Rattle.std.proofs.lemmas.Grind.{flat_map-append}
use Rattle.perc_base.specs.declared.profile.Profile.{Profile}
use Rattle.perc_tunnel.specs.Decoding.{Decoding, fed, taken}
use Rattle.perc_tunnel.specs.Message.{TunnelMessage, SupportedProfiles, UnsupportedVersion, MediaKeys, TunneledDtls, EndpointDisconnect, IsMessage, spelling}
use Rattle.perc_keeper.specs.Lists.{Lists, is_member, without_member}
use Rattle.perc_keydist.specs.declared.desk.Desk.{Desk}
use Rattle.perc_keydist.specs.declared.fault.KdFault.{KdFault}
use Rattle.perc_keydist.specs.Answers.{Answers}
use Rattle.perc_keydist.specs.Desks.{IsDone, accepted_at, count_of, state_at}
use Rattle.perc_keydist.specs.Distributing as spec
use Rattle.perc_keydist.specs.Distributing.{Event, Heard, Fault, Part, Replying, State, Turn, before, hear, run_of, step}
use Rattle.perc_keydist.proofs.Stopping.{stops_on}
use Rattle.perc_keydist.specs.Feeding.{Carries, Feeds, IsEnded, Reads, itself}

-- ---- a turn keeps the profile

replies_profile : (s : State) (part : Replying) → (spec.turn_of s part).state.profile ≡ s.profile
replies_profile s part = by_answer part.answer where
  by_answer : (answer : Result (List TunnelMessage) Fault) → (spec.turn_of s (record { answer = answer; lists = part.lists; randoms = part.randoms })).state.profile ≡ s.profile
  by_answer (Ok replies) = refl
  by_answer (Err fault) = refl

hear_profile : (a : Answers) (s : State) (randoms : List ℕ) (m : TunnelMessage) (o : Option (List ℕ)) → (hear a s randoms m o).state.profile ≡ s.profile
hear_profile a s randoms (SupportedProfiles version profiles) None = by_test (eqb version 0) where
  by_test : (b : Bool)
      → (cond b (spec.quiet (record s { accepted = Some profiles }) randoms) (record { replies = UnsupportedVersion 0 ∷ []; state = s; randoms = randoms; fault = None })).state.profile
      ≡ s.profile
  by_test true = refl
  by_test false = refl
hear_profile a s randoms (SupportedProfiles version profiles) (Some accepted) = refl
hear_profile a s randoms (UnsupportedVersion highest) o = refl
hear_profile a s randoms (MediaKeys association profile client server) o = refl
hear_profile a s randoms (TunneledDtls association octets) None = refl
hear_profile a s randoms (TunneledDtls association octets) (Some accepted) =
    replies_profile s (spec.record_heard a s.profile accepted association s.lists randoms (a.taken octets))
hear_profile a s randoms (EndpointDisconnect association) None = refl
hear_profile a s randoms (EndpointDisconnect association) (Some accepted) = by_test (is_member s.lists.members association) where
  by_test : (b : Bool)
      → (cond b (spec.quiet (record s { lists = without_member association s.lists; left = s.left + 1 }) randoms) (spec.quiet s randoms)).state.profile ≡ s.profile
  by_test true = refl
  by_test false = refl

step_profile : (a : Answers) (s : State) (m : TunnelMessage) (randoms : List ℕ) → (step a s (Heard m) randoms).state.profile ≡ s.profile
unfolding step
step_profile a s m randoms = hear_profile a s randoms m s.accepted

before_profile : (p : Profile) (t later : Turn) (o : Option Fault) → t.state.profile ≡ p → later.state.profile ≡ p → (before t o later).state.profile ≡ p
before_profile p t later (Some fault) is then = is
before_profile p t later None is then = then

pub run_profile : (a : Answers) (s : State) (messages : List TunnelMessage) (randoms : List ℕ) → (run_of a s (map Heard messages) randoms).state.profile ≡ s.profile
run_profile a s [] randoms = refl
run_profile a s (m ∷ messages) randoms =
    let t = step a s (Heard m) randoms in
    let is = step_profile a s m randoms in
    before_profile s.profile t (run_of a t.state (map Heard messages) t.randoms) t.fault is (run_profile a t.state messages t.randoms ∙ is)

-- ---- one run behind another

-- a turn with the replies of an earlier one in front
abbrev pub joined : Turn → Turn → Turn
joined t later = record later { replies = t.replies ++ later.replies }

-- messages are heard behind a turn
abbrev pub behind : Answers → List TunnelMessage → Turn → Turn
behind a more t = run_of a t.state (map Heard more) t.randoms

both_case : (a : Answers) (more : List TunnelMessage) (t later both : Turn) (o : Option Fault) → t.fault ≡ o → (before t o later).fault ≡ None
    → (later.fault ≡ None → both ≡ joined later (behind a more later)) → before t o both ≡ joined (before t o later) (behind a more (before t o later))
both_case a more t later both (Some fault) is none rest = absurd (let never = sym is ∙ none in cc)
both_case a more t later both None is none rest =
    ap (λ (u : Turn). joined t u) (rest none)
    ∙ ap (λ (replies : List TunnelMessage). record (behind a more later) { replies = replies }) (sym (append_assoc t.replies later.replies (behind a more later).replies))

pub run_both : (a : Answers) (s : State) (messages more : List TunnelMessage) (randoms : List ℕ) → (run_of a s (map Heard messages) randoms).fault ≡ None
    → run_of a s (map Heard (messages ++ more)) randoms
    ≡ joined (run_of a s (map Heard messages) randoms) (behind a more (run_of a s (map Heard messages) randoms))
run_both a s [] more randoms none = refl
run_both a s (m ∷ messages) more randoms none =
    let t = step a s (Heard m) randoms in
    both_case a more t (run_of a t.state (map Heard messages) t.randoms) (run_of a t.state (map Heard (messages ++ more)) t.randoms) t.fault refl none
    (run_both a t.state messages more t.randoms)

pub both_replied : (front back : List TunnelMessage) (out between after : List ℕ) → between ≡ out ++ flat_map spelling front → after ≡ between ++ flat_map spelling back
    → after ≡ out ++ flat_map spelling (front ++ back)
both_replied front back out between after first second =
    second ∙ ap (λ (xs : List ℕ). xs ++ flat_map spelling back) first ∙ append_assoc out (flat_map spelling front) (flat_map spelling back)
    ∙ ap (λ (xs : List ℕ). out ++ xs) (sym (flat_map-append spelling front back))

-- ---- what is read, and more behind it

pub reads_on : (octets held more left rest : List ℕ) (start between offset : ℕ) (messages later : List TunnelMessage) → Reads octets start messages left between → left ≡ held ++ more
    → Reads held between later rest offset → Reads octets start (messages ++ later) (rest ++ more) offset
reads_on octets held more left rest start between offset messages later first is second =
    let front : List ℕ = flat_map spelling messages in
    let back : List ℕ = flat_map spelling later in
    let both : flat_map spelling (messages ++ later) ≡ front ++ back = flat_map-append spelling messages later in
    record {
      each = All-append IsMessage messages later first.each second.each;
      spelled = first.spelled ∙ ap (λ (xs : List ℕ). front ++ xs) (is ∙ ap (λ (xs : List ℕ). xs ++ more) second.spelled ∙ append_assoc back rest more)
          ∙ sym (append_assoc front back (rest ++ more)) ∙ ap (λ (xs : List ℕ). xs ++ (rest ++ more)) (sym both);
      offset_is = second.offset_is ∙ ap (λ (k : ℕ). k + length back) first.offset_is ∙ add_assoc start (length front) (length back)
          ∙ ap (λ (k : ℕ). start + k) (sym (length-append front back) ∙ ap length (sym both));
    }

-- ---- a run that goes on

module _ (old between : Desk) (messages : List TunnelMessage) (n : ℕ) (answers told : Option Answers) (lists kept : Option Lists) (randoms rest : Option (List ℕ)) (out written : List ℕ)
    (first : Carries itself old between messages (Ok n) answers lists kept randoms rest out written)
    (same : told ≡ answers) (profile : between.profile ≡ old.profile) where
  module _ (a : Answers) (l : Lists) (drawn : List ℕ) (left : ℕ) (tells : answers ≡ Some a) (has : lists ≡ Some l) (draws : randoms ≡ Some drawn) where
    abbrev ran : Turn
    ran = run_of a (state_at old l left) (map Heard messages) drawn

    done : IsDone ran out written (accepted_at between) kept rest (left + n)
    done = first a l drawn left tells has draws

    goes_on : state_at between ran.state.lists (left + n) ≡ ran.state
    goes_on = λ i. record {
      profile = (profile ∙ sym (run_profile a (state_at old l left) messages drawn)) i;
      accepted = done.accepts i;
      lists = ran.state.lists;
      left = done.leaves i;
    }

    module _ (more : List TunnelMessage) where
      abbrev later : Turn
      later = run_of a ran.state (map Heard more) ran.randoms

      is_joined : run_of a (state_at old l left) (map Heard (messages ++ more)) drawn ≡ joined ran later
      is_joined = run_both a (state_at old l left) messages more drawn done.no_fault

      done_on : (after : List ℕ) (accepted : Option (List ℕ)) (now : Option Lists) (behind : Option (List ℕ)) (m : ℕ)
          → IsDone (run_of a (state_at between ran.state.lists (left + n)) (map Heard more) ran.randoms) written after accepted now behind m
          → IsDone (run_of a (state_at old l left) (map Heard (messages ++ more)) drawn) out after accepted now behind m
      done_on after accepted now behind m h =
          let g : IsDone later written after accepted now behind m =
          subst (λ (s : State). IsDone (run_of a s (map Heard more) ran.randoms) written after accepted now behind m) goes_on h in
          subst (λ (t : Turn). IsDone t out after accepted now behind m) (sym is_joined)
          (record { no_fault = g.no_fault; replied = both_replied ran.replies later.replies out written after done.replied g.replied; accepts = g.accepts; keeps = g.keeps; draws = g.draws; leaves = g.leaves })

      ended_on : (e : KdFault) (after : List ℕ) (now : Option Lists) (behind : Option (List ℕ))
          → IsEnded (run_of a (state_at between ran.state.lists (left + n)) (map Heard more) ran.randoms) e written after now behind
          → IsEnded (run_of a (state_at old l left) (map Heard (messages ++ more)) drawn) e out after now behind
      ended_on e after now behind h =
          let g : IsEnded later e written after now behind = subst (λ (s : State). IsEnded (run_of a s (map Heard more) ran.randoms) e written after now behind) goes_on h in
          subst (λ (t : Turn). IsEnded t e out after now behind) (sym is_joined)
          (record { replied = both_replied ran.replies later.replies out written after done.replied g.replied; brought = g.brought; stands = g.stands })

  pub carries_on : {X : Type 0} (count : X → ℕ) (new : Desk) (more : List TunnelMessage) (x : X) (total : ℕ) (now : Option Lists) (behind : Option (List ℕ)) (after : List ℕ)
      → n + count x ≡ total → Carries count between new more (Ok x) told kept now rest behind written after
      → Carries itself old new (messages ++ more) (Ok total) answers lists now randoms behind out after
  carries_on count new more x total now behind after sum second = λ a l drawn left tells has draws.
      let d = done a l drawn left tells has draws in
      let t = ran a l drawn left tells has draws in
      subst (λ (k : ℕ). IsDone (run_of a (state_at old l left) (map Heard (messages ++ more)) drawn) out after (accepted_at new) now behind k)
      (add_assoc left n (count x) ∙ ap (λ (k : ℕ). left + k) sum)
      (done_on a l drawn left tells has draws more after (accepted_at new) now behind (left + n + count x)
      (second a t.state.lists t.randoms (left + n) (same ∙ tells) d.keeps d.draws))

  pub ends_on : {X : Type 0} (count : X → ℕ) (new : Desk) (more : List TunnelMessage) (e : KdFault) (now : Option Lists) (behind : Option (List ℕ)) (after : List ℕ)
      → Carries count between new more (Err e) told kept now rest behind written after
      → Carries itself old new (messages ++ more) (Err e) answers lists now randoms behind out after
  ends_on count new more e now behind after second = λ a l drawn left tells has draws.
      let d = done a l drawn left tells has draws in
      let t = ran a l drawn left tells has draws in
      ended_on a l drawn left tells has draws more e after now behind (second a t.state.lists t.randoms (left + n) (same ∙ tells) d.keeps d.draws)

pub counts : (b : Bool) → count_of b ≡ from_bool b
counts true = refl
counts false = refl

pub at_most_one : (b : Bool) → from_bool b ≤ 1
at_most_one true = omega arith
at_most_one false = omega arith

-- ---- the messages that are held, one after another

module _ (octets : List ℕ) (start : ℕ) (between now : Decoding) (old desk new : Desk) (n : ℕ) (answers told : Option Answers) (lists kept later : Option Lists)
    (randoms rest behind : Option (List ℕ)) (out written after : List ℕ)
    (first : Feeds itself octets start between old desk (Ok n) answers lists kept randoms rest out written)
    (same : told ≡ answers) (profile : desk.profile ≡ old.profile) where
  reads_held : (more : List TunnelMessage) (left : List ℕ) (offset : ℕ) → Reads between.held between.given more left offset → Reads octets start (first.0 ++ more) left offset
  reads_held more left offset second =
      subst (λ (xs : List ℕ). Reads octets start (first.0 ++ more) xs offset) (append-nil left)
      (reads_on octets between.held [] between.held left start between.given offset first.0 more first.1.0 (sym (append-nil between.held)) second)

  pub held_on : {X : Type 0} (count : X → ℕ) (x : X) (total : ℕ) → n + count x ≡ total
      → Feeds count between.held between.given now desk new (Ok x) told kept later rest behind written after
      → Feeds itself octets start now old new (Ok total) answers lists later randoms behind out after
  held_on count x total sum second = (
    first.0 ++ second.0,
    (reads_held second.0 now.held now.given second.1.0, second.1.1),
    carries_on old desk first.0 n answers told lists kept randoms rest out written first.2 same profile count new second.0 x total later behind after sum second.2,
  )

  pub held_ends : {X : Type 0} (count : X → ℕ) (e : KdFault) → Feeds count between.held between.given now desk new (Err e) told kept later rest behind written after
      → Feeds itself octets start now old new (Err e) answers lists later randoms behind out after
  held_ends count e second = (
    first.0 ++ second.0,
    (second.1.0, second.1.1, reads_held second.0 second.1.0 second.1.1 second.1.2, second.1.3),
    ends_on old desk first.0 n answers told lists kept randoms rest out written first.2 same profile count new second.0 e later behind after second.2,
  )

-- at first
pub held_first : (decoding : Decoding) (desk : Desk) (answers : Option Answers) (lists : Option Lists) (randoms : Option (List ℕ)) (out : List ℕ) → decoding.fault ≡ None
    → Feeds itself decoding.held decoding.given decoding desk desk (Ok 0) answers lists lists randoms randoms out out
held_first decoding desk answers lists randoms out ready = (
  [],
  (record { each = All-nil IsMessage; spelled = refl; offset_is = sym (add-zero decoding.given) }, ready),
  λ a l drawn left tells has draws. record { no_fault = refl; replied = sym (append-nil out); accepts = refl; keeps = has; draws = draws; leaves = add-zero left },
)

-- ---- the messages of octets that are fed piece after piece

-- Messages were read of the octets, behind which a decoder holds what is left but for these octets, and the run over them goes so.
abbrev pub GoesOn : List ℕ → ℕ → Decoding → List ℕ → Desk → Desk → ℕ → Option Answers → Option Lists → Option Lists → Option (List ℕ) → Option (List ℕ) → List ℕ → List ℕ → Type 0
GoesOn octets start decoding unfed old new n answers lists kept randoms rest out after =
    (messages : List TunnelMessage) × Reads octets start messages (decoding.held ++ unfed) decoding.given
    × Carries itself old new messages (Ok n) answers lists kept randoms rest out after

-- at first
pub goes_first : (decoding : Decoding) (unfed : List ℕ) (desk : Desk) (answers : Option Answers) (lists : Option Lists) (randoms : Option (List ℕ)) (out : List ℕ)
    → GoesOn (decoding.held ++ unfed) decoding.given decoding unfed desk desk 0 answers lists lists randoms randoms out out
goes_first decoding unfed desk answers lists randoms out = (
  [],
  record { each = All-nil IsMessage; spelled = refl; offset_is = sym (add-zero decoding.given) },
  λ a l drawn left tells has draws. record { no_fault = refl; replied = sym (append-nil out); accepts = refl; keeps = has; draws = draws; leaves = add-zero left },
)

module _ (octets : List ℕ) (start : ℕ) (old desk : Desk) (n : ℕ) (answers : Option Answers) (lists kept : Option Lists) (randoms rest : Option (List ℕ)) (out written : List ℕ) where
  -- octets are taken
  pub goes_fed : (d now : Decoding) (unfed left : List ℕ) → now ≡ fed d unfed → left ≡ drop (taken d (length unfed)) unfed
      → GoesOn octets start d unfed old desk n answers lists kept randoms rest out written → GoesOn octets start now left old desk n answers lists kept randoms rest out written
  goes_fed d now unfed left is was first =
      let k = taken d (length unfed) in
      let same : d.held ++ unfed ≡ (d.held ++ take k unfed) ++ left =
      ap (λ (xs : List ℕ). d.held ++ xs) (sym (take-append-drop k unfed)) ∙ sym (append_assoc d.held (take k unfed) (drop k unfed))
      ∙ ap (λ (xs : List ℕ). (d.held ++ take k unfed) ++ xs) (sym was) in (
        first.0,
        subst (λ (e : Decoding). Reads octets start first.0 (e.held ++ left) e.given) (sym is) (subst (λ (xs : List ℕ). Reads octets start first.0 xs d.given) same first.1),
        first.2,
      )

  module _ (between now : Decoding) (unfed : List ℕ) (new : Desk) (told : Option Answers) (later : Option Lists) (behind : Option (List ℕ)) (after : List ℕ)
      (first : GoesOn octets start between unfed old desk n answers lists kept randoms rest out written)
      (same : told ≡ answers) (profile : desk.profile ≡ old.profile) where
    pub goes_on_held : (x total : ℕ) → n + x ≡ total → Feeds itself between.held between.given now desk new (Ok x) told kept later rest behind written after
        → GoesOn octets start now unfed old new total answers lists later randoms behind out after
    goes_on_held x total sum second = (
      first.0 ++ second.0,
      reads_on octets between.held unfed (between.held ++ unfed) now.held start between.given now.given first.0 second.0 first.1 refl second.1.0,
      carries_on old desk first.0 n answers told lists kept randoms rest out written first.2 same profile itself new second.0 x total later behind after sum second.2,
    )

    pub goes_wrong : (e : KdFault) → Feeds itself between.held between.given now desk new (Err e) told kept later rest behind written after
        → Feeds itself octets start now old new (Err e) answers lists later randoms behind out after
    goes_wrong e second = (
      first.0 ++ second.0,
      (
        second.1.0 ++ unfed,
        second.1.1,
        reads_on octets between.held unfed (between.held ++ unfed) second.1.0 start between.given second.1.1 first.0 second.0 first.1 refl second.1.2,
        stops_on e second.1.0 unfed second.1.1 second.1.3,
      ),
      ends_on old desk first.0 n answers told lists kept randoms rest out written first.2 same profile itself new second.0 e later behind after second.2,
    )
