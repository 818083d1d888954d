-- Pieces of a stream, fed one after another.
use Rattle.std.specs.List.{flat_map}
use Rattle.std.specs.Prelude.{Option, Some, None, Result, Ok, Err}
use Rattle.std.proofs.Common.{◌≡◌, ℕ, ◌+◌, Bool, true, false, cond, eqb, List, [], ◌∷◌, ◌++◌, length, map, refl, sym, ap, subst, ◌∙◌, add-zero, append-nil, append_assoc, arith}
use Rattle.perc_tunnel.specs.Message.{TunnelMessage, SupportedProfiles, UnsupportedVersion, MediaKeys, TunneledDtls, EndpointDisconnect, spelling}
use Rattle.perc_tunnel.proofs.Streams.{one_stream}
use Rattle.perc_keeper.specs.Lists.{Lists, is_member, without_member}
use Rattle.perc_keydist.specs.declared.fault.KdFault.{KdFault}
use Rattle.perc_keydist.specs.declared.fault.KdFault.TheVariants as fault
use Rattle.perc_keydist.specs.Answers.{Answers}
use Rattle.perc_keydist.specs.Desks.{IsDone}
use Rattle.perc_keydist.specs.Distributing as spec
use Rattle.perc_keydist.specs.Distributing.{Heard, Fault, Replying, State, Turn, before, hear, run_of, step}
use Rattle.perc_keydist.specs.Feeding.{IsEnded, Reads}
use Rattle.perc_keydist.specs.KeyDistributor.{Begins, EndsAt, IsTaken, KeyDistributor, Replies, Takes, heard, state_of}
use Rattle.perc_keydist.specs.Pieces.{OneOutcome, TwoFeedsAreOne, added}
use Rattle.perc_keydist.proofs.Running.{both_replied, joined, reads_on, run_both, run_profile}

-- ---- how many left before changes nothing else

abbrev later_by : ℕ → State → State
later_by n s = record s { left = n + s.left }

abbrev turned_by : ℕ → Turn → Turn
turned_by n t = record t { state = later_by n t.state }

replies_by : (n : ℕ) (s : State) (part : Replying) → spec.turn_of (later_by n s) part ≡ turned_by n (spec.turn_of s part)
replies_by n s part = by_answer part.answer where
  by_answer : (answer : Result (List TunnelMessage) Fault)
      → spec.turn_of (later_by n s) (record { answer = answer; lists = part.lists; randoms = part.randoms })
      ≡ turned_by n (spec.turn_of s (record { answer = answer; lists = part.lists; randoms = part.randoms }))
  by_answer (Ok replies) = refl
  by_answer (Err fault) = refl

one_more : (n m : ℕ) → n + m + 1 ≡ n + (m + 1)
one_more n m = omega arith

hear_by : (a : Answers) (n : ℕ) (s : State) (randoms : List ℕ) (m : TunnelMessage) (o : Option (List ℕ)) → hear a (later_by n s) randoms m o ≡ turned_by n (hear a s randoms m o)
hear_by a n s randoms (SupportedProfiles version profiles) None = by_test (eqb version 0) where
  by_test : (b : Bool)
      → cond b (spec.quiet (record (later_by n s) { accepted = Some profiles }) randoms) (record { replies = UnsupportedVersion 0 ∷ []; state = later_by n s; randoms = randoms; fault = None })
      ≡ turned_by n (cond b (spec.quiet (record s { accepted = Some profiles }) randoms) (record { replies = UnsupportedVersion 0 ∷ []; state = s; randoms = randoms; fault = None }))
  by_test true = refl
  by_test false = refl
hear_by a n s randoms (SupportedProfiles version profiles) (Some accepted) = refl
hear_by a n s randoms (UnsupportedVersion highest) o = refl
hear_by a n s randoms (MediaKeys association profile client server) o = refl
hear_by a n s randoms (TunneledDtls association octets) None = refl
hear_by a n s randoms (TunneledDtls association octets) (Some accepted) =
    replies_by n s (spec.record_heard a s.profile accepted association s.lists randoms (a.taken octets))
hear_by a n s randoms (EndpointDisconnect association) None = refl
hear_by a n s randoms (EndpointDisconnect association) (Some accepted) = by_test (is_member s.lists.members association) where
  by_test : (b : Bool)
      → cond b (spec.quiet (record (later_by n s) { lists = without_member association s.lists; left = n + s.left + 1 }) randoms) (spec.quiet (later_by n s) randoms)
      ≡ turned_by n (cond b (spec.quiet (record s { lists = without_member association s.lists; left = s.left + 1 }) randoms) (spec.quiet s randoms))
  by_test true = ap (λ (k : ℕ). spec.quiet (record s { lists = without_member association s.lists; left = k }) randoms) (one_more n s.left)
  by_test false = refl

step_by : (a : Answers) (n : ℕ) (s : State) (m : TunnelMessage) (randoms : List ℕ) → step a (later_by n s) (Heard m) randoms ≡ turned_by n (step a s (Heard m) randoms)
unfolding step
step_by a n s m randoms = hear_by a n s randoms m s.accepted

before_by : (n : ℕ) (t later : Turn) (o : Option Fault) → before (turned_by n t) o (turned_by n later) ≡ turned_by n (before t o later)
before_by n t later (Some fault) = refl
before_by n t later None = refl

run_by : (a : Answers) (n : ℕ) (s : State) (messages : List TunnelMessage) (randoms : List ℕ)
    → run_of a (later_by n s) (map Heard messages) randoms ≡ turned_by n (run_of a s (map Heard messages) randoms)
run_by a n s [] randoms = refl
run_by a n s (m ∷ messages) randoms =
    let t = step a s (Heard m) randoms in
    ap (λ (u : Turn). before u u.fault (run_of a u.state (map Heard messages) u.randoms)) (step_by a n s m randoms)
    ∙ ap (λ (u : Turn). before (turned_by n t) t.fault u) (run_by a n t.state messages t.randoms)
    ∙ before_by n t (run_of a t.state (map Heard messages) t.randoms) t.fault

-- ---- two feeds

-- what was read of the stream, and what is read behind it
module _ (k between : KeyDistributor) (front back : List ℕ) (messages : List TunnelMessage) (taken : IsTaken k front messages between) where
  reads_first : Reads (k.decoding.held ++ (front ++ back)) k.decoding.given messages (between.decoding.held ++ back) between.decoding.given
  reads_first = record {
    each = taken.stream.each;
    spelled = sym (append_assoc k.decoding.held front back) ∙ ap (λ (xs : List ℕ). xs ++ back) taken.stream.octets
        ∙ append_assoc (flat_map spelling messages) between.decoding.held back;
    offset_is = taken.given;
  }

  reads_both : (more : List TunnelMessage) (rest : List ℕ) (offset : ℕ) → Reads (between.decoding.held ++ back) between.decoding.given more rest offset
      → Reads (k.decoding.held ++ (front ++ back)) k.decoding.given (messages ++ more) rest offset
  reads_both more rest offset second =
      subst (λ (xs : List ℕ). Reads (k.decoding.held ++ (front ++ back)) k.decoding.given (messages ++ more) xs offset) (append-nil rest)
      (reads_on (k.decoding.held ++ (front ++ back)) (between.decoding.held ++ back) [] (between.decoding.held ++ back) rest k.decoding.given between.decoding.given offset messages more reads_first
      (sym (append-nil (between.decoding.held ++ back))) second)

  taken_both : (more : List TunnelMessage) (now : KeyDistributor) → IsTaken between back more now → IsTaken k (front ++ back) (messages ++ more) now
  taken_both more now t =
      let r = reads_both more now.decoding.held now.decoding.given (record { each = t.stream.each; spelled = t.stream.octets; offset_is = t.given }) in
      record {
        no_fault = t.no_fault;
        stream = record { each = r.each; octets = r.spelled; part = t.stream.part };
        given = r.offset_is;
        decodes = t.decodes;
      }

  begins_both : (more : List TunnelMessage) → Begins between back more → Begins k (front ++ back) (messages ++ more)
  begins_both more b =
      let r = reads_both more b.rest (between.decoding.given + length (flat_map spelling more)) (record { each = b.each; spelled = b.spelled; offset_is = refl }) in
      record { each = r.each; rest = b.rest; spelled = r.spelled }

  ends_both : (more : List TunnelMessage) (e : KdFault) → EndsAt between back more e → EndsAt k (front ++ back) (messages ++ more) e
  ends_both more (fault.Tunnel f) w =
      let r = reads_both more w.rest f.offset (record { each = w.wrong.each; spelled = w.wrong.octets; offset_is = w.offset }) in
      record {
        rest = w.rest;
        wrong = record { each = r.each; octets = r.spelled; offset = refl; no_message = w.wrong.no_message; no_part = w.wrong.no_part };
        offset = r.offset_is;
        reason = w.reason;
      }
  ends_both more (fault.Order type) b = begins_both more b
  ends_both more fault.SpiSpent b = begins_both more b
  ends_both more fault.KeyRepeated b = begins_both more b
  ends_both more fault.Keeper b = begins_both more b
  ends_both more fault.Handshake b = begins_both more b
  ends_both more fault.Random b = begins_both more b
  ends_both more fault.Memory b = begins_both more b

  takes_both : (more : List TunnelMessage) (n : ℕ) (result : Result ℕ KdFault) (now : KeyDistributor) → Takes between back more result now
      → Takes k (front ++ back) (messages ++ more) (added n result) now
  takes_both more n (Ok left) now t = taken_both more now t
  takes_both more n (Err e) now (is, ends) = (is, ends_both more e ends)

-- the run over the messages of both
module _ (a : Answers) (k between : KeyDistributor) (l : Lists) (drawn : List ℕ) (messages more : List TunnelMessage) (out written : List ℕ) (kept : Option Lists) (rest : Option (List ℕ)) (n : ℕ)
    (profile : between.profile ≡ k.profile) (d : IsDone (heard a k l messages drawn) out written between.accepted kept rest n) where
  abbrev first : Turn
  first = heard a k l messages drawn

  abbrev second : Turn
  second = heard a between first.state.lists more first.randoms

  state_is : first.state ≡ later_by n (state_of between first.state.lists)
  state_is = λ i. record {
    profile = (run_profile a (state_of k l) messages drawn ∙ sym profile) i;
    accepted = sym d.accepts i;
    lists = first.state.lists;
    left = (sym d.leaves ∙ sym (add-zero n)) i;
  }

  both_is : heard a k l (messages ++ more) drawn ≡ joined first (turned_by n second)
  both_is =
      run_both a (state_of k l) messages more drawn d.no_fault
      ∙ ap (λ (t : Turn). joined first t)
      (ap (λ (s : State). run_of a s (map Heard more) first.randoms) state_is ∙ run_by a n (state_of between first.state.lists) more first.randoms)

  replies_both : (result : Result ℕ KdFault) (after : List ℕ) (accepted : Option (List ℕ)) (lists : Option Lists) (randoms : Option (List ℕ))
      → Replies second result written after accepted lists randoms → Replies (heard a k l (messages ++ more) drawn) (added n result) out after accepted lists randoms
  replies_both (Ok left) after accepted lists randoms r =
      subst (λ (t : Turn). IsDone t out after accepted lists randoms (n + left)) (sym both_is) (record {
        no_fault = r.no_fault;
        replied = both_replied first.replies second.replies out written after d.replied r.replied;
        accepts = r.accepts;
        keeps = r.keeps;
        draws = r.draws;
        leaves = ap (λ (m : ℕ). n + m) r.leaves;
      })
  replies_both (Err e) after accepted lists randoms r =
      subst (λ (t : Turn). IsEnded t e out after lists randoms) (sym both_is) (record { replied = both_replied first.replies second.replies out written after d.replied r.replied; brought = r.brought; stands = r.stands })

pub two_feeds : TwoFeedsAreOne
two_feeds k between now front back n result answers lists kept later randoms rest behind before written after profile first second = (
  first.0 ++ second.0,
  takes_both k between front back first.0 first.1 second.0 n result now second.1,
  λ a l drawn tells has draws.
      let d = first.2 a l drawn tells has draws in
      let t = heard a k l first.0 drawn in
      replies_both a k between l drawn first.0 second.0 before written kept rest n profile d result after now.accepted later behind
      (second.2 a t.state.lists t.randoms tells d.keeps d.draws),
)

-- ---- one outcome

pub one_outcome : OneOutcome
one_outcome k now other octets n m a l drawn kept others rest left before after out first second =
    let one = one_stream first.0 second.0 now.decoding.held other.decoding.held (k.decoding.held ++ octets) first.1.stream second.1.stream in
    let f = first.2 a l drawn refl refl refl in
    let g = subst (λ (messages : List TunnelMessage). IsDone (heard a k l messages drawn) before out other.accepted others left m) (sym one.0) (second.2 a l drawn refl refl refl) in
    let given : now.decoding.given ≡ other.decoding.given =
    first.1.given ∙ ap (λ (messages : List TunnelMessage). k.decoding.given + length (flat_map spelling messages)) one.0 ∙ sym second.1.given in (
      f.leaves ∙ sym g.leaves,
      f.keeps ∙ sym g.keeps,
      f.draws ∙ sym g.draws,
      f.replied ∙ sym g.replied,
      f.accepts ∙ sym g.accepts,
      λ i. record { given = given i; held = one.1 i; fault = (first.1.decodes ∙ sym second.1.decodes) i },
    )
