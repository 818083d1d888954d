-- One message that is fed, where nothing is held before it: the run over what is read is the message's turn.
use Rattle.std.specs.List.{flat_map, All}
use Rattle.std.specs.Prelude.{Option, Some, None, IfSome, Result, Ok, Err}
use Rattle.std.proofs.Common.{◌≡◌, ℕ, ◌≤◌, List, [], ◌∷◌, ◌++◌, length, map, refl, sym, ap, subst, ◌∙◌, append-nil, append_assoc, arith}
use Rattle.std.proofs.lemmas.List.Elements.{All-nil, All-cons, All-head, All-tail}
use Rattle.perc_tunnel.specs.Message.{TunnelMessage, IsMessage, spelling}
use Rattle.perc_tunnel.specs.Stream.{IsStream}
use Rattle.perc_tunnel.proofs.Streams.{never_both, one_message, one_stream}
use Rattle.perc_tunnel.proofs.Written.{spelling-length}
use Rattle.perc_keeper.specs.Lists.{Lists}
use Rattle.perc_keydist.specs.declared.fault.KdFault.{KdFault}
use Rattle.perc_keydist.specs.declared.fault.KdFault.TheVariants as fault
use Rattle.perc_keydist.specs.Answers.{Answers, clear_answers}
use Rattle.perc_keydist.specs.Causes.{Blames, told_as}
use Rattle.perc_keydist.specs.Desks.{IsDone}
use Rattle.perc_keydist.specs.Distributing.{Fault, Order, SpiSpent, KeyRepeated, Heard, State, Turn, before, hear, quiet, run_of, step}
use Rattle.perc_keydist.specs.Feeding.{IsEnded}
use Rattle.perc_keydist.specs.KeyDistributor.{Begins, FeedsSo, HasStopped, KeyDistributor, heard, state_of}
use Rattle.perc_keydist.proofs.Feeds.{nothing_part}
use Rattle.perc_key_service.specs.Hearing.{IsHeard, IsIdle, turn_at}

-- the run over one message is its turn, where this brings no fault
single : (a : Answers) (s : State) (randoms : List ℕ) (m : TunnelMessage)
    → run_of a s (map Heard (m ∷ [])) randoms ≡ before (hear a s randoms m s.accepted) (hear a s randoms m s.accepted).fault
    (quiet (hear a s randoms m s.accepted).state (hear a s randoms m s.accepted).randoms)
unfolding step
single a s randoms m = refl

-- a count that stands still hasn't risen
pub never_risen : (X : Type 0) (f : KdFault) → Blames {X = X} f 0 (Err f) 0 → ⊥
never_risen X f blames = let risen = blames.1 refl in omega (arith, risen)

no_spelling : (m : TunnelMessage) (xs : List ℕ) → IsMessage m → [] ≡ spelling m ++ xs → ⊥
unfolding spelling
no_spelling m xs is e = absurd cc

module _ (k now : KeyDistributor) (m : TunnelMessage) (octets : List ℕ) (l kept : Lists) (drawn : List ℕ) (rest : Option (List ℕ)) (out after : List ℕ)
    (is : IsMessage m) (spelled : octets ≡ spelling m) (start : k.decoding.held ≡ []) (ready : k.fault ≡ None) (calm : (turn_at k l m drawn).fault ≡ None) where
  abbrev turn : Turn
  turn = turn_at k l m drawn

  stream_is : k.decoding.held ++ octets ≡ spelling m
  stream_is = ap (λ (held : List ℕ). held ++ octets) start ∙ spelled

  whole : IsStream (m ∷ []) [] (k.decoding.held ++ octets)
  whole = record {
    each = All-cons IsMessage m [] is (All-nil IsMessage);
    octets = stream_is ∙ sym (append-nil (spelling m)) ∙ sym (append-nil (spelling m ++ []));
    part = nothing_part [] refl;
  }

  run_is : heard clear_answers k l (m ∷ []) drawn ≡ before turn None (quiet turn.state turn.randoms)
  run_is = single clear_answers (state_of k l) drawn m ∙ ap (λ (o : Option Fault). before turn o (quiet turn.state turn.randoms)) calm

  pub done : (n : ℕ) → FeedsSo k octets (Ok n) now (Some clear_answers) (Some l) (Some kept) (Some drawn) rest out after → IsHeard turn k now kept out after
  done n h =
      let one = one_stream (m ∷ []) h.0 [] now.decoding.held (k.decoding.held ++ octets) whole h.1.stream in
      let ran : IsDone (heard clear_answers k l (m ∷ []) drawn) out after now.accepted (Some kept) rest n =
      subst (λ (ms : List TunnelMessage). IsDone (heard clear_answers k l ms drawn) out after now.accepted (Some kept) rest n) (sym one.0) (h.2 clear_answers l drawn refl refl refl) in
      let alone : IsDone (before turn None (quiet turn.state turn.randoms)) out after now.accepted (Some kept) rest n =
      subst (λ (t : Turn). IsDone t out after now.accepted (Some kept) rest n) run_is ran in
      record {
        ready = ready;
        no_fault = h.1.no_fault;
        at_start = sym one.1;
        accepts = alone.accepts;
        keeps = some_same kept turn.state.lists alone.keeps;
        replied = alone.replied ∙ ap (λ (ms : List TunnelMessage). out ++ flat_map spelling ms) (append-nil turn.replies);
      }
    where
      some_same : (x y : Lists) → ◌≡◌ {A = Option Lists} (Some x) (Some y) → x ≡ y
      some_same x y e = cc

  -- whatever was read of it, the run brings no fault
  calm_run : (ms : List TunnelMessage) → Begins k octets ms → (heard clear_answers k l ms drawn).fault ≡ None
  calm_run [] b = refl
  calm_run (first ∷ more) b =
      let split : spelling m ++ [] ≡ spelling first ++ (flat_map spelling more ++ b.rest) =
      append-nil (spelling m) ∙ sym stream_is ∙ b.spelled ∙ append_assoc (spelling first) (flat_map spelling more) b.rest in
      let one = one_message m first [] (flat_map spelling more ++ b.rest) is (All-head IsMessage first more b.each) split in
      by_rest more (All-tail IsMessage first more b.each) one.0 one.1
    where
      by_rest : (more : List TunnelMessage) → All IsMessage more → m ≡ first → [] ≡ flat_map spelling more ++ b.rest → (heard clear_answers k l (first ∷ more) drawn).fault ≡ None
      by_rest [] each same none =
          subst (λ (n : TunnelMessage). (heard clear_answers k l (n ∷ []) drawn).fault ≡ None) same (ap (λ (t : Turn). t.fault) run_is)
      by_rest (next ∷ later) each same none =
          absurd (no_spelling next (flat_map spelling later ++ b.rest) (All-head IsMessage next later each) (none ∙ append_assoc (spelling next) (flat_map spelling later) b.rest))

  not_brought : (e : KdFault) (f : Fault) (ms : List TunnelMessage) (lists : Option Lists) → told_as e ≡ Some f → Begins k octets ms
      → IsEnded (heard clear_answers k l ms drawn) e out after lists rest → ⊥
  not_brought e f ms lists told b ended = let never = sym (calm_run ms b) ∙ ended.brought ∙ told in absurd cc

  -- a fault is want of memory
  pub failed : (X : Type 0) (e : KdFault) → FeedsSo k octets (Err e) now (Some clear_answers) (Some l) (Some kept) (Some drawn) rest out after
      → Blames {X = X} fault.Keeper 0 (Err e) 0 → Blames {X = X} fault.Handshake 0 (Err e) 0 → Blames {X = X} fault.Random 0 (Err e) 0 → e ≡ fault.Memory
  failed X (fault.Tunnel f) h keeper hand randoms =
      absurd (never_both _ (m ∷ []) h.0 [] h.1.1.rest (k.decoding.held ++ octets) whole h.1.1.wrong)
  failed X (fault.Order type) h keeper hand randoms = absurd (not_brought (fault.Order type) (Order type) h.0 (Some kept) refl h.1.1 (h.2 clear_answers l drawn refl refl refl))
  failed X fault.SpiSpent h keeper hand randoms = absurd (not_brought fault.SpiSpent SpiSpent h.0 (Some kept) refl h.1.1 (h.2 clear_answers l drawn refl refl refl))
  failed X fault.KeyRepeated h keeper hand randoms = absurd (not_brought fault.KeyRepeated KeyRepeated h.0 (Some kept) refl h.1.1 (h.2 clear_answers l drawn refl refl refl))
  failed X fault.Keeper h keeper hand randoms = absurd (never_risen X fault.Keeper keeper)
  failed X fault.Handshake h keeper hand randoms = absurd (never_risen X fault.Handshake hand)
  failed X fault.Random h keeper hand randoms = absurd (never_risen X fault.Random randoms)
  failed X fault.Memory h keeper hand randoms = refl

-- The same, where memory may have been out before.
module _ (k now : KeyDistributor) (m : TunnelMessage) (octets : List ℕ) (l kept : Lists) (drawn : List ℕ) (rest : Option (List ℕ)) (out after : List ℕ)
    (is : IsMessage m) (spelled : octets ≡ spelling m) (idle : IsIdle k.fault k.decoding.held) (calm : k.fault ≡ None → (turn_at k l m drawn).fault ≡ None)
    (K H R : Type 0) (keeper keeper_now : K) (hand hand_now : H) (randoms randoms_now : R) where
  -- what a feed says with this result
  abbrev Said : Result ℕ KdFault → Type 0
  Said result =
      (k.fault ≡ None → FeedsSo k octets result now (Some clear_answers) (Some l) (Some kept) (Some drawn) rest out after)
      × IfSome k.fault (λ f. HasStopped {X = ℕ} k f result now keeper keeper_now hand hand_now randoms randoms_now out after)

  pub heard_done : (n : ℕ) → Said (Ok n) → IsHeard (turn_at k l m drawn) k now kept out after
  heard_done n said = by_fault k.fault refl idle said.1 where
    by_fault : (o : Option KdFault) → k.fault ≡ o → IsIdle o k.decoding.held
        → IfSome o (λ f. HasStopped {X = ℕ} k f (Ok n) now keeper keeper_now hand hand_now randoms randoms_now out after) → IsHeard (turn_at k l m drawn) k now kept out after
    by_fault None ready start stopped = done k now m octets l kept drawn rest out after is spelled start ready (calm ready) n (said.0 ready)
    by_fault (Some f) was same stopped = absurd (let never = stopped.answer in cc)

  pub stays_idle : (n : ℕ) → Said (Ok n) → IsIdle now.fault now.decoding.held
  stays_idle n said =
      let heard = heard_done n said in
      subst (λ (o : Option KdFault). IsIdle o now.decoding.held) (sym heard.no_fault) heard.at_start

  pub is_memory : (X : Type 0) (e : KdFault) → Said (Err e) → (k.fault ≡ None → Blames {X = X} fault.Keeper 0 (Err e) 0) → (k.fault ≡ None → Blames {X = X} fault.Handshake 0 (Err e) 0)
      → (k.fault ≡ None → Blames {X = X} fault.Random 0 (Err e) 0) → e ≡ fault.Memory
  is_memory X e said of_keeper of_hand of_randoms = by_fault k.fault refl idle said.1 where
    by_fault : (o : Option KdFault) → k.fault ≡ o → IsIdle o k.decoding.held
        → IfSome o (λ f. HasStopped {X = ℕ} k f (Err e) now keeper keeper_now hand hand_now randoms randoms_now out after) → e ≡ fault.Memory
    by_fault None ready start stopped =
        failed k now m octets l kept drawn rest out after is spelled start ready (calm ready) X e (said.0 ready) (of_keeper ready) (of_hand ready) (of_randoms ready)
    by_fault (Some f) was same stopped = let given : e ≡ f = cc in given ∙ same

  pub has_fault : (e : KdFault) → Said (Err e) → now.fault ≡ Some e
  has_fault e said = by_fault k.fault refl said.1 where
    same_err : (x y : KdFault) → ◌≡◌ {A = Result ℕ KdFault} (Err x) (Err y) → x ≡ y
    same_err x y e = cc

    by_fault : (o : Option KdFault) → k.fault ≡ o
        → IfSome o (λ f. HasStopped {X = ℕ} k f (Err e) now keeper keeper_now hand hand_now randoms randoms_now out after) → now.fault ≡ Some e
    by_fault None ready stopped = (said.0 ready).1.0
    by_fault (Some f) was stopped =
        let given : e ≡ f = same_err e f stopped.answer in
        ap (λ (x : KeyDistributor). x.fault) stopped.same ∙ was ∙ ap Some (sym given)

  -- a call behind a fault changes nothing
  pub same_behind : (result : Result ℕ KdFault) → Said result → IfSome k.fault (λ _. now ≡ k)
  same_behind result said = by_fault k.fault said.1 where
    by_fault : (o : Option KdFault) → IfSome o (λ f. HasStopped {X = ℕ} k f result now keeper keeper_now hand hand_now randoms randoms_now out after) → IfSome o (λ _. now ≡ k)
    by_fault None stopped = tt
    by_fault (Some f) stopped = stopped.same

-- octets are one message, so what holds of its turn holds of the turn of whichever they spell
pub calm_of : (known m : TunnelMessage) (octets : List ℕ) → IsMessage known → IsMessage m → octets ≡ spelling known → octets ≡ spelling m
    → (k : KeyDistributor) (l : Lists) (drawn : List ℕ) → (k.fault ≡ None → (turn_at k l known drawn).fault ≡ None) → k.fault ≡ None → (turn_at k l m drawn).fault ≡ None
calm_of known m octets known_is is e f k l drawn calm ready =
    let same = one_message known m [] [] known_is is (ap (λ (xs : List ℕ). xs ++ []) (sym e ∙ f)) in
    subst (λ (n : TunnelMessage). (turn_at k l n drawn).fault ≡ None) same.0 (calm ready)
