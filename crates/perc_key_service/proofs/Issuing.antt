-- A roll of a key distributor that serves a script.
use Rattle.std.specs.Prelude.{Option, Some, None, IfErr, IfSome, Result, Ok, Err}
use Rattle.std.specs.Result.{result_err}
use Rattle.std.proofs.Common.{◌≡◌, ℕ, ◌+◌, ◌≤◌, false, List, ◌++◌, length, refl, sym, ap, subst, ◌∙◌, arith}
use Rattle.perc_ekt.specs.declared.record.EktKeyRecord.{EktKeyRecord}
use Rattle.perc_tunnel.specs.Decoding.{Decoding}
use Rattle.perc_keeper.specs.Lists.{Lists, newest, with_issued}
use Rattle.perc_keydist.specs.declared.fault.KdFault.{KdFault}
use Rattle.perc_keydist.specs.declared.fault.KdFault.TheVariants as fault
use Rattle.perc_keydist.specs.Answers.{Answers, clear_answers}
use Rattle.perc_keydist.specs.Causes.{Blames, is_of_stream, told_as}
use Rattle.perc_keydist.specs.Desks.{IsRefused}
use Rattle.perc_keydist.specs.Distributing.{Fault, Order, SpiSpent, KeyRepeated, Part, Turn, behind_pair, issue, rolling}
use Rattle.perc_keydist.specs.KeyDistributor.{HasStopped, KeyDistributor, Rolls, rolled, state_of}
use Rattle.perc_keydist.proofs.Rolling.{issued_newest, rolled_is}
use Rattle.perc_base.specs.Profile.{key_length}
use Rattle.perc_key_service.specs.Service.{MayIssue, issued_as}
use Rattle.perc_key_service.specs.Serving.{IsServing, Serves, service_of}
use Rattle.perc_key_service.proofs.Messages.{never_risen}
use Rattle.perc_key_service.proofs.Serving.{is_few, issued_serves, serves}
use Rattle.perc_key_service.proofs.Turns.{issue_is}

module _ (k now : KeyDistributor) (l kept : Lists) (key salt drawn : List ℕ) (rest : Option (List ℕ)) (out after : List ℕ) (serving : IsServing k.fault l k)
    (may : MayIssue (service_of k l) key) (size : length salt ≡ 12) (draws : drawn ≡ key ++ salt) (decoding : now.decoding ≡ k.decoding)
    (K H R : Type 0) (keeper keeper_now : K) (hand hand_now : H) (randoms randoms_now : R) where
  abbrev given : EktKeyRecord
  given = issued_as (service_of k l) key salt

  abbrev part : Part EktKeyRecord
  part = record { answer = Ok given; lists = with_issued given l; randoms = behind_pair (key_length k.profile) drawn }

  abbrev turn : Turn
  turn = rolled clear_answers k l drawn

  part_is : issue k.profile l drawn ≡ part
  part_is = issue_is k l key salt may size drawn draws

  turn_is : turn ≡ rolling clear_answers (state_of k l) part
  turn_is = rolled_is clear_answers (state_of k l) drawn ∙ ap (rolling clear_answers (state_of k l)) part_is

  -- what a roll says with this result
  pub record Rolled (result : Result EktKeyRecord KdFault) : Type 0 where
    pub done : (a : Answers) (m : Lists) (left : List ℕ) → k.fault ≡ None → ◌≡◌ {A = Option Answers} (Some clear_answers) (Some a) → ◌≡◌ {A = Option Lists} (Some l) (Some m)
        → ◌≡◌ {A = Option (List ℕ)} (Some drawn) (Some left) → Rolls (rolled a k m left) result out after (Some kept) rest
    pub state : k.fault ≡ None → now ≡ record k { fault = result_err result }
    pub stopped : IfSome k.fault (λ f. HasStopped {X = EktKeyRecord} k f result now keeper keeper_now hand hand_now randoms randoms_now out after)

  pub ready_when : (r : EktKeyRecord) → Rolled (Ok r) → k.fault ≡ None
  ready_when r said = by_fault k.fault refl said.stopped where
    by_fault : (o : Option KdFault) → k.fault ≡ o
        → IfSome o (λ f. HasStopped {X = EktKeyRecord} k f (Ok r) now keeper keeper_now hand hand_now randoms randoms_now out after) → k.fault ≡ None
    by_fault None is stopped = is
    by_fault (Some f) is stopped = absurd (let never = stopped.answer in cc)

  pub issued_is : (r : EktKeyRecord) → Rolled (Ok r) → r ≡ given
  issued_is r said =
      let told = said.done clear_answers l drawn (ready_when r said) refl refl refl in
      let lists : turn.state.lists ≡ (issue k.profile l drawn).lists = ap (λ (t : Turn). t.state.lists) turn_is ∙ sym (ap (λ (q : Part EktKeyRecord). q.lists) part_is) in
      let top : newest (issue k.profile l drawn).lists.issued ≡ Some given = issued_newest k.profile l drawn given (ap (λ (q : Part EktKeyRecord). q.answer) part_is) in
      same r given (sym told.issued ∙ ap (λ (m : Lists). newest m.issued) lists ∙ top)
    where
      same : (x y : EktKeyRecord) → ◌≡◌ {A = Option EktKeyRecord} (Some x) (Some y) → x ≡ y
      same x y e = cc

  pub kept_is : (r : EktKeyRecord) → Rolled (Ok r) → kept ≡ with_issued given l
  kept_is r said = same kept turn.state.lists (said.done clear_answers l drawn (ready_when r said) refl refl refl).keeps ∙ ap (λ (t : Turn). t.state.lists) turn_is where
    same : (x y : Lists) → ◌≡◌ {A = Option Lists} (Some x) (Some y) → x ≡ y
    same x y e = cc

  pub serves_on : (r : EktKeyRecord) → Rolled (Ok r) → IsServing now.fault kept now
  serves_on r said =
      let ready = ready_when r said in
      let is = said.state ready in
      issued_serves l k now kept key salt (serves l k serving ready) may size (ap (λ (d : KeyDistributor). d.fault) is) (ap (λ (d : KeyDistributor). d.accepted) is) decoding (kept_is r said)

  not_refused : (f : Fault) → IsRefused turn f (Some kept) rest → ⊥
  not_refused f is = let never = sym (ap (λ (t : Turn). t.fault) turn_is) ∙ is.brought in absurd cc

  failed : (e : KdFault) → Rolls turn (Err e) out after (Some kept) rest → is_of_stream e ≡ false → Blames {X = EktKeyRecord} fault.Keeper 0 (Err e) 0
      → Blames {X = EktKeyRecord} fault.Handshake 0 (Err e) 0 → Blames {X = EktKeyRecord} fault.Random 0 (Err e) 0 → e ≡ fault.Memory
  failed (fault.Tunnel f) told kind of_keeper of_hand of_randoms = absurd cc
  failed (fault.Order type) told kind of_keeper of_hand of_randoms = absurd (not_refused (Order type) told)
  failed fault.SpiSpent told kind of_keeper of_hand of_randoms = absurd (not_refused SpiSpent told)
  failed fault.KeyRepeated told kind of_keeper of_hand of_randoms = absurd (not_refused KeyRepeated told)
  failed fault.Keeper told kind of_keeper of_hand of_randoms = absurd (never_risen EktKeyRecord fault.Keeper of_keeper)
  failed fault.Handshake told kind of_keeper of_hand of_randoms = absurd (never_risen EktKeyRecord fault.Handshake of_hand)
  failed fault.Random told kind of_keeper of_hand of_randoms = absurd (never_risen EktKeyRecord fault.Random of_randoms)
  failed fault.Memory told kind of_keeper of_hand of_randoms = refl

  pub is_memory : (e : KdFault) → Rolled (Err e) → (k.fault ≡ None → is_of_stream e ≡ false) → (k.fault ≡ None → Blames {X = EktKeyRecord} fault.Keeper 0 (Err e) 0)
      → (k.fault ≡ None → Blames {X = EktKeyRecord} fault.Handshake 0 (Err e) 0) → (k.fault ≡ None → Blames {X = EktKeyRecord} fault.Random 0 (Err e) 0) → e ≡ fault.Memory
  is_memory e said kind of_keeper of_hand of_randoms = by_fault k.fault refl serving said.stopped where
    by_fault : (o : Option KdFault) → k.fault ≡ o → IsServing o l k
        → IfSome o (λ f. HasStopped {X = EktKeyRecord} k f (Err e) now keeper keeper_now hand hand_now randoms randoms_now out after) → e ≡ fault.Memory
    by_fault None is s stopped = failed e (said.done clear_answers l drawn is refl refl refl) (kind is) (of_keeper is) (of_hand is) (of_randoms is)
    by_fault (Some f) is s stopped = let same : e ≡ f = cc in same ∙ s.0

  pub out_serves : (e : KdFault) → Rolled (Err e) → e ≡ fault.Memory → IsServing now.fault kept now
  out_serves e said memory = by_fault k.fault refl said.stopped where
    few : now.decoding.given + length now.decoding.held ≤ 4194304
    few = subst (λ (d : Decoding). d.given + length d.held ≤ 4194304) (sym decoding) (is_few l k serving)

    stands : now.fault ≡ Some e → IsServing now.fault kept now
    stands is = subst (λ (o : Option KdFault). IsServing o kept now) (sym (is ∙ ap Some memory)) (refl, few)

    same_err : (x y : KdFault) → ◌≡◌ {A = Result EktKeyRecord KdFault} (Err x) (Err y) → x ≡ y
    same_err x y h = cc

    by_fault : (o : Option KdFault) → k.fault ≡ o
        → IfSome o (λ f. HasStopped {X = EktKeyRecord} k f (Err e) now keeper keeper_now hand hand_now randoms randoms_now out after) → IsServing now.fault kept now
    by_fault None is stopped = stands (ap (λ (d : KeyDistributor). d.fault) (said.state is))
    by_fault (Some f) is stopped = stands (ap (λ (d : KeyDistributor). d.fault) stopped.same ∙ is ∙ ap Some (sym (same_err e f stopped.answer)))
