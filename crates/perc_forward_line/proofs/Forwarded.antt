-- What the parts of a forward leave.
use Rattle.std.proofs.Common.{◌≡◌, ℕ, zero, suc, ◌+◌, ◌-◌, ◌≤◌, ◌<◌, Bool, true, false, cond, List, [], ◌∷◌, ◌++◌, length, map, Option, Some, None, Result, Ok, Err, slice_get, refl, sym, ap, subst, ◌∙◌, append_assoc, arith}
use Rattle.std.specs.Prelude.{◌==◌, filter, filter_map}
use Rattle.std.specs.Global.{Vec}
use Rattle.std.specs.Option.{option_map}
use Rattle.std.proofs.lemmas.List.{append-nil}
use Rattle.perc_ohb.specs.Rewriting.{Rewrite, rewrite_of}
use Rattle.perc_conference_state.specs.Mirror.{Mirrors}
use Rattle.perc_conference_state.specs.declared.conference.Conference as code
use Rattle.perc_conference_state.specs.declared.conference.Stop.{Stop}
use Rattle.perc_conference_state.specs.declared.conference.Told.{Told}
use Rattle.perc_distributor.specs.Forwarding.{Sent, Sealed, Dropped}
use Rattle.perc_distributor.specs.Inbound.{Packet}
use Rattle.perc_distributor.specs.Kept.{sent_of}
use Rattle.perc_distributor.specs.declared.fault.InboundFault.{InboundFault}
use Rattle.perc_forwarder.specs.Mirror.{MirrorsDistributor, MirrorsTakings, SealsBatch, TakesMore, step_of}
use Rattle.perc_forwarder.specs.declared.distributor.Distributor as code_distributor
use Rattle.perc_member.specs.Each.{MirrorEach, MirrorsDatagram, MirrorsMember}
use Rattle.perc_member.specs.declared.datagram.Datagram as code_datagram
use Rattle.perc_member.specs.declared.member.Member as code_member
use Rattle.perc_run.specs.Forwarding.{Taking, associations_of, numbered, place_behind, reported_output, reported_outputs, reported_taking, reported_takings, takings}
use Rattle.perc_run.specs.State.{Datagram, Member, State, datagram_at}
use Rattle.perc_forward_line.specs.declared.outputs.Telling.{Telling}
use Rattle.perc_forward_line.specs.Telling.{IsSealed, IsTelling, Reports, SealsAll, TakesAll, TellsAll, outputs_at}
use Rattle.perc_forward_line.proofs.Kept.{KeepsDatagrams, KeepsRest, mirrors_after}
use Rattle.perc_forward_line.proofs.Reporting.{Step}

-- ---- what was taken and sealed

keeps_all : (datagrams : List Datagram) → KeepsDatagrams datagrams datagrams
keeps_all datagrams number d h = h

pub takes_all_of : (c d : code.Conference) (s : State) (from numbers : List ℕ) → Mirrors c s → KeepsRest c d → d.datagrams ≡ c.datagrams
    → TakesMore s [] from (numbered s.datagrams numbers) d.distributor → TakesAll s from numbers d
takes_all_of c d s from numbers mirrors rest same h = record {
  taken = h;
  mirrors = mirrors_after c d s (takings s.set s.heard from (numbered s.datagrams numbers)).1 s.sealing s.datagrams mirrors rest h.mirrors (keeps_all s.datagrams)
      (subst (λ (v : Vec code_datagram.Datagram). MirrorEach MirrorsDatagram v.items s.datagrams) (sym same) mirrors.datagrams);
}

pub seals_all : (c d : code.Conference) (s : State) (taken : List Taking) (change : Rewrite) (only : Option (List (List ℕ))) (to : Option (List (List ℕ)))
    → Mirrors c s → KeepsRest c d → d.datagrams ≡ c.datagrams
    → only ≡ option_map (associations_of s) to → SealsBatch s taken change only d.distributor → SealsAll s taken change to d
seals_all c d s taken change only to mirrors rest same is batch =
    let h = subst (λ (o : Option (List (List ℕ))). SealsBatch s taken change o d.distributor) is batch in
    record {
      seals = h;
      mirrors = mirrors_after c d s s.heard (step_of s taken change (option_map (associations_of s) to)).1 s.datagrams mirrors rest h.mirrors (keeps_all s.datagrams)
          (subst (λ (v : Vec code_datagram.Datagram). MirrorEach MirrorsDatagram v.items s.datagrams) (sym same) mirrors.datagrams);
    }

-- ---- what is told keeps the datagrams before

-- these are those, and more
pub record Extends (before after : List Datagram) : Type 0 where
  pub more : List Datagram
  pub is : after ≡ before ++ more

extends_none : (before : List Datagram) → Extends before before
extends_none before = record { more = []; is = sym (append-nil before) }

extends_both : (a b c : List Datagram) → Extends a b → Extends b c → Extends a c
extends_both a b c h k = record { more = h.more ++ k.more; is = k.is ∙ ap (λ (xs : List Datagram). xs ++ k.more) h.is ∙ append_assoc a h.more k.more }

slice_get_front : {X : Type 0} (xs ys : List X) (i : ℕ) (x : X) → slice_get xs i ≡ Some x → slice_get (xs ++ ys) i ≡ Some x
slice_get_front [] ys i x h = absurd cc
slice_get_front (y ∷ xs) ys zero x h = h
slice_get_front (y ∷ xs) ys (suc i) x h = slice_get_front xs ys i x h

extends_keeps : (before after : List Datagram) → Extends before after → KeepsDatagrams before after
extends_keeps before after h number d found =
    let at : (b : Bool) → cond b None (slice_get before (number - 1)) ≡ Some d → cond b None (slice_get (before ++ h.more) (number - 1)) ≡ Some d = pick in
    ap (λ (xs : List Datagram). datagram_at xs number) h.is ∙ at (number == 0) found
  where
    pick : (b : Bool) → cond b None (slice_get before (number - 1)) ≡ Some d → cond b None (slice_get (before ++ h.more) (number - 1)) ≡ Some d
    pick true e = absurd cc
    pick false e = slice_get_front before h.more (number - 1) d e

module _ (members : List Member) (change : Rewrite) where
  output_extends : (number : ℕ) (packet : Packet) (made : List Datagram) (x : Sent) → Extends made (reported_output members change number packet made x).1
  output_extends number packet made (Sealed place to octets) = record { more = _; is = refl }
  output_extends number packet made (Dropped place to f) = extends_none made

  outputs_extend : (number : ℕ) (packet : Packet) (made : List Datagram) (xs : List Sent) → Extends made (reported_outputs members change number packet made xs).1
  outputs_extend number packet made [] = extends_none made
  outputs_extend number packet made (x ∷ xs) =
      let one : List Datagram = (reported_output members change number packet made x).1 in
      extends_both made one (reported_outputs members change number packet one xs).1 (output_extends number packet made x) (outputs_extend number packet one xs)

  taking_extends : (sent : List Sent) (place : ℕ) (made : List Datagram) (number : ℕ) (r : Result Packet InboundFault) → Extends made (reported_taking members change sent place made number r).1
  taking_extends sent place made number (Ok packet) = outputs_extend number packet made (outputs_at place sent)
  taking_extends sent place made number (Err f) = extends_none made

  takings_extend : (sent : List Sent) (place : ℕ) (made : List Datagram) (ts : List Taking) → Extends made (reported_takings members change sent place made ts).1
  takings_extend sent place made [] = extends_none made
  takings_extend sent place made (t ∷ ts) =
      let one : List Datagram = (reported_taking members change sent place made t.number t.result).1 in
      extends_both made one (reported_takings members change sent (place_behind place t.result) one ts).1 (taking_extends sent place made t.number t.result) (takings_extend sent (place_behind place t.result) one ts)

-- ---- what is told in a conference

pub is_telling : (t : Telling) (c : code.Conference) (s : State) (taken : List Taking) → IsSealed s taken (rewrite_of t.change.now) c
    → t.members.now ≡ c.members.items → t.distributor.now ≡ c.distributor
    → IsTelling t s.members taken (map sent_of c.distributor.outputs)
is_telling t c s taken h members distributor = record {
  members_are = subst (λ (cs : List code_member.Member). MirrorEach MirrorsMember cs s.members) (sym members) h.mirrors.members;
  takings_are = subst (λ (d : code_distributor.Distributor). MirrorsTakings d taken) (sym distributor) h.takings_are;
  outputs = ap (λ (d : code_distributor.Distributor). map sent_of d.outputs) distributor;
  right = h.right;
}

pub tells_all : (s : State) (taken : List Taking) (change : Rewrite) (old new : code.Conference) (result : Result Told Stop) (before after : List ℕ)
    → IsSealed s taken change old → KeepsRest old new → new.distributor ≡ old.distributor
    → Reports (reported_takings s.members change (map sent_of old.distributor.outputs) 0 s.datagrams taken) s.datagrams old.datagrams.items result before after new.datagrams.items
    → TellsAll s taken change old result before after new
tells_all s taken change old new (Err e) before after sealed rest same h = h
tells_all s taken change old new (Ok told) before after sealed rest same h =
    let r = h sealed.mirrors.datagrams in
    let sent = map sent_of old.distributor.outputs in
    let step : Step = reported_takings s.members change sent 0 s.datagrams taken in (
      r.text,
      r.told_is,
      mirrors_after old new s s.heard s.sealing step.1 sealed.mirrors rest (subst (λ (d : code_distributor.Distributor). MirrorsDistributor d s) (sym same) sealed.mirrors.distributor)
          (extends_keeps s.datagrams step.1 (takings_extend s.members change sent 0 s.datagrams taken)) r.datagrams,
    )
