-- What each output of a batch is.
use Rattle.std.proofs.Common.{◌≡◌, ℕ, suc, ◌+◌, List, [], ◌∷◌, Option, Some, Result, Ok, Err, refl, sym, ap, subst, ◌∙◌, arith}
use Rattle.std.specs.Prelude.{◌&&◌, All, Contains, filter, not}
use Rattle.std.specs.List.{slice_get}
use Rattle.std.proofs.lemmas.List.Elements.{All-append, All-cons, All-contains_itself, All-filter, All-head, All-nil, All-tail}
use Rattle.perc_ohb.specs.Rewriting.{Rewrite}
use Rattle.perc_rtp.specs.Header.{Header}
use Rattle.perc_ohb.specs.declared.block.Ohb.{Ohb}
use Rattle.perc_ekt.specs.Field.{Field}
use Rattle.perc_keyset.specs.Set.{is_of}
use Rattle.perc_keyset.specs.declared.Entry.{Entry}
use Rattle.perc_distributor.specs.declared.fault.ForwardFault.{ForwardFault}
use Rattle.perc_distributor.specs.Inbound.{Control, Media, Packet, in_set}
use Rattle.perc_distributor.specs.Forwarding.{Sealing, Sent, is_named, is_owned, media_index, media_step, recipients, sealing_of, sent_each, sent_from, sent_media, sent_to, source_of, with_sealing}
use Rattle.perc_distributor.specs.Parts.{control_place}
use Rattle.perc_distributor.specs.Laws.{IsRelayOf, IsRelayedTo}
use Rattle.perc_distributor.proofs.Sending.{control_by, sent_by}
use Rattle.perc_distributor.proofs.Arriving.{media_index_below}

module _ (entries : List Entry) (batch : List Packet) (change : Rewrite) where
  media_relayed : (s : Sealing) (e : Entry) (place : ℕ) (from : List ℕ) (h : Header) (inner : List ℕ) (block : Ohb) (field : Field) (at : Result ℕ ForwardFault)
      → slice_get batch place ≡ Some (Media from h inner block field) → Contains entries e → media_index s.streams h inner block field change ≡ at
      → IsRelayOf entries batch change (sent_media s e place change h inner block field at).0
  media_relayed s e place from h inner block field (Err f) there member is = tt
  media_relayed s e place from h inner block field (Ok index) there member is =
      subst (IsRelayedTo entries change e.association _) (sym there)
      (e, member, refl, record { index = index; in_range = media_index_below s.streams h inner block field change index is; sealed_as = refl })

  control_relayed : (s : Sealing) (e : Entry) (place : ℕ) (from octets : List ℕ) (at : Result ℕ ForwardFault) → slice_get batch place ≡ Some (Control from octets)
      → IsRelayOf entries batch change (sent_by s e place octets at).0
  control_relayed s e place from octets (Err f) there = tt
  control_relayed s e place from octets (Ok at) there = subst (IsRelayedTo entries change e.association _) (sym there) tt

  sent_relayed : (s : Sealing) (e : Entry) (place : ℕ) (packet : Packet) → slice_get batch place ≡ Some packet → Contains entries e
      → IsRelayOf entries batch change (sent_to s e place change packet).0
  sent_relayed s e place (Media from h inner block field) there member =
      media_relayed s e place from h inner block field (media_index s.streams h inner block field change) there member refl
  sent_relayed s e place (Control from octets) there member =
      subst (λ (step : Sent × Sealing). IsRelayOf entries batch change step.0) (sym (control_by s e place octets))
      (control_relayed s e place from octets (control_place s.rtcp octets) there)

  each_relayed : (es : List Entry) (place : ℕ) (packet : Packet) (sealing : List Sealing) → slice_get batch place ≡ Some packet → All (Contains entries) es
      → All (IsRelayOf entries batch change) (sent_each es place change packet sealing).0
  each_relayed [] place packet sealing there members = All-nil (IsRelayOf entries batch change)
  each_relayed (e ∷ es) place packet sealing there members =
      let one = sent_to (sealing_of sealing e.serial) e place change packet in
      All-cons (IsRelayOf entries batch change) one.0 (sent_each es place change packet (with_sealing one.1 sealing)).0
      (sent_relayed (sealing_of sealing e.serial) e place packet there (All-head (Contains entries) e es members)) (each_relayed es place packet (with_sealing one.1 sealing) there (All-tail (Contains entries) e es members))

  from_relayed : (number of place : ℕ) (rest : List Packet) (only : Option (List (List ℕ))) (sealing : List Sealing) → ((k : ℕ) → slice_get rest k ≡ slice_get batch (place + k))
      → All (IsRelayOf entries batch change) (sent_from number of entries place rest change only sealing).0
  from_relayed number of place [] only sealing at = All-nil (IsRelayOf entries batch change)
  from_relayed number of place (packet ∷ rest) only sealing at =
      let to : List Entry = recipients number of entries only packet in
      let one = sent_each to place change packet sealing in
      let more = sent_from number of entries (place + 1) rest change only one.1 in
      let members : All (Contains entries) to =
      All-filter (λ e. is_owned number of e && not (is_of (source_of packet) e) && is_named only e) (Contains entries) entries (All-contains_itself entries) in
      let here : place + 0 ≡ place = omega arith in
      let there : slice_get batch place ≡ Some packet = ap (slice_get batch) (sym here) ∙ sym (at 0) in
      All-append (IsRelayOf entries batch change) one.0 more.0 (each_relayed to place packet sealing there members)
      (from_relayed number of (place + 1) rest only one.1 (λ k. let next : place + suc k ≡ place + 1 + k = omega arith in at (suc k) ∙ ap (slice_get batch) next))

pub step_relayed : (number of : ℕ) (entries : List Entry) (batch : List Packet) (change : Rewrite) (only : Option (List (List ℕ))) (sealing : List Sealing)
    → All (IsRelayOf entries batch change) (media_step number of entries batch change only sealing).0
unfolding media_step
step_relayed number of entries [] change only sealing = All-nil (IsRelayOf entries [] change)
step_relayed number of entries (packet ∷ batch) change only sealing =
    from_relayed entries (packet ∷ batch) change number of 0 (packet ∷ batch) only (filter (λ x. in_set entries x.serial) sealing)
    (λ k. let here : 0 + k ≡ k = omega arith in ap (slice_get (packet ∷ batch)) (sym here))
