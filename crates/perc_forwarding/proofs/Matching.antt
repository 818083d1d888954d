-- The seals of a batch are those of its outputs; and the set of a history has each entry once.
use Rattle.std.proofs.Common.{◌≡◌, ◌≢◌, ℕ, suc, ◌+◌, List, [], ◌∷◌, ◌++◌, get_or, Option, Some, Result, Ok, Err, refl, sym, ap, subst, ◌∙◌, arith}
use Rattle.std.specs.Prelude.{All, AllPairs, Contains, filter}
use Rattle.std.specs.List.{slice_get}
use Rattle.std.proofs.lemmas.List.Elements.{All-head, All-tail}
use Rattle.perc_kdf.specs.Derivation.{session_keys}
use Rattle.perc_kdf.specs.declared.Kind.TheVariants.{Srtp, Srtcp}
use Rattle.perc_rtp.specs.Header.{Header}
use Rattle.perc_ohb.specs.declared.block.Ohb.{Ohb}
use Rattle.perc_ohb.specs.Rewriting.{block_after, Rewrite}
use Rattle.perc_ekt.specs.Field.{Field}
use Rattle.perc_srtp.specs.Sealed.{rtcp_ssrc, sealed_rtcp}
use Rattle.perc_double.specs.Double.{relayed}
use Rattle.perc_keyset.specs.Set.{fold_ops}
use Rattle.perc_keyset.specs.History.{IsHistory, adds}
use Rattle.perc_keyset.specs.declared.Op.{Op}
use Rattle.perc_keyset.specs.declared.Entry.{Entry}
use Rattle.perc_keyset.proofs.HistoryLaws.{one_by_serial}
use Rattle.perc_keyset.proofs.Lists.{AllPairs-head, AllPairs-tail}
use Rattle.perc_keyset.proofs.SetLaws.{IsSetOf-fold}
use Rattle.perc_distributor.specs.declared.fault.ForwardFault.{ForwardFault}
use Rattle.perc_distributor.specs.Inbound.{Control, Media, Packet, in_set}
use Rattle.perc_distributor.specs.Forwarding.{Dropped, Sealed, Sealing, Sent, media_index, media_step, recipients, sealing_of, sent_each, sent_from, sent_media, sent_to, with_sealing}
use Rattle.perc_distributor.specs.Parts.{control_place}
use Rattle.perc_distributor.specs.Laws.{datagram_of}
use Rattle.perc_distributor.proofs.Sending.{control_by, sent_by}
use Rattle.perc_forwarding.specs.Runs.{AreSealedWith, IsSealedWith, Seal, seal_of, seals_each, seals_from, seals_to, step_seals}
use Rattle.perc_forwarding.specs.Shares.{AreOnce}

module _ (batch : List Packet) (change : Rewrite) where
  sealed_append : (outputs more : List Sent) (seals further : List Seal) → AreSealedWith batch change outputs seals → AreSealedWith batch change more further
      → AreSealedWith batch change (outputs ++ more) (seals ++ further)
  sealed_append [] more [] further are rest = rest
  sealed_append [] more (u ∷ seals) further are rest = absurd are
  sealed_append (Dropped place to fault ∷ outputs) more seals further are rest = sealed_append outputs more seals further are rest
  sealed_append (Sealed place to octets ∷ outputs) more [] further are rest = absurd are
  sealed_append (Sealed place to octets ∷ outputs) more (u ∷ seals) further are rest = (are.0, sealed_append outputs more seals further are.1 rest)

  media_sealed : (s : Sealing) (e : Entry) (place : ℕ) (from : List ℕ) (h : Header) (inner : List ℕ) (block : Ohb) (field : Field) (at : Result ℕ ForwardFault)
      → slice_get batch place ≡ Some (Media from h inner block field)
      → AreSealedWith batch change ((sent_media s e place change h inner block field at).0 ∷ []) (seal_of e Srtp h.ssrc at)
  media_sealed s e place from h inner block field (Err f) there = tt
  media_sealed s e place from h inner block field (Ok index) there =
      (subst (λ (o : Option Packet). IsSealedWith change e.association (datagram_of (session_keys e.server Srtp) index (relayed h change) inner (block_after h block change) field) o (record { entry = e; kind = Srtp; ssrc = h.ssrc; index = index })) (sym there) (refl, refl, refl, refl), tt)

  control_sealed : (s : Sealing) (e : Entry) (place : ℕ) (from octets : List ℕ) (at : Result ℕ ForwardFault) → slice_get batch place ≡ Some (Control from octets)
      → AreSealedWith batch change ((sent_by s e place octets at).0 ∷ []) (seal_of e Srtcp (rtcp_ssrc octets) at)
  control_sealed s e place from octets (Err f) there = tt
  control_sealed s e place from octets (Ok index) there =
      (subst (λ (o : Option Packet). IsSealedWith change e.association (sealed_rtcp (session_keys e.server Srtcp) index octets) o (record { entry = e; kind = Srtcp; ssrc = rtcp_ssrc octets; index = index })) (sym there) (refl, refl, refl, refl), tt)

  to_sealed : (s : Sealing) (e : Entry) (place : ℕ) (packet : Packet) → slice_get batch place ≡ Some packet
      → AreSealedWith batch change ((sent_to s e place change packet).0 ∷ []) (seals_to s e change packet)
  to_sealed s e place (Media from h inner block field) there = media_sealed s e place from h inner block field (media_index s.streams h inner block field change) there
  to_sealed s e place (Control from octets) there =
      subst (λ (step : Sent × Sealing). AreSealedWith batch change (step.0 ∷ []) (seal_of e Srtcp (rtcp_ssrc octets) (control_place s.rtcp octets))) (sym (control_by s e place octets))
      (control_sealed s e place from octets (control_place s.rtcp octets) there)

  each_sealed : (es : List Entry) (place : ℕ) (packet : Packet) (sealing : List Sealing) → slice_get batch place ≡ Some packet
      → AreSealedWith batch change (sent_each es place change packet sealing).0 (seals_each es place change packet sealing)
  each_sealed [] place packet sealing there = tt
  each_sealed (e ∷ es) place packet sealing there =
      let s = sealing_of sealing e.serial in
      let step = sent_to s e place change packet in
      let after : List Sealing = with_sealing step.1 sealing in
      sealed_append (step.0 ∷ []) (sent_each es place change packet after).0 (seals_to s e change packet) (seals_each es place change packet after)
      (to_sealed s e place packet there) (each_sealed es place packet after there)

  from_sealed : (number of : ℕ) (set : List Entry) (place : ℕ) (rest : List Packet) (only : Option (List (List ℕ))) (sealing : List Sealing) → ((k : ℕ) → slice_get rest k ≡ slice_get batch (place + k))
      → AreSealedWith batch change (sent_from number of set place rest change only sealing).0 (seals_from number of set place rest change only sealing)
  from_sealed number of set place [] only sealing at = tt
  from_sealed number of set place (packet ∷ rest) only sealing at =
      let to : List Entry = recipients number of set only packet in
      let one = sent_each to place change packet sealing in
      let here : place + 0 ≡ place = omega arith in
      let there : slice_get batch place ≡ Some packet = ap (slice_get batch) (sym here) ∙ sym (at 0) in
      sealed_append one.0 (sent_from number of set (place + 1) rest change only one.1).0 (seals_each to place change packet sealing) (seals_from number of set (place + 1) rest change only one.1)
      (each_sealed to place packet sealing there)
      (from_sealed number of set (place + 1) rest only one.1 (λ k. let next : place + suc k ≡ place + 1 + k = omega arith in at (suc k) ∙ ap (slice_get batch) next))

pub step_sealed : (number of : ℕ) (set : List Entry) (batch : List Packet) (change : Rewrite) (only : Option (List (List ℕ))) (sealing : List Sealing)
    → AreSealedWith batch change (media_step number of set batch change only sealing).0 (step_seals number of set batch change only sealing)
unfolding media_step step_seals
step_sealed number of set [] change only sealing = tt
step_sealed number of set (packet ∷ batch) change only sealing =
    from_sealed (packet ∷ batch) change number of set 0 (packet ∷ batch) only (filter (λ x. in_set set x.serial) sealing)
    (λ k. let here : 0 + k ≡ k = omega arith in ap (slice_get (packet ∷ batch)) (sym here))

-- ---- the set of a history

once_from : (ops : List Op) (set : List Entry) → IsHistory ops → AllPairs (λ d e. d.association ≢ e.association) set → All (Contains (adds ops)) set → AreOnce set
once_from ops [] is apart added = tt
once_from ops (x ∷ set) is apart added =
    let others = AllPairs-head (λ (d e : Entry). d.association ≢ e.association) x set apart in
    let mine = All-head (Contains (adds ops)) x set added in
    let theirs = All-tail (Contains (adds ops)) x set added in (
      λ k d within. record {
        association = others k d within;
        serial = λ same. others k d within (ap (λ (e : Entry). e.association) (one_by_serial 0 (adds ops) x (get_or set k d) is.serials mine (theirs k d within) same));
      },
      once_from ops set is (AllPairs-tail (λ (d e : Entry). d.association ≢ e.association) x set apart) theirs,
    )

pub once_in_set : (ops : List Op) → IsHistory ops → AreOnce (fold_ops ops)
once_in_set ops is = let set = IsSetOf-fold ops in once_from ops (fold_ops ops) is set.once set.added
