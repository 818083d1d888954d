-- The seals that are told of packets are those with which they were sealed.
use Rattle.std.proofs.Common.{ℕ, ◌+◌, ◌^◌, Bool, true, false, List, [], ◌∷◌, ◌++◌, length, drop, take, Option, Result, Ok, Err, refl}
use Rattle.std.specs.Prelude.{nat_le, nat_lt, filter}
use Rattle.perc_kdf.specs.Derivation.{KeyAndSalt, session_keys}
use Rattle.perc_kdf.specs.declared.Kind.TheVariants.{Srtp, Srtcp}
use Rattle.perc_rtp.specs.Fields.{cut}
use Rattle.perc_rtp.specs.Header.{Header, spelling}
use Rattle.perc_rtp.specs.Media.{Content, rest_of}
use Rattle.perc_ohb.specs.Block as block
use Rattle.perc_ohb.specs.Rewriting.{Rewrite, block_after}
use Rattle.perc_ohb.specs.declared.block.Ohb.{Ohb}
use Rattle.perc_ekt.specs.Field as field
use Rattle.perc_ekt.specs.Field.{Field}
use Rattle.perc_srtp.specs.Sealed.{rtcp_aad, rtcp_iv, rtcp_ssrc, rtcp_word, sealed_body, sealed_rtcp}
use Rattle.perc_double.specs.Double.{nothing_kept, opened, relayed}
use Rattle.perc_keyset.specs.declared.Entry.{Entry}
use Rattle.perc_outgoing.specs.Sending.{Outgoing, sent_datagram, sent_field, sent_header, sent_inner, sent_rtcp}
use Rattle.perc_outgoing.specs.History.{HopByHop, Seal, inner_seal, outer_seal, rtcp_seal}
use Rattle.perc_distributor.specs.declared.fault.ForwardFault.{ForwardFault}
use Rattle.perc_distributor.specs.Inbound.{Control, Media, Packet, in_set}
use Rattle.perc_distributor.specs.Forwarding.{Dropped, Sealed, Sealing, Sent, media_index, media_step, recipients, sealing_of, sent_each, sent_from, sent_media, sent_to, with_sealing}
use Rattle.perc_headline.specs.Nonces.{AreSealedWith, IsSealedTwice, IsSealedWith, control_seals, hop_seal, media_seals, seals_each, seals_from, seals_to, step_seals}
use Rattle.perc_headline.proofs.Sealing.{control_step}

-- the seal of an RTCP packet under a master, at an index
abbrev rtcp_under : KeyAndSalt → ℕ → List ℕ → Seal
rtcp_under master index octets =
    record { layer = HopByHop; master = master; kind = Srtcp; iv_is = rtcp_iv (session_keys master Srtcp).salt (rtcp_ssrc octets) index }

-- ---- a send

-- What a member sends is sealed twice.
pub sent_twice : (o : Outgoing) (content : Content) → IsSealedTwice (inner_seal o) (outer_seal o) (sent_datagram o content)
unfolding sent_datagram sealed_body
sent_twice o content = record {
  outside = record {
    front = spelling (sent_header o content);
    additional = spelling (sent_header o content);
    text = opened (sent_inner o content) nothing_kept;
    behind = field.spelling (sent_field o);
    is = refl;
  };
  inside = record { front = []; additional = spelling (cut (sent_header o content)); text = rest_of content; behind = block.spelling nothing_kept; is = refl };
}

-- ---- a control packet

-- An RTCP packet holds its sealed text behind its first 8 octets, and in front of the word.
rtcp_with : (master : KeyAndSalt) (index : ℕ) (octets : List ℕ) → IsSealedWith (rtcp_under master index octets) (sealed_rtcp (session_keys master Srtcp) index octets)
unfolding sealed_rtcp
rtcp_with master index octets = record { front = take 8 octets; additional = rtcp_aad index octets; text = drop 8 octets; behind = rtcp_word index; is = refl }

-- A member's control packet is sealed with its seal.
pub control_sealed : (o : Outgoing) (plain : List ℕ) → IsSealedWith (rtcp_seal o plain) (sent_rtcp o plain)
control_sealed o plain = rtcp_with o.client o.rtcp plain

-- ---- a forward

media_with : (e : Entry) (index : ℕ) (change : Rewrite) (h : Header) (inner : List ℕ) (o : Ohb) (f : Field)
    → IsSealedWith (hop_seal e Srtp h.ssrc index)
    (spelling (relayed h change) ++ sealed_body (session_keys e.server Srtp) index (relayed h change) (opened inner (block_after h o change)) ++ field.spelling f)
unfolding sealed_body
media_with e index change h inner o f = record {
  front = spelling (relayed h change);
  additional = spelling (relayed h change);
  text = opened inner (block_after h o change);
  behind = field.spelling f;
  is = refl;
}

-- an output, and the seals of it
abbrev IsSealedSo : Sent → List Seal → Type 0
IsSealedSo output seals = AreSealedWith (output ∷ []) seals

media_so : (s : Sealing) (e : Entry) (place : ℕ) (change : Rewrite) (h : Header) (inner : List ℕ) (o : Ohb) (f : Field) (at : Result ℕ ForwardFault)
    → IsSealedSo (sent_media s e place change h inner o f at).0 (media_seals e h.ssrc at)
media_so s e place change h inner o f (Err fault) = tt
media_so s e place change h inner o f (Ok index) = (media_with e index change h inner o f, tt)

control_so : (s : Sealing) (e : Entry) (place : ℕ) (octets : List ℕ) (long spent : Bool)
    → IsSealedSo (control_step s e place octets long spent).0 (control_seals s e octets (control_step s e place octets long spent).0)
control_so s e place octets true spent = tt
control_so s e place octets false true = tt
control_so s e place octets false false = (rtcp_with e.server s.rtcp octets, tt)

to_so : (s : Sealing) (e : Entry) (place : ℕ) (change : Rewrite) (packet : Packet) → IsSealedSo (sent_to s e place change packet).0 (seals_to s e place change packet)
to_so s e place change (Media from h inner o f) = media_so s e place change h inner o f (media_index s.streams h inner o f change)
to_so s e place change (Control from octets) = control_so s e place octets (nat_lt 1500 (length octets + 20)) (nat_le (2 ^ 31) s.rtcp)

both_so : (outputs more : List Sent) (seals others : List Seal) → AreSealedWith outputs seals → AreSealedWith more others → AreSealedWith (outputs ++ more) (seals ++ others)
both_so [] more [] others are rest = rest
both_so [] more (u ∷ seals) others are rest = absurd are
both_so (Dropped place to f ∷ outputs) more seals others are rest = both_so outputs more seals others are rest
both_so (Sealed place to octets ∷ outputs) more [] others are rest = absurd are
both_so (Sealed place to octets ∷ outputs) more (u ∷ seals) others are rest = (are.0, both_so outputs more seals others are.1 rest)

each_so : (entries : List Entry) (place : ℕ) (change : Rewrite) (packet : Packet) (sealing : List Sealing)
    → AreSealedWith (sent_each entries place change packet sealing).0 (seals_each entries place change packet sealing)
each_so [] place change packet sealing = tt
each_so (e ∷ entries) place change packet sealing =
    let s : Sealing = sealing_of sealing e.serial in
    let one = sent_to s e place change packet in
    both_so (one.0 ∷ []) (sent_each entries place change packet (with_sealing one.1 sealing)).0 (seals_to s e place change packet)
    (seals_each entries place change packet (with_sealing one.1 sealing)) (to_so s e place change packet) (each_so entries place change packet (with_sealing one.1 sealing))

from_so : (number of : ℕ) (set : List Entry) (place : ℕ) (batch : List Packet) (change : Rewrite) (only : Option (List (List ℕ))) (sealing : List Sealing)
    → AreSealedWith (sent_from number of set place batch change only sealing).0 (seals_from number of set place batch change only sealing)
from_so number of set place [] change only sealing = tt
from_so number of set place (packet ∷ batch) change only sealing =
    let to : List Entry = recipients number of set only packet in
    let one = sent_each to place change packet sealing in
    both_so one.0 (sent_from number of set (place + 1) batch change only one.1).0 (seals_each to place change packet sealing)
    (seals_from number of set (place + 1) batch change only one.1) (each_so to place change packet sealing) (from_so number of set (place + 1) batch change only one.1)

-- What the distributor seals are its outputs that aren't dropped.
pub step_so : (number of : ℕ) (set : List Entry) (batch : List Packet) (change : Rewrite) (only : Option (List (List ℕ))) (sealing : List Sealing)
    → AreSealedWith (media_step number of set batch change only sealing).0 (step_seals number of set batch change only sealing)
unfolding media_step step_seals
step_so number of set [] change only sealing = tt
step_so number of set (packet ∷ batch) change only sealing = from_so number of set 0 (packet ∷ batch) change only (filter (λ x. in_set set x.serial) sealing)
