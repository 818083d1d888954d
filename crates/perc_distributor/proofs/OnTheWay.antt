-- A sealed media packet with its field is reached.
use Rattle.std.proofs.Common.{◌≡◌, ℕ, List, Option, None, Result, Ok, refl, ap, ◌∙◌}
use Rattle.perc_kdf.specs.Derivation.{KeyAndSalt, session_keys}
use Rattle.perc_kdf.specs.declared.Kind.TheVariants.{Srtp}
use Rattle.perc_rtp.specs.Header.{Header}
use Rattle.perc_ohb.specs.declared.block.Ohb.{Ohb}
use Rattle.perc_ohb.specs.Rewriting.{IsRewrite, block_after, Rewrite}
use Rattle.perc_ohb.specs.Block.{EndsIn}
use Rattle.perc_ohb.proofs.ReadingLaws.{block_read}
use Rattle.perc_ohb.proofs.RewritingLaws.{IsOhb-after}
use Rattle.perc_ekt.specs.Field.{Field}
use Rattle.perc_srtp.specs.Sealed.{sealed_body}
use Rattle.perc_srtp.proofs.Streaming.{rx_sealed_opens}
use Rattle.perc_double.specs.Double.{double, opened, relayed}
use Rattle.perc_double.proofs.RelayLaws.{IsHeader-relayed}
use Rattle.perc_keyset.specs.declared.Entry.{Entry}
use Rattle.perc_outer.specs.Streams.{OuterStream, accepted_of}
use Rattle.perc_outer.specs.Datagram.{Reach, Reached, opened_packet, reached}
use Rattle.perc_outer.proofs.Standing.{opened_by, refusing}
use Rattle.perc_outer.proofs.Outer.{IsRead, reached_whole}
use Rattle.perc_distributor.specs.declared.fault.InboundFault.{InboundFault}
use Rattle.perc_distributor.specs.Inbound.{Heard, Media, Packet, heard_of, taken, taken_reach}
use Rattle.perc_distributor.specs.Laws.{Awaits, ComesFrom, HasSpelling, datagram_of, opened_after, opened_as}
use Rattle.perc_distributor.specs.Parts.{media_datagram}

pub sealed_reached : (keys : KeyAndSalt) (own : Option ℕ) (streams : List OuterStream) (h : Header) (inner : List ℕ) (o : Ohb) (field : Field) (index : ℕ)
    → HasSpelling h o field → Awaits own streams h index
    → reached keys own streams (datagram_of keys index h inner o field) ≡ Reached (opened_as index h inner o field)
sealed_reached keys own streams h inner o field index spelled awaits =
    let rest : List ℕ = sealed_body keys index h (opened inner o) in
    let read : IsRead (datagram_of keys index h inner o field) (double keys index h inner o) field h rest = record {
      is_datagram = record { fits = spelled.field_is; octets = refl };
      is_packet = record { header = spelled.header_is; octets = refl };
    } in
    let ends : EndsIn o inner (opened inner o) = record { block = spelled.block_is; split = refl } in
    let opens : opened_packet keys streams h rest ≡ Ok (index, opened inner o) =
    opened_by keys streams h rest awaits.room ∙ ap refusing (rx_sealed_opens keys (accepted_of streams h.ssrc) h rest index (opened inner o) awaits.fresh refl) in
    reached_whole keys own streams (datagram_of keys index h inner o field) (double keys index h inner o) field h rest index (opened inner o) inner o read awaits.other opens
    (block_read o inner (opened inner o) ends)

pub relayed_reached : (keys : KeyAndSalt) (own : Option ℕ) (streams : List OuterStream) (h : Header) (inner : List ℕ) (o : Ohb) (field : Field) (change : Rewrite) (index : ℕ) → HasSpelling h o field
    → IsRewrite change → Awaits own streams (relayed h change) index
    → reached keys own streams (media_datagram keys h inner o field change index) ≡ Reached (opened_after index h inner o field change)
relayed_reached keys own streams h inner o field change index spelled may awaits =
    sealed_reached keys own streams (relayed h change) inner (block_after h o change) field index
    (record { header_is = IsHeader-relayed h change spelled.header_is may; block_is = IsOhb-after h o change spelled.header_is spelled.block_is; field_is = spelled.field_is }) awaits

taken_by : (set : List Entry) (heard : List Heard) (from : List ℕ) (e : Entry) (datagram : List ℕ) → ComesFrom set from e datagram
    → taken set heard from datagram ≡ taken_reach set heard e (reached (session_keys e.client Srtp) None (heard_of heard e.serial).streams datagram)
unfolding taken
taken_by set heard from e datagram comes = rw (comes.kind, comes.entry) refl

pub taken_as : (set : List Entry) (heard : List Heard) (from : List ℕ) (e : Entry) (h : Header) (inner : List ℕ) (o : Ohb) (field : Field) (index : ℕ) → HasSpelling h o field
    → ComesFrom set from e (datagram_of (session_keys e.client Srtp) index h inner o field) → Awaits None (heard_of heard e.serial).streams h index
    → (taken set heard from (datagram_of (session_keys e.client Srtp) index h inner o field)).0 ≡ Ok (Media e.association h inner o field)
taken_as set heard from e h inner o field index spelled comes awaits =
    ap (λ (t : Result Packet InboundFault × List Heard). t.0) (taken_by set heard from e (datagram_of (session_keys e.client Srtp) index h inner o field) comes)
    ∙ ap (λ (r : Reach). (taken_reach set heard e r).0) (sealed_reached (session_keys e.client Srtp) None (heard_of heard e.serial).streams h inner o field index spelled awaits)
