-- Laws of relayed packets: their headers, what is restored of them, and the indices at which they are sealed.
use Rattle.std.proofs.Common.{◌≡◌, ℕ, List, Ok, Option, Some, None, arith}
use Rattle.std.specs.Option.{unwrap_or}
use Rattle.std.specs.Prelude.{IfSome, nat_lt}
use Rattle.perc_rtp.specs.Header.{Header, IsExtension, IsHeader}
use Rattle.perc_srtp.specs.Streams.{tx_index}
use Rattle.perc_ohb.specs.declared.block.Ohb.{Ohb}
use Rattle.perc_ohb.specs.Rewriting.{IsRewrite, Rewrite, IsExtensionSet, block_after, restored}
use Rattle.perc_ohb.proofs.RewritingLaws.{IsHeader-changed, restored_with}
use Rattle.perc_double.specs.Double.{IsNext, relaying_index, relayed, relayed_length}
use Rattle.perc_double.proofs.Answering.{is_next, placed}

extension_fits : (extension : Option (ℕ × List ℕ)) (e : Option (Option (ℕ × List ℕ))) → IfSome extension IsExtension → IsExtensionSet e → IfSome (unwrap_or e extension) IsExtension
extension_fits extension None fits set = fits
extension_fits extension (Some None) fits set = tt
extension_fits extension (Some (Some e)) fits set = set.0

-- a relayed header is a header
pub IsHeader-relayed : (h : Header) (c : Rewrite) → IsHeader h → IsRewrite c → IsHeader (relayed h c)
IsHeader-relayed h c is change =
    let now = IsHeader-changed h c is change in
    record {
      pt = now.pt;
      seq = now.seq;
      timestamp = now.timestamp;
      ssrc = now.ssrc;
      csrc_count = now.csrc_count;
      csrcs = now.csrcs;
      extension = extension_fits h.extension c.extension is.extension change.extension;
    }

-- what is restored of a relayed packet is what was restored of the packet
pub restored_relayed : (h : Header) (o : Ohb) (c : Rewrite) → restored (relayed h c) (block_after h o c) ≡ restored h o
restored_relayed h o c = restored_with h o c (unwrap_or c.extension h.extension)

-- a packet is relayed at the next index
pub relayed_once : (before : List ℕ) (h : Header) (octets : List ℕ) (o : Ohb) (c : Rewrite) (index : ℕ) → relaying_index before h octets o c ≡ Ok index
    → IsNext before (relayed h c).seq index
relayed_once before h octets o c index is =
    is_next before (relayed h c).seq index (omega arith) (placed (nat_lt 1500 (relayed_length h octets o c)) (tx_index before (relayed h c).seq) index is)
