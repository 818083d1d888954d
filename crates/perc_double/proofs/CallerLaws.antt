-- Laws for the callers: what they have read is what the functions ask for.
use Rattle.std.proofs.Common.{◌≡◌, ℕ, ◌-◌, List, [], ◌++◌, length, take, drop, sym, ap, ◌∙◌}
use Rattle.std.proofs.lemmas.List.{append-nil, drop_at, take_at, take_rest}
use Rattle.perc_rtp.specs.Header.{Header, IsPacket, spelling}
use Rattle.perc_ohb.specs.declared.block.Ohb.{Ohb}
use Rattle.perc_ohb.specs.Block.{EndsIn, IsOhb}
use Rattle.perc_ohb.specs.Rewriting.{restored}
use Rattle.perc_ohb.proofs.RewritingLaws.{IsHeader-restored}
use Rattle.perc_double.specs.Double.{IsOpened}

-- a packet that was read, and the block at the end of what stands behind its header
pub record ReadsBlock (h : Header) (rest before packet behind : List ℕ) (o : Ohb) (n : ℕ) : Type 0 where
  pub packet_is : IsPacket h rest packet
  pub len : n ≡ length (spelling h)
  pub part : behind ≡ take (length packet - n) (drop n packet)
  pub ends : EndsIn o before behind

-- It is an opened packet, with the octets before the block as inner octets.
pub reads_opened : (h : Header) (rest before packet behind : List ℕ) (o : Ohb) (n : ℕ) → ReadsBlock h rest before packet behind o n → IsOpened h before o packet
reads_opened h rest before packet behind o n is =
    let p = is.packet_is in
    let all : behind ≡ rest =
    is.part ∙ take_rest packet n ∙ ap (drop n) p.octets ∙ drop_at (spelling h) rest n (sym is.len) in
    record {
      block = is.ends.block;
      reads = record { header = p.header; octets = p.octets ∙ ap (λ (xs : List ℕ). spelling h ++ xs) (sym all ∙ is.ends.split) };
    }

-- A restored header at the front of a list is a packet with nothing behind it.
pub reads_restored : (h : Header) (o : Ohb) (rest packet out behind : List ℕ) (n : ℕ) → IsPacket h rest packet → IsOhb o
    → n ≡ length (spelling (restored h o)) → out ≡ spelling (restored h o) ++ behind → IsPacket (restored h o) [] (take n out)
reads_restored h o rest packet out behind n is block_is n_is out_is =
    let r : List ℕ = spelling (restored h o) in
    record {
      header = IsHeader-restored h o is.header block_is;
      octets = ap (take n) out_is ∙ take_at r behind n (sym n_is) ∙ sym (append-nil r);
    }
