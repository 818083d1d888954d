use Rattle.perc_ohb.specs.declared.block.Ohb.{Ohb}
use Rattle.std.proofs.Common.{refl, subst, sym}
use Rattle.perc_ohb.specs.Block.{IsOhb}
use Rattle.perc_ohb.specs.Rewriting.{block_after, rewrite_of}
use Rattle.perc_ohb.proofs.RewritingLaws.{IsOhb-after}
use Rattle.perc_double.specs.Double.{IsOpened, relayed}
use Rattle.perc_member.proofs.Packets.{head_len, put_together}
use Rattle.perc_member.proofs.datagram.relayed.Goals as goal

pub returns-clause-packet : goal.returns-clause-packet
returns-clause-packet c = λ h inner o rest is reads.
    let change = rewrite_of c.args.change.now in
    let g = relayed h change in
    let k = c.block_behind-block.result in
    let k_is = c.block_behind-block.ensures h inner o is in
    let items = c.extend_from_slice-3.new.self.items in
    subst (λ (k : Ohb). IsOpened g inner k items) k_is
    (put_together h g inner rest c.args.packet.now c.args.datagram.now c.write-len.new.out _ _ _ _ items o k c.parts_of-parts.result c.unwrap-header.result.len c.write-len.result is
    (c.parts_of-parts.ensures h inner o is)
    (record {
      header = reads;
      at_is = head_len g c.read.result c.unwrap-header.result (c.read.ensures.only g rest reads) c.unwrap-header.ensures;
      fits = subst IsOhb (sym k_is) (IsOhb-after h o change is.reads.header is.block);
      len_is = c.write-len.ensures.len;
      room_is = c.write-len.ensures.value;
      none_is = c.in_ok-unsealed.ensures.items;
      first_is = c.in_ok-extend_from_slice.ensures.items;
      second_is = c.in_ok-extend_from_slice-2.ensures.items;
      third_is = c.in_ok-extend_from_slice-3.ensures.items;
    }))
