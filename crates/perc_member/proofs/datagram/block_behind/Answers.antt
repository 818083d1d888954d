use Rattle.std.proofs.Common.{[], ap, ◌∙◌}
use Rattle.perc_ohb.specs.declared.block.Ohb.{Ohb}
use Rattle.perc_ohb.specs.Rewriting.{block_after, rewrite_of}
use Rattle.perc_member.proofs.Packets.{front_packet}
use Rattle.perc_member.proofs.datagram.block_behind.Goals as goal

pub returns : goal.returns
returns c = λ h inner o is.
    let parts = c.requires.parts h inner o is in
    c.rewrite.ensures.block h [] (front_packet h _ c.args.packet.now c.copy_from_slice.new.self c.args.parts.now.header is.reads parts.header c.copy_from_slice.ensures.after)
    ∙ ap (λ (k : Ohb). block_after h k (rewrite_of c.args.change.now)) parts.ohb
