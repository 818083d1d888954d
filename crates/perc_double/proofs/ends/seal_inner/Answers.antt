use Rattle.std.proofs.Common.{List, ℕ, ◌+◌, ◌++◌, length, refl, ap, ◌∙◌, arith}
use Rattle.std.proofs.lemmas.List.{length-take}
use Rattle.perc_ohb.proofs.BlockLaws.{length-spelling}
use Rattle.perc_double.specs.Double.{inner, nothing_kept, opened}
use Rattle.perc_rtp.specs.Header.{spelling}
use Rattle.perc_ohb.specs.Block as block
use Rattle.perc_double.proofs.Building.{front_packet, inner_put}
use Rattle.perc_double.proofs.ends.seal_inner.Goals as goal

pub put_block-requires-clause-room : goal.put_block-requires-clause-room
put_block-requires-clause-room c = omega (arith, length-spelling nothing_kept)

pub returns-clause-len : goal.returns-clause-len
returns-clause-len c = omega (arith, length-spelling nothing_kept)

pub returns-clause-sealed : goal.returns-clause-sealed
returns-clause-sealed c = λ h body is.
    c.put_block.ensures.written
    ∙ inner_put c.seal_text-tag.new.packet _ c.args.packet.now (spelling h) (inner c.args.inner.now c.args.index h body) (block.spelling nothing_kept) _ c.args.len c.put_block.result
    (record {
      text_long = omega (arith, length-take c.args.len c.args.packet.now);
      end_long = omega (arith, ap length c.copy_from_slice.ensures.after);
      parts = ap (λ (xs : List ℕ). c.seal_text-tag.new.packet ++ xs) c.copy_from_slice.ensures.after ∙ c.seal_text-tag.ensures.sealed h body is;
      is_put = refl;
    })
    (returns-clause-len c)

pub returns-clause-reads : goal.returns-clause-reads
returns-clause-reads c = λ h body is.
    let rest : List ℕ = opened (inner c.args.inner.now c.args.index h body) nothing_kept in
    front_packet h rest c.args.packet.now c.put_block.new.packet (c.args.len + 17) c.put_block.result is.header (returns-clause-len c) (omega arith) (omega arith) (returns-clause-sealed c h body is)
