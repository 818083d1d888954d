use Rattle.std.proofs.Common.{refl, arith}
use Rattle.perc_ohb.specs.Block as block
use Rattle.perc_double.proofs.Building.{body_put}
use Rattle.perc_double.proofs.parts.put_body.Goals as goal

pub returns : goal.returns
returns c = (
  omega arith,
  omega arith,
  body_put c.args.octets.now _ (block.spelling c.args.ohb.now) c.args.out.now _ _ _ c.put_block.new.packet c.args.at _ c.put_block.result
      (record {
        within = omega arith;
        last_is = refl;
        n_is = c.put_block.ensures.end;
        mid_is = c.copy_from_slice.ensures.after;
        octets_put = refl;
        block_put = c.put_block.ensures.written;
      }),
)
