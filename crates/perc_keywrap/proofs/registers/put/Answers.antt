use Rattle.std.proofs.Common.{◌+◌, ◌-◌, ◌*◌, ◌∙◌, drop, arith, length-drop}
use Rattle.std.proofs.lemmas.List.{take_all}
use Rattle.perc_keywrap.proofs.Steps.{put_made}
use Rattle.perc_keywrap.proofs.registers.put.Goals as goal

pub returns : goal.returns
returns c =
    let i = c.args.i in
    put_made c.args.octets.now c.args.block.now c.copy_from_slice.new.self c.copy_from_slice-2.new.self i (8 * i + 8 - 8 * i)
    c.requires.after_first c.requires.within c.told-block (omega arith) c.copy_from_slice.ensures.after
    (c.copy_from_slice-2.ensures.after ∙ take_all 8 (drop 8 c.args.block.now) (omega (arith, length-drop 8 c.args.block.now, c.told-block)))
