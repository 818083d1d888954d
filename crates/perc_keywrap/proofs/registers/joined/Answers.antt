use Rattle.std.proofs.Common.{◌+◌, ◌-◌, ◌*◌, [], ◌∷◌, refl, arith}
use Rattle.perc_keywrap.proofs.Steps.{joined_made}
use Rattle.perc_keywrap.proofs.registers.joined.Goals as goal

pub returns : goal.returns
returns c =
    let i = c.args.i in
    joined_made c.args.octets.now c.copy_from_slice.new.self c.copy_from_slice-2.new.self (0 ∷ 0 ∷ 0 ∷ 0 ∷ 0 ∷ 0 ∷ 0 ∷ 0 ∷ []) i (8 * i + 8 - 8 * i)
    c.requires.within refl (omega arith) c.copy_from_slice.ensures.after c.copy_from_slice-2.ensures.after
