use Rattle.std.proofs.Common.{List, ℕ, get_or, bit_xor, ap, ◌∙◌, arith}
use Rattle.std.specs.Int.{w128, to_be_bytes}
use Rattle.perc_gcm.specs.Gcm.{element}
use Rattle.perc_gcm.proofs.Numbers.{octets_of_sum}
use Rattle.perc_gcm.proofs.counter.add_mask.Goals as goal

pub returns : goal.returns
unfolding element
returns c = λ k inside.
    ap (λ (xs : List ℕ). get_or xs k 0) c.block_of.ensures
    ∙ ap (λ (x : ℕ). get_or (to_be_bytes w128 (bit_xor x c.from_be_bytes-2.result)) k 0) c.from_be_bytes.ensures
    ∙ ap (λ (x : ℕ). get_or (to_be_bytes w128 (bit_xor (element c.args.block.now) x)) k 0) c.from_be_bytes-2.ensures
    ∙ octets_of_sum c.args.block.now c.args.mask.now k
    (record { size = c.told-block; octets = λ j. omega (arith, c.fits-block j) })
    (record { size = c.told-mask; octets = λ j. omega (arith, c.fits-mask j) })
