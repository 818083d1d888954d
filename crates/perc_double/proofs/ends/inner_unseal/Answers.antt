use Rattle.std.proofs.Common.{◌<◌, length, refl, arith}
use Rattle.std.proofs.lemmas.List.{length-take}
use Rattle.perc_double.proofs.Answering.{short_unsealed}
use Rattle.perc_double.proofs.CutHeaders.{cut_header_short}
use Rattle.perc_double.proofs.ends.inner_unseal.Goals as goal

pub unseal_behind-requires-clause-few : goal.unseal_behind-requires-clause-few
unseal_behind-requires-clause-few c =
    let reads = c.requires.reads in (
      omega (arith, cut_header_short reads.0 c.args.header.now reads.1 reads.2),
      omega (arith, c.requires.few, length-take c.in-Some.len c.args.body.now),
    )

pub returns-in_default-clause-answer : goal.returns-in_default-clause-answer
returns-in_default-clause-answer c = λ h is.
    let few : length c.args.body.now < 16 = omega (arith, c.in_default.ensures) in
    rw (short_unsealed c.args.inner.now c.args.index h c.args.body.now few) (refl, refl)
