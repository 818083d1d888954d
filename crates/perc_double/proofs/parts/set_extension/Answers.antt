use Rattle.std.proofs.Common.{arith}
use Rattle.perc_double.proofs.Building.{extension_put}
use Rattle.perc_double.proofs.parts.set_extension.Goals as goal

pub returns-clause-header : goal.returns-clause-header
returns-clause-header c = λ h rest is.
    extension_put h c.args.profile c.args.words.now c.drop_extension-cut.new.out c.write_words.new.out _ _ c.drop_extension-cut.result c.with_extension_bit.result
    (c.drop_extension-cut.ensures.header h rest is) is.header c.write_words.ensures.fits (omega arith) c.with_extension_bit.ensures c.write_words.ensures.written
