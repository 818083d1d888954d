use Rattle.perc_keywrap.proofs.WrapLaws.{one_plain_text}
use Rattle.perc_keywrap.proofs.laws.one_plain_text.Goals as goal

pub returns : goal.returns
returns c = one_plain_text
