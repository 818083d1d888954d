use Rattle.std.proofs.Common.{sym, ◌∙◌}
use Rattle.perc_word.proofs.Split.{part-first, part-alone}
use Rattle.perc_word.proofs.words.split_part.Goals as goal

pub returns-in-Some : goal.returns-in-Some
returns-in-Some c = part-first c.args.separator c.args.text.now c.in-Some.end (sym c.octet_in.ensures ∙ c.in-Some.is)

pub returns-in-None : goal.returns-in-None
returns-in-None c = part-alone c.args.separator c.args.text.now (sym c.octet_in.ensures ∙ c.in-None.is)
