use Rattle.std.proofs.Common.{rules}
use Rattle.std.proofs.lemmas.Result.{IfOk-weaker}
use Rattle.perc_base.proofs.Taken.{TakesFront_end}
use Rattle.perc_base.proofs.lines.room.read_behind.Goals as goal

pub returns-clause-end : goal.returns-clause-end
returns-clause-end g c = search (rules, TakesFront_end, IfOk-weaker)
