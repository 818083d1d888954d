use Rattle.std.proofs.Common.{arith}
use Rattle.perc_generator.proofs.Texts.{script_done, script_step}
use Rattle.perc_generator.proofs.generator.write_script.Goals as goal

pub returns : goal.returns
returns c = script_done c.args.out.now.items _ c.args.rounds c.loop-round.round (omega (arith, c.loop-round-test.false, c.loop-round.auto.round-end)) c.loop-round.invariant

pub loop-round-preserved : goal.loop-round-preserved
loop-round-preserved c = script_step c.args.out.now.items c.loop-round.out.items _ c.loop-round.round c.loop-round.invariant c.in_ok-write_round.ensures
