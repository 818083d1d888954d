use Rattle.std.proofs.Common.{arith}
use Rattle.perc_generator.proofs.Joining.{line_appended, word_appended}
use Rattle.perc_generator.proofs.generator.write_line.Goals as goal

pub loop-word-init : goal.loop-word-init
loop-word-init c = ((c.in_ok-extend_from_slice.ensures).items, omega arith)

pub loop-word-preserved : goal.loop-word-preserved
loop-word-preserved c = (
  word_appended c.args.out.now.items c.args.verb.now c.args.words.now c.loop-word.word-index _ c.loop-word.out.items c.push.new.self.items _
      c.loop-word-test.true c.loop-word.invariant.0 (c.in_ok-push.ensures).items (c.in_ok-extend_from_slice-2.ensures).items,
  omega (arith, c.loop-word-test.true),
)

pub returns : goal.returns
returns c =
    line_appended c.args.out.now.items c.args.verb.now c.args.words.now c.loop-word.word-index c.loop-word.out.items _
    (omega (arith, c.loop-word-test.false, c.loop-word.invariant.1)) c.loop-word.invariant.0 (c.in_ok-push-2.ensures).items
