use Rattle.perc_aes.proofs.Blocks.{state_of_block}
use Rattle.perc_aes.proofs.state.State.of_block.Goals as goal

pub returns : goal.returns
returns c =
    state_of_block c.args.block.now _ c.told-block c.word_at.ensures c.word_at-2.ensures c.word_at-3.ensures c.word_at-4.ensures
