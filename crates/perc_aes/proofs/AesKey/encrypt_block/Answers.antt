use Rattle.std.proofs.Common.{◌≡◌, arith, ◌∙◌}
use Rattle.perc_aes.proofs.Rounds.{state_first, state_next, aes_last}
use Rattle.perc_aes.proofs.AesKey.encrypt_block.Goals as goal

pub loop-round-init : goal.loop-round-init
loop-round-init c =
    state_first c.args.self.now c.args.block.now _ (rw (c.of_block.ensures, c.round_key.ensures) at c.add-state.ensures)

pub loop-round-preserved : goal.loop-round-preserved
loop-round-preserved c =
    c.whole_round-state.ensures
    ∙ rw c.round_key-in-loop-round.ensures
    (state_next c.args.self.now c.args.block.now _ c.loop-round.round (omega arith) c.loop-round.invariant)

pub returns-clause-value : goal.returns-clause-value
returns-clause-value c =
    let done : c.loop-round.round ≡ c.rounds-last.result = omega arith in
    c.block-octets.ensures ∙ c.last_round.ensures
    ∙ rw c.round_key-2.ensures
    (aes_last c.args.self.now c.args.block.now _ c.rounds-last.result c.rounds-last.ensures.value (rw done at c.loop-round.invariant))
