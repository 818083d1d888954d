use Rattle.std.proofs.Common.{◌≡◌, ◌-◌, suc, sym, ◌∙◌, arith}
use Rattle.perc_aes.specs.Cipher.{aes}
use Rattle.perc_aes.specs.Words.{octets_of}
use Rattle.perc_aes.proofs.CipherLaws.{aes_injective}
use Rattle.perc_aes.proofs.Rounds.{IsBlock-octets_of, leads_last, leads_back, leads_first}
use Rattle.perc_aes.proofs.AesKey.decrypt_block.Goals as goal

pub loop-round-init : goal.loop-round-init
loop-round-init c = record {
  some = omega arith;
  leads =
      leads_last c.args.self.now c.args.block.now (octets_of c.add-state.result) c.rounds-rounds.result c.told-block c.rounds-rounds.ensures.value
      (rw (c.of_block.ensures, c.round_key.ensures) at c.add-state.ensures);
}

pub loop-round-preserved : goal.loop-round-preserved
loop-round-preserved c =
    let next : suc (c.loop-round.round - 1 - 1) ≡ c.loop-round.round - 1 = omega arith in
    record {
      some = omega arith;
      leads =
          leads_back c.args.self.now c.args.block.now (octets_of c.loop-round.state) (octets_of c.inverse_round-state.result) _ (c.loop-round.round - 1 - 1) _
          (IsBlock-octets_of c.loop-round.state) (rw next c.loop-round.invariant.leads) c.inverse_round-state.ensures c.round_key-in-loop-round.ensures (omega arith);
    }

back : (c : goal.After-block-octets) → aes c.args.self.now c.block-octets.result ≡ c.args.block.now
back c =
    let done : c.loop-round.round - 1 ≡ 0 = omega arith in
    leads_first c.args.self.now c.args.block.now (octets_of c.loop-round.state) c.block-octets.result (IsBlock-octets_of c.loop-round.state)
    (rw done at c.loop-round.invariant.leads) (c.block-octets.ensures ∙ rw c.round_key-2.ensures at c.inverse_last_round.ensures)

pub returns-clause-block : goal.returns-clause-block
returns-clause-block c = rw c.block-octets.ensures (IsBlock-octets_of c.inverse_last_round.result)

pub returns-clause-value : goal.returns-clause-value
returns-clause-value c = back c

pub returns-clause-only : goal.returns-clause-only
returns-clause-only c = λ b block same.
    aes_injective c.args.self.now c.block-octets.result b c.rounds-rounds.ensures.key (rw c.block-octets.ensures (IsBlock-octets_of c.inverse_last_round.result)) block (back c ∙ sym same)
