use Rattle.std.proofs.Common.{ℕ, List, get_or, ap, ◌∙◌, sym, arith, below_more}
use Rattle.std.proofs.lemmas.Bool.{eq-eqb, eqb-true}
use Rattle.std.proofs.lemmas.List.{ext_get_or}
use Rattle.perc_gcm.proofs.Tags.{xor_none, or_none, none_or}
use Rattle.perc_gcm.proofs.are_same.Goals as goal

pub loop-i-preserved : goal.loop-i-preserved
loop-i-preserved c = record {
  same = λ e.
      let parts = or_none c.loop-i.differences _ e in
      below_more _ _ (c.loop-i.invariant.same parts.0) (xor_none _ _ parts.1);
  none = λ all.
      none_or c.loop-i.differences _ _ (c.loop-i.invariant.none (λ k h. all k (omega arith))) (all c.loop-i.i (omega arith));
}

pub returns : goal.returns
returns c = (
  (λ e. ext_get_or 0 c.args.a.now c.args.b.now (c.told-a ∙ sym c.told-b) (λ k h. c.loop-i.invariant.same (eqb-true c.loop-i.differences 0 e) k (omega arith))),
  (λ e. eq-eqb c.loop-i.differences 0 (c.loop-i.invariant.none (λ k h. ap (λ (xs : List ℕ). get_or xs k 0) e))),
)
