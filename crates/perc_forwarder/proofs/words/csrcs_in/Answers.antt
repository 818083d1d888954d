use Rattle.std.proofs.Common.{◌≤◌, ℕ, List, [], length, unwrap_or, Option, IfSome, sym, ap, ◌∙◌, subst}
use Rattle.perc_forwarder.proofs.Copying.{all_copied, none_copied, one_copied}
use Rattle.perc_forwarder.proofs.words.csrcs_in.Goals as goal

pub loop-csrc-init : goal.loop-csrc-init
loop-csrc-init c =
    let few : length c.in-Some.csrcs ≤ 15 = subst (λ (o : Option (List ℕ)). IfSome o (λ list. length list ≤ 15)) c.in-Some.is c.requires in
    none_copied c.into_iter-csrc-iterator.result c.args.out.now (subst (λ (l : List ℕ). length l ≤ 15) (sym c.into_iter-csrc-iterator.ensures.into_iter_gives) few) c.told-out

pub loop-csrc-preserved : goal.loop-csrc-preserved
loop-csrc-preserved c =
    one_copied c.into_iter-csrc-iterator.result c.loop-csrc.out c.loop-csrc.count c.loop-csrc.csrc-iterator c.in-Some-csrc.csrc c.next.new.self c.loop-csrc.invariant c.in-Some-csrc.ensures.steps

pub returns-clause-value : goal.returns-clause-value
returns-clause-value c =
    all_copied c.into_iter-csrc-iterator.result c.loop-csrc.out c.loop-csrc.count c.loop-csrc.csrc-iterator c.loop-csrc.invariant c.in-None.ensures.steps.0
    ∙ c.into_iter-csrc-iterator.ensures.into_iter_gives ∙ sym (ap (λ (o : Option (List ℕ)). unwrap_or o []) c.in-Some.is)
