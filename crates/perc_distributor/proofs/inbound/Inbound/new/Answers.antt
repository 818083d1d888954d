use Rattle.std.proofs.Common.{ℕ, ◌+◌, ◌∷◌, [], length, sym, ap, subst, ◌∙◌, arith}
use Rattle.std.proofs.lemmas.List.{length-append}
use Rattle.perc_distributor.proofs.HearingLaws.{AreFree, free_hears, free_origins, free_push}
use Rattle.perc_distributor.proofs.inbound.Inbound.new.Goals as goal

pub loop-init : goal.loop-init
loop-init c = record { size = ap length c.in-Ok.ensures.items; free = subst AreFree (sym c.in-Ok.ensures.items) tt }

pub loop-preserved : goal.loop-preserved
loop-preserved c = record {
  size = ap length c.in_ok-put.ensures ∙ length-append c.loop.origins.items (c.in_ok-origin.origin ∷ []) ∙ ap (λ (n : ℕ). n + 1) c.loop.invariant.size;
  free = subst AreFree (sym c.in_ok-put.ensures) (free_push c.loop.origins.items c.in_ok-origin.origin c.loop.invariant.free c.in_ok-origin.ensures);
}

pub invariant_of-result : goal.invariant_of-result
invariant_of-result c = free_origins c.loop.origins.items c.loop.invariant.free (c.loop.invariant.size ∙ omega arith)

pub returns : goal.returns
returns c = free_hears c.loop.origins.items c.loop.invariant.free
