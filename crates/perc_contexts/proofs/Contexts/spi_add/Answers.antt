-- The contexts of the SPIs that stay are kept, and stand for those that are held.
use Rattle.perc_contexts.proofs.Standing.{well_kept-filter, renewed_stands}
use Rattle.perc_contexts.proofs.Contexts.spi_add.Goals as goal

pub invariant_of-self : goal.invariant_of-self
invariant_of-self c = rw (c.keep_live.ensures.items, c.keep_live.ensures.capacity) (well_kept-filter _ _ _ c.self.invariant)

pub returns-clause-renewed : goal.returns-clause-renewed
returns-clause-renewed c = λ held stands.
    renewed_stands _ held c.args.spi _ _ (rw (← c.self.view_is) at stands)
    (rw (c.push.ensures.items, c.retire-gone.ensures.left) (cc))
    (rw (c.keep_live.ensures.items, c.as_slice-2.ensures.value, c.retire-gone.ensures.left) (cc))
