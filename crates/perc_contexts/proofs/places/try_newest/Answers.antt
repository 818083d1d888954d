-- Where no more are to be tried, all is appended.
use Rattle.std.proofs.Common.{◌++◌, ◌∙◌, sym, ap, append-nil}
use Rattle.perc_contexts.proofs.Found.{nearest_tries-none}
use Rattle.perc_contexts.proofs.places.try_newest.Goals as goal

pub returns-then-room-eq0 : goal.returns-then-room-eq0
returns-then-room-eq0 c =
    sym (append-nil c.loop-place.list.items)
    ∙ sym (c.loop-place.invariant.items ∙ rw (c.if-room-eq0.true) (ap (λ l. c.loop-place.list.items ++ l) (nearest_tries-none _ _ _)))
