-- The context at the place says what its window says.
use Rattle.std.proofs.Common.{◌≡◌, Some, ap, ◌∙◌}
use Rattle.std.specs.Prelude.{slice_get}
use Rattle.perc_window.specs.Replay.{freshness}
use Rattle.perc_contexts.proofs.Standing.{are_of-at, at_within}
use Rattle.perc_contexts.proofs.Contexts.fresh.Goals as goal

pub returns-in-Held : goal.returns-in-Held
returns-in-Held c = λ held ssrc carried a stands is_try.
    let there : slice_get held.contexts c.in-Held.place ≡ Some a.context = rw c.in-Held.is at is_try.context in
    let one = are_of-at c.args.self.now.contexts held.contexts c.in-Held.place c.index.result.now a.context
    stands.contexts (rw (← c.self.view_is) c.index.ensures) (at_within _ _ _ _ stands.contexts there) there in
    c.fresh.ensures a.context one ∙ ap (λ i. freshness a.context.accepted i) is_try.index
