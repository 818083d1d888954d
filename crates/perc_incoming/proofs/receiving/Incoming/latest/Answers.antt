use Rattle.std.proofs.Common.{◌≡◌, ◌-◌, Some, length, ◌∙◌}
use Rattle.std.specs.Prelude.{slice_get}
use Rattle.perc_contexts.proofs.Lists.{last_is}
use Rattle.perc_incoming.proofs.Standing.{latest_in}
use Rattle.perc_incoming.proofs.receiving.Incoming.latest.Goals as goal

pub returns : goal.returns
returns c = λ r stands.
    let items = c.self.inside.records.items in
    let at : Some c.in-Some.last.now ≡ slice_get items (length items - 1) = rw c.deref.ensures.value at c.in-Some.ensures.value in
    latest_in items c.in-Some.last.now r.secrets (at ∙ last_is items) (rw (← c.self.view_is) at stands.secrets)
