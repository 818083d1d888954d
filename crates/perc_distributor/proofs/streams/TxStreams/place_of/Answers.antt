use Rattle.std.proofs.Common.{rules}
use Rattle.std.proofs.lemmas.List.Sorted.{answers_always}
use Rattle.perc_outer.proofs.Searching.{searched}
use Rattle.perc_distributor.proofs.streams.TxStreams.place_of.Goals as goal

-- the closure gives a stream's SSRC, and the slice is the streams
pub returns-clause-found : goal.returns-clause-found
returns-clause-found c =
    let facts = c.binary_search_by_key.ensures in
    let by_key = facts.position (λ s. s.ssrc) (answers_always _ _ _ (λ f a r g called. search rules)) in
    rw (← c.self.view_is, ← c.deref.ensures.value) ((searched _ c.args.ssrc _ (rw c.deref.ensures.value c.self.invariant.rising) facts.bound by_key).0)

pub returns-clause-absent : goal.returns-clause-absent
returns-clause-absent c =
    let facts = c.binary_search_by_key.ensures in
    let by_key = facts.position (λ s. s.ssrc) (answers_always _ _ _ (λ f a r g called. search rules)) in
    rw (← c.self.view_is, ← c.deref.ensures.value) ((searched _ c.args.ssrc _ (rw c.deref.ensures.value c.self.invariant.rising) facts.bound by_key).1)
