-- What is appended so far, with what the older contexts give, is the whole.
use Rattle.std.proofs.Common.{◌≡◌, ◌+◌, ◌≤◌, ◌++◌, length, reverse, take}
use Rattle.perc_contexts.specs.Places.{nearest_tries}
use Rattle.perc_contexts.proofs.places.try_newest.Given as goal

abbrev pub invariant-loop-place : goal.invariant-loop-place
invariant-loop-place l = record {
  few : length l.list.items + l.room ≤ 5;
  items : l.fn.list.items ++ nearest_tries l.ssrc l.seq (reverse l.contexts) 4
      ≡ l.list.items ++ nearest_tries l.ssrc l.seq (reverse (take l.place l.contexts)) l.room;
}
