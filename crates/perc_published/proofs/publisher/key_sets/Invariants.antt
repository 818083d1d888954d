use Rattle.std.proofs.Common.{◌≡◌, [], replicate}
use Rattle.perc_published.specs.Calls.{new_reader}
use Rattle.perc_published.proofs.publisher.key_sets.Given as goal

abbrev pub invariant-loop : goal.invariant-loop
invariant-loop l = record {
  accepted : l.publisher.accepted ≡ [];
  published : l.publisher.published ≡ [];
  made : l.made.items ≡ replicate l.counter (new_reader l.publisher.call);
}
