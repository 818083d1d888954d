use Rattle.std.proofs.Common.{◌≡◌, ◌≤◌, ◌++◌, Some, drop, length, take}
use Rattle.std.specs.List.{flat_map}
use Rattle.perc_tunnel.specs.Message.{spelling}
use Rattle.perc_keydist.specs.Answers.{Answers}
use Rattle.perc_keydist.specs.Gives.{renewals_to}
use Rattle.perc_keydist.proofs.distributor.append_renewals.Given as goal

abbrev pub invariant-loop-association : goal.invariant-loop-association
invariant-loop-association g l = record {
  told : (a : Answers) → g.H.Handshake.answers l.initial.hand ≡ Some a
      → l.out.items ++ flat_map spelling (renewals_to a l.granted (drop l.association-index l.members)) ≡ l.initial.out.items ++ flat_map spelling (renewals_to a l.granted l.members);
  front : take (length l.initial.out.items) l.out.items ≡ l.initial.out.items;
  kept : g.H.Handshake.answers l.hand ≡ g.H.Handshake.answers l.initial.hand;
  hand : g.H.Handshake.fault_count l.initial.hand ≤ g.H.Handshake.fault_count l.hand;
}
