use Rattle.std.proofs.Common.{◌≡◌, ◌+◌, ◌≤◌, ◌++◌, None, length}
use Rattle.perc_tunnel.specs.Stream.{IsPart}
use Rattle.perc_keydist.specs.Calls.{KeepsOnce}
use Rattle.perc_keydist.proofs.Running.{GoesOn}
use Rattle.perc_keydist.proofs.distributor.hear_all.Given as goal

abbrev pub invariant-loop-rest : goal.invariant-loop-rest
invariant-loop-rest g l = record {
  heard : GoesOn (l.initial.decoder.held ++ l.bytes) l.initial.decoder.given l.decoder l.rest l.initial.desk l.desk l.left (g.H.Handshake.answers l.initial.hand)
      (g.K.Keeper.lists l.initial.keeper) (g.K.Keeper.lists l.keeper) (g.R.Randoms.left l.initial.randoms) (g.R.Randoms.left l.randoms) l.initial.out.items l.out.items;
  once : KeepsOnce (g.H.Handshake.answers l.initial.hand) (g.K.Keeper.lists l.initial.keeper) (g.K.Keeper.lists l.keeper) l.initial.out.items l.out.items;
  ready : l.decoder.fault ≡ None;
  part : IsPart l.decoder.held;
  all : l.decoder.given + length l.decoder.held + length l.rest ≡ l.initial.decoder.given + length l.initial.decoder.held + length l.bytes;
  few : l.initial.decoder.given + l.left ≤ l.decoder.given;
  profile : l.desk.profile ≡ l.initial.desk.profile;
  kept : g.H.Handshake.answers l.hand ≡ g.H.Handshake.answers l.initial.hand;
  keeper : g.K.Keeper.fault_count l.initial.keeper ≤ g.K.Keeper.fault_count l.keeper;
  hand : g.H.Handshake.fault_count l.initial.hand ≤ g.H.Handshake.fault_count l.hand;
  randoms : g.R.Randoms.fault_count l.initial.randoms ≤ g.R.Randoms.fault_count l.randoms;
}

abbrev pub decreases-loop-rest : goal.decreases-loop-rest
decreases-loop-rest g l = length l.rest
