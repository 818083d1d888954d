use Rattle.std.proofs.Common.{◌≡◌, ◌+◌, ◌≤◌, None, Ok, length}
use Rattle.perc_keydist.specs.Calls.{KeepsOnce}
use Rattle.perc_keydist.specs.Feeding.{Feeds, itself}
use Rattle.perc_keydist.proofs.distributor.hear_held.Given as goal

abbrev pub invariant-loop-has_left : goal.invariant-loop-has_left
invariant-loop-has_left g l = record {
  heard : Feeds itself l.initial.decoder.held l.initial.decoder.given l.decoder l.initial.desk l.desk (Ok l.left) (g.H.Handshake.answers l.initial.hand)
      (g.K.Keeper.lists l.initial.keeper) (g.K.Keeper.lists l.keeper) (g.R.Randoms.left l.initial.randoms) (g.R.Randoms.left l.randoms) l.initial.out.items l.out.items;
  once : KeepsOnce (g.H.Handshake.answers l.initial.hand) (g.K.Keeper.lists l.initial.keeper) (g.K.Keeper.lists l.keeper) l.initial.out.items l.out.items;
  ready : l.decoder.fault ≡ None;
  all : l.decoder.given + length l.decoder.held ≡ l.initial.decoder.given + length l.initial.decoder.held;
  few : l.initial.decoder.given + l.left ≤ l.decoder.given;
  profile : l.desk.profile ≡ l.initial.desk.profile;
  kept : g.H.Handshake.answers l.hand ≡ g.H.Handshake.answers l.initial.hand;
  keeper : g.K.Keeper.fault_count l.initial.keeper ≤ g.K.Keeper.fault_count l.keeper;
  hand : g.H.Handshake.fault_count l.initial.hand ≤ g.H.Handshake.fault_count l.hand;
  randoms : g.R.Randoms.fault_count l.initial.randoms ≤ g.R.Randoms.fault_count l.randoms;
}

abbrev pub decreases-loop-has_left : goal.decreases-loop-has_left
decreases-loop-has_left g l = length l.decoder.held
