use Rattle.std.specs.Prelude.{Some}
use Rattle.std.proofs.Common.{◌≡◌, ℕ, List, take, ap, ◌∙◌}
use Rattle.perc_base.specs.Memory.{faultless_randoms_left}
use Rattle.perc_base.specs.declared.randoms.FaultlessRandoms.{FaultlessRandoms}
use Rattle.perc_keydist.specs.declared.handshake.ClearHandshake.{ClearHandshake}
use Rattle.perc_key_service.specs.declared.keeper.FaultlessKeeper.{FaultlessKeeper}
use Rattle.perc_key_service.specs.Keeper.{faultless_lists}
use Rattle.perc_key_service.proofs.Messages.{calm_of, has_fault, heard_done, is_memory, same_behind}
use Rattle.perc_key_service.proofs.hearing.feed.Goals as goal

pub only_memory-requires : goal.only_memory-requires
only_memory-requires c =
    let m = c.requires.calm in
    let f = c.feed-heard in
    let e = c.in-Err.ensures in
    is_memory c.args.keydist.now f.new.self m.0 (take c.args.len c.args.octets.now) (faultless_lists c.args.keeper.now) (faultless_lists f.new.keeper) (faultless_randoms_left c.args.randoms.now)
    (Some (faultless_randoms_left f.new.randoms)) c.args.out.now.items f.new.out.items m.1 m.2 c.requires.idle m.3 FaultlessKeeper ClearHandshake FaultlessRandoms _ _ _ _ _ _ ℕ c.in-Err.fault (e.fed, e.stopped) e.keeper e.hand e.randoms

pub returns-in-Ok-clause-heard : goal.returns-in-Ok-clause-heard
returns-in-Ok-clause-heard c = λ m is spelled.
    let f = c.feed-heard in
    let e = c.in-Ok.ensures in
    let calm = calm_of c.requires.calm.0 m (take c.args.len c.args.octets.now) c.requires.calm.1 is c.requires.calm.2 spelled c.args.keydist.now (faultless_lists c.args.keeper.now)
    (faultless_randoms_left c.args.randoms.now) c.requires.calm.3 in
    heard_done c.args.keydist.now f.new.self m (take c.args.len c.args.octets.now) (faultless_lists c.args.keeper.now) (faultless_lists f.new.keeper) (faultless_randoms_left c.args.randoms.now)
    (Some (faultless_randoms_left f.new.randoms)) c.args.out.now.items f.new.out.items is spelled c.requires.idle calm FaultlessKeeper ClearHandshake FaultlessRandoms _ _ _ _ _ _ c.in-Ok.field-0 (e.fed, e.stopped)

pub returns-in-Err-clause-refused : goal.returns-in-Err-clause-refused
returns-in-Err-clause-refused c =
    let m = c.requires.calm in
    let f = c.feed-heard in
    let e = c.in-Err.ensures in
    has_fault c.args.keydist.now f.new.self m.0 (take c.args.len c.args.octets.now) (faultless_lists c.args.keeper.now) (faultless_lists f.new.keeper) (faultless_randoms_left c.args.randoms.now)
    (Some (faultless_randoms_left f.new.randoms)) c.args.out.now.items f.new.out.items m.1 m.2 c.requires.idle m.3 FaultlessKeeper ClearHandshake FaultlessRandoms _ _ _ _ _ _ c.in-Err.fault (e.fed, e.stopped)
    ∙ ap Some
    (is_memory c.args.keydist.now f.new.self m.0 (take c.args.len c.args.octets.now) (faultless_lists c.args.keeper.now) (faultless_lists f.new.keeper) (faultless_randoms_left c.args.randoms.now)
    (Some (faultless_randoms_left f.new.randoms)) c.args.out.now.items f.new.out.items m.1 m.2 c.requires.idle m.3 FaultlessKeeper ClearHandshake FaultlessRandoms _ _ _ _ _ _ ℕ c.in-Err.fault (e.fed, e.stopped) e.keeper e.hand e.randoms)

pub returns-in-Ok-clause-stays : goal.returns-in-Ok-clause-stays
returns-in-Ok-clause-stays c =
    let m = c.requires.calm in
    let f = c.feed-heard in
    same_behind c.args.keydist.now f.new.self m.0 (take c.args.len c.args.octets.now) (faultless_lists c.args.keeper.now) (faultless_lists f.new.keeper) (faultless_randoms_left c.args.randoms.now)
    (Some (faultless_randoms_left f.new.randoms)) c.args.out.now.items f.new.out.items m.1 m.2 c.requires.idle m.3 FaultlessKeeper ClearHandshake FaultlessRandoms _ _ _ _ _ _ _ (c.in-Ok.ensures.fed, c.in-Ok.ensures.stopped)

pub returns-in-Err-clause-stays : goal.returns-in-Err-clause-stays
returns-in-Err-clause-stays c =
    let m = c.requires.calm in
    let f = c.feed-heard in
    same_behind c.args.keydist.now f.new.self m.0 (take c.args.len c.args.octets.now) (faultless_lists c.args.keeper.now) (faultless_lists f.new.keeper) (faultless_randoms_left c.args.randoms.now)
    (Some (faultless_randoms_left f.new.randoms)) c.args.out.now.items f.new.out.items m.1 m.2 c.requires.idle m.3 FaultlessKeeper ClearHandshake FaultlessRandoms _ _ _ _ _ _ _ (c.in-Err.ensures.fed, c.in-Err.ensures.stopped)
