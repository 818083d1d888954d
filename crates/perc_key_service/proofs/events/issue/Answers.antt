use Rattle.std.specs.Prelude.{Option, Some}
use Rattle.std.proofs.Common.{◌≡◌, ℕ, List, ◌++◌, ap, ◌∙◌}
use Rattle.perc_base.specs.Memory.{faultless_randoms_left}
use Rattle.perc_base.specs.declared.randoms.FaultlessRandoms.{FaultlessRandoms}
use Rattle.perc_keydist.specs.declared.handshake.ClearHandshake.{ClearHandshake}
use Rattle.perc_key_service.specs.declared.keeper.FaultlessKeeper.{FaultlessKeeper}
use Rattle.perc_key_service.specs.Keeper.{faultless_lists}
use Rattle.perc_key_service.proofs.Issuing as issuing
use Rattle.perc_key_service.proofs.events.issue.Goals as goal

pub only_memory-requires : goal.only_memory-requires
only_memory-requires c =
    let e = c.in-Err.ensures in
    issuing.is_memory c.args.keydist.now c.roll.new.self (faultless_lists c.args.keeper.now) (faultless_lists c.roll.new.keeper) c.args.key.now c.args.salt.now
    (faultless_randoms_left c.new-randoms.result) (Some (faultless_randoms_left c.roll.new.randoms)) _ _ c.requires.serving c.requires.may c.append_pair.ensures.size
    (c.new-randoms.ensures ∙ c.in_ok-append_pair.ensures.appended ∙ ap (λ (xs : List ℕ). xs ++ (c.args.key.now ++ c.args.salt.now)) c.new-octets.ensures.items) c.roll.ensures.decoding FaultlessKeeper ClearHandshake FaultlessRandoms _ _ _ _ _ _ c.in-Err.fault
    (record { done = e.rolled; state = e.state; stopped = e.stopped }) e.kinds e.keeper e.hand e.randoms

pub returns-in-Ok-clause-serving : goal.returns-in-Ok-clause-serving
returns-in-Ok-clause-serving c =
    let e = c.in-Ok.ensures in
    issuing.serves_on c.args.keydist.now c.roll.new.self (faultless_lists c.args.keeper.now) (faultless_lists c.roll.new.keeper) c.args.key.now c.args.salt.now
    (faultless_randoms_left c.new-randoms.result) (Some (faultless_randoms_left c.roll.new.randoms)) _ _ c.requires.serving c.requires.may c.append_pair.ensures.size
    (c.new-randoms.ensures ∙ c.in_ok-append_pair.ensures.appended ∙ ap (λ (xs : List ℕ). xs ++ (c.args.key.now ++ c.args.salt.now)) c.new-octets.ensures.items) c.roll.ensures.decoding FaultlessKeeper ClearHandshake FaultlessRandoms _ _ _ _ _ _ c.in-Ok.issued
    (record { done = e.rolled; state = e.state; stopped = e.stopped })

pub returns-in-Ok-clause-answer : goal.returns-in-Ok-clause-answer
returns-in-Ok-clause-answer c =
    let e = c.in-Ok.ensures in
    issuing.issued_is c.args.keydist.now c.roll.new.self (faultless_lists c.args.keeper.now) (faultless_lists c.roll.new.keeper) c.args.key.now c.args.salt.now
    (faultless_randoms_left c.new-randoms.result) (Some (faultless_randoms_left c.roll.new.randoms)) _ _ c.requires.serving c.requires.may c.append_pair.ensures.size
    (c.new-randoms.ensures ∙ c.in_ok-append_pair.ensures.appended ∙ ap (λ (xs : List ℕ). xs ++ (c.args.key.now ++ c.args.salt.now)) c.new-octets.ensures.items) c.roll.ensures.decoding FaultlessKeeper ClearHandshake FaultlessRandoms _ _ _ _ _ _ c.in-Ok.issued
    (record { done = e.rolled; state = e.state; stopped = e.stopped })

pub returns-in-Ok-clause-issued : goal.returns-in-Ok-clause-issued
returns-in-Ok-clause-issued c =
    let e = c.in-Ok.ensures in
    issuing.kept_is c.args.keydist.now c.roll.new.self (faultless_lists c.args.keeper.now) (faultless_lists c.roll.new.keeper) c.args.key.now c.args.salt.now
    (faultless_randoms_left c.new-randoms.result) (Some (faultless_randoms_left c.roll.new.randoms)) _ _ c.requires.serving c.requires.may c.append_pair.ensures.size
    (c.new-randoms.ensures ∙ c.in_ok-append_pair.ensures.appended ∙ ap (λ (xs : List ℕ). xs ++ (c.args.key.now ++ c.args.salt.now)) c.new-octets.ensures.items) c.roll.ensures.decoding FaultlessKeeper ClearHandshake FaultlessRandoms _ _ _ _ _ _ c.in-Ok.issued
    (record { done = e.rolled; state = e.state; stopped = e.stopped })

pub returns-clause-serving : goal.returns-clause-serving
returns-clause-serving c =
    let e = c.in-Err.ensures in
    issuing.out_serves c.args.keydist.now c.roll.new.self (faultless_lists c.args.keeper.now) (faultless_lists c.roll.new.keeper) c.args.key.now c.args.salt.now
    (faultless_randoms_left c.new-randoms.result) (Some (faultless_randoms_left c.roll.new.randoms)) _ _ c.requires.serving c.requires.may c.append_pair.ensures.size
    (c.new-randoms.ensures ∙ c.in_ok-append_pair.ensures.appended ∙ ap (λ (xs : List ℕ). xs ++ (c.args.key.now ++ c.args.salt.now)) c.new-octets.ensures.items) c.roll.ensures.decoding FaultlessKeeper ClearHandshake FaultlessRandoms _ _ _ _ _ _ c.in-Err.fault
    (record { done = e.rolled; state = e.state; stopped = e.stopped })
    (issuing.is_memory c.args.keydist.now c.roll.new.self (faultless_lists c.args.keeper.now) (faultless_lists c.roll.new.keeper) c.args.key.now c.args.salt.now
    (faultless_randoms_left c.new-randoms.result) (Some (faultless_randoms_left c.roll.new.randoms)) _ _ c.requires.serving c.requires.may c.append_pair.ensures.size
    (c.new-randoms.ensures ∙ c.in_ok-append_pair.ensures.appended ∙ ap (λ (xs : List ℕ). xs ++ (c.args.key.now ++ c.args.salt.now)) c.new-octets.ensures.items) c.roll.ensures.decoding FaultlessKeeper ClearHandshake FaultlessRandoms _ _ _ _ _ _ c.in-Err.fault
    (record { done = e.rolled; state = e.state; stopped = e.stopped }) e.kinds e.keeper e.hand e.randoms)
