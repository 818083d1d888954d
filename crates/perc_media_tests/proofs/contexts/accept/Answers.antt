-- A try that was answered and is fresh may be committed.
use Rattle.std.specs.Prelude.{Contains}
use Rattle.perc_contexts.specs.Receiving.{committed}
use Rattle.perc_contexts.proofs.Lists.{first-contained}
use Rattle.perc_contexts.proofs.ReceivingLaws.{answered, answered_one, answered_place, answered_commit}
use Rattle.perc_media_tests.proofs.contexts.accept.Goals as goal

pub fresh-requires : goal.fresh-requires
fresh-requires g c =
    let there : Contains c.in_ok-list.list.items c.in-Some.first.now = first-contained _ _ (rw c.as_slice.ensures.value at c.in-Some.ensures.value) in
    answered_place _ c.requires.0 c.args.ssrc c.args.seq _ _ c.in-Some.first.now c.requires.1
    (answered c.requires.0 c.args.ssrc c.args.seq _ c.in_ok-list.list (c.in_ok-list.ensures c.requires.0 c.requires.1)) there

pub commit-requires-clause-may : goal.commit-requires-clause-may
commit-requires-clause-may g c =
    let there : Contains c.in_ok-list.list.items c.in-Some.first.now = first-contained _ _ (rw c.as_slice.ensures.value at c.in-Some.ensures.value) in
    answered_commit _ c.requires.0 c.args.ssrc c.args.seq _ _ c.in-Some.first.now c.ranges.seq.fits c.requires.1
    (answered c.requires.0 c.args.ssrc c.args.seq _ c.in_ok-list.list (c.in_ok-list.ensures c.requires.0 c.requires.1)) there
    (λ a is_try. c.in-Fresh.ensures c.requires.0 c.args.ssrc _ a c.requires.1 is_try)

pub returns : goal.returns
returns g c =
    let there : Contains c.in_ok-list.list.items c.in-Some.first.now = first-contained _ _ (rw c.as_slice.ensures.value at c.in-Some.ensures.value) in
    let one = answered_one c.requires.0 c.args.ssrc c.args.seq _ _ c.in-Some.first.now
    (answered c.requires.0 c.args.ssrc c.args.seq _ c.in_ok-list.list (c.in_ok-list.ensures c.requires.0 c.requires.1)) there in
    (record c.requires.0 { contexts = committed one.attempt c.requires.0.contexts }, c.commit.ensures c.requires.0 one.attempt c.requires.1 one.is_try)
