-- The context at the place has the index too, or the new one is behind the others.
use Rattle.std.proofs.Common.{◌≡◌, ◌<◌, ◌%◌, Some, length, ap, ◌∙◌, arith}
use Rattle.std.specs.Prelude.{slice_get}
use Rattle.perc_contexts.specs.Receiving.{with_index}
use Rattle.perc_contexts.specs.Kept.{AreOf, told_of, new_of, IsOf}
use Rattle.perc_contexts.proofs.Standing.{are_of-at, are_of-length, at_within}
use Rattle.perc_contexts.proofs.Committing.{fresh_kept, well_kept_held, well_kept_new, committed_new, is_new, room_for, few_held}
use Rattle.perc_contexts.proofs.Contexts.commit.Goals as goal

pub index_mut-requires : goal.index_mut-requires
index_mut-requires c =
    let r = c.requires.may in
    let there : slice_get r.held.contexts c.in-Held-default.place ≡ Some r.attempt.context = rw c.in-Held-default.is-0 at r.may.is_try.context in
    let are : AreOf c.self.inside.contexts.items r.held.contexts = rw (← c.self.view_is) at r.stands.contexts in
    let within : c.in-Held-default.place < length c.self.inside.contexts.items = at_within _ r.held.contexts c.in-Held-default.place r.attempt.context are there in
    omega arith

pub accept-requires-clause-fresh : goal.accept-requires-clause-fresh
accept-requires-clause-fresh c =
    let r = c.requires.may in
    let there : slice_get r.held.contexts c.in-Held-default.place ≡ Some r.attempt.context = rw c.in-Held-default.is-0 at r.may.is_try.context in
    let are : AreOf c.self.inside.contexts.items r.held.contexts = rw (← c.self.view_is) at r.stands.contexts in
    let one = are_of-at _ r.held.contexts c.in-Held-default.place c.index_mut.result.now r.attempt.context are c.index_mut.ensures.value
    (at_within _ r.held.contexts c.in-Held-default.place r.attempt.context are there) there in
    fresh_kept c.index_mut.result.now r.attempt.context c.args.attempt.now.index one (rw r.may.is_try.index r.may.fresh)

pub invariant_of-self : goal.invariant_of-self
invariant_of-self c =
    let r = c.requires.may in
    let there : slice_get r.held.contexts c.in-Held-default.place ≡ Some r.attempt.context = rw c.in-Held-default.is-0 at r.may.is_try.context in
    let are : AreOf c.self.inside.contexts.items r.held.contexts = rw (← c.self.view_is) at r.stands.contexts in
    let one = are_of-at _ r.held.contexts c.in-Held-default.place c.index_mut.result.now r.attempt.context are c.index_mut.ensures.value
    (at_within _ r.held.contexts c.in-Held-default.place r.attempt.context are there) there in
    let more : IsOf c.accept.new.self (with_index r.attempt.index r.attempt.context) = rw (← r.may.is_try.index) (c.accept.ensures r.attempt.context one) in
    (well_kept_held _ r.held.contexts c.in-Held-default.place r.attempt c.accept.new.self _ c.self.invariant are there more).0

pub returns-in-Held-default : goal.returns-in-Held-default
returns-in-Held-default c = λ held a stands is_try.
    let there : slice_get held.contexts c.in-Held-default.place ≡ Some a.context = rw c.in-Held-default.is-0 at is_try.context in
    let are : AreOf c.self.inside.contexts.items held.contexts = rw (← c.self.view_is) at stands.contexts in
    let one = are_of-at _ held.contexts c.in-Held-default.place c.index_mut.result.now a.context are c.index_mut.ensures.value
    (at_within _ held.contexts c.in-Held-default.place a.context are there) there in
    let more : IsOf c.accept.new.self (with_index a.index a.context) = rw (← is_try.index) (c.accept.ensures a.context one) in
    record {
      live = ap (λ k. k.live) c.self.view_is ∙ stands.live;
      contexts = (well_kept_held _ held.contexts c.in-Held-default.place a c.accept.new.self _ c.self.invariant are there more).1;
    }

pub install-requires : goal.install-requires
install-requires c =
    let r = c.requires.may in
    let its : new_of r.held.contexts c.args.ssrc (told_of c.in-New-Some.carried.now) ≡ Some r.attempt.context = rw (c.in-New-Some.is-0, c.in-New-Some.is-1) at r.may.is_try.context in
    let new = is_new r.held.contexts c.args.ssrc (told_of c.in-New-Some.carried.now) r.attempt its in
    let few : length r.held.contexts < 512 = few_held r.held.contexts _ c.args.ssrc
    (room_for r.held.contexts c.args.ssrc (r.attempt.index % 65536) (told_of c.in-New-Some.carried.now) _ new.none (rw c.in-New-Some.is-1 at r.may.tried)) in
    let are : AreOf c.self.inside.contexts.items r.held.contexts = rw (← c.self.view_is) at r.stands.contexts in
    let as_long = are_of-length c.self.inside.contexts.items r.held.contexts are in
    omega arith

pub invariant_of-self-in-New-Some : goal.invariant_of-self-in-New-Some
invariant_of-self-in-New-Some c =
    let r = c.requires.may in
    let its : new_of r.held.contexts c.args.ssrc (told_of c.in-New-Some.carried.now) ≡ Some r.attempt.context = rw (c.in-New-Some.is-0, c.in-New-Some.is-1) at r.may.is_try.context in
    let new = is_new r.held.contexts c.args.ssrc (told_of c.in-New-Some.carried.now) r.attempt its in
    let few : length r.held.contexts < 512 = few_held r.held.contexts _ c.args.ssrc
    (room_for r.held.contexts c.args.ssrc (r.attempt.index % 65536) (told_of c.in-New-Some.carried.now) _ new.none (rw c.in-New-Some.is-1 at r.may.tried)) in
    let are : AreOf c.self.inside.contexts.items r.held.contexts = rw (← c.self.view_is) at r.stands.contexts in
    let as_long = are_of-length c.self.inside.contexts.items r.held.contexts are in
    let more : IsOf c.accept-in-New-Some.new.self (with_index r.attempt.index r.attempt.context) =
    rw (← r.may.is_try.index, ← new.is) (c.accept-in-New-Some.ensures _ c.new-context.ensures) in
    let well = (well_kept_new _ r.held.contexts r.attempt c.accept-in-New-Some.new.self _ c.self.invariant are (omega arith) new.its more).0 in
    rw c.install.ensures.items (record { few = well.few; room_is = omega (arith, c.install.ensures.capacity, well.room_is); distinct = well.distinct })

pub returns-in-New-Some : goal.returns-in-New-Some
returns-in-New-Some c = λ held a stands is_try.
    let its : new_of held.contexts c.args.ssrc (told_of c.in-New-Some.carried.now) ≡ Some a.context = rw (c.in-New-Some.is-0, c.in-New-Some.is-1) at is_try.context in
    let new = is_new held.contexts c.args.ssrc (told_of c.in-New-Some.carried.now) a its in
    let are : AreOf c.self.inside.contexts.items held.contexts = rw (← c.self.view_is) at stands.contexts in
    let more : IsOf c.accept-in-New-Some.new.self (with_index a.index a.context) =
    rw (← is_try.index, ← new.is) (c.accept-in-New-Some.ensures _ c.new-context.ensures) in
    record {
      live = ap (λ k. k.live) c.self.view_is ∙ stands.live;
      contexts = rw c.install.ensures.items (committed_new _ held.contexts a c.accept-in-New-Some.new.self new.its are more);
    }
