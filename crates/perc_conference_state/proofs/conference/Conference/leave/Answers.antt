use Rattle.std.proofs.Common.{refl}
use Rattle.perc_run.specs.Joining.{leave_turn}
use Rattle.perc_script_line.specs.declared.reason.Reason.TheVariants.{Name}
use Rattle.perc_conference_state.proofs.Changing.{place_within, placed}
use Rattle.perc_conference_state.proofs.Leaving.{head_of, leave_nobody, leaves, may_leave}
use Rattle.perc_conference_state.proofs.Served.{lent_is, service_of}
use Rattle.perc_conference_state.proofs.Turning.{does_stopped}
use Rattle.perc_conference_state.proofs.conference.Conference.leave.Goals as goal

pub returns-in_err-place : goal.returns-in_err-place
returns-in_err-place c = λ s orderly mirrors.
    let none = c.in_err-place.ensures s mirrors in
    does_stopped (leave_turn s c.args.name) Name c.from_residual.result c.in_err-place.field-0.0 c.args.text.now.items c.args.text.now.items c.args.self.now
    (leave_nobody s c.args.name none.0) c.from_residual.ensures.1 none.1

pub index_mut-member-requires : goal.index_mut-member-requires
index_mut-member-requires c =
    let running = c.requires.running in
    let found = c.in_ok-place.ensures running.0 running.2 in
    place_within c.args.self.now running.0 c.in_ok-place.place found.0 running.2 found.2

pub leave-requires : goal.leave-requires
leave-requires c =
    let running = c.requires.running in
    let code = c.args.self.now in
    let s = running.0 in
    let a = c.index_mut-member.result.now in
    let place = c.in_ok-place.place in
    let k = c.unwrap-service.result.now in
    let p = placed code s c.args.name place a running.2 (c.in_ok-place.ensures s running.2) c.index_mut-member.ensures.value in
    let head = head_of code s c.args.name place a running.1 running.2 p in
    let is = lent_is code.keys c.as_mut.result c.unwrap-service.result c.as_mut.ensures.value c.unwrap-service.ensures in
    record { member = may_leave code s c.args.name place a head.0 k running.1 (service_of code s head.0 k running.2 head.1 is) p }

pub returns : goal.returns
returns c = λ s orderly mirrors.
    let code = c.args.self.now in
    let a = c.index_mut-member.result.now in
    let place = c.in_ok-place.place in
    let k = c.unwrap-service.result.now in
    let p = placed code s c.args.name place a mirrors (c.in_ok-place.ensures s mirrors) c.index_mut-member.ensures.value in
    let head = head_of code s c.args.name place a orderly mirrors p in
    let is = lent_is code.keys c.as_mut.result c.unwrap-service.result c.as_mut.ensures.value c.unwrap-service.ensures in
    leaves code _ s c.args.name place a head.0 k c.leave.new.self c.args.text.now.items c.write.new.out.items orderly mirrors p head.1
    (service_of code s head.0 k mirrors head.1 is) c.in_ok-leave.ensures refl
    (record { leaves = record { profile = refl; records = refl; issued = refl; datagrams = refl }; members = refl })
    (c.absorb.ensures s mirrors.distributor) c.in_ok-write.ensures.ok
