use Rattle.std.proofs.Common.{◌≤◌, ◌<◌, ◌++◌, length, List, ℕ, refl, ap, ◌∙◌, arith}
use Rattle.perc_report_line.specs.Report.{WireUp, report_text}
use Rattle.perc_rtp.specs.Media.{content_of}
use Rattle.perc_run.specs.Sending.{send_turn}
use Rattle.perc_script_line.specs.declared.reason.Reason.TheVariants.{Limit, Name}
use Rattle.perc_conference_state.proofs.Changing.{place_within, placed}
use Rattle.perc_conference_state.proofs.Sends.{may_send, send_full, send_nobody, sends_on}
use Rattle.perc_conference_state.proofs.Turning.{does_refused, does_stopped}
use Rattle.perc_conference_state.proofs.conference.Conference.send.Goals as goal

pub returns-in_err-place : goal.returns-in_err-place
returns-in_err-place c = λ s orderly mirrors.
    let content = content_of c.args.media.now in
    let none = c.in_err-place.ensures s mirrors in
    does_stopped (send_turn s c.args.name content) Name c.from_residual.result c.in_err-place.field-0.0 c.args.text.now.items c.args.text.now.items c.args.self.now
    (send_nobody s c.args.name content none.0) c.from_residual.ensures.1 none.1

pub returns-then-len-ge-MOST_DATAGRAMS : goal.returns-then-len-ge-MOST_DATAGRAMS
returns-then-len-ge-MOST_DATAGRAMS c = λ s orderly mirrors.
    let content = content_of c.args.media.now in
    let found = c.in_ok-place.ensures s mirrors in
    let full : 131072 ≤ length s.datagrams = omega (arith, mirrors.datagrams.count, c.args.self.now.datagrams.ok.0) in
    does_refused (send_turn s c.args.name content) Limit c.args.text.now.items c.args.text.now.items _ (send_full s c.args.name content found.0 found.1 full)

pub index_mut-requires : goal.index_mut-requires
index_mut-requires c =
    let running = c.requires.running in
    let found = c.in_ok-place.ensures running.0 running.2 in
    place_within c.args.self.now running.0 c.in_ok-place.place found.0 running.2 found.2

pub send-requires-clause-member : goal.send-requires-clause-member
send-requires-clause-member c =
    let running = c.requires.running in
    let found = c.in_ok-place.ensures running.0 running.2 in
    let p = placed c.args.self.now running.0 c.args.name c.in_ok-place.place c.index_mut.result.now running.2 found c.index_mut.ensures.value in
    (p.member, p.mirrors, may_send running.0 c.in_ok-place.place p.member running.1 p.at)

pub returns : goal.returns
returns c = λ s orderly mirrors.
    let before = c.args.text.now.items in
    let number = c.next_number-number.result in
    let a = c.index_mut.result.now in
    let place = c.in_ok-place.place in
    let p = placed c.args.self.now s c.args.name place a mirrors (c.in_ok-place.ensures s mirrors) c.index_mut.ensures.value in
    let room : length s.datagrams < 131072 = omega (arith, mirrors.datagrams.count, c.args.self.now.datagrams.ok.0) in
    let sends = c.in_ok-datagram.ensures p.member p.mirrors (may_send s place p.member orderly p.at) in
    let wire = ap (λ (octets : List ℕ). before ++ report_text (WireUp number c.args.name octets)) (c.of.ensures ∙ c.deref.ensures.value) in
    sends_on c.args.self.now _ s c.args.name place a c.send.new.self c.in_ok-datagram.datagram (content_of c.args.media.now) number before c.write.new.out.items orderly
    mirrors p room (c.next_number-number.ensures s mirrors) sends
    (record { profile = refl; records = refl; issued = refl; distributor = refl; keys = refl; members = refl; datagrams = c.in_ok-push.ensures.items }) (c.in_ok-write.ensures.ok ∙ wire)
