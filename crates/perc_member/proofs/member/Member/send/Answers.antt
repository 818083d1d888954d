use Rattle.std.proofs.Common.{refl}
use Rattle.perc_rtp.specs.Media.{content_of}
use Rattle.perc_member.proofs.Sent.{is_sent, not_refused, opens_next, sends_next}
use Rattle.perc_member.proofs.member.Member.send.Goals as goal

pub unreachable-requires : goal.unreachable-requires
unreachable-requires c =
    let is = c.requires.member in
    not_refused is.0 (content_of c.args.media.now) c.in_default.field-0 c.send.new.out is.2 c.requires.fault (c.in_default.ensures.answer is.0.endpoint is.1.endpoint)

pub open-requires-clause-next : goal.open-requires-clause-next
open-requires-clause-next c =
    let is = c.requires.member in
    let content = content_of c.args.media.now in
    let sent = is_sent is.0 content c.in-Ok.sent c.send.new.out is.2 c.requires.fault (c.in-Ok.ensures.answer is.0.endpoint is.1.endpoint) in
    (is.0, content, opens_next c.args.self.now is.0 content _ is.1 is.2 c.known_header.ensures sent.datagram)

pub returns : goal.returns
returns c = λ m mirrors may.
    let content = content_of c.args.media.now in
    sends_next m content c.args.number c.args.self.now c.send.new.self c.open.new.self c.push.new.self c.send_under_last.new.keys c.in-Ok.sent c.send.new.out
    c.in_ok-from_slice.field-0 c.in_ok-unsealed.unsealed mirrors may c.requires.fault c.known_header.ensures
    (record {
      answer = c.in-Ok.ensures.answer m.endpoint mirrors.endpoint;
      stands = c.in-Ok.ensures.stands m.endpoint mirrors.endpoint;
      len = c.in-Ok.ensures.len;
      opening_is = c.in_ok-unsealed.ensures.next;
      sends_are = c.in_ok-push.ensures.items;
      keys_are = c.send_under_last.ensures;
      datagram_is = c.in_ok-from_slice.ensures.items;
      unsealed = c.in_ok-unsealed.ensures.unsealed m content;
    })
