-- The packet fits and leads to a free index; and what is built of it is the next datagram.
use Rattle.std.proofs.Common.{◌≡◌, ◌%◌, ◌≤◌, Ok, length, sym, ap, subst, ◌∙◌, arith}
use Rattle.std.specs.Option.{option_map}
use Rattle.perc_rtp.specs.Media.{content_of, rest_of}
use Rattle.perc_sender.specs.Schedule.{Sending, Taken, after_packet, newest, next_answer}
use Rattle.perc_outgoing.specs.Sending.{after_send, outer_index, sent_header}
use Rattle.perc_outgoing.specs.Kept.{Kept, StandsFor}
use Rattle.perc_outgoing.proofs.Datagrams.{IsBuilt, IsWritten, Made, built, is_place, packet_fits, sealable, send_none}
use Rattle.perc_outgoing.proofs.sending.Outgoing.write_datagram.Goals as goal

pub seal_next-end-requires-clause-room : goal.seal_next-end-requires-clause-room
seal_next-end-requires-clause-room c =
    let w = c.in-Ok.ensures.packet in
    let within : c.in-Ok.len ≤ length c.write_packet.new.out = omega (arith, w.0) in
    let fits = packet_fits (content_of c.args.media.now) (c.next_index.result % 65536) c.ssrc-ssrc.result c.in-Ok.len c.write_packet.new.out c.in-Ok.ensures.fault w.1 within in
    omega arith

pub seal_next-end-requires-clause-free : goal.seal_next-end-requires-clause-free
seal_next-end-requires-clause-free c =
    let i = c.self.inside in
    let kept : Kept = record { media = i.media; control = i.control; granted = i.granted; sending = i.sender.value; outer = i.outer; rtcp = i.rtcp } in
    let m = content_of c.args.media.now in
    let is = c.self.invariant.stands in
    let answer : next_answer kept.sending ≡ Ok c.in-Ok-next.place = sym (c.in-Ok-next.ensures.answer ∙ ap next_answer c.deref_mut.ensures.value) in
    let written : IsWritten kept m c.next_index.result c.ssrc-ssrc.result c.in-Ok.len c.write_packet.new.out = record {
      number_is = c.next_index.ensures.value ∙ ap (λ (s : Sending). s.next) c.deref-2.ensures;
      ssrc_is = c.ssrc-ssrc.ensures ∙ ap (λ (s : Sending). s.ssrc) c.deref.ensures;
      packet = c.in-Ok.ensures.packet.1;
    } in (
      sent_header is.0 m,
      rest_of m,
      is.0.sealed,
      outer_index is.0,
      sealable kept is.0 m c.in-Ok-next.place c.next_index.result c.ssrc-ssrc.result c.in-Ok.len c.write_packet.new.out is.1 answer written,
    )

pub put_field-len-requires-clause-room : goal.put_field-len-requires-clause-room
put_field-len-requires-clause-room c =
    let w = c.in-Ok.ensures.packet in
    let within : c.in-Ok.len ≤ length c.write_packet.new.out = omega (arith, w.0) in
    let fits = packet_fits (content_of c.args.media.now) (c.next_index.result % 65536) c.ssrc-ssrc.result c.in-Ok.len c.write_packet.new.out c.in-Ok.ensures.fault w.1 within in
    omega (arith, c.seal_next-end.ensures.len)

pub invariant_of-self-2 : goal.invariant_of-self-2
invariant_of-self-2 c =
    let i = c.self.inside in
    let kept : Kept = record { media = i.media; control = i.control; granted = i.granted; sending = i.sender.value; outer = i.outer; rtcp = i.rtcp } in
    let m = content_of c.args.media.now in
    let is = c.self.invariant.stands in
    let key_is = rw c.unwrap-key.ensures at c.key.ensures.value in
    let w = c.in-Ok.ensures.packet in
    let within : c.in-Ok.len ≤ length c.write_packet.new.out = omega (arith, w.0) in
    let fits = packet_fits m (c.next_index.result % 65536) c.ssrc-ssrc.result c.in-Ok.len c.write_packet.new.out c.in-Ok.ensures.fault w.1 within in
    let made : Made = record {
      place = c.in-Ok-next.place;
      sending = c.next.new.self;
      outer = c.seal_next-end.new.tx;
      session = c.inner_session-inner.result;
      key = c.unwrap-key.result.now;
      number = c.next_index.result;
      ssrc = c.ssrc-ssrc.result;
      len = c.in-Ok.len;
      end = c.seal_next-end.result;
      last = c.put_field-len.result;
      written = c.write_packet.new.out;
      sealed = c.seal_next-end.new.packet;
      out = c.put_field-len.new.out;
    } in
    let b : IsBuilt kept m made = record {
      answer = sym (c.in-Ok-next.ensures.answer ∙ ap next_answer c.deref_mut.ensures.value);
      counted = c.in-Ok-next.ensures.counted ∙ ap after_packet c.deref_mut.ensures.value;
      key_is = sym (key_is ∙ ap (λ (s : Sending). option_map (λ (t : Taken). t.key) (newest s.keys)) c.deref-3.ensures);
      session_is = c.inner_session-inner.ensures;
      is_written = record {
        number_is = c.next_index.ensures.value ∙ ap (λ (s : Sending). s.next) c.deref-2.ensures;
        ssrc_is = c.ssrc-ssrc.ensures ∙ ap (λ (s : Sending). s.ssrc) c.deref.ensures;
        packet = w.1;
      };
      sealed_is = c.seal_next-end.ensures.sealed;
      window = c.seal_next-end.ensures.window;
      outer_ssrc = c.seal_next-end.ensures.ssrc;
      end_is = c.seal_next-end.ensures.len;
      room = omega arith;
      all_written = c.write_packet.array_long;
      all_sealed = c.seal_next-end.array_long;
      put = c.put_field-len.ensures.put;
    } in
    let sent = built kept is.0 m made is.1 b in
    record { right = c.self.invariant.right; stands = (after_send is.0, sent.kept_is) }

pub returns-clause-answer : goal.returns-clause-answer
returns-clause-answer c = λ o st.
    let i = c.self.inside in
    let kept : Kept = record { media = i.media; control = i.control; granted = i.granted; sending = i.sender.value; outer = i.outer; rtcp = i.rtcp } in
    let its : StandsFor kept o = subst (λ (k : Kept). StandsFor k o) (sym c.self.view_is) st in
    let m = content_of c.args.media.now in
    let key_is = rw c.unwrap-key.ensures at c.key.ensures.value in
    let w = c.in-Ok.ensures.packet in
    let within : c.in-Ok.len ≤ length c.write_packet.new.out = omega (arith, w.0) in
    let fits = packet_fits m (c.next_index.result % 65536) c.ssrc-ssrc.result c.in-Ok.len c.write_packet.new.out c.in-Ok.ensures.fault w.1 within in
    let made : Made = record {
      place = c.in-Ok-next.place;
      sending = c.next.new.self;
      outer = c.seal_next-end.new.tx;
      session = c.inner_session-inner.result;
      key = c.unwrap-key.result.now;
      number = c.next_index.result;
      ssrc = c.ssrc-ssrc.result;
      len = c.in-Ok.len;
      end = c.seal_next-end.result;
      last = c.put_field-len.result;
      written = c.write_packet.new.out;
      sealed = c.seal_next-end.new.packet;
      out = c.put_field-len.new.out;
    } in
    let b : IsBuilt kept m made = record {
      answer = sym (c.in-Ok-next.ensures.answer ∙ ap next_answer c.deref_mut.ensures.value);
      counted = c.in-Ok-next.ensures.counted ∙ ap after_packet c.deref_mut.ensures.value;
      key_is = sym (key_is ∙ ap (λ (s : Sending). option_map (λ (t : Taken). t.key) (newest s.keys)) c.deref-3.ensures);
      session_is = c.inner_session-inner.ensures;
      is_written = record {
        number_is = c.next_index.ensures.value ∙ ap (λ (s : Sending). s.next) c.deref-2.ensures;
        ssrc_is = c.ssrc-ssrc.ensures ∙ ap (λ (s : Sending). s.ssrc) c.deref.ensures;
        packet = w.1;
      };
      sealed_is = c.seal_next-end.ensures.sealed;
      window = c.seal_next-end.ensures.window;
      outer_ssrc = c.seal_next-end.ensures.ssrc;
      end_is = c.seal_next-end.ensures.len;
      room = omega arith;
      all_written = c.write_packet.array_long;
      all_sealed = c.seal_next-end.array_long;
      put = c.put_field-len.ensures.put;
    } in
    let place = is_place kept o c.in-Ok-next.place its b.answer in
    rw (send_none o m c.in-Ok.ensures.fault place.left)
    (built kept o m made its b)
