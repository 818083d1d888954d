use Rattle.std.proofs.Common.{◌≡◌, ◌<◌, List, [], length, Ok, refl, sym, ◌∙◌, arith}
use Rattle.std.proofs.lemmas.Result.{err_from_is_err_and}
use Rattle.std.proofs.lemmas.List.Edits.{length-insert}
use Rattle.perc_srtp.specs.Streams.{rx_opened}
use Rattle.perc_srtp.specs.Ends.{Stream}
use Rattle.perc_outer.specs.Places.{IsGapFor}
use Rattle.perc_outer.proofs.Finding.{rise-insert}
use Rattle.perc_outer.proofs.Opening.{begins, begins_full, begins_kept, begins_room, same_ssrc, unsealed, unsealed_not}
use Rattle.perc_outer.proofs.streams.OuterStreams.unseal_first.Goals as goal

pub returns-then-len-eq-MOST_STREAMS-clause-answer : goal.returns-then-len-eq-MOST_STREAMS-clause-answer
returns-then-len-eq-MOST_STREAMS-clause-answer c = λ before h rest stands is.
    let r = c.requires.reads in
    let b = begins c.args.keys.now c.self.inside.streams.items c.args.self.now before h r.0 rest r.1 c.args.packet.now c.args.ssrc c.args.place
    c.self.view_is stands is c.requires.gap r.2 r.3 r.4 in
    let full : length c.self.inside.streams.items ≡ 256 = omega arith in
    rw (begins_full c.args.keys.now _ before h rest c.args.place b full) refl

pub returns-in_err-len-clause-answer : goal.returns-in_err-len-clause-answer
returns-in_err-len-clause-answer c = λ before h rest stands is.
    let r = c.requires.reads in
    let e = err_from_is_err_and c.from_residual.result c.from_residual.ensures.1 in
    let b = begins c.args.keys.now c.self.inside.streams.items c.args.self.now before h r.0 rest r.1 c.args.packet.now c.args.ssrc c.args.place
    c.self.view_is stands is c.requires.gap r.2 r.3 r.4 in
    let few : length c.self.inside.streams.items < 256 = omega arith in
    rw (begins_room c.args.keys.now _ before h rest c.args.place b few, e.1, e.2)
    (unsealed_not h before [] (rx_opened c.args.keys.now [] h rest) c.in_err-len.field-0.0 c.unseal.new.self c.unseal.new.packet c.args.self.now c.unseal.new.packet
    (c.unseal.new.packet ≡ c.args.packet.now) (c.unseal.new.self ≡ c.new-stream.result) (c.in_err-len.ensures.answer [] h rest c.new-stream.ensures.window is))

pub invariant_of-self : goal.invariant_of-self
invariant_of-self c =
    let items : List Stream = c.self.inside.streams.items in
    let its : c.unseal.new.self.ssrc ≡ c.args.ssrc = c.unseal.ensures.ssrc ∙ c.new-stream.ensures.ssrc in
    let gap : IsGapFor items c.unseal.new.self.ssrc c.args.place = rw (c.self.view_is, its) c.requires.gap in
    let long = length-insert items c.args.place c.unseal.new.self gap.in_range in
    rw c.keep.ensures.items (record {
      rising = rise-insert items c.args.place c.unseal.new.self c.self.invariant.rising gap;
      few = omega arith;
      room_is = omega arith;
    })

pub returns-clause-answer : goal.returns-clause-answer
returns-clause-answer c = λ before h rest stands is.
    let r = c.requires.reads in
    let items : List Stream = c.self.inside.streams.items in
    let b = begins c.args.keys.now items c.args.self.now before h r.0 rest r.1 c.args.packet.now c.args.ssrc c.args.place c.self.view_is stands is c.requires.gap r.2 r.3 r.4 in
    let few : length items < 256 = omega arith in
    let its : c.unseal.new.self.ssrc ≡ h.ssrc = c.unseal.ensures.ssrc ∙ c.new-stream.ensures.ssrc ∙ sym (same_ssrc h r.0 rest r.1 c.args.packet.now c.args.ssrc is r.2 r.3) in
    rw (begins_room c.args.keys.now items before h rest c.args.place b few, c.keep.ensures.items)
    (unsealed h before [] (rx_opened c.args.keys.now [] h rest) (Ok c.in_ok-len.len) c.unseal.new.self c.unseal.new.packet _
    (c.unseal.new.packet ≡ c.args.packet.now) (c.unseal.new.self ≡ c.new-stream.result) (c.in_ok-len.ensures.answer [] h rest c.new-stream.ensures.window is)
    (begins_kept c.args.keys.now items before h rest c.args.place c.unseal.new.self b c.self.invariant.rising its))
