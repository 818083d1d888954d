use Rattle.std.proofs.Common.{◌≡◌, List, Ok, refl, ap, ◌∙◌, arith}
use Rattle.std.proofs.lemmas.Result.{err_from_is_err_and}
use Rattle.perc_srtp.specs.Streams.{rx_opened}
use Rattle.perc_srtp.specs.Ends.{Stream}
use Rattle.perc_srtp.proofs.Streaming.{length-rest}
use Rattle.perc_outer.specs.Streams.{accepted_of}
use Rattle.perc_outer.proofs.Opening.{goes_on, goes_on_kept, goes_on_opens, head_packet, unsealed, unsealed_not}
use Rattle.perc_outer.proofs.Standing.{opened_short}
use Rattle.perc_outer.proofs.streams.OuterStreams.unseal.Goals as goal

pub returns-then-packet-head-lt-TAG_LEN-clause-answer : goal.returns-then-packet-head-lt-TAG_LEN-clause-answer
returns-then-packet-head-lt-TAG_LEN-clause-answer c = λ before h rest stands is.
    let r = c.requires.reads in
    let told = head_packet h r.0 rest r.1 c.args.packet.now c.args.head.now is r.2 r.3 in
    let behind = length-rest h rest c.args.packet.now c.args.head.now.len is told.0 in
    rw (opened_short c.args.keys.now before h rest (omega arith)) refl

pub returns-in_err-unseal-in-Ok-clause-answer : goal.returns-in_err-unseal-in-Ok-clause-answer
returns-in_err-unseal-in-Ok-clause-answer c = λ before h rest stands is.
    let r = c.requires.reads in
    let told = head_packet h r.0 rest r.1 c.args.packet.now c.args.head.now is r.2 r.3 in
    let items : List Stream = c.self.inside.streams.items in
    let s : Stream = c.index_mut.result.now in
    let e = err_from_is_err_and c.from_residual.result c.from_residual.ensures.1 in
    let g = goes_on items c.args.self.now before h c.args.head.now.ssrc c.in-Ok.place s c.self.view_is stands c.self.invariant.rising told.1 c.in-Ok.ensures.found c.index_mut.ensures.value in
    rw (goes_on_opens c.args.keys.now items before h rest c.in-Ok.place s g, e.1, e.2)
    (unsealed_not h before (accepted_of before h.ssrc) (rx_opened c.args.keys.now (accepted_of before h.ssrc) h rest) c.in_err-unseal-in-Ok.field-0.0 c.unseal.new.self
    c.unseal.new.packet _ c.unseal.new.packet (c.unseal.new.packet ≡ c.args.packet.now) (c.unseal.new.self ≡ s)
    (c.in_err-unseal-in-Ok.ensures.answer (accepted_of before h.ssrc) h rest g.window is))

pub returns-in_ok-unseal-in-Ok-clause-answer : goal.returns-in_ok-unseal-in-Ok-clause-answer
returns-in_ok-unseal-in-Ok-clause-answer c = λ before h rest stands is.
    let r = c.requires.reads in
    let told = head_packet h r.0 rest r.1 c.args.packet.now c.args.head.now is r.2 r.3 in
    let items : List Stream = c.self.inside.streams.items in
    let s : Stream = c.index_mut.result.now in
    let g = goes_on items c.args.self.now before h c.args.head.now.ssrc c.in-Ok.place s c.self.view_is stands c.self.invariant.rising told.1 c.in-Ok.ensures.found c.index_mut.ensures.value in
    let its : c.unseal.new.self.ssrc ≡ h.ssrc = c.unseal.ensures.ssrc ∙ ap (λ (k : Stream). k.ssrc) c.index_mut.ensures.value ∙ g.at.has_ssrc s in
    rw (goes_on_opens c.args.keys.now items before h rest c.in-Ok.place s g)
    (unsealed h before (accepted_of before h.ssrc) (rx_opened c.args.keys.now (accepted_of before h.ssrc) h rest) (Ok c.in_ok-unseal-in-Ok.field-0) c.unseal.new.self
    c.unseal.new.packet _ (c.unseal.new.packet ≡ c.args.packet.now) (c.unseal.new.self ≡ s)
    (c.in_ok-unseal-in-Ok.ensures.answer (accepted_of before h.ssrc) h rest g.window is)
    (goes_on_kept items before h c.in-Ok.place s c.unseal.new.self g c.self.invariant.rising its))
