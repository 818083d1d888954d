use Rattle.std.proofs.Common.{◌≡◌, ◌<◌, List, [], ◌∷◌, length, Ok, refl, sym, ap, ◌∙◌, arith}
use Rattle.std.proofs.lemmas.Result.{err_from_is_err_and}
use Rattle.std.proofs.lemmas.List.Edits.{length-insert}
use Rattle.perc_ohb.specs.Rewriting.{rewrite_of}
use Rattle.perc_srtp.specs.Ends.{Stream}
use Rattle.perc_rtp.specs.Header.{Header}
use Rattle.perc_window.specs.Replay.{StandsFor as WindowStandsFor}
use Rattle.perc_outer.specs.Streams.{with_index}
use Rattle.perc_outer.specs.Kept.{StandsFor}
use Rattle.perc_outer.specs.Places.{IsGapFor}
use Rattle.perc_outer.proofs.Finding.{rise-insert}
use Rattle.perc_distributor.specs.Kept.{MediaOf}
use Rattle.perc_distributor.specs.Parts.{media_datagram, stream_index}
use Rattle.perc_distributor.proofs.StreamsLaws.{begins, begins_full, begins_kept, begins_place, forwarded_more, forwarded_not, one_header, place_full}
use Rattle.perc_distributor.proofs.streams.TxStreams.seal_first.Goals as goal

pub returns-then-len-eq-MOST_STREAMS-clause-sealed : goal.returns-then-len-eq-MOST_STREAMS-clause-sealed
returns-then-len-eq-MOST_STREAMS-clause-sealed c = λ before from h inner o field stands is.
    let m : MediaOf c.args.plain.now = c.requires.media.0 in
    let items : List Stream = c.self.inside.streams.items in
    let b = begins items c.args.self.now before h m.header c.args.ssrc c.args.place c.self.view_is stands c.self.invariant.rising c.requires.gap
    (one_header c.args.plain.now from h inner o field m is) c.requires.media.1 in
    let full : length items ≡ 256 = omega arith in
    rw (place_full before h inner o field (rewrite_of c.args.change.now) (begins_full items before h c.args.place b full)) refl

pub seal_in-requires-clause-media : goal.seal_in-requires-clause-media
seal_in-requires-clause-media c = (c.requires.media.0, c.requires.media.1 ∙ sym c.new-stream.ensures.ssrc)

pub returns-in_err-len-clause-sealed : goal.returns-in_err-len-clause-sealed
returns-in_err-len-clause-sealed c = λ before from h inner o field stands is.
    let m : MediaOf c.args.plain.now = c.requires.media.0 in
    let items : List Stream = c.self.inside.streams.items in
    let e = err_from_is_err_and c.from_residual.result c.from_residual.ensures.1 in
    let b = begins items c.args.self.now before h m.header c.args.ssrc c.args.place c.self.view_is stands c.self.invariant.rising c.requires.gap
    (one_header c.args.plain.now from h inner o field m is) c.requires.media.1 in
    let few : length items < 256 = omega arith in
    let told = c.in_err-len.ensures.sealed [] from h inner o field c.new-stream.ensures.window is in
    rw (begins_place items before h c.args.place inner o field (rewrite_of c.args.change.now) b few, e.1, e.2)
    (forwarded_not (stream_index [] h inner o field (rewrite_of c.args.change.now)) (media_datagram c.args.keys.now h inner o field (rewrite_of c.args.change.now))
    (λ at. WindowStandsFor c.seal_in.new.stream.window (at ∷ [])) (λ at. StandsFor c.args.self.now (with_index h.ssrc at before)) c.in_err-len.field-0.0 c.seal_in.new.out told)

pub invariant_of-self : goal.invariant_of-self
invariant_of-self c =
    let items : List Stream = c.self.inside.streams.items in
    let its : c.seal_in.new.stream.ssrc ≡ c.args.ssrc = c.seal_in.ensures.ssrc ∙ c.new-stream.ensures.ssrc in
    let gap : IsGapFor items c.seal_in.new.stream.ssrc c.args.place = rw (c.self.view_is, its) c.requires.gap in
    let long = length-insert items c.args.place c.seal_in.new.stream gap.in_range in
    rw c.keep.ensures.items (record {
      rising = rise-insert items c.args.place c.seal_in.new.stream c.self.invariant.rising gap;
      few = omega arith;
      room_is = omega arith;
    })

pub returns-clause-sealed : goal.returns-clause-sealed
returns-clause-sealed c = λ before from h inner o field stands is.
    let m : MediaOf c.args.plain.now = c.requires.media.0 in
    let items : List Stream = c.self.inside.streams.items in
    let one = one_header c.args.plain.now from h inner o field m is in
    let b = begins items c.args.self.now before h m.header c.args.ssrc c.args.place c.self.view_is stands c.self.invariant.rising c.requires.gap one c.requires.media.1 in
    let few : length items < 256 = omega arith in
    let its : c.seal_in.new.stream.ssrc ≡ h.ssrc =
    c.seal_in.ensures.ssrc ∙ c.new-stream.ensures.ssrc ∙ sym c.requires.media.1 ∙ ap (λ (x : Header). x.ssrc) (sym one) in
    let told = c.in_ok-len.ensures.sealed [] from h inner o field c.new-stream.ensures.window is in
    rw (begins_place items before h c.args.place inner o field (rewrite_of c.args.change.now) b few, c.keep.ensures.items)
    (forwarded_more (stream_index [] h inner o field (rewrite_of c.args.change.now)) (media_datagram c.args.keys.now h inner o field (rewrite_of c.args.change.now))
    (λ at. WindowStandsFor c.seal_in.new.stream.window (at ∷ [])) _ (Ok c.in_ok-len.len) c.seal_in.new.out told
    (begins_kept items before h c.args.place c.seal_in.new.stream b few its))
