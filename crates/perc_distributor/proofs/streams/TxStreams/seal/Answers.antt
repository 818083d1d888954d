use Rattle.std.proofs.Common.{◌≡◌, List, ◌∷◌, sym, ap, ◌∙◌, subst}
use Rattle.perc_ohb.specs.Rewriting.{rewrite_of}
use Rattle.perc_srtp.specs.Ends.{Stream}
use Rattle.perc_rtp.specs.Header.{Header}
use Rattle.perc_window.specs.Replay.{StandsFor as WindowStandsFor}
use Rattle.perc_outer.specs.Streams.{accepted_of}
use Rattle.perc_outer.specs.Places.{IsAt}
use Rattle.perc_distributor.specs.Kept.{MediaOf}
use Rattle.perc_distributor.specs.Parts.{media_datagram, stream_index}
use Rattle.perc_distributor.proofs.StreamsLaws.{forwarded_more, goes_on, goes_on_kept, goes_on_place, one_header}
use Rattle.perc_distributor.proofs.streams.TxStreams.seal.Goals as goal

pub seal_in-requires-clause-media : goal.seal_in-requires-clause-media
seal_in-requires-clause-media c =
    let m : MediaOf c.args.plain.now = c.requires.media in
    let s : Stream = c.index_mut.result.now in
    let items : List Stream = c.self.inside.streams.items in
    let at : IsAt items c.ssrc_of-ssrc.result c.in-Ok.place = subst (λ (k : List Stream). IsAt k c.ssrc_of-ssrc.result c.in-Ok.place) (sym c.self.view_is) c.in-Ok.ensures.found in
    (m, sym (c.ssrc_of-ssrc.ensures m) ∙ sym (at.has_ssrc s) ∙ ap (λ (k : Stream). k.ssrc) (sym c.index_mut.ensures.value))

pub seal_first-requires-clause-media : goal.seal_first-requires-clause-media
seal_first-requires-clause-media c = (c.requires.media, sym (c.ssrc_of-ssrc.ensures c.requires.media))

pub returns-in-Ok-clause-sealed : goal.returns-in-Ok-clause-sealed
returns-in-Ok-clause-sealed c = λ before from h inner o field stands is.
    let m : MediaOf c.args.plain.now = c.requires.media in
    let items : List Stream = c.self.inside.streams.items in
    let s : Stream = c.index_mut.result.now in
    let one = one_header c.args.plain.now from h inner o field m is in
    let its : c.ssrc_of-ssrc.result ≡ h.ssrc = c.ssrc_of-ssrc.ensures m ∙ ap (λ (x : Header). x.ssrc) (sym one) in
    let g = goes_on items c.args.self.now before h c.ssrc_of-ssrc.result c.in-Ok.place s c.self.view_is stands c.self.invariant.rising its c.in-Ok.ensures.found c.index_mut.ensures.value in
    let still : c.seal_in.new.stream.ssrc ≡ h.ssrc = c.seal_in.ensures.ssrc ∙ ap (λ (k : Stream). k.ssrc) c.index_mut.ensures.value ∙ g.at.has_ssrc s in
    let told = c.seal_in.ensures.sealed (accepted_of before h.ssrc) from h inner o field g.window is in
    rw (goes_on_place items before h c.in-Ok.place s inner o field (rewrite_of c.args.change.now) g)
    (forwarded_more (stream_index (accepted_of before h.ssrc) h inner o field (rewrite_of c.args.change.now)) (media_datagram c.args.keys.now h inner o field (rewrite_of c.args.change.now))
    (λ at. WindowStandsFor c.seal_in.new.stream.window (at ∷ accepted_of before h.ssrc)) _ c.seal_in.result c.seal_in.new.out told
    (goes_on_kept items before h c.in-Ok.place s c.seal_in.new.stream g still))
