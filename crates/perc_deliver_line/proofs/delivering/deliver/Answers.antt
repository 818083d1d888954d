use Rattle.std.proofs.Common.{◌≤◌, ℕ, List, length, sym, ◌∙◌, subst}
use Rattle.perc_conference_state.specs.Mirror.{Does}
use Rattle.perc_rtp.specs.declared.carried.Carried.TheVariants as carried
use Rattle.perc_run.specs.Delivering.{by_cipher, deliver_turn}
use Rattle.perc_run.specs.State.{Turn}
use Rattle.perc_script_line.specs.declared.reason.Reason.TheVariants as reason
use Rattle.perc_conference_state.proofs.Changing.{place_within, wire_at}
use Rattle.perc_conference_state.proofs.Places.{name_of_found}
use Rattle.perc_conference_state.proofs.Turning.{does_stopped}
use Rattle.perc_deliver_line.proofs.Turning.{no_datagram, nobody_named, not_media_does, turn_of_kind}
use Rattle.perc_deliver_line.proofs.delivering.deliver.Goals as goal

pub returns-in_err-place : goal.returns-in_err-place
returns-in_err-place c = λ s orderly mirrors.
    let d = c.args.delivery.now in
    let none = c.in_err-place.ensures s mirrors in
    does_stopped (deliver_turn by_cipher s d.datagram d.name) reason.Name c.from_residual.result c.in_err-place.field-0.0 c.args.text.now.items c.args.text.now.items
    c.args.conference.now (nobody_named s d.datagram d.name none.0) c.from_residual.ensures.1 none.1

pub returns-in_err-at : goal.returns-in_err-at
returns-in_err-at c = λ s orderly mirrors.
    let d = c.args.delivery.now in
    let found = c.in_ok-place.ensures s mirrors in
    let none = c.in_err-at.ensures s mirrors in
    does_stopped (deliver_turn by_cipher s d.datagram d.name) reason.Datagram c.from_residual-in_err-at.result c.in_err-at.field-0.0 c.args.text.now.items
    c.args.text.now.items c.args.conference.now (no_datagram s d.datagram d.name found.0 found.1 none.0) c.from_residual-in_err-at.ensures.1 none.1

pub index-requires : goal.index-requires
index-requires c =
    let s = c.requires.running.0 in
    let mirrors = c.requires.running.2 in
    (wire_at c.args.conference.now s c.args.delivery.now.datagram c.in_ok-at.at mirrors (c.in_ok-at.ensures s mirrors)).within

pub copied-octets-requires : goal.copied-octets-requires
copied-octets-requires c =
    let s = c.requires.running.0 in
    let mirrors = c.requires.running.2 in
    let wire = wire_at c.args.conference.now s c.args.delivery.now.datagram c.in_ok-at.at mirrors (c.in_ok-at.ensures s mirrors) in
    let same = c.deref.ensures.value ∙ (wire.mirrors c.index.result.now c.index.ensures).octets in
    subst (λ (l : List ℕ). length l ≤ 1500) (sym same) wire.few

pub deliver_control-requires-clause-place : goal.deliver_control-requires-clause-place
deliver_control-requires-clause-place c =
    let s = c.requires.running.0 in
    let mirrors = c.requires.running.2 in
    let found = c.in_ok-place.ensures s mirrors in
    place_within c.args.conference.now s c.in_ok-place.place found.0 mirrors found.2

pub deliver_media-requires-clause-place : goal.deliver_media-requires-clause-place
deliver_media-requires-clause-place c =
    let s = c.requires.running.0 in
    let mirrors = c.requires.running.2 in
    let found = c.in_ok-place.ensures s mirrors in
    place_within c.args.conference.now s c.in_ok-place.place found.0 mirrors found.2

pub returns-in-Dtls : goal.returns-in-Dtls
returns-in-Dtls c = λ s orderly mirrors.
    let d = c.args.delivery.now in
    let found = c.in_ok-place.ensures s mirrors in
    let wire = wire_at c.args.conference.now s c.args.delivery.now.datagram c.in_ok-at.at mirrors (c.in_ok-at.ensures s mirrors) in
    let same = c.copied-octets.ensures.value ∙ c.deref.ensures.value ∙ (wire.mirrors c.index.result.now c.index.ensures).octets in
    let octets = c.copied-octets.result.now in
    let turn = turn_of_kind s d.datagram d.name found.0 wire.datagram octets c.kind.result found.1 wire.numbered (sym same) (sym c.kind.ensures) in
    subst (λ (t : Turn). Does t c.refuse.result c.args.text.now.items c.refuse.new.text.items c.args.conference.now) (sym turn)
    (not_media_does s found.0 d octets c.kind.result c.refuse.result c.args.text.now.items c.refuse.new.text.items c.args.conference.now c.in-Dtls.is
    (name_of_found s d.name found.0 found.1) c.refuse.ensures mirrors)

pub returns-in-Rtcp : goal.returns-in-Rtcp
returns-in-Rtcp c = λ s orderly mirrors.
    let d = c.args.delivery.now in
    let found = c.in_ok-place.ensures s mirrors in
    let wire = wire_at c.args.conference.now s c.args.delivery.now.datagram c.in_ok-at.at mirrors (c.in_ok-at.ensures s mirrors) in
    let octets = c.copied-octets.result.now in
    let same = c.copied-octets.ensures.value ∙ c.deref.ensures.value ∙ (wire.mirrors c.index.result.now c.index.ensures).octets in
    let turn = turn_of_kind s d.datagram d.name found.0 wire.datagram octets carried.Rtcp found.1 wire.numbered (sym same) (sym c.kind.ensures ∙ c.in-Rtcp.is) in
    subst (λ (t : Turn). Does t c.deliver_control.result c.args.text.now.items c.deliver_control.new.text.items c.deliver_control.new.conference) (sym turn)
    (c.deliver_control.ensures s found.0 (record { orderly = orderly; mirrors = mirrors; at = found.2 }) (name_of_found s d.name found.0 found.1))

pub returns-in-Rtp : goal.returns-in-Rtp
returns-in-Rtp c = λ s orderly mirrors.
    let d = c.args.delivery.now in
    let found = c.in_ok-place.ensures s mirrors in
    let wire = wire_at c.args.conference.now s c.args.delivery.now.datagram c.in_ok-at.at mirrors (c.in_ok-at.ensures s mirrors) in
    let octets = c.copied-octets.result.now in
    let same = c.copied-octets.ensures.value ∙ c.deref.ensures.value ∙ (wire.mirrors c.index.result.now c.index.ensures).octets in
    let turn = turn_of_kind s d.datagram d.name found.0 wire.datagram octets carried.Rtp found.1 wire.numbered (sym same) (sym c.kind.ensures ∙ c.in-Rtp.is) in
    subst (λ (t : Turn). Does t c.deliver_media.result c.args.text.now.items c.deliver_media.new.text.items c.deliver_media.new.conference) (sym turn)
    (c.deliver_media.ensures s found.0 (record { orderly = orderly; mirrors = mirrors; at = found.2 }) (name_of_found s d.name found.0 found.1))
