use Rattle.std.specs.Prelude.{is_some}
use Rattle.std.proofs.Common.{ap, ◌∙◌}
use Rattle.perc_octets.specs.Octets.{AreOctets}
use Rattle.perc_tunnel.specs.Told.{keys_message}
use Rattle.perc_key_service.proofs.Reading.{holds_keys, holds_welcome, joined_is, told_is, told_some, welcome_is}
use Rattle.perc_key_service.proofs.replies.read_replies.Goals as goal

pub unwrap-keys-requires : goal.unwrap-keys-requires
unwrap-keys-requires c =
    let r = c.requires in
    let all : AreOctets c.args.octets.now = λ i. (c.type_inv.octets i).fits in
    ap is_some (c.next_keys.ensures.keys (keys_message r.0) _ (holds_keys c.args.profile r.0 r.1 c.args.octets.now all r.2 _ c.in_ok-decoder.ensures))

pub unwrap-welcome-requires : goal.unwrap-welcome-requires
unwrap-welcome-requires c =
    let r = c.requires in
    let all : AreOctets c.args.octets.now = λ i. (c.type_inv.octets i).fits in
    let first = holds_keys c.args.profile r.0 r.1 c.args.octets.now all r.2 _ c.in_ok-decoder.ensures in
    let second = holds_welcome c.args.profile r.0 r.1 c.args.octets.now all r.2 _ (c.next_keys.ensures.rest _ _ first) (c.next_keys.ensures.no_fault _ _ first) in
    told_some c.next_record.result _ (c.next_record.ensures _ _ second ∙ welcome_is c.args.profile r.0 r.1 c.args.octets.now all r.2)

pub joined_by-requires : goal.joined_by-requires
joined_by-requires c =
    let r = c.requires in
    let all : AreOctets c.args.octets.now = λ i. (c.type_inv.octets i).fits in
    let first = holds_keys c.args.profile r.0 r.1 c.args.octets.now all r.2 _ c.in_ok-decoder.ensures in
    let second = holds_welcome c.args.profile r.0 r.1 c.args.octets.now all r.2 _ (c.next_keys.ensures.rest _ _ first) (c.next_keys.ensures.no_fault _ _ first) in (
      r.0.client,
      r.0.server,
      r.1,
      told_is c.next_record.result c.unwrap-welcome.result _ c.unwrap-welcome.ensures (c.next_record.ensures _ _ second ∙ welcome_is c.args.profile r.0 r.1 c.args.octets.now all r.2),
    )

pub returns : goal.returns
returns c = λ k granted are.
    let all : AreOctets c.args.octets.now = λ i. (c.type_inv.octets i).fits in
    let first = holds_keys c.args.profile k granted c.args.octets.now all are _ c.in_ok-decoder.ensures in
    let second = holds_welcome c.args.profile k granted c.args.octets.now all are _ (c.next_keys.ensures.rest _ _ first) (c.next_keys.ensures.no_fault _ _ first) in
    let said = told_is c.next_record.result c.unwrap-welcome.result _ c.unwrap-welcome.ensures (c.next_record.ensures _ _ second ∙ welcome_is c.args.profile k granted c.args.octets.now all are) in
    joined_is c.unwrap-keys.result k _ c.unwrap-keys.ensures (c.next_keys.ensures.keys _ _ first) c.joined_by.result _ _ _ (c.joined_by.ensures k.client k.server granted said)
