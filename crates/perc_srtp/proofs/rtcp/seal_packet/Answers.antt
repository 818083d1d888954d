use Rattle.std.proofs.Common.{◌+◌, ◌-◌, ◌++◌, take, drop, arith, ap, ◌∙◌}
use Rattle.std.proofs.lemmas.List.{length-drop, length-take-le}
use Rattle.perc_kdf.specs.Derivation.{KeyAndSalt}
use Rattle.perc_srtp.specs.Sealed.{sealed_rtcp}
use Rattle.perc_srtp.proofs.RtcpSealing.{ssrc_read, whole_sealed}
use Rattle.perc_srtp.proofs.rtcp.seal_packet.Goals as goal

pub returns : goal.returns
returns c =
    let keys : KeyAndSalt = record { key = c.keys.inside.cipher; salt = c.keys.inside.salt } in
    whole_sealed keys c.args.packet.now c.rtcp_iv-iv.result c.aad_of-aad.result c.seal-tag.new.text c.seal-tag.result c.write_end.new.out c.args.index c.args.len c.read_u32.result _
    (record {
      head = c.requires.head;
      room = c.requires.room;
      ssrc_is = ssrc_read c.args.packet.now c.read_u32.result c.read_u32.ensures;
      word_is = omega arith;
      iv_is = c.rtcp_iv-iv.ensures;
      aad_is = c.aad_of-aad.ensures;
      long = c.seal-tag.auto.text ∙ length-take-le (c.args.len - 8) (drop 8 c.args.packet.now) (omega (arith, length-drop 8 c.args.packet.now));
      sealed_is = c.seal-tag.ensures.sealed;
    })
    c.write_end.ensures
    ∙ ap (λ (k : KeyAndSalt). sealed_rtcp k c.args.index (take c.args.len c.args.packet.now) ++ drop (c.args.len + 20) c.args.packet.now) c.keys.view_is
