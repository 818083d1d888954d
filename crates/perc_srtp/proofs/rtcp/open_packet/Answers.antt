use borrow.Rule.Slice.PartMut.{put_mid}
use Rattle.std.proofs.Common.{◌≡◌, ℕ, ◌+◌, ◌-◌, List, length, take, drop, Some, None, Result, Ok, Err, OnErr, subst, ap, ◌∙◌, arith}
use Rattle.perc_kdf.specs.Derivation.{KeyAndSalt}
use Rattle.perc_srtp.specs.Sealed.{BeginsWith, unsealed_rtcp}
use Rattle.perc_srtp.proofs.RtcpSealing.{forged, opened, ssrc_read}
use Rattle.perc_srtp.proofs.rtcp.open_packet.Goals as goal

on_err : {T E P : Type 0} (r : Result T E) → P → OnErr r P
on_err (Ok value) holds = tt
on_err (Err fault) holds = holds

sixteen : (n : ℕ) → n + 16 - n ≡ 16
sixteen n = omega arith

pub returns-clause-opened : goal.returns-clause-opened
returns-clause-opened c =
    let keys : KeyAndSalt = record { key = c.keys.inside.cipher; salt = c.keys.inside.salt } in
    let n : ℕ = length c.args.packet.now - 20 in
    subst (λ (k : KeyAndSalt). (plain : List ℕ) × (unsealed_rtcp k c.args.index c.args.packet.now ≡ Some plain) × (n ≡ length plain) × BeginsWith plain (put_mid 8 (n - 8) c.args.packet.now c.unseal.new.text)) c.keys.view_is
    (opened keys c.args.packet.now c.rtcp_iv-iv.result c.aad_of-aad.result c.tag_in-tag.result c.unseal.new.text c.args.index c.read_u32.result _
    (record {
      least = c.requires.least;
      word_found = c.requires.word;
      ssrc_is = ssrc_read c.args.packet.now c.read_u32.result c.read_u32.ensures;
      word_is = omega arith;
      iv_is = c.rtcp_iv-iv.ensures;
      aad_is = c.aad_of-aad.ensures;
      tag_is = c.tag_in-tag.ensures ∙ ap (λ (k : ℕ). take k (drop n c.args.packet.now)) (sixteen n);
    }) c.in_ok-unseal.ensures.answer)

pub returns-in_err-unseal-clause-forged : goal.returns-in_err-unseal-clause-forged
returns-in_err-unseal-clause-forged c =
    let keys : KeyAndSalt = record { key = c.keys.inside.cipher; salt = c.keys.inside.salt } in
    let n : ℕ = length c.args.packet.now - 20 in
    on_err c.from_residual.result
    (subst (λ (k : KeyAndSalt). unsealed_rtcp k c.args.index c.args.packet.now ≡ None) c.keys.view_is
    (forged keys c.args.packet.now c.rtcp_iv-iv.result c.aad_of-aad.result c.tag_in-tag.result c.args.index c.read_u32.result _
    (record {
      least = c.requires.least;
      word_found = c.requires.word;
      ssrc_is = ssrc_read c.args.packet.now c.read_u32.result c.read_u32.ensures;
      word_is = omega arith;
      iv_is = c.rtcp_iv-iv.ensures;
      aad_is = c.aad_of-aad.ensures;
      tag_is = c.tag_in-tag.ensures ∙ ap (λ (k : ℕ). take k (drop n c.args.packet.now)) (sixteen n);
    }) c.in_err-unseal.ensures.answer))
