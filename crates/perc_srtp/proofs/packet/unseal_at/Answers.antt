use Rattle.std.proofs.Common.{List, ℕ, ◌++◌, ◌-◌, length, drop, Ok, ap, ◌∙◌, sym, refl}
use Rattle.std.proofs.lemmas.List.{take-append-drop, take_rest}
use Rattle.std.proofs.lemmas.Result.{err_from_is_err_and}
use Rattle.perc_kdf.specs.Derivation.{KeyAndSalt}
use Rattle.perc_srtp.specs.Sealed.{iv}
use Rattle.perc_srtp.proofs.Sealing.{head_read, iv_read, opened, text_is}
use Rattle.perc_srtp.proofs.packet.unseal_at.Goals as goal

pub returns-clause-answer : goal.returns-clause-answer
returns-clause-answer c = λ h rest is.
    let head = head_read h c.read.result c.unwrap-head.result (c.read.ensures.only h rest is) c.unwrap-head.ensures in
    let found = c.in_ok-unseal_body.ensures.opened in
    let told =
    opened c.args.keys.now h rest c.args.packet.now c.iv-iv.result c.tag_in-tag.result found.0 c.unseal_body.new.packet c.args.index c.unwrap-head.result.len
    (record {
      packet_is = is;
      long = c.requires.tag h rest is;
      cut_is = head.len_is;
      iv_is = iv_read c.args.keys.now c.args.index h c.unwrap-head.result c.iv-iv.result head
          (c.iv-iv.ensures ∙ ap (λ (k : KeyAndSalt). iv k.salt c.unwrap-head.result.ssrc c.args.index) c.keys.view_is);
      tag_is = c.tag_in-tag.ensures ∙ take_rest c.args.packet.now (length c.args.packet.now - 16);
    })
    found.1 found.2 in
    rw told.0 (ap Ok told.1, told.2)

pub returns-in_err-unseal_body-clause-answer : goal.returns-in_err-unseal_body-clause-answer
returns-in_err-unseal_body-clause-answer c = λ h rest is.
    let p = err_from_is_err_and c.from_residual.result c.from_residual.ensures.1 in
    let head = head_read h c.read.result c.unwrap-head.result (c.read.ensures.only h rest is) c.unwrap-head.ensures in
    let n : ℕ = length c.args.packet.now - 16 in
    let none =
    text_is c.args.keys.now h rest c.args.packet.now c.iv-iv.result c.tag_in-tag.result c.args.index c.unwrap-head.result.len
    (record {
      packet_is = is;
      long = c.requires.tag h rest is;
      cut_is = head.len_is;
      iv_is = iv_read c.args.keys.now c.args.index h c.unwrap-head.result c.iv-iv.result head
          (c.iv-iv.ensures ∙ ap (λ (k : KeyAndSalt). iv k.salt c.unwrap-head.result.ssrc c.args.index) c.keys.view_is);
      tag_is = c.tag_in-tag.ensures ∙ take_rest c.args.packet.now n;
    }) in
    rw (sym none ∙ c.in_err-unseal_body.ensures.forged)
    (rw p.1 refl, ap (λ (xs : List ℕ). xs ++ drop n c.args.packet.now) c.in_err-unseal_body.ensures.refused ∙ take-append-drop n c.args.packet.now)
