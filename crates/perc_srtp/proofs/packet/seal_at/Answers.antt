use Rattle.std.proofs.Common.{List, ℕ, ap, ◌∙◌, ◌++◌, arith}
use Rattle.std.proofs.lemmas.List.{length-take-le}
use Rattle.perc_kdf.specs.Derivation.{KeyAndSalt}
use Rattle.perc_srtp.specs.Sealed.{iv}
use Rattle.perc_srtp.proofs.Sealing.{head_read, iv_read, sealed_made}
use Rattle.perc_srtp.proofs.packet.seal_at.Goals as goal

pub returns-clause-sealed : goal.returns-clause-sealed
returns-clause-sealed c = λ h body is.
    let head = head_read h c.read.result c.unwrap-head.result (c.read.ensures.only h body is) c.unwrap-head.ensures in
    sealed_made c.args.keys.now h body c.args.packet.now c.iv-iv.result c.seal_body-tag.new.packet c.copy_from_slice.new.self c.args.index c.unwrap-head.result.len c.args.len
    (record {
      packet = is;
      cut_is = head.len_is;
      iv_is = iv_read c.args.keys.now c.args.index h c.unwrap-head.result c.iv-iv.result head
          (c.iv-iv.ensures ∙ ap (λ (k : KeyAndSalt). iv k.salt c.unwrap-head.result.ssrc c.args.index) c.keys.view_is);
      long = c.seal_body-tag.auto.packet ∙ length-take-le c.args.len c.args.packet.now (omega arith);
      sealed_is = ap (λ (xs : List ℕ). c.seal_body-tag.new.packet ++ xs) c.copy_from_slice.ensures.after ∙ c.seal_body-tag.ensures;
    })
