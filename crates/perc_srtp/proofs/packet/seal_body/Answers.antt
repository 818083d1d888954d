use Rattle.std.proofs.Common.{List, ℕ, ◌++◌, ap, ◌∙◌, append_assoc}
use Rattle.perc_gcm.specs.Gcm.{sealed_text}
use Rattle.perc_srtp.proofs.packet.seal_body.Goals as goal

pub returns : goal.returns
returns c =
    let header : List ℕ = c.split_at_mut-header.result.0.now in
    let front = c.split_at_mut-header.ensures.front in
    let back = c.split_at_mut-header.ensures.back in
    append_assoc header c.seal.new.text c.seal.result
    ∙ ap (λ (xs : List ℕ). header ++ xs) c.seal.ensures.sealed
    ∙ (λ i. front i ++ sealed_text (c.keys.view_is i).key c.args.iv.now (front i) (back i))
