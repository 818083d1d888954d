use Rattle.std.proofs.Common.{◌≡◌, ◌-◌, ℕ, length, take, replicate, ap, ◌∙◌, arith}
use Rattle.std.proofs.lemmas.List.{length-take-le}
use Rattle.perc_rtp.proofs.Writing.{padding_put}
use Rattle.perc_rtp.proofs.media.write_padding.Goals as goal

pub returns : goal.returns
returns c =
    let n : ℕ = c.from-last.result - 1 in
    let long : length (take n c.args.out.now) ≡ n = length-take-le n c.args.out.now (omega arith) in
    let zeros = c.fill.ensures.after (λ y is. is) ∙ ap (λ (k : ℕ). replicate k 0) long in
    padding_put c.fill.new.self c.args.out.now n c.args.pad zeros (omega arith) c.requires
