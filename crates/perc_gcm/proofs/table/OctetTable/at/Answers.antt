use Rattle.std.proofs.Common.{ℕ, ap, ◌∙◌, ◌/◌, bit_xor}
use Rattle.std.proofs.lemmas.Nat.{and_mask}
use Rattle.perc_gcm.specs.Field.{product}
use Rattle.perc_gcm.specs.Table.{polynomial}
use Rattle.perc_gcm.proofs.Multiples.{octet_at}
use Rattle.perc_gcm.proofs.table.OctetTable.at.Goals as goal

pub returns : goal.returns
returns c =
    ap (λ (x : ℕ). bit_xor x c.at-2.result) c.at.ensures
    ∙ ap (λ (x : ℕ). bit_xor (product (polynomial (c.args.octet / 16)) c.args.self.now.whole.h) x)
    (c.at-2.ensures ∙ ap (λ (n : ℕ). product (polynomial n) c.args.self.now.moved.h) (and_mask c.args.octet 4))
    ∙ octet_at c.args.self.now.whole.h c.args.self.now.moved.h c.args.octet c.args.self.now.fits c.requires c.args.self.now.is_moved
