use Rattle.std.proofs.Common.{ℕ, List, ap₂, ◌∙◌, take}
use Rattle.perc_published.specs.Words as spec
use Rattle.perc_published.proofs.Spelling.{the_some}
use Rattle.perc_published.proofs.words.pair_of.Goals as goal

pub returns : goal.returns
unfolding spec.pair_of
returns c =
    the_some _ _ _ _ c.new.ensures c.unwrap.ensures
    ∙ λ i. record {
      key = ap₂ (λ (n : ℕ) (xs : List ℕ). take n xs) c.key_size.ensures.value c.key_octets-key.ensures i;
      salt = c.salt_octets.ensures i;
    }
