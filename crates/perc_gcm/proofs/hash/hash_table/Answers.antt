use Rattle.std.proofs.Common.{List, ℕ, ap, ◌∙◌}
use Rattle.perc_gcm.specs.Gcm.{element, hash_subkey}
use Rattle.perc_gcm.proofs.hash.hash_table.Goals as goal

pub returns-clause-value : goal.returns-clause-value
unfolding element hash_subkey
returns-clause-value c = c.of.ensures ∙ c.from_be_bytes.ensures ∙ ap (λ (xs : List ℕ). element xs) c.encrypt_block.ensures.value
