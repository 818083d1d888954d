use Rattle.std.proofs.Common.{List, ℕ, ap, ◌∙◌, arith}
use Rattle.std.specs.Int.{w128, to_be_bytes}
use Rattle.perc_gcm.specs.Field.{add, ghash}
use Rattle.perc_gcm.specs.Gcm.{element, hash_subkey, hashed, tag}
use Rattle.perc_gcm.proofs.Blocks.{hash_made}
use Rattle.perc_gcm.proofs.GcmLaws.{hash_subkey_fits}
use Rattle.perc_gcm.proofs.tag_of.Goals as goal

pub returns-clause-value : goal.returns-clause-value
unfolding element tag
returns-clause-value c =
    c.block_of.ensures
    ∙ ap (λ (x : ℕ). to_be_bytes w128 (add x c.from_be_bytes.result))
    (hash_made c.hash_table-table.result.whole.h c.hash_octets-aad_hash.result c.hash_octets-text_hash.result c.product-hash.result c.args.aad.now c.args.cipher.now
    (omega (arith, hash_subkey_fits c.args.key.now c.hash_table-table.ensures.key, c.hash_table-table.ensures.value)) c.requires.aad_length c.requires.cipher_length (λ j. omega (arith, c.type_inv.aad j)) (λ j. omega (arith, c.type_inv.cipher j))
    c.hash_octets-aad_hash.ensures c.hash_octets-text_hash.ensures c.product-hash.ensures
    ∙ ap (λ (h : ℕ). ghash h (hashed c.args.aad.now c.args.cipher.now)) c.hash_table-table.ensures.value)
    ∙ ap (λ (x : ℕ). to_be_bytes w128 (add (ghash (hash_subkey c.args.key.now) (hashed c.args.aad.now c.args.cipher.now)) x))
    (c.from_be_bytes.ensures ∙ ap (λ (xs : List ℕ). element xs) c.masked_counter-mask.ensures)
