use borrow.Rule.Slice.PartMut.{put_mid}
use Rattle.std.proofs.Common.{List, ℕ, [], ◌∷◌, ◌++◌, ap, ◌∙◌, ◌/◌, ◌^◌, arith, refl}
use Rattle.std.specs.Int.{w64, to_be_bytes}
use Rattle.std.proofs.lemmas.Nat.{and_mask}
use Rattle.perc_gcm.proofs.Numbers.{block_by_words}
use Rattle.perc_gcm.proofs.field.block_of.Goals as goal

pub returns : goal.returns
returns c =
    ap (λ (v : List ℕ). put_mid 8 8 (v ++ 0 ∷ 0 ∷ 0 ∷ 0 ∷ 0 ∷ 0 ∷ 0 ∷ 0 ∷ []) c.copy_from_slice-2.new.self) (c.copy_from_slice.ensures.after ∙ c.to_be_bytes.ensures)
    ∙ ap (λ (v : List ℕ). put_mid 8 8 (to_be_bytes w64 (c.args.element / 2 ^ 64) ++ 0 ∷ 0 ∷ 0 ∷ 0 ∷ 0 ∷ 0 ∷ 0 ∷ 0 ∷ []) v) (c.copy_from_slice-2.ensures.after ∙ c.to_be_bytes-2.ensures)
    ∙ block_by_words c.args.element _ _ (omega arith) refl (and_mask c.args.element 64)
