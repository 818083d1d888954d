use Rattle.std.proofs.Common.{◌≡◌, ℕ, ◌+◌, List, [], ◌∷◌, ◌++◌, length, drop, refl, ap, ◌∙◌, append_assoc, arith}
use Rattle.byteorder.specs.Endian.{big_bytes}
use Rattle.perc_ekt.specs.Field.{Full, spelling}
use Rattle.perc_ekt.proofs.Writing.{written_more}
use Rattle.perc_ekt.proofs.field.write_full.Goals as goal

-- the parts of a full field
full_parts : (c : List ℕ) (spi epoch : ℕ) → c ++ (((big_bytes 2 spi ++ big_bytes 2 epoch) ++ big_bytes 2 (length c + 7)) ++ (2 ∷ [])) ≡ spelling (Full c spi epoch)
unfolding spelling
full_parts c spi epoch = simp append_assoc

pub returns-clause-value : goal.returns-clause-value
returns-clause-value c =
    let cipher = c.args.cipher.now in
    let old = c.args.out.now in
    let tail : List ℕ = ((big_bytes 2 c.args.spi ++ big_bytes 2 c.args.epoch) ++ big_bytes 2 (length cipher + 7)) ++ (2 ∷ []) in
    let first : c.copy_from_slice.new.self ++ drop (length cipher) old ≡ cipher ++ drop (length cipher) old = ap (λ (r : List ℕ). r ++ drop (length cipher) old) c.copy_from_slice.ensures.after in
    written_more cipher tail old (c.copy_from_slice.new.self ++ drop (length cipher) old) c.write_numbers.new.out (length cipher) 7 refl refl (omega arith) first c.write_numbers.ensures
    ∙ ap (λ (r : List ℕ). r ++ drop (length cipher + 7) old) (full_parts cipher c.args.spi c.args.epoch)
