use Rattle.std.proofs.Common.{◌≡◌, ℕ, ◌+◌, ◌-◌, List, [], ◌∷◌, ◌++◌, length, drop, set, refl, sym, ap, ◌∙◌, append_assoc, arith}
use Rattle.byteorder.specs.Endian.{big_bytes}
use borrow.Rule.Slice.PartMut.{put_mid}
use Rattle.perc_ekt.specs.Key.{plain_text}
use Rattle.perc_ekt.proofs.Writing.{set_first, written_more}
use Rattle.perc_ekt.proofs.key.write_plain.Goals as goal

plain_parts : (key : List ℕ) (ssrc roc : ℕ) → (length key ∷ key) ++ (big_bytes 4 ssrc ++ big_bytes 4 roc) ≡ plain_text key ssrc roc
unfolding plain_text
plain_parts key ssrc roc = ap (λ (xs : List ℕ). length key ∷ xs) (sym (append_assoc key (big_bytes 4 ssrc) (big_bytes 4 roc)))

pub returns : goal.returns
returns c =
    let key = c.args.key.now in
    let old = c.args.out.now in
    let numbers : List ℕ = big_bytes 4 c.args.ssrc ++ big_bytes 4 c.args.roc in
    let end : ℕ = length key + 1 in
    let o1 : List ℕ = set old 0 (length key) in
    let o2 = put_mid 1 (length o1 - 1) o1 c.write_octets.new.out in
    let e1 : o1 ≡ (length key ∷ []) ++ drop 1 old = set_first old (length key) (omega arith) in
    let e2 = written_more (length key ∷ []) key old o1 c.write_octets.new.out 1 (length key) refl refl (omega arith) e1 c.write_octets.ensures in
    let offset : 1 + length key ≡ end = omega arith in
    let e2' : o2 ≡ (length key ∷ key) ++ drop end old = e2 ∙ ap (λ (k : ℕ). (length key ∷ key) ++ drop k old) offset in
    let e3 = written_more (length key ∷ key) numbers old o2 c.write_numbers.new.out end 8 (omega arith) refl (omega arith) e2' c.write_numbers.ensures in
    let last : end + 8 ≡ length key + 9 = omega arith in
    e3 ∙ ap (λ (k : ℕ). ((length key ∷ key) ++ numbers) ++ drop k old) last ∙ ap (λ (r : List ℕ). r ++ drop (length key + 9) old) (plain_parts key c.args.ssrc c.args.roc)
