-- Where the wrapped key stands that a field carries.
use Rattle.std.proofs.Common.{◌≡◌, ℕ, ◌+◌, ◌-◌, ◌≤◌, List, [], ◌∷◌, ◌++◌, append_assoc, length, take, drop, refl, ap, ◌∙◌, arith}
use Rattle.std.proofs.lemmas.List.{length-append, length-drop, take_at}
use Rattle.std.specs.declared.ops.Range.{Range}
use Rattle.byteorder.specs.Endian.{big_bytes}
use Rattle.perc_ekt.specs.Field.{Extension, Field, Full, Short, spelling, told_of}
use Rattle.perc_ekt.specs.declared.field.EktField.TheVariants as told_as

-- It is a full field, whose wrapped key stands between these offsets.
pub record IsFull (f : Field) (datagram : List ℕ) (spi start end : ℕ) : Type 0 where
  pub cipher : List ℕ
  pub epoch : ℕ
  pub is : f ≡ Full cipher spi epoch
  pub rising : start ≤ end
  pub within : end ≤ length datagram
  pub octets : take (end - start) (drop start datagram) ≡ cipher
  pub few : length cipher ≤ length datagram

abbrev tail_of : List ℕ → ℕ → ℕ → List ℕ
tail_of cipher spi epoch = big_bytes 2 spi ++ big_bytes 2 epoch ++ big_bytes 2 (length cipher + 7) ++ 2 ∷ []

spelled : (cipher : List ℕ) (spi epoch : ℕ) → spelling (Full cipher spi epoch) ≡ cipher ++ tail_of cipher spi epoch
unfolding spelling
spelled cipher spi epoch = simp append_assoc refl

some_behind : (cipher : List ℕ) (spi epoch : ℕ) → 1 ≤ length (tail_of cipher spi epoch)
some_behind cipher spi epoch = omega (arith, length-append (big_bytes 2 spi ++ big_bytes 2 epoch ++ big_bytes 2 (length cipher + 7)) (2 ∷ []))

pub full_of : (f : Field) (n spi epoch : ℕ) (range : Range ℕ) (datagram : List ℕ) → told_as.Full spi epoch range ≡ told_of f n → drop n datagram ≡ spelling f
    → IsFull f datagram spi range.start range.end
full_of Short n spi epoch range datagram told at = absurd (cc)
full_of (Extension octets kind) n spi epoch range datagram told at = absurd (cc)
full_of (Full cipher s e) n spi epoch range datagram told at =
    let spi_is : s ≡ spi = cc in
    let range_is : ◌≡◌ {A = Range ℕ} range (record { start = n; end = n + length cipher }) = cc in
    let start_is : range.start ≡ n = ap (λ (r : Range ℕ). r.start) range_is in
    let end_is : range.end ≡ n + length cipher = ap (λ (r : Range ℕ). r.end) range_is in
    let whole : drop n datagram ≡ cipher ++ tail_of cipher s e = at ∙ spelled cipher s e in
    let sizes = ap length whole in
    let both = length-append cipher (tail_of cipher s e) in
    let behind = length-drop n datagram in
    let some = some_behind cipher s e in
    let size : range.end - range.start ≡ length cipher = omega arith in record {
      cipher = cipher;
      epoch = e;
      is = ap (λ (x : ℕ). Full cipher x e) spi_is;
      rising = omega arith;
      within = omega arith;
      octets = (λ i. take (size i) (drop (start_is i) datagram)) ∙ ap (take (length cipher)) whole ∙ take_at cipher (tail_of cipher s e) (length cipher) refl;
      few = omega arith;
    }
