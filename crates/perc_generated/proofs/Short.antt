-- Words and lines that are short and have no control octets.
use Rattle.std.proofs.Common.{◌≡◌, ℕ, zero, suc, ◌+◌, ◌*◌, ◌^◌, ◌<◌, ◌≤◌, Bool, true, false, List, [], ◌∷◌, ◌++◌, length, refl, sym, ap, ◌∙◌, arith}
use Rattle.std.specs.Prelude.{◌%◌, ◌/◌, ◌&&◌, nat_le, nat_lt, replicate, codes}
use Rattle.std.specs.Fmt.{decimal}
use Rattle.std.specs.Int.{byte_at, bytes_high_first}
use Rattle.std.specs.List.{AllByRecursion, join_with_byte, list_all}
use Rattle.std.proofs.lemmas.Bool.{and_from, and_parts, le-leb, lt-ltb, leb-true}
use Rattle.std.proofs.lemmas.Bool.Decides.{nat_tests}
use Rattle.std.proofs.lemmas.Fmt.{digits_decimal, length-decimal-le}
use Rattle.std.proofs.lemmas.List.{length-append}
use Rattle.std.proofs.lemmas.List.Folds.{list_all-append}
use Rattle.hex.specs.Hex.{encode_lower, lower_digits}
use Rattle.hex.proofs.HexLemmas.{length-encode_with}
use Rattle.byteorder.specs.Endian.{big_bytes}
use Rattle.perc_word.specs.Digits.{is_digit, is_lower_digit}
use Rattle.perc_word.specs.Word.{are_octets}
use Rattle.perc_word.proofs.Numerals.{own}
use Rattle.perc_word.proofs.Spelled.{encode-lower}
use Rattle.perc_word.proofs.Spelling.{bytes_from}

abbrev pub is_ink : ℕ → Bool
is_ink c = nat_le 32 c

pub record IsShort (most : ℕ) (xs : List ℕ) : Type 0 where
  pub size : length xs ≤ most
  pub ink : list_all is_ink xs ≡ true

all_ink : (p : ℕ → Bool) (xs : List ℕ) → ((c : ℕ) → p c ≡ true → is_ink c ≡ true) → list_all p xs ≡ true → list_all is_ink xs ≡ true
all_ink p [] goes all = refl
all_ink p (x ∷ xs) goes all =
    let parts = and_parts (p x) (list_all p xs) all in
    and_from (is_ink x) (list_all is_ink xs) (goes x parts.0) (all_ink p xs goes parts.1)

digit_ink : (c : ℕ) → is_digit c ≡ true → is_ink c ≡ true
digit_ink c is = grind (arith, nat_tests)

lower_ink : (c : ℕ) → is_lower_digit c ≡ true → is_ink c ≡ true
lower_ink c is = grind (arith, nat_tests)

pub short_append : (m n : ℕ) (xs ys : List ℕ) → IsShort m xs → IsShort n ys → IsShort (m + n) (xs ++ ys)
short_append m n xs ys a b =
    let size = length-append xs ys in
    let left = a.size in
    let right = b.size in record {
      size = omega arith;
      ink = list_all-append is_ink xs ys ∙ and_from (list_all is_ink xs) (list_all is_ink ys) a.ink b.ink;
    }

pub short_decimal : (n : ℕ) → n < 10 ^ 10 → IsShort 10 (decimal n)
short_decimal n few = record {
  size = length-decimal-le 10 n (omega arith) few (omega arith);
  ink = all_ink is_digit (decimal n) digit_ink (digits_decimal own n (omega arith));
}

pub short_hex : (n : ℕ) (xs : List ℕ) → length xs ≤ n → are_octets xs ≡ true → IsShort (2 * n) (encode_lower xs)
short_hex n xs few octets =
    let two = length-encode_with lower_digits xs in record {
      size = omega arith;
      ink = all_ink is_lower_digit (encode_lower xs) lower_ink (encode-lower xs (bytes_from xs octets));
    }

pub shorter : (m n : ℕ) (xs : List ℕ) → IsShort m xs → m ≤ n → IsShort n xs
shorter m n xs is few = let size = is.size in record { size = omega arith; ink = is.ink }

-- ---- octets

rest_below : (n : ℕ) → n % 256 < 256
rest_below n = omega arith

below : (k n : ℕ) → byte_at k n < 256
below zero n = rest_below n
below (suc k) n = rest_below (n / 256 ^ suc k)

pub octets_of_number : (k n : ℕ) → are_octets (bytes_high_first k n) ≡ true
octets_of_number zero n = refl
octets_of_number (suc k) n = and_from _ _ (lt-ltb (byte_at k n) 256 (below k n)) (octets_of_number k n)

pub octets_repeated : (k x : ℕ) → x < 256 → are_octets (replicate k x) ≡ true
octets_repeated zero x few = refl
octets_repeated (suc k) x few = and_from _ _ (lt-ltb x 256 few) (octets_repeated k x few)

pub count_repeated : (k x : ℕ) → length (replicate {A = ℕ} k x) ≡ k
count_repeated zero x = refl
count_repeated (suc k) x = ap suc (count_repeated k x)

-- ---- words in a line

-- each word, with the space in front of the next
pub short_joined : (most : ℕ) (word : List ℕ) (words : List (List ℕ)) → IsShort most word → AllByRecursion (IsShort most) words
    → IsShort (most + length words * (most + 1)) (join_with_byte 32 (word ∷ words))
short_joined most word [] is all = shorter most (most + 0 * (most + 1)) word is (omega arith)
short_joined most word (next ∷ words) is all =
    let rest = short_joined most next words all.0 all.1 in
    let n : ℕ = length words in
    let tail : IsShort (1 + (most + n * (most + 1))) (32 ∷ join_with_byte 32 (next ∷ words)) =
    (let size = rest.size in record { size = omega arith; ink = rest.ink }) in
    shorter (most + (1 + (most + n * (most + 1)))) (most + suc n * (most + 1)) _ (short_append most (1 + (most + n * (most + 1))) word (32 ∷ join_with_byte 32 (next ∷ words)) is tail) (grind arith)
