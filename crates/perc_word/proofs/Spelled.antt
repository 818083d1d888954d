-- Octets and their spelling in lower-case hexadecimal.
use Rattle.std.proofs.Common.{◌≡◌, ℕ, zero, suc, ◌+◌, ◌*◌, ◌/◌, ◌%◌, ◌<◌, ◌≤◌, ◌==◌, Bool, true, false, ◌||◌, not, inl, inr, List, [], ◌∷◌, ◌++◌}
use Rattle.std.proofs.Common.{length, take, set, get_or, slice_index, Option, Some, None, unwrap_or, Result, Ok, Err, refl, sym, ap, ◌∙◌, arith}
use Rattle.std.specs.List.{AllPass, list_all}
use Rattle.std.proofs.lemmas.List.{take_more_set}
use Rattle.std.proofs.lemmas.Grind.{take_at_read}
use Rattle.std.proofs.lemmas.List.Elements.{All-cons, All-nil}
use Rattle.std.specs.Result.{result_unwrap_or}
use Rattle.std.specs.Str.{bytes_eq}
use Rattle.std.proofs.lemmas.Bool.{and_parts, and_from, agree_below_at, both_ways, false_from_ne_true, eqb-true, ne_eqb, cases_eq}
use Rattle.std.proofs.lemmas.Bool.Decides.{nat_tests}
use Rattle.std.proofs.lemmas.Slice.Eq.{bytes_eq-Decides}
use Rattle.hex.specs.Hex.{IsBytes, decode_of, decode_pairs, digit_or_error, hex_digit_value, is_hex_digit, encode_lower, encode_with, lower_digits, pair_value, value_at, ◌>>=◌}
use Rattle.hex.specs.declared.error.FromHexError.{FromHexError}
use Rattle.hex.proofs.HexLemmas.{length-encode_with, decode_of-even, decode_of-odd, decode_of-ok, decode_of-digits}
use Rattle.perc_word.specs.Word.{octets_in, spelled_by, spelled_octets, octets_or_none}
use Rattle.perc_word.specs.Digits.{is_lower_digit, digit_value, octet_value}

-- ---- one digit

-- a digit in lower case is the one that its value is spelled by, which computes
abbrev is_spelled_back : ℕ → Bool
is_spelled_back c = not (is_lower_digit c) || (slice_index lower_digits (unwrap_or (hex_digit_value c) 99) == c)

lower_digit-small : (c : ℕ) → is_lower_digit c ≡ true → c < 103
lower_digit-small c h = grind (arith, nat_tests)

or_right : (x y : Bool) → x ≡ true → (not x || y) ≡ true → y ≡ true
or_right true y e h = h
or_right false y e h = cc e

digit-back : (c v : ℕ) → is_lower_digit c ≡ true → hex_digit_value c ≡ Some v → slice_index lower_digits v ≡ c
digit-back c v low e =
    let test : is_spelled_back c ≡ true = agree_below_at is_spelled_back (λ _. true) 103 c refl (lower_digit-small c low) in
    let same = or_right (is_lower_digit c) _ low test in
    let there : slice_index lower_digits (unwrap_or (hex_digit_value c) 99) ≡ c = eqb-true _ c same in
    rw e at there

-- each digit of the table is in lower case, which computes
digit-lower : (d : ℕ) → d < 16 → is_lower_digit (slice_index lower_digits d) ≡ true
digit-lower d h = agree_below_at (λ k. is_lower_digit (slice_index lower_digits k)) (λ _. true) 16 d refl h

-- a digit that has a value
digit_read : (c i : ℕ) (o : Option ℕ) (v : ℕ) → digit_or_error c i o ≡ Ok v → o ≡ Some v
digit_read c i (Some w) v h = ap Some (ap (λ (r : Result ℕ FromHexError). result_unwrap_or r 0) h)
digit_read c i None v h = cc h

hex_digit_value-small : (c v : ℕ) → hex_digit_value c ≡ Some v → v < 16
hex_digit_value-small c v h = grind (arith)

-- such a digit is a digit
lower_digit-digit : (c : ℕ) → is_lower_digit c ≡ true → is_hex_digit c ≡ true
lower_digit-digit c h =
    let test = agree_below_at (λ k. not (is_lower_digit k) || is_hex_digit k) (λ _. true) 103 c refl (lower_digit-small c h) in
    or_right (is_lower_digit c) (is_hex_digit c) h test

abbrev IsDigit : ℕ → Type 0
IsDigit c = is_hex_digit c ≡ true

digits-pass : (s : List ℕ) → list_all is_lower_digit s ≡ true → AllPass is_hex_digit s
digits-pass [] low = All-nil IsDigit
digits-pass (c ∷ cs) low =
    let parts = and_parts (is_lower_digit c) (list_all is_lower_digit cs) low in
    All-cons IsDigit c cs (lower_digit-digit c parts.0) (digits-pass cs parts.1)

-- ---- a text

-- what an `Ok` behind `>>=` shows
bind_ok : {A B : Type 0} (r : Result A FromHexError) (f : A → Result B FromHexError) (y : B) → (r >>= f) ≡ Ok y → (x : A) × (r ≡ Ok x) × (f x ≡ Ok y)
bind_ok (Ok x) f y h = (x, refl, h)
bind_ok (Err e) f y h = cc h

-- pairs of digits in lower case are the spelling of what they decode to
pairs-back : (i : ℕ) (s bytes : List ℕ) → list_all is_lower_digit s ≡ true → decode_pairs i s ≡ Ok bytes → encode_lower bytes ≡ s
unfolding decode_pairs encode_with
pairs-back i [] bytes low h =
    let e : [] ≡ bytes = ap (λ (r : Result (List ℕ) FromHexError). result_unwrap_or r []) h in
    rw (← e) refl
pairs-back i (a ∷ []) bytes low h = cc h
pairs-back i (a ∷ b ∷ rest) bytes low h =
    let p0 = bind_ok (pair_value a b i) _ bytes h in
    let p1 = bind_ok (value_at a i) _ p0.0 p0.1 in
    let p2 = bind_ok (value_at b (i + 1)) _ p0.0 p1.2 in
    let p3 = bind_ok (decode_pairs (i + 2) rest) _ bytes p0.2 in
    let e : p0.0 ∷ p3.0 ≡ bytes = ap (λ (r : Result (List ℕ) FromHexError). result_unwrap_or r []) p3.2 in
    let byte : p1.0 * 16 + p2.0 ≡ p0.0 = ap (λ (r : Result ℕ FromHexError). result_unwrap_or r 0) p2.2 in
    let low_a = and_parts (is_lower_digit a) _ low in
    let low_b = and_parts (is_lower_digit b) _ low_a.1 in
    let va = digit_read a i (hex_digit_value a) p1.0 p1.1 in
    let vb = digit_read b (i + 1) (hex_digit_value b) p2.0 p2.1 in
    let sa = hex_digit_value-small a p1.0 va in
    let sb = hex_digit_value-small b p2.0 vb in
    let high : p0.0 / 16 ≡ p1.0 = omega arith in
    let lower : p0.0 % 16 ≡ p2.0 = omega arith in
    let da : slice_index lower_digits (p0.0 / 16) ≡ a = ap (slice_index lower_digits) high ∙ digit-back a p1.0 low_a.0 va in
    let db : slice_index lower_digits (p0.0 % 16) ≡ b = ap (slice_index lower_digits) lower ∙ digit-back b p2.0 low_b.0 vb in
    let ih = pairs-back (i + 2) rest p3.0 low_b.1 p3.1 in
    rw (← e) (ap (λ x. x ∷ slice_index lower_digits (p0.0 % 16) ∷ encode_lower p3.0) da ∙ ap (λ x. a ∷ x ∷ encode_lower p3.0) db ∙ ap (λ xs. a ∷ b ∷ xs) ih)

-- a spelling has no other digits
pub encode-lower : (xs : List ℕ) → IsBytes xs → list_all is_lower_digit (encode_lower xs) ≡ true
unfolding encode_with
encode-lower [] h = refl
encode-lower (x ∷ xs) h =
    let fits : x < 256 = h 0 in
    and_from _ _ (digit-lower (x / 16) (omega arith)) (and_from _ _ (digit-lower (x % 16) (omega arith)) (encode-lower xs (λ k. h (suc k))))

-- what a text of digits in lower case decodes to, it is the spelling of
pub decode-back : (s bytes : List ℕ) → list_all is_lower_digit s ≡ true → decode_of s ≡ Ok bytes → encode_lower bytes ≡ s
decode-back s bytes low h =
    let even = (decode_of-ok s bytes h).0 in
    pairs-back 0 s bytes low (sym (decode_of-even s even) ∙ h)

-- ---- what a word spells

-- an even number of such digits, two or more, spells octets
pub spells-octets : (word : List ℕ) → (length word ≡ 0 → ⊥) → length word % 2 ≡ 0 → list_all is_lower_digit word ≡ true
    → (octets_in word ≡ Some (spelled_octets word)) × (word ≡ encode_lower (spelled_octets word))
unfolding octets_in
spells-octets word some even low =
    let r = decode_of-digits word even (digits-pass word low) in
    let back = decode-back word r.0 low r.1 in
    let same : bytes_eq word (encode_lower r.0) ≡ true = (bytes_eq-Decides word (encode_lower r.0)).1 (sym back) in
    rw (r.1, ne_eqb (length word) 0 some, same) (refl, sym back)

-- another word spells none
pub spells_none-odd : (word : List ℕ) → length word % 2 ≡ 1 → octets_in word ≡ None
unfolding octets_in
spells_none-odd word odd =
    let some : length word ≡ 0 → ⊥ = λ e. omega arith in
    rw (ne_eqb (length word) 0 some, decode_of-odd word odd) refl

spelled_by-none : (word : List ℕ) (r : Result (List ℕ) FromHexError) → decode_of word ≡ r → list_all is_lower_digit word ≡ false → spelled_by word r ≡ None
spelled_by-none word (Ok octets) e low =
    let bytes = (decode_of-ok word octets e).3 in
    let other : bytes_eq word (encode_lower octets) ≡ false =
    false_from_ne_true _ (λ t. both_ways _ low (ap (list_all is_lower_digit) ((bytes_eq-Decides word (encode_lower octets)).0 t) ∙ encode-lower octets bytes)) in
    rw other refl
spelled_by-none word (Err x) e low = refl

pub spells_none-empty : (word : List ℕ) → length word ≡ 0 → octets_in word ≡ None
unfolding octets_in
spells_none-empty word e = rw e refl

pub spells_none-other : (word : List ℕ) → list_all is_lower_digit word ≡ false → octets_in word ≡ None
unfolding octets_in
spells_none-other word low =
    elim (cases_eq (length word) 0) [
      | inl none ↦ rw none refl
      | inr some ↦ rw (ne_eqb (length word) 0 some) (spelled_by-none word (decode_of word) refl low)
    ]

-- digits that are the spelling of what they decode to decode to it
spelled-ok : (digits : List ℕ) (r : Result (List ℕ) FromHexError) → decode_of digits ≡ r → digits ≡ encode_lower (octets_or_none r) → decode_of digits ≡ Ok (octets_or_none r)
unfolding decode_pairs encode_with
spelled-ok digits (Ok octets) e h = e
spelled-ok digits (Err x) e h = rw h refl

-- ---- digits, two for each octet

-- each digit of the table has its place as its value, which computes
digit-value : (d : ℕ) → d < 16 → digit_value (slice_index lower_digits d) ≡ d
digit-value d h = eqb-true _ d (agree_below_at (λ k. digit_value (slice_index lower_digits k) == k) (λ _. true) 16 d refl h)

octet-value : (x a b : ℕ) → x < 256 → digit_value a ≡ x / 16 → digit_value b ≡ x % 16 → octet_value a b ≡ x
octet-value x a b small high low = rw (high, low) (omega arith)

-- the two digits of an octet
pub octet_at : (xs : List ℕ) (i : ℕ) → IsBytes xs → i < length xs → octet_value (get_or (encode_lower xs) (2 * i) 0) (get_or (encode_lower xs) (2 * i + 1) 0) ≡ get_or xs i 0
unfolding encode_with
octet_at [] i bytes lt = absurd (omega arith)
octet_at (x ∷ xs) zero bytes lt =
    let small : x < 256 = bytes 0 in
    octet-value x _ _ small (digit-value (x / 16) (omega arith)) (digit-value (x % 16) (omega arith))
octet_at (x ∷ xs) (suc i) bytes lt =
    let high : 2 * suc i ≡ suc (suc (2 * i)) = omega arith in
    let low : suc (suc (2 * i)) + 1 ≡ suc (suc (2 * i + 1)) = omega arith in
    rw (high, low) (octet_at xs i (λ k. bytes (suc k)) (omega arith))

-- what digits spell are octets
pub spelled_bytes : (digits : List ℕ) → digits ≡ encode_lower (spelled_octets digits) → IsBytes (spelled_octets digits)
spelled_bytes digits h = (decode_of-ok digits (spelled_octets digits) (spelled-ok digits (decode_of digits) refl h)).3

-- there are two for each octet
pub spelled_twice : (digits : List ℕ) → digits ≡ encode_lower (spelled_octets digits) → length digits ≡ 2 * length (spelled_octets digits)
spelled_twice digits h = ap length h ∙ length-encode_with lower_digits (spelled_octets digits)

-- the octet of two digits
pub octet_of_two : (digits : List ℕ) (i : ℕ) → digits ≡ encode_lower (spelled_octets digits) → i < length (spelled_octets digits)
    → octet_value (get_or digits (2 * i) 0) (get_or digits (2 * i + 1) 0) ≡ get_or (spelled_octets digits) i 0
octet_of_two digits i h lt =
    ap (λ xs. octet_value (get_or xs (2 * i) 0) (get_or xs (2 * i + 1) 0)) h ∙ octet_at (spelled_octets digits) i (spelled_bytes digits h) lt

-- an octet more of them
pub decode_more : (out octets : List ℕ) (i v : ℕ) → i < length out → length out ≤ length octets → v ≡ get_or octets i 0 → take i out ≡ take i octets → take (i + 1) (set out i v) ≡ take (i + 1) octets
decode_more out octets i v lt le e h = take_more_set out i v lt ∙ ap (λ front. front ++ v ∷ []) h ∙ ap (λ x. take i octets ++ x ∷ []) e ∙ sym (take_at_read octets i 0 (omega arith)).1
