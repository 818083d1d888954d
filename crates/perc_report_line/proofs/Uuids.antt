-- UUIDs in lines: what a word says, and the one word that says it.
use Rattle.std.proofs.Common.{◌≡◌, ℕ, zero, suc, ◌+◌, ◌*◌, ◌<◌, ◌==◌, Bool, true, false, not, cond, inl, inr, List, [], ◌∷◌, ◌++◌, length, take, drop, All, Option, Some, None, refl, sym, subst, arith}
use Rattle.std.specs.Prelude.{nat_lt, slice_index, ◌&&◌}
use Rattle.std.specs.List.{list_all}
use Rattle.std.proofs.lemmas.Bool.{and_parts, and_from, both_ways, eqb-true, ltb-true, lt-ltb, cases_Bool}
use Rattle.std.proofs.lemmas.Bool.Decides.{nat_tests}
use Rattle.std.proofs.lemmas.List.Elements.{All-cons, All-nil}
use Rattle.std.proofs.lemmas.List.Folds.{list_all_at}
use Rattle.std.proofs.lemmas.Option.{cond_some}
use Rattle.uuid.specs.Text.{by_index, byte_of_digits, value_of, is_hex_digit, is_hyphen_place, digit_place, digits_of, nibble, hex_digit, hyphenated_text}
use Rattle.uuid.specs.Text.{lower, parsed, parsed_simple, parsed_hyphenated, parsed_braced, parsed_urn, has_urn_prefix, open_brace, close_brace}
use Rattle.uuid.proofs.TextLemmas.{by_index_length, nibble_small}
use Rattle.uuid.proofs.RoundTrips.{parses_hyphenated}
use Rattle.perc_word.specs.Word.{are_octets, uuid_in}
use Rattle.perc_word.proofs.Split.{is_free}
use Rattle.perc_word.proofs.Items.{free-append}
use Rattle.perc_word.proofs.Spelling.{Spelling, bind_some, chosen, same, itself}
use Rattle.perc_report_line.specs.Report.{AreUuid}

-- ---- what parses is 16 octets

value-small : (c : ℕ) → is_hex_digit c ≡ true → value_of c < 16
value-small c h = grind (arith, nat_tests)

digit_in : (hex : List ℕ) (k : ℕ) → list_all is_hex_digit hex ≡ true → k < length hex → is_hex_digit (slice_index hex k) ≡ true
digit_in hex k all lt =
    elim (cases_Bool (is_hex_digit (slice_index hex k))) [
      | inl is ↦ is
      | inr other ↦ absurd (both_ways _ (list_all_at is_hex_digit hex k 0 lt other) all)
    ]

byte-small : (hex : List ℕ) (j : ℕ) → length hex ≡ 32 → list_all is_hex_digit hex ≡ true → j < 16 → byte_of_digits hex j < 256
byte-small hex j len all lt =
    let first : 2 * j < length hex = omega arith in
    let second : 2 * j + 1 < length hex = omega arith in
    let high : value_of (slice_index hex (2 * j)) < 16 = value-small (slice_index hex (2 * j)) (digit_in hex (2 * j) all first) in
    let low : value_of (slice_index hex (2 * j + 1)) < 16 = value-small (slice_index hex (2 * j + 1)) (digit_in hex (2 * j + 1) all second) in
    below (value_of (slice_index hex (2 * j))) (value_of (slice_index hex (2 * j + 1))) high low
  where
    below : (a b : ℕ) → a < 16 → b < 16 → a * 16 + b < 256
    below a b h l = omega arith

bytes_by : (n : ℕ) (f : ℕ → ℕ) → ((k : ℕ) → k < n → f k < 256) → are_octets (by_index n f) ≡ true
unfolding by_index
bytes_by zero f h = refl
bytes_by (suc n) f h = octets-append (by_index n f) (f n) (bytes_by n f (λ k lt. h k (omega arith))) (h n (omega arith))
  where
    octets-append : (xs : List ℕ) (x : ℕ) → are_octets xs ≡ true → x < 256 → are_octets (xs ++ x ∷ []) ≡ true
    octets-append [] x h lt = and_from _ _ (lt-ltb _ _ lt) refl
    octets-append (y ∷ ys) x h lt = let parts = and_parts (nat_lt y 256) (are_octets ys) h in and_from _ _ parts.0 (octets-append ys x parts.1 lt)

simple_is : (hex octets : List ℕ) → parsed_simple hex ≡ Some octets → AreUuid octets
simple_is hex octets h =
    let parts = cond_some _ _ _ h in
    let tests = and_parts (length hex == 32) (list_all is_hex_digit hex) parts.0 in
    let len = eqb-true (length hex) 32 tests.0 in
    subst AreUuid parts.1 (record { count = by_index_length 16 (byte_of_digits hex); octets = bytes_by 16 (byte_of_digits hex) (λ j lt. byte-small hex j len tests.1 lt) })

tested : {A : Type 0} (b : Bool) (o : Option A) (y : A) → cond b o None ≡ Some y → (b ≡ true) × (o ≡ Some y)
tested true o y h = (refl, h)
tested false o y h = cc h

hyphenated_is : (s octets : List ℕ) → parsed_hyphenated s ≡ Some octets → AreUuid octets
hyphenated_is s octets h = simple_is (digits_of s) octets (tested _ _ octets h).1

braced_is : (s octets : List ℕ) → parsed_braced s ≡ Some octets → AreUuid octets
braced_is s octets h =
    let test = (length s == 38) && (slice_index s 0 == open_brace) && (slice_index s 37 == close_brace) in
    hyphenated_is (take 36 (drop 1 s)) octets (tested test (parsed_hyphenated (take 36 (drop 1 s))) octets h).1

urn_is : (s octets : List ℕ) → parsed_urn s ≡ Some octets → AreUuid octets
urn_is s octets h = hyphenated_is (drop 9 s) octets (tested ((length s == 45) && has_urn_prefix s) (parsed_hyphenated (drop 9 s)) octets h).1

parsed_is : (s octets : List ℕ) → parsed s ≡ Some octets → AreUuid octets
parsed_is s octets h =
    let urn : Option (List ℕ) = cond (length s == 45) (parsed_urn s) None in
    let braced : Option (List ℕ) = cond (length s == 38) (parsed_braced s) urn in
    let hyphenated : Option (List ℕ) = cond (length s == 36) (parsed_hyphenated s) braced in
    elim (chosen (length s == 32) (parsed_simple s) hyphenated (Some octets) h) [
      | inl at ↦ simple_is s octets at.1
      | inr a ↦
          elim (chosen (length s == 36) (parsed_hyphenated s) braced (Some octets) a.1) [
            | inl at ↦ hyphenated_is s octets at.1
            | inr b ↦
                elim (chosen (length s == 38) (parsed_braced s) urn (Some octets) b.1) [
                  | inl at ↦ braced_is s octets at.1
                  | inr c ↦ urn_is s octets (tested (length s == 45) (parsed_urn s) octets c.1).1
                ]
          ]
    ]

-- ---- both ways

abbrev Below : ℕ → Type 0
Below x = x < 256

all_below : (xs : List ℕ) → are_octets xs ≡ true → All (λ b. b < 256) xs
all_below [] h = All-nil Below
all_below (x ∷ xs) h = let parts = and_parts (nat_lt x 256) (are_octets xs) h in All-cons Below x xs (ltb-true x 256 parts.0) (all_below xs parts.1)

abbrev Back : List ℕ → List ℕ → Type 0
Back word octets = (word ≡ hyphenated_text lower octets) × AreUuid octets

uuid-back : (word octets : List ℕ) → uuid_in word ≡ Some octets → Back word octets
unfolding uuid_in
uuid-back word octets h =
    let first = bind_some (parsed word) _ octets h in
    let parts = cond_some _ _ _ first.2 in
    subst (Back word) parts.1 (sym (same (hyphenated_text lower first.0) word parts.0), parsed_is word first.0 first.1)

uuid-again : (octets : List ℕ) → AreUuid octets → uuid_in (hyphenated_text lower octets) ≡ Some octets
unfolding uuid_in
uuid-again octets h = rw (sym (parses_hyphenated lower octets (inl refl) h.count (all_below octets h.octets)), itself (hyphenated_text lower octets)) refl

digit-free : (d : ℕ) → d < 16 → not (hex_digit lower d == 32) ≡ true
digit-free d h = grind (arith, nat_tests)

place-free : (b : Bool) (d : ℕ) → d < 16 → not (cond b 45 (hex_digit lower d) == 32) ≡ true
place-free true d h = refl
place-free false d h = digit-free d h

free_by : (n : ℕ) (f : ℕ → ℕ) → ((k : ℕ) → not (f k == 32) ≡ true) → is_free 32 (by_index n f) ≡ true
unfolding by_index
free_by zero f h = refl
free_by (suc n) f h = free-append 32 (by_index n f) (f n ∷ []) (free_by n f h) (and_from _ _ (h n) refl)

uuid-free : (octets : List ℕ) → AreUuid octets → is_free 32 (hyphenated_text lower octets) ≡ true
uuid-free octets h = free_by 36 _ (λ k. place-free (is_hyphen_place k) (nibble octets (digit_place k)) (nibble_small octets (digit_place k)))

pub uuid_kind : Spelling uuid_in (hyphenated_text lower) AreUuid
uuid_kind = record {
  back = uuid-back;
  again = uuid-again;
  free = uuid-free;
}
