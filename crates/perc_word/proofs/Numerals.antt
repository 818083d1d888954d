-- Decimal digits and the numbers that they stand for.
use Rattle.std.proofs.Common.{◌≡◌, ℕ, ◌+◌, ◌*◌, ◌-◌, ◌^◌, ◌<◌, ◌≤◌, ◌==◌, Bool, true, false, ◌&&◌, ◌||◌, not, inl, inr, List, [], ◌∷◌, length, get_or, leb, Some, None, refl, sym, ap, ◌∙◌, arith, rules}
use Rattle.std.specs.Fmt.{decimal}
use Rattle.std.specs.List.{list_all}
use Rattle.std.specs.Str.{bytes_eq}
use Rattle.std.proofs.lemmas.Bool.{and_parts, and_from, both_ways, false_from_ne_true, cases_eq, eqb-true, eqb-false, eq-eqb, ne_eqb, not-true, leb-true, lt-leb, le-leb, and_right, cases_Bool}
use Rattle.std.proofs.lemmas.List.Folds.{list_all_at}
use Rattle.std.proofs.lemmas.Bool.Decides.{nat_tests}
use Rattle.std.proofs.lemmas.Fmt.{decimal-digits_value, digits_decimal, decimal_nonempty, decimal_digit, first_decimal}
use Rattle.std.proofs.lemmas.Slice.Eq.{bytes_eq-Decides}
use Rattle.std.proofs.lemmas.Str.Parse.{IsNumeralModel, numerals_by_fold}
use Rattle.perc_word.specs.Word.{value_onto, number_in}
use Rattle.perc_word.specs.Digits.{is_digit, is_numeral}

pub own : IsNumeralModel (λ ds. list_all is_digit ds ≡ true) (value_onto 0)
own = numerals_by_fold _ (search rules) value_onto (search rules)

-- ---- which words are the text of a number

no_zero_in_front : (a : Bool) (b : ℕ) → (not a || (b == 1)) ≡ true → a ≡ true → b ≡ 1
no_zero_in_front true b h e = eqb-true b 1 h
no_zero_in_front false b h e = cc e

pub numeral-decimal : (word : List ℕ) → is_numeral word ≡ true → value_onto 0 word < 2 ^ 64 → decimal (value_onto 0 word) ≡ word
unfolding is_numeral
numeral-decimal word h lt =
    let a = and_parts _ _ h in
    let b = and_parts _ _ a.0 in
    let some = eqb-false _ 0 (not-true _ b.1) in
    decimal-digits_value own word b.0 (omega arith) (λ e. no_zero_in_front _ _ a.1 (eq-eqb _ 48 e)) lt

not_zero : (a b : ℕ) → (a ≡ 48 → b ≡ 1) → (not (a == 48) || (b == 1)) ≡ true
not_zero a b h = grind (arith, nat_tests)

decimal-front : (n : ℕ) → n < 2 ^ 64 → get_or (decimal n) 0 0 ≡ 48 → length (decimal n) ≡ 1
decimal-front n lt e =
    elim (cases_eq n 0) [
      | inl z ↦ ap (λ k. length (decimal k)) z ∙ ap length (decimal_digit 0 (omega arith))
      | inr some ↦
          let first = first_decimal n (omega arith) lt in
          absurd (omega arith)
    ]

pub decimal-numeral : (n : ℕ) → n < 2 ^ 64 → is_numeral (decimal n) ≡ true
unfolding is_numeral
decimal-numeral n lt =
    let some = decimal_nonempty n lt in
    let none : (length (decimal n) == 0) ≡ false = ne_eqb _ 0 (λ e. omega arith) in
    and_from _ _ (and_from _ _ (digits_decimal own n lt) (ap not none)) (not_zero _ _ (decimal-front n lt))

-- ---- what a word spells

-- the digits behind a number only make it greater
pub value_onto-ge : (n : ℕ) (cs : List ℕ) → n ≤ value_onto n cs
value_onto-ge n [] = omega arith
value_onto-ge n (c ∷ cs) = let e = value_onto-ge (10 * n + (c - 48)) cs in omega arith

pub number_none_form : (greatest : ℕ) (word : List ℕ) → is_numeral word ≡ false → greatest < 2 ^ 60 → number_in greatest word ≡ None
unfolding number_in
number_none_form greatest word form fits =
    let n = value_onto 0 word in
    let no : (bytes_eq word (decimal n) && leb n greatest) ≡ false =
    false_from_ne_true _ (λ t.
    let parts = and_parts _ _ t in
    let low = leb-true n greatest parts.1 in
    both_ways _ form (ap is_numeral ((bytes_eq-Decides word (decimal n)).0 parts.0) ∙ decimal-numeral n (omega arith))) in
    rw no refl

pub number_none_greater : (greatest n : ℕ) (word rest : List ℕ) → value_onto n rest ≡ value_onto 0 word → greatest < n → number_in greatest word ≡ None
unfolding number_in
number_none_greater greatest n word rest e over =
    let more = value_onto-ge n rest in
    let above : greatest < value_onto 0 word = omega arith in
    let no : (bytes_eq word (decimal (value_onto 0 word)) && leb (value_onto 0 word) greatest) ≡ false = and_right _ _ (lt-leb _ _ above) in
    rw no refl

pub number_some : (greatest n : ℕ) (word : List ℕ) → is_numeral word ≡ true → value_onto 0 word ≡ n → n ≤ greatest → greatest < 2 ^ 60 → number_in greatest word ≡ Some n
unfolding number_in
number_some greatest n word form e within fits =
    let same = (bytes_eq-Decides word (decimal (value_onto 0 word))).1 (sym (numeral-decimal word form (omega arith))) in
    let low : value_onto 0 word ≤ greatest = omega arith in
    let yes : (bytes_eq word (decimal (value_onto 0 word)) && leb (value_onto 0 word) greatest) ≡ true = and_from _ _ same (le-leb _ _ low) in
    rw yes (ap Some e)

-- each octet of such a word is a digit
pub numeral_digit : (word : List ℕ) (i : ℕ) → is_numeral word ≡ true → i < length word → 48 ≤ get_or word i 0
unfolding is_numeral
numeral_digit word i h lt =
    let digits = (and_parts _ _ ((and_parts _ _ h).0)).0 in
    elim (cases_Bool (is_digit (get_or word i 0))) [
      | inl is ↦ leb-true 48 _ (and_parts _ _ is).0
      | inr other ↦ absurd (both_ways _ (list_all_at is_digit word i 0 lt other) digits)
    ]
