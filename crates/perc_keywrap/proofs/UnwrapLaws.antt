-- What octets are unwrapped to is the plain text that is wrapped to them, where there is one.
use Rattle.std.proofs.Common.{◌≡◌, ℕ, zero, suc, ◌+◌, ◌*◌, ◌/◌, ◌%◌, ◌^◌, ◌<◌, ◌≤◌, ◌↔◌, ◌≢◌, Bool, true, false, cond, ◌⊎◌, inl, inr, List, [], ◌∷◌, ◌++◌, length, map, get_or, Option, Some, None, refl, sym, ◌∙◌, ap, subst, arith}
use Rattle.std.specs.List.{AllByRecursion as Each, find, range_with_len}
use Rattle.std.specs.Str.{bytes_eq}
use Rattle.std.proofs.Math.Nat.{pow-suc}
use Rattle.std.proofs.lemmas.Bool.{cases_eq}
use Rattle.std.proofs.lemmas.Slice.Eq.{bytes_eq-Decides}
use Rattle.perc_aes.specs.Cipher.{IsKey}
use Rattle.perc_keywrap.specs.Unwrap.{octets_of, texts, texts_up_to, unwrapped}
use Rattle.perc_keywrap.specs.Wrap.{IsWrapped, wrapped}
use Rattle.perc_octets.specs.Octets.{AreOctets}
use Rattle.perc_keywrap.proofs.WrapLaws.{length-wrapped-ge, length-wrapped-le, length-wrapped-whole, one_plain_text}

-- ---- the octets of a number

pub length-octets_of : (n number : ℕ) → length (octets_of n number) ≡ n
unfolding octets_of
length-octets_of zero number = refl
length-octets_of (suc n) number = ap suc (length-octets_of n (number / 256))

octets_of_at : (n number k : ℕ) → get_or (octets_of n number) k 0 < 256
unfolding octets_of
octets_of_at zero number k = omega arith
octets_of_at (suc n) number zero = omega arith
octets_of_at (suc n) number (suc k) = octets_of_at n (number / 256) k

-- the number of octets
number_of : List ℕ → ℕ
number_of [] = 0
number_of (octet ∷ octets) = octet + 256 * number_of octets

number_small : (octets : List ℕ) → AreOctets octets → number_of octets < 256 ^ length octets
unfolding number_of
number_small [] are = omega arith
number_small (octet ∷ octets) are =
    let rest : AreOctets octets = λ k. are (suc k) in
    let next : 256 ^ length (octet ∷ octets) ≡ 256 ^ length octets * 256 = pow-suc 256 (length octets) in
    omega (arith, are 0, number_small octets rest, next)

octets_of_number : (octets : List ℕ) → AreOctets octets → octets_of (length octets) (number_of octets) ≡ octets
unfolding number_of octets_of
octets_of_number [] are = refl
octets_of_number (octet ∷ octets) are =
    let rest : AreOctets octets = λ k. are (suc k) in
    let number = number_of octets in
    let low : (octet + 256 * number) % 256 ≡ octet = omega (arith, are 0) in
    let high : (octet + 256 * number) / 256 ≡ number = omega (arith, are 0) in
    ap (λ (x : ℕ). x ∷ octets_of (length octets) ((octet + 256 * number) / 256)) low
    ∙ ap (λ (x : ℕ). octet ∷ octets_of (length octets) x) high
    ∙ ap (λ (x : List ℕ). octet ∷ x) (octets_of_number octets rest)

-- ---- every text is among those that are tried, and no other list

-- 1 to n octets
record IsText (n : ℕ) (text : List ℕ) : Type 0 where
  pub some : 1 ≤ length text
  pub few : length text ≤ n
  pub octets : AreOctets text

each_from : (P : List ℕ → Type 0) (f : ℕ → List ℕ) (a n : ℕ) → ((k : ℕ) → P (f k)) → Each P (map f (range_with_len a n))
each_from P f a zero holds = tt
each_from P f a (suc n) holds = (holds a, each_from P f (a + 1) n holds)

each_at : (P : List ℕ → Type 0) (f : ℕ → List ℕ) (a n k : ℕ) → Each P (map f (range_with_len a n)) → a ≤ k → k < a + n → P (f k)
each_at P f a zero k each from below = absurd (omega arith)
each_at P f a (suc n) k each from below =
    elim (cases_eq a k) [
      | inl is ↦ subst (λ (m : ℕ). P (f m)) is each.0
      | inr other ↦ each_at P f (a + 1) n k each.1 (omega arith) (omega arith)
    ]

each_both : (P : List ℕ → Type 0) (xs ys : List (List ℕ)) → Each P xs → Each P ys → Each P (xs ++ ys)
each_both P [] ys first second = second
each_both P (x ∷ xs) ys first second = (first.0, each_both P xs ys first.1 second)

each_first : (P : List ℕ → Type 0) (xs ys : List (List ℕ)) → Each P (xs ++ ys) → Each P xs
each_first P [] ys each = tt
each_first P (x ∷ xs) ys each = (each.0, each_first P xs ys each.1)

each_second : (P : List ℕ → Type 0) (xs ys : List (List ℕ)) → Each P (xs ++ ys) → Each P ys
each_second P [] ys each = each
each_second P (x ∷ xs) ys each = each_second P xs ys each.1

each_weaker : (P Q : List ℕ → Type 0) (xs : List (List ℕ)) → ((x : List ℕ) → P x → Q x) → Each P xs → Each Q xs
each_weaker P Q [] weaker each = tt
each_weaker P Q (x ∷ xs) weaker each = (weaker x each.0, each_weaker P Q xs weaker each.1)

are_texts : (n : ℕ) → Each (IsText n) (texts_up_to n)
unfolding texts_up_to texts
are_texts zero = tt
are_texts (suc n) =
    each_both (IsText (suc n)) (texts_up_to n) (map (octets_of (suc n)) (range_with_len 0 (256 ^ suc n)))
    (each_weaker (IsText n) (IsText (suc n)) (texts_up_to n) (λ x is. record { some = is.some; few = omega (arith, is.few); octets = is.octets }) (are_texts n))
    (each_from (IsText (suc n)) (octets_of (suc n)) 0 (256 ^ suc n)
    (λ k. record {
      some = omega (arith, length-octets_of (suc n) k);
      few = omega (arith, length-octets_of (suc n) k);
      octets = octets_of_at (suc n) k;
    }))

text_tried : (P : List ℕ → Type 0) (n : ℕ) (text : List ℕ) → IsText n text → Each P (texts_up_to n) → P text
unfolding texts_up_to texts
text_tried P zero text is each = absurd (omega (arith, is.some, is.few))
text_tried P (suc n) text is each =
    elim (cases_eq (length text) (suc n)) [
      | inl size ↦
          let number : number_of text < 0 + 256 ^ suc n = rw (← size) (omega (arith, number_small text is.octets)) in
          subst P (ap (λ (m : ℕ). octets_of m (number_of text)) (sym size) ∙ octets_of_number text is.octets)
          (each_at P (octets_of (suc n)) 0 (256 ^ suc n) (number_of text)
          (each_second P (texts_up_to n) (map (octets_of (suc n)) (range_with_len 0 (256 ^ suc n))) each) (omega arith) number)
      | inr other ↦
          text_tried P n text (record { some = is.some; few = omega (arith, is.few); octets = is.octets })
          (each_first P (texts_up_to n) (map (octets_of (suc n)) (range_with_len 0 (256 ^ suc n))) each)
    ]

-- ---- a search

found_cases : (b : Bool) (x y : List ℕ) (rest : Option (List ℕ)) → cond b (Some x) rest ≡ Some y → ((b ≡ true) × (x ≡ y)) ⊎ (rest ≡ Some y)
found_cases true x y rest e = inl (refl, cc)
found_cases false x y rest e = inr e

none_cases : (b : Bool) (x : List ℕ) (rest : Option (List ℕ)) → cond b (Some x) rest ≡ None → (b ≡ false) × (rest ≡ None)
none_cases true x rest e = absurd (some_none e) where
  some_none : ◌≡◌ {A = Option (List ℕ)} (Some x) None → ⊥
  some_none f = cc
none_cases false x rest e = (refl, e)

found_passes : (P : List ℕ → Type 0) (test : List ℕ → Bool) (xs : List (List ℕ)) (y : List ℕ) → find test xs ≡ Some y → Each P xs → P y × (test y ≡ true)
found_passes P test [] y e each = absurd (none_some e) where
  none_some : ◌≡◌ {A = Option (List ℕ)} None (Some y) → ⊥
  none_some f = cc
found_passes P test (x ∷ xs) y e each =
    elim (found_cases (test x) x y (find test xs) e) [
      | inl here ↦ (subst P here.1 each.0, ap test (sym here.1) ∙ here.0)
      | inr later ↦ found_passes P test xs y later each.1
    ]

none_passes : (test : List ℕ → Bool) (xs : List (List ℕ)) → find test xs ≡ None → Each (λ x. test x ≡ false) xs
none_passes test [] e = tt
none_passes test (x ∷ xs) e =
    let cases = none_cases (test x) x (find test xs) e in
    (cases.0, none_passes test xs cases.1)

option_cases : (o : Option (List ℕ)) → (o ≡ None) ⊎ ((x : List ℕ) × (o ≡ Some x))
option_cases None = inl refl
option_cases (Some x) = inr (x, refl)

-- ---- unwrapping

-- what is found is wrapped to the octets, whatever the key
pub unwrapped_is : (key octets plain : List ℕ) → unwrapped key octets ≡ Some plain → IsWrapped key plain octets
unfolding unwrapped
unwrapped_is key octets plain found =
    let passes = found_passes (IsText 4096) (λ x. bytes_eq (wrapped key x) octets) (texts_up_to 4096) plain found (are_texts 4096) in
    record {
      some = passes.0.some;
      few = passes.0.few;
      in_range = passes.0.octets;
      value = (bytes_eq-Decides (wrapped key plain) octets).0 passes.1;
    }

-- where nothing is found, nothing is wrapped to the octets
pub none_wrapped : (key octets plain : List ℕ) → unwrapped key octets ≡ None → IsWrapped key plain octets → ⊥
unfolding unwrapped
none_wrapped key octets plain none is =
    let fails : bytes_eq (wrapped key plain) octets ≡ false =
    text_tried (λ x. bytes_eq (wrapped key x) octets ≡ false) 4096 plain (record { some = is.some; few = is.few; octets = is.in_range })
    (none_passes (λ x. bytes_eq (wrapped key x) octets) (texts_up_to 4096) none) in
    let passes = (bytes_eq-Decides (wrapped key plain) octets).1 is.value in
    true_false (sym passes ∙ fails) where
      true_false : true ≡ false → ⊥
      true_false e = cc

-- the octets are unwrapped to the one plain text that is wrapped to them
pub unwrapped_law : (key octets plain : List ℕ) → IsKey key → (unwrapped key octets ≡ Some plain) ↔ IsWrapped key plain octets
unwrapped_law key octets plain is = (
  unwrapped_is key octets plain,
  λ of_plain.
      elim (option_cases (unwrapped key octets)) [
        | inl none ↦ absurd (none_wrapped key octets plain none of_plain)
        | inr found ↦
            found.1 ∙ ap (λ (x : List ℕ). Some x) (one_plain_text key found.0 plain octets is (unwrapped_is key octets found.0 found.1) of_plain)
      ],
)

-- and to none exactly where there is none
pub unwrapped_none : (key octets : List ℕ) → (unwrapped key octets ≡ None) ↔ ((plain : List ℕ) → IsWrapped key plain octets → ⊥)
unwrapped_none key octets = (
  λ none plain of_plain. none_wrapped key octets plain none of_plain,
  λ nothing.
      elim (option_cases (unwrapped key octets)) [
        | inl none ↦ none
        | inr found ↦ absurd (nothing found.0 (unwrapped_is key octets found.0 found.1))
      ],
)

-- octets of a wrong length are unwrapped to none
pub unwrapped_wrong : (key octets : List ℕ) → (length octets < 16) ⊎ ((4104 < length octets) ⊎ (length octets % 8 ≢ 0)) → unwrapped key octets ≡ None
unwrapped_wrong key octets wrong =
    (unwrapped_none key octets).1 (λ plain is.
    let least = length-wrapped-ge key plain octets is in
    let most = length-wrapped-le key plain octets is in
    let whole = length-wrapped-whole key plain octets is in
    elim wrong [
      | inl short ↦ omega (arith, short, least)
      | inr (inl long) ↦ omega (arith, long, most)
      | inr (inr part) ↦ part whole
    ])
