-- The words of a line, and the items of a list: the parts between octets of one kind.
use Rattle.std.proofs.Common.{◌≡◌, ℕ, ◌+◌, ◌-◌, ◌≤◌, suc, ◌==◌, Bool, true, false, not, cond, inl, inr, Some, None, List, [], ◌∷◌, length, take, drop, refl, sym, ap, ◌∙◌, arith}
use Rattle.std.specs.List.{slice_split, join_with_byte, position, position_or_len, list_all, All}
use Rattle.std.proofs.lemmas.List.Splits.{slice_split_first, slice_split_none, slice_split_at, join_with_byte-slice_split}
use Rattle.std.proofs.lemmas.List.Elements.{All-cons, All-nil}
use Rattle.std.proofs.lemmas.Bool.{ltb-true, ltb-false, cases_Bool, and_parts, not-true}
use Rattle.std.proofs.lemmas.Option.{cond_some}
use Rattle.std.proofs.lemmas.List.{take_rest}

-- whether an octet is this one
abbrev pub is : ℕ → ℕ → Bool
is c x = x == c

no_parts : (c : ℕ) (text : List ℕ) → length text ≤ position_or_len (is c) text → slice_split (is c) text ≡ text ∷ []
no_parts c [] h = refl
no_parts c (x ∷ xs) h =
    elim (cases_Bool (x == c)) [
      | inl at ↦ let h2 : suc (length xs) ≤ 0 = rw at at h in absurd (omega arith)
      | inr other ↦
          let h2 : suc (length xs) ≤ 1 + position_or_len (is c) xs = rw other at h in
          rw (other, no_parts c xs (omega arith)) refl
    ]

cond_none : {A : Type 0} (b : Bool) (x : A) → cond b (Some x) None ≡ None → b ≡ false
cond_none true x h = cc h
cond_none false x h = refl

-- a text without that octet is one part
pub part-alone : (c : ℕ) (text : List ℕ) → position (is c) text ≡ None → slice_split (is c) text ≡ text ∷ []
part-alone c text h = no_parts c text (ltb-false _ _ (cond_none _ _ h))

-- the first part ends at the first such octet
pub part-first : (c : ℕ) (text : List ℕ) (k : ℕ) → position (is c) text ≡ Some k
    → slice_split (is c) text ≡ take k text ∷ slice_split (is c) (take (length text - (k + 1)) (drop (k + 1) text))
part-first c text k h =
    let at = cond_some _ _ _ h in
    let lt = ltb-true _ _ at.0 in
    let first = slice_split_first (is c) text 0 lt in
    first
    ∙ ap (λ j. take j text ∷ slice_split (is c) (drop (j + 1) text)) at.1
    ∙ ap (λ ws. take k text ∷ slice_split (is c) ws) (sym (take_rest text (k + 1)))

-- ---- parts that are joined, apart again

-- whether a word has no such octet
abbrev pub is_free : ℕ → List ℕ → Bool
is_free c word = list_all (λ x. not (is c x)) word

abbrev Without : ℕ → ℕ → Type 0
Without c x = is c x ≡ false

without : (c : ℕ) (word : List ℕ) → is_free c word ≡ true → All (Without c) word
without c [] h = All-nil (Without c)
without c (x ∷ xs) h =
    let parts = and_parts (not (is c x)) (is_free c xs) h in
    All-cons (Without c) x xs (not-true _ parts.0) (without c xs parts.1)

pub parts-again : (c : ℕ) (word : List ℕ) (words : List (List ℕ)) → list_all (is_free c) (word ∷ words) ≡ true → slice_split (is c) (join_with_byte c (word ∷ words)) ≡ word ∷ words
parts-again c word [] h = slice_split_none (is c) word (without c word (and_parts (is_free c word) _ h).0)
parts-again c word (next ∷ words) h =
    let parts = and_parts (is_free c word) (list_all (is_free c) (next ∷ words)) h in
    slice_split_at (is c) word c (join_with_byte c (next ∷ words)) (without c word parts.0) (itself c) ∙ ap (λ ws. word ∷ ws) (parts-again c next words parts.1)
  where
    itself : (c : ℕ) → (c == c) ≡ true
    itself c = grind arith

-- a text is its parts, joined
pub parts-joined : (c : ℕ) (text : List ℕ) (words : List (List ℕ)) → slice_split (is c) text ≡ words → text ≡ join_with_byte c words
parts-joined c text words e = sym (join_with_byte-slice_split c text) ∙ ap (join_with_byte c) e
