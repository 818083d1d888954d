-- The words of a line, one after another: from what is read to its words, and back.
use Rattle.std.proofs.Common.{◌≡◌, ℕ, Bool, true, false, not, inl, inr, List, [], ◌∷◌, ◌++◌, length, take, drop, Option, Some, None, IfSome, refl, sym, ap, ◌∙◌, subst, take-append-drop, arith}
use Rattle.std.specs.Prelude.{option_and_then, is_some, ◌≤◌}
use Rattle.std.specs.Option.{option_map}
use Rattle.std.specs.List.{list_all, join_with_byte}
use Rattle.std.specs.Str.{bytes_eq}
use Rattle.std.specs.Borrow.{Bor}
use Rattle.std.proofs.lemmas.Bool.{and_from, both_ways, cases_Bool, not-true}
use Rattle.std.proofs.lemmas.List.{append_assoc, take_at, drop_at}
use Rattle.perc_word.specs.Word.{words_of, next_in, end_of, ends, option_in, option_split, option_words}
use Rattle.perc_word.specs.Left.{words_left}
use Rattle.perc_word.proofs.Split.{is_free, parts-joined}
use Rattle.perc_word.proofs.Items.{free-append, words-some}
use Rattle.perc_word.proofs.Spelling.{Spelling, same, itself}

-- what holds of a word's text and all words behind it holds of the words that were read
pub taken : {A B : Type 0} (reads : List ℕ → Option A) (text : A → List ℕ) (Fits : A → Type 0) → Spelling reads text Fits
    → (more : A × List (List ℕ) → Option B) (y : B) (Goal : List (List ℕ) → Type 0) (words : List (List ℕ)) → option_and_then more (next_in reads words) ≡ Some y
    → ((value : A) (rest : List (List ℕ)) → Fits value → more (value, rest) ≡ Some y → Goal (text value ∷ rest)) → Goal words
taken reads text Fits kind more y Goal [] h behind = cc h
taken reads text Fits kind more y Goal (word ∷ rest) h behind =
    let value = stepped (reads word) rest more y h in
    let back = kind.back word value.0 value.1 in
    subst (λ w. Goal (w ∷ rest)) (sym back.0) (behind value.0 rest back.1 value.2)
  where
    stepped : {A B : Type 0} (o : Option A) (rest : List (List ℕ)) (more : A × List (List ℕ) → Option B) (y : B) → option_and_then more (option_and_then (λ v. Some (v, rest)) o) ≡ Some y
        → (x : A) × (o ≡ Some x) × (more (x, rest) ≡ Some y)
    stepped (Some x) rest more y h = (x, refl, h)
    stepped None rest more y h = cc h

-- a word's text is read as the word
pub again_taken : {A B : Type 0} (reads : List ℕ → Option A) (text : A → List ℕ) (Fits : A → Type 0) → Spelling reads text Fits
    → (more : A × List (List ℕ) → Option B) (value : A) (rest : List (List ℕ)) → Fits value → option_and_then more (next_in reads (text value ∷ rest)) ≡ more (value, rest)
again_taken reads text Fits kind more value rest fits = rw (kind.again value fits) refl

-- where no word is left, what is read is this
pub ended : {B : Type 0} (x y : B) (Goal : List (List ℕ) → B → Type 0) (words : List (List ℕ)) → ends x words ≡ Some y → Goal [] x → Goal words y
ended x y Goal [] h goal = subst (Goal []) (some_same x y h) goal
  where
    some_same : {A : Type 0} (x y : A) → Some x ≡ Some y → x ≡ y
    some_same x y h = cc h
ended x y Goal (word ∷ rest) h goal = cc h

-- ---- options

mapped : {A B : Type 0} (o : Option A) (rest : List (List ℕ)) (more : Option A × List (List ℕ) → Option B) (y : B)
    → option_and_then more (option_and_then (λ v. Some (v, rest)) (option_map Some o)) ≡ Some y → (x : A) × (o ≡ Some x) × (more (Some x, rest) ≡ Some y)
mapped (Some x) rest more y h = (x, refl, h)
mapped None rest more y h = cc h

-- a word with this prefix
with_prefix : (prefix word text : List ℕ) → bytes_eq (take (length prefix) word) prefix ≡ true → drop (length prefix) word ≡ text → word ≡ prefix ++ text
with_prefix prefix word text test e =
    sym (take-append-drop (length prefix) word) ∙ ap (λ front. front ++ drop (length prefix) word) (same _ prefix test) ∙ ap (λ back. prefix ++ back) e

-- a word with this prefix makes the line begin with it
begins : (prefix word : List ℕ) (words : List (List ℕ)) → bytes_eq (take (length prefix) word) prefix ≡ true
    → (rest : List ℕ) × (join_with_byte 32 (word ∷ words) ≡ prefix ++ rest)
begins prefix word [] test = (drop (length prefix) word, with_prefix prefix word (drop (length prefix) word) test refl)
begins prefix word (next ∷ words) test =
    let behind = 32 ∷ join_with_byte 32 (next ∷ words) in
    (drop (length prefix) word ++ behind, ap (λ w. w ++ behind) (with_prefix prefix word (drop (length prefix) word) test refl) ∙ append_assoc prefix (drop (length prefix) word) behind)

begun : (prefix rest text : List ℕ) → text ≡ prefix ++ rest → bytes_eq (take (length prefix) text) prefix ≡ true
begun prefix rest text e =
    ap (λ xs. bytes_eq (take (length prefix) xs) prefix) e ∙ ap (λ xs. bytes_eq xs prefix) (take_at prefix rest (length prefix) refl) ∙ itself prefix

other_words : (prefix text : List ℕ) (words : List (List ℕ)) → text ≡ join_with_byte 32 words → bytes_eq (take (length prefix) text) prefix ≡ false → option_split prefix words ≡ (None, words)
other_words prefix text [] e other = refl
other_words prefix text (word ∷ words) e other =
    elim (cases_Bool (bytes_eq (take (length prefix) word) prefix)) [
      | inl test ↦
          let front = begins prefix word words test in
          absurd (both_ways _ other (begun prefix front.0 text (e ∙ front.1)))
      | inr differs ↦ rw differs refl
    ]

-- a line that doesn't begin with the prefix has no option of that prefix in front
pub other_prefix : (prefix text : List ℕ) → bytes_eq (take (length prefix) text) prefix ≡ false → option_split prefix (words_of text) ≡ (None, words_of text)
other_prefix prefix text other = other_words prefix text (words_of text) (parts-joined 32 text (words_of text) refl) other

-- what holds of an option's words and all words behind them holds of the words that were read
pub option_taken : {A B : Type 0} (prefix : List ℕ) (reads : List ℕ → Option A) (text : A → List ℕ) (Fits : A → Type 0) → Spelling reads text Fits
    → (more : Option A × List (List ℕ) → Option B) (y : B) (Goal : List (List ℕ) → Type 0) (words : List (List ℕ)) → option_and_then more (option_in prefix reads words) ≡ Some y
    → ((value : Option A) (rest : List (List ℕ)) → IfSome value Fits → more (value, rest) ≡ Some y → Goal (option_words prefix text value rest)) → Goal words
option_taken prefix reads text Fits kind more y Goal [] h behind = behind None [] tt h
option_taken prefix reads text Fits kind more y Goal (word ∷ rest) h behind =
    elim (cases_Bool (bytes_eq (take (length prefix) word) prefix)) [
      | inl test ↦
          let h2 = rw test at h in
          let value = mapped (reads (drop (length prefix) word)) rest more y h2 in
          let back = kind.back (drop (length prefix) word) value.0 value.1 in
          subst (λ w. Goal (w ∷ rest)) (sym (with_prefix prefix word (text value.0) test back.0)) (behind (Some value.0) rest back.1 value.2)
      | inr other ↦ let h2 = rw other at h in behind None (word ∷ rest) tt h2
    ]

-- whether the first word has another prefix
abbrev pub lacks : List ℕ → List (List ℕ) → Bool
lacks prefix [] = true
lacks prefix (word ∷ words) = not (bytes_eq (take (length prefix) word) prefix)

-- an option's words are read as the option
pub option_again : {A : Type 0} (prefix : List ℕ) (reads : List ℕ → Option A) (text : A → List ℕ) (Fits : A → Type 0) → Spelling reads text Fits
    → (value : Option A) (rest : List (List ℕ)) → IfSome value Fits → lacks prefix rest ≡ true → option_in prefix reads (option_words prefix text value rest) ≡ Some (value, rest)
option_again prefix reads text Fits kind None [] fits h = refl
option_again prefix reads text Fits kind None (word ∷ rest) fits h = rw (not-true _ h) refl
option_again prefix reads text Fits kind (Some value) rest fits h =
    let front : take (length prefix) (prefix ++ text value) ≡ prefix = take_at prefix (text value) (length prefix) refl in
    let back : drop (length prefix) (prefix ++ text value) ≡ text value = drop_at prefix (text value) (length prefix) refl in
    let test : bytes_eq (take (length prefix) (prefix ++ text value)) prefix ≡ true = ap (λ xs. bytes_eq xs prefix) front ∙ itself prefix in
    rw (test, back, kind.again value fits) refl

-- an option of another prefix in front
pub lacks_option : {A : Type 0} (prefix other : List ℕ) (text : A → List ℕ) (value : Option A) (rest : List (List ℕ))
    → ((xs : List ℕ) → not (bytes_eq (take (length prefix) (other ++ xs)) prefix) ≡ true) → lacks prefix rest ≡ true → lacks prefix (option_words other text value rest) ≡ true
lacks_option prefix other text None rest differs h = h
lacks_option prefix other text (Some value) rest differs h = differs (text value)

-- no space stands in an option's words
pub option_free : {A : Type 0} (prefix : List ℕ) (reads : List ℕ → Option A) (text : A → List ℕ) (Fits : A → Type 0) → Spelling reads text Fits
    → (value : Option A) (rest : List (List ℕ)) → is_free 32 prefix ≡ true → IfSome value Fits → list_all (is_free 32) rest ≡ true → list_all (is_free 32) (option_words prefix text value rest) ≡ true
option_free prefix reads text Fits kind None rest free fits h = h
option_free prefix reads text Fits kind (Some value) rest free fits h = and_from _ _ (free-append 32 prefix (text value) free (kind.free value fits)) h

-- ---- the end

-- a text has a word
pub end_left : (words : Option (Bor (List ℕ))) → is_some words ≡ true → end_of (words_left words) ≡ None
end_left None h = cc h
end_left (Some text) h = nonempty (words_of text.now) (words-some text.now)
  where
    nonempty : (words : List (List ℕ)) → 1 ≤ length words → end_of words ≡ None
    nonempty [] h = absurd (omega arith)
    nonempty (word ∷ words) h = refl
