-- Lists in one word: what they say, and the one word that says it.
use Rattle.std.proofs.Common.{◌≡◌, ℕ, ◌+◌, ◌≤◌, suc, Bool, true, false, not, cond, List, [], ◌∷◌, ◌++◌, length, Option, Some, None, refl, sym, ap, ◌∙◌, arith}
use Rattle.std.specs.Prelude.{option_and_then, nat_le, is_some, ◌&&◌}
use Rattle.std.specs.Borrow.{Bor}
use Rattle.perc_word.specs.Left.{items_left}
use Rattle.std.proofs.lemmas.Bool.Decides.{nat_tests}
use Rattle.std.specs.List.{list_all, join_with_byte}
use Rattle.std.proofs.lemmas.Bool.{and_parts, and_from, le-leb, leb-true}
use Rattle.std.proofs.lemmas.List.Splits.{length-slice_split}
use Rattle.perc_word.specs.Word.{words_of, items_of, all_in, list_in, list_text, texts_of, Each, AreItems}
use Rattle.perc_word.proofs.Split.{is, is_free, parts-again, parts-joined}
use Rattle.perc_word.proofs.Spelling.{Spelling, bind_some}

same_cons : {A : Type 0} (x y : A) (xs ys : List A) → x ≡ y → xs ≡ ys → x ∷ xs ≡ y ∷ ys
same_cons x y xs ys e es = cc

some_same : {A : Type 0} (x y : A) → Some x ≡ Some y → x ≡ y
some_same x y h = cc h

record Back {A : Type 0} (text : A → List ℕ) (Fits : A → Type 0) (words : List (List ℕ)) (values : List A) : Type 0 where
  texts : words ≡ texts_of text values
  each : Each Fits values
  count : length words ≡ length values

back_cons : {A : Type 0} (text : A → List ℕ) (Fits : A → Type 0) (word : List ℕ) (words : List (List ℕ)) (value : A) (rest values : List A)
    → word ≡ text value → Fits value → Back text Fits words rest → value ∷ rest ≡ values → Back text Fits (word ∷ words) values
back_cons text Fits word words value rest [] e fits h is = cc is
back_cons text Fits word words value rest (v ∷ vs) e fits h is =
    rw (← is) (record { texts = same_cons word (text value) words (texts_of text rest) e h.texts; each = (fits, h.each); count = ap suc h.count })

all_in-back : {A : Type 0} (reads : List ℕ → Option A) (text : A → List ℕ) (Fits : A → Type 0) → Spelling reads text Fits
    → (words : List (List ℕ)) (values : List A) → all_in reads words ≡ Some values → Back text Fits words values
all_in-back reads text Fits kind [] [] h = record { texts = refl; each = tt; count = refl }
all_in-back reads text Fits kind [] (v ∷ vs) h = cc h
all_in-back reads text Fits kind (word ∷ words) values h =
    let a = bind_some (reads word) _ values h in
    let b = bind_some (all_in reads words) _ values a.2 in
    let one = kind.back word a.0 a.1 in
    back_cons text Fits word words a.0 b.0 values one.0 one.1 (all_in-back reads text Fits kind words b.0 b.1) (some_same _ _ b.2)

all_in-again : {A : Type 0} (reads : List ℕ → Option A) (text : A → List ℕ) (Fits : A → Type 0) → Spelling reads text Fits
    → (values : List A) → Each Fits values → all_in reads (texts_of text values) ≡ Some values
all_in-again reads text Fits kind [] h = refl
all_in-again reads text Fits kind (v ∷ vs) h = rw (kind.again v h.0, all_in-again reads text Fits kind vs h.1) refl

all_free : {A : Type 0} (c : ℕ) (text : A → List ℕ) (Fits : A → Type 0) → ((value : A) → Fits value → is_free c (text value) ≡ true)
    → (values : List A) → Each Fits values → list_all (is_free c) (texts_of text values) ≡ true
all_free c text Fits free [] h = refl
all_free c text Fits free (v ∷ vs) h = and_from _ _ (free v h.0) (all_free c text Fits free vs h.1)

length-texts : {A : Type 0} (text : A → List ℕ) (values : List A) → length (texts_of text values) ≡ length values
length-texts text [] = refl
length-texts text (v ∷ vs) = ap suc (length-texts text vs)

pub free-append : (c : ℕ) (xs ys : List ℕ) → is_free c xs ≡ true → is_free c ys ≡ true → is_free c (xs ++ ys) ≡ true
free-append c [] ys h g = g
free-append c (x ∷ xs) ys h g =
    let parts = and_parts (not (is c x)) (is_free c xs) h in
    and_from _ _ parts.0 (free-append c xs ys parts.1 g)

free-joined : (words : List (List ℕ)) → list_all (is_free 32) words ≡ true → is_free 32 (join_with_byte 44 words) ≡ true
free-joined [] h = refl
free-joined (word ∷ []) h = (and_parts (is_free 32 word) _ h).0
free-joined (word ∷ next ∷ words) h =
    let parts = and_parts (is_free 32 word) (list_all (is_free 32) (next ∷ words)) h in
    free-append 32 word (44 ∷ join_with_byte 44 (next ∷ words)) parts.0 (free-joined (next ∷ words) parts.1)

items-some : (word : List ℕ) → 1 ≤ length (items_of word)
items-some word = let e = length-slice_split (is 44) word in omega arith

pub words-some : (line : List ℕ) → 1 ≤ length (words_of line)
words-some line = let e = length-slice_split (is 32) line in omega arith

items-again : {A : Type 0} (text : A → List ℕ) (values : List A) → 1 ≤ length values → list_all (is_free 44) (texts_of text values) ≡ true → items_of (list_text text values) ≡ texts_of text values
items-again text [] some h = absurd (omega arith)
items-again text (v ∷ vs) some h = parts-again 44 (text v) (texts_of text vs) h

list-back : {A : Type 0} (reads : List ℕ → Option A) (text : A → List ℕ) (Fits : A → Type 0) → Spelling reads text Fits → (most : ℕ)
    → (word : List ℕ) (values : List A) → list_in reads most word ≡ Some values → (word ≡ list_text text values) × AreItems most Fits values
list-back reads text Fits kind most word values h =
    let parts = cond_bind _ _ _ h in
    let back = all_in-back reads text Fits kind (items_of word) values parts.1 in
    let some = items-some word in
    let few : length (items_of word) ≤ most = leb-true _ _ parts.0 in
    let same = back.count in
    let low : 1 ≤ length values = omega arith in
    let high : length values ≤ most = omega arith in
    (parts-joined 44 word (texts_of text values) back.texts, record { count = and_from _ _ (le-leb _ _ low) (le-leb _ _ high); each = back.each })
  where
    cond_bind : {A : Type 0} (b : Bool) (o : Option A) (y : A) → cond b o None ≡ Some y → (b ≡ true) × (o ≡ Some y)
    cond_bind true o y h = (refl, h)
    cond_bind false o y h = cc h

list-again : {A : Type 0} (reads : List ℕ → Option A) (text : A → List ℕ) (Fits : A → Type 0) → Spelling reads text Fits
    → ((value : A) → Fits value → is_free 44 (text value) ≡ true) → (most : ℕ) (values : List A) → AreItems most Fits values → list_in reads most (list_text text values) ≡ Some values
list-again reads text Fits kind no_comma most values h =
    let parts = and_parts _ _ h.count in
    let items = items-again text values (leb-true _ _ parts.0) (all_free 44 text Fits no_comma values h.each) in
    rw (items, length-texts text values, parts.1) (all_in-again reads text Fits kind values h.each)

pub list_spelling : {A : Type 0} (reads : List ℕ → Option A) (text : A → List ℕ) (Fits : A → Type 0) → Spelling reads text Fits
    → ((value : A) → Fits value → is_free 44 (text value) ≡ true) → (most : ℕ) → Spelling (list_in reads most) (list_text text) (AreItems most Fits)
list_spelling reads text Fits kind no_comma most = record {
  back = list-back reads text Fits kind most;
  again = list-again reads text Fits kind no_comma most;
  free = λ values h. free-joined (texts_of text values) (all_free 32 text Fits kind.free values h.each);
}

-- ---- a list, item after item

-- at most so many words, each of which says something
abbrev pub is_read : {A : Type 0} → (List ℕ → Option A) → ℕ → List (List ℕ) → Bool
is_read reads most words = nat_le (length words) most && is_some (all_in reads words)

read_first : {A : Type 0} (o : Option A) (rest : Option (List A)) → is_some (option_and_then (λ v. option_and_then (λ vs. Some (v ∷ vs)) rest) o) ≡ (is_some o && is_some rest)
read_first None rest = refl
read_first (Some v) None = refl
read_first (Some v) (Some vs) = refl

le_suc : (a b n : ℕ) → n ≡ b + 1 → nat_le (suc a) n ≡ nat_le a b
le_suc a b n e = grind (arith, nat_tests)

and_turned : (a b c : Bool) → (a && (b && c)) ≡ (b && (a && c))
and_turned true b c = refl
and_turned false true c = refl
and_turned false false c = refl

-- one item more
pub read_more : {A : Type 0} (reads : List ℕ → Option A) (n m : ℕ) (word : List ℕ) (words : List (List ℕ)) → n ≡ m + 1
    → is_read reads n (word ∷ words) ≡ (is_some (reads word) && is_read reads m words)
read_more reads n m word words e =
    ap (λ b. b && is_some (all_in reads (word ∷ words))) (le_suc (length words) m n e)
    ∙ ap (λ b. nat_le (length words) m && b) (read_first (reads word) (all_in reads words))
    ∙ and_turned (nat_le (length words) m) (is_some (reads word)) (is_some (all_in reads words))

-- no room for an item
pub read_none : {A : Type 0} (reads : List ℕ → Option A) (n : ℕ) (word : List ℕ) (words : List (List ℕ)) → n ≡ 0 → is_read reads n (word ∷ words) ≡ false
read_none reads n word words e = grind (arith, nat_tests)

pub list_read : {A : Type 0} (reads : List ℕ → Option A) (most : ℕ) (word : List ℕ) → is_some (list_in reads most word) ≡ is_read reads most (items_of word)
list_read reads most word = chosen_some (nat_le (length (items_of word)) most) (all_in reads (items_of word))
  where
    chosen_some : {A : Type 0} (b : Bool) (o : Option A) → is_some (cond b o None) ≡ (b && is_some o)
    chosen_some true o = refl
    chosen_some false o = refl

no_room : (a n : ℕ) → 1 ≤ a → n ≡ 0 → nat_le a n ≡ false
no_room a n h e = grind (arith, nat_tests)

turned : (b c : Bool) → not b ≡ c → b ≡ not c
turned true c h = rw (← h) refl
turned false c h = rw (← h) refl

-- where no room is left, there are values exactly where no item is left
pub left_none : {A : Type 0} (reads : List ℕ → Option A) (left : Option (Bor (List ℕ))) (n : ℕ) (b : Bool) → not b ≡ is_some left → n ≡ 0 → b ≡ is_read reads n (items_left left)
left_none reads None n b h e = turned b false h ∙ ap (λ k. nat_le 0 k && true) (sym e)
left_none reads (Some text) n b h e =
    turned b true h ∙ sym (ap (λ b. b && is_some (all_in reads (items_of text.now))) (no_room (length (items_of text.now)) n (items-some text.now) e))
