-- The schedule of a key, word by word.
use Rattle.std.proofs.Common.{◌≡◌, ℕ, zero, suc, ◌+◌, ◌-◌, ◌*◌, ◌/◌, ◌%◌, ◌<◌, ◌≤◌, ◌⊎◌, nat_lt, nat_eq, ◌&&◌, true, false, List, [], ◌∷◌, ◌++◌, length, take, get_or, slice_set, ⊎_elim, refl, sym, ◌∙◌, ap, arith, add-one, append_assoc}
use Rattle.std.proofs.lemmas.Bool.Decides.{nat_tests}
use Rattle.std.proofs.lemmas.List.{append-nil, get_or_append_left, get_or-append_right, get_or-take, length-append, length-take, take_all, take_more, take_more_set}
use Rattle.perc_aes.specs.Cipher.{IsKeyLength, add_words, key_words, next_word, rotate_word, round_constant, schedule, schedule_core, sub_word, word_at}
use Rattle.perc_aes.specs.Words.{octets_of_word, octets_of_words}
use Rattle.perc_aes.proofs.StateLaws.{same_four}

-- four octets more
take_word : (octets : List ℕ) (i : ℕ) → 4 * i + 4 ≤ length octets → take (4 * i) octets ++ word_at octets i ≡ take (4 * suc i) octets
take_word octets i fits =
    let e0 : 4 * i + 0 ≡ 4 * i = omega arith in
    let e1 : 4 * suc i ≡ 4 * i + 1 + 1 + 1 + 1 = omega arith in
    let e2 : 4 * i + 1 + 1 ≡ 4 * i + 2 = omega arith in
    let e3 : 4 * i + 2 + 1 ≡ 4 * i + 3 = omega arith in
    rw (e1, take_more octets (4 * i + 1 + 1 + 1) 0 (omega arith), take_more octets (4 * i + 1 + 1) 0 (omega arith), take_more octets (4 * i + 1) 0 (omega arith), take_more octets (4 * i) 0 (omega arith), e2, e3, e0)
    (simp append_assoc)

-- the schedule begins with the words of the key
schedule_first : (key : List ℕ) (n : ℕ) → n ≤ key_words key → schedule key n ≡ take (4 * n) key
unfolding schedule next_word
schedule_first key zero below = refl
schedule_first key (suc n) below =
    let in_key : nat_lt n (length key / 4) ≡ true = grind (arith, nat_tests) in
    rw (in_key, schedule_first key n (omega arith)) (take_word key n (omega arith))

-- a word from where the key ends on
next_word_after : (key words : List ℕ) (i : ℕ) → key_words key ≤ i → next_word key words i ≡ add_words (word_at words (i - key_words key)) (schedule_core (key_words key) i (word_at words (i - 1)))
unfolding next_word
next_word_after key words i after =
    let past_key : nat_lt i (length key / 4) ≡ false = grind (arith, nat_tests) in
    rw past_key refl

-- ---- lists of words

words-append : (xs ys : List ℕ) → octets_of_words (xs ++ ys) ≡ octets_of_words xs ++ octets_of_words ys
unfolding octets_of_words
words-append [] ys = refl
words-append (x ∷ xs) ys =
    ap (λ (octets : List ℕ). octets_of_word x ++ octets) (words-append xs ys) ∙ sym (append_assoc (octets_of_word x) (octets_of_words xs) (octets_of_words ys))

length-word : (n : ℕ) → length (octets_of_word n) ≡ 4
unfolding octets_of_word
length-word n = refl

pub length-words : (ws : List ℕ) → length (octets_of_words ws) ≡ 4 * length ws
unfolding octets_of_words
length-words [] = refl
length-words (w ∷ ws) =
    omega (arith, length-append (octets_of_word w) (octets_of_words ws), length-word w, length-words ws)

-- octet k of word j
pub words_at : (ws : List ℕ) (j k : ℕ) → j < length ws → k < 4 → get_or (octets_of_words ws) (4 * j + k) 0 ≡ get_or (octets_of_word (get_or ws j 0)) k 0
unfolding octets_of_words
words_at [] j k inside within = absurd (omega arith)
words_at (w ∷ ws) zero k inside within =
    let e : 4 * 0 + k ≡ k = omega arith in
    rw e (get_or_append_left (octets_of_word w) (octets_of_words ws) 0 k (omega (arith, length-word w)))
words_at (w ∷ ws) (suc j) k inside within =
    let e : 4 * suc j + k - 4 ≡ 4 * j + k = omega arith in
    get_or-append_right (octets_of_word w) (octets_of_words ws) 4 (4 * suc j + k) 0 (length-word w) (omega arith)
    ∙ ap (λ (i : ℕ). get_or (octets_of_words ws) i 0) e
    ∙ words_at ws j k (omega arith) within

-- a word by its place
word_at-words : (ws : List ℕ) (j : ℕ) → j < length ws → word_at (octets_of_words ws) j ≡ octets_of_word (get_or ws j 0)
unfolding octets_of_word
word_at-words ws j inside =
    same_four _ _ _ _ _ _ _ _ (words_at ws j 0 inside (omega arith)) (words_at ws j 1 inside (omega arith)) (words_at ws j 2 inside (omega arith)) (words_at ws j 3 inside (omega arith))

-- a word before word i, of the words so far
word_before : (key words : List ℕ) (i j : ℕ) → octets_of_words (take i words) ≡ schedule key i → i ≤ length words → j < i → octets_of_word (get_or words j 0) ≡ word_at (schedule key i) j
word_before key words i j so_far fits before =
    ap octets_of_word (sym (get_or-take i words j 0 before))
    ∙ sym (word_at-words (take i words) j (omega (arith, length-take i words)))
    ∙ ap (λ (octets : List ℕ). word_at octets j) so_far

-- one more word behind the words so far
schedule_more : (key words : List ℕ) (word i nk : ℕ) → nk ≡ key_words key → 0 < nk → nk ≤ i → i < length words
    → octets_of_words (take i words) ≡ schedule key i
    → octets_of_word word ≡ add_words (octets_of_word (get_or words (i - nk) 0)) (schedule_core nk i (octets_of_word (get_or words (i - 1) 0)))
    → octets_of_words (take (i + 1) (slice_set words i word)) ≡ schedule key (i + 1)
unfolding schedule octets_of_words
schedule_more key words word i nk nk_is some after fits so_far word_is =
    let back = word_before key words i (i - nk) so_far (omega arith) (omega arith) in
    let before = word_before key words i (i - 1) so_far (omega arith) (omega arith) in
    let made : octets_of_word word ≡ next_word key (schedule key i) i =
    word_is
    ∙ ap (λ (v : List ℕ). add_words v (schedule_core nk i (octets_of_word (get_or words (i - 1) 0)))) back
    ∙ ap (λ (v : List ℕ). add_words (word_at (schedule key i) (i - nk)) (schedule_core nk i v)) before
    ∙ ap (λ (n : ℕ). add_words (word_at (schedule key i) (i - n)) (schedule_core n i (word_at (schedule key i) (i - 1)))) nk_is
    ∙ sym (next_word_after key (schedule key i) i (omega arith)) in
    ap octets_of_words (take_more_set words i word fits)
    ∙ words-append (take i words) (word ∷ [])
    ∙ ap (λ (octets : List ℕ). octets ++ (octets_of_word word ++ [])) so_far
    ∙ ap (λ (octets : List ℕ). schedule key i ++ octets) (append-nil (octets_of_word word) ∙ made)
    ∙ rw add-one refl

-- the lengths of keys
pub record KeySize (n : ℕ) : Type 0 where
  pub whole : 4 * (n / 4) ≡ n
  pub least : 16 ≤ n
  pub most : n ≤ 32

pub key_size : (n : ℕ) → IsKeyLength n → KeySize n
key_size n is =
    ⊎_elim (λ (e : n ≡ 16). record { whole = omega arith; least = omega arith; most = omega arith })
    (λ (other : (n ≡ 24) ⊎ (n ≡ 32)).
    ⊎_elim (λ (e : n ≡ 24). record { whole = omega arith; least = omega arith; most = omega arith })
    (λ (e : n ≡ 32). record { whole = omega arith; least = omega arith; most = omega arith })
    other)
    is

-- ---- the words that are kept of a key

-- how many words a key has
pub key_of_words : (words : List ℕ) (nk : ℕ) → IsKeyLength (4 * nk) → length words ≡ 60 → key_words (octets_of_words (take nk words)) ≡ nk
key_of_words words nk is size =
    let facts = key_size (4 * nk) is in
    omega (arith, length-words (take nk words), length-take nk words)

-- the schedule begins as its key, which is what stands there
pub expand_init : (words : List ℕ) (nk : ℕ) → IsKeyLength (4 * nk) → length words ≡ 60 → octets_of_words (take nk words) ≡ schedule (octets_of_words (take nk words)) nk
expand_init words nk is size =
    let facts = key_size (4 * nk) is in
    let key_is = key_of_words words nk is size in
    let whole = length-words (take nk words) in
    sym (schedule_first (octets_of_words (take nk words)) nk (omega arith) ∙ take_all (4 * nk) (octets_of_words (take nk words)) (omega (arith, length-take nk words)))

-- and it goes on so
pub expand_more : (words first : List ℕ) (word nk i : ℕ) → IsKeyLength (4 * nk) → length first ≡ 60 → length words ≡ 60 → nk ≤ i
    → i < 4 * nk + 28 → octets_of_words (take i words) ≡ schedule (octets_of_words (take nk first)) i
    → octets_of_word word ≡ add_words (octets_of_word (get_or words (i - nk) 0)) (schedule_core nk i (octets_of_word (get_or words (i - 1) 0)))
    → octets_of_words (take (i + 1) (slice_set words i word)) ≡ schedule (octets_of_words (take nk first)) (i + 1)
expand_more words first word nk i is size_first size after before so_far word_is =
    let facts = key_size (4 * nk) is in
    schedule_more (octets_of_words (take nk first)) words word i nk (sym (key_of_words first nk is size_first)) (omega arith) after (omega arith) so_far word_is

-- the words of a key, one more
pub key_more : (words key : List ℕ) (word i : ℕ) → i < length words → 4 * i + 4 ≤ length key
    → octets_of_words (take i words) ≡ take (4 * i) key → octets_of_word word ≡ word_at key i
    → octets_of_words (take (i + 1) (slice_set words i word)) ≡ take (4 * (i + 1)) key
unfolding octets_of_words
key_more words key word i fits fits_key so_far word_is =
    ap octets_of_words (take_more_set words i word fits)
    ∙ words-append (take i words) (word ∷ [])
    ∙ ap (λ (octets : List ℕ). octets ++ (octets_of_word word ++ [])) so_far
    ∙ ap (λ (octets : List ℕ). take (4 * i) key ++ octets) (append-nil (octets_of_word word) ∙ word_is)
    ∙ take_word key i fits_key
    ∙ rw add-one refl

-- all of them
pub key_whole : (words key : List ℕ) (i : ℕ) → IsKeyLength (length key) → length key / 4 ≤ i → i ≤ length key / 4
    → octets_of_words (take i words) ≡ take (4 * i) key → octets_of_words (take (length key / 4) words) ≡ key
key_whole words key i is least most so_far =
    let facts = key_size (length key) is in
    let e : length key / 4 ≡ i = omega arith in
    rw e (so_far ∙ take_all (4 * i) key (omega arith))

-- ---- what is added to the word as many places back as the key has words

pub core_round : (nk i : ℕ) (w : List ℕ) → i % nk ≡ 0 → schedule_core nk i w ≡ add_words (sub_word (rotate_word w)) (round_constant (i / nk))
unfolding schedule_core
core_round nk i w is =
    let test : nat_eq (i % nk) 0 ≡ true = grind (arith, nat_tests) in
    rw test refl

pub core_middle : (nk i : ℕ) (w : List ℕ) → (i % nk ≡ 0 → ⊥) → nk ≡ 8 → i % 8 ≡ 4 → schedule_core nk i w ≡ sub_word w
unfolding schedule_core
core_middle nk i w other long is =
    let test : nat_eq (i % nk) 0 ≡ false = grind (arith, nat_tests) in
    let test_long : nat_eq nk 8 ≡ true = grind (arith, nat_tests) in
    let test_middle : nat_eq (i % 8) 4 ≡ true = grind (arith, nat_tests) in
    rw (test, test_long, test_middle) refl

pub core_same : (nk i : ℕ) (w : List ℕ) → (i % nk ≡ 0 → ⊥) → (nat_eq nk 8 && nat_eq (i % 8) 4) ≡ false → schedule_core nk i w ≡ w
unfolding schedule_core
core_same nk i w other is =
    let test : nat_eq (i % nk) 0 ≡ false = grind (arith, nat_tests) in
    rw (test, is) refl
