-- Key sets in words, and back.
use Rattle.std.proofs.Common.{◌≡◌, ◌≢◌, ℕ, zero, suc, ◌+◌, ◌*◌, ◌<◌, ◌≤◌, ◌^◌, ◌%◌, min, Bool, true, false, ◌||◌, List, [], ◌∷◌, ◌++◌, length, take, drop}
use Rattle.std.proofs.Common.{replicate, get_or, slice_index, refl, sym, ap, ap₂, ◌∙◌, subst, arith, ⊎_elim, mod-eq_of_lt, suc-add, SomeIff, Option, Some, None}
use Rattle.std.specs.List.{AllPairs}
use Rattle.std.proofs.Math.Seq.{take-add}
use Rattle.std.proofs.lemmas.List.{drop-append-le, drop-drop, drop-take, drop_at, get_or-take, get_or_append_left, length-take-le, length-append, length-drop, take-append-drop, take-append-le, take_all, take_at, take_more}
use Rattle.std.proofs.lemmas.Slice.Eq.{bytes_eq-Decides}
use Rattle.perc_kdf.specs.Derivation.{IsMasterLength, KeyAndSalt}
use Rattle.perc_keyset.specs.declared.Entry.{Entry}
use Rattle.perc_keyset.specs.declared.Op.{Op}
use Rattle.perc_keyset.specs.declared.Op.TheVariants.{Add}
use Rattle.perc_keyset.specs.Set.{absorbed, fold_ops, holds, is_of, most_entries}
use Rattle.perc_keyset.proofs.SetLaws.{Apart, IsSetOf-fold, absorbed_fits, room_beside, without-none}
use Rattle.perc_published.specs.Words.{entries_of, entry_of, key_size, octets_of, pair_of, set_in}
use Rattle.perc_published.specs.Views.{Spells}

pub none_spelled : Spells (replicate 1090 0) []
unfolding set_in
none_spelled = record {
  legal = record { serials = refl; pairs = λ i j d below inside. absurd (omega arith) };
  count = refl;
  set = refl;
}

-- ---- a pair and an entry

halves : (xs : List ℕ) → length xs ≡ 16 → take 8 xs ++ take 8 (drop 8 xs) ≡ xs
halves xs long = sym (take-add 8 8 xs) ∙ take_all 16 xs (omega arith)

fourths : (xs : List ℕ) → length xs ≡ 32 → (take 8 xs ++ take 8 (drop 8 xs)) ++ (take 8 (drop 16 xs) ++ take 8 (drop 24 xs)) ≡ xs
fourths xs long =
    ap₂ (λ (ys zs : List ℕ). ys ++ zs) (sym (take-add 8 8 xs)) (ap (λ (ys : List ℕ). take 8 (drop 16 xs) ++ take 8 ys) (sym (drop-drop 8 16 xs)) ∙ sym (take-add 8 8 (drop 16 xs)))
    ∙ (sym (take-add 16 16 xs) ∙ take_all 32 xs (omega arith))

size_is : (n : ℕ) → IsMasterLength n → key_size n ≡ n
size_is n long = ⊎_elim (λ (e : n ≡ 16). subst (λ (k : ℕ). key_size k ≡ k) (sym e) refl) (λ (e : n ≡ 32). subst (λ (k : ℕ). key_size k ≡ k) (sym e) refl) long

-- a pair, spelled in seven words: its key with zeros behind it, and its salt
pub record IsPadded (pair : KeyAndSalt) (key salt : List ℕ) : Type 0 where
  pub size : IsMasterLength (length pair.key)
  pub key_long : length key ≡ 32
  pub salt_long : length salt ≡ 16
  pub key_is : take (length pair.key) key ≡ pair.key
  pub salt_is : take 12 salt ≡ pair.salt

pub record AreWords (key salt : List ℕ) (a b c d e f : ℕ) : Type 0 where
  pub first : octets_of a ≡ take 8 key
  pub second : octets_of b ≡ take 8 (drop 8 key)
  pub third : octets_of c ≡ take 8 (drop 16 key)
  pub fourth : octets_of d ≡ take 8 (drop 24 key)
  pub salt_first : octets_of e ≡ take 8 salt
  pub salt_second : octets_of f ≡ take 8 (drop 8 salt)

pub pair_back : (pair : KeyAndSalt) (key salt : List ℕ) (a b c d e f : ℕ) → IsPadded pair key salt → AreWords key salt a b c d e f
    → pair_of (length pair.key ∷ a ∷ b ∷ c ∷ d ∷ e ∷ f ∷ []) ≡ pair
unfolding pair_of
pair_back pair key salt a b c d e f padded are =
    let whole : (octets_of a ++ octets_of b) ++ (octets_of c ++ octets_of d) ≡ key =
    ap₂ (λ (xs ys : List ℕ). xs ++ ys) (ap₂ (λ (xs ys : List ℕ). xs ++ ys) are.first are.second) (ap₂ (λ (xs ys : List ℕ). xs ++ ys) are.third are.fourth) ∙ fourths key padded.key_long in
    let both : octets_of e ++ octets_of f ≡ salt = ap₂ (λ (xs ys : List ℕ). xs ++ ys) are.salt_first are.salt_second ∙ halves salt padded.salt_long in
    λ i. record {
      key = (ap₂ (λ (n : ℕ) (xs : List ℕ). take n xs) (size_is (length pair.key) padded.size) whole ∙ padded.key_is) i;
      salt = (ap (λ (xs : List ℕ). take 12 xs) both ∙ padded.salt_is) i;
    }

-- what 17 words spell that are an entry's
pub record AreEntryWords (entry : Entry) (a b n : ℕ) (c s : List ℕ) : Type 0 where
  pub long : length entry.association ≡ 16
  pub small : entry.serial < 2 ^ 32
  pub first : octets_of a ≡ take 8 entry.association
  pub second : octets_of b ≡ take 8 (drop 8 entry.association)
  pub serial : n ≡ entry.serial
  pub client : pair_of c ≡ entry.client
  pub server : pair_of s ≡ entry.server

-- the first seven words
abbrev pub seven : List ℕ → List ℕ → List ℕ
seven c rest =
    slice_index c 0 ∷ slice_index c 1 ∷ slice_index c 2 ∷ slice_index c 3 ∷ slice_index c 4 ∷ slice_index c 5 ∷ slice_index c 6 ∷ rest

pair_of_seven : (c rest : List ℕ) → pair_of (seven c rest) ≡ pair_of c
unfolding pair_of
pair_of_seven c rest = refl

pub entry_back : (entry : Entry) (a b n : ℕ) (c s : List ℕ) → AreEntryWords entry a b n c s → entry_of (a ∷ b ∷ n ∷ seven c (seven s [])) ≡ entry
unfolding entry_of
entry_back entry a b n c s are =
    λ i. record {
      association = (ap₂ (λ (xs ys : List ℕ). xs ++ ys) are.first are.second ∙ halves entry.association are.long) i;
      serial = (ap (λ (k : ℕ). k % 2 ^ 32) are.serial ∙ mod-eq_of_lt are.small) i;
      client = (pair_of_seven c (seven s []) ∙ are.client) i;
      server = (pair_of_seven s [] ∙ are.server) i;
    }

-- ---- the entries in a row

pub length-entries_of : (n : ℕ) (words : List ℕ) → length (entries_of n words) ≡ n
length-entries_of zero words = refl
length-entries_of (suc n) words = ap suc (length-entries_of n (drop 17 words))

pub entries_at : (n i : ℕ) (words : List ℕ) (d : Entry) → i < n → get_or (entries_of n words) i d ≡ entry_of (take 17 (drop (17 * i) words))
entries_at zero i words d below = absurd (omega arith)
entries_at (suc n) zero words d below = refl
entries_at (suc n) (suc i) words d below =
    entries_at n i (drop 17 words) d (omega arith)
    ∙ ap (λ (ws : List ℕ). entry_of (take 17 ws)) (drop-drop (17 * i) 17 words ∙ ap (λ (k : ℕ). drop k words) (omega arith))

entries_front : (n : ℕ) (front xs ys : List ℕ) → length front ≡ 17 * n → entries_of n (front ++ xs) ≡ entries_of n (front ++ ys)
entries_front zero front xs ys long = refl
entries_front (suc n) front xs ys long =
    let less : 17 ≤ length front = omega arith in
    ap₂ (λ (e : Entry) (es : List Entry). e ∷ es)
    (ap entry_of (take-append-le 17 front xs less ∙ sym (take-append-le 17 front ys less)))
    (ap (entries_of n) (drop-append-le 17 front xs less)
    ∙ (entries_front n (drop 17 front) xs ys (length-drop 17 front ∙ omega arith)
    ∙ sym (ap (entries_of n) (drop-append-le 17 front ys less))))

entries_more : (n : ℕ) (words : List ℕ) → entries_of (n + 1) words ≡ entries_of n words ++ entry_of (take 17 (drop (17 * n) words)) ∷ []
entries_more zero words = refl
entries_more (suc n) words =
    ap (λ (k : ℕ). entries_of k words) (suc-add n 1)
    ∙ ap (λ (es : List Entry). entry_of (take 17 words) ∷ es)
    (entries_more n (drop 17 words)
    ∙ ap (λ (ws : List ℕ). entries_of n (drop 17 words) ++ entry_of (take 17 ws) ∷ []) (drop-drop (17 * n) 17 words ∙ ap (λ (k : ℕ). drop k words) (omega arith)))

-- ---- writing one entry more

pub put_keeps : (words tail : List ℕ) (at k : ℕ) → k < at → at ≤ length words → slice_index (take at words ++ tail) k ≡ slice_index words k
put_keeps words tail at k below fits =
    get_or_append_left (take at words) tail 0 k (omega (arith, length-take-le at words fits)) ∙ get_or-take at words k 0 below

pub put_long : (words block : List ℕ) (at : ℕ) → length block ≡ 17 → at + 17 ≤ length words → length (take at words ++ (block ++ drop (at + 17) words)) ≡ length words
put_long words block at long fits =
    length-append (take at words) (block ++ drop (at + 17) words)
    ∙ omega (arith, length-take-le at words (omega arith), length-append block (drop (at + 17) words), length-drop (at + 17) words)

pub put_more : (words block : List ℕ) (i : ℕ) (entries : List Entry) (e : Entry) → length block ≡ 17 → 2 + 17 * i + 17 ≤ length words → entry_of block ≡ e
    → entries_of i (drop 2 words) ≡ take i entries → i < length entries → e ≡ get_or entries i e
    → entries_of (i + 1) (drop 2 (take (2 + 17 * i) words ++ (block ++ drop (2 + 17 * i + 17) words))) ≡ take (i + 1) entries
put_more words block i entries e long fits is done below at =
    let rest : List ℕ = block ++ drop (2 + 17 * i + 17) words in
    let front : List ℕ = take (17 * i) (drop 2 words) in
    let front_long : length front ≡ 17 * i = length-take-le (17 * i) (drop 2 words) (omega (arith, length-drop 2 words)) in
    let words_is : drop 2 (take (2 + 17 * i) words ++ rest) ≡ front ++ rest =
    drop-append-le 2 (take (2 + 17 * i) words) rest (omega (arith, length-take-le (2 + 17 * i) words (omega arith)))
    ∙ ap (λ (ws : List ℕ). ws ++ rest) (drop-take 2 (17 * i) words) in
    let before : entries_of i (front ++ rest) ≡ take i entries =
    entries_front i front rest (drop (17 * i) (drop 2 words)) front_long ∙ (ap (entries_of i) (take-append-drop (17 * i) (drop 2 words)) ∙ done) in
    let last : entry_of (take 17 (drop (17 * i) (front ++ rest))) ≡ get_or entries i e =
    ap (λ (ws : List ℕ). entry_of (take 17 ws)) (drop_at front rest (17 * i) front_long)
    ∙ (ap entry_of (take_at block (drop (2 + 17 * i + 17) words) 17 long) ∙ (is ∙ at)) in
    ap (entries_of (i + 1)) words_is
    ∙ (entries_more i (front ++ rest)
    ∙ (ap₂ (λ (es : List Entry) (d : Entry). es ++ d ∷ []) before last ∙ sym (take_more entries i e below)))

pub all_spelled : (words : List ℕ) (entries : List Entry) (n : ℕ) → slice_index words 1 ≡ length entries → length entries ≤ most_entries → n ≡ length entries
    → entries_of n (drop 2 words) ≡ take n entries → set_in words ≡ entries
unfolding set_in
all_spelled words entries n len few is done =
    let all : min (slice_index words 1) most_entries ≡ n = omega arith in
    ap (λ (k : ℕ). entries_of k (drop 2 words)) all ∙ (done ∙ take_all n entries (omega arith))

-- ---- reading one entry more

holds_none : (association : List ℕ) (entries : List Entry) → ((k : ℕ) (d : Entry) → k < length entries → (get_or entries k d).association ≢ association)
    → holds entries association ≡ false
holds_none association [] others = refl
holds_none association (e ∷ entries) others =
    let here : is_of association e ≡ false =
    not_true (is_of association e) (λ yes. others 0 e (omega arith) ((bytes_eq-Decides e.association association).0 yes)) in
    ap (λ (b : Bool). b || holds entries association) here
    ∙ holds_none association entries (λ k d inside. others (suc k) d (omega arith))
  where
    not_true : (b : Bool) → (b ≡ true → ⊥) → b ≡ false
    not_true true never = absurd (never refl)
    not_true false never = refl

pub set_more : (history : List Op) (entries : List Entry) (i : ℕ) (d : Entry) → entries ≡ fold_ops history → i < length entries
    → absorbed (take i entries) (Add (get_or entries i d)) ≡ take (i + 1) entries
set_more history entries i d is below =
    let set = IsSetOf-fold history in
    let e : Entry = get_or entries i d in
    let few : length entries ≤ most_entries = subst (λ (es : List Entry). length es ≤ most_entries) (sym is) set.few in
    let once : AllPairs Apart entries = subst (λ (es : List Entry). AllPairs Apart es) (sym is) set.once in
    let long : length (take i entries) ≡ i = length-take-le i entries (omega arith) in
    let none : holds (take i entries) e.association ≡ false =
    holds_none e.association (take i entries)
    (λ k x inside same.
    once k i x (omega (arith, long)) below
    (ap (λ (y : Entry). y.association) (sym (get_or-take i entries k x (omega (arith, long)))) ∙ (same ∙ ap (λ (y : Entry). y.association) (default_is entries i d x below)))) in
    absorbed_fits (take i entries) e (room_beside e.association (take i entries) (omega (arith, long)))
    ∙ (ap (λ (es : List Entry). es ++ e ∷ []) (without-none e.association (take i entries) none) ∙ sym (take_more entries i d below))
  where
    default_is : (entries : List Entry) (i : ℕ) (d x : Entry) → i < length entries → get_or entries i d ≡ get_or entries i x
    default_is entries i d x below = Rattle.std.proofs.lemmas.List.get_or_default entries i d x below

pub length-set_in : (words : List ℕ) → length (set_in words) ≡ min (slice_index words 1) most_entries
unfolding set_in
length-set_in words = length-entries_of (min (slice_index words 1) most_entries) (drop 2 words)

pub set_in_at : (words : List ℕ) (i : ℕ) (d : Entry) → i < length (set_in words) → get_or (set_in words) i d ≡ entry_of (take 17 (drop (2 + 17 * i) words))
unfolding set_in
set_in_at words i d below =
    entries_at (min (slice_index words 1) most_entries) i (drop 2 words) d (omega (arith, length-entries_of (min (slice_index words 1) most_entries) (drop 2 words)))
    ∙ ap (λ (ws : List ℕ). entry_of (take 17 ws)) (drop-drop (17 * i) 2 words)

pub the_some : {A : Type 0} (o : Option A) (P : Type 0) (x y : A) → SomeIff o P y → o ≡ Some x → x ≡ y
the_some None P x y iff is = absurd cc
the_some (Some z) P x y iff is = cc (iff.1, is)
