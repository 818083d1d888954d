-- What a keeper in memory keeps beside its lists stays right: keys and pairs are found where they were kept.
use Rattle.std.specs.BTreeMap as tree
use Rattle.std.specs.BTreeMap.{BTreeMap, is_at}
use Rattle.std.specs.BTreeSet as set
use Rattle.std.specs.BTreeSet.{BTreeSet}
use Rattle.std.specs.List.{list_any, find, All}
use Rattle.std.specs.Option.{option_map, option_or}
use Rattle.std.specs.Prelude.{Option, Some, None, IfSome, nat_lt, OnErr, OnOk, Result, Ok, Err}
use Rattle.std.specs.Result.{is_err}
use Rattle.std.specs.Str.{bytes_eq}
use Rattle.std.proofs.Common.{◌≡◌, ℕ, ◌<◌, Bool, true, false, cond, ◌||◌, List, [], ◌∷◌, ◌++◌, length, take, ⊎_elim, inl, inr, refl, sym, ap, subst, ◌∙◌, arith}
use Rattle.std.proofs.lemmas.Bool.{cases_Bool, cond-true, cond-false}
use Rattle.std.proofs.lemmas.Bool.Decides.{same_from_decides, Decides-like}
use Rattle.std.proofs.lemmas.List.{length-take-le}
use Rattle.std.proofs.lemmas.List.Elements.{All-head, All-tail}
use Rattle.std.proofs.lemmas.List.Folds.{find-append}
use Rattle.std.proofs.lemmas.Slice.Eq.{bytes_eq-Decides}
use Rattle.perc_kdf.specs.Derivation.{KeyAndSalt, IsMasterLength}
use Rattle.perc_kdf.specs.Order.{pair_cmp, same_pair}
use Rattle.perc_kdf.proofs.OrderLaws.{pair_cmp_ties, same_pair-Decides}
use Rattle.perc_ekt.specs.declared.record.EktKeyRecord.{EktKeyRecord}
use Rattle.perc_ekt.specs.Record.{IsRecord}
use Rattle.perc_keeper.specs.Lists.{higher, newest, key_of, spi_of, was_given}
use Rattle.perc_keeper.specs.Kept.{AreIn, looked_up}

pub on_ok : {T E P : Type 0} (r : Result T E) → is_err r ≡ false → OnOk r P → P
on_ok (Ok x) is fact = fact
on_ok (Err e) is fact = absurd cc

pub on_err : {T E P : Type 0} (r : Result T E) → is_err r ≡ true → OnErr r P → P
on_err (Ok x) is fact = absurd cc
on_err (Err e) is fact = fact

-- what is found passes what all pass
pub find_passes : {X : Type 0} (P : X → Type 0) (p : X → Bool) (xs : List X) → All P xs → IfSome (find p xs) P
find_passes P p [] all = tt
find_passes P p (x ∷ xs) all =
    ⊎_elim (λ (yes : p x ≡ true). subst (λ o. IfSome o P) (sym (cond-true (p x) (Some x) (find p xs) yes)) (All-head P x xs all))
    (λ (no : p x ≡ false). subst (λ o. IfSome o P) (sym (cond-false (p x) (Some x) (find p xs) no)) (find_passes P p xs (All-tail P x xs all)))
    (cases_Bool (p x))

-- ---- the newest record

higher_right : (r : EktKeyRecord) (o : Option EktKeyRecord) → IsRecord r → IfSome o IsRecord → IfSome (higher r o) IsRecord
higher_right r None right others = right
higher_right r (Some s) right others = by_test (nat_lt s.spi r.spi) where
  by_test : (b : Bool) → IfSome (cond b (Some r) (Some s)) IsRecord
  by_test true = right
  by_test false = others

pub newest_right : (records : List EktKeyRecord) → All IsRecord records → IfSome (newest records) IsRecord
newest_right [] all = tt
newest_right (r ∷ records) all =
    higher_right r (newest records) (All-head IsRecord r records all) (newest_right records (All-tail IsRecord r records all))

-- below a record
abbrev Below : EktKeyRecord → EktKeyRecord → Type 0
Below r s = s.spi < r.spi

higher_below : (r x : EktKeyRecord) (o : Option EktKeyRecord) → IfSome (higher x o) (Below r) → (x.spi < r.spi) × IfSome o (Below r)
higher_below r x None below = (below, tt)
higher_below r x (Some s) below = by_test (nat_lt s.spi x.spi) refl below where
  by_test : (b : Bool) → nat_lt s.spi x.spi ≡ b → IfSome (cond b (Some x) (Some s)) (Below r) → (x.spi < r.spi) × (s.spi < r.spi)
  by_test true is below = (below, grind (arith, is, below))
  by_test false is below = (grind (arith, is, below), below)

-- a record whose SPI is above all is the newest behind them
pub newest_pushed : (records : List EktKeyRecord) (r : EktKeyRecord) → IfSome (newest records) (Below r) → newest (records ++ r ∷ []) ≡ Some r
newest_pushed [] r below = refl
newest_pushed (x ∷ records) r below =
    let both = higher_below r x (newest records) below in
    ap (higher x) (newest_pushed records r both.1) ∙ top both.0 where
      top : x.spi < r.spi → higher x (Some r) ≡ Some r
      top above = cond-false (nat_lt r.spi x.spi) (Some x) (Some r) (grind (arith, above))

-- ---- the keys

looked_up_same : (a b : List ℕ) → same_pair (looked_up a) (looked_up b) ≡ bytes_eq a b
looked_up_same a b =
    same_from_decides (same_pair (looked_up a) (looked_up b)) (bytes_eq a b)
    (Decides-like (same_pair (looked_up a) (looked_up b)) (λ (e : looked_up a ≡ looked_up b). ap (λ (m : KeyAndSalt). m.key) e) (λ (e : a ≡ b). ap looked_up e)
    (same_pair-Decides (looked_up a) (looked_up b)))
    (bytes_eq-Decides a b)

abbrev has_key : List ℕ → EktKeyRecord → Bool
has_key key r = bytes_eq (key_of r) key

spi_pushed : (records : List EktKeyRecord) (r : EktKeyRecord) (key : List ℕ) → spi_of records (key_of r) ≡ None
    → spi_of (records ++ r ∷ []) key ≡ cond (bytes_eq (key_of r) key) (Some r.spi) (spi_of records key)
spi_pushed records r key unused =
    ap (option_map (λ r. r.spi)) (find-append (has_key key) records (r ∷ []))
    ∙ by_cases (bytes_eq (key_of r) key) refl (find (has_key key) records) refl where
      by_cases : (b : Bool) → bytes_eq (key_of r) key ≡ b → (o : Option EktKeyRecord) → find (has_key key) records ≡ o
          → option_map (λ r. r.spi) (option_or o (cond b (Some r) None)) ≡ cond b (Some r.spi) (option_map (λ r. r.spi) o)
      by_cases true is None none = refl
      by_cases true is (Some s) found =
          let same : key_of r ≡ key = (bytes_eq-Decides (key_of r) key).0 is in
          let other = ap (option_map (λ r. r.spi)) (sym found) ∙ ap (spi_of records) (sym same) ∙ unused in absurd cc
      by_cases false is None none = refl
      by_cases false is (Some s) found = refl

pub found_pushed : (records : List EktKeyRecord) (r : EktKeyRecord) (name : KeyAndSalt) (before after : BTreeMap KeyAndSalt ℕ)
    → ((key : List ℕ) → tree.get pair_cmp before (looked_up key) ≡ spi_of records key) → spi_of records (key_of r) ≡ None
    → name ≡ looked_up (key_of r) → tree.Updates pair_cmp before after name (Some r.spi)
    → (key : List ℕ) → tree.get pair_cmp after (looked_up key) ≡ spi_of (records ++ r ∷ []) key
found_pushed records r name before after found unused is updates key =
    updates.0 (looked_up key)
    ∙ ap (λ (b : Bool). cond b (Some r.spi) (tree.get pair_cmp before (looked_up key)))
    (pair_cmp_ties name (looked_up key) ∙ ap (λ n. same_pair n (looked_up key)) is ∙ looked_up_same (key_of r) key)
    ∙ ap (λ (o : Option ℕ). cond (bytes_eq (key_of r) key) (Some r.spi) o) (found key)
    ∙ sym (spi_pushed records r key unused)

-- a key of another length was issued by no right record
key_length_right : (r : EktKeyRecord) → IsRecord r → IsMasterLength (length (key_of r))
key_length_right r right =
    let size : length (take r.len r.key) ≡ r.len = length-take-le r.len r.key (elim right.size [ inl h ↦ omega (arith, h, right.room) | inr h ↦ omega (arith, h, right.room) ]) in
    subst IsMasterLength (sym size) right.size

pub none_of_other_length : (records : List EktKeyRecord) (key : List ℕ) → All IsRecord records → (IsMasterLength (length key) → ⊥) → None ≡ spi_of records key
none_of_other_length [] key all other = refl
none_of_other_length (r ∷ records) key all other =
    ⊎_elim (λ (yes : has_key key r ≡ true).
    absurd (other (subst (λ k. IsMasterLength (length k)) ((bytes_eq-Decides (key_of r) key).0 yes) (key_length_right r (All-head IsRecord r records all)))))
    (λ (no : has_key key r ≡ false).
    none_of_other_length records key (All-tail IsRecord r records all) other
    ∙ ap (option_map (λ r. r.spi)) (sym (cond-false (has_key key r) (Some r) (find (has_key key) records) no)))
    (cases_Bool (has_key key r))

-- ---- the pairs

abbrev Writes : KeyAndSalt → Bool → BTreeSet KeyAndSalt → BTreeSet KeyAndSalt → Type 0
Writes pair value before after = (q : KeyAndSalt) → set.contains pair_cmp after q ≡ cond (same_pair pair q) value (set.contains pair_cmp before q)

pub Writes-updates : (before after : BTreeSet KeyAndSalt) (pair : KeyAndSalt) (value : Bool) → set.Updates pair_cmp before after pair value → Writes pair value before after
Writes-updates before after pair value h q = h.0 q ∙ ap (λ (b : Bool). cond b value (set.contains pair_cmp before q)) (pair_cmp_ties pair q)

same_sym : (p q : KeyAndSalt) → same_pair p q ≡ same_pair q p
same_sym p q =
    same_from_decides (same_pair p q) (same_pair q p) (same_pair-Decides p q)
    (Decides-like (same_pair q p) (λ (e : q ≡ p). sym e) (λ (e : p ≡ q). sym e) (same_pair-Decides q p))

any_pushed : (pairs : List KeyAndSalt) (a b q : KeyAndSalt)
    → was_given (pairs ++ a ∷ b ∷ []) q ≡ cond (same_pair b q) true (cond (same_pair a q) true (was_given pairs q))
any_pushed [] a b q = by_tests (same_pair q a) (same_pair a q) (same_pair q b) (same_pair b q) (same_sym q a) (same_sym q b) where
  by_tests : (x x2 y y2 : Bool) → x ≡ x2 → y ≡ y2 → (x || (y || false)) ≡ cond y2 true (cond x2 true false)
  by_tests true true true true e f = refl
  by_tests true true false false e f = refl
  by_tests false false true true e f = refl
  by_tests false false false false e f = refl
  by_tests true false y y2 e f = absurd cc
  by_tests false true y y2 e f = absurd cc
  by_tests x x2 true false e f = absurd cc
  by_tests x x2 false true e f = absurd cc
any_pushed (p ∷ pairs) a b q =
    ap (λ (t : Bool). same_pair q p || t) (any_pushed pairs a b q) ∙ by_tests (same_pair q p) (same_pair a q) (same_pair b q) (was_given pairs q) where
      by_tests : (t x y z : Bool) → (t || cond y true (cond x true z)) ≡ cond y true (cond x true (t || z))
      by_tests true true true z = refl
      by_tests true true false z = refl
      by_tests true false true z = refl
      by_tests true false false z = refl
      by_tests false true true z = refl
      by_tests false true false z = refl
      by_tests false false true z = refl
      by_tests false false false z = refl

-- two pairs are put in
pub in_pushed : (pairs now : List KeyAndSalt) (a b : KeyAndSalt) (f g h : BTreeSet KeyAndSalt) → AreIn pairs f → Writes a true f g → Writes b true g h
    → now ≡ pairs ++ a ∷ b ∷ [] → AreIn now h
in_pushed pairs now a b f g h held first second is q =
    second q ∙ ap (λ (t : Bool). cond (same_pair b q) true t) (first q ∙ ap (λ (t : Bool). cond (same_pair a q) true t) (held q))
    ∙ sym (any_pushed pairs a b q) ∙ ap (λ ps. was_given ps q) (sym is)

-- a pair that wasn't in is put in and taken out
pub in_back : (pairs now : List KeyAndSalt) (a : KeyAndSalt) (f g k h : BTreeSet KeyAndSalt) → AreIn pairs f → was_given pairs a ≡ false
    → Writes a true f g → set.IsUnchanged g k → Writes a false k h → now ≡ pairs → AreIn now h
in_back pairs now a f g k h held absent first same second is q =
    let other : set.contains pair_cmp k q ≡ set.contains pair_cmp g q = ap (λ ks. list_any (is_at (pair_cmp q)) ks) same in
    ⊎_elim (λ (here : same_pair a q ≡ true).
    second q ∙ cond-true (same_pair a q) false (set.contains pair_cmp k q) here ∙ sym absent ∙ ap (was_given pairs) ((same_pair-Decides a q).0 here) ∙ ap (λ ps. was_given ps q) (sym is))
    (λ (apart : same_pair a q ≡ false).
    second q ∙ cond-false (same_pair a q) false (set.contains pair_cmp k q) apart ∙ other ∙ first q ∙ cond-false (same_pair a q) true (set.contains pair_cmp f q) apart ∙ held q ∙ ap (λ ps. was_given ps q) (sym is))
    (cases_Bool (same_pair a q))

pub append-append : {X : Type 0} (xs : List X) (a b : X) → (xs ++ a ∷ []) ++ b ∷ [] ≡ xs ++ a ∷ b ∷ []
append-append [] a b = refl
append-append (x ∷ xs) a b = ap (λ ys. x ∷ ys) (append-append xs a b)
