-- A map from pairs to the adds that gave them: a look-up behind an insertion or a removal.
use Rattle.std.specs.BTreeMap as tree
use Rattle.std.specs.BTreeMap.{BTreeMap, is_at}
use Rattle.std.specs.Map.{lookup}
use Rattle.std.proofs.Common.{◌≡◌, Bool, List, true, false, cond, ◌||◌, ⊎_elim, refl, sym, ap, ◌∙◌}
use Rattle.std.proofs.lemmas.Bool.{cases_Bool, cond-true, cond-false}
use Rattle.std.specs.Prelude.{Option, None, OnErr, OnOk, Result, Ok, Err}
use Rattle.std.specs.Result.{is_err}
use Rattle.perc_kdf.specs.Derivation.{KeyAndSalt}
use Rattle.perc_kdf.specs.Order.{pair_cmp, same_pair}
use Rattle.perc_kdf.proofs.OrderLaws.{pair_cmp_ties, same_pair-Decides}

pub on_ok : {T E P : Type 0} (r : Result T E) → is_err r ≡ false → OnOk r P → P
on_ok (Ok x) is fact = fact
on_ok (Err e) is fact = absurd cc

pub on_err : {T E P : Type 0} (r : Result T E) → is_err r ≡ true → OnErr r P → P
on_err (Ok x) is fact = absurd cc
on_err (Err e) is fact = fact

abbrev pub Pairs : Type 0 → Type 0
Pairs X = KeyAndSalt → Option X

module _ {X : Type 0} where
  -- one key is written
  abbrev pub Writes : KeyAndSalt → Option X → Pairs X → Pairs X → Type 0
  Writes key value f g = (q : KeyAndSalt) → g q ≡ cond (same_pair key q) value (f q)

  pub Writes-updates : (m n : BTreeMap KeyAndSalt X) (key : KeyAndSalt) (value : Option X) → tree.Updates pair_cmp m n key value → Writes key value (tree.get pair_cmp m) (tree.get pair_cmp n)
  Writes-updates m n key value h q =
      h.0 q ∙ ap (λ (b : Bool). cond b value (tree.get pair_cmp m q)) (pair_cmp_ties key q)

  both : (a b : Bool) (x y : Option X) → cond b x (cond a x y) ≡ cond (a || b) x y
  both true true x y = refl
  both true false x y = refl
  both false true x y = refl
  both false false x y = refl

  -- two keys are written
  pub writes_both : (client server : KeyAndSalt) (value : Option X) (f g h : Pairs X) → Writes client value f g → Writes server value g h
      → (q : KeyAndSalt) → h q ≡ cond (same_pair client q || same_pair server q) value (f q)
  writes_both client server value f g h first second q =
      second q ∙ ap (λ (v : Option X). cond (same_pair server q) value v) (first q) ∙ both (same_pair client q) (same_pair server q) value (f q)

  -- a key that wasn't in is put in and taken out
  pub writes_back : (key : KeyAndSalt) (value : Option X) (f g h : Pairs X) → f key ≡ None → Writes key value f g → Writes key None g h → (q : KeyAndSalt) → h q ≡ f q
  writes_back key value f g h absent first second q =
      ⊎_elim (λ (here : same_pair key q ≡ true).
      second q ∙ cond-true (same_pair key q) None (g q) here ∙ sym absent ∙ ap f ((same_pair-Decides key q).0 here))
      (λ (apart : same_pair key q ≡ false).
      second q ∙ cond-false (same_pair key q) None (g q) apart ∙ first q ∙ cond-false (same_pair key q) value (f q) apart)
      (cases_Bool (same_pair key q))

  -- what looks up the same entries finds the same
  pub same_entries : (m n : BTreeMap KeyAndSalt X) → tree.IsUnchanged m n → (q : KeyAndSalt) → tree.get pair_cmp n q ≡ tree.get pair_cmp m q
  same_entries m n same q = ap (λ (es : List (KeyAndSalt × X)). lookup (is_at (pair_cmp q)) es) same
