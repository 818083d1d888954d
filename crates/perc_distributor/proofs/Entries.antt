-- Entries of a set, one after another.
use Rattle.std.proofs.Common.{◌≡◌, ℕ, suc, ◌+◌, Bool, true, false, cond, List, [], ◌∷◌, ◌++◌, take, drop, Option, Some, sym, ap, ◌∙◌, arith, add-one}
use Rattle.std.specs.List.{slice_get}
use Rattle.std.proofs.lemmas.Bool.Decides.{nat_tests}
use Rattle.std.proofs.Math.Seq.{drop-cons}
use Rattle.std.proofs.lemmas.List.{take_more}
use Rattle.std.proofs.lemmas.Option.{slice_get_within, get_or_from_slice_get}
use Rattle.perc_keyset.specs.declared.Entry.{Entry}
use Rattle.perc_keyset.specs.Set.{entry_of, is_of}
use Rattle.perc_distributor.specs.Inbound.{in_set}

-- the element at a place, in front of the later ones
pub drop_at : {X : Type 0} (xs : List X) (i : ℕ) (x : X) → slice_get xs i ≡ Some x → drop i xs ≡ x ∷ drop (i + 1) xs
drop_at {X = X} xs i x is =
    let within = slice_get_within xs i x is in
    drop-cons xs i x within ∙ ap (λ (y : X). y ∷ drop (suc i) xs) (get_or_from_slice_get xs i x x is) ∙ ap (λ (n : ℕ). x ∷ drop n xs) (sym (add-one i))

-- and behind the earlier ones
pub take_at : {X : Type 0} (xs : List X) (i : ℕ) (x : X) → slice_get xs i ≡ Some x → take (i + 1) xs ≡ take i xs ++ x ∷ []
take_at {X = X} xs i x is =
    take_more xs i x (slice_get_within xs i x is) ∙ ap (λ (y : X). take i xs ++ y ∷ []) (get_or_from_slice_get xs i x x is)

pub in_set_here : (e : Entry) (set : List Entry) (serial : ℕ) → e.serial ≡ serial → in_set (e ∷ set) serial ≡ true
in_set_here e set serial is = grind (arith, nat_tests)

pub in_set_past : (e : Entry) (set : List Entry) (serial : ℕ) → (e.serial ≡ serial → ⊥) → in_set (e ∷ set) serial ≡ in_set set serial
in_set_past e set serial other = grind (arith, nat_tests)

-- the entry of an association
pub entry_here : (e : Entry) (set : List Entry) (association : List ℕ) → is_of association e ≡ true → entry_of (e ∷ set) association ≡ Some e
entry_here e set association is = ap (λ (b : Bool). cond b (Some e) (entry_of set association)) is

pub entry_past : (e : Entry) (set : List Entry) (association : List ℕ) → is_of association e ≡ false → entry_of (e ∷ set) association ≡ entry_of set association
entry_past e set association is = ap (λ (b : Bool). cond b (Some e) (entry_of set association)) is

entry_head : (b : Bool) (e f : Entry) (set : List Entry) (rest : Option Entry) → cond b (Some e) rest ≡ Some f → (rest ≡ Some f → in_set set f.serial ≡ true) → in_set (e ∷ set) f.serial ≡ true
entry_head true e f set rest is more = let same : e ≡ f = cc in in_set_here e set f.serial (ap (λ (x : Entry). x.serial) same)
entry_head false e f set rest is more = let tail = more is in grind (arith, nat_tests, tail)

pub entry_in : (set : List Entry) (association : List ℕ) (f : Entry) → entry_of set association ≡ Some f → in_set set f.serial ≡ true
entry_in [] association f is = absurd (cc)
entry_in (e ∷ set) association f is = entry_head (is_of association e) e f set (entry_of set association) is (entry_in set association f)
