-- The set of a list of adds and removals: what is in it, how many there are, and that an association stands once.
use Rattle.std.proofs.Common.{◌≡◌, ◌≢◌, ℕ, ◌+◌, ◌≤◌, ◌<◌, Bool, true, false, not, ◌||◌, List, [], ◌∷◌, ◌++◌, length, ◌⊎◌, ⊎_elim, inl, inr, refl, sym, ap, ◌∙◌, arith, get_or, filter}
use Rattle.std.specs.List.{All, AllPairs, Contains}
use Rattle.std.specs.Prelude.{nat_le}
use Rattle.std.proofs.lemmas.Bool.{cases_Bool, cond-true, cond-false, cond_both, le-leb, leb-false, lt-leb, not-true, not_from_false, not_from_true, or_parts}
use Rattle.std.proofs.lemmas.List.{length-append}
use Rattle.std.proofs.lemmas.List.Elements.{All-nil, All-cons, All-head, All-tail, All-weaker, All-push, All-filter, All-contains, All-contains_itself, filter_passes}
use Rattle.std.proofs.lemmas.List.Filters.{length-filter_both}
use Rattle.std.proofs.lemmas.List.Kept.{AllPairs-filter}
use Rattle.std.proofs.lemmas.List.Quantifiers.{all_pairs_push}
use Rattle.std.proofs.lemmas.Slice.Eq.{bytes_eq-Decides}
use Rattle.perc_keyset.specs.declared.Entry.{Entry}
use Rattle.perc_keyset.specs.declared.Op.{Op}
use Rattle.perc_keyset.specs.declared.Op.TheVariants.{Add, Remove}
use Rattle.perc_keyset.specs.Set.{absorbed, fold_ops, holds, is_of, most_entries, set_after, without}
use Rattle.perc_keyset.specs.History.{IsSetOf, adds}

pub set_after-append : (entries : List Entry) (ops more : List Op) → set_after entries (ops ++ more) ≡ set_after (set_after entries ops) more
set_after-append entries [] more = refl
set_after-append entries (op ∷ ops) more = set_after-append (absorbed entries op) ops more

pub adds-append : (ops more : List Op) → adds (ops ++ more) ≡ adds ops ++ adds more
adds-append [] more = refl
adds-append (Add e ∷ ops) more = ap (λ (es : List Entry). e ∷ es) (adds-append ops more)
adds-append (Remove association ∷ ops) more = adds-append ops more

-- ---- what an add or a removal leaves

pub absorbed_full : (entries : List Entry) (e : Entry) → nat_le most_entries (length (without e.association entries)) ≡ true → absorbed entries (Add e) ≡ entries
unfolding absorbed
absorbed_full entries e full =
    cond-true (nat_le most_entries (length (without e.association entries))) entries (without e.association entries ++ e ∷ []) full

pub absorbed_fits : (entries : List Entry) (e : Entry) → nat_le most_entries (length (without e.association entries)) ≡ false → absorbed entries (Add e) ≡ without e.association entries ++ e ∷ []
unfolding absorbed
absorbed_fits entries e fits =
    cond-false (nat_le most_entries (length (without e.association entries))) entries (without e.association entries ++ e ∷ []) fits

pub absorbed_removal : (entries : List Entry) (association : List ℕ) → absorbed entries (Remove association) ≡ without association entries
unfolding absorbed
absorbed_removal entries association = refl

-- what holds of the entries and of each that is added holds of the entries after
pub All-absorbed : (P : Entry → Type 0) (entries : List Entry) (op : Op) → All P entries → All P (adds (op ∷ [])) → All P (absorbed entries op)
unfolding absorbed
All-absorbed P entries (Add e) held added =
    cond_both (nat_le most_entries (length (without e.association entries))) entries (without e.association entries ++ e ∷ []) (All P)
    (λ _. held)
    (λ _. All-push P (without e.association entries) e (All-filter (λ d. not (is_of e.association d)) P entries held) (All-head P e [] added))
All-absorbed P entries (Remove association) held added =
    All-filter (λ d. not (is_of association d)) P entries held

pub All-set_after : (P : Entry → Type 0) (entries : List Entry) (ops : List Op) → All P entries → All P (adds ops) → All P (set_after entries ops)
All-set_after P entries [] held added = held
All-set_after P entries (Add e ∷ ops) held added =
    All-set_after P (absorbed entries (Add e)) ops
    (All-absorbed P entries (Add e) held (All-cons P e [] (All-head P e (adds ops) added) (All-nil P)))
    (All-tail P e (adds ops) added)
All-set_after P entries (Remove association ∷ ops) held added =
    All-set_after P (absorbed entries (Remove association)) ops
    (All-absorbed P entries (Remove association) held (All-nil P))
    added

-- an entry after more of them was there before, or was added
pub from_set_after : (entries : List Entry) (ops : List Op) (e : Entry) → Contains (set_after entries ops) e → Contains entries e ⊎ Contains (adds ops) e
from_set_after entries ops e there =
    let P : Entry → Type 0 = λ d. Contains entries d ⊎ Contains (adds ops) d in
    All-contains P (set_after entries ops) e
    (All-set_after P entries ops
    (All-weaker (Contains entries) P (λ d h. inl h) entries (All-contains_itself entries))
    (All-weaker (Contains (adds ops)) P (λ d h. inr h) (adds ops) (All-contains_itself (adds ops))))
    there

pub from_fold : (ops : List Op) (e : Entry) → Contains (fold_ops ops) e → Contains (adds ops) e
from_fold ops e there =
    All-contains (Contains (adds ops)) (fold_ops ops) e
    (All-set_after (Contains (adds ops)) [] ops (All-nil (Contains (adds ops))) (All-contains_itself (adds ops)))
    there

-- ---- how many there are

pub length-filter-le : (p : Entry → Bool) (entries : List Entry) → length (filter p entries) ≤ length entries
length-filter-le p entries = omega (arith, length-filter_both p (λ e. not (p e)) (λ e. refl) entries)

pub few-absorbed : (entries : List Entry) (op : Op) → length entries ≤ most_entries → length (absorbed entries op) ≤ most_entries
unfolding absorbed
few-absorbed entries (Add e) few =
    cond_both (nat_le most_entries (length (without e.association entries))) entries (without e.association entries ++ e ∷ []) (λ es. length es ≤ most_entries)
    (λ _. few)
    (λ fits.
    let room : length (without e.association entries) < most_entries = leb-false most_entries (length (without e.association entries)) fits in
    let long : length (without e.association entries ++ e ∷ []) ≡ length (without e.association entries) + 1 = length-append (without e.association entries) (e ∷ []) in
    omega arith)
few-absorbed entries (Remove association) few =
    omega (arith, length-filter-le (λ d. not (is_of association d)) entries)

pub few-set_after : (entries : List Entry) (ops : List Op) → length entries ≤ most_entries → length (set_after entries ops) ≤ most_entries
few-set_after entries [] few = few
few-set_after entries (op ∷ ops) few = few-set_after (absorbed entries op) ops (few-absorbed entries op few)

-- one that isn't held leaves all
pub without-none : (association : List ℕ) (entries : List Entry) → holds entries association ≡ false → without association entries ≡ entries
without-none association [] none = refl
without-none association (e ∷ entries) none =
    let parts = or_parts (is_of association e) (holds entries association) none in
    cond-true (not (is_of association e)) (e ∷ without association entries) (without association entries) (not_from_false (is_of association e) parts.0)
    ∙ ap (λ (es : List Entry). e ∷ es) (without-none association entries parts.1)

-- one that is held leaves fewer
pub without-some : (association : List ℕ) (entries : List Entry) → holds entries association ≡ true → length (without association entries) < length entries
without-some association [] some = absurd cc
without-some association (e ∷ entries) some =
    ⊎_elim (λ (here : is_of association e ≡ true).
    let out = cond-false (not (is_of association e)) (e ∷ without association entries) (without association entries) (not_from_true (is_of association e) here) in
    rw out (omega (arith, length-filter-le (λ d. not (is_of association d)) entries)))
    (λ (there : is_of association e ≡ false).
    let kept = cond-true (not (is_of association e)) (e ∷ without association entries) (without association entries) (not_from_false (is_of association e) there) in
    let later : holds entries association ≡ true = ap (λ (b : Bool). b || holds entries association) (sym there) ∙ some in
    rw kept (omega (arith, without-some association entries later)))
    (cases_Bool (is_of association e))

-- whether the others fill the set, by whether all do
pub full_beside : (association : List ℕ) (entries : List Entry) → length entries ≡ most_entries → not (holds entries association) ≡ nat_le most_entries (length (without association entries))
full_beside association entries long =
    ⊎_elim (λ (some : holds entries association ≡ true).
    not_from_true (holds entries association) some ∙ sym (lt-leb most_entries (length (without association entries)) (omega (arith, without-some association entries some))))
    (λ (none : holds entries association ≡ false).
    not_from_false (holds entries association) none ∙ sym (le-leb most_entries (length (without association entries)) (omega (arith, ap (λ (es : List Entry). length es) (without-none association entries none)))))
    (cases_Bool (holds entries association))

pub room_beside : (association : List ℕ) (entries : List Entry) → length entries < most_entries → nat_le most_entries (length (without association entries)) ≡ false
room_beside association entries few =
    lt-leb most_entries (length (without association entries)) (omega (arith, length-filter-le (λ d. not (is_of association d)) entries))

-- ---- an association stands once

abbrev pub Apart : Entry → Entry → Type 0
Apart d e = d.association ≢ e.association

other_than : (association : List ℕ) (e : Entry) → not (is_of association e) ≡ true → e.association ≢ association
other_than association e kept same =
    let no : is_of association e ≡ false = not-true (is_of association e) kept in
    let yes : is_of association e ≡ true = (bytes_eq-Decides e.association association).1 same in
    cc

once-absorbed : (entries : List Entry) (op : Op) → AllPairs Apart entries → AllPairs Apart (absorbed entries op)
unfolding absorbed
once-absorbed entries (Add e) once =
    let others : List Entry = without e.association entries in
    cond_both (nat_le most_entries (length others)) entries (others ++ e ∷ []) (AllPairs Apart)
    (λ _. once)
    (λ _. all_pairs_push Apart others e (AllPairs-filter Apart (λ d. not (is_of e.association d)) entries once)
    (λ k d inside. other_than e.association (get_or others k d) (filter_passes (λ d. not (is_of e.association d)) entries k d inside)))
once-absorbed entries (Remove association) once =
    AllPairs-filter Apart (λ d. not (is_of association d)) entries once

pub once-set_after : (entries : List Entry) (ops : List Op) → AllPairs Apart entries → AllPairs Apart (set_after entries ops)
once-set_after entries [] once = once
once-set_after entries (op ∷ ops) once = once-set_after (absorbed entries op) ops (once-absorbed entries op once)

-- The set of any list of adds and removals is one.
pub IsSetOf-fold : (ops : List Op) → IsSetOf (fold_ops ops) ops
IsSetOf-fold ops = record {
  fold = refl;
  once = once-set_after [] ops (λ i j d below inside. absurd (omega arith));
  few = few-set_after [] ops (omega arith);
  added = All-set_after (Contains (adds ops)) [] ops (All-nil (Contains (adds ops))) (All-contains_itself (adds ops));
}
