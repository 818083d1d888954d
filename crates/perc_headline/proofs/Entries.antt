-- The key set has the entries of the members that are present, in the order of joining; and each member has an association of its own.
use Rattle.std.proofs.Common.{◌≡◌, ℕ, zero, suc, ◌+◌, ◌/◌, ◌%◌, ◌^◌, ◌<◌, inl, inr, Bool, true, false, cond, List, [], ◌∷◌, ◌++◌, length, map, get_or, Some, refl, sym, ap, ◌∙◌, subst, arith}
use Rattle.std.specs.List.{AllByRecursion, slice_get}
use Rattle.std.specs.Prelude.{AllPairs, Contains, filter}
use Rattle.std.specs.Str.{bytes_eq}
use Rattle.std.proofs.lemmas.Bool.{false_from_ne_true}
use Rattle.std.proofs.lemmas.List.Elements.{Contains-get_or, recursion_from_All}
use Rattle.std.proofs.lemmas.Slice.Eq.{bytes_eq-Decides}
use Rattle.byteorder.specs.Endian.{big_bytes}
use Rattle.perc_keyset.specs.Set.{is_of, without}
use Rattle.perc_keyset.specs.declared.Entry.{Entry}
use Rattle.perc_run.specs.State.{Member, has_name, with_member}
use Rattle.perc_run.specs.Joining.{gone}
use Rattle.perc_run.specs.Sound.{AreOthers, entries_from}
use Rattle.perc_headline.proofs.Lookups.{at_place, changed, one_or_others, one_place}

-- ---- associations

-- A member's association is its number, from 1.
abbrev pub AreNumbered : List Member → Type 0
AreNumbered members = (place : ℕ) (m : Member) → slice_get members place ≡ Some m → m.association ≡ big_bytes 16 (place + 1)

-- Numbers of two octets have associations of their own.
pub same_number : (a b : ℕ) → a < 65536 → b < 65536 → big_bytes 16 a ≡ big_bytes 16 b → a ≡ b
same_number a b fits_a fits_b same =
    let low : a % 256 ≡ b % 256 = ap (λ (xs : List ℕ). get_or xs 15 0) same in
    let high : a / 256 ^ 1 % 256 ≡ b / 256 ^ 1 % 256 = ap (λ (xs : List ℕ). get_or xs 14 0) same in
    omega arith

-- Two members with one association are one.
pub same_member : (members : List Member) (m n : Member) → AreNumbered members → length members < 65535 → Contains members m → Contains members n
    → m.association ≡ n.association → m ≡ n
same_member members m n numbered few in_m in_n same =
    let below_m = in_m.1 in
    let below_n = in_n.1 in
    let place : in_m.0 + 1 ≡ in_n.0 + 1 = same_number (in_m.0 + 1) (in_n.0 + 1) (omega arith) (omega arith)
    (sym (numbered in_m.0 m (at_place members in_m.0 m in_m.1 in_m.2)) ∙ same ∙ numbered in_n.0 n (at_place members in_n.0 n in_n.1 in_n.2)) in
    one_place members m n in_m.0 in_n.0 (omega arith) in_m.1 in_m.2 in_n.2

-- The next number is nobody's.
pub next_is_new : (members : List Member) (m : Member) → AreNumbered members → length members < 65535 → Contains members m
    → bytes_eq m.association (big_bytes 16 (length members + 1)) ≡ false
next_is_new members m numbered few there =
    let below = there.1 in
    false_from_ne_true (bytes_eq m.association (big_bytes 16 (length members + 1))) λ same.
    let number : there.0 + 1 ≡ length members + 1 = same_number (there.0 + 1) (length members + 1) (omega arith) (omega arith)
    (sym (numbered there.0 m (at_place members there.0 m there.1 there.2)) ∙ (bytes_eq-Decides m.association (big_bytes 16 (length members + 1))).0 same) in
    absurd (omega arith)

-- ---- an entry

-- the entry of a member, by how many joined before
abbrev pub entry_at : Member → ℕ → Entry
entry_at m serial = record { association = m.association; serial = serial; client = m.client; server = m.server }

abbrev entry_in : Member → ℕ → List Entry → List Entry
entry_in m serial rest = cond m.present (entry_at m serial ∷ rest) rest

-- the members have the same entry
pub record SameEntry (m n : Member) : Type 0 where
  pub association : m.association ≡ n.association
  pub client : m.client ≡ n.client
  pub server : m.server ≡ n.server
  pub present : m.present ≡ n.present

-- ---- a change of members

pub changed_entry : (name : List ℕ) (change : Member → Member) → ((m : Member) → SameEntry (change m) m) → (m : Member) → SameEntry (changed name change m) m
changed_entry name change same m = at (has_name name m) where
  at : (b : Bool) → SameEntry (cond b (change m) m) m
  at true = same m
  at false = record { association = refl; client = refl; server = refl; present = refl }

pub entries_same : (f : Member → Member) (serial : ℕ) (members : List Member) → ((m : Member) → SameEntry (f m) m) → entries_from serial (map f members) ≡ entries_from serial members
entries_same f serial [] same = refl
entries_same f serial (m ∷ members) same =
    let is = same m in
    let rest = entries_same f (serial + 1) members same in
    λ i. cond (is.present i) (record { association = is.association i; serial = serial; client = is.client i; server = is.server i } ∷ rest i) (rest i)

-- what stands at a place of a list that was changed
pub map_back : {X Y : Type 0} (f : X → Y) (xs : List X) (k : ℕ) (y : Y) → slice_get (map f xs) k ≡ Some y → (x : X) × (slice_get xs k ≡ Some x) × (f x ≡ y)
map_back f [] k y is = absurd (cc)
map_back f (x ∷ xs) zero y is = (x, refl, cc)
map_back f (x ∷ xs) (suc k) y is = map_back f xs k y is

pub numbered_changed : (f : Member → Member) (members : List Member) → ((m : Member) → (f m).association ≡ m.association) → AreNumbered members → AreNumbered (map f members)
numbered_changed f members same numbered place n is =
    let it = map_back f members place n is in
    ap (λ (x : Member). x.association) (sym it.2) ∙ same it.0 ∙ numbered place it.0 it.1

-- ---- a member goes

-- A member has the name exactly where it has the association.
abbrev Agrees : List ℕ → List ℕ → Member → Type 0
Agrees name association m = has_name name m ≡ bytes_eq m.association association

out_first : (association : List ℕ) (e : Entry) (left : List Entry) (present : Bool) → is_of association e ≡ true
    → without association (cond present (e ∷ left) left) ≡ without association left
out_first association e left true is = rw is refl
out_first association e left false is = refl

kept_first : (association : List ℕ) (e : Entry) (left : List Entry) (present : Bool) → is_of association e ≡ false
    → without association (cond present (e ∷ left) left) ≡ cond present (e ∷ without association left) (without association left)
kept_first association e left true is = rw is refl
kept_first association e left false is = refl

one_gone : (association : List ℕ) (m : Member) (serial : ℕ) (rest left : List Entry) (named : Bool) → named ≡ bytes_eq m.association association → rest ≡ without association left
    → entry_in (cond named (gone m) m) serial rest ≡ without association (entry_in m serial left)
one_gone association m serial rest left true is same =
    same ∙ sym (out_first association (entry_at m serial) left m.present (sym is))
one_gone association m serial rest left false is same =
    ap (λ (es : List Entry). entry_in m serial es) same
    ∙ sym (kept_first association (entry_at m serial) left m.present (sym is))

entries_gone : (name association : List ℕ) (serial : ℕ) (members : List Member) → AllByRecursion (Agrees name association) members
    → entries_from serial (with_member name gone members) ≡ without association (entries_from serial members)
entries_gone name association serial [] agree = refl
entries_gone name association serial (m ∷ members) agree =
    one_gone association m serial (entries_from (serial + 1) (with_member name gone members)) (entries_from (serial + 1) members) (has_name name m) agree.0
    (entries_gone name association (serial + 1) members agree.1)

agrees_with : (members : List Member) (m n : Member) → AllPairs AreOthers members → AreNumbered members → length members < 65535 → Contains members m → Contains members n
    → Agrees n.name n.association m
agrees_with members m n others numbered few in_m in_n =
    elim (one_or_others members m n others in_m in_n) [
      | inl same ↦
          subst (λ (x : Member). Agrees n.name n.association x) (sym same) ((bytes_eq-Decides n.name n.name).1 refl ∙ sym ((bytes_eq-Decides n.association n.association).1 refl))
      | inr other ↦
          false_from_ne_true (has_name n.name m) (λ same. other.name (sym ((bytes_eq-Decides n.name m.name).0 same)))
          ∙ sym (false_from_ne_true (bytes_eq m.association n.association)
          (λ same. other.name (ap (λ (x : Member). x.name) (same_member members m n numbered few in_m in_n ((bytes_eq-Decides m.association n.association).0 same)))))
    ]

-- The entry of a member that leaves is taken out.
pub set_without : (members : List Member) (m : Member) → AllPairs AreOthers members → AreNumbered members → length members < 65535 → Contains members m
    → entries_from 0 (with_member m.name gone members) ≡ without m.association (entries_from 0 members)
set_without members m others numbered few there =
    entries_gone m.name m.association 0 members (recursion_from_All (Agrees m.name m.association) members
    (λ k d within. agrees_with members (get_or members k d) m others numbered few (Contains-get_or members k d within) there))

-- ---- a member more

-- It isn't of this association.
abbrev IsOther : List ℕ → Member → Type 0
IsOther association m = bytes_eq m.association association ≡ false

entries_stay : (association : List ℕ) (serial : ℕ) (members : List Member) → AllByRecursion (IsOther association) members
    → without association (entries_from serial members) ≡ entries_from serial members
entries_stay association serial [] others = refl
entries_stay association serial (m ∷ members) others =
    kept_first association (entry_at m serial) (entries_from (serial + 1) members) m.present others.0
    ∙ ap (λ (es : List Entry). entry_in m serial es) (entries_stay association (serial + 1) members others.1)

-- Nothing in the set is of the next association.
pub set_stays : (members : List Member) → AreNumbered members → length members < 65535
    → without (big_bytes 16 (length members + 1)) (entries_from 0 members) ≡ entries_from 0 members
set_stays members numbered few =
    entries_stay (big_bytes 16 (length members + 1)) 0 members (recursion_from_All (IsOther (big_bytes 16 (length members + 1))) members
    (λ k d within. next_is_new members (get_or members k d) numbered few (Contains-get_or members k d within)))

in_front : (e : Entry) (all left more : List Entry) (present : Bool) → all ≡ left ++ more → cond present (e ∷ all) all ≡ cond present (e ∷ left) left ++ more
in_front e all left more true same = ap (λ (es : List Entry). e ∷ es) same
in_front e all left more false same = same

-- The entry of one member more stands behind the others.
pub entries_push : (serial last : ℕ) (members : List Member) (m : Member) → last ≡ serial + length members
    → entries_from serial (members ++ m ∷ []) ≡ entries_from serial members ++ entries_from last (m ∷ [])
entries_push serial last [] m is = ap (λ (k : ℕ). entries_from k (m ∷ [])) (sym (is ∙ omega arith))
entries_push serial last (n ∷ members) m is =
    in_front (entry_at n serial) (entries_from (serial + 1) (members ++ m ∷ []))
    (entries_from (serial + 1) members) (entries_from last (m ∷ [])) n.present (entries_push (serial + 1) last members m (omega arith))

-- ---- how many

one_counted : (e : Entry) (m : Member) (es : List Entry) (members : List Member) (present : Bool) → m.present ≡ present → length es ≡ length (filter (λ (x : Member). x.present) members)
    → length (cond present (e ∷ es) es) ≡ length (filter (λ (x : Member). x.present) (m ∷ members))
one_counted e m es members true is same = rw is (omega arith)
one_counted e m es members false is same = rw is same

pub entries_count : (serial : ℕ) (members : List Member) → length (entries_from serial members) ≡ length (filter (λ (x : Member). x.present) members)
entries_count serial [] = refl
entries_count serial (m ∷ members) =
    one_counted (entry_at m serial) m (entries_from (serial + 1) members) members m.present refl
    (entries_count (serial + 1) members)
