-- What stands in a list, and what the change of one member leaves of the others.
use Rattle.std.proofs.Common.{◌≡◌, ℕ, zero, suc, ◌<◌, ◌⊎◌, inl, inr, Bool, true, false, cond, List, [], ◌∷◌, ◌++◌, length, map, get_or, Some, refl, sym, ap, ◌∙◌, subst, arith}
use Rattle.std.specs.List.{slice_get}
use Rattle.std.specs.Prelude.{All, AllPairs, Contains, ◌≢◌}
use Rattle.std.proofs.lemmas.Bool.{and_parts, cases_order, false_from_ne_true}
use Rattle.std.proofs.lemmas.List.{get_or-map, get_or_default, length-map}
use Rattle.std.proofs.lemmas.List.Elements.{All-map, Contains-get_or}
use Rattle.std.proofs.lemmas.Slice.Eq.{bytes_eq-Decides}
use Rattle.perc_contexts.proofs.ReceivingLaws.{found_of}
use Rattle.perc_run.specs.State.{State, Member, has_name, is_present, member_named, with_member}
use Rattle.perc_run.specs.Sound.{AreOthers, IsSomebody}

-- ---- places

-- What stands at a place stays there behind more.
pub at_longer : {A : Type 0} (xs ys : List A) (k : ℕ) (x : A) → slice_get xs k ≡ Some x → slice_get (xs ++ ys) k ≡ Some x
at_longer [] ys k x is = grind arith
at_longer (y ∷ xs) ys zero x is = is
at_longer (y ∷ xs) ys (suc k) x is = at_longer xs ys k x is

-- One element more stands behind the others.
pub at_end : {A : Type 0} (xs : List A) (x : A) → slice_get (xs ++ x ∷ []) (length xs) ≡ Some x
at_end [] x = refl
at_end (y ∷ xs) x = at_end xs x

-- What stands at a place of a list with one element more stood there before, or is the new one.
pub at_push : {A : Type 0} (xs : List A) (y : A) (k : ℕ) (x : A) → slice_get (xs ++ y ∷ []) k ≡ Some x
    → ((k < length xs) × (slice_get xs k ≡ Some x)) ⊎ ((k ≡ length xs) × (y ≡ x))
at_push [] y zero x is = inr (refl, grind arith)
at_push [] y (suc k) x is = grind arith
at_push (z ∷ xs) y zero x is = inl (omega arith, is)
at_push (z ∷ xs) y (suc k) x is = let h = at_push xs y k x is in grind (arith, h)

-- What stands at a place is read there.
pub at_place : {A : Type 0} (xs : List A) (k : ℕ) (x : A) → k < length xs → get_or xs k x ≡ x → slice_get xs k ≡ Some x
at_place [] k x within is = absurd (omega arith)
at_place (y ∷ xs) zero x within is = ap Some is
at_place (y ∷ xs) (suc k) x within is = at_place xs k x (omega arith) is

pub place_of : {A : Type 0} (xs : List A) (k : ℕ) (x : A) → slice_get xs k ≡ Some x → (k < length xs) × (get_or xs k x ≡ x)
place_of [] k x is = absurd (cc)
place_of (y ∷ xs) zero x is = let same : y ≡ x = cc in (omega arith, same)
place_of (y ∷ xs) (suc k) x is = let it = place_of xs k x is in let within = it.0 in (omega arith, it.1)

pub contains_at : {A : Type 0} (xs : List A) (k : ℕ) (x : A) → slice_get xs k ≡ Some x → Contains xs x
contains_at xs k x is = let it = place_of xs k x is in (k, it.0, it.1)

-- A list of one element has that one.
pub contains_one : {A : Type 0} (y x : A) → Contains (y ∷ []) x → y ≡ x
contains_one y x (zero, within, is) = is
contains_one y x (suc k, within, is) = absurd (omega arith)

-- ---- two of a list

pub one_place : {X : Type 0} (xs : List X) (a b : X) (i j : ℕ) → i ≡ j → i < length xs → get_or xs i a ≡ a → get_or xs j b ≡ b → a ≡ b
one_place xs a b i j same within is_a is_b = sym is_a ∙ get_or_default xs i a b within ∙ ap (λ (k : ℕ). get_or xs k b) same ∙ is_b

pub two_places : {X : Type 0} (R : X → X → Type 0) (xs : List X) (a b : X) (i j : ℕ) → AllPairs R xs → i < j → j < length xs → get_or xs i a ≡ a → get_or xs j b ≡ b → R a b
two_places {X} R xs a b i j pairs below within is_a is_b =
    let second : get_or xs j a ≡ b = get_or_default xs j a b within ∙ is_b in
    subst (λ (y : X). R a y) second (subst (λ (x : X). R x (get_or xs j a)) is_a (pairs i j a below within))

-- Two of a list are one, or one stands before the other.
pub one_or_two : {X : Type 0} (R : X → X → Type 0) (xs : List X) (a b : X) → AllPairs R xs → Contains xs a → Contains xs b → (a ≡ b) ⊎ (R a b ⊎ R b a)
one_or_two R xs a b pairs in_a in_b =
    elim (cases_order in_a.0 in_b.0) [
      | inl same ↦ inl (one_place xs a b in_a.0 in_b.0 same in_a.1 in_a.2 in_b.2)
      | inr other ↦
          elim other [
            | inl before ↦ inr (inl (two_places R xs a b in_a.0 in_b.0 pairs before in_b.1 in_a.2 in_b.2))
            | inr behind ↦ inr (inr (two_places R xs b a in_b.0 in_a.0 pairs behind in_a.1 in_b.2 in_a.2))
          ]
    ]

pub contains_map : {X Y : Type 0} (f : X → Y) (xs : List X) (x : X) → Contains xs x → Contains (map f xs) (f x)
contains_map f xs x there =
    (there.0, subst (λ (n : ℕ). there.0 < n) (sym (length-map xs f)) there.1, get_or-map f xs there.0 x (f x) there.1 ∙ ap f there.2)

-- ---- members

-- Two of the members are one, or others.
pub one_or_others : (members : List Member) (m n : Member) → AllPairs AreOthers members → Contains members m → Contains members n → (m ≡ n) ⊎ AreOthers m n
one_or_others members m n others in_m in_n =
    elim (one_or_two AreOthers members m n others in_m in_n) [
      | inl same ↦ inl same
      | inr two ↦
          elim two [
            | inl before ↦ inr before
            | inr behind ↦ inr (record { name = λ same. behind.name (sym same); ssrc = λ same. behind.ssrc (sym same) })
          ]
    ]

-- the member that is found by a name
pub record IsFound (members : List Member) (name : List ℕ) (m : Member) : Type 0 where
  pub there : Contains members m
  pub name_is : m.name ≡ name

pub found_by_name : (s : State) (name : List ℕ) (m : Member) → member_named name s ≡ Some m → IsFound s.members name m
found_by_name s name m found =
    let it = found_of (is_present name) s.members m found in
    record { there = it.0; name_is = sym ((bytes_eq-Decides name m.name).0 (and_parts m.present (has_name name m) it.1).1) }

has_own : (m : Member) → has_name m.name m ≡ true
has_own m = (bytes_eq-Decides m.name m.name).1 refl

lacks_other : (m n : Member) → m.name ≢ n.name → has_name n.name m ≡ false
lacks_other m n other = false_from_ne_true (has_name n.name m) (λ same. other (sym ((bytes_eq-Decides n.name m.name).0 same)))

-- the change that `with_member` makes at a member
abbrev pub changed : List ℕ → (Member → Member) → Member → Member
changed name change m = cond (has_name name m) (change m) m

at_one : (Q : Member → Type 0) (change : Member → Member) (m n : Member) → m ≡ n → Q (change n) → Q (changed n.name change m)
at_one Q change m n same q =
    subst (λ (x : Member). Q (changed n.name change x)) (sym same) (subst (λ (b : Bool). Q (cond b (change n) n)) (sym (has_own n)) q)

at_other : (Q : Member → Type 0) (change : Member → Member) (m n : Member) → m.name ≢ n.name → Q m → Q (changed n.name change m)
at_other Q change m n other q = subst (λ (b : Bool). Q (cond b (change m) m)) (sym (lacks_other m n other)) q

-- What holds of each member holds after the change of one.
pub changed_all : (P Q : Member → Type 0) (n : Member) (change : Member → Member) (members : List Member) → AllPairs AreOthers members → Contains members n
    → All P members → (P n → Q (change n)) → ((m : Member) → AreOthers m n → P m → Q m) → All Q (with_member n.name change members)
changed_all P Q n change members others there all one rest =
    All-map Q (changed n.name change) members λ k d within.
    let m : Member = get_or members k d in
    let p : P m = all k d within in
    elim (one_or_others members m n others (Contains-get_or members k d within) there) [
      | inl same ↦ at_one Q change m n same (one (subst P same p))
      | inr other ↦ at_other Q change m n other.name (rest m other p)
    ]

-- The change keeps names and SSRCs.
pub record Keeps (change : Member → Member) : Type 0 where
  pub name : (m : Member) → (change m).name ≡ m.name
  pub ssrc : (m : Member) → (change m).ssrc ≡ m.ssrc

changed_name : (name : List ℕ) (change : Member → Member) (m : Member) → Keeps change → (changed name change m).name ≡ m.name
changed_name name change m keeps = at (has_name name m) where
  at : (b : Bool) → (cond b (change m) m).name ≡ m.name
  at true = keeps.name m
  at false = refl

changed_ssrc : (name : List ℕ) (change : Member → Member) (m : Member) → Keeps change → (changed name change m).ssrc ≡ m.ssrc
changed_ssrc name change m keeps = at (has_name name m) where
  at : (b : Bool) → (cond b (change m) m).ssrc ≡ m.ssrc
  at true = keeps.ssrc m
  at false = refl

others_by : (name : List ℕ) (change : Member → Member) (m n : Member) → Keeps change → AreOthers m n → AreOthers (changed name change m) (changed name change n)
others_by name change m n keeps others = record {
  name = λ same. others.name (sym (changed_name name change m keeps) ∙ same ∙ changed_name name change n keeps);
  ssrc = λ same. others.ssrc (sym (changed_ssrc name change m keeps) ∙ same ∙ changed_ssrc name change n keeps);
}

map_at : (f : Member → Member) (xs : List Member) (k : ℕ) (d : Member) → k < length xs → get_or (map f xs) k d ≡ f (get_or xs k d)
map_at f xs k d within =
    get_or_default (map f xs) k d (f d) (subst (λ (n : ℕ). k < n) (sym (length-map xs f)) within) ∙ get_or-map f xs k d (f d) within

pub others_changed : (name : List ℕ) (change : Member → Member) (members : List Member) → Keeps change → AllPairs AreOthers members
    → AllPairs AreOthers (with_member name change members)
others_changed name change members keeps others i j d below within =
    let f : Member → Member = changed name change in
    let second : j < length members = subst (λ (n : ℕ). j < n) (length-map members f) within in
    let first : i < length members = omega arith in
    let one = map_at f members i d first in
    let two = map_at f members j d second in
    let it = others_by name change (get_or members i d) (get_or members j d) keeps (others i j d below second) in
    subst (λ (x : Member). AreOthers x (get_or (map f members) j d)) (sym one) (subst (λ (y : Member). AreOthers (f (get_or members i d)) y) (sym two) it)

-- Somebody stays somebody.
pub somebody_changed : (P : Member → Type 0) (name : List ℕ) (change : Member → Member) (members : List Member) → ((m : Member) → P m → P (change m))
    → IsSomebody members P → IsSomebody (with_member name change members) P
somebody_changed P name change members keeps it = record {
  member = changed name change it.member;
  there = contains_map (changed name change) members it.member it.there;
  is = at (has_name name it.member);
} where
  at : (b : Bool) → P (cond b (change it.member) it.member)
  at true = keeps it.member it.is
  at false = it.is
