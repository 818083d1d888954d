-- What octets are, from the tests on them.
use Rattle.std.proofs.Common.{◌≡◌, ◌≢◌, ℕ, ◌+◌, ◌-◌, ◌*◌, ◌/◌, ◌%◌, ◌^◌, ◌<◌, ◌≤◌, ◌↔◌, IsTrue, inl, inr, Bool, true, false, eqb, leb}
use Rattle.std.proofs.Common.{cond, ◌&&◌, List, [], ◌∷◌, ◌++◌, length, take, drop, get_or, Some, None, refl, sym, ap, subst, ◌∙◌, arith}
use Rattle.std.specs.List.{find}
use Rattle.std.proofs.lemmas.Bool.{eqb-true, leb-true, cases_eq, and_parts}
use Rattle.std.proofs.lemmas.List.{get_or-drop, take_rest}
use Rattle.byteorder.specs.Endian.{big_bytes, big_number}
use Rattle.perc_base.specs.declared.profile.Profile.TheVariants.{Aes128, Aes256}
use Rattle.perc_tunnel.specs.declared.decoder.TunnelReason.{TunnelReason}
use Rattle.perc_tunnel.specs.declared.decoder.TunnelReason.TheVariants.{Kind, Length, Body}
use Rattle.perc_tunnel.specs.declared.forms.Form.{Form}
use Rattle.perc_tunnel.specs.declared.forms.Form.TheVariants.{Profiles, Version, Keys, Record, Ended}
use Rattle.perc_tunnel.specs.declared.forms.Standing.TheVariants.{Whole, Fault}
use Rattle.perc_octets.specs.Octets.{AreOctets}
use Rattle.perc_octets.proofs.Octets.{AreOctets-nil, AreOctets-take}
use Rattle.perc_tunnel.specs.Stream.{IsPart, IsKind, IsLength, BeginsLength, HasReason}
use Rattle.perc_tunnel.specs.Forms.{kind_of, Lengths, Exactly, AtLeast, OddFrom, IsAmong, is_among, lengths_of, HasLength, forms, form_at, HoldEach, fixed_in_body, Suits, IsStanding, IsShortKind}
use Rattle.perc_tunnel.proofs.Suiting.{form_told, length_fits, length_is, length_form, kind_is, begins_suits, part_suits, suits_part, whole_front}

-- ---- the form that tests tell

is_some : {A : Type 0} (x y : A) → Some x ≡ Some y → x ≡ y
is_some x y e = cc

not_some : {A : Type 0} (x : A) → None ≡ Some x → ⊥
not_some x e = cc

among : (l : Lengths) (n : ℕ) → is_among l n ≡ true → n < 2 ^ 16 → IsAmong l n
among (Exactly m) n is small = eqb-true n m is
among (AtLeast m) n is small = (leb-true m n is, small)
among (OddFrom m) n is small = let both = and_parts (eqb (n % 2) 1) (leb m n) is in (eqb-true (n % 2) 1 both.0, leb-true m n both.1, small)

found_first : (p : Form → Bool) (x form : Form) (xs : List Form) (b : Bool) → p x ≡ b → (find p xs ≡ Some form → p form ≡ true) → cond b (Some x) (find p xs) ≡ Some form
    → p form ≡ true
found_first p x form xs true is later e = ap p (sym (is_some x form e)) ∙ is
found_first p x form xs false is later e = later e

-- what is found passes
found : (p : Form → Bool) (xs : List Form) (form : Form) → find p xs ≡ Some form → p form ≡ true
found p [] form e = absurd (not_some form e)
found p (x ∷ xs) form e = found_first p x form xs (p x) refl (found p xs form) e

pub form_at_is : (kind n : ℕ) (form : Form) → form_at kind n ≡ Some form → n < 2 ^ 16 → (kind_of form ≡ kind) × HasLength form n
form_at_is kind n form e small =
    let both = and_parts (eqb kind (kind_of form)) (is_among (lengths_of form) n) (found (λ (f : Form). eqb kind (kind_of f) && is_among (lengths_of f) n) forms form e) in
    (sym (eqb-true kind (kind_of form) both.0), among (lengths_of form) n both.1 small)

-- ---- what suits no form

-- No form suits the octets.
abbrev pub SuitsNone : List ℕ → Type 0
SuitsNone octets = (form : Form) (n : ℕ) → Suits form n octets → ⊥

pub faulty : (octets : List ℕ) (reason : TunnelReason) → SuitsNone octets → HasReason octets reason → IsStanding octets (Fault reason)
faulty octets reason none has = (
  λ b. let s = begins_suits octets b in none s.0 s.1 s.2,
  λ p. let s = part_suits octets p in none s.0 s.1 s.2,
  has,
)

-- what suits a form begins with its type, and then with a length of it
suits_kind : (form : Form) (n x : ℕ) (xs : List ℕ) → Suits form n (x ∷ xs) → x ≡ kind_of form
suits_kind form n x xs s = s.fixed.0 (omega arith)

suits_begins : (form : Form) (n x : ℕ) (xs : List ℕ) → Suits form n (x ∷ xs) → BeginsLength (kind_of form) xs
suits_begins form n x [] s = (n, big_bytes 2 n, length_is form n s.length, refl)
suits_begins form n x (h ∷ []) s =
    let high : h ≡ n / 256 % 256 = s.fixed.1.0 (omega arith) in
    (n, n % 256 ∷ [], length_is form n s.length, ap (λ (z : ℕ). z ∷ n % 256 ∷ []) (sym high))
suits_begins form n x (h ∷ l ∷ xs) s =
    let high : h ≡ n / 256 % 256 = s.fixed.1.0 (omega arith) in
    let low : l ≡ n % 256 = s.fixed.1.1.0 (omega arith) in
    (n, [], length_is form n s.length, ap (λ (z : ℕ). z ∷ n % 256 ∷ []) (sym high) ∙ ap (λ (z : ℕ). h ∷ z ∷ []) (sym low))

begins_not_length : (x : ℕ) (xs : List ℕ) → (BeginsLength x xs → ⊥) → SuitsNone (x ∷ xs)
begins_not_length x xs none form n s =
    let kind : x ≡ kind_of form = suits_kind form n x xs s in
    none (subst (λ k. BeginsLength k xs) (sym kind) (suits_begins form n x xs s))

-- two octets of a length are the length
two_told : (n h l : ℕ) (more : List ℕ) → n < 2 ^ 16 → big_bytes 2 n ≡ (h ∷ l ∷ []) ++ more → n ≡ 256 * h + l
two_told n h l more small e =
    let high : n / 256 % 256 ≡ h = ap (λ (r : List ℕ). get_or r 0 0) e in
    let low : n % 256 ≡ l = ap (λ (r : List ℕ). get_or r 1 0) e in
    omega arith

-- ---- no octet, and a type that is none

pub judged_empty : (octets : List ℕ) → length octets ≡ 0 → IsPart octets
judged_empty (x ∷ xs) none = absurd (omega arith)
judged_empty [] none =
    let s : Suits Version 1 [] = record { length = refl; fixed = (λ lt. absurd (omega arith), (λ lt. absurd (omega arith), (λ lt. absurd (omega arith), tt))) } in
    suits_part Version 1 [] AreOctets-nil s (omega arith)

pub judged_kind : (octets : List ℕ) → 0 < length octets → (IsKind (get_or octets 0 0) → ⊥) → IsStanding octets (Fault Kind)
judged_kind [] some none = absurd (omega arith)
judged_kind (x ∷ xs) some none =
    faulty (x ∷ xs) Kind (λ form n s. none (subst IsKind (sym (suits_kind form n x xs s)) (kind_is form))) none

-- ---- one octet of the length at most

-- a form of the type, and a length of it that begins with this octet
short_form : (x h : ℕ) → IsKind x → h < 256 → (IsShortKind x → h ≡ 0) → (form : Form) × (n : ℕ) × (kind_of form ≡ x) × HasLength form n × (n / 256 % 256 ≡ h)
short_form x h kind small zero = elim (cases_eq x 1) [
  | inl e ↦ (Profiles, 256 * h + 5, sym e, (omega arith, omega arith, omega arith), omega arith)
  | inr n1 ↦ elim (cases_eq x 2) [
    | inl e ↦ let none : h ≡ 0 = zero (inl e) in (Version, 1, sym e, refl, omega arith)
    | inr n2 ↦ elim (cases_eq x 3) [
      | inl e ↦ let none : h ≡ 0 = zero (inr (inl e)) in (Keys Aes128, 79, sym e, refl, omega arith)
      | inr n3 ↦ elim (cases_eq x 4) [
        | inl e ↦ (Record, 256 * h + 19, sym e, (omega arith, omega arith), omega arith)
        | inr n4 ↦ let e : x ≡ 5 = omega arith in let none : h ≡ 0 = zero (inr (inr e)) in (Ended, 16, sym e, refl, omega arith)
      ]
    ]
  ]
]

-- the octets behind the length
behind_three : (form : Form) (n : ℕ) (xs : List ℕ) → length xs < 3 → HoldEach (fixed_in_body form n) xs
behind_three Profiles n xs short = (λ lt. absurd (omega arith), (λ lt. absurd (omega arith), tt))
behind_three Version n xs short = tt
behind_three (Keys profile) n xs short = (
  λ lt. absurd (omega arith),
  (
    λ lt. absurd (omega arith),
    (
      λ lt. absurd (omega arith),
      (λ lt. absurd (omega arith), (λ lt. absurd (omega arith), (λ lt. absurd (omega arith), (λ lt. absurd (omega arith), tt)))),
    ),
  ),
)
behind_three Record n xs short = (λ lt. absurd (omega arith), (λ lt. absurd (omega arith), tt))
behind_three Ended n xs short = tt

pub judged_short_part : (octets : List ℕ) → 0 < length octets → length octets < 3 → AreOctets octets → IsKind (get_or octets 0 0)
    → (length octets ≡ 2 → IsShortKind (get_or octets 0 0) → get_or octets 1 0 ≡ 0) → IsPart octets
judged_short_part [] some short fits kind zero = absurd (omega arith)
judged_short_part (x ∷ []) some short fits kind zero =
    let f = short_form x 0 kind (omega arith) (λ _. refl) in
    let s : Suits f.0 f.1 (x ∷ []) = record {
      length = f.3;
      fixed = (λ _. sym f.2, (λ lt. absurd (omega arith), (λ lt. absurd (omega arith), behind_three f.0 f.1 (x ∷ []) (omega arith))));
    } in
    suits_part f.0 f.1 (x ∷ []) fits s (omega arith)
judged_short_part (x ∷ h ∷ []) some short fits kind zero =
    let f = short_form x h kind (fits 1) (zero refl) in
    let s : Suits f.0 f.1 (x ∷ h ∷ []) = record {
      length = f.3;
      fixed = (λ _. sym f.2, (λ _. sym f.4, (λ lt. absurd (omega arith), behind_three f.0 f.1 (x ∷ h ∷ []) (omega arith))));
    } in
    suits_part f.0 f.1 (x ∷ h ∷ []) fits s (omega arith)
judged_short_part (x ∷ h ∷ l ∷ xs) some short fits kind zero = absurd (omega arith)

-- a type that has short bodies alone
short_below : (x n : ℕ) → IsShortKind x → IsLength x n → n < 256
short_below x n short is = let f = length_form x n is in below f.0 f.1 f.2
  where
    not_one : x ≡ 1 → ⊥
    not_one k = elim short [ inl a ↦ omega arith | inr a ↦ elim a [ inl b ↦ omega arith | inr b ↦ omega arith ] ]

    not_four : x ≡ 4 → ⊥
    not_four k = elim short [ inl a ↦ omega arith | inr a ↦ elim a [ inl b ↦ omega arith | inr b ↦ omega arith ] ]

    below : (form : Form) → kind_of form ≡ x → HasLength form n → n < 256
    below Profiles k h = absurd (not_one (sym k))
    below Version k h = omega (arith, h)
    below (Keys Aes128) k h = omega (arith, h)
    below (Keys Aes256) k h = omega (arith, h)
    below Record k h = absurd (not_four (sym k))
    below Ended k h = omega (arith, h)

short_is_kind : (x : ℕ) → IsShortKind x → IsKind x
short_is_kind x short =
    elim short [ inl a ↦ (omega arith, omega arith) | inr a ↦ elim a [ inl b ↦ (omega arith, omega arith) | inr b ↦ (omega arith, omega arith) ] ]

pub judged_short_fault : (octets : List ℕ) → length octets ≡ 2 → get_or octets 1 0 ≢ 0 → IsShortKind (get_or octets 0 0) → IsStanding octets (Fault Length)
judged_short_fault [] two some short = absurd (omega arith)
judged_short_fault (x ∷ []) two some short = absurd (omega arith)
judged_short_fault (x ∷ h ∷ []) two some short =
    let no_length : BeginsLength x (h ∷ []) → ⊥ = λ b.
    let below : b.0 < 256 = short_below x b.0 short b.2 in
    let high : b.0 / 256 % 256 ≡ h = ap (λ (r : List ℕ). get_or r 0 0) b.3 in
    some (omega arith) in
    faulty (x ∷ h ∷ []) Length (begins_not_length x (h ∷ []) no_length) (short_is_kind x short, no_length)
judged_short_fault (x ∷ h ∷ l ∷ xs) two some short = absurd (omega arith)

-- ---- the whole length

-- the length that stands behind the type
abbrev pub IsNumber : ℕ → List ℕ → Type 0
IsNumber n octets = n ≡ 256 * get_or octets 1 0 + get_or octets 2 0

pub judged_length : (octets : List ℕ) (n : ℕ) → 3 ≤ length octets → IsNumber n octets → IsKind (get_or octets 0 0) → form_at (get_or octets 0 0) n ≡ None
    → IsStanding octets (Fault Length)
judged_length [] n long number kind none = absurd (omega arith)
judged_length (x ∷ []) n long number kind none = absurd (omega arith)
judged_length (x ∷ h ∷ []) n long number kind none = absurd (omega arith)
judged_length (x ∷ h ∷ l ∷ xs) n long number kind none =
    let no_length : BeginsLength x (h ∷ l ∷ xs) → ⊥ = λ b.
    let f = length_form x b.0 b.2 in
    let same : b.0 ≡ n = two_told b.0 h l b.1 (length_fits f.0 b.0 f.2) b.3 ∙ sym number in
    let is : form_at x n ≡ Some f.0 = ap (form_at x) (sym same) ∙ ap (λ (k : ℕ). form_at k b.0) (sym f.1) ∙ form_told f.0 b.0 f.2 in
    not_some f.0 (sym none ∙ is) in
    faulty (x ∷ h ∷ l ∷ xs) Length (begins_not_length x (h ∷ l ∷ xs) no_length) (kind, no_length)

-- the octets, whose type and length tell the form
pub record Tests (octets : List ℕ) (form : Form) (n : ℕ) : Type 0 where
  pub long : 3 ≤ length octets
  pub each : AreOctets octets
  pub number : IsNumber n octets
  pub told : form_at (get_or octets 0 0) n ≡ Some form

small_number : (octets : List ℕ) (form : Form) (n : ℕ) → Tests octets form n → (get_or octets 1 0 < 256) × (get_or octets 2 0 < 256) × (n < 2 ^ 16)
small_number octets form n t =
    let long = t.long in
    let number = t.number in
    let h : get_or octets 1 0 < 256 = t.each 1 in
    let l : get_or octets 2 0 < 256 = t.each 2 in
    (h, l, omega arith)

pub tests_suit : (octets : List ℕ) (form : Form) (n : ℕ) → Tests octets form n → HoldEach (fixed_in_body form n) octets → Suits form n octets
tests_suit octets form n t held =
    let b = small_number octets form n t in
    let number = t.number in
    let is = form_at_is (get_or octets 0 0) n form t.told b.2 in
    let high : get_or octets 1 0 ≡ n / 256 % 256 = omega (arith, b.0, b.1) in
    let low : get_or octets 2 0 ≡ n % 256 = omega (arith, b.0, b.1) in
    record { length = is.1; fixed = (λ _. sym is.0, (λ _. high, (λ _. low, held))) }

pub judged_part : (octets : List ℕ) (form : Form) (n : ℕ) → Tests octets form n → HoldEach (fixed_in_body form n) octets → length octets < 3 + n → IsPart octets
judged_part octets form n t held short = suits_part form n octets t.each (tests_suit octets form n t held) short

pub judged_whole : (octets : List ℕ) (form : Form) (n : ℕ) → Tests octets form n → HoldEach (fixed_in_body form n) octets → 3 + n ≤ length octets
    → IsStanding octets (Whole form (3 + n))
judged_whole octets form n t held fits = (fits, whole_front form n octets (tests_suit octets form n t held) fits, AreOctets-take (3 + n) octets t.each)

pub judged_body : (octets : List ℕ) (form : Form) (n : ℕ) → Tests octets form n → IsKind (get_or octets 0 0) → (HoldEach (fixed_in_body form n) octets → ⊥)
    → IsStanding octets (Fault Body)
judged_body [] form n t kind none = let long = t.long in absurd (omega arith)
judged_body (x ∷ []) form n t kind none = let long = t.long in absurd (omega arith)
judged_body (x ∷ h ∷ []) form n t kind none = let long = t.long in absurd (omega arith)
judged_body (x ∷ h ∷ l ∷ xs) form n t kind none =
    let octets : List ℕ = x ∷ h ∷ l ∷ xs in
    let b = small_number octets form n t in
    let number : n ≡ 256 * h + l = t.number in
    let is = form_at_is x n form t.told b.2 in
    let high : n / 256 % 256 ≡ h = omega (arith, b.0, b.1) in
    let low : n % 256 ≡ l = omega (arith, b.0, b.1) in
    let begins : BeginsLength x (h ∷ l ∷ xs) = (
      n,
      [],
      subst (λ k. IsLength k n) is.0 (length_is form n is.1),
      ap (λ (z : ℕ). z ∷ n % 256 ∷ []) high ∙ ap (λ (z : ℕ). h ∷ z ∷ []) low,
    ) in
    let others : SuitsNone octets = λ other k s.
    let below : k < 2 ^ 16 = length_fits other k s.length in
    let k-high : h ≡ k / 256 % 256 = s.fixed.1.0 (omega arith) in
    let k-low : l ≡ k % 256 = s.fixed.1.1.0 (omega arith) in
    let same : k ≡ n = omega arith in
    let told : Some other ≡ Some form =
    sym (form_told other k s.length) ∙ ap (λ (z : ℕ). form_at z k) (sym (suits_kind other k x (h ∷ l ∷ xs) s)) ∙ ap (form_at x) same ∙ t.told in
    let form_same : other ≡ form = is_some other form told in
    let held : HoldEach (fixed_in_body other n) octets = subst (λ z. HoldEach (fixed_in_body other z) octets) same s.fixed.1.1.1 in
    none (subst (λ f. HoldEach (fixed_in_body f n) octets) form_same held) in
    faulty octets Body others (kind, begins)

-- ---- what calls tell

pub refuted : {P : Type 0} (b : Bool) → (IsTrue b ↔ P) → b ≡ false → P → ⊥
refuted b told is p = let t = told.1 p in cc

pub number_read : (octets : List ℕ) (n : ℕ) → n ≡ big_number 2 (take (length octets - 1) (drop 1 octets)) → IsNumber n octets
number_read octets n is =
    let e : n ≡ big_number 2 (drop 1 octets) = is ∙ ap (big_number 2) (take_rest octets 1) in
    let high = get_or-drop 1 octets 0 0 in
    let low = get_or-drop 1 octets 1 0 in
    omega (arith, e, high, low)
