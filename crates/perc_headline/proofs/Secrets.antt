-- Secrets that are issued: each has its SPI alone, and the table stays right for more of them.
use Rattle.std.proofs.Common.{◌≡◌, ℕ, suc, ◌+◌, ◌<◌, ◌≤◌, ◌⊎◌, inl, inr, List, [], ◌∷◌, ◌++◌, length, Option, Some, None, refl, sym, ap, ◌∙◌, subst, arith}
use Rattle.std.specs.Prelude.{◌==◌, All, Contains, MatchOption}
use Rattle.std.specs.List.{AllByRecursion, last_or}
use Rattle.std.specs.Option.{option_or}
use Rattle.std.proofs.lemmas.Bool.{eq-eqb, eqb-true, ne_eqb}
use Rattle.std.proofs.lemmas.Option.{same_Some}
use Rattle.std.proofs.lemmas.List.{length_push}
use Rattle.std.proofs.lemmas.List.Elements.{All-contains, All-push, All-weaker, recursion_from_All}
use Rattle.std.proofs.lemmas.List.Folds.{find-append}
use Rattle.perc_contexts.proofs.ReceivingLaws.{found_of}
use Rattle.perc_base.specs.declared.profile.Profile.{Profile}
use Rattle.perc_base.specs.Profile.{key_length}
use Rattle.perc_receiver.specs.Table.{IsRight, IsRightRow, IsRightWrap, IsSealedUnder, IsSecret, IsWrappedUnder, Row, Secret, Table, Wrap, secret_of}
use Rattle.perc_receiver.proofs.Once.{secret_more}
use Rattle.perc_run.specs.Joining.{newest}
use Rattle.perc_run.specs.Sound.{AreIssued, KeysFit}

-- ---- by SPI

-- The record that is found by an SPI has it, and is one of them.
pub record IsOfSpi (secrets : List Secret) (spi : ℕ) (s : Secret) : Type 0 where
  pub there : Contains secrets s
  pub spi_is : s.spi ≡ spi
  pub is : secret_of secrets s.spi ≡ Some s

pub found_secret : (secrets : List Secret) (spi : ℕ) (s : Secret) → secret_of secrets spi ≡ Some s → IsOfSpi secrets spi s
found_secret secrets spi s found =
    let it = found_of (λ (t : Secret). t.spi == spi) secrets s found in
    let same : s.spi ≡ spi = eqb-true s.spi spi it.1 in
    record { there = it.0; spi_is = same; is = ap (secret_of secrets) same ∙ found }

none_above : (secrets : List Secret) (spi : ℕ) → AllByRecursion (λ s. s.spi < spi) secrets → secret_of secrets spi ≡ None
none_above [] spi below = refl
none_above (s ∷ secrets) spi below =
    let lower = below.0 in
    rw (ne_eqb s.spi spi (λ same. omega arith)) (none_above secrets spi below.1)

new_found : (secrets : List Secret) (s : Secret) → All (λ t. t.spi < s.spi) secrets → secret_of (secrets ++ s ∷ []) s.spi ≡ Some s
new_found secrets s below =
    let none : secret_of secrets s.spi ≡ None = none_above secrets s.spi (recursion_from_All (λ (t : Secret). t.spi < s.spi) secrets below) in
    let one : secret_of (s ∷ []) s.spi ≡ Some s = rw (eq-eqb s.spi s.spi refl) refl in
    find-append (λ (t : Secret). t.spi == s.spi) secrets (s ∷ []) ∙ ap (λ (o : Option Secret). option_or o (secret_of (s ∷ []) s.spi)) none ∙ one

last_pushed : (o : Option Secret) (secrets : List Secret) (s : Secret) → last_or o (secrets ++ s ∷ []) ≡ Some s
last_pushed o [] s = refl
last_pushed o (t ∷ secrets) s = last_pushed (Some t) secrets s

-- ---- one more

-- A right record whose SPI is the next is issued.
pub issued_more : (secrets : List Secret) (s : Secret) → AreIssued secrets → IsSecret s → s.spi ≡ length secrets + 1 → AreIssued (secrets ++ s ∷ [])
issued_more secrets s issued right spi =
    let count : length (secrets ++ s ∷ []) ≡ length secrets + 1 = length_push secrets s in
    let within : (t : Secret) → t.spi ≤ length secrets → t.spi < s.spi = λ t low. omega arith in
    record {
      right = All-push IsSecret secrets s issued.right right;
      below = All-push (λ (t : Secret). t.spi ≤ length (secrets ++ s ∷ [])) secrets s
          (All-weaker (λ (t : Secret). t.spi ≤ length secrets) (λ (t : Secret). t.spi ≤ length (secrets ++ s ∷ [])) (λ t low. omega arith) secrets issued.below)
          (omega arith);
      last = λ t is.
          let same : s ≡ t = same_Some s t (sym (last_pushed None secrets s) ∙ is) in
          subst (λ (x : Secret). secret_of (secrets ++ s ∷ []) x.spi ≡ Some x) same
          (new_found secrets s (All-weaker (λ (t : Secret). t.spi ≤ length secrets) (λ (t : Secret). t.spi < s.spi) within secrets issued.below));
    }

-- The newest is one of them.
last_there : (o : Option Secret) (secrets : List Secret) (s : Secret) → last_or o secrets ≡ Some s → (o ≡ Some s) ⊎ Contains secrets s
last_there o [] s is = inl is
last_there o (t ∷ secrets) s is =
    elim (last_there (Some t) secrets s is) [
      | inl first ↦ inr (0, omega arith, same_Some t s first)
      | inr later ↦ inr (suc later.0, omega (arith, later.1), later.2)
    ]

pub newest_there : (secrets : List Secret) (s : Secret) → newest secrets ≡ Some s → Contains secrets s
newest_there secrets s is =
    elim (last_there None secrets s is) [
      | inl none ↦ absurd (cc)
      | inr there ↦ there
    ]

-- ---- the table

sealed_by : (row : Row) (found other : Option Secret) → ((s : Secret) → found ≡ Some s → other ≡ Some s) → MatchOption found ⊥ (IsSealedUnder row)
    → MatchOption other ⊥ (IsSealedUnder row)
sealed_by row None other goes is = absurd is
sealed_by row (Some s) other goes is = subst (λ (o : Option Secret). MatchOption o ⊥ (IsSealedUnder row)) (sym (goes s refl)) is

wrapped_by : (w : Wrap) (found other : Option Secret) → ((s : Secret) → found ≡ Some s → other ≡ Some s) → MatchOption found ⊥ (IsWrappedUnder w)
    → MatchOption other ⊥ (IsWrappedUnder w)
wrapped_by w None other goes is = absurd is
wrapped_by w (Some s) other goes is = subst (λ (o : Option Secret). MatchOption o ⊥ (IsWrappedUnder w)) (sym (goes s refl)) is

-- The table is right for other secrets where each SPI has the same.
pub right_for : (secrets others : List Secret) (table : Table) → ((spi : ℕ) (s : Secret) → secret_of secrets spi ≡ Some s → secret_of others spi ≡ Some s)
    → IsRight secrets table → IsRight others table
right_for secrets others table goes right = record {
  rows = All-weaker (IsRightRow secrets) (IsRightRow others) (λ row is. record {
    sealed = sealed_by row (secret_of secrets row.spi) (secret_of others row.spi) (goes row.spi) is.sealed;
    key = is.key;
    index = is.index;
    header = is.header;
    cut = is.cut;
    ssrc = is.ssrc;
    seq = is.seq;
    padded = is.padded;
    counted = is.counted;
    payload = is.payload;
  }) table.rows right.rows;
  one_row = right.one_row;
  wraps = All-weaker (IsRightWrap secrets) (IsRightWrap others) (λ w is. record {
    wrapped = wrapped_by w (secret_of secrets w.spi) (secret_of others w.spi) (goes w.spi) is.wrapped;
    key = is.key;
    ssrc = is.ssrc;
    roc = is.roc;
  }) table.wraps right.wraps;
}

pub right_more : (secrets more : List Secret) (table : Table) → IsRight secrets table → IsRight (secrets ++ more) table
right_more secrets more table right = right_for secrets (secrets ++ more) table (λ spi s is. secret_more secrets more spi s is) right

-- some issued secrets in front of all of them
front_by : (secrets granted : List Secret) (spi : ℕ) (s : Secret) (found : Option Secret) → All (λ t. secret_of secrets t.spi ≡ Some t) granted
    → secret_of granted spi ≡ found → secret_of secrets spi ≡ Some s → option_or found (secret_of secrets spi) ≡ Some s
front_by secrets granted spi s None known is all = all
front_by secrets granted spi s (Some t) known is all =
    let it = found_secret granted spi t is in
    let its : secret_of secrets t.spi ≡ Some t = All-contains (λ (x : Secret). secret_of secrets x.spi ≡ Some x) granted t known it.there in
    sym its ∙ ap (secret_of secrets) it.spi_is ∙ all

pub right_behind : (secrets granted : List Secret) (table : Table) → All (λ t. secret_of secrets t.spi ≡ Some t) granted → IsRight secrets table
    → IsRight (granted ++ secrets) table
right_behind secrets granted table known right =
    right_for secrets (granted ++ secrets) table
    (λ spi s is. find-append (λ (t : Secret). t.spi == spi) granted secrets ∙ front_by secrets granted spi s (secret_of granted spi) known refl is) right

-- ---- lengths of keys

-- A record whose key fits the head's profile is one more that fits.
pub fits_more : (profile : Profile) (found : Option Profile) (secrets : List Secret) (s : Secret) → found ≡ Some profile → KeysFit found secrets
    → length s.key ≡ key_length profile → KeysFit found (secrets ++ s ∷ [])
fits_more profile None secrets s e fits size = absurd (cc)
fits_more profile (Some other) secrets s e fits size =
    let same : other ≡ profile = same_Some other profile e in
    All-push (λ (t : Secret). length t.key ≡ key_length other) secrets s fits (size ∙ ap key_length (sym same))

pub fits_key : (profile : Profile) (found : Option Profile) (secrets : List Secret) (s : Secret) → found ≡ Some profile → KeysFit found secrets → Contains secrets s
    → length s.key ≡ key_length profile
fits_key profile None secrets s e fits there = absurd (cc)
fits_key profile (Some other) secrets s e fits there =
    All-contains (λ (t : Secret). length t.key ≡ key_length other) secrets s fits there ∙ ap key_length (same_Some other profile e)
