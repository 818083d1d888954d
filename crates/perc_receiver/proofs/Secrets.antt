-- Secrets that are found by their SPIs: those that a receiver holds were issued.
use Rattle.std.proofs.Common.{◌≡◌, ℕ, ◌<◌, zero, suc, Bool, true, false, ◌||◌, List, [], ◌∷◌, length, get_or, Some, refl, ap, ◌∙◌, subst, arith}
use Rattle.std.specs.Prelude.{◌==◌, Contains, find}
use Rattle.std.proofs.lemmas.Bool.{eqb-true}
use Rattle.std.proofs.lemmas.List.Elements.{All-contains}
use Rattle.perc_contexts.specs.Receiving.{is_live}
use Rattle.perc_contexts.proofs.ReceivingLaws.{found_of}
use Rattle.perc_receiver.specs.Table.{Secret, IsSecret, secret_of}
use Rattle.perc_receiver.specs.Receiver.{Receiver, live_of}
use Rattle.perc_receiver.specs.Calls.{IsHolding}

-- ---- what is found

found_at : {X : Type 0} (test : X → Bool) (y : X) (xs : List X) (passes : Bool) → test y ≡ passes
    → (passes ≡ false → (z : X) × (find test xs ≡ Some z)) → (z : X) × (find test (y ∷ xs) ≡ Some z)
found_at test y xs true e rest = (y, rw e refl)
found_at test y xs false e rest = let later = rest refl in (later.0, rw e later.1)

found_in : {X : Type 0} (test : X → Bool) (xs : List X) (k : ℕ) (x : X) → k < length xs → get_or xs k x ≡ x → test x ≡ true → (z : X) × (find test xs ≡ Some z)
found_in test [] k x within is passes = absurd (omega arith)
found_in test (y ∷ xs) zero x within is passes = (y, rw (ap test is ∙ passes) refl)
found_in test (y ∷ xs) (suc k) x within is passes =
    found_at test y xs (test y) refl (λ _. found_in test xs k x (omega arith) is passes)

-- Where one of a list passes a test, one is found.
pub some_found : {X : Type 0} (test : X → Bool) (xs : List X) (x : X) → Contains xs x → test x ≡ true → (z : X) × (find test xs ≡ Some z)
some_found test xs x there passes = found_in test xs there.0 x there.1 there.2 passes

-- ---- secrets

live_at : (s : Secret) (secrets : List Secret) (spi : ℕ) (here : Bool) → (s.spi == spi) ≡ here → (here || is_live (live_of secrets) spi) ≡ true
    → (is_live (live_of secrets) spi ≡ true → (t : Secret) × (secret_of secrets spi ≡ Some t)) → (t : Secret) × (secret_of (s ∷ secrets) spi ≡ Some t)
live_at s secrets spi true e h rest = (s, rw e refl)
live_at s secrets spi false e h rest = let later = rest h in (later.0, rw e later.1)

-- A live SPI has its secret.
pub live_secret : (secrets : List Secret) (spi : ℕ) → is_live (live_of secrets) spi ≡ true → (s : Secret) × (secret_of secrets spi ≡ Some s)
live_secret [] spi h = absurd (cc)
live_secret (s ∷ secrets) spi h = live_at s secrets spi (s.spi == spi) refl h (live_secret secrets spi)

-- the secret of a live SPI, which was issued
pub record IsHeld (issued held : List Secret) (spi : ℕ) (s : Secret) : Type 0 where
  pub held_is : secret_of held spi ≡ Some s
  pub issued_is : secret_of issued spi ≡ Some s
  pub right : IsSecret s

pub held_secret : (issued : List Secret) (r : Receiver) (spi : ℕ) → IsHolding issued r → is_live (live_of r.secrets) spi ≡ true
    → (s : Secret) × IsHeld issued r.secrets spi s
held_secret issued r spi holds live =
    let found = live_secret r.secrets spi live in
    let s : Secret = found.0 in
    let it = found_of (λ (t : Secret). t.spi == spi) r.secrets s found.1 in
    let same : s.spi ≡ spi = eqb-true s.spi spi it.1 in (
      s,
      record {
        held_is = found.1;
        issued_is = subst (λ (n : ℕ). secret_of issued n ≡ Some s) same (All-contains (λ (t : Secret). secret_of issued t.spi ≡ Some t) r.secrets s holds.known it.0);
        right = All-contains IsSecret r.secrets s holds.secrets.right it.0;
      },
    )
