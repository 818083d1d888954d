-- Laws of the live SPIs: they rise, and one that went never comes back.
use Rattle.std.proofs.Common.{◌≡◌, ℕ, suc, zero, ◌+◌, ◌<◌, ◌≤◌, Bool, true, false, ◌||◌, List, [], ◌∷◌, ◌++◌, drop, Option, Some, None, ◌⊎◌, inl, inr, refl, ◌∙◌, sym, subst, arith}
use Rattle.std.specs.Prelude.{◌==◌, nat_le, IfSome, MatchOption}
use Rattle.std.specs.List.{AllByRecursion, last_or}
use Rattle.std.specs.List.Sorted.{IsStrictlyIncreasing}
use Rattle.std.proofs.lemmas.Bool.{or_cases, eqb-true, leb-false, or_right, or_left}
use Rattle.std.proofs.lemmas.List.Folds.{list_any-append}
use Rattle.std.proofs.lemmas.List.Kept.{AllPairs-from_increasing}
use Rattle.perc_contexts.specs.Receiving.{Receiving, latest, is_live, still_live, spi_answer, renewed}
use Rattle.perc_contexts.specs.History.{Call, Renew, Commit, after_renewal, after_call, after_calls, AreCalls, NeverAgain}
use Rattle.perc_contexts.proofs.Names.{Pairs, pairs-from, pairs-to}

abbrev pub Rises : List ℕ → Type 0
Rises live = Pairs (λ s t. s < t) live

pub rises : (live : List ℕ) → IsStrictlyIncreasing live → Rises live
rises live h = pairs-from (λ s t. s < t) live (AllPairs-from_increasing live h)

pub increasing : (live : List ℕ) → Rises live → IsStrictlyIncreasing live
increasing live h = λ k within. pairs-to (λ s t. s < t) live h k (k + 1) 0 (omega arith) within

-- ---- the latest

-- what the latest is, and that none is above it
record IsLatest (live : List ℕ) (last : ℕ) : Type 0 where
  is : latest live ≡ Some last
  above : AllByRecursion (λ s. s ≤ last) live

last_of : (x : ℕ) (xs : List ℕ) → Rises (x ∷ xs) → (last : ℕ) × (last_or (Some x) xs ≡ Some last) × AllByRecursion (λ s. s ≤ last) (x ∷ xs)
last_of x [] h = (x, refl, (omega arith, tt))
last_of x (y ∷ ys) h = let rest = last_of y ys h.1 in (rest.0, rest.1, (omega (arith, h.0.0, rest.2.0), rest.2))

pub at_live : (P : ℕ → Type 0) (live : List ℕ) (spi : ℕ) → AllByRecursion P live → is_live live spi ≡ true → P spi
at_live P [] spi all h = absurd (cc)
at_live P (s ∷ live) spi all h =
    elim (or_cases (s == spi) (is_live live spi) h) [
      | inl here ↦ subst P (eqb-true s spi here) all.0
      | inr later ↦ at_live P live spi all.1 later
    ]

-- A live SPI isn't above the latest.
pub live_latest : (live : List ℕ) (spi : ℕ) → Rises live → is_live live spi ≡ true → MatchOption (latest live) ⊥ (λ last. spi ≤ last)
live_latest [] spi h there = absurd (cc)
live_latest (x ∷ xs) spi h there =
    let last = last_of x xs h in rw last.1 (at_live (λ s. s ≤ last.0) (x ∷ xs) spi last.2 there)

pub last_push : (o : Option ℕ) (xs : List ℕ) (x : ℕ) → last_or o (xs ++ x ∷ []) ≡ Some x
last_push o [] x = refl
last_push o (y ∷ ys) x = last_push (Some y) ys x

-- ---- one more SPI

-- One SPI more is above all.
pub record IsAbove (live : List ℕ) (spi : ℕ) : Type 0 where
  pub above : MatchOption (latest live) (live ≡ []) (λ last. last < spi)

above_all : (live : List ℕ) (spi : ℕ) → Rises live → IsAbove live spi → AllByRecursion (λ s. s < spi) live
above_all [] spi h above = tt
above_all (x ∷ xs) spi h above =
    let last = last_of x xs h in let below : last.0 < spi = rw last.1 at above.above in
    lower (x ∷ xs) last.0 spi below last.2 where
      lower : (live : List ℕ) (last spi : ℕ) → last < spi → AllByRecursion (λ s. s ≤ last) live → AllByRecursion (λ s. s < spi) live
      lower [] last spi below all = tt
      lower (s ∷ live) last spi below all = (omega (arith, all.0), lower live last spi below all.1)

drop_all : (P : ℕ → Type 0) (n : ℕ) (xs : List ℕ) → AllByRecursion P xs → AllByRecursion P (drop n xs)
drop_all P zero xs all = all
drop_all P (suc n) [] all = tt
drop_all P (suc n) (x ∷ xs) all = drop_all P n xs all.1

drop_rises : (n : ℕ) (xs : List ℕ) → Rises xs → Rises (drop n xs)
drop_rises zero xs h = h
drop_rises (suc n) [] h = tt
drop_rises (suc n) (x ∷ xs) h = drop_rises n xs h.1

push_all : (P : ℕ → Type 0) (xs : List ℕ) (x : ℕ) → AllByRecursion P xs → P x → AllByRecursion P (xs ++ x ∷ [])
push_all P [] x all one = (one, tt)
push_all P (y ∷ ys) x all one = (all.0, push_all P ys x all.1 one)

push_rises : (xs : List ℕ) (x : ℕ) → Rises xs → AllByRecursion (λ s. s < x) xs → Rises (xs ++ x ∷ [])
push_rises [] x h below = (tt, tt)
push_rises (y ∷ ys) x h below = (push_all (λ s. y < s) ys x h.0 below.0, push_rises ys x h.1 below.1)

pub renewed_rises : (live : List ℕ) (spi : ℕ) → Rises live → IsAbove live spi → Rises (still_live live ++ spi ∷ [])
renewed_rises live spi h above =
    push_rises (still_live live) spi (drop_rises _ live h) (drop_all (λ s. s < spi) _ live (above_all live spi h above))

-- A live SPI was live before, or is the new one.
pub still_there : (n : ℕ) (live : List ℕ) (spi : ℕ) → is_live (drop n live) spi ≡ true → is_live live spi ≡ true
still_there zero live spi h = h
still_there (suc n) [] spi h = h
still_there (suc n) (s ∷ live) spi h = or_right (s == spi) (is_live live spi) (still_there n live spi h)

pub renewed_live : (live : List ℕ) (new spi : ℕ) → is_live (live ++ new ∷ []) spi ≡ true → (is_live live spi ≡ true) ⊎ (new ≡ spi)
renewed_live live new spi h =
    let both : (is_live live spi || (new == spi || false)) ≡ true = sym (list_any-append (λ s. s == spi) live (new ∷ [])) ∙ h in
    elim (or_cases (is_live live spi) (new == spi || false) both) [
      | inl before ↦ inl before
      | inr one ↦ elim (or_cases (new == spi) false one) [ inl same ↦ inr (eqb-true new spi same) | inr never ↦ absurd (cc) ]
    ]

pub live_push : (live : List ℕ) (new spi : ℕ) → is_live live spi ≡ true → is_live (live ++ new ∷ []) spi ≡ true
live_push live new spi h = list_any-append (λ s. s == spi) live (new ∷ []) ∙ or_left (is_live live spi) (new == spi || false) h

-- ---- what an addition does

-- An SPI is added that is above the latest, and else nothing changes.
pub data IsRenewal (held : Receiving) (spi : ℕ) (after : Receiving) : Type 0 where
  Added : IsAbove held.live spi → after ≡ renewed spi held → IsRenewal held spi after
  Refused : after ≡ held → IsRenewal held spi after

last_none : (x : ℕ) (xs : List ℕ) → last_or (Some x) xs ≡ None → ⊥
last_none x [] h = cc
last_none x (y ∷ ys) h = last_none y ys h

none_live : (live : List ℕ) → latest live ≡ None → live ≡ []
none_live [] h = refl
none_live (x ∷ xs) h = absurd (last_none x xs h)

renewal_by : (held : Receiving) (spi : ℕ) (o : Option ℕ) (old : Bool) → latest held.live ≡ o → MatchOption o (Unit {0}) (λ last. nat_le spi last ≡ old)
    → IsRenewal held spi (after_renewal held spi (spi_answer held.live spi))
renewal_by held spi None old e h = Added (record { above = rw e (none_live held.live e) }) (rw e refl)
renewal_by held spi (Some last) true e h = Refused (rw (e, h) refl)
renewal_by held spi (Some last) false e h = Added (record { above = rw e (leb-false spi last h) }) (rw (e, h) refl)

renewal_at : (held : Receiving) (spi : ℕ) (o : Option ℕ) → latest held.live ≡ o → IsRenewal held spi (after_renewal held spi (spi_answer held.live spi))
renewal_at held spi None e = renewal_by held spi None true e tt
renewal_at held spi (Some last) e = renewal_by held spi (Some last) (nat_le spi last) e refl

pub renewal : (held : Receiving) (spi : ℕ) → IsRenewal held spi (after_renewal held spi (spi_answer held.live spi))
renewal held spi = renewal_at held spi (latest held.live) refl

-- ---- never again

-- What a call may do to the live SPIs: they still rise, the latest doesn't fall, and one that is live was, or was above the latest.
record GoesOn (before after : List ℕ) : Type 0 where
  rising : Rises after
  later : IfSome (latest before) (λ last. MatchOption (latest after) ⊥ (λ next. last ≤ next))
  from : (spi : ℕ) → is_live after spi ≡ true → (is_live before spi ≡ true) ⊎ IfSome (latest before) (λ last. last < spi)

same_later : (o : Option ℕ) → IfSome o (λ last. MatchOption o ⊥ (λ next. last ≤ next))
same_later None = tt
same_later (Some last) = omega arith

goes_on-refl : (live : List ℕ) → Rises live → GoesOn live live
goes_on-refl live h = record { rising = h; later = same_later (latest live); from = λ spi there. inl there }

added_later : (o : Option ℕ) (live : List ℕ) (spi : ℕ) → MatchOption o (live ≡ []) (λ last. last < spi) → IfSome o (λ last. last ≤ spi) × IfSome o (λ last. last < spi)
added_later None live spi h = (tt, tt)
added_later (Some last) live spi h = (omega arith, h)

some_later : (o p : Option ℕ) (spi : ℕ) → p ≡ Some spi → IfSome o (λ last. last ≤ spi) → IfSome o (λ last. MatchOption p ⊥ (λ next. last ≤ next))
some_later None p spi e h = tt
some_later (Some last) p spi e h = rw e h

goes_on-added : (live : List ℕ) (spi : ℕ) → Rises live → IsAbove live spi → GoesOn live (still_live live ++ spi ∷ [])
goes_on-added live spi h above =
    let bound = added_later (latest live) live spi above.above in record {
      rising = renewed_rises live spi h above;
      later = some_later (latest live) _ spi (last_push None (still_live live) spi) bound.0;
      from = λ s there. elim (renewed_live (still_live live) spi s there) [
        | inl before ↦ inl (still_there _ live s before)
        | inr same ↦ inr (subst (λ t. IfSome (latest live) (λ last. last < t)) same bound.1)
      ];
    }

goes_on-renewal : (held after : Receiving) (spi : ℕ) → Rises held.live → IsRenewal held spi after → GoesOn held.live after.live
goes_on-renewal held after spi h (Added above is) = rw is (goes_on-added held.live spi h above)
goes_on-renewal held after spi h (Refused is) = rw is (goes_on-refl held.live h)

goes_on-call : (held : Receiving) (call : Call) → Rises held.live → GoesOn held.live (after_call held call).live
goes_on-call held (Renew spi) h = goes_on-renewal held _ spi h (renewal held spi)
goes_on-call held (Commit ssrc carried attempt) h = goes_on-refl held.live h

joined_later : (a b c : Option ℕ) → IfSome a (λ last. MatchOption b ⊥ (λ next. last ≤ next)) → IfSome b (λ last. MatchOption c ⊥ (λ next. last ≤ next))
    → IfSome a (λ last. MatchOption c ⊥ (λ next. last ≤ next))
joined_later None b c h g = tt
joined_later (Some x) None c h g = absurd h
joined_later (Some x) (Some y) None h g = absurd g
joined_later (Some x) (Some y) (Some z) h g = omega arith

above_later : (a b : Option ℕ) (spi : ℕ) → IfSome a (λ last. MatchOption b ⊥ (λ next. last ≤ next)) → IfSome b (λ last. last < spi) → IfSome a (λ last. last < spi)
above_later None b spi h g = tt
above_later (Some x) None spi h g = absurd h
above_later (Some x) (Some y) spi h g = omega arith

goes_on-trans : (a b c : List ℕ) → GoesOn a b → GoesOn b c → GoesOn a c
goes_on-trans a b c h g = record {
  rising = g.rising;
  later = joined_later (latest a) (latest b) (latest c) h.later g.later;
  from = λ spi there. elim (g.from spi there) [
    | inl before ↦ h.from spi before
    | inr above ↦ inr (above_later (latest a) (latest b) spi h.later above)
  ];
}

goes_on-calls : (held : Receiving) (calls : List Call) → Rises held.live → GoesOn held.live (after_calls held calls).live
goes_on-calls held [] h = goes_on-refl held.live h
goes_on-calls held (call ∷ calls) h =
    let one = goes_on-call held call h in
    goes_on-trans held.live (after_call held call).live _ one (goes_on-calls (after_call held call) calls one.rising)

-- An SPI that is live after some calls was live before them, or was above the latest.
pub never_again : (held : Receiving) (calls : List Call) → IsStrictlyIncreasing held.live → AreCalls held calls → NeverAgain held calls
never_again held calls rising are = (goes_on-calls held calls (rises held.live rising)).from
