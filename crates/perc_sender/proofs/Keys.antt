-- A list of keys: its last one, and what one more changes.
use Rattle.std.proofs.Common.{◌≡◌, ℕ, ◌+◌, ◌-◌, ◌^◌, Bool, true, false, if◌then◌else◌, List, [], ◌∷◌, ◌++◌, length, Option, Some, None, Ok, Err, refl, ◌⊎◌, inl, inr, sub-one, arith, length-append}
use Rattle.std.specs.Prelude.{slice_get, ◌==◌}
use Rattle.std.specs.List.{last_or}
use Rattle.std.proofs.lemmas.List.Elements.{filter-append}
use Rattle.std.proofs.lemmas.Bool.Decides.{nat_tests}
use Rattle.std.proofs.lemmas.Bool.{ne_eqb, eqb-false, eqb-true}
use Rattle.perc_sender.specs.declared.SendPlace.{SendPlace}
use Rattle.perc_sender.specs.declared.NextFault.{NextFault}
use Rattle.perc_sender.specs.declared.NextFault.TheVariants.{NoKey, IndexSpent}
use Rattle.perc_sender.specs.Schedule.{Taken, Sending, newest, count_under, next_answer, place_under, is_full_field, roll_over}
use Rattle.perc_sender.specs.Kept.{newest_epoch}

last_at : {X : Type 0} (o : Option X) (x : X) (xs : List X) → slice_get (x ∷ xs) (length xs) ≡ last_or o (x ∷ xs)
last_at o x [] = refl
last_at o x (y ∷ ys) = last_at (Some x) y ys

pub newest_at : (keys : List Taken) → slice_get keys (length keys - 1) ≡ newest keys
newest_at [] = refl
newest_at (k ∷ ks) = rw sub-one (last_at None k ks)

last_push : {X : Type 0} (o : Option X) (xs : List X) (x : X) → last_or o (xs ++ x ∷ []) ≡ Some x
last_push o [] x = refl
last_push o (y ∷ ys) x = last_push (Some y) ys x

pub newest_push : (keys : List Taken) (t : Taken) → newest (keys ++ t ∷ []) ≡ Some t
newest_push keys t = last_push None keys t

pub count_push : (spi : ℕ) (keys : List Taken) (t : Taken)
    → count_under spi (keys ++ t ∷ []) ≡ (if t.spi == spi then 1 else 0) + count_under spi keys
count_push spi keys t = let h = filter-append (λ (k : Taken). k.spi == spi) keys (t ∷ []) in rw h (grind (arith, nat_tests, length-append {A = Taken}))

pub epoch_push : (keys : List Taken) (t : Taken) → newest_epoch (keys ++ t ∷ []) ≡ count_under t.spi keys
epoch_push keys t = rw (newest_push keys t) (rw (count_push t.spi keys t) (grind (arith, nat_tests)))

-- the answers under a newest key
pub next_spent : (s : Sending) (t : Taken) → newest s.keys ≡ Some t → s.next ≡ 2 ^ 48
    → Err IndexSpent ≡ next_answer s
next_spent s t e spent = rw e (rw spent refl)

pub next_placed : (s : Sending) (t : Taken) (index spi epoch : ℕ) (full : Bool) → newest s.keys ≡ Some t
    → index ≡ s.next → (s.next ≡ 2 ^ 48 → ⊥) → spi ≡ t.spi → epoch ≡ newest_epoch s.keys
    → full ≡ is_full_field s.number (roll_over s.next) s.before
    → Ok (record { index = index; spi = spi; epoch = epoch; full = full }) ≡ next_answer s
next_placed s t index spi epoch full e where_is left same counted carries =
    let counts : epoch ≡ count_under t.spi s.keys - 1 = rw e at counted in
    rw (e, ne_eqb s.next (2 ^ 48) left) (rw (where_is, same, counts, carries) refl)

-- and the other way round: what a place that was answered is
pub record IsPlaced (s : Sending) (place : SendPlace) (t : Taken) : Type 0 where
  pub under : newest s.keys ≡ Some t
  pub left : s.next ≡ 2 ^ 48 → ⊥
  pub is : place ≡ place_under s t

placed_by : (s : Sending) (place : SendPlace) (o : Option Taken) (spent : Bool) → newest s.keys ≡ o
    → (s.next == 2 ^ 48) ≡ spent → next_answer s ≡ Ok place → (t : Taken) × IsPlaced s place t
placed_by s place None spent e q h = let bad : Err NoKey ≡ Ok place = rw e at h in absurd (cc)
placed_by s place (Some t) true e q h = let bad : Err IndexSpent ≡ Ok place = rw (e, q) at h in absurd (cc)
placed_by s place (Some t) false e q h =
    let good : Ok (place_under s t) ≡ Ok place = rw (e, q) at h in
    (t, record { under = e; left = eqb-false s.next (2 ^ 48) q; is = cc })

pub placed : (s : Sending) (place : SendPlace) → next_answer s ≡ Ok place → (t : Taken) × IsPlaced s place t
placed s place = placed_by s place (newest s.keys) (s.next == 2 ^ 48) refl refl

-- and why none was
refused_by : (s : Sending) (e : NextFault) (o : Option Taken) (spent : Bool) → newest s.keys ≡ o
    → (s.next == 2 ^ 48) ≡ spent → next_answer s ≡ Err e → (newest s.keys ≡ None) ⊎ (s.next ≡ 2 ^ 48)
refused_by s e None spent n q h = inl n
refused_by s e (Some t) true n q h = inr (eqb-true s.next (2 ^ 48) q)
refused_by s e (Some t) false n q h = let bad : Ok (place_under s t) ≡ Err e = rw (n, q) at h in absurd (cc)

pub refused : (s : Sending) (e : NextFault) → next_answer s ≡ Err e → (newest s.keys ≡ None) ⊎ (s.next ≡ 2 ^ 48)
refused s e = refused_by s e (newest s.keys) (s.next == 2 ^ 48) refl refl
