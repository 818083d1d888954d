-- What a sender has come to agrees with what was taken and sent before, so each event is right after those before it.
use Rattle.std.proofs.Common.{◌≡◌, ℕ, ◌+◌, ◌-◌, ◌^◌, ◌<◌, ◌≤◌, Bool, true, false, ◌||◌, if◌then◌else◌, List, [], ◌∷◌, ◌++◌, length, Option, Some, ◌⊎◌, inl, inr, Result, Ok, Err, refl, ap, ◌∙◌, sym, arith, length-append}
use Rattle.std.specs.Prelude.{◌==◌}
use Rattle.std.specs.Option.{option_map}
use Rattle.std.specs.Str.{bytes_eq}
use Rattle.std.proofs.lemmas.List.Folds.{list_any-append}
use Rattle.std.proofs.lemmas.Bool.Decides.{nat_tests}
use Rattle.std.proofs.lemmas.Slice.Eq.{bytes_eq-Decides}
use Rattle.perc_sender.specs.declared.SendPlace.{SendPlace}
use Rattle.perc_sender.specs.declared.TakeFault.TheVariants.{Repeated, Limit}
use Rattle.perc_sender.specs.declared.NextFault.{NextFault}
use Rattle.perc_sender.specs.Schedule.{Taken, Sending, started, newest, count_under, was_taken, is_full, with_key, next_answer, after_packet, place_under}
use Rattle.perc_sender.specs.History.{Call, Take, Next, Event, Took, Sent, events, after_call, after_take, after_next, sent_in, sent_under_key, last_roll_over, newest_key, taken_under, taken_in, IsNew, IsNext, IsHistory, IsDone, EachIsDone}
use Rattle.perc_sender.proofs.Keys.{newest_push, count_push, IsPlaced, placed, refused}

-- the SPI and the epoch of a newest key
abbrev named : List Taken → Option (ℕ × ℕ)
named keys = option_map (λ t. (t.spi, count_under t.spi keys - 1)) (newest keys)

-- The keys that a sender holds are those that were taken.
record HoldsTaken (keys : List Taken) (before : List Event) : Type 0 where
  under : (spi : ℕ) → count_under spi keys ≡ taken_under spi before
  all : length keys ≡ taken_in before
  new : (key : List ℕ) → was_taken key keys ≡ false → IsNew key before
  old : (key : List ℕ) → was_taken key keys ≡ true → IsNew key before → ⊥
  newest_is : named keys ≡ newest_key before

-- What it counts is what was sent.
record CountsSent (first : ℕ) (s : Sending) (before : List Event) : Type 0 where
  next_is : s.next ≡ first + sent_in before
  in_range : s.next ≤ 2 ^ 48
  number_is : s.number ≡ sent_under_key before
  before_is : s.before ≡ last_roll_over before

-- It agrees with what was done before, and each of that is right.
record Agrees (first : ℕ) (s : Sending) (before : List Event) : Type 0 where
  holds : HoldsTaken s.keys before
  counts : CountsSent first s before
  right : IsHistory first before

-- ---- one more key

neither : (a b : Bool) → (a || (b || false)) ≡ false → (a ≡ false) × (b ≡ false)
neither true b h = absurd (cc)
neither false true h = absurd (cc)
neither false false h = (refl, refl)

either : (a b : Bool) → (a || (b || false)) ≡ true → (a ≡ true) ⊎ (b ≡ true)
either true b h = inl refl
either false true h = inr refl
either false false h = absurd (cc)

-- a key that is none of the keys and one more is none of the keys, and isn't that one
new_push : (keys : List Taken) (t : Taken) (key : List ℕ) → was_taken key (keys ++ t ∷ []) ≡ false
    → (was_taken key keys ≡ false) × (t.key ≡ key → ⊥)
new_push keys t key h =
    let parts = neither (was_taken key keys) (bytes_eq t.key key) (sym (list_any-append (λ (k : Taken). bytes_eq k.key key) keys (t ∷ [])) ∙ h) in
    (parts.0, λ (e : t.key ≡ key). let yes : bytes_eq t.key key ≡ true = (bytes_eq-Decides t.key key).1 e in cc (yes, parts.1))

-- and one that is there was among them, or is that one
old_push : (keys : List Taken) (t : Taken) (key : List ℕ) → was_taken key (keys ++ t ∷ []) ≡ true
    → (was_taken key keys ≡ true) ⊎ (t.key ≡ key)
old_push keys t key h =
    elim (either (was_taken key keys) (bytes_eq t.key key) (sym (list_any-append (λ (k : Taken). bytes_eq k.key key) keys (t ∷ [])) ∙ h)) [
      | inl among ↦ inl among
      | inr one ↦ inr ((bytes_eq-Decides t.key key).0 one)
    ]

named_push : (keys : List Taken) (t : Taken) → named (keys ++ t ∷ []) ≡ Some (t.spi, count_under t.spi keys)
named_push keys t =
    let one : count_under t.spi (keys ++ t ∷ []) - 1 ≡ count_under t.spi keys = rw (count_push t.spi keys t) (grind (arith, nat_tests)) in
    rw (newest_push keys t) (ap (λ n. Some (t.spi, n)) one)

holds_took : (spi epoch : ℕ) (key : List ℕ) (keys : List Taken) (before : List Event) → HoldsTaken keys before
    → epoch ≡ count_under spi keys
    → HoldsTaken (keys ++ record { spi = spi; key = key } ∷ []) (Took spi epoch key ∷ before)
holds_took spi epoch key keys before h counted =
    let t : Taken = record { spi = spi; key = key } in record {
      under = λ other. count_push other keys t ∙ ap (λ n. (if spi == other then 1 else 0) + n) (h.under other);
      all = grind (arith, length-append {A = Taken}, h.all);
      new = λ other fresh. let parts = new_push keys t other fresh in (parts.1, h.new other parts.0);
      old = λ other there is_new. elim (old_push keys t other there) [ inl among ↦ h.old other among is_new.1 | inr same ↦ is_new.0 same ];
      newest_is = named_push keys t ∙ ap (λ n. Some (spi, n)) (sym counted);
    }

agrees_took : (first : ℕ) (s : Sending) (before : List Event) (spi : ℕ) (key : List ℕ) → Agrees first s before
    → was_taken key s.keys ≡ false → is_full spi s.keys ≡ false
    → Agrees first (with_key s spi key) (Took spi (count_under spi s.keys) key ∷ before)
agrees_took first s before spi key a fresh room = record {
  holds = holds_took spi (count_under spi s.keys) key s.keys before a.holds refl;
  counts = record { next_is = a.counts.next_is; in_range = a.counts.in_range; number_is = refl; before_is = a.counts.before_is };
  right = (
    record {
      new = a.holds.new key fresh;
      counted = a.holds.under spi;
      few_under = rw (← a.holds.under spi) (grind (arith, nat_tests, room));
      few = rw (← a.holds.all) (grind (arith, nat_tests, room));
    },
    a.right,
  );
}

take_by : (first : ℕ) (s : Sending) (before : List Event) (spi : ℕ) (key : List ℕ) → Agrees first s before
    → (repeated full : Bool) → was_taken key s.keys ≡ repeated → is_full spi s.keys ≡ full
    → (let done = after_take s spi key (if repeated then Err Repeated else (if full then Err Limit else Ok (count_under spi s.keys))) in
    Agrees first done.0 (done.1 ++ before))
take_by first s before spi key a true full e f = a
take_by first s before spi key a false true e f = a
take_by first s before spi key a false false e f = agrees_took first s before spi key a e f

-- ---- one more packet

is_next : (first : ℕ) (s : Sending) (before : List Event) (t : Taken) → Agrees first s before → newest s.keys ≡ Some t
    → (s.next ≡ 2 ^ 48 → ⊥) → IsNext first (place_under s t) before
is_next first s before t a e left = record {
  index = a.counts.next_is;
  in_range = omega (arith, a.counts.in_range);
  key = sym a.holds.newest_is ∙ (rw e refl);
  full = rw (a.counts.number_is, a.counts.before_is) refl;
}

agrees_sent : (first : ℕ) (s : Sending) (before : List Event) (place : SendPlace) (t : Taken) → Agrees first s before
    → IsPlaced s place t → Agrees first (after_packet s) (Sent place ∷ before)
agrees_sent first s before place t a p = rw p.is record {
  holds = record { under = a.holds.under; all = a.holds.all; new = a.holds.new; old = a.holds.old; newest_is = a.holds.newest_is };
  counts = record {
    next_is = grind (arith, a.counts.next_is);
    in_range = omega (arith, a.counts.in_range, p.left);
    number_is = grind (arith, a.counts.number_is);
    before_is = refl;
  };
  right = (is_next first s before t a p.under p.left, a.right);
}

next_by : (first : ℕ) (s : Sending) (before : List Event) → Agrees first s before
    → (answer : Result SendPlace NextFault) → next_answer s ≡ answer
    → Agrees first (after_next s answer).0 ((after_next s answer).1 ++ before)
next_by first s before a (Ok place) e = let p = placed s place e in agrees_sent first s before place p.0 a p.1
next_by first s before a (Err e) h = a

-- ---- any calls

agrees_after : (first : ℕ) (s : Sending) (call : Call) (before : List Event) → Agrees first s before
    → Agrees first (after_call s call).0 ((after_call s call).1 ++ before)
agrees_after first s (Take spi key) before a =
    take_by first s before spi key a (was_taken key s.keys) (is_full spi s.keys) refl refl
agrees_after first s Next before a = next_by first s before a (next_answer s) refl

right_after : (first : ℕ) (calls : List Call) (s : Sending) (before : List Event) → Agrees first s before
    → IsHistory first (events s calls before)
right_after first [] s before a = a.right
right_after first (call ∷ calls) s before a = right_after first calls _ _ (agrees_after first s call before a)

agrees_started : (ssrc first : ℕ) → first < 2 ^ 48 → Agrees first (started ssrc first) []
agrees_started ssrc first h = record {
  holds = record { under = λ _. refl; all = refl; new = λ _ _. tt; old = λ _ there. absurd (cc); newest_is = refl };
  counts = record { next_is = grind arith; in_range = omega arith; number_is = refl; before_is = refl };
  right = tt;
}

pub any_history : (ssrc first : ℕ) (calls : List Call) → first < 2 ^ 48 → IsHistory first (events (started ssrc first) calls [])
any_history ssrc first calls h = right_after first calls (started ssrc first) [] (agrees_started ssrc first h)

-- ---- each call does what it asks for, or is refused

take_done : (first : ℕ) (s : Sending) (before : List Event) (spi : ℕ) (key : List ℕ) → Agrees first s before
    → (repeated full : Bool) → was_taken key s.keys ≡ repeated → is_full spi s.keys ≡ full
    → IsDone first (Take spi key) before
    (after_take s spi key (if repeated then Err Repeated else (if full then Err Limit else Ok (count_under spi s.keys)))).1
take_done first s before spi key a true full e f = inl (a.holds.old key e)
take_done first s before spi key a false true e f = inr (rw (← a.holds.under spi, ← a.holds.all) (grind (arith, nat_tests, f)))
take_done first s before spi key a false false e f = (count_under spi s.keys, refl)

next_done : (first : ℕ) (s : Sending) (before : List Event) → Agrees first s before
    → (answer : Result SendPlace NextFault) → next_answer s ≡ answer → IsDone first Next before (after_next s answer).1
next_done first s before a (Ok place) e = (place, refl)
next_done first s before a (Err e) h =
    elim (refused s e h) [
      | inl none ↦ inl (sym a.holds.newest_is ∙ (rw none refl))
      | inr spent ↦ inr (sym a.counts.next_is ∙ spent)
    ]

call_done : (first : ℕ) (s : Sending) (call : Call) (before : List Event) → Agrees first s before
    → IsDone first call before (after_call s call).1
call_done first s (Take spi key) before a = take_done first s before spi key a (was_taken key s.keys) (is_full spi s.keys) refl refl
call_done first s Next before a = next_done first s before a (next_answer s) refl

done_after : (first : ℕ) (calls : List Call) (s : Sending) (before : List Event) → Agrees first s before
    → EachIsDone first s calls before
done_after first [] s before a = tt
done_after first (call ∷ calls) s before a =
    (call_done first s call before a, done_after first calls _ _ (agrees_after first s call before a))

pub each_done : (ssrc first : ℕ) (calls : List Call) → first < 2 ^ 48 → EachIsDone first (started ssrc first) calls []
each_done ssrc first calls h = done_after first calls (started ssrc first) [] (agrees_started ssrc first h)
