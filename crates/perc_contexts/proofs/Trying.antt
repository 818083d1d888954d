-- The tries that the code finds by places are those under the contexts that are held.
use Rattle.std.proofs.Common.{◌≡◌, ℕ, zero, suc, ◌+◌, ◌*◌, ◌^◌, ◌<◌, Bool, true, false, cond, List, [], ◌∷◌, ◌++◌, length, reverse, take}
use Rattle.std.proofs.Common.{filter, Option, Some, None, Result, Ok, Err, refl, ap, ◌∙◌, sym, arith, sub-one, append-nil, append_assoc}
use Rattle.std.specs.Prelude.{◌==◌, slice_get, position}
use Rattle.std.specs.List.{filter_map, cons_option}
use Rattle.std.specs.Option.{option_map}
use Rattle.std.specs.Result.{IsErr}
use Rattle.std.proofs.lemmas.List.{reverse-append, reverse-reverse, length-reverse}
use Rattle.std.proofs.lemmas.Bool.Decides.{nat_tests}
use Rattle.arrayvec.specs.ArrayVec.{ArrayVec}
use Rattle.perc_window.specs.Index.{nearest}
use Rattle.perc_window.specs.Replay.{greatest}
use Rattle.perc_window.proofs.IndexLaws.{nearest_some}
use Rattle.perc_contexts.specs.declared.TryPlace.TheVariants.{Held, New}
use Rattle.perc_contexts.specs.declared.Try.{Try}
use Rattle.perc_contexts.specs.declared.KeyLimit.{KeyLimit}
use Rattle.perc_contexts.specs.Receiving.{Context, Carried, Attempt, is_of, context_of, newest_of, attempt_at, at_nearest, is_full, new_context, carried_context, tries}
use Rattle.perc_contexts.specs.Kept.{KeptContext, AreOf, is_kept_of, new_of, IsTry, AreTries, IsAnswer}
use Rattle.perc_contexts.specs.Places.{is_kept_full, carried_try, with_try, nearest_tries}
use Rattle.perc_contexts.proofs.Standing.{are_of-length, are_of-count, are_of-position, are_of-reverse, agree_of, agree_under}
use Rattle.perc_contexts.proofs.Found.{find_by}

-- ---- under the newest contexts

at_middle : {X : Type 0} (xs : List X) (x : X) (ys : List X) → slice_get (xs ++ x ∷ ys) (length xs) ≡ Some x
at_middle [] x ys = refl
at_middle (y ∷ xs) x ys = at_middle xs x ys

-- the list, once the newest of what is left goes to what is newer
one_newer : {X : Type 0} (all : List X) (x : X) (older newer : List X) → all ≡ reverse (x ∷ older) ++ newer → all ≡ reverse older ++ (x ∷ newer)
one_newer all x older newer e =
    e ∙ (ap (λ l. l ++ newer) (reverse-append (x ∷ []) older) ∙ append_assoc (reverse older) (x ∷ []) newer)

-- its place counts those that are older
newest_at : {X : Type 0} (all : List X) (x : X) (older newer : List X) (place : ℕ) → all ≡ reverse older ++ (x ∷ newer) → place ≡ length older
    → slice_get all place ≡ Some x
newest_at all x older newer place e counts =
    ap (λ l. slice_get l place) e
    ∙ (ap (λ n. slice_get (reverse older ++ (x ∷ newer)) n) (counts ∙ sym (length-reverse older)) ∙ at_middle (reverse older) x newer)

with_try_is : (all : List Context) (ssrc : ℕ) (carried : Option Carried) (seq place : ℕ) (c : Context) (list : List Try) (attempts : List Attempt) (o : Option ℕ)
    → seq < 65536 → slice_get all place ≡ Some c → nearest (greatest c.accepted) seq ≡ o → AreTries all ssrc carried list attempts
    → AreTries all ssrc carried (with_try o place list) (cons_option (option_map (λ index. record { context = c; index = index }) o) attempts)
with_try_is all ssrc carried seq place c list attempts None fits at e rest = rest
with_try_is all ssrc carried seq place c list attempts (Some index) fits at e rest =
    (record { context = at; index = refl; in_range = (nearest_some (greatest c.accepted) seq index fits e).in_range }, rest)

chosen : (all : List Context) (ssrc : ℕ) (carried : Option Carried) (stop p q : Bool) (with without : List Try) (c : Context) (older : List Context) (room : ℕ)
    (at : Context → Option Attempt) → stop ≡ false → p ≡ q
    → AreTries all ssrc carried with (cons_option (at c) (filter_map at (take room older)))
    → AreTries all ssrc carried without (filter_map at (take (suc room) older))
    → AreTries all ssrc carried (cond stop [] (cond p with without)) (filter_map at (take (suc room) (cond q (c ∷ older) older)))
chosen all ssrc carried true p q with without c older room at going same one rest = absurd (cc)
chosen all ssrc carried false true true with without c older room at going same one rest = one
chosen all ssrc carried false false false with without c older room at going same one rest = rest
chosen all ssrc carried false true false with without c older room at going same one rest = absurd (cc)
chosen all ssrc carried false false true with without c older room at going same one rest = absurd (cc)

tries_are : (all : List Context) (ssrc : ℕ) (carried : Option Carried) (seq : ℕ) (kept : List KeptContext) (contexts newer : List Context) (room : ℕ)
    → seq < 65536 → AreOf kept contexts → all ≡ reverse contexts ++ newer
    → AreTries all ssrc carried (nearest_tries ssrc seq kept room) (at_nearest (take room (filter (λ c. c.ssrc == ssrc) contexts)) seq)
tries_are all ssrc carried seq [] [] newer zero fits are e = tt
tries_are all ssrc carried seq [] [] newer (suc room) fits are e = tt
tries_are all ssrc carried seq [] (c ∷ contexts) newer room fits are e = absurd are
tries_are all ssrc carried seq (k ∷ kept) [] newer room fits are e = absurd are
tries_are all ssrc carried seq (k ∷ kept) (c ∷ contexts) newer zero fits are e = tt
tries_are all ssrc carried seq (k ∷ kept) (c ∷ contexts) newer (suc room) fits are e =
    let older = one_newer all c contexts newer e in
    let under = λ (n : ℕ). tries_are all ssrc carried seq kept contexts (c ∷ newer) n fits are.1 older in
    chosen all ssrc carried (suc room == 0) (k.ssrc == ssrc) (c.ssrc == ssrc) _ _ c (filter (λ c. c.ssrc == ssrc) contexts) room (attempt_at seq)
    (grind (arith, nat_tests)) (ap (λ s. s == ssrc) are.0.ssrc)
    (rw (are.0.window.highest, sub-one)
    (with_try_is all ssrc carried seq (length kept) c _ _ (nearest (greatest c.accepted) seq) fits
    (newest_at all c contexts newer (length kept) older (are_of-length kept contexts are.1)) refl (under room)))
    (under (suc room))

newest_are : (kept : List KeptContext) (contexts : List Context) (ssrc seq : ℕ) (carried : Option Carried) → seq < 65536 → AreOf kept contexts
    → AreTries contexts ssrc carried (nearest_tries ssrc seq (reverse kept) 4) (at_nearest (newest_of contexts ssrc) seq)
newest_are kept contexts ssrc seq carried fits are =
    tries_are contexts ssrc carried seq (reverse kept) (reverse contexts) [] 4 fits (are_of-reverse kept contexts are)
    (sym (append-nil _ ∙ reverse-reverse contexts))

-- ---- under the carried key

-- what the code finds for a carried key, and its context
abbrev FoundFor : List Context → ℕ → ℕ → Carried → Result Try KeyLimit → Result Context KeyLimit → Type 0
FoundFor contexts ssrc seq carried (Ok t) (Ok c) =
    IsTry contexts ssrc (Some carried) t (record { context = c; index = carried.roc * 65536 + seq })
FoundFor contexts ssrc seq carried (Ok t) (Err e) = ⊥
FoundFor contexts ssrc seq carried (Err e) (Ok c) = ⊥
FoundFor contexts ssrc seq carried (Err e) (Err f) = Unit {0}

-- by the place of its context
abbrev try_at : Option ℕ → Bool → ℕ → Result Try KeyLimit
try_at (Some place) full index = Ok (record { place = Held place; index = index })
try_at None full index = cond full (Err (record {})) (Ok (record { place = New; index = index }))

abbrev context_for : Option Context → Bool → Context → Result Context KeyLimit
context_for (Some c) full new = Ok c
context_for None full new = cond full (Err (record {})) (Ok new)

try_at_is : (kept : List KeptContext) (ssrc seq : ℕ) (carried : Carried) (o : Option ℕ) → position (is_kept_of carried.spi ssrc carried.key) kept ≡ o
    → carried_try kept ssrc seq carried ≡ try_at o (is_kept_full kept carried.spi ssrc) (carried.roc * 65536 + seq)
try_at_is kept ssrc seq carried None e = rw e refl
try_at_is kept ssrc seq carried (Some place) e = rw e refl

context_for_is : (contexts : List Context) (ssrc : ℕ) (carried : Carried) (o : Option Context) → context_of contexts carried.spi ssrc carried.key ≡ o
    → carried_context contexts ssrc carried ≡ context_for o (is_full contexts carried.spi ssrc) (new_context ssrc carried)
context_for_is contexts ssrc carried None e = rw e refl
context_for_is contexts ssrc carried (Some c) e = rw e refl

new_of_is : (contexts : List Context) (ssrc : ℕ) (carried : Carried) → context_of contexts carried.spi ssrc carried.key ≡ None
    → new_of contexts ssrc carried ≡ Some (new_context ssrc carried)
new_of_is contexts ssrc carried e = rw e refl

found_new : (contexts : List Context) (ssrc seq : ℕ) (carried : Carried) (full : Bool) → carried.roc < 2 ^ 32 → seq < 65536
    → context_of contexts carried.spi ssrc carried.key ≡ None
    → FoundFor contexts ssrc seq carried (try_at None full (carried.roc * 65536 + seq)) (context_for None full (new_context ssrc carried))
found_new contexts ssrc seq carried true low fits none = tt
found_new contexts ssrc seq carried false low fits none =
    record { context = new_of_is contexts ssrc carried none; index = refl; in_range = omega arith }

found_by : (kept : List KeptContext) (contexts : List Context) (ssrc seq : ℕ) (carried : Carried) (o : Option ℕ) → carried.roc < 2 ^ 32 → seq < 65536
    → AreOf kept contexts → position (is_of carried.spi ssrc carried.key) contexts ≡ o
    → FoundFor contexts ssrc seq carried (carried_try kept ssrc seq carried) (carried_context contexts ssrc carried)
found_by kept contexts ssrc seq carried None low fits are e =
    let there = are_of-position _ _ (agree_of carried.spi ssrc carried.key) kept contexts are ∙ e in
    let none = find_by (is_of carried.spi ssrc carried.key) contexts None e in
    let full : is_kept_full kept carried.spi ssrc ≡ is_full contexts carried.spi ssrc =
    rw (are_of-length kept contexts are, are_of-count _ _ (agree_under carried.spi ssrc) kept contexts are) refl in
    rw (try_at_is kept ssrc seq carried None there, context_for_is contexts ssrc carried None none, full)
    (found_new contexts ssrc seq carried (is_full contexts carried.spi ssrc) low fits none)
found_by kept contexts ssrc seq carried (Some place) low fits are e =
    let there = are_of-position _ _ (agree_of carried.spi ssrc carried.key) kept contexts are ∙ e in
    let h = find_by (is_of carried.spi ssrc carried.key) contexts (Some place) e in
    rw (try_at_is kept ssrc seq carried (Some place) there, context_for_is contexts ssrc carried (Some h.0) h.1)
    (record { context = h.2; index = refl; in_range = omega arith })

-- ---- all tries

made_by : (contexts : List Context) (ssrc seq : ℕ) (carried : Carried) (t : Try) (others : List Try) (list : ArrayVec Try) (r : Result Context KeyLimit)
    → list.items ≡ t ∷ others → carried_context contexts ssrc carried ≡ r → FoundFor contexts ssrc seq carried (Ok t) r
    → AreTries contexts ssrc (Some carried) others (at_nearest (newest_of contexts ssrc) seq)
    → IsAnswer contexts ssrc (Some carried) (tries contexts ssrc seq (Some carried)) (Ok list)
unfolding tries
made_by contexts ssrc seq carried t others list (Ok c) e r found rest = rw (r, e) (found, rest)
made_by contexts ssrc seq carried t others list (Err f) e r found rest = absurd found

-- under a carried key, and others
pub made : (kept : List KeptContext) (contexts : List Context) (ssrc seq : ℕ) (carried : Carried) (t : Try) (list : ArrayVec Try)
    → carried.roc < 2 ^ 32 → seq < 65536 → AreOf kept contexts → Ok t ≡ carried_try kept ssrc seq carried
    → list.items ≡ t ∷ nearest_tries ssrc seq (reverse kept) 4
    → IsAnswer contexts ssrc (Some carried) (tries contexts ssrc seq (Some carried)) (Ok list)
made kept contexts ssrc seq carried t list low fits are one e =
    made_by contexts ssrc seq carried t _ list (carried_context contexts ssrc carried) e refl
    (rw one (found_by kept contexts ssrc seq carried (position (is_of carried.spi ssrc carried.key) contexts) low fits are refl))
    (newest_are kept contexts ssrc seq (Some carried) fits are)

-- under no carried key
pub made_alone : (kept : List KeptContext) (contexts : List Context) (ssrc seq : ℕ) (list : ArrayVec Try) → seq < 65536 → AreOf kept contexts
    → list.items ≡ nearest_tries ssrc seq (reverse kept) 4
    → IsAnswer contexts ssrc None (tries contexts ssrc seq None) (Ok list)
unfolding tries
made_alone kept contexts ssrc seq list fits are e = rw e (newest_are kept contexts ssrc seq None fits are)

refused_by : (contexts : List Context) (ssrc seq : ℕ) (carried : Carried) (e : KeyLimit) (r : Result Context KeyLimit) (answer : Result (ArrayVec Try) KeyLimit)
    → carried_context contexts ssrc carried ≡ r → FoundFor contexts ssrc seq carried (Err e) r → IsErr answer
    → IsAnswer contexts ssrc (Some carried) (tries contexts ssrc seq (Some carried)) answer
unfolding tries
refused_by contexts ssrc seq carried e (Ok c) answer r found refused = absurd found
refused_by contexts ssrc seq carried e (Err f) (Ok list) r found refused = absurd (cc)
refused_by contexts ssrc seq carried e (Err f) (Err g) r found refused = rw r tt

-- and where there is no room
pub refused : (kept : List KeptContext) (contexts : List Context) (ssrc seq : ℕ) (carried : Carried) (e : KeyLimit) (answer : Result (ArrayVec Try) KeyLimit)
    → carried.roc < 2 ^ 32 → seq < 65536 → AreOf kept contexts → Err e ≡ carried_try kept ssrc seq carried → IsErr answer
    → IsAnswer contexts ssrc (Some carried) (tries contexts ssrc seq (Some carried)) answer
refused kept contexts ssrc seq carried e answer low fits are one =
    refused_by contexts ssrc seq carried e (carried_context contexts ssrc carried) answer refl
    (rw one (found_by kept contexts ssrc seq carried (position (is_of carried.spi ssrc carried.key) contexts) low fits are refl))
