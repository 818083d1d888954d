-- What a receiver holds agrees with what was accepted, over any calls.
use Rattle.std.proofs.Common.{◌≡◌, ◌≢◌, ℕ, suc, zero, ◌%◌, ◌<◌, ◌≤◌, Bool, true, false, cond, List, [], ◌∷◌, length, get_or, map, filter, Option, Some, None, ◌⊎◌, inl, inr, refl, ap, ◌∙◌, sym, subst, arith}
use Rattle.std.specs.Prelude.{◌==◌, Contains, IfSome, IsTrue, MatchOption, find}
use Rattle.std.specs.List.{AllByRecursion}
use Rattle.std.proofs.lemmas.Bool.{both_ways, or_parts, eqb-false, false_from_ne_true}
use Rattle.std.proofs.lemmas.List.Elements.{All-from_recursion, recursion_from_All, All-contains, All-filter, filter_passes, All-nil, All-cons}
use Rattle.std.proofs.lemmas.List.Kept.{AllPairs-cons, AllPairs-filter}
use Rattle.perc_window.specs.Replay.{has}
use Rattle.perc_window.proofs.IndexLaws.{fresh_has}
use Rattle.perc_contexts.specs.Receiving.{Context, Receiving, Carried, Attempt, nothing_held, latest, is_live, still_live, renewed, is_of, with_index, committed}
use Rattle.perc_contexts.specs.History.{Call, Renew, Commit, IsCommit, IsCall, after_call, after_calls, AreCalls, Acceptance, acceptance_of, accepted_by, is_under, indices_under, IsHistory}
use Rattle.perc_contexts.proofs.Names.{is_of-parts, is_of-made, same-refl, pairs-from, pairs-to, Apart}
use Rattle.perc_contexts.proofs.Committing.{is_its, holds_none, none_here, committed-cons, committed-nil, committed_by, committed_all, committed_distinct}
use Rattle.perc_contexts.proofs.ReceivingLaws.{IsTriedContext, IsHeld, IsNew, is_tried}
use Rattle.perc_contexts.proofs.LiveLaws.{rises, increasing, live_latest, last_push, IsAbove, renewed_rises, still_there, renewed_live, live_push, IsRenewal, Added, Refused, renewal}

-- ---- a context that a list contains

-- some context of the list, for which this holds
abbrev Held : List Context → (Context → Type 0) → Type 0
Held contexts P = (c : Context) × Contains contexts c × P c

held_first : (P : Context → Type 0) (c : Context) (contexts : List Context) → P c → Held (c ∷ contexts) P
held_first P c contexts h = (c, (0, omega arith, refl), h)

held_later : (P : Context → Type 0) (c : Context) (contexts : List Context) → Held contexts P → Held (c ∷ contexts) P
held_later P c contexts h = (h.0, (suc h.1.0, omega arith, h.1.2), h.2)

held_split : (P : Context → Type 0) (c : Context) (contexts : List Context) → Held (c ∷ contexts) P → P c ⊎ Held contexts P
held_split P c contexts h = split h.0 h.1.0 h.1.1 h.1.2 h.2 where
  split : (d : Context) (k : ℕ) → k < length (c ∷ contexts) → get_or (c ∷ contexts) k d ≡ d → P d → P c ⊎ Held contexts P
  split d zero within is holds = inl (subst P (sym is) holds)
  split d (suc k) within is holds = inr (d, (k, omega arith, is), holds)

held_none : (P : Context → Type 0) → Held [] P → ⊥
held_none P h = omega (arith, h.1.1)

filter_by : (P : Context → Type 0) (test : Context → Bool) (c : Context) (contexts : List Context) (passes : Bool) → test c ≡ passes
    → ((c : Context) → P c → test c ≡ true) → (Held contexts P → Held (filter test contexts) P) → P c ⊎ Held contexts P
    → Held (cond passes (c ∷ filter test contexts) (filter test contexts)) P
filter_by P test c contexts true e stays rest (inl here) = held_first P c (filter test contexts) here
filter_by P test c contexts false e stays rest (inl here) = absurd (both_ways (test c) e (stays c here))
filter_by P test c contexts true e stays rest (inr later) = held_later P c (filter test contexts) (rest later)
filter_by P test c contexts false e stays rest (inr later) = rest later

-- One that passes a test stays behind a filter.
held_filter : (P : Context → Type 0) (test : Context → Bool) (contexts : List Context) → ((c : Context) → P c → test c ≡ true)
    → Held contexts P → Held (filter test contexts) P
held_filter P test [] stays h = absurd (held_none P h)
held_filter P test (c ∷ contexts) stays h =
    filter_by P test c contexts (test c) refl stays (held_filter P test contexts stays) (held_split P c contexts h)

-- One of the list is one of the list behind a commit.
commit_by : (a : Attempt) (P : Context → Type 0) (c : Context) (contexts : List Context) (its : Bool) → ((c : Context) (index : ℕ) → P c → P (with_index index c))
    → (Held contexts P → Held (committed a contexts) P) → P c ⊎ Held contexts P → Held (committed_by a c contexts its) P
commit_by a P c contexts true keeps rest (inl here) = held_first P (with_index a.index c) contexts (keeps c a.index here)
commit_by a P c contexts false keeps rest (inl here) = held_first P c (committed a contexts) here
commit_by a P c contexts true keeps rest (inr later) = held_later P (with_index a.index c) contexts later
commit_by a P c contexts false keeps rest (inr later) = held_later P c (committed a contexts) (rest later)

held_commit : (a : Attempt) (P : Context → Type 0) (contexts : List Context) → ((c : Context) (index : ℕ) → P c → P (with_index index c))
    → Held contexts P → Held (committed a contexts) P
held_commit a P [] keeps h = absurd (held_none P h)
held_commit a P (c ∷ contexts) keeps h =
    rw (committed-cons a c contexts (is_its a c) refl)
    (commit_by a P c contexts (is_its a c) keeps (held_commit a P contexts keeps) (held_split P c contexts h))

-- And so is the attempt's.
its_by : (a : Attempt) (c : Context) (contexts : List Context) (its : Bool) → is_its a c ≡ its
    → Held (committed a contexts) (λ d. is_its a d ≡ true) → Held (committed_by a c contexts its) (λ d. is_its a d ≡ true)
its_by a c contexts true e rest = held_first (λ d. is_its a d ≡ true) (with_index a.index c) contexts e
its_by a c contexts false e rest = held_later (λ d. is_its a d ≡ true) c (committed a contexts) rest

held_its : (a : Attempt) (contexts : List Context) → Held (committed a contexts) (λ d. is_its a d ≡ true)
held_its a [] = rw (committed-nil a) (held_first (λ d. is_its a d ≡ true) (with_index a.index a.context) [] (same-refl a.context))
held_its a (c ∷ contexts) = rw (committed-cons a c contexts (is_its a c) refl) (its_by a c contexts (is_its a c) refl (held_its a contexts))

none_held : (a : Attempt) (contexts : List Context) → holds_none a contexts → Held contexts (λ d. is_its a d ≡ true) → ⊥
none_held a [] none h = held_none (λ d. is_its a d ≡ true) h
none_held a (c ∷ contexts) none h =
    let here = none_here a c contexts (is_its a c) refl none in
    elim (held_split (λ d. is_its a d ≡ true) c contexts h) [
      | inl its ↦ both_ways (is_its a c) here.0 its
      | inr later ↦ none_held a contexts here.1 later
    ]

-- ---- an SPI is added

-- What was accepted under a live SPI has its context, and no SPI was above the latest.
abbrev IsKeptOf : List ℕ → List Context → Acceptance → Type 0
IsKeptOf live contexts b = IsTrue (is_live live b.spi) → (c : Context) × Contains contexts c × IsTrue (is_under c b)

abbrev IsPast : List ℕ → Acceptance → Type 0
IsPast live b = MatchOption (latest live) ⊥ (λ last. b.spi ≤ last)

not_new : (o : Option ℕ) (live : List ℕ) (spi s : ℕ) → MatchOption o (live ≡ []) (λ last. last < spi) → MatchOption o ⊥ (λ last. s ≤ last) → spi ≡ s → ⊥
not_new None live spi s above past same = past
not_new (Some last) live spi s above past same = omega arith

renewed_kept : (held : Receiving) (spi : ℕ) (b : Acceptance) → IsAbove held.live spi → IsKeptOf held.live held.contexts b → IsPast held.live b
    → IsKeptOf (renewed spi held).live (renewed spi held).contexts b
renewed_kept held spi b above kept past = λ live.
    elim (renewed_live (still_live held.live) spi b.spi live) [
      | inl still ↦
          held_filter (λ c. is_under c b ≡ true) (λ c. is_live (still_live held.live) c.spi) held.contexts
          (λ c under. let parts = is_of-parts b.spi b.ssrc b.key c under in subst (λ s. is_live (still_live held.live) s ≡ true) (sym parts.0) still)
          (kept (still_there _ held.live b.spi still))
      | inr same ↦ absurd (not_new (latest held.live) held.live spi b.spi above.above past same)
    ]

renewed_past : (o p : Option ℕ) (live : List ℕ) (spi s : ℕ) → p ≡ Some spi → MatchOption o (live ≡ []) (λ last. last < spi) → MatchOption o ⊥ (λ last. s ≤ last)
    → MatchOption p ⊥ (λ last. s ≤ last)
renewed_past None p live spi s e above past = absurd past
renewed_past (Some last) p live spi s e above past = rw e (omega arith)

added_history : (held : Receiving) (spi : ℕ) (done : List Acceptance) → IsAbove held.live spi → IsHistory held done → IsHistory (renewed spi held) done
added_history held spi done above h = record {
  rising = increasing _ (renewed_rises held.live spi (rises held.live h.rising) above);
  live = λ k d within. live_push (still_live held.live) spi _ (filter_passes (λ c. is_live (still_live held.live) c.spi) held.contexts k d within);
  distinct = AllPairs-filter Apart (λ c. is_live (still_live held.live) c.spi) held.contexts h.distinct;
  accepted = All-filter (λ c. is_live (still_live held.live) c.spi) (λ c. c.accepted ≡ indices_under c done) held.contexts h.accepted;
  kept = λ k d within. renewed_kept held spi (get_or done k d) above (h.kept k d within) (h.past k d within);
  once = h.once;
  past = λ k d within. renewed_past (latest held.live) _ held.live spi _ (last_push None (still_live held.live) spi) above.above (h.past k d within);
}

renewal_history : (held after : Receiving) (spi : ℕ) (done : List Acceptance) → IsRenewal held spi after → IsHistory held done → IsHistory after done
renewal_history held after spi done (Added above is) h = rw is (added_history held spi done above h)
renewal_history held after spi done (Refused is) h = rw is h

-- ---- a packet is accepted

-- what is so of a context that a packet was accepted under
record IsAccepting (held : Receiving) (a : Attempt) (done : List Acceptance) : Type 0 where
  live : is_live held.live a.context.spi ≡ true
  accepted : a.context.accepted ≡ indices_under a.context done

under_none : (a : Attempt) (contexts : List Context) (live : List ℕ) (b : Acceptance) → holds_none a contexts → is_live live a.context.spi ≡ true
    → IsKeptOf live contexts b → is_under a.context b ≡ false
under_none a contexts live b none is_there kept =
    false_from_ne_true (is_under a.context b) (λ under.
    let parts = is_of-parts b.spi b.ssrc b.key a.context under in
    let found = kept (subst (λ s. is_live live s ≡ true) parts.0 is_there) in
    let its = is_of-parts b.spi b.ssrc b.key found.0 found.2 in
    none_held a contexts none
    (found.0, found.1, is_of-made a.context.spi a.context.ssrc a.context.key found.0 (its.0 ∙ sym parts.0) (its.1 ∙ sym parts.1) (its.2 ∙ sym parts.2)))

-- Nothing was accepted under a context that isn't held.
nothing_under : (a : Attempt) (contexts : List Context) (live : List ℕ) (done : List Acceptance) → holds_none a contexts → is_live live a.context.spi ≡ true
    → AllByRecursion (IsKeptOf live contexts) done → [] ≡ indices_under a.context done
nothing_under a contexts live [] none there kept = refl
nothing_under a contexts live (b ∷ done) none there kept =
    rw (under_none a contexts live b none there kept.0) (nothing_under a contexts live done none there kept.1)

carried_live : (live : List ℕ) (carried : Option Carried) (key : Carried) → carried ≡ Some key → IfSome carried (λ c. IsTrue (is_live live c.spi))
    → is_live live key.spi ≡ true
carried_live live None key e h = absurd (cc)
carried_live live (Some other) key e h = let same : other ≡ key = cc in subst (λ c. is_live live c.spi ≡ true) same h

accepting_by : (held : Receiving) (ssrc : ℕ) (carried : Option Carried) (a : Attempt) (done : List Acceptance) (c : Context) → c ≡ a.context
    → IsTriedContext held.contexts ssrc carried c → IfSome carried (λ c. IsTrue (is_live held.live c.spi)) → IsHistory held done → IsAccepting held a done
accepting_by held ssrc carried a done c same (IsHeld there) live h =
    let it : Contains held.contexts a.context = subst (λ d. Contains held.contexts d) same there in record {
      live = All-contains (λ c. IsTrue (is_live held.live c.spi)) held.contexts a.context h.live it;
      accepted = All-contains (λ c. c.accepted ≡ indices_under c done) held.contexts a.context h.accepted it;
    }
accepting_by held ssrc carried a done c same (IsNew key e new none full) live h =
    let is = sym same ∙ new in
    let its_live : is_live held.live a.context.spi ≡ true = rw is (carried_live held.live carried key e live) in
    let its_none : holds_none a held.contexts = subst (λ c. find (is_of c.spi c.ssrc c.key) held.contexts ≡ None) (sym is) none in record {
      live = its_live;
      accepted = ap (λ c. c.accepted) is ∙ nothing_under a held.contexts held.live done its_none its_live
          (recursion_from_All (IsKeptOf held.live held.contexts) done h.kept);
    }

-- A fresh index wasn't accepted under it before.
index_by : (c : Context) (index : ℕ) (b : Acceptance) (done : List Acceptance) (under : Bool) → is_under c b ≡ under
    → has (map (λ b. b.index) (cond under (b ∷ filter (is_under c) done) (filter (is_under c) done))) index ≡ false
    → (is_under c b ≡ true → b.index ≡ index → ⊥) × (has (indices_under c done) index ≡ false)
index_by c index b done true e h =
    let parts = or_parts (b.index == index) (has (indices_under c done) index) h in (λ _. eqb-false b.index index parts.0, parts.1)
index_by c index b done false e h = (λ under. absurd (both_ways (is_under c b) e under), h)

index_new : (c : Context) (index : ℕ) (done : List Acceptance) → has (indices_under c done) index ≡ false
    → AllByRecursion (λ b. is_under c b ≡ true → b.index ≡ index → ⊥) done
index_new c index [] h = tt
index_new c index (b ∷ done) h =
    let parts = index_by c index b done (is_under c b) refl h in (parts.0, index_new c index done parts.1)

differs : (a : Attempt) (done : List Acceptance) → AllByRecursion (λ b. is_under a.context b ≡ true → b.index ≡ a.index → ⊥) done
    → AllByRecursion (λ b. acceptance_of a ≢ b) done
differs a [] h = tt
differs a (b ∷ done) h =
    (λ same. h.0 (subst (λ x. is_under a.context x ≡ true) same (same-refl a.context)) (ap (λ x. x.index) (sym same)), differs a done h.1)

under_by : (a : Attempt) (done : List Acceptance) (c : Context) (under : Bool) → is_its a c ≡ under
    → indices_under c (acceptance_of a ∷ done) ≡ cond under (a.index ∷ indices_under c done) (indices_under c done)
under_by a done c true e = rw e refl
under_by a done c false e = rw e refl

accepted_history : (held : Receiving) (ssrc : ℕ) (carried : Option Carried) (a : Attempt) (done : List Acceptance) → IsCommit held ssrc carried a
    → IsHistory held done → IsHistory (record held { contexts = committed a held.contexts }) (acceptance_of a ∷ done)
accepted_history held ssrc carried a done commit h =
    let fits : a.index % 65536 < 65536 = omega arith in
    let tried = is_tried held.contexts ssrc (a.index % 65536) carried a fits commit.tried in
    let it = accepting_by held ssrc carried a done a.context refl tried.context commit.live h in
    let apart = pairs-from Apart held.contexts h.distinct in
    let fresh = fresh_has a.context.accepted a.index commit.fresh in
    let all_done = AllByRecursion (IsKeptOf held.live held.contexts) in record {
      rising = h.rising;
      live = All-from_recursion _ _ (committed_all a (λ c. IsTrue (is_live held.live c.spi)) (λ c. IsTrue (is_live held.live c.spi)) held.contexts
          (record { other = λ c _ live. live; its = λ c _ live. live }) (λ _. it.live) apart (recursion_from_All _ held.contexts h.live));
      distinct = pairs-to Apart _ (committed_distinct a held.contexts apart);
      accepted = All-from_recursion _ _ (committed_all a (λ c. c.accepted ≡ indices_under c done) (λ c. c.accepted ≡ indices_under c (acceptance_of a ∷ done)) held.contexts
          (record {
            other = λ c e was. was ∙ sym (under_by a done c false e);
            its = λ c e was. ap (λ l. a.index ∷ l) was ∙ sym (under_by a done (with_index a.index c) true e);
          })
          (λ _. ap (λ l. a.index ∷ l) it.accepted ∙ sym (under_by a done (with_index a.index a.context) true (same-refl a.context)))
          apart (recursion_from_All _ held.contexts h.accepted));
      kept = All-cons (IsKeptOf held.live (committed a held.contexts)) (acceptance_of a) done (λ _. held_its a held.contexts)
          (λ k d within live. held_commit a _ held.contexts (λ c index under. under) (h.kept k d within live));
      once = AllPairs-cons (λ x y. x ≢ y) (acceptance_of a) done
          (All-from_recursion _ done (differs a done (index_new a.context a.index done (rw (← it.accepted) fresh)))) h.once;
      past = All-cons (IsPast held.live) (acceptance_of a) done (live_latest held.live a.context.spi (rises held.live h.rising) it.live) h.past;
    }

-- ---- any calls

-- Each call keeps what is always so.
pub each_call : (held : Receiving) (done : List Acceptance) (call : Call) → IsHistory held done → IsCall held call
    → IsHistory (after_call held call) (accepted_by (call ∷ []) done)
each_call held done (Renew spi) h may = renewal_history held _ spi done (renewal held spi) h
each_call held done (Commit ssrc carried attempt) h may = accepted_history held ssrc carried attempt done may h

-- Nothing is held at the start, and nothing was accepted.
pub nothing_history : IsHistory nothing_held []
nothing_history = record {
  rising = λ k within. absurd (omega arith);
  live = All-nil _;
  distinct = λ i j d below within. absurd (omega arith);
  accepted = All-nil _;
  kept = All-nil _;
  once = λ i j d below within. absurd (omega arith);
  past = All-nil _;
}

-- So it is after any calls.
pub history_after : (calls : List Call) (held : Receiving) (done : List Acceptance) → IsHistory held done → AreCalls held calls
    → IsHistory (after_calls held calls) (accepted_by calls done)
history_after [] held done h are = h
history_after (Renew spi ∷ calls) held done h are = history_after calls _ done (each_call held done (Renew spi) h are.0) are.1
history_after (Commit ssrc carried attempt ∷ calls) held done h are =
    history_after calls _ (acceptance_of attempt ∷ done) (each_call held done (Commit ssrc carried attempt) h are.0) are.1

pub any_calls : (calls : List Call) → AreCalls nothing_held calls → IsHistory (after_calls nothing_held calls) (accepted_by calls [])
any_calls calls are = history_after calls nothing_held [] nothing_history are
