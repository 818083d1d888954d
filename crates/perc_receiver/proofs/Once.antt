-- Over any calls: what is accepted was sent, and once.
use Rattle.std.proofs.Common.{◌≡◌, ℕ, ◌+◌, ◌-◌, ◌<◌, ◌≤◌, Bool, true, false, List, [], ◌∷◌, ◌++◌, length, map, drop, get_or, Option, Some, None, Result, Ok, Err, inl, inr, refl, ap, ◌∙◌, sym, subst, arith}
use Rattle.std.specs.Prelude.{◌==◌, nat_le, All, AllPairs, Contains, MatchOption}
use Rattle.std.specs.Option.{option_or}
use Rattle.std.specs.List.{AllByRecursion}
use Rattle.std.proofs.lemmas.Bool.{cases_order, eq-eqb, leb-false, ne_eqb}
use Rattle.std.proofs.lemmas.List.{append-nil, append_assoc, get_or-map, get_or_default, length-map}
use Rattle.std.proofs.lemmas.List.Elements.{All-cons, All-drop, All-from_recursion, All-nil, All-push, All-weaker, recursion_from_All}
use Rattle.std.proofs.lemmas.List.Folds.{find-append}
use Rattle.perc_kdf.specs.Derivation.{KeyAndSalt}
use Rattle.perc_contexts.specs.declared.SpiOld.{SpiOld}
use Rattle.perc_contexts.specs.Receiving.{Receiving, latest, nothing_held, spi_answer, still_live}
use Rattle.perc_contexts.specs.History.{Acceptance, IsHistory, Renew, acceptance_of}
use Rattle.perc_contexts.proofs.Histories as histories
use Rattle.perc_contexts.proofs.LiveLaws.{last_push}
use Rattle.perc_receiver.specs.declared.refusal.Refusal.{Refusal}
use Rattle.perc_receiver.specs.Table.{AreOtherRows, AreSecrets, IsRight, IsSecret, Row, Secret, Table, secret_of}
use Rattle.perc_receiver.specs.Opener.{Opener, by_cipher}
use Rattle.perc_receiver.specs.Receiver.{Accepted, Receiver, granted, heard, ideal, live_of, outcome, receiving}
use Rattle.perc_receiver.specs.Foreign.{is_foreign}
use Rattle.perc_receiver.specs.Calls.{AcceptedOnce, AreCalls, AreOthers, Call, Grant, Hear, IsConsistent, IsHolding, IsRow, IsSent, acceptances, accepts, after_call, after_grant, secrets_of, started, with_answer, with_grant}
use Rattle.perc_receiver.proofs.Agreeing.{outcome_is_ideal}
use Rattle.perc_receiver.proofs.Taken.{ideal_sent}
use Rattle.perc_receiver.proofs.Calling.{each_call, granted_live, heard_secrets}

-- ---- secrets of a longer list

pub secret_more : (issued more : List Secret) (spi : ℕ) (s : Secret) → secret_of issued spi ≡ Some s → secret_of (issued ++ more) spi ≡ Some s
secret_more issued more spi s e =
    find-append (λ (t : Secret). t.spi == spi) issued more ∙ ap (λ (o : Option Secret). option_or o (secret_of more spi)) e

secret_none : (issued : List Secret) (spi : ℕ) → AllByRecursion (λ s. s.spi < spi) issued → secret_of issued spi ≡ None
secret_none [] spi below = refl
secret_none (s ∷ issued) spi below =
    let lower = below.0 in
    rw (ne_eqb s.spi spi (λ same. omega arith)) (secret_none issued spi below.1)

one_secret : (s : Secret) → secret_of (s ∷ []) s.spi ≡ Some s
one_secret s = rw (eq-eqb s.spi s.spi refl) refl

secret_new : (issued : List Secret) (s : Secret) → AllByRecursion (λ t. t.spi < s.spi) issued → secret_of (issued ++ s ∷ []) s.spi ≡ Some s
secret_new issued s below =
    find-append (λ (t : Secret). t.spi == s.spi) issued (s ∷ [])
    ∙ ap (λ (o : Option Secret). option_or o (secret_of (s ∷ []) s.spi)) (secret_none issued s.spi below)
    ∙ one_secret s

-- More secrets may be issued.
pub holding_more : (issued more : List Secret) (r : Receiver) → IsHolding issued r → IsHolding (issued ++ more) r
holding_more issued more r h = record {
  secrets = h.secrets;
  known = All-weaker (λ (s : Secret). secret_of issued s.spi ≡ Some s) (λ (s : Secret). secret_of (issued ++ more) s.spi ≡ Some s)
      (λ s e. secret_more issued more s.spi s e) r.secrets h.known;
  live = h.live;
}

-- A receiver that is granted an issued secret holds issued ones, where its contexts agree with what it accepted;
pub granted_holding : (issued : List Secret) (r : Receiver) (s : Secret) (done : List Accepted) → IsHolding issued r → IsSecret s → secret_of issued s.spi ≡ Some s
    → IsConsistent (granted s r) done → IsHolding issued (granted s r)
granted_holding issued r s done h right known consistent =
    let n : ℕ = length r.secrets + 1 - 4 in
    let test = λ (t : Secret). secret_of issued t.spi ≡ Some t in record {
      secrets = record {
        right = All-push IsSecret (drop n r.secrets) s (All-drop IsSecret n r.secrets h.secrets.right) right;
        rising = consistent.rising;
      };
      known = All-push test (drop n r.secrets) s (All-drop test n r.secrets h.known) known;
      live = consistent.live;
    }

-- and so does one that heard a datagram, whoever answers.
pub heard_holding : (f : Opener) (issued : List Secret) (r : Receiver) (datagram : List ℕ) (done : List Accepted) → IsHolding issued r
    → IsConsistent (heard f r datagram).1 done → IsHolding issued (heard f r datagram).1
heard_holding f issued r datagram done h consistent =
    let secrets : r.secrets ≡ (heard f r datagram).1.secrets = sym (heard_secrets f r datagram) in record {
      secrets = subst AreSecrets secrets h.secrets;
      known = subst (λ (held : List Secret). All (λ (s : Secret). secret_of issued s.spi ≡ Some s) held) secrets h.known;
      live = consistent.live;
    }

-- ---- what is always so

-- An SPI isn't above the latest of these, of which there is one.
abbrev pub IsPast : List ℕ → Secret → Type 0
IsPast live s = MatchOption (latest live) ⊥ (λ last. s.spi ≤ last)

-- A receiver holds issued secrets, of which none is above its latest; its contexts agree with what it accepted; and that was sent.
pub record IsSound (issued : List Secret) (table : Table) (r : Receiver) (done : List Accepted) : Type 0 where
  pub holding : IsHolding issued r
  pub past : All (IsPast (live_of r.secrets)) issued
  pub consistent : IsConsistent r done
  pub sent : All (IsSent table) done

-- ---- a grant

above_by : (o : Option ℕ) (live : List ℕ) (spi s : ℕ) (retires : Option ℕ) → latest live ≡ o → spi_answer live spi ≡ Ok retires → MatchOption o ⊥ (λ last. s ≤ last) → s < spi
above_by None live spi s retires e answer past = absurd past
above_by (Some last) live spi s retires e answer past = last_by (nat_le spi last) refl where
  last_by : (old : Bool) → nat_le spi last ≡ old → s < spi
  last_by true f = let bad : ◌≡◌ {A = Result (Option ℕ) SpiOld} (Err (record { 0 = last })) (Ok retires) = rw (e, f) at answer in absurd (cc)
  last_by false f = let above = leb-false spi last f in omega arith

all_below : (live : List ℕ) (spi : ℕ) (retires : Option ℕ) (issued : List Secret) → spi_answer live spi ≡ Ok retires → AllByRecursion (IsPast live) issued
    → AllByRecursion (λ s. s.spi < spi) issued
all_below live spi retires [] answer past = tt
all_below live spi retires (s ∷ issued) answer past =
    (above_by (latest live) live spi s.spi retires refl answer past.0, all_below live spi retires issued answer past.1)

past_all : (issued : List Secret) (live : List ℕ) (spi : ℕ) → latest live ≡ Some spi → AllByRecursion (λ s. s.spi < spi) issued → AllByRecursion (IsPast live) issued
past_all [] live spi e below = tt
past_all (s ∷ issued) live spi e below = let lower = below.0 in (rw e (omega arith), past_all issued live spi e below.1)

grant_by : (issued : List Secret) (table : Table) (r : Receiver) (s : Secret) (done : List Accepted) (answer : Result (Option ℕ) SpiOld) → IsSound issued table r done
    → IsSecret s → spi_answer (live_of r.secrets) s.spi ≡ answer → IsConsistent (after_grant r s answer) done
    → IsSound (with_grant s answer issued) table (after_grant r s answer) done
grant_by issued table r s done (Err old) sound right e consistent = sound
grant_by issued table r s done (Ok retires) sound right e consistent =
    let below = all_below (live_of r.secrets) s.spi retires issued e (recursion_from_All (IsPast (live_of r.secrets)) issued sound.past) in
    let last : latest (live_of (granted s r).secrets) ≡ Some s.spi = ap latest (granted_live s r) ∙ last_push None (still_live (live_of r.secrets)) s.spi in
    let itself : IsPast (live_of (granted s r).secrets) s = rw last (omega arith) in record {
      holding = granted_holding (issued ++ s ∷ []) r s done (holding_more issued (s ∷ []) r sound.holding) right (secret_new issued s below) consistent;
      past = All-push (IsPast (live_of (granted s r).secrets)) issued s
          (All-from_recursion (IsPast (live_of (granted s r).secrets)) issued (past_all issued (live_of (granted s r).secrets) s.spi last below)) itself;
      consistent = consistent;
      sent = sound.sent;
    }

-- A grant of a right secret keeps it.
pub grant_sound : (issued : List Secret) (table : Table) (r : Receiver) (s : Secret) (done : List Accepted) → IsSound issued table r done → IsSecret s
    → IsSound (with_grant s (spi_answer (live_of r.secrets) s.spi) issued) table (after_call r (Grant s)) done
grant_sound issued table r s done sound right =
    grant_by issued table r s done (spi_answer (live_of r.secrets) s.spi) sound right refl (each_call r (Grant s) done sound.consistent)

-- ---- a datagram

sent_by : (table : Table) (done : List Accepted) (answer : Result Accepted Refusal) → ((a : Accepted) → answer ≡ Ok a → IsSent table a) → All (IsSent table) done
    → All (IsSent table) (with_answer answer done)
sent_by table done (Err e) ok all = all
sent_by table done (Ok a) ok all = All-cons (IsSent table) a done (ok a refl) all

-- A datagram that isn't foreign keeps it, where the table is right for the secrets that were issued, and perhaps more.
pub hear_sound : (issued more : List Secret) (table : Table) (r : Receiver) (datagram : List ℕ) (done : List Accepted) → IsSound issued table r done
    → IsRight (issued ++ more) table → is_foreign table r datagram ≡ false
    → IsSound issued table (after_call r (Hear datagram)) (with_answer (outcome r datagram).0 done)
hear_sound issued more table r datagram done sound right known =
    let same = outcome_is_ideal (issued ++ more) table r datagram (holding_more issued more r sound.holding) right known in
    let answer : (outcome r datagram).0 ≡ (ideal table r datagram).0 = ap (λ (x : Result Accepted Refusal × Receiver). x.0) same in
    let secrets : r.secrets ≡ (outcome r datagram).1.secrets = sym (heard_secrets (by_cipher r.secrets) r datagram) in
    let consistent = each_call r (Hear datagram) done sound.consistent in record {
      holding = heard_holding (by_cipher r.secrets) issued r datagram (with_answer (outcome r datagram).0 done) sound.holding consistent;
      past = subst (λ (held : List Secret). All (IsPast (live_of held)) issued) secrets sound.past;
      consistent = consistent;
      sent = sent_by table done (outcome r datagram).0 (λ a e. ideal_sent (issued ++ more) table r datagram a right (sym answer ∙ e)) sound.sent;
    }

-- More rows may be sent.
pub sound_table : (issued : List Secret) (table next : Table) (r : Receiver) (done : List Accepted)
    → ((row : Row) → Contains table.rows row → Contains next.rows row) → IsSound issued table r done → IsSound issued next r done
sound_table issued table next r done stays sound = record {
  holding = sound.holding;
  past = sound.past;
  consistent = sound.consistent;
  sent = All-weaker (IsSent table) (IsSent next) (λ a sent. (sent.0, stays sent.0 sent.1, sent.2)) done sound.sent;
}

-- ---- accepted once

row_at : (rows : List Row) (a b : Row) (i j : ℕ) → i ≡ j → i < length rows → get_or rows i a ≡ a → get_or rows j b ≡ b → a ≡ b
row_at rows a b i j same within is_a is_b =
    sym is_a ∙ get_or_default rows i a b within ∙ ap (λ (k : ℕ). get_or rows k b) same ∙ is_b

others_at : (rows : List Row) (a b : Row) (i j : ℕ) → AllPairs AreOtherRows rows → i < j → j < length rows → get_or rows i a ≡ a → get_or rows j b ≡ b → AreOtherRows a b
others_at rows a b i j others below within is_a is_b =
    let second : get_or rows j a ≡ b = get_or_default rows j a b within ∙ is_b in
    subst (λ (y : Row). AreOtherRows a y) second (subst (λ (x : Row). AreOtherRows x (get_or rows j a)) is_a (others i j a below within))

-- Rows with one SSRC and one index are one row.
pub one_row : (rows : List Row) (a b : Row) → AllPairs AreOtherRows rows → Contains rows a → Contains rows b → a.ssrc ≡ b.ssrc → a.index ≡ b.index → a ≡ b
one_row rows a b others in_a in_b ssrc index =
    elim (cases_order in_a.0 in_b.0) [
      | inl same ↦ row_at rows a b in_a.0 in_b.0 same in_a.1 in_a.2 in_b.2
      | inr other ↦
          elim other [
            | inl before ↦ absurd (others_at rows a b in_a.0 in_b.0 others before in_b.1 in_a.2 in_b.2 ssrc index)
            | inr behind ↦ absurd (others_at rows b a in_b.0 in_a.0 others behind in_a.1 in_b.2 in_a.2 (sym ssrc) (sym index))
          ]
    ]

-- Two accepted packets of one SSRC and index are one acceptance.
one_acceptance : (table : Table) (a b : Accepted) → AllPairs AreOtherRows table.rows → IsSent table a → IsSent table b
    → a.attempt.context.ssrc ≡ b.attempt.context.ssrc → a.attempt.index ≡ b.attempt.index → acceptance_of a.attempt ≡ acceptance_of b.attempt
one_acceptance table a b others of_a of_b ssrc index =
    let p : IsRow of_a.0 a = of_a.2 in
    let q : IsRow of_b.0 b = of_b.2 in
    let same : of_a.0 ≡ of_b.0 =
    one_row table.rows of_a.0 of_b.0 others of_a.1 of_b.1 (sym p.ssrc ∙ ssrc ∙ q.ssrc) (sym p.index ∙ index ∙ q.index) in
    let spi : a.attempt.context.spi ≡ b.attempt.context.spi = p.spi ∙ ap (λ (x : Row). x.spi) same ∙ sym q.spi in
    let key : a.attempt.context.key ≡ b.attempt.context.key = p.key ∙ ap (λ (x : Row). x.key) same ∙ sym q.key in
    λ i. record { spi = spi i; ssrc = ssrc i; key = key i; index = index i }

pub accepted_others : (table : Table) (held : Receiving) (done : List Accepted) → AllPairs AreOtherRows table.rows → IsHistory held (acceptances done)
    → All (IsSent table) done → AllPairs AreOthers done
accepted_others table held done others h sent i j d below within ssrc index =
    let f : Accepted → Acceptance = λ a. acceptance_of a.attempt in
    let first : i < length done = omega arith in
    let long : j < length (map f done) = subst (λ (n : ℕ). j < n) (sym (length-map done f)) within in
    let same = one_acceptance table (get_or done i d) (get_or done j d) others (sent i d first) (sent j d within) ssrc index in
    h.once i j (f d) below long (get_or-map f done i d (f d) first ∙ same ∙ sym (get_or-map f done j d (f d) within))

-- ---- any calls

more_by : (r : Receiver) (s : Secret) (issued : List Secret) (answer : Result (Option ℕ) SpiOld) → (more : List Secret) × (with_grant s answer issued ≡ issued ++ more)
more_by r s issued (Ok retires) = (s ∷ [], refl)
more_by r s issued (Err old) = ([], sym (append-nil issued))

-- Calls add to the secrets.
pub secrets_of_more : (calls : List Call) (r : Receiver) (issued : List Secret) → (more : List Secret) × (secrets_of r calls issued ≡ issued ++ more)
secrets_of_more [] r issued = ([], sym (append-nil issued))
secrets_of_more (Grant s ∷ calls) r issued =
    let one = more_by r s issued (spi_answer (live_of r.secrets) s.spi) in
    let rest = secrets_of_more calls (after_call r (Grant s)) (with_grant s (spi_answer (live_of r.secrets) s.spi) issued) in
    (one.0 ++ rest.0, rest.1 ∙ ap (λ (l : List Secret). l ++ rest.0) one.1 ∙ append_assoc issued one.0 rest.0)
secrets_of_more (Hear datagram ∷ calls) r issued = secrets_of_more calls (after_call r (Hear datagram)) issued

pub once_after : (table : Table) (calls : List Call) (r : Receiver) (issued : List Secret) (done : List Accepted) → IsSound issued table r done → AreCalls table r calls
    → IsRight (secrets_of r calls issued) table → AcceptedOnce table (accepts r calls done)
once_after table [] r issued done sound are right = record {
  as_sent = sound.sent;
  once = accepted_others table (receiving r) done right.one_row sound.consistent sound.sent;
}
once_after table (Grant s ∷ calls) r issued done sound are right =
    once_after table calls (after_call r (Grant s)) (with_grant s (spi_answer (live_of r.secrets) s.spi) issued) done
    (grant_sound issued table r s done sound are.0) are.1 right
once_after table (Hear datagram ∷ calls) r issued done sound are right =
    let rest = secrets_of_more calls (after_call r (Hear datagram)) issued in
    once_after table calls (after_call r (Hear datagram)) issued (with_answer (outcome r datagram).0 done)
    (hear_sound issued rest.0 table r datagram done sound (subst (λ (l : List Secret). IsRight l table) rest.1 right) are.0) are.1 right

-- It is so of a receiver that was just started.
pub started_sound : (table : Table) (ssrc : ℕ) (server : KeyAndSalt) (first : Secret) → IsSecret first → IsSound (first ∷ []) table (started ssrc server first) []
started_sound table ssrc server first right =
    let h : IsHistory (receiving (started ssrc server first)) [] = histories.each_call nothing_held [] (Renew first.spi) histories.nothing_history tt in record {
      holding = record {
        secrets = record { right = All-cons IsSecret first [] right (All-nil IsSecret); rising = h.rising };
        known = All-cons (λ (s : Secret). secret_of (first ∷ []) s.spi ≡ Some s) first [] (one_secret first) (All-nil _);
        live = h.live;
      };
      past = All-cons (IsPast (first.spi ∷ [])) first [] (omega arith) (All-nil _);
      consistent = h;
      sent = All-nil _;
    }

pub accepted_once : (table : Table) (ssrc : ℕ) (server : KeyAndSalt) (first : Secret) (calls : List Call) → IsSecret first
    → AreCalls table (started ssrc server first) calls → IsRight (secrets_of (started ssrc server first) calls (first ∷ [])) table
    → AcceptedOnce table (accepts (started ssrc server first) calls [])
accepted_once table ssrc server first calls secret are right =
    once_after table calls (started ssrc server first) (first ∷ []) [] (started_sound table ssrc server first secret) are right
