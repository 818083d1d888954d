-- No nonce is taken twice: by one worker over its calls, and by two workers.
use Rattle.std.proofs.Common.{◌≡◌, ◌≢◌, ℕ, suc, ◌+◌, true, false, not, List, [], ◌∷◌, ◌++◌, map, Option, inl, inr, refl, sym, ap, subst, ◌∙◌, append_assoc, arith}
use Rattle.std.specs.Prelude.{◌&&◌, All, AllPairs, Contains, filter}
use Rattle.std.proofs.lemmas.Bool.{cases_eq, cases_Bool}
use Rattle.std.proofs.lemmas.Bool.Decides.{nat_tests}
use Rattle.std.proofs.lemmas.List.{append-nil}
use Rattle.std.proofs.lemmas.List.Elements.{All-contains_itself, All-filter, All-head, All-nil, All-push, All-tail, All-weaker}
use Rattle.std.proofs.lemmas.List.Quantifiers.{all_pairs_push}
use Rattle.perc_ohb.specs.Rewriting.{Rewrite}
use Rattle.perc_keyset.specs.Set.{fold_ops, is_of}
use Rattle.perc_keyset.specs.History.{AreHeldInTurn, IsHistory}
use Rattle.perc_keyset.specs.declared.Op.{Op}
use Rattle.perc_keyset.specs.declared.Entry.{Entry}
use Rattle.perc_keyset.proofs.HistoryLaws.{never_again, prefixes, same_server}
use Rattle.perc_keyset.proofs.Lists.{Contains-cons_cases}
use Rattle.perc_distributor.specs.Inbound.{Packet, in_set}
use Rattle.perc_distributor.specs.Forwarding.{Sealing, is_named, is_owned, media_step, recipients, sealing_of, sent_each, sent_from, sent_to, source_of, with_sealing}
use Rattle.perc_forwarding.specs.Runs.{AreSound, Call, IsSound, Nonce, Seal, call_sealing, call_seals, nonce_of, published, run_seals, seals_each, seals_from, seals_to, step_seals}
use Rattle.perc_forwarding.proofs.Sharing.{kept_in, kept_past, kept_with, member_in, step_serial}
use Rattle.perc_forwarding.proofs.Sealing.{AreOne, InRange, IsRecorded, KeepsAll, OneSeal, clash, to_seals}

-- ---- what is known of the seals so far

-- A seal was made for an entry of an earlier set; and while its serial is in the set, what is kept of it has the seal.
pub record Knows (ops : List Op) (sealing : List Sealing) (p : Seal) : Type 0 where
  pub early : List Op
  pub late : List Op
  pub split : ops ≡ early ++ late
  pub held : Contains (fold_ops early) p.entry
  pub range : InRange p.kind p.ssrc p.index
  pub recorded : in_set (fold_ops ops) p.entry.serial ≡ true → IsRecorded p.kind (sealing_of sealing p.entry.serial) p.ssrc p.index

abbrev pub Differ : Seal → Seal → Type 0
Differ a b = nonce_of a ≢ nonce_of b

pub record Run (ops : List Op) (sealing : List Sealing) (seals : List Seal) : Type 0 where
  pub history : IsHistory ops
  pub known : All (Knows ops sealing) seals
  pub apart : AllPairs Differ seals

-- ---- one more seal

-- It has no nonce of one before.
other_nonce : (ops : List Op) (sealing : List Sealing) (after : Sealing) (e : Entry) (p u : Seal) → IsHistory ops → Contains (fold_ops ops) e → Knows ops sealing p
    → OneSeal (sealing_of sealing e.serial) after e u → Differ p u
other_nonce ops sealing after e p u history member k one = λ same.
    let server : p.entry.server ≡ e.server = ap (λ (n : Nonce). n.master) same ∙ ap (λ (x : Entry). x.server) one.entry in
    let turn : AreHeldInTurn k.early k.late p.entry e = record {
      history = subst IsHistory k.split history;
      early = k.held;
      late = subst (λ (o : List Op). Contains (fold_ops o) e) k.split member;
    } in
    let is : p.entry ≡ e = same_server k.early k.late p.entry e turn server in
    let there : in_set (fold_ops ops) p.entry.serial ≡ true = ap (λ (x : Entry). in_set (fold_ops ops) x.serial) is ∙ member_in (fold_ops ops) e member in
    let old : IsRecorded p.kind (sealing_of sealing e.serial) p.ssrc p.index =
    subst (λ (x : Entry). IsRecorded p.kind (sealing_of sealing x.serial) p.ssrc p.index) is (k.recorded there) in
    clash p.kind u.kind p.entry u.entry p.ssrc p.index u.ssrc u.index (sealing_of sealing e.serial) (is ∙ sym one.entry) (ap (λ (n : Nonce). n.kind) same) (ap (λ (n : Nonce). n.iv) same) k.range one.range old one.new

-- What was known stays known,
knows_still : (ops : List Op) (sealing : List Sealing) (after : Sealing) (e : Entry) (p : Seal) → after.serial ≡ e.serial → KeepsAll (sealing_of sealing e.serial) after → Knows ops sealing p
    → Knows ops (with_sealing after sealing) p
knows_still ops sealing after e p its keeps k = record {
  early = k.early;
  late = k.late;
  split = k.split;
  held = k.held;
  range = k.range;
  recorded = λ member.
      elim (cases_eq p.entry.serial e.serial) [
        | inl same ↦
            let old : IsRecorded p.kind (sealing_of sealing e.serial) p.ssrc p.index =
            subst (λ (n : ℕ). IsRecorded p.kind (sealing_of sealing n) p.ssrc p.index) same (k.recorded member) in
            subst (λ (s : Sealing). IsRecorded p.kind s p.ssrc p.index) (sym (kept_with sealing after p.entry.serial (same ∙ sym its))) (keeps p.kind p.ssrc p.index old)
        | inr apart ↦
            subst (λ (s : Sealing). IsRecorded p.kind s p.ssrc p.index) (sym (kept_past sealing after p.entry.serial (λ is. apart (is ∙ its)))) (k.recorded member)
      ];
}

-- and the new one is known.
knows_new : (ops : List Op) (sealing : List Sealing) (after : Sealing) (e : Entry) (u : Seal) → Contains (fold_ops ops) e → after.serial ≡ e.serial → OneSeal (sealing_of sealing e.serial) after e u
    → Knows ops (with_sealing after sealing) u
knows_new ops sealing after e u member its one = record {
  early = ops;
  late = [];
  split = sym (append-nil ops);
  held = subst (Contains (fold_ops ops)) (sym one.entry) member;
  range = one.range;
  recorded = λ there.
      subst (λ (s : Sealing). IsRecorded u.kind s u.ssrc u.index) (sym (kept_with sealing after u.entry.serial (ap (λ (x : Entry). x.serial) one.entry ∙ sym its))) one.kept;
}

run_by : (ops : List Op) (sealing : List Sealing) (after : Sealing) (e : Entry) (before new : List Seal) → Contains (fold_ops ops) e
    → after.serial ≡ e.serial → KeepsAll (sealing_of sealing e.serial) after
    → AreOne (sealing_of sealing e.serial) after e new → Run ops sealing before → Run ops (with_sealing after sealing) (before ++ new)
run_by ops sealing after e before [] member its keeps are r =
    subst (Run ops (with_sealing after sealing)) (sym (append-nil before)) (record {
      history = r.history;
      known = All-weaker (Knows ops sealing) (Knows ops (with_sealing after sealing)) (λ p. knows_still ops sealing after e p its keeps) before r.known;
      apart = r.apart;
    })
run_by ops sealing after e before (u ∷ []) member its keeps are r = record {
  history = r.history;
  known =
      All-push (Knows ops (with_sealing after sealing)) before u
      (All-weaker (Knows ops sealing) (Knows ops (with_sealing after sealing)) (λ p. knows_still ops sealing after e p its keeps) before r.known)
      (knows_new ops sealing after e u member its are);
  apart =
      all_pairs_push Differ before u r.apart
      (All-weaker (Knows ops sealing) (λ (p : Seal). Differ p u) (λ p k. other_nonce ops sealing after e p u r.history member k are) before r.known);
}
run_by ops sealing after e before (u ∷ v ∷ new) member its keeps are r = absurd are

-- ---- a packet, a batch

run_each : (ops : List Op) (es : List Entry) (place : ℕ) (change : Rewrite) (packet : Packet) (sealing : List Sealing) (before : List Seal) → All (Contains (fold_ops ops)) es → IsSound packet
    → Run ops sealing before → Run ops (sent_each es place change packet sealing).1 (before ++ seals_each es place change packet sealing)
run_each ops [] place change packet sealing before members sound r = subst (Run ops sealing) (sym (append-nil before)) r
run_each ops (e ∷ es) place change packet sealing before members sound r =
    let s = sealing_of sealing e.serial in
    let after = (sent_to s e place change packet).1 in
    let new : List Seal = seals_to s e change packet in
    let made = to_seals s e place change packet sound in
    let one = run_by ops sealing after e before new (All-head (Contains (fold_ops ops)) e es members) (step_serial sealing e place change packet) made.keeps made.are r in
    let rest = run_each ops es place change packet (with_sealing after sealing) (before ++ new) (All-tail (Contains (fold_ops ops)) e es members) sound one in
    subst (Run ops (sent_each es place change packet (with_sealing after sealing)).1) (append_assoc before new (seals_each es place change packet (with_sealing after sealing))) rest

run_from : (ops : List Op) (number of place : ℕ) (batch : List Packet) (change : Rewrite) (only : Option (List (List ℕ))) (sealing : List Sealing) (before : List Seal)
    → All IsSound batch → Run ops sealing before
    → Run ops (sent_from number of (fold_ops ops) place batch change only sealing).1 (before ++ seals_from number of (fold_ops ops) place batch change only sealing)
run_from ops number of place [] change only sealing before sound r = subst (Run ops sealing) (sym (append-nil before)) r
run_from ops number of place (packet ∷ batch) change only sealing before sound r =
    let set : List Entry = fold_ops ops in
    let to : List Entry = recipients number of set only packet in
    let members : All (Contains set) to = All-filter (λ e. is_owned number of e && not (is_of (source_of packet) e) && is_named only e) (Contains set) set (All-contains_itself set) in
    let after : List Sealing = (sent_each to place change packet sealing).1 in
    let new : List Seal = seals_each to place change packet sealing in
    let one = run_each ops to place change packet sealing before members (All-head IsSound packet batch sound) r in
    let rest = run_from ops number of (place + 1) batch change only after (before ++ new) (All-tail IsSound packet batch sound) one in
    subst (Run ops (sent_from number of set (place + 1) batch change only after).1) (append_assoc before new (seals_from number of set (place + 1) batch change only after)) rest

-- what is kept of serials in the set is enough
run_in : (ops : List Op) (sealing : List Sealing) (before : List Seal) → Run ops sealing before → Run ops (filter (λ x. in_set (fold_ops ops) x.serial) sealing) before
run_in ops sealing before r = record {
  history = r.history;
  known =
      All-weaker (Knows ops sealing) (Knows ops (filter (λ x. in_set (fold_ops ops) x.serial) sealing)) (λ p k. record {
        early = k.early;
        late = k.late;
        split = k.split;
        held = k.held;
        range = k.range;
        recorded = λ member. subst (λ (s : Sealing). IsRecorded p.kind s p.ssrc p.index) (sym (kept_in (fold_ops ops) sealing p.entry.serial member)) (k.recorded member);
      }) before r.known;
  apart = r.apart;
}

run_step : (ops : List Op) (number of : ℕ) (batch : List Packet) (change : Rewrite) (only : Option (List (List ℕ))) (sealing : List Sealing) (before : List Seal)
    → All IsSound batch → Run ops sealing before
    → Run ops (media_step number of (fold_ops ops) batch change only sealing).1 (before ++ step_seals number of (fold_ops ops) batch change only sealing)
unfolding media_step step_seals
run_step ops number of [] change only sealing before sound r = subst (Run ops sealing) (sym (append-nil before)) r
run_step ops number of (packet ∷ batch) change only sealing before sound r =
    run_from ops number of 0 (packet ∷ batch) change only (filter (λ x. in_set (fold_ops ops) x.serial) sealing) before sound (run_in ops sealing before r)

-- ---- more is published

in_serials : (set : List Entry) (serial : ℕ) → in_set set serial ≡ true → Contains (map (λ d. d.serial) set) serial
in_serials [] serial member = absurd (cc)
in_serials (x ∷ set) serial member =
    elim (cases_eq x.serial serial) [
      | inl same ↦ subst (Contains (x.serial ∷ map (λ d. d.serial) set)) same (0, omega arith, refl)
      | inr apart ↦
          let tail : in_set set serial ≡ true = grind (arith, nat_tests) in
          let c = in_serials set serial tail in
          (suc c.0, let within = c.1 in omega arith, c.2)
    ]

from_serials : (set : List Entry) (serial : ℕ) → Contains (map (λ d. d.serial) set) serial → in_set set serial ≡ true
from_serials [] serial c = absurd (omega arith)
from_serials (x ∷ set) serial c =
    elim (Contains-cons_cases x.serial (map (λ (d : Entry). d.serial) set) serial c) [
      | inl here ↦ grind (arith, nat_tests, here)
      | inr later ↦ let rest = from_serials set serial later in grind (arith, nat_tests, rest)
    ]

-- A serial that is in the set again was in it all along.
stayed : (early late more : List Op) (e : Entry) → IsHistory (early ++ late ++ more) → Contains (fold_ops early) e → in_set (fold_ops (early ++ late ++ more)) e.serial ≡ true
    → in_set (fold_ops (early ++ late)) e.serial ≡ true
stayed early late more e history held member =
    elim (cases_Bool (in_set (fold_ops (early ++ late)) e.serial)) [
      | inl there ↦ there
      | inr gone ↦
          absurd (never_again early late more history e held
          (λ back. let found = from_serials (fold_ops (early ++ late)) e.serial back in let twice : true ≡ false = sym found ∙ gone in absurd (cc))
          (in_serials (fold_ops (early ++ late ++ more)) e.serial member))
    ]

knows_more : (ops more : List Op) (sealing : List Sealing) (p : Seal) → IsHistory (ops ++ more) → Knows ops sealing p → Knows (ops ++ more) sealing p
knows_more ops more sealing p history k = record {
  early = k.early;
  late = k.late ++ more;
  split = ap (λ (o : List Op). o ++ more) k.split ∙ append_assoc k.early k.late more;
  held = k.held;
  range = k.range;
  recorded = λ member.
      let whole : ops ++ more ≡ k.early ++ k.late ++ more = ap (λ (o : List Op). o ++ more) k.split in
      let was = stayed k.early k.late more p.entry (subst IsHistory whole history) k.held (ap (λ (o : List Op). in_set (fold_ops o) p.entry.serial) (sym whole) ∙ member) in
      k.recorded (ap (λ (o : List Op). in_set (fold_ops o) p.entry.serial) k.split ∙ was);
}

run_more : (ops more : List Op) (sealing : List Sealing) (before : List Seal) → IsHistory (ops ++ more) → Run ops sealing before → Run (ops ++ more) sealing before
run_more ops more sealing before history r = record {
  history = history;
  known = All-weaker (Knows ops sealing) (Knows (ops ++ more) sealing) (λ p. knows_more ops more sealing p history) before r.known;
  apart = r.apart;
}

-- What is published before goes on.
pub published_on : (ops : List Op) (calls : List Call) → (rest : List Op) × (published ops calls ≡ ops ++ rest)
published_on ops [] = ([], sym (append-nil ops))
published_on ops (c ∷ calls) =
    let more = published_on (ops ++ c.more) calls in
    (c.more ++ more.0, more.1 ∙ append_assoc ops c.more more.0)

history_of : (ops : List Op) (calls : List Call) → IsHistory (published ops calls) → IsHistory ops
history_of ops calls history = let more = published_on ops calls in prefixes ops more.0 (subst IsHistory more.1 history)

run_calls : (number of : ℕ) (ops : List Op) (sealing : List Sealing) (calls : List Call) (before : List Seal) → IsHistory (published ops calls) → AreSound calls → Run ops sealing before
    → AllPairs Differ (before ++ run_seals number of ops sealing calls)
run_calls number of ops sealing [] before history sound r = subst (AllPairs Differ) (sym (append-nil before)) r.apart
run_calls number of ops sealing (c ∷ calls) before history sound r =
    let now : List Op = ops ++ c.more in
    let new : List Seal = call_seals number of ops sealing c in
    let after : List Sealing = call_sealing number of ops sealing c in
    let mine = run_step now number of c.batch c.change c.only sealing before (All-head (λ (d : Call). All IsSound d.batch) c calls sound) (run_more ops c.more sealing before (history_of now calls history) r) in
    let rest = run_calls number of now after calls (before ++ new) history (All-tail (λ (d : Call). All IsSound d.batch) c calls sound) mine in
    subst (AllPairs Differ) (append_assoc before new (run_seals number of now after calls)) rest

pub one_worker : (number of : ℕ) (calls : List Call) → IsHistory (published [] calls) → AreSound calls → AllPairs Differ (run_seals number of [] [] calls)
one_worker number of calls history sound =
    run_calls number of [] [] calls [] history sound (record {
      history = history_of [] calls history;
      known = All-nil (Knows [] []);
      apart = λ i j d below within. absurd (omega arith);
    })
