-- What each of many workers seals is for entries that it owns, so no two take a nonce.
use Rattle.std.proofs.Common.{◌≡◌, ◌≢◌, ℕ, ◌+◌, ◌%◌, ◌≤◌, Bool, true, false, not, List, [], ◌∷◌, ◌++◌, get_or, Option, Result, Ok, Err, refl, sym, ap, subst, ◌∙◌, append_assoc, arith}
use Rattle.std.specs.Prelude.{◌&&◌, All, AllPairs, Contains, filter}
use Rattle.std.proofs.lemmas.Bool.Decides.{nat_tests}
use Rattle.std.proofs.lemmas.List.Elements.{All-append, All-cons, All-contains_itself, All-filter, All-head, All-nil, All-tail, All-weaker, Contains-append_left, filter_passes}
use Rattle.std.proofs.lemmas.List.Kept.{AllPairs-cons}
use Rattle.perc_ohb.specs.Rewriting.{Rewrite}
use Rattle.perc_kdf.specs.declared.Kind.{Kind}
use Rattle.perc_kdf.specs.declared.Kind.TheVariants.{Srtp, Srtcp}
use Rattle.perc_srtp.specs.Sealed.{rtcp_ssrc}
use Rattle.perc_keyset.specs.Set.{fold_ops, is_of}
use Rattle.perc_keyset.specs.History.{IsHistory, adds}
use Rattle.perc_keyset.specs.declared.Op.{Op}
use Rattle.perc_keyset.specs.declared.Entry.{Entry}
use Rattle.perc_keyset.proofs.HistoryLaws.{one_by_server, prefixes}
use Rattle.perc_keyset.proofs.SetLaws.{adds-append, from_fold}
use Rattle.perc_keyset.proofs.Lists.{AllPairs-head, AllPairs-tail}
use Rattle.perc_distributor.specs.declared.fault.ForwardFault.{ForwardFault}
use Rattle.perc_distributor.specs.Inbound.{Control, Media, Packet, in_set}
use Rattle.perc_distributor.specs.Forwarding.{Sealing, is_named, is_owned, media_index, recipients, sealing_of, sent_each, sent_to, source_of, with_sealing}
use Rattle.perc_distributor.specs.Parts.{control_place}
use Rattle.perc_forwarding.specs.Runs.{AreOver, Call, Nonce, Seal, all_seals, call_sealing, call_seals, published, run_seals, seal_of, seals_each, seals_from, seals_to, step_seals}
use Rattle.perc_forwarding.proofs.Running.{Differ, one_worker, published_on}

-- ---- for whom packets are sealed

of_entry : (e : Entry) (kind : Kind) (ssrc : ℕ) (at : Result ℕ ForwardFault) → All (λ u. u.entry ≡ e) (seal_of e kind ssrc at)
of_entry e kind ssrc (Err f) = All-nil (λ (u : Seal). u.entry ≡ e)
of_entry e kind ssrc (Ok index) = All-cons (λ (u : Seal). u.entry ≡ e) (record { entry = e; kind = kind; ssrc = ssrc; index = index }) [] refl (All-nil (λ (u : Seal). u.entry ≡ e))

to_entry : (s : Sealing) (e : Entry) (change : Rewrite) (packet : Packet) → All (λ u. u.entry ≡ e) (seals_to s e change packet)
to_entry s e change (Media from h inner block field) = of_entry e Srtp h.ssrc (media_index s.streams h inner block field change)
to_entry s e change (Control from octets) = of_entry e Srtcp (rtcp_ssrc octets) (control_place s.rtcp octets)

each_entry : (P : Entry → Type 0) (es : List Entry) (place : ℕ) (change : Rewrite) (packet : Packet) (sealing : List Sealing) → All P es
    → All (λ u. P u.entry) (seals_each es place change packet sealing)
each_entry P [] place change packet sealing are = All-nil (λ (u : Seal). P u.entry)
each_entry P (e ∷ es) place change packet sealing are =
    let s = sealing_of sealing e.serial in
    let new : List Seal = seals_to s e change packet in
    let after : List Sealing = with_sealing (sent_to s e place change packet).1 sealing in
    All-append (λ (u : Seal). P u.entry) new (seals_each es place change packet after)
    (All-weaker (λ (u : Seal). u.entry ≡ e) (λ (u : Seal). P u.entry) (λ u is. subst P (sym is) (All-head P e es are)) new (to_entry s e change packet))
    (each_entry P es place change packet after (All-tail P e es are))

-- a worker's seal over the sets of a history
pub record IsOwn (number of : ℕ) (history : List Op) (e : Entry) : Type 0 where
  pub owned : is_owned number of e ≡ true
  pub added : Contains (adds history) e

first_true : (a b c : Bool) → (a && b && c) ≡ true → a ≡ true
first_true true b c is = refl
first_true false b c is = absurd (cc)

own_recipients : (number of : ℕ) (history : List Op) (set : List Entry) (only : Option (List (List ℕ))) (packet : Packet) → All (Contains (adds history)) set
    → All (IsOwn number of history) (recipients number of set only packet)
own_recipients number of history set only packet added =
    let test : Entry → Bool = λ e. is_owned number of e && not (is_of (source_of packet) e) && is_named only e in
    let to : List Entry = filter test set in
    let passed = filter_passes test set in
    let theirs : All (Contains (adds history)) to = All-filter test (Contains (adds history)) set added in
    λ k d within. record {
      owned = first_true (is_owned number of (get_or to k d)) (not (is_of (source_of packet) (get_or to k d))) (is_named only (get_or to k d)) (passed k d within);
      added = theirs k d within;
    }

from_own : (number of : ℕ) (history : List Op) (set : List Entry) (place : ℕ) (batch : List Packet) (change : Rewrite) (only : Option (List (List ℕ))) (sealing : List Sealing)
    → All (Contains (adds history)) set
    → All (λ u. IsOwn number of history u.entry) (seals_from number of set place batch change only sealing)
from_own number of history set place [] change only sealing added = All-nil (λ (u : Seal). IsOwn number of history u.entry)
from_own number of history set place (packet ∷ batch) change only sealing added =
    let to : List Entry = recipients number of set only packet in
    let after : List Sealing = (sent_each to place change packet sealing).1 in
    All-append (λ (u : Seal). IsOwn number of history u.entry) (seals_each to place change packet sealing) (seals_from number of set (place + 1) batch change only after)
    (each_entry (IsOwn number of history) to place change packet sealing (own_recipients number of history set only packet added))
    (from_own number of history set (place + 1) batch change only after added)

step_own : (number of : ℕ) (history : List Op) (set : List Entry) (batch : List Packet) (change : Rewrite) (only : Option (List (List ℕ))) (sealing : List Sealing) → All (Contains (adds history)) set
    → All (λ u. IsOwn number of history u.entry) (step_seals number of set batch change only sealing)
unfolding step_seals
step_own number of history set [] change only sealing added = All-nil (λ (u : Seal). IsOwn number of history u.entry)
step_own number of history set (packet ∷ batch) change only sealing added =
    from_own number of history set 0 (packet ∷ batch) change only (filter (λ x. in_set set x.serial) sealing) added

-- The entries of an earlier set were added.
added_early : (now rest history : List Op) → history ≡ now ++ rest → All (Contains (adds history)) (fold_ops now)
added_early now rest history is =
    All-weaker (Contains (fold_ops now)) (Contains (adds history))
    (λ e held. subst (λ (es : List Entry). Contains es e) (sym (ap adds is ∙ adds-append now rest)) (Contains-append_left (adds now) (adds rest) e (from_fold now e held)))
    (fold_ops now) (All-contains_itself (fold_ops now))

run_own : (number of : ℕ) (history rest : List Op) (ops : List Op) (sealing : List Sealing) (calls : List Call) → history ≡ published ops calls ++ rest
    → All (λ u. IsOwn number of history u.entry) (run_seals number of ops sealing calls)
run_own number of history rest ops sealing [] is = All-nil (λ (u : Seal). IsOwn number of history u.entry)
run_own number of history rest ops sealing (c ∷ calls) is =
    let now : List Op = ops ++ c.more in
    let on = published_on now calls in
    let whole : history ≡ now ++ (on.0 ++ rest) = is ∙ ap (λ (o : List Op). o ++ rest) on.1 ∙ append_assoc now on.0 rest in
    All-append (λ (u : Seal). IsOwn number of history u.entry) (call_seals number of ops sealing c) (run_seals number of now (call_sealing number of ops sealing c) calls)
    (step_own number of history (fold_ops now) c.batch c.change c.only sealing (added_early now (on.0 ++ rest) history whole))
    (run_own number of history rest now (call_sealing number of ops sealing c) calls is)

-- ---- two workers

owner_is : (number of : ℕ) (e : Entry) → is_owned number of e ≡ true → e.serial % of ≡ number
owner_is number of e owned = grind (arith, nat_tests)

apart_owned : (a b of : ℕ) (history : List Op) (p q : Seal) → IsHistory history → a ≢ b → IsOwn a of history p.entry → IsOwn b of history q.entry → Differ p q
apart_owned a b of history p q is apart mine its = λ same.
    let one : p.entry ≡ q.entry = one_by_server (adds history) p.entry q.entry is.pairs mine.added its.added (ap (λ (n : Nonce). n.master) same) in
    apart (sym (owner_is a of p.entry mine.owned) ∙ ap (λ (e : Entry). e.serial % of) one ∙ owner_is b of q.entry its.owned)

-- ---- all workers

-- a seal of one from this number on
pub record IsLater (number of : ℕ) (history : List Op) (u : Seal) : Type 0 where
  pub owner : ℕ
  pub later : number ≤ owner
  pub own : IsOwn owner of history u.entry

later_own : (number of : ℕ) (history : List Op) (runs : List (List Call)) → All (AreOver history) runs → All (IsLater number of history) (all_seals number of runs)
later_own number of history [] over = All-nil (IsLater number of history)
later_own number of history (calls ∷ runs) over =
    let o = All-head (AreOver history) calls runs over in
    All-append (IsLater number of history) (run_seals number of [] [] calls) (all_seals (number + 1) of runs)
    (All-weaker (λ (u : Seal). IsOwn number of history u.entry) (IsLater number of history) (λ u own. record { owner = number; later = omega arith; own = own }) (run_seals number of [] [] calls)
    (run_own number of history o.rest [] [] calls o.is))
    (All-weaker (IsLater (number + 1) of history) (IsLater number of history) (λ u l. record { owner = l.owner; later = let further = l.later in omega arith; own = l.own }) (all_seals (number + 1) of runs)
    (later_own (number + 1) of history runs (All-tail (AreOver history) calls runs over)))

pairs_append : (xs ys : List Seal) → AllPairs Differ xs → AllPairs Differ ys → All (λ x. All (Differ x) ys) xs → AllPairs Differ (xs ++ ys)
pairs_append [] ys mine its across = its
pairs_append (x ∷ xs) ys mine its across =
    AllPairs-cons Differ x (xs ++ ys) (All-append (Differ x) xs ys (AllPairs-head Differ x xs mine) (All-head (λ (y : Seal). All (Differ y) ys) x xs across))
    (pairs_append xs ys (AllPairs-tail Differ x xs mine) its (All-tail (λ (y : Seal). All (Differ y) ys) x xs across))

history_over : (history : List Op) (calls : List Call) → IsHistory history → AreOver history calls → IsHistory (published [] calls)
history_over history calls is over = prefixes (published [] calls) over.rest (subst IsHistory over.is is)

all_from : (number of : ℕ) (history : List Op) (runs : List (List Call)) → IsHistory history → All (AreOver history) runs → AllPairs Differ (all_seals number of runs)
all_from number of history [] is over = λ i j d below within. absurd (omega arith)
all_from number of history (calls ∷ runs) is over =
    let o = All-head (AreOver history) calls runs over in
    let others = All-tail (AreOver history) calls runs over in
    let mine : List Seal = run_seals number of [] [] calls in
    let its : List Seal = all_seals (number + 1) of runs in
    let owned = run_own number of history o.rest [] [] calls o.is in
    let later = later_own (number + 1) of history runs others in
    pairs_append mine its (one_worker number of calls (history_over history calls is o) o.sound) (all_from (number + 1) of history runs is others)
    (All-weaker (λ (u : Seal). IsOwn number of history u.entry) (λ (u : Seal). All (Differ u) its)
    (λ p own.
    All-weaker (IsLater (number + 1) of history) (Differ p)
    (λ q l. apart_owned number l.owner of history p q is (λ same. let further = l.later in absurd (omega arith)) own l.own) its later)
    mine owned)

pub all_workers : (of : ℕ) (history : List Op) (runs : List (List Call)) → IsHistory history → All (AreOver history) runs → AllPairs Differ (all_seals 0 of runs)
all_workers of history runs is over = all_from 0 of history runs is over
