-- What the distributor seals is under no nonce that was taken.
use Rattle.std.proofs.Common.{◌≡◌, ℕ, zero, suc, ◌+◌, ◌<◌, inl, inr, Bool, true, false, not, List, [], ◌∷◌, ◌++◌, length, get_or, Option, Some, refl, sym, ap, ◌∙◌, subst, append_assoc, arith}
use Rattle.std.specs.List.{slice_get}
use Rattle.std.specs.Prelude.{◌||◌, ◌&&◌, ◌==◌, All, Contains, filter}
use Rattle.std.proofs.lemmas.Bool.{cases_eq, eq-eqb}
use Rattle.std.proofs.lemmas.List.{append-nil}
use Rattle.std.proofs.lemmas.List.Elements.{All-contains, All-contains_itself, All-filter, All-head, All-push, All-tail, All-weaker}
use Rattle.std.proofs.lemmas.List.Quantifiers.{all_pairs_push}
use Rattle.perc_kdf.specs.Derivation.{session_keys}
use Rattle.perc_kdf.specs.declared.Kind.{Kind}
use Rattle.perc_kdf.specs.declared.Kind.TheVariants.{Srtp, Srtcp}
use Rattle.perc_ohb.specs.Rewriting.{Rewrite}
use Rattle.perc_keyset.specs.Set.{is_of}
use Rattle.perc_keyset.specs.declared.Entry.{Entry}
use Rattle.perc_outgoing.specs.History.{AreOtherSeals, EndToEnd, HopByHop, Seal}
use Rattle.perc_distributor.specs.Inbound.{Packet, in_set}
use Rattle.perc_distributor.specs.Forwarding.{Sealing, is_named, is_owned, media_step, recipients, sealing_of, sent_each, sent_from, sent_to, source_of, with_sealing}
use Rattle.perc_run.specs.State.{Datagram, Member}
use Rattle.perc_headline.specs.Nonces.{hop_seal, iv_of, seals_each, seals_from, seals_to, step_seals}
use Rattle.perc_headline.proofs.Lookups.{contains_at, contains_map}
use Rattle.perc_headline.proofs.Sealing.{AreOne, InRange, IsNew, IsRecorded, KeepsAll, OneSeal, PacketFits, kept_in, kept_past, kept_with, recorded_as, step_serial, to_seals}
use Rattle.perc_headline.proofs.Fitting.{Fits}
use Rattle.perc_headline.proofs.Clear.{HasOrigin, IsAhead, IsClear, IsEntryOf, IsKept, IsSealer, Wire, one_position, other_hop, pair_of, pairs_of, sides}

-- ---- one seal more

in_place : (set : List Entry) (e : Entry) (k : ℕ) → k < length set → get_or set k e ≡ e → in_set set e.serial ≡ true
in_place [] e k within is = absurd (omega arith)
in_place (x ∷ set) e zero within is = at (x.serial == e.serial) (eq-eqb x.serial e.serial (ap (λ (y : Entry). y.serial) is)) where
  at : (b : Bool) → b ≡ true → (b || in_set set e.serial) ≡ true
  at true same = refl
  at false same = absurd (cc)
in_place (x ∷ set) e (suc k) within is = at (x.serial == e.serial) (in_place set e k (omega arith) is) where
  at : (b : Bool) → in_set set e.serial ≡ true → (b || in_set set e.serial) ≡ true
  at true rest = refl
  at false rest = rest

pub member_in : (set : List Entry) (e : Entry) → Contains set e → in_set set e.serial ≡ true
member_in set e there = in_place set e there.0 there.1 there.2

-- An entry of the set, what is kept of its serial then, and a seal for it.
pub record IsMade (w : Wire) (e : Entry) (after : Sealing) : Type 0 where
  pub there : Contains w.set e
  pub serial : after.serial ≡ e.serial
  pub keeps : KeepsAll (sealing_of w.sealing e.serial) after

entry_at : (w : Wire) (done : List Seal) (e : Entry) → IsClear w done → Contains w.set e → slice_get (pairs_of w.members) e.serial ≡ Some (e.client, e.server)
entry_at w done e clear there = All-contains (IsEntryOf (pairs_of w.members)) w.set e clear.entries there

-- What was kept stays kept,
kept_still : (w : Wire) (e : Entry) (after : Sealing) (p : Seal) → IsMade w e after → IsKept (pairs_of w.members) w.set w.sealing p
    → IsKept (pairs_of w.members) w.set (with_sealing after w.sealing) p
kept_still w e after p made is = record {
  kept = λ serial ssrc index asked.
      elim (cases_eq serial e.serial) [
        | inl same ↦
            let old : IsRecorded p.kind (sealing_of w.sealing e.serial) ssrc index =
            subst (λ (n : ℕ). IsRecorded p.kind (sealing_of w.sealing n) ssrc index) same (is.kept serial ssrc index asked) in
            subst (λ (s : Sealing). IsRecorded p.kind s ssrc index) (sym (kept_with w.sealing after serial (same ∙ sym made.serial))) (made.keeps p.kind ssrc index old)
        | inr other ↦
            subst (λ (s : Sealing). IsRecorded p.kind s ssrc index) (sym (kept_past w.sealing after serial (λ same. other (same ∙ made.serial)))) (is.kept serial ssrc index asked)
      ];
}

-- and the new one is kept.
kept_new : (w : Wire) (done : List Seal) (e : Entry) (after : Sealing) (kind : Kind) (ssrc index : ℕ) → IsMade w e after → IsClear w done → InRange kind ssrc index → IsRecorded kind after ssrc index
    → IsKept (pairs_of w.members) w.set (with_sealing after w.sealing) (hop_seal e kind ssrc index)
kept_new w done e after kind ssrc index made clear range kept = record {
  kept = λ serial other next asked.
      let same : serial ≡ e.serial =
      one_position (pairs_of w.members) asked.pair (e.client, e.server) serial e.serial clear.pairs asked.at (entry_at w done e clear made.there) (sym asked.master) in
      subst (λ (s : Sealing). IsRecorded kind s other next) (sym (kept_with w.sealing after serial (same ∙ sym made.serial)))
      (recorded_as kind (session_keys e.server kind).salt ssrc index other next after asked.taken range asked.range kept);
}

new_not : (k : Kind) (s : Sealing) (ssrc index : ℕ) → IsRecorded k s ssrc index → IsNew k s ssrc index → ⊥
new_not Srtp s ssrc index old new = let bad : true ≡ false = sym old ∙ new in cc
new_not Srtcp s ssrc index old new = omega arith

-- It has no nonce of one before.
apart_from : (w : Wire) (done : List Seal) (e : Entry) (kind : Kind) (ssrc index : ℕ) (p : Seal) → Contains w.set e → IsClear w done → InRange kind ssrc index
    → IsNew kind (sealing_of w.sealing e.serial) ssrc index → IsKept (pairs_of w.members) w.set w.sealing p → AreOtherSeals p (hop_seal e kind ssrc index)
apart_from w done e kind ssrc index p there clear range new is = λ layers masters kinds ivs.
    let old : IsRecorded p.kind (sealing_of w.sealing e.serial) ssrc index = is.kept e.serial ssrc index (record {
      pair = (e.client, e.server);
      at = entry_at w done e clear there;
      layer = layers;
      master = masters;
      held = member_in w.set e there;
      range = subst (λ (k : Kind). InRange k ssrc index) (sym kinds) range;
      taken = ivs ∙ (λ i. iv_of (sym kinds i) (session_keys (sym masters i) (sym kinds i)).salt ssrc index);
    }) in
    new_not kind (sealing_of w.sealing e.serial) ssrc index (subst (λ (k : Kind). IsRecorded k (sealing_of w.sealing e.serial) ssrc index) kinds old) new

ahead_of : (w : Wire) (done : List Seal) (e : Entry) (u : Seal) (m : Member) → u.layer ≡ HopByHop → u.master ≡ e.server → Contains w.set e → IsClear w done → Contains w.members m → IsSealer done m
    → IsSealer (done ++ u ∷ []) m
ahead_of w done e u m layer master there clear in_members is = record {
  client = is.client;
  ahead = All-push (IsAhead m.endpoint.sending) done u is.ahead
      (other_hop m.endpoint.sending u layer
      (λ same.
      sides (pairs_of w.members) (pair_of m) (e.client, e.server) clear.pairs (contains_map pair_of w.members m in_members)
      (contains_at (pairs_of w.members) e.serial (e.client, e.server) (entry_at w done e clear there)) (sym is.client ∙ sym same ∙ master)));
}

hop_origin : (members : List Member) (e : Entry) (kind : Kind) (ssrc index : ℕ) → Contains (pairs_of members) (e.client, e.server) → HasOrigin members (hop_seal e kind ssrc index)
hop_origin members e kind ssrc index there = record {
  sender = λ layer. let bad : HopByHop ≡ EndToEnd = layer in absurd (cc);
  pair = λ layer. record { pair = (e.client, e.server); there = there; is = inr refl };
}

abbrev behind : Wire → Sealing → Wire
behind w after = record w { sealing = with_sealing after w.sealing }

clear_kept : (w : Wire) (done : List Seal) (e : Entry) (after : Sealing) → IsMade w e after → IsClear w done → IsClear (behind w after) done
clear_kept w done e after made clear = record {
  pairs = clear.pairs;
  sealers = clear.sealers;
  entries = clear.entries;
  origins = clear.origins;
  kept = All-weaker (IsKept (pairs_of w.members) w.set w.sealing) (IsKept (pairs_of w.members) w.set (with_sealing after w.sealing)) (λ p. kept_still w e after p made) done clear.kept;
  fits = clear.fits;
  apart = clear.apart;
}

clear_one : (w : Wire) (done : List Seal) (e : Entry) (after : Sealing) (u : Seal) → IsMade w e after → OneSeal (sealing_of w.sealing e.serial) after e u → IsClear w done
    → IsClear (behind w after) (done ++ u ∷ [])
clear_one w done e after u made one clear =
    let v : Seal = hop_seal e one.kind one.ssrc one.index in
    let still = clear_kept w done e after made clear in
    let at = contains_at (pairs_of w.members) e.serial (e.client, e.server) (entry_at w done e clear made.there) in
    subst (λ (x : Seal). IsClear (behind w after) (done ++ x ∷ [])) (sym one.is) (record {
      pairs = clear.pairs;
      sealers = λ k d within. ahead_of w done e v (get_or w.members k d) refl refl made.there clear (All-contains_itself w.members k d within) (clear.sealers k d within);
      entries = clear.entries;
      origins = All-push (HasOrigin w.members) done v clear.origins (hop_origin w.members e one.kind one.ssrc one.index at);
      kept = All-push (IsKept (pairs_of w.members) w.set (with_sealing after w.sealing)) done v still.kept
          (kept_new w done e after one.kind one.ssrc one.index made clear one.range one.kept);
      fits = clear.fits;
      apart = all_pairs_push AreOtherSeals done v clear.apart
          (All-weaker (IsKept (pairs_of w.members) w.set w.sealing) (λ p. AreOtherSeals p v)
          (λ p. apart_from w done e one.kind one.ssrc one.index p made.there clear one.range one.new) done clear.kept);
    })

clear_by : (w : Wire) (done : List Seal) (e : Entry) (after : Sealing) (new : List Seal) → IsMade w e after → AreOne (sealing_of w.sealing e.serial) after e new → IsClear w done
    → IsClear (behind w after) (done ++ new)
clear_by w done e after [] made are clear = subst (IsClear (behind w after)) (sym (append-nil done)) (clear_kept w done e after made clear)
clear_by w done e after (u ∷ []) made are clear = clear_one w done e after u made are clear
clear_by w done e after (u ∷ v ∷ new) made are clear = absurd are

-- ---- a packet, a batch

abbrev pub with_kept : Wire → List Sealing → Wire
with_kept w sealing = record w { sealing = sealing }

clear_each : (w : Wire) (es : List Entry) (place : ℕ) (change : Rewrite) (packet : Packet) (done : List Seal) → All (Contains w.set) es → PacketFits packet → IsClear w done
    → IsClear (with_kept w (sent_each es place change packet w.sealing).1) (done ++ seals_each es place change packet w.sealing)
clear_each w [] place change packet done members fits clear = subst (IsClear w) (sym (append-nil done)) clear
clear_each w (e ∷ es) place change packet done members fits clear =
    let s : Sealing = sealing_of w.sealing e.serial in
    let after : Sealing = (sent_to s e place change packet).1 in
    let new : List Seal = seals_to s e place change packet in
    let are = to_seals s e place change packet fits in
    let next : Wire = behind w after in
    let made : IsMade w e after = record { there = All-head (Contains w.set) e es members; serial = step_serial w.sealing e place change packet fits; keeps = are.keeps } in
    let rest = clear_each next es place change packet (done ++ new) (All-tail (Contains w.set) e es members) fits (clear_by w done e after new made are.are clear) in
    subst (IsClear (with_kept w (sent_each es place change packet next.sealing).1)) (append_assoc done new (seals_each es place change packet next.sealing)) rest

clear_from : (w : Wire) (number of place : ℕ) (batch : List Packet) (change : Rewrite) (only : Option (List (List ℕ))) (done : List Seal) → All PacketFits batch → IsClear w done
    → IsClear (with_kept w (sent_from number of w.set place batch change only w.sealing).1) (done ++ seals_from number of w.set place batch change only w.sealing)
clear_from w number of place [] change only done fits clear = subst (IsClear w) (sym (append-nil done)) clear
clear_from w number of place (packet ∷ batch) change only done fits clear =
    let to : List Entry = recipients number of w.set only packet in
    let members : All (Contains w.set) to =
    All-filter (λ e. is_owned number of e && not (is_of (source_of packet) e) && is_named only e) (Contains w.set) w.set (All-contains_itself w.set) in
    let after : List Sealing = (sent_each to place change packet w.sealing).1 in
    let new : List Seal = seals_each to place change packet w.sealing in
    let one = clear_each w to place change packet done members (All-head PacketFits packet batch fits) clear in
    let rest = clear_from (with_kept w after) number of (place + 1) batch change only (done ++ new) (All-tail PacketFits packet batch fits) one in
    subst (IsClear (with_kept w (sent_from number of w.set (place + 1) batch change only after).1)) (append_assoc done new (seals_from number of w.set (place + 1) batch change only after)) rest

-- what is kept of serials in the set is enough
clear_in : (w : Wire) (done : List Seal) → IsClear w done → IsClear (with_kept w (filter (λ x. in_set w.set x.serial) w.sealing)) done
clear_in w done clear = record {
  pairs = clear.pairs;
  sealers = clear.sealers;
  entries = clear.entries;
  origins = clear.origins;
  kept = All-weaker (IsKept (pairs_of w.members) w.set w.sealing) (IsKept (pairs_of w.members) w.set (filter (λ x. in_set w.set x.serial) w.sealing)) (λ p is. record {
    kept = λ serial ssrc index asked.
        subst (λ (s : Sealing). IsRecorded p.kind s ssrc index) (sym (kept_in w.set w.sealing serial asked.held)) (is.kept serial ssrc index asked);
  }) done clear.kept;
  fits = clear.fits;
  apart = clear.apart;
}

-- A step of the distributor seals nothing that was sealed.
pub clear_step : (w : Wire) (number of : ℕ) (batch : List Packet) (change : Rewrite) (only : Option (List (List ℕ))) (done : List Seal) → All PacketFits batch → IsClear w done
    → IsClear (with_kept w (media_step number of w.set batch change only w.sealing).1) (done ++ step_seals number of w.set batch change only w.sealing)
unfolding media_step step_seals
clear_step w number of [] change only done fits clear = subst (IsClear w) (sym (append-nil done)) clear
clear_step w number of (packet ∷ batch) change only done fits clear =
    clear_from (with_kept w (filter (λ x. in_set w.set x.serial) w.sealing)) number of 0 (packet ∷ batch) change only done fits (clear_in w done clear)

pub clear_datagrams : (w : Wire) (done : List Seal) (datagrams : List Datagram) → All Fits datagrams → IsClear w done → IsClear (record w { datagrams = datagrams }) done
clear_datagrams w done datagrams fits clear = record {
  pairs = clear.pairs;
  sealers = clear.sealers;
  entries = clear.entries;
  origins = clear.origins;
  kept = clear.kept;
  fits = fits;
  apart = clear.apart;
}
