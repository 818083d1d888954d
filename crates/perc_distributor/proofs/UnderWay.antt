-- The outputs of a packet and of a batch, entry by entry and packet by packet.
use Rattle.std.proofs.Common.{◌≡◌, ℕ, zero, suc, ◌+◌, ◌<◌, ◌≤◌, Bool, true, false, cond, not, List, [], ◌∷◌, ◌++◌, length, take, get_or, map, Option, Some, refl, sym, ap, subst, ◌∙◌, arith}
use Rattle.std.specs.Prelude.{◌==◌, ◌&&◌, filter}
use Rattle.std.specs.List.{slice_get}
use Rattle.std.proofs.lemmas.Bool.Decides.{nat_tests}
use Rattle.std.proofs.lemmas.List.{append-nil, length-append, length-take}
use Rattle.std.proofs.lemmas.List.Folds.{list_any_at}
use Rattle.std.proofs.lemmas.Option.{slice_get_within, get_or_from_slice_get}
use Rattle.perc_ohb.specs.Rewriting.{Rewrite}
use Rattle.perc_keyset.specs.Set.{is_of}
use Rattle.perc_keyset.specs.declared.Entry.{Entry}
use Rattle.perc_distributor.specs.declared.plain.Plain.{Plain}
use Rattle.perc_distributor.specs.declared.outputs.Output.{Output}
use Rattle.perc_distributor.specs.Inbound.{Packet, in_set}
use Rattle.perc_distributor.specs.Forwarding.{Sealing, Sent, is_named, is_owned, media_step, recipients, sealing_of, sent_each, sent_from, sent_to}
use Rattle.perc_distributor.specs.Kept.{ArePlain, HasForwarded, IsPlain, Kept, StandsFor, Working, sent_of}
use Rattle.perc_distributor.specs.Rooms.{staying}
use Rattle.perc_distributor.specs.Tables.{Forwards, HasAdded, OnlyOf, SendsBatch, SendsOne, SendsPacket, StaysOnlyOf}
use Rattle.perc_distributor.proofs.Entries.{take_at}
use Rattle.perc_distributor.proofs.SendingOn.{At, added_more, added_one, each_push, from_push, from_source, plain_length, recipients_push}
use Rattle.perc_distributor.proofs.TableLaws.{stands_staying}

pub take_whole : {X : Type 0} (xs : List X) (n : ℕ) → length xs ≤ n → take n xs ≡ xs
take_whole [] zero long = refl
take_whole [] (suc n) long = refl
take_whole (x ∷ xs) zero long = absurd (omega arith)
take_whole {X = X} (x ∷ xs) (suc n) long = ap (λ (ys : List X). x ∷ ys) (take_whole xs n (omega arith))

-- an entry's serial is in its set
pub in_set_at : (set : List Entry) (i : ℕ) (e : Entry) → slice_get set i ≡ Some e → in_set set e.serial ≡ true
in_set_at set i e is =
    list_any_at (λ x. x.serial == e.serial) set i e (slice_get_within set i e is)
    (ap (λ (x : Entry). x.serial == e.serial) (get_or_from_slice_get set i e e is) ∙ grind (arith, nat_tests))

-- ---- a packet

-- the test of a recipient, by who sent the packet
abbrev pub is_to : ℕ → ℕ → Option (List (List ℕ)) → List ℕ → Entry → Bool
is_to number of only from e = is_owned number of e && not (is_of from e) && is_named only e

-- what is sent of a packet once the first entries of the set are past
pub record PacketUnderWay (kept : List Kept) (number of : ℕ) (set : List Entry) (i place : ℕ) (p : Plain) (change : Rewrite) (only : Option (List (List ℕ))) (before now : List Output) (after : List Kept) : Type 0 where
  pub sent : SendsPacket kept number of (take i set) place p change only before now after
  pub only_of : OnlyOf set after
  pub few : length now ≤ length before + i

pub packet_begins : (kept : List Kept) (number of : ℕ) (set : List Entry) (place : ℕ) (p : Plain) (change : Rewrite) (only : Option (List (List ℕ))) (before : List Output) → OnlyOf set kept
    → PacketUnderWay kept number of set 0 place p change only before before kept
packet_begins kept number of set place p change only before only_of = record {
  sent = λ sealing packet stands is. record { outputs = sym (append-nil (map sent_of before)); keeps = stands };
  only_of = only_of;
  few = omega arith;
}

next_recipients : (number of : ℕ) (set : List Entry) (i : ℕ) (e : Entry) (p : Plain) (only : Option (List (List ℕ))) (packet : Packet) (b : Bool)
    → slice_get set i ≡ Some e → is_to number of only p.from e ≡ b
    → IsPlain p packet → recipients number of (take (i + 1) set) only packet ≡ recipients number of (take i set) only packet ++ cond b (e ∷ []) []
next_recipients number of set i e p only packet b at test is =
    ap (λ (es : List Entry). recipients number of es only packet) (take_at set i e at)
    ∙ recipients_push number of (take i set) e only packet b (sym test ∙ ap (λ (from : List ℕ). is_to number of only from e) (from_source p packet is))

pub packet_sent : (kept : List Kept) (number of : ℕ) (set : List Entry) (i place : ℕ) (p : Plain) (change : Rewrite) (only : Option (List (List ℕ))) (before now : List Output) (then after : List Kept)
    (e : Entry) (result : Output) → PacketUnderWay kept number of set i place p change only before now then → slice_get set i ≡ Some e → is_to number of only p.from e ≡ true
    → SendsOne then e place p change result after → StaysOnlyOf e.serial then after
    → PacketUnderWay kept number of set (i + 1) place p change only before (now ++ result ∷ []) after
packet_sent kept number of set i place p change only before now then after e result under at test sends stays = record {
  sent = λ sealing packet stands is.
      let to : List Entry = recipients number of (take i set) only packet in
      let step : List Sent × List Sealing = sent_each to place change packet sealing in
      let was = under.sent sealing packet stands is in
      let one = sends step.1 packet was.keeps is in
      let added = added_one step (sent_to (sealing_of step.1 e.serial) e place change packet) before now result after was.outputs one in
      subst (λ (es : List Entry). HasAdded (sent_each es place change packet sealing) before (now ++ result ∷ []) after) (sym (next_recipients number of set i e p only packet true at test is))
      (subst (λ (st : List Sent × List Sealing). HasAdded st before (now ++ result ∷ []) after) (sym (each_push to e place change packet sealing)) added);
  only_of = stays set (in_set_at set i e at) under.only_of;
  few = let long = length-append now (result ∷ []) in let few = under.few in omega arith;
}

pub packet_kept : (kept : List Kept) (number of : ℕ) (set : List Entry) (i place : ℕ) (p : Plain) (change : Rewrite) (only : Option (List (List ℕ))) (before now : List Output) (then : List Kept)
    (e : Entry) → PacketUnderWay kept number of set i place p change only before now then → slice_get set i ≡ Some e → is_to number of only p.from e ≡ false
    → PacketUnderWay kept number of set (i + 1) place p change only before now then
packet_kept kept number of set i place p change only before now then e under at test = record {
  sent = λ sealing packet stands is.
      let to : List Entry = recipients number of (take i set) only packet in
      subst (λ (es : List Entry). HasAdded (sent_each es place change packet sealing) before now then)
      (sym (next_recipients number of set i e p only packet false at test is ∙ append-nil to)) (under.sent sealing packet stands is);
  only_of = under.only_of;
  few = let few = under.few in omega arith;
}

-- ---- a batch

pub plain_there : (batch : List Plain) (packets : List Packet) (i : ℕ) (d : Plain) → ArePlain batch packets → i < length batch → At batch packets i (get_or batch i d)
plain_there [] packets i d are within = absurd (omega arith)
plain_there (b ∷ batch) [] i d are within = absurd are
plain_there (b ∷ batch) (packet ∷ packets) zero d are within = record { packet = packet; there = refl; is = are.0 }
plain_there (b ∷ batch) (packet ∷ packets) (suc i) d are within =
    let rest = plain_there batch packets i d are.1 (omega arith) in
    record { packet = rest.packet; there = rest.there; is = rest.is }

-- the first packets of a batch are sent
abbrev pub SendsFirst : List Kept → ℕ → ℕ → List Entry → List Plain → ℕ → Rewrite → Option (List (List ℕ)) → List Output → List Output → List Kept → Type 0
SendsFirst kept number of set batch i change only before now after =
    (sealing : List Sealing) (packets : List Packet) → StandsFor kept sealing → ArePlain batch packets
    → HasAdded (sent_from number of set 0 (take i packets) change only sealing) before now after

pub first_more : (kept : List Kept) (number of : ℕ) (set : List Entry) (batch : List Plain) (i : ℕ) (d : Plain) (change : Rewrite) (only : Option (List (List ℕ))) (before now later : List Output) (then after : List Kept)
    → i < length batch → SendsFirst kept number of set batch i change only before now then → SendsPacket then number of set i (get_or batch i d) change only now later after
    → SendsFirst kept number of set batch (i + 1) change only before later after
first_more kept number of set batch i d change only before now later then after within first sends = λ sealing packets stands are.
    let at = plain_there batch packets i d are within in
    let step : List Sent × List Sealing = sent_from number of set 0 (take i packets) change only sealing in
    let was = first sealing packets stands are in
    let one = sends step.1 at.packet was.keeps at.is in
    let each : List Sent × List Sealing = sent_each (recipients number of set only at.packet) i change at.packet step.1 in
    let added = added_more step each before now later after was.outputs one in
    let size = plain_length batch packets are in
    let front = length-take i packets in
    subst (λ (ps : List Packet). HasAdded (sent_from number of set 0 ps change only sealing) before later after) (sym (take_at packets i at.packet at.there))
    (subst (λ (st : List Sent × List Sealing). HasAdded st before later after) (sym (from_push number of set 0 (take i packets) at.packet change only sealing i (omega arith))) added)

pub first_all : (kept : List Kept) (number of : ℕ) (set : List Entry) (batch : List Plain) (i : ℕ) (change : Rewrite) (only : Option (List (List ℕ))) (before now : List Output) (after : List Kept)
    → length batch ≤ i → SendsFirst kept number of set batch i change only before now after → SendsBatch kept number of set batch change only before now after
first_all kept number of set batch i change only before now after past first = λ sealing packets stands are.
    let size = plain_length batch packets are in
    subst (λ (ps : List Packet). HasAdded (sent_from number of set 0 ps change only sealing) before now after) (take_whole packets i (omega arith)) (first sealing packets stands are)

-- ---- a worker

step_none : (number of : ℕ) (set : List Entry) (change : Rewrite) (only : Option (List (List ℕ))) (sealing : List Sealing) → media_step number of set [] change only sealing ≡ ([], sealing)
unfolding media_step
step_none number of set change only sealing = refl

step_some : (number of : ℕ) (set : List Entry) (packets : List Packet) (change : Rewrite) (only : Option (List (List ℕ))) (sealing : List Sealing) → 0 < length packets
    → media_step number of set packets change only sealing ≡ sent_from number of set 0 packets change only (filter (λ x. in_set set x.serial) sealing)
unfolding media_step
step_some number of set [] change only sealing some = absurd (omega arith)
step_some number of set (packet ∷ packets) change only sealing some = refl

none_of : (packets : List Packet) → length packets ≡ 0 → packets ≡ []
none_of [] none = refl
none_of (packet ∷ packets) none = absurd (omega arith)

pub forwards_none : (w : Working) (set : List Entry) (batch : List Plain) (change : Rewrite) (only : Option (List (List ℕ))) (out : List Output) → length batch ≡ 0 → out ≡ []
    → Forwards w set batch change only out w.kept
forwards_none w set batch change only out empty none = λ sealing packets stands are.
    let size = plain_length batch packets are in
    let no : packets ≡ [] = none_of packets (omega arith) in
    let step = ap (λ (ps : List Packet). media_step w.number w.of set ps change only sealing) no ∙ step_none w.number w.of set change only sealing in
    subst (λ (st : List Sent × List Sealing). HasForwarded st out w.kept) (sym step) (record { outputs = ap (map sent_of) none; keeps = stands })

-- the facts of a batch that isn't empty
pub record Steps (kept now : List Kept) (number of : ℕ) (set : List Entry) (batch : List Plain) (change : Rewrite) (only : Option (List (List ℕ))) (cleared out : List Output) (after : List Kept) : Type 0 where
  pub some : 0 < length batch
  pub empty : cleared ≡ []
  pub stays : now ≡ map (staying set) kept
  pub sent : SendsBatch now number of set batch change only cleared out after

pub forwards_some : (w : Working) (kept now : List Kept) (number of : ℕ) (set : List Entry) (batch : List Plain) (change : Rewrite) (only : Option (List (List ℕ))) (cleared out : List Output) (after : List Kept)
    → record { number = number; of = of; kept = kept } ≡ w → Steps kept now number of set batch change only cleared out after → Forwards w set batch change only out after
forwards_some w kept now number of set batch change only cleared out after view s =
    subst (λ (x : Working). Forwards x set batch change only out after) view (λ sealing packets stands are.
    let size = plain_length batch packets are in
    let some = s.some in
    let left : List Sealing = filter (λ x. in_set set x.serial) sealing in
    let still : StandsFor now left = subst (λ (ks : List Kept). StandsFor ks left) (sym s.stays) (stands_staying set kept sealing stands) in
    let added = s.sent left packets still are in
    subst (λ (st : List Sent × List Sealing). HasForwarded st out after) (sym (step_some number of set packets change only sealing (omega arith)))
    (record {
      outputs = added.outputs ∙ ap (λ (os : List Output). map sent_of os ++ (sent_from number of set 0 packets change only left).0) s.empty;
      keeps = added.keeps;
    }))
