-- One output for an entry, over the places of serials; the outputs of a packet; those of a batch.
use Rattle.std.proofs.Common.{◌≡◌, ℕ, zero, suc, ◌+◌, ◌<◌, Bool, true, false, cond, not, List, [], ◌∷◌, ◌++◌, length, get_or, set, map, Option, Some, None, Result, Ok, Err, inl, inr, refl, sym, ap, subst, ◌∙◌, arith, append_assoc}
use Rattle.std.specs.Prelude.{◌==◌, ◌&&◌, find, nat_eq}
use Rattle.std.specs.List.{slice_get}
use Rattle.std.specs.Option.{option_map_or, unwrap_or}
use Rattle.std.proofs.lemmas.Bool.{cases_eq}
use Rattle.std.proofs.lemmas.Bool.Decides.{nat_tests}
use Rattle.std.proofs.lemmas.List.{map-append, append-nil, length-set}
use Rattle.std.proofs.lemmas.List.Elements.{filter-append}
use Rattle.std.proofs.lemmas.List.Folds.{find_past}
use Rattle.perc_ohb.specs.Rewriting.{Rewrite}
use Rattle.perc_rtp.specs.Header.{Header}
use Rattle.perc_ohb.specs.declared.block.Ohb.{Ohb}
use Rattle.perc_ekt.specs.Field.{Field}
use Rattle.perc_keyset.specs.Set.{is_of}
use Rattle.perc_keyset.specs.declared.Entry.{Entry}
use Rattle.perc_distributor.specs.declared.fault.ForwardFault.{ForwardFault}
use Rattle.perc_distributor.specs.declared.plain.Plain.{Plain}
use Rattle.perc_distributor.specs.declared.outputs.Output.{Output}
use Rattle.perc_distributor.specs.Inbound.{Packet, Media, Control}
use Rattle.perc_distributor.specs.Forwarding.{Sealing, Sent, is_named, is_owned, source_of, media_index, nothing_sealed, recipients, sealing_of, sent_each, sent_from, sent_media, sent_to, with_sealing}
use Rattle.perc_distributor.specs.Kept.{ArePlain, IsPlain, IsSealing, Kept, SameSealing, StandsFor, holds, kept_of, sent_of}
use Rattle.perc_distributor.specs.Parts.{HasSent, control_place}
use Rattle.perc_distributor.specs.Tables.{HasAdded, HasSentOne, IsPlaceOf, IsTable, OnlyOf}
use Rattle.perc_distributor.proofs.Sending.{sent_by, control_by}
use Rattle.perc_distributor.proofs.PlaceLaws.{any_set_same, differ_set, found_past, found_with, holds_is, holds_other}

-- ---- what was sealed for a serial is of that serial

pub media_serial : (s : Sealing) (e : Entry) (place : ℕ) (change : Rewrite) (h : Header) (inner : List ℕ) (o : Ohb) (field : Field) (at : Result ℕ ForwardFault)
    → (sent_media s e place change h inner o field at).1.serial ≡ s.serial
media_serial s e place change h inner o field (Ok at) = refl
media_serial s e place change h inner o field (Err f) = refl

control_serial : (s : Sealing) (e : Entry) (place : ℕ) (octets : List ℕ) (at : Result ℕ ForwardFault) → (sent_by s e place octets at).1.serial ≡ s.serial
control_serial s e place octets (Ok at) = refl
control_serial s e place octets (Err f) = refl

pub sent_serial : (s : Sealing) (e : Entry) (place : ℕ) (change : Rewrite) (packet : Packet) → (sent_to s e place change packet).1.serial ≡ s.serial
sent_serial s e place change (Media from h inner o field) = media_serial s e place change h inner o field (media_index s.streams h inner o field change)
sent_serial s e place change (Control from octets) =
    ap (λ (step : Sent × Sealing). step.1.serial) (control_by s e place octets) ∙ control_serial s e place octets (control_place s.rtcp octets)

abbrev pub sealing_in : List Sealing → ℕ → Option Sealing
sealing_in sealing s = find (λ x. x.serial == s) sealing

found_serial : (b : Bool) (x : Sealing) (serial : ℕ) (rest : Option Sealing) → nat_eq x.serial serial ≡ b → (unwrap_or rest (nothing_sealed serial)).serial ≡ serial
    → (unwrap_or (cond b (Some x) rest) (nothing_sealed serial)).serial ≡ serial
found_serial true x serial rest is tail = grind (arith, nat_tests)
found_serial false x serial rest is tail = tail

pub of_serial : (sealing : List Sealing) (serial : ℕ) → (sealing_of sealing serial).serial ≡ serial
of_serial [] serial = refl
of_serial (x ∷ sealing) serial = found_serial (nat_eq x.serial serial) x serial (sealing_in sealing serial) refl (of_serial sealing serial)

-- ---- what was sealed, with this in the place of its serial's

pub with_found : (sealing : List Sealing) (new : Sealing) (t : ℕ) → t ≡ new.serial → sealing_in (with_sealing new sealing) t ≡ Some new
with_found sealing new t same = found_with (λ (x : Sealing). x.serial) (λ s. not (s == new.serial)) sealing new t (sym same) (grind (arith, nat_tests))

passes : (new : Sealing) (t : ℕ) → (t ≡ new.serial → ⊥) → not (t == new.serial) ≡ true
passes new t other = grind (arith, nat_tests)

pub with_past : (sealing : List Sealing) (new : Sealing) (t : ℕ) → (t ≡ new.serial → ⊥) → sealing_in (with_sealing new sealing) t ≡ sealing_in sealing t
with_past sealing new t other =
    found_past (λ (x : Sealing). x.serial) (λ s. not (s == new.serial)) sealing new t (λ same. other (sym same))
    ∙ ap (λ (b : Bool). cond b (sealing_in sealing t) None) (passes new t other)

-- ---- one output

-- the facts of a packet sealed in the place of a serial
pub record Sends (kept : List Kept) (serial at : ℕ) (was now : Kept) : Type 0 where
  pub place : IsPlaceOf kept serial at
  pub is : was ≡ get_or kept at was
  pub same : now.serial ≡ was.serial

sends_holds : (kept : List Kept) (serial at : ℕ) (was now : Kept) → Sends kept serial at was now → now.serial ≡ Some serial
sends_holds kept serial at was now s =
    s.same ∙ ap (λ (k : Kept). k.serial) s.is ∙ holds_is (get_or kept at was).serial serial (s.place.holds_it was)

same_there : (kept : List Kept) (serial at : ℕ) (was now : Kept) → Sends kept serial at was now → now.serial ≡ (get_or kept at now).serial
same_there kept serial at was now s = sends_holds kept serial at was now s ∙ sym (holds_is (get_or kept at now).serial serial (s.place.holds_it now))

pub sends_table : (kept : List Kept) (serial at : ℕ) (was now : Kept) → Sends kept serial at was now → IsTable kept → IsTable (set kept at now)
sends_table kept serial at was now s table =
    record { size = length-set kept at now ∙ table.size; differ = differ_set kept at now (same_there kept serial at was now s) table.differ }

found_after : (kept : List Kept) (serial at t : ℕ) (was now : Kept) → Sends kept serial at was now → (serial ≡ t → ⊥) → kept_of (set kept at now) t ≡ kept_of kept t
found_after kept serial at t was now s apart =
    find_past (holds t) kept at now now (holds_other (get_or kept at now).serial serial t (holds_is (get_or kept at now).serial serial (s.place.holds_it now)) apart)
    (holds_other now.serial serial t (sends_holds kept serial at was now s) apart)

now_holds : (kept : List Kept) (serial at : ℕ) (was now : Kept) → Sends kept serial at was now → holds serial now ≡ true
now_holds kept serial at was now s =
    ap (λ (o : Option ℕ). option_map_or (λ t. t == serial) o false) (sends_holds kept serial at was now s) ∙ grind (arith, nat_tests)

pub sends_stands : (kept : List Kept) (sealing : List Sealing) (serial at : ℕ) (was now : Kept) (after : Sealing) → Sends kept serial at was now → StandsFor kept sealing
    → after.serial ≡ serial → IsSealing now after → StandsFor (set kept at now) (with_sealing after sealing)
sends_stands kept sealing serial at was now after s stands its is = record {
  each = λ t.
      elim (cases_eq serial t) as (λ _. SameSealing (kept_of (set kept at now) t) (sealing_of (with_sealing after sealing) t)) [
        | inl same ↦
            rw (ap (kept_of (set kept at now)) (sym same) ∙ s.place.written now (now_holds kept serial at was now s), with_found sealing after t (sym same ∙ sym its)) is
        | inr apart ↦
            rw (found_after kept serial at t was now s apart, with_past sealing after t (λ e. apart (sym its ∙ sym e))) (stands.each t)
      ];
}

-- what stands in its place was sealed for the serial
pub stands_at : (kept : List Kept) (sealing : List Sealing) (serial at : ℕ) (was : Kept) → IsPlaceOf kept serial at
    → was ≡ get_or kept at was → StandsFor kept sealing → IsSealing was (sealing_of sealing serial)
stands_at kept sealing serial at was place is stands =
    let found : kept_of kept serial ≡ Some was = place.found was ∙ ap (λ (k : Kept). Some k) (sym is) in
    subst (λ (o : Option Kept). SameSealing o (sealing_of sealing serial)) found (stands.each serial)

pub sends_one : (kept : List Kept) (sealing : List Sealing) (e : Entry) (at : ℕ) (was now : Kept) (place : ℕ) (change : Rewrite) (packet : Packet) (result : Output)
    → Sends kept e.serial at was now → StandsFor kept sealing → HasSent (sent_to (sealing_of sealing e.serial) e place change packet) result now
    → HasSentOne sealing (sent_to (sealing_of sealing e.serial) e place change packet) result (set kept at now)
sends_one kept sealing e at was now place change packet result s stands sent = record {
  output = sent.output;
  keeps = sends_stands kept sealing e.serial at was now _ s stands
      (sent_serial (sealing_of sealing e.serial) e place change packet ∙ of_serial sealing e.serial) sent.keeps;
}

pub sends_only : (kept : List Kept) (serial at : ℕ) (was now : Kept) → Sends kept serial at was now → (entries : List Entry) → OnlyOf entries kept → OnlyOf entries (set kept at now)
sends_only kept serial at was now s entries only = record {
  table = sends_table kept serial at was now s only.table;
  each = λ t any.
      only.each t (sym (any_set_same (holds t) kept at now (ap (λ (o : Option ℕ). option_map_or (λ x. x == t) o false) (same_there kept serial at was now s))) ∙ any);
}

-- ---- the outputs of a packet

pub each_push : (entries : List Entry) (e : Entry) (place : ℕ) (change : Rewrite) (packet : Packet) (sealing : List Sealing)
    → sent_each (entries ++ e ∷ []) place change packet sealing
    ≡ (
      (sent_each entries place change packet sealing).0 ++ (sent_to (sealing_of (sent_each entries place change packet sealing).1 e.serial) e place change packet).0 ∷ [],
      with_sealing (sent_to (sealing_of (sent_each entries place change packet sealing).1 e.serial) e place change packet).1 (sent_each entries place change packet sealing).1,
    )
each_push [] e place change packet sealing = refl
each_push (x ∷ entries) e place change packet sealing =
    let one : Sent × Sealing = sent_to (sealing_of sealing x.serial) x place change packet in
    ap (λ (step : List Sent × List Sealing). (one.0 ∷ step.0, step.1)) (each_push entries e place change packet (with_sealing one.1 sealing))

-- one more output
pub added_one : (step : List Sent × List Sealing) (one : Sent × Sealing) (before now : List Output) (result : Output) (kept : List Kept) → map sent_of now ≡ map sent_of before ++ step.0
    → HasSentOne step.1 one result kept → HasAdded (step.0 ++ one.0 ∷ [], with_sealing one.1 step.1) before (now ++ result ∷ []) kept
added_one step one before now result kept outputs sent = record {
  outputs =
      map-append sent_of now (result ∷ [])
      ∙ ap (λ (xs : List Sent). xs ++ sent_of result ∷ []) outputs
      ∙ ap (λ (x : Sent). map sent_of before ++ step.0 ++ x ∷ []) sent.output
      ∙ append_assoc (map sent_of before) step.0 (one.0 ∷ []);
  keeps = sent.keeps;
}

-- ---- the outputs of a batch

pub from_push : (number of : ℕ) (entries : List Entry) (place : ℕ) (packets : List Packet) (packet : Packet) (change : Rewrite) (only : Option (List (List ℕ))) (sealing : List Sealing) (last : ℕ)
    → last ≡ place + length packets
    → sent_from number of entries place (packets ++ packet ∷ []) change only sealing
    ≡ (
      (sent_from number of entries place packets change only sealing).0
          ++ (sent_each (recipients number of entries only packet) last change packet (sent_from number of entries place packets change only sealing).1).0,
      (sent_each (recipients number of entries only packet) last change packet (sent_from number of entries place packets change only sealing).1).1,
    )
from_push number of entries place [] packet change only sealing last is =
    let same : last ≡ place = omega arith in
    let one : ℕ → List Sent × List Sealing = λ n. sent_each (recipients number of entries only packet) n change packet sealing in
    ap (λ (n : ℕ). ((one n).0 ++ [], (one n).1)) (sym same) ∙ ap (λ (xs : List Sent). (xs, (one last).1)) (append-nil (one last).0)
from_push number of entries place (p ∷ packets) packet change only sealing last is =
    let one : List Sent × List Sealing = sent_each (recipients number of entries only p) place change p sealing in
    let rest = from_push number of entries (place + 1) packets packet change only one.1 last (omega arith) in
    let more : List Sent × List Sealing = sent_from number of entries (place + 1) packets change only one.1 in
    let end : List Sent × List Sealing = sent_each (recipients number of entries only packet) last change packet more.1 in
    ap (λ (step : List Sent × List Sealing). (one.0 ++ step.0, step.1)) rest ∙ ap (λ (xs : List Sent). (xs, end.1)) (sym (append_assoc one.0 more.0 end.0))

pub added_more : (step one : List Sent × List Sealing) (before now after : List Output) (kept : List Kept) → map sent_of now ≡ map sent_of before ++ step.0
    → HasAdded one now after kept → HasAdded (step.0 ++ one.0, one.1) before after kept
added_more step one before now after kept outputs added = record {
  outputs = added.outputs ∙ ap (λ (xs : List Sent). xs ++ one.0) outputs ∙ append_assoc (map sent_of before) step.0 one.0;
  keeps = added.keeps;
}

-- the packet of each place of a batch
pub record At (batch : List Plain) (packets : List Packet) (i : ℕ) (p : Plain) : Type 0 where
  pub packet : Packet
  pub there : slice_get packets i ≡ Some packet
  pub is : IsPlain p packet

pub plain_at : (batch : List Plain) (packets : List Packet) (i : ℕ) (p : Plain) → ArePlain batch packets → i < length batch → p ≡ get_or batch i p → At batch packets i p
plain_at [] packets i p are within is = absurd (omega arith)
plain_at (b ∷ batch) [] i p are within is = absurd are
plain_at (b ∷ batch) (packet ∷ packets) zero p are within is = record { packet = packet; there = refl; is = subst (λ (q : Plain). IsPlain q packet) (sym is) are.0 }
plain_at (b ∷ batch) (packet ∷ packets) (suc i) p are within is =
    let rest = plain_at batch packets i p are.1 (omega arith) is in
    record { packet = rest.packet; there = rest.there; is = rest.is }

pub plain_length : (batch : List Plain) (packets : List Packet) → ArePlain batch packets → length batch ≡ length packets
plain_length [] [] are = refl
plain_length [] (packet ∷ packets) are = absurd are
plain_length (b ∷ batch) [] are = absurd are
plain_length (b ∷ batch) (packet ∷ packets) are = ap suc (plain_length batch packets are.1)

-- ---- whom a packet goes to

pub from_source : (p : Plain) (packet : Packet) → IsPlain p packet → p.from ≡ source_of packet
from_source p (Media from h inner o field) is = is.source
from_source p (Control from octets) is = is.source

-- one more entry, which is a recipient or isn't
pub recipients_push : (number of : ℕ) (entries : List Entry) (e : Entry) (only : Option (List (List ℕ))) (packet : Packet) (b : Bool)
    → b ≡ (is_owned number of e && not (is_of (source_of packet) e) && is_named only e)
    → recipients number of (entries ++ e ∷ []) only packet ≡ recipients number of entries only packet ++ cond b (e ∷ []) []
recipients_push number of entries e only packet b is =
    filter-append (λ x. is_owned number of x && not (is_of (source_of packet) x) && is_named only x) entries (e ∷ [])
    ∙ ap (λ (c : Bool). recipients number of entries only packet ++ cond c (e ∷ []) []) (sym is)
