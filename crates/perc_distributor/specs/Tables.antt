-- The places of a worker: which serial has which, and what a packet to entries does to them.
use Rattle.std.specs.Prelude.{◌≡◌, ℕ, ◌<◌, true, false, List, [], ◌∷◌, ◌++◌, length, map, Option, Some, None, IfSome, slice_index_or, slice_set}
use Rattle.std.specs.List.{list_any}
use Rattle.std.specs.Borrow.{Bor}
use Rattle.std.specs.Option.{option_map}
use Rattle.perc_ohb.specs.Rewriting.{Rewrite}
use Rattle.perc_keyset.specs.declared.Entry.{Entry}
use Rattle.perc_distributor.specs.declared.plain.Plain.{Plain}
use Rattle.perc_distributor.specs.declared.outputs.Output.{Output}
use Rattle.perc_distributor.specs.Inbound.{Packet, in_set}
use Rattle.perc_distributor.specs.Forwarding.{Sealing, Sent, media_step, recipients, sealing_of, sent_each, sent_from, sent_to, with_sealing}
use Rattle.perc_distributor.specs.Kept.{ArePlain, HasForwarded, IsPlain, Kept, Place, StandsFor, Working, holds, kept_of, sent_of}
use Rattle.perc_distributor.specs.Rooms.{is_free}

-- how many serials have a place at most
abbrev pub most_serials : ℕ
most_serials = 64

-- No serial has two places.
abbrev pub Differ : {R : Type 0} → List (Place R) → Type 0
Differ [] = Unit {0}
Differ (k ∷ kept) = IfSome k.serial (λ s. list_any (holds s) kept ≡ false) × Differ kept

-- There are as many places as serials at most, and no serial has two.
pub record IsTable (kept : List Kept) : Type 0 where
  pub size : length kept ≡ most_serials
  pub differ : Differ kept

-- The places are of serials in the set alone.
pub record OnlyOf (set : List Entry) (kept : List Kept) : Type 0 where
  pub table : IsTable kept
  pub each : (serial : ℕ) → list_any (holds serial) kept ≡ true → in_set set serial ≡ true

-- Where the serial has no place, one is free.
abbrev pub HasRoomFor : ℕ → List Kept → Type 0
HasRoomFor serial kept = kept_of kept serial ≡ None → list_any is_free kept ≡ true

-- This is the place of the serial: what stands there is found, and what is written there.
pub record IsPlaceOf {R : Type 0} (kept : List (Place R)) (serial place : ℕ) : Type 0 where
  pub in_range : place < length kept
  pub holds_it : (d : Place R) → holds serial (slice_index_or kept place d) ≡ true
  pub found : (d : Place R) → kept_of kept serial ≡ Some (slice_index_or kept place d)
  pub written : (k : Place R) → holds serial k ≡ true → kept_of (slice_set kept place k) serial ≡ Some k

-- Whatever was sealed before, that stands now too.
abbrev pub StandsStill : List Kept → List Kept → Type 0
StandsStill before after = (sealing : List Sealing) → StandsFor before sealing → StandsFor after sealing

-- Where the places were of the set's serials and this one is in the set, they still are.
abbrev pub StaysOnlyOf : ℕ → List Kept → List Kept → Type 0
StaysOnlyOf serial before after =
    (set : List Entry) → in_set set serial ≡ true → OnlyOf set before → OnlyOf set after

-- One output for an entry: it is that of a step, and what is kept stands for what the step leaves.
pub record HasSentOne (sealing : List Sealing) (step : Sent × Sealing) (result : Output) (kept : List Kept) : Type 0 where
  pub output : sent_of result ≡ step.0
  pub keeps : StandsFor kept (with_sealing step.1 sealing)

abbrev pub SendsOne : List Kept → Entry → ℕ → Plain → Rewrite → Output → List Kept → Type 0
SendsOne kept e place plain change result after =
    (sealing : List Sealing) (packet : Packet) → StandsFor kept sealing → IsPlain plain packet
    → HasSentOne sealing (sent_to (sealing_of sealing e.serial) e place change packet) result after

-- what an option of a slice shows
abbrev pub names : Option (Bor (List (List ℕ))) → Option (List (List ℕ))
names only = option_map (λ s. s.now) only

-- Outputs behind others.
pub record HasAdded (step : List Sent × List Sealing) (before after : List Output) (kept : List Kept) : Type 0 where
  pub outputs : map sent_of after ≡ map sent_of before ++ step.0
  pub keeps : StandsFor kept step.1

-- A packet is sent to each of its recipients among these entries.
abbrev pub SendsPacket : List Kept → ℕ → ℕ → List Entry → ℕ → Plain → Rewrite → Option (List (List ℕ)) → List Output → List Output → List Kept → Type 0
SendsPacket kept number of set place plain change only before out after =
    (sealing : List Sealing) (packet : Packet) → StandsFor kept sealing → IsPlain plain packet
    → HasAdded (sent_each (recipients number of set only packet) place change packet sealing) before out after

-- Each packet of a batch is.
abbrev pub SendsBatch : List Kept → ℕ → ℕ → List Entry → List Plain → Rewrite → Option (List (List ℕ)) → List Output → List Output → List Kept → Type 0
SendsBatch kept number of set batch change only before out after =
    (sealing : List Sealing) (packets : List Packet) → StandsFor kept sealing → ArePlain batch packets
    → HasAdded (sent_from number of set 0 packets change only sealing) before out after

-- What a worker makes of a batch, and what it keeps then.
abbrev pub Forwards : Working → List Entry → List Plain → Rewrite → Option (List (List ℕ)) → List Output → List Kept → Type 0
Forwards worker set batch change only out after =
    (sealing : List Sealing) (packets : List Packet) → StandsFor worker.kept sealing → ArePlain batch packets
    → HasForwarded (media_step worker.number worker.of set packets change only sealing) out after
