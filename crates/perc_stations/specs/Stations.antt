-- What stations are, and what a batch makes of them.
use Rattle.std.specs.Prelude.{◌≡◌, ℕ, ◌<◌, List, None, length, map, Contains, slice_index_or}
use Rattle.perc_ohb.specs.Rewriting.{Rewrite}
use Rattle.perc_keyset.specs.Set.{fold_ops}
use Rattle.perc_keyset.specs.declared.Entry.{Entry}
use Rattle.perc_distributor.specs.declared.plain.Plain.{Plain}
use Rattle.perc_distributor.specs.Inbound.{Packet}
use Rattle.perc_distributor.specs.Forwarding.{Sealing, Sent, sealing_of}
use Rattle.perc_distributor.specs.Kept.{ArePlain, StandsFor, sent_of}
use Rattle.perc_distributor.specs.Tables.{Forwards}
use Rattle.perc_forwarding.specs.Shares.{outputs_to}
use Rattle.perc_published.specs.Calls.{Call, HasEntered}
use Rattle.perc_stations.specs.declared.station.Station.{Station}

-- a station of this worker of so many, whose reader is of this call of `key_sets`
pub record IsStation (call : Call) (number of : ℕ) (s : Station) : Type 0 where
  pub number_is : s.worker.number ≡ number
  pub of_is : s.worker.of ≡ of
  pub call_is : s.reader.call ≡ call

-- They are those of the workers from 0 on, of as many as they are, and their readers are of this call of `key_sets`.
abbrev pub AreStations : Call → List Station → Type 0
AreStations call stations =
    (i : ℕ) (d : Station) → i < length stations → IsStation call i (length stations) (slice_index_or stations i d)

-- A station entered its reader once. With the set of the list that it has then seen it forwarded the batch: its outputs are those, and
-- what its worker keeps.
pub record HasForwarded (batch : List Plain) (change : Rewrite) (before after : Station) : Type 0 where
  pub entered : HasEntered before.reader after.reader
  pub forwarded : Forwards before.worker (fold_ops after.reader.seen) batch change None after.out after.worker.kept
  pub number : after.worker.number ≡ before.worker.number
  pub of : after.worker.of ≡ before.worker.of

-- Each of them did.
pub record HaveForwarded (batch : List Plain) (change : Rewrite) (before after : List Station) : Type 0 where
  pub count : length after ≡ length before
  pub each : (i : ℕ) (d : Station) → i < length before → HasForwarded batch change (slice_index_or before i d) (slice_index_or after i d)

-- ---- one entry

-- A station, whose worker had sealed this, forwarded these packets with a set that has the entry.
pub record HasForwardedFor (e : Entry) (packets : List Packet) (sealing : List Sealing) (change : Rewrite) (before after : Station) : Type 0 where
  pub batch : List Plain
  pub plain : ArePlain batch packets
  pub stands : StandsFor before.worker.kept sealing
  pub forwarded : HasForwarded batch change before after
  pub member : Contains (fold_ops after.reader.seen) e

-- A station's outputs to an entry are those of this step of one worker alone, in their order, and what is kept of the entry is the
-- same.
pub record GivesAsAlone (e : Entry) (alone : List Sent × List Sealing) (s : Station) : Type 0 where
  pub outputs : outputs_to e.association (map sent_of s.out) ≡ outputs_to e.association alone.0
  pub sealing : List Sealing
  pub stands : StandsFor s.worker.kept sealing
  pub kept : sealing_of sealing e.serial ≡ sealing_of alone.1 e.serial
