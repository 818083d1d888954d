-- Calls of `forward_batch` one after another over the same stations, and what is sealed in them.
use Rattle.std.specs.Prelude.{◌≡◌, ℕ, zero, suc, ◌+◌, ◌<◌, List, [], ◌∷◌, ◌++◌, None, length, map, drop, All, slice_index, slice_index_or}
use mathlib.Core.List.{IsPrefix}
use Rattle.perc_ohb.specs.Rewriting.{Rewrite}
use Rattle.perc_keyset.specs.declared.Op.{Op}
use Rattle.perc_distributor.specs.declared.plain.Plain.{Plain}
use Rattle.perc_distributor.specs.declared.outputs.Output.{Output}
use Rattle.perc_distributor.specs.Inbound.{Packet}
use Rattle.perc_distributor.specs.Kept.{ArePlain, StandsFor, sent_of}
use Rattle.perc_forwarding.specs.Runs.{AreSealedWith, Call, Seal, all_seals}
use Rattle.perc_published.specs.Calls as readers
use Rattle.perc_stations.specs.Stations.{AreStations, HaveForwarded}
use Rattle.perc_stations.specs.declared.station.Station.{Station}

-- a call of `forward_batch`: the stations before and after it, the batch, the packets that it is, and the change
pub record Round : Type 0 where
  pub before : List Station
  pub batch : List Plain
  pub packets : List Packet
  pub change : Rewrite
  pub after : List Station

-- The stations are of new workers, which have sealed nothing.
pub record AreNew (stations : List Station) : Type 0 where
  pub call : readers.Call
  pub are : AreStations call stations
  pub nothing : All (λ s. StandsFor s.worker.kept []) stations

-- Its worker is as it was, and its reader has seen what it had seen; it may have been told more.
pub record StaysAs (before after : Station) : Type 0 where
  pub worker : after.worker ≡ before.worker
  pub seen : after.reader.seen ≡ before.reader.seen

-- Stations stay so up to a call, in which they forward a batch of octets, each with the set of a beginning of this history.
pub record IsRound (history : List Op) (stations : List Station) (r : Round) : Type 0 where
  pub count : length r.before ≡ length stations
  pub stay : (i : ℕ) (d : Station) → i < length stations → StaysAs (slice_index_or stations i d) (slice_index_or r.before i d)
  pub plain : ArePlain r.batch r.packets
  pub octets : All (λ p. (k : ℕ) → slice_index p.octets k < 256) r.batch
  pub forwarded : HaveForwarded r.batch r.change r.before r.after
  pub early : All (λ s. IsPrefix s.reader.seen history) r.after

abbrev pub AreRounds : List Op → List Station → List Round → Type 0
AreRounds history stations [] = Unit {0}
AreRounds history stations (r ∷ rounds) = IsRound history stations r × AreRounds history r.after rounds

-- ---- what is sealed

-- what the reader of station i has seen, and the outputs there
abbrev pub seen_at : ℕ → List Station → List Op
seen_at i stations = slice_index_or (map (λ s. s.reader.seen) stations) i []

abbrev pub out_at : ℕ → List Station → List Output
out_at i stations = slice_index_or (map (λ s. s.out) stations) i []

-- the calls of the worker of station i, which forwarded with the set of this list before
abbrev pub calls_at : ℕ → List Op → List Round → List Call
calls_at i seen [] = []
calls_at i seen (r ∷ rounds) =
    record { more = drop (length seen) (seen_at i r.after); batch = r.packets; change = r.change; only = None } ∷ calls_at i (seen_at i r.after) rounds

-- of so many stations from i on
abbrev pub calls_from : ℕ → ℕ → List Round → List (List Call)
calls_from i zero rounds = []
calls_from i (suc n) rounds = calls_at i [] rounds ∷ calls_from (i + 1) n rounds

-- what so many stations with new workers seal
abbrev pub seals_of : ℕ → List Round → List Seal
seals_of count rounds = all_seals 0 count (calls_from 0 count rounds)

-- These are the seals of the outputs of station i that aren't dropped, call by call.
abbrev pub AreSealsAt : ℕ → List Round → List Seal → Type 0
AreSealsAt i [] seals = seals ≡ []
AreSealsAt i (r ∷ rounds) seals =
    (mine later : List Seal) × (seals ≡ mine ++ later) × AreSealedWith r.packets r.change (map sent_of (out_at i r.after)) mine × AreSealsAt i rounds later

-- And these are those of so many stations from i on.
abbrev pub AreSealsFrom : ℕ → ℕ → List Round → List Seal → Type 0
AreSealsFrom i zero rounds seals = seals ≡ []
AreSealsFrom i (suc n) rounds seals =
    (mine others : List Seal) × (seals ≡ mine ++ others) × AreSealsAt i rounds mine × AreSealsFrom (i + 1) n rounds others
