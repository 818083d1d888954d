-- Stations of one call, and batches that they can forward.
use Rattle.std.specs.Prelude.{◌≡◌, ℕ, ◌≤◌, List, length}
use Rattle.perc_distributor.specs.declared.plain.Plain.{Plain}
use Rattle.perc_distributor.specs.Inbound.{Packet}
use Rattle.perc_distributor.specs.Kept.{ArePlain}
use Rattle.perc_published.specs.Calls.{Call}
use Rattle.perc_stations.specs.Stations.{AreStations}
use Rattle.perc_stations.specs.declared.station.Station.{Station}

-- at most 32 opened packets
pub record IsBatch (batch : List Plain) : Type 0 where
  pub few : length batch ≤ 32
  pub packets : List Packet
  pub plain : ArePlain batch packets

-- so many stations, whose readers are of this call
pub record IsHall (count : ℕ) (call : Call) (stations : List Station) : Type 0 where
  pub count_is : length stations ≡ count
  pub are : AreStations call stations
