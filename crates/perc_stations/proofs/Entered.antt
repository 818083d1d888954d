-- What a station gives an entry, and which owns it.
use Rattle.std.proofs.Common.{◌≡◌, ℕ, ◌<◌, ◌%◌, true, false, List, [], None, length, map, get_or, refl, sym, ap, subst, ◌∙◌}
use Rattle.std.specs.Prelude.{◌==◌}
use Rattle.perc_ohb.specs.Rewriting.{Rewrite}
use Rattle.perc_keyset.specs.Set.{fold_ops}
use Rattle.perc_keyset.specs.declared.Entry.{Entry}
use Rattle.perc_distributor.specs.declared.plain.Plain.{Plain}
use Rattle.perc_distributor.specs.Inbound.{Packet}
use Rattle.perc_distributor.specs.Forwarding.{Sealing, is_owned, media_step, sealing_of}
use Rattle.perc_distributor.specs.Kept.{sent_of}
use Rattle.perc_forwarding.specs.Shares.{outputs_to}
use Rattle.perc_published.specs.Calls.{Call}
use Rattle.perc_stations.specs.Stations.{AreStations, GivesAsAlone, HasForwardedFor, HaveForwarded, IsStation}
use Rattle.perc_stations.specs.declared.station.Station.{Station}
use Rattle.perc_stations.proofs.Alone.{only_of, step_none, step_same}

pub as_alone : (e : Entry) (packets : List Packet) (change : Rewrite) (before after : Station) (one other : List Sealing) → HasForwardedFor e packets one change before after
    → is_owned before.worker.number before.worker.of e ≡ true → sealing_of one e.serial ≡ sealing_of other e.serial
    → GivesAsAlone e (media_step 0 1 (fold_ops after.reader.seen) packets change None other) after
as_alone e packets change before after one other f owned same =
    let w = before.worker in
    let set : List Entry = fold_ops after.reader.seen in
    let done = f.forwarded.forwarded one packets f.stands f.plain in
    let alike = step_same e w.number w.of set packets change None one other owned (only_of after.reader.seen e f.member) f.member same in
    record {
      outputs = ap (outputs_to e.association) done.outputs ∙ alike.outputs;
      sealing = (media_step w.number w.of set packets change None one).1;
      stands = done.keeps;
      kept = alike.sealing;
    }

pub not_its : (e : Entry) (packets : List Packet) (change : Rewrite) (before after : Station) (sealing : List Sealing) → HasForwardedFor e packets sealing change before after
    → is_owned before.worker.number before.worker.of e ≡ false → outputs_to e.association (map sent_of after.out) ≡ []
not_its e packets change before after sealing f other =
    let w = before.worker in
    ap (outputs_to e.association) (f.forwarded.forwarded sealing packets f.stands f.plain).outputs
    ∙ step_none e w.number w.of (fold_ops after.reader.seen) packets change None sealing other (only_of after.reader.seen e f.member)

pub owner : (call : Call) (stations : List Station) (i : ℕ) (d : Station) (e : Entry) → AreStations call stations → i < length stations
    → is_owned (get_or stations i d).worker.number (get_or stations i d).worker.of e ≡ (e.serial % length stations == i)
owner call stations i d e are within =
    let its = are i d within in
    λ k. e.serial % its.of_is k == its.number_is k
