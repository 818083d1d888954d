-- Stations and batches that are made one after another.
use Rattle.std.proofs.Common.{◌≡◌, ℕ, suc, ◌+◌, ◌<◌, ◌≤◌, ◌⊎◌, List, [], ◌∷◌, ◌++◌, length, get_or, take, drop, replicate, refl, sym, ap, subst, ◌∙◌, inl, inr, arith}
use Rattle.std.specs.List.{All}
use Rattle.std.proofs.lemmas.List.{append-nil, drop_all, length-append, length-replicate, take_all}
use Rattle.std.proofs.Math.Nat.{eq-or-lt_of_le}
use Rattle.std.proofs.lemmas.List.Elements.{All-replicate}
use Rattle.std.proofs.Math.ListN.{get_or-append}
use Rattle.std.proofs.Math.Seq.{get_or-append_seam}
use Rattle.perc_distributor.specs.declared.plain.Plain.{Plain}
use Rattle.perc_distributor.specs.Inbound.{Packet}
use Rattle.perc_distributor.specs.Kept.{ArePlain, IsPlain}
use Rattle.perc_published.specs.Calls.{Call, Reading, new_reader}
use Rattle.perc_stations.specs.Stations.{AreStations, IsStation}
use Rattle.perc_stations.specs.declared.station.Station.{Station}
use Rattle.perc_station_tests.specs.Batches.{IsBatch, IsHall}

-- ---- stations

-- They are the first of so many.
abbrev pub AreFirst : Call → ℕ → List Station → Type 0
AreFirst call of stations = (i : ℕ) (d : Station) → i < length stations → IsStation call i of (get_or stations i d)

-- Of so many readers, which are of one call, these are left, and the others have become stations.
pub record IsMaking (readers : List Reading) (of : ℕ) (rest : List Reading) (stations : List Station) : Type 0 where
  pub count : length stations + length rest ≡ of
  pub are : (call : Call) → readers ≡ replicate of (new_reader call) → All (λ r. r.call ≡ call) rest × AreFirst call of stations

pub making_none : (readers : List Reading) (of : ℕ) → (call : Call) × (readers ≡ replicate of (new_reader call)) → IsMaking readers of readers []
making_none readers of one = record {
  count = let is = ap length one.1 ∙ length-replicate of (new_reader one.0) in omega (arith, is);
  are = λ call is. (
    subst (All (λ r. r.call ≡ call)) (sym is) (All-replicate (λ r. r.call ≡ call) of (new_reader call) refl),
    λ i d h. absurd (omega (arith, h)),
  );
}

first_more : (call : Call) (of : ℕ) (stations : List Station) (s : Station) → AreFirst call of stations → IsStation call (length stations) of s
    → AreFirst call of (stations ++ s ∷ [])
first_more call of stations s are is = λ i d h. at i d (place i (subst (λ n. i < n) (length-append stations (s ∷ [])) h)) where
  place : (i : ℕ) → i < length stations + 1 → (i ≡ length stations) ⊎ (i < length stations)
  place i h = eq-or-lt_of_le (omega (arith, h))

  at : (i : ℕ) (d : Station) → (i ≡ length stations) ⊎ (i < length stations) → IsStation call i of (get_or (stations ++ s ∷ []) i d)
  at i d (inr below) = subst (IsStation call i of) (sym (get_or-append stations (s ∷ []) d i below)) (are i d below)
  at i d (inl last) =
      subst (λ (i : ℕ). IsStation call i of (get_or (stations ++ s ∷ []) i d)) (sym last)
      (subst (IsStation call (length stations) of) (sym (get_or-append_seam stations s [] d)) is)

pub making_more : (readers : List Reading) (of : ℕ) (reader : Reading) (rest : List Reading) (stations : List Station) (s : Station) → IsMaking readers of (reader ∷ rest) stations
    → s.worker.number ≡ length stations → s.worker.of ≡ of → s.reader ≡ reader → IsMaking readers of rest (stations ++ s ∷ [])
making_more readers of reader rest stations s m number_is of_is reader_is = record {
  count = let grown = length-append stations (s ∷ []) in omega (arith, m.count, grown);
  are = λ call is.
      let before = m.are call is in (
        (λ k d h. before.0 (suc k) d (omega (arith, h))),
        first_more call of stations s before.1
            (record { number_is = number_is; of_is = of_is; call_is = ap (λ (r : Reading). r.call) reader_is ∙ before.0 0 reader (omega arith) }),
      );
}

pub making_all : (readers : List Reading) (of : ℕ) (stations : List Station) → IsMaking readers of [] stations → (call : Call) → readers ≡ replicate of (new_reader call) → IsHall of call stations
making_all readers of stations m call is =
    let count = m.count in
    let all : length stations ≡ of = omega (arith, count) in
    record { count_is = all; are = subst (λ (n : ℕ). AreFirst call n stations) (sym all) (m.are call is).1 }

-- stations that were lent out of a vector, and came back as others
back : (old new : List Station) (len : ℕ) → length old ≡ len → length new ≡ length old → take len (new ++ drop (length new) old) ≡ new
back old new len is same =
    ap (λ (rest : List Station). take len (new ++ rest)) (drop_all (length new) old (omega (arith, same)))
    ∙ ap (take len) (append-nil new) ∙ take_all len new (omega (arith, same, is))

pub hall_back : (count : ℕ) (call : Call) (old new : List Station) (len : ℕ) → length old ≡ len → IsHall count call old → length new ≡ length old → AreStations call new
    → IsHall count call (take len (new ++ drop (length new) old))
hall_back count call old new len is h same are =
    let count_is = h.count_is in
    subst (IsHall count call) (sym (back old new len is same)) (record { count_is = omega (arith, count_is, same); are = are })

-- ---- a batch

-- So many opened packets.
pub record IsFilled (count : ℕ) (batch : List Plain) : Type 0 where
  pub count_is : length batch ≡ count
  pub packets : List Packet
  pub plain : ArePlain batch packets

pub filled_none : IsFilled 0 []
filled_none = record { count_is = refl; packets = []; plain = tt }

plain_more : (batch : List Plain) (packets : List Packet) (p : Plain) (packet : Packet) → ArePlain batch packets → IsPlain p packet
    → ArePlain (batch ++ p ∷ []) (packets ++ packet ∷ [])
plain_more [] [] p packet are is = (is, tt)
plain_more [] (other ∷ packets) p packet are is = absurd are
plain_more (other ∷ batch) [] p packet are is = absurd are
plain_more (other ∷ batch) (first ∷ packets) p packet are is = (are.0, plain_more batch packets p packet are.1 is)

pub filled_more : (count : ℕ) (batch : List Plain) (p : Plain) → IsFilled count batch → (packet : Packet) × IsPlain p packet → IsFilled (count + 1) (batch ++ p ∷ [])
filled_more count batch p f opened = record {
  count_is = let grown = length-append batch (p ∷ []) in let is = f.count_is in omega (arith, grown, is);
  packets = f.packets ++ opened.0 ∷ [];
  plain = plain_more batch f.packets p opened.0 f.plain opened.1;
}

pub filled_all : (batch : List Plain) → IsFilled 32 batch → IsBatch batch
filled_all batch f = record { few = let is = f.count_is in omega (arith, is); packets = f.packets; plain = f.plain }
