-- Calls of `forward_batch` one after another: each station's are calls of its worker over beginnings of the history.
use Rattle.std.proofs.Common.{◌≡◌, ◌≢◌, ℕ, zero, suc, ◌+◌, ◌<◌, List, [], ◌∷◌, ◌++◌, length, map, drop, get_or, None, refl, sym, ap, subst, ◌∙◌, append_assoc, arith}
use Rattle.std.specs.Prelude.{All, AllPairs, slice_index}
use Rattle.std.proofs.Math.ListN.{get_or-map}
use Rattle.std.proofs.Math.Seq.{drop-append_seam}
use Rattle.std.proofs.lemmas.List.{append-nil}
use Rattle.std.proofs.lemmas.List.Elements.{All-cons, All-head, All-nil, All-tail}
use mathlib.Core.List.{IsPrefix}
use Rattle.perc_gcm.proofs.Numbers.{take_below}
use Rattle.perc_keyset.specs.Set.{fold_ops}
use Rattle.perc_keyset.specs.History.{IsHistory}
use Rattle.perc_keyset.specs.declared.Op.{Op}
use Rattle.perc_distributor.specs.declared.plain.Plain.{Plain}
use Rattle.perc_distributor.specs.Inbound.{Control, Media, Packet}
use Rattle.perc_distributor.specs.Forwarding.{Sealing, Sent, media_step}
use Rattle.perc_distributor.specs.Kept.{ArePlain, HasForwarded, IsPlain, StandsFor, Working, sent_of}
use Rattle.perc_distributor.specs.Tables.{Forwards}
use Rattle.perc_forwarding.specs.Runs.{AreOver, AreSealedWith, AreSound, Call, IsSound, Seal, all_seals, call_sealing, call_seals, nonce_of, published, run_seals, step_seals}
use Rattle.perc_forwarding.proofs.Matching.{step_sealed}
use Rattle.perc_forwarding.proofs.Owning.{all_workers}
use Rattle.perc_published.specs.Calls as readers
use Rattle.perc_stations.specs.Rounds.{AreNew, AreRounds, AreSealsAt, AreSealsFrom, IsRound, Round, calls_at, calls_from, out_at, seals_of, seen_at}
use Rattle.perc_stations.specs.declared.station.Station.{Station}

-- ---- packets

sound_one : (p : Plain) (packet : Packet) → IsPlain p packet → ((k : ℕ) → slice_index p.octets k < 256) → IsSound packet
sound_one p (Media from h inner block field) is octets = is.packet.reads.header
sound_one p (Control from plain) is octets = λ k. subst (λ (xs : List ℕ). slice_index xs k < 256) is.packet (take_below p.len p.octets octets k)

sound_all : (batch : List Plain) (packets : List Packet) → ArePlain batch packets → All (λ p. (k : ℕ) → slice_index p.octets k < 256) batch → All IsSound packets
sound_all [] [] are octets = All-nil IsSound
sound_all [] (packet ∷ packets) are octets = absurd are
sound_all (p ∷ batch) [] are octets = absurd are
sound_all (p ∷ batch) (packet ∷ packets) are octets =
    All-cons IsSound packet packets (sound_one p packet are.0 (All-head (λ (q : Plain). (k : ℕ) → slice_index q.octets k < 256) p batch octets))
    (sound_all batch packets are.1 (All-tail (λ (q : Plain). (k : ℕ) → slice_index q.octets k < 256) p batch octets))

-- ---- beginnings

begins_further : (xs ys zs : List Op) → IsPrefix xs ys → IsPrefix ys zs → IsPrefix xs zs
begins_further xs ys zs first second = (first.0 ++ second.0, sym (append_assoc xs first.0 second.0) ∙ ap (λ (o : List Op). o ++ second.0) first.1 ∙ second.1)

rest_of : (xs ys : List Op) → IsPrefix xs ys → xs ++ drop (length xs) ys ≡ ys
rest_of xs ys begins = ap (λ (o : List Op). xs ++ drop (length xs) o) (sym begins.1) ∙ ap (λ (o : List Op). xs ++ o) (drop-append_seam xs begins.0) ∙ begins.1

-- ---- a station

-- what stands where there is no station
abbrev pub nobody : readers.Call → Station
nobody call = record {
  worker = record { number = 0; of = 0; kept = [] };
  reader = record { call = call; seen = []; told = []; enters = 0 };
  out = [];
}

abbrev pub station_at : readers.Call → ℕ → List Station → Station
station_at call i stations = get_or stations i (nobody call)

seen_is : (call : readers.Call) (i : ℕ) (stations : List Station) → seen_at i stations ≡ (station_at call i stations).reader.seen
seen_is call i stations = get_or-map (λ (s : Station). s.reader.seen) stations i (nobody call)

out_is : (call : readers.Call) (i : ℕ) (stations : List Station) → out_at i stations ≡ (station_at call i stations).out
out_is call i stations = get_or-map (λ (s : Station). s.out) stations i (nobody call)

-- A station is of worker i of n, which has sealed this, and its reader has seen more than these.
pub record Starts (i n : ℕ) (ops : List Op) (sealing : List Sealing) (s : Station) : Type 0 where
  pub number_is : s.worker.number ≡ i
  pub of_is : s.worker.of ≡ n
  pub stands : StandsFor s.worker.kept sealing
  pub seen : IsPrefix ops s.reader.seen

-- its call of the worker in a round
abbrev pub call_at : ℕ → List Op → Round → Call
call_at i ops r = record { more = drop (length ops) (seen_at i r.after); batch = r.packets; change = r.change; only = None }

pub record Turned (call : readers.Call) (i n : ℕ) (ops : List Op) (sealing : List Sealing) (r : Round) : Type 0 where
  pub whole : ops ++ (call_at i ops r).more ≡ seen_at i r.after
  pub outputs : map sent_of (out_at i r.after) ≡ (media_step i n (fold_ops (ops ++ (call_at i ops r).more)) r.packets r.change None sealing).0
  pub next : Starts i n (seen_at i r.after) (call_sealing i n ops sealing (call_at i ops r)) (station_at call i r.after)

turned : (call : readers.Call) (history : List Op) (i n : ℕ) (ops : List Op) (sealing : List Sealing) (stations : List Station) (r : Round) → i < n → length stations ≡ n
    → Starts i n ops sealing (station_at call i stations) → IsRound history stations r → Turned call i n ops sealing r
turned call history i n ops sealing stations r within count starts round =
    let s : Station = station_at call i stations in
    let b : Station = station_at call i r.before in
    let a : Station = station_at call i r.after in
    let here : i < length stations = subst (λ (k : ℕ). i < k) (sym count) within in
    let there : i < length r.before = subst (λ (k : ℕ). i < k) (sym round.count) here in
    let stay = round.stay i (nobody call) here in
    let did = round.forwarded.each i (nobody call) there in
    let begins : IsPrefix ops a.reader.seen = begins_further ops b.reader.seen a.reader.seen (subst (IsPrefix ops) (sym stay.seen) starts.seen) did.entered.seen in
    let whole : ops ++ drop (length ops) (seen_at i r.after) ≡ seen_at i r.after = rest_of ops (seen_at i r.after) (subst (IsPrefix ops) (sym (seen_is call i r.after)) begins) in
    let set : fold_ops a.reader.seen ≡ fold_ops (ops ++ drop (length ops) (seen_at i r.after)) = ap fold_ops (sym (seen_is call i r.after) ∙ sym whole) in
    let forwards : Forwards s.worker (fold_ops a.reader.seen) r.batch r.change None a.out a.worker.kept =
    subst (λ (w : Working). Forwards w (fold_ops a.reader.seen) r.batch r.change None a.out a.worker.kept) stay.worker did.forwarded in
    let gives : HasForwarded (media_step s.worker.number s.worker.of (fold_ops a.reader.seen) r.packets r.change None sealing) a.out a.worker.kept =
    forwards sealing r.packets starts.stands round.plain in
    let step : media_step s.worker.number s.worker.of (fold_ops a.reader.seen) r.packets r.change None sealing ≡ media_step i n (fold_ops (ops ++ drop (length ops) (seen_at i r.after))) r.packets r.change None sealing =
    λ k. media_step (starts.number_is k) (starts.of_is k) (set k) r.packets r.change None sealing in
    record {
      whole = whole;
      outputs = ap (map sent_of) (out_is call i r.after) ∙ gives.outputs ∙ ap (λ (x : List Sent × List Sealing). x.0) step;
      next = record {
        number_is = did.number ∙ ap (λ (w : Working). w.number) stay.worker ∙ starts.number_is;
        of_is = did.of ∙ ap (λ (w : Working). w.of) stay.worker ∙ starts.of_is;
        stands = subst (λ (x : List Sent × List Sealing). StandsFor a.worker.kept x.1) step gives.keeps;
        seen = ([], append-nil (seen_at i r.after) ∙ seen_is call i r.after);
      };
    }

-- ---- its rounds

module _ (call : readers.Call) (history : List Op) (i n : ℕ) (within : i < n) where
  abbrev count_after : (stations : List Station) (r : Round) → length stations ≡ n → IsRound history stations r → length r.after ≡ n
  count_after stations r count round = round.forwarded.count ∙ round.count ∙ count

  sealed_at : (ops : List Op) (sealing : List Sealing) (stations : List Station) (rounds : List Round) → length stations ≡ n → Starts i n ops sealing (station_at call i stations)
      → AreRounds history stations rounds → AreSealsAt i rounds (run_seals i n ops sealing (calls_at i ops rounds))
  sealed_at ops sealing stations [] count starts are = refl
  sealed_at ops sealing stations (r ∷ rounds) count starts are =
      let c : Call = call_at i ops r in
      let t = turned call history i n ops sealing stations r within count starts are.0 in
      let later : List Seal = run_seals i n (ops ++ c.more) (call_sealing i n ops sealing c) (calls_at i (seen_at i r.after) rounds) in (
        call_seals i n ops sealing c,
        later,
        refl,
        subst (λ (outputs : List Sent). AreSealedWith r.packets r.change outputs (call_seals i n ops sealing c)) (sym t.outputs)
            (step_sealed i n (fold_ops (ops ++ c.more)) r.packets r.change None sealing),
        subst (λ (o : List Op). AreSealsAt i rounds (run_seals i n o (call_sealing i n ops sealing c) (calls_at i (seen_at i r.after) rounds))) (sym t.whole)
            (sealed_at (seen_at i r.after) (call_sealing i n ops sealing c) r.after rounds (count_after stations r count are.0) t.next are.1),
      )

  begins_at : (ops : List Op) (sealing : List Sealing) (stations : List Station) (rounds : List Round) → length stations ≡ n → Starts i n ops sealing (station_at call i stations)
      → AreRounds history stations rounds → IsPrefix ops history → IsPrefix (published ops (calls_at i ops rounds)) history
  begins_at ops sealing stations [] count starts are begins = begins
  begins_at ops sealing stations (r ∷ rounds) count starts are begins =
      let c : Call = call_at i ops r in
      let t = turned call history i n ops sealing stations r within count starts are.0 in
      let inside : i < length r.after = subst (λ (k : ℕ). i < k) (sym (count_after stations r count are.0)) within in
      let early : IsPrefix (seen_at i r.after) history = subst (λ (o : List Op). IsPrefix o history) (sym (seen_is call i r.after)) (are.0.early i (nobody call) inside) in
      subst (λ (o : List Op). IsPrefix (published o (calls_at i (seen_at i r.after) rounds)) history) (sym t.whole)
      (begins_at (seen_at i r.after) (call_sealing i n ops sealing c) r.after rounds (count_after stations r count are.0) t.next are.1 early)

sound_at : (history : List Op) (i : ℕ) (ops : List Op) (stations : List Station) (rounds : List Round) → AreRounds history stations rounds → AreSound (calls_at i ops rounds)
sound_at history i ops stations [] are = All-nil (λ (c : Call). All IsSound c.batch)
sound_at history i ops stations (r ∷ rounds) are =
    All-cons (λ (c : Call). All IsSound c.batch) (call_at i ops r) (calls_at i (seen_at i r.after) rounds) (sound_all r.batch r.packets are.0.plain are.0.octets)
    (sound_at history i (seen_at i r.after) r.after rounds are.1)

-- ---- all stations

module _ (history : List Op) (stations : List Station) (rounds : List Round) (new : AreNew stations) (are : AreRounds history stations rounds) where
  starts_at : (i : ℕ) → i < length stations → Starts i (length stations) [] [] (station_at new.call i stations)
  starts_at i within =
      let its = new.are i (nobody new.call) within in
      record { number_is = its.number_is; of_is = its.of_is; stands = new.nothing i (nobody new.call) within; seen = ((station_at new.call i stations).reader.seen, refl) }

  over_at : (i : ℕ) → i < length stations → AreOver history (calls_at i [] rounds)
  over_at i within =
      let begins = begins_at new.call history i (length stations) within [] [] stations rounds refl (starts_at i within) are (history, refl) in
      record { rest = begins.0; is = sym begins.1; sound = sound_at history i [] stations rounds are }

  over_from : (i left : ℕ) → i + left ≡ length stations → All (AreOver history) (calls_from i left rounds)
  over_from i zero whole = All-nil (AreOver history)
  over_from i (suc left) whole =
      All-cons (AreOver history) (calls_at i [] rounds) (calls_from (i + 1) left rounds) (over_at i (omega (arith, whole))) (over_from (i + 1) left (omega (arith, whole)))

  seals_from : (i left : ℕ) → i + left ≡ length stations → AreSealsFrom i left rounds (all_seals i (length stations) (calls_from i left rounds))
  seals_from i zero whole = refl
  seals_from i (suc left) whole =
      let within : i < length stations = omega (arith, whole) in (
        run_seals i (length stations) [] [] (calls_at i [] rounds),
        all_seals (i + 1) (length stations) (calls_from (i + 1) left rounds),
        refl,
        sealed_at new.call history i (length stations) within [] [] stations rounds refl (starts_at i within) are,
        seals_from (i + 1) left (omega (arith, whole)),
      )

pub all_apart : (history : List Op) (stations : List Station) (rounds : List Round) → IsHistory history → AreNew stations → AreRounds history stations rounds
    → AllPairs (λ a b. nonce_of a ≢ nonce_of b) (seals_of (length stations) rounds)
all_apart history stations rounds is new are =
    all_workers (length stations) history (calls_from 0 (length stations) rounds) is (over_from history stations rounds new are 0 (length stations) (omega arith))

pub all_sealed : (history : List Op) (stations : List Station) (rounds : List Round) → AreNew stations → AreRounds history stations rounds
    → AreSealsFrom 0 (length stations) rounds (seals_of (length stations) rounds)
all_sealed history stations rounds new are = seals_from history stations rounds new are 0 (length stations) (omega arith)
