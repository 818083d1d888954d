-- Datagrams taken one after another.
use Rattle.std.proofs.Common.{◌≡◌, ℕ, zero, suc, ◌+◌, ◌-◌, ◌≤◌, ◌<◌, Bool, true, false, List, [], ◌∷◌, ◌++◌, length, take, Option, Some, None, slice_get, get_or, refl, sym, ap, subst, ◌∙◌, arith}
use Rattle.std.specs.Prelude.{filter_map}
use Rattle.std.specs.Option.{is_some, option_map}
use Rattle.std.proofs.lemmas.List.{take_all}
use Rattle.std.proofs.lemmas.List.Elements.{filter_map-append}
use Rattle.std.proofs.lemmas.Option.{slice_get_read, slice_get_within}
use Rattle.perc_distributor.specs.Inbound.{Heard, taken}
use Rattle.perc_forwarder.specs.Mirror.{MirrorsDistributor, MirrorsTakings, TakesMore, TakesNext}
use Rattle.perc_forwarder.specs.declared.distributor.Distributor as code
use Rattle.perc_keyset.specs.declared.Entry.{Entry}
use Rattle.perc_member.specs.Each.{MirrorEach, MirrorsDatagram}
use Rattle.perc_member.specs.declared.datagram.Datagram as code_datagram
use Rattle.perc_run.specs.Forwarding.{Taking, numbered, takings}
use Rattle.perc_run.specs.State.{Datagram, State, datagram_at}
use Rattle.perc_forward_line.specs.Telling.{AreThere}
use Rattle.perc_forward_line.proofs.Choosing.{DatagramAt, all_true_at, datagram_there}
use Rattle.perc_forward_line.proofs.Lists.{slice_get_some, take_push}

-- the takings, and what was heard behind them
abbrev Taken : Type 0
Taken = List Taking × List Heard

takings_push : (set : List Entry) (heard : List Heard) (from : List ℕ) (xs : List (ℕ × Datagram)) (d : ℕ × Datagram)
    → takings set heard from (xs ++ d ∷ [])
    ≡ ((takings set heard from xs).0 ++ (takings set (takings set heard from xs).1 from (d ∷ [])).0, (takings set (takings set heard from xs).1 from (d ∷ [])).1)
takings_push set heard from [] d = refl
takings_push set heard from (x ∷ xs) d =
    let one = taken set heard from x.1.octets in
    ap (λ (t : Taken). (record { number = x.0; result = one.0 } ∷ t.0, t.1)) (takings_push set one.1 from xs d)

-- of a datagram its octets alone count
one_taken : (set : List Entry) (heard : List Heard) (from : List ℕ) (number : ℕ) (d : Datagram) (octets : List ℕ) → octets ≡ d.octets
    → takings set heard from ((number, record { octets = octets; unsealed = None }) ∷ []) ≡ takings set heard from ((number, d) ∷ [])
one_taken set heard from number d octets is =
    ap (λ (o : List ℕ). let one = taken set heard from o in (record { number = number; result = one.0 } ∷ [], one.1)) is

abbrev TakenAs : State → code.Distributor → Taken → Type 0
TakenAs s c t = MirrorsTakings c t.0 × MirrorsDistributor c (record s { heard = t.1 })

pub takes_next : (s : State) (from : List ℕ) (xs : List (ℕ × Datagram)) (number : ℕ) (d : Datagram) (octets : List ℕ) (c : code.Distributor) → octets ≡ d.octets
    → TakesNext (record s { heard = (takings s.set s.heard from xs).1 }) (takings s.set s.heard from xs).0 from number octets c → TakesMore s [] from (xs ++ (number, d) ∷ []) c
takes_next s from xs number d octets c is h =
    let old : Taken = takings s.set s.heard from xs in
    let alone : Taken = takings s.set old.1 from ((number, record { octets = octets; unsealed = None }) ∷ []) in
    let here : TakenAs s c (old.0 ++ alone.0, alone.1) = (h.taken, h.mirrors) in
    let same : TakenAs s c (old.0 ++ (takings s.set old.1 from ((number, d) ∷ [])).0, (takings s.set old.1 from ((number, d) ∷ [])).1) =
    subst (λ (t : Taken). TakenAs s c (old.0 ++ t.0, t.1)) (one_taken s.set old.1 from number d octets is) here in
    let all : TakenAs s c (takings s.set s.heard from (xs ++ (number, d) ∷ [])) = subst (TakenAs s c) (sym (takings_push s.set s.heard from xs (number, d))) same in
    record { taken = all.0; mirrors = all.1 }

numbered_push : (datagrams : List Datagram) (numbers : List ℕ) (i number : ℕ) (d : Datagram) → slice_get numbers i ≡ Some number → datagram_at datagrams number ≡ Some d
    → numbered datagrams (take (i + 1) numbers) ≡ numbered datagrams (take i numbers) ++ (number, d) ∷ []
numbered_push datagrams numbers i number d at there =
    let pick : ℕ → Option (ℕ × Datagram) = λ n. option_map (λ d. (n, d)) (datagram_at datagrams n) in
    let one : filter_map pick (number ∷ []) ≡ (number, d) ∷ [] = rw there refl in
    ap (filter_map pick) (take_push numbers i number at) ∙ filter_map-append pick (take i numbers) (number ∷ []) ∙ ap (λ (xs : List (ℕ × Datagram)). filter_map pick (take i numbers) ++ xs) one

-- the first i of the numbers are taken
pub record TakenSoFar (before : code.Distributor) (datagrams : List code_datagram.Datagram) (from numbers : List ℕ) (i : ℕ) (now : code.Distributor) : Type 0 where
  pub each : (s : State) → MirrorsDistributor before s → MirrorEach MirrorsDatagram datagrams s.datagrams → AreThere s numbers → TakesMore s [] from (numbered s.datagrams (take i numbers)) now

pub takes_begin : (before now : code.Distributor) (datagrams : List code_datagram.Datagram) (from numbers : List ℕ)
    → ((s : State) → MirrorsDistributor before s → MirrorsDistributor now s) → MirrorsTakings now []
    → TakenSoFar before datagrams from numbers 0 now
takes_begin before now datagrams from numbers stays none = record { each = λ s mirrors all there. record { taken = none; mirrors = stays s mirrors } }

-- a datagram of the list, in the code and in the definition
pub record NumberAt (datagrams : List code_datagram.Datagram) (s : State) (number : ℕ) (g : code_datagram.Datagram) : Type 0 where
  pub datagram : Datagram
  pub there : datagram_at s.datagrams number ≡ Some datagram
  pub mirrors : MirrorsDatagram g datagram

pub number_within : (datagrams : List code_datagram.Datagram) (s : State) (numbers : List ℕ) (i number : ℕ)
    → MirrorEach MirrorsDatagram datagrams s.datagrams → AreThere s numbers → slice_get numbers i ≡ Some number
    → (0 < number) × (number - 1 < length datagrams)
number_within datagrams s numbers i number all there at =
    let d = datagram_there s.datagrams number (all_true_at (λ n. is_some (datagram_at s.datagrams n)) numbers i number there at) in
    (d.above, omega (arith, slice_get_within s.datagrams (number - 1) d.datagram d.at, all.count))

pub number_at : (datagrams : List code_datagram.Datagram) (s : State) (numbers : List ℕ) (i number : ℕ) (g : code_datagram.Datagram)
    → MirrorEach MirrorsDatagram datagrams s.datagrams → AreThere s numbers → slice_get numbers i ≡ Some number
    → g ≡ get_or datagrams (number - 1) g → NumberAt datagrams s number g
number_at datagrams s numbers i number g all there at is =
    let d = datagram_there s.datagrams number (all_true_at (λ n. is_some (datagram_at s.datagrams n)) numbers i number there at) in
    let within = (number_within datagrams s numbers i number all there at).1 in
    let here : slice_get datagrams (number - 1) ≡ Some g = slice_get_read datagrams (length datagrams) (number - 1) g refl within is in
    record { datagram = d.datagram; there = d.there; mirrors = all.each (number - 1) g d.datagram here d.at }

pub takes_step : (before mid now : code.Distributor) (datagrams : List code_datagram.Datagram) (from numbers : List ℕ) (i number : ℕ) (g : code_datagram.Datagram) (octets : List ℕ)
    → TakenSoFar before datagrams from numbers i mid
    → slice_get numbers i ≡ Some number → g ≡ get_or datagrams (number - 1) g → octets ≡ g.octets.items
    → ((s : State) (taken : List Taking) → MirrorsDistributor mid s → MirrorsTakings mid taken → TakesNext s taken from number octets now) → TakenSoFar before datagrams from numbers (i + 1) now
takes_step before mid now datagrams from numbers i number g octets so_far at is same takes = record {
  each = λ s mirrors all there.
      let old = so_far.each s mirrors all there in
      let list = numbered s.datagrams (take i numbers) in
      let n = number_at datagrams s numbers i number g all there at is in
      subst (λ (xs : List (ℕ × Datagram)). TakesMore s [] from xs now) (sym (numbered_push s.datagrams numbers i number n.datagram at n.there))
      (takes_next s from list number n.datagram octets now (same ∙ n.mirrors.octets) (takes (record s { heard = (takings s.set s.heard from list).1 }) (takings s.set s.heard from list).0 old.mirrors old.taken));
}

pub takes_all : (before now : code.Distributor) (datagrams : List code_datagram.Datagram) (from numbers : List ℕ) (i : ℕ) → TakenSoFar before datagrams from numbers i now → length numbers ≤ i
    → (s : State) → MirrorsDistributor before s → MirrorEach MirrorsDatagram datagrams s.datagrams → AreThere s numbers → TakesMore s [] from (numbered s.datagrams numbers) now
takes_all before now datagrams from numbers i so_far whole s mirrors all there =
    subst (λ (xs : List ℕ). TakesMore s [] from (numbered s.datagrams xs) now) (take_all i numbers whole) (so_far.each s mirrors all there)
