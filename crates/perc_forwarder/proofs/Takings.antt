-- The list of datagrams that the distributor takes: one more behind those before, and how many packets opened.
use Rattle.std.proofs.Common.{◌≡◌, ℕ, ◌+◌, ◌≤◌, List, [], ◌∷◌, ◌++◌, length, map, Result, Ok, Err, refl, sym, ap, ◌∙◌, subst, arith}
use Rattle.std.specs.List.{filter_map}
use Rattle.std.specs.Prelude.{OnOk}
use Rattle.std.specs.declared.alloc.AllocError.{AllocError}
use Rattle.std.proofs.lemmas.List.{map-append, append-nil}
use Rattle.std.proofs.lemmas.List.Elements.{filter_map-append}
use Rattle.std.proofs.lemmas.Result.{on_ok_weaker}
use Rattle.perc_distributor.proofs.SendingOn.{plain_length}
use Rattle.perc_distributor.specs.Hearing.{HasTaken, Hears, IsAnswer, Origin}
use Rattle.perc_distributor.specs.Inbound.{Heard, Packet, taken}
use Rattle.perc_distributor.specs.Kept.{ArePlain, IsPlain}
use Rattle.perc_distributor.specs.declared.fault.InboundFault.{InboundFault}
use Rattle.perc_distributor.specs.declared.plain.Plain.{Plain}
use Rattle.perc_forwarder.specs.Mirror.{HasTakings, MirrorsDistributor, TakesNext, TakesOne, taking_in}
use Rattle.perc_forwarder.specs.declared.distributor.Distributor as code_distributor
use Rattle.perc_forwarder.specs.declared.distributor.Taking as code_taking
use Rattle.perc_run.specs.Forwarding.{Taking, packet_in}
use Rattle.perc_run.specs.State.{State}

-- ---- one more

pub plain_push : (batch : List Plain) (packets : List Packet) (p : Plain) (packet : Packet) → ArePlain batch packets → IsPlain p packet
    → ArePlain (batch ++ p ∷ []) (packets ++ packet ∷ [])
plain_push [] [] p packet are is = (is, tt)
plain_push [] (other ∷ packets) p packet are is = absurd are
plain_push (q ∷ batch) [] p packet are is = absurd are
plain_push (q ∷ batch) (other ∷ packets) p packet are is = (are.0, plain_push batch packets p packet are.1 is)

-- the packets that opened, with a taking more
packets_more : (taken : List Taking) (t : Taking) (packets : List Packet) → filter_map packet_in (t ∷ []) ≡ packets
    → filter_map packet_in (taken ++ t ∷ []) ≡ filter_map packet_in taken ++ packets
packets_more taken t packets one = filter_map-append packet_in taken (t ∷ []) ∙ ap (λ z. filter_map packet_in taken ++ z) one

pub takings_more : (items : List code_taking.Taking) (taken : List Taking) (t : Taking) → items ≡ map taking_in taken
    → items ++ taking_in t ∷ [] ≡ map taking_in (taken ++ t ∷ [])
takings_more items taken t is = ap (λ z. z ++ taking_in t ∷ []) is ∙ sym (map-append taking_in taken (t ∷ []))

pub batch_more : (batch : List Plain) (taken : List Taking) (number : ℕ) (p : Plain) (packet : Packet) → ArePlain batch (filter_map packet_in taken) → IsPlain p packet
    → ArePlain (batch ++ p ∷ []) (filter_map packet_in (taken ++ record { number = number; result = Ok packet } ∷ []))
batch_more batch taken number p packet are is =
    subst (ArePlain (batch ++ p ∷ [])) (sym (packets_more taken (record { number = number; result = Ok packet }) (packet ∷ []) refl))
    (plain_push batch (filter_map packet_in taken) p packet are is)

pub batch_same : (batch : List Plain) (taken : List Taking) (number : ℕ) (fault : InboundFault) → ArePlain batch (filter_map packet_in taken)
    → ArePlain batch (filter_map packet_in (taken ++ record { number = number; result = Err fault } ∷ []))
batch_same batch taken number fault are =
    subst (ArePlain batch) (sym (packets_more taken (record { number = number; result = Err fault }) [] refl ∙ append-nil (filter_map packet_in taken))) are

-- ---- what is answered

-- A packet stands where one was opened.
pub record IsOpenedAs (result : Result Packet InboundFault) (p : Plain) : Type 0 where
  pub packet : Packet
  pub result_is : result ≡ Ok packet
  pub plain : IsPlain p packet

pub opened_as : (result : Result Packet InboundFault) (answer : Result (Unit {0}) InboundFault) (p : Plain) → IsAnswer result answer p → answer ≡ Ok tt → IsOpenedAs result p
opened_as (Ok packet) answer p is ok = record { packet = packet; result_is = refl; plain = is.1 }
opened_as (Err fault) answer p is ok = absurd (cc)

pub refused_as : (result : Result Packet InboundFault) (answer : Result (Unit {0}) InboundFault) (p : Plain) (fault : InboundFault) → IsAnswer result answer p → answer ≡ Err fault
    → result ≡ Err fault
refused_as (Ok packet) answer p fault is err = absurd (cc)
refused_as (Err other) answer p fault is err = let same : other ≡ fault = cc in ap (λ (f : InboundFault). Err f) same

-- What is answered for a datagram, and where it leaves the distributor.
pub takes_next : (s : State) (before : List Taking) (from : List ℕ) (number : ℕ) (octets : List ℕ) (c : code_distributor.Distributor)
    → TakesOne before number (taken s.set s.heard from octets).0 c → MirrorsDistributor c (record s { heard = (taken s.set s.heard from octets).1 }) → TakesNext s before from number octets c
takes_next s before from number octets c more mirrors = record { taken = more; mirrors = mirrors }

-- the distributor, once a datagram was opened, or not
pub mirrors_heard : (c : code_distributor.Distributor) (s : State) (inbound : List Origin) (heard : List Heard) → MirrorsDistributor c s → Hears inbound heard
    → MirrorsDistributor (record c { inbound = inbound }) (record s { heard = heard })
mirrors_heard c s inbound heard mirrors is = record { set = mirrors.set; heard = is; number = mirrors.number; of = mirrors.of; sealing = mirrors.sealing }

-- It was opened.
pub next_opened : (s : State) (before : List Taking) (from : List ℕ) (number : ℕ) (octets : List ℕ) (p : Plain) (kept : List Origin) (result : Result (Unit {0}) AllocError)
    (answer : Result (Unit {0}) InboundFault) (c : code_distributor.Distributor) → HasTaken (taken s.set s.heard from octets) answer p kept → answer ≡ Ok tt
    → ((packet : Packet) → IsPlain p packet → OnOk result (TakesOne before number (Ok packet) c))
    → MirrorsDistributor c (record s { heard = (taken s.set s.heard from octets).1 }) → OnOk result (TakesNext s before from number octets c)
next_opened s before from number octets p kept result answer c has ok goes mirrors =
    let opened = opened_as (taken s.set s.heard from octets).0 answer p has.answer ok in
    on_ok_weaker result
    (λ more. takes_next s before from number octets c (subst (λ (r : Result Packet InboundFault). TakesOne before number r c) (sym opened.result_is) more) mirrors)
    (goes opened.packet opened.plain)

-- It wasn't.
pub next_refused : (s : State) (before : List Taking) (from : List ℕ) (number : ℕ) (octets : List ℕ) (p : Plain) (kept : List Origin) (result : Result (Unit {0}) AllocError)
    (answer : Result (Unit {0}) InboundFault) (fault : InboundFault) (c : code_distributor.Distributor) → HasTaken (taken s.set s.heard from octets) answer p kept → answer ≡ Err fault
    → OnOk result (TakesOne before number (Err fault) c)
    → MirrorsDistributor c (record s { heard = (taken s.set s.heard from octets).1 }) → OnOk result (TakesNext s before from number octets c)
next_refused s before from number octets p kept result answer fault c has err goes mirrors =
    let refused = refused_as (taken s.set s.heard from octets).0 answer p fault has.answer err in
    on_ok_weaker result
    (λ more. takes_next s before from number octets c (subst (λ (r : Result Packet InboundFault). TakesOne before number r c) (sym refused) more) mirrors) goes

-- ---- how many

few_by : (number : ℕ) (result : Result Packet InboundFault) (taken : List Taking) → length (filter_map packet_in taken) ≤ length taken
    → length (filter_map packet_in (record { number = number; result = result } ∷ taken)) ≤ length taken + 1
few_by number (Ok packet) taken few = omega arith
few_by number (Err fault) taken few = omega arith

packets_few : (taken : List Taking) → length (filter_map packet_in taken) ≤ length taken
packets_few [] = omega arith
packets_few (t ∷ taken) = let few = few_by t.number t.result taken (packets_few taken) in omega arith

-- No more packets opened than datagrams were taken.
pub batch_few : (c : code_distributor.Distributor) → HasTakings c → length c.batch.items ≤ 32
batch_few c has =
    let few = has.few in
    let opened = packets_few has.taken in
    let same = plain_length c.batch.items (filter_map packet_in has.taken) has.mirrors.batch in
    omega arith
