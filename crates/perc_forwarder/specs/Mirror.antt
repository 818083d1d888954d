-- How the distributor of the code stands for that of the definition, and what its calls do.
use Rattle.std.specs.Borrow.{Bor}
use Rattle.std.specs.Prelude.{◌≡◌, ℕ, ◌≤◌, ◌++◌, [], ◌∷◌, List, length, map, filter_map, Option, Some, None, Result, Ok, Err}
use Rattle.perc_distributor.specs.Forwarding.{Sealing, Sent, media_step}
use Rattle.perc_distributor.specs.Hearing.{Hears}
use Rattle.perc_distributor.specs.Inbound.{Packet}
use Rattle.perc_distributor.specs.Kept as sealing
use Rattle.perc_distributor.specs.Kept.{ArePlain, sent_of}
use Rattle.perc_distributor.specs.declared.fault.InboundFault.{InboundFault}
use Rattle.perc_forwarder.specs.declared.distributor.Distributor as code_distributor
use Rattle.perc_forwarder.specs.declared.distributor.Taking as code_taking
use Rattle.perc_ohb.specs.Rewriting.{Rewrite}
use Rattle.perc_run.specs.Forwarding.{Taking, packet_in, takings}
use Rattle.perc_run.specs.State.{Datagram, State}

pub record MirrorsDistributor (c : code_distributor.Distributor) (s : State) : Type 0 where
  pub set : c.set ≡ s.set
  pub heard : Hears c.inbound s.heard
  -- there is one worker
  pub number : c.worker.number ≡ 0
  pub of : c.worker.of ≡ 1
  pub sealing : sealing.StandsFor c.worker.kept s.sealing

-- what an extension of the code says: its profile, and its words
abbrev pub extension_told : ℕ × Bor (List ℕ) → ℕ × List ℕ
extension_told e = (e.0, e.1.now)

abbrev pub fault_in : Result Packet InboundFault → Option InboundFault
fault_in (Ok packet) = None
fault_in (Err f) = Some f

abbrev pub taking_in : Taking → code_taking.Taking
taking_in t = record { number = t.number; fault = fault_in t.result }

-- the takings of the list so far, and the packets that opened
pub record MirrorsTakings (c : code_distributor.Distributor) (taken : List Taking) : Type 0 where
  pub takings_are : c.takings.items ≡ map taking_in taken
  pub batch : ArePlain c.batch.items (filter_map packet_in taken)

-- the list so far is that of some takings, which are at most 32
pub record HasTakings (c : code_distributor.Distributor) : Type 0 where
  pub taken : List Taking
  pub mirrors : MirrorsTakings c taken
  pub few : length taken ≤ 32

-- the datagram of this number was taken behind those before
abbrev pub TakesOne : List Taking → ℕ → Result Packet InboundFault → code_distributor.Distributor → Type 0
TakesOne before number result c = MirrorsTakings c (before ++ record { number = number; result = result } ∷ [])

-- the datagrams of these numbers were taken behind those before
pub record TakesMore (s : State) (before : List Taking) (from : List ℕ) (list : List (ℕ × Datagram)) (c : code_distributor.Distributor) : Type 0 where
  pub taken : MirrorsTakings c (before ++ (takings s.set s.heard from list).0)
  pub mirrors : MirrorsDistributor c (record s { heard = (takings s.set s.heard from list).1 })

abbrev pub TakesNext : State → List Taking → List ℕ → ℕ → List ℕ → code_distributor.Distributor → Type 0
TakesNext s before from number octets c =
    TakesMore s before from ((number, record { octets = octets; unsealed = None }) ∷ []) c

-- what the one worker makes of what opened
abbrev pub step_of : State → List Taking → Rewrite → Option (List (List ℕ)) → List Sent × List Sealing
step_of s taken change only = media_step 0 1 s.set (filter_map packet_in taken) change only s.sealing

pub record SealsBatch (s : State) (taken : List Taking) (change : Rewrite) (only : Option (List (List ℕ))) (c : code_distributor.Distributor) : Type 0 where
  pub outputs : map sent_of c.outputs ≡ (step_of s taken change only).0
  pub takings_stay : MirrorsTakings c taken
  pub mirrors : MirrorsDistributor c (record s { sealing = (step_of s taken change only).1 })
