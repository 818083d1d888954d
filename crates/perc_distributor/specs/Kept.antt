-- What the code holds: opened packets, outputs, and what a worker keeps of serials.
use Rattle.std.specs.Prelude.{◌≡◌, ℕ, ◌-◌, ◌≤◌, Bool, true, false, ◌==◌, List, [], ◌∷◌, map, take, drop, find, Option, Some, None, IsOk}
use Rattle.std.specs.Option.{option_map_or}
use Rattle.perc_rtp.specs.Header.{Header}
use Rattle.perc_rtp.specs.Carried.{rtcp_head}
use Rattle.perc_ohb.specs.declared.block.Ohb.{Ohb}
use Rattle.perc_ekt.specs.Field.{Field, spelling}
use Rattle.perc_srtp.specs.Ends.{Stream}
use Rattle.perc_double.specs.Double.{IsOpened}
use Rattle.perc_outer.specs.Kept as outer
use Rattle.perc_distributor.specs.Inbound.{Packet, Media, Control}
use Rattle.perc_distributor.specs.Forwarding.{Sealing, Sent, Sealed, Dropped, most_octets, sealing_of}
use Rattle.perc_distributor.specs.declared.plain.Plain.{Plain}
use Rattle.perc_distributor.specs.declared.outputs.Output.{Output}
use Rattle.perc_distributor.specs.declared.outputs.Output.TheVariants as output

-- ---- opened packets

-- an opened media packet with its field behind it
pub record IsMedia (p : Plain) (from : List ℕ) (h : Header) (inner : List ℕ) (o : Ohb) (field : Field) : Type 0 where
  pub source : p.from ≡ from
  pub kind : p.rtcp ≡ false
  pub within : p.len ≤ most_octets
  pub field_within : p.field ≤ p.len
  pub packet : IsOpened h inner o (take (p.len - p.field) p.octets)
  pub field_octets : drop (p.len - p.field) (take p.len p.octets) ≡ spelling field

-- It is one.
pub record MediaOf (p : Plain) : Type 0 where
  pub from : List ℕ
  pub header : Header
  pub inner : List ℕ
  pub block : Ohb
  pub field : Field
  pub is : IsMedia p from header inner block field

-- an opened control packet, whose head reads
pub record IsControl (p : Plain) (from octets : List ℕ) : Type 0 where
  pub source : p.from ≡ from
  pub kind : p.rtcp ≡ true
  pub within : p.len ≤ most_octets
  pub no_field : p.field ≡ 0
  pub packet : take p.len p.octets ≡ octets
  pub head : IsOk (rtcp_head octets)

-- It is one.
pub record ControlOf (p : Plain) : Type 0 where
  pub from : List ℕ
  pub octets : List ℕ
  pub is : IsControl p from octets

abbrev pub IsPlain : Plain → Packet → Type 0
IsPlain p (Media from h inner o field) = IsMedia p from h inner o field
IsPlain p (Control from octets) = IsControl p from octets

-- Each is the packet in its place.
abbrev pub ArePlain : List Plain → List Packet → Type 0
ArePlain [] [] = Unit {0}
ArePlain [] (packet ∷ packets) = ⊥
ArePlain (p ∷ batch) [] = ⊥
ArePlain (p ∷ batch) (packet ∷ packets) = IsPlain p packet × ArePlain batch packets

-- ---- outputs

abbrev pub sent_of : Output → Sent
sent_of (output.Sealed place to octets len) = Sealed place to (take len octets)
sent_of (output.Dropped place to fault) = Dropped place to fault

-- an output's datagram has at most as many octets as it has room for
abbrev pub IsWhole : Output → Type 0
IsWhole (output.Sealed place to octets len) = len ≤ most_octets
IsWhole (output.Dropped place to fault) = Unit {0}

-- ---- what a worker keeps

-- what is kept of a serial: its streams, and something of its RTCP packets; or a place that is free
pub record Place (R : Type 0) : Type 0 where
  pub serial : Option ℕ
  pub streams : List Stream
  pub rtcp : R

-- what a worker keeps: the streams that it sealed, and the next RTCP index
abbrev pub Kept : Type 0
Kept = Place ℕ

-- a worker: its number, of how many, and what it keeps
pub record Working : Type 0 where
  pub number : ℕ
  pub of : ℕ
  pub kept : List Kept

abbrev pub holds : {R : Type 0} → ℕ → Place R → Bool
holds serial k = option_map_or (λ s. s == serial) k.serial false

abbrev pub kept_of : {R : Type 0} → List (Place R) → ℕ → Option (Place R)
kept_of kept serial = find (holds serial) kept

-- the same streams with windows that stand for the sealed indices, and the same RTCP index
pub record IsSealing (k : Kept) (s : Sealing) : Type 0 where
  pub streams : outer.StandsFor k.streams s.streams
  pub rtcp : k.rtcp ≡ s.rtcp

-- Where nothing is kept of a serial, nothing was sealed for it.
abbrev pub SameSealing : Option Kept → Sealing → Type 0
SameSealing None s = (s.streams ≡ []) × (s.rtcp ≡ 0)
SameSealing (Some k) s = IsSealing k s

-- What is kept stands for what was sealed, serial by serial.
pub record StandsFor (kept : List Kept) (sealing : List Sealing) : Type 0 where
  pub each : (serial : ℕ) → SameSealing (kept_of kept serial) (sealing_of sealing serial)

-- The outputs are those of a step of the worker, and what is kept then stands for what the step leaves.
pub record HasForwarded (step : List Sent × List Sealing) (out : List Output) (kept : List Kept) : Type 0 where
  pub outputs : map sent_of out ≡ step.0
  pub keeps : StandsFor kept step.1
