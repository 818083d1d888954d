-- Calls of a worker over the sets of one history, and what is sealed in them.
use Rattle.std.specs.Prelude.{◌≡◌, ℕ, ◌+◌, ◌<◌, List, [], ◌∷◌, ◌++◌, filter, All, Option, Some, None, Result, Ok, Err, slice_index}
use Rattle.std.specs.List.{slice_get}
use Rattle.perc_kdf.specs.Derivation.{KeyAndSalt, session_keys}
use Rattle.perc_kdf.specs.declared.Kind.{Kind}
use Rattle.perc_kdf.specs.declared.Kind.TheVariants.{Srtp, Srtcp}
use Rattle.perc_rtp.specs.Header.{IsHeader}
use Rattle.perc_ohb.specs.Rewriting.{block_after, Rewrite}
use Rattle.perc_srtp.specs.Sealed.{iv, rtcp_iv, rtcp_ssrc, sealed_rtcp}
use Rattle.perc_double.specs.Double.{relayed}
use Rattle.perc_keyset.specs.declared.Op.{Op}
use Rattle.perc_keyset.specs.declared.Entry.{Entry}
use Rattle.perc_keyset.specs.Set.{fold_ops}
use Rattle.perc_distributor.specs.declared.fault.ForwardFault.{ForwardFault}
use Rattle.perc_distributor.specs.Inbound.{Control, Media, Packet, in_set}
use Rattle.perc_distributor.specs.Forwarding.{Dropped, Sealed, Sealing, Sent, media_index, media_step, recipients, sealing_of, sent_each, sent_to, with_sealing}
use Rattle.perc_distributor.specs.Parts.{control_place}
use Rattle.perc_distributor.specs.Laws.{datagram_of}

-- a call of a worker: what was published since its call before, the batch, the change, and who alone is named
pub record Call : Type 0 where
  pub more : List Op
  pub batch : List Packet
  pub change : Rewrite
  pub only : Option (List (List ℕ))

-- what is published behind these calls
abbrev pub published : List Op → List Call → List Op
published ops [] = ops
published ops (c ∷ calls) = published (ops ++ c.more) calls

-- ---- what is sealed

-- a packet that is sealed for an entry: of which kind, of which SSRC, and at which index
pub record Seal : Type 0 where
  pub entry : Entry
  pub kind : Kind
  pub ssrc : ℕ
  pub index : ℕ

abbrev pub seal_of : Entry → Kind → ℕ → Result ℕ ForwardFault → List Seal
seal_of e kind ssrc (Err f) = []
seal_of e kind ssrc (Ok index) = record { entry = e; kind = kind; ssrc = ssrc; index = index } ∷ []

-- one packet for one entry
abbrev pub seals_to : Sealing → Entry → Rewrite → Packet → List Seal
seals_to s e change (Media from h inner block field) = seal_of e Srtp h.ssrc (media_index s.streams h inner block field change)
seals_to s e change (Control from octets) = seal_of e Srtcp (rtcp_ssrc octets) (control_place s.rtcp octets)

-- a packet for each of these entries in turn
abbrev pub seals_each : List Entry → ℕ → Rewrite → Packet → List Sealing → List Seal
seals_each [] place change packet sealing = []
seals_each (e ∷ entries) place change packet sealing =
    seals_to (sealing_of sealing e.serial) e change packet
    ++ seals_each entries place change packet (with_sealing (sent_to (sealing_of sealing e.serial) e place change packet).1 sealing)

-- the packets of a batch in turn
abbrev pub seals_from : ℕ → ℕ → List Entry → ℕ → List Packet → Rewrite → Option (List (List ℕ)) → List Sealing → List Seal
seals_from number of set place [] change only sealing = []
seals_from number of set place (packet ∷ batch) change only sealing =
    seals_each (recipients number of set only packet) place change packet sealing
    ++ seals_from number of set (place + 1) batch change only (sent_each (recipients number of set only packet) place change packet sealing).1

-- what a step seals
unfoldable pub step_seals : ℕ → ℕ → List Entry → List Packet → Rewrite → Option (List (List ℕ)) → List Sealing → List Seal
step_seals number of set [] change only sealing = []
step_seals number of set (packet ∷ batch) change only sealing =
    seals_from number of set 0 (packet ∷ batch) change only (filter (λ x. in_set set x.serial) sealing)

-- A datagram for an association is a packet of the batch that was sealed so: media with the change in it, and its field behind it.
abbrev pub IsSealedWith : Rewrite → List ℕ → List ℕ → Option Packet → Seal → Type 0
IsSealedWith change to octets None u = ⊥
IsSealedWith change to octets (Some (Media from h inner block field)) u =
    (u.entry.association ≡ to) × (u.kind ≡ Srtp) × (u.ssrc ≡ h.ssrc)
    × (octets ≡ datagram_of (session_keys u.entry.server Srtp) u.index (relayed h change) inner (block_after h block change) field)
IsSealedWith change to octets (Some (Control from plain)) u =
    (u.entry.association ≡ to) × (u.kind ≡ Srtcp) × (u.ssrc ≡ rtcp_ssrc plain) × (octets ≡ sealed_rtcp (session_keys u.entry.server Srtcp) u.index plain)

-- These are the seals of the outputs that aren't dropped, one after another.
abbrev pub AreSealedWith : List Packet → Rewrite → List Sent → List Seal → Type 0
AreSealedWith batch change [] [] = Unit {0}
AreSealedWith batch change [] (u ∷ seals) = ⊥
AreSealedWith batch change (Dropped place to fault ∷ outputs) seals = AreSealedWith batch change outputs seals
AreSealedWith batch change (Sealed place to octets ∷ outputs) [] = ⊥
AreSealedWith batch change (Sealed place to octets ∷ outputs) (u ∷ seals) =
    IsSealedWith change to octets (slice_get batch place) u × AreSealedWith batch change outputs seals

-- What a worker seals in calls, each with the set of what is published then.
abbrev pub call_seals : ℕ → ℕ → List Op → List Sealing → Call → List Seal
call_seals number of ops sealing c = step_seals number of (fold_ops (ops ++ c.more)) c.batch c.change c.only sealing

abbrev pub call_sealing : ℕ → ℕ → List Op → List Sealing → Call → List Sealing
call_sealing number of ops sealing c = (media_step number of (fold_ops (ops ++ c.more)) c.batch c.change c.only sealing).1

abbrev pub run_seals : ℕ → ℕ → List Op → List Sealing → List Call → List Seal
run_seals number of ops sealing [] = []
run_seals number of ops sealing (c ∷ calls) =
    call_seals number of ops sealing c ++ run_seals number of (ops ++ c.more) (call_sealing number of ops sealing c) calls

-- ---- nonces

-- under which master a packet was sealed, of which kind, and with which IV
pub record Nonce : Type 0 where
  pub master : KeyAndSalt
  pub kind : Kind
  pub iv : List ℕ

abbrev pub iv_of : Kind → List ℕ → ℕ → ℕ → List ℕ
iv_of Srtp salt ssrc index = iv salt ssrc index
iv_of Srtcp salt ssrc index = rtcp_iv salt ssrc index

abbrev pub nonce_of : Seal → Nonce
nonce_of s = record { master = s.entry.server; kind = s.kind; iv = iv_of s.kind (session_keys s.entry.server s.kind).salt s.ssrc s.index }

-- what new workers from this number on, of so many, seal, each over its calls
abbrev pub all_seals : ℕ → ℕ → List (List Call) → List Seal
all_seals number of [] = []
all_seals number of (calls ∷ runs) = run_seals number of [] [] calls ++ all_seals (number + 1) of runs

-- ---- what calls are of

-- a packet as it is opened: its header is one, and a control packet is of octets
abbrev pub IsSound : Packet → Type 0
IsSound (Media from h inner block field) = IsHeader h
IsSound (Control from octets) = (k : ℕ) → slice_index octets k < 256

abbrev pub AreSound : List Call → Type 0
AreSound calls = All (λ c. All IsSound c.batch) calls

-- The calls are over the sets of beginnings of a history.
pub record AreOver (history : List Op) (calls : List Call) : Type 0 where
  pub rest : List Op
  pub is : history ≡ published [] calls ++ rest
  pub sound : AreSound calls
