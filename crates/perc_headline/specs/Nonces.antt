-- What is sealed while a script runs, by its members and by the distributor: under which masters, and with which IVs (RFC 7714 section
-- 8.1, RFC 8723 section 5).
use Rattle.std.specs.Prelude.{◌≡◌, ℕ, ◌+◌, List, [], ◌∷◌, ◌++◌, filter, filter_map, Option, Result, Ok, Err}
use Rattle.std.specs.Option.{option_map, option_map_or}
use Rattle.perc_gcm.specs.Gcm.{sealed_text}
use Rattle.perc_kdf.specs.Derivation.{session_keys}
use Rattle.perc_kdf.specs.declared.Kind.{Kind}
use Rattle.perc_kdf.specs.declared.Kind.TheVariants.{Srtp, Srtcp}
use Rattle.perc_ohb.specs.Rewriting.{Rewrite}
use Rattle.perc_rtp.specs.Media.{Content}
use Rattle.perc_srtp.specs.Sealed.{iv, rtcp_iv, rtcp_ssrc}
use Rattle.perc_keyset.specs.declared.Entry.{Entry}
use Rattle.perc_outgoing.specs.History.{HopByHop, Seal, inner_seal, outer_seal, rtcp_seal}
use Rattle.perc_distributor.specs.Inbound.{Control, Media, Packet, in_set}
use Rattle.perc_distributor.specs.Forwarding.{Dropped, Sealed, Sealing, Sent, media_index, recipients, sealing_of, sent_control, sent_each, sent_to, with_sealing}
use Rattle.perc_distributor.specs.declared.fault.ForwardFault.{ForwardFault}
use Rattle.perc_script_line.specs.Script.{Changes, Script, Nothing, Conference, Ekt, Join, Leave, Grant, Rekey, Send, Rtcp, Inject, Alter, Graft, Reseal, Forward, Deliver}
use Rattle.perc_run.specs.State.{Member, State, member_named}
use Rattle.perc_run.specs.Forwarding.{associations_of, numbered, packet_in, rewrite_by, takings}
use Rattle.perc_run.specs.Sending.{sent_by}
use Rattle.perc_run.specs.Control.{control_by}
use Rattle.perc_run.specs.Delivering.{Judge}
use Rattle.perc_run.specs.Turn.{turn}
use Rattle.perc_headline.specs.Headline.{Turns, state_of}

-- ---- a packet for an entry

abbrev pub iv_of : Kind → List ℕ → ℕ → ℕ → List ℕ
iv_of Srtp salt ssrc index = iv salt ssrc index
iv_of Srtcp salt ssrc index = rtcp_iv salt ssrc index

-- A seal hop by hop, under the entry's server pair.
abbrev pub hop_seal : Entry → Kind → ℕ → ℕ → Seal
hop_seal e kind ssrc index = record {
  layer = HopByHop;
  master = e.server;
  kind = kind;
  iv_is = iv_of kind (session_keys e.server kind).salt ssrc index;
}

-- a media packet, at the index of its place
abbrev pub media_seals : Entry → ℕ → Result ℕ ForwardFault → List Seal
media_seals e ssrc (Err f) = []
media_seals e ssrc (Ok index) = hop_seal e Srtp ssrc index ∷ []

-- a control packet, by what is sent of it: at the index of the next
abbrev pub control_seals : Sealing → Entry → List ℕ → Sent → List Seal
control_seals s e octets (Sealed place to sealed) = hop_seal e Srtcp (rtcp_ssrc octets) s.rtcp ∷ []
control_seals s e octets (Dropped place to f) = []

abbrev pub seals_to : Sealing → Entry → ℕ → Rewrite → Packet → List Seal
seals_to s e place change (Media from h inner block field) = media_seals e h.ssrc (media_index s.streams h inner block field change)
seals_to s e place change (Control from octets) = control_seals s e octets (sent_control s e place octets).0

-- ---- a batch

-- a packet for each of these entries in turn
abbrev pub seals_each : List Entry → ℕ → Rewrite → Packet → List Sealing → List Seal
seals_each [] place change packet sealing = []
seals_each (e ∷ entries) place change packet sealing =
    let s = sealing_of sealing e.serial in
    seals_to s e place change packet ++ seals_each entries place change packet (with_sealing (sent_to s e place change packet).1 sealing)

-- the packets of a batch in turn
abbrev pub seals_from : ℕ → ℕ → List Entry → ℕ → List Packet → Rewrite → Option (List (List ℕ)) → List Sealing → List Seal
seals_from number of set place [] change only sealing = []
seals_from number of set place (packet ∷ batch) change only sealing =
    let to = recipients number of set only packet in
    seals_each to place change packet sealing
    ++ seals_from number of set (place + 1) batch change only (sent_each to place change packet sealing).1

-- what a step of a worker seals
unfoldable pub step_seals : ℕ → ℕ → List Entry → List Packet → Rewrite → Option (List (List ℕ)) → List Sealing → List Seal
step_seals number of set [] change only sealing = []
step_seals number of set (packet ∷ batch) change only sealing =
    seals_from number of set 0 (packet ∷ batch) change only (filter (λ x. in_set set x.serial) sealing)

-- ---- a line

-- A member seals a packet end to end, and then hop by hop.
abbrev pub sent_seals : Member → List Seal
sent_seals m = inner_seal m.endpoint.sending ∷ outer_seal m.endpoint.sending ∷ []

-- A member's control packet is sealed once, hop by hop.
abbrev pub control_sent : List ℕ → Member → List Seal
control_sent plain m = rtcp_seal m.endpoint.sending plain ∷ []

-- The distributor seals what it opened.
abbrev pub forward_seals : State → List ℕ → Changes → Option (List (List ℕ)) → Member → List Seal
forward_seals s numbers words to m =
    step_seals 0 1 s.set (filter_map packet_in (takings s.set s.heard m.association (numbered s.datagrams numbers)).0) (rewrite_by words)
    (option_map (associations_of s) to) s.sealing

-- What a line seals that is done. A reseal counts for nothing: it is an act of a distributor that keeps to no index.
abbrev pub line_seals : State → Script → List Seal
line_seals s Nothing = []
line_seals s (Conference profile) = []
line_seals s (Ekt key salt) = []
line_seals s (Join name ssrc seq client server key) = []
line_seals s (Leave name) = []
line_seals s (Grant name spi key) = []
line_seals s (Rekey name key) = []
line_seals s (Send name pt marker timestamp payload options) = option_map_or sent_seals (member_named name s) []
line_seals s (Rtcp name octets) = option_map_or (control_sent octets) (member_named name s) []
line_seals s (Inject octets) = []
line_seals s (Alter datagram offset octets) = []
line_seals s (Graft first front second back) = []
line_seals s (Reseal datagram name roc changes) = []
line_seals s (Forward name datagrams changes recipients) =
    option_map_or (forward_seals s datagrams changes recipients) (member_named name s) []
line_seals s (Deliver datagram name) = []

-- what lines seal from a state on, in turn
abbrev pub run_seals : Judge → State → Turns → List Seal
run_seals judge s [] = []
run_seals judge s (t ∷ turns) = line_seals s t.0 ++ run_seals judge (state_of s (turn judge s t.0)) turns

-- ---- what a seal stands for

-- The octets hold a text that was sealed so: under the session key of the master and the kind, with the IV.
pub record IsSealedWith (u : Seal) (octets : List ℕ) : Type 0 where
  pub front : List ℕ
  pub additional : List ℕ
  pub text : List ℕ
  pub behind : List ℕ
  pub is : octets ≡ front ++ sealed_text (session_keys u.master u.kind).key u.iv_is additional text ++ behind

-- What was sealed outside holds what was sealed inside.
pub record IsSealedTwice (inner outer : Seal) (octets : List ℕ) : Type 0 where
  pub outside : IsSealedWith outer octets
  pub inside : IsSealedWith inner outside.text

-- What a member sends is sealed with both its seals.
abbrev pub IsSentSealed : Member → Content → Type 0
IsSentSealed m content = IsSealedTwice (inner_seal m.endpoint.sending) (outer_seal m.endpoint.sending) (sent_by m content).octets

-- What a member sends of a control packet is sealed with its seal.
abbrev pub IsControlSealed : Member → List ℕ → Type 0
IsControlSealed m plain = IsSealedWith (rtcp_seal m.endpoint.sending plain) (control_by m plain).octets

-- These are the seals of the outputs that aren't dropped, one after another.
abbrev pub AreSealedWith : List Sent → List Seal → Type 0
AreSealedWith [] [] = Unit {0}
AreSealedWith [] (u ∷ seals) = ⊥
AreSealedWith (Dropped place to f ∷ outputs) seals = AreSealedWith outputs seals
AreSealedWith (Sealed place to octets ∷ outputs) [] = ⊥
AreSealedWith (Sealed place to octets ∷ outputs) (u ∷ seals) = IsSealedWith u octets × AreSealedWith outputs seals
