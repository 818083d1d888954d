-- The line `forward`: the distributor opens datagrams of a member one after another, and its worker sends those that open on to the
-- others as one batch (RFC 8723 section 5.2).
use Rattle.std.specs.Prelude.{ℕ, zero, suc, ◌+◌, ◌*◌, Bool, true, not, ◌&&◌, ◌==◌, nat_lt, if◌then◌else◌, List, [], ◌∷◌, ◌++◌, length, map, filter, filter_map, find, Option, Some, None, Result, Ok, Err}
use Rattle.std.specs.List.{list_all, list_any}
use Rattle.std.specs.Option.{option_map, option_map_or, unwrap_or, is_some}
use Rattle.std.specs.Str.{bytes_eq}
use Rattle.perc_ohb.specs.Rewriting.{Rewrite, block_after}
use Rattle.perc_ohb.specs.declared.block.OhbFault.{OhbFault}
use Rattle.perc_ohb.specs.declared.block.OhbFault.TheVariants as ohb
use Rattle.perc_rtp.specs.declared.head.RtpFault.{RtpFault}
use Rattle.perc_rtp.specs.declared.head.RtpFault.TheVariants as rtp
use Rattle.perc_srtp.specs.declared.rtcp.RtcpFault.{RtcpFault}
use Rattle.perc_srtp.specs.declared.rtcp.RtcpFault.TheVariants as rtcp
use Rattle.perc_double.specs.Double.{relayed}
use Rattle.perc_keyset.specs.declared.Entry.{Entry}
use Rattle.perc_outer.specs.declared.fault.OuterFault.{OuterFault}
use Rattle.perc_outer.specs.declared.fault.OuterFault.TheVariants as outer
use Rattle.perc_distributor.specs.Inbound.{Heard, Packet, Media, Control, taken}
use Rattle.perc_distributor.specs.Forwarding.{Sealing, Sent, Sealed, Dropped, media_step}
use Rattle.perc_distributor.specs.declared.fault.InboundFault.{InboundFault}
use Rattle.perc_distributor.specs.declared.fault.InboundFault.TheVariants as inbound
use Rattle.perc_distributor.specs.declared.fault.ForwardFault.{ForwardFault}
use Rattle.perc_distributor.specs.declared.fault.ForwardFault.TheVariants as fault
use Rattle.perc_script_line.specs.Script.{Changes, Replaced, Dropped as Taken, By, extension_of}
use Rattle.perc_script_line.specs.declared.reason.Reason.TheVariants as reason
use Rattle.perc_report_line.specs.declared.reasons.Refusal.{Refusal}
use Rattle.perc_report_line.specs.declared.reasons.Refusal.TheVariants as refusal
use Rattle.perc_report_line.specs.declared.reasons.Loss.{Loss}
use Rattle.perc_report_line.specs.declared.reasons.Loss.TheVariants as loss
use Rattle.perc_report_line.specs.Report.{Report, RefuseMedia, WireDown, Dropped as Lost}
use Rattle.perc_run.specs.State.{Datagram, State, Member, Turn, Goes, Refused, Unsealed, at_member, datagram_at, has_name, is_present, most_datagrams, present_members}

-- ---- words

abbrev pub extension_set : Replaced → Option (ℕ × List ℕ)
extension_set Taken = None
extension_set (By extension) = Some (extension_of extension)

-- the change that the words say
abbrev pub rewrite_by : Changes → Rewrite
rewrite_by c = record { pt = c.pt; shift = unwrap_or c.shift 0; marker = c.marker; extension = option_map extension_set c.extension }

abbrev pub block_refusal : OhbFault → Refusal
block_refusal ohb.Empty = refusal.OhbEmpty
block_refusal ohb.Reserved = refusal.OhbReserved
block_refusal ohb.Marker = refusal.OhbMarker
block_refusal ohb.Short = refusal.OhbShort
block_refusal ohb.Pt = refusal.OhbPt

abbrev pub header_refusal : RtpFault → Refusal
header_refusal rtp.Short = refusal.RtpShort
header_refusal rtp.Version = refusal.RtpVersion
header_refusal rtp.Extension = refusal.RtpExtension

abbrev pub outer_refusal : OuterFault → Refusal
outer_refusal outer.NoField = refusal.NoField
outer_refusal outer.EktType = refusal.EktType
outer_refusal outer.EktLength = refusal.EktLength
outer_refusal (outer.Rtp f) = header_refusal f
outer_refusal outer.OwnStream = refusal.OwnStream
outer_refusal outer.OuterShort = refusal.OuterShort
outer_refusal outer.OuterOld = refusal.OuterOld
outer_refusal outer.OuterRepeated = refusal.OuterRepeated
outer_refusal outer.StreamLimit = refusal.StreamLimit
outer_refusal outer.OuterTag = refusal.OuterTag
outer_refusal (outer.Ohb f) = block_refusal f

abbrev pub control_refusal : RtcpFault → Refusal
control_refusal rtcp.Short = refusal.RtcpShort
control_refusal rtcp.Version = refusal.RtcpVersion
control_refusal rtcp.Clear = refusal.RtcpClear
control_refusal rtcp.TooOld = refusal.RtcpOld
control_refusal rtcp.Repeated = refusal.RtcpRepeated
control_refusal rtcp.Tag = refusal.RtcpTag

-- The source is a member that is present, so an association without an entry isn't among what is refused.
abbrev pub inbound_refusal : InboundFault → Refusal
inbound_refusal inbound.NotMedia = refusal.NotMedia
inbound_refusal inbound.NoAssociation = refusal.NotMedia
inbound_refusal (inbound.Outer f) = outer_refusal f
inbound_refusal (inbound.Rtcp f) = control_refusal f

abbrev pub loss_of : ForwardFault → Loss
loss_of fault.StreamLimit = loss.StreamLimit
loss_of fault.Room = loss.Room
loss_of (fault.NoIndex seq) = loss.NoIndex seq
loss_of (fault.NonceUsed index) = loss.NonceUsed index
loss_of fault.RtcpSpent = loss.RtcpSpent

-- ---- what is opened

-- a datagram of the list by its number, and what the distributor opened of it
pub record Taking : Type 0 where
  pub number : ℕ
  pub result : Result Packet InboundFault

abbrev pub takings : List Entry → List Heard → List ℕ → List (ℕ × Datagram) → List Taking × List Heard
takings set heard from [] = ([], heard)
takings set heard from (d ∷ datagrams) =
    let one = taken set heard from d.1.octets in
    let more = takings set one.1 from datagrams in
    (record { number = d.0; result = one.0 } ∷ more.0, more.1)

abbrev pub packet_in : Taking → Option Packet
packet_in t = at t.result where
  at : Result Packet InboundFault → Option Packet
  at (Ok packet) = Some packet
  at (Err f) = None

-- ---- what is reported of it

-- what was sealed, of a media packet
abbrev pub unsealed_of : Rewrite → Packet → Option Unsealed
unsealed_of change (Media from h inner block field) =
    Some (record { header = relayed h change; inner = inner; block = block_after h block change; field = field })
unsealed_of change (Control from octets) = None

abbrev pub name_of : List Member → List ℕ → List ℕ
name_of members association = option_map_or (λ m. m.name) (find (λ m. bytes_eq association m.association) members) []

-- an output for a member: what is reported of it, and the datagrams behind it
abbrev pub reported_output : List Member → Rewrite → ℕ → Packet → List Datagram → Sent → Report × List Datagram
reported_output members change number packet datagrams (Sealed place to octets) =
    (WireDown (length datagrams + 1) (name_of members to) octets, datagrams ++ record { octets = octets; unsealed = unsealed_of change packet } ∷ [])
reported_output members change number packet datagrams (Dropped place to f) =
    (Lost number (name_of members to) (loss_of f), datagrams)

abbrev pub reported_outputs : List Member → Rewrite → ℕ → Packet → List Datagram → List Sent → List Report × List Datagram
reported_outputs members change number packet datagrams [] = ([], datagrams)
reported_outputs members change number packet datagrams (output ∷ outputs) =
    let one = reported_output members change number packet datagrams output in
    let more = reported_outputs members change number packet one.1 outputs in
    (one.0 ∷ more.0, more.1)

abbrev pub place_of : Sent → ℕ
place_of (Sealed place to octets) = place
place_of (Dropped place to f) = place

-- A datagram that doesn't open is refused; of one that does, the packet in this place of the batch, each output is told.
abbrev pub reported_taking : List Member → Rewrite → List Sent → ℕ → List Datagram → ℕ → Result Packet InboundFault → List Report × List Datagram
reported_taking members change outputs place datagrams number (Err f) = (RefuseMedia number (inbound_refusal f) ∷ [], datagrams)
reported_taking members change outputs place datagrams number (Ok packet) =
    reported_outputs members change number packet datagrams (filter (λ x. place_of x == place) outputs)

abbrev pub place_behind : ℕ → Result Packet InboundFault → ℕ
place_behind place (Err f) = place
place_behind place (Ok packet) = place + 1

-- the datagrams of the list in turn
abbrev pub reported_takings : List Member → Rewrite → List Sent → ℕ → List Datagram → List Taking → List Report × List Datagram
reported_takings members change outputs place datagrams [] = ([], datagrams)
reported_takings members change outputs place datagrams (t ∷ takings) =
    let one = reported_taking members change outputs place datagrams t.number t.result in
    let more = reported_takings members change outputs (place_behind place t.result) one.1 takings in
    (one.0 ++ more.0, more.1)

-- ---- the line

-- the present members of these names
abbrev pub associations_of : State → List (List ℕ) → List (List ℕ)
associations_of s names = map (λ m. m.association) (filter (λ m. list_any (λ name. has_name name m) names) (present_members s))

-- how many members a datagram goes to: the present ones but the sender, or those of them that are named
abbrev pub count_recipients : State → Member → Option (List (List ℕ)) → ℕ
count_recipients s m to =
    length (filter (λ x. not (has_name m.name x) && option_map_or (list_any (λ name. has_name name x)) to true) (present_members s))

abbrev pub are_present : State → List (List ℕ) → Bool
are_present s names = list_all (λ name. list_any (is_present name) s.members) names

-- The datagrams of a list of numbers, each with its number.
abbrev pub numbered : List Datagram → List ℕ → List (ℕ × Datagram)
numbered datagrams numbers = filter_map (λ n. option_map (λ d. (n, d)) (datagram_at datagrams n)) numbers

abbrev pub forwarded : State → Member → List ℕ → Rewrite → Option (List (List ℕ)) → Turn
forwarded s m numbers change to =
    let opened = takings s.set s.heard m.association (numbered s.datagrams numbers) in
    let step = media_step 0 1 s.set (filter_map packet_in opened.0) change (option_map (associations_of s) to) s.sealing in
    let told = reported_takings s.members change step.0 0 s.datagrams opened.0 in
    Goes told.0 (record s { heard = opened.1; sealing = step.1; datagrams = told.1 })

abbrev pub forward_by : State → Member → List ℕ → Rewrite → Option (List (List ℕ)) → Turn
forward_by s m numbers change to =
    if not (option_map_or (are_present s) to true) then Refused reason.Name
    else (if not (list_all (λ n. is_some (datagram_at s.datagrams n)) numbers) then Refused reason.Datagram
    else (if nat_lt most_datagrams (length s.datagrams + length numbers * count_recipients s m to) then Refused reason.Limit
    else forwarded s m numbers change to))

unfoldable pub forward_turn : State → List ℕ → List ℕ → Changes → Option (List (List ℕ)) → Turn
forward_turn s name numbers changes to = at_member s name (λ m. forward_by s m numbers (rewrite_by changes) to)
