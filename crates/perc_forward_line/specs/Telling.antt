-- What the parts of a forward do.
use Rattle.std.specs.Global.{Vec}
use Rattle.std.specs.List.{list_all, list_any}
use Rattle.std.specs.Option.{is_some, option_map, option_map_or}
use Rattle.std.specs.Prelude.{◌≡◌, ℕ, ◌+◌, ◌≤◌, ◌++◌, [], ◌∷◌, Bool, true, false, List, length, map, filter, filter_map, slice_get, ◌==◌, All, IfSome, Option, Some, Result, Ok, Err}
use Rattle.std.specs.Str.{bytes_eq}
use Rattle.perc_conference_state.specs.Mirror.{Mirrors, told_of}
use Rattle.perc_conference_state.specs.declared.conference.Conference as code
use Rattle.perc_conference_state.specs.declared.conference.Stop.TheVariants as stop
use Rattle.perc_conference_state.specs.declared.conference.Stop.{Stop}
use Rattle.perc_conference_state.specs.declared.conference.Told.{Told}
use Rattle.perc_distributor.specs.Forwarding.{Sent, Sealed, Dropped}
use Rattle.perc_distributor.specs.Inbound.{Packet, Media, Control}
use Rattle.perc_distributor.specs.Kept.{sent_of}
use Rattle.perc_distributor.specs.declared.fault.InboundFault.{InboundFault}
use Rattle.perc_double.specs.Double.{opened, relayed}
use Rattle.perc_ekt.specs.Field.{spelling}
use Rattle.perc_forward_line.specs.declared.outputs.Telling.{Telling}
use Rattle.perc_forwarder.specs.Mirror.{TakesMore, SealsBatch, step_of, MirrorsTakings}
use Rattle.perc_member.specs.Each.{MirrorsMember, MirrorEach, MirrorsDatagram}
use Rattle.perc_member.specs.declared.datagram.Datagram as code_datagram
use Rattle.perc_member.specs.declared.member.Member as code_member
use Rattle.perc_ohb.specs.Rewriting.{IsRewrite, Rewrite, block_after, rewrite_of}
use Rattle.perc_report_line.specs.Report.{Report, report_texts}
use Rattle.perc_rtp.specs.Header.{IsPacket}
use Rattle.perc_run.specs.Forwarding.{Taking, are_present, associations_of, numbered, packet_in, place_of, reported_takings, takings}
use Rattle.perc_run.specs.State as state
use Rattle.perc_run.specs.State.{Datagram, State, datagram_at, most_datagrams}
use Rattle.perc_script_line.specs.declared.reason.Reason.TheVariants as reason
use Rattle.perc_word.specs.declared.name.Name as word

-- A datagram at whose front the header stands that a packet gets by a change, with the packet's field at its end. What stands between is
-- as long as the packet's inner octets, its block and a tag.
abbrev pub IsSealedOf : Rewrite → Packet → List ℕ → Type 0
IsSealedOf change (Media from h inner o field) datagram =
    (mid : List ℕ) × (length mid ≡ length (opened inner (block_after h o change)) + 16) × IsPacket (relayed h change) (mid ++ spelling field) datagram
IsSealedOf change (Control from octets) datagram = Unit {0}

-- whom an output is for
abbrev pub to_of : Sent → List ℕ
to_of (Sealed place to octets) = to
to_of (Dropped place to f) = to

-- it is the association of a member
abbrev pub is_known : List state.Member → Sent → Bool
is_known members x = list_any (λ m. bytes_eq (to_of x) m.association) members

-- An output's datagram is one of its packet of the batch.
abbrev pub IsOutputOf : Rewrite → List Packet → Sent → Type 0
IsOutputOf change batch (Sealed place to octets) = IfSome (slice_get batch place) (λ packet. IsSealedOf change packet octets)
IsOutputOf change batch (Dropped place to f) = Unit {0}

-- The outputs are for members, and of what was taken; there are at most those of 32 packets for 256 members.
pub record AreOutputs (members : List state.Member) (taken : List Taking) (change : Rewrite) (sent : List Sent) : Type 0 where
  pub known : All (λ x. is_known members x ≡ true) sent
  pub of_batch : All (IsOutputOf change (filter_map packet_in taken)) sent
  pub few : length sent ≤ 8192
  pub few_taken : length taken ≤ 32

abbrev pub names_in : Option (Vec word.Name) → Option (List (List ℕ))
names_in to = option_map (λ names. names.items) to

abbrev pub is_named_in : Option (List (List ℕ)) → code_member.Member → Bool
is_named_in to m = option_map_or (list_any (λ name. bytes_eq name m.name)) to true

-- the names that are given, where each is present
abbrev pub AreRecipients : State → Option (List (List ℕ)) → Result (Option (Vec word.Name)) Stop → Type 0
AreRecipients s names (Ok to) = (names_in to ≡ names) × (option_map_or (are_present s) names true ≡ true)
AreRecipients s names (Err stop.Memory) = Unit {0}
AreRecipients s names (Err e) = (e ≡ stop.Refused reason.Name) × (option_map_or (are_present s) names true ≡ false)

-- Each of the numbers has a datagram.
abbrev pub are_there : State → List ℕ → Bool
are_there s numbers = list_all (λ n. is_some (datagram_at s.datagrams n)) numbers

abbrev pub AreThere : State → List ℕ → Type 0
AreThere s numbers = are_there s numbers ≡ true

-- the numbers that are given, where each has one
abbrev pub AreNumbers : State → List ℕ → Result (Vec ℕ) Stop → Type 0
AreNumbers s list (Ok numbers) = (numbers.items ≡ list) × AreThere s list
AreNumbers s list (Err stop.Memory) = Unit {0}
AreNumbers s list (Err e) = (e ≡ stop.Refused reason.Datagram) × (are_there s list ≡ false)

-- a list was taken; the rest of the conference is as it was
pub record TakesAll (s : State) (from : List ℕ) (numbers : List ℕ) (c : code.Conference) : Type 0 where
  pub taken : TakesMore s [] from (numbered s.datagrams numbers) c.distributor
  pub mirrors : Mirrors c (record s { heard = (takings s.set s.heard from (numbered s.datagrams numbers)).1 })

-- what opened was sealed for the members of these names; the rest is as it was
pub record SealsAll (s : State) (taken : List Taking) (change : Rewrite) (to : Option (List (List ℕ))) (c : code.Conference) : Type 0 where
  pub seals : SealsBatch s taken change (option_map (associations_of s) to) c.distributor
  pub mirrors : Mirrors c (record s { sealing = (step_of s taken change (option_map (associations_of s) to)).1 })

-- a forward that was done, over these members, takings and outputs
pub record IsTelling (t : Telling) (members : List state.Member) (taken : List Taking) (sent : List Sent) : Type 0 where
  pub members_are : MirrorEach MirrorsMember t.members.now members
  pub takings_are : MirrorsTakings t.distributor.now taken
  pub outputs : map sent_of t.distributor.now.outputs ≡ sent
  pub right : AreOutputs members taken (rewrite_of t.change.now) sent

-- There is a forward to tell, and the datagrams so far are some.
pub record CanTell (t : Telling) (had : List code_datagram.Datagram) : Type 0 where
  pub members : List state.Member
  pub taken : List Taking
  pub sent : List Sent
  pub is : IsTelling t members taken sent
  pub change : IsRewrite (rewrite_of t.change.now)
  pub made : List Datagram
  pub datagrams : MirrorEach MirrorsDatagram had made

-- these lines were appended, and these are the datagrams then
pub record IsReported (step : List Report × List Datagram) (told : Told) (before after : List ℕ) (has : List code_datagram.Datagram) : Type 0 where
  pub text : after ≡ before ++ report_texts step.0
  pub told_is : told ≡ told_of step.0
  pub datagrams : MirrorEach MirrorsDatagram has step.1

-- lines were reported and datagrams made, behind those before
abbrev pub Reports : List Report × List Datagram → List Datagram → List code_datagram.Datagram → Result Told Stop → (before after : List ℕ) → List code_datagram.Datagram → Type 0
Reports step made had (Err e) before after has = e ≡ stop.Memory
Reports step made had (Ok told) before after has = MirrorEach MirrorsDatagram had made → IsReported step told before after has

abbrev pub one_reported : Report × List Datagram → List Report × List Datagram
one_reported step = (step.0 ∷ [], step.1)

-- the outputs of a place of the batch
abbrev pub outputs_at : ℕ → List Sent → List Sent
outputs_at place sent = filter (λ x. place_of x == place) sent

-- The packet of a taking stands at this place of the batch.
abbrev pub IsAt : List Taking → ℕ → Result Packet InboundFault → Type 0
IsAt taken place (Err f) = Unit {0}
IsAt taken place (Ok packet) = slice_get (filter_map packet_in taken) place ≡ Some packet

-- what was taken and sealed in a conference, to be told
pub record IsSealed (s : State) (taken : List Taking) (change : Rewrite) (c : code.Conference) : Type 0 where
  pub mirrors : Mirrors c s
  pub takings_are : MirrorsTakings c.distributor taken
  pub right : AreOutputs s.members taken change (map sent_of c.distributor.outputs)
  pub few : length s.datagrams ≤ most_datagrams

-- the same in a conference
abbrev pub TellsAll : State → List Taking → Rewrite → code.Conference → Result Told Stop → (before after : List ℕ) → code.Conference → Type 0
TellsAll s taken change old (Err e) before after new = e ≡ stop.Memory
TellsAll s taken change old (Ok told) before after new =
    let step = reported_takings s.members change (map sent_of old.distributor.outputs) 0 s.datagrams taken in
    (after ≡ before ++ report_texts step.0) × (told ≡ told_of step.0) × Mirrors new (record s { datagrams = step.1 })
