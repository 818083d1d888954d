-- What a report is worth: each accept line names one earlier send, as it was sent, at most once for each member; and each genuine
-- packet is accepted.
use Rattle.std.specs.Prelude.{◌≡◌, ◌≢◌, ℕ, ◌+◌, ◌<◌, ◌≤◌, true, not, ◌||◌, List, [], ◌∷◌, length, Option, Some, None, Ok, slice_get, take, Contains, IsTrue, is_some, AllPairs, filter_map}
use Rattle.std.specs.List.{flat_map}
use Rattle.perc_base.specs.Lines.{longest}
use Rattle.perc_window.specs.Replay.{freshness}
use Rattle.perc_window.specs.declared.window.Freshness.TheVariants.{Fresh}
use Rattle.perc_rtp.specs.Carried.{kind_of}
use Rattle.perc_rtp.specs.declared.carried.Carried.TheVariants.{Rtp}
use Rattle.perc_rtp.specs.Header.{IsPacket}
use Rattle.perc_rtp.specs.Media.{header_of}
use Rattle.perc_script_line.specs.Script.{Script, Options, Send, Deliver, script_of}
use Rattle.perc_report_line.specs.Report.{Report, Acceptance, Ekt, Joined, Left, Granted, Denied, Rekeyed, WireUp, WireMade, WireReseal, WireDown, Dropped, RefuseMedia, Accept, Rtcp, Refuse}
use Rattle.perc_outer.specs.Datagram.{Opened, Reached, original_header}
use Rattle.perc_ekt.specs.Field.{Extension, Field, Full, Short}
use Rattle.perc_contexts.specs.Receiving.{Context, context_of, is_full, is_live}
use Rattle.perc_receiver.specs.Table.{Row, Table, Wrap}
use Rattle.perc_receiver.specs.Receiver.{Accepted, Receiver, ideal, live_of, reach_of}
use Rattle.perc_receiver.specs.Foreign.{is_foreign}
use Rattle.perc_receiver.specs.Calls.{IsAlone, IsRow, IsTried, IsWrapFor, accepted_under}
use Rattle.perc_run.specs.State.{Datagram, Member, State, Turn, Goes, Refused, Halts, datagram_at, last_line, member_named, nobody}
use Rattle.perc_run.specs.Sending.{content_of}
use Rattle.perc_run.specs.Delivering.{Judge}
use Rattle.perc_run.specs.Turn.{turn}
use Rattle.perc_run.specs.Report.{Foreign, Run}

-- the lines of a script, each with what it reported
abbrev pub Turns : Type 0
Turns = List (Script × List Report)

-- Line k, counted from 0, said this and reported that.
abbrev pub TurnAt : Turns → ℕ → Script → List Report → Type 0
TurnAt turns k line lines = slice_get turns k ≡ Some (line, lines)

-- The accept line of line k names the send of an earlier line: that line is a send of the sender with this payload type, marker,
-- timestamp and payload, whatever else it has; it made the datagram that is named; and the octets of that begin with the RTP header
-- of all this under the sequence number that the accept line gives.
pub record NamesSend (turns : Turns) (k : ℕ) (a : Acceptance) : Type 0 where
  pub place : ℕ
  pub earlier : place < k
  pub options : Options
  pub octets : List ℕ
  pub made : TurnAt turns place (Send a.sender a.pt a.marker a.timestamp a.payload options) (WireUp a.sent a.sender octets ∷ [])
  pub ssrc : ℕ
  pub behind : List ℕ
  pub header : IsPacket (header_of (content_of a.pt a.marker a.timestamp a.payload options) a.seq ssrc) behind octets

-- An accept line stands alone behind a deliver line, whose datagram and name it repeats, and names a send.
pub record IsTrueAccept (turns : Turns) (k : ℕ) (said : Script) (told : List Report) (a : Acceptance) : Type 0 where
  pub deliver : said ≡ Deliver a.datagram a.name
  pub alone : told ≡ Accept a ∷ []
  pub sent : NamesSend turns k a

-- the acceptance of an accept line
abbrev pub accepted_in : Report → Option Acceptance
accepted_in (Ekt spi) = None
accepted_in (Joined name association) = None
accepted_in (Left name) = None
accepted_in (Granted name spi) = None
accepted_in (Denied name reason) = None
accepted_in (Rekeyed name spi epoch) = None
accepted_in (WireUp datagram name octets) = None
accepted_in (WireMade datagram octets) = None
accepted_in (WireReseal datagram name octets) = None
accepted_in (WireDown datagram name octets) = None
accepted_in (Dropped datagram name reason) = None
accepted_in (RefuseMedia datagram reason) = None
accepted_in (Accept a) = Some a
accepted_in (Rtcp datagram name octets) = None
accepted_in (Refuse datagram name reason) = None

-- the accept lines, in order
abbrev pub acceptances : Turns → List Acceptance
acceptances turns = filter_map accepted_in (flat_map (λ (t : Script × List Report). t.1) turns)

-- They are of different members, or of different sends.
abbrev pub AreApart : Acceptance → Acceptance → Type 0
AreApart a b = a.name ≡ b.name → a.sent ≡ b.sent → ⊥

-- the state that a line leaves
abbrev pub state_of : State → Turn → State
state_of s (Goes lines next) = next
state_of s (Refused reason) = s
state_of s (Halts name) = s

-- the state after these lines
abbrev pub state_after : Judge → State → Turns → State
state_after judge s [] = s
state_after judge s (t ∷ turns) = state_after judge (state_of s (turn judge s t.0)) turns

-- ---- genuine packets

-- The line delivers RTP: this datagram, by its number, to this member of the name, who is present.
pub record DeliversRtp (s : State) (number : ℕ) (name : List ℕ) (m : Member) (d : Datagram) : Type 0 where
  pub member : member_named name s ≡ Some m
  pub datagram : datagram_at s.datagrams number ≡ Some d
  pub kind : kind_of d.octets ≡ Rtp

-- It arrives fresh: nothing refuses it hop by hop, and so it isn't of the member's own stream.
abbrev pub ArrivesFresh : Receiver → List ℕ → Opened → Type 0
ArrivesFresh r octets o = reach_of r octets ≡ Reached o

-- It was changed in payload type, sequence number and marker alone: its header with the originals put back, and its inner octets,
-- are those of a row.
pub record IsChangedInThree (table : Table) (o : Opened) (row : Row) : Type 0 where
  pub sent : Contains table.rows row
  pub header : original_header o ≡ row.header
  pub inner : o.inner ≡ row.inner

-- It is inside the window: the row's index is fresh in its context.
abbrev pub IsInsideWindow : Receiver → Row → Type 0
IsInsideWindow r row = freshness (accepted_under r.contexts row) row.index ≡ Fresh

-- A full field carries the row's key: it is a wrap of the table, of the row's SPI, SSRC and key and the ROC of its index; its SPI is
-- live; and the context is held, or there is room for it.
pub record CarriesKey (table : Table) (r : Receiver) (row : Row) (cipher : List ℕ) (spi : ℕ) : Type 0 where
  pub wrap : Wrap
  pub there : Contains table.wraps wrap
  pub octets : wrap.octets ≡ cipher
  pub spi_is : wrap.spi ≡ spi
  pub of_row : IsWrapFor row wrap
  pub live : IsTrue (is_live (live_of r.secrets) spi)
  pub room : IsTrue (is_some (context_of r.contexts row.spi row.ssrc row.key) || not (is_full r.contexts row.spi row.ssrc))

-- Its key is known: its field carries it; or else its context is among the newest of its sender, and the row's index is the nearest
-- there.
abbrev pub IsKeyKnown : Table → Receiver → Row → Field → Type 0
IsKeyKnown table r row Short = (c : Context) × IsTried r row c
IsKeyKnown table r row (Extension octets kind) = (c : Context) × IsTried r row c
IsKeyKnown table r row (Full cipher spi epoch) = CarriesKey table r row cipher spi

-- A datagram is genuine for a member: it is all of this.
pub record IsGenuine (s : State) (m : Member) (octets : List ℕ) (o : Opened) (row : Row) : Type 0 where
  pub arrives : ArrivesFresh m.endpoint.receiving octets o
  pub changed : IsChangedInThree s.table o row
  pub inside : IsInsideWindow m.endpoint.receiving row
  pub known : IsKeyKnown s.table m.endpoint.receiving row o.field

-- what an accept line tells of a row
abbrev pub told_of : ℕ → List ℕ → Row → Acceptance
told_of number name row = record {
  datagram = number;
  name = name;
  sender = row.sender;
  sent = row.datagram;
  pt = row.header.pt;
  seq = row.header.seq;
  marker = row.header.marker;
  timestamp = row.header.timestamp;
  payload = row.payload;
}

-- The one line tells of this row: it is that of the first fresh try that is a row, by which the table has the packet accepted.
pub record TellsRow (s : State) (number : ℕ) (m : Member) (octets : List ℕ) (lines : List Report) (row : Row) : Type 0 where
  pub sent : Contains s.table.rows row
  pub accepted : Accepted
  pub answer : (ideal s.table m.endpoint.receiving octets).0 ≡ Ok accepted
  pub is_row : IsRow row accepted
  pub line : lines ≡ Accept (told_of number m.name row) ∷ []

-- One accept line tells of a row; of this one, wherever no other has its header and inner octets.
pub record IsAcceptedAs (s : State) (number : ℕ) (m : Member) (octets : List ℕ) (lines : List Report) (row : Row) : Type 0 where
  pub told : Row
  pub tells : TellsRow s number m octets lines told
  pub alone : IsAlone s.table row → told ≡ row

-- What the line delivers is accepted where it is genuine.
abbrev pub AcceptsGenuine : State → ℕ → List ℕ → List Report → Type 0
AcceptsGenuine s number name lines =
    (m : Member) (d : Datagram) (o : Opened) (row : Row) → DeliversRtp s number name m d → IsGenuine s m d.octets o row
    → IsAcceptedAs s number m d.octets lines row

pub record Headline (judge : Judge) (turns : Turns) : Type 0 where
  -- each accept line names one earlier send, as it was sent
  pub as_sent : (k : ℕ) (line : Script) (lines : List Report) (a : Acceptance) → TurnAt turns k line lines → Contains lines (Accept a)
      → IsTrueAccept turns k line lines a
  -- no two accept lines have the same name and the same send
  pub once : AllPairs AreApart (acceptances turns)
  -- each genuine packet is accepted, in the state that the lines before left
  pub genuine : (k number : ℕ) (name : List ℕ) (lines : List Report) → TurnAt turns k (Deliver number name) lines
      → AcceptsGenuine (state_after judge nobody (take k turns)) number name lines
  -- each line does what it does in the state that the lines before it left
  pub in_turn : (k : ℕ) (line : Script) (lines : List Report) → TurnAt turns k line lines
      → turn judge (state_after judge nobody (take k turns)) line ≡ Goes lines (state_after judge nobody (take (k + 1) turns))

-- Each turn is that of the line in its place, and says what the line says.
abbrev pub AreOfLines : List (List ℕ) → Turns → Type 0
AreOfLines lines turns =
    (k : ℕ) (said : Script) (told : List Report) → TurnAt turns k said told
    → (line : List ℕ) × (slice_get lines k ≡ Some line) × (script_of line ≡ Some said)

-- ---- where a run ends

-- The line delivers to the member of this name what is foreign there.
pub record DeliversForeign (s : State) (line : Script) (name : List ℕ) : Type 0 where
  pub number : ℕ
  pub said : line ≡ Deliver number name
  pub member : Member
  pub datagram : Datagram
  pub delivers : DeliversRtp s number name member datagram
  pub foreign : is_foreign s.table member.endpoint.receiving datagram.octets ≡ true

-- Line k, counted from 0, says this; it isn't too long, nor the one that none may pass.
pub record IsLineAt (lines : List (List ℕ)) (k : ℕ) (line : Script) : Type 0 where
  pub octets : List ℕ
  pub there : slice_get lines k ≡ Some octets
  pub said : script_of octets ≡ Some line
  pub short : length octets ≤ longest
  pub room : k + 1 ≢ last_line

-- The run ended with this number at a line that delivers something foreign: the one behind those that were done.
pub record IsForeignEnd (lines : List (List ℕ)) (done number : ℕ) (name : List ℕ) (s : State) : Type 0 where
  pub number_is : number ≡ done + 1
  pub line : Script
  pub at : IsLineAt lines done line
  pub delivers : DeliversForeign s line name

-- A run ends as foreign exactly at the first line that delivers something foreign.
pub record EndsAtForeign (judge : Judge) (lines : List (List ℕ)) (run : Run) : Type 0 where
  -- none of the lines that were done does so
  pub first : (k : ℕ) (line : Script) (told : List Report) (name : List ℕ) → TurnAt run.turns k line told
      → DeliversForeign (state_after judge nobody (take k run.turns)) line name → ⊥
  -- where the next line does so, the run ends as foreign, with that line's number and name;
  pub there : (line : Script) (name : List ℕ) → IsLineAt lines (length run.turns) line
      → DeliversForeign (state_after judge nobody run.turns) line name → run.end ≡ Foreign (length run.turns + 1) name
  -- and nowhere else
  pub nowhere_else : (number : ℕ) (name : List ℕ) → run.end ≡ Foreign number name
      → IsForeignEnd lines (length run.turns) number name (state_after judge nobody run.turns)
