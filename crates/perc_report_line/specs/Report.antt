-- The lines of a report: what they say, and how each is spelled.
use Rattle.std.specs.Prelude.{◌≡◌, ℕ, ◌≤◌, Bool, List, [], ◌∷◌, ◌++◌, length, codes, Option, Some, IsTrue, if◌then◌else◌}
use Rattle.std.specs.List.{flat_map, join_with_byte}
use Rattle.std.specs.Str.{bytes_eq}
use Rattle.std.specs.Fmt.{decimal}
use Rattle.hex.specs.Hex.{encode_lower}
use Rattle.uuid.specs.Text.{hyphenated_text, lower}
use Rattle.perc_rtp.specs.Media.{is_payload_type}
use Rattle.perc_word.specs.Word.{◌>>=◌, words_of, first_of, word_then, ends, text_in, Also, IsName, name_in, number_in, most_of_two, most_of_four}
use Rattle.perc_word.specs.Word.{AreSomeOctets, are_octets, octets_in, payload_in, payload_text, payload_type_in, marker_in, marker_text, uuid_in}
use Rattle.perc_report_line.specs.declared.reasons.Refusal.{Refusal}
use Rattle.perc_report_line.specs.declared.reasons.Denial.{Denial}
use Rattle.perc_report_line.specs.declared.reasons.Loss.{Loss}
use Rattle.perc_report_line.specs.Reasons.{refusal_in, refusal_words, IsRefusal, denial_in, denial_words, IsDenial, loss_in, loss_words, IsLoss}
use Rattle.perc_report_line.specs.declared.verb.Verb.{Verb}
use Rattle.perc_report_line.specs.declared.verb.Verb.TheVariants as verb
use Rattle.perc_report_line.specs.declared.verb.Way.{Way}
use Rattle.perc_report_line.specs.declared.verb.Way.TheVariants as way

-- ---- what lines say

-- what an accept line says: to whom which datagram was delivered, and what it was accepted as
pub record Acceptance : Type 0 where
  pub datagram : ℕ
  pub name : List ℕ
  pub sender : List ℕ
  -- the number of the sender's own datagram
  pub sent : ℕ
  pub pt : ℕ
  pub seq : ℕ
  pub marker : Bool
  pub timestamp : ℕ
  pub payload : List ℕ

-- a line of a report
pub data Report : Type 0 where
  -- `ekt SPI`
  Ekt : (spi : ℕ) → Report
  -- `joined NAME UUID`, for the 16 octets of an association
  Joined : (name association : List ℕ) → Report
  -- `left NAME`
  Left : (name : List ℕ) → Report
  -- `granted NAME SPI`
  Granted : (name : List ℕ) (spi : ℕ) → Report
  -- `denied NAME REASON`
  Denied : (name : List ℕ) (reason : Denial) → Report
  -- `rekeyed NAME SPI EPOCH`
  Rekeyed : (name : List ℕ) (spi epoch : ℕ) → Report
  -- `wire N up NAME HEX`
  WireUp : (datagram : ℕ) (name octets : List ℕ) → Report
  -- `wire N made HEX`
  WireMade : (datagram : ℕ) (octets : List ℕ) → Report
  -- `wire N reseal NAME HEX`
  WireReseal : (datagram : ℕ) (name octets : List ℕ) → Report
  -- `wire N down NAME HEX`
  WireDown : (datagram : ℕ) (name octets : List ℕ) → Report
  -- `drop N NAME REASON`
  Dropped : (datagram : ℕ) (name : List ℕ) (reason : Loss) → Report
  -- `refuse N media REASON`
  RefuseMedia : (datagram : ℕ) (reason : Refusal) → Report
  -- `accept N NAME SENDER S PT SEQ M TS PAYLOAD`
  Accept : Acceptance → Report
  -- `rtcp N NAME HEX`
  Rtcp : (datagram : ℕ) (name octets : List ℕ) → Report
  -- `refuse N NAME REASON`
  Refuse : (datagram : ℕ) (name : List ℕ) (reason : Refusal) → Report

-- ---- words

abbrev pub verbs : List Verb
verbs =
    verb.Ekt ∷ verb.Joined ∷ verb.Left ∷ verb.Granted ∷ verb.Denied ∷ verb.Rekeyed ∷ verb.Wire ∷ verb.Drop ∷ verb.Refuse ∷ verb.Accept ∷ verb.Rtcp ∷ []

abbrev pub verb_text : Verb → List ℕ
verb_text verb.Ekt = codes "ekt"
verb_text verb.Joined = codes "joined"
verb_text verb.Left = codes "left"
verb_text verb.Granted = codes "granted"
verb_text verb.Denied = codes "denied"
verb_text verb.Rekeyed = codes "rekeyed"
verb_text verb.Wire = codes "wire"
verb_text verb.Drop = codes "drop"
verb_text verb.Refuse = codes "refuse"
verb_text verb.Accept = codes "accept"
verb_text verb.Rtcp = codes "rtcp"

unfoldable pub verb_in : List ℕ → Option Verb
verb_in word = text_in verb_text verbs word

-- where a datagram on the wire comes from
abbrev pub ways : List Way
ways = way.Up ∷ way.Made ∷ way.Reseal ∷ way.Down ∷ []

abbrev pub way_text : Way → List ℕ
way_text way.Up = codes "up"
way_text way.Made = codes "made"
way_text way.Reseal = codes "reseal"
way_text way.Down = codes "down"

unfoldable pub way_in : List ℕ → Option Way
way_in word = text_in way_text ways word

-- ---- forms

unfoldable pub ekt_in : List (List ℕ) → Option Report
ekt_in words = word_then (number_in most_of_two) (λ spi. ends (Ekt spi)) words

unfoldable pub joined_in : List (List ℕ) → Option Report
joined_in words = word_then name_in (λ name. word_then uuid_in (λ association. ends (Joined name association))) words

unfoldable pub left_in : List (List ℕ) → Option Report
left_in words = word_then name_in (λ name. ends (Left name)) words

unfoldable pub granted_in : List (List ℕ) → Option Report
granted_in words = word_then name_in (λ name. word_then (number_in most_of_two) (λ spi. ends (Granted name spi))) words

unfoldable pub denied_in : List (List ℕ) → Option Report
denied_in words = word_then name_in (λ name rest. denial_in rest >>= λ reason. Some (Denied name reason)) words

unfoldable pub rekeyed_in : List (List ℕ) → Option Report
rekeyed_in words = word_then name_in (λ name. word_then (number_in most_of_two) (λ spi. word_then (number_in most_of_two) (λ epoch. ends (Rekeyed name spi epoch)))) words

-- a datagram on the wire, of or to somebody
abbrev pub named_wire : (List ℕ → List ℕ → Report) → List (List ℕ) → Option Report
named_wire wire words = word_then name_in (λ name. word_then octets_in (λ octets. ends (wire name octets))) words

abbrev pub wired : ℕ → Way → List (List ℕ) → Option Report
wired datagram way.Up words = named_wire (λ name octets. WireUp datagram name octets) words
wired datagram way.Made words = word_then octets_in (λ octets. ends (WireMade datagram octets)) words
wired datagram way.Reseal words = named_wire (λ name octets. WireReseal datagram name octets) words
wired datagram way.Down words = named_wire (λ name octets. WireDown datagram name octets) words

unfoldable pub wire_in : List (List ℕ) → Option Report
wire_in words = word_then (number_in most_of_four) (λ datagram. word_then way_in (λ way. wired datagram way)) words

unfoldable pub drop_in : List (List ℕ) → Option Report
drop_in words = word_then (number_in most_of_four) (λ datagram. word_then name_in (λ name rest. loss_in rest >>= λ reason. Some (Dropped datagram name reason))) words

-- a refusal of the distributor, or of somebody
abbrev pub refused : ℕ → List (List ℕ) → Option Report
refused datagram words = do
  first ← first_of words
  if bytes_eq first.0 (codes "media") then (refusal_in first.1 >>= λ reason. Some (RefuseMedia datagram reason)) else (name_in first.0 >>= λ name. refusal_in first.1 >>= λ reason. Some (Refuse datagram name reason))

unfoldable pub refuse_in : List (List ℕ) → Option Report
refuse_in words = word_then (number_in most_of_four) refused words

unfoldable pub accept_in : List (List ℕ) → Option Report
accept_in words = word_then (number_in most_of_four) (λ datagram.
    word_then name_in (λ name.
    word_then name_in (λ sender.
    word_then (number_in most_of_four) (λ sent.
    word_then payload_type_in (λ pt.
    word_then (number_in most_of_two) (λ seq.
    word_then marker_in (λ marker.
    word_then (number_in most_of_four) (λ timestamp.
    word_then payload_in (λ payload.
    ends (Accept (record {
      datagram = datagram;
      name = name;
      sender = sender;
      sent = sent;
      pt = pt;
      seq = seq;
      marker = marker;
      timestamp = timestamp;
      payload = payload;
    }))))))))))) words

unfoldable pub rtcp_in : List (List ℕ) → Option Report
rtcp_in words = word_then (number_in most_of_four) (λ datagram. word_then name_in (λ name. word_then octets_in (λ octets. ends (Rtcp datagram name octets)))) words

-- what the words behind a verb say
abbrev pub said_by : Verb → List (List ℕ) → Option Report
said_by verb.Ekt words = ekt_in words
said_by verb.Joined words = joined_in words
said_by verb.Left words = left_in words
said_by verb.Granted words = granted_in words
said_by verb.Denied words = denied_in words
said_by verb.Rekeyed words = rekeyed_in words
said_by verb.Wire words = wire_in words
said_by verb.Drop words = drop_in words
said_by verb.Refuse words = refuse_in words
said_by verb.Accept words = accept_in words
said_by verb.Rtcp words = rtcp_in words

-- what a line without its line feed says, where it is one of these
unfoldable pub report_of : List ℕ → Option Report
report_of line = word_then verb_in said_by (words_of line)

-- ---- spellings

abbrev pub report_words : Report → List (List ℕ)
report_words (Ekt spi) = codes "ekt" ∷ decimal spi ∷ []
report_words (Joined name association) = codes "joined" ∷ name ∷ hyphenated_text lower association ∷ []
report_words (Left name) = codes "left" ∷ name ∷ []
report_words (Granted name spi) = codes "granted" ∷ name ∷ decimal spi ∷ []
report_words (Denied name reason) = codes "denied" ∷ name ∷ denial_words reason
report_words (Rekeyed name spi epoch) = codes "rekeyed" ∷ name ∷ decimal spi ∷ decimal epoch ∷ []
report_words (WireUp datagram name octets) = codes "wire" ∷ decimal datagram ∷ codes "up" ∷ name ∷ encode_lower octets ∷ []
report_words (WireMade datagram octets) = codes "wire" ∷ decimal datagram ∷ codes "made" ∷ encode_lower octets ∷ []
report_words (WireReseal datagram name octets) = codes "wire" ∷ decimal datagram ∷ codes "reseal" ∷ name ∷ encode_lower octets ∷ []
report_words (WireDown datagram name octets) = codes "wire" ∷ decimal datagram ∷ codes "down" ∷ name ∷ encode_lower octets ∷ []
report_words (Dropped datagram name reason) = codes "drop" ∷ decimal datagram ∷ name ∷ loss_words reason
report_words (RefuseMedia datagram reason) = codes "refuse" ∷ decimal datagram ∷ codes "media" ∷ refusal_words reason
report_words (Accept a) =
    codes "accept" ∷ decimal a.datagram ∷ a.name ∷ a.sender ∷ decimal a.sent ∷ decimal a.pt ∷ decimal a.seq ∷ marker_text a.marker ∷ decimal a.timestamp ∷ payload_text a.payload ∷ []
report_words (Rtcp datagram name octets) = codes "rtcp" ∷ decimal datagram ∷ name ∷ encode_lower octets ∷ []
report_words (Refuse datagram name reason) = codes "refuse" ∷ decimal datagram ∷ name ∷ refusal_words reason

-- the one spelling of a line, without its line feed
abbrev pub report_line : Report → List ℕ
report_line report = join_with_byte 32 (report_words report)

-- the one spelling of a line, with its line feed
unfoldable pub report_text : Report → List ℕ
report_text report = report_line report ++ 10 ∷ []

-- lines, one after another
abbrev pub report_texts : List Report → List ℕ
report_texts reports = flat_map report_text reports

-- each field of what an accept line says has a spelling
pub record IsAcceptance (a : Acceptance) : Type 0 where
  pub datagram : a.datagram ≤ most_of_four
  pub name : IsName a.name
  pub sender : IsName a.sender
  pub sent : a.sent ≤ most_of_four
  pub pt : Also (λ pt. pt ≤ 127) is_payload_type a.pt
  pub seq : a.seq ≤ most_of_two
  pub timestamp : a.timestamp ≤ most_of_four
  pub payload : IsTrue (are_octets a.payload)

-- the 16 octets of a UUID
pub record AreUuid (xs : List ℕ) : Type 0 where
  pub count : length xs ≡ 16
  pub octets : IsTrue (are_octets xs)

-- Each field has a spelling.
abbrev pub IsReport : Report → Type 0
IsReport (Ekt spi) = spi ≤ most_of_two
IsReport (Joined name association) = IsName name × AreUuid association
IsReport (Left name) = IsName name
IsReport (Granted name spi) = IsName name × (spi ≤ most_of_two)
IsReport (Denied name reason) = IsName name × IsDenial reason
IsReport (Rekeyed name spi epoch) = IsName name × (spi ≤ most_of_two) × (epoch ≤ most_of_two)
IsReport (WireUp datagram name octets) = (datagram ≤ most_of_four) × IsName name × AreSomeOctets octets
IsReport (WireMade datagram octets) = (datagram ≤ most_of_four) × AreSomeOctets octets
IsReport (WireReseal datagram name octets) = (datagram ≤ most_of_four) × IsName name × AreSomeOctets octets
IsReport (WireDown datagram name octets) = (datagram ≤ most_of_four) × IsName name × AreSomeOctets octets
IsReport (Dropped datagram name reason) = (datagram ≤ most_of_four) × IsName name × IsLoss reason
IsReport (RefuseMedia datagram reason) = (datagram ≤ most_of_four) × IsRefusal reason
IsReport (Accept a) = IsAcceptance a
IsReport (Rtcp datagram name octets) = (datagram ≤ most_of_four) × IsName name × AreSomeOctets octets
IsReport (Refuse datagram name reason) = (datagram ≤ most_of_four) × IsName name × IsRefusal reason
