-- The lines of a conference script: what they are, and how each is spelled.
use Rattle.std.specs.Prelude.{◌≡◌, ℕ, ◌+◌, ◌/◌, ◌%◌, ◌≤◌, Bool, true, ◌&&◌, ◌||◌, ◌==◌, nat_le, if◌then◌else◌, List, [], ◌∷◌, length, take, drop, codes, Option, Some, None, unwrap_or, slice_index, IfSome, OnSome, IsTrue}
use Rattle.std.specs.List.{list_all, join_with_byte}
use Rattle.std.specs.Option.{option_map}
use Rattle.std.specs.Str.{bytes_eq}
use Rattle.std.specs.Fmt.{decimal}
use Rattle.hex.specs.Hex.{encode_lower}
use Rattle.byteorder.specs.Endian.{big_number}
use Rattle.perc_base.specs.declared.profile.Profile.{Profile}
use Rattle.perc_base.specs.declared.profile.Profile.TheVariants.{Aes128, Aes256}
use Rattle.perc_base.specs.Profile.{key_length}
use Rattle.perc_rtp.specs.Carried.{longest_rtcp}
use Rattle.perc_rtp.specs.Media.{is_payload_type, longest_payload}
use Rattle.perc_word.specs.Word.{◌>>=◌, words_of, word_then, ends, option_then, option_words, only, Also, text_in, IsName, name_in, name_text, number_in, most_of_two, most_of_four, AreSomeOctets}
use Rattle.perc_word.specs.Word.{are_octets, octets_in, ssrc_in, ssrc_text, payload_in, payload_text, payload_type_in, marker_in, marker_text, list_text, AreItems, ssrcs_in, datagrams_in, names_in}
use Rattle.perc_script_line.specs.declared.verb.Verb.{Verb}
use Rattle.perc_script_line.specs.declared.verb.Verb.TheVariants as verb

-- ---- what lines say

-- what a send has besides its payload, each where it is given: CSRCs, a header extension (its profile's two octets,
-- followed by words of four), and how many octets of padding
pub record Options : Type 0 where
  pub csrcs : Option (List ℕ)
  pub extension : Option (List ℕ)
  pub pad : Option ℕ

-- what becomes of a header extension: it is dropped, or another takes its place
pub data Replaced : Type 0 where
  Dropped : Replaced
  By : (extension : List ℕ) → Replaced

-- what a distributor changes, each where it is given
pub record Changes : Type 0 where
  pub pt : Option ℕ
  pub shift : Option ℕ
  pub marker : Option Bool
  pub extension : Option Replaced

-- a line of a script, by what it says
pub data Script : Type 0 where
  -- it means nothing: it is empty, or a comment
  Nothing : Script
  -- `conference PROFILE`
  Conference : (profile : Profile) → Script
  -- `ekt KEY SALT`
  Ekt : (key salt : List ℕ) → Script
  -- `join NAME SSRC SEQ PAIR PAIR KEY`
  Join : (name : List ℕ) (ssrc seq : ℕ) (client server key : List ℕ) → Script
  -- `leave NAME`
  Leave : (name : List ℕ) → Script
  -- `grant NAME SPI KEY`
  Grant : (name : List ℕ) (spi : ℕ) (key : List ℕ) → Script
  -- `rekey NAME KEY`
  Rekey : (name key : List ℕ) → Script
  -- `send NAME PT M TS PAYLOAD`, and options
  Send : (name : List ℕ) (pt : ℕ) (marker : Bool) (timestamp : ℕ) (payload : List ℕ) (options : Options) → Script
  -- `rtcp NAME HEX`
  Rtcp : (name octets : List ℕ) → Script
  -- `inject HEX`
  Inject : (octets : List ℕ) → Script
  -- `alter DATAGRAM OFFSET HEX`
  Alter : (datagram offset : ℕ) (octets : List ℕ) → Script
  -- `graft DATAGRAM A DATAGRAM B`
  Graft : (first front second back : ℕ) → Script
  -- `reseal DATAGRAM NAME ROC`, and changes
  Reseal : (datagram : ℕ) (name : List ℕ) (roc : ℕ) (changes : Changes) → Script
  -- `forward NAME LIST`, and changes, and `to=NAMES`
  Forward : (name datagrams : List ℕ) (changes : Changes) (recipients : Option (List (List ℕ))) → Script
  -- `deliver DATAGRAM NAME`
  Deliver : (datagram : ℕ) (name : List ℕ) → Script

-- ---- lines that mean nothing

-- ASCII without control octets
abbrev pub is_printable : ℕ → Bool
is_printable c = nat_le 32 c && nat_le c 126

-- an empty line, or one that begins with `#` (35)
abbrev pub means_nothing : List ℕ → Bool
means_nothing [] = true
means_nothing (c ∷ cs) = (c == 35) && list_all is_printable cs

-- ---- words

abbrev pub verbs : List Verb
verbs =
    verb.Conference ∷ verb.Ekt ∷ verb.Join ∷ verb.Leave ∷ verb.Grant ∷ verb.Rekey ∷ verb.Send ∷ verb.Rtcp ∷ verb.Inject ∷ verb.Alter ∷ verb.Graft ∷ verb.Reseal ∷ verb.Forward ∷ verb.Deliver ∷ []

abbrev pub verb_text : Verb → List ℕ
verb_text verb.Conference = codes "conference"
verb_text verb.Ekt = codes "ekt"
verb_text verb.Join = codes "join"
verb_text verb.Leave = codes "leave"
verb_text verb.Grant = codes "grant"
verb_text verb.Rekey = codes "rekey"
verb_text verb.Send = codes "send"
verb_text verb.Rtcp = codes "rtcp"
verb_text verb.Inject = codes "inject"
verb_text verb.Alter = codes "alter"
verb_text verb.Graft = codes "graft"
verb_text verb.Reseal = codes "reseal"
verb_text verb.Forward = codes "forward"
verb_text verb.Deliver = codes "deliver"

unfoldable pub verb_in : List ℕ → Option Verb
verb_in word = text_in verb_text verbs word

abbrev pub profile_text : Profile → List ℕ
profile_text Aes128 = codes "0009"
profile_text Aes256 = codes "000a"

unfoldable pub profile_in : List ℕ → Option Profile
profile_in word = text_in profile_text (Aes128 ∷ Aes256 ∷ []) word

-- how many octets a salt has
abbrev pub salt_length : ℕ
salt_length = 12

-- a key of either profile
abbrev pub is_key : List ℕ → Bool
is_key octets = (length octets == key_length Aes128) || (length octets == key_length Aes256)

-- a key and its salt
abbrev pub is_pair : List ℕ → Bool
is_pair octets = (length octets == key_length Aes128 + salt_length) || (length octets == key_length Aes256 + salt_length)

abbrev pub is_salt : List ℕ → Bool
is_salt octets = length octets == salt_length

abbrev pub key_in : List ℕ → Option (List ℕ)
key_in word = only is_key octets_in word

abbrev pub pair_in : List ℕ → Option (List ℕ)
pair_in word = only is_pair octets_in word

abbrev pub salt_in : List ℕ → Option (List ℕ)
salt_in word = only is_salt octets_in word

-- an RTCP packet (RFC 3550 section 6.1): 8 to 1200 octets, version 2, a type of 192 to 223 (RFC 5761 section 4)
abbrev pub is_rtcp : List ℕ → Bool
is_rtcp octets = nat_le 8 (length octets) && nat_le (length octets) longest_rtcp && (slice_index octets 0 / 64 == 2) && nat_le 192 (slice_index octets 1) && nat_le (slice_index octets 1) 223

abbrev pub rtcp_octets_in : List ℕ → Option (List ℕ)
rtcp_octets_in word = only is_rtcp octets_in word

-- how many octets a datagram has at most
abbrev pub is_datagram : List ℕ → Bool
is_datagram octets = nat_le (length octets) 1500

abbrev pub datagram_in : List ℕ → Option (List ℕ)
datagram_in word = only is_datagram octets_in word

-- ---- options of a send

-- two octets of a profile, followed by at most 30 words of four octets
abbrev pub is_extension : List ℕ → Bool
is_extension octets = (length octets % 4 == 2) && nat_le (length octets) 122

-- the profile's number, and the words
abbrev pub extension_of : List ℕ → ℕ × List ℕ
extension_of octets = (big_number 2 (take 2 octets), drop 2 octets)

abbrev pub extension_in : List ℕ → Option (List ℕ)
extension_in word = only is_extension octets_in word

abbrev pub pad_in : List ℕ → Option ℕ
pad_in word = only (λ pad. nat_le 1 pad) (number_in 255) word

abbrev pub most_csrcs : ℕ
most_csrcs = 15

unfoldable pub options_next : List (List ℕ) → Option (Options × List (List ℕ))
options_next words = option_then (codes "csrc=") (ssrcs_in most_csrcs) (λ csrcs.
    option_then (codes "ext=") extension_in (λ extension.
    option_then (codes "pad=") pad_in (λ pad rest.
    Some (record { csrcs = csrcs; extension = extension; pad = pad }, rest)))) words

-- the words of options, in front of other words
abbrev pub options_words : Options → List (List ℕ) → List (List ℕ)
options_words o words = option_words (codes "csrc=") (list_text ssrc_text) o.csrcs (option_words (codes "ext=") encode_lower o.extension (option_words (codes "pad=") decimal o.pad words))

pub record AreOptions (o : Options) : Type 0 where
  pub csrcs : IfSome o.csrcs (AreItems most_csrcs (λ ssrc. ssrc ≤ most_of_four))
  pub extension : IfSome o.extension (Also AreSomeOctets is_extension)
  pub pad : IfSome o.pad (Also (λ pad. pad ≤ 255) (λ pad. nat_le 1 pad))

abbrev pub is_short : List ℕ → Options → Bool
is_short payload o = nat_le (length payload + unwrap_or o.pad 0) longest_payload

-- ---- changes

abbrev pub replaced_in : List ℕ → Option Replaced
replaced_in word = if bytes_eq word (codes "drop") then Some Dropped else option_map By (extension_in word)

abbrev pub replaced_text : Replaced → List ℕ
replaced_text Dropped = codes "drop"
replaced_text (By extension) = encode_lower extension

abbrev pub IsReplaced : Replaced → Type 0
IsReplaced Dropped = Unit {0}
IsReplaced (By extension) = Also AreSomeOctets is_extension extension

unfoldable pub changes_next : List (List ℕ) → Option (Changes × List (List ℕ))
changes_next words = option_then (codes "pt=") payload_type_in (λ pt.
    option_then (codes "shift=") (number_in most_of_two) (λ shift.
    option_then (codes "marker=") marker_in (λ marker.
    option_then (codes "ext=") replaced_in (λ extension rest.
    Some (record { pt = pt; shift = shift; marker = marker; extension = extension }, rest))))) words

abbrev pub changes_words : Changes → List (List ℕ) → List (List ℕ)
changes_words c words = option_words (codes "pt=") decimal c.pt (option_words (codes "shift=") decimal c.shift (option_words (codes "marker=") marker_text c.marker (option_words (codes "ext=") replaced_text c.extension words)))

pub record AreChanges (c : Changes) : Type 0 where
  pub pt : IfSome c.pt (Also (λ pt. pt ≤ 127) is_payload_type)
  pub shift : IfSome c.shift (λ shift. shift ≤ most_of_two)
  pub marker : OnSome c.marker (Unit {0})
  pub extension : IfSome c.extension IsReplaced

-- ---- forms

abbrev pub most_datagrams : ℕ
most_datagrams = 32

abbrev pub most_recipients : ℕ
most_recipients = 64

unfoldable pub conference_in : List (List ℕ) → Option Script
conference_in words = word_then profile_in (λ profile. ends (Conference profile)) words

unfoldable pub ekt_in : List (List ℕ) → Option Script
ekt_in words = word_then key_in (λ key. word_then salt_in (λ salt. ends (Ekt key salt))) words

unfoldable pub join_in : List (List ℕ) → Option Script
join_in words = word_then name_in (λ name.
    word_then ssrc_in (λ ssrc.
    word_then (number_in most_of_two) (λ seq.
    word_then pair_in (λ client.
    word_then pair_in (λ server.
    word_then key_in (λ key.
    ends (Join name ssrc seq client server key))))))) words

unfoldable pub leave_in : List (List ℕ) → Option Script
leave_in words = word_then name_in (λ name. ends (Leave name)) words

unfoldable pub grant_in : List (List ℕ) → Option Script
grant_in words = word_then name_in (λ name.
    word_then (number_in most_of_two) (λ spi.
    word_then key_in (λ key.
    ends (Grant name spi key)))) words

unfoldable pub rekey_in : List (List ℕ) → Option Script
rekey_in words = word_then name_in (λ name. word_then key_in (λ key. ends (Rekey name key))) words

-- a send with its options
abbrev pub sent : List ℕ → ℕ → Bool → ℕ → List ℕ → List (List ℕ) → Option Script
sent name pt marker timestamp payload words = do
  next ← options_next words
  if is_short payload next.0 then ends (Send name pt marker timestamp payload next.0) next.1 else None

unfoldable pub send_in : List (List ℕ) → Option Script
send_in words = word_then name_in (λ name.
    word_then payload_type_in (λ pt.
    word_then marker_in (λ marker.
    word_then (number_in most_of_four) (λ timestamp.
    word_then payload_in (λ payload.
    sent name pt marker timestamp payload))))) words

unfoldable pub rtcp_in : List (List ℕ) → Option Script
rtcp_in words = word_then name_in (λ name. word_then rtcp_octets_in (λ octets. ends (Rtcp name octets))) words

unfoldable pub inject_in : List (List ℕ) → Option Script
inject_in words = word_then datagram_in (λ octets. ends (Inject octets)) words

unfoldable pub alter_in : List (List ℕ) → Option Script
alter_in words = word_then (number_in most_of_four) (λ datagram.
    word_then (number_in most_of_four) (λ offset.
    word_then octets_in (λ octets.
    ends (Alter datagram offset octets)))) words

unfoldable pub graft_in : List (List ℕ) → Option Script
graft_in words = word_then (number_in most_of_four) (λ first.
    word_then (number_in most_of_four) (λ front.
    word_then (number_in most_of_four) (λ second.
    word_then (number_in most_of_four) (λ back.
    ends (Graft first front second back))))) words

unfoldable pub reseal_in : List (List ℕ) → Option Script
reseal_in words = word_then (number_in most_of_four) (λ datagram.
    word_then name_in (λ name.
    word_then (number_in most_of_four) (λ roc rest. do
      next ← changes_next rest
      ends (Reseal datagram name roc next.0) next.1))) words

unfoldable pub forward_in : List (List ℕ) → Option Script
forward_in words = word_then name_in (λ name.
    word_then (datagrams_in most_datagrams) (λ datagrams rest. do
      next ← changes_next rest
      option_then (codes "to=") (names_in most_recipients) (λ recipients. ends (Forward name datagrams next.0 recipients)) next.1)) words

unfoldable pub deliver_in : List (List ℕ) → Option Script
deliver_in words = word_then (number_in most_of_four) (λ datagram. word_then name_in (λ name. ends (Deliver datagram name))) words

-- what the words behind a verb say
abbrev pub said_by : Verb → List (List ℕ) → Option Script
said_by verb.Conference words = conference_in words
said_by verb.Ekt words = ekt_in words
said_by verb.Join words = join_in words
said_by verb.Leave words = leave_in words
said_by verb.Grant words = grant_in words
said_by verb.Rekey words = rekey_in words
said_by verb.Send words = send_in words
said_by verb.Rtcp words = rtcp_in words
said_by verb.Inject words = inject_in words
said_by verb.Alter words = alter_in words
said_by verb.Graft words = graft_in words
said_by verb.Reseal words = reseal_in words
said_by verb.Forward words = forward_in words
said_by verb.Deliver words = deliver_in words

-- what the line says, where it is one of these
unfoldable pub script_of : List ℕ → Option Script
script_of line = if means_nothing line then Some Nothing else word_then verb_in said_by (words_of line)

-- ---- spellings

-- the words of a line that means something
abbrev pub script_words : Script → List (List ℕ)
script_words Nothing = []
script_words (Conference profile) = codes "conference" ∷ profile_text profile ∷ []
script_words (Ekt key salt) = codes "ekt" ∷ encode_lower key ∷ encode_lower salt ∷ []
script_words (Join name ssrc seq client server key) = codes "join" ∷ name ∷ ssrc_text ssrc ∷ decimal seq ∷ encode_lower client ∷ encode_lower server ∷ encode_lower key ∷ []
script_words (Leave name) = codes "leave" ∷ name ∷ []
script_words (Grant name spi key) = codes "grant" ∷ name ∷ decimal spi ∷ encode_lower key ∷ []
script_words (Rekey name key) = codes "rekey" ∷ name ∷ encode_lower key ∷ []
script_words (Send name pt marker timestamp payload options) =
    codes "send" ∷ name ∷ decimal pt ∷ marker_text marker ∷ decimal timestamp ∷ payload_text payload ∷ options_words options []
script_words (Rtcp name octets) = codes "rtcp" ∷ name ∷ encode_lower octets ∷ []
script_words (Inject octets) = codes "inject" ∷ encode_lower octets ∷ []
script_words (Alter datagram offset octets) = codes "alter" ∷ decimal datagram ∷ decimal offset ∷ encode_lower octets ∷ []
script_words (Graft first front second back) = codes "graft" ∷ decimal first ∷ decimal front ∷ decimal second ∷ decimal back ∷ []
script_words (Reseal datagram name roc changes) = codes "reseal" ∷ decimal datagram ∷ name ∷ decimal roc ∷ changes_words changes []
script_words (Forward name datagrams changes recipients) =
    codes "forward" ∷ name ∷ list_text decimal datagrams ∷ changes_words changes (option_words (codes "to=") (list_text name_text) recipients [])
script_words (Deliver datagram name) = codes "deliver" ∷ decimal datagram ∷ name ∷ []

abbrev pub script_text : Script → List ℕ
script_text script = join_with_byte 32 (script_words script)

-- the bounds of the fields
abbrev pub IsScript : Script → Type 0
IsScript Nothing = Unit {0}
IsScript (Conference profile) = Unit {0}
IsScript (Ekt key salt) = Also AreSomeOctets is_key key × Also AreSomeOctets is_salt salt
IsScript (Join name ssrc seq client server key) =
    IsName name × (ssrc ≤ most_of_four) × (seq ≤ most_of_two) × Also AreSomeOctets is_pair client × Also AreSomeOctets is_pair server × Also AreSomeOctets is_key key
IsScript (Leave name) = IsName name
IsScript (Grant name spi key) = IsName name × (spi ≤ most_of_two) × Also AreSomeOctets is_key key
IsScript (Rekey name key) = IsName name × Also AreSomeOctets is_key key
IsScript (Send name pt marker timestamp payload options) =
    IsName name × Also (λ pt. pt ≤ 127) is_payload_type pt × (timestamp ≤ most_of_four) × IsTrue (are_octets payload) × AreOptions options × IsTrue (is_short payload options)
IsScript (Rtcp name octets) = IsName name × Also AreSomeOctets is_rtcp octets
IsScript (Inject octets) = Also AreSomeOctets is_datagram octets
IsScript (Alter datagram offset octets) = (datagram ≤ most_of_four) × (offset ≤ most_of_four) × AreSomeOctets octets
IsScript (Graft first front second back) = (first ≤ most_of_four) × (front ≤ most_of_four) × (second ≤ most_of_four) × (back ≤ most_of_four)
IsScript (Reseal datagram name roc changes) = (datagram ≤ most_of_four) × IsName name × (roc ≤ most_of_four) × AreChanges changes
IsScript (Forward name datagrams changes recipients) =
    IsName name × AreItems most_datagrams (λ datagram. datagram ≤ most_of_four) datagrams × AreChanges changes × IfSome recipients (AreItems most_recipients IsName)
IsScript (Deliver datagram name) = (datagram ≤ most_of_four) × IsName name

-- The octets spell the line: one spelling each, but for a line that means nothing.
abbrev pub Spells : List ℕ → Script → Type 0
Spells octets Nothing = IsTrue (means_nothing octets)
Spells octets (Conference profile) = octets ≡ script_text (Conference profile)
Spells octets (Ekt key salt) = octets ≡ script_text (Ekt key salt)
Spells octets (Join name ssrc seq client server key) = octets ≡ script_text (Join name ssrc seq client server key)
Spells octets (Leave name) = octets ≡ script_text (Leave name)
Spells octets (Grant name spi key) = octets ≡ script_text (Grant name spi key)
Spells octets (Rekey name key) = octets ≡ script_text (Rekey name key)
Spells octets (Send name pt marker timestamp payload options) = octets ≡ script_text (Send name pt marker timestamp payload options)
Spells octets (Rtcp name packet) = octets ≡ script_text (Rtcp name packet)
Spells octets (Inject datagram) = octets ≡ script_text (Inject datagram)
Spells octets (Alter datagram offset written) = octets ≡ script_text (Alter datagram offset written)
Spells octets (Graft first front second back) = octets ≡ script_text (Graft first front second back)
Spells octets (Reseal datagram name roc changes) = octets ≡ script_text (Reseal datagram name roc changes)
Spells octets (Forward name datagrams changes recipients) = octets ≡ script_text (Forward name datagrams changes recipients)
Spells octets (Deliver datagram name) = octets ≡ script_text (Deliver datagram name)

-- ---- lengths of keys

abbrev pub key_fits : Profile → List ℕ → Bool
key_fits profile key = length key == key_length profile

abbrev pub pair_fits : Profile → List ℕ → Bool
pair_fits profile pair = length pair == key_length profile + salt_length

-- whether each key of the line has the profile's length
abbrev pub fits : Profile → Script → Bool
fits profile Nothing = true
fits profile (Conference other) = true
fits profile (Ekt key salt) = key_fits profile key
fits profile (Join name ssrc seq client server key) = pair_fits profile client && pair_fits profile server && key_fits profile key
fits profile (Leave name) = true
fits profile (Grant name spi key) = key_fits profile key
fits profile (Rekey name key) = key_fits profile key
fits profile (Send name pt marker timestamp payload options) = true
fits profile (Rtcp name octets) = true
fits profile (Inject octets) = true
fits profile (Alter datagram offset octets) = true
fits profile (Graft first front second back) = true
fits profile (Reseal datagram name roc changes) = true
fits profile (Forward name datagrams changes recipients) = true
fits profile (Deliver datagram name) = true
