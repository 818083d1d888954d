-- What the code looks up.
use Rattle.std.specs.Prelude.{◌≡◌, ℕ, ◌+◌, Bool, ◌&&◌, ◌||◌, ◌==◌, List, Some, None, Result, Ok, Err, slice_get}
use Rattle.std.specs.Str.{bytes_eq}
use Rattle.perc_conference_state.specs.declared.conference.Stop.TheVariants as stop
use Rattle.perc_conference_state.specs.declared.conference.Stop.{Stop}
use Rattle.perc_ekt.specs.declared.record.EktKeyRecord.{EktKeyRecord}
use Rattle.perc_kdf.specs.Derivation.{KeyAndSalt}
use Rattle.perc_kdf.specs.Order.{same_pair}
use Rattle.perc_member.specs.declared.member.Member as code_member
use Rattle.perc_receiver.specs.Table.{secret_in, secret_of}
use Rattle.perc_run.specs.State.{Datagram, Member, State, datagram_at, member_named}
use Rattle.perc_script_line.specs.declared.reason.Reason.TheVariants as reason

-- a member of the code has the name, and is present
abbrev pub is_here : List ℕ → code_member.Member → Bool
is_here name c = c.present && bytes_eq name c.name

-- it has the name or the SSRC
abbrev pub is_known_as : List ℕ → ℕ → code_member.Member → Bool
is_known_as name ssrc c = bytes_eq name c.name || (c.ssrc == ssrc)

-- it brought the pair
abbrev pub brought : KeyAndSalt → code_member.Member → Bool
brought pair c = same_pair c.client pair || same_pair c.server pair

-- the place of the member of this name that is present
abbrev pub IsPlaceOf : State → List ℕ → Result ℕ Stop → Type 0
IsPlaceOf s name (Ok place) = (m : Member) × (member_named name s ≡ Some m) × (slice_get s.members place ≡ Some m)
IsPlaceOf s name (Err e) = (member_named name s ≡ None) × (e ≡ stop.Refused reason.Name)

-- the place of the datagram of this number
abbrev pub IsDatagramPlace : State → ℕ → Result ℕ Stop → Type 0
IsDatagramPlace s number (Ok place) = (d : Datagram) × (datagram_at s.datagrams number ≡ Some d) × (number ≡ place + 1)
IsDatagramPlace s number (Err e) = (datagram_at s.datagrams number ≡ None) × (e ≡ stop.Refused reason.Datagram)

-- the record of this SPI
abbrev pub IsRecordOf : State → ℕ → Result EktKeyRecord Stop → Type 0
IsRecordOf s spi (Ok r) = secret_of s.secrets spi ≡ Some (secret_in r)
IsRecordOf s spi (Err e) = (secret_of s.secrets spi ≡ None) × (e ≡ stop.Refused reason.Name)
