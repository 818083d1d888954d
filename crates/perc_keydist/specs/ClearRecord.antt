-- The records that stand in for those of a DTLS handshake (RFC 8870 section 5) and protect nothing. Their layout is this
-- product's own: the content type of DTLS (22 handshake, 21 alert), PERC in ASCII, and for a handshake its kind.
use Rattle.std.specs.Option.{option_map}
use Rattle.std.specs.Prelude.{◌≡◌, ℕ, ◌+◌, ◌*◌, ◌^◌, ◌<◌, Bool, ◌&&◌, ◌==◌, if◌then◌else◌, List, [], ◌∷◌, ◌++◌, length, take, drop, Option, Some, None}
use Rattle.std.specs.Str.{bytes_eq}
use Rattle.byteorder.specs.Endian.{big_bytes, big_number}
use Rattle.perc_base.specs.Profile.{profile_number, key_length}
use Rattle.perc_base.specs.declared.profile.Profile.{Profile}
use Rattle.perc_kdf.specs.Derivation.{KeyAndSalt}
use Rattle.perc_ekt.specs.declared.record.EktKeyRecord.{EktKeyRecord}
use Rattle.perc_ekt.specs.Record.{IsRecord, record_octets, record_of}
use Rattle.perc_tunnel.specs.Message.{IsHalf}

-- what a record says: that an endpoint wants to join with the double profile of this number (RFC 8723 section 10.1), its outer
-- keys and the conference's EKT key, a new EKT key, or that the endpoint leaves
pub data Record : Type 0 where
  Hello : (profile : ℕ) → Record
  Welcome : (client server : KeyAndSalt) → (granted : EktKeyRecord) → Record
  Renew : (granted : EktKeyRecord) → Record
  Leave : Record

-- the octets in front of a handshake record of a kind
abbrev pub handshake : ℕ → List ℕ
handshake kind = 0x16 ∷ 0x50 ∷ 0x45 ∷ 0x52 ∷ 0x43 ∷ kind ∷ []

abbrev pub alert : List ℕ
alert = 0x15 ∷ 0x50 ∷ 0x45 ∷ 0x52 ∷ 0x43 ∷ []

-- a key and its salt
abbrev pub half_octets : KeyAndSalt → List ℕ
half_octets half = half.key ++ half.salt

-- the octets of a record in a conference of this profile
unfoldable pub spelling : Profile → Record → List ℕ
spelling profile (Hello number) = handshake 1 ++ big_bytes 2 number
spelling profile (Welcome client server granted) =
    (handshake 2 ++ big_bytes 2 (profile_number profile)) ++ ((half_octets client ++ half_octets server) ++ record_octets granted)
spelling profile (Renew granted) = handshake 3 ++ record_octets granted
spelling profile Leave = alert

-- what has a spelling: keys of the profile's length, and a right record with such a key
abbrev pub IsClear : Profile → Record → Type 0
IsClear profile (Hello number) = number < 2 ^ 16
IsClear profile (Welcome client server granted) =
    IsHalf profile client × IsHalf profile server × IsRecord granted × (granted.len ≡ key_length profile)
IsClear profile (Renew granted) = IsRecord granted × (granted.len ≡ key_length profile)
IsClear profile Leave = Unit {0}

-- a key of n octets and its salt of 12, at the front of the octets
abbrev pub half_at : ℕ → List ℕ → KeyAndSalt
half_at n octets = record { key = take n octets; salt = take 12 (drop n octets) }

-- whether the octets are a handshake record of this kind
abbrev pub is_kind : ℕ → List ℕ → Bool
is_kind kind octets = bytes_eq (take 6 octets) (handshake kind)

-- what a welcome says, whatever its kind is: behind 8 octets, of which the last two are the profile's number, the client's
-- half, the server's, and the EKT key's record
abbrev pub welcome_in : ℕ → ℕ → List ℕ → Option Record
welcome_in n number octets =
    if length octets == 3 * n + 53 && big_number 2 (drop 6 octets) == number
    then option_map (Welcome (half_at n (drop 8 octets)) (half_at n (drop (n + 20) octets))) (record_of n (drop (2 * n + 32) octets))
    else None

abbrev pub renewal_in : ℕ → List ℕ → Option Record
renewal_in n octets = if length octets == n + 27 then option_map Renew (record_of n (drop 6 octets)) else None

abbrev pub hello_in : List ℕ → Option Record
hello_in octets = if length octets == 8 then Some (Hello (big_number 2 (drop 6 octets))) else None

-- the record that octets are in a conference of this profile, where they are one
unfoldable pub record_in : Profile → List ℕ → Option Record
record_in profile octets =
    if bytes_eq octets alert then Some Leave
    else if is_kind 1 octets then hello_in octets
    else if is_kind 2 octets then welcome_in (key_length profile) (profile_number profile) octets
    else if is_kind 3 octets then renewal_in (key_length profile) octets
    else None
