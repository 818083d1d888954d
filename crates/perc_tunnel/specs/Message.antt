-- The messages between a media distributor and a key distributor, after RFC 9185. Their layout is this product's own: a
-- type of one octet, the length of the body in two, and the body. Numbers are big-endian.
use Rattle.std.specs.Prelude.{◌≡◌, ℕ, ◌+◌, ◌*◌, ◌^◌, ◌<◌, ◌≤◌, List, [], ◌∷◌, ◌++◌, length}
use Rattle.std.specs.List.{flat_map, All}
use Rattle.byteorder.specs.Endian.{big_bytes}
use Rattle.perc_base.specs.Profile.{profile_number, key_length}
use Rattle.perc_base.specs.declared.profile.Profile.{Profile}
use Rattle.perc_kdf.specs.Derivation.{KeyAndSalt}
use Rattle.perc_octets.specs.Octets.{AreOctets}

-- a message; an association is named by 16 octets
pub data TunnelMessage : Type 0 where
  SupportedProfiles : (version : ℕ) → (profiles : List ℕ) → TunnelMessage
  UnsupportedVersion : (highest : ℕ) → TunnelMessage
  MediaKeys : (association : List ℕ) → (profile : Profile) → (client server : KeyAndSalt) → TunnelMessage
  TunneledDtls : (association octets : List ℕ) → TunnelMessage
  EndpointDisconnect : (association : List ℕ) → TunnelMessage

abbrev pub IsAssociation : List ℕ → Type 0
IsAssociation association = (length association ≡ 16) × AreOctets association

-- a key of the profile's length, and a salt of 12 octets
pub record IsHalf (profile : Profile) (half : KeyAndSalt) : Type 0 where
  pub key : length half.key ≡ key_length profile
  pub salt : length half.salt ≡ 12
  pub key_octets : AreOctets half.key
  pub salt_octets : AreOctets half.salt

-- what has a spelling: a list of 1 to 32766 profiles, keys of the profile's length, a record of 1 to 65517 octets
abbrev pub IsMessage : TunnelMessage → Type 0
IsMessage (SupportedProfiles version profiles) =
    (version < 256) × (1 ≤ length profiles) × (length profiles ≤ 32766) × All (λ p. p < 2 ^ 16) profiles
IsMessage (UnsupportedVersion highest) = highest < 256
IsMessage (MediaKeys association profile client server) =
    IsAssociation association × IsHalf profile client × IsHalf profile server
IsMessage (TunneledDtls association octets) =
    IsAssociation association × (1 ≤ length octets) × (length octets ≤ 65517) × AreOctets octets
IsMessage (EndpointDisconnect association) = IsAssociation association

-- What of this is a matter of lengths. The rest is what octets are, and numbers of one and of two octets.
abbrev pub HasLengths : TunnelMessage → Type 0
HasLengths (SupportedProfiles version profiles) = (1 ≤ length profiles) × (length profiles ≤ 32766)
HasLengths (UnsupportedVersion highest) = Unit {0}
HasLengths (MediaKeys association profile client server) =
    (length client.key ≡ key_length profile) × (length server.key ≡ key_length profile)
HasLengths (TunneledDtls association octets) = (1 ≤ length octets) × (length octets ≤ 65517)
HasLengths (EndpointDisconnect association) = Unit {0}

-- how many octets the body of a message has
abbrev pub body_length : TunnelMessage → ℕ
body_length (SupportedProfiles version profiles) = 3 + 2 * length profiles
body_length (UnsupportedVersion highest) = 1
body_length (MediaKeys association profile client server) = 47 + 2 * key_length profile
body_length (TunneledDtls association octets) = 18 + length octets
body_length (EndpointDisconnect association) = 16

-- how many octets a message has: its type, its length of two octets, and its body
abbrev pub message_length : TunnelMessage → ℕ
message_length m = 3 + body_length m

-- The message has a spelling by its lengths, and so much room holds it.
abbrev pub Fits : TunnelMessage → ℕ → Type 0
Fits m room = HasLengths m × (message_length m ≤ room)

-- octets behind their count, which is one octet
abbrev pub counted : List ℕ → List ℕ
counted octets = length octets ∷ octets

abbrev pub type_of : TunnelMessage → ℕ
type_of (SupportedProfiles version profiles) = 1
type_of (UnsupportedVersion highest) = 2
type_of (MediaKeys association profile client server) = 3
type_of (TunneledDtls association octets) = 4
type_of (EndpointDisconnect association) = 5

-- The count of a list of profiles is that of its octets, two for each. Keys have no MKI, which is spelled by a count of 0.
unfoldable pub body : TunnelMessage → List ℕ
body (SupportedProfiles version profiles) = version ∷ (big_bytes 2 (2 * length profiles) ++ flat_map (big_bytes 2) profiles)
body (UnsupportedVersion highest) = highest ∷ []
body (MediaKeys association profile client server) =
    association ++ big_bytes 2 (profile_number profile) ++ counted [] ++ counted client.key ++ counted server.key
    ++ counted client.salt ++ counted server.salt
body (TunneledDtls association octets) = association ++ big_bytes 2 (length octets) ++ octets
body (EndpointDisconnect association) = association

unfoldable pub spelling : TunnelMessage → List ℕ
spelling m = type_of m ∷ (big_bytes 2 (length (body m)) ++ body m)

-- The message has a spelling, which is as long as its lengths say.
abbrev pub IsSpelled : TunnelMessage → Type 0
IsSpelled m = IsMessage m × (length (spelling m) ≡ message_length m)
