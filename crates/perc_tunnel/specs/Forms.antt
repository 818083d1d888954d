-- The forms of messages: which octets of a message are the same in each message of its form and length.
use Rattle.std.specs.Prelude.{◌≡◌, ℕ, ◌+◌, ◌-◌, ◌*◌, ◌/◌, ◌%◌, ◌^◌, ◌<◌, ◌≤◌, ◌⊎◌, Bool, ◌&&◌, ◌==◌, nat_le, List, [], ◌∷◌, length, take, drop, Option, slice_index}
use Rattle.std.specs.List.{find}
use Rattle.perc_base.specs.Profile.{profile_number, key_length}
use Rattle.perc_base.specs.declared.profile.Profile.TheVariants.{Aes128, Aes256}
use Rattle.perc_tunnel.specs.declared.forms.Form.{Form}
use Rattle.perc_tunnel.specs.declared.forms.Form.TheVariants.{Profiles, Version, Keys, Record, Ended}
use Rattle.perc_tunnel.specs.declared.forms.Standing.{Standing}
use Rattle.perc_tunnel.specs.declared.forms.Standing.TheVariants.{Whole, Part, Fault}
use Rattle.perc_tunnel.specs.Numbers.{numbers_in}
use Rattle.perc_octets.specs.Octets.{AreOctets}
use Rattle.perc_tunnel.specs.Message.{TunnelMessage, SupportedProfiles, UnsupportedVersion, MediaKeys, TunneledDtls, EndpointDisconnect}
use Rattle.perc_tunnel.specs.Stream.{BeginsWithMessage, IsPart, HasReason}

-- the type of the messages of a form
abbrev pub kind_of : Form → ℕ
kind_of Profiles = 1
kind_of Version = 2
kind_of (Keys profile) = 3
kind_of Record = 4
kind_of Ended = 5

-- lengths of bodies, all below 2^16
pub data Lengths : Type 0 where
  Exactly : (n : ℕ) → Lengths
  AtLeast : (n : ℕ) → Lengths
  OddFrom : (n : ℕ) → Lengths

-- which lengths the bodies of a form's messages have
abbrev pub lengths_of : Form → Lengths
lengths_of Profiles = OddFrom 5
lengths_of Version = Exactly 1
lengths_of (Keys profile) = Exactly (47 + 2 * key_length profile)
lengths_of Record = AtLeast 19
lengths_of Ended = Exactly 16

abbrev pub IsAmong : Lengths → ℕ → Type 0
IsAmong (Exactly m) n = n ≡ m
IsAmong (AtLeast m) n = (m ≤ n) × (n < 2 ^ 16)
IsAmong (OddFrom m) n = (n % 2 ≡ 1) × (m ≤ n) × (n < 2 ^ 16)

-- the same of n below 2^16, as a test
abbrev pub is_among : Lengths → ℕ → Bool
is_among (Exactly m) n = n == m
is_among (AtLeast m) n = nat_le m n
is_among (OddFrom m) n = n % 2 == 1 && nat_le m n

-- A message of this form can have a body of so many octets.
abbrev pub HasLength : Form → ℕ → Type 0
HasLength form n = IsAmong (lengths_of form) n

abbrev pub forms : List Form
forms = Profiles ∷ Version ∷ Keys Aes128 ∷ Keys Aes256 ∷ Record ∷ Ended ∷ []

-- the form of the messages of this type and length
abbrev pub form_at : ℕ → ℕ → Option Form
form_at kind n = find (λ form. kind == kind_of form && is_among (lengths_of form) n) forms

-- This octet stands at the offset, once that is held.
abbrev pub Holds : List ℕ → ℕ → ℕ → Type 0
Holds octets offset octet = offset < length octets → slice_index octets offset ≡ octet

-- So for each offset with its octet.
abbrev pub HoldEach : List (ℕ × ℕ) → List ℕ → Type 0
HoldEach [] octets = Unit {0}
HoldEach (one ∷ more) octets = Holds octets one.0 one.1 × HoldEach more octets

-- the number in two octets from this offset on
abbrev pub number_at : ℕ → ℕ → List (ℕ × ℕ) → List (ℕ × ℕ)
number_at offset x more = (offset, x / 256 % 256) ∷ (offset + 1, x % 256) ∷ more

-- which octets of a message of this form and length are fixed behind its length, with their offsets
abbrev pub fixed_in_body : Form → ℕ → List (ℕ × ℕ)
fixed_in_body Profiles n = number_at 4 (n - 3) []
fixed_in_body Version n = []
fixed_in_body (Keys profile) n =
    number_at 19 (profile_number profile)
    ((21, 0) ∷ (22, key_length profile) ∷ (23 + key_length profile, key_length profile) ∷ (24 + 2 * key_length profile, 12)
    ∷ (37 + 2 * key_length profile, 12) ∷ [])
fixed_in_body Record n = number_at 19 (n - 18) []
fixed_in_body Ended n = []

-- and with its type and its length
abbrev pub fixed : Form → ℕ → List (ℕ × ℕ)
fixed form n = (0, kind_of form) ∷ number_at 1 n (fixed_in_body form n)

-- The octets, as far as they go, are none that a message of this form and length can't have.
pub record Suits (form : Form) (n : ℕ) (octets : List ℕ) : Type 0 where
  pub length : HasLength form n
  pub fixed : HoldEach (fixed form n) octets

-- They are as many as such a message has.
abbrev pub IsWhole : Form → List ℕ → Type 0
IsWhole form octets = (n : ℕ) × Suits form n octets × (length octets ≡ 3 + n)

-- what octets are
abbrev pub IsStanding : List ℕ → Standing → Type 0
IsStanding octets (Whole form len) = (len ≤ length octets) × IsWhole form (take len octets) × AreOctets (take len octets)
IsStanding octets Part = IsPart octets
IsStanding octets (Fault reason) = (BeginsWithMessage octets → ⊥) × (IsPart octets → ⊥) × HasReason octets reason

-- the message that whole octets of a form spell
abbrev pub message_at : Form → List ℕ → TunnelMessage
message_at Profiles octets = SupportedProfiles (slice_index octets 3) (numbers_in (drop 6 octets))
message_at Version octets = UnsupportedVersion (slice_index octets 3)
message_at (Keys profile) octets =
    MediaKeys (take 16 (drop 3 octets)) profile
    (record { key = take (key_length profile) (drop 23 octets); salt = take 12 (drop (25 + 2 * key_length profile) octets) })
    (record { key = take (key_length profile) (drop (24 + key_length profile) octets); salt = take 12 (drop (38 + 2 * key_length profile) octets) })
message_at Record octets = TunneledDtls (take 16 (drop 3 octets)) (drop 21 octets)
message_at Ended octets = EndpointDisconnect (take 16 (drop 3 octets))

-- No message of this type has 256 octets in its body.
abbrev pub IsShortKind : ℕ → Type 0
IsShortKind kind = (kind ≡ 2) ⊎ ((kind ≡ 3) ⊎ (kind ≡ 5))
