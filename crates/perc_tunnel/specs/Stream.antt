-- A stream of messages, cut anywhere, and where it goes wrong.
use Rattle.std.specs.Prelude.{◌≡◌, ℕ, ◌<◌, ◌≤◌, List, [], ◌∷◌, ◌++◌, length, take}
use Rattle.std.specs.List.{flat_map, All}
use Rattle.byteorder.specs.Endian.{big_bytes}
use Rattle.perc_tunnel.specs.declared.decoder.TunnelReason.{TunnelReason}
use Rattle.perc_tunnel.specs.declared.decoder.TunnelReason.TheVariants.{Kind, Length, Body}
use Rattle.perc_tunnel.specs.Message.{TunnelMessage, IsMessage, type_of, body_length, spelling}

-- The octets begin with the spelling of a message.
abbrev pub BeginsWithMessage : List ℕ → Type 0
BeginsWithMessage octets = (m : TunnelMessage) × (after : List ℕ) × IsMessage m × (octets ≡ spelling m ++ after)

-- The octets are a proper prefix of the spelling of a message.
abbrev pub IsPart : List ℕ → Type 0
IsPart octets = (m : TunnelMessage) × (more : List ℕ) × IsMessage m × (0 < length more) × (spelling m ≡ octets ++ more)

-- The stream is these messages, followed by a part of one.
pub record IsStream (messages : List TunnelMessage) (rest stream : List ℕ) : Type 0 where
  pub each : All IsMessage messages
  pub octets : stream ≡ flat_map spelling messages ++ rest
  pub part : IsPart rest

-- So many octets are messages, and those behind them neither begin with a message nor are a part of one.
pub record IsFaultyAt (before : ℕ) (messages : List TunnelMessage) (rest stream : List ℕ) : Type 0 where
  pub each : All IsMessage messages
  pub octets : stream ≡ flat_map spelling messages ++ rest
  pub offset : before ≡ length (flat_map spelling messages)
  pub no_message : BeginsWithMessage rest → ⊥
  pub no_part : IsPart rest → ⊥

abbrev pub IsKind : ℕ → Type 0
IsKind kind = (1 ≤ kind) × (kind ≤ 5)

-- A message of this type has a body of this length.
abbrev pub IsLength : ℕ → ℕ → Type 0
IsLength kind n = (m : TunnelMessage) × IsMessage m × (type_of m ≡ kind) × (body_length m ≡ n)

-- The octets behind the type, as far as they are length octets, begin such a length.
abbrev pub BeginsLength : ℕ → List ℕ → Type 0
BeginsLength kind octets = (n : ℕ) × (more : List ℕ) × IsLength kind n × (big_bytes 2 n ≡ take 2 octets ++ more)

-- The first thing that is wrong with octets that no message has.
abbrev pub HasReason : List ℕ → TunnelReason → Type 0
HasReason [] reason = ⊥
HasReason (kind ∷ octets) Kind = IsKind kind → ⊥
HasReason (kind ∷ octets) Length = IsKind kind × (BeginsLength kind octets → ⊥)
HasReason (kind ∷ octets) Body = IsKind kind × BeginsLength kind octets
