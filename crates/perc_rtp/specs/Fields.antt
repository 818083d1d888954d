-- One field of a header changed, and the header cut behind its CSRCs (RFC 3550 section 5.1, RFC 8723 section 5.1).
use Rattle.std.specs.Prelude.{ℕ, Bool, List, Option, None}
use Rattle.perc_rtp.specs.Header.{Header, IsPacket}

-- The octets are a packet: some header, and some rest.
abbrev pub IsRtp : List ℕ → Type 0
IsRtp packet = (h : Header) × (rest : List ℕ) × IsPacket h rest packet

abbrev pub with_pt : ℕ → Header → Header
with_pt pt h = record h { pt = pt }

abbrev pub with_seq : ℕ → Header → Header
with_seq seq h = record h { seq = seq }

abbrev pub with_marker : Bool → Header → Header
with_marker marker h = record h { marker = marker }

-- the header without its extension: it ends with the CSRCs, and its bit X is clear
abbrev pub cut : Header → Header
cut h = record h { extension = None }

-- the header with another extension, or with none
abbrev pub with_extension : Option (ℕ × List ℕ) → Header → Header
with_extension extension h = record h { extension = extension }
