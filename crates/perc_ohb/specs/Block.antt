-- The Original Header Block (RFC 8723 section 4): the original values of the fields that a distributor changed. It is an
-- optional payload type, an optional sequence number, and the Config octet, in this order, and is read from the end.
use Rattle.std.specs.Prelude.{◌≡◌, ℕ, ◌+◌, ◌-◌, ◌*◌, ◌/◌, ◌%◌, ◌^◌, ◌<◌, Bool, not, ◌&&◌, ◌==◌, nat_lt, nat_le, if◌then◌else◌, List, [], ◌∷◌, ◌++◌, length, Option, Some, None, is_some, IfSome, slice_index}
use Rattle.byteorder.specs.Endian.{big_bytes}
use Rattle.perc_rtp.specs.Header.{bit}
use Rattle.perc_ohb.specs.declared.block.Ohb.{Ohb}
use Rattle.perc_ohb.specs.declared.block.OhbFault.{OhbFault}
use Rattle.perc_ohb.specs.declared.block.OhbFault.TheVariants.{Empty, Reserved, Marker, Short, Pt}

-- the payload type and the sequence number, where they are kept
abbrev pub pt_octets : Option ℕ → List ℕ
pt_octets None = []
pt_octets (Some pt) = pt ∷ []

abbrev pub seq_octets : Option ℕ → List ℕ
seq_octets None = []
seq_octets (Some seq) = big_bytes 2 seq

-- the bits B and M: the original marker, and that it is kept
abbrev pub marker_bits : Option Bool → ℕ
marker_bits None = 0
marker_bits (Some marker) = 8 * bit marker + 4

-- the Config octet: four bits of zero, B, M, P and Q
abbrev pub config : Ohb → ℕ
config o = marker_bits o.marker + 2 * bit (is_some o.pt) + bit (is_some o.seq)

unfoldable pub spelling : Ohb → List ℕ
spelling o = pt_octets o.pt ++ seq_octets o.seq ++ config o ∷ []

-- a payload type has 7 bits, and a sequence number 16
pub record IsOhb (o : Ohb) : Type 0 where
  pub pt : IfSome o.pt (λ pt. pt < 128)
  pub seq : IfSome o.seq (λ seq. seq < 2 ^ 16)

-- The octets end in this block, which stands behind others.
pub record EndsIn (o : Ohb) (before octets : List ℕ) : Type 0 where
  pub block : IsOhb o
  pub split : octets ≡ before ++ spelling o

-- the last octet
abbrev pub last_config : List ℕ → ℕ
last_config octets = slice_index octets (length octets - 1)

-- how many octets a block with this Config octet has
abbrev pub block_length : ℕ → ℕ
block_length c = 1 + c / 2 % 2 + 2 * (c % 2)

-- the payload type stands first in the block
abbrev pub kept_pt : List ℕ → ℕ
kept_pt octets = slice_index octets (length octets - block_length (last_config octets))

-- The first thing that keeps octets from ending in a block: there is none; a reserved bit is set; B is set without M; the
-- fields that are there don't fit; the payload type has 8 bits.
abbrev pub ohb_fault : List ℕ → Option OhbFault
ohb_fault octets =
    if length octets == 0 then Some Empty
    else (if not (last_config octets / 16 == 0) then Some Reserved
    else (if last_config octets / 4 % 4 == 2 then Some Marker
    else (if nat_lt (length octets) (block_length (last_config octets)) then Some Short
    else (if (last_config octets / 2 % 2 == 1) && nat_le 128 (kept_pt octets) then Some Pt else None))))
