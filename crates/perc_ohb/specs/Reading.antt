-- The fields of the block at the end of octets, and what is answered where it isn't one, the first fault first.
use Rattle.std.specs.Prelude.{ℕ, ◌-◌, ◌/◌, ◌%◌, Bool, not, ◌==◌, nat_le, if◌then◌else◌, List, length, take, drop, Option, Some, None, Result, Ok, Err}
use Rattle.std.specs.Option.{option_map_or}
use Rattle.byteorder.specs.Endian.{big_number}
use Rattle.perc_ohb.specs.declared.block.Ohb.{Ohb}
use Rattle.perc_ohb.specs.declared.block.OhbFault.{OhbFault}
use Rattle.perc_ohb.specs.declared.block.OhbFault.TheVariants.{Empty, Reserved, Marker, Pt}
use Rattle.perc_ohb.specs.Block.{block_length, kept_pt, last_config, ohb_fault}

-- the Config octet
abbrev pub config_at : List ℕ → Result ℕ OhbFault
config_at octets =
    if length octets == 0 then Err Empty
    else (if not (last_config octets / 16 == 0) then Err Reserved
    else (if last_config octets / 4 % 4 == 2 then Err Marker else Ok (last_config octets)))

-- the payload type, where the block is there
abbrev pub pt_at : List ℕ → Result (Option ℕ) OhbFault
pt_at octets =
    if not (last_config octets / 2 % 2 == 1) then Ok None
    else (if nat_le 128 (kept_pt octets) then Err Pt else Ok (Some (kept_pt octets)))

-- the sequence number
abbrev pub seq_at : List ℕ → Option ℕ
seq_at octets = if not (last_config octets % 2 == 1) then None else Some (big_number 2 (drop (length octets - 3) octets))

-- the marker that a Config octet has
abbrev pub marker_in : ℕ → Option Bool
marker_in c = if not (c / 4 % 2 == 1) then None else Some (c / 8 % 2 == 1)

-- the block at the end of octets, where there is one
abbrev pub block_at : List ℕ → Ohb
block_at octets = record {
  pt = if last_config octets / 2 % 2 == 1 then Some (kept_pt octets) else None;
  seq = seq_at octets;
  marker = marker_in (last_config octets);
}

-- the octets before it
abbrev pub before_block : List ℕ → List ℕ
before_block octets = take (length octets - block_length (last_config octets)) octets

-- what octets are that end in a block: the octets before it, and the block; or the first fault
unfoldable pub block_of : List ℕ → Result (List ℕ × Ohb) OhbFault
block_of octets = option_map_or Err (ohb_fault octets) (Ok (before_block octets, block_at octets))
