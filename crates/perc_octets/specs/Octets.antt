-- Lists of octets.
use Rattle.std.specs.Prelude.{ℕ, ◌<◌, List, slice_index}

-- Each element is an octet.
abbrev pub AreOctets : List ℕ → Type 0
AreOctets octets = (k : ℕ) → slice_index octets k < 256
