-- The marks of a window, and how two words of 64 bits hold them.
use Rattle.std.specs.Prelude.{◌≡◌, ℕ, ◌-◌, ◌<◌, Bool, true, false, if◌then◌else◌, nat_lt, nat_eq, List, map, slice_index_or}
use Rattle.std.specs.Int.{bit_at}
use Rattle.std.specs.List.{range_with_len}
use Rattle.perc_window.specs.Replay.{window_size}

-- These are the old marks, and one place marked.
abbrev pub IsMarkedAt : List Bool → ℕ → List Bool → Type 0
IsMarkedAt old place new =
    (k : ℕ) → k < window_size → slice_index_or new k false ≡ (if nat_eq k place then true else slice_index_or old k false)

-- These are the old marks, each that many places up: the lowest places are clear, and those past the end are gone.
abbrev pub IsMovedUp : List Bool → ℕ → List Bool → Type 0
IsMovedUp old by new =
    (k : ℕ) → k < window_size → slice_index_or new k false ≡ (if nat_lt k by then false else slice_index_or old (k - by) false)

-- Place k is bit k of the low word, and from 64 on bit k - 64 of the high one.
abbrev pub is_marked : ℕ → ℕ → ℕ → Bool
is_marked low high k = if nat_lt k 64 then nat_eq (bit_at low k) 1 else nat_eq (bit_at high (k - 64)) 1

-- all the places
unfoldable pub marks_of : ℕ → ℕ → List Bool
marks_of low high = map (λ k. is_marked low high k) (range_with_len 0 window_size)
