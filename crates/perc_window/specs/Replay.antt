-- The replay window of 128 places (RFC 3711 section 3.3.2), over the set of accepted indices. A set is given by
-- the list of its members, in any order.
use Rattle.std.specs.Prelude.{◌≡◌, ℕ, ◌+◌, ◌-◌, ◌<◌, ◌≤◌, max, Bool, false, if◌then◌else◌, ◌==◌, ◌&&◌, List, [], ◌∷◌, Option, Some, None, nat_le, IfSome, slice_index_or}
use Rattle.std.specs.List.{list_any}
use Rattle.std.specs.Option.{option_map_or}
use Rattle.perc_window.specs.declared.window.Freshness.{Freshness}
use Rattle.perc_window.specs.declared.window.Freshness.TheVariants.{Fresh, Repeated, TooOld}

-- how many places the window has
abbrev pub window_size : ℕ
window_size = 128

-- the index was accepted
abbrev pub has : List ℕ → ℕ → Bool
has accepted index = list_any (λ i. i == index) accepted

-- the greatest accepted index
abbrev pub greatest : List ℕ → Option ℕ
greatest [] = None
greatest (index ∷ accepted) = Some (option_map_or (max index) (greatest accepted) index)

-- the index is 128 or more behind the greatest accepted one
abbrev pub is_too_old : List ℕ → ℕ → Bool
is_too_old accepted index = option_map_or (nat_le (index + window_size)) (greatest accepted) false

-- what a receiver that accepted these indices says to one more
abbrev pub freshness : List ℕ → ℕ → Freshness
freshness accepted index =
    if is_too_old accepted index then TooOld else (if has accepted index then Repeated else Fresh)

-- what a window keeps of them: the highest, and for each k below 128 whether the index k behind it was accepted
pub record Marks : Type 0 where
  pub highest : Option ℕ
  pub behind : List Bool

-- The window stands for this set of accepted indices.
pub record StandsFor (window : Marks) (accepted : List ℕ) : Type 0 where
  pub highest : window.highest ≡ greatest accepted
  pub marks : IfSome window.highest (λ h. (k : ℕ) → k < window_size → k ≤ h → slice_index_or window.behind k false ≡ has accepted (h - k))

-- what the window says to an index, from what it keeps
abbrev pub freshness_at : Marks → ℕ → Freshness
freshness_at window index =
    if option_map_or (nat_le (index + window_size)) window.highest false then TooOld
    else (if option_map_or (λ h. nat_le index h && slice_index_or window.behind (h - index) false) window.highest false then Repeated else Fresh)
