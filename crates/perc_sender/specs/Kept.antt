-- What the body of a sender keeps.
use Rattle.std.specs.Prelude.{◌≡◌, ℕ, ◌-◌, ◌^◌, ◌≤◌, List}
use Rattle.std.specs.Option.{option_map_or}
use Rattle.perc_sender.specs.Schedule.{Taken, newest, count_under}

-- the epoch of the newest key, or 0 where there is none
abbrev pub newest_epoch : List Taken → ℕ
newest_epoch keys = option_map_or (λ t. count_under t.spi keys - 1) (newest keys) 0

-- The next index is in range, as is the number under the newest key; and the epoch is kept beside the keys.
pub record IsKept (next : ℕ) (keys : List Taken) (epoch number : ℕ) : Type 0 where
  pub in_range : next ≤ 2 ^ 48
  pub few : number ≤ next
  pub epoch_is : epoch ≡ newest_epoch keys
