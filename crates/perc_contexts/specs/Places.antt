-- Which tries the code finds in what it keeps.
use Rattle.std.specs.Prelude.{ℕ, ◌+◌, ◌-◌, ◌*◌, Bool, ◌==◌, ◌&&◌, ◌||◌, nat_le, if◌then◌else◌, List, [], ◌∷◌, length, position, count_by, Option, Some, None, Result, Ok, Err}
use Rattle.perc_window.specs.Index.{nearest}
use Rattle.perc_contexts.specs.declared.TryPlace.TheVariants.{Held, New}
use Rattle.perc_contexts.specs.declared.Try.{Try}
use Rattle.perc_contexts.specs.declared.KeyLimit.{KeyLimit}
use Rattle.perc_contexts.specs.Receiving.{Carried, most_contexts, most_keys}
use Rattle.perc_contexts.specs.Kept.{KeptContext, is_kept_of}

-- there is no room for one more of this sender under this SPI
abbrev pub is_kept_full : List KeptContext → ℕ → ℕ → Bool
is_kept_full kept spi ssrc =
    nat_le most_contexts (length kept) || nat_le most_keys (count_by (λ k. k.spi == spi && k.ssrc == ssrc) kept)

-- the try under a carried key: at the place of its context, or as a new one
abbrev pub carried_try : List KeptContext → ℕ → ℕ → Carried → Result Try KeyLimit
carried_try kept ssrc seq c = at (position (is_kept_of c.spi ssrc c.key) kept) where
  at : Option ℕ → Result Try KeyLimit
  at (Some place) = Ok (record { place = Held place; index = c.roc * 65536 + seq })
  at None = if is_kept_full kept c.spi ssrc then Err (record {}) else Ok (record { place = New; index = c.roc * 65536 + seq })

-- a try at a place, if it has an index, before others
abbrev pub with_try : Option ℕ → ℕ → List Try → List Try
with_try None place others = others
with_try (Some index) place others = record { place = Held place; index = index } ∷ others

-- the tries under so many contexts of a sender, from the newest on; a context's place counts those that are older
abbrev pub nearest_tries : ℕ → ℕ → List KeptContext → ℕ → List Try
nearest_tries ssrc seq [] room = []
nearest_tries ssrc seq (k ∷ older) room =
    if room == 0 then []
    else (if k.ssrc == ssrc
    then with_try (nearest k.window.highest seq) (length older) (nearest_tries ssrc seq older (room - 1))
    else nearest_tries ssrc seq older room)
