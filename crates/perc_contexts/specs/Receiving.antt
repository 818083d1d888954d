-- What a receiver holds of its senders' keys, as lists, and which of them a packet is tried under. A context is a key of a
-- sender (by its SSRC) under an SPI (RFC 8870 section 4.1), with the indices that were accepted under it. An SPI is live
-- where the record of its EKT key is held. The bounds and the order of trying are this product's own.
use Rattle.std.specs.Prelude.{ℕ, ◌+◌, ◌-◌, ◌*◌, Bool, ◌==◌, ◌&&◌, ◌||◌, nat_le, if◌then◌else◌, List, [], ◌∷◌, ◌++◌, length, filter, drop, take, reverse, find, count_by, Option, Some, None, Result, Ok, Err}
use Rattle.std.specs.List.{last_or, list_any, filter_map}
use Rattle.std.specs.Option.{option_map}
use Rattle.std.specs.Str.{bytes_eq}
use Rattle.perc_window.specs.Index.{nearest}
use Rattle.perc_window.specs.Replay.{greatest, freshness}
use Rattle.perc_window.specs.declared.window.Freshness.{Freshness}
use Rattle.perc_contexts.specs.declared.SpiOld.{SpiOld}
use Rattle.perc_contexts.specs.declared.KeyLimit.{KeyLimit}

-- how many SPIs are live at most
abbrev pub live_spis : ℕ
live_spis = 4

-- how many contexts of an SSRC are tried, beside that of a carried key
abbrev pub tried_contexts : ℕ
tried_contexts = 4

-- how many contexts are held at most, and how many of one SSRC under one SPI
abbrev pub most_contexts : ℕ
most_contexts = 512

abbrev pub most_keys : ℕ
most_keys = 64

-- a key of a sender under an SPI, and the indices accepted under it
pub record Context : Type 0 where
  pub spi : ℕ
  pub ssrc : ℕ
  pub key : List ℕ
  pub accepted : List ℕ

-- what a receiver holds: the live SPIs, rising, and the contexts in the order of their installing
pub record Receiving : Type 0 where
  pub live : List ℕ
  pub contexts : List Context

-- a receiver that holds nothing
abbrev pub nothing_held : Receiving
nothing_held = record { live = []; contexts = [] }

-- the key that a packet carries, with the SPI and the ROC that came with it
pub record Carried : Type 0 where
  pub spi : ℕ
  pub key : List ℕ
  pub roc : ℕ

-- a packet is tried under a context, at an index; under a new context nothing was accepted
pub record Attempt : Type 0 where
  pub context : Context
  pub index : ℕ

-- ---- live SPIs

-- the latest SPI that was added, which is live
abbrev pub latest : List ℕ → Option ℕ
latest live = last_or None live

abbrev pub is_live : List ℕ → ℕ → Bool
is_live live spi = list_any (λ s. s == spi) live

-- the SPI that goes where one more becomes live: the lowest, where as many are live as may be
abbrev pub retired : List ℕ → Option ℕ
retired [] = None
retired (spi ∷ live) = if nat_le live_spis (length live + 1) then Some spi else None

-- the SPIs without the one that goes
abbrev pub still_live : List ℕ → List ℕ
still_live live = drop (length live + 1 - live_spis) live

-- what is answered where an SPI is to be added: the one that goes, or that it isn't above the latest
abbrev pub spi_answer : List ℕ → ℕ → Result (Option ℕ) SpiOld
spi_answer live spi = at (latest live) where
  at : Option ℕ → Result (Option ℕ) SpiOld
  at None = Ok (retired live)
  at (Some last) = if nat_le spi last then Err (record { 0 = last }) else Ok (retired live)

-- what a receiver holds once an SPI above the latest was added: the contexts of the SPI that goes are gone too
abbrev pub renewed : ℕ → Receiving → Receiving
renewed spi held = record {
  live = still_live held.live ++ spi ∷ [];
  contexts = filter (λ c. is_live (still_live held.live) c.spi) held.contexts;
}

-- ---- which contexts a packet is tried under

-- it is the context of this key of this sender under this SPI
abbrev pub is_of : ℕ → ℕ → List ℕ → Context → Bool
is_of spi ssrc key c = c.spi == spi && c.ssrc == ssrc && bytes_eq c.key key

abbrev pub context_of : List Context → ℕ → ℕ → List ℕ → Option Context
context_of contexts spi ssrc key = find (is_of spi ssrc key) contexts

-- the contexts of this sender that were installed last, the newest first, over all live SPIs together
abbrev pub newest_of : List Context → ℕ → List Context
newest_of contexts ssrc = take tried_contexts (filter (λ c. c.ssrc == ssrc) (reverse contexts))

-- a context is tried at the nearest index with this SEQ, if it has one
abbrev pub attempt_at : ℕ → Context → Option Attempt
attempt_at seq c = option_map (λ index. record { context = c; index = index }) (nearest (greatest c.accepted) seq)

-- each of them at its nearest index; one that has none is left out
abbrev pub at_nearest : List Context → ℕ → List Attempt
at_nearest contexts seq = filter_map (attempt_at seq) contexts

-- there is no room for one more context of this sender under this SPI
abbrev pub is_full : List Context → ℕ → ℕ → Bool
is_full contexts spi ssrc =
    nat_le most_contexts (length contexts) || nat_le most_keys (count_by (λ c. c.spi == spi && c.ssrc == ssrc) contexts)

abbrev pub new_context : ℕ → Carried → Context
new_context ssrc carried = record { spi = carried.spi; ssrc = ssrc; key = carried.key; accepted = [] }

-- a carried key's context, held or new, where there is room for it
abbrev pub carried_context : List Context → ℕ → Carried → Result Context KeyLimit
carried_context contexts ssrc carried = at (context_of contexts carried.spi ssrc carried.key) where
  at : Option Context → Result Context KeyLimit
  at (Some c) = Ok c
  at None = if is_full contexts carried.spi ssrc then Err (record {}) else Ok (new_context ssrc carried)

-- The tries of a packet with this SSRC and this SEQ: first under the key that it carries, at the carried ROC; then under
-- the newest contexts of its sender. No key that is carried is refused but for want of room.
unfoldable pub tries : List Context → ℕ → ℕ → Option Carried → Result (List Attempt) KeyLimit
tries contexts ssrc seq None = Ok (at_nearest (newest_of contexts ssrc) seq)
tries contexts ssrc seq (Some carried) = behind (carried_context contexts ssrc carried) where
  behind : Result Context KeyLimit → Result (List Attempt) KeyLimit
  behind (Err e) = Err e
  behind (Ok c) =
      Ok (record { context = c; index = carried.roc * 65536 + seq } ∷ at_nearest (newest_of contexts ssrc) seq)

-- ---- what an accepted packet changes

-- what its context says to the index of a try
abbrev pub freshness_of : Attempt → Freshness
freshness_of attempt = freshness attempt.context.accepted attempt.index

-- a context that accepted one more index
abbrev pub with_index : ℕ → Context → Context
with_index index c = record c { accepted = index ∷ c.accepted }

-- The contexts once a packet was accepted by a try: its context, installed behind the others where it isn't held, has the
-- index too. Nothing else changes.
unfoldable pub committed : Attempt → List Context → List Context
committed attempt [] = with_index attempt.index attempt.context ∷ []
committed attempt (c ∷ contexts) =
    if is_of attempt.context.spi attempt.context.ssrc attempt.context.key c
    then with_index attempt.index c ∷ contexts
    else c ∷ committed attempt contexts
