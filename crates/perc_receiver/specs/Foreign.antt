-- A datagram is foreign where something in it opens that nobody made: a wrapped key under a live SPI, or an inner packet by one
-- of the tries, wherever that try stands in the list.
use Rattle.std.specs.Prelude.{ℕ, Bool, true, false, ◌&&◌, ◌||◌, nat_lt, if◌then◌else◌, List, [], length, is_some, is_none, Option, Result, Ok, Err}
use Rattle.std.specs.List.{list_any}
use Rattle.perc_rtp.specs.Header.{Header}
use Rattle.perc_ekt.specs.Field.{Field, Short, Full, Extension}
use Rattle.perc_ekt.specs.Key.{WrappedKey}
use Rattle.perc_ekt.specs.declared.key.KeyFault.{KeyFault}
use Rattle.perc_ekt.specs.declared.key.KeyFault.TheVariants as ekt
use Rattle.perc_contexts.specs.Receiving.{Carried, Attempt, tries, is_live}
use Rattle.perc_outer.specs.Datagram as outer
use Rattle.perc_outer.specs.Datagram.{Opened, Reach, original_header}
use Rattle.perc_receiver.specs.declared.refusal.Refusal.{Refusal}
use Rattle.perc_receiver.specs.Table.{Secret, Table}
use Rattle.perc_receiver.specs.Opener.{by_cipher, wrap_of, row_of}
use Rattle.perc_receiver.specs.Receiver.{Receiver, live_of, carried_by, some_tries, reach_of}

-- The octets unwrap, to whatever plain text.
abbrev pub unwraps : Result WrappedKey KeyFault → Bool
unwraps (Ok w) = true
unwraps (Err ekt.Plain) = true
unwraps (Err ekt.Unwrap) = false

abbrev pub is_foreign_key : List Secret → Table → Field → Bool
is_foreign_key secrets table Short = false
is_foreign_key secrets table (Extension octets kind) = false
is_foreign_key secrets table (Full cipher spi epoch) =
    is_live (live_of secrets) spi && unwraps ((by_cipher secrets).wrapped_key spi cipher) && is_none (wrap_of table spi cipher)

abbrev pub is_foreign_try : List Secret → Table → Header → List ℕ → Attempt → Bool
is_foreign_try secrets table h octets a =
    is_some ((by_cipher secrets).body a.context a.index h octets) && is_none (row_of table a.context a.index h octets)

-- the tries of a datagram: none, where it is refused before them
abbrev pub tries_or_none : Result (List Attempt) Refusal → List Attempt
tries_or_none (Ok attempts) = attempts
tries_or_none (Err e) = []

abbrev pub tries_with : Receiver → Header → Result (Option Carried) Refusal → List Attempt
tries_with r h (Err e) = []
tries_with r h (Ok carried) = tries_or_none (some_tries (tries r.contexts h.ssrc h.seq carried))

abbrev pub tries_reached : Receiver → Opened → List Attempt
tries_reached r o =
    if nat_lt (length o.inner) 16 then []
    else tries_with r (original_header o) (carried_by (by_cipher r.secrets) r.secrets o.header.ssrc o.field)

abbrev pub is_foreign_opened : Table → Receiver → Opened → Bool
is_foreign_opened table r o =
    is_foreign_key r.secrets table o.field || list_any (is_foreign_try r.secrets table (original_header o) o.inner) (tries_reached r o)

abbrev pub is_foreign_reach : Table → Receiver → Reach → Bool
is_foreign_reach table r (outer.Refused fault) = false
is_foreign_reach table r (outer.Blocked ssrc index fault) = false
is_foreign_reach table r (outer.Reached o) = is_foreign_opened table r o

-- A datagram that is refused hop by hop isn't foreign.
unfoldable pub is_foreign : Table → Receiver → List ℕ → Bool
is_foreign table r datagram = is_foreign_reach table r (reach_of r datagram)
