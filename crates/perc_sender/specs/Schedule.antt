-- A sender's indices, keys and full fields. The index of its packets is ROC * 65536 + SEQ, below 2^48 (RFC 3711 section
-- 3.3.1). Each key is taken under an SPI; its epoch is its number, from 0, among the keys taken under that SPI. When a
-- packet carries its key in a full field is this sender's own rule, of the kind that RFC 8870 section 4.6 asks for.
use Rattle.std.specs.Prelude.{ℕ, ◌+◌, ◌-◌, ◌/◌, ◌%◌, ◌^◌, Bool, false, not, ◌||◌, ◌==◌, nat_lt, nat_le, if◌then◌else◌, List, [], ◌∷◌, ◌++◌, length, filter, Option, Some, None, Result, Ok, Err}
use Rattle.std.specs.List.{list_any, last_or}
use Rattle.std.specs.Option.{option_map_or}
use Rattle.std.specs.Str.{bytes_eq}
use Rattle.perc_sender.specs.declared.SendPlace.{SendPlace}
use Rattle.perc_sender.specs.declared.TakeFault.{TakeFault}
use Rattle.perc_sender.specs.declared.TakeFault.TheVariants.{Repeated, Limit}
use Rattle.perc_sender.specs.declared.NextFault.{NextFault}
use Rattle.perc_sender.specs.declared.NextFault.TheVariants.{NoKey, IndexSpent}

-- a key, and the SPI that it was taken under
pub record Taken : Type 0 where
  pub spi : ℕ
  pub key : List ℕ

-- what a sender has come to
pub record Sending : Type 0 where
  pub ssrc : ℕ
  -- the index of the next packet
  pub next : ℕ
  -- the keys that it ever took, in order
  pub keys : List Taken
  -- how many packets went out under the newest key
  pub number : ℕ
  -- the ROC of the packet before
  pub before : Option ℕ

-- the ROC of an index
abbrev pub roll_over : ℕ → ℕ
roll_over index = index / 65536

abbrev pub newest : List Taken → Option Taken
newest keys = last_or None keys

-- how many keys were taken under an SPI
abbrev pub count_under : ℕ → List Taken → ℕ
count_under spi keys = length (filter (λ t. t.spi == spi) keys)

abbrev pub was_taken : List ℕ → List Taken → Bool
was_taken key keys = list_any (λ t. bytes_eq t.key key) keys

-- 64 keys were taken under this SPI, or 512 in all
abbrev pub is_full : ℕ → List Taken → Bool
is_full spi keys = nat_le 64 (count_under spi keys) || nat_le 512 (length keys)

-- a sender that took no key and sent nothing
abbrev pub started : ℕ → ℕ → Sending
started ssrc first = record { ssrc = ssrc; next = first; keys = []; number = 0; before = None }

-- what is answered where this key is to be taken under this SPI: its epoch, or why not
abbrev pub take_answer : Sending → ℕ → List ℕ → Result ℕ TakeFault
take_answer s spi key =
    if was_taken key s.keys then Err Repeated
    else (if is_full spi s.keys then Err Limit else Ok (count_under spi s.keys))

abbrev pub with_key : Sending → ℕ → List ℕ → Sending
with_key s spi key = record s { keys = s.keys ++ record { spi = spi; key = key } ∷ []; number = 0 }

-- The field of a packet is full where its number under its key, from 0, is below 3 or a multiple of 100, or where its ROC
-- isn't that of the packet before.
abbrev pub is_full_field : ℕ → ℕ → Option ℕ → Bool
is_full_field number roc before =
    nat_lt number 3 || (number % 100 == 0) || option_map_or (λ b. not (b == roc)) before false

-- the place of the next packet under a key
abbrev pub place_under : Sending → Taken → SendPlace
place_under s t = record {
  index = s.next;
  spi = t.spi;
  epoch = count_under t.spi s.keys - 1;
  full = is_full_field s.number (roll_over s.next) s.before;
}

-- what is answered where the next packet is to go out: its place, or why it can't
abbrev pub next_answer : Sending → Result SendPlace NextFault
next_answer s = place_or (newest s.keys) where
  place_or : Option Taken → Result SendPlace NextFault
  place_or None = Err NoKey
  place_or (Some t) = if s.next == 2 ^ 48 then Err IndexSpent else Ok (place_under s t)

abbrev pub after_packet : Sending → Sending
after_packet s = record s { next = s.next + 1; number = s.number + 1; before = Some (roll_over s.next) }
