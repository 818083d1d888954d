-- What is told of the field at the end of a datagram, step by step.
use Rattle.std.specs.Prelude.{ℕ, ◌-◌, ◌||◌, ◌==◌, nat_lt, if◌then◌else◌, List, length, Option, Some, None}
use Rattle.byteorder.specs.Endian.{big_number}
use Rattle.perc_ekt.specs.declared.field.EktField.{EktField}
use Rattle.perc_ekt.specs.declared.field.EktField.TheVariants as told_as
use Rattle.perc_ekt.specs.Field.{announced, is_wrong_length, last_octets}

-- the length of a field of this type that isn't short, where it stands there whole
abbrev pub length_at : List ℕ → ℕ → Option ℕ
length_at datagram kind =
    if nat_lt (length datagram) 3 || nat_lt (length datagram) (announced datagram) || is_wrong_length kind (announced datagram) then None
    else Some (announced datagram)

-- what is told of it
abbrev pub told_at : List ℕ → ℕ → ℕ → EktField
told_at datagram kind n =
    if kind == 2
    then told_as.Full (big_number 2 (last_octets datagram 7)) (big_number 2 (last_octets datagram 5)) (record { start = length datagram - n; end = length datagram - 7 })
    else told_as.Extension kind
