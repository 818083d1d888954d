-- EKT fields (RFC 8870 section 4.1). A datagram is a packet followed by a field, which is read from its last octet. The
-- bounds on lengths are this product's own.
use Rattle.std.specs.Prelude.{◌≡◌, ℕ, ◌+◌, ◌-◌, ◌%◌, ◌^◌, ◌<◌, ◌≤◌, Bool, not, ◌||◌, ◌==◌, nat_lt, if◌then◌else◌, List, [], ◌∷◌, ◌++◌, length, take, drop, Option, Some, None, Result, Ok, Err, slice_index}
use Rattle.byteorder.specs.Endian.{big_bytes, big_number}
use Rattle.perc_ekt.specs.declared.field.EktField.{EktField}
use Rattle.perc_ekt.specs.declared.field.EktField.TheVariants as told_as
use Rattle.perc_ekt.specs.declared.field.FieldFault.{FieldFault}
use Rattle.perc_ekt.specs.declared.field.FieldFault.TheVariants.{NoField, Type01, Length}

-- a short field; a full one, which carries a wrapped key; or one of another type, whose octets are unknown here
pub data Field : Type 0 where
  Short : Field
  Full : (cipher : List ℕ) → (spi epoch : ℕ) → Field
  Extension : (octets : List ℕ) → (kind : ℕ) → Field

-- a wrapped key has 16 to 4096 octets, a multiple of 8
abbrev pub IsCipherLength : ℕ → Type 0
IsCipherLength n = (16 ≤ n) × (n ≤ 4096) × (n % 8 ≡ 0)

-- The length of a field, all its octets counted, is one of 16 bits.
abbrev pub IsField : Field → Type 0
IsField Short = Unit {0}
IsField (Full cipher spi epoch) =
    IsCipherLength (length cipher) × (spi < 2 ^ 16) × (epoch < 2 ^ 16)
IsField (Extension octets kind) = (length octets + 3 < 2 ^ 16) × (3 ≤ kind) × (kind < 256)

-- The length stands before the last octet, which is the field's type.
unfoldable pub spelling : Field → List ℕ
spelling Short = 0 ∷ []
spelling (Full cipher spi epoch) = cipher ++ big_bytes 2 spi ++ big_bytes 2 epoch ++ big_bytes 2 (length cipher + 7) ++ 2 ∷ []
spelling (Extension octets kind) = octets ++ big_bytes 2 (length octets + 3) ++ kind ∷ []

-- The datagram is this packet and this field.
pub record IsDatagram (packet : List ℕ) (field : Field) (datagram : List ℕ) : Type 0 where
  pub fits : IsField field
  pub octets : datagram ≡ packet ++ spelling field

-- what is told of a field that begins at an offset: between which offsets its wrapped key stands
abbrev pub told_of : Field → ℕ → EktField
told_of Short offset = told_as.Short
told_of (Full cipher spi epoch) offset = told_as.Full spi epoch (record { start = offset; end = offset + length cipher })
told_of (Extension octets kind) offset = told_as.Extension kind

-- ---- the field at the end of a datagram

abbrev pub last_octet : List ℕ → ℕ
last_octet datagram = slice_index datagram (length datagram - 1)

-- the last n octets
abbrev pub last_octets : List ℕ → ℕ → List ℕ
last_octets datagram n = drop (length datagram - n) datagram

-- the length that stands before the last octet
abbrev pub announced : List ℕ → ℕ
announced datagram = big_number 2 (last_octets datagram 3)

-- Whether a field of this type can't have this length: a full one has 7 octets beside its wrapped key, and another
-- extension has 3 or more.
abbrev pub is_wrong_length : ℕ → ℕ → Bool
is_wrong_length kind n =
    if kind == 2 then nat_lt n 23 || not ((n - 7) % 8 == 0) || nat_lt 4096 (n - 7) else nat_lt n 3

-- the first thing that keeps a datagram from ending in a field
abbrev pub field_fault : List ℕ → Option FieldFault
field_fault datagram =
    if length datagram == 0 then Some NoField
    else (if last_octet datagram == 1 then Some Type01
    else (if last_octet datagram == 0 then None
    else (if nat_lt (length datagram) 3 || nat_lt (length datagram) (announced datagram) || is_wrong_length (last_octet datagram) (announced datagram)
    then Some Length else None)))

-- the field of this type, not a short one, that the last n octets spell
abbrev pub field_at : List ℕ → ℕ → ℕ → Field
field_at datagram kind n =
    if kind == 2
    then Full (take (n - 7) (last_octets datagram n)) (big_number 2 (last_octets datagram 7)) (big_number 2 (last_octets datagram 5))
    else Extension (take (n - 3) (last_octets datagram n)) kind

-- the packet and the field behind it, where there is no fault
abbrev pub parted : List ℕ → List ℕ × Field
parted datagram =
    if last_octet datagram == 0 then (take (length datagram - 1) datagram, Short)
    else (take (length datagram - announced datagram) datagram, field_at datagram (last_octet datagram) (announced datagram))

abbrev pub unless_fault : Option FieldFault → List ℕ × Field → Result (List ℕ × Field) FieldFault
unless_fault None read = Ok read
unless_fault (Some fault) read = Err fault

-- the packet and the field behind it, or the first fault
unfoldable pub field_of : List ℕ → Result (List ℕ × Field) FieldFault
field_of datagram = unless_fault (field_fault datagram) (parted datagram)
