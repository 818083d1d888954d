-- A packet followed by a field is read as these, whatever its octets.
use Rattle.std.proofs.Common.{◌≡◌, ℕ, ◌-◌, ◌<◌, ◌≤◌, ◌≢◌, List, length, take, drop, get_or, Ok, inl, inr, refl, sym, ap, ◌∙◌, subst, arith}
use Rattle.std.proofs.lemmas.Bool.{cases_eq}
use Rattle.std.proofs.lemmas.List.{drop_at, length-append, take_at}
use Rattle.perc_ekt.specs.Field.{Field, IsDatagram, Short, field_at, field_of, last_octet, spelling, told_of}
use Rattle.perc_ekt.specs.declared.field.EktField.{EktField}
use Rattle.perc_ekt.specs.Reading.{length_at}
use Rattle.perc_ekt.proofs.Fields.{field_long, field_of_ok, field_short, kind_of, kind-available, kind-short, last_is, long_read, spelling-length}

-- the packet, by how many octets the field has
pub packet_before : (packet : List ℕ) (field : Field) (datagram : List ℕ) (n : ℕ) → IsDatagram packet field datagram → n ≡ length (spelling field)
    → take (length datagram - n) datagram ≡ packet
packet_before packet field datagram n is n_is =
    let at : length packet ≡ length datagram - n = omega (arith, ap length is.octets, length-append packet (spelling field)) in
    ap (take (length datagram - n)) is.octets ∙ take_at packet (spelling field) (length datagram - n) at

-- the field behind it
pub field_behind : (packet : List ℕ) (field : Field) (datagram : List ℕ) → IsDatagram packet field datagram → drop (length packet) datagram ≡ spelling field
field_behind packet field datagram is = ap (drop (length packet)) is.octets ∙ drop_at packet (spelling field) (length packet) refl

pub datagram_read : (packet : List ℕ) (field : Field) (datagram : List ℕ) → IsDatagram packet field datagram → field_of datagram ≡ Ok (packet, field)
datagram_read packet field datagram is =
    let last = last_is packet field datagram is in
    let front : (n : ℕ) → n ≡ length (spelling field) → take (length datagram - n) datagram ≡ packet = λ n e. packet_before packet field datagram n is e in
    elim (cases_eq (kind_of field) 0) [
      | inl short ↦
          let is_short : field ≡ Short = kind-short field is.fits short in
          field_short datagram last.1 (last.0 ∙ short)
          ∙ ap (λ (q : List ℕ). Ok (q, Short)) (front 1 (sym (spelling-length Short) ∙ ap (λ (g : Field). length (spelling g)) (sym is_short)))
          ∙ ap (λ (g : Field). Ok (packet, g)) (sym is_short)
      | inr long ↦
          let n = length (spelling field) in
          let read = long_read packet field datagram is long in
          let available : kind_of field ≢ 1 = kind-available field is.fits in
          let high : 2 ≤ last_octet datagram = omega (arith, last.0) in
          field_long datagram n last.1 high (ap (length_at datagram) last.0 ∙ read.len)
          ∙ ap (λ (q : List ℕ). Ok (q, field_at datagram (last_octet datagram) n)) (front n refl)
          ∙ ap (λ (k : ℕ). Ok (packet, field_at datagram k n)) last.0
          ∙ ap (λ (g : Field). Ok (packet, g)) read.field
    ]

-- ---- what was told of a field

-- The first n octets are a packet, and what was told is of the field behind it.
pub record FieldFound (datagram : List ℕ) (told : EktField) (n : ℕ) : Type 0 where
  pub field : Field
  pub within : n ≤ length datagram
  pub is : IsDatagram (take n datagram) field datagram
  pub told_is : told ≡ told_of field n

pub field_found : (datagram : List ℕ) (told : EktField) (len : ℕ) → ((k : ℕ) → get_or datagram k 0 < 256)
    → (read : List ℕ × Field) × (field_of datagram ≡ Ok read) × ◌≡◌ {A = EktField × ℕ} (told, len) (told_of read.1 (length read.0), length (spelling read.1))
    → FieldFound datagram told (length datagram - len)
field_found datagram told len octets (read, found, same) =
    let is = (field_of_ok read.0 read.1 datagram octets).0 found in
    let len_is : len ≡ length (spelling read.1) = ap (λ (t : EktField × ℕ). t.1) same in
    let packet : take (length datagram - len) datagram ≡ read.0 = packet_before read.0 read.1 datagram len is len_is in
    let n : length read.0 ≡ length datagram - len = omega (arith, ap length is.octets, length-append read.0 (spelling read.1)) in
    record {
      field = read.1;
      within = omega arith;
      is = subst (λ (p : List ℕ). IsDatagram p read.1 datagram) (sym packet) is;
      told_is = ap (λ (t : EktField × ℕ). t.0) same ∙ ap (told_of read.1) n;
    }
