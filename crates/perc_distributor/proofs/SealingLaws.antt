-- A media packet sealed in one stream.
use Rattle.std.proofs.Common.{◌≡◌, ℕ, ◌+◌, ◌-◌, ◌<◌, ◌≤◌, true, false, List, ◌++◌, length, take, drop, Result, Ok, Err, refl, sym, ap, ◌∙◌, arith}
use Rattle.std.specs.Prelude.{MatchResult, nat_lt}
use Rattle.std.proofs.lemmas.Bool.Decides.{nat_tests}
use Rattle.std.proofs.lemmas.Bool.{cond-true, cond-false}
use Rattle.std.proofs.lemmas.List.{length-take, length-drop, drop-take}
use borrow.Rule.Slice.PartMut.{mid_of}
use Rattle.perc_ohb.specs.Rewriting.{Rewrite}
use Rattle.perc_rtp.specs.Header.{Header}
use Rattle.perc_ohb.specs.declared.block.Ohb.{Ohb}
use Rattle.perc_ekt.specs.Field.{Field, spelling}
use Rattle.perc_srtp.specs.Streams.{tx_index}
use Rattle.perc_srtp.specs.declared.streams.TxFault.{TxFault}
use Rattle.perc_srtp.specs.declared.streams.TxFault.TheVariants as tx
use Rattle.perc_double.specs.Double.{as_relayed, relaying_index, relayed, relayed_length}
use Rattle.perc_double.specs.declared.relaying.RelayFault.{RelayFault}
use Rattle.perc_distributor.specs.declared.fault.ForwardFault.{ForwardFault}
use Rattle.perc_distributor.specs.declared.fault.ForwardFault.TheVariants as fault
use Rattle.perc_distributor.specs.declared.plain.Plain.{Plain}
use Rattle.perc_distributor.specs.Forwarding.{as_forwarded}
use Rattle.perc_distributor.specs.Kept.{IsMedia}
use Rattle.perc_distributor.specs.Parts.{IsForwarded, forward_fault, stream_index}

-- the field's length is told
pub field_length : (p : Plain) (from : List ℕ) (h : Header) (inner : List ℕ) (o : Ohb) (field : Field) → IsMedia p from h inner o field → length p.octets ≡ 1500
    → length (spelling field) ≡ p.field
field_length p from h inner o field is room =
    let n = length-take p.len p.octets in
    let m = length-drop (p.len - p.field) (take p.len p.octets) in
    let same : length (drop (p.len - p.field) (take p.len p.octets)) ≡ length (spelling field) = ap (λ (xs : List ℕ). length xs) is.field_octets in
    omega (arith, n, m, is.field_within, is.within)

-- and stands behind the packet.
pub field_at : (p : Plain) (from : List ℕ) (h : Header) (inner : List ℕ) (o : Ohb) (field : Field) → IsMedia p from h inner o field
    → mid_of (p.len - p.field) (p.len - (p.len - p.field)) p.octets ≡ spelling field
field_at p from h inner o field is =
    let whole : p.len - p.field + (p.len - (p.len - p.field)) ≡ p.len = omega (arith, is.field_within) in
    sym (drop-take (p.len - p.field) (p.len - (p.len - p.field)) p.octets) ∙ ap (λ (n : ℕ). drop (p.len - p.field) (take n p.octets)) whole ∙ is.field_octets

-- Without room it isn't sealed,
pub no_room : (before : List ℕ) (h : Header) (inner : List ℕ) (o : Ohb) (field : Field) (change : Rewrite) → 1500 < relayed_length h inner o change + length (spelling field)
    → stream_index before h inner o field change ≡ Err fault.Room
no_room before h inner o field change over =
    let full : nat_lt 1500 (relayed_length h inner o change + length (spelling field)) ≡ true = grind (arith, nat_tests) in
    cond-true (nat_lt 1500 (relayed_length h inner o change + length (spelling field))) _ _ full

-- and with room at its index, both here and where it is relayed.
pub with_room : (before : List ℕ) (h : Header) (inner : List ℕ) (o : Ohb) (field : Field) (change : Rewrite) → relayed_length h inner o change + length (spelling field) ≤ 1500
    → stream_index before h inner o field change ≡ as_forwarded (tx_index before (relayed h change).seq)
with_room before h inner o field change fits =
    let room : nat_lt 1500 (relayed_length h inner o change + length (spelling field)) ≡ false = grind (arith, nat_tests) in
    cond-false (nat_lt 1500 (relayed_length h inner o change + length (spelling field))) _ _ room

pub relayed_with_room : (before : List ℕ) (h : Header) (inner : List ℕ) (o : Ohb) (change : Rewrite) → relayed_length h inner o change ≤ 1500
    → relaying_index before h inner o change ≡ as_relayed (tx_index before (relayed h change).seq)
relayed_with_room before h inner o change fits =
    let room : nat_lt 1500 (relayed_length h inner o change) ≡ false = grind (arith, nat_tests) in
    cond-false (nat_lt 1500 (relayed_length h inner o change)) _ _ room

-- an answer of the one as one of the other
abbrev pub refusing : Result ℕ RelayFault → Result ℕ ForwardFault
refusing (Ok n) = Ok n
refusing (Err f) = Err (forward_fault f)

-- What was relayed, with the field behind it, is sealed here;
pub with_field : (t : Result ℕ TxFault) (result : Result ℕ RelayFault) (n len told end : ℕ) (octets back out : List ℕ) (relayed : ℕ → List ℕ) (Keeps : ℕ → Type 0) (Same : Type 0)
    → MatchResult (as_relayed t) (λ at. (result ≡ Ok n) × (take n octets ≡ relayed at) × Keeps at) (λ f. (result ≡ Err f) × Same)
    → result ≡ Ok told → len ≡ n → take end out ≡ take len octets ++ back → IsForwarded (λ at. relayed at ++ back) Keeps (as_forwarded t) (Ok end) out
with_field (Ok at) result n len told end octets back out relayed Keeps Same all is same written =
    (end, refl, written ∙ ap (λ (k : ℕ). take k octets ++ back) same ∙ ap (λ (xs : List ℕ). xs ++ back) all.1, all.2)
with_field (Err tx.Room) result n len told end octets back out relayed Keeps Same all is same written = let refused = all.0 in absurd (cc)
with_field (Err (tx.NoIndex seq)) result n len told end octets back out relayed Keeps Same all is same written = let refused = all.0 in absurd (cc)
with_field (Err (tx.NonceUsed index)) result n len told end octets back out relayed Keeps Same all is same written = let refused = all.0 in absurd (cc)

-- and what was refused there is refused.
pub refused_so : (t : Result ℕ TxFault) (result : Result ℕ RelayFault) (n : ℕ) (octets out : List ℕ) (relayed datagram : ℕ → List ℕ) (Keeps Stays : ℕ → Type 0) (Same : Type 0) (f : RelayFault)
    → MatchResult (as_relayed t) (λ at. (result ≡ Ok n) × (take n octets ≡ relayed at) × Keeps at) (λ f. (result ≡ Err f) × Same)
    → result ≡ Err f → IsForwarded datagram Stays (as_forwarded t) (Err (forward_fault f)) out
refused_so (Ok at) result n octets out relayed datagram Keeps Stays Same f told is = let answered = told.0 in absurd (cc)
refused_so (Err tx.Room) result n octets out relayed datagram Keeps Stays Same f told is = ap (λ (r : Result ℕ RelayFault). refusing r) (sym is ∙ told.0)
refused_so (Err (tx.NoIndex seq)) result n octets out relayed datagram Keeps Stays Same f told is = ap (λ (r : Result ℕ RelayFault). refusing r) (sym is ∙ told.0)
refused_so (Err (tx.NonceUsed index)) result n octets out relayed datagram Keeps Stays Same f told is = ap (λ (r : Result ℕ RelayFault). refusing r) (sym is ∙ told.0)
