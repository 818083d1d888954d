-- What is answered for double packets, from what the parts answered.
use Rattle.std.proofs.Common.{◌≡◌, ℕ, ◌+◌, ◌-◌, ◌<◌, ◌≤◌, Bool, true, false, cond, List, [], ◌++◌, length, take, drop, Option, Some, None, Result, Ok, Err, refl, sym, ap, ◌∙◌, arith}
use Rattle.std.specs.Prelude.{MatchOption, MatchResult}
use Rattle.std.proofs.lemmas.Bool.Decides.{nat_tests}
use Rattle.std.proofs.lemmas.List.{append-nil, drop_at, length-append, length-drop, take_at, take_rest}
use Rattle.perc_rtp.specs.Header.{Header, IsPacket, spelling}
use Rattle.perc_srtp.proofs.PacketLaws.{forged_opens, length-sealed_body, tx_is_nearest, tx_once}
use Rattle.perc_kdf.specs.Derivation.{KeyAndSalt}
use Rattle.perc_srtp.specs.Sealed.{unsealed_body}
use Rattle.perc_srtp.specs.Streams.{tx_index, sealing_index}
use Rattle.perc_srtp.specs.declared.streams.TxFault.{TxFault}
use Rattle.perc_srtp.specs.declared.streams.TxFault.TheVariants as tx
use Rattle.perc_ohb.specs.declared.block.Ohb.{Ohb}
use Rattle.perc_ohb.specs.Block as block
use Rattle.perc_ohb.specs.Block.{EndsIn}
use Rattle.perc_ohb.specs.Rewriting.{Rewrite, block_after}
use Rattle.perc_double.specs.declared.relaying.RelayFault.{RelayFault}
use Rattle.perc_double.specs.declared.relaying.RelayFault.TheVariants as relaying
use Rattle.perc_double.specs.Double.{IsNext, IsOpened, as_relayed, opened, relaying_index, relayed, relayed_length}

-- Where there is room, the index alone decides.
pub sealing_by_index : (before : List ℕ) (seq len room : ℕ) → len + 16 ≤ room → sealing_index before seq len room ≡ tx_index before seq
sealing_by_index before seq len room fits = grind (arith, nat_tests)

pub relaying_by_index : (before : List ℕ) (h : Header) (octets : List ℕ) (o : Ohb) (c : Rewrite) → relayed_length h octets o c ≤ 1500
    → relaying_index before h octets o c ≡ as_relayed (tx_index before (relayed h c).seq)
relaying_by_index before h octets o c fits = grind (arith, nat_tests)

-- a relay's answer from a stream's
pub told_relayed : (r : Result ℕ TxFault) {P P' : ℕ → Type 0} {Q : TxFault → Type 0} {Q' : RelayFault → Type 0} → MatchResult r P Q
    → ((x : ℕ) → P x → P' x) → ((f : TxFault) (g : RelayFault) → as_relayed (Err f) ≡ Err g → Q f → Q' g) → MatchResult (as_relayed r) P' Q'
told_relayed (Ok x) told ok err = ok x told
told_relayed (Err tx.Room) told ok err = err tx.Room _ refl told
told_relayed (Err (tx.NoIndex seq)) told ok err = err (tx.NoIndex seq) _ refl told
told_relayed (Err (tx.NonceUsed index)) told ok err = err (tx.NonceUsed index) _ refl told

pub ok_same : {A E : Type 0} (a b : A) (r : Result A E) → r ≡ Ok a → r ≡ Ok b → a ≡ b
ok_same a b r p q = cc

-- octets without a tag open to nothing
pub short_unsealed : (keys : KeyAndSalt) (index : ℕ) (h : Header) (octets : List ℕ) → length octets < 16 → unsealed_body keys index h octets ≡ None
short_unsealed keys index h octets few =
    forged_opens keys index h octets (λ body is. absurd (omega (arith, ap length is, length-sealed_body keys index h body)))

-- ---- the index

pub is_next : (before : List ℕ) (seq index : ℕ) → seq < 65536 → tx_index before seq ≡ Ok index → IsNext before seq index
is_next before seq index fits is =
    record { taken = is; once = tx_once before seq index is; in_range = (tx_is_nearest before seq index fits is).in_range }

next_by : (before : List ℕ) (seq : ℕ) (r : Result ℕ TxFault) (P : ℕ → Type 0) (Q : TxFault → Type 0) → seq < 65536 → tx_index before seq ≡ r → MatchResult r P Q
    → ((f : TxFault) → Q f → ⊥) → (index : ℕ) × IsNext before seq index
next_by before seq (Ok index) P Q fits is told none = (index, is_next before seq index fits is)
next_by before seq (Err f) P Q fits is told none = absurd (none f told)

-- what was sealed has the next index
pub next_taken : (before : List ℕ) (h : Header) (c : Rewrite) (P : ℕ → Type 0) (Q : TxFault → Type 0) → MatchResult (tx_index before (relayed h c).seq) P Q
    → ((f : TxFault) → Q f → ⊥) → (index : ℕ) × IsNext before (relayed h c).seq index
next_taken before h c P Q told none = next_by before (relayed h c).seq (tx_index before (relayed h c).seq) P Q (omega arith) refl told none

-- where a packet is relayed, the stream has an index
pub placed : (b : Bool) (r : Result ℕ TxFault) (index : ℕ) → cond b (Err relaying.Room) (as_relayed r) ≡ Ok index → r ≡ Ok index
placed true r index is = cc
placed false (Ok x) index is = let same : x ≡ index = cc in ap Ok same
placed false (Err tx.Room) index is = cc
placed false (Err (tx.NoIndex seq)) index is = cc
placed false (Err (tx.NonceUsed used)) index is = cc

-- ---- the opened packet that is relayed

-- an opened packet, its header's length, and what stands behind the header
pub record StandsBehind (h : Header) (octets : List ℕ) (o : Ohb) (packet behind : List ℕ) (n : ℕ) : Type 0 where
  pub opened : IsOpened h octets o packet
  pub len : n ≡ length (spelling h)
  pub part : behind ≡ take (length packet - n) (drop n packet)

-- What stands behind the header ends in the block.
pub ends_in : (h : Header) (octets : List ℕ) (o : Ohb) (packet behind : List ℕ) (n : ℕ) → StandsBehind h octets o packet behind n → EndsIn o octets behind
ends_in h octets o packet behind n is = record {
  block = is.opened.block;
  split = is.part ∙ take_rest packet n ∙ ap (drop n) is.opened.reads.octets ∙ drop_at (spelling h) (opened octets o) n (sym is.len);
}

-- and the inner octets stand between
pub octets_are : (h : Header) (octets : List ℕ) (o : Ohb) (packet : List ℕ) (n b : ℕ) → IsPacket h (opened octets o) packet
    → n ≡ length (spelling h) → b ≡ length (block.spelling o) → take (length packet - b - n) (drop n packet) ≡ octets
octets_are h octets o packet n b is n_is b_is =
    let k : ℕ = length packet - b - n in
    let behind : drop n packet ≡ octets ++ block.spelling o = ap (drop n) is.octets ∙ drop_at (spelling h) (opened octets o) n (sym n_is) in
    let long : length octets ≡ k =
    omega (arith, ap length is.octets, length-append (spelling h) (opened octets o), length-append octets (block.spelling o)) in
    ap (take k) behind ∙ take_at octets (block.spelling o) k long

-- ---- the relayed packet

-- the parts of a relayed packet: its header, the inner octets and the block
pub record ArePartsOf (h : Header) (octets : List ℕ) (o : Ohb) (c : Rewrite) (front mid : List ℕ) (kept : Ohb) : Type 0 where
  pub header : IsPacket (relayed h c) [] front
  pub inner : mid ≡ octets
  pub block_is : kept ≡ block_after h o c

pub parts_length : (h : Header) (octets : List ℕ) (o : Ohb) (c : Rewrite) (front mid : List ℕ) (kept : Ohb) (end : ℕ) → ArePartsOf h octets o c front mid kept
    → length front ≡ end → end + length mid + length (block.spelling kept) + 16 ≡ relayed_length h octets o c
parts_length h octets o c front mid kept end parts end_is =
    let s : List ℕ = spelling (relayed h c) in
    let b : List ℕ = block.spelling (block_after h o c) in
    let b_is : length (block.spelling kept) ≡ length b = ap (λ (k : Ohb). length (block.spelling k)) parts.block_is in
    let s_is : length front ≡ length s = ap length (parts.header.octets ∙ append-nil s) in
    omega (arith, ap length parts.inner, length-append s (octets ++ b), length-append octets b)

pub relayed_told : (h : Header) (octets : List ℕ) (o : Ohb) (c : Rewrite) (front mid out : List ℕ) (kept : Ohb) (end : ℕ) (r : Option ℕ)
    → ArePartsOf h octets o c front mid kept → length front ≡ end
    → MatchOption r (1500 < end + length mid + length (block.spelling kept) + 16)
    (λ n. (n + 16 ≤ 1500) × (n ≡ end + length mid + length (block.spelling kept)) × (take n out ≡ front ++ (mid ++ block.spelling kept)))
    → MatchOption r (1500 < relayed_length h octets o c)
    (λ n. (n + 16 ≤ 1500) × (n + 16 ≡ relayed_length h octets o c) × IsPacket (relayed h c) (opened octets (block_after h o c)) (take n out))
relayed_told h octets o c front mid out kept end None parts end_is told = omega (arith, told, parts_length h octets o c front mid kept end parts end_is)
relayed_told h octets o c front mid out kept end (Some n) parts end_is told =
    let s : List ℕ = spelling (relayed h c) in
    let s_is : front ≡ s = parts.header.octets ∙ append-nil s in
    let n_is = told.1 in (
      told.0,
      omega (arith, parts_length h octets o c front mid kept end parts end_is),
      record {
        header = parts.header.header;
        octets = told.2 ∙ (λ i. s_is i ++ (parts.inner i ++ block.spelling (parts.block_is i)));
      },
    )

-- the sealed packet in front of the list that it stands in
pub front_sealed : (s old new : List ℕ) (n len : ℕ) → n + 16 ≤ length old → length new ≡ length old → len ≡ n + 16 → new ≡ s ++ drop (n + 16) old → take len new ≡ s
front_sealed s old new n len fits same len_is new_is =
    let long : length s ≡ len = omega (arith, ap length new_is, length-append s (drop (n + 16) old), length-drop (n + 16) old) in
    ap (take len) new_is ∙ take_at s (drop (n + 16) old) len long
