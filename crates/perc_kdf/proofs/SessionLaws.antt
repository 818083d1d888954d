-- What is derived from a master key are keys of a session.
use Rattle.std.proofs.Common.{◌≡◌, ◌≢◌, ℕ, zero, suc, ◌+◌, ◌-◌, ◌/◌, ◌%◌, ◌<◌, ◌≤◌, List, [], ◌∷◌, ◌++◌, length, map, get_or, set, bit_xor, ⊎_elim, inl, inr, refl, ap, ◌∙◌, arith}
use Rattle.std.specs.List.{range_with_len}
use Rattle.std.proofs.lemmas.Bool.{cases_lt, cases_eq}
use Rattle.std.proofs.lemmas.List.{get_or_append_left, get_or-append_right, get_or-set_same, get_or-set_other, get_or_past, set_past, length-set, length-append}
use Rattle.std.proofs.lemmas.List.FromFn.{get_or-map-range_with_len, length-map-range_with_len}
use Rattle.std.proofs.lemmas.Nat.{xor_lt}
use Rattle.perc_aes.specs.Cipher.{IsBlock, IsKey, IsKeyLength}
use Rattle.perc_octets.specs.Octets.{AreOctets}
use Rattle.perc_octets.proofs.Octets.{AreOctets-append}
use Rattle.perc_aes.proofs.CipherLaws.{IsBlock-aes}
use Rattle.perc_kdf.specs.Derivation.{IsMaster, IsMasterLength, IsSession, KeyAndSalt, counter_block, derived, key_label, padded, salt_label, session_keys, stream_octet}
use Rattle.perc_kdf.specs.declared.Kind.{Kind}
use Rattle.perc_kdf.specs.declared.Kind.TheVariants.{Srtp, Srtcp}

below-set : (xs : List ℕ) (i x : ℕ) → AreOctets xs → x < 256 → AreOctets (set xs i x)
below-set xs i x p small k =
    ⊎_elim (λ (inside : i < length xs).
    ⊎_elim (λ (here : k ≡ i). rw (here, get_or-set_same xs i x 0 inside) small)
    (λ (apart : k ≢ i). rw (get_or-set_other xs i k x 0 apart) (p k))
    (cases_eq k i))
    (λ (past : length xs ≤ i). rw (set_past xs i x past) (p k))
    (cases_lt i (length xs))

below-two : (a b : ℕ) → a < 256 → b < 256 → AreOctets (a ∷ b ∷ [])
below-two a b p q zero = p
below-two a b p q (suc zero) = q
below-two a b p q (suc (suc k)) = omega arith

-- what the cipher is put to is a block
pub IsBlock-counter_block : (salt : List ℕ) (label i : ℕ) → length salt ≡ 14 → AreOctets salt → label < 256 → i < 65536 → IsBlock (counter_block salt label i)
IsBlock-counter_block salt label i size octets small few = record {
  size = rw (length-append (set salt 7 (bit_xor (get_or salt 7 0) label)) (i / 256 ∷ i % 256 ∷ []), length-set salt 7 (bit_xor (get_or salt 7 0) label), size) refl;
  octets = AreOctets-append (set salt 7 (bit_xor (get_or salt 7 0) label)) (i / 256 ∷ i % 256 ∷ [])
      (below-set salt 7 (bit_xor (get_or salt 7 0) label) octets (xor_lt 8 (get_or salt 7 0) label (octets 7) small))
      (below-two (i / 256) (i % 256) (omega arith) (omega arith));
}

-- each octet of the stream is one
pub below-stream_octet : (key salt : List ℕ) (label k : ℕ) → IsKey key → length salt ≡ 14 → AreOctets salt → label < 256 → k < 1048576 → stream_octet key salt label k < 256
below-stream_octet key salt label k is size octets small few =
    (IsBlock-aes key (counter_block salt label (k / 16)) is (IsBlock-counter_block salt label (k / 16) size octets small (omega arith))).octets (k % 16)

pub length-derived : (key salt : List ℕ) (label n : ℕ) → length (derived key salt label n) ≡ n
unfolding derived
length-derived key salt label n = length-map-range_with_len (stream_octet key salt label) 0 n

pub below-derived : (key salt : List ℕ) (label n : ℕ) → IsKey key → length salt ≡ 14 → AreOctets salt → label < 256 → n ≤ 1048576 → AreOctets (derived key salt label n)
unfolding derived
below-derived key salt label n is size octets small few k =
    ⊎_elim (λ (inside : k < n).
    rw (get_or-map-range_with_len (stream_octet key salt label) 0 n k k 0 inside (omega arith)) (below-stream_octet key salt label k is size octets small (omega arith)))
    (λ (past : n ≤ k).
    let out : length (map (stream_octet key salt label) (range_with_len 0 n)) ≤ k = omega (arith, length-map-range_with_len (stream_octet key salt label) 0 n) in
    rw (get_or_past (map (stream_octet key salt label) (range_with_len 0 n)) k 0 out) (omega arith))
    (cases_lt k n)

below-key_label : (kind : Kind) → key_label kind < 256
below-key_label Srtp = omega arith
below-key_label Srtcp = omega arith

below-salt_label : (kind : Kind) → salt_label kind < 256
below-salt_label Srtp = omega arith
below-salt_label Srtcp = omega arith

IsKeyLength-master : (n : ℕ) → IsMasterLength n → IsKeyLength n
IsKeyLength-master n (inl h) = inl h
IsKeyLength-master n (inr h) = inr (inr h)

few_octets : (n : ℕ) → IsMasterLength n → n ≤ 1048576
few_octets n (inl h) = omega arith
few_octets n (inr h) = omega arith

-- A master key and its salt give the keys of a session.
pub IsSession-session_keys : (master : KeyAndSalt) (kind : Kind) → IsMaster master → IsSession (session_keys master kind)
IsSession-session_keys master kind is =
    let n : ℕ = length master.key in
    let salt : List ℕ = padded master.salt in
    let size : length salt ≡ 14 = length-append master.salt (0 ∷ 0 ∷ []) ∙ ap (λ k. k + 2) is.salt_size in
    let octets : AreOctets salt = AreOctets-append master.salt (0 ∷ 0 ∷ []) is.salt_octets (below-two 0 0 (omega arith) (omega arith)) in
    let key : IsKey master.key = record { size = IsKeyLength-master n is.key_size; octets = is.key_octets } in
    let long : length (derived master.key salt (key_label kind) n) ≡ n = length-derived master.key salt (key_label kind) n in
    record {
      key = record {
        size = rw long (IsKeyLength-master n is.key_size);
        octets = below-derived master.key salt (key_label kind) n key size octets (below-key_label kind) (few_octets n is.key_size);
      };
      size = rw long is.key_size;
      salt = length-derived master.key salt (salt_label kind) 12;
      salt_octets = below-derived master.key salt (salt_label kind) 12 key size octets (below-salt_label kind) (omega arith);
    }
