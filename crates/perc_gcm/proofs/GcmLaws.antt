-- Laws of the mode: the lengths and octets of what it makes, and that a text can be had back.
use Rattle.std.proofs.Common.{◌≡◌, ◌↔◌, ℕ, zero, suc, ◌+◌, ◌-◌, ◌/◌, ◌%◌, ◌^◌, ◌<◌, ◌≤◌, nat_le, Bool, true, false, IsTrue, if◌then◌else◌, ◌&&◌, Option}
use Rattle.std.proofs.Common.{None, Some, List, [], ◌∷◌, ◌++◌, length, take, drop, replicate, get_or, bit_xor, ⊎_elim, refl, sym, ◌∙◌, ap, arith}
use Rattle.std.specs.Int.{w32, w128, from_be_bytes, to_be_bytes}
use Rattle.std.specs.Int.Bits.{xor_self, xor_zero_l, xor_zero_r, xor_assoc}
use Rattle.std.proofs.lemmas.Bool.{cases_lt, le-leb}
use Rattle.std.proofs.lemmas.List.{get_or_past, ext_get_or, length-append, length-take, take_at, drop_at, take-append-drop, append_cancel_right}
use Rattle.std.proofs.lemmas.List.FromFn.{get_or-map-range_with_len, length-map-range_with_len}
use Rattle.std.proofs.lemmas.Nat.{xor_lt, xor_mod}
use Rattle.std.proofs.lemmas.Slice.Eq.{bytes_eq-Decides}
use Rattle.perc_aes.specs.Cipher.{IsBlock, IsKey, aes}
use Rattle.perc_aes.proofs.CipherLaws.{IsBlock-aes, aes_injective}
use Rattle.perc_gcm.specs.Field.{ghash}
use Rattle.perc_gcm.specs.Gcm.{Verifies, cipher_part, ciphertext, counter_block, element, hash_subkey, hashed, inc32, key_stream, sealed_text, tag, tag_part, unsealed_text, verifies}
use Rattle.perc_gcm.proofs.Blocks.{below_append, element_is_element}
use Rattle.perc_gcm.proofs.Numbers.{bytes_below, element_fits, number_of_octets, take_below}
pub use Rattle.perc_gcm.proofs.Numbers.{element_injective}

-- ---- texts

-- A cipher text has the length of its text.
pub length-ciphertext : (key iv text : List ℕ) → length (ciphertext key iv text) ≡ length text
unfolding ciphertext
length-ciphertext key iv text =
    length-map-range_with_len (λ j. bit_xor (get_or text j 0) (key_stream key iv j)) 0 (length text)

pub ciphertext_at : (key iv text : List ℕ) (k : ℕ) → k < length text → get_or (ciphertext key iv text) k 0 ≡ bit_xor (get_or text k 0) (key_stream key iv k)
unfolding ciphertext
ciphertext_at key iv text k inside =
    get_or-map-range_with_len (λ j. bit_xor (get_or text j 0) (key_stream key iv j)) 0 (length text) k k 0 inside (omega arith)

-- To encrypt a cipher text gives the text back.
pub ciphertext_twice : (key iv text : List ℕ) → ciphertext key iv (ciphertext key iv text) ≡ text
ciphertext_twice key iv text =
    let once = length-ciphertext key iv text in
    let twice = length-ciphertext key iv (ciphertext key iv text) in
    ext_get_or 0 (ciphertext key iv (ciphertext key iv text)) text (twice ∙ once)
    (λ k inside.
    ciphertext_at key iv (ciphertext key iv text) k (omega arith)
    ∙ ap (λ (x : ℕ). bit_xor x (key_stream key iv k)) (ciphertext_at key iv text k (omega arith))
    ∙ xor_assoc (get_or text k 0) (key_stream key iv k) (key_stream key iv k)
    ∙ ap (λ (x : ℕ). bit_xor (get_or text k 0) x) (xor_self (key_stream key iv k))
    ∙ xor_zero_r (get_or text k 0))

-- No two texts have one cipher text under a key and an IV.
pub ciphertext_injective : (key iv a b : List ℕ) → ciphertext key iv a ≡ ciphertext key iv b → a ≡ b
ciphertext_injective key iv a b same =
    sym (ciphertext_twice key iv a) ∙ ap (λ (c : List ℕ). ciphertext key iv c) same ∙ ciphertext_twice key iv b

-- ---- octets

first_octets : (k : ℕ) → get_or (0 ∷ 0 ∷ 0 ∷ 1 ∷ []) k 0 < 256
first_octets zero = omega arith
first_octets (suc zero) = omega arith
first_octets (suc (suc zero)) = omega arith
first_octets (suc (suc (suc zero))) = omega arith
first_octets (suc (suc (suc (suc k)))) = omega arith

IsBlock-inc32 : (b : List ℕ) → IsBlock b → IsBlock (inc32 b)
unfolding inc32
IsBlock-inc32 b is =
    let size = is.size in
    record {
      size = omega (arith, length-append (take 12 b) (to_be_bytes w32 ((from_be_bytes w32 (drop 12 b) + 1) % 2 ^ 32)), length-take 12 b);
      octets =
          below_append 256 (take 12 b) (to_be_bytes w32 ((from_be_bytes w32 (drop 12 b) + 1) % 2 ^ 32)) (take_below 12 b is.octets)
          (bytes_below 4 ((from_be_bytes w32 (drop 12 b) + 1) % 2 ^ 32));
    }

-- The counter blocks are blocks.
pub IsBlock-counter_block : (iv : List ℕ) (k : ℕ) → length iv ≡ 12 → ((j : ℕ) → get_or iv j 0 < 256) → IsBlock (counter_block iv k)
unfolding counter_block
IsBlock-counter_block iv zero size octets = record {
  size = omega (arith, length-append iv (0 ∷ 0 ∷ 0 ∷ 1 ∷ []));
  octets = below_append 256 iv (0 ∷ 0 ∷ 0 ∷ 1 ∷ []) octets first_octets;
}
IsBlock-counter_block iv (suc k) size octets =
    IsBlock-inc32 (counter_block iv k) (IsBlock-counter_block iv k size octets)

key_stream_below : (key iv : List ℕ) (k : ℕ) → IsKey key → length iv ≡ 12 → ((j : ℕ) → get_or iv j 0 < 256) → key_stream key iv k < 256
unfolding key_stream
key_stream_below key iv k is size octets =
    let block = IsBlock-aes key (counter_block iv (k / 16 + 1)) is (IsBlock-counter_block iv (k / 16 + 1) size octets) in
    block.octets (k % 16)

-- A cipher text is octets.
pub ciphertext_octets : (key iv text : List ℕ) → IsKey key → length iv ≡ 12 → ((k : ℕ) → get_or iv k 0 < 256) → ((k : ℕ) → get_or text k 0 < 256) → (k : ℕ) → get_or (ciphertext key iv text) k 0 < 256
ciphertext_octets key iv text is size iv_octets octets k =
    ⊎_elim (λ (inside : k < length text).
    let e = ciphertext_at key iv text k inside in
    let below : bit_xor (get_or text k 0) (key_stream key iv k) < 2 ^ 8 = xor_lt 8 (get_or text k 0) (key_stream key iv k) (octets k) (key_stream_below key iv k is size iv_octets) in
    omega arith)
    (λ (past : length text ≤ k).
    let size_is = length-ciphertext key iv text in
    omega (arith, get_or_past (ciphertext key iv text) k 0 (omega arith)))
    (cases_lt k (length text))

-- ---- tags

zeros_at : (n k : ℕ) → get_or (replicate n 0) k 0 < 256
zeros_at zero k = omega arith
zeros_at (suc n) zero = omega arith
zeros_at (suc n) (suc k) = zeros_at n k

-- The hash subkey is an element.
pub hash_subkey_fits : (key : List ℕ) → IsKey key → hash_subkey key < 2 ^ 128
unfolding hash_subkey
hash_subkey_fits key is =
    element_fits (aes key (replicate 16 0)) (IsBlock-aes key (replicate 16 0) is (record { size = refl; octets = zeros_at 16 }))

-- A tag has 16 octets.
pub length-tag : (key iv aad cipher : List ℕ) → length (tag key iv aad cipher) ≡ 16
unfolding tag
length-tag key iv aad cipher = refl

pub tag_octets : (key iv aad cipher : List ℕ) (k : ℕ) → get_or (tag key iv aad cipher) k 0 < 256
unfolding tag
tag_octets key iv aad cipher k = bytes_below 16 _ k

-- The tag of a cipher text verifies,
pub tag_verifies : (key iv aad cipher : List ℕ) → Verifies key iv aad cipher (tag key iv aad cipher)
unfolding Verifies
tag_verifies key iv aad cipher = refl

-- and no other does.
pub tag_is_one : (key iv aad cipher t u : List ℕ) → Verifies key iv aad cipher t → Verifies key iv aad cipher u → t ≡ u
unfolding Verifies
tag_is_one key iv aad cipher t u verifies_t verifies_u = verifies_t ∙ sym verifies_u

-- A tag verifies exactly where the test says so.
pub verifies_decides : (key iv aad cipher t : List ℕ) → IsTrue (verifies key iv aad cipher t) ↔ Verifies key iv aad cipher t
unfolding verifies Verifies
verifies_decides key iv aad cipher t = bytes_eq-Decides t (tag key iv aad cipher)

-- ---- sealed texts

-- What is sealed is 16 octets longer than its text,
pub length-sealed_text : (key iv aad text : List ℕ) → length (sealed_text key iv aad text) ≡ length text + 16
unfolding sealed_text
length-sealed_text key iv aad text =
    omega (arith, length-append (ciphertext key iv text) (tag key iv aad (ciphertext key iv text)), length-ciphertext key iv text, length-tag key iv aad (ciphertext key iv text))

-- and octets.
pub sealed_octets : (key iv aad text : List ℕ) → IsKey key → length iv ≡ 12 → ((k : ℕ) → get_or iv k 0 < 256)
    → ((k : ℕ) → get_or text k 0 < 256) → (k : ℕ) → get_or (sealed_text key iv aad text) k 0 < 256
unfolding sealed_text
sealed_octets key iv aad text is size iv_octets octets =
    below_append 256 (ciphertext key iv text) (tag key iv aad (ciphertext key iv text))
    (ciphertext_octets key iv text is size iv_octets octets) (tag_octets key iv aad (ciphertext key iv text))

-- a cipher text and its tag, as they are made
pub sealed_as : (key iv aad text cipher t : List ℕ) → cipher ≡ ciphertext key iv text → t ≡ tag key iv aad cipher → cipher ++ t ≡ sealed_text key iv aad text
unfolding sealed_text
sealed_as key iv aad text cipher t cipher_is t_is =
    ap (λ (x : List ℕ). cipher ++ x) t_is ∙ ap (λ (x : List ℕ). x ++ tag key iv aad x) cipher_is

pub cipher_part_at : (cipher t : List ℕ) → length t ≡ 16 → cipher_part (cipher ++ t) ≡ cipher
unfolding cipher_part
cipher_part_at cipher t size =
    take_at cipher t (length (cipher ++ t) - 16) (omega (arith, length-append cipher t))

pub tag_part_at : (cipher t : List ℕ) → length t ≡ 16 → tag_part (cipher ++ t) ≡ t
unfolding tag_part
tag_part_at cipher t size =
    drop_at cipher t (length (cipher ++ t) - 16) (omega (arith, length-append cipher t))

-- what is sealed is its cipher text and its tag
pub sealed_parts : (sealed : List ℕ) → cipher_part sealed ++ tag_part sealed ≡ sealed
unfolding cipher_part tag_part
sealed_parts sealed = take-append-drop (length sealed - 16) sealed

opened_by : (fits right : Bool) (text : List ℕ) → fits ≡ true → right ≡ true → (if fits && right then Some text else None) ≡ Some text
opened_by true true text p q = refl
opened_by true false text p q = (cc)
opened_by false right text p q = (cc)

refused_by : (fits right : Bool) (text : List ℕ) → (right ≡ true → ⊥) → (if fits && right then Some text else None) ≡ None
refused_by true true text not = absurd (not refl)
refused_by true false text not = refl
refused_by false right text not = refl

opened_from : (fits right : Bool) (text u : List ℕ) → (if fits && right then Some text else None) ≡ Some u → (fits ≡ true) × (right ≡ true) × (text ≡ u)
opened_from true true text u e = (refl, refl, (cc))
opened_from true false text u e = (cc)
opened_from false right text u e = (cc)

-- A cipher text with a tag that verifies opens,
pub unseals : (key iv aad cipher t : List ℕ) → length t ≡ 16 → Verifies key iv aad cipher t → unsealed_text key iv aad (cipher ++ t) ≡ Some (ciphertext key iv cipher)
unfolding unsealed_text
unseals key iv aad cipher t size right =
    let long : 16 ≤ length (cipher ++ t) = omega (arith, length-append cipher t) in
    rw (cipher_part_at cipher t size, tag_part_at cipher t size)
    (opened_by (nat_le 16 (length (cipher ++ t))) (verifies key iv aad cipher t) (ciphertext key iv cipher) (le-leb 16 (length (cipher ++ t)) long) ((verifies_decides key iv aad cipher t).1 right))

-- and with another it doesn't.
pub unseals_not : (key iv aad cipher t : List ℕ) → length t ≡ 16 → (Verifies key iv aad cipher t → ⊥) → unsealed_text key iv aad (cipher ++ t) ≡ None
unfolding unsealed_text
unseals_not key iv aad cipher t size wrong =
    rw (cipher_part_at cipher t size, tag_part_at cipher t size)
    (refused_by (nat_le 16 (length (cipher ++ t))) (verifies key iv aad cipher t) (ciphertext key iv cipher) (λ right. wrong ((verifies_decides key iv aad cipher t).0 right)))

-- What was sealed opens to its text,
pub sealed_opens : (key iv aad sealed text : List ℕ) → sealed ≡ sealed_text key iv aad text → unsealed_text key iv aad sealed ≡ Some text
unfolding sealed_text
sealed_opens key iv aad sealed text e =
    ap (λ (x : List ℕ). unsealed_text key iv aad x) e
    ∙ unseals key iv aad (ciphertext key iv text) (tag key iv aad (ciphertext key iv text)) (length-tag key iv aad (ciphertext key iv text)) (tag_verifies key iv aad (ciphertext key iv text))
    ∙ ap (λ (x : List ℕ). Some x) (ciphertext_twice key iv text)

-- and what opens was sealed of what it opens to.
pub opens_as_sealed : (key iv aad sealed text : List ℕ) → unsealed_text key iv aad sealed ≡ Some text → sealed ≡ sealed_text key iv aad text
unfolding unsealed_text Verifies
opens_as_sealed key iv aad sealed text e =
    let parts = opened_from (nat_le 16 (length sealed)) (verifies key iv aad (cipher_part sealed) (tag_part sealed)) (ciphertext key iv (cipher_part sealed)) text e in
    let right : tag_part sealed ≡ tag key iv aad (cipher_part sealed) = (verifies_decides key iv aad (cipher_part sealed) (tag_part sealed)).0 parts.1 in
    let back : cipher_part sealed ≡ ciphertext key iv text = sym (ciphertext_twice key iv (cipher_part sealed)) ∙ ap (λ (x : List ℕ). ciphertext key iv x) parts.2 in
    sym (sealed_parts sealed) ∙ sealed_as key iv aad text (cipher_part sealed) (tag_part sealed) back right

-- What doesn't open was sealed of no text,
pub none_sealed : (key iv aad sealed : List ℕ) → unsealed_text key iv aad sealed ≡ None → (text : List ℕ) → sealed ≡ sealed_text key iv aad text → ⊥
none_sealed key iv aad sealed none text e = let some = sealed_opens key iv aad sealed text e in cc

is_none : (o : Option (List ℕ)) → ((text : List ℕ) → o ≡ Some text → ⊥) → o ≡ None
is_none None not = refl
is_none (Some text) not = absurd (not text refl)

-- and what was sealed of no text doesn't open.
pub none_opens : (key iv aad sealed : List ℕ) → ((text : List ℕ) → sealed ≡ sealed_text key iv aad text → ⊥) → unsealed_text key iv aad sealed ≡ None
none_opens key iv aad sealed not =
    is_none (unsealed_text key iv aad sealed) (λ text e. not text (opens_as_sealed key iv aad sealed text e))

-- What is sealed has one text.
pub sealed_injective : (key iv aad a b : List ℕ) → sealed_text key iv aad a ≡ sealed_text key iv aad b → a ≡ b
sealed_injective key iv aad a b same =
    let of_a : unsealed_text key iv aad (sealed_text key iv aad a) ≡ Some a = sealed_opens key iv aad (sealed_text key iv aad a) a refl in
    let of_b : unsealed_text key iv aad (sealed_text key iv aad a) ≡ Some b = sealed_opens key iv aad (sealed_text key iv aad a) b same in
    cc

-- ---- one IV

xor_cancel : (g a b : ℕ) → bit_xor g a ≡ bit_xor g b → a ≡ b
xor_cancel g a b same =
    sym (xor_zero_l a) ∙ ap (λ (x : ℕ). bit_xor x a) (sym (xor_self g)) ∙ xor_assoc g g a
    ∙ ap (λ (x : ℕ). bit_xor g x) same
    ∙ sym (xor_assoc g g b) ∙ ap (λ (x : ℕ). bit_xor x b) (xor_self g) ∙ xor_zero_l b

-- the masks of one hash are equal
masks_same : (g a b : ℕ) → to_be_bytes w128 (bit_xor g a) ≡ to_be_bytes w128 (bit_xor g b) → a < 2 ^ 128 → b < 2 ^ 128 → a ≡ b
masks_same g a b same p q =
    let sums : bit_xor g a % 2 ^ 128 ≡ bit_xor g b % 2 ^ 128 = number_of_octets 16 (bit_xor g a) (bit_xor g b) same in
    let masks = xor_cancel (g % 2 ^ 128) (a % 2 ^ 128) (b % 2 ^ 128) (sym (xor_mod g a 128) ∙ sums ∙ xor_mod g b 128) in
    omega arith

-- A tag over additional data and a cipher text comes from one IV.
pub iv_is_one : (key iv other aad cipher : List ℕ) → IsKey key → length iv ≡ 12 → length other ≡ 12 → ((k : ℕ) → get_or iv k 0 < 256)
    → ((k : ℕ) → get_or other k 0 < 256) → tag key iv aad cipher ≡ tag key other aad cipher → iv ≡ other
unfolding tag counter_block
iv_is_one key iv other aad cipher is size_iv size_other octets_iv octets_other same =
    let first_iv = IsBlock-counter_block iv 0 size_iv octets_iv in
    let first_other = IsBlock-counter_block other 0 size_other octets_other in
    let mask_iv = IsBlock-aes key (counter_block iv 0) is first_iv in
    let mask_other = IsBlock-aes key (counter_block other 0) is first_other in
    let masks = masks_same (ghash (hash_subkey key) (hashed aad cipher)) (element (aes key (counter_block iv 0))) (element (aes key (counter_block other 0))) same
    (element_is_element (aes key (counter_block iv 0)) mask_iv.octets) (element_is_element (aes key (counter_block other 0)) mask_other.octets) in
    let blocks = aes_injective key (counter_block iv 0) (counter_block other 0) is first_iv first_other
    (element_injective (aes key (counter_block iv 0)) (aes key (counter_block other 0)) mask_iv mask_other masks) in
    append_cancel_right iv other (0 ∷ 0 ∷ 0 ∷ 1 ∷ []) blocks
