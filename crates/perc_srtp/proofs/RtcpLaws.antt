-- Laws of sealed RTCP packets: what opens is what was sealed, and a packet tells its index.
use Rattle.std.proofs.Common.{◌≡◌, ℕ, ◌+◌, ◌-◌, ◌^◌, ◌<◌, ◌≤◌, nat_le, Bool, true, false, ◌&&◌, if◌then◌else◌, List, [], ◌++◌, length, take}
use Rattle.std.proofs.Common.{drop, get_or, Option, Some, None, option_map, bytes_eq, ⊎_elim, refl, sym, ap, ◌∙◌, append_assoc, arith}
use Rattle.std.proofs.lemmas.Bool.{cases_lt, le-leb, leb-true}
use Rattle.std.proofs.lemmas.List.{drop-drop, drop-take, drop_at, get_or-drop, get_or-take, get_or_past, length-append, length-take, length-take-le, take-append-drop, take_at}
use Rattle.std.proofs.lemmas.Option.{same_Some}
use Rattle.std.proofs.lemmas.Slice.Eq.{bytes_eq-Decides}
use Rattle.byteorder.specs.Endian.{big_number}
use Rattle.byteorder.specs.Numbers.{big_from-take, big_number-reads_back}
use Rattle.perc_gcm.specs.Gcm.{sealed_text, unsealed_text}
use Rattle.perc_gcm.proofs.GcmLaws.{length-sealed_text, opens_as_sealed, sealed_octets, sealed_opens}
use Rattle.perc_kdf.specs.Derivation.{IsSession, KeyAndSalt}
use Rattle.perc_srtp.specs.Sealed.{index_word, rtcp_aad, rtcp_iv, rtcp_ssrc, rtcp_word, sealed_part, sealed_rtcp, unsealed_rtcp}
use Rattle.perc_srtp.proofs.PacketLaws.{below_append, length-rtcp_iv, number_below, rtcp_iv_octets}

-- ---- parts of lists

-- a part and what follows it
pub piece : (i k j : ℕ) (xs : List ℕ) → i + k ≡ j → take k (drop i xs) ++ drop j xs ≡ drop i xs
piece i k j xs e =
    ap (λ (m : ℕ). take k (drop i xs) ++ drop m xs) (sym e)
    ∙ ap (λ (r : List ℕ). take k (drop i xs) ++ r) (sym (drop-drop k i xs))
    ∙ take-append-drop k (drop i xs)

-- the SSRC stands in the first 8 octets
pub ssrc_in_head : (packet : List ℕ) → rtcp_ssrc (take 8 packet) ≡ rtcp_ssrc packet
ssrc_in_head packet = ap (big_number 4) (drop-take 4 4 packet) ∙ big_from-take 0 4 4 (drop 4 packet) (omega arith)

pub same_ssrc : (a b : List ℕ) → take 8 a ≡ take 8 b → rtcp_ssrc a ≡ rtcp_ssrc b
same_ssrc a b same = sym (ssrc_in_head a) ∙ ap rtcp_ssrc same ∙ ssrc_in_head b

-- a packet in its parts
in_three : (packet : List ℕ) → 28 ≤ length packet → packet ≡ take 8 packet ++ sealed_part packet ++ index_word packet
in_three packet least =
    let n : ℕ = length packet in
    sym (take-append-drop 8 packet)
    ∙ ap (λ (r : List ℕ). take 8 packet ++ r) (sym (piece 8 (n - 12) (n - 4) packet (omega arith)))
    ∙ sym (append_assoc (take 8 packet) (sealed_part packet) (index_word packet))

-- ---- what was sealed opens

-- the parts of a packet that was sealed
pub record AreParts (keys : KeyAndSalt) (index : ℕ) (plain packet : List ℕ) : Type 0 where
  pub head : take 8 packet ≡ take 8 plain
  pub text : sealed_part packet ≡ sealed_text keys.key (rtcp_iv keys.salt (rtcp_ssrc plain) index) (rtcp_aad index plain) (drop 8 plain)
  pub word : index_word packet ≡ rtcp_word index
  pub size : length packet ≡ length plain + 20

parts_found : (packet h s w : List ℕ) → packet ≡ h ++ s ++ w → length h ≡ 8 → length w ≡ 4 → (take 8 packet ≡ h) × (sealed_part packet ≡ s) × (index_word packet ≡ w)
parts_found packet h s w is h_size w_size =
    let n : ℕ = length packet in
    let grouped : packet ≡ h ++ (s ++ w) = is ∙ append_assoc h s w in
    let size : n ≡ length s + 12 = ap length is ∙ omega (arith, length-append (h ++ s) w, length-append h s) in (
      ap (take 8) grouped ∙ take_at h (s ++ w) 8 h_size,
      ap (λ (xs : List ℕ). take (n - 12) (drop 8 xs)) grouped ∙ ap (take (n - 12)) (drop_at h (s ++ w) 8 h_size) ∙ take_at s w (n - 12) (omega arith),
      ap (drop (n - 4)) is ∙ drop_at (h ++ s) w (n - 4) (omega (arith, length-append h s)),
    )

-- What is sealed is 20 octets longer than the packet.
pub length-sealed_rtcp : (keys : KeyAndSalt) (index : ℕ) (plain : List ℕ) → length (sealed_rtcp keys index plain) ≡ length plain + 20
unfolding sealed_rtcp
length-sealed_rtcp keys index plain =
    let v : List ℕ = rtcp_iv keys.salt (rtcp_ssrc plain) index in
    let s : List ℕ = sealed_text keys.key v (rtcp_aad index plain) (drop 8 plain) in
    let whole : length (take 8 plain) + length (drop 8 plain) ≡ length plain = sym (length-append (take 8 plain) (drop 8 plain)) ∙ ap length (take-append-drop 8 plain) in
    omega (arith, length-append (take 8 plain ++ s) (rtcp_word index), length-append (take 8 plain) s, length-sealed_text keys.key v (rtcp_aad index plain) (drop 8 plain))

pub parts_of : (keys : KeyAndSalt) (index : ℕ) (plain packet : List ℕ) → 8 ≤ length plain → packet ≡ sealed_rtcp keys index plain → AreParts keys index plain packet
unfolding sealed_rtcp
parts_of keys index plain packet within is =
    let s : List ℕ = sealed_text keys.key (rtcp_iv keys.salt (rtcp_ssrc plain) index) (rtcp_aad index plain) (drop 8 plain) in
    let found = parts_found packet (take 8 plain) s (rtcp_word index) is (length-take-le 8 plain within) refl in
    record { head = found.0; text = found.1; word = found.2; size = ap length is ∙ length-sealed_rtcp keys index plain }

both_tests : (a b : Bool) (x : Option (List ℕ)) → a ≡ true → b ≡ true → (if a && b then x else None) ≡ x
both_tests true true x p q = refl
both_tests true false x p q = cc
both_tests false b x p q = cc

-- Where the length and the word are right, the tag decides.
pub by_tag : (keys : KeyAndSalt) (index : ℕ) (packet : List ℕ) → 28 ≤ length packet → index_word packet ≡ rtcp_word index
    → unsealed_rtcp keys index packet ≡ option_map (λ text. take 8 packet ++ text) (unsealed_text keys.key (rtcp_iv keys.salt (rtcp_ssrc packet) index) (rtcp_aad index packet) (sealed_part packet))
unfolding unsealed_rtcp
by_tag keys index packet least word =
    both_tests (nat_le 28 (length packet)) (bytes_eq (index_word packet) (rtcp_word index)) _ (le-leb 28 (length packet) least)
    ((bytes_eq-Decides (index_word packet) (rtcp_word index)).1 word)

-- What was sealed opens,
pub rtcp_opens : (keys : KeyAndSalt) (index : ℕ) (packet plain : List ℕ) → 8 ≤ length plain → packet ≡ sealed_rtcp keys index plain
    → unsealed_rtcp keys index packet ≡ Some plain
rtcp_opens keys index packet plain within is =
    let parts = parts_of keys index plain packet within is in
    let size = parts.size in
    let head : take 8 packet ≡ take 8 plain = parts.head in
    let text : sealed_part packet ≡ sealed_text keys.key (rtcp_iv keys.salt (rtcp_ssrc plain) index) (rtcp_aad index plain) (drop 8 plain) = parts.text in
    let ssrc : rtcp_ssrc packet ≡ rtcp_ssrc plain = same_ssrc packet plain head in
    let found : unsealed_text keys.key (rtcp_iv keys.salt (rtcp_ssrc packet) index) (rtcp_aad index packet) (sealed_part packet) ≡ Some (drop 8 plain) =
    (λ i. unsealed_text keys.key (rtcp_iv keys.salt (ssrc i) index) (head i ++ rtcp_word index) (text i))
    ∙ sealed_opens keys.key (rtcp_iv keys.salt (rtcp_ssrc plain) index) (rtcp_aad index plain) _ (drop 8 plain) refl in
    by_tag keys index packet (omega arith) parts.word
    ∙ ap (option_map (λ t. take 8 packet ++ t)) found
    ∙ ap Some (ap (λ (xs : List ℕ). xs ++ drop 8 plain) head ∙ take-append-drop 8 plain)

-- ---- what opens was sealed

tests_passed : (a b : Bool) (x : Option (List ℕ)) (y : List ℕ) → (if a && b then x else None) ≡ Some y → (a ≡ true) × (b ≡ true) × (x ≡ Some y)
tests_passed true true x y e = (refl, refl, e)
tests_passed true false x y e = cc
tests_passed false b x y e = cc

text_behind : (head : List ℕ) (found : Option (List ℕ)) (y : List ℕ) → option_map (λ t. head ++ t) found ≡ Some y → (t : List ℕ) × (found ≡ Some t) × (y ≡ head ++ t)
text_behind head None y e = cc
text_behind head (Some t) y e = (t, refl, sym (same_Some (head ++ t) y e))

-- and what opens was sealed.
pub rtcp_as_sealed : (keys : KeyAndSalt) (index : ℕ) (packet plain : List ℕ) → unsealed_rtcp keys index packet ≡ Some plain
    → (packet ≡ sealed_rtcp keys index plain) × (8 ≤ length plain)
unfolding unsealed_rtcp sealed_rtcp
rtcp_as_sealed keys index packet plain opens =
    let v : List ℕ = rtcp_iv keys.salt (rtcp_ssrc packet) index in
    let passed = tests_passed (nat_le 28 (length packet)) (bytes_eq (index_word packet) (rtcp_word index)) _ plain opens in
    let least : 28 ≤ length packet = leb-true 28 (length packet) passed.0 in
    let word : index_word packet ≡ rtcp_word index = (bytes_eq-Decides (index_word packet) (rtcp_word index)).0 passed.1 in
    let found = text_behind (take 8 packet) (unsealed_text keys.key v (rtcp_aad index packet) (sealed_part packet)) plain passed.2 in
    let text : List ℕ = found.0 in
    let size : length (take 8 packet) ≡ 8 = length-take-le 8 packet (omega arith) in
    let head : take 8 packet ≡ take 8 plain = sym (take_at (take 8 packet) text 8 size) ∙ ap (take 8) (sym found.2) in
    let rest : text ≡ drop 8 plain = sym (drop_at (take 8 packet) text 8 size) ∙ ap (drop 8) (sym found.2) in
    let ssrc : rtcp_ssrc packet ≡ rtcp_ssrc plain = same_ssrc packet plain head in
    let part : sealed_part packet ≡ sealed_text keys.key v (rtcp_aad index packet) text =
    opens_as_sealed keys.key v (rtcp_aad index packet) (sealed_part packet) text found.1 in (
      in_three packet least
          ∙ (λ i. take 8 packet ++ part i ++ word i)
          ∙ (λ i. head i ++ sealed_text keys.key (rtcp_iv keys.salt (ssrc i) index) (head i ++ rtcp_word index) (rest i) ++ rtcp_word index),
      omega (arith, ap length found.2, length-append (take 8 packet) text),
    )

-- Where nothing opens no packet was sealed,
pub forged_rtcp : (keys : KeyAndSalt) (index : ℕ) (packet : List ℕ) → unsealed_rtcp keys index packet ≡ None → (plain : List ℕ) → 8 ≤ length plain
    → packet ≡ sealed_rtcp keys index plain → ⊥
forged_rtcp keys index packet none plain within is =
    let opens = rtcp_opens keys index packet plain within is in
    cc

is_none : (found : Option (List ℕ)) → ((x : List ℕ) → found ≡ Some x → ⊥) → found ≡ None
is_none None not = refl
is_none (Some x) not = absurd (not x refl)

-- and the other way round.
pub forged_rtcp_opens : (keys : KeyAndSalt) (index : ℕ) (packet : List ℕ)
    → ((plain : List ℕ) → 8 ≤ length plain → packet ≡ sealed_rtcp keys index plain → ⊥) → unsealed_rtcp keys index packet ≡ None
forged_rtcp_opens keys index packet none =
    is_none (unsealed_rtcp keys index packet) (λ plain opens. let was = rtcp_as_sealed keys index packet plain opens in none plain was.1 was.0)

-- ---- one index

pub word_number : (index : ℕ) → index < 2 ^ 31 → big_number 4 (rtcp_word index) ≡ 2 ^ 31 + index
word_number index fits = big_number-reads_back 4 (2 ^ 31 + index) [] (omega arith)

-- A sealed packet tells its index, and was sealed of one packet.
pub rtcp_one_index : (keys : KeyAndSalt) (i j : ℕ) (a b : List ℕ) → i < 2 ^ 31 → j < 2 ^ 31 → 8 ≤ length a → 8 ≤ length b
    → sealed_rtcp keys i a ≡ sealed_rtcp keys j b → (i ≡ j) × (a ≡ b)
rtcp_one_index keys i j a b fits_i fits_j within_a within_b same =
    let p : List ℕ = sealed_rtcp keys i a in
    let words : rtcp_word i ≡ rtcp_word j = sym (parts_of keys i a p within_a refl).word ∙ (parts_of keys j b p within_b same).word in
    let index : i ≡ j = omega (arith, word_number i fits_i, word_number j fits_j, ap (big_number 4) words) in
    let opens_a : unsealed_rtcp keys i p ≡ Some a = rtcp_opens keys i p a within_a refl in
    let opens_b : unsealed_rtcp keys j p ≡ Some b = rtcp_opens keys j p b within_b same in
    (index, same_Some a b (sym opens_a ∙ ap (λ (k : ℕ). unsealed_rtcp keys k p) index ∙ opens_b))

-- ---- octets

take_below : (n : ℕ) (xs : List ℕ) → ((k : ℕ) → get_or xs k 0 < 256) → (k : ℕ) → get_or (take n xs) k 0 < 256
take_below n xs all k =
    ⊎_elim (λ (inside : k < n). omega (arith, get_or-take n xs k 0 inside, all k))
    (λ (past : n ≤ k).
    let short : length (take n xs) ≤ k = omega (arith, length-take n xs) in
    omega (arith, get_or_past (take n xs) k 0 short))
    (cases_lt k n)

drop_below : (n : ℕ) (xs : List ℕ) → ((k : ℕ) → get_or xs k 0 < 256) → (k : ℕ) → get_or (drop n xs) k 0 < 256
drop_below n xs all k = omega (arith, get_or-drop n xs k 0, all (n + k))

-- What is sealed is octets.
pub sealed_rtcp_octets : (keys : KeyAndSalt) (index : ℕ) (plain : List ℕ) → IsSession keys → ((k : ℕ) → get_or plain k 0 < 256) → (k : ℕ)
    → get_or (sealed_rtcp keys index plain) k 0 < 256
unfolding sealed_rtcp
sealed_rtcp_octets keys index plain session octets =
    let v : List ℕ = rtcp_iv keys.salt (rtcp_ssrc plain) index in
    let s : List ℕ = sealed_text keys.key v (rtcp_aad index plain) (drop 8 plain) in
    let text = sealed_octets keys.key v (rtcp_aad index plain) (drop 8 plain) session.key (length-rtcp_iv keys.salt (rtcp_ssrc plain) index) (rtcp_iv_octets keys.salt (rtcp_ssrc plain) index session.salt_octets) (drop_below 8 plain octets) in
    below_append (take 8 plain ++ s) (rtcp_word index) (below_append (take 8 plain) s (take_below 8 plain octets) text) (number_below 4 (2 ^ 31 + index))
