-- Laws of sealed packets, of their IVs, and of the indices that they take.
use Rattle.std.proofs.Common.{◌≡◌, ℕ, zero, suc, ◌+◌, ◌/◌, ◌%◌, ◌^◌, ◌<◌, ◌≤◌, List, [], ◌∷◌, ◌++◌, length, drop, take, get_or, bit_xor, true, false, Some, None, Ok, ⊎_elim, refl, sym, ap, ◌∙◌, arith}
use Rattle.std.specs.Int.{byte_at}
use Rattle.std.specs.Int.Bits.{xor_assoc, xor_self, xor_zero_l}
use Rattle.std.proofs.lemmas.Bool.{cases_lt}
use Rattle.std.proofs.lemmas.Bool.Decides.{nat_tests}
use Rattle.std.proofs.lemmas.List.{drop_at, ext_get_or, get_or_past, length-append, take_at}
use Rattle.std.proofs.lemmas.Nat.{xor_lt}
use Rattle.std.proofs.lemmas.List.FromFn.{get_or-map-range_with_len, length-map-range_with_len}
use Rattle.byteorder.specs.Endian.{big_bytes, big_number}
use Rattle.byteorder.specs.Numbers.{big_number-reads_back}
use Rattle.perc_aes.specs.Cipher.{IsKey}
use Rattle.perc_gcm.specs.Gcm.{ciphertext, sealed_text, tag}
use Rattle.perc_gcm.proofs.GcmLaws.{iv_is_one, length-sealed_text, length-tag, none_opens, none_sealed, opens_as_sealed, sealed_as, sealed_injective as text_injective, sealed_octets, sealed_opens as text_opens}
use Rattle.perc_kdf.specs.Derivation.{IsSession, KeyAndSalt}
use Rattle.perc_rtp.specs.Header.{Header, IsHeader, spelling}
use Rattle.perc_rtp.proofs.HeaderLaws.{one_packet}
use Rattle.perc_window.specs.Index.{IsNearest, is_near, nearest}
use Rattle.perc_window.specs.Replay.{freshness, greatest, has}
use Rattle.perc_window.specs.declared.window.Freshness.TheVariants.{Fresh}
use Rattle.perc_window.proofs.IndexLaws.{fresh_has, freshness_above, freshness_first, nearest_first, nearest_is, nearest_some}
use Rattle.perc_srtp.specs.Sealed.{iv, rtcp_iv, salted, sealed, sealed_body, unsealed_body}
use Rattle.perc_srtp.specs.Streams.{rx_index, tx_index}

-- ---- indices

tx_fresh : (before : List ℕ) (seq index : ℕ) → tx_index before seq ≡ Ok index → freshness before index ≡ Fresh
tx_fresh before seq index is = grind (arith, nat_tests)

rx_fresh : (before : List ℕ) (seq index : ℕ) → rx_index before seq ≡ Ok index → freshness before index ≡ Fresh
rx_fresh before seq index is = grind (arith, nat_tests)

tx_nearest : (before : List ℕ) (seq index : ℕ) → tx_index before seq ≡ Ok index → nearest (greatest before) seq ≡ Some index
tx_nearest before seq index is = grind (arith, nat_tests)

rx_nearest : (before : List ℕ) (seq index : ℕ) → rx_index before seq ≡ Ok index → nearest (greatest before) seq ≡ Some index
rx_nearest before seq index is = grind (arith, nat_tests)

-- The index is the nearest to those before, with this sequence number and below 2^48.
pub tx_is_nearest : (before : List ℕ) (seq index : ℕ) → seq < 65536 → tx_index before seq ≡ Ok index → IsNearest (greatest before) seq index
tx_is_nearest before seq index fits is = nearest_some (greatest before) seq index fits (tx_nearest before seq index is)

pub rx_is_nearest : (before : List ℕ) (seq index : ℕ) → seq < 65536 → rx_index before seq ≡ Ok index → IsNearest (greatest before) seq index
rx_is_nearest before seq index fits is = nearest_some (greatest before) seq index fits (rx_nearest before seq index is)

-- An index at which a packet is sealed is none of those before,
pub tx_once : (before : List ℕ) (seq index : ℕ) → tx_index before seq ≡ Ok index → has before index ≡ false
tx_once before seq index is = fresh_has before index (tx_fresh before seq index is)

-- and so is one at which a packet is opened.
pub rx_once : (before : List ℕ) (seq index : ℕ) → rx_index before seq ≡ Ok index → has before index ≡ false
rx_once before seq index is = fresh_has before index (rx_fresh before seq index is)

-- ---- indices that rise by one

near_next : (h : ℕ) → is_near h (h + 1) ≡ true
near_next h = grind (arith, nat_tests)

-- The sequence number behind that of the highest index has the next index.
pub nearest_next : (h : ℕ) → h + 1 < 2 ^ 48 → nearest (Some h) ((h + 1) % 65536) ≡ Some (h + 1)
nearest_next h fits = nearest_is h ((h + 1) % 65536) (h + 1) refl (near_next h) fits

tx_at : (before : List ℕ) (seq index : ℕ) → nearest (greatest before) seq ≡ Some index → freshness before index ≡ Fresh → tx_index before seq ≡ Ok index
tx_at before seq index is fresh = rw is (rw fresh refl)

rx_at : (before : List ℕ) (seq index : ℕ) → nearest (greatest before) seq ≡ Some index → freshness before index ≡ Fresh → rx_index before seq ≡ Ok index
rx_at before seq index is fresh = rw is (rw fresh refl)

nearest_behind : (before : List ℕ) (h : ℕ) → greatest before ≡ Some h → h + 1 < 2 ^ 48 → nearest (greatest before) ((h + 1) % 65536) ≡ Some (h + 1)
nearest_behind before h is fits = rw is (nearest_next h fits)

-- So a packet with that number is sealed and opened there.
pub tx_next : (before : List ℕ) (h : ℕ) → greatest before ≡ Some h → h + 1 < 2 ^ 48 → tx_index before ((h + 1) % 65536) ≡ Ok (h + 1)
tx_next before h is fits =
    tx_at before ((h + 1) % 65536) (h + 1) (nearest_behind before h is fits) (freshness_above before h (h + 1) is (omega arith))

pub rx_next : (before : List ℕ) (h : ℕ) → greatest before ≡ Some h → h + 1 < 2 ^ 48 → rx_index before ((h + 1) % 65536) ≡ Ok (h + 1)
rx_next before h is fits =
    rx_at before ((h + 1) % 65536) (h + 1) (nearest_behind before h is fits) (freshness_above before h (h + 1) is (omega arith))

-- The first packet has the index that its sequence number is.
pub tx_first : (seq : ℕ) → tx_index [] seq ≡ Ok seq
tx_first seq = tx_at [] seq seq (nearest_first seq) (freshness_first seq)

-- ---- IVs

-- what the salt is added to
abbrev unsalted_iv : ℕ → ℕ → List ℕ
unsalted_iv ssrc index = 0 ∷ 0 ∷ (big_bytes 4 ssrc ++ big_bytes 4 (index / 65536) ++ big_bytes 2 (index % 65536))

xor_twice : (s x : ℕ) → bit_xor s (bit_xor s x) ≡ x
xor_twice s x = sym (xor_assoc s s x) ∙ ap (λ (z : ℕ). bit_xor z x) (xor_self s) ∙ xor_zero_l x

salted_at : (salt octets : List ℕ) (k : ℕ) → k < 12 → get_or (salted salt octets) k 0 ≡ bit_xor (get_or salt k 0) (get_or octets k 0)
salted_at salt octets k inside =
    get_or-map-range_with_len (λ j. bit_xor (get_or salt j 0) (get_or octets j 0)) 0 12 k k 0 inside (omega arith)

length-salted : (salt octets : List ℕ) → length (salted salt octets) ≡ 12
length-salted salt octets = length-map-range_with_len (λ j. bit_xor (get_or salt j 0) (get_or octets j 0)) 0 12

-- To add the salt twice changes nothing.
salted_twice : (salt octets : List ℕ) → length octets ≡ 12 → salted salt (salted salt octets) ≡ octets
salted_twice salt octets long =
    let size = length-salted salt (salted salt octets) in
    ext_get_or 0 (salted salt (salted salt octets)) octets (size ∙ sym long)
    (λ k inside.
    salted_at salt (salted salt octets) k (omega arith)
    ∙ ap (λ (x : ℕ). bit_xor (get_or salt k 0) x) (salted_at salt octets k (omega arith))
    ∙ xor_twice (get_or salt k 0) (get_or octets k 0))

unsalted_ssrc : (ssrc index : ℕ) → ssrc < 2 ^ 32 → big_number 4 (drop 2 (unsalted_iv ssrc index)) ≡ ssrc
unsalted_ssrc ssrc index fits = big_number-reads_back 4 ssrc (big_bytes 4 (index / 65536) ++ big_bytes 2 (index % 65536)) fits

unsalted_roll_over : (ssrc index : ℕ) → index < 2 ^ 48 → big_number 4 (drop 6 (unsalted_iv ssrc index)) ≡ index / 65536
unsalted_roll_over ssrc index fits = big_number-reads_back 4 (index / 65536) (big_bytes 2 (index % 65536)) (omega arith)

unsalted_seq : (ssrc index : ℕ) → big_number 2 (drop 10 (unsalted_iv ssrc index)) ≡ index % 65536
unsalted_seq ssrc index = big_number-reads_back 2 (index % 65536) [] (omega arith)

-- Packets with other SSRCs or other indices have other IVs under a salt.
pub iv_injective : (salt : List ℕ) (ssrc other index next : ℕ) → ssrc < 2 ^ 32 → other < 2 ^ 32 → index < 2 ^ 48 → next < 2 ^ 48
    → iv salt ssrc index ≡ iv salt other next → (ssrc ≡ other) × (index ≡ next)
unfolding iv
iv_injective salt ssrc other index next fits_ssrc fits_other fits_index fits_next is =
    let same : unsalted_iv ssrc index ≡ unsalted_iv other next =
    sym (salted_twice salt (unsalted_iv ssrc index) refl) ∙ ap (salted salt) is ∙ salted_twice salt (unsalted_iv other next) refl in
    let roll_overs : index / 65536 ≡ next / 65536 =
    sym (unsalted_roll_over ssrc index fits_index) ∙ ap (λ (xs : List ℕ). big_number 4 (drop 6 xs)) same ∙ unsalted_roll_over other next fits_next in
    let seqs : index % 65536 ≡ next % 65536 =
    sym (unsalted_seq ssrc index) ∙ ap (λ (xs : List ℕ). big_number 2 (drop 10 xs)) same ∙ unsalted_seq other next in (
      sym (unsalted_ssrc ssrc index fits_ssrc) ∙ ap (λ (xs : List ℕ). big_number 4 (drop 2 xs)) same ∙ unsalted_ssrc other next fits_other,
      omega arith,
    )

-- the same of an RTCP packet
abbrev unsalted_rtcp_iv : ℕ → ℕ → List ℕ
unsalted_rtcp_iv ssrc index = 0 ∷ 0 ∷ (big_bytes 4 ssrc ++ 0 ∷ 0 ∷ big_bytes 4 index)

unsalted_rtcp_ssrc : (ssrc index : ℕ) → ssrc < 2 ^ 32 → big_number 4 (drop 2 (unsalted_rtcp_iv ssrc index)) ≡ ssrc
unsalted_rtcp_ssrc ssrc index fits = big_number-reads_back 4 ssrc (0 ∷ 0 ∷ big_bytes 4 index) fits

unsalted_rtcp_index : (ssrc index : ℕ) → index < 2 ^ 31 → big_number 4 (drop 8 (unsalted_rtcp_iv ssrc index)) ≡ index
unsalted_rtcp_index ssrc index fits = big_number-reads_back 4 index [] (omega arith)

-- RTCP packets with other SSRCs or other indices have other IVs under a salt.
pub rtcp_iv_injective : (salt : List ℕ) (ssrc other index next : ℕ) → ssrc < 2 ^ 32 → other < 2 ^ 32 → index < 2 ^ 31 → next < 2 ^ 31
    → rtcp_iv salt ssrc index ≡ rtcp_iv salt other next → (ssrc ≡ other) × (index ≡ next)
unfolding rtcp_iv
rtcp_iv_injective salt ssrc other index next fits_ssrc fits_other fits_index fits_next is =
    let same : unsalted_rtcp_iv ssrc index ≡ unsalted_rtcp_iv other next =
    sym (salted_twice salt (unsalted_rtcp_iv ssrc index) refl) ∙ ap (salted salt) is ∙ salted_twice salt (unsalted_rtcp_iv other next) refl in (
      sym (unsalted_rtcp_ssrc ssrc index fits_ssrc) ∙ ap (λ (xs : List ℕ). big_number 4 (drop 2 xs)) same ∙ unsalted_rtcp_ssrc other next fits_other,
      sym (unsalted_rtcp_index ssrc index fits_index) ∙ ap (λ (xs : List ℕ). big_number 4 (drop 8 xs)) same ∙ unsalted_rtcp_index other next fits_next,
    )

-- ---- octets

octet_below : (k n : ℕ) → byte_at k n < 256
octet_below zero n = omega arith
octet_below (suc k) n = omega arith

pub number_below : (n x k : ℕ) → get_or (big_bytes n x) k 0 < 256
number_below zero x k = omega arith
number_below (suc n) x zero = octet_below n x
number_below (suc n) x (suc k) = number_below n x k

pub below_append : (xs ys : List ℕ) → ((k : ℕ) → get_or xs k 0 < 256) → ((k : ℕ) → get_or ys k 0 < 256) → (k : ℕ) → get_or (xs ++ ys) k 0 < 256
below_append [] ys p q k = q k
below_append (x ∷ xs) ys p q zero = p 0
below_append (x ∷ xs) ys p q (suc k) = below_append xs ys (λ j. p (suc j)) q k

below_cons : (x : ℕ) (xs : List ℕ) → x < 256 → ((k : ℕ) → get_or xs k 0 < 256) → (k : ℕ) → get_or (x ∷ xs) k 0 < 256
below_cons x xs p q zero = p
below_cons x xs p q (suc k) = q k

salted_below : (salt octets : List ℕ) → ((k : ℕ) → get_or salt k 0 < 256) → ((k : ℕ) → get_or octets k 0 < 256) → (k : ℕ) → get_or (salted salt octets) k 0 < 256
salted_below salt octets p q k =
    ⊎_elim (λ (inside : k < 12).
    let e = salted_at salt octets k inside in
    let below : bit_xor (get_or salt k 0) (get_or octets k 0) < 2 ^ 8 = xor_lt 8 (get_or salt k 0) (get_or octets k 0) (p k) (q k) in
    omega arith)
    (λ (past : 12 ≤ k).
    let size = length-salted salt octets in
    omega (arith, get_or_past (salted salt octets) k 0 (omega arith)))
    (cases_lt k 12)

-- An IV is 12 octets.
pub length-iv : (salt : List ℕ) (ssrc index : ℕ) → length (iv salt ssrc index) ≡ 12
unfolding iv
length-iv salt ssrc index = length-salted salt (unsalted_iv ssrc index)

pub length-rtcp_iv : (salt : List ℕ) (ssrc index : ℕ) → length (rtcp_iv salt ssrc index) ≡ 12
unfolding rtcp_iv
length-rtcp_iv salt ssrc index = length-salted salt (unsalted_rtcp_iv ssrc index)

pub iv_octets : (salt : List ℕ) (ssrc index : ℕ) → ((k : ℕ) → get_or salt k 0 < 256) → (k : ℕ) → get_or (iv salt ssrc index) k 0 < 256
unfolding iv
iv_octets salt ssrc index p =
    let numbers : List ℕ = big_bytes 4 ssrc ++ big_bytes 4 (index / 65536) ++ big_bytes 2 (index % 65536) in
    let front = below_append (big_bytes 4 ssrc) (big_bytes 4 (index / 65536)) (number_below 4 ssrc) (number_below 4 (index / 65536)) in
    salted_below salt (unsalted_iv ssrc index) p
    (below_cons 0 (0 ∷ numbers) (omega arith) (below_cons 0 numbers (omega arith)
    (below_append (big_bytes 4 ssrc ++ big_bytes 4 (index / 65536)) (big_bytes 2 (index % 65536)) front (number_below 2 (index % 65536)))))

pub rtcp_iv_octets : (salt : List ℕ) (ssrc index : ℕ) → ((k : ℕ) → get_or salt k 0 < 256) → (k : ℕ) → get_or (rtcp_iv salt ssrc index) k 0 < 256
unfolding rtcp_iv
rtcp_iv_octets salt ssrc index p =
    let zeros = below_cons 0 (0 ∷ big_bytes 4 index) (omega arith) (below_cons 0 (big_bytes 4 index) (omega arith) (number_below 4 index)) in
    let numbers : List ℕ = big_bytes 4 ssrc ++ 0 ∷ 0 ∷ big_bytes 4 index in
    salted_below salt (unsalted_rtcp_iv ssrc index) p
    (below_cons 0 (0 ∷ numbers) (omega arith) (below_cons 0 numbers (omega arith)
    (below_append (big_bytes 4 ssrc) (0 ∷ 0 ∷ big_bytes 4 index) (number_below 4 ssrc) zeros)))

-- ---- bodies

-- What is unsealed is what was sealed,
pub unsealed_as_sealed : (keys : KeyAndSalt) (index : ℕ) (h : Header) (octets body : List ℕ) → unsealed_body keys index h octets ≡ Some body
    → octets ≡ sealed_body keys index h body
unfolding sealed_body unsealed_body
unsealed_as_sealed keys index h octets body found = opens_as_sealed keys.key (iv keys.salt h.ssrc index) (spelling h) octets body found

-- and what was sealed is unsealed.
pub sealed_opens : (keys : KeyAndSalt) (index : ℕ) (h : Header) (octets body : List ℕ) → octets ≡ sealed_body keys index h body
    → unsealed_body keys index h octets ≡ Some body
unfolding sealed_body unsealed_body
sealed_opens keys index h octets body is = text_opens keys.key (iv keys.salt h.ssrc index) (spelling h) octets body is

-- Where nothing is unsealed no body was sealed,
pub forged_body : (keys : KeyAndSalt) (index : ℕ) (h : Header) (octets : List ℕ) → unsealed_body keys index h octets ≡ None → (body : List ℕ)
    → octets ≡ sealed_body keys index h body → ⊥
unfolding sealed_body unsealed_body
forged_body keys index h octets none body is = none_sealed keys.key (iv keys.salt h.ssrc index) (spelling h) octets none body is

-- and the other way round.
pub forged_opens : (keys : KeyAndSalt) (index : ℕ) (h : Header) (octets : List ℕ) → ((body : List ℕ) → octets ≡ sealed_body keys index h body → ⊥)
    → unsealed_body keys index h octets ≡ None
unfolding sealed_body unsealed_body
forged_opens keys index h octets none = none_opens keys.key (iv keys.salt h.ssrc index) (spelling h) octets none

-- What is sealed is 16 octets longer than the body.
pub length-sealed_body : (keys : KeyAndSalt) (index : ℕ) (h : Header) (body : List ℕ) → length (sealed_body keys index h body) ≡ length body + 16
unfolding sealed_body
length-sealed_body keys index h body = length-sealed_text keys.key (iv keys.salt h.ssrc index) (spelling h) body

-- What is sealed is octets.
pub sealed_body_octets : (keys : KeyAndSalt) (index : ℕ) (h : Header) (body : List ℕ) → IsSession keys → ((k : ℕ) → get_or body k 0 < 256) → (k : ℕ)
    → get_or (sealed_body keys index h body) k 0 < 256
unfolding sealed_body
sealed_body_octets keys index h body session octets =
    sealed_octets keys.key (iv keys.salt h.ssrc index) (spelling h) body session.key (length-iv keys.salt h.ssrc index) (iv_octets keys.salt h.ssrc index session.salt_octets) octets

-- No two bodies are sealed to the same octets at an index, behind a header.
pub body_injective : (keys : KeyAndSalt) (index : ℕ) (h : Header) (a b : List ℕ) → sealed_body keys index h a ≡ sealed_body keys index h b → a ≡ b
unfolding sealed_body
body_injective keys index h a b same = text_injective keys.key (iv keys.salt h.ssrc index) (spelling h) a b same

-- ---- one index

-- lists that end in as many octets
same_parts : (a b s t : List ℕ) → a ++ s ≡ b ++ t → length s ≡ length t → (a ≡ b) × (s ≡ t)
same_parts a b s t is long =
    let n : ℕ = length a in
    let size : length b ≡ n = omega (arith, ap length is, length-append a s, length-append b t) in
    (sym (take_at a s n refl) ∙ ap (take n) is ∙ take_at b t n size, sym (drop_at a s n refl) ∙ ap (drop n) is ∙ drop_at b t n size)

-- What is sealed under a key, over one additional data, has one IV.
text_iv : (key v w aad a b : List ℕ) → IsKey key → length v ≡ 12 → length w ≡ 12 → ((k : ℕ) → get_or v k 0 < 256) → ((k : ℕ) → get_or w k 0 < 256)
    → sealed_text key v aad a ≡ sealed_text key w aad b → v ≡ w
text_iv key v w aad a b is v_size w_size v_octets w_octets same =
    let c : List ℕ = ciphertext key v a in
    let d : List ℕ = ciphertext key w b in
    let both : c ++ tag key v aad c ≡ d ++ tag key w aad d = sealed_as key v aad a c (tag key v aad c) refl refl ∙ same ∙ sym (sealed_as key w aad b d (tag key w aad d) refl refl) in
    let parts = same_parts c d (tag key v aad c) (tag key w aad d) both (length-tag key v aad c ∙ sym (length-tag key w aad d)) in
    iv_is_one key v w aad c is v_size w_size v_octets w_octets (parts.1 ∙ ap (tag key w aad) (sym parts.0))

-- So a sealed body tells its index.
pub body_index : (keys : KeyAndSalt) (i j : ℕ) (h : Header) (a b : List ℕ) → IsSession keys → h.ssrc < 2 ^ 32 → i < 2 ^ 48 → j < 2 ^ 48
    → sealed_body keys i h a ≡ sealed_body keys j h b → (i ≡ j) × (a ≡ b)
unfolding sealed_body
body_index keys i j h a b session ssrc fits_i fits_j same =
    let v : List ℕ = iv keys.salt h.ssrc i in
    let w : List ℕ = iv keys.salt h.ssrc j in
    let ivs : v ≡ w =
    text_iv keys.key v w (spelling h) a b session.key (length-iv keys.salt h.ssrc i) (length-iv keys.salt h.ssrc j)
    (iv_octets keys.salt h.ssrc i session.salt_octets) (iv_octets keys.salt h.ssrc j session.salt_octets) same in
    let indices = iv_injective keys.salt h.ssrc h.ssrc i j ssrc ssrc fits_i fits_j ivs in
    (indices.1, text_injective keys.key v (spelling h) a b (same ∙ ap (λ (z : List ℕ). sealed_text keys.key z (spelling h) b) (sym ivs)))

-- ---- packets

-- a sealed packet has one header and one rest
one_header : (keys : KeyAndSalt) (i j : ℕ) (h g : Header) (a b : List ℕ) → IsHeader h → IsHeader g → sealed keys i h a ≡ sealed keys j g b
    → (h ≡ g) × (sealed_body keys i h a ≡ sealed_body keys j h b)
one_header keys i j h g a b is_h is_g same =
    let one = one_packet h g (sealed_body keys i h a) (sealed_body keys j g b) (sealed keys i h a) (record { header = is_h; octets = refl }) (record { header = is_g; octets = same }) in
    (one.0, one.1 ∙ ap (λ (k : Header). sealed_body keys j k b) (sym one.0))

-- No two packets are sealed to the same octets at an index.
pub sealed_injective : (keys : KeyAndSalt) (index : ℕ) (h g : Header) (a b : List ℕ) → IsHeader h → IsHeader g
    → sealed keys index h a ≡ sealed keys index g b → (h ≡ g) × (a ≡ b)
sealed_injective keys index h g a b is_h is_g same =
    let one = one_header keys index index h g a b is_h is_g same in
    (one.0, body_injective keys index h a b one.1)

-- Nor are they at different indices.
pub one_index : (keys : KeyAndSalt) (i j : ℕ) (h g : Header) (a b : List ℕ) → IsSession keys → i < 2 ^ 48 → j < 2 ^ 48 → IsHeader h → IsHeader g
    → sealed keys i h a ≡ sealed keys j g b → (i ≡ j) × (h ≡ g) × (a ≡ b)
one_index keys i j h g a b session fits_i fits_j is_h is_g same =
    let one = one_header keys i j h g a b is_h is_g same in
    let body = body_index keys i j h a b session is_h.ssrc fits_i fits_j one.1 in
    (body.0, one.0, body.1)
