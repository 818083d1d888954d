-- Octets that are written one part after the other.
use Rattle.std.proofs.Common.{◌≡◌, ℕ, None, zero, suc, replicate, ◌+◌, ◌-◌, ◌*◌, ◌<◌, ◌≤◌, List, [], ◌∷◌, ◌++◌, length, take, drop, get_or, set, refl, sym, ap, ◌∙◌, append_assoc, arith}
use Rattle.std.specs.List.{flat_map}
use Rattle.std.proofs.lemmas.List.{append-nil, take_at, drop_at, take_rest, drop_all, drop_more, drop-drop, set_at, take_more, length-append, length-drop, length-take-le, length-replicate}
use Rattle.std.proofs.lemmas.Grind.{flat_map-append}
use Rattle.std.proofs.lemmas.Bool.Decides.{nat_tests}
use borrow.Rule.Slice.PartMut.{put_mid, mid_of}
use Rattle.byteorder.specs.Endian.{big_bytes}
use Rattle.perc_rtp.specs.Header.{Header, fixed_octets, extension_octets, spelling}
use Rattle.perc_rtp.specs.Media.{Content, longest_payload, media_fault, padding_octets}

-- Behind what was written, one part more was written to the front of the rest.
pub written_more : (w b old new part : List ℕ) (n k : ℕ) → length w ≡ n → length b ≡ k → n + k ≤ length old → new ≡ w ++ drop n old
    → part ≡ b ++ drop k (mid_of n (length new - n) new) → put_mid n (length new - n) new part ≡ (w ++ b) ++ drop (n + k) old
written_more w b old new part n k lw lb fits is_new is_part =
    let rest : drop n new ≡ drop n old = ap (drop n) is_new ∙ drop_at w (drop n old) n lw in
    let front : take n new ≡ w = ap (take n) is_new ∙ take_at w (drop n old) n lw in
    let mid : take (length new - n) (drop n new) ≡ drop n old = take_rest new n ∙ rest in
    let behind : drop (length new - n) (drop n new) ≡ [] = drop_all (length new - n) (drop n new) (omega (arith, length-drop n new)) in
    let whole : part ≡ b ++ drop (n + k) old = is_part ∙ ap (λ (r : List ℕ). b ++ drop k r) mid ∙ ap (λ (r : List ℕ). b ++ r) (drop-drop k n old) in
    ap (λ (r : List ℕ). take n new ++ (part ++ r)) behind
    ∙ ap (λ (r : List ℕ). take n new ++ r) (append-nil part ∙ whole)
    ∙ ap (λ (r : List ℕ). r ++ (b ++ drop (n + k) old)) front
    ∙ sym (append_assoc w b (drop (n + k) old))

-- four octets for each number
pub fours_length : (xs : List ℕ) → length (flat_map (big_bytes 4) xs) ≡ 4 * length xs
fours_length [] = refl
fours_length (x ∷ xs) = omega (arith, fours_length xs)

-- one number more was written
pub fours_more : (xs old new part : List ℕ) (i x : ℕ) → i < length xs → x ≡ get_or xs i 0 → 4 * length xs ≤ length old
    → new ≡ flat_map (big_bytes 4) (take i xs) ++ drop (4 * i) old
    → part ≡ big_bytes 4 x ++ drop 4 (mid_of (4 * i) (length new - 4 * i) new)
    → put_mid (4 * i) (length new - 4 * i) new part ≡ flat_map (big_bytes 4) (take (i + 1) xs) ++ drop (4 * (i + 1)) old
fours_more xs old new part i x lt is_x fits is_new is_part =
    let w : List ℕ = flat_map (big_bytes 4) (take i xs) in
    let lw : length w ≡ 4 * i = fours_length (take i xs) ∙ ap (λ (n : ℕ). 4 * n) (length-take-le i xs (omega arith)) in
    let more = written_more w (big_bytes 4 x) old new part (4 * i) 4 lw refl (omega arith) is_new is_part in
    let one : w ++ big_bytes 4 x ≡ flat_map (big_bytes 4) (take (i + 1) xs) =
    ap (λ (r : List ℕ). w ++ r) (ap (big_bytes 4) is_x ∙ sym (append-nil (big_bytes 4 (get_or xs i 0))))
    ∙ sym (flat_map-append (big_bytes 4) (take i xs) (get_or xs i 0 ∷ []))
    ∙ ap (flat_map (big_bytes 4)) (sym (take_more xs i 0 lt)) in
    let offset : 4 * i + 4 ≡ 4 * (i + 1) = omega arith in
    more ∙ ap (λ (r : List ℕ). r ++ drop (4 * i + 4) old) one ∙ ap (λ (n : ℕ). flat_map (big_bytes 4) (take (i + 1) xs) ++ drop n old) offset

pub padding-length : (n : ℕ) → length (padding_octets n) ≡ n
padding-length zero = refl
padding-length (suc n) = length-append (replicate n 0) (suc n ∷ []) ∙ omega (arith, length-replicate {A = ℕ} n 0)

pub spelling-length : (h : Header) → length (spelling h) ≡ 12 + 4 * length h.csrcs + length (extension_octets h.extension)
unfolding spelling
spelling-length h =
    let csrcs : List ℕ = flat_map (big_bytes 4) h.csrcs in
    length-append (fixed_octets h ++ csrcs) (extension_octets h.extension)
    ∙ ap (λ (n : ℕ). n + length (extension_octets h.extension)) (length-append (fixed_octets h) csrcs ∙ ap (λ (n : ℕ). 12 + n) (fours_length h.csrcs))

-- a header, a payload and padding, written one after the other
pub parts_are : (h : Header) (payload padding : List ℕ)
    → (((fixed_octets h ++ flat_map (big_bytes 4) h.csrcs) ++ extension_octets h.extension) ++ payload) ++ padding ≡ spelling h ++ (payload ++ padding)
unfolding spelling
parts_are h payload padding = append_assoc (fixed_octets h ++ flat_map (big_bytes 4) h.csrcs ++ extension_octets h.extension) payload padding

-- what fits a packet without a fault
pub fits_without_fault : (c : Content) → media_fault c ≡ None → (length c.csrcs ≤ 15) × (length c.payload + c.pad ≤ longest_payload)
fits_without_fault c e = grind (arith, nat_tests)

-- zeros, and the count of the padding behind them, written to the front of a list
pub padding_put : (zeros out : List ℕ) (n pad : ℕ) → zeros ≡ replicate n 0 → pad ≡ suc n → pad ≤ length out → set (zeros ++ drop n out) n pad ≡ padding_octets pad ++ drop pad out
padding_put zeros out n pad zeros_is pad_is fits =
    let next : drop n out ≡ get_or out n 0 ∷ drop (n + 1) out = drop_more out n 0 (omega arith) in
    let one : n + 1 ≡ suc n = omega arith in
    let rest : drop (n + 1) out ≡ drop (suc n) out = ap (λ (k : ℕ). drop k out) one in
    let front : zeros ++ drop n out ≡ replicate n 0 ++ (get_or out n 0 ∷ drop (suc n) out) = (λ i. zeros_is i ++ next i) ∙ ap (λ (xs : List ℕ). replicate n 0 ++ (get_or out n 0 ∷ xs)) rest in
    ap (λ (xs : List ℕ). set xs n pad) front
    ∙ set_at (replicate n 0) (get_or out n 0) (drop (suc n) out) pad n (length-replicate n 0)
    ∙ sym (append_assoc (replicate n 0) (pad ∷ []) (drop (suc n) out))
    ∙ (λ i. (replicate n 0 ++ pad_is i ∷ []) ++ drop (suc n) out)
    ∙ ap (λ (k : ℕ). padding_octets k ++ drop k out) (sym pad_is)
