-- The header that octets spell: what is read from a spelling is what was spelled, and what is read spells the octets.
use Rattle.std.proofs.Common.{◌≡◌, ℕ, zero, suc, ◌+◌, ◌*◌, ◌/◌, ◌%◌, ◌^◌, ◌<◌, ◌≤◌, Bool, true, false, not, cond, eqb, ltb, List, [], ◌∷◌, ◌++◌}
use Rattle.std.proofs.Common.{length, take, drop, get_or, Option, Some, None, Result, Ok, Err, refl, sym, ap, subst, ◌∙◌, append_assoc, arith}
use Rattle.std.specs.Prelude.{is_some, IfSome}
use Rattle.std.specs.List.{flat_map}
use Rattle.std.proofs.lemmas.Bool.{ltb-false, eqb-true, le-ltb, eq-eqb}
use Rattle.std.proofs.lemmas.List.{take_at, drop_at, drop-drop, take-append-drop, length-append, length-take-le, length-drop}
use Rattle.std.proofs.lemmas.List.Elements.{All-from_get_or}
use Rattle.byteorder.specs.Endian.{big_bytes, big_number}
use Rattle.byteorder.specs.Numbers.{big_number-reads_back}
use Rattle.perc_rtp.specs.declared.head.RtpHead.{RtpHead}
use Rattle.perc_rtp.specs.declared.head.RtpFault.{RtpFault}
use Rattle.perc_rtp.specs.declared.head.RtpFault.TheVariants.{Short, Version, Extension}
use Rattle.perc_rtp.specs.Header.{Header, bit, first_octet, second_octet, fixed_octets, extension_octets, spelling, IsOctet, IsExtension, IsHeader, IsPacket, version, cut_len, extension_end, head_of}
use Rattle.perc_rtp.specs.Reading.{numbers, has_extension, extension_at, header_at, head_at, cut_at, end_at}
use Rattle.perc_rtp.proofs.Writing.{fours_length, spelling-length}
use Rattle.perc_octets.specs.Octets.{AreOctets}
use Rattle.perc_octets.proofs.Octets.{AreOctets-drop, AreOctets-take}
use Rattle.perc_rtp.proofs.Octets.{two_spelled, four_spelled, numbers-length, numbers_spelled, numbers_again}

-- ---- single bits

bit-test : (n : ℕ) → n < 2 → bit (eqb n 1) ≡ n
bit-test zero h = refl
bit-test (suc zero) h = refl
bit-test (suc (suc n)) h = absurd (omega arith)

test-bit : (b : Bool) → eqb (bit b) 1 ≡ b
test-bit true = refl
test-bit false = refl

pub bit-le : (b : Bool) → bit b ≤ 1
bit-le true = omega arith
bit-le false = omega arith

is_some-cond : {A : Type 0} (b : Bool) (x : A) → is_some (cond b (Some x) None) ≡ b
is_some-cond true x = refl
is_some-cond false x = refl

-- ---- from octets to a header

-- one piece, and what follows it
piece : (n m : ℕ) (xs : List ℕ) → take m (drop n xs) ++ drop (n + m) xs ≡ drop n xs
piece n m xs = ap (λ (r : List ℕ). take m (drop n xs) ++ r) (sym (drop-drop m n xs)) ∙ take-append-drop m (drop n xs)

-- a piece that is spelled otherwise
joined : (b t ys zs xs : List ℕ) → b ≡ t → ys ≡ zs → t ++ zs ≡ xs → b ++ ys ≡ xs
joined b t ys zs xs e f g = ap (λ (r : List ℕ). r ++ ys) e ∙ ap (λ (r : List ℕ). t ++ r) f ∙ g

numbers_in : (xs : List ℕ) → 10 ≤ length xs → AreOctets xs
    → (big_bytes 2 (big_number 2 xs) ++ (big_bytes 4 (big_number 4 (drop 2 xs)) ++ (big_bytes 4 (big_number 4 (drop 6 xs)) ++ drop 10 xs)) ≡ xs)
    × (big_number 2 xs < 2 ^ 16) × (big_number 4 (drop 2 xs) < 2 ^ 32) × (big_number 4 (drop 6 xs) < 2 ^ 32)
numbers_in xs long fits =
    let a = two_spelled xs (omega arith) fits in
    let b = four_spelled (drop 2 xs) (omega (arith, length-drop 2 xs)) (AreOctets-drop 2 xs fits) in
    let c = four_spelled (drop 6 xs) (omega (arith, length-drop 6 xs)) (AreOctets-drop 6 xs fits) in (
      joined (big_bytes 2 (big_number 2 xs)) (take 2 xs) (big_bytes 4 (big_number 4 (drop 2 xs)) ++ (big_bytes 4 (big_number 4 (drop 6 xs)) ++ drop 10 xs)) (drop 2 xs) xs a.0
          (joined (big_bytes 4 (big_number 4 (drop 2 xs))) (take 4 (drop 2 xs)) (big_bytes 4 (big_number 4 (drop 6 xs)) ++ drop 10 xs) (drop 6 xs) (drop 2 xs) b.0
          (joined (big_bytes 4 (big_number 4 (drop 6 xs))) (take 4 (drop 6 xs)) (drop 10 xs) (drop 10 xs) (drop 6 xs) c.0 refl (piece 6 4 xs)) (piece 2 4 xs)) (take-append-drop 2 xs),
      a.1,
      b.1,
      c.1,
    )

-- the octets begin with an extension of n words, which stand at the front of r
abbrev BeginsWith : List ℕ → ℕ → List ℕ → Type 0
BeginsWith xs n r =
    (extension_octets (Some (big_number 2 xs, take (4 * n) r)) ++ drop (4 + 4 * n) xs ≡ xs)
    × IsExtension (big_number 2 xs, take (4 * n) r)
    × (length (extension_octets (Some (big_number 2 xs, take (4 * n) r))) ≡ 4 + 4 * n)

extension_in : (xs : List ℕ) (n : ℕ) → n ≡ big_number 2 (drop 2 xs) → 4 + 4 * n ≤ length xs → AreOctets xs → BeginsWith xs n (drop 4 xs)
extension_in xs n is long fits =
    let a = two_spelled xs (omega arith) fits in
    let b = two_spelled (drop 2 xs) (omega (arith, length-drop 2 xs)) (AreOctets-drop 2 xs fits) in
    let words : List ℕ = take (4 * n) (drop 4 xs) in
    let len : length words ≡ 4 * n = length-take-le (4 * n) (drop 4 xs) (omega (arith, length-drop 4 xs)) in
    let count : length words / 4 ≡ n = omega arith in
    let b' : big_bytes 2 (length words / 4) ≡ take 2 (drop 2 xs) = ap (big_bytes 2) (count ∙ is) ∙ b.0 in
    let whole : (big_bytes 2 (big_number 2 xs) ++ big_bytes 2 (length words / 4) ++ words) ++ drop (4 + 4 * n) xs ≡ xs =
    append_assoc (big_bytes 2 (big_number 2 xs) ++ big_bytes 2 (length words / 4)) words (drop (4 + 4 * n) xs)
    ∙ append_assoc (big_bytes 2 (big_number 2 xs)) (big_bytes 2 (length words / 4)) (words ++ drop (4 + 4 * n) xs)
    ∙ joined (big_bytes 2 (big_number 2 xs)) (take 2 xs) (big_bytes 2 (length words / 4) ++ (words ++ drop (4 + 4 * n) xs)) (drop 2 xs) xs a.0
    (joined (big_bytes 2 (length words / 4)) (take 2 (drop 2 xs)) (words ++ drop (4 + 4 * n) xs) (drop 4 xs) (drop 2 xs) b' (piece 4 (4 * n) xs) (piece 2 2 xs)) (take-append-drop 2 xs) in (
      whole,
      record {
        profile = a.1;
        whole = omega arith;
        words = omega arith;
        octets = All-from_get_or IsOctet words 0 (λ i lt. AreOctets-take (4 * n) (drop 4 xs) (AreOctets-drop 4 xs fits) i);
      },
      omega (arith, len),
    )

-- the tests that a packet passed
pub record Passes (packet : List ℕ) (len : ℕ) : Type 0 where
  pub fixed : 12 ≤ length packet
  pub two : version packet ≡ 2
  pub csrcs : cut_len packet ≤ length packet
  pub end : end_at packet ≡ Ok len

fixed_in : (packet : List ℕ) → 12 ≤ length packet → version packet ≡ 2 → AreOctets packet
    → fixed_octets (header_at packet) ++ drop 12 packet ≡ packet
unfolding header_at
fixed_in [] long two fits = absurd (omega arith)
fixed_in (a ∷ []) long two fits = absurd (omega arith)
fixed_in (a ∷ b ∷ xs) long two fits =
    let h = header_at (a ∷ b ∷ xs) in
    let fa : a < 256 = fits 0 in
    let fb : b < 256 = fits 1 in
    let v : a / 64 ≡ 2 = two in
    let p : bit (eqb (a / 32 % 2) 1) ≡ a / 32 % 2 = bit-test (a / 32 % 2) (omega arith) in
    let x : bit (is_some h.extension) ≡ a / 16 % 2 = ap bit (is_some-cond (has_extension (a ∷ b ∷ xs)) (extension_at (a ∷ b ∷ xs))) ∙ bit-test (a / 16 % 2) (omega arith) in
    let m : bit (eqb (b / 128 % 2) 1) ≡ b / 128 % 2 = bit-test (b / 128 % 2) (omega arith) in
    let n : length (numbers (a % 16) (drop 10 xs)) ≡ a % 16 = numbers-length (a % 16) (drop 10 xs) in
    let first : first_octet h ≡ a = omega (arith, p, x, n) in
    let second : second_octet h ≡ b = omega (arith, m) in
    let rest = (numbers_in xs (omega arith) (λ i. fits (suc (suc i)))).0 in
    rw (first, second) (ap (λ (r : List ℕ). a ∷ b ∷ r) rest)

two_tests : (a b : Bool) (n len : ℕ) → cond a (Err Extension) (cond b (Err Extension) (Ok n)) ≡ Ok len → (b ≡ false) × (n ≡ len)
two_tests true b n len e = cc
two_tests false true n len e = cc
two_tests false false n len e = (refl, cc)

same_ok : (n len : ℕ) → ◌≡◌ {A = Result ℕ RtpFault} (Ok n) (Ok len) → n ≡ len
same_ok n len e = cc

-- the end of the header by the bit X, by the ends of the CSRCs and of the extension, and by how many octets there are
abbrev end_by : Bool → ℕ → ℕ → ℕ → Result ℕ RtpFault
end_by b cut end total = cond (not b) (Ok cut) (cond (ltb total (cut + 4)) (Err Extension) (cond (ltb total end) (Err Extension) (Ok end)))

-- what follows the CSRCs
extension_part : (b : Bool) (packet : List ℕ) (len : ℕ) → AreOctets packet → cut_len packet ≤ length packet
    → end_by b (cut_len packet) (extension_end packet) (length packet) ≡ Ok len
    → (extension_octets (cond b (Some (extension_at packet)) None) ++ drop len packet ≡ drop (cut_len packet) packet)
    × IfSome (cond b (Some (extension_at packet)) None) IsExtension
    × (cut_len packet + length (extension_octets (cond b (Some (extension_at packet)) None)) ≡ len)
extension_part false packet len fits cut end =
    let e : cut_len packet ≡ len = same_ok (cut_len packet) len end in
    (ap (λ (n : ℕ). drop n packet) (sym e), tt, omega arith)
extension_part true packet len fits cut end =
    let t = two_tests (ltb (length packet) (cut_len packet + 4)) (ltb (length packet) (extension_end packet)) (extension_end packet) len end in
    let within : extension_end packet ≤ length packet = ltb-false (length packet) (extension_end packet) t.0 in
    let n : ℕ = big_number 2 (drop (cut_len packet + 2) packet) in
    let q : List ℕ = drop (cut_len packet) packet in
    let is : n ≡ big_number 2 (drop 2 q) = ap (big_number 2) (sym (drop-drop 2 (cut_len packet) packet)) in
    let x = extension_in q n is (omega (arith, length-drop (cut_len packet) packet)) (AreOctets-drop (cut_len packet) packet fits) in
    let y = subst (BeginsWith q n) (drop-drop 4 (cut_len packet) packet) x in
    let offset : cut_len packet + (4 + 4 * n) ≡ len = omega (arith, t.1) in
    let last : drop (4 + 4 * n) q ≡ drop len packet = drop-drop (4 + 4 * n) (cut_len packet) packet ∙ ap (λ (k : ℕ). drop k packet) offset in (
      ap (λ (r : List ℕ). extension_octets (Some (extension_at packet)) ++ r) (sym last) ∙ y.0,
      y.1,
      omega (arith, y.2),
    )

-- octets that pass the tests are the spelling of the header that is read from them, and a rest
pub packet_in : (packet : List ℕ) (len : ℕ) → AreOctets packet → Passes packet len
    → IsPacket (header_at packet) (drop len packet) packet × (length (spelling (header_at packet)) ≡ len)
unfolding header_at spelling
packet_in packet len fits t =
    let n : ℕ = get_or packet 0 0 % 16 in
    let h : Header = header_at packet in
    let x = extension_part (has_extension packet) packet len fits t.csrcs t.end in
    let c = numbers_spelled n (drop 12 packet) (omega (arith, length-drop 12 packet, t.csrcs)) (AreOctets-drop 12 packet fits) in
    let count = numbers-length n (drop 12 packet) in
    let f = fixed_in packet t.fixed t.two fits in
    let fixed : List ℕ = fixed_octets h in
    let csrcs : List ℕ = flat_map (big_bytes 4) (numbers n (drop 12 packet)) in
    let extension : List ℕ = extension_octets (cond (has_extension packet) (Some (extension_at packet)) None) in
    let whole : ((fixed ++ csrcs) ++ extension) ++ drop len packet ≡ packet =
    append_assoc (fixed ++ csrcs) extension (drop len packet)
    ∙ ap (λ (r : List ℕ). (fixed ++ csrcs) ++ r) x.0
    ∙ append_assoc fixed csrcs (drop (cut_len packet) packet)
    ∙ ap (λ (r : List ℕ). fixed ++ (csrcs ++ r)) (sym (drop-drop (4 * n) 12 packet))
    ∙ ap (λ (r : List ℕ). fixed ++ r) c.0
    ∙ f in (
      record {
        header = record {
          pt = omega arith;
          seq = (two_spelled (drop 2 packet) (omega (arith, length-drop 2 packet, t.fixed)) (AreOctets-drop 2 packet fits)).1;
          timestamp = (four_spelled (drop 4 packet) (omega (arith, length-drop 4 packet, t.fixed)) (AreOctets-drop 4 packet fits)).1;
          ssrc = (four_spelled (drop 8 packet) (omega (arith, length-drop 8 packet, t.fixed)) (AreOctets-drop 8 packet fits)).1;
          csrc_count = omega (arith, count);
          csrcs = c.1;
          extension = x.1;
        };
        octets = sym whole;
      },
      spelling-length h ∙ omega (arith, count, x.2),
    )

-- ---- from a header to octets

both_left : {A : Type 0} (P Q : A → Type 0) (o : Option A) → IfSome o (λ x. P x × Q x) → IfSome o P
both_left P Q None h = tt
both_left P Q (Some x) h = h.0

both_right : {A : Type 0} (P Q : A → Type 0) (o : Option A) → IfSome o (λ x. P x × Q x) → IfSome o Q
both_right P Q None h = tt
both_right P Q (Some x) h = h.1

some_or_none : {A : Type 0} (o : Option A) (b : Bool) (e : A) → b ≡ is_some o → IfSome o (λ x. e ≡ x) → cond b (Some e) None ≡ o
some_or_none None b e h g = rw h refl
some_or_none (Some x) b e h g = rw h (ap Some g)

same_pair : (a b : ℕ) (x y : List ℕ) → a ≡ b → x ≡ y → ◌≡◌ {A = ℕ × List ℕ} (a, x) (b, y)
same_pair a b x y e f = λ i. (e i, f i)

extension_again : (o : Option (ℕ × List ℕ)) (rest xs q r : List ℕ) → IfSome o IsExtension → xs ≡ extension_octets o ++ rest → q ≡ drop 2 xs → r ≡ drop 4 xs
    → IfSome o (λ e. ((big_number 2 xs, take (4 * big_number 2 q) r) ≡ e) × (big_number 2 q ≡ length e.1 / 4))
extension_again None rest xs q r fits is is_q is_r = tt
extension_again (Some e) rest xs q r fits is is_q is_r =
    let n : ℕ = length e.1 / 4 in
    let all : xs ≡ big_bytes 2 e.0 ++ (big_bytes 2 n ++ (e.1 ++ rest)) = is ∙ append_assoc (big_bytes 2 e.0 ++ big_bytes 2 n) e.1 rest ∙ append_assoc (big_bytes 2 e.0) (big_bytes 2 n) (e.1 ++ rest) in
    let profile : big_number 2 xs ≡ e.0 = ap (big_number 2) all ∙ big_number-reads_back 2 e.0 (big_bytes 2 n ++ (e.1 ++ rest)) (omega (arith, fits.profile)) in
    let count : big_number 2 q ≡ n = ap (big_number 2) (is_q ∙ ap (drop 2) all) ∙ big_number-reads_back 2 n (e.1 ++ rest) (omega (arith, fits.words)) in
    let four : 4 * n ≡ length e.1 = omega (arith, fits.whole) in
    let behind : r ≡ e.1 ++ rest = is_r ∙ ap (drop 4) all in
    let at_count : take (4 * big_number 2 q) r ≡ take (4 * n) r = ap (λ (k : ℕ). take (4 * k) r) count in
    let words : take (4 * big_number 2 q) r ≡ e.1 = at_count ∙ ap (take (4 * n)) behind ∙ take_at e.1 rest (4 * n) (sym four) in
    (same_pair (big_number 2 xs) e.0 (take (4 * big_number 2 q) r) e.1 profile words, count)

end_again : (o : Option (ℕ × List ℕ)) (b : Bool) (cut n total : ℕ) → b ≡ is_some o → IfSome o IsExtension → cut + length (extension_octets o) ≤ total
    → IfSome o (λ e. n ≡ length e.1 / 4)
    → end_by b cut (cut + 4 + 4 * n) total ≡ Ok (cut + length (extension_octets o))
end_again None b cut n total h fits within is = rw h (ap Ok (omega arith))
end_again (Some e) b cut n total h fits within is =
    let four : 4 * n ≡ length e.1 = omega (arith, fits.whole, is) in
    let end : cut + 4 + 4 * n ≡ cut + length (extension_octets (Some e)) = omega (arith, four) in
    let first : ltb total (cut + 4) ≡ false = le-ltb total (cut + 4) (omega arith) in
    let second : ltb total (cut + 4 + 4 * n) ≡ false = le-ltb total (cut + 4 + 4 * n) (omega arith) in
    rw (h, first, second) (ap Ok end)

record SameFields (g h : Header) : Type 0 where
  padding : g.padding ≡ h.padding
  marker : g.marker ≡ h.marker
  pt : g.pt ≡ h.pt
  seq : g.seq ≡ h.seq
  timestamp : g.timestamp ≡ h.timestamp
  ssrc : g.ssrc ≡ h.ssrc
  csrcs : g.csrcs ≡ h.csrcs
  extension : g.extension ≡ h.extension

same_header : (g h : Header) → SameFields g h → g ≡ h
same_header g h s = λ i. record {
  padding = s.padding i;
  marker = s.marker i;
  pt = s.pt i;
  seq = s.seq i;
  timestamp = s.timestamp i;
  ssrc = s.ssrc i;
  csrcs = s.csrcs i;
  extension = s.extension i;
}

spelled_again : (h : Header) (rest : List ℕ) → IsHeader h → let packet = fixed_octets h ++ (flat_map (big_bytes 4) h.csrcs ++ (extension_octets h.extension ++ rest)) in
    Passes packet (12 + 4 * length h.csrcs + length (extension_octets h.extension)) × (header_at packet ≡ h)
unfolding header_at
spelled_again h rest is =
    let csrcs : List ℕ = flat_map (big_bytes 4) h.csrcs in
    let extension : List ℕ = extension_octets h.extension in
    let packet : List ℕ = fixed_octets h ++ (csrcs ++ (extension ++ rest)) in
    let bp = bit-le h.padding in
    let bx = bit-le (is_some h.extension) in
    let bm = bit-le h.marker in
    let count = is.csrc_count in
    let pt = is.pt in
    let v : first_octet h / 64 ≡ 2 = omega arith in
    let p : first_octet h / 32 % 2 ≡ bit h.padding = omega arith in
    let x : first_octet h / 16 % 2 ≡ bit (is_some h.extension) = omega arith in
    let n : first_octet h % 16 ≡ length h.csrcs = omega arith in
    let m : second_octet h / 128 % 2 ≡ bit h.marker = omega arith in
    let t : second_octet h % 128 ≡ h.pt = omega arith in
    let fours = fours_length h.csrcs in
    let total : length packet ≡ 12 + 4 * length h.csrcs + length extension + length rest = omega (arith, length-append csrcs (extension ++ rest), length-append extension rest, fours) in
    let cut : cut_len packet ≡ 12 + 4 * length h.csrcs = omega (arith, n) in
    let end : ℕ = 12 + 4 * length h.csrcs in
    let front : length (fixed_octets h ++ csrcs) ≡ end = omega (arith, length-append (fixed_octets h) csrcs, fours) in
    let after : drop end packet ≡ extension ++ rest =
    ap (drop end) (sym (append_assoc (fixed_octets h) csrcs (extension ++ rest))) ∙ drop_at (fixed_octets h ++ csrcs) (extension ++ rest) end front in
    let q0 : drop (cut_len packet) packet ≡ extension ++ rest = ap (λ (k : ℕ). drop k packet) cut ∙ after in
    let q2 = sym (drop-drop 2 (cut_len packet) packet) in
    let q4 = sym (drop-drop 4 (cut_len packet) packet) in
    let e = extension_again h.extension rest (drop (cut_len packet) packet) (drop (cut_len packet + 2) packet) (drop (cut_len packet + 4) packet) is.extension q0 q2 q4 in
    let has : has_extension packet ≡ is_some h.extension = ap (λ (k : ℕ). eqb k 1) x ∙ test-bit (is_some h.extension) in
    let n_words : ℕ = big_number 2 (drop (cut_len packet + 2) packet) in
    let is_read = λ (x : ℕ × List ℕ). extension_at packet ≡ x in
    let is_counted = λ (x : ℕ × List ℕ). n_words ≡ length x.1 / 4 in
    let read = some_or_none h.extension (has_extension packet) (extension_at packet) has (both_left is_read is_counted h.extension e) in
    let words = both_right is_read is_counted h.extension e in
    let ends = end_again h.extension (has_extension packet) (cut_len packet) n_words (length packet) has is.extension (omega (arith, total, cut)) words in (
      record {
        fixed = omega (arith, total);
        two = v;
        csrcs = omega (arith, total, cut);
        end = ends ∙ ap (λ (k : ℕ). Ok (k + length extension)) cut;
      },
      same_header (header_at packet) h
          (record {
            padding = ap (λ (k : ℕ). eqb k 1) p ∙ test-bit h.padding;
            marker = ap (λ (k : ℕ). eqb k 1) m ∙ test-bit h.marker;
            pt = t;
            seq = big_number-reads_back 2 h.seq (big_bytes 4 h.timestamp ++ (big_bytes 4 h.ssrc ++ (csrcs ++ (extension ++ rest)))) (omega (arith, is.seq));
            timestamp = big_number-reads_back 4 h.timestamp (big_bytes 4 h.ssrc ++ (csrcs ++ (extension ++ rest))) (omega (arith, is.timestamp));
            ssrc = big_number-reads_back 4 h.ssrc (csrcs ++ (extension ++ rest)) (omega (arith, is.ssrc));
            csrcs = ap (λ (k : ℕ). numbers k (csrcs ++ (extension ++ rest))) n ∙ numbers_again h.csrcs (extension ++ rest) is.csrcs;
            extension = read;
          }),
    )

-- The octets pass the tests, and are read as this header.
abbrev IsReadAs : Header → List ℕ → ℕ → Type 0
IsReadAs h packet len = Passes packet len × (header_at packet ≡ h)

pub packet_again : (h : Header) (rest packet : List ℕ) → IsPacket h rest packet → Passes packet (length (spelling h)) × (header_at packet ≡ h)
unfolding spelling
packet_again h rest packet is =
    let csrcs : List ℕ = flat_map (big_bytes 4) h.csrcs in
    let extension : List ℕ = extension_octets h.extension in
    let grouped : List ℕ = fixed_octets h ++ (csrcs ++ (extension ++ rest)) in
    let regrouped : packet ≡ grouped = is.octets ∙ append_assoc (fixed_octets h ++ csrcs) extension rest ∙ append_assoc (fixed_octets h) csrcs (extension ++ rest) in
    let at_len = subst (λ (k : ℕ). IsReadAs h grouped k) (sym (spelling-length h)) (spelled_again h rest is.header) in
    subst (λ (xs : List ℕ). IsReadAs h xs (length (spelling h))) (sym regrouped) at_len

-- ---- what a reader tells

record SameHead (a b : RtpHead) : Type 0 where
  padding : a.padding ≡ b.padding
  extension : a.extension ≡ b.extension
  csrcs : a.csrcs ≡ b.csrcs
  marker : a.marker ≡ b.marker
  pt : a.pt ≡ b.pt
  seq : a.seq ≡ b.seq
  timestamp : a.timestamp ≡ b.timestamp
  ssrc : a.ssrc ≡ b.ssrc
  cut : a.cut ≡ b.cut
  len : a.len ≡ b.len

same_head : (a b : RtpHead) → SameHead a b → a ≡ b
same_head a b s = λ i. record {
  padding = s.padding i;
  extension = s.extension i;
  csrcs = s.csrcs i;
  marker = s.marker i;
  pt = s.pt i;
  seq = s.seq i;
  timestamp = s.timestamp i;
  ssrc = s.ssrc i;
  cut = s.cut i;
  len = s.len i;
}

pub head_is : (packet : List ℕ) (len : ℕ) → length (spelling (header_at packet)) ≡ len → head_at packet len ≡ head_of (header_at packet)
unfolding header_at
head_is packet len e =
    let count = sym (numbers-length (get_or packet 0 0 % 16) (drop 12 packet)) in
    same_head (head_at packet len) (head_of (header_at packet))
    (record {
      padding = refl;
      extension = sym (is_some-cond (has_extension packet) (extension_at packet));
      csrcs = count;
      marker = refl;
      pt = refl;
      seq = refl;
      timestamp = refl;
      ssrc = refl;
      cut = ap (λ (k : ℕ). 12 + 4 * k) count;
      len = sym e;
    })

three_tests : (a b c : Bool) (n m : ℕ) → cond a (Err Short) (cond (not b) (Err Version) (cond c (Err Short) (Ok n))) ≡ Ok m → (a ≡ false) × (b ≡ true) × (c ≡ false)
three_tests true b c n m e = cc
three_tests false false c n m e = cc
three_tests false true true n m e = cc
three_tests false true false n m e = (refl, refl, refl)

pub cut_passes : (packet : List ℕ) (cut len : ℕ) → cut_at packet ≡ Ok cut → end_at packet ≡ Ok len → Passes packet len
cut_passes packet cut len e f =
    let t = three_tests (ltb (length packet) 12) (eqb (version packet) 2) (ltb (length packet) (cut_len packet)) (cut_len packet) cut e in
    record { fixed = ltb-false _ _ t.0; two = eqb-true _ _ t.1; csrcs = ltb-false _ _ t.2; end = f }

pub passes_cut : (packet : List ℕ) (len : ℕ) → Passes packet len → cut_at packet ≡ Ok (cut_len packet)
passes_cut packet len t =
    let a : ltb (length packet) 12 ≡ false = le-ltb _ _ t.fixed in
    let b : eqb (version packet) 2 ≡ true = eq-eqb _ _ t.two in
    let c : ltb (length packet) (cut_len packet) ≡ false = le-ltb _ _ t.csrcs in
    rw (a, b, c) refl

-- two readings of one packet
pub same_len : (packet : List ℕ) (a b : ℕ) → end_at packet ≡ Ok a → end_at packet ≡ Ok b → a ≡ b
same_len packet a b e f = same_ok a b (sym e ∙ f)
