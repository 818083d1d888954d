-- What wrapping begins with: its parts, and that it tells the plain text.
use Rattle.std.proofs.Common.{◌≡◌, ℕ, ◌+◌, ◌-◌, ◌/◌, ◌^◌, ◌<◌, ◌≤◌, List, [], ◌++◌, length, get_or, take, drop, replicate, refl, sym, ◌∙◌, ap, arith, append_assoc, length-append, length-drop}
use borrow.Rule.Slice.PartMut.{put_mid}
use Rattle.std.specs.Int.{w32, to_be_bytes, from_be_bytes}
use Rattle.std.proofs.lemmas.Nat.{from_be_bytes-to_be_bytes_4}
use Rattle.std.proofs.lemmas.List.{append-nil, drop_all, ext_get_or, get_or-take, get_or-drop, length-replicate, length-take-le, take_at, take_rest, drop_at, take-append-drop, drop-drop}
use Rattle.perc_keywrap.specs.Wrap.{padded_length, prepared}
use Rattle.perc_octets.specs.Octets.{AreOctets}
use Rattle.perc_octets.proofs.Octets.{AreOctets-append}
use Rattle.perc_keywrap.proofs.Octets.{octets-high_first, octets-zeros}
use Rattle.perc_keywrap.proofs.Steps.{AreRegisters}

abbrev pub constant : List ℕ
constant = to_be_bytes w32 0xa65959a6

abbrev pub padding : ℕ → List ℕ
padding n = replicate (padded_length n - n) 0

pub length-prepared : (p : List ℕ) → length (prepared p) ≡ 8 + padded_length (length p)
unfolding prepared
length-prepared p =
    let n = length p in
    omega (arith, length-append (constant ++ to_be_bytes w32 n ++ p) (padding n), length-append (constant ++ to_be_bytes w32 n) p, length-replicate {A = ℕ} (padded_length n - n) 0)

pub AreRegisters-prepared : (p : List ℕ) → AreOctets p → AreRegisters (prepared p) ((length p + 7) / 8)
unfolding prepared
AreRegisters-prepared p octets =
    let n = length p in
    record {
      size = length-prepared p;
      octets =
          AreOctets-append (constant ++ to_be_bytes w32 n ++ p) (padding n)
          (AreOctets-append (constant ++ to_be_bytes w32 n) p (AreOctets-append constant (to_be_bytes w32 n) (octets-high_first 4 0xa65959a6) (octets-high_first 4 n)) octets)
          (octets-zeros (padded_length n - n));
    }

-- the parts
pub prepared_constant : (p : List ℕ) → take 4 (prepared p) ≡ constant
unfolding prepared
prepared_constant p = refl

pub prepared_length : (p : List ℕ) → take 4 (drop 4 (prepared p)) ≡ to_be_bytes w32 (length p)
unfolding prepared
prepared_length p = refl

pub prepared_rest : (p : List ℕ) → drop 8 (prepared p) ≡ p ++ padding (length p)
unfolding prepared
prepared_rest p = refl

pub prepared_plain : (p : List ℕ) → take (length p) (drop 8 (prepared p)) ≡ p
prepared_plain p = ap (λ (x : List ℕ). take (length p) x) (prepared_rest p) ∙ take_at p (padding (length p)) (length p) refl

pub prepared_zeros : (p : List ℕ) → drop (8 + length p) (prepared p) ≡ padding (length p)
prepared_zeros p =
    sym (drop-drop (length p) 8 (prepared p))
    ∙ ap (λ (x : List ℕ). drop (length p) x) (prepared_rest p)
    ∙ drop_at p (padding (length p)) (length p) refl

-- the length that stands there is that of the plain text
pub same_length : (n m : ℕ) → n < 2 ^ 32 → m < 2 ^ 32 → to_be_bytes w32 n ≡ to_be_bytes w32 m → n ≡ m
same_length n m small_n small_m same =
    sym (from_be_bytes-to_be_bytes_4 n small_n) ∙ ap (λ (x : List ℕ). from_be_bytes w32 x) same ∙ from_be_bytes-to_be_bytes_4 m small_m

pub prepared_injective : (a b : List ℕ) → length a ≤ 4096 → length b ≤ 4096 → prepared a ≡ prepared b → a ≡ b
prepared_injective a b few_a few_b same =
    let lengths : length a ≡ length b =
    same_length (length a) (length b) (omega arith) (omega arith)
    (sym (prepared_length a) ∙ ap (λ (x : List ℕ). take 4 (drop 4 x)) same ∙ prepared_length b) in
    sym (prepared_plain a)
    ∙ ap (λ (x : List ℕ). take (length a) (drop 8 x)) same
    ∙ ap (λ (n : ℕ). take n (drop 8 (prepared b))) lengths
    ∙ prepared_plain b

-- Registers have the parts of what wrapping a plain text of n octets begins with.
pub record HasParts (s : List ℕ) (n : ℕ) : Type 0 where
  pub first : take 4 s ≡ constant
  pub second : take 4 (drop 4 s) ≡ to_be_bytes w32 n
  pub size : length s ≡ 8 + padded_length n
  pub zeros : drop (8 + n) s ≡ replicate (length s - (8 + n)) 0

-- then they are that
pub prepared_from : (s : List ℕ) (n : ℕ) → HasParts s n → prepared (take n (drop 8 s)) ≡ s
unfolding prepared
prepared_from s n parts =
    let size = parts.size in
    let p = take n (drop 8 s) in
    let long : length p ≡ n = length-take-le n (drop 8 s) (omega (arith, length-drop 8 s)) in
    let gap : padded_length n - n ≡ length s - (8 + n) = omega arith in
    ap (λ (m : ℕ). constant ++ to_be_bytes w32 m ++ p ++ replicate (padded_length m - m) 0) long
    ∙ ap (λ (m : ℕ). constant ++ to_be_bytes w32 n ++ p ++ replicate m 0) gap
    ∙ ap (λ (x : List ℕ). constant ++ to_be_bytes w32 n ++ p ++ x) (sym parts.zeros ∙ sym (drop-drop n 8 s))
    ∙ append_assoc (constant ++ to_be_bytes w32 n) p (drop n (drop 8 s))
    ∙ ap (λ (x : List ℕ). constant ++ to_be_bytes w32 n ++ x) (take-append-drop n (drop 8 s))
    ∙ append_assoc constant (to_be_bytes w32 n) (drop 8 s)
    ∙ ap (λ (x : List ℕ). constant ++ (x ++ drop 8 s)) (sym parts.second)
    ∙ ap (λ (x : List ℕ). constant ++ (take 4 (drop 4 s) ++ x)) (sym (drop-drop 4 4 s))
    ∙ ap (λ (x : List ℕ). constant ++ x) (take-append-drop 4 (drop 4 s))
    ∙ ap (λ (x : List ℕ). x ++ drop 4 s) (sym parts.first)
    ∙ take-append-drop 4 s

-- ---- what the bodies make

-- a write behind a
write_at : (a r y : List ℕ) (n k : ℕ) → length a ≡ n → put_mid n k (a ++ r) y ≡ a ++ (y ++ drop k r)
write_at a r y n k size =
    ap (λ (v : List ℕ). v ++ (y ++ drop k (drop n (a ++ r)))) (take_at a r n size)
    ∙ ap (λ (v : List ℕ). a ++ (y ++ drop k v)) (drop_at a r n size)

-- the writes of the constant, the length and the plain text
pub written : (o x y z : List ℕ) (n w : ℕ) → length x ≡ 4 → length y ≡ 4 → put_mid 8 w (put_mid 4 4 (x ++ drop 4 o) y) z ≡ x ++ y ++ z ++ drop w (drop 4 (drop 4 o))
written o x y z n w size_x size_y =
    let rest = drop 4 (drop 4 o) in
    ap (λ (v : List ℕ). put_mid 8 w v z) (write_at x (drop 4 o) y 4 4 size_x ∙ sym (append_assoc x y rest))
    ∙ write_at (x ++ y) rest z 8 w (omega (arith, length-append x y))
    ∙ sym (append_assoc (x ++ y) z (drop w rest))

pub length-written : (o x y z : List ℕ) (n w : ℕ) → length x ≡ 4 → length y ≡ 4 → length z ≡ n → w ≡ n → 8 + n ≤ length o → length (put_mid 8 w (put_mid 4 4 (x ++ drop 4 o) y) z) ≡ length o
length-written o x y z n w size_x size_y size_z width room =
    let rest = drop 4 (drop 4 o) in
    ap length (written o x y z n w size_x size_y)
    ∙ omega (arith, length-append (x ++ y ++ z) (drop w rest), length-append (x ++ y) z, length-append x y, length-drop w rest, length-drop 4 (drop 4 o), length-drop 4 o)

-- four parts, each the same
same_parts : (a a' b b' d d' e e' : List ℕ) → a ≡ a' → b ≡ b' → d ≡ d' → e ≡ e' → a ++ b ++ d ++ e ≡ a' ++ b' ++ d' ++ e'
same_parts a a' b b' d d' e e' is_a is_b is_d is_e = cc

-- The octets x, y, z and f are to be written over o for a plain text p: the third are w octets, and the last are m.
pub record AreWritten (p o x y z f : List ℕ) (w m : ℕ) : Type 0 where
  pub first : x ≡ constant
  pub second : y ≡ to_be_bytes w32 (length p)
  pub third : z ≡ p
  pub width : w ≡ length p
  pub gap : m ≡ length o - (8 + length p)
  pub zeros : f ≡ replicate m 0
  pub size : length o ≡ 8 + padded_length (length p)

-- and that of the zeros
pub prepared_made : (p o x y z f : List ℕ) (w m : ℕ) → AreWritten p o x y z f w m → put_mid (8 + length p) m (put_mid 8 w (put_mid 4 4 (x ++ drop 4 o) y) z) f ≡ prepared p
unfolding prepared
prepared_made p o x y z f w m are =
    let n = length p in
    let first = are.first in
    let second = are.second in
    let third = are.third in
    let width = are.width in
    let gap = are.gap in
    let size = are.size in
    let rest = drop w (drop 4 (drop 4 o)) in
    let size_x : length x ≡ 4 = ap length first in
    let size_y : length y ≡ 4 = ap length second in
    let size_z : length z ≡ n = ap length third in
    let pad : m ≡ padded_length n - n = omega arith in
    ap (λ (v : List ℕ). put_mid (8 + n) m v f) (written o x y z n w size_x size_y)
    ∙ write_at (x ++ y ++ z) rest f (8 + n) m (omega (arith, length-append (x ++ y) z, length-append x y))
    ∙ ap (λ (v : List ℕ). x ++ y ++ z ++ (f ++ v)) (drop_all m rest (omega (arith, length-drop w (drop 4 (drop 4 o)), length-drop 4 (drop 4 o), length-drop 4 o)))
    ∙ same_parts x constant y (to_be_bytes w32 n) z p (f ++ []) (padding n) first second third (append-nil f ∙ are.zeros ∙ ap (λ (k : ℕ). replicate k 0) pad)

-- the numbers that stand at the head of what wrapping a plain text begins with
pub record AreWords (s p : List ℕ) (first second : ℕ) : Type 0 where
  pub constant : first ≡ 0xa65959a6
  pub size : second ≡ length p
  pub whole : length s ≡ 8 + padded_length (length p)

-- These are the numbers in the first 8 octets.
pub record AreFirst (s : List ℕ) (first second : ℕ) : Type 0 where
  pub small_first : first < 2 ^ 32
  pub small_second : second < 2 ^ 32
  pub is_first : to_be_bytes w32 first ≡ take 4 s
  pub is_second : to_be_bytes w32 second ≡ take 4 (drop 4 s)

pub words_of : (s p : List ℕ) (first second : ℕ) → AreFirst s first second → length p ≤ 4096 → prepared p ≡ s → AreWords s p first second
words_of s p first second are few same = record {
  constant =
      same_length first 0xa65959a6 are.small_first (omega arith)
      (are.is_first ∙ sym (ap (λ (x : List ℕ). take 4 x) same) ∙ prepared_constant p);
  size =
      same_length second (length p) are.small_second (omega arith)
      (are.is_second ∙ sym (ap (λ (x : List ℕ). take 4 (drop 4 x)) same) ∙ prepared_length p);
  whole = sym (ap length same) ∙ length-prepared p;
}

-- what stands behind the plain text
pub zeros_of : (s p : List ℕ) (n : ℕ) → prepared p ≡ s → n ≡ length p → drop (8 + n) s ≡ replicate (length (drop (8 + n) s)) 0
zeros_of s p n same is =
    let k = padded_length (length p) - length p in
    let zeros : drop (8 + n) s ≡ replicate k 0 =
    ap (λ (m : ℕ). drop (8 + m) s) is ∙ sym (ap (λ (x : List ℕ). drop (8 + length p) x) same) ∙ prepared_zeros p in
    zeros ∙ ap (λ (m : ℕ). replicate m 0) (sym (ap length zeros ∙ length-replicate {A = ℕ} k 0))

-- what moving down leaves at the front
pub moved : (s u : List ℕ) (n : ℕ) → length u ≡ length s → n + 8 ≤ length s → ((j : ℕ) → j < n → get_or u j 0 ≡ get_or s (j + 8) 0) → take n u ≡ take n (drop 8 s)
moved s u n size room down =
    let long_u : length (take n u) ≡ n = length-take-le n u (omega arith) in
    let long_s : length (take n (drop 8 s)) ≡ n = length-take-le n (drop 8 s) (omega (arith, length-drop 8 s)) in
    ext_get_or 0 (take n u) (take n (drop 8 s)) (long_u ∙ sym long_s)
    (λ k inside.
    let below : k < n = omega arith in
    let place : k + 8 ≡ 8 + k = omega arith in
    get_or-take n u k 0 below ∙ down k below
    ∙ ap (λ (i : ℕ). get_or s i 0) place
    ∙ sym (get_or-take n (drop 8 s) k 0 below ∙ get_or-drop 8 s k 0))

-- the rest of a list as a range up to its length
pub rest_is_zeros : (s : List ℕ) (k : ℕ) → take (length s - k) (drop k s) ≡ replicate (length (take (length s - k) (drop k s))) 0 → drop k s ≡ replicate (length s - k) 0
rest_is_zeros s k zeros =
    sym (take_rest s k) ∙ zeros ∙ ap (λ (n : ℕ). replicate n 0) (ap length (take_rest s k) ∙ length-drop k s)

pub zeros_are_rest : (s : List ℕ) (k : ℕ) → drop k s ≡ replicate (length (drop k s)) 0 → take (length s - k) (drop k s) ≡ replicate (length (take (length s - k) (drop k s))) 0
zeros_are_rest s k zeros =
    take_rest s k ∙ zeros ∙ ap (λ (x : List ℕ). replicate (length x) 0) (sym (take_rest s k))
