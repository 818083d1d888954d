-- Records of EKT keys: what is read of one, and that each is read.
use Rattle.std.proofs.Common.{◌≡◌, ℕ, ◌+◌, ◌-◌, ◌≤◌, ◌⊎◌, ◌&&◌, Bool, true, false, cond, eqb, Option, Some, None, subst, List, [], ◌++◌, length, take, drop, replicate, inl, inr, refl, sym, ap, ◌∙◌, append_assoc, arith}
use Rattle.std.proofs.lemmas.Bool.Decides.{nat_tests}
use Rattle.std.proofs.lemmas.List.{take_at, drop_at, drop_all, append-nil, drop-drop, length-append, length-drop, length-take-le, length-replicate, take-append-drop}
use Rattle.byteorder.specs.Endian.{big_bytes, big_number}
use Rattle.byteorder.specs.Numbers.{big_number-reads_back}
use Rattle.perc_base.specs.declared.profile.Profile.{Profile}
use Rattle.perc_base.specs.declared.profile.Profile.TheVariants.{Aes128, Aes256}
use Rattle.perc_base.specs.Profile.{key_length}
use Rattle.perc_ekt.specs.declared.record.EktKeyRecord.{EktKeyRecord}
use Rattle.perc_ekt.specs.Key.{stored}
use Rattle.perc_ekt.specs.Record.{IsRecord, has_lengths, record_at, record_octets, record_of}
use Rattle.perc_octets.specs.Octets.{AreOctets}
use Rattle.perc_octets.proofs.Octets.{AreOctets-drop}
use Rattle.perc_ekt.proofs.Octets.{two_spelled, three_spelled, piece, piece_as}

-- the parts of a record, from the front and from the back
regrouped : (l k n s p v : List ℕ) → ((((l ++ k) ++ n) ++ s) ++ p) ++ v ≡ l ++ (k ++ (n ++ (s ++ (p ++ v))))
regrouped l k n s p v = simp append_assoc

grouped : (l k n s p v : List ℕ) → ((l ++ k) ++ (n ++ s)) ++ (p ++ v) ≡ ((((l ++ k) ++ n) ++ s) ++ p) ++ v
grouped l k n s p v = simp append_assoc

later : (xs : List ℕ) (i k j : ℕ) → i + k ≡ j → drop j xs ≡ drop k (drop i xs)
later xs i k j e = ap (λ (m : ℕ). drop m xs) (sym e) ∙ sym (drop-drop k i xs)

behind_2 : (l k r : List ℕ) (i : ℕ) → length l + length k ≡ i → drop i (l ++ (k ++ r)) ≡ r
behind_2 l k r i e = ap (drop i) (sym (append_assoc l k r)) ∙ drop_at (l ++ k) r i (length-append l k ∙ e)

-- what stands where
pub record Parts (r : EktKeyRecord) (octets : List ℕ) : Type 0 where
  pub size : length octets ≡ r.len + 21
  pub len : big_number 2 octets ≡ r.len
  pub salt_len : big_number 2 (drop (r.len + 2) octets) ≡ 12
  pub is : record_at octets r.len ≡ r

same_record : (a b : EktKeyRecord) → a.key ≡ b.key → a.len ≡ b.len → a.salt ≡ b.salt → a.spi ≡ b.spi → a.life ≡ b.life → a ≡ b
same_record a b e f g h j = λ i. record { key = e i; len = f i; salt = g i; spi = h i; life = j i }

pub few_octets : (r : EktKeyRecord) → IsRecord r → r.len ≤ 32
few_octets r is = elim is.size [ inl e ↦ omega arith | inr e ↦ omega arith ]

-- the key of a right record
key_kept : (r : EktKeyRecord) → IsRecord r → (length (take r.len r.key) ≡ r.len) × (stored (take r.len r.key) ≡ r.key)
key_kept r is =
    let few = few_octets r is in
    let size : length (take r.len r.key) ≡ r.len = length-take-le r.len r.key (omega (arith, is.room)) in
    let zeros : replicate (32 - length (take r.len r.key)) 0 ≡ drop r.len r.key = ap (λ (n : ℕ). replicate (32 - n) 0) size ∙ sym is.zeros in
    (size, ap (λ (xs : List ℕ). take r.len r.key ++ xs) zeros ∙ take-append-drop r.len r.key)

pub parts : (r : EktKeyRecord) (octets : List ℕ) → IsRecord r → octets ≡ record_octets r → Parts r octets
unfolding record_octets
parts r octets is e =
    let few = few_octets r is in
    let kept = key_kept r is in
    let l : List ℕ = big_bytes 2 r.len in
    let k : List ℕ = take r.len r.key in
    let n : List ℕ = big_bytes 2 12 in
    let p : List ℕ = big_bytes 2 r.spi in
    let v : List ℕ = big_bytes 3 r.life in
    let whole : octets ≡ l ++ (k ++ (n ++ (r.salt ++ (p ++ v)))) = e ∙ regrouped l k n r.salt p v in
    let at_n : drop (r.len + 2) octets ≡ n ++ (r.salt ++ (p ++ v)) = ap (drop (r.len + 2)) whole ∙ behind_2 l k (n ++ (r.salt ++ (p ++ v))) (r.len + 2) (omega (arith, kept.0)) in
    let at_s : drop (r.len + 4) octets ≡ r.salt ++ (p ++ v) = later octets (r.len + 2) 2 (r.len + 4) (omega arith) ∙ ap (drop 2) at_n in
    let at_p : drop (r.len + 16) octets ≡ p ++ v = later octets (r.len + 4) 12 (r.len + 16) (omega arith) ∙ ap (drop 12) at_s ∙ drop_at r.salt (p ++ v) 12 is.salt in
    let at_v : drop (r.len + 18) octets ≡ v ++ [] = later octets (r.len + 16) 2 (r.len + 18) (omega arith) ∙ ap (drop 2) at_p ∙ sym (append-nil v) in
    record {
      size = omega (arith, ap length whole, length-append k (n ++ (r.salt ++ (p ++ v))), length-append r.salt (p ++ v), kept.0, is.salt);
      len = ap (big_number 2) whole ∙ big_number-reads_back 2 r.len (k ++ (n ++ (r.salt ++ (p ++ v)))) (omega arith);
      salt_len = ap (big_number 2) at_n ∙ big_number-reads_back 2 12 (r.salt ++ (p ++ v)) (omega arith);
      is = same_record (record_at octets r.len) r
          (ap (λ (xs : List ℕ). stored (take r.len (drop 2 xs))) whole ∙ ap stored (take_at k (n ++ (r.salt ++ (p ++ v))) r.len kept.0) ∙ kept.1)
          refl
          (ap (take 12) at_s ∙ take_at r.salt (p ++ v) 12 is.salt)
          (ap (big_number 2) at_p ∙ big_number-reads_back 2 r.spi v (omega (arith, is.spi)))
          (ap (big_number 3) at_v ∙ big_number-reads_back 3 r.life [] (omega (arith, is.life)));
    }

-- the lengths in octets that are read
pub record Lengths (octets : List ℕ) (len : ℕ) : Type 0 where
  pub right : (len ≡ 16) ⊎ (len ≡ 32)
  pub size : length octets ≡ len + 21
  pub first : big_number 2 octets ≡ len
  pub second : big_number 2 (drop (len + 2) octets) ≡ 12

pub record_in : (octets : List ℕ) (len : ℕ) → AreOctets octets → Lengths octets len
    → IsRecord (record_at octets len) × (octets ≡ record_octets (record_at octets len))
unfolding record_octets
record_in octets len fits t =
    let few : len ≤ 32 = elim t.right [ inl e ↦ omega arith | inr e ↦ omega arith ] in
    let long = t.size in
    let key : List ℕ = take len (drop 2 octets) in
    let lk : length key ≡ len = length-take-le len (drop 2 octets) (omega (arith, length-drop 2 octets)) in
    let room : List ℕ = stored key in
    let front : take len room ≡ key = take_at key (replicate (32 - length key) 0) len lk in
    let zeros : drop len room ≡ replicate (32 - len) 0 = drop_at key (replicate (32 - length key) 0) len lk ∙ ap (λ (n : ℕ). replicate (32 - n) 0) lk in
    let l = two_spelled octets (omega arith) fits in
    let n = two_spelled (drop (len + 2) octets) (omega (arith, length-drop (len + 2) octets)) (AreOctets-drop (len + 2) octets fits) in
    let p = two_spelled (drop (len + 16) octets) (omega (arith, length-drop (len + 16) octets)) (AreOctets-drop (len + 16) octets fits) in
    let v = three_spelled (drop (len + 18) octets) (omega (arith, length-drop (len + 18) octets)) (AreOctets-drop (len + 18) octets fits) in
    let l' : big_bytes 2 len ≡ take 2 octets = ap (big_bytes 2) (sym t.first) ∙ l.0 in
    let n' : big_bytes 2 12 ≡ take 2 (drop (len + 2) octets) = ap (big_bytes 2) (sym t.second) ∙ n.0 in
    let salt : List ℕ = take 12 (drop (len + 4) octets) in
    let spi : List ℕ = big_bytes 2 (big_number 2 (drop (len + 16) octets)) in
    let life : List ℕ = big_bytes 3 (big_number 3 (drop (len + 18) octets)) in
    let end : drop (len + 21) octets ≡ [] = drop_all (len + 21) octets (omega arith) in
    let e_v : life ≡ drop (len + 18) octets = sym (append-nil life) ∙ ap (λ (xs : List ℕ). life ++ xs) (sym end) ∙ piece_as (len + 18) 3 (len + 21) life octets v.0 (omega arith) in
    let e_p : spi ++ life ≡ drop (len + 16) octets = ap (λ (xs : List ℕ). spi ++ xs) e_v ∙ piece_as (len + 16) 2 (len + 18) spi octets p.0 (omega arith) in
    let e_s : salt ++ (spi ++ life) ≡ drop (len + 4) octets = ap (λ (xs : List ℕ). salt ++ xs) e_p ∙ piece (len + 4) 12 (len + 16) octets (omega arith) in
    let r_n : List ℕ = salt ++ (spi ++ life) in
    let e_n : big_bytes 2 12 ++ r_n ≡ drop (len + 2) octets = ap (λ (xs : List ℕ). big_bytes 2 12 ++ xs) e_s ∙ piece_as (len + 2) 2 (len + 4) (big_bytes 2 12) octets n' (omega arith) in
    let r_k : List ℕ = big_bytes 2 12 ++ r_n in
    let e_k : take len room ++ r_k ≡ drop 2 octets = ap (λ (xs : List ℕ). take len room ++ xs) e_n ∙ piece_as 2 len (len + 2) (take len room) octets front (omega arith) in
    let r_l : List ℕ = take len room ++ r_k in
    let e_l : big_bytes 2 len ++ r_l ≡ octets = ap (λ (xs : List ℕ). big_bytes 2 len ++ xs) e_k ∙ piece_as 0 2 2 (big_bytes 2 len) octets l' refl in (
      record {
        size = t.right;
        room = length-append key (replicate (32 - length key) 0) ∙ omega (arith, length-replicate {A = ℕ} (32 - length key) 0, lk);
        zeros = zeros;
        salt = length-take-le 12 (drop (len + 4) octets) (omega (arith, length-drop (len + 4) octets));
        spi = p.1;
        life = v.1;
      },
      sym (regrouped (big_bytes 2 len) (take len room) (big_bytes 2 12) salt spi life ∙ e_l),
    )

pub octets-length : (r : EktKeyRecord) → IsRecord r → length (record_octets r) ≡ r.len + 21
octets-length r is = (parts r (record_octets r) is refl).size

-- a key, a salt and the numbers, written one after the other
pub written_parts : (r : EktKeyRecord) (n : ℕ) → IsRecord r → n ≡ length r.salt
    → ((big_bytes 2 r.len ++ take r.len r.key) ++ (big_bytes 2 n ++ r.salt)) ++ (big_bytes 2 r.spi ++ big_bytes 3 r.life) ≡ record_octets r
unfolding record_octets
written_parts r n is e =
    let twelve : n ≡ 12 = e ∙ is.salt in
    ap (λ (m : ℕ). ((big_bytes 2 r.len ++ take r.len r.key) ++ (big_bytes 2 m ++ r.salt)) ++ (big_bytes 2 r.spi ++ big_bytes 3 r.life)) twelve
    ∙ grouped (big_bytes 2 r.len) (take r.len r.key) (big_bytes 2 12) r.salt (big_bytes 2 r.spi) (big_bytes 3 r.life)

pub key-lengths : (p : Profile) → (key_length p ≡ 16) ⊎ (key_length p ≡ 32)
key-lengths Aes128 = inl refl
key-lengths Aes256 = inr refl

-- ---- the reader

three_pass : (a b c d e f : ℕ) → a ≡ b → c ≡ d → e ≡ f → (eqb a b && eqb c d && eqb e f) ≡ true
three_pass a b c d e f is_a is_c is_e = grind (arith, nat_tests)

three_passed : (a b c d e f : ℕ) → (eqb a b && eqb c d && eqb e f) ≡ true → (a ≡ b) × (c ≡ d) × (e ≡ f)
three_passed a b c d e f all = (first a b c d e f all, second a b c d e f all, third a b c d e f all) where
  first : (a b c d e f : ℕ) → (eqb a b && eqb c d && eqb e f) ≡ true → a ≡ b
  first a b c d e f all = grind (arith, nat_tests)

  second : (a b c d e f : ℕ) → (eqb a b && eqb c d && eqb e f) ≡ true → c ≡ d
  second a b c d e f all = grind (arith, nat_tests)

  third : (a b c d e f : ℕ) → (eqb a b && eqb c d && eqb e f) ≡ true → e ≡ f
  third a b c d e f all = grind (arith, nat_tests)

pub record_found : (len : ℕ) (octets : List ℕ) → has_lengths len octets ≡ true → record_of len octets ≡ Some (record_at octets len)
unfolding record_of
record_found len octets e = ap (λ (b : Bool). cond b (Some (record_at octets len)) None) e

pub record_none : (len : ℕ) (octets : List ℕ) → has_lengths len octets ≡ false → record_of len octets ≡ None
unfolding record_of
record_none len octets e = ap (λ (b : Bool). cond b (Some (record_at octets len)) None) e

-- a right record is read of its octets
pub record_reads : (r : EktKeyRecord) (len : ℕ) (octets : List ℕ) → IsRecord r → r.len ≡ len → octets ≡ record_octets r → record_of len octets ≡ Some r
record_reads r len octets is size e =
    let p = parts r octets is e in
    ap (λ (n : ℕ). record_of n octets) (sym size)
    ∙ record_found r.len octets (three_pass (length octets) (r.len + 21) (big_number 2 octets) r.len (big_number 2 (drop (r.len + 2) octets)) 12 p.size p.len p.salt_len)
    ∙ ap (λ (q : EktKeyRecord). Some q) p.is

pub lengths_found : (len : ℕ) (octets : List ℕ) → (len ≡ 16) ⊎ (len ≡ 32) → has_lengths len octets ≡ true → Lengths octets len
lengths_found len octets right e =
    let t = three_passed (length octets) (len + 21) (big_number 2 octets) len (big_number 2 (drop (len + 2) octets)) 12 e in
    record { right = right; size = t.0; first = t.1; second = t.2 }

bool_cases : (b : Bool) → (b ≡ true) ⊎ (b ≡ false)
bool_cases true = inl refl
bool_cases false = inr refl

none_some : (r : EktKeyRecord) → ◌≡◌ {A = Option EktKeyRecord} None (Some r) → ⊥
none_some r e = cc

same_some : (q r : EktKeyRecord) → ◌≡◌ {A = Option EktKeyRecord} (Some q) (Some r) → q ≡ r
same_some q r e = cc

-- and what is read is a right record that spells the octets
pub record_was_read : (len : ℕ) (octets : List ℕ) (r : EktKeyRecord) → (len ≡ 16) ⊎ (len ≡ 32) → AreOctets octets → record_of len octets ≡ Some r
    → IsRecord r × (r.len ≡ len) × (octets ≡ record_octets r)
record_was_read len octets r right fits e =
    elim (bool_cases (has_lengths len octets)) [
      | inr wrong ↦ absurd (none_some r (sym (record_none len octets wrong) ∙ e))
      | inl right_lengths ↦
          let is = same_some (record_at octets len) r (sym (record_found len octets right_lengths) ∙ e) in
          let read = record_in octets len fits (lengths_found len octets right right_lengths) in
          (subst IsRecord is read.0, sym (ap (λ (q : EktKeyRecord). q.len) is), read.1 ∙ ap record_octets is)
    ]
