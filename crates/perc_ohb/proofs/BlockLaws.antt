-- Octets that end in a block: the block is the one that is read at their end, and what is read there spells their end.
use Rattle.std.proofs.Common.{◌≡◌, ℕ, zero, suc, ◌+◌, ◌-◌, ◌*◌, ◌/◌, ◌%◌, ◌^◌, ◌<◌, ◌≤◌, Bool, true, false, not, cond, eqb, List, [], ◌∷◌, ◌++◌}
use Rattle.std.proofs.Common.{length, take, drop, get_or, Option, Some, None, Result, Ok, Err, refl, sym, ap, subst, ◌∙◌, append_assoc, arith}
use Rattle.std.specs.Prelude.{is_some, IfSome}
use Rattle.std.proofs.Math.Dec.{leb}
use Rattle.std.proofs.lemmas.Bool.{leb-false, lt-leb, eqb-true}
use Rattle.std.proofs.lemmas.Bool.Decides.{nat_tests}
use Rattle.std.proofs.lemmas.List.{take_at, drop_at, get_or_at, drop_more, drop_all, take-append-drop, length-append, length-drop}
use Rattle.std.proofs.lemmas.Nat.{be_bytes_2}
use Rattle.byteorder.specs.Endian.{big_bytes, big_number}
use Rattle.byteorder.specs.Numbers.{big_number-reads_back}
use Rattle.perc_rtp.specs.Header.{bit}
use Rattle.perc_octets.specs.Octets.{AreOctets}
use Rattle.perc_ohb.specs.declared.block.Ohb.{Ohb}
use Rattle.perc_ohb.specs.declared.block.OhbFault.{OhbFault}
use Rattle.perc_ohb.specs.declared.block.OhbFault.TheVariants.{Empty, Reserved, Marker, Pt}
use Rattle.perc_ohb.specs.Block.{pt_octets, seq_octets, marker_bits, config, spelling, EndsIn, last_config, block_length, kept_pt}
use Rattle.perc_ohb.specs.Reading.{config_at, pt_at, seq_at, marker_in}

-- ---- from a block to the octets that end in it

-- what a Config octet says of the block that it was made for
record SaysOf (m : Option Bool) (p q : Bool) (c : ℕ) : Type 0 where
  high : c / 16 ≡ 0
  whole : eqb (c / 4 % 4) 2 ≡ false
  pt : c / 2 % 2 ≡ bit p
  seq : c % 2 ≡ bit q
  marker : marker_in c ≡ m

config_says : (m : Option Bool) (p q : Bool) → SaysOf m p q (marker_bits m + 2 * bit p + bit q)
config_says None true true = record { high = refl; whole = refl; pt = refl; seq = refl; marker = refl }
config_says None true false = record { high = refl; whole = refl; pt = refl; seq = refl; marker = refl }
config_says None false true = record { high = refl; whole = refl; pt = refl; seq = refl; marker = refl }
config_says None false false = record { high = refl; whole = refl; pt = refl; seq = refl; marker = refl }
config_says (Some true) true true = record { high = refl; whole = refl; pt = refl; seq = refl; marker = refl }
config_says (Some true) true false = record { high = refl; whole = refl; pt = refl; seq = refl; marker = refl }
config_says (Some true) false true = record { high = refl; whole = refl; pt = refl; seq = refl; marker = refl }
config_says (Some true) false false = record { high = refl; whole = refl; pt = refl; seq = refl; marker = refl }
config_says (Some false) true true = record { high = refl; whole = refl; pt = refl; seq = refl; marker = refl }
config_says (Some false) true false = record { high = refl; whole = refl; pt = refl; seq = refl; marker = refl }
config_says (Some false) false true = record { high = refl; whole = refl; pt = refl; seq = refl; marker = refl }
config_says (Some false) false false = record { high = refl; whole = refl; pt = refl; seq = refl; marker = refl }

-- how many octets the fields and the block have
pub length-pt : (o : Option ℕ) → length (pt_octets o) ≡ bit (is_some o)
length-pt None = refl
length-pt (Some pt) = refl

pub length-seq : (o : Option ℕ) → length (seq_octets o) ≡ 2 * bit (is_some o)
length-seq None = refl
length-seq (Some seq) = refl

bit-le : (b : Bool) → bit b ≤ 1
bit-le true = omega arith
bit-le false = omega arith

-- the payload type and the sequence number have three octets at most
pub fields_room : (o : Ohb) → length (pt_octets o.pt) + length (seq_octets o.seq) ≤ 3
fields_room o = omega (arith, length-pt o.pt, length-seq o.seq, bit-le (is_some o.pt), bit-le (is_some o.seq))

pub length-spelling : (o : Ohb) → length (spelling o) ≡ 1 + bit (is_some o.pt) + 2 * bit (is_some o.seq)
unfolding spelling
length-spelling o =
    omega (arith, length-append (pt_octets o.pt ++ seq_octets o.seq) (config o ∷ []), length-append (pt_octets o.pt) (seq_octets o.seq), length-pt o.pt, length-seq o.seq)

-- the payload type is read where it stands, behind `before` and in front of the others
pt_again : (o : Option ℕ) (p k n : ℕ) (octets before others : List ℕ) → IfSome o (λ pt. pt < 128) → p ≡ bit (is_some o) → octets ≡ before ++ (pt_octets o ++ others)
    → length before ≡ n → k ≡ get_or octets n 0 → cond (not (eqb p 1)) (Ok None) (cond (leb 128 k) (Err Pt) (Ok (Some k))) ≡ Ok o
pt_again None p k n octets before others small p_is is at k_is = rw p_is refl
pt_again (Some pt) p k n octets before others small p_is is at k_is =
    let found : k ≡ pt = k_is ∙ ap (λ (xs : List ℕ). get_or xs n 0) is ∙ get_or_at before pt others 0 n at in
    let fits : leb 128 pt ≡ false = lt-leb 128 pt small in
    rw (p_is, found, fits) refl

-- and the sequence number
seq_again : (o : Option ℕ) (q n : ℕ) (octets before others : List ℕ) → IfSome o (λ seq. seq < 2 ^ 16) → q ≡ bit (is_some o) → octets ≡ before ++ (seq_octets o ++ others)
    → (IfSome o (λ _. length before ≡ n)) → cond (not (eqb q 1)) None (Some (big_number 2 (drop n octets))) ≡ o
seq_again None q n octets before others small q_is is at = rw q_is refl
seq_again (Some seq) q n octets before others small q_is is at =
    let behind : drop n octets ≡ big_bytes 2 seq ++ others = ap (drop n) is ∙ drop_at before (big_bytes 2 seq ++ others) n at in
    rw (q_is, behind) (ap Some (big_number-reads_back 2 seq others (omega (arith, small))))

-- what is read at the end of octets that end in a block
pub record Stands (o : Ohb) (before octets : List ℕ) : Type 0 where
  pub config : config_at octets ≡ Ok (last_config octets)
  pub len : block_length (last_config octets) ≡ length (spelling o)
  pub fits : length octets ≡ length before + length (spelling o)
  pub pt : pt_at octets ≡ Ok o.pt
  pub seq : seq_at octets ≡ o.seq
  pub marker : marker_in (last_config octets) ≡ o.marker

-- a Config octet passes the tests
config_passes : (n c : ℕ) → 1 ≤ n → c / 16 ≡ 0 → eqb (c / 4 % 4) 2 ≡ false
    → cond (eqb n 0) (Err Empty) (cond (not (eqb (c / 16) 0)) (Err Reserved) (cond (eqb (c / 4 % 4) 2) (Err Marker) (Ok c))) ≡ Ok c
config_passes n c some high whole = grind (arith, nat_tests)

-- the offset of the sequence number, counted from both ends
number_at : (o : Option ℕ) (b p l q total n : ℕ) → l ≡ b + p → q ≡ bit (is_some o) → total ≡ b + (1 + p + 2 * q) → n ≡ total - 3 → IfSome o (λ _. l ≡ n)
number_at None b p l q total n l_is q_is total_is n_is = tt
number_at (Some seq) b p l q total n l_is q_is total_is n_is = omega arith

-- octets that end in a block are read as that block
pub stands : (o : Ohb) (before octets : List ℕ) → EndsIn o before octets → Stands o before octets
unfolding spelling
stands o before octets is =
    let p : List ℕ = pt_octets o.pt in
    let q : List ℕ = seq_octets o.seq in
    let c : List ℕ = config o ∷ [] in
    let len = length-spelling o in
    let total : length octets ≡ length before + length (spelling o) = ap length is.split ∙ length-append before (spelling o) in
    let says = config_says o.marker (is_some o.pt) (is_some o.seq) in
    let at_last : length (before ++ (p ++ q)) ≡ length octets - 1 = omega (arith, length-append before (p ++ q), length-append p q, length-pt o.pt, length-seq o.seq) in
    let at_config : octets ≡ (before ++ (p ++ q)) ++ c = is.split ∙ sym (append_assoc before (p ++ q) c) in
    let last : last_config octets ≡ config o = ap (λ (xs : List ℕ). get_or xs (length octets - 1) 0) at_config ∙ get_or_at (before ++ (p ++ q)) (config o) [] 0 (length octets - 1) at_last in
    let high : last_config octets / 16 ≡ 0 = ap (λ (k : ℕ). k / 16) last ∙ says.high in
    let whole : eqb (last_config octets / 4 % 4) 2 ≡ false = ap (λ (k : ℕ). eqb (k / 4 % 4) 2) last ∙ says.whole in
    let p_is : last_config octets / 2 % 2 ≡ bit (is_some o.pt) = ap (λ (k : ℕ). k / 2 % 2) last ∙ says.pt in
    let q_is : last_config octets % 2 ≡ bit (is_some o.seq) = ap (λ (k : ℕ). k % 2) last ∙ says.seq in
    let at_pt : octets ≡ before ++ (p ++ (q ++ c)) = is.split ∙ ap (λ (xs : List ℕ). before ++ xs) (append_assoc p q c) in
    let at_seq : octets ≡ (before ++ p) ++ (q ++ c) = at_pt ∙ sym (append_assoc before p (q ++ c)) in
    let front : length (before ++ p) ≡ length before + bit (is_some o.pt) = length-append before p ∙ ap (λ (n : ℕ). length before + n) (length-pt o.pt) in
    record {
      config = config_passes (length octets) (last_config octets) (omega arith) high whole;
      len = omega arith;
      fits = total;
      pt = pt_again o.pt (last_config octets / 2 % 2) (kept_pt octets) (length octets - block_length (last_config octets)) octets before (q ++ c) is.block.pt p_is at_pt (omega arith) refl;
      seq = seq_again o.seq (last_config octets % 2) (length octets - 3) octets (before ++ p) c is.block.seq q_is at_seq
          (number_at o.seq (length before) (bit (is_some o.pt)) (length (before ++ p)) (bit (is_some o.seq)) (length octets) (length octets - 3) front refl (omega arith) refl);
      marker = ap marker_in last ∙ says.marker;
    }

-- ---- from octets to the block at their end

-- one octet more before the last n
one_more : (n : ℕ) (xs : List ℕ) → n + 1 ≤ length xs → drop (length xs - (n + 1)) xs ≡ get_or xs (length xs - (n + 1)) 0 ∷ drop (length xs - n) xs
one_more n xs h =
    let next : length xs - (n + 1) + 1 ≡ length xs - n = omega arith in
    drop_more xs (length xs - (n + 1)) 0 (omega arith) ∙ ap (λ (k : ℕ). get_or xs (length xs - (n + 1)) 0 ∷ drop k xs) next

last_one : (xs : List ℕ) → 1 ≤ length xs → drop (length xs - 1) xs ≡ get_or xs (length xs - 1) 0 ∷ []
last_one xs h = one_more 0 xs h ∙ ap (λ (r : List ℕ). get_or xs (length xs - 1) 0 ∷ r) (drop_all (length xs - 0) xs (omega arith))

pair-octets : (a b : ℕ) → a < 256 → b < 256 → AreOctets (a ∷ b ∷ [])
pair-octets a b fa fb zero = fa
pair-octets a b fa fb (suc zero) = fb
pair-octets a b fa fb (suc (suc i)) = omega arith

-- two octets spell the number in them
two_spelled : (xs : List ℕ) (a b : ℕ) (rest : List ℕ) → a < 256 → b < 256 → xs ≡ a ∷ b ∷ rest → (big_bytes 2 (big_number 2 xs) ≡ a ∷ b ∷ []) × (big_number 2 xs < 2 ^ 16)
two_spelled xs a b rest fa fb is =
    let value : big_number 2 xs ≡ big_number 2 (a ∷ b ∷ rest) = ap (big_number 2) is in
    (be_bytes_2 (a ∷ b ∷ []) (big_number 2 xs) refl (pair-octets a b fa fb) (omega arith), omega arith)

-- the sequence number that is read and the Config octet are the end of the octets
seq_spelled : (q : ℕ) (octets : List ℕ) → q < 2 → AreOctets octets → 1 + 2 * q ≤ length octets
    → (seq_octets (cond (not (eqb q 1)) None (Some (big_number 2 (drop (length octets - 3) octets)))) ++ get_or octets (length octets - 1) 0 ∷ [] ≡ drop (length octets - (1 + 2 * q)) octets)
    × IfSome (cond (not (eqb q 1)) None (Some (big_number 2 (drop (length octets - 3) octets)))) (λ seq. seq < 2 ^ 16)
seq_spelled zero octets small fits h = (sym (last_one octets h), tt)
seq_spelled (suc zero) octets small fits h =
    let a = get_or octets (length octets - 3) 0 in
    let b = get_or octets (length octets - 2) 0 in
    let end : drop (length octets - 3) octets ≡ a ∷ b ∷ get_or octets (length octets - 1) 0 ∷ [] =
    one_more 2 octets h ∙ ap (λ (r : List ℕ). a ∷ r) (one_more 1 octets (omega arith) ∙ ap (λ (r : List ℕ). b ∷ r) (last_one octets (omega arith))) in
    let two = two_spelled (drop (length octets - 3) octets) a b (get_or octets (length octets - 1) 0 ∷ []) (fits (length octets - 3)) (fits (length octets - 2)) end in
    (ap (λ (r : List ℕ). r ++ get_or octets (length octets - 1) 0 ∷ []) two.0 ∙ sym end, two.1)
seq_spelled (suc (suc q)) octets small fits h = absurd (omega arith)

-- a payload type that is read
pt_read : (b : Bool) (k pt : ℕ) → cond b (Err Pt) (Ok (Some k)) ≡ Ok (Some pt) → (b ≡ false) × (k ≡ pt)
pt_read true k pt is = cc
pt_read false k pt is = (refl, cc)

pt_missing : (b : Bool) (k : ℕ) → cond b (Err Pt) (Ok (Some k)) ≡ Ok None → ⊥
pt_missing true k is = cc
pt_missing false k is = cc

-- and the payload type stands in front of them
pt_spelled : (p n m : ℕ) (octets : List ℕ) (o : Option ℕ) → p < 2 → m ≡ n + p → m ≤ length octets
    → cond (not (eqb p 1)) (Ok None) (cond (leb 128 (get_or octets (length octets - m) 0)) (Err Pt) (Ok (Some (get_or octets (length octets - m) 0)))) ≡ Ok o
    → (pt_octets o ++ drop (length octets - n) octets ≡ drop (length octets - m) octets) × IfSome o (λ pt. pt < 128) × (bit (is_some o) ≡ p)
pt_spelled zero n m octets None small m_is h is = (ap (λ (k : ℕ). drop (length octets - k) octets) (omega arith), tt, refl)
pt_spelled zero n m octets (Some pt) small m_is h is = cc
pt_spelled (suc zero) n m octets None small m_is h is = absurd (pt_missing (leb 128 (get_or octets (length octets - m) 0)) (get_or octets (length octets - m) 0) is)
pt_spelled (suc zero) n m octets (Some pt) small m_is h is =
    let k = get_or octets (length octets - m) 0 in
    let read = pt_read (leb 128 k) k pt is in
    let fits : k < 128 = leb-false 128 k read.0 in
    let here : drop (length octets - m) octets ≡ drop (length octets - (n + 1)) octets = ap (λ (j : ℕ). drop (length octets - j) octets) m_is in
    let first : get_or octets (length octets - (n + 1)) 0 ≡ k = ap (λ (j : ℕ). get_or octets (length octets - j) 0) (sym m_is) in
    let next : drop (length octets - m) octets ≡ k ∷ drop (length octets - n) octets =
    here ∙ one_more n octets (omega arith) ∙ ap (λ (x : ℕ). x ∷ drop (length octets - n) octets) first in
    (ap (λ (x : ℕ). x ∷ drop (length octets - n) octets) (sym read.1) ∙ sym next, omega arith, refl)
pt_spelled (suc (suc p)) n m octets o small m_is h is = absurd (omega arith)

-- what the tests of a Config octet tell
three_tests : (a b c : Bool) (k m : ℕ) → cond a (Err Empty) (cond (not b) (Err Reserved) (cond c (Err Marker) (Ok k))) ≡ Ok m → (a ≡ false) × (b ≡ true) × (c ≡ false) × (k ≡ m)
three_tests true b c k m is = cc
three_tests false false c k m is = cc
three_tests false true true k m is = cc
three_tests false true false k m is = (refl, refl, refl, cc)

-- the bits of a Config octet make it again
marker_again : (c : ℕ) → c / 16 ≡ 0 → eqb (c / 4 % 4) 2 ≡ false → marker_bits (marker_in c) ≡ 4 * (c / 4)
marker_again c high whole = grind (arith, nat_tests)

kept-bit : (q x : ℕ) → q < 2 → bit (is_some (cond (not (eqb q 1)) None (Some x))) ≡ q
kept-bit zero x small = refl
kept-bit (suc zero) x small = refl
kept-bit (suc (suc q)) x small = absurd (omega arith)

-- What is read at the end of octets is the block that they end in.
pub reads : (octets : List ℕ) (c len : ℕ) (pt seq : Option ℕ) (marker : Option Bool) → AreOctets octets → config_at octets ≡ Ok c → len ≡ block_length c
    → len ≤ length octets → pt_at octets ≡ Ok pt → seq ≡ seq_at octets → marker ≡ marker_in c
    → (before : List ℕ) × EndsIn (record { pt = pt; seq = seq; marker = marker }) before octets × (len ≡ length (spelling (record { pt = pt; seq = seq; marker = marker })))
unfolding spelling
reads octets c len pt seq marker fits config_is len_is within pt_is seq_is marker_is =
    let k = last_config octets in
    let t = three_tests (eqb (length octets) 0) (eqb (k / 16) 0) (eqb (k / 4 % 4) 2) k c config_is in
    let same : k ≡ c = t.3 in
    let long : len ≡ block_length k = len_is ∙ ap block_length (sym same) in
    let high : k / 16 ≡ 0 = eqb-true (k / 16) 0 t.1 in
    let ends = seq_spelled (k % 2) octets (omega arith) fits (omega arith) in
    let starts = pt_spelled (k / 2 % 2) (1 + 2 * (k % 2)) (block_length k) octets pt (omega arith) (omega arith) (omega arith) pt_is in
    let has_seq : bit (is_some seq) ≡ k % 2 = ap (λ (o : Option ℕ). bit (is_some o)) seq_is ∙ kept-bit (k % 2) (big_number 2 (drop (length octets - 3) octets)) (omega arith) in
    let marks : marker_bits marker ≡ 4 * (k / 4) = ap marker_bits marker_is ∙ ap (λ (j : ℕ). marker_bits (marker_in j)) (sym same) ∙ marker_again k high t.2 in
    let has_pt = starts.2 in
    let o : Ohb = record { pt = pt; seq = seq; marker = marker } in
    let config_again : config o ≡ k = omega arith in
    let n : ℕ = length octets - len in
    let offset : length octets - block_length k ≡ n = ap (λ (j : ℕ). length octets - j) (sym long) in
    let spelled : spelling o ≡ drop n octets =
    ap (λ (j : ℕ). (pt_octets pt ++ seq_octets seq) ++ j ∷ []) config_again
    ∙ append_assoc (pt_octets pt) (seq_octets seq) (k ∷ [])
    ∙ ap (λ (q : Option ℕ). pt_octets pt ++ (seq_octets q ++ k ∷ [])) seq_is
    ∙ ap (λ (r : List ℕ). pt_octets pt ++ r) ends.0
    ∙ starts.0
    ∙ ap (λ (j : ℕ). drop j octets) offset in (
      take n octets,
      record {
        block = record { pt = starts.1; seq = subst (λ (q : Option ℕ). IfSome q (λ seq. seq < 2 ^ 16)) (sym seq_is) ends.1 };
        split = sym (take-append-drop n octets) ∙ ap (λ (r : List ℕ). take n octets ++ r) (sym spelled);
      },
      omega (arith, ap length spelled, length-drop n octets),
    )

pt_same : (a b : Option ℕ) → ◌≡◌ {A = Result (Option ℕ) OhbFault} (Ok a) (Ok b) → a ≡ b
pt_same a b is = cc

-- Octets end in one block at most.
pub one_block : (o p : Ohb) (before others octets : List ℕ) → EndsIn o before octets → EndsIn p others octets → (o ≡ p) × (before ≡ others)
one_block o p before others octets is also =
    let s = stands o before octets is in
    let t = stands p others octets also in
    let pt : o.pt ≡ p.pt = pt_same o.pt p.pt (sym s.pt ∙ t.pt) in
    let seq : o.seq ≡ p.seq = sym s.seq ∙ t.seq in
    let marker : o.marker ≡ p.marker = sym s.marker ∙ t.marker in
    let len : length (spelling o) ≡ length (spelling p) = sym s.len ∙ t.len in
    let offset : length before ≡ length others = omega arith in
    let front = s.fits in (
      λ i. record { pt = pt i; seq = seq i; marker = marker i },
      sym (take_at before (spelling o) (length before) refl) ∙ ap (take (length before)) (sym is.split ∙ also.split) ∙ take_at others (spelling p) (length before) (sym offset),
    )

-- ---- for the reader

-- what was refused doesn't end in a block
pub refused : {A E X : Type 0} (a : A) (e : E) (r : Result A E) → Err e ≡ r → r ≡ Ok a → X
refused a e r is not = cc

config_same : (a b : ℕ) → ◌≡◌ {A = Result ℕ OhbFault} (Ok a) (Ok b) → a ≡ b
config_same a b is = cc

pub config_is : (o : Ohb) (before octets : List ℕ) (c : ℕ) → EndsIn o before octets → Ok c ≡ config_at octets → c ≡ last_config octets
config_is o before octets c is read = config_same c (last_config octets) (read ∙ (stands o before octets is).config)

-- too few octets don't either
pub too_short : {X : Type 0} (o : Ohb) (before octets : List ℕ) (c len : ℕ) → EndsIn o before octets → Ok c ≡ config_at octets → len ≡ block_length c → length octets < len → X
too_short o before octets c len is read len_is short =
    let s = stands o before octets is in
    let total = s.fits in
    let enough = s.len in
    let long : len ≡ block_length (last_config octets) = len_is ∙ ap block_length (config_is o before octets c is read) in
    absurd (omega arith)

-- what is read where octets end in a block
pub read_is : (o : Ohb) (before octets : List ℕ) (c len : ℕ) (pt seq : Option ℕ) (marker : Option Bool) → EndsIn o before octets → Ok c ≡ config_at octets → len ≡ block_length c
    → Ok pt ≡ pt_at octets → seq ≡ seq_at octets → marker ≡ marker_in c
    → ◌≡◌ {A = Result (Ohb × ℕ) OhbFault} (Ok (record { pt = pt; seq = seq; marker = marker }, len)) (Ok (o, length (spelling o)))
read_is o before octets c len pt seq marker is read len_is pt_is seq_is marker_is =
    let s = stands o before octets is in
    let config = config_is o before octets c is read in
    let e : pt ≡ o.pt = pt_same pt o.pt (pt_is ∙ s.pt) in
    let f : seq ≡ o.seq = seq_is ∙ s.seq in
    let g : marker ≡ o.marker = marker_is ∙ ap marker_in config ∙ s.marker in
    let l : len ≡ length (spelling o) = len_is ∙ ap block_length config ∙ s.len in
    λ i. Ok (record { pt = e i; seq = f i; marker = g i }, l i)
