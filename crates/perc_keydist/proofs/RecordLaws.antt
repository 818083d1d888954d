-- Clear records: each is read of its octets, and what is read spells the octets.
use Rattle.std.specs.Option.{option_map}
use Rattle.std.specs.Prelude.{Option, Some, None}
use Rattle.std.specs.Str.{bytes_eq}
use Rattle.std.proofs.Common.{◌≡◌, ℕ, ◌+◌, ◌*◌, ◌^◌, ◌<◌, ◌≤◌, ◌⊎◌, ◌&&◌, Bool, true, false, cond, eqb, List, [], ◌++◌, length, take, drop, get_or, inl, inr, refl, sym, ap, subst, ◌∙◌, append_assoc, arith}
use Rattle.std.proofs.lemmas.Bool.{cond-true, eqb-true, eq-eqb}
use Rattle.std.proofs.lemmas.Bool.Decides.{nat_tests}
use Rattle.std.proofs.lemmas.List.{take_at, drop_at, drop-drop, take_all, length-append, length-drop, length-take-le, take-append-drop, append-nil}
use Rattle.std.proofs.lemmas.Slice.Eq.{bytes_eq-Decides}
use Rattle.byteorder.specs.Endian.{big_bytes, big_number}
use Rattle.byteorder.specs.Numbers.{big_number-reads_back}
use Rattle.perc_base.specs.declared.profile.Profile.{Profile}
use Rattle.perc_base.specs.declared.profile.Profile.TheVariants.{Aes128, Aes256}
use Rattle.perc_base.specs.Profile.{key_length, profile_number}
use Rattle.perc_kdf.specs.Derivation.{KeyAndSalt}
use Rattle.perc_ekt.specs.declared.record.EktKeyRecord.{EktKeyRecord}
use Rattle.perc_ekt.specs.Record.{IsRecord, record_octets, record_of}
use Rattle.perc_octets.specs.Octets.{AreOctets}
use Rattle.perc_octets.proofs.Octets.{AreOctets-drop, AreOctets-take}
use Rattle.perc_ekt.proofs.Octets.{two_spelled}
use Rattle.perc_ekt.proofs.Records.{key-lengths, octets-length, record_reads, record_was_read}
use Rattle.perc_tunnel.specs.Message.{IsHalf}
use Rattle.perc_tunnel.proofs.Pieces.{behind_piece, piece_at}
use Rattle.perc_keydist.specs.ClearRecord.{Record, Hello, Welcome, Renew, Leave, IsClear, alert, half_at, half_octets, handshake, hello_in, is_kind, record_in, renewal_in, spelling, welcome_in}

-- what stands further behind
later : (xs : List ℕ) (i k j : ℕ) → j ≡ i + k → drop j xs ≡ drop k (drop i xs)
later xs i k j e = ap (λ m. drop m xs) e ∙ sym (drop-drop k i xs)

-- ---- the cases of what octets are

front_of : (kind : ℕ) (xs rest : List ℕ) → xs ≡ handshake kind ++ rest → take 6 xs ≡ handshake kind
front_of kind xs rest e = ap (take 6) e ∙ take_at (handshake kind) rest 6 refl

record_of_kind : (p : Profile) (xs rest : List ℕ) (kind : ℕ) → xs ≡ handshake kind ++ rest
    → record_in p xs ≡ cond (eqb kind 1) (hello_in xs) (cond (eqb kind 2) (welcome_in (key_length p) (profile_number p) xs) (cond (eqb kind 3) (renewal_in (key_length p) xs) None))
unfolding record_in
record_of_kind p xs rest kind e =
    let no_alert : bytes_eq xs alert ≡ false = ap (λ ys. bytes_eq ys alert) e in
    let front : (k : ℕ) → is_kind k xs ≡ eqb kind k = λ k. ap (λ ys. bytes_eq ys (handshake k)) (front_of kind xs rest e) ∙ last kind k in
    chain (bytes_eq xs alert) (is_kind 1 xs) (is_kind 2 xs) (is_kind 3 xs) no_alert (front 1) (front 2) (front 3) where
      last : (a b : ℕ) → bytes_eq (handshake a) (handshake b) ≡ eqb a b
      last a b = grind (arith, nat_tests)

      chain : (n a b c : Bool) → n ≡ false → a ≡ eqb kind 1 → b ≡ eqb kind 2 → c ≡ eqb kind 3
          → cond n (Some Leave) (cond a (hello_in xs) (cond b (welcome_in (key_length p) (profile_number p) xs) (cond c (renewal_in (key_length p) xs) None)))
          ≡ cond (eqb kind 1) (hello_in xs) (cond (eqb kind 2) (welcome_in (key_length p) (profile_number p) xs) (cond (eqb kind 3) (renewal_in (key_length p) xs) None))
      chain n a b c e f g h = rw (e, f, g, h) refl

-- ---- what is written is read

half_is : (n : ℕ) (half : KeyAndSalt) (xs rest : List ℕ) → length half.key ≡ n → length half.salt ≡ 12 → xs ≡ half_octets half ++ rest → half_at n xs ≡ half
half_is n half xs rest key_size salt_size e =
    let whole : xs ≡ half.key ++ (half.salt ++ rest) = e ∙ append_assoc half.key half.salt rest in
    let key : take n xs ≡ half.key = ap (take n) whole ∙ take_at half.key (half.salt ++ rest) n key_size in
    let salt : take 12 (drop n xs) ≡ half.salt =
    ap (λ ys. take 12 (drop n ys)) whole ∙ ap (take 12) (drop_at half.key (half.salt ++ rest) n key_size) ∙ take_at half.salt rest 12 salt_size in
    λ i. record { key = key i; salt = salt i }

half-length : (n : ℕ) (half : KeyAndSalt) → length half.key ≡ n → length half.salt ≡ 12 → length (half_octets half) ≡ n + 12
half-length n half key_size salt_size = length-append half.key half.salt ∙ omega arith

both_pass : (a b c d : ℕ) → a ≡ b → c ≡ d → (eqb a b && eqb c d) ≡ true
both_pass a b c d e f = grind (arith, nat_tests)

number_fits : (p : Profile) → profile_number p < 2 ^ 16
number_fits Aes128 = omega arith
number_fits Aes256 = omega arith

five_parts : (a b c d e : List ℕ) → (a ++ b) ++ ((c ++ d) ++ e) ≡ a ++ (b ++ (c ++ (d ++ e)))
five_parts a b c d e = simp append_assoc

five_lengths : (a b c d e : List ℕ) → length (a ++ (b ++ (c ++ (d ++ e)))) ≡ length a + (length b + (length c + (length d + length e)))
five_lengths a b c d e = simp length-append

welcome_reads : (p : Profile) (client server : KeyAndSalt) (granted : EktKeyRecord) (xs : List ℕ) → IsHalf p client → IsHalf p server → IsRecord granted → granted.len ≡ key_length p
    → xs ≡ handshake 2 ++ (big_bytes 2 (profile_number p) ++ (half_octets client ++ (half_octets server ++ record_octets granted)))
    → welcome_in (key_length p) (profile_number p) xs ≡ Some (Welcome client server granted)
welcome_reads p client server granted xs c s right size e =
    let n = key_length p in
    let c_size = half-length n client c.key c.salt in
    let s_size = half-length n server s.key s.salt in
    let r_size : length (record_octets granted) ≡ n + 21 = octets-length granted right ∙ ap (λ k. k + 21) size in
    let number = big_bytes 2 (profile_number p) in
    let at_6 : drop 6 xs ≡ number ++ (half_octets client ++ (half_octets server ++ record_octets granted)) =
    ap (drop 6) e ∙ drop_at (handshake 2) (number ++ (half_octets client ++ (half_octets server ++ record_octets granted))) 6 refl in
    let at_8 = behind_piece xs 6 2 8 number (half_octets client ++ (half_octets server ++ record_octets granted)) refl refl at_6 in
    let at_server = behind_piece xs 8 (n + 12) (n + 20) (half_octets client) (half_octets server ++ record_octets granted) (omega arith) c_size at_8 in
    let at_record = behind_piece xs (n + 20) (n + 12) (2 * n + 32) (half_octets server) (record_octets granted) (omega arith) s_size at_server in
    let whole_size : length xs ≡ 3 * n + 53 =
    ap length e ∙ five_lengths (handshake 2) number (half_octets client) (half_octets server) (record_octets granted) ∙ sum (length (half_octets client)) (length (half_octets server)) (length (record_octets granted)) n c_size s_size r_size in
    let says : big_number 2 (drop 6 xs) ≡ profile_number p =
    ap (big_number 2) at_6 ∙ big_number-reads_back 2 (profile_number p) (half_octets client ++ (half_octets server ++ record_octets granted)) (number_fits p) in
    cond-true (eqb (length xs) (3 * n + 53) && eqb (big_number 2 (drop 6 xs)) (profile_number p)) (option_map (Welcome (half_at n (drop 8 xs)) (half_at n (drop (n + 20) xs))) (record_of n (drop (2 * n + 32) xs))) None
    (both_pass (length xs) (3 * n + 53) (big_number 2 (drop 6 xs)) (profile_number p) whole_size says)
    ∙ ap (option_map (Welcome (half_at n (drop 8 xs)) (half_at n (drop (n + 20) xs)))) (record_reads granted n (drop (2 * n + 32) xs) right size at_record)
    ∙ ap (λ h. Some (Welcome h (half_at n (drop (n + 20) xs)) granted)) (half_is n client (drop 8 xs) (half_octets server ++ record_octets granted) c.key c.salt at_8)
    ∙ ap (λ h. Some (Welcome client h granted)) (half_is n server (drop (n + 20) xs) (record_octets granted) s.key s.salt at_server) where
      sum : (a b d n : ℕ) → a ≡ n + 12 → b ≡ n + 12 → d ≡ n + 21 → 6 + (2 + (a + (b + d))) ≡ 3 * n + 53
      sum a b d n e f g = omega arith

renewal_reads : (p : Profile) (granted : EktKeyRecord) (xs : List ℕ) → IsRecord granted → granted.len ≡ key_length p → xs ≡ handshake 3 ++ record_octets granted
    → renewal_in (key_length p) xs ≡ Some (Renew granted)
renewal_reads p granted xs right size e =
    let n = key_length p in
    let r_size : length (record_octets granted) ≡ n + 21 = octets-length granted right ∙ ap (λ k. k + 21) size in
    let whole_size : length xs ≡ n + 27 = ap length e ∙ length-append (handshake 3) (record_octets granted) ∙ sum (length (record_octets granted)) n r_size in
    cond-true (eqb (length xs) (n + 27)) (option_map Renew (record_of n (drop 6 xs))) None (eq-eqb (length xs) (n + 27) whole_size)
    ∙ ap (option_map Renew) (record_reads granted n (drop 6 xs) right size (ap (drop 6) e ∙ drop_at (handshake 3) (record_octets granted) 6 refl)) where
      sum : (d n : ℕ) → d ≡ n + 21 → 6 + d ≡ n + 27
      sum d n g = omega arith

hello_reads : (number : ℕ) (xs : List ℕ) → number < 2 ^ 16 → xs ≡ handshake 1 ++ big_bytes 2 number → hello_in xs ≡ Some (Hello number)
hello_reads number xs fits e =
    let says : big_number 2 (drop 6 xs) ≡ number =
    ap (λ ys. big_number 2 (drop 6 ys)) e ∙ ap (big_number 2) (sym (append-nil (big_bytes 2 number))) ∙ big_number-reads_back 2 number [] fits in
    cond-true (eqb (length xs) 8) (Some (Hello (big_number 2 (drop 6 xs)))) None (ap (λ ys. eqb (length ys) 8) e)
    ∙ ap (λ x. Some (Hello x)) says

alert_reads : (p : Profile) → record_in p alert ≡ Some Leave
unfolding record_in
alert_reads p = refl

-- a record is read of its octets
pub clear_reads : (p : Profile) (r : Record) → IsClear p r → record_in p (spelling p r) ≡ Some r
unfolding spelling
clear_reads p (Hello number) fits = record_of_kind p (spelling p (Hello number)) (big_bytes 2 number) 1 refl ∙ hello_reads number (spelling p (Hello number)) fits refl
clear_reads p (Welcome client server granted) (c, s, right, size) =
    let xs = spelling p (Welcome client server granted) in
    let e = five_parts (handshake 2) (big_bytes 2 (profile_number p)) (half_octets client) (half_octets server) (record_octets granted) in
    record_of_kind p xs (big_bytes 2 (profile_number p) ++ (half_octets client ++ (half_octets server ++ record_octets granted))) 2 e
    ∙ welcome_reads p client server granted xs c s right size e
clear_reads p (Renew granted) (right, size) =
    record_of_kind p (spelling p (Renew granted)) (record_octets granted) 3 refl ∙ renewal_reads p granted (spelling p (Renew granted)) right size refl
clear_reads p Leave fits = alert_reads p

-- ---- what is read spells the octets

some_same : {X : Type 0} (x y : X) → ◌≡◌ {A = Option X} (Some x) (Some y) → x ≡ y
some_same x y e = cc

passed : {X : Type 0} (b : Bool) (o : Option X) (r : X) → cond b o None ≡ Some r → (b ≡ true) × (o ≡ Some r)
passed true o r e = (refl, e)
passed false o r e = absurd cc

mapped : {X Y : Type 0} (f : X → Y) (o : Option X) (r : Y) → option_map f o ≡ Some r → (x : X) × (o ≡ Some x) × (f x ≡ r)
mapped f (Some x) r e = (x, refl, some_same (f x) r e)
mapped f None r e = absurd cc

-- which of the kinds a record was read by
abbrev Kinds : (a b c d : Bool) → (hello welcome renewal : Option Record) → Record → Type 0
Kinds a b c d hello welcome renewal r =
    ((a ≡ true) × (Leave ≡ r)) ⊎ (((b ≡ true) × (hello ≡ Some r)) ⊎ (((c ≡ true) × (welcome ≡ Some r)) ⊎ ((d ≡ true) × (renewal ≡ Some r))))

kinds : (a b c d : Bool) (hello welcome renewal : Option Record) (r : Record)
    → cond a (Some Leave) (cond b hello (cond c welcome (cond d renewal None))) ≡ Some r → Kinds a b c d hello welcome renewal r
kinds true b c d hello welcome renewal r e = inl (refl, some_same Leave r e)
kinds false true c d hello welcome renewal r e = inr (inl (refl, e))
kinds false false true d hello welcome renewal r e = inr (inr (inl (refl, e)))
kinds false false false true hello welcome renewal r e = inr (inr (inr (refl, e)))
kinds false false false false hello welcome renewal r e = absurd cc

both_parts : (a b c d : ℕ) → (eqb a b && eqb c d) ≡ true → (a ≡ b) × (c ≡ d)
both_parts a b c d e = (grind (arith, nat_tests), grind (arith, nat_tests))

is_front : (kind : ℕ) (xs : List ℕ) → is_kind kind xs ≡ true → take 6 xs ≡ handshake kind
is_front kind xs is = (bytes_eq-Decides (take 6 xs) (handshake kind)).0 is

behind_front : (kind : ℕ) (xs rest : List ℕ) → take 6 xs ≡ handshake kind → rest ≡ drop 6 xs → xs ≡ handshake kind ++ rest
behind_front kind xs rest front e = sym (take-append-drop 6 xs) ∙ ap (λ ys. ys ++ drop 6 xs) front ∙ ap (λ ys. handshake kind ++ ys) (sym e)

hello_only : (p : Profile) (xs : List ℕ) (r : Record) → AreOctets xs → take 6 xs ≡ handshake 1 → hello_in xs ≡ Some r → IsClear p r × (xs ≡ spelling p r)
unfolding spelling
hello_only p xs r octets front e =
    let read = passed (eqb (length xs) 8) (Some (Hello (big_number 2 (drop 6 xs)))) r e in
    let is = some_same (Hello (big_number 2 (drop 6 xs))) r read.1 in
    let size : length xs ≡ 8 = eqb-true (length xs) 8 read.0 in
    let two = two_spelled (drop 6 xs) (omega (arith, length-drop 6 xs)) (AreOctets-drop 6 xs octets) in
    let rest : big_bytes 2 (big_number 2 (drop 6 xs)) ≡ drop 6 xs = two.0 ∙ take_all 2 (drop 6 xs) (omega (arith, length-drop 6 xs)) in
    subst (λ q. IsClear p q × (xs ≡ spelling p q)) is (two.1, behind_front 1 xs (big_bytes 2 (big_number 2 (drop 6 xs))) front rest)

half_put : (n : ℕ) (d rest : List ℕ) → rest ≡ drop (n + 12) d → half_octets (half_at n d) ++ rest ≡ d
half_put n d rest e =
    append_assoc (take n d) (take 12 (drop n d)) rest ∙ ap (λ ys. take n d ++ ys) (piece_at d n 12 (n + 12) rest refl e) ∙ take-append-drop n d

half_right : (p : Profile) (d : List ℕ) → key_length p + 12 ≤ length d → AreOctets d → IsHalf p (half_at (key_length p) d)
half_right p d room octets =
    let n = key_length p in
    record {
      key = length-take-le n d (omega arith);
      salt = length-take-le 12 (drop n d) (omega (arith, length-drop n d));
      key_octets = AreOctets-take n d octets;
      salt_octets = AreOctets-take 12 (drop n d) (AreOctets-drop n d octets);
    }

welcome_only : (p : Profile) (xs : List ℕ) (r : Record) → AreOctets xs → take 6 xs ≡ handshake 2 → welcome_in (key_length p) (profile_number p) xs ≡ Some r
    → IsClear p r × (xs ≡ spelling p r)
unfolding spelling
welcome_only p xs r octets front e =
    let n = key_length p in
    let make = Welcome (half_at n (drop 8 xs)) (half_at n (drop (n + 20) xs)) in
    let read = passed (eqb (length xs) (3 * n + 53) && eqb (big_number 2 (drop 6 xs)) (profile_number p)) (option_map make (record_of n (drop (2 * n + 32) xs))) r e in
    let tests = both_parts (length xs) (3 * n + 53) (big_number 2 (drop 6 xs)) (profile_number p) read.0 in
    let size : length xs ≡ 3 * n + 53 = tests.0 in
    let found = mapped make (record_of n (drop (2 * n + 32) xs)) r read.1 in
    let g = found.0 in
    let granted = record_was_read n (drop (2 * n + 32) xs) g (key-lengths p) (AreOctets-drop (2 * n + 32) xs octets) found.1 in
    let two = two_spelled (drop 6 xs) (omega (arith, length-drop 6 xs)) (AreOctets-drop 6 xs octets) in
    let number : big_bytes 2 (profile_number p) ≡ take 2 (drop 6 xs) = ap (big_bytes 2) (sym tests.1) ∙ two.0 in
    let at_server : half_octets (half_at n (drop (n + 20) xs)) ++ record_octets g ≡ drop (n + 20) xs =
    half_put n (drop (n + 20) xs) (record_octets g) (sym granted.2 ∙ later xs (n + 20) (n + 12) (2 * n + 32) (omega arith)) in
    let at_client : half_octets (half_at n (drop 8 xs)) ++ (half_octets (half_at n (drop (n + 20) xs)) ++ record_octets g) ≡ drop 8 xs =
    half_put n (drop 8 xs) (half_octets (half_at n (drop (n + 20) xs)) ++ record_octets g) (at_server ∙ later xs 8 (n + 12) (n + 20) (omega arith)) in
    let rest : big_bytes 2 (profile_number p) ++ (half_octets (half_at n (drop 8 xs)) ++ (half_octets (half_at n (drop (n + 20) xs)) ++ record_octets g)) ≡ drop 6 xs =
    ap (λ ys. ys ++ (half_octets (half_at n (drop 8 xs)) ++ (half_octets (half_at n (drop (n + 20) xs)) ++ record_octets g))) number
    ∙ piece_at xs 6 2 8 (half_octets (half_at n (drop 8 xs)) ++ (half_octets (half_at n (drop (n + 20) xs)) ++ record_octets g)) refl at_client in
    subst (λ q. IsClear p q × (xs ≡ spelling p q)) found.2 (
      (half_right p (drop 8 xs) (omega (arith, length-drop 8 xs)) (AreOctets-drop 8 xs octets), half_right p (drop (n + 20) xs) (omega (arith, length-drop (n + 20) xs)) (AreOctets-drop (n + 20) xs octets), granted.0, granted.1),
      behind_front 2 xs _ front rest ∙ sym (five_parts (handshake 2) (big_bytes 2 (profile_number p)) (half_octets (half_at n (drop 8 xs))) (half_octets (half_at n (drop (n + 20) xs))) (record_octets g)),
    )

renewal_only : (p : Profile) (xs : List ℕ) (r : Record) → AreOctets xs → take 6 xs ≡ handshake 3 → renewal_in (key_length p) xs ≡ Some r → IsClear p r × (xs ≡ spelling p r)
unfolding spelling
renewal_only p xs r octets front e =
    let n = key_length p in
    let read = passed (eqb (length xs) (n + 27)) (option_map Renew (record_of n (drop 6 xs))) r e in
    let found = mapped Renew (record_of n (drop 6 xs)) r read.1 in
    let granted = record_was_read n (drop 6 xs) found.0 (key-lengths p) (AreOctets-drop 6 xs octets) found.1 in
    subst (λ q. IsClear p q × (xs ≡ spelling p q)) found.2 ((granted.0, granted.1), behind_front 3 xs (record_octets found.0) front (sym granted.2))

alert_only : (p : Profile) (xs : List ℕ) → xs ≡ alert → xs ≡ spelling p Leave
unfolding spelling
alert_only p xs e = e

-- what is read is a record that spells the octets
pub clear_only : (p : Profile) (xs : List ℕ) (r : Record) → ((i : ℕ) → get_or xs i 0 < 256) → record_in p xs ≡ Some r → IsClear p r × (xs ≡ spelling p r)
unfolding record_in
clear_only p xs r fits e =
    let octets : AreOctets xs = fits in
    elim (kinds (bytes_eq xs alert) (is_kind 1 xs) (is_kind 2 xs) (is_kind 3 xs) (hello_in xs) (welcome_in (key_length p) (profile_number p) xs) (renewal_in (key_length p) xs) r e) [
      | inl leaves ↦ subst (λ q. IsClear p q × (xs ≡ spelling p q)) leaves.1 (tt, alert_only p xs ((bytes_eq-Decides xs alert).0 leaves.0))
      | inr others ↦ elim others [
        | inl hello ↦ hello_only p xs r octets (is_front 1 xs hello.0) hello.1
        | inr more ↦ elim more [
          | inl welcome ↦ welcome_only p xs r octets (is_front 2 xs welcome.0) welcome.1
          | inr renewal ↦ renewal_only p xs r octets (is_front 3 xs renewal.0) renewal.1
        ]
      ]
    ]
