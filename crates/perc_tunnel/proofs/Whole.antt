-- Whole octets of a form spell one message, and each message is spelled by whole octets of its form.
use Rattle.std.proofs.Common.{◌≡◌, ℕ, ◌+◌, ◌-◌, ◌*◌, ◌/◌, ◌%◌, ◌≤◌, List, [], ◌∷◌, ◌++◌, length, take, drop, get_or, refl, sym, ap, ◌∙◌, arith}
use Rattle.std.specs.List.{flat_map}
use Rattle.std.proofs.lemmas.List.{length-append, length-drop, length-take-le, take_all, drop_all, drop_more}
use Rattle.byteorder.specs.Endian.{big_bytes}
use Rattle.perc_base.specs.Profile.{profile_number, key_length}
use Rattle.perc_base.specs.declared.profile.Profile.{Profile}
use Rattle.perc_kdf.specs.Derivation.{KeyAndSalt}
use Rattle.perc_tunnel.specs.declared.forms.Form.{Form}
use Rattle.perc_tunnel.specs.declared.forms.Form.TheVariants.{Profiles, Version, Keys, Record, Ended}
use Rattle.perc_tunnel.specs.Numbers.{numbers_in}
use Rattle.perc_octets.specs.Octets.{AreOctets}
use Rattle.perc_octets.proofs.Octets.{AreOctets-drop, AreOctets-take}
use Rattle.perc_tunnel.specs.Message.{TunnelMessage, SupportedProfiles, UnsupportedVersion, MediaKeys, TunneledDtls, EndpointDisconnect, IsMessage, counted, type_of, body, spelling}
use Rattle.perc_tunnel.specs.Forms.{Holds, HoldEach, fixed_in_body, IsWhole, message_at}
use Rattle.perc_tunnel.proofs.Octets.{numbers-length, numbers_spelled, numbers_fit, numbers_again, flat-length}
use Rattle.perc_tunnel.proofs.Pieces.{cons_at, piece_at, last_at, octet_at, behind_octet, behind_piece, piece_is, three_parts, seven_parts}

-- the form of a message
abbrev pub form_in : TunnelMessage → Form
form_in (SupportedProfiles version profiles) = Profiles
form_in (UnsupportedVersion highest) = Version
form_in (MediaKeys association profile client server) = Keys profile
form_in (TunneledDtls association octets) = Record
form_in (EndpointDisconnect association) = Ended

part_octets : (xs : List ℕ) (i k : ℕ) → AreOctets xs → AreOctets (take k (drop i xs))
part_octets xs i k fits = AreOctets-take k (drop i xs) (AreOctets-drop i xs fits)

part-length : (xs : List ℕ) (i k : ℕ) → i + k ≤ length xs → length (take k (drop i xs)) ≡ k
part-length xs i k fits = length-take-le k (drop i xs) (omega (arith, length-drop i xs))

-- ---- from octets to a message

-- a message whose body stands behind the type and the length
spelled_behind : (m : TunnelMessage) (n : ℕ) (xs : List ℕ) → Holds xs 0 (type_of m) → Holds xs 1 (n / 256 % 256) → Holds xs 2 (n % 256) → length xs ≡ 3 + n
    → body m ≡ drop 3 xs → spelling m ≡ xs
unfolding spelling
spelled_behind m n xs kind high low size is =
    let len : length (body m) ≡ n = ap length is ∙ length-drop 3 xs ∙ omega arith in
    ap (λ (k : ℕ). type_of m ∷ (big_bytes 2 k ++ body m)) len
    ∙ cons_at xs 0 1 (type_of m) (n / 256 % 256 ∷ n % 256 ∷ body m) (omega arith) (omega arith) (kind (omega arith))
    (cons_at xs 1 2 (n / 256 % 256) (n % 256 ∷ body m) (omega arith) (omega arith) (high (omega arith))
    (cons_at xs 2 3 (n % 256) (body m) (omega arith) (omega arith) (low (omega arith)) is))

keys_body : (profile : Profile) (xs : List ℕ) → length xs ≡ 50 + 2 * key_length profile → HoldEach (fixed_in_body (Keys profile) 0) xs
    → body (message_at (Keys profile) xs) ≡ drop 3 xs
unfolding body
keys_body profile xs size held =
    let k : ℕ = key_length profile in
    let a : List ℕ = take 16 (drop 3 xs) in
    let ck : List ℕ = take k (drop 23 xs) in
    let sk : List ℕ = take k (drop (24 + k) xs) in
    let cs : List ℕ = take 12 (drop (25 + 2 * k) xs) in
    let ss : List ℕ = take 12 (drop (38 + 2 * k) xs) in
    let p : ℕ = profile_number profile in
    let ck-len : length ck ≡ k = part-length xs 23 k (omega arith) in
    let sk-len : length sk ≡ k = part-length xs (24 + k) k (omega arith) in
    let cs-len : length cs ≡ 12 = part-length xs (25 + 2 * k) 12 (omega arith) in
    let ss-len : length ss ≡ 12 = part-length xs (38 + 2 * k) 12 (omega arith) in
    let d37 : counted ss ≡ drop (37 + 2 * k) xs =
    cons_at xs (37 + 2 * k) (38 + 2 * k) (length ss) ss (omega arith) (omega arith) (held.1.1.1.1.1.1.0 (omega arith) ∙ sym ss-len) (last_at xs (38 + 2 * k) 12 (omega arith)) in
    let d24 : counted cs ++ counted ss ≡ drop (24 + 2 * k) xs =
    cons_at xs (24 + 2 * k) (25 + 2 * k) (length cs) (cs ++ counted ss) (omega arith) (omega arith) (held.1.1.1.1.1.0 (omega arith) ∙ sym cs-len)
    (piece_at xs (25 + 2 * k) 12 (37 + 2 * k) (counted ss) (omega arith) d37) in
    let d23 : counted sk ++ (counted cs ++ counted ss) ≡ drop (23 + k) xs =
    cons_at xs (23 + k) (24 + k) (length sk) (sk ++ (counted cs ++ counted ss)) (omega arith) (omega arith) (held.1.1.1.1.0 (omega arith) ∙ sym sk-len)
    (piece_at xs (24 + k) k (24 + 2 * k) (counted cs ++ counted ss) (omega arith) d24) in
    let d22 : counted ck ++ (counted sk ++ (counted cs ++ counted ss)) ≡ drop 22 xs =
    cons_at xs 22 23 (length ck) (ck ++ (counted sk ++ (counted cs ++ counted ss))) (omega arith) (omega arith) (held.1.1.1.0 (omega arith) ∙ sym ck-len)
    (piece_at xs 23 k (23 + k) (counted sk ++ (counted cs ++ counted ss)) (omega arith) d23) in
    let d21 : 0 ∷ (counted ck ++ (counted sk ++ (counted cs ++ counted ss))) ≡ drop 21 xs =
    cons_at xs 21 22 0 (counted ck ++ (counted sk ++ (counted cs ++ counted ss))) (omega arith) (omega arith) (held.1.1.0 (omega arith)) d22 in
    let d20 : p % 256 ∷ 0 ∷ (counted ck ++ (counted sk ++ (counted cs ++ counted ss))) ≡ drop 20 xs =
    cons_at xs 20 21 (p % 256) (0 ∷ (counted ck ++ (counted sk ++ (counted cs ++ counted ss)))) (omega arith) (omega arith) (held.1.0 (omega arith)) d21 in
    let d19 : p / 256 % 256 ∷ p % 256 ∷ 0 ∷ (counted ck ++ (counted sk ++ (counted cs ++ counted ss))) ≡ drop 19 xs =
    cons_at xs 19 20 (p / 256 % 256) (p % 256 ∷ 0 ∷ (counted ck ++ (counted sk ++ (counted cs ++ counted ss)))) (omega arith) (omega arith) (held.0 (omega arith)) d20 in
    seven_parts a (big_bytes 2 p) (counted []) (counted ck) (counted sk) (counted cs) (counted ss)
    ∙ piece_at xs 3 16 19 (p / 256 % 256 ∷ p % 256 ∷ 0 ∷ (counted ck ++ (counted sk ++ (counted cs ++ counted ss)))) (omega arith) d19

whole_version : (xs : List ℕ) → AreOctets xs → IsWhole Version xs → IsMessage (message_at Version xs) × (spelling (message_at Version xs) ≡ xs)
unfolding body
whole_version xs fits w =
    let h = w.1.fixed in
    let one : w.0 ≡ 1 = w.1.length in
    let size = w.2 in
    let is : body (message_at Version xs) ≡ drop 3 xs = sym (octet_alone xs (omega arith)) in
    (fits 3, spelled_behind (message_at Version xs) w.0 xs h.0 h.1.0 h.1.1.0 size is)
  where
    octet_alone : (xs : List ℕ) → length xs ≡ 4 → drop 3 xs ≡ get_or xs 3 0 ∷ []
    octet_alone xs size = drop_more xs 3 0 (omega arith) ∙ ap (λ (r : List ℕ). get_or xs 3 0 ∷ r) (drop_all 4 xs (omega arith))

whole_profiles : (xs : List ℕ) → AreOctets xs → IsWhole Profiles xs → IsMessage (message_at Profiles xs) × (spelling (message_at Profiles xs) ≡ xs)
unfolding body
whole_profiles xs fits w =
    let n : ℕ = w.0 in
    let h = w.1.fixed in
    let odd = w.1.length in
    let size = w.2 in
    let rest : List ℕ = drop 6 xs in
    let len : length rest ≡ n - 3 = length-drop 6 xs ∙ omega arith in
    let even : length rest % 2 ≡ 0 = omega arith in
    let rest_fits : AreOctets rest = AreOctets-drop 6 xs fits in
    let twice : 2 * length (numbers_in rest) ≡ length rest = numbers-length rest even in
    let count : 2 * length (numbers_in rest) ≡ n - 3 = twice ∙ len in
    let is : body (message_at Profiles xs) ≡ drop 3 xs =
    ap (λ (c : ℕ). get_or xs 3 0 ∷ (big_bytes 2 c ++ flat_map (big_bytes 2) (numbers_in rest))) count
    ∙ ap (λ (r : List ℕ). get_or xs 3 0 ∷ (big_bytes 2 (n - 3) ++ r)) (numbers_spelled rest even rest_fits)
    ∙ cons_at xs 3 4 (get_or xs 3 0) (big_bytes 2 (n - 3) ++ rest) (omega arith) (omega arith) refl
    (cons_at xs 4 5 ((n - 3) / 256 % 256) ((n - 3) % 256 ∷ rest) (omega arith) (omega arith) (h.1.1.1.0 (omega arith))
    (cons_at xs 5 6 ((n - 3) % 256) rest (omega arith) (omega arith) (h.1.1.1.1.0 (omega arith)) refl)) in (
      (fits 3, omega arith, omega arith, numbers_fit rest rest_fits),
      spelled_behind (message_at Profiles xs) n xs h.0 h.1.0 h.1.1.0 size is,
    )

whole_record : (xs : List ℕ) → AreOctets xs → IsWhole Record xs → IsMessage (message_at Record xs) × (spelling (message_at Record xs) ≡ xs)
unfolding body
whole_record xs fits w =
    let n : ℕ = w.0 in
    let h = w.1.fixed in
    let bounds = w.1.length in
    let size = w.2 in
    let a : List ℕ = take 16 (drop 3 xs) in
    let rest : List ℕ = drop 21 xs in
    let len : length rest ≡ n - 18 = length-drop 21 xs ∙ omega arith in
    let is : body (message_at Record xs) ≡ drop 3 xs =
    ap (λ (c : ℕ). a ++ big_bytes 2 c ++ rest) len
    ∙ three_parts a (big_bytes 2 (n - 18)) rest
    ∙ piece_at xs 3 16 19 (big_bytes 2 (n - 18) ++ rest) (omega arith)
    (cons_at xs 19 20 ((n - 18) / 256 % 256) ((n - 18) % 256 ∷ rest) (omega arith) (omega arith) (h.1.1.1.0 (omega arith))
    (cons_at xs 20 21 ((n - 18) % 256) rest (omega arith) (omega arith) (h.1.1.1.1.0 (omega arith)) refl)) in (
      ((part-length xs 3 16 (omega arith), part_octets xs 3 16 fits), omega arith, omega arith, AreOctets-drop 21 xs fits),
      spelled_behind (message_at Record xs) n xs h.0 h.1.0 h.1.1.0 size is,
    )

whole_ended : (xs : List ℕ) → AreOctets xs → IsWhole Ended xs → IsMessage (message_at Ended xs) × (spelling (message_at Ended xs) ≡ xs)
unfolding body
whole_ended xs fits w =
    let h = w.1.fixed in
    let bounds : w.0 ≡ 16 = w.1.length in
    let size = w.2 in
    let is : body (message_at Ended xs) ≡ drop 3 xs = last_at xs 3 16 (omega arith) in
    ((part-length xs 3 16 (omega arith), part_octets xs 3 16 fits), spelled_behind (message_at Ended xs) w.0 xs h.0 h.1.0 h.1.1.0 size is)

whole_keys : (profile : Profile) (xs : List ℕ) → AreOctets xs → IsWhole (Keys profile) xs
    → IsMessage (message_at (Keys profile) xs) × (spelling (message_at (Keys profile) xs) ≡ xs)
whole_keys profile xs fits w =
    let k : ℕ = key_length profile in
    let h = w.1.fixed in
    let n-is : w.0 ≡ 47 + 2 * k = w.1.length in
    let size = w.2 in
    let all : length xs ≡ 50 + 2 * k = omega arith in
    let is : body (message_at (Keys profile) xs) ≡ drop 3 xs = keys_body profile xs all h.1.1.1 in (
      (
        (part-length xs 3 16 (omega arith), part_octets xs 3 16 fits),
        record {
          key = part-length xs 23 k (omega arith);
          salt = part-length xs (25 + 2 * k) 12 (omega arith);
          key_octets = part_octets xs 23 k fits;
          salt_octets = part_octets xs (25 + 2 * k) 12 fits;
        },
        record {
          key = part-length xs (24 + k) k (omega arith);
          salt = part-length xs (38 + 2 * k) 12 (omega arith);
          key_octets = part_octets xs (24 + k) k fits;
          salt_octets = part_octets xs (38 + 2 * k) 12 fits;
        },
      ),
      spelled_behind (message_at (Keys profile) xs) w.0 xs h.0 h.1.0 h.1.1.0 size is,
    )

-- whole octets of a form spell a message
pub whole_message : (form : Form) (xs : List ℕ) → AreOctets xs → IsWhole form xs → IsMessage (message_at form xs) × (spelling (message_at form xs) ≡ xs)
whole_message Profiles xs fits w = whole_profiles xs fits w
whole_message Version xs fits w = whole_version xs fits w
whole_message (Keys profile) xs fits w = whole_keys profile xs fits w
whole_message Record xs fits w = whole_record xs fits w
whole_message Ended xs fits w = whole_ended xs fits w

-- ---- from a message to octets

-- What a message's spelling has: whole octets of its form, from which it is read again.
abbrev pub IsReadAgain : TunnelMessage → Type 0
IsReadAgain m = IsWhole (form_in m) (spelling m) × (message_at (form_in m) (spelling m) ≡ m)

again_version : (highest : ℕ) → IsReadAgain (UnsupportedVersion highest)
unfolding spelling body
again_version highest = ((1, record { length = refl; fixed = (λ _. refl, (λ _. refl, (λ _. refl, tt))) }, refl), refl)

again_profiles : (version : ℕ) (profiles : List ℕ) → IsMessage (SupportedProfiles version profiles) → IsReadAgain (SupportedProfiles version profiles)
unfolding spelling body
again_profiles version profiles is =
    let m : TunnelMessage = SupportedProfiles version profiles in
    let flat : length (flat_map (big_bytes 2) profiles) ≡ 2 * length profiles = flat-length profiles in
    let n : ℕ = length (body m) in
    let len : n ≡ 3 + 2 * length profiles = omega arith in
    let count : 2 * length profiles ≡ n - 3 = omega arith in
    let low = is.1 in
    let high = is.2 in (
      (
        n,
        record {
          length = (omega arith, omega arith, omega arith);
          fixed = (λ _. refl, (λ _. refl, (λ _. refl, (λ _. ap (λ (c : ℕ). c / 256 % 256) count, (λ _. ap (λ (c : ℕ). c % 256) count, tt)))));
        },
        omega arith,
      ),
      ap (SupportedProfiles version) (numbers_again profiles is.3),
    )

again_ended : (association : List ℕ) → IsMessage (EndpointDisconnect association) → IsReadAgain (EndpointDisconnect association)
unfolding spelling body
again_ended association is =
    let size = is.0 in
    ((length association, record { length = size; fixed = (λ _. refl, (λ _. refl, (λ _. refl, tt))) }, omega arith), ap EndpointDisconnect (take_all 16 association (omega arith)))

again_record : (association octets : List ℕ) → IsMessage (TunneledDtls association octets) → IsReadAgain (TunneledDtls association octets)
unfolding spelling body
again_record association octets is =
    let m : TunnelMessage = TunneledDtls association octets in
    let xs : List ℕ = spelling m in
    let size : length association ≡ 16 = is.0.0 in
    let c : ℕ = length octets in
    let n : ℕ = length (body m) in
    let d3 : drop 3 xs ≡ association ++ (big_bytes 2 c ++ octets) = three_parts association (big_bytes 2 c) octets in
    let d19 : drop 19 xs ≡ c / 256 % 256 ∷ c % 256 ∷ octets = behind_piece xs 3 16 19 association (big_bytes 2 c ++ octets) (omega arith) size d3 in
    let d20 : drop 20 xs ≡ c % 256 ∷ octets = behind_octet xs 19 20 (c / 256 % 256) (c % 256 ∷ octets) (omega arith) d19 in
    let d21 : drop 21 xs ≡ octets = behind_octet xs 20 21 (c % 256) octets (omega arith) d20 in
    let len : n ≡ 18 + c = ap length d3 ∙ length-append association (big_bytes 2 c ++ octets) ∙ omega arith in
    let count : c ≡ n - 18 = omega arith in
    let low = is.1 in
    let high = is.2 in (
      (
        n,
        record {
          length = (omega arith, omega arith);
          fixed = (
            λ _. refl,
            (
              λ _. refl,
              (
                λ _. refl,
                (
                  λ _. octet_at xs 19 (c / 256 % 256) (c % 256 ∷ octets) d19 ∙ ap (λ (k : ℕ). k / 256 % 256) count,
                  (λ _. octet_at xs 20 (c % 256) octets d20 ∙ ap (λ (k : ℕ). k % 256) count, tt),
                ),
              ),
            ),
          );
        },
        omega arith,
      ),
      ap (λ (a : List ℕ). TunneledDtls a (drop 21 xs)) (piece_is xs 3 16 association (big_bytes 2 c ++ octets) size d3) ∙ ap (TunneledDtls association) d21,
    )

again_keys : (association : List ℕ) (profile : Profile) (client server : KeyAndSalt) → IsMessage (MediaKeys association profile client server)
    → IsReadAgain (MediaKeys association profile client server)
unfolding spelling body
again_keys association profile client server is =
    let m : TunnelMessage = MediaKeys association profile client server in
    let xs : List ℕ = spelling m in
    let k : ℕ = key_length profile in
    let p : ℕ = profile_number profile in
    let n : ℕ = length (body m) in
    let a-len : length association ≡ 16 = is.0.0 in
    let ck-len : length client.key ≡ k = is.1.key in
    let cs-len : length client.salt ≡ 12 = is.1.salt in
    let sk-len : length server.key ≡ k = is.2.key in
    let ss-len : length server.salt ≡ 12 = is.2.salt in
    let r24 : List ℕ = counted client.salt ++ counted server.salt in
    let r23 : List ℕ = counted server.key ++ r24 in
    let r22 : List ℕ = counted client.key ++ r23 in
    let d3 : drop 3 xs ≡ association ++ (big_bytes 2 p ++ (counted [] ++ r22)) =
    seven_parts association (big_bytes 2 p) (counted []) (counted client.key) (counted server.key) (counted client.salt) (counted server.salt) in
    let d19 : drop 19 xs ≡ p / 256 % 256 ∷ p % 256 ∷ 0 ∷ r22 = behind_piece xs 3 16 19 association (big_bytes 2 p ++ (counted [] ++ r22)) (omega arith) a-len d3 in
    let d20 : drop 20 xs ≡ p % 256 ∷ 0 ∷ r22 = behind_octet xs 19 20 (p / 256 % 256) (p % 256 ∷ 0 ∷ r22) (omega arith) d19 in
    let d21 : drop 21 xs ≡ 0 ∷ r22 = behind_octet xs 20 21 (p % 256) (0 ∷ r22) (omega arith) d20 in
    let d22 : drop 22 xs ≡ r22 = behind_octet xs 21 22 0 r22 (omega arith) d21 in
    let d23 : drop 23 xs ≡ client.key ++ r23 = behind_octet xs 22 23 (length client.key) (client.key ++ r23) (omega arith) d22 in
    let e23 : drop (23 + k) xs ≡ r23 = behind_piece xs 23 k (23 + k) client.key r23 (omega arith) ck-len d23 in
    let e24 : drop (24 + k) xs ≡ server.key ++ r24 = behind_octet xs (23 + k) (24 + k) (length server.key) (server.key ++ r24) (omega arith) e23 in
    let f24 : drop (24 + 2 * k) xs ≡ r24 = behind_piece xs (24 + k) k (24 + 2 * k) server.key r24 (omega arith) sk-len e24 in
    let f25 : drop (25 + 2 * k) xs ≡ client.salt ++ counted server.salt =
    behind_octet xs (24 + 2 * k) (25 + 2 * k) (length client.salt) (client.salt ++ counted server.salt) (omega arith) f24 in
    let f37 : drop (37 + 2 * k) xs ≡ counted server.salt = behind_piece xs (25 + 2 * k) 12 (37 + 2 * k) client.salt (counted server.salt) (omega arith) cs-len f25 in
    let f38 : drop (38 + 2 * k) xs ≡ server.salt = behind_octet xs (37 + 2 * k) (38 + 2 * k) (length server.salt) server.salt (omega arith) f37 in
    let left : length xs - (38 + 2 * k) ≡ 12 = sym (length-drop (38 + 2 * k) xs) ∙ ap length f38 ∙ ss-len in
    let size : n ≡ 47 + 2 * k = omega (arith, left) in
    let e0 : take 16 (drop 3 xs) ≡ association = piece_is xs 3 16 association (big_bytes 2 p ++ (counted [] ++ r22)) a-len d3 in
    let e1 : take k (drop 23 xs) ≡ client.key = piece_is xs 23 k client.key r23 ck-len d23 in
    let e2 : take 12 (drop (25 + 2 * k) xs) ≡ client.salt = piece_is xs (25 + 2 * k) 12 client.salt (counted server.salt) cs-len f25 in
    let e3 : take k (drop (24 + k) xs) ≡ server.key = piece_is xs (24 + k) k server.key r24 sk-len e24 in
    let e4 : take 12 (drop (38 + 2 * k) xs) ≡ server.salt = ap (take 12) f38 ∙ take_all 12 server.salt (omega arith) in (
      (
        n,
        record {
          length = size;
          fixed = (
            λ _. refl,
            (
              λ _. refl,
              (
                λ _. refl,
                (
                  λ _. octet_at xs 19 (p / 256 % 256) (p % 256 ∷ 0 ∷ r22) d19,
                  (
                    λ _. octet_at xs 20 (p % 256) (0 ∷ r22) d20,
                    (
                      λ _. octet_at xs 21 0 r22 d21,
                      (
                        λ _. octet_at xs 22 (length client.key) (client.key ++ r23) d22 ∙ ck-len,
                        (
                          λ _. octet_at xs (23 + k) (length server.key) (server.key ++ r24) e23 ∙ sk-len,
                          (
                            λ _. octet_at xs (24 + 2 * k) (length client.salt) (client.salt ++ counted server.salt) f24 ∙ cs-len,
                            (λ _. octet_at xs (37 + 2 * k) (length server.salt) server.salt f37 ∙ ss-len, tt),
                          ),
                        ),
                      ),
                    ),
                  ),
                ),
              ),
            ),
          );
        },
        omega arith,
      ),
      λ i. MediaKeys (e0 i) profile (record { key = e1 i; salt = e2 i }) (record { key = e3 i; salt = e4 i }),
    )

-- a message is spelled by whole octets of its form, from which it is read again
pub read_again : (m : TunnelMessage) → IsMessage m → IsReadAgain m
read_again (SupportedProfiles version profiles) is = again_profiles version profiles is
read_again (UnsupportedVersion highest) is = again_version highest
read_again (MediaKeys association profile client server) is = again_keys association profile client server is
read_again (TunneledDtls association octets) is = again_record association octets is
read_again (EndpointDisconnect association) is = again_ended association is
