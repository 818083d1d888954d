-- Octets that are written one part after the other, and how many a message's body has.
use Rattle.std.proofs.Common.{◌≡◌, ℕ, ◌+◌, ◌-◌, ◌*◌, ◌≤◌, List, [], ◌∷◌, ◌++◌, length, take, drop, set, get_or, refl, sym, ap, ◌∙◌, append_assoc, arith}
use Rattle.std.proofs.lemmas.List.{append-nil, take_at, drop_at, take_rest, drop_all, drop-drop, drop_more, set_at, length-append, length-drop}
use borrow.Rule.Slice.PartMut.{put_mid, mid_of}
use Rattle.byteorder.specs.Endian.{big_bytes}
use Rattle.perc_base.specs.Profile.{profile_number}
use Rattle.perc_tunnel.specs.Message.{TunnelMessage, SupportedProfiles, UnsupportedVersion, MediaKeys, TunneledDtls, EndpointDisconnect, IsMessage, counted, body, spelling, body_length, HasLengths, message_length}
use Rattle.perc_tunnel.proofs.Octets.{flat-length}
use Rattle.perc_tunnel.proofs.Pieces.{seven_parts}

-- Behind what was written, one part more was written to the front of the rest.
pub written_more : (w b old new part : List ℕ) (n k : ℕ) → length w ≡ n → length b ≡ k → n + k ≤ length old → new ≡ w ++ drop n old
    → part ≡ b ++ drop k (mid_of n (length new - n) new) → put_mid n (length new - n) new part ≡ (w ++ b) ++ drop (n + k) old
written_more w b old new part n k lw lb fits is_new is_part =
    let rest : drop n new ≡ drop n old = ap (drop n) is_new ∙ drop_at w (drop n old) n lw in
    let front : take n new ≡ w = ap (take n) is_new ∙ take_at w (drop n old) n lw in
    let mid : take (length new - n) (drop n new) ≡ drop n old = take_rest new n ∙ rest in
    let behind : drop (length new - n) (drop n new) ≡ [] = drop_all (length new - n) (drop n new) (omega (arith, length-drop n new)) in
    let whole : part ≡ b ++ drop (n + k) old = is_part ∙ ap (λ (r : List ℕ). b ++ drop k r) mid ∙ ap (λ (r : List ℕ). b ++ r) (drop-drop k n old) in
    ap (λ (r : List ℕ). take n new ++ (part ++ r)) behind
    ∙ ap (λ (r : List ℕ). take n new ++ r) (append-nil part ∙ whole)
    ∙ ap (λ (r : List ℕ). r ++ (b ++ drop (n + k) old)) front
    ∙ sym (append_assoc w b (drop (n + k) old))

-- or one octet
pub set_more : (w old new : List ℕ) (n y : ℕ) → length w ≡ n → n + 1 ≤ length old → new ≡ w ++ drop n old → set new n y ≡ (w ++ y ∷ []) ++ drop (n + 1) old
set_more w old new n y lw fits is_new =
    let split : new ≡ w ++ get_or old n 0 ∷ drop (n + 1) old = is_new ∙ ap (λ (r : List ℕ). w ++ r) (drop_more old n 0 (omega arith)) in
    ap (λ (l : List ℕ). set l n y) split ∙ set_at w (get_or old n 0) (drop (n + 1) old) y n lw ∙ sym (append_assoc w (y ∷ []) (drop (n + 1) old))

pub set_first : (old : List ℕ) (y : ℕ) → 1 ≤ length old → set old 0 y ≡ (y ∷ []) ++ drop 1 old
set_first old y fits = set_more [] old old 0 y refl fits refl

pub counted-length : (octets : List ℕ) (n : ℕ) → length octets ≡ n → length (counted octets) ≡ 1 + n
counted-length octets n e = omega (arith, e)

pub body-length : (m : TunnelMessage) → IsMessage m → length (body m) ≡ body_length m
unfolding body
body-length (SupportedProfiles version profiles) is = omega (arith, flat-length profiles)
body-length (UnsupportedVersion highest) is = refl
body-length (MediaKeys association profile client server) is =
    let n : ℕ = profile_number profile in
    let r4 : List ℕ = counted client.salt ++ counted server.salt in
    let r3 : List ℕ = counted server.key ++ r4 in
    let r2 : List ℕ = counted client.key ++ r3 in
    let whole = ap length (seven_parts association (big_bytes 2 n) (counted []) (counted client.key) (counted server.key) (counted client.salt) (counted server.salt)) in
    let a : length association ≡ 16 = is.0.0 in
    let c = is.1 in
    let s = is.2 in
    let l1 = length-append association (big_bytes 2 n ++ (counted [] ++ r2)) in
    let l2 = length-append (counted client.key) r3 in
    let l3 = length-append (counted server.key) r4 in
    let l4 = length-append (counted client.salt) (counted server.salt) in
    omega (arith, whole, l1, l2, l3, l4, c.key, c.salt, s.key, s.salt)
body-length (TunneledDtls association octets) is =
    let a : length association ≡ 16 = is.0.0 in
    omega (arith, length-append (association ++ big_bytes 2 (length octets)) octets, length-append association (big_bytes 2 (length octets)))
body-length (EndpointDisconnect association) is = is.0

pub spelling-length : (m : TunnelMessage) → IsMessage m → length (spelling m) ≡ message_length m
unfolding spelling
spelling-length m is = omega (arith, body-length m is)

pub has_lengths : (m : TunnelMessage) → IsMessage m → HasLengths m
has_lengths (SupportedProfiles version profiles) is = (is.1, is.2)
has_lengths (UnsupportedVersion highest) is = tt
has_lengths (MediaKeys association profile client server) is = (is.1.key, is.2.key)
has_lengths (TunneledDtls association octets) is = (is.1, is.2)
has_lengths (EndpointDisconnect association) is = tt

-- or octets behind their count
counted_more : (w b old new part : List ℕ) (n m : ℕ) → length w ≡ n → m ≡ n + (1 + length b) → m ≤ length old → new ≡ w ++ drop n old
    → part ≡ counted b ++ drop (1 + length b) (mid_of n (length new - n) new) → put_mid n (length new - n) new part ≡ (w ++ counted b) ++ drop m old
counted_more w b old new part n m size next fits is_new is_part =
    written_more w (counted b) old new part n (1 + length b) size (counted-length b (length b) refl) (omega (arith, next, fits)) is_new is_part
    ∙ ap (λ (z : ℕ). (w ++ counted b) ++ drop z old) (sym next)

-- keys, of which the name, the number and the zero stand in front
pub keys_written : (a ck sk cs ss old o1 p1 p2 p3 p4 : List ℕ) (n k : ℕ) → length a ≡ 16 → length ck ≡ k → length sk ≡ k → length cs ≡ 12 → length ss ≡ 12
    → 47 + 2 * k ≤ length old
    → o1 ≡ (a ++ big_bytes 2 n) ++ drop 18 old
    → p1 ≡ counted ck ++ drop (1 + length ck) (mid_of 19 (length (set o1 18 0) - 19) (set o1 18 0))
    → p2 ≡ counted sk ++ drop (1 + length sk)
    (mid_of (20 + k) (length (put_mid 19 (length (set o1 18 0) - 19) (set o1 18 0) p1) - (20 + k)) (put_mid 19 (length (set o1 18 0) - 19) (set o1 18 0) p1))
    → (o4 : List ℕ)
    → o4 ≡ put_mid (20 + k) (length (put_mid 19 (length (set o1 18 0) - 19) (set o1 18 0) p1) - (20 + k)) (put_mid 19 (length (set o1 18 0) - 19) (set o1 18 0) p1) p2
    → p3 ≡ counted cs ++ drop (1 + length cs) (mid_of (21 + 2 * k) (length o4 - (21 + 2 * k)) o4)
    → (o5 : List ℕ)
    → o5 ≡ put_mid (21 + 2 * k) (length o4 - (21 + 2 * k)) o4 p3
    → p4 ≡ counted ss ++ drop (1 + length ss) (mid_of (34 + 2 * k) (length o5 - (34 + 2 * k)) o5)
    → put_mid (34 + 2 * k) (length o5 - (34 + 2 * k)) o5 p4
    ≡ (a ++ big_bytes 2 n ++ counted [] ++ counted ck ++ counted sk ++ counted cs ++ counted ss) ++ drop (47 + 2 * k) old
keys_written a ck sk cs ss old o1 p1 p2 p3 p4 n k la lck lsk lcs lss fits e1 f1 f2 o4 e4 f3 o5 e5 f4 =
    let w1 : List ℕ = a ++ big_bytes 2 n in
    let w2 : List ℕ = w1 ++ counted [] in
    let w3 : List ℕ = w2 ++ counted ck in
    let w4 : List ℕ = w3 ++ counted sk in
    let w5 : List ℕ = w4 ++ counted cs in
    let o2 : List ℕ = set o1 18 0 in
    let o3 : List ℕ = put_mid 19 (length o2 - 19) o2 p1 in
    let l1 : length w1 ≡ 18 = omega (arith, length-append a (big_bytes 2 n)) in
    let l2 : length w2 ≡ 19 = omega (arith, length-append w1 (counted [])) in
    let l3 : length w3 ≡ 20 + k = omega (arith, length-append w2 (counted ck)) in
    let l4 : length w4 ≡ 21 + 2 * k = omega (arith, length-append w3 (counted sk)) in
    let l5 : length w5 ≡ 34 + 2 * k = omega (arith, length-append w4 (counted cs)) in
    let g2 : o2 ≡ w2 ++ drop 19 old = set_more w1 old o1 18 0 l1 (omega arith) e1 in
    let g3 : o3 ≡ w3 ++ drop (20 + k) old = counted_more w2 ck old o2 p1 19 (20 + k) l2 (omega arith) (omega arith) g2 f1 in
    let g4 : o4 ≡ w4 ++ drop (21 + 2 * k) old =
    e4 ∙ counted_more w3 sk old o3 p2 (20 + k) (21 + 2 * k) l3 (omega arith) (omega arith) g3 f2 in
    let g5 : o5 ≡ w5 ++ drop (34 + 2 * k) old =
    e5 ∙ counted_more w4 cs old o4 p3 (21 + 2 * k) (34 + 2 * k) l4 (omega arith) (omega arith) g4 f3 in
    counted_more w5 ss old o5 p4 (34 + 2 * k) (47 + 2 * k) l5 (omega arith) (omega arith) g5 f4
