-- Packets that are built part after part.
use Rattle.std.proofs.Common.{◌≡◌, ℕ, ◌+◌, ◌-◌, ◌*◌, ◌/◌, ◌%◌, ◌<◌, ◌≤◌, Bool, true, false, List, [], ◌++◌, length, take, drop, map, get_or, set, bit_or, Some, refl, sym, ap, ◌∙◌, append_assoc, arith}
use Rattle.std.specs.Prelude.{Result, Ok}
use Rattle.std.specs.List.{flat_map, range_with_len}
use Rattle.std.proofs.lemmas.List.{append-nil, drop-drop, drop_all, drop_at, length-append, length-drop, length-take, take-append-drop, take_at, take_rest}
use Rattle.std.proofs.lemmas.List.FromFn.{get_or-map-range_with_len}
use borrow.Rule.Slice.PartMut.{put_mid}
use Rattle.byteorder.specs.Endian.{big_bytes}
use Rattle.perc_kdf.specs.Derivation.{KeyAndSalt}
use Rattle.perc_rtp.specs.declared.head.RtpFault.{RtpFault}
use Rattle.perc_rtp.specs.declared.head.RtpHead.{RtpHead}
use Rattle.perc_rtp.specs.Header.{Header, IsExtension, IsHeader, IsPacket, bit, extension_octets, first_octet, fixed_octets, head_of, spelling}
use Rattle.perc_rtp.specs.Fields.{cut, with_extension}
use Rattle.perc_rtp.proofs.HeaderLaws.{IsHeader-cut}
use Rattle.perc_srtp.specs.Sealed.{sealed_body}
use Rattle.perc_double.specs.Double.{inner}

-- ---- the header

-- where the header ends that was read
pub head_len : (h : Header) (answer : Result RtpHead RtpFault) (head : RtpHead) → answer ≡ Ok (head_of h) → answer ≡ Ok head → head.len ≡ length (spelling h)
head_len h answer head is read =
    let same : head ≡ head_of h = cc in ap (λ (r : RtpHead). r.len) same

-- the first octet with the bit X set
pub extension_bit_set : (octet : ℕ) → octet < 256 → bit_or octet 16 ≡ 32 * (octet / 32) + 16 + octet % 16
extension_bit_set octet fits =
    let f = λ (x : ℕ). bit_or x 16 in
    let g = λ (x : ℕ). 32 * (x / 32) + 16 + x % 16 in
    let same : map f (range_with_len 0 256) ≡ map g (range_with_len 0 256) = refl in
    sym (get_or-map-range_with_len f 0 256 octet octet 0 fits (omega arith))
    ∙ ap (λ (xs : List ℕ). get_or xs octet 0) same
    ∙ get_or-map-range_with_len g 0 256 octet octet 0 fits (omega arith)

-- a header copied from the front of its packet
pub header_kept : (h : Header) (rest packet new behind : List ℕ) (n : ℕ) → IsPacket h rest packet → n ≡ length (spelling h) → new ≡ take n packet → IsPacket h [] (take n (new ++ behind))
header_kept h rest packet new behind n is n_is new_is =
    let front : new ≡ spelling h = new_is ∙ ap (take n) is.octets ∙ take_at (spelling h) rest n (sym n_is) in
    record {
      header = is.header;
      octets = ap (λ (xs : List ℕ). take n (xs ++ behind)) front ∙ take_at (spelling h) behind n (sym n_is) ∙ sym (append-nil (spelling h));
    }

bit-le : (b : Bool) → bit b ≤ 1
bit-le true = omega arith
bit-le false = omega arith

-- A cut header with the bit X set, and an extension behind it.
extension_behind : (h : Header) (e : ℕ × List ℕ) (octet : ℕ) → IsHeader h
    → octet ≡ 32 * (first_octet (cut h) / 32) + 16 + first_octet (cut h) % 16 → set (spelling (cut h)) 0 octet ++ extension_octets (Some e) ≡ spelling (with_extension (Some e) h)
unfolding spelling
extension_behind h e octet is octet_is =
    let one = bit-le h.padding in
    let few = is.csrc_count in
    let value : octet ≡ first_octet (with_extension (Some e) h) = omega arith in
    let front : set (spelling (cut h)) 0 octet ≡ set (fixed_octets (cut h) ++ flat_map (big_bytes 4) h.csrcs) 0 octet =
    ap (λ (xs : List ℕ). set xs 0 octet) (append-nil (fixed_octets (cut h) ++ flat_map (big_bytes 4) h.csrcs)) in
    ap (λ (xs : List ℕ). xs ++ extension_octets (Some e)) front
    ∙ ap (λ (x : ℕ). set (fixed_octets (cut h) ++ flat_map (big_bytes 4) h.csrcs) 0 x ++ extension_octets (Some e)) value

-- the first octet set in front of a rest
front_set : (h : Header) (rest : List ℕ) (octet : ℕ) → set (spelling h ++ rest) 0 octet ≡ set (spelling h) 0 octet ++ rest
unfolding spelling
front_set h rest octet = refl

front_octet : (h : Header) (rest : List ℕ) → get_or (spelling h ++ rest) 0 0 ≡ first_octet h
unfolding spelling
front_octet h rest = refl

front_length : (h : Header) (octet : ℕ) → length (set (spelling h) 0 octet) ≡ length (spelling h)
unfolding spelling
front_length h octet = refl

pub extension_put : (h : Header) (profile : ℕ) (words out part more behind : List ℕ) (n octet : ℕ) → IsPacket (cut h) [] (take n out) → IsHeader h → IsExtension (profile, words) → n ≤ length out
    → octet ≡ 32 * (get_or out 0 0 / 32) + 16 + get_or out 0 0 % 16 → part ≡ extension_octets (Some (profile, words)) ++ more
    → IsPacket (with_extension (Some (profile, words)) h) [] (take (n + 4 + length words) (take n (set out 0 octet) ++ (part ++ behind)))
extension_put h profile words out part more behind n octet is header fits within octet_is part_is =
    let s : List ℕ = spelling (cut h) in
    let e : List ℕ = extension_octets (Some (profile, words)) in
    let z : List ℕ = set s 0 octet in
    let front : take n out ≡ s = is.octets ∙ append-nil s in
    let n_is : length s ≡ n = sym (ap length front) ∙ omega (arith, length-take n out) in
    let whole : out ≡ s ++ drop n out = sym (take-append-drop n out) ∙ ap (λ (xs : List ℕ). xs ++ drop n out) front in
    let first : get_or out 0 0 ≡ first_octet (cut h) = ap (λ (xs : List ℕ). get_or xs 0 0) whole ∙ front_octet (cut h) (drop n out) in
    let value : octet ≡ 32 * (first_octet (cut h) / 32) + 16 + first_octet (cut h) % 16 = octet_is ∙ ap (λ (x : ℕ). 32 * (x / 32) + 16 + x % 16) first in
    let z_long : length z ≡ n = front_length (cut h) octet ∙ n_is in
    let marked : take n (set out 0 octet) ≡ z =
    ap (λ (xs : List ℕ). take n (set xs 0 octet)) whole ∙ ap (take n) (front_set (cut h) (drop n out) octet) ∙ take_at z (drop n out) n z_long in
    let grouped : take n (set out 0 octet) ++ (part ++ behind) ≡ (z ++ e) ++ (more ++ behind) = rw (marked, part_is) (simp append_assoc) in
    let long : length (z ++ e) ≡ n + 4 + length words = length-append z e ∙ omega arith in
    record {
      header = record {
        pt = header.pt;
        seq = header.seq;
        timestamp = header.timestamp;
        ssrc = header.ssrc;
        csrc_count = header.csrc_count;
        csrcs = header.csrcs;
        extension = fits;
      };
      octets = ap (take (n + 4 + length words)) grouped
          ∙ take_at (z ++ e) (more ++ behind) (n + 4 + length words) long
          ∙ extension_behind h (profile, words) octet header value
          ∙ sym (append-nil (spelling (with_extension (Some (profile, words)) h)));
    }

-- ---- the inner octets

-- the cut header at the front of a list
pub front_header : (h : Header) (out behind : List ℕ) (n : ℕ) → IsHeader h → n ≡ length (spelling (cut h)) → out ≡ spelling (cut h) ++ behind → IsPacket (cut h) [] (take n out)
front_header h out behind n header n_is out_is = record {
  header = IsHeader-cut h header;
  octets = ap (take n) out_is ∙ take_at (spelling (cut h)) behind n (sym n_is) ∙ sym (append-nil (spelling (cut h)));
}

-- What stands behind the header of a packet was sealed over the cut header.
pub record IsSealedText (keys : KeyAndSalt) (index : ℕ) (h : Header) (body packet mid new tag : List ℕ) (n : ℕ) : Type 0 where
  pub reads : IsPacket h body packet
  pub len : n ≡ length (spelling h)
  pub text : mid ≡ take (length packet - n) (drop n packet)
  pub is_sealed : new ++ tag ≡ sealed_body keys index (cut h) mid

pub text_sealed : (keys : KeyAndSalt) (index : ℕ) (h : Header) (body packet mid new tag : List ℕ) (n : ℕ) → IsSealedText keys index h body packet mid new tag n
    → (take n packet ++ (new ++ drop (length packet - n) (drop n packet))) ++ tag ≡ spelling h ++ inner keys index h body
text_sealed keys index h body packet mid new tag n is =
    let front : take n packet ≡ spelling h = ap (take n) is.reads.octets ∙ take_at (spelling h) body n (sym is.len) in
    let behind : drop n packet ≡ body = ap (drop n) is.reads.octets ∙ drop_at (spelling h) body n (sym is.len) in
    let text : mid ≡ body = is.text ∙ take_rest packet n ∙ behind in
    let none : drop (length packet - n) (drop n packet) ≡ [] = drop_all (length packet - n) (drop n packet) (omega (arith, length-drop n packet)) in
    rw (front, none)
    (append_assoc (spelling h) (new ++ []) tag
    ∙ ap (λ (xs : List ℕ). spelling h ++ (xs ++ tag)) (append-nil new)
    ∙ ap (λ (xs : List ℕ). spelling h ++ xs) (is.is_sealed ∙ ap (sealed_body keys index (cut h)) text))

-- a text and a tag written over the front of a list
put_behind : (text end old : List ℕ) (len : ℕ) → length text ≡ len → put_mid len (len + 16 - len) (text ++ drop len old) end ≡ (text ++ end) ++ drop (len + 16) old
put_behind text end old len long =
    let behind : drop len (text ++ drop len old) ≡ drop len old = drop_at text (drop len old) len long in
    let after : drop (len + 16 - len) (drop len (text ++ drop len old)) ≡ drop (len + 16) old =
    ap (drop (len + 16 - len)) behind ∙ drop-drop (len + 16 - len) len old ∙ ap (λ (n : ℕ). drop n old) (omega arith) in
    ap (λ (xs : List ℕ). xs ++ (end ++ drop (len + 16 - len) (drop len (text ++ drop len old)))) (take_at text (drop len old) len long)
    ∙ ap (λ (xs : List ℕ). text ++ (end ++ xs)) after
    ∙ sym (append_assoc text end (drop (len + 16) old))

-- A text of `len` octets and its tag, together s and i, stand at the front of `whole`.
pub record IsTagged (text end old s i whole : List ℕ) (len : ℕ) : Type 0 where
  pub text_long : length text ≡ len
  pub end_long : length end ≡ 16
  pub parts : text ++ end ≡ s ++ i
  pub is_put : whole ≡ put_mid len (len + 16 - len) (text ++ drop len old) end

-- and a block behind them
pub inner_put : (text end old s i b whole : List ℕ) (len n : ℕ) → IsTagged text end old s i whole len → n ≡ len + 17
    → (take (len + 16) whole ++ b) ++ drop n whole ≡ (s ++ (i ++ b)) ++ drop (len + 17) old
inner_put text end old s i b whole len n t n_is =
    let w : List ℕ = s ++ i in
    let end_long = t.end_long in
    let text_long = t.text_long in
    let is : whole ≡ w ++ drop (len + 16) old = t.is_put ∙ put_behind text end old len text_long ∙ ap (λ (xs : List ℕ). xs ++ drop (len + 16) old) t.parts in
    let long : length w ≡ len + 16 = sym (ap length t.parts) ∙ omega (arith, length-append text end) in
    let front : take (len + 16) whole ≡ w = ap (take (len + 16)) is ∙ take_at w (drop (len + 16) old) (len + 16) long in
    let one : drop (len + 16) whole ≡ drop (len + 16) old = ap (drop (len + 16)) is ∙ drop_at w (drop (len + 16) old) (len + 16) long in
    let offset : len + 16 + 1 ≡ n = omega arith in
    let after : drop n whole ≡ drop (len + 17) old =
    ap (λ (k : ℕ). drop k whole) (sym offset) ∙ sym (drop-drop 1 (len + 16) whole) ∙ ap (drop 1) one ∙ drop-drop 1 (len + 16) old ∙ ap (λ (k : ℕ). drop k old) (omega arith) in
    rw (front, after) (ap (λ (xs : List ℕ). xs ++ drop (len + 17) old) (append_assoc s i b))

-- a packet in front of a rest of the list that it stands in
pub front_packet : (h : Header) (rest old new : List ℕ) (len n : ℕ) → IsHeader h → n ≡ len → len ≤ length old → length new ≡ length old
    → new ≡ (spelling h ++ rest) ++ drop len old → IsPacket h rest (take n new)
front_packet h rest old new len n header n_is within long new_is =
    let w : List ℕ = spelling h ++ rest in
    let w_long : length w ≡ n = omega (arith, ap length new_is, length-append w (drop len old), length-drop len old) in
    record { header = header; octets = ap (take n) new_is ∙ take_at w (drop len old) n w_long }

-- what stands behind the octets that were put behind a packet, once the tag is behind them
pub after_tag : (w old new : List ℕ) (len n : ℕ) → n ≡ len + 17 → length w ≡ n → new ≡ w ++ drop (len + 17) old → drop (n + 16) new ≡ drop (len + 33) old
after_tag w old new len n n_is long new_is =
    sym (drop-drop 16 n new)
    ∙ ap (λ (xs : List ℕ). drop 16 (drop n xs)) new_is
    ∙ ap (drop 16) (drop_at w (drop (len + 17) old) n long)
    ∙ drop-drop 16 (len + 17) old
    ∙ ap (λ (k : ℕ). drop k old) (omega arith)

-- Octets were put behind the first `at` of a list, and a block b behind them.
pub record IsPut (octets mid b out behind whole rest new : List ℕ) (at last n : ℕ) : Type 0 where
  pub within : at ≤ length out
  pub last_is : last ≡ at + length octets
  pub n_is : n ≡ last + length b
  pub mid_is : mid ≡ octets
  pub octets_put : whole ≡ take at out ++ (mid ++ behind)
  pub block_put : new ≡ (take last whole ++ b) ++ rest

pub body_put : (octets mid b out behind whole rest new : List ℕ) (at last n : ℕ) → IsPut octets mid b out behind whole rest new at last n
    → take n new ≡ take at out ++ (octets ++ b)
body_put octets mid b out behind whole rest new at last n p =
    let w : List ℕ = take at out ++ octets in
    let within = p.within in
    let last_is = p.last_is in
    let n_is = p.n_is in
    let w_long : length w ≡ last = length-append (take at out) octets ∙ omega (arith, length-take at out) in
    let grouped : whole ≡ w ++ behind =
    p.octets_put ∙ ap (λ (xs : List ℕ). take at out ++ (xs ++ behind)) p.mid_is ∙ sym (append_assoc (take at out) octets behind) in
    let front : take last whole ≡ w = ap (take last) grouped ∙ take_at w behind last w_long in
    let long : length (w ++ b) ≡ n = length-append w b ∙ omega arith in
    ap (take n) (p.block_put ∙ ap (λ (xs : List ℕ). (xs ++ b) ++ rest) front)
    ∙ take_at (w ++ b) rest n long
    ∙ append_assoc (take at out) octets b
