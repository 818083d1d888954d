-- What is told, from what stands in the octets; and answers by what was found.
use Rattle.std.proofs.Common.{◌≡◌, ℕ, ◌+◌, ◌-◌, ◌≤◌, List, ◌++◌, length, take, drop, Result, Ok, Err, refl, sym, ap, ◌∙◌, append_assoc, arith, ◌<◌}
use Rattle.std.specs.Prelude.{MatchResult, IfSome}
use Rattle.std.proofs.lemmas.List.{drop-take, drop_at, length-append, length-take, take_at, take-append-le, take-take}
use Rattle.perc_rtp.specs.Header.{Header, spelling}
use Rattle.perc_srtp.specs.Ends.{Stream}
use Rattle.perc_srtp.specs.Sealed.{BeginsWith}
use Rattle.perc_ohb.specs.Block as ohb
use Rattle.perc_ohb.specs.declared.block.Ohb.{Ohb}
use Rattle.perc_ekt.specs.Field as ekt
use Rattle.perc_ekt.specs.declared.field.EktField.{EktField}
use Rattle.perc_outer.specs.declared.fault.OuterFault.{OuterFault}
use Rattle.perc_outer.specs.Streams.{OuterStream, with_index}
use Rattle.perc_outer.specs.Datagram.{Opened}
use Rattle.perc_outer.specs.Kept.{IsInRange, IsTold, IsUnsealed, StandsFor}
use Rattle.perc_outer.proofs.Datagrams.{field_behind}

-- ---- answers

-- what was refused wasn't found
pub refused_by : {A B E : Type 0} (found : Result A E) (fault : E) (told : A → B)
    → MatchResult found (λ a. ◌≡◌ {A = Result B E} (Err fault) (Ok (told a))) (λ f. ◌≡◌ {A = Result B E} (Err fault) (Err f)) → found ≡ Err fault
refused_by (Ok a) fault told is = absurd (cc)
refused_by (Err f) fault told is = cc

-- and what was answered was
pub answered_by : {A B E : Type 0} (found : Result A E) (value : B) (told : A → B)
    → MatchResult found (λ a. ◌≡◌ {A = Result B E} (Ok value) (Ok (told a))) (λ f. ◌≡◌ {A = Result B E} (Ok value) (Err f)) → (a : A) × (found ≡ Ok a) × (value ≡ told a)
answered_by (Ok a) value told is = (a, refl, cc)
answered_by (Err f) value told is = absurd (cc)

pub unsealed_refused : (h : Header) (before : List OuterStream) (opened : Result (ℕ × List ℕ) OuterFault) (fault : OuterFault) (kept : List Stream) (octets : List ℕ)
    → IsUnsealed h before opened (Err fault) kept octets → opened ≡ Err fault
unsealed_refused h before (Ok o) fault kept octets is = let told = is.0 in absurd (cc)
unsealed_refused h before (Err f) fault kept octets is = cc

-- what an opened packet is
pub record HasOpened (h : Header) (before : List OuterStream) (opened : Result (ℕ × List ℕ) OuterFault) (len : ℕ) (kept : List Stream) (octets : List ℕ) : Type 0 where
  pub index : ℕ
  pub body : List ℕ
  pub opens : opened ≡ Ok (index, body)
  pub long : len ≡ length (spelling h ++ body)
  pub front : BeginsWith (spelling h ++ body) octets
  pub stands : StandsFor kept (with_index h.ssrc index before)

same_len : (a b : ℕ) → ◌≡◌ {A = Result ℕ OuterFault} (Ok a) (Ok b) → a ≡ b
same_len a b is = cc

pub has_opened : (h : Header) (before : List OuterStream) (opened : Result (ℕ × List ℕ) OuterFault) (len : ℕ) (kept : List Stream) (octets : List ℕ)
    → IsUnsealed h before opened (Ok len) kept octets → HasOpened h before opened len kept octets
has_opened h before (Ok o) len kept octets is =
    record { index = o.0; body = o.1; opens = refl; long = same_len len (length (spelling h ++ o.1)) is.0; front = is.1; stands = is.2 }
has_opened h before (Err f) len kept octets is = absurd (cc)

-- ---- the octets

front_within : (front octets : List ℕ) → BeginsWith front octets → length front ≤ length octets
front_within front octets is = omega (arith, ap length is, length-take (length front) octets)

-- what stands behind the header of an opened packet
pub body_at : (h : Header) (body octets more : List ℕ) (len cut : ℕ) → BeginsWith (spelling h ++ body) octets → len ≡ length (spelling h ++ body)
    → cut ≡ length (spelling h) → take (len - cut) (drop cut (octets ++ more)) ≡ body
body_at h body octets more len cut front long cut_is =
    let size = length-append (spelling h) body in
    let split : cut + (len - cut) ≡ len = omega arith in
    let within : len ≤ length octets = omega (arith, front_within (spelling h ++ body) octets front) in
    let whole : take len (octets ++ more) ≡ spelling h ++ body =
    take-append-le len octets more within ∙ ap (λ (n : ℕ). take n octets) long ∙ front in
    sym (drop-take cut (len - cut) (octets ++ more)) ∙ ap (λ (n : ℕ). drop cut (take n (octets ++ more))) split ∙ ap (drop cut) whole
    ∙ drop_at (spelling h) body cut (sym cut_is)

-- The octets are those of an opened packet with a field 16 octets behind it.
pub record Stand (o : Opened) (octets : List ℕ) (len : ℕ) : Type 0 where
  pub front : take len octets ≡ spelling o.header ++ (o.inner ++ ohb.spelling o.block)
  pub long : len ≡ length (spelling o.header ++ (o.inner ++ ohb.spelling o.block))
  pub behind : drop (len + 16) octets ≡ ekt.spelling o.field

pub is_told : (o : Opened) (octets : List ℕ) (header block len : ℕ) (field : EktField) → Stand o octets len → header ≡ length (spelling o.header)
    → block + length (ohb.spelling o.block) ≡ len → field ≡ ekt.told_of o.field (len + 16)
    → IsTold (record { header = header; block = block; len = len; ohb = o.block; field = field }) o octets
is_told o octets header block len field s header_is block_is field_is =
    let parts : List ℕ = spelling o.header in
    let last : List ℕ = ohb.spelling o.block in
    let size = length-append parts (o.inner ++ last) in
    let rest = length-append o.inner last in
    let whole : take len octets ≡ (parts ++ o.inner) ++ last = s.front ∙ sym (append_assoc parts o.inner last) in
    let upto : take block octets ≡ parts ++ o.inner =
    sym (take-take block len octets (omega arith)) ∙ ap (take block) whole ∙ take_at (parts ++ o.inner) last block (omega (arith, length-append parts o.inner)) in
    record {
      header = sym (take-take header len octets (omega arith)) ∙ ap (take header) s.front ∙ take_at parts (o.inner ++ last) header (sym header_is);
      header_len = header_is;
      inner = ap (drop header) upto ∙ drop_at parts o.inner header (sym header_is);
      block = refl;
      packet = whole;
      field = field_is;
      field_octets = s.behind;
    }

-- where a packet was opened in a datagram
pub stand : (o : Opened) (body octets datagram : List ℕ) (len end : ℕ) → BeginsWith (spelling o.header ++ body) octets → len ≡ length (spelling o.header ++ body)
    → body ≡ o.inner ++ ohb.spelling o.block → len + 16 ≡ end → length octets ≡ end → end ≤ length datagram → ekt.IsDatagram (take end datagram) o.field datagram
    → Stand o (octets ++ drop end datagram) len
stand o body octets datagram len end front long body_is end_is size within is =
    let whole : spelling o.header ++ body ≡ spelling o.header ++ (o.inner ++ ohb.spelling o.block) = ap (λ (xs : List ℕ). spelling o.header ++ xs) body_is in
    let inside : len ≤ length octets = omega arith in
    let packet : length (take end datagram) ≡ end = omega (arith, length-take end datagram) in
    record {
      front = take-append-le len octets (drop end datagram) inside ∙ ap (λ (n : ℕ). take n octets) long ∙ front ∙ whole;
      long = long ∙ ap length whole;
      behind = drop_at octets (drop end datagram) (len + 16) (size ∙ sym end_is) ∙ ap (λ (n : ℕ). drop n datagram) (sym packet) ∙ field_behind (take end datagram) o.field datagram is;
    }

-- the block's offset
pub block_in : (o : Opened) (octets : List ℕ) (len n : ℕ) → Stand o octets len → n ≡ length (ohb.spelling o.block) → len - n + length (ohb.spelling o.block) ≡ len
block_in o octets len n s n_is =
    omega (arith, s.long, length-append (spelling o.header) (o.inner ++ ohb.spelling o.block), length-append o.inner (ohb.spelling o.block))

-- what is told is in range
pub in_range : (head_len block_len len end : ℕ) (block : Ohb) (told : EktField) (f : ekt.Field) (new datagram : List ℕ) → head_len ≤ len → 1 ≤ block_len
    → block_len ≤ len - head_len → len + 16 ≡ end → length new ≡ end → end ≤ length datagram → IfSome block.pt (λ pt. pt < 128)
    → ekt.IsDatagram (take end datagram) f datagram → told ≡ ekt.told_of f end
    → IsInRange (new ++ drop end datagram) (record { header = head_len; block = len - block_len; len = len; ohb = block; field = told })
in_range head_len block_len len end block told f new datagram behind some inside end_is size within pt is told_is =
    let packet : length (take end datagram) ≡ end = omega (arith, length-take end datagram) in
    record {
      inner = omega arith;
      block = omega arith;
      len = omega (arith, length-append new (drop end datagram));
      pt = pt;
      field = f;
      fits = is.fits;
      told_is = told_is ∙ ap (ekt.told_of f) (sym end_is);
      field_octets = drop_at new (drop end datagram) (len + 16) (size ∙ sym end_is) ∙ ap (λ (n : ℕ). drop n datagram) (sym packet) ∙ field_behind (take end datagram) f datagram is;
    }
