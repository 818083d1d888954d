-- Packets that aren't sealed hop by hop, put together of their parts.
use Rattle.std.proofs.Common.{◌≡◌, ℕ, ◌+◌, ◌-◌, ◌≤◌, List, [], ◌∷◌, ◌++◌, length, take, drop, Result, Ok, refl, sym, ap, ◌∙◌, append_assoc, arith}
use Rattle.std.proofs.lemmas.List.{append-nil, drop_at, length-append, take_at}
use Rattle.perc_rtp.specs.declared.head.RtpFault.{RtpFault}
use Rattle.perc_rtp.specs.declared.head.RtpHead.{RtpHead}
use Rattle.perc_rtp.specs.Header.{Header, IsPacket, head_of, spelling}
use Rattle.perc_ohb.specs.declared.block.Ohb.{Ohb}
use Rattle.perc_ohb.specs.Block as block
use Rattle.perc_ohb.specs.Block.{IsOhb}
use Rattle.perc_double.specs.Double.{IsOpened, opened}
use Rattle.perc_member.specs.Making.{ArePartsOf}
use Rattle.perc_member.specs.declared.datagram.Parts.{Parts}

-- the header that stands at a packet's front
pub front_packet : (h : Header) (rest packet front : List ℕ) (n : ℕ) → IsPacket h rest packet → n ≡ length (spelling h) → front ≡ take n packet → IsPacket h [] front
front_packet h rest packet front n is n_is front_is = record {
  header = is.header;
  octets = front_is ∙ ap (take n) is.octets ∙ take_at (spelling h) rest n (sym n_is) ∙ sym (append-nil (spelling h));
}

-- where the header ends that was read
pub head_len : (h : Header) (answer : Result RtpHead RtpFault) (head : RtpHead) → answer ≡ Ok (head_of h) → answer ≡ Ok head → head.len ≡ length (spelling h)
head_len h answer head is read =
    let same : head ≡ head_of h = cc in ap (λ (r : RtpHead). r.len) same

-- the inner octets stand between header and block
inner_is : (h : Header) (inner : List ℕ) (o : Ohb) (packet : List ℕ) (p : Parts) → IsOpened h inner o packet → ArePartsOf h inner o packet p
    → take (p.inner - p.header) (drop p.header packet) ≡ inner
inner_is h inner o packet p is parts =
    let behind : drop p.header packet ≡ inner ++ block.spelling o = ap (drop p.header) is.reads.octets ∙ drop_at (spelling h) (opened inner o) p.header (sym parts.header) in
    let size : length inner ≡ p.inner - p.header = omega (arith, parts.header, parts.inner_is) in
    ap (take (p.inner - p.header)) behind ∙ take_at inner (block.spelling o) (p.inner - p.header) size

-- A packet was put together: the header at the front of a datagram, the inner octets of an opened packet, and a block.
pub record ArePut (g : Header) (rest packet datagram room old none first second third : List ℕ) (k : Ohb) (p : Parts) (at len : ℕ) : Type 0 where
  pub header : IsPacket g rest datagram
  pub at_is : at ≡ length (spelling g)
  pub fits : IsOhb k
  pub len_is : len ≡ length (block.spelling k)
  pub room_is : room ≡ block.spelling k ++ drop len old
  pub none_is : none ≡ []
  pub first_is : first ≡ none ++ take at datagram
  pub second_is : second ≡ first ++ take (p.inner - p.header) (drop p.header packet)
  pub third_is : third ≡ second ++ take len room

pub put_together : (h g : Header) (inner rest packet datagram room old none first second third : List ℕ) (o k : Ohb) (p : Parts) (at len : ℕ) → IsOpened h inner o packet
    → ArePartsOf h inner o packet p → ArePut g rest packet datagram room old none first second third k p at len → IsOpened g inner k third
put_together h g inner rest packet datagram room old none first second third o k p at len is parts put =
    let header : first ≡ spelling g =
    put.first_is
    ∙ ap (λ (xs : List ℕ). xs ++ take at datagram) put.none_is
    ∙ ap (take at) put.header.octets
    ∙ take_at (spelling g) rest at (sym put.at_is) in
    let end : take len room ≡ block.spelling k = ap (take len) put.room_is ∙ take_at (block.spelling k) (drop len old) len (sym put.len_is) in
    let mid = inner_is h inner o packet p is parts in
    record {
      block = put.fits;
      reads = record {
        header = put.header.header;
        octets = put.third_is
            ∙ (λ i. put.second_is i ++ end i)
            ∙ (λ i. (header i ++ mid i) ++ block.spelling k)
            ∙ append_assoc (spelling g) inner (block.spelling k);
      };
    }
