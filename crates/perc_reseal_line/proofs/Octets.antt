-- The octets of a packet that is sealed with its field behind it.
use Rattle.std.proofs.Common.{◌≡◌, ℕ, ◌+◌, ◌*◌, ◌<◌, false, List, ◌++◌, length, take, drop, ap, ◌∙◌, append_assoc, arith}
use Rattle.std.specs.Prelude.{nat_le}
use Rattle.std.proofs.lemmas.Bool.Decides.{nat_tests}
use Rattle.std.proofs.lemmas.List.{length-append, take_at}
use Rattle.perc_kdf.specs.Derivation.{KeyAndSalt}
use Rattle.perc_rtp.specs.Header as header
use Rattle.perc_rtp.specs.Header.{Header, IsHeader, IsPacket}
use Rattle.perc_srtp.specs.Sealed.{sealed, sealed_body}
use Rattle.perc_srtp.proofs.PacketLaws.{length-sealed_body}
use Rattle.perc_ohb.specs.declared.block.Ohb.{Ohb}
use Rattle.perc_double.specs.Double.{opened}
use Rattle.perc_reseal_line.specs.Anew.{sealed_behind}

module _ (keys : KeyAndSalt) (roc : ℕ) (g : Header) (inner : List ℕ) (k : Ohb) (field : List ℕ) where
  -- what is sealed
  abbrev plain : List ℕ
  plain = opened inner k

  abbrev text : List ℕ
  text = sealed_body keys (roc * 65536 + g.seq) g plain

  pub length_sealed : length (header.spelling g ++ text) ≡ length (header.spelling g ++ plain) + 16
  length_sealed =
      omega (arith, length-append (header.spelling g) text, length-append (header.spelling g) plain, length-sealed_body keys (roc * 65536 + g.seq) g plain)

  pub length_behind : length (sealed_behind keys roc g inner k field) ≡ length (header.spelling g ++ plain) + 16 + length field
  length_behind = omega (arith, length-append (header.spelling g ++ text) field, length_sealed)

  -- It was sealed in a buffer, and the field put behind it.
  pub written : (was now out : List ℕ) (index n end last : ℕ) → n + 16 ≡ length (header.spelling g ++ plain) + 16 → end ≡ n + 16 → index ≡ roc * 65536 + g.seq
      → now ≡ sealed keys index g plain ++ drop (n + 16) was → take last out ≡ take end now ++ field → take last out ≡ sealed_behind keys roc g inner k field
  written was now out index n end last len end_is index_is now_is out_is =
      let front : List ℕ = sealed keys (roc * 65536 + g.seq) g plain in
      let size : length front ≡ end = omega (arith, length_sealed) in
      out_is
      ∙ ap (λ (xs : List ℕ). take end xs ++ field) now_is
      ∙ ap (λ (i : ℕ). take end (sealed keys i g plain ++ drop (n + 16) was) ++ field) index_is
      ∙ ap (λ (xs : List ℕ). xs ++ field) (take_at front (drop (n + 16) was) end size)

  -- its header stands at its front
  pub header_stands : (octets : List ℕ) → IsHeader g → octets ≡ sealed_behind keys roc g inner k field → IsPacket g (text ++ field) octets
  header_stands octets is octets_are = record { header = is; octets = octets_are ∙ append_assoc (header.spelling g) text field }

-- the field doesn't fit
pub too_many : (n size field : ℕ) → n + 16 ≡ size → nat_le (n + 16 + field) 1500 ≡ false → 1500 < size + field
too_many n size field is test =
    let over : 1500 < n + 16 + field = grind (arith, nat_tests) in
    omega arith
