-- What is kept of a datagram that was sealed anew.
use Rattle.std.proofs.Common.{◌≡◌, ℕ, ◌+◌, ◌*◌, ◌≤◌, List, length, Option, Some, None, refl, sym, ap, subst, ◌∙◌, arith}
use Rattle.perc_kdf.specs.Derivation.{KeyAndSalt}
use Rattle.perc_srtp.specs.Sealed.{sealed}
use Rattle.perc_ekt.specs.Field.{spelling}
use Rattle.perc_ekt.proofs.Octets.{behind}
use Rattle.perc_double.specs.Double.{IsOpened, opened}
use Rattle.perc_member.specs.Each.{MirrorsDatagram, MirrorsUnsealed, MirrorsUnsealeds}
use Rattle.perc_member.specs.declared.datagram.Datagram as code_datagram
use Rattle.perc_member.specs.declared.datagram.Unsealed as code_unsealed
use Rattle.perc_run.specs.State.{Unsealed}
use Rattle.perc_reseal_line.specs.Anew.{octets_anew, sealed_behind}
use Rattle.perc_reseal_line.proofs.Octets.{length_behind}

-- ---- the datagram that is taken

-- Where the code keeps what was sealed, it is what was.
pub media_of : (octets : List ℕ) (kept : Option code_unsealed.Unsealed) (was : Option Unsealed) (c : code_unsealed.Unsealed) → kept ≡ Some c → MirrorsUnsealeds octets kept was
    → (u : Unsealed) × (was ≡ Some u) × MirrorsUnsealed octets c u
media_of octets kept None c is mirrors = absurd (subst (λ (k : Option code_unsealed.Unsealed). MirrorsUnsealeds octets k None) is mirrors)
media_of octets kept (Some u) c is mirrors = (u, refl, subst (λ (k : Option code_unsealed.Unsealed). MirrorsUnsealeds octets k (Some u)) is mirrors)

-- Where it keeps nothing, there was nothing.
pub no_media : (octets : List ℕ) (kept : Option code_unsealed.Unsealed) (was : Option Unsealed) → kept ≡ None → MirrorsUnsealeds octets kept was → was ≡ None
no_media octets kept None is mirrors = refl
no_media octets kept (Some u) is mirrors = absurd (subst (λ (k : Option code_unsealed.Unsealed). MirrorsUnsealeds octets k (Some u)) is mirrors)

-- ---- the datagram that is made

-- a datagram of these octets, which is kept with what was sealed in it
pub record IsKept (keys : KeyAndSalt) (roc : ℕ) (u : Unsealed) (field octets : List ℕ) (kept : code_unsealed.Unsealed) : Type 0 where
  pub field_is : field ≡ spelling u.field
  pub octets_are : octets ≡ sealed_behind keys roc u.header u.inner u.block field
  pub few : length octets ≤ 1500
  pub field_len : kept.field ≡ length field
  pub packet : IsOpened u.header u.inner u.block kept.packet.items

pub kept_mirrors : (keys : KeyAndSalt) (roc : ℕ) (u : Unsealed) (field octets : List ℕ) (kept : code_unsealed.Unsealed) (d : code_datagram.Datagram) → IsKept keys roc u field octets kept
    → d.octets.items ≡ octets → d.unsealed ≡ Some kept → MirrorsDatagram d (record { octets = octets_anew keys roc u; unsealed = Some u })
kept_mirrors keys roc u field octets kept d is octets_are kept_is =
    let whole : List ℕ = octets_anew keys roc u in
    let same : octets ≡ whole = is.octets_are ∙ ap (sealed_behind keys roc u.header u.inner u.block) is.field_is in
    let few : length whole ≤ 1500 = subst (λ (xs : List ℕ). length xs ≤ 1500) same is.few in
    let front : List ℕ = sealed keys (roc * 65536 + u.header.seq) u.header (opened u.inner u.block) in
    let size : length (spelling u.field) ≡ kept.field = sym (is.field_len ∙ ap (λ (xs : List ℕ). length xs) is.field_is) in
    let long = length_behind keys roc u.header u.inner u.block (spelling u.field) in
    let packet = ap (λ (xs : List ℕ). length xs) is.packet.reads.octets in
    let unsealed : MirrorsUnsealed whole kept u = record {
      packet = is.packet;
      few = omega (arith, packet, long, few);
      field = behind front (spelling u.field) whole kept.field refl size;
      within = omega (arith, long, size);
    } in
    record {
      octets = octets_are ∙ same;
      few = few;
      unsealed = subst (λ (k : Option code_unsealed.Unsealed). MirrorsUnsealeds whole k (Some u)) (sym kept_is) unsealed;
    }
