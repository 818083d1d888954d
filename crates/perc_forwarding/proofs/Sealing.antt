-- What is sealed of a packet for an entry is new, and is kept then.
use Rattle.std.proofs.Common.{◌≡◌, ℕ, ◌+◌, ◌<◌, Bool, true, false, cond, List, [], ◌∷◌, length, drop, get_or, Result, Ok, Err, inl, inr, refl, sym, ap, subst, ◌∙◌, arith}
use Rattle.std.specs.Prelude.{◌==◌, ◌^◌, ◌||◌, nat_le, nat_lt}
use Rattle.std.proofs.lemmas.Bool.{cases_eq}
use Rattle.std.proofs.lemmas.Bool.Decides.{nat_tests}
use Rattle.std.proofs.lemmas.List.{get_or-drop}
use Rattle.perc_ohb.specs.Rewriting.{Rewrite}
use Rattle.perc_kdf.specs.Derivation.{session_keys}
use Rattle.perc_kdf.specs.declared.Kind.{Kind}
use Rattle.perc_kdf.specs.declared.Kind.TheVariants.{Srtp, Srtcp}
use Rattle.perc_window.specs.Replay.{has}
use Rattle.perc_rtp.specs.Header.{Header, IsHeader}
use Rattle.perc_ohb.specs.declared.block.Ohb.{Ohb}
use Rattle.perc_ekt.specs.Field.{Field}
use Rattle.perc_srtp.specs.Sealed.{iv, rtcp_iv, rtcp_ssrc}
use Rattle.perc_srtp.proofs.PacketLaws.{iv_injective, rtcp_iv_injective, tx_once}
use Rattle.perc_double.specs.Double.{relayed}
use Rattle.perc_keyset.specs.declared.Entry.{Entry}
use Rattle.perc_outer.specs.Streams.{accepted_of, with_index}
use Rattle.perc_outer.proofs.Outer.{accepted_past, accepted_with}
use Rattle.perc_distributor.specs.declared.fault.ForwardFault.{ForwardFault}
use Rattle.perc_distributor.specs.declared.fault.ForwardFault.TheVariants as fault
use Rattle.perc_distributor.specs.Inbound.{Control, Media, Packet}
use Rattle.perc_distributor.specs.Forwarding.{Sealing, Sent, media_index, sent_media, sent_to}
use Rattle.perc_distributor.specs.Parts.{control_place}
use Rattle.perc_distributor.proofs.Arriving.{media_index_below, media_index_is}
use Rattle.perc_distributor.proofs.Sending.{control_by, sent_by}
use Rattle.perc_forwarding.specs.Runs.{IsSound, Seal, iv_of, seal_of, seals_to}

-- ---- what is kept of a seal

abbrev pub InRange : Kind → ℕ → ℕ → Type 0
InRange Srtp ssrc index = (ssrc < 2 ^ 32) × (index < 2 ^ 48)
InRange Srtcp ssrc index = (ssrc < 2 ^ 32) × (index < 2 ^ 31)

abbrev pub IsRecorded : Kind → Sealing → ℕ → ℕ → Type 0
IsRecorded Srtp s ssrc index = has (accepted_of s.streams ssrc) index ≡ true
IsRecorded Srtcp s ssrc index = index < s.rtcp

abbrev pub IsNew : Kind → Sealing → ℕ → ℕ → Type 0
IsNew Srtp s ssrc index = has (accepted_of s.streams ssrc) index ≡ false
IsNew Srtcp s ssrc index = index ≡ s.rtcp

-- A seal that is new has no nonce of one that is kept.
pub clash : (k j : Kind) (e d : Entry) (a x b y : ℕ) (s : Sealing) → e ≡ d → k ≡ j → iv_of k (session_keys e.server k).salt a x ≡ iv_of j (session_keys d.server j).salt b y
    → InRange k a x → InRange j b y → IsRecorded k s a x → IsNew j s b y → ⊥
clash Srtp Srtp e d a x b y s same kind ivs r q old new =
    let one = iv_injective (session_keys e.server Srtp).salt a b x y r.0 q.0 r.1 q.1 (ivs ∙ ap (λ (z : Entry). iv (session_keys z.server Srtp).salt b y) (sym same)) in
    let twice : true ≡ false = sym old ∙ (λ i. has (accepted_of s.streams (one.0 i)) (one.1 i)) ∙ new in
    absurd (cc)
clash Srtcp Srtcp e d a x b y s same kind ivs r q old new =
    let one = rtcp_iv_injective (session_keys e.server Srtcp).salt a b x y r.0 q.0 r.1 q.1 (ivs ∙ ap (λ (z : Entry). rtcp_iv (session_keys z.server Srtcp).salt b y) (sym same)) in
    let there = one.1 in
    omega arith
clash Srtp Srtcp e d a x b y s same kind ivs r q old new = absurd (cc)
clash Srtcp Srtp e d a x b y s same kind ivs r q old new = absurd (cc)

-- ---- what a step keeps

abbrev pub KeepsAll : Sealing → Sealing → Type 0
KeepsAll s after = (k : Kind) (ssrc index : ℕ) → IsRecorded k s ssrc index → IsRecorded k after ssrc index

-- what is sealed: nothing, or what is new, and is kept then
pub record OneSeal (s after : Sealing) (e : Entry) (seal : Seal) : Type 0 where
  pub entry : seal.entry ≡ e
  pub range : InRange seal.kind seal.ssrc seal.index
  pub new : IsNew seal.kind s seal.ssrc seal.index
  pub kept : IsRecorded seal.kind after seal.ssrc seal.index

abbrev pub AreOne : Sealing → Sealing → Entry → List Seal → Type 0
AreOne s after e [] = Unit {0}
AreOne s after e (seal ∷ []) = OneSeal s after e seal
AreOne s after e (seal ∷ more ∷ seals) = ⊥

pub record Seals (s after : Sealing) (e : Entry) (seals : List Seal) : Type 0 where
  pub keeps : KeepsAll s after
  pub are : AreOne s after e seals

either : (a b : Bool) → b ≡ true → (a || b) ≡ true
either true b is = refl
either false b is = is

here : (x : ℕ) (accepted : List ℕ) → has (x ∷ accepted) x ≡ true
here x accepted = grind (arith, nat_tests)

keeps_media : (s : Sealing) (ssrc index : ℕ) → KeepsAll s (record s { streams = with_index ssrc index s.streams })
keeps_media s ssrc index Srtcp a x old = old
keeps_media s ssrc index Srtp a x old =
    elim (cases_eq ssrc a) as (λ _. has (accepted_of (with_index ssrc index s.streams) a) x ≡ true) [
      | inl same ↦
          subst (λ (q : ℕ). has (accepted_of (with_index ssrc index s.streams) q) x ≡ true) same
          (ap (λ (xs : List ℕ). has xs x) (accepted_with ssrc index s.streams)
          ∙ either (index == x) (has (accepted_of s.streams ssrc) x) (ap (λ (q : ℕ). has (accepted_of s.streams q) x) same ∙ old))
      | inr apart ↦ ap (λ (xs : List ℕ). has xs x) (accepted_past ssrc a index s.streams apart) ∙ old
    ]

keeps_control : (s : Sealing) → KeepsAll s (record s { rtcp = s.rtcp + 1 })
keeps_control s Srtp a x old = old
keeps_control s Srtcp a x old = omega arith

keeps_same : (s : Sealing) → KeepsAll s s
keeps_same s k a x old = old

media_seals : (s : Sealing) (e : Entry) (place : ℕ) (change : Rewrite) (h : Header) (inner : List ℕ) (block : Ohb) (field : Field) (at : Result ℕ ForwardFault) → IsHeader h
    → media_index s.streams h inner block field change ≡ at → Seals s (sent_media s e place change h inner block field at).1 e (seal_of e Srtp h.ssrc at)
media_seals s e place change h inner block field (Err f) is_header is = record { keeps = keeps_same s; are = tt }
media_seals s e place change h inner block field (Ok index) is_header is = record {
  keeps = keeps_media s h.ssrc index;
  are = record {
    entry = refl;
    range = (is_header.ssrc, media_index_below s.streams h inner block field change index is);
    new = tx_once (accepted_of s.streams h.ssrc) (relayed h change).seq index (media_index_is s.streams h inner block field change index is);
    kept = ap (λ (xs : List ℕ). has xs index) (accepted_with h.ssrc index s.streams) ∙ here index (accepted_of s.streams h.ssrc);
  };
}

next_of : (room spent : Bool) (next index : ℕ) → nat_le (2 ^ 31) next ≡ spent → cond {A = Result ℕ ForwardFault} room (Err fault.Room) (cond spent (Err fault.RtcpSpent) (Ok next)) ≡ Ok index
    → (index ≡ next) × (index < 2 ^ 31)
next_of true spent next index tested is = absurd (cc)
next_of false true next index tested is = absurd (cc)
next_of false false next index tested is =
    let same : next ≡ index = cc in
    (sym same, let below : next < 2 ^ 31 = grind (arith, nat_tests, tested) in omega arith)

control_seals : (s : Sealing) (e : Entry) (place : ℕ) (octets : List ℕ) (at : Result ℕ ForwardFault) → rtcp_ssrc octets < 2 ^ 32 → control_place s.rtcp octets ≡ at
    → Seals s (sent_by s e place octets at).1 e (seal_of e Srtcp (rtcp_ssrc octets) at)
control_seals s e place octets (Err f) ssrc is = record { keeps = keeps_same s; are = tt }
control_seals s e place octets (Ok index) ssrc is =
    let next = next_of (nat_lt 1500 (length octets + 20)) (nat_le (2 ^ 31) s.rtcp) s.rtcp index refl is in
    let same = next.0 in
    record {
      keeps = keeps_control s;
      are = record { entry = refl; range = (ssrc, next.1); new = next.0; kept = omega arith };
    }

ssrc_below : (octets : List ℕ) → ((k : ℕ) → get_or octets k 0 < 256) → rtcp_ssrc octets < 2 ^ 32
ssrc_below octets below =
    let at : (k : ℕ) → get_or (drop 4 octets) k 0 < 256 = λ (k : ℕ). rw (get_or-drop 4 octets k 0) (below (4 + k)) in
    let a = at 0 in
    let b = at 1 in
    let c = at 2 in
    let d = at 3 in
    omega arith

pub to_seals : (s : Sealing) (e : Entry) (place : ℕ) (change : Rewrite) (packet : Packet) → IsSound packet → Seals s (sent_to s e place change packet).1 e (seals_to s e change packet)
to_seals s e place change (Media from h inner block field) sound =
    media_seals s e place change h inner block field (media_index s.streams h inner block field change) sound refl
to_seals s e place change (Control from octets) sound =
    subst (λ (step : Sent × Sealing). Seals s step.1 e (seal_of e Srtcp (rtcp_ssrc octets) (control_place s.rtcp octets))) (sym (control_by s e place octets))
    (control_seals s e place octets (control_place s.rtcp octets) (ssrc_below octets sound) refl)
