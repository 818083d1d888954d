-- The next RTCP packet: that it can be sealed, and what stands there then.
use Rattle.std.proofs.Common.{◌≡◌, ℕ, ◌+◌, ◌^◌, ◌<◌, ◌≤◌, Bool, true, false, List, ◌++◌, length, take, drop, Some, None, refl, sym, ap, ◌∙◌, arith}
use Rattle.std.specs.Prelude.{IsOk, Option, ◌==◌}
use Rattle.std.proofs.lemmas.Bool.{eqb-false, ne_eqb}
use Rattle.std.proofs.lemmas.Bool.Decides.{nat_tests}
use Rattle.std.proofs.lemmas.List.{take_at}
use Rattle.perc_rtp.specs.Carried.{longest_rtcp, rtcp_head}
use Rattle.perc_srtp.specs.Sealed.{sealed_rtcp}
use Rattle.perc_srtp.proofs.RtcpLaws.{length-sealed_rtcp}
use Rattle.perc_outgoing.specs.declared.fault.RtcpSendFault.{RtcpSendFault}
use Rattle.perc_outgoing.specs.declared.fault.RtcpSendFault.TheVariants.{Spent}
use Rattle.perc_outgoing.specs.Sending.{Outgoing, plain_fault, rtcp_send_fault}
use Rattle.perc_outgoing.specs.Kept.{IsRtcpSentAs, Kept, StandsFor}
use Rattle.perc_outgoing.proofs.Standing.{rtcp_stands}

-- ---- faults

pub plain_reads : (plain : List ℕ) → plain_fault plain ≡ None → IsOk (rtcp_head plain)
plain_reads plain none = grind (arith, nat_tests)

pub plain_few : (plain : List ℕ) → plain_fault plain ≡ None → length plain ≤ longest_rtcp
plain_few plain none = grind (arith, nat_tests)

pub rtcp_plain : (o : Outgoing) (plain : List ℕ) (fault : RtcpSendFault) → plain_fault plain ≡ Some fault → rtcp_send_fault o plain ≡ Some fault
rtcp_plain o plain fault is = rw is refl

pub rtcp_spent : (o : Outgoing) (plain : List ℕ) → plain_fault plain ≡ None → o.rtcp ≡ 2 ^ 31 → rtcp_send_fault o plain ≡ Some Spent
rtcp_spent o plain none spent = rw (none, spent) refl

pub rtcp_none : (o : Outgoing) (plain : List ℕ) → plain_fault plain ≡ None → (o.rtcp ≡ 2 ^ 31 → ⊥) → rtcp_send_fault o plain ≡ None
rtcp_none o plain none left = rw (none, ne_eqb o.rtcp (2 ^ 31) left) refl

-- What isn't refused has no fault of its own, and an index is left.
pub record IsRtcpSendable (o : Outgoing) (plain : List ℕ) : Type 0 where
  pub long : 8 ≤ length plain
  pub left : o.rtcp ≡ 2 ^ 31 → ⊥

plain_long : (plain : List ℕ) → plain_fault plain ≡ None → 8 ≤ length plain
plain_long plain none = grind (arith, nat_tests)

sendable_by : (o : Outgoing) (plain : List ℕ) (fault : Option RtcpSendFault) (spent : Bool) → plain_fault plain ≡ fault → (o.rtcp == 2 ^ 31) ≡ spent
    → rtcp_send_fault o plain ≡ None → IsRtcpSendable o plain
sendable_by o plain (Some fault) spent m s none = absurd (let bad = rw m at none in cc)
sendable_by o plain None true m s none = absurd (let bad = rw (m, s) at none in cc)
sendable_by o plain None false m s none = record { long = plain_long plain m; left = eqb-false o.rtcp (2 ^ 31) s }

pub rtcp_sendable : (o : Outgoing) (plain : List ℕ) → rtcp_send_fault o plain ≡ None → IsRtcpSendable o plain
rtcp_sendable o plain = sendable_by o plain (plain_fault plain) (o.rtcp == 2 ^ 31) refl refl

-- ---- sealed

-- A packet was copied to the front of a buffer, and sealed there.
pub record IsRtcpBuilt (kept : Kept) (plain old packet out : List ℕ) (n rtcp : ℕ) : Type 0 where
  pub copied : packet ≡ plain ++ drop (length plain) old
  pub sealed_is : out ≡ sealed_rtcp kept.control kept.rtcp (take (length plain) packet) ++ drop (length plain + 20) packet
  pub len : n ≡ length plain + 20
  pub counted : rtcp ≡ kept.rtcp + 1
  pub left : kept.rtcp < 2 ^ 31

pub rtcp_built : (kept : Kept) (o : Outgoing) (plain old packet out : List ℕ) (n rtcp : ℕ) → StandsFor kept o
    → IsRtcpBuilt kept plain old packet out n rtcp → IsRtcpSentAs o plain n (record kept { rtcp = rtcp }) out
rtcp_built kept o plain old packet out n rtcp st b =
    let whole : List ℕ = sealed_rtcp kept.control kept.rtcp plain in
    let behind : List ℕ = drop (length plain + 20) packet in
    let first : take (length plain) packet ≡ plain = ap (take (length plain)) b.copied ∙ take_at plain (drop (length plain) old) (length plain) refl in
    let out_is : out ≡ whole ++ behind = b.sealed_is ∙ ap (λ (xs : List ℕ). sealed_rtcp kept.control kept.rtcp xs ++ behind) first in
    let size : length whole ≡ n = length-sealed_rtcp kept.control kept.rtcp plain ∙ sym b.len in
    record {
      packet = ap (take n) out_is ∙ take_at whole behind n size ∙ (λ i. sealed_rtcp (st.control i) (st.rtcp i) plain);
      kept_is = rtcp_stands kept o rtcp st b.counted b.left;
    }
