-- What an endpoint seals over any list of calls.
use Rattle.std.specs.Prelude.{◌≡◌, ℕ, List, [], ◌∷◌, ◌++◌, Option, Some, None, Result, Ok, Err}
use Rattle.perc_kdf.specs.Derivation.{KeyAndSalt, session_keys}
use Rattle.perc_kdf.specs.declared.Kind.{Kind}
use Rattle.perc_kdf.specs.declared.Kind.TheVariants.{Srtp, Srtcp}
use Rattle.perc_rtp.specs.Media.{Content}
use Rattle.perc_srtp.specs.Sealed.{iv, rtcp_iv, rtcp_ssrc}
use Rattle.perc_sender.specs.Schedule.{take_answer}
use Rattle.perc_sender.specs.declared.TakeFault.{TakeFault}
use Rattle.perc_octets.specs.Octets.{AreOctets}
use Rattle.perc_receiver.specs.Table.{Secret}
use Rattle.perc_outgoing.specs.declared.fault.SendFault.{SendFault}
use Rattle.perc_outgoing.specs.declared.fault.RtcpSendFault.{RtcpSendFault}
use Rattle.perc_outgoing.specs.Sending.{Outgoing, after_rtcp, after_send, after_take, outer_index, rtcp_send_fault, send_fault, sending_key}

pub data Call : Type 0 where
  Send : Content → Call
  SendRtcp : (plain : List ℕ) → Call
  Rekey : (key : List ℕ) → Call
  Grant : Secret → (key : List ℕ) → Call

pub data Layer : Type 0 where
  EndToEnd : Layer
  HopByHop : Layer

-- A seal: the layer, the master and the kind whose session keys are taken, and the IV.
pub record Seal : Type 0 where
  pub layer : Layer
  pub master : KeyAndSalt
  pub kind : Kind
  pub iv_is : List ℕ

abbrev pub inner_seal : Outgoing → Seal
inner_seal out = record {
  layer = EndToEnd;
  master = record { key = (sending_key out).key; salt = out.secret.salt };
  kind = Srtp;
  iv_is = iv (session_keys (record { key = (sending_key out).key; salt = out.secret.salt }) Srtp).salt out.sending.ssrc out.sending.next;
}

abbrev pub outer_seal : Outgoing → Seal
outer_seal out = record {
  layer = HopByHop;
  master = out.client;
  kind = Srtp;
  iv_is = iv (session_keys out.client Srtp).salt out.sending.ssrc (outer_index out);
}

abbrev pub rtcp_seal : Outgoing → List ℕ → Seal
rtcp_seal out plain = record {
  layer = HopByHop;
  master = out.client;
  kind = Srtcp;
  iv_is = rtcp_iv (session_keys out.client Srtcp).salt (rtcp_ssrc plain) out.rtcp;
}

-- a call, and what it seals
abbrev pub by_send : Outgoing → Option SendFault → Outgoing × List Seal
by_send out None = (after_send out, inner_seal out ∷ outer_seal out ∷ [])
by_send out (Some fault) = (out, [])

abbrev pub by_rtcp : Outgoing → List ℕ → Option RtcpSendFault → Outgoing × List Seal
by_rtcp out plain None = (after_rtcp out, rtcp_seal out plain ∷ [])
by_rtcp out plain (Some fault) = (out, [])

abbrev pub by_take : Outgoing → Secret → List ℕ → Result ℕ TakeFault → Outgoing
by_take out s key (Ok epoch) = after_take out s key
by_take out s key (Err fault) = out

abbrev pub after_call : Outgoing → Call → Outgoing × List Seal
after_call out (Send content) = by_send out (send_fault out content)
after_call out (SendRtcp plain) = by_rtcp out plain (rtcp_send_fault out plain)
after_call out (Rekey key) = (by_take out out.secret key (take_answer out.sending out.secret.spi key), [])
after_call out (Grant s key) = (by_take out s key (take_answer out.sending s.spi key), [])

-- the seals of the calls in turn, the newest first, followed by those before
abbrev pub seals : Outgoing → List Call → List Seal → List Seal
seals out [] before = before
seals out (call ∷ calls) before = seals (after_call out call).0 calls ((after_call out call).1 ++ before)

-- RTCP packets are octets.
abbrev pub IsCall : Call → Type 0
IsCall (SendRtcp plain) = AreOctets plain
IsCall (Send content) = Unit {0}
IsCall (Rekey key) = Unit {0}
IsCall (Grant s key) = Unit {0}

-- Two seals of one layer under one master and kind have two IVs.
abbrev pub AreOtherSeals : Seal → Seal → Type 0
AreOtherSeals a b = a.layer ≡ b.layer → a.master ≡ b.master → a.kind ≡ b.kind → a.iv_is ≡ b.iv_is → ⊥

abbrev pub AreCalls : List Call → Type 0
AreCalls [] = Unit {0}
AreCalls (call ∷ calls) = IsCall call × AreCalls calls
