-- What an endpoint seals, over any list of its calls.
use Rattle.std.proofs.Common.{◌≡◌, ℕ, List, [], ◌∷◌, ◌++◌, Option, Some, None, Result, Ok, Err, refl, sym, ap, subst}
use Rattle.std.specs.Prelude.{AllPairs}
use Rattle.perc_rtp.specs.Media.{Content}
use Rattle.perc_contexts.specs.declared.SpiOld.{SpiOld as OldSpi}
use Rattle.perc_contexts.specs.Receiving.{spi_answer}
use Rattle.perc_sender.specs.Schedule.{take_answer}
use Rattle.perc_sender.specs.declared.TakeFault.{TakeFault}
use Rattle.perc_receiver.specs.Table.{Secret}
use Rattle.perc_receiver.specs.Receiver.{live_of}
use Rattle.perc_outgoing.specs.declared.fault.SendFault.{SendFault}
use Rattle.perc_outgoing.specs.declared.fault.RtcpSendFault.{RtcpSendFault}
use Rattle.perc_outgoing.specs.Sending.{IsSending, Outgoing, rtcp_send_fault, send_fault}
use Rattle.perc_outgoing.specs.History as sending
use Rattle.perc_outgoing.specs.History.{AreOtherSeals, Seal, by_rtcp, by_send, by_take, seals}
use Rattle.perc_outgoing.proofs.Nonces.{Sound, call_sound, start_sound}
use Rattle.perc_endpoint.specs.declared.fault.GrantFault.{GrantFault}
use Rattle.perc_endpoint.specs.Endpoint.{Endpoint, after_grant, after_rekey, departing, departing_rtcp, new_spi, taken_key}
use Rattle.perc_endpoint.specs.Calls.{AreOfOctets, Call, IsOfOctets, Receive, ReceiveRtcp, Rekey, Send, SendRtcp, TakeEkt, after_call, granted_to, sealed_by, sent_by}

-- ---- what a call leaves of the sending side

rekey_sends : (e : Endpoint) (key : List ℕ) (answer : Result ℕ TakeFault) → by_take e.sending e.sending.secret key answer ≡ (after_rekey e key (taken_key answer)).sending
rekey_sends e key (Ok epoch) = refl
rekey_sends e key (Err fault) = refl

media_sends : (e : Endpoint) (content : Content) (fault : Option SendFault) → (by_send e.sending fault).0 ≡ (departing e content fault).1.sending
media_sends e content None = refl
media_sends e content (Some fault) = refl

rtcp_sends : (e : Endpoint) (plain : List ℕ) (fault : Option RtcpSendFault) → (by_rtcp e.sending plain fault).0 ≡ (departing_rtcp e plain fault).1.sending
rtcp_sends e plain None = refl
rtcp_sends e plain (Some fault) = refl

grant_sends : (e : Endpoint) (s : Secret) (key : List ℕ) (before : List Seal) (answer : Result (Option ℕ) OldSpi) (taken : Result ℕ TakeFault)
    → take_answer e.sending.sending s.spi key ≡ taken → Sound e.sending before
    → Sound (after_grant e s key (new_spi answer (taken_key taken))).sending (seals e.sending (granted_to s key (new_spi answer (taken_key taken))) before)
grant_sends e s key before (Err old) taken at sound = sound
grant_sends e s key before (Ok retires) (Err fault) at sound = sound
grant_sends e s key before (Ok retires) (Ok epoch) at sound =
    subst (λ (a : Result ℕ TakeFault). Sound (by_take e.sending s key a) before) at (call_sound e.sending before (sending.Grant s key) tt sound)

keeps_sound : (e : Endpoint) (before : List Seal) (call : Call) → IsOfOctets call → Sound e.sending before
    → Sound (after_call e call).sending (seals e.sending (sent_by e call) before)
keeps_sound e before (TakeEkt s key) is sound =
    grant_sends e s key before (spi_answer (live_of e.receiving.secrets) s.spi) (take_answer e.sending.sending s.spi key) refl sound
keeps_sound e before (Rekey key) is sound =
    subst (λ (o : Outgoing). Sound o before) (rekey_sends e key (take_answer e.sending.sending e.sending.secret.spi key))
    (call_sound e.sending before (sending.Rekey key) tt sound)
keeps_sound e before (Send content) is sound =
    subst (λ (o : Outgoing). Sound o (seals e.sending (sending.Send content ∷ []) before)) (media_sends e content (send_fault e.sending content))
    (call_sound e.sending before (sending.Send content) tt sound)
keeps_sound e before (Receive datagram) is sound = sound
keeps_sound e before (SendRtcp plain) is sound =
    subst (λ (o : Outgoing). Sound o (seals e.sending (sending.SendRtcp plain ∷ []) before)) (rtcp_sends e plain (rtcp_send_fault e.sending plain))
    (call_sound e.sending before (sending.SendRtcp plain) is sound)
keeps_sound e before (ReceiveRtcp datagram) is sound = sound

stay_apart : (e : Endpoint) (calls : List Call) (before : List Seal) → AreOfOctets calls → Sound e.sending before → AllPairs AreOtherSeals (sealed_by e calls before)
stay_apart e [] before are sound = sound.apart
stay_apart e (call ∷ calls) before are sound =
    stay_apart (after_call e call) calls (seals e.sending (sent_by e call) before) are.1 (keeps_sound e before call are.0 sound)

pub seals_apart : (e : Endpoint) (calls : List Call) → IsSending e.sending → AreOfOctets calls → AllPairs AreOtherSeals (sealed_by e calls [])
seals_apart e calls is are = stay_apart e calls [] are (start_sound e.sending is)
