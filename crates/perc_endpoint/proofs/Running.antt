-- What is always so of the receiving side of an endpoint, over any list of its calls.
use Rattle.std.proofs.Common.{◌≡◌, ℕ, List, [], ◌∷◌, ◌++◌, Option, Some, None, Result, Ok, Err, append_assoc, false, refl, sym, ap, ◌∙◌, subst}
use Rattle.std.proofs.lemmas.List.{append-nil}
use Rattle.perc_base.specs.declared.profile.Profile.{Profile}
use Rattle.perc_kdf.specs.Derivation.{KeyAndSalt}
use Rattle.perc_srtp.specs.declared.rtcp.RtcpFault.{RtcpFault}
use Rattle.perc_srtp.specs.Streams.{rtcp_opened}
use Rattle.perc_kdf.specs.Derivation.{session_keys}
use Rattle.perc_kdf.specs.declared.Kind.TheVariants.{Srtcp}
use Rattle.perc_rtp.specs.Media.{Content}
use Rattle.perc_contexts.specs.declared.SpiOld.{SpiOld as OldSpi}
use Rattle.perc_contexts.specs.Receiving.{spi_answer}
use Rattle.perc_outer.specs.Datagram.{Opened}
use Rattle.perc_receiver.specs.declared.refusal.Refusal.{Refusal}
use Rattle.perc_receiver.specs.Table.{IsRight, IsSecret, Row, Secret, Table}
use Rattle.perc_receiver.specs.Receiver.{Accepted, Receiver, ideal, live_of, outcome}
use Rattle.perc_receiver.specs.Foreign.{is_foreign}
use Rattle.perc_receiver.specs.Calls as receiver
use Rattle.perc_receiver.specs.Calls.{AcceptedOnce, Grant, Hear, IsAcceptedAs, IsConsistent, IsGenuine, with_answer, with_grant}
use Rattle.perc_receiver.proofs.Agreeing as agreeing
use Rattle.perc_receiver.proofs.Calling as calling
use Rattle.perc_receiver.proofs.Genuine as genuine
use Rattle.perc_receiver.proofs.Once.{IsSound, accepted_others, grant_sound, hear_sound, started_sound}
use Rattle.perc_outgoing.specs.declared.fault.SendFault.{SendFault}
use Rattle.perc_outgoing.specs.declared.fault.RtcpSendFault.{RtcpSendFault}
use Rattle.perc_outgoing.specs.Sending.{rtcp_send_fault, send_fault}
use Rattle.perc_incoming.specs.Control.{after_control}
use Rattle.perc_sender.specs.Schedule.{take_answer}
use Rattle.perc_endpoint.specs.declared.fault.GrantFault.{GrantFault}
use Rattle.perc_endpoint.specs.Endpoint.{Endpoint, after_grant, after_rekey, departing, departing_rtcp, grant_answer, new_spi, received, rekey_answer, started, taken_key}
use Rattle.perc_endpoint.specs.Calls.{AreCalls, Call, IsCall, IsRun, Receive, ReceiveRtcp, Rekey, Send, SendRtcp, TakeEkt, accepted_by, accepts, after_call, after_calls, secrets_taken, taken_by, with_secret}

-- ---- what leaves the receiving side

rekey_receives : (e : Endpoint) (key : List ℕ) (answer : Result ℕ GrantFault) → (after_rekey e key answer).receiving ≡ e.receiving
rekey_receives e key (Ok epoch) = refl
rekey_receives e key (Err fault) = refl

send_receives : (e : Endpoint) (content : Content) (fault : Option SendFault) → (departing e content fault).1.receiving ≡ e.receiving
send_receives e content None = refl
send_receives e content (Some fault) = refl

rtcp_receives : (e : Endpoint) (plain : List ℕ) (fault : Option RtcpSendFault) → (departing_rtcp e plain fault).1.receiving ≡ e.receiving
rtcp_receives e plain None = refl
rtcp_receives e plain (Some fault) = refl

-- ---- its contexts agree with what it accepted

control_consistent : (r : Receiver) (opened : Result (ℕ × List ℕ) RtcpFault) (before : List Accepted) → IsConsistent r before → IsConsistent (after_control r opened).1 before
control_consistent r (Ok o) before is = is
control_consistent r (Err fault) before is = is

grant_consistent : (e : Endpoint) (s : Secret) (key : List ℕ) (before : List Accepted) (answer : Result (Option ℕ) OldSpi) (taken : Result ℕ GrantFault)
    → spi_answer (live_of e.receiving.secrets) s.spi ≡ answer → IsConsistent e.receiving before
    → IsConsistent (after_grant e s key (new_spi answer taken)).receiving before
grant_consistent e s key before (Err old) taken at is = is
grant_consistent e s key before (Ok retires) (Err fault) at is = is
grant_consistent e s key before (Ok retires) (Ok epoch) at is =
    subst (λ (a : Result (Option ℕ) OldSpi). IsConsistent (receiver.after_grant e.receiving s a) before) at (calling.each_call e.receiving (Grant s) before is)

pub each_call : (e : Endpoint) (call : Call) (before : List Accepted) → IsConsistent e.receiving before
    → IsConsistent (after_call e call).receiving (accepted_by e call before)
each_call e (TakeEkt s key) before is =
    grant_consistent e s key before (spi_answer (live_of e.receiving.secrets) s.spi) (taken_key (take_answer e.sending.sending s.spi key)) refl is
each_call e (Rekey key) before is = subst (λ (r : Receiver). IsConsistent r before) (sym (rekey_receives e key (rekey_answer e key))) is
each_call e (Send content) before is = subst (λ (r : Receiver). IsConsistent r before) (sym (send_receives e content (send_fault e.sending content))) is
each_call e (Receive datagram) before is = calling.each_call e.receiving (Hear datagram) before is
each_call e (SendRtcp plain) before is = subst (λ (r : Receiver). IsConsistent r before) (sym (rtcp_receives e plain (rtcp_send_fault e.sending plain))) is
each_call e (ReceiveRtcp datagram) before is =
    control_consistent e.receiving (rtcp_opened (session_keys e.receiving.server Srtcp) e.receiving.rtcp datagram) before is

-- ---- what it accepted was sent, and it holds what it took

rtcp_sound : (issued : List Secret) (table : Table) (r : Receiver) (rtcp : List ℕ) (done : List Accepted) → IsSound issued table r done
    → IsSound issued table (record r { rtcp = rtcp }) done
rtcp_sound issued table r rtcp done sound = record {
  holding = record { secrets = sound.holding.secrets; known = sound.holding.known; live = sound.holding.live };
  past = sound.past;
  consistent = sound.consistent;
  sent = sound.sent;
}

control_sound : (issued : List Secret) (table : Table) (r : Receiver) (done : List Accepted) (opened : Result (ℕ × List ℕ) RtcpFault) → IsSound issued table r done
    → IsSound issued table (after_control r opened).1 done
control_sound issued table r done (Ok o) sound = rtcp_sound issued table r (o.0 ∷ r.rtcp) done sound
control_sound issued table r done (Err fault) sound = sound

grant_keeps : (issued : List Secret) (table : Table) (e : Endpoint) (s : Secret) (key : List ℕ) (done : List Accepted) (answer : Result (Option ℕ) OldSpi)
    (taken : Result ℕ GrantFault) → spi_answer (live_of e.receiving.secrets) s.spi ≡ answer → IsSound issued table e.receiving done → IsSecret s
    → IsSound (with_secret s (new_spi answer taken) issued) table (after_grant e s key (new_spi answer taken)).receiving done
grant_keeps issued table e s key done (Err old) taken at sound right = sound
grant_keeps issued table e s key done (Ok retires) (Err fault) at sound right = sound
grant_keeps issued table e s key done (Ok retires) (Ok epoch) at sound right =
    subst (λ (a : Result (Option ℕ) OldSpi). IsSound (with_grant s a issued) table (receiver.after_grant e.receiving s a) done) at
    (grant_sound issued table e.receiving s done sound right)

more_with : (s : Secret) (answer : Result ℕ GrantFault) (issued : List Secret) → (more : List Secret) × (with_secret s answer issued ≡ issued ++ more)
more_with s (Ok epoch) issued = (s ∷ [], refl)
more_with s (Err fault) issued = ([], sym (append-nil issued))

more_taken : (e : Endpoint) (call : Call) (issued : List Secret) → (more : List Secret) × (taken_by e call issued ≡ issued ++ more)
more_taken e (TakeEkt s key) issued = more_with s (grant_answer e s key) issued
more_taken e (Rekey key) issued = ([], sym (append-nil issued))
more_taken e (Send content) issued = ([], sym (append-nil issued))
more_taken e (Receive datagram) issued = ([], sym (append-nil issued))
more_taken e (SendRtcp plain) issued = ([], sym (append-nil issued))
more_taken e (ReceiveRtcp datagram) issued = ([], sym (append-nil issued))

-- Calls add to the secrets.
all_taken : (calls : List Call) (e : Endpoint) (issued : List Secret) → (more : List Secret) × (secrets_taken e calls issued ≡ issued ++ more)
all_taken [] e issued = ([], sym (append-nil issued))
all_taken (call ∷ calls) e issued =
    let one = more_taken e call issued in
    let rest = all_taken calls (after_call e call) (taken_by e call issued) in
    (one.0 ++ rest.0, rest.1 ∙ ap (λ (l : List Secret). l ++ rest.0) one.1 ∙ append_assoc issued one.0 rest.0)

keeps_sound : (table : Table) (e : Endpoint) (call : Call) (calls : List Call) (issued : List Secret) (done : List Accepted) → IsSound issued table e.receiving done
    → IsCall table e call → IsRight (secrets_taken (after_call e call) calls (taken_by e call issued)) table
    → IsSound (taken_by e call issued) table (after_call e call).receiving (accepted_by e call done)
keeps_sound table e (TakeEkt s key) calls issued done sound is right =
    grant_keeps issued table e s key done (spi_answer (live_of e.receiving.secrets) s.spi) (taken_key (take_answer e.sending.sending s.spi key)) refl sound is
keeps_sound table e (Rekey key) calls issued done sound is right =
    subst (λ (r : Receiver). IsSound issued table r done) (sym (rekey_receives e key (rekey_answer e key))) sound
keeps_sound table e (Send content) calls issued done sound is right =
    subst (λ (r : Receiver). IsSound issued table r done) (sym (send_receives e content (send_fault e.sending content))) sound
keeps_sound table e (Receive datagram) calls issued done sound is right =
    let rest = all_taken calls (after_call e (Receive datagram)) issued in
    hear_sound issued rest.0 table e.receiving datagram done sound (subst (λ (l : List Secret). IsRight l table) rest.1 right) is
keeps_sound table e (SendRtcp plain) calls issued done sound is right =
    subst (λ (r : Receiver). IsSound issued table r done) (sym (rtcp_receives e plain (rtcp_send_fault e.sending plain))) sound
keeps_sound table e (ReceiveRtcp datagram) calls issued done sound is right =
    control_sound issued table e.receiving done (rtcp_opened (session_keys e.receiving.server Srtcp) e.receiving.rtcp datagram) sound

stays_sound : (table : Table) (calls : List Call) (e : Endpoint) (issued : List Secret) (done : List Accepted) → IsSound issued table e.receiving done
    → AreCalls table e calls → IsRight (secrets_taken e calls issued) table
    → IsSound (secrets_taken e calls issued) table (after_calls e calls).receiving (accepts e calls done)
stays_sound table [] e issued done sound are right = sound
stays_sound table (call ∷ calls) e issued done sound are right =
    stays_sound table calls (after_call e call) (taken_by e call issued) (accepted_by e call done) (keeps_sound table e call calls issued done sound are.0 right) are.1 right

-- ---- the laws

module _ (table : Table) (profile : Profile) (ssrc index : ℕ) (client server : KeyAndSalt) (first : Secret) (key : List ℕ) (calls : List Call) where
  abbrev start : Endpoint
  start = started profile ssrc index client server first key

  run_sound : IsRun table first start calls → IsSound (secrets_taken start calls (first ∷ [])) table (after_calls start calls).receiving (accepts start calls [])
  run_sound run = stays_sound table calls start (first ∷ []) [] (started_sound table ssrc server first run.secret) run.calls_are run.right

  pub accepted_once : IsRun table first start calls → AcceptedOnce table (accepts start calls [])
  accepted_once run =
      let sound = run_sound run in
      record { as_sent = sound.sent; once = accepted_others table _ (accepts start calls []) run.right.one_row sound.consistent sound.sent }

  pub outcome_is_ideal : (datagram : List ℕ) → IsRun table first start calls → is_foreign table (after_calls start calls).receiving datagram ≡ false
      → outcome (after_calls start calls).receiving datagram ≡ ideal table (after_calls start calls).receiving datagram
  outcome_is_ideal datagram run known =
      agreeing.outcome_is_ideal (secrets_taken start calls (first ∷ [])) table (after_calls start calls).receiving datagram (run_sound run).holding run.right known

  pub genuine_accepted : (datagram : List ℕ) (o : Opened) (row : Row) → IsRun table first start calls
      → is_foreign table (after_calls start calls).receiving datagram ≡ false → IsGenuine table (after_calls start calls).receiving datagram o row
      → IsAcceptedAs table row (received (after_calls start calls) datagram).0
  genuine_accepted datagram o row run known is =
      subst (λ (x : Result Accepted Refusal × Receiver). IsAcceptedAs table row x.0) (sym (outcome_is_ideal datagram run known))
      (genuine.genuine_accepted (secrets_taken start calls (first ∷ [])) table (after_calls start calls).receiving datagram o row run.right is)
