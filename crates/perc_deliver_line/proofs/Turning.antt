-- What a delivery's turn is, and that it is done.
use Rattle.std.proofs.Common.{◌≡◌, ℕ, ◌⊎◌, inl, inr, Bool, false, cond, List, [], ◌∷◌, Option, Some, None, Result, Ok, Err, refl, sym, ap, ◌∙◌, subst}
use Rattle.std.specs.Option.{option_map_or}
use Rattle.std.specs.Borrow.{Bor}
use Rattle.perc_conference_state.specs.Mirror.{Does, Mirrors}
use Rattle.perc_conference_state.specs.declared.conference.Conference as code
use Rattle.perc_conference_state.specs.declared.conference.Stop.TheVariants as stop
use Rattle.perc_conference_state.specs.declared.conference.Stop.{Stop}
use Rattle.perc_conference_state.specs.declared.conference.Told.{Told}
use Rattle.perc_deliver_line.specs.Hearing.{Hears, IsHeardAs, IsToldAs, Reports, Tells, WasSent, heard_state}
use Rattle.perc_deliver_line.specs.declared.delivering.Delivery.{Delivery}
use Rattle.perc_deliver_line.specs.declared.delivering.Heard.TheVariants as heard
use Rattle.perc_conference_state.proofs.Turning.{one_text}
use Rattle.perc_deliver_line.proofs.Receiving.{orderly_kept}
use Rattle.perc_deliver_line.proofs.Rows.{accepted_row}
use Rattle.perc_incoming.specs.Control.{IsControl, outcome_rtcp}
use Rattle.perc_incoming.specs.declared.settling.Accepted.{Accepted}
use Rattle.perc_receiver.specs.Foreign.{is_foreign}
use Rattle.perc_receiver.specs.Receiver as receiver
use Rattle.perc_receiver.specs.Receiver.{Receiver, outcome}
use Rattle.perc_receiver.specs.Table.{Row}
use Rattle.perc_receiver.specs.declared.refusal.Refusal as inner
use Rattle.perc_report_line.specs.Report.{Report, Accept, Refuse, Rtcp}
use Rattle.perc_report_line.specs.declared.reasons.Refusal.{Refusal}
use Rattle.perc_report_line.specs.declared.reasons.Refusal.TheVariants as refusal
use Rattle.perc_rtp.specs.Carried.{kind_of}
use Rattle.perc_rtp.specs.declared.carried.Carried.{Carried}
use Rattle.perc_rtp.specs.declared.carried.Carried.TheVariants as carried
use Rattle.perc_run.specs.Delivering.{acceptance, answer_line, by_cipher, control_line, deliver_turn, delivered, heard_turn, row_at}
use Rattle.perc_run.specs.Forwarding.{control_refusal}
use Rattle.perc_run.specs.Sound.{IsOrderly}
use Rattle.perc_run.specs.State.{Datagram, Member, State, Goes, Refused, Halts, datagram_at, member_named}
use Rattle.perc_script_line.specs.declared.reason.Reason.TheVariants as reason
use Rattle.perc_sent.specs.Sent.{IsSentAs}
use Rattle.perc_sent.specs.declared.table.Sent.{Sent}
use Rattle.perc_srtp.specs.declared.rtcp.RtcpFault.{RtcpFault}

-- ---- one line

-- A line was reported, and the state is stood for.
pub does_report : (line : Report) (next : State) (result : Result Told Stop) (before after : List ℕ) (c : code.Conference) → Reports line result before after → Mirrors c next
    → Does (Goes (line ∷ []) next) result before after c
does_report line next (Err e) before after c is mirrors = subst (λ (x : Stop). Does (Goes (line ∷ []) next) (Err x) before after c) (sym is) tt
does_report line next (Ok told) before after c is mirrors =
    (one_text before after line is.1, is.0, mirrors)

-- ---- media

module _ (s : State) (m : Member) (d : Delivery) (octets : List ℕ) (c : code.Conference) where
  abbrev its : Receiver
  its = m.endpoint.receiving

  -- what is done where the datagram isn't foreign
  answered : (result : Result Told Stop) (before after : List ℕ) → is_foreign s.table its octets ≡ false
      → Does (heard_turn s m (answer_line s.table d.datagram m.name (outcome its octets).0) (outcome its octets).1) result before after c
      → Does (delivered by_cipher s d.datagram m octets carried.Rtp) result before after c
  answered result before after known does =
      subst
      (λ (b : Bool).
      Does (cond b (Halts m.name) (heard_turn s m (answer_line s.table d.datagram m.name (outcome its octets).0) (outcome its octets).1)) result before after c)
      (sym known) does

  told_as : (told : Accepted) (a : receiver.Accepted) → is_foreign s.table its octets ≡ false → (outcome its octets).0 ≡ Ok a → IsHeardAs (Ok a) (heard.Accepted told) → IsToldAs a told
  told_as told a known is accepted = record { accepted = accepted; sender = (accepted_row s.table its octets a known is).sender }

  accepted_line : (told : Accepted) (answer : Result receiver.Accepted inner.Refusal) (result : Result Told Stop) (before after : List ℕ)
      → is_foreign s.table its octets ≡ false → (outcome its octets).0 ≡ answer → IsHeardAs answer (heard.Accepted told) → m.name ≡ d.name → Tells s d told result before after
      → Reports (answer_line s.table d.datagram m.name answer) result before after
  accepted_line told (Err e) result before after known is accepted name tells = absurd accepted
  accepted_line told (Ok a) (Err e) before after known is accepted name tells = tells
  accepted_line told (Ok a) (Ok kinds) before after known is accepted name tells =
      subst (λ (n : List ℕ). Reports (Accept (acceptance s.table d.datagram n a)) (Ok kinds) before after) (sym name) (tells a (told_as told a known is accepted))

  pub accepted_does : (told : Accepted) (result : Result Told Stop) (before after : List ℕ) → Hears s m octets (heard.Accepted told) c → m.name ≡ d.name
      → Tells s d told result before after → Does (delivered by_cipher s d.datagram m octets carried.Rtp) result before after c
  accepted_does told result before after hears name tells =
      answered result before after hears.0
      (does_report (answer_line s.table d.datagram m.name (outcome its octets).0) (heard_state s m (outcome its octets).1) result before after c
      (accepted_line told (outcome its octets).0 result before after hears.0 refl hears.1 name tells) hears.2)

  refused_line : (why : Refusal) (answer : Result receiver.Accepted inner.Refusal) (result : Result Told Stop) (before after : List ℕ)
      → IsHeardAs answer (heard.Refused why) → m.name ≡ d.name → Reports (Refuse d.datagram d.name why) result before after
      → Reports (answer_line s.table d.datagram m.name answer) result before after
  refused_line why (Ok a) result before after refused name reports = absurd refused
  refused_line why (Err e) result before after refused name reports =
      let same : Refuse d.datagram d.name why ≡ answer_line s.table d.datagram m.name (Err e) = λ i. Refuse d.datagram (sym name i) (refused i) in
      subst (λ (line : Report). Reports line result before after) same reports

  pub refused_does : (why : Refusal) (result : Result Told Stop) (before after : List ℕ) → Hears s m octets (heard.Refused why) c → m.name ≡ d.name
      → Reports (Refuse d.datagram d.name why) result before after → Does (delivered by_cipher s d.datagram m octets carried.Rtp) result before after c
  refused_does why result before after hears name reports =
      answered result before after hears.0
      (does_report (answer_line s.table d.datagram m.name (outcome its octets).0) (heard_state s m (outcome its octets).1) result before after c
      (refused_line why (outcome its octets).0 result before after hears.1 name reports) hears.2)

  pub foreign_does : (text : List ℕ) → Hears s m octets heard.Foreign c → m.name ≡ d.name
      → Does (delivered by_cipher s d.datagram m octets carried.Rtp) (Err (stop.Foreign d.name)) text text c
  foreign_does text hears name =
      subst
      (λ (b : Bool).
      Does (cond b (Halts m.name) (heard_turn s m (answer_line s.table d.datagram m.name (outcome its octets).0) (outcome its octets).1)) (Err (stop.Foreign d.name)) text
      text c)
      (sym hears) (sym name)

  sent_by : (told : Accepted) (answer : Result receiver.Accepted inner.Refusal) → is_foreign s.table its octets ≡ false → (outcome its octets).0 ≡ answer
      → IsHeardAs answer (heard.Accepted told) → (row : Row) × (row_at s.table told.ssrc told.index ≡ Some row)
  sent_by told (Err e) known is accepted = absurd accepted
  sent_by told (Ok a) known is accepted =
      let it = accepted_row s.table its octets a known is in
      (it.row, (λ i. row_at s.table ((accepted.ssrc ∙ sym it.sender) i) (accepted.index i)) ∙ it.found)

  -- Who accepted a packet that isn't foreign got it of somebody.
  pub was_sent : (told : Accepted) → IsOrderly s → Hears s m octets (heard.Accepted told) c → WasSent c told
  was_sent told orderly hears =
      let row = sent_by told (outcome its octets).0 hears.0 refl hears.1 in record {
        state = heard_state s m (outcome its octets).1;
        orderly = orderly_kept m.name (outcome its octets).1 s orderly;
        mirrors = hears.2;
        row = row.0;
        found = row.1;
      }

-- ---- what is told of it

pub same_acceptance : (s : State) (d : Delivery) (told : Accepted) (a : receiver.Accepted) (found : Option Row) (sent : Sent) → row_at s.table told.ssrc told.index ≡ found
    → IsSentAs found (Some sent) → IsToldAs a told
    → record {
      datagram = d.datagram;
      name = d.name;
      sender = sent.sender;
      sent = sent.datagram;
      pt = told.pt;
      seq = told.seq;
      marker = told.marker;
      timestamp = told.timestamp;
      payload = told.payload.now;
    }
    ≡ acceptance s.table d.datagram d.name a
same_acceptance s d told a None sent at is told_is = absurd (cc)
same_acceptance s d told a (Some row) sent at is told_is =
    let t = told_is.accepted in
    let e : row_at s.table a.attempt.context.ssrc a.attempt.index ≡ Some row = (λ i. row_at s.table ((told_is.sender ∙ sym t.ssrc) i) (sym t.index i)) ∙ at in
    let sender : sent.sender ≡ option_map_or (λ (x : Row). x.sender) (row_at s.table a.attempt.context.ssrc a.attempt.index) [] =
    is.0 ∙ ap (λ (o : Option Row). option_map_or (λ (x : Row). x.sender) o []) (sym e) in
    let number : sent.datagram ≡ option_map_or (λ (x : Row). x.datagram) (row_at s.table a.attempt.context.ssrc a.attempt.index) 0 =
    is.1 ∙ ap (λ (o : Option Row). option_map_or (λ (x : Row). x.datagram) o 0) (sym e) in
    λ i. record {
      datagram = d.datagram;
      name = d.name;
      sender = sender i;
      sent = number i;
      pt = t.pt i;
      seq = t.seq i;
      marker = t.marker i;
      timestamp = t.timestamp i;
      payload = t.payload i;
    }

-- ---- control

control_told : (number : ℕ) (name : List ℕ) (answer : Result (List ℕ) RtcpFault) (plain : Bor (List ℕ)) → IsControl answer (Ok plain)
    → Rtcp number name plain.now ≡ control_line number name answer
control_told number name (Ok octets) plain is = ap (Rtcp number name) is
control_told number name (Err f) plain is = absurd (cc)

control_refused : (number : ℕ) (name : List ℕ) (answer : Result (List ℕ) RtcpFault) (fault : RtcpFault) → IsControl answer (Err fault)
    → Refuse number name (control_refusal fault) ≡ control_line number name answer
control_refused number name (Ok octets) fault is = absurd is
control_refused number name (Err f) fault is = let same : fault ≡ f = cc in ap (λ (x : RtcpFault). Refuse number name (control_refusal x)) same

module _ (s : State) (m : Member) (d : Delivery) (octets : List ℕ) (c : code.Conference) where
  abbrev opened : Result (List ℕ) RtcpFault × Receiver
  opened = outcome_rtcp m.endpoint.receiving octets

  control_does : (line : Report) (result : Result Told Stop) (before after : List ℕ) → line ≡ control_line d.datagram m.name opened.0 → Reports line result before after
      → Mirrors c (heard_state s m opened.1) → Does (delivered by_cipher s d.datagram m octets carried.Rtcp) result before after c
  control_does line result before after is reports mirrors =
      does_report (control_line d.datagram m.name opened.0) (heard_state s m opened.1) result before after c
      (subst (λ (l : Report). Reports l result before after) is reports) mirrors

  pub control_accepted : (plain : Bor (List ℕ)) (result : Result Told Stop) (before after : List ℕ) → IsControl opened.0 (Ok plain) → m.name ≡ d.name
      → Reports (Rtcp d.datagram d.name plain.now) result before after → Mirrors c (heard_state s m opened.1)
      → Does (delivered by_cipher s d.datagram m octets carried.Rtcp) result before after c
  control_accepted plain result before after is name reports mirrors =
      control_does (Rtcp d.datagram d.name plain.now) result before after
      (ap (λ (n : List ℕ). Rtcp d.datagram n plain.now) (sym name) ∙ control_told d.datagram m.name opened.0 plain is) reports mirrors

  pub control_denied : (fault : RtcpFault) (result : Result Told Stop) (before after : List ℕ) → IsControl opened.0 (Err fault) → m.name ≡ d.name
      → Reports (Refuse d.datagram d.name (control_refusal fault)) result before after → Mirrors c (heard_state s m opened.1)
      → Does (delivered by_cipher s d.datagram m octets carried.Rtcp) result before after c
  control_denied fault result before after is name reports mirrors =
      control_does (Refuse d.datagram d.name (control_refusal fault)) result before after
      (ap (λ (n : List ℕ). Refuse d.datagram n (control_refusal fault)) (sym name) ∙ control_refused d.datagram m.name opened.0 fault is) reports mirrors

-- ---- the line

module _ (s : State) (number : ℕ) (name : List ℕ) where
  pub nobody_named : member_named name s ≡ None → deliver_turn by_cipher s number name ≡ Refused reason.Name
  unfolding deliver_turn
  nobody_named none =
      ap
      (λ (o : Option Member).
      option_map_or
      (λ (m : Member).
      option_map_or (λ (d : Datagram). delivered by_cipher s number m d.octets (kind_of d.octets)) (datagram_at s.datagrams number) (Refused reason.Datagram))
      o (Refused reason.Name))
      none

  at_the_member : (m : Member) (found : Option Datagram) → member_named name s ≡ Some m → datagram_at s.datagrams number ≡ found
      → deliver_turn by_cipher s number name
      ≡ option_map_or (λ (d : Datagram). delivered by_cipher s number m d.octets (kind_of d.octets)) found (Refused reason.Datagram)
  unfolding deliver_turn
  at_the_member m found is at =
      ap
      (λ (o : Option Member).
      option_map_or
      (λ (m : Member).
      option_map_or (λ (d : Datagram). delivered by_cipher s number m d.octets (kind_of d.octets)) (datagram_at s.datagrams number) (Refused reason.Datagram))
      o (Refused reason.Name))
      is
      ∙ ap
      (λ (o : Option Datagram).
      option_map_or (λ (d : Datagram). delivered by_cipher s number m d.octets (kind_of d.octets)) o (Refused reason.Datagram))
      at

  pub no_datagram : (m : Member) → member_named name s ≡ Some m → datagram_at s.datagrams number ≡ None → deliver_turn by_cipher s number name ≡ Refused reason.Datagram
  no_datagram m is none = at_the_member m None is none

  pub turn_of_kind : (m : Member) (d : Datagram) (octets : List ℕ) (kind : Carried) → member_named name s ≡ Some m → datagram_at s.datagrams number ≡ Some d
      → d.octets ≡ octets → kind_of octets ≡ kind → deliver_turn by_cipher s number name ≡ delivered by_cipher s number m octets kind
  turn_of_kind m d octets kind is at same carries =
      at_the_member m (Some d) is at
      ∙ ap (λ (l : List ℕ). delivered by_cipher s number m l (kind_of l)) same
      ∙ ap (delivered by_cipher s number m octets) carries

-- ---- no media

-- What is no media is refused.
pub not_media_does : (s : State) (m : Member) (d : Delivery) (octets : List ℕ) (kind : Carried) (result : Result Told Stop) (before after : List ℕ) (c : code.Conference)
    → (kind ≡ carried.Dtls) ⊎ (kind ≡ carried.Other) → m.name ≡ d.name → Reports (Refuse d.datagram d.name refusal.NotMedia) result before after → Mirrors c s
    → Does (delivered by_cipher s d.datagram m octets kind) result before after c
not_media_does s m d octets kind result before after c is name reports mirrors =
    let line = subst (λ (n : List ℕ). Reports (Refuse d.datagram n refusal.NotMedia) result before after) (sym name) reports in
    let does = does_report (Refuse d.datagram m.name refusal.NotMedia) s result before after c line mirrors in
    elim is [
      | inl e ↦ subst (λ (k : Carried). Does (delivered by_cipher s d.datagram m octets k) result before after c) (sym e) does
      | inr e ↦ subst (λ (k : Carried). Does (delivered by_cipher s d.datagram m octets k) result before after c) (sym e) does
    ]
