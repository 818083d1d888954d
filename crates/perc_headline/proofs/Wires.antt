-- What the lines `send`, `forward` and `deliver` do keeps what holds.
use Rattle.std.proofs.Common.{◌≡◌, ℕ, ◌+◌, Bool, true, false, cond, not, List, [], ◌∷◌, ◌++◌, length, Option, Some, None, Result, Ok, Err, refl, arith}
use Rattle.std.specs.List.{filter_map, list_all}
use Rattle.std.specs.Option.{option_map, option_map_or, is_some}
use Rattle.std.specs.Prelude.{Contains, ◌<◌, nat_le, nat_lt, ◌*◌}
use Rattle.std.proofs.lemmas.Bool.{leb-false}
use Rattle.std.proofs.lemmas.List.{length_push}
use Rattle.std.proofs.lemmas.List.Elements.{All-contains}
use Rattle.perc_kdf.specs.Derivation.{session_keys}
use Rattle.perc_kdf.specs.declared.Kind.TheVariants.{Srtcp}
use Rattle.perc_ohb.specs.Rewriting.{Rewrite}
use Rattle.perc_rtp.specs.Carried.{kind_of}
use Rattle.perc_rtp.specs.declared.carried.Carried.{Carried}
use Rattle.perc_rtp.specs.declared.carried.Carried.TheVariants as carried
use Rattle.perc_srtp.specs.Streams.{rtcp_opened}
use Rattle.perc_srtp.specs.declared.rtcp.RtcpFault.{RtcpFault}
use Rattle.perc_receiver.specs.declared.refusal.Refusal.{Refusal}
use Rattle.perc_receiver.specs.Table.{Secret, Table}
use Rattle.perc_receiver.specs.Receiver.{Accepted, Receiver, outcome}
use Rattle.perc_receiver.specs.Foreign.{is_foreign}
use Rattle.perc_receiver.proofs.Once as receiver
use Rattle.perc_incoming.specs.Control.{after_control}
use Rattle.perc_distributor.specs.Forwarding.{media_step}
use Rattle.perc_script_line.specs.Script as script
use Rattle.perc_script_line.specs.Script.{Script, Changes, IsScript}
use Rattle.perc_script_line.specs.declared.reason.Reason.TheVariants as reason
use Rattle.perc_report_line.specs.declared.reasons.Refusal.TheVariants as refusal
use Rattle.perc_report_line.specs.Report as report
use Rattle.perc_report_line.specs.Report.{Report, Acceptance}
use Rattle.perc_run.specs.State.{Datagram, State, Member, Goes, Refused, Halts, datagram_at, most_datagrams, with_member}
use Rattle.perc_run.specs.Sending.{send_turn, sent_by, sent_turn, with_send}
use Rattle.perc_run.specs.Forwarding.{are_present, associations_of, count_recipients, forward_by, forward_turn, forwarded, numbered, packet_in, reported_takings, rewrite_by, takings}
use Rattle.perc_run.specs.Delivering.{answer_line, by_cipher, control_line, deliver_turn, delivered, heard_turn, media_refusal, with_receiver}
use Rattle.perc_headline.specs.Headline.{Turns, acceptances, accepted_in}
use Rattle.perc_run.specs.Sound.{IsMember, IsSound, core_of}
use Rattle.perc_headline.proofs.Lookups.{IsFound}
use Rattle.perc_headline.proofs.Sends.{said_media}
use Rattle.perc_headline.proofs.Hearing.{Hears, hears_refused}
use Rattle.perc_headline.proofs.Facts.{Facts, facts_made, quiet_line}
use Rattle.perc_headline.proofs.Sound.{member_same}
use Rattle.perc_headline.proofs.Sent.{IsSender, Said, facts_send, said_content, said_line, table_sent}
use Rattle.perc_headline.proofs.Accepted.{after_hearing, facts_accept, receiver_keeps}
use Rattle.perc_headline.proofs.Quiet.{takings_quiet}
use Rattle.perc_headline.proofs.Lines.{StaysSo, at_name, changes, stays}

-- ---- send

-- the state behind a send
abbrev pub after_sending : State → Member → Said → State
after_sending s m w = record s {
  members = with_member m.name with_send s.members;
  table = table_sent (core_of s) m (said_content w);
  datagrams = s.datagrams ++ sent_by m (said_content w) ∷ [];
}

pub is_sender : (s : State) (w : Said) (m : Member) → IsScript (said_line w) → Contains s.members m → length s.datagrams < most_datagrams → IsSound (core_of s)
    → IsSender (core_of s) m (said_content w)
is_sender s w m said there room sound =
    let is : IsMember s.secrets s.table (length s.datagrams) m = All-contains (IsMember s.secrets s.table (length s.datagrams)) s.members m sound.members there in
    let few = is.few in
    record { there = there; media = said_media w.name w.pt w.marker w.timestamp w.payload w.options said; member = is; few = omega arith }

send_by : (turns : Turns) (s : State) (w : Said) (m : Member) (full : Bool) → IsScript (said_line w) → IsFound s.members w.name m → nat_le most_datagrams (length s.datagrams) ≡ full
    → Facts turns (core_of s)
    → StaysSo turns (said_line w) (cond full (Refused reason.Limit) (Goes (report.WireUp (length s.datagrams + 1) m.name (sent_by m (said_content w)).octets ∷ []) (after_sending s m w)))
send_by turns s w m true said found room f = tt
send_by turns s w m false said found room f =
    let d : Datagram = sent_by m (said_content w) in
    facts_send turns (core_of s) m w (length (s.datagrams ++ d ∷ [])) (length_push s.datagrams d) found.name_is
    (is_sender s w m said found.there (leb-false most_datagrams (length s.datagrams) room) f.sound) f

pub send_stays : (turns : Turns) (s : State) (w : Said) → IsScript (said_line w) → Facts turns (core_of s) → StaysSo turns (said_line w) (send_turn s w.name (said_content w))
unfolding send_turn
send_stays turns s w said f =
    at_name turns (said_line w) s w.name (λ m. sent_turn s m (said_content w))
    (λ m found. send_by turns s w m (nat_le most_datagrams (length s.datagrams)) said found refl f)

-- ---- forward

forwarded_stays : (turns : Turns) (s : State) (line : Script) (m : Member) (numbers : List ℕ) (change : Rewrite) (to : Option (List (List ℕ))) → Facts turns (core_of s)
    → StaysSo turns line (forwarded s m numbers change to)
forwarded_stays turns s line m numbers change to f =
    let opened = takings s.set s.heard m.association (numbered s.datagrams numbers) in
    let step = media_step 0 1 s.set (filter_map packet_in opened.0) change (option_map (associations_of s) to) s.sealing in
    let told = reported_takings s.members change step.0 0 s.datagrams opened.0 in
    let quiet = takings_quiet s.members change step.0 0 s.datagrams opened.0 in
    quiet_line turns line told.0 (record (core_of s) { made = length told.1 }) quiet.none (facts_made turns (core_of s) (length told.1) quiet.more f)

forward_tested : (turns : Turns) (s : State) (line : Script) (m : Member) (numbers : List ℕ) (change : Rewrite) (to : Option (List (List ℕ))) (absent missing full : Bool) → Facts turns (core_of s)
    → StaysSo turns line (cond absent (Refused reason.Name) (cond missing (Refused reason.Datagram) (cond full (Refused reason.Limit) (forwarded s m numbers change to))))
forward_tested turns s line m numbers change to true missing full f = tt
forward_tested turns s line m numbers change to false true full f = tt
forward_tested turns s line m numbers change to false false true f = tt
forward_tested turns s line m numbers change to false false false f = forwarded_stays turns s line m numbers change to f

pub forward_stays : (turns : Turns) (s : State) (line : Script) (name : List ℕ) (numbers : List ℕ) (words : Changes) (to : Option (List (List ℕ))) → Facts turns (core_of s)
    → StaysSo turns line (forward_turn s name numbers words to)
unfolding forward_turn
forward_stays turns s line name numbers words to f =
    at_name turns line s name (λ m. forward_by s m numbers (rewrite_by words) to)
    (λ m found. forward_tested turns s line m numbers (rewrite_by words) to (not (option_map_or (are_present s) to true)) (not (list_all (λ n. is_some (datagram_at s.datagrams n)) numbers))
    (nat_lt most_datagrams (length s.datagrams + length numbers * count_recipients s m to)) f)

-- ---- deliver

-- A receiver that heard RTCP holds and accepted the same.
control_sound : (held : List Secret) (table : Table) (r : Receiver) (done : List Accepted) (opened : Result (ℕ × List ℕ) RtcpFault) → receiver.IsSound held table r done
    → receiver.IsSound held table (after_control r opened).1 done
control_sound held table r done (Err fault) sound = sound
control_sound held table r done (Ok opened) sound = record {
  holding = record { secrets = sound.holding.secrets; known = sound.holding.known; live = sound.holding.live };
  past = sound.past;
  consistent = sound.consistent;
  sent = sound.sent;
}

control_quiet : (number : ℕ) (name : List ℕ) (answer : Result (List ℕ) RtcpFault) → filter_map accepted_in (control_line number name answer ∷ []) ≡ []
control_quiet number name (Ok plain) = refl
control_quiet number name (Err fault) = refl

hears_control : (turns : Turns) (s : State) (m : Member) (opened : Result (ℕ × List ℕ) RtcpFault) → Hears s.secrets s.table (acceptances turns) m
    → Hears s.secrets s.table (acceptances turns) (with_receiver (after_control m.endpoint.receiving opened).1 m)
hears_control turns s m opened h = record {
  held = h.held;
  done = h.done;
  issued = h.issued;
  sound = control_sound h.held s.table m.endpoint.receiving h.done opened h.sound;
  told = h.told;
}

control_stays : (turns : Turns) (s : State) (number : ℕ) (name : List ℕ) (m : Member) (opened : Result (ℕ × List ℕ) RtcpFault) → IsFound s.members name m → Facts turns (core_of s)
    → StaysSo turns (script.Deliver number name) (heard_turn s m (control_line number m.name (after_control m.endpoint.receiving opened).0) (after_control m.endpoint.receiving opened).1)
control_stays turns s number name m opened found f =
    let r : Receiver = (after_control m.endpoint.receiving opened).1 in
    let answer : Result (List ℕ) RtcpFault = (after_control m.endpoint.receiving opened).0 in
    changes turns s (script.Deliver number name) (control_line number m.name answer ∷ []) m (with_receiver r) (control_quiet number m.name answer) (record {
      there = found.there;
      keeps = receiver_keeps r;
      member = λ is. member_same s.secrets s.table (length s.datagrams) m (with_receiver r m) refl refl is;
      hears = λ h. hears_control turns s m opened h;
    }) f

answer_stays : (turns : Turns) (s : State) (number : ℕ) (name octets : List ℕ) (m : Member) (answer : Result Accepted Refusal) → IsFound s.members name m
    → is_foreign s.table m.endpoint.receiving octets ≡ false → (outcome m.endpoint.receiving octets).0 ≡ answer → Facts turns (core_of s)
    → StaysSo turns (script.Deliver number name) (heard_turn s m (answer_line s.table number m.name answer) (outcome m.endpoint.receiving octets).1)
answer_stays turns s number name octets m (Ok x) found known answer f =
    facts_accept turns (core_of s) m number name octets x (record { there = found.there; name_is = found.name_is; known = known; answer = answer }) f
answer_stays turns s number name octets m (Err e) found known answer f =
    let change : Member → Member = after_hearing m octets in
    changes turns s (script.Deliver number name) (report.Refuse number m.name (media_refusal e) ∷ []) m change refl (record {
      there = found.there;
      keeps = receiver_keeps (outcome m.endpoint.receiving octets).1;
      member = λ is. member_same s.secrets s.table (length s.datagrams) m (change m) refl refl is;
      hears = λ h. hears_refused s.secrets s.table (acceptances turns) m octets e f.sound.table known answer h;
    }) f

media_stays : (turns : Turns) (s : State) (number : ℕ) (name octets : List ℕ) (m : Member) (foreign : Bool) → IsFound s.members name m → is_foreign s.table m.endpoint.receiving octets ≡ foreign
    → Facts turns (core_of s)
    → StaysSo turns (script.Deliver number name) (cond foreign (Halts m.name)
    (heard_turn s m (answer_line s.table number m.name (outcome m.endpoint.receiving octets).0) (outcome m.endpoint.receiving octets).1))
media_stays turns s number name octets m true found known f = (number, name, refl)
media_stays turns s number name octets m false found known f = answer_stays turns s number name octets m (outcome m.endpoint.receiving octets).0 found known refl f

delivered_stays : (turns : Turns) (s : State) (number : ℕ) (name octets : List ℕ) (m : Member) (kind : Carried) → IsFound s.members name m → Facts turns (core_of s)
    → StaysSo turns (script.Deliver number name) (delivered by_cipher s number m octets kind)
delivered_stays turns s number name octets m carried.Dtls found f = stays turns s (script.Deliver number name) (report.Refuse number m.name refusal.NotMedia ∷ []) refl f
delivered_stays turns s number name octets m carried.Other found f = stays turns s (script.Deliver number name) (report.Refuse number m.name refusal.NotMedia ∷ []) refl f
delivered_stays turns s number name octets m carried.Rtcp found f =
    control_stays turns s number name m (rtcp_opened (session_keys m.endpoint.receiving.server Srtcp) m.endpoint.receiving.rtcp octets) found f
delivered_stays turns s number name octets m carried.Rtp found f = media_stays turns s number name octets m (is_foreign s.table m.endpoint.receiving octets) found refl f

datagram_stays : (turns : Turns) (s : State) (number : ℕ) (name : List ℕ) (m : Member) (d : Option Datagram) → IsFound s.members name m → Facts turns (core_of s)
    → StaysSo turns (script.Deliver number name) (option_map_or (λ x. delivered by_cipher s number m x.octets (kind_of x.octets)) d (Refused reason.Datagram))
datagram_stays turns s number name m None found f = tt
datagram_stays turns s number name m (Some d) found f = delivered_stays turns s number name d.octets m (kind_of d.octets) found f

pub deliver_stays : (turns : Turns) (s : State) (number : ℕ) (name : List ℕ) → Facts turns (core_of s)
    → StaysSo turns (script.Deliver number name) (deliver_turn by_cipher s number name)
unfolding deliver_turn
deliver_stays turns s number name f =
    at_name turns (script.Deliver number name) s name
    (λ m. option_map_or (λ d. delivered by_cipher s number m d.octets (kind_of d.octets)) (datagram_at s.datagrams number) (Refused reason.Datagram))
    (λ m found. datagram_stays turns s number name m (datagram_at s.datagrams number) found f)
