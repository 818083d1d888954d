-- What a line adds: a datagram for each wire line, one accept line at most, and a refusal for each datagram that it names at most.
use Rattle.std.proofs.Common.{◌≡◌, ℕ, ◌+◌, ◌≤◌, Bool, true, false, cond, not, List, [], ◌∷◌, ◌++◌, length, Option, Some, None, Result, Ok, Err, count_by, refl, sym, ap, ◌∙◌, arith}
use Rattle.std.specs.List.{cons_option, filter_map, list_all, list_any}
use Rattle.std.specs.Option.{option_map, option_map_or, is_some}
use Rattle.std.specs.Prelude.{filter, nat_le, nat_lt, ◌*◌, ◌==◌, ◌||◌}
use Rattle.std.specs.Str.{bytes_eq}
use Rattle.std.proofs.lemmas.Bool.{and_parts, leb-true}
use Rattle.std.proofs.lemmas.List.{length_push}
use Rattle.std.proofs.lemmas.List.Sums.{sum_by-append, sum_by-cons}
use Rattle.perc_base.specs.declared.profile.Profile.{Profile}
use Rattle.perc_conference_state.specs.Mirror.{is_accept, is_refuse, is_wire}
use Rattle.perc_distributor.specs.Forwarding.{Dropped, Sealed, Sent, media_step, most_octets}
use Rattle.perc_distributor.specs.Inbound.{Heard, Packet, taken}
use Rattle.perc_distributor.specs.declared.fault.InboundFault.{InboundFault}
use Rattle.perc_endpoint.specs.Endpoint.{grant_answer, rekey_answer}
use Rattle.perc_endpoint.specs.declared.fault.GrantFault.{GrantFault}
use Rattle.perc_incoming.specs.Control.{outcome_rtcp}
use Rattle.perc_keyset.specs.declared.Entry.{Entry}
use Rattle.perc_ohb.specs.Rewriting.{Rewrite}
use Rattle.perc_receiver.specs.Foreign.{is_foreign}
use Rattle.perc_receiver.specs.Receiver.{Accepted, Receiver}
use Rattle.perc_receiver.specs.Table.{Secret, Table, secret_of}
use Rattle.perc_receiver.specs.declared.refusal.Refusal as receiver
use Rattle.perc_report_line.specs.Report as report
use Rattle.perc_report_line.specs.Report.{Report}
use Rattle.perc_rtp.specs.Carried.{kind_of}
use Rattle.perc_rtp.specs.Media.{Content}
use Rattle.perc_rtp.specs.declared.carried.Carried.{Carried}
use Rattle.perc_rtp.specs.declared.carried.Carried.TheVariants as carried
use Rattle.perc_run.specs.Control.{control_by, control_turn, rtcp_turn}
use Rattle.perc_run.specs.Delivering.{Judge, answer_line, control_line, deliver_turn, delivered, heard_turn}
use Rattle.perc_run.specs.Forwarding.{Taking, are_present, associations_of, count_recipients, forward_by, forward_turn, forwarded, loss_of, name_of, numbered, packet_in, place_behind}
use Rattle.perc_run.specs.Forwarding.{place_of, reported_outputs, reported_taking, reported_takings, rewrite_by, takings, unsealed_of}
use Rattle.perc_run.specs.Hostile.{added, alter_datagram, alter_turn, altered, at_datagram, graft_datagrams, graft_turn, grafted, inject_turn, made, no_graft}
use Rattle.perc_run.specs.Hostile.{reseal_datagram, reseal_for, reseal_turn, resealed, sealed_anew, unsealed_anew}
use Rattle.perc_run.specs.Joining.{are_used, is_crowded, is_known, join_turn, join_with, joined, leave_turn, new_member, newest, pair_of}
use Rattle.perc_run.specs.Keys.{ekt_turn, grant_turn, granted, rekey_turn, rekeyed}
use Rattle.perc_run.specs.Report.{turn_at}
use Rattle.perc_run.specs.Sending.{content_of, send_turn, sent_by, sent_turn}
use Rattle.perc_run.specs.State.{Datagram, Goes, Halts, Member, Refused, State, Turn, Unsealed, at_member, datagram_at, member_named, most_datagrams, most_spis}
use Rattle.perc_run.specs.Turn.{first_turn, form_turn, turn, turn_under}
use Rattle.perc_script_line.specs.Script as script
use Rattle.perc_script_line.specs.Script.{Changes, IsScript, Script, fits}
use Rattle.perc_script_line.specs.declared.reason.Reason.TheVariants as reason
use Rattle.perc_word.specs.Word.{AreItems, most_of_four}
use Rattle.perc_srtp.specs.declared.rtcp.RtcpFault.{RtcpFault}

pub record Grown (s : State) (lines : List Report) (next : State) : Type 0 where
  pub datagrams : length next.datagrams ≡ length s.datagrams + count_by is_wire lines
  pub accepted : count_by is_accept lines ≤ 1
  pub refused : count_by is_refuse lines ≤ script.most_datagrams

-- where the line is done
abbrev pub GrowsSo : State → Turn → Type 0
GrowsSo s (Goes lines next) = Grown s lines next
GrowsSo s (Refused why) = Unit {0}
GrowsSo s (Halts name) = Unit {0}

by_found : (s : State) (goes : Member → Turn) (found : Option Member) → ((m : Member) → GrowsSo s (goes m)) → GrowsSo s (option_map_or goes found (Refused reason.Name))
by_found s goes None each = tt
by_found s goes (Some m) each = each m

at_name : (s : State) (name : List ℕ) (goes : Member → Turn) → ((m : Member) → GrowsSo s (goes m)) → GrowsSo s (at_member s name goes)
at_name s name goes each = by_found s goes (member_named name s) each

-- ---- one line at most

no_line : (s next : State) → next.datagrams ≡ s.datagrams → Grown s [] next
no_line s next same = record { datagrams = ap length same ∙ omega arith; accepted = omega arith; refused = omega arith }

counted_once : (b : Bool) → 0 + cond b 1 0 ≤ 1
counted_once true = omega arith
counted_once false = omega arith

-- A line that tells of no datagram on the wire.
one_line : (s next : State) (line : Report) → is_wire line ≡ false → next.datagrams ≡ s.datagrams → Grown s (line ∷ []) next
one_line s next line none same =
    let refusals = counted_once (is_refuse line) in record {
      datagrams = ap length same ∙ (let zero : 0 + cond (is_wire line) 1 0 ≡ 0 = rw none refl in omega arith);
      accepted = counted_once (is_accept line);
      refused = omega arith;
    }

-- ---- keys and members

ekt_by : (s : State) (known full : Bool) (next : State) → next.datagrams ≡ s.datagrams
    → GrowsSo s (cond known (Refused reason.Key) (cond full (Refused reason.Limit) (Goes (report.Ekt (length s.secrets + 1) ∷ []) next)))
ekt_by s true full next same = tt
ekt_by s false true next same = tt
ekt_by s false false next same = one_line s next (report.Ekt (length s.secrets + 1)) refl same

ekt_grows : (s : State) (key salt : List ℕ) → GrowsSo s (ekt_turn s key salt)
unfolding ekt_turn
ekt_grows s key salt = ekt_by s (list_any (λ x. bytes_eq x.key key) s.secrets) (nat_le most_spis (length s.secrets)) _ refl

join_by : (s : State) (m : Member) (known used crowded : Bool)
    → GrowsSo s (cond known (Refused reason.Name) (cond used (Refused reason.Key) (cond crowded (Refused reason.Limit) (joined s m))))
join_by s m true used crowded = tt
join_by s m false true crowded = tt
join_by s m false false true = tt
join_by s m false false false = one_line s _ (report.Joined m.name m.association) refl refl

join_under : (s : State) (profile : Profile) (name : List ℕ) (ssrc seq : ℕ) (client server key : List ℕ) (found : Option Secret)
    → GrowsSo s (join_with s profile name ssrc seq (pair_of client) (pair_of server) key found)
join_under s profile name ssrc seq client server key None = tt
join_under s profile name ssrc seq client server key (Some secret) =
    join_by s (new_member s profile name ssrc seq (pair_of client) (pair_of server) secret key) (is_known s name ssrc) (are_used s (pair_of client) (pair_of server)) (is_crowded s)

join_grows : (s : State) (profile : Profile) (name : List ℕ) (ssrc seq : ℕ) (client server key : List ℕ) → GrowsSo s (join_turn s profile name ssrc seq client server key)
unfolding join_turn
join_grows s profile name ssrc seq client server key = join_under s profile name ssrc seq client server key (newest s.secrets)

leave_grows : (s : State) (name : List ℕ) → GrowsSo s (leave_turn s name)
unfolding leave_turn
leave_grows s name = at_name s name _ λ m. one_line s _ (report.Left m.name) refl refl

grant_by : (s : State) (m : Member) (secret : Secret) (key : List ℕ) (answer : Result ℕ GrantFault) → GrowsSo s (granted s m secret key answer)
grant_by s m secret key (Err fault) = one_line s s _ refl refl
grant_by s m secret key (Ok epoch) = one_line s _ _ refl refl

grant_under : (s : State) (m : Member) (key : List ℕ) (secret : Option Secret)
    → GrowsSo s (option_map_or (λ x. granted s m x key (grant_answer m.endpoint x key)) secret (Refused reason.Name))
grant_under s m key None = tt
grant_under s m key (Some secret) = grant_by s m secret key (grant_answer m.endpoint secret key)

grant_grows : (s : State) (name : List ℕ) (spi : ℕ) (key : List ℕ) → GrowsSo s (grant_turn s name spi key)
unfolding grant_turn
grant_grows s name spi key = at_name s name _ λ m. grant_under s m key (secret_of s.secrets spi)

rekey_by : (s : State) (m : Member) (key : List ℕ) (answer : Result ℕ GrantFault) → GrowsSo s (rekeyed s m key answer)
rekey_by s m key (Err fault) = one_line s s _ refl refl
rekey_by s m key (Ok epoch) = one_line s _ _ refl refl

rekey_grows : (s : State) (name key : List ℕ) → GrowsSo s (rekey_turn s name key)
unfolding rekey_turn
rekey_grows s name key = at_name s name _ λ m. rekey_by s m key (rekey_answer m.endpoint key)

-- ---- send

send_by : (s next : State) (line : Report) (d : Datagram) (full : Bool) → is_wire line ≡ true → next.datagrams ≡ s.datagrams ++ d ∷ []
    → GrowsSo s (cond full (Refused reason.Limit) (Goes (line ∷ []) next))
send_by s next line d true wire more = tt
send_by s next line d false wire more =
    let refusals = counted_once (is_refuse line) in
    let one : 0 + cond (is_wire line) 1 0 ≡ 1 = rw wire refl in record {
      datagrams = ap length more ∙ length_push s.datagrams d ∙ ap (λ n. length s.datagrams + n) (sym one);
      accepted = counted_once (is_accept line);
      refused = omega arith;
    }

send_grows : (s : State) (name : List ℕ) (content : Content) → GrowsSo s (send_turn s name content)
unfolding send_turn
send_grows s name content =
    at_name s name (λ m. sent_turn s m content) λ m.
    send_by s _ (report.WireUp (length s.datagrams + 1) m.name (sent_by m content).octets) (sent_by m content) (nat_le most_datagrams (length s.datagrams)) refl refl

-- ---- rtcp, and hostile lines

rtcp_grows : (s : State) (name plain : List ℕ) → GrowsSo s (rtcp_turn s name plain)
unfolding rtcp_turn
rtcp_grows s name plain =
    at_name s name (λ m. control_turn s m plain) λ m.
    send_by s _ (report.WireUp (length s.datagrams + 1) m.name (control_by m plain).octets) (control_by m plain) (nat_le most_datagrams (length s.datagrams)) refl refl

added_grows : (s : State) (line : Report) (d : Datagram) → is_wire line ≡ true → GrowsSo s (added s line d)
added_grows s line d wire =
    send_by s (record s { datagrams = s.datagrams ++ d ∷ [] }) line d (nat_lt most_octets (length d.octets) || nat_le most_datagrams (length s.datagrams)) wire refl

made_grows : (s : State) (octets : List ℕ) → GrowsSo s (made s octets)
made_grows s octets = added_grows s (report.WireMade (length s.datagrams + 1) octets) (record { octets = octets; unsealed = None }) refl

if_any : (s : State) (goes : Datagram → Turn) (found : Option Datagram) → ((d : Datagram) → GrowsSo s (goes d)) → GrowsSo s (option_map_or goes found (Refused reason.Datagram))
if_any s goes None each = tt
if_any s goes (Some d) each = each d

at_number : (s : State) (number : ℕ) (goes : Datagram → Turn) → ((d : Datagram) → GrowsSo s (goes d)) → GrowsSo s (at_datagram s number goes)
at_number s number goes each = if_any s goes (datagram_at s.datagrams number) each

unless_past : (s : State) (t : Turn) (past : Bool) → GrowsSo s t → GrowsSo s (cond past (Refused reason.Datagram) t)
unless_past s t true grows = tt
unless_past s t false grows = grows

inject_grows : (s : State) (octets : List ℕ) → GrowsSo s (inject_turn s octets)
unfolding inject_turn
inject_grows s octets = made_grows s octets

alter_grows : (s : State) (number offset : ℕ) (new : List ℕ) → GrowsSo s (alter_turn s number offset new)
unfolding alter_turn
alter_grows s number offset new =
    at_number s number (alter_datagram s offset new) λ d.
    unless_past s (made s (altered d.octets offset new)) (nat_lt (length d.octets) (offset + length new)) (made_grows s (altered d.octets offset new))

graft_grows : (s : State) (first front second back : ℕ) → GrowsSo s (graft_turn s first front second back)
unfolding graft_turn
graft_grows s first front second back =
    at_number s first (λ a. at_datagram s second (λ b. graft_datagrams s front back a b)) λ a.
    at_number s second (λ b. graft_datagrams s front back a b) λ b.
    unless_past s (made s (grafted a.octets front b.octets back)) (no_graft a.octets front b.octets back) (made_grows s (grafted a.octets front b.octets back))

resealed_grows : (s : State) (m : Member) (roc : ℕ) (change : Rewrite) (u : Option Unsealed)
    → GrowsSo s (option_map_or (λ x. reseal_for s m roc (unsealed_anew x change)) u (Refused reason.Datagram))
resealed_grows s m roc change None = tt
resealed_grows s m roc change (Some u) =
    let new = unsealed_anew u change in
    added_grows s (report.WireReseal (length s.datagrams + 1) m.name (sealed_anew m roc new)) (resealed m roc new) refl

reseal_grows : (s : State) (number : ℕ) (name : List ℕ) (roc : ℕ) (words : Changes) → GrowsSo s (reseal_turn s number name roc words)
unfolding reseal_turn
reseal_grows s number name roc words =
    at_name s name (λ m. at_datagram s number (reseal_datagram s m roc (rewrite_by words))) λ m.
    at_number s number (reseal_datagram s m roc (rewrite_by words)) λ d. resealed_grows s m roc (rewrite_by words) d.unsealed

-- ---- forward

count_append : (p : Report → Bool) (xs ys : List Report) → count_by p (xs ++ ys) ≡ count_by p xs + count_by p ys
count_append p xs ys = sum_by-append (λ x. cond (p x) 1 0) xs ys

count_cons : (p : Report → Bool) (x : Report) (xs : List Report) → count_by p (x ∷ xs) ≡ cond (p x) 1 0 + count_by p xs
count_cons p x xs = sum_by-cons (λ x. cond (p x) 1 0) x xs

-- Of so many datagrams that are taken these lines tell, which had those before them.
record IsToldOf (few before : ℕ) (told : List Report × List Datagram) : Type 0 where
  datagrams : length told.1 ≡ before + count_by is_wire told.0
  accepted : count_by is_accept told.0 ≡ 0
  refused : count_by is_refuse told.0 ≤ few

outputs_told : (members : List Member) (change : Rewrite) (number : ℕ) (packet : Packet) (datagrams : List Datagram) (outputs : List Sent)
    → IsToldOf 0 (length datagrams) (reported_outputs members change number packet datagrams outputs)
outputs_told members change number packet datagrams [] = record { datagrams = omega arith; accepted = refl; refused = omega arith }
outputs_told members change number packet datagrams (Sealed place to octets ∷ outputs) =
    let d : Datagram = record { octets = octets; unsealed = unsealed_of change packet } in
    let rest = outputs_told members change number packet (datagrams ++ d ∷ []) outputs in
    let lines = (reported_outputs members change number packet (datagrams ++ d ∷ []) outputs).0 in
    let line = report.WireDown (length datagrams + 1) (name_of members to) octets in record {
      datagrams = omega (arith, rest.datagrams, length_push datagrams d, count_cons is_wire line lines);
      accepted = omega (arith, rest.accepted, count_cons is_accept line lines);
      refused = omega (arith, rest.refused, count_cons is_refuse line lines);
    }
outputs_told members change number packet datagrams (Dropped place to f ∷ outputs) =
    let rest = outputs_told members change number packet datagrams outputs in
    let lines = (reported_outputs members change number packet datagrams outputs).0 in
    let line = report.Dropped number (name_of members to) (loss_of f) in record {
      datagrams = omega (arith, rest.datagrams, count_cons is_wire line lines);
      accepted = omega (arith, rest.accepted, count_cons is_accept line lines);
      refused = omega (arith, rest.refused, count_cons is_refuse line lines);
    }

taking_told : (members : List Member) (change : Rewrite) (outputs : List Sent) (place : ℕ) (datagrams : List Datagram) (number : ℕ) (result : Result Packet InboundFault)
    → IsToldOf 1 (length datagrams) (reported_taking members change outputs place datagrams number result)
taking_told members change outputs place datagrams number (Err f) = record { datagrams = omega arith; accepted = refl; refused = omega arith }
taking_told members change outputs place datagrams number (Ok packet) =
    let told = outputs_told members change number packet datagrams (filter (λ x. place_of x == place) outputs) in
    record { datagrams = told.datagrams; accepted = told.accepted; refused = omega (arith, told.refused) }

takings_told : (members : List Member) (change : Rewrite) (outputs : List Sent) (place : ℕ) (datagrams : List Datagram) (taken : List Taking)
    → IsToldOf (length taken) (length datagrams) (reported_takings members change outputs place datagrams taken)
takings_told members change outputs place datagrams [] = record { datagrams = omega arith; accepted = refl; refused = omega arith }
takings_told members change outputs place datagrams (t ∷ taken) =
    let one = reported_taking members change outputs place datagrams t.number t.result in
    let more = reported_takings members change outputs (place_behind place t.result) one.1 taken in
    let first = taking_told members change outputs place datagrams t.number t.result in
    let rest = takings_told members change outputs (place_behind place t.result) one.1 taken in record {
      datagrams = omega (arith, first.datagrams, rest.datagrams, count_append is_wire one.0 more.0);
      accepted = omega (arith, first.accepted, rest.accepted, count_append is_accept one.0 more.0);
      refused = omega (arith, first.refused, rest.refused, count_append is_refuse one.0 more.0);
    }

takings_few : (set : List Entry) (heard : List Heard) (from : List ℕ) (list : List (ℕ × Datagram)) → length (takings set heard from list).0 ≡ length list
takings_few set heard from [] = refl
takings_few set heard from (d ∷ list) =
    let rest = takings_few set (taken set heard from d.1.octets).1 from list in omega (arith, rest)

numbered_one : (n : ℕ) (found : Option Datagram) (rest : List (ℕ × Datagram)) (few : ℕ) → length rest ≤ few → length (cons_option (option_map (λ d. (n, d)) found) rest) ≤ few + 1
numbered_one n None rest few h = omega arith
numbered_one n (Some d) rest few h = omega arith

numbered_few : (datagrams : List Datagram) (numbers : List ℕ) → length (numbered datagrams numbers) ≤ length numbers
numbered_few datagrams [] = omega arith
numbered_few datagrams (n ∷ numbers) =
    let rest = numbered_one n (datagram_at datagrams n) (numbered datagrams numbers) (length numbers) (numbered_few datagrams numbers) in omega (arith, rest)

forwarded_grows : (s : State) (m : Member) (numbers : List ℕ) (change : Rewrite) (to : Option (List (List ℕ))) → length numbers ≤ script.most_datagrams
    → GrowsSo s (forwarded s m numbers change to)
forwarded_grows s m numbers change to few =
    let list = numbered s.datagrams numbers in
    let opened = takings s.set s.heard m.association list in
    let step = media_step 0 1 s.set (filter_map packet_in opened.0) change (option_map (associations_of s) to) s.sealing in
    let told = takings_told s.members change step.0 0 s.datagrams opened.0 in record {
      datagrams = told.datagrams;
      accepted = omega (arith, told.accepted);
      refused = omega (arith, told.refused, takings_few s.set s.heard m.association list, numbered_few s.datagrams numbers, few);
    }

forward_tested : (s : State) (m : Member) (numbers : List ℕ) (change : Rewrite) (to : Option (List (List ℕ))) (absent missing full : Bool) → length numbers ≤ script.most_datagrams
    → GrowsSo s (cond absent (Refused reason.Name) (cond missing (Refused reason.Datagram) (cond full (Refused reason.Limit) (forwarded s m numbers change to))))
forward_tested s m numbers change to true missing full few = tt
forward_tested s m numbers change to false true full few = tt
forward_tested s m numbers change to false false true few = tt
forward_tested s m numbers change to false false false few = forwarded_grows s m numbers change to few

forward_grows : (s : State) (name numbers : List ℕ) (words : Changes) (to : Option (List (List ℕ))) → length numbers ≤ script.most_datagrams
    → GrowsSo s (forward_turn s name numbers words to)
unfolding forward_turn
forward_grows s name numbers words to few =
    at_name s name (λ m. forward_by s m numbers (rewrite_by words) to)
    λ m. forward_tested s m numbers (rewrite_by words) to (not (option_map_or (are_present s) to true)) (not (list_all (λ n. is_some (datagram_at s.datagrams n)) numbers))
    (nat_lt most_datagrams (length s.datagrams + length numbers * count_recipients s m to)) few

-- ---- deliver

answer_wires : (table : Table) (number : ℕ) (name : List ℕ) (answer : Result Accepted receiver.Refusal) → is_wire (answer_line table number name answer) ≡ false
answer_wires table number name (Ok a) = refl
answer_wires table number name (Err e) = refl

control_wires : (number : ℕ) (name : List ℕ) (answer : Result (List ℕ) RtcpFault) → is_wire (control_line number name answer) ≡ false
control_wires number name (Ok plain) = refl
control_wires number name (Err f) = refl

media_by : (s : State) (number : ℕ) (m : Member) (foreign : Bool) (heard : Result Accepted receiver.Refusal × Receiver)
    → GrowsSo s (cond foreign (Halts m.name) (heard_turn s m (answer_line s.table number m.name heard.0) heard.1))
media_by s number m true heard = tt
media_by s number m false heard = one_line s _ (answer_line s.table number m.name heard.0) (answer_wires s.table number m.name heard.0) refl

delivered_grows : (judge : Judge) (s : State) (number : ℕ) (m : Member) (octets : List ℕ) (kind : Carried) → GrowsSo s (delivered judge s number m octets kind)
delivered_grows judge s number m octets carried.Dtls = one_line s s _ refl refl
delivered_grows judge s number m octets carried.Other = one_line s s _ refl refl
delivered_grows judge s number m octets carried.Rtcp =
    let answer = (outcome_rtcp m.endpoint.receiving octets).0 in one_line s _ (control_line number m.name answer) (control_wires number m.name answer) refl
delivered_grows judge s number m octets carried.Rtp = media_by s number m (is_foreign s.table m.endpoint.receiving octets) (judge s.table m.endpoint.receiving octets)

datagram_grows : (judge : Judge) (s : State) (number : ℕ) (m : Member) (d : Option Datagram)
    → GrowsSo s (option_map_or (λ x. delivered judge s number m x.octets (kind_of x.octets)) d (Refused reason.Datagram))
datagram_grows judge s number m None = tt
datagram_grows judge s number m (Some d) = delivered_grows judge s number m d.octets (kind_of d.octets)

deliver_grows : (judge : Judge) (s : State) (number : ℕ) (name : List ℕ) → GrowsSo s (deliver_turn judge s number name)
unfolding deliver_turn
deliver_grows judge s number name = at_name s name _ λ m. datagram_grows judge s number m (datagram_at s.datagrams number)

-- ---- any line

-- A list of a line has 32 datagrams at most.
pub few_numbers : (numbers : List ℕ) → AreItems script.most_datagrams (λ n. n ≤ most_of_four) numbers → length numbers ≤ script.most_datagrams
few_numbers numbers are = leb-true (length numbers) 32 (and_parts (nat_le 1 (length numbers)) (nat_le (length numbers) 32) are.count).1

form_grows : (judge : Judge) (s : State) (profile : Profile) (line : Script) → IsScript line → GrowsSo s (form_turn judge s profile line)
form_grows judge s profile script.Nothing said = no_line s s refl
form_grows judge s profile (script.Conference other) said = tt
form_grows judge s profile (script.Ekt key salt) said = ekt_grows s key salt
form_grows judge s profile (script.Join name ssrc seq client server key) said = join_grows s profile name ssrc seq client server key
form_grows judge s profile (script.Leave name) said = leave_grows s name
form_grows judge s profile (script.Grant name spi key) said = grant_grows s name spi key
form_grows judge s profile (script.Rekey name key) said = rekey_grows s name key
form_grows judge s profile (script.Send name pt marker timestamp payload options) said = send_grows s name (content_of pt marker timestamp payload options)
form_grows judge s profile (script.Rtcp name octets) said = rtcp_grows s name octets
form_grows judge s profile (script.Inject octets) said = inject_grows s octets
form_grows judge s profile (script.Alter datagram offset octets) said = alter_grows s datagram offset octets
form_grows judge s profile (script.Graft first front second back) said = graft_grows s first front second back
form_grows judge s profile (script.Reseal datagram name roc changes) said = reseal_grows s datagram name roc changes
form_grows judge s profile (script.Forward name datagrams changes recipients) said = forward_grows s name datagrams changes recipients (few_numbers datagrams said.1)
form_grows judge s profile (script.Deliver datagram name) said = deliver_grows judge s datagram name

first_grows : (s : State) (line : Script) → GrowsSo s (first_turn s line)
first_grows s script.Nothing = no_line s s refl
first_grows s (script.Conference profile) = no_line s (record s { profile = Some profile }) refl
first_grows s (script.Ekt key salt) = tt
first_grows s (script.Join name ssrc seq client server key) = tt
first_grows s (script.Leave name) = tt
first_grows s (script.Grant name spi key) = tt
first_grows s (script.Rekey name key) = tt
first_grows s (script.Send name pt marker timestamp payload options) = tt
first_grows s (script.Rtcp name octets) = tt
first_grows s (script.Inject octets) = tt
first_grows s (script.Alter datagram offset octets) = tt
first_grows s (script.Graft first front second back) = tt
first_grows s (script.Reseal datagram name roc changes) = tt
first_grows s (script.Forward name datagrams changes recipients) = tt
first_grows s (script.Deliver datagram name) = tt

unless_unfit : (s : State) (t : Turn) (unfit : Bool) → GrowsSo s t → GrowsSo s (cond unfit (Refused reason.Form) t)
unless_unfit s t true grows = tt
unless_unfit s t false grows = grows

under_grows : (judge : Judge) (s : State) (line : Script) (head : Option Profile) → IsScript line → GrowsSo s (turn_under judge s line head)
under_grows judge s line None said = first_grows s line
under_grows judge s line (Some profile) said = unless_unfit s (form_turn judge s profile line) (not (fits profile line)) (form_grows judge s profile line said)

turn_grows : (judge : Judge) (s : State) (line : Script) → IsScript line → GrowsSo s (turn judge s line)
unfolding turn
turn_grows judge s line said = under_grows judge s line s.profile said

-- What a line adds whose fields have their bounds.
pub at_grows : (judge : Judge) (s : State) (line : Option Script) → ((x : Script) → line ≡ Some x → IsScript x) → GrowsSo s (turn_at judge s line)
at_grows judge s None said = tt
at_grows judge s (Some line) said = turn_grows judge s line (said line refl)
