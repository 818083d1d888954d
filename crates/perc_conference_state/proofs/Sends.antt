-- A member sends its next packet.
use Rattle.std.proofs.Common.{◌≡◌, ℕ, ◌+◌, ◌<◌, ◌≤◌, true, false, List, [], ◌∷◌, ◌++◌, length, Some, None, Ok, slice_get, slice_set, refl, sym, ap, ◌∙◌, subst, arith}
use Rattle.std.specs.List.{flat_map}
use Rattle.std.specs.Prelude.{◌==◌, All, nat_le}
use Rattle.std.proofs.lemmas.Bool.Decides.{nat_tests}
use Rattle.std.proofs.lemmas.List.Elements.{All-contains}
use Rattle.perc_contexts.proofs.ReceivingLaws.{found_of}
use Rattle.perc_member.specs.Each.{MirrorsDatagram, MirrorsMember}
use Rattle.perc_member.specs.Making.{MaySend, SendsNext}
use Rattle.perc_member.specs.declared.datagram.Datagram as code_datagram
use Rattle.perc_member.specs.declared.member.Member as code_member
use Rattle.perc_outgoing.specs.Sending.{sent_row, sent_wraps}
use Rattle.perc_receiver.specs.Table.{IsSecret, Secret, secret_of}
use Rattle.perc_report_line.specs.Report.{WireUp, report_text}
use Rattle.perc_rtp.specs.Media.{Content}
use Rattle.perc_run.specs.Sending.{send_turn, sent_by, sent_turn, with_send}
use Rattle.perc_run.specs.Sound.{IsMember, IsOrderly}
use Rattle.perc_run.specs.State.{Goes, Member, Refused, State, member_named, with_member}
use Rattle.perc_script_line.specs.declared.reason.Reason.TheVariants.{Limit, Name}
use Rattle.perc_sent.proofs.Finding.{contains_at}
use Rattle.perc_sent.proofs.Sending.{Sends, sent_on}
use Rattle.perc_conference_state.specs.declared.conference.Conference as code
use Rattle.perc_conference_state.specs.declared.conference.Told.{Told}
use Rattle.perc_conference_state.specs.Keys.{pairs_of}
use Rattle.perc_conference_state.specs.Mirror.{Does, Mirrors}
use Rattle.perc_conference_state.proofs.Changing.{IsPlaced, distributor_moved, issued_moved}
use Rattle.perc_conference_state.proofs.Lists.{each_push, each_set}
use Rattle.perc_conference_state.proofs.Places.{at_nobody, at_somebody, changed_at, name_of_found}
use Rattle.perc_conference_state.proofs.Served.{keys_moved, pairs_set, same_pairs}
use Rattle.perc_conference_state.proofs.Turning.{does_goes}

-- ---- an orderly member may send

member_at : (s : State) (k : ℕ) (m : Member) → IsOrderly s → slice_get s.members k ≡ Some m → IsMember s.secrets s.table (length s.datagrams) m
member_at s k m orderly at = All-contains (IsMember s.secrets s.table (length s.datagrams)) s.members m orderly.sound.members (contains_at s.members k m at)

right_secret : (secrets : List Secret) (spi : ℕ) (secret : Secret) → All IsSecret secrets → secret_of secrets spi ≡ Some secret → IsSecret secret
right_secret secrets spi secret right found = All-contains IsSecret secrets secret right (found_of (λ (x : Secret). x.spi == spi) secrets secret found).0

pub may_send : (s : State) (k : ℕ) (m : Member) → IsOrderly s → slice_get s.members k ≡ Some m → MaySend m
may_send s k m orderly at =
    let is = member_at s k m orderly at in
    let few = is.few in
    let made = orderly.few_datagrams in
    record {
      sending = is.sending;
      secret = right_secret s.secrets m.endpoint.sending.secret.spi m.endpoint.sending.secret orderly.sound.issued.right is.secret;
      client = All-contains (λ (x : Member). x.endpoint.sending.client ≡ x.client) s.members m orderly.clients (contains_at s.members k m at);
      left = omega arith;
    }

-- ---- turns

pub send_nobody : (s : State) (name : List ℕ) (content : Content) → member_named name s ≡ None → send_turn s name content ≡ Refused Name
unfolding send_turn
send_nobody s name content none = at_nobody s name _ none

sent_full : (s : State) (m : Member) (content : Content) → 131072 ≤ length s.datagrams → sent_turn s m content ≡ Refused Limit
sent_full s m content full =
    let test : nat_le 131072 (length s.datagrams) ≡ true = grind (arith, nat_tests) in
    rw test refl

pub send_full : (s : State) (name : List ℕ) (content : Content) (m : Member) → member_named name s ≡ Some m → 131072 ≤ length s.datagrams → send_turn s name content ≡ Refused Limit
unfolding send_turn
send_full s name content m found full = at_somebody s name _ m found ∙ sent_full s m content full

-- the state once it sent
abbrev after : State → Member → Content → State
after s m content = record s {
  members = with_member m.name with_send s.members;
  table = record { rows = s.table.rows ++ sent_row m.name (length s.datagrams + 1) m.endpoint.sending content ∷ []; wraps = s.table.wraps ++ sent_wraps m.endpoint.sending };
  datagrams = s.datagrams ++ sent_by m content ∷ [];
}

sent_goes : (s : State) (m : Member) (content : Content) → length s.datagrams < 131072
    → sent_turn s m content ≡ Goes (WireUp (length s.datagrams + 1) m.name (sent_by m content).octets ∷ []) (after s m content)
sent_goes s m content room =
    let test : nat_le 131072 (length s.datagrams) ≡ false = grind (arith, nat_tests) in
    rw test refl

send_goes : (s : State) (name : List ℕ) (content : Content) (m : Member) → member_named name s ≡ Some m → length s.datagrams < 131072
    → send_turn s name content ≡ Goes (WireUp (length s.datagrams + 1) m.name (sent_by m content).octets ∷ []) (after s m content)
unfolding send_turn
send_goes s name content m found room = at_somebody s name _ m found ∙ sent_goes s m content room

-- ---- what the code does

-- what it leaves
pub record LeavesSent (c d : code.Conference) (place : ℕ) (b : code_member.Member) (g : code_datagram.Datagram) : Type 0 where
  pub profile : d.profile ≡ c.profile
  pub records : d.records ≡ c.records
  pub issued : d.issued ≡ c.issued
  pub distributor : d.distributor ≡ c.distributor
  pub keys : d.keys ≡ c.keys
  pub members : d.members.items ≡ slice_set c.members.items place b
  pub datagrams : d.datagrams.items ≡ c.datagrams.items ++ g ∷ []

mirrors_sent : (c d : code.Conference) (s : State) (name : List ℕ) (place : ℕ) (a b : code_member.Member) (g : code_datagram.Datagram) (content : Content)
    → IsOrderly s → Mirrors c s → (p : IsPlaced c s name place a) → SendsNext p.member content (length s.datagrams + 1) a b g → LeavesSent c d place b g
    → Mirrors d (after s p.member content)
mirrors_sent c d s name place a b g content orderly mirrors p sends leaves =
    let m = p.member in
    let is = member_at s place m orderly p.at in
    let next : State = after s m content in
    let sent_so : Sends s next m content a b = record {
      mirrors = p.mirrors;
      sending = is.sending;
      sender = is.sender;
      datagram = g;
      sends = sends;
      rows = refl;
      wraps = refl;
      datagrams = refl;
    } in
    record {
      profile = leaves.profile ∙ mirrors.profile;
      issued = issued_moved c d s next leaves.issued refl refl mirrors.issued;
      members =
          rw (leaves.members, changed_at with_send s.members place m orderly.sound.others p.at)
          (each_set MirrorsMember c.members.items s.members place b (with_send m) mirrors.members sends.member);
      distributor = rw leaves.distributor (distributor_moved c.distributor s next refl refl refl mirrors.distributor);
      keys =
          keys_moved c d s next leaves.keys (rw leaves.records refl)
          (ap (flat_map pairs_of) leaves.members
          ∙ pairs_set c.members.items place a b p.code_at (same_pairs a b m (with_send m) p.mirrors sends.member refl refl)) refl refl mirrors.keys;
      datagrams =
          rw leaves.datagrams (each_push MirrorsDatagram c.datagrams.items s.datagrams g (sent_by m content) mirrors.datagrams sends.datagram);
      records = rw leaves.records mirrors.records;
      none = rw leaves.records mirrors.none;
      sent = rw leaves.members (sent_on c.members.items s next place m content a b mirrors.sent p.code_at sent_so);
    }

-- the count of its line
abbrev one_wire : Told
one_wire = record { datagrams = 1; accepted = 0; refused = 0 }

pub sends_on : (c d : code.Conference) (s : State) (name : List ℕ) (place : ℕ) (a b : code_member.Member) (g : code_datagram.Datagram) (content : Content) (number : ℕ)
    (before behind : List ℕ) → IsOrderly s → Mirrors c s → (p : IsPlaced c s name place a) → length s.datagrams < 131072 → number ≡ length s.datagrams + 1
    → SendsNext p.member content number a b g → LeavesSent c d place b g → behind ≡ before ++ report_text (WireUp number name g.octets.items)
    → Does (send_turn s name content) (Ok one_wire) before behind d
sends_on c d s name place a b g content number before behind orderly mirrors p room number_is sends leaves text =
    let m = p.member in
    let named = name_of_found s name m p.found in
    let next = subst (λ (n : ℕ). SendsNext m content n a b g) number_is sends in
    does_goes (send_turn s name content) (WireUp (length s.datagrams + 1) m.name (sent_by m content).octets) (after s m content) one_wire before behind d
    (send_goes s name content m p.found room)
    (text ∙ ap (λ x. before ++ report_text x) (λ i. WireUp (number_is i) (sym named i) (sends.datagram.octets i))) refl
    (mirrors_sent c d s name place a b g content orderly mirrors p next leaves)
