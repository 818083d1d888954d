-- The lines `inject`, `alter`, `graft` and `reseal` put a datagram on the wire, or are refused; the line `rtcp` also counts it at its
-- sender. What holds of these outcomes holds of the lines.
use Rattle.std.proofs.Common.{◌≡◌, ℕ, ◌+◌, ◌<◌, ◌≤◌, ◌||◌, Bool, true, false, cond, List, [], ◌∷◌, ◌++◌, length, Option, Some, None, refl, arith}
use Rattle.std.specs.List.{filter_map}
use Rattle.std.specs.Option.{option_map_or}
use Rattle.std.specs.Prelude.{Contains, nat_le, nat_lt, ◌^◌}
use Rattle.std.proofs.lemmas.Bool.{leb-false, ltb-false}
use Rattle.std.proofs.lemmas.List.{length_push}
use Rattle.std.proofs.lemmas.List.Elements.{All-contains}
use Rattle.perc_receiver.specs.Table.{Secret, Table}
use Rattle.perc_outgoing.specs.Sending.{IsSending, Outgoing, after_rtcp}
use Rattle.perc_distributor.specs.Forwarding.{most_octets}
use Rattle.perc_script_line.specs.Script.{Changes, Script}
use Rattle.perc_script_line.specs.declared.reason.Reason.{Reason}
use Rattle.perc_script_line.specs.declared.reason.Reason.TheVariants as reason
use Rattle.perc_report_line.specs.Report as report
use Rattle.perc_report_line.specs.Report.{Report}
use Rattle.perc_run.specs.State.{Datagram, State, Member, Turn, Goes, Refused, Unsealed, at_member, datagram_at, member_named, most_datagrams, with_member}
use Rattle.perc_run.specs.Forwarding.{rewrite_by}
use Rattle.perc_run.specs.Control.{control_by, control_turn, rtcp_turn, with_control}
use Rattle.perc_run.specs.Hostile.{added, alter_datagram, alter_turn, altered, at_datagram, graft_datagrams, graft_turn, grafted, inject_turn, made, no_graft, reseal_datagram, reseal_for, reseal_turn, resealed, sealed_anew, unsealed_anew}
use Rattle.perc_run.specs.Sound.{IsMember, core_of}
use Rattle.perc_headline.specs.Headline.{Turns, acceptances, accepted_in}
use Rattle.perc_headline.proofs.Lookups.{IsFound, Keeps, found_by_name}
use Rattle.perc_headline.proofs.Hearing.{hears_same}
use Rattle.perc_headline.proofs.Facts.{Facts, facts_change, facts_made, quiet_line}
use Rattle.perc_headline.proofs.Lines.{StaysSo}

-- ---- a datagram more, for whatever holds of turns

abbrev pub with_datagram : State → Datagram → State
with_datagram s d = record s { datagrams = s.datagrams ++ d ∷ [] }

-- It holds of each refusal, and where a datagram is put on the wire and told without an accept line.
pub record HoldsOfAdded (P : Turn → Type 0) (s : State) : Type 0 where
  pub refused : (reason : Reason) → P (Refused reason)
  pub goes : (told : Report) (d : Datagram) → filter_map accepted_in (told ∷ []) ≡ [] → length d.octets ≤ most_octets
      → length s.datagrams < most_datagrams → P (Goes (told ∷ []) (with_datagram s d))

added_by : (P : Turn → Type 0) (s : State) (told : Report) (d : Datagram) (long full : Bool) → filter_map accepted_in (told ∷ []) ≡ []
    → nat_lt most_octets (length d.octets) ≡ long → nat_le most_datagrams (length s.datagrams) ≡ full → HoldsOfAdded P s
    → P (cond (long || full) (Refused reason.Limit) (Goes (told ∷ []) (with_datagram s d)))
added_by P s told d true full quiet size room h = h.refused reason.Limit
added_by P s told d false true quiet size room h = h.refused reason.Limit
added_by P s told d false false quiet size room h =
    h.goes told d quiet (ltb-false most_octets (length d.octets) size) (leb-false most_datagrams (length s.datagrams) room)

pub added_holds : (P : Turn → Type 0) (s : State) (told : Report) (d : Datagram) → filter_map accepted_in (told ∷ []) ≡ []
    → HoldsOfAdded P s → P (added s told d)
added_holds P s told d quiet h =
    added_by P s told d (nat_lt most_octets (length d.octets)) (nat_le most_datagrams (length s.datagrams)) quiet refl refl h

made_holds : (P : Turn → Type 0) (s : State) (octets : List ℕ) → HoldsOfAdded P s → P (made s octets)
made_holds P s octets h =
    added_holds P s (report.WireMade (length s.datagrams + 1) octets) (record { octets = octets; unsealed = None }) refl h

-- ---- what stands first in these lines

found_by : (P : Turn → Type 0) (goes : Datagram → Turn) (found : Option Datagram) → P (Refused reason.Datagram)
    → ((d : Datagram) → P (goes d)) → P (option_map_or goes found (Refused reason.Datagram))
found_by P goes None refused each = refused
found_by P goes (Some d) refused each = each d

at_number : (P : Turn → Type 0) (s : State) (number : ℕ) (goes : Datagram → Turn) → P (Refused reason.Datagram)
    → ((d : Datagram) → P (goes d)) → P (at_datagram s number goes)
at_number P s number goes refused each = found_by P goes (datagram_at s.datagrams number) refused each

unless : (P : Turn → Type 0) (t : Turn) (bad : Bool) → P (Refused reason.Datagram) → P t → P (cond bad (Refused reason.Datagram) t)
unless P t true refused holds = refused
unless P t false refused holds = holds

named_by : (P : Turn → Type 0) (s : State) (name : List ℕ) (goes : Member → Turn) (found : Option Member) → member_named name s ≡ found
    → P (Refused reason.Name) → ((m : Member) → IsFound s.members name m → P (goes m)) → P (option_map_or goes found (Refused reason.Name))
named_by P s name goes None e refused each = refused
named_by P s name goes (Some m) e refused each = each m (found_by_name s name m e)

at_name : (P : Turn → Type 0) (s : State) (name : List ℕ) (goes : Member → Turn) → P (Refused reason.Name)
    → ((m : Member) → IsFound s.members name m → P (goes m)) → P (at_member s name goes)
at_name P s name goes refused each = named_by P s name goes (member_named name s) refl refused each

-- ---- inject, alter, graft

pub inject_holds : (P : Turn → Type 0) (s : State) (octets : List ℕ) → HoldsOfAdded P s → P (inject_turn s octets)
unfolding inject_turn
inject_holds P s octets h = made_holds P s octets h

alter_by : (P : Turn → Type 0) (s : State) (offset : ℕ) (new : List ℕ) (d : Datagram) → HoldsOfAdded P s → P (alter_datagram s offset new d)
alter_by P s offset new d h =
    unless P (made s (altered d.octets offset new)) (nat_lt (length d.octets) (offset + length new)) (h.refused reason.Datagram)
    (made_holds P s (altered d.octets offset new) h)

pub alter_holds : (P : Turn → Type 0) (s : State) (number offset : ℕ) (new : List ℕ) → HoldsOfAdded P s → P (alter_turn s number offset new)
unfolding alter_turn
alter_holds P s number offset new h =
    at_number P s number (alter_datagram s offset new) (h.refused reason.Datagram) (λ d. alter_by P s offset new d h)

graft_by : (P : Turn → Type 0) (s : State) (front back : ℕ) (a b : Datagram) → HoldsOfAdded P s → P (graft_datagrams s front back a b)
graft_by P s front back a b h =
    unless P (made s (grafted a.octets front b.octets back)) (no_graft a.octets front b.octets back) (h.refused reason.Datagram)
    (made_holds P s (grafted a.octets front b.octets back) h)

pub graft_holds : (P : Turn → Type 0) (s : State) (first front second back : ℕ) → HoldsOfAdded P s
    → P (graft_turn s first front second back)
unfolding graft_turn
graft_holds P s first front second back h =
    at_number P s first (λ a. at_datagram s second (λ b. graft_datagrams s front back a b)) (h.refused reason.Datagram)
    (λ a. at_number P s second (λ b. graft_datagrams s front back a b) (h.refused reason.Datagram) (λ b. graft_by P s front back a b h))

-- ---- reseal

reseal_by : (P : Turn → Type 0) (s : State) (m : Member) (roc : ℕ) (changes : Changes) (u : Option Unsealed) → HoldsOfAdded P s
    → P (option_map_or (λ x. reseal_for s m roc (unsealed_anew x (rewrite_by changes))) u (Refused reason.Datagram))
reseal_by P s m roc changes None h = h.refused reason.Datagram
reseal_by P s m roc changes (Some u) h =
    let anew : Unsealed = unsealed_anew u (rewrite_by changes) in
    added_holds P s (report.WireReseal (length s.datagrams + 1) m.name (sealed_anew m roc anew)) (resealed m roc anew) refl h

pub reseal_holds : (P : Turn → Type 0) (s : State) (number : ℕ) (name : List ℕ) (roc : ℕ) (changes : Changes) → HoldsOfAdded P s
    → P (reseal_turn s number name roc changes)
unfolding reseal_turn
reseal_holds P s number name roc changes h =
    at_name P s name (λ m. at_datagram s number (reseal_datagram s m roc (rewrite_by changes))) (h.refused reason.Name)
    (λ m found. at_number P s number (reseal_datagram s m roc (rewrite_by changes)) (h.refused reason.Datagram)
    (λ d. reseal_by P s m roc changes d.unsealed h))

-- ---- rtcp

-- the line that tells it
abbrev pub control_told : State → Member → List ℕ → Report
control_told s m plain = report.WireUp (length s.datagrams + 1) m.name (control_by m plain).octets

-- the state behind a control packet
abbrev pub after_control_packet : State → Member → List ℕ → State
after_control_packet s m plain = record (with_datagram s (control_by m plain)) { members = with_member m.name with_control s.members }

-- It holds of each refusal, and where the member of the name sends its next control packet.
pub record HoldsOfControl (P : Turn → Type 0) (s : State) (name plain : List ℕ) : Type 0 where
  pub refused : (reason : Reason) → P (Refused reason)
  pub goes : (m : Member) → IsFound s.members name m → length s.datagrams < most_datagrams
      → P (Goes (control_told s m plain ∷ []) (after_control_packet s m plain))

control_holds : (P : Turn → Type 0) (s : State) (name plain : List ℕ) (m : Member) (full : Bool) → IsFound s.members name m
    → nat_le most_datagrams (length s.datagrams) ≡ full → HoldsOfControl P s name plain
    → P (cond full (Refused reason.Limit) (Goes (control_told s m plain ∷ []) (after_control_packet s m plain)))
control_holds P s name plain m true found room h = h.refused reason.Limit
control_holds P s name plain m false found room h = h.goes m found (leb-false most_datagrams (length s.datagrams) room)

pub rtcp_holds : (P : Turn → Type 0) (s : State) (name plain : List ℕ) → HoldsOfControl P s name plain → P (rtcp_turn s name plain)
unfolding rtcp_turn
rtcp_holds P s name plain h =
    at_name P s name (λ m. control_turn s m plain) (h.refused reason.Name)
    (λ m found. control_holds P s name plain m (nat_le most_datagrams (length s.datagrams)) found refl h)

-- ---- who sends a control packet

pub control_keeps : Keeps with_control
control_keeps = record { name = λ m. refl; ssrc = λ m. refl }

sending_control : (o : Outgoing) → IsSending o → o.rtcp < 2 ^ 31 → IsSending (after_rtcp o)
sending_control o is few = record {
  ssrc = is.ssrc;
  key = is.key;
  spi = is.spi;
  size = is.size;
  octets = is.octets;
  next = is.next;
  outer = is.outer;
  rtcp = omega arith;
}

-- It goes on sending: a script makes fewer datagrams than there are indices.
pub control_sends : (secrets : List Secret) (table : Table) (made n : ℕ) (m : Member) → n ≡ made + 1 → made < most_datagrams
    → IsMember secrets table made m → IsMember secrets table n (with_control m)
control_sends secrets table made n m next room is =
    let few = is.few in
    let control = is.few_control in record {
      sending = sending_control m.endpoint.sending is.sending (omega arith);
      sender = is.sender;
      secret = is.secret;
      few = omega arith;
      few_control = omega arith;
      before = is.before;
    }

-- ---- what holds of the lines that were done

facts_added : (turns : Turns) (s : State) (d : Datagram) → Facts turns (core_of s) → Facts turns (core_of (with_datagram s d))
facts_added turns s d f = facts_made turns (core_of s) (length (s.datagrams ++ d ∷ [])) (omega (arith, length_push s.datagrams d)) f

pub added_stays : (turns : Turns) (s : State) (line : Script) → Facts turns (core_of s) → HoldsOfAdded (StaysSo turns line) s
added_stays turns s line f = record {
  refused = λ reason. tt;
  goes = λ told d quiet size room. quiet_line turns line (told ∷ []) (core_of (with_datagram s d)) quiet (facts_added turns s d f);
}

facts_control : (turns : Turns) (s : State) (m : Member) (plain : List ℕ) → Contains s.members m → length s.datagrams < most_datagrams
    → Facts turns (core_of s) → Facts turns (core_of (after_control_packet s m plain))
facts_control turns s m plain there room f =
    let d : Datagram = control_by m plain in
    let n : ℕ = length (s.datagrams ++ d ∷ []) in
    let sends = All-contains (IsMember s.secrets s.table (length s.datagrams)) s.members m f.sound.members there in
    facts_change turns (core_of (with_datagram s d)) m with_control (record {
      there = there;
      keeps = control_keeps;
      member = λ is. control_sends s.secrets s.table (length s.datagrams) n m (length_push s.datagrams d) room sends;
      hears = λ h. hears_same s.secrets s.table (acceptances turns) m (with_control m) refl refl h;
    }) (facts_added turns s d f)

pub control_stays : (turns : Turns) (s : State) (line : Script) (name plain : List ℕ) → Facts turns (core_of s)
    → HoldsOfControl (StaysSo turns line) s name plain
control_stays turns s line name plain f = record {
  refused = λ reason. tt;
  goes = λ m found room.
      quiet_line turns line (control_told s m plain ∷ []) (core_of (after_control_packet s m plain)) refl
      (facts_control turns s m plain found.there room f);
}
