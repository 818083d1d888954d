-- A member's next control packet.
use Rattle.std.proofs.Common.{◌≡◌, ℕ, ◌+◌, ◌^◌, ◌<◌, ◌≤◌, Bool, true, false, List, [], ◌∷◌, ◌++◌, length, take, Option, Some, None, Ok, Err, slice_get, refl, sym, ◌∙◌, subst, arith}
use Rattle.std.specs.Prelude.{◌&&◌, ◌==◌, nat_le, nat_lt, slice_index}
use Rattle.std.specs.Vec.{with_item}
use Rattle.std.proofs.lemmas.Bool.Decides.{nat_tests}
use Rattle.std.proofs.lemmas.List.Elements.{All-contains}
use Rattle.perc_endpoint.specs.Endpoint.{Endpoint, departing_rtcp, rtcp_sent}
use Rattle.perc_endpoint.specs.Kept as endpoint
use Rattle.perc_endpoint.specs.Kept.{IsRtcpDeparture, StandsFor}
use Rattle.perc_member.specs.Each.{MirrorsMember}
use Rattle.perc_member.specs.declared.member.Member as code_member
use Rattle.perc_outgoing.specs.Sending.{after_rtcp, plain_fault, rtcp_send_fault, sent_rtcp}
use Rattle.perc_outgoing.specs.declared.fault.RtcpSendFault.{RtcpSendFault}
use Rattle.perc_report_line.specs.Report.{WireUp}
use Rattle.perc_rtp.specs.Carried.{longest_rtcp}
use Rattle.perc_rtp.specs.Header.{version}
use Rattle.perc_run.specs.Control.{control_by, control_turn, rtcp_turn, with_control}
use Rattle.perc_run.specs.Hostile.{added}
use Rattle.perc_run.specs.Sound.{IsMember, IsOrderly}
use Rattle.perc_run.specs.State.{Goes, Member, Refused, State, member_named, with_member}
use Rattle.perc_script_line.specs.Script.{is_rtcp}
use Rattle.perc_script_line.specs.declared.reason.Reason.TheVariants.{Limit, Name}
use Rattle.perc_sent.proofs.Finding.{contains_at}
use Rattle.perc_conference_state.specs.declared.conference.Conference as code
use Rattle.perc_conference_state.specs.Mirror.{Mirrors}
use Rattle.perc_conference_state.proofs.Changing.{IsPlaced, Writes, distributor_moved, keys_written, mirrors_changed}
use Rattle.perc_conference_state.proofs.Places.{at_nobody, at_somebody}
use Rattle.perc_wire_lines.specs.Made.{MaySeal}
use Rattle.perc_wire_lines.proofs.Pushing.{added_goes}

-- ---- an endpoint

-- A packet of the script's form has no fault.
no_fault : (plain : List ℕ) → is_rtcp plain ≡ true → plain_fault plain ≡ None
no_fault plain is = parts (nat_le 8 (length plain)) (nat_le (length plain) longest_rtcp) (version plain == 2) (nat_le 192 (slice_index plain 1)) (nat_le (slice_index plain 1) 223) refl refl refl is
  where
    parts : (a b v x y : Bool) → nat_le 8 (length plain) ≡ a → nat_le (length plain) longest_rtcp ≡ b → (version plain == 2) ≡ v → (a && b && v && x && y) ≡ true → plain_fault plain ≡ None
    parts false b v x y e f g h = absurd (cc)
    parts true false v x y e f g h = absurd (cc)
    parts true true false x y e f g h = absurd (cc)
    parts true true true x y e f g h =
        let long_enough : nat_lt (length plain) 8 ≡ false = grind (arith, nat_tests) in
        let short_enough : nat_lt longest_rtcp (length plain) ≡ false = grind (arith, nat_tests) in
        rw (long_enough, g, short_enough) refl

sends : (e : Endpoint) (plain : List ℕ) → is_rtcp plain ≡ true → e.sending.rtcp < 2 ^ 31 → rtcp_send_fault e.sending plain ≡ None
sends e plain is left =
    let index : (e.sending.rtcp == 2 ^ 31) ≡ false = grind (arith, nat_tests) in
    rw (no_fault plain is, index) refl

pub never_refused : (e : Endpoint) (plain : List ℕ) (fault : RtcpSendFault) (out : List ℕ) → is_rtcp plain ≡ true → e.sending.rtcp < 2 ^ 31
    → IsRtcpDeparture (rtcp_sent e plain).0 (Err fault) out → ⊥
never_refused e plain fault out is left departs =
    subst (λ (o : Option RtcpSendFault). IsRtcpDeparture (departing_rtcp e plain o).0 (Err fault) out) (sends e plain is left) departs

-- A member of an orderly state sent fewer control packets than there are datagrams.
pub may_seal : (s : State) (k : ℕ) (m : Member) (kept : endpoint.Kept) → IsOrderly s → slice_get s.members k ≡ Some m → StandsFor kept m.endpoint → MaySeal kept
may_seal s k m kept orderly at stands =
    let is = All-contains (IsMember s.secrets s.table (length s.datagrams)) s.members m orderly.sound.members (contains_at s.members k m at) in
    let few = is.few_control in
    let made = orderly.few_datagrams in
    (m.endpoint, stands, omega arith)

-- It sent a packet, so that is its next.
pub is_sent : (e : Endpoint) (plain : List ℕ) (len : ℕ) (out : List ℕ) (kept : endpoint.Kept) → IsRtcpDeparture (rtcp_sent e plain).0 (Ok len) out
    → StandsFor kept (rtcp_sent e plain).1 → (take len out ≡ sent_rtcp e.sending plain) × StandsFor kept (record e { sending = after_rtcp e.sending })
is_sent e plain len out kept departs stands = by_fault (rtcp_send_fault e.sending plain) departs stands where
  by_fault : (o : Option RtcpSendFault) → IsRtcpDeparture (departing_rtcp e plain o).0 (Ok len) out → StandsFor kept (departing_rtcp e plain o).1
      → (take len out ≡ sent_rtcp e.sending plain) × StandsFor kept (record e { sending = after_rtcp e.sending })
  by_fault None is after = (is, after)
  by_fault (Some f) is after = absurd (cc)

-- ---- turns

pub rtcp_nobody : (s : State) (name plain : List ℕ) → member_named name s ≡ None → rtcp_turn s name plain ≡ Refused Name
unfolding rtcp_turn
rtcp_nobody s name plain none = at_nobody s name _ none

control_full : (s : State) (m : Member) (plain : List ℕ) → 131072 ≤ length s.datagrams → control_turn s m plain ≡ Refused Limit
control_full s m plain full =
    let test : nat_le 131072 (length s.datagrams) ≡ true = grind (arith, nat_tests) in
    rw test refl

pub rtcp_full : (s : State) (name plain : List ℕ) (m : Member) → member_named name s ≡ Some m → 131072 ≤ length s.datagrams → rtcp_turn s name plain ≡ Refused Limit
unfolding rtcp_turn
rtcp_full s name plain m found full = at_somebody s name _ m found ∙ control_full s m plain full

-- the state with the member's index behind the packet
abbrev pub counted : State → Member → State
counted s m = record s { members = with_member m.name with_control s.members }

control_goes : (s : State) (m : Member) (plain : List ℕ) → length s.datagrams < 131072
    → control_turn s m plain
    ≡ Goes (WireUp (length s.datagrams + 1) m.name (control_by m plain).octets ∷ []) (record s { members = with_member m.name with_control s.members; datagrams = s.datagrams ++ control_by m plain ∷ [] })
control_goes s m plain room =
    let test : nat_le 131072 (length s.datagrams) ≡ false = grind (arith, nat_tests) in
    rw test refl

pub rtcp_goes : (s : State) (name plain : List ℕ) (m : Member) → member_named name s ≡ Some m → length s.datagrams < 131072
    → length (sent_rtcp m.endpoint.sending plain) ≤ 1500
    → rtcp_turn s name plain ≡ added (counted s m) (WireUp (length s.datagrams + 1) m.name (control_by m plain).octets) (control_by m plain)
unfolding rtcp_turn
rtcp_goes s name plain m found room few =
    let x = control_by m plain in
    at_somebody s name _ m found ∙ control_goes s m plain room
    ∙ sym (added_goes (counted s m) (WireUp (length s.datagrams + 1) m.name x.octets) x few room)

-- ---- the conference

mirrors_member : (a : code_member.Member) (m : Member) (kept : endpoint.Kept) → StandsFor kept (record m.endpoint { sending = after_rtcp m.endpoint.sending })
    → MirrorsMember a m → MirrorsMember (record a { endpoint = kept }) (with_control m)
mirrors_member a m kept stands is = record {
  name = is.name;
  association = is.association;
  ssrc = is.ssrc;
  client = is.client;
  server = is.server;
  endpoint = stands;
  opening_keys = is.opening_keys;
  opening_next = is.opening_next;
  present = is.present;
  next = is.next;
  keys = is.keys;
  last = is.last;
  counted = is.counted;
}

-- the conference, whose member at a place has another endpoint
abbrev pub with_endpoint : code.Conference → ℕ → code_member.Member → endpoint.Kept → code.Conference
with_endpoint c k a kept = record c { members = with_item c.members k (record a { endpoint = kept }) }

pub mirrors_counted : (c : code.Conference) (s : State) (name : List ℕ) (place : ℕ) (a : code_member.Member) (kept : endpoint.Kept) → IsOrderly s → Mirrors c s
    → (p : IsPlaced c s name place a) → StandsFor kept (record p.member.endpoint { sending = after_rtcp p.member.endpoint.sending })
    → Mirrors (with_endpoint c place a kept) (counted s p.member)
mirrors_counted c s name place a kept orderly mirrors p stands =
    let d = with_endpoint c place a kept in
    let b : code_member.Member = record a { endpoint = kept } in
    let writes : Writes c d place b = record { leaves = record { profile = refl; records = refl; issued = refl; datagrams = refl }; members = refl } in
    mirrors_changed c d s name place a b with_control s.set orderly mirrors p
    (mirrors_member a p.member kept stands p.mirrors)
    (record { ssrc = refl; name = refl; first = refl; sends = refl; under = λ spi key index. refl; wrapped = λ spi key roc. refl })
    writes (distributor_moved c.distributor s (record s { set = s.set }) refl refl refl mirrors.distributor)
    (keys_written c d s place a b mirrors p.code_at refl writes refl)
