-- The line `rtcp`: a member's next control packet (RFC 3711 section 3.4).
use Rattle.std.specs.Prelude.{ℕ, ◌+◌, nat_le, if◌then◌else◌, List, [], ◌∷◌, ◌++◌, length, None}
use Rattle.perc_outgoing.specs.Sending.{after_rtcp, sent_rtcp}
use Rattle.perc_script_line.specs.declared.reason.Reason.TheVariants.{Limit}
use Rattle.perc_report_line.specs.Report.{WireUp}
use Rattle.perc_run.specs.State.{Datagram, State, Member, Turn, Goes, Refused, at_member, most_datagrams, with_member}

-- The distributor's seal of it can't be made again, so it isn't known what it was before.
abbrev pub control_by : Member → List ℕ → Datagram
control_by m plain = record { octets = sent_rtcp m.endpoint.sending plain; unsealed = None }

abbrev pub with_control : Member → Member
with_control m = record m { endpoint = record m.endpoint { sending = after_rtcp m.endpoint.sending } }

abbrev pub control_turn : State → Member → List ℕ → Turn
control_turn s m plain =
    if nat_le most_datagrams (length s.datagrams) then Refused Limit
    else Goes (WireUp (length s.datagrams + 1) m.name (control_by m plain).octets ∷ [])
    (record s { members = with_member m.name with_control s.members; datagrams = s.datagrams ++ control_by m plain ∷ [] })

unfoldable pub rtcp_turn : State → List ℕ → List ℕ → Turn
rtcp_turn s name plain = at_member s name (λ m. control_turn s m plain)
