-- The lines of an attacker, who makes datagrams as he likes, and of a distributor that seals what it likes: `inject`, `alter`, `graft`
-- and `reseal`.
use Rattle.std.specs.Prelude.{ℕ, ◌+◌, ◌-◌, ◌*◌, Bool, ◌&&◌, ◌||◌, ◌==◌, nat_lt, nat_le, if◌then◌else◌, List, [], ◌∷◌, ◌++◌, length, take, drop, Option, Some, None}
use Rattle.std.specs.Option.{option_map_or}
use Rattle.perc_kdf.specs.Derivation.{session_keys}
use Rattle.perc_kdf.specs.declared.Kind.TheVariants.{Srtp}
use Rattle.perc_ekt.specs.Field.{spelling}
use Rattle.perc_ohb.specs.Rewriting.{Rewrite, block_after}
use Rattle.perc_double.specs.Double.{double, relayed}
use Rattle.perc_distributor.specs.Forwarding.{most_octets}
use Rattle.perc_script_line.specs.Script.{Changes}
use Rattle.perc_script_line.specs.declared.reason.Reason.TheVariants as reason
use Rattle.perc_report_line.specs.Report.{Report, WireMade, WireReseal}
use Rattle.perc_run.specs.State.{Datagram, State, Member, Turn, Goes, Refused, Unsealed, at_member, datagram_at, most_datagrams}
use Rattle.perc_run.specs.Forwarding.{rewrite_by}

-- ---- datagrams

-- A datagram comes to the wire, and a line tells it. It is refused where it is too long, or one too many.
abbrev pub added : State → Report → Datagram → Turn
added s line d =
    if nat_lt most_octets (length d.octets) || nat_le most_datagrams (length s.datagrams) then Refused reason.Limit
    else Goes (line ∷ []) (record s { datagrams = s.datagrams ++ d ∷ [] })

-- one that nobody sealed
abbrev pub made : State → List ℕ → Turn
made s octets = added s (WireMade (length s.datagrams + 1) octets) (record { octets = octets; unsealed = None })

-- what is done with the datagram of this number, or that there is none
abbrev pub at_datagram : State → ℕ → (Datagram → Turn) → Turn
at_datagram s number goes = option_map_or goes (datagram_at s.datagrams number) (Refused reason.Datagram)

-- ---- inject, alter, graft

unfoldable pub inject_turn : State → List ℕ → Turn
inject_turn s octets = made s octets

-- the octets with others in the place of those from an offset on
abbrev pub altered : List ℕ → ℕ → List ℕ → List ℕ
altered octets offset new = take offset octets ++ new ++ drop (offset + length new) octets

abbrev pub alter_datagram : State → ℕ → List ℕ → Datagram → Turn
alter_datagram s offset new d =
    if nat_lt (length d.octets) (offset + length new) then Refused reason.Datagram else made s (altered d.octets offset new)

unfoldable pub alter_turn : State → ℕ → ℕ → List ℕ → Turn
alter_turn s number offset new = at_datagram s number (alter_datagram s offset new)

-- the first octets of the one, and the last of the other
abbrev pub grafted : List ℕ → ℕ → List ℕ → ℕ → List ℕ
grafted first front second back = take front first ++ drop (length second - back) second

-- A count goes past the end of its datagram, or both are zero.
abbrev pub no_graft : List ℕ → ℕ → List ℕ → ℕ → Bool
no_graft first front second back = nat_lt (length first) front || nat_lt (length second) back || (front + back == 0)

abbrev pub graft_datagrams : State → ℕ → ℕ → Datagram → Datagram → Turn
graft_datagrams s front back first second =
    if no_graft first.octets front second.octets back then Refused reason.Datagram
    else made s (grafted first.octets front second.octets back)

unfoldable pub graft_turn : State → ℕ → ℕ → ℕ → ℕ → Turn
graft_turn s first front second back =
    at_datagram s first (λ a. at_datagram s second (λ b. graft_datagrams s front back a b))

-- ---- reseal

-- a media packet with a change made in it
abbrev pub unsealed_anew : Unsealed → Rewrite → Unsealed
unsealed_anew u change =
    record { header = relayed u.header change; inner = u.inner; block = block_after u.header u.block change; field = u.field }

-- It is sealed under the server pair of a member, at the index that a ROC and its SEQ make: no window is looked at. The field stands behind.
abbrev pub sealed_anew : Member → ℕ → Unsealed → List ℕ
sealed_anew m roc u = double (session_keys m.server Srtp) (roc * 65536 + u.header.seq) u.header u.inner u.block ++ spelling u.field

abbrev pub resealed : Member → ℕ → Unsealed → Datagram
resealed m roc u = record { octets = sealed_anew m roc u; unsealed = Some u }

abbrev pub reseal_for : State → Member → ℕ → Unsealed → Turn
reseal_for s m roc u = added s (WireReseal (length s.datagrams + 1) m.name (sealed_anew m roc u)) (resealed m roc u)

-- Only media is taken that a member or the distributor sealed.
abbrev pub reseal_datagram : State → Member → ℕ → Rewrite → Datagram → Turn
reseal_datagram s m roc change d =
    option_map_or (λ u. reseal_for s m roc (unsealed_anew u change)) d.unsealed (Refused reason.Datagram)

unfoldable pub reseal_turn : State → ℕ → List ℕ → ℕ → Changes → Turn
reseal_turn s number name roc changes = at_member s name (λ m. at_datagram s number (reseal_datagram s m roc (rewrite_by changes)))
