-- What one line of a script does.
use Rattle.std.specs.Prelude.{ℕ, not, if◌then◌else◌, [], Option, Some, None}
use Rattle.perc_base.specs.declared.profile.Profile.{Profile}
use Rattle.perc_script_line.specs.Script as script
use Rattle.perc_script_line.specs.Script.{Script, fits}
use Rattle.perc_script_line.specs.declared.reason.Reason.TheVariants.{Form, Order}
use Rattle.perc_run.specs.State.{State, Turn, Goes, Refused}
use Rattle.perc_run.specs.Keys.{ekt_turn, grant_turn, rekey_turn}
use Rattle.perc_run.specs.Joining.{join_turn, leave_turn}
use Rattle.perc_run.specs.Sending.{content_of, send_turn}
use Rattle.perc_run.specs.Control.{rtcp_turn}
use Rattle.perc_run.specs.Hostile.{alter_turn, graft_turn, inject_turn, reseal_turn}
use Rattle.perc_run.specs.Forwarding.{forward_turn}
use Rattle.perc_run.specs.Delivering.{Judge, deliver_turn}

-- what a line does behind the head
abbrev pub form_turn : Judge → State → Profile → Script → Turn
form_turn judge s profile script.Nothing = Goes [] s
form_turn judge s profile (script.Conference other) = Refused Order
form_turn judge s profile (script.Ekt key salt) = ekt_turn s key salt
form_turn judge s profile (script.Join name ssrc seq client server key) = join_turn s profile name ssrc seq client server key
form_turn judge s profile (script.Leave name) = leave_turn s name
form_turn judge s profile (script.Grant name spi key) = grant_turn s name spi key
form_turn judge s profile (script.Rekey name key) = rekey_turn s name key
form_turn judge s profile (script.Send name pt marker timestamp payload options) =
    send_turn s name (content_of pt marker timestamp payload options)
form_turn judge s profile (script.Rtcp name octets) = rtcp_turn s name octets
form_turn judge s profile (script.Inject octets) = inject_turn s octets
form_turn judge s profile (script.Alter datagram offset octets) = alter_turn s datagram offset octets
form_turn judge s profile (script.Graft first front second back) = graft_turn s first front second back
form_turn judge s profile (script.Reseal datagram name roc changes) = reseal_turn s datagram name roc changes
form_turn judge s profile (script.Forward name datagrams changes recipients) = forward_turn s name datagrams changes recipients
form_turn judge s profile (script.Deliver datagram name) = deliver_turn judge s datagram name

-- Before the head a line that means something is out of order, but for the head.
abbrev pub first_turn : State → Script → Turn
first_turn s script.Nothing = Goes [] s
first_turn s (script.Conference profile) = Goes [] (record s { profile = Some profile })
first_turn s (script.Ekt key salt) = Refused Order
first_turn s (script.Join name ssrc seq client server key) = Refused Order
first_turn s (script.Leave name) = Refused Order
first_turn s (script.Grant name spi key) = Refused Order
first_turn s (script.Rekey name key) = Refused Order
first_turn s (script.Send name pt marker timestamp payload options) = Refused Order
first_turn s (script.Rtcp name octets) = Refused Order
first_turn s (script.Inject octets) = Refused Order
first_turn s (script.Alter datagram offset octets) = Refused Order
first_turn s (script.Graft first front second back) = Refused Order
first_turn s (script.Reseal datagram name roc changes) = Refused Order
first_turn s (script.Forward name datagrams changes recipients) = Refused Order
first_turn s (script.Deliver datagram name) = Refused Order

-- The keys of a line have the length of the head's profile; where there is no head, either length serves.
abbrev pub turn_under : Judge → State → Script → Option Profile → Turn
turn_under judge s line None = first_turn s line
turn_under judge s line (Some profile) = if not (fits profile line) then Refused Form else form_turn judge s profile line

unfoldable pub turn : Judge → State → Script → Turn
turn judge s line = turn_under judge s line s.profile
