-- What the parts of a line do.
use Rattle.std.specs.Prelude.{if◌then◌else◌, ℕ, List, Option, Some, None}
use Rattle.perc_base.specs.declared.profile.Profile.{Profile}
use Rattle.perc_conference_state.specs.declared.send.Sending.{Sending}
use Rattle.perc_key_service.specs.declared.service.Joined.{Joined}
use Rattle.perc_member.specs.declared.member.Newcomer.{Newcomer}
use Rattle.perc_receiver.specs.Table.{Secret}
use Rattle.perc_rtp.specs.Media.{Content}
use Rattle.perc_run.specs.Joining.{are_used, is_crowded, is_known, join_with, new_member}
use Rattle.perc_run.specs.Sending.{content_of}
use Rattle.perc_run.specs.State.{Member, State, Turn}
use Rattle.perc_script_line.specs.Script.{Options}
use Rattle.perc_script_line.specs.declared.reason.Reason.TheVariants.{Name, Key, Limit}
use Rattle.perc_script_line.specs.declared.reason.Reason.{Reason}

-- There is a profile, and this is so of it.
abbrev pub HasProfile : Option Profile → (Profile → Type 0) → Type 0
HasProfile None P = ⊥
HasProfile (Some profile) P = P profile

-- what a newcomer's line does, where this is the newest record
abbrev pub join_as : State → Profile → Newcomer → Option Secret → Turn
join_as s profile n o = join_with s profile n.name n.ssrc n.seq n.client n.server n.key o

-- why it can't join, where there is a record
abbrev pub join_fault : State → Newcomer → Option Reason
join_fault s n =
    if is_known s n.name n.ssrc then Some Name
    else (if are_used s n.client n.server then Some Key
    else (if is_crowded s then Some Limit else None))

-- the member that it becomes
abbrev pub newcomer_as : State → Profile → Newcomer → Secret → Member
newcomer_as s profile n secret = new_member s profile n.name n.ssrc n.seq n.client n.server secret n.key

-- the newcomer with the pairs that its welcome brought
abbrev pub welcomed : Newcomer → Joined → Newcomer
welcomed n told = record n { client = told.client; server = told.server }

-- the content that the words of a send say
abbrev pub content_said : Sending → List ℕ → Options → Content
content_said said payload options = content_of said.pt said.marker said.timestamp payload options
