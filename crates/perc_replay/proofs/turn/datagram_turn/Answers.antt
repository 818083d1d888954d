use Rattle.std.proofs.Common.{ap, subst}
use Rattle.perc_headline.proofs.Sends.{said_media}
use Rattle.perc_script_line.specs.Script.{IsScript}
use Rattle.perc_script_line.specs.View.{options_said, script_said}
use Rattle.perc_replay.proofs.turn.datagram_turn.Goals as goal

pub send_said-requires-clause-media : goal.send_said-requires-clause-media
send_said-requires-clause-media c =
    (said_media c.in-Send.name c.in-Send.pt c.in-Send.marker c.in-Send.timestamp c.in-Send.payload (options_said c.in-Send.options)
    (subst IsScript (ap script_said c.in-Send.is) c.requires.script)).fault
