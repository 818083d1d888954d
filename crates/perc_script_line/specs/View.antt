-- What the lines of the code say, without where their parts lie in memory.
use Rattle.std.specs.Prelude.{Option, List, ℕ}
use Rattle.std.specs.Option.{option_map}
use Rattle.std.specs.Borrow.{Bor}
use Rattle.perc_word.specs.Left.{words_left}
use Rattle.perc_script_line.specs.Script as script
use Rattle.perc_script_line.specs.Script.{Script}
use Rattle.perc_script_line.specs.declared.options.Options.{Options}
use Rattle.perc_script_line.specs.declared.changes.Changes.{Changes}
use Rattle.perc_script_line.specs.declared.changes.Replaced.{Replaced}
use Rattle.perc_script_line.specs.declared.changes.Replaced.TheVariants.{Dropped, By}
use Rattle.perc_script_line.specs.declared.script.ScriptLine.{ScriptLine}
use Rattle.perc_script_line.specs.declared.script.ScriptLine.TheVariants as line

abbrev pub options_said : Options → script.Options
options_said o = record { csrcs = o.csrcs; extension = o.extension; pad = o.pad }

abbrev pub replaced_said : Replaced → script.Replaced
replaced_said Dropped = script.Dropped
replaced_said (By extension) = script.By extension

abbrev pub changes_said : Changes → script.Changes
changes_said c = record { pt = c.pt; shift = c.shift; marker = c.marker; extension = option_map replaced_said c.extension }

-- options or changes, and the words behind them
abbrev pub options_taken : Options × Option (Bor (List ℕ)) → script.Options × List (List ℕ)
options_taken x = (options_said x.0, words_left x.1)

abbrev pub changes_taken : Changes × Option (Bor (List ℕ)) → script.Changes × List (List ℕ)
changes_taken x = (changes_said x.0, words_left x.1)

abbrev pub replaced_taken : Option Replaced × Option (Bor (List ℕ)) → Option script.Replaced × List (List ℕ)
replaced_taken x = (option_map replaced_said x.0, words_left x.1)

-- what a script line says
abbrev pub script_said : ScriptLine → Script
script_said line.Nothing = script.Nothing
script_said (line.Conference profile) = script.Conference profile
script_said (line.Ekt key salt) = script.Ekt key salt
script_said (line.Join name ssrc seq client server key) = script.Join name ssrc seq client server key
script_said (line.Leave name) = script.Leave name
script_said (line.Grant name spi key) = script.Grant name spi key
script_said (line.Rekey name key) = script.Rekey name key
script_said (line.Send name pt marker timestamp payload options) = script.Send name pt marker timestamp payload (options_said options)
script_said (line.Rtcp name octets) = script.Rtcp name octets
script_said (line.Inject octets) = script.Inject octets
script_said (line.Alter datagram offset octets) = script.Alter datagram offset octets
script_said (line.Graft first front second back) = script.Graft first front second back
script_said (line.Reseal datagram name roc changes) = script.Reseal datagram name roc (changes_said changes)
script_said (line.Forward name datagrams changes recipients) = script.Forward name datagrams (changes_said changes) recipients
script_said (line.Deliver datagram name) = script.Deliver datagram name
