use Rattle.std.proofs.Common.{ℕ, List, Option, Some, None}
use Rattle.std.specs.Prelude.{IfSome, IsTrue}
use Rattle.perc_script_line.specs.Script.{is_extension}
use Rattle.perc_word.specs.Word.{Also, AreSomeOctets}
use Rattle.perc_conference_state.proofs.conference.Conference.send_said.Goals as goal

passes : (o : Option (List ℕ)) → IfSome o (Also AreSomeOctets is_extension) → IfSome o (λ octets. IsTrue (is_extension octets))
passes None h = tt
passes (Some octets) h = h.passes

pub extension_in-requires : goal.extension_in-requires
extension_in-requires c = passes c.args.options.extension c.requires.options.extension
