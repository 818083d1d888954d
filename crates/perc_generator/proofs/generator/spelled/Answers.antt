use Rattle.std.proofs.Common.{◌≡◌, ℕ, List, subst}
use Rattle.std.specs.Prelude.{IfOk}
use Rattle.std.specs.String.{string_bytes}
use Rattle.hex.specs.Hex.{encode_lower}
use Rattle.perc_generator.proofs.Texts.{payload_spelled}
use Rattle.perc_generator.proofs.generator.spelled.Goals as goal

pub returns : goal.returns
returns c = subst (λ (t : List ℕ). IfOk c.encode.result (λ word. string_bytes word ≡ encode_lower t)) (payload_spelled c.args.count c.args.octet c.requires.few) c.encode.ensures
