use Rattle.std.proofs.Common.{◌++◌, ℕ, List, ap, ◌∙◌, ◌+◌, ◌*◌}
use Rattle.perc_script_line.specs.Script.{Deliver}
use Rattle.perc_generator.specs.Generator.{line_text}
use Rattle.perc_generator.proofs.Texts.{on_ok, round_text}
use Rattle.perc_generator.proofs.generator.write_round.Goals as goal

pub returns : goal.returns
returns c =
    on_ok c.write_rekey.result
    (λ last. round_text c.args.round c.args.out.now.items _ _ _ _ _ _ c.in_ok-write_send.ensures c.in_ok-write_forward.ensures
    (c.in_ok-write_deliver.ensures ∙ ap (λ (name : List ℕ). c.write_forward.new.out.items ++ line_text (Deliver (3 * c.args.round + 2) name)) c.roles_of-roles.ensures.first)
    (c.in_ok-write_deliver-2.ensures ∙ ap (λ (name : List ℕ). c.write_deliver.new.out.items ++ line_text (Deliver (3 * c.args.round + 3) name)) c.roles_of-roles.ensures.second)
    c.in_ok-write_repeat.ensures last)
    c.write_rekey.ensures
