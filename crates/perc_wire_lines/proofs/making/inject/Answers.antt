use Rattle.std.proofs.Common.{◌≤◌, length, List, ℕ, sym, ap, ◌∙◌, subst}
use Rattle.perc_run.specs.Hostile.{made}
use Rattle.perc_run.specs.State.{Turn}
use Rattle.perc_conference_state.specs.Mirror.{Does}
use Rattle.perc_wire_lines.proofs.Made.{inject_is}
use Rattle.perc_wire_lines.proofs.making.inject.Goals as goal

pub returns : goal.returns
returns c = λ s mirrors.
    let octets = c.in_ok-made.ensures in
    let few : length c.in_ok-made.made.items ≤ 1500 = subst (λ (l : List ℕ). length l ≤ 1500) (sym octets) c.requires.few in
    subst (λ (t : Turn). Does t c.make.result c.args.text.now.items c.make.new.text.items c.make.new.conference)
    (ap (made s) octets ∙ sym (inject_is s c.args.octets.now)) (c.make.ensures s mirrors few)
