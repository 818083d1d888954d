use Rattle.std.proofs.Common.{Bool, rules, tests}
use Rattle.std.specs.Prelude.{◌&&◌}
use Rattle.std.proofs.lemmas.Iterator.{items_from_collect, YieldsList-from_map, YieldsList-from_slice}
use Rattle.std.proofs.lemmas.Iterator.Consumers.{YieldsList-at, YieldsList-from_filter}
use Rattle.perc_member.specs.declared.member.Member.{Member}
use Rattle.perc_forward_line.specs.Telling.{is_named_in, names_in}
use Rattle.perc_forward_line.proofs.forwarding.associations_in.Goals as goal

pub returns : goal.returns
returns c =
    items_from_collect _ c.collect.ensures.ran
    (YieldsList-from_map _ (λ (m : Member). m.association)
    (YieldsList-at c.map.ensures.source (YieldsList-from_filter _ (λ (m : Member). m.present && is_named_in (names_in c.args.to.now) m) (YieldsList-from_slice c.args.members.now cc) c.filter.ensures.closure (λ x r q k. search (rules, tests))))
    c.map.ensures.closure (λ x r q k. search rules))
