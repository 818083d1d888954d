use Rattle.std.proofs.Common.{rules}
use Rattle.std.proofs.lemmas.Iterator.{items_from_collect, YieldsList-from_map, YieldsList-from_slice}
use Rattle.perc_tunnel.specs.declared.message.MediaKeys.{MediaKeys}
use Rattle.perc_keeper.proofs.memory.names_of.Goals as goal

pub returns : goal.returns
returns c =
    items_from_collect _ c.collect.ensures.ran
    (YieldsList-from_map _ (λ (k : MediaKeys). k.association) (YieldsList-from_slice c.args.members.now cc) c.map.ensures.closure (λ x r q k. search rules))
