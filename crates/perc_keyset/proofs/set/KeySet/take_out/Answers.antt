use Rattle.std.proofs.Common.{◌∙◌, ap, not, rules, tests, List}
use Rattle.arrayvec.proofs.ArrayVecLemmas.{filter-from_retain}
use Rattle.perc_keyset.specs.Set.{is_of, without}
use Rattle.perc_keyset.specs.declared.Entry.{Entry}
use Rattle.perc_keyset.proofs.set.KeySet.take_out.Goals as goal

pub returns : goal.returns
returns c =
    filter-from_retain _ (λ (e : Entry). not (is_of c.args.association.now e)) _ (λ x b f y k. search (rules, tests)) c.self.inside.slots.items c.retain.new.self.items c.retain.ensures.filtered
    ∙ ap (λ (es : List Entry). without c.args.association.now es) c.self.view_is
