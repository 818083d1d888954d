use Rattle.std.proofs.Common.{◌≡◌, ◌<◌, List, [], ◌∷◌, ◌++◌, ap, sym, subst, ◌∙◌}
use Rattle.std.specs.Prelude.{Some, None, IfSome}
use Rattle.std.proofs.lemmas.List.Elements.{All-push}
use Rattle.perc_ekt.specs.declared.record.EktKeyRecord.{EktKeyRecord}
use Rattle.perc_ekt.specs.Record.{IsRecord}
use Rattle.perc_keeper.specs.Kept.{IsIndexed}
use Rattle.perc_keeper.specs.Lists.{key_of, newest, spi_of}
use Rattle.perc_keeper.proofs.KeptLaws.{found_pushed, newest_pushed, on_ok}
use Rattle.perc_keeper.proofs.memory.issued.Issued.issue.Goals as goal

pub invariant_of-self-2 : goal.invariant_of-self-2
invariant_of-self-2 c =
    let old = c.self.inside.records.items in
    let r = c.args.issued.now in
    let is = c.push_reserved.ensures.items ∙ ap (λ (rs : List EktKeyRecord). rs ++ r ∷ []) c.reserve.ensures.items in
    let put = on_ok c.insert.result (sym c.is_err-2.ensures.value ∙ c.if-is_err-2.false) c.insert.ensures.updates in
    let above = subst (λ rs. IfSome (newest rs) (λ s. s.spi < r.spi)) (sym c.self.view_is) c.requires.above in
    let unused = subst (λ rs. spi_of rs (key_of r) ≡ None) (sym c.self.view_is) c.requires.unused in
    subst (λ rs. IsIndexed rs (Some r) c.insert.new.self) (sym is) (record {
      right = All-push IsRecord old r c.self.invariant.right c.requires.right;
      last = sym (newest_pushed old r above);
      found = found_pushed old r c.key_in.result c.self.inside.spis c.insert.new.self c.self.invariant.found unused c.key_in.ensures put;
    })
