use Rattle.std.proofs.Common.{◌≡◌, ◌<◌, ◌-◌, List, length, Some, sym, ap, subst, ◌∙◌}
use Rattle.std.specs.List.{slice_get}
use Rattle.std.specs.Option.{option_copied}
use Rattle.perc_member.specs.declared.member.TakenKey.{TakenKey}
use Rattle.perc_member.proofs.Keys.{has_key, present_spi}
use Rattle.perc_member.proofs.member.Member.present_spi.Goals as goal

pub unwrap-requires : goal.unwrap-requires
unwrap-requires c =
    let some = has_key _ c.args.self.now.keys.items c.requires.1.last in
    c.last.ensures.item.2 (subst (λ (keys : List TakenKey). 0 < length keys) (sym c.deref.ensures.value) some)

pub returns : goal.returns
returns c = λ m mirrors.
    present_spi c.args.self.now m c.unwrap.result.now mirrors
    (ap option_copied (sym c.unwrap.ensures) ∙ c.last.ensures.value ∙ ap (λ (keys : List TakenKey). slice_get keys (length keys - 1)) c.deref.ensures.value)
