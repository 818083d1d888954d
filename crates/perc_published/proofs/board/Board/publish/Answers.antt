use Rattle.std.proofs.Common.{rules, List, length, sym, ap, ◌∙◌, subst, arith}
use mathlib.Core.List.{IsPrefix}
use Rattle.perc_keyset.specs.declared.Op.{Op}
use Rattle.perc_published.specs.Calls.{Call}
use Rattle.atomic_table.specs.Table.{Me}
use Rattle.perc_published.specs.declared.board.View.{View}
use Rattle.perc_published.specs.Views.{Spells, published}
use Rattle.perc_published.specs.Kept.{known, tallied}
use Rattle.perc_published.proofs.Steps.{cell_publishes, tally_publishes}
use Rattle.perc_published.proofs.board.Board.publish.Goals as goal

pub swap_as-requires : goal.swap_as-requires
swap_as-requires g c =
    let named = sym c.requires.history in (
      search rules,
      (
        search rules,
        (
          ap (λ (k : Call). k.cell) c.requires.call,
          cell_publishes _ (known c.args.passes.now) c.spell.result g.K.Named.history c.requires.publishes.0
              (subst (λ (ops : List Op). IsPrefix (known c.args.passes.now).seen ops) named c.requires.begins.0)
              (subst (Spells c.spell.result) named (record { legal = c.requires.legal; count = c.spell.ensures.count; set = c.spell.ensures.set ∙ c.requires.set })),
        ),
      ),
    )

pub store-requires : goal.store-requires
store-requires g c =
    let named = sym c.requires.history in (
      ap (λ (k : Call). k.tally) c.requires.call,
      omega (arith, c.requires.board),
      tally_publishes _ _ _ _ g.K.Named.history c.requires.publishes.1
          (subst (λ (ops : List Op). IsPrefix (tallied c.args.passes.now).seen ops) named c.requires.begins.1)
          (ap (λ (ops : List Op). length ops) named),
    )

pub returns : goal.returns
returns g c = record {
  call = λ i. record { cell = c.swap_as.ensures.cell.0 i; tally = c.store.ensures.0 i };
  cell = c.swap_as.ensures.rule ∙ ap (published (known c.args.passes.now)) c.requires.history;
  tally = ap (λ (me : Me (Unit {0}) View). me.0) c.store.ensures.2 ∙ ap (published (tallied c.args.passes.now)) c.requires.history;
}
