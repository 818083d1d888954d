use Rattle.crossbeam_utils.specs.Seq.{cell_view}
use Rattle.std.proofs.Common.{rules, ◌≡◌, false, sym, ap, ◌∙◌, subst, ap₂, arith}
use Rattle.atomic_table.specs.Table.{Me}
use Rattle.perc_published.specs.declared.board.View.{View}
use Rattle.perc_published.specs.Views.{Compared, brought, learnt, longer}
use Rattle.perc_published.specs.Kept.{known, tallied}
use Rattle.perc_published.specs.Calls.{Call}
use Rattle.perc_published.proofs.Steps.{cell_learns, taken, tally_brings, tally_compares}
use Rattle.perc_published.proofs.board.Board.learn.Goals as goal

pub join_pass-requires : goal.join_pass-requires
join_pass-requires c =
    let own = ap (λ (k : Call). k.cell) c.requires.call in
    let theirs = ap (λ (k : Call). k.cell) (c.split-told.ensures.new.call ∙ c.requires.note) in
    (search rules, (search rules, ((own, theirs ∙ sym own, c.split-told.ensures.new.free), cell_learns _ _ _ _ c.requires.passes.publishes)))

pub join_seat-requires : goal.join_seat-requires
join_seat-requires c =
    let theirs = ap (λ (k : Call). k.tally) (c.split-told.ensures.new.call ∙ c.requires.note) in
    (ap (λ (k : Call). k.tally) c.requires.call, theirs, c.split-told.ensures.new.free_tally, omega (arith, c.requires.board), tally_brings _ _ _ _ c.requires.passes.tallies)

pub load-requires : goal.load-requires
load-requires c =
    let joined = c.join_seat.ensures in
    let reads : (c.join_seat.new.seat.me.0).publishes ≡ false = ap (λ (me : Me (Unit {0}) View). (me.0).publishes) joined.2 ∙ c.requires.passes.tallies in
    (joined.0 ∙ ap (λ (k : Call). k.tally) c.requires.call, omega (arith, c.requires.board), tally_compares _ _ _ reads)

pub returns : goal.returns
returns c =
    let joined = c.join_pass.ensures in
    let brings = c.join_seat.ensures in
    let told = c.split-told.ensures.new in
    let v = known c.args.passes.now in
    let n = known c.args.note.now in
    let tv = tallied c.args.passes.now in
    let tn = tallied c.args.note.now in
    let w = cell_view c.join_pass.new.pass in
    let tw = c.load.new.seat.me.0 in
    let made : w ≡ learnt v n = joined.1 ∙ ap (learnt v) told.cell in
    let brought_is : c.join_seat.new.seat.me.0 ≡ brought tv tn = ap (λ (me : Me (Unit {0}) View). me.0) brings.2 ∙ ap (brought tv) told.tally in
    let compared : Compared (brought tv tn) tw = subst (λ (u : View). Compared u tw) brought_is c.load.ensures.2 in
    record {
      call = λ i. record { cell = joined.0.0 i; tally = (c.load.ensures.0 ∙ brings.0) i };
      learnt = taken v n w tv tn tw made compared c.requires.passes.told c.requires.tells.told;
      passes = record {
        publishes = ap (λ (u : View). u.publishes) made ∙ c.requires.passes.publishes;
        tallies = compared.publishes ∙ c.requires.passes.tallies;
        told = compared.told ∙ (ap₂ longer c.requires.passes.told c.requires.tells.told ∙ sym (ap (λ (u : View). u.told) made));
      };
      note = c.split-told.ensures.same;
    }
