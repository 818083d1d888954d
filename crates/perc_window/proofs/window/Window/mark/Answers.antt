use Rattle.std.proofs.Common.{arith, sym, ◌∙◌}
use Rattle.std.proofs.lemmas.Option.{same_Some}
use Rattle.perc_window.proofs.MarkLaws.{marked_ahead, marked_first}
use Rattle.perc_window.proofs.window.Window.mark.Goals as goal
use Rattle.perc_window.proofs.window.Window.mark.Goals.{in-Some-2, in-None}

pub returns : goal.returns
returns c = λ accepted stands.
    let kept = rw (← c.self.view_is) at stands in
    elim c.match-self.branch [
      | in-Some-2 w ↦
          let same = same_Some _ _ (sym w.in-Some.is ∙ w.in-Some-2.is) in
          marked_ahead w.in-Some-2.highest c.args.index c.match-self.ahead _ _ c.move_up.new.self _ accepted (rw w.in-Some-2.is at kept)
          (omega arith) w.ahead-is c.move_up.ensures c.set-2.ensures (omega arith)
      | in-None w ↦
          marked_first c.args.index _ _ c.move_up.new.self _ accepted (rw w.in-None.is at kept) (rw w.ahead-is at c.move_up.ensures) c.set-2.ensures (omega arith)
    ]
