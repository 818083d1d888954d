use Rattle.perc_window.proofs.marks.Marked.move_up.Goals as goal

pub returns : goal.returns
returns c = rw (← c.self.view_is) c.moved_up-low.ensures
