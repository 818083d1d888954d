-- Both answers are those under the newest key, whose epoch is kept.
use Rattle.std.proofs.Common.{◌≡◌, Some, arith, sym, ap}
use Rattle.perc_sender.specs.Schedule.{newest}
use Rattle.perc_sender.proofs.Keys.{next_spent, next_placed}
use Rattle.perc_sender.proofs.Sender.next.Goals as goal

pub returns-then-self-eq-INDEX_END-clause-answer :
    goal.returns-then-self-eq-INDEX_END-clause-answer
returns-then-self-eq-INDEX_END-clause-answer c =
    let under : newest c.args.self.now.keys ≡ Some c.in-Some.taken.now =
    rw (← c.self.view_is, ← c.as_slice.ensures.value) (sym c.in-Some.ensures) in
    next_spent c.args.self.now c.in-Some.taken.now under (rw (← c.self.view_is) (omega arith))

pub returns-clause-answer : goal.returns-clause-answer
returns-clause-answer c =
    let under : newest c.args.self.now.keys ≡ Some c.in-Some.taken.now =
    rw (← c.self.view_is, ← c.as_slice.ensures.value) (sym c.in-Some.ensures) in
    next_placed c.args.self.now c.in-Some.taken.now _ _ _ _ under
    (ap (λ s. s.next) c.self.view_is)
    (rw (← c.self.view_is) c.if-self-eq-INDEX_END.false)
    (ap (λ taken. taken.spi) c.taken.view_is)
    (rw (← c.self.view_is) c.self.invariant.epoch_is)
    (rw (← c.self.view_is) c.carries_key.ensures)
