-- The epoch of a key that was taken counts the keys before it under its SPI.
use Rattle.std.proofs.Common.{arith, sym, ap, ◌∙◌}
use Rattle.perc_sender.specs.Schedule.{Sending, count_under}
use Rattle.perc_sender.proofs.Keys.{epoch_push}
use Rattle.perc_sender.proofs.Sender.take_key.Goals as goal

pub invariant_of-self : goal.invariant_of-self
invariant_of-self c = record {
  in_range = omega arith;
  few = omega arith;
  epoch_is =
      rw (c.push.ensures.items, epoch_push c.self.inside.keys.items c.new.result, c.new.ensures) (c.in_ok-epoch.ensures.epoch ∙ ap (λ (s : Sending). count_under c.args.spi s.keys) (sym c.self.view_is));
}
