-- Every report has the headline, and other words than `make N` ask for no generated script.
use Rattle.perc_app.proofs.Ends.{Laws, true_report}
use Rattle.perc_app.proofs.Makes.{one_make, summed_at}
use Rattle.perc_app.proofs.top.run.Goals as goal

pub returns-clause-headline : goal.returns-clause-headline
returns-clause-headline g c = λ is_replay. true_report laws _ _ _ _ _ c.replay-end.ensures.report where
  laws : Laws
  laws = record {
    lines = c.turn_by_turn.ensures;
    headline = c.accepted_once_as_sent.ensures.by_cipher;
    ideal = c.one_run.ensures;
    foreign = c.ends_at_foreign.ensures.by_cipher;
    nonces = c.each_nonce_once.ensures.by_cipher;
  }

pub returns-in-Some-clause-summed : goal.returns-in-Some-clause-summed
returns-in-Some-clause-summed g c = λ rounds make none.
    summed_at rounds c.in-Some.rounds (g.O.Sink.written c.args.out.now) (g.O.Sink.written c.run_made-end.new.out) c.run_made-end.result c.ended.result.0
    (g.O.Sink.fault_count c.args.out.now) (g.O.Sink.fault_count c.run_made-end.new.out)
    (one_make _ c.in-Some.rounds rounds c.in-Some.ensures.is make) c.ended.ensures.status c.run_made-end.ensures.ends c.run_made-end.ensures.write_fault none

pub returns-then-not-is_replay-clause-make : goal.returns-then-not-is_replay-clause-make
returns-then-not-is_replay-clause-make g c = λ rounds make. absurd (c.rounds_in.ensures.isnt c.in_default.is rounds make)

pub returns-then-not-is_replay-clause-summed : goal.returns-then-not-is_replay-clause-summed
returns-then-not-is_replay-clause-summed g c = λ rounds make none. absurd (c.rounds_in.ensures.isnt c.in_default.is rounds make)
