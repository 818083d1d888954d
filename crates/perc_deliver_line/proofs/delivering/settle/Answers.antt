use Rattle.perc_incoming.specs.Outcome.{padding_answer}
use Rattle.perc_receiver.specs.Receiver.{settled}
use Rattle.perc_deliver_line.proofs.Held.{code_at, member_at, mirrors_held}
use Rattle.perc_deliver_line.proofs.Parts.{heard_err, heard_ok}
use Rattle.perc_deliver_line.proofs.delivering.settle.Goals as goal

pub settle-requires-clause-taken : goal.settle-requires-clause-taken
settle-requires-clause-taken c =
    let a = c.index_mut.result.now in
    c.requires.taken a (code_at c.args.conference.now c.args.place a c.requires.place c.index_mut.ensures.value)

pub returns-in-Ok : goal.returns-in-Ok
returns-in-Ok c = λ s m o t at told taken.
    let a = c.index_mut.result.now in
    let here = member_at c.args.conference.now c.args.place a s m c.requires.place c.index_mut.ensures.value at in
    let after = c.in-Ok.ensures.stands m.endpoint o t here.stands told taken in
    record {
      heard_as = heard_ok (padding_answer o t) c.in-Ok.accepted (c.in-Ok.ensures.answer m.endpoint o t here.stands told taken);
      mirrors = mirrors_held c.args.conference.now c.args.place a s m (settled m.endpoint.receiving (padding_answer o t)) c.settle.new.self here after;
    }

pub returns-in-Err : goal.returns-in-Err
returns-in-Err c = λ s m o t at told taken.
    let a = c.index_mut.result.now in
    let here = member_at c.args.conference.now c.args.place a s m c.requires.place c.index_mut.ensures.value at in
    let after = c.in-Err.ensures.stands m.endpoint o t here.stands told taken in
    let answer = c.in-Err.ensures.answer m.endpoint o t here.stands told taken in
    record {
      heard_as = heard_err (padding_answer o t) c.in-Err.refusal c.media_refusal.result answer c.media_refusal.ensures;
      mirrors = mirrors_held c.args.conference.now c.args.place a s m (settled m.endpoint.receiving (padding_answer o t)) c.settle.new.self here after;
    }
