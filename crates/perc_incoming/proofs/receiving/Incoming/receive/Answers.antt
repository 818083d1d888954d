use Rattle.std.proofs.Common.{◌≡◌, List, Result, Ok, Err, refl, sym, ap, subst, ◌∙◌}
use Rattle.std.proofs.lemmas.Result.{err_from_is_err_and}
use Rattle.perc_receiver.specs.declared.refusal.Refusal.{Refusal}
use Rattle.perc_receiver.specs.declared.refusal.Refusal.TheVariants as refusal
use Rattle.perc_receiver.specs.Receiver as receiver
use Rattle.perc_receiver.specs.Receiver.{Receiver, outcome, reach_of, receiving}
use Rattle.perc_incoming.specs.declared.settling.Accepted.{Accepted}
use Rattle.perc_incoming.specs.Kept.{StandsFor}
use Rattle.perc_incoming.specs.Outcome.{IsAnswered, StaysWhenRefused, after_reach, decision}
use Rattle.perc_incoming.proofs.Parts.{decision_err, decision_ok}
use Rattle.perc_incoming.proofs.Hearing.{inner_stays, outcome_decided, outcome_refused, padding_stays, reached_ok}
use Rattle.perc_incoming.proofs.receiving.Incoming.receive.Goals as goal

abbrev Answer : Type 0
Answer = Result receiver.Accepted Refusal × Receiver

pub returns-in-Err-clause-answer : goal.returns-in-Err-clause-answer
returns-in-Err-clause-answer c = λ r stands.
    subst (λ (x : Answer). IsAnswered x.0 (Err (refusal.Outer c.in-Err.fault)))
    (sym (outcome_refused r c.args.datagram.now c.in-Err.fault c.reach.new.datagram (c.in-Err.ensures.answer r stands))) refl

pub returns-in-Err-clause-stands : goal.returns-in-Err-clause-stands
returns-in-Err-clause-stands c = λ r stands.
    subst (λ (x : Answer). StandsFor c.reach.new.self x.1)
    (sym (outcome_refused r c.args.datagram.now c.in-Err.fault c.reach.new.datagram (c.in-Err.ensures.answer r stands))) (c.in-Err.ensures.stands r stands)

pub returns-in_err-decided-clause-answer : goal.returns-in_err-decided-clause-answer
returns-in_err-decided-clause-answer c = λ r stands.
    let d = c.args.datagram.now in
    let e = c.in_err-decided.field-0.0 in
    let now = after_reach r (reach_of r d) in
    let k = reached_ok (reach_of r d) c.in-Ok.reached c.reach.new.datagram (c.in-Ok.ensures.answer r stands) in
    let none = decision_err (receiving now) k.0.header.ssrc _ e c.decide.new.room (c.in_err-decided.ensures.answer now k.0 (c.in-Ok.ensures.stands r stands) k.2) in
    let p = err_from_is_err_and c.from_residual.result c.from_residual.ensures.1 in
    subst (λ (x : Answer). IsAnswered x.0 c.from_residual.result) (sym (outcome_decided r d k.0 (Err e) k.1 none)) (p.1 ∙ ap Err p.2)

pub returns-in_err-decided-clause-stands : goal.returns-in_err-decided-clause-stands
returns-in_err-decided-clause-stands c = λ r stands.
    let d = c.args.datagram.now in
    let e = c.in_err-decided.field-0.0 in
    let now = after_reach r (reach_of r d) in
    let k = reached_ok (reach_of r d) c.in-Ok.reached c.reach.new.datagram (c.in-Ok.ensures.answer r stands) in
    let none = decision_err (receiving now) k.0.header.ssrc _ e c.decide.new.room (c.in_err-decided.ensures.answer now k.0 (c.in-Ok.ensures.stands r stands) k.2) in
    subst (λ (x : Answer). StandsFor c.reach.new.self x.1) (sym (outcome_decided r d k.0 (Err e) k.1 none)) (c.in-Ok.ensures.stands r stands)

pub returns-in_err-decided-clause-refused : goal.returns-in_err-decided-clause-refused
returns-in_err-decided-clause-refused c =
    let p = err_from_is_err_and c.from_residual.result c.from_residual.ensures.1 in
    let e = c.in_err-decided.field-0.0 in
    subst (λ (x : Result Accepted Refusal). StaysWhenRefused x (c.reach.new.self ≡ c.args.self.now)) (sym (p.1 ∙ ap Err p.2)) (inner_stays e (c.reach.new.self ≡ c.args.self.now) c.in_err-decided.ensures.inner)

pub returns-clause-answer : goal.returns-clause-answer
returns-clause-answer c = λ r stands.
    let d = c.args.datagram.now in
    let now = after_reach r (reach_of r d) in
    let k = reached_ok (reach_of r d) c.in-Ok.reached c.reach.new.datagram (c.in-Ok.ensures.answer r stands) in
    let after = c.in-Ok.ensures.stands r stands in
    let t = decision_ok (receiving now) k.0.header.ssrc (decision r.secrets r.contexts k.0) c.in_ok-decided.decided c.decide.new.room (c.in_ok-decided.ensures.answer now k.0 after k.2) in
    subst (λ (x : Answer). IsAnswered x.0 c.settle.result) (sym (outcome_decided r d k.0 (Ok t.0) k.1 t.1)) (c.settle.ensures.answer now k.0 t.0 after k.2 t.2)

pub returns-clause-stands : goal.returns-clause-stands
returns-clause-stands c = λ r stands.
    let d = c.args.datagram.now in
    let now = after_reach r (reach_of r d) in
    let k = reached_ok (reach_of r d) c.in-Ok.reached c.reach.new.datagram (c.in-Ok.ensures.answer r stands) in
    let after = c.in-Ok.ensures.stands r stands in
    let t = decision_ok (receiving now) k.0.header.ssrc (decision r.secrets r.contexts k.0) c.in_ok-decided.decided c.decide.new.room (c.in_ok-decided.ensures.answer now k.0 after k.2) in
    subst (λ (x : Answer). StandsFor c.settle.new.self x.1) (sym (outcome_decided r d k.0 (Ok t.0) k.1 t.1)) (c.settle.ensures.stands now k.0 t.0 after k.2 t.2)

pub returns-clause-refused : goal.returns-clause-refused
returns-clause-refused c = padding_stays c.settle.result _ c.settle.ensures.padding
