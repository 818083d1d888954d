use Rattle.std.proofs.Common.{sym, subst}
use Rattle.std.specs.Prelude.{Option, map}
use Rattle.perc_receiver.specs.Table.{secret_in, secret_of}
use Rattle.perc_incoming.specs.Asking.{IsOpened, body_at}
use Rattle.perc_incoming.proofs.Unwrapping.{opened_found, opened_not}
use Rattle.perc_incoming.proofs.trying.open_under.Goals as goal
use Rattle.std.proofs.Common.{ℕ}

pub returns-in_err-granted-clause-answer : goal.returns-in_err-granted-clause-answer
returns-in_err-granted-clause-answer c = λ h is.
    opened_not c.args.records.now c.args.spi c.args.key.now c.args.index h c.args.body.now c.args.body.now c.from_residual.result (sym c.in_err-granted.ensures) c.from_residual.ensures

pub returns-clause-answer : goal.returns-clause-answer
returns-clause-answer c = λ h is.
    let all = opened_found c.args.records.now c.args.spi c.args.key.now c.args.index h c.args.body.now c.inner_unseal.new.body c.in_ok-granted.granted c.inner_session.result
    c.inner_unseal.result _ (sym c.in_ok-granted.ensures) c.inner_session.ensures (c.inner_unseal.ensures.answer h is) in
    subst (λ (o : Option ℕ). IsOpened (body_at (secret_of (map secret_in c.args.records.now) c.args.spi) c.args.key.now c.args.index h c.args.body.now) o c.inner_unseal.new.body)
    (sym c.ok.ensures.value) all
