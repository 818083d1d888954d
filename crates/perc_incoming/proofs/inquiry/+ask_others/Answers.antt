use Rattle.std.specs.Prelude.{map}
use Rattle.perc_contexts.specs.Kept.{told}
use Rattle.perc_receiver.specs.Table.{secret_in}
use Rattle.perc_incoming.proofs.Deciding.{first_left}
use Rattle.perc_incoming.proofs.Inquiring.{append_first}
use Rattle.perc_incoming.proofs.inquiry.+ask_others.Goals as goal

pub returns : goal.returns
returns t c = λ held ssrc tried h stands are is.
    let f =
    first_left held.contexts ssrc (told c.args.carried) c.in-Some.first.now c.in-Some.others.now c.args.attempts.now tried c.in-Some.ensures.cases.0 are in
    append_first (map secret_in c.args.records.now) h c.args.inner.now.octets.now tried f.attempt f.rest _ _ _ f.is (c.ask_one.ensures.appended held ssrc f.attempt h stands f.is_try is)
    (c.ask_others.ensures held ssrc f.rest h stands f.are is)
