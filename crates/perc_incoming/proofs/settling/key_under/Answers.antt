use Rattle.perc_contexts.specs.Kept.{told}
use Rattle.perc_contexts.specs.declared.TryPlace.TheVariants.{Held}
use Rattle.perc_contexts.proofs.ReceivingLaws.{is_place}
use Rattle.perc_incoming.proofs.settling.key_under.Goals as goal

pub key_of-requires : goal.key_of-requires
key_of-requires c =
    let t = c.requires.tried in
    is_place c.args.contexts.now t.0 t.1 (told c.args.carried) c.args.attempt.now t.2 (Held c.in-Held-default.place) t.3 c.in-Held-default.is-0 t.4
