-- The context at the place has this SPI and this key.
use Rattle.std.proofs.Common.{refl}
use Rattle.perc_contexts.proofs.Standing.{key_at}
use Rattle.perc_contexts.proofs.Contexts.key_of.Goals as goal

pub returns-clause-value : goal.returns-clause-value
returns-clause-value c = λ held stands.
    rw (c.spi.ensures, c.key.ensures.value) (key_at c.args.self.now.contexts held.contexts c.args.place c.index-context.result.now _
    stands.contexts (rw (← c.self.view_is) c.index-context.ensures) c.requires refl)
