use Rattle.std.proofs.Common.{List, [], ◌∷◌, subst, ◌∙◌}
use Rattle.std.specs.Prelude.{codes}
use Rattle.std.specs.List.{concat}
use Rattle.perc_base.specs.Written.{Tells}
use Rattle.perc_app.specs.Status.{line_feed}
use Rattle.perc_app.proofs.top.tell_foreign.Goals as goal

pub returns : goal.returns
returns g c =
    subst (λ digits. Tells (g.E.Sink.written c.args.err.now) (g.E.Sink.written c.write_pieces.new.out)
    (concat (codes "perc: line " ∷ digits ∷ codes ": foreign tag or key at " ∷ c.args.name.now ∷ line_feed ∷ []))
    (g.E.Sink.fault_count c.args.err.now) (g.E.Sink.fault_count c.write_pieces.new.out))
    (c.as_bytes.ensures.value ∙ c.format.ensures.text) c.write_pieces.ensures.told
