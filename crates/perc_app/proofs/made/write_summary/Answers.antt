-- The text that is written is the summary's.
use Rattle.std.proofs.Common.{◌≡◌, ◌++◌, List, ℕ, [], ◌∷◌, Some, IfSome, OnOk, subst, ◌∙◌}
use Rattle.std.specs.Prelude.{codes}
use Rattle.std.specs.List.{concat}
use Rattle.perc_app.specs.Status.{line_feed}
use Rattle.perc_app.proofs.made.write_summary.Goals as goal

pub returns-clause-whole : goal.returns-clause-whole
returns-clause-whole g c =
    let made = c.as_bytes.ensures.value ∙ c.format.ensures.text in
    let lines = c.as_bytes-2.ensures.value ∙ c.format-2.ensures.text in
    let datagrams = c.as_bytes-3.ensures.value ∙ c.format-3.ensures.text in
    let accepted = c.as_bytes-4.ensures.value ∙ c.format-4.ensures.text in
    let refused = c.as_bytes-5.ensures.value ∙ c.format-5.ensures.text in
    let total = c.as_bytes-6.ensures.value ∙ c.format-6.ensures.text in
    subst (λ (text : List ℕ). OnOk c.write_pieces.result (IfSome (g.O.Sink.written c.args.out.now) (λ before. g.O.Sink.written c.write_pieces.new.out ≡ Some (before ++ text))))
    (λ i. concat (codes "made " ∷ made i ∷ codes " lines " ∷ lines i ∷ codes " datagrams " ∷ datagrams i ∷ codes " accepted " ∷ accepted i ∷ codes " refused " ∷ refused i
    ∷ codes " sum " ∷ total i ∷ line_feed ∷ []))
    c.write_pieces.ensures.whole
