use Rattle.std.proofs.Common.{[], ◌∷◌}
use Rattle.std.proofs.lemmas.List.Elements.{All-cons, All-nil}
use Rattle.perc_ohb.specs.declared.rewriting.Change.{Change}
use Rattle.perc_ohb.specs.Rewriting.{IsRewrite, rewrite_of}
use Rattle.perc_format_tests.proofs.ohb.rewrite_thrice.Goals as goal

abbrev rewrites : Change → Type 0
rewrites change = IsRewrite (rewrite_of change)

pub rewrite_all-requires-clause-changes : goal.rewrite_all-requires-clause-changes
rewrite_all-requires-clause-changes c =
    All-cons rewrites c.change_to.result (c.change_to-2.result ∷ c.change_to-3.result ∷ []) c.change_to.ensures
    (All-cons rewrites c.change_to-2.result (c.change_to-3.result ∷ []) c.change_to-2.ensures (All-cons rewrites c.change_to-3.result [] c.change_to-3.ensures (All-nil rewrites)))
