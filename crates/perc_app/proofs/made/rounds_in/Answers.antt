use Rattle.std.proofs.Common.{◌≡◌, ℕ, List, ◌∷◌, [], IfSome, None, map, subst}
use Rattle.std.specs.Prelude.{string_bytes}
use Rattle.perc_app.specs.Made.{IsMake}
use Rattle.perc_app.proofs.Makes.{two_words}
use Rattle.perc_app.proofs.made.rounds_in.Goals as goal

pub returns-in-len2-clause-is : goal.returns-in-len2-clause-is
returns-in-len2-clause-is c =
    subst (λ (words : List (List ℕ)). IfSome c.rounds_behind.result (λ rounds. IsMake words rounds))
    (two_words string_bytes c.args.words.now c.word-item.result c.count-item.result c.as_bytes.result.now c.as_bytes-in-len2.result.now
    c.in-len2.len_at_least c.in-len2.len_below c.word-item.is c.count-item.is c.as_bytes.ensures.value c.as_bytes-in-len2.ensures.value)
    c.rounds_behind.ensures.is

pub returns-in-len2-clause-isnt : goal.returns-in-len2-clause-isnt
returns-in-len2-clause-isnt c =
    subst (λ (words : List (List ℕ)). c.rounds_behind.result ≡ None → (rounds : ℕ) → IsMake words rounds → ⊥)
    (two_words string_bytes c.args.words.now c.word-item.result c.count-item.result c.as_bytes.result.now c.as_bytes-in-len2.result.now
    c.in-len2.len_at_least c.in-len2.len_below c.word-item.is c.count-item.is c.as_bytes.ensures.value c.as_bytes-in-len2.ensures.value)
    c.rounds_behind.ensures.isnt

pub returns-in-len2-clause-few : goal.returns-in-len2-clause-few
returns-in-len2-clause-few c = c.rounds_behind.ensures.few
