use Rattle.std.proofs.Common.{◌≡◌, ◌≤◌, ◌++◌, ◌∷◌, map, take, length}
use Rattle.std.specs.List.{join_with_byte}
use Rattle.perc_generator.proofs.generator.write_line.Given as goal

abbrev pub invariant-loop-word : goal.invariant-loop-word
invariant-loop-word l =
    (l.out.items ≡ l.fn.out.items ++ join_with_byte 32 (l.verb ∷ take l.word-index (map (λ word. word.now) l.words)))
    × (l.word-index ≤ length l.words)
