-- Steps of a decoder.
use Rattle.std.proofs.Common.{◌≡◌, ℕ, List, ◌++◌, length, take, ap, ◌∙◌}
use Rattle.perc_tunnel.specs.Decoding.{Decoding, fed, taken}

pub fed_is : (old now : Decoding) (piece held : List ℕ) (n : ℕ) → now ≡ old → n ≡ taken old (length piece) → held ≡ now.held ++ take n piece
    → record now { held = held } ≡ fed old piece
fed_is old now piece held n same count is =
    ap (λ (h : List ℕ). record now { held = h }) (is ∙ ap (λ (k : ℕ). now.held ++ take k piece) count)
    ∙ ap (λ (d : Decoding). record d { held = d.held ++ take (taken old (length piece)) piece }) same
