-- The fields of a name are those of its octets: zeros stand behind them, to a width of 16.
use Rattle.std.specs.Prelude.{◌≡◌, ℕ, ◌-◌, ◌≤◌, List, ◌++◌, length, take, drop, replicate}
use Rattle.std.proofs.Common.{arith, length-take-le, take-append-drop, ap, sym, ◌∙◌}
use Rattle.perc_word.specs.declared.name.Name.TheInside.{Inside}

-- the octets, and zeros behind them
abbrev pub padded : List ℕ → Inside
padded name = record { octets = name ++ replicate (16 - length name) 0; len = length name }

-- the octets are as long as `len` says, and nothing but zeros stands behind them
abbrev pub IsPadded : Inside → Type 0
IsPadded n = (n.len ≤ 16) × (length n.octets ≡ 16) × (drop n.len n.octets ≡ replicate (16 - n.len) 0)

pub padded_back : (n : Inside) → IsPadded n → padded (take n.len n.octets) ≡ n
padded_back n h =
    let len : length (take n.len n.octets) ≡ n.len = length-take-le n.len n.octets (omega arith) in
    let with_len : ℕ → Inside = λ k. record { octets = take n.len n.octets ++ replicate (16 - k) 0; len = k } in
    let with_octets : List ℕ → Inside = λ xs. record { octets = xs; len = n.len } in
    ap with_len len ∙ ap with_octets (ap (λ xs. take n.len n.octets ++ xs) (sym h.2) ∙ take-append-drop n.len n.octets)
