-- What the words of a line have as bounds, for the calls that take them.
use Rattle.std.proofs.Common.{◌≡◌, ℕ, ◌+◌, ◌-◌, true, ◌&&◌, List, length, arith}
use Rattle.std.proofs.lemmas.Bool.{and_parts, eqb-true}
use Rattle.std.proofs.lemmas.List.{length-take}
use Rattle.perc_base.specs.Profile.{key_length}
use Rattle.perc_base.specs.declared.profile.Profile.{Profile}
use Rattle.perc_run.specs.Joining.{pair_of}
use Rattle.perc_script_line.specs.Script.{key_fits, pair_fits}

pub key_length_of : (profile : Profile) (key : List ℕ) → key_fits profile key ≡ true → length key ≡ key_length profile
key_length_of profile key fit = eqb-true (length key) (key_length profile) fit

-- The key of a pair that fits has the profile's length.
pub pair_key : (profile : Profile) (pair : List ℕ) → pair_fits profile pair ≡ true → length (pair_of pair).key ≡ key_length profile
pair_key profile pair fit =
    let size = eqb-true (length pair) (key_length profile + 12) fit in
    let taken = length-take (length pair - 12) pair in omega arith

-- each part of what a join brings
pub join_fits : (profile : Profile) (client server key : List ℕ) → (pair_fits profile client && pair_fits profile server && key_fits profile key) ≡ true
    → (pair_fits profile client ≡ true) × (pair_fits profile server ≡ true) × (key_fits profile key ≡ true)
join_fits profile client server key fit =
    let all = and_parts (pair_fits profile client && pair_fits profile server) (key_fits profile key) fit in
    let pairs = and_parts (pair_fits profile client) (pair_fits profile server) all.0 in (pairs.0, pairs.1, all.1)
