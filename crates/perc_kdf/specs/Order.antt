-- How keys with their salts compare: by the keys' octets, and where those are equal by the salts'.
use Rattle.std.specs.Prelude.{Bool}
use Rattle.std.specs.Cmp.Lexicographic.{slice_cmp}
use Rattle.std.specs.Ordering.{nat_cmp, on, eq_of_both, then_cmp}
use Rattle.std.specs.Str.{bytes_eq}
use Rattle.std.specs.declared.cmp.Ordering.{Ordering}
use Rattle.perc_kdf.specs.Derivation.{KeyAndSalt}

abbrev pub same_pair : KeyAndSalt → KeyAndSalt → Bool
same_pair = eq_of_both (on (λ m. m.key) bytes_eq) (on (λ m. m.salt) bytes_eq)

abbrev pub pair_cmp : KeyAndSalt → KeyAndSalt → Ordering
pair_cmp = then_cmp (on (λ m. m.key) (slice_cmp nat_cmp)) (on (λ m. m.salt) (slice_cmp nat_cmp))
