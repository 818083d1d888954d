-- Which records join.
use Rattle.std.specs.List.{list_any}
use Rattle.std.specs.Prelude.{ℕ, ◌==◌, Bool, false, ◌&&◌, List}
use Rattle.perc_base.specs.Profile.{profile_number}
use Rattle.perc_base.specs.declared.profile.Profile.{Profile}
use Rattle.perc_keydist.specs.declared.handshake.Hello.{Hello}
use Rattle.perc_keydist.specs.declared.handshake.Hello.TheVariants.{Join, Other}

-- whether a record joins with the conference's profile, and this is among those accepted
abbrev pub is_wanted : Profile → List ℕ → Hello → Bool
is_wanted profile accepted (Join number) = number == profile_number profile && list_any (λ p. p == number) accepted
is_wanted profile accepted Other = false
