-- What a clause with `SomeIff` tells.
use Rattle.std.proofs.Common.{◌≡◌, Option, Some, None, refl, inl, inr}
use Rattle.std.specs.Prelude.{SomeIff, IsSome}
use Rattle.perc_base.specs.Profile.{key_length}
use Rattle.perc_base.specs.declared.profile.Profile.{Profile}
use Rattle.perc_base.specs.declared.profile.Profile.TheVariants.{Aes128, Aes256}
use Rattle.perc_kdf.specs.Derivation.{IsMasterLength}

pub some_where : {T : Type 0} (o : Option T) (P : Type 0) (v : T) → SomeIff o P v → P → IsSome o
some_where None P v h p = absurd (h p)
some_where (Some x) P v h p = refl

pub value_where : {T : Type 0} (o : Option T) (P : Type 0) (x v : T) → SomeIff o P v → o ≡ Some x → x ≡ v
value_where None P x v h e = cc
value_where (Some y) P x v h e = let f = h.1 in cc

pub master_length : (profile : Profile) → IsMasterLength (key_length profile)
master_length Aes128 = inl refl
master_length Aes256 = inr refl
