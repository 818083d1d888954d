-- The profiles of the double transform (RFC 8723 section 10.1): their numbers, and how many octets their keys have.
use Rattle.std.specs.Prelude.{ℕ}
use Rattle.perc_base.specs.declared.profile.Profile.{Profile}
use Rattle.perc_base.specs.declared.profile.Profile.TheVariants.{Aes128, Aes256}

abbrev pub profile_number : Profile → ℕ
profile_number Aes128 = 9
profile_number Aes256 = 10

abbrev pub key_length : Profile → ℕ
key_length Aes128 = 16
key_length Aes256 = 32
