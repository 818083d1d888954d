use Rattle.perc_gcm.proofs.GcmLaws.{opens_as_sealed, sealed_opens, none_sealed, none_opens, sealed_injective}
use Rattle.perc_gcm.proofs.laws.unsealing.Goals as goal

pub returns : goal.returns
returns c = record {
  opens = λ key iv aad sealed text. (opens_as_sealed key iv aad sealed text, sealed_opens key iv aad sealed text);
  refuses = λ key iv aad sealed. (none_sealed key iv aad sealed, none_opens key iv aad sealed);
  injective = sealed_injective;
}
