use Rattle.perc_gcm.proofs.GcmLaws.{tag_verifies, verifies_decides, tag_is_one, ciphertext_twice, ciphertext_injective}
use Rattle.perc_gcm.specs.Gcm.{ciphertext}
use Rattle.perc_gcm.proofs.laws.opening.Goals as goal

pub returns : goal.returns
returns c = record {
  verifies = λ key iv aad text. tag_verifies key iv aad (ciphertext key iv text);
  decides = verifies_decides;
  one_tag = tag_is_one;
  back = ciphertext_twice;
  injective = ciphertext_injective;
}
