use Rattle.perc_gcm.proofs.GcmLaws.{length-ciphertext, ciphertext_octets, length-tag, tag_octets, length-sealed_text, sealed_octets}
use Rattle.perc_gcm.proofs.laws.octets.Goals as goal

pub returns : goal.returns
returns c = record {
  text_length = length-ciphertext;
  text_octets = ciphertext_octets;
  tag_length = length-tag;
  tag_octets = tag_octets;
  sealed_length = length-sealed_text;
  sealed_octets = sealed_octets;
}
