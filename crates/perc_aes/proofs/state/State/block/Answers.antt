use Rattle.std.proofs.Common.{refl}
use Rattle.perc_aes.specs.Words.{octets_of, octets_of_word, octets_of_words}
use Rattle.perc_aes.proofs.state.State.block.Goals as goal

pub returns : goal.returns
unfolding octets_of octets_of_words octets_of_word
returns c =
    rw (c.to_be_bytes.ensures, c.to_be_bytes-2.ensures, c.to_be_bytes-3.ensures, c.to_be_bytes-4.ensures) refl
