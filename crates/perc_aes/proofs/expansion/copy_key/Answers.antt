use Rattle.std.proofs.Common.{refl, rules, arith}
use Rattle.perc_aes.specs.Words.{octets_of_words}
use Rattle.perc_aes.proofs.Words.{key_more, key_whole}
use Rattle.perc_aes.proofs.expansion.copy_key.Goals as goal

pub loop-i-init : goal.loop-i-init
unfolding octets_of_words
loop-i-init c = record { size = c.told-words; done = refl }

pub loop-i-preserved : goal.loop-i-preserved
loop-i-preserved c = record {
  size = search rules;
  done =
      key_more c.loop-i.words c.args.key.now c.word_at.result c.loop-i.i (omega arith) (omega arith) c.loop-i.invariant.done c.word_at.ensures;
}

pub returns : goal.returns
returns c =
    key_whole c.loop-i.words c.args.key.now c.loop-i.i c.requires (omega arith) (omega arith) c.loop-i.invariant.done
