use Rattle.std.proofs.Common.{◌≡◌, ℕ, List, ◌+◌, ◌-◌, ◌*◌, refl, rules, arith, ap, ◌∙◌, slice_index}
use Rattle.std.proofs.lemmas.List.{take-set-le}
use Rattle.perc_aes.specs.Cipher.{add_words}
use Rattle.perc_aes.specs.Words.{octets_of_word}
use Rattle.perc_aes.proofs.StateLaws.{word_xor}
use Rattle.perc_aes.proofs.Words.{expand_init, expand_more}
use Rattle.perc_aes.proofs.expansion.expand_by.Goals as goal

pub loop-i-init : goal.loop-i-init
loop-i-init c = record {
  size = c.told-words;
  key = refl;
  done = expand_init c.args.words.now c.args.key_words c.requires c.told-words;
}

pub loop-i-preserved : goal.loop-i-preserved
loop-i-preserved c =
    let back : ℕ = slice_index c.loop-i.words (c.loop-i.i - c.args.key_words) in
    record {
      size = search rules;
      key = take-set-le c.args.key_words c.loop-i.words c.loop-i.i _ (omega arith) ∙ c.loop-i.invariant.key;
      done =
          expand_more c.loop-i.words c.args.words.now _ c.args.key_words c.loop-i.i c.requires c.told-words c.loop-i.invariant.size (omega arith) (omega arith) c.loop-i.invariant.done
          (word_xor back c.schedule_core.result ∙ ap (λ (v : List ℕ). add_words (octets_of_word back) v) c.schedule_core.ensures);
    }

pub returns-clause-schedule : goal.returns-clause-schedule
returns-clause-schedule c =
    let done : c.loop-i.i ≡ 4 * c.args.key_words + 28 = omega arith in
    record {
      size = c.requires;
      words = rw (← done, c.loop-i.invariant.key) c.loop-i.invariant.done;
    }
