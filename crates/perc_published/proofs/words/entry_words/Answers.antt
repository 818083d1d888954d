use Rattle.std.proofs.Common.{rules}
use Rattle.perc_published.proofs.Spelling.{entry_back}
use Rattle.perc_published.proofs.words.entry_words.Goals as goal

pub returns : goal.returns
returns c =
    entry_back c.args.entry c.word_at.result c.word_at-2.result c.from.result c.pair_words-c.result c.pair_words-s.result
    (record {
      long = search rules;
      small = search rules;
      first = c.word_at.ensures;
      second = c.word_at-2.ensures;
      serial = c.from.ensures;
      client = c.pair_words-c.ensures;
      server = c.pair_words-s.ensures;
    })
