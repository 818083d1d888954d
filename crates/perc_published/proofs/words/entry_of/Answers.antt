use Rattle.std.proofs.Common.{ap, ◌∙◌, slice_index, ◌%◌, ◌^◌}
use Rattle.std.proofs.lemmas.List.{take_rest}
use Rattle.perc_published.specs.Words as spec
use Rattle.perc_published.proofs.words.entry_of.Goals as goal

pub returns : goal.returns
unfolding spec.entry_of
returns c = λ i. record {
  association = c.two_words.ensures i;
  serial = slice_index c.args.words.now 2 % 2 ^ 32;
  client = (c.pair_of.ensures ∙ ap spec.pair_of (take_rest c.args.words.now 3)) i;
  server = (c.pair_of-2.ensures ∙ ap spec.pair_of (take_rest c.args.words.now 10)) i;
}
