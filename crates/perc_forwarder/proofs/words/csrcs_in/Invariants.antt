use Rattle.perc_forwarder.proofs.Copying.{IsCopied}
use Rattle.perc_forwarder.proofs.words.csrcs_in.Given as goal

abbrev pub invariant-loop-csrc : goal.invariant-loop-csrc
invariant-loop-csrc l = IsCopied l.initial.csrc-iterator l.out l.count l.csrc-iterator
