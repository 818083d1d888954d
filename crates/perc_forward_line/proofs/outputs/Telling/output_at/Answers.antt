use Rattle.std.proofs.Common.{sym, ◌∙◌}
use Rattle.perc_ohb.specs.Rewriting.{rewrite_of}
use Rattle.perc_distributor.specs.Kept.{sent_of}
use Rattle.perc_forward_line.proofs.Reporting.{of_place}
use Rattle.perc_forward_line.proofs.outputs.Telling.output_at.Goals as goal

pub returns : goal.returns
returns c = λ members taken sent packet made is there.
    of_place members (rewrite_of c.args.self.now.change.now) c.args.number packet made c.args.place (sent_of c.args.output.now) c.args.datagrams.now.items c.output.new.datagrams.items c.output.result c.args.text.now.items
    c.output.new.text.items (sym c.place_of.ensures ∙ c.if-place_of-place.false) (c.output.ensures members taken sent packet made is there)
