use Rattle.std.proofs.Common.{◌∙◌}
use Rattle.perc_drawing.proofs.Drawn.{begun_either}
use Rattle.perc_drawing.proofs.canvas.Canvas.append.Goals as goal

pub invariant_of-self : goal.invariant_of-self
invariant_of-self c =
    begun_either c.extend_from_slice.result c.self.inside.octets.items c.new-element.result.items c.as_slice.result.now _
    (record { tag = c.args.tag; attributes = c.args.attributes.now; text = c.args.text.now })
    c.self.invariant c.new-element.ensures.items (c.as_slice.ensures.value ∙ c.in_ok-append_element.ensures) c.extend_from_slice.ensures.items
