use Rattle.perc_run.specs.Hostile.{alter_turn}
use Rattle.perc_script_line.specs.declared.reason.Reason.TheVariants.{Datagram}
use Rattle.perc_conference_state.proofs.Turning.{does_stopped}
use Rattle.perc_wire_lines.specs.Made.{alteration}
use Rattle.perc_wire_lines.proofs.Made.{alter_is, alter_nothing, alteration_few, does_made, does_nothing}
use Rattle.perc_wire_lines.proofs.making.alter.Goals as goal

pub returns-in_err-datagram : goal.returns-in_err-datagram
returns-in_err-datagram c = λ s mirrors.
    let none = c.in_err-datagram.ensures.none s mirrors in
    does_stopped (alter_turn s c.args.number c.args.offset c.args.octets.now) Datagram c.from_residual.result c.in_err-datagram.field-0.0 c.args.text.now.items
    c.args.text.now.items c.args.conference.now (alter_nothing s c.args.number c.args.offset c.args.octets.now none.0) c.from_residual.ensures.1 none.1

pub returns-in_err-made : goal.returns-in_err-made
returns-in_err-made c = λ s mirrors.
    let octets = c.in_ok-datagram.datagram.now in
    let it = c.in_ok-datagram.ensures.found s mirrors in
    let new = c.args.octets.now in
    does_nothing s (alter_turn s c.args.number c.args.offset new) (alteration octets c.args.offset new) c.in_err-made.field-0.0 c.from_residual-in_err-made.result
    c.args.text.now.items c.args.text.now.items c.args.conference.now (alter_is s c.args.number c.args.offset octets new it) c.in_err-made.ensures
    c.from_residual-in_err-made.ensures.1

pub returns : goal.returns
returns c = λ s mirrors.
    let octets = c.in_ok-datagram.datagram.now in
    let it = c.in_ok-datagram.ensures.found s mirrors in
    let new = c.args.octets.now in
    let few = alteration_few octets new c.args.offset c.in_ok-made.made it.few c.in_ok-made.ensures in
    does_made s (alter_turn s c.args.number c.args.offset new) (alteration octets c.args.offset new) c.in_ok-made.made c.make.result c.args.text.now.items
    c.make.new.text.items c.make.new.conference (alter_is s c.args.number c.args.offset octets new it) c.in_ok-made.ensures (c.make.ensures s mirrors few)
