use Rattle.perc_run.specs.Hostile.{graft_turn}
use Rattle.perc_script_line.specs.declared.reason.Reason.TheVariants.{Datagram}
use Rattle.perc_conference_state.proofs.Turning.{does_stopped}
use Rattle.perc_wire_lines.specs.Made.{graft}
use Rattle.perc_wire_lines.proofs.Made.{does_made, does_nothing, graft_few, graft_first, graft_is, graft_second}
use Rattle.perc_wire_lines.proofs.making.graft.Goals as goal

pub returns-in_err-first : goal.returns-in_err-first
returns-in_err-first c = λ s mirrors.
    let g = c.args.grafting.now in
    let none = c.in_err-first.ensures.none s mirrors in
    does_stopped (graft_turn s g.first g.front g.second g.back) Datagram c.from_residual.result c.in_err-first.field-0.0 c.args.text.now.items c.args.text.now.items
    c.args.conference.now (graft_first s g.first g.front g.second g.back none.0) c.from_residual.ensures.1 none.1

pub returns-in_err-second : goal.returns-in_err-second
returns-in_err-second c = λ s mirrors.
    let g = c.args.grafting.now in
    let it = c.in_ok-first.ensures.found s mirrors in
    let none = c.in_err-second.ensures.none s mirrors in
    does_stopped (graft_turn s g.first g.front g.second g.back) Datagram c.from_residual-in_err-second.result c.in_err-second.field-0.0 c.args.text.now.items
    c.args.text.now.items c.args.conference.now (graft_second s g.first g.front g.second g.back c.in_ok-first.first.now it none.0) c.from_residual-in_err-second.ensures.1 none.1

pub returns-in_err-made : goal.returns-in_err-made
returns-in_err-made c = λ s mirrors.
    let g = c.args.grafting.now in
    let xs = c.in_ok-first.first.now in
    let ys = c.in_ok-second.second.now in
    let is = graft_is s g.first g.front g.second g.back xs ys (c.in_ok-first.ensures.found s mirrors) (c.in_ok-second.ensures.found s mirrors) in
    does_nothing s (graft_turn s g.first g.front g.second g.back) (graft xs g.front ys g.back) c.in_err-made.field-0.0 c.from_residual-in_err-made.result
    c.args.text.now.items c.args.text.now.items c.args.conference.now is c.in_err-made.ensures c.from_residual-in_err-made.ensures.1

pub returns : goal.returns
returns c = λ s mirrors.
    let g = c.args.grafting.now in
    let xs = c.in_ok-first.first.now in
    let ys = c.in_ok-second.second.now in
    let is = graft_is s g.first g.front g.second g.back xs ys (c.in_ok-first.ensures.found s mirrors) (c.in_ok-second.ensures.found s mirrors) in
    let few = graft_few xs ys g.front g.back c.in_ok-made.made c.in_ok-made.ensures in
    does_made s (graft_turn s g.first g.front g.second g.back) (graft xs g.front ys g.back) c.in_ok-made.made c.make.result c.args.text.now.items
    c.make.new.text.items c.make.new.conference is c.in_ok-made.ensures (c.make.ensures s mirrors few)
