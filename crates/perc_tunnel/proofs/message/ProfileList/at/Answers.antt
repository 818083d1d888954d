use Rattle.std.proofs.Common.{◌*◌, ◌≤◌, length, ap, ◌∙◌, arith, rules}
use Rattle.std.proofs.lemmas.List.{length-drop, length-take, take_rest}
use Rattle.byteorder.specs.Endian.{big_number}
use Rattle.perc_tunnel.proofs.Octets.{numbers-length, number_in}
use Rattle.perc_tunnel.proofs.message.ProfileList.at.Goals as goal

pub overflow_mul-i : goal.overflow_mul-i
overflow_mul-i c =
    let list = c.args.self.now in
    let twice = numbers-length list.octets.now list.whole in
    let told = c.told-self in
    search (rules, twice, told)

pub slice_bounds-read_u16-count : goal.slice_bounds-read_u16-count
slice_bounds-read_u16-count c =
    let list = c.args.self.now in
    let twice = numbers-length list.octets.now list.whole in
    omega (arith, twice, c.requires)

pub slice_bounds-read_u16-start : goal.slice_bounds-read_u16-start
slice_bounds-read_u16-start c =
    let list = c.args.self.now in
    let twice = numbers-length list.octets.now list.whole in
    let inside : 2 * c.args.i ≤ length list.octets.now = omega (arith, twice, c.requires) in
    search (rules, inside)

pub read_u16-requires : goal.read_u16-requires
read_u16-requires c =
    let list = c.args.self.now in
    let twice = numbers-length list.octets.now list.whole in
    simp (length-take, length-drop) (omega (arith, twice, c.requires))

pub returns : goal.returns
returns c =
    let octets = c.args.self.now.octets.now in
    c.read_u16.ensures ∙ ap (big_number 2) (take_rest octets (2 * c.args.i)) ∙ number_in octets c.args.i c.requires
