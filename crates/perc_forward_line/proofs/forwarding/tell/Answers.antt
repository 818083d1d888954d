use Rattle.std.proofs.Common.{map, refl}
use Rattle.perc_distributor.specs.Kept.{sent_of}
use Rattle.perc_ohb.specs.Rewriting.{rewrite_of}
use Rattle.perc_forward_line.specs.declared.outputs.Telling.{Telling}
use Rattle.perc_forward_line.proofs.Forwarded.{is_telling, tells_all}
use Rattle.perc_forward_line.proofs.forwarding.tell.Goals as goal

pub returns : goal.returns
returns c = λ s taken sealed.
    let old = c.args.conference.now in
    let telling = is_telling _ old s taken sealed c.deref.ensures.value refl in
    tells_all s taken (rewrite_of c.args.change.now) old (record old { datagrams = c.takings.new.datagrams }) c.takings.result c.args.text.now.items c.takings.new.text.items sealed
    (record { profile = refl; records = refl; issued = refl; members = refl; keys = refl }) refl (c.takings.ensures s.members taken (map sent_of old.distributor.outputs) s.datagrams telling)
