use Rattle.std.proofs.Common.{List, refl, subst, sym}
use Rattle.std.proofs.lemmas.Result.{on_ok_weaker}
use Rattle.perc_member.specs.Each.{MirrorEach, MirrorsDatagram}
use Rattle.perc_member.specs.declared.datagram.Datagram.{Datagram}
use Rattle.perc_forward_line.proofs.Forwarded.{takes_all_of}
use Rattle.perc_forward_line.proofs.forwarding.take_all.Goals as goal

pub returns : goal.returns
returns c = λ s mirrors there.
    let all = subst (λ (ds : List Datagram). MirrorEach MirrorsDatagram ds s.datagrams) (sym c.deref.ensures.value) mirrors.datagrams in
    on_ok_weaker c.take_each.result (λ h. takes_all_of c.args.conference.now (record c.args.conference.now { distributor = c.take_each.new.distributor }) s c.args.from.now c.args.numbers.now mirrors
    (record { profile = refl; records = refl; issued = refl; members = refl; keys = refl }) refl h) (c.take_each.ensures s mirrors.distributor all there)
