use Rattle.std.proofs.Common.{◌≡◌, ◌+◌, ◌∷◌, ◌++◌, [], length, ap, subst, sym, ◌∙◌, List, ℕ, arith}
use Rattle.perc_member.specs.declared.datagram.Datagram.{Datagram}
use Rattle.perc_conference_state.specs.declared.conference.Told.{Told}
use Rattle.perc_forward_line.specs.Telling.{IsReported}
use Rattle.perc_report_line.specs.Report.{WireDown}
use Rattle.perc_forward_line.proofs.Reporting.{wire_told}
use Rattle.perc_forward_line.proofs.outputs.wire_down.Goals as goal

pub returns : goal.returns
returns c = λ d made mirrors all.
    let number : c.len.result + 1 ≡ length c.args.datagrams.now.items + 1 = omega arith in
    subst (λ (has : List Datagram). IsReported (WireDown (length made + 1) c.args.name d.octets ∷ [], made ++ d ∷ []) (record { datagrams = 1; accepted = 0; refused = 0 }) c.args.text.now.items c.write.new.out.items has)
    (sym c.in_ok-push.ensures.items)
    (wire_told c.args.name c.of.result (c.len.result + 1) d made c.args.datagram c.args.datagrams.now.items c.args.text.now.items c.write.new.out.items mirrors all number (c.of.ensures ∙ c.deref.ensures.value) c.in_ok-write.ensures.ok)
