use Rattle.std.proofs.Common.{◌≡◌, ◌++◌, ℕ, List, Ok, refl, ap, ◌∙◌, subst}
use Rattle.perc_conference_state.specs.declared.conference.Told.{Told}
use Rattle.perc_incoming.specs.Control.{outcome_rtcp}
use Rattle.perc_report_line.specs.Report.{Refuse, Rtcp, report_text}
use Rattle.perc_report_line.specs.declared.reasons.Refusal.{Refusal}
use Rattle.perc_deliver_line.specs.Hearing.{Reports}
use Rattle.perc_deliver_line.proofs.Held.{member_at, mirrors_held, with_endpoint}
use Rattle.perc_deliver_line.proofs.Turning.{control_accepted, control_denied}
use Rattle.perc_deliver_line.proofs.delivering.deliver_control.Goals as goal

pub returns-in_ok-write-in-Ok : goal.returns-in_ok-write-in-Ok
returns-in_ok-write-in-Ok c = λ s m at name.
    let d = c.args.delivery.now in
    let a = c.index_mut.result.now in
    let here = member_at c.args.conference.now c.args.place a s m c.requires.place c.index_mut.ensures.value at in
    let opened = outcome_rtcp m.endpoint.receiving c.args.octets.now in
    let held = mirrors_held c.args.conference.now c.args.place a s m opened.1 c.receive_rtcp.new.self here (c.in-Ok.ensures.stands m.endpoint here.stands) in
    let told : Told = record { datagrams = 0; accepted = 0; refused = 0 } in
    let text : c.write.new.out.items ≡ c.args.text.now.items ++ report_text (Rtcp d.datagram d.name c.in-Ok.plain.now) =
    c.in_ok-write-in-Ok.ensures.ok ∙ ap (λ (l : List ℕ). c.args.text.now.items ++ report_text (Rtcp d.datagram d.name l)) c.of.ensures in
    control_accepted s m d c.args.octets.now (with_endpoint c.args.conference.now c.args.place a c.receive_rtcp.new.self) c.in-Ok.plain (Ok told) c.args.text.now.items
    c.write.new.out.items (c.in-Ok.ensures.answer m.endpoint here.stands) name (refl, text) held

pub returns-in-Err : goal.returns-in-Err
returns-in-Err c = λ s m at name.
    let d = c.args.delivery.now in
    let a = c.index_mut.result.now in
    let here = member_at c.args.conference.now c.args.place a s m c.requires.place c.index_mut.ensures.value at in
    let opened = outcome_rtcp m.endpoint.receiving c.args.octets.now in
    let held = mirrors_held c.args.conference.now c.args.place a s m opened.1 c.receive_rtcp.new.self here (c.in-Err.ensures.stands m.endpoint here.stands) in
    let reports =
    subst (λ (why : Refusal). Reports (Refuse d.datagram d.name why) c.refuse.result c.args.text.now.items c.refuse.new.text.items) c.control_refusal.ensures
    c.refuse.ensures in
    control_denied s m d c.args.octets.now (with_endpoint c.args.conference.now c.args.place a c.receive_rtcp.new.self) c.in-Err.fault c.refuse.result
    c.args.text.now.items c.refuse.new.text.items (c.in-Err.ensures.answer m.endpoint here.stands) name reports held
