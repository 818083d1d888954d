use Rattle.std.proofs.Common.{◌∙◌}
use Rattle.perc_member.specs.declared.member.Member as code_member
use Rattle.perc_run.specs.Delivering.{with_receiver}
use Rattle.perc_deliver_line.specs.Hearing.{heard_state}
use Rattle.perc_deliver_line.proofs.Held.{code_at, member_at, mirrors_held, somebody_at, stands_held, with_endpoint}
use Rattle.perc_deliver_line.proofs.Parts.{after, asked_here, decided_err, decided_ok, foreign_told, hears_refused, hears_settled, hears_undecided, taken_here}
use Rattle.perc_deliver_line.proofs.delivering.hear.Goals as goal

pub returns-in-Err : goal.returns-in-Err
returns-in-Err c = λ s m at.
    let a = c.index_mut.result.now in
    let octets = c.args.octets.now in
    let here = member_at c.args.conference.now c.args.place a s m c.requires.place c.index_mut.ensures.value at in
    let held = mirrors_held c.args.conference.now c.args.place a s m (after s m octets) c.reach.new.self here (c.in-Err.ensures.stands m.endpoint here.stands) in
    hears_refused s m octets c.in-Err.fault c.reach.new.datagram c.outer_refusal.result (with_endpoint c.args.conference.now c.args.place a c.reach.new.self)
    (c.in-Err.ensures.answer m.endpoint here.stands) c.outer_refusal.ensures held

pub is_foreign-requires-clause-table : goal.is_foreign-requires-clause-table
is_foreign-requires-clause-table c =
    let some = somebody_at c.args.conference.now c.args.place c.requires.running c.requires.place in
    let s = some.0 in
    let m = some.1 in
    let at = some.2 in
    let a = c.index_mut.result.now in
    let r = after s m c.args.octets.now in
    let here = member_at c.args.conference.now c.args.place a s m c.requires.place c.index_mut.ensures.value at in
    let it = stands_held c.args.conference.now c.args.place a s m r c.reach.new.self here (c.in-Ok.ensures.stands m.endpoint here.stands) in
    (heard_state s m r, c.table.ensures (heard_state s m r) it.orderly it.mirrors)

pub returns-then-is_foreign : goal.returns-then-is_foreign
returns-then-is_foreign c = λ s m at.
    let a = c.index_mut.result.now in
    let octets = c.args.octets.now in
    let next = with_endpoint c.args.conference.now c.args.place a c.reach.new.self in
    let here = member_at c.args.conference.now c.args.place a s m c.requires.place c.index_mut.ensures.value at in
    let it =
    asked_here c.args.conference.now c.args.place a s m octets c.in-Ok.reached c.reach.new.datagram c.reach.new.self c.index.result.now c.ask-inquiry.result
    c.ask-inquiry.new.room here (c.in-Ok.ensures.answer m.endpoint here.stands) (c.in-Ok.ensures.stands m.endpoint here.stands) c.index.ensures
    c.ask-inquiry.ensures.answer in
    let known =
    foreign_told s m c.args.place octets c.in-Ok.reached c.reach.new.datagram next c.ask-inquiry.result c.ask-inquiry.new.room c.table.result c.is_foreign.result it
    c.table.ensures c.is_foreign.ensures in
    known ∙ c.if-is_foreign.true

pub settle-requires-clause-running : goal.settle-requires-clause-running
settle-requires-clause-running c =
    let some = somebody_at c.args.conference.now c.args.place c.requires.running c.requires.place in
    let s = some.0 in
    let m = some.1 in
    let at = some.2 in
    let a = c.index_mut.result.now in
    let r = after s m c.args.octets.now in
    let here = member_at c.args.conference.now c.args.place a s m c.requires.place c.index_mut.ensures.value at in
    let it = stands_held c.args.conference.now c.args.place a s m r c.reach.new.self here (c.in-Ok.ensures.stands m.endpoint here.stands) in
    (heard_state s m r, it.orderly, it.mirrors)

pub settle-requires-clause-taken : goal.settle-requires-clause-taken
settle-requires-clause-taken c = λ y there.
    let a = c.index_mut.result.now in
    let b : code_member.Member = record a { endpoint = c.reach.new.self } in
    taken_here c.args.conference.now.members.items c.args.place a b c.index.result.now y c.reach.new.datagram c.in-Ok.reached c.ask-inquiry.result.decision
    c.in-Ok-decision.decided c.ask-inquiry.new.room (code_at c.args.conference.now c.args.place a c.requires.place c.index_mut.ensures.value) c.index.ensures there
    c.in-Ok-decision.is c.ask-inquiry.ensures.taken

pub returns-in-Ok-decision : goal.returns-in-Ok-decision
returns-in-Ok-decision c = λ s m at.
    let a = c.index_mut.result.now in
    let octets = c.args.octets.now in
    let next = with_endpoint c.args.conference.now c.args.place a c.reach.new.self in
    let here = member_at c.args.conference.now c.args.place a s m c.requires.place c.index_mut.ensures.value at in
    let it =
    asked_here c.args.conference.now c.args.place a s m octets c.in-Ok.reached c.reach.new.datagram c.reach.new.self c.index.result.now c.ask-inquiry.result
    c.ask-inquiry.new.room here (c.in-Ok.ensures.answer m.endpoint here.stands) (c.in-Ok.ensures.stands m.endpoint here.stands) c.index.ensures
    c.ask-inquiry.ensures.answer in
    let known =
    foreign_told s m c.args.place octets c.in-Ok.reached c.reach.new.datagram next c.ask-inquiry.result c.ask-inquiry.new.room c.table.result c.is_foreign.result it
    c.table.ensures c.is_foreign.ensures in
    let t =
    decided_ok s m c.args.place octets c.in-Ok.reached c.reach.new.datagram next c.ask-inquiry.result c.ask-inquiry.new.room c.in-Ok-decision.decided it
    c.in-Ok-decision.is in
    let r = after s m octets in
    hears_settled s m octets it.datagram t.0 c.settle.result c.settle.new.conference it.reach t.1 (known ∙ c.if-is_foreign.false)
    (c.settle.ensures (heard_state s m r) (with_receiver r m) it.datagram t.0 it.at it.is t.2)

pub returns-in-Err-decision : goal.returns-in-Err-decision
returns-in-Err-decision c = λ s m at.
    let a = c.index_mut.result.now in
    let octets = c.args.octets.now in
    let next = with_endpoint c.args.conference.now c.args.place a c.reach.new.self in
    let here = member_at c.args.conference.now c.args.place a s m c.requires.place c.index_mut.ensures.value at in
    let it =
    asked_here c.args.conference.now c.args.place a s m octets c.in-Ok.reached c.reach.new.datagram c.reach.new.self c.index.result.now c.ask-inquiry.result
    c.ask-inquiry.new.room here (c.in-Ok.ensures.answer m.endpoint here.stands) (c.in-Ok.ensures.stands m.endpoint here.stands) c.index.ensures
    c.ask-inquiry.ensures.answer in
    let known =
    foreign_told s m c.args.place octets c.in-Ok.reached c.reach.new.datagram next c.ask-inquiry.result c.ask-inquiry.new.room c.table.result c.is_foreign.result it
    c.table.ensures c.is_foreign.ensures in
    let none =
    decided_err s m c.args.place octets c.in-Ok.reached c.reach.new.datagram next c.ask-inquiry.result c.ask-inquiry.new.room c.in-Err-decision.refusal it
    c.in-Err-decision.is in
    hears_undecided s m octets it.datagram c.in-Err-decision.refusal c.media_refusal.result next it.reach none (known ∙ c.if-is_foreign.false) c.media_refusal.ensures
    it.at.mirrors
