use Rattle.std.proofs.Common.{sym, ◌∙◌}
use Rattle.perc_distributor.proofs.Entries.{entry_in}
use Rattle.perc_distributor.proofs.HearingLaws.{taken_none, taken_of_entry, taken_stranger}
use Rattle.perc_distributor.proofs.inbound.Inbound.take.Goals as goal

pub returns-in_default-clause-taken : goal.returns-in_default-clause-taken
returns-in_default-clause-taken c = taken_none c.args.set.now c.args.self.now c.args.from.now c.args.datagram.now c.args.out.now (sym c.is_control.ensures ∙ c.in_default.is)

pub returns-in_default-entry_of-clause-taken : goal.returns-in_default-entry_of-clause-taken
returns-in_default-entry_of-clause-taken c =
    taken_stranger c.args.set.now c.args.self.now c.args.from.now c.args.datagram.now c.in-Some.rtcp c.args.out.now (sym c.is_control.ensures ∙ c.in-Some.is)
    (sym c.in_default-entry_of.ensures.entry)

pub take_from-requires-clause-member : goal.take_from-requires-clause-member
take_from-requires-clause-member c = entry_in c.args.set.now c.args.from.now c.in-Some-entry_of.entry.now (sym c.in-Some-entry_of.ensures.entry)

pub returns-clause-taken : goal.returns-clause-taken
returns-clause-taken c =
    taken_of_entry c.args.set.now c.args.self.now c.take_from.new.self c.args.from.now c.args.datagram.now c.in-Some.rtcp c.in-Some-entry_of.entry.now c.take_from.result c.take_from.new.out
    (sym c.is_control.ensures ∙ c.in-Some.is) (sym c.in-Some-entry_of.ensures.entry) c.take_from.ensures.taken
