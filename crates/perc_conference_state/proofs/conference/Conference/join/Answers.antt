use Rattle.std.proofs.Common.{◌≡◌, ◌-◌, length, Some, None, sym, ◌∙◌, subst}
use Rattle.std.proofs.lemmas.List.Elements.{All-contains}
use Rattle.perc_base.specs.Profile.{key_length}
use Rattle.perc_ekt.specs.Record.{IsRecord}
use Rattle.perc_ekt.specs.declared.record.EktKeyRecord.{EktKeyRecord}
use Rattle.perc_receiver.specs.Table.{secret_in}
use Rattle.perc_run.specs.Joining.{newest}
use Rattle.perc_run.specs.State.{Turn}
use Rattle.perc_script_line.specs.declared.reason.Reason.TheVariants.{Order}
use Rattle.perc_sent.proofs.Finding.{contains_at}
use Rattle.perc_conference_state.specs.Mirror.{Does}
use Rattle.perc_conference_state.specs.Steps.{join_as}
use Rattle.perc_conference_state.proofs.Entering.{join_early, join_goes, join_refused, last_read, newest_is}
use Rattle.perc_conference_state.proofs.Issued.{records_under}
use Rattle.perc_conference_state.proofs.Turning.{does_refused}
use Rattle.perc_conference_state.proofs.conference.Conference.join.Goals as goal

pub returns-in_default : goal.returns-in_default
returns-in_default c = λ s orderly mirrors.
    let records = c.args.self.now.records.items in
    let last = last_read c.deref.result.now records c.copied.result None c.deref.ensures.value (c.copied.ensures ∙ c.last.ensures.value) c.in_default.is in
    let none = newest_is c.args.profile records s.secrets None (records_under c.args.self.now s c.args.profile mirrors c.requires.profile) last in
    does_refused (join_as s c.args.profile c.args.newcomer.now (newest s.secrets)) Order c.args.text.now.items c.args.text.now.items _
    (join_early s c.args.profile c.args.newcomer.now (newest s.secrets) none)

pub returns-in-Some-join_fault : goal.returns-in-Some-join_fault
returns-in-Some-join_fault c = λ s orderly mirrors.
    let records = c.args.self.now.records.items in
    let is = Some c.in-Some.newest in
    let last = last_read c.deref.result.now records c.copied.result is c.deref.ensures.value (c.copied.ensures ∙ c.last.ensures.value) c.in-Some.is in
    let found = newest_is c.args.profile records s.secrets is (records_under c.args.self.now s c.args.profile mirrors c.requires.profile) last in
    does_refused (join_as s c.args.profile c.args.newcomer.now (newest s.secrets)) c.in-Some-join_fault.reason c.args.text.now.items c.args.text.now.items _
    (join_refused s c.args.profile c.args.newcomer.now (newest s.secrets) (secret_in c.in-Some.newest) c.in-Some-join_fault.reason found
    (sym (c.join_fault.ensures s mirrors) ∙ c.in-Some-join_fault.is))

pub let_in-requires-clause-newest : goal.let_in-requires-clause-newest
let_in-requires-clause-newest c =
    let running = c.requires.running in
    let records = c.args.self.now.records.items in
    let newest = c.in-Some.newest in
    let last = last_read c.deref.result.now records c.copied.result (Some newest) c.deref.ensures.value (c.copied.ensures ∙ c.last.ensures.value) c.in-Some.is in
    let there = contains_at records (length records - 1) newest last in
    let all = records_under c.args.self.now running.0 c.args.profile running.2 c.requires.profile in
    record {
      right = All-contains IsRecord records newest all.right there;
      key = All-contains (λ (r : EktKeyRecord). r.len ≡ key_length c.args.profile) records newest all.size there;
    }

pub let_in-requires-clause-last : goal.let_in-requires-clause-last
let_in-requires-clause-last c =
    let records = c.args.self.now.records.items in
    last_read c.deref.result.now records c.copied.result (Some c.in-Some.newest) c.deref.ensures.value (c.copied.ensures ∙ c.last.ensures.value) c.in-Some.is

pub let_in-requires-clause-free : goal.let_in-requires-clause-free
let_in-requires-clause-free c = λ s mirrors. sym (c.join_fault.ensures s mirrors) ∙ c.in_default-join_fault.is

pub returns : goal.returns
returns c = λ s orderly mirrors.
    let records = c.args.self.now.records.items in
    let is = Some c.in-Some.newest in
    let last = last_read c.deref.result.now records c.copied.result is c.deref.ensures.value (c.copied.ensures ∙ c.last.ensures.value) c.in-Some.is in
    let found = newest_is c.args.profile records s.secrets is (records_under c.args.self.now s c.args.profile mirrors c.requires.profile) last in
    let none = sym (c.join_fault.ensures s mirrors) ∙ c.in_default-join_fault.is in
    let goes = join_goes s c.args.profile c.args.newcomer.now (newest s.secrets) (secret_in c.in-Some.newest) found none in
    subst (λ (t : Turn). Does t c.let_in.result c.args.text.now.items c.let_in.new.text.items c.let_in.new.self) (sym goes) (c.let_in.ensures s orderly mirrors found none)
