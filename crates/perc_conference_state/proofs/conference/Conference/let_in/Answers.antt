use Rattle.std.proofs.Common.{◌≡◌, ◌+◌, length, refl, sym, ap, ◌∙◌, subst, arith}
use Rattle.byteorder.specs.Endian.{big_bytes}
use Rattle.perc_base.specs.Profile.{key_length}
use Rattle.perc_ekt.specs.Record.{IsRecord}
use Rattle.perc_key_service.specs.declared.service.Joined.{Joined}
use Rattle.perc_member.specs.Making.{IsNewcomer, StartsAs}
use Rattle.perc_member.specs.declared.member.Newcomer.{Newcomer}
use Rattle.perc_receiver.specs.Table.{secret_in}
use Rattle.perc_run.specs.Joining.{joined}
use Rattle.perc_conference_state.specs.Steps.{newcomer_as, welcomed}
use Rattle.perc_conference_state.proofs.Entering.{Asks, ComesBack, lets_in, may_join}
use Rattle.perc_conference_state.proofs.Served.{lent_is}
use Rattle.perc_conference_state.proofs.Turning.{out_of_memory}
use Rattle.perc_conference_state.proofs.conference.Conference.let_in.Goals as goal

pub join-requires : goal.join-requires
join-requires c =
    let running = c.requires.running in
    let code = c.args.self.now in
    let s = running.0 in
    let n = c.args.newcomer.now in
    let granted = c.args.newest.now in
    let k = c.unwrap-service.result.now in
    let count : c.len-serial.result ≡ length s.members = omega (arith, running.2.members.count, code.members.ok.0) in
    let number : c.from.result + 1 ≡ length s.members + 1 = omega (arith, count, c.from.ensures) in
    let association : c.to_be_bytes-association.result ≡ big_bytes 16 (length s.members + 1) = c.to_be_bytes-association.ensures ∙ ap (big_bytes 16) number in
    let asks : Asks code c.args.profile n granted k = record {
      head = c.requires.profile;
      keys = lent_is code.keys c.as_mut.result c.unwrap-service.result c.as_mut.ensures.value c.unwrap-service.ensures;
      newcomer = c.requires.newcomer;
      newest_is = c.requires.newest;
      last = c.requires.last;
    } in
    record { may = (granted, may_join code s c.args.profile n granted k c.to_be_bytes-association.result running.1 running.2 asks (c.requires.free s running.2) association) }

pub start-requires-clause-newcomer : goal.start-requires-clause-newcomer
start-requires-clause-newcomer c =
    let running = c.requires.running in
    let code = c.args.self.now in
    let s = running.0 in
    let n = c.args.newcomer.now in
    let granted = c.args.newest.now in
    let k = c.unwrap-service.result.now in
    let count : c.len-serial.result ≡ length s.members = omega (arith, running.2.members.count, code.members.ok.0) in
    let number : c.from.result + 1 ≡ length s.members + 1 = omega (arith, count, c.from.ensures) in
    let association : c.to_be_bytes-association.result ≡ big_bytes 16 (length s.members + 1) = c.to_be_bytes-association.ensures ∙ ap (big_bytes 16) number in
    let asks : Asks code c.args.profile n granted k = record {
      head = c.requires.profile;
      keys = lent_is code.keys c.as_mut.result c.unwrap-service.result c.as_mut.ensures.value c.unwrap-service.ensures;
      newcomer = c.requires.newcomer;
      newest_is = c.requires.newest;
      last = c.requires.last;
    } in
    let may = may_join code s c.args.profile n granted k c.to_be_bytes-association.result running.1 running.2 asks (c.requires.free s running.2) association in
    subst (IsNewcomer c.args.profile) (sym c.welcomed.ensures)
    (subst (λ (j : Joined). IsNewcomer c.args.profile (welcomed n j)) (sym (c.in_ok-joined.ensures.answer granted may)) c.requires.newcomer)

pub start-requires-clause-right : goal.start-requires-clause-right
start-requires-clause-right c =
    let running = c.requires.running in
    let code = c.args.self.now in
    let s = running.0 in
    let n = c.args.newcomer.now in
    let granted = c.args.newest.now in
    let k = c.unwrap-service.result.now in
    let count : c.len-serial.result ≡ length s.members = omega (arith, running.2.members.count, code.members.ok.0) in
    let number : c.from.result + 1 ≡ length s.members + 1 = omega (arith, count, c.from.ensures) in
    let association : c.to_be_bytes-association.result ≡ big_bytes 16 (length s.members + 1) = c.to_be_bytes-association.ensures ∙ ap (big_bytes 16) number in
    let asks : Asks code c.args.profile n granted k = record {
      head = c.requires.profile;
      keys = lent_is code.keys c.as_mut.result c.unwrap-service.result c.as_mut.ensures.value c.unwrap-service.ensures;
      newcomer = c.requires.newcomer;
      newest_is = c.requires.newest;
      last = c.requires.last;
    } in
    let may = may_join code s c.args.profile n granted k c.to_be_bytes-association.result running.1 running.2 asks (c.requires.free s running.2) association in
    subst (λ (j : Joined). IsRecord j.granted) (sym (c.in_ok-joined.ensures.answer granted may)) c.requires.newest.right

pub start-requires-clause-ekt_key : goal.start-requires-clause-ekt_key
start-requires-clause-ekt_key c =
    let running = c.requires.running in
    let code = c.args.self.now in
    let s = running.0 in
    let n = c.args.newcomer.now in
    let granted = c.args.newest.now in
    let k = c.unwrap-service.result.now in
    let count : c.len-serial.result ≡ length s.members = omega (arith, running.2.members.count, code.members.ok.0) in
    let number : c.from.result + 1 ≡ length s.members + 1 = omega (arith, count, c.from.ensures) in
    let association : c.to_be_bytes-association.result ≡ big_bytes 16 (length s.members + 1) = c.to_be_bytes-association.ensures ∙ ap (big_bytes 16) number in
    let asks : Asks code c.args.profile n granted k = record {
      head = c.requires.profile;
      keys = lent_is code.keys c.as_mut.result c.unwrap-service.result c.as_mut.ensures.value c.unwrap-service.ensures;
      newcomer = c.requires.newcomer;
      newest_is = c.requires.newest;
      last = c.requires.last;
    } in
    let may = may_join code s c.args.profile n granted k c.to_be_bytes-association.result running.1 running.2 asks (c.requires.free s running.2) association in
    subst (λ (j : Joined). j.granted.len ≡ key_length c.args.profile) (sym (c.in_ok-joined.ensures.answer granted may)) c.requires.newest.key

pub returns-in_err-push : goal.returns-in_err-push
returns-in_err-push c = λ s orderly mirrors newest none.
    out_of_memory (joined s (newcomer_as s c.args.profile c.args.newcomer.now (secret_in c.args.newest.now))) c.from_residual-in_err-push.result c.args.text.now.items
    c.args.text.now.items _ c.from_residual-in_err-push.ensures.1

pub returns : goal.returns
returns c = λ s orderly mirrors newest none.
    let code = c.args.self.now in
    let n = c.args.newcomer.now in
    let granted = c.args.newest.now in
    let k = c.unwrap-service.result.now in
    let number_read = c.to_be_bytes-association.result in
    let count : c.len-serial.result ≡ length s.members = omega (arith, mirrors.members.count, code.members.ok.0) in
    let number : c.from.result + 1 ≡ length s.members + 1 = omega (arith, count, c.from.ensures) in
    let association : number_read ≡ big_bytes 16 (length s.members + 1) = c.to_be_bytes-association.ensures ∙ ap (big_bytes 16) number in
    let asks : Asks code c.args.profile n granted k = record {
      head = c.requires.profile;
      keys = lent_is code.keys c.as_mut.result c.unwrap-service.result c.as_mut.ensures.value c.unwrap-service.ensures;
      newcomer = c.requires.newcomer;
      newest_is = c.requires.newest;
      last = c.requires.last;
    } in
    let may = may_join code s c.args.profile n granted k number_read orderly mirrors asks none association in
    let j = c.in_ok-joined.joined in
    let back : ComesBack k c.join.new.self n granted number_read j = record { answer = c.in_ok-joined.ensures.answer granted may; behind = c.in_ok-joined.ensures.joined } in
    lets_in code _ s c.args.profile n granted k c.join.new.self j c.in_ok-member.member number_read
    c.len-serial.result c.args.text.now.items c.write.new.out.items orderly mirrors asks none count association back
    (record {
      starts = subst (λ (x : Newcomer). StartsAs c.args.profile x number_read (secret_in j.granted) c.in_ok-member.member) c.welcomed.ensures c.in_ok-member.ensures;
      leaves = record { profile = refl; records = refl; issued = refl; datagrams = refl };
      keys = refl;
      members = c.in_ok-push.ensures.items;
    })
    (c.absorb.ensures s mirrors.distributor) c.in_ok-write.ensures.ok
