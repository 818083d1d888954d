use Rattle.std.proofs.Common.{◌≡◌, ◌≤◌, ◌<◌, length, true, false, refl, sym, ap, ◌∙◌, subst, arith}
use Rattle.perc_base.specs.Profile.{key_length}
use Rattle.perc_ekt.specs.Key.{stored}
use Rattle.perc_key_service.specs.Service.{MayIssue}
use Rattle.perc_run.specs.Keys.{ekt_turn}
use Rattle.perc_script_line.specs.declared.reason.Reason.TheVariants.{Key, Limit}
use Rattle.perc_conference_state.proofs.Issued.{issues, may_issue, serves, spi_count, test_is}
use Rattle.perc_conference_state.proofs.Issuing.{ekt_full, ekt_used}
use Rattle.perc_conference_state.proofs.Served.{lent_is, service_of}
use Rattle.perc_conference_state.proofs.Turning.{does_refused, the_profile}
use Rattle.perc_conference_state.proofs.conference.Conference.ekt.Goals as goal

pub returns-then-contains_key : goal.returns-then-contains_key
returns-then-contains_key c = λ s orderly mirrors.
    let key = c.args.key.now in
    let salt = c.args.salt.now in
    let head = the_profile c.args.self.now.profile (λ p. length key ≡ key_length p) c.requires.key in
    let octets = c.padded.ensures.octets ∙ ap stored c.of-key.ensures in
    let used = test_is c.args.self.now s head.profile key c.padded.result.0.now true mirrors head.is head.holds octets c.if-contains_key.ensures in
    does_refused (ekt_turn s key salt) Key c.args.text.now.items c.args.text.now.items _ (ekt_used s key salt used)

pub returns-then-len-ge-MOST_SPIS : goal.returns-then-len-ge-MOST_SPIS
returns-then-len-ge-MOST_SPIS c = λ s orderly mirrors.
    let key = c.args.key.now in
    let salt = c.args.salt.now in
    let head = the_profile c.args.self.now.profile (λ p. length key ≡ key_length p) c.requires.key in
    let octets = c.padded.ensures.octets ∙ ap stored c.of-key.ensures in
    let unused = test_is c.args.self.now s head.profile key c.padded.result.0.now false mirrors head.is head.holds octets c.if-contains_key.ensures in
    let full : 65535 ≤ length s.secrets = omega (arith, spi_count c.args.self.now s head.profile mirrors head.is) in
    does_refused (ekt_turn s key salt) Limit c.args.text.now.items c.args.text.now.items _ (ekt_full s key salt unused full)

pub issue-requires : goal.issue-requires
issue-requires c =
    let running = c.requires.running in
    let code = c.args.self.now in
    let s = running.0 in
    let key = c.args.key.now in
    let k = c.unwrap-keys.result.now in
    let head = the_profile code.profile (λ p. length key ≡ key_length p) c.requires.key in
    let octets = c.padded.ensures.octets ∙ ap stored c.of-key.ensures in
    let unused = test_is code s head.profile key c.padded.result.0.now false running.2 head.is head.holds octets c.if-contains_key.ensures in
    let room : length s.secrets < 65535 = omega (arith, spi_count code s head.profile running.2 head.is) in
    let service = service_of code s head.profile k running.2 head.is (lent_is code.keys c.as_mut.result c.unwrap-keys.result c.as_mut.ensures.value c.unwrap-keys.ensures) in
    let read = c.octets.ensures.value ∙ c.of-key.ensures in
    record { may = subst (MayIssue k) (sym read) (may_issue code s head.profile k key running.2 head.is service head.holds unused room) }

pub returns : goal.returns
returns c = λ s orderly mirrors.
    let code = c.args.self.now in
    let key = c.args.key.now in
    let salt = c.args.salt.now in
    let k = c.unwrap-keys.result.now in
    let head = the_profile code.profile (λ p. length key ≡ key_length p) c.requires.key in
    let octets = c.padded.ensures.octets ∙ ap stored c.of-key.ensures in
    let unused = test_is code s head.profile key c.padded.result.0.now false mirrors head.is head.holds octets c.if-contains_key.ensures in
    let room : length s.secrets < 65535 = omega (arith, spi_count code s head.profile mirrors head.is) in
    let service = service_of code s head.profile k mirrors head.is (lent_is code.keys c.as_mut.result c.unwrap-keys.result c.as_mut.ensures.value c.unwrap-keys.ensures) in
    let issued = c.in_ok-issued.issued in
    let answers = serves k c.issue.new.self issued key salt c.octets.result.now c.salt_of.result c.in_ok-issued.ensures.answer c.in_ok-issued.ensures.issued
    (c.octets.ensures.value ∙ c.of-key.ensures) c.salt_of.ensures in
    issues code _ s head.profile k c.issue.new.self issued c.padded.result.0.now key salt c.args.text.now.items c.write.new.out.items mirrors head.is service head.holds
    c.requires.salt unused room answers octets
    (record {
      profile = refl;
      records = c.in_ok-push.ensures.items;
      issued = c.in_ok-insert.ensures.updates;
      members = refl;
      distributor = refl;
      keys = refl;
      datagrams = refl;
    })
    c.in_ok-write.ensures.ok
