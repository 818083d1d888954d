use Rattle.std.proofs.Common.{◌≡◌, ◌++◌, [], ◌∷◌, length, List, Ok, ℕ, refl, sym, ap, ◌∙◌, subst}
use Rattle.perc_base.specs.Profile.{key_length}
use Rattle.perc_member.specs.declared.member.Member as code_member
use Rattle.perc_member.specs.declared.member.TakenKey.{TakenKey}
use Rattle.perc_report_line.specs.Report.{report_text}
use Rattle.perc_report_line.specs.View.{report_told}
use Rattle.perc_report_line.specs.declared.reasons.Denial.{Denial}
use Rattle.perc_report_line.specs.declared.report.ReportLine.TheVariants as line_of
use Rattle.perc_report_line.specs.declared.report.ReportLine.{ReportLine}
use Rattle.perc_run.specs.Keys.{rekey_turn}
use Rattle.perc_script_line.specs.declared.reason.Reason.TheVariants.{Name}
use Rattle.perc_sent.proofs.Kept.{fresh}
use Rattle.perc_conference_state.specs.declared.conference.Conference as code
use Rattle.perc_conference_state.specs.Mirror.{Does}
use Rattle.perc_conference_state.proofs.Changing.{place_within, placed, writes_by}
use Rattle.perc_conference_state.proofs.Taking.{denies_rekey, profile_of_member, rekey_nobody, rekeys}
use Rattle.perc_conference_state.proofs.Turning.{does_stopped, the_profile, untold}
use Rattle.perc_conference_state.proofs.conference.Conference.rekey.Goals as goal
use Rattle.perc_conference_state.proofs.conference.Conference.rekey.Goals.{in-Ok+in_ok-push-in-Ok, in-Err}

pub returns-in_err-place : goal.returns-in_err-place
returns-in_err-place c = λ s orderly mirrors.
    let none = c.in_err-place.ensures s mirrors in
    does_stopped (rekey_turn s c.args.name c.args.key.now) Name c.from_residual.result c.in_err-place.field-0.0 c.args.text.now.items c.args.text.now.items c.args.self.now
    (rekey_nobody s c.args.name c.args.key.now none.0) c.from_residual.ensures.1 none.1

pub index_mut-member-requires : goal.index_mut-member-requires
index_mut-member-requires c =
    let running = c.requires.running in
    let found = c.in_ok-place.ensures running.0 running.2 in
    place_within c.args.self.now running.0 c.in_ok-place.place found.0 running.2 found.2

pub present_spi-spi-requires : goal.present_spi-spi-requires
present_spi-spi-requires c =
    let running = c.requires.running in
    let a = c.index_mut-member.result.now in
    let found = c.in_ok-place.ensures running.0 running.2 in
    let p = placed c.args.self.now running.0 c.args.name c.in_ok-place.place a running.2 found c.index_mut-member.ensures.value in
    (p.member, p.mirrors)

pub rekey-requires : goal.rekey-requires
rekey-requires c =
    let running = c.requires.running in
    let head = the_profile c.args.self.now.profile (λ p. length c.args.key.now ≡ key_length p) c.requires.key in
    let a = c.index_mut-member.result.now in
    let found = c.in_ok-place.ensures running.0 running.2 in
    let p = placed c.args.self.now running.0 c.args.name c.in_ok-place.place a running.2 found c.index_mut-member.ensures.value in
    let same = profile_of_member c.args.self.now running.0 c.args.name c.in_ok-place.place a head.profile running.1 running.2 head.is p in
    ap length (c.octets.ensures.value ∙ c.of-key.ensures) ∙ head.holds ∙ ap key_length (sym same)

pub returns : goal.returns
returns c = λ s orderly mirrors.
    let key = c.octets.ensures.value ∙ c.of-key.ensures in
    let octets = c.octets.result.now in
    let before = c.args.text.now.items in
    let after = c.write.new.out.items in
    let a = c.index_mut-member.result.now in
    let place = c.in_ok-place.place in
    let p = placed c.args.self.now s c.args.name place a mirrors (c.in_ok-place.ensures s mirrors) c.index_mut-member.ensures.value in
    let answer = c.rekey.ensures.answer p.member.endpoint p.mirrors.endpoint in
    subst (λ (k : List ℕ). Does (rekey_turn s c.args.name k) (Ok untold) before after c.match-rekey.self) key
    (elim c.match-rekey.branch [
      | in-Ok+in_ok-push-in-Ok w ↦ (
          let b : code_member.Member = record a { endpoint = c.rekey.new.self; keys = w.push.new.self } in
          let spi = c.present_spi-spi.result in
          let new = w.new.ensures ∙ ap (λ (k : List ℕ). fresh spi k) (sym c.octets.ensures.value) in
          rekeys c.args.self.now c.match-rekey.self s c.args.name place a b spi w.in-Ok.epoch octets before after orderly mirrors p
          (c.present_spi-spi.ensures p.member p.mirrors) (sym w.in-Ok.is ∙ answer) (c.rekey.ensures.stands p.member.endpoint p.mirrors.endpoint)
          (record {
            name = refl;
            association = refl;
            ssrc = refl;
            client = refl;
            server = refl;
            opening = refl;
            present = refl;
            first = refl;
            sends = refl;
            keys = w.in_ok-push-in-Ok.ensures.items ∙ ap (λ (t : TakenKey). a.keys.items ++ t ∷ []) new;
          })
          (writes_by c.args.self.now c.match-rekey.self _ place b w.self-is
          (record { leaves = record { profile = refl; records = refl; issued = refl; datagrams = refl }; members = refl }))
          (ap (λ (z : code.Conference). z.distributor) w.self-is) (ap (λ (z : code.Conference). z.keys) w.self-is)
          (c.in_ok-write.ensures.ok ∙ ap (λ (l : ReportLine). before ++ report_text (report_told l)) w.line-is))
      | in-Err w ↦ (
          let b : code_member.Member = record a { endpoint = c.rekey.new.self } in
          let same : b ≡ a = ap (λ e. record a { endpoint = e }) w.in-Err.ensures.refused in
          let line = w.line-is ∙ ap (λ (d : Denial). line_of.Denied c.args.name d) w.denial_of.ensures in
          denies_rekey c.args.self.now c.match-rekey.self s c.args.name place a b octets before after w.in-Err.fault mirrors p (sym w.in-Err.is ∙ answer) same
          (writes_by c.args.self.now c.match-rekey.self _ place b w.self-is
          (record { leaves = record { profile = refl; records = refl; issued = refl; datagrams = refl }; members = refl }))
          (ap (λ (z : code.Conference). z.distributor) w.self-is) (ap (λ (z : code.Conference). z.keys) w.self-is)
          (c.in_ok-write.ensures.ok ∙ ap (λ (l : ReportLine). before ++ report_text (report_told l)) line))
    ])
