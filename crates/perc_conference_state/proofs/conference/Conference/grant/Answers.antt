use Rattle.std.proofs.Common.{◌≡◌, ◌++◌, [], ◌∷◌, length, List, Ok, ℕ, refl, sym, ap, ◌∙◌, subst}
use Rattle.std.proofs.lemmas.List.Elements.{All-contains}
use Rattle.perc_base.specs.Profile.{key_length}
use Rattle.perc_ekt.specs.Record.{IsRecord}
use Rattle.perc_ekt.specs.declared.record.EktKeyRecord.{EktKeyRecord}
use Rattle.perc_endpoint.specs.Endpoint.{grant_answer}
use Rattle.perc_endpoint.specs.Kept.{IsGranted}
use Rattle.perc_member.specs.declared.member.Member as code_member
use Rattle.perc_member.specs.declared.member.TakenKey.{TakenKey}
use Rattle.perc_receiver.specs.Table.{secret_in}
use Rattle.perc_report_line.specs.Report.{report_text}
use Rattle.perc_report_line.specs.View.{report_told}
use Rattle.perc_report_line.specs.declared.reasons.Denial.{Denial}
use Rattle.perc_report_line.specs.declared.report.ReportLine.TheVariants as line_of
use Rattle.perc_report_line.specs.declared.report.ReportLine.{ReportLine}
use Rattle.perc_run.specs.Keys.{grant_turn}
use Rattle.perc_script_line.specs.declared.reason.Reason.TheVariants.{Name}
use Rattle.perc_sent.proofs.Kept.{fresh}
use Rattle.perc_conference_state.specs.declared.conference.Conference as code
use Rattle.perc_conference_state.specs.Mirror.{Does}
use Rattle.perc_conference_state.proofs.Changing.{place_within, placed, writes_by}
use Rattle.perc_conference_state.proofs.Issued.{records_under}
use Rattle.perc_conference_state.proofs.Taking.{denies_grant, grant_nobody, grant_unknown, grants, profile_of_member}
use Rattle.perc_conference_state.proofs.Turning.{does_stopped, the_profile, untold}
use Rattle.perc_conference_state.proofs.conference.Conference.grant.Goals as goal
use Rattle.perc_conference_state.proofs.conference.Conference.grant.Goals.{in-Ok+in_ok-push-in-Ok, in-Err}

pub returns-in_err-place : goal.returns-in_err-place
returns-in_err-place c = λ s orderly mirrors.
    let none = c.in_err-place.ensures s mirrors in
    does_stopped (grant_turn s c.args.name c.args.spi c.args.key.now) Name c.from_residual.result c.in_err-place.field-0.0 c.args.text.now.items c.args.text.now.items
    c.args.self.now (grant_nobody s c.args.name c.args.spi c.args.key.now none.0) c.from_residual.ensures.1 none.1

pub returns-in_err-granted : goal.returns-in_err-granted
returns-in_err-granted c = λ s orderly mirrors.
    let found = c.in_ok-place.ensures s mirrors in
    let none = c.in_err-granted.ensures.secret s orderly mirrors in
    does_stopped (grant_turn s c.args.name c.args.spi c.args.key.now) Name c.from_residual-in_err-granted.result c.in_err-granted.field-0.0 c.args.text.now.items
    c.args.text.now.items c.args.self.now (grant_unknown s c.args.name c.args.spi c.args.key.now found.0 found.1 none.0) c.from_residual-in_err-granted.ensures.1 none.1

pub index_mut-member-requires : goal.index_mut-member-requires
index_mut-member-requires c =
    let running = c.requires.running in
    let found = c.in_ok-place.ensures running.0 running.2 in
    place_within c.args.self.now running.0 c.in_ok-place.place found.0 running.2 found.2

pub take_ekt-requires-clause-right : goal.take_ekt-requires-clause-right
take_ekt-requires-clause-right c =
    let running = c.requires.running in
    let head = the_profile c.args.self.now.profile (λ p. length c.args.key.now ≡ key_length p) c.requires.key in
    let records = records_under c.args.self.now running.0 head.profile running.2 head.is in
    All-contains IsRecord c.args.self.now.records.items c.in_ok-granted.granted records.right c.in_ok-granted.ensures.there

pub take_ekt-requires-clause-ekt_key : goal.take_ekt-requires-clause-ekt_key
take_ekt-requires-clause-ekt_key c =
    let running = c.requires.running in
    let head = the_profile c.args.self.now.profile (λ p. length c.args.key.now ≡ key_length p) c.requires.key in
    let a = c.index_mut-member.result.now in
    let found = c.in_ok-place.ensures running.0 running.2 in
    let p = placed c.args.self.now running.0 c.args.name c.in_ok-place.place a running.2 found c.index_mut-member.ensures.value in
    let same = profile_of_member c.args.self.now running.0 c.args.name c.in_ok-place.place a head.profile running.1 running.2 head.is p in
    let records = records_under c.args.self.now running.0 head.profile running.2 head.is in
    let fits = λ (r : EktKeyRecord). r.len ≡ key_length head.profile in
    All-contains fits c.args.self.now.records.items c.in_ok-granted.granted records.size c.in_ok-granted.ensures.there ∙ ap key_length (sym same)

pub take_ekt-requires-clause-key : goal.take_ekt-requires-clause-key
take_ekt-requires-clause-key c =
    let running = c.requires.running in
    let head = the_profile c.args.self.now.profile (λ p. length c.args.key.now ≡ key_length p) c.requires.key in
    let a = c.index_mut-member.result.now in
    let found = c.in_ok-place.ensures running.0 running.2 in
    let p = placed c.args.self.now running.0 c.args.name c.in_ok-place.place a running.2 found c.index_mut-member.ensures.value in
    let same = profile_of_member c.args.self.now running.0 c.args.name c.in_ok-place.place a head.profile running.1 running.2 head.is p in
    ap length (c.octets.ensures.value ∙ c.of-key.ensures) ∙ head.holds ∙ ap key_length (sym same)

pub returns : goal.returns
returns c = λ s orderly mirrors.
    let key = c.octets.ensures.value ∙ c.of-key.ensures in
    let octets = c.octets.result.now in
    let before = c.args.text.now.items in
    let after = c.write.new.out.items in
    let secret = secret_in c.in_ok-granted.granted in
    let issued = c.in_ok-granted.ensures.secret s orderly mirrors in
    let a = c.index_mut-member.result.now in
    let place = c.in_ok-place.place in
    let p = placed c.args.self.now s c.args.name place a mirrors (c.in_ok-place.ensures s mirrors) c.index_mut-member.ensures.value in
    let answer = c.take_ekt.ensures.answer p.member.endpoint p.mirrors.endpoint in
    subst (λ (k : List ℕ). Does (grant_turn s c.args.name c.args.spi k) (Ok untold) before after c.match-take_ekt.self) key
    (elim c.match-take_ekt.branch [
      | in-Ok+in_ok-push-in-Ok w ↦ (
          let b : code_member.Member = record a { endpoint = c.take_ekt.new.self; keys = w.push.new.self } in
          let new = w.new.ensures ∙ ap (λ (k : List ℕ). fresh c.args.spi k) (sym c.octets.ensures.value) in
          grants c.args.self.now c.match-take_ekt.self s c.args.name place a b secret c.args.spi octets before after orderly mirrors p issued
          (subst (IsGranted (grant_answer p.member.endpoint secret octets)) w.in-Ok.is answer) (c.take_ekt.ensures.stands p.member.endpoint p.mirrors.endpoint)
          (record {
            name = refl;
            association = refl;
            ssrc = refl;
            client = refl;
            server = refl;
            opening = refl;
            present = refl;
            first = refl;
            sends = refl;
            keys = w.in_ok-push-in-Ok.ensures.items ∙ ap (λ (t : TakenKey). a.keys.items ++ t ∷ []) new;
          })
          (writes_by c.args.self.now c.match-take_ekt.self _ place b w.self-is
          (record { leaves = record { profile = refl; records = refl; issued = refl; datagrams = refl }; members = refl }))
          (ap (λ (z : code.Conference). z.distributor) w.self-is) (ap (λ (z : code.Conference). z.keys) w.self-is)
          (c.in_ok-write.ensures.ok ∙ ap (λ (l : ReportLine). before ++ report_text (report_told l)) w.line-is))
      | in-Err w ↦ (
          let b : code_member.Member = record a { endpoint = c.take_ekt.new.self } in
          let same : b ≡ a = ap (λ e. record a { endpoint = e }) w.in-Err.ensures.refused in
          let line = w.line-is ∙ ap (λ (d : Denial). line_of.Denied c.args.name d) w.denial_of.ensures in
          denies_grant c.args.self.now c.match-take_ekt.self s c.args.name place a b secret c.args.spi octets before after w.in-Err.fault mirrors p issued
          (subst (IsGranted (grant_answer p.member.endpoint secret octets)) w.in-Err.is answer) same
          (writes_by c.args.self.now c.match-take_ekt.self _ place b w.self-is
          (record { leaves = record { profile = refl; records = refl; issued = refl; datagrams = refl }; members = refl }))
          (ap (λ (z : code.Conference). z.distributor) w.self-is) (ap (λ (z : code.Conference). z.keys) w.self-is)
          (c.in_ok-write.ensures.ok ∙ ap (λ (l : ReportLine). before ++ report_text (report_told l)) line))
    ])
