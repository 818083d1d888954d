use Rattle.std.proofs.Common.{◌⊎◌, ◌+◌, ◌-◌, ◌<◌, ◌≤◌, length, inl, inr, refl, arith}
use Rattle.std.proofs.lemmas.Option.{slice_get_read}
use Rattle.perc_conference_state.proofs.Issued.{known_spi, unknown_spi}
use Rattle.perc_conference_state.proofs.conference.Conference.record_of.Goals as goal
use Rattle.perc_conference_state.proofs.conference.Conference.record_of.Goals.{then-spi-eq0-via-then-spi-eq0, then-spi-eq0-via-else-spi-eq0+then-from-len}

pub returns-then-spi-eq0-clause-secret : goal.returns-then-spi-eq0-clause-secret
returns-then-spi-eq0-clause-secret c = λ s orderly mirrors.
    let out : (c.args.spi < 1) ⊎ (1 + length c.args.self.now.records.items ≤ c.args.spi) =
    elim c.then-spi-eq0.branch [
      | then-spi-eq0-via-then-spi-eq0 w ↦ inl (omega arith)
      | then-spi-eq0-via-else-spi-eq0+then-from-len w ↦ inr (omega (arith, c.args.self.now.records.ok.0))
    ] in
    (unknown_spi c.args.self.now s c.args.spi orderly mirrors out, refl)

pub returns-clause-secret : goal.returns-clause-secret
returns-clause-secret c = λ s orderly mirrors.
    let at = slice_get_read c.args.self.now.records.items c.args.self.now.records.len (c.from-2.result - 1) c.index.result.now c.args.self.now.records.ok.0 (omega arith)
    c.index.ensures in
    known_spi c.args.self.now s c.args.spi (c.from-2.result - 1) c.index.result.now mirrors at (omega arith)
