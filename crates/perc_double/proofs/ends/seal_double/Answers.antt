use Rattle.std.proofs.Common.{◌≡◌, ℕ, ◌+◌, List, ◌++◌, length, drop, Ok, Err, refl, ap, ◌∙◌, arith}
use Rattle.std.proofs.lemmas.List.{length-append, length-drop}
use Rattle.std.proofs.lemmas.Result.{MatchResult-weaker, err_from_is_err_and}
use Rattle.perc_rtp.specs.Header.{spelling}
use Rattle.perc_srtp.specs.Streams.{tx_index}
use Rattle.perc_double.specs.Double.{double, inner, nothing_kept, opened}
use Rattle.perc_double.proofs.Answering.{sealing_by_index}
use Rattle.perc_double.proofs.Building.{after_tag}
use Rattle.perc_double.proofs.ends.seal_double.Goals as goal

pub seal-requires-clause-reads : goal.seal-requires-clause-reads
seal-requires-clause-reads c =
    let was = c.requires.reads in (
      was.0,
      opened (inner c.args.inner.now c.args.index was.0 was.1) nothing_kept,
      c.seal_inner-end.ensures.reads was.0 was.1 was.2,
      was.3,
    )

pub returns-in_err-end-clause-answer : goal.returns-in_err-end-clause-answer
returns-in_err-end-clause-answer c =
    let p = err_from_is_err_and c.from_residual.result c.from_residual.ensures.1 in
    rw p.1
    (λ before h body stands is.
    let rest : List ℕ = opened (inner c.args.inner.now c.args.index h body) nothing_kept in
    let packet = c.seal_inner-end.ensures.reads h body is in
    let told = rw (sealing_by_index before h.seq c.seal_inner-end.result (length c.seal_inner-end.new.packet) (omega arith)) at (c.in_err-end.ensures.answer before h rest stands packet) in
    MatchResult-weaker (tx_index before h.seq) told (λ at t. absurd (let e = t.0 in cc)) (λ fault t. (ap Err p.2 ∙ t.0, refl, t.2)))

pub returns-clause-answer : goal.returns-clause-answer
returns-clause-answer c = λ before h body stands is.
    let rest : List ℕ = opened (inner c.args.inner.now c.args.index h body) nothing_kept in
    let sealed = c.seal_inner-end.ensures.sealed h body is in
    let packet = c.seal_inner-end.ensures.reads h body is in
    let told = rw (sealing_by_index before h.seq c.seal_inner-end.result (length c.seal_inner-end.new.packet) (omega arith)) at (c.in_ok-end.ensures.answer before h rest stands packet) in
    let long : length (spelling h ++ rest) ≡ c.seal_inner-end.result =
    omega (arith, ap length sealed, length-append (spelling h ++ rest) (drop (c.args.len + 17) c.args.packet.now), length-drop (c.args.len + 17) c.args.packet.now) in
    let behind = after_tag (spelling h ++ rest) c.args.packet.now c.seal_inner-end.new.packet c.args.len c.seal_inner-end.result c.seal_inner-end.ensures.len long sealed in
    let end : c.seal_inner-end.result + 16 ≡ c.args.len + 33 = omega arith in
    MatchResult-weaker (tx_index before h.seq) told
    (λ at t. (t.0 ∙ ap Ok end, t.1 ∙ ap (λ (xs : List ℕ). double c.args.outer.now at h (inner c.args.inner.now c.args.index h body) nothing_kept ++ xs) behind, t.2))
    (λ fault t. absurd (let e = t.0 in cc))
