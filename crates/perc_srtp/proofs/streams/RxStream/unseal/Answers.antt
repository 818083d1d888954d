use Rattle.std.proofs.Common.{◌≡◌, ◌<◌, ◌≤◌, ◌++◌, length, Ok, Err, refl, sym, subst, ap, ◌∙◌, arith}
use Rattle.std.proofs.lemmas.Result.{err_from_is_err_and}
use Rattle.perc_gcm.specs.declared.TagMismatch.{TagMismatch}
use Rattle.perc_window.specs.Replay.{StandsFor}
use Rattle.perc_srtp.specs.Ends.{Stream}
use Rattle.perc_rtp.specs.Header.{spelling}
use Rattle.perc_srtp.specs.Sealed.{unsealed_body}
use Rattle.perc_srtp.specs.Streams.{opened_at, rx_index, opening_index}
use Rattle.perc_srtp.specs.declared.streams.RxFault.TheVariants.{Short, Tag}
use Rattle.perc_srtp.proofs.Sealing.{found_by, head_read, missed_by, same_value}
use Rattle.perc_srtp.proofs.Streaming.{length-rest, rx_by_tag, opening_by_index, opening_short, rx_refused}
use Rattle.perc_srtp.proofs.streams.RxStream.unseal.Goals as goal

pub returns-then-packet-head-lt-TAG_LEN-clause-answer : goal.returns-then-packet-head-lt-TAG_LEN-clause-answer
returns-then-packet-head-lt-TAG_LEN-clause-answer c = λ before h rest stands is.
    let head = head_read h c.read.result c.unwrap-head.result (c.read.ensures.only h rest is) c.unwrap-head.ensures in
    let len_is = length-rest h rest c.args.packet.now c.unwrap-head.result.len is head.len_is in
    let short : length rest < 16 = omega arith in
    rw (rx_refused c.args.keys.now before h rest Short (opening_short before h.seq (length rest) short)) (refl, refl, refl)

pub returns-in_err-index-clause-answer : goal.returns-in_err-index-clause-answer
returns-in_err-index-clause-answer c = λ before h rest stands is.
    let p = err_from_is_err_and c.from_residual.result c.from_residual.ensures.1 in
    let head = head_read h c.read.result c.unwrap-head.result (c.read.ensures.only h rest is) c.unwrap-head.ensures in
    let len_is = length-rest h rest c.args.packet.now c.unwrap-head.result.len is head.len_is in
    let long : 16 ≤ length rest = omega arith in
    let place : opening_index before h.seq (length rest) ≡ Err p.0 =
    opening_by_index before h.seq (length rest) long
    ∙ ap (rx_index before) (sym head.seq_is) ∙ sym (c.in_err-index.ensures.answer before stands) ∙ ap Err (sym p.2) in
    rw (rx_refused c.args.keys.now before h rest p.0 place) (p.1, refl, refl)

pub unseal_at-requires-clause-tag : goal.unseal_at-requires-clause-tag
unseal_at-requires-clause-tag c = λ h rest is.
    let head = head_read h c.read.result c.unwrap-head.result (c.read.ensures.only h rest is) c.unwrap-head.ensures in
    let len_is = length-rest h rest c.args.packet.now c.unwrap-head.result.len is head.len_is in
    omega arith

pub returns-in-Ok-clause-answer : goal.returns-in-Ok-clause-answer
returns-in-Ok-clause-answer c = λ before h rest stands is.
    let head = head_read h c.read.result c.unwrap-head.result (c.read.ensures.only h rest is) c.unwrap-head.ensures in
    let len_is = length-rest h rest c.args.packet.now c.unwrap-head.result.len is head.len_is in
    let long : 16 ≤ length rest = omega arith in
    let place : opening_index before h.seq (length rest) ≡ Ok c.in_ok-index.index =
    opening_by_index before h.seq (length rest) long
    ∙ ap (rx_index before) (sym head.seq_is) ∙ sym (c.in_ok-index.ensures.answer before stands) in
    let body = unsealed_body c.args.keys.now c.in_ok-index.index h rest in
    let told = found_by {E = TagMismatch} _ _ (Ok c.in-Ok.len) c.in-Ok.len body refl (c.in-Ok.ensures.answer h rest is) in
    let opens = rx_by_tag c.args.keys.now before h rest c.in_ok-index.index place ∙ ap (opened_at Tag c.in_ok-index.index) told.1 in
    rw opens
    (ap Ok (same_value c.in-Ok.len (length (spelling h ++ told.0)) told.2.0), told.2.1, c.mark.ensures before (subst (λ (s : Stream). StandsFor s.window before) (sym c.self.view_is) stands))

pub returns-in-Err-clause-answer : goal.returns-in-Err-clause-answer
returns-in-Err-clause-answer c = λ before h rest stands is.
    let head = head_read h c.read.result c.unwrap-head.result (c.read.ensures.only h rest is) c.unwrap-head.ensures in
    let len_is = length-rest h rest c.args.packet.now c.unwrap-head.result.len is head.len_is in
    let long : 16 ≤ length rest = omega arith in
    let place : opening_index before h.seq (length rest) ≡ Ok c.in_ok-index.index =
    opening_by_index before h.seq (length rest) long
    ∙ ap (rx_index before) (sym head.seq_is) ∙ sym (c.in_ok-index.ensures.answer before stands) in
    let body = unsealed_body c.args.keys.now c.in_ok-index.index h rest in
    let told = missed_by _ _ _ (Err c.in-Err.field-0) c.in-Err.field-0 body refl (c.in-Err.ensures.answer h rest is) in
    let refused = rx_by_tag c.args.keys.now before h rest c.in_ok-index.index place ∙ ap (opened_at Tag c.in_ok-index.index) told in
    rw refused (refl, c.in-Err.ensures.refused, refl)
