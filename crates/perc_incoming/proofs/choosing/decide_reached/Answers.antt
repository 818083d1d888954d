use Rattle.std.proofs.Common.{◌≡◌, ◌+◌, ◌-◌, ◌≤◌, ℕ, List, length, take, drop, Result, Ok, Err, sym, ap, subst, ◌∙◌, arith}
use Rattle.std.specs.Prelude.{map}
use Rattle.std.specs.Option.{option_map}
use Rattle.std.proofs.lemmas.Result.{err_from_is_err_and}
use Rattle.perc_rtp.specs.declared.head.RtpHead.{RtpHead}
use Rattle.perc_outer.specs.Datagram.{original_header}
use Rattle.perc_receiver.specs.declared.refusal.Refusal.{Refusal}
use Rattle.perc_receiver.specs.Table.{secret_in}
use Rattle.perc_receiver.specs.Opener.{by_cipher}
use Rattle.perc_receiver.specs.Receiver.{carried_by}
use Rattle.perc_receiver.proofs.Agreeing.{carries_live}
use Rattle.perc_receiver.proofs.Tried.{IsLiveKey}
use Rattle.perc_incoming.specs.declared.choosing.Decided.{Decided}
use Rattle.perc_incoming.specs.Asking.{key_of}
use Rattle.perc_incoming.specs.Outcome.{IsDecision, decision}
use Rattle.perc_incoming.proofs.Parts.{carried_ok, decides, inner_is, is_carried, key_fits, key_sized, refused_as, taken_as, told_is}
use Rattle.perc_incoming.proofs.choosing.decide_reached.Goals as goal

pub returns-in_err-attempt-clause-answer : goal.returns-in_err-attempt-clause-answer
returns-in_err-attempt-clause-answer c = λ held o stands is.
    let secrets = map secret_in c.args.records.now in
    let d = c.args.datagram.now in
    let t = c.args.reached.now in
    let key = c.in_ok-carried.carried in
    let head = c.original_head-head.ensures.head o is in
    let ssrc = ap (λ (h : RtpHead). h.ssrc) head in
    let inner = inner_is o d t is c.requires.reached.range.inner in
    let long : 16 ≤ length o.inner = subst (λ (xs : List ℕ). 16 ≤ length xs) inner c.if-inner-lt16.false in
    let carried : carried_by (by_cipher secrets) secrets o.header.ssrc o.field ≡ Ok (option_map key_of key) =
    ap (λ (n : ℕ). carried_by (by_cipher secrets) secrets n o.field) (sym ssrc)
    ∙ carried_ok _ key (c.in_ok-carried.ensures.answer o.field (t.len + 16) is.told_is.field is.told_is.field_octets) in
    let told = told_is c.as_ref.result c.told_key-key.result key c.as_ref.ensures.value c.told_key-key.ensures.told in
    let p = err_from_is_err_and c.from_residual-in_err-attempt.result c.from_residual-in_err-attempt.ensures.1 in
    let m =
    decides secrets held o key _ c.original_head-head.result.ssrc c.original_head-head.result.seq (take (t.block - t.header) (drop t.header d)) (Err c.in_err-attempt.field-0.0) c.decide_by.new.room long carried told
    ssrc (ap (λ (h : RtpHead). h.seq) head) inner (c.in_err-attempt.ensures.answer held (original_header o) stands (c.original_head-head.ensures.octets o is)) in
    subst (λ (r : Result Decided Refusal). IsDecision held o.header.ssrc (decision secrets held.contexts o) r c.decide_by.new.room) (sym (p.1 ∙ ap Err p.2))
    (refused_as held o.header.ssrc (option_map key_of key) _ c.in_err-attempt.field-0.0 c.decide_by.new.room m)

pub returns-clause-answer : goal.returns-clause-answer
returns-clause-answer c = λ held o stands is.
    let secrets = map secret_in c.args.records.now in
    let d = c.args.datagram.now in
    let t = c.args.reached.now in
    let key = c.in_ok-carried.carried in
    let head = c.original_head-head.ensures.head o is in
    let ssrc = ap (λ (h : RtpHead). h.ssrc) head in
    let inner = inner_is o d t is c.requires.reached.range.inner in
    let long : 16 ≤ length o.inner = subst (λ (xs : List ℕ). 16 ≤ length xs) inner c.if-inner-lt16.false in
    let carried : carried_by (by_cipher secrets) secrets o.header.ssrc o.field ≡ Ok (option_map key_of key) =
    ap (λ (n : ℕ). carried_by (by_cipher secrets) secrets n o.field) (sym ssrc)
    ∙ carried_ok _ key (c.in_ok-carried.ensures.answer o.field (t.len + 16) is.told_is.field is.told_is.field_octets) in
    let told = told_is c.as_ref.result c.told_key-key.result key c.as_ref.ensures.value c.told_key-key.ensures.told in
    let m =
    decides secrets held o key _ c.original_head-head.result.ssrc c.original_head-head.result.seq (take (t.block - t.header) (drop t.header d)) (Ok (c.in_ok-attempt.attempt, c.in_ok-attempt.len)) c.decide_by.new.room long carried
    told ssrc (ap (λ (h : RtpHead). h.seq) head) inner (c.in_ok-attempt.ensures.answer held (original_header o) stands (c.original_head-head.ensures.octets o is)) in
    let live : IsLiveKey held.live (option_map key_of key) =
    subst (λ (l : List ℕ). IsLiveKey l (option_map key_of key)) (sym c.requires.live ∙ stands.live)
    (carries_live (by_cipher secrets) secrets o.header.ssrc o.field (option_map key_of key) carried) in
    let sized = key_sized c.args.profile key c.in_ok-carried.ensures.fits c.told_key-key.ensures.length in
    taken_as held o.header.ssrc key (decision secrets held.contexts o) (c.in_ok-attempt.attempt, c.in_ok-attempt.len) c.decide_by.new.room
    (key_fits c.args.profile key c.in_ok-carried.ensures.fits) (is_carried held.live key live sized) m
