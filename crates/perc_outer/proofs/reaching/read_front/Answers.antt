use Rattle.std.proofs.Common.{◌≡◌, ◌-◌, true, length, take, sym, ap, ◌∙◌, arith}
use Rattle.std.proofs.lemmas.Result.{err_from_is_err_and}
use Rattle.perc_rtp.specs.Reading.{packet_of}
use Rattle.perc_rtp.specs.declared.head.RtpHead.{RtpHead}
use Rattle.perc_ekt.specs.Field.{field_of}
use Rattle.perc_outer.specs.Datagram.{is_own}
use Rattle.perc_outer.proofs.Datagrams.{datagram_read, field_found}
use Rattle.perc_outer.proofs.Outer.{reached_no_field, reached_no_packet, reached_own}
use Rattle.perc_outer.proofs.Telling.{answered_by, refused_by}
use Rattle.perc_outer.proofs.reaching.read_front.Goals as goal

pub returns-in_err-field : goal.returns-in_err-field
returns-in_err-field c =
    let e = err_from_is_err_and c.from_residual.result c.from_residual.ensures.1 in
    let none = refused_by (field_of c.args.datagram.now) c.in_err-field.field-0.0 _ c.in_err-field.ensures.answer in
    rw (e.1, e.2) (λ keys streams. reached_no_field keys c.args.own streams c.args.datagram.now c.in_err-field.field-0.0 none)

pub returns-in_err-head : goal.returns-in_err-head
returns-in_err-head c =
    let e = err_from_is_err_and c.from_residual-in_err-head.result c.from_residual-in_err-head.ensures.1 in
    let d = c.args.datagram.now in
    let n = length d - c.in_ok-field.field_len in
    let f = field_found d c.in_ok-field.field c.in_ok-field.field_len (λ k. omega (arith, c.type_inv.datagram k)) (answered_by (field_of d) _ _ c.in_ok-field.ensures.answer) in
    let none = refused_by (packet_of (take n d)) c.in_err-head.field-0.0 _ c.in_err-head.ensures.answer in
    rw (e.1, e.2) (λ keys streams. reached_no_packet keys c.args.own streams d (take n d) f.field c.in_err-head.field-0.0 (datagram_read (take n d) f.field d f.is) none)

pub returns-then-is_own : goal.returns-then-is_own
returns-then-is_own c = λ keys streams.
    let d = c.args.datagram.now in
    let n = length d - c.in_ok-field.field_len in
    let f = field_found d c.in_ok-field.field c.in_ok-field.field_len (λ k. omega (arith, c.type_inv.datagram k)) (answered_by (field_of d) _ _ c.in_ok-field.ensures.answer) in
    let p = c.in_ok-head.ensures.ok in
    let own : is_own c.args.own p.0.ssrc ≡ true = ap (λ (t : RtpHead). is_own c.args.own t.ssrc) (sym p.3) ∙ sym c.is_own.ensures ∙ c.if-is_own.true in
    reached_own keys c.args.own streams d (take n d) f.field p.0 p.1 (record { is_datagram = f.is; is_packet = p.2 }) own

pub returns : goal.returns
returns c =
    let d = c.args.datagram.now in
    let f = field_found d c.in_ok-field.field c.in_ok-field.field_len (λ k. omega (arith, c.type_inv.datagram k)) (answered_by (field_of d) _ _ c.in_ok-field.ensures.answer) in
    let p = c.in_ok-head.ensures.ok in
    record {
      field = f.field;
      header = p.0;
      rest = p.1;
      within = f.within;
      is_datagram = f.is;
      is_packet = p.2;
      other = ap (λ (t : RtpHead). is_own c.args.own t.ssrc) (sym p.3) ∙ sym c.is_own.ensures ∙ c.if-is_own.false;
      field_is = f.told_is;
      head_is = p.3;
    }
