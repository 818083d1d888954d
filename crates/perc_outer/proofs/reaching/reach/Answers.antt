use Rattle.std.proofs.Common.{◌≡◌, ◌≤◌, ◌+◌, ◌-◌, ◌++◌, length, take, drop, Err, refl, sym, ap, ◌∙◌, arith}
use Rattle.std.proofs.lemmas.Result.{err_from_is_err_and}
use Rattle.perc_rtp.specs.declared.head.RtpHead.{RtpHead}
use Rattle.std.proofs.lemmas.List.{length-take}
use Rattle.perc_ekt.specs.Field.{told_of}
use Rattle.perc_ohb.specs.Reading.{block_of}
use Rattle.perc_ohb.proofs.ReadingLaws.{block_read}
use Rattle.perc_outer.specs.Datagram.{Opened, opened_packet}
use Rattle.perc_outer.proofs.Outer.{IsRead, reached_blocked, reached_shut, reached_whole}
use Rattle.perc_outer.proofs.Telling.{block_in, body_at, has_opened, in_range, is_told, refused_by, stand, unsealed_refused}
use Rattle.perc_outer.proofs.reaching.reach.Goals as goal

pub returns-in_err-len-clause-answer : goal.returns-in_err-len-clause-answer
returns-in_err-len-clause-answer c = λ before stands.
    let f = c.in_ok-front.ensures in
    let d = c.args.datagram.now in
    let read : IsRead d (take c.in_ok-front.front.end d) f.field f.header f.rest = record { is_datagram = f.is_datagram; is_packet = f.is_packet } in
    let e = err_from_is_err_and c.from_residual-in_err-len.result c.from_residual-in_err-len.ensures.1 in
    let shut = unsealed_refused f.header before _ c.in_err-len.field-0.0 _ _ (c.in_err-len.ensures.answer before f.header f.rest stands f.is_packet) in
    rw (reached_shut c.args.keys.now c.args.own before d _ f.field f.header f.rest c.in_err-len.field-0.0 read f.other shut) (e.1 ∙ ap Err e.2)

pub returns-in_err-len-clause-streams : goal.returns-in_err-len-clause-streams
returns-in_err-len-clause-streams c = λ before stands.
    let f = c.in_ok-front.ensures in
    let d = c.args.datagram.now in
    let read : IsRead d (take c.in_ok-front.front.end d) f.field f.header f.rest = record { is_datagram = f.is_datagram; is_packet = f.is_packet } in
    let shut = unsealed_refused f.header before _ c.in_err-len.field-0.0 _ _ (c.in_err-len.ensures.answer before f.header f.rest stands f.is_packet) in
    rw (reached_shut c.args.keys.now c.args.own before d _ f.field f.header f.rest c.in_err-len.field-0.0 read f.other shut, c.in_err-len.ensures.refused.1) stands

pub returns-in_err-ohb-clause-answer : goal.returns-in_err-ohb-clause-answer
returns-in_err-ohb-clause-answer c = λ before stands.
    let f = c.in_ok-front.ensures in
    let d = c.args.datagram.now in
    let end = c.in_ok-front.front.end in
    let len = c.in_ok-len.len in
    let head = c.in_ok-front.front.head in
    let read : IsRead d (take end d) f.field f.header f.rest = record { is_datagram = f.is_datagram; is_packet = f.is_packet } in
    let e = err_from_is_err_and c.from_residual-in_err-ohb.result c.from_residual-in_err-ohb.ensures.1 in
    let o = has_opened f.header before (opened_packet c.args.keys.now before f.header f.rest) len c.unseal.new.self c.unseal.new.packet
    (c.in_ok-len.ensures.answer before f.header f.rest stands f.is_packet) in
    let body = body_at f.header o.body c.unseal.new.packet (drop end d) len head.len o.front o.long (ap (λ (t : RtpHead). t.len) f.head_is) in
    let none = refused_by (block_of (take (len - head.len) (drop head.len (c.unseal.new.packet ++ drop end d)))) c.in_err-ohb.field-0.0 _ c.in_err-ohb.ensures.answer in
    rw (reached_blocked c.args.keys.now c.args.own before d _ f.field f.header f.rest o.index o.body c.in_err-ohb.field-0.0 read f.other o.opens (ap block_of (sym body) ∙ none))
    (e.1 ∙ ap Err e.2)

pub returns-in_err-ohb-clause-streams : goal.returns-in_err-ohb-clause-streams
returns-in_err-ohb-clause-streams c = λ before stands.
    let f = c.in_ok-front.ensures in
    let d = c.args.datagram.now in
    let end = c.in_ok-front.front.end in
    let len = c.in_ok-len.len in
    let head = c.in_ok-front.front.head in
    let read : IsRead d (take end d) f.field f.header f.rest = record { is_datagram = f.is_datagram; is_packet = f.is_packet } in
    let o = has_opened f.header before (opened_packet c.args.keys.now before f.header f.rest) len c.unseal.new.self c.unseal.new.packet
    (c.in_ok-len.ensures.answer before f.header f.rest stands f.is_packet) in
    let body = body_at f.header o.body c.unseal.new.packet (drop end d) len head.len o.front o.long (ap (λ (t : RtpHead). t.len) f.head_is) in
    let none = refused_by (block_of (take (len - head.len) (drop head.len (c.unseal.new.packet ++ drop end d)))) c.in_err-ohb.field-0.0 _ c.in_err-ohb.ensures.answer in
    rw (reached_blocked c.args.keys.now c.args.own before d _ f.field f.header f.rest o.index o.body c.in_err-ohb.field-0.0 read f.other o.opens (ap block_of (sym body) ∙ none))
    o.stands

pub returns-clause-answer : goal.returns-clause-answer
returns-clause-answer c = λ before stands.
    let f = c.in_ok-front.ensures in
    let d = c.args.datagram.now in
    let end = c.in_ok-front.front.end in
    let len = c.in_ok-len.len in
    let head = c.in_ok-front.front.head in
    let read : IsRead d (take end d) f.field f.header f.rest = record { is_datagram = f.is_datagram; is_packet = f.is_packet } in
    let o = has_opened f.header before (opened_packet c.args.keys.now before f.header f.rest) len c.unseal.new.self c.unseal.new.packet
    (c.in_ok-len.ensures.answer before f.header f.rest stands f.is_packet) in
    let body = body_at f.header o.body c.unseal.new.packet (drop end d) len head.len o.front o.long (ap (λ (t : RtpHead). t.len) f.head_is) in
    let k = c.in_ok-ohb.ensures.ok in
    let ends = ap block_of (sym body) ∙ block_read c.in_ok-ohb.ohb k.0 _ k.1 in
    let all : Opened = record { header = f.header; inner = k.0; block = c.in_ok-ohb.ohb; field = f.field; index = o.index } in
    let size : length (take end d) ≡ end = omega (arith, length-take end d, f.within) in
    let end_is : len + 16 ≡ end = c.in_ok-len.ensures.len.0 ∙ size in
    let whole : length c.unseal.new.packet ≡ end = omega arith in
    let at = stand all o.body c.unseal.new.packet d len end o.front o.long (sym body ∙ k.1.split) end_is whole f.within f.is_datagram in
    rw (reached_whole c.args.keys.now c.args.own before d _ f.field f.header f.rest o.index o.body k.0 c.in_ok-ohb.ohb read f.other o.opens ends) (
      record { header = head.len; block = len - c.in_ok-ohb.block_len; len = len; ohb = c.in_ok-ohb.ohb; field = c.in_ok-front.front.field },
      refl,
      is_told all (c.unseal.new.packet ++ drop end d) head.len (len - c.in_ok-ohb.block_len) len c.in_ok-front.front.field at (ap (λ (t : RtpHead). t.len) f.head_is)
          (block_in all (c.unseal.new.packet ++ drop end d) len c.in_ok-ohb.block_len at k.2) (f.field_is ∙ ap (told_of f.field) (sym end_is)),
    )

pub returns-clause-streams : goal.returns-clause-streams
returns-clause-streams c = λ before stands.
    let f = c.in_ok-front.ensures in
    let d = c.args.datagram.now in
    let end = c.in_ok-front.front.end in
    let len = c.in_ok-len.len in
    let head = c.in_ok-front.front.head in
    let read : IsRead d (take end d) f.field f.header f.rest = record { is_datagram = f.is_datagram; is_packet = f.is_packet } in
    let o = has_opened f.header before (opened_packet c.args.keys.now before f.header f.rest) len c.unseal.new.self c.unseal.new.packet
    (c.in_ok-len.ensures.answer before f.header f.rest stands f.is_packet) in
    let body = body_at f.header o.body c.unseal.new.packet (drop end d) len head.len o.front o.long (ap (λ (t : RtpHead). t.len) f.head_is) in
    let k = c.in_ok-ohb.ensures.ok in
    let ends = ap block_of (sym body) ∙ block_read c.in_ok-ohb.ohb k.0 _ k.1 in
    rw (reached_whole c.args.keys.now c.args.own before d _ f.field f.header f.rest o.index o.body k.0 c.in_ok-ohb.ohb read f.other o.opens ends) o.stands

pub returns-clause-range : goal.returns-clause-range
returns-clause-range c =
    let f = c.in_ok-front.ensures in
    let d = c.args.datagram.now in
    let end = c.in_ok-front.front.end in
    let len = c.in_ok-len.len in
    let size : length (take end d) ≡ end = omega (arith, length-take end d, f.within) in
    let end_is : len + 16 ≡ end = c.in_ok-len.ensures.len.0 ∙ size in
    let whole : length c.unseal.new.packet ≡ end = omega arith in
    let head = c.in_ok-front.front.head in
    let behind : head.len ≤ len = c.in_ok-len.ensures.len.1 in
    let within = c.in_ok-ohb.ensures.within in
    let short : c.in_ok-ohb.block_len ≤ len - head.len = omega (arith, within.2, length-take (len - head.len) (drop head.len (c.unseal.new.packet ++ drop end d))) in
    in_range head.len c.in_ok-ohb.block_len len end c.in_ok-ohb.ohb c.in_ok-front.front.field f.field c.unseal.new.packet d behind within.0 short end_is whole f.within
    c.in_ok-ohb.ensures.pt f.is_datagram f.field_is
