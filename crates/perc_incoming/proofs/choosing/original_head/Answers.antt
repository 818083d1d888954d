use Rattle.std.proofs.Common.{◌≡◌, ℕ, [], rules, drop, take, Result, Ok, refl, sym, ap, subst, ◌∙◌}
use Rattle.perc_rtp.specs.Header.{IsPacket, head_of}
use Rattle.perc_rtp.specs.declared.head.RtpHead.{RtpHead}
use Rattle.perc_rtp.specs.declared.head.RtpFault.{RtpFault}
use Rattle.perc_outer.specs.Datagram.{original_header}
use Rattle.perc_incoming.proofs.Parts.{front_header, original_packet, head_long}
use Rattle.perc_incoming.proofs.choosing.original_head.Goals as goal

pub unwrap-requires : goal.unwrap-requires
unwrap-requires c =
    let r = c.requires in
    let front = front_header r.opened c.args.datagram.now c.args.reached.now r.is in
    let p = original_packet r.opened c.args.datagram.now c.args.reached.now c.restore-len.result c.restore-len.new.out _ r.is (c.restore-len.ensures.len r.opened.header [] front)
    (c.restore-len.ensures.value r.opened.header [] front) in
    rw (c.read.ensures.only (original_header r.opened) [] p) (search rules)

pub returns-clause-head : goal.returns-clause-head
returns-clause-head c = λ o is.
    let front = front_header o c.args.datagram.now c.args.reached.now is in
    let p = original_packet o c.args.datagram.now c.args.reached.now c.restore-len.result c.restore-len.new.out _ is (c.restore-len.ensures.len o.header [] front)
    (c.restore-len.ensures.value o.header [] front) in
    let same : ◌≡◌ {A = Result RtpHead RtpFault} (Ok c.unwrap.result) (Ok (head_of (original_header o))) =
    sym c.unwrap.ensures ∙ c.read.ensures.only (original_header o) [] p in
    cc

pub returns-clause-octets : goal.returns-clause-octets
returns-clause-octets c = λ o is.
    let front = front_header o c.args.datagram.now c.args.reached.now is in
    let p = original_packet o c.args.datagram.now c.args.reached.now c.restore-len.result c.restore-len.new.out _ is (c.restore-len.ensures.len o.header [] front)
    (c.restore-len.ensures.value o.header [] front) in
    let same : ◌≡◌ {A = Result RtpHead RtpFault} (Ok c.unwrap.result) (Ok (head_of (original_header o))) =
    sym c.unwrap.ensures ∙ c.read.ensures.only (original_header o) [] p in
    let head : c.unwrap.result ≡ head_of (original_header o) = cc in
    let long = head_long o c.args.datagram.now c.args.reached.now c.restore-len.result is (c.restore-len.ensures.len o.header [] front) in
    subst (λ (n : ℕ). IsPacket (original_header o) [] (take n c.restore-len.new.out)) (sym (ap (λ (h : RtpHead). h.len) head ∙ long)) p
