use Rattle.std.proofs.Common.{◌≡◌, drop, length, Ok, sym, ap, ◌∙◌, arith, rules}
use Rattle.perc_rtp.specs.Header.{Header, spelling, head_of}
use Rattle.perc_rtp.specs.Reading.{header_at}
use Rattle.perc_octets.specs.Octets.{AreOctets}
use Rattle.perc_rtp.proofs.PacketLaws.{cut_refused, end_refused, packet_read}
use Rattle.perc_rtp.proofs.Reading.{packet_in, packet_again, head_is, cut_passes, passes_cut, same_len}
use Rattle.perc_rtp.proofs.head.RtpHead.read.Goals as goal

pub returns-in_err-cut-clause-only : goal.returns-in_err-cut-clause-only
returns-in_err-cut-clause-only c = λ h rest is.
    let p = passes_cut c.args.packet.now (length (spelling h)) (packet_again h rest c.args.packet.now is).0 in cc (p, c.in_err-cut.ensures)

pub returns-in_err-len-clause-only : goal.returns-in_err-len-clause-only
returns-in_err-len-clause-only c = λ h rest is.
    let p = (packet_again h rest c.args.packet.now is).0.end in cc (p, c.in_err-len.ensures)

pub returns-clause-ok : goal.returns-clause-ok
returns-clause-ok c =
    let packet = c.args.packet.now in
    let octets : AreOctets packet = λ i. omega (arith, c.type_inv.packet i) in
    let t = cut_passes packet c.in_ok-cut.cut c.in_ok-len.len (sym c.in_ok-cut.ensures) (sym c.in_ok-len.ensures) in
    let p = packet_in packet c.in_ok-len.len octets t in
    (header_at packet, drop c.in_ok-len.len packet, p.0, c.head_in.ensures ∙ head_is packet c.in_ok-len.len p.1)

pub returns-clause-reads : goal.returns-clause-reads
returns-clause-reads c = let is = returns-clause-ok c in (is.0, is.1, is.2)

pub returns-clause-only : goal.returns-clause-only
returns-clause-only c = λ h rest is.
    let packet = c.args.packet.now in
    let p = packet_again h rest packet is in
    let len : c.in_ok-len.len ≡ length (spelling h) = same_len packet c.in_ok-len.len (length (spelling h)) (sym c.in_ok-len.ensures) p.0.end in
    let told : length (spelling (header_at packet)) ≡ c.in_ok-len.len = ap (λ (g : Header). length (spelling g)) p.1 ∙ sym len in
    ap Ok (c.head_in.ensures ∙ head_is packet c.in_ok-len.len told ∙ ap head_of p.1)

pub returns-in_err-cut-clause-answer : goal.returns-in_err-cut-clause-answer
returns-in_err-cut-clause-answer c = rw (cut_refused c.args.packet.now _ (sym c.in_err-cut.ensures)) (search rules)

pub returns-in_err-len-clause-answer : goal.returns-in_err-len-clause-answer
returns-in_err-len-clause-answer c = rw (end_refused c.args.packet.now _ _ (sym c.in_ok-cut.ensures) (sym c.in_err-len.ensures)) (search rules)

pub returns-clause-answer : goal.returns-clause-answer
returns-clause-answer c =
    let is = returns-clause-ok c in
    rw (packet_read is.0 is.1 c.args.packet.now is.2) (ap Ok is.3)
