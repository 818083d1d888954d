use Rattle.std.proofs.Common.{◌≡◌, ◌+◌, ◌<◌, None, length, sym, ◌∙◌, arith}
use Rattle.perc_ohb.specs.Rewriting.{block_after, rewrite_of}
use Rattle.perc_double.specs.Double.{opened, relayed, relayed_length}
use Rattle.perc_reseal_line.proofs.Octets.{too_many}
use Rattle.perc_reseal_line.proofs.sealing.write_changed.Goals as goal

pub returns-in_err-len-clause-packet : goal.returns-in_err-len-clause-packet
returns-in_err-len-clause-packet c = λ h inner o is.
    let over : 1500 < relayed_length h inner o (rewrite_of c.args.change.now) + length c.args.field.now = omega (arith, c.in_err-len.ensures h inner o is) in
    let none : c.from_residual.result ≡ None = c.from_residual.ensures in
    rw none over

pub returns-then-not-fits-clause-packet : goal.returns-then-not-fits-clause-packet
returns-then-not-fits-clause-packet c = λ h inner o is.
    let made = c.in_ok-len.ensures h inner o is in
    too_many c.in_ok-len.len (relayed_length h inner o (rewrite_of c.args.change.now)) (length c.args.field.now) made.1 (sym c.fits.ensures ∙ c.if-not-fits.true)

pub returns-clause-reads : goal.returns-clause-reads
returns-clause-reads c =
    let was = c.requires.reads in
    let change = rewrite_of c.args.change.now in
    let made = c.in_ok-len.ensures was.0 was.1 was.2 was.3 in
    (relayed was.0 change, opened was.1 (block_after was.0 was.2 change), made.2)

pub returns-clause-packet : goal.returns-clause-packet
returns-clause-packet c = λ h inner o is. let made = c.in_ok-len.ensures h inner o is in (made.1, made.2)
