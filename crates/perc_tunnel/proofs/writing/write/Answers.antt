use Rattle.std.proofs.Common.{◌≡◌, ℕ, ◌+◌, ◌-◌, ◌≤◌, ◌∷◌, ◌++◌, length, drop, refl, sym, ap, ◌∙◌, arith}
use borrow.Rule.Slice.PartMut.{mid_of}
use Rattle.byteorder.specs.Endian.{big_bytes}
use Rattle.perc_tunnel.specs.Message.{TunnelMessage, IsMessage, type_of, body, body_length, spelling}
use Rattle.perc_tunnel.specs.Told.{content_of}
use Rattle.perc_tunnel.proofs.Written.{written_more, body-length, spelling-length}
use Rattle.perc_tunnel.proofs.writing.write.Goals as goal

pub returns-then-out-len-clause-length : goal.returns-then-out-len-clause-length
returns-then-out-len-clause-length c = λ p.
    let m : TunnelMessage = content_of c.args.message.now in
    let len : c.in_ok-len.len ≡ body_length m = c.in_ok-len.ensures.length.1 in
    let short = c.if-out-len.true in
    omega (arith, p.1)

pub returns-clause-length : goal.returns-clause-length
returns-clause-length c =
    let m : TunnelMessage = content_of c.args.message.now in
    let len : c.in_ok-len.len ≡ body_length m = c.in_ok-len.ensures.length.1 in
    let fits = c.if-out-len.false in
    ((c.in_ok-len.ensures.length.0, omega arith), omega arith)

pub returns-clause-message : goal.returns-clause-message
returns-clause-message c =
    let is : IsMessage (content_of c.args.message.now) = c.in_ok-len.ensures.message in
    (is, spelling-length (content_of c.args.message.now) is)

pub returns-clause-value : goal.returns-clause-value
unfolding spelling
returns-clause-value c =
    let m : TunnelMessage = content_of c.args.message.now in
    let old = c.args.out.now in
    let is : IsMessage m = c.in_ok-len.ensures.message in
    let n = c.in_ok-len.len in
    let len : n ≡ body_length m = c.in_ok-len.ensures.length.1 in
    let size : length (body m) ≡ n = body-length m is ∙ sym len in
    let fits : 3 + n ≤ length old = c.if-out-len.false in
    let o1 = c.write_head.new.out in
    let part = c.write_body.ensures ∙ ap (λ (k : ℕ). body m ++ drop k (mid_of 3 (length o1 - 3) o1)) (sym len) in
    written_more (type_of m ∷ big_bytes 2 n) (body m) old o1 c.write_body.new.out 3 n refl size fits c.write_head.ensures part
    ∙ ap (λ (k : ℕ). (type_of m ∷ (big_bytes 2 k ++ body m)) ++ drop (3 + n) old) (sym size)
