use Rattle.std.proofs.Common.{◌≡◌, ◌+◌, Some, length, take, drop, refl, sym, ap, arith, length-drop}
use Rattle.std.proofs.lemmas.List.{length-take-le}
use Rattle.byteorder.specs.Endian.{big_number}
use Rattle.perc_ekt.specs.Key.{stored}
use Rattle.perc_ekt.specs.declared.key.Wrapped.{Wrapped}
use Rattle.perc_ekt.proofs.Keys.{key_read, key_refused, key_stored, roc_at, same_wrapped}
use Rattle.perc_ekt.proofs.key.read_plain.Goals as goal
use Rattle.perc_ekt.proofs.key.read_plain.Goals.{then-plain-len-via-then-plain-len, then-plain-len-via-else-plain-len+then-from-len}

pub returns-then-plain-len-clause-answer : goal.returns-then-plain-len-clause-answer
returns-then-plain-len-clause-answer c =
    rw (key_refused c.args.len c.args.plain.now (λ whole first.
    elim c.then-plain-len.branch [
      | then-plain-len-via-then-plain-len w ↦ omega arith
      | then-plain-len-via-else-plain-len+then-from-len w ↦ omega arith
    ]))
    refl

pub returns-clause-answer : goal.returns-clause-answer
returns-clause-answer c =
    let plain = c.args.plain.now in
    let len = c.args.len in
    let key : c.stored.result ≡ stored (take len (drop 1 plain)) = key_stored plain c.stored.result len c.stored.ensures in
    let size : length (take len (drop 1 plain)) ≡ len = length-take-le len (drop 1 plain) (omega (arith, length-drop 1 plain)) in
    let roc : c.u32_at-2.result ≡ big_number 4 (drop (len + 5) plain) = roc_at plain c.u32_at-2.result len c.u32_at-2.ensures in
    rw (key_read len plain (omega arith) (omega (arith, c.from.ensures)))
    (ap (λ (w : Wrapped). Some w) (same_wrapped _ _ key (sym size) c.u32_at.ensures roc))
