use Rattle.std.proofs.lemmas.Bool.Decides.{nat_tests}
use Rattle.std.proofs.Common.{◌≡◌, ◌≤◌, ◌==◌, false, ℕ, ◌+◌, ◌*◌, ◌++◌, List, length, drop, take, sym, ◌∙◌, ap, subst, arith}
use Rattle.perc_keywrap.specs.Wrap.{IsWrapped, wrapped, wrapped_length, wrapped_registers}
use Rattle.perc_keywrap.proofs.WrapLaws.{is_wrapped}
use Rattle.perc_keywrap.proofs.wrap.Goals as goal

pub returns-clause-value : goal.returns-clause-value
unfolding wrapped
returns-clause-value c =
    ap (λ (x : List ℕ). x ++ drop (8 + c.div_ceil.result * 8) c.args.out.now)
    (c.wrap_registers.ensures.value ∙ ap (λ (x : List ℕ). wrapped_registers c.args.key.now x) c.prepare.ensures)

not_empty : (n : ℕ) → false ≡ (n == 0) → 1 ≤ n
not_empty n e = grind (arith, nat_tests)

pub returns-clause-wrapped : goal.returns-clause-wrapped
returns-clause-wrapped c =
    let key = c.args.key.now in
    let plain = c.args.plain.now in
    let n : ℕ = 8 + c.div_ceil.result * 8 in
    let size : n ≡ wrapped_length (length plain) = omega arith in
    subst (λ (octets : List ℕ). IsWrapped key plain (take n octets)) (sym (returns-clause-value c))
    (is_wrapped key plain (drop n c.args.out.now) n (not_empty (length plain) c.if-is_empty.ensures) (omega arith) (λ k. omega (arith, c.type_inv.plain k)) size)
