use Rattle.std.proofs.Common.{◌≡◌, ℕ, Result, Ok, Err, List, Some, None, take, refl, arith}
use Rattle.perc_keywrap.specs.declared.UnwrapFault.{UnwrapFault}
use Rattle.perc_keywrap.specs.declared.UnwrapFault.TheVariants.{Check}
use Rattle.perc_keywrap.specs.Unwrap.{unwrapped}
use Rattle.perc_keywrap.specs.Wrap.{IsWrapped}
use Rattle.perc_keywrap.proofs.UnwrapLaws.{unwrapped_law, unwrapped_none}
use Rattle.perc_keywrap.proofs.WrapLaws.{plain_found, registers_found}
use Rattle.perc_keywrap.proofs.unwrap.Goals as goal

pub returns-in-None-clause-check : goal.returns-in-None-clause-check
returns-in-None-clause-check c =
    let registers = c.unwrap_registers.new.octets in (
      λ _. (
        omega arith,
        omega arith,
        omega arith,
        (unwrapped_none c.args.key.now c.args.wrapped.now).1 (λ plain of_plain.
            c.in-None.ensures.none plain of_plain.few
            (registers_found c.args.key.now registers c.args.wrapped.now plain c.unwrap_registers.ensures.key
            (record { small = c.unwrap_registers.ensures.octets; size = omega arith; value = c.unwrap_registers.ensures.value }) of_plain)),
      ),
      λ _. refl,
    )

pub returns-in-Some-clause-ok : goal.returns-in-Some-clause-ok
returns-in-Some-clause-ok c =
    let is : IsWrapped c.args.key.now (take c.in-Some.len c.move_down.new.octets) c.args.wrapped.now =
    plain_found c.args.key.now c.unwrap_registers.new.octets c.args.wrapped.now c.move_down.new.octets c.in-Some.len c.unwrap_registers.ensures.value (record {
      small = λ k. omega (arith, c.type_inv.wrapped k);
      some = c.in-Some.ensures.some.0;
      room = c.in-Some.ensures.some.1;
      few = omega arith;
      begins = c.in-Some.ensures.none;
      same = c.move_down.ensures;
    }) in
    (unwrapped_law c.args.key.now c.args.wrapped.now (take c.in-Some.len c.move_down.new.octets) c.unwrap_registers.ensures.key).1 is

some_none : (key octets plain : List ℕ) → unwrapped key octets ≡ Some plain → unwrapped key octets ≡ None → ⊥
some_none key octets plain some none = cc

ok_check : (n : ℕ) → ◌≡◌ {A = Result ℕ UnwrapFault} (Ok n) (Err Check) → ⊥
ok_check n e = cc

pub returns-in-Some-clause-check : goal.returns-in-Some-clause-check
returns-in-Some-clause-check c = (
  λ e. absurd (ok_check c.in-Some.len e),
  λ right.
      absurd (some_none c.args.key.now c.args.wrapped.now (take c.in-Some.len c.move_down.new.octets) (returns-in-Some-clause-ok c) right.3),
)
