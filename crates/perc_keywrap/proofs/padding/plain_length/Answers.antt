use Rattle.std.proofs.Common.{ℕ, ◌+◌, IsTrue, sym, ◌∙◌, ap, arith, rules}
use Rattle.std.specs.Int.{w32, to_be_bytes}
use Rattle.perc_keywrap.proofs.Prepared.{words_of, zeros_of, prepared_from, rest_is_zeros, zeros_are_rest}
use Rattle.perc_keywrap.proofs.padding.plain_length.Goals as goal
use Rattle.perc_keywrap.proofs.padding.plain_length.Goals.{then-word_at-ne-CONSTANT-via-then-word_at-ne-CONSTANT, then-word_at-ne-CONSTANT-via-else-word_at-ne-CONSTANT+then-room-len}
use Rattle.perc_keywrap.proofs.padding.plain_length.Goals.{then-word_at-ne-CONSTANT-via-else-word_at-ne-CONSTANT+else-room-len+then-len-room, then-word_at-ne-CONSTANT-via-else-word_at-ne-CONSTANT+else-room-len+else-len-room+then-not-are_zeros}

pub returns-clause-none : goal.returns-clause-none
returns-clause-none c =
    let s = c.args.octets.now in
    let n = c.word_at-len.result in
    let passed : IsTrue c.are_zeros.result = search rules in
    prepared_from s n (record {
      first = sym c.word_at.ensures ∙ ap (λ (x : ℕ). to_be_bytes w32 x) c.if-word_at-ne-CONSTANT.false;
      second = sym c.word_at-len.ensures;
      size = omega arith;
      zeros = rest_is_zeros s (8 + n) (c.are_zeros.ensures.0 passed);
    })

pub returns-then-word_at-ne-CONSTANT-clause-none : goal.returns-then-word_at-ne-CONSTANT-clause-none
returns-then-word_at-ne-CONSTANT-clause-none c = λ p few same.
    let s = c.args.octets.now in
    let n = c.word_at-len.result in
    let words = words_of s p c.word_at.result n (record {
      small_first = omega arith;
      small_second = omega arith;
      is_first = c.word_at.ensures;
      is_second = c.word_at-len.ensures;
    }) few same in
    elim c.then-word_at-ne-CONSTANT.branch [
      | then-word_at-ne-CONSTANT-via-then-word_at-ne-CONSTANT w ↦ omega arith
      | then-word_at-ne-CONSTANT-via-else-word_at-ne-CONSTANT+then-room-len w ↦ omega arith
      | then-word_at-ne-CONSTANT-via-else-word_at-ne-CONSTANT+else-room-len+then-len-room w ↦ omega arith
      | then-word_at-ne-CONSTANT-via-else-word_at-ne-CONSTANT+else-room-len+else-len-room+then-not-are_zeros w ↦
          let passed : IsTrue w.are_zeros.result = w.are_zeros.ensures.1 (zeros_are_rest s (8 + n) (zeros_of s p n same words.size)) in
          search rules
    ]
