use Rattle.std.proofs.Common.{◌≡◌, ℕ, ◌+◌, ◌*◌, ◌<◌, ◌≤◌, List, ◌++◌, length, drop, slice_index, refl, sym, ap, ◌∙◌, arith, rules}
use Rattle.std.proofs.lemmas.Option.{get_or_from_slice_get}
use Rattle.perc_keyset.specs.Set.{most_entries}
use Rattle.perc_published.specs.Words.{entries_of}
use Rattle.perc_published.proofs.Spelling.{all_spelled, put_keeps, put_long, put_more}
use Rattle.perc_published.proofs.words.spell.Goals as goal

pub loop-i-init : goal.loop-i-init
loop-i-init c = record { size = refl; count = refl; len = c.len.ensures.value; done = refl }

pub loop-i-preserved : goal.loop-i-preserved
loop-i-preserved c =
    let words = c.loop-i.words in
    let i : ℕ = c.loop-i.i in
    let block = c.entry_words.result in
    let rest : List ℕ = block ++ drop (2 + 17 * i + 17) words in
    let long : length block ≡ 17 = search rules in
    let below : i < length c.args.set.now = omega (arith, c.len-i-end.ensures.value, c.loop-i-test.true) in
    let fits : 2 + 17 * i + 17 ≤ length words = omega (arith, c.loop-i.invariant.size, c.len-i-end.ensures.value, c.len-i-end.ensures.few) in
    record {
      size = ap (λ (ws : List ℕ). length ws) c.put.ensures ∙ (put_long words block (2 + 17 * i) long fits ∙ c.loop-i.invariant.size);
      count = ap (λ (ws : List ℕ). slice_index ws 0) c.put.ensures ∙ (put_keeps words rest (2 + 17 * i) 0 (omega arith) (omega arith) ∙ c.loop-i.invariant.count);
      len = ap (λ (ws : List ℕ). slice_index ws 1) c.put.ensures ∙ (put_keeps words rest (2 + 17 * i) 1 (omega arith) (omega arith) ∙ c.loop-i.invariant.len);
      done =
          ap (λ (ws : List ℕ). entries_of (i + 1) (drop 2 ws)) c.put.ensures
          ∙ put_more words block i c.args.set.now c.at.result.now long fits c.entry_words.ensures c.loop-i.invariant.done below
          (sym (get_or_from_slice_get c.args.set.now i c.at.result.now c.at.result.now c.at.ensures));
    }

pub returns-clause-set : goal.returns-clause-set
returns-clause-set c =
    let full : c.loop-i.i ≡ length c.args.set.now = omega (arith, c.len-i-end.ensures.value, c.loop-i-test.false, c.loop-i.auto.i-end) in
    let few : length c.args.set.now ≤ most_entries = omega (arith, c.len.ensures.value, c.len.ensures.few) in
    all_spelled c.loop-i.words c.args.set.now c.loop-i.i c.loop-i.invariant.len few full c.loop-i.invariant.done
