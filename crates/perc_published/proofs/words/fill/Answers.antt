use Rattle.std.proofs.Common.{◌≡◌, ℕ, ◌+◌, ◌-◌, ◌*◌, ◌<◌, List, length, take, drop, get_or, sym, ap, ap₂, ◌∙◌, arith}
use Rattle.std.proofs.lemmas.List.{take_all}
use Rattle.perc_keyset.specs.declared.Entry.{Entry}
use Rattle.perc_keyset.specs.declared.Op.TheVariants.{Add}
use Rattle.perc_keyset.specs.Set.{absorbed}
use Rattle.perc_published.specs.Words as spec
use Rattle.perc_published.specs.Words.{set_in}
use Rattle.perc_published.proofs.Spelling.{length-set_in, set_in_at, set_more}
use Rattle.perc_published.proofs.words.fill.Goals as goal

pub loop-i-preserved : goal.loop-i-preserved
loop-i-preserved c =
    let words = c.args.words.now in
    let i : ℕ = c.loop-i.i in
    let below : i < length (set_in words) = omega (arith, length-set_in words, c.min-count.ensures, c.loop-i-test.true) in
    let e = c.entry_of.result in
    let cut : 2 + 17 * i + 17 - (2 + 17 * i) ≡ 17 = omega arith in
    let read : e ≡ get_or (set_in words) i e =
    c.entry_of.ensures
    ∙ (ap (λ (n : ℕ). spec.entry_of (take n (drop (2 + 17 * i) words))) cut ∙ sym (set_in_at words i e below)) in
    c.absorb.ensures
    ∙ (ap₂ (λ (es : List Entry) (d : Entry). absorbed es (Add d)) c.loop-i.invariant read
    ∙ set_more c.requires.history.0 (set_in words) i e c.requires.history.1 below)

pub returns : goal.returns
returns c =
    c.loop-i.invariant
    ∙ take_all c.loop-i.i (set_in c.args.words.now) (omega (arith, length-set_in c.args.words.now, c.min-count.ensures, c.loop-i-test.false))
