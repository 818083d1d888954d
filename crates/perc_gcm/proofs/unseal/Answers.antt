use Rattle.std.proofs.Common.{List, Some, ℕ, refl, sym, ◌∙◌, ap}
use Rattle.perc_gcm.specs.Gcm.{Verifies, ciphertext}
use Rattle.perc_gcm.proofs.GcmLaws.{ciphertext_twice, unseals, unseals_not}
use Rattle.perc_gcm.proofs.unseal.Goals as goal

pub returns-then-not-are_same-clause-verdict : goal.returns-then-not-are_same-clause-verdict
unfolding Verifies
returns-then-not-are_same-clause-verdict c = (
  (λ ok. (cc)),
  (λ same. sym c.if-not-are_same.true ∙ c.are_same.ensures.1 (same ∙ sym c.tag_of.ensures.value)),
)

pub returns-clause-verdict : goal.returns-clause-verdict
unfolding Verifies
returns-clause-verdict c = ((λ ok. c.are_same.ensures.0 c.if-not-are_same.false ∙ c.tag_of.ensures.value), (λ same. refl))

pub returns-clause-opened : goal.returns-clause-opened
returns-clause-opened c =
    ap (λ (t : List ℕ). ciphertext c.args.key.now c.args.iv.now t) c.add_key_stream.ensures
    ∙ ciphertext_twice c.args.key.now c.args.iv.now c.args.text.now

pub returns-then-not-are_same-clause-answer : goal.returns-then-not-are_same-clause-answer
unfolding Verifies
returns-then-not-are_same-clause-answer c =
    unseals_not c.args.key.now c.args.iv.now c.args.aad.now c.args.text.now c.args.tag.now c.told-tag
    (λ same. let e = c.are_same.ensures.1 (same ∙ sym c.tag_of.ensures.value) in cc)

pub returns-clause-answer : goal.returns-clause-answer
unfolding Verifies
returns-clause-answer c =
    unseals c.args.key.now c.args.iv.now c.args.aad.now c.args.text.now c.args.tag.now c.told-tag
    (c.are_same.ensures.0 c.if-not-are_same.false ∙ c.tag_of.ensures.value)
    ∙ ap (λ (t : List ℕ). Some t) (sym c.add_key_stream.ensures)
