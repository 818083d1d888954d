use Rattle.std.proofs.Common.{◌≡◌, ℕ, List, [], ◌∷◌, length, ap, ◌∙◌, subst, take, rules}
use Rattle.perc_published.specs.Words as spec
use Rattle.perc_published.proofs.Spelling.{pair_back}
use Rattle.perc_published.proofs.words.pair_words.Goals as goal

pub returns : goal.returns
returns c =
    let key = c.padded_key-key.result in
    let salt = c.padded_salt-salt.result in
    ap (λ (xs : List ℕ). spec.pair_of (length xs ∷ c.word_at.result ∷ c.word_at-2.result ∷ c.word_at-3.result ∷ c.word_at-4.result ∷ c.word_at-5.result ∷ c.word_at-6.result ∷ []))
    c.key-2.ensures.value
    ∙ pair_back c.args.pair.now key salt c.word_at.result c.word_at-2.result c.word_at-3.result c.word_at-4.result c.word_at-5.result c.word_at-6.result
    (record {
      size = c.key.ensures.length;
      key_long = search rules;
      salt_long = search rules;
      key_is = subst (λ (xs : List ℕ). take (length xs) key ≡ xs) c.key.ensures.value c.padded_key-key.ensures;
      salt_is = c.padded_salt-salt.ensures ∙ c.salt.ensures;
    })
    (record {
      first = c.word_at.ensures;
      second = c.word_at-2.ensures;
      third = c.word_at-3.ensures;
      fourth = c.word_at-4.ensures;
      salt_first = c.word_at-5.ensures;
      salt_second = c.word_at-6.ensures;
    })
