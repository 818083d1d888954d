use Rattle.std.proofs.Common.{◌≡◌, ℕ, ◌-◌, ◌⊎◌, replicate, ap, subst, sym, ◌∙◌, rules, arith}
use Rattle.std.proofs.Common.{drop}
use Rattle.perc_ekt.proofs.Records.{key-lengths}
use Rattle.perc_keydist.proofs.issuing.record_with.Goals as goal

pub returns-clause-right : goal.returns-clause-right
returns-clause-right c = record {
  size = subst (λ (n : ℕ). (n ≡ 16) ⊎ (n ≡ 32)) (sym c.key_len.ensures) (key-lengths c.args.profile);
  room = search rules;
  zeros = ap (λ (n : ℕ). drop n c.args.key.now) c.key_len.ensures ∙ c.requires ∙ ap (λ (n : ℕ). replicate (32 - n) 0) (sym c.key_len.ensures);
  salt = search rules;
  spi = search rules;
  life = omega arith;
}
