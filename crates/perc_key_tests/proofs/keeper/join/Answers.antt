use Rattle.std.proofs.Common.{◌≡◌, ℕ, Bool, true, false, cond, List, [], ◌∷◌, ◌||◌, Option, Some, is_some, sym, ap, subst, ◌∙◌, rules, refl}
use Rattle.perc_kdf.specs.Order.{same_pair}
use Rattle.perc_tunnel.specs.declared.message.MediaKeys.{MediaKeys}
use Rattle.perc_keeper.specs.Lists.{Lists, MayJoin, is_member, is_of, member_of, was_given}
use Rattle.perc_key_tests.proofs.keeper.join.Goals as goal

no_member : (members : List MediaKeys) (association : List ℕ) → is_some (member_of members association) ≡ false → is_member members association ≡ false
no_member [] association none = refl
no_member (k ∷ members) association none = by_test (is_of association k) none (no_member members association) where
  by_test : (b : Bool) → is_some (cond b (Some k) (member_of members association)) ≡ false → (is_some (member_of members association) ≡ false → is_member members association ≡ false)
      → (b || is_member members association) ≡ false
  by_test true none later = absurd cc
  by_test false none later = later none

some_same : {l m : Lists} → Some l ≡ Some m → l ≡ m
some_same e = cc

may_join : (k : MediaKeys) (a b c d : Lists) → Some b ≡ Some a → Some c ≡ Some b → Some d ≡ Some c → is_member a.members k.association ≡ false → same_pair k.client k.server ≡ false
    → was_given b.given k.client ≡ false → was_given c.given k.server ≡ false → MayJoin k d
may_join k a b c d e f g stranger apart client server =
    let h : c ≡ d = sym (some_same g) in
    let i : b ≡ d = sym (some_same f) ∙ h in
    let j : a ≡ d = sym (some_same e) ∙ i in
    record {
      stranger = subst (λ (l : Lists). is_member l.members k.association ≡ false) j stranger;
      apart = apart;
      client = subst (λ (l : Lists). was_given l.given k.client ≡ false) i client;
      server = subst (λ (l : Lists). was_given l.given k.server ≡ false) h server;
    }

pub join-requires-clause-may : goal.join-requires-clause-may
join-requires-clause-may c =
    let k = c.args.keys.now in
    let none : is_some c.in_ok-found.found ≡ false = search rules in
    let apart : same_pair k.client k.server ≡ false = search rules in
    may_join k _ _ _ _ c.member.ensures.kept c.pair_used.ensures.kept c.pair_used-2.ensures.kept
    (no_member _ k.association (ap (λ (o : Option MediaKeys). is_some o) (sym c.in_ok-found.ensures.answer) ∙ none)) apart
    (sym c.in_ok-client_used.ensures.answer ∙ c.if-client_used.false) (sym c.in_ok-server_used.ensures.answer ∙ c.if-server_used.false)
