-- What a key distributor keeps: no key and no SPI is issued twice, and no pair given twice.
use Rattle.std.specs.List.{All, AllPairs, Contains, find, list_any}
use Rattle.std.specs.Option.{option_map, option_map_or}
use Rattle.std.specs.Prelude.{Option, Some, None, IfSome, Result, Ok, Err, is_some, nat_le, nat_lt, replicate}
use Rattle.std.specs.Str.{bytes_eq}
use Rattle.std.proofs.Common.{◌≡◌, ◌≢◌, ℕ, ◌+◌, ◌-◌, ◌<◌, ◌||◌, ◌&&◌, suc, Bool, true, false, cond, eqb, List, [], ◌∷◌, ◌++◌, length, take, ⊎_elim, inl, inr, refl, sym, ap, subst, ◌∙◌, append_assoc, append-nil, arith}
use Rattle.std.proofs.lemmas.Bool.{cases_Bool, cond-true, cond-false, false≢true}
use Rattle.std.proofs.lemmas.List.{take_at, length-append, length-take, length-replicate}
use Rattle.std.proofs.lemmas.List.Elements.{All-nil, All-cons, All-append, All-weaker, Contains-append_left, Contains-push}
use Rattle.std.proofs.lemmas.List.Quantifiers.{all_pairs_push}
use Rattle.std.proofs.lemmas.Slice.Eq.{bytes_eq-Decides}
use Rattle.perc_base.specs.Outside.{drawn}
use Rattle.perc_base.specs.Profile.{key_length, profile_number}
use Rattle.perc_base.specs.declared.profile.Profile.{Profile}
use Rattle.perc_kdf.specs.Derivation.{KeyAndSalt}
use Rattle.perc_kdf.specs.Order.{same_pair}
use Rattle.perc_kdf.proofs.OrderLaws.{same_pair-Decides}
use Rattle.perc_ekt.specs.declared.record.EktKeyRecord.{EktKeyRecord}
use Rattle.perc_tunnel.specs.declared.message.MediaKeys as keys
use Rattle.perc_tunnel.specs.Message.{TunnelMessage, SupportedProfiles, UnsupportedVersion, MediaKeys, TunneledDtls, EndpointDisconnect}
use Rattle.perc_keeper.specs.Lists.{Lists, higher, newest, key_of, spi_of, was_given, member_of, is_member, with_issued, with_member, without_member}
use Rattle.perc_keeper.proofs.KeptLaws.{append-append}
use Rattle.perc_keydist.specs.Answers.{Answers}
use Rattle.perc_keydist.specs.Calls.{Follows}
use Rattle.perc_keydist.specs.declared.handshake.Hello.{Hello}
use Rattle.perc_keydist.specs.declared.handshake.Hello.TheVariants.{Join, Other}
use Rattle.perc_keydist.specs.Distributing as spec
use Rattle.perc_keydist.specs.Distributing.{Event, Heard, Rolled, Fault, Order, SpiSpent, KeyRepeated, State, Turn, Part, Replying, before, drawn_pair, drawn_record, next_spi, run_of, step, welcomed}
use Rattle.perc_keydist.specs.IssuedOnce.{IsBefore, IsOnce, Extends, IsBacked, IsSafe, Run, kept_after, kept_by}

some_same : {X : Type 0} (x y : X) → ◌≡◌ {A = Option X} (Some x) (Some y) → x ≡ y
some_same x y e = cc

-- ---- lists that go on

pub Extends-same : (l : Lists) → Extends l l
Extends-same l = record { issued = []; given = []; issued_is = sym (append-nil l.issued); given_is = sym (append-nil l.given) }

pub Extends-both : (a b c : Lists) → Extends a b → Extends b c → Extends a c
Extends-both a b c e f = record {
  issued = e.issued ++ f.issued;
  given = e.given ++ f.given;
  issued_is = f.issued_is ∙ ap (λ rs. rs ++ f.issued) e.issued_is ∙ append_assoc a.issued e.issued f.issued;
  given_is = f.given_is ∙ ap (λ ps. ps ++ f.given) e.given_is ∙ append_assoc a.given e.given f.given;
}

-- what a part of a turn leaves
record Goes (l m : Lists) : Type 0 where
  pub once : IsOnce m
  pub extends : Extends l m

stays : (l : Lists) → IsOnce l → Goes l l
stays l once = record { once = once; extends = Extends-same l }

on : (a b c : Lists) → Goes a b → (IsOnce b → Goes b c) → Goes a c
on a b c g h = let later = h g.once in record { once = later.once; extends = Extends-both a b c g.extends later.extends }

-- ---- a new EKT key

drawn-length : (n : ℕ) (xs : List ℕ) → length (drawn n xs) ≡ n
drawn-length n xs =
    let zeros : List ℕ = replicate (n - length xs) 0 in
    let more : length zeros ≡ n - length xs = length-replicate (n - length xs) 0 in
    length-append (take n xs) zeros ∙ omega (arith, length-take n xs, more)

key_drawn : (p : Profile) (issued : List EktKeyRecord) (pair : KeyAndSalt) → length pair.key ≡ key_length p → key_of (drawn_record p issued pair) ≡ pair.key
key_drawn p issued pair size = take_at pair.key (replicate (32 - length pair.key) 0) (key_length p) size

below_all : (n : ℕ) (records : List EktKeyRecord) → IfSome (newest records) (λ s. s.spi < n) → All (λ s. s.spi < n) records
below_all n [] below = All-nil (λ s. s.spi < n)
below_all n (r ∷ records) below =
    let both = parts r (newest records) below in All-cons (λ s. s.spi < n) r records both.0 (below_all n records both.1) where
      parts : (r : EktKeyRecord) (o : Option EktKeyRecord) → IfSome (higher r o) (λ s. s.spi < n) → (r.spi < n) × IfSome o (λ s. s.spi < n)
      parts r None below = (below, tt)
      parts r (Some s) below = by_test (nat_lt s.spi r.spi) refl below where
        by_test : (b : Bool) → nat_lt s.spi r.spi ≡ b → IfSome (cond b (Some r) (Some s)) (λ s. s.spi < n) → (r.spi < n) × (s.spi < n)
        by_test true is below = (below, grind (arith, is, below))
        by_test false is below = (grind (arith, is, below), below)

pub next_above : (records : List EktKeyRecord) → IfSome (newest records) (λ s. s.spi < next_spi records)
next_above records = by_case (newest records) where
  by_case : (o : Option EktKeyRecord) → IfSome o (λ s. s.spi < option_map_or (λ r. r.spi + 1) o 1)
  by_case None = tt
  by_case (Some r) = omega arith

other_keys : (key : List ℕ) (records : List EktKeyRecord) → is_some (spi_of records key) ≡ false → All (λ s. key_of s ≢ key) records
other_keys key [] none = All-nil (λ s. key_of s ≢ key)
other_keys key (r ∷ records) none =
    ⊎_elim (λ (yes : bytes_eq (key_of r) key ≡ true).
    let found = ap (λ (b : Bool). is_some (option_map (λ (s : EktKeyRecord). s.spi) (cond b (Some r) (find (λ s. bytes_eq (key_of s) key) records)))) (sym yes) ∙ none in absurd cc)
    (λ (no : bytes_eq (key_of r) key ≡ false).
    All-cons (λ s. key_of s ≢ key) r records (λ e. false≢true (sym no ∙ (bytes_eq-Decides (key_of r) key).1 e))
    (other_keys key records (ap (λ (b : Bool). is_some (option_map (λ (s : EktKeyRecord). s.spi) (cond b (Some r) (find (λ s. bytes_eq (key_of s) key) records)))) (sym no) ∙ none)))
    (cases_Bool (bytes_eq (key_of r) key))

both_all : {X : Type 0} (P Q : X → Type 0) (xs : List X) → All P xs → All Q xs → All (λ x. P x × Q x) xs
both_all P Q xs p q k d below = (p k d below, q k d below)

-- a record with an SPI above all and a new key
pub issued_follows : (l : Lists) (r : EktKeyRecord) → IfSome (newest l.issued) (λ s. s.spi < r.spi) → is_some (spi_of l.issued (key_of r)) ≡ false
    → Follows l (with_issued r l)
issued_follows l r above new =
    let lower : All (λ s. (s.spi < r.spi) × (key_of s ≢ key_of r)) l.issued =
    both_all (λ s. s.spi < r.spi) (λ s. key_of s ≢ key_of r) l.issued (below_all r.spi l.issued above) (other_keys (key_of r) l.issued new) in
    let earlier : All (λ s. IsBefore s r) l.issued =
    All-weaker (λ s. (s.spi < r.spi) × (key_of s ≢ key_of r)) (λ s. IsBefore s r) (λ s h. record { spi = h.0; key = h.1 }) l.issued lower in
    record {
      extends = record { issued = r ∷ []; given = []; issued_is = refl; given_is = sym (append-nil l.given) };
      once = λ once. record { rising = all_pairs_push IsBefore l.issued r once.rising earlier; apart = once.apart };
    }

issued_goes : (p : Profile) (l : Lists) (pair : KeyAndSalt) → length pair.key ≡ key_length p → is_some (spi_of l.issued pair.key) ≡ false → IsOnce l
    → Goes l (with_issued (drawn_record p l.issued pair) l)
issued_goes p l pair size new once =
    let r = drawn_record p l.issued pair in
    let key : key_of r ≡ pair.key = key_drawn p l.issued pair size in
    let follows = issued_follows l r (next_above l.issued) (ap (λ (k : List ℕ). is_some (spi_of l.issued k)) key ∙ new) in
    record { once = follows.once once; extends = follows.extends }

-- ---- a new member

not_given : (pair : KeyAndSalt) (given : List KeyAndSalt) → was_given given pair ≡ false → All (λ p. p ≢ pair) given
not_given pair [] none = All-nil (λ p. p ≢ pair)
not_given pair (p ∷ given) none =
    ⊎_elim (λ (yes : same_pair pair p ≡ true). let found = ap (λ (b : Bool). b || was_given given pair) (sym yes) ∙ none in absurd cc)
    (λ (no : same_pair pair p ≡ false).
    All-cons (λ q. q ≢ pair) p given (λ e. false≢true (sym no ∙ (same_pair-Decides pair p).1 (sym e)))
    (not_given pair given (ap (λ (b : Bool). b || was_given given pair) (sym no) ∙ none)))
    (cases_Bool (same_pair pair p))

differ : (p q : KeyAndSalt) → same_pair p q ≡ false → p ≢ q
differ p q other e = false≢true (sym other ∙ (same_pair-Decides p q).1 e)

three_false : (a b c : Bool) → (a || (b || c)) ≡ false → (a ≡ false) × (b ≡ false) × (c ≡ false)
three_false false false false e = (refl, refl, refl)
three_false true b c e = absurd cc
three_false false true c e = absurd cc
three_false false false true e = absurd cc

pub member_follows : (k : keys.MediaKeys) (l : Lists) → spec.repeats k l ≡ false → Follows l (with_member k l)
member_follows k l new =
    let tests = three_false (same_pair k.client k.server) (was_given l.given k.client) (was_given l.given k.server) new in
    let others : All (λ p. p ≢ k.server) (l.given ++ k.client ∷ []) =
    All-append (λ p. p ≢ k.server) l.given (k.client ∷ []) (not_given k.server l.given tests.2) (All-cons (λ p. p ≢ k.server) k.client [] (differ k.client k.server tests.0) (All-nil (λ p. p ≢ k.server))) in
    record {
      extends = record { issued = []; given = k.client ∷ k.server ∷ []; issued_is = sym (append-nil l.issued); given_is = refl };
      once = λ once.
          let first = all_pairs_push (λ p q. p ≢ q) l.given k.client once.apart (not_given k.client l.given tests.1) in
          let second = all_pairs_push (λ p q. p ≢ q) (l.given ++ k.client ∷ []) k.server first others in
          record { rising = once.rising; apart = subst (AllPairs (λ p q. p ≢ q)) (append-append l.given k.client k.server) second };
    }

member_goes : (k : keys.MediaKeys) (l : Lists) → spec.repeats k l ≡ false → IsOnce l → Goes l (with_member k l)
member_goes k l new once = let follows = member_follows k l new in record { once = follows.once once; extends = follows.extends }

-- ---- parts of turns

-- the newest record is one of them
pub newest_in : (records : List EktKeyRecord) (r : EktKeyRecord) → newest records ≡ Some r → Contains records r
newest_in [] r is = absurd cc
newest_in (x ∷ records) r is = among (newest records) (newest_in records r) is where
  among : (o : Option EktKeyRecord) → (o ≡ Some r → Contains records r) → higher x o ≡ Some r → Contains (x ∷ records) r
  among None later is = (0, omega arith, some_same x r is)
  among (Some s) later is = by_test (nat_lt s.spi x.spi) is where
    by_test : (b : Bool) → cond b (Some x) (Some s) ≡ Some r → Contains (x ∷ records) r
    by_test true is = (0, omega arith, some_same x r is)
    by_test false is = let c = later is in (suc c.0, omega (arith, c.1), c.2)

-- a part leaves lists that go on, and what it granted is kept
record Grants (l : Lists) (part : Part EktKeyRecord) : Type 0 where
  pub goes : Goes l part.lists
  pub kept : (r : EktKeyRecord) → part.answer ≡ Ok r → Contains part.lists.issued r

grants_stay : (l : Lists) (randoms : List ℕ) (fault : Fault) → IsOnce l → Grants l (record { answer = Err fault; lists = l; randoms = randoms })
grants_stay l randoms fault once = record { goes = stays l once; kept = λ r e. absurd cc }

ok_same : {X : Type 0} (x y : X) → ◌≡◌ {A = Result X Fault} (Ok x) (Ok y) → x ≡ y
ok_same x y e = cc

issuing_grants : (p : Profile) (l : Lists) (pair : KeyAndSalt) (randoms : List ℕ) → length pair.key ≡ key_length p → IsOnce l → Grants l (spec.issuing p l pair randoms)
issuing_grants p l pair randoms size once =
    ⊎_elim (λ (old : is_some (spi_of l.issued pair.key) ≡ true). subst (Grants l) (sym (cond-true (is_some (spi_of l.issued pair.key)) repeated new old)) (grants_stay l randoms KeyRepeated once))
    (λ (fresh : is_some (spi_of l.issued pair.key) ≡ false). subst (Grants l) (sym (cond-false (is_some (spi_of l.issued pair.key)) repeated new fresh)) (record {
      goes = issued_goes p l pair size fresh once;
      kept = λ r e. subst (Contains (l.issued ++ drawn_record p l.issued pair ∷ [])) (ok_same (drawn_record p l.issued pair) r e) (Contains-push l.issued (drawn_record p l.issued pair));
    }))
    (cases_Bool (is_some (spi_of l.issued pair.key))) where
      repeated : Part EktKeyRecord
      repeated = record { answer = Err KeyRepeated; lists = l; randoms = randoms }

      new : Part EktKeyRecord
      new = record { answer = Ok (drawn_record p l.issued pair); lists = with_issued (drawn_record p l.issued pair) l; randoms = randoms }

issue_grants : (p : Profile) (l : Lists) (randoms : List ℕ) → IsOnce l → Grants l (spec.issue p l randoms)
issue_grants p l randoms once = by_test (nat_le 65536 (next_spi l.issued)) where
  by_test : (b : Bool) → Grants l (cond b (record { answer = Err SpiSpent; lists = l; randoms = randoms }) (spec.issuing p l (drawn_pair (key_length p) randoms) (spec.behind_pair (key_length p) randoms)))
  by_test true = grants_stay l randoms SpiSpent once
  by_test false = issuing_grants p l (drawn_pair (key_length p) randoms) (spec.behind_pair (key_length p) randoms) (drawn-length (key_length p) randoms) once

granting_grants : (p : Profile) (l : Lists) (randoms : List ℕ) (o : Option EktKeyRecord) → newest l.issued ≡ o → IsOnce l → Grants l (spec.granting p l randoms o)
granting_grants p l randoms None is once = issue_grants p l randoms once
granting_grants p l randoms (Some r) is once = by_test (eqb r.len (key_length p)) where
  by_test : (b : Bool) → Grants l (cond b (record { answer = Ok r; lists = l; randoms = randoms }) (spec.issue p l randoms))
  by_test true = record { goes = stays l once; kept = λ s e. subst (Contains l.issued) (ok_same r s e) (newest_in l.issued r is) }
  by_test false = issue_grants p l randoms once

-- replies are backed by what is kept then
record Replies (a : Answers) (l : Lists) (part : Replying) : Type 0 where
  pub goes : Goes l part.lists
  pub backed : (replies : List TunnelMessage) → part.answer ≡ Ok replies → All (IsBacked a part.lists.issued) replies

silent_replies : (a : Answers) (l : Lists) (randoms : List ℕ) → IsOnce l → Replies a l (spec.silent l randoms)
silent_replies a l randoms once = record { goes = stays l once; backed = λ replies e. subst (All (IsBacked a l.issued)) (ok_same [] replies e) (All-nil (IsBacked a l.issued)) }

pub welcome_backed : (a : Answers) (issued : List EktKeyRecord) (k : keys.MediaKeys) (r : EktKeyRecord) → Contains issued r → All (IsBacked a issued) (welcomed a k r)
welcome_backed a issued k r kept =
    All-cons (IsBacked a issued) (MediaKeys k.association k.profile k.client k.server) (TunneledDtls k.association (a.welcome k r) ∷ []) tt
    (All-cons (IsBacked a issued) (TunneledDtls k.association (a.welcome k r)) [] (r, kept, inl (k, refl)) (All-nil (IsBacked a issued)))

again_replies : (a : Answers) (k : keys.MediaKeys) (l : Lists) (randoms : List ℕ) (o : Option EktKeyRecord) → newest l.issued ≡ o → IsOnce l
    → Replies a l (spec.welcoming_again a k l randoms o)
again_replies a k l randoms None is once = silent_replies a l randoms once
again_replies a k l randoms (Some r) is once = record {
  goes = stays l once;
  backed = λ replies e. subst (All (IsBacked a l.issued)) (ok_same (welcomed a k r) replies e) (welcome_backed a l.issued k r (newest_in l.issued r is));
}

admitted_replies : (a : Answers) (l b : Lists) (k : keys.MediaKeys) (r : EktKeyRecord) (randoms : List ℕ) → Goes l b → Contains b.issued r
    → Replies a l (spec.welcoming a r (spec.admitting b k randoms))
admitted_replies a l b k r randoms goes kept =
    ⊎_elim (λ (old : spec.repeats k b ≡ true). subst (λ part. Replies a l (spec.welcoming a r part)) (sym (cond-true (spec.repeats k b) repeated new old)) (record { goes = goes; backed = λ replies e. absurd cc }))
    (λ (fresh : spec.repeats k b ≡ false). subst (λ part. Replies a l (spec.welcoming a r part)) (sym (cond-false (spec.repeats k b) repeated new fresh)) (record {
      goes = on l b (with_member k b) goes (member_goes k b fresh);
      backed = λ replies e. subst (All (IsBacked a b.issued)) (ok_same (welcomed a k r) replies e) (welcome_backed a b.issued k r kept);
    }))
    (cases_Bool (spec.repeats k b)) where
      repeated : Part keys.MediaKeys
      repeated = record { answer = Err KeyRepeated; lists = b; randoms = randoms }

      new : Part keys.MediaKeys
      new = record { answer = Ok k; lists = with_member k b; randoms = randoms }

joining_replies : (a : Answers) (p : Profile) (association : List ℕ) (l : Lists) (granted : Part EktKeyRecord) → Grants l granted → Replies a l (spec.joining a p association granted)
joining_replies a p association l granted grants = by_answer granted.answer refl where
  by_answer : (answer : Result EktKeyRecord Fault) → granted.answer ≡ answer → Replies a l (spec.joining a p association (record { answer = answer; lists = granted.lists; randoms = granted.randoms }))
  by_answer (Ok r) is = admitted_replies a l granted.lists (spec.drawn_keys p association granted.randoms) r (spec.behind_keys p granted.randoms) grants.goes (grants.kept r is)
  by_answer (Err fault) is = record { goes = grants.goes; backed = λ replies e. absurd cc }

join_replies : (a : Answers) (p : Profile) (association : List ℕ) (l : Lists) (randoms : List ℕ) (o : Option keys.MediaKeys) → IsOnce l
    → Replies a l (spec.join_of a p association l randoms o)
join_replies a p association l randoms (Some k) once = again_replies a k l randoms (newest l.issued) refl once
join_replies a p association l randoms None once = by_test (nat_le spec.most_members (length l.members)) where
  by_test : (b : Bool) → Replies a l (cond b (spec.silent l randoms) (spec.joining a p association (spec.grant p l randoms)))
  by_test true = silent_replies a l randoms once
  by_test false = joining_replies a p association l (spec.grant p l randoms) (granting_grants p l randoms (newest l.issued) refl once)

record_replies : (a : Answers) (p : Profile) (accepted association : List ℕ) (l : Lists) (randoms : List ℕ) (h : Hello) → IsOnce l
    → Replies a l (spec.record_heard a p accepted association l randoms h)
record_replies a p accepted association l randoms (Join number) once = by_test (eqb number (profile_number p) && list_any (λ q. eqb q number) accepted) where
  by_test : (b : Bool) → Replies a l (cond b (spec.join a p association l randoms) (spec.silent l randoms))
  by_test true = join_replies a p association l randoms (member_of l.members association) once
  by_test false = silent_replies a l randoms once
record_replies a p accepted association l randoms Other once = silent_replies a l randoms once

-- ---- turns

safe_turn : (a : Answers) (s : State) (part : Replying) → Replies a s.lists part → IsSafe a s.lists (spec.turn_of s part)
safe_turn a s part r = by_answer part.answer refl where
  by_answer : (answer : Result (List TunnelMessage) Fault) → part.answer ≡ answer → IsSafe a s.lists (spec.turn_of s (record { answer = answer; lists = part.lists; randoms = part.randoms }))
  by_answer (Ok replies) is = record { once = r.goes.once; extends = r.goes.extends; backed = r.backed replies is }
  by_answer (Err fault) is = record { once = r.goes.once; extends = r.goes.extends; backed = All-nil (IsBacked a part.lists.issued) }

-- a turn that issues and gives nothing
idle : (a : Answers) (s : State) (m : Lists) (t : Turn) → IsOnce s.lists → t.state.lists ≡ m → m.issued ≡ s.lists.issued → m.given ≡ s.lists.given → t.replies ≡ [] → IsSafe a s.lists t
idle a s m t once is issued given none = record {
  once = record {
    rising = subst (AllPairs IsBefore) (sym (ap (λ (l : Lists). l.issued) is ∙ issued)) once.rising;
    apart = subst (AllPairs (λ p q. p ≢ q)) (sym (ap (λ (l : Lists). l.given) is ∙ given)) once.apart;
  };
  extends = record {
    issued = [];
    given = [];
    issued_is = ap (λ (l : Lists). l.issued) is ∙ issued ∙ sym (append-nil s.lists.issued);
    given_is = ap (λ (l : Lists). l.given) is ∙ given ∙ sym (append-nil s.lists.given);
  };
  backed = subst (All (IsBacked a t.state.lists.issued)) (sym none) (All-nil (IsBacked a t.state.lists.issued));
}

safe_hear : (a : Answers) (s : State) (randoms : List ℕ) (m : TunnelMessage) (accepted : Option (List ℕ)) → IsOnce s.lists → IsSafe a s.lists (spec.hear a s randoms m accepted)
safe_hear a s randoms (SupportedProfiles version profiles) None once = by_test (eqb version 0) where
  by_test : (b : Bool) → IsSafe a s.lists (cond b (spec.quiet (record s { accepted = Some profiles }) randoms) (record { replies = UnsupportedVersion 0 ∷ []; state = s; randoms = randoms; fault = None }))
  by_test true = idle a s s.lists (spec.quiet (record s { accepted = Some profiles }) randoms) once refl refl refl refl
  by_test false = record {
    once = once;
    extends = Extends-same s.lists;
    backed = All-cons (IsBacked a s.lists.issued) (UnsupportedVersion 0) [] tt (All-nil (IsBacked a s.lists.issued));
  }
safe_hear a s randoms (SupportedProfiles version profiles) (Some accepted) once = idle a s s.lists (spec.refused s randoms (Order 1)) once refl refl refl refl
safe_hear a s randoms (UnsupportedVersion highest) accepted once = idle a s s.lists (spec.refused s randoms (Order 2)) once refl refl refl refl
safe_hear a s randoms (MediaKeys association profile client server) accepted once = idle a s s.lists (spec.refused s randoms (Order 3)) once refl refl refl refl
safe_hear a s randoms (TunneledDtls association octets) None once = idle a s s.lists (spec.refused s randoms (Order 4)) once refl refl refl refl
safe_hear a s randoms (TunneledDtls association octets) (Some accepted) once =
    safe_turn a s (spec.record_heard a s.profile accepted association s.lists randoms (a.taken octets)) (record_replies a s.profile accepted association s.lists randoms (a.taken octets) once)
safe_hear a s randoms (EndpointDisconnect association) None once = idle a s s.lists (spec.refused s randoms (Order 5)) once refl refl refl refl
safe_hear a s randoms (EndpointDisconnect association) (Some accepted) once = by_test (is_member s.lists.members association) where
  by_test : (b : Bool) → IsSafe a s.lists (cond b (spec.quiet (record s { lists = without_member association s.lists; left = s.left + 1 }) randoms) (spec.quiet s randoms))
  by_test true = idle a s (without_member association s.lists) (spec.quiet (record s { lists = without_member association s.lists; left = s.left + 1 }) randoms) once refl refl refl refl
  by_test false = idle a s s.lists (spec.quiet s randoms) once refl refl refl refl

pub renewals_backed : (a : Answers) (issued : List EktKeyRecord) (r : EktKeyRecord) (members : List keys.MediaKeys) → Contains issued r → All (IsBacked a issued) (spec.renewals a r members)
renewals_backed a issued r [] kept = All-nil (IsBacked a issued)
renewals_backed a issued r (k ∷ members) kept =
    All-cons (IsBacked a issued) (TunneledDtls k.association (a.renewal r)) (spec.renewals a r members) (r, kept, inr refl) (renewals_backed a issued r members kept)

safe_roll : (a : Answers) (s : State) (part : Part EktKeyRecord) → Grants s.lists part → IsSafe a s.lists (spec.rolling a s part)
safe_roll a s part grants = by_answer part.answer refl where
  by_answer : (answer : Result EktKeyRecord Fault) → part.answer ≡ answer → IsSafe a s.lists (spec.rolling a s (record { answer = answer; lists = part.lists; randoms = part.randoms }))
  by_answer (Ok r) is = record { once = grants.goes.once; extends = grants.goes.extends; backed = renewals_backed a part.lists.issued r part.lists.members (grants.kept r is) }
  by_answer (Err fault) is = record { once = grants.goes.once; extends = grants.goes.extends; backed = All-nil (IsBacked a part.lists.issued) }

safe_step : (a : Answers) (s : State) (event : Event) (randoms : List ℕ) → IsOnce s.lists → IsSafe a s.lists (step a s event randoms)
unfolding step
safe_step a s (Heard m) randoms once = safe_hear a s randoms m s.accepted once
safe_step a s Rolled randoms once = safe_roll a s (spec.issue s.profile s.lists randoms) (issue_grants s.profile s.lists randoms once)

-- what backs a reply still does behind more records
pub still_backed : (a : Answers) (issued more : List EktKeyRecord) (m : TunnelMessage) → IsBacked a issued m → IsBacked a (issued ++ more) m
still_backed a issued more (TunneledDtls association octets) (r, kept, is) = (r, Contains-append_left issued more r kept, is)
still_backed a issued more (SupportedProfiles version profiles) h = tt
still_backed a issued more (UnsupportedVersion highest) h = tt
still_backed a issued more (MediaKeys association profile client server) h = tt
still_backed a issued more (EndpointDisconnect association) h = tt

safe_before : (a : Answers) (l : Lists) (t later : Turn) (fault : Option Fault) → IsSafe a l t → IsSafe a t.state.lists later → IsSafe a l (before t fault later)
safe_before a l t later (Some fault) safe next = safe
safe_before a l t later None safe next =
    let old = t.state.lists.issued in
    let new = later.state.lists.issued in
    record {
      once = next.once;
      extends = Extends-both l t.state.lists later.state.lists safe.extends next.extends;
      backed = All-append (IsBacked a new) t.replies later.replies
          (subst (λ issued. All (IsBacked a issued) t.replies) (sym next.extends.issued_is) (All-weaker (IsBacked a old) (IsBacked a (old ++ next.extends.issued)) (still_backed a old next.extends.issued) t.replies safe.backed))
          next.backed;
    }

pub safe_run : (a : Answers) (s : State) (events : List Event) (randoms : List ℕ) → IsOnce s.lists → IsSafe a s.lists (run_of a s events randoms)
safe_run a s [] randoms once = record { once = once; extends = Extends-same s.lists; backed = All-nil (IsBacked a s.lists.issued) }
safe_run a s (event ∷ events) randoms once =
    let t = step a s event randoms in
    let safe = safe_step a s event randoms once in
    safe_before a s.lists t (run_of a t.state events t.randoms) t.fault safe (safe_run a t.state events t.randoms safe.once)

pub safe_runs : (l : Lists) (runs : List Run) → IsOnce l → IsOnce (kept_after l runs) × Extends l (kept_after l runs)
safe_runs l [] once = (once, Extends-same l)
safe_runs l (r ∷ runs) once =
    let safe = safe_run r.answers (record r.state { lists = l }) r.events r.randoms once in
    let later = safe_runs (kept_by l r) runs safe.once in
    (later.0, Extends-both l (kept_by l r) (kept_after (kept_by l r) runs) safe.extends later.1)
