-- What calls leave of what is kept, step by step: each callee gives one step, and the caller puts them together.
use Rattle.std.specs.List.{All, Contains, flat_map}
use Rattle.std.specs.Option.{option_map}
use Rattle.std.specs.Prelude.{Option, Some, IfOk, IfSome, Result, Ok, Err, OnOk, OnErr}
use Rattle.std.proofs.Common.{◌≡◌, ℕ, ◌<◌, List, [], ◌∷◌, ◌++◌, inr, refl, sym, ap, subst, ◌∙◌, append-nil, arith}
use Rattle.std.proofs.lemmas.List.Elements.{All-nil, All-cons, All-append, All-weaker, Contains-append_left, Contains-push}
use Rattle.perc_ekt.specs.declared.record.EktKeyRecord.{EktKeyRecord}
use Rattle.perc_tunnel.specs.declared.message.MediaKeys as keys
use Rattle.perc_tunnel.specs.Message.{TunnelMessage, TunneledDtls, UnsupportedVersion, spelling}
use Rattle.perc_keeper.specs.Lists.{Lists, newest, with_issued, with_member, without_member}
use Rattle.perc_keydist.specs.declared.fault.KdFault.{KdFault}
use Rattle.perc_keydist.specs.Answers.{Answers}
use Rattle.perc_keydist.specs.Calls.{AreInARow, BeginsOnce, Call, Follows, FollowsTold, IsKept, IsSaid, IsSent, KeepsOnce}
use Rattle.perc_keydist.specs.Distributing.{welcomed}
use Rattle.perc_keydist.specs.Gives.{Admits, IsDue, Keeps, renewals_to}
use Rattle.perc_keydist.specs.IssuedOnce.{IsBacked}
use Rattle.perc_keydist.proofs.FoldLaws.{Extends-both, Extends-same, issued_follows, member_follows, newest_in, next_above, still_backed, welcome_backed}
use Rattle.perc_keydist.proofs.Running.{both_replied}

-- ---- lists

follows_same : (l : Lists) → Follows l l
follows_same l = record { extends = Extends-same l; once = λ once. once }

follows_on : (l m n : Lists) → Follows l m → Follows m n → Follows l n
follows_on l m n first second = record { extends = Extends-both l m n first.extends second.extends; once = λ once. second.once (first.once once) }

follows_left : (association : List ℕ) (l : Lists) → Follows l (without_member association l)
follows_left association l = record {
  extends = record { issued = []; given = []; issued_is = sym (append-nil l.issued); given_is = sym (append-nil l.given) };
  once = λ once. record { rising = once.rising; apart = once.apart };
}

-- what is kept is so still
kept_still : (l m : Lists) (r : EktKeyRecord) → Follows l m → Contains l.issued r → Contains m.issued r
kept_still l m r follows kept =
    subst (λ (issued : List EktKeyRecord). Contains issued r) (sym follows.extends.issued_is) (Contains-append_left l.issued follows.extends.issued r kept)

-- ---- lists that are told

pub told_same : (before now : Option Lists) → now ≡ before → FollowsTold before now
unfolding FollowsTold
told_same before now is = λ l known. (l, is ∙ known, follows_same l)

pub told_on : (before between now : Option Lists) → FollowsTold before between → FollowsTold between now → FollowsTold before now
unfolding FollowsTold
told_on before between now first second = λ l known.
    let f = first l known in
    let s = second f.0 f.1 in
    (s.0, s.1, follows_on l f.0 s.0 f.2 s.2)

-- a record is kept, or was refused
pub told_issued : {X : Type 0} (before now : Option Lists) (r : EktKeyRecord) (result : Result X KdFault)
    → ((l : Lists) → before ≡ Some l → IfSome (newest l.issued) (λ s. s.spi < r.spi)) → ((l : Lists) → before ≡ Some l → Keeps l r result now)
    → FollowsTold before now
unfolding FollowsTold
told_issued before now r (Ok x) above keeps = λ l known.
    let k = keeps l known in (with_issued r l, k.1, issued_follows l r (above l known) k.0)
told_issued before now r (Err e) above keeps = λ l known. (l, (keeps l known).0, follows_same l)

-- the SPI that is due was given to a record, which is kept, or was refused
pub told_drawn : {X : Type 0} (before between now : Option Lists) (spi : ℕ) (r : EktKeyRecord) (result : Result X KdFault) → between ≡ before
    → ((l : Lists) → before ≡ Some l → IsDue l (Ok spi)) → r.spi ≡ spi → ((l : Lists) → between ≡ Some l → Keeps l r result now) → FollowsTold before now
unfolding FollowsTold
told_drawn before between now spi r result same due is keeps =
    told_issued before now r result
    (λ l known. subst (λ (n : ℕ). IfSome (newest l.issued) (λ s. s.spi < n)) (sym (is ∙ (due l known).0)) (next_above l.issued))
    (λ l known. keeps l (same ∙ known))

-- a member is kept, or was refused
pub told_admitted : {X : Type 0} (before now : Option Lists) (k : keys.MediaKeys) (result : Result X KdFault)
    → ((l : Lists) → before ≡ Some l → Admits l k result now) → FollowsTold before now
unfolding FollowsTold
told_admitted before now k (Ok x) admits = λ l known.
    let a = admits l known in (with_member k l, a.1, member_follows k l a.0)
told_admitted before now k (Err e) admits = λ l known. (l, (admits l known).0, follows_same l)

-- a member has left
told_left : (before now : Option Lists) (association : List ℕ) → now ≡ option_map (without_member association) before → FollowsTold before now
unfolding FollowsTold
told_left before now association is = λ l known.
    (without_member association l, is ∙ ap (option_map (without_member association)) known, follows_left association l)

-- a member has left, or was refused
pub told_gone : {X : Type 0} (before now : Option Lists) (association : List ℕ) (result : Result X KdFault)
    → OnOk result (now ≡ option_map (without_member association) before) → OnErr result (now ≡ before) → FollowsTold before now
told_gone before now association (Ok x) gone refused = told_left before now association gone
told_gone before now association (Err e) gone refused = told_same before now refused

-- ---- records that are kept

some_same : {X : Type 0} (x y : X) → ◌≡◌ {A = Option X} (Some x) (Some y) → x ≡ y
some_same x y e = cc

pub kept_newest : (before now : Option Lists) (answer : Option EktKeyRecord) (r : EktKeyRecord) → now ≡ before → IfSome before (λ l. answer ≡ newest l.issued) → answer ≡ Some r
    → IsKept before now r
unfolding IsKept
kept_newest before now answer r same is found = λ l m was known.
    let told : IfSome (Some m) (λ l. answer ≡ newest l.issued) = subst (λ (o : Option Lists). IfSome o (λ l. answer ≡ newest l.issued)) (sym same ∙ known) is in
    newest_in m.issued r (sym told ∙ found)

pub kept_issued : (before now : Option Lists) (r : EktKeyRecord) → ((l : Lists) → before ≡ Some l → now ≡ Some (with_issued r l)) → IsKept before now r
unfolding IsKept
kept_issued before now r is = λ l m was known.
    subst (λ (n : Lists). Contains n.issued r) (some_same (with_issued r l) m (sym (is l was) ∙ known)) (Contains-push l.issued r)

-- the keeper was asked before
pub kept_asked : (before between now : Option Lists) (result : Result EktKeyRecord KdFault) → between ≡ before → IfOk result (IsKept between now)
    → IfOk result (IsKept before now)
unfolding IsKept
kept_asked before between now (Ok r) same kept = λ l m was known. kept l m (same ∙ was) known
kept_asked before between now (Err e) same kept = tt

-- ---- replies

pub said_nothing : (a : Answers) (issued : List EktKeyRecord) (before after : List ℕ) → after ≡ before → IsSaid a issued before after
said_nothing a issued before after same = record { replies = []; spelled = same ∙ sym (append-nil before); backed = All-nil (IsBacked a issued) }

said_on : (a : Answers) (issued : List EktKeyRecord) (before between after : List ℕ) → IsSaid a issued before between → IsSaid a issued between after
    → IsSaid a issued before after
said_on a issued before between after first second = record {
  replies = first.replies ++ second.replies;
  spelled = both_replied first.replies second.replies before between after first.spelled second.spelled;
  backed = All-append (IsBacked a issued) first.replies second.replies first.backed second.backed;
}

said_still : (a : Answers) (l m : Lists) (before after : List ℕ) → Follows l m → IsSaid a l.issued before after → IsSaid a m.issued before after
said_still a l m before after follows said = record {
  replies = said.replies;
  spelled = said.spelled;
  backed = subst (λ (issued : List EktKeyRecord). All (IsBacked a issued) said.replies) (sym follows.extends.issued_is)
      (All-weaker (IsBacked a l.issued) (IsBacked a (l.issued ++ follows.extends.issued)) (still_backed a l.issued follows.extends.issued) said.replies said.backed);
}

-- replies were appended, or none
said : {X : Type 0} (a : Answers) (issued : List EktKeyRecord) (replies : List TunnelMessage) (result : Result X KdFault) (before after : List ℕ)
    → OnOk result (after ≡ before ++ flat_map spelling replies) → OnErr result (after ≡ before) → All (IsBacked a issued) replies → IsSaid a issued before after
said a issued replies (Ok x) before after ok err backed = record { replies = replies; spelled = ok; backed = backed }
said a issued replies (Err e) before after ok err backed = said_nothing a issued before after err

-- a message in which no record comes
pub said_unsupported : {X : Type 0} (a : Answers) (issued : List EktKeyRecord) (result : Result X KdFault) (before after : List ℕ)
    → OnOk result (after ≡ before ++ spelling (UnsupportedVersion 0)) → OnErr result (after ≡ before) → IsSaid a issued before after
said_unsupported a issued (Ok x) before after ok err = record {
  replies = UnsupportedVersion 0 ∷ [];
  spelled = ok ∙ ap (λ (xs : List ℕ). before ++ xs) (sym (append-nil (spelling (UnsupportedVersion 0))));
  backed = All-cons (IsBacked a issued) (UnsupportedVersion 0) [] tt (All-nil (IsBacked a issued));
}
said_unsupported a issued (Err e) before after ok err = said_nothing a issued before after err

renewals_backed : (a : Answers) (issued : List EktKeyRecord) (r : EktKeyRecord) (names : List (List ℕ)) → Contains issued r → All (IsBacked a issued) (renewals_to a r names)
renewals_backed a issued r [] kept = All-nil (IsBacked a issued)
renewals_backed a issued r (name ∷ names) kept =
    All-cons (IsBacked a issued) (TunneledDtls name (a.renewal r)) (renewals_to a r names) (r, kept, inr refl) (renewals_backed a issued r names kept)

-- ---- calls

pub once_silent : (answers : Option Answers) (lists now : Option Lists) (before after : List ℕ) → FollowsTold lists now → after ≡ before
    → KeepsOnce answers lists now before after
unfolding FollowsTold KeepsOnce
once_silent answers lists now before after follow same = λ l known.
    let f = follow l known in
    record { lists = f.0; told = f.1; follows = f.2; says = λ a tells. said_nothing a f.0.issued before after same }

pub once_same : (answers : Option Answers) (lists now : Option Lists) (before after : List ℕ) → now ≡ lists → after ≡ before → KeepsOnce answers lists now before after
unfolding KeepsOnce
once_same answers lists now before after is same = once_silent answers lists now before after (told_same lists now is) same

pub once_said : (answers : Option Answers) (lists : Option Lists) (before after : List ℕ) → ((a : Answers) (issued : List EktKeyRecord) → IsSaid a issued before after)
    → KeepsOnce answers lists lists before after
unfolding KeepsOnce
once_said answers lists before after says = λ l known.
    record { lists = l; told = known; follows = follows_same l; says = λ a tells. says a l.issued }

pub once_on : (answers told : Option Answers) (lists between now : Option Lists) (before written after : List ℕ) → KeepsOnce answers lists between before written → told ≡ answers
    → KeepsOnce told between now written after → KeepsOnce answers lists now before after
unfolding KeepsOnce
once_on answers told lists between now before written after first same second = λ l known.
    let f = first l known in
    let s = second f.lists f.told in
    record {
      lists = s.lists;
      told = s.told;
      follows = follows_on l f.lists s.lists f.follows s.follows;
      says = λ a tells. said_on a s.lists.issued before written after (said_still a f.lists s.lists before written s.follows (f.says a tells)) (s.says a (same ∙ tells));
    }

-- a handshake was asked before
pub once_asked : (answers told : Option Answers) (lists now : Option Lists) (before after : List ℕ) → told ≡ answers → KeepsOnce told lists now before after
    → KeepsOnce answers lists now before after
unfolding KeepsOnce
once_asked answers told lists now before after same second = once_on answers told lists lists now before before after (once_same answers lists lists before before refl refl) same second

-- the keeper was asked before
pub once_found : (answers : Option Answers) (lists between now : Option Lists) (before after : List ℕ) → between ≡ lists → KeepsOnce answers between now before after
    → KeepsOnce answers lists now before after
unfolding KeepsOnce
once_found answers lists between now before after same second = λ l known. second l (same ∙ known)

-- a member was welcomed with a record that is kept, or wasn't
pub once_welcomed : {X : Type 0} (answers : Option Answers) (lists between now : Option Lists) (k : keys.MediaKeys) (r : EktKeyRecord) (result : Result X KdFault) (before after : List ℕ)
    → FollowsTold lists between → IsKept lists between r → FollowsTold between now
    → ((a : Answers) → answers ≡ Some a → OnOk result (after ≡ before ++ flat_map spelling (welcomed a k r))) → OnErr result (after ≡ before)
    → KeepsOnce answers lists now before after
unfolding FollowsTold IsKept KeepsOnce
once_welcomed answers lists between now k r result before after first kept second ok err = λ l known.
    let f = first l known in
    let s = second f.0 f.1 in
    record {
      lists = s.0;
      told = s.1;
      follows = follows_on l f.0 s.0 f.2 s.2;
      says = λ a tells. said a s.0.issued (welcomed a k r) result before after (ok a tells) err (welcome_backed a s.0.issued k r (kept_still f.0 s.0 r s.2 (kept l f.0 known f.1)));
    }

-- members were sent a record that is kept
pub once_renewed : (answers : Option Answers) (lists between now : Option Lists) (r : EktKeyRecord) (names : List (List ℕ)) (before after : List ℕ)
    → FollowsTold lists between → IsKept lists between r → now ≡ between
    → ((a : Answers) → answers ≡ Some a → after ≡ before ++ flat_map spelling (renewals_to a r names)) → KeepsOnce answers lists now before after
unfolding FollowsTold IsKept KeepsOnce
once_renewed answers lists between now r names before after first kept same sent = λ l known.
    let f = first l known in
    record {
      lists = f.0;
      told = same ∙ f.1;
      follows = f.2;
      says = λ a tells. record { replies = renewals_to a r names; spelled = sent a tells; backed = renewals_backed a f.0.issued r names (kept l f.0 known f.1) };
    }

-- ---- calls one after another

pub calls_safe : (l : Lists) (calls : List Call) (now : Option Lists) → AreInARow (Some l) calls now
    → (m : Lists) × (now ≡ Some m) × Follows l m × All (IsSent m.issued) calls
unfolding KeepsOnce
calls_safe l [] now is = (l, is, follows_same l, All-nil (IsSent l.issued))
calls_safe l (c ∷ calls) now (begins, call, rest) =
    let f = call l begins in
    let later = calls_safe f.lists calls now (subst (λ (o : Option Lists). AreInARow o calls now) f.told rest) in
    let m = later.0 in (
      m,
      later.1,
      follows_on l f.lists m f.follows later.2,
      All-cons (IsSent m.issued) c calls (λ a tells. said_still a f.lists m c.before c.after later.2 (f.says a tells)) later.3,
    )

none_below : (j : ℕ) → j < 0 → ⊥
none_below j below = omega (arith, below)

pub begins_once : BeginsOnce
begins_once = record { rising = λ i j d above below. absurd (none_below j below); apart = λ i j d above below. absurd (none_below j below) }
