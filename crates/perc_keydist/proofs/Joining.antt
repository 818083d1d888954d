-- An association that joins: a member again, or a stranger.
use Rattle.std.specs.List.{flat_map}
use Rattle.std.specs.Prelude.{Option, Some, None, IfSome, IfErr, IsTrue, OnErr, OnOk, Result, Ok, Err, nat_le}
use Rattle.std.proofs.Common.{◌≡◌, ℕ, ◌<◌, ◌||◌, Bool, true, false, cond, List, [], ◌∷◌, ◌++◌, length, refl, sym, ap, subst, ◌∙◌, arith}
use Rattle.std.proofs.lemmas.Bool.{cond-false}
use Rattle.std.proofs.lemmas.Bool.Decides.{nat_tests}
use Rattle.perc_base.specs.declared.profile.Profile.{Profile}
use Rattle.perc_ekt.specs.declared.record.EktKeyRecord.{EktKeyRecord}
use Rattle.perc_tunnel.specs.declared.message.MediaKeys.{MediaKeys}
use Rattle.perc_tunnel.specs.Message.{TunnelMessage, spelling}
use Rattle.perc_keeper.specs.Lists.{Lists, is_member, is_of, member_of, newest}
use Rattle.perc_keydist.specs.declared.fault.KdFault.{KdFault}
use Rattle.perc_keydist.specs.declared.fault.KdFault.TheVariants as fault
use Rattle.perc_keydist.specs.Answers.{Answers}
use Rattle.perc_keydist.specs.Causes.{is_of_keeping, is_of_replies, told_as}
use Rattle.perc_keydist.specs.Distributing as spec
use Rattle.perc_keydist.specs.Distributing.{Fault, Part, Replying, joining, join_of, welcomed, welcoming, welcoming_again}
use Rattle.perc_keydist.specs.Gives.{Gives, Replied, members_told}

-- ---- faults that the definition knows nothing of

pub untold_replies : (e : KdFault) → IsTrue (is_of_replies e) → told_as e ≡ None
untold_replies (fault.Order type) h = absurd cc
untold_replies fault.SpiSpent h = absurd cc
untold_replies fault.KeyRepeated h = absurd cc
untold_replies (fault.Tunnel f) h = refl
untold_replies fault.Keeper h = refl
untold_replies fault.Handshake h = refl
untold_replies fault.Random h = refl
untold_replies fault.Memory h = refl

pub untold_keeping : (e : KdFault) → IsTrue (is_of_keeping e) → told_as e ≡ None
untold_keeping (fault.Order type) h = absurd cc
untold_keeping fault.SpiSpent h = absurd cc
untold_keeping fault.KeyRepeated h = absurd cc
untold_keeping (fault.Tunnel f) h = refl
untold_keeping fault.Keeper h = refl
untold_keeping fault.Handshake h = refl
untold_keeping fault.Random h = refl
untold_keeping fault.Memory h = refl

pub untold : (X : Type 0) (part : Replying) (e : KdFault) (out : List ℕ) (lists : Option Lists) (left : Option (List ℕ)) → told_as e ≡ None
    → Replied {X = X} part (Err e) out out lists left
untold X part e out lists left is =
    (refl, subst (λ (o : Option Fault). IfSome o (λ f. (part.answer ≡ Err f) × (lists ≡ Some part.lists) × (left ≡ Some part.randoms))) (sym is) tt)

-- ---- replies that were appended, or weren't

pub record Appends (part : Replying) (replies : List TunnelMessage) (lists : Option Lists) (left : Option (List ℕ)) : Type 0 where
  pub answer_is : part.answer ≡ Ok replies
  pub lists_is : lists ≡ Some part.lists
  pub left_is : left ≡ Some part.randoms

pub appended : {X : Type 0} (part : Replying) (replies : List TunnelMessage) (result : Result X KdFault) (before after : List ℕ) (lists : Option Lists) (left : Option (List ℕ))
    → Appends part replies lists left → OnOk result (after ≡ before ++ flat_map spelling replies) → OnErr result (after ≡ before)
    → IfErr result (λ e. IsTrue (is_of_replies e)) → Replied part result before after lists left
appended part replies (Ok x) before after lists left is ok err kinds = (replies, is.answer_is, ok, is.lists_is, is.left_is)
appended {X} part replies (Err e) before after lists left is ok err kinds =
    subst (λ (out : List ℕ). Replied {X = X} part (Err e) before out lists left) (sym err) (untold X part e before lists left (untold_replies e kinds))

-- a member is welcomed again
pub again : {X : Type 0} (a : Answers) (k : MediaKeys) (l : Lists) (randoms : List ℕ) (granted : EktKeyRecord) (result : Result X KdFault) (before after : List ℕ) (lists : Option Lists)
    → newest l.issued ≡ Some granted → lists ≡ Some l → OnOk result (after ≡ before ++ flat_map spelling (welcomed a k granted)) → OnErr result (after ≡ before)
    → IfErr result (λ e. IsTrue (is_of_replies e)) → Replied (welcoming_again a k l randoms (newest l.issued)) result before after lists (Some randoms)
again a k l randoms granted result before after lists is known ok err kinds =
    subst (λ (o : Option EktKeyRecord). Replied (welcoming_again a k l randoms o) result before after lists (Some randoms)) (sym is)
    (appended (welcoming_again a k l randoms (Some granted)) (welcomed a k granted) result before after lists (Some randoms)
    (record { answer_is = refl; lists_is = known; left_is = refl }) ok err kinds)

-- ---- a stranger

pub has_room : (n m : ℕ) → n ≡ m → n < 64 → nat_le 64 m ≡ false
has_room n m e h = grind (arith, nat_tests)

-- what is found isn't there where nothing is found
pub no_member : (members : List MediaKeys) (association : List ℕ) → None ≡ member_of members association → is_member members association ≡ false
no_member [] association none = refl
no_member (k ∷ members) association none = by_test (is_of association k) none (no_member members association) where
  by_test : (b : Bool) → None ≡ cond b (Some k) (member_of members association) → (None ≡ member_of members association → is_member members association ≡ false)
      → (b || is_member members association) ≡ false
  by_test true none later = absurd cc
  by_test false none later = later none

pub stranger_still : (before after : Option Lists) (association : List ℕ) → members_told after ≡ members_told before
    → ((l : Lists) → before ≡ Some l → is_member l.members association ≡ false) → (l : Lists) → after ≡ Some l → is_member l.members association ≡ false
stranger_still None after association same h l is = absurd (let e = sym same ∙ ap members_told is in cc)
stranger_still (Some b) after association same h l is =
    let e : Some l.members ≡ Some b.members = sym (ap members_told is) ∙ same in
    let f : l.members ≡ b.members = cc in
    ap (λ (members : List MediaKeys). is_member members association) f ∙ h b refl

module _ (a : Answers) (p : Profile) (association : List ℕ) (l : Lists) (randoms : List ℕ) (room : nat_le 64 (length l.members) ≡ false) where
  abbrev granted : Part EktKeyRecord
  granted = spec.grant p l randoms

  is_joining : join_of a p association l randoms None ≡ joining a p association granted
  is_joining = cond-false (nat_le 64 (length l.members)) (spec.silent l randoms) (joining a p association granted) room

  pub not_granted : (X : Type 0) (e : KdFault) (out : List ℕ) (lists : Option Lists) (left : Option (List ℕ)) → Gives granted (Err e) lists left
      → Replied {X = X} (join_of a p association l randoms None) (Err e) out out lists left
  not_granted X e out lists left gives =
      subst (λ (part : Replying). Replied {X = X} part (Err e) out out lists left) (sym is_joining) (refl, by_case (told_as e) gives) where
        by_case : (o : Option Fault) → IfSome o (λ f. (granted.answer ≡ Err f) × (lists ≡ Some granted.lists) × (left ≡ Some granted.randoms))
            → IfSome o (λ f. ((joining a p association granted).answer ≡ Err f) × (lists ≡ Some (joining a p association granted).lists)
            × (left ≡ Some (joining a p association granted).randoms))
        by_case None h = tt
        by_case (Some f) (is, kept, rest) =
            subst (λ (part : Replying). (part.answer ≡ Err f) × (lists ≡ Some part.lists) × (left ≡ Some part.randoms))
            (sym (ap (λ (answer : Result EktKeyRecord Fault). joining a p association (record { answer = answer; lists = granted.lists; randoms = granted.randoms })) is))
            (refl, kept, rest)

  module _ (r : EktKeyRecord) (is : granted.answer ≡ Ok r) where
    abbrev admitted : Part MediaKeys
    admitted = spec.admitting granted.lists (spec.drawn_keys p association granted.randoms) (spec.behind_keys p granted.randoms)

    is_welcoming : join_of a p association l randoms None ≡ welcoming a r admitted
    is_welcoming =
        is_joining ∙ ap (λ (answer : Result EktKeyRecord Fault). joining a p association (record { answer = answer; lists = granted.lists; randoms = granted.randoms })) is

    pub not_admitted : (X : Type 0) (e : KdFault) (out : List ℕ) (lists : Option Lists) (left : Option (List ℕ)) → Gives admitted (Err e) lists left
        → Replied {X = X} (join_of a p association l randoms None) (Err e) out out lists left
    not_admitted X e out lists left gives =
        subst (λ (part : Replying). Replied {X = X} part (Err e) out out lists left) (sym is_welcoming) (refl, by_case (told_as e) gives) where
          by_case : (o : Option Fault) → IfSome o (λ f. (admitted.answer ≡ Err f) × (lists ≡ Some admitted.lists) × (left ≡ Some admitted.randoms))
              → IfSome o (λ f. ((welcoming a r admitted).answer ≡ Err f) × (lists ≡ Some (welcoming a r admitted).lists) × (left ≡ Some (welcoming a r admitted).randoms))
          by_case None h = tt
          by_case (Some f) (is, kept, rest) =
              (ap (λ (answer : Result MediaKeys Fault). (welcoming a r (record { answer = answer; lists = admitted.lists; randoms = admitted.randoms })).answer) is, kept, rest)

    pub joined : {X : Type 0} (k : MediaKeys) (result : Result X KdFault) (before after : List ℕ) (lists : Option Lists) (left : Option (List ℕ))
        → Gives admitted (Ok k) lists left → OnOk result (after ≡ before ++ flat_map spelling (welcomed a k r)) → OnErr result (after ≡ before)
        → IfErr result (λ e. IsTrue (is_of_replies e)) → Replied (join_of a p association l randoms None) result before after lists left
    joined k result before after lists left gives ok err kinds =
        let answer : (welcoming a r admitted).answer ≡ Ok (welcomed a k r) =
        ap (λ (answer : Result MediaKeys Fault). (welcoming a r (record { answer = answer; lists = admitted.lists; randoms = admitted.randoms })).answer) gives.0 in
        subst (λ (part : Replying). Replied part result before after lists left) (sym is_welcoming)
        (appended (welcoming a r admitted) (welcomed a k r) result before after lists left (record { answer_is = answer; lists_is = gives.1; left_is = gives.2 }) ok err kinds)
