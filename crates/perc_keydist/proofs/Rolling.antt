-- The EKT key rolled: the next is issued, and each member is sent it.
use Rattle.std.specs.List.{flat_map}
use Rattle.std.specs.Prelude.{Option, Some, None, IfSome, OnErr, OnOk, Result, Ok, Err, is_some, nat_le}
use Rattle.std.proofs.Common.{◌≡◌, ℕ, ◌+◌, ◌<◌, ◌≤◌, Bool, true, false, cond, List, [], ◌∷◌, ◌++◌, length, take, drop, get_or, refl, sym, ap, subst, ◌∙◌, append_assoc, add-one, arith}
use Rattle.std.proofs.Math.Seq.{drop-cons, take-length}
use Rattle.std.specs.Option.{option_map_or}
use Rattle.std.proofs.lemmas.List.{length-take, take-append-drop, take-append-le, take_at}
use Rattle.perc_base.specs.Profile.{key_length}
use Rattle.perc_base.specs.declared.profile.Profile.{Profile}
use Rattle.perc_ekt.specs.declared.record.EktKeyRecord.{EktKeyRecord}
use Rattle.perc_tunnel.specs.declared.message.MediaKeys.{MediaKeys}
use Rattle.perc_tunnel.specs.Message.{TunnelMessage, TunneledDtls, spelling}
use Rattle.perc_keeper.specs.Lists.{Lists, names_of, newest, spi_of, with_issued}
use Rattle.perc_keeper.proofs.KeptLaws.{newest_pushed}
use Rattle.perc_keydist.specs.declared.fault.KdFault.{KdFault}
use Rattle.perc_keydist.specs.Answers.{Answers}
use Rattle.perc_keydist.specs.Distributing.{Fault, SpiSpent, KeyRepeated, Part, Rolled, State, Turn, behind_pair, drawn_pair, drawn_record, issue, issuing, next_spi, renewals, rolling, step}
use Rattle.perc_keydist.specs.Gives.{Gives, renewals_to}
use Rattle.perc_keydist.specs.KeyDistributor.{IsRolled}

-- ---- renewals

-- what was there stays in front
pub kept_front : {X : Type 0} (result : Result X KdFault) (old new octets : List ℕ) → OnOk result (new ≡ old ++ octets) → OnErr result (new ≡ old) → take (length old) new ≡ old
kept_front (Ok x) old new octets ok err = ap (take (length old)) ok ∙ take_at old octets (length old) refl
kept_front (Err e) old new octets ok err = ap (take (length old)) err ∙ take-length old

pub front_on : (old between new : List ℕ) → take (length old) between ≡ old → take (length between) new ≡ between → take (length old) new ≡ old
front_on old between new first second =
    let short : length old ≤ length between = omega (arith, ap length first, length-take (length old) between) in
    let long : length between ≤ length new = omega (arith, ap length second, length-take (length between) new) in
    ap (λ (xs : List ℕ). take (length old) xs) (sym (take-append-drop (length between) new)) ∙ ap (λ (xs : List ℕ). take (length old) (xs ++ drop (length between) new)) second
    ∙ take-append-le (length old) between (drop (length between) new) short ∙ first

pub renewals_step : (a : Answers) (r : EktKeyRecord) (names : List (List ℕ)) (i : ℕ) (d : List ℕ) → i < length names
    → flat_map spelling (renewals_to a r (drop i names)) ≡ spelling (TunneledDtls (get_or names i d) (a.renewal r)) ++ flat_map spelling (renewals_to a r (drop (i + 1) names))
renewals_step a r names i d below =
    ap (λ (xs : List (List ℕ)). flat_map spelling (renewals_to a r xs)) (drop-cons names i d below)
    ∙ ap (λ (k : ℕ). spelling (TunneledDtls (get_or names i d) (a.renewal r)) ++ flat_map spelling (renewals_to a r (drop k names))) (sym (add-one i))

pub renewed : (old new front rest all target : List ℕ) → new ≡ old ++ front → all ≡ front ++ rest → old ++ all ≡ target → new ++ rest ≡ target
renewed old new front rest all target is whole before =
    ap (λ (xs : List ℕ). xs ++ rest) is ∙ append_assoc old front rest ∙ ap (λ (xs : List ℕ). old ++ xs) (sym whole) ∙ before

pub renewals_named : (a : Answers) (r : EktKeyRecord) (members : List MediaKeys) → renewals_to a r (names_of members) ≡ renewals a r members
renewals_named a r [] = refl
renewals_named a r (k ∷ members) = ap (λ (ms : List TunnelMessage). TunneledDtls k.association (a.renewal r) ∷ ms) (renewals_named a r members)

-- ---- what was issued is the newest

ok_some : (x y : EktKeyRecord) → ◌≡◌ {A = Result EktKeyRecord Fault} (Ok x) (Ok y) → Some x ≡ Some y
ok_some x y e = cc

no_record : (f : Fault) (r : EktKeyRecord) → ◌≡◌ {A = Result EktKeyRecord Fault} (Err f) (Ok r) → ⊥
no_record f r e = cc

module _ (p : Profile) (l : Lists) (randoms : List ℕ) where
  below_next : (o : Option EktKeyRecord) → newest l.issued ≡ o → IfSome o (λ s. s.spi < next_spi l.issued)
  below_next None is = tt
  below_next (Some s) is =
      let next : next_spi l.issued ≡ s.spi + 1 = ap (λ (o : Option EktKeyRecord). option_map_or (λ r. r.spi + 1) o 1) is in
      omega (arith, next)

  abbrev new_record : EktKeyRecord
  new_record = drawn_record p l.issued (drawn_pair (key_length p) randoms)

  is_newest : newest (l.issued ++ new_record ∷ []) ≡ Some new_record
  is_newest = newest_pushed l.issued new_record (below_next (newest l.issued) refl)

  IsNewest : Part EktKeyRecord → Type 0
  IsNewest part = (r : EktKeyRecord) → part.answer ≡ Ok r → newest part.lists.issued ≡ Some r

  issuing_newest : (b : Bool) → IsNewest (cond b (record { answer = Err KeyRepeated; lists = l; randoms = behind_pair (key_length p) randoms })
      (record { answer = Ok new_record; lists = with_issued new_record l; randoms = behind_pair (key_length p) randoms }))
  unfolding IsNewest
  issuing_newest true r is = absurd cc
  issuing_newest false r is = is_newest ∙ ok_some new_record r is

  pub issued_newest : (r : EktKeyRecord) → (issue p l randoms).answer ≡ Ok r → newest (issue p l randoms).lists.issued ≡ Some r
  unfolding IsNewest
  issued_newest = by_test (nat_le 65536 (next_spi l.issued)) where
    by_test : (b : Bool) → IsNewest (cond b (record { answer = Err SpiSpent; lists = l; randoms = randoms }) (issuing p l (drawn_pair (key_length p) randoms) (behind_pair (key_length p) randoms)))
    by_test true = λ r is. absurd (no_record SpiSpent r is)
    by_test false = issuing_newest (is_some (spi_of l.issued (drawn_pair (key_length p) randoms).key))

-- ---- the turn

pub rolled_done : (a : Answers) (s : State) (p : Profile) (randoms : List ℕ) (r : EktKeyRecord) (names : List (List ℕ)) (before after : List ℕ) (between lists : Option Lists) (rest : Option (List ℕ))
    → Gives (issue p s.lists randoms) (Ok r) between rest → lists ≡ between → names ≡ names_of (issue p s.lists randoms).lists.members
    → after ≡ before ++ flat_map spelling (renewals_to a r names) → IsRolled (rolling a s (issue p s.lists randoms)) r before after lists rest
rolled_done a s p randoms r names before after between lists rest gives same is sent =
    let part = issue p s.lists randoms in
    let turn : rolling a s part ≡ rolling a s (record { answer = Ok r; lists = part.lists; randoms = part.randoms }) =
    ap (λ (answer : Result EktKeyRecord Fault). rolling a s (record { answer = answer; lists = part.lists; randoms = part.randoms })) gives.0 in
    subst (λ (t : Turn). IsRolled t r before after lists rest) (sym turn) (record {
      no_fault = refl;
      issued = issued_newest p s.lists randoms r gives.0;
      replied = sent ∙ ap (λ (xs : List (List ℕ)). before ++ flat_map spelling (renewals_to a r xs)) is
          ∙ ap (λ (ms : List TunnelMessage). before ++ flat_map spelling ms) (renewals_named a r part.lists.members);
      keeps = same ∙ gives.1;
      draws = gives.2;
    })

pub rolled_is : (a : Answers) (s : State) (randoms : List ℕ) → step a s Rolled randoms ≡ rolling a s (issue s.profile s.lists randoms)
unfolding step
rolled_is a s randoms = refl
