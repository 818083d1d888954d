-- Events of a key distributor, and what its replies bring to a publisher.
use Rattle.std.specs.List.{list_any}
use Rattle.std.specs.Str.{bytes_eq}
use Rattle.std.proofs.lemmas.Slice.Eq.{bytes_eq-Decides}
use Rattle.std.specs.Prelude.{Option, Some, None, Result, Ok, Err, is_some, nat_le}
use Rattle.std.proofs.Common.{◌≡◌, ℕ, ◌+◌, ◌<◌, ◌≤◌, ◌&&◌, Bool, true, false, cond, eqb, List, [], ◌∷◌, ◌++◌, length, map, ⊎_elim, refl, sym, ap, subst, ◌∙◌, append-nil, arith}
use Rattle.std.proofs.lemmas.Bool.{cases_Bool, cond-true, cond-false}
use Rattle.std.proofs.lemmas.List.{length-append}
use Rattle.perc_base.specs.Profile.{key_length, profile_number}
use Rattle.perc_base.specs.declared.profile.Profile.{Profile}
use Rattle.perc_kdf.specs.Derivation.{KeyAndSalt}
use Rattle.perc_ekt.specs.declared.record.EktKeyRecord.{EktKeyRecord}
use Rattle.perc_tunnel.specs.declared.message.MediaKeys as keys
use Rattle.perc_tunnel.specs.Message.{TunnelMessage, SupportedProfiles, UnsupportedVersion, MediaKeys, TunneledDtls, EndpointDisconnect}
use Rattle.perc_keyset.specs.declared.Added.{Added}
use Rattle.perc_keyset.specs.declared.Added.TheVariants.{New, Same}
use Rattle.perc_keyset.specs.declared.AddFault.{AddFault}
use Rattle.perc_keyset.specs.declared.Op.{Op}
use Rattle.perc_keyset.specs.declared.Op.TheVariants.{Add, Remove}
use Rattle.perc_keyset.specs.Calls.{Call, AddCall, RemoveCall, after_call, after_calls}
use Rattle.perc_keyset.specs.History.{adds}
use Rattle.perc_keyset.specs.Accepting.{add_answer, after_add, most_adds, new_entry}
use Rattle.perc_keyset.specs.Set.{fold_ops, holds}
use Rattle.perc_keyset.proofs.SetLaws.{adds-append}
use Rattle.perc_keeper.specs.Lists.{Lists, is_member, member_of, newest, spi_of, with_issued, with_member, without_member}
use Rattle.perc_keydist.specs.declared.handshake.Hello.{Hello}
use Rattle.perc_keydist.specs.declared.handshake.Hello.TheVariants.{Join, Other}
use Rattle.perc_keydist.specs.Answers.{Answers}
use Rattle.perc_keydist.specs.Distributing as spec
use Rattle.perc_keydist.specs.Distributing.{Event, Heard, Rolled, Fault, Order, SpiSpent, KeyRepeated, Part, Replying, State, Turn, before, hear, repeats, run_of, step}
use Rattle.perc_keydist.proofs.Joining.{no_member}
use Rattle.perc_keydist.proofs.Hearing.{none_out}
use Rattle.perc_membership.specs.Membership.{AreTaken, IsTaken, MembersAreHeld, HasMembers, adds_of, calls_at, calls_over, member}
use Rattle.perc_membership.proofs.Matching.{Matches, member_same, removed_matches, stranger_matches, stranger_new}

some_fault : (f : Fault) → Some f ≡ None → ⊥
some_fault f e = cc

-- ---- calls in turn

after-append : (ops : List Op) (calls more : List Call) → after_calls ops (calls ++ more) ≡ after_calls (after_calls ops calls) more
after-append ops [] more = refl
after-append ops (call ∷ calls) more = after-append (after_call ops call) calls more

taken-append : (ops : List Op) (calls more : List Call) → AreTaken ops calls → AreTaken (after_calls ops calls) more → AreTaken ops (calls ++ more)
taken-append ops [] more h later = later
taken-append ops (AddCall association client server ∷ calls) more h later = (h.0, taken-append (after_call ops (AddCall association client server)) calls more h.1 later)
taken-append ops (RemoveCall association ∷ calls) more h later = taken-append (after_call ops (RemoveCall association)) calls more h later

-- adds are never fewer
more_adds : (ops more : List Op) → length (adds ops) ≤ length (adds (ops ++ more))
more_adds ops more =
    let both : length (adds (ops ++ more)) ≡ length (adds ops) + length (adds more) = ap length (adds-append ops more) ∙ length-append (adds ops) (adds more) in
    omega (arith, both)

call_grows : (ops : List Op) (call : Call) → length (adds ops) ≤ length (adds (after_call ops call))
call_grows ops (AddCall association client server) = by_answer (add_answer ops association client server) where
  by_answer : (answer : Result Added AddFault) → length (adds ops) ≤ length (adds (after_add ops association client server answer))
  by_answer (Ok New) = more_adds ops (Add (new_entry ops association client server) ∷ [])
  by_answer (Ok Same) = omega arith
  by_answer (Err fault) = omega arith
call_grows ops (RemoveCall association) = by_test (holds (fold_ops ops) association) where
  by_test : (b : Bool) → length (adds ops) ≤ length (adds (cond b (ops ++ Remove association ∷ []) ops))
  by_test true = more_adds ops (Remove association ∷ [])
  by_test false = omega arith

calls_grow : (ops : List Op) (calls : List Call) → length (adds ops) ≤ length (adds (after_calls ops calls))
calls_grow ops [] = omega arith
calls_grow ops (call ∷ calls) = let one = call_grows ops call in let rest = calls_grow (after_call ops call) calls in omega (arith, one, rest)

-- ---- what a turn brings

-- calls are taken, and the key set behind them matches what is kept then
record Keeps (first : List KeyAndSalt) (ops : List Op) (calls : List Call) (l : Lists) : Type 0 where
  pub taken : AreTaken ops calls
  pub matches : Matches first (after_calls ops calls) l

idle : (first : List KeyAndSalt) (ops : List Op) (l : Lists) → Matches first ops l → Keeps first ops [] l
idle first ops l m = record { taken = tt; matches = m }

-- members and pairs are as before
record AreKept (l : Lists) (part : Part EktKeyRecord) : Type 0 where
  pub given : part.lists.given ≡ l.given
  pub members : part.lists.members ≡ l.members

-- an EKT key that is drawn, and what is issued of it
abbrev issued_of : Profile → Lists → List ℕ → Bool → Part EktKeyRecord
issued_of p l randoms again =
    let r = spec.drawn_record p l.issued (spec.drawn_pair (key_length p) randoms) in
    let rest = spec.behind_pair (key_length p) randoms in
    cond again (record { answer = Err KeyRepeated; lists = l; randoms = rest }) (record { answer = Ok r; lists = with_issued r l; randoms = rest })

issuing_kept : (p : Profile) (l : Lists) (randoms : List ℕ) (again : Bool) → AreKept l (issued_of p l randoms again)
issuing_kept p l randoms true = record { given = refl; members = refl }
issuing_kept p l randoms false = record { given = refl; members = refl }

issue_kept : (p : Profile) (l : Lists) (randoms : List ℕ) → AreKept l (spec.issue p l randoms)
issue_kept p l randoms = by_test (nat_le 65536 (spec.next_spi l.issued)) where
  by_test : (b : Bool)
      → AreKept l (cond b (record { answer = Err SpiSpent; lists = l; randoms = randoms }) (issued_of p l randoms (is_some (spi_of l.issued (spec.drawn_pair (key_length p) randoms).key))))
  by_test true = record { given = refl; members = refl }
  by_test false = issuing_kept p l randoms (is_some (spi_of l.issued (spec.drawn_pair (key_length p) randoms).key))

grant_kept : (p : Profile) (l : Lists) (randoms : List ℕ) (o : Option EktKeyRecord) → AreKept l (spec.granting p l randoms o)
grant_kept p l randoms None = issue_kept p l randoms
grant_kept p l randoms (Some r) = by_test (eqb r.len (key_length p)) where
  by_test : (b : Bool) → AreKept l (cond b (record { answer = Ok r; lists = l; randoms = randoms }) (spec.issue p l randoms))
  by_test true = record { given = refl; members = refl }
  by_test false = issue_kept p l randoms

matches_kept : (first : List KeyAndSalt) (ops : List Op) (l : Lists) (part : Part EktKeyRecord) → AreKept l part → Matches first ops l → Matches first ops part.lists
matches_kept first ops l part k m = record {
  parties = subst (HasMembers ops) (sym k.members) m.parties;
  given = k.given ∙ m.given;
  few = subst (λ (members : List keys.MediaKeys). length members ≤ 64) (sym k.members) m.few;
}

some_same : (j k : keys.MediaKeys) → ◌≡◌ {A = Option keys.MediaKeys} (Some j) (Some k) → j ≡ k
some_same j k e = cc

found_named : (members : List keys.MediaKeys) (association : List ℕ) (k : keys.MediaKeys) → member_of members association ≡ Some k → bytes_eq k.association association ≡ true
found_named [] association k found = absurd cc
found_named (j ∷ members) association k found = by_test (bytes_eq j.association association) refl found (found_named members association k) where
  by_test : (b : Bool) → bytes_eq j.association association ≡ b → cond b (Some j) (member_of members association) ≡ Some k
      → (member_of members association ≡ Some k → bytes_eq k.association association ≡ true) → bytes_eq k.association association ≡ true
  by_test true is found rest = ap (λ (i : keys.MediaKeys). bytes_eq i.association association) (sym (some_same j k found)) ∙ is
  by_test false is found rest = rest found

-- who is found has the name that was looked for
found_again : (members : List keys.MediaKeys) (association : List ℕ) (k : keys.MediaKeys) → member_of members association ≡ Some k → member_of members k.association ≡ Some k
found_again [] association k found = absurd cc
found_again (j ∷ members) association k found = by_test (bytes_eq j.association association) refl found (found_again members association k) where
  by_test : (b : Bool) → bytes_eq j.association association ≡ b → cond b (Some j) (member_of members association) ≡ Some k
      → (member_of members association ≡ Some k → member_of members k.association ≡ Some k) → member_of (j ∷ members) k.association ≡ Some k
  by_test true is found rest =
      let name : j.association ≡ association = (bytes_eq-Decides j.association association).0 is in
      let same : j ≡ k = some_same j k found in
      let own : bytes_eq j.association k.association ≡ true = (bytes_eq-Decides j.association k.association).1 (ap (λ (i : keys.MediaKeys). i.association) same) in
      cond-true (bytes_eq j.association k.association) (Some j) (member_of members k.association) own ∙ found
  by_test false is found rest =
      let name : bytes_eq k.association association ≡ true = found_named members association k found in
      let other : bytes_eq j.association k.association ≡ false =
      ap (λ (xs : List ℕ). bytes_eq j.association xs) ((bytes_eq-Decides k.association association).0 name) ∙ is in
      cond-false (bytes_eq j.association k.association) (Some j) (member_of members k.association) other ∙ rest found

module _ (first : List KeyAndSalt) (ops : List Op) (l : Lists) (m : Matches first ops l) (few : length (adds ops) < most_adds) where
  -- what a part that replies brings, where it brings no fault
  abbrev Replies : Replying → Type 0
  Replies part = (replies : List TunnelMessage) → part.answer ≡ Ok replies → Keeps first ops (adds_of replies) part.lists

  ok_same : (xs ys : List TunnelMessage) → ◌≡◌ {A = Result (List TunnelMessage) Fault} (Ok xs) (Ok ys) → xs ≡ ys
  ok_same xs ys e = cc

  no_replies : (f : Fault) (replies : List TunnelMessage) → ◌≡◌ {A = Result (List TunnelMessage) Fault} (Err f) (Ok replies) → ⊥
  no_replies f replies e = cc

  silent : (randoms : List ℕ) → Replies (spec.silent l randoms)
  silent randoms replies is = subst (λ (ms : List TunnelMessage). Keeps first ops (adds_of ms) l) (ok_same [] replies is) (idle first ops l m)

  again : (a : Answers) (k : keys.MediaKeys) (randoms : List ℕ) (o : Option EktKeyRecord) → member_of l.members k.association ≡ Some k → Replies (spec.welcoming_again a k l randoms o)
  again a k randoms None found replies is = silent randoms replies is
  again a k randoms (Some r) found replies is =
      let same = member_same first ops l m k found in
      subst (λ (ms : List TunnelMessage). Keeps first ops (adds_of ms) l) (ok_same (spec.welcomed a k r) replies is) (record {
        taken = (subst IsTaken (sym same) tt, tt);
        matches = subst (λ (now : List Op). Matches first now l) (sym (ap (after_add ops k.association k.client k.server) same)) m;
      })

  -- the keys of a stranger are kept
  module _ (k : keys.MediaKeys) (now : Lists) (kept : Matches first ops now) (none : member_of now.members k.association ≡ None) (room : nat_le 64 (length now.members) ≡ false) where
    admitted : (a : Answers) (r : EktKeyRecord) (randoms : List ℕ) → Replies (spec.welcoming a r (spec.admitting now k randoms))
    admitted a r randoms = ⊎_elim (λ (old : repeats k now ≡ true). again_keys old) (λ (fresh : repeats k now ≡ false). new_keys fresh) (cases_Bool (repeats k now)) where
      again_keys : repeats k now ≡ true → (replies : List TunnelMessage) → (spec.welcoming a r (spec.admitting now k randoms)).answer ≡ Ok replies
          → Keeps first ops (adds_of replies) (spec.welcoming a r (spec.admitting now k randoms)).lists
      again_keys old =
          subst (λ (part : Part keys.MediaKeys). (replies : List TunnelMessage) → (spec.welcoming a r part).answer ≡ Ok replies → Keeps first ops (adds_of replies) (spec.welcoming a r part).lists)
          (sym (cond-true (repeats k now) (record { answer = Err KeyRepeated; lists = now; randoms = randoms }) (record { answer = Ok k; lists = with_member k now; randoms = randoms }) old))
          (λ replies is. absurd (no_replies KeyRepeated replies is))

      new_keys : repeats k now ≡ false → (replies : List TunnelMessage) → (spec.welcoming a r (spec.admitting now k randoms)).answer ≡ Ok replies
          → Keeps first ops (adds_of replies) (spec.welcoming a r (spec.admitting now k randoms)).lists
      new_keys fresh =
          let stranger = no_member now.members k.association (sym none) in
          let new = stranger_new first ops now kept k stranger none fresh room few in
          subst (λ (part : Part keys.MediaKeys). (replies : List TunnelMessage) → (spec.welcoming a r part).answer ≡ Ok replies → Keeps first ops (adds_of replies) (spec.welcoming a r part).lists)
          (sym (cond-false (repeats k now) (record { answer = Err KeyRepeated; lists = now; randoms = randoms }) (record { answer = Ok k; lists = with_member k now; randoms = randoms }) fresh))
          (λ replies is. subst (λ (ms : List TunnelMessage). Keeps first ops (adds_of ms) (with_member k now)) (ok_same (spec.welcomed a k r) replies is) (record {
            taken = (subst IsTaken (sym new) tt, tt);
            matches = stranger_matches first ops now kept k stranger none fresh room few;
          }))

  joining : (a : Answers) (p : Profile) (association : List ℕ) (granted : Part EktKeyRecord) → AreKept l granted → member_of l.members association ≡ None
      → nat_le 64 (length l.members) ≡ false → Replies (spec.joining a p association granted)
  joining a p association granted k none room = by_answer granted.answer where
    by_answer : (answer : Result EktKeyRecord Fault) → (replies : List TunnelMessage)
        → (spec.joining a p association (record { answer = answer; lists = granted.lists; randoms = granted.randoms })).answer ≡ Ok replies
        → Keeps first ops (adds_of replies) (spec.joining a p association (record { answer = answer; lists = granted.lists; randoms = granted.randoms })).lists
    by_answer (Ok r) = admitted (spec.drawn_keys p association granted.randoms) granted.lists (matches_kept first ops l granted k m)
        (ap (λ (members : List keys.MediaKeys). member_of members association) k.members ∙ none) (ap (λ (members : List keys.MediaKeys). nat_le 64 (length members)) k.members ∙ room)
        a r (spec.behind_keys p granted.randoms)
    by_answer (Err fault) = λ replies is. absurd (no_replies fault replies is)

  join : (a : Answers) (p : Profile) (association : List ℕ) (randoms : List ℕ) (o : Option keys.MediaKeys) → member_of l.members association ≡ o
      → Replies (spec.join_of a p association l randoms o)
  join a p association randoms (Some k) found = again a k randoms (newest l.issued) (found_again l.members association k found)
  join a p association randoms None none = ⊎_elim (λ (full : nat_le 64 (length l.members) ≡ true). no_room full) (λ (room : nat_le 64 (length l.members) ≡ false). with_room room)
      (cases_Bool (nat_le 64 (length l.members))) where
        no_room : nat_le 64 (length l.members) ≡ true → (replies : List TunnelMessage) → (spec.join_of a p association l randoms None).answer ≡ Ok replies
            → Keeps first ops (adds_of replies) (spec.join_of a p association l randoms None).lists
        no_room full =
            subst (λ (part : Replying). (replies : List TunnelMessage) → part.answer ≡ Ok replies → Keeps first ops (adds_of replies) part.lists)
            (sym (cond-true (nat_le 64 (length l.members)) (spec.silent l randoms) (spec.joining a p association (spec.grant p l randoms)) full)) (silent randoms)

        with_room : nat_le 64 (length l.members) ≡ false → (replies : List TunnelMessage) → (spec.join_of a p association l randoms None).answer ≡ Ok replies
            → Keeps first ops (adds_of replies) (spec.join_of a p association l randoms None).lists
        with_room room =
            subst (λ (part : Replying). (replies : List TunnelMessage) → part.answer ≡ Ok replies → Keeps first ops (adds_of replies) part.lists)
            (sym (cond-false (nat_le 64 (length l.members)) (spec.silent l randoms) (spec.joining a p association (spec.grant p l randoms)) room))
            (joining a p association (spec.grant p l randoms) (grant_kept p l randoms (newest l.issued)) none room)

  record_replies : (a : Answers) (p : Profile) (accepted association : List ℕ) (randoms : List ℕ) (h : Hello) → Replies (spec.record_heard a p accepted association l randoms h)
  record_replies a p accepted association randoms (Join number) = by_test (eqb number (profile_number p) && list_any (λ q. eqb q number) accepted) where
    by_test : (b : Bool) → (replies : List TunnelMessage) → (cond b (spec.join a p association l randoms) (spec.silent l randoms)).answer ≡ Ok replies
        → Keeps first ops (adds_of replies) (cond b (spec.join a p association l randoms) (spec.silent l randoms)).lists
    by_test true = join a p association randoms (member_of l.members association) refl
    by_test false = silent randoms
  record_replies a p accepted association randoms Other = silent randoms

  -- ---- turns

  -- what a turn brings, where it brings no fault
  abbrev Goes : Event → Turn → Type 0
  Goes event t = t.fault ≡ None → Keeps first ops (calls_at event t.replies) t.state.lists

  replied : (s : State) (association octets : List ℕ) (part : Replying) → Replies part → Goes (Heard (TunneledDtls association octets)) (spec.turn_of s part)
  replied s association octets part h = by_answer part.answer refl where
    by_answer : (answer : Result (List TunnelMessage) Fault) → part.answer ≡ answer
        → Goes (Heard (TunneledDtls association octets)) (spec.turn_of s (record { answer = answer; lists = part.lists; randoms = part.randoms }))
    by_answer (Ok replies) is = λ none. h replies is
    by_answer (Err fault) is = λ none. absurd (some_fault fault none)

no_renewal_adds : (a : Answers) (r : EktKeyRecord) (members : List keys.MediaKeys) → adds_of (spec.renewals a r members) ≡ []
no_renewal_adds a r [] = refl
no_renewal_adds a r (k ∷ members) = no_renewal_adds a r members

module _ (first : List KeyAndSalt) (ops : List Op) (s : State) (m : Matches first ops s.lists) (few : length (adds ops) < most_adds) where
  heard_goes : (a : Answers) (randoms : List ℕ) (message : TunnelMessage) (o : Option (List ℕ)) → Goes first ops s.lists m few (Heard message) (hear a s randoms message o)
  heard_goes a randoms (SupportedProfiles version profiles) None = by_test (eqb version 0) where
    by_test : (b : Bool) → Goes first ops s.lists m few (Heard (SupportedProfiles version profiles))
        (cond b (spec.quiet (record s { accepted = Some profiles }) randoms) (record { replies = UnsupportedVersion 0 ∷ []; state = s; randoms = randoms; fault = None }))
    by_test true = λ none. idle first ops s.lists m
    by_test false = λ none. idle first ops s.lists m
  heard_goes a randoms (SupportedProfiles version profiles) (Some accepted) = λ none. absurd (some_fault (Order 1) none)
  heard_goes a randoms (UnsupportedVersion highest) o = λ none. absurd (some_fault (Order 2) none)
  heard_goes a randoms (MediaKeys association profile client server) o = λ none. absurd (some_fault (Order 3) none)
  heard_goes a randoms (TunneledDtls association octets) None = λ none. absurd (some_fault (Order 4) none)
  heard_goes a randoms (TunneledDtls association octets) (Some accepted) =
      replied first ops s.lists m few s association octets (spec.record_heard a s.profile accepted association s.lists randoms (a.taken octets))
      (record_replies first ops s.lists m few a s.profile accepted association randoms (a.taken octets))
  heard_goes a randoms (EndpointDisconnect association) None = λ none. absurd (some_fault (Order 5) none)
  heard_goes a randoms (EndpointDisconnect association) (Some accepted) = by_test (is_member s.lists.members association) refl where
    by_test : (b : Bool) → is_member s.lists.members association ≡ b → Goes first ops s.lists m few (Heard (EndpointDisconnect association))
        (cond b (spec.quiet (record s { lists = without_member association s.lists; left = s.left + 1 }) randoms) (spec.quiet s randoms))
    by_test true is = λ none. record { taken = tt; matches = removed_matches first ops s.lists m association }
    by_test false is = λ none. record {
      taken = tt;
      matches = subst (Matches first (after_call ops (RemoveCall association)))
          (ap (λ (members : List keys.MediaKeys). record s.lists { members = members }) (none_out s.lists.members association is))
          (removed_matches first ops s.lists m association);
    }

  rolled_goes : (a : Answers) (part : Part EktKeyRecord) → AreKept s.lists part → Goes first ops s.lists m few Rolled (spec.rolling a s part)
  rolled_goes a part k = by_answer part.answer where
    by_answer : (answer : Result EktKeyRecord Fault)
        → Goes first ops s.lists m few Rolled (spec.rolling a s (record { answer = answer; lists = part.lists; randoms = part.randoms }))
    by_answer (Ok r) = λ none.
        subst (λ (calls : List Call). Keeps first ops calls part.lists) (sym (no_renewal_adds a r part.lists.members))
        (idle first ops part.lists (matches_kept first ops s.lists part k m))
    by_answer (Err fault) = λ none. absurd (some_fault fault none)

  step_goes : (a : Answers) (event : Event) (randoms : List ℕ) → Goes first ops s.lists m few event (step a s event randoms)
  unfolding step
  step_goes a (Heard message) randoms = heard_goes a randoms message s.accepted
  step_goes a Rolled randoms = rolled_goes a (spec.issue s.profile s.lists randoms) (issue_kept s.profile s.lists randoms)

-- ---- a run

opened : (first : List KeyAndSalt) (ops : List Op) (s : State) (m : Matches first ops s.lists) (few : length (adds ops) < most_adds) (event : Event) (t : Turn)
    → Goes first ops s.lists m few event t → t.fault ≡ None → Keeps first ops (calls_at event t.replies) t.state.lists
opened first ops s m few event t h = h

-- a turn, and the later ones behind it
by_fault : (first : List KeyAndSalt) (ops : List Op) (a : Answers) (events : List Event) (t : Turn) (event : Event) (o : Option Fault) → t.fault ≡ o
    → (before t o (run_of a t.state events t.randoms)).fault ≡ None → (t.fault ≡ None → Keeps first ops (calls_at event t.replies) t.state.lists)
    → length (adds (after_calls ops (calls_at event t.replies ++ calls_over a t.state events t.randoms))) < most_adds
    → (Matches first (after_calls ops (calls_at event t.replies)) t.state.lists → (run_of a t.state events t.randoms).fault ≡ None
    → length (adds (after_calls (after_calls ops (calls_at event t.replies)) (calls_over a t.state events t.randoms))) < most_adds
    → Keeps first (after_calls ops (calls_at event t.replies)) (calls_over a t.state events t.randoms) (run_of a t.state events t.randoms).state.lists)
    → Keeps first ops (calls_at event t.replies ++ calls_over a t.state events t.randoms) (before t o (run_of a t.state events t.randoms)).state.lists
by_fault first ops a events t event (Some fault) is none here few later = absurd (some_fault fault (sym is ∙ none))
by_fault first ops a events t event None is none here few later =
    let calls = calls_at event t.replies in
    let more = calls_over a t.state events t.randoms in
    let k = here is in
    let split = after-append ops calls more in
    let rest = later k.matches none (subst (λ (now : List Op). length (adds now) < most_adds) split few) in
    record {
      taken = taken-append ops calls more k.taken rest.taken;
      matches = subst (λ (now : List Op). Matches first now (run_of a t.state events t.randoms).state.lists) (sym split) rest.matches;
    }

run_keeps : (first : List KeyAndSalt) (ops : List Op) (a : Answers) (s : State) (events : List Event) (randoms : List ℕ) → Matches first ops s.lists → (run_of a s events randoms).fault ≡ None
    → length (adds (after_calls ops (calls_over a s events randoms))) < most_adds → Keeps first ops (calls_over a s events randoms) (run_of a s events randoms).state.lists
run_keeps first ops a s [] randoms m none few = idle first ops s.lists m
run_keeps first ops a s (event ∷ events) randoms m none few =
    let t = step a s event randoms in
    let calls = calls_at event t.replies in
    let more = calls_over a t.state events t.randoms in
    let later = run_of a t.state events t.randoms in
    let grows = calls_grow ops (calls ++ more) in
    let now : length (adds ops) < most_adds = omega (arith, grows, few) in
    by_fault first ops a events t event t.fault refl none (opened first ops s m now event t (step_goes first ops s m now a event randoms))
    few (λ matches ends fewer. run_keeps first (after_calls ops calls) a t.state events t.randoms matches ends fewer)

pub members_are_held : MembersAreHeld
members_are_held a s events randoms none_yet no_fault few =
    let start : Matches s.lists.given [] s.lists = record {
      parties = ap (λ (members : List keys.MediaKeys). map member members) (sym none_yet);
      given = sym (append-nil s.lists.given);
      few = subst (λ (members : List keys.MediaKeys). length members ≤ 64) (sym none_yet) (omega arith);
    } in
    let k = run_keeps s.lists.given [] a s events randoms start no_fault few in
    (k.taken, k.matches.parties)
