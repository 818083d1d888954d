-- A key set and a list of members that have the same parties.
use Rattle.std.specs.List.{list_any}
use Rattle.std.specs.Option.{option_map, option_map_or, option_or}
use Rattle.std.specs.Prelude.{Option, Some, None, Ok, filter, find, nat_le, not}
use Rattle.std.specs.Str.{bytes_eq}
use Rattle.std.proofs.Common.{◌≡◌, ℕ, ◌+◌, ◌<◌, ◌≤◌, ◌||◌, ◌&&◌, suc, Bool, true, false, cond, List, [], ◌∷◌, ◌++◌, length, map, refl, sym, ap, subst, ◌∙◌, append_assoc, append-nil, arith}
use Rattle.std.proofs.lemmas.Bool.{cond-false, false≢true}
use Rattle.std.proofs.lemmas.Bool.Decides.{nat_tests}
use Rattle.std.proofs.lemmas.List.{length-append, map-append}
use Rattle.std.proofs.lemmas.List.Folds.{list_any-append}
use Rattle.std.proofs.lemmas.Grind.{flat_map-append}
use Rattle.perc_kdf.specs.Derivation.{KeyAndSalt}
use Rattle.perc_kdf.specs.Order.{same_pair}
use Rattle.perc_kdf.proofs.OrderLaws.{same_pair-Decides}
use Rattle.perc_tunnel.specs.declared.message.MediaKeys.{MediaKeys}
use Rattle.perc_keyset.specs.declared.Added.TheVariants.{New, Same}
use Rattle.perc_keyset.specs.declared.Entry.{Entry}
use Rattle.perc_keyset.specs.declared.Op.{Op}
use Rattle.perc_keyset.specs.declared.Op.TheVariants.{Add, Remove}
use Rattle.perc_keyset.specs.Calls.{AddCall, RemoveCall, after_call}
use Rattle.perc_keyset.specs.History.{adds, pairs_of}
use Rattle.perc_keyset.specs.Accepting.{add_answer, after_add, gave, is_same, most_adds, new_entry, reused_by}
use Rattle.perc_keyset.specs.Set as set
use Rattle.perc_keyset.specs.Set.{absorbed, entry_of, fold_ops, holds, most_entries, set_after}
use Rattle.perc_keyset.proofs.SetLaws.{absorbed_fits, absorbed_removal, adds-append, set_after-append, without-none}
use Rattle.perc_keyset.proofs.AcceptingLaws.{decided}
use Rattle.perc_keeper.specs.Lists as kept
use Rattle.perc_keeper.specs.Lists.{Lists, is_member, member_of, was_given, with_member, without_member}
use Rattle.perc_keydist.specs.Distributing.{repeats}
use Rattle.perc_membership.specs.Membership.{Party, HasMembers, entered, member}

-- ---- questions about parties

abbrev is_party : List ℕ → Party → Bool
is_party association p = bytes_eq p.association association

entered_any : (association : List ℕ) (entries : List Entry) → holds entries association ≡ list_any (is_party association) (map entered entries)
entered_any association [] = refl
entered_any association (e ∷ entries) = ap (λ (b : Bool). bytes_eq e.association association || b) (entered_any association entries)

member_any : (association : List ℕ) (members : List MediaKeys) → is_member members association ≡ list_any (is_party association) (map member members)
member_any association [] = refl
member_any association (k ∷ members) = ap (λ (b : Bool). bytes_eq k.association association || b) (member_any association members)

entered_found : (association : List ℕ) (entries : List Entry) → option_map entered (entry_of entries association) ≡ find (is_party association) (map entered entries)
entered_found association [] = refl
entered_found association (e ∷ entries) = by_test (bytes_eq e.association association) (entered_found association entries) where
  by_test : (b : Bool) → option_map entered (entry_of entries association) ≡ find (is_party association) (map entered entries)
      → option_map entered (cond b (Some e) (entry_of entries association)) ≡ cond b (Some (entered e)) (find (is_party association) (map entered entries))
  by_test true rest = refl
  by_test false rest = rest

member_found : (association : List ℕ) (members : List MediaKeys) → option_map member (member_of members association) ≡ find (is_party association) (map member members)
member_found association [] = refl
member_found association (k ∷ members) = by_test (bytes_eq k.association association) (member_found association members) where
  by_test : (b : Bool) → option_map member (member_of members association) ≡ find (is_party association) (map member members)
      → option_map member (cond b (Some k) (member_of members association)) ≡ cond b (Some (member k)) (find (is_party association) (map member members))
  by_test true rest = refl
  by_test false rest = rest

abbrev others : List ℕ → List Party → List Party
others association parties = filter (λ p. not (is_party association p)) parties

entered_others : (association : List ℕ) (entries : List Entry) → map entered (set.without association entries) ≡ others association (map entered entries)
entered_others association [] = refl
entered_others association (e ∷ entries) = by_test (bytes_eq e.association association) (entered_others association entries) where
  by_test : (b : Bool) → map entered (set.without association entries) ≡ others association (map entered entries)
      → map entered (cond (not b) (e ∷ set.without association entries) (set.without association entries))
      ≡ cond (not b) (entered e ∷ others association (map entered entries)) (others association (map entered entries))
  by_test true rest = rest
  by_test false rest = ap (λ (ps : List Party). entered e ∷ ps) rest

member_others : (association : List ℕ) (members : List MediaKeys) → map member (kept.without association members) ≡ others association (map member members)
member_others association [] = refl
member_others association (k ∷ members) = by_test (bytes_eq k.association association) (member_others association members) where
  by_test : (b : Bool) → map member (kept.without association members) ≡ others association (map member members)
      → map member (cond (not b) (k ∷ kept.without association members) (kept.without association members))
      ≡ cond (not b) (member k ∷ others association (map member members)) (others association (map member members))
  by_test true rest = rest
  by_test false rest = ap (λ (ps : List Party). member k ∷ ps) rest

length-map : {X Y : Type 0} (f : X → Y) (xs : List X) → length (map f xs) ≡ length xs
length-map f [] = refl
length-map f (x ∷ xs) = ap (λ (n : ℕ). suc n) (length-map f xs)

filter_few : (p : MediaKeys → Bool) (members : List MediaKeys) → length (filter p members) ≤ length members
filter_few p [] = omega arith
filter_few p (k ∷ members) = by_test (p k) (filter_few p members) where
  by_test : (b : Bool) → length (filter p members) ≤ length members → length (cond b (k ∷ filter p members) (filter p members)) ≤ length (k ∷ members)
  by_test true less = omega (arith, less)
  by_test false less = omega (arith, less)

-- ---- pairs

not_same : (p q : KeyAndSalt) → same_pair p q ≡ false → same_pair q p ≡ false
not_same p q apart = by_test (same_pair q p) refl where
  by_test : (b : Bool) → same_pair q p ≡ b → same_pair q p ≡ false
  by_test false is = is
  by_test true is = absurd (false≢true (sym apart ∙ (same_pair-Decides p q).1 (sym ((same_pair-Decides q p).0 is))))

same_itself : (p : KeyAndSalt) → same_pair p p ≡ true
same_itself p = (same_pair-Decides p p).1 refl

two_false : (a b : Bool) → (a || b) ≡ false → (a ≡ false) × (b ≡ false)
two_false false false e = (refl, refl)
two_false true b e = absurd cc
two_false false true e = absurd cc

-- pairs that weren't given are those of no add
new_pairs : (client server : KeyAndSalt) (entries : List Entry) → was_given (pairs_of entries) client ≡ false → was_given (pairs_of entries) server ≡ false
    → find (gave client server) entries ≡ None
new_pairs client server [] c s = refl
new_pairs client server (e ∷ entries) c s =
    let c1 = two_false (same_pair client e.client) (same_pair client e.server || was_given (pairs_of entries) client) c in
    let c2 = two_false (same_pair client e.server) (was_given (pairs_of entries) client) c1.1 in
    let s1 = two_false (same_pair server e.client) (same_pair server e.server || was_given (pairs_of entries) server) s in
    let s2 = two_false (same_pair server e.server) (was_given (pairs_of entries) server) s1.1 in
    let no : gave client server e ≡ false = (λ i. (not_same client e.client c1.0 i || not_same server e.client s1.0 i) || (not_same client e.server c2.0 i || not_same server e.server s2.0 i)) in
    cond-false (gave client server e) (Some e) (find (gave client server) entries) no ∙ new_pairs client server entries c2.1 s2.1

-- ---- a key set that matches what is kept

pub record Matches (first : List KeyAndSalt) (ops : List Op) (l : Lists) : Type 0 where
  pub parties : HasMembers ops l.members
  pub given : l.given ≡ first ++ pairs_of (adds ops)
  pub few : length l.members ≤ 64

module _ (first : List KeyAndSalt) (ops : List Op) (l : Lists) (m : Matches first ops l) where
  held_same : (association : List ℕ) → holds (fold_ops ops) association ≡ is_member l.members association
  held_same association =
      entered_any association (fold_ops ops) ∙ ap (list_any (is_party association)) m.parties ∙ sym (member_any association l.members)

  found_same : (association : List ℕ) → option_map entered (entry_of (fold_ops ops) association) ≡ option_map member (member_of l.members association)
  found_same association =
      entered_found association (fold_ops ops) ∙ ap (find (is_party association)) m.parties ∙ sym (member_found association l.members)

  abbrev is_theirs : KeyAndSalt → KeyAndSalt → Party → Bool
  is_theirs client server p = same_pair p.client client && same_pair p.server server

  by_party : (client server : KeyAndSalt) (o : Option Entry)
      → option_map_or (λ e. same_pair e.client client && same_pair e.server server) o false ≡ option_map_or (is_theirs client server) (option_map entered o) false
  by_party client server None = refl
  by_party client server (Some e) = refl

  -- a member with these keys is added again
  pub member_same : (k : MediaKeys) → member_of l.members k.association ≡ Some k → add_answer ops k.association k.client k.server ≡ Ok Same
  member_same k is =
      let same : is_same ops k.association k.client k.server ≡ true =
      by_party k.client k.server (entry_of (fold_ops ops) k.association)
      ∙ ap (λ (o : Option Party). option_map_or (is_theirs k.client k.server) o false) (found_same k.association ∙ ap (option_map member) is)
      ∙ (λ i. same_itself k.client i && same_itself k.server i) in
      ap (λ (b : Bool). decided b (reused_by (adds ops) k.association k.client k.server) (nat_le most_entries (length (set.without k.association (fold_ops ops))))
      (nat_le most_adds (length (adds ops)))) same

  -- a stranger whose keys don't repeat is added
  module _ (k : MediaKeys) (stranger : is_member l.members k.association ≡ false) (none : member_of l.members k.association ≡ None) (fresh : repeats k l ≡ false)
      (room : nat_le 64 (length l.members) ≡ false) (few : length (adds ops) < most_adds) where
    tests : (same_pair k.client k.server ≡ false) × (was_given l.given k.client ≡ false) × (was_given l.given k.server ≡ false)
    tests =
        let one = two_false (same_pair k.client k.server) (was_given l.given k.client || was_given l.given k.server) fresh in
        let two = two_false (was_given l.given k.client) (was_given l.given k.server) one.1 in
        (one.0, two.0, two.1)

    behind : (pair : KeyAndSalt) → was_given l.given pair ≡ false → was_given (pairs_of (adds ops)) pair ≡ false
    behind pair new = (two_false (was_given first pair) (was_given (pairs_of (adds ops)) pair)
        (sym (list_any-append (same_pair pair) first (pairs_of (adds ops))) ∙ ap (λ (ps : List KeyAndSalt). was_given ps pair) (sym m.given) ∙ new)).1

    unheld : holds (fold_ops ops) k.association ≡ false
    unheld = held_same k.association ∙ stranger

    alone : set.without k.association (fold_ops ops) ≡ fold_ops ops
    alone = without-none k.association (fold_ops ops) unheld

    size : length (fold_ops ops) ≡ length l.members
    size = sym (length-map entered (fold_ops ops)) ∙ ap length m.parties ∙ length-map member l.members

    not_full : nat_le most_entries (length (set.without k.association (fold_ops ops))) ≡ false
    not_full = ap (λ (es : List Entry). nat_le most_entries (length es)) alone ∙ ap (λ (n : ℕ). nat_le most_entries n) size ∙ room

    not_spent : nat_le most_adds (length (adds ops)) ≡ false
    not_spent = grind (arith, nat_tests, few)

    not_held : is_same ops k.association k.client k.server ≡ false
    not_held =
        by_party k.client k.server (entry_of (fold_ops ops) k.association)
        ∙ ap (λ (o : Option Party). option_map_or (is_theirs k.client k.server) o false) (found_same k.association ∙ ap (option_map member) none)

    unused : reused_by (adds ops) k.association k.client k.server ≡ None
    unused =
        ap (λ (o : Option Entry). option_or (option_map (λ e. e.association) o) (cond (same_pair k.client k.server) (Some k.association) None))
        (new_pairs k.client k.server (adds ops) (behind k.client tests.1) (behind k.server tests.2))
        ∙ ap (λ (b : Bool). cond b (Some k.association) None) tests.0

    pub stranger_new : add_answer ops k.association k.client k.server ≡ Ok New
    stranger_new = λ i. decided (not_held i) (unused i) (not_full i) (not_spent i)

    abbrev e : Entry
    e = new_entry ops k.association k.client k.server

    added : after_call ops (AddCall k.association k.client k.server) ≡ ops ++ Add e ∷ []
    added = ap (after_add ops k.association k.client k.server) stranger_new

    fold_is : fold_ops (ops ++ Add e ∷ []) ≡ fold_ops ops ++ e ∷ []
    fold_is = set_after-append [] ops (Add e ∷ []) ∙ absorbed_fits (fold_ops ops) e not_full ∙ ap (λ (es : List Entry). es ++ e ∷ []) alone

    one_more : length (l.members ++ k ∷ []) ≤ 64
    one_more =
        let more : length (l.members ++ k ∷ []) ≡ length l.members + 1 = length-append l.members (k ∷ []) in
        let below : length l.members < 64 = grind (arith, nat_tests, room) in
        omega (arith, more, below)

    pub stranger_matches : Matches first (after_call ops (AddCall k.association k.client k.server)) (with_member k l)
    stranger_matches = subst (λ (now : List Op). Matches first now (with_member k l)) (sym added) (record {
      parties = ap (map entered) fold_is ∙ map-append entered (fold_ops ops) (e ∷ []) ∙ ap (λ (ps : List Party). ps ++ member k ∷ []) m.parties
          ∙ sym (map-append member l.members (k ∷ []));
      given = ap (λ (ps : List KeyAndSalt). ps ++ k.client ∷ k.server ∷ []) m.given ∙ append_assoc first (pairs_of (adds ops)) (k.client ∷ k.server ∷ [])
          ∙ ap (λ (ps : List KeyAndSalt). first ++ ps) (sym (flat_map-append (λ d. d.client ∷ d.server ∷ []) (adds ops) (e ∷ [])) ∙ ap pairs_of (sym (adds-append ops (Add e ∷ []))));
      few = one_more;
    })

  -- an association is removed
  pub removed_matches : (association : List ℕ) → Matches first (after_call ops (RemoveCall association)) (without_member association l)
  removed_matches association = by_test (holds (fold_ops ops) association) refl where
    parties_without : map entered (set.without association (fold_ops ops)) ≡ map member (kept.without association l.members)
    parties_without = entered_others association (fold_ops ops) ∙ ap (others association) m.parties ∙ sym (member_others association l.members)

    fewer : length (kept.without association l.members) ≤ 64
    fewer = let less = filter_few (λ k. not (kept.is_of association k)) l.members in omega (arith, less, m.few)

    by_test : (b : Bool) → holds (fold_ops ops) association ≡ b → Matches first (cond b (ops ++ Remove association ∷ []) ops) (without_member association l)
    by_test true is = record {
      parties = ap (map entered) (set_after-append [] ops (Remove association ∷ []) ∙ absorbed_removal (fold_ops ops) association) ∙ parties_without;
      given = m.given ∙ ap (λ (es : List Entry). first ++ pairs_of es) (sym (adds-append ops (Remove association ∷ []) ∙ append-nil (adds ops)));
      few = fewer;
    }
    by_test false is = record {
      parties = ap (map entered) (sym (without-none association (fold_ops ops) is)) ∙ parties_without;
      given = m.given;
      few = fewer;
    }
