-- What is kept beside the accepted adds and removals: the earlier of two gifts is that of the earliest add, and what is kept stays that of the history.
use Rattle.std.specs.BTreeMap as tree
use Rattle.std.specs.BTreeMap.{BTreeMap}
use Rattle.std.proofs.Common.{◌≡◌, ℕ, ◌+◌, ◌≤◌, ◌<◌, Bool, true, false, cond, ◌||◌, List, [], ◌∷◌, ◌++◌, length, ⊎_elim, refl, sym, ap, ◌∙◌, subst, arith, append-nil}
use Rattle.std.proofs.lemmas.Bool.{cases_Bool, cond-true, cond-false, le-ltb, lt-ltb, or_cases, or_parts}
use Rattle.std.proofs.lemmas.List.{length-append}
use Rattle.std.proofs.lemmas.List.Folds.{find-append}
use Rattle.std.specs.List.{find}
use Rattle.std.specs.Option.{option_map, option_or}
use Rattle.std.specs.Prelude.{Option, Some, None, Ok, IfSome, nat_lt}
use Rattle.perc_kdf.specs.Derivation.{KeyAndSalt}
use Rattle.perc_kdf.specs.Order.{pair_cmp, same_pair}
use Rattle.perc_kdf.proofs.OrderLaws.{same_pair-Decides}
use Rattle.perc_keyset.specs.declared.Added.TheVariants.{New}
use Rattle.perc_keyset.specs.declared.Entry.{Entry}
use Rattle.perc_keyset.specs.declared.given.Gift.{Gift}
use Rattle.perc_keyset.specs.declared.Op.{Op}
use Rattle.perc_keyset.specs.declared.Op.TheVariants.{Add, Remove}
use Rattle.perc_keyset.specs.Set.{absorbed, fold_ops}
use Rattle.perc_keyset.specs.History.{IsHistory, adds}
use Rattle.perc_keyset.specs.Accepting.{add_answer, gave, new_entry, reused_by}
use Rattle.perc_keyset.specs.Kept.{AreGiven, IsKept, earlier, gift_of, given_by, gives}
use Rattle.perc_keyset.proofs.HistoryLaws.{CountFrom, counts_head, counts_tail}
use Rattle.perc_keyset.proofs.AcceptingLaws.{IsAccepted-from_answer, IsHistory-add, IsHistory-remove}
use Rattle.perc_keyset.proofs.SetLaws.{adds-append, set_after-append}

-- ---- the earliest of two

first_stays : (gift : Gift) (other : Option Gift) → IfSome other (λ g. gift.serial < g.serial) → earlier (Some gift) other ≡ Some gift
first_stays gift None later = refl
first_stays gift (Some other) later = cond-false (nat_lt other.serial gift.serial) (Some other) (Some gift) (le-ltb other.serial gift.serial (omega arith))

second_wins : (gift : Gift) (other : Option Gift) → IfSome other (λ g. gift.serial < g.serial) → earlier other (Some gift) ≡ Some gift
second_wins gift None later = refl
second_wins gift (Some other) later = cond-true (nat_lt gift.serial other.serial) (Some gift) (Some other) (lt-ltb gift.serial other.serial later)

itself : (gift : Gift) → earlier (Some gift) (Some gift) ≡ Some gift
itself gift = cond-false (nat_lt gift.serial gift.serial) (Some gift) (Some gift) (le-ltb gift.serial gift.serial (omega arith))

-- the serial of a gift is none before the first
later_gift : (a : ℕ) (es : List Entry) (q : KeyAndSalt) → CountFrom a es → IfSome (given_by es q) (λ g. a ≤ g.serial)
later_gift a [] q counts = tt
later_gift a (e ∷ es) q counts =
    ⊎_elim (λ (here : gives q e ≡ true).
    subst (λ (o : Option Entry). IfSome (option_map gift_of o) (λ g. a ≤ g.serial)) (sym (cond-true (gives q e) (Some e) (find (gives q) es) here)) (omega (arith, counts_head a e es counts)))
    (λ (there : gives q e ≡ false).
    subst (λ (o : Option Entry). IfSome (option_map gift_of o) (λ g. a ≤ g.serial)) (sym (cond-false (gives q e) (Some e) (find (gives q) es) there))
    (weaker a (given_by es q) (later_gift (a + 1) es q (counts_tail a e es counts))))
    (cases_Bool (gives q e)) where
      weaker : (a : ℕ) (o : Option Gift) → IfSome o (λ g. a + 1 ≤ g.serial) → IfSome o (λ g. a ≤ g.serial)
      weaker a None h = tt
      weaker a (Some g) h = omega arith

above : (serial a : ℕ) (o : Option Gift) → serial ≡ a → IfSome o (λ g. a + 1 ≤ g.serial) → IfSome o (λ g. serial < g.serial)
above serial a None same h = tt
above serial a (Some g) same h = omega arith

four : (a b c d : Bool) → ((a || b) || (c || d)) ≡ ((a || c) || (b || d))
four true b c d = refl
four false true true d = refl
four false true false d = refl
four false false true d = refl
four false false false d = refl

-- which add gave one of two pairs first
pub earliest : (a : ℕ) (es : List Entry) (client server : KeyAndSalt) → CountFrom a es
    → option_map gift_of (find (gave client server) es) ≡ earlier (given_by es client) (given_by es server)
earliest a [] client server counts = refl
earliest a (e ∷ es) client server counts =
    let head = counts_head a e es counts in
    let tail : CountFrom (a + 1) es = counts_tail a e es counts in
    let after_client = above e.serial a (given_by es client) head (later_gift (a + 1) es client tail) in
    let after_server = above e.serial a (given_by es server) head (later_gift (a + 1) es server tail) in
    let one = four (same_pair e.client client) (same_pair e.client server) (same_pair e.server client) (same_pair e.server server) in
    ap (λ (b : Bool). option_map gift_of (cond b (Some e) (find (gave client server) es))) one
    ∙ by_tests (gives client e) (gives server e) e (find (gave client server) es) (find (gives client) es) (find (gives server) es) after_client after_server (earliest (a + 1) es client server tail) where
      by_tests : (p q : Bool) (e : Entry) (either first second : Option Entry)
          → IfSome (option_map gift_of first) (λ g. e.serial < g.serial) → IfSome (option_map gift_of second) (λ g. e.serial < g.serial)
          → option_map gift_of either ≡ earlier (option_map gift_of first) (option_map gift_of second)
          → option_map gift_of (cond (p || q) (Some e) either) ≡ earlier (option_map gift_of (cond p (Some e) first)) (option_map gift_of (cond q (Some e) second))
      by_tests true true e either first second x y same = sym (itself (gift_of e))
      by_tests true false e either first second x y same = sym (first_stays (gift_of e) (option_map gift_of second) y)
      by_tests false true e either first second x y same = sym (second_wins (gift_of e) (option_map gift_of first) x)
      by_tests false false e either first second x y same = same

association_of : (o : Option Entry) → option_map (λ e. e.association) o ≡ option_map (λ g. g.association) (option_map gift_of o)
association_of None = refl
association_of (Some e) = refl

-- whose pair would be used again, by two look-ups
pub reused_by_gifts : (ops : List Op) (association : List ℕ) (client server : KeyAndSalt) → IsHistory ops
    → reused_by (adds ops) association client server ≡ option_or (option_map (λ g. g.association) (earlier (given_by (adds ops) client) (given_by (adds ops) server))) (cond (same_pair client server) (Some association) None)
reused_by_gifts ops association client server history =
    ap (λ (o : Option (List ℕ)). option_or o (cond (same_pair client server) (Some association) None))
    (association_of (find (gave client server) (adds ops)) ∙ ap (λ (o : Option Gift). option_map (λ g. g.association) o) (earliest 0 (adds ops) client server history.serials))

-- ---- pairs that weren't given

-- where an add is accepted, no add gave one of its pairs
none_of_either : (client server : KeyAndSalt) (es : List Entry) → find (gave client server) es ≡ None → (find (gives client) es ≡ None) × (find (gives server) es ≡ None)
none_of_either client server [] none = (refl, refl)
none_of_either client server (e ∷ es) none =
    let one = four (same_pair e.client client) (same_pair e.client server) (same_pair e.server client) (same_pair e.server server) in
    ⊎_elim (λ (yes : gave client server e ≡ true). let some = sym (cond-true (gave client server e) (Some e) (find (gave client server) es) yes) ∙ none in absurd cc)
    (λ (neither : gave client server e ≡ false).
    let parts = or_parts (gives client e) (gives server e) (sym one ∙ neither) in
    let rest = none_of_either client server es (sym (cond-false (gave client server e) (Some e) (find (gave client server) es) neither) ∙ none) in
    (cond-false (gives client e) (Some e) (find (gives client) es) parts.0 ∙ rest.0, cond-false (gives server e) (Some e) (find (gives server) es) parts.1 ∙ rest.1))
    (cases_Bool (gave client server e))

-- Neither pair of this entry is in the map.
pub record AreNotGiven (found : KeyAndSalt → Option Gift) (e : Entry) : Type 0 where
  pub client : found e.client ≡ None
  pub server : found e.server ≡ None

pub AreNotGiven-accepted : (ops : List Op) (association : List ℕ) (client server : KeyAndSalt) (found : BTreeMap KeyAndSalt Gift) → AreGiven (adds ops) found
    → add_answer ops association client server ≡ Ok New → AreNotGiven (tree.get pair_cmp found) (new_entry ops association client server)
AreNotGiven-accepted ops association client server found given answer =
    let none = none_of_either client server (adds ops) (IsAccepted-from_answer ops association client server answer).found in
    record {
      client = given client ∙ ap (λ (o : Option Entry). option_map gift_of o) none.0;
      server = given server ∙ ap (λ (o : Option Entry). option_map gift_of o) none.1;
    }

none_where_gives : (found : KeyAndSalt → Option Gift) (e : Entry) (q : KeyAndSalt) → AreNotGiven found e → gives q e ≡ true → found q ≡ None
none_where_gives found e q absent given =
    ⊎_elim (λ (client : same_pair e.client q ≡ true). subst (λ (p : KeyAndSalt). found p ≡ None) ((same_pair-Decides e.client q).0 client) absent.client)
    (λ (server : same_pair e.server q ≡ true). subst (λ (p : KeyAndSalt). found p ≡ None) ((same_pair-Decides e.server q).0 server) absent.server)
    (or_cases (same_pair e.client q) (same_pair e.server q) given)

-- put in and taken out, the pairs leave all as it was
pub taken_back : (f g h : KeyAndSalt → Option Gift) (e : Entry) → AreNotGiven f e → ((q : KeyAndSalt) → g q ≡ cond (gives q e) (Some (gift_of e)) (f q))
    → ((q : KeyAndSalt) → h q ≡ cond (gives q e) None (g q)) → (q : KeyAndSalt) → h q ≡ f q
taken_back f g h e absent put out q =
    ⊎_elim (λ (yes : gives q e ≡ true). out q ∙ cond-true (gives q e) None (g q) yes ∙ sym (none_where_gives f e q absent yes))
    (λ (other : gives q e ≡ false). out q ∙ cond-false (gives q e) None (g q) other ∙ put q ∙ cond-false (gives q e) (Some (gift_of e)) (f q) other)
    (cases_Bool (gives q e))

-- put in, they are those of one more add
more_given : (es : List Entry) (e : Entry) (f g : KeyAndSalt → Option Gift) → AreNotGiven f e → ((q : KeyAndSalt) → f q ≡ given_by es q)
    → ((q : KeyAndSalt) → g q ≡ cond (gives q e) (Some (gift_of e)) (f q)) → (q : KeyAndSalt) → g q ≡ given_by (es ++ e ∷ []) q
more_given es e f g absent given put q =
    let last : given_by (es ++ e ∷ []) q ≡ option_map gift_of (option_or (find (gives q) es) (cond (gives q e) (Some e) None)) =
    ap (λ (o : Option Entry). option_map gift_of o) (find-append (gives q) es (e ∷ [])) in
    ⊎_elim (λ (yes : gives q e ≡ true).
    let none = sym (given q) ∙ none_where_gives f e q absent yes in
    put q ∙ cond-true (gives q e) (Some (gift_of e)) (f q) yes ∙ sym (last ∙ ap (λ (b : Bool). option_map gift_of (option_or (find (gives q) es) (cond b (Some e) None))) yes ∙ at_end (find (gives q) es) e none))
    (λ (other : gives q e ≡ false).
    put q ∙ cond-false (gives q e) (Some (gift_of e)) (f q) other ∙ given q
    ∙ sym (last ∙ ap (λ (b : Bool). option_map gift_of (option_or (find (gives q) es) (cond b (Some e) None))) other ∙ no_more (find (gives q) es)))
    (cases_Bool (gives q e)) where
      at_end : (o : Option Entry) (e : Entry) → option_map gift_of o ≡ None → option_map gift_of (option_or o (Some e)) ≡ Some (gift_of e)
      at_end None e none = refl
      at_end (Some d) e none = absurd cc

      no_more : (o : Option Entry) → option_map gift_of (option_or o None) ≡ option_map gift_of o
      no_more None = refl
      no_more (Some d) = refl

-- ---- what is kept

pub kept_same : (set : List Entry) (ops more : List Op) (count : ℕ) (m n : BTreeMap KeyAndSalt Gift) → IsKept set ops count m
    → more ≡ ops → ((q : KeyAndSalt) → tree.get pair_cmp n q ≡ tree.get pair_cmp m q) → IsKept set more count n
kept_same set ops more count m n kept more_is same = record {
  history = subst IsHistory (sym more_is) kept.history;
  held = kept.held ∙ ap fold_ops (sym more_is);
  counted = kept.counted ∙ ap (λ (os : List Op). length (adds os)) (sym more_is);
  few = rw more_is kept.few;
  given = λ q. same q ∙ kept.given q ∙ ap (λ (os : List Op). given_by (adds os) q) (sym more_is);
}

pub kept_removed : (set left : List Entry) (ops more : List Op) (count : ℕ) (m : BTreeMap KeyAndSalt Gift) (association : List ℕ) → IsKept set ops count m
    → left ≡ absorbed set (Remove association) → more ≡ ops ++ Remove association ∷ [] → IsKept left more count m
kept_removed set left ops more count m association kept left_is more_is =
    let added : adds more ≡ adds ops = ap adds more_is ∙ adds-append ops (Remove association ∷ []) ∙ append-nil (adds ops) in
    let long = ap (λ (es : List Entry). length es) added in
    record {
      history = subst IsHistory (sym more_is) (IsHistory-remove ops association kept.history);
      held = left_is ∙ ap (λ (es : List Entry). absorbed es (Remove association)) kept.held ∙ sym (set_after-append [] ops (Remove association ∷ [])) ∙ ap fold_ops (sym more_is);
      counted = kept.counted ∙ sym long;
      few = rw long kept.few;
      given = λ q. kept.given q ∙ ap (λ (es : List Entry). given_by es q) (sym added);
    }

pub kept_added : (set left : List Entry) (ops more : List Op) (count : ℕ) (m n : BTreeMap KeyAndSalt Gift) (association : List ℕ) (client server : KeyAndSalt) → IsKept set ops count m
    → add_answer ops association client server ≡ Ok New
    → (e : Entry) → e ≡ new_entry ops association client server → ((q : KeyAndSalt) → tree.get pair_cmp n q ≡ cond (gives q e) (Some (gift_of e)) (tree.get pair_cmp m q))
    → left ≡ absorbed set (Add e) → more ≡ ops ++ Add e ∷ [] → IsKept left more (count + 1) n
kept_added set left ops more count m n association client server kept answer e e_is put left_is more_is =
    let accepted = IsAccepted-from_answer ops association client server answer in
    let added : adds more ≡ adds ops ++ e ∷ [] = ap adds more_is ∙ adds-append ops (Add e ∷ []) in
    let long : length (adds more) ≡ length (adds ops) + 1 = ap (λ (es : List Entry). length es) added ∙ length-append (adds ops) (e ∷ []) in
    let absent = subst (AreNotGiven (tree.get pair_cmp m)) (sym e_is) (AreNotGiven-accepted ops association client server m kept.given answer) in
    record {
      history = subst IsHistory (sym (more_is ∙ ap (λ (d : Entry). ops ++ Add d ∷ []) e_is)) (IsHistory-add ops association client server kept.history accepted);
      held = left_is ∙ ap (λ (es : List Entry). absorbed es (Add e)) kept.held ∙ sym (set_after-append [] ops (Add e ∷ [])) ∙ ap fold_ops (sym more_is);
      counted = omega (arith, long, kept.counted);
      few = omega (arith, long, accepted.few);
      given = λ q. more_given (adds ops) e (tree.get pair_cmp m) (tree.get pair_cmp n) absent kept.given put q ∙ ap (λ (es : List Entry). given_by es q) (sym added);
    }
