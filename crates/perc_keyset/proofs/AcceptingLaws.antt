-- What is accepted behind a history leaves a history.
use Rattle.std.proofs.Common.{◌≡◌, ◌≢◌, ℕ, ◌<◌, Bool, true, false, cond, ◌||◌, List, [], ◌∷◌, ◌++◌, length, refl, sym, ◌∙◌, subst, arith, append-nil}
use Rattle.std.proofs.lemmas.Bool.{cond_both, leb-false, or_parts}
use Rattle.std.proofs.lemmas.Grind.{flat_map-append}
use Rattle.std.proofs.lemmas.List.{append_assoc}
use Rattle.std.proofs.lemmas.List.Elements.{All-nil, All-cons, All-head, All-tail, All-push, All-weaker}
use Rattle.std.proofs.lemmas.List.Quantifiers.{all_pairs_push}
use Rattle.std.specs.List.{All, AllPairs, find}
use Rattle.std.specs.Option.{option_map, option_map_or, option_or}
use Rattle.std.specs.Prelude.{Option, Some, None, Result, Ok, Err, nat_le}
use Rattle.perc_kdf.specs.Derivation.{KeyAndSalt}
use Rattle.perc_kdf.specs.Order.{same_pair}
use Rattle.perc_kdf.proofs.OrderLaws.{same_pair-Decides}
use Rattle.perc_keyset.specs.declared.Added.{Added}
use Rattle.perc_keyset.specs.declared.Added.TheVariants.{New, Same}
use Rattle.perc_keyset.specs.declared.AddFault.{AddFault}
use Rattle.perc_keyset.specs.declared.AddFault.TheVariants.{KeyReused, SetFull, AddsSpent}
use Rattle.perc_keyset.specs.declared.Entry.{Entry}
use Rattle.perc_keyset.specs.declared.Op.{Op}
use Rattle.perc_keyset.specs.declared.Op.TheVariants.{Add, Remove}
use Rattle.perc_keyset.specs.Set.{fold_ops, holds, most_entries, without}
use Rattle.perc_keyset.specs.History.{IsHistory, IsSetOf, adds, pairs_of}
use Rattle.perc_keyset.specs.Accepting.{add_answer, after_add, gave, is_same, most_adds, new_entry, reused_by}
use Rattle.perc_keyset.specs.Calls.{AddCall, Call, RemoveCall, after_call, after_calls}
use Rattle.perc_keyset.proofs.HistoryLaws.{Differ, CountFrom, IsHistory-empty, counts_push, history_along}
use Rattle.perc_keyset.proofs.Lists.{All-from_find}
use Rattle.perc_keyset.proofs.SetLaws.{IsSetOf-fold, adds-append}

-- ---- when an add is accepted

abbrev pub decided : Bool → Option (List ℕ) → Bool → Bool → Result Added AddFault
decided same reused full spent =
    cond same (Ok Same) (option_map_or (λ other. Err (KeyReused other)) reused (cond full (Err SetFull) (cond spent (Err AddsSpent) (Ok New))))

pub accepted : (same : Bool) (reused : Option (List ℕ)) (full spent : Bool) → decided same reused full spent ≡ Ok New → (same ≡ false) × (reused ≡ None) × (full ≡ false) × (spent ≡ false)
accepted true reused full spent h = absurd cc
accepted false (Some other) full spent h = absurd cc
accepted false None true spent h = absurd cc
accepted false None false true h = absurd cc
accepted false None false false h = (refl, refl, refl, refl)

unused : (found : Option Entry) (equal : Bool) (association : List ℕ)
    → option_or (option_map (λ e. e.association) found) (cond equal (Some association) None) ≡ None → (found ≡ None) × (equal ≡ false)
unused (Some e) equal association h = absurd cc
unused None true association h = absurd cc
unused None false association h = (refl, refl)

-- What is so where an add is accepted.
pub record IsAccepted (ops : List Op) (client server : KeyAndSalt) : Type 0 where
  pub found : find (gave client server) (adds ops) ≡ None
  pub equal : same_pair client server ≡ false
  pub few : length (adds ops) < most_adds

pub IsAccepted-from_answer : (ops : List Op) (association : List ℕ) (client server : KeyAndSalt) → add_answer ops association client server ≡ Ok New → IsAccepted ops client server
IsAccepted-from_answer ops association client server answer =
    let facts = accepted (is_same ops association client server) (reused_by (adds ops) association client server) (nat_le most_entries (length (without association (fold_ops ops)))) (nat_le most_adds (length (adds ops))) answer in
    let none = unused (find (gave client server) (adds ops)) (same_pair client server) association facts.1 in
    record { found = none.0; equal = none.1; few = leb-false most_adds (length (adds ops)) facts.3 }

-- ---- the pairs of the new entry

pub differ_from_test : (p q : KeyAndSalt) → same_pair p q ≡ false → p ≢ q
differ_from_test p q differs same =
    let yes : same_pair p q ≡ true = (same_pair-Decides p q).1 same in cc

-- no pair that was given is one of these
pub All-not_given : (client server : KeyAndSalt) (es : List Entry) → All (λ e. gave client server e ≡ false) es → All (λ p. (p ≢ client) × (p ≢ server)) (pairs_of es)
All-not_given client server [] none = All-nil (λ p. (p ≢ client) × (p ≢ server))
All-not_given client server (e ∷ es) none =
    let Neither : KeyAndSalt → Type 0 = λ p. (p ≢ client) × (p ≢ server) in
    let here = All-head (λ d. gave client server d ≡ false) e es none in
    let sides = or_parts (same_pair e.client client || same_pair e.client server) (same_pair e.server client || same_pair e.server server) here in
    let of_client = or_parts (same_pair e.client client) (same_pair e.client server) sides.0 in
    let of_server = or_parts (same_pair e.server client) (same_pair e.server server) sides.1 in
    All-cons Neither e.client (e.server ∷ pairs_of es)
    (differ_from_test e.client client of_client.0, differ_from_test e.client server of_client.1)
    (All-cons Neither e.server (pairs_of es)
    (differ_from_test e.server client of_server.0, differ_from_test e.server server of_server.1)
    (All-not_given client server es (All-tail (λ d. gave client server d ≡ false) e es none)))

-- An accepted add keeps a history one.
pub IsHistory-add : (ops : List Op) (association : List ℕ) (client server : KeyAndSalt) → IsHistory ops → IsAccepted ops client server
    → IsHistory (ops ++ Add (new_entry ops association client server) ∷ [])
IsHistory-add ops association client server history new =
    let e : Entry = new_entry ops association client server in
    let given : List KeyAndSalt = pairs_of (adds ops) in
    let added : adds (ops ++ Add e ∷ []) ≡ adds ops ++ e ∷ [] = adds-append ops (Add e ∷ []) in
    let pairs : pairs_of (adds ops ++ e ∷ []) ≡ (given ++ client ∷ []) ++ server ∷ [] =
    flat_map-append (λ (d : Entry). d.client ∷ d.server ∷ []) (adds ops) (e ∷ []) ∙ sym (append_assoc given (client ∷ []) (server ∷ [])) in
    let apart = All-not_given client server (adds ops) (All-from_find (gave client server) (adds ops) new.found) in
    let own : client ≢ server = differ_from_test client server new.equal in
    let with_client : AllPairs Differ (given ++ client ∷ []) = all_pairs_push Differ given client history.pairs (λ k d inside. (apart k d inside).0) in
    let before_server : All (λ p. p ≢ server) (given ++ client ∷ []) =
    All-push (λ p. p ≢ server) given client (All-weaker (λ p. (p ≢ client) × (p ≢ server)) (λ p. p ≢ server) (λ p h. h.1) given apart) own in
    let with_server : AllPairs Differ ((given ++ client ∷ []) ++ server ∷ []) = all_pairs_push Differ (given ++ client ∷ []) server with_client before_server in
    record {
      serials = subst (CountFrom 0) (sym added) (counts_push 0 (adds ops) e history.serials (omega arith));
      pairs = subst (λ (es : List Entry). AllPairs Differ (pairs_of es)) (sym added) (subst (AllPairs Differ) (sym pairs) with_server);
    }

-- a removal keeps it one
pub IsHistory-remove : (ops : List Op) (association : List ℕ) → IsHistory ops → IsHistory (ops ++ Remove association ∷ [])
IsHistory-remove ops association history =
    history_along ops (ops ++ Remove association ∷ []) (adds-append ops (Remove association ∷ []) ∙ append-nil (adds ops)) history

by_answer : (ops : List Op) (association : List ℕ) (client server : KeyAndSalt) (answer : Result Added AddFault)
    → add_answer ops association client server ≡ answer → IsHistory ops → IsHistory (after_add ops association client server answer)
by_answer ops association client server (Ok New) is history =
    IsHistory-add ops association client server history (IsAccepted-from_answer ops association client server is)
by_answer ops association client server (Ok Same) is history = history
by_answer ops association client server (Err fault) is history = history

-- What is accepted at a call keeps a history one.
pub each_call : (ops : List Op) (call : Call) → IsHistory ops → IsHistory (after_call ops call)
each_call ops (AddCall association client server) history =
    by_answer ops association client server (add_answer ops association client server) refl history
each_call ops (RemoveCall association) history =
    cond_both (holds (fold_ops ops) association) (ops ++ Remove association ∷ []) ops IsHistory
    (λ _. IsHistory-remove ops association history)
    (λ _. history)

pub IsHistory-after_calls : (ops : List Op) (calls : List Call) → IsHistory ops → IsHistory (after_calls ops calls)
IsHistory-after_calls ops [] history = history
IsHistory-after_calls ops (call ∷ calls) history =
    IsHistory-after_calls (after_call ops call) calls (each_call ops call history)

-- Whatever is asked from the start on, what is accepted is a history.
pub any_calls : (calls : List Call) → IsHistory (after_calls [] calls) × IsSetOf (fold_ops (after_calls [] calls)) (after_calls [] calls)
any_calls calls = (IsHistory-after_calls [] calls IsHistory-empty, IsSetOf-fold (after_calls [] calls))
