-- Histories of adds and removals: their beginnings, what a serial and a pair belong to, and that what left doesn't come back.
use Rattle.std.proofs.Common.{◌≡◌, ◌≢◌, ℕ, suc, ◌+◌, ◌≤◌, ◌<◌, List, [], ◌∷◌, ◌++◌, length, map, ⊎_elim, refl, sym, ap, ◌∙◌, subst, arith}
use Rattle.std.proofs.lemmas.Grind.{flat_map-append}
use Rattle.std.proofs.lemmas.List.{length-append}
use Rattle.std.proofs.lemmas.List.Elements.{All-contains, Contains-append_left}
use Rattle.std.specs.List.{All, AllPairs, Contains, range_with_len}
use Rattle.perc_kdf.specs.Derivation.{KeyAndSalt}
use Rattle.perc_keyset.specs.declared.Entry.{Entry}
use Rattle.perc_keyset.specs.declared.Op.{Op}
use Rattle.perc_keyset.specs.Set.{fold_ops, set_after}
use Rattle.perc_keyset.specs.History.{AreHeldInTurn, IsHistory, NeverAgain, adds, pairs_of}
use Rattle.perc_keyset.proofs.Lists.{AllPairs-front, AllPairs-head, AllPairs-tail, Contains-cons_cases, Contains-from_map, Contains-here, Contains-later, Contains-map}
use Rattle.perc_keyset.proofs.SetLaws.{adds-append, from_fold, from_set_after, set_after-append}

abbrev pub Differ : KeyAndSalt → KeyAndSalt → Type 0
Differ p q = p ≢ q

-- ---- entries whose serials count up from a

abbrev pub CountFrom : ℕ → List Entry → Type 0
CountFrom a es = map (λ e. e.serial) es ≡ range_with_len a (length es)

pub counts_cons : (a : ℕ) (x : Entry) (es : List Entry) → x.serial ≡ a → CountFrom (a + 1) es → CountFrom a (x ∷ es)
counts_cons a x es head tail = λ i. head i ∷ tail i

pub counts_head : (a : ℕ) (x : Entry) (es : List Entry) → CountFrom a (x ∷ es) → x.serial ≡ a
counts_head a x es counts = cc

pub counts_tail : (a : ℕ) (x : Entry) (es : List Entry) → CountFrom a (x ∷ es) → CountFrom (a + 1) es
counts_tail a x es counts = cc

-- one more
pub counts_push : (a : ℕ) (es : List Entry) (x : Entry) → CountFrom a es → x.serial ≡ a + length es → CountFrom a (es ++ x ∷ [])
counts_push a [] x counts is = counts_cons a x [] (is ∙ omega arith) refl
counts_push a (e ∷ es) x counts is =
    counts_cons a e (es ++ x ∷ []) (counts_head a e es counts)
    (counts_push (a + 1) es x (counts_tail a e es counts) (omega arith))

pub counts_front : (a : ℕ) (es more : List Entry) → CountFrom a (es ++ more) → CountFrom a es
counts_front a [] more counts = refl
counts_front a (e ∷ es) more counts =
    counts_cons a e es (counts_head a e (es ++ more) counts)
    (counts_front (a + 1) es more (counts_tail a e (es ++ more) counts))

pub counts_back : (a : ℕ) (es more : List Entry) → CountFrom a (es ++ more) → CountFrom (a + length es) more
counts_back a [] more counts =
    let same : a ≡ a + 0 = omega arith in subst (λ (n : ℕ). CountFrom n more) same counts
counts_back a (e ∷ es) more counts =
    let same : (a + 1) + length es ≡ a + length (e ∷ es) = omega arith in
    subst (λ (n : ℕ). CountFrom n more) same (counts_back (a + 1) es more (counts_tail a e (es ++ more) counts))

-- the least serial, and the greatest
pub counts_least : (a : ℕ) (es : List Entry) (e : Entry) → CountFrom a es → Contains es e → a ≤ e.serial
counts_least a [] e counts c = absurd (omega arith)
counts_least a (x ∷ es) e counts c =
    ⊎_elim (λ (here : x ≡ e). let head = counts_head a x es counts in omega (arith, ap (λ (d : Entry). d.serial) here))
    (λ (later : Contains es e). omega (arith, counts_least (a + 1) es e (counts_tail a x es counts) later))
    (Contains-cons_cases x es e c)

pub counts_greatest : (a : ℕ) (es : List Entry) (e : Entry) → CountFrom a es → Contains es e → e.serial < a + length es
counts_greatest a [] e counts c = absurd (omega arith)
counts_greatest a (x ∷ es) e counts c =
    ⊎_elim (λ (here : x ≡ e). let head = counts_head a x es counts in omega (arith, ap (λ (d : Entry). d.serial) here))
    (λ (later : Contains es e). omega (arith, counts_greatest (a + 1) es e (counts_tail a x es counts) later))
    (Contains-cons_cases x es e c)

-- a serial belongs to one entry
pub one_by_serial : (a : ℕ) (es : List Entry) (e d : Entry) → CountFrom a es → Contains es e → Contains es d → e.serial ≡ d.serial → e ≡ d
one_by_serial a [] e d counts in_e in_d same = absurd (omega arith)
one_by_serial a (x ∷ es) e d counts in_e in_d same =
    let head = counts_head a x es counts in
    let tail : CountFrom (a + 1) es = counts_tail a x es counts in
    ⊎_elim (λ (here : x ≡ e).
    let first = ap (λ (y : Entry). y.serial) here in
    ⊎_elim (λ (there : x ≡ d). sym here ∙ there)
    (λ (later : Contains es d). absurd (omega (arith, counts_least (a + 1) es d tail later)))
    (Contains-cons_cases x es d in_d))
    (λ (behind : Contains es e).
    ⊎_elim (λ (there : x ≡ d).
    let first = ap (λ (y : Entry). y.serial) there in
    absurd (omega (arith, counts_least (a + 1) es e tail behind)))
    (λ (later : Contains es d). one_by_serial (a + 1) es e d tail behind later same)
    (Contains-cons_cases x es d in_d))
    (Contains-cons_cases x es e in_e)

-- ---- entries whose pairs differ

-- what the entries' pairs say of those of the first
pub record PairsOfMore (x : Entry) (es : List Entry) : Type 0 where
  pub own : x.client ≢ x.server
  pub client : All (Differ x.client) (pairs_of es)
  pub server : All (Differ x.server) (pairs_of es)
  pub others : AllPairs Differ (pairs_of es)

pub pairs_more : (x : Entry) (es : List Entry) → AllPairs Differ (pairs_of (x ∷ es)) → PairsOfMore x es
pairs_more x es pairs =
    let behind : AllPairs Differ (x.server ∷ pairs_of es) = AllPairs-tail Differ x.client (x.server ∷ pairs_of es) pairs in
    record {
      own = pairs 0 1 x.client (omega arith) (omega arith);
      client = λ k d inside. pairs 0 (suc (suc k)) d (omega arith) (omega arith);
      server = AllPairs-head Differ x.server (pairs_of es) behind;
      others = AllPairs-tail Differ x.server (pairs_of es) behind;
    }

pub has_client : (es : List Entry) (e : Entry) → Contains es e → Contains (pairs_of es) e.client
has_client [] e c = absurd (omega arith)
has_client (x ∷ es) e c =
    ⊎_elim (λ (here : x ≡ e). subst (λ (d : Entry). Contains (pairs_of (x ∷ es)) d.client) here (Contains-here x.client (x.server ∷ pairs_of es)))
    (λ (later : Contains es e). Contains-later x.client (x.server ∷ pairs_of es) e.client (Contains-later x.server (pairs_of es) e.client (has_client es e later)))
    (Contains-cons_cases x es e c)

pub has_server : (es : List Entry) (e : Entry) → Contains es e → Contains (pairs_of es) e.server
has_server [] e c = absurd (omega arith)
has_server (x ∷ es) e c =
    ⊎_elim (λ (here : x ≡ e). subst (λ (d : Entry). Contains (pairs_of (x ∷ es)) d.server) here (Contains-later x.client (x.server ∷ pairs_of es) x.server (Contains-here x.server (pairs_of es))))
    (λ (later : Contains es e). Contains-later x.client (x.server ∷ pairs_of es) e.server (Contains-later x.server (pairs_of es) e.server (has_server es e later)))
    (Contains-cons_cases x es e c)

-- a pair of the first is none of a later one
client_apart : (x : Entry) (es : List Entry) (q : KeyAndSalt) → PairsOfMore x es → Contains (pairs_of es) q → x.client ≢ q
client_apart x es q more there = All-contains (Differ x.client) (pairs_of es) q more.client there

server_apart : (x : Entry) (es : List Entry) (q : KeyAndSalt) → PairsOfMore x es → Contains (pairs_of es) q → x.server ≢ q
server_apart x es q more there = All-contains (Differ x.server) (pairs_of es) q more.server there

pub one_by_client : (es : List Entry) (e d : Entry) → AllPairs Differ (pairs_of es) → Contains es e → Contains es d → e.client ≡ d.client → e ≡ d
one_by_client [] e d pairs in_e in_d same = absurd (omega arith)
one_by_client (x ∷ es) e d pairs in_e in_d same =
    let more = pairs_more x es pairs in
    ⊎_elim (λ (here : x ≡ e).
    ⊎_elim (λ (there : x ≡ d). sym here ∙ there)
    (λ (later : Contains es d). absurd (client_apart x es d.client more (has_client es d later) (ap (λ (y : Entry). y.client) here ∙ same)))
    (Contains-cons_cases x es d in_d))
    (λ (behind : Contains es e).
    ⊎_elim (λ (there : x ≡ d). absurd (client_apart x es e.client more (has_client es e behind) (ap (λ (y : Entry). y.client) there ∙ sym same)))
    (λ (later : Contains es d). one_by_client es e d more.others behind later same)
    (Contains-cons_cases x es d in_d))
    (Contains-cons_cases x es e in_e)

pub one_by_server : (es : List Entry) (e d : Entry) → AllPairs Differ (pairs_of es) → Contains es e → Contains es d → e.server ≡ d.server → e ≡ d
one_by_server [] e d pairs in_e in_d same = absurd (omega arith)
one_by_server (x ∷ es) e d pairs in_e in_d same =
    let more = pairs_more x es pairs in
    ⊎_elim (λ (here : x ≡ e).
    ⊎_elim (λ (there : x ≡ d). sym here ∙ there)
    (λ (later : Contains es d). absurd (server_apart x es d.server more (has_server es d later) (ap (λ (y : Entry). y.server) here ∙ same)))
    (Contains-cons_cases x es d in_d))
    (λ (behind : Contains es e).
    ⊎_elim (λ (there : x ≡ d). absurd (server_apart x es e.server more (has_server es e behind) (ap (λ (y : Entry). y.server) there ∙ sym same)))
    (λ (later : Contains es d). one_by_server es e d more.others behind later same)
    (Contains-cons_cases x es d in_d))
    (Contains-cons_cases x es e in_e)

pub sides_apart : (es : List Entry) (e d : Entry) → AllPairs Differ (pairs_of es) → Contains es e → Contains es d → e.client ≢ d.server
sides_apart [] e d pairs in_e in_d same = omega arith
sides_apart (x ∷ es) e d pairs in_e in_d same =
    let more = pairs_more x es pairs in
    ⊎_elim (λ (here : x ≡ e).
    ⊎_elim (λ (there : x ≡ d). more.own (ap (λ (y : Entry). y.client) here ∙ same ∙ sym (ap (λ (y : Entry). y.server) there)))
    (λ (later : Contains es d). client_apart x es d.server more (has_server es d later) (ap (λ (y : Entry). y.client) here ∙ same))
    (Contains-cons_cases x es d in_d))
    (λ (behind : Contains es e).
    ⊎_elim (λ (there : x ≡ d). server_apart x es e.client more (has_client es e behind) (ap (λ (y : Entry). y.server) there ∙ sym same))
    (λ (later : Contains es d). sides_apart es e d more.others behind later same)
    (Contains-cons_cases x es d in_d))
    (Contains-cons_cases x es e in_e)

-- ---- histories

-- Whether it is a history is told by what was added.
pub history_along : (ops others : List Op) → adds others ≡ adds ops → IsHistory ops → IsHistory others
history_along ops others same history = record {
  serials = subst (CountFrom 0) (sym same) history.serials;
  pairs = subst (λ (es : List Entry). AllPairs Differ (pairs_of es)) (sym same) history.pairs;
}

pub IsHistory-empty : IsHistory []
IsHistory-empty = record { serials = refl; pairs = λ i j d below inside. absurd (omega arith) }

pub prefixes : (ops more : List Op) → IsHistory (ops ++ more) → IsHistory ops
prefixes ops more history =
    let serials : CountFrom 0 (adds ops ++ adds more) = subst (CountFrom 0) (adds-append ops more) history.serials in
    let pairs : AllPairs Differ (pairs_of (adds ops ++ adds more)) = subst (λ (es : List Entry). AllPairs Differ (pairs_of es)) (adds-append ops more) history.pairs in
    let apart = flat_map-append (λ (e : Entry). e.client ∷ e.server ∷ []) (adds ops) (adds more) in
    record {
      serials = counts_front 0 (adds ops) (adds more) serials;
      pairs = AllPairs-front Differ (pairs_of (adds ops)) (pairs_of (adds more)) (subst (AllPairs Differ) apart pairs);
    }

-- both entries were added
early_added : (ops more : List Op) (e d : Entry) → AreHeldInTurn ops more e d → Contains (adds (ops ++ more)) e
early_added ops more e d held =
    subst (λ (es : List Entry). Contains es e) (sym (adds-append ops more)) (Contains-append_left (adds ops) (adds more) e (from_fold ops e held.early))

late_added : (ops more : List Op) (e d : Entry) → AreHeldInTurn ops more e d → Contains (adds (ops ++ more)) d
late_added ops more e d held = from_fold (ops ++ more) d held.late

pub same_serial : (ops more : List Op) (e d : Entry) → AreHeldInTurn ops more e d → e.serial ≡ d.serial → e ≡ d
same_serial ops more e d held = one_by_serial 0 (adds (ops ++ more)) e d held.history.serials (early_added ops more e d held) (late_added ops more e d held)

pub same_client : (ops more : List Op) (e d : Entry) → AreHeldInTurn ops more e d → e.client ≡ d.client → e ≡ d
same_client ops more e d held = one_by_client (adds (ops ++ more)) e d held.history.pairs (early_added ops more e d held) (late_added ops more e d held)

pub same_server : (ops more : List Op) (e d : Entry) → AreHeldInTurn ops more e d → e.server ≡ d.server → e ≡ d
same_server ops more e d held = one_by_server (adds (ops ++ more)) e d held.history.pairs (early_added ops more e d held) (late_added ops more e d held)

pub other_side : (ops more : List Op) (e d : Entry) → AreHeldInTurn ops more e d → (e.client ≢ d.server) × (e.server ≢ d.client)
other_side ops more e d held =
    let early = early_added ops more e d held in
    let late = late_added ops more e d held in
    (sides_apart (adds (ops ++ more)) e d held.history.pairs early late, λ same. sides_apart (adds (ops ++ more)) d e held.history.pairs late early (sym same))

pub never_again : (ops more later : List Op) → NeverAgain ops more later
never_again ops more later history e early gone back =
    let front : List Op = ops ++ more in
    let serials : CountFrom 0 (adds front ++ adds later) = subst (CountFrom 0) (adds-append front later) history.serials in
    let found = Contains-from_map (λ (d : Entry). d.serial) (fold_ops (front ++ later)) e.serial back in
    let d : Entry = found.0 in
    let held : Contains (set_after (fold_ops front) later) d = subst (λ (es : List Entry). Contains es d) (set_after-append [] front later) found.1 in
    let same : d.serial ≡ e.serial = found.2 in
    ⊎_elim (λ (stayed : Contains (fold_ops front) d). gone (subst (Contains (map (λ (y : Entry). y.serial) (fold_ops front))) same (Contains-map (λ (y : Entry). y.serial) (fold_ops front) d stayed)))
    (λ (added : Contains (adds later) d).
    let before : CountFrom 0 (adds ops ++ adds more) = subst (CountFrom 0) (adds-append ops more) (counts_front 0 (adds front) (adds later) serials) in
    let small = counts_greatest 0 (adds ops) e (counts_front 0 (adds ops) (adds more) before) (from_fold ops e early) in
    let large = counts_least (0 + length (adds front)) (adds later) d (counts_back 0 (adds front) (adds later) serials) added in
    let long = ap (λ (es : List Entry). length es) (adds-append ops more) ∙ length-append (adds ops) (adds more) in
    omega arith)
    (from_set_after (fold_ops front) later d held)
