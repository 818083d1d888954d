-- Each step keeps the rule.
use Rattle.std.proofs.Common.{◌≡◌, ◌≢◌, ℕ, zero, suc, ◌+◌, true, false, true≢false, List, [], ◌∷◌, ◌++◌, length, set, refl, sym, ap, ◌∙◌, subst, ap₂, ⊎_elim, slice_index}
use mathlib.Core.List.{IsPrefix}
use mathlib.Core.Option.{some, some-ne-none, some-injective}
use lib.ListN.{get_elem?}
use Rattle.crossbeam_utils.specs.Register.{Turns, Forks, Merges}
use Rattle.atomic_table.specs.Table.{Me, Allows, Splits, Joins}
use Rattle.atomic_table.specs.Table.Act.{keeps}
use Rattle.atomic_table.proofs.Lists.{at_set, at_snoc, set_again}
use Rattle.perc_keyset.specs.declared.Op.{Op}
use Rattle.perc_published.specs.declared.board.View.{View}
use Rattle.perc_published.specs.Kept.{HasTaken}
use Rattle.perc_published.specs.Views.{AreOf, Begins, CanSplit, Compared, Entered, IsOneHistory, KeepsSet, KeepsTally, Spells, brought, first_view, learnt, longer, newcomer, note_of, published}
use Rattle.perc_published.proofs.Prefixes.{in_line, longer_begins, longer_is, prefix_none, prefix_self, prefix_trans}

off : {X : Type 0} → false ≡ true → X
off e = absurd (true≢false (sym e))

-- ---- one history, for whatever is shown of it

-- one view becomes another of the same history
pub changes : (Shows Then : List Op → Type 0) (views : List View) (by : ℕ) (v w : View) → (kept : IsOneHistory Shows views) → get_elem? views by ≡ some v
    → Then kept.history → (Begins kept.seat kept.history by v → Begins kept.seat kept.history by w) → IsOneHistory Then (set views by w)
changes Shows Then views by v w kept at shows from = record {
  seat = kept.seat;
  history = kept.history;
  shows = shows;
  each = λ j u e.
      ⊎_elim
      (λ (x : (j ≡ by) × (w ≡ u)). subst (λ (y : ℕ × View). Begins kept.seat kept.history y.0 y.1) (λ i. (sym x.0 i, x.1 i)) (from (kept.each by v at)))
      (λ (x : (j ≢ by) × (get_elem? views j ≡ some u)). kept.each j u x.1)
      (at_set views by j w u e);
}

module _ (Shows : List Op → Type 0) where
  -- a view is cut off from another, which stays
  pub forks : (views : List View) (by : ℕ) (v left right : View) → (kept : IsOneHistory Shows views) → get_elem? views by ≡ some v → left ≡ v
      → ((at : ℕ) → Begins kept.seat kept.history by v → Begins kept.seat kept.history at right) → IsOneHistory Shows (set views by left ++ right ∷ [])
  forks views by v left right kept at stays from = record {
    seat = kept.seat;
    history = kept.history;
    shows = kept.shows;
    each = λ j u e.
        ⊎_elim
        (λ was. kept.each j u (subst (λ l. get_elem? l j ≡ some u) (ap (λ w. set views by w) stays ∙ set_again views by v at) was))
        (λ (same : right ≡ u). subst (Begins kept.seat kept.history j) same (from j (kept.each by v at)))
        (at_snoc (set views by left) right u j e);
  }

  -- a view takes in another's, and that is spent
  pub merges : (views : List View) (by : ℕ) (v : View) (other : ℕ) (u both spent : View) → (kept : IsOneHistory Shows views) → get_elem? views by ≡ some v
      → ¬ (other ≡ by) → get_elem? (set views by both) other ≡ some u
      → (Begins kept.seat kept.history by v → Begins kept.seat kept.history other u → Begins kept.seat kept.history by both)
      → ((at : ℕ) → Begins kept.seat kept.history at spent)
      → IsOneHistory Shows (set (set views by both) other spent)
  merges views by v other u both spent kept at apart there from none =
      let theirs : Begins kept.seat kept.history other u =
      ⊎_elim
      (λ (x : (other ≡ by) × (both ≡ u)). absurd (apart x.0))
      (λ (x : (other ≢ by) × (get_elem? views other ≡ some u)). kept.each other u x.1)
      (at_set views by other both u there) in
      record {
        seat = kept.seat;
        history = kept.history;
        shows = kept.shows;
        each = λ j w e.
            ⊎_elim
            (λ (x : (j ≡ other) × (spent ≡ w)). subst (Begins kept.seat kept.history j) x.1 (none j))
            (λ (x : (j ≢ other) × (get_elem? (set views by both) j ≡ some w)).
            ⊎_elim
            (λ (y : (j ≡ by) × (both ≡ w)). subst (λ (z : ℕ × View). Begins kept.seat kept.history z.0 z.1) (λ i. (sym y.0 i, y.1 i)) (from (kept.each by v at) theirs))
            (λ (y : (j ≢ by) × (get_elem? views j ≡ some w)). kept.each j w y.1)
            (at_set views by j both w x.1))
            (at_set (set views by both) other j spent w e);
      }

-- the one that publishes makes the history longer
pub publishes : (Shows Then : List Op → Type 0) (views : List View) (by : ℕ) (v : View) (history : List Op)
    → IsOneHistory Shows views → get_elem? views by ≡ some v → v.publishes ≡ true → IsPrefix v.seen history → Then history
    → IsOneHistory Then (set views by (published v history))
publishes Shows Then views by v history kept at mine begins shows =
    let known = kept.each by v at in
    let is = known.publishes mine in
    let grows : IsPrefix kept.history history = subst (λ xs. IsPrefix xs history) is.1 begins in
    record {
      seat = kept.seat;
      history = history;
      shows = shows;
      each = λ j u e.
          ⊎_elim
          (λ (x : (j ≡ by) × (published v history ≡ u)).
          subst (λ (y : ℕ × View). Begins kept.seat history y.0 y.1) (λ i. (sym x.0 i, x.1 i))
          (record {
            publishes = λ _. (is.0, refl);
            seen = prefix_self history;
            told = prefix_trans v.told kept.history history known.told grows;
          }))
          (λ (x : (j ≢ by) × (get_elem? views j ≡ some u)).
          let others = kept.each j u x.1 in
          record {
            publishes = λ too. absurd (x.0 ((others.publishes too).0 ∙ sym is.0));
            seen = prefix_trans u.seen kept.history history others.seen grows;
            told = prefix_trans u.told kept.history history others.told grows;
          })
          (at_set views by j (published v history) u e);
    }

pub nobody : (seat : ℕ) (history : List Op) (at : ℕ) → Begins seat history at newcomer
nobody seat history at = record { publishes = off; seen = prefix_none history; told = prefix_none history }

pub begins : (Shows : List Op → Type 0) → Shows [] → IsOneHistory Shows (first_view ∷ [])
begins Shows shows = record { seat = 0; history = []; shows = shows; each = one }
  where
    one : (by : ℕ) (v : View) → get_elem? (first_view ∷ []) by ≡ some v → Begins 0 [] by v
    one zero v e = subst (Begins 0 [] 0) (some-injective _ _ e) (record { publishes = λ _. (refl, refl); seen = prefix_none []; told = prefix_none [] })
    one (suc by) v e = absurd (some-ne-none v (sym e))

-- ---- what can be cut off

pub newcomer_splits : (v : View) → CanSplit (λ u. u) (λ _. newcomer) v
newcomer_splits v = (refl, λ seat history by at known. nobody seat history at)

pub note_splits : (v : View) → CanSplit (λ u. u) note_of v
note_splits v = (refl, λ seat history by at known. record { publishes = off; seen = prefix_none history; told = known.seen })

pub part_splits : (v : View) → v.publishes ≡ false → CanSplit (λ u. u) (λ u. u) v
part_splits v apart = (refl, λ seat history by at known. record { publishes = λ too. off (sym apart ∙ too); seen = known.seen; told = known.told })

-- ---- steps on the cell

pub cell_forks : (by : ℕ) (v : View) (left right : View → View) → CanSplit left right v → Forks KeepsSet by v (left v) (right v)
cell_forks by v left right can words views kept at =
    forks (Spells words) views by v (left v) (right v) kept at can.0 (λ j known. can.1 kept.seat kept.history by j known)

pub cell_enters : (by : ℕ) (v : View) → Turns KeepsSet by v (λ x. x) (λ v _ words w. Entered v words w)
cell_enters by v words views kept at =
    let known = kept.each by v at in
    let w : View = record { publishes = v.publishes; seen = kept.history; told = v.told; enters = v.enters + 1 } in (
      w,
      changes (Spells words) (Spells words) views by v w kept at kept.shows (λ _. record { publishes = λ too. ((known.publishes too).0, refl); seen = prefix_self kept.history; told = known.told }),
      record { publishes = refl; spells = kept.shows; seen = known.seen; told = known.told; kept = refl; counted = refl },
    )

pub cell_publishes : (by : ℕ) (v : View) (new : List ℕ) (history : List Op) → v.publishes ≡ true → IsPrefix v.seen history → Spells new history
    → Turns KeepsSet by v (λ _. new) (λ v _ _ w. w ≡ published v history)
cell_publishes by v new history mine begins spells words views kept at =
    (published v history, publishes (Spells words) (Spells new) views by v history kept at mine begins spells, refl)

pub cell_learns : (by : ℕ) (v : View) (other : ℕ) (u : View) → v.publishes ≡ false → Merges KeepsSet by v other u (learnt v u) newcomer
cell_learns by v other u reads words views kept at apart there =
    merges (Spells words) views by v other u (learnt v u) newcomer kept at apart there
    (λ known theirs. record {
      publishes = λ too. off (sym reads ∙ too);
      seen = known.seen;
      told = longer_begins v.told u.told kept.history known.told theirs.told;
    })
    (nobody kept.seat kept.history)

-- ---- steps on the tally

pub tally_forks : (by : ℕ) (v : View) (left right : View → View) → CanSplit left right v → Splits KeepsTally by v (left v) (right v)
tally_forks by v left right can table kept at =
    forks (λ history. table.words ≡ length history ∷ []) table.views by v (left v) (right v) kept at can.0 (λ j known. can.1 kept.seat kept.history by j known)

pub tally_brings : (by : ℕ) (v : View) (other : ℕ) (u : View) → v.publishes ≡ false → Joins KeepsTally by v other u (brought v u) newcomer
tally_brings by v other u reads table kept at apart there =
    merges (λ history. table.words ≡ length history ∷ []) table.views by v other u (brought v u) newcomer kept at apart there
    (λ known theirs. record { publishes = λ too. off (sym reads ∙ too); seen = theirs.told; told = known.told })
    (nobody kept.seat kept.history)

stays : (words : List ℕ) (history : List Op) → words ≡ length history ∷ [] → set words 0 (slice_index words 0) ≡ length history ∷ []
stays words history is = ap (λ (ws : List ℕ). set ws 0 (slice_index ws 0)) is

pub tally_compares : (slots by : ℕ) (me : Me (Unit {0}) View) → me.0.publishes ≡ false → Allows KeepsTally slots by me 0 (λ n. n) (λ _ n. Compared me.0 n.0)
tally_compares slots by me reads table kept homes at small =
    let v = me.0 in
    let known = kept.each by v at in
    let two = longer_is v.told v.seen kept.history known.told known.seen in
    let w : View = record { publishes = v.publishes; seen = v.seen; told = longer v.told v.seen; enters = v.enters } in (
      w,
      keeps,
      tt,
      changes (λ history. table.words ≡ length history ∷ []) (λ history. set table.words 0 (slice_index table.words 0) ≡ length history ∷ []) table.views by v w kept at
          (stays table.words kept.history kept.shows)
          (λ _. record { publishes = λ too. off (sym reads ∙ too); seen = known.seen; told = two.begins }),
      record { publishes = refl; told = refl; before = two.first; note = two.second },
    )

pub tally_publishes : (slots by : ℕ) (me : Me (Unit {0}) View) (count : ℕ) (history : List Op) → me.0.publishes ≡ true → IsPrefix me.0.seen history → count ≡ length history
    → Allows KeepsTally slots by me 0 (λ _. count) (λ _ n. n ≡ (published me.0 history, me.1))
tally_publishes slots by me count history mine begins is table kept homes at small = (
  published me.0 history,
  keeps,
  tt,
  publishes (λ xs. table.words ≡ length xs ∷ []) (λ xs. set table.words 0 count ≡ length xs ∷ []) table.views by me.0 history kept at mine begins
      (ap (λ (ws : List ℕ). set ws 0 count) kept.shows ∙ ap (λ (n : ℕ). n ∷ []) is),
  refl,
)

-- ---- what a reader knows behind a note

pub taken : (v n w tv tn tw : View) → w ≡ learnt v n → Compared (brought tv tn) tw → tv.told ≡ v.told → tn.told ≡ n.told → HasTaken v n.told w
taken v n w tv tn tw made compared same note =
    let is : w.told ≡ longer v.told n.told = ap (λ (u : View). u.told) made in record {
      seen = ap (λ (u : View). u.seen) made;
      enters = ap (λ (u : View). u.enters) made;
      told = is;
      before = subst (λ (p : List Op × List Op). IsPrefix p.0 p.1) (λ i. (same i, (ap₂ longer same note ∙ sym is) i)) compared.before;
      note = subst (λ (p : List Op × List Op). IsPrefix p.0 p.1) (λ i. (note i, (ap₂ longer same note ∙ sym is) i)) compared.note;
    }

-- ---- what the rule says

pub of_one_history : (Shows : List Op → Type 0) (views : List View) → (kept : IsOneHistory Shows views) → AreOf kept.history views
of_one_history Shows views kept = record {
  seen = λ by v e. (kept.each by v e).seen;
  told = λ by v e. (kept.each by v e).told;
  published = λ by v e mine. ((kept.each by v e).publishes mine).1;
  only = λ by at v u e f mine theirs. ((kept.each by v e).publishes mine).0 ∙ sym ((kept.each at u f).publishes theirs).0;
  in_line = λ by at v u e f.
      let k = kept.each by v e in
      let l = kept.each at u f in
      (in_line v.seen u.seen kept.history k.seen l.seen, in_line v.seen u.told kept.history k.seen l.told, in_line v.told u.told kept.history k.told l.told);
}
