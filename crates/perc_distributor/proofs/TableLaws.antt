-- Places of serials: which is found, what an edit does to that, and that one is free.
use Rattle.std.proofs.Common.{◌≡◌, ℕ, zero, suc, ◌+◌, ◌<◌, ◌≤◌, Bool, true, false, cond, List, [], ◌∷◌, ◌++◌, length, get_or, set, map, replicate, Option, Some, None, is_some, inl, inr, refl, sym, ap, subst, ◌∙◌, arith}
use Rattle.std.specs.Prelude.{◌==◌, find, filter}
use Rattle.std.specs.List.{list_any, position}
use Rattle.std.specs.Option.{is_none, option_map_or, unwrap_or}
use Rattle.std.proofs.lemmas.Bool.{cases_eq, cases_Bool}
use Rattle.std.proofs.lemmas.Bool.Decides.{nat_tests}
use Rattle.std.proofs.lemmas.List.{replicate_more, length-set, get_or-set_same}
use Rattle.std.proofs.lemmas.List.Quantifiers.{position-Some}
use Rattle.std.proofs.lemmas.List.Folds.{find_past}
use Rattle.perc_keyset.specs.declared.Entry.{Entry}
use Rattle.perc_distributor.specs.Inbound.{in_set}
use Rattle.perc_distributor.specs.Forwarding.{Sealing, nothing_sealed, sealing_of}
use Rattle.perc_distributor.specs.Kept.{IsSealing, Kept, SameSealing, StandsFor, holds, kept_of}
use Rattle.perc_distributor.specs.Rooms.{begun, free_place, is_free, staying}
use Rattle.perc_distributor.proofs.PlaceLaws.{Fills, any_find, differ_new, differ_staying, either_some, fewer, fills, find_filter, find_new, find_staying, in_without, length_staying, none_any, set_twice, without}
use Rattle.perc_distributor.specs.Tables.{Differ, HasRoomFor, IsPlaceOf, IsTable, OnlyOf, StandsStill, StaysOnlyOf}
use Rattle.perc_outer.specs.Streams.{OuterStream}
use Rattle.perc_outer.specs.Kept as outer

-- ---- all places are free

pub free_more : (kept : List Kept) (n : ℕ) → kept ≡ replicate n free_place → kept ++ free_place ∷ [] ≡ replicate (n + 1) free_place
free_more kept n is = ap (λ (ks : List Kept). ks ++ free_place ∷ []) is ∙ replicate_more n free_place

differ_free : (n : ℕ) → Differ (replicate n free_place)
differ_free zero = tt
differ_free (suc n) = (tt, differ_free n)

length_free : (n : ℕ) → length (replicate n free_place) ≡ n
length_free zero = refl
length_free (suc n) = ap suc (length_free n)

pub free_table : (kept : List Kept) → kept ≡ replicate 64 free_place → IsTable kept
free_table kept is = subst IsTable (sym is) (record { size = length_free 64; differ = differ_free 64 })

none_free : (n serial : ℕ) → kept_of (replicate n free_place) serial ≡ None
none_free zero serial = refl
none_free (suc n) serial = none_free n serial

pub free_stands : (n : ℕ) → StandsFor (replicate n free_place) []
free_stands n = record { each = λ serial. subst (λ (k : Option Kept). SameSealing k (nothing_sealed serial)) (sym (none_free n serial)) (refl, refl) }

same_either : (b : Bool) (s : ℕ) (k : Option Kept) (x : Option Sealing) → SameSealing k (unwrap_or x (nothing_sealed s)) → SameSealing (cond b k None) (unwrap_or (cond b x None) (nothing_sealed s))
same_either true s k x same = same
same_either false s k x same = (refl, refl)

-- What stays stands for what was sealed for those serials.
pub stands_staying : (entries : List Entry) (kept : List Kept) (sealing : List Sealing) → StandsFor kept sealing
    → StandsFor (map (staying entries) kept) (filter (λ x. in_set entries x.serial) sealing)
stands_staying entries kept sealing stands = record {
  each = λ s.
      rw (find_staying (in_set entries) kept s, find_filter (λ (x : Sealing). x.serial) (in_set entries) sealing s)
      (same_either (in_set entries s) s (kept_of kept s) (find (λ x. x.serial == s) sealing) (stands.each s));
}

pub table_staying : (entries : List Entry) (kept now : List Kept) → now ≡ map (staying entries) kept → IsTable kept → IsTable now
table_staying entries kept now is table =
    subst IsTable (sym is) (record { size = length_staying (in_set entries) kept ∙ table.size; differ = differ_staying (in_set entries) kept table.differ })

pub only_staying : (entries : List Entry) (kept now : List Kept) → now ≡ map (staying entries) kept → IsTable kept → OnlyOf entries now
only_staying entries kept now is table =
    subst (OnlyOf entries) (sym is) (record {
      table = table_staying entries kept (map (staying entries) kept) refl table;
      each = λ s any.
          either_some (in_set entries s) (kept_of kept s)
          (ap (λ (k : Option Kept). is_some k) (sym (find_staying (in_set entries) kept s)) ∙ sym (any_find (holds s) (map (staying entries) kept)) ∙ any);
    })

-- the facts of a free place that a serial without one takes
pub record Takes (kept : List Kept) (serial at : ℕ) : Type 0 where
  pub table : IsTable kept
  pub new : kept_of kept serial ≡ None
  pub free : position is_free kept ≡ Some at

free_serial : (o : Option ℕ) (s : ℕ) → is_none o ≡ true → option_map_or (λ t. t == s) o false ≡ false
free_serial None s free = refl
free_serial (Some t) s free = absurd (cc)

-- what is in a place that is free holds no serial
free_holds : (kept : List Kept) (serial at s : ℕ) (d : Kept) → Takes kept serial at → holds s (get_or kept at d) ≡ false
free_holds kept serial at s d t = free_serial (get_or kept at d).serial s (position-Some is_free kept at d t.free).1

begun_holds : (serial : ℕ) → holds serial (begun serial) ≡ true
begun_holds serial = grind (arith, nat_tests)

begun_other : (serial s : ℕ) → (serial ≡ s → ⊥) → holds s (begun serial) ≡ false
begun_other serial s other = grind (arith, nat_tests)

pub taken_table : (kept : List Kept) (serial at : ℕ) (k : Kept) → Takes kept serial at → k ≡ begun serial → IsTable (set kept at k)
taken_table kept serial at k t is =
    subst (λ (x : Kept). IsTable (set kept at x)) (sym is)
    (record { size = length-set kept at (begun serial) ∙ t.table.size; differ = differ_new kept at serial (begun serial) refl t.table.differ (none_any kept serial t.new) })

pub taken_place : (kept : List Kept) (serial at : ℕ) (k : Kept) → Takes kept serial at → k ≡ begun serial → IsPlaceOf (set kept at k) serial at
taken_place kept serial at k t is =
    let within : at < length kept = (position-Some is_free kept at k t.free).0 in
    let its : holds serial k ≡ true = ap (holds serial) is ∙ begun_holds serial in
    let there : (d : Kept) → get_or (set kept at k) at d ≡ k = λ d. get_or-set_same kept at k d within in
    record {
      in_range = rw (length-set kept at k) within;
      holds_it = λ d. ap (holds serial) (there d) ∙ its;
      found = λ d. find_new (holds serial) kept at k t.new its within ∙ ap (λ (x : Kept). Some x) (sym (there d));
      written = λ m holding. ap (find (holds serial)) (set_twice kept at k m) ∙ find_new (holds serial) kept at m t.new holding within;
    }

taken_found : (kept : List Kept) (serial at s : ℕ) (k : Kept) → Takes kept serial at → k ≡ begun serial → (serial ≡ s → ⊥) → kept_of (set kept at k) s ≡ kept_of kept s
taken_found kept serial at s k t is other =
    find_past (holds s) kept at k k (free_holds kept serial at s k t) (ap (holds s) is ∙ begun_other serial s other)

begun_same : (x : Sealing) (k : Kept) (serial : ℕ) → k ≡ begun serial → (x.streams ≡ []) × (x.rtcp ≡ 0) → IsSealing k x
begun_same x k serial is none =
    subst (λ (y : Kept). IsSealing y x) (sym is) (record { streams = subst (λ (ss : List OuterStream). outer.StandsFor [] ss) (sym none.0) (record { count = refl; each = λ ssrc. tt }); rtcp = sym none.1 })

pub taken_stands : (kept : List Kept) (serial at : ℕ) (k : Kept) → Takes kept serial at → k ≡ begun serial → StandsStill kept (set kept at k)
taken_stands kept serial at k t is = λ sealing stands. record {
  each = λ s.
      elim (cases_eq serial s) as (λ _. SameSealing (kept_of (set kept at k) s) (sealing_of sealing s)) [
        | inl same ↦
            subst (λ (q : ℕ). SameSealing (kept_of (set kept at k) q) (sealing_of sealing q)) same
            (subst (λ (found : Option Kept). SameSealing found (sealing_of sealing serial))
            (sym (find_new (holds serial) kept at k t.new (ap (holds serial) is ∙ begun_holds serial) (position-Some is_free kept at k t.free).0))
            (begun_same (sealing_of sealing serial) k serial is
            (subst (λ (found : Option Kept). SameSealing found (sealing_of sealing serial)) t.new (stands.each serial))))
        | inr apart ↦ subst (λ (found : Option Kept). SameSealing found (sealing_of sealing s)) (sym (taken_found kept serial at s k t is apart)) (stands.each s)
      ];
}

pub taken_only : (kept : List Kept) (serial at : ℕ) (k : Kept) → Takes kept serial at → k ≡ begun serial → StaysOnlyOf serial kept (set kept at k)
taken_only kept serial at k t is = λ entries member only. record {
  table = taken_table kept serial at k t is;
  each = λ s any.
      elim (cases_eq serial s) as (λ _. in_set entries s ≡ true) [
        | inl same ↦ subst (λ (q : ℕ). in_set entries q ≡ true) same member
        | inr apart ↦
            only.each s (any_find (holds s) kept ∙ ap (λ (x : Option Kept). is_some x) (sym (taken_found kept serial at s k t is apart)) ∙ sym (any_find (holds s) (set kept at k)) ∙ any)
      ];
}

pub has_room : (entries : List Entry) (serial : ℕ) (kept : List Kept) → OnlyOf entries kept → length entries ≤ 64 → in_set entries serial ≡ true → HasRoomFor serial kept
unfolding Fills
has_room entries serial kept only few member = λ new.
    let size = only.table.size in
    let others : (t : ℕ) → list_any (holds t) kept ≡ true → in_set (without entries serial) t ≡ true = λ (t : ℕ). λ (held : list_any (holds t) kept ≡ true).
    in_without entries serial t (λ (same : t ≡ serial).
    let here : list_any (holds serial) kept ≡ true = subst (λ (q : ℕ). list_any (holds q) kept ≡ true) same held in let none = none_any kept serial new in absurd (cc)) (only.each t held) in
    elim (cases_Bool (list_any is_free kept)) [
      | inl some ↦ some
      | inr none ↦
          let most : length kept ≤ length (without entries serial) = fills (without entries serial) kept only.table.differ others none in
          let less = fewer entries serial member in
          absurd (omega arith)
    ]
