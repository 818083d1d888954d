-- Places of serials: which is found, what an edit does to that, and how many are free.
use Rattle.std.proofs.Common.{◌≡◌, ℕ, zero, suc, ◌<◌, ◌≤◌, Bool, true, false, cond, not, List, [], ◌∷◌, ◌++◌, length, get_or, set, map, Option, Some, None, is_some, refl, sym, ap, subst, ◌∙◌, arith, rules}
use Rattle.std.specs.Prelude.{◌==◌, find, filter, IfSome, IsSome, nat_eq, nat_lt}
use Rattle.std.specs.List.{list_any, position, position_or_len, slice_get}
use Rattle.std.specs.Option.{option_map_or, option_or}
use Rattle.std.proofs.lemmas.Bool.Decides.{nat_tests}
use Rattle.std.proofs.lemmas.List.Quantifiers.{position-Some}
use Rattle.std.proofs.lemmas.Option.{slice_get-get_or, slice_get_past}
use Rattle.std.proofs.lemmas.List.Folds.{find_at, find-set}
use Rattle.perc_srtp.specs.Ends.{Stream}
use Rattle.perc_keyset.specs.declared.Entry.{Entry}
use Rattle.perc_distributor.specs.Inbound.{in_set}
use Rattle.perc_distributor.specs.Kept.{Place, holds, kept_of}
use Rattle.perc_distributor.specs.Rooms.{is_free}
use Rattle.perc_distributor.specs.Tables.{Differ, IsPlaceOf}

-- ---- places whose serials pass a test stay

-- the same by any test of serials
abbrev pub staying_by : {R : Type 0} → (ℕ → Bool) → Place R → Place R
staying_by q k = cond (option_map_or q k.serial false) k (record k { serial = None })

some_head : {R : Type 0} (q : ℕ → Bool) (b : Bool) (t : ℕ) (streams : List Stream) (rtcp : R) (tail now : List (Place R)) (s : ℕ) → q t ≡ b → kept_of now s ≡ cond (q s) (kept_of tail s) None
    → kept_of (cond b (record { serial = Some t; streams = streams; rtcp = rtcp }) (record { serial = None; streams = streams; rtcp = rtcp }) ∷ now) s
    ≡ cond (q s) (kept_of (record { serial = Some t; streams = streams; rtcp = rtcp } ∷ tail) s) None
some_head q true t streams rtcp tail now s is rest = grind (arith, nat_tests)
some_head q false t streams rtcp tail now s is rest = grind (arith, nat_tests)

head_staying : {R : Type 0} (q : ℕ → Bool) (o : Option ℕ) (streams : List Stream) (rtcp : R) (kept : List (Place R)) (s : ℕ) → kept_of (map (staying_by q) kept) s ≡ cond (q s) (kept_of kept s) None
    → kept_of (map (staying_by q) (record { serial = o; streams = streams; rtcp = rtcp } ∷ kept)) s ≡ cond (q s) (kept_of (record { serial = o; streams = streams; rtcp = rtcp } ∷ kept) s) None
head_staying q None streams rtcp kept s rest = rest
head_staying q (Some t) streams rtcp kept s rest = some_head q (q t) t streams rtcp kept (map (staying_by q) kept) s refl rest

none_either : {R : Type 0} (b : Bool) → cond {A = Option (Place R)} b None None ≡ None
none_either true = refl
none_either false = refl

pub find_staying : {R : Type 0} (q : ℕ → Bool) (kept : List (Place R)) (s : ℕ) → kept_of (map (staying_by q) kept) s ≡ cond (q s) (kept_of kept s) None
find_staying q [] s = sym (none_either (q s))
find_staying q (k ∷ kept) s = head_staying q k.serial k.streams k.rtcp kept s (find_staying q kept s)

-- What is found of a serial among those that pass a test of serials; `of` tells the serial.
head_filter : {S : Type 0} (of : S → ℕ) (q : ℕ → Bool) (b : Bool) (x : S) (tail now : List S) (s : ℕ) → q (of x) ≡ b → find (λ y. of y == s) now ≡ cond (q s) (find (λ y. of y == s) tail) None
    → find (λ y. of y == s) (cond b (x ∷ now) now) ≡ cond (q s) (find (λ y. of y == s) (x ∷ tail)) None
head_filter of q true x tail now s is rest = grind (arith, nat_tests)
head_filter of q false x tail now s is rest = grind (arith, nat_tests)

none_kept : {S : Type 0} (b : Bool) → cond {A = Option S} b None None ≡ None
none_kept true = refl
none_kept false = refl

pub find_filter : {S : Type 0} (of : S → ℕ) (q : ℕ → Bool) (xs : List S) (s : ℕ) → find (λ y. of y == s) (filter (λ y. q (of y)) xs) ≡ cond (q s) (find (λ y. of y == s) xs) None
find_filter of q [] s = sym (none_kept (q s))
find_filter of q (x ∷ xs) s = head_filter of q (q (of x)) x xs (filter (λ y. q (of y)) xs) s refl (find_filter of q xs s)

-- And behind those, what stands last.
last_head : {S : Type 0} (b : Bool) (x : S) (found last : Option S) → cond b (Some x) (option_or found last) ≡ option_or (cond b (Some x) found) last
last_head true x found last = refl
last_head false x found last = refl

pub find_last : {S : Type 0} (p : S → Bool) (xs : List S) (new : S) → find p (xs ++ new ∷ []) ≡ option_or (find p xs) (cond (p new) (Some new) None)
find_last p [] new = refl
find_last {S = S} p (x ∷ xs) new =
    ap (λ (found : Option S). cond (p x) (Some x) found) (find_last p xs new) ∙ last_head (p x) x (find p xs) (cond (p new) (Some new) None)

either_found : {S : Type 0} (a b : Bool) (found : Option S) (new : S) → a ≡ false → b ≡ true → option_or (cond a found None) (cond b (Some new) None) ≡ Some new
either_found true b found new none is = absurd (cc)
either_found false true found new none is = refl
either_found false false found new none is = absurd (cc)

or_none : {S : Type 0} (found : Option S) → option_or found None ≡ found
or_none None = refl
or_none (Some x) = refl

other_found : {S : Type 0} (b : Bool) (found : Option S) (new : S) → b ≡ false → option_or found (cond b (Some new) None) ≡ found
other_found true found new none = absurd (cc)
other_found false found new none = or_none found

-- What is found of a serial where this stands last, for its own: it, and for another: what passes the test.
pub found_with : {S : Type 0} (of : S → ℕ) (q : ℕ → Bool) (xs : List S) (new : S) (t : ℕ) → of new ≡ t → q t ≡ false → find (λ y. of y == t) (filter (λ y. q (of y)) xs ++ new ∷ []) ≡ Some new
found_with {S = S} of q xs new t same out =
    find_last (λ (y : S). of y == t) (filter (λ y. q (of y)) xs) new
    ∙ ap (λ (found : Option S). option_or found (cond (of new == t) (Some new) None)) (find_filter of q xs t)
    ∙ either_found (q t) (of new == t) (find (λ y. of y == t) xs) new out (grind (arith, nat_tests))

pub found_past : {S : Type 0} (of : S → ℕ) (q : ℕ → Bool) (xs : List S) (new : S) (t : ℕ) → (of new ≡ t → ⊥)
    → find (λ y. of y == t) (filter (λ y. q (of y)) xs ++ new ∷ []) ≡ cond (q t) (find (λ y. of y == t) xs) None
found_past {S = S} of q xs new t other =
    find_last (λ (y : S). of y == t) (filter (λ y. q (of y)) xs) new
    ∙ ap (λ (found : Option S). option_or found (cond (of new == t) (Some new) None)) (find_filter of q xs t)
    ∙ other_found (of new == t) (cond (q t) (find (λ y. of y == t) xs) None) new (grind (arith, nat_tests))

pub any_find : {X : Type 0} (p : X → Bool) (xs : List X) → list_any p xs ≡ is_some (find p xs)
any_find p [] = refl
any_find p (x ∷ xs) = let rest = any_find p xs in grind (arith, rest)

pub either_some : {R : Type 0} (b : Bool) (k : Option (Place R)) → is_some (cond b k None) ≡ true → b ≡ true
either_some true k some = refl
either_some false k some = absurd (cc)

either_none : {R : Type 0} (b : Bool) (k : Option (Place R)) → is_some k ≡ false → is_some (cond b k None) ≡ false
either_none true k none = none
either_none false k none = refl

pub any_staying : {R : Type 0} (q : ℕ → Bool) (kept : List (Place R)) (s : ℕ) → list_any (holds s) kept ≡ false → list_any (holds s) (map (staying_by q) kept) ≡ false
any_staying {R = R} q kept s none =
    any_find (holds s) (map (staying_by q) kept) ∙ ap (λ (k : Option (Place R)). is_some k) (find_staying q kept s)
    ∙ either_none (q s) (kept_of kept s) (sym (any_find (holds s) kept) ∙ none)

differ_head : {R : Type 0} (b : Bool) (t : ℕ) (streams : List Stream) (rtcp : R) (now : List (Place R)) → list_any (holds t) now ≡ false → Differ now
    → Differ (cond b (record { serial = Some t; streams = streams; rtcp = rtcp }) (record { serial = None; streams = streams; rtcp = rtcp }) ∷ now)
differ_head true t streams rtcp now none rest = (none, rest)
differ_head false t streams rtcp now none rest = (tt, rest)

differ_first : {R : Type 0} (q : ℕ → Bool) (o : Option ℕ) (streams : List Stream) (rtcp : R) (kept : List (Place R))
    → IfSome o (λ s. list_any (holds s) kept ≡ false) → Differ (map (staying_by q) kept)
    → Differ (map (staying_by q) (record { serial = o; streams = streams; rtcp = rtcp } ∷ kept))
differ_first q None streams rtcp kept none rest = (tt, rest)
differ_first q (Some t) streams rtcp kept none rest = differ_head (q t) t streams rtcp (map (staying_by q) kept) (any_staying q kept t none) rest

pub differ_staying : {R : Type 0} (q : ℕ → Bool) (kept : List (Place R)) → Differ kept → Differ (map (staying_by q) kept)
differ_staying q [] differ = tt
differ_staying q (k ∷ kept) differ = differ_first q k.serial k.streams k.rtcp kept differ.0 (differ_staying q kept differ.1)

pub length_staying : {R : Type 0} (q : ℕ → Bool) (kept : List (Place R)) → length (map (staying_by q) kept) ≡ length kept
length_staying q [] = refl
length_staying q (k ∷ kept) = ap suc (length_staying q kept)

-- ---- one place is written

pub any_set_false : {R : Type 0} (p : Place R → Bool) (kept : List (Place R)) (at : ℕ) (k : Place R) → p k ≡ false → list_any p kept ≡ false → list_any p (set kept at k) ≡ false
any_set_false p [] at k new none = none
any_set_false p (x ∷ kept) zero k new none = grind (arith, nat_tests)
any_set_false p (x ∷ kept) (suc at) k new none =
    let tail : list_any p kept ≡ false = grind (arith, nat_tests) in
    let rest = any_set_false p kept at k new tail in
    grind (arith, rest)

pub any_set_same : {R : Type 0} (p : Place R → Bool) (kept : List (Place R)) (at : ℕ) (k : Place R) → p k ≡ p (get_or kept at k) → list_any p (set kept at k) ≡ list_any p kept
any_set_same p [] at k same = refl
any_set_same p (x ∷ kept) zero k same = grind (arith, same)
any_set_same p (x ∷ kept) (suc at) k same = let rest = any_set_same p kept at k same in grind (arith, rest)

differ_kept : {R : Type 0} (o : Option ℕ) (kept : List (Place R)) (at : ℕ) (k : Place R) → k.serial ≡ (get_or kept at k).serial → IfSome o (λ s. list_any (holds s) kept ≡ false)
    → IfSome o (λ s. list_any (holds s) (set kept at k) ≡ false)
differ_kept None kept at k same none = tt
differ_kept (Some s) kept at k same none = any_set_same (holds s) kept at k (ap (λ (o : Option ℕ). option_map_or (λ t. t == s) o false) same) ∙ none

pub differ_set : {R : Type 0} (kept : List (Place R)) (at : ℕ) (k : Place R) → k.serial ≡ (get_or kept at k).serial → Differ kept → Differ (set kept at k)
differ_set [] at k same differ = tt
differ_set (x ∷ kept) zero k same differ = (subst (λ (o : Option ℕ). IfSome o (λ s. list_any (holds s) kept ≡ false)) (sym same) differ.0, differ.1)
differ_set (x ∷ kept) (suc at) k same differ = (differ_kept x.serial kept at k same differ.0, differ_set kept at k same differ.1)

past : {R : Type 0} (b : Bool) (x : Place R) (found : Option (Place R)) → cond b (Some x) found ≡ None → (b ≡ false) × (found ≡ None)
past true x found none = absurd (cc)
past false x found none = (refl, none)

pub find_new : {R : Type 0} (p : Place R → Bool) (kept : List (Place R)) (at : ℕ) (k : Place R) → find p kept ≡ None → p k ≡ true → at < length kept → find p (set kept at k) ≡ Some k
find_new p [] at k none is within = absurd (omega arith)
find_new p (x ∷ kept) zero k none is within = grind (arith, is)
find_new p (x ∷ kept) (suc at) k none is within =
    let tail : (p x ≡ false) × (find p kept ≡ None) = past (p x) x (find p kept) none in
    let rest = find_new p kept at k tail.1 is (omega arith) in
    grind (arith, rest, tail.0)

pub set_twice : {R : Type 0} (kept : List (Place R)) (at : ℕ) (k m : Place R) → set (set kept at k) at m ≡ set kept at m
set_twice [] at k m = refl
set_twice (x ∷ kept) zero k m = refl
set_twice {R = R} (x ∷ kept) (suc at) k m = ap (λ (ks : List (Place R)). x ∷ ks) (set_twice kept at k m)

-- ---- the place of a serial

cond_some : (b : Bool) (p at : ℕ) → cond b (Some p) None ≡ Some at → (b ≡ true) × (at ≡ p)
cond_some true p at is = (refl, cc)
cond_some false p at is = absurd (cc)

cond_none : (b : Bool) (p : ℕ) → cond b (Some p) None ≡ None → b ≡ false
cond_none true p is = absurd (cc)
cond_none false p is = refl

pub place_held : {R : Type 0} (kept : List (Place R)) (serial at : ℕ) → position (holds serial) kept ≡ Some at → IsPlaceOf kept serial at
place_held kept serial at is =
    let parts = cond_some (nat_lt (position_or_len (holds serial) kept) (length kept)) (position_or_len (holds serial) kept) at is in
    let within : at < length kept = grind (arith, nat_tests, parts.0, parts.1) in
    record {
      in_range = within;
      holds_it = λ d. (position-Some (holds serial) kept at d is).1;
      found = λ d. find_at (holds serial) kept ∙ ap (λ (n : ℕ). slice_get kept n) (sym parts.1) ∙ slice_get-get_or kept at d within;
      written = λ k its. find-set (holds serial) kept at k parts.1 within its;
    }

pub none_held : {R : Type 0} (kept : List (Place R)) (serial : ℕ) → position (holds serial) kept ≡ None → kept_of kept serial ≡ None
none_held kept serial is =
    let b = cond_none (nat_lt (position_or_len (holds serial) kept) (length kept)) (position_or_len (holds serial) kept) is in
    let past : length kept ≤ position_or_len (holds serial) kept = grind (arith, nat_tests, b) in
    find_at (holds serial) kept ∙ slice_get_past kept (position_or_len (holds serial) kept) past

-- a free place is found
some_by : (b : Bool) (p : ℕ) → b ≡ true → IsSome (cond b (Some p) None)
some_by true p is = search rules
some_by false p is = absurd (cc)

pub free_found : {R : Type 0} (kept : List (Place R)) → list_any is_free kept ≡ true → IsSome (position is_free kept)
free_found {R = R} kept any =
    let some : is_some (find is_free kept) ≡ true = sym (any_find is_free kept) ∙ any in
    let at = ap (λ (k : Option (Place R)). is_some k) (find_at is_free kept) in
    let past : length kept ≤ position_or_len is_free kept → is_some (slice_get kept (position_or_len is_free kept)) ≡ false =
    λ (far : length kept ≤ position_or_len is_free kept). ap (λ (k : Option (Place R)). is_some k) (slice_get_past kept (position_or_len is_free kept) far) in
    some_by (nat_lt (position_or_len is_free kept) (length kept)) (position_or_len is_free kept) (grind (arith, nat_tests, some, at, past))

pub none_any : {R : Type 0} (kept : List (Place R)) (serial : ℕ) → kept_of kept serial ≡ None → list_any (holds serial) kept ≡ false
none_any {R = R} kept serial none = any_find (holds serial) kept ∙ ap (λ (k : Option (Place R)). is_some k) none

-- ---- a place becomes that of a serial

pub holds_is : (o : Option ℕ) (serial : ℕ) → option_map_or (λ s. s == serial) o false ≡ true → o ≡ Some serial
holds_is None serial is = absurd (cc)
holds_is (Some t) serial is = let same : t ≡ serial = grind (arith, nat_tests) in ap (λ (n : ℕ). Some n) same

pub holds_own : (o : Option ℕ) (serial : ℕ) → o ≡ Some serial → option_map_or (λ s. s == serial) o false ≡ true
holds_own None serial is = absurd (cc)
holds_own (Some s) serial is = let same : s ≡ serial = cc in grind (arith, nat_tests)

pub holds_other : (o : Option ℕ) (serial t : ℕ) → o ≡ Some serial → (serial ≡ t → ⊥) → option_map_or (λ s. s == t) o false ≡ false
holds_other None serial t is apart = absurd (cc)
holds_other (Some s) serial t is apart = let same : s ≡ serial = cc in grind (arith, nat_tests)

differ_tail : {R : Type 0} (o : Option ℕ) (serial : ℕ) (kept : List (Place R)) (at : ℕ) (k : Place R) → k.serial ≡ Some serial → IfSome o (λ s. list_any (holds s) kept ≡ false)
    → option_map_or (λ t. t == serial) o false ≡ false → IfSome o (λ s. list_any (holds s) (set kept at k) ≡ false)
differ_tail None serial kept at k is none other = tt
differ_tail (Some s) serial kept at k is none other =
    let apart : serial ≡ s → ⊥ = grind (arith, nat_tests, other) in
    any_set_false (holds s) kept at k (holds_other k.serial serial s is apart) none

pub differ_new : {R : Type 0} (kept : List (Place R)) (at serial : ℕ) (k : Place R) → k.serial ≡ Some serial → Differ kept → list_any (holds serial) kept ≡ false → Differ (set kept at k)
differ_new [] at serial k is differ none = tt
differ_new (x ∷ kept) zero serial k is differ none =
    let tail : list_any (holds serial) kept ≡ false = grind (arith, none) in
    (subst (λ (o : Option ℕ). IfSome o (λ s. list_any (holds s) kept ≡ false)) (sym is) tail, differ.1)
differ_new (x ∷ kept) (suc at) serial k is differ none =
    let tail : list_any (holds serial) kept ≡ false = grind (arith, none) in
    let head : holds serial x ≡ false = grind (arith, none) in
    (differ_tail x.serial serial kept at k is differ.0 head, differ_new kept at serial k is differ.1 tail)

-- ---- one is free for each serial of the set

pub without : List Entry → ℕ → List Entry
without entries s = filter (λ e. not (e.serial == s)) entries

without_head : (b : Bool) (e : Entry) (tail now : List Entry) (s t : ℕ) → nat_eq e.serial s ≡ b → (t ≡ s → ⊥) → in_set (e ∷ tail) t ≡ true → (in_set tail t ≡ true → in_set now t ≡ true)
    → in_set (cond (not b) (e ∷ now) now) t ≡ true
without_head true e tail now s t is other member rest = grind (arith, nat_tests)
without_head false e tail now s t is other member rest = grind (arith, nat_tests)

pub in_without : (entries : List Entry) (s t : ℕ) → (t ≡ s → ⊥) → in_set entries t ≡ true → in_set (without entries s) t ≡ true
unfolding without
in_without [] s t other member = absurd (cc)
in_without (e ∷ entries) s t other member = without_head (nat_eq e.serial s) e entries (without entries s) s t refl other member (in_without entries s t other)

fewer_head : (b : Bool) (e : Entry) (tail now : List Entry) (s : ℕ) → nat_eq e.serial s ≡ b → in_set (e ∷ tail) s ≡ true → length now ≤ length tail → (in_set tail s ≡ true → length now < length tail)
    → length (cond (not b) (e ∷ now) now) < length (e ∷ tail)
fewer_head true e tail now s is member most fewer = omega arith
fewer_head false e tail now s is member most fewer =
    let inside : in_set tail s ≡ true = grind (arith, nat_tests) in
    let less = fewer inside in
    omega arith

most_head : (b : Bool) (e : Entry) (tail now : List Entry) → length now ≤ length tail → length (cond (not b) (e ∷ now) now) ≤ length (e ∷ tail)
most_head true e tail now most = omega arith
most_head false e tail now most = omega arith

at_most : (entries : List Entry) (s : ℕ) → length (without entries s) ≤ length entries
unfolding without
at_most [] s = omega arith
at_most (e ∷ entries) s = most_head (nat_eq e.serial s) e entries (without entries s) (at_most entries s)

pub fewer : (entries : List Entry) (s : ℕ) → in_set entries s ≡ true → length (without entries s) < length entries
unfolding without
fewer [] s member = absurd (cc)
fewer (e ∷ entries) s member = fewer_head (nat_eq e.serial s) e entries (without entries s) s refl member (at_most entries s) (fewer entries s)

unfoldable pub Fills : {R : Type 0} → List Entry → List (Place R) → Type 0
Fills entries kept =
    Differ kept → ((s : ℕ) → list_any (holds s) kept ≡ true → in_set entries s ≡ true) → list_any is_free kept ≡ false → length kept ≤ length entries

fills_head : {R : Type 0} (entries : List Entry) (o : Option ℕ) (streams : List Stream) (rtcp : R) (kept : List (Place R)) → ((smaller : List Entry) → Fills smaller kept)
    → Fills entries (record { serial = o; streams = streams; rtcp = rtcp } ∷ kept)
unfolding Fills
fills_head entries None streams rtcp kept rest = λ differ only full. absurd (cc)
fills_head entries (Some s) streams rtcp kept rest = λ differ only full.
    let own : in_set entries s ≡ true = only s (grind (arith, nat_tests)) in
    let others : (t : ℕ) → list_any (holds t) kept ≡ true → in_set (without entries s) t ≡ true = λ (t : ℕ). λ (held : list_any (holds t) kept ≡ true).
    in_without entries s t (λ (same : t ≡ s). let twice : list_any (holds s) kept ≡ true = subst (λ (q : ℕ). list_any (holds q) kept ≡ true) same held in let once = differ.0 in absurd (cc))
    (only t (grind (arith, nat_tests, held))) in
    let below : length kept ≤ length (without entries s) = rest (without entries s) differ.1 others full in
    let less = fewer entries s own in
    omega arith

-- Places of serials of a set, none of which is free, are as many as its entries at most.
pub fills : {R : Type 0} (entries : List Entry) (kept : List (Place R)) → Fills entries kept
unfolding Fills
fills entries [] = λ differ only full. omega arith
fills entries (k ∷ kept) = fills_head entries k.serial k.streams k.rtcp kept (λ (smaller : List Entry). fills smaller kept)
