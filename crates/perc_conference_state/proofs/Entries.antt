-- The entries of the distributor's key set as the key distributor's members: who is one, how many there are, and who goes.
use Rattle.std.proofs.Common.{◌≡◌, ℕ, zero, suc, ◌+◌, ◌/◌, ◌%◌, ◌^◌, ◌<◌, ◌≤◌, Bool, true, false, cond, not, ◌||◌, List, [], ◌∷◌, ◌++◌, length, map, get_or, Some, None, slice_get, filter, refl, sym, ap, ◌∙◌, arith}
use Rattle.std.specs.List.{list_any}
use Rattle.std.specs.Prelude.{nat_le}
use Rattle.std.specs.Str.{bytes_eq}
use Rattle.std.proofs.lemmas.Bool.{false_from_ne_true, or_parts}
use Rattle.std.proofs.lemmas.Bool.Decides.{nat_tests}
use Rattle.std.proofs.lemmas.Option.{same_Some}
use Rattle.std.proofs.lemmas.Slice.Eq.{bytes_eq-Decides}
use Rattle.byteorder.specs.Endian.{big_bytes}
use Rattle.perc_base.specs.declared.profile.Profile.{Profile}
use Rattle.perc_keeper.specs.Lists as keeper
use Rattle.perc_keeper.specs.Lists.{is_member, member_of}
use Rattle.perc_keyset.specs.Set.{absorbed, is_of, without}
use Rattle.perc_keyset.specs.declared.Entry.{Entry}
use Rattle.perc_keyset.specs.declared.Op.TheVariants.{Add, Remove}
use Rattle.perc_run.specs.Sound.{entries_from}
use Rattle.perc_run.specs.State.{Member}
use Rattle.perc_tunnel.specs.declared.message.MediaKeys.{MediaKeys}
use Rattle.perc_conference_state.specs.Keys.{keys_of}

-- ---- the next association

same_number : (a b : ℕ) → a < 65536 → b < 65536 → big_bytes 16 a ≡ big_bytes 16 b → a ≡ b
same_number a b fits_a fits_b same =
    let low : a % 256 ≡ b % 256 = ap (λ (xs : List ℕ). get_or xs 15 0) same in
    let high : a / 256 ^ 1 % 256 ≡ b / 256 ^ 1 % 256 = ap (λ (xs : List ℕ). get_or xs 14 0) same in
    omega arith

-- Members' associations are their numbers, the first of which is this.
abbrev NumberedFrom : ℕ → List Member → Type 0
NumberedFrom first members = (place : ℕ) (m : Member) → slice_get members place ≡ Some m → m.association ≡ big_bytes 16 (place + first)

numbered_tail : (first : ℕ) (m : Member) (members : List Member) → NumberedFrom first (m ∷ members) → NumberedFrom (first + 1) members
numbered_tail first m members numbered place x at =
    let same : suc place + first ≡ place + (first + 1) = omega arith in
    numbered (suc place) x at ∙ ap (big_bytes 16) same

own_number : (m : Member) (first number : ℕ) → m.association ≡ big_bytes 16 first → first < number → number < 65536
    → bytes_eq m.association (big_bytes 16 number) ≡ false
own_number m first number is below few =
    false_from_ne_true (bytes_eq m.association (big_bytes 16 number)) λ same.
    let one : first ≡ number = same_number first number (omega arith) few (sym is ∙ (bytes_eq-Decides m.association (big_bytes 16 number)).0 same) in
    absurd (omega arith)

none_more : (association : List ℕ) (e : Entry) (rest : List Entry) (present : Bool) → is_of association e ≡ false → list_any (is_of association) rest ≡ false
    → list_any (is_of association) (cond present (e ∷ rest) rest) ≡ false
none_more association e rest true is none = rw is none
none_more association e rest false is none = none

none_of : (members : List Member) (first serial number : ℕ) → NumberedFrom first members → first + length members ≤ number → number < 65536
    → list_any (is_of (big_bytes 16 number)) (entries_from serial members) ≡ false
none_of [] first serial number numbered above few = refl
none_of (m ∷ members) first serial number numbered above few =
    let here : 0 + first ≡ first = omega arith in
    let own = own_number m first number (numbered 0 m refl ∙ ap (big_bytes 16) here) (omega arith) few in
    none_more (big_bytes 16 number) (record { association = m.association; serial = serial; client = m.client; server = m.server })
    (entries_from (serial + 1) members) m.present own
    (none_of members (first + 1) (serial + 1) number (numbered_tail first m members numbered) (omega arith) few)

-- Nobody in the set has the next association.
pub next_is_new : (members : List Member) → NumberedFrom 1 members → length members ≤ 256
    → list_any (is_of (big_bytes 16 (length members + 1))) (entries_from 0 members) ≡ false
next_is_new members numbered few = none_of members 1 0 (length members + 1) numbered (omega arith) (omega arith)

pub stranger : (profile : Profile) (association : List ℕ) (es : List Entry) → list_any (is_of association) es ≡ false
    → member_of (map (keys_of profile) es) association ≡ None
stranger profile association [] none = refl
stranger profile association (e ∷ es) none =
    let parts = or_parts (is_of association e) (list_any (is_of association) es) none in
    rw parts.0 (stranger profile association es parts.1)

stays : (association : List ℕ) (es : List Entry) → list_any (is_of association) es ≡ false → without association es ≡ es
stays association [] none = refl
stays association (e ∷ es) none =
    let parts = or_parts (is_of association e) (list_any (is_of association) es) none in
    rw parts.0 (ap (λ (xs : List Entry). e ∷ xs) (stays association es parts.1))

-- An entry of a new association stands behind the others.
pub added : (e : Entry) (es : List Entry) → list_any (is_of e.association) es ≡ false → length es < 64 → absorbed es (Add e) ≡ es ++ e ∷ []
unfolding absorbed
added e es none few =
    let same = stays e.association es none in
    let room : nat_le 64 (length (without e.association es)) ≡ false = rw same (grind (arith, nat_tests)) in
    rw room (ap (λ (xs : List Entry). xs ++ e ∷ []) same)

-- ---- how many

one_counted : (e : Entry) (m : Member) (es : List Entry) (members : List Member) (present : Bool) → m.present ≡ present
    → length es ≡ length (filter (λ (x : Member). x.present) members)
    → length (cond present (e ∷ es) es) ≡ length (filter (λ (x : Member). x.present) (m ∷ members))
one_counted e m es members true is same = rw is (omega arith)
one_counted e m es members false is same = rw is same

pub entries_count : (serial : ℕ) (members : List Member) → length (entries_from serial members) ≡ length (filter (λ (x : Member). x.present) members)
entries_count serial [] = refl
entries_count serial (m ∷ members) =
    one_counted (record { association = m.association; serial = serial; client = m.client; server = m.server })
    m (entries_from (serial + 1) members) members m.present refl (entries_count (serial + 1) members)

-- ---- who is one, and who goes

or_right : (a b : Bool) → b ≡ true → (a || b) ≡ true
or_right true b is = refl
or_right false b is = is

there_more : (profile : Profile) (association : List ℕ) (e : Entry) (rest : List Entry) (present : Bool) → is_member (map (keys_of profile) rest) association ≡ true
    → is_member (map (keys_of profile) (cond present (e ∷ rest) rest)) association ≡ true
there_more profile association e rest true is = or_right (is_of association e) (is_member (map (keys_of profile) rest) association) is
there_more profile association e rest false is = is

there_first : (profile : Profile) (association : List ℕ) (e : Entry) (rest : List Entry) (present : Bool) → present ≡ true → is_of association e ≡ true
    → is_member (map (keys_of profile) (cond present (e ∷ rest) rest)) association ≡ true
there_first profile association e rest true is own = rw own refl
there_first profile association e rest false is own = absurd cc

-- A member that is present is in the set.
pub is_there : (profile : Profile) (serial : ℕ) (members : List Member) (place : ℕ) (m : Member) → slice_get members place ≡ Some m → m.present ≡ true
    → is_member (map (keys_of profile) (entries_from serial members)) m.association ≡ true
is_there profile serial [] place m at present = absurd cc
is_there profile serial (x ∷ members) zero m at present =
    let is = same_Some x m at in
    there_first profile m.association (record { association = x.association; serial = serial; client = x.client; server = x.server })
    (entries_from (serial + 1) members) x.present (ap (λ (y : Member). y.present) is ∙ present)
    ((bytes_eq-Decides x.association m.association).1 (ap (λ (y : Member). y.association) is))
is_there profile serial (x ∷ members) (suc place) m at present =
    there_more profile m.association (record { association = x.association; serial = serial; client = x.client; server = x.server })
    (entries_from (serial + 1) members) x.present (is_there profile (serial + 1) members place m at present)

kept_or_not : (profile : Profile) (e : Entry) (kept : Bool) (ks : List MediaKeys) (es : List Entry) → ks ≡ map (keys_of profile) es
    → cond kept (keys_of profile e ∷ ks) ks ≡ map (keys_of profile) (cond kept (e ∷ es) es)
kept_or_not profile e true ks es same = ap (λ (xs : List MediaKeys). keys_of profile e ∷ xs) same
kept_or_not profile e false ks es same = same

-- Who goes from the set goes from the members.
pub goes_too : (profile : Profile) (association : List ℕ) (es : List Entry) → keeper.without association (map (keys_of profile) es) ≡ map (keys_of profile) (without association es)
goes_too profile association [] = refl
goes_too profile association (e ∷ es) =
    kept_or_not profile e (not (is_of association e)) (keeper.without association (map (keys_of profile) es)) (without association es)
    (goes_too profile association es)

pub removed : (association : List ℕ) (es : List Entry) → absorbed es (Remove association) ≡ without association es
unfolding absorbed
removed association es = refl
