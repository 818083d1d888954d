-- Who is chosen by name, and which datagrams by number.
use Rattle.std.proofs.Common.{◌≡◌, ℕ, zero, suc, ◌+◌, ◌-◌, ◌<◌, Bool, true, false, cond, not, List, [], ◌∷◌, ◌++◌, length, map, Option, Some, None, Result, Ok, Err, slice_get, refl, sym, ap, subst, ◌∙◌, arith}
use Rattle.std.specs.Prelude.{◌&&◌, ◌||◌, ◌==◌, count_by, filter, find}
use Rattle.std.specs.Global.{Vec}
use Rattle.std.specs.List.{list_all, list_any}
use Rattle.std.specs.Option.{is_some, option_map_or}
use Rattle.std.specs.Str.{bytes_eq}
use Rattle.std.proofs.lemmas.Bool.Decides.{nat_tests}
use Rattle.std.proofs.lemmas.List.{append-nil, length-map}
use Rattle.std.proofs.lemmas.List.Folds.{list_all-append}
use Rattle.std.proofs.lemmas.List.Sums.{length-filter}
use Rattle.std.proofs.lemmas.Option.{same_Some}
use Rattle.perc_conference_state.specs.Mirror.{Mirrors}
use Rattle.perc_conference_state.specs.declared.conference.Conference as code
use Rattle.perc_conference_state.specs.declared.conference.Stop.{Stop}
use Rattle.perc_conference_state.specs.declared.conference.Stop.TheVariants as stop
use Rattle.perc_member.specs.Each.{MirrorEach, MirrorsMember}
use Rattle.perc_member.specs.declared.member.Member as code_member
use Rattle.perc_run.specs.Forwarding.{are_present, associations_of, count_recipients}
use Rattle.perc_run.specs.State.{Datagram, Member, State, datagram_at, has_name, is_present, member_named, present_members}
use Rattle.perc_script_line.specs.declared.reason.Reason.TheVariants as reason
use Rattle.perc_word.specs.declared.name.Name as word
use Rattle.perc_forward_line.specs.Telling.{AreNumbers, AreRecipients, AreThere, are_there, is_named_in, names_in}
use Rattle.perc_forward_line.proofs.Lists.{each_head, each_tail}

-- ---- tests of all

all_push : {X : Type 0} (p : X → Bool) (xs : List X) (x : X) → list_all p xs ≡ true → p x ≡ true → list_all p (xs ++ x ∷ []) ≡ true
all_push p xs x all one = list_all-append p xs (x ∷ []) ∙ rw (all, one) refl

fails_at : {X : Type 0} (p : X → Bool) (xs ys : List X) (x : X) → p x ≡ false → list_all p (xs ++ x ∷ ys) ≡ false
fails_at p [] ys x none = rw none refl
fails_at p (y ∷ xs) ys x none = rw (fails_at p xs ys x none) (and_false (p y))
  where
    and_false : (b : Bool) → (b && false) ≡ false
    and_false true = refl
    and_false false = refl

both : (a b : Bool) → (a && b) ≡ true → (a ≡ true) × (b ≡ true)
both true b h = (refl, h)
both false b h = absurd cc

pub all_true_at : {X : Type 0} (p : X → Bool) (xs : List X) (i : ℕ) (x : X) → list_all p xs ≡ true → slice_get xs i ≡ Some x → p x ≡ true
all_true_at p [] i x all at = absurd cc
all_true_at p (y ∷ xs) zero x all at = ap p (sym (same_Some _ _ at)) ∙ (both (p y) (list_all p xs) all).0
all_true_at p (y ∷ xs) (suc i) x all at = all_true_at p xs i x (both (p y) (list_all p xs) all).1 at

-- ---- names

found_any : {X : Type 0} (p : X → Bool) (xs : List X) (x : X) → find p xs ≡ Some x → list_any p xs ≡ true
found_any p [] x h = absurd cc
found_any p (y ∷ xs) x h = at (p y) (found_any p xs x) h
  where
    at : (b : Bool) → (find p xs ≡ Some x → list_any p xs ≡ true) → cond b (Some y) (find p xs) ≡ Some x → (b || list_any p xs) ≡ true
    at true later e = refl
    at false later e = later e

none_any : {X : Type 0} (p : X → Bool) (xs : List X) → find p xs ≡ None → list_any p xs ≡ false
none_any p [] h = refl
none_any p (y ∷ xs) h = at (p y) (none_any p xs) h
  where
    at : (b : Bool) → (find p xs ≡ None → list_any p xs ≡ false) → cond b (Some y) (find p xs) ≡ None → (b || list_any p xs) ≡ false
    at true later e = absurd cc
    at false later e = later e

-- the names of a list so far, each of which is present
pub record NamesSoFar (c : code.Conference) (list so_far left : List (List ℕ)) : Type 0 where
  pub split : so_far ++ left ≡ list
  pub present : (s : State) → Mirrors c s → are_present s so_far ≡ true

split_on : {X : Type 0} (so_far left rest list : List X) (x : X) → so_far ++ left ≡ list → left ≡ x ∷ rest → so_far ++ x ∷ rest ≡ list
split_on so_far left rest list x split is = ap (λ (xs : List _). so_far ++ xs) (sym is) ∙ split

split_more : {X : Type 0} (so_far rest : List X) (x : X) → (so_far ++ x ∷ []) ++ rest ≡ so_far ++ x ∷ rest
split_more [] rest x = refl
split_more (y ∷ so_far) rest x = ap (λ (xs : List _). y ∷ xs) (split_more so_far rest x)

pub names_begin : (c : code.Conference) (list so_far : List (List ℕ)) → so_far ≡ [] → NamesSoFar c list so_far list
names_begin c list so_far none = record {
  split = ap (λ (xs : List (List ℕ)). xs ++ list) none;
  present = λ s mirrors. ap (are_present s) none;
}

pub names_step : (c : code.Conference) (list so_far left rest more : List (List ℕ)) (name : List ℕ) → NamesSoFar c list so_far left
    → left ≡ name ∷ rest → ((s : State) → Mirrors c s → (m : Member) × (member_named name s ≡ Some m))
    → more ≡ so_far ++ name ∷ [] → NamesSoFar c list more rest
names_step c list so_far left rest more name h is there push = record {
  split = ap (λ (xs : List (List ℕ)). xs ++ rest) push ∙ split_more so_far rest name ∙ split_on so_far left rest list name h.split is;
  present = λ s mirrors.
      let m = there s mirrors in
      ap (are_present s) push ∙ all_push (λ (n : List ℕ). list_any (is_present n) s.members) so_far name (h.present s mirrors) (found_any (is_present name) s.members m.0 m.1);
}

pub names_absent : (c : code.Conference) (s : State) (names : Option (List (List ℕ))) (list so_far left rest : List (List ℕ)) (name : List ℕ) (result : Result (Option (Vec word.Name)) Stop) (e : Stop)
    → NamesSoFar c list so_far left
    → names ≡ Some list → left ≡ name ∷ rest → member_named name s ≡ None → result ≡ Err e → e ≡ stop.Refused reason.Name → AreRecipients s names result
names_absent c s names list so_far left rest name result e h some is absent err refused =
    let fails : are_present s list ≡ false = ap (are_present s) (sym (split_on so_far left rest list name h.split is))
    ∙ fails_at (λ (n : List ℕ). list_any (is_present n) s.members) so_far rest name (none_any (is_present name) s.members absent) in
    subst (AreRecipients s names) (sym (err ∙ ap (λ (x : Stop). Err x) refused)) (refl, ap (λ (o : Option (List (List ℕ))). option_map_or (are_present s) o true) some ∙ fails)

pub names_all : (c : code.Conference) (s : State) (names : Option (List (List ℕ))) (list so_far left : List (List ℕ)) → NamesSoFar c list so_far left → Mirrors c s → names ≡ Some list → left ≡ []
    → (Some so_far ≡ names) × (option_map_or (are_present s) names true ≡ true)
names_all c s names list so_far left h mirrors some none =
    let e : so_far ≡ list = sym (append-nil so_far) ∙ ap (λ (xs : List (List ℕ)). so_far ++ xs) (sym none) ∙ h.split in
    (ap (λ (xs : List (List ℕ)). Some xs) e ∙ sym some, ap (λ (o : Option (List (List ℕ))). option_map_or (are_present s) o true) some ∙ ap (are_present s) (sym e) ∙ h.present s mirrors)

-- ---- numbers

pub record NumbersSoFar (c : code.Conference) (list so_far left : List ℕ) : Type 0 where
  pub split : so_far ++ left ≡ list
  pub there : (s : State) → Mirrors c s → AreThere s so_far

pub numbers_begin : (c : code.Conference) (list so_far : List ℕ) → so_far ≡ [] → NumbersSoFar c list so_far list
numbers_begin c list so_far none = record {
  split = ap (λ (xs : List ℕ). xs ++ list) none;
  there = λ s mirrors. ap (are_there s) none;
}

pub numbers_step : (c : code.Conference) (list so_far left rest more : List ℕ) (number : ℕ) → NumbersSoFar c list so_far left
    → left ≡ number ∷ rest → ((s : State) → Mirrors c s → (d : Datagram) × (datagram_at s.datagrams number ≡ Some d))
    → more ≡ so_far ++ number ∷ [] → NumbersSoFar c list more rest
numbers_step c list so_far left rest more number h is there push = record {
  split = ap (λ (xs : List ℕ). xs ++ rest) push ∙ split_more so_far rest number ∙ split_on so_far left rest list number h.split is;
  there = λ s mirrors.
      let d = there s mirrors in
      ap (are_there s) push ∙ all_push (λ (n : ℕ). is_some (datagram_at s.datagrams n)) so_far number (h.there s mirrors) (ap is_some d.1);
}

pub numbers_absent : (c : code.Conference) (s : State) (list so_far left rest : List ℕ) (number : ℕ) (result : Result (Vec ℕ) Stop) (e : Stop) → NumbersSoFar c list so_far left
    → left ≡ number ∷ rest → datagram_at s.datagrams number ≡ None → result ≡ Err e → e ≡ stop.Refused reason.Datagram → AreNumbers s list result
numbers_absent c s list so_far left rest number result e h is absent err refused =
    let fails : are_there s list ≡ false = ap (are_there s) (sym (split_on so_far left rest list number h.split is))
    ∙ fails_at (λ (n : ℕ). is_some (datagram_at s.datagrams n)) so_far rest number (ap is_some absent) in
    subst (AreNumbers s list) (sym (err ∙ ap (λ (x : Stop). Err x) refused)) (refl, fails)

pub numbers_all : (c : code.Conference) (s : State) (list so_far left : List ℕ) → NumbersSoFar c list so_far left → Mirrors c s → left ≡ [] → (so_far ≡ list) × AreThere s list
numbers_all c s list so_far left h mirrors none =
    let e : so_far ≡ list = sym (append-nil so_far) ∙ ap (λ (xs : List ℕ). so_far ++ xs) (sym none) ∙ h.split in
    (e, ap (are_there s) (sym e) ∙ h.there s mirrors)

-- a datagram that is there
pub record DatagramAt (datagrams : List Datagram) (number : ℕ) : Type 0 where
  pub datagram : Datagram
  pub there : datagram_at datagrams number ≡ Some datagram
  pub above : 0 < number
  pub at : slice_get datagrams (number - 1) ≡ Some datagram

pub datagram_there : (datagrams : List Datagram) (number : ℕ) → is_some (datagram_at datagrams number) ≡ true → DatagramAt datagrams number
datagram_there datagrams number h = at (number == 0) (slice_get datagrams (number - 1)) refl refl h
  where
    at : (b : Bool) (o : Option Datagram) → (number == 0) ≡ b → slice_get datagrams (number - 1) ≡ o → is_some (cond b None o) ≡ true → DatagramAt datagrams number
    at true o e f some = absurd cc
    at false None e f some = absurd cc
    at false (Some d) e f some = record { datagram = d; there = rw (e, f) refl; above = grind (arith, nat_tests); at = f }

-- ---- those who are chosen, in the code and in the definition

module _ {X : Type 0} (f : code_member.Member → X) (g : Member → X) (p : code_member.Member → Bool) (q : Member → Bool) where
  one : (a b n : Bool) (c : code_member.Member) (m : Member) (cs : List code_member.Member) (ms : List Member) → a ≡ (b && n) → q m ≡ n → f c ≡ g m → map f cs ≡ map g (filter q ms)
      → map f (cond a (c ∷ cs) cs) ≡ map g (filter q (cond b (m ∷ ms) ms))
  one a true true c m cs ms is chosen same rest =
      let both : map f (c ∷ cs) ≡ map g (m ∷ filter q ms) = ap (λ (x : X). x ∷ map f cs) same ∙ ap (λ (xs : List X). g m ∷ xs) rest in
      ap (λ (t : Bool). map f (cond t (c ∷ cs) cs)) is ∙ both ∙ sym (ap (λ (t : Bool). map g (cond t (m ∷ filter q ms) (filter q ms))) chosen)
  one a true false c m cs ms is chosen same rest =
      ap (λ (t : Bool). map f (cond t (c ∷ cs) cs)) is ∙ rest ∙ sym (ap (λ (t : Bool). map g (cond t (m ∷ filter q ms) (filter q ms))) chosen)
  one a false n c m cs ms is chosen same rest = ap (λ (t : Bool). map f (cond t (c ∷ cs) cs)) is ∙ rest

  pub chosen_same : ((c : code_member.Member) (m : Member) → MirrorsMember c m → (p c ≡ (m.present && q m)) × (f c ≡ g m)) → (cs : List code_member.Member) (ms : List Member) → MirrorEach MirrorsMember cs ms
      → map f (filter p cs) ≡ map g (filter q (filter (λ m. m.present) ms))
  chosen_same each [] [] m = refl
  chosen_same each [] (y ∷ ms) m = absurd (omega (arith, m.count))
  chosen_same each (x ∷ cs) [] m = absurd (omega (arith, m.count))
  chosen_same each (x ∷ cs) (y ∷ ms) m =
      let h = each x y (each_head MirrorsMember x y cs ms m) in
      one (p x) y.present (q y) x y (filter p cs) (filter (λ m. m.present) ms) h.0 refl h.1 (chosen_same each cs ms (each_tail MirrorsMember x y cs ms m))

-- the associations of those that are named
pub associations_same : (cs : List code_member.Member) (s : State) (names : List (List ℕ)) → MirrorEach MirrorsMember cs s.members
    → map (λ m. m.association) (filter (λ m. m.present && is_named_in (Some names) m) cs) ≡ associations_of s names
associations_same cs s names m =
    chosen_same (λ m. m.association) (λ m. m.association) (λ m. m.present && is_named_in (Some names) m) (λ m. list_any (λ name. has_name name m) names)
    (λ c m h. (ap (λ (b : Bool). b && list_any (λ name. bytes_eq name c.name) names) h.present ∙ ap (λ (x : List ℕ). m.present && list_any (λ name. bytes_eq name x) names) h.name, h.association)) cs s.members m

assoc : (a b c : Bool) → ((a && b) && c) ≡ (a && (b && c))
assoc true b c = refl
assoc false b c = refl

-- how many there are that a datagram goes to
pub count_same : (cs : List code_member.Member) (s : State) (m : Member) (name : List ℕ) (to : Option (List (List ℕ))) → MirrorEach MirrorsMember cs s.members → m.name ≡ name
    → count_by (λ x. x.present && not (bytes_eq name x.name) && is_named_in to x) cs ≡ count_recipients s m to
count_same cs s m name to mirrors named =
    let p : code_member.Member → Bool = λ x. x.present && not (bytes_eq name x.name) && is_named_in to x in
    let q : Member → Bool = λ x. not (has_name m.name x) && option_map_or (list_any (λ n. has_name n x)) to true in
    let zero_of : code_member.Member → ℕ = λ x. 0 in
    let zero_in : Member → ℕ = λ x. 0 in
    let same : map zero_of (filter p cs) ≡ map zero_in (filter q (present_members s)) =
    chosen_same zero_of zero_in p q (λ c x h. (
      ap (λ (b : Bool). b && not (bytes_eq name c.name) && is_named_in to c) h.present
          ∙ ap (λ (n : List ℕ). x.present && not (bytes_eq name n) && option_map_or (list_any (λ y. bytes_eq y n)) to true) h.name
          ∙ ap (λ (n : List ℕ). x.present && not (bytes_eq n x.name) && option_map_or (list_any (λ y. bytes_eq y x.name)) to true) (sym named)
          ∙ assoc x.present (not (bytes_eq m.name x.name)) (option_map_or (list_any (λ y. bytes_eq y x.name)) to true),
      refl,
    )) cs s.members mirrors in
    omega (arith, length-filter p cs, length-map (filter p cs) zero_of, length-map (filter q (present_members s)) zero_in, ap (λ (xs : List ℕ). length xs) same)
