-- What is asked of all tries, and what of it nobody made.
use Rattle.std.proofs.Common.{◌≡◌, ℕ, ◌+◌, ◌≤◌, ◌<◌, Bool, true, false, cond, inl, inr, List, [], ◌∷◌, ◌++◌, length, take, append_assoc, Option, Some, None, Result, Ok, Err, refl, sym, ap, subst, ◌∙◌, arith, append-nil, rules}
use Rattle.std.specs.Prelude.{◌&&◌, ◌||◌, ◌⊎◌, All, IfOk, IfSome, filter, is_some, nat_lt}
use Rattle.std.specs.List.{AllByRecursion, list_any}
use Rattle.std.proofs.lemmas.List.Elements.{All-from_recursion}
use Rattle.std.specs.Option.{option_map}
use Rattle.perc_rtp.specs.Header.{Header}
use Rattle.perc_ekt.specs.Field.{Field, Short, Full, Extension, told_of}
use Rattle.perc_ekt.specs.Key.{WrappedKey}
use Rattle.perc_ekt.specs.declared.key.KeyFault.{KeyFault}
use Rattle.perc_ekt.specs.declared.key.KeyFault.TheVariants as ekt
use Rattle.perc_contexts.specs.Receiving.{Attempt, Carried, Context, Receiving, is_live, tries}
use Rattle.perc_contexts.specs.Kept.{IsCarried}
use Rattle.perc_outer.specs.Datagram.{Opened, original_header}
use Rattle.perc_receiver.specs.declared.refusal.Refusal.{Refusal}
use Rattle.perc_receiver.specs.declared.refusal.Refusal.TheVariants as refusal
use Rattle.perc_receiver.specs.Table.{Secret, Table, secret_of}
use Rattle.perc_receiver.specs.Opener.{by_cipher}
use Rattle.perc_receiver.specs.Receiver.{OpenTry, Receiver, carried_by, carried_key, live_of, some_tries}
use Rattle.perc_receiver.specs.Foreign.{is_foreign_key, is_foreign_opened, tries_or_none, tries_reached, tries_with, unwraps}
use Rattle.perc_incoming.specs.declared.carried.UnwrappedKey.{UnwrappedKey}
use Rattle.perc_incoming.specs.declared.inquiry.OpenKey.{OpenKey}
use Rattle.perc_incoming.specs.Asking.{IsCarriedBy, IsOpened, MayTake, body_at, decided_by, key_of}
use Rattle.perc_incoming.specs.Outcome.{decided_carried}
use Rattle.perc_incoming.proofs.Parts.{carried_ok}
use Rattle.perc_receiver.proofs.Agreeing.{carries_live, tries_are}
use Rattle.perc_receiver.proofs.Tried.{IsLiveKey, IsTriedUnder, all_tried}
use Rattle.perc_base.specs.Profile.{key_length}
use Rattle.perc_base.specs.declared.profile.Profile.{Profile}
use Rattle.perc_base.specs.declared.profile.Profile.TheVariants.{Aes128, Aes256}
use Rattle.perc_contexts.specs.declared.Try.{Try}
use Rattle.perc_incoming.specs.Opening.{AreAppended, AreOpenKeys, IsKeyFor, IsOpenKey, decided_of, is_full_told, is_unwrapped, key_opens, lacks_row, lacks_wrap, open_tries, opens, opens_unmade, tries_carried, tries_of}
use Rattle.perc_incoming.proofs.Deciding.{body_is}

-- ---- what of it nobody made

any_in : {X : Type 0} (test lacks : X → Bool) (xs : List X) → list_any (λ x. test x && lacks x) xs ≡ list_any lacks (filter test xs)
any_in test lacks [] = refl
any_in test lacks (x ∷ xs) = at (test x) (any_in test lacks xs) where
  at : (b : Bool) → list_any (λ y. test y && lacks y) xs ≡ list_any lacks (filter test xs)
      → ((b && lacks x) || list_any (λ y. test y && lacks y) xs) ≡ list_any lacks (cond b (x ∷ filter test xs) (filter test xs))
  at true later = ap (λ (c : Bool). lacks x || c) later
  at false later = later

key_unmade : (secrets : List Secret) (table : Table) (field : Field) → is_foreign_key secrets table field ≡ (key_opens secrets field && lacks_wrap table field)
key_unmade secrets table Short = refl
key_unmade secrets table (Extension octets kind) = refl
key_unmade secrets table (Full cipher spi epoch) = refl

-- A datagram is foreign exactly where something in it opens that nobody made.
pub foreign_is : (table : Table) (r : Receiver) (o : Opened) → is_foreign_opened table r o ≡ opens_unmade table r o
foreign_is table r o =
    let key = key_unmade r.secrets table o.field in
    let tried = any_in (opens r.secrets (original_header o) o.inner) (lacks_row table o) (tries_reached r o) in
    λ i. key i || tried i

-- ---- the key

unwrapped_by : (spi ssrc : ℕ) (found : Result WrappedKey KeyFault) (result : Result (Option UnwrappedKey) Refusal) → IsCarriedBy (carried_key spi ssrc found) result
    → is_unwrapped result ≡ unwraps found
unwrapped_by spi ssrc (Ok w) (Ok key) is = refl
unwrapped_by spi ssrc (Ok w) (Err e) is = absurd is
unwrapped_by spi ssrc (Err ekt.Unwrap) result is = ap is_unwrapped is
unwrapped_by spi ssrc (Err ekt.Plain) result is = ap is_unwrapped is

live_by : (secrets : List Secret) (cipher : List ℕ) (spi epoch ssrc : ℕ) (live : Bool) (result : Result (Option UnwrappedKey) Refusal)
    → IsCarriedBy (cond live (carried_key spi ssrc ((by_cipher secrets).wrapped_key spi cipher)) (Err (refusal.SpiUnknown spi))) result
    → is_unwrapped result ≡ (live && unwraps ((by_cipher secrets).wrapped_key spi cipher))
live_by secrets cipher spi epoch ssrc true result is = unwrapped_by spi ssrc ((by_cipher secrets).wrapped_key spi cipher) result is
live_by secrets cipher spi epoch ssrc false result is = ap is_unwrapped is

pub key_opens_is : (secrets : List Secret) (ssrc n : ℕ) (field : Field) (result : Result (Option UnwrappedKey) Refusal)
    → IsCarriedBy (carried_by (by_cipher secrets) secrets ssrc field) result → (is_full_told (told_of field n) && is_unwrapped result) ≡ key_opens secrets field
key_opens_is secrets ssrc n Short result is = refl
key_opens_is secrets ssrc n (Extension octets kind) result is = refl
key_opens_is secrets ssrc n (Full cipher spi epoch) result is = live_by secrets cipher spi epoch ssrc (is_live (live_of secrets) spi) result is

-- ---- the tries

tries_by : (r : Receiver) (o : Opened) (short : Bool) (c : Result (Option Carried) Refusal)
    → cond short [] (tries_with r (original_header o) c) ≡ cond short [] (tries_carried r.contexts (original_header o) c)
tries_by r o true c = refl
tries_by r o false (Err e) = refl
tries_by r o false (Ok carried) = refl

pub tries_are_of : (r : Receiver) (o : Opened)
    → tries_reached r o ≡ tries_of r.contexts (original_header o) o.inner (carried_by (by_cipher r.secrets) r.secrets o.header.ssrc o.field)
tries_are_of r o = tries_by r o (nat_lt (length o.inner) 16) (carried_by (by_cipher r.secrets) r.secrets o.header.ssrc o.field)

pub open_all : (r : Receiver) (o : Opened) (list : List OpenKey)
    → AreAppended r.secrets (original_header o) o.inner (tries_of r.contexts (original_header o) o.inner (carried_by (by_cipher r.secrets) r.secrets o.header.ssrc o.field)) [] list
    → AreOpenKeys (open_tries r o) list
open_all r o list a =
    let tried = subst (λ (l : List Attempt). AreOpenKeys (filter (opens r.secrets (original_header o) o.inner) l) a.more) (sym (tries_are_of r o)) a.are in
    subst (AreOpenKeys (open_tries r o)) (sym a.is) tried

pub tries_short : (contexts : List Context) (h : Header) (octets : List ℕ) (c : Result (Option Carried) Refusal) → length octets < 16 → tries_of contexts h octets c ≡ []
tries_short contexts h octets c short =
    let e : nat_lt (length octets) 16 ≡ true = search rules in ap (λ (b : Bool). cond b [] (tries_carried contexts h c)) e

pub tries_long : (contexts : List Context) (h : Header) (octets : List ℕ) (c : Result (Option Carried) Refusal) → 16 ≤ length octets
    → tries_of contexts h octets c ≡ tries_carried contexts h c
tries_long contexts h octets c long =
    let e : nat_lt (length octets) 16 ≡ false = search rules in ap (λ (b : Bool). cond b [] (tries_carried contexts h c)) e

-- ---- what is appended

module _ (secrets : List Secret) (h : Header) (octets : List ℕ) where
  pub append_none : (attempts : List Attempt) (old new : List OpenKey) → attempts ≡ [] → new ≡ old → AreAppended secrets h octets attempts old new
  append_none attempts old new none same =
      record { more = []; is = same ∙ sym (append-nil old); are = subst (λ (l : List Attempt). AreOpenKeys (filter (opens secrets h octets) l) []) (sym none) tt }

  opens_by : (a : Attempt) (x : Option (List ℕ)) → body_at (secret_of secrets a.context.spi) a.context.key a.index h octets ≡ x → opens secrets h octets a ≡ is_some x
  opens_by a x e = ap is_some (sym (body_is (secret_of secrets a.context.spi) a.context a.index h octets) ∙ e)

  pub append_shut : (all : List Attempt) (a : Attempt) (attempts : List Attempt) (old new : List OpenKey) → all ≡ a ∷ attempts
      → body_at (secret_of secrets a.context.spi) a.context.key a.index h octets ≡ None → AreAppended secrets h octets attempts old new
      → AreAppended secrets h octets all old new
  append_shut all a attempts old new first shut rest =
      let e : filter (opens secrets h octets) all ≡ filter (opens secrets h octets) attempts =
      ap (filter (opens secrets h octets)) first
      ∙ ap (λ (b : Bool). cond b (a ∷ filter (opens secrets h octets) attempts) (filter (opens secrets h octets) attempts)) (opens_by a None shut) in
      record { more = rest.more; is = rest.is; are = subst (λ (l : List Attempt). AreOpenKeys l rest.more) (sym e) rest.are }

  pub append_open : (all : List Attempt) (a : Attempt) (attempts : List Attempt) (old mid new : List OpenKey) (k : OpenKey) (body : List ℕ) → all ≡ a ∷ attempts
      → body_at (secret_of secrets a.context.spi) a.context.key a.index h octets ≡ Some body → IsOpenKey a k → mid ≡ old ++ k ∷ []
      → AreAppended secrets h octets attempts mid new → AreAppended secrets h octets all old new
  append_open all a attempts old mid new k body first opened told put rest =
      let e : filter (opens secrets h octets) all ≡ a ∷ filter (opens secrets h octets) attempts =
      ap (filter (opens secrets h octets)) first
      ∙ ap (λ (b : Bool). cond b (a ∷ filter (opens secrets h octets) attempts) (filter (opens secrets h octets) attempts)) (opens_by a (Some body) opened) in
      record {
        more = k ∷ rest.more;
        is = rest.is ∙ ap (λ (l : List OpenKey). l ++ rest.more) put ∙ append_assoc old (k ∷ []) rest.more;
        are = subst (λ (l : List Attempt). AreOpenKeys l (k ∷ rest.more)) (sym e) (told, rest.are);
      }

pub shut_is : (x : Option (List ℕ)) (room : List ℕ) → IsOpened x None room → x ≡ None
shut_is None room is = refl
shut_is (Some body) room is = let bad : ◌≡◌ {A = Option ℕ} None (Some (length body)) = is.0 in absurd (cc)

pub open_is : (x : Option (List ℕ)) (n : ℕ) (room : List ℕ) → IsOpened x (Some n) room → (body : List ℕ) × (x ≡ Some body)
open_is None n room is = absurd (cc)
open_is (Some body) n room is = (body, refl)

joined : (a : Attempt) (b : Bool) (attempts : List Attempt) (first rest : List OpenKey) → AreOpenKeys (cond b (a ∷ []) []) first → AreOpenKeys attempts rest
    → AreOpenKeys (cond b (a ∷ attempts) attempts) (first ++ rest)
joined a true attempts [] rest f r = absurd f
joined a true attempts (k ∷ []) rest f r = (f.0, r)
joined a true attempts (k ∷ l ∷ more) rest f r = absurd f.1
joined a false attempts [] rest f r = r
joined a false attempts (k ∷ more) rest f r = absurd f

-- The first of the tries, and the others.
pub append_first : (secrets : List Secret) (h : Header) (octets : List ℕ) (all : List Attempt) (a : Attempt) (attempts : List Attempt) (old mid new : List OpenKey)
    → all ≡ a ∷ attempts → AreAppended secrets h octets (a ∷ []) old mid → AreAppended secrets h octets attempts mid new → AreAppended secrets h octets all old new
append_first secrets h octets all a attempts old mid new first one rest =
    let is : new ≡ old ++ (one.more ++ rest.more) = rest.is ∙ ap (λ (l : List OpenKey). l ++ rest.more) one.is ∙ append_assoc old one.more rest.more in
    let are : AreOpenKeys (filter (opens secrets h octets) (a ∷ attempts)) (one.more ++ rest.more) =
    joined a (opens secrets h octets a) (filter (opens secrets h octets) attempts) one.more rest.more one.are rest.are in
    record { more = one.more ++ rest.more; is = is; are = subst (λ (l : List Attempt). AreOpenKeys (filter (opens secrets h octets) l) (one.more ++ rest.more)) (sym first) are }

-- ---- an inner packet for which a key was found

module _ (secrets : List Secret) (contexts : List Context) (h : Header) (octets : List ℕ) (c : Result (Option Carried) Refusal) where
  pub decided_short : length octets < 16 → decided_of secrets contexts h octets c ≡ Err refusal.InnerShort
  decided_short short =
      let e : nat_lt (length octets) 16 ≡ true = search rules in ap (λ (b : Bool). cond b (Err refusal.InnerShort) (decided_carried secrets contexts h octets c)) e

  pub decided_long : 16 ≤ length octets → decided_of secrets contexts h octets c ≡ decided_carried secrets contexts h octets c
  decided_long long =
      let e : nat_lt (length octets) 16 ≡ false = search rules in ap (λ (b : Bool). cond b (Err refusal.InnerShort) (decided_carried secrets contexts h octets c)) e

  pub decided_err : (e : Refusal) → 16 ≤ length octets → c ≡ Err e → decided_of secrets contexts h octets c ≡ Err e
  decided_err e long is = decided_long long ∙ ap (decided_carried secrets contexts h octets) is

pub tries_err : (contexts : List Context) (h : Header) (octets : List ℕ) (c : Result (Option Carried) Refusal) (e : Refusal) → 16 ≤ length octets → c ≡ Err e
    → tries_of contexts h octets c ≡ []
tries_err contexts h octets c e long is = tries_long contexts h octets c long ∙ ap (tries_carried contexts h) is

-- what is decided, and the tries, by the numbers that the code read
module _ (secrets : List Secret) (held : Receiving) (h : Header) (octets : List ℕ) (c : Result (Option Carried) Refusal) (key : Option UnwrappedKey)
    (told_key : Option Carried) (ssrc seq : ℕ) (long : 16 ≤ length octets) (found : c ≡ Ok (option_map key_of key)) (told_is : told_key ≡ option_map key_of key)
    (ssrc_is : ssrc ≡ h.ssrc) (seq_is : seq ≡ h.seq) where
  same_tries : some_tries (tries held.contexts ssrc seq told_key) ≡ some_tries (tries held.contexts h.ssrc h.seq (option_map key_of key))
  same_tries = λ i. some_tries (tries held.contexts (ssrc_is i) (seq_is i) (told_is i))

  pub decided_same : (result : Result (Try × ℕ) Refusal) (room : List ℕ)
      → MayTake held ssrc told_key (decided_by secrets h octets (some_tries (tries held.contexts ssrc seq told_key))) result room
      → MayTake held h.ssrc (option_map key_of key) (decided_of secrets held.contexts h octets c) result room
  decided_same result room m =
      let a =
      subst (λ (t : Result (List Attempt) Refusal). MayTake held ssrc told_key (decided_by secrets h octets t) result room) same_tries m in
      let b =
      subst (λ (n : ℕ). MayTake held n told_key (decided_by secrets h octets (some_tries (tries held.contexts h.ssrc h.seq (option_map key_of key)))) result room) ssrc_is a in
      let k =
      subst (λ (k : Option Carried). MayTake held h.ssrc k (decided_by secrets h octets (some_tries (tries held.contexts h.ssrc h.seq (option_map key_of key)))) result room) told_is b in
      subst (λ (d : Result OpenTry Refusal). MayTake held h.ssrc (option_map key_of key) d result room)
      (sym (decided_long secrets held.contexts h octets c long ∙ ap (decided_carried secrets held.contexts h octets) found)) k

  pub tries_same : tries_or_none (some_tries (tries held.contexts ssrc seq told_key)) ≡ tries_of held.contexts h octets c
  tries_same =
      ap tries_or_none same_tries ∙ sym (tries_long held.contexts h octets c long ∙ ap (tries_carried held.contexts h) found)

key_sizes : (key : Option UnwrappedKey) → IfSome key (λ k. (k.wrapped.len ≡ 16) ⊎ (k.wrapped.len ≡ 32)) → IfSome key (λ k. k.wrapped.len ≤ 32)
key_sizes None is = tt
key_sizes (Some k) (inl e) = omega (arith, e)
key_sizes (Some k) (inr e) = omega (arith, e)

pub key_short : (live : List ℕ) (key : Option UnwrappedKey) → IsKeyFor live key → IfSome key (λ k. k.wrapped.len ≤ 32)
key_short live key is = key_sizes key is.size

octets_by : (n m : ℕ) → n ≡ m → (m ≡ 16) ⊎ (m ≡ 32) → (n ≡ 16) ⊎ (n ≡ 32)
octets_by n m same (inl e) = inl (same ∙ e)
octets_by n m same (inr e) = inr (same ∙ e)

pub key_carried : (live : List ℕ) (key : Option UnwrappedKey) → IsKeyFor live key → IfSome key (λ k. length (key_of k).key ≡ k.wrapped.len)
    → IsCarried live (option_map key_of key)
key_carried live None is long = tt
key_carried live (Some k) is long = record { live_is = is.live_is; length_is = octets_by (length (key_of k).key) k.wrapped.len long is.size }

size_of : (profile : Profile) (n : ℕ) → n ≡ key_length profile → (n ≡ 16) ⊎ (n ≡ 32)
size_of Aes128 n is = inl is
size_of Aes256 n is = inr is

ready_by : (profile : Profile) (live : List ℕ) (key : Option UnwrappedKey) → IsLiveKey live (option_map key_of key) → IfSome key (λ k. k.wrapped.len ≡ key_length profile)
    → IsKeyFor live key
ready_by profile live None is size = record { size = tt; live_is = tt }
ready_by profile live (Some k) is size = record { size = size_of profile k.wrapped.len size; live_is = is }

-- A key that was found is one that is tried.
pub key_ready : (profile : Profile) (secrets : List Secret) (live : List ℕ) (ssrc : ℕ) (field : Field) (result : Result (Option UnwrappedKey) Refusal)
    → live ≡ live_of secrets → IsCarriedBy (carried_by (by_cipher secrets) secrets ssrc field) result
    → IfOk result (λ key. IfSome key (λ k. k.wrapped.len ≡ key_length profile)) → IfOk result (IsKeyFor live)
key_ready profile secrets live ssrc field (Err e) same is size = tt
key_ready profile secrets live ssrc field (Ok key) same is size =
    ready_by profile live key
    (subst (λ (l : List ℕ). IsLiveKey l (option_map key_of key)) (sym same)
    (carries_live (by_cipher secrets) secrets ssrc field (option_map key_of key) (carried_ok (carried_by (by_cipher secrets) secrets ssrc field) key is)))
    size

-- ---- whose the tries are

abbrev IsOf : ℕ → Attempt → Type 0
IsOf ssrc a = a.context.ssrc ≡ ssrc

sender_by : (contexts : List Context) (ssrc : ℕ) (carried : Option Carried) (test : Attempt → Bool) (attempts : List Attempt)
    → AllByRecursion (IsTriedUnder contexts ssrc carried) attempts → AllByRecursion (IsOf ssrc) (filter test attempts)
sender_by contexts ssrc carried test [] all = tt
sender_by contexts ssrc carried test (a ∷ attempts) all = at (test a) (sender_by contexts ssrc carried test attempts all.1) where
  at : (b : Bool) → AllByRecursion (IsOf ssrc) (filter test attempts) → AllByRecursion (IsOf ssrc) (cond b (a ∷ filter test attempts) (filter test attempts))
  at true later = (all.0.sender, later)
  at false later = later

sender_some : (contexts : List Context) (ssrc seq : ℕ) (carried : Option Carried) (test : Attempt → Bool) (t : Result (List Attempt) Refusal)
    → some_tries (tries contexts ssrc seq carried) ≡ t → AllByRecursion (IsOf ssrc) (filter test (tries_or_none t))
sender_some contexts ssrc seq carried test (Err e) is = tt
sender_some contexts ssrc seq carried test (Ok attempts) is =
    sender_by contexts ssrc carried test attempts (all_tried contexts ssrc seq carried attempts (tries_are (tries contexts ssrc seq carried) attempts is))

sender_with : (r : Receiver) (h : Header) (test : Attempt → Bool) (short : Bool) (c : Result (Option Carried) Refusal)
    → AllByRecursion (IsOf h.ssrc) (filter test (cond short [] (tries_with r h c)))
sender_with r h test true c = tt
sender_with r h test false (Err e) = tt
sender_with r h test false (Ok carried) = sender_some r.contexts h.ssrc h.seq carried test (some_tries (tries r.contexts h.ssrc h.seq carried)) refl

pub open_senders : (r : Receiver) (o : Opened) → All (λ a. a.context.ssrc ≡ o.header.ssrc) (open_tries r o)
open_senders r o =
    All-from_recursion (λ a. a.context.ssrc ≡ o.header.ssrc) (open_tries r o)
    (sender_with r (original_header o) (opens r.secrets (original_header o) o.inner) (nat_lt (length o.inner) 16)
    (carried_by (by_cipher r.secrets) r.secrets o.header.ssrc o.field))
