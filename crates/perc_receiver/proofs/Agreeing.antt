-- What the ciphers answer to a datagram that isn't foreign, the table answers.
use Rattle.std.proofs.Common.{◌≡◌, ℕ, ◌<◌, Bool, true, false, cond, ◌&&◌, List, [], ◌∷◌, length, Option, Some, None, Result, Ok, Err, inl, inr, refl, ap, ◌∙◌, sym, subst, arith}
use Rattle.std.specs.Prelude.{nat_lt, ◌==◌, is_some, is_none}
use Rattle.std.specs.List.{AllByRecursion, list_any, cons_option}
use Rattle.std.specs.Option.{option_map}
use Rattle.std.proofs.lemmas.Bool.{or_parts}
use Rattle.std.proofs.lemmas.Option.{MatchOption-at_some}
use Rattle.std.proofs.lemmas.List.Elements.{All-contains}
use Rattle.perc_aes.specs.Cipher.{IsKey}
use Rattle.perc_rtp.specs.Header.{Header}
use Rattle.perc_srtp.specs.Sealed.{sealed_body, unsealed_body}
use Rattle.perc_srtp.proofs.PacketLaws.{sealed_opens}
use Rattle.perc_ekt.specs.Field.{Field, Short, Full, Extension}
use Rattle.perc_ekt.specs.Key.{HasSize, WrappedKey, opened_key}
use Rattle.perc_ekt.specs.declared.key.KeyFault.{KeyFault}
use Rattle.perc_ekt.specs.declared.key.KeyFault.TheVariants.{Unwrap, Plain}
use Rattle.perc_ekt.proofs.Keys.{opens}
use Rattle.perc_contexts.specs.Receiving.{Attempt, Carried, Context, is_live, tries}
use Rattle.perc_contexts.specs.declared.KeyLimit.{KeyLimit}
use Rattle.perc_contexts.proofs.ReceivingLaws.{found_of}
use Rattle.perc_outer.specs.Datagram as outer
use Rattle.perc_outer.specs.Datagram.{Opened, Reach, original_header, streams_after}
use Rattle.perc_receiver.specs.declared.refusal.Refusal.{Refusal}
use Rattle.perc_receiver.specs.declared.refusal.Refusal.TheVariants as refusal
use Rattle.perc_receiver.specs.Table.{IsRight, IsRightRow, IsRightWrap, IsSealedUnder, IsSecret, IsWrappedUnder, Row, Secret, Table, Wrap, body_of, inner_keys, secret_of}
use Rattle.perc_receiver.specs.Opener.{Opener, by_cipher, by_table, body_under, is_row, is_wrap, key_under, row_of, told_wrap, wrap_of}
use Rattle.perc_receiver.specs.Receiver.{Accepted, OpenTry, Receiver, carried_by, carried_key, decided, heard, heard_reach, ideal, judged, judged_carried, judged_open, judged_tries, live_of, openings, outcome, reach_of, settled, some_tries}
use Rattle.perc_receiver.specs.Foreign.{is_foreign, is_foreign_key, is_foreign_opened, is_foreign_reach, is_foreign_try, tries_or_none, tries_reached, tries_with, unwraps}
use Rattle.perc_receiver.specs.Calls.{IsHolding}
use Rattle.perc_receiver.proofs.Headers.{is_row-parts, is_wrap-parts}
use Rattle.perc_receiver.proofs.Secrets.{held_secret}
use Rattle.perc_receiver.proofs.Tried.{IsLiveKey, IsTriedUnder, all_tried, tried_live}

-- ---- two openers that agree on what is asked

-- They open the inner octets alike by this try.
abbrev pub SameBody : Opener → Opener → Header → List ℕ → Attempt → Type 0
SameBody f g h octets a = f.body a.context a.index h octets ≡ g.body a.context a.index h octets

openings_same : (f g : Opener) (h : Header) (octets : List ℕ) (attempts : List Attempt) → AllByRecursion (SameBody f g h octets) attempts
    → openings f h octets attempts ≡ openings g h octets attempts
openings_same f g h octets [] same = refl
openings_same f g h octets (a ∷ attempts) same =
    let rest = openings_same f g h octets attempts same.1 in
    λ i. cons_option (option_map (λ body. record { attempt = a; body = body }) (same.0 i)) (rest i)

tries_same : (f g : Opener) (h : Header) (octets : List ℕ) (r : Result (List Attempt) Refusal) → AllByRecursion (SameBody f g h octets) (tries_or_none r)
    → judged_tries f h octets r ≡ judged_tries g h octets r
tries_same f g h octets (Err e) same = refl
tries_same f g h octets (Ok attempts) same = ap (λ (opened : List OpenTry). judged_open h (decided opened)) (openings_same f g h octets attempts same)

carried_same : (f g : Opener) (r : Receiver) (h : Header) (octets : List ℕ) (c : Result (Option Carried) Refusal)
    → AllByRecursion (SameBody f g h octets) (tries_with r h c) → judged_carried f r.contexts h octets c ≡ judged_carried g r.contexts h octets c
carried_same f g r h octets (Err e) same = refl
carried_same f g r h octets (Ok carried) same = tries_same f g h octets (some_tries (tries r.contexts h.ssrc h.seq carried)) same

-- They agree on what is asked of an opened datagram: the field's key, and each try of its tries.
pub record Agree (f g : Opener) (r : Receiver) (o : Opened) : Type 0 where
  pub carried : carried_by f r.secrets o.header.ssrc o.field ≡ carried_by g r.secrets o.header.ssrc o.field
  pub bodies : nat_lt (length o.inner) 16 ≡ false
      → AllByRecursion (SameBody f g (original_header o) o.inner) (tries_with r (original_header o) (carried_by f r.secrets o.header.ssrc o.field))

unless_short : {X : Type 0} (short : Bool) (e x y : X) → (short ≡ false → x ≡ y) → cond short e x ≡ cond short e y
unless_short true e x y same = refl
unless_short false e x y same = same refl

pub judged_same : (f g : Opener) (r : Receiver) (o : Opened) → Agree f g r o → judged f r o ≡ judged g r o
unfolding judged
judged_same f g r o agree =
    unless_short (nat_lt (length o.inner) 16) (Err refusal.InnerShort) _ _
    (λ long.
    carried_same f g r (original_header o) o.inner (carried_by f r.secrets o.header.ssrc o.field) (agree.bodies long)
    ∙ ap (λ (c : Result (Option Carried) Refusal). judged_carried g r.contexts (original_header o) o.inner c) agree.carried)

-- ---- keys

secret_is_key : (s : Secret) → IsSecret s → IsKey s.key × (length s.key < 256)
secret_is_key s right =
    elim right.size [
      | inl short ↦ (record { size = inl short; octets = right.key }, omega arith)
      | inr long ↦ (record { size = inr (inr long); octets = right.key }, omega arith)
    ]

abbrev pub key_told : Wrap → WrappedKey
key_told w = record { key = w.key; ssrc = w.ssrc; roc = w.roc }

-- A right wrap opens to its key.
wrap_opens : (issued : List Secret) (s : Secret) (spi : ℕ) (octets : List ℕ) (w : Wrap) → IsSecret s → secret_of issued spi ≡ Some s → IsRightWrap issued w
    → w.spi ≡ spi → w.octets ≡ octets → opened_key s.key (length s.key) octets ≡ Ok (key_told w)
wrap_opens issued s spi octets w secret found right spi_is octets_are =
    let at : secret_of issued w.spi ≡ Some s = ap (secret_of issued) spi_is ∙ found in
    let under : IsWrappedUnder w s = MatchOption-at_some ⊥ (IsWrappedUnder w) s at right.wrapped in
    let fits : HasSize (length s.key) (key_told w) = record { len = under.size; octets = right.key; ssrc = right.ssrc; roc = right.roc } in
    let key = secret_is_key s secret in
    ap (opened_key s.key (length s.key)) (sym octets_are ∙ under.octets) ∙ opens s.key (length s.key) (key_told w) key.0 key.1 fits

unwraps_not : (r : Result WrappedKey KeyFault) → unwraps r ≡ false → r ≡ Err Unwrap
unwraps_not (Ok w) h = absurd (cc)
unwraps_not (Err Plain) h = absurd (cc)
unwraps_not (Err Unwrap) h = refl

key_by : (issued : List Secret) (table : Table) (s : Secret) (spi : ℕ) (octets : List ℕ) (o : Option Wrap) → IsSecret s → secret_of issued spi ≡ Some s
    → IsRight issued table → wrap_of table spi octets ≡ o → (unwraps (opened_key s.key (length s.key) octets) && is_none o) ≡ false
    → opened_key s.key (length s.key) octets ≡ told_wrap o
key_by issued table s spi octets (Some w) secret found right e known =
    let it = found_of (is_wrap spi octets) table.wraps w e in
    let parts = is_wrap-parts spi octets w it.1 in
    wrap_opens issued s spi octets w secret found (All-contains (IsRightWrap issued) table.wraps w right.wraps it.0) parts.0 parts.1
key_by issued table s spi octets None secret found right e known =
    unwraps_not (opened_key s.key (length s.key) octets) (both (unwraps (opened_key s.key (length s.key) octets)) known) where
      both : (b : Bool) → (b && true) ≡ false → b ≡ false
      both true h = h
      both false h = refl

-- What a wrapped key under a live SPI opens to, the table tells, where it isn't foreign.
pub key_agrees : (issued : List Secret) (table : Table) (r : Receiver) (spi : ℕ) (octets : List ℕ) → IsHolding issued r → IsRight issued table
    → is_live (live_of r.secrets) spi ≡ true → (unwraps ((by_cipher r.secrets).wrapped_key spi octets) && is_none (wrap_of table spi octets)) ≡ false
    → (by_cipher r.secrets).wrapped_key spi octets ≡ (by_table table).wrapped_key spi octets
key_agrees issued table r spi octets holds right live known =
    let held = held_secret issued r spi holds live in
    let s : Secret = held.0 in
    let is : key_under (secret_of r.secrets spi) octets ≡ opened_key s.key (length s.key) octets = ap (λ (o : Option Secret). key_under o octets) held.1.held_is in
    is
    ∙ key_by issued table s spi octets (wrap_of table spi octets) held.1.right held.1.issued_is right refl
    (subst (λ (x : Result WrappedKey KeyFault). (unwraps x && is_none (wrap_of table spi octets)) ≡ false) is known)

full_agrees : (issued : List Secret) (table : Table) (r : Receiver) (ssrc spi : ℕ) (octets : List ℕ) (live : Bool) → IsHolding issued r → IsRight issued table
    → is_live (live_of r.secrets) spi ≡ live
    → (live && unwraps ((by_cipher r.secrets).wrapped_key spi octets) && is_none (wrap_of table spi octets)) ≡ false
    → ◌≡◌ {A = Result (Option Carried) Refusal} (cond live (carried_key spi ssrc ((by_cipher r.secrets).wrapped_key spi octets)) (Err (refusal.SpiUnknown spi)))
    (cond live (carried_key spi ssrc ((by_table table).wrapped_key spi octets)) (Err (refusal.SpiUnknown spi)))
full_agrees issued table r ssrc spi octets false holds right e known = refl
full_agrees issued table r ssrc spi octets true holds right e known = ap (carried_key spi ssrc) (key_agrees issued table r spi octets holds right e known)

pub field_agrees : (issued : List Secret) (table : Table) (r : Receiver) (ssrc : ℕ) (field : Field) → IsHolding issued r → IsRight issued table
    → is_foreign_key r.secrets table field ≡ false → carried_by (by_cipher r.secrets) r.secrets ssrc field ≡ carried_by (by_table table) r.secrets ssrc field
field_agrees issued table r ssrc Short holds right known = refl
field_agrees issued table r ssrc (Extension octets kind) holds right known = refl
field_agrees issued table r ssrc (Full octets spi epoch) holds right known =
    full_agrees issued table r ssrc spi octets (is_live (live_of r.secrets) spi) holds right refl known

-- ---- bodies

-- A right row opens to its body.
row_opens : (issued : List Secret) (s : Secret) (c : Context) (index : ℕ) (h : Header) (octets : List ℕ) (row : Row) → secret_of issued c.spi ≡ Some s
    → IsRightRow issued row → is_row c index h octets row ≡ true → unsealed_body (inner_keys s c.key) index h octets ≡ Some (body_of row)
row_opens issued s c index h octets row found right passes =
    let is = is_row-parts c index h octets row passes in
    let at : secret_of issued row.spi ≡ Some s = ap (secret_of issued) is.spi ∙ found in
    let under : IsSealedUnder row s = MatchOption-at_some ⊥ (IsSealedUnder row) s at right.sealed in
    let sealed : sealed_body (inner_keys s row.key) row.index row.header (body_of row) ≡ sealed_body (inner_keys s c.key) index h (body_of row) =
    (λ i. sealed_body (inner_keys s (is.key i)) (is.index_is i) (is.header i) (body_of row)) in
    sealed_opens (inner_keys s c.key) index h octets (body_of row) (sym is.inner ∙ under.inner ∙ sealed)

none_opened : (o : Option (List ℕ)) → (is_some o && true) ≡ false → o ≡ None
none_opened None h = refl
none_opened (Some body) h = absurd (cc)

body_by : (issued : List Secret) (table : Table) (s : Secret) (c : Context) (index : ℕ) (h : Header) (octets : List ℕ) (o : Option Row)
    → secret_of issued c.spi ≡ Some s → IsRight issued table → row_of table c index h octets ≡ o
    → (is_some (unsealed_body (inner_keys s c.key) index h octets) && is_none o) ≡ false
    → unsealed_body (inner_keys s c.key) index h octets ≡ option_map body_of o
body_by issued table s c index h octets (Some row) found right e known =
    let it = found_of (is_row c index h octets) table.rows row e in
    row_opens issued s c index h octets row found (All-contains (IsRightRow issued) table.rows row right.rows it.0) it.1
body_by issued table s c index h octets None found right e known = none_opened (unsealed_body (inner_keys s c.key) index h octets) known

-- What the inner octets open to under a context of a live SPI, the table tells, where it isn't foreign.
pub body_agrees : (issued : List Secret) (table : Table) (r : Receiver) (h : Header) (octets : List ℕ) (a : Attempt) → IsHolding issued r → IsRight issued table
    → is_live (live_of r.secrets) a.context.spi ≡ true → is_foreign_try r.secrets table h octets a ≡ false
    → SameBody (by_cipher r.secrets) (by_table table) h octets a
body_agrees issued table r h octets a holds right live known =
    let held = held_secret issued r a.context.spi holds live in
    let s : Secret = held.0 in
    let is : body_under (secret_of r.secrets a.context.spi) a.context a.index h octets ≡ unsealed_body (inner_keys s a.context.key) a.index h octets =
    ap (λ (o : Option Secret). body_under o a.context a.index h octets) held.1.held_is in
    is
    ∙ body_by issued table s a.context a.index h octets (row_of table a.context a.index h octets) held.1.issued_is right refl
    (subst (λ (x : Option (List ℕ)). (is_some x && is_none (row_of table a.context a.index h octets)) ≡ false) is known)

bodies_agree : (issued : List Secret) (table : Table) (r : Receiver) (h : Header) (octets : List ℕ) (carried : Option Carried) (attempts : List Attempt)
    → IsHolding issued r → IsRight issued table → IsLiveKey (live_of r.secrets) carried → AllByRecursion (IsTriedUnder r.contexts h.ssrc carried) attempts
    → list_any (is_foreign_try r.secrets table h octets) attempts ≡ false → AllByRecursion (SameBody (by_cipher r.secrets) (by_table table) h octets) attempts
bodies_agree issued table r h octets carried [] holds right key tried known = tt
bodies_agree issued table r h octets carried (a ∷ attempts) holds right key tried known =
    let parts =
    or_parts (is_foreign_try r.secrets table h octets a) (list_any (is_foreign_try r.secrets table h octets) attempts) known in
    let live = tried_live (live_of r.secrets) r.contexts h.ssrc carried a holds.live key tried.0 in
    (body_agrees issued table r h octets a holds right live parts.0, bodies_agree issued table r h octets carried attempts holds right key tried.1 parts.1)

-- ---- the key that a datagram carries

live_carried : (secrets : List Secret) (spi ssrc : ℕ) (k : Result WrappedKey KeyFault) (carried : Option Carried) → is_live (live_of secrets) spi ≡ true
    → carried_key spi ssrc k ≡ Ok carried → IsLiveKey (live_of secrets) carried
live_carried secrets spi ssrc (Err Unwrap) carried live e = absurd (cc)
live_carried secrets spi ssrc (Err Plain) carried live e = absurd (cc)
live_carried secrets spi ssrc (Ok w) None live e = tt
live_carried secrets spi ssrc (Ok w) (Some key) live e = rw (carried_spi spi w (w.ssrc == ssrc) key e) live
  where
    carried_spi : (spi : ℕ) (w : WrappedKey) (its : Bool) (key : Carried)
        → ◌≡◌ {A = Result (Option Carried) Refusal} (Ok (cond its (Some (record { spi = spi; key = w.key; roc = w.roc })) None)) (Ok (Some key)) → key.spi ≡ spi
    carried_spi spi w true key e = let same : record { spi = spi; key = w.key; roc = w.roc } ≡ key = cc in ap (λ (c : Carried). c.spi) (sym same)
    carried_spi spi w false key e = absurd (cc)

full_live : (secrets : List Secret) (spi ssrc : ℕ) (k : Result WrappedKey KeyFault) (carried : Option Carried) (live : Bool) → is_live (live_of secrets) spi ≡ live
    → ◌≡◌ {A = Result (Option Carried) Refusal} (cond live (carried_key spi ssrc k) (Err (refusal.SpiUnknown spi))) (Ok carried) → IsLiveKey (live_of secrets) carried
full_live secrets spi ssrc k carried true l e = live_carried secrets spi ssrc k carried l e
full_live secrets spi ssrc k carried false l e = absurd (cc)

none_live : (live : List ℕ) (carried : Option Carried) → ◌≡◌ {A = Result (Option Carried) Refusal} (Ok None) (Ok carried) → IsLiveKey live carried
none_live live None e = tt
none_live live (Some key) e = absurd (cc)

-- A carried key's SPI is live.
pub carries_live : (f : Opener) (secrets : List Secret) (ssrc : ℕ) (field : Field) (carried : Option Carried) → carried_by f secrets ssrc field ≡ Ok carried
    → IsLiveKey (live_of secrets) carried
carries_live f secrets ssrc Short carried e = none_live (live_of secrets) carried e
carries_live f secrets ssrc (Extension octets kind) carried e = none_live (live_of secrets) carried e
carries_live f secrets ssrc (Full octets spi epoch) carried e =
    full_live secrets spi ssrc (f.wrapped_key spi octets) carried (is_live (live_of secrets) spi) refl e

-- ---- a datagram

pub tries_are : (t : Result (List Attempt) KeyLimit) (attempts : List Attempt) → some_tries t ≡ Ok attempts → t ≡ Ok attempts
tries_are (Err e) attempts h = absurd (cc)
tries_are (Ok []) attempts h = absurd (cc)
tries_are (Ok (a ∷ rest)) attempts h = let same : a ∷ rest ≡ attempts = cc in ap Ok same

with_tries : (issued : List Secret) (table : Table) (r : Receiver) (h : Header) (octets : List ℕ) (carried : Option Carried) (t : Result (List Attempt) Refusal)
    → IsHolding issued r → IsRight issued table → IsLiveKey (live_of r.secrets) carried → some_tries (tries r.contexts h.ssrc h.seq carried) ≡ t
    → list_any (is_foreign_try r.secrets table h octets) (tries_or_none t) ≡ false
    → AllByRecursion (SameBody (by_cipher r.secrets) (by_table table) h octets) (tries_or_none t)
with_tries issued table r h octets carried (Err e) holds right key is known = tt
with_tries issued table r h octets carried (Ok attempts) holds right key is known =
    bodies_agree issued table r h octets carried attempts holds right key
    (all_tried r.contexts h.ssrc h.seq carried attempts (tries_are (tries r.contexts h.ssrc h.seq carried) attempts is)) known

with_carried : (issued : List Secret) (table : Table) (r : Receiver) (h : Header) (octets : List ℕ) (ssrc : ℕ) (field : Field) (c : Result (Option Carried) Refusal)
    → IsHolding issued r → IsRight issued table → carried_by (by_cipher r.secrets) r.secrets ssrc field ≡ c
    → list_any (is_foreign_try r.secrets table h octets) (tries_with r h c) ≡ false
    → AllByRecursion (SameBody (by_cipher r.secrets) (by_table table) h octets) (tries_with r h c)
with_carried issued table r h octets ssrc field (Err e) holds right is known = tt
with_carried issued table r h octets ssrc field (Ok carried) holds right is known =
    with_tries issued table r h octets carried (some_tries (tries r.contexts h.ssrc h.seq carried)) holds right
    (carries_live (by_cipher r.secrets) r.secrets ssrc field carried is) refl known

-- The ciphers and the table agree on what is asked of a datagram that isn't foreign.
pub opened_agree : (issued : List Secret) (table : Table) (r : Receiver) (o : Opened) → IsHolding issued r → IsRight issued table
    → is_foreign_opened table r o ≡ false → Agree (by_cipher r.secrets) (by_table table) r o
opened_agree issued table r o holds right known =
    let parts =
    or_parts (is_foreign_key r.secrets table o.field) (list_any (is_foreign_try r.secrets table (original_header o) o.inner) (tries_reached r o)) known in record {
      carried = field_agrees issued table r o.header.ssrc o.field holds right parts.0;
      bodies = λ long.
          let c : Result (Option Carried) Refusal = carried_by (by_cipher r.secrets) r.secrets o.header.ssrc o.field in
          with_carried issued table r (original_header o) o.inner o.header.ssrc o.field c holds right refl
          (subst (λ (b : Bool). list_any (is_foreign_try r.secrets table (original_header o) o.inner) (cond b [] (tries_with r (original_header o) c)) ≡ false) long parts.1);
    }

reach_agrees : (issued : List Secret) (table : Table) (r : Receiver) (reach : Reach) → IsHolding issued r → IsRight issued table
    → is_foreign_reach table r reach ≡ false → heard_reach (by_cipher r.secrets) r reach ≡ heard_reach (by_table table) r reach
reach_agrees issued table r (outer.Refused fault) holds right known = refl
reach_agrees issued table r (outer.Blocked ssrc index fault) holds right known = refl
reach_agrees issued table r (outer.Reached o) holds right known =
    judged_same (by_cipher r.secrets) (by_table table) r o (opened_agree issued table r o holds right known)

pub outcome_is_ideal : (issued : List Secret) (table : Table) (r : Receiver) (datagram : List ℕ) → IsHolding issued r → IsRight issued table
    → is_foreign table r datagram ≡ false → outcome r datagram ≡ ideal table r datagram
unfolding heard is_foreign
outcome_is_ideal issued table r datagram holds right known =
    let reach : Reach = reach_of r datagram in
    ap (λ (answer : Result Accepted Refusal). (answer, record (settled r answer) { streams = streams_after r.streams reach }))
    (reach_agrees issued table r reach holds right known)
