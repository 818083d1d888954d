-- What the ciphers answer about an opened datagram: whether the key that it carries unwraps, and which of its tries open.
use Rattle.std.specs.Prelude.{◌≡◌, ℕ, ◌⊎◌, Bool, true, false, ◌&&◌, ◌||◌, nat_lt, if◌then◌else◌, List, [], ◌∷◌, ◌++◌, filter, is_none, is_some, length, take, Option, Result, Ok, Err, IfSome, IsTrue}
use Rattle.std.specs.List.{list_any}
use Rattle.perc_rtp.specs.Header.{Header}
use Rattle.perc_ekt.specs.Field.{Field, Short, Full, Extension}
use Rattle.perc_ekt.specs.declared.field.EktField.{EktField}
use Rattle.perc_ekt.specs.declared.field.EktField.TheVariants as told_as
use Rattle.perc_contexts.specs.Receiving.{Attempt, Carried, Context, is_live, tries}
use Rattle.perc_outer.specs.Datagram.{Opened, original_header}
use Rattle.perc_receiver.specs.Table.{Secret, Table}
use Rattle.perc_receiver.specs.Opener.{by_cipher, row_of, wrap_of}
use Rattle.perc_receiver.specs.declared.refusal.Refusal.{Refusal}
use Rattle.perc_receiver.specs.declared.refusal.Refusal.TheVariants as refusal
use Rattle.perc_receiver.specs.Receiver.{OpenTry, Receiver, live_of, receiving, some_tries}
use Rattle.perc_receiver.specs.Foreign.{tries_or_none, tries_reached, unwraps}
use Rattle.perc_incoming.specs.declared.carried.UnwrappedKey.{UnwrappedKey}
use Rattle.perc_incoming.specs.declared.inquiry.OpenKey.{OpenKey}
use Rattle.perc_incoming.specs.declared.inquiry.Inquiry.{Inquiry}
use Rattle.perc_incoming.specs.Outcome.{IsDecision, decided_carried, decision}

-- ---- what opens

-- The field is full, its SPI is live, and its octets unwrap, to whatever plain text.
abbrev pub key_opens : List Secret → Field → Bool
key_opens secrets Short = false
key_opens secrets (Extension octets kind) = false
key_opens secrets (Full cipher spi epoch) = is_live (live_of secrets) spi && unwraps ((by_cipher secrets).wrapped_key spi cipher)

-- These inner octets open by a try.
abbrev pub opens : List Secret → Header → List ℕ → Attempt → Bool
opens secrets h octets a = is_some ((by_cipher secrets).body a.context a.index h octets)

-- those of a datagram's tries that open, in their order, whether or not they are fresh
abbrev pub open_tries : Receiver → Opened → List Attempt
open_tries r o = filter (opens r.secrets (original_header o) o.inner) (tries_reached r o)

-- ---- what nobody made of it

-- The key that a field carries was wrapped by nobody.
abbrev pub lacks_wrap : Table → Field → Bool
lacks_wrap table Short = false
lacks_wrap table (Extension octets kind) = false
lacks_wrap table (Full cipher spi epoch) = is_none (wrap_of table spi cipher)

-- What opens by a try was sent by nobody.
abbrev pub lacks_row : Table → Opened → Attempt → Bool
lacks_row table o a = is_none (row_of table a.context a.index (original_header o) o.inner)

-- Something opens that nobody made.
abbrev pub opens_unmade : Table → Receiver → Opened → Bool
opens_unmade table r o = (key_opens r.secrets o.field && lacks_wrap table o.field) || list_any (lacks_row table o) (open_tries r o)

-- ---- what is told of it

-- This is told of a try.
pub record IsOpenKey (a : Attempt) (k : OpenKey) : Type 0 where
  pub spi : k.spi ≡ a.context.spi
  pub key : take k.len k.key ≡ a.context.key
  pub index : k.index ≡ a.index

abbrev pub AreOpenKeys : List Attempt → List OpenKey → Type 0
AreOpenKeys [] [] = Unit {0}
AreOpenKeys [] (k ∷ keys) = ⊥
AreOpenKeys (a ∷ attempts) [] = ⊥
AreOpenKeys (a ∷ attempts) (k ∷ keys) = IsOpenKey a k × AreOpenKeys attempts keys

-- Those of these tries that open were appended.
pub record AreAppended (secrets : List Secret) (h : Header) (octets : List ℕ) (attempts : List Attempt) (old new : List OpenKey) : Type 0 where
  pub more : List OpenKey
  pub is : new ≡ old ++ more
  pub are : AreOpenKeys (filter (opens secrets h octets) attempts) more

-- ---- the parts of what is asked

abbrev pub is_full_told : EktField → Bool
is_full_told told_as.Short = false
is_full_told (told_as.Extension kind) = false
is_full_told (told_as.Full spi epoch cipher) = true

-- What was found is a key, or octets that unwrap to none.
abbrev pub is_unwrapped : Result (Option UnwrappedKey) Refusal → Bool
is_unwrapped (Ok key) = true
is_unwrapped (Err refusal.EktPlain) = true
is_unwrapped (Err e) = false

-- A key that is tried is one of 16 or 32 octets, under a live SPI.
pub record IsKeyFor (live : List ℕ) (key : Option UnwrappedKey) : Type 0 where
  pub size : IfSome key (λ k. (k.wrapped.len ≡ 16) ⊎ (k.wrapped.len ≡ 32))
  pub live_is : IfSome key (λ k. IsTrue (is_live live k.spi))

-- what is decided of an inner packet for which this key was found
abbrev pub decided_of : List Secret → List Context → Header → List ℕ → Result (Option Carried) Refusal → Result OpenTry Refusal
decided_of secrets contexts h octets c =
    if nat_lt (length octets) 16 then Err refusal.InnerShort else decided_carried secrets contexts h octets c

abbrev pub tries_carried : List Context → Header → Result (Option Carried) Refusal → List Attempt
tries_carried contexts h (Err e) = []
tries_carried contexts h (Ok carried) = tries_or_none (some_tries (tries contexts h.ssrc h.seq carried))

-- its tries
abbrev pub tries_of : List Context → Header → List ℕ → Result (Option Carried) Refusal → List Attempt
tries_of contexts h octets c = if nat_lt (length octets) 16 then [] else tries_carried contexts h c

-- All that is answered about an opened datagram, and these octets stand in the room then.
pub record IsInquiry (r : Receiver) (o : Opened) (told : Inquiry) (room : List ℕ) : Type 0 where
  pub ssrc : told.ssrc ≡ o.header.ssrc
  pub key_opens_is : told.key_opens ≡ key_opens r.secrets o.field
  pub open_keys : AreOpenKeys (open_tries r o) told.open_keys.items
  pub decision_is : IsDecision (receiving r) o.header.ssrc (decision r.secrets r.contexts o) told.decision room
