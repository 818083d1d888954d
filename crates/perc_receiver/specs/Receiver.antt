-- What a receiver makes of a datagram: the packet that it accepts, or the first thing for which it refuses it, and what it holds
-- then (RFC 8723 section 5.3, RFC 8870 section 4.3, RFC 3711 section 3.3).
use Rattle.std.specs.Prelude.{ℕ, ◌+◌, ◌-◌, Bool, true, false, ◌==◌, nat_lt, if◌then◌else◌, List, [], ◌∷◌, ◌++◌, length, map, drop, find, Option, Some, None, Result, Ok, Err}
use Rattle.std.specs.List.{filter_map}
use Rattle.std.specs.Option.{option_map}
use Rattle.perc_window.specs.Replay.{is_too_old}
use Rattle.perc_window.specs.declared.window.Freshness.{Freshness}
use Rattle.perc_window.specs.declared.window.Freshness.TheVariants.{Fresh, Repeated, TooOld}
use Rattle.perc_kdf.specs.Derivation.{KeyAndSalt, session_keys}
use Rattle.perc_kdf.specs.declared.Kind.TheVariants.{Srtp}
use Rattle.perc_rtp.specs.Header.{Header}
use Rattle.perc_rtp.specs.Padding.{payload_of}
use Rattle.perc_ekt.specs.Field.{Field, Short, Full, Extension}
use Rattle.perc_ekt.specs.Key.{WrappedKey}
use Rattle.perc_ekt.specs.declared.key.KeyFault.{KeyFault}
use Rattle.perc_ekt.specs.declared.key.KeyFault.TheVariants as ekt
use Rattle.perc_contexts.specs.Receiving.{Context, Receiving, Carried, Attempt, live_spis, tries, committed, renewed, is_live, freshness_of}
use Rattle.perc_contexts.specs.declared.KeyLimit.{KeyLimit as NoRoom}
use Rattle.perc_outer.specs.Streams.{OuterStream}
use Rattle.perc_outer.specs.declared.fault.OuterFault.TheVariants.{Ohb}
use Rattle.perc_outer.specs.Datagram as outer
use Rattle.perc_outer.specs.Datagram.{Opened, Reach, reached, streams_after, original_header}
use Rattle.perc_receiver.specs.declared.refusal.Refusal.{Refusal}
use Rattle.perc_receiver.specs.declared.refusal.Refusal.TheVariants as refusal
use Rattle.perc_receiver.specs.Table.{Secret, Table}
use Rattle.perc_receiver.specs.Opener.{Opener, by_cipher, by_table}

-- a receiver: its own SSRC, the outer master of what it receives, the secrets of the live SPIs, the contexts in the order of their
-- installing, the outer streams, and the RTCP indices that it accepted
pub record Receiver : Type 0 where
  pub ssrc : ℕ
  pub server : KeyAndSalt
  pub secrets : List Secret
  pub contexts : List Context
  pub streams : List OuterStream
  pub rtcp : List ℕ

abbrev pub live_of : List Secret → List ℕ
live_of secrets = map (λ s. s.spi) secrets

abbrev pub receiving : Receiver → Receiving
receiving r = record { live = live_of r.secrets; contexts = r.contexts }

-- the key that a field carries for a packet with this SSRC; one for another SSRC is dropped once it was unwrapped
abbrev pub carried_key : ℕ → ℕ → Result WrappedKey KeyFault → Result (Option Carried) Refusal
carried_key spi ssrc (Err ekt.Unwrap) = Err refusal.Unwrap
carried_key spi ssrc (Err ekt.Plain) = Err refusal.EktPlain
carried_key spi ssrc (Ok w) =
    Ok (if w.ssrc == ssrc then Some (record { spi = spi; key = w.key; roc = w.roc }) else None)

abbrev pub carried_by : Opener → List Secret → ℕ → Field → Result (Option Carried) Refusal
carried_by opener secrets ssrc Short = Ok None
carried_by opener secrets ssrc (Extension octets kind) = Ok None
carried_by opener secrets ssrc (Full cipher spi epoch) =
    if is_live (live_of secrets) spi then carried_key spi ssrc (opener.wrapped_key spi cipher)
    else Err (refusal.SpiUnknown spi)

-- the tries, of which there is one at least
abbrev pub some_tries : Result (List Attempt) NoRoom → Result (List Attempt) Refusal
some_tries (Err e) = Err refusal.KeyLimit
some_tries (Ok []) = Err refusal.NoContext
some_tries (Ok (a ∷ attempts)) = Ok (a ∷ attempts)

-- a try, and the body that the inner octets open to by it
pub record OpenTry : Type 0 where
  pub attempt : Attempt
  pub body : List ℕ

abbrev pub opening : Opener → Header → List ℕ → Attempt → Option OpenTry
opening opener h octets a = option_map (λ body. record { attempt = a; body = body }) (opener.body a.context a.index h octets)

-- those of the tries that open, in their order
abbrev pub openings : Opener → Header → List ℕ → List Attempt → List OpenTry
openings opener h octets attempts = filter_map (opening opener h octets) attempts

abbrev pub is_fresh : Freshness → Bool
is_fresh Fresh = true
is_fresh Repeated = false
is_fresh TooOld = false

-- why a packet that opens by no fresh try is refused
abbrev pub stale : List OpenTry → Refusal
stale [] = refusal.InnerTag
stale (o ∷ others) = if is_too_old o.attempt.context.accepted o.attempt.index then refusal.InnerOld else refusal.InnerRepeated

-- The first fresh try that opens; else why the first that opens isn't fresh; else none opens.
abbrev pub decided : List OpenTry → Result OpenTry Refusal
decided opened = at (find (λ o. is_fresh (freshness_of o.attempt)) opened) where
  at : Option OpenTry → Result OpenTry Refusal
  at (Some o) = Ok o
  at None = Err (stale opened)

-- an accepted packet: by which try, its original header and its payload
pub record Accepted : Type 0 where
  pub attempt : Attempt
  pub header : Header
  pub payload : List ℕ

abbrev pub without_padding : Header → OpenTry → Option (List ℕ) → Result Accepted Refusal
without_padding h o None = Err refusal.Padding
without_padding h o (Some payload) = Ok (record { attempt = o.attempt; header = h; payload = payload })

abbrev pub judged_open : Header → Result OpenTry Refusal → Result Accepted Refusal
judged_open h (Err e) = Err e
judged_open h (Ok o) = without_padding h o (payload_of h.padding o.body)

abbrev pub judged_tries : Opener → Header → List ℕ → Result (List Attempt) Refusal → Result Accepted Refusal
judged_tries opener h octets (Err e) = Err e
judged_tries opener h octets (Ok attempts) = judged_open h (decided (openings opener h octets attempts))

abbrev pub judged_carried : Opener → List Context → Header → List ℕ → Result (Option Carried) Refusal → Result Accepted Refusal
judged_carried opener contexts h octets (Err e) = Err e
judged_carried opener contexts h octets (Ok carried) =
    judged_tries opener h octets (some_tries (tries contexts h.ssrc h.seq carried))

-- what is made of an opened datagram
unfoldable pub judged : Opener → Receiver → Opened → Result Accepted Refusal
judged opener r o =
    if nat_lt (length o.inner) 16 then Err refusal.InnerShort
    else judged_carried opener r.contexts (original_header o) o.inner (carried_by opener r.secrets o.header.ssrc o.field)

-- what is held once a packet was accepted
abbrev pub settled : Receiver → Result Accepted Refusal → Receiver
settled r (Err e) = r
settled r (Ok a) = record r { contexts = committed a.attempt r.contexts }

abbrev pub heard_reach : Opener → Receiver → Reach → Result Accepted Refusal
heard_reach opener r (outer.Refused fault) = Err (refusal.Outer fault)
heard_reach opener r (outer.Blocked ssrc index fault) = Err (refusal.Outer (Ohb fault))
heard_reach opener r (outer.Reached o) = judged opener r o

abbrev pub reach_of : Receiver → List ℕ → Reach
reach_of r datagram = reached (session_keys r.server Srtp) (Some r.ssrc) r.streams datagram

-- The answer to a datagram, and the receiver behind it. A refusal up to the outer tag changes nothing; a later one accepts the outer
-- index alone.
unfoldable pub heard : Opener → Receiver → List ℕ → Result Accepted Refusal × Receiver
heard opener r datagram =
    let reach = reach_of r datagram in
    let answer = heard_reach opener r reach in
    (answer, record (settled r answer) { streams = streams_after r.streams reach })

-- by the ciphers, under the secrets held
abbrev pub outcome : Receiver → List ℕ → Result Accepted Refusal × Receiver
outcome r datagram = heard (by_cipher r.secrets) r datagram

-- by the table: behind the outer layer it looks at no cipher, no key bit and no tag
abbrev pub ideal : Table → Receiver → List ℕ → Result Accepted Refusal × Receiver
ideal table r datagram = heard (by_table table) r datagram

-- a receiver that got a secret whose SPI is above those it holds
abbrev pub granted : Secret → Receiver → Receiver
granted s r = record r {
  secrets = drop (length r.secrets + 1 - live_spis) r.secrets ++ s ∷ [];
  contexts = (renewed s.spi (receiving r)).contexts;
}
