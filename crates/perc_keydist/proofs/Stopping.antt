-- Octets that go wrong, and more behind them; and how long a part of a message is.
use Rattle.std.specs.Prelude.{None}
use Rattle.std.proofs.Common.{◌≡◌, ℕ, ◌+◌, ◌-◌, ◌^◌, ◌<◌, ◌≤◌, ◌⊎◌, min, List, [], ◌∷◌, ◌++◌, length, take, drop, inl, inr, ⊎_elim, refl, sym, ap, ◌∙◌, append_assoc, arith}
use Rattle.std.proofs.lemmas.Bool.{cases_lt}
use Rattle.std.proofs.lemmas.List.{length-append, length-drop, take_all, take-append-drop, take-append-le, take_at}
use Rattle.byteorder.specs.Endian.{big_bytes}
use Rattle.perc_base.specs.Profile.{key_length}
use Rattle.perc_base.specs.declared.profile.Profile.{Profile}
use Rattle.perc_base.specs.declared.profile.Profile.TheVariants.{Aes128, Aes256}
use Rattle.perc_tunnel.specs.declared.decoder.TunnelReason.{TunnelReason}
use Rattle.perc_tunnel.specs.declared.decoder.TunnelReason.TheVariants.{Kind, Length, Body}
use Rattle.perc_tunnel.specs.Decoding.{Decoding, taken}
use Rattle.perc_tunnel.specs.Message.{TunnelMessage, SupportedProfiles, UnsupportedVersion, MediaKeys, TunneledDtls, EndpointDisconnect, IsMessage, body, message_length, spelling}
use Rattle.perc_tunnel.specs.Stream.{BeginsLength, BeginsWithMessage, HasReason, IsPart}
use Rattle.perc_tunnel.proofs.Written.{body-length, spelling-length}
use Rattle.perc_keydist.specs.declared.fault.KdFault.{KdFault}
use Rattle.perc_keydist.specs.declared.fault.KdFault.TheVariants as fault
use Rattle.perc_keydist.specs.Feeding.{Stops}

-- ---- parts of messages

key_few : (p : Profile) → key_length p ≤ 32
key_few Aes128 = omega arith
key_few Aes256 = omega arith

message_short : (m : TunnelMessage) → IsMessage m → message_length m ≤ 65538
message_short (SupportedProfiles version profiles) is = omega (arith, is.2)
message_short (UnsupportedVersion highest) is = omega arith
message_short (MediaKeys association profile client server) is = omega (arith, key_few profile)
message_short (TunneledDtls association octets) is = omega (arith, is.2)
message_short (EndpointDisconnect association) is = omega arith

pub part_short : (octets : List ℕ) → IsPart octets → length octets < 65538
part_short octets (m, more, is, some, spelled) =
    let whole : length (spelling m) ≡ length octets + length more = ap length spelled ∙ length-append octets more in
    omega (arith, whole, some, spelling-length m is, message_short m is)

-- a decoder that holds less than it may takes some of any octets
pub takes_some : (d : Decoding) (n : ℕ) → d.fault ≡ None → length d.held < 65538 → 0 < n → d.given + length d.held + n < 2 ^ 64 → 0 < taken d n
takes_some d n ready short some few =
    let is : taken d n ≡ min n (min (65538 - length d.held) (2 ^ 64 - 1 - (d.given + length d.held))) = ap (λ o. taken (record d { fault = o }) n) ready in
    omega (arith, is)

-- ---- what goes wrong still does with more octets behind it

-- octets with more behind them begin with a list: they are shorter and its front, or they begin with it
front_of : (octets more whole after : List ℕ) → octets ++ more ≡ whole ++ after
    → ((rest : List ℕ) × (0 < length rest) × (whole ≡ octets ++ rest)) ⊎ ((rest : List ℕ) × (octets ≡ whole ++ rest))
front_of octets more whole after e = by_order (cases_lt (length octets) (length whole)) where
  by_order : (length octets < length whole) ⊎ (length whole ≤ length octets)
      → ((rest : List ℕ) × (0 < length rest) × (whole ≡ octets ++ rest)) ⊎ ((rest : List ℕ) × (octets ≡ whole ++ rest))
  by_order (inl short) =
      let n = length octets in
      let front : take n whole ≡ octets = sym (take-append-le n whole after (omega arith)) ∙ ap (take n) (sym e) ∙ take_at octets more n refl in
      let size : length (drop n whole) ≡ length whole - n = length-drop n whole in
      inl (drop n whole, omega (arith, size, short), sym (take-append-drop n whole) ∙ ap (λ (xs : List ℕ). xs ++ drop n whole) front)
  by_order (inr long) =
      let n = length whole in
      let front : take n octets ≡ whole = sym (take-append-le n octets more long) ∙ ap (take n) e ∙ take_at whole after n refl in
      inr (drop n octets, sym (take-append-drop n octets) ∙ ap (λ (xs : List ℕ). xs ++ drop n octets) front)

no_message_on : (octets more : List ℕ) → (BeginsWithMessage octets → ⊥) → (IsPart octets → ⊥) → BeginsWithMessage (octets ++ more) → ⊥
no_message_on octets more no_message no_part (m, after, is, e) =
    ⊎_elim (λ (h : (rest : List ℕ) × (0 < length rest) × (spelling m ≡ octets ++ rest)). no_part (m, h.0, is, h.1, h.2))
    (λ (h : (rest : List ℕ) × (octets ≡ spelling m ++ rest)). no_message (m, h.0, is, h.1)) (front_of octets more (spelling m) after e)

no_part_on : (octets more : List ℕ) → (IsPart octets → ⊥) → IsPart (octets ++ more) → ⊥
no_part_on octets more no_part (m, rest, is, some, e) =
    let size : length (more ++ rest) ≡ length more + length rest = length-append more rest in
    no_part (m, more ++ rest, is, omega (arith, size, some), e ∙ append_assoc octets more rest)

-- the length octets that are there, with more behind them
take_on : (octets more : List ℕ) → (rest : List ℕ) × (take 2 (octets ++ more) ≡ take 2 octets ++ rest)
take_on [] more = (take 2 more, refl)
take_on (x ∷ []) more = (take 1 more, refl)
take_on (x ∷ y ∷ octets) more = ([], refl)

begins_shorter : (kind : ℕ) (octets more : List ℕ) → BeginsLength kind (octets ++ more) → BeginsLength kind octets
begins_shorter kind octets more (n, rest, is, e) =
    let t = take_on octets more in
    (n, t.0 ++ rest, is, e ∙ ap (λ (xs : List ℕ). xs ++ rest) t.1 ∙ append_assoc (take 2 octets) t.0 rest)

-- octets that are shorter than a length, and begin one, are a part of a message
begins_part : (kind : ℕ) (octets : List ℕ) → length octets < 2 → BeginsLength kind octets → IsPart (kind ∷ octets)
unfolding spelling
begins_part kind octets short (n, rest, (m, is, kind_is, length_is), e) =
    let all : take 2 octets ≡ octets = take_all 2 octets (omega arith) in
    let size : length (body m) ≡ n = body-length m is ∙ length_is in
    let head : big_bytes 2 (length (body m)) ≡ octets ++ rest = ap (big_bytes 2) size ∙ e ∙ ap (λ (xs : List ℕ). xs ++ rest) all in
    let two : length (octets ++ rest) ≡ 2 = ap length (sym head) in
    let some : length (octets ++ rest) ≡ length octets + length rest = length-append octets rest in
    let long : length (rest ++ body m) ≡ length rest + length (body m) = length-append rest (body m) in
    (m, rest ++ body m, is, omega (arith, two, some, long, short), (λ i. kind_is i ∷ (head i ++ body m)) ∙ ap (λ (xs : List ℕ). kind ∷ xs) (append_assoc octets rest (body m)))

begins_longer : (kind : ℕ) (octets more : List ℕ) → (IsPart (kind ∷ octets) → ⊥) → BeginsLength kind octets → BeginsLength kind (octets ++ more)
begins_longer kind [] more no_part h = absurd (no_part (begins_part kind [] (omega arith) h))
begins_longer kind (x ∷ []) more no_part h = absurd (no_part (begins_part kind (x ∷ []) (omega arith) h))
begins_longer kind (x ∷ y ∷ octets) more no_part h = h

reason_on : (octets more : List ℕ) (reason : TunnelReason) → (IsPart octets → ⊥) → HasReason octets reason → HasReason (octets ++ more) reason
reason_on [] more reason no_part h = absurd h
reason_on (kind ∷ octets) more Kind no_part h = h
reason_on (kind ∷ octets) more Length no_part h = (h.0, λ begins. h.1 (begins_shorter kind octets more begins))
reason_on (kind ∷ octets) more Body no_part h = (h.0, begins_longer kind octets more no_part h.1)

pub stops_on : (e : KdFault) (rest more : List ℕ) (offset : ℕ) → Stops e rest offset → Stops e (rest ++ more) offset
stops_on (fault.Tunnel f) rest more offset w = record {
  offset_is = w.offset_is;
  no_message = no_message_on rest more w.no_message w.no_part;
  no_part = no_part_on rest more w.no_part;
  reason = reason_on rest more f.reason w.no_part w.reason;
}
stops_on (fault.Order type) rest more offset h = tt
stops_on fault.SpiSpent rest more offset h = tt
stops_on fault.KeyRepeated rest more offset h = tt
stops_on fault.Keeper rest more offset h = tt
stops_on fault.Handshake rest more offset h = tt
stops_on fault.Random rest more offset h = tt
stops_on fault.Memory rest more offset h = tt
