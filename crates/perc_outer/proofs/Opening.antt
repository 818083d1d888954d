-- From what a stream answers for a packet to what the streams answer.
use Rattle.std.proofs.Common.{◌≡◌, ℕ, ◌<◌, ◌≤◌, Bool, true, false, not, leb, List, [], ◌∷◌, ◌++◌, length, get_or, set, Option, Result, Ok, Err, sym, ap, subst, ◌∙◌, arith}
use Rattle.std.specs.Prelude.{◌&&◌, MatchResult}
use Rattle.std.specs.List.{insert, list_any}
use Rattle.std.specs.Option.{option_map_or}
use Rattle.std.proofs.lemmas.Bool.Decides.{nat_tests}
use Rattle.perc_kdf.specs.Derivation.{KeyAndSalt}
use Rattle.perc_rtp.specs.Header.{Header, IsPacket, head_of, spelling}
use Rattle.perc_rtp.specs.declared.head.RtpHead.{RtpHead}
use Rattle.perc_rtp.proofs.HeaderLaws.{one_packet}
use Rattle.perc_window.specs.Replay.{StandsFor as WindowStandsFor}
use Rattle.perc_srtp.specs.Ends.{Stream}
use Rattle.perc_srtp.specs.Sealed.{BeginsWith}
use Rattle.perc_srtp.specs.Streams.{rx_opened}
use Rattle.perc_srtp.specs.declared.streams.RxFault.{RxFault}
use Rattle.perc_outer.specs.declared.fault.OuterFault.{OuterFault}
use Rattle.perc_outer.specs.declared.fault.OuterFault.TheVariants.{StreamLimit}
use Rattle.perc_outer.specs.Streams.{OuterStream, accepted_of, is_of, with_index}
use Rattle.perc_outer.specs.Datagram.{opened_packet, packet_refusal}
use Rattle.perc_outer.specs.Kept.{IsUnsealed, StandsFor}
use Rattle.perc_outer.specs.Places.{IsAt, IsGapFor}
use Rattle.perc_outer.proofs.Finding.{Rise}
use Rattle.perc_outer.proofs.Standing.{held_at, none_held, opened_by, opened_full, refusing, stands_held, stands_new}

-- what a stream answers
abbrev pub StreamAnswer : Header → List ℕ → Result (ℕ × List ℕ) RxFault → Result ℕ RxFault → Stream → List ℕ → Type 0 → Type 0 → Type 0
StreamAnswer h accepted opened result new octets A B =
    MatchResult opened
    (λ o. (result ≡ Ok (length (spelling h ++ o.1))) × BeginsWith (spelling h ++ o.1) octets × WindowStandsFor new.window (o.0 ∷ accepted))
    (λ fault. (result ≡ Err fault) × A × B)

-- the same answer of the streams
abbrev pub refusing_len : Result ℕ RxFault → Result ℕ OuterFault
refusing_len (Ok len) = Ok len
refusing_len (Err fault) = Err (packet_refusal fault)

-- It is that of the streams, where these stand for one index more if the stream does,
pub unsealed : (h : Header) (before : List OuterStream) (accepted : List ℕ) (opened : Result (ℕ × List ℕ) RxFault) (result : Result ℕ RxFault) (new : Stream) (octets : List ℕ)
    (kept : List Stream) (A B : Type 0) → StreamAnswer h accepted opened result new octets A B
    → ((index : ℕ) → WindowStandsFor new.window (index ∷ accepted) → StandsFor kept (with_index h.ssrc index before))
    → IsUnsealed h before (refusing opened) (refusing_len result) kept octets
unsealed h before accepted (Ok o) result new octets kept A B told stands = (ap refusing_len told.0, told.1, stands o.0 told.2)
unsealed h before accepted (Err fault) result new octets kept A B told stands = ap refusing_len told.0

-- and where it is a refusal, whatever they stand for.
pub unsealed_not : (h : Header) (before : List OuterStream) (accepted : List ℕ) (opened : Result (ℕ × List ℕ) RxFault) (fault : RxFault) (new : Stream) (octets : List ℕ)
    (kept : List Stream) (after : List ℕ) (A B : Type 0) → StreamAnswer h accepted opened (Err fault) new octets A B
    → IsUnsealed h before (refusing opened) (Err (packet_refusal fault)) kept after
unsealed_not h before accepted (Ok o) fault new octets kept after A B told = let failed = told.0 in absurd (cc)
unsealed_not h before accepted (Err refused) fault new octets kept after A B told = ap refusing_len told.0

-- ---- a new stream

-- the facts of a packet that would begin a stream
pub record Begins (keys : KeyAndSalt) (kept : List Stream) (before : List OuterStream) (h : Header) (rest : List ℕ) (place : ℕ) : Type 0 where
  pub stands : StandsFor kept before
  pub gap : IsGapFor kept h.ssrc place
  pub tag : 16 ≤ length rest

-- A packet has one SSRC.
pub same_ssrc : (h g : Header) (rest r packet : List ℕ) (ssrc : ℕ) → IsPacket h rest packet → IsPacket g r packet → g.ssrc ≡ ssrc → h.ssrc ≡ ssrc
same_ssrc h g rest r packet ssrc is also its = ap (λ (x : Header). x.ssrc) ((one_packet h g rest r packet is also).0) ∙ its

pub begins : (keys : KeyAndSalt) (kept now : List Stream) (before : List OuterStream) (h g : Header) (rest r packet : List ℕ) (ssrc place : ℕ) → kept ≡ now → StandsFor now before
    → IsPacket h rest packet → IsGapFor now ssrc place → IsPacket g r packet → g.ssrc ≡ ssrc → 16 ≤ length r → Begins keys kept before h rest place
begins keys kept now before h g rest r packet ssrc place same stands is gap also its long =
    let one = one_packet h g rest r packet is also in
    let ssrc_is : ssrc ≡ h.ssrc = sym its ∙ ap (λ (x : Header). x.ssrc) (sym one.0) in
    record {
      stands = subst (λ (k : List Stream). StandsFor k before) (sym same) stands;
      gap = subst (λ (k : List Stream). IsGapFor k h.ssrc place) (sym same) (subst (λ (k : ℕ). IsGapFor now k place) ssrc_is gap);
      tag = subst (λ (xs : List ℕ). 16 ≤ length xs) (sym one.1) long;
    }

full_by : (held : Bool) (n : ℕ) → held ≡ false → n ≡ 256 → (not held && leb 256 n) ≡ true
full_by held n none full = grind (arith, nat_tests)

room_by : (held : Bool) (n : ℕ) → n < 256 → (not held && leb 256 n) ≡ false
room_by held n few = grind (arith, nat_tests)

pub begins_full : (keys : KeyAndSalt) (kept : List Stream) (before : List OuterStream) (h : Header) (rest : List ℕ) (place : ℕ) → Begins keys kept before h rest place
    → length kept ≡ 256 → opened_packet keys before h rest ≡ Err StreamLimit
begins_full keys kept before h rest place b full =
    let none = none_held kept before h.ssrc place b.stands b.gap in
    opened_full keys before h rest b.tag none.0 (full_by (list_any (is_of h.ssrc) before) (length before) none.1 (sym b.stands.count ∙ full))

pub begins_room : (keys : KeyAndSalt) (kept : List Stream) (before : List OuterStream) (h : Header) (rest : List ℕ) (place : ℕ) → Begins keys kept before h rest place
    → length kept < 256 → opened_packet keys before h rest ≡ refusing (rx_opened keys [] h rest)
begins_room keys kept before h rest place b few =
    let none = none_held kept before h.ssrc place b.stands b.gap in
    let first : accepted_of before h.ssrc ≡ [] = ap (λ (o : Option OuterStream). option_map_or (λ s. s.accepted) o []) none.0 in
    opened_by keys before h rest (room_by (list_any (is_of h.ssrc) before) (length before) (omega (arith, b.stands.count)))
    ∙ ap (λ (accepted : List ℕ). refusing (rx_opened keys accepted h rest)) first

-- It stands for what it accepted among the others.
pub begins_kept : (keys : KeyAndSalt) (kept : List Stream) (before : List OuterStream) (h : Header) (rest : List ℕ) (place : ℕ) (t : Stream) → Begins keys kept before h rest place
    → Rise kept → t.ssrc ≡ h.ssrc → (index : ℕ) → WindowStandsFor t.window (index ∷ []) → StandsFor (insert kept place t) (with_index h.ssrc index before)
begins_kept keys kept before h rest place t b rise its index window =
    let none = none_held kept before h.ssrc place b.stands b.gap in
    let first : accepted_of before h.ssrc ≡ [] = ap (λ (o : Option OuterStream). option_map_or (λ s. s.accepted) o []) none.0 in
    stands_new kept before h.ssrc index place t b.stands rise b.gap its none.1
    (subst (λ (accepted : List ℕ). WindowStandsFor t.window (index ∷ accepted)) (sym first) window)

-- ---- a held stream

-- the facts of a packet whose stream is held
pub record Goes_on (kept : List Stream) (before : List OuterStream) (h : Header) (place : ℕ) (s : Stream) : Type 0 where
  pub stands : StandsFor kept before
  pub at : IsAt kept h.ssrc place
  pub held : list_any (is_of h.ssrc) before ≡ true
  pub window : WindowStandsFor s.window (accepted_of before h.ssrc)

pub goes_on : (kept now : List Stream) (before : List OuterStream) (h : Header) (ssrc place : ℕ) (s : Stream) → kept ≡ now → StandsFor now before → Rise kept
    → ssrc ≡ h.ssrc → IsAt now ssrc place → s ≡ get_or kept place s → Goes_on kept before h place s
goes_on kept now before h ssrc place s same stands rise its at is =
    let all : StandsFor kept before = subst (λ (k : List Stream). StandsFor k before) (sym same) stands in
    let there : IsAt kept h.ssrc place = subst (λ (k : List Stream). IsAt k h.ssrc place) (sym same) (subst (λ (k : ℕ). IsAt now k place) its at) in
    let held = held_at kept before h.ssrc place s all rise there is in
    record { stands = all; at = there; held = held.1; window = held.0 }

held_room : (held : Bool) (n : ℕ) → held ≡ true → (not held && leb 256 n) ≡ false
held_room held n is = grind (arith, nat_tests)

pub goes_on_opens : (keys : KeyAndSalt) (kept : List Stream) (before : List OuterStream) (h : Header) (rest : List ℕ) (place : ℕ) (s : Stream) → Goes_on kept before h place s
    → opened_packet keys before h rest ≡ refusing (rx_opened keys (accepted_of before h.ssrc) h rest)
goes_on_opens keys kept before h rest place s g = opened_by keys before h rest (held_room (list_any (is_of h.ssrc) before) (length before) g.held)

pub goes_on_kept : (kept : List Stream) (before : List OuterStream) (h : Header) (place : ℕ) (s t : Stream) → Goes_on kept before h place s → Rise kept → t.ssrc ≡ h.ssrc
    → (index : ℕ) → WindowStandsFor t.window (index ∷ accepted_of before h.ssrc) → StandsFor (set kept place t) (with_index h.ssrc index before)
goes_on_kept kept before h place s t g rise its index window = stands_held kept before h.ssrc index place t g.stands rise g.at its g.held window

-- What was told of a packet's header is of this one.
pub head_packet : (h g : Header) (rest r packet : List ℕ) (head : RtpHead) → IsPacket h rest packet → IsPacket g r packet → head ≡ head_of g
    → (head.len ≡ length (spelling h)) × (head.ssrc ≡ h.ssrc)
head_packet h g rest r packet head is also told =
    let same : head ≡ head_of h = told ∙ ap head_of (sym (one_packet h g rest r packet is also).0) in
    (ap (λ (t : RtpHead). t.len) same, ap (λ (t : RtpHead). t.ssrc) same)
