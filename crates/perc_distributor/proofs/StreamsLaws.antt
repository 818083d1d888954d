-- A media packet sealed in its stream among those of a serial.
use Rattle.std.proofs.Common.{◌≡◌, ℕ, ◌<◌, Bool, true, false, not, leb, List, [], ◌∷◌, length, Option, Result, Ok, Err, get_or, set, sym, ap, subst, ◌∙◌, arith}
use Rattle.std.specs.Prelude.{◌&&◌}
use Rattle.std.specs.List.{list_any, insert}
use Rattle.std.specs.Option.{option_map_or}
use Rattle.std.proofs.lemmas.Bool.Decides.{nat_tests}
use Rattle.std.proofs.lemmas.Bool.{cond-true, cond-false}
use Rattle.perc_ohb.specs.Rewriting.{Rewrite}
use Rattle.perc_rtp.specs.Header.{Header}
use Rattle.perc_rtp.proofs.HeaderLaws.{one_packet}
use Rattle.perc_window.specs.Replay.{StandsFor as WindowStandsFor}
use Rattle.perc_srtp.specs.Ends.{Stream}
use Rattle.perc_ohb.specs.declared.block.Ohb.{Ohb}
use Rattle.perc_ekt.specs.Field.{Field}
use Rattle.perc_double.specs.Double.{opened}
use Rattle.perc_outer.specs.Streams.{OuterStream, accepted_of, is_full_for, is_of, with_index}
use Rattle.perc_outer.specs.Kept.{StandsFor}
use Rattle.perc_outer.specs.Places.{IsAt, IsGapFor}
use Rattle.perc_outer.proofs.Finding.{Rise}
use Rattle.perc_outer.proofs.Standing.{held_at, none_held, stands_held, stands_new}
use Rattle.perc_distributor.specs.declared.fault.ForwardFault.{ForwardFault}
use Rattle.perc_distributor.specs.declared.fault.ForwardFault.TheVariants as fault
use Rattle.perc_distributor.specs.declared.plain.Plain.{Plain}
use Rattle.perc_distributor.specs.Forwarding.{media_index}
use Rattle.perc_distributor.specs.Kept.{IsMedia, MediaOf}
use Rattle.perc_distributor.specs.Parts.{IsForwarded, stream_index}

-- An opened packet has one header.
pub one_header : (p : Plain) (from : List ℕ) (h : Header) (inner : List ℕ) (o : Ohb) (field : Field) (m : MediaOf p) → IsMedia p from h inner o field → h ≡ m.header
one_header p from h inner o field m is =
    (one_packet h m.header (opened inner o) (opened m.inner m.block) _ is.packet.reads m.is.packet.reads).0

-- ---- where it is sealed

pub place_full : (before : List OuterStream) (h : Header) (inner : List ℕ) (o : Ohb) (field : Field) (change : Rewrite) → is_full_for before h.ssrc ≡ true
    → media_index before h inner o field change ≡ Err fault.StreamLimit
place_full before h inner o field change full = cond-true (is_full_for before h.ssrc) _ _ full

pub place_in : (before : List OuterStream) (h : Header) (inner : List ℕ) (o : Ohb) (field : Field) (change : Rewrite) → is_full_for before h.ssrc ≡ false
    → media_index before h inner o field change ≡ stream_index (accepted_of before h.ssrc) h inner o field change
place_in before h inner o field change room = cond-false (is_full_for before h.ssrc) _ _ room

-- What is forwarded keeps what follows from what was kept,
pub forwarded_more : (place : Result ℕ ForwardFault) (datagram : ℕ → List ℕ) (K J : ℕ → Type 0) (result : Result ℕ ForwardFault) (out : List ℕ) → IsForwarded datagram K place result out
    → ((at : ℕ) → K at → J at) → IsForwarded datagram J place result out
forwarded_more (Err f) datagram K J result out told more = told
forwarded_more (Ok at) datagram K J result out told more = (told.0, told.1, told.2, more at told.3)

-- and a refusal stays one, whatever would be kept.
pub forwarded_not : (place : Result ℕ ForwardFault) (datagram : ℕ → List ℕ) (K J : ℕ → Type 0) (f : ForwardFault) (out : List ℕ) → IsForwarded datagram K place (Err f) out
    → IsForwarded datagram J place (Err f) out
forwarded_not (Err g) datagram K J f out told = told
forwarded_not (Ok at) datagram K J f out told = let answered = told.1 in absurd (cc)

full_by : (held : Bool) (n : ℕ) → held ≡ false → n ≡ 256 → (not held && leb 256 n) ≡ true
full_by held n none full = grind (arith, nat_tests)

room_by : (held : Bool) (n : ℕ) → n < 256 → (not held && leb 256 n) ≡ false
room_by held n few = grind (arith, nat_tests)

held_room : (held : Bool) (n : ℕ) → held ≡ true → (not held && leb 256 n) ≡ false
held_room held n is = grind (arith, nat_tests)

-- ---- a new stream

-- the facts of a packet that would begin a stream
pub record Begins (kept : List Stream) (before : List OuterStream) (h : Header) (place : ℕ) : Type 0 where
  pub stands : StandsFor kept before
  pub gap : IsGapFor kept h.ssrc place
  pub rise : Rise kept

pub begins : (kept now : List Stream) (before : List OuterStream) (h g : Header) (ssrc place : ℕ) → kept ≡ now → StandsFor now before → Rise kept → IsGapFor now ssrc place → h ≡ g → g.ssrc ≡ ssrc
    → Begins kept before h place
begins kept now before h g ssrc place same stands rise gap one its =
    let ssrc_is : ssrc ≡ h.ssrc = sym its ∙ ap (λ (x : Header). x.ssrc) (sym one) in
    record {
      stands = subst (λ (k : List Stream). StandsFor k before) (sym same) stands;
      gap = subst (λ (k : List Stream). IsGapFor k h.ssrc place) (sym same) (subst (λ (k : ℕ). IsGapFor now k place) ssrc_is gap);
      rise = rise;
    }

pub begins_full : (kept : List Stream) (before : List OuterStream) (h : Header) (place : ℕ) → Begins kept before h place → length kept ≡ 256 → is_full_for before h.ssrc ≡ true
begins_full kept before h place b full =
    let none = none_held kept before h.ssrc place b.stands b.gap in
    full_by (list_any (is_of h.ssrc) before) (length before) none.1 (sym b.stands.count ∙ full)

-- the streams before have room, and none of its SSRC
pub begins_room : (kept : List Stream) (before : List OuterStream) (h : Header) (place : ℕ) → Begins kept before h place → length kept < 256
    → (is_full_for before h.ssrc ≡ false) × (accepted_of before h.ssrc ≡ [])
begins_room kept before h place b few =
    let none = none_held kept before h.ssrc place b.stands b.gap in
    (room_by (list_any (is_of h.ssrc) before) (length before) (omega (arith, b.stands.count)), ap (λ (o : Option OuterStream). option_map_or (λ s. s.accepted) o []) none.0)

-- It is sealed as in a stream where nothing was sealed.
pub begins_place : (kept : List Stream) (before : List OuterStream) (h : Header) (place : ℕ) (inner : List ℕ) (o : Ohb) (field : Field) (change : Rewrite)
    → Begins kept before h place → length kept < 256
    → media_index before h inner o field change ≡ stream_index [] h inner o field change
begins_place kept before h place inner o field change b few =
    let room = begins_room kept before h place b few in
    place_in before h inner o field change room.0 ∙ ap (λ (was : List ℕ). stream_index was h inner o field change) room.1

pub begins_kept : (kept : List Stream) (before : List OuterStream) (h : Header) (place : ℕ) (t : Stream) → Begins kept before h place → length kept < 256 → t.ssrc ≡ h.ssrc
    → (index : ℕ) → WindowStandsFor t.window (index ∷ []) → StandsFor (insert kept place t) (with_index h.ssrc index before)
begins_kept kept before h place t b few its index window =
    let none = none_held kept before h.ssrc place b.stands b.gap in
    let room = begins_room kept before h place b few in
    stands_new kept before h.ssrc index place t b.stands b.rise b.gap its none.1
    (subst (λ (accepted : List ℕ). WindowStandsFor t.window (index ∷ accepted)) (sym room.1) window)

-- ---- a held stream

-- the facts of a packet whose stream is held
pub record GoesOn (kept : List Stream) (before : List OuterStream) (h : Header) (place : ℕ) (s : Stream) : Type 0 where
  pub stands : StandsFor kept before
  pub at : IsAt kept h.ssrc place
  pub rise : Rise kept
  pub held : list_any (is_of h.ssrc) before ≡ true
  pub window : WindowStandsFor s.window (accepted_of before h.ssrc)

pub goes_on : (kept now : List Stream) (before : List OuterStream) (h : Header) (ssrc place : ℕ) (s : Stream) → kept ≡ now → StandsFor now before → Rise kept
    → ssrc ≡ h.ssrc → IsAt now ssrc place → s ≡ get_or kept place s → GoesOn kept before h place s
goes_on kept now before h ssrc place s same stands rise its at is =
    let all : StandsFor kept before = subst (λ (k : List Stream). StandsFor k before) (sym same) stands in
    let there : IsAt kept h.ssrc place = subst (λ (k : List Stream). IsAt k h.ssrc place) (sym same) (subst (λ (k : ℕ). IsAt now k place) its at) in
    let held = held_at kept before h.ssrc place s all rise there is in
    record { stands = all; at = there; rise = rise; held = held.1; window = held.0 }

pub goes_on_place : (kept : List Stream) (before : List OuterStream) (h : Header) (place : ℕ) (s : Stream) (inner : List ℕ) (o : Ohb) (field : Field) (change : Rewrite) → GoesOn kept before h place s
    → media_index before h inner o field change ≡ stream_index (accepted_of before h.ssrc) h inner o field change
goes_on_place kept before h place s inner o field change g =
    place_in before h inner o field change (held_room (list_any (is_of h.ssrc) before) (length before) g.held)

pub goes_on_kept : (kept : List Stream) (before : List OuterStream) (h : Header) (place : ℕ) (s t : Stream) → GoesOn kept before h place s → t.ssrc ≡ h.ssrc
    → (index : ℕ) → WindowStandsFor t.window (index ∷ accepted_of before h.ssrc) → StandsFor (set kept place t) (with_index h.ssrc index before)
goes_on_kept kept before h place s t g its index window = stands_held kept before h.ssrc index place t g.stands g.rise g.at its g.held window
