-- Kept streams stand for streams, also with one index more; and what a packet opens to over them.
use Rattle.std.proofs.Common.{◌≡◌, ℕ, ◌+◌, ◌<◌, ◌≤◌, true, false, List, [], ◌∷◌, length, get_or, set, Option, Some, None, is_some, Result, Ok, Err, inl, inr, refl, sym, ap, subst, ◌∙◌, arith}
use Rattle.std.specs.Prelude.{find}
use Rattle.std.specs.List.{insert, list_any}
use Rattle.std.specs.Option.{option_map_or}
use Rattle.std.proofs.lemmas.Bool.{cases_eq}
use Rattle.std.proofs.lemmas.List.{get_or-set_same, length-set}
use Rattle.std.proofs.lemmas.List.Edits.{get_or-insert_at, length-insert}
use Rattle.perc_kdf.specs.Derivation.{KeyAndSalt}
use Rattle.perc_rtp.specs.Header.{Header}
use Rattle.perc_window.specs.Replay.{StandsFor as WindowStandsFor}
use Rattle.perc_window.proofs.IndexLaws.{nearest_first}
use Rattle.perc_srtp.specs.Ends.{Stream}
use Rattle.perc_srtp.specs.Sealed.{unsealed_body}
use Rattle.perc_srtp.specs.Streams.{opened_at, rx_index, rx_opened, opening_index}
use Rattle.perc_srtp.specs.declared.streams.RxFault.{RxFault}
use Rattle.perc_srtp.specs.declared.streams.RxFault.TheVariants as rx
use Rattle.perc_srtp.proofs.Streaming.{rx_by_tag, opening_by_index, opening_short, rx_refused}
use Rattle.perc_outer.specs.declared.fault.OuterFault.{OuterFault}
use Rattle.perc_outer.specs.declared.fault.OuterFault.TheVariants.{OuterShort, OuterTag, StreamLimit}
use Rattle.perc_outer.specs.Streams.{OuterStream, accepted_of, is_full_for, is_of, with_index}
use Rattle.perc_outer.specs.Datagram.{opened_packet, packet_refusal}
use Rattle.perc_outer.specs.Kept.{SameStream, StandsFor, kept_of}
use Rattle.perc_outer.specs.Places.{IsAt, IsGapFor}
use Rattle.perc_outer.proofs.Finding.{Rise, any_found, find_past_with, find_with, kept_at, kept_in_gap, kept_past_insert, kept_past_set, length-with_held, length-with_new, rise-insert, rise-set}

-- ---- held or new

same_some : (k : Stream) (found : Option OuterStream) → SameStream (Some k) found
    → WindowStandsFor k.window (option_map_or (λ s. s.accepted) found []) × (is_some found ≡ true)
same_some k None same = absurd same
same_some k (Some s) same = (same, refl)

same_none : (found : Option OuterStream) → SameStream None found → found ≡ None
same_none None same = refl
same_none (Some s) same = absurd same

-- A kept stream stands for one that is held.
pub held_at : (kept : List Stream) (streams : List OuterStream) (ssrc place : ℕ) (s : Stream) → StandsFor kept streams → Rise kept → IsAt kept ssrc place
    → s ≡ get_or kept place s → WindowStandsFor s.window (accepted_of streams ssrc) × (list_any (is_of ssrc) streams ≡ true)
held_at kept streams ssrc place s stands rise at is =
    let its : s.ssrc ≡ ssrc = ap (λ (k : Stream). k.ssrc) is ∙ at.has_ssrc s in
    let found : kept_of kept ssrc ≡ Some s = ap (kept_of kept) (sym its) ∙ kept_at kept place s rise is at.in_range in
    let same = same_some s (find (is_of ssrc) streams) (subst (λ (k : Option Stream). SameStream k (find (is_of ssrc) streams)) found (stands.each ssrc)) in
    (same.0, any_found ssrc streams ∙ same.1)

-- Where there is a gap for it, none is.
pub none_held : (kept : List Stream) (streams : List OuterStream) (ssrc place : ℕ) → StandsFor kept streams → IsGapFor kept ssrc place
    → (find (is_of ssrc) streams ≡ None) × (list_any (is_of ssrc) streams ≡ false)
none_held kept streams ssrc place stands gap =
    let found = kept_in_gap kept ssrc place gap in
    let none = same_none (find (is_of ssrc) streams) (subst (λ (k : Option Stream). SameStream k (find (is_of ssrc) streams)) found (stands.each ssrc)) in
    (none, any_found ssrc streams ∙ ap (λ (o : Option OuterStream). is_some o) none)

-- ---- one index more

-- The streams that are kept now: one has the SSRC and stands for its indices with one more, and others are as they were.
record Marked (kept new : List Stream) (streams : List OuterStream) (ssrc index : ℕ) (t : Stream) : Type 0 where
  its : kept_of new ssrc ≡ Some t
  others : (other : ℕ) → (ssrc ≡ other → ⊥) → kept_of new other ≡ kept_of kept other
  window : WindowStandsFor t.window (index ∷ accepted_of streams ssrc)
  count : length new ≡ length (with_index ssrc index streams)

stands_marked : (kept new : List Stream) (streams : List OuterStream) (ssrc index : ℕ) (t : Stream) → StandsFor kept streams
    → Marked kept new streams ssrc index t → StandsFor new (with_index ssrc index streams)
stands_marked kept new streams ssrc index t stands m = record {
  count = m.count;
  each = λ other.
      elim (cases_eq ssrc other) as (λ _. SameStream (kept_of new other) (find (is_of other) (with_index ssrc index streams))) [
        | inl same ↦
            subst (λ (k : ℕ). SameStream (kept_of new k) (find (is_of k) (with_index ssrc index streams))) same (rw (m.its, find_with ssrc index streams) m.window)
        | inr apart ↦ rw (m.others other apart, find_past_with ssrc other index streams apart) (stands.each other)
      ];
}

pub stands_held : (kept : List Stream) (streams : List OuterStream) (ssrc index place : ℕ) (t : Stream) → StandsFor kept streams → Rise kept → IsAt kept ssrc place
    → t.ssrc ≡ ssrc → list_any (is_of ssrc) streams ≡ true → WindowStandsFor t.window (index ∷ accepted_of streams ssrc)
    → StandsFor (set kept place t) (with_index ssrc index streams)
stands_held kept streams ssrc index place t stands rise at its held window =
    let new : List Stream = set kept place t in
    let rises : Rise new = rise-set kept place t rise at.in_range (λ d. at.has_ssrc d ∙ sym its) in
    let within : place < length new = rw (length-set kept place t) at.in_range in
    stands_marked kept new streams ssrc index t stands (record {
      its = ap (kept_of new) (sym its) ∙ kept_at new place t rises (sym (get_or-set_same kept place t t at.in_range)) within;
      others = λ other apart. kept_past_set kept place t other (λ e. apart (sym (at.has_ssrc t) ∙ e)) (λ e. apart (sym its ∙ e));
      window = window;
      count = length-set kept place t ∙ stands.count ∙ sym (length-with_held ssrc index streams held);
    })

pub stands_new : (kept : List Stream) (streams : List OuterStream) (ssrc index place : ℕ) (t : Stream) → StandsFor kept streams → Rise kept → IsGapFor kept ssrc place
    → t.ssrc ≡ ssrc → list_any (is_of ssrc) streams ≡ false → WindowStandsFor t.window (index ∷ accepted_of streams ssrc)
    → StandsFor (insert kept place t) (with_index ssrc index streams)
stands_new kept streams ssrc index place t stands rise gap its new window =
    let after : List Stream = insert kept place t in
    let rises : Rise after = rise-insert kept place t rise (subst (λ (k : ℕ). IsGapFor kept k place) (sym its) gap) in
    let long : length after ≡ length kept + 1 = length-insert kept place t gap.in_range in
    stands_marked kept after streams ssrc index t stands (record {
      its = ap (kept_of after) (sym its) ∙ kept_at after place t rises (sym (get_or-insert_at kept place t t gap.in_range)) (omega (arith, gap.in_range));
      others = λ other apart. kept_past_insert kept place t other (λ e. apart (sym its ∙ e));
      window = window;
      count = long ∙ ap (λ (n : ℕ). n + 1) stands.count ∙ sym (length-with_new ssrc index streams new);
    })

-- ---- what a packet opens to

-- the refusals of a stream as those of a datagram
abbrev pub refusing : Result (ℕ × List ℕ) RxFault → Result (ℕ × List ℕ) OuterFault
refusing (Ok opened) = Ok opened
refusing (Err fault) = Err (packet_refusal fault)

pub opened_short : (keys : KeyAndSalt) (streams : List OuterStream) (h : Header) (rest : List ℕ) → length rest < 16 → opened_packet keys streams h rest ≡ Err OuterShort
unfolding opened_packet
opened_short keys streams h rest short = rw (opening_short (accepted_of streams h.ssrc) h.seq (length rest) short) refl

first_index : (seq : ℕ) → rx_index [] seq ≡ Ok seq
first_index seq = rw (nearest_first seq) refl

-- There is no room for a new stream.
pub opened_full : (keys : KeyAndSalt) (streams : List OuterStream) (h : Header) (rest : List ℕ) → 16 ≤ length rest → find (is_of h.ssrc) streams ≡ None
    → is_full_for streams h.ssrc ≡ true → opened_packet keys streams h rest ≡ Err StreamLimit
unfolding opened_packet
opened_full keys streams h rest long new full =
    let first : accepted_of streams h.ssrc ≡ [] = ap (λ (o : Option OuterStream). option_map_or (λ s. s.accepted) o []) new in
    let place : opening_index (accepted_of streams h.ssrc) h.seq (length rest) ≡ Ok h.seq =
    opening_by_index (accepted_of streams h.ssrc) h.seq (length rest) long ∙ ap (λ (before : List ℕ). rx_index before h.seq) first ∙ first_index h.seq in
    rw place (rw full refl)

opened_tagless : (keys : KeyAndSalt) (streams : List OuterStream) (h : Header) (rest : List ℕ) (index : ℕ) → is_full_for streams h.ssrc ≡ false
    → opening_index (accepted_of streams h.ssrc) h.seq (length rest) ≡ Ok index → unsealed_body keys index h rest ≡ None → opened_packet keys streams h rest ≡ Err OuterTag
unfolding opened_packet
opened_tagless keys streams h rest index room place none = rw place (rw room (rw none refl))

opened_tagged : (keys : KeyAndSalt) (streams : List OuterStream) (h : Header) (rest : List ℕ) (index : ℕ) (body : List ℕ) → is_full_for streams h.ssrc ≡ false
    → opening_index (accepted_of streams h.ssrc) h.seq (length rest) ≡ Ok index → unsealed_body keys index h rest ≡ Some body → opened_packet keys streams h rest ≡ Ok (index, body)
unfolding opened_packet
opened_tagged keys streams h rest index body room place some = rw place (rw room (rw some refl))

opened_placeless : (keys : KeyAndSalt) (streams : List OuterStream) (h : Header) (rest : List ℕ) (fault : RxFault)
    → opening_index (accepted_of streams h.ssrc) h.seq (length rest) ≡ Err fault → opened_packet keys streams h rest ≡ Err (packet_refusal fault)
unfolding opened_packet
opened_placeless keys streams h rest fault place = rw place refl

by_body : (keys : KeyAndSalt) (streams : List OuterStream) (h : Header) (rest : List ℕ) (index : ℕ) (body : Option (List ℕ)) → is_full_for streams h.ssrc ≡ false
    → opening_index (accepted_of streams h.ssrc) h.seq (length rest) ≡ Ok index → unsealed_body keys index h rest ≡ body
    → opened_packet keys streams h rest ≡ refusing (opened_at rx.Tag index body)
by_body keys streams h rest index None room place is = opened_tagless keys streams h rest index room place is
by_body keys streams h rest index (Some body) room place is = opened_tagged keys streams h rest index body room place is

by_place : (keys : KeyAndSalt) (streams : List OuterStream) (h : Header) (rest : List ℕ) (place : Result ℕ RxFault) → is_full_for streams h.ssrc ≡ false
    → opening_index (accepted_of streams h.ssrc) h.seq (length rest) ≡ place → opened_packet keys streams h rest ≡ refusing (rx_opened keys (accepted_of streams h.ssrc) h rest)
by_place keys streams h rest (Err fault) room is =
    opened_placeless keys streams h rest fault is ∙ sym (ap refusing (rx_refused keys (accepted_of streams h.ssrc) h rest fault is))
by_place keys streams h rest (Ok index) room is =
    by_body keys streams h rest index (unsealed_body keys index h rest) room is refl
    ∙ sym (ap refusing (rx_by_tag keys (accepted_of streams h.ssrc) h rest index is))

-- Where there is room, it opens as in its stream.
pub opened_by : (keys : KeyAndSalt) (streams : List OuterStream) (h : Header) (rest : List ℕ) → is_full_for streams h.ssrc ≡ false
    → opened_packet keys streams h rest ≡ refusing (rx_opened keys (accepted_of streams h.ssrc) h rest)
opened_by keys streams h rest room = by_place keys streams h rest (opening_index (accepted_of streams h.ssrc) h.seq (length rest)) room refl
