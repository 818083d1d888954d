-- The next datagram: that it can be sealed, that it fits, and what is told of it.
use Rattle.std.proofs.Common.{◌≡◌, ℕ, zero, suc, replicate, ◌+◌, ◌%◌, ◌^◌, ◌<◌, ◌≤◌, inl, inr, true, List, [], ◌∷◌, ◌++◌, length, take, drop, Some, None, refl, sym, ap, subst, ◌∙◌, arith}
use Rattle.std.specs.Prelude.{Ok, Err, Option}
use Rattle.std.specs.Option.{option_map, option_map_or}
use Rattle.std.proofs.lemmas.Bool.{ne_eqb}
use Rattle.std.proofs.lemmas.Bool.Decides.{nat_tests}
use Rattle.std.proofs.lemmas.List.{length-append, length-drop, length-replicate, length-take-le, take_at}
use Rattle.perc_kdf.specs.Derivation.{KeyAndSalt}
use Rattle.perc_window.specs.Replay.{StandsFor as WindowStandsFor}
use Rattle.perc_rtp.specs.Header.{Header, IsPacket, extension_octets, spelling as header_spelling}
use Rattle.perc_rtp.specs.Media.{Content, header_of, is_short_extension, media_fault, padding_octets, rest_of}
use Rattle.perc_rtp.specs.declared.media.MediaFault.{MediaFault}
use Rattle.perc_rtp.proofs.HeaderLaws.{length-spelling}
use Rattle.perc_srtp.specs.Ends.{Stream}
use Rattle.perc_double.specs.Double.{double, inner, nothing_kept}
use Rattle.perc_ekt.specs.Field.{spelling}
use Rattle.perc_sender.specs.Schedule.{Sending, Taken, after_packet, newest, next_answer, place_under}
use Rattle.perc_sender.specs.declared.SendPlace.{SendPlace}
use Rattle.perc_sender.specs.declared.NextFault.{NextFault}
use Rattle.perc_sender.proofs.Keys.{placed, refused}
use Rattle.perc_receiver.specs.Table.{inner_keys, secret_in}
use Rattle.perc_outgoing.specs.declared.fault.SendFault.TheVariants.{Media, IndexSpent}
use Rattle.perc_outgoing.specs.Sending.{Outgoing, field_at, next_place, outer_index, send_fault, sending_key, sent_datagram, sent_header}
use Rattle.perc_outgoing.specs.Kept.{IsSealable, IsSentAs, Kept, StandsFor}
use Rattle.perc_outgoing.proofs.Standing.{free_outer, sent_stands, some_same}

-- ---- how long a packet is

padding-length : (n : ℕ) → length (padding_octets n) ≡ n
padding-length zero = refl
padding-length (suc n) = length-append (replicate n 0) (suc n ∷ []) ∙ omega (arith, length-replicate {A = ℕ} n 0)

short_extension : (e : Option (ℕ × List ℕ)) → option_map_or is_short_extension e true ≡ true → length (extension_octets e) ≤ 124
short_extension None is = omega arith
short_extension (Some e) is = grind (arith, nat_tests)

parts_fit : (c : Content) → media_fault c ≡ None
    → (length c.csrcs ≤ 15) × (length c.payload + c.pad ≤ 1200) × (option_map_or is_short_extension c.extension true ≡ true)
parts_fit c e = grind (arith, nat_tests)

pub packet_fits : (c : Content) (seq ssrc len : ℕ) (octets : List ℕ) → media_fault c ≡ None
    → IsPacket (header_of c seq ssrc) (rest_of c) (take len octets) → len ≤ length octets → len ≤ 1396
packet_fits c seq ssrc len octets none is within =
    let fits = parts_fit c none in
    let h : Header = header_of c seq ssrc in
    omega (
      arith,
      length-take-le len octets within,
      ap length is.octets,
      length-append (header_spelling h) (rest_of c),
      length-spelling h,
      short_extension c.extension fits.2,
      length-append c.payload (padding_octets c.pad),
      padding-length c.pad,
      fits.0,
      fits.1,
    )

-- ---- faults

pub send_media : (o : Outgoing) (c : Content) (fault : MediaFault) → media_fault c ≡ Some fault → send_fault o c ≡ Some (Media fault)
send_media o c fault is = rw is refl

pub send_spent : (o : Outgoing) (c : Content) → media_fault c ≡ None → o.sending.next ≡ 2 ^ 48 → send_fault o c ≡ Some IndexSpent
send_spent o c none spent = rw (none, spent) refl

pub send_none : (o : Outgoing) (c : Content) → media_fault c ≡ None → (o.sending.next ≡ 2 ^ 48 → ⊥) → send_fault o c ≡ None
send_none o c none left = rw (none, ne_eqb o.sending.next (2 ^ 48) left) refl

-- It always has a key, so only its indices can be spent.
pub spent_by : (kept : Kept) (o : Outgoing) (e : NextFault) → StandsFor kept o → next_answer kept.sending ≡ Err e → o.sending.next ≡ 2 ^ 48
spent_by kept o e st is =
    elim (refused kept.sending e is) [
      | inl none ↦ absurd (let key : None ≡ Some (sending_key o) = sym none ∙ ap (λ (s : Sending). newest s.keys) st.sending ∙ st.sound.key in cc)
      | inr spent ↦ sym (ap (λ (s : Sending). s.next) st.sending) ∙ spent
    ]

-- ---- the place

-- The next packet has this place.
pub record IsPlace (o : Outgoing) (place : SendPlace) : Type 0 where
  pub is : place ≡ next_place o
  pub left : o.sending.next ≡ 2 ^ 48 → ⊥

pub is_place : (kept : Kept) (o : Outgoing) (place : SendPlace) → StandsFor kept o → next_answer kept.sending ≡ Ok place → IsPlace o place
is_place kept o place st is =
    let p = placed kept.sending place is in
    let key : p.0 ≡ sending_key o = some_same p.0 (sending_key o) (sym p.1.under ∙ ap (λ (s : Sending). newest s.keys) st.sending ∙ st.sound.key) in
    record {
      is = p.1.is ∙ (λ i. place_under (st.sending i) (key i));
      left = λ spent. p.1.left (ap (λ (s : Sending). s.next) st.sending ∙ spent);
    }

pub in_range : (kept : Kept) (o : Outgoing) (place : SendPlace) → StandsFor kept o → IsPlace o place → o.sending.next < 2 ^ 48
in_range kept o place st p =
    let most = st.sound.next in
    let left = p.left in
    omega arith

-- ---- sealed

packet_at : (c : Content) (number ssrc next other : ℕ) (octets : List ℕ) → number ≡ next → ssrc ≡ other
    → IsPacket (header_of c (number % 65536) ssrc) (rest_of c) octets → IsPacket (header_of c (next % 65536) other) (rest_of c) octets
packet_at c number ssrc next other octets e f is =
    subst (λ (n : ℕ). IsPacket (header_of c (next % 65536) n) (rest_of c) octets) f
    (subst (λ (n : ℕ). IsPacket (header_of c (n % 65536) ssrc) (rest_of c) octets) e is)

-- A packet was written with the next SEQ.
pub record IsWritten (kept : Kept) (c : Content) (number ssrc len : ℕ) (written : List ℕ) : Type 0 where
  pub number_is : number ≡ kept.sending.next
  pub ssrc_is : ssrc ≡ kept.sending.ssrc
  pub packet : IsPacket (header_of c (number % 65536) ssrc) (rest_of c) (take len written)

pub sealable : (kept : Kept) (o : Outgoing) (c : Content) (place : SendPlace) (number ssrc len : ℕ) (written : List ℕ) → StandsFor kept o → next_answer kept.sending ≡ Ok place
    → IsWritten kept c number ssrc len written → IsSealable (sent_header o c) (rest_of c) (take len written) kept.outer o.sealed (outer_index o)
sealable kept o c place number ssrc len written st answer w = record {
  reads =
      packet_at c number ssrc o.sending.next o.sending.ssrc (take len written)
      (w.number_is ∙ ap (λ (s : Sending). s.next) st.sending)
      (w.ssrc_is ∙ ap (λ (s : Sending). s.ssrc) st.sending)
      w.packet;
  ssrc = sym st.ssrc;
  window = st.sealed;
  free = (free_outer o st.sound.outer (in_range kept o place st (is_place kept o place st answer))).free;
}

-- What a call made: the place that was answered, what is kept behind it, the inner session and its key, and the buffer as it was written,
-- as it was sealed up to `end`, and with the field behind it up to `last`.
pub record Made : Type 0 where
  pub place : SendPlace
  pub sending : Sending
  pub outer : Stream
  pub session : KeyAndSalt
  pub key : List ℕ
  pub number : ℕ
  pub ssrc : ℕ
  pub len : ℕ
  pub end : ℕ
  pub last : ℕ
  pub written : List ℕ
  pub sealed : List ℕ
  pub out : List ℕ

-- What was written, sealed and put behind it, from the place and the key that were answered.
pub record IsBuilt (kept : Kept) (c : Content) (m : Made) : Type 0 where
  pub answer : next_answer kept.sending ≡ Ok m.place
  pub counted : m.sending ≡ after_packet kept.sending
  pub key_is : option_map (λ (t : Taken). t.key) (newest m.sending.keys) ≡ Some m.key
  pub session_is : m.session ≡ inner_keys (secret_in kept.granted) m.key
  pub is_written : IsWritten kept c m.number m.ssrc m.len m.written
  pub sealed_is : (h : Header) (body before : List ℕ) (at : ℕ) → IsSealable h body (take m.len m.written) kept.outer before at
      → m.sealed ≡ double kept.media at h (inner m.session m.place.index h body) nothing_kept ++ drop (m.len + 33) m.written
  pub window : (h : Header) (body before : List ℕ) (at : ℕ) → IsSealable h body (take m.len m.written) kept.outer before at
      → WindowStandsFor m.outer.window (at ∷ before)
  pub outer_ssrc : m.outer.ssrc ≡ kept.outer.ssrc
  pub end_is : m.end ≡ m.len + 33
  pub room : m.len + 33 ≤ 1500
  pub all_written : length m.written ≡ 1500
  pub all_sealed : length m.sealed ≡ 1500
  pub put : take m.last m.out ≡ take m.end m.sealed ++ spelling (field_at m.place (secret_in kept.granted) m.key m.ssrc)

key_of : (kept : Kept) (o : Outgoing) (sending : Sending) (key : List ℕ) → StandsFor kept o → sending ≡ after_packet kept.sending
    → option_map (λ (t : Taken). t.key) (newest sending.keys) ≡ Some key → key ≡ (sending_key o).key
key_of kept o sending key st counted is =
    let keys : Some key ≡ option_map (λ (t : Taken). t.key) (newest o.sending.keys) =
    sym is ∙ ap (λ (s : Sending). option_map (λ (t : Taken). t.key) (newest s.keys)) (counted ∙ ap after_packet st.sending) in
    some_same key (sending_key o).key (keys ∙ ap (option_map (λ (t : Taken). t.key)) st.sound.key)

as_sent : (kept : Kept) (o : Outgoing) (c : Content) (place : SendPlace) (session : KeyAndSalt) (key : List ℕ) (ssrc : ℕ) → StandsFor kept o → IsPlace o place
    → key ≡ (sending_key o).key → session ≡ inner_keys (secret_in kept.granted) key → ssrc ≡ kept.sending.ssrc
    → double kept.media (outer_index o) (sent_header o c) (inner session place.index (sent_header o c) (rest_of c)) nothing_kept
    ++ spelling (field_at place (secret_in kept.granted) key ssrc)
    ≡ sent_datagram o c
unfolding sent_datagram
as_sent kept o c place session key ssrc st p key_same session_is ssrc_is =
    let h : Header = sent_header o c in
    let index : place.index ≡ o.sending.next = ap (λ (q : SendPlace). q.index) p.is in
    let keys : session ≡ inner_keys o.secret (sending_key o).key = session_is ∙ (λ i. inner_keys (st.secret i) (key_same i)) in
    let source : ssrc ≡ o.sending.ssrc = ssrc_is ∙ ap (λ (s : Sending). s.ssrc) st.sending in
    λ i. double (st.media i) (outer_index o) h (inner (keys i) (index i) h (rest_of c)) nothing_kept
    ++ spelling (field_at (p.is i) (st.secret i) (key_same i) (source i))

front : (whole written sealed : List ℕ) (end : ℕ) → sealed ≡ whole ++ drop end written → end ≤ 1500 → length written ≡ 1500
    → length sealed ≡ 1500 → take end sealed ≡ whole
front whole written sealed end is room w s =
    let size : length whole ≡ end = omega (arith, ap length is, length-append whole (drop end written), length-drop end written) in
    ap (take end) is ∙ take_at whole (drop end written) end size

pub built : (kept : Kept) (o : Outgoing) (c : Content) (m : Made) → StandsFor kept o → IsBuilt kept c m
    → IsSentAs o c (record { len = m.last; index = m.place.index; spi = m.place.spi; epoch = m.place.epoch })
    (record kept { sending = m.sending; outer = m.outer }) m.out
built kept o c m st b =
    let p = is_place kept o m.place st b.answer in
    let h : Header = sent_header o c in
    let key_same : m.key ≡ (sending_key o).key = key_of kept o m.sending m.key st b.counted b.key_is in
    let free : IsSealable h (rest_of c) (take m.len m.written) kept.outer o.sealed (outer_index o) =
    sealable kept o c m.place m.number m.ssrc m.len m.written st b.answer b.is_written in
    let whole : List ℕ = double kept.media (outer_index o) h (inner m.session m.place.index h (rest_of c)) nothing_kept in
    let sealed_as : m.sealed ≡ whole ++ drop (m.len + 33) m.written = b.sealed_is h (rest_of c) o.sealed (outer_index o) free in
    let whole_is : take m.end m.sealed ≡ whole =
    ap (λ (n : ℕ). take n m.sealed) b.end_is ∙ front whole m.written m.sealed (m.len + 33) sealed_as b.room b.all_written b.all_sealed in
    record {
      index = ap (λ (q : SendPlace). q.index) p.is;
      spi = ap (λ (q : SendPlace). q.spi) p.is;
      epoch = ap (λ (q : SendPlace). q.epoch) p.is;
      datagram =
          b.put
          ∙ ap (λ (xs : List ℕ). xs ++ spelling (field_at m.place (secret_in kept.granted) m.key m.ssrc)) whole_is
          ∙ as_sent kept o c m.place m.session m.key m.ssrc st p key_same b.session_is b.is_written.ssrc_is;
      kept_is =
          sent_stands kept o m.sending m.outer st (in_range kept o m.place st p) b.counted b.outer_ssrc (b.window h (rest_of c) o.sealed (outer_index o) free);
    }
