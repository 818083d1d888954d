-- A packet sealed for an entry, over what is kept of its serial.
use Rattle.std.proofs.Common.{◌≡◌, ℕ, ◌+◌, ◌^◌, Bool, true, false, cond, List, length, take, Result, Ok, Err, refl, sym, ap, subst, ◌∙◌}
use Rattle.std.specs.Prelude.{nat_lt, nat_le}
use Rattle.perc_ohb.specs.Rewriting.{Rewrite}
use Rattle.perc_kdf.specs.Derivation.{KeyAndSalt, session_keys}
use Rattle.perc_kdf.specs.declared.Kind.TheVariants.{Srtp, Srtcp}
use Rattle.perc_rtp.specs.Header.{Header}
use Rattle.perc_ohb.specs.declared.block.Ohb.{Ohb}
use Rattle.perc_ekt.specs.Field.{Field}
use Rattle.perc_srtp.specs.Ends.{Stream}
use Rattle.perc_srtp.specs.Sealed.{sealed_rtcp}
use Rattle.perc_keyset.specs.declared.Entry.{Entry}
use Rattle.perc_outer.specs.Streams.{with_index}
use Rattle.perc_outer.specs.Kept as outer
use Rattle.perc_distributor.specs.declared.fault.ForwardFault.{ForwardFault}
use Rattle.perc_distributor.specs.declared.fault.ForwardFault.TheVariants as fault
use Rattle.perc_distributor.specs.declared.plain.Plain.{Plain}
use Rattle.perc_distributor.specs.declared.outputs.Output.TheVariants as output
use Rattle.perc_distributor.specs.Inbound.{Packet, Media, Control}
use Rattle.perc_distributor.specs.Forwarding.{Sealing, Sent, Sealed, Dropped, media_index, sent_control, sent_media, sent_to}
use Rattle.perc_distributor.specs.Kept.{IsPlain, IsSealing, Kept}
use Rattle.perc_distributor.specs.Parts.{HasSent, IsForwarded, SealsControlFor, SealsMediaFor, control_place, media_datagram}
use Rattle.perc_distributor.proofs.StreamsLaws.{forwarded_more}

-- ---- under the entry's keys

pub media_for : (k new : Kept) (s : Sealing) (server keys : KeyAndSalt) (h : Header) (inner : List ℕ) (o : Ohb) (field : Field) (change : Rewrite) (result : Result ℕ ForwardFault) (out : List ℕ)
    → IsSealing k s → keys ≡ session_keys server Srtp → new.rtcp ≡ k.rtcp
    → IsForwarded (media_datagram keys h inner o field change) (λ at. outer.StandsFor new.streams (with_index h.ssrc at s.streams)) (media_index s.streams h inner o field change) result out
    → IsForwarded (media_datagram (session_keys server Srtp) h inner o field change) (λ at. IsSealing new (record s { streams = with_index h.ssrc at s.streams }))
    (media_index s.streams h inner o field change) result out
media_for k new s server keys h inner o field change result out stands keys_are still told =
    let place : Result ℕ ForwardFault = media_index s.streams h inner o field change in
    let K : ℕ → Type 0 = λ at. outer.StandsFor new.streams (with_index h.ssrc at s.streams) in
    forwarded_more place (media_datagram (session_keys server Srtp) h inner o field change) K (λ at. IsSealing new (record s { streams = with_index h.ssrc at s.streams })) result out
    (subst (λ (q : KeyAndSalt). IsForwarded (media_datagram q h inner o field change) K place result out) keys_are told)
    (λ at streams. record { streams = streams; rtcp = still ∙ stands.rtcp })

pub control_for : (k new : Kept) (s : Sealing) (server keys : KeyAndSalt) (next : ℕ) (octets : List ℕ) (result : Result ℕ ForwardFault) (out : List ℕ)
    → IsSealing k s → keys ≡ session_keys server Srtcp → next ≡ k.rtcp → new.streams ≡ k.streams
    → IsForwarded (λ at. sealed_rtcp keys at octets) (λ at. new.rtcp ≡ next + 1) (control_place next octets) result out
    → IsForwarded (λ at. sealed_rtcp (session_keys server Srtcp) at octets) (λ at. IsSealing new (record s { rtcp = s.rtcp + 1 })) (control_place s.rtcp octets) result out
control_for k new s server keys next octets result out stands keys_are next_is still told =
    let same : next ≡ s.rtcp = next_is ∙ stands.rtcp in
    let K : ℕ → Type 0 = λ at. new.rtcp ≡ next + 1 in
    let J : ℕ → Type 0 = λ at. IsSealing new (record s { rtcp = s.rtcp + 1 }) in
    let datagram : ℕ → List ℕ = λ at. sealed_rtcp (session_keys server Srtcp) at octets in
    subst (λ (n : ℕ). IsForwarded datagram J (control_place n octets) result out) same
    (forwarded_more (control_place next octets) datagram K J result out
    (subst (λ (q : KeyAndSalt). IsForwarded (λ at. sealed_rtcp q at octets) K (control_place next octets) result out) keys_are told)
    (λ at one. record {
      streams = subst (λ (x : List Stream). outer.StandsFor x s.streams) (sym still) stands.streams;
      rtcp = one ∙ ap (λ (n : ℕ). n + 1) same;
    }))

-- ---- as an output

abbrev pub sent_by : Sealing → Entry → ℕ → List ℕ → Result ℕ ForwardFault → Sent × Sealing
sent_by s e place octets (Err f) = (Dropped place e.association f, s)
sent_by s e place octets (Ok at) = (Sealed place e.association (sealed_rtcp (session_keys e.server Srtcp) at octets), record s { rtcp = s.rtcp + 1 })

by_tests : (room spent : Bool) (s : Sealing) (e : Entry) (place : ℕ) (octets : List ℕ)
    → cond room (Dropped place e.association fault.Room, s) (cond spent (Dropped place e.association fault.RtcpSpent, s) (sent_by s e place octets (Ok s.rtcp)))
    ≡ sent_by s e place octets (cond room (Err fault.Room) (cond spent (Err fault.RtcpSpent) (Ok s.rtcp)))
by_tests true spent s e place octets = refl
by_tests false true s e place octets = refl
by_tests false false s e place octets = refl

pub control_by : (s : Sealing) (e : Entry) (place : ℕ) (octets : List ℕ) → sent_control s e place octets ≡ sent_by s e place octets (control_place s.rtcp octets)
control_by s e place octets = by_tests (nat_lt 1500 (length octets + 20)) (nat_le (2 ^ 31) s.rtcp) s e place octets

-- What was sealed is sent on,
media_sent : (s : Sealing) (e : Entry) (place : ℕ) (change : Rewrite) (h : Header) (inner : List ℕ) (o : Ohb) (field : Field) (at : Result ℕ ForwardFault) (result : Result ℕ ForwardFault) (octets : List ℕ)
    (len : ℕ) (new : Kept) → IsForwarded (media_datagram (session_keys e.server Srtp) h inner o field change) (λ at. IsSealing new (record s { streams = with_index h.ssrc at s.streams })) at result octets
    → result ≡ Ok len → HasSent (sent_media s e place change h inner o field at) (output.Sealed place e.association octets len) new
media_sent s e place change h inner o field (Err f) result octets len new told is = absurd (cc)
media_sent s e place change h inner o field (Ok at) result octets len new told is =
    let answered = told.1 in
    let same : len ≡ told.0 = cc in
    record { output = ap (λ (xs : List ℕ). Sealed place e.association xs) (ap (λ (n : ℕ). take n octets) same ∙ told.2); keeps = told.3 }

control_sent : (s : Sealing) (e : Entry) (place : ℕ) (plain : List ℕ) (at : Result ℕ ForwardFault) (result : Result ℕ ForwardFault) (octets : List ℕ) (len : ℕ) (new : Kept)
    → IsForwarded (λ at. sealed_rtcp (session_keys e.server Srtcp) at plain) (λ at. IsSealing new (record s { rtcp = s.rtcp + 1 })) at result octets
    → result ≡ Ok len → HasSent (sent_by s e place plain at) (output.Sealed place e.association octets len) new
control_sent s e place plain (Err f) result octets len new told is = absurd (cc)
control_sent s e place plain (Ok at) result octets len new told is =
    let answered = told.1 in
    let same : len ≡ told.0 = cc in
    record { output = ap (λ (xs : List ℕ). Sealed place e.association xs) (ap (λ (n : ℕ). take n octets) same ∙ told.2); keeps = told.3 }

pub sent_ok : (k new : Kept) (s : Sealing) (e : Entry) (place : ℕ) (p : Plain) (change : Rewrite) (packet : Packet) (result : Result ℕ ForwardFault) (octets : List ℕ) (len : ℕ)
    → SealsMediaFor k e.server p change result octets new → SealsControlFor k e.server p result octets new → IsSealing k s → IsPlain p packet → result ≡ Ok len
    → HasSent (sent_to s e place change packet) (output.Sealed place e.association octets len) new
sent_ok k new s e place p change (Media from h inner o field) result octets len media control stands is ok =
    media_sent s e place change h inner o field (media_index s.streams h inner o field change) result octets len new (media s from h inner o field stands is) ok
sent_ok k new s e place p change (Control from plain) result octets len media control stands is ok =
    subst (λ (step : Sent × Sealing). HasSent step (output.Sealed place e.association octets len) new) (sym (control_by s e place plain))
    (control_sent s e place plain (control_place s.rtcp plain) result octets len new (control s from plain stands is) ok)

-- and what was refused is dropped.
media_dropped : (s : Sealing) (e : Entry) (place : ℕ) (change : Rewrite) (h : Header) (inner : List ℕ) (o : Ohb) (field : Field) (at : Result ℕ ForwardFault) (result : Result ℕ ForwardFault) (octets : List ℕ)
    (f : ForwardFault) (new : Kept) → IsForwarded (media_datagram (session_keys e.server Srtp) h inner o field change) (λ at. IsSealing new (record s { streams = with_index h.ssrc at s.streams })) at result octets
    → result ≡ Err f → IsSealing new s → HasSent (sent_media s e place change h inner o field at) (output.Dropped place e.association f) new
media_dropped s e place change h inner o field (Ok at) result octets f new told is stands = let answered = told.1 in absurd (cc)
media_dropped s e place change h inner o field (Err g) result octets f new told is stands =
    let same : f ≡ g = cc in
    record { output = ap (λ (x : ForwardFault). Dropped place e.association x) same; keeps = stands }

control_dropped : (s : Sealing) (e : Entry) (place : ℕ) (plain : List ℕ) (at : Result ℕ ForwardFault) (result : Result ℕ ForwardFault) (octets : List ℕ) (f : ForwardFault) (new : Kept)
    → IsForwarded (λ at. sealed_rtcp (session_keys e.server Srtcp) at plain) (λ at. IsSealing new (record s { rtcp = s.rtcp + 1 })) at result octets
    → result ≡ Err f → IsSealing new s → HasSent (sent_by s e place plain at) (output.Dropped place e.association f) new
control_dropped s e place plain (Ok at) result octets f new told is stands = let answered = told.1 in absurd (cc)
control_dropped s e place plain (Err g) result octets f new told is stands =
    let same : f ≡ g = cc in
    record { output = ap (λ (x : ForwardFault). Dropped place e.association x) same; keeps = stands }

pub sent_err : (k new : Kept) (s : Sealing) (e : Entry) (place : ℕ) (p : Plain) (change : Rewrite) (packet : Packet) (result : Result ℕ ForwardFault) (octets : List ℕ) (f : ForwardFault)
    → SealsMediaFor k e.server p change result octets new → SealsControlFor k e.server p result octets new → IsSealing k s → IsPlain p packet → result ≡ Err f → new ≡ k
    → HasSent (sent_to s e place change packet) (output.Dropped place e.association f) new
sent_err k new s e place p change (Media from h inner o field) result octets f media control stands is refused same =
    media_dropped s e place change h inner o field (media_index s.streams h inner o field change) result octets f new (media s from h inner o field stands is) refused
    (subst (λ (x : Kept). IsSealing x s) (sym same) stands)
sent_err k new s e place p change (Control from plain) result octets f media control stands is refused same =
    subst (λ (step : Sent × Sealing). HasSent step (output.Dropped place e.association f) new) (sym (control_by s e place plain))
    (control_dropped s e place plain (control_place s.rtcp plain) result octets f new (control s from plain stands is) refused (subst (λ (x : Kept). IsSealing x s) (sym same) stands))
