-- Which IVs were taken before, and that the next are others.
use Rattle.std.proofs.Common.{◌≡◌, ℕ, ◌+◌, ◌^◌, ◌<◌, ◌≤◌, ◌⊎◌, inr, List, [], ◌∷◌, ◌++◌, length, drop, Option, Some, None, refl, sym, ap, subst, ◌∙◌, arith}
use Rattle.std.specs.Prelude.{All, AllPairs, Result, Ok, Err}
use Rattle.std.proofs.lemmas.List.{length-drop, get_or-drop}
use Rattle.std.proofs.lemmas.List.Elements.{All-cons, All-nil, All-weaker}
use Rattle.std.proofs.lemmas.List.Kept.{AllPairs-cons}
use Rattle.perc_kdf.specs.Derivation.{KeyAndSalt, session_keys}
use Rattle.perc_kdf.specs.declared.Kind.{Kind}
use Rattle.perc_kdf.specs.declared.Kind.TheVariants.{Srtp, Srtcp}
use Rattle.perc_window.specs.Replay.{greatest}
use Rattle.perc_rtp.specs.Media.{Content}
use Rattle.perc_srtp.specs.Sealed.{iv, rtcp_iv, rtcp_ssrc}
use Rattle.perc_srtp.proofs.PacketLaws.{iv_injective, rtcp_iv_injective}
use Rattle.perc_ekt.proofs.Octets.{four_spelled}
use Rattle.perc_sender.specs.Schedule.{take_answer}
use Rattle.perc_sender.specs.declared.TakeFault.{TakeFault}
use Rattle.perc_octets.specs.Octets.{AreOctets}
use Rattle.perc_receiver.specs.Table.{Secret}
use Rattle.perc_outgoing.specs.declared.fault.SendFault.{SendFault}
use Rattle.perc_outgoing.specs.declared.fault.RtcpSendFault.{RtcpSendFault}
use Rattle.perc_outgoing.specs.Sending.{IsSending, Outgoing, RunsBeside, after_rtcp, after_send, after_take, outer_index, rtcp_send_fault, send_fault}
use Rattle.perc_outgoing.specs.History.{AreOtherSeals, Call, AreCalls, EndToEnd, Grant, HopByHop, IsCall, Layer, Rekey, Seal, Send, SendRtcp, after_call, by_rtcp, by_send, by_take, inner_seal, outer_seal, rtcp_seal, seals}
use Rattle.perc_outgoing.proofs.Standing.{IsFree, free_outer}
use Rattle.perc_outgoing.proofs.Reports.{rtcp_sendable}
use Rattle.perc_outgoing.proofs.Rows.{sendable}

-- ---- what was taken

-- what stays so of an endpoint, whatever keys it takes
pub record Runs (o : Outgoing) : Type 0 where
  pub ssrc : o.sending.ssrc < 2 ^ 32
  pub next : o.sending.next ≤ 2 ^ 48
  pub outer : (o.sealed ≡ []) ⊎ ((high : ℕ) × RunsBeside o.sealed o.sending.next high)
  pub rtcp : o.rtcp ≤ 2 ^ 31

-- The IV is that of an inner index before the next.
pub record PastInner (o : Outgoing) (s : Seal) : Type 0 where
  pub index : ℕ
  pub below : index < o.sending.next
  pub taken : s.iv_is ≡ iv (session_keys s.master Srtp).salt o.sending.ssrc index

-- It is that of an outer index that isn't above the greatest.
pub record PastOuter (o : Outgoing) (s : Seal) : Type 0 where
  pub index : ℕ
  pub high : ℕ
  pub highest : greatest o.sealed ≡ Some high
  pub below : index ≤ high
  pub fits : index < 2 ^ 48
  pub taken : s.iv_is ≡ iv (session_keys s.master Srtp).salt o.sending.ssrc index

-- It is that of an RTCP index before the next.
pub record PastRtcp (o : Outgoing) (s : Seal) : Type 0 where
  pub index : ℕ
  pub ssrc : ℕ
  pub below : index < o.rtcp
  pub fits : ssrc < 2 ^ 32
  pub taken : s.iv_is ≡ rtcp_iv (session_keys s.master Srtcp).salt ssrc index

abbrev IsPastOf : Outgoing → Seal → Layer → Kind → Type 0
IsPastOf o s EndToEnd Srtp = PastInner o s
IsPastOf o s EndToEnd Srtcp = Unit {0}
IsPastOf o s HopByHop Srtp = PastOuter o s
IsPastOf o s HopByHop Srtcp = PastRtcp o s

-- It was taken, and isn't taken again.
pub record IsPast (o : Outgoing) (s : Seal) : Type 0 where
  pub past : IsPastOf o s s.layer s.kind

-- ---- the next are others

other_iv : (a b : KeyAndSalt) (x y : List ℕ) (ssrc i j : ℕ) → a ≡ b → ssrc < 2 ^ 32 → i < 2 ^ 48 → j < 2 ^ 48 → x ≡ y
    → x ≡ iv (session_keys a Srtp).salt ssrc i → y ≡ iv (session_keys b Srtp).salt ssrc j → i ≡ j
other_iv a b x y ssrc i j same fits fits_i fits_j ivs is_x is_y =
    let one : iv (session_keys a Srtp).salt ssrc i ≡ iv (session_keys a Srtp).salt ssrc j =
    sym is_x ∙ ivs ∙ is_y ∙ ap (λ (m : KeyAndSalt). iv (session_keys m Srtp).salt ssrc j) (sym same) in
    (iv_injective (session_keys a Srtp).salt ssrc ssrc i j fits fits fits_i fits_j one).1

inner_other : (o : Outgoing) (s : Seal) (layer : Layer) (kind : Kind) → s.layer ≡ layer → s.kind ≡ kind → Runs o → o.sending.next < 2 ^ 48 → IsPastOf o s layer kind
    → AreOtherSeals (inner_seal o) s
inner_other o s EndToEnd Srtp l k r few past = λ layers masters kinds ivs.
    let below = past.below in
    let same = other_iv (inner_seal o).master s.master (inner_seal o).iv_is s.iv_is o.sending.ssrc o.sending.next past.index masters r.ssrc few (omega arith) ivs refl past.taken in
    omega arith
inner_other o s EndToEnd Srtcp l k r few past = λ layers masters kinds ivs. let bad : Srtp ≡ Srtcp = kinds ∙ k in cc
inner_other o s HopByHop kind l k r few past = λ layers masters kinds ivs. let bad : EndToEnd ≡ HopByHop = layers ∙ l in cc

outer_other : (o : Outgoing) (s : Seal) (layer : Layer) (kind : Kind) → s.layer ≡ layer → s.kind ≡ kind → Runs o → o.sending.next < 2 ^ 48 → IsFree o.sealed o.sending.next → IsPastOf o s layer kind
    → AreOtherSeals (outer_seal o) s
outer_other o s EndToEnd kind l k r few f past = λ layers masters kinds ivs. let bad : HopByHop ≡ EndToEnd = layers ∙ l in cc
outer_other o s HopByHop Srtp l k r few f past = λ layers masters kinds ivs.
    let below = past.below in
    let above = f.above past.high past.highest in
    let within = f.within in
    let same = other_iv o.client s.master (outer_seal o).iv_is s.iv_is o.sending.ssrc (outer_index o) past.index masters r.ssrc (omega arith) past.fits ivs refl past.taken in
    omega arith
outer_other o s HopByHop Srtcp l k r few f past = λ layers masters kinds ivs. let bad : Srtp ≡ Srtcp = kinds ∙ k in cc

other_rtcp : (a b : KeyAndSalt) (x y : List ℕ) (ssrc other i j : ℕ) → a ≡ b → ssrc < 2 ^ 32 → other < 2 ^ 32 → i < 2 ^ 31 → j < 2 ^ 31 → x ≡ y
    → x ≡ rtcp_iv (session_keys a Srtcp).salt ssrc i → y ≡ rtcp_iv (session_keys b Srtcp).salt other j → i ≡ j
other_rtcp a b x y ssrc other i j same fits fits_other fits_i fits_j ivs is_x is_y =
    let one : rtcp_iv (session_keys a Srtcp).salt ssrc i ≡ rtcp_iv (session_keys a Srtcp).salt other j =
    sym is_x ∙ ivs ∙ is_y ∙ ap (λ (m : KeyAndSalt). rtcp_iv (session_keys m Srtcp).salt other j) (sym same) in
    (rtcp_iv_injective (session_keys a Srtcp).salt ssrc other i j fits fits_other fits_i fits_j one).1

rtcp_other : (o : Outgoing) (plain : List ℕ) (s : Seal) (layer : Layer) (kind : Kind) → s.layer ≡ layer → s.kind ≡ kind → rtcp_ssrc plain < 2 ^ 32 → o.rtcp < 2 ^ 31 → IsPastOf o s layer kind
    → AreOtherSeals (rtcp_seal o plain) s
rtcp_other o plain s EndToEnd kind l k fits few past = λ layers masters kinds ivs. let bad : HopByHop ≡ EndToEnd = layers ∙ l in cc
rtcp_other o plain s HopByHop Srtp l k fits few past = λ layers masters kinds ivs. let bad : Srtcp ≡ Srtp = kinds ∙ k in cc
rtcp_other o plain s HopByHop Srtcp l k fits few past = λ layers masters kinds ivs.
    let below = past.below in
    let same = other_rtcp o.client s.master (rtcp_seal o plain).iv_is s.iv_is (rtcp_ssrc plain) past.ssrc o.rtcp past.index masters fits past.fits few (omega arith) ivs refl past.taken in
    omega arith

-- ---- what was taken stays so

-- The next endpoint is past all that the one before is.
pub record GoesOn (o n : Outgoing) : Type 0 where
  pub ssrc : n.sending.ssrc ≡ o.sending.ssrc
  pub next : o.sending.next ≤ n.sending.next
  pub outer : (high : ℕ) → greatest o.sealed ≡ Some high → (top : ℕ) × (greatest n.sealed ≡ Some top) × (high ≤ top)
  pub rtcp : o.rtcp ≤ n.rtcp

still : (o n : Outgoing) (s : Seal) (layer : Layer) (kind : Kind) → GoesOn o n → IsPastOf o s layer kind → IsPastOf n s layer kind
still o n s EndToEnd Srtp g past =
    let below = past.below in
    let next = g.next in
    record { index = past.index; below = omega arith; taken = past.taken ∙ ap (λ (x : ℕ). iv (session_keys s.master Srtp).salt x past.index) (sym g.ssrc) }
still o n s EndToEnd Srtcp g past = tt
still o n s HopByHop Srtp g past =
    let below = past.below in
    let on = g.outer past.high past.highest in
    let above = on.2 in
    record {
      index = past.index;
      high = on.0;
      highest = on.1;
      below = omega arith;
      fits = past.fits;
      taken = past.taken ∙ ap (λ (x : ℕ). iv (session_keys s.master Srtp).salt x past.index) (sym g.ssrc);
    }
still o n s HopByHop Srtcp g past =
    let below = past.below in
    let rtcp = g.rtcp in
    record { index = past.index; ssrc = past.ssrc; below = omega arith; fits = past.fits; taken = past.taken }

still_all : (o n : Outgoing) (before : List Seal) → GoesOn o n → All (IsPast o) before → All (IsPast n) before
still_all o n before g all = All-weaker (IsPast o) (IsPast n) (λ s p. record { past = still o n s s.layer s.kind g p.past }) before all

-- ---- each call

-- What was sealed was taken, and no two of them are one.
pub record Sound (o : Outgoing) (before : List Seal) : Type 0 where
  pub runs : Runs o
  pub past : All (IsPast o) before
  pub apart : AllPairs AreOtherSeals before

send_goes_on : (o : Outgoing) → IsFree o.sealed o.sending.next → GoesOn o (after_send o)
send_goes_on o f = record {
  ssrc = refl;
  next = omega arith;
  outer = λ high is. (outer_index o, f.top, let above = f.above high is in omega arith);
  rtcp = omega arith;
}

sent_past : (o : Outgoing) (before : List Seal) → o.sending.next < 2 ^ 48 → IsFree o.sealed o.sending.next → All (IsPast (after_send o)) before
    → All (IsPast (after_send o)) (inner_seal o ∷ outer_seal o ∷ before)
sent_past o before few f all =
    let within = f.within in
    let inner : IsPast (after_send o) (inner_seal o) = record { past = record { index = o.sending.next; below = omega arith; taken = refl } } in
    let outer : IsPast (after_send o) (outer_seal o) = record {
      past = record {
        index = outer_index o;
        high = outer_index o;
        highest = f.top;
        below = omega arith;
        fits = omega arith;
        taken = refl;
      };
    } in
    All-cons (IsPast (after_send o)) (inner_seal o) (outer_seal o ∷ before) inner (All-cons (IsPast (after_send o)) (outer_seal o) before outer all)

two_layers : (o : Outgoing) → AreOtherSeals (inner_seal o) (outer_seal o)
two_layers o = λ layers masters kinds ivs. let bad : EndToEnd ≡ HopByHop = layers in cc

sent_apart : (o : Outgoing) (before : List Seal) → Sound o before → o.sending.next < 2 ^ 48 → IsFree o.sealed o.sending.next
    → AllPairs AreOtherSeals (inner_seal o ∷ outer_seal o ∷ before)
sent_apart o before sound few f =
    let inner : All (AreOtherSeals (inner_seal o)) before =
    All-weaker (IsPast o) (AreOtherSeals (inner_seal o)) (λ s p. inner_other o s s.layer s.kind refl refl sound.runs few p.past) before sound.past in
    let outer : All (AreOtherSeals (outer_seal o)) before =
    All-weaker (IsPast o) (AreOtherSeals (outer_seal o)) (λ s p. outer_other o s s.layer s.kind refl refl sound.runs few f p.past) before sound.past in
    AllPairs-cons AreOtherSeals (inner_seal o) (outer_seal o ∷ before)
    (All-cons (AreOtherSeals (inner_seal o)) (outer_seal o) before (two_layers o) inner)
    (AllPairs-cons AreOtherSeals (outer_seal o) before outer sound.apart)

send_sound : (o : Outgoing) (before : List Seal) (c : Content) (fault : Option SendFault) → send_fault o c ≡ fault → Sound o before
    → Sound (by_send o fault).0 ((by_send o fault).1 ++ before)
send_sound o before c (Some fault) is sound = sound
send_sound o before c None is sound =
    let left = (sendable o c is).left in
    let most = sound.runs.next in
    let few : o.sending.next < 2 ^ 48 = omega arith in
    let f = free_outer o sound.runs.outer few in
    record {
      runs = record { ssrc = sound.runs.ssrc; next = omega arith; outer = inr f.then_beside; rtcp = sound.runs.rtcp };
      past = sent_past o before few f (still_all o (after_send o) before (send_goes_on o f) sound.past);
      apart = sent_apart o before sound few f;
    }

ssrc_fits : (plain : List ℕ) → AreOctets plain → 8 ≤ length plain → rtcp_ssrc plain < 2 ^ 32
ssrc_fits plain octets long =
    (four_spelled (drop 4 plain) (omega (arith, length-drop 4 plain)) (λ k. subst (λ (n : ℕ). n < 256) (sym (get_or-drop 4 plain k 0)) (octets (4 + k)))).1

rtcp_goes_on : (o : Outgoing) → GoesOn o (after_rtcp o)
rtcp_goes_on o = record { ssrc = refl; next = omega arith; outer = λ high is. (high, is, omega arith); rtcp = omega arith }

rtcp_sound : (o : Outgoing) (before : List Seal) (plain : List ℕ) (fault : Option RtcpSendFault) → AreOctets plain → rtcp_send_fault o plain ≡ fault → Sound o before
    → Sound (by_rtcp o plain fault).0 ((by_rtcp o plain fault).1 ++ before)
rtcp_sound o before plain (Some fault) octets is sound = sound
rtcp_sound o before plain None octets is sound =
    let s = rtcp_sendable o plain is in
    let left = s.left in
    let most = sound.runs.rtcp in
    let few : o.rtcp < 2 ^ 31 = omega arith in
    let fits = ssrc_fits plain octets s.long in
    let its : IsPast (after_rtcp o) (rtcp_seal o plain) =
    record { past = record { index = o.rtcp; ssrc = rtcp_ssrc plain; below = omega arith; fits = fits; taken = refl } } in
    record {
      runs = record { ssrc = sound.runs.ssrc; next = sound.runs.next; outer = sound.runs.outer; rtcp = omega arith };
      past = All-cons (IsPast (after_rtcp o)) (rtcp_seal o plain) before its (still_all o (after_rtcp o) before (rtcp_goes_on o) sound.past);
      apart = AllPairs-cons AreOtherSeals (rtcp_seal o plain) before
          (All-weaker (IsPast o) (AreOtherSeals (rtcp_seal o plain)) (λ p q. rtcp_other o plain p p.layer p.kind refl refl fits few q.past) before sound.past)
          sound.apart;
    }

take_goes_on : (o : Outgoing) (s : Secret) (key : List ℕ) → GoesOn o (after_take o s key)
take_goes_on o s key = record { ssrc = refl; next = omega arith; outer = λ high is. (high, is, omega arith); rtcp = omega arith }

take_sound : (o : Outgoing) (before : List Seal) (s : Secret) (key : List ℕ) (answer : Result ℕ TakeFault) → Sound o before → Sound (by_take o s key answer) before
take_sound o before s key (Err fault) sound = sound
take_sound o before s key (Ok epoch) sound = record {
  runs = record { ssrc = sound.runs.ssrc; next = sound.runs.next; outer = sound.runs.outer; rtcp = sound.runs.rtcp };
  past = still_all o (after_take o s key) before (take_goes_on o s key) sound.past;
  apart = sound.apart;
}

-- Each call keeps it.
pub call_sound : (o : Outgoing) (before : List Seal) (call : Call) → IsCall call → Sound o before → Sound (after_call o call).0 ((after_call o call).1 ++ before)
call_sound o before (Send c) is sound = send_sound o before c (send_fault o c) refl sound
call_sound o before (SendRtcp plain) is sound = rtcp_sound o before plain (rtcp_send_fault o plain) is refl sound
call_sound o before (Rekey key) is sound = take_sound o before o.secret key (take_answer o.sending o.secret.spi key) sound
call_sound o before (Grant s key) is sound = take_sound o before s key (take_answer o.sending s.spi key) sound

apart_by : (o : Outgoing) (calls : List Call) (before : List Seal) → AreCalls calls → Sound o before → AllPairs AreOtherSeals (seals o calls before)
apart_by o [] before are sound = sound.apart
apart_by o (call ∷ calls) before are sound =
    apart_by (after_call o call).0 calls ((after_call o call).1 ++ before) are.1 (call_sound o before call are.0 sound)

-- It is so where nothing was sealed yet.
pub start_sound : (o : Outgoing) → IsSending o → Sound o []
start_sound o is = record {
  runs = record { ssrc = is.ssrc; next = is.next; outer = is.outer; rtcp = is.rtcp };
  past = All-nil (IsPast o);
  apart = λ i j d below within. absurd (omega arith);
}

pub seals_apart : (o : Outgoing) (calls : List Call) → IsSending o → AreCalls calls → AllPairs AreOtherSeals (seals o calls [])
seals_apart o calls is are = apart_by o calls [] are (start_sound o is)
