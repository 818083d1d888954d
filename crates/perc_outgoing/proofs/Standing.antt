-- What is kept after each call stands for what the endpoint is then.
use Rattle.std.proofs.Common.{◌≡◌, ℕ, ◌+◌, ◌%◌, ◌^◌, ◌<◌, ◌≤◌, ◌⊎◌, inl, inr, List, [], ◌∷◌, ◌++◌, length, take, Some, refl, sym, ap, subst, ◌∙◌, arith}
use Rattle.std.specs.Prelude.{Ok, Option, max}
use Rattle.std.specs.Option.{unwrap_or}
use Rattle.std.proofs.lemmas.List.{length-take-le}
use Rattle.perc_kdf.specs.Derivation.{KeyAndSalt, session_keys}
use Rattle.perc_kdf.specs.declared.Kind.TheVariants.{Srtp, Srtcp}
use Rattle.perc_window.specs.Index.{nearest}
use Rattle.perc_window.specs.Replay.{greatest, StandsFor as WindowStandsFor}
use Rattle.perc_srtp.specs.Ends.{Stream}
use Rattle.perc_srtp.specs.Streams.{tx_index}
use Rattle.perc_srtp.proofs.PacketLaws.{nearest_next, tx_first, tx_next}
use Rattle.perc_ekt.specs.Record.{IsRecord}
use Rattle.perc_ekt.specs.declared.record.EktKeyRecord.{EktKeyRecord}
use Rattle.perc_sender.specs.Schedule.{Sending, Taken, after_packet, newest, with_key}
use Rattle.perc_sender.specs.Schedule as sender
use Rattle.perc_sender.proofs.Keys.{newest_push}
use Rattle.perc_octets.specs.Octets.{AreOctets}
use Rattle.perc_receiver.specs.Table.{secret_in}
use Rattle.perc_outgoing.specs.Sending.{IsSending, Outgoing, RunsBeside, after_rtcp, after_send, after_take, outer_index, started}
use Rattle.perc_outgoing.specs.Kept.{Kept, StandsFor}

pub some_same : {A : Type 0} (x y : A) → Some x ≡ Some y → x ≡ y
some_same x y is = cc

-- ---- outer indices

abbrev next_outer : List ℕ → ℕ → ℕ
next_outer sealed next = unwrap_or (nearest (greatest sealed) (next % 65536)) 0

-- The next SEQ leads to a free index, and behind it the indices run beside each other.
pub record IsFree (sealed : List ℕ) (next : ℕ) : Type 0 where
  pub free : tx_index sealed (next % 65536) ≡ Ok (next_outer sealed next)
  pub then_beside : (high : ℕ) × RunsBeside (next_outer sealed next ∷ sealed) (next + 1) high
  pub top : greatest (next_outer sealed next ∷ sealed) ≡ Some (next_outer sealed next)
  pub above : (high : ℕ) → greatest sealed ≡ Some high → high < next_outer sealed next
  pub within : next_outer sealed next ≤ next

first_outer : (next : ℕ) → next_outer [] next ≡ next % 65536
unfolding nearest
first_outer next = refl

free_first : (next : ℕ) → IsFree [] next
free_first next = record {
  free = tx_first (next % 65536) ∙ ap Ok (sym (first_outer next));
  then_beside = rw (first_outer next) (next % 65536, record { highest = refl; beside = omega arith; behind = omega arith });
  top = rw (first_outer next) refl;
  above = λ high none. absurd (cc);
  within = rw (first_outer next) (omega arith);
}

later_outer : (sealed : List ℕ) (next high : ℕ) → RunsBeside sealed next high → next < 2 ^ 48 → next_outer sealed next ≡ high + 1
later_outer sealed next high r few =
    ap (λ (o : Option ℕ). unwrap_or (nearest o (next % 65536)) 0) r.highest
    ∙ ap (λ (seq : ℕ). unwrap_or (nearest (Some high) seq) 0) (sym r.beside)
    ∙ ap (λ (o : Option ℕ). unwrap_or o 0) (nearest_next high (omega (arith, r.behind)))

greatest_behind : (sealed : List ℕ) (high : ℕ) → greatest sealed ≡ Some high → greatest ((high + 1) ∷ sealed) ≡ Some (high + 1)
greatest_behind sealed high is = let above : max (high + 1) high ≡ high + 1 = omega arith in rw is (ap Some above)

free_later : (sealed : List ℕ) (next high : ℕ) → RunsBeside sealed next high → next < 2 ^ 48 → IsFree sealed next
free_later sealed next high r few =
    let is = later_outer sealed next high r few in record {
      free =
          ap (tx_index sealed) (sym r.beside) ∙ tx_next sealed high r.highest (omega (arith, r.behind)) ∙ ap Ok (sym is);
      then_beside =
          rw is (high + 1, record { highest = greatest_behind sealed high r.highest; beside = omega (arith, r.beside); behind = omega (arith, r.behind) });
      top = rw is (greatest_behind sealed high r.highest);
      above = λ h found. let same : high ≡ h = some_same high h (sym r.highest ∙ found) in rw is (omega arith);
      within = rw is (omega (arith, r.behind));
    }

pub free_outer : (o : Outgoing) → (o.sealed ≡ []) ⊎ ((high : ℕ) × RunsBeside o.sealed o.sending.next high) → o.sending.next < 2 ^ 48
    → IsFree o.sealed o.sending.next
free_outer o outer few =
    elim outer [
      | inl none ↦ rw none (free_first o.sending.next)
      | inr runs ↦ free_later o.sealed o.sending.next runs.0 runs.1 few
    ]

-- ---- calls

pub sent_stands : (kept : Kept) (o : Outgoing) (sending : Sending) (outer : Stream) → StandsFor kept o → o.sending.next < 2 ^ 48
    → sending ≡ after_packet kept.sending → outer.ssrc ≡ kept.outer.ssrc → WindowStandsFor outer.window (outer_index o ∷ o.sealed)
    → StandsFor (record kept { sending = sending; outer = outer }) (after_send o)
sent_stands kept o sending outer st few counted same window = record {
  media = st.media;
  control = st.control;
  secret = st.secret;
  sending = counted ∙ ap after_packet st.sending;
  ssrc = same ∙ st.ssrc;
  sealed = window;
  rtcp = st.rtcp;
  sound = record {
    ssrc = st.sound.ssrc;
    key = st.sound.key;
    spi = st.sound.spi;
    size = st.sound.size;
    octets = st.sound.octets;
    next = omega arith;
    outer = inr (free_outer o st.sound.outer few).then_beside;
    rtcp = st.sound.rtcp;
  };
}

-- The newest key of a list is the one that was pushed.
key_pushed : (keys : List Taken) (t d : Taken) → newest (keys ++ t ∷ []) ≡ Some (unwrap_or (newest (keys ++ t ∷ [])) d)
key_pushed keys t d = newest_push keys t ∙ ap Some (sym (ap (λ (o : Option Taken). unwrap_or o d) (newest_push keys t)))

pushed : (keys : List Taken) (t d : Taken) → unwrap_or (newest (keys ++ t ∷ [])) d ≡ t
pushed keys t d = ap (λ (o : Option Taken). unwrap_or o d) (newest_push keys t)

record_size : (granted : EktKeyRecord) → IsRecord granted → length (take granted.len granted.key) ≡ granted.len
record_size granted right =
    elim right.size [
      | inl short ↦ length-take-le granted.len granted.key (omega (arith, right.room))
      | inr long ↦ length-take-le granted.len granted.key (omega (arith, right.room))
    ]

pub sound_with_key : (o : Outgoing) (granted : EktKeyRecord) (key : List ℕ) → o.sending.ssrc < 2 ^ 32 → o.sending.next ≤ 2 ^ 48
    → (o.sealed ≡ []) ⊎ ((high : ℕ) × RunsBeside o.sealed o.sending.next high) → o.rtcp ≤ 2 ^ 31
    → IsRecord granted → length key ≡ granted.len → AreOctets key → IsSending (after_take o (secret_in granted) key)
sound_with_key o granted key ssrc next outer rtcp right size octets =
    let t : Taken = record { spi = granted.spi; key = key } in
    let d : Taken = record { spi = 0; key = [] } in
    let is = pushed o.sending.keys t d in record {
      ssrc = ssrc;
      key = key_pushed o.sending.keys t d;
      spi = ap (λ (k : Taken). k.spi) is;
      size = ap (λ (k : Taken). length k.key) is ∙ size ∙ sym (record_size granted right);
      octets = subst (λ (k : Taken). AreOctets k.key) (sym is) octets;
      next = next;
      outer = outer;
      rtcp = rtcp;
    }

pub taken_stands : (kept : Kept) (o : Outgoing) (granted : EktKeyRecord) (key : List ℕ) (sending : Sending) → StandsFor kept o
    → IsRecord granted → length key ≡ granted.len → AreOctets key → sending ≡ with_key kept.sending granted.spi key
    → StandsFor (record kept { granted = granted; sending = sending }) (after_take o (secret_in granted) key)
taken_stands kept o granted key sending st right size octets taken = record {
  media = st.media;
  control = st.control;
  secret = refl;
  sending = taken ∙ ap (λ (s : Sending). with_key s granted.spi key) st.sending;
  ssrc = st.ssrc;
  sealed = st.sealed;
  rtcp = st.rtcp;
  sound = sound_with_key o granted key st.sound.ssrc st.sound.next st.sound.outer st.sound.rtcp right size octets;
}

pub rtcp_stands : (kept : Kept) (o : Outgoing) (rtcp : ℕ) → StandsFor kept o → rtcp ≡ kept.rtcp + 1 → kept.rtcp < 2 ^ 31
    → StandsFor (record kept { rtcp = rtcp }) (after_rtcp o)
rtcp_stands kept o rtcp st counted few = record {
  media = st.media;
  control = st.control;
  secret = st.secret;
  sending = st.sending;
  ssrc = st.ssrc;
  sealed = st.sealed;
  rtcp = counted ∙ ap (λ (n : ℕ). n + 1) st.rtcp;
  sound = record {
    ssrc = st.sound.ssrc;
    key = st.sound.key;
    spi = st.sound.spi;
    size = st.sound.size;
    octets = st.sound.octets;
    next = st.sound.next;
    outer = st.sound.outer;
    rtcp = omega (arith, st.rtcp);
  };
}

-- ---- the start

pub record IsStart (kept : Kept) (client : KeyAndSalt) (ssrc first : ℕ) (granted : EktKeyRecord) (key : List ℕ) : Type 0 where
  pub media : kept.media ≡ session_keys client Srtp
  pub control : kept.control ≡ session_keys client Srtcp
  pub granted_is : kept.granted ≡ granted
  pub sending : kept.sending ≡ with_key (sender.started ssrc first) granted.spi key
  pub outer_ssrc : kept.outer.ssrc ≡ ssrc
  pub window : WindowStandsFor kept.outer.window []
  pub rtcp : kept.rtcp ≡ 0
  pub ssrc_fits : ssrc < 2 ^ 32
  pub first_fits : first < 2 ^ 48
  pub right : IsRecord granted
  pub size : length key ≡ granted.len
  pub octets : AreOctets key

pub start_stands : (kept : Kept) (client : KeyAndSalt) (ssrc first : ℕ) (granted : EktKeyRecord) (key : List ℕ)
    → IsStart kept client ssrc first granted key → StandsFor kept (started client ssrc first (secret_in granted) key)
start_stands kept client ssrc first granted key is =
    let none : Outgoing = record { client = client; secret = secret_in granted; sending = sender.started ssrc first; sealed = []; rtcp = 0 } in
    record {
      media = is.media;
      control = is.control;
      secret = ap secret_in is.granted_is;
      sending = is.sending;
      ssrc = is.outer_ssrc;
      sealed = is.window;
      rtcp = is.rtcp;
      sound = sound_with_key none granted key is.ssrc_fits (omega (arith, is.first_fits)) (inl refl) (omega arith) is.right is.size is.octets;
    }
