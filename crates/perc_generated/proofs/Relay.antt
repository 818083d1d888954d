-- A forward of one media packet that opens and goes to two members.
use Rattle.std.proofs.Common.{◌≡◌, ℕ, ◌+◌, ◌*◌, ◌<◌, ◌≤◌, Bool, true, false, cond, not, List, [], ◌∷◌, ◌++◌, length, Option, Some, None, Result, Ok, Err, refl, sym, ap, subst, ◌∙◌, arith}
use Rattle.std.specs.Prelude.{◌&&◌, filter, nat_lt}
use Rattle.std.specs.List.{cons_option, filter_map, list_all}
use Rattle.std.specs.Option.{is_some, option_map}
use Rattle.std.proofs.lemmas.Bool.{le-ltb}
use Rattle.std.proofs.lemmas.List.{length_push}
use Rattle.byteorder.specs.Endian.{big_bytes}
use Rattle.perc_kdf.specs.Derivation.{session_keys}
use Rattle.perc_kdf.specs.declared.Kind.TheVariants.{Srtp}
use Rattle.perc_rtp.specs.Header.{Header}
use Rattle.perc_ohb.specs.Rewriting.{Rewrite, block_after}
use Rattle.perc_ohb.specs.declared.block.Ohb.{Ohb}
use Rattle.perc_ekt.specs.Field.{Field, spelling}
use Rattle.perc_double.specs.Double.{double, relayed}
use Rattle.perc_keyset.specs.declared.Entry.{Entry}
use Rattle.perc_outer.specs.Streams.{with_index}
use Rattle.perc_distributor.specs.Inbound.{Heard, Media, Packet, in_set, taken}
use Rattle.perc_distributor.specs.Forwarding.{Sealed, Sealing, Sent, media_index, media_step, sealing_of, sent_each, sent_media, sent_to, with_sealing}
use Rattle.perc_distributor.specs.declared.fault.InboundFault.{InboundFault}
use Rattle.perc_script_line.specs.Script.{Changes, Forward}
use Rattle.perc_script_line.specs.declared.reason.Reason.TheVariants as reason
use Rattle.perc_run.specs.State.{Datagram, Goes, Member, Refused, State, Turn, datagram_at, most_datagrams}
use Rattle.perc_run.specs.Forwarding.{Taking, forward_by, forward_turn, forwarded, numbered, packet_in, reported_takings, rewrite_by, takings}
use Rattle.perc_run.specs.Delivering.{by_cipher}
use Rattle.perc_run.specs.Turn.{turn}
use Rattle.perc_generated.proofs.Opened.{Parts, entries, entry, state_of}
use Rattle.perc_generated.proofs.Passing.{Behind}
use Rattle.perc_generated.proofs.Between.{Ann, Bob, Cat, Has, View, Who, member_of, name_of, view_of}

-- where a member's entry stands, and those of the two others
abbrev pub first_of : Who → Entry
first_of Ann = entry 2 1 176
first_of Bob = entry 1 0 160
first_of Cat = entry 1 0 160

abbrev pub second_of : Who → Entry
second_of Ann = entry 3 2 192
second_of Bob = entry 3 2 192
second_of Cat = entry 2 1 176

-- ---- two outputs

-- what is kept once a packet was sealed for an entry at an index
abbrev pub sealed_for : List Sealing → Entry → ℕ → ℕ → List Sealing
sealed_for sealing e ssrc index =
    with_sealing (record (sealing_of sealing e.serial) { streams = with_index ssrc index (sealing_of sealing e.serial).streams }) sealing

abbrev pub output_for : Entry → ℕ → Rewrite → Header → List ℕ → Ohb → Field → Sent
output_for e index change h inner block field =
    Sealed 0 e.association (double (session_keys e.server Srtp) index (relayed h change) inner (block_after h block change) ++ spelling field)

-- Both outputs have their index.
pub record HasPlaces (sealing : List Sealing) (a b : Entry) (h : Header) (inner : List ℕ) (block : Ohb) (field : Field) (change : Rewrite) (i j : ℕ) : Type 0 where
  pub first : media_index (sealing_of sealing a.serial).streams h inner block field change ≡ Ok i
  pub second : media_index (sealing_of (sealed_for sealing a h.ssrc i) b.serial).streams h inner block field change ≡ Ok j

two_sent : (sealing : List Sealing) (a b : Entry) (from : List ℕ) (h : Header) (inner : List ℕ) (block : Ohb) (field : Field) (change : Rewrite) (i j : ℕ)
    → HasPlaces sealing a b h inner block field change i j
    → sent_each (a ∷ b ∷ []) 0 change (Media from h inner block field) sealing
    ≡ (output_for a i change h inner block field ∷ output_for b j change h inner block field ∷ [], sealed_for (sealed_for sealing a h.ssrc i) b h.ssrc j)
two_sent sealing a b from h inner block field change i j places =
    let packet : Packet = Media from h inner block field in
    let one = ap (sent_media (sealing_of sealing a.serial) a 0 change h inner block field) places.first in
    let next : List Sealing = sealed_for sealing a h.ssrc i in
    let two = ap (sent_media (sealing_of next b.serial) b 0 change h inner block field) places.second in
    ap (λ (x : Sent × Sealing). (x.0 ∷ (sent_each (b ∷ []) 0 change packet (with_sealing x.1 sealing)).0, (sent_each (b ∷ []) 0 change packet (with_sealing x.1 sealing)).1)) one
    ∙ ap (λ (x : Sent × Sealing). (output_for a i change h inner block field ∷ x.0 ∷ [], with_sealing x.1 next)) two

abbrev pub in_entries : List Sealing → List Sealing
in_entries sealing = filter (λ (x : Sealing). in_set entries x.serial) sealing

pub step_two : (who : Who) (p : Parts) (h : Header) (inner : List ℕ) (block : Ohb) (field : Field) (change : Rewrite) (i j : ℕ)
    → HasPlaces (in_entries p.sealing) (first_of who) (second_of who) h inner block field change i j
    → media_step 0 1 entries (Media (member_of who p).association h inner block field ∷ []) change None p.sealing
    ≡ (
      output_for (first_of who) i change h inner block field ∷ output_for (second_of who) j change h inner block field ∷ [],
      sealed_for (sealed_for (in_entries p.sealing) (first_of who) h.ssrc i) (second_of who) h.ssrc j,
    )
unfolding media_step
step_two Ann p h inner block field change i j places =
    ap (λ (x : List Sent × List Sealing). (x.0 ++ [], x.1)) (two_sent (in_entries p.sealing) (first_of Ann) (second_of Ann) (big_bytes 16 1) h inner block field change i j places)
step_two Bob p h inner block field change i j places =
    ap (λ (x : List Sent × List Sealing). (x.0 ++ [], x.1)) (two_sent (in_entries p.sealing) (first_of Bob) (second_of Bob) (big_bytes 16 2) h inner block field change i j places)
step_two Cat p h inner block field change i j places =
    ap (λ (x : List Sent × List Sealing). (x.0 ++ [], x.1)) (two_sent (in_entries p.sealing) (first_of Cat) (second_of Cat) (big_bytes 16 3) h inner block field change i j places)

-- ---- the line

-- What a forward takes and makes: one packet, which goes out twice.
pub record IsForwarded (who : Who) (p : Parts) (n : ℕ) (change : Rewrite) (v : View) : Type 0 where
  pub datagram : Datagram
  pub found : datagram_at p.datagrams n ≡ Some datagram
  pub header : Header
  pub inner : List ℕ
  pub block : Ohb
  pub field : Field
  pub heard : List Heard
  pub taken_as : taken entries p.heard (member_of who p).association datagram.octets ≡ (Ok (Media (member_of who p).association header inner block field), heard)
  pub first : ℕ
  pub second : ℕ
  pub places : HasPlaces (in_entries p.sealing) (first_of who) (second_of who) header inner block field change first second
  pub view_is : record (view_of p) {
    heard = heard;
    sealing = sealed_for (sealed_for (in_entries p.sealing) (first_of who) header.ssrc first) (second_of who) header.ssrc second;
    made = length p.datagrams + 2;
  } ≡ v

-- the view behind what was opened and what was sent
abbrev view_behind : Who → Parts → Rewrite → List Taking × List Heard → List Sent × List Sealing → View
view_behind who p change opened step = record (view_of p) {
  heard = opened.1;
  sealing = step.1;
  made = length (reported_takings (state_of p).members change step.0 0 p.datagrams opened.0).1;
}

abbrev one_taking : ℕ → Result Packet InboundFault → List Taking
one_taking n r = record { number = n; result = r } ∷ []

opened_one : (who : Who) (p : Parts) (n : ℕ) (change : Rewrite) (v : View) → (f : IsForwarded who p n change v)
    → takings entries p.heard (member_of who p).association (numbered p.datagrams (n ∷ []))
    ≡ (record { number = n; result = Ok (Media (member_of who p).association f.header f.inner f.block f.field) } ∷ [], f.heard)
opened_one who p n change v f =
    ap (λ (o : Option Datagram). takings entries p.heard (member_of who p).association (cons_option (option_map (λ (d : Datagram). (n, d)) o) [])) f.found
    ∙ ap (λ (t : Result Packet InboundFault × List Heard). (one_taking n t.0, t.1)) f.taken_as

made_two : (who : Who) (p : Parts) (n : ℕ) (change : Rewrite) (v : View) → (f : IsForwarded who p n change v)
    → length (reported_takings (state_of p).members change
    (output_for (first_of who) f.first change f.header f.inner f.block f.field ∷ output_for (second_of who) f.second change f.header f.inner f.block f.field ∷ []) 0 p.datagrams
    (record { number = n; result = Ok (Media (member_of who p).association f.header f.inner f.block f.field) } ∷ [])).1 ≡ length p.datagrams + 2
made_two who p n change v f =
    let count = length_push p.datagrams in
    let more = length_push (p.datagrams ++ _ ∷ []) in
    more _ ∙ ap (λ (k : ℕ). k + 1) (count _) ∙ omega arith

pub forwarded_has : (V : View → Type 0) (who : Who) (p : Parts) (n : ℕ) (change : Rewrite) (v : View) → IsForwarded who p n change v → V v
    → Behind (forwarded (state_of p) (member_of who p) (n ∷ []) change None) (Has V)
forwarded_has V who p n change v f holds =
    let opened = takings entries p.heard (member_of who p).association (numbered p.datagrams (n ∷ [])) in
    let step = media_step 0 1 entries (filter_map packet_in opened.0) change None p.sealing in
    let told = reported_takings (state_of p).members change step.0 0 p.datagrams opened.0 in
    record {
      parts = record p { heard = opened.1; sealing = step.1; datagrams = told.1 };
      is = refl;
      view =
          subst V
          (
          sym
          (
          ap (λ (x : List Taking × List Heard). view_behind who p change x (media_step 0 1 entries (filter_map packet_in x.0) change None p.sealing)) (opened_one who p n change v f)
          ∙ ap (view_behind who p change (record { number = n; result = Ok (Media (member_of who p).association f.header f.inner f.block f.field) } ∷ [], f.heard))
          (step_two who p f.header f.inner f.block f.field change f.first f.second f.places)
          ∙ ap (λ (k : ℕ). record (view_of p) {
            heard = f.heard;
            sealing = sealed_for (sealed_for (in_entries p.sealing) (first_of who) f.header.ssrc f.first) (second_of who) f.header.ssrc f.second;
            made = k;
          }) (made_two who p n change v f)
          ∙ f.view_is
          )
          )
          holds;
    }

by_found : (P : State → Type 0) (t : Turn) (o : Option Datagram) (d : Datagram) (full : Bool) → o ≡ Some d → full ≡ false → Behind t P
    → Behind (cond (not (is_some o && true)) (Refused reason.Datagram) (cond full (Refused reason.Limit) t)) P
by_found P t None d full is room h = absurd (cc)
by_found P t (Some x) d true is room h = absurd (cc)
by_found P t (Some x) d false is room h = h

pub forward_is : (V : View → Type 0) (who : Who) (p : Parts) (n : ℕ) (changes : Changes) (v : View) → IsForwarded who p n (rewrite_by changes) v → length p.datagrams + 2 ≤ most_datagrams → V v
    → Behind (turn by_cipher (state_of p) (Forward (name_of who) (n ∷ []) changes None)) (Has V)
unfolding turn forward_turn
forward_is V Ann p n changes v f room holds =
    by_found (Has V) (forwarded (state_of p) (member_of Ann p) (n ∷ []) (rewrite_by changes) None) (datagram_at p.datagrams n) f.datagram (nat_lt most_datagrams (length p.datagrams + 2)) f.found
    (le-ltb most_datagrams (length p.datagrams + 2) room) (forwarded_has V Ann p n (rewrite_by changes) v f holds)
forward_is V Bob p n changes v f room holds =
    by_found (Has V) (forwarded (state_of p) (member_of Bob p) (n ∷ []) (rewrite_by changes) None) (datagram_at p.datagrams n) f.datagram (nat_lt most_datagrams (length p.datagrams + 2)) f.found
    (le-ltb most_datagrams (length p.datagrams + 2) room) (forwarded_has V Bob p n (rewrite_by changes) v f holds)
forward_is V Cat p n changes v f room holds =
    by_found (Has V) (forwarded (state_of p) (member_of Cat p) (n ∷ []) (rewrite_by changes) None) (datagram_at p.datagrams n) f.datagram (nat_lt most_datagrams (length p.datagrams + 2)) f.found
    (le-ltb most_datagrams (length p.datagrams + 2) room) (forwarded_has V Cat p n (rewrite_by changes) v f holds)
