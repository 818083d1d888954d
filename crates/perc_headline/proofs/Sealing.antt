-- What the distributor seals of a packet for an entry: nothing, or one packet at an index that is new, and is kept then.
use Rattle.std.proofs.Common.{◌≡◌, ℕ, ◌+◌, ◌/◌, ◌%◌, ◌^◌, ◌<◌, Bool, true, false, cond, not, List, [], ◌∷◌, ◌++◌, length, Option, Some, None, Result, Ok, Err}
use Rattle.std.proofs.Common.{inl, inr, refl, sym, ap, subst, ◌∙◌, arith}
use Rattle.std.specs.Prelude.{◌==◌, ◌&&◌, ◌||◌, nat_le, nat_lt, All, Contains, filter, find}
use Rattle.std.specs.Option.{option_or, unwrap_or}
use Rattle.std.proofs.lemmas.Bool.{cases_eq, eq-eqb, eqb-true, leb-false, ne_eqb}
use Rattle.std.proofs.lemmas.Bool.Decides.{nat_tests}
use Rattle.std.proofs.lemmas.List.Elements.{All-append, All-cons, All-contains_itself, All-filter, All-head, All-nil, All-tail}
use Rattle.std.proofs.lemmas.List.Folds.{find-append}
use Rattle.byteorder.specs.Endian.{big_bytes}
use Rattle.perc_kdf.specs.Derivation.{session_keys}
use Rattle.perc_kdf.specs.declared.Kind.{Kind}
use Rattle.perc_kdf.specs.declared.Kind.TheVariants.{Srtp, Srtcp}
use Rattle.perc_window.specs.Replay.{has}
use Rattle.perc_rtp.specs.Header.{Header, IsHeader}
use Rattle.perc_ohb.specs.Block.{IsOhb}
use Rattle.perc_ohb.specs.declared.block.Ohb.{Ohb}
use Rattle.perc_ohb.specs.Rewriting.{Rewrite}
use Rattle.perc_ekt.specs.Field.{Field, spelling}
use Rattle.perc_srtp.specs.Sealed.{rtcp_iv, rtcp_ssrc, salted, sealed_rtcp}
use Rattle.perc_srtp.specs.Streams.{tx_index}
use Rattle.perc_srtp.specs.declared.streams.TxFault.{TxFault}
use Rattle.perc_srtp.proofs.PacketLaws.{iv_injective, rtcp_iv_injective, tx_is_nearest, tx_once}
use Rattle.perc_double.specs.Double.{relayed, relayed_length}
use Rattle.perc_keyset.specs.Set.{is_of}
use Rattle.perc_keyset.specs.declared.Entry.{Entry}
use Rattle.perc_octets.specs.Octets.{AreOctets}
use Rattle.perc_outer.specs.Streams.{accepted_of, is_full_for, with_index}
use Rattle.perc_outer.proofs.Outer.{accepted_past, accepted_with}
use Rattle.perc_outgoing.specs.History.{Seal}
use Rattle.perc_distributor.specs.declared.fault.ForwardFault.{ForwardFault}
use Rattle.perc_distributor.specs.declared.fault.ForwardFault.TheVariants as fault
use Rattle.perc_distributor.specs.Inbound.{Control, Media, Packet, in_set}
use Rattle.perc_distributor.specs.Forwarding.{Dropped, Sealed, Sealing, Sent, as_forwarded, is_named, is_owned, media_index, nothing_sealed, recipients, sealing_of, sent_control, sent_each, sent_media, sent_to, source_of, with_sealing}
use Rattle.perc_headline.specs.Nonces.{control_seals, hop_seal, iv_of, media_seals, seals_each, seals_from, seals_to, step_seals}

-- ---- what is kept of a serial

found_serial : (b : Bool) (x : Sealing) (serial : ℕ) (rest : Option Sealing) → (x.serial == serial) ≡ b → (unwrap_or rest (nothing_sealed serial)).serial ≡ serial
    → (unwrap_or (cond b (Some x) rest) (nothing_sealed serial)).serial ≡ serial
found_serial true x serial rest is tail = eqb-true x.serial serial is
found_serial false x serial rest is tail = tail

of_serial : (sealing : List Sealing) (serial : ℕ) → (sealing_of sealing serial).serial ≡ serial
of_serial [] serial = refl
of_serial (x ∷ sealing) serial = found_serial (x.serial == serial) x serial (find (λ y. y.serial == serial) sealing) refl (of_serial sealing serial)

none_kept : (b : Bool) → cond {A = Option Sealing} b None None ≡ None
none_kept true = refl
none_kept false = refl

-- What a filter by serials keeps is found, and nothing else.
head_filter : (q : ℕ → Bool) (b c : Bool) (x : Sealing) (xs rest : List Sealing) (s : ℕ) → q x.serial ≡ b → (x.serial == s) ≡ c
    → find (λ y. y.serial == s) rest ≡ cond (q s) (find (λ y. y.serial == s) xs) None
    → find (λ y. y.serial == s) (cond b (x ∷ rest) rest) ≡ cond (q s) (cond c (Some x) (find (λ y. y.serial == s) xs)) None
head_filter q true true x xs rest s of is tail =
    let pass : q s ≡ true = ap q (sym (eqb-true x.serial s is)) ∙ of in
    ap (λ (b : Bool). cond b (Some x) (find (λ (y : Sealing). y.serial == s) rest)) is ∙ ap (λ (b : Bool). cond b (Some x) None) (sym pass)
head_filter q true false x xs rest s of is tail = ap (λ (b : Bool). cond b (Some x) (find (λ (y : Sealing). y.serial == s) rest)) is ∙ tail
head_filter q false true x xs rest s of is tail =
    let fail : q s ≡ false = ap q (sym (eqb-true x.serial s is)) ∙ of in
    tail ∙ ap (λ (b : Bool). cond b (find (λ (y : Sealing). y.serial == s) xs) None) fail ∙ ap (λ (b : Bool). cond b (Some x) None) (sym fail)
head_filter q false false x xs rest s of is tail = tail

find_filter : (q : ℕ → Bool) (xs : List Sealing) (s : ℕ) → find (λ y. y.serial == s) (filter (λ y. q y.serial) xs) ≡ cond (q s) (find (λ y. y.serial == s) xs) None
find_filter q [] s = sym (none_kept (q s))
find_filter q (x ∷ xs) s = head_filter q (q x.serial) (x.serial == s) x xs (filter (λ y. q y.serial) xs) s refl refl (find_filter q xs s)

pub kept_in : (set : List Entry) (sealing : List Sealing) (serial : ℕ) → in_set set serial ≡ true → sealing_of (filter (λ x. in_set set x.serial) sealing) serial ≡ sealing_of sealing serial
kept_in set sealing serial member =
    ap (λ (x : Option Sealing). unwrap_or x (nothing_sealed serial))
    (find_filter (in_set set) sealing serial ∙ ap (λ (b : Bool). cond b (find (λ (y : Sealing). y.serial == serial) sealing) None) member)

-- with this in the place of its serial's
found_with : (sealing : List Sealing) (new : Sealing) (t : ℕ) → find (λ y. y.serial == t) (with_sealing new sealing)
    ≡ option_or (cond (not (t == new.serial)) (find (λ y. y.serial == t) sealing) None) (cond (new.serial == t) (Some new) None)
found_with sealing new t =
    find-append (λ (y : Sealing). y.serial == t) (filter (λ (y : Sealing). not (y.serial == new.serial)) sealing) (new ∷ [])
    ∙ ap (λ (o : Option Sealing). option_or o (cond (new.serial == t) (Some new) None)) (find_filter (λ n. not (n == new.serial)) sealing t)

out_or : (o : Option Sealing) → option_or o None ≡ o
out_or None = refl
out_or (Some x) = refl

pub kept_with : (sealing : List Sealing) (new : Sealing) (serial : ℕ) → serial ≡ new.serial → sealing_of (with_sealing new sealing) serial ≡ new
kept_with sealing new serial is =
    ap (λ (x : Option Sealing). unwrap_or x (nothing_sealed serial))
    (found_with sealing new serial
    ∙ (λ i. option_or (cond (not (eq-eqb serial new.serial is i)) (find (λ (y : Sealing). y.serial == serial) sealing) None) (cond (eq-eqb new.serial serial (sym is) i) (Some new) None)))

pub kept_past : (sealing : List Sealing) (new : Sealing) (serial : ℕ) → (serial ≡ new.serial → ⊥) → sealing_of (with_sealing new sealing) serial ≡ sealing_of sealing serial
kept_past sealing new serial other =
    let found : Option Sealing = find (λ (y : Sealing). y.serial == serial) sealing in
    ap (λ (x : Option Sealing). unwrap_or x (nothing_sealed serial))
    (found_with sealing new serial
    ∙ (λ i. option_or (cond (not (ne_eqb serial new.serial other i)) found None) (cond (ne_eqb new.serial serial (λ same. other (sym same)) i) (Some new) None))
    ∙ out_or found)

-- ---- what is kept of a seal

abbrev pub InRange : Kind → ℕ → ℕ → Type 0
InRange Srtp ssrc index = (ssrc < 2 ^ 32) × (index < 2 ^ 48)
InRange Srtcp ssrc index = index < 2 ^ 31

abbrev pub IsRecorded : Kind → Sealing → ℕ → ℕ → Type 0
IsRecorded Srtp s ssrc index = has (accepted_of s.streams ssrc) index ≡ true
IsRecorded Srtcp s ssrc index = index < s.rtcp

abbrev pub IsNew : Kind → Sealing → ℕ → ℕ → Type 0
IsNew Srtp s ssrc index = has (accepted_of s.streams ssrc) index ≡ false
IsNew Srtcp s ssrc index = index ≡ s.rtcp

-- The low 32 bits of an SSRC alone are taken.
low_octets : (x : ℕ) → big_bytes 4 x ≡ big_bytes 4 (x % 2 ^ 32)
low_octets x =
    let a : x / 16777216 % 256 ≡ x % 4294967296 / 16777216 % 256 = omega arith in
    let b : x / 65536 % 256 ≡ x % 4294967296 / 65536 % 256 = omega arith in
    let c : x / 256 % 256 ≡ x % 4294967296 / 256 % 256 = omega arith in
    let d : x % 256 ≡ x % 4294967296 % 256 = omega arith in
    λ i. a i ∷ b i ∷ c i ∷ d i ∷ []

low_ssrc : (salt : List ℕ) (ssrc index : ℕ) → rtcp_iv salt ssrc index ≡ rtcp_iv salt (ssrc % 2 ^ 32) index
unfolding rtcp_iv
low_ssrc salt ssrc index = ap (λ (xs : List ℕ). salted salt (0 ∷ 0 ∷ (xs ++ 0 ∷ 0 ∷ big_bytes 4 index))) (low_octets ssrc)

-- RTCP packets with other indices have other IVs.
pub rtcp_index : (salt : List ℕ) (ssrc other index next : ℕ) → index < 2 ^ 31 → next < 2 ^ 31 → rtcp_iv salt ssrc index ≡ rtcp_iv salt other next → index ≡ next
rtcp_index salt ssrc other index next fits_index fits_next is =
    (rtcp_iv_injective salt (ssrc % 2 ^ 32) (other % 2 ^ 32) index next (omega arith) (omega arith) fits_index fits_next
    (sym (low_ssrc salt ssrc index) ∙ is ∙ low_ssrc salt other next)).1

-- A seal that is kept has another IV than a new one.
pub clash : (k : Kind) (salt : List ℕ) (a x b y : ℕ) (s : Sealing) → iv_of k salt a x ≡ iv_of k salt b y → InRange k a x → InRange k b y → IsRecorded k s a x → IsNew k s b y → ⊥
clash Srtp salt a x b y s ivs r q old new =
    let one = iv_injective salt a b x y r.0 q.0 r.1 q.1 ivs in
    let twice : true ≡ false = sym old ∙ (λ i. has (accepted_of s.streams (one.0 i)) (one.1 i)) ∙ new in
    absurd (cc)
clash Srtcp salt a x b y s ivs r q old new = let one = rtcp_index salt a b x y r q ivs in omega arith

-- One IV of a kind is kept as the other.
pub recorded_as : (k : Kind) (salt : List ℕ) (a x b y : ℕ) (s : Sealing) → iv_of k salt a x ≡ iv_of k salt b y → InRange k a x → InRange k b y → IsRecorded k s a x → IsRecorded k s b y
recorded_as Srtp salt a x b y s ivs r q old =
    let one = iv_injective salt a b x y r.0 q.0 r.1 q.1 ivs in
    sym (λ i. has (accepted_of s.streams (one.0 i)) (one.1 i)) ∙ old
recorded_as Srtcp salt a x b y s ivs r q old = let one = rtcp_index salt a b x y r q ivs in omega arith

-- ---- one output

abbrev pub KeepsAll : Sealing → Sealing → Type 0
KeepsAll s after = (k : Kind) (ssrc index : ℕ) → IsRecorded k s ssrc index → IsRecorded k after ssrc index

-- a seal for the entry at an index that is new, and is kept then
pub record OneSeal (s after : Sealing) (e : Entry) (u : Seal) : Type 0 where
  pub kind : Kind
  pub ssrc : ℕ
  pub index : ℕ
  pub is : u ≡ hop_seal e kind ssrc index
  pub range : InRange kind ssrc index
  pub new : IsNew kind s ssrc index
  pub kept : IsRecorded kind after ssrc index

abbrev pub AreOne : Sealing → Sealing → Entry → List Seal → Type 0
AreOne s after e [] = Unit {0}
AreOne s after e (u ∷ []) = OneSeal s after e u
AreOne s after e (u ∷ v ∷ seals) = ⊥

pub record Seals (s after : Sealing) (e : Entry) (seals : List Seal) : Type 0 where
  pub serial : after.serial ≡ s.serial
  pub keeps : KeepsAll s after
  pub are : AreOne s after e seals

either : (a b : Bool) → b ≡ true → (a || b) ≡ true
either true b is = refl
either false b is = is

here : (x : ℕ) (accepted : List ℕ) → has (x ∷ accepted) x ≡ true
here x accepted = grind (arith, nat_tests)

keeps_media : (s : Sealing) (ssrc index : ℕ) → KeepsAll s (record s { streams = with_index ssrc index s.streams })
keeps_media s ssrc index Srtcp a x old = old
keeps_media s ssrc index Srtp a x old =
    elim (cases_eq ssrc a) as (λ _. has (accepted_of (with_index ssrc index s.streams) a) x ≡ true) [
      | inl same ↦
          subst (λ (q : ℕ). has (accepted_of (with_index ssrc index s.streams) q) x ≡ true) same
          (ap (λ (xs : List ℕ). has xs x) (accepted_with ssrc index s.streams)
          ∙ either (index == x) (has (accepted_of s.streams ssrc) x) (ap (λ (q : ℕ). has (accepted_of s.streams q) x) same ∙ old))
      | inr apart ↦ ap (λ (xs : List ℕ). has xs x) (accepted_past ssrc a index s.streams apart) ∙ old
    ]

keeps_control : (s : Sealing) → KeepsAll s (record s { rtcp = s.rtcp + 1 })
keeps_control s Srtp a x old = old
keeps_control s Srtcp a x old = omega arith

keeps_same : (s : Sealing) → KeepsAll s s
keeps_same s k a x old = old

nothing : (s : Sealing) (e : Entry) → Seals s s e []
nothing s e = record { serial = refl; keeps = keeps_same s; are = tt }

forwarded_index : (found : Result ℕ TxFault) (index : ℕ) → as_forwarded found ≡ Ok index → found ≡ Ok index
forwarded_index (Ok at) index is = let same : at ≡ index = cc in ap Ok same
forwarded_index (Err f) index is = absurd (cc)

by_room : (full long : Bool) (found : Result ℕ TxFault) (index : ℕ) → cond full (Err fault.StreamLimit) (cond long (Err fault.Room) (as_forwarded found)) ≡ Ok index → found ≡ Ok index
by_room true long found index is = absurd (cc)
by_room false true found index is = absurd (cc)
by_room false false found index is = forwarded_index found index is

-- the index of a place is that of its stream
media_index_is : (s : Sealing) (h : Header) (inner : List ℕ) (block : Ohb) (field : Field) (change : Rewrite) (index : ℕ) → media_index s.streams h inner block field change ≡ Ok index
    → tx_index (accepted_of s.streams h.ssrc) (relayed h change).seq ≡ Ok index
media_index_is s h inner block field change index is =
    by_room (is_full_for s.streams h.ssrc) (nat_lt 1500 (relayed_length h inner block change + length (spelling field))) (tx_index (accepted_of s.streams h.ssrc) (relayed h change).seq) index is

media_made : (s : Sealing) (e : Entry) (place : ℕ) (change : Rewrite) (h : Header) (inner : List ℕ) (block : Ohb) (field : Field) (at : Result ℕ ForwardFault) → h.ssrc < 2 ^ 32
    → media_index s.streams h inner block field change ≡ at → Seals s (sent_media s e place change h inner block field at).1 e (media_seals e h.ssrc at)
media_made s e place change h inner block field (Err f) ssrc is = nothing s e
media_made s e place change h inner block field (Ok index) ssrc is =
    let free = media_index_is s h inner block field change index is in record {
      serial = refl;
      keeps = keeps_media s h.ssrc index;
      are = record {
        kind = Srtp;
        ssrc = h.ssrc;
        index = index;
        is = refl;
        range = (ssrc, (tx_is_nearest (accepted_of s.streams h.ssrc) (relayed h change).seq index (omega arith) free).in_range);
        new = tx_once (accepted_of s.streams h.ssrc) (relayed h change).seq index free;
        kept = ap (λ (xs : List ℕ). has xs index) (accepted_with h.ssrc index s.streams) ∙ here index (accepted_of s.streams h.ssrc);
      };
    }

abbrev pub control_step : Sealing → Entry → ℕ → List ℕ → Bool → Bool → Sent × Sealing
control_step s e place octets long spent =
    cond long (Dropped place e.association fault.Room, s)
    (cond spent (Dropped place e.association fault.RtcpSpent, s)
    (Sealed place e.association (sealed_rtcp (session_keys e.server Srtcp) s.rtcp octets), record s { rtcp = s.rtcp + 1 }))

control_made : (s : Sealing) (e : Entry) (place : ℕ) (octets : List ℕ) (long spent : Bool) → nat_le (2 ^ 31) s.rtcp ≡ spent
    → Seals s (control_step s e place octets long spent).1 e (control_seals s e octets (control_step s e place octets long spent).0)
control_made s e place octets true spent is = nothing s e
control_made s e place octets false true is = nothing s e
control_made s e place octets false false is = record {
  serial = refl;
  keeps = keeps_control s;
  are = record { kind = Srtcp; ssrc = rtcp_ssrc octets; index = s.rtcp; is = refl; range = leb-false (2 ^ 31) s.rtcp is; new = refl; kept = omega arith };
}

-- The parts of a media packet are in range: its header, its inner octets, its block and its field.
pub record HasParts (h : Header) (octets : List ℕ) (block : Ohb) (field : Field) : Type 0 where
  pub header_is : IsHeader h
  pub inner_is : AreOctets octets
  pub block_is : IsOhb block
  pub field_is : AreOctets (spelling field)

-- What was opened is in range.
abbrev pub PacketFits : Packet → Type 0
PacketFits (Media from h inner block field) = HasParts h inner block field
PacketFits (Control from octets) = AreOctets octets

-- What one output seals, where it isn't dropped, is new.
pub to_seals : (s : Sealing) (e : Entry) (place : ℕ) (change : Rewrite) (packet : Packet) → PacketFits packet → Seals s (sent_to s e place change packet).1 e (seals_to s e place change packet)
to_seals s e place change (Media from h inner block field) fits = media_made s e place change h inner block field (media_index s.streams h inner block field change) fits.header_is.ssrc refl
to_seals s e place change (Control from octets) fits = control_made s e place octets (nat_lt 1500 (length octets + 20)) (nat_le (2 ^ 31) s.rtcp) refl

pub step_serial : (sealing : List Sealing) (e : Entry) (place : ℕ) (change : Rewrite) (packet : Packet) → PacketFits packet
    → (sent_to (sealing_of sealing e.serial) e place change packet).1.serial ≡ e.serial
step_serial sealing e place change packet fits = (to_seals (sealing_of sealing e.serial) e place change packet fits).serial ∙ of_serial sealing e.serial

-- ---- under which masters

-- A seal of the distributor is under the server pair of an entry.
pub record IsServed (set : List Entry) (u : Seal) : Type 0 where
  pub entry : Entry
  pub there : Contains set entry
  pub master : u.master ≡ entry.server

one_served : (set : List Entry) (e : Entry) (u : Seal) → Contains set e → u.master ≡ e.server → All (IsServed set) (u ∷ [])
one_served set e u there is = All-cons (IsServed set) u [] (record { entry = e; there = there; master = is }) (All-nil (IsServed set))

media_served : (set : List Entry) (e : Entry) (ssrc : ℕ) (at : Result ℕ ForwardFault) → Contains set e → All (IsServed set) (media_seals e ssrc at)
media_served set e ssrc (Err f) there = All-nil (IsServed set)
media_served set e ssrc (Ok index) there = one_served set e (hop_seal e Srtp ssrc index) there refl

control_served : (set : List Entry) (s : Sealing) (e : Entry) (octets : List ℕ) (output : Sent) → Contains set e → All (IsServed set) (control_seals s e octets output)
control_served set s e octets (Sealed place to sealed) there = one_served set e (hop_seal e Srtcp (rtcp_ssrc octets) s.rtcp) there refl
control_served set s e octets (Dropped place to f) there = All-nil (IsServed set)

to_served : (set : List Entry) (s : Sealing) (e : Entry) (place : ℕ) (change : Rewrite) (packet : Packet) → Contains set e → All (IsServed set) (seals_to s e place change packet)
to_served set s e place change (Media from h inner block field) there = media_served set e h.ssrc (media_index s.streams h inner block field change) there
to_served set s e place change (Control from octets) there = control_served set s e octets (sent_control s e place octets).0 there

each_served : (set entries : List Entry) (place : ℕ) (change : Rewrite) (packet : Packet) (sealing : List Sealing) → All (Contains set) entries
    → All (IsServed set) (seals_each entries place change packet sealing)
each_served set [] place change packet sealing there = All-nil (IsServed set)
each_served set (e ∷ entries) place change packet sealing there =
    let s : Sealing = sealing_of sealing e.serial in
    let next : List Sealing = with_sealing (sent_to s e place change packet).1 sealing in
    All-append (IsServed set) (seals_to s e place change packet) (seals_each entries place change packet next)
    (to_served set s e place change packet (All-head (Contains set) e entries there))
    (each_served set entries place change packet next (All-tail (Contains set) e entries there))

from_served : (number of : ℕ) (set : List Entry) (place : ℕ) (batch : List Packet) (change : Rewrite) (only : Option (List (List ℕ))) (sealing : List Sealing)
    → All (IsServed set) (seals_from number of set place batch change only sealing)
from_served number of set place [] change only sealing = All-nil (IsServed set)
from_served number of set place (packet ∷ batch) change only sealing =
    let to : List Entry = recipients number of set only packet in
    let theirs : All (Contains set) to =
    All-filter (λ e. is_owned number of e && not (is_of (source_of packet) e) && is_named only e) (Contains set) set (All-contains_itself set) in
    let next : List Sealing = (sent_each to place change packet sealing).1 in
    All-append (IsServed set) (seals_each to place change packet sealing) (seals_from number of set (place + 1) batch change only next)
    (each_served set to place change packet sealing theirs) (from_served number of set (place + 1) batch change only next)

pub step_served : (number of : ℕ) (set : List Entry) (batch : List Packet) (change : Rewrite) (only : Option (List (List ℕ))) (sealing : List Sealing)
    → All (IsServed set) (step_seals number of set batch change only sealing)
unfolding step_seals
step_served number of set [] change only sealing = All-nil (IsServed set)
step_served number of set (packet ∷ batch) change only sealing = from_served number of set 0 (packet ∷ batch) change only (filter (λ x. in_set set x.serial) sealing)
