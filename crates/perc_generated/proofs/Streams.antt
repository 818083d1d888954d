-- What the distributor heard and sealed, behind one more packet.
use Rattle.std.proofs.Common.{◌≡◌, ℕ, ◌+◌, ◌*◌, ◌%◌, ◌^◌, ◌<◌, ◌≤◌, Bool, true, false, cond, not, List, [], ◌∷◌, ◌++◌, length, map, Option, Some, None, Result, Ok, Err, refl, sym, ap, subst, ◌∙◌, arith}
use Rattle.std.specs.Prelude.{◌&&◌, ◌==◌, find, max, nat_le, nat_lt}
use Rattle.std.specs.List.{list_any}
use Rattle.std.specs.Option.{is_some, option_map_or, unwrap_or}
use Rattle.std.proofs.lemmas.Bool.{le-ltb, ltb-false}
use Rattle.std.proofs.lemmas.Bool.Decides.{nat_tests}
use Rattle.perc_rtp.specs.Header.{Header}
use Rattle.perc_ohb.specs.Rewriting.{Rewrite}
use Rattle.perc_ohb.specs.declared.block.Ohb.{Ohb}
use Rattle.perc_ekt.specs.Field.{Field, spelling}
use Rattle.perc_window.specs.Replay.{greatest}
use Rattle.perc_srtp.specs.Streams.{tx_index}
use Rattle.perc_srtp.proofs.PacketLaws.{tx_first, tx_next}
use Rattle.perc_double.specs.Double.{relayed, relayed_length}
use Rattle.perc_keyset.specs.declared.Entry.{Entry}
use Rattle.perc_outer.specs.Streams.{OuterStream, accepted_of, is_full_for, is_of, with_index}
use Rattle.perc_outer.proofs.Finding.{any_found, length-with_held, length-with_new}
use Rattle.perc_outer.proofs.Outer.{accepted_past, accepted_with, room_with}
use Rattle.perc_distributor.specs.Inbound.{Heard, heard_of, in_set, nothing_heard, with_heard}
use Rattle.perc_distributor.specs.Forwarding.{Sealing, as_forwarded, media_index, most_octets, nothing_sealed, sealing_of, with_sealing}
use Rattle.perc_distributor.specs.declared.fault.ForwardFault.{ForwardFault}
use Rattle.perc_distributor.specs.declared.fault.ForwardFault.TheVariants as fault
use Rattle.perc_distributor.proofs.PlaceLaws.{find_filter, found_past, found_with}
use Rattle.perc_distributor.proofs.SendingOn.{of_serial, with_found, with_past}
use Rattle.perc_generated.proofs.Opened.{entries}
use Rattle.perc_generated.proofs.Relay.{in_entries, sealed_for}

-- ---- what was heard

and_false : (b : Bool) → (b && false) ≡ false
and_false true = refl
and_false false = refl

same_test : (a b : ℕ) → a ≡ b → not (b == a) ≡ false
same_test a b is = grind (arith, nat_tests)

other_test : (a b : ℕ) → (a ≡ b → ⊥) → not (b == a) ≡ true
other_test a b differ = grind (arith, nat_tests)

pub heard_new : (heard : List Heard) (new : Heard) (t : ℕ) → new.serial ≡ t → heard_of (with_heard entries heard new) t ≡ new
heard_new heard new t is =
    ap (λ (o : Option Heard). unwrap_or o (nothing_heard t))
    (
    found_with (λ (x : Heard). x.serial) (λ s. in_set entries s && not (s == new.serial)) heard new t is
    (ap (λ (b : Bool). in_set entries t && b) (same_test new.serial t is) ∙ and_false (in_set entries t))
    )

pub heard_old : (heard : List Heard) (new : Heard) (t : ℕ) → in_set entries t ≡ true → (new.serial ≡ t → ⊥) → heard_of (with_heard entries heard new) t ≡ heard_of heard t
heard_old heard new t there differ =
    ap (λ (o : Option Heard). unwrap_or o (nothing_heard t))
    (
    found_past (λ (x : Heard). x.serial) (λ s. in_set entries s && not (s == new.serial)) heard new t differ
    ∙ ap (λ (b : Bool). cond (b && not (t == new.serial)) (find (λ (x : Heard). x.serial == t) heard) None) there
    ∙ ap (λ (b : Bool). cond b (find (λ (x : Heard). x.serial == t) heard) None) (other_test new.serial t differ)
    )

heard_serial_by : (b : Bool) (x : Heard) (serial : ℕ) (rest : Option Heard) → (x.serial == serial) ≡ b → (unwrap_or rest (nothing_heard serial)).serial ≡ serial
    → (unwrap_or (cond b (Some x) rest) (nothing_heard serial)).serial ≡ serial
heard_serial_by true x serial rest is tail = grind (arith, nat_tests)
heard_serial_by false x serial rest is tail = tail

pub heard_serial : (heard : List Heard) (serial : ℕ) → (heard_of heard serial).serial ≡ serial
heard_serial [] serial = refl
heard_serial (x ∷ heard) serial = heard_serial_by (x.serial == serial) x serial (find (λ (y : Heard). y.serial == serial) heard) refl (heard_serial heard serial)

-- The distributor heard of a stream exactly what was sealed in it, and has room for it.
pub record Hears (heard : List Heard) (serial ssrc : ℕ) (sealed : List ℕ) : Type 0 where
  pub accepted : accepted_of (heard_of heard serial).streams ssrc ≡ sealed
  pub room : is_full_for (heard_of heard serial).streams ssrc ≡ false

abbrev pub heard_more : List Heard → ℕ → ℕ → ℕ → List Heard
heard_more heard serial ssrc index = with_heard entries heard (record (heard_of heard serial) { streams = with_index ssrc index (heard_of heard serial).streams })

pub hears_more : (heard : List Heard) (serial ssrc index : ℕ) (sealed : List ℕ) → Hears heard serial ssrc sealed → Hears (heard_more heard serial ssrc index) serial ssrc (index ∷ sealed)
hears_more heard serial ssrc index sealed is =
    let streams : List OuterStream = (heard_of heard serial).streams in
    let found = heard_new heard (record (heard_of heard serial) { streams = with_index ssrc index streams }) serial (heard_serial heard serial) in record {
      accepted = ap (λ (h : Heard). accepted_of h.streams ssrc) found ∙ accepted_with ssrc index streams ∙ ap (λ (xs : List ℕ). index ∷ xs) is.accepted;
      room = ap (λ (h : Heard). is_full_for h.streams ssrc) found ∙ room_with ssrc index streams;
    }

pub hears_same : (heard : List Heard) (serial ssrc index other of : ℕ) (sealed : List ℕ) → in_set entries other ≡ true → (serial ≡ other → ⊥) → Hears heard other of sealed
    → Hears (heard_more heard serial ssrc index) other of sealed
hears_same heard serial ssrc index other of sealed there differ is =
    let found = heard_old heard (record (heard_of heard serial) { streams = with_index ssrc index (heard_of heard serial).streams }) other there
    (λ same. differ (sym (heard_serial heard serial) ∙ same)) in record {
      accepted = ap (λ (h : Heard). accepted_of h.streams of) found ∙ is.accepted;
      room = ap (λ (h : Heard). is_full_for h.streams of) found ∙ is.room;
    }

-- ---- what was sealed

pub sealing_in_entries : (sealing : List Sealing) (t : ℕ) → in_set entries t ≡ true → sealing_of (in_entries sealing) t ≡ sealing_of sealing t
sealing_in_entries sealing t there =
    ap (λ (o : Option Sealing). unwrap_or o (nothing_sealed t))
    (
    find_filter (λ (x : Sealing). x.serial) (λ s. in_set entries s) sealing t
    ∙ ap (λ (b : Bool). cond b (find (λ (x : Sealing). x.serial == t) sealing) None) there
    )

pub sealing_new : (sealing : List Sealing) (e : Entry) (ssrc index : ℕ)
    → sealing_of (sealed_for sealing e ssrc index) e.serial ≡ record (sealing_of sealing e.serial) { streams = with_index ssrc index (sealing_of sealing e.serial).streams }
sealing_new sealing e ssrc index =
    let new : Sealing = record (sealing_of sealing e.serial) { streams = with_index ssrc index (sealing_of sealing e.serial).streams } in
    ap (λ (o : Option Sealing). unwrap_or o (nothing_sealed e.serial)) (with_found sealing new e.serial (sym (of_serial sealing e.serial)))

pub sealing_old : (sealing : List Sealing) (e : Entry) (ssrc index t : ℕ) → (t ≡ e.serial → ⊥) → sealing_of (sealed_for sealing e ssrc index) t ≡ sealing_of sealing t
sealing_old sealing e ssrc index t differ =
    let new : Sealing = record (sealing_of sealing e.serial) { streams = with_index ssrc index (sealing_of sealing e.serial).streams } in
    ap (λ (o : Option Sealing). unwrap_or o (nothing_sealed t)) (with_past sealing new t (λ same. differ (same ∙ of_serial sealing e.serial)))

-- the indices that were sealed for others: each number went 7 higher
abbrev pub shifted : List ℕ → List ℕ
shifted sealed = map (λ (i : ℕ). i + 7) sealed

-- 1 where a stream began
abbrev pub begun_by : List ℕ → ℕ
begun_by [] = 0
begun_by (x ∷ xs) = 1

-- Streams of two senders, each with what was sealed of it, and no others.
pub record Holds (streams : List OuterStream) (a b : ℕ) (x y : List ℕ) : Type 0 where
  pub first : accepted_of streams a ≡ shifted x
  pub second : accepted_of streams b ≡ shifted y
  pub few : length streams ≤ begun_by x + begun_by y

none_shifted : (x : List ℕ) → [] ≡ shifted x → begun_by x ≡ 0
none_shifted [] is = refl
none_shifted (i ∷ x) is = absurd (cc)

accepted_none : (ssrc : ℕ) (streams : List OuterStream) (o : Option OuterStream) → is_some o ≡ false → option_map_or (λ (s : OuterStream). s.accepted) o [] ≡ []
accepted_none ssrc streams None is = refl
accepted_none ssrc streams (Some s) is = absurd (cc)

more_by : (streams : List OuterStream) (a index n : ℕ) (x : List ℕ) (held : Bool) → list_any (is_of a) streams ≡ held → accepted_of streams a ≡ shifted x → length streams ≤ begun_by x + n
    → length (with_index a index streams) ≤ 1 + n
more_by streams a index n x true is accepted few =
    let count = length-with_held a index streams is in
    let most : begun_by x ≤ 1 = at x in
    omega arith where
      at : (xs : List ℕ) → begun_by xs ≤ 1
      at [] = omega arith
      at (i ∷ xs) = omega arith
more_by streams a index n x false is accepted few =
    let count = length-with_new a index streams is in
    let none = none_shifted x (sym (accepted_none a streams (find (is_of a) streams) (sym (any_found a streams) ∙ is)) ∙ accepted) in
    omega arith

pub holds_first : (streams : List OuterStream) (a b index : ℕ) (x y : List ℕ) → (a ≡ b → ⊥) → Holds streams a b x y → Holds (with_index a (index + 7) streams) a b (index ∷ x) y
holds_first streams a b index x y differ is = record {
  first = accepted_with a (index + 7) streams ∙ ap (λ (xs : List ℕ). (index + 7) ∷ xs) is.first;
  second = accepted_past a b (index + 7) streams differ ∙ is.second;
  few = more_by streams a (index + 7) (begun_by y) x (list_any (is_of a) streams) refl is.first is.few;
}

pub holds_second : (streams : List OuterStream) (a b index : ℕ) (x y : List ℕ) → (b ≡ a → ⊥) → Holds streams a b x y → Holds (with_index b (index + 7) streams) a b x (index ∷ y)
holds_second streams a b index x y differ is =
    let few = is.few in
    let more = more_by streams b (index + 7) (begun_by x) y (list_any (is_of b) streams) refl is.second (omega arith) in record {
      first = accepted_past b a (index + 7) streams differ ∙ is.first;
      second = accepted_with b (index + 7) streams ∙ ap (λ (xs : List ℕ). (index + 7) ∷ xs) is.second;
      few = omega arith;
    }

begun_few : (x : List ℕ) → begun_by x ≤ 1
begun_few [] = omega arith
begun_few (i ∷ x) = omega arith

not_full : (held : Bool) (n : ℕ) → n < 256 → (not held && nat_le 256 n) ≡ false
not_full held n few = grind (arith, nat_tests)

-- There is room for one stream more.
pub holds_room : (streams : List OuterStream) (a b ssrc : ℕ) (x y : List ℕ) → Holds streams a b x y → is_full_for streams ssrc ≡ false
holds_room streams a b ssrc x y is =
    let few = is.few in
    let one = begun_few x in
    let two = begun_few y in
    not_full (list_any (is_of ssrc) streams) (length streams) (omega arith)

-- ---- where a packet is sealed

place_by : (full long : Bool) (found : Result ℕ ForwardFault) (index : ℕ) → full ≡ false → long ≡ false → found ≡ Ok index
    → cond full (Err fault.StreamLimit) (cond long (Err fault.Room) found) ≡ Ok index
place_by true long found index a b is = absurd (cc)
place_by false true found index a b is = absurd (cc)
place_by false false found index a b is = is

pub place_is : (streams : List OuterStream) (h : Header) (inner : List ℕ) (block : Ohb) (field : Field) (change : Rewrite) (index : ℕ) → is_full_for streams h.ssrc ≡ false
    → relayed_length h inner block change + length (spelling field) ≤ most_octets → tx_index (accepted_of streams h.ssrc) (relayed h change).seq ≡ Ok index
    → media_index streams h inner block field change ≡ Ok index
place_is streams h inner block field change index room size free =
    place_by (is_full_for streams h.ssrc) (nat_lt most_octets (relayed_length h inner block change + length (spelling field))) (as_forwarded (tx_index (accepted_of streams h.ssrc) (relayed h change).seq)) index
    room (le-ltb most_octets (relayed_length h inner block change + length (spelling field)) size) (ap as_forwarded free)

-- ---- the index 7 higher

abbrev plus_seven : Option ℕ → Option ℕ
plus_seven None = None
plus_seven (Some h) = Some (h + 7)

seven_by : (i : ℕ) (o : Option ℕ) → Some (option_map_or (max (i + 7)) (plus_seven o) (i + 7)) ≡ plus_seven (Some (option_map_or (max i) o i))
seven_by i None = refl
seven_by i (Some h) = let same : max (i + 7) (h + 7) ≡ max i h + 7 = omega arith in ap Some same

greatest_seven : (sealed : List ℕ) → greatest (shifted sealed) ≡ plus_seven (greatest sealed)
greatest_seven [] = refl
greatest_seven (i ∷ sealed) = ap (λ (o : Option ℕ). Some (option_map_or (max (i + 7)) o (i + 7))) (greatest_seven sealed) ∙ seven_by i (greatest sealed)

-- Behind these, the number of the index behind the highest, 7 higher, leads to that index, 7 higher.
pub later_shifted : (sealed : List ℕ) (high next : ℕ) → greatest sealed ≡ Some high → (high + 1) % 65536 ≡ next % 65536 → high + 8 < 2 ^ 48
    → tx_index (shifted sealed) ((next % 65536 + 7) % 65536) ≡ Ok (high + 1 + 7)
later_shifted sealed high next top beside few =
    let seq : (next % 65536 + 7) % 65536 ≡ (high + 7 + 1) % 65536 = omega arith in
    let same : high + 7 + 1 ≡ high + 1 + 7 = omega arith in
    ap (tx_index (shifted sealed)) seq ∙ tx_next (shifted sealed) (high + 7) (greatest_seven sealed ∙ ap plus_seven top) (omega arith) ∙ ap (λ (i : ℕ). Ok i) same

pub first_shifted : (next : ℕ) → next ≡ 65400 → tx_index (shifted []) ((next % 65536 + 7) % 65536) ≡ Ok (next % 65536 + 7)
first_shifted next is =
    let same : (next % 65536 + 7) % 65536 ≡ next % 65536 + 7 = omega arith in
    ap (tx_index []) same ∙ tx_first (next % 65536 + 7)
