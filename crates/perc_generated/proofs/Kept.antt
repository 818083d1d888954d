-- What is so between rounds, and that a forward keeps it.
use Rattle.std.proofs.Common.{◌≡◌, ℕ, ◌+◌, ◌*◌, ◌%◌, ◌^◌, ◌<◌, ◌≤◌, inl, inr, Bool, true, false, List, [], ◌∷◌, ◌++◌, length, Option, Some, None, Result, Ok, Err, refl, sym, ap, subst, ◌∙◌, arith}
use Rattle.perc_window.specs.Replay.{greatest}
use Rattle.perc_srtp.specs.Streams.{tx_index}
use Rattle.perc_srtp.specs.declared.streams.TxFault.{TxFault}
use Rattle.perc_srtp.proofs.PacketLaws.{tx_first, tx_next}
use Rattle.perc_keyset.specs.declared.Entry.{Entry}
use Rattle.perc_outer.specs.Streams.{OuterStream, with_index}
use Rattle.perc_outgoing.specs.Sending.{IsSending, Outgoing, RunsBeside, outer_index}
use Rattle.perc_outgoing.proofs.Standing.{free_outer}
use Rattle.perc_distributor.specs.Inbound.{Heard, in_set}
use Rattle.perc_distributor.specs.Forwarding.{Sealing, sealing_of}
use Rattle.perc_generated.proofs.Opened.{entries}
use Rattle.perc_generated.proofs.Between.{Ann, Bob, Cat, Sealer, View, Who}
use Rattle.perc_generated.proofs.Relay.{first_of, in_entries, sealed_for, second_of}
use Rattle.perc_generated.proofs.Sent.{size_is, taken_is}
use Rattle.perc_generated.proofs.Streams.{Hears, Holds, first_shifted, heard_more, hears_more, hears_same, holds_first, holds_second, later_shifted, sealing_in_entries, sealing_new, sealing_old, shifted}

same_ok : (a b : ℕ) → ◌≡◌ {A = Result ℕ TxFault} (Ok a) (Ok b) → a ≡ b
same_ok a b is = cc

-- The outer index of the next packet, 7 higher, is free where each number went 7 higher.
pub shifted_free : (out : Outgoing) → IsSending out → (out.sealed ≡ [] → out.sending.next ≡ 65400) → out.sending.next < 2 ^ 47
    → tx_index (shifted out.sealed) ((out.sending.next % 65536 + 7) % 65536) ≡ Ok (outer_index out + 7)
shifted_free out is first few =
    let free = free_outer out is.outer (omega arith) in
    elim is.outer [
      | inl none ↦
          let told : tx_index [] (out.sending.next % 65536) ≡ Ok (outer_index out) = ap (λ (xs : List ℕ). tx_index xs (out.sending.next % 65536)) (sym none) ∙ free.free in
          let same : out.sending.next % 65536 ≡ outer_index out = same_ok (out.sending.next % 65536) (outer_index out) (sym (tx_first (out.sending.next % 65536)) ∙ told) in
          ap (λ (xs : List ℕ). tx_index (shifted xs) ((out.sending.next % 65536 + 7) % 65536)) none ∙ first_shifted out.sending.next (first none) ∙ ap (λ (i : ℕ). Ok (i + 7)) same
      | inr runs ↦
          let high : ℕ = runs.0 in
          let r = runs.1 in
          let below = r.behind in
          let told : tx_index out.sealed ((high + 1) % 65536) ≡ Ok (outer_index out) = ap (tx_index out.sealed) r.beside ∙ free.free in
          let same : high + 1 ≡ outer_index out = same_ok (high + 1) (outer_index out) (sym (tx_next out.sealed high r.highest (omega arith)) ∙ told) in
          later_shifted out.sealed high out.sending.next r.highest r.beside (omega arith) ∙ ap (λ (i : ℕ). Ok (i + 7)) same
    ]

-- ---- what is sealed for each

abbrev pub sealed_twice : List Sealing → Entry → Entry → ℕ → ℕ → List Sealing
sealed_twice sealing e f ssrc index = sealed_for (sealed_for (in_entries sealing) e ssrc index) f ssrc index

gets_first : (sealing : List Sealing) (e f : Entry) (ssrc index : ℕ) → in_set entries e.serial ≡ true → (e.serial ≡ f.serial → ⊥)
    → (sealing_of (sealed_twice sealing e f ssrc index) e.serial).streams ≡ with_index ssrc index (sealing_of sealing e.serial).streams
gets_first sealing e f ssrc index there differ =
    ap (λ (s : Sealing). s.streams) (sealing_old (sealed_for (in_entries sealing) e ssrc index) f ssrc index e.serial differ ∙ sealing_new (in_entries sealing) e ssrc index)
    ∙ ap (λ (s : Sealing). with_index ssrc index s.streams) (sealing_in_entries sealing e.serial there)

gets_second : (sealing : List Sealing) (e f : Entry) (ssrc index : ℕ) → in_set entries f.serial ≡ true → (f.serial ≡ e.serial → ⊥)
    → (sealing_of (sealed_twice sealing e f ssrc index) f.serial).streams ≡ with_index ssrc index (sealing_of sealing f.serial).streams
gets_second sealing e f ssrc index there differ =
    ap (λ (s : Sealing). s.streams) (sealing_new (sealed_for (in_entries sealing) e ssrc index) f ssrc index)
    ∙ ap (λ (s : Sealing). with_index ssrc index s.streams) (sealing_old (in_entries sealing) e ssrc index f.serial differ ∙ sealing_in_entries sealing f.serial there)

gets_third : (sealing : List Sealing) (e f : Entry) (ssrc index t : ℕ) → in_set entries t ≡ true → (t ≡ e.serial → ⊥) → (t ≡ f.serial → ⊥)
    → (sealing_of (sealed_twice sealing e f ssrc index) t).streams ≡ (sealing_of sealing t).streams
gets_third sealing e f ssrc index t there one two =
    ap (λ (s : Sealing). s.streams)
    (sealing_old (sealed_for (in_entries sealing) e ssrc index) f ssrc index t two ∙ sealing_old (in_entries sealing) e ssrc index t one ∙ sealing_in_entries sealing t there)

-- ---- between rounds

-- So many datagrams were made; the distributor heard each stream as it was sealed, and sealed it for both others 7 higher; and
-- who sealed nothing is at its first index.
pub record IsBetween (made : ℕ) (v : View) : Type 0 where
  pub count : v.made ≡ made
  pub ann_heard : Hears v.heard 0 1 v.ann.sealed
  pub bob_heard : Hears v.heard 1 2 v.bob.sealed
  pub cat_heard : Hears v.heard 2 3 v.cat.sealed
  pub ann_gets : Holds (sealing_of v.sealing 0).streams 2 3 v.bob.sealed v.cat.sealed
  pub bob_gets : Holds (sealing_of v.sealing 1).streams 1 3 v.ann.sealed v.cat.sealed
  pub cat_gets : Holds (sealing_of v.sealing 2).streams 1 2 v.ann.sealed v.bob.sealed
  pub ann_first : v.ann.sealed ≡ [] → v.ann.next ≡ 65400
  pub bob_first : v.bob.sealed ≡ [] → v.bob.next ≡ 65400
  pub cat_first : v.cat.sealed ≡ [] → v.cat.next ≡ 65400

-- one packet more
abbrev pub sealer_more : Sealer → ℕ → Sealer
sealer_more s index = record { sealed = index ∷ s.sealed; next = s.next + 1 }

abbrev pub view_more : Who → View → ℕ → ℕ → View
view_more Ann v ssrc index = record v {
  ann = sealer_more v.ann index;
  heard = heard_more v.heard 0 ssrc index;
  sealing = sealed_twice v.sealing (first_of Ann) (second_of Ann) ssrc (index + 7);
  made = v.made + 3;
}
view_more Bob v ssrc index = record v {
  bob = sealer_more v.bob index;
  heard = heard_more v.heard 1 ssrc index;
  sealing = sealed_twice v.sealing (first_of Bob) (second_of Bob) ssrc (index + 7);
  made = v.made + 3;
}
view_more Cat v ssrc index = record v {
  cat = sealer_more v.cat index;
  heard = heard_more v.heard 2 ssrc index;
  sealing = sealed_twice v.sealing (first_of Cat) (second_of Cat) ssrc (index + 7);
  made = v.made + 3;
}

differs : (i : ℕ) (xs : List ℕ) (next : ℕ) → i ∷ xs ≡ [] → next ≡ 65400
differs i xs next is = absurd (cc)

ann_more : (made index : ℕ) (v : View) → IsBetween made v → IsBetween (made + 3) (view_more Ann v 1 index)
ann_more made index v is =
    let H : List OuterStream → Type 0 = λ s. Holds s 1 3 (index ∷ v.ann.sealed) v.cat.sealed in
    let K : List OuterStream → Type 0 = λ s. Holds s 1 2 (index ∷ v.ann.sealed) v.bob.sealed in
    let G : List OuterStream → Type 0 = λ s. Holds s 2 3 v.bob.sealed v.cat.sealed in record {
      count = ap (λ (k : ℕ). k + 3) is.count;
      ann_heard = hears_more v.heard 0 1 index v.ann.sealed is.ann_heard;
      bob_heard = hears_same v.heard 0 1 index 1 2 v.bob.sealed refl (λ e. omega arith) is.bob_heard;
      cat_heard = hears_same v.heard 0 1 index 2 3 v.cat.sealed refl (λ e. omega arith) is.cat_heard;
      ann_gets = subst G (sym (gets_third v.sealing (first_of Ann) (second_of Ann) 1 (index + 7) 0 refl (λ e. omega arith) (λ e. omega arith))) is.ann_gets;
      bob_gets = subst H (sym (gets_first v.sealing (first_of Ann) (second_of Ann) 1 (index + 7) refl (λ e. omega arith)))
          (holds_first (sealing_of v.sealing 1).streams 1 3 index v.ann.sealed v.cat.sealed (λ e. omega arith) is.bob_gets);
      cat_gets = subst K (sym (gets_second v.sealing (first_of Ann) (second_of Ann) 1 (index + 7) refl (λ e. omega arith)))
          (holds_first (sealing_of v.sealing 2).streams 1 2 index v.ann.sealed v.bob.sealed (λ e. omega arith) is.cat_gets);
      ann_first = differs index v.ann.sealed (v.ann.next + 1);
      bob_first = is.bob_first;
      cat_first = is.cat_first;
    }

bob_more : (made index : ℕ) (v : View) → IsBetween made v → IsBetween (made + 3) (view_more Bob v 2 index)
bob_more made index v is =
    let H : List OuterStream → Type 0 = λ s. Holds s 2 3 (index ∷ v.bob.sealed) v.cat.sealed in
    let K : List OuterStream → Type 0 = λ s. Holds s 1 2 v.ann.sealed (index ∷ v.bob.sealed) in
    let G : List OuterStream → Type 0 = λ s. Holds s 1 3 v.ann.sealed v.cat.sealed in record {
      count = ap (λ (k : ℕ). k + 3) is.count;
      ann_heard = hears_same v.heard 1 2 index 0 1 v.ann.sealed refl (λ e. omega arith) is.ann_heard;
      bob_heard = hears_more v.heard 1 2 index v.bob.sealed is.bob_heard;
      cat_heard = hears_same v.heard 1 2 index 2 3 v.cat.sealed refl (λ e. omega arith) is.cat_heard;
      ann_gets = subst H (sym (gets_first v.sealing (first_of Bob) (second_of Bob) 2 (index + 7) refl (λ e. omega arith)))
          (holds_first (sealing_of v.sealing 0).streams 2 3 index v.bob.sealed v.cat.sealed (λ e. omega arith) is.ann_gets);
      bob_gets = subst G (sym (gets_third v.sealing (first_of Bob) (second_of Bob) 2 (index + 7) 1 refl (λ e. omega arith) (λ e. omega arith))) is.bob_gets;
      cat_gets = subst K (sym (gets_second v.sealing (first_of Bob) (second_of Bob) 2 (index + 7) refl (λ e. omega arith)))
          (holds_second (sealing_of v.sealing 2).streams 1 2 index v.ann.sealed v.bob.sealed (λ e. omega arith) is.cat_gets);
      ann_first = is.ann_first;
      bob_first = differs index v.bob.sealed (v.bob.next + 1);
      cat_first = is.cat_first;
    }

cat_more : (made index : ℕ) (v : View) → IsBetween made v → IsBetween (made + 3) (view_more Cat v 3 index)
cat_more made index v is =
    let H : List OuterStream → Type 0 = λ s. Holds s 2 3 v.bob.sealed (index ∷ v.cat.sealed) in
    let K : List OuterStream → Type 0 = λ s. Holds s 1 3 v.ann.sealed (index ∷ v.cat.sealed) in
    let G : List OuterStream → Type 0 = λ s. Holds s 1 2 v.ann.sealed v.bob.sealed in record {
      count = ap (λ (k : ℕ). k + 3) is.count;
      ann_heard = hears_same v.heard 2 3 index 0 1 v.ann.sealed refl (λ e. omega arith) is.ann_heard;
      bob_heard = hears_same v.heard 2 3 index 1 2 v.bob.sealed refl (λ e. omega arith) is.bob_heard;
      cat_heard = hears_more v.heard 2 3 index v.cat.sealed is.cat_heard;
      ann_gets = subst H (sym (gets_first v.sealing (first_of Cat) (second_of Cat) 3 (index + 7) refl (λ e. omega arith)))
          (holds_second (sealing_of v.sealing 0).streams 2 3 index v.bob.sealed v.cat.sealed (λ e. omega arith) is.ann_gets);
      bob_gets = subst K (sym (gets_second v.sealing (first_of Cat) (second_of Cat) 3 (index + 7) refl (λ e. omega arith)))
          (holds_second (sealing_of v.sealing 1).streams 1 3 index v.ann.sealed v.cat.sealed (λ e. omega arith) is.bob_gets);
      cat_gets = subst G (sym (gets_third v.sealing (first_of Cat) (second_of Cat) 3 (index + 7) 2 refl (λ e. omega arith) (λ e. omega arith))) is.cat_gets;
      ann_first = is.ann_first;
      bob_first = is.bob_first;
      cat_first = differs index v.cat.sealed (v.cat.next + 1);
    }

abbrev pub ssrc_of : Who → ℕ
ssrc_of Ann = 1
ssrc_of Bob = 2
ssrc_of Cat = 3

between_more : (who : Who) (made index : ℕ) (v : View) → IsBetween made v → IsBetween (made + 3) (view_more who v (ssrc_of who) index)
between_more Ann made index v is = ann_more made index v is
between_more Bob made index v is = bob_more made index v is
between_more Cat made index v is = cat_more made index v is

-- A packet more of a member keeps it.
pub keeps_between : (who : Who) (made ssrc index : ℕ) (v : View) → ssrc ≡ ssrc_of who → IsBetween made v → IsBetween (made + 3) (view_more who v ssrc index)
keeps_between who made ssrc index v same is =
    subst (λ (s : ℕ). IsBetween (made + 3) (view_more who v s index)) (sym same) (between_more who made index v is)
