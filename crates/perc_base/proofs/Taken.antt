-- What a read does to the octets of a room.
use Rattle.std.proofs.Common.{◌≡◌, ℕ, ◌+◌, ◌-◌, ◌<◌, ◌≤◌, Bool, eqb, List, [], ◌++◌, length, take, drop, Option, Some, None, Result, IfSome, OnErr, Ok, Err, arith, sym, ap, subst, ◌∙◌, inr}
use Rattle.std.specs.List.{slice_range}
use Rattle.std.proofs.lemmas.Slice.{between_is}
use Rattle.std.proofs.lemmas.List.{drop-append-le, length-take-le}
use Rattle.std.proofs.lemmas.Bool.{eqb-true}
use Rattle.std.proofs.Math.Seq.{drop-nil, take-add}
use Rattle.perc_base.specs.Outside.{TakesFront, Reads}
use Rattle.perc_base.specs.Lines.{Held, IsDecided}
use Rattle.perc_base.specs.Room.{ReadsOn}
use Rattle.perc_base.proofs.Steps.{ReadsOn_none}

-- a read that took nothing into a buffer with room was at the end
pub TakesFront_end : (all left : Option (List ℕ)) (buffer after : List ℕ) (n : ℕ) → TakesFront all left buffer after n → n ≡ 0 → 0 < length buffer
    → IfSome left (λ rest. rest ≡ [])
TakesFront_end None left buffer after n h none room = subst (λ l. IfSome l (λ rest. rest ≡ [])) (sym h) tt
TakesFront_end (Some all) left buffer after n h none room =
    subst (λ l. IfSome l (λ rest. rest ≡ [])) (sym h.1) (ap (drop n) (h.3 none room) ∙ drop-nil n)

pub OnErr_always : {T E P : Type 0} (r : Result T E) → P → OnErr r P
OnErr_always (Ok x) p = tt
OnErr_always (Err e) p = p

-- xs are the octets of a room before a read, and ys those after it; the room holds those from s to e
module _ (old : Held) (xs ys : List ℕ) (s e : ℕ) (ended : Bool) (is : (record { octets = slice_range xs s e; ended = ended }) ≡ old)
    (front : take e ys ≡ take e xs) where
  kept : slice_range ys s e ≡ slice_range xs s e
  kept = between_is ys s e ∙ ap (drop s) front ∙ sym (between_is xs s e)

  pub held_kept : (record { octets = slice_range ys s e; ended = ended }) ≡ old
  held_kept = ap (λ l. record { octets = l; ended = ended }) kept ∙ is

  pub ReadsOn_failed : (all left : Option (List ℕ)) → left ≡ all → ReadsOn old all (record { octets = slice_range ys s e; ended = ended }) left
  ReadsOn_failed all left same =
      subst (λ h. ReadsOn old all h left) (sym held_kept) (subst (λ l. ReadsOn old all old l) (sym same) (ReadsOn_none old all))

  joined : (n : ℕ) → s ≤ e → e + n ≤ length ys → slice_range ys s (e + n) ≡ slice_range xs s e ++ slice_range ys e (e + n)
  joined n ordered fits =
      let long : length (take e ys) ≡ e = length-take-le e ys (omega arith) in
      let size : n ≡ e + n - e = omega arith in
      between_is ys s (e + n) ∙ ap (drop s) (take-add e n ys) ∙ drop-append-le s (take e ys) (take n (drop e ys)) (omega arith)
      ∙ ap (λ l. l ++ take n (drop e ys)) (ap (drop s) front ∙ sym (between_is xs s e))
      ∙ ap (λ k. slice_range xs s e ++ take k (drop e ys)) size

  pub ReadsOn_taken : (n : ℕ) (all left : Option (List ℕ)) → (IsDecided old → ⊥) → s ≤ e → e + n ≤ length ys
      → Reads all left (slice_range ys e (e + n)) → (n ≡ 0 → IfSome left (λ rest. rest ≡ []))
      → ReadsOn old all (record { octets = slice_range ys s (e + n); ended = eqb n 0 }) left
  ReadsOn_taken n all left undecided ordered fits reads end = record {
    more = slice_range ys e (e + n);
    reads = reads;
    octets = joined n ordered fits ∙ ap (λ h. h.octets ++ slice_range ys e (e + n)) is;
    ended = λ t. inr (end (eqb-true n 0 t));
    decided = λ d. absurd (undecided d);
  }
