-- A packet that is accepted and isn't foreign is that of a row.
use Rattle.std.proofs.Common.{◌≡◌, ℕ, Bool, true, false, cond, ◌&&◌, List, [], ◌∷◌, length, Option, Some, None, Result, Ok, Err, refl, sym, ap, ◌∙◌, subst}
use Rattle.std.specs.Prelude.{Contains, ◌==◌, is_none, is_some, nat_lt}
use Rattle.std.specs.List.{list_any}
use Rattle.std.proofs.lemmas.Bool.{false_from_ne_true, or_parts}
use Rattle.std.proofs.lemmas.Bool.Decides.{Decides-eqb}
use Rattle.std.proofs.lemmas.List.Folds.{list_any_at}
use Rattle.perc_contexts.specs.Receiving.{Attempt, Context}
use Rattle.perc_contexts.proofs.ReceivingLaws.{found_of}
use Rattle.perc_contexts.specs.declared.KeyLimit.{KeyLimit}
use Rattle.perc_outer.specs.Datagram as outer
use Rattle.perc_outer.specs.Datagram.{Opened, Reach, original_header}
use Rattle.perc_receiver.specs.declared.refusal.Refusal.{Refusal}
use Rattle.perc_receiver.specs.declared.refusal.Refusal.TheVariants as refusal
use Rattle.perc_receiver.specs.Foreign.{is_foreign, is_foreign_key, is_foreign_opened, is_foreign_reach, is_foreign_try, tries_or_none, tries_reached, tries_with}
use Rattle.perc_receiver.specs.Opener.{Opener, by_cipher, is_row, row_of}
use Rattle.perc_receiver.specs.Receiver.{Accepted, Receiver, carried_by, heard, heard_reach, judged, outcome, reach_of, some_tries}
use Rattle.perc_receiver.specs.Table.{Row, Table}
use Rattle.perc_receiver.proofs.Headers.{is_row-parts}
use Rattle.perc_receiver.proofs.Secrets.{some_found}
use Rattle.perc_receiver.proofs.Taken.{IsTaken, heard_taken, taken_tried}
use Rattle.perc_run.specs.Delivering.{row_at}

-- ---- its try is one of those that are looked at

tries_same : (attempts : List Attempt) (a : Attempt) → Contains attempts a → tries_or_none (some_tries (Ok attempts)) ≡ attempts
tries_same [] a there = refl
tries_same (x ∷ attempts) a there = refl

not_short : (o : Opened) (answer : Result Accepted Refusal) (a : Accepted) (short : Bool) → cond short (Err refusal.InnerShort) answer ≡ Ok a → short ≡ false
not_short o answer a true is = absurd (cc)
not_short o answer a false is = refl

judged_long : (f : Opener) (r : Receiver) (o : Opened) (a : Accepted) → judged f r o ≡ Ok a → nat_lt (length o.inner) 16 ≡ false
unfolding judged
judged_long f r o a is = not_short o _ a (nat_lt (length o.inner) 16) is

heard_judged : (f : Opener) (r : Receiver) (datagram : List ℕ) (o : Opened) (a : Accepted) → reach_of r datagram ≡ outer.Reached o → (heard f r datagram).0 ≡ Ok a → judged f r o ≡ Ok a
unfolding heard
heard_judged f r datagram o a reach is = ap (heard_reach f r) (sym reach) ∙ is

tries_taken : (r : Receiver) (o : Opened) (a : Accepted) (t : IsTaken (by_cipher r.secrets) r o a) → nat_lt (length o.inner) 16 ≡ false → tries_reached r o ≡ t.attempts
tries_taken r o a t long =
    ap (λ (b : Bool). cond b [] (tries_with r (original_header o) (carried_by (by_cipher r.secrets) r.secrets o.header.ssrc o.field))) long
    ∙ ap (tries_with r (original_header o)) t.carries
    ∙ ap (λ (x : Result (List Attempt) KeyLimit). tries_or_none (some_tries x)) t.tries_are
    ∙ tries_same t.attempts a.attempt t.tried

-- ---- what it opens was sent

any_false : {X : Type 0} (p : X → Bool) (xs : List X) (x : X) → list_any p xs ≡ false → Contains xs x → p x ≡ false
any_false p xs x none there =
    false_from_ne_true (p x)
    (λ is. let some = list_any_at p xs there.0 x there.1 (ap p there.2 ∙ is) in let bad : true ≡ false = sym some ∙ none in absurd (cc))

row_found : (table : Table) (c : Context) (index : ℕ) (row : Row) → Contains table.rows row → row.ssrc ≡ c.ssrc → row.index ≡ index
    → (other : Row) × (row_at table c.ssrc index ≡ Some other)
row_found table c index row there ssrc at =
    let one = (Decides-eqb row.ssrc c.ssrc).1 ssrc in
    let two = (Decides-eqb row.index index).1 at in
    some_found (λ (x : Row). x.ssrc == c.ssrc && x.index == index) table.rows row there (λ i. both (one i) (two i)) where
      both : Bool → Bool → Bool
      both a b = a && b

row_by : (table : Table) (a : Attempt) (o : Opened) (body : Option (List ℕ)) (found : Option Row) → row_of table a.context a.index (original_header o) o.inner ≡ found
    → is_some body ≡ true → (is_some body && is_none found) ≡ false → (row : Row) × (row_at table a.context.ssrc a.index ≡ Some row)
row_by table a o None found at opens known = absurd (cc)
row_by table a o (Some body) None at opens known = absurd (cc)
row_by table a o (Some body) (Some row) at opens known =
    let it = found_of (is_row a.context a.index (original_header o) o.inner) table.rows row at in
    let parts = is_row-parts a.context a.index (original_header o) o.inner row it.1 in
    row_found table a.context a.index row it.0 parts.ssrc parts.index_is

opened_row : (table : Table) (r : Receiver) (o : Opened) (a : Accepted) → IsTaken (by_cipher r.secrets) r o a → nat_lt (length o.inner) 16 ≡ false
    → is_foreign_opened table r o ≡ false → (row : Row) × (row_at table a.attempt.context.ssrc a.attempt.index ≡ Some row)
opened_row table r o a t long known =
    let parts = or_parts (is_foreign_key r.secrets table o.field) (list_any (is_foreign_try r.secrets table (original_header o) o.inner) (tries_reached r o)) known in
    let none = subst (λ (l : List Attempt). list_any (is_foreign_try r.secrets table (original_header o) o.inner) l ≡ false) (tries_taken r o a t long) parts.1 in
    row_by table a.attempt o ((by_cipher r.secrets).body a.attempt.context a.attempt.index (original_header o) o.inner)
    (row_of table a.attempt.context a.attempt.index (original_header o) o.inner) refl (ap is_some t.opens)
    (any_false (is_foreign_try r.secrets table (original_header o) o.inner) t.attempts a.attempt none t.tried)

foreign_opened : (table : Table) (r : Receiver) (datagram : List ℕ) (o : Opened) → reach_of r datagram ≡ outer.Reached o → is_foreign table r datagram ≡ false
    → is_foreign_opened table r o ≡ false
unfolding is_foreign
foreign_opened table r datagram o reach known = ap (is_foreign_reach table r) (sym reach) ∙ known

-- The packet has a row, under the SSRC of the sender and at its index.
pub record IsRowOf (table : Table) (a : Accepted) : Type 0 where
  pub sender : a.attempt.context.ssrc ≡ a.header.ssrc
  pub row : Row
  pub found : row_at table a.attempt.context.ssrc a.attempt.index ≡ Some row

pub accepted_row : (table : Table) (r : Receiver) (datagram : List ℕ) (a : Accepted) → is_foreign table r datagram ≡ false → (outcome r datagram).0 ≡ Ok a
    → IsRowOf table a
accepted_row table r datagram a known is =
    let it = heard_taken (by_cipher r.secrets) r datagram a is in
    let o : Opened = it.0 in
    let t : IsTaken (by_cipher r.secrets) r o a = it.2 in
    let long = judged_long (by_cipher r.secrets) r o a (heard_judged (by_cipher r.secrets) r datagram o a it.1 is) in
    let row = opened_row table r o a t long (foreign_opened table r datagram o it.1 known) in
    record {
      sender = (taken_tried (by_cipher r.secrets) r o a t).sender ∙ ap (λ h. h.ssrc) (sym t.header);
      row = row.0;
      found = row.1;
    }
