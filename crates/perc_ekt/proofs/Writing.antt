-- Octets that are written one part after the other.
use Rattle.std.proofs.Common.{◌≡◌, ℕ, ◌+◌, ◌-◌, ◌≤◌, List, [], ◌∷◌, ◌++◌, length, take, drop, set, refl, sym, ap, ◌∙◌, append_assoc, arith}
use Rattle.std.proofs.lemmas.List.{append-nil, take_at, drop_at, take_rest, drop_all, drop-drop, length-append, length-drop}
use borrow.Rule.Slice.PartMut.{put_mid, mid_of}

-- Behind what was written, one part more was written to the front of the rest.
pub written_more : (w b old new part : List ℕ) (n k : ℕ) → length w ≡ n → length b ≡ k → n + k ≤ length old → new ≡ w ++ drop n old
    → part ≡ b ++ drop k (mid_of n (length new - n) new) → put_mid n (length new - n) new part ≡ (w ++ b) ++ drop (n + k) old
written_more w b old new part n k lw lb fits is_new is_part =
    let rest : drop n new ≡ drop n old = ap (drop n) is_new ∙ drop_at w (drop n old) n lw in
    let front : take n new ≡ w = ap (take n) is_new ∙ take_at w (drop n old) n lw in
    let mid : take (length new - n) (drop n new) ≡ drop n old = take_rest new n ∙ rest in
    let behind : drop (length new - n) (drop n new) ≡ [] = drop_all (length new - n) (drop n new) (omega (arith, length-drop n new)) in
    let whole : part ≡ b ++ drop (n + k) old = is_part ∙ ap (λ (r : List ℕ). b ++ drop k r) mid ∙ ap (λ (r : List ℕ). b ++ r) (drop-drop k n old) in
    ap (λ (r : List ℕ). take n new ++ (part ++ r)) behind
    ∙ ap (λ (r : List ℕ). take n new ++ r) (append-nil part ∙ whole)
    ∙ ap (λ (r : List ℕ). r ++ (b ++ drop (n + k) old)) front
    ∙ sym (append_assoc w b (drop (n + k) old))

-- the same where the room is an array
pub written_in : (total : ℕ) (w b old new part : List ℕ) (n k : ℕ) → length w ≡ n → length b ≡ k → n + k ≤ total → length old ≡ total → new ≡ w ++ drop n old
    → part ≡ b ++ drop k (mid_of n (total - n) new) → put_mid n (total - n) new part ≡ (w ++ b) ++ drop (n + k) old
written_in total w b old new part n k lw lb fits room is_new is_part =
    let size : length new ≡ total = omega (arith, ap length is_new, length-append w (drop n old), length-drop n old) in
    let part_is : part ≡ b ++ drop k (mid_of n (length new - n) new) = is_part ∙ ap (λ (m : ℕ). b ++ drop k (mid_of n (m - n) new)) (sym size) in
    ap (λ (m : ℕ). put_mid n (m - n) new part) (sym size) ∙ written_more w b old new part n k lw lb (omega arith) is_new part_is

-- the first octet was written
pub set_first : (old : List ℕ) (x : ℕ) → 1 ≤ length old → set old 0 x ≡ (x ∷ []) ++ drop 1 old
set_first [] x some = absurd (omega arith)
set_first (y ∷ old) x some = refl
