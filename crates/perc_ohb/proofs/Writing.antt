-- A block that is written one part after the other.
use Rattle.std.proofs.Common.{◌≡◌, ℕ, ◌+◌, ◌-◌, ◌<◌, List, [], ◌∷◌, ◌++◌, length, take, drop, get_or, set, sym, ap, ◌∙◌, append_assoc, arith}
use Rattle.std.proofs.lemmas.List.{append-nil, take_at, drop_at, take_rest, drop_all, drop_more, drop-drop, set_at, length-append, length-drop}
use borrow.Rule.Slice.PartMut.{put_mid, mid_of}

-- Behind the part w, the part b was written to the front of the rest, and then one octet behind both.
pub written_parts : (w b old new part : List ℕ) (t n k octet : ℕ) → length old ≡ t → n ≡ length w → k ≡ length b → n + k < t → new ≡ w ++ drop n old
    → part ≡ b ++ drop k (mid_of n (t - n) new) → set (put_mid n (t - n) new part) (n + k) octet ≡ ((w ++ b) ++ octet ∷ []) ++ drop (n + k + 1) old
written_parts w b old new part t n k octet total lw lb fits is_new is_part =
    let whole_len : length new ≡ n + (t - n) = ap length is_new ∙ omega (arith, length-append w (drop n old), length-drop n old) in
    let rest : drop n new ≡ drop n old = ap (drop n) is_new ∙ drop_at w (drop n old) n (sym lw) in
    let front : take n new ≡ w = ap (take n) is_new ∙ take_at w (drop n old) n (sym lw) in
    let room : length new - n ≡ t - n = omega arith in
    let mid : take (t - n) (drop n new) ≡ drop n old = ap (λ (j : ℕ). take j (drop n new)) (sym room) ∙ take_rest new n ∙ rest in
    let behind : drop (t - n) (drop n new) ≡ [] = drop_all (t - n) (drop n new) (omega (arith, length-drop n new)) in
    let whole : part ≡ b ++ drop (n + k) old = is_part ∙ ap (λ (r : List ℕ). b ++ drop k r) mid ∙ ap (λ (r : List ℕ). b ++ r) (drop-drop k n old) in
    let both : put_mid n (t - n) new part ≡ (w ++ b) ++ drop (n + k) old =
    ap (λ (r : List ℕ). take n new ++ (part ++ r)) behind
    ∙ ap (λ (r : List ℕ). take n new ++ r) (append-nil part ∙ whole)
    ∙ ap (λ (r : List ℕ). r ++ (b ++ drop (n + k) old)) front
    ∙ sym (append_assoc w b (drop (n + k) old)) in
    let at : length (w ++ b) ≡ n + k = omega (arith, length-append w b) in
    ap (λ (r : List ℕ). set r (n + k) octet) (both ∙ ap (λ (r : List ℕ). (w ++ b) ++ r) (drop_more old (n + k) 0 (omega arith)))
    ∙ set_at (w ++ b) (get_or old (n + k) 0) (drop (n + k + 1) old) octet (n + k) at
    ∙ sym (append_assoc (w ++ b) (octet ∷ []) (drop (n + k + 1) old))
