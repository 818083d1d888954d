-- Words joined with an octet between each two, and lines one after another.
use Rattle.std.proofs.Common.{◌≡◌, ℕ, zero, suc, ◌+◌, ◌<◌, List, [], ◌∷◌, ◌++◌, length, take, map, refl, sym, ap, ◌∙◌, append_assoc, get_or, Bor, add-one, arith}
use Rattle.std.specs.List.{join_with_byte}

-- one more word at the end
pub join_push : (c : ℕ) (x : List ℕ) (xs : List (List ℕ)) (y : List ℕ) → join_with_byte c (x ∷ (xs ++ y ∷ [])) ≡ join_with_byte c (x ∷ xs) ++ c ∷ y
join_push c x [] y = refl
join_push c x (z ∷ xs) y =
    ap (λ t. x ++ c ∷ t) (join_push c z xs y) ∙ sym (append_assoc x (c ∷ join_with_byte c (z ∷ xs)) (c ∷ y))

pub take_push : {A B : Type 0} (f : A → B) (xs : List A) (k : ℕ) (d : A) → k < length xs → take (suc k) (map f xs) ≡ take k (map f xs) ++ f (get_or xs k d) ∷ []
take_push f [] k d within = absurd (omega arith)
take_push f (x ∷ xs) zero d within = refl
take_push f (x ∷ xs) (suc k) d within = ap (λ t. f x ∷ t) (take_push f xs k d (omega arith))

pub take_whole : {A B : Type 0} (f : A → B) (xs : List A) (k : ℕ) → k ≡ length xs → take k (map f xs) ≡ map f xs
take_whole f [] zero is = refl
take_whole f [] (suc k) is = absurd (omega arith)
take_whole f (x ∷ xs) zero is = absurd (omega arith)
take_whole f (x ∷ xs) (suc k) is = ap (λ t. f x ∷ t) (take_whole f xs k (omega arith))

-- A space and a word are appended to the words before it.
pub word_appended : (old verb : List ℕ) (words : List (Bor (List ℕ))) (k : ℕ) (d : Bor (List ℕ)) (a b c : List ℕ) → k < length words
    → a ≡ old ++ join_with_byte 32 (verb ∷ take k (map (λ w. w.now) words)) → b ≡ a ++ 32 ∷ [] → c ≡ b ++ (get_or words k d).now
    → c ≡ old ++ join_with_byte 32 (verb ∷ take (k + 1) (map (λ w. w.now) words))
word_appended old verb words k d a b c within before space word =
    let joined : List (List ℕ) → List ℕ = λ ws. join_with_byte 32 (verb ∷ ws) in
    let done : List (List ℕ) = take k (map (λ (w : Bor (List ℕ)). w.now) words) in
    let y : List ℕ = (get_or words k d).now in
    word
    ∙ ap (λ t. t ++ y) space
    ∙ append_assoc a (32 ∷ []) y
    ∙ ap (λ t. t ++ 32 ∷ y) before
    ∙ append_assoc old (joined done) (32 ∷ y)
    ∙ ap (λ t. old ++ t) (sym (join_push 32 verb done y) ∙ ap joined (sym (ap (λ n. take n (map (λ (w : Bor (List ℕ)). w.now) words)) (add-one k) ∙ take_push (λ (w : Bor (List ℕ)). w.now) words k d within)))

-- A line feed is appended to all words.
pub line_appended : (old verb : List ℕ) (words : List (Bor (List ℕ))) (k : ℕ) (a b : List ℕ) → k ≡ length words
    → a ≡ old ++ join_with_byte 32 (verb ∷ take k (map (λ w. w.now) words)) → b ≡ a ++ 10 ∷ []
    → b ≡ old ++ (join_with_byte 32 (verb ∷ map (λ w. w.now) words) ++ 10 ∷ [])
line_appended old verb words k a b whole before feed =
    feed ∙ ap (λ t. t ++ 10 ∷ []) (before ∙ ap (λ ws. old ++ join_with_byte 32 (verb ∷ ws)) (take_whole (λ (w : Bor (List ℕ)). w.now) words k whole))
    ∙ append_assoc old (join_with_byte 32 (verb ∷ map (λ (w : Bor (List ℕ)). w.now) words)) (10 ∷ [])
