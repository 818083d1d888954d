-- The texts of generated lines, from those of their words.
use Rattle.std.proofs.Common.{◌≡◌, ◌<◌, ◌≤◌, ℕ, zero, suc, ◌+◌, ◌*◌, Bool, true, false, cond, List, [], ◌∷◌, ◌++◌, take, refl, sym, ap, ◌∙◌, append_assoc, append-nil, arith}
use Rattle.std.specs.Prelude.{◌%◌, ◌==◌, ◌≢◌, replicate, codes, Some, None, Option, Result, Ok, Err, OnOk}
use Rattle.std.specs.Fmt.{decimal, digits}
use Rattle.std.specs.List.{flat_map, join_with_byte, range_with_len}
use Rattle.hex.specs.Hex.{encode_lower, encode_with}
use Rattle.byteorder.specs.Endian.{big_bytes}
use Rattle.perc_base.specs.declared.profile.Profile.TheVariants.{Aes128}
use Rattle.perc_word.specs.Word.{marker_text, payload_text, ssrc_text}
use Rattle.perc_script_line.specs.Script.{Conference, Deliver, Ekt, Forward, Rekey, Script}
use Rattle.perc_generator.specs.Generator.{forward_of, join_of, line_text, lines_text, made_lines, made_script, opening, rekey_of, repeat_of, roles_of, round_lines, send_of}

take_replicate : (k n x : ℕ) → k ≤ n → take k (replicate n x) ≡ replicate k x
take_replicate zero n x few = refl
take_replicate (suc k) zero x few = absurd (omega arith)
take_replicate (suc k) (suc n) x few = ap (λ (xs : List ℕ). x ∷ xs) (take_replicate k n x (omega arith))

abbrev pub line_of : List (List ℕ) → List ℕ
line_of words = join_with_byte 32 words ++ 10 ∷ []

-- a payload that isn't empty
pub payload_some : (count octet : ℕ) → count ≢ 0 → payload_text (replicate count octet) ≡ encode_lower (replicate count octet)
payload_some zero octet some = absurd (some refl)
payload_some (suc count) octet some = refl

pub payload_none : (count octet : ℕ) → count ≡ 0 → payload_text (replicate count octet) ≡ codes "-"
payload_none count octet none = rw none refl

hundred : codes "100" ≡ decimal 100
unfolding digits
hundred = refl

seven : codes "7" ≡ decimal 7
unfolding digits
seven = refl

first_seq : codes "65400" ≡ decimal 65400
unfolding digits
first_seq = refl

zero_digit : decimal 0 ≡ codes "0"
unfolding digits
zero_digit = refl

one_digit : decimal 1 ≡ codes "1"
unfolding digits
one_digit = refl

pub ann_ssrc : codes "00000001" ≡ ssrc_text 1
unfolding encode_with
ann_ssrc = refl

pub bob_ssrc : codes "00000002" ≡ ssrc_text 2
unfolding encode_with
bob_ssrc = refl

pub cat_ssrc : codes "00000003" ≡ ssrc_text 3
unfolding encode_with
cat_ssrc = refl

pub payload_spelled : (count octet : ℕ) → count < 40 → take count (replicate 39 octet) ≡ replicate count octet
payload_spelled count octet few = take_replicate count 39 octet (omega arith)

marker_at : (n : ℕ) → n < 2 → decimal n ≡ marker_text (n == 1)
marker_at zero few = zero_digit
marker_at (suc zero) few = one_digit
marker_at (suc (suc n)) few = absurd (omega arith)

pub send_text : (r : ℕ) (speaker pt marker timestamp payload : List ℕ) → speaker ≡ (roles_of r).speaker → pt ≡ decimal (r % 64) → marker ≡ decimal (r % 2) → timestamp ≡ decimal (160 * r)
    → payload ≡ payload_text (replicate (r % 40) (r % 256)) → line_of (codes "send" ∷ speaker ∷ pt ∷ marker ∷ timestamp ∷ payload ∷ []) ≡ line_text (send_of r)
send_text r speaker pt marker timestamp payload a b c d e =
    ap (λ (w : List ℕ). line_of (codes "send" ∷ w ∷ pt ∷ marker ∷ timestamp ∷ payload ∷ [])) a
    ∙ ap (λ (w : List ℕ). line_of (codes "send" ∷ (roles_of r).speaker ∷ w ∷ marker ∷ timestamp ∷ payload ∷ [])) b
    ∙ ap (λ (w : List ℕ). line_of (codes "send" ∷ (roles_of r).speaker ∷ decimal (r % 64) ∷ w ∷ timestamp ∷ payload ∷ [])) (c ∙ marker_at (r % 2) (grind arith))
    ∙ ap (λ (w : List ℕ). line_of (codes "send" ∷ (roles_of r).speaker ∷ decimal (r % 64) ∷ marker_text (r % 2 == 1) ∷ w ∷ payload ∷ [])) d
    ∙ ap (λ (w : List ℕ). line_of (codes "send" ∷ (roles_of r).speaker ∷ decimal (r % 64) ∷ marker_text (r % 2 == 1) ∷ decimal (160 * r) ∷ w ∷ [])) e

abbrev pt_of : Bool → Option ℕ
pt_of b = cond b (Some 100) None

forward_by : (r : ℕ) (b : Bool) → (r % 2 == 1) ≡ b → Forward (roles_of r).speaker ((3 * r + 1) ∷ []) (record { pt = pt_of b; shift = Some 7; marker = None; extension = None }) None ≡ forward_of r
forward_by r b is = ap (λ (x : Bool). Forward (roles_of r).speaker ((3 * r + 1) ∷ []) (record { pt = pt_of x; shift = Some 7; marker = None; extension = None }) None) (sym is)

pub forward_text : (r : ℕ) (speaker number : List ℕ) → speaker ≡ (roles_of r).speaker → number ≡ decimal (3 * r + 1) → (r % 2 == 1) ≡ true
    → line_of (codes "forward" ∷ speaker ∷ number ∷ codes "pt=100" ∷ codes "shift=7" ∷ []) ≡ line_text (forward_of r)
forward_text r speaker number a b odd =
    ap (λ (w : List ℕ). line_of (codes "forward" ∷ w ∷ number ∷ codes "pt=100" ∷ codes "shift=7" ∷ [])) a
    ∙ ap (λ (w : List ℕ). line_of (codes "forward" ∷ (roles_of r).speaker ∷ w ∷ codes "pt=100" ∷ codes "shift=7" ∷ [])) b
    ∙ ap (λ (w : List ℕ). line_of (codes "forward" ∷ (roles_of r).speaker ∷ decimal (3 * r + 1) ∷ (codes "pt=" ++ w) ∷ codes "shift=7" ∷ [])) hundred
    ∙ ap (λ (w : List ℕ). line_of (codes "forward" ∷ (roles_of r).speaker ∷ decimal (3 * r + 1) ∷ (codes "pt=" ++ decimal 100) ∷ (codes "shift=" ++ w) ∷ [])) seven
    ∙ ap line_text (forward_by r true odd)

pub forward_plain : (r : ℕ) (speaker number : List ℕ) → speaker ≡ (roles_of r).speaker → number ≡ decimal (3 * r + 1) → (r % 2 == 1) ≡ false
    → line_of (codes "forward" ∷ speaker ∷ number ∷ codes "shift=7" ∷ []) ≡ line_text (forward_of r)
forward_plain r speaker number a b even =
    ap (λ (w : List ℕ). line_of (codes "forward" ∷ w ∷ number ∷ codes "shift=7" ∷ [])) a
    ∙ ap (λ (w : List ℕ). line_of (codes "forward" ∷ (roles_of r).speaker ∷ w ∷ codes "shift=7" ∷ [])) b
    ∙ ap (λ (w : List ℕ). line_of (codes "forward" ∷ (roles_of r).speaker ∷ decimal (3 * r + 1) ∷ (codes "shift=" ++ w) ∷ [])) seven
    ∙ ap line_text (forward_by r false even)

pub rekey_text : (r : ℕ) (speaker key : List ℕ) → speaker ≡ (roles_of r).speaker → key ≡ encode_lower (big_bytes 16 (1000 + r)) → (r % 30 == 29) ≡ true
    → line_of (codes "rekey" ∷ speaker ∷ key ∷ []) ≡ lines_text (rekey_of r)
rekey_text r speaker key a b due =
    ap (λ (w : List ℕ). line_of (codes "rekey" ∷ w ∷ key ∷ [])) a
    ∙ ap (λ (w : List ℕ). line_of (codes "rekey" ∷ (roles_of r).speaker ∷ w ∷ [])) b
    ∙ sym (append-nil (line_text (Rekey (roles_of r).speaker (big_bytes 16 (1000 + r)))))
    ∙ ap (λ (b : Bool). lines_text (cond b (Rekey (roles_of r).speaker (big_bytes 16 (1000 + r)) ∷ []) [])) (sym due)

pub ekt_text : (key salt : List ℕ) → key ≡ encode_lower (replicate 16 1) → salt ≡ encode_lower (replicate 12 2)
    → line_of (codes "ekt" ∷ key ∷ salt ∷ []) ≡ line_text (Ekt (replicate 16 1) (replicate 12 2))
ekt_text key salt a b =
    ap (λ (w : List ℕ). line_of (codes "ekt" ∷ w ∷ salt ∷ [])) a ∙ ap (λ (w : List ℕ). line_of (codes "ekt" ∷ encode_lower (replicate 16 1) ∷ w ∷ [])) b

pub join_text : (name ssrc client server key : List ℕ) (number octet : ℕ) → ssrc ≡ ssrc_text number → client ≡ encode_lower (replicate 28 (octet + 1))
    → server ≡ encode_lower (replicate 28 (octet + 2)) → key ≡ encode_lower (replicate 16 (octet + 3))
    → line_of (codes "join" ∷ name ∷ ssrc ∷ codes "65400" ∷ client ∷ server ∷ key ∷ []) ≡ line_text (join_of name number octet)
join_text name ssrc client server key number octet a b c d =
    let seq : codes "65400" ≡ decimal 65400 = first_seq in
    ap (λ (w : List ℕ). line_of (codes "join" ∷ name ∷ w ∷ codes "65400" ∷ client ∷ server ∷ key ∷ [])) a
    ∙ ap (λ (w : List ℕ). line_of (codes "join" ∷ name ∷ ssrc_text number ∷ w ∷ client ∷ server ∷ key ∷ [])) seq
    ∙ ap (λ (w : List ℕ). line_of (codes "join" ∷ name ∷ ssrc_text number ∷ decimal 65400 ∷ w ∷ server ∷ key ∷ [])) b
    ∙ ap (λ (w : List ℕ). line_of (codes "join" ∷ name ∷ ssrc_text number ∷ decimal 65400 ∷ encode_lower (replicate 28 (octet + 1)) ∷ w ∷ key ∷ [])) c
    ∙ ap (λ (w : List ℕ). line_of (codes "join" ∷ name ∷ ssrc_text number ∷ decimal 65400 ∷ encode_lower (replicate 28 (octet + 1)) ∷ encode_lower (replicate 28 (octet + 2)) ∷ w ∷ [])) d

-- ---- lines one after another

pub lines_pushed : (xs ys : List Script) → lines_text (xs ++ ys) ≡ lines_text xs ++ lines_text ys
lines_pushed [] ys = refl
lines_pushed (x ∷ xs) ys = ap (λ (t : List ℕ). line_text x ++ t) (lines_pushed xs ys) ∙ sym (append_assoc (line_text x) (lines_text xs) (lines_text ys))

pub text_after : (old a b s t : List ℕ) → a ≡ old ++ s → b ≡ a ++ t → b ≡ old ++ (s ++ t)
text_after old a b s t ha hb = hb ∙ ap (λ (xs : List ℕ). xs ++ t) ha ∙ append_assoc old s t

pub five_texts : (old a b c d e s t u v w : List ℕ) → a ≡ old ++ s → b ≡ a ++ t → c ≡ b ++ u → d ≡ c ++ v → e ≡ d ++ w → e ≡ old ++ (s ++ (t ++ (u ++ (v ++ w))))
five_texts old a b c d e s t u v w ha hb hc hd he =
    text_after old a e s (t ++ (u ++ (v ++ w))) ha (text_after a b e t (u ++ (v ++ w)) hb (text_after b c e u (v ++ w) hc (text_after c d e v w hd he)))

-- a round, line after line
pub round_text : (r : ℕ) (old a b c d e f : List ℕ) → a ≡ old ++ line_text (send_of r) → b ≡ a ++ line_text (forward_of r) → c ≡ b ++ line_text (Deliver (3 * r + 2) (roles_of r).first)
    → d ≡ c ++ line_text (Deliver (3 * r + 3) (roles_of r).second) → e ≡ d ++ lines_text (repeat_of r) → f ≡ e ++ lines_text (rekey_of r)
    → f ≡ old ++ lines_text (round_lines r)
round_text r old a b c d e f ha hb hc hd he hf =
    five_texts old a b c d f (line_text (send_of r)) (line_text (forward_of r)) (line_text (Deliver (3 * r + 2) (roles_of r).first)) (line_text (Deliver (3 * r + 3) (roles_of r).second))
    (lines_text (repeat_of r) ++ lines_text (rekey_of r)) ha hb hc hd (text_after d e f (lines_text (repeat_of r)) (lines_text (rekey_of r)) he hf)
    ∙ ap (λ (t : List ℕ). old ++ (line_text (send_of r) ++ (line_text (forward_of r) ++ (line_text (Deliver (3 * r + 2) (roles_of r).first) ++ (line_text (Deliver (3 * r + 3) (roles_of r).second) ++ t)))))
    (sym (lines_pushed (repeat_of r) (rekey_of r)))

-- the opening, line after line
pub opening_text : (old a b c d e : List ℕ) → a ≡ old ++ line_text (Conference Aes128) → b ≡ a ++ line_text (Ekt (replicate 16 1) (replicate 12 2)) → c ≡ b ++ line_text (join_of (codes "Ann") 1 160)
    → d ≡ c ++ line_text (join_of (codes "Bob") 2 176) → e ≡ d ++ line_text (join_of (codes "Cat") 3 192) → e ≡ old ++ lines_text opening
opening_text old a b c d e ha hb hc hd he =
    five_texts old a b c d e (line_text (Conference Aes128)) (line_text (Ekt (replicate 16 1) (replicate 12 2))) (line_text (join_of (codes "Ann") 1 160)) (line_text (join_of (codes "Bob") 2 176))
    (line_text (join_of (codes "Cat") 3 192) ++ []) ha hb hc hd (he ∙ ap (λ (t : List ℕ). d ++ t) (sym (append-nil (line_text (join_of (codes "Cat") 3 192)))))

-- ---- rounds

rounds_push : (from count : ℕ) → flat_map round_lines (range_with_len from (suc count)) ≡ flat_map round_lines (range_with_len from count) ++ round_lines (from + count)
rounds_push from zero = let same : from ≡ from + 0 = omega arith in append-nil (round_lines from) ∙ ap round_lines same
rounds_push from (suc count) =
    let same : from + 1 + count ≡ from + suc count = omega arith in
    ap (λ (xs : List Script). round_lines from ++ xs) (rounds_push (from + 1) count ∙ ap (λ (n : ℕ). flat_map round_lines (range_with_len (from + 1) count) ++ round_lines n) same)
    ∙ sym (append_assoc (round_lines from) (flat_map round_lines (range_with_len (from + 1) count)) (round_lines (from + suc count)))

made_push : (k : ℕ) → lines_text (made_lines (suc k)) ≡ lines_text (made_lines k) ++ lines_text (round_lines k)
made_push k =
    let same : 0 + k ≡ k = omega arith in
    ap lines_text (ap (λ (xs : List Script). opening ++ xs) (rounds_push 0 k ∙ ap (λ (n : ℕ). flat_map round_lines (range_with_len 0 k) ++ round_lines n) same)
    ∙ sym (append_assoc opening (flat_map round_lines (range_with_len 0 k)) (round_lines k)))
    ∙ lines_pushed (made_lines k) (round_lines k)

pub script_begun : (old a : List ℕ) → a ≡ old ++ lines_text opening → a ≡ old ++ lines_text (made_lines 0)
script_begun old a is = is

pub script_step : (old a b : List ℕ) (k : ℕ) → a ≡ old ++ lines_text (made_lines k) → b ≡ a ++ lines_text (round_lines k) → b ≡ old ++ lines_text (made_lines (k + 1))
script_step old a b k ha hb =
    let same : suc k ≡ k + 1 = omega arith in
    text_after old a b (lines_text (made_lines k)) (lines_text (round_lines k)) ha hb
    ∙ ap (λ (t : List ℕ). old ++ t) (sym (made_push k)) ∙ ap (λ (n : ℕ). old ++ lines_text (made_lines n)) same

pub script_done : (old a : List ℕ) (rounds k : ℕ) → k ≡ rounds → a ≡ old ++ lines_text (made_lines k) → a ≡ old ++ made_script rounds
unfolding made_script
script_done old a rounds k same is = is ∙ ap (λ (n : ℕ). old ++ lines_text (made_lines n)) same

pub on_ok : {A E P Q : Type 0} (r : Result A E) → (P → Q) → OnOk r P → OnOk r Q
on_ok (Ok x) f p = f p
on_ok (Err e) f p = tt
