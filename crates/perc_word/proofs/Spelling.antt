-- What one word says, and the one word that says it: both ways at once, for each kind of word.
use Rattle.std.proofs.Common.{◌≡◌, ℕ, zero, suc, ◌+◌, ◌*◌, ◌/◌, ◌%◌, ◌^◌, ◌<◌, ◌≤◌, ◌==◌, Bool, true, false, not, cond, ◌⊎◌, inl, inr, List, [], ◌∷◌, length, Option, Some, None, Result, Ok, Err, refl, sym, ap, ◌∙◌, subst, arith}
use Rattle.std.specs.Prelude.{codes, nat_lt, option_and_then}
use Rattle.std.specs.Fmt.{decimal}
use Rattle.std.specs.List.{list_all}
use Rattle.std.specs.Str.{bytes_eq}
use Rattle.std.proofs.lemmas.Bool.{and_parts, and_from, and_right, eqb-true, eqb-false, leb-true, ltb-true, lt-ltb, ne_eqb}
use Rattle.std.proofs.lemmas.Bool.Decides.{nat_tests}
use Rattle.std.proofs.lemmas.Fmt.{digits_value-decimal, digits_decimal}
use Rattle.std.proofs.lemmas.Option.{cond_some, same_Some}
use Rattle.std.proofs.lemmas.Slice.Eq.{bytes_eq-Decides}
use Rattle.byteorder.specs.Endian.{big_bytes, big_number}
use Rattle.hex.specs.Hex.{IsBytes, decode_of, encode_lower, encode_with, lower_digits}
use Rattle.hex.specs.declared.error.FromHexError.{FromHexError}
use Rattle.hex.proofs.HexLemmas.{decode_of-ok, decode_of-encode_lower, length-encode_with}
use Rattle.perc_word.specs.Word.{is_upper, is_alphanumeric, is_name, IsName, name_in, name_text, number_in, value_onto, are_octets, AreSomeOctets, Also}
use Rattle.perc_word.specs.Word.{only, text_in, marker_in, marker_text, octets_in, spelled_by, ssrc_in, ssrc_text, payload_in, payload_text, dash}
use Rattle.perc_word.specs.Digits.{is_digit, is_lower_digit}
use Rattle.perc_word.proofs.Numerals.{own, decimal-numeral, number_some}
use Rattle.perc_word.proofs.Spelled.{encode-lower}
use Rattle.perc_word.proofs.Split.{is_free}

-- A kind of word: what reads it, the text of what it says, and what that fulfils. No separator stands in the text.
pub record Spelling {A : Type 0} (reads : List ℕ → Option A) (text : A → List ℕ) (Fits : A → Type 0) : Type 0 where
  pub back : (word : List ℕ) (value : A) → reads word ≡ Some value → (word ≡ text value) × Fits value
  pub again : (value : A) → Fits value → reads (text value) ≡ Some value
  pub free : (value : A) → Fits value → is_free 32 (text value) ≡ true

-- ---- steps

-- what a value behind two steps shows
pub bind_some : {A B : Type 0} (o : Option A) (f : A → Option B) (y : B) → option_and_then f o ≡ Some y → (x : A) × (o ≡ Some x) × (f x ≡ Some y)
bind_some (Some x) f y h = (x, refl, h)
bind_some None f y h = cc h

pub chosen : {A : Type 0} (b : Bool) (x y z : A) → cond b x y ≡ z → ((b ≡ true) × (x ≡ z)) ⊎ ((b ≡ false) × (y ≡ z))
chosen true x y z h = inl (refl, h)
chosen false x y z h = inr (refl, h)

pub same : (word text : List ℕ) → bytes_eq word text ≡ true → word ≡ text
same word text h = (bytes_eq-Decides word text).0 h

pub itself : (word : List ℕ) → bytes_eq word word ≡ true
itself word = (bytes_eq-Decides word word).1 refl

all_weaker : (p q : ℕ → Bool) → ((c : ℕ) → p c ≡ true → q c ≡ true) → (xs : List ℕ) → list_all p xs ≡ true → list_all q xs ≡ true
all_weaker p q h [] e = refl
all_weaker p q h (x ∷ xs) e = let parts = and_parts (p x) (list_all p xs) e in and_from _ _ (h x parts.0) (all_weaker p q h xs parts.1)

-- ---- tests

only-back : {A : Type 0} (reads : List ℕ → Option A) (text : A → List ℕ) (Fits : A → Type 0) → Spelling reads text Fits → (test : A → Bool)
    → (word : List ℕ) (value : A) → only test reads word ≡ Some value → (word ≡ text value) × Also Fits test value
only-back reads text Fits kind test word value h =
    let first = bind_some (reads word) _ value h in
    let back = kind.back word first.0 first.1 in
    let parts = cond_some _ _ _ first.2 in
    (back.0 ∙ ap text parts.1, record { fits = subst Fits parts.1 back.1; passes = sym (ap test parts.1) ∙ parts.0 })

only-again : {A : Type 0} (reads : List ℕ → Option A) (text : A → List ℕ) (Fits : A → Type 0) → Spelling reads text Fits → (test : A → Bool)
    → (value : A) → Also Fits test value → only test reads (text value) ≡ Some value
only-again reads text Fits kind test value h = rw (kind.again value h.fits, h.passes) refl

pub only_spelling : {A : Type 0} (reads : List ℕ → Option A) (text : A → List ℕ) (Fits : A → Type 0) → Spelling reads text Fits → (test : A → Bool) → Spelling (only test reads) text (Also Fits test)
only_spelling reads text Fits kind test = record {
  back = only-back reads text Fits kind test;
  again = only-again reads text Fits kind test;
  free = λ value h. kind.free value h.fits;
}

-- ---- texts

found : {A : Type 0} (text : A → List ℕ) (values : List A) (word : List ℕ) (value : A) → text_in text values word ≡ Some value → word ≡ text value
found text [] word value h = cc h
found text (v ∷ vs) word value h =
    elim (chosen (bytes_eq (text v) word) (Some v) (text_in text vs word) (Some value) h) [
      | inl at ↦ sym (same (text v) word at.0) ∙ ap text (same_Some v value at.1)
      | inr other ↦ found text vs word value other.1
    ]

-- a value for each of some texts
pub text_spelling : {A : Type 0} (text : A → List ℕ) (values : List A) (Fits : A → Type 0) → ((word : List ℕ) (value : A) → text_in text values word ≡ Some value → Fits value)
    → ((value : A) → Fits value → text_in text values (text value) ≡ Some value) → ((value : A) → Fits value → is_free 32 (text value) ≡ true) → Spelling (text_in text values) text Fits
text_spelling text values Fits fits again free = record {
  back = λ word value h. (found text values word value h, fits word value h);
  again = again;
  free = free;
}

-- ---- markers

marker-back : (word : List ℕ) (marker : Bool) → marker_in word ≡ Some marker → (word ≡ marker_text marker) × Unit {0}
marker-back word marker h =
    elim (chosen (bytes_eq word (codes "1")) (Some true) (cond (bytes_eq word (codes "0")) (Some false) None) (Some marker) h) [
      | inl one ↦ (same word (codes "1") one.0 ∙ ap marker_text (same_Some true marker one.1), tt)
      | inr other ↦
          let zero = cond_some _ _ _ other.1 in
          (same word (codes "0") zero.0 ∙ ap marker_text zero.1, tt)
    ]

marker-again : (marker : Bool) → Unit {0} → marker_in (marker_text marker) ≡ Some marker
marker-again true h = refl
marker-again false h = refl

marker-free : (marker : Bool) → Unit {0} → is_free 32 (marker_text marker) ≡ true
marker-free true h = refl
marker-free false h = refl

pub marker_spelling : Spelling marker_in marker_text (λ _. Unit {0})
marker_spelling = record {
  back = marker-back;
  again = marker-again;
  free = marker-free;
}

-- ---- names

-- an octet that is no space and no comma
abbrev is_inside : ℕ → Bool
is_inside c = nat_lt 44 c

inside-free : (c : ℕ) → c ≤ 44 → (xs : List ℕ) → list_all is_inside xs ≡ true → is_free c xs ≡ true
inside-free c le xs h = all_weaker is_inside (λ x. not (x == c)) other xs h
  where
    other : (x : ℕ) → is_inside x ≡ true → not (x == c) ≡ true
    other x t = grind (arith, nat_tests)

alphanumeric-inside : (c : ℕ) → is_alphanumeric c ≡ true → is_inside c ≡ true
alphanumeric-inside c h = grind (arith, nat_tests)

upper-inside : (c : ℕ) → is_upper c ≡ true → is_inside c ≡ true
upper-inside c h = grind (arith, nat_tests)

digit-inside : (c : ℕ) → is_digit c ≡ true → is_inside c ≡ true
digit-inside c h = grind (arith, nat_tests)

lower_digit-inside : (c : ℕ) → is_lower_digit c ≡ true → is_inside c ≡ true
lower_digit-inside c h = grind (arith, nat_tests)

name-inside : (name : List ℕ) → is_name name ≡ true → list_all is_inside name ≡ true
name-inside [] h = cc h
name-inside (c ∷ cs) h =
    let parts = and_parts _ _ (and_parts _ _ h).0 in
    and_from _ _ (upper-inside c parts.0) (all_weaker is_alphanumeric _ alphanumeric-inside cs parts.1)

name-back : (word name : List ℕ) → name_in word ≡ Some name → (word ≡ name) × IsName name
name-back word name h = let parts = cond_some (is_name word) word name h in (parts.1, subst IsName parts.1 parts.0)

pub name_spelling : Spelling name_in name_text IsName
name_spelling = record {
  back = name-back;
  again = λ name h. rw h refl;
  free = λ name h. inside-free 32 (omega arith) name (name-inside name h);
}

pub name-no_comma : (name : List ℕ) → IsName name → is_free 44 name ≡ true
name-no_comma name h = inside-free 44 (omega arith) name (name-inside name h)

-- ---- numbers

number-back : (greatest : ℕ) (word : List ℕ) (n : ℕ) → number_in greatest word ≡ Some n → (word ≡ decimal n) × (n ≤ greatest)
unfolding number_in
number-back greatest word n h =
    let parts = cond_some _ _ _ h in
    let tests = and_parts _ _ parts.0 in
    let small : value_onto 0 word ≤ greatest = leb-true _ _ tests.1 in
    let is : value_onto 0 word ≡ n = parts.1 in
    (same word _ tests.0 ∙ ap decimal is, omega arith)

number-again : (greatest n : ℕ) → greatest < 2 ^ 60 → n ≤ greatest → number_in greatest (decimal n) ≡ Some n
number-again greatest n fits h =
    let lt : n < 2 ^ 64 = omega arith in
    number_some greatest n (decimal n) (decimal-numeral n lt) (digits_value-decimal own n lt) h fits

decimal-inside : (n : ℕ) → n < 2 ^ 64 → list_all is_inside (decimal n) ≡ true
decimal-inside n h = all_weaker is_digit _ digit-inside (decimal n) (digits_decimal own n h)

pub number_spelling : (greatest : ℕ) → greatest < 2 ^ 60 → Spelling (number_in greatest) decimal (λ n. n ≤ greatest)
number_spelling greatest fits = record {
  back = number-back greatest;
  again = λ n h. number-again greatest n fits h;
  free = λ n h. inside-free 32 (omega arith) (decimal n) (decimal-inside n (omega arith));
}

pub number-no_comma : (n : ℕ) → n < 2 ^ 60 → is_free 44 (decimal n) ≡ true
number-no_comma n h = inside-free 44 (omega arith) (decimal n) (decimal-inside n (omega arith))

-- ---- octets

pub bytes_from : (xs : List ℕ) → are_octets xs ≡ true → IsBytes xs
bytes_from [] h i = omega arith
bytes_from (x ∷ xs) h zero = ltb-true x 256 (and_parts _ _ h).0
bytes_from (x ∷ xs) h (suc i) = bytes_from xs (and_parts (nat_lt x 256) _ h).1 i

pub octets_from : (xs : List ℕ) → IsBytes xs → are_octets xs ≡ true
octets_from [] h = refl
octets_from (x ∷ xs) h = and_from _ _ (lt-ltb _ _ (h 0)) (octets_from xs (λ i. h (suc i)))

spelled_by-some : (word octets : List ℕ) (r : Result (List ℕ) FromHexError) → decode_of word ≡ r → spelled_by word r ≡ Some octets → (word ≡ encode_lower octets) × IsBytes octets
spelled_by-some word octets (Ok xs) e h =
    let parts = cond_some _ _ _ h in
    let bytes = (decode_of-ok word xs e).3 in
    (same word _ parts.0 ∙ ap encode_lower parts.1, rw (← parts.1) bytes)
spelled_by-some word octets (Err x) e h = cc h

encode-empty : (octets : List ℕ) (word : List ℕ) → word ≡ encode_lower octets → (length word ≡ 0 → ⊥) → 1 ≤ length octets
unfolding encode_with
encode-empty [] word e some = absurd (some (ap length e))
encode-empty (x ∷ xs) word e some = omega arith

octets-back : (word octets : List ℕ) → octets_in word ≡ Some octets → (word ≡ encode_lower octets) × AreSomeOctets octets
unfolding octets_in
octets-back word octets h =
    elim (chosen (length word == 0) None (spelled_by word (decode_of word)) (Some octets) h) [
      | inl none ↦ cc none.1
      | inr some ↦
          let r = spelled_by-some word octets (decode_of word) refl some.1 in
          (r.0, record { some = encode-empty octets word r.0 (eqb-false _ 0 some.0); octets = octets_from octets r.1 })
    ]

octets-again : (octets : List ℕ) → AreSomeOctets octets → octets_in (encode_lower octets) ≡ Some octets
unfolding octets_in
octets-again octets h =
    let len = length-encode_with lower_digits octets in
    let some = h.some in
    let filled : length (encode_lower octets) ≡ 0 → ⊥ = λ e. omega arith in
    rw (ne_eqb _ 0 filled, decode_of-encode_lower octets (bytes_from octets h.octets), itself (encode_lower octets)) refl

encode-inside : (octets : List ℕ) → are_octets octets ≡ true → list_all is_inside (encode_lower octets) ≡ true
encode-inside octets h = all_weaker is_lower_digit _ lower_digit-inside (encode_lower octets) (encode-lower octets (bytes_from octets h))

encode-free : (octets : List ℕ) → are_octets octets ≡ true → is_free 32 (encode_lower octets) ≡ true
encode-free octets h = inside-free 32 (omega arith) (encode_lower octets) (encode-inside octets h)

pub octets_spelling : Spelling octets_in encode_lower AreSomeOctets
octets_spelling = record {
  back = octets-back;
  again = octets-again;
  free = λ octets h. encode-free octets h.octets;
}

-- ---- SSRCs

four-parts : (n a b c d : ℕ) → a < 256 → b < 256 → c < 256 → d < 256 → n ≡ a * 16777216 + b * 65536 + c * 256 + d
    → (n / 16777216 % 256 ≡ a) × (n / 65536 % 256 ≡ b) × (n / 256 % 256 ≡ c) × (n % 256 ≡ d)
four-parts n a b c d ha hb hc hd e = (omega arith, omega arith, omega arith, omega arith)

cons_four : {a b c d e f g h : ℕ} → a ≡ e → b ≡ f → c ≡ g → d ≡ h → a ∷ b ∷ c ∷ d ∷ [] ≡ e ∷ f ∷ g ∷ h ∷ []
cons_four p q r s = cc

four-back : (xs : List ℕ) → length xs ≡ 4 → IsBytes xs → big_bytes 4 (big_number 4 xs) ≡ xs
four-back [] len h = absurd (omega arith)
four-back (a ∷ []) len h = absurd (omega arith)
four-back (a ∷ b ∷ []) len h = absurd (omega arith)
four-back (a ∷ b ∷ c ∷ []) len h = absurd (omega arith)
four-back (a ∷ b ∷ c ∷ d ∷ e ∷ rest) len h = absurd (omega arith)
four-back (a ∷ b ∷ c ∷ d ∷ []) len h =
    let parts = four-parts (big_number 4 (a ∷ b ∷ c ∷ d ∷ [])) a b c d (h 0) (h 1) (h 2) (h 3) (omega arith) in
    cons_four parts.0 parts.1 parts.2 parts.3

four-again : (n : ℕ) → n < 2 ^ 32 → big_number 4 (big_bytes 4 n) ≡ n
four-again n h = omega arith

bytes-four : (n : ℕ) → are_octets (big_bytes 4 n) ≡ true
bytes-four n = octets_from (big_bytes 4 n) all
  where
    all : IsBytes (big_bytes 4 n)
    all zero = omega arith
    all (suc zero) = omega arith
    all (suc (suc zero)) = omega arith
    all (suc (suc (suc zero))) = omega arith
    all (suc (suc (suc (suc i)))) = omega arith

four_octets : (octets : List ℕ) → IsBytes octets → big_number 4 octets ≤ 4294967295
four_octets octets h = omega (arith, h 0, h 1, h 2, h 3)

ssrc-back : (word : List ℕ) (ssrc : ℕ) → ssrc_in word ≡ Some ssrc → (word ≡ ssrc_text ssrc) × (ssrc ≤ 4294967295)
unfolding ssrc_in
ssrc-back word ssrc h =
    let first = bind_some (octets_in word) _ ssrc h in
    let back = octets-back word first.0 first.1 in
    let bytes = bytes_from first.0 back.1.octets in
    let four = cond_some _ _ _ first.2 in
    let is : big_number 4 first.0 ≡ ssrc = four.1 in
    let small = four_octets first.0 bytes in
    (back.0 ∙ ap encode_lower (sym (four-back first.0 (eqb-true _ 4 four.0) bytes) ∙ ap (big_bytes 4) is), omega arith)

ssrc-again : (ssrc : ℕ) → ssrc ≤ 4294967295 → ssrc_in (ssrc_text ssrc) ≡ Some ssrc
unfolding ssrc_in
ssrc-again ssrc h = rw (octets-again (big_bytes 4 ssrc) (record { some = omega arith; octets = bytes-four ssrc })) (ap Some (four-again ssrc (omega arith)))

pub ssrc_spelling : Spelling ssrc_in ssrc_text (λ n. n ≤ 4294967295)
ssrc_spelling = record {
  back = ssrc-back;
  again = ssrc-again;
  free = λ n h. encode-free (big_bytes 4 n) (bytes-four n);
}

pub ssrc-no_comma : (ssrc : ℕ) → is_free 44 (ssrc_text ssrc) ≡ true
ssrc-no_comma ssrc = inside-free 44 (omega arith) (ssrc_text ssrc) (encode-inside (big_bytes 4 ssrc) (bytes-four ssrc))

-- ---- payloads

abbrev pub ArePayload : List ℕ → Type 0
ArePayload payload = are_octets payload ≡ true

payload_spelled : (word payload : List ℕ) → word ≡ encode_lower payload → AreSomeOctets payload → word ≡ payload_text payload
payload_spelled word [] e h = let some = h.some in absurd (omega arith)
payload_spelled word (x ∷ xs) e h = e

payload-back : (word payload : List ℕ) → payload_in word ≡ Some payload → (word ≡ payload_text payload) × ArePayload payload
payload-back word payload h =
    elim (chosen (bytes_eq word dash) (Some []) (octets_in word) (Some payload) h) [
      | inl none ↦
          let is = same_Some [] payload none.1 in
          (same word dash none.0 ∙ ap payload_text is, subst ArePayload is refl)
      | inr some ↦
          let r = octets-back word payload some.1 in
          (payload_spelled word payload r.0 r.1, r.1.octets)
    ]

no_dash : (x : ℕ) (xs : List ℕ) → bytes_eq (encode_lower (x ∷ xs)) dash ≡ false
unfolding encode_with
no_dash x xs = and_right _ _ refl

payload-again : (payload : List ℕ) → ArePayload payload → payload_in (payload_text payload) ≡ Some payload
payload-again [] h = refl
payload-again (x ∷ xs) h = rw (no_dash x xs) (octets-again (x ∷ xs) (record { some = omega arith; octets = h }))

payload-free : (payload : List ℕ) → ArePayload payload → is_free 32 (payload_text payload) ≡ true
payload-free [] h = refl
payload-free (x ∷ xs) h = encode-free (x ∷ xs) h

pub payload_spelling : Spelling payload_in payload_text ArePayload
payload_spelling = record {
  back = payload-back;
  again = payload-again;
  free = payload-free;
}
