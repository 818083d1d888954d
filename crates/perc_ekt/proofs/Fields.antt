-- The field at the end of a datagram: what is read there stands there, and each field that stands there is read.
use Rattle.std.proofs.Common.{◌≡◌, ℕ, ◌+◌, ◌-◌, ◌%◌, ◌^◌, ◌<◌, ◌≤◌, Bool, false, ◌||◌, cond, eqb, ltb, List, [], ◌∷◌, ◌++◌, length, take, drop}
use Rattle.std.proofs.Common.{get_or, Option, Some, None, Result, Ok, Err, ◌≢◌, ◌⊎◌, ◌↔◌, inl, inr, refl, sym, ap, subst, ◌∙◌, append_assoc, arith}
use Rattle.std.proofs.lemmas.List.{take_at, length-append, length-drop, length-take-le, take-append-drop}
use Rattle.std.specs.List.{slice_get}
use Rattle.std.proofs.lemmas.Bool.{cases_eq}
use Rattle.std.proofs.lemmas.Option.{get_or_from_slice_get, slice_get-get_or, slice_get_within}
use Rattle.std.proofs.lemmas.Bool.Decides.{nat_tests}
use Rattle.byteorder.specs.Endian.{big_bytes, big_number}
use Rattle.byteorder.specs.Numbers.{big_number-reads_back}
use Rattle.perc_ekt.specs.declared.field.EktField.{EktField}
use Rattle.perc_ekt.specs.declared.field.EktField.TheVariants as told_as
use Rattle.perc_ekt.specs.declared.field.FieldFault.{FieldFault}
use Rattle.perc_ekt.specs.declared.field.FieldFault.TheVariants.{NoField, Type01, Length}
use Rattle.perc_ekt.specs.Field.{Field, Short, Full, Extension, IsField, IsDatagram, announced, field_at, field_fault, field_of, is_wrong_length, last_octet, parted, spelling, told_of, unless_fault}
use Rattle.perc_ekt.specs.Reading.{length_at, told_at}
use Rattle.perc_octets.specs.Octets.{AreOctets}
use Rattle.perc_octets.proofs.Octets.{AreOctets-drop}
use Rattle.perc_ekt.proofs.Octets.{two_spelled, piece, piece_as, last_piece, behind, last_number}

-- ---- from octets to a field

-- the octets of the number at an offset, and what follows them
number_in : (d : List ℕ) (i j : ℕ) → AreOctets d → i + 2 ≡ j → j ≤ length d
    → (big_bytes 2 (big_number 2 (drop i d)) ++ drop j d ≡ drop i d) × (big_number 2 (drop i d) < 2 ^ 16)
number_in d i j fits e within =
    let s = two_spelled (drop i d) (omega (arith, length-drop i d)) (AreOctets-drop i d fits) in
    (piece_as i 2 j (big_bytes 2 (big_number 2 (drop i d))) d s.0 e, s.1)

full_regrouped : (p c s e n t : List ℕ) → p ++ ((((c ++ s) ++ e) ++ n) ++ t) ≡ p ++ (c ++ (s ++ (e ++ (n ++ t))))
full_regrouped p c s e n t = ap (λ (r : List ℕ). p ++ r) (simp append_assoc)

-- two parts in turn
joined : (b ys zs xs : List ℕ) → ys ≡ zs → b ++ zs ≡ xs → b ++ ys ≡ xs
joined b ys zs xs e f = ap (λ (r : List ℕ). b ++ r) e ∙ f

-- a datagram that ends in 2 and the length of a full field
full_in : (d : List ℕ) (n : ℕ) → AreOctets d → n ≡ announced d → last_octet d ≡ 2 → 23 ≤ n → n - 7 ≤ 4096 → (n - 7) % 8 ≡ 0 → n ≤ length d
    → IsDatagram (take (length d - n) d) (Full (take (n - 7) (drop (length d - n) d)) (big_number 2 (drop (length d - 7) d)) (big_number 2 (drop (length d - 5) d))) d
unfolding spelling
full_in d n fits is last least most whole within =
    let c : List ℕ = take (n - 7) (drop (length d - n) d) in
    let lc : length c ≡ n - 7 = length-take-le (n - 7) (drop (length d - n) d) (omega (arith, length-drop (length d - n) d)) in
    let s = number_in d (length d - 7) (length d - 5) fits (omega arith) (omega arith) in
    let e = number_in d (length d - 5) (length d - 3) fits (omega arith) (omega arith) in
    let l = number_in d (length d - 3) (length d - 1) fits (omega arith) (omega arith) in
    let count : length c + 7 ≡ big_number 2 (drop (length d - 3) d) = omega (arith, is) in
    let t : drop (length d - 1) d ≡ 2 ∷ [] = last_piece (length d - 1) d (omega arith) ∙ ap (λ (k : ℕ). k ∷ []) last in
    let n' : big_bytes 2 (length c + 7) ++ (2 ∷ []) ≡ drop (length d - 3) d =
    ap (λ (k : ℕ). big_bytes 2 k ++ (2 ∷ [])) count
    ∙ joined (big_bytes 2 (big_number 2 (drop (length d - 3) d))) (2 ∷ []) (drop (length d - 1) d) (drop (length d - 3) d) (sym t) l.0 in
    let spi = big_bytes 2 (big_number 2 (drop (length d - 7) d)) in
    let epoch = big_bytes 2 (big_number 2 (drop (length d - 5) d)) in
    let whole' =
    joined (take (length d - n) d) _ (drop (length d - n) d) d
    (joined c _ (drop (length d - 7) d) (drop (length d - n) d)
    (joined (big_bytes 2 (big_number 2 (drop (length d - 7) d))) _ (drop (length d - 5) d) (drop (length d - 7) d)
    (joined (big_bytes 2 (big_number 2 (drop (length d - 5) d))) _ (drop (length d - 3) d) (drop (length d - 5) d) n' e.0) s.0)
    (piece (length d - n) (n - 7) (length d - 7) d (omega arith)))
    (take-append-drop (length d - n) d) in
    record {
      fits = ((omega arith, omega arith, ap (λ (k : ℕ). k % 8) lc ∙ whole), s.1, e.1);
      octets = sym (full_regrouped (take (length d - n) d) c spi epoch (big_bytes 2 (length c + 7)) (2 ∷ []) ∙ whole');
    }

-- a datagram that ends in another type and the length of such a field
extension_in : (d : List ℕ) (n kind : ℕ) → AreOctets d → n ≡ announced d → last_octet d ≡ kind → 3 ≤ kind → kind < 256 → 3 ≤ n → n ≤ length d
    → IsDatagram (take (length d - n) d) (Extension (take (n - 3) (drop (length d - n) d)) kind) d
unfolding spelling
extension_in d n kind fits is last other octet least within =
    let c : List ℕ = take (n - 3) (drop (length d - n) d) in
    let lc : length c ≡ n - 3 = length-take-le (n - 3) (drop (length d - n) d) (omega (arith, length-drop (length d - n) d)) in
    let l = number_in d (length d - 3) (length d - 1) fits (omega arith) (omega arith) in
    let count : length c + 3 ≡ big_number 2 (drop (length d - 3) d) = omega (arith, is) in
    let t : drop (length d - 1) d ≡ kind ∷ [] = last_piece (length d - 1) d (omega arith) ∙ ap (λ (k : ℕ). k ∷ []) last in
    let n' : big_bytes 2 (length c + 3) ++ (kind ∷ []) ≡ drop (length d - 3) d =
    ap (λ (k : ℕ). big_bytes 2 k ++ (kind ∷ [])) count
    ∙ joined (big_bytes 2 (big_number 2 (drop (length d - 3) d))) (kind ∷ []) (drop (length d - 1) d) (drop (length d - 3) d) (sym t) l.0 in
    let whole =
    joined (take (length d - n) d) _ (drop (length d - n) d) d
    (joined c _ (drop (length d - 3) d) (drop (length d - n) d) n' (piece (length d - n) (n - 3) (length d - 3) d (omega arith)))
    (take-append-drop (length d - n) d) in
    record {
      fits = (omega (arith, l.1), other, octet);
      octets = sym (ap (λ (r : List ℕ). take (length d - n) d ++ r) (append_assoc c (big_bytes 2 (length c + 3)) (kind ∷ [])) ∙ whole);
    }

-- what a length that is read has passed
pub record Passes (d : List ℕ) (kind n : ℕ) : Type 0 where
  pub least : 3 ≤ length d
  pub within : n ≤ length d
  pub right : is_wrong_length kind n ≡ false
  pub is : n ≡ announced d

pub passed : (d : List ℕ) (kind n : ℕ) → length_at d kind ≡ Some n → Passes d kind n
passed d kind n e = grind (arith, nat_tests)

full_length : (n : ℕ) → is_wrong_length 2 n ≡ false → (23 ≤ n) × (n - 7 ≤ 4096) × ((n - 7) % 8 ≡ 0)
full_length n e = grind (arith, nat_tests)

-- what is told of a field that isn't short
pub record Told (d : List ℕ) (kind n : ℕ) : Type 0 where
  pub told : told_at d kind n ≡ told_of (field_at d kind n) (length (take (length d - n) d))
  pub size : n ≡ length (spelling (field_at d kind n))

-- how many octets a field has
abbrev pub size_of : Field → ℕ
size_of Short = 1
size_of (Full cipher spi epoch) = length cipher + 7
size_of (Extension octets kind) = length octets + 3

same_full : (spi epoch a b a' b' : ℕ) → a ≡ a' → b ≡ b' → told_as.Full spi epoch (record { start = a; end = b }) ≡ told_as.Full spi epoch (record { start = a'; end = b' })
same_full spi epoch a b a' b' e f = λ i. told_as.Full spi epoch (record { start = e i; end = f i })

same_full_field : (c c' : List ℕ) (s s' e e' : ℕ) → c ≡ c' → s ≡ s' → e ≡ e' → Full c s e ≡ Full c' s' e'
same_full_field c c' s s' e e' a b f = λ i. Full (a i) (b i) (f i)

pub same_some : (a b : ℕ) → ◌≡◌ {A = Option ℕ} (Some a) (Some b) → a ≡ b
same_some a b e = cc

not_two : (kind : ℕ) → kind ≢ 2 → eqb kind 2 ≡ false
not_two kind other = grind (arith, nat_tests)

extension_length : (kind n : ℕ) → eqb kind 2 ≡ false → is_wrong_length kind n ≡ false → 3 ≤ n
extension_length kind n other e = grind (arith, nat_tests)

length_tests : (size n : ℕ) (wrong : Bool) → 3 ≤ size → n ≤ size → wrong ≡ false → cond (ltb size 3 || ltb size n || wrong) None (Some n) ≡ Some n
length_tests size n wrong least within right = grind (arith, nat_tests)

split_3 : (p c s r : List ℕ) → ((p ++ c) ++ s) ++ r ≡ p ++ (c ++ (s ++ r))
split_3 p c s r = simp append_assoc

split_4 : (p c s e r : List ℕ) → (((p ++ c) ++ s) ++ e) ++ r ≡ p ++ (c ++ (s ++ (e ++ r)))
split_4 p c s e r = simp append_assoc

full_told : (d : List ℕ) (n : ℕ) → 23 ≤ n → n ≤ length d → told_at d 2 n ≡ told_of (field_at d 2 n) (length (take (length d - n) d))
full_told d n least within =
    let front : ℕ = length (take (length d - n) d) in
    let cipher : ℕ = length (take (n - 7) (drop (length d - n) d)) in
    let offset : front ≡ length d - n = length-take-le (length d - n) d (omega arith) in
    let size : cipher ≡ n - 7 = length-take-le (n - 7) (drop (length d - n) d) (omega (arith, length-drop (length d - n) d)) in
    let end : length d - 7 ≡ front + cipher = omega arith in
    same_full (big_number 2 (drop (length d - 7) d)) (big_number 2 (drop (length d - 5) d)) (length d - n) (length d - 7) front (front + cipher) (sym offset) end

full_size : (c s e l t : List ℕ) → length s ≡ 2 → length e ≡ 2 → length l ≡ 2 → length t ≡ 1 → length ((((c ++ s) ++ e) ++ l) ++ t) ≡ length c + 7
full_size c s e l t a b f g = omega (arith, length-append (((c ++ s) ++ e) ++ l) t, length-append ((c ++ s) ++ e) l, length-append (c ++ s) e, length-append c s)

pub spelling-length : (f : Field) → length (spelling f) ≡ size_of f
unfolding spelling
spelling-length Short = refl
spelling-length (Full c spi epoch) = full_size c (big_bytes 2 spi) (big_bytes 2 epoch) (big_bytes 2 (length c + 7)) (2 ∷ []) refl refl refl refl
spelling-length (Extension octets kind) = omega (arith, length-append (octets ++ big_bytes 2 (length octets + 3)) (kind ∷ []), length-append octets (big_bytes 2 (length octets + 3)))

other_at : (d : List ℕ) (kind n : ℕ) → eqb kind 2 ≡ false → field_at d kind n ≡ Extension (take (n - 3) (drop (length d - n) d)) kind
other_at d kind n other = rw other refl

-- the field that is read of a length that passes has that length
pub long_told : (d : List ℕ) (kind n : ℕ) → length_at d kind ≡ Some n → Told d kind n
long_told d kind n e =
    elim (cases_eq kind 2) [
      | inl is ↦
          let t = passed d 2 n (ap (length_at d) (sym is) ∙ e) in
          let within = t.within in
          let l = full_length n t.right in
          let least = l.0 in
          let size : length (take (n - 7) (drop (length d - n) d)) ≡ n - 7 = length-take-le (n - 7) (drop (length d - n) d) (omega (arith, length-drop (length d - n) d)) in
          let told : Told d 2 n = record { told = full_told d n least within; size = sym (spelling-length (field_at d 2 n) ∙ omega arith) } in
          subst (λ (k : ℕ). Told d k n) (sym is) told
      | inr other ↦
          let is_two : eqb kind 2 ≡ false = not_two kind other in
          let t = passed d kind n e in
          let within = t.within in
          let least : 3 ≤ n = extension_length kind n is_two t.right in
          let size : length (take (n - 3) (drop (length d - n) d)) ≡ n - 3 = length-take-le (n - 3) (drop (length d - n) d) (omega (arith, length-drop (length d - n) d)) in
          let whole : n ≡ length (take (n - 3) (drop (length d - n) d)) + 3 = omega arith in
          record {
            told = rw is_two refl;
            size = whole ∙ sym (ap (λ (f : Field). length (spelling f)) (other_at d kind n is_two) ∙ spelling-length (Extension (take (n - 3) (drop (length d - n) d)) kind));
          }
    ]

full_found : (d : List ℕ) (n : ℕ) → AreOctets d → last_octet d ≡ 2 → Passes d 2 n → IsDatagram (take (length d - n) d) (field_at d 2 n) d
full_found d n fits last t =
    let l = full_length n t.right in
    full_in d n fits t.is last l.0 l.1 l.2 t.within

extension_found : (d : List ℕ) (kind n : ℕ) → AreOctets d → last_octet d ≡ kind → 3 ≤ kind → Passes d kind n → IsDatagram (take (length d - n) d) (field_at d kind n) d
extension_found d kind n fits last other t =
    let octet : kind < 256 = omega (arith, last, fits (length d - 1)) in
    let is_two : eqb kind 2 ≡ false = grind (arith, nat_tests) in
    let least : 3 ≤ n = extension_length kind n is_two t.right in
    subst (λ (f : Field). IsDatagram (take (length d - n) d) f d) (sym (other_at d kind n is_two)) (extension_in d n kind fits t.is last other octet least t.within)

-- what is read of a field that isn't short stands there
pub long_found : (d : List ℕ) (kind n : ℕ) → AreOctets d → last_octet d ≡ kind → 2 ≤ kind → length_at d kind ≡ Some n → IsDatagram (take (length d - n) d) (field_at d kind n) d
long_found d kind n fits last long e =
    elim (cases_eq kind 2) [
      | inl is ↦ subst (λ (k : ℕ). IsDatagram (take (length d - n) d) (field_at d k n) d) (sym is) (full_found d n fits (last ∙ is) (passed d 2 n (ap (length_at d) (sym is) ∙ e)))
      | inr other ↦ extension_found d kind n fits last (omega arith) (passed d kind n e)
    ]

-- a datagram that ends in 0
pub short_in : (d : List ℕ) → last_octet d ≡ 0 → 1 ≤ length d → IsDatagram (take (length d - 1) d) Short d
unfolding spelling
short_in d last some = record {
  fits = tt;
  octets = sym (ap (λ (r : List ℕ). take (length d - 1) d ++ r) (sym (last_piece (length d - 1) d (omega arith) ∙ ap (λ (k : ℕ). k ∷ []) last)) ∙ take-append-drop (length d - 1) d);
}

-- ---- from a field to octets

-- a field's type
pub kind_of : Field → ℕ
kind_of Short = 0
kind_of (Full cipher spi epoch) = 2
kind_of (Extension octets kind) = kind

pub kind-available : (f : Field) → IsField f → kind_of f ≢ 1
unfolding kind_of
kind-available Short fits is = omega arith
kind-available (Full cipher spi epoch) fits is = omega arith
kind-available (Extension octets kind) fits is = omega arith

pub kind-short : (f : Field) → IsField f → kind_of f ≡ 0 → f ≡ Short
unfolding kind_of
kind-short Short fits is = refl
kind-short (Full cipher spi epoch) fits is = absurd (omega arith)
kind-short (Extension octets kind) fits is = absurd (omega arith)

-- the last octet is the field's type
pub last_is : (p : List ℕ) (f : Field) (d : List ℕ) → IsDatagram p f d → (last_octet d ≡ kind_of f) × (1 ≤ length d)
unfolding kind_of spelling
last_is p Short d is = (last_number p d 0 is.octets, omega (arith, ap length is.octets, length-append p (0 ∷ [])))
last_is p (Full c spi epoch) d is =
    let w = ((c ++ big_bytes 2 spi) ++ big_bytes 2 epoch) ++ big_bytes 2 (length c + 7) in
    let whole : d ≡ (p ++ w) ++ (2 ∷ []) = is.octets ∙ sym (append_assoc p w (2 ∷ [])) in
    (last_number (p ++ w) d 2 whole, omega (arith, ap length whole, length-append (p ++ w) (2 ∷ [])))
last_is p (Extension octets kind) d is =
    let w = octets ++ big_bytes 2 (length octets + 3) in
    let whole : d ≡ (p ++ w) ++ (kind ∷ []) = is.octets ∙ sym (append_assoc p w (kind ∷ [])) in
    (last_number (p ++ w) d kind whole, omega (arith, ap length whole, length-append (p ++ w) (kind ∷ [])))

-- what is read of a datagram that ends in a field which isn't short
pub record Read (p : List ℕ) (f : Field) (d : List ℕ) : Type 0 where
  pub len : length_at d (kind_of f) ≡ Some (length (spelling f))
  pub told : told_at d (kind_of f) (length (spelling f)) ≡ told_of f (length p)
  pub field : field_at d (kind_of f) (length (spelling f)) ≡ f

-- a length that passes
length_passes : (d : List ℕ) (kind n : ℕ) → 3 ≤ length d → n ≤ length d → is_wrong_length kind n ≡ false → announced d ≡ n → length_at d kind ≡ Some n
length_passes d kind n least within right is = rw is (length_tests (length d) n (is_wrong_length kind n) least within right)

full_passes : (n : ℕ) → 23 ≤ n → n ≤ 4103 → (n - 7) % 8 ≡ 0 → is_wrong_length 2 n ≡ false
full_passes n least most whole = grind (arith, nat_tests)

extension_passes : (kind n : ℕ) → eqb kind 2 ≡ false → 3 ≤ n → is_wrong_length kind n ≡ false
extension_passes kind n other least = grind (arith, nat_tests)

full_read : (p c : List ℕ) (spi epoch : ℕ) (d : List ℕ) → IsDatagram p (Full c spi epoch) d → Read p (Full c spi epoch) d
unfolding kind_of spelling
full_read p c spi epoch d is =
    let s : List ℕ = big_bytes 2 spi in
    let e : List ℕ = big_bytes 2 epoch in
    let l : List ℕ = big_bytes 2 (length c + 7) in
    let t : List ℕ = 2 ∷ [] in
    let n : ℕ = length (spelling (Full c spi epoch)) in
    let size : n ≡ length c + 7 = spelling-length (Full c spi epoch) in
    let f0 : 16 ≤ length c = is.fits.0.0 in
    let f1 : length c ≤ 4096 = is.fits.0.1 in
    let f2 : length c % 8 ≡ 0 = is.fits.0.2 in
    let whole : d ≡ p ++ (c ++ (s ++ (e ++ (l ++ t)))) = is.octets ∙ full_regrouped p c s e l t in
    let total : length d ≡ length p + n = ap length is.octets ∙ length-append p (spelling (Full c spi epoch)) in
    let at_l : drop (length d - 3) d ≡ l ++ t = behind (((p ++ c) ++ s) ++ e) (l ++ t) d 3 (whole ∙ sym (split_4 p c s e (l ++ t))) refl in
    let at_e : drop (length d - 5) d ≡ e ++ (l ++ t) = behind ((p ++ c) ++ s) (e ++ (l ++ t)) d 5 (whole ∙ sym (split_3 p c s (e ++ (l ++ t)))) refl in
    let at_s : drop (length d - 7) d ≡ s ++ (e ++ (l ++ t)) = behind (p ++ c) (s ++ (e ++ (l ++ t))) d 7 (whole ∙ sym (append_assoc p c (s ++ (e ++ (l ++ t))))) refl in
    let at_c : drop (length d - n) d ≡ c ++ (s ++ (e ++ (l ++ t))) = behind p (c ++ (s ++ (e ++ (l ++ t)))) d n whole (length-append c (s ++ (e ++ (l ++ t))) ∙ sym size) in
    let read_l : announced d ≡ n = ap (big_number 2) at_l ∙ big_number-reads_back 2 (length c + 7) t (omega arith) ∙ sym size in
    let read_e : big_number 2 (drop (length d - 5) d) ≡ epoch = ap (big_number 2) at_e ∙ big_number-reads_back 2 epoch (l ++ t) (omega (arith, is.fits.2)) in
    let read_s : big_number 2 (drop (length d - 7) d) ≡ spi = ap (big_number 2) at_s ∙ big_number-reads_back 2 spi (e ++ (l ++ t)) (omega (arith, is.fits.1)) in
    let part : n - 7 ≡ length c = omega arith in
    let read_c : take (n - 7) (drop (length d - n) d) ≡ c = ap (take (n - 7)) at_c ∙ take_at c (s ++ (e ++ (l ++ t))) (n - 7) (sym part) in
    let eight : (n - 7) % 8 ≡ 0 = ap (λ (k : ℕ). k % 8) part ∙ f2 in
    record {
      len = length_passes d 2 n (omega arith) (omega arith) (full_passes n (omega arith) (omega arith) eight) read_l;
      told = rw (read_s, read_e) (same_full spi epoch (length d - n) (length d - 7) (length p) (length p + length c) (omega arith) (omega arith));
      field = same_full_field (take (n - 7) (drop (length d - n) d)) c (big_number 2 (drop (length d - 7) d)) spi (big_number 2 (drop (length d - 5) d)) epoch read_c read_s read_e;
    }

extension_read : (p octets : List ℕ) (kind : ℕ) (d : List ℕ) → IsDatagram p (Extension octets kind) d → Read p (Extension octets kind) d
unfolding kind_of spelling
extension_read p octets kind d is =
    let l : List ℕ = big_bytes 2 (length octets + 3) in
    let t : List ℕ = kind ∷ [] in
    let n : ℕ = length (spelling (Extension octets kind)) in
    let size : n ≡ length octets + 3 = spelling-length (Extension octets kind) in
    let f0 : length octets + 3 < 2 ^ 16 = is.fits.0 in
    let f1 : 3 ≤ kind = is.fits.1 in
    let whole : d ≡ p ++ (octets ++ (l ++ t)) = is.octets ∙ ap (λ (r : List ℕ). p ++ r) (append_assoc octets l t) in
    let total : length d ≡ length p + n = ap length is.octets ∙ length-append p (spelling (Extension octets kind)) in
    let at_l : drop (length d - 3) d ≡ l ++ t = behind (p ++ octets) (l ++ t) d 3 (whole ∙ sym (append_assoc p octets (l ++ t))) refl in
    let at_o : drop (length d - n) d ≡ octets ++ (l ++ t) = behind p (octets ++ (l ++ t)) d n whole (length-append octets (l ++ t) ∙ sym size) in
    let read_l : announced d ≡ n = ap (big_number 2) at_l ∙ big_number-reads_back 2 (length octets + 3) t (omega arith) ∙ sym size in
    let part : n - 3 ≡ length octets = omega arith in
    let read_o : take (n - 3) (drop (length d - n) d) ≡ octets = ap (take (n - 3)) at_o ∙ take_at octets (l ++ t) (n - 3) (sym part) in
    let is_two : eqb kind 2 ≡ false = grind (arith, nat_tests) in
    record {
      len = length_passes d kind n (omega arith) (omega arith) (extension_passes kind n is_two (omega arith)) read_l;
      told = rw is_two refl;
      field = rw is_two (ap (λ (o : List ℕ). Extension o kind) read_o);
    }

-- a field that isn't short is read
pub long_read : (p : List ℕ) (f : Field) (d : List ℕ) → IsDatagram p f d → (kind_of f ≡ 0 → ⊥) → Read p f d
unfolding kind_of
long_read p Short d is long = absurd (long refl)
long_read p (Full c spi epoch) d is long = full_read p c spi epoch d is
long_read p (Extension octets kind) d is long = extension_read p octets kind d is

packet_is : (p : List ℕ) (f : Field) (d : List ℕ) (n : ℕ) → IsDatagram p f d → n ≡ length (spelling f) → take (length d - n) d ≡ p
packet_is p f d n is e =
    let size : length d - n ≡ length p = omega (arith, ap length is.octets, length-append p (spelling f), e) in
    ap (take (length d - n)) is.octets ∙ take_at p (spelling f) (length d - n) (sym size)

-- ---- the reader

-- the first fault, by the length of a datagram, its last octet, the length announced and whether that is wrong for the type
abbrev fault_by : ℕ → ℕ → ℕ → Bool → Option FieldFault
fault_by size last said wrong =
    cond (eqb size 0) (Some NoField) (cond (eqb last 1) (Some Type01) (cond (eqb last 0) None (cond (ltb size 3 || ltb size said || wrong) (Some Length) None)))

fault_empty : (size last said : ℕ) (wrong : Bool) → size ≡ 0 → fault_by size last said wrong ≡ Some NoField
fault_empty size last said wrong none = grind (arith, nat_tests)

fault_type : (size last said : ℕ) (wrong : Bool) → 1 ≤ size → last ≡ 1 → fault_by size last said wrong ≡ Some Type01
fault_type size last said wrong some is = grind (arith, nat_tests)

fault_short : (size last said : ℕ) (wrong : Bool) → 1 ≤ size → last ≡ 0 → fault_by size last said wrong ≡ None
fault_short size last said wrong some is = grind (arith, nat_tests)

fault_length : (size last said : ℕ) (wrong : Bool) → 1 ≤ size → 2 ≤ last → cond (ltb size 3 || ltb size said || wrong) None (Some said) ≡ None → fault_by size last said wrong ≡ Some Length
fault_length size last said wrong some long e = grind (arith, nat_tests)

fault_none : (size last said n : ℕ) (wrong : Bool) → 1 ≤ size → 2 ≤ last → cond (ltb size 3 || ltb size said || wrong) None (Some said) ≡ Some n → fault_by size last said wrong ≡ None
fault_none size last said n wrong some long e = grind (arith, nat_tests)

none_some : (size last said : ℕ) (wrong : Bool) → fault_by size last said wrong ≡ None → 1 ≤ size
none_some size last said wrong e = grind (arith, nat_tests)

none_available : (size last said : ℕ) (wrong : Bool) → fault_by size last said wrong ≡ None → last ≢ 1
none_available size last said wrong e = grind (arith, nat_tests)

none_length : (size last said : ℕ) (wrong : Bool) → fault_by size last said wrong ≡ None → 2 ≤ last → cond (ltb size 3 || ltb size said || wrong) None (Some said) ≡ Some said
none_length size last said wrong e long = grind (arith, nat_tests)

choose_short : (last : ℕ) (x y : List ℕ × Field) → last ≡ 0 → cond (eqb last 0) x y ≡ x
choose_short last x y is = grind (arith, nat_tests)

choose_long : (last : ℕ) (x y : List ℕ × Field) → 2 ≤ last → cond (eqb last 0) x y ≡ y
choose_long last x y long = grind (arith, nat_tests)

pub field_fails : (d : List ℕ) (fault : FieldFault) → field_fault d ≡ Some fault → field_of d ≡ Err fault
unfolding field_of
field_fails d fault e = ap (λ (f : Option FieldFault). unless_fault f (parted d)) e

pub field_reads : (d : List ℕ) → field_fault d ≡ None → field_of d ≡ Ok (parted d)
unfolding field_of
field_reads d e = ap (λ (f : Option FieldFault). unless_fault f (parted d)) e

pub field_empty : (d : List ℕ) → length d ≡ 0 → field_of d ≡ Err NoField
field_empty d none = field_fails d NoField (fault_empty (length d) (last_octet d) (announced d) (is_wrong_length (last_octet d) (announced d)) none)

pub field_type : (d : List ℕ) → 1 ≤ length d → last_octet d ≡ 1 → field_of d ≡ Err Type01
field_type d some is = field_fails d Type01 (fault_type (length d) (last_octet d) (announced d) (is_wrong_length (last_octet d) (announced d)) some is)

pub field_wrong : (d : List ℕ) → 1 ≤ length d → 2 ≤ last_octet d → length_at d (last_octet d) ≡ None → field_of d ≡ Err Length
field_wrong d some long e = field_fails d Length (fault_length (length d) (last_octet d) (announced d) (is_wrong_length (last_octet d) (announced d)) some long e)

pub field_short : (d : List ℕ) → 1 ≤ length d → last_octet d ≡ 0 → field_of d ≡ Ok (take (length d - 1) d, Short)
field_short d some is =
    field_reads d (fault_short (length d) (last_octet d) (announced d) (is_wrong_length (last_octet d) (announced d)) some is)
    ∙ ap (λ (r : List ℕ × Field). Ok r) (choose_short (last_octet d) (take (length d - 1) d, Short) (take (length d - announced d) d, field_at d (last_octet d) (announced d)) is)

pub field_long : (d : List ℕ) (n : ℕ) → 1 ≤ length d → 2 ≤ last_octet d → length_at d (last_octet d) ≡ Some n → field_of d ≡ Ok (take (length d - n) d, field_at d (last_octet d) n)
field_long d n some long e =
    let said : announced d ≡ n = sym (passed d (last_octet d) n e).is in
    field_reads d (fault_none (length d) (last_octet d) (announced d) n (is_wrong_length (last_octet d) (announced d)) some long e)
    ∙ ap (λ (r : List ℕ × Field). Ok r) (choose_long (last_octet d) (take (length d - 1) d, Short) (take (length d - announced d) d, field_at d (last_octet d) (announced d)) long)
    ∙ ap (λ (m : ℕ). Ok (take (length d - m) d, field_at d (last_octet d) m)) said

fault_cases : (o : Option FieldFault) → (o ≡ None) ⊎ ((fault : FieldFault) × (o ≡ Some fault))
fault_cases None = inl refl
fault_cases (Some fault) = inr (fault, refl)

err_ok : (fault : FieldFault) (read : List ℕ × Field) → ◌≡◌ {A = Result (List ℕ × Field) FieldFault} (Err fault) (Ok read) → ⊥
err_ok fault read e = cc

same_ok : (a b : List ℕ × Field) → ◌≡◌ {A = Result (List ℕ × Field) FieldFault} (Ok a) (Ok b) → a ≡ b
same_ok a b e = cc

same_err : (a b : FieldFault) → ◌≡◌ {A = Result (List ℕ × Field) FieldFault} (Err a) (Err b) → a ≡ b
same_err a b e = cc

-- a fault is told exactly where it is the first
pub field_of_err : (d : List ℕ) (fault : FieldFault) → (field_of d ≡ Err fault) ↔ (field_fault d ≡ Some fault)
field_of_err d fault = (
  λ e.
      elim (fault_cases (field_fault d)) [
        | inl none ↦ absurd (err_ok fault (parted d) (sym e ∙ field_reads d none))
        | inr some ↦ some.1 ∙ ap (λ (f : FieldFault). Some f) (same_err some.0 fault (sym (field_fails d some.0 some.1) ∙ e))
      ],
  field_fails d fault,
)

-- what is read without a fault is a packet and a field
read_is : (d : List ℕ) → AreOctets d → field_fault d ≡ None → IsDatagram (parted d).0 (parted d).1 d
read_is d fits none =
    let size = length d in
    let last = last_octet d in
    let said = announced d in
    let wrong = is_wrong_length (last_octet d) (announced d) in
    let some : 1 ≤ length d = none_some size last said wrong none in
    let available : last_octet d ≢ 1 = none_available size last said wrong none in
    elim (cases_eq (last_octet d) 0) [
      | inl short ↦
          subst (λ (r : List ℕ × Field). IsDatagram r.0 r.1 d) (sym (choose_short last (take (length d - 1) d, Short) (take (length d - said) d, field_at d last said) short))
          (short_in d short some)
      | inr other ↦
          let long : 2 ≤ last_octet d = omega arith in
          subst (λ (r : List ℕ × Field). IsDatagram r.0 r.1 d) (sym (choose_long last (take (length d - 1) d, Short) (take (length d - said) d, field_at d last said) long))
          (long_found d last said fits refl long (none_length size last said wrong none long))
    ]

-- each packet with a field is read
datagram_read : (p : List ℕ) (f : Field) (d : List ℕ) → IsDatagram p f d → field_of d ≡ Ok (p, f)
datagram_read p f d is =
    let last = last_is p f d is in
    let front : (n : ℕ) → n ≡ length (spelling f) → take (length d - n) d ≡ p = λ n e. packet_is p f d n is e in
    elim (cases_eq (kind_of f) 0) [
      | inl short ↦
          let is_short : f ≡ Short = kind-short f is.fits short in
          field_short d last.1 (last.0 ∙ short)
          ∙ ap (λ (q : List ℕ). Ok (q, Short)) (front 1 (sym (spelling-length Short) ∙ ap (λ (g : Field). length (spelling g)) (sym is_short)))
          ∙ ap (λ (g : Field). Ok (p, g)) (sym is_short)
      | inr long ↦
          let n = length (spelling f) in
          let read = long_read p f d is long in
          let available : kind_of f ≢ 1 = kind-available f is.fits in
          let high : 2 ≤ last_octet d = omega (arith, last.0) in
          field_long d n last.1 high (ap (length_at d) last.0 ∙ read.len)
          ∙ ap (λ (q : List ℕ). Ok (q, field_at d (last_octet d) n)) (front n refl)
          ∙ ap (λ (k : ℕ). Ok (p, field_at d k n)) last.0
          ∙ ap (λ (g : Field). Ok (p, g)) read.field
    ]

-- a packet and a field are told exactly where the datagram is these
pub field_of_ok : (p : List ℕ) (f : Field) (d : List ℕ) → AreOctets d → (field_of d ≡ Ok (p, f)) ↔ IsDatagram p f d
field_of_ok p f d fits = (
  λ e.
      elim (fault_cases (field_fault d)) [
        | inl none ↦ subst (λ (r : List ℕ × Field). IsDatagram r.0 r.1 d) (same_ok (parted d) (p, f) (sym (field_reads d none) ∙ e)) (read_is d fits none)
        | inr some ↦ absurd (err_ok some.0 (p, f) (sym (field_fails d some.0 some.1) ∙ e))
      ],
  datagram_read p f d,
)

-- ---- one field

pub one_field : (p q : List ℕ) (f g : Field) (d : List ℕ) → IsDatagram p f d → IsDatagram q g d → (p ≡ q) × (f ≡ g)
one_field p q f g d is is' =
    let same : (p, f) ≡ (q, g) = same_ok (p, f) (q, g) (sym (datagram_read p f d is) ∙ datagram_read q g d is') in
    (ap (λ (r : List ℕ × Field). r.0) same, ap (λ (r : List ℕ × Field). r.1) same)

-- ---- what is told

-- of a field that isn't short
pub long_answer : (d : List ℕ) (kind n : ℕ) (told : EktField) → last_octet d ≡ kind → told ≡ told_at d kind n → length_at d kind ≡ Some n
    → ◌≡◌ {A = Result (EktField × ℕ) FieldFault} (Ok (told, n)) (Ok (told_of (field_at d (last_octet d) n) (length (take (length d - n) d)), length (spelling (field_at d (last_octet d) n))))
long_answer d kind n told last is e =
    let t = long_told d (last_octet d) n (ap (length_at d) last ∙ e) in
    let whole : told ≡ told_of (field_at d (last_octet d) n) (length (take (length d - n) d)) = is ∙ ap (λ (k : ℕ). told_at d k n) (sym last) ∙ t.told in
    ap (λ (f : EktField). Ok (f, n)) whole
    ∙ ap (λ (m : ℕ). Ok (told_of (field_at d (last_octet d) n) (length (take (length d - n) d)), m)) t.size

-- ---- the last octet

pub last_none : (d : List ℕ) → 1 ≤ length d → slice_get d (length d - 1) ≡ None → ⊥
last_none d some none =
    let e : slice_get d (length d - 1) ≡ Some (get_or d (length d - 1) 0) = slice_get-get_or d (length d - 1) 0 (omega arith) in cc

pub last_some : (d : List ℕ) (kind : ℕ) → slice_get d (length d - 1) ≡ Some kind → (last_octet d ≡ kind) × (1 ≤ length d)
last_some d kind e = (get_or_from_slice_get d (length d - 1) kind 0 e, omega (arith, slice_get_within d (length d - 1) kind e))

pub last_empty : (d : List ℕ) → slice_get d (length d - 1) ≡ None → length d ≡ 0
last_empty d none =
    elim (cases_eq (length d) 0) [
      | inl is ↦ is
      | inr some ↦ absurd (last_none d (omega arith) none)
    ]
