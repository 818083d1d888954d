-- What octets suit: forms told apart, prefixes, and how a part is completed.
use Rattle.std.proofs.Common.{◌≡◌, ℕ, zero, suc, ◌+◌, ◌-◌, ◌/◌, ◌%◌, ◌^◌, ◌<◌, ◌≤◌, inl, inr, List, [], ◌∷◌, ◌++◌, length, take, drop, get_or, replicate, Some, refl, sym, ap, subst, ◌∙◌, arith}
use Rattle.std.proofs.lemmas.Bool.{cases_lt}
use Rattle.std.proofs.lemmas.Bool.Decides.{nat_tests}
use Rattle.std.proofs.lemmas.List.{length-append, length-drop, length-take-le, length-replicate, get_or_append_left, get_or-append_right, get_or-drop, take-append-drop}
use Rattle.perc_base.specs.Profile.{profile_number, key_length}
use Rattle.perc_base.specs.declared.profile.Profile.TheVariants.{Aes128, Aes256}
use Rattle.perc_tunnel.specs.declared.forms.Form.{Form}
use Rattle.perc_tunnel.specs.declared.forms.Form.TheVariants.{Profiles, Version, Keys, Record, Ended}
use Rattle.perc_octets.specs.Octets.{AreOctets}
use Rattle.perc_octets.proofs.Octets.{AreOctets-append, AreOctets-cons, AreOctets-drop, AreOctets-nil}
use Rattle.perc_tunnel.specs.Message.{TunnelMessage, SupportedProfiles, UnsupportedVersion, MediaKeys, TunneledDtls, EndpointDisconnect, type_of, spelling}
use Rattle.perc_tunnel.specs.Stream.{BeginsWithMessage, IsPart, IsKind, IsLength}
use Rattle.perc_tunnel.specs.Forms.{kind_of, HasLength, form_at, HoldEach, fixed, Suits, IsWhole, message_at}
use Rattle.perc_tunnel.proofs.Whole.{form_in, read_again, whole_message}
use Rattle.perc_tunnel.proofs.Written.{spelling-length}

-- ---- a form by its type and its length

-- the type and the length tell the form
pub form_told : (form : Form) (n : ℕ) → HasLength form n → form_at (kind_of form) n ≡ Some form
form_told Profiles n h = let a = h.0 in let b = h.1 in grind (arith, nat_tests)
form_told Version n h = grind (arith, nat_tests)
form_told (Keys Aes128) n h = grind (arith, nat_tests)
form_told (Keys Aes256) n h = grind (arith, nat_tests)
form_told Record n h = let a = h.0 in let b = h.1 in grind (arith, nat_tests)
form_told Ended n h = grind (arith, nat_tests)

pub length_fits : (form : Form) (n : ℕ) → HasLength form n → n < 2 ^ 16
length_fits Profiles n h = h.2
length_fits Version n h = omega arith
length_fits (Keys Aes128) n h = omega arith
length_fits (Keys Aes256) n h = omega arith
length_fits Record n h = h.1
length_fits Ended n h = omega arith

-- each length of a type is that of a form
abbrev pub IsForm : ℕ → ℕ → Type 0
IsForm kind n = (form : Form) × (kind_of form ≡ kind) × HasLength form n

form_kind : (m : TunnelMessage) → kind_of (form_in m) ≡ type_of m
form_kind (SupportedProfiles version profiles) = refl
form_kind (UnsupportedVersion highest) = refl
form_kind (MediaKeys association profile client server) = refl
form_kind (TunneledDtls association octets) = refl
form_kind (EndpointDisconnect association) = refl

pub length_form : (kind n : ℕ) → IsLength kind n → IsForm kind n
length_form kind n h =
    let v = read_again h.0 h.1 in
    let same : v.0.0 ≡ n = omega (arith, v.0.2, spelling-length h.0 h.1, h.3) in
    (form_in h.0, form_kind h.0 ∙ h.2, subst (HasLength (form_in h.0)) same v.0.1.length)

pub kind_is : (form : Form) → IsKind (kind_of form)
kind_is Profiles = (omega arith, omega arith)
kind_is Version = (omega arith, omega arith)
kind_is (Keys profile) = (omega arith, omega arith)
kind_is Record = (omega arith, omega arith)
kind_is Ended = (omega arith, omega arith)

-- ---- prefixes

abbrev Below : ℕ → List (ℕ × ℕ) → Type 0
Below n [] = Unit {0}
Below n (one ∷ offsets) = (one.0 < n) × Below n offsets

fixed_below : (form : Form) (n : ℕ) → HasLength form n → Below (3 + n) (fixed form n)
fixed_below Profiles n h = let a = h.1 in (omega arith, (omega arith, (omega arith, (omega arith, (omega arith, tt)))))
fixed_below Version n h = (omega arith, (omega arith, (omega arith, tt)))
fixed_below (Keys profile) n h = (
  omega arith,
  (omega arith, (omega arith, (omega arith, (omega arith, (omega arith, (omega arith, (omega arith, (omega arith, (omega arith, tt))))))))),
)
fixed_below Record n h = let a = h.0 in (omega arith, (omega arith, (omega arith, (omega arith, (omega arith, tt)))))
fixed_below Ended n h = (omega arith, (omega arith, (omega arith, tt)))

HoldEach-front : (offsets : List (ℕ × ℕ)) (xs ys : List ℕ) → HoldEach offsets (xs ++ ys) → HoldEach offsets xs
HoldEach-front [] xs ys h = tt
HoldEach-front (one ∷ offsets) xs ys h = (
  λ lt. sym (get_or_append_left xs ys 0 one.0 lt) ∙ h.0 (omega (arith, length-append xs ys)),
  HoldEach-front offsets xs ys h.1,
)

HoldEach-more : (offsets : List (ℕ × ℕ)) (xs ys : List ℕ) → Below (length xs) offsets → HoldEach offsets xs → HoldEach offsets (xs ++ ys)
HoldEach-more [] xs ys below h = tt
HoldEach-more (one ∷ offsets) xs ys below h =
    (λ _. get_or_append_left xs ys 0 one.0 below.0 ∙ h.0 below.0, HoldEach-more offsets xs ys below.1 h.1)

HoldEach-filled : (offsets : List (ℕ × ℕ)) (xs t : List ℕ) → Below (length t) offsets → HoldEach offsets t → HoldEach offsets xs → HoldEach offsets (xs ++ drop (length xs) t)
HoldEach-filled [] xs t below h g = tt
HoldEach-filled (one ∷ offsets) xs t below h g = (
  λ _. elim (cases_lt one.0 (length xs)) [
    | inl lt ↦ get_or_append_left xs (drop (length xs) t) 0 one.0 lt ∙ g.0 lt
    | inr le ↦
        let same : length xs + (one.0 - length xs) ≡ one.0 = omega arith in
        get_or-append_right xs (drop (length xs) t) (length xs) one.0 0 refl le ∙ get_or-drop (length xs) t (one.0 - length xs) 0
        ∙ ap (λ (k : ℕ). get_or t k 0) same ∙ h.0 below.0
  ],
  HoldEach-filled offsets xs t below.1 h.1 g.1,
)

pub Suits-front : (form : Form) (n : ℕ) (xs ys : List ℕ) → Suits form n (xs ++ ys) → Suits form n xs
Suits-front form n xs ys s = record { length = s.length; fixed = HoldEach-front (fixed form n) xs ys s.fixed }

pub whole_front : (form : Form) (n : ℕ) (xs : List ℕ) → Suits form n xs → 3 + n ≤ length xs → IsWhole form (take (3 + n) xs)
whole_front form n xs s fits = (
  n,
  Suits-front form n (take (3 + n) xs) (drop (3 + n) xs) (subst (Suits form n) (sym (take-append-drop (3 + n) xs)) s),
  length-take-le (3 + n) xs fits,
)

-- some form and length suits the octets
abbrev pub SuitsSome : List ℕ → Type 0
SuitsSome octets = (form : Form) × (n : ℕ) × Suits form n octets

pub begins_suits : (octets : List ℕ) → BeginsWithMessage octets → SuitsSome octets
begins_suits octets b =
    let w = (read_again b.0 b.2).0 in
    let form : Form = form_in b.0 in
    let below : Below (length (spelling b.0)) (fixed form w.0) = subst (λ k. Below k (fixed form w.0)) (sym w.2) (fixed_below form w.0 w.1.length) in
    let s : Suits form w.0 (spelling b.0 ++ b.1) = record { length = w.1.length; fixed = HoldEach-more (fixed form w.0) (spelling b.0) b.1 below w.1.fixed } in
    (form, w.0, subst (Suits form w.0) (sym b.3) s)

pub part_suits : (octets : List ℕ) → IsPart octets → SuitsSome octets
part_suits octets p =
    let w = (read_again p.0 p.2).0 in
    (form_in p.0, w.0, Suits-front (form_in p.0) w.0 octets p.1 (subst (Suits (form_in p.0) w.0) p.4 w.1))

-- ---- how a part is completed

abbrev keys_template : ℕ → ℕ → ℕ → List ℕ
keys_template n p k =
    3 ∷ n / 256 % 256 ∷ n % 256 ∷ (replicate 16 0 ++ (0 ∷ p ∷ 0 ∷ k ∷ (replicate k 0 ++ (k ∷ (replicate k 0 ++ (12 ∷ (replicate 12 0 ++ (12 ∷ replicate 12 0))))))))

-- octets of a form and a length that are 0 where they aren't fixed
abbrev template : Form → ℕ → List ℕ
template Profiles n = 1 ∷ n / 256 % 256 ∷ n % 256 ∷ 0 ∷ (n - 3) / 256 % 256 ∷ (n - 3) % 256 ∷ replicate (n - 3) 0
template Version n = 2 ∷ n / 256 % 256 ∷ n % 256 ∷ 0 ∷ []
template (Keys profile) n = keys_template n (profile_number profile) (key_length profile)
template Record n = 4 ∷ n / 256 % 256 ∷ n % 256 ∷ (replicate 16 0 ++ ((n - 18) / 256 % 256 ∷ (n - 18) % 256 ∷ replicate (n - 18) 0))
template Ended n = 5 ∷ n / 256 % 256 ∷ n % 256 ∷ replicate 16 0

-- the same fact as a record, which says of which list it is
record Octets (xs : List ℕ) : Type 0 where
  each : AreOctets xs

-- one more octet in front, n zeros, and these in front
more : (x : ℕ) (xs : List ℕ) → x < 256 → Octets xs → Octets (x ∷ xs)
more x xs h k = record { each = AreOctets-cons x xs h k.each }

zeros : (n : ℕ) → Octets (replicate n 0)
zeros zero = record { each = AreOctets-nil }
zeros (suc n) = more 0 (replicate n 0) (omega arith) (zeros n)

more_zeros : (n : ℕ) (xs : List ℕ) → Octets xs → Octets (replicate n 0 ++ xs)
more_zeros n xs k = record { each = AreOctets-append (replicate n 0) xs (zeros n).each k.each }

keys_octets : (n p k : ℕ) → p < 256 → k < 256 → Octets (keys_template n p k)
keys_octets n p k p-fits k-fits =
    more _ _ (omega arith) (more _ _ (omega arith) (more _ _ (omega arith) (more_zeros 16 _
    (more _ _ (omega arith) (more _ _ p-fits (more _ _ (omega arith) (more _ _ k-fits (more_zeros k _
    (more _ _ k-fits (more_zeros k _ (more _ _ (omega arith) (more_zeros 12 _ (more _ _ (omega arith) (zeros 12))))))))))))))

template_octets : (form : Form) (n : ℕ) → Octets (template form n)
template_octets Profiles n =
    more _ _ (omega arith) (more _ _ (omega arith) (more _ _ (omega arith) (more _ _ (omega arith) (more _ _ (omega arith) (more _ _ (omega arith) (zeros (n - 3)))))))
template_octets Version n = more _ _ (omega arith) (more _ _ (omega arith) (more _ _ (omega arith) (zeros 1)))
template_octets (Keys Aes128) n = keys_octets n 9 16 (omega arith) (omega arith)
template_octets (Keys Aes256) n = keys_octets n 10 32 (omega arith) (omega arith)
template_octets Record n =
    more _ _ (omega arith) (more _ _ (omega arith) (more _ _ (omega arith) (more_zeros 16 _ (more _ _ (omega arith) (more _ _ (omega arith) (zeros (n - 18)))))))
template_octets Ended n = more _ _ (omega arith) (more _ _ (omega arith) (more _ _ (omega arith) (zeros 16)))

template-length : (form : Form) (n : ℕ) → HasLength form n → length (template form n) ≡ 3 + n
template-length Profiles n h = let a = h.1 in omega (arith, length-replicate {A = ℕ} (n - 3) 0)
template-length Version n h = omega arith
template-length (Keys Aes128) n h = omega arith
template-length (Keys Aes256) n h = omega arith
template-length Record n h = let a = h.0 in omega (arith, length-replicate {A = ℕ} (n - 18) 0)
template-length Ended n h = omega arith

template_fixed : (form : Form) (n : ℕ) → HoldEach (fixed form n) (template form n)
template_fixed Profiles n = (λ _. refl, (λ _. refl, (λ _. refl, (λ _. refl, (λ _. refl, tt)))))
template_fixed Version n = (λ _. refl, (λ _. refl, (λ _. refl, tt)))
template_fixed (Keys Aes128) n =
    (λ _. refl, (λ _. refl, (λ _. refl, (λ _. refl, (λ _. refl, (λ _. refl, (λ _. refl, (λ _. refl, (λ _. refl, (λ _. refl, tt))))))))))
template_fixed (Keys Aes256) n =
    (λ _. refl, (λ _. refl, (λ _. refl, (λ _. refl, (λ _. refl, (λ _. refl, (λ _. refl, (λ _. refl, (λ _. refl, (λ _. refl, tt))))))))))
template_fixed Record n = (λ _. refl, (λ _. refl, (λ _. refl, (λ _. refl, (λ _. refl, tt)))))
template_fixed Ended n = (λ _. refl, (λ _. refl, (λ _. refl, tt)))

-- what suits a form and is shorter is a part of a message
pub suits_part : (form : Form) (n : ℕ) (xs : List ℕ) → AreOctets xs → Suits form n xs → length xs < 3 + n → IsPart xs
suits_part form n xs fits s short =
    let t : List ℕ = template form n in
    let size : length t ≡ 3 + n = template-length form n s.length in
    let rest : List ℕ = drop (length xs) t in
    let left : length rest ≡ 3 + n - length xs = length-drop (length xs) t ∙ ap (λ (k : ℕ). k - length xs) size in
    let below : Below (length t) (fixed form n) = subst (λ k. Below k (fixed form n)) (sym size) (fixed_below form n s.length) in
    let all : AreOctets (xs ++ rest) = AreOctets-append xs rest fits (AreOctets-drop (length xs) t (template_octets form n).each) in
    let w : IsWhole form (xs ++ rest) = (
      n,
      record { length = s.length; fixed = HoldEach-filled (fixed form n) xs t below (template_fixed form n) s.fixed },
      omega (arith, length-append xs rest, left),
    ) in
    let m = whole_message form (xs ++ rest) all w in
    (message_at form (xs ++ rest), rest, m.0, omega (arith, left), m.1)

-- the length that a form has is one of its type
type_at : (form : Form) (xs : List ℕ) → type_of (message_at form xs) ≡ kind_of form
type_at Profiles xs = refl
type_at Version xs = refl
type_at (Keys profile) xs = refl
type_at Record xs = refl
type_at Ended xs = refl

pub length_is : (form : Form) (n : ℕ) → HasLength form n → IsLength (kind_of form) n
length_is form n h =
    let t : List ℕ = template form n in
    let size : length t ≡ 3 + n = template-length form n h in
    let w : IsWhole form t = (n, record { length = h; fixed = template_fixed form n }, size) in
    let m = whole_message form t (template_octets form n).each w in
    (message_at form t, m.0, type_at form t, omega (arith, spelling-length (message_at form t) m.0, ap length m.1, size))
