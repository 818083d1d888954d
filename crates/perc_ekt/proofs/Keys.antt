-- The plain text of a key, what is read of it, and what a wrapped key opens to.
use Rattle.std.proofs.Common.{◌≡◌, ◌≢◌, ◌⊎◌, ◌↔◌, ℕ, ◌+◌, ◌-◌, ◌%◌, ◌<◌, ◌≤◌, ◌&&◌, cond, eqb, List, [], ◌∷◌, ◌++◌, length, take, drop, get_or, replicate}
use Rattle.std.proofs.Common.{Option, Some, None, MatchOption, Result, Ok, Err, MatchResult, inl, inr, refl, sym, ap, subst, ◌∙◌, append_assoc, arith}
use Rattle.std.specs.Option.{ok_or}
use Rattle.std.proofs.lemmas.Bool.{cases_eq}
use Rattle.std.proofs.lemmas.Bool.Decides.{nat_tests}
use Rattle.std.proofs.lemmas.List.{take_at, drop_at, drop_all, drop-replicate, append-nil, length-append, length-drop, length-take-le}
use Rattle.byteorder.specs.Endian.{big_bytes, big_number}
use Rattle.byteorder.specs.Numbers.{big_number-reads_back}
use Rattle.perc_aes.specs.Cipher.{IsKey}
use Rattle.perc_keywrap.specs.declared.UnwrapFault.{UnwrapFault}
use Rattle.perc_keywrap.specs.declared.UnwrapFault.TheVariants.{Check, Length}
use Rattle.perc_keywrap.specs.Unwrap.{unwrapped}
use Rattle.perc_keywrap.specs.Wrap.{IsWrapped, wrapped}
use Rattle.perc_keywrap.proofs.UnwrapLaws.{unwrapped_is, unwrapped_law, unwrapped_wrong}
use Rattle.perc_ekt.specs.Key.{HasSize, IsPlainText, WrappedKey, key_in, key_or_fault, opened_key, plain_text, stored, unwrapped_as, wrapped_key}
use Rattle.perc_ekt.specs.declared.key.KeyFault.{KeyFault}
use Rattle.perc_ekt.specs.declared.key.KeyFault.TheVariants.{Unwrap, Plain}
use Rattle.perc_ekt.specs.declared.key.Wrapped.{Wrapped}
use Rattle.perc_octets.specs.Octets.{AreOctets}
use Rattle.perc_octets.proofs.Octets.{AreOctets-append, AreOctets-cons, AreOctets-drop, AreOctets-take}
use Rattle.perc_ekt.proofs.Octets.{AreOctets-bytes, four_spelled, piece, piece_as}

plain-regrouped : (n : ℕ) (key s r : List ℕ) → n ∷ ((key ++ s) ++ r) ≡ n ∷ (key ++ (s ++ r))
plain-regrouped n key s r = ap (λ (xs : List ℕ). n ∷ xs) (append_assoc key s r)

first_and_rest : (xs : List ℕ) → 1 ≤ length xs → get_or xs 0 0 ∷ drop 1 xs ≡ xs
first_and_rest [] some = absurd (omega arith)
first_and_rest (x ∷ xs) some = refl

-- what stands where in a plain text
pub record Parts (key : List ℕ) (ssrc roc : ℕ) (plain : List ℕ) : Type 0 where
  pub size : length plain ≡ length key + 9
  pub first : get_or plain 0 0 ≡ length key
  pub key_in : take (length key) (drop 1 plain) ≡ key
  pub ssrc_in : big_number 4 (drop (length key + 1) plain) ≡ ssrc
  pub roc_in : big_number 4 (drop (length key + 5) plain) ≡ roc

pub parts : (size : ℕ) (key : List ℕ) (ssrc roc : ℕ) (plain : List ℕ) → IsPlainText size key ssrc roc plain → Parts key ssrc roc plain
unfolding plain_text
parts size key ssrc roc plain is =
    let s : List ℕ = big_bytes 4 ssrc in
    let r : List ℕ = big_bytes 4 roc in
    let whole : plain ≡ length key ∷ (key ++ (s ++ r)) = is.3 ∙ plain-regrouped (length key) key s r in
    let at_s : drop (length key + 1) plain ≡ s ++ r = ap (drop (length key + 1)) whole ∙ drop_at (length key ∷ key) (s ++ r) (length key + 1) (omega arith) in
    let last : plain ≡ ((length key ∷ key) ++ s) ++ r = is.3 in
    let size : length ((length key ∷ key) ++ s) ≡ length key + 5 = omega (arith, length-append (length key ∷ key) s) in
    let at_r : drop (length key + 5) plain ≡ r ++ [] = ap (drop (length key + 5)) last ∙ drop_at ((length key ∷ key) ++ s) r (length key + 5) size ∙ sym (append-nil r) in
    record {
      size = omega (arith, ap length whole, length-append key (s ++ r));
      first = ap (λ (xs : List ℕ). get_or xs 0 0) whole;
      key_in = ap (λ (xs : List ℕ). take (length key) (drop 1 xs)) whole ∙ take_at key (s ++ r) (length key) refl;
      ssrc_in = ap (big_number 4) at_s ∙ big_number-reads_back 4 ssrc r (omega (arith, is.1));
      roc_in = ap (big_number 4) at_r ∙ big_number-reads_back 4 roc [] (omega (arith, is.2));
    }

-- a text of the right length that begins with it
pub plain_in : (plain : List ℕ) (len : ℕ) → AreOctets plain → length plain ≡ len + 9 → get_or plain 0 0 ≡ len
    → IsPlainText len (take len (drop 1 plain)) (big_number 4 (drop (len + 1) plain)) (big_number 4 (drop (len + 5) plain)) plain
unfolding plain_text
plain_in plain len fits size first =
    let key : List ℕ = take len (drop 1 plain) in
    let lk : length key ≡ len = length-take-le len (drop 1 plain) (omega (arith, length-drop 1 plain)) in
    let s = four_spelled (drop (len + 1) plain) (omega (arith, length-drop (len + 1) plain)) (AreOctets-drop (len + 1) plain fits) in
    let r = four_spelled (drop (len + 5) plain) (omega (arith, length-drop (len + 5) plain)) (AreOctets-drop (len + 5) plain fits) in
    let end : drop (len + 9) plain ≡ [] = drop_all (len + 9) plain (omega arith) in
    let tail : big_bytes 4 (big_number 4 (drop (len + 5) plain)) ≡ drop (len + 5) plain =
    sym (append-nil (big_bytes 4 (big_number 4 (drop (len + 5) plain))))
    ∙ ap (λ (xs : List ℕ). big_bytes 4 (big_number 4 (drop (len + 5) plain)) ++ xs) (sym end)
    ∙ piece_as (len + 5) 4 (len + 9) (big_bytes 4 (big_number 4 (drop (len + 5) plain))) plain r.0 (omega arith) in
    let numbers : big_bytes 4 (big_number 4 (drop (len + 1) plain)) ++ big_bytes 4 (big_number 4 (drop (len + 5) plain)) ≡ drop (len + 1) plain =
    ap (λ (xs : List ℕ). big_bytes 4 (big_number 4 (drop (len + 1) plain)) ++ xs) tail
    ∙ piece_as (len + 1) 4 (len + 5) (big_bytes 4 (big_number 4 (drop (len + 1) plain))) plain s.0 (omega arith) in
    let all : key ++ (big_bytes 4 (big_number 4 (drop (len + 1) plain)) ++ big_bytes 4 (big_number 4 (drop (len + 5) plain))) ≡ drop 1 plain =
    ap (λ (xs : List ℕ). key ++ xs) numbers ∙ piece 1 len (len + 1) plain (omega arith) in
    let front : get_or plain 0 0 ∷ drop 1 plain ≡ plain = first_and_rest plain (omega arith) in
    let whole : length key ∷ ((key ++ big_bytes 4 (big_number 4 (drop (len + 1) plain))) ++ big_bytes 4 (big_number 4 (drop (len + 5) plain))) ≡ plain =
    plain-regrouped (length key) key (big_bytes 4 (big_number 4 (drop (len + 1) plain))) (big_bytes 4 (big_number 4 (drop (len + 5) plain)))
    ∙ ap (λ (xs : List ℕ). length key ∷ xs) all
    ∙ ap (λ (n : ℕ). n ∷ drop 1 plain) (lk ∙ sym first)
    ∙ front in
    (lk, s.1, r.1, sym whole)

pub same_wrapped : (a b : Wrapped) → a.key ≡ b.key → a.len ≡ b.len → a.ssrc ≡ b.ssrc → a.roc ≡ b.roc → a ≡ b
same_wrapped a b e f g h = λ i. record { key = e i; len = f i; ssrc = g i; roc = h i }

pub key_stored : (plain room : List ℕ) (len : ℕ) → room ≡ stored (take (len + 1 - 1) (drop 1 plain)) → room ≡ stored (take len (drop 1 plain))
key_stored plain room len is =
    let same : len + 1 - 1 ≡ len = omega arith in
    is ∙ ap (λ (n : ℕ). stored (take n (drop 1 plain))) same

pub roc_at : (plain : List ℕ) (roc len : ℕ) → roc ≡ big_number 4 (drop (len + 1 + 4) plain) → roc ≡ big_number 4 (drop (len + 5) plain)
roc_at plain roc len is =
    let same : len + 1 + 4 ≡ len + 5 = omega arith in
    is ∙ ap (λ (n : ℕ). big_number 4 (drop n plain)) same

-- ---- what is read of a plain text

abbrev pub key_at : ℕ → List ℕ → WrappedKey
key_at size plain = record { key = take size (drop 1 plain); ssrc = big_number 4 (drop (size + 1) plain); roc = big_number 4 (drop (size + 5) plain) }

two_pass : (a b c d : ℕ) (k : WrappedKey) → a ≡ b → c ≡ d → cond (eqb a b && eqb c d) (Some k) None ≡ Some k
two_pass a b c d k e f = grind (arith, nat_tests)

first_fails : (a b c d : ℕ) (k : WrappedKey) → a ≢ b → cond (eqb a b && eqb c d) (Some k) None ≡ None
first_fails a b c d k other = grind (arith, nat_tests)

second_fails : (a b c d : ℕ) (k : WrappedKey) → c ≢ d → cond (eqb a b && eqb c d) (Some k) None ≡ None
second_fails a b c d k other = grind (arith, nat_tests)

none_some : (k : WrappedKey) → ◌≡◌ {A = Option WrappedKey} None (Some k) → ⊥
none_some k e = cc

same_some : (j k : WrappedKey) → ◌≡◌ {A = Option WrappedKey} (Some j) (Some k) → j ≡ k
same_some j k e = cc

err_ok : (fault : KeyFault) (k : WrappedKey) → ◌≡◌ {A = Result WrappedKey KeyFault} (Err fault) (Ok k) → ⊥
err_ok fault k e = cc

same_ok : (j k : WrappedKey) → ◌≡◌ {A = Result WrappedKey KeyFault} (Ok j) (Ok k) → j ≡ k
same_ok j k e = cc

two_fail : (a b c d : ℕ) (k : WrappedKey) → (a ≡ b → c ≡ d → ⊥) → cond (eqb a b && eqb c d) (Some k) None ≡ None
two_fail a b c d k fails =
    elim (cases_eq a b) [
      | inr other ↦ first_fails a b c d k other
      | inl e ↦
          elim (cases_eq c d) [
            | inr other ↦ second_fails a b c d k other
            | inl f ↦ absurd (fails e f)
          ]
    ]

pub key_read : (size : ℕ) (plain : List ℕ) → length plain ≡ size + 9 → get_or plain 0 0 ≡ size → key_in size plain ≡ Some (key_at size plain)
unfolding key_in
key_read size plain whole first = two_pass (length plain) (size + 9) (get_or plain 0 0) size (key_at size plain) whole first

pub key_refused : (size : ℕ) (plain : List ℕ) → (length plain ≡ size + 9 → get_or plain 0 0 ≡ size → ⊥) → key_in size plain ≡ None
unfolding key_in
key_refused size plain fails = two_fail (length plain) (size + 9) (get_or plain 0 0) size (key_at size plain) fails

-- a plain text of which a key is read has its length and begins with that of the key
pub record IsRead (size : ℕ) (plain : List ℕ) (k : WrappedKey) : Type 0 where
  pub whole : length plain ≡ size + 9
  pub first : get_or plain 0 0 ≡ size
  pub is : key_at size plain ≡ k

pub key_was_read : (size : ℕ) (plain : List ℕ) (k : WrappedKey) → key_in size plain ≡ Some k → IsRead size plain k
key_was_read size plain k e =
    elim (cases_eq (length plain) (size + 9)) [
      | inr other ↦ absurd (none_some k (sym (key_refused size plain (λ whole first. other whole)) ∙ e))
      | inl whole ↦
          elim (cases_eq (get_or plain 0 0) size) [
            | inr other ↦ absurd (none_some k (sym (key_refused size plain (λ whole first. other first)) ∙ e))
            | inl first ↦ record { whole = whole; first = first; is = same_some (key_at size plain) k (sym (key_read size plain whole first) ∙ e) }
          ]
    ]

same_key : (j k : WrappedKey) → j.key ≡ k.key → j.ssrc ≡ k.ssrc → j.roc ≡ k.roc → j ≡ k
same_key j k e f g = λ i. record { key = e i; ssrc = f i; roc = g i }

pub plain_read : (size : ℕ) (plain : List ℕ) (k : WrappedKey) → IsPlainText size k.key k.ssrc k.roc plain → key_in size plain ≡ Some k
plain_read size plain k is =
    let p = parts size k.key k.ssrc k.roc plain is in
    let len : length k.key ≡ size = is.0 in
    let key : take size (drop 1 plain) ≡ k.key = ap (λ (n : ℕ). take n (drop 1 plain)) (sym len) ∙ p.key_in in
    let ssrc : big_number 4 (drop (size + 1) plain) ≡ k.ssrc = ap (λ (n : ℕ). big_number 4 (drop (n + 1) plain)) (sym len) ∙ p.ssrc_in in
    let roc : big_number 4 (drop (size + 5) plain) ≡ k.roc = ap (λ (n : ℕ). big_number 4 (drop (n + 5) plain)) (sym len) ∙ p.roc_in in
    key_read size plain (p.size ∙ ap (λ (n : ℕ). n + 9) len) (p.first ∙ len)
    ∙ ap (λ (j : WrappedKey). Some j) (same_key (key_at size plain) k key ssrc roc)

-- a key is read exactly where the plain text is its own
pub key_in_is : (size : ℕ) (plain : List ℕ) (k : WrappedKey) → AreOctets plain → (key_in size plain ≡ Some k) ↔ IsPlainText size k.key k.ssrc k.roc plain
key_in_is size plain k fits = (
  λ e.
      let read = key_was_read size plain k e in
      subst (λ (j : WrappedKey). IsPlainText size j.key j.ssrc j.roc plain) read.is (plain_in plain size fits read.whole read.first),
  plain_read size plain k,
)

-- ---- a wrapped key opens

-- a plain text is octets
pub plain-octets : (key : List ℕ) (ssrc roc : ℕ) → length key < 256 → AreOctets key → AreOctets (plain_text key ssrc roc)
unfolding plain_text
plain-octets key ssrc roc few fits =
    AreOctets-cons (length key) ((key ++ big_bytes 4 ssrc) ++ big_bytes 4 roc) few
    (AreOctets-append (key ++ big_bytes 4 ssrc) (big_bytes 4 roc) (AreOctets-append key (big_bytes 4 ssrc) fits (AreOctets-bytes 4 ssrc)) (AreOctets-bytes 4 roc))

pub plain-length : (key : List ℕ) (ssrc roc : ℕ) → length (plain_text key ssrc roc) ≡ length key + 9
unfolding plain_text
plain-length key ssrc roc = omega (arith, length-append (key ++ big_bytes 4 ssrc) (big_bytes 4 roc), length-append key (big_bytes 4 ssrc))

abbrev pub text_of : WrappedKey → List ℕ
text_of k = plain_text k.key k.ssrc k.roc

pub opened_some : (ekt octets plain : List ℕ) (size : ℕ) (k : WrappedKey) → unwrapped ekt octets ≡ Some plain → key_in size plain ≡ Some k → opened_key ekt size octets ≡ Ok k
unfolding opened_key
opened_some ekt octets plain size k e f = ap (key_or_fault size) e ∙ ap (λ (o : Option WrappedKey). ok_or o Plain) f

pub opened_plain : (ekt octets plain : List ℕ) (size : ℕ) → unwrapped ekt octets ≡ Some plain → key_in size plain ≡ None → opened_key ekt size octets ≡ Err Plain
unfolding opened_key
opened_plain ekt octets plain size e f = ap (key_or_fault size) e ∙ ap (λ (o : Option WrappedKey). ok_or o Plain) f

pub opened_none : (ekt octets : List ℕ) (size : ℕ) → unwrapped ekt octets ≡ None → opened_key ekt size octets ≡ Err Unwrap
unfolding opened_key
opened_none ekt octets size e = ap (key_or_fault size) e

pub opens : (ekt : List ℕ) (size : ℕ) (k : WrappedKey) → IsKey ekt → size < 256 → HasSize size k → opened_key ekt size (wrapped_key ekt k) ≡ Ok k
opens ekt size k is few fits =
    let long = plain-length k.key k.ssrc k.roc in
    let octets : AreOctets (text_of k) = plain-octets k.key k.ssrc k.roc (omega (arith, fits.len)) fits.octets in
    let whole : IsWrapped ekt (text_of k) (wrapped_key ekt k) = record { some = omega arith; few = omega (arith, fits.len); in_range = octets; value = refl } in
    opened_some ekt (wrapped_key ekt k) (text_of k) size k ((unwrapped_law ekt (wrapped_key ekt k) (text_of k) is).1 whole) (plain_read size (text_of k) k (fits.len, fits.ssrc, fits.roc, refl))

option_cases : {A : Type 0} (o : Option A) → (o ≡ None) ⊎ ((x : A) × (o ≡ Some x))
option_cases None = inl refl
option_cases (Some x) = inr (x, refl)

-- octets that aren't unwrapped
pub unwrap_refused : (fault : UnwrapFault) (key octets : List ℕ)
    → (◌≡◌ {A = Result ℕ UnwrapFault} (Err fault) (Err Length) ↔ ((length octets < 16) ⊎ ((4104 < length octets) ⊎ (length octets % 8 ≢ 0))))
    → (◌≡◌ {A = Result ℕ UnwrapFault} (Err fault) (Err Check) ↔ ((16 ≤ length octets) × (length octets ≤ 4104) × (length octets % 8 ≡ 0) × (unwrapped key octets ≡ None)))
    → unwrapped key octets ≡ None
unwrap_refused Length key octets of_length of_check = unwrapped_wrong key octets (of_length.0 refl)
unwrap_refused Check key octets of_length of_check = (of_check.0 refl).3

-- what is told where the octets are unwrapped to a plain text
opened_at : (ekt octets plain : List ℕ) (size : ℕ) (read : Option Wrapped) → unwrapped ekt octets ≡ Some plain
    → MatchOption (key_in size plain) (read ≡ None) (λ k. read ≡ Some (unwrapped_as k.key k.ssrc k.roc))
    → MatchResult (opened_key ekt size octets) (λ k. ok_or read Plain ≡ Ok (unwrapped_as k.key k.ssrc k.roc)) (λ fault. ok_or read Plain ≡ Err fault)
opened_at ekt octets plain size read found is =
    elim (option_cases (key_in size plain)) [
      | inl none ↦ rw (opened_plain ekt octets plain size found none) (ap (λ (r : Option Wrapped). ok_or r Plain) (rw none at is))
      | inr some ↦ rw (opened_some ekt octets plain size some.0 found some.1) (ap (λ (r : Option Wrapped). ok_or r Plain) (rw some.1 at is))
    ]

pub opened_answer : (ekt octets plain : List ℕ) (len size : ℕ) (read : Option Wrapped) → len ≡ size → unwrapped ekt octets ≡ Some plain
    → MatchOption (key_in len plain) (read ≡ None) (λ k. read ≡ Some (unwrapped_as k.key k.ssrc k.roc))
    → MatchResult (opened_key ekt size octets) (λ k. ok_or read Plain ≡ Ok (unwrapped_as k.key k.ssrc k.roc)) (λ fault. ok_or read Plain ≡ Err fault)
opened_answer ekt octets plain len size read same found is =
    subst (λ (n : ℕ). MatchResult (opened_key ekt n octets) (λ k. ok_or read Plain ≡ Ok (unwrapped_as k.key k.ssrc k.roc)) (λ fault. ok_or read Plain ≡ Err fault)) same
    (opened_at ekt octets plain len read found is)

-- the plain text that opened
pub record HasOpened (ekt octets : List ℕ) (size : ℕ) (k : WrappedKey) : Type 0 where
  pub plain : List ℕ
  pub found : unwrapped ekt octets ≡ Some plain
  pub read : key_in size plain ≡ Some k

pub has_opened : (ekt octets : List ℕ) (size : ℕ) (k : WrappedKey) → opened_key ekt size octets ≡ Ok k → HasOpened ekt octets size k
has_opened ekt octets size k e =
    elim (option_cases (unwrapped ekt octets)) [
      | inl none ↦ absurd (err_ok Unwrap k (sym (opened_none ekt octets size none) ∙ e))
      | inr found ↦
          elim (option_cases (key_in size found.0)) [
            | inl none ↦ absurd (err_ok Plain k (sym (opened_plain ekt octets found.0 size found.1 none) ∙ e))
            | inr read ↦ record {
              plain = found.0;
              found = found.1;
              read = read.1 ∙ ap (λ (j : WrappedKey). Some j) (same_ok read.0 k (sym (opened_some ekt octets found.0 size read.0 found.1 read.1) ∙ e));
            }
          ]
    ]

pub opens_only : (ekt : List ℕ) (size : ℕ) (octets : List ℕ) (k : WrappedKey) → opened_key ekt size octets ≡ Ok k → HasSize size k × (octets ≡ wrapped_key ekt k)
opens_only ekt size octets k e =
    let o = has_opened ekt octets size k e in
    let w = unwrapped_is ekt octets o.plain o.found in
    let fits : AreOctets o.plain = w.in_range in
    let text = (key_in_is size o.plain k fits).0 o.read in
    let read = key_was_read size o.plain k o.read in
    let key : take size (drop 1 o.plain) ≡ k.key = ap (λ (j : WrappedKey). j.key) read.is in (
      record {
        len = text.0;
        octets = subst AreOctets key (AreOctets-take size (drop 1 o.plain) (AreOctets-drop 1 o.plain fits));
        ssrc = text.1;
        roc = text.2;
      },
      sym w.value ∙ ap (wrapped ekt) text.3,
    )

-- a key in its room
pub zeros_behind : (xs : List ℕ) → length xs ≤ 32 → xs ++ drop (length xs) (replicate 32 0) ≡ stored xs
zeros_behind xs few = ap (λ (r : List ℕ). xs ++ r) (drop-replicate {X = ℕ} (length xs) 32 0)
