-- Laws of key wrap: how long what is wrapped is, and that it tells the plain text.
use Rattle.std.proofs.Common.{◌≡◌, ℕ, cond, eqb, ◌+◌, ◌*◌, ◌/◌, ◌%◌, ◌<◌, ◌≤◌, ◌≢◌, List, ◌++◌, length, get_or, take, drop, ⊎_elim, refl, sym, ◌∙◌, ap, arith, length-drop}
use Rattle.std.proofs.lemmas.List.{length-take-le, take_at}
use Rattle.std.proofs.lemmas.Bool.{cases_eq}
use Rattle.std.proofs.lemmas.Bool.Decides.{nat_tests}
use Rattle.perc_aes.specs.Cipher.{IsBlock, IsKey, aes}
use Rattle.perc_aes.proofs.CipherLaws.{IsBlock-aes, aes_injective}
use Rattle.perc_keywrap.specs.Wrap.{IsWrapped, count, prepared, rounds, wrapped, wrapped_length, wrapped_registers}
use Rattle.perc_octets.specs.Octets.{AreOctets}
use Rattle.perc_octets.proofs.Octets.{AreOctets-take}
use Rattle.perc_keywrap.proofs.Prepared.{AreRegisters-prepared, length-prepared, prepared_injective}
use Rattle.perc_keywrap.proofs.Steps.{AreRegisters, AreRegisters-steps, after_steps, length-aes, length-steps, rounds_flat, steps_injective}

-- ---- the registers, where there are two and where there are more

pub registers_two : (key s : List ℕ) → length s ≡ 16 → wrapped_registers key s ≡ aes key s
unfolding wrapped_registers
registers_two key s size = let one : count s ≡ 1 = omega arith in rw one refl

rounds_of : (key s : List ℕ) (n : ℕ) → n ≢ 1 → cond (eqb n 1) (aes key s) (rounds key n s 6) ≡ rounds key n s 6
rounds_of key s n more = grind (arith, nat_tests)

pub registers_more : (key s : List ℕ) (n : ℕ) → length s ≡ 8 + 8 * n → n ≢ 1 → wrapped_registers key s ≡ after_steps key n s (6 * n)
unfolding wrapped_registers
registers_more key s n size more =
    let many : count s ≡ n = omega arith in
    let all : n * 6 ≡ 6 * n = omega arith in
    rw many (rounds_of key s n more)
    ∙ rounds_flat key s n 6
    ∙ ap (λ (t : ℕ). after_steps key n s t) all

IsBlock-registers : (s : List ℕ) → AreRegisters s 1 → IsBlock s
IsBlock-registers s are = record { size = are.size; octets = are.octets }

pub AreRegisters-wrapped : (key s : List ℕ) (n : ℕ) → IsKey key → 1 ≤ n → AreRegisters s n → AreRegisters (wrapped_registers key s) n
AreRegisters-wrapped key s n is some are =
    ⊎_elim
    (λ (one : n ≡ 1).
    let two : AreRegisters s 1 = rw (sym one) are in
    let block = IsBlock-aes key s is (IsBlock-registers s two) in
    rw (registers_two key s two.size, one) (record { size = block.size; octets = block.octets }))
    (λ (more : n ≢ 1). rw (registers_more key s n are.size more) (AreRegisters-steps key s n (6 * n) is some are))
    (cases_eq n 1)

pub registers_injective : (key s u : List ℕ) (n : ℕ) → IsKey key → 1 ≤ n → AreRegisters s n → AreRegisters u n → wrapped_registers key s ≡ wrapped_registers key u → s ≡ u
registers_injective key s u n is some of_s of_u same =
    ⊎_elim
    (λ (one : n ≡ 1).
    let two_s : AreRegisters s 1 = rw (sym one) of_s in
    let two_u : AreRegisters u 1 = rw (sym one) of_u in
    aes_injective key s u is (IsBlock-registers s two_s) (IsBlock-registers u two_u) (sym (registers_two key s two_s.size) ∙ same ∙ registers_two key u two_u.size))
    (λ (more : n ≢ 1).
    steps_injective key s u n (6 * n) is some of_s of_u (sym (registers_more key s n of_s.size more) ∙ same ∙ registers_more key u n of_u.size more))
    (cases_eq n 1)

pub length-registers : (key s : List ℕ) (n : ℕ) → 1 ≤ n → length s ≡ 8 + 8 * n → length (wrapped_registers key s) ≡ length s
length-registers key s n some size =
    ⊎_elim
    (λ (one : n ≡ 1).
    let two : length s ≡ 16 = omega arith in ap length (registers_two key s two) ∙ length-aes key s ∙ sym two)
    (λ (more : n ≢ 1). ap length (registers_more key s n size more) ∙ length-steps key s n (6 * n) some size)
    (cases_eq n 1)

-- ---- plain texts

-- What is wrapped has 8 octets more than the padded plain text.
pub length-wrapped : (key plain octets : List ℕ) → IsWrapped key plain octets → length octets ≡ wrapped_length (length plain)
unfolding wrapped
length-wrapped key plain octets of_plain =
    sym (ap length of_plain.value)
    ∙ length-registers key (prepared plain) ((length plain + 7) / 8) (omega (arith, of_plain.some)) (length-prepared plain)
    ∙ length-prepared plain

-- It has from 16 to 4104 octets, in registers of 8.
pub length-wrapped-ge : (key plain octets : List ℕ) → IsWrapped key plain octets → 16 ≤ length octets
length-wrapped-ge key plain octets of_plain = omega (arith, length-wrapped key plain octets of_plain, of_plain.some)

pub length-wrapped-le : (key plain octets : List ℕ) → IsWrapped key plain octets → length octets ≤ 4104
length-wrapped-le key plain octets of_plain = omega (arith, length-wrapped key plain octets of_plain, of_plain.few)

pub length-wrapped-whole : (key plain octets : List ℕ) → IsWrapped key plain octets → length octets % 8 ≡ 0
length-wrapped-whole key plain octets of_plain = omega (arith, length-wrapped key plain octets of_plain)

-- What is wrapped is octets.
pub wrapped_in_range : (key plain octets : List ℕ) → IsKey key → IsWrapped key plain octets → (k : ℕ) → get_or octets k 0 < 256
unfolding wrapped
wrapped_in_range key plain octets is of_plain =
    let are : AreRegisters octets ((length plain + 7) / 8) =
    rw (sym of_plain.value)
    (AreRegisters-wrapped key (prepared plain) ((length plain + 7) / 8) is (omega (arith, of_plain.some)) (AreRegisters-prepared plain of_plain.in_range)) in
    are.octets

-- No two plain texts are wrapped to the same octets.
pub one_plain_text : (key a b octets : List ℕ) → IsKey key → IsWrapped key a octets → IsWrapped key b octets → a ≡ b
unfolding wrapped
one_plain_text key a b octets is of_a of_b =
    let size_a = length-wrapped key a octets of_a in
    let size_b = length-wrapped key b octets of_b in
    let many : (length b + 7) / 8 ≡ (length a + 7) / 8 = omega arith in
    prepared_injective a b of_a.few of_b.few
    (registers_injective key (prepared a) (prepared b) ((length a + 7) / 8) is (omega (arith, of_a.some)) (AreRegisters-prepared a of_a.in_range)
    (rw many at (AreRegisters-prepared b of_b.in_range))
    (of_a.value ∙ sym of_b.value))

-- a plain text, and what it is wrapped to at the front of other octets
pub is_wrapped : (key plain rest : List ℕ) (n : ℕ) → 1 ≤ length plain → length plain ≤ 4096 → AreOctets plain → n ≡ wrapped_length (length plain)
    → IsWrapped key plain (take n (wrapped key plain ++ rest))
is_wrapped key plain rest n some few are size =
    let whole : IsWrapped key plain (wrapped key plain) = record { some = some; few = few; in_range = are; value = refl } in
    let long : length (wrapped key plain) ≡ n = length-wrapped key plain (wrapped key plain) whole ∙ sym size in
    record {
      some = some;
      few = few;
      in_range = are;
      value = sym (take_at (wrapped key plain) rest n long);
    }

-- ---- what unwrapping finds

-- These registers are wrapped to the octets.
pub record AreFound (key registers octets : List ℕ) : Type 0 where
  pub small : AreOctets registers
  pub size : length registers ≡ length octets
  pub value : wrapped_registers key registers ≡ octets

-- where a plain text is wrapped to the octets, the registers found are those that wrapping it begins with
pub registers_found : (key registers octets plain : List ℕ) → IsKey key → AreFound key registers octets → IsWrapped key plain octets → prepared plain ≡ registers
unfolding wrapped
registers_found key registers octets plain is found of_plain =
    registers_injective key (prepared plain) registers ((length plain + 7) / 8) is (omega (arith, of_plain.some)) (AreRegisters-prepared plain of_plain.in_range)
    (record { size = found.size ∙ length-wrapped key plain octets of_plain; octets = found.small })
    (of_plain.value ∙ sym found.value)

-- The first n of these octets are the plain text with which the registers begin.
pub record IsMoved (registers now : List ℕ) (n : ℕ) : Type 0 where
  pub small : AreOctets now
  pub some : 1 ≤ n
  pub room : n + 8 ≤ length registers
  pub few : length registers ≤ 4104
  pub begins : prepared (take n (drop 8 registers)) ≡ registers
  pub same : take n now ≡ take n (drop 8 registers)

-- that plain text is wrapped to the octets
pub plain_found : (key registers octets now : List ℕ) (n : ℕ) → wrapped_registers key registers ≡ octets → IsMoved registers now n → IsWrapped key (take n now) octets
unfolding wrapped
plain_found key registers octets now n found moved =
    let room = moved.room in
    let few = moved.few in
    let some = moved.some in
    let long : length (take n now) ≡ n = ap length moved.same ∙ length-take-le n (drop 8 registers) (omega (arith, length-drop 8 registers)) in
    record {
      some = omega arith;
      few = omega arith;
      in_range = AreOctets-take n now moved.small;
      value = ap (λ (p : List ℕ). wrapped_registers key (prepared p)) moved.same ∙ ap (λ (s : List ℕ). wrapped_registers key s) moved.begins ∙ found;
    }
