-- Octets that are spelled in a line.
use Rattle.std.proofs.Common.{◌≡◌, ℕ, ◌/◌, List, length, ap, ◌∙◌, arith}
use Rattle.std.specs.Borrow.{Bor}
use Rattle.hex.specs.Hex.{lower_digits}
use Rattle.hex.proofs.HexLemmas.{length-encode_with}
use Rattle.perc_word.specs.Word.{spelled_octets}
use Rattle.perc_word.specs.Shown.{shown_octets, AreSpelled}
use Rattle.perc_word.specs.declared.octets.Shown.{Shown}
use Rattle.perc_word.specs.declared.octets.Shown.TheVariants.{Digits}

-- two digits for each octet
pub spelled_len : (digits : Bor (List ℕ)) (shown : Shown) (octets : List ℕ) → shown ≡ Digits digits → AreSpelled shown → shown_octets shown ≡ octets → length digits.now / 2 ≡ length octets
spelled_len digits shown octets is spelled view =
    let h : AreSpelled (Digits digits) = rw is at spelled in
    let e = ap length h in
    let two = length-encode_with lower_digits (spelled_octets digits.now) in
    let v : spelled_octets digits.now ≡ octets = rw is at view in
    let half : length digits.now / 2 ≡ length (spelled_octets digits.now) = omega arith in
    half ∙ ap length v
