-- Octets that are spelled in a line, or lie in memory as they are.
use Rattle.std.specs.Prelude.{◌≡◌, ℕ, List}
use Rattle.hex.specs.Hex.{encode_lower}
use Rattle.perc_word.specs.declared.octets.Shown.{Shown}
use Rattle.perc_word.specs.declared.octets.Shown.TheVariants.{Digits, Plain}
use Rattle.perc_word.specs.Word.{spelled_octets}

abbrev pub shown_octets : Shown → List ℕ
shown_octets (Digits digits) = spelled_octets digits.now
shown_octets (Plain octets) = octets.now

abbrev pub shown_digits : Shown → List ℕ
shown_digits (Digits digits) = digits.now
shown_digits (Plain octets) = encode_lower octets.now

-- the digits are the spelling of the octets
abbrev pub AreSpelled : Shown → Type 0
AreSpelled shown = shown_digits shown ≡ encode_lower (shown_octets shown)
