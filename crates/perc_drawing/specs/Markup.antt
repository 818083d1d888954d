-- Words of markup (XML 1.0 section 2.4).
use Rattle.std.specs.Prelude.{◌==◌, ℕ, if◌then◌else◌, List, [], ◌∷◌, nat_le, codes}
use Rattle.std.specs.List.{flat_map}
use Rattle.std.specs.Fmt.{decimal}
use Rattle.perc_drawing.specs.declared.markup.Word.{Word}
use Rattle.perc_drawing.specs.declared.markup.Word.TheVariants.{Number, Octets}

-- An octet as it may stand in a text or in the value of an attribute. What isn't printable ASCII is a question mark.
abbrev pub escaped_octet : ℕ → List ℕ
escaped_octet x =
    if x == 34 then codes "&quot;"
    else if x == 38 then codes "&amp;"
    else if x == 60 then codes "&lt;"
    else if x == 62 then codes "&gt;"
    else if nat_le 32 x then (if nat_le x 126 then x ∷ [] else codes "?")
    else codes "?"

abbrev pub escaped : List ℕ → List ℕ
escaped octets = flat_map escaped_octet octets

abbrev pub word_text : Word → List ℕ
word_text (Number n) = decimal n
word_text (Octets octets) = escaped octets.now

abbrev pub words_text : List Word → List ℕ
words_text words = flat_map word_text words
