-- The words that are left of a line, and the items that are left of a list.
use Rattle.std.specs.Prelude.{ℕ, List, [], Option, Some, None, unwrap_or}
use Rattle.std.specs.Borrow.{Bor}
use Rattle.perc_word.specs.Word.{parts_of, all_in}

-- the parts of what is left: none, or those of a text
abbrev pub parts_left : ℕ → Option (Bor (List ℕ)) → List (List ℕ)
parts_left separator None = []
parts_left separator (Some text) = parts_of separator text.now

abbrev pub words_left : Option (Bor (List ℕ)) → List (List ℕ)
words_left text = parts_left 32 text

abbrev pub items_left : Option (Bor (List ℕ)) → List (List ℕ)
items_left text = parts_left 44 text

-- a word, and the words behind it
abbrev pub word_taken : Bor (List ℕ) × Option (Bor (List ℕ)) → List ℕ × List (List ℕ)
word_taken x = (x.0.now, words_left x.1)

-- an item, and the items behind it
abbrev pub item_taken : Bor (List ℕ) × Option (Bor (List ℕ)) → List ℕ × List (List ℕ)
item_taken x = (x.0.now, items_left x.1)

-- what an option says
abbrev pub option_told : Option (Bor (List ℕ)) → Option (List ℕ)
option_told None = None
option_told (Some text) = Some text.now

-- what the items say that are left of a list
abbrev pub values_left : {A : Type 0} → (List ℕ → Option A) → Option (Bor (List ℕ)) → List A
values_left reads text = unwrap_or (all_in reads (items_left text)) []

-- what a word says, and the words behind it
abbrev pub value_taken : {A : Type 0} → A × Option (Bor (List ℕ)) → A × List (List ℕ)
value_taken x = (x.0, words_left x.1)
