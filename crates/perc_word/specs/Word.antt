-- The words of a line, and what one word spells: a name, a number, octets, a list.
use Rattle.std.specs.Prelude.{ℕ, ◌+◌, ◌-◌, ◌*◌, ◌≤◌, Bool, true, false, ◌&&◌, ◌||◌, ◌==◌, nat_lt, nat_le, if◌then◌else◌, List, [], ◌∷◌, ◌++◌, length, take, drop, codes, Option, Some, None, option_and_then, find, IsTrue, Result, Ok, Err}
use Rattle.std.specs.List.{list_all, slice_split, join_with_byte}
use Rattle.std.specs.Option.{option_map}
use Rattle.std.specs.Str.{bytes_eq}
use Rattle.std.specs.Fmt.{decimal}
use Rattle.hex.specs.Hex.{decode_of, encode_lower}
use Rattle.hex.specs.declared.error.FromHexError.{FromHexError}
use Rattle.uuid.specs.Text.{hyphenated_text, lower, parsed}
use Rattle.perc_rtp.specs.Media.{is_payload_type}
use Rattle.byteorder.specs.Endian.{big_bytes, big_number}

-- one step after another, each of which may find nothing
infixl 10 ◌>>=◌
abbrev pub ◌>>=◌ : {A B : Type 0} → Option A → (A → Option B) → Option B
o >>= f = option_and_then f o

-- ---- a line's words

-- the parts of a text that one octet separates
abbrev pub parts_of : ℕ → List ℕ → List (List ℕ)
parts_of separator text = slice_split (λ x. x == separator) text

-- the words of a line, which single spaces (32) separate
abbrev pub words_of : List ℕ → List (List ℕ)
words_of line = parts_of 32 line

-- the items of a list in a word, which commas (44) separate
abbrev pub items_of : List ℕ → List (List ℕ)
items_of word = parts_of 44 word

-- the first word, and the words behind it
abbrev pub first_of : List (List ℕ) → Option (List ℕ × List (List ℕ))
first_of [] = None
first_of (word ∷ words) = Some (word, words)

-- what the first word says, and the words behind it
abbrev pub next_in : {A : Type 0} → (List ℕ → Option A) → List (List ℕ) → Option (A × List (List ℕ))
next_in reads words = do
  first ← first_of words
  value ← reads first.0
  Some (value, first.1)

-- what the first word says, and then what the words behind it say
abbrev pub word_then : {A B : Type 0} → (List ℕ → Option A) → (A → List (List ℕ) → Option B) → List (List ℕ) → Option B
word_then reads more words = do
  next ← next_in reads words
  more next.0 next.1

-- no word is left
abbrev pub end_of : List (List ℕ) → Option (Unit {0})
end_of [] = Some tt
end_of (word ∷ words) = None

-- what is said where no word is left
abbrev pub ends : {A : Type 0} → A → List (List ℕ) → Option A
ends x words = do
  end ← end_of words
  Some x

-- what stands behind a prefix in the first word, where it has that prefix, and the words that are left
abbrev pub option_split : List ℕ → List (List ℕ) → Option (List ℕ) × List (List ℕ)
option_split prefix [] = (None, [])
option_split prefix (word ∷ words) = if bytes_eq (take (length prefix) word) prefix then (Some (drop (length prefix) word), words) else (None, word ∷ words)

-- what an option says, where it is given
abbrev pub if_given : {A : Type 0} → (List ℕ → Option A) → Option (List ℕ) → Option (Option A)
if_given reads None = Some None
if_given reads (Some text) = option_map Some (reads text)

-- an option with this prefix, which may be missing, and the words behind it
abbrev pub option_in : {A : Type 0} → List ℕ → (List ℕ → Option A) → List (List ℕ) → Option (Option A × List (List ℕ))
option_in prefix reads words = do
  value ← if_given reads (option_split prefix words).0
  Some (value, (option_split prefix words).1)

-- such an option, and then what the words behind it say
abbrev pub option_then : {A B : Type 0} → List ℕ → (List ℕ → Option A) → (Option A → List (List ℕ) → Option B) → List (List ℕ) → Option B
option_then prefix reads more words = do
  next ← option_in prefix reads words
  more next.0 next.1

-- the word of such an option, where it is given, in front of other words
abbrev pub option_words : {A : Type 0} → List ℕ → (A → List ℕ) → Option A → List (List ℕ) → List (List ℕ)
option_words prefix text None words = words
option_words prefix text (Some value) words = (prefix ++ text value) ∷ words

-- what a word says, where that passes a test
abbrev pub only : {A : Type 0} → (A → Bool) → (List ℕ → Option A) → List ℕ → Option A
only test reads word = do
  value ← reads word
  if test value then Some value else None

-- It fulfils this, and passes the test also.
pub record Also {A : Type 0} (Fits : A → Type 0) (test : A → Bool) (value : A) : Type 0 where
  pub fits : Fits value
  pub passes : IsTrue (test value)

-- the value, among these, whose text the word is
abbrev pub text_in : {A : Type 0} → (A → List ℕ) → List A → List ℕ → Option A
text_in text values word = find (λ value. bytes_eq (text value) word) values

-- ---- names

abbrev pub is_upper : ℕ → Bool
is_upper c = nat_le 65 c && nat_le c 90

abbrev pub is_alphanumeric : ℕ → Bool
is_alphanumeric c = is_upper c || (nat_le 97 c && nat_le c 122) || (nat_le 48 c && nat_le c 57)

-- an upper-case letter, followed by at most 15 letters or digits
abbrev pub is_name : List ℕ → Bool
is_name [] = false
is_name (c ∷ cs) = is_upper c && list_all is_alphanumeric cs && nat_le (length cs) 15

abbrev pub name_in : List ℕ → Option (List ℕ)
name_in word = if is_name word then Some word else None

-- the text of a name is the name
abbrev pub name_text : List ℕ → List ℕ
name_text name = name

abbrev pub IsName : List ℕ → Type 0
IsName name = IsTrue (is_name name)

-- ---- numbers

-- the number that decimal digits stand for
abbrev pub value_onto : ℕ → List ℕ → ℕ
value_onto n [] = n
value_onto n (c ∷ cs) = value_onto (10 * n + (c - 48)) cs

-- the number, up to a greatest one, that the word spells in decimal, without a sign or leading zeros
unfoldable pub number_in : ℕ → List ℕ → Option ℕ
number_in greatest word =
    let n = value_onto 0 word in
    if bytes_eq word (decimal n) && nat_le n greatest then Some n else None

-- a payload type, of those that RTP doesn't leave to RTCP (RFC 5761 section 4)
abbrev pub payload_type_in : List ℕ → Option ℕ
payload_type_in word = only is_payload_type (number_in 127) word

-- a marker: `1` where it is set, else `0`
abbrev pub marker_text : Bool → List ℕ
marker_text marker = if marker then codes "1" else codes "0"

abbrev pub marker_in : List ℕ → Option Bool
marker_in word = if bytes_eq word (codes "1") then Some true else (if bytes_eq word (codes "0") then Some false else None)

-- the greatest numbers of two, four and six octets
abbrev pub most_of_two : ℕ
most_of_two = 65535

abbrev pub most_of_four : ℕ
most_of_four = 4294967295

abbrev pub most_of_six : ℕ
most_of_six = 281474976710655

-- ---- octets

-- octets: numbers below 256
abbrev pub are_octets : List ℕ → Bool
are_octets octets = list_all (λ x. nat_lt x 256) octets

-- octets, one or more
pub record AreSomeOctets (xs : List ℕ) : Type 0 where
  pub some : 1 ≤ length xs
  pub octets : IsTrue (are_octets xs)

-- the octets that hexadecimal digits stand for
abbrev pub octets_or_none : Result (List ℕ) FromHexError → List ℕ
octets_or_none (Ok octets) = octets
octets_or_none (Err e) = []

abbrev pub spelled_octets : List ℕ → List ℕ
spelled_octets digits = octets_or_none (decode_of digits)

-- octets whose spelling in lower-case hexadecimal, two digits each, is the word
abbrev pub spelled_by : List ℕ → Result (List ℕ) FromHexError → Option (List ℕ)
spelled_by word (Ok octets) = if bytes_eq word (encode_lower octets) then Some octets else None
spelled_by word (Err e) = None

-- the octets, one or more, that the word spells
unfoldable pub octets_in : List ℕ → Option (List ℕ)
octets_in word = if length word == 0 then None else spelled_by word (decode_of word)

-- an SSRC: eight digits
unfoldable pub ssrc_in : List ℕ → Option ℕ
ssrc_in word = do
  octets ← octets_in word
  if length octets == 4 then Some (big_number 4 octets) else None

abbrev pub ssrc_text : ℕ → List ℕ
ssrc_text ssrc = encode_lower (big_bytes 4 ssrc)

-- the word that stands for nothing
abbrev pub dash : List ℕ
dash = codes "-"

-- a payload, which may be empty
abbrev pub payload_in : List ℕ → Option (List ℕ)
payload_in word = if bytes_eq word dash then Some [] else octets_in word

abbrev pub payload_text : List ℕ → List ℕ
payload_text [] = dash
payload_text (x ∷ octets) = encode_lower (x ∷ octets)

-- the 16 octets that the word spells as a UUID: five groups of 8, 4, 4, 4 and 12 lower-case hexadecimal digits (RFC 9562 section 4)
unfoldable pub uuid_in : List ℕ → Option (List ℕ)
uuid_in word = do
  octets ← parsed word
  if bytes_eq (hyphenated_text lower octets) word then Some octets else None

-- ---- lists

-- what all words say, where each says something
abbrev pub all_in : {A : Type 0} → (List ℕ → Option A) → List (List ℕ) → Option (List A)
all_in reads [] = Some []
all_in reads (word ∷ words) = do
  value ← reads word
  values ← all_in reads words
  Some (value ∷ values)

-- the values of a list of at most so many items
abbrev pub list_in : {A : Type 0} → (List ℕ → Option A) → ℕ → List ℕ → Option (List A)
list_in reads most word = if nat_le (length (items_of word)) most then all_in reads (items_of word) else None

-- Each of the values fulfils it.
abbrev pub Each : {A : Type 0} → (A → Type 0) → List A → Type 0
Each Fits [] = Unit {0}
Each Fits (value ∷ values) = Fits value × Each Fits values

abbrev pub texts_of : {A : Type 0} → (A → List ℕ) → List A → List (List ℕ)
texts_of text [] = []
texts_of text (value ∷ values) = text value ∷ texts_of text values

abbrev pub list_text : {A : Type 0} → (A → List ℕ) → List A → List ℕ
list_text text values = join_with_byte 44 (texts_of text values)

-- one item or more, and at most so many
abbrev pub is_list : {A : Type 0} → ℕ → List A → Bool
is_list most values = nat_le 1 (length values) && nat_le (length values) most

-- the values of such a list, each of which fulfils this
pub record AreItems {A : Type 0} (most : ℕ) (Fits : A → Type 0) (values : List A) : Type 0 where
  pub count : IsTrue (is_list most values)
  pub each : Each Fits values

abbrev pub ssrcs_in : ℕ → List ℕ → Option (List ℕ)
ssrcs_in most word = list_in ssrc_in most word

abbrev pub datagrams_in : ℕ → List ℕ → Option (List ℕ)
datagrams_in most word = list_in (number_in most_of_four) most word

abbrev pub names_in : ℕ → List ℕ → Option (List (List ℕ))
names_in most word = list_in name_in most word
