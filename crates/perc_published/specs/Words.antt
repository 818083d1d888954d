-- How a key set is spelled in words of 64 bits: how many adds and removals it is the set of, how many entries it has, and 17
-- words for each. In those stand the association's 16 octets in two words, the serial in one, and each pair in seven: how
-- many octets the key has, its 32 with zeros behind a key of 16, and the salt's 12 with four zeros.
use Rattle.std.specs.Prelude.{ℕ, zero, suc, ◌==◌, ◌%◌, ◌^◌, min, if◌then◌else◌, List, [], ◌∷◌, ◌++◌, take, drop, slice_index}
use Rattle.std.specs.Int.{w64, to_be_bytes}
use Rattle.perc_kdf.specs.Derivation.{KeyAndSalt}
use Rattle.perc_keyset.specs.declared.Entry.{Entry}
use Rattle.perc_keyset.specs.Set.{most_entries}

-- the eight octets of a word, the high one first
unfoldable pub octets_of : ℕ → List ℕ
octets_of word = to_be_bytes w64 word

-- those of word i
abbrev pub octets_at : List ℕ → ℕ → List ℕ
octets_at words i = octets_of (slice_index words i)

-- how many octets a key has, by the word
abbrev pub key_size : ℕ → ℕ
key_size word = if word == 16 then 16 else 32

-- the pair of seven words
unfoldable pub pair_of : List ℕ → KeyAndSalt
pair_of words = record {
  key = take (key_size (slice_index words 0)) ((octets_at words 1 ++ octets_at words 2) ++ (octets_at words 3 ++ octets_at words 4));
  salt = take 12 (octets_at words 5 ++ octets_at words 6);
}

-- the entry of 17 words
unfoldable pub entry_of : List ℕ → Entry
entry_of words = record {
  association = octets_at words 0 ++ octets_at words 1;
  serial = slice_index words 2 % 2 ^ 32;
  client = pair_of (drop 3 words);
  server = pair_of (drop 10 words);
}

-- the entries of so many times 17 words
abbrev pub entries_of : ℕ → List ℕ → List Entry
entries_of zero words = []
entries_of (suc n) words = entry_of (take 17 words) ∷ entries_of n (drop 17 words)

-- the set of all the words
unfoldable pub set_in : List ℕ → List Entry
set_in words = entries_of (min (slice_index words 1) most_entries) (drop 2 words)
