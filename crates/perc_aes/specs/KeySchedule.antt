-- What the body keeps of a key: the words of its schedule, which begins with the key.
use Rattle.std.specs.Prelude.{◌≡◌, ℕ, ◌+◌, ◌*◌, List, take}
use Rattle.perc_aes.specs.Cipher.{IsKeyLength, schedule}
use Rattle.perc_aes.specs.Words.{octets_of_words}

-- These words begin with the schedule of the key that is their first key_words words. It has four words for each round
-- key, and so 4 * key_words + 28 of them: 44, 52 or 60.
pub record IsSchedule (kept : List ℕ) (key_words : ℕ) : Type 0 where
  pub size : IsKeyLength (4 * key_words)
  pub words : octets_of_words (take (4 * key_words + 28) kept) ≡ schedule (octets_of_words (take key_words kept)) (4 * key_words + 28)
