-- The index of an RTP packet (RFC 3711 section 3.3.1): ROC * 65536 + SEQ, below 2^48. A packet carries its SEQ
-- alone, so a receiver takes the index that is nearest to the highest one accepted.
use Rattle.std.specs.Prelude.{◌≡◌, ℕ, ◌+◌, ◌-◌, ◌*◌, ◌/◌, ◌%◌, ◌^◌, ◌<◌, Bool, ◌&&◌, if◌then◌else◌, List, [], ◌∷◌, Option, Some, None, find, nat_lt, nat_le, IsTrue, MatchOption}

-- The index lies in the half range around h: above h - 32768 and at most h + 32768 where the SEQ of h is below
-- 32768, and else from h - 32768 on and below h + 32768.
abbrev pub is_near : ℕ → ℕ → Bool
is_near h index =
    if nat_lt (h % 65536) 32768
    then nat_lt h (index + 32768) && nat_le index (h + 32768)
    else nat_le h (index + 32768) && nat_lt index (h + 32768)

-- This is the index that a packet with this SEQ has, seen from the highest index accepted, if there is one.
pub record IsNearest (highest : Option ℕ) (seq index : ℕ) : Type 0 where
  pub congruent : index % 65536 ≡ seq
  pub near : MatchOption highest (index ≡ seq) (λ h. IsTrue (is_near h index))
  pub in_range : index < 2 ^ 48

-- the indices with this SEQ under the ROC before, the same ROC and the next
abbrev pub candidates : ℕ → ℕ → List ℕ
candidates roc seq = ((roc - 1) * 65536 + seq) ∷ (roc * 65536 + seq) ∷ ((roc + 1) * 65536 + seq) ∷ []

-- The nearest index. There is none where it would be below 0 or from 2^48 on.
unfoldable pub nearest : Option ℕ → ℕ → Option ℕ
nearest None seq = Some seq
nearest (Some h) seq = find (λ index. is_near h index && nat_lt index (2 ^ 48)) (candidates (h / 65536) seq)
