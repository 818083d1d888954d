-- Octets that grow at their end.
use Rattle.std.proofs.Common.{◌≡◌, ℕ, List, [], ◌++◌, length, take, sym, ap, ◌∙◌, append_assoc, append-nil}
use Rattle.std.proofs.lemmas.List.{take_at}
use Rattle.perc_report_line.specs.Growth.{StartsWith}

pub starts_same : (old : List ℕ) → StartsWith old old
starts_same old = record { rest = []; is = sym (append-nil old) }

pub starts_with : (old new rest : List ℕ) → new ≡ old ++ rest → StartsWith new old
starts_with old new rest e = record { rest = rest; is = e }

pub starts_again : (old middle new : List ℕ) → StartsWith new middle → StartsWith middle old → StartsWith new old
starts_again old middle new b a = record {
  rest = a.rest ++ b.rest;
  is = b.is ∙ ap (λ xs. xs ++ b.rest) a.is ∙ append_assoc old a.rest b.rest;
}

-- cut back to the old length they are the old ones
pub starts_cut : (old new : List ℕ) (n : ℕ) → StartsWith new old → n ≡ length old → take n new ≡ old
starts_cut old new n h e = ap (take n) h.is ∙ take_at old h.rest n (sym e)

-- pieces, one after another
pub two_appended : (old a s t : List ℕ) → a ≡ old ++ s → a ++ t ≡ old ++ (s ++ t)
two_appended old a s t ha = rw ha (append_assoc old s t)

pub three_appended : (old a b s t u : List ℕ) → a ≡ old ++ s → b ≡ a ++ t → b ++ u ≡ old ++ (s ++ (t ++ u))
three_appended old a b s t u ha hb = ap (λ xs. xs ++ u) hb ∙ append_assoc a t u ∙ two_appended old a s (t ++ u) ha

pub four_appended : (old a b c s t u v : List ℕ) → a ≡ old ++ s → b ≡ a ++ t → c ≡ b ++ u → c ++ v ≡ old ++ (s ++ (t ++ (u ++ v)))
four_appended old a b c s t u v ha hb hc = ap (λ xs. xs ++ v) hc ∙ append_assoc b u v ∙ three_appended old a b s t (u ++ v) ha hb

pub five_appended : (old a b c d s t u v w : List ℕ) → a ≡ old ++ s → b ≡ a ++ t → c ≡ b ++ u → d ≡ c ++ v → d ++ w ≡ old ++ (s ++ (t ++ (u ++ (v ++ w))))
five_appended old a b c d s t u v w ha hb hc hd = ap (λ xs. xs ++ w) hd ∙ append_assoc c v w ∙ four_appended old a b c s t u (v ++ w) ha hb hc
