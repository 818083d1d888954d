-- The keys that a member took, and which packets went out under each.
use Rattle.std.specs.List.{list_any}
use Rattle.std.specs.Option.{option_map_or}
use Rattle.std.specs.Prelude.{if◌then◌else◌, ℕ, ◌-◌, ◌/◌, Bool, false, ◌&&◌, ◌==◌, nat_le, List, [], ◌∷◌, Option, Some, None, slice_get}
use Rattle.std.specs.Str.{bytes_eq}
use Rattle.perc_member.specs.declared.member.Member as code_member
use Rattle.perc_member.specs.declared.member.Span.{Span}
use Rattle.perc_member.specs.declared.member.TakenKey.{TakenKey}

abbrev pub is_taken : ℕ → List ℕ → TakenKey → Bool
is_taken spi key k = k.spi == spi && bytes_eq k.key key

abbrev pub is_within : ℕ → Span → Bool
is_within index span = nat_le span.first index && nat_le index span.last

-- a packet of this index went out under it
abbrev pub has_sent : ℕ → TakenKey → Bool
has_sent index k = option_map_or (is_within index) k.sent false

-- a packet of this ROC did
abbrev pub has_wrapped : ℕ → TakenKey → Bool
has_wrapped roc k = option_map_or (λ span. nat_le (span.first / 65536) roc && nat_le roc (span.last / 65536)) k.sent false

-- once a packet of this index, the next one, went out under it
abbrev pub with_sent : ℕ → TakenKey → TakenKey
with_sent index k = record k { sent = Some (record { first = option_map_or (λ span. span.first) k.sent index; last = index }) }

-- once it went out under the last of these
abbrev pub with_sent_last : ℕ → List TakenKey → List TakenKey
with_sent_last index [] = []
with_sent_last index (k ∷ []) = with_sent index k ∷ []
with_sent_last index (k ∷ l ∷ keys) = k ∷ with_sent_last index (l ∷ keys)

abbrev pub sent_under : code_member.Member → ℕ → List ℕ → ℕ → Bool
sent_under m spi key index = list_any (λ k. is_taken spi key k && has_sent index k) m.keys.items

abbrev pub wrapped_under : code_member.Member → ℕ → List ℕ → ℕ → Bool
wrapped_under m spi key roc = list_any (λ k. is_taken spi key k && has_wrapped roc k) m.keys.items

-- the number of the datagram that a member sent with this index
abbrev pub number_at : code_member.Member → ℕ → Option ℕ
number_at m index = if nat_le m.first index then slice_get m.sends.items (index - m.first) else None
