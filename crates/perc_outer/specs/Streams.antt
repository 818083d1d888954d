-- The outer streams of one direction of an association: the SSRCs from which a packet was accepted hop by hop, each with the
-- indices accepted under it (RFC 3711 section 3.2.3). How many there are at most is this product's own.
use Rattle.std.specs.Prelude.{ℕ, ◌==◌, ◌&&◌, Bool, not, nat_le, if◌then◌else◌, List, [], ◌∷◌, length, find}
use Rattle.std.specs.List.{list_any}
use Rattle.std.specs.Option.{option_map_or}

abbrev pub most_streams : ℕ
most_streams = 256

pub record OuterStream : Type 0 where
  pub ssrc : ℕ
  pub accepted : List ℕ

abbrev pub is_of : ℕ → OuterStream → Bool
is_of ssrc s = s.ssrc == ssrc

-- the indices accepted under an SSRC: none, where there is no stream of it
abbrev pub accepted_of : List OuterStream → ℕ → List ℕ
accepted_of streams ssrc = option_map_or (λ s. s.accepted) (find (is_of ssrc) streams) []

-- A packet with this SSRC would begin a stream, and there are as many as may be.
abbrev pub is_full_for : List OuterStream → ℕ → Bool
is_full_for streams ssrc = not (list_any (is_of ssrc) streams) && nat_le most_streams (length streams)

-- the streams with one more index accepted under an SSRC; a new stream stands last
abbrev pub with_index : ℕ → ℕ → List OuterStream → List OuterStream
with_index ssrc index [] = record { ssrc = ssrc; accepted = index ∷ [] } ∷ []
with_index ssrc index (s ∷ streams) =
    if s.ssrc == ssrc then record s { accepted = index ∷ s.accepted } ∷ streams else s ∷ with_index ssrc index streams
