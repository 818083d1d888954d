-- How the streams are held: by their SSRCs, in room that is taken once.
use Rattle.std.specs.Prelude.{◌≡◌, ℕ, ◌<◌, ◌≤◌, List, length, slice_index_or, AllPairs}
use Rattle.perc_srtp.specs.Ends.{Stream}
use Rattle.perc_outer.specs.Streams.{most_streams}

-- The SSRCs rise, and there is room for as many streams as may be.
pub record AreWellKept (kept : List Stream) (room : ℕ) : Type 0 where
  pub rising : AllPairs (λ a b. a.ssrc < b.ssrc) kept
  pub few : length kept ≤ most_streams
  pub room_is : most_streams ≤ room

-- The stream at this place has this SSRC.
pub record IsAt (kept : List Stream) (ssrc place : ℕ) : Type 0 where
  pub in_range : place < length kept
  pub has_ssrc : (d : Stream) → (slice_index_or kept place d).ssrc ≡ ssrc

-- A stream of this SSRC would stand at this place: lower SSRCs before it, and higher ones from it on.
pub record IsGapFor (kept : List Stream) (ssrc place : ℕ) : Type 0 where
  pub in_range : place ≤ length kept
  pub lower : (k : ℕ) (d : Stream) → k < place → (slice_index_or kept k d).ssrc < ssrc
  pub higher : (k : ℕ) (d : Stream) → place ≤ k → k < length kept → ssrc < (slice_index_or kept k d).ssrc
