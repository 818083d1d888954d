-- One end of a stream.
use Rattle.std.specs.Prelude.{ℕ}
use Rattle.perc_window.specs.Replay.{Marks}

-- its SSRC, and what its window keeps of the indices that were sealed or accepted
pub record Stream : Type 0 where
  pub ssrc : ℕ
  pub window : Marks
