-- What the program does with the word `replay`.
use Rattle.std.specs.Prelude.{◌≡◌, ℕ, ◌-◌, ◌^◌, ◌<◌, ◌⊎◌, ◌++◌, List, [], ◌∷◌, codes, Option, Some, AllPairs}
use Rattle.perc_base.specs.Lines.{lines_of}
use Rattle.perc_outgoing.specs.History.{AreOtherSeals}
use Rattle.perc_script_line.specs.declared.reason.Reason.{Reason}
use Rattle.perc_run.specs.State.{nobody}
use Rattle.perc_run.specs.Delivering.{by_cipher, by_table}
use Rattle.perc_run.specs.Report.{Done, Stopped, Foreign, run_by}
use Rattle.perc_headline.specs.Headline.{AreOfLines, EndsAtForeign, Headline}
use Rattle.perc_headline.specs.Nonces.{run_seals}
use Rattle.perc_replay.specs.Replay.{IsBeginning, report_of, run_of}

-- the one form of words that is built
abbrev pub IsReplay : List (List ℕ) → Type 0
IsReplay words = words ≡ codes "replay" ∷ []

-- no call failed, and the count isn't at its end, where a failed call wouldn't show
pub record HasNoFault (before now : ℕ) : Type 0 where
  pub same : now ≡ before
  pub short_of_end : before < 2 ^ 64 - 1

-- a line is refused
pub record IsStopped (octets : List ℕ) : Type 0 where
  pub line : ℕ
  pub reason : Reason
  pub end : (run_of octets).end ≡ Stopped line reason

-- at a line a datagram is foreign
pub record IsForeign (octets : List ℕ) : Type 0 where
  pub line : ℕ
  pub name : List ℕ
  pub end : (run_of octets).end ≡ Foreign line name

-- The run of a script ended with this status, and with this left and this written.
abbrev pub Ended : (octets before : List ℕ) (status : ℕ) (left : Option (List ℕ)) (after : List ℕ) → Type 0
Ended octets before status left after =
    -- 0: the input was read to its end, each line was done, and the report is written
    ((status ≡ 0) × ((run_of octets).end ≡ Done) × (left ≡ Some []) × (after ≡ before ++ report_of octets))
    -- 2: a line is refused, and the report of those before it is written
    ⊎ (((status ≡ 2) × IsStopped octets × (after ≡ before ++ report_of octets))
    -- 5: a datagram is foreign at a line, and the report of those before it is written
    ⊎ ((status ≡ 5) × IsForeign octets × (after ≡ before ++ report_of octets)))

-- What was written begins the report of these octets. Its turns are those of the lines of the octets, and it has the headline; where
-- it is the ciphers that answer for what is delivered, what was sent and nothing else would answer the same; it ends as foreign exactly
-- at the first line that delivers something foreign; and no nonce is used twice in it.
pub record IsTrueReport (octets before after : List ℕ) : Type 0 where
  pub beginning : IsBeginning octets before after
  pub lines : AreOfLines (lines_of octets) (run_of octets).turns
  pub headline : Headline by_cipher (run_of octets).turns
  pub ideal : run_of octets ≡ run_by by_table octets
  pub foreign : EndsAtForeign by_cipher (lines_of octets) (run_of octets)
  pub nonces : AllPairs AreOtherSeals (run_seals by_cipher nobody (run_of octets).turns)
