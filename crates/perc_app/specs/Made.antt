-- What the program does with the words `make N`.
use Rattle.std.specs.Prelude.{◌≡◌, ℕ, ◌%◌, ◌^◌, ◌≤◌, ◌⊎◌, ◌++◌, List, [], ◌∷◌, codes, Some, sum_by}
use Rattle.std.specs.List.{concat}
use Rattle.std.specs.Fmt.{decimal}
use Rattle.perc_word.specs.Word.{number_in}
use Rattle.perc_run.specs.Report.{Done, Foreign}
use Rattle.perc_generator.specs.Generator.{made_script}
use Rattle.perc_replay.specs.declared.run.Counts.{Counts}
use Rattle.perc_replay.specs.declared.run.ReplayEnd.{ReplayEnd}
use Rattle.perc_replay.specs.declared.run.ReplayEnd.TheVariants as end
use Rattle.perc_replay.specs.Replay.{counts_of, report_of, run_of}
use Rattle.perc_app.specs.Run.{IsForeign}
use Rattle.perc_app.specs.Status.{line_feed}

abbrev pub most_rounds : ℕ
most_rounds = 1000

-- the words `make N`, N from 1 to 1000
pub record IsMake (words : List (List ℕ)) (rounds : ℕ) : Type 0 where
  pub word : List ℕ
  pub words_are : words ≡ codes "make" ∷ word ∷ []
  pub number : number_in most_rounds word ≡ Some rounds
  pub some : 1 ≤ rounds

-- the sum of octets, in four octets
abbrev pub sum_of : List ℕ → ℕ
sum_of octets = sum_by (λ octet. octet) octets % 2 ^ 32

abbrev pub summary_text : ℕ → Counts → ℕ → List ℕ
summary_text rounds counts sum =
    concat (codes "made " ∷ decimal rounds ∷ codes " lines " ∷ decimal counts.lines ∷ codes " datagrams " ∷ decimal counts.datagrams
    ∷ codes " accepted " ∷ decimal counts.accepted ∷ codes " refused " ∷ decimal counts.refused ∷ codes " sum " ∷ decimal sum ∷ line_feed ∷ [])

-- the summary of a generated script: how much it did, and the sum of its report's octets
abbrev pub summary : ℕ → List ℕ
summary rounds = summary_text rounds (counts_of (run_of (made_script rounds))) (sum_of (report_of (made_script rounds)))

-- what was written is a beginning of the summary
pub record BeginsSummary (rounds : ℕ) (before after : List ℕ) : Type 0 where
  pub written : List ℕ
  pub rest : List ℕ
  pub summary_is : summary rounds ≡ written ++ rest
  pub out : after ≡ before ++ written

-- Over a sink that has written some, the run of a generated script comes to this end, with that written.
abbrev pub MakeEnds : (rounds : ℕ) (before : List ℕ) → ReplayEnd → (after : List ℕ) → Type 0
-- each line was done, and the summary is written
MakeEnds rounds before (end.Done counts) after = ((run_of (made_script rounds)).end ≡ Done) × (after ≡ before ++ summary rounds)
-- no line is refused, and nothing is read from outside
MakeEnds rounds before (end.Script line reason) after = ⊥
MakeEnds rounds before end.ReadFault after = ⊥
-- a write failed, in the middle of the summary it may be
MakeEnds rounds before end.WriteFault after = BeginsSummary rounds before after
-- a datagram was foreign, and nothing is written
MakeEnds rounds before (end.Foreign line name) after = ((run_of (made_script rounds)).end ≡ Foreign line name) × (after ≡ before)
MakeEnds rounds before end.Memory after = after ≡ before

-- an end to which it can come
abbrev pub IsMakeEnd : ReplayEnd → Type 0
IsMakeEnd (end.Done counts) = Unit {0}
IsMakeEnd (end.Script line reason) = ⊥
IsMakeEnd end.ReadFault = ⊥
IsMakeEnd end.WriteFault = Unit {0}
IsMakeEnd (end.Foreign line name) = Unit {0}
IsMakeEnd end.Memory = Unit {0}

-- It ended with this status, and with that written, where no write failed.
abbrev pub Summed : (rounds : ℕ) (before : List ℕ) (status : ℕ) (after : List ℕ) → Type 0
Summed rounds before status after =
    -- 0: each line was done, and the summary is written
    ((status ≡ 0) × ((run_of (made_script rounds)).end ≡ Done) × (after ≡ before ++ summary rounds))
    -- 5: a datagram is foreign at a line
    ⊎ (((status ≡ 5) × IsForeign (made_script rounds) × (after ≡ before))
    -- 6: no memory was found
    ⊎ ((status ≡ 6) × (after ≡ before)))
