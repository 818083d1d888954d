-- The statuses of the program, and the texts that tell them.
use Rattle.std.specs.Prelude.{ℕ, List, [], ◌∷◌, ◌++◌, codes}
use Rattle.std.specs.List.{concat}
use Rattle.std.specs.Fmt.{decimal}
use Rattle.perc_script_line.specs.Reason.{reason_text}
use Rattle.perc_replay.specs.declared.run.ReplayEnd.{ReplayEnd}
use Rattle.perc_replay.specs.declared.run.ReplayEnd.TheVariants.{Done, Script, ReadFault, WriteFault, Foreign, Memory}

-- the status of words in no form
abbrev pub usage_status : ℕ
usage_status = 1

-- the status of an end
abbrev pub status_of : ReplayEnd → ℕ
status_of (Done counts) = 0
status_of (Script line reason) = 2
status_of ReadFault = 3
status_of WriteFault = 4
status_of (Foreign line endpoint) = 5
status_of Memory = 6

-- a line feed
abbrev pub line_feed : List ℕ
line_feed = 10 ∷ []

abbrev pub usage_text : List ℕ
usage_text = codes "perc: usage: replay, make, endpoint, distributor, keydist" ++ line_feed

abbrev pub foreign_text : ℕ → List ℕ → List ℕ
foreign_text line name = concat (codes "perc: line " ∷ decimal line ∷ codes ": foreign tag or key at " ∷ name ∷ line_feed ∷ [])

-- what the error sink is told
abbrev pub end_text : ReplayEnd → List ℕ
end_text (Done counts) = []
end_text (Script line reason) = concat (codes "perc: line " ∷ decimal line ∷ codes ": " ∷ reason_text reason ∷ line_feed ∷ [])
end_text ReadFault = codes "perc: read fault" ++ line_feed
end_text WriteFault = codes "perc: write fault" ++ line_feed
end_text (Foreign line endpoint) = foreign_text line endpoint
end_text Memory = codes "perc: memory" ++ line_feed
