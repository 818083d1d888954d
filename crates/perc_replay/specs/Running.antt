-- What the code does at the next line of a script.
use Rattle.std.specs.Prelude.{◌≡◌, ◌<◌, ◌≤◌, ◌+◌, ◌⊎◌, true, ℕ, List, [], ◌∷◌, ◌++◌, length, Option, Some, None, Result, Ok, Err, IfSome}
use Rattle.perc_base.specs.Lines.{Held, lines_before, longest}
use Rattle.perc_conference_state.specs.Mirror.{IsRunning, Mirrors, told_of}
use Rattle.perc_conference_state.specs.declared.conference.Conference as code
use Rattle.perc_conference_state.specs.declared.conference.Stop.TheVariants as stop
use Rattle.perc_conference_state.specs.declared.conference.Stop.{Stop}
use Rattle.perc_conference_state.specs.declared.conference.Told.{Told}
use Rattle.perc_replay.specs.Replay.{line_feeds}
use Rattle.perc_replay.specs.declared.run.Counts.{Counts}
use Rattle.perc_replay.specs.declared.run.Halt.TheVariants as halt
use Rattle.perc_replay.specs.declared.run.Halt.{Halt}
use Rattle.perc_replay.specs.declared.run.ReplayEnd.TheVariants as end
use Rattle.perc_replay.specs.declared.run.ReplayEnd.{ReplayEnd}
use Rattle.perc_report_line.specs.Report.{Report, report_texts}
use Rattle.perc_run.specs.Delivering.{by_cipher}
use Rattle.perc_run.specs.Report.{turn_at}
use Rattle.perc_run.specs.Sound.{IsOrderly}
use Rattle.perc_run.specs.State.{State, Goes, Halts, Refused, last_line}
use Rattle.perc_script_line.specs.Script.{most_datagrams, script_of}
use Rattle.perc_script_line.specs.declared.reason.Reason.TheVariants.{Long, Limit}

-- where the reader has seen the end of its source, nothing is left of it
abbrev pub IsTidy : Held → List ℕ → Type 0
IsTidy held left = held.ended ≡ true → left ≡ []

-- A line was taken from the octets before the reader. It ends with its one line feed, or with the source.
pub record TakesLine (held : Held) (left : List ℕ) (now : Held) (later : List ℕ) : Type 0 where
  pub taken : List ℕ
  pub octets : held.octets ++ left ≡ taken ++ (now.octets ++ later)
  pub ends : (line_feeds taken ≡ 1) ⊎ ((now.octets ++ later ≡ []) × (now.ended ≡ true))

-- A read failed: the octets stay before the reader, and of those that were read none is a line feed.
pub record BreaksOff (held : Held) (left : List ℕ) (now : Held) (later : List ℕ) : Type 0 where
  pub goes_on : held.ended ≡ true → ⊥
  pub octets : held.octets ++ left ≡ now.octets ++ later
  pub no_line : line_feeds now.octets ≡ 0

-- what happens to the octets before the reader
abbrev pub Takes : Held → List ℕ → Result (Option Told) Halt → Held → List ℕ → Type 0
Takes held left (Ok None) now later = Unit {0}
Takes held left (Ok (Some told)) now later = TakesLine held left now later
Takes held left (Err (halt.Stop e)) now later = Unit {0}
Takes held left (Err halt.ReadFault) now later = BreaksOff held left now later
Takes held left (Err halt.WriteFault) now later = Unit {0}

-- The line was done: it reported these lines and left this state.
pub record LineGoes (s : State) (line : List ℕ) (reported : List Report) (next : State) : Type 0 where
  pub short : length line ≤ longest
  pub goes : turn_at by_cipher s (script_of line) ≡ Goes reported next

-- The line was done by the code, which told of it.
pub record LineDone (s : State) (line : List ℕ) (told : Told) (text : List ℕ) (c : code.Conference) : Type 0 where
  pub reported : List Report
  pub next : State
  pub goes : LineGoes s line reported next
  pub told_is : told ≡ told_of reported
  pub text_is : text ≡ report_texts reported
  pub orderly : IsOrderly next
  pub mirrors : Mirrors c next

-- A line that was done made a datagram for each wire line. It reported one accept line at most, and refused no more datagrams than a
-- line can name.
pub record Grows (before : code.Conference) (told : Told) (after : code.Conference) : Type 0 where
  pub running : IsRunning after
  pub datagrams : length after.datagrams.items ≡ length before.datagrams.items + told.datagrams
  pub accepted : told.accepted ≤ 1
  pub refused : told.refused ≤ most_datagrams

-- why a line isn't done
abbrev pub LineStops : State → (line : List ℕ) → Stop → Type 0
LineStops s line (stop.Refused reason) =
    ((longest < length line) × (reason ≡ Long)) ⊎ ((length line ≤ longest) × (turn_at by_cipher s (script_of line) ≡ Refused reason))
LineStops s line (stop.Foreign name) = (length line ≤ longest) × (turn_at by_cipher s (script_of line) ≡ Halts name)
LineStops s line stop.Memory = Unit {0}

-- what the text holds of the next line, and what is mirrored then
abbrev pub TurnsNext : (s : State) (lines : List (List ℕ)) → Result (Option Told) Halt → (before after : List ℕ) → code.Conference
    → (later : List (List ℕ)) → Type 0
TurnsNext s lines (Ok None) before after c later = lines ≡ []
TurnsNext s lines (Ok (Some told)) before after c later =
    (line : List ℕ) × (text : List ℕ) × (lines ≡ line ∷ later) × LineDone s line told text c × (after ≡ before ++ text)
TurnsNext s lines (Err (halt.Stop e)) before after c later =
    (line : List ℕ) × (rest : List (List ℕ)) × (lines ≡ line ∷ rest) × LineStops s line e
TurnsNext s lines (Err halt.ReadFault) before after c later = Unit {0}
TurnsNext s lines (Err halt.WriteFault) before after c later = ⊥

-- what is written of the next line, and what is mirrored then
abbrev pub Steps : (s : State) (lines : List (List ℕ)) → Result (Option Told) Halt → (before after : List ℕ) → code.Conference
    → (later : List (List ℕ)) → Type 0
Steps s lines (Ok None) before after c later = (lines ≡ []) × (after ≡ before)
Steps s lines (Ok (Some told)) before after c later =
    (line : List ℕ) × (text : List ℕ) × (lines ≡ line ∷ later) × LineDone s line told text c × (after ≡ before ++ text)
Steps s lines (Err (halt.Stop e)) before after c later =
    (line : List ℕ) × (rest : List (List ℕ)) × (lines ≡ line ∷ rest) × LineStops s line e × (after ≡ before)
Steps s lines (Err halt.ReadFault) before after c later = after ≡ before
-- a part of what the line reports
Steps s lines (Err halt.WriteFault) before after c later =
    (line : List ℕ) × (rest : List (List ℕ)) × (reported : List Report) × (next : State) × (part others : List ℕ) × (lines ≡ line ∷ rest)
    × LineGoes s line reported next × (report_texts reported ≡ part ++ others) × (after ≡ before ++ part)

-- the same of what the reader holds and the source has left, before and after, where that is told
abbrev pub NextTurn : State → (left later : Option (List ℕ)) (held now : Held) → Result (Option Told) Halt → (before after : List ℕ)
    → code.Conference → Type 0
NextTurn s left later held now r before after c =
    IfSome left (λ all. IsTidy held all
    → (l : List ℕ) × (later ≡ Some l) × IsTidy now l × (r ≡ Ok None → l ≡ []) × Takes held all r now l
    × TurnsNext s (lines_before held all) r before after c (lines_before now l))

-- and of what the sink has written
abbrev pub NextStep : State → (left later written wrote : Option (List ℕ)) (held now : Held) → Result (Option Told) Halt
    → code.Conference → Type 0
NextStep s left later written wrote held now r c =
    IfSome left (λ all. IfSome written (λ before. IsTidy held all
    → (l after : List ℕ) × (later ≡ Some l) × (wrote ≡ Some after) × IsTidy now l × (r ≡ Ok None → l ≡ []) × Takes held all r now l
    × Steps s (lines_before held all) r before after c (lines_before now l)))

-- how a script ends that halts at a line
abbrev pub halted : ℕ → Halt → ReplayEnd
halted line (halt.Stop (stop.Refused reason)) = end.Script line reason
halted line (halt.Stop (stop.Foreign name)) = end.Foreign line name
halted line (halt.Stop stop.Memory) = end.Memory
halted line halt.ReadFault = end.ReadFault
halted line halt.WriteFault = end.WriteFault

-- how a script ends at the last line that a number is for, where these lines are left
abbrev pub PastAll : List (List ℕ) → Counts → ReplayEnd → (left : Option (List ℕ)) → Type 0
PastAll lines counts (end.Done given) left = (lines ≡ []) × (given ≡ counts) × (left ≡ Some [])
PastAll lines counts (end.Script line reason) left =
    (line ≡ last_line) × (reason ≡ Limit) × (first : List ℕ) × (rest : List (List ℕ)) × (lines ≡ first ∷ rest)
PastAll lines counts (end.Foreign line name) left = ⊥
PastAll lines counts end.ReadFault left = Unit {0}
PastAll lines counts end.WriteFault left = ⊥
PastAll lines counts end.Memory left = ⊥

-- the counts after one line more
abbrev pub counted : Told → Counts → Counts
counted told n = record {
  lines = n.lines + 1;
  datagrams = n.datagrams + told.datagrams;
  accepted = n.accepted + told.accepted;
  refused = n.refused + told.refused;
}
