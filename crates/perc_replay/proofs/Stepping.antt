-- The next line of a script: read, done and written.
use Rattle.std.proofs.Common.{◌≡◌, ℕ, ◌<◌, ◌≤◌, true, false, is_err, OnOk, OnErr, List, [], ◌∷◌, ◌++◌, length, Option, Some, None, Result, Ok, Err}
use Rattle.std.proofs.Common.{IfSome, inl, inr, refl, sym, ap, subst, ◌∙◌, append_assoc, arith, Bor}
use Rattle.perc_base.specs.Lines.{Held, Found, Line, Long, Gives, Step, Advances, answered, lines_before, longest}
use Rattle.perc_base.specs.declared.lines.LineRead.{LineRead}
use Rattle.perc_base.specs.declared.lines.LineRead.TheVariants as read
use Rattle.perc_base.specs.declared.outside.Failed.{Failed}
use Rattle.perc_base.proofs.Steps.{Step_gives}
use Rattle.perc_conference_state.specs.Mirror.{Does, IsRunning, Mirrors, told_of}
use Rattle.perc_conference_state.specs.declared.conference.Conference as code
use Rattle.perc_conference_state.specs.declared.conference.Stop.TheVariants as stop
use Rattle.perc_conference_state.specs.declared.conference.Stop.{Stop}
use Rattle.perc_conference_state.specs.declared.conference.Told.{Told}
use Rattle.perc_replay.proofs.Growth.{Grown, GrowsSo, at_grows}
use Rattle.perc_replay.proofs.LineFeeds.{line_feeds-line, no_feeds}
use Rattle.perc_replay.specs.Running.{BreaksOff, Grows, IsTidy, LineStops, NextStep, NextTurn, PastAll, Steps, TakesLine, TurnsNext}
use Rattle.perc_replay.specs.declared.run.Counts.{Counts}
use Rattle.perc_replay.specs.declared.run.Halt.TheVariants as halt
use Rattle.perc_replay.specs.declared.run.Halt.{Halt}
use Rattle.perc_replay.specs.declared.run.ReplayEnd.TheVariants as end
use Rattle.perc_replay.specs.declared.run.ReplayEnd.{ReplayEnd}
use Rattle.perc_report_line.specs.Report.{Report, report_texts}
use Rattle.perc_run.specs.Delivering.{Judge, by_cipher}
use Rattle.perc_run.specs.Report.{turn_at}
use Rattle.perc_run.specs.Sound.{IsOrderly}
use Rattle.perc_run.specs.State.{State, Turn, Goes, Halts, Refused, last_line}
use Rattle.perc_script_line.specs.Script.{IsScript, Script, script_of}
use Rattle.perc_script_line.specs.declared.reason.Reason.TheVariants as reason

-- the laws that are used: a line leaves all in order, and its fields have their bounds
abbrev pub StaysOrderly : Type 0
StaysOrderly = (judge : Judge) (s : State) (octets : List ℕ) (lines : List Report) (next : State) → IsOrderly s → turn_at judge s (script_of octets) ≡ Goes lines next → IsOrderly next

abbrev pub HaveBounds : Type 0
HaveBounds = (octets : List ℕ) (line : Script) → script_of octets ≡ Some line → IsScript line

-- ---- a turn

did : (t : Turn) (told : Told) (before after : List ℕ) (c : code.Conference) → Does t (Ok told) before after c
    → (lines : List Report) × (next : State) × (t ≡ Goes lines next) × (after ≡ before ++ report_texts lines) × (told ≡ told_of lines) × Mirrors c next
did (Goes lines next) told before after c h = (lines, next, refl, h.0, h.1, h.2)
did (Refused why) told before after c h = absurd h
did (Halts name) told before after c h = absurd h

-- why a turn isn't done
abbrev IsNotDone : Turn → Stop → Type 0
IsNotDone t (stop.Refused why) = t ≡ Refused why
IsNotDone t (stop.Foreign name) = t ≡ Halts name
IsNotDone t stop.Memory = Unit {0}

did_not : (t : Turn) (e : Stop) (before after : List ℕ) (c : code.Conference) → Does t (Err e) before after c → IsNotDone t e
did_not t stop.Memory before after c h = tt
did_not (Goes lines next) (stop.Refused why) before after c h = absurd h
did_not (Goes lines next) (stop.Foreign name) before after c h = absurd h
did_not (Refused reason) (stop.Refused why) before after c h = ap Refused (sym h)
did_not (Refused reason) (stop.Foreign name) before after c h = absurd h
did_not (Halts name) (stop.Refused why) before after c h = absurd h
did_not (Halts name) (stop.Foreign given) before after c h = ap Halts (sym h)

line_stops : (s : State) (line : List ℕ) (e : Stop) → length line ≤ longest → IsNotDone (turn_at by_cipher s (script_of line)) e → LineStops s line e
line_stops s line (stop.Refused why) short h = inr (short, h)
line_stops s line (stop.Foreign name) short h = (short, h)
line_stops s line stop.Memory short h = tt

-- What a conference does that runs: it runs on, and grows by what is told.
pub runs_on : (stays : StaysOrderly) (bounds : HaveBounds) (a b : code.Conference) (line : List ℕ) (told : Told) (before after : List ℕ) → IsRunning a
    → ((s : State) → IsOrderly s → Mirrors a s → Does (turn_at by_cipher s (script_of line)) (Ok told) before after b) → Grows a told b
runs_on stays bounds a b line told before after running does =
    let s = running.0 in
    let d = did (turn_at by_cipher s (script_of line)) told before after b (does s running.1 running.2) in
    let grown : Grown s d.0 d.1 = subst (λ (t : Turn). GrowsSo s t) d.2 (at_grows by_cipher s (script_of line) (bounds line)) in
    let datagrams = ap (λ (x : Told). x.datagrams) d.4 in
    let accepted = ap (λ (x : Told). x.accepted) d.4 in
    let refused = ap (λ (x : Told). x.refused) d.4 in record {
      running = (d.1, stays by_cipher s line d.0 d.1 running.1 d.2, d.5);
      datagrams = omega (arith, d.5.datagrams.count, running.2.datagrams.count, grown.datagrams, datagrams);
      accepted = omega (arith, grown.accepted, accepted);
      refused = omega (arith, grown.refused, refused);
    }

-- ---- a line read

nothing_behind : {A : Type 0} (xs ys : List A) → xs ++ ys ≡ [] → ys ≡ []
nothing_behind [] ys e = e
nothing_behind (x ∷ xs) ys e = absurd cc

is_nil : (left : Option (List ℕ)) (rest : List ℕ) → left ≡ Some rest → IfSome left (λ rest. rest ≡ []) → rest ≡ []
is_nil None rest e h = absurd cc
is_nil (Some l) rest e h = cc

-- after a call of the reader
tidied : (held now : Held) (all : List ℕ) (left : Option (List ℕ)) (answer : Result Found Failed) → Step held (Some all) answer now left → IsTidy held all
    → (l : List ℕ) × (left ≡ Some l) × IsTidy now l
tidied held now all left answer step tidy = (
  step.reads.0,
  step.reads.2,
  λ e. elim (step.ended e) [
    | inl h ↦ nothing_behind step.more step.reads.0 (sym step.reads.1 ∙ tidy h)
    | inr h ↦ is_nil left step.reads.0 step.reads.2 h
  ],
)

given : (held now : Held) (all : List ℕ) (left : Option (List ℕ)) (found : Found) → Step held (Some all) (Ok found) now left → IsTidy held all
    → (l : List ℕ) × (left ≡ Some l) × IsTidy now l × Gives (lines_before held all) found (lines_before now l)
given held now all left found step tidy =
    let t = tidied held now all left (Ok found) step tidy in
    let g = Step_gives held now all left found step in
    let same : g.0 ≡ t.0 = same_some (sym g.1 ∙ t.1) in
    (t.0, t.1, t.2, subst (λ (l : List ℕ). Gives (lines_before held all) found (lines_before now l)) same g.2)
  where
    same_some : {a b : List ℕ} → Some a ≡ Some b → a ≡ b
    same_some e = cc

-- a line was taken from the front
line_taken : (held now : Held) (all more rest line : List ℕ) → all ≡ more ++ rest → IsTidy now rest → Advances held more (Ok (Line line)) now → TakesLine held all now rest
line_taken held now all more rest line is tidy h =
    let before : held.octets ++ all ≡ (held.octets ++ more) ++ rest = ap (λ x. held.octets ++ x) is ∙ sym (append_assoc held.octets more rest) in
    elim h.2 [
      | inl fed ↦ record {
        taken = line ++ 10 ∷ [];
        octets = before ∙ ap (λ x. x ++ rest) fed ∙ append_assoc line (10 ∷ now.octets) rest ∙ sym (append_assoc line (10 ∷ []) (now.octets ++ rest));
        ends = inl (line_feeds-line line h.1);
      }
      | inr last ↦ (
          let none : now.octets ++ rest ≡ [] = ap (λ x. x ++ rest) last.2 ∙ tidy last.3 in
          record {
            taken = line;
            octets = before ∙ ap (λ x. x ++ rest) last.0 ∙ ap (λ x. line ++ x) (tidy last.3 ∙ sym none);
            ends = inr (none, last.3);
          })
    ]

takes_line : (held now : Held) (all : List ℕ) (left : Option (List ℕ)) (line l : List ℕ) → Step held (Some all) (Ok (Line line)) now left → left ≡ Some l → IsTidy now l → TakesLine held all now l
takes_line held now all left line l step is tidy =
    let same : step.reads.0 ≡ l = let e = sym step.reads.2 ∙ is in cc in
    line_taken held now all step.more l line (step.reads.1 ∙ ap (λ x. step.more ++ x) same) tidy step.advances

-- a read failed
breaks_off : (held now : Held) (all : List ℕ) (left : Option (List ℕ)) (failed : Failed) (l : List ℕ) → Step held (Some all) (Err failed) now left → left ≡ Some l → BreaksOff held all now l
breaks_off held now all left failed l step is =
    let same : step.reads.0 ≡ l = let e = sym step.reads.2 ∙ is in cc in
    let h = step.advances in
    record {
      goes_on = λ e. h.0 (inl e);
      octets = ap (λ x. held.octets ++ x) (step.reads.1 ∙ ap (λ x. step.more ++ x) same) ∙ sym (append_assoc held.octets step.more l) ∙ ap (λ x. x ++ l) (sym h.2);
      no_line = no_feeds now.octets (λ w. h.1 (inr (inl w)));
    }

-- the first of the lines
first_line : (lines : List (List ℕ)) (octets : List ℕ) (later : List (List ℕ)) → Gives lines (Line octets) later → (lines ≡ octets ∷ later) × (length octets ≤ longest)
first_line [] octets later h = absurd h
first_line (line ∷ lines) octets later h = (same line octets lines later h.0 h.2, subst (λ (x : List ℕ). length x ≤ longest) (sym h.0) h.1)
  where
    same : (a b : List ℕ) (xs ys : List (List ℕ)) → b ≡ a → ys ≡ xs → a ∷ xs ≡ b ∷ ys
    same a b xs ys e f = cc

long_line : (lines later : List (List ℕ)) → Gives lines Long later → (line : List ℕ) × (rest : List (List ℕ)) × (lines ≡ line ∷ rest) × (longest < length line)
long_line [] later h = absurd h
long_line (line ∷ lines) later h = (line, lines, refl, h.0)

line_goes : (stays : StaysOrderly) (s : State) (line : List ℕ) (lines later : List (List ℕ)) (told : Told) (before after : List ℕ) (c : code.Conference) → IsOrderly s → lines ≡ line ∷ later
    → length line ≤ longest → Does (turn_at by_cipher s (script_of line)) (Ok told) before after c → TurnsNext s lines (Ok (Some told)) before after c later
line_goes stays s line lines later told before after c orderly e short does =
    let d = did (turn_at by_cipher s (script_of line)) told before after c does in (
      line,
      report_texts d.0,
      e,
      record {
        reported = d.0;
        next = d.1;
        goes = record { short = short; goes = d.2 };
        told_is = d.4;
        text_is = refl;
        orderly = stays by_cipher s line d.0 d.1 orderly d.2;
        mirrors = d.5;
      },
      d.3,
    )

not_none : {told : Told} {A : Type 0} → ◌≡◌ {A = Result (Option Told) Halt} (Ok (Some told)) (Ok None) → A
not_none e = absurd cc

not_err : {h : Halt} {A : Type 0} → ◌≡◌ {A = Result (Option Told) Halt} (Err h) (Ok None) → A
not_err e = absurd cc

answer_is : (r : Result LineRead Failed) (x : LineRead) (held now : Held) (all left : Option (List ℕ)) → Step held all (answered r) now left → r ≡ Ok x → Step held all (answered (Ok x)) now left
answer_is r x held now all left step e = subst (λ (a : Result LineRead Failed). Step held all (answered a) now left) e step

pub next_goes : (stays : StaysOrderly) (s : State) (all left : Option (List ℕ)) (held now : Held) (r : Result LineRead Failed) (line : Bor (List ℕ)) (told : Told) (before after : List ℕ)
    (c : code.Conference) → Step held all (answered r) now left → r ≡ Ok (read.Line line) → IsOrderly s → Does (turn_at by_cipher s (script_of line.now)) (Ok told) before after c
    → NextTurn s all left held now (Ok (Some told)) before after c
next_goes stays s None left held now r line told before after c step e orderly does = tt
next_goes stays s (Some all) left held now r line told before after c step e orderly does = λ tidy.
    let g = given held now all left (Line line.now) (answer_is r (read.Line line) held now (Some all) left step e) tidy in
    let first = first_line (lines_before held all) line.now (lines_before now g.0) g.3 in
    let taken = takes_line held now all left line.now g.0 (answer_is r (read.Line line) held now (Some all) left step e) g.1 g.2 in
    (g.0, g.1, g.2, not_none, taken, line_goes stays s line.now (lines_before held all) (lines_before now g.0) told before after c orderly first.0 first.1 does)

pub next_stops : (s : State) (all left : Option (List ℕ)) (held now : Held) (r : Result LineRead Failed) (line : Bor (List ℕ)) (e : Stop) (before after : List ℕ) (c : code.Conference)
    → Step held all (answered r) now left → r ≡ Ok (read.Line line) → Does (turn_at by_cipher s (script_of line.now)) (Err e) before after c
    → NextTurn s all left held now (Err (halt.Stop e)) before after c
next_stops s None left held now r line e before after c step is does = tt
next_stops s (Some all) left held now r line e before after c step is does = λ tidy.
    let g = given held now all left (Line line.now) (answer_is r (read.Line line) held now (Some all) left step is) tidy in
    let first = first_line (lines_before held all) line.now (lines_before now g.0) g.3 in
    let stopped = did_not (turn_at by_cipher s (script_of line.now)) e before after c does in
    (g.0, g.1, g.2, not_err, tt, (line.now, lines_before now g.0, first.0, line_stops s line.now e first.1 stopped))

pub next_long : (s : State) (all left : Option (List ℕ)) (held now : Held) (r : Result LineRead Failed) (before after : List ℕ) (c : code.Conference)
    → Step held all (answered r) now left → r ≡ Ok read.Long → NextTurn s all left held now (Err (halt.Stop (stop.Refused reason.Long))) before after c
next_long s None left held now r before after c step e = tt
next_long s (Some all) left held now r before after c step e = λ tidy.
    let g = given held now all left Long (answer_is r read.Long held now (Some all) left step e) tidy in
    let long = long_line (lines_before held all) (lines_before now g.0) g.3 in
    (g.0, g.1, g.2, not_err, tt, (long.0, long.1, long.2, inl (long.3, refl)))

pub next_failed : (s : State) (all left : Option (List ℕ)) (held now : Held) (r : Result LineRead Failed) (failed : Failed) (before after : List ℕ) (c : code.Conference)
    → Step held all (answered r) now left → r ≡ Err failed → NextTurn s all left held now (Err halt.ReadFault) before after c
next_failed s None left held now r failed before after c step e = tt
next_failed s (Some all) left held now r failed before after c step e = λ tidy.
    let failed_step = subst (λ (a : Result LineRead Failed). Step held (Some all) (answered a) now left) e step in
    let t = tidied held now all left (Err failed) failed_step tidy in
    (t.0, t.1, t.2, not_err, breaks_off held now all left failed t.0 failed_step t.1, tt)

-- the same of a failed read alone
pub failed_breaks : (all left : Option (List ℕ)) (held now : Held) (r : Result LineRead Failed) (failed : Failed) → Step held all (answered r) now left → r ≡ Err failed
    → IfSome all (λ all. (later : List ℕ) × (left ≡ Some later) × BreaksOff held all now later)
failed_breaks None left held now r failed step e = tt
failed_breaks (Some all) left held now r failed step e =
    let failed_step = subst (λ (a : Result LineRead Failed). Step held (Some all) (answered a) now left) e step in
    (failed_step.reads.0, failed_step.reads.2, breaks_off held now all left failed failed_step.reads.0 failed_step failed_step.reads.2)

-- ---- past the last line that a number is for

pub past_line : (all left : Option (List ℕ)) (held now : Held) (r : Result LineRead Failed) (line : Bor (List ℕ)) (counts : Counts) (e : ReplayEnd) → Step held all (answered r) now left
    → r ≡ Ok (read.Line line) → e ≡ end.Script last_line reason.Limit → IfSome all (λ all. IsTidy held all → PastAll (lines_before held all) counts e left)
past_line None left held now r line counts e step is limit = tt
past_line (Some all) left held now r line counts e step is limit = λ tidy.
    let g = given held now all left (Line line.now) (answer_is r (read.Line line) held now (Some all) left step is) tidy in
    let first = first_line (lines_before held all) line.now (lines_before now g.0) g.3 in
    subst (λ (x : ReplayEnd). PastAll (lines_before held all) counts x left) (sym limit) (refl, refl, line.now, lines_before now g.0, first.0)

pub past_long : (all left : Option (List ℕ)) (held now : Held) (r : Result LineRead Failed) (counts : Counts) (e : ReplayEnd) → Step held all (answered r) now left → r ≡ Ok read.Long
    → e ≡ end.Script last_line reason.Limit → IfSome all (λ all. IsTidy held all → PastAll (lines_before held all) counts e left)
past_long None left held now r counts e step is limit = tt
past_long (Some all) left held now r counts e step is limit = λ tidy.
    let g = given held now all left Long (answer_is r read.Long held now (Some all) left step is) tidy in
    let long = long_line (lines_before held all) (lines_before now g.0) g.3 in
    subst (λ (x : ReplayEnd). PastAll (lines_before held all) counts x left) (sym limit) (refl, refl, long.0, long.1, long.2)

-- ---- a line written

halt_steps : (s : State) (lines later : List (List ℕ)) (h : Halt) (t text before : List ℕ) (c : code.Conference) → TurnsNext s lines (Err h) t text c later
    → Steps s lines (Err h) before before c later
halt_steps s lines later (halt.Stop e) t text before c came = (came.0, came.1, came.2, came.3, refl)
halt_steps s lines later halt.ReadFault t text before c came = refl
halt_steps s lines later halt.WriteFault t text before c came = absurd came

pub step_halts : (s : State) (all left written : Option (List ℕ)) (held now : Held) (h : Halt) (t text : List ℕ) (c : code.Conference) → NextTurn s all left held now (Err h) t text c
    → NextStep s all left written written held now (Err h) c
step_halts s None left written held now h t text c came = tt
step_halts s (Some all) left None held now h t text c came = tt
step_halts s (Some all) left (Some before) held now h t text c came = λ tidy.
    let a = came tidy in
    (a.0, before, a.1, refl, a.2, not_err, a.4, halt_steps s (lines_before held all) (lines_before now a.0) h t text before c a.5)

pub step_goes : (s : State) (all left written wrote : Option (List ℕ)) (held now : Held) (told : Told) (t text : List ℕ) (c : code.Conference)
    → NextTurn s all left held now (Ok (Some told)) t text c → t ≡ [] → IfSome written (λ before. wrote ≡ Some (before ++ text)) → NextStep s all left written wrote held now (Ok (Some told)) c
step_goes s None left written wrote held now told t text c came empty wrote_all = tt
step_goes s (Some all) left None wrote held now told t text c came empty wrote_all = tt
step_goes s (Some all) left (Some before) wrote held now told t text c came empty wrote_all = λ tidy.
    let a = came tidy in
    let d = a.5 in
    let is : text ≡ d.1 = subst (λ (x : List ℕ). text ≡ x ++ d.1) empty d.4 in
    (a.0, before ++ text, a.1, wrote_all, a.2, not_none, a.4, (d.0, d.1, d.2, d.3, ap (λ x. before ++ x) is))

pub step_part : (s : State) (all left written wrote : Option (List ℕ)) (held now : Held) (told : Told) (t text : List ℕ) (c : code.Conference)
    → NextTurn s all left held now (Ok (Some told)) t text c → t ≡ []
    → IfSome written (λ before. (part : List ℕ) × (rest : List ℕ) × (text ≡ part ++ rest) × (wrote ≡ Some (before ++ part))) → NextStep s all left written wrote held now (Err halt.WriteFault) c
step_part s None left written wrote held now told t text c came empty wrote_part = tt
step_part s (Some all) left None wrote held now told t text c came empty wrote_part = tt
step_part s (Some all) left (Some before) wrote held now told t text c came empty wrote_part = λ tidy.
    let a = came tidy in
    let d = a.5 in
    let is : text ≡ d.1 = subst (λ (x : List ℕ). text ≡ x ++ d.1) empty d.4 in (
      a.0,
      before ++ wrote_part.0,
      a.1,
      wrote_part.3,
      a.2,
      not_err,
      tt,
      (d.0, lines_before now a.0, d.3.reported, d.3.next, wrote_part.0, wrote_part.1, d.2, d.3.goes, sym (is ∙ d.3.text_is) ∙ wrote_part.2, refl),
    )

-- the whole text was written
pub on_ok_written : (r : Result (Unit {0}) Failed) (written wrote : Option (List ℕ)) (piece text : List ℕ) → piece ≡ text → false ≡ is_err r
    → OnOk r (IfSome written (λ before. wrote ≡ Some (before ++ piece))) → IfSome written (λ before. wrote ≡ Some (before ++ text))
on_ok_written (Ok x) written wrote piece text same ok h = subst (λ (x : List ℕ). IfSome written (λ before. wrote ≡ Some (before ++ x))) same h
on_ok_written (Err e) written wrote piece text same ok h = absurd cc

-- a part of it
pub on_err_written : (r : Result (Unit {0}) Failed) (written wrote : Option (List ℕ)) (piece text : List ℕ) → piece ≡ text → true ≡ is_err r
    → OnErr r (IfSome written (λ before. (part : List ℕ) × (rest : List ℕ) × (piece ≡ part ++ rest) × (wrote ≡ Some (before ++ part))))
    → IfSome written (λ before. (part : List ℕ) × (rest : List ℕ) × (text ≡ part ++ rest) × (wrote ≡ Some (before ++ part)))
on_err_written (Ok x) written wrote piece text same err h = absurd cc
on_err_written (Err e) written wrote piece text same err h =
    subst (λ (x : List ℕ). IfSome written (λ before. (part : List ℕ) × (rest : List ℕ) × (x ≡ part ++ rest) × (wrote ≡ Some (before ++ part)))) same h
