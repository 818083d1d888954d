-- A run, line by line.
use Rattle.std.proofs.Common.{◌≡◌, ◌≢◌, ℕ, ◌+◌, ◌*◌, ◌<◌, Bool, true, false, cond, List, [], ◌∷◌, ◌++◌, length, Option, Some, None, Result, Ok, Err}
use Rattle.std.proofs.Common.{IfSome, ◌⊎◌, inl, inr, refl, sym, ap, subst, ◌∙◌, arith, count_by, take}
use Rattle.std.specs.List.{flat_map}
use Rattle.std.proofs.lemmas.Bool.{ne_eqb, le-ltb, lt-ltb}
use Rattle.std.proofs.Math.Seq.{take-append_seam}
use Rattle.std.proofs.lemmas.List.{append-nil, append_assoc, length-append, length_push}
use Rattle.std.proofs.lemmas.List.Sums.{sum_by-append}
use Rattle.perc_base.specs.Lines.{Held, lines_before, lines_of}
use Rattle.perc_conference_state.specs.Mirror.{Mirrors, is_accept, is_refuse, is_wire, told_of}
use Rattle.perc_conference_state.specs.declared.conference.Conference as code
use Rattle.perc_conference_state.specs.declared.conference.Stop.TheVariants as stop
use Rattle.perc_conference_state.specs.declared.conference.Told.{Told}
use Rattle.perc_replay.proofs.Beginnings.{texts_append}
use Rattle.perc_replay.proofs.LineFeeds.{feeds_append}
use Rattle.perc_replay.specs.Replay.{Ends, IsReportOfLines, IsReportOfRead, counts_of, line_feeds, report_of, run_of}
use Rattle.perc_replay.specs.Running.{BreaksOff, Grows, IsTidy, LineGoes, LineStops, NextStep, PastAll, Steps, Takes, TakesLine, counted, halted}
use Rattle.perc_replay.specs.declared.run.Counts.{Counts}
use Rattle.perc_replay.specs.declared.run.Halt.TheVariants as halt
use Rattle.perc_replay.specs.declared.run.Halt.{Halt}
use Rattle.perc_replay.specs.declared.run.ReplayEnd.TheVariants as end
use Rattle.perc_replay.specs.declared.run.ReplayEnd.{ReplayEnd}
use Rattle.perc_report_line.specs.Report.{Report, report_text, report_texts}
use Rattle.perc_run.specs.Delivering.{by_cipher}
use Rattle.perc_run.specs.Report.{Done, End, Foreign, Run, Stopped, after_turn, ended, line_or_nothing, reported, run_by, run_from}
use Rattle.perc_run.specs.Sound.{IsOrderly}
use Rattle.perc_run.specs.State.{State, nobody}
use Rattle.perc_script_line.specs.Script.{Script, script_of}
use Rattle.perc_script_line.specs.declared.reason.Reason.TheVariants.{Limit}
use Rattle.perc_script_line.specs.declared.reason.Reason.{Reason}

-- ---- turns, and what they report

abbrev pub Turns : Type 0
Turns = List (Script × List Report)

-- what these turns reported
abbrev pub told_by : Turns → List Report
told_by done = flat_map (λ (t : Script × List Report). t.1) done

-- a run after these turns
abbrev pub prepend : Turns → Run → Run
prepend done run = record { turns = done ++ run.turns; end = run.end }

-- how many lines these turns are, and how many lines of each kind they reported
abbrev pub counts_by : Turns → Counts
counts_by done = counts_of (record { turns = done; end = Done })

-- the run from a line on
abbrev goes_on : State → ℕ → List (List ℕ) → Run
goes_on s number lines = run_from by_cipher s number lines

told_apart : (xs ys : Turns) → told_by (xs ++ ys) ≡ told_by xs ++ told_by ys
told_apart [] ys = refl
told_apart (t ∷ xs) ys = ap (λ rest. t.1 ++ rest) (told_apart xs ys) ∙ sym (append_assoc t.1 (told_by xs) (told_by ys))

told_append : (done : Turns) (line : Script) (lines : List Report) → told_by (done ++ (line, lines) ∷ []) ≡ told_by done ++ lines
told_append done line lines = told_apart done ((line, lines) ∷ []) ∙ ap (λ x. told_by done ++ x) (append-nil lines)

count_append : (p : Report → Bool) (xs ys : List Report) → count_by p (xs ++ ys) ≡ count_by p xs + count_by p ys
count_append p xs ys = sum_by-append (λ x. cond (p x) 1 0) xs ys

counted_so : (p : Report → Bool) (done : Turns) (line : Script) (lines : List Report) → count_by p (told_by done) + count_by p lines ≡ count_by p (told_by (done ++ (line, lines) ∷ []))
counted_so p done line lines = sym (ap (count_by p) (told_append done line lines) ∙ count_append p (told_by done) lines)

same_counts : (a b c d i j k l : ℕ) → a ≡ i → b ≡ j → c ≡ k → d ≡ l
    → ◌≡◌ {A = Counts} (record { lines = a; datagrams = b; accepted = c; refused = d }) (record { lines = i; datagrams = j; accepted = k; refused = l })
same_counts a b c d i j k l e f g h = rw (e, f, g, h) refl

counted_more : (done : Turns) (line : Script) (lines : List Report) → counted (told_of lines) (counts_by done) ≡ counts_by (done ++ (line, lines) ∷ [])
counted_more done line lines =
    same_counts _ _ _ _ _ _ _ _ (sym (length_push done (line, lines))) (counted_so is_wire done line lines) (counted_so is_accept done line lines) (counted_so is_refuse done line lines)

-- ---- how far it has come

-- What is done of the script so far: these turns, behind which the run goes on at this line.
pub record Reaches (octets before : List ℕ) (number : ℕ) (held : Held) (left after : List ℕ) (c : code.Conference) (counts : Counts) : Type 0 where
  pub s : State
  pub done : Turns
  pub orderly : IsOrderly s
  pub mirrors : Mirrors c s
  pub tidy : IsTidy held left
  pub run : run_of octets ≡ prepend done (run_from by_cipher s number (lines_before held left))
  pub written : after ≡ before ++ report_texts (told_by done)
  pub counted_is : counts ≡ counts_by done
  -- the octets of these turns
  pub behind : List ℕ
  pub source : octets ≡ behind ++ (held.octets ++ left)
  pub feeds : (line_feeds behind ≡ length done) ⊎ ((held.octets ++ left ≡ []) × (held.ended ≡ true))

begins : (octets : List ℕ) → run_of octets ≡ goes_on nobody 1 (lines_of octets)
unfolding run_by
begins octets = refl

false_true : {A : Type 0} → false ≡ true → A
false_true h = absurd cc

-- before the first line
reaches_none : (octets before : List ℕ) (held : Held) (c : code.Conference) → held ≡ record { octets = []; ended = false } → IsOrderly nobody → Mirrors c nobody
    → Reaches octets before 1 held octets before c (record { lines = 0; datagrams = 0; accepted = 0; refused = 0 })
reaches_none octets before held c is orderly mirrors = record {
  s = nobody;
  done = [];
  orderly = orderly;
  mirrors = mirrors;
  tidy = λ e. false_true (sym (ap (λ (h : Held). h.ended) is) ∙ e);
  run = rw is (begins octets);
  written = sym (append-nil before);
  counted_is = refl;
  behind = [];
  source = rw is refl;
  feeds = inl refl;
}

-- a line that is done
run_line : (s next : State) (number : ℕ) (line : List ℕ) (later : List (List ℕ)) (lines : List Report) → number ≢ 4294967295 → LineGoes s line lines next
    → goes_on s number (line ∷ later) ≡ after_turn (line_or_nothing (script_of line)) lines (goes_on next (number + 1) later)
run_line s next number line later lines below goes = rw (ne_eqb number 4294967295 below, le-ltb 8192 (length line) goes.short, goes.goes) refl

-- the line feeds that were taken, after a line more
feeds_more : (n : ℕ) (behind held taken now : List ℕ) (was_over over : Type 0) → (held ≡ taken ++ now) → (line_feeds behind ≡ n) ⊎ ((held ≡ []) × was_over)
    → (line_feeds taken ≡ 1) ⊎ ((now ≡ []) × over) → (line_feeds (behind ++ taken) ≡ n + 1) ⊎ ((now ≡ []) × over)
feeds_more n behind held taken now was_over over is before (inr last) = inr last
feeds_more n behind held taken now was_over over is (inl fed) (inl one) = inl (feeds_append behind taken ∙ omega (arith, fed, one))
feeds_more n behind held taken now was_over over is (inr none) (inl one) =
    let counted : line_feeds held ≡ line_feeds taken + line_feeds now = ap line_feeds is ∙ feeds_append taken now in
    let empty : line_feeds held ≡ 0 = ap line_feeds none.0 in
    absurd (omega (arith, counted, empty, one))

reaches_more : (octets before : List ℕ) (number : ℕ) (held now : Held) (left later after after_now : List ℕ) (c d : code.Conference) (counts : Counts) (told : Told)
    → (r : Reaches octets before number held left after c counts) → number ≢ 4294967295 → Steps r.s (lines_before held left) (Ok (Some told)) after after_now d (lines_before now later)
    → IsTidy now later → TakesLine held left now later → Reaches octets before (number + 1) now later after_now d (counted told counts)
reaches_more octets before number held now left later after after_now c d counts told r below steps tidy takes =
    let line = steps.0 in
    let done = steps.3 in
    let script = line_or_nothing (script_of line) in
    let rest = goes_on done.next (number + 1) (lines_before now later) in record {
      s = done.next;
      done = r.done ++ (script, done.reported) ∷ [];
      orderly = done.orderly;
      mirrors = done.mirrors;
      tidy = tidy;
      run = r.run ∙ ap (λ ls. prepend r.done (goes_on r.s number ls)) steps.2 ∙ ap (prepend r.done) (run_line r.s done.next number line (lines_before now later) done.reported below done.goes)
          ∙ ap (λ (turns : Turns). record { turns = turns; end = rest.end }) (sym (append_assoc r.done ((script, done.reported) ∷ []) rest.turns));
      written = steps.4 ∙ ap (λ x. after ++ x) done.text_is ∙ ap (λ x. x ++ report_texts done.reported) r.written
          ∙ append_assoc before (report_texts (told_by r.done)) (report_texts done.reported)
          ∙ ap (λ x. before ++ x) (sym (ap report_texts (told_append r.done script done.reported) ∙ texts_append (told_by r.done) done.reported));
      counted_is = ap (counted told) r.counted_is ∙ ap (λ k. counted k (counts_by r.done)) done.told_is ∙ counted_more r.done script done.reported;
      behind = r.behind ++ takes.taken;
      source = r.source ∙ ap (λ x. r.behind ++ x) takes.octets ∙ sym (append_assoc r.behind takes.taken (now.octets ++ later));
      feeds = subst (λ (n : ℕ). (line_feeds (r.behind ++ takes.taken) ≡ n) ⊎ ((now.octets ++ later ≡ []) × (now.ended ≡ true))) (sym (length_push r.done (script, done.reported)))
          (feeds_more (length r.done) r.behind (held.octets ++ left) takes.taken (now.octets ++ later) (held.ended ≡ true) (now.ended ≡ true) takes.octets r.feeds takes.ends);
    }

-- ---- the report

-- the report where the run goes on so
report_so_far : (octets : List ℕ) (done : Turns) (run : Run) → run_of octets ≡ prepend done run → report_of octets ≡ report_texts (told_by done) ++ report_texts (reported run)
report_so_far octets done run e =
    ap (λ (r : Run). report_texts (reported r)) e ∙ ap report_texts (told_apart done run.turns) ∙ texts_append (told_by done) (told_by run.turns)

-- the report where no line follows
report_whole : (octets : List ℕ) (done : Turns) (run : Run) → run_of octets ≡ prepend done run → run.turns ≡ [] → report_of octets ≡ report_texts (told_by done)
report_whole octets done run e none =
    report_so_far octets done run e ∙ ap (λ (turns : Turns). report_texts (told_by done) ++ report_texts (told_by turns)) none ∙ append-nil (report_texts (told_by done))

-- the report of the turns so far is that of the first lines
so_many_lines : (octets before after : List ℕ) (done : Turns) (run : Run) → run_of octets ≡ prepend done run → after ≡ before ++ report_texts (told_by done)
    → IsReportOfLines (length done) octets before after
so_many_lines octets before after done run e out = record {
  done = rw (e, length-append done run.turns) (omega arith);
  out = out ∙ ap (λ (turns : Turns). before ++ report_texts (told_by turns)) (sym (ap (λ (x : Run). take (length done) x.turns) e ∙ take-append_seam done run.turns));
}

-- where a read failed
broken_off : (octets before after : List ℕ) (number : ℕ) (held now : Held) (left later wrote : List ℕ) (c : code.Conference) (counts : Counts)
    → (r : Reaches octets before number held left after c counts) → wrote ≡ after → BreaksOff held left now later → IsReportOfRead octets (Some later) before wrote
broken_off octets before after number held now left later wrote c counts r same breaks =
    let read = r.behind ++ now.octets in
    let fed : line_feeds r.behind ≡ length r.done = elim r.feeds [ inl h ↦ h | inr h ↦ absurd (breaks.goes_on h.1) ] in
    let many : length r.done ≡ line_feeds read = sym (feeds_append r.behind now.octets ∙ omega (arith, fed, breaks.no_line)) in
    record {
      read = read;
      rest = later;
      source = r.source ∙ ap (λ x. r.behind ++ x) breaks.octets ∙ sym (append_assoc r.behind now.octets later);
      kept = refl;
      lines = subst (λ (n : ℕ). IsReportOfLines n octets before wrote) many
          (so_many_lines octets before wrote r.done (goes_on r.s number (lines_before held left)) r.run (same ∙ r.written));
    }

-- ---- how it ends

-- all lines were done
ends_done : (octets before after : List ℕ) (number : ℕ) (held : Held) (left l wrote : List ℕ) (c : code.Conference) (counts : Counts) → (r : Reaches octets before number held left after c counts)
    → lines_before held left ≡ [] → wrote ≡ after → l ≡ [] → Ends octets before (end.Done counts) (Some l) wrote
ends_done octets before after number held left l wrote c counts r none same empty =
    let e : run_of octets ≡ prepend r.done (ended Done) = r.run ∙ ap (λ ls. prepend r.done (goes_on r.s number ls)) none in (
      ap (λ (x : Run). x.end) e,
      r.counted_is ∙ sym (ap counts_of e ∙ ap counts_by (append-nil r.done)),
      ap (λ (x : List ℕ). Some x) empty,
      same ∙ r.written ∙ ap (λ x. before ++ x) (sym (report_whole octets r.done (ended Done) e refl)),
    )

-- at a line that isn't done
record StopsAt (octets before : List ℕ) (e : End) (wrote : List ℕ) : Type 0 where
  end_is : (run_of octets).end ≡ e
  out : wrote ≡ before ++ report_of octets

stops_at : (octets before after : List ℕ) (number : ℕ) (held : Held) (left wrote : List ℕ) (c : code.Conference) (counts : Counts) (e : End)
    → (r : Reaches octets before number held left after c counts) → goes_on r.s number (lines_before held left) ≡ ended e → wrote ≡ after → StopsAt octets before e wrote
stops_at octets before after number held left wrote c counts e r halts same =
    let is : run_of octets ≡ prepend r.done (ended e) = r.run ∙ ap (prepend r.done) halts in record {
      end_is = ap (λ (x : Run). x.end) is;
      out = same ∙ r.written ∙ ap (λ x. before ++ x) (sym (report_whole octets r.done (ended e) is refl));
    }

refused_line : (s : State) (number : ℕ) (line : List ℕ) (rest : List (List ℕ)) (why : Reason) → number ≢ 4294967295 → LineStops s line (stop.Refused why)
    → goes_on s number (line ∷ rest) ≡ ended (Stopped number why)
refused_line s number line rest why below (inl long) = rw (ne_eqb number 4294967295 below, lt-ltb 8192 (length line) long.0, long.1) refl
refused_line s number line rest why below (inr refused) = rw (ne_eqb number 4294967295 below, le-ltb 8192 (length line) refused.0, refused.1) refl

foreign_line : (s : State) (number : ℕ) (line : List ℕ) (rest : List (List ℕ)) (name : List ℕ) → number ≢ 4294967295 → LineStops s line (stop.Foreign name)
    → goes_on s number (line ∷ rest) ≡ ended (Foreign number name)
foreign_line s number line rest name below halts = rw (ne_eqb number 4294967295 below, le-ltb 8192 (length line) halts.0, halts.1) refl

-- at a line that isn't done, or isn't written
ends_halted : (octets before after : List ℕ) (number : ℕ) (held now : Held) (left later wrote : List ℕ) (c d : code.Conference) (counts : Counts) (h : Halt)
    → (r : Reaches octets before number held left after c counts) → number ≢ 4294967295 → Takes held left (Err h) now later
    → Steps r.s (lines_before held left) (Err h) after wrote d (lines_before now later) → Ends octets before (halted number h) (Some later) wrote
ends_halted octets before after number held now left later wrote c d counts (halt.Stop (stop.Refused why)) r below takes steps =
    let at = stops_at octets before after number held left wrote c counts (Stopped number why) r
    (ap (goes_on r.s number) steps.2 ∙ refused_line r.s number steps.0 steps.1 why below steps.3) steps.4 in (at.end_is, at.out)
ends_halted octets before after number held now left later wrote c d counts (halt.Stop (stop.Foreign name)) r below takes steps =
    let at = stops_at octets before after number held left wrote c counts (Foreign number name) r
    (ap (goes_on r.s number) steps.2 ∙ foreign_line r.s number steps.0 steps.1 name below steps.3) steps.4 in (at.end_is, at.out)
ends_halted octets before after number held now left later wrote c d counts (halt.Stop stop.Memory) r below takes steps =
    (length r.done, so_many_lines octets before wrote r.done (goes_on r.s number (lines_before held left)) r.run (steps.4 ∙ r.written))
ends_halted octets before after number held now left later wrote c d counts halt.ReadFault r below takes steps =
    broken_off octets before after number held now left later wrote c counts r steps takes
ends_halted octets before after number held now left later wrote c d counts halt.WriteFault r below takes steps =
    let line = steps.0 in
    let rest = goes_on steps.3 (number + 1) steps.1 in
    let told = report_texts (told_by r.done) in
    let all : run_of octets ≡ prepend r.done (after_turn (line_or_nothing (script_of line)) steps.2 rest) =
    r.run ∙ ap (λ ls. prepend r.done (goes_on r.s number ls)) steps.6 ∙ ap (prepend r.done) (run_line r.s steps.3 number line steps.1 steps.2 below steps.7) in record {
      written = told ++ steps.4;
      rest = steps.5 ++ report_texts (reported rest);
      report = report_so_far octets r.done (after_turn (line_or_nothing (script_of line)) steps.2 rest) all
          ∙ ap (λ x. told ++ x) (texts_append steps.2 (reported rest) ∙ ap (λ x. x ++ report_texts (reported rest)) steps.8 ∙ append_assoc steps.4 steps.5 (report_texts (reported rest)))
          ∙ sym (append_assoc told steps.4 (steps.5 ++ report_texts (reported rest)));
      out = steps.9 ∙ ap (λ x. x ++ steps.4) r.written ∙ append_assoc before told steps.4;
    }

-- at the line that no number is left for
ends_past : (octets before after : List ℕ) (number : ℕ) (held now : Held) (left : List ℕ) (c : code.Conference) (counts : Counts) (e : ReplayEnd) (o : Option (List ℕ))
    → (r : Reaches octets before number held left after c counts) → number ≡ 4294967295 → PastAll (lines_before held left) counts e o
    → (e ≡ end.ReadFault → (later : List ℕ) × (o ≡ Some later) × BreaksOff held left now later) → Ends octets before e o after
ends_past octets before after number held now left c counts (end.Done given) o r last past broken =
    let ends = ends_done octets before after number held left [] after c counts r past.0 refl refl in (ends.0, past.1 ∙ ends.1, past.2, ends.3)
ends_past octets before after number held now left c counts (end.Script line why) o r last past broken =
    let stops : goes_on r.s number (lines_before held left) ≡ ended (Stopped number Limit) = ap (goes_on r.s number) past.4 ∙ rw last refl in
    let at = stops_at octets before after number held left after c counts (Stopped number Limit) r stops refl in (at.end_is ∙ rw (past.0, past.1, last) refl, at.out)
ends_past octets before after number held now left c counts (end.Foreign line name) o r last past broken = absurd past
ends_past octets before after number held now left c counts end.ReadFault o r last past broken =
    let b = broken refl in
    subst (λ (x : Option (List ℕ)). IsReportOfRead octets x before after) (sym b.1) (broken_off octets before after number held now left b.0 after c counts r refl b.2)
ends_past octets before after number held now left c counts end.WriteFault o r last past broken = absurd past
ends_past octets before after number held now left c counts end.Memory o r last past broken = absurd past

-- ---- where a source and a sink tell what they hold

abbrev pub ReachesOn : (all written left wrote : Option (List ℕ)) → ℕ → Held → code.Conference → Counts → Type 0
ReachesOn all written left wrote number held c counts =
    IfSome all (λ octets. IfSome written (λ before. (l : List ℕ) × (after : List ℕ) × (left ≡ Some l) × (wrote ≡ Some after) × Reaches octets before number held l after c counts))

-- what the script ends with
abbrev pub EndsOn : (all written left wrote : Option (List ℕ)) → ReplayEnd → Type 0
EndsOn all written left wrote e = IfSome all (λ octets. IfSome written (λ before. (after : List ℕ) × (wrote ≡ Some after) × Ends octets before e left after))

pub on_none : (all written : Option (List ℕ)) (held : Held) (c : code.Conference) → held ≡ record { octets = []; ended = false } → IsOrderly nobody → Mirrors c nobody
    → ReachesOn all written all written 1 held c (record { lines = 0; datagrams = 0; accepted = 0; refused = 0 })
on_none None written held c is orderly mirrors = tt
on_none (Some octets) None held c is orderly mirrors = tt
on_none (Some octets) (Some before) held c is orderly mirrors = (octets, before, refl, refl, reaches_none octets before held c is orderly mirrors)

-- what a step came to, where it is told what was left and written
told_step : (s : State) (left later written wrote : Option (List ℕ)) (held now : Held) (r x : Result (Option Told) Halt) (c : code.Conference) (l before : List ℕ)
    → NextStep s left later written wrote held now r c → left ≡ Some l → written ≡ Some before → r ≡ x → IsTidy held l
    → (m : List ℕ) × (after : List ℕ) × (later ≡ Some m) × (wrote ≡ Some after) × IsTidy now m × (x ≡ Ok None → m ≡ []) × Takes held l x now m
    × Steps s (lines_before held l) x before after c (lines_before now m)
told_step s left later written wrote held now r x c l before is e f same tidy =
    let one = subst (λ (o : Option (List ℕ)). NextStep s o later written wrote held now r c) e is in
    let two = subst (λ (o : Option (List ℕ)). NextStep s (Some l) later o wrote held now r c) f one in
    let three = subst (λ (y : Result (Option Told) Halt). NextStep s (Some l) later (Some before) wrote held now y c) same two in
    three tidy

-- what a step does, in whatever orderly state
abbrev pub StepsOn : (left later wrote wrote_now : Option (List ℕ)) (held now : Held) (r : Result (Option Told) Halt) (c d : code.Conference) → Type 0
StepsOn left later wrote wrote_now held now r c d = (s : State) → IsOrderly s → Mirrors c s → NextStep s left later wrote wrote_now held now r d

pub on_more : (all written left wrote later wrote_now : Option (List ℕ)) (number : ℕ) (held now : Held) (c d : code.Conference) (counts : Counts) (told : Told) (r : Result (Option Told) Halt)
    → number ≢ 4294967295 → ReachesOn all written left wrote number held c counts → StepsOn left later wrote wrote_now held now r c d → r ≡ Ok (Some told)
    → ReachesOn all written later wrote_now (number + 1) now d (counted told counts)
on_more None written left wrote later wrote_now number held now c d counts told r below on step is = tt
on_more (Some octets) None left wrote later wrote_now number held now c d counts told r below on step is = tt
on_more (Some octets) (Some before) left wrote later wrote_now number held now c d counts told r below on step is =
    let reaches = on.4 in
    let t = told_step reaches.s left later wrote wrote_now held now r (Ok (Some told)) d on.0 on.1 (step reaches.s reaches.orderly reaches.mirrors) on.2 on.3 is reaches.tidy in
    (t.0, t.1, t.2, t.3, reaches_more octets before number held now on.0 t.0 on.1 t.1 c d counts told reaches below t.7 t.4 t.6)

pub on_halted : (all written left wrote later wrote_now : Option (List ℕ)) (number : ℕ) (held now : Held) (c d : code.Conference) (counts : Counts) (h : Halt) (r : Result (Option Told) Halt)
    (e : ReplayEnd) → number ≢ 4294967295 → ReachesOn all written left wrote number held c counts → StepsOn left later wrote wrote_now held now r c d → r ≡ Err h → e ≡ halted number h
    → EndsOn all written later wrote_now e
on_halted None written left wrote later wrote_now number held now c d counts h r e below on step is ends = tt
on_halted (Some octets) None left wrote later wrote_now number held now c d counts h r e below on step is ends = tt
on_halted (Some octets) (Some before) left wrote later wrote_now number held now c d counts h r e below on step is ends =
    let reaches = on.4 in
    let t = told_step reaches.s left later wrote wrote_now held now r (Err h) d on.0 on.1 (step reaches.s reaches.orderly reaches.mirrors) on.2 on.3 is reaches.tidy in
    let halts = ends_halted octets before on.1 number held now on.0 t.0 t.1 c d counts h reaches below t.6 t.7 in
    let at_end = subst (λ (o : Option (List ℕ)). Ends octets before (halted number h) o t.1) (sym t.2) halts in
    (t.1, t.3, subst (λ (x : ReplayEnd). Ends octets before x later t.1) (sym ends) at_end)

pub on_over : (all written left wrote later wrote_now : Option (List ℕ)) (number : ℕ) (held now : Held) (c d : code.Conference) (counts : Counts) (r : Result (Option Told) Halt)
    → ReachesOn all written left wrote number held c counts → StepsOn left later wrote wrote_now held now r c d → r ≡ Ok None → EndsOn all written later wrote_now (end.Done counts)
on_over None written left wrote later wrote_now number held now c d counts r on step is = tt
on_over (Some octets) None left wrote later wrote_now number held now c d counts r on step is = tt
on_over (Some octets) (Some before) left wrote later wrote_now number held now c d counts r on step is =
    let reaches = on.4 in
    let t = told_step reaches.s left later wrote wrote_now held now r (Ok None) d on.0 on.1 (step reaches.s reaches.orderly reaches.mirrors) on.2 on.3 is reaches.tidy in
    let over = ends_done octets before on.1 number held on.0 t.0 t.1 c counts reaches t.7.0 t.7.1 (t.5 refl) in
    (t.1, t.3, subst (λ (o : Option (List ℕ)). Ends octets before (end.Done counts) o t.1) (sym t.2) over)

pub on_past : (all written left wrote later : Option (List ℕ)) (number : ℕ) (held now : Held) (c : code.Conference) (counts : Counts) (e : ReplayEnd) → number ≡ 4294967295
    → ReachesOn all written left wrote number held c counts → IfSome left (λ l. IsTidy held l → PastAll (lines_before held l) counts e later)
    → (e ≡ end.ReadFault → IfSome left (λ l. (m : List ℕ) × (later ≡ Some m) × BreaksOff held l now m)) → EndsOn all written later wrote e
on_past None written left wrote later number held now c counts e last on past broken = tt
on_past (Some octets) None left wrote later number held now c counts e last on past broken = tt
on_past (Some octets) (Some before) left wrote later number held now c counts e last on past broken =
    let reaches = on.4 in
    let told = subst (λ (o : Option (List ℕ)). IfSome o (λ l. IsTidy held l → PastAll (lines_before held l) counts e later)) on.2 past in
    let broke = λ (is : e ≡ end.ReadFault). subst (λ (o : Option (List ℕ)). IfSome o (λ l. (m : List ℕ) × (later ≡ Some m) × BreaksOff held l now m)) on.2 (broken is) in
    (on.1, on.3, ends_past octets before on.1 number held now on.0 c counts e later reaches last (told reaches.tidy) broke)

-- ---- how far the counts are

-- The counts have bounds: a datagram is counted that the conference has; a line of the script reports one accept line at most, and 32
-- that refuse.
pub record AreBounded (counts : Counts) (c : code.Conference) (number : ℕ) : Type 0 where
  pub lines : counts.lines < number
  pub datagrams : counts.datagrams ≡ length c.datagrams.items
  pub accepted : counts.accepted < number
  pub refused : counts.refused < 32 * number

pub none_counted : (c : code.Conference) → Mirrors c nobody → AreBounded (record { lines = 0; datagrams = 0; accepted = 0; refused = 0 }) c 1
none_counted c mirrors = record { lines = omega arith; datagrams = sym mirrors.datagrams.count; accepted = omega arith; refused = omega arith }

pub bounded_more : (told : Told) (n m : Counts) (c d : code.Conference) (number : ℕ) → m ≡ counted told n → Grows c told d → AreBounded n c number → AreBounded m d (number + 1)
bounded_more told n m c d number is grows bounded = subst (λ (x : Counts). AreBounded x d (number + 1)) (sym is) (record {
  lines = omega (arith, bounded.lines);
  datagrams = omega (arith, bounded.datagrams, grows.datagrams);
  accepted = omega (arith, bounded.accepted, grows.accepted);
  refused = omega (arith, bounded.refused, grows.refused);
})
