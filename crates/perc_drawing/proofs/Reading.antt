-- The next line of a report is noted, or told as the first that is none.
use Rattle.std.proofs.Common.{◌≡◌, ℕ, ◌+◌, ◌<◌, ◌≤◌, ◌&&◌, Bool, true, false, List, [], ◌∷◌, length, Option, Some, None, Result, Ok, Err, IfSome, Bor, refl, sym, ap, subst, ◌∙◌}
use Rattle.std.specs.Prelude.{is_some}
use Rattle.std.proofs.lemmas.Bool.{cond-true, cond-false, le-leb, lt-leb}
use Rattle.perc_base.specs.Lines.{Held, Line, Long, End, Gives, Step, answered, lines_before, longest}
use Rattle.perc_base.specs.declared.lines.LineRead.{LineRead}
use Rattle.perc_base.specs.declared.lines.LineRead.TheVariants as read
use Rattle.perc_base.specs.declared.outside.Failed.{Failed}
use Rattle.perc_base.proofs.Steps.{Step_gives}
use Rattle.perc_report_line.specs.Report.{report_of}
use Rattle.perc_drawing.specs.Reading.{TellsLine, TellsNext, TellsTurn, TellsStop, first_other, is_report}
use Rattle.perc_drawing.specs.declared.report.Stop.{Stop}
use Rattle.perc_drawing.specs.declared.report.Stop.TheVariants as stop

-- a line of so many octets at most
report_is : (line : List ℕ) (b : Bool) → length line ≤ longest → is_some (report_of line) ≡ b → is_report line ≡ b
unfolding is_report
report_is line b short is = ap (λ (fits : Bool). fits && is_some (report_of line)) (le-leb (length line) longest short) ∙ is

-- a longer one
no_report : (line : List ℕ) → longest < length line → is_report line ≡ false
unfolding is_report
no_report line long = ap (λ (fits : Bool). fits && is_some (report_of line)) (lt-leb (length line) longest long)

noted : (number : ℕ) (line : List ℕ) (lines : List (List ℕ)) → is_report line ≡ true → first_other number (line ∷ lines) ≡ first_other (number + 1) lines
noted number line lines is = cond-true (is_report line) (first_other (number + 1) lines) (Some number) is

other : (number : ℕ) (line : List ℕ) (lines : List (List ℕ)) → is_report line ≡ false → first_other number (line ∷ lines) ≡ Some number
other number line lines is = cond-false (is_report line) (first_other (number + 1) lines) (Some number) is

next_line : (number : ℕ) (line : List ℕ) (r : Result Bool Stop) (before after : List (List ℕ)) → Gives before (Line line) after → TellsLine number line r
    → TellsNext number before r after
next_line number line r [] after gives tells = absurd gives
next_line number line (Ok true) (first ∷ lines) after gives tells =
    subst (λ (rest : List (List ℕ)). first_other number (first ∷ lines) ≡ first_other (number + 1) rest) (sym gives.2)
    (noted number first lines (report_is first true gives.1 (subst (λ (l : List ℕ). is_some (report_of l) ≡ true) gives.0 tells.1)))
next_line number line (Ok false) (first ∷ lines) after gives tells = let e = tells.0 in cc
next_line number line (Err (stop.NotReport n)) (first ∷ lines) after gives tells =
    other number first lines (report_is first false gives.1 (subst (λ (l : List ℕ). is_some (report_of l) ≡ false) gives.0 tells.1)) ∙ ap Some (sym tells.0)
next_line number line (Err stop.ReadFault) (first ∷ lines) after gives tells = absurd tells
next_line number line (Err stop.Memory) (first ∷ lines) after gives tells = absurd tells

next_long : (number : ℕ) (before after : List (List ℕ)) → Gives before Long after → TellsNext number before (Err (stop.NotReport number)) after
next_long number [] after gives = absurd gives
next_long number (first ∷ lines) after gives = other number first lines (no_report first gives.0)

next_end : (number : ℕ) (before after : List (List ℕ)) → Gives before End after → TellsNext number before (Ok false) after
next_end number [] after gives = refl
next_end number (first ∷ lines) after gives = absurd gives

-- ---- a call of the reader

pub past_line : (number : ℕ) (held now : Held) (left later : Option (List ℕ)) (answer : Result LineRead Failed) (line : Bor (List ℕ)) (r : Result Bool Stop)
    → Step held left (answered answer) now later → answer ≡ Ok (read.Line line) → TellsLine number line.now r → TellsTurn number left later held now r
past_line number held now None later answer line r step is tells = tt
past_line number held now (Some all) later answer line r step is tells =
    let g = Step_gives held now all later (Line line.now) (subst (λ (a : Result LineRead Failed). Step held (Some all) (answered a) now later) is step) in
    (g.0, g.1, next_line number line.now r (lines_before held all) (lines_before now g.0) g.2 tells)

pub past_long : (number : ℕ) (held now : Held) (left later : Option (List ℕ)) (answer : Result LineRead Failed) → Step held left (answered answer) now later
    → answer ≡ Ok read.Long → TellsTurn number left later held now (Err (stop.NotReport number))
past_long number held now None later answer step is = tt
past_long number held now (Some all) later answer step is =
    let g = Step_gives held now all later Long (subst (λ (a : Result LineRead Failed). Step held (Some all) (answered a) now later) is step) in
    (g.0, g.1, next_long number (lines_before held all) (lines_before now g.0) g.2)

pub past_end : (number : ℕ) (held now : Held) (left later : Option (List ℕ)) (answer : Result LineRead Failed) → Step held left (answered answer) now later
    → answer ≡ Ok read.End → TellsTurn number left later held now (Ok false)
past_end number held now None later answer step is = tt
past_end number held now (Some all) later answer step is =
    let g = Step_gives held now all later End (subst (λ (a : Result LineRead Failed). Step held (Some all) (answered a) now later) is step) in
    (g.0, g.1, next_end number (lines_before held all) (lines_before now g.0) g.2)

pub past_fault : (number : ℕ) (held now : Held) (left later : Option (List ℕ)) (answer : Result LineRead Failed) (failed : Failed) → Step held left (answered answer) now later
    → answer ≡ Err failed → TellsTurn number left later held now (Err stop.ReadFault)
past_fault number held now None later answer failed step is = tt
past_fault number held now (Some all) later answer failed step is =
    let s = subst (λ (a : Result LineRead Failed). Step held (Some all) (answered a) now later) is step in
    (s.reads.0, s.reads.2, tt)

-- ---- all calls

-- Lines were noted up to this number, and these are before the reader now.
abbrev pub Noted : ℕ → (all left : Option (List ℕ)) → (held now : Held) → Type 0
Noted number all left held now =
    IfSome all (λ octets. (rest : List ℕ) × (left ≡ Some rest)
    × (first_other 1 (lines_before held octets) ≡ first_other number (lines_before now rest)))

pub none_noted : (all : Option (List ℕ)) (held : Held) → Noted 1 all all held held
none_noted None held = tt
none_noted (Some octets) held = (octets, refl, refl)

same_rest : (a : List ℕ) (left : Option (List ℕ)) → left ≡ Some a → (P : List ℕ → Type 0) → IfSome left P → P a
same_rest a left is P h = subst (λ (l : Option (List ℕ)). IfSome l P) is h

pub more_noted : (number : ℕ) (all left later : Option (List ℕ)) (held between now : Held) (r : Result Bool Stop) → Noted number all left held between
    → TellsTurn number left later between now r → r ≡ Ok true → Noted (number + 1) all later held now
more_noted number None left later held between now r so_far turn is = tt
more_noted number (Some octets) left later held between now r so_far turn is =
    let t = same_rest so_far.0 left so_far.1
    (λ (all : List ℕ). (rest : List ℕ) × (later ≡ Some rest) × TellsNext number (lines_before between all) r (lines_before now rest)) turn in
    let next = subst (λ (r : Result Bool Stop). TellsNext number (lines_before between so_far.0) r (lines_before now t.0)) is t.2 in
    (t.0, t.1, so_far.2 ∙ next)

pub all_noted : (number : ℕ) (all left later : Option (List ℕ)) (held between now : Held) (r : Result Bool Stop) → Noted number all left held between
    → TellsTurn number left later between now r → r ≡ Ok false → IfSome all (λ octets. first_other 1 (lines_before held octets) ≡ None)
all_noted number None left later held between now r so_far turn is = tt
all_noted number (Some octets) left later held between now r so_far turn is =
    let t = same_rest so_far.0 left so_far.1
    (λ (all : List ℕ). (rest : List ℕ) × (later ≡ Some rest) × TellsNext number (lines_before between all) r (lines_before now rest)) turn in
    let next = subst (λ (r : Result Bool Stop). TellsNext number (lines_before between so_far.0) r (lines_before now t.0)) is t.2 in
    so_far.2 ∙ next

told_of : (number : ℕ) (lines before later : List (List ℕ)) (e : Stop) → first_other 1 lines ≡ first_other number before → TellsNext number before (Err e) later → TellsStop lines e
told_of number lines before later (stop.NotReport n) same tells = same ∙ tells
told_of number lines before later stop.ReadFault same tells = tt
told_of number lines before later stop.Memory same tells = tt

pub one_told : (number : ℕ) (all left later : Option (List ℕ)) (held between now : Held) (r : Result Bool Stop) (e : Stop) → Noted number all left held between
    → TellsTurn number left later between now r → r ≡ Err e → IfSome all (λ octets. TellsStop (lines_before held octets) e)
one_told number None left later held between now r e so_far turn is = tt
one_told number (Some octets) left later held between now r e so_far turn is =
    let t = same_rest so_far.0 left so_far.1
    (λ (all : List ℕ). (rest : List ℕ) × (later ≡ Some rest) × TellsNext number (lines_before between all) r (lines_before now rest)) turn in
    let next = subst (λ (r : Result Bool Stop). TellsNext number (lines_before between so_far.0) r (lines_before now t.0)) is t.2 in
    told_of number (lines_before held octets) (lines_before between so_far.0) (lines_before now t.0) e so_far.2 next
