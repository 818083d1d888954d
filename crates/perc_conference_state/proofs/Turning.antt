-- What a line's text and counts say, and what refuses a line.
use Rattle.std.proofs.Common.{◌≡◌, ℕ, List, [], ◌∷◌, ◌++◌, Option, Some, None, Result, Ok, Err, refl, sym, ap, ◌∙◌, subst}
use Rattle.std.specs.Result.{IsErrAnd}
use Rattle.std.proofs.lemmas.List.{append-nil}
use Rattle.std.proofs.lemmas.Result.{err_from_is_err_and}
use Rattle.perc_base.specs.declared.profile.Profile.{Profile}
use Rattle.perc_report_line.specs.Report.{Report, report_text, report_texts}
use Rattle.perc_script_line.specs.declared.reason.Reason.{Reason}
use Rattle.perc_run.specs.State.{State, Turn, Goes, Refused}
use Rattle.perc_conference_state.specs.declared.conference.Conference as code
use Rattle.perc_conference_state.specs.declared.conference.Stop.TheVariants as stop
use Rattle.perc_conference_state.specs.declared.conference.Stop.{Stop}
use Rattle.perc_conference_state.specs.declared.conference.Told.{Told}
use Rattle.perc_conference_state.specs.Mirror.{Does, Mirrors, told_of}
use Rattle.perc_conference_state.specs.Steps.{HasProfile}

pub one_text : (before after : List ℕ) (line : Report) → after ≡ before ++ report_text line → after ≡ before ++ report_texts (line ∷ [])
one_text before after line h = h ∙ ap (λ text. before ++ text) (sym (append-nil (report_text line)))

-- no line that is counted
abbrev pub untold : Told
untold = record { datagrams = 0; accepted = 0; refused = 0 }

-- a line reported one line, and left a state
pub does_goes : (turn : Turn) (line : Report) (next : State) (told : Told) (before after : List ℕ) (d : code.Conference) → turn ≡ Goes (line ∷ []) next
    → after ≡ before ++ report_text line → told ≡ told_of (line ∷ []) → Mirrors d next → Does turn (Ok told) before after d
does_goes turn line next told before after d is text told_is mirrors =
    subst (λ (t : Turn). Does t (Ok told) before after d) (sym is) (one_text before after line text, told_is, mirrors)

pub does_refused : (turn : Turn) (reason : Reason) (before after : List ℕ) (d : code.Conference) → turn ≡ Refused reason
    → Does turn (Err (stop.Refused reason)) before after d
does_refused turn reason before after d is = subst (λ (t : Turn). Does t (Err (stop.Refused reason)) before after d) (sym is) refl

-- at the exit of a `?`
pub does_stopped : (turn : Turn) (reason : Reason) (result : Result Told Stop) (e : Stop) (before after : List ℕ) (d : code.Conference) → turn ≡ Refused reason
    → IsErrAnd result (λ given. given ≡ e) → e ≡ stop.Refused reason → Does turn result before after d
does_stopped turn reason result e before after d is given e_is =
    let p = err_from_is_err_and result given in
    let result_is : result ≡ Err (stop.Refused reason) = p.1 ∙ ap Err (p.2 ∙ e_is) in
    subst (λ (r : Result Told Stop). Does turn r before after d) (sym result_is) (does_refused turn reason before after d is)

-- no memory was found
pub out_of_memory : (turn : Turn) (result : Result Told Stop) (before after : List ℕ) (d : code.Conference) → IsErrAnd result (λ given. given ≡ stop.Memory)
    → Does turn result before after d
out_of_memory turn result before after d given =
    let p = err_from_is_err_and result given in
    subst (λ (r : Result Told Stop). Does turn r before after d) (sym (p.1 ∙ ap Err p.2)) tt

-- ---- the profile

pub record TheProfile (o : Option Profile) (P : Profile → Type 0) : Type 0 where
  pub profile : Profile
  pub is : o ≡ Some profile
  pub holds : P profile

pub the_profile : (o : Option Profile) (P : Profile → Type 0) → HasProfile o P → TheProfile o P
the_profile None P h = absurd h
the_profile (Some profile) P h = record { profile = profile; is = refl; holds = h }
