-- What a line says is what it does.
use Rattle.std.proofs.Common.{◌≡◌, ℕ, Bool, true, false, cond, not, List, [], Option, Some, Result, Ok, Err, refl, sym, ◌∙◌, subst}
use Rattle.std.proofs.lemmas.List.{append-nil}
use Rattle.perc_base.specs.declared.profile.Profile.{Profile}
use Rattle.perc_conference_state.specs.Mirror.{Does, Mirrors}
use Rattle.perc_conference_state.specs.declared.conference.Conference as code
use Rattle.perc_conference_state.specs.declared.conference.Stop.TheVariants as stop
use Rattle.perc_conference_state.specs.declared.conference.Stop.{Stop}
use Rattle.perc_conference_state.specs.declared.conference.Told.{Told}
use Rattle.perc_kdf.specs.Derivation.{KeyAndSalt}
use Rattle.perc_run.specs.Delivering.{by_cipher}
use Rattle.perc_run.specs.Joining.{join_turn, join_with, newest, pair_of}
use Rattle.perc_run.specs.Report.{turn_at}
use Rattle.perc_run.specs.State.{Goes, Refused, State, Turn}
use Rattle.perc_run.specs.Turn.{first_turn, form_turn, turn_under, turn}
use Rattle.perc_script_line.specs.Script as script
use Rattle.perc_script_line.specs.Script.{Script, script_of}
use Rattle.perc_script_line.specs.declared.reason.Reason.TheVariants.{Form}

-- ---- a line that is read

-- It does what it says under the head that there is.
pub says : (c d : code.Conference) (s : State) (octets : List ℕ) (line : Script) (head : Option Profile) (r : Result Told Stop) (before after : List ℕ)
    → Some line ≡ script_of octets → c.profile ≡ head → Mirrors c s → Does (turn_under by_cipher s line head) r before after d → Does (turn_at by_cipher s (script_of octets)) r before after d
unfolding turn
says c d s octets line head r before after said is mirrors does =
    subst (λ (o : Option Script). Does (turn_at by_cipher s o) r before after d) said
    (subst (λ (h : Option Profile). Does (turn_under by_cipher s line h) r before after d) (sym is ∙ mirrors.profile) does)

pub is_unfit : (t : Turn) (fit : Bool) (before after : List ℕ) (c : code.Conference) → fit ≡ false → Does (cond (not fit) (Refused Form) t) (Err (stop.Refused Form)) before after c
is_unfit t true before after c is = absurd cc
is_unfit t false before after c is = refl

pub is_fit : (t : Turn) (fit : Bool) (r : Result Told Stop) (before after : List ℕ) (c : code.Conference) → fit ≡ true → Does t r before after c
    → Does (cond (not fit) (Refused Form) t) r before after c
is_fit t true r before after c is does = does
is_fit t false r before after c is does = absurd cc

-- ---- forms

-- nothing is told
abbrev none_told : Told
none_told = record { datagrams = 0; accepted = 0; refused = 0 }

pub nothing_first : (s : State) (line : Script) (text : List ℕ) (c : code.Conference) → line ≡ script.Nothing → Mirrors c s → Does (first_turn s line) (Ok none_told) text text c
nothing_first s line text c is mirrors = subst (λ (l : Script). Does (first_turn s l) (Ok none_told) text text c) (sym is) (sym (append-nil text), refl, mirrors)

pub head_first : (s : State) (profile : Profile) (line : Script) (r : Result Told Stop) (text : List ℕ) (c : code.Conference) → line ≡ script.Conference profile
    → Does (Goes [] (record s { profile = Some profile })) r text text c → Does (first_turn s line) r text text c
head_first s profile line r text c is does = subst (λ (l : Script). Does (first_turn s l) r text text c) (sym is) does

pub nothing_does : (s : State) (profile : Profile) (line : Script) (text : List ℕ) (c : code.Conference) → line ≡ script.Nothing → Mirrors c s
    → Does (form_turn by_cipher s profile line) (Ok none_told) text text c
nothing_does s profile line text c is mirrors = subst (λ (l : Script). Does (form_turn by_cipher s profile l) (Ok none_told) text text c) (sym is) (sym (append-nil text), refl, mirrors)

-- what a join's words say as pairs and key
pub join_does : (s : State) (profile : Profile) (line : Script) (name : List ℕ) (ssrc seq : ℕ) (client server key : List ℕ) (a b : KeyAndSalt) (k : List ℕ) (r : Result Told Stop)
    (before after : List ℕ) (c : code.Conference) → line ≡ script.Join name ssrc seq client server key → a ≡ pair_of client → b ≡ pair_of server → k ≡ key
    → Does (join_with s profile name ssrc seq a b k (newest s.secrets)) r before after c → Does (form_turn by_cipher s profile line) r before after c
unfolding join_turn
join_does s profile line name ssrc seq client server key a b k r before after c is of_client of_server of_key does =
    subst (λ (l : Script). Does (form_turn by_cipher s profile l) r before after c) (sym is)
    (subst (λ (x : KeyAndSalt). Does (join_with s profile name ssrc seq x (pair_of server) key (newest s.secrets)) r before after c) of_client
    (subst (λ (x : KeyAndSalt). Does (join_with s profile name ssrc seq a x key (newest s.secrets)) r before after c) of_server
    (subst (λ (x : List ℕ). Does (join_with s profile name ssrc seq a b x (newest s.secrets)) r before after c) of_key does)))
