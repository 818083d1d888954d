-- The law of a whole run, by one line after another.
use Rattle.std.proofs.Common.{◌≡◌, ℕ, suc, ◌+◌, Bool, true, false, cond, not, ◌&&◌, List, [], ◌∷◌, ◌++◌, length, Option, Some, None, refl, sym, ap, ◌∙◌, subst, arith}
use Rattle.std.specs.Prelude.{nat_lt, ◌==◌, ◌<◌, AllPairs}
use Rattle.std.proofs.lemmas.Bool.{and_parts, eqb-false, eqb-true, ltb-false, ltb-true}
use Rattle.std.proofs.lemmas.List.{append-nil, append_assoc}
use Rattle.perc_base.specs.Lines.{lines_of, longest}
use Rattle.perc_base.specs.declared.profile.Profile.{Profile}
use Rattle.perc_outgoing.specs.History.{AreOtherSeals, Seal}
use Rattle.perc_script_line.specs.Script as script
use Rattle.perc_script_line.specs.Script.{Deliver, IsScript, Script, fits, key_fits, pair_fits, script_of}
use Rattle.perc_script_line.specs.declared.reason.Reason.{Reason}
use Rattle.perc_script_line.specs.declared.reason.Reason.TheVariants.{Form, Limit, Long}
use Rattle.perc_report_line.specs.Report.{Report}
use Rattle.perc_run.specs.State.{State, Turn, Goes, Refused, Halts, last_line, nobody}
use Rattle.perc_run.specs.Delivering as delivering
use Rattle.perc_run.specs.Delivering.{Judge, by_cipher, by_table}
use Rattle.perc_run.specs.Turn.{first_turn, form_turn, turn, turn_under}
use Rattle.perc_run.specs.Report.{Done, End, Foreign, Run, Stopped, after_turn, ended, line_or_nothing, run_behind, run_by, run_from, turn_at}
use Rattle.perc_headline.specs.Headline.{AcceptsGenuine, DeliversForeign, EndsAtForeign, Headline, IsLineAt, Turns, state_after, state_of}
use Rattle.perc_headline.specs.Nonces.{line_seals, run_seals}
use Rattle.perc_run.specs.Sound.{core_of}
use Rattle.perc_headline.proofs.Turns.{GenuineIn, InTurn, after_more, after_these, genuine_more, in_turn_more}
use Rattle.perc_headline.proofs.Facts.{Facts, facts_profile, quiet_line}
use Rattle.perc_headline.proofs.Sound.{sound_nobody}
use Rattle.perc_headline.proofs.Lines.{IsDelivery, StaysSo, ekt_stays, grant_stays, join_stays, leave_stays, rekey_stays, stays}
use Rattle.perc_headline.proofs.Wires.{deliver_stays, forward_stays, send_stays}
use Rattle.perc_headline.proofs.Hostile.{added_stays, alter_holds, control_stays, graft_holds, inject_holds, reseal_holds, rtcp_holds}
use Rattle.perc_headline.proofs.Judges.{at_same, turn_same}
use Rattle.perc_headline.proofs.Genuine.{answered, genuine_accepts}
use Rattle.perc_headline.proofs.Clear.{wire_of}
use Rattle.perc_headline.proofs.Nonces.{ClearBehind, NeverTwice, never_nobody, turn_clear}
use Rattle.perc_headline.proofs.Ends.{EndsSo, IsLineFrom, foreign_halts, halted}

-- ---- one line

pub join_key : (profile : Profile) (client server key : List ℕ) → (pair_fits profile client && pair_fits profile server && key_fits profile key) ≡ true → key_fits profile key ≡ true
join_key profile client server key fit = (and_parts (pair_fits profile client && pair_fits profile server) (key_fits profile key) fit).1

form_stays : (turns : Turns) (s : State) (profile : Profile) (line : Script) → s.profile ≡ Some profile → fits profile line ≡ true → IsScript line → Facts turns (core_of s)
    → StaysSo turns line (form_turn by_cipher s profile line)
form_stays turns s profile script.Nothing head fit said f = stays turns s script.Nothing [] refl f
form_stays turns s profile (script.Conference other) head fit said f = tt
form_stays turns s profile (script.Ekt key salt) head fit said f = ekt_stays turns s profile key salt head said fit f
form_stays turns s profile (script.Join name ssrc seq client server key) head fit said f =
    join_stays turns s profile (record { name = name; ssrc = ssrc; seq = seq; client = client; server = server; key = key }) head said (join_key profile client server key fit) f
form_stays turns s profile (script.Leave name) head fit said f = leave_stays turns s name f
form_stays turns s profile (script.Grant name spi key) head fit said f = grant_stays turns s name key spi profile head said fit f
form_stays turns s profile (script.Rekey name key) head fit said f = rekey_stays turns s name key profile head said fit f
form_stays turns s profile (script.Send name pt marker timestamp payload options) head fit said f =
    send_stays turns s (record { name = name; pt = pt; marker = marker; timestamp = timestamp; payload = payload; options = options }) said f
form_stays turns s profile (script.Rtcp name octets) head fit said f =
    rtcp_holds (StaysSo turns (script.Rtcp name octets)) s name octets (control_stays turns s (script.Rtcp name octets) name octets f)
form_stays turns s profile (script.Inject octets) head fit said f =
    inject_holds (StaysSo turns (script.Inject octets)) s octets (added_stays turns s (script.Inject octets) f)
form_stays turns s profile (script.Alter datagram offset octets) head fit said f =
    let line : Script = script.Alter datagram offset octets in alter_holds (StaysSo turns line) s datagram offset octets (added_stays turns s line f)
form_stays turns s profile (script.Graft first front second back) head fit said f =
    let line : Script = script.Graft first front second back in graft_holds (StaysSo turns line) s first front second back (added_stays turns s line f)
form_stays turns s profile (script.Reseal datagram name roc changes) head fit said f =
    let line : Script = script.Reseal datagram name roc changes in reseal_holds (StaysSo turns line) s datagram name roc changes (added_stays turns s line f)
form_stays turns s profile (script.Forward name datagrams changes recipients) head fit said f =
    forward_stays turns s (script.Forward name datagrams changes recipients) name datagrams changes recipients f
form_stays turns s profile (script.Deliver datagram name) head fit said f = deliver_stays turns s datagram name f

first_stays : (turns : Turns) (s : State) (line : Script) → s.profile ≡ None → Facts turns (core_of s) → StaysSo turns line (first_turn s line)
first_stays turns s script.Nothing none f = stays turns s script.Nothing [] refl f
first_stays turns s (script.Conference profile) none f =
    quiet_line turns (script.Conference profile) [] (record (core_of s) { profile = Some profile }) refl (facts_profile turns (core_of s) profile none f)
first_stays turns s (script.Ekt key salt) none f = tt
first_stays turns s (script.Join name ssrc seq client server key) none f = tt
first_stays turns s (script.Leave name) none f = tt
first_stays turns s (script.Grant name spi key) none f = tt
first_stays turns s (script.Rekey name key) none f = tt
first_stays turns s (script.Send name pt marker timestamp payload options) none f = tt
first_stays turns s (script.Rtcp name octets) none f = tt
first_stays turns s (script.Inject octets) none f = tt
first_stays turns s (script.Alter datagram offset octets) none f = tt
first_stays turns s (script.Graft first front second back) none f = tt
first_stays turns s (script.Reseal datagram name roc changes) none f = tt
first_stays turns s (script.Forward name datagrams changes recipients) none f = tt
first_stays turns s (script.Deliver datagram name) none f = tt

where_fits : (turns : Turns) (s : State) (profile : Profile) (line : Script) (fit : Bool) → fits profile line ≡ fit → s.profile ≡ Some profile → IsScript line → Facts turns (core_of s)
    → StaysSo turns line (cond (not fit) (Refused Form) (form_turn by_cipher s profile line))
where_fits turns s profile line false fit head said f = tt
where_fits turns s profile line true fit head said f = form_stays turns s profile line head fit said f

under_stays : (turns : Turns) (s : State) (line : Script) (head : Option Profile) → s.profile ≡ head → IsScript line → Facts turns (core_of s)
    → StaysSo turns line (turn_under by_cipher s line head)
under_stays turns s line None e said f = first_stays turns s line e f
under_stays turns s line (Some profile) e said f = where_fits turns s profile line (fits profile line) refl e said f

turn_stays : (turns : Turns) (s : State) (line : Script) → IsScript line → Facts turns (core_of s) → StaysSo turns line (turn by_cipher s line)
unfolding turn
turn_stays turns s line said f = under_stays turns s line s.profile refl said f

-- ---- all lines

seals_push : (judge : Judge) (s : State) (turns : Turns) (t : Script × List Report)
    → run_seals judge s (turns ++ t ∷ []) ≡ run_seals judge s turns ++ line_seals (state_after judge s turns) t.0
seals_push judge s [] t = append-nil (line_seals s t.0)
seals_push judge s (u ∷ turns) t =
    let next : State = state_of s (turn judge s u.0) in
    ap (λ (seals : List Seal). line_seals s u.0 ++ seals) (seals_push judge next turns t)
    ∙ sym (append_assoc (line_seals s u.0) (run_seals judge next turns) (line_seals (state_after judge next turns) t.0))

-- what was done by a judge
pub record IsDone (judge : Judge) (turns : Turns) (s : State) : Type 0 where
  pub after : after_these judge turns ≡ s
  pub in_turn : InTurn judge turns
  pub genuine : GenuineIn judge turns
  pub clear : NeverTwice (wire_of s) (run_seals judge nobody turns)

-- What holds of a line: each genuine packet that it delivers is accepted, and no two packets were sealed alike behind it.
record IsLineDone (s : State) (line : Script) (lines : List Report) (next : State) : Type 0 where
  genuine : (number : ℕ) (name : List ℕ) → line ≡ Deliver number name → AcceptsGenuine s number name lines
  clear : (done : List Seal) → NeverTwice (wire_of s) done → NeverTwice (wire_of next) (done ++ line_seals s line)

done_more : (judge : Judge) (turns : Turns) (s : State) (line : Script) (lines : List Report) (next : State) → turn judge s line ≡ Goes lines next → IsLineDone s line lines next
    → IsDone judge turns s → IsDone judge (turns ++ (line, lines) ∷ []) next
done_more judge turns s line lines next goes last is =
    let seals : List Seal = run_seals judge nobody turns in record {
      after = after_more judge turns s line lines next is.after goes;
      in_turn = in_turn_more judge turns s line lines next is.after goes is.in_turn;
      genuine = genuine_more judge turns s line lines is.after is.genuine last.genuine;
      clear = subst (NeverTwice (wire_of next)) (ap (λ (x : State). seals ++ line_seals x line) (sym is.after) ∙ sym (seals_push judge nobody turns (line, lines)))
          (last.clear seals is.clear);
    }

-- What holds of the lines and of the state after them. The ciphers and the table do the same.
pub record Holds (turns : Turns) (s : State) : Type 0 where
  pub by_cipher : IsDone delivering.by_cipher turns s
  pub by_table : IsDone delivering.by_table turns s
  pub facts : Facts turns (core_of s)

pub holds_more : (turns : Turns) (s : State) (line : Script) (lines : List Report) (next : State) → IsScript line → turn by_cipher s line ≡ Goes lines next → Holds turns s
    → Holds (turns ++ (line, lines) ∷ []) next
holds_more turns s line lines next said goes h =
    let last : IsLineDone s line lines next = record {
      genuine = λ number name is. genuine_accepts turns s next number name lines h.facts (ap (turn by_cipher s) (sym is) ∙ goes);
      clear = λ done clear. subst (λ (t : Turn). ClearBehind (done ++ line_seals s line) t) goes (turn_clear turns s line done said h.facts clear);
    } in record {
      by_cipher = done_more by_cipher turns s line lines next goes last h.by_cipher;
      by_table = done_more by_table turns s line lines next (sym (turn_same turns s line h.facts) ∙ goes) last h.by_table;
      facts = subst (λ (t : Turn). StaysSo turns line t) goes (turn_stays turns s line said h.facts);
    }

nobody_done : (judge : Judge) → IsDone judge [] nobody
nobody_done judge = record {
  after = refl;
  in_turn = λ k line lines at. absurd (grind arith);
  genuine = λ k number name lines at. absurd (grind arith);
  clear = never_nobody;
}

holds_nobody : Holds [] nobody
holds_nobody = record {
  by_cipher = nobody_done by_cipher;
  by_table = nobody_done by_table;
  facts = record {
    sound = sound_nobody;
    hearing = λ k d within. absurd (omega arith);
    named = λ k d within. absurd (omega arith);
    rows = λ k d within. absurd (omega arith);
    as_sent = λ k line lines a at there. absurd (grind arith);
    once = λ i j d below within. absurd (omega arith);
  };
}

-- Each line says what its octets spell, within its bounds.
abbrev pub HasBounds : Type 0
HasBounds = (octets : List ℕ) (line : Script) → script_of octets ≡ Some line → IsScript line

-- What holds at the end of a run by the ciphers; and the table gives the same run.
record HoldsAtEnd (number : ℕ) (lines : List (List ℕ)) (done : Turns) (run other : Run) : Type 0 where
  final : State
  holds : Holds (done ++ run.turns) final
  same : run ≡ other
  ends : EndsSo number lines final run

at_once : (number : ℕ) (lines : List (List ℕ)) (done : Turns) (s : State) (end : End) → Holds done s → EndsSo number lines s (ended end)
    → HoldsAtEnd number lines done (ended end) (ended end)
at_once number lines done s end h ends = record { final = s; holds = subst (λ (turns : Turns). Holds turns s) (sym (append-nil done)) h; same = refl; ends = ends }

-- ---- the line at which a run ends

same_octets : (octets other : List ℕ) → Some octets ≡ Some other → octets ≡ other
same_octets octets other e = cc

same_end : (n m : ℕ) (a b : List ℕ) → Foreign n a ≡ Foreign m b → (n ≡ m) × (a ≡ b)
same_end n m a b e = (cc, cc)

-- nothing is left
ends_done : (number : ℕ) (s : State) → EndsSo number [] s (ended Done)
ends_done number s = record { there = λ line name at foreign. let bad : None ≡ Some at.octets = at.there in absurd (cc); nowhere_else = λ last name e. absurd (cc) }

-- the line is one too many
ends_last : (number : ℕ) (octets : List ℕ) (lines : List (List ℕ)) (s : State) → (number == last_line) ≡ true → EndsSo number (octets ∷ lines) s (ended (Stopped number Limit))
ends_last number octets lines s last = record {
  there = λ line name at foreign. absurd (at.room (omega arith ∙ eqb-true number last_line last));
  nowhere_else = λ n name e. absurd (cc);
}

-- it is too long
ends_long : (number : ℕ) (octets : List ℕ) (lines : List (List ℕ)) (s : State) → nat_lt longest (length octets) ≡ true → EndsSo number (octets ∷ lines) s (ended (Stopped number Long))
ends_long number octets lines s long = record {
  there = λ line name at foreign.
      let same : length octets ≡ length at.octets = ap (λ (l : List ℕ). length l) (same_octets octets at.octets at.there) in
      let short = at.short in
      let above : longest < length octets = ltb-true longest (length octets) long in
      absurd (omega arith);
  nowhere_else = λ n name e. absurd (cc);
}

-- what a line of these is, is done
done_there : (s : State) (octets : List ℕ) (said : Option Script) (t : Turn) (number : ℕ) (lines : List (List ℕ)) (line : Script) → script_of octets ≡ said → turn_at by_cipher s said ≡ t
    → IsLineFrom number (octets ∷ lines) 0 line → turn by_cipher s line ≡ t
done_there s octets said t number lines line is e at =
    let same : said ≡ Some line = sym is ∙ ap script_of (same_octets octets at.octets at.there) ∙ at.said in
    ap (turn_at by_cipher s) (sym same) ∙ e

-- it is refused
ends_refused : (number : ℕ) (octets : List ℕ) (lines : List (List ℕ)) (done : Turns) (s : State) (said : Option Script) (reason : Reason) → script_of octets ≡ said
    → turn_at by_cipher s said ≡ Refused reason → Facts done (core_of s) → EndsSo number (octets ∷ lines) s (ended (Stopped number reason))
ends_refused number octets lines done s said reason is e f = record {
  there = λ line name at foreign.
      let bad : Halts name ≡ Refused reason = sym (foreign_halts done s line name f foreign) ∙ done_there s octets said (Refused reason) number lines line is e at in
      absurd (cc);
  nowhere_else = λ n name e. absurd (cc);
}

delivered_there : (done : Turns) (s : State) (line : Script) (name : List ℕ) → IsDelivery line → turn by_cipher s line ≡ Halts name → DeliversForeign s line name
delivered_there done s line name (number, who, is) e =
    subst (λ (l : Script). DeliversForeign s l name) (sym is) (halted s number who name (ap (turn by_cipher s) (sym is) ∙ e))

-- the run halts there
ends_halted : (number : ℕ) (octets : List ℕ) (lines : List (List ℕ)) (done : Turns) (s : State) (line : Script) (name : List ℕ) → script_of octets ≡ Some line
    → turn by_cipher s line ≡ Halts name → (number == last_line) ≡ false → nat_lt longest (length octets) ≡ false → IsScript line → Facts done (core_of s)
    → EndsSo number (octets ∷ lines) s (ended (Foreign number name))
ends_halted number octets lines done s line name is e last long said f = record {
  there = λ other who at foreign.
      let same : Halts who ≡ Halts name = sym (foreign_halts done s other who f foreign) ∙ done_there s octets (Some line) (Halts name) number lines other is e at in
      let number_is : number ≡ number + 0 = omega arith in
      let name_is : name ≡ who = cc in
      λ i. Foreign (number_is i) (name_is i);
  nowhere_else = λ n who end.
      let same = same_end number n name who end in record {
        number_is = omega (arith, same.0);
        line = line;
        at = record { octets = octets; there = refl; said = is; short = ltb-false longest (length octets) long; room = λ bad. eqb-false number last_line last (omega arith ∙ bad) };
        delivers = subst (λ (w : List ℕ). DeliversForeign s line w) same.1
            (delivered_there done s line name (subst (λ (t : Turn). StaysSo done line t) e (turn_stays done s line said f)) e);
      };
}

-- it goes on, and ends behind
ends_behind : (number : ℕ) (octets : List ℕ) (lines : List (List ℕ)) (final : State) (line : Script) (told : List Report) (run : Run) → EndsSo (number + 1) lines final run
    → EndsSo number (octets ∷ lines) final (after_turn line told run)
ends_behind number octets lines final line told run ends =
    let n : ℕ = length run.turns in
    let next : number + 1 + n ≡ number + suc n = omega arith in record {
      there = λ said name at foreign.
          ends.there said name (record { octets = at.octets; there = at.there; said = at.said; short = at.short; room = λ same. at.room (sym next ∙ same) }) foreign
          ∙ ap (λ (k : ℕ). Foreign k name) next;
      nowhere_else = λ last name e.
          let it = ends.nowhere_else last name e in record {
            number_is = it.number_is ∙ next;
            line = it.line;
            at = record { octets = it.at.octets; there = it.at.there; said = it.at.said; short = it.at.short; room = λ same. it.at.room (next ∙ same) };
            delivers = it.delivers;
          };
    }

-- ---- the lines in turn

-- what follows from a line, by its tests
abbrev tested : ℕ → Option Script → Turn → Bool → Bool → (State → Run) → Run
tested number said t last long goes_on = cond last (ended (Stopped number Limit)) (cond long (ended (Stopped number Long)) (run_behind number (line_or_nothing said) t goes_on))

-- a line of octets, what it says, and its tests
record IsAt (s : State) (number : ℕ) (octets : List ℕ) (said : Option Script) (t : Turn) (last long : Bool) : Type 0 where
  is : script_of octets ≡ said
  does : turn_at by_cipher s said ≡ t
  last_is : (number == last_line) ≡ last
  long_is : nat_lt longest (length octets) ≡ long
  bounds : (line : Script) → said ≡ Some line → IsScript line

-- a line that goes on, before the others
one_more : (number : ℕ) (octets : List ℕ) (lines : List (List ℕ)) (done : Turns) (line : Script) (told : List Report) (run other : Run)
    → HoldsAtEnd (number + 1) lines (done ++ (line, told) ∷ []) run other → HoldsAtEnd number (octets ∷ lines) done (after_turn line told run) (after_turn line told other)
one_more number octets lines done line told run other r = record {
  final = r.final;
  holds = subst (λ (turns : Turns). Holds turns r.final) (append_assoc done ((line, told) ∷ []) run.turns) r.holds;
  same = ap (after_turn line told) r.same;
  ends = ends_behind number octets lines r.final line told run r.ends;
}

line_holds : (s : State) (number : ℕ) (octets : List ℕ) (lines : List (List ℕ)) (done : Turns) (said : Option Script) (t : Turn) (last long : Bool) (goes_on goes_too : State → Run)
    → IsAt s number octets said t last long → Holds done s
    → ((next : State) (turns : Turns) → Holds turns next → HoldsAtEnd (number + 1) lines turns (goes_on next) (goes_too next))
    → HoldsAtEnd number (octets ∷ lines) done (tested number said t last long goes_on) (tested number said t last long goes_too)
line_holds s number octets lines done said t true long goes_on goes_too at h rest = at_once number (octets ∷ lines) done s (Stopped number Limit) h (ends_last number octets lines s at.last_is)
line_holds s number octets lines done said t false true goes_on goes_too at h rest =
    at_once number (octets ∷ lines) done s (Stopped number Long) h (ends_long number octets lines s at.long_is)
line_holds s number octets lines done said (Refused reason) false false goes_on goes_too at h rest =
    at_once number (octets ∷ lines) done s (Stopped number reason) h (ends_refused number octets lines done s said reason at.is at.does h.facts)
line_holds s number octets lines done None (Halts name) false false goes_on goes_too at h rest = let e = at.does in absurd (cc)
line_holds s number octets lines done (Some line) (Halts name) false false goes_on goes_too at h rest =
    at_once number (octets ∷ lines) done s (Foreign number name) h
    (ends_halted number octets lines done s line name at.is at.does at.last_is at.long_is (at.bounds line refl) h.facts)
line_holds s number octets lines done None (Goes told next) false false goes_on goes_too at h rest = let e = at.does in absurd (cc)
line_holds s number octets lines done (Some line) (Goes told next) false false goes_on goes_too at h rest =
    one_more number octets lines done line told (goes_on next) (goes_too next)
    (rest next (done ++ (line, told) ∷ []) (holds_more done s line told next (at.bounds line refl) at.does h))

run_holds : (s : State) (number : ℕ) (lines : List (List ℕ)) (done : Turns) → HasBounds → Holds done s
    → HoldsAtEnd number lines done (run_from by_cipher s number lines) (run_from by_table s number lines)
run_holds s number [] done bounds h = at_once number [] done s Done h (ends_done number s)
run_holds s number (octets ∷ lines) done bounds h =
    let said : Option Script = script_of octets in
    let last : Bool = number == last_line in
    let long : Bool = nat_lt longest (length octets) in
    let goes_too : State → Run = λ next. run_from by_table next (number + 1) lines in
    let r = line_holds s number octets lines done said (turn_at by_cipher s said) last long (λ next. run_from by_cipher next (number + 1) lines) goes_too
    (record { is = refl; does = refl; last_is = refl; long_is = refl; bounds = bounds octets }) h
    (λ next turns holds. run_holds next (number + 1) lines turns bounds holds) in record {
      final = r.final;
      holds = r.holds;
      same = r.same ∙ ap (λ (t : Turn). tested number said t last long goes_too) (at_same done s said h.facts);
      ends = r.ends;
    }

-- ---- a script

-- The table and the ciphers run a script alike, whatever it is.
pub one_run : HasBounds → (octets : List ℕ) → run_by by_cipher octets ≡ run_by by_table octets
unfolding run_by
one_run bounds octets = (run_holds nobody 1 (lines_of octets) [] bounds holds_nobody).same

-- what holds of a script's run
pub record IsRun (lines : List (List ℕ)) (run : Run) : Type 0 where
  pub final : State
  pub holds : Holds run.turns final
  pub ends : EndsSo 1 lines final run

pub is_run : HasBounds → (octets : List ℕ) → IsRun (lines_of octets) (run_by by_cipher octets)
unfolding run_by
is_run bounds octets = let r = run_holds nobody 1 (lines_of octets) [] bounds holds_nobody in record { final = r.final; holds = r.holds; ends = r.ends }

headline : (judge : Judge) (turns : Turns) (final : State) → IsDone judge turns final → Facts turns (core_of final) → Headline judge turns
headline judge turns final is f = record { as_sent = f.as_sent; once = f.once; genuine = is.genuine; in_turn = is.in_turn }

-- Of every script: each accept line names an earlier send, as it was sent, once at most for each member; each genuine packet is accepted.
pub headline_by_cipher : HasBounds → (octets : List ℕ) → Headline by_cipher (run_by by_cipher octets).turns
headline_by_cipher bounds octets =
    let r = is_run bounds octets in headline by_cipher (run_by by_cipher octets).turns r.final r.holds.by_cipher r.holds.facts

pub headline_by_table : HasBounds → (octets : List ℕ) → Headline by_table (run_by by_table octets).turns
headline_by_table bounds octets =
    let r = is_run bounds octets in
    subst (λ (run : Run). Headline by_table run.turns) (one_run bounds octets) (headline by_table (run_by by_cipher octets).turns r.final r.holds.by_table r.holds.facts)

-- ---- where it ends

line_from : (lines : List (List ℕ)) (k : ℕ) (line : Script) → IsLineAt lines k line → IsLineFrom 1 lines k line
line_from lines k line at =
    let same : 1 + k ≡ k + 1 = omega arith in record { octets = at.octets; there = at.there; said = at.said; short = at.short; room = λ last. at.room (sym same ∙ last) }

line_at : (lines : List (List ℕ)) (k : ℕ) (line : Script) → IsLineFrom 1 lines k line → IsLineAt lines k line
line_at lines k line at =
    let same : 1 + k ≡ k + 1 = omega arith in record { octets = at.octets; there = at.there; said = at.said; short = at.short; room = λ last. at.room (same ∙ last) }

not_foreign : (judge : Judge) (s next : State) (line : Script) (told : List Report) (name : List ℕ) → turn judge s line ≡ Goes told next → DeliversForeign s line name → ⊥
not_foreign judge s next line told name goes is =
    let it = answered judge s next is.number name is.member is.datagram told is.delivers (ap (turn judge s) (sym is.said) ∙ goes) in
    let bad : true ≡ false = sym is.foreign ∙ it.known in absurd (cc)

ends_at : (judge : Judge) (lines : List (List ℕ)) (run : Run) (final : State) → IsDone judge run.turns final → EndsSo 1 lines final run → EndsAtForeign judge lines run
ends_at judge lines run final is ends =
    let n : ℕ = length run.turns in
    let count : 1 + n ≡ n + 1 = omega arith in record {
      first = λ k line told name at foreign. not_foreign judge _ _ line told name (is.in_turn k line told at) foreign;
      there = λ line name at foreign.
          ends.there line name (line_from lines n line at) (subst (λ (s : State). DeliversForeign s line name) is.after foreign) ∙ ap (λ (k : ℕ). Foreign k name) count;
      nowhere_else = λ number name e.
          let it = ends.nowhere_else number name e in record {
            number_is = it.number_is ∙ count;
            line = it.line;
            at = line_at lines n it.line it.at;
            delivers = subst (λ (s : State). DeliversForeign s it.line name) (sym is.after) it.delivers;
          };
    }

-- A run ends as foreign exactly at the first line that delivers something foreign, whoever judges.
pub ends_by_cipher : HasBounds → (octets : List ℕ) → EndsAtForeign by_cipher (lines_of octets) (run_by by_cipher octets)
ends_by_cipher bounds octets =
    let r = is_run bounds octets in ends_at by_cipher (lines_of octets) (run_by by_cipher octets) r.final r.holds.by_cipher r.ends

pub ends_by_table : HasBounds → (octets : List ℕ) → EndsAtForeign by_table (lines_of octets) (run_by by_table octets)
ends_by_table bounds octets =
    let r = is_run bounds octets in
    subst (λ (run : Run). EndsAtForeign by_table (lines_of octets) run) (one_run bounds octets)
    (ends_at by_table (lines_of octets) (run_by by_cipher octets) r.final r.holds.by_table r.ends)

-- No two packets of a run are sealed alike, whoever judges.
pub nonces_by_cipher : HasBounds → (octets : List ℕ) → AllPairs AreOtherSeals (run_seals by_cipher nobody (run_by by_cipher octets).turns)
nonces_by_cipher bounds octets = let r = is_run bounds octets in r.holds.by_cipher.clear.seals.apart

pub nonces_by_table : HasBounds → (octets : List ℕ) → AllPairs AreOtherSeals (run_seals by_table nobody (run_by by_table octets).turns)
nonces_by_table bounds octets =
    let r = is_run bounds octets in
    subst (λ (run : Run). AllPairs AreOtherSeals (run_seals by_table nobody run.turns)) (one_run bounds octets) r.holds.by_table.clear.seals.apart
