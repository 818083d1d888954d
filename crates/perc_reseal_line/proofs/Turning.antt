-- What a reseal's turn is, and that it is done.
use Rattle.std.proofs.Common.{◌≡◌, ℕ, ◌+◌, ◌<◌, Bool, true, cond, List, [], ◌∷◌, ◌++◌, length, get_or, Option, Some, None, Result, Ok, Err, refl, sym, ap, ◌∙◌, subst, arith}
use Rattle.std.specs.Prelude.{◌||◌, nat_le, nat_lt}
use Rattle.std.specs.Option.{option_map_or}
use Rattle.std.specs.Result.{IsErrAnd}
use Rattle.std.proofs.lemmas.Bool.Decides.{nat_tests}
use Rattle.std.proofs.lemmas.Result.{err_from_is_err_and}
use Rattle.perc_kdf.specs.Derivation.{KeyAndSalt, session_keys}
use Rattle.perc_kdf.specs.declared.Kind.TheVariants.{Srtp}
use Rattle.perc_ohb.specs.Rewriting.{Rewrite}
use Rattle.perc_member.specs.Each.{MirrorsDatagram}
use Rattle.perc_member.specs.declared.datagram.Datagram as code_datagram
use Rattle.perc_member.specs.declared.member.Member as code_member
use Rattle.perc_distributor.specs.Forwarding.{most_octets}
use Rattle.perc_script_line.specs.Script.{Changes}
use Rattle.perc_script_line.specs.declared.reason.Reason.TheVariants as reason
use Rattle.perc_report_line.specs.Report.{Report, WireReseal}
use Rattle.perc_run.specs.Forwarding.{rewrite_by}
use Rattle.perc_run.specs.Hostile.{added, reseal_datagram, reseal_for, reseal_turn, resealed, sealed_anew, unsealed_anew}
use Rattle.perc_run.specs.State.{Datagram, Member, State, Turn, Goes, Refused, Unsealed, datagram_at, member_named, most_datagrams}
use Rattle.perc_conference_state.specs.Lookups.{IsDatagramPlace, IsPlaceOf}
use Rattle.perc_conference_state.specs.Mirror.{Does, Mirrors}
use Rattle.perc_conference_state.specs.declared.conference.Conference as code
use Rattle.perc_conference_state.specs.declared.conference.Stop.TheVariants as stop
use Rattle.perc_conference_state.specs.declared.conference.Stop.{Stop}
use Rattle.perc_conference_state.specs.declared.conference.Told.{Told}
use Rattle.perc_conference_state.proofs.Changing.{placed, wire_at}
use Rattle.perc_conference_state.proofs.Places.{name_of_found}
use Rattle.perc_reseal_line.specs.Anew.{IsResealed, IsSealedAnew}

-- ---- which turn it is

module _ (s : State) (number : ℕ) (name : List ℕ) (roc : ℕ) (changes : Changes) where
  abbrev at_named : Option Member → Turn
  at_named o =
      option_map_or (λ (m : Member). option_map_or (reseal_datagram s m roc (rewrite_by changes)) (datagram_at s.datagrams number) (Refused reason.Datagram)) o
      (Refused reason.Name)

  pub nobody_named : member_named name s ≡ None → reseal_turn s number name roc changes ≡ Refused reason.Name
  unfolding reseal_turn
  nobody_named none = ap at_named none

  somebody : (m : Member) (found : Option Datagram) → member_named name s ≡ Some m → datagram_at s.datagrams number ≡ found
      → reseal_turn s number name roc changes ≡ option_map_or (reseal_datagram s m roc (rewrite_by changes)) found (Refused reason.Datagram)
  unfolding reseal_turn
  somebody m found is at =
      ap at_named is ∙ ap (λ (o : Option Datagram). option_map_or (reseal_datagram s m roc (rewrite_by changes)) o (Refused reason.Datagram)) at

  pub no_datagram : (m : Member) → member_named name s ≡ Some m → datagram_at s.datagrams number ≡ None → reseal_turn s number name roc changes ≡ Refused reason.Datagram
  no_datagram m is none = somebody m None is none

  turn_here : (m : Member) (d : Datagram) → member_named name s ≡ Some m → datagram_at s.datagrams number ≡ Some d
      → reseal_turn s number name roc changes ≡ reseal_datagram s m roc (rewrite_by changes) d
  turn_here m d is at = somebody m (Some d) is at

-- ---- what it does

-- too many octets
too_long : (s : State) (line : Report) (d : Datagram) → 1500 < length d.octets → added s line d ≡ Refused reason.Limit
too_long s line d long =
    let test : nat_lt most_octets (length d.octets) ≡ true = grind (arith, nat_tests) in
    ap (λ (b : Bool). cond (b || nat_le most_datagrams (length s.datagrams)) (Refused reason.Limit) (Goes (line ∷ []) (record s { datagrams = s.datagrams ++ d ∷ [] }))) test

module _ (s : State) (m : Member) (roc : ℕ) (change : Rewrite) (before : List ℕ) (c : code.Conference) where
  -- what is done with what was sealed
  abbrev turn_of : Option Unsealed → Turn
  turn_of o = option_map_or (λ (u : Unsealed). reseal_for s m roc (unsealed_anew u change)) o (Refused reason.Datagram)

  long_stops : (u : Unsealed) (e : Stop) (after : List ℕ) → IsSealedAnew (session_keys m.server Srtp) roc (unsealed_anew u change) (Err e)
      → Does (reseal_for s m roc (unsealed_anew u change)) (Err e) before after c
  long_stops u stop.Memory after is = tt
  long_stops u (stop.Refused given) after is =
      let new : Unsealed = unsealed_anew u change in
      let over = too_long s (WireReseal (length s.datagrams + 1) m.name (sealed_anew m roc new)) (resealed m roc new) is.1 in
      subst (λ (t : Turn). Does t (Err (stop.Refused given)) before after c) (sym over) is.0
  long_stops u (stop.Foreign name) after is = absurd is

  -- It isn't sealed anew.
  stops : (was : Option Unsealed) (e : Stop) (after : List ℕ) → IsResealed (session_keys m.server Srtp) roc change was (Err e) → Does (turn_of was) (Err e) before after c
  stops None e after is =
      let same : e ≡ stop.Refused reason.Datagram = cc in
      subst (λ (x : Stop). Does (Refused reason.Datagram) (Err x) before after c) (sym same) refl
  stops (Some u) e after is = long_stops u e after is

  -- at the exit of a `?`
  pub stopped : (t : Turn) (was : Option Unsealed) (result : Result Told Stop) (e : Stop) (after : List ℕ) → t ≡ turn_of was → IsErrAnd result (λ given. given ≡ e)
      → IsResealed (session_keys m.server Srtp) roc change was (Err e) → Does t result before after c
  stopped t was result e after turn given is =
      let p = err_from_is_err_and result given in
      let same : result ≡ Err e = p.1 ∙ ap Err p.2 in
      subst (λ (x : Turn). Does x result before after c) (sym turn) (subst (λ (r : Result Told Stop). Does (turn_of was) r before after c) (sym same) (stops was e after is))

  -- It is, and the datagram is put on the wire.
  pub puts : (was : Option Unsealed) (name : List ℕ) (made : code_datagram.Datagram) (result : Result Told Stop) (after : List ℕ) → m.name ≡ name → IsResealed (session_keys m.server Srtp) roc change was (Ok made)
      → ((d : Datagram) → MirrorsDatagram made d → Does (added s (WireReseal (length s.datagrams + 1) name d.octets) d) result before after c)
      → Does (turn_of was) result before after c
  puts None name made result after named is put = absurd cc
  puts (Some u) name made result after named is put =
      let d : Datagram = resealed m roc (unsealed_anew u change) in
      subst (λ (n : List ℕ). Does (added s (WireReseal (length s.datagrams + 1) n d.octets) d) result before after c) (sym named) (put d is)

-- ---- what is found for it

-- The member and the datagram are found, and this was made of the datagram.
pub record IsMade (s : State) (number : ℕ) (name : List ℕ) (roc : ℕ) (changes : Changes) (made : Result code_datagram.Datagram Stop) : Type 0 where
  pub member : Member
  pub named : member.name ≡ name
  pub datagram : Datagram
  pub turn : reseal_turn s number name roc changes ≡ reseal_datagram s member roc (rewrite_by changes) datagram
  pub is : IsResealed (session_keys member.server Srtp) roc (rewrite_by changes) datagram.unsealed made

pub made_for : (c : code.Conference) (s : State) (number : ℕ) (name : List ℕ) (roc : ℕ) (changes : Changes) (place at : ℕ) (a : code_member.Member) (x : code_datagram.Datagram) (keys : KeyAndSalt) (change : Rewrite)
    (made : Result code_datagram.Datagram Stop) → Mirrors c s → IsPlaceOf s name (Ok place) → IsDatagramPlace s number (Ok at) → a ≡ get_or c.members.items place a
    → x ≡ get_or c.datagrams.items at x → keys ≡ session_keys a.server Srtp → change ≡ rewrite_by changes
    → ((d : Datagram) → MirrorsDatagram x d → IsResealed keys roc change d.unsealed made) → IsMade s number name roc changes made
made_for c s number name roc changes place at a x keys change made mirrors found numbered a_is x_is keys_are change_is makes =
    let it = placed c s name place a mirrors found a_is in
    let wire = wire_at c s number at mirrors numbered in
    let same = keys_are ∙ ap (λ (pair : KeyAndSalt). session_keys pair Srtp) it.mirrors.server in
    record {
      member = it.member;
      named = name_of_found s name it.member it.found;
      datagram = wire.datagram;
      turn = turn_here s number name roc changes it.member wire.datagram it.found wire.numbered;
      is = subst (λ (k : KeyAndSalt). IsResealed k roc (rewrite_by changes) wire.datagram.unsealed made) same
          (subst (λ (r : Rewrite). IsResealed keys roc r wire.datagram.unsealed made) change_is (makes wire.datagram (wire.mirrors x x_is)));
    }
