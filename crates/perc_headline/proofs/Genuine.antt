-- A genuine packet that a line delivers is accepted.
use Rattle.std.proofs.Common.{◌≡◌, ℕ, Bool, true, false, cond, List, [], ◌∷◌, Option, Some, None, Result, Ok, refl, sym, ap, ◌∙◌}
use Rattle.std.specs.Option.{option_map_or}
use Rattle.std.specs.Prelude.{Contains}
use Rattle.perc_base.specs.declared.profile.Profile.{Profile}
use Rattle.perc_rtp.specs.Carried.{kind_of}
use Rattle.perc_rtp.specs.declared.carried.Carried.{Carried}
use Rattle.perc_receiver.specs.declared.refusal.Refusal.{Refusal}
use Rattle.perc_receiver.specs.Table.{Row}
use Rattle.perc_receiver.specs.Receiver.{Accepted, Receiver, ideal, outcome}
use Rattle.perc_receiver.specs.Foreign.{is_foreign}
use Rattle.perc_receiver.specs.Calls.{IsRow}
use Rattle.perc_receiver.proofs.Once.{one_row}
use Rattle.perc_receiver.proofs.Genuine.{genuine_accepted}
use Rattle.perc_script_line.specs.Script.{Deliver}
use Rattle.perc_script_line.specs.declared.reason.Reason.TheVariants.{Datagram as NoDatagram, Name}
use Rattle.perc_report_line.specs.Report.{Report, Accept}
use Rattle.perc_run.specs.State.{Datagram, Member, State, Turn, Goes, Halts, Refused, datagram_at}
use Rattle.perc_run.specs.Delivering.{Judge, answer_line, by_cipher, deliver_turn, delivered, heard_turn}
use Rattle.perc_run.specs.Turn.{turn, turn_under}
use Rattle.perc_headline.specs.Headline.{AcceptsGenuine, DeliversRtp, TellsRow, Turns}
use Rattle.perc_run.specs.Sound.{core_of}
use Rattle.perc_headline.proofs.Lookups.{IsFound, found_by_name}
use Rattle.perc_headline.proofs.Known.{known}
use Rattle.perc_headline.proofs.Turns.{told_is}
use Rattle.perc_headline.proofs.Hearing.{row_found}
use Rattle.perc_headline.proofs.Facts.{Facts}
use Rattle.perc_headline.proofs.Judges.{answers_same}

-- ---- what a line does that delivers RTP

abbrev pub heard_or_halts : Judge → State → ℕ → Member → List ℕ → Turn
heard_or_halts judge s number m octets =
    cond (is_foreign s.table m.endpoint.receiving octets) (Halts m.name)
    (heard_turn s m (answer_line s.table number m.name (judge s.table m.endpoint.receiving octets).0) (judge s.table m.endpoint.receiving octets).1)

abbrev delivered_at : Judge → State → ℕ → Member → Option Datagram → Turn
delivered_at judge s number m found = option_map_or (λ d. delivered judge s number m d.octets (kind_of d.octets)) found (Refused NoDatagram)

pub deliver_is : (judge : Judge) (s : State) (number : ℕ) (name : List ℕ) (m : Member) (d : Datagram) → DeliversRtp s number name m d
    → deliver_turn judge s number name ≡ heard_or_halts judge s number m d.octets
unfolding deliver_turn
deliver_is judge s number name m d is =
    ap (λ (found : Option Member). option_map_or (λ x. delivered_at judge s number x (datagram_at s.datagrams number)) found (Refused Name)) is.member
    ∙ ap (delivered_at judge s number m) is.datagram
    ∙ ap (λ (kind : Carried). delivered judge s number m d.octets kind) is.kind

went_under : (judge : Judge) (s next : State) (number : ℕ) (name : List ℕ) (lines : List Report) (head : Option Profile) → turn_under judge s (Deliver number name) head ≡ Goes lines next
    → deliver_turn judge s number name ≡ Goes lines next
went_under judge s next number name lines None e = absurd (cc)
went_under judge s next number name lines (Some profile) e = e

-- A line that delivers and goes on had a head before it.
pub went_on : (judge : Judge) (s next : State) (number : ℕ) (name : List ℕ) (lines : List Report) → turn judge s (Deliver number name) ≡ Goes lines next
    → deliver_turn judge s number name ≡ Goes lines next
unfolding turn
went_on judge s next number name lines e = went_under judge s next number name lines s.profile e

-- The datagram isn't foreign, and one line tells of what was answered.
pub record IsAnswered (judge : Judge) (s : State) (number : ℕ) (m : Member) (octets : List ℕ) (lines : List Report) : Type 0 where
  pub known : is_foreign s.table m.endpoint.receiving octets ≡ false
  pub line : lines ≡ answer_line s.table number m.name (judge s.table m.endpoint.receiving octets).0 ∷ []

same_lines : (a b : List Report) (s t : State) → Goes a s ≡ Goes b t → a ≡ b
same_lines a b s t e = cc

answered_by : (judge : Judge) (s next : State) (number : ℕ) (m : Member) (octets : List ℕ) (lines : List Report) (foreign : Bool) → is_foreign s.table m.endpoint.receiving octets ≡ foreign
    → cond foreign (Halts m.name) (heard_turn s m (answer_line s.table number m.name (judge s.table m.endpoint.receiving octets).0) (judge s.table m.endpoint.receiving octets).1) ≡ Goes lines next
    → IsAnswered judge s number m octets lines
answered_by judge s next number m octets lines true known e = absurd (cc)
answered_by judge s next number m octets lines false known e = record { known = known; line = sym (same_lines _ lines _ next e) }

pub answered : (judge : Judge) (s next : State) (number : ℕ) (name : List ℕ) (m : Member) (d : Datagram) (lines : List Report) → DeliversRtp s number name m d
    → turn judge s (Deliver number name) ≡ Goes lines next → IsAnswered judge s number m d.octets lines
answered judge s next number name m d lines is goes =
    answered_by judge s next number m d.octets lines (is_foreign s.table m.endpoint.receiving d.octets) refl
    (sym (deliver_is judge s number name m d is) ∙ went_on judge s next number name lines goes)

-- ---- a genuine packet

-- A row that was accepted is what its line tells of.
tells : (turns : Turns) (s : State) (number : ℕ) (name octets : List ℕ) (m : Member) (lines : List Report) (x : Accepted) (row : Row) → Facts turns (core_of s)
    → IsFound s.members name m → IsAnswered by_cipher s number m octets lines → (ideal s.table m.endpoint.receiving octets).0 ≡ Ok x → Contains s.table.rows row → IsRow row x
    → TellsRow s number m octets lines row
tells turns s number name octets m lines x row f found answer ideal_is there is =
    let at = row_found s.table row x.attempt.context.ssrc x.attempt.index f.sound.table.one_row there is.ssrc is.index in
    let same : (outcome m.endpoint.receiving octets).0 ≡ Ok x =
    ap (λ (heard : Result Accepted Refusal × Receiver). heard.0) (answers_same turns s name octets m found answer.known f) ∙ ideal_is in record {
      sent = there;
      accepted = x;
      answer = ideal_is;
      is_row = is;
      line = answer.line ∙ ap (λ (r : Result Accepted Refusal). answer_line s.table number m.name r ∷ []) same
          ∙ ap (λ a. Accept a ∷ []) (told_is s.table number m.name row x (Some row) at refl is);
    }

-- A genuine packet that a line delivers is accepted, where the line goes on.
pub genuine_accepts : (turns : Turns) (s next : State) (number : ℕ) (name : List ℕ) (lines : List Report) → Facts turns (core_of s)
    → turn by_cipher s (Deliver number name) ≡ Goes lines next → AcceptsGenuine s number name lines
genuine_accepts turns s next number name lines f goes m d o row delivers genuine =
    let found = found_by_name s name m delivers.member in
    let answer = answered by_cipher s next number name m d lines delivers goes in
    let it = genuine_accepted s.secrets s.table m.endpoint.receiving d.octets o row f.sound.table (record {
      reached = genuine.arrives;
      sent = genuine.changed.sent;
      header = genuine.changed.header;
      inner = genuine.changed.inner;
      fresh = genuine.inside;
      known = known s.secrets s.table m.endpoint.receiving row o.field f.sound.issued.right f.sound.table genuine.known;
    }) in
    let x : Accepted = it.accepted.0 in
    let told : Row = it.accepted.2.0 in
    let there : Contains s.table.rows told = it.accepted.2.1 in
    let is : IsRow told x = it.accepted.2.2 in record {
      told = told;
      tells = tells turns s number name d.octets m lines x told f found answer it.accepted.1 there is;
      alone = λ alone.
          let own : IsRow row x = it.accepted.3 alone in
          one_row s.table.rows told row f.sound.table.one_row there genuine.changed.sent (sym is.ssrc ∙ own.ssrc) (sym is.index ∙ own.index);
    }
