-- What the ciphers answer in a turn, the table answers.
use Rattle.std.proofs.Common.{◌≡◌, ℕ, Bool, true, false, cond, not, List, ◌++◌, Option, Some, None, Result, refl, ap}
use Rattle.std.specs.Option.{option_map_or}
use Rattle.std.proofs.lemmas.List.Elements.{All-contains}
use Rattle.perc_base.specs.declared.profile.Profile.{Profile}
use Rattle.perc_rtp.specs.Carried.{kind_of}
use Rattle.perc_rtp.specs.declared.carried.Carried.{Carried}
use Rattle.perc_rtp.specs.declared.carried.Carried.TheVariants as carried
use Rattle.perc_receiver.specs.declared.refusal.Refusal.{Refusal}
use Rattle.perc_receiver.specs.Receiver.{Accepted, Receiver, ideal, outcome}
use Rattle.perc_receiver.specs.Foreign.{is_foreign}
use Rattle.perc_receiver.proofs.Agreeing.{outcome_is_ideal}
use Rattle.perc_receiver.proofs.Once.{holding_more}
use Rattle.perc_script_line.specs.Script as script
use Rattle.perc_script_line.specs.Script.{Script, fits}
use Rattle.perc_script_line.specs.declared.reason.Reason.TheVariants.{Datagram as NoDatagram, Form, Name}
use Rattle.perc_run.specs.State.{Datagram, State, Member, Refused, Halts, datagram_at, member_named}
use Rattle.perc_run.specs.Delivering.{answer_line, by_cipher, by_table, deliver_turn, delivered, heard_turn}
use Rattle.perc_run.specs.Turn.{form_turn, turn, turn_under}
use Rattle.perc_run.specs.Report.{turn_at}
use Rattle.perc_headline.specs.Headline.{Turns, acceptances}
use Rattle.perc_run.specs.Sound.{core_of}
use Rattle.perc_headline.proofs.Lookups.{IsFound, found_by_name}
use Rattle.perc_headline.proofs.Secrets.{right_behind}
use Rattle.perc_headline.proofs.Hearing.{Hears}
use Rattle.perc_headline.proofs.Facts.{Facts}

-- What the ciphers answer to a datagram that isn't foreign at a member, the table answers.
pub answers_same : (turns : Turns) (s : State) (name octets : List ℕ) (m : Member) → IsFound s.members name m → is_foreign s.table m.endpoint.receiving octets ≡ false
    → Facts turns (core_of s) → outcome m.endpoint.receiving octets ≡ ideal s.table m.endpoint.receiving octets
answers_same turns s name octets m found known f =
    let h : Hears s.secrets s.table (acceptances turns) m = All-contains (Hears s.secrets s.table (acceptances turns)) s.members m f.hearing found.there in
    outcome_is_ideal (h.held ++ s.secrets) s.table m.endpoint.receiving octets (holding_more h.held s.secrets m.endpoint.receiving h.sound.holding)
    (right_behind s.secrets h.held s.table h.issued f.sound.table) known

media_same : (turns : Turns) (s : State) (number : ℕ) (name octets : List ℕ) (m : Member) (foreign : Bool) → is_foreign s.table m.endpoint.receiving octets ≡ foreign
    → IsFound s.members name m → Facts turns (core_of s)
    → cond foreign (Halts m.name) (heard_turn s m (answer_line s.table number m.name (outcome m.endpoint.receiving octets).0) (outcome m.endpoint.receiving octets).1)
    ≡ cond foreign (Halts m.name) (heard_turn s m (answer_line s.table number m.name (ideal s.table m.endpoint.receiving octets).0) (ideal s.table m.endpoint.receiving octets).1)
media_same turns s number name octets m true known found f = refl
media_same turns s number name octets m false known found f =
    ap (λ (heard : Result Accepted Refusal × Receiver). heard_turn s m (answer_line s.table number m.name heard.0) heard.1) (answers_same turns s name octets m found known f)

delivered_same : (turns : Turns) (s : State) (number : ℕ) (name octets : List ℕ) (m : Member) (kind : Carried) → IsFound s.members name m → Facts turns (core_of s)
    → delivered by_cipher s number m octets kind ≡ delivered by_table s number m octets kind
delivered_same turns s number name octets m carried.Dtls found f = refl
delivered_same turns s number name octets m carried.Other found f = refl
delivered_same turns s number name octets m carried.Rtcp found f = refl
delivered_same turns s number name octets m carried.Rtp found f = media_same turns s number name octets m (is_foreign s.table m.endpoint.receiving octets) refl found f

datagram_same : (turns : Turns) (s : State) (number : ℕ) (name : List ℕ) (m : Member) (d : Option Datagram) → IsFound s.members name m → Facts turns (core_of s)
    → option_map_or (λ x. delivered by_cipher s number m x.octets (kind_of x.octets)) d (Refused NoDatagram)
    ≡ option_map_or (λ x. delivered by_table s number m x.octets (kind_of x.octets)) d (Refused NoDatagram)
datagram_same turns s number name m None found f = refl
datagram_same turns s number name m (Some d) found f = delivered_same turns s number name d.octets m (kind_of d.octets) found f

member_same : (turns : Turns) (s : State) (number : ℕ) (name : List ℕ) (found : Option Member) → member_named name s ≡ found → Facts turns (core_of s)
    → option_map_or (λ m. option_map_or (λ x. delivered by_cipher s number m x.octets (kind_of x.octets)) (datagram_at s.datagrams number) (Refused NoDatagram)) found (Refused Name)
    ≡ option_map_or (λ m. option_map_or (λ x. delivered by_table s number m x.octets (kind_of x.octets)) (datagram_at s.datagrams number) (Refused NoDatagram)) found (Refused Name)
member_same turns s number name None e f = refl
member_same turns s number name (Some m) e f = datagram_same turns s number name m (datagram_at s.datagrams number) (found_by_name s name m e) f

deliver_same : (turns : Turns) (s : State) (number : ℕ) (name : List ℕ) → Facts turns (core_of s) → deliver_turn by_cipher s number name ≡ deliver_turn by_table s number name
unfolding deliver_turn
deliver_same turns s number name f = member_same turns s number name (member_named name s) refl f

form_same : (turns : Turns) (s : State) (profile : Profile) (line : Script) → Facts turns (core_of s) → form_turn by_cipher s profile line ≡ form_turn by_table s profile line
form_same turns s profile script.Nothing f = refl
form_same turns s profile (script.Conference other) f = refl
form_same turns s profile (script.Ekt key salt) f = refl
form_same turns s profile (script.Join name ssrc seq client server key) f = refl
form_same turns s profile (script.Leave name) f = refl
form_same turns s profile (script.Grant name spi key) f = refl
form_same turns s profile (script.Rekey name key) f = refl
form_same turns s profile (script.Send name pt marker timestamp payload options) f = refl
form_same turns s profile (script.Rtcp name octets) f = refl
form_same turns s profile (script.Inject octets) f = refl
form_same turns s profile (script.Alter datagram offset octets) f = refl
form_same turns s profile (script.Graft first front second back) f = refl
form_same turns s profile (script.Reseal datagram name roc changes) f = refl
form_same turns s profile (script.Forward name datagrams changes recipients) f = refl
form_same turns s profile (script.Deliver datagram name) f = deliver_same turns s datagram name f

under_same : (turns : Turns) (s : State) (line : Script) (head : Option Profile) → Facts turns (core_of s) → turn_under by_cipher s line head ≡ turn_under by_table s line head
under_same turns s line None f = refl
under_same turns s line (Some profile) f =
    ap (cond (not (fits profile line)) (Refused Form)) (form_same turns s profile line f)

-- What a line does by the ciphers, it does by the table;
pub turn_same : (turns : Turns) (s : State) (line : Script) → Facts turns (core_of s) → turn by_cipher s line ≡ turn by_table s line
unfolding turn
turn_same turns s line f = under_same turns s line s.profile f

-- a line outside the grammar too.
pub at_same : (turns : Turns) (s : State) (said : Option Script) → Facts turns (core_of s) → turn_at by_cipher s said ≡ turn_at by_table s said
at_same turns s None f = refl
at_same turns s (Some line) f = turn_same turns s line f
