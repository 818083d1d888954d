-- Where a run ends because a delivery is foreign.
use Rattle.std.proofs.Common.{◌≡◌, ℕ, ◌+◌, ◌≤◌, Bool, true, false, cond, List, [], ◌∷◌, length, Option, Some, None, refl, sym, ap, ◌∙◌, subst}
use Rattle.std.specs.List.{slice_get}
use Rattle.std.specs.Option.{option_map_or}
use Rattle.std.specs.Prelude.{◌≢◌}
use Rattle.std.proofs.lemmas.List.Elements.{All-contains}
use Rattle.perc_base.specs.Lines.{longest}
use Rattle.perc_base.specs.declared.profile.Profile.{Profile}
use Rattle.perc_rtp.specs.Carried.{kind_of}
use Rattle.perc_rtp.specs.declared.carried.Carried.{Carried}
use Rattle.perc_rtp.specs.declared.carried.Carried.TheVariants as carried
use Rattle.perc_receiver.specs.Table.{Secret, secret_of}
use Rattle.perc_receiver.specs.Foreign.{is_foreign}
use Rattle.perc_script_line.specs.Script.{Deliver, Script, script_of}
use Rattle.perc_script_line.specs.declared.reason.Reason.TheVariants.{Datagram as NoDatagram, Name}
use Rattle.perc_run.specs.State.{Datagram, Member, State, Halts, Refused, datagram_at, last_line, member_named}
use Rattle.perc_run.specs.Delivering.{answer_line, by_cipher, deliver_turn, delivered, heard_turn}
use Rattle.perc_run.specs.Turn.{turn, turn_under}
use Rattle.perc_run.specs.Report.{Foreign, Run}
use Rattle.perc_headline.specs.Headline.{DeliversForeign, DeliversRtp, Turns}
use Rattle.perc_run.specs.Sound.{IsMember, KeysFit, core_of}
use Rattle.perc_headline.proofs.Lookups.{IsFound, found_by_name}
use Rattle.perc_headline.proofs.Facts.{Facts}
use Rattle.perc_headline.proofs.Genuine.{deliver_is}

-- ---- a foreign delivery halts

no_secret : (secrets : List Secret) (spi : ℕ) (s : Secret) → secrets ≡ [] → secret_of secrets spi ≡ Some s → ⊥
no_secret [] spi s e found = absurd (cc)
no_secret (t ∷ secrets) spi s e found = absurd (cc)

halts_under : (turns : Turns) (s : State) (number : ℕ) (name : List ℕ) (m : Member) (head : Option Profile) → s.profile ≡ head → IsFound s.members name m → Facts turns (core_of s)
    → deliver_turn by_cipher s number name ≡ Halts name → turn_under by_cipher s (Deliver number name) head ≡ Halts name
halts_under turns s number name m None e found f halts =
    let none : s.secrets ≡ [] = subst (λ (o : Option Profile). KeysFit o s.secrets) e f.sound.fits in
    let is : IsMember s.secrets s.table (length s.datagrams) m = All-contains (IsMember s.secrets s.table (length s.datagrams)) s.members m f.sound.members found.there in
    absurd (no_secret s.secrets m.endpoint.sending.secret.spi m.endpoint.sending.secret none is.secret)
halts_under turns s number name m (Some profile) e found f halts = halts

deliver_halts : (s : State) (number : ℕ) (name : List ℕ) (m : Member) (d : Datagram) → DeliversRtp s number name m d → m.name ≡ name
    → is_foreign s.table m.endpoint.receiving d.octets ≡ true → deliver_turn by_cipher s number name ≡ Halts name
deliver_halts s number name m d is name_is foreign =
    deliver_is by_cipher s number name m d is
    ∙ ap (λ (b : Bool). cond b (Halts m.name)
    (heard_turn s m (answer_line s.table number m.name (by_cipher s.table m.endpoint.receiving d.octets).0) (by_cipher s.table m.endpoint.receiving d.octets).1)) foreign
    ∙ ap Halts name_is

delivery_halts : (turns : Turns) (s : State) (name : List ℕ) → Facts turns (core_of s) → (number : ℕ) (m : Member) (d : Datagram) → DeliversRtp s number name m d
    → is_foreign s.table m.endpoint.receiving d.octets ≡ true → turn by_cipher s (Deliver number name) ≡ Halts name
unfolding turn
delivery_halts turns s name f number m d is foreign =
    let found = found_by_name s name m is.member in
    halts_under turns s number name m s.profile refl found f (deliver_halts s number name m d is found.name_is foreign)

-- At a foreign delivery a run halts.
pub foreign_halts : (turns : Turns) (s : State) (line : Script) (name : List ℕ) → Facts turns (core_of s) → DeliversForeign s line name → turn by_cipher s line ≡ Halts name
foreign_halts turns s line name f is = ap (turn by_cipher s) is.said ∙ delivery_halts turns s name f is.number is.member is.datagram is.delivers is.foreign

-- ---- and nothing else does

same_name : (a b : List ℕ) → Halts a ≡ Halts b → a ≡ b
same_name a b e = cc

halted_rtp : (s : State) (number : ℕ) (name who : List ℕ) (m : Member) (d : Datagram) (foreign : Bool) → DeliversRtp s number name m d → m.name ≡ name
    → is_foreign s.table m.endpoint.receiving d.octets ≡ foreign
    → cond foreign (Halts m.name)
    (heard_turn s m (answer_line s.table number m.name (by_cipher s.table m.endpoint.receiving d.octets).0) (by_cipher s.table m.endpoint.receiving d.octets).1) ≡ Halts who
    → DeliversForeign s (Deliver number name) who
halted_rtp s number name who m d false is name_is known e = absurd (cc)
halted_rtp s number name who m d true is name_is known e =
    let same : name ≡ who = sym name_is ∙ same_name m.name who e in record {
      number = number;
      said = ap (Deliver number) same;
      member = m;
      datagram = d;
      delivers = subst (λ (n : List ℕ). DeliversRtp s number n m d) same is;
      foreign = known;
    }

halted_kind : (s : State) (number : ℕ) (name who : List ℕ) (m : Member) (d : Datagram) (kind : Carried) → member_named name s ≡ Some m → datagram_at s.datagrams number ≡ Some d
    → kind_of d.octets ≡ kind → delivered by_cipher s number m d.octets kind ≡ Halts who → DeliversForeign s (Deliver number name) who
halted_kind s number name who m d carried.Dtls found at kind e = absurd (cc)
halted_kind s number name who m d carried.Other found at kind e = absurd (cc)
halted_kind s number name who m d carried.Rtcp found at kind e = absurd (cc)
halted_kind s number name who m d carried.Rtp found at kind e =
    halted_rtp s number name who m d (is_foreign s.table m.endpoint.receiving d.octets) (record { member = found; datagram = at; kind = kind }) (found_by_name s name m found).name_is refl e

halted_datagram : (s : State) (number : ℕ) (name who : List ℕ) (m : Member) (d : Option Datagram) → member_named name s ≡ Some m → datagram_at s.datagrams number ≡ d
    → option_map_or (λ x. delivered by_cipher s number m x.octets (kind_of x.octets)) d (Refused NoDatagram) ≡ Halts who → DeliversForeign s (Deliver number name) who
halted_datagram s number name who m None found at e = absurd (cc)
halted_datagram s number name who m (Some d) found at e = halted_kind s number name who m d (kind_of d.octets) found at refl e

halted_member : (s : State) (number : ℕ) (name who : List ℕ) (m : Option Member) → member_named name s ≡ m
    → option_map_or (λ x. option_map_or (λ y. delivered by_cipher s number x y.octets (kind_of y.octets)) (datagram_at s.datagrams number) (Refused NoDatagram)) m (Refused Name) ≡ Halts who
    → DeliversForeign s (Deliver number name) who
halted_member s number name who None found e = absurd (cc)
halted_member s number name who (Some m) found e = halted_datagram s number name who m (datagram_at s.datagrams number) found refl e

halted_deliver : (s : State) (number : ℕ) (name who : List ℕ) → deliver_turn by_cipher s number name ≡ Halts who → DeliversForeign s (Deliver number name) who
unfolding deliver_turn
halted_deliver s number name who e = halted_member s number name who (member_named name s) refl e

halted_under : (s : State) (number : ℕ) (name who : List ℕ) (head : Option Profile) → turn_under by_cipher s (Deliver number name) head ≡ Halts who
    → DeliversForeign s (Deliver number name) who
halted_under s number name who None e = absurd (cc)
halted_under s number name who (Some profile) e = halted_deliver s number name who e

-- A line that delivers something and halts delivers something foreign.
pub halted : (s : State) (number : ℕ) (name who : List ℕ) → turn by_cipher s (Deliver number name) ≡ Halts who → DeliversForeign s (Deliver number name) who
unfolding turn
halted s number name who e = halted_under s number name who s.profile e

-- ---- a run from a line on

-- The k-th of these lines, of which the first has this number, says this; it isn't too long, nor the one that none may pass.
pub record IsLineFrom (number : ℕ) (lines : List (List ℕ)) (k : ℕ) (line : Script) : Type 0 where
  pub octets : List ℕ
  pub there : slice_get lines k ≡ Some octets
  pub said : script_of octets ≡ Some line
  pub short : length octets ≤ longest
  pub room : number + k ≢ last_line

-- It ended at such a line, which delivers something foreign.
pub record EndedAt (number : ℕ) (lines : List (List ℕ)) (k : ℕ) (final : State) (last : ℕ) (name : List ℕ) : Type 0 where
  pub number_is : last ≡ number + k
  pub line : Script
  pub at : IsLineFrom number lines k line
  pub delivers : DeliversForeign final line name

-- A run over these lines ends as foreign exactly where the next line delivers something foreign in the state that it left.
pub record EndsSo (number : ℕ) (lines : List (List ℕ)) (final : State) (run : Run) : Type 0 where
  pub there : (line : Script) (name : List ℕ) → IsLineFrom number lines (length run.turns) line → DeliversForeign final line name
      → run.end ≡ Foreign (number + length run.turns) name
  pub nowhere_else : (last : ℕ) (name : List ℕ) → run.end ≡ Foreign last name → EndedAt number lines (length run.turns) final last name
