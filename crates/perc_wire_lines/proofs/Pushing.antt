-- A datagram is put on the wire.
use Rattle.std.proofs.Common.{◌≡◌, ℕ, ◌+◌, ◌<◌, ◌≤◌, Bool, true, false, cond, List, [], ◌∷◌, ◌++◌, length, Ok, refl, ap, ◌∙◌, arith}
use Rattle.std.specs.Prelude.{◌||◌, nat_le, nat_lt}
use Rattle.std.proofs.lemmas.Bool.Decides.{nat_tests}
use Rattle.perc_member.specs.Each.{MirrorsDatagram}
use Rattle.perc_member.specs.declared.datagram.Datagram as code_datagram
use Rattle.perc_report_line.specs.Report.{Report, report_text}
use Rattle.perc_run.specs.Hostile.{added}
use Rattle.perc_run.specs.State.{Datagram, Goes, Refused, State, Turn}
use Rattle.perc_script_line.specs.declared.reason.Reason.TheVariants.{Limit}
use Rattle.perc_sent.proofs.Kept.{sent_longer}
use Rattle.perc_conference_state.specs.declared.conference.Conference as code
use Rattle.perc_conference_state.specs.declared.conference.Told.{Told}
use Rattle.perc_conference_state.specs.Mirror.{Does, Mirrors, told_of}
use Rattle.perc_conference_state.proofs.Changing.{distributor_moved, issued_moved}
use Rattle.perc_conference_state.proofs.Lists.{each_push}
use Rattle.perc_conference_state.proofs.Served.{keys_moved}
use Rattle.perc_conference_state.proofs.Turning.{does_goes}
use Rattle.perc_wire_lines.specs.Wires.{wire_line}
use Rattle.perc_wire_lines.specs.declared.putting.Wire.{Wire}
use Rattle.perc_wire_lines.specs.declared.putting.Wire.TheVariants as wire

-- ---- turns

refused_so : (a b : Bool) (why goes : Turn) → b ≡ true → cond (a || b) why goes ≡ why
refused_so true b why goes is = refl
refused_so false true why goes is = refl
refused_so false false why goes is = absurd (cc)

pub added_full : (s : State) (line : Report) (d : Datagram) → 131072 ≤ length s.datagrams → added s line d ≡ Refused Limit
added_full s line d full =
    let test : nat_le 131072 (length s.datagrams) ≡ true = grind (arith, nat_tests) in
    refused_so (nat_lt 1500 (length d.octets)) (nat_le 131072 (length s.datagrams)) (Refused Limit)
    (Goes (line ∷ []) (record s { datagrams = s.datagrams ++ d ∷ [] })) test

pub added_long : (s : State) (line : Report) (d : Datagram) → 1500 < length d.octets → added s line d ≡ Refused Limit
added_long s line d long =
    let test : nat_lt 1500 (length d.octets) ≡ true = grind (arith, nat_tests) in
    rw test refl

pub added_goes : (s : State) (line : Report) (d : Datagram) → length d.octets ≤ 1500 → length s.datagrams < 131072
    → added s line d ≡ Goes (line ∷ []) (record s { datagrams = s.datagrams ++ d ∷ [] })
added_goes s line d few room =
    let short : nat_lt 1500 (length d.octets) ≡ false = grind (arith, nat_tests) in
    let test : nat_le 131072 (length s.datagrams) ≡ false = grind (arith, nat_tests) in
    rw (short, test) refl

-- ---- what the code does

pub count_full : (c : code.Conference) (s : State) → Mirrors c s → true ≡ nat_le 131072 (length c.datagrams.items) → 131072 ≤ length s.datagrams
count_full c s mirrors full =
    let all : 131072 ≤ length c.datagrams.items = grind (arith, nat_tests) in
    omega (arith, all, mirrors.datagrams.count)

pub count_left : (c : code.Conference) (s : State) → Mirrors c s → false ≡ nat_le 131072 (length c.datagrams.items) → length s.datagrams < 131072
count_left c s mirrors left =
    let all : length c.datagrams.items < 131072 = grind (arith, nat_tests) in
    omega (arith, all, mirrors.datagrams.count)

-- It pushes a datagram, and leaves the rest.
pub record Pushes (c d : code.Conference) (g : code_datagram.Datagram) : Type 0 where
  pub profile : d.profile ≡ c.profile
  pub records : d.records ≡ c.records
  pub issued : d.issued ≡ c.issued
  pub members : d.members ≡ c.members
  pub distributor : d.distributor ≡ c.distributor
  pub keys : d.keys ≡ c.keys
  pub datagrams : d.datagrams.items ≡ c.datagrams.items ++ g ∷ []

mirrors_pushed : (c d : code.Conference) (s : State) (g : code_datagram.Datagram) (x : Datagram) → Mirrors c s → MirrorsDatagram g x → Pushes c d g
    → Mirrors d (record s { datagrams = s.datagrams ++ x ∷ [] })
mirrors_pushed c d s g x mirrors new pushes =
    let next : State = record s { datagrams = s.datagrams ++ x ∷ [] } in
    record {
      profile = pushes.profile ∙ mirrors.profile;
      issued = issued_moved c d s next pushes.issued refl refl mirrors.issued;
      members = rw pushes.members mirrors.members;
      distributor = rw pushes.distributor (distributor_moved c.distributor s next refl refl refl mirrors.distributor);
      keys = keys_moved c d s next pushes.keys (rw pushes.records refl) (rw pushes.members refl) refl refl mirrors.keys;
      datagrams = rw pushes.datagrams (each_push MirrorsDatagram c.datagrams.items s.datagrams g x mirrors.datagrams new);
      records = rw pushes.records mirrors.records;
      none = rw pushes.records mirrors.none;
      sent = rw pushes.members (sent_longer c.members.items s next (x ∷ []) refl refl mirrors.sent);
    }

-- the count of its line
abbrev one_wire : Told
one_wire = record { datagrams = 1; accepted = 0; refused = 0 }

told_wire : (w : Wire) (number : ℕ) (octets : List ℕ) → one_wire ≡ told_of (wire_line w number octets ∷ [])
told_wire (wire.Up name) number octets = refl
told_wire wire.Made number octets = refl
told_wire (wire.Reseal name) number octets = refl

pub puts : (c d : code.Conference) (s : State) (x : Datagram) (g : code_datagram.Datagram) (w : Wire) (number : ℕ) (before after : List ℕ) → Mirrors c s
    → MirrorsDatagram g x → length s.datagrams < 131072 → number ≡ length s.datagrams + 1 → after ≡ before ++ report_text (wire_line w number g.octets.items)
    → Pushes c d g → Does (added s (wire_line w (length s.datagrams + 1) x.octets) x) (Ok one_wire) before after d
puts c d s x g w number before after mirrors new room number_is text pushes =
    let line = wire_line w (length s.datagrams + 1) x.octets in
    does_goes (added s line x) line (record s { datagrams = s.datagrams ++ x ∷ [] }) one_wire before after d (added_goes s line x new.few room)
    (text ∙ ap (λ z. before ++ report_text z) (λ i. wire_line w (number_is i) (new.octets i))) (told_wire w (length s.datagrams + 1) x.octets)
    (mirrors_pushed c d s g x mirrors new pushes)
