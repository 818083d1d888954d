-- What a member hears: its receiver accepts each row once, and its accept lines tell of rows that it accepted.
use Rattle.std.proofs.Common.{◌≡◌, ℕ, suc, inl, inr, Bool, false, ◌&&◌, List, [], ◌∷◌, ◌++◌, Option, Some, Result, Ok, Err, refl, sym, ap, ◌∙◌, subst, arith}
use Rattle.std.specs.Prelude.{◌==◌, All, AllPairs, Contains}
use Rattle.std.specs.Option.{option_map_or}
use Rattle.std.proofs.lemmas.Bool.{and_from, and_parts, eq-eqb, eqb-true}
use Rattle.std.proofs.lemmas.List.Elements.{All-head, All-push, All-weaker}
use Rattle.perc_contexts.specs.Receiving.{spi_answer}
use Rattle.perc_contexts.specs.declared.SpiOld.{SpiOld}
use Rattle.perc_contexts.proofs.ReceivingLaws.{found_of}
use Rattle.perc_receiver.specs.declared.refusal.Refusal.{Refusal}
use Rattle.perc_receiver.specs.Table.{AreOtherRows, IsRight, IsSecret, Row, Secret, Table, secret_of}
use Rattle.perc_receiver.specs.Receiver.{Accepted, Receiver, granted, live_of, outcome, receiving}
use Rattle.perc_receiver.specs.Foreign.{is_foreign}
use Rattle.perc_receiver.specs.Calls.{AreOthers, IsRow, IsSent, after_grant, with_answer, with_grant}
use Rattle.perc_receiver.proofs.Once as receiver
use Rattle.perc_receiver.proofs.Once.{accepted_others, grant_sound, hear_sound, one_row, secret_more, sound_table, started_sound}
use Rattle.perc_receiver.proofs.Secrets.{some_found}
use Rattle.perc_report_line.specs.Report.{Acceptance}
use Rattle.perc_run.specs.State.{Member}
use Rattle.perc_run.specs.Delivering.{acceptance, row_at, with_receiver}
use Rattle.perc_headline.specs.Headline.{AreApart}
use Rattle.perc_run.specs.Sound.{AreOtherDatagrams}
use Rattle.perc_headline.proofs.Lookups.{one_or_two, two_places}
use Rattle.perc_headline.proofs.Secrets.{right_behind}

-- ---- what an accept line tells

-- The row of this datagram was accepted.
pub record WasAccepted (table : Table) (done : List Accepted) (sent : ℕ) : Type 0 where
  pub accepted : Accepted
  pub there : Contains done accepted
  pub row : Row
  pub in_table : Contains table.rows row
  pub is_row : IsRow row accepted
  pub number : sent ≡ row.datagram

abbrev pub IsToldOf : Table → List ℕ → List Accepted → Acceptance → Type 0
IsToldOf table name done a = a.name ≡ name → WasAccepted table done a.sent

-- The member's receiver was granted issued secrets, and did all of this; and accept lines of its name tell what it accepted.
pub record Hears (secrets : List Secret) (table : Table) (accepted : List Acceptance) (m : Member) : Type 0 where
  pub held : List Secret
  pub done : List Accepted
  pub issued : All (λ (s : Secret). secret_of secrets s.spi ≡ Some s) held
  pub sound : receiver.IsSound held table m.endpoint.receiving done
  pub told : All (IsToldOf table m.name done) accepted

-- ---- what keeps it

pub hears_issued : (secrets more : List Secret) (table : Table) (accepted : List Acceptance) (m : Member) → Hears secrets table accepted m
    → Hears (secrets ++ more) table accepted m
hears_issued secrets more table accepted m h = record {
  held = h.held;
  done = h.done;
  issued = All-weaker (λ (s : Secret). secret_of secrets s.spi ≡ Some s) (λ (s : Secret). secret_of (secrets ++ more) s.spi ≡ Some s)
      (λ s is. secret_more secrets more s.spi s is) h.held h.issued;
  sound = h.sound;
  told = h.told;
}

pub hears_table : (secrets : List Secret) (table next : Table) (accepted : List Acceptance) (m : Member)
    → ((row : Row) → Contains table.rows row → Contains next.rows row) → Hears secrets table accepted m → Hears secrets next accepted m
hears_table secrets table next accepted m stays h = record {
  held = h.held;
  done = h.done;
  issued = h.issued;
  sound = sound_table h.held table next m.endpoint.receiving h.done stays h.sound;
  told = All-weaker (IsToldOf table m.name h.done) (IsToldOf next m.name h.done) (λ a told same.
      let was = told same in
      record { accepted = was.accepted; there = was.there; row = was.row; in_table = stays was.row was.in_table; is_row = was.is_row; number = was.number })
      accepted h.told;
}

-- A member with the same name and receiver hears the same.
pub hears_same : (secrets : List Secret) (table : Table) (accepted : List Acceptance) (m n : Member) → n.name ≡ m.name → n.endpoint.receiving ≡ m.endpoint.receiving
    → Hears secrets table accepted m → Hears secrets table accepted n
hears_same secrets table accepted m n name receiving h = record {
  held = h.held;
  done = h.done;
  issued = h.issued;
  sound = subst (λ (r : Receiver). receiver.IsSound h.held table r h.done) (sym receiving) h.sound;
  told = subst (λ (of : List ℕ). All (IsToldOf table of h.done) accepted) (sym name) h.told;
}

-- An accept line of another name tells nothing of it.
pub hears_other : (secrets : List Secret) (table : Table) (accepted : List Acceptance) (m : Member) (a : Acceptance) → (a.name ≡ m.name → ⊥)
    → Hears secrets table accepted m → Hears secrets table (accepted ++ a ∷ []) m
hears_other secrets table accepted m a other h = record {
  held = h.held;
  done = h.done;
  issued = h.issued;
  sound = h.sound;
  told = All-push (IsToldOf table m.name h.done) accepted a h.told (λ same. absurd (other same));
}

granted_by : (table : Table) (r : Receiver) (s : Secret) (held : List Secret) (done : List Accepted) (answer : Result (Option ℕ) SpiOld) (retires : Option ℕ) → answer ≡ Ok retires
    → receiver.IsSound (with_grant s answer held) table (after_grant r s answer) done → receiver.IsSound (held ++ s ∷ []) table (granted s r) done
granted_by table r s held done (Ok old) retires e sound = sound
granted_by table r s held done (Err old) retires e sound = absurd (cc)

-- It is granted an issued secret.
pub hears_granted : (secrets : List Secret) (table : Table) (accepted : List Acceptance) (m n : Member) (s : Secret) (retires : Option ℕ) → IsSecret s → secret_of secrets s.spi ≡ Some s
    → spi_answer (live_of m.endpoint.receiving.secrets) s.spi ≡ Ok retires → n.name ≡ m.name → n.endpoint.receiving ≡ granted s m.endpoint.receiving
    → Hears secrets table accepted m → Hears secrets table accepted n
hears_granted secrets table accepted m n s retires right issued answer name is h =
    let r : Receiver = m.endpoint.receiving in
    let sound = granted_by table r s h.held h.done (spi_answer (live_of r.secrets) s.spi) retires answer (grant_sound h.held table r s h.done h.sound right) in record {
      held = h.held ++ s ∷ [];
      done = h.done;
      issued = All-push (λ (t : Secret). secret_of secrets t.spi ≡ Some t) h.held s h.issued issued;
      sound = subst (λ (x : Receiver). receiver.IsSound (h.held ++ s ∷ []) table x h.done) (sym is) sound;
      told = subst (λ (of : List ℕ). All (IsToldOf table of h.done) accepted) (sym name) h.told;
    }

-- ---- a datagram

-- What is heard is sound behind it.
heard_sound : (secrets : List Secret) (table : Table) (accepted : List Acceptance) (m : Member) (octets : List ℕ) (h : Hears secrets table accepted m) → IsRight secrets table
    → is_foreign table m.endpoint.receiving octets ≡ false
    → receiver.IsSound h.held table (outcome m.endpoint.receiving octets).1 (with_answer (outcome m.endpoint.receiving octets).0 h.done)
heard_sound secrets table accepted m octets h right known =
    hear_sound h.held secrets table m.endpoint.receiving octets h.done h.sound (right_behind secrets h.held table h.issued right) known

pub hears_refused : (secrets : List Secret) (table : Table) (accepted : List Acceptance) (m : Member) (octets : List ℕ) (e : Refusal) → IsRight secrets table
    → is_foreign table m.endpoint.receiving octets ≡ false → (outcome m.endpoint.receiving octets).0 ≡ Err e → Hears secrets table accepted m
    → Hears secrets table accepted (with_receiver (outcome m.endpoint.receiving octets).1 m)
hears_refused secrets table accepted m octets e right known answer h =
    let next : Receiver = (outcome m.endpoint.receiving octets).1 in record {
      held = h.held;
      done = h.done;
      issued = h.issued;
      sound = subst (λ (x : Result Accepted Refusal). receiver.IsSound h.held table next (with_answer x h.done)) answer (heard_sound secrets table accepted m octets h right known);
      told = h.told;
    }

-- The row of an SSRC and an index is found by them.
pub row_found : (table : Table) (row : Row) (ssrc index : ℕ) → AllPairs AreOtherRows table.rows → Contains table.rows row → ssrc ≡ row.ssrc → index ≡ row.index
    → row_at table ssrc index ≡ Some row
row_found table row ssrc index others there e f =
    let test : Row → Bool = λ (x : Row). x.ssrc == ssrc && x.index == index in
    let found = some_found test table.rows row there (and_from (row.ssrc == ssrc) (row.index == index) (eq-eqb row.ssrc ssrc (sym e)) (eq-eqb row.index index (sym f))) in
    let it = found_of test table.rows found.0 found.1 in
    let parts = and_parts (found.0.ssrc == ssrc) (found.0.index == index) it.1 in
    let same : found.0 ≡ row =
    one_row table.rows found.0 row others it.0 there (eqb-true found.0.ssrc ssrc parts.0 ∙ e) (eqb-true found.0.index index parts.1 ∙ f) in
    found.1 ∙ ap Some same

-- A packet was accepted: it is a row that is found, its member tells it, and no accept line before tells of that row.
pub record IsHeard (secrets : List Secret) (table : Table) (accepted : List Acceptance) (m n : Member) (number : ℕ) (x : Accepted) : Type 0 where
  pub row : Row
  pub there : Contains table.rows row
  pub found : row_at table x.attempt.context.ssrc x.attempt.index ≡ Some row
  pub is_row : IsRow row x
  pub hears : Hears secrets table (accepted ++ acceptance table number m.name x ∷ []) n
  pub apart : All (λ (a : Acceptance). AreApart a (acceptance table number m.name x)) accepted

sent_number : (table : Table) (number : ℕ) (name : List ℕ) (x : Accepted) (row : Row) → row_at table x.attempt.context.ssrc x.attempt.index ≡ Some row
    → (acceptance table number name x).sent ≡ row.datagram
sent_number table number name x row found = ap (λ (o : Option Row). option_map_or (λ (r : Row). r.datagram) o 0) found

again : (table : Table) (done : List Accepted) (x : Accepted) (row : Row) (sent : ℕ) → AllPairs AreOtherDatagrams table.rows → AllPairs AreOthers (x ∷ done)
    → Contains table.rows row → IsRow row x → sent ≡ row.datagram → WasAccepted table done sent → ⊥
again table done x row sent datagrams others there is number was =
    let y : Accepted = was.accepted in
    let apart : AreOthers x y = two_places AreOthers (x ∷ done) x y 0 (suc was.there.0) others (omega arith) (omega (arith, was.there.1)) refl was.there.2 in
    let same : was.row ≡ row =
    elim (one_or_two AreOtherDatagrams table.rows was.row row datagrams was.in_table there) [
      | inl one ↦ one
      | inr two ↦
          elim two [
            | inl before ↦ absurd (before (sym was.number ∙ number))
            | inr behind ↦ absurd (behind (sym number ∙ was.number))
          ]
    ] in
    apart (is.ssrc ∙ ap (λ (r : Row). r.ssrc) (sym same) ∙ sym was.is_row.ssrc) (is.index ∙ ap (λ (r : Row). r.index) (sym same) ∙ sym was.is_row.index)

pub heard_row : (secrets : List Secret) (table : Table) (accepted : List Acceptance) (m : Member) (octets : List ℕ) (number : ℕ) (x : Accepted) → IsRight secrets table
    → AllPairs AreOtherDatagrams table.rows → is_foreign table m.endpoint.receiving octets ≡ false → (outcome m.endpoint.receiving octets).0 ≡ Ok x
    → Hears secrets table accepted m → IsHeard secrets table accepted m (with_receiver (outcome m.endpoint.receiving octets).1 m) number x
heard_row secrets table accepted m octets number x right datagrams known answer h =
    let next : Receiver = (outcome m.endpoint.receiving octets).1 in
    let a : Acceptance = acceptance table number m.name x in
    let sound : receiver.IsSound h.held table next (x ∷ h.done) =
    subst (λ (r : Result Accepted Refusal). receiver.IsSound h.held table next (with_answer r h.done)) answer (heard_sound secrets table accepted m octets h right known) in
    let sent : IsSent table x = All-head (IsSent table) x h.done sound.sent in
    let row : Row = sent.0 in
    let is : IsRow row x = sent.2 in
    let found = row_found table row x.attempt.context.ssrc x.attempt.index right.one_row sent.1 is.ssrc is.index in
    let sent_is : a.sent ≡ row.datagram = sent_number table number m.name x row found in
    let others = accepted_others table (receiving next) (x ∷ h.done) right.one_row sound.consistent sound.sent in record {
      row = row;
      there = sent.1;
      found = found;
      is_row = is;
      hears = record {
        held = h.held;
        done = x ∷ h.done;
        issued = h.issued;
        sound = sound;
        told = All-push (IsToldOf table m.name (x ∷ h.done)) accepted a
            (All-weaker (IsToldOf table m.name h.done) (IsToldOf table m.name (x ∷ h.done)) (λ b told same.
            let was = told same in
            record { accepted = was.accepted; there = (suc was.there.0, omega (arith, was.there.1), was.there.2); row = was.row; in_table = was.in_table; is_row = was.is_row; number = was.number })
            accepted h.told)
            (λ same. record { accepted = x; there = (0, omega arith, refl); row = row; in_table = sent.1; is_row = is; number = sent_is });
      };
      apart = All-weaker (IsToldOf table m.name h.done) (λ (b : Acceptance). AreApart b a) (λ b told same_name same_sent.
          again table h.done x row b.sent datagrams others sent.1 is (same_sent ∙ sent_is) (told same_name)) accepted h.told;
    }
