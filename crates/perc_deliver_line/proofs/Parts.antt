-- What a member makes of a datagram, part by part.
use Rattle.std.proofs.Common.{◌≡◌, ℕ, Bool, false, List, get_or, Some, slice_get, slice_set, Result, Ok, Err, refl, sym, ap, ◌∙◌, subst}
use Rattle.std.proofs.lemmas.List.{get_or-set_same}
use Rattle.std.specs.Prelude.{IfOk}
use Rattle.std.proofs.lemmas.Option.{same_Some, slice_get_within}
use Rattle.perc_conference_state.specs.Mirror.{Mirrors}
use Rattle.perc_conference_state.specs.declared.conference.Conference as code
use Rattle.perc_deliver_line.specs.Hearing.{Hears, IsHeardAs, Settles, StandsAt, heard_state}
use Rattle.perc_deliver_line.specs.declared.delivering.Heard.TheVariants as heard
use Rattle.perc_deliver_line.specs.declared.delivering.Heard.{Heard}
use Rattle.perc_deliver_line.proofs.Held.{IsMemberAt, held_again, stands_held, with_endpoint}
use Rattle.perc_sent.proofs.Kept.{at_set}
use Rattle.perc_endpoint.specs.Endpoint.{Endpoint, reached}
use Rattle.perc_endpoint.specs.Kept as endpoint
use Rattle.perc_incoming.proofs.Hearing.{outcome_decided, outcome_refused, reached_ok}
use Rattle.perc_incoming.proofs.Inquiring.{foreign_is}
use Rattle.perc_incoming.specs.Opening.{AreOpenKeys, IsInquiry, key_opens, open_tries, opens_unmade}
use Rattle.perc_incoming.specs.declared.inquiry.Inquiry.{Inquiry}
use Rattle.perc_incoming.specs.Outcome.{IsAnswered, IsDecision, IsReachedAs, IsTakenAs, IsTakenIn, IsToldOf, after_reach, decision, padding_answer}
use Rattle.perc_incoming.specs.declared.choosing.Decided.{Decided}
use Rattle.perc_incoming.proofs.Parts.{decision_err, decision_ok}
use Rattle.perc_incoming.specs.declared.settling.Accepted.{Accepted as TheAccepted}
use Rattle.perc_member.specs.declared.member.Member as code_member
use Rattle.perc_outer.specs.Datagram.{Blocked, Opened, Reach, Reached, Refused}
use Rattle.perc_outer.specs.declared.fault.OuterFault.{OuterFault}
use Rattle.perc_outer.specs.declared.reaching.Reached.{Reached as Told}
use Rattle.perc_receiver.specs.Foreign.{is_foreign, is_foreign_reach}
use Rattle.perc_receiver.specs.Receiver.{Accepted, OpenTry, Receiver, reach_of, receiving, settled}
use Rattle.perc_receiver.specs.Table.{Table}
use Rattle.perc_receiver.specs.declared.refusal.Refusal as inner
use Rattle.perc_report_line.specs.declared.reasons.Refusal.{Refusal as Why}
use Rattle.perc_run.specs.Delivering.{media_refusal, with_receiver}
use Rattle.perc_run.specs.Forwarding.{outer_refusal}
use Rattle.perc_run.specs.Sound.{IsOrderly}
use Rattle.perc_run.specs.State.{Member, State}
use Rattle.perc_sent.specs.Sent.{MirrorsTable}
use Rattle.perc_sent.specs.declared.table.Table as sent

-- ---- an answer

pub heard_ok : (answer : Result Accepted inner.Refusal) (told : TheAccepted) → IsAnswered answer (Ok told) → IsHeardAs answer (heard.Accepted told)
heard_ok (Ok a) told is = is
heard_ok (Err e) told is = absurd (cc)

pub heard_err : (answer : Result Accepted inner.Refusal) (e : inner.Refusal) (why : Why) → IsAnswered answer (Err e) → why ≡ media_refusal e
    → IsHeardAs answer (heard.Refused why)
heard_err (Ok a) e why is told = absurd is
heard_err (Err f) e why is told = let same : e ≡ f = cc in told ∙ ap media_refusal same

foreign_never : (answer : Result Accepted inner.Refusal) → IsHeardAs answer heard.Foreign → ⊥
foreign_never (Ok a) is = is
foreign_never (Err e) is = is

-- ---- hop by hop

foreign_refused : (table : Table) (r : Receiver) (reach : Reach) (fault : OuterFault) (octets : List ℕ) → IsReachedAs reach (Err fault) octets
    → is_foreign_reach table r reach ≡ false
foreign_refused table r (Refused f) fault octets is = refl
foreign_refused table r (Blocked ssrc index f) fault octets is = refl
foreign_refused table r (Reached o) fault octets is = absurd is

refused_known : (table : Table) (r : Receiver) (datagram : List ℕ) (fault : OuterFault) (octets : List ℕ) → IsReachedAs (reach_of r datagram) (Err fault) octets
    → is_foreign table r datagram ≡ false
unfolding is_foreign
refused_known table r datagram fault octets is = foreign_refused table r (reach_of r datagram) fault octets is

-- A reached datagram is foreign where something in it opens that nobody made.
pub foreign_unmade : (table : Table) (r : Receiver) (datagram : List ℕ) (o : Opened) → reach_of r datagram ≡ Reached o
    → is_foreign table r datagram ≡ opens_unmade table (after_reach r (reach_of r datagram)) o
unfolding is_foreign
foreign_unmade table r datagram o reach = ap (is_foreign_reach table r) reach ∙ foreign_is table r o

module _ (s : State) (m : Member) (octets : List ℕ) where
  abbrev its : Receiver
  its = m.endpoint.receiving

  -- its receiver once the datagram was opened hop by hop, or refused
  abbrev pub after : Receiver
  after = after_reach its (reach_of its octets)

  -- ---- what is heard

  pub hears_refused : (fault : OuterFault) (new : List ℕ) (why : Why) (c : code.Conference) → IsReachedAs (reach_of its octets) (Err fault) new → why ≡ outer_refusal fault
      → Mirrors c (heard_state s m after) → Hears s m octets (heard.Refused why) c
  hears_refused fault new why c is told mirrors =
      let o = outcome_refused its octets fault new is in (
        refused_known s.table its octets fault new is,
        subst (λ (x : Result Accepted inner.Refusal × Receiver). IsHeardAs x.0 (heard.Refused why)) (sym o) told,
        subst (λ (x : Result Accepted inner.Refusal × Receiver). Mirrors c (heard_state s m x.1)) (sym o) mirrors,
      )

  pub hears_undecided : (o : Opened) (e : inner.Refusal) (why : Why) (c : code.Conference) → reach_of its octets ≡ Reached o → decision its.secrets its.contexts o ≡ Err e
      → is_foreign s.table its octets ≡ false → why ≡ media_refusal e → Mirrors c (heard_state s m after) → Hears s m octets (heard.Refused why) c
  hears_undecided o e why c reach none known told mirrors =
      let is = outcome_decided its octets o (Err e) reach none in (
        known,
        subst (λ (x : Result Accepted inner.Refusal × Receiver). IsHeardAs x.0 (heard.Refused why)) (sym is) told,
        subst (λ (x : Result Accepted inner.Refusal × Receiver). Mirrors c (heard_state s m x.1)) (sym is) mirrors,
      )

  settles_held : (answer : Result Accepted inner.Refusal) (told : Heard) (c : code.Conference) → Settles (heard_state s m after) (with_receiver after m) answer told c
      → Mirrors c (heard_state s m (settled after answer))
  settles_held answer told c is = subst (λ (next : State). Mirrors c next) (held_again s m after (settled after answer)) is.mirrors

  pub hears_settled : (o : Opened) (t : OpenTry) (told : Heard) (c : code.Conference) → reach_of its octets ≡ Reached o → decision its.secrets its.contexts o ≡ Ok t
      → is_foreign s.table its octets ≡ false → Settles (heard_state s m after) (with_receiver after m) (padding_answer o t) told c → Hears s m octets told c
  hears_settled o t heard.Foreign c reach taken known is = absurd (foreign_never (padding_answer o t) is.heard_as)
  hears_settled o t (heard.Accepted a) c reach taken known is =
      let same = outcome_decided its octets o (Ok t) reach taken in (
        known,
        subst (λ (x : Result Accepted inner.Refusal × Receiver). IsHeardAs x.0 (heard.Accepted a)) (sym same) is.heard_as,
        subst (λ (x : Result Accepted inner.Refusal × Receiver). Mirrors c (heard_state s m x.1)) (sym same) (settles_held (padding_answer o t) (heard.Accepted a) c is),
      )
  hears_settled o t (heard.Refused why) c reach taken known is =
      let same = outcome_decided its octets o (Ok t) reach taken in (
        known,
        subst (λ (x : Result Accepted inner.Refusal × Receiver). IsHeardAs x.0 (heard.Refused why)) (sym same) is.heard_as,
        subst (λ (x : Result Accepted inner.Refusal × Receiver). Mirrors c (heard_state s m x.1)) (sym same) (settles_held (padding_answer o t) (heard.Refused why) c is),
      )

-- ---- once it was reached

-- A member opened a datagram hop by hop: this is told of it, the conference stands for the state then, and this was answered of all its
-- tries.
pub record IsAsked (s : State) (m : Member) (place : ℕ) (octets : List ℕ) (told : Told) (new : List ℕ) (c : code.Conference) (inquiry : Inquiry) (room : List ℕ) : Type 0 where
  pub datagram : Opened
  pub reach : reach_of m.endpoint.receiving octets ≡ Reached datagram
  pub is : IsToldOf datagram new told
  pub at : StandsAt c place (heard_state s m (after s m octets)) (with_receiver (after s m octets) m)
  pub answer : IsInquiry (after s m octets) datagram inquiry room

-- The endpoint that is asked is the one that opened the datagram.
pub asked_is : (members : List code_member.Member) (place : ℕ) (a b x : code_member.Member) → slice_get members place ≡ Some a
    → x ≡ get_or (slice_set members place b) place x → x ≡ b
asked_is members place a b x at is = is ∙ get_or-set_same members place b x (slice_get_within members place a at)

module _ (c : code.Conference) (place : ℕ) (a : code_member.Member) (s : State) (m : Member) (octets : List ℕ) (told : Told) (new : List ℕ) (kept : endpoint.Kept) where
  pub asked_here : (x : code_member.Member) (inquiry : Inquiry) (room : List ℕ) → IsMemberAt c place a s m → IsReachedAs (reach_of m.endpoint.receiving octets) (Ok told) new
      → endpoint.StandsFor kept (reached m.endpoint octets) → x ≡ get_or (slice_set c.members.items place (record a { endpoint = kept })) place x
      → ((e : Endpoint) (o : Opened) → endpoint.StandsFor x.endpoint e → IsToldOf o new told → IsInquiry e.receiving o inquiry room)
      → IsAsked s m place octets told new (with_endpoint c place a kept) inquiry room
  asked_here x inquiry room here is stands same answer =
      let k = reached_ok (reach_of m.endpoint.receiving octets) told new is in
      let one = asked_is c.members.items place a (record a { endpoint = kept }) x here.code_at same in
      let asked = subst (λ (y : code_member.Member). endpoint.StandsFor y.endpoint (reached m.endpoint octets)) (sym one) stands in
      record {
        datagram = k.0;
        reach = k.1;
        is = k.2;
        at = stands_held c place a s m (after s m octets) kept here stands;
        answer = answer (reached m.endpoint octets) k.0 asked k.2;
      }

-- ---- what is told of it

module _ (s : State) (m : Member) (place : ℕ) (octets : List ℕ) (told : Told) (new : List ℕ) (c : code.Conference) (inquiry : Inquiry) (room : List ℕ) where
  -- The table tells whether it is foreign.
  pub foreign_told : (table : sent.Table) (foreign : Bool) → IsAsked s m place octets told new c inquiry room → ((t : State) → IsOrderly t → Mirrors c t → MirrorsTable table t)
      → ((t : State) (r : Receiver) (o : Opened) → MirrorsTable table t → IsToldOf o new told → inquiry.ssrc ≡ o.header.ssrc
      → inquiry.key_opens ≡ key_opens r.secrets o.field → AreOpenKeys (open_tries r o) inquiry.open_keys.items → foreign ≡ opens_unmade t.table r o)
      → is_foreign s.table m.endpoint.receiving octets ≡ foreign
  foreign_told table foreign it mirrors says =
      let r : Receiver = after s m octets in
      let next : State = heard_state s m r in
      let known = says next r it.datagram (mirrors next it.at.orderly it.at.mirrors) it.is it.answer.ssrc it.answer.key_opens_is it.answer.open_keys in
      foreign_unmade s.table m.endpoint.receiving octets it.datagram it.reach ∙ sym known

  -- what was decided
  decided_is : (d : Result Decided inner.Refusal) (it : IsAsked s m place octets told new c inquiry room) → inquiry.decision ≡ d
      → IsDecision (receiving (after s m octets)) it.datagram.header.ssrc (decision (after s m octets).secrets (after s m octets).contexts it.datagram) d room
  decided_is d it is =
      let r : Receiver = after s m octets in
      subst (λ (x : Result Decided inner.Refusal). IsDecision (receiving r) it.datagram.header.ssrc (decision r.secrets r.contexts it.datagram) x room) is
      it.answer.decision_is

  pub decided_ok : (d : Decided) (it : IsAsked s m place octets told new c inquiry room) → inquiry.decision ≡ Ok d
      → (t : OpenTry) × (decision (after s m octets).secrets (after s m octets).contexts it.datagram ≡ Ok t)
      × IsTakenAs (receiving (after s m octets)) it.datagram.header.ssrc t d room
  decided_ok d it is =
      let r : Receiver = after s m octets in
      decision_ok (receiving r) it.datagram.header.ssrc (decision r.secrets r.contexts it.datagram) d room (decided_is (Ok d) it is)

  pub decided_err : (e : inner.Refusal) (it : IsAsked s m place octets told new c inquiry room) → inquiry.decision ≡ Err e
      → decision (after s m octets).secrets (after s m octets).contexts it.datagram ≡ Err e
  decided_err e it is =
      let r : Receiver = after s m octets in
      decision_err (receiving r) it.datagram.header.ssrc (decision r.secrets r.contexts it.datagram) e room (decided_is (Err e) it is)

-- A try that was taken in the endpoint that was asked was taken in the member at the place.
pub taken_here : (members : List code_member.Member) (place : ℕ) (a b x y : code_member.Member) (octets : List ℕ) (told : Told) (decision : Result Decided inner.Refusal)
    (d : Decided) (room : List ℕ) → slice_get members place ≡ Some a → x ≡ get_or (slice_set members place b) place x → slice_get (slice_set members place b) place ≡ Some y
    → decision ≡ Ok d → IfOk decision (λ (d : Decided). IsTakenIn x.endpoint.receiving octets told d room) → IsTakenIn y.endpoint.receiving octets told d room
taken_here members place a b x y octets told decision d room at is there ok taken =
    let same : x ≡ y =
    asked_is members place a b x at is ∙ same_Some b y (sym (at_set members place b (slice_get_within members place a at)) ∙ there) in
    subst (λ (z : code_member.Member). IsTakenIn z.endpoint.receiving octets told d room) same
    (subst (λ (r : Result Decided inner.Refusal). IfOk r (λ (d : Decided). IsTakenIn x.endpoint.receiving octets told d room)) ok taken)
