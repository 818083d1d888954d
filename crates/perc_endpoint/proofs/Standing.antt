-- What is kept stands for an endpoint.
use Rattle.std.proofs.Common.{◌≡◌, ℕ, ◌<◌, ◌≤◌, true, false, List, [], ◌∷◌, Option, Some, None, Result, Ok, Err, refl, sym, ap, ◌∙◌, subst, rules}
use Rattle.std.specs.Prelude.{MatchOption, MatchResult, OnErr, OnOk, map, nat_le}
use Rattle.perc_base.specs.Profile.{key_length}
use Rattle.perc_base.specs.declared.profile.Profile.{Profile}
use Rattle.perc_rtp.specs.Media.{Content}
use Rattle.perc_srtp.specs.declared.rtcp.RtcpFault.{RtcpFault}
use Rattle.perc_contexts.proofs.LiveLaws.{last_push}
use Rattle.perc_ekt.specs.declared.record.EktKeyRecord.{EktKeyRecord}
use Rattle.perc_contexts.specs.declared.SpiOld.{SpiOld as OldSpi}
use Rattle.perc_contexts.specs.Receiving.{latest, retired, spi_answer, still_live}
use Rattle.perc_sender.specs.Schedule.{take_answer}
use Rattle.perc_sender.specs.declared.TakeFault.{TakeFault}
use Rattle.perc_receiver.specs.Table.{Secret, secret_in}
use Rattle.perc_receiver.specs.declared.refusal.Refusal.{Refusal}
use Rattle.perc_receiver.specs.declared.refusal.Refusal.TheVariants.{Outer}
use Rattle.perc_receiver.specs.Receiver.{Accepted, OpenTry, Receiver, granted, judged_open, live_of, reach_of, settled}
use Rattle.perc_outer.specs.declared.fault.OuterFault.{OuterFault}
use Rattle.perc_outer.specs.declared.fault.OuterFault.TheVariants.{Ohb}
use Rattle.perc_ohb.specs.declared.block.OhbFault.{OhbFault}
use Rattle.perc_outer.specs.Datagram.{Blocked, Opened, Reach, Reached, Refused, original_header}
use Rattle.perc_incoming.specs.Outcome.{IsReachedAs, decision}
use Rattle.perc_incoming.proofs.Hearing.{outcome_decided, outcome_refused}
use Rattle.perc_receiver.proofs.Calling.{granted_live}
use Rattle.perc_outgoing.specs.Kept as outgoing
use Rattle.perc_outgoing.specs.Sending.{IsContent, Outgoing, after_take, send_fault}
use Rattle.perc_outgoing.specs.declared.fault.SendFault.{SendFault}
use Rattle.perc_outgoing.specs.declared.fault.RtcpSendFault.{RtcpSendFault}
use Rattle.perc_outgoing.specs.declared.sending.Sent.{Sent}
use Rattle.perc_outgoing.proofs.Rows.{right_row, right_wraps}
use Rattle.perc_incoming.specs.Control.{after_control}
use Rattle.perc_incoming.specs.Granting.{IsGranted as IsTaken}
use Rattle.perc_incoming.specs.Kept as incoming
use Rattle.perc_endpoint.specs.declared.fault.GrantFault.{GrantFault}
use Rattle.perc_endpoint.specs.declared.fault.GrantFault.TheVariants.{SpiOld}
use Rattle.perc_endpoint.specs.Endpoint.{Endpoint, after_grant, departing, departing_rtcp, grant_answer, new_spi, reached, received, row_added, settled as settled_as, taken_key, wraps_added}
use Rattle.perc_endpoint.specs.Kept.{HasSecret, IsAdded, IsDeparture, IsKept, Kept, StandsFor}

-- ---- the latest SPI

pub old_answer : (live : List ℕ) (spi last : ℕ) → latest live ≡ Some last → spi ≤ last → spi_answer live spi ≡ Err (record { 0 = last })
old_answer live spi last e below =
    let f : nat_le spi last ≡ true = search rules in
    rw (e, f) refl

pub new_answer : (live : List ℕ) (spi last : ℕ) → latest live ≡ Some last → last < spi → spi_answer live spi ≡ Ok (retired live)
new_answer live spi last e above =
    let f : nat_le spi last ≡ false = search rules in
    rw (e, f) refl

-- A secret that was granted has the latest SPI.
pub granted_latest : (records : List EktKeyRecord) (s : Secret) (r : Receiver) → map secret_in records ≡ (granted s r).secrets
    → latest (live_of (map secret_in records)) ≡ Some s.spi
granted_latest records s r is =
    ap (λ (l : List Secret). latest (live_of l)) is ∙ ap latest (granted_live s r) ∙ last_push None (still_live (live_of r.secrets)) s.spi

-- ---- a grant

module _ (e : Endpoint) (s : Secret) (key : List ℕ) where
  pub grant_old : (last : ℕ) → latest (live_of e.receiving.secrets) ≡ Some last → s.spi ≤ last → grant_answer e s key ≡ Err (SpiOld last)
  grant_old last is below =
      ap (λ (a : Result (Option ℕ) OldSpi). new_spi a (taken_key (take_answer e.sending.sending s.spi key))) (old_answer (live_of e.receiving.secrets) s.spi last is below)

  pub grant_new : (last : ℕ) → latest (live_of e.receiving.secrets) ≡ Some last → last < s.spi → (taken : Result ℕ TakeFault)
      → take_answer e.sending.sending s.spi key ≡ taken → grant_answer e s key ≡ taken_key taken
  grant_new last is above taken at =
      ap (λ (a : Result (Option ℕ) OldSpi). new_spi a (taken_key (take_answer e.sending.sending s.spi key))) (new_answer (live_of e.receiving.secrets) s.spi last is above)
      ∙ ap taken_key at

-- The latest SPI is the same for whatever endpoint is stood for.
pub latest_for : (kept : Kept) (e : Endpoint) (spi : ℕ) → StandsFor kept e → latest (live_of (map secret_in kept.receiving.records)) ≡ Some spi
    → latest (live_of e.receiving.secrets) ≡ Some spi
latest_for kept e spi stands is = ap (λ (l : List Secret). latest (live_of l)) (sym stands.receiving.secrets) ∙ is

-- ---- a start

pub started_kept : (o : outgoing.Kept) (i : incoming.Kept) (g : EktKeyRecord) (profile : Profile) (e : Endpoint) → o.granted ≡ g → g.len ≡ key_length profile
    → i.profile ≡ profile → e.profile ≡ profile → e.receiving.secrets ≡ secret_in g ∷ [] → outgoing.StandsFor o e.sending → incoming.StandsFor i e.receiving
    → IsKept (record { sending = o; receiving = i })
started_kept o i g profile e granted size its profile_is secrets sending receiving = record {
  size = ap (λ (r : EktKeyRecord). r.len) granted ∙ size ∙ ap key_length (sym its);
  newest = ap (λ (l : List Secret). latest (live_of l)) (receiving.secrets ∙ secrets) ∙ ap (λ (r : EktKeyRecord). Some r.spi) (sym granted);
  stands = (e, record { profile = its ∙ sym profile_is; sending = sending; receiving = receiving });
}

-- ---- one side changes

pub receiving_kept : (kept : Kept) (now : incoming.Kept) (r : Receiver) (i : IsKept kept) → now.profile ≡ kept.receiving.profile → incoming.StandsFor now r
    → r.secrets ≡ i.stands.0.receiving.secrets → IsKept (record kept { receiving = now })
receiving_kept kept now r i profile is same = record {
  size = i.size ∙ ap key_length (sym profile);
  newest = ap (λ (l : List Secret). latest (live_of l)) (is.secrets ∙ same ∙ sym i.stands.1.receiving.secrets) ∙ i.newest;
  stands = (record i.stands.0 { receiving = r }, record { profile = profile ∙ i.stands.1.profile; sending = i.stands.1.sending; receiving = is });
}

pub sending_kept : (kept : Kept) (now : outgoing.Kept) (o : Outgoing) (i : IsKept kept) → now.granted ≡ kept.sending.granted → outgoing.StandsFor now o
    → IsKept (record kept { sending = now })
sending_kept kept now o i granted is = record {
  size = ap (λ (r : EktKeyRecord). r.len) granted ∙ i.size;
  newest = i.newest ∙ ap (λ (r : EktKeyRecord). Some r.spi) (sym granted);
  stands = (record i.stands.0 { sending = o }, record { profile = i.stands.1.profile; sending = is; receiving = i.stands.1.receiving });
}

pub control_secrets : (r : Receiver) (opened : Result (ℕ × List ℕ) RtcpFault) → (after_control r opened).1.secrets ≡ r.secrets
control_secrets r (Ok o) = refl
control_secrets r (Err fault) = refl

-- ---- a grant is taken

-- The EKT key was taken on both sides.
pub granted_kept : (o : outgoing.Kept) (i : incoming.Kept) (g : EktKeyRecord) (profile : Profile) (e : Endpoint) (key : List ℕ) → o.granted ≡ g
    → g.len ≡ key_length profile → i.profile ≡ profile → e.profile ≡ profile → outgoing.StandsFor o (after_take e.sending (secret_in g) key)
    → incoming.StandsFor i (granted (secret_in g) e.receiving) → IsKept (record { sending = o; receiving = i })
granted_kept o i g profile e key granted_is size its profile_is sending receiving = record {
  size = ap (λ (r : EktKeyRecord). r.len) granted_is ∙ size ∙ ap key_length (sym its);
  newest = granted_latest i.records (secret_in g) e.receiving receiving.secrets ∙ ap (λ (r : EktKeyRecord). Some r.spi) (sym granted_is);
  stands = (
    record e { sending = after_take e.sending (secret_in g) key; receiving = granted (secret_in g) e.receiving },
    record { profile = its ∙ sym profile_is; sending = sending; receiving = receiving },
  );
}

pub receiver_granted : (r : Receiver) (g : EktKeyRecord) (last : ℕ) (result : Result (Unit {0}) OldSpi) (now : incoming.Kept)
    → latest (live_of r.secrets) ≡ Some last → last < g.spi → IsTaken (spi_answer (live_of r.secrets) g.spi) (secret_in g) r result now
    → incoming.StandsFor now (granted (secret_in g) r)
receiver_granted r g last result now is above taken =
    (subst (λ (a : Result (Option ℕ) OldSpi). IsTaken a (secret_in g) r result now) (new_answer (live_of r.secrets) g.spi last is above) taken).1

pub after_granted : (kept : Kept) (e : Endpoint) (s : Secret) (key : List ℕ) (epoch : ℕ) → grant_answer e s key ≡ Ok epoch
    → StandsFor kept (record e { sending = after_take e.sending s key; receiving = granted s e.receiving }) → StandsFor kept (after_grant e s key (grant_answer e s key))
after_granted kept e s key epoch is stands = subst (λ (a : Result ℕ GrantFault). StandsFor kept (after_grant e s key a)) (sym is) stands

-- ---- what is sent

-- What is answered for media where this is its fault.
abbrev pub IsAnswer : Outgoing → Content → Option SendFault → Result Sent SendFault → outgoing.Kept → List ℕ → Type 0
IsAnswer o content fault result new octets =
    MatchOption fault (MatchResult result (λ told. outgoing.IsSentAs o content told new octets) (λ _. ⊥)) (λ f. result ≡ Err f)

pub departure_is : (e : Endpoint) (content : Content) (fault : Option SendFault) (result : Result Sent SendFault) (new : outgoing.Kept) (octets : List ℕ)
    → IsAnswer e.sending content fault result new octets → IsDeparture (departing e content fault).0 result octets
departure_is e content None (Ok told) new octets is = record { index = is.index; spi = is.spi; epoch = is.epoch; datagram = is.datagram }
departure_is e content None (Err f) new octets is = absurd is
departure_is e content (Some fault) result new octets is = is

pub departure_stands : (e : Endpoint) (content : Content) (fault : Option SendFault) (result : Result Sent SendFault) (old new : outgoing.Kept) (octets : List ℕ)
    (Buffer : Type 0) → outgoing.StandsFor old e.sending → IsAnswer e.sending content fault result new octets → OnErr result (Buffer × (new ≡ old))
    → outgoing.StandsFor new (departing e content fault).1.sending
departure_stands e content None (Ok told) old new octets Buffer stands is refused = is.kept_is
departure_stands e content None (Err f) old new octets Buffer stands is refused = absurd is
departure_stands e content (Some fault) (Ok told) old new octets Buffer stands is refused = absurd (cc)
departure_stands e content (Some fault) (Err f) old new octets Buffer stands is refused =
    subst (λ (k : outgoing.Kept). outgoing.StandsFor k e.sending) (sym refused.1) stands

departed_profile : (e : Endpoint) (content : Content) (fault : Option SendFault) → e.profile ≡ (departing e content fault).1.profile
departed_profile e content None = refl
departed_profile e content (Some fault) = refl

departed_receiving : (e : Endpoint) (content : Content) (fault : Option SendFault) → e.receiving ≡ (departing e content fault).1.receiving
departed_receiving e content None = refl
departed_receiving e content (Some fault) = refl

pub departed_stands : (kept : Kept) (now : outgoing.Kept) (e : Endpoint) (content : Content) (fault : Option SendFault) → StandsFor kept e
    → outgoing.StandsFor now (departing e content fault).1.sending → StandsFor (record kept { sending = now }) (departing e content fault).1
departed_stands kept now e content fault stands is = record {
  profile = stands.profile ∙ departed_profile e content fault;
  sending = is;
  receiving = subst (incoming.StandsFor kept.receiving) (departed_receiving e content fault) stands.receiving;
}

on_ok : (result : Result Sent SendFault) (P : Type 0) → ((told : Sent) → result ≡ Ok told → P) → OnOk result P
on_ok (Ok told) P p = p told refl
on_ok (Err fault) P p = tt

unfaulted : (o : Outgoing) (content : Content) (fault : Option SendFault) (result : Result Sent SendFault) (new : outgoing.Kept) (octets : List ℕ) (told : Sent)
    → IsAnswer o content fault result new octets → result ≡ Ok told → fault ≡ None
unfaulted o content None result new octets told is ok = refl
unfaulted o content (Some f) result new octets told is ok = absurd (cc)

-- What is sent adds a right row and right wraps.
pub added : (old new : outgoing.Kept) (content : Content) (result : Result Sent SendFault) (octets : List ℕ) (Stands : Endpoint → Type 0)
    → ((e : Endpoint) → Stands e → outgoing.StandsFor old e.sending) → IsContent content
    → ((e : Endpoint) → Stands e → IsAnswer e.sending content (send_fault e.sending content) result new octets)
    → OnOk result
    ((e : Endpoint) (secrets : List Secret) (sender : List ℕ) (number : ℕ) → Stands e → HasSecret secrets e → IsAdded secrets (row_added sender number e content) (wraps_added e))
added old new content result octets Stands its content_is answers =
    on_ok result _
    (λ told ok e secrets sender number stands known.
    let none = unfaulted e.sending content (send_fault e.sending content) result new octets told (answers e stands) ok in
    let sound = (its e stands).sound in
    record { row_is = right_row secrets sender number e.sending content known sound content_is none; wraps_are = right_wraps secrets e.sending content known sound none })

-- The same of an RTCP packet.
pub rtcp_departure_stands : (e : Endpoint) (plain : List ℕ) (fault : Option RtcpSendFault) (result : Result ℕ RtcpSendFault) (old new : outgoing.Kept) (octets : List ℕ)
    (Buffer : Type 0) → outgoing.StandsFor old e.sending
    → MatchOption fault (MatchResult result (λ len. outgoing.IsRtcpSentAs e.sending plain len new octets) (λ _. ⊥)) (λ f. result ≡ Err f)
    → OnErr result (Buffer × (new ≡ old)) → outgoing.StandsFor new (departing_rtcp e plain fault).1.sending
rtcp_departure_stands e plain None (Ok len) old new octets Buffer stands is refused = is.kept_is
rtcp_departure_stands e plain None (Err f) old new octets Buffer stands is refused = absurd is
rtcp_departure_stands e plain (Some fault) (Ok len) old new octets Buffer stands is refused = absurd (cc)
rtcp_departure_stands e plain (Some fault) (Err f) old new octets Buffer stands is refused =
    subst (λ (k : outgoing.Kept). outgoing.StandsFor k e.sending) (sym refused.1) stands

-- ---- parts of what is received

pub settled_secrets : (r : Receiver) (answer : Result Accepted Refusal) → (settled r answer).secrets ≡ r.secrets
settled_secrets r (Ok a) = refl
settled_secrets r (Err e) = refl

pub reached_refused : (e : Endpoint) (datagram : List ℕ) (fault : OuterFault) → reach_of e.receiving datagram ≡ Refused fault
    → received e datagram ≡ (Err (Outer fault), reached e datagram)
reached_refused e datagram fault is =
    let refused : IsReachedAs (reach_of e.receiving datagram) (Err fault) [] = subst (λ (x : Reach). IsReachedAs x (Err fault) []) (sym is) refl in
    ap (λ (x : Result Accepted Refusal × Receiver). (x.0, record e { receiving = x.1 })) (outcome_refused e.receiving datagram fault [] refused)

pub reached_blocked : (e : Endpoint) (datagram : List ℕ) (ssrc index : ℕ) (fault : OhbFault) → reach_of e.receiving datagram ≡ Blocked ssrc index fault
    → received e datagram ≡ (Err (Outer (Ohb fault)), reached e datagram)
reached_blocked e datagram ssrc index fault is =
    let refused : IsReachedAs (reach_of e.receiving datagram) (Err (Ohb fault)) [] = subst (λ (x : Reach). IsReachedAs x (Err (Ohb fault)) []) (sym is) refl in
    ap (λ (x : Result Accepted Refusal × Receiver). (x.0, record e { receiving = x.1 })) (outcome_refused e.receiving datagram (Ohb fault) [] refused)

pub reached_decided : (e : Endpoint) (datagram : List ℕ) (o : Opened) (d : Result OpenTry Refusal) → reach_of e.receiving datagram ≡ Reached o
    → decision e.receiving.secrets e.receiving.contexts o ≡ d
    → received e datagram ≡ (judged_open (original_header o) d, settled_as (reached e datagram) (judged_open (original_header o) d))
reached_decided e datagram o d is decided =
    ap (λ (x : Result Accepted Refusal × Receiver). (x.0, record e { receiving = x.1 })) (outcome_decided e.receiving datagram o d is decided)
