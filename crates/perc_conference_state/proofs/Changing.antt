-- What mirrors a state, once a line changed a member, and left the rest.
use Rattle.std.proofs.Common.{◌≡◌, ℕ, ◌+◌, ◌-◌, ◌<◌, ◌≤◌, Bool, false, cond, List, [], ◌∷◌, ◌++◌, length, get_or, Option, Some, None, Ok, slice_get, slice_set, refl, sym, ap, ◌∙◌, subst, arith}
use Rattle.std.specs.List.{flat_map, last_or}
use Rattle.std.specs.Prelude.{◌==◌}
use Rattle.std.proofs.lemmas.Bool.Decides.{nat_tests}
use Rattle.std.proofs.lemmas.List.{map-append}
use Rattle.std.proofs.lemmas.Option.{slice_get_read, slice_get_within}
use Rattle.perc_endpoint.specs.Endpoint.{Endpoint}
use Rattle.perc_endpoint.specs.Kept as endpoint
use Rattle.perc_forwarder.specs.Mirror.{MirrorsDistributor}
use Rattle.perc_forwarder.specs.declared.distributor.Distributor as code_distributor
use Rattle.perc_keyset.specs.declared.Entry.{Entry}
use Rattle.perc_member.specs.Each.{MirrorsDatagram, MirrorsMember, taken_in}
use Rattle.perc_member.specs.declared.datagram.Datagram as code_datagram
use Rattle.perc_member.specs.declared.member.Member as code_member
use Rattle.perc_outgoing.specs.Sending.{after_take}
use Rattle.perc_receiver.specs.Table.{Secret}
use Rattle.perc_run.specs.Sound.{IsOrderly}
use Rattle.perc_run.specs.State.{Datagram, Member, State, datagram_at, member_named, with_member}
use Rattle.perc_sender.specs.Schedule.{Taken}
use Rattle.perc_sent.proofs.Finding.{at_within}
use Rattle.perc_sent.proofs.Kept.{KeepsSent, fresh, sent_kept, sent_moved}
use Rattle.perc_conference_state.specs.declared.conference.Conference as code
use Rattle.perc_conference_state.specs.Keys.{MirrorsKeys, pairs_of}
use Rattle.perc_conference_state.specs.Lookups.{IsDatagramPlace, IsPlaceOf}
use Rattle.perc_conference_state.specs.Mirror.{Mirrors, MirrorsIssued}
use Rattle.perc_conference_state.proofs.Lists.{each_set}
use Rattle.perc_conference_state.proofs.Places.{changed_at}
use Rattle.perc_conference_state.proofs.Served.{keys_moved, pairs_set}

-- ---- parts that a line leaves

pub distributor_moved : (c : code_distributor.Distributor) (s t : State) → t.set ≡ s.set → t.heard ≡ s.heard → t.sealing ≡ s.sealing
    → MirrorsDistributor c s → MirrorsDistributor c t
distributor_moved c s t set heard sealing h = record {
  set = h.set ∙ sym set;
  heard = rw heard h.heard;
  number = h.number;
  of = h.of;
  sealing = rw sealing h.sealing;
}

pub issued_moved : (c d : code.Conference) (s t : State) → d.issued ≡ c.issued → t.profile ≡ s.profile → t.secrets ≡ s.secrets
    → MirrorsIssued c s → MirrorsIssued d t
issued_moved c d s t issued profile secrets h = record {
  found = rw (issued, profile, secrets) h.found;
  none = rw (issued, profile) h.none;
}

-- What a line about a member leaves: all but the members and both distributors.
pub record Leaves (c d : code.Conference) : Type 0 where
  pub profile : d.profile ≡ c.profile
  pub records : d.records ≡ c.records
  pub issued : d.issued ≡ c.issued
  pub datagrams : d.datagrams ≡ c.datagrams

pub records_kept : (c d : code.Conference) → Leaves c d → d.records.items ≡ c.records.items
records_kept c d leaves = rw leaves.records refl

-- It writes a member back at its place.
pub record Writes (c d : code.Conference) (place : ℕ) (b : code_member.Member) : Type 0 where
  pub leaves : Leaves c d
  pub members : d.members.items ≡ slice_set c.members.items place b

-- The same, where the conference is told to be another.
pub writes_by : (c d e : code.Conference) (place : ℕ) (b : code_member.Member) → d ≡ e → Writes c e place b → Writes c d place b
writes_by c d e place b is writes = subst (λ (x : code.Conference). Writes c x place b) (sym is) writes

-- ---- places

pub place_within : (c : code.Conference) (s : State) (place : ℕ) (m : Member) → Mirrors c s → slice_get s.members place ≡ Some m → place < c.members.len
place_within c s place m mirrors at = omega (arith, slice_get_within s.members place m at, mirrors.members.count, c.members.ok.0)

-- where the member of a name stands, and what the code has there
pub record IsPlaced (c : code.Conference) (s : State) (name : List ℕ) (place : ℕ) (a : code_member.Member) : Type 0 where
  pub member : Member
  pub found : member_named name s ≡ Some member
  pub at : slice_get s.members place ≡ Some member
  pub code_at : slice_get c.members.items place ≡ Some a
  pub mirrors : MirrorsMember a member

pub placed : (c : code.Conference) (s : State) (name : List ℕ) (place : ℕ) (a : code_member.Member) → Mirrors c s → IsPlaceOf s name (Ok place)
    → a ≡ get_or c.members.items place a → IsPlaced c s name place a
placed c s name place a mirrors found read =
    let within = place_within c s place found.0 mirrors found.2 in
    let code_at = slice_get_read c.members.items c.members.len place a c.members.ok.0 within read in
    record { member = found.0; found = found.1; at = found.2; code_at = code_at; mirrors = mirrors.members.each place a found.0 code_at found.2 }

datagram_here : (datagrams : List Datagram) (number place : ℕ) (d : Datagram) → datagram_at datagrams number ≡ Some d → number ≡ place + 1 → slice_get datagrams place ≡ Some d
datagram_here datagrams number place d is at =
    let some : (number == 0) ≡ false = grind (arith, nat_tests) in
    let before : number - 1 ≡ place = omega arith in
    subst (λ (n : ℕ). slice_get datagrams n ≡ Some d) before (subst (λ (b : Bool). cond b None (slice_get datagrams (number - 1)) ≡ Some d) some is)

-- A datagram of the code at a place, as the state has it by its number.
pub record IsWire (c : code.Conference) (s : State) (number place : ℕ) : Type 0 where
  pub datagram : Datagram
  pub numbered : datagram_at s.datagrams number ≡ Some datagram
  pub within : place < c.datagrams.len
  pub few : length datagram.octets ≤ 1500
  pub mirrors : (x : code_datagram.Datagram) → x ≡ get_or c.datagrams.items place x → MirrorsDatagram x datagram

pub wire_at : (c : code.Conference) (s : State) (number place : ℕ) → Mirrors c s → IsDatagramPlace s number (Ok place) → IsWire c s number place
wire_at c s number place mirrors found =
    let at = datagram_here s.datagrams number place found.0 found.1 found.2 in
    let below = slice_get_within s.datagrams place found.0 at in
    let count = mirrors.datagrams.count in
    let len = c.datagrams.ok.0 in
    let within : place < c.datagrams.len = omega arith in
    let here = at_within c.datagrams.items place (omega arith) in
    record {
      datagram = found.0;
      numbered = found.1;
      within = within;
      few = (mirrors.datagrams.each place here.0 found.0 here.1 at).few;
      mirrors = λ x is. mirrors.datagrams.each place x found.0 (slice_get_read c.datagrams.items c.datagrams.len place x len within is) at;
    }

-- ---- a change at one member, which sent nothing by it

-- The key distributor stays, where the member that is written back has the pairs that it had.
pub keys_written : (c d : code.Conference) (s : State) (place : ℕ) (a b : code_member.Member) → Mirrors c s → slice_get c.members.items place ≡ Some a
    → pairs_of b ≡ pairs_of a → Writes c d place b → d.keys ≡ c.keys → MirrorsKeys d s s.profile d.keys
keys_written c d s place a b mirrors code_at pairs writes keys =
    keys_moved c d s s keys (records_kept c d writes.leaves)
    (ap (flat_map pairs_of) writes.members ∙ pairs_set c.members.items place a b code_at pairs) refl refl mirrors.keys

pub mirrors_changed_at : (c d : code.Conference) (s : State) (place : ℕ) (a b : code_member.Member) (m : Member) (change : Member → Member) (set : List Entry)
    → IsOrderly s → Mirrors c s → slice_get c.members.items place ≡ Some a → slice_get s.members place ≡ Some m → MirrorsMember b (change m) → KeepsSent a b
    → Writes c d place b → MirrorsDistributor d.distributor (record s { set = set }) → MirrorsKeys d (record s { set = set }) s.profile d.keys
    → Mirrors d (record s { members = with_member m.name change s.members; set = set })
mirrors_changed_at c d s place a b m change set orderly mirrors code_at at new keeps writes distributor keys =
    let leaves = writes.leaves in
    let next : State = record s { members = with_member m.name change s.members; set = set } in
    let kept = sent_kept c.members.items s place a b mirrors.sent code_at keeps in
    record {
      profile = leaves.profile ∙ mirrors.profile;
      issued = issued_moved c d s next leaves.issued refl refl mirrors.issued;
      members =
          rw (writes.members, changed_at change s.members place m orderly.sound.others at)
          (each_set MirrorsMember c.members.items s.members place b (change m) mirrors.members new);
      distributor = distributor_moved d.distributor (record s { set = set }) next refl refl refl distributor;
      keys = keys_moved d d (record s { set = set }) next refl refl refl refl refl keys;
      datagrams = rw leaves.datagrams mirrors.datagrams;
      records = rw leaves.records mirrors.records;
      none = rw leaves.records mirrors.none;
      sent = rw writes.members (sent_moved (slice_set c.members.items place b) s next refl refl kept);
    }

pub mirrors_changed : (c d : code.Conference) (s : State) (name : List ℕ) (place : ℕ) (a b : code_member.Member) (change : Member → Member) (set : List Entry)
    → IsOrderly s → Mirrors c s → (p : IsPlaced c s name place a) → MirrorsMember b (change p.member) → KeepsSent a b → Writes c d place b
    → MirrorsDistributor d.distributor (record s { set = set }) → MirrorsKeys d (record s { set = set }) s.profile d.keys
    → Mirrors d (record s { members = with_member p.member.name change s.members; set = set })
mirrors_changed c d s name place a b change set orderly mirrors p new keeps writes distributor keys =
    mirrors_changed_at c d s place a b p.member change set orderly mirrors p.code_at p.at new keeps writes distributor keys

-- ---- a member that takes a key

last_push : {A : Type 0} (o : Option A) (xs : List A) (x : A) → last_or o (xs ++ x ∷ []) ≡ Some x
last_push o [] x = refl
last_push o (y ∷ xs) x = last_push (Some y) xs x

-- what the code keeps of a member then, but for its endpoint
pub record TakesKey (a b : code_member.Member) (spi : ℕ) (key : List ℕ) : Type 0 where
  pub name : b.name ≡ a.name
  pub association : b.association ≡ a.association
  pub ssrc : b.ssrc ≡ a.ssrc
  pub client : b.client ≡ a.client
  pub server : b.server ≡ a.server
  pub opening : b.opening ≡ a.opening
  pub present : b.present ≡ a.present
  pub first : b.first ≡ a.first
  pub sends : b.sends.items ≡ a.sends.items
  pub keys : b.keys.items ≡ a.keys.items ++ fresh spi key ∷ []

pub mirrors_taken : (a b : code_member.Member) (m : Member) (e : Endpoint) (secret : Secret) (key : List ℕ) → MirrorsMember a m
    → e.sending ≡ after_take m.endpoint.sending secret key → endpoint.StandsFor b.endpoint e → TakesKey a b secret.spi key → MirrorsMember b (record m { endpoint = e })
mirrors_taken a b m e secret key h sending stands takes =
    let new = fresh secret.spi key in
    let taken : Taken = record { spi = secret.spi; key = key } in
    record {
      name = takes.name ∙ h.name;
      association = takes.association ∙ h.association;
      ssrc = takes.ssrc ∙ h.ssrc;
      client = takes.client ∙ h.client;
      server = takes.server ∙ h.server;
      endpoint = stands;
      opening_keys = rw takes.opening h.opening_keys;
      opening_next = rw (takes.opening, sending) h.opening_next;
      present = takes.present ∙ h.present;
      next = rw (takes.first, takes.sends, sending) h.next;
      keys = rw (takes.keys, sending) (map-append taken_in a.keys.items (new ∷ []) ∙ ap (λ ks. ks ++ taken ∷ []) h.keys);
      last = rw (takes.keys, last_push None a.keys.items new) tt;
      counted = rw (takes.keys, last_push None a.keys.items new, sending) refl;
    }

-- Its pairs stay.
pub pairs_taken : (a b : code_member.Member) (spi : ℕ) (key : List ℕ) → TakesKey a b spi key → pairs_of b ≡ pairs_of a
pairs_taken a b spi key takes = λ i. takes.client i ∷ takes.server i ∷ []
