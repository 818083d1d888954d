-- A conference stands for the state once a member holds another receiver.
use Rattle.std.proofs.Common.{◌≡◌, ℕ, ◌<◌, Bool, true, false, cond, List, [], ◌∷◌, get_or, slice_get, Some, refl, ap, ◌∙◌, subst}
use Rattle.std.proofs.lemmas.Option.{slice_get_read, slice_get_within}
use Rattle.std.specs.Vec.{with_item}
use Rattle.perc_conference_state.specs.Mirror.{IsRunning, Mirrors}
use Rattle.perc_conference_state.specs.declared.conference.Conference as code
use Rattle.perc_conference_state.proofs.Changing.{Writes, distributor_moved, keys_written, mirrors_changed_at}
use Rattle.perc_sent.proofs.Finding.{at_within}
use Rattle.perc_sent.proofs.Kept.{at_set}
use Rattle.perc_conference_state.proofs.Places.{changed_at}
use Rattle.perc_deliver_line.specs.Hearing.{StandsAt, heard_state}
use Rattle.perc_deliver_line.proofs.Receiving.{orderly_kept}
use Rattle.perc_endpoint.specs.Kept as endpoint
use Rattle.perc_member.specs.Each.{MirrorsMember}
use Rattle.perc_member.specs.declared.member.Member as code_member
use Rattle.perc_receiver.specs.Receiver.{Receiver}
use Rattle.perc_run.specs.Delivering.{with_receiver}
use Rattle.perc_run.specs.State.{Member, State, has_name, with_member}

member_held : (a : code_member.Member) (m : Member) (r : Receiver) (kept : endpoint.Kept) → endpoint.StandsFor kept (record m.endpoint { receiving = r }) → MirrorsMember a m
    → MirrorsMember (record a { endpoint = kept }) (with_receiver r m)
member_held a m r kept stands is = record {
  name = is.name;
  association = is.association;
  ssrc = is.ssrc;
  client = is.client;
  server = is.server;
  endpoint = stands;
  opening_keys = is.opening_keys;
  opening_next = is.opening_next;
  present = is.present;
  next = is.next;
  keys = is.keys;
  last = is.last;
  counted = is.counted;
}

-- the conference, whose member at a place has another endpoint
abbrev pub with_endpoint : code.Conference → ℕ → code_member.Member → endpoint.Kept → code.Conference
with_endpoint c k a kept = record c { members = with_item c.members k (record a { endpoint = kept }) }

-- ---- a place

-- The member of the code at a place stands for that of the state.
pub record IsMemberAt (c : code.Conference) (place : ℕ) (a : code_member.Member) (s : State) (m : Member) : Type 0 where
  pub code_at : slice_get c.members.items place ≡ Some a
  pub at : StandsAt c place s m
  pub stands : endpoint.StandsFor a.endpoint m.endpoint

pub code_at : (c : code.Conference) (place : ℕ) (a : code_member.Member) → place < c.members.len → a ≡ get_or c.members.items place a
    → slice_get c.members.items place ≡ Some a
code_at c place a within is = slice_get_read c.members.items c.members.len place a c.members.ok.0 within is

pub member_at : (c : code.Conference) (place : ℕ) (a : code_member.Member) (s : State) (m : Member) → place < c.members.len → a ≡ get_or c.members.items place a
    → StandsAt c place s m → IsMemberAt c place a s m
member_at c place a s m within is at =
    let there = code_at c place a within is in
    record { code_at = there; at = at; stands = (at.mirrors.members.each place a m there at.at).endpoint }

-- A running conference stands for some state, and the place is of some member.
pub somebody_at : (c : code.Conference) (place : ℕ) → IsRunning c → place < c.members.len → (s : State) × (m : Member) × StandsAt c place s m
somebody_at c place running within =
    let s : State = running.0 in
    let mirrors = running.2 in
    let some = at_within s.members place (subst (λ (n : ℕ). place < n) (c.members.ok.0 ∙ mirrors.members.count) within) in
    (s, some.0, record { orderly = running.1; mirrors = mirrors; at = some.1 })

-- ---- it holds another receiver

module _ (c : code.Conference) (place : ℕ) (a : code_member.Member) (s : State) (m : Member) (r : Receiver) (kept : endpoint.Kept) where
  pub mirrors_held : IsMemberAt c place a s m → endpoint.StandsFor kept (record m.endpoint { receiving = r }) → Mirrors (with_endpoint c place a kept) (heard_state s m r)
  mirrors_held here stands =
      let mirrors = here.at.mirrors in
      let d = with_endpoint c place a kept in
      let b : code_member.Member = record a { endpoint = kept } in
      let writes : Writes c d place b = record { leaves = record { profile = refl; records = refl; issued = refl; datagrams = refl }; members = refl } in
      mirrors_changed_at c d s place a b m (with_receiver r) s.set here.at.orderly mirrors here.code_at here.at.at
      (member_held a m r kept stands (mirrors.members.each place a m here.code_at here.at.at))
      (record { ssrc = refl; name = refl; first = refl; sends = refl; under = λ spi key index. refl; wrapped = λ spi key roc. refl })
      writes (distributor_moved c.distributor s (record s { set = s.set }) refl refl refl mirrors.distributor)
      (keys_written c d s place a b mirrors here.code_at refl writes refl)

  -- The member is at the place still.
  pub stands_held : IsMemberAt c place a s m → endpoint.StandsFor kept (record m.endpoint { receiving = r })
      → StandsAt (with_endpoint c place a kept) place (heard_state s m r) (with_receiver r m)
  stands_held here stands =
      let at = here.at.at in
      record {
        orderly = orderly_kept m.name r s here.at.orderly;
        mirrors = mirrors_held here stands;
        at = ap (λ (l : List Member). slice_get l place) (changed_at (with_receiver r) s.members place m here.at.orderly.sound.others at)
            ∙ at_set s.members place (with_receiver r m) (slice_get_within s.members place m at);
      }

-- Another receiver of the same member takes the place of the one before.
pub held_again : (s : State) (m : Member) (before after : Receiver) → heard_state (heard_state s m before) (with_receiver before m) after ≡ heard_state s m after
held_again s m before after = ap (λ (l : List Member). record s { members = l }) (all s.members) where
  one : (name : List ℕ) (x : Member) (b : Bool) → has_name name x ≡ b
      → cond (has_name name (cond b (with_receiver before x) x)) (with_receiver after (cond b (with_receiver before x) x)) (cond b (with_receiver before x) x)
      ≡ cond b (with_receiver after x) x
  one name x true is = ap (λ (b : Bool). cond b (with_receiver after x) (with_receiver before x)) is
  one name x false is = ap (λ (b : Bool). cond b (with_receiver after x) x) is

  all : (members : List Member) → with_member m.name (with_receiver after) (with_member m.name (with_receiver before) members) ≡ with_member m.name (with_receiver after) members
  all [] = refl
  all (x ∷ members) = let first = one m.name x (has_name m.name x) refl in let rest = all members in λ i. first i ∷ rest i
