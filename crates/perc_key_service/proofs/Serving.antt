-- A key distributor that serves a script serves it still.
use Rattle.std.specs.List.{flat_map, list_any, All}
use Rattle.std.specs.Prelude.{Option, Some, None, IfSome, OnErr, OnOk, Result, Ok, Err, filter, not, replicate}
use Rattle.std.proofs.Common.{◌≡◌, ℕ, ◌+◌, ◌*◌, ◌^◌, ◌<◌, ◌≤◌, ◌⊎◌, ◌||◌, Bool, true, false, cond, List, [], ◌∷◌, ◌++◌, length, inl, inr, refl, sym, ap, subst, ◌∙◌, arith}
use Rattle.std.proofs.lemmas.List.{length-append}
use Rattle.std.proofs.lemmas.List.Elements.{All-nil, All-cons, All-append}
use Rattle.perc_base.specs.Profile.{key_length}
use Rattle.perc_base.specs.declared.profile.Profile.{Profile}
use Rattle.perc_base.specs.declared.profile.Profile.TheVariants.{Aes128, Aes256}
use Rattle.perc_kdf.specs.Derivation.{KeyAndSalt}
use Rattle.perc_ekt.specs.Record.{IsRecord}
use Rattle.perc_ekt.specs.declared.record.EktKeyRecord.{EktKeyRecord}
use Rattle.perc_tunnel.specs.declared.message.MediaKeys.{MediaKeys}
use Rattle.perc_tunnel.specs.Decoding.{Decoding}
use Rattle.perc_tunnel.specs.Message.{spelling}
use Rattle.perc_keeper.specs.Lists.{Lists, is_member, is_of, newest, nothing, with_issued, with_member, without, without_member}
use Rattle.perc_keeper.proofs.KeptLaws.{newest_right}
use Rattle.perc_keydist.specs.declared.fault.KdFault.{KdFault}
use Rattle.perc_keydist.specs.declared.fault.KdFault.TheVariants as fault
use Rattle.perc_keydist.specs.Answers.{clear_answers}
use Rattle.perc_keydist.specs.Distributing.{Turn, next_spi, welcomed}
use Rattle.perc_keydist.specs.KeyDistributor.{KeyDistributor, anew, octets_taken}
use Rattle.perc_keydist.proofs.IssuingLaws.{stored_room, stored_zeros}
use Rattle.perc_key_service.specs.Hearing.{IsHeard, IsIdle}
use Rattle.perc_key_service.specs.Replies.{AreReplies}
use Rattle.perc_key_service.specs.Service.{MayIssue, MayJoin, issued_as, keys_as}
use Rattle.perc_key_service.specs.Serving.{IsServing, Serves, both, service_of}

few_of : (l : Lists) (k : KeyDistributor) → Serves l k → octets_taken k ≤ 2100000
few_of l k s = sum (octets_taken k) (length l.members) (length l.given) s.few s.bounded where
  sum : (t m g : ℕ) → t + 32 * m ≤ 64 + 32 * g → g ≤ 65537 → t ≤ 2100000
  sum t m g e f = omega arith

module _ (l : Lists) (k : KeyDistributor) (serving : IsServing k.fault l k) where
  pub is_idle : IsIdle k.fault k.decoding.held
  is_idle = by_fault k.fault serving where
    by_fault : (o : Option KdFault) → IsServing o l k → IsIdle o k.decoding.held
    by_fault None s = s.at_start
    by_fault (Some f) s = s.0

  pub is_few : octets_taken k ≤ 4194304
  is_few = by_fault k.fault serving where
    by_fault : (o : Option KdFault) → IsServing o l k → octets_taken k ≤ 4194304
    by_fault None s = let few = few_of l k s in omega (arith, few)
    by_fault (Some f) s = s.1

  pub leaves_room : octets_taken k + 32 < 2 ^ 64
  leaves_room = let few = is_few in omega (arith, few)

  pub serves : k.fault ≡ None → Serves l k
  serves ready = subst (λ (o : Option KdFault). IsServing o l k) ready serving

  -- where memory was out
  pub out_serves : (kept : Lists) (now : KeyDistributor) (n : ℕ) → now.fault ≡ Some fault.Memory → octets_taken now ≤ octets_taken k + n → n ≤ 32
      → IfSome k.fault (λ _. now ≡ k) → IsServing now.fault kept now
  out_serves kept now n is octets few stays = subst (λ (o : Option KdFault). IsServing o kept now) (sym is) (refl, by_fault k.fault serving stays) where
    by_fault : (o : Option KdFault) → IsServing o l k → IfSome o (λ _. now ≡ k) → octets_taken now ≤ 4194304
    by_fault None s same = let below = few_of l k s in omega (arith, below, octets, few)
    by_fault (Some f) s same = subst (λ (d : KeyDistributor). octets_taken d ≤ 4194304) (sym same) s.1

serves_now : (kept : Lists) (now : KeyDistributor) → now.fault ≡ None → Serves kept now → IsServing now.fault kept now
serves_now kept now is s = subst (λ (o : Option KdFault). IsServing o kept now) (sym is) s

-- ---- profiles were offered

pub offered_serves : (t : Turn) (k now : KeyDistributor) (kept : Lists) (out after : List ℕ) → IsHeard t k now kept out after → t.state.accepted ≡ Some both → t.state.lists ≡ nothing
    → octets_taken now ≤ 10 → IsServing now.fault kept now
offered_serves t k now kept out after h accepts lists octets =
    let empty : kept ≡ nothing = h.keeps ∙ lists in
    serves_now kept now h.no_fault (record {
      accepts = h.accepts ∙ accepts;
      at_start = h.at_start;
      few = subst (λ (l : Lists). octets_taken now + 32 * length l.members ≤ 64 + 32 * length l.given) (sym empty) (omega (arith, octets));
      bounded = subst (λ (l : Lists). length l.given ≤ 65537) (sym empty) (omega arith);
      right = subst (λ (l : Lists). All IsRecord l.issued) (sym empty) (All-nil IsRecord);
    })

-- ---- an association joined

pub joined_serves : (l : Lists) (t : Turn) (k now : KeyDistributor) (kept : Lists) (out after : List ℕ) (keys : MediaKeys) → Serves l k → IsHeard t k now kept out after
    → t.state.accepted ≡ Some both → t.state.lists ≡ with_member keys l → octets_taken now ≤ octets_taken k + 29 → length l.given < 65536 → IsServing now.fault kept now
joined_serves l t k now kept out after keys s h accepts lists octets fits =
    let is : kept ≡ with_member keys l = h.keeps ∙ lists in
    let members = length-append l.members (keys ∷ []) in
    let given = length-append l.given (keys.client ∷ keys.server ∷ []) in
    serves_now kept now h.no_fault (record {
      accepts = h.accepts ∙ accepts;
      at_start = h.at_start;
      few = subst (λ (l : Lists). octets_taken now + 32 * length l.members ≤ 64 + 32 * length l.given) (sym is)
          (sum (octets_taken now) (octets_taken k) (length l.members) (length l.given) (length (with_member keys l).members) (length (with_member keys l).given) octets s.few members given);
      bounded = subst (λ (l : Lists). length l.given ≤ 65537) (sym is) (omega (arith, given, fits));
      right = subst (λ (l : Lists). All IsRecord l.issued) (sym is) s.right;
    }) where
      sum : (n t m g m2 g2 : ℕ) → n ≤ t + 29 → t + 32 * m ≤ 64 + 32 * g → m2 ≡ m + 1 → g2 ≡ g + 2 → n + 32 * m2 ≤ 64 + 32 * g2
      sum n t m g m2 g2 e f i j = omega arith

-- the replies to it
pub replies_are : (l : Lists) (t : Turn) (k now : KeyDistributor) (kept : Lists) (out after : List ℕ) (association : List ℕ) (client server : KeyAndSalt) (granted : EktKeyRecord)
    → Serves l k → IsHeard t k now kept out after → MayJoin (service_of k l) association client server granted → length association ≡ 16 → length client.salt ≡ 12 → length server.salt ≡ 12
    → out ≡ [] → t.replies ≡ welcomed clear_answers (keys_as (service_of k l) association client server) granted
    → AreReplies k.profile (keys_as (service_of k l) association client server) granted after
replies_are l t k now kept out after association client server granted s h may size client_salt server_salt empty replies = record {
  profile_is = refl;
  association_size = size;
  client_size = may.client_size;
  client_salt = client_salt;
  server_size = may.server_size;
  server_salt = server_salt;
  right = subst (λ (o : Option EktKeyRecord). IfSome o IsRecord) may.newest_is (newest_right l.issued s.right);
  granted_size = may.granted_size;
  spelled = h.replied ∙ ap (λ (xs : List ℕ). xs ++ flat_map spelling t.replies) empty ∙ ap (flat_map spelling) replies;
}

-- ---- a member left

not_more : (members : List MediaKeys) (association : List ℕ) → length (without association members) ≤ length members
not_more [] association = omega arith
not_more (k ∷ members) association = by_test (is_of association k) (not_more members association) where
  by_test : (b : Bool) → length (without association members) ≤ length members
      → length (cond (not b) (k ∷ without association members) (without association members)) ≤ length (k ∷ members)
  by_test true later = omega (arith, later)
  by_test false later = omega (arith, later)

fewer : (members : List MediaKeys) (association : List ℕ) → is_member members association ≡ true → length (without association members) + 1 ≤ length members
fewer [] association member = absurd cc
fewer (k ∷ members) association member = by_test (is_of association k) member (not_more members association) (fewer members association) where
  by_test : (b : Bool) → (b || is_member members association) ≡ true → length (without association members) ≤ length members
      → (is_member members association ≡ true → length (without association members) + 1 ≤ length members)
      → length (cond (not b) (k ∷ without association members) (without association members)) + 1 ≤ length (k ∷ members)
  by_test true is most later = omega (arith, most)
  by_test false is most later = let one = later is in omega (arith, one)

pub left_serves : (l : Lists) (t : Turn) (k now : KeyDistributor) (kept : Lists) (out after association : List ℕ) → Serves l k → IsHeard t k now kept out after
    → t.state.accepted ≡ Some both → t.state.lists ≡ without_member association l → octets_taken now ≤ octets_taken k + 19 → is_member l.members association ≡ true → IsServing now.fault kept now
left_serves l t k now kept out after association s h accepts lists octets member =
    let is : kept ≡ without_member association l = h.keeps ∙ lists in
    serves_now kept now h.no_fault (record {
      accepts = h.accepts ∙ accepts;
      at_start = h.at_start;
      few = subst (λ (l : Lists). octets_taken now + 32 * length l.members ≤ 64 + 32 * length l.given) (sym is)
          (sum (octets_taken now) (octets_taken k) (length l.members) (length l.given) (length (without association l.members)) octets s.few (fewer l.members association member));
      bounded = subst (λ (l : Lists). length l.given ≤ 65537) (sym is) s.bounded;
      right = subst (λ (l : Lists). All IsRecord l.issued) (sym is) s.right;
    }) where
      sum : (n t m g m2 : ℕ) → n ≤ t + 19 → t + 32 * m ≤ 64 + 32 * g → m2 + 1 ≤ m → n + 32 * m2 ≤ 64 + 32 * g
      sum n t m g m2 e f h = omega arith

-- ---- a key was issued

issued_right : (k : KeyDistributor) (l : Lists) (key salt : List ℕ) → MayIssue (service_of k l) key → length salt ≡ 12 → IsRecord (issued_as (service_of k l) key salt)
issued_right k l key salt may size = record {
  size = sizes k.profile;
  room = stored_room k.profile key may.size;
  zeros = stored_zeros k.profile key may.size;
  salt = size;
  spi = let below = may.left in omega (arith, below);
  life = omega arith;
} where
  sizes : (p : Profile) → (key_length p ≡ 16) ⊎ (key_length p ≡ 32)
  sizes Aes128 = inl refl
  sizes Aes256 = inr refl

pub issued_serves : (l : Lists) (k now : KeyDistributor) (kept : Lists) (key salt : List ℕ) → Serves l k → MayIssue (service_of k l) key → length salt ≡ 12 → now.fault ≡ None
    → now.accepted ≡ k.accepted → now.decoding ≡ k.decoding → kept ≡ with_issued (issued_as (service_of k l) key salt) l → IsServing now.fault kept now
issued_serves l k now kept key salt s may size ready accepts decoding is = serves_now kept now ready (record {
  accepts = accepts ∙ s.accepts;
  at_start = ap (λ (d : Decoding). d.held) decoding ∙ s.at_start;
  few = subst (λ (l : Lists). octets_taken now + 32 * length l.members ≤ 64 + 32 * length l.given) (sym is)
      (subst (λ (d : Decoding). (d.given + length d.held) + 32 * length l.members ≤ 64 + 32 * length l.given) (sym decoding) s.few);
  bounded = subst (λ (l : Lists). length l.given ≤ 65537) (sym is) s.bounded;
  right = subst (λ (l : Lists). All IsRecord l.issued) (sym is)
      (All-append IsRecord l.issued (issued_as (service_of k l) key salt ∷ []) s.right
      (All-cons IsRecord (issued_as (service_of k l) key salt) [] (issued_right k l key salt may size) (All-nil IsRecord)));
})

-- ---- the calls, whatever they answer

-- what a turn leaves of profiles and lists
abbrev pub Leaves : Turn → Lists → Type 0
Leaves t l = (t.state.accepted ≡ Some both) × (t.state.lists ≡ l)

pub kept_is : {X E : Type 0} (result : Result X E) (k now : KeyDistributor) (t : Turn) (kept l : Lists) (out after : List ℕ) → OnOk result (IsHeard t k now kept out after)
    → (k.fault ≡ None → Leaves t l) → OnOk result (kept ≡ l)
kept_is (Ok x) k now t kept l out after heard leaves = heard.keeps ∙ (leaves heard.ready).1
kept_is (Err e) k now t kept l out after heard leaves = tt

pub let_go_serves : {X E : Type 0} (result : Result X E) (l : Lists) (k now : KeyDistributor) (t : Turn) (kept : Lists) (out after association : List ℕ) → IsServing k.fault l k
    → is_member l.members association ≡ true → OnOk result (IsHeard t k now kept out after) → OnErr result (now.fault ≡ Some fault.Memory) → octets_taken now ≤ octets_taken k + 19
    → IfSome k.fault (λ _. now ≡ k) → (k.fault ≡ None → Leaves t (without_member association l)) → IsServing now.fault kept now
let_go_serves (Ok x) l k now t kept out after association serving member heard refused octets stays leaves =
    left_serves l t k now kept out after association (serves l k serving heard.ready) heard (leaves heard.ready).0 (leaves heard.ready).1 octets member
let_go_serves (Err e) l k now t kept out after association serving member heard refused octets stays leaves =
    out_serves l k serving kept now 19 refused octets (omega arith) stays

pub offer_serves : {X E : Type 0} (result : Result X E) (p : Profile) (k now : KeyDistributor) (t : Turn) (kept : Lists) (out after : List ℕ) → k ≡ anew p
    → OnOk result (IsHeard t k now kept out after) → octets_taken now ≤ octets_taken k + 10 → Leaves t nothing → OnOk result (IsServing now.fault kept now)
offer_serves (Ok x) p k now t kept out after is heard octets leaves =
    offered_serves t k now kept out after heard leaves.0 leaves.1 (subst (λ (d : KeyDistributor). octets_taken now ≤ octets_taken d + 10) is octets)
offer_serves (Err e) p k now t kept out after is heard octets leaves = tt
