-- A member joins with new pairs: nothing that was sealed is under them.
use Rattle.std.proofs.Common.{◌≡◌, ℕ, ◌^◌, ◌<◌, inl, inr, Bool, true, false, cond, not, List, [], ◌∷◌, ◌++◌, length, Some, refl, sym, ap, ◌∙◌, subst, arith}
use Rattle.std.specs.List.{list_any, slice_get}
use Rattle.std.specs.Prelude.{◌≢◌, ◌||◌, ◌==◌, nat_le, All}
use Rattle.std.proofs.lemmas.Bool.{eqb-true, or_cases, or_parts}
use Rattle.std.proofs.lemmas.List.{length-map, map-append}
use Rattle.std.proofs.lemmas.List.Elements.{All-contains, All-cons, All-filter, All-nil, All-push, All-weaker, Contains-append_left}
use Rattle.std.proofs.lemmas.List.Quantifiers.{all_pairs_push}
use Rattle.perc_kdf.specs.Derivation.{KeyAndSalt, session_keys}
use Rattle.perc_kdf.specs.Order.{same_pair}
use Rattle.perc_kdf.specs.declared.Kind.TheVariants.{Srtp}
use Rattle.perc_kdf.proofs.OrderLaws.{same_pair-Decides}
use Rattle.perc_srtp.proofs.PacketLaws.{iv_injective}
use Rattle.perc_keyset.specs.Set.{absorbed, is_of, without}
use Rattle.perc_keyset.specs.declared.Entry.{Entry}
use Rattle.perc_keyset.specs.declared.Op.TheVariants.{Add}
use Rattle.perc_outgoing.specs.History.{Seal}
use Rattle.perc_distributor.specs.Inbound.{in_set}
use Rattle.perc_distributor.specs.Forwarding.{Sealing}
use Rattle.perc_run.specs.State.{Member, State}
use Rattle.perc_run.specs.Joining.{are_used, entry_of, has_pair}
use Rattle.perc_run.specs.Sound.{AreOthers}
use Rattle.perc_headline.proofs.Lookups.{at_end, at_longer, at_push}
use Rattle.perc_headline.proofs.Sound.{somebody_longer}
use Rattle.perc_headline.proofs.Clear.{AreApart, AreOtherPairs, HasOrigin, IsAhead, IsClear, IsEntryOf, IsKept, IsOfPair, IsSealer, Pair, Wire, less_in, pair_of, pairs_of, wire_of}

-- ---- new pairs

is_other : (p q : KeyAndSalt) → same_pair p q ≡ false → p ≢ q
is_other p q is same = let own = (same_pair-Decides p q).1 same in let bad : true ≡ false = sym own ∙ is in cc

unlike_all : (client server : KeyAndSalt) (members : List Member) → list_any (λ m. has_pair client m || has_pair server m) members ≡ false
    → All (λ a. AreOtherPairs a (client, server)) (pairs_of members)
unlike_all client server [] none = All-nil (λ a. AreOtherPairs a (client, server))
unlike_all client server (m ∷ members) none =
    let tests = or_parts (has_pair client m || has_pair server m) (list_any (λ x. has_pair client x || has_pair server x) members) none in
    let both = or_parts (has_pair client m) (has_pair server m) tests.0 in
    let one = or_parts (same_pair m.client client) (same_pair m.server client) both.0 in
    let two = or_parts (same_pair m.client server) (same_pair m.server server) both.1 in
    All-cons (λ a. AreOtherPairs a (client, server)) (pair_of m) (pairs_of members) (record {
      clients = is_other m.client client one.0;
      servers = is_other m.server server two.1;
      across = is_other m.client server two.0;
      back = is_other m.server client one.1;
    })
    (unlike_all client server members tests.1)

-- A newcomer has two pairs that nobody had, and a name and an SSRC of its own.
pub record IsNewcomer (s : State) (m : Member) : Type 0 where
  pub unused : are_used s m.client m.server ≡ false
  pub others : All (λ n. AreOthers n m) s.members
  pub client : m.endpoint.sending.client ≡ m.client
  pub ssrc : m.endpoint.sending.sending.ssrc ≡ m.ssrc
  pub fits : m.endpoint.sending.sending.ssrc < 2 ^ 32

pub record AreNew (pairs : List Pair) (pair : Pair) : Type 0 where
  pub own : pair.0 ≢ pair.1
  pub others : All (λ a. AreOtherPairs a pair) pairs

new_pairs : (s : State) (m : Member) → are_used s m.client m.server ≡ false → AreNew (pairs_of s.members) (pair_of m)
new_pairs s m unused =
    let tests = or_parts (same_pair m.client m.server) (list_any (λ n. has_pair m.client n || has_pair m.server n) s.members) unused in
    record { own = is_other m.client m.server tests.0; others = unlike_all m.client m.server s.members tests.1 }

apart_more : (pairs : List Pair) (pair : Pair) → AreApart pairs → AreNew pairs pair → AreApart (pairs ++ pair ∷ [])
apart_more pairs pair apart new = record {
  others = all_pairs_push AreOtherPairs pairs pair apart.others new.others;
  own = All-push (λ (a : Pair). a.0 ≢ a.1) pairs pair apart.own new.own;
}

-- Nothing that was sealed is under the new pairs.
not_client : (pairs : List Pair) (pair : Pair) (p : Seal) → AreNew pairs pair → IsOfPair pairs p → p.master ≢ pair.0
not_client pairs pair p new of same =
    let other = All-contains (λ a. AreOtherPairs a pair) pairs of.pair new.others of.there in
    elim of.is [
      | inl client ↦ other.clients (sym client ∙ same)
      | inr server ↦ other.back (sym server ∙ same)
    ]

not_server : (pairs : List Pair) (pair : Pair) (p : Seal) → AreNew pairs pair → IsOfPair pairs p → p.master ≢ pair.1
not_server pairs pair p new of same =
    let other = All-contains (λ a. AreOtherPairs a pair) pairs of.pair new.others of.there in
    elim of.is [
      | inl client ↦ other.across (sym client ∙ same)
      | inr server ↦ other.servers (sym server ∙ same)
    ]

-- ---- the newcomer

ahead_new : (s : State) (m : Member) (p : Seal) → IsNewcomer s m → AreNew (pairs_of s.members) (pair_of m) → HasOrigin s.members p → IsAhead m.endpoint.sending p
ahead_new s m p is new origin = record {
  inner = λ index few layer taken.
      let of = origin.sender layer in
      let one = iv_injective (session_keys p.master Srtp).salt of.ssrc m.endpoint.sending.sending.ssrc of.index index of.ssrc_fits is.fits of.index_fits few (sym of.taken ∙ taken) in
      let other = All-contains (λ n. AreOthers n m) s.members of.somebody.member is.others of.somebody.there in
      absurd (other.ssrc (sym of.somebody.is ∙ one.0 ∙ is.ssrc));
  outer = λ index few layer kind master taken. absurd (not_client (pairs_of s.members) (pair_of m) p new (origin.pair layer) (master ∙ is.client));
}

origin_more : (members : List Member) (m : Member) (p : Seal) → HasOrigin members p → HasOrigin (members ++ m ∷ []) p
origin_more members m p origin = record {
  sender = λ layer.
      let of = origin.sender layer in record {
        ssrc = of.ssrc;
        index = of.index;
        ssrc_fits = of.ssrc_fits;
        index_fits = of.index_fits;
        taken = of.taken;
        somebody = somebody_longer (λ n. of.ssrc ≡ n.ssrc) members m of.somebody;
      };
  pair = λ layer.
      let of = origin.pair layer in
      subst (λ (pairs : List Pair). IsOfPair pairs p) (sym (map-append pair_of members (m ∷ [])))
      (record { pair = of.pair; there = Contains-append_left (pairs_of members) (pair_of m ∷ []) of.pair of.there; is = of.is });
}

-- ---- the set

in_last : (set : List Entry) (e : Entry) (serial : ℕ) → in_set (set ++ e ∷ []) serial ≡ true → (serial ≡ e.serial → ⊥) → in_set set serial ≡ true
in_last [] e serial held other =
    elim (or_cases (e.serial == serial) false held) [
      | inl last ↦ absurd (other (sym (eqb-true e.serial serial last)))
      | inr none ↦ none
    ]
in_last (d ∷ set) e serial held other = at (d.serial == serial) held (λ more. in_last set e serial more other) where
  at : (b : Bool) → (b || in_set (set ++ e ∷ []) serial) ≡ true → (in_set (set ++ e ∷ []) serial ≡ true → in_set set serial ≡ true) → (b || in_set set serial) ≡ true
  at true held rest = refl
  at false held rest = rest held

-- what an add leaves
add_by : (set : List Entry) (e : Entry) (full : Bool) (serial : ℕ) → in_set (cond full set (without e.association set ++ e ∷ [])) serial ≡ true → (serial ≡ e.serial → ⊥)
    → in_set set serial ≡ true
add_by set e true serial held other = held
add_by set e false serial held other = less_in (λ d. not (is_of e.association d)) set serial (in_last (without e.association set) e serial held other)

added_in : (set : List Entry) (e : Entry) (serial : ℕ) → in_set (absorbed set (Add e)) serial ≡ true → (serial ≡ e.serial → ⊥) → in_set set serial ≡ true
unfolding absorbed
added_in set e serial held other = add_by set e (nat_le 64 (length (without e.association set))) serial held other

entries_by : (P : Entry → Type 0) (set : List Entry) (e : Entry) (full : Bool) → All P set → P e → All P (cond full set (without e.association set ++ e ∷ []))
entries_by P set e true all of = all
entries_by P set e false all of = All-push P (without e.association set) e (All-filter (λ d. not (is_of e.association d)) P set all) of

entries_added : (P : Entry → Type 0) (set : List Entry) (e : Entry) → All P set → P e → All P (absorbed set (Add e))
unfolding absorbed
entries_added P set e all of = entries_by P set e (nat_le 64 (length (without e.association set))) all of

kept_added : (pairs : List Pair) (pair : Pair) (set : List Entry) (sealing : List Sealing) (e : Entry) (members : List Member) (p : Seal) → pairs_of members ≡ pairs → e.serial ≡ length pairs
    → AreNew pairs pair → HasOrigin members p → IsKept pairs set sealing p → IsKept (pairs ++ pair ∷ []) (absorbed set (Add e)) sealing p
kept_added pairs pair set sealing e members p of serial_is new origin is = record {
  kept = λ serial ssrc index asked.
      elim (at_push pairs pair serial asked.pair asked.at) [
        | inl old ↦
            let below = old.0 in
            is.kept serial ssrc index (record {
              pair = asked.pair;
              at = old.1;
              layer = asked.layer;
              master = asked.master;
              held = added_in set e serial asked.held (λ same. omega arith);
              range = asked.range;
              taken = asked.taken;
            })
        | inr last ↦
            absurd (not_server pairs pair p new (subst (λ (x : List Pair). IsOfPair x p) of (origin.pair asked.layer)) (asked.master ∙ ap (λ (x : Pair). x.1) (sym last.1)))
      ];
}

-- ---- a member more

abbrev pub joined_wire : State → Member → Wire
joined_wire s m = record (wire_of s) { members = s.members ++ m ∷ []; set = absorbed s.set (Add (entry_of s m)) }

pub clear_joined : (s : State) (done : List Seal) (m : Member) → IsNewcomer s m → IsClear (wire_of s) done → IsClear (joined_wire s m) done
clear_joined s done m is clear =
    let pairs : List Pair = pairs_of s.members in
    let new : AreNew pairs (pair_of m) = new_pairs s m is.unused in
    let e : Entry = entry_of s m in
    let set : List Entry = absorbed s.set (Add e) in
    let more : pairs ++ pair_of m ∷ [] ≡ pairs_of (s.members ++ m ∷ []) = sym (map-append pair_of s.members (m ∷ [])) in
    let count : length pairs ≡ length s.members = length-map s.members pair_of in
    let last : slice_get (pairs ++ pair_of m ∷ []) e.serial ≡ Some (pair_of m) = ap (slice_get (pairs ++ pair_of m ∷ [])) (sym count) ∙ at_end pairs (pair_of m) in record {
      pairs = subst AreApart more (apart_more pairs (pair_of m) clear.pairs new);
      sealers = All-push (IsSealer done) s.members m clear.sealers (record {
        client = is.client;
        ahead = All-weaker (HasOrigin s.members) (IsAhead m.endpoint.sending) (λ p. ahead_new s m p is new) done clear.origins;
      });
      entries = subst (λ (x : List Pair). All (IsEntryOf x) set) more
          (entries_added (IsEntryOf (pairs ++ pair_of m ∷ [])) s.set e
          (All-weaker (IsEntryOf pairs) (IsEntryOf (pairs ++ pair_of m ∷ [])) (λ d at. at_longer pairs (pair_of m ∷ []) d.serial (d.client, d.server) at) s.set clear.entries) last);
      origins = All-weaker (HasOrigin s.members) (HasOrigin (s.members ++ m ∷ [])) (λ p. origin_more s.members m p) done clear.origins;
      kept = subst (λ (x : List Pair). All (IsKept x set s.sealing) done) more
          (λ k d within. kept_added pairs (pair_of m) s.set s.sealing e s.members _ refl (sym count) new (clear.origins k d within) (clear.kept k d within));
      fits = clear.fits;
      apart = clear.apart;
    }
