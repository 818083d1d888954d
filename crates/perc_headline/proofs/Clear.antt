-- What is kept of each packet that was sealed, so that none is sealed like it again; and that members' changes keep it.
use Rattle.std.proofs.Common.{◌≡◌, ℕ, ◌^◌, ◌<◌, ◌≤◌, ◌⊎◌, inl, inr, Bool, true, false, cond, List, [], ◌∷◌, ◌++◌, length, map, get_or, Some, refl, sym, ap, ◌∙◌, subst, append_assoc, arith}
use Rattle.std.specs.List.{slice_get}
use Rattle.std.specs.Prelude.{◌≢◌, ◌||◌, ◌==◌, All, AllPairs, Contains, filter}
use Rattle.std.proofs.lemmas.Bool.{cases_order}
use Rattle.std.proofs.lemmas.List.{append-nil, get_or-map, length-map}
use Rattle.std.proofs.lemmas.List.Elements.{All-append, All-contains, All-contains_itself, All-cons, All-filter, All-map, All-nil, All-push, All-weaker}
use Rattle.std.proofs.lemmas.List.Quantifiers.{all_pairs_push}
use Rattle.perc_kdf.specs.Derivation.{KeyAndSalt, session_keys}
use Rattle.perc_kdf.specs.declared.Kind.TheVariants.{Srtp}
use Rattle.perc_window.specs.Replay.{greatest}
use Rattle.perc_srtp.specs.Sealed.{iv}
use Rattle.perc_srtp.proofs.PacketLaws.{iv_injective}
use Rattle.perc_keyset.specs.declared.Entry.{Entry}
use Rattle.perc_outgoing.specs.Sending.{Outgoing, after_send, outer_index}
use Rattle.perc_outgoing.specs.History.{AreOtherSeals, EndToEnd, HopByHop, Seal, inner_seal, outer_seal}
use Rattle.perc_outgoing.proofs.Nonces.{GoesOn}
use Rattle.perc_outgoing.proofs.Standing.{IsFree}
use Rattle.perc_distributor.specs.Inbound.{in_set}
use Rattle.perc_distributor.specs.Forwarding.{Sealing, sealing_of}
use Rattle.perc_run.specs.State.{Datagram, Member, State, has_name, with_member}
use Rattle.perc_run.specs.Sending.{with_send}
use Rattle.perc_headline.specs.Nonces.{iv_of}
use Rattle.perc_run.specs.Sound.{AreOthers, IsMember, IsSomebody, IsSound, core_of}
use Rattle.perc_headline.proofs.Lookups.{Keeps, changed, changed_all, contains_at, contains_map, one_or_two, place_of, somebody_changed, two_places}
use Rattle.perc_headline.proofs.Sealing.{InRange, IsRecorded}
use Rattle.perc_headline.proofs.Fitting.{Fits}

-- ---- the outer pairs

abbrev pub Pair : Type 0
Pair = KeyAndSalt × KeyAndSalt

-- each member's client and server pair, in the order of joining
abbrev pub pair_of : Member → Pair
pair_of m = (m.client, m.server)

abbrev pub pairs_of : List Member → List Pair
pairs_of members = map pair_of members

pub record AreOtherPairs (a b : Pair) : Type 0 where
  pub clients : a.0 ≢ b.0
  pub servers : a.1 ≢ b.1
  pub across : a.0 ≢ b.1
  pub back : a.1 ≢ b.0

-- No two are one: of two members, or of one.
pub record AreApart (pairs : List Pair) : Type 0 where
  pub others : AllPairs AreOtherPairs pairs
  pub own : All (λ (a : Pair). a.0 ≢ a.1) pairs

-- One server pair stands in one place.
pub one_position : (pairs : List Pair) (a b : Pair) (i j : ℕ) → AreApart pairs → slice_get pairs i ≡ Some a → slice_get pairs j ≡ Some b → a.1 ≡ b.1 → i ≡ j
one_position pairs a b i j apart at_i at_j same =
    let p = place_of pairs i a at_i in
    let q = place_of pairs j b at_j in
    elim (cases_order i j) [
      | inl is ↦ is
      | inr other ↦
          elim other [
            | inl before ↦ let two = two_places AreOtherPairs pairs a b i j apart.others before q.0 p.1 q.1 in absurd (two.servers same)
            | inr behind ↦ let two = two_places AreOtherPairs pairs b a j i apart.others behind p.0 q.1 p.1 in absurd (two.servers (sym same))
          ]
    ]

-- No client pair is a server pair.
pub sides : (pairs : List Pair) (a b : Pair) → AreApart pairs → Contains pairs a → Contains pairs b → a.0 ≡ b.1 → ⊥
sides pairs a b apart in_a in_b same =
    elim (one_or_two AreOtherPairs pairs a b apart.others in_a in_b) [
      | inl one ↦ All-contains (λ (x : Pair). x.0 ≢ x.1) pairs a apart.own in_a (same ∙ ap (λ (x : Pair). x.1) (sym one))
      | inr two ↦
          elim two [
            | inl before ↦ before.across same
            | inr behind ↦ behind.back (sym same)
          ]
    ]

all_pairs_map : {X Y : Type 0} (f : X → Y) (R : Y → Y → Type 0) (xs : List X) → AllPairs R (map f xs) → AllPairs (λ a b. R (f a) (f b)) xs
all_pairs_map {X} {Y} f R xs all i j d below within =
    let first : i < length xs = omega arith in
    let one = get_or-map f xs i d (f d) first in
    let two = get_or-map f xs j d (f d) within in
    let it = all i j (f d) below (subst (λ (n : ℕ). j < n) (sym (length-map xs f)) within) in
    subst (λ (x : Y). R x (f (get_or xs j d))) one (subst (λ (y : Y). R (get_or (map f xs) i (f d)) y) two it)

-- Two members have two client pairs.
pub clients_differ : (members : List Member) (m n : Member) → AreApart (pairs_of members) → Contains members m → Contains members n → AreOthers m n → m.client ≡ n.client → ⊥
clients_differ members m n apart in_m in_n others same =
    elim (one_or_two (λ (a b : Member). AreOtherPairs (pair_of a) (pair_of b)) members m n (all_pairs_map pair_of AreOtherPairs members apart.others) in_m in_n) [
      | inl one ↦ others.name (ap (λ (x : Member). x.name) one)
      | inr two ↦
          elim two [
            | inl before ↦ before.clients same
            | inr behind ↦ behind.clients (sym same)
          ]
    ]

-- ---- what is kept of a seal

-- An outer index isn't above the greatest.
pub record IsBelowOuter (o : Outgoing) (index : ℕ) : Type 0 where
  pub high : ℕ
  pub highest : greatest o.sealed ≡ Some high
  pub below : index ≤ high

-- What an endpoint sends next isn't sealed so: its indices are past those with this IV.
pub record IsAhead (o : Outgoing) (p : Seal) : Type 0 where
  pub inner : (index : ℕ) → index < 2 ^ 48 → p.layer ≡ EndToEnd → p.iv_is ≡ iv (session_keys p.master Srtp).salt o.sending.ssrc index → index < o.sending.next
  pub outer : (index : ℕ) → index < 2 ^ 48 → p.layer ≡ HopByHop → p.kind ≡ Srtp → p.master ≡ o.client → p.iv_is ≡ iv (session_keys p.master Srtp).salt o.sending.ssrc index
      → IsBelowOuter o index

-- A member sends under its client pair, and is ahead of all that was sealed.
pub record IsSealer (done : List Seal) (m : Member) : Type 0 where
  pub client : m.endpoint.sending.client ≡ m.client
  pub ahead : All (IsAhead m.endpoint.sending) done

-- The IV is that of an SSRC that somebody has.
pub record IsOfSender (members : List Member) (p : Seal) : Type 0 where
  pub ssrc : ℕ
  pub index : ℕ
  pub ssrc_fits : ssrc < 2 ^ 32
  pub index_fits : index < 2 ^ 48
  pub taken : p.iv_is ≡ iv (session_keys p.master Srtp).salt ssrc index
  pub somebody : IsSomebody members (λ m. ssrc ≡ m.ssrc)

-- The master is somebody's.
pub record IsOfPair (pairs : List Pair) (p : Seal) : Type 0 where
  pub pair : Pair
  pub there : Contains pairs pair
  pub is : (p.master ≡ pair.0) ⊎ (p.master ≡ pair.1)

pub record HasOrigin (members : List Member) (p : Seal) : Type 0 where
  pub sender : p.layer ≡ EndToEnd → IsOfSender members p
  pub pair : p.layer ≡ HopByHop → IsOfPair (pairs_of members) p

-- It was sealed under the server pair of a serial that is in the set, for this SSRC and index.
pub record IsSealedFor (pairs : List Pair) (set : List Entry) (p : Seal) (serial ssrc index : ℕ) : Type 0 where
  pub pair : Pair
  pub at : slice_get pairs serial ≡ Some pair
  pub layer : p.layer ≡ HopByHop
  pub master : p.master ≡ pair.1
  pub held : in_set set serial ≡ true
  pub range : InRange p.kind ssrc index
  pub taken : p.iv_is ≡ iv_of p.kind (session_keys p.master p.kind).salt ssrc index

-- The distributor keeps it, while the serial is in the set.
pub record IsKept (pairs : List Pair) (set : List Entry) (sealing : List Sealing) (p : Seal) : Type 0 where
  pub kept : (serial ssrc index : ℕ) → IsSealedFor pairs set p serial ssrc index → IsRecorded p.kind (sealing_of sealing serial) ssrc index

abbrev pub IsEntryOf : List Pair → Entry → Type 0
IsEntryOf pairs e = slice_get pairs e.serial ≡ Some (e.client, e.server)

-- what nonces rest on
pub record Wire : Type 0 where
  pub members : List Member
  pub set : List Entry
  pub sealing : List Sealing
  pub datagrams : List Datagram

abbrev pub wire_of : State → Wire
wire_of s = record { members = s.members; set = s.set; sealing = s.sealing; datagrams = s.datagrams }

-- No two packets were sealed alike, and none will be.
pub record IsClear (w : Wire) (done : List Seal) : Type 0 where
  pub pairs : AreApart (pairs_of w.members)
  pub sealers : All (IsSealer done) w.members
  pub entries : All (IsEntryOf (pairs_of w.members)) w.set
  pub origins : All (HasOrigin w.members) done
  pub kept : All (IsKept (pairs_of w.members) w.set w.sealing) done
  pub fits : All Fits w.datagrams
  pub apart : AllPairs AreOtherSeals done

pub clear_same : (w : Wire) (done : List Seal) → IsClear w done → IsClear w (done ++ [])
clear_same w done clear = subst (IsClear w) (sym (append-nil done)) clear

-- ---- an endpoint goes on

pub goes_same : (o : Outgoing) → GoesOn o o
goes_same o = record { ssrc = refl; next = omega arith; outer = λ high is. (high, is, omega arith); rtcp = omega arith }

pub ahead_after : (o n : Outgoing) (p : Seal) → GoesOn o n → n.client ≡ o.client → IsAhead o p → IsAhead n p
ahead_after o n p g client a = record {
  inner = λ index few layer is.
      let low = a.inner index few layer (is ∙ ap (λ (x : ℕ). iv (session_keys p.master Srtp).salt x index) g.ssrc) in
      let next = g.next in omega arith;
  outer = λ index few layer kind master is.
      let b = a.outer index few layer kind (master ∙ client) (is ∙ ap (λ (x : ℕ). iv (session_keys p.master Srtp).salt x index) g.ssrc) in
      let on = g.outer b.high b.highest in
      let below = b.below in
      let above = on.2 in
      record { high = on.0; highest = on.1; below = omega arith };
}

-- ---- a member changes, and goes on

pub record KeepsSending (change : Member → Member) : Type 0 where
  pub keeps : Keeps change
  pub pair : (m : Member) → pair_of (change m) ≡ pair_of m
  pub goes : (m : Member) → GoesOn m.endpoint.sending (change m).endpoint.sending
  pub client : (m : Member) → (change m).endpoint.sending.client ≡ m.endpoint.sending.client

pub pairs_kept : (name : List ℕ) (change : Member → Member) (members : List Member) → ((m : Member) → pair_of (change m) ≡ pair_of m)
    → pairs_of (with_member name change members) ≡ pairs_of members
pairs_kept name change [] same = refl
pairs_kept name change (m ∷ members) same = λ i. at (has_name name m) i ∷ pairs_kept name change members same i where
  at : (b : Bool) → pair_of (cond b (change m) m) ≡ pair_of m
  at true = same m
  at false = refl

origin_changed : (name : List ℕ) (change : Member → Member) (members : List Member) (p : Seal) → Keeps change → ((m : Member) → pair_of (change m) ≡ pair_of m)
    → HasOrigin members p → HasOrigin (with_member name change members) p
origin_changed name change members p keeps same h = record {
  sender = λ layer.
      let it = h.sender layer in record {
        ssrc = it.ssrc;
        index = it.index;
        ssrc_fits = it.ssrc_fits;
        index_fits = it.index_fits;
        taken = it.taken;
        somebody = somebody_changed (λ n. it.ssrc ≡ n.ssrc) name change members (λ n is. is ∙ sym (keeps.ssrc n)) it.somebody;
      };
  pair = λ layer. subst (λ (pairs : List Pair). IsOfPair pairs p) (sym (pairs_kept name change members same)) (h.pair layer);
}

sealer_changed : (done : List Seal) (name : List ℕ) (change : Member → Member) (m : Member) → KeepsSending change → IsSealer done m → IsSealer done (changed name change m)
sealer_changed done name change m keeps is = at (has_name name m) where
  at : (b : Bool) → IsSealer done (cond b (change m) m)
  at false = is
  at true = record {
    client = keeps.client m ∙ is.client ∙ sym (ap (λ (x : Pair). x.0) (keeps.pair m));
    ahead = All-weaker (IsAhead m.endpoint.sending) (IsAhead (change m).endpoint.sending)
        (λ p. ahead_after m.endpoint.sending (change m).endpoint.sending p (keeps.goes m) (keeps.client m)) done is.ahead;
  }

pub clear_change : (w : Wire) (done : List Seal) (name : List ℕ) (change : Member → Member) → KeepsSending change → IsClear w done
    → IsClear (record w { members = with_member name change w.members }) done
clear_change w done name change keeps clear =
    let members : List Member = with_member name change w.members in
    let same : pairs_of w.members ≡ pairs_of members = sym (pairs_kept name change w.members keeps.pair) in record {
      pairs = subst AreApart same clear.pairs;
      sealers = All-map (IsSealer done) (changed name change) w.members λ k d within. sealer_changed done name change (get_or w.members k d) keeps (clear.sealers k d within);
      entries = subst (λ (pairs : List Pair). All (IsEntryOf pairs) w.set) same clear.entries;
      origins = All-weaker (HasOrigin w.members) (HasOrigin members) (λ p. origin_changed name change w.members p keeps.keeps keeps.pair) done clear.origins;
      kept = subst (λ (pairs : List Pair). All (IsKept pairs w.set w.sealing) done) same clear.kept;
      fits = clear.fits;
      apart = clear.apart;
    }

-- ---- the set becomes smaller

less_by : (q : Entry → Bool) (e : Entry) (set : List Entry) (serial : ℕ) (b c : Bool) → (e.serial == serial) ≡ c → (in_set (filter q set) serial ≡ true → in_set set serial ≡ true)
    → in_set (cond b (e ∷ filter q set) (filter q set)) serial ≡ true → (c || in_set set serial) ≡ true
less_by q e set serial b true is rest held = refl
less_by q e set serial false false is rest held = rest held
less_by q e set serial true false is rest held = rest (sym (ap (λ (x : Bool). x || in_set (filter q set) serial) is) ∙ held)

pub less_in : (q : Entry → Bool) (set : List Entry) (serial : ℕ) → in_set (filter q set) serial ≡ true → in_set set serial ≡ true
less_in q [] serial held = held
less_in q (e ∷ set) serial held = less_by q e set serial (q e) (e.serial == serial) refl (less_in q set serial) held

kept_less : (pairs : List Pair) (set less : List Entry) (sealing : List Sealing) (p : Seal) → ((serial : ℕ) → in_set less serial ≡ true → in_set set serial ≡ true)
    → IsKept pairs set sealing p → IsKept pairs less sealing p
kept_less pairs set less sealing p within is = record {
  kept = λ serial ssrc index asked. is.kept serial ssrc index (record {
    pair = asked.pair;
    at = asked.at;
    layer = asked.layer;
    master = asked.master;
    held = within serial asked.held;
    range = asked.range;
    taken = asked.taken;
  });
}

pub clear_less : (w : Wire) (done : List Seal) (q : Entry → Bool) → IsClear w done → IsClear (record w { set = filter q w.set }) done
clear_less w done q clear = record {
  pairs = clear.pairs;
  sealers = clear.sealers;
  entries = All-filter q (IsEntryOf (pairs_of w.members)) w.set clear.entries;
  origins = clear.origins;
  kept = All-weaker (IsKept (pairs_of w.members) w.set w.sealing) (IsKept (pairs_of w.members) (filter q w.set) w.sealing)
      (λ p. kept_less (pairs_of w.members) w.set (filter q w.set) w.sealing p (less_in q w.set)) done clear.kept;
  fits = clear.fits;
  apart = clear.apart;
}

-- ---- a member sends

-- the same IV for one SSRC has one index
one_index : (salt : List ℕ) (ssrc other i j : ℕ) → ssrc < 2 ^ 32 → other < 2 ^ 32 → i < 2 ^ 48 → j < 2 ^ 48 → iv salt ssrc i ≡ iv salt other j → (ssrc ≡ other) × (i ≡ j)
one_index salt ssrc other i j fits fits_other fits_i fits_j is = iv_injective salt ssrc other i j fits fits_other fits_i fits_j is

-- A sender: its next index is below 2^48, and its outer one is free.
pub record IsSending (s : State) (m : Member) : Type 0 where
  pub there : Contains s.members m
  pub few : m.endpoint.sending.sending.next < 2 ^ 48
  pub ssrc : m.endpoint.sending.sending.ssrc ≡ m.ssrc
  pub fits : m.endpoint.sending.sending.ssrc < 2 ^ 32
  pub free : IsFree m.endpoint.sending.sealed m.endpoint.sending.sending.next

own_inner : (o : Outgoing) → o.sending.ssrc < 2 ^ 32 → o.sending.next < 2 ^ 48 → IsAhead (after_send o) (inner_seal o)
own_inner o fits few = record {
  inner = λ index fits_index layer is.
      let one = one_index (session_keys (inner_seal o).master Srtp).salt o.sending.ssrc o.sending.ssrc o.sending.next index fits fits few fits_index is in
      let same = one.1 in omega arith;
  outer = λ index fits_index layer kind master is. let bad : EndToEnd ≡ HopByHop = layer in absurd (cc);
}

own_outer : (o : Outgoing) → o.sending.ssrc < 2 ^ 32 → o.sending.next < 2 ^ 48 → IsFree o.sealed o.sending.next → IsAhead (after_send o) (outer_seal o)
own_outer o fits few f = record {
  inner = λ index fits_index layer is. let bad : HopByHop ≡ EndToEnd = layer in absurd (cc);
  outer = λ index fits_index layer kind master is.
      let within = f.within in
      let one = one_index (session_keys o.client Srtp).salt o.sending.ssrc o.sending.ssrc (outer_index o) index fits fits (omega arith) fits_index is in
      let same = one.1 in
      record { high = outer_index o; highest = f.top; below = omega arith };
}

other_inner : (o n : Outgoing) → o.sending.ssrc < 2 ^ 32 → n.sending.ssrc < 2 ^ 32 → o.sending.next < 2 ^ 48 → (o.sending.ssrc ≡ n.sending.ssrc → ⊥) → IsAhead n (inner_seal o)
other_inner o n fits fits_n few other = record {
  inner = λ index fits_index layer is.
      let one = one_index (session_keys (inner_seal o).master Srtp).salt o.sending.ssrc n.sending.ssrc o.sending.next index fits fits_n few fits_index is in
      absurd (other one.0);
  outer = λ index fits_index layer kind master is. let bad : EndToEnd ≡ HopByHop = layer in absurd (cc);
}

-- A seal hop by hop is no client's but its own.
pub other_hop : (n : Outgoing) (p : Seal) → p.layer ≡ HopByHop → (p.master ≡ n.client → ⊥) → IsAhead n p
other_hop n p hop other = record {
  inner = λ index fits layer is. let bad : HopByHop ≡ EndToEnd = sym hop ∙ layer in absurd (cc);
  outer = λ index fits layer kind master is. absurd (other master);
}

send_goes : (o : Outgoing) → IsFree o.sealed o.sending.next → GoesOn o (after_send o)
send_goes o f = record {
  ssrc = refl;
  next = omega arith;
  outer = λ high is. (outer_index o, f.top, let above = f.above high is in omega arith);
  rtcp = omega arith;
}

abbrev pub sent_pair : Outgoing → List Seal
sent_pair o = inner_seal o ∷ outer_seal o ∷ []

two_more : (P : Seal → Type 0) (done : List Seal) (a b : Seal) → All P done → P a → P b → All P (done ++ a ∷ b ∷ [])
two_more P done a b all of_a of_b = All-append P done (a ∷ b ∷ []) all (All-cons P a (b ∷ []) of_a (All-cons P b [] of_b (All-nil P)))

-- the sender after it
sealer_sent : (done : List Seal) (s : State) (m : Member) → IsSending s m → IsSealer done m → IsSealer (done ++ sent_pair m.endpoint.sending) (with_send m)
sealer_sent done s m is sealer =
    let o : Outgoing = m.endpoint.sending in record {
      client = sealer.client;
      ahead = two_more (IsAhead (after_send o)) done (inner_seal o) (outer_seal o)
          (All-weaker (IsAhead o) (IsAhead (after_send o)) (λ p. ahead_after o (after_send o) p (send_goes o is.free) refl) done sealer.ahead)
          (own_inner o is.fits is.few) (own_outer o is.fits is.few is.free);
    }

-- another member after it
pub record IsOther (members : List Member) (done : List Seal) (n : Member) : Type 0 where
  pub there : Contains members n
  pub sealer : IsSealer done n
  pub ssrc : n.endpoint.sending.sending.ssrc ≡ n.ssrc
  pub fits : n.endpoint.sending.sending.ssrc < 2 ^ 32

sealer_other : (done : List Seal) (s : State) (m n : Member) → AreApart (pairs_of s.members) → IsSending s m → m.endpoint.sending.client ≡ m.client → AreOthers n m
    → IsOther s.members done n → IsSealer (done ++ sent_pair m.endpoint.sending) n
sealer_other done s m n apart is client others it =
    let o : Outgoing = m.endpoint.sending in record {
      client = it.sealer.client;
      ahead = two_more (IsAhead n.endpoint.sending) done (inner_seal o) (outer_seal o) it.sealer.ahead
          (other_inner o n.endpoint.sending is.fits it.fits is.few (λ same. others.ssrc (sym it.ssrc ∙ sym same ∙ is.ssrc)))
          (other_hop n.endpoint.sending (outer_seal o) refl (λ same. clients_differ s.members n m apart it.there is.there others (sym it.sealer.client ∙ sym same ∙ client)));
    }

-- The next inner seal is another than one that the sender is ahead of,
inner_apart : (o : Outgoing) (p : Seal) → o.sending.next < 2 ^ 48 → IsAhead o p → AreOtherSeals p (inner_seal o)
inner_apart o p few a = λ layers masters kinds ivs.
    let low = a.inner o.sending.next few layers (ivs ∙ ap (λ (k : KeyAndSalt). iv (session_keys k Srtp).salt o.sending.ssrc o.sending.next) (sym masters)) in omega arith

-- and so is the next outer one.
outer_apart : (o : Outgoing) (p : Seal) → o.sending.next < 2 ^ 48 → IsFree o.sealed o.sending.next → IsAhead o p → AreOtherSeals p (outer_seal o)
outer_apart o p few f a = λ layers masters kinds ivs.
    let within = f.within in
    let b = a.outer (outer_index o) (omega arith) layers kinds masters (ivs ∙ ap (λ (k : KeyAndSalt). iv (session_keys k Srtp).salt o.sending.ssrc (outer_index o)) (sym masters)) in
    let above = f.above b.high b.highest in
    let below = b.below in
    omega arith

sent_apart : (done : List Seal) (o : Outgoing) → o.sending.next < 2 ^ 48 → IsFree o.sealed o.sending.next → All (IsAhead o) done → AllPairs AreOtherSeals done
    → AllPairs AreOtherSeals (done ++ sent_pair o)
sent_apart done o few f ahead apart =
    let inner : Seal = inner_seal o in
    let outer : Seal = outer_seal o in
    let one : AllPairs AreOtherSeals (done ++ inner ∷ []) =
    all_pairs_push AreOtherSeals done inner apart (All-weaker (IsAhead o) (λ p. AreOtherSeals p inner) (λ p a. inner_apart o p few a) done ahead) in
    subst (AllPairs AreOtherSeals) (append_assoc done (inner ∷ []) (outer ∷ []))
    (all_pairs_push AreOtherSeals (done ++ inner ∷ []) outer one
    (All-push (λ p. AreOtherSeals p outer) done inner (All-weaker (IsAhead o) (λ p. AreOtherSeals p outer) (λ p a. outer_apart o p few f a) done ahead)
    (λ layers masters kinds ivs. let bad : EndToEnd ≡ HopByHop = layers in absurd (cc))))

inner_origin : (s : State) (members : List Member) (m : Member) → IsSending s m → IsSomebody members (λ n. m.ssrc ≡ n.ssrc) → HasOrigin members (inner_seal m.endpoint.sending)
inner_origin s members m is somebody =
    let o : Outgoing = m.endpoint.sending in record {
      sender = λ layer. record {
        ssrc = o.sending.ssrc;
        index = o.sending.next;
        ssrc_fits = is.fits;
        index_fits = is.few;
        taken = refl;
        somebody = record { member = somebody.member; there = somebody.there; is = is.ssrc ∙ somebody.is };
      };
      pair = λ layer. let bad : EndToEnd ≡ HopByHop = layer in absurd (cc);
    }

outer_origin : (members : List Member) (m : Member) → m.endpoint.sending.client ≡ m.client → Contains (pairs_of members) (pair_of m) → HasOrigin members (outer_seal m.endpoint.sending)
outer_origin members m client there = record {
  sender = λ layer. let bad : HopByHop ≡ EndToEnd = layer in absurd (cc);
  pair = λ layer. record { pair = pair_of m; there = there; is = inl client };
}

inner_kept : (pairs : List Pair) (set : List Entry) (sealing : List Sealing) (o : Outgoing) → IsKept pairs set sealing (inner_seal o)
inner_kept pairs set sealing o = record { kept = λ serial ssrc index asked. let bad : EndToEnd ≡ HopByHop = asked.layer in absurd (cc) }

outer_kept : (pairs : List Pair) (set : List Entry) (sealing : List Sealing) (m : Member) → AreApart pairs → Contains pairs (pair_of m) → m.endpoint.sending.client ≡ m.client
    → IsKept pairs set sealing (outer_seal m.endpoint.sending)
outer_kept pairs set sealing m apart there client = record {
  kept = λ serial ssrc index asked.
      absurd (sides pairs (pair_of m) asked.pair apart there (contains_at pairs serial asked.pair asked.at) (sym client ∙ asked.master));
}

others_of : (s : State) (done : List Seal) → IsSound (core_of s) → All (IsSealer done) s.members → All (IsOther s.members done) s.members
others_of s done sound sealers = λ k d within.
    let is : IsMember s.secrets s.table (length s.datagrams) (get_or s.members k d) = sound.members k d within in
    record { there = All-contains_itself s.members k d within; sealer = sealers k d within; ssrc = is.sender; fits = is.sending.ssrc }

-- A member that sends takes two seals more.
pub clear_sent : (s : State) (done : List Seal) (m : Member) (d : Datagram) → IsSound (core_of s) → IsSending s m → Fits d → IsClear (wire_of s) done
    → IsClear (record (wire_of s) { members = with_member m.name with_send s.members; datagrams = s.datagrams ++ d ∷ [] }) (done ++ sent_pair m.endpoint.sending)
clear_sent s done m d sound is fits clear =
    let o : Outgoing = m.endpoint.sending in
    let members : List Member = with_member m.name with_send s.members in
    let keeps : Keeps with_send = record { name = λ n. refl; ssrc = λ n. refl } in
    let same : pairs_of s.members ≡ pairs_of members = sym (pairs_kept m.name with_send s.members (λ n. refl)) in
    let own : IsSealer done m = All-contains (IsSealer done) s.members m clear.sealers is.there in
    let there : Contains (pairs_of s.members) (pair_of m) = contains_map pair_of s.members m is.there in record {
      pairs = subst AreApart same clear.pairs;
      sealers = changed_all (IsOther s.members done) (IsSealer (done ++ sent_pair o)) m with_send s.members sound.others is.there (others_of s done sound clear.sealers)
          (λ it. sealer_sent done s m is it.sealer)
          (λ n other it. sealer_other done s m n clear.pairs is own.client other it);
      entries = subst (λ (pairs : List Pair). All (IsEntryOf pairs) s.set) same clear.entries;
      origins = two_more (HasOrigin members) done (inner_seal o) (outer_seal o)
          (All-weaker (HasOrigin s.members) (HasOrigin members) (λ p. origin_changed m.name with_send s.members p keeps (λ n. refl)) done clear.origins)
          (inner_origin s members m is (somebody_changed (λ n. m.ssrc ≡ n.ssrc) m.name with_send s.members (λ n e. e) (record { member = m; there = is.there; is = refl })))
          (outer_origin members m own.client (subst (λ (pairs : List Pair). Contains pairs (pair_of m)) same there));
      kept = subst (λ (pairs : List Pair). All (IsKept pairs s.set s.sealing) (done ++ sent_pair o)) same
          (two_more (IsKept (pairs_of s.members) s.set s.sealing) done (inner_seal o) (outer_seal o) clear.kept
          (inner_kept (pairs_of s.members) s.set s.sealing o) (outer_kept (pairs_of s.members) s.set s.sealing m clear.pairs there own.client));
      fits = All-push Fits s.datagrams d clear.fits fits;
      apart = sent_apart done o is.few is.free own.ahead clear.apart;
    }
