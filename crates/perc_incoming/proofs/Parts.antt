-- What is answered for a datagram, part by part.
use Rattle.std.proofs.Common.{◌≡◌, ℕ, ◌+◌, ◌-◌, ◌≤◌, ◌<◌, Bool, true, false, cond, inl, inr, List, [], ◌∷◌, ◌++◌, length, take, drop, get_or, Option, Some, None, Result, Ok, Err, refl, sym, ap, subst, ◌∙◌, arith, rules}
use Rattle.std.specs.Prelude.{◌⊎◌, ◌==◌, ◌||◌, nat_lt, IfOk, IfSome, MatchResult, map}
use Rattle.std.specs.Option.{option_copied, option_map}
use Rattle.std.specs.Borrow.{Bor}
use Rattle.std.proofs.lemmas.List.{append-nil, drop-take, take-take, take_at}
use Rattle.perc_kdf.specs.Derivation.{IsSession, KeyAndSalt}
use Rattle.perc_base.specs.Profile.{key_length}
use Rattle.perc_base.specs.declared.profile.Profile.{Profile}
use Rattle.perc_base.specs.declared.profile.Profile.TheVariants.{Aes128, Aes256}
use Rattle.perc_rtp.specs.Padding.{padding_count, payload_length, payload_of}
use Rattle.perc_rtp.specs.Header.{Header, IsPacket, head_of, spelling}
use Rattle.perc_ohb.specs.Rewriting.{restored}
use Rattle.perc_ohb.proofs.RewritingLaws.{IsHeader-restored}
use Rattle.perc_srtp.specs.Ends.{Stream}
use Rattle.perc_srtp.specs.Sealed.{BeginsWith}
use Rattle.perc_contexts.specs.declared.CarriedKey.{CarriedKey}
use Rattle.perc_contexts.specs.declared.Try.{Try}
use Rattle.perc_contexts.specs.Receiving.{Attempt, Carried, Context, Receiving, committed, tries}
use Rattle.perc_contexts.specs.Kept as contexts
use Rattle.perc_contexts.specs.Kept.{IsCarried, told, told_of}
use Rattle.perc_outer.specs.declared.fault.OuterFault.{OuterFault}
use Rattle.perc_outer.specs.declared.reaching.Reached.{Reached as Told}
use Rattle.perc_outer.specs.Streams.{OuterStream}
use Rattle.perc_outer.specs.Datagram.{Blocked, Opened, Reach, Reached, Refused, original_header, reached, streams_after}
use Rattle.perc_outer.specs.Kept as outer
use Rattle.perc_outer.specs.Kept.{IsInRange, IsReach, IsTold}
use Rattle.perc_outer.proofs.Outer.{is_reached}
use Rattle.perc_receiver.specs.declared.refusal.Refusal.{Refusal}
use Rattle.perc_receiver.specs.declared.refusal.Refusal.TheVariants as refusal
use Rattle.perc_receiver.specs.Table.{Secret}
use Rattle.perc_receiver.specs.Opener.{by_cipher}
use Rattle.perc_receiver.specs.Receiver.{OpenTry, Receiver, carried_by, reach_of, receiving, settled, some_tries, without_padding}
use Rattle.perc_receiver.proofs.Tried.{IsLiveKey}
use Rattle.perc_incoming.specs.declared.carried.UnwrappedKey.{UnwrappedKey}
use Rattle.perc_incoming.specs.declared.choosing.Decided.{Decided}
use Rattle.perc_incoming.specs.Kept.{Kept, StandsFor}
use Rattle.perc_incoming.specs.Asking.{IsCarriedBy, MayTake, decided_by, key_of}
use Rattle.perc_incoming.specs.declared.settling.Accepted.{Accepted}
use Rattle.perc_incoming.specs.Outcome.{IsAcceptedAs, IsAnswered, IsDecision, IsReached, IsReachedAs, IsTakenAs, IsTakenIn, IsToldOf, after_reach, decided_carried, decision, padding_answer}

-- ---- opened hop by hop

told_reached : (keys : KeyAndSalt) (own : Option ℕ) (streams : List OuterStream) (datagram octets : List ℕ) (o : Opened) (result : Result Told OuterFault)
    → IsSession keys → ((k : ℕ) → get_or datagram k 0 < 256) → reached keys own streams datagram ≡ Reached o
    → (told : Told) × (result ≡ Ok told) × IsTold told o octets → IsReachedAs (Reached o) result octets
told_reached keys own streams datagram octets o result session below e is =
    let r = is_reached keys own streams datagram o session below e in
    let all : IsToldOf o octets is.0 = record { told_is = is.2; header = r.is_packet.header; block = r.block } in
    subst (λ (x : Result Told OuterFault). MatchResult x (IsToldOf o octets) (λ _. ⊥)) (sym is.1) all

told_by : (keys : KeyAndSalt) (own : Option ℕ) (streams : List OuterStream) (datagram octets : List ℕ) (reach : Reach) (result : Result Told OuterFault)
    → IsSession keys → ((k : ℕ) → get_or datagram k 0 < 256) → reached keys own streams datagram ≡ reach → IsReach reach result octets → IsReachedAs reach result octets
told_by keys own streams datagram octets (Refused fault) result session below e is = is
told_by keys own streams datagram octets (Blocked ssrc index fault) result session below e is = is
told_by keys own streams datagram octets (Reached o) result session below e is = told_reached keys own streams datagram octets o result session below e is

-- What is told has a header and a block, where the datagram's octets are octets.
pub reached_as : (keys : KeyAndSalt) (own : Option ℕ) (streams : List OuterStream) (datagram octets : List ℕ) (result : Result Told OuterFault)
    → IsSession keys → ((k : ℕ) → get_or datagram k 0 < 256) → IsReach (reached keys own streams datagram) result octets
    → IsReachedAs (reached keys own streams datagram) result octets
reached_as keys own streams datagram octets result session below is =
    told_by keys own streams datagram octets (reached keys own streams datagram) result session below refl is

pub reached_some : (reach : Reach) (result : Result Told OuterFault) (octets : List ℕ) → length octets ≤ 1500 → IfOk result (IsInRange octets)
    → IsReachedAs reach result octets → IfOk result (IsReached octets)
reached_some reach (Err e) octets few range is = tt
reached_some (Refused fault) (Ok told) octets few range is = absurd (cc)
reached_some (Blocked ssrc index fault) (Ok told) octets few range is = absurd (cc)
reached_some (Reached o) (Ok told) octets few range is = record { few = few; range = range; opened = o; is = is }

pub reach_stands : (kept : Kept) (r : Receiver) (reach : Reach) (streams : List Stream) → StandsFor kept r → outer.StandsFor streams (streams_after r.streams reach)
    → StandsFor (record kept { streams = streams }) (after_reach r reach)
reach_stands kept r reach streams stands is = record {
  ssrc = stands.ssrc;
  media = stands.media;
  control = stands.control;
  secrets = stands.secrets;
  contexts = record { live = stands.contexts.live; contexts = stands.contexts.contexts };
  streams = is;
  rtcp = stands.rtcp;
}

-- what becomes of a datagram under what is kept
pub reach_is : (kept : Kept) (r : Receiver) (datagram : List ℕ) → StandsFor kept r → reached kept.media (Some kept.ssrc) r.streams datagram ≡ reach_of r datagram
reach_is kept r datagram stands = λ i. reached (stands.media i) (Some (stands.ssrc i)) r.streams datagram

-- ---- what is told of an opened datagram

module _ (o : Opened) (octets : List ℕ) (t : Told) where
  pub front_header : IsToldOf o octets t → IsPacket o.header [] (take t.header octets)
  front_header is = record { header = is.header; octets = is.told_is.header ∙ sym (append-nil (spelling o.header)) }

  original_is : IsToldOf o octets t → restored o.header t.ohb ≡ original_header o
  original_is is = ap (restored o.header) is.told_is.block

  -- the length of the sender's header
  pub head_long : (len : ℕ) → IsToldOf o octets t → len ≡ length (spelling (restored o.header t.ohb)) → (head_of (original_header o)).len ≡ len
  head_long len is long = sym (long ∙ ap (λ (h : Header). length (spelling h)) (original_is is))

  -- the sender's header, at the front of other octets
  pub original_packet : (len : ℕ) (out rest : List ℕ) → IsToldOf o octets t → len ≡ length (spelling (restored o.header t.ohb))
      → out ≡ spelling (restored o.header t.ohb) ++ rest → IsPacket (original_header o) [] (take len out)
  original_packet len out rest is long put = record {
    header = IsHeader-restored o.header o.block is.header is.block;
    octets =
        ap (take len) put ∙ take_at (spelling (restored o.header t.ohb)) rest len (sym long)
        ∙ ap (λ (h : Header). spelling h) (original_is is) ∙ sym (append-nil (spelling (original_header o)));
  }

-- the inner octets
pub inner_is : (o : Opened) (octets : List ℕ) (t : Told) → IsToldOf o octets t → t.header ≤ t.block → take (t.block - t.header) (drop t.header octets) ≡ o.inner
inner_is o octets t is within =
    let split : t.header + (t.block - t.header) ≡ t.block = omega arith in
    sym (drop-take t.header (t.block - t.header) octets) ∙ ap (λ (n : ℕ). drop t.header (take n octets)) split ∙ is.told_is.inner

-- ---- the carried key

pub carried_ok : (c : Result (Option Carried) Refusal) (key : Option UnwrappedKey) → IsCarriedBy c (Ok key) → c ≡ Ok (option_map key_of key)
carried_ok (Ok carried) key is = ap Ok (sym is)
carried_ok (Err e) key is = absurd (cc)

pub carried_err : (c : Result (Option Carried) Refusal) (e : Refusal) → IsCarriedBy c (Err e) → c ≡ Err e
carried_err (Ok carried) e is = absurd is
carried_err (Err f) e is = let same : e ≡ f = cc in ap Err (sym same)

told_copied : (o : Option (Bor CarriedKey)) → told o ≡ option_map told_of (option_copied o)
told_copied None = refl
told_copied (Some c) = refl

-- what the contexts are told of a carried key
pub told_is : (o : Option (Bor CarriedKey)) (told_key : Option CarriedKey) (key : Option UnwrappedKey) → option_copied o ≡ told_key
    → option_map told_of told_key ≡ option_map key_of key → told o ≡ option_map key_of key
told_is o told_key key copied is = told_copied o ∙ ap (option_map told_of) copied ∙ is

-- A carried key has 16 or 32 octets, and its SPI is live.
pub is_carried : (live : List ℕ) (key : Option UnwrappedKey) → IsLiveKey live (option_map key_of key)
    → IfSome key (λ k. (length (key_of k).key ≡ 16) ⊎ (length (key_of k).key ≡ 32)) → IsCarried live (option_map key_of key)
is_carried live None is size = tt
is_carried live (Some k) is size = record { live_is = is; length_is = size }

-- ---- what is decided

module _ (secrets : List Secret) (contexts : List Context) (o : Opened) where
  pub decision_short : length o.inner < 16 → decision secrets contexts o ≡ Err refusal.InnerShort
  decision_short short =
      let e : nat_lt (length o.inner) 16 ≡ true = search rules in
      ap
      (λ (b : Bool). cond b (Err refusal.InnerShort) (decided_carried secrets contexts (original_header o) o.inner (carried_by (by_cipher secrets) secrets o.header.ssrc o.field))) e

  pub decision_long : (c : Result (Option Carried) Refusal) → 16 ≤ length o.inner → carried_by (by_cipher secrets) secrets o.header.ssrc o.field ≡ c
      → decision secrets contexts o ≡ decided_carried secrets contexts (original_header o) o.inner c
  decision_long c long is =
      let e : nat_lt (length o.inner) 16 ≡ false = search rules in
      ap
      (λ (b : Bool). cond b (Err refusal.InnerShort) (decided_carried secrets contexts (original_header o) o.inner (carried_by (by_cipher secrets) secrets o.header.ssrc o.field))) e
      ∙ ap (decided_carried secrets contexts (original_header o) o.inner) is

pub refused_as : (held : Receiving) (ssrc : ℕ) (carried : Option Carried) (d : Result OpenTry Refusal) (e : Refusal) (room : List ℕ) → MayTake held ssrc carried d (Err e) room
    → IsDecision held ssrc d (Err e) room
refused_as held ssrc carried (Ok o) e room is = absurd is
refused_as held ssrc carried (Err f) e room is = let same : e ≡ f = cc in ap Err same

pub taken_as : (held : Receiving) (ssrc : ℕ) (key : Option UnwrappedKey) (d : Result OpenTry Refusal) (t : Try × ℕ) (room : List ℕ)
    → IfSome key (λ k. k.wrapped.len ≤ 32) → IsCarried held.live (option_map key_of key) → MayTake held ssrc (option_map key_of key) d (Ok t) room
    → IsDecision held ssrc d (Ok (record { attempt = t.0; carried = key; len = t.1 })) room
taken_as held ssrc key (Ok o) t room fits carried is = record { fits = fits; carried = carried; may = is.0; len = is.1; body = is.2 }
taken_as held ssrc key (Err f) t room fits carried is = absurd (cc)

fits_by : (profile : Profile) (n : ℕ) → n ≡ key_length profile → n ≤ 32
fits_by Aes128 n is = omega (arith, is)
fits_by Aes256 n is = omega (arith, is)

-- A key of a profile's length is one of at most 32 octets.
pub key_fits : (profile : Profile) (key : Option UnwrappedKey) → IfSome key (λ k. k.wrapped.len ≡ key_length profile) → IfSome key (λ k. k.wrapped.len ≤ 32)
key_fits profile None is = tt
key_fits profile (Some k) is = fits_by profile k.wrapped.len is

size_by : (profile : Profile) (n m : ℕ) → n ≡ m → m ≡ key_length profile → (n ≡ 16) ⊎ (n ≡ 32)
size_by Aes128 n m same is = inl (same ∙ is)
size_by Aes256 n m same is = inr (same ∙ is)

pub key_sized : (profile : Profile) (key : Option UnwrappedKey) → IfSome key (λ k. k.wrapped.len ≡ key_length profile)
    → IfSome key (λ k. length (key_of k).key ≡ k.wrapped.len) → IfSome key (λ k. (length (key_of k).key ≡ 16) ⊎ (length (key_of k).key ≡ 32))
key_sized profile None is long = tt
key_sized profile (Some k) is long = size_by profile (length (key_of k).key) k.wrapped.len long is

-- What was decided by the numbers and octets that the code read is decided of the datagram.
pub decides : (secrets : List Secret) (held : Receiving) (o : Opened) (key : Option UnwrappedKey) (told_key : Option Carried) (ssrc seq : ℕ) (inner : List ℕ)
    (result : Result (Try × ℕ) Refusal) (room : List ℕ) → 16 ≤ length o.inner
    → carried_by (by_cipher secrets) secrets o.header.ssrc o.field ≡ Ok (option_map key_of key) → told_key ≡ option_map key_of key → ssrc ≡ o.header.ssrc
    → seq ≡ (original_header o).seq → inner ≡ o.inner
    → MayTake held ssrc told_key (decided_by secrets (original_header o) inner (some_tries (tries held.contexts ssrc seq told_key))) result room
    → MayTake held o.header.ssrc (option_map key_of key) (decision secrets held.contexts o) result room
decides secrets held o key told_key ssrc seq inner result room long carried told_is ssrc_is seq_is inner_is m =
    let h : Header = original_header o in
    let a =
    subst (λ (n : ℕ). MayTake held n told_key (decided_by secrets h inner (some_tries (tries held.contexts n seq told_key))) result room) ssrc_is m in
    let b =
    subst (λ (n : ℕ). MayTake held o.header.ssrc told_key (decided_by secrets h inner (some_tries (tries held.contexts o.header.ssrc n told_key))) result room) seq_is a in
    let k =
    subst (λ (k : Option Carried). MayTake held o.header.ssrc k (decided_by secrets h inner (some_tries (tries held.contexts o.header.ssrc h.seq k))) result room) told_is b in
    let all =
    subst
    (λ (xs : List ℕ). MayTake held o.header.ssrc (option_map key_of key) (decided_by secrets h xs (some_tries (tries held.contexts o.header.ssrc h.seq (option_map key_of key)))) result room)
    inner_is k in
    subst (λ (d : Result OpenTry Refusal). MayTake held o.header.ssrc (option_map key_of key) d result room)
    (sym (decision_long secrets held.contexts o (Ok (option_map key_of key)) long carried)) all

-- what was taken
pub decision_ok : (held : Receiving) (ssrc : ℕ) (d : Result OpenTry Refusal) (decided : Decided) (room : List ℕ) → IsDecision held ssrc d (Ok decided) room
    → (t : OpenTry) × (d ≡ Ok t) × IsTakenAs held ssrc t decided room
decision_ok held ssrc (Ok t) decided room is = (t, refl, is)
decision_ok held ssrc (Err e) decided room is = absurd (cc)

pub decision_err : (held : Receiving) (ssrc : ℕ) (d : Result OpenTry Refusal) (e : Refusal) (room : List ℕ) → IsDecision held ssrc d (Err e) room → d ≡ Err e
decision_err held ssrc (Ok t) e room is = absurd is
decision_err held ssrc (Err f) e room is = let same : e ≡ f = cc in ap Err (sym same)

-- ---- accepted

pub commit_stands : (kept : Kept) (r : Receiver) (a : Attempt) (held : contexts.Kept) → StandsFor kept r
    → contexts.StandsFor held (record (receiving r) { contexts = committed a r.contexts })
    → StandsFor (record kept { contexts = held }) (record r { contexts = committed a r.contexts })
commit_stands kept r a held stands is = record {
  ssrc = stands.ssrc;
  media = stands.media;
  control = stands.control;
  secrets = stands.secrets;
  contexts = record { live = is.live; contexts = is.contexts };
  streams = stands.streams;
  rtcp = stands.rtcp;
}

length_by : (padding : Bool) (body : List ℕ) (n : ℕ) → Some n ≡ payload_length padding body → n ≤ length body
length_by false body n is = let same : n ≡ length body = cc in omega (arith, same)
length_by true [] n is = absurd (cc)
length_by true (x ∷ body) n is = by_test (padding_count (x ∷ body) == 0 || nat_lt (length (x ∷ body)) (padding_count (x ∷ body))) is where
  by_test : (wrong : Bool) → Some n ≡ cond wrong None (Some (length (x ∷ body) - padding_count (x ∷ body))) → n ≤ length (x ∷ body)
  by_test true e = absurd (cc)
  by_test false e = let same : n ≡ length (x ∷ body) - padding_count (x ∷ body) = cc in omega (arith, same)

-- A payload is no longer than the body.
pub payload_within : (padding : Bool) (body : List ℕ) (n : ℕ) → Some n ≡ payload_length padding body → n ≤ length body
payload_within = length_by

-- the opened body at the front of a room, and its payload
module _ (o : Opened) (t : OpenTry) (padding : Bool) (len n : ℕ) (room : List ℕ) where
  pub front_body : len ≡ length t.body → BeginsWith t.body room → take len room ≡ t.body
  front_body long front = ap (λ (k : ℕ). take k room) long ∙ front

  pub payload_is : len ≡ length t.body → BeginsWith t.body room → padding ≡ o.header.padding → n ≤ len
      → option_map (λ (k : ℕ). take k (take len room)) (Some n) ≡ payload_of padding (take len room)
      → payload_of o.header.padding t.body ≡ Some (take n room)
  payload_is long front padding_is within told =
      sym (λ i. payload_of (padding_is i) (front_body long front i)) ∙ sym told ∙ ap Some (take-take n len room within)

  pub answered_as : (payload : List ℕ) (told : Accepted) → payload_of o.header.padding t.body ≡ Some payload
      → IsAcceptedAs (record { attempt = t.attempt; header = original_header o; payload = payload }) told → IsAnswered (padding_answer o t) (Ok told)
  answered_as payload told e is =
      subst (λ (p : Option (List ℕ)). IsAnswered (without_padding (original_header o) t p) (Ok told)) (sym e) is

  pub settled_as : (kept : Kept) (r : Receiver) (payload : List ℕ) → payload_of o.header.padding t.body ≡ Some payload
      → StandsFor kept (record r { contexts = committed t.attempt r.contexts }) → StandsFor kept (settled r (padding_answer o t))
  settled_as kept r payload e is =
      subst (λ (p : Option (List ℕ)). StandsFor kept (settled r (without_padding (original_header o) t p))) (sym e) is

-- What was decided may be settled.
pub decision_taken : (kept : Kept) (octets : List ℕ) (told : Told) (result : Result Decided Refusal) (room : List ℕ) (r : Receiver) (o : Opened) → StandsFor kept r
    → IsToldOf o octets told → (d : Result OpenTry Refusal) → IsDecision (receiving r) o.header.ssrc d result room → IfOk result (λ d. told.header + d.len ≤ told.block)
    → IfOk result (λ decided. IsTakenIn kept octets told decided room)
decision_taken kept octets told (Err e) room r o stands is d decides within = tt
decision_taken kept octets told (Ok decided) room r o stands is (Err e) decides within = absurd (cc)
decision_taken kept octets told (Ok decided) room r o stands is (Ok t) decides within =
    record { within = within; receiver_is = r; stands = stands; datagram = o; told_is = is; try_is = t; taken = decides }
