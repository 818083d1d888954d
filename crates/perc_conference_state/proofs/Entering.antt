-- A member joins.
use Rattle.std.proofs.Common.{◌≡◌, ℕ, ◌+◌, ◌-◌, ◌<◌, ◌||◌, Bool, true, false, cond, List, [], ◌∷◌, ◌++◌, length, map, Option, Some, None, Ok, slice_get, refl, sym, ap, ◌∙◌, subst, arith}
use Rattle.std.specs.List.{flat_map, last_or, list_any}
use Rattle.std.specs.Option.{option_map}
use Rattle.std.specs.Prelude.{nat_le}
use Rattle.std.proofs.lemmas.Bool.{or_parts}
use Rattle.std.proofs.lemmas.Bool.Decides.{Decides-like, nat_tests, same_from_decides}
use Rattle.std.proofs.lemmas.Grind.{flat_map-append}
use Rattle.std.proofs.lemmas.List.{length-append, length-map, map-append}
use Rattle.std.proofs.lemmas.List.Concat.{flat_map-cons}
use Rattle.byteorder.specs.Endian.{big_bytes}
use Rattle.perc_base.specs.Profile.{key_length}
use Rattle.perc_base.specs.declared.profile.Profile.{Profile}
use Rattle.perc_contexts.proofs.Lists.{last_is}
use Rattle.perc_ekt.specs.declared.record.EktKeyRecord.{EktKeyRecord}
use Rattle.perc_forwarder.specs.Mirror.{MirrorsDistributor}
use Rattle.perc_incoming.specs.Kept.{IsRecordFor}
use Rattle.perc_kdf.specs.Derivation.{KeyAndSalt}
use Rattle.perc_kdf.specs.Order.{same_pair}
use Rattle.perc_kdf.proofs.OrderLaws.{same_pair-Decides}
use Rattle.perc_keeper.specs.Lists as keeper
use Rattle.perc_keeper.specs.Lists.{member_of, was_given, with_member}
use Rattle.perc_keydist.specs.Distributing.{repeats}
use Rattle.perc_key_service.specs.Service.{MayJoin, Service, keys_as}
use Rattle.perc_key_service.specs.declared.service.Joined.{Joined}
use Rattle.perc_keyset.specs.Set.{absorbed, is_of}
use Rattle.perc_keyset.specs.declared.Entry.{Entry}
use Rattle.perc_keyset.specs.declared.Op.TheVariants.{Add}
use Rattle.perc_member.specs.Each.{MirrorsMember}
use Rattle.perc_member.specs.Making.{IsNewcomer, StartsAs}
use Rattle.perc_member.specs.declared.member.Member as code_member
use Rattle.perc_member.specs.declared.member.Newcomer.{Newcomer}
use Rattle.perc_receiver.specs.Table.{Secret, secret_in}
use Rattle.perc_report_line.specs.Report as line
use Rattle.perc_report_line.specs.Report.{report_text}
use Rattle.perc_run.specs.Joining.{are_used, entry_of, has_pair, is_crowded, is_known, joined, newest}
use Rattle.perc_run.specs.Sound.{IsOrderly}
use Rattle.perc_run.specs.State.{Refused, State, Turn, present_members}
use Rattle.perc_script_line.specs.declared.reason.Reason.TheVariants.{Key, Limit, Name, Order}
use Rattle.perc_script_line.specs.declared.reason.Reason.{Reason}
use Rattle.perc_sent.specs.Sent.{MirrorsRecords}
use Rattle.perc_tunnel.specs.declared.message.MediaKeys.{MediaKeys}
use Rattle.perc_conference_state.specs.declared.conference.Conference as code
use Rattle.perc_conference_state.specs.Keys.{MirrorsService, keys_of, pairs_of}
use Rattle.perc_conference_state.specs.Lookups.{brought}
use Rattle.perc_conference_state.specs.Mirror.{Does, Mirrors}
use Rattle.perc_conference_state.specs.Steps.{join_as, join_fault, newcomer_as, welcomed}
use Rattle.perc_conference_state.proofs.Changing.{Leaves, distributor_moved, issued_moved, records_kept}
use Rattle.perc_conference_state.proofs.Entries.{added, entries_count, next_is_new, stranger}
use Rattle.perc_conference_state.proofs.Issued.{records_under}
use Rattle.perc_conference_state.proofs.Issuing.{newest_last}
use Rattle.perc_conference_state.proofs.Lists.{any_same, each_push}
use Rattle.perc_conference_state.proofs.Served.{keys_from, service_of}
use Rattle.perc_sent.proofs.Kept.{sent_joined, sent_moved}
use Rattle.perc_conference_state.proofs.Turning.{does_goes, untold}

-- ---- the newest record

last_map : {A B : Type 0} (f : A → B) (o : Option A) (xs : List A) → last_or (option_map f o) (map f xs) ≡ option_map f (last_or o xs)
last_map f o [] = refl
last_map f o (x ∷ xs) = last_map f (Some x) xs

-- what is read of the records' last
pub last_read : (read records : List EktKeyRecord) (answer o : Option EktKeyRecord) → read ≡ records → answer ≡ slice_get read (length read - 1) → answer ≡ o
    → slice_get records (length records - 1) ≡ o
last_read read records answer o same is answer_is = ap (λ (rs : List EktKeyRecord). slice_get rs (length rs - 1)) (sym same) ∙ sym is ∙ answer_is

pub newest_is : (profile : Profile) (records : List EktKeyRecord) (secrets : List Secret) (o : Option EktKeyRecord) → MirrorsRecords profile records secrets
    → slice_get records (length records - 1) ≡ o → newest secrets ≡ option_map secret_in o
newest_is profile records secrets o h is =
    ap (last_or None) (sym h.secrets_are) ∙ last_map secret_in None records ∙ ap (option_map secret_in) (sym (last_is records) ∙ is)

-- ---- turns

pub join_early : (s : State) (profile : Profile) (n : Newcomer) (o : Option Secret) → o ≡ None → join_as s profile n o ≡ Refused Order
join_early s profile n o none = rw none refl

refused_by : (known used crowded : Bool) (goes : Turn) (reason : Reason)
    → cond known (Some Name) (cond used (Some Key) (cond crowded (Some Limit) None)) ≡ Some reason
    → cond known (Refused Name) (cond used (Refused Key) (cond crowded (Refused Limit) goes)) ≡ Refused reason
refused_by true used crowded goes reason is = let same : Name ≡ reason = cc in ap Refused same
refused_by false true crowded goes reason is = let same : Key ≡ reason = cc in ap Refused same
refused_by false false true goes reason is = let same : Limit ≡ reason = cc in ap Refused same
refused_by false false false goes reason is = absurd cc

goes_by : (known used crowded : Bool) (goes : Turn)
    → cond known (Some Name) (cond used (Some Key) (cond crowded (Some Limit) None)) ≡ None
    → cond known (Refused Name) (cond used (Refused Key) (cond crowded (Refused Limit) goes)) ≡ goes
goes_by true used crowded goes is = absurd cc
goes_by false true crowded goes is = absurd cc
goes_by false false true goes is = absurd cc
goes_by false false false goes is = refl

pub join_refused : (s : State) (profile : Profile) (n : Newcomer) (o : Option Secret) (secret : Secret) (reason : Reason) → o ≡ Some secret
    → join_fault s n ≡ Some reason → join_as s profile n o ≡ Refused reason
join_refused s profile n o secret reason is fault =
    ap (join_as s profile n) is
    ∙ refused_by (is_known s n.name n.ssrc) (are_used s n.client n.server) (is_crowded s) (joined s (newcomer_as s profile n secret)) reason fault

pub join_goes : (s : State) (profile : Profile) (n : Newcomer) (o : Option Secret) (secret : Secret) → o ≡ Some secret → join_fault s n ≡ None
    → join_as s profile n o ≡ joined s (newcomer_as s profile n secret)
join_goes s profile n o secret is none =
    ap (join_as s profile n) is
    ∙ goes_by (is_known s n.name n.ssrc) (are_used s n.client n.server) (is_crowded s) (joined s (newcomer_as s profile n secret)) none

-- what no fault says of the pairs and of the room
free_by : (known used crowded : Bool) → cond known (Some Name) (cond used (Some Key) (cond crowded (Some Limit) None)) ≡ None → (used ≡ false) × (crowded ≡ false)
free_by true used crowded is = absurd cc
free_by false true crowded is = absurd cc
free_by false false true is = absurd cc
free_by false false false is = (refl, refl)

-- ---- the newcomer

-- the entry of the next member
abbrev next_entry : Newcomer → (association : List ℕ) → (serial : ℕ) → Entry
next_entry n association serial = record { association = association; serial = serial; client = n.client; server = n.server }

abbrev Forwards : code.Conference → State → Entry → Type 0
Forwards d s e = MirrorsDistributor d.distributor (record s { set = absorbed s.set (Add e) })

abbrev number_of : State → List ℕ
number_of s = big_bytes 16 (length s.members + 1)

-- the state once it joined
abbrev with_newcomer : State → Profile → Newcomer → Secret → State
with_newcomer s profile n secret = record s {
  members = s.members ++ newcomer_as s profile n secret ∷ [];
  set = absorbed s.set (Add (entry_of s (newcomer_as s profile n secret)));
}

-- ---- the key distributor lets it in

-- nobody in the set has its association, and there is room
record IsNew (s : State) (association : List ℕ) : Type 0 where
  nobody : list_any (is_of association) s.set ≡ false
  room : length s.set < 64

is_new : (s : State) (n : Newcomer) → IsOrderly s → join_fault s n ≡ None → IsNew s (number_of s)
is_new s n orderly none =
    let free = free_by (is_known s n.name n.ssrc) (are_used s n.client n.server) (is_crowded s) none in
    let present = length (present_members s) in
    let crowded = or_parts (nat_le 64 present) (nat_le 256 (length s.members)) free.1 in
    let one = crowded.0 in
    let below : present < 64 = grind (arith, nat_tests) in
    let count : length s.set ≡ present = ap length orderly.entries ∙ entries_count 0 s.members in
    record {
      nobody = ap (list_any (is_of (number_of s))) orderly.entries ∙ next_is_new s.members orderly.associations orderly.few_members;
      room = omega arith;
    }

pairs_count : (members : List code_member.Member) → length (flat_map pairs_of members) ≡ length members + length members
pairs_count [] = refl
pairs_count (m ∷ members) =
    let rest = pairs_count members in
    ap length (flat_map-cons pairs_of m members) ∙ length-append (pairs_of m) (flat_map pairs_of members) ∙ omega arith

same_sym : (p q : KeyAndSalt) → same_pair p q ≡ same_pair q p
same_sym p q =
    same_from_decides (same_pair p q) (same_pair q p) (same_pair-Decides p q)
    (Decides-like (same_pair q p) (λ (e : q ≡ p). sym e) (λ (e : p ≡ q). sym e) (same_pair-Decides q p))

or_or : (a b c : Bool) → (a || (b || c)) ≡ ((a || b) || c)
or_or true b c = refl
or_or false b c = refl

-- A pair was given exactly where a member brought it.
given_by : (members : List code_member.Member) (pair : KeyAndSalt) → was_given (flat_map pairs_of members) pair ≡ list_any (brought pair) members
given_by [] pair = refl
given_by (m ∷ members) pair =
    let rest = given_by members pair in
    ap (λ (xs : List KeyAndSalt). was_given xs pair) (flat_map-cons pairs_of m members)
    ∙ (λ i. same_sym pair m.client i || (same_sym pair m.server i || rest i))
    ∙ or_or (same_pair m.client pair) (same_pair m.server pair) (list_any (brought pair) members)

neither : (p q : code_member.Member → Bool) (members : List code_member.Member) → list_any (λ m. p m || q m) members ≡ false
    → (list_any p members ≡ false) × (list_any q members ≡ false)
neither p q [] none = (refl, refl)
neither p q (m ∷ members) none =
    let parts = or_parts (p m || q m) (list_any (λ x. p x || q x) members) none in
    let own = or_parts (p m) (q m) parts.0 in
    let rest = neither p q members parts.1 in
    (rw own.0 rest.0, rw own.1 rest.1)

-- Pairs that nobody brought were never given.
repeats_not : (c : code.Conference) (s : State) (n : Newcomer) (k : Service) (association : List ℕ) → Mirrors c s → k.lists.given ≡ flat_map pairs_of c.members.items
    → are_used s n.client n.server ≡ false → repeats (keys_as k association n.client n.server) k.lists ≡ false
repeats_not c s n k association mirrors given unused =
    let members = c.members.items in
    let parts = or_parts (same_pair n.client n.server) (list_any (λ m. has_pair n.client m || has_pair n.server m) s.members) unused in
    let here : list_any (λ m. brought n.client m || brought n.server m) members ≡ false =
    any_same MirrorsMember (λ m. brought n.client m || brought n.server m) (λ m. has_pair n.client m || has_pair n.server m) members s.members mirrors.members
    (λ x m is. rw (is.client, is.server) refl) ∙ parts.1 in
    let both = neither (brought n.client) (brought n.server) members here in
    let apart = parts.0 in
    let first : was_given k.lists.given n.client ≡ false = ap (λ (ps : List KeyAndSalt). was_given ps n.client) given ∙ given_by members n.client ∙ both.0 in
    let second : was_given k.lists.given n.server ≡ false = ap (λ (ps : List KeyAndSalt). was_given ps n.server) given ∙ given_by members n.server ∙ both.1 in
    λ i. apart i || (first i || second i)

-- what it is asked to let in
pub record Asks (c : code.Conference) (profile : Profile) (n : Newcomer) (granted : EktKeyRecord) (k : Service) : Type 0 where
  pub head : c.profile ≡ Some profile
  pub keys : c.keys ≡ Some k
  pub newcomer : IsNewcomer profile n
  pub newest_is : IsRecordFor profile granted
  pub last : slice_get c.records.items (length c.records.items - 1) ≡ Some granted

pub may_join : (c : code.Conference) (s : State) (profile : Profile) (n : Newcomer) (granted : EktKeyRecord) (k : Service) (association : List ℕ) → IsOrderly s → Mirrors c s
    → Asks c profile n granted k → join_fault s n ≡ None → association ≡ number_of s → MayJoin k association n.client n.server granted
may_join c s profile n granted k association orderly mirrors asks none association_is =
    let service = service_of c s profile k mirrors asks.head asks.keys in
    let free = free_by (is_known s n.name n.ssrc) (are_used s n.client n.server) (is_crowded s) none in
    let new = subst (IsNew s) (sym association_is) (is_new s n orderly none) in
    let few = orderly.few_members in
    let count = mirrors.members.count in
    let members : length k.lists.members ≡ length s.set = ap length service.members ∙ length-map s.set (keys_of profile) in
    let given : length k.lists.given ≡ length c.members.items + length c.members.items = ap length service.given ∙ pairs_count c.members.items in
    let room = new.room in
    record {
      stranger = ap (λ (ks : List MediaKeys). member_of ks association) service.members ∙ stranger profile association s.set new.nobody;
      room = omega arith;
      few = omega arith;
      client_size = asks.newcomer.client ∙ ap key_length (sym service.profile_is);
      server_size = asks.newcomer.server ∙ ap key_length (sym service.profile_is);
      unused = repeats_not c s n k association mirrors service.given free.0;
      newest_is =
          ap keeper.newest service.issued
          ∙ newest_last profile c.records.items s.secrets granted (records_under c s profile mirrors asks.head) asks.last;
      granted_size = asks.newest_is.key ∙ ap key_length (sym service.profile_is);
    }

-- ---- what comes back

-- the entry of the keys that the distributor was sent
abbrev pub entry_told : Joined → (serial : ℕ) → Entry
entry_told j serial = record { association = j.keys.association; serial = serial; client = j.keys.client; server = j.keys.server }

-- The member and the distributor have the pairs that it brought, and the member the newest record.
pub record ComesBack (k after : Service) (n : Newcomer) (granted : EktKeyRecord) (association : List ℕ) (j : Joined) : Type 0 where
  pub answer : j ≡ record { keys = keys_as k association n.client n.server; client = n.client; server = n.server; granted = granted }
  pub behind : after ≡ record k { lists = with_member (keys_as k association n.client n.server) k.lists }

-- the next member of the code, and what the line leaves
pub record Enters (c d : code.Conference) (profile : Profile) (n : Newcomer) (association : List ℕ) (secret : Secret) (after : Service) (b : code_member.Member) : Type 0 where
  pub starts : StartsAs profile n association secret b
  pub leaves : Leaves c d
  pub keys : d.keys ≡ Some after
  pub members : d.members.items ≡ c.members.items ++ b ∷ []

pairs_push : (members : List code_member.Member) (b : code_member.Member) → flat_map pairs_of (members ++ b ∷ []) ≡ flat_map pairs_of members ++ pairs_of b
pairs_push members b =
    flat_map-append pairs_of members (b ∷ []) ∙ ap (λ (xs : List KeyAndSalt). flat_map pairs_of members ++ xs) (flat_map-cons pairs_of b [])

serves_more : (c d : code.Conference) (s : State) (profile : Profile) (n : Newcomer) (secret : Secret) (k after : Service) (b : code_member.Member) → Mirrors c s
    → MirrorsService c s profile k → IsNew s (number_of s) → Enters c d profile n (number_of s) secret after b
    → MirrorsService d (with_newcomer s profile n secret) profile (record k { lists = with_member (keys_as k (number_of s) n.client n.server) k.lists })
serves_more c d s profile n secret k after b mirrors service new enters =
    let e = entry_of s (newcomer_as s profile n secret) in
    let starts = enters.starts.mirrors in
    let own : pairs_of b ≡ n.client ∷ n.server ∷ [] = λ i. starts.client i ∷ starts.server i ∷ [] in
    let brought_all : flat_map pairs_of d.members.items ≡ flat_map pairs_of c.members.items ++ n.client ∷ n.server ∷ [] =
    ap (flat_map pairs_of) enters.members ∙ pairs_push c.members.items b ∙ ap (λ (xs : List KeyAndSalt). flat_map pairs_of c.members.items ++ xs) own in
    let set : map (keys_of profile) (absorbed s.set (Add e)) ≡ map (keys_of profile) s.set ++ keys_of profile e ∷ [] =
    ap (map (keys_of profile)) (added e s.set new.nobody new.room) ∙ map-append (keys_of profile) s.set (e ∷ []) in
    let same : keys_as k (number_of s) n.client n.server ≡ keys_of profile e =
    ap (λ (p : Profile). record { association = number_of s; profile = p; client = n.client; server = n.server }) service.profile_is in
    record {
      profile_is = service.profile_is;
      issued = service.issued ∙ sym (records_kept c d enters.leaves);
      given = ap (λ (ps : List KeyAndSalt). ps ++ n.client ∷ n.server ∷ []) service.given ∙ sym brought_all;
      members = (λ i. service.members i ++ same i ∷ []) ∙ sym set;
    }

mirrors_joined : (c d : code.Conference) (s : State) (profile : Profile) (n : Newcomer) (secret : Secret) (k after : Service) (b : code_member.Member) → Mirrors c s
    → c.profile ≡ Some profile → MirrorsService c s profile k → IsNew s (number_of s)
    → after ≡ record k { lists = with_member (keys_as k (number_of s) n.client n.server) k.lists }
    → Enters c d profile n (number_of s) secret after b → Forwards d s (next_entry n (number_of s) (length s.members)) → Mirrors d (with_newcomer s profile n secret)
mirrors_joined c d s profile n secret k after b mirrors head service new behind enters forwards =
    let starts = enters.starts in
    let leaves = enters.leaves in
    let next = with_newcomer s profile n secret in
    let sent = sent_joined c.members.items s b secret.spi n.key mirrors.sent starts.sends starts.keys in
    record {
      profile = leaves.profile ∙ mirrors.profile;
      issued = issued_moved c d s next leaves.issued refl refl mirrors.issued;
      members = rw enters.members (each_push MirrorsMember c.members.items s.members b (newcomer_as s profile n secret) mirrors.members starts.mirrors);
      distributor = distributor_moved d.distributor (record s { set = next.set }) next refl refl refl forwards;
      keys =
          keys_from d next profile (record k { lists = with_member (keys_as k (number_of s) n.client n.server) k.lists }) (sym mirrors.profile ∙ head)
          (enters.keys ∙ ap Some behind) (serves_more c d s profile n secret k after b mirrors service new enters);
      datagrams = rw leaves.datagrams mirrors.datagrams;
      records = rw leaves.records mirrors.records;
      none = rw leaves.records mirrors.none;
      sent = rw enters.members (sent_moved (c.members.items ++ b ∷ []) s next refl refl sent);
    }

lets_in_as : (c d : code.Conference) (s : State) (profile : Profile) (n : Newcomer) (secret : Secret) (k after : Service) (b : code_member.Member) (association : List ℕ)
    (serial : ℕ) (before behind : List ℕ) → Mirrors c s → c.profile ≡ Some profile → MirrorsService c s profile k → IsNew s (number_of s)
    → serial ≡ length s.members → association ≡ number_of s → after ≡ record k { lists = with_member (keys_as k association n.client n.server) k.lists }
    → Enters c d profile n association secret after b → Forwards d s (next_entry n association serial) → behind ≡ before ++ report_text (line.Joined n.name association)
    → Does (joined s (newcomer_as s profile n secret)) (Ok untold) before behind d
lets_in_as c d s profile n secret k after b association serial before behind mirrors head service new serial_is association_is heard enters forwards text =
    let m = newcomer_as s profile n secret in
    let enters_so = subst (λ (x : List ℕ). Enters c d profile n x secret after b) association_is enters in
    let heard_so = heard ∙ ap (λ (x : List ℕ). record k { lists = with_member (keys_as k x n.client n.server) k.lists }) association_is in
    let forwards_so = subst (Forwards d s) (λ i. next_entry n (association_is i) (serial_is i)) forwards in
    does_goes (joined s m) (line.Joined m.name m.association) (with_newcomer s profile n secret) untold before behind d refl
    (text ∙ ap (λ x. before ++ report_text (line.Joined n.name x)) association_is) refl
    (mirrors_joined c d s profile n secret k after b mirrors head service new heard_so enters_so forwards_so)

pub lets_in : (c d : code.Conference) (s : State) (profile : Profile) (n : Newcomer) (granted : EktKeyRecord) (k after : Service) (j : Joined) (b : code_member.Member)
    (association : List ℕ) (serial : ℕ) (before behind : List ℕ) → IsOrderly s → Mirrors c s → Asks c profile n granted k → join_fault s n ≡ None
    → serial ≡ length s.members → association ≡ number_of s → ComesBack k after n granted association j
    → Enters c d profile (welcomed n j) association (secret_in j.granted) after b → Forwards d s (entry_told j serial)
    → behind ≡ before ++ report_text (line.Joined n.name association)
    → Does (joined s (newcomer_as s profile n (secret_in granted))) (Ok untold) before behind d
lets_in c d s profile n granted k after j b association serial before behind orderly mirrors asks none serial_is association_is back enters forwards text =
    let service = service_of c s profile k mirrors asks.head asks.keys in
    lets_in_as c d s profile n (secret_in granted) k after b association serial before behind mirrors asks.head service (is_new s n orderly none) serial_is association_is
    back.behind (subst (λ (x : Joined). Enters c d profile (welcomed n x) association (secret_in x.granted) after b) back.answer enters)
    (subst (λ (x : Joined). Forwards d s (entry_told x serial)) back.answer forwards) text
