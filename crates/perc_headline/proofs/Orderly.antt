-- What each line does keeps a state orderly.
use Rattle.std.proofs.Common.{◌≡◌, ℕ, ◌+◌, ◌*◌, ◌<◌, ◌≤◌, inl, inr, Bool, true, false, cond, not, List, [], ◌∷◌, ◌++◌, length, Option, Some, None, Result, Ok, Err, refl, sym, ap, ◌∙◌, subst, arith}
use Rattle.std.specs.List.{filter_map, list_all, list_any}
use Rattle.std.specs.Option.{is_some, option_map, option_map_or}
use Rattle.std.specs.Prelude.{All, AllPairs, Contains, nat_le, nat_lt}
use Rattle.std.specs.Str.{bytes_eq}
use Rattle.std.proofs.lemmas.Bool.{eqb-true, leb-false, lt-leb, ltb-false, or_parts}
use Rattle.std.proofs.lemmas.List.{length-map, length_push}
use Rattle.std.proofs.lemmas.List.Elements.{All-contains, All-nil, All-push, All-same}
use Rattle.std.proofs.lemmas.Option.{same_Some}
use Rattle.byteorder.specs.Endian.{big_bytes}
use Rattle.perc_base.specs.declared.profile.Profile.{Profile}
use Rattle.perc_base.specs.Profile.{key_length}
use Rattle.perc_rtp.specs.Carried.{kind_of}
use Rattle.perc_rtp.specs.declared.carried.Carried.{Carried}
use Rattle.perc_rtp.specs.declared.carried.Carried.TheVariants as carried
use Rattle.perc_keyset.specs.Set.{absorbed, most_entries, without}
use Rattle.perc_keyset.specs.declared.Entry.{Entry}
use Rattle.perc_keyset.specs.declared.Op.TheVariants.{Add, Remove}
use Rattle.perc_keyset.proofs.SetLaws.{absorbed_fits, absorbed_removal}
use Rattle.perc_ohb.specs.Rewriting.{Rewrite}
use Rattle.perc_receiver.specs.Table.{Secret, secret_of}
use Rattle.perc_receiver.specs.Receiver.{Receiver}
use Rattle.perc_receiver.specs.Foreign.{is_foreign}
use Rattle.perc_incoming.specs.Control.{outcome_rtcp}
use Rattle.perc_endpoint.specs.Endpoint.{after_grant, after_rekey, grant_answer, rekey_answer}
use Rattle.perc_endpoint.specs.declared.fault.GrantFault.{GrantFault}
use Rattle.perc_distributor.specs.Forwarding.{media_step}
use Rattle.perc_script_line.specs.Script as script
use Rattle.perc_script_line.specs.Script.{Changes, IsScript, Script, fits, key_fits, script_of}
use Rattle.perc_script_line.specs.declared.reason.Reason.TheVariants as reason
use Rattle.perc_report_line.specs.Report as report
use Rattle.perc_report_line.specs.Report.{Report}
use Rattle.perc_run.specs.State.{Datagram, Goes, Halts, Member, Refused, State, Turn, at_member, datagram_at, member_named, most_datagrams, most_joins, most_members, most_spis, nobody, present_members, with_member}
use Rattle.perc_run.specs.Keys.{ekt_turn, grant_turn, granted, rekey_turn, rekeyed, with_grant, with_rekey}
use Rattle.perc_run.specs.Joining.{are_used, entry_of, gone, is_crowded, is_known, join_turn, join_with, joined, leave_turn, newest, pair_of}
use Rattle.perc_run.specs.Control.{control_by, with_control}
use Rattle.perc_run.specs.Sending.{send_turn, sent_by, sent_turn, with_send}
use Rattle.perc_run.specs.Forwarding.{are_present, associations_of, count_recipients, forward_by, forward_turn, forwarded, numbered, packet_in, reported_takings, rewrite_by, takings}
use Rattle.perc_run.specs.Delivering.{Judge, answer_line, control_line, deliver_turn, delivered, heard_turn, with_receiver}
use Rattle.perc_run.specs.Turn.{first_turn, form_turn, turn, turn_under}
use Rattle.perc_run.specs.Report.{turn_at}
use Rattle.perc_run.specs.Sound.{AreOfProfile, AreOthers, IsMember, IsOrderly, core_of, entries_from}
use Rattle.perc_headline.proofs.Lookups.{IsFound, Keeps, at_push, changed, changed_all, found_by_name}
use Rattle.perc_headline.proofs.Secrets.{IsOfSpi, found_secret}
use Rattle.perc_headline.proofs.Sound.{changed_sound, member_same, sound_issue, sound_join, sound_made, sound_nobody, sound_profile}
use Rattle.perc_headline.proofs.Sent.{Said, said_content, said_line, sound_sent}
use Rattle.perc_headline.proofs.Quiet.{takings_quiet}
use Rattle.perc_headline.proofs.Lines.{Newcomer, all_others, granted_sends, join_line, member_of, new_sends, rekeyed_sends, right_secret, secret_issued}
use Rattle.perc_headline.proofs.Wires.{after_sending, is_sender}
use Rattle.perc_headline.proofs.Entries.{AreNumbered, SameEntry, changed_entry, entries_count, entries_push, entries_same, numbered_changed, set_stays, set_without}
use Rattle.perc_headline.proofs.Recipients.{AreMembers, forward_few}
use Rattle.perc_headline.proofs.Hostile.{HoldsOfAdded, HoldsOfControl, after_control_packet, alter_holds, control_keeps, control_sends, graft_holds, inject_holds, reseal_holds, rtcp_holds, with_datagram}
use Rattle.perc_headline.proofs.Runs.{HasBounds, join_key}

-- Where the line goes on, the state behind it is orderly.
abbrev pub StaysOrderly : Turn → Type 0
StaysOrderly (Goes lines next) = IsOrderly next
StaysOrderly (Refused reason) = Unit {0}
StaysOrderly (Halts name) = Unit {0}

by_name : (s : State) (name : List ℕ) (goes : Member → Turn) (found : Option Member) → member_named name s ≡ found
    → ((m : Member) → IsFound s.members name m → StaysOrderly (goes m)) → StaysOrderly (option_map_or goes found (Refused reason.Name))
by_name s name goes None e each = tt
by_name s name goes (Some m) e each = each m (found_by_name s name m e)

at_name : (s : State) (name : List ℕ) (goes : Member → Turn) → ((m : Member) → IsFound s.members name m → StaysOrderly (goes m)) → StaysOrderly (at_member s name goes)
at_name s name goes each = by_name s name goes (member_named name s) refl each

-- ---- the members

-- what an orderly state says of its members alone
record AreOrdered (profile : Option Profile) (members : List Member) : Type 0 where
  profiles : AreOfProfile profile members
  clients : All (λ (m : Member). m.endpoint.sending.client ≡ m.client) members
  associations : AreNumbered members
  few : length members ≤ most_joins

are_ordered : (s : State) → IsOrderly s → AreOrdered s.profile s.members
are_ordered s o = record { profiles = o.profiles; clients = o.clients; associations = o.associations; few = o.few_members }

are_members : (s : State) → IsOrderly s → AreMembers s.members
are_members s o = let few = o.few_members in record { others = o.sound.others; numbered = o.associations; few = omega arith }

-- The change keeps associations, and at this member the profile and what it sends under.
record IsTame (m : Member) (change : Member → Member) : Type 0 where
  association : (n : Member) → (change n).association ≡ n.association
  profile : (change m).endpoint.profile ≡ m.endpoint.profile
  client : m.endpoint.sending.client ≡ m.client → (change m).endpoint.sending.client ≡ (change m).client

profiles_changed : (profile : Option Profile) (members : List Member) (m : Member) (change : Member → Member) → AllPairs AreOthers members → Contains members m
    → (change m).endpoint.profile ≡ m.endpoint.profile → AreOfProfile profile members → AreOfProfile profile (with_member m.name change members)
profiles_changed None members m change others there same is = ap (with_member m.name change) is
profiles_changed (Some profile) members m change others there same is =
    let P : Member → Type 0 = λ n. n.endpoint.profile ≡ profile in
    changed_all P P m change members others there is (λ own. same ∙ own) (λ n other it. it)

changed_association : (name : List ℕ) (change : Member → Member) → ((m : Member) → (change m).association ≡ m.association) → (m : Member)
    → (changed name change m).association ≡ m.association
changed_association name change same m = at (bytes_eq name m.name) where
  at : (b : Bool) → (cond b (change m) m).association ≡ m.association
  at true = same m
  at false = refl

ordered_changed : (profile : Option Profile) (members : List Member) (m : Member) (change : Member → Member) → AllPairs AreOthers members → Contains members m → IsTame m change
    → AreOrdered profile members → AreOrdered profile (with_member m.name change members)
ordered_changed profile members m change others there tame is =
    let P : Member → Type 0 = λ n. n.endpoint.sending.client ≡ n.client in
    let count = length-map members (changed m.name change) in
    let few = is.few in record {
      profiles = profiles_changed profile members m change others there tame.profile is.profiles;
      clients = changed_all P P m change members others there is.clients tame.client (λ n other it. it);
      associations = numbered_changed (changed m.name change) members (changed_association m.name change tame.association) is.associations;
      few = omega arith;
    }

-- A member changes and its entry stays: so does all else but what is sent and heard.
record IsChange (s : State) (m : Member) (change : Member → Member) : Type 0 where
  there : Contains s.members m
  keeps : Keeps change
  entry : (n : Member) → SameEntry (change n) n
  member : IsMember s.secrets s.table (length s.datagrams) m → IsMember s.secrets s.table (length s.datagrams) (change m)
  profile : (change m).endpoint.profile ≡ m.endpoint.profile
  client : (change m).endpoint.sending.client ≡ m.endpoint.sending.client

is_tame : (s : State) (m : Member) (change : Member → Member) → IsChange s m change → IsTame m change
is_tame s m change is = record {
  association = λ n. (is.entry n).association;
  profile = is.profile;
  client = λ own. is.client ∙ own ∙ sym (is.entry m).client;
}

entries_changed : (s : State) (m : Member) (change : Member → Member) → ((n : Member) → SameEntry (change n) n) → s.set ≡ entries_from 0 s.members
    → s.set ≡ entries_from 0 (with_member m.name change s.members)
entries_changed s m change same is = is ∙ sym (entries_same (changed m.name change) 0 s.members (changed_entry m.name change same))

member_changes : (s : State) (m : Member) (change : Member → Member) → IsChange s m change → IsOrderly s → IsOrderly (record s { members = with_member m.name change s.members })
member_changes s m change is o =
    let ordered = ordered_changed s.profile s.members m change o.sound.others is.there (is_tame s m change is) (are_ordered s o) in record {
      sound = changed_sound (core_of s) m change is.there is.keeps is.member o.sound;
      profiles = ordered.profiles;
      clients = ordered.clients;
      associations = ordered.associations;
      entries = entries_changed s m change is.entry o.entries;
      few_spis = o.few_spis;
      few_members = ordered.few;
      few_datagrams = o.few_datagrams;
    }

-- ---- the head

pub orderly_nobody : IsOrderly nobody
orderly_nobody = record {
  sound = sound_nobody;
  profiles = refl;
  clients = All-nil (λ (m : Member). m.endpoint.sending.client ≡ m.client);
  associations = λ place m at. absurd (grind arith);
  entries = refl;
  few_spis = omega arith;
  few_members = omega arith;
  few_datagrams = omega arith;
}

head_orderly : (s : State) (profile : Profile) → s.profile ≡ None → IsOrderly s → IsOrderly (record s { profile = Some profile })
head_orderly s profile none o =
    let P : Member → Type 0 = λ m. m.endpoint.profile ≡ profile in
    let empty : s.members ≡ [] = subst (λ (p : Option Profile). AreOfProfile p s.members) none o.profiles in record {
      sound = sound_profile (core_of s) profile none o.sound;
      profiles = All-same P s.members [] empty (All-nil P);
      clients = o.clients;
      associations = o.associations;
      entries = o.entries;
      few_spis = o.few_spis;
      few_members = o.few_members;
      few_datagrams = o.few_datagrams;
    }

-- ---- ekt

ekt_by : (s : State) (profile : Profile) (key salt : List ℕ) (known full : Bool) → s.profile ≡ Some profile → IsScript (script.Ekt key salt) → key_fits profile key ≡ true
    → nat_le most_spis (length s.secrets) ≡ full → IsOrderly s
    → StaysOrderly (cond known (Refused reason.Key) (cond full (Refused reason.Limit)
    (Goes (report.Ekt (length s.secrets + 1) ∷ []) (record s { secrets = s.secrets ++ secret_issued s key salt ∷ [] }))))
ekt_by s profile key salt true full head said fit room o = tt
ekt_by s profile key salt false true head said fit room o = tt
ekt_by s profile key salt false false head said fit room o =
    let few = leb-false most_spis (length s.secrets) room in
    let secret : Secret = secret_issued s key salt in
    let count = length_push s.secrets secret in record {
      sound = sound_issue (core_of s) profile secret head (right_secret s key salt said few) refl (eqb-true (length key) (key_length profile) fit) o.sound;
      profiles = o.profiles;
      clients = o.clients;
      associations = o.associations;
      entries = o.entries;
      few_spis = omega arith;
      few_members = o.few_members;
      few_datagrams = o.few_datagrams;
    }

ekt_orderly : (s : State) (profile : Profile) (key salt : List ℕ) → s.profile ≡ Some profile → IsScript (script.Ekt key salt) → key_fits profile key ≡ true → IsOrderly s
    → StaysOrderly (ekt_turn s key salt)
unfolding ekt_turn
ekt_orderly s profile key salt head said fit o =
    ekt_by s profile key salt (list_any (λ x. bytes_eq x.key key) s.secrets) (nat_le most_spis (length s.secrets)) head said fit refl o

-- ---- join

profiles_more : (profile : Profile) (found : Option Profile) (members : List Member) (m : Member) → found ≡ Some profile → m.endpoint.profile ≡ profile → AreOfProfile found members
    → AreOfProfile found (members ++ m ∷ [])
profiles_more profile None members m e is all = absurd (cc)
profiles_more profile (Some other) members m e is all =
    All-push (λ (n : Member). n.endpoint.profile ≡ other) members m all (is ∙ sym (same_Some other profile e))

numbered_more : (members : List Member) (m : Member) → m.association ≡ big_bytes 16 (length members + 1) → AreNumbered members → AreNumbered (members ++ m ∷ [])
numbered_more members m own numbered place n at =
    elim (at_push members m place n at) [
      | inl old ↦ numbered place n old.1
      | inr new ↦ ap (λ (x : Member). x.association) (sym new.1) ∙ own ∙ ap (λ (k : ℕ). big_bytes 16 (k + 1)) (sym new.0)
    ]

-- An entry of another association has room.
set_more : (set : List Entry) (e : Entry) → without e.association set ≡ set → length set < most_entries → absorbed set (Add e) ≡ set ++ e ∷ []
set_more set e same room =
    let few : length (without e.association set) < most_entries = rw same room in
    absorbed_fits set e (lt-leb most_entries (length (without e.association set)) few) ∙ ap (λ (es : List Entry). es ++ e ∷ []) same

set_joined : (s : State) (m : Member) → AreMembers s.members → s.set ≡ entries_from 0 s.members → m.present ≡ true → m.association ≡ big_bytes 16 (length s.members + 1)
    → length (present_members s) < most_members → absorbed s.set (Add (entry_of s m)) ≡ entries_from 0 (s.members ++ m ∷ [])
set_joined s m are set there number room =
    let es : List Entry = entries_from 0 s.members in
    let e : Entry = entry_of s m in
    let stays : without m.association es ≡ es = ap (λ (a : List ℕ). without a es) number ∙ set_stays s.members are.numbered are.few in
    let count = entries_count 0 s.members in
    let one : entries_from (length s.members) (m ∷ []) ≡ e ∷ [] = rw there refl in
    ap (λ (set : List Entry). absorbed set (Add e)) set ∙ set_more es e stays (omega arith)
    ∙ ap (λ (more : List Entry). es ++ more) (sym one) ∙ sym (entries_push 0 (length s.members) s.members m (omega arith))

joins : (s : State) (profile : Profile) (w : Newcomer) (secret : Secret) → s.profile ≡ Some profile → IsScript (join_line w) → key_fits profile w.key ≡ true → newest s.secrets ≡ Some secret
    → is_known s w.name w.ssrc ≡ false → is_crowded s ≡ false → IsOrderly s → StaysOrderly (joined s (member_of s profile w secret))
joins s profile w secret head said fit last known crowded o =
    let m : Member = member_of s profile w secret in
    let room = or_parts (nat_le most_members (length (present_members s))) (nat_le most_joins (length s.members)) crowded in
    let few = leb-false most_joins (length s.members) room.1 in
    let count = length_push s.members m in record {
      sound = sound_join (core_of s) m (new_sends s profile w secret head said fit last o.sound) (all_others w.name w.ssrc m s.members refl refl known) o.sound;
      profiles = profiles_more profile s.profile s.members m head refl o.profiles;
      clients = All-push (λ (n : Member). n.endpoint.sending.client ≡ n.client) s.members m o.clients refl;
      associations = numbered_more s.members m refl o.associations;
      entries = set_joined s m (are_members s o) o.entries refl refl (leb-false most_members (length (present_members s)) room.0);
      few_spis = o.few_spis;
      few_members = omega arith;
      few_datagrams = o.few_datagrams;
    }

join_by : (s : State) (profile : Profile) (w : Newcomer) (secret : Secret) (known used crowded : Bool) → s.profile ≡ Some profile → IsScript (join_line w) → key_fits profile w.key ≡ true
    → newest s.secrets ≡ Some secret → is_known s w.name w.ssrc ≡ known → is_crowded s ≡ crowded → IsOrderly s
    → StaysOrderly (cond known (Refused reason.Name) (cond used (Refused reason.Key) (cond crowded (Refused reason.Limit) (joined s (member_of s profile w secret)))))
join_by s profile w secret true used crowded head said fit last is full o = tt
join_by s profile w secret false true crowded head said fit last is full o = tt
join_by s profile w secret false false true head said fit last is full o = tt
join_by s profile w secret false false false head said fit last is full o = joins s profile w secret head said fit last is full o

join_under : (s : State) (profile : Profile) (w : Newcomer) (found : Option Secret) → s.profile ≡ Some profile → IsScript (join_line w) → key_fits profile w.key ≡ true
    → newest s.secrets ≡ found → IsOrderly s → StaysOrderly (join_with s profile w.name w.ssrc w.seq (pair_of w.client) (pair_of w.server) w.key found)
join_under s profile w None head said fit last o = tt
join_under s profile w (Some secret) head said fit last o =
    join_by s profile w secret (is_known s w.name w.ssrc) (are_used s (pair_of w.client) (pair_of w.server)) (is_crowded s) head said fit last refl refl o

join_orderly : (s : State) (profile : Profile) (w : Newcomer) → s.profile ≡ Some profile → IsScript (join_line w) → key_fits profile w.key ≡ true → IsOrderly s
    → StaysOrderly (join_turn s profile w.name w.ssrc w.seq w.client w.server w.key)
unfolding join_turn
join_orderly s profile w head said fit o = join_under s profile w (newest s.secrets) head said fit refl o

-- ---- leave

leaves : (s : State) (m : Member) → Contains s.members m → IsOrderly s
    → IsOrderly (record s { members = with_member m.name gone s.members; set = absorbed s.set (Remove m.association) })
leaves s m there o =
    let are = are_members s o in
    let ordered = ordered_changed s.profile s.members m gone o.sound.others there (record { association = λ n. refl; profile = refl; client = λ own. own }) (are_ordered s o) in record {
      sound = changed_sound (core_of s) m gone there (record { name = λ n. refl; ssrc = λ n. refl })
          (λ is. member_same s.secrets s.table (length s.datagrams) m (gone m) refl refl is) o.sound;
      profiles = ordered.profiles;
      clients = ordered.clients;
      associations = ordered.associations;
      entries = absorbed_removal s.set m.association ∙ ap (without m.association) o.entries ∙ sym (set_without s.members m are.others are.numbered are.few there);
      few_spis = o.few_spis;
      few_members = ordered.few;
      few_datagrams = o.few_datagrams;
    }

leave_orderly : (s : State) (name : List ℕ) → IsOrderly s → StaysOrderly (leave_turn s name)
unfolding leave_turn
leave_orderly s name o = at_name s name _ λ m found. leaves s m found.there o

-- ---- grant and rekey

grant_by : (s : State) (name key : List ℕ) (spi : ℕ) (profile : Profile) (m : Member) (secret : Secret) (answer : Result ℕ GrantFault) → s.profile ≡ Some profile
    → IsScript (script.Grant name spi key) → key_fits profile key ≡ true → IsFound s.members name m → IsOfSpi s.secrets spi secret → grant_answer m.endpoint secret key ≡ answer
    → IsOrderly s → StaysOrderly (granted s m secret key answer)
grant_by s name key spi profile m secret (Err fault) head said fit found of answer o = o
grant_by s name key spi profile m secret (Ok epoch) head said fit found of answer o =
    member_changes s m (with_grant secret key) (record {
      there = found.there;
      keeps = record { name = λ n. refl; ssrc = λ n. refl };
      entry = λ n. record { association = refl; client = refl; server = refl; present = refl };
      member = λ is. granted_sends s name key spi profile m secret epoch head said fit of answer o.sound is;
      profile = ap (λ (a : Result ℕ GrantFault). (after_grant m.endpoint secret key a).profile) answer;
      client = ap (λ (a : Result ℕ GrantFault). (after_grant m.endpoint secret key a).sending.client) answer;
    }) o

grant_at : (s : State) (name key : List ℕ) (spi : ℕ) (profile : Profile) (m : Member) (secret : Option Secret) → s.profile ≡ Some profile → IsScript (script.Grant name spi key)
    → key_fits profile key ≡ true → IsFound s.members name m → secret_of s.secrets spi ≡ secret → IsOrderly s
    → StaysOrderly (option_map_or (λ x. granted s m x key (grant_answer m.endpoint x key)) secret (Refused reason.Name))
grant_at s name key spi profile m None head said fit found of o = tt
grant_at s name key spi profile m (Some secret) head said fit found of o =
    grant_by s name key spi profile m secret (grant_answer m.endpoint secret key) head said fit found (found_secret s.secrets spi secret of) refl o

grant_orderly : (s : State) (name key : List ℕ) (spi : ℕ) (profile : Profile) → s.profile ≡ Some profile → IsScript (script.Grant name spi key) → key_fits profile key ≡ true → IsOrderly s
    → StaysOrderly (grant_turn s name spi key)
unfolding grant_turn
grant_orderly s name key spi profile head said fit o =
    at_name s name _ λ m found. grant_at s name key spi profile m (secret_of s.secrets spi) head said fit found refl o

rekey_by : (s : State) (name key : List ℕ) (profile : Profile) (m : Member) (answer : Result ℕ GrantFault) → s.profile ≡ Some profile → IsScript (script.Rekey name key)
    → key_fits profile key ≡ true → IsFound s.members name m → rekey_answer m.endpoint key ≡ answer → IsOrderly s → StaysOrderly (rekeyed s m key answer)
rekey_by s name key profile m (Err fault) head said fit found answer o = o
rekey_by s name key profile m (Ok epoch) head said fit found answer o =
    member_changes s m (with_rekey key) (record {
      there = found.there;
      keeps = record { name = λ n. refl; ssrc = λ n. refl };
      entry = λ n. record { association = refl; client = refl; server = refl; present = refl };
      member = λ is. rekeyed_sends s name key profile m epoch head said fit answer o.sound is;
      profile = ap (λ (a : Result ℕ GrantFault). (after_rekey m.endpoint key a).profile) answer;
      client = ap (λ (a : Result ℕ GrantFault). (after_rekey m.endpoint key a).sending.client) answer;
    }) o

rekey_orderly : (s : State) (name key : List ℕ) (profile : Profile) → s.profile ≡ Some profile → IsScript (script.Rekey name key) → key_fits profile key ≡ true → IsOrderly s
    → StaysOrderly (rekey_turn s name key)
unfolding rekey_turn
rekey_orderly s name key profile head said fit o =
    at_name s name _ λ m found. rekey_by s name key profile m (rekey_answer m.endpoint key) head said fit found refl o

-- ---- send

send_by : (s : State) (w : Said) (m : Member) (full : Bool) → IsScript (said_line w) → IsFound s.members w.name m → nat_le most_datagrams (length s.datagrams) ≡ full → IsOrderly s
    → StaysOrderly (cond full (Refused reason.Limit) (Goes (report.WireUp (length s.datagrams + 1) m.name (sent_by m (said_content w)).octets ∷ []) (after_sending s m w)))
send_by s w m true said found room o = tt
send_by s w m false said found room o =
    let left = leb-false most_datagrams (length s.datagrams) room in
    let d : Datagram = sent_by m (said_content w) in
    let count = length_push s.datagrams d in
    let ordered = ordered_changed s.profile s.members m with_send o.sound.others found.there (record { association = λ n. refl; profile = refl; client = λ own. own }) (are_ordered s o) in record {
      sound = sound_sent (core_of s) m (said_content w) (length (s.datagrams ++ d ∷ [])) count (is_sender s w m said found.there left o.sound) o.sound;
      profiles = ordered.profiles;
      clients = ordered.clients;
      associations = ordered.associations;
      entries = entries_changed s m with_send (λ n. record { association = refl; client = refl; server = refl; present = refl }) o.entries;
      few_spis = o.few_spis;
      few_members = ordered.few;
      few_datagrams = omega arith;
    }

send_orderly : (s : State) (w : Said) → IsScript (said_line w) → IsOrderly s → StaysOrderly (send_turn s w.name (said_content w))
unfolding send_turn
send_orderly s w said o =
    at_name s w.name (λ m. sent_turn s m (said_content w)) (λ m found. send_by s w m (nat_le most_datagrams (length s.datagrams)) said found refl o)

-- ---- inject, alter, graft, reseal and rtcp

-- a datagram more on the wire
adds : (s : State) (d : Datagram) → length s.datagrams < most_datagrams → IsOrderly s → IsOrderly (with_datagram s d)
adds s d room o =
    let count = length_push s.datagrams d in record {
      sound = sound_made (core_of s) (length (s.datagrams ++ d ∷ [])) (omega arith) o.sound;
      profiles = o.profiles;
      clients = o.clients;
      associations = o.associations;
      entries = o.entries;
      few_spis = o.few_spis;
      few_members = o.few_members;
      few_datagrams = omega arith;
    }

added_orderly : (s : State) → IsOrderly s → HoldsOfAdded StaysOrderly s
added_orderly s o = record { refused = λ reason. tt; goes = λ told d quiet size room. adds s d room o }

-- The change is made in the state with the datagram; who sends it was sound before.
controls : (s : State) (m : Member) (plain : List ℕ) → Contains s.members m → length s.datagrams < most_datagrams → IsOrderly s → IsOrderly (after_control_packet s m plain)
controls s m plain there room o =
    let d : Datagram = control_by m plain in
    let sends = All-contains (IsMember s.secrets s.table (length s.datagrams)) s.members m o.sound.members there in
    member_changes (with_datagram s d) m with_control (record {
      there = there;
      keeps = control_keeps;
      entry = λ n. record { association = refl; client = refl; server = refl; present = refl };
      member = λ is. control_sends s.secrets s.table (length s.datagrams) (length (s.datagrams ++ d ∷ [])) m (length_push s.datagrams d) room sends;
      profile = refl;
      client = refl;
    }) (adds s d room o)

control_orderly : (s : State) (name plain : List ℕ) → IsOrderly s → HoldsOfControl StaysOrderly s name plain
control_orderly s name plain o = record { refused = λ reason. tt; goes = λ m found room. controls s m plain found.there room o }

-- ---- forward

forwards : (s : State) (m : Member) (numbers : List ℕ) (change : Rewrite) (to : Option (List (List ℕ))) → Contains s.members m
    → length s.datagrams + length numbers * count_recipients s m to ≤ most_datagrams → IsOrderly s → StaysOrderly (forwarded s m numbers change to)
forwards s m numbers change to there room o =
    let opened = takings s.set s.heard m.association (numbered s.datagrams numbers) in
    let step = media_step 0 1 s.set (filter_map packet_in opened.0) change (option_map (associations_of s) to) s.sealing in
    let told = reported_takings s.members change step.0 0 s.datagrams opened.0 in
    let quiet = takings_quiet s.members change step.0 0 s.datagrams opened.0 in
    let few = forward_few s m numbers change to (are_members s o) o.entries there in record {
      sound = sound_made (core_of s) (length told.1) quiet.more o.sound;
      profiles = o.profiles;
      clients = o.clients;
      associations = o.associations;
      entries = o.entries;
      few_spis = o.few_spis;
      few_members = o.few_members;
      few_datagrams = omega arith;
    }

forward_tested : (s : State) (m : Member) (numbers : List ℕ) (change : Rewrite) (to : Option (List (List ℕ))) (absent missing full : Bool) → Contains s.members m
    → nat_lt most_datagrams (length s.datagrams + length numbers * count_recipients s m to) ≡ full → IsOrderly s
    → StaysOrderly (cond absent (Refused reason.Name) (cond missing (Refused reason.Datagram) (cond full (Refused reason.Limit) (forwarded s m numbers change to))))
forward_tested s m numbers change to true missing full there room o = tt
forward_tested s m numbers change to false true full there room o = tt
forward_tested s m numbers change to false false true there room o = tt
forward_tested s m numbers change to false false false there room o =
    forwards s m numbers change to there (ltb-false most_datagrams (length s.datagrams + length numbers * count_recipients s m to) room) o

forward_orderly : (s : State) (name : List ℕ) (numbers : List ℕ) (words : Changes) (to : Option (List (List ℕ))) → IsOrderly s → StaysOrderly (forward_turn s name numbers words to)
unfolding forward_turn
forward_orderly s name numbers words to o =
    at_name s name (λ m. forward_by s m numbers (rewrite_by words) to)
    (λ m found. forward_tested s m numbers (rewrite_by words) to (not (option_map_or (are_present s) to true)) (not (list_all (λ n. is_some (datagram_at s.datagrams n)) numbers))
    (nat_lt most_datagrams (length s.datagrams + length numbers * count_recipients s m to)) found.there refl o)

-- ---- deliver

hears : (s : State) (m : Member) (line : Report) (r : Receiver) → Contains s.members m → IsOrderly s → StaysOrderly (heard_turn s m line r)
hears s m line r there o =
    member_changes s m (with_receiver r) (record {
      there = there;
      keeps = record { name = λ n. refl; ssrc = λ n. refl };
      entry = λ n. record { association = refl; client = refl; server = refl; present = refl };
      member = λ is. member_same s.secrets s.table (length s.datagrams) m (with_receiver r m) refl refl is;
      profile = refl;
      client = refl;
    }) o

unless_foreign : (name : List ℕ) (t : Turn) (foreign : Bool) → StaysOrderly t → StaysOrderly (cond foreign (Halts name) t)
unless_foreign name t true is = tt
unless_foreign name t false is = is

kind_orderly : (judge : Judge) (s : State) (number : ℕ) (m : Member) (octets : List ℕ) (kind : Carried) → Contains s.members m → IsOrderly s
    → StaysOrderly (delivered judge s number m octets kind)
kind_orderly judge s number m octets carried.Dtls there o = o
kind_orderly judge s number m octets carried.Other there o = o
kind_orderly judge s number m octets carried.Rtcp there o =
    let heard = outcome_rtcp m.endpoint.receiving octets in hears s m (control_line number m.name heard.0) heard.1 there o
kind_orderly judge s number m octets carried.Rtp there o =
    let heard = judge s.table m.endpoint.receiving octets in
    unless_foreign m.name (heard_turn s m (answer_line s.table number m.name heard.0) heard.1) (is_foreign s.table m.endpoint.receiving octets)
    (hears s m (answer_line s.table number m.name heard.0) heard.1 there o)

datagram_orderly : (judge : Judge) (s : State) (number : ℕ) (m : Member) (d : Option Datagram) → Contains s.members m → IsOrderly s
    → StaysOrderly (option_map_or (λ x. delivered judge s number m x.octets (kind_of x.octets)) d (Refused reason.Datagram))
datagram_orderly judge s number m None there o = tt
datagram_orderly judge s number m (Some d) there o = kind_orderly judge s number m d.octets (kind_of d.octets) there o

deliver_orderly : (judge : Judge) (s : State) (number : ℕ) (name : List ℕ) → IsOrderly s → StaysOrderly (deliver_turn judge s number name)
unfolding deliver_turn
deliver_orderly judge s number name o =
    at_name s name (λ m. option_map_or (λ d. delivered judge s number m d.octets (kind_of d.octets)) (datagram_at s.datagrams number) (Refused reason.Datagram))
    (λ m found. datagram_orderly judge s number m (datagram_at s.datagrams number) found.there o)

-- ---- any line

form_orderly : (judge : Judge) (s : State) (profile : Profile) (line : Script) → s.profile ≡ Some profile → fits profile line ≡ true → IsScript line → IsOrderly s
    → StaysOrderly (form_turn judge s profile line)
form_orderly judge s profile script.Nothing head fit said o = o
form_orderly judge s profile (script.Conference other) head fit said o = tt
form_orderly judge s profile (script.Ekt key salt) head fit said o = ekt_orderly s profile key salt head said fit o
form_orderly judge s profile (script.Join name ssrc seq client server key) head fit said o =
    join_orderly s profile (record { name = name; ssrc = ssrc; seq = seq; client = client; server = server; key = key }) head said (join_key profile client server key fit) o
form_orderly judge s profile (script.Leave name) head fit said o = leave_orderly s name o
form_orderly judge s profile (script.Grant name spi key) head fit said o = grant_orderly s name key spi profile head said fit o
form_orderly judge s profile (script.Rekey name key) head fit said o = rekey_orderly s name key profile head said fit o
form_orderly judge s profile (script.Send name pt marker timestamp payload options) head fit said o =
    send_orderly s (record { name = name; pt = pt; marker = marker; timestamp = timestamp; payload = payload; options = options }) said o
form_orderly judge s profile (script.Rtcp name octets) head fit said o = rtcp_holds StaysOrderly s name octets (control_orderly s name octets o)
form_orderly judge s profile (script.Inject octets) head fit said o = inject_holds StaysOrderly s octets (added_orderly s o)
form_orderly judge s profile (script.Alter datagram offset octets) head fit said o = alter_holds StaysOrderly s datagram offset octets (added_orderly s o)
form_orderly judge s profile (script.Graft first front second back) head fit said o = graft_holds StaysOrderly s first front second back (added_orderly s o)
form_orderly judge s profile (script.Reseal datagram name roc changes) head fit said o = reseal_holds StaysOrderly s datagram name roc changes (added_orderly s o)
form_orderly judge s profile (script.Forward name datagrams changes recipients) head fit said o = forward_orderly s name datagrams changes recipients o
form_orderly judge s profile (script.Deliver datagram name) head fit said o = deliver_orderly judge s datagram name o

first_orderly : (s : State) (line : Script) → s.profile ≡ None → IsOrderly s → StaysOrderly (first_turn s line)
first_orderly s script.Nothing none o = o
first_orderly s (script.Conference profile) none o = head_orderly s profile none o
first_orderly s (script.Ekt key salt) none o = tt
first_orderly s (script.Join name ssrc seq client server key) none o = tt
first_orderly s (script.Leave name) none o = tt
first_orderly s (script.Grant name spi key) none o = tt
first_orderly s (script.Rekey name key) none o = tt
first_orderly s (script.Send name pt marker timestamp payload options) none o = tt
first_orderly s (script.Rtcp name octets) none o = tt
first_orderly s (script.Inject octets) none o = tt
first_orderly s (script.Alter datagram offset octets) none o = tt
first_orderly s (script.Graft first front second back) none o = tt
first_orderly s (script.Reseal datagram name roc changes) none o = tt
first_orderly s (script.Forward name datagrams changes recipients) none o = tt
first_orderly s (script.Deliver datagram name) none o = tt

where_fits : (judge : Judge) (s : State) (profile : Profile) (line : Script) (fit : Bool) → fits profile line ≡ fit → s.profile ≡ Some profile → IsScript line → IsOrderly s
    → StaysOrderly (cond (not fit) (Refused reason.Form) (form_turn judge s profile line))
where_fits judge s profile line false fit head said o = tt
where_fits judge s profile line true fit head said o = form_orderly judge s profile line head fit said o

under_orderly : (judge : Judge) (s : State) (line : Script) (head : Option Profile) → s.profile ≡ head → IsScript line → IsOrderly s → StaysOrderly (turn_under judge s line head)
under_orderly judge s line None e said o = first_orderly s line e o
under_orderly judge s line (Some profile) e said o = where_fits judge s profile line (fits profile line) refl e said o

turn_orderly : (judge : Judge) (s : State) (line : Script) → IsScript line → IsOrderly s → StaysOrderly (turn judge s line)
unfolding turn
turn_orderly judge s line said o = under_orderly judge s line s.profile refl said o

said_orderly : (judge : Judge) (s : State) (octets : List ℕ) (said : Option Script) → HasBounds → script_of octets ≡ said → IsOrderly s → StaysOrderly (turn_at judge s said)
said_orderly judge s octets None bounds is o = tt
said_orderly judge s octets (Some line) bounds is o = turn_orderly judge s line (bounds octets line is) o

-- Where a line goes on, the state behind it is orderly, whoever judges.
pub orderly_next : HasBounds → (judge : Judge) (s : State) (octets : List ℕ) (lines : List Report) (next : State) → IsOrderly s → turn_at judge s (script_of octets) ≡ Goes lines next
    → IsOrderly next
orderly_next bounds judge s octets lines next o goes = subst StaysOrderly goes (said_orderly judge s octets (script_of octets) bounds refl o)
