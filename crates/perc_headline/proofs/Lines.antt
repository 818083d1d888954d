-- What each line does keeps what holds.
use Rattle.std.proofs.Common.{◌≡◌, ℕ, ◌+◌, ◌⊎◌, inl, inr, Bool, true, false, cond, ◌||◌, List, [], ◌∷◌, ◌++◌, length, Option, Some, None, Result, Ok, Err, refl, sym, ap, ◌∙◌, arith}
use Rattle.std.specs.List.{filter_map, list_any}
use Rattle.std.specs.Option.{option_map_or}
use Rattle.std.specs.Str.{bytes_eq}
use Rattle.std.specs.Prelude.{◌<◌, nat_le, ◌==◌, All}
use Rattle.std.proofs.lemmas.Bool.{eqb-false, eqb-true, leb-false, or_cases, or_parts}
use Rattle.std.proofs.lemmas.List.Elements.{All-contains, All-cons, All-nil}
use Rattle.std.proofs.lemmas.Slice.Eq.{bytes_eq-Decides}
use Rattle.perc_base.specs.declared.profile.Profile.{Profile}
use Rattle.perc_base.specs.Profile.{key_length}
use Rattle.perc_contexts.specs.Receiving.{spi_answer}
use Rattle.perc_contexts.specs.declared.SpiOld.{SpiOld as OldSpi}
use Rattle.perc_sender.specs.Schedule.{take_answer}
use Rattle.perc_octets.specs.Octets.{AreOctets}
use Rattle.perc_receiver.specs.Table.{IsSecret, Secret, Table, secret_of}
use Rattle.perc_receiver.specs.Receiver.{live_of}
use Rattle.perc_receiver.proofs.Once as receiver
use Rattle.perc_outgoing.specs.Sending.{after_take}
use Rattle.perc_endpoint.specs.Endpoint.{after_grant, after_rekey, grant_answer, new_spi, rekey_answer, taken_key}
use Rattle.perc_endpoint.specs.declared.fault.GrantFault.{GrantFault}
use Rattle.perc_word.proofs.Spelling.{bytes_from}
use Rattle.perc_script_line.specs.Script as script
use Rattle.perc_script_line.specs.Script.{Script, Changes, IsScript, Options, fits, is_key, key_fits, pair_fits, salt_length}
use Rattle.perc_script_line.specs.declared.reason.Reason.TheVariants as reason
use Rattle.perc_report_line.specs.Report as report
use Rattle.perc_report_line.specs.Report.{Report}
use Rattle.perc_run.specs.State.{State, Member, Turn, Goes, Refused, Halts, at_member, has_name, member_named, most_spis, with_member}
use Rattle.perc_run.specs.Keys.{denial_of, ekt_turn, grant_turn, granted, rekey_turn, rekeyed, with_grant, with_rekey}
use Rattle.perc_run.specs.Joining.{are_used, gone, is_crowded, is_known, join_turn, join_with, joined, leave_turn, new_member, newest, pair_of}
use Rattle.perc_headline.specs.Headline.{Turns, acceptances, accepted_in}
use Rattle.perc_run.specs.Sound.{AreOthers, IsBefore, IsMember, IsSound, core_of}
use Rattle.perc_headline.proofs.Lookups.{IsFound, found_by_name}
use Rattle.perc_headline.proofs.Secrets.{IsOfSpi, fits_key, found_secret, newest_there}
use Rattle.perc_headline.proofs.Sends.{sending_started, sending_taken}
use Rattle.perc_headline.proofs.Hearing.{hears_granted, hears_same}
use Rattle.perc_headline.proofs.Facts.{Facts, IsChange, IsNew, facts_change, facts_issue, facts_join, quiet_line}
use Rattle.perc_headline.proofs.Sound.{member_same, nothing_sent}

-- the line delivers something
abbrev pub IsDelivery : Script → Type 0
IsDelivery line = (number : ℕ) × (name : List ℕ) × (line ≡ script.Deliver number name)

-- Where the line goes on, all of it holds behind it; and where the run halts, the line delivers something.
abbrev pub StaysSo : Turns → Script → Turn → Type 0
StaysSo turns line (Goes lines next) = Facts (turns ++ (line, lines) ∷ []) (core_of next)
StaysSo turns line (Refused reason) = Unit {0}
StaysSo turns line (Halts name) = IsDelivery line

-- nothing changes, and no accept line is reported
pub stays : (turns : Turns) (s : State) (line : Script) (lines : List Report) → filter_map accepted_in lines ≡ [] → Facts turns (core_of s) → StaysSo turns line (Goes lines s)
stays turns s line lines none f = quiet_line turns line lines (core_of s) none f

by_name : (turns : Turns) (line : Script) (s : State) (name : List ℕ) (goes : Member → Turn) (found : Option Member) → member_named name s ≡ found
    → ((m : Member) → IsFound s.members name m → StaysSo turns line (goes m)) → StaysSo turns line (option_map_or goes found (Refused reason.Name))
by_name turns line s name goes None e each = tt
by_name turns line s name goes (Some m) e each = each m (found_by_name s name m e)

-- What is done with the member of a name.
pub at_name : (turns : Turns) (line : Script) (s : State) (name : List ℕ) (goes : Member → Turn)
    → ((m : Member) → IsFound s.members name m → StaysSo turns line (goes m)) → StaysSo turns line (at_member s name goes)
at_name turns line s name goes each = by_name turns line s name goes (member_named name s) refl each

-- ---- ekt

key_size : (key : List ℕ) → is_key key ≡ true → (length key ≡ 16) ⊎ (length key ≡ 32)
key_size key is =
    elim (or_cases (length key == 16) (length key == 32) is) [
      | inl short ↦ inl (eqb-true (length key) 16 short)
      | inr long ↦ inr (eqb-true (length key) 32 long)
    ]

-- the record that a line issues
abbrev pub secret_issued : State → List ℕ → List ℕ → Secret
secret_issued s key salt = record { spi = length s.secrets + 1; key = key; salt = salt }

pub right_secret : (s : State) (key salt : List ℕ) → IsScript (script.Ekt key salt) → length s.secrets < most_spis → IsSecret (secret_issued s key salt)
right_secret s key salt said few = record {
  spi = omega arith;
  size = key_size key said.0.passes;
  key = bytes_from key said.0.fits.octets;
  salt_size = eqb-true (length salt) 12 said.1.passes;
  salt = bytes_from salt said.1.fits.octets;
}

ekt_by : (turns : Turns) (s : State) (profile : Profile) (key salt : List ℕ) (known full : Bool) → s.profile ≡ Some profile → IsScript (script.Ekt key salt) → key_fits profile key ≡ true
    → nat_le most_spis (length s.secrets) ≡ full → Facts turns (core_of s)
    → StaysSo turns (script.Ekt key salt) (cond known (Refused reason.Key) (cond full (Refused reason.Limit)
    (Goes (report.Ekt (length s.secrets + 1) ∷ []) (record s { secrets = s.secrets ++ record { spi = length s.secrets + 1; key = key; salt = salt } ∷ [] }))))
ekt_by turns s profile key salt true full head said fit room f = tt
ekt_by turns s profile key salt false true head said fit room f = tt
ekt_by turns s profile key salt false false head said fit room f =
    let secret : Secret = secret_issued s key salt in
    quiet_line turns (script.Ekt key salt) (report.Ekt (length s.secrets + 1) ∷ []) (record (core_of s) { secrets = s.secrets ++ secret ∷ [] }) refl
    (facts_issue turns (core_of s) profile secret head (right_secret s key salt said (leb-false most_spis (length s.secrets) room)) refl
    (eqb-true (length key) (key_length profile) fit) f)

pub ekt_stays : (turns : Turns) (s : State) (profile : Profile) (key salt : List ℕ) → s.profile ≡ Some profile → IsScript (script.Ekt key salt) → key_fits profile key ≡ true
    → Facts turns (core_of s) → StaysSo turns (script.Ekt key salt) (ekt_turn s key salt)
unfolding ekt_turn
ekt_stays turns s profile key salt head said fit f =
    ekt_by turns s profile key salt (list_any (λ x. bytes_eq x.key key) s.secrets) (nat_le most_spis (length s.secrets)) head said fit refl f

-- ---- join and leave

-- Nobody else has the name or the SSRC.
pub all_others : (name : List ℕ) (ssrc : ℕ) (m : Member) (members : List Member) → m.name ≡ name → m.ssrc ≡ ssrc → list_any (λ n. has_name name n || (n.ssrc == ssrc)) members ≡ false
    → All (λ n. AreOthers n m) members
all_others name ssrc m [] name_is ssrc_is none = All-nil (λ n. AreOthers n m)
all_others name ssrc m (n ∷ members) name_is ssrc_is none =
    let tests = or_parts (has_name name n || (n.ssrc == ssrc)) (list_any (λ x. has_name name x || (x.ssrc == ssrc)) members) none in
    let own = or_parts (has_name name n) (n.ssrc == ssrc) tests.0 in
    All-cons (λ x. AreOthers x m) n members (record {
      name = λ same. let has = (bytes_eq-Decides name n.name).1 (sym (same ∙ name_is)) in let bad : true ≡ false = sym has ∙ own.0 in cc;
      ssrc = λ same. eqb-false n.ssrc ssrc own.1 (same ∙ ssrc_is);
    })
    (all_others name ssrc m members name_is ssrc_is tests.1)

-- what the words of a join say
pub record Newcomer : Type 0 where
  pub name : List ℕ
  pub ssrc : ℕ
  pub seq : ℕ
  pub client : List ℕ
  pub server : List ℕ
  pub key : List ℕ

abbrev pub join_line : Newcomer → Script
join_line w = script.Join w.name w.ssrc w.seq w.client w.server w.key

abbrev pub member_of : State → Profile → Newcomer → Secret → Member
member_of s profile w secret = new_member s profile w.name w.ssrc w.seq (pair_of w.client) (pair_of w.server) secret w.key

pub new_sends : (s : State) (profile : Profile) (w : Newcomer) (secret : Secret) → s.profile ≡ Some profile → IsScript (join_line w) → key_fits profile w.key ≡ true
    → newest s.secrets ≡ Some secret → IsSound (core_of s) → IsMember s.secrets nothing_sent (length s.datagrams) (member_of s profile w secret)
new_sends s profile w secret head said fit last sound =
    let there = newest_there s.secrets secret last in
    let ssrc_most = said.1 in
    let seq_most = said.2 in
    let size : length w.key ≡ length secret.key = eqb-true (length w.key) (key_length profile) fit ∙ sym (fits_key profile s.profile s.secrets secret head sound.fits there) in record {
      sending = sending_started (pair_of w.client) w.ssrc w.seq secret w.key (omega arith) said.2 size (bytes_from w.key said.5.fits.octets);
      sender = refl;
      secret = sound.issued.last secret last;
      few = omega arith;
      few_control = omega arith;
      before = All-nil (IsBefore (member_of s profile w secret));
    }

is_new : (turns : Turns) (s : State) (profile : Profile) (w : Newcomer) (secret : Secret) → s.profile ≡ Some profile → IsScript (join_line w) → key_fits profile w.key ≡ true
    → newest s.secrets ≡ Some secret → is_known s w.name w.ssrc ≡ false → Facts turns (core_of s) → IsNew (core_of s) (member_of s profile w secret)
is_new turns s profile w secret head said fit last known f =
    let issued = f.sound.issued.last secret last in record {
      member = new_sends s profile w secret head said fit last f.sound;
      held = secret ∷ [];
      issued = All-cons (λ (t : Secret). secret_of s.secrets t.spi ≡ Some t) secret [] issued (All-nil (λ (t : Secret). secret_of s.secrets t.spi ≡ Some t));
      sound = receiver.started_sound s.table w.ssrc (pair_of w.server) secret (All-contains IsSecret s.secrets secret f.sound.issued.right (newest_there s.secrets secret last));
      others = all_others w.name w.ssrc (member_of s profile w secret) s.members refl refl known;
    }

join_by : (turns : Turns) (s : State) (profile : Profile) (w : Newcomer) (secret : Secret) (known used crowded : Bool) → s.profile ≡ Some profile → IsScript (join_line w)
    → key_fits profile w.key ≡ true → newest s.secrets ≡ Some secret → is_known s w.name w.ssrc ≡ known → Facts turns (core_of s)
    → StaysSo turns (join_line w) (cond known (Refused reason.Name) (cond used (Refused reason.Key) (cond crowded (Refused reason.Limit) (joined s (member_of s profile w secret)))))
join_by turns s profile w secret true used crowded head said fit last known f = tt
join_by turns s profile w secret false true crowded head said fit last known f = tt
join_by turns s profile w secret false false true head said fit last known f = tt
join_by turns s profile w secret false false false head said fit last known f =
    let m : Member = member_of s profile w secret in
    quiet_line turns (join_line w) (report.Joined m.name m.association ∷ []) (record (core_of s) { members = s.members ++ m ∷ [] }) refl
    (facts_join turns (core_of s) m (is_new turns s profile w secret head said fit last known f) f)

join_with_stays : (turns : Turns) (s : State) (profile : Profile) (w : Newcomer) (found : Option Secret) → s.profile ≡ Some profile → IsScript (join_line w)
    → key_fits profile w.key ≡ true → newest s.secrets ≡ found → Facts turns (core_of s)
    → StaysSo turns (join_line w) (join_with s profile w.name w.ssrc w.seq (pair_of w.client) (pair_of w.server) w.key found)
join_with_stays turns s profile w None head said fit last f = tt
join_with_stays turns s profile w (Some secret) head said fit last f =
    join_by turns s profile w secret (is_known s w.name w.ssrc) (are_used s (pair_of w.client) (pair_of w.server)) (is_crowded s) head said fit last refl f

pub join_stays : (turns : Turns) (s : State) (profile : Profile) (w : Newcomer) → s.profile ≡ Some profile → IsScript (join_line w) → key_fits profile w.key ≡ true
    → Facts turns (core_of s) → StaysSo turns (join_line w) (join_turn s profile w.name w.ssrc w.seq w.client w.server w.key)
unfolding join_turn
join_stays turns s profile w head said fit f = join_with_stays turns s profile w (newest s.secrets) head said fit refl f

-- The member that is found changes, and no accept line is reported.
pub changes : (turns : Turns) (s : State) (line : Script) (lines : List Report) (m : Member) (change : Member → Member) → filter_map accepted_in lines ≡ []
    → IsChange turns (core_of s) m change → Facts turns (core_of s)
    → Facts (turns ++ (line, lines) ∷ []) (record (core_of s) { members = with_member m.name change s.members })
changes turns s line lines m change none changed f =
    quiet_line turns line lines (record (core_of s) { members = with_member m.name change s.members }) none (facts_change turns (core_of s) m change changed f)

pub leave_stays : (turns : Turns) (s : State) (name : List ℕ) → Facts turns (core_of s) → StaysSo turns (script.Leave name) (leave_turn s name)
unfolding leave_turn
leave_stays turns s name f =
    at_name turns (script.Leave name) s name _ λ m found.
    changes turns s (script.Leave name) (report.Left m.name ∷ []) m gone refl (record {
      there = found.there;
      keeps = record { name = λ n. refl; ssrc = λ n. refl };
      member = λ is. member_same s.secrets s.table (length s.datagrams) m (gone m) refl refl is;
      hears = λ h. hears_same s.secrets s.table (acceptances turns) m (gone m) refl refl h;
    }) f

-- ---- grant and rekey

-- A member that took a key under an issued secret sends under it.
member_taken : (secrets : List Secret) (table : Table) (made : ℕ) (m n : Member) (s : Secret) (key : List ℕ) → n.ssrc ≡ m.ssrc → n.endpoint.sending ≡ after_take m.endpoint.sending s key
    → secret_of secrets s.spi ≡ Some s → length key ≡ length s.key → AreOctets key → IsMember secrets table made m → IsMember secrets table made n
member_taken secrets table made m n s key ssrc sending issued size octets is =
    let taken : Member = record m { endpoint = record m.endpoint { sending = after_take m.endpoint.sending s key } } in
    member_same secrets table made taken n ssrc sending (record {
      sending = sending_taken m.endpoint.sending s key is.sending size octets;
      sender = is.sender;
      secret = issued;
      few = is.few;
      few_control = is.few_control;
      before = is.before;
    })

spi_taken : (answer : Result (Option ℕ) OldSpi) (key : Result ℕ GrantFault) (epoch : ℕ) → new_spi answer key ≡ Ok epoch → (retires : Option ℕ) × (answer ≡ Ok retires)
spi_taken (Ok retires) key epoch e = (retires, refl)
spi_taken (Err old) key epoch e = absurd (cc)

pub granted_sends : (s : State) (name key : List ℕ) (spi : ℕ) (profile : Profile) (m : Member) (secret : Secret) (epoch : ℕ) → s.profile ≡ Some profile
    → IsScript (script.Grant name spi key) → key_fits profile key ≡ true → IsOfSpi s.secrets spi secret → grant_answer m.endpoint secret key ≡ Ok epoch → IsSound (core_of s)
    → IsMember s.secrets s.table (length s.datagrams) m → IsMember s.secrets s.table (length s.datagrams) (with_grant secret key m)
granted_sends s name key spi profile m secret epoch head said fit of answer sound is =
    let size : length key ≡ length secret.key = eqb-true (length key) (key_length profile) fit ∙ sym (fits_key profile s.profile s.secrets secret head sound.fits of.there) in
    member_taken s.secrets s.table (length s.datagrams) m (with_grant secret key m) secret key refl
    (ap (λ (a : Result ℕ GrantFault). (after_grant m.endpoint secret key a).sending) answer) of.is size (bytes_from key said.2.fits.octets) is

grant_by : (turns : Turns) (s : State) (name key : List ℕ) (spi : ℕ) (profile : Profile) (m : Member) (secret : Secret) (answer : Result ℕ GrantFault) → s.profile ≡ Some profile
    → IsScript (script.Grant name spi key) → key_fits profile key ≡ true → IsFound s.members name m → IsOfSpi s.secrets spi secret → grant_answer m.endpoint secret key ≡ answer
    → Facts turns (core_of s) → StaysSo turns (script.Grant name spi key) (granted s m secret key answer)
grant_by turns s name key spi profile m secret (Err fault) head said fit found of answer f = stays turns s (script.Grant name spi key) (report.Denied m.name (denial_of fault) ∷ []) refl f
grant_by turns s name key spi profile m secret (Ok epoch) head said fit found of answer f =
    let change : Member → Member = with_grant secret key in
    let old = spi_taken (spi_answer (live_of m.endpoint.receiving.secrets) secret.spi) (taken_key (take_answer m.endpoint.sending.sending secret.spi key)) epoch answer in
    changes turns s (script.Grant name spi key) (report.Granted m.name secret.spi ∷ []) m change refl (record {
      there = found.there;
      keeps = record { name = λ n. refl; ssrc = λ n. refl };
      member = λ is. granted_sends s name key spi profile m secret epoch head said fit of answer f.sound is;
      hears = λ h.
          hears_granted s.secrets s.table (acceptances turns) m (change m) secret old.0 (All-contains IsSecret s.secrets secret f.sound.issued.right of.there) of.is old.1 refl
          (ap (λ (a : Result ℕ GrantFault). (after_grant m.endpoint secret key a).receiving) answer) h;
    }) f

grant_at : (turns : Turns) (s : State) (name key : List ℕ) (spi : ℕ) (profile : Profile) (m : Member) (secret : Option Secret) → s.profile ≡ Some profile
    → IsScript (script.Grant name spi key) → key_fits profile key ≡ true → IsFound s.members name m → secret_of s.secrets spi ≡ secret → Facts turns (core_of s)
    → StaysSo turns (script.Grant name spi key) (option_map_or (λ x. granted s m x key (grant_answer m.endpoint x key)) secret (Refused reason.Name))
grant_at turns s name key spi profile m None head said fit found of f = tt
grant_at turns s name key spi profile m (Some secret) head said fit found of f =
    grant_by turns s name key spi profile m secret (grant_answer m.endpoint secret key) head said fit found (found_secret s.secrets spi secret of) refl f

pub grant_stays : (turns : Turns) (s : State) (name key : List ℕ) (spi : ℕ) (profile : Profile) → s.profile ≡ Some profile → IsScript (script.Grant name spi key) → key_fits profile key ≡ true
    → Facts turns (core_of s) → StaysSo turns (script.Grant name spi key) (grant_turn s name spi key)
unfolding grant_turn
grant_stays turns s name key spi profile head said fit f =
    at_name turns (script.Grant name spi key) s name _ λ m found. grant_at turns s name key spi profile m (secret_of s.secrets spi) head said fit found refl f

pub rekeyed_sends : (s : State) (name key : List ℕ) (profile : Profile) (m : Member) (epoch : ℕ) → s.profile ≡ Some profile → IsScript (script.Rekey name key)
    → key_fits profile key ≡ true → rekey_answer m.endpoint key ≡ Ok epoch → IsSound (core_of s) → IsMember s.secrets s.table (length s.datagrams) m
    → IsMember s.secrets s.table (length s.datagrams) (with_rekey key m)
rekeyed_sends s name key profile m epoch head said fit answer sound is =
    let secret : Secret = m.endpoint.sending.secret in
    let of = found_secret s.secrets secret.spi secret is.secret in
    let size : length key ≡ length secret.key = eqb-true (length key) (key_length profile) fit ∙ sym (fits_key profile s.profile s.secrets secret head sound.fits of.there) in
    member_taken s.secrets s.table (length s.datagrams) m (with_rekey key m) secret key refl
    (ap (λ (a : Result ℕ GrantFault). (after_rekey m.endpoint key a).sending) answer) of.is size (bytes_from key said.1.fits.octets) is

rekey_by : (turns : Turns) (s : State) (name key : List ℕ) (profile : Profile) (m : Member) (answer : Result ℕ GrantFault) → s.profile ≡ Some profile
    → IsScript (script.Rekey name key) → key_fits profile key ≡ true → IsFound s.members name m → rekey_answer m.endpoint key ≡ answer
    → Facts turns (core_of s) → StaysSo turns (script.Rekey name key) (rekeyed s m key answer)
rekey_by turns s name key profile m (Err fault) head said fit found answer f = stays turns s (script.Rekey name key) (report.Denied m.name (denial_of fault) ∷ []) refl f
rekey_by turns s name key profile m (Ok epoch) head said fit found answer f =
    let change : Member → Member = with_rekey key in
    changes turns s (script.Rekey name key) (report.Rekeyed m.name m.endpoint.sending.secret.spi epoch ∷ []) m change refl (record {
      there = found.there;
      keeps = record { name = λ n. refl; ssrc = λ n. refl };
      member = λ is. rekeyed_sends s name key profile m epoch head said fit answer f.sound is;
      hears = λ h.
          hears_same s.secrets s.table (acceptances turns) m (change m) refl (ap (λ (a : Result ℕ GrantFault). (after_rekey m.endpoint key a).receiving) answer) h;
    }) f

pub rekey_stays : (turns : Turns) (s : State) (name key : List ℕ) (profile : Profile) → s.profile ≡ Some profile → IsScript (script.Rekey name key) → key_fits profile key ≡ true
    → Facts turns (core_of s) → StaysSo turns (script.Rekey name key) (rekey_turn s name key)
unfolding rekey_turn
rekey_stays turns s name key profile head said fit f =
    at_name turns (script.Rekey name key) s name _ λ m found. rekey_by turns s name key profile m (rekey_answer m.endpoint key) head said fit found refl f
