-- What mirrors a state once an EKT key was issued.
use Rattle.std.proofs.Common.{◌≡◌, ◌⊎◌, slice_get, ℕ, ◌+◌, ◌^◌, ◌<◌, ◌≤◌, Bool, false, List, [], ◌∷◌, ◌++◌, length, Option, Some, None, Ok, refl, sym, ap, ◌∙◌, subst, arith, nat_cmp}
use Rattle.std.specs.BTreeMap as tree
use Rattle.std.specs.BTreeMap.{BTreeMap}
use Rattle.std.specs.Cmp.Lexicographic.{slice_cmp}
use Rattle.std.specs.List.{list_any}
use Rattle.std.specs.Option.{is_some}
use Rattle.std.specs.Prelude.{IfSome}
use Rattle.std.specs.Str.{bytes_eq}
use Rattle.std.proofs.lemmas.Option.{none-some}
use Rattle.perc_base.specs.Profile.{key_length}
use Rattle.perc_base.specs.declared.profile.Profile.{Profile}
use Rattle.perc_ekt.specs.declared.record.EktKeyRecord.{EktKeyRecord}
use Rattle.perc_keeper.specs.Lists.{spi_of, with_issued}
use Rattle.perc_key_service.specs.Service.{MayIssue, Service, issued_as}
use Rattle.perc_keydist.specs.Distributing.{next_spi}
use Rattle.perc_receiver.specs.Table.{Secret, secret_in, secret_of}
use Rattle.perc_report_line.specs.Report.{Ekt, report_text}
use Rattle.perc_run.specs.Keys.{ekt_turn}
use Rattle.perc_run.specs.Sound.{IsOrderly, KeysFit}
use Rattle.perc_run.specs.State.{State}
use Rattle.perc_sent.specs.Sent.{MirrorsRecords}
use Rattle.perc_conference_state.specs.declared.conference.Conference as code
use Rattle.perc_conference_state.specs.Keys.{MirrorsService}
use Rattle.perc_conference_state.specs.Mirror.{Does, Mirrors, is_issued, padded}
use Rattle.perc_conference_state.proofs.Changing.{distributor_moved}
use Rattle.perc_conference_state.proofs.Issuing.{IsMade, ekt_goes, issued_more, next_is, no_spi, records_count, records_more, right_record, secret_at, secret_made, secret_missing}
use Rattle.perc_conference_state.proofs.Served.{keys_from}
use Rattle.perc_sent.proofs.Kept.{sent_moved}
use Rattle.perc_conference_state.proofs.Turning.{does_goes, untold}

abbrev KeyFound : BTreeMap (List ℕ) ℕ → List Secret → Profile → Type 0
KeyFound issued secrets profile = (key : List ℕ) → length key ≡ key_length profile → is_issued issued key ≡ list_any (λ x. bytes_eq x.key key) secrets

-- under the head's profile a key was issued where its octets are found
pub issued_is : (c : code.Conference) (s : State) (profile : Profile) (key : List ℕ) → Mirrors c s → c.profile ≡ Some profile → length key ≡ key_length profile
    → is_issued c.issued key ≡ list_any (λ x. bytes_eq x.key key) s.secrets
issued_is c s profile key mirrors is size =
    let found : KeyFound c.issued s.secrets profile = subst (λ (o : Option Profile). IfSome o (KeyFound c.issued s.secrets)) (sym mirrors.profile ∙ is) mirrors.issued.found in
    found key size

-- the code's test, of the octets that it has
pub test_is : (c : code.Conference) (s : State) (profile : Profile) (key octets : List ℕ) (used : Bool) → Mirrors c s → c.profile ≡ Some profile
    → length key ≡ key_length profile → octets ≡ padded key → used ≡ is_some (tree.get (slice_cmp nat_cmp) c.issued octets)
    → list_any (λ x. bytes_eq x.key key) s.secrets ≡ used
test_is c s profile key octets used mirrors is size octets_are test =
    sym (issued_is c s profile key mirrors is size) ∙ ap (λ (k : List ℕ). is_some (tree.get (slice_cmp nat_cmp) c.issued k)) (sym octets_are) ∙ sym test

pub records_under : (c : code.Conference) (s : State) (profile : Profile) → Mirrors c s → c.profile ≡ Some profile → MirrorsRecords profile c.records.items s.secrets
records_under c s profile mirrors is =
    subst (λ (o : Option Profile). IfSome o (λ p. MirrorsRecords p c.records.items s.secrets)) (sym mirrors.profile ∙ is) mirrors.records

pub spi_count : (c : code.Conference) (s : State) (profile : Profile) → Mirrors c s → c.profile ≡ Some profile → c.records.len ≡ length s.secrets
spi_count c s profile mirrors is = c.records.ok.0 ∙ records_count profile c.records.items s.secrets (records_under c s profile mirrors is)

-- ---- the key distributor issues

-- It may issue a key that is new, where an SPI is left.
pub may_issue : (c : code.Conference) (s : State) (profile : Profile) (k : Service) (key : List ℕ) → Mirrors c s → c.profile ≡ Some profile → MirrorsService c s profile k
    → length key ≡ key_length profile → list_any (λ x. bytes_eq x.key key) s.secrets ≡ false → length s.secrets < 65535 → MayIssue k key
may_issue c s profile k key mirrors is service size unused room =
    let records = records_under c s profile mirrors is in
    let next : next_spi k.lists.issued ≡ length s.secrets + 1 = ap next_spi service.issued ∙ next_is profile c.records.items s.secrets records in
    record {
      size = size ∙ ap key_length (sym service.profile_is);
      unused = ap (λ (rs : List EktKeyRecord). spi_of rs key) service.issued ∙ no_spi profile c.records.items s.secrets key records unused;
      left = omega arith;
    }

-- what it answers, and what it is then
pub record Serves (k after : Service) (r : EktKeyRecord) (key salt : List ℕ) : Type 0 where
  pub answer : r ≡ issued_as k key salt
  pub behind : after ≡ record k { lists = with_issued r k.lists }

-- The same, where the key and the salt are told to be others.
pub serves : (k after : Service) (r : EktKeyRecord) (key salt key_read salt_read : List ℕ) → r ≡ issued_as k key_read salt_read
    → after ≡ record k { lists = with_issued (issued_as k key_read salt_read) k.lists } → key_read ≡ key → salt_read ≡ salt → Serves k after r key salt
serves k after r key salt key_read salt_read answer behind same_key same_salt = record {
  answer = answer ∙ (λ i. issued_as k (same_key i) (same_salt i));
  behind = behind ∙ ap (λ (x : EktKeyRecord). record k { lists = with_issued x k.lists }) (sym answer);
}

made_by : (k after : Service) (profile : Profile) (r : EktKeyRecord) (key salt : List ℕ) → k.profile ≡ profile → length key ≡ key_length profile → Serves k after r key salt
    → IsMade r key salt r.spi
made_by k after profile r key salt same size h =
    let is = h.answer in
    record {
      key_is = ap (λ (x : EktKeyRecord). x.key) is;
      len = ap (λ (x : EktKeyRecord). x.len) is ∙ ap key_length same ∙ sym size;
      salt_is = ap (λ (x : EktKeyRecord). x.salt) is;
      spi_is = refl;
      life = ap (λ (x : EktKeyRecord). x.life) is;
    }

-- what the line leaves
pub record Issues (c d : code.Conference) (after : Service) (r : EktKeyRecord) (octets : List ℕ) : Type 0 where
  pub profile : d.profile ≡ c.profile
  pub records : d.records.items ≡ c.records.items ++ r ∷ []
  pub issued : tree.Updates (slice_cmp nat_cmp) c.issued d.issued octets (Some r.spi)
  pub members : d.members ≡ c.members
  pub distributor : d.distributor ≡ c.distributor
  pub keys : d.keys ≡ Some after
  pub datagrams : d.datagrams ≡ c.datagrams

mirrors_issued : (c d : code.Conference) (s : State) (profile : Profile) (k after : Service) (r : EktKeyRecord) (octets key salt : List ℕ) → Mirrors c s
    → c.profile ≡ Some profile → MirrorsService c s profile k → length key ≡ key_length profile → length salt ≡ 12
    → r.spi < 2 ^ 16 → r.spi ≡ length s.secrets + 1 → Serves k after r key salt → octets ≡ padded key → Issues c d after r octets
    → Mirrors d (record s { secrets = s.secrets ++ record { spi = r.spi; key = key; salt = salt } ∷ [] })
mirrors_issued c d s profile k after r octets key salt mirrors is service size twelve fits spi_is answers octets_are rest =
    let new : Secret = record { spi = r.spi; key = key; salt = salt } in
    let next : State = record s { secrets = s.secrets ++ new ∷ [] } in
    let at : s.profile ≡ Some profile = sym mirrors.profile ∙ is in
    let old = records_under c s profile mirrors is in
    let made = made_by k after profile r key salt service.profile_is size answers in
    let updates : tree.Updates (slice_cmp nat_cmp) c.issued d.issued (padded key) (Some r.spi) =
    subst (λ (x : List ℕ). tree.Updates (slice_cmp nat_cmp) c.issued d.issued x (Some r.spi)) octets_are rest.issued in
    let found : KeyFound d.issued (s.secrets ++ new ∷ []) profile =
    issued_more c.issued d.issued (key_length profile) r.spi s.secrets new size updates (λ other other_size. issued_is c s profile other mirrors is other_size) in
    let more : MirrorsRecords profile (c.records.items ++ r ∷ []) (s.secrets ++ secret_in r ∷ []) =
    records_more profile c.records.items s.secrets r old (right_record profile r key salt r.spi made size twelve fits) (made.len ∙ size)
    (spi_is ∙ ap (λ n. n + 1) (sym (records_count profile c.records.items s.secrets old))) in
    let all : MirrorsRecords profile d.records.items (s.secrets ++ new ∷ []) =
    subst (λ (x : Secret). MirrorsRecords profile d.records.items (s.secrets ++ x ∷ [])) (secret_made r key salt r.spi made)
    (subst (λ (xs : List EktKeyRecord). MirrorsRecords profile xs (s.secrets ++ secret_in r ∷ [])) (sym rest.records) more) in
    let serving : MirrorsService d next profile (record k { lists = with_issued r k.lists }) = record {
      profile_is = service.profile_is;
      issued = ap (λ (rs : List EktKeyRecord). rs ++ r ∷ []) service.issued ∙ sym rest.records;
      given = rw rest.members service.given;
      members = service.members;
    } in
    record {
      profile = rest.profile ∙ mirrors.profile;
      issued = record {
        found = subst (λ (o : Option Profile). IfSome o (KeyFound d.issued (s.secrets ++ new ∷ []))) (sym at) found;
        none = λ no. absurd (let bad : None ≡ Some profile = sym no ∙ at in cc);
      };
      members = rw rest.members mirrors.members;
      distributor = rw rest.distributor (distributor_moved c.distributor s next refl refl refl mirrors.distributor);
      keys = keys_from d next profile (record k { lists = with_issued r k.lists }) at (rest.keys ∙ ap Some answers.behind) serving;
      datagrams = rw rest.datagrams mirrors.datagrams;
      records = subst (λ (o : Option Profile). IfSome o (λ p. MirrorsRecords p d.records.items (s.secrets ++ new ∷ []))) (sym at) all;
      none = λ no. absurd (let bad : None ≡ Some profile = sym no ∙ at in cc);
      sent = rw rest.members (sent_moved c.members.items s next refl refl mirrors.sent);
    }

pub issues : (c d : code.Conference) (s : State) (profile : Profile) (k served : Service) (r : EktKeyRecord) (octets key salt before after : List ℕ) → Mirrors c s
    → c.profile ≡ Some profile → MirrorsService c s profile k → length key ≡ key_length profile → length salt ≡ 12
    → list_any (λ x. bytes_eq x.key key) s.secrets ≡ false → length s.secrets < 65535 → Serves k served r key salt → octets ≡ padded key
    → Issues c d served r octets
    → after ≡ before ++ report_text (Ekt r.spi) → Does (ekt_turn s key salt) (Ok untold) before after d
issues c d s profile k served r octets key salt before after mirrors is service size twelve unused room answers octets_are rest text =
    let next = λ (n : ℕ). record s { secrets = s.secrets ++ record { spi = n; key = key; salt = salt } ∷ [] } in
    let spi_is : r.spi ≡ length s.secrets + 1 =
    ap (λ (x : EktKeyRecord). x.spi) answers.answer ∙ ap next_spi service.issued ∙ next_is profile c.records.items s.secrets (records_under c s profile mirrors is) in
    does_goes (ekt_turn s key salt) (Ekt (length s.secrets + 1)) (next (length s.secrets + 1)) untold before after d (ekt_goes s key salt unused room)
    (subst (λ (n : ℕ). after ≡ before ++ report_text (Ekt n)) spi_is text) refl
    (subst (λ (n : ℕ). Mirrors d (next n)) spi_is
    (mirrors_issued c d s profile k served r octets key salt mirrors is service size twelve (omega arith) spi_is answers octets_are rest))

-- ---- the record of an SPI

unknown_under : (c : code.Conference) (s : State) (spi : ℕ) (o : Option Profile) → IsOrderly s → Mirrors c s → s.profile ≡ o
    → (spi < 1) ⊎ (1 + length c.records.items ≤ spi) → secret_of s.secrets spi ≡ None
unknown_under c s spi None orderly mirrors is out =
    let nothing : s.secrets ≡ [] = subst (λ (o : Option Profile). KeysFit o s.secrets) is orderly.sound.fits in
    ap (λ (secrets : List Secret). secret_of secrets spi) nothing
unknown_under c s spi (Some profile) orderly mirrors is out =
    secret_missing profile c.records.items s.secrets spi (records_under c s profile mirrors (mirrors.profile ∙ is)) out

-- an SPI that wasn't issued
pub unknown_spi : (c : code.Conference) (s : State) (spi : ℕ) → IsOrderly s → Mirrors c s → (spi < 1) ⊎ (1 + length c.records.items ≤ spi) → secret_of s.secrets spi ≡ None
unknown_spi c s spi orderly mirrors out = unknown_under c s spi s.profile orderly mirrors refl out

known_under : (c : code.Conference) (s : State) (spi place : ℕ) (r : EktKeyRecord) (o : Option Profile) → Mirrors c s → s.profile ≡ o
    → slice_get c.records.items place ≡ Some r → spi ≡ 1 + place
    → secret_of s.secrets spi ≡ Some (secret_in r)
known_under c s spi place r None mirrors is at spi_is =
    let nothing = mirrors.none is in
    absurd (none-some r (ap (λ (rs : List EktKeyRecord). slice_get rs place) (sym nothing) ∙ at))
known_under c s spi place r (Some profile) mirrors is at spi_is =
    secret_at profile c.records.items s.secrets place spi r (records_under c s profile mirrors (mirrors.profile ∙ is)) at spi_is

-- one that was
pub known_spi : (c : code.Conference) (s : State) (spi place : ℕ) (r : EktKeyRecord) → Mirrors c s → slice_get c.records.items place ≡ Some r → spi ≡ 1 + place
    → secret_of s.secrets spi ≡ Some (secret_in r)
known_spi c s spi place r mirrors at spi_is = known_under c s spi place r s.profile mirrors refl at spi_is
