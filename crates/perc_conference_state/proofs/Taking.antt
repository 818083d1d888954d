-- A member takes a key, or refuses it.
use Rattle.std.proofs.Common.{◌≡◌, ℕ, zero, suc, List, [], ◌∷◌, ◌++◌, Option, Some, None, Result, Ok, Err, slice_get, slice_set, refl, sym, ap, ◌∙◌, subst}
use Rattle.std.specs.List.{flat_map}
use Rattle.std.specs.Prelude.{◌==◌, All}
use Rattle.std.proofs.lemmas.Bool.{eqb-true}
use Rattle.std.proofs.lemmas.List.Elements.{All-contains}
use Rattle.std.proofs.lemmas.Option.{same_Some}
use Rattle.perc_base.specs.declared.profile.Profile.{Profile}
use Rattle.perc_contexts.proofs.ReceivingLaws.{found_of}
use Rattle.perc_endpoint.specs.Endpoint.{after_grant, after_rekey, grant_answer, rekey_answer}
use Rattle.perc_endpoint.specs.Kept as endpoint
use Rattle.perc_endpoint.specs.Kept.{IsGranted}
use Rattle.perc_endpoint.specs.declared.fault.GrantFault.{GrantFault}
use Rattle.perc_member.specs.Each.{MirrorsMember}
use Rattle.perc_member.specs.declared.member.Member as code_member
use Rattle.perc_receiver.specs.Table.{Secret, secret_of}
use Rattle.perc_report_line.specs.Report.{Denied, Granted, Rekeyed, report_text}
use Rattle.perc_report_line.specs.declared.reasons.Denial.{Denial}
use Rattle.perc_run.specs.Keys.{denial_of, grant_turn, granted, rekey_turn, rekeyed, with_grant, with_rekey}
use Rattle.perc_run.specs.Sound.{AreOfProfile, IsOrderly}
use Rattle.perc_run.specs.State.{Goes, Member, Refused, State, Turn, member_named, with_member}
use Rattle.perc_script_line.specs.declared.reason.Reason.TheVariants.{Name}
use Rattle.perc_sent.proofs.Finding.{contains_at}
use Rattle.perc_sent.proofs.Kept.{takes_key}
use Rattle.perc_conference_state.specs.declared.conference.Conference as code
use Rattle.perc_conference_state.specs.Keys.{pairs_of}
use Rattle.perc_conference_state.specs.Mirror.{Does, Mirrors}
use Rattle.perc_conference_state.proofs.Changing.{IsPlaced, TakesKey, Writes, keys_written, mirrors_changed, mirrors_taken, pairs_taken, records_kept}
use Rattle.perc_conference_state.proofs.Places.{at_nobody, at_somebody, name_of_found}
use Rattle.perc_conference_state.proofs.Served.{keys_moved}
use Rattle.perc_conference_state.proofs.Turning.{does_goes, untold}

-- ---- a member's profile is the head's

pub profile_of_member : (c : code.Conference) (s : State) (name : List ℕ) (place : ℕ) (a : code_member.Member) (profile : Profile) → IsOrderly s → Mirrors c s
    → c.profile ≡ Some profile → IsPlaced c s name place a → a.endpoint.receiving.profile ≡ profile
profile_of_member c s name place a profile orderly mirrors is p =
    let all : All (λ (x : Member). x.endpoint.profile ≡ profile) s.members =
    subst (λ (o : Option Profile). AreOfProfile o s.members) (sym mirrors.profile ∙ is) orderly.profiles in
    p.mirrors.endpoint.profile
    ∙ All-contains (λ (x : Member). x.endpoint.profile ≡ profile) s.members p.member all (contains_at s.members place p.member p.at)

-- ---- nothing changes

set_same : {A : Type 0} (xs : List A) (k : ℕ) (x : A) → slice_get xs k ≡ Some x → slice_set xs k x ≡ xs
set_same [] k x at = refl
set_same (y ∷ xs) zero x at = ap (λ z. z ∷ xs) (sym (same_Some y x at))
set_same (y ∷ xs) (suc k) x at = ap (λ zs. y ∷ zs) (set_same xs k x at)

-- a member of the code that is written back as it was
mirrors_again : (c d : code.Conference) (s : State) (place : ℕ) (a b : code_member.Member) → Mirrors c s → slice_get c.members.items place ≡ Some a → b ≡ a
    → Writes c d place b → d.distributor ≡ c.distributor → d.keys ≡ c.keys → Mirrors d s
mirrors_again c d s place a b mirrors code_at same writes distributor keys =
    let leaves = writes.leaves in
    let is : d.members.items ≡ c.members.items = writes.members ∙ ap (slice_set c.members.items place) same ∙ set_same c.members.items place a code_at in
    record {
      profile = leaves.profile ∙ mirrors.profile;
      issued = record { found = rw leaves.issued mirrors.issued.found; none = rw leaves.issued mirrors.issued.none };
      members = rw is mirrors.members;
      distributor = rw distributor mirrors.distributor;
      keys = keys_moved c d s s keys (records_kept c d leaves) (ap (flat_map pairs_of) is) refl refl mirrors.keys;
      datagrams = rw leaves.datagrams mirrors.datagrams;
      records = rw leaves.records mirrors.records;
      none = rw leaves.records mirrors.none;
      sent = rw is mirrors.sent;
    }

denies : (turn : Turn) (c d : code.Conference) (s : State) (name : List ℕ) (place : ℕ) (a b : code_member.Member) (denial : Denial) (before after : List ℕ) → Mirrors c s
    → (p : IsPlaced c s name place a) → turn ≡ Goes (Denied p.member.name denial ∷ []) s → b ≡ a → Writes c d place b → d.distributor ≡ c.distributor → d.keys ≡ c.keys
    → after ≡ before ++ report_text (Denied name denial) → Does turn (Ok untold) before after d
denies turn c d s name place a b denial before after mirrors p is same writes distributor keys text =
    let named = name_of_found s name p.member p.found in
    does_goes turn (Denied p.member.name denial) s untold before after d is (text ∙ ap (λ x. before ++ report_text (Denied x denial)) (sym named)) refl
    (mirrors_again c d s place a b mirrors p.code_at same writes distributor keys)

-- ---- grant

pub grant_nobody : (s : State) (name : List ℕ) (spi : ℕ) (key : List ℕ) → member_named name s ≡ None → grant_turn s name spi key ≡ Refused Name
unfolding grant_turn
grant_nobody s name spi key none = at_nobody s name _ none

pub grant_unknown : (s : State) (name : List ℕ) (spi : ℕ) (key : List ℕ) (m : Member) → member_named name s ≡ Some m → secret_of s.secrets spi ≡ None
    → grant_turn s name spi key ≡ Refused Name
unfolding grant_turn
grant_unknown s name spi key m found none = at_somebody s name _ m found ∙ rw none refl

grant_is : (s : State) (name : List ℕ) (spi : ℕ) (key : List ℕ) (m : Member) (secret : Secret) (answer : Result ℕ GrantFault) → member_named name s ≡ Some m
    → secret_of s.secrets spi ≡ Some secret → grant_answer m.endpoint secret key ≡ answer → grant_turn s name spi key ≡ granted s m secret key answer
unfolding grant_turn
grant_is s name spi key m secret answer found issued is = at_somebody s name _ m found ∙ rw (issued, is) refl

spi_of : (secrets : List Secret) (spi : ℕ) (secret : Secret) → secret_of secrets spi ≡ Some secret → secret.spi ≡ spi
spi_of secrets spi secret found = eqb-true secret.spi spi (found_of (λ (x : Secret). x.spi == spi) secrets secret found).1

no_fault : (fault : GrantFault) → ◌≡◌ {A = Result (Unit {0}) GrantFault} (Ok tt) (Err fault) → {A : Type 0} → A
no_fault fault is = absurd cc

granted_by : (c d : code.Conference) (s : State) (name : List ℕ) (place : ℕ) (a b : code_member.Member) (secret : Secret) (spi : ℕ) (key before after : List ℕ)
    (answer : Result ℕ GrantFault) → IsOrderly s → Mirrors c s → (p : IsPlaced c s name place a) → secret_of s.secrets spi ≡ Some secret
    → grant_answer p.member.endpoint secret key ≡ answer → IsGranted answer (Ok tt) → endpoint.StandsFor b.endpoint (after_grant p.member.endpoint secret key answer)
    → TakesKey a b spi key → Writes c d place b → d.distributor ≡ c.distributor → d.keys ≡ c.keys → after ≡ before ++ report_text (Granted name spi)
    → Does (grant_turn s name spi key) (Ok untold) before after d
granted_by c d s name place a b secret spi key before after (Err fault) orderly mirrors p issued is ok stands takes writes distributor keys text = no_fault fault ok
granted_by c d s name place a b secret spi key before after (Ok epoch) orderly mirrors p issued is ok stands takes writes distributor keys text =
    let m = p.member in
    let change = with_grant secret key in
    let same = spi_of s.secrets spi secret issued in
    let named = name_of_found s name m p.found in
    let stands_so : endpoint.StandsFor b.endpoint (change m).endpoint =
    subst (λ (r : Result ℕ GrantFault). endpoint.StandsFor b.endpoint (after_grant m.endpoint secret key r)) (sym is) stands in
    let new : MirrorsMember b (change m) =
    mirrors_taken a b m (change m).endpoint secret key p.mirrors (rw is refl) stands_so (subst (λ (n : ℕ). TakesKey a b n key) (sym same) takes) in
    let keeps = takes_key a b spi key takes.ssrc takes.name takes.first takes.sends takes.keys in
    does_goes (grant_turn s name spi key) (Granted m.name secret.spi) (record s { members = with_member m.name change s.members }) untold before after d
    (grant_is s name spi key m secret (Ok epoch) p.found issued is)
    (text ∙ ap (λ x. before ++ report_text x) (λ i. Granted (sym named i) (sym same i))) refl
    (mirrors_changed c d s name place a b change s.set orderly mirrors p new keeps writes (rw distributor mirrors.distributor)
    (keys_written c d s place a b mirrors p.code_at (pairs_taken a b spi key takes) writes keys))

pub grants : (c d : code.Conference) (s : State) (name : List ℕ) (place : ℕ) (a b : code_member.Member) (secret : Secret) (spi : ℕ) (key before after : List ℕ)
    → IsOrderly s → Mirrors c s → (p : IsPlaced c s name place a) → secret_of s.secrets spi ≡ Some secret → IsGranted (grant_answer p.member.endpoint secret key) (Ok tt)
    → endpoint.StandsFor b.endpoint (after_grant p.member.endpoint secret key (grant_answer p.member.endpoint secret key))
    → TakesKey a b spi key → Writes c d place b → d.distributor ≡ c.distributor → d.keys ≡ c.keys → after ≡ before ++ report_text (Granted name spi)
    → Does (grant_turn s name spi key) (Ok untold) before after d
grants c d s name place a b secret spi key before after orderly mirrors p issued ok stands takes writes distributor keys text =
    let answer = grant_answer p.member.endpoint secret key in
    granted_by c d s name place a b secret spi key before after answer orderly mirrors p issued refl ok stands takes writes distributor keys text

err_of : (answer : Result ℕ GrantFault) (fault : GrantFault) → IsGranted answer (Err fault) → answer ≡ Err fault
err_of (Ok epoch) fault is = no_fault fault (sym is)
err_of (Err other) fault is = let same : other ≡ fault = cc in ap Err same

pub denies_grant : (c d : code.Conference) (s : State) (name : List ℕ) (place : ℕ) (a b : code_member.Member) (secret : Secret) (spi : ℕ) (key before after : List ℕ)
    (fault : GrantFault) → Mirrors c s → (p : IsPlaced c s name place a) → secret_of s.secrets spi ≡ Some secret
    → IsGranted (grant_answer p.member.endpoint secret key) (Err fault) → b ≡ a → Writes c d place b → d.distributor ≡ c.distributor → d.keys ≡ c.keys
    → after ≡ before ++ report_text (Denied name (denial_of fault)) → Does (grant_turn s name spi key) (Ok untold) before after d
denies_grant c d s name place a b secret spi key before after fault mirrors p issued is same writes distributor keys text =
    let turn_is = grant_is s name spi key p.member secret (Err fault) p.found issued (err_of (grant_answer p.member.endpoint secret key) fault is) in
    denies (grant_turn s name spi key) c d s name place a b (denial_of fault) before after mirrors p turn_is same writes distributor keys text

-- ---- rekey

pub rekey_nobody : (s : State) (name key : List ℕ) → member_named name s ≡ None → rekey_turn s name key ≡ Refused Name
unfolding rekey_turn
rekey_nobody s name key none = at_nobody s name _ none

rekey_is : (s : State) (name key : List ℕ) (m : Member) (answer : Result ℕ GrantFault) → member_named name s ≡ Some m → rekey_answer m.endpoint key ≡ answer
    → rekey_turn s name key ≡ rekeyed s m key answer
unfolding rekey_turn
rekey_is s name key m answer found is = at_somebody s name _ m found ∙ ap (rekeyed s m key) is

pub rekeys : (c d : code.Conference) (s : State) (name : List ℕ) (place : ℕ) (a b : code_member.Member) (spi epoch : ℕ) (key before after : List ℕ) → IsOrderly s
    → Mirrors c s → (p : IsPlaced c s name place a) → spi ≡ p.member.endpoint.sending.secret.spi → Ok epoch ≡ rekey_answer p.member.endpoint key
    → endpoint.StandsFor b.endpoint (after_rekey p.member.endpoint key (rekey_answer p.member.endpoint key))
    → TakesKey a b spi key → Writes c d place b → d.distributor ≡ c.distributor → d.keys ≡ c.keys → after ≡ before ++ report_text (Rekeyed name spi epoch)
    → Does (rekey_turn s name key) (Ok untold) before after d
rekeys c d s name place a b spi epoch key before after orderly mirrors p same answer stands takes writes distributor keys text =
    let m = p.member in
    let change = with_rekey key in
    let secret = m.endpoint.sending.secret in
    let named = name_of_found s name m p.found in
    let new : MirrorsMember b (change m) =
    mirrors_taken a b m (change m).endpoint secret key p.mirrors (rw (← answer) refl) stands (subst (λ (n : ℕ). TakesKey a b n key) same takes) in
    let keeps = takes_key a b spi key takes.ssrc takes.name takes.first takes.sends takes.keys in
    does_goes (rekey_turn s name key) (Rekeyed m.name secret.spi epoch) (record s { members = with_member m.name change s.members }) untold before after d
    (rekey_is s name key m (Ok epoch) p.found (sym answer))
    (text ∙ ap (λ x. before ++ report_text x) (λ i. Rekeyed (sym named i) (same i) epoch)) refl
    (mirrors_changed c d s name place a b change s.set orderly mirrors p new keeps writes (rw distributor mirrors.distributor)
    (keys_written c d s place a b mirrors p.code_at (pairs_taken a b spi key takes) writes keys))

pub denies_rekey : (c d : code.Conference) (s : State) (name : List ℕ) (place : ℕ) (a b : code_member.Member) (key before after : List ℕ) (fault : GrantFault) → Mirrors c s
    → (p : IsPlaced c s name place a) → Err fault ≡ rekey_answer p.member.endpoint key → b ≡ a → Writes c d place b → d.distributor ≡ c.distributor → d.keys ≡ c.keys
    → after ≡ before ++ report_text (Denied name (denial_of fault)) → Does (rekey_turn s name key) (Ok untold) before after d
denies_rekey c d s name place a b key before after fault mirrors p answer same writes distributor keys text =
    let turn_is = rekey_is s name key p.member (Err fault) p.found (sym answer) in
    denies (rekey_turn s name key) c d s name place a b (denial_of fault) before after mirrors p turn_is same writes distributor keys text
