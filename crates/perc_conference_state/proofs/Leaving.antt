-- A member leaves.
use Rattle.std.proofs.Common.{◌≡◌, true, false, List, ℕ, [], ◌∷◌, ◌++◌, map, Option, Some, None, Ok, slice_get, refl, sym, ap, ◌∙◌, subst}
use Rattle.std.specs.List.{flat_map}
use Rattle.std.proofs.lemmas.Bool.{and_parts}
use Rattle.std.proofs.lemmas.Option.{none-some}
use Rattle.perc_base.specs.declared.profile.Profile.{Profile}
use Rattle.perc_contexts.proofs.ReceivingLaws.{found_of}
use Rattle.perc_forwarder.specs.Mirror.{MirrorsDistributor}
use Rattle.perc_keeper.specs.Lists as keeper
use Rattle.perc_keeper.specs.Lists.{is_member, without_member}
use Rattle.perc_key_service.specs.Service.{Service}
use Rattle.perc_keyset.specs.Set.{absorbed}
use Rattle.perc_keyset.specs.declared.Op.TheVariants.{Remove}
use Rattle.perc_member.specs.Each.{MirrorsMember}
use Rattle.perc_member.specs.declared.member.Member as code_member
use Rattle.perc_report_line.specs.Report.{Left, report_text}
use Rattle.perc_run.specs.Joining.{gone, leave_turn}
use Rattle.perc_run.specs.Sound.{AreOfProfile, IsOrderly, entries_from}
use Rattle.perc_run.specs.State.{Goes, Member, Refused, State, has_name, is_present, member_named, with_member}
use Rattle.perc_script_line.specs.declared.reason.Reason.TheVariants.{Name}
use Rattle.perc_sent.proofs.Kept.{KeepsSent}
use Rattle.perc_tunnel.specs.declared.message.MediaKeys.{MediaKeys}
use Rattle.perc_conference_state.specs.declared.conference.Conference as code
use Rattle.perc_conference_state.specs.Keys.{MirrorsKeys, MirrorsService, keys_of, pairs_of}
use Rattle.perc_conference_state.specs.Mirror.{Does, Mirrors}
use Rattle.perc_conference_state.proofs.Changing.{IsPlaced, Writes, mirrors_changed, records_kept}
use Rattle.perc_conference_state.proofs.Entries.{goes_too, is_there, removed}
use Rattle.perc_conference_state.proofs.Places.{at_nobody, at_somebody, name_of_found}
use Rattle.perc_conference_state.proofs.Served.{keys_from, pairs_set}
use Rattle.perc_conference_state.proofs.Turning.{does_goes, untold}

pub leave_nobody : (s : State) (name : List ℕ) → member_named name s ≡ None → leave_turn s name ≡ Refused Name
unfolding leave_turn
leave_nobody s name none = at_nobody s name _ none

-- the state once it left
abbrev without : State → Member → State
without s m = record s { members = with_member m.name gone s.members; set = absorbed s.set (Remove m.association) }

leave_goes : (s : State) (name : List ℕ) (m : Member) → member_named name s ≡ Some m → leave_turn s name ≡ Goes (Left m.name ∷ []) (without s m)
unfolding leave_turn
leave_goes s name m found = at_somebody s name _ m found

-- a member of the code that isn't present any more
abbrev pub absent : code_member.Member → code_member.Member
absent a = record a { present = false }

mirrors_absent : (a : code_member.Member) (m : Member) → MirrorsMember a m → MirrorsMember (absent a) (gone m)
mirrors_absent a m h = record {
  name = h.name;
  association = h.association;
  ssrc = h.ssrc;
  client = h.client;
  server = h.server;
  endpoint = h.endpoint;
  opening_keys = h.opening_keys;
  opening_next = h.opening_next;
  present = refl;
  next = h.next;
  keys = h.keys;
  last = h.last;
  counted = h.counted;
}

keeps_absent : (a : code_member.Member) → KeepsSent a (absent a)
keeps_absent a = record { ssrc = refl; name = refl; first = refl; sends = refl; under = λ spi key index. refl; wrapped = λ spi key roc. refl }

-- ---- the key distributor

-- A member that is found is present.
present_of : (s : State) (name : List ℕ) (m : Member) → member_named name s ≡ Some m → m.present ≡ true
present_of s name m found = (and_parts m.present (has_name name m) (found_of (is_present name) s.members m found).1).0

head_in : (o : Option Profile) (members : List Member) (place : ℕ) (m : Member) → AreOfProfile o members → slice_get members place ≡ Some m
    → (profile : Profile) × (o ≡ Some profile)
head_in None members place m none at = absurd (none-some m (ap (λ (ms : List Member). slice_get ms place) (sym none) ∙ at))
head_in (Some profile) members place m are at = (profile, refl)

-- Where there is a member there was a head.
pub head_of : (c : code.Conference) (s : State) (name : List ℕ) (place : ℕ) (a : code_member.Member) → IsOrderly s → Mirrors c s → IsPlaced c s name place a
    → (profile : Profile) × (c.profile ≡ Some profile)
head_of c s name place a orderly mirrors p =
    let head = head_in s.profile s.members place p.member orderly.profiles p.at in
    (head.0, mirrors.profile ∙ head.1)

-- The key distributor has the member.
pub may_leave : (c : code.Conference) (s : State) (name : List ℕ) (place : ℕ) (a : code_member.Member) (profile : Profile) (k : Service) → IsOrderly s
    → MirrorsService c s profile k → IsPlaced c s name place a → is_member k.lists.members a.association ≡ true
may_leave c s name place a profile k orderly service p =
    let there = is_there profile 0 s.members place p.member p.at (present_of s name p.member p.found) in
    ap (λ (ks : List MediaKeys). is_member ks a.association) (service.members ∙ ap (map (keys_of profile)) orderly.entries)
    ∙ ap (is_member (map (keys_of profile) (entries_from 0 s.members))) p.mirrors.association ∙ there

-- and has it no more
serves_others : (c d : code.Conference) (s : State) (name : List ℕ) (place : ℕ) (a : code_member.Member) (profile : Profile) (k : Service) (association : List ℕ)
    → MirrorsService c s profile k → IsPlaced c s name place a → Writes c d place (absent a)
    → MirrorsService d (record s { set = absorbed s.set (Remove association) }) profile (record k { lists = without_member association k.lists })
serves_others c d s name place a profile k association service p writes = record {
  profile_is = service.profile_is;
  issued = service.issued ∙ sym (records_kept c d writes.leaves);
  given = service.given ∙ sym (ap (flat_map pairs_of) writes.members ∙ pairs_set c.members.items place a (absent a) p.code_at refl);
  members =
      ap (keeper.without association) service.members ∙ goes_too profile association s.set
      ∙ ap (map (keys_of profile)) (sym (removed association s.set));
}

-- ---- the line

pub leaves : (c d : code.Conference) (s : State) (name : List ℕ) (place : ℕ) (a : code_member.Member) (profile : Profile) (k after : Service) (before behind : List ℕ)
    → IsOrderly s → Mirrors c s → IsPlaced c s name place a → c.profile ≡ Some profile → MirrorsService c s profile k
    → after ≡ record k { lists = without_member a.association k.lists } → d.keys ≡ Some after → Writes c d place (absent a)
    → MirrorsDistributor d.distributor (record s { set = absorbed s.set (Remove a.association) })
    → behind ≡ before ++ report_text (Left name) → Does (leave_turn s name) (Ok untold) before behind d
leaves c d s name place a profile k after before behind orderly mirrors p head service heard keys writes distributor text =
    let m = p.member in
    let next = record s { set = absorbed s.set (Remove m.association) } in
    let forwards : MirrorsDistributor d.distributor next =
    subst (λ (x : List ℕ). MirrorsDistributor d.distributor (record s { set = absorbed s.set (Remove x) })) p.mirrors.association distributor in
    let others = record k { lists = without_member m.association k.lists } in
    let heard_so : after ≡ others = heard ∙ ap (λ (x : List ℕ). record k { lists = without_member x k.lists }) p.mirrors.association in
    let served : MirrorsKeys d next s.profile d.keys =
    keys_from d next profile others (sym mirrors.profile ∙ head) (keys ∙ ap Some heard_so) (serves_others c d s name place a profile k m.association service p writes) in
    does_goes (leave_turn s name) (Left m.name) (without s m) untold before behind d (leave_goes s name m p.found)
    (text ∙ ap (λ x. before ++ report_text (Left x)) (sym (name_of_found s name m p.found))) refl
    (mirrors_changed c d s name place a (absent a) gone (absorbed s.set (Remove m.association)) orderly mirrors p (mirrors_absent a m p.mirrors) (keeps_absent a)
    writes forwards served)
