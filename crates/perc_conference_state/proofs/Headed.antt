-- What the head of a script leaves.
use Rattle.std.proofs.Common.{◌≡◌, ℕ, List, [], ◌∷◌, length, map, Option, Some, None, Ok, refl, sym, ap, ◌∙◌, subst, arith}
use Rattle.std.specs.List.{flat_map, list_any}
use Rattle.std.specs.Str.{bytes_eq}
use Rattle.std.proofs.lemmas.List.{append-nil}
use Rattle.std.proofs.lemmas.List.Elements.{All-nil}
use Rattle.perc_base.specs.declared.profile.Profile.{Profile}
use Rattle.perc_conference_state.specs.Keys.{MirrorsService, keys_of, pairs_of}
use Rattle.perc_conference_state.specs.Mirror.{Does, Mirrors}
use Rattle.perc_conference_state.specs.declared.conference.Conference as code
use Rattle.perc_conference_state.proofs.Turning.{untold}
use Rattle.perc_ekt.specs.Record.{IsRecord}
use Rattle.perc_ekt.specs.declared.record.EktKeyRecord.{EktKeyRecord}
use Rattle.perc_forwarder.specs.Mirror.{MirrorsDistributor}
use Rattle.perc_forwarder.specs.declared.distributor.Distributor as code_distributor
use Rattle.perc_keeper.specs.Lists.{nothing}
use Rattle.perc_key_service.specs.Service.{Service}
use Rattle.perc_receiver.specs.Table.{Secret}
use Rattle.perc_run.specs.Sound.{AreOfProfile, IsOrderly, KeysFit, entries_from}
use Rattle.perc_run.specs.State.{Goes, State}
use Rattle.perc_sent.proofs.Kept.{sent_moved}
use Rattle.perc_sent.specs.Sent.{MirrorsRecords}

abbrev pub headed : State → Profile → State
headed s profile = record s { profile = Some profile }

abbrev pub code_headed : code.Conference → Profile → Service → code.Conference
code_headed c profile k = record c { profile = Some profile; keys = Some k }

-- ---- before the head

-- no key is issued
none_issued : (s : State) → s.profile ≡ None → IsOrderly s → s.secrets ≡ []
none_issued s none orderly = subst (λ (o : Option Profile). KeysFit o s.secrets) none orderly.sound.fits

-- and nobody is a member
nobody_joined : (s : State) → s.profile ≡ None → IsOrderly s → s.members ≡ []
nobody_joined s none orderly = subst (λ (o : Option Profile). AreOfProfile o s.members) none orderly.profiles

nil_of : {A : Type 0} (xs : List A) → length xs ≡ 0 → xs ≡ []
nil_of [] is = refl
nil_of (x ∷ xs) is = absurd (omega (arith, is))

-- ---- behind it

distributor_headed : (s : State) (profile : Profile) (d : code_distributor.Distributor) → MirrorsDistributor d s → MirrorsDistributor d (headed s profile)
distributor_headed s profile d is = record { set = is.set; heard = is.heard; number = is.number; of = is.of; sealing = is.sealing }

no_records : (profile : Profile) (records : List EktKeyRecord) (secrets : List Secret) → records ≡ [] → secrets ≡ [] → MirrorsRecords profile records secrets
no_records profile records secrets none empty =
    subst (λ (x : List Secret). MirrorsRecords profile records x) (sym empty) (subst (λ (x : List EktKeyRecord). MirrorsRecords profile x []) (sym none) (record {
      secrets_are = refl;
      right = All-nil IsRecord;
      size = All-nil _;
      spis = λ k r is. absurd (cc);
    }))

-- A new key distributor has nothing, as there is nothing.
serves_nothing : (c : code.Conference) (s : State) (profile : Profile) (k : Service) → s.profile ≡ None → IsOrderly s → Mirrors c s
    → k ≡ record { profile = profile; lists = nothing } → MirrorsService (code_headed c profile k) (headed s profile) profile k
serves_nothing c s profile k none orderly mirrors new =
    let members = nobody_joined s none orderly in
    let joined : c.members.items ≡ [] = nil_of c.members.items (mirrors.members.count ∙ ap length members) in
    let set : s.set ≡ [] = orderly.entries ∙ ap (entries_from 0) members in
    record {
      profile_is = ap (λ (x : Service). x.profile) new;
      issued = ap (λ (x : Service). x.lists.issued) new ∙ sym (mirrors.none none);
      given = ap (λ (x : Service). x.lists.given) new ∙ sym (ap (flat_map pairs_of) joined);
      members = ap (λ (x : Service). x.lists.members) new ∙ sym (ap (map (keys_of profile)) set);
    }

mirrors_headed : (c : code.Conference) (s : State) (profile : Profile) (k : Service) → s.profile ≡ None → IsOrderly s → Mirrors c s
    → k ≡ record { profile = profile; lists = nothing } → Mirrors (code_headed c profile k) (headed s profile)
mirrors_headed c s profile k none orderly mirrors new =
    let empty = none_issued s none orderly in record {
      profile = refl;
      issued = record {
        found = λ key size. mirrors.issued.none none key ∙ sym (ap (list_any (λ (x : Secret). bytes_eq x.key key)) empty);
        none = λ is. absurd (cc);
      };
      members = mirrors.members;
      distributor = distributor_headed s profile c.distributor mirrors.distributor;
      keys = serves_nothing c s profile k none orderly mirrors new;
      datagrams = mirrors.datagrams;
      records = no_records profile c.records.items s.secrets (mirrors.none none) empty;
      none = λ is. absurd (cc);
      sent = sent_moved c.members.items s (headed s profile) refl refl mirrors.sent;
    }

pub opens : (c : code.Conference) (s : State) (profile : Profile) (k : Service) (text : List ℕ) → c.profile ≡ None → k ≡ record { profile = profile; lists = nothing }
    → IsOrderly s → Mirrors c s → Does (Goes [] (headed s profile)) (Ok untold) text text (code_headed c profile k)
opens c s profile k text none new orderly mirrors =
    (sym (append-nil text), refl, mirrors_headed c s profile k (sym mirrors.profile ∙ none) orderly mirrors new)
