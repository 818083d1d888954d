-- The key distributor beside a conference: what a line leaves of it where it leaves the records, the key set and the members' pairs.
use Rattle.std.proofs.Common.{◌≡◌, ℕ, zero, suc, List, [], ◌∷◌, ◌++◌, map, Option, Some, None, slice_get, slice_set, MutBor, refl, sym, ap, ◌∙◌, subst}
use Rattle.std.specs.List.{flat_map}
use Rattle.std.specs.Option.{option_map}
use Rattle.std.proofs.lemmas.List.Concat.{flat_map-cons}
use Rattle.std.proofs.lemmas.Option.{none-some, same_Some}
use Rattle.perc_base.specs.declared.profile.Profile.{Profile}
use Rattle.perc_kdf.specs.Derivation.{KeyAndSalt}
use Rattle.perc_key_service.specs.Service.{Service}
use Rattle.perc_member.specs.Each.{MirrorsMember}
use Rattle.perc_member.specs.declared.member.Member as code_member
use Rattle.perc_run.specs.State.{Member, State}
use Rattle.perc_conference_state.specs.declared.conference.Conference as code
use Rattle.perc_conference_state.specs.Keys.{MirrorsKeys, MirrorsService, keys_of, pairs_of}
use Rattle.perc_conference_state.specs.Mirror.{Mirrors}

-- ---- the key distributor behind the head

pub record TheService (c : code.Conference) (s : State) (profile : Profile) : Type 0 where
  pub service : Service
  pub is : c.keys ≡ Some service
  pub mirrors : MirrorsService c s profile service

service_in : (c : code.Conference) (s : State) (profile : Profile) (p : Option Profile) (o : Option Service) → p ≡ Some profile → c.keys ≡ o → MirrorsKeys c s p o
    → TheService c s profile
service_in c s profile None o is keys h = absurd (none-some profile is)
service_in c s profile (Some p) None is keys h = absurd h
service_in c s profile (Some p) (Some k) is keys h =
    record { service = k; is = keys; mirrors = subst (λ (x : Profile). MirrorsService c s x k) (same_Some p profile is) h }

pub the_service : (c : code.Conference) (s : State) (profile : Profile) → Mirrors c s → c.profile ≡ Some profile → TheService c s profile
the_service c s profile mirrors is = service_in c s profile s.profile c.keys (sym mirrors.profile ∙ is) refl mirrors.keys

pub service_of : (c : code.Conference) (s : State) (profile : Profile) (k : Service) → Mirrors c s → c.profile ≡ Some profile → c.keys ≡ Some k
    → MirrorsService c s profile k
service_of c s profile k mirrors is keys =
    let it = the_service c s profile mirrors is in
    subst (MirrorsService c s profile) (same_Some it.service k (sym it.is ∙ keys)) it.mirrors

-- what is lent of an option
pub lent_is : (o : Option Service) (r : Option (MutBor Service)) (x : MutBor Service) → option_map (λ y. y.now) r ≡ o → r ≡ Some x → o ≡ Some x.now
lent_is o r x value is = sym value ∙ ap (option_map (λ (y : MutBor Service). y.now)) is

pub keys_from : (d : code.Conference) (t : State) (profile : Profile) (k : Service) → t.profile ≡ Some profile → d.keys ≡ Some k → MirrorsService d t profile k
    → MirrorsKeys d t t.profile d.keys
keys_from d t profile k is keys h =
    subst (λ (p : Option Profile). MirrorsKeys d t p d.keys) (sym is) (subst (MirrorsKeys d t (Some profile)) (sym keys) h)

-- ---- what a line leaves

keys_in : (c d : code.Conference) (s t : State) (p : Option Profile) (o : Option Service) → d.records.items ≡ c.records.items
    → flat_map pairs_of d.members.items ≡ flat_map pairs_of c.members.items → t.set ≡ s.set → MirrorsKeys c s p o → MirrorsKeys d t p o
keys_in c d s t None None records pairs set h = tt
keys_in c d s t None (Some k) records pairs set h = h
keys_in c d s t (Some p) None records pairs set h = h
keys_in c d s t (Some p) (Some k) records pairs set h = record {
  profile_is = h.profile_is;
  issued = h.issued ∙ sym records;
  given = h.given ∙ sym pairs;
  members = h.members ∙ ap (map (keys_of p)) (sym set);
}

pub keys_moved : (c d : code.Conference) (s t : State) → d.keys ≡ c.keys → d.records.items ≡ c.records.items
    → flat_map pairs_of d.members.items ≡ flat_map pairs_of c.members.items → t.profile ≡ s.profile → t.set ≡ s.set → MirrorsKeys c s s.profile c.keys
    → MirrorsKeys d t t.profile d.keys
keys_moved c d s t keys records pairs profile set h =
    subst (λ (p : Option Profile). MirrorsKeys d t p d.keys) (sym profile)
    (subst (MirrorsKeys d t s.profile) (sym keys) (keys_in c d s t s.profile c.keys records pairs set h))

-- ---- the members' pairs

-- the pairs of a member that is written back at its place
pub pairs_set : (members : List code_member.Member) (place : ℕ) (a b : code_member.Member) → slice_get members place ≡ Some a → pairs_of b ≡ pairs_of a
    → flat_map pairs_of (slice_set members place b) ≡ flat_map pairs_of members
pairs_set [] place a b at same = refl
pairs_set (m ∷ members) zero a b at same =
    flat_map-cons pairs_of b members
    ∙ ap (λ (xs : List KeyAndSalt). xs ++ flat_map pairs_of members) (same ∙ ap pairs_of (sym (same_Some m a at)))
    ∙ sym (flat_map-cons pairs_of m members)
pairs_set (m ∷ members) (suc place) a b at same =
    flat_map-cons pairs_of m (slice_set members place b)
    ∙ ap (λ (xs : List KeyAndSalt). pairs_of m ++ xs) (pairs_set members place a b at same)
    ∙ sym (flat_map-cons pairs_of m members)

-- Members of the code that mirror members with the same pairs have the same pairs.
pub same_pairs : (a b : code_member.Member) (m n : Member) → MirrorsMember a m → MirrorsMember b n → n.client ≡ m.client → n.server ≡ m.server → pairs_of b ≡ pairs_of a
same_pairs a b m n old new client server =
    let first = new.client ∙ client ∙ sym old.client in
    let second = new.server ∙ server ∙ sym old.server in
    λ i. first i ∷ second i ∷ []
