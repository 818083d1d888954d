-- How the key distributor of a conference stands beside it.
use Rattle.std.specs.List.{flat_map}
use Rattle.std.specs.Prelude.{◌≡◌, List, [], ◌∷◌, map, Option, Some, None}
use Rattle.perc_base.specs.declared.profile.Profile.{Profile}
use Rattle.perc_conference_state.specs.declared.conference.Conference as code
use Rattle.perc_kdf.specs.Derivation.{KeyAndSalt}
use Rattle.perc_key_service.specs.Service.{Service}
use Rattle.perc_keyset.specs.declared.Entry.{Entry}
use Rattle.perc_member.specs.declared.member.Member as code_member
use Rattle.perc_run.specs.State.{State}
use Rattle.perc_tunnel.specs.declared.message.MediaKeys.{MediaKeys}

-- the outer keys of an entry
abbrev pub keys_of : Profile → Entry → MediaKeys
keys_of profile e = record { association = e.association; profile = profile; client = e.client; server = e.server }

-- the pairs that a member brought
abbrev pub pairs_of : code_member.Member → List KeyAndSalt
pairs_of m = m.client ∷ m.server ∷ []

-- It issued the records that there are, and gave the pairs of all who joined; and its members are those of the distributor's key set, with
-- their pairs, in the order of joining.
pub record MirrorsService (c : code.Conference) (s : State) (profile : Profile) (k : Service) : Type 0 where
  pub profile_is : k.profile ≡ profile
  pub issued : k.lists.issued ≡ c.records.items
  pub given : k.lists.given ≡ flat_map pairs_of c.members.items
  pub members : k.lists.members ≡ map (keys_of profile) s.set

-- Behind the head there is one, and before it none.
abbrev pub MirrorsKeys : code.Conference → State → Option Profile → Option Service → Type 0
MirrorsKeys c s None None = Unit {0}
MirrorsKeys c s None (Some k) = ⊥
MirrorsKeys c s (Some profile) None = ⊥
MirrorsKeys c s (Some profile) (Some k) = MirrorsService c s profile k
