-- When a key distributor serves a script.
use Rattle.std.specs.Prelude.{◌≡◌, ℕ, ◌+◌, ◌*◌, ◌≤◌, List, [], ◌∷◌, ◌++◌, All, length, Option, Some, None}
use Rattle.perc_kdf.specs.Derivation.{KeyAndSalt}
use Rattle.perc_ekt.specs.Record.{IsRecord}
use Rattle.perc_keeper.specs.Lists.{Lists}
use Rattle.perc_keydist.specs.declared.fault.KdFault.{KdFault}
use Rattle.perc_keydist.specs.declared.fault.KdFault.TheVariants as fault
use Rattle.perc_keydist.specs.KeyDistributor.{KeyDistributor, octets_taken}
use Rattle.perc_key_service.specs.Service.{Service}

-- the numbers of both profiles
abbrev pub both : List ℕ
both = 9 ∷ 10 ∷ []

-- a key with its salt, as it is drawn
abbrev pub octets_of : KeyAndSalt → List ℕ
octets_of pair = pair.key ++ pair.salt

-- Both profiles were accepted, it stands at a message's start, and what it took is little: each pair that is given makes up for a hello
-- and for the end of its association. The issued records are right.
pub record Serves (l : Lists) (k : KeyDistributor) : Type 0 where
  pub accepts : k.accepted ≡ Some both
  pub at_start : k.decoding.held ≡ []
  pub few : octets_taken k + 32 * length l.members ≤ 64 + 32 * length l.given
  pub bounded : length l.given ≤ 65537
  pub right : All IsRecord l.issued

-- It serves, or memory was out.
abbrev pub IsServing : Option KdFault → Lists → KeyDistributor → Type 0
IsServing None l k = Serves l k
IsServing (Some f) l k = (f ≡ fault.Memory) × (octets_taken k ≤ 4194304)

-- its service, where this is kept
abbrev pub service_of : KeyDistributor → Lists → Service
service_of k l = record { profile = k.profile; lists = l }
