-- How much there is in room that is taken once.
use Rattle.std.specs.Prelude.{◌≡◌, ℕ, ◌≤◌, Bool, false, if◌then◌else◌, List, [], length, All, Some, None}
use Rattle.std.specs.Option.{is_none, option_map_or}
use Rattle.perc_kdf.specs.Derivation.{IsSession, KeyAndSalt, session_keys}
use Rattle.perc_kdf.specs.declared.Kind.TheVariants.{Srtp, Srtcp}
use Rattle.perc_distributor.specs.declared.outputs.Output.{Output}
use Rattle.perc_distributor.specs.Kept.{IsWhole, Kept, Place}
use Rattle.perc_keyset.specs.declared.Entry.{Entry}
use Rattle.perc_distributor.specs.Inbound.{in_set}

-- the outputs of a batch
pub record AreInRoom (outputs : List Output) (room : ℕ) : Type 0 where
  pub few : length outputs ≤ 2048
  pub room_is : 2048 ≤ room
  pub whole : All IsWhole outputs

-- These are the session keys of a pair.
pub record AreKeysOf (master srtp srtcp : KeyAndSalt) : Type 0 where
  pub media : srtp ≡ session_keys master Srtp
  pub control : srtcp ≡ session_keys master Srtcp
  pub session : IsSession srtp

-- ---- places of serials

abbrev pub free_place : Kept
free_place = record { serial = None; streams = []; rtcp = 0 }

abbrev pub is_free : {R : Type 0} → Place R → Bool
is_free k = is_none k.serial

-- the place of a serial for which nothing was sealed
abbrev pub begun : ℕ → Kept
begun serial = record { serial = Some serial; streams = []; rtcp = 0 }

-- It is that of a serial in the set.
abbrev pub is_staying : {R : Type 0} → List Entry → Place R → Bool
is_staying set k = option_map_or (in_set set) k.serial false

-- A place becomes free where its serial isn't in the set.
abbrev pub staying : {R : Type 0} → List Entry → Place R → Place R
staying set k = if is_staying set k then k else record k { serial = None }
