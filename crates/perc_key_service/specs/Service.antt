-- What the key distributor of a script holds, and what a member is told when it joins.
use Rattle.std.specs.Prelude.{◌≡◌, ℕ, ◌+◌, ◌<◌, ◌≤◌, false, List, length, None, Some}
use Rattle.perc_base.specs.Profile.{key_length}
use Rattle.perc_base.specs.declared.profile.Profile.{Profile}
use Rattle.perc_kdf.specs.Derivation.{KeyAndSalt}
use Rattle.perc_ekt.specs.declared.record.EktKeyRecord.{EktKeyRecord}
use Rattle.perc_tunnel.specs.declared.message.MediaKeys.{MediaKeys}
use Rattle.perc_keeper.specs.Lists.{Lists, member_of, newest, spi_of}
use Rattle.perc_keydist.specs.Distributing.{drawn_record, next_spi, repeats}

-- the conference's profile, and what its keeper has
pub record Service : Type 0 where
  pub profile : Profile
  pub lists : Lists

-- ---- issuing

-- The key has the profile's length and is new, and an SPI is left.
pub record MayIssue (s : Service) (key : List ℕ) : Type 0 where
  pub size : length key ≡ key_length s.profile
  pub unused : spi_of s.lists.issued key ≡ None
  pub left : next_spi s.lists.issued ≤ 65535

-- the record of this key and this salt
abbrev pub issued_as : Service → List ℕ → List ℕ → EktKeyRecord
issued_as s key salt = drawn_record s.profile s.lists.issued (record { key = key; salt = salt })

-- ---- joining

-- the outer keys of an association with these pairs
abbrev pub keys_as : Service → List ℕ → KeyAndSalt → KeyAndSalt → MediaKeys
keys_as s association client server = record { association = association; profile = s.profile; client = client; server = server }

-- The association is none of a member, there is room for one more, its pairs have the profile's length and are new, and this record is
-- the newest, with a key of that length.
pub record MayJoin (s : Service) (association : List ℕ) (client server : KeyAndSalt) (granted : EktKeyRecord) : Type 0 where
  pub stranger : member_of s.lists.members association ≡ None
  pub room : length s.lists.members < 64
  pub few : length s.lists.given < 65536
  pub client_size : length client.key ≡ key_length s.profile
  pub server_size : length server.key ≡ key_length s.profile
  pub unused : repeats (keys_as s association client server) s.lists ≡ false
  pub newest_is : newest s.lists.issued ≡ Some granted
  pub granted_size : granted.len ≡ key_length s.profile
