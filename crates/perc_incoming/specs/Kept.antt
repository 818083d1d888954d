-- What the code keeps of an endpoint's receiving, and what it stands for.
use Rattle.std.specs.Prelude.{◌≡◌, ℕ, ◌≤◌, ◌<◌, List, length, map, All}
use Rattle.perc_base.specs.Profile.{key_length}
use Rattle.perc_base.specs.declared.profile.Profile.{Profile}
use Rattle.perc_kdf.specs.Derivation.{IsSession, KeyAndSalt, session_keys}
use Rattle.perc_kdf.specs.declared.Kind.TheVariants.{Srtp, Srtcp}
use Rattle.perc_window.specs.Replay.{Marks, StandsFor as WindowStandsFor}
use Rattle.perc_srtp.specs.Ends.{Stream}
use Rattle.perc_ekt.specs.Record.{IsRecord}
use Rattle.perc_ekt.specs.declared.record.EktKeyRecord.{EktKeyRecord}
use Rattle.perc_contexts.specs.Receiving.{live_spis}
use Rattle.perc_contexts.specs.Kept as contexts
use Rattle.perc_outer.specs.Kept as outer
use Rattle.perc_receiver.specs.Table.{secret_in}
use Rattle.perc_receiver.specs.Receiver.{Receiver, receiving}

pub record Kept : Type 0 where
  pub profile : Profile
  pub ssrc : ℕ
  -- the session keys of the outer master for media and for control
  pub media : KeyAndSalt
  pub control : KeyAndSalt
  -- the records of the live SPIs, rising
  pub records : List EktKeyRecord
  pub contexts : contexts.Kept
  pub streams : List Stream
  pub rtcp : Marks

pub record StandsFor (kept : Kept) (r : Receiver) : Type 0 where
  pub ssrc : kept.ssrc ≡ r.ssrc
  pub media : kept.media ≡ session_keys r.server Srtp
  pub control : kept.control ≡ session_keys r.server Srtcp
  pub secrets : map secret_in kept.records ≡ r.secrets
  pub contexts : contexts.StandsFor kept.contexts (receiving r)
  pub streams : outer.StandsFor kept.streams r.streams
  pub rtcp : WindowStandsFor kept.rtcp r.rtcp

-- The record is right, and its key is as long as the profile's.
pub record IsRecordFor (profile : Profile) (r : EktKeyRecord) : Type 0 where
  pub right : IsRecord r
  pub key : r.len ≡ key_length profile

-- The outer keys are those of a session. There is a record, each is right, and there is room for as many as may be. What is
-- kept stands for some receiver.
pub record IsKept (kept : Kept) (room : ℕ) : Type 0 where
  pub session : IsSession kept.media
  pub some : 0 < length kept.records
  pub right : All (IsRecordFor kept.profile) kept.records
  pub room_is : live_spis ≤ room
  pub few : length kept.records ≤ live_spis
  pub stands : (r : Receiver) × StandsFor kept r
