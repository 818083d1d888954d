-- The replies to a hello, and what is read of them.
use Rattle.std.specs.List.{flat_map}
use Rattle.std.specs.Prelude.{◌≡◌, ℕ, List, ◌++◌, length, Option, Some, None}
use Rattle.perc_base.specs.Profile.{key_length}
use Rattle.perc_base.specs.declared.profile.Profile.{Profile}
use Rattle.perc_ekt.specs.declared.record.EktKeyRecord.{EktKeyRecord}
use Rattle.perc_ekt.specs.Record.{IsRecord}
use Rattle.perc_tunnel.specs.Decoding.{Decoding}
use Rattle.perc_tunnel.specs.declared.message.MediaKeys as keys
use Rattle.perc_tunnel.specs.Message.{TunnelMessage, SupportedProfiles, UnsupportedVersion, MediaKeys, TunneledDtls, EndpointDisconnect, IsMessage, spelling}
use Rattle.perc_keydist.specs.Answers.{clear_answers}
use Rattle.perc_keydist.specs.ClearRecord.{Record, record_in}
use Rattle.perc_keydist.specs.Distributing.{welcomed}

-- the outer keys that a message gives
abbrev pub keys_told : TunnelMessage → Option keys.MediaKeys
keys_told (SupportedProfiles version profiles) = None
keys_told (UnsupportedVersion highest) = None
keys_told (MediaKeys association profile client server) = Some (record { association = association; profile = profile; client = client; server = server })
keys_told (TunneledDtls association octets) = None
keys_told (EndpointDisconnect association) = None

-- the clear record that a message carries in a conference of this profile
abbrev pub record_told : Profile → TunnelMessage → Option Record
record_told p (SupportedProfiles version profiles) = None
record_told p (UnsupportedVersion highest) = None
record_told p (MediaKeys association profile client server) = None
record_told p (TunneledDtls association octets) = record_in p octets
record_told p (EndpointDisconnect association) = None

-- A decoder holds the octets of this message, and these behind them.
pub record Holds (m : TunnelMessage) (rest : List ℕ) (d : Decoding) : Type 0 where
  pub no_fault : d.fault ≡ None
  pub is : IsMessage m
  pub octets : d.held ≡ spelling m ++ rest

-- The octets are those of the replies to a member with these keys, to whom this record is granted, and all lengths are those of the
-- profile.
pub record AreReplies (p : Profile) (k : keys.MediaKeys) (granted : EktKeyRecord) (octets : List ℕ) : Type 0 where
  pub profile_is : k.profile ≡ p
  pub association_size : length k.association ≡ 16
  pub client_size : length k.client.key ≡ key_length p
  pub client_salt : length k.client.salt ≡ 12
  pub server_size : length k.server.key ≡ key_length p
  pub server_salt : length k.server.salt ≡ 12
  pub right : IsRecord granted
  pub granted_size : granted.len ≡ key_length p
  pub spelled : octets ≡ flat_map spelling (welcomed clear_answers k granted)
