-- What messages say, without where their parts lie in memory.
use Rattle.std.specs.Prelude.{ℕ, List, Option, Some, None, Result, Ok, Err}
use Rattle.perc_tunnel.specs.declared.message.ProfileList.{ProfileList}
use Rattle.perc_tunnel.specs.declared.message.MediaKeys as keys
use Rattle.perc_tunnel.specs.declared.message.Message.{Message}
use Rattle.perc_tunnel.specs.declared.message.Message.TheVariants as declared
use Rattle.perc_tunnel.specs.declared.decoder.TunnelFault.{TunnelFault}
use Rattle.perc_tunnel.specs.Numbers.{numbers_in}
use Rattle.perc_tunnel.specs.Message.{TunnelMessage, SupportedProfiles, UnsupportedVersion, MediaKeys, TunneledDtls, EndpointDisconnect}

-- the numbers of a list of profiles
abbrev pub numbers_of : ProfileList → List ℕ
numbers_of list = numbers_in list.octets.now

-- the message that gives keys
abbrev pub keys_message : keys.MediaKeys → TunnelMessage
keys_message k = MediaKeys k.association k.profile k.client k.server

abbrev pub content_of : Message → TunnelMessage
content_of (declared.SupportedProfiles version profiles) = SupportedProfiles version (numbers_of profiles)
content_of (declared.UnsupportedVersion highest) = UnsupportedVersion highest
content_of (declared.MediaKeys k) = keys_message k.now
content_of (declared.TunneledDtls association octets) = TunneledDtls association octets.now
content_of (declared.EndpointDisconnect association) = EndpointDisconnect association

abbrev pub answered : Result (Option Message) TunnelFault → Result (Option TunnelMessage) TunnelFault
answered (Ok (Some m)) = Ok (Some (content_of m))
answered (Ok None) = Ok None
answered (Err fault) = Err fault
