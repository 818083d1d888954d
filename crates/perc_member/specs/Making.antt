-- How members begin, and what they send.
use Rattle.std.specs.Prelude.{◌≡◌, ℕ, ◌<◌, ◌≤◌, ◌+◌, ◌^◌, ◌++◌, [], ◌∷◌, true, List, length, None}
use Rattle.perc_base.specs.Profile.{key_length}
use Rattle.perc_base.specs.declared.profile.Profile.{Profile}
use Rattle.perc_endpoint.specs.Endpoint.{started}
use Rattle.perc_kdf.specs.Derivation.{session_keys}
use Rattle.perc_kdf.specs.declared.Kind.TheVariants.{Srtp}
use Rattle.perc_member.specs.Each.{MirrorsMember, MirrorsDatagram}
use Rattle.perc_member.specs.Taken.{with_sent_last}
use Rattle.perc_member.specs.declared.datagram.Datagram as code_datagram
use Rattle.perc_member.specs.declared.datagram.Parts.{Parts}
use Rattle.perc_member.specs.declared.member.Member as code_member
use Rattle.perc_member.specs.declared.member.Newcomer.{Newcomer}
use Rattle.perc_member.specs.declared.opening.Opening.{Opening}
use Rattle.perc_ohb.specs.declared.block.Ohb.{Ohb}
use Rattle.perc_outgoing.specs.Sending.{IsSending, outer_index, sent_header}
use Rattle.perc_receiver.specs.Table.{IsSecret, Secret}
use Rattle.perc_rtp.specs.Header.{Header, IsHeader, spelling}
use Rattle.perc_rtp.specs.Media.{Content}
use Rattle.perc_run.specs.Sending.{sent_by, with_send}
use Rattle.perc_run.specs.State.{Datagram, Member}

-- a newcomer's keys have the profile's length
pub record IsNewcomer (profile : Profile) (n : Newcomer) : Type 0 where
  pub client : length n.client.key ≡ key_length profile
  pub server : length n.server.key ≡ key_length profile
  pub key : length n.key ≡ key_length profile

-- the member that a newcomer becomes
abbrev pub begun : Profile → Newcomer → (association : List ℕ) → Secret → Member
begun profile n association secret = record {
  name = n.name;
  association = association;
  ssrc = n.ssrc;
  client = n.client;
  server = n.server;
  endpoint = started profile n.ssrc n.seq n.client n.server secret n.key;
  present = true;
}

-- a member of the code that sent nothing
pub record StartsAs (profile : Profile) (n : Newcomer) (association : List ℕ) (secret : Secret) (c : code_member.Member) : Type 0 where
  pub mirrors : MirrorsMember c (begun profile n association secret)
  pub first : c.first ≡ n.seq
  pub sends : c.sends.items ≡ []
  pub keys : c.keys.items ≡ record { spi = secret.spi; key = n.key; sent = None } ∷ []

-- a member sends under a right secret and its client pair, and has more than one index left
pub record MaySend (m : Member) : Type 0 where
  pub sending : IsSending m.endpoint.sending
  pub secret : IsSecret m.endpoint.sending.secret
  pub client : m.endpoint.sending.client ≡ m.client
  pub left : m.endpoint.sending.sending.next + 1 < 2 ^ 48

-- the datagram is a member's next, of this content, whose header fits its bits
pub record OpensAs (opening : Opening) (m : Member) (content : Content) (datagram : List ℕ) : Type 0 where
  pub may : MaySend m
  pub keys : opening.keys ≡ session_keys m.endpoint.sending.client Srtp
  pub next : opening.next ≡ outer_index m.endpoint.sending
  pub header : IsHeader (sent_header m.endpoint.sending content)
  pub datagram_is : datagram ≡ (sent_by m content).octets

-- A member's next datagram, and what the code keeps of it then.
pub record SendsNext (m : Member) (content : Content) (number : ℕ) (before after : code_member.Member) (d : code_datagram.Datagram) : Type 0 where
  pub datagram : MirrorsDatagram d (sent_by m content)
  pub member : MirrorsMember after (with_send m)
  pub first : after.first ≡ before.first
  pub sends : after.sends.items ≡ before.sends.items ++ number ∷ []
  pub keys : after.keys.items ≡ with_sent_last (before.first + length before.sends.items) before.keys.items

-- where the parts of an unsealed packet end
pub record ArePartsOf (h : Header) (inner : List ℕ) (o : Ohb) (packet : List ℕ) (p : Parts) : Type 0 where
  pub header : p.header ≡ length (spelling h)
  pub inner_is : p.inner ≡ length (spelling h) + length inner
  pub ohb : p.ohb ≡ o
  pub within : p.inner ≤ length packet
