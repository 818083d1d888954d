-- The state behind the opening, and its form from then on.
use Rattle.std.proofs.Common.{◌≡◌, ℕ, ◌+◌, true, List, [], ◌∷◌, refl}
use Rattle.std.specs.Prelude.{Some, None, codes, replicate}
use Rattle.byteorder.specs.Endian.{big_bytes}
use Rattle.perc_base.specs.declared.profile.Profile.TheVariants.{Aes128}
use Rattle.perc_kdf.specs.Derivation.{KeyAndSalt}
use Rattle.perc_keyset.specs.Set.{absorbed}
use Rattle.perc_keyset.specs.declared.Entry.{Entry}
use Rattle.perc_receiver.specs.Table.{Secret, Table}
use Rattle.perc_endpoint.specs.Endpoint.{Endpoint, started}
use Rattle.perc_distributor.specs.Inbound.{Heard}
use Rattle.perc_distributor.specs.Forwarding.{Sealing}
use Rattle.perc_run.specs.State.{Datagram, Member, State, nobody}
use Rattle.perc_run.specs.Keys.{ekt_turn}
use Rattle.perc_run.specs.Joining.{join_turn}
use Rattle.perc_run.specs.Turn.{turn}
use Rattle.perc_generator.specs.Generator.{opening}
use Rattle.perc_generated.proofs.Passing.{Passes}

-- what changes in the three members' conference
pub record Parts : Type 0 where
  pub ann : Endpoint
  pub bob : Endpoint
  pub cat : Endpoint
  pub heard : List Heard
  pub sealing : List Sealing
  pub table : Table
  pub datagrams : List Datagram

abbrev pub pair : ℕ → KeyAndSalt
pair x = record { key = replicate 16 x; salt = replicate 12 x }

abbrev pub secret : Secret
secret = record { spi = 1; key = replicate 16 1; salt = replicate 12 2 }

abbrev pub member : List ℕ → ℕ → ℕ → Endpoint → Member
member name number octet endpoint = record {
  name = name;
  association = big_bytes 16 number;
  ssrc = number;
  client = pair (octet + 1);
  server = pair (octet + 2);
  endpoint = endpoint;
  present = true;
}

abbrev pub entry : ℕ → ℕ → ℕ → Entry
entry number serial octet = record { association = big_bytes 16 number; serial = serial; client = pair (octet + 1); server = pair (octet + 2) }

abbrev pub entries : List Entry
entries = entry 1 0 160 ∷ entry 2 1 176 ∷ entry 3 2 192 ∷ []

abbrev pub state_of : Parts → State
state_of p = record {
  profile = Some Aes128;
  secrets = secret ∷ [];
  members = member (codes "Ann") 1 160 p.ann ∷ member (codes "Bob") 2 176 p.bob ∷ member (codes "Cat") 3 192 p.cat ∷ [];
  set = entries;
  heard = p.heard;
  sealing = p.sealing;
  table = p.table;
  datagrams = p.datagrams;
}

abbrev pub newcomer : ℕ → ℕ → Endpoint
newcomer number octet = started Aes128 number 65400 (pair (octet + 1)) (pair (octet + 2)) secret (replicate 16 (octet + 3))

abbrev pub begun : Parts
begun = record {
  ann = newcomer 1 160;
  bob = newcomer 2 176;
  cat = newcomer 3 192;
  heard = [];
  sealing = [];
  table = record { rows = []; wraps = [] };
  datagrams = [];
}

pub opening_passes : Passes (λ s. s ≡ state_of begun) nobody opening
unfolding turn ekt_turn join_turn absorbed
opening_passes = refl
