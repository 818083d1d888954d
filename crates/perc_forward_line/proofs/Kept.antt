-- A conference mirrors what it did, where the distributor went on or datagrams were made.
use Rattle.std.proofs.Common.{◌≡◌, ℕ, List, [], ◌∷◌, ◌++◌, length, Option, Some, None, slice_get, refl, sym, ap, subst, ◌∙◌}
use Rattle.std.specs.BTreeMap.{BTreeMap}
use Rattle.std.specs.Global.{Vec}
use Rattle.std.specs.List.{flat_map, list_any}
use Rattle.std.specs.Prelude.{IfSome, false}
use Rattle.std.specs.Str.{bytes_eq}
use Rattle.std.proofs.lemmas.List.Elements.{All-weaker}
use Rattle.perc_base.specs.Profile.{key_length}
use Rattle.perc_conference_state.specs.Keys.{pairs_of}
use Rattle.perc_conference_state.specs.Mirror.{Mirrors, is_issued}
use Rattle.perc_conference_state.proofs.Served.{keys_moved}
use Rattle.perc_conference_state.specs.declared.conference.Conference as code
use Rattle.perc_distributor.specs.Forwarding.{Sealing}
use Rattle.perc_distributor.specs.Inbound.{Heard}
use Rattle.perc_ekt.specs.declared.record.EktKeyRecord.{EktKeyRecord}
use Rattle.perc_forwarder.specs.Mirror.{MirrorsDistributor}
use Rattle.perc_member.specs.Each.{MirrorEach, MirrorsDatagram, MirrorsMember}
use Rattle.perc_member.specs.declared.member.Member as code_member
use Rattle.perc_receiver.specs.Table.{Row}
use Rattle.perc_run.specs.State.{Datagram, State, datagram_at}
use Rattle.perc_sent.specs.Sent.{HasNumbers, HasPacketOf, HasRows, HasWraps, IsSentBy, IsSomebodys, MirrorsRecords, MirrorsSent}

-- the state with these in the places of what the distributor keeps and of the datagrams
abbrev pub gone_on : State → List Heard → List Sealing → List Datagram → State
gone_on s heard sealing datagrams = record s { heard = heard; sealing = sealing; datagrams = datagrams }

-- Each datagram has its number still.
abbrev pub KeepsDatagrams : List Datagram → List Datagram → Type 0
KeepsDatagrams before after = (number : ℕ) (d : Datagram) → datagram_at before number ≡ Some d → datagram_at after number ≡ Some d

-- all but the distributor and the datagrams
pub record KeepsRest (c d : code.Conference) : Type 0 where
  pub profile : d.profile ≡ c.profile
  pub records : d.records ≡ c.records
  pub issued : d.issued ≡ c.issued
  pub members : d.members ≡ c.members
  pub keys : d.keys ≡ c.keys

has_packet : (row : Row) (x y : Option Datagram) → ((d : Datagram) → x ≡ Some d → y ≡ Some d) → HasPacketOf row x → HasPacketOf row y
has_packet row None y keeps h = absurd h
has_packet row (Some d) y keeps h = subst (λ (o : Option Datagram). HasPacketOf row o) (sym (keeps d refl)) h

sent_kept : (members : List code_member.Member) (s : State) (heard : List Heard) (sealing : List Sealing) (datagrams : List Datagram) → KeepsDatagrams s.datagrams datagrams → MirrorsSent members s
    → MirrorsSent members (gone_on s heard sealing datagrams)
sent_kept members s heard sealing datagrams keeps h =
    let t = gone_on s heard sealing datagrams in
    record {
      rows = All-weaker (IsSomebodys members (IsSentBy s)) (IsSomebodys members (IsSentBy t)) (λ row x. record {
        member = x.member;
        there = x.there;
        is = record {
          ssrc = x.is.ssrc;
          sender = x.is.sender;
          from = x.is.from;
          number = x.is.number;
          key = x.is.key;
          packet = has_packet row (datagram_at s.datagrams row.datagram) (datagram_at datagrams row.datagram) (keeps row.datagram) x.is.packet;
        };
      }) s.table.rows h.rows;
      wraps = h.wraps;
      only_rows = All-weaker (HasRows s) (HasRows t) (λ m f spi key index sent. let r = f spi key index sent in record { row = r.row; there = r.there; ssrc = r.ssrc; spi_is = r.spi_is; key_is = r.key_is; index_is = r.index_is }) members h.only_rows;
      only_wraps = All-weaker (HasWraps s) (HasWraps t) (λ m f spi key roc sent. let r = f spi key roc sent in record { wrap = r.wrap; there = r.there; ssrc = r.ssrc; spi_is = r.spi_is; key_is = r.key_is; roc_is = r.roc_is }) members h.only_wraps;
      only_numbers = All-weaker (HasNumbers s) (HasNumbers t) (λ m f index number at. let r = f index number at in record { row = r.row; there = r.there; ssrc = r.ssrc; index_is = r.index_is }) members h.only_numbers;
    }

pub mirrors_after : (c d : code.Conference) (s : State) (heard : List Heard) (sealing : List Sealing) (datagrams : List Datagram)
    → Mirrors c s → KeepsRest c d → MirrorsDistributor d.distributor (gone_on s heard sealing s.datagrams)
    → KeepsDatagrams s.datagrams datagrams → MirrorEach MirrorsDatagram d.datagrams.items datagrams → Mirrors d (gone_on s heard sealing datagrams)
mirrors_after c d s heard sealing datagrams m rest distributor keeps made =
    let t = gone_on s heard sealing datagrams in
    let found : IfSome s.profile (λ profile. (key : List ℕ) → length key ≡ key_length profile → is_issued d.issued key ≡ list_any (λ x. bytes_eq x.key key) s.secrets) =
    subst (λ (issued : BTreeMap (List ℕ) ℕ). IfSome s.profile (λ profile. (key : List ℕ) → length key ≡ key_length profile → is_issued issued key ≡ list_any (λ x. bytes_eq x.key key) s.secrets)) (sym rest.issued) m.issued.found in
    let none : s.profile ≡ None → (key : List ℕ) → is_issued d.issued key ≡ false = subst (λ (issued : BTreeMap (List ℕ) ℕ). s.profile ≡ None → (key : List ℕ) → is_issued issued key ≡ false) (sym rest.issued) m.issued.none in
    record {
      profile = rest.profile ∙ m.profile;
      issued = record { found = found; none = none };
      members = subst (λ (members : Vec code_member.Member). MirrorEach MirrorsMember members.items s.members) (sym rest.members) m.members;
      distributor = record { set = distributor.set; heard = distributor.heard; number = distributor.number; of = distributor.of; sealing = distributor.sealing };
      keys =
          keys_moved c d s t rest.keys (ap (λ (records : Vec EktKeyRecord). records.items) rest.records)
          (ap (λ (members : Vec code_member.Member). flat_map pairs_of members.items) rest.members) refl refl m.keys;
      datagrams = made;
      records = subst (λ (records : Vec EktKeyRecord). IfSome s.profile (λ profile. MirrorsRecords profile records.items s.secrets)) (sym rest.records) m.records;
      none = λ e. ap (λ (records : Vec EktKeyRecord). records.items) rest.records ∙ m.none e;
      sent = sent_kept d.members.items s heard sealing datagrams keeps (subst (λ (members : Vec code_member.Member). MirrorsSent members.items s) (sym rest.members) m.sent);
    }
