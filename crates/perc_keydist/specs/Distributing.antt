-- What a key distributor does (RFC 8870 section 5.1, RFC 8871, RFC 9185), over messages and rolls of the EKT key. The order of
-- messages and the bound of members are this product's own.
use Rattle.std.specs.List.{list_any}
use Rattle.std.specs.Option.{option_map_or}
use Rattle.std.specs.Prelude.{ℕ, ◌+◌, ◌==◌, nat_le, Bool, ◌&&◌, ◌||◌, if◌then◌else◌, List, [], ◌∷◌, ◌++◌, length, map, drop, Option, Some, None, Result, Ok, Err, is_some}
use Rattle.perc_base.specs.Outside.{drawn}
use Rattle.perc_base.specs.Profile.{profile_number, key_length}
use Rattle.perc_base.specs.declared.profile.Profile.{Profile}
use Rattle.perc_kdf.specs.Derivation.{KeyAndSalt}
use Rattle.perc_kdf.specs.Order.{same_pair}
use Rattle.perc_ekt.specs.declared.record.EktKeyRecord.{EktKeyRecord}
use Rattle.perc_ekt.specs.Key.{stored}
use Rattle.perc_tunnel.specs.declared.message.MediaKeys as keys
use Rattle.perc_tunnel.specs.Message.{TunnelMessage, SupportedProfiles, UnsupportedVersion, MediaKeys, TunneledDtls, EndpointDisconnect}
use Rattle.perc_tunnel.specs.Told.{keys_message}
use Rattle.perc_keeper.specs.Lists.{Lists, newest, spi_of, was_given, member_of, is_member, with_issued, with_member, without_member}
use Rattle.perc_keydist.specs.Answers.{Answers}
use Rattle.perc_keydist.specs.declared.handshake.Hello.{Hello}
use Rattle.perc_keydist.specs.declared.handshake.Hello.TheVariants.{Join, Other}

-- a message was heard, or the EKT key is rolled
pub data Event : Type 0 where
  Heard : (message : TunnelMessage) → Event
  Rolled : Event

-- why a key distributor goes no further: a message of this type stands where none may, no SPI is left, or a drawn key repeats
pub data Fault : Type 0 where
  Order : (type : ℕ) → Fault
  SpiSpent : Fault
  KeyRepeated : Fault

-- The conference's profile, the profiles that were accepted of the media distributor, what is kept, and how many members left.
pub record State : Type 0 where
  pub profile : Profile
  pub accepted : Option (List ℕ)
  pub lists : Lists
  pub left : ℕ

-- the state of a new key distributor
abbrev pub begun : Profile → Lists → State
begun profile l = record { profile = profile; accepted = None; lists = l; left = 0 }

-- what is behind an event, or behind some: the replies, the state, the octets that are still to be drawn, and the first fault
pub record Turn : Type 0 where
  pub replies : List TunnelMessage
  pub state : State
  pub randoms : List ℕ
  pub fault : Option Fault

-- ---- what is drawn and kept

-- what a part of a turn gave, what is kept then, and the octets still to be drawn
pub record Part (X : Type 0) : Type 0 where
  pub answer : Result X Fault
  pub lists : Lists
  pub randoms : List ℕ

-- a key of n octets is drawn, and then a salt of 12
abbrev pub drawn_pair : ℕ → List ℕ → KeyAndSalt
drawn_pair n randoms = record { key = drawn n randoms; salt = drawn 12 (drop n randoms) }

abbrev pub behind_pair : ℕ → List ℕ → List ℕ
behind_pair n randoms = drop 12 (drop n randoms)

-- SPIs are issued from 1 on
abbrev pub next_spi : List EktKeyRecord → ℕ
next_spi issued = option_map_or (λ r. r.spi + 1) (newest issued) 1

-- the record of a drawn key: it lives for a day
abbrev pub drawn_record : Profile → List EktKeyRecord → KeyAndSalt → EktKeyRecord
drawn_record profile issued pair = record {
  key = stored pair.key;
  len = key_length profile;
  salt = pair.salt;
  spi = next_spi issued;
  life = 86400;
}

-- A drawn key is issued, unless it was issued before.
abbrev pub issuing : Profile → Lists → KeyAndSalt → List ℕ → Part EktKeyRecord
issuing profile l pair randoms =
    if is_some (spi_of l.issued pair.key) then record { answer = Err KeyRepeated; lists = l; randoms = randoms }
    else record { answer = Ok (drawn_record profile l.issued pair); lists = with_issued (drawn_record profile l.issued pair) l; randoms = randoms }

-- The next EKT key is drawn and issued, where there is an SPI for it.
abbrev pub issue : Profile → Lists → List ℕ → Part EktKeyRecord
issue profile l randoms =
    if nat_le 65536 (next_spi l.issued) then record { answer = Err SpiSpent; lists = l; randoms = randoms }
    else issuing profile l (drawn_pair (key_length profile) randoms) (behind_pair (key_length profile) randoms)

-- the record that a new member is granted: the newest, if its key has the profile's length, or else the next
abbrev pub granting : Profile → Lists → List ℕ → Option EktKeyRecord → Part EktKeyRecord
granting profile l randoms None = issue profile l randoms
granting profile l randoms (Some r) =
    if r.len == key_length profile then record { answer = Ok r; lists = l; randoms = randoms } else issue profile l randoms

abbrev pub grant : Profile → Lists → List ℕ → Part EktKeyRecord
grant profile l randoms = granting profile l randoms (newest l.issued)

-- a new member's outer keys: the client's pair is drawn, and then the server's
abbrev pub drawn_keys : Profile → List ℕ → List ℕ → keys.MediaKeys
drawn_keys profile association randoms = record {
  association = association;
  profile = profile;
  client = drawn_pair (key_length profile) randoms;
  server = drawn_pair (key_length profile) (behind_pair (key_length profile) randoms);
}

abbrev pub behind_keys : Profile → List ℕ → List ℕ
behind_keys profile randoms = behind_pair (key_length profile) (behind_pair (key_length profile) randoms)

-- whether the pairs are one, or one of them was ever given
abbrev pub repeats : keys.MediaKeys → Lists → Bool
repeats k l = same_pair k.client k.server || (was_given l.given k.client || was_given l.given k.server)

-- These keys are kept, and given, unless they repeat.
abbrev pub admitting : Lists → keys.MediaKeys → List ℕ → Part keys.MediaKeys
admitting l k randoms =
    if repeats k l then record { answer = Err KeyRepeated; lists = l; randoms = randoms }
    else record { answer = Ok k; lists = with_member k l; randoms = randoms }

-- ---- what is replied

-- the replies to a member: its outer keys, and behind them its welcome
abbrev pub welcomed : Answers → keys.MediaKeys → EktKeyRecord → List TunnelMessage
welcomed a k granted = keys_message k ∷ TunneledDtls k.association (a.welcome k granted) ∷ []

-- how many members a conference has at most
abbrev pub most_members : ℕ
most_members = 64

-- replies, and what is kept then
abbrev pub Replying : Type 0
Replying = Part (List TunnelMessage)

abbrev pub silent : Lists → List ℕ → Replying
silent l randoms = record { answer = Ok []; lists = l; randoms = randoms }

abbrev pub welcoming : Answers → EktKeyRecord → Part keys.MediaKeys → Replying
welcoming a granted admitted = record { answer = told admitted.answer; lists = admitted.lists; randoms = admitted.randoms } where
  told : Result keys.MediaKeys Fault → Result (List TunnelMessage) Fault
  told (Ok k) = Ok (welcomed a k granted)
  told (Err fault) = Err fault

-- a stranger joins, to whom this part granted an EKT key
abbrev pub joining : Answers → Profile → List ℕ → Part EktKeyRecord → Replying
joining a profile association granted = behind granted.answer where
  behind : Result EktKeyRecord Fault → Replying
  behind (Ok r) =
      welcoming a r (admitting granted.lists (drawn_keys profile association granted.randoms) (behind_keys profile granted.randoms))
  behind (Err fault) = record { answer = Err fault; lists = granted.lists; randoms = granted.randoms }

-- a member is welcomed again, with the newest EKT key
abbrev pub welcoming_again : Answers → keys.MediaKeys → Lists → List ℕ → Option EktKeyRecord → Replying
welcoming_again a k l randoms None = silent l randoms
welcoming_again a k l randoms (Some granted) = record { answer = Ok (welcomed a k granted); lists = l; randoms = randoms }

-- an association wants to join, which is this member or a stranger
abbrev pub join_of : Answers → Profile → List ℕ → Lists → List ℕ → Option keys.MediaKeys → Replying
join_of a profile association l randoms (Some k) = welcoming_again a k l randoms (newest l.issued)
join_of a profile association l randoms None =
    if nat_le most_members (length l.members) then silent l randoms else joining a profile association (grant profile l randoms)

abbrev pub join : Answers → Profile → List ℕ → Lists → List ℕ → Replying
join a profile association l randoms = join_of a profile association l randoms (member_of l.members association)

-- what a record of an association brings: only one that joins with the conference's profile, and this among those accepted
abbrev pub record_heard : Answers → Profile → List ℕ → List ℕ → Lists → List ℕ → Hello → Replying
record_heard a profile accepted association l randoms (Join number) =
    if number == profile_number profile && list_any (λ p. p == number) accepted then join a profile association l randoms
    else silent l randoms
record_heard a profile accepted association l randoms Other = silent l randoms

-- ---- turns

abbrev pub quiet : State → List ℕ → Turn
quiet s randoms = record { replies = []; state = s; randoms = randoms; fault = None }

abbrev pub refused : State → List ℕ → Fault → Turn
refused s randoms fault = record { replies = []; state = s; randoms = randoms; fault = Some fault }

-- the turn of replies
abbrev pub turn_of : State → Replying → Turn
turn_of s part = after part.answer where
  after : Result (List TunnelMessage) Fault → Turn
  after (Ok replies) = record { replies = replies; state = record s { lists = part.lists }; randoms = part.randoms; fault = None }
  after (Err fault) = refused (record s { lists = part.lists }) part.randoms fault

-- profiles are offered: in a version other than 0 they aren't accepted
abbrev pub offered : State → List ℕ → ℕ → List ℕ → Turn
offered s randoms version profiles =
    if version == 0 then quiet (record s { accepted = Some profiles }) randoms
    else record { replies = UnsupportedVersion 0 ∷ []; state = s; randoms = randoms; fault = None }

-- an association has ended: a member that has is counted
abbrev pub ended : State → List ℕ → List ℕ → Turn
ended s randoms association =
    if is_member s.lists.members association
    then quiet (record s { lists = without_member association s.lists; left = s.left + 1 }) randoms
    else quiet s randoms

-- a message is heard behind these accepted profiles, or before there are any
abbrev pub hear : Answers → State → List ℕ → TunnelMessage → Option (List ℕ) → Turn
hear a s randoms (SupportedProfiles version profiles) None = offered s randoms version profiles
hear a s randoms (SupportedProfiles version profiles) (Some accepted) = refused s randoms (Order 1)
hear a s randoms (UnsupportedVersion highest) accepted = refused s randoms (Order 2)
hear a s randoms (MediaKeys association profile client server) accepted = refused s randoms (Order 3)
hear a s randoms (TunneledDtls association octets) None = refused s randoms (Order 4)
hear a s randoms (TunneledDtls association octets) (Some accepted) =
    turn_of s (record_heard a s.profile accepted association s.lists randoms (a.taken octets))
hear a s randoms (EndpointDisconnect association) None = refused s randoms (Order 5)
hear a s randoms (EndpointDisconnect association) (Some accepted) = ended s randoms association

-- a renewal for each of these members
abbrev pub renewals : Answers → EktKeyRecord → List keys.MediaKeys → List TunnelMessage
renewals a granted members = map (λ k. TunneledDtls k.association (a.renewal granted)) members

-- the EKT key is rolled: the next is issued, and each member gets it, in order of joining
abbrev pub rolling : Answers → State → Part EktKeyRecord → Turn
rolling a s issued = after issued.answer where
  after : Result EktKeyRecord Fault → Turn
  after (Ok r) = record {
    replies = renewals a r issued.lists.members;
    state = record s { lists = issued.lists };
    randoms = issued.randoms;
    fault = None;
  }
  after (Err fault) = refused (record s { lists = issued.lists }) issued.randoms fault

unfoldable pub step : Answers → State → Event → List ℕ → Turn
step a s (Heard message) randoms = hear a s randoms message s.accepted
step a s Rolled randoms = rolling a s (issue s.profile s.lists randoms)

-- a turn, and behind it the later ones, unless it brought a fault
abbrev pub before : Turn → Option Fault → Turn → Turn
before t (Some fault) later = t
before t None later = record later { replies = t.replies ++ later.replies }

-- the events in turn, up to the first fault
abbrev pub run_of : Answers → State → List Event → List ℕ → Turn
run_of a s [] randoms = quiet s randoms
run_of a s (event ∷ events) randoms =
    let t = step a s event randoms in before t t.fault (run_of a t.state events t.randoms)
