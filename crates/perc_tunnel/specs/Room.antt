-- The room in which a decoder holds octets, and its steps.
use Rattle.std.specs.Prelude.{◌≡◌, ℕ, ◌+◌, ◌⊎◌, List, ◌++◌, length, slice_range, Some, None}
use Rattle.perc_tunnel.specs.declared.decoder.room.Room.{Room}
use Rattle.perc_tunnel.specs.declared.decoder.room.Turn.{Turn}
use Rattle.perc_tunnel.specs.declared.decoder.room.Turn.TheVariants.{Message, Part, Fault}
use Rattle.perc_tunnel.specs.Decoding.{Decoding, IsFault}
use Rattle.perc_octets.specs.Octets.{AreOctets}
use Rattle.perc_tunnel.specs.Forms.{IsWhole, message_at}
use Rattle.perc_tunnel.specs.Told.{keys_message}
use Rattle.perc_tunnel.specs.declared.forms.Form.{Form}
use Rattle.perc_tunnel.specs.declared.forms.Form.TheVariants.{Profiles, Version, Keys, Record, Ended}
use Rattle.perc_tunnel.specs.declared.message.MediaKeys.{MediaKeys}
use Rattle.perc_tunnel.specs.Stream.{IsPart}

-- what a decoder with this room has come to
abbrev pub decoding_in : Room → Decoding
decoding_in room = record { given = room.given; held = slice_range room.octets.items room.start room.end; fault = room.fault }

-- the message that was given last
abbrev pub message_in : Room → List ℕ
message_in room = slice_range room.octets.items room.last room.start

-- A step from one state to the other, which may give this message.
abbrev pub Advances : Decoding → List ℕ → Turn → Decoding → Type 0
Advances old message (Message form) new =
    (old.fault ≡ None) × IsWhole form message × AreOctets message × (old.held ≡ message ++ new.held) × (new.given ≡ old.given + length message) × (new.fault ≡ None)
Advances old message Part new = (old.fault ≡ None) × IsPart old.held × (new ≡ old)
Advances old message (Fault fault) new = (new ≡ record old { fault = Some fault }) × ((old.fault ≡ Some fault) ⊎ IsFault old fault)

-- Where the message has keys, these are they.
abbrev pub KnowsKeys : MediaKeys → Form → List ℕ → Type 0
KnowsKeys kept Profiles octets = Unit {0}
KnowsKeys kept Version octets = Unit {0}
KnowsKeys kept (Keys profile) octets = keys_message kept ≡ message_at (Keys profile) octets
KnowsKeys kept Record octets = Unit {0}
KnowsKeys kept Ended octets = Unit {0}

-- the same where a step gives a message
abbrev pub KeepsKeys : Turn → MediaKeys → List ℕ → Type 0
KeepsKeys (Message form) kept octets = KnowsKeys kept form octets
KeepsKeys Part kept octets = Unit {0}
KeepsKeys (Fault fault) kept octets = Unit {0}
