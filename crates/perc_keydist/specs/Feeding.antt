-- What is read of a stream, and what was made of its messages, as far as it goes or up to a fault.
use Rattle.std.specs.List.{flat_map, All}
use Rattle.std.specs.Prelude.{◌≡◌, ℕ, ◌+◌, Bool, List, ◌++◌, length, map, Option, Some, None, Result, Ok, Err, IsTrue}
use Rattle.perc_tunnel.specs.declared.decoder.TunnelFault.{TunnelFault}
use Rattle.perc_tunnel.specs.Decoding.{Decoding}
use Rattle.perc_tunnel.specs.Message.{TunnelMessage, IsMessage, spelling}
use Rattle.perc_tunnel.specs.Stream.{BeginsWithMessage, HasReason, IsPart}
use Rattle.perc_keeper.specs.Lists.{Lists}
use Rattle.perc_keydist.specs.declared.desk.Desk.{Desk}
use Rattle.perc_keydist.specs.declared.fault.KdFault.{KdFault}
use Rattle.perc_keydist.specs.declared.fault.KdFault.TheVariants as fault
use Rattle.perc_keydist.specs.Answers.{Answers}
use Rattle.perc_keydist.specs.Causes.{is_stated, told_as}
use Rattle.perc_keydist.specs.Desks.{IsDone, accepted_at, count_of, state_at}
use Rattle.perc_keydist.specs.Distributing.{Heard, Turn, run_of}

-- ---- the stream

-- The octets, which begin at a place of the stream, are these messages, followed by a rest that begins at this offset.
pub record Reads (octets : List ℕ) (start : ℕ) (messages : List TunnelMessage) (rest : List ℕ) (offset : ℕ) : Type 0 where
  pub each : All IsMessage messages
  pub spelled : octets ≡ flat_map spelling messages ++ rest
  pub offset_is : offset ≡ start + length (flat_map spelling messages)

-- The rest goes wrong where this fault says, and for the reason that it says.
pub record IsWrong (f : TunnelFault) (rest : List ℕ) (offset : ℕ) : Type 0 where
  pub offset_is : f.offset ≡ offset
  pub no_message : BeginsWithMessage rest → ⊥
  pub no_part : IsPart rest → ⊥
  pub reason : HasReason rest f.reason

-- A fault of the stream is where the rest begins.
abbrev pub Stops : KdFault → List ℕ → ℕ → Type 0
Stops (fault.Tunnel f) rest offset = IsWrong f rest offset
Stops (fault.Order type) rest offset = Unit {0}
Stops fault.SpiSpent rest offset = Unit {0}
Stops fault.KeyRepeated rest offset = Unit {0}
Stops fault.Keeper rest offset = Unit {0}
Stops fault.Handshake rest offset = Unit {0}
Stops fault.Random rest offset = Unit {0}
Stops fault.Memory rest offset = Unit {0}

-- These messages were read of the octets, behind which a decoder holds the rest, or a fault came.
abbrev pub Decoded : {X : Type 0} → List ℕ → ℕ → List TunnelMessage → Result X KdFault → Decoding → Type 0
Decoded octets start messages (Ok x) new = Reads octets start messages new.held new.given × (new.fault ≡ None)
Decoded octets start messages (Err e) new = (rest : List ℕ) × (offset : ℕ) × Reads octets start messages rest offset × Stops e rest offset

-- ---- its messages

-- The turn's replies were appended, and it brought this fault, or none where the fault is one of the stream or of the outside. Where
-- an object of the outside failed or memory is out, nothing more is said.
pub record IsEnded (t : Turn) (e : KdFault) (before after : List ℕ) (lists : Option Lists) (randoms : Option (List ℕ)) : Type 0 where
  pub replied : after ≡ before ++ flat_map spelling t.replies
  pub brought : t.fault ≡ told_as e
  pub stands : IsTrue (is_stated e) → (lists ≡ Some t.state.lists) × (randoms ≡ Some t.randoms)

-- The turn was done, by which so many more have left, or it ended so.
abbrev pub Ran : {X : Type 0} → Turn → ℕ → (X → ℕ) → Result X KdFault → List ℕ → List ℕ → Option (List ℕ) → Option Lists → Option (List ℕ) → Type 0
Ran t left count (Ok x) before after accepted lists randoms = IsDone t before after accepted lists randoms (left + count x)
Ran t left count (Err e) before after accepted lists randoms = IsEnded t e before after lists randoms

-- Where the outside tells what it holds, the run over these messages goes so, however many have left before.
abbrev pub Carries : {X : Type 0} → (X → ℕ) → Desk → Desk → List TunnelMessage → Result X KdFault → Option Answers → Option Lists → Option Lists
    → Option (List ℕ) → Option (List ℕ) → List ℕ → List ℕ → Type 0
Carries count old new messages result answers lists kept randoms rest before after =
    (a : Answers) (l : Lists) (drawn : List ℕ) (left : ℕ) → answers ≡ Some a → lists ≡ Some l → randoms ≡ Some drawn
    → Ran (run_of a (state_at old l left) (map Heard messages) drawn) left count result before after (accepted_at new) kept rest

-- Messages were read of the octets, and the run over them goes so.
abbrev pub Feeds : {X : Type 0} → (X → ℕ) → List ℕ → ℕ → Decoding → Desk → Desk → Result X KdFault → Option Answers → Option Lists → Option Lists
    → Option (List ℕ) → Option (List ℕ) → List ℕ → List ℕ → Type 0
Feeds count octets start decoding old new result answers lists kept randoms rest before after =
    (messages : List TunnelMessage) × Decoded octets start messages result decoding
    × Carries count old new messages result answers lists kept randoms rest before after

-- how many members left by the next message, if there was one, and in all
abbrev pub count_next : Option Bool → ℕ
count_next (Some has_left) = count_of has_left
count_next None = 0

abbrev pub itself : ℕ → ℕ
itself left = left
