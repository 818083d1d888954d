-- A decoder of a stream of messages: what it holds, and what its calls do.
use Rattle.std.specs.Prelude.{◌≡◌, ℕ, ◌+◌, ◌-◌, ◌^◌, ◌⊎◌, ◌↔◌, min, List, [], ◌∷◌, ◌++◌, length, take, Option, Some, None, IfSome, Result, Ok, Err}
use Rattle.std.specs.List.{flat_map, All}
use Rattle.perc_tunnel.specs.declared.decoder.TunnelFault.{TunnelFault}
use Rattle.perc_tunnel.specs.Message.{TunnelMessage, IsMessage, spelling}
use Rattle.perc_tunnel.specs.Stream.{BeginsWithMessage, IsPart, IsStream, IsFaultyAt, HasReason}

-- what a decoder has come to
pub record Decoding : Type 0 where
  -- how many octets the messages had that it gave, which is where the held octets begin in the stream
  pub given : ℕ
  -- the octets that were taken and not given
  pub held : List ℕ
  pub fault : Option TunnelFault

abbrev pub fresh : Decoding
fresh = record { given = 0; held = []; fault = None }

-- how many octets a decoder holds at most: the longest message
abbrev pub room : ℕ
room = 65538

-- How many of n octets are taken: as many as there is room for, at most 2^64 - 1 in all, and none after a fault.
abbrev pub taken : Decoding → ℕ → ℕ
taken d n = taken_after d.fault where
  taken_after : Option TunnelFault → ℕ
  taken_after None = min n (min (room - length d.held) (2 ^ 64 - 1 - (d.given + length d.held)))
  taken_after (Some fault) = 0

-- the decoder after a feed
abbrev pub fed : Decoding → List ℕ → Decoding
fed d octets = record d { held = d.held ++ take (taken d (length octets)) octets }

-- The held octets are at fault, and this is why.
pub record IsFault (d : Decoding) (fault : TunnelFault) : Type 0 where
  pub first : d.fault ≡ None
  pub no_message : BeginsWithMessage d.held → ⊥
  pub no_part : IsPart d.held → ⊥
  pub offset : fault.offset ≡ d.given
  pub reason : HasReason d.held fault.reason

-- the answer to a call for the next message
abbrev pub Answer : Type 0
Answer = Result (Option TunnelMessage) TunnelFault

-- what a call for the next message does, from one state to the other
abbrev pub Decodes : Decoding → Answer → Decoding → Type 0
-- the held octets begin with the message, which is given
Decodes old (Ok (Some m)) new =
    (old.fault ≡ None) × IsMessage m × (old.held ≡ spelling m ++ new.held) × (new.given ≡ old.given + length (spelling m)) × (new.fault ≡ None)
-- they are a part of one
Decodes old (Ok None) new = (old.fault ≡ None) × IsPart old.held × (new ≡ old)
-- they are neither, now or at an earlier call
Decodes old (Err fault) new = (new ≡ record old { fault = Some fault }) × ((old.fault ≡ Some fault) ⊎ IsFault old fault)

-- ---- any calls in turn

-- a call and its answer
pub data Call : Type 0 where
  Feed : (octets : List ℕ) → Call
  Next : Answer → Call

abbrev pub given_by : Answer → List TunnelMessage
given_by (Ok (Some m)) = m ∷ []
given_by (Ok None) = []
given_by (Err fault) = []

-- The calls lead from one state to the other. Together they took these octets, and gave these messages.
abbrev pub Leads : Decoding → List Call → List ℕ → List TunnelMessage → Decoding → Type 0
Leads old [] octets messages new = (new ≡ old) × (octets ≡ []) × (messages ≡ [])
Leads old (Feed piece ∷ calls) octets messages new =
    (later : List ℕ) × (octets ≡ take (taken old (length piece)) piece ++ later) × Leads (fed old piece) calls later messages new
Leads old (Next answer ∷ calls) octets messages new =
    (between : Decoding) × (later : List TunnelMessage) × Decodes old answer between × (messages ≡ given_by answer ++ later)
    × Leads between calls octets later new

-- What was taken is what was given, in order, followed by what is held; and a fault is where it was found.
pub record IsExact (stream : List ℕ) (messages : List TunnelMessage) (d : Decoding) : Type 0 where
  pub each : All IsMessage messages
  pub octets : stream ≡ flat_map spelling messages ++ d.held
  pub given : d.given ≡ length (flat_map spelling messages)
  pub fault : IfSome d.fault (λ fault. IsFaultyAt fault.offset messages d.held stream × HasReason d.held fault.reason)

-- A new decoder was called so, took these octets and gave these messages, and to a further call it gives this answer.
pub record AnswersAfter (calls : List Call) (octets : List ℕ) (messages : List TunnelMessage) (d : Decoding) (answer : Answer) : Type 0 where
  pub leads : Leads fresh calls octets messages d
  pub new : Decoding
  pub decodes : Decodes d answer new

-- The answer is None exactly where the stream is the messages and a proper prefix of one more, a message exactly where it
-- stands behind them, and a fault at an offset exactly where the stream goes wrong there.
pub record IsExactAnswer (stream : List ℕ) (messages : List TunnelMessage) (held : List ℕ) (answer : Answer) : Type 0 where
  pub none : (answer ≡ Ok None) ↔ IsStream messages held stream
  pub message : (m : TunnelMessage) → (answer ≡ Ok (Some m)) ↔ (IsMessage m × (after : List ℕ) × (held ≡ spelling m ++ after))
  pub fault : (offset : ℕ) → ((f : TunnelFault) × (answer ≡ Err f) × (f.offset ≡ offset)) ↔ IsFaultyAt offset messages held stream

-- A feed leaves the messages and the held octets those of the stream.
abbrev pub FeedsAreExact : Type 0
FeedsAreExact =
    (stream : List ℕ) (messages : List TunnelMessage) (d : Decoding) (piece : List ℕ) → IsExact stream messages d
    → IsExact (stream ++ take (taken d (length piece)) piece) messages (fed d piece)

-- So does a call for the next message, whose answer is the one that the stream has.
abbrev pub AnswersAreExact : Type 0
AnswersAreExact =
    (stream : List ℕ) (messages : List TunnelMessage) (d new : Decoding) (answer : Answer) → IsExact stream messages d → Decodes d answer new
    → IsExact stream (messages ++ given_by answer) new × IsExactAnswer stream messages d.held answer

-- So is the answer after any calls of a new decoder.
abbrev pub EachAnswerIsExact : Type 0
EachAnswerIsExact =
    (calls : List Call) (octets : List ℕ) (messages : List TunnelMessage) (d : Decoding) (answer : Answer) → AnswersAfter calls octets messages d answer
    → IsExactAnswer octets messages d.held answer
