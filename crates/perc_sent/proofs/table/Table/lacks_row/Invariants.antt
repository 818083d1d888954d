-- lacks_row
use Rattle.std.proofs.Common.{◌≡◌, List, [], drop}
use Rattle.std.specs.Prelude.{is_none}
use Rattle.std.specs.List.{AllByRecursion, list_any}
use Rattle.perc_contexts.specs.Receiving.{Attempt}
use Rattle.perc_incoming.specs.Opening.{AreOpenKeys}
use Rattle.perc_receiver.specs.Opener.{row_of}
use Rattle.perc_rtp.specs.Header.{Header, IsPacket}
use Rattle.perc_run.specs.State.{State}
use Rattle.perc_sent.specs.Sent.{MirrorsTable}
use Rattle.perc_sent.proofs.table.Table.lacks_row.Given as goal

-- The keys before this one are those of packets that were sent.
abbrev pub invariant-loop-key : goal.invariant-loop-key
invariant-loop-key l = (s : State) (attempts : List Attempt) (h : Header) → MirrorsTable l.self s → AreOpenKeys attempts l.keys
    → AllByRecursion (λ a. a.context.ssrc ≡ l.question.ssrc) attempts → IsPacket h [] l.question.header.now
    → list_any (λ a. is_none (row_of s.table a.context a.index h l.question.octets.now)) (drop l.key-index attempts)
    ≡ list_any (λ a. is_none (row_of s.table a.context a.index h l.question.octets.now)) attempts
