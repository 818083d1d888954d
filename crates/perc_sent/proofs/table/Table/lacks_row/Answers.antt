use Rattle.std.proofs.Common.{◌≡◌, ◌≤◌, Bool, false, true, not, length, Option, Some, None, sym, ap, ◌∙◌, arith, add-one}
use Rattle.std.specs.Prelude.{is_none, is_some}
use Rattle.std.specs.List.{list_any}
use Rattle.perc_contexts.specs.Receiving.{Attempt}
use Rattle.perc_receiver.specs.Opener.{row_of}
use Rattle.perc_receiver.specs.Table.{Row}
use Rattle.perc_sent.proofs.Keys.{IsOf, any_here, any_later, open_at, open_end}
use Rattle.perc_sent.proofs.table.Table.lacks_row.Goals as goal

none_of : (b : Bool) (o : Option Row) → b ≡ is_some o → is_none o ≡ not b
none_of b None e = ap not (sym e)
none_of b (Some row) e = ap not (sym e)

pub loop-key-preserved : goal.loop-key-preserved
loop-key-preserved c s attempts h is are all packet =
    let it = open_at (IsOf c.args.question.now.ssrc) attempts c.args.keys.now c.loop-key.key-index _ are all c.loop-key-test.true in
    let row = c.is_row.ensures s it.attempt h is packet it.has it.is in
    let sent : is_none (row_of s.table it.attempt.context it.attempt.index h c.args.question.now.octets.now) ≡ false =
    none_of c.is_row.result _ row ∙ ap not c.if-not-is_row.false in
    rw add-one (sym (any_later (λ (a : Attempt). is_none (row_of s.table a.context a.index h c.args.question.now.octets.now)) _ _ it.attempt it.at sent)
    ∙ c.loop-key.invariant s attempts h is are all packet)

pub returns-then-not-is_row : goal.returns-then-not-is_row
returns-then-not-is_row c s attempts h is are all packet =
    let it = open_at (IsOf c.args.question.now.ssrc) attempts c.args.keys.now c.loop-key.key-index _ are all c.loop-key-test.true in
    let row = c.is_row.ensures s it.attempt h is packet it.has it.is in
    let unsent : is_none (row_of s.table it.attempt.context it.attempt.index h c.args.question.now.octets.now) ≡ true =
    none_of c.is_row.result _ row ∙ ap not c.if-not-is_row.true in
    sym (any_here (λ (a : Attempt). is_none (row_of s.table a.context a.index h c.args.question.now.octets.now)) _ _ it.attempt _
    (c.loop-key.invariant s attempts h is are all packet) it.at unsent)

pub returns : goal.returns
returns c s attempts h is are all packet =
    let past : length c.args.keys.now ≤ c.loop-key.key-index = omega arith in
    let none = open_end attempts c.args.keys.now c.loop-key.key-index are past in
    let test : Attempt → Bool = λ a. is_none (row_of s.table a.context a.index h c.args.question.now.octets.now) in
    sym (ap (list_any test) none) ∙ c.loop-key.invariant s attempts h is are all packet
