-- The tries by places are those under the contexts that are held.
use Rattle.std.proofs.Common.{◌≡◌, Ok, Err}
use Rattle.perc_contexts.specs.Kept.{told_of}
use Rattle.perc_contexts.specs.Places.{carried_try}
use Rattle.perc_contexts.proofs.Trying.{made, made_alone, refused}
use Rattle.perc_contexts.proofs.Contexts.tries.Goals as goal
use Rattle.perc_contexts.proofs.Contexts.tries.Goals.{in-Some+in_ok-try_carried, in_default}

pub returns-in_err-try_carried : goal.returns-in_err-try_carried
returns-in_err-try_carried c = λ held stands.
    let one : Err c.in_err-try_carried.field-0.0 ≡ carried_try c.args.self.now.contexts c.args.ssrc c.args.seq (told_of c.in-Some.carried.now) =
    rw (← c.self.view_is, ← c.as_slice.ensures.value) (c.in_err-try_carried.ensures.value) in
    rw c.in-Some.is (refused c.args.self.now.contexts held.contexts c.args.ssrc c.args.seq (told_of c.in-Some.carried.now) _ _
    c.in_err-try_carried.ensures.low c.ranges.seq.fits stands.contexts one c.from_residual.ensures.0)

pub returns : goal.returns
returns c = λ held stands.
    elim c.match-carried.branch [
      | in-Some+in_ok-try_carried w ↦
          let one : Ok w.in_ok-try_carried.field-0 ≡ carried_try c.args.self.now.contexts c.args.ssrc c.args.seq (told_of w.in-Some.carried.now) =
          rw (← c.self.view_is, ← w.as_slice.ensures.value) (w.in_ok-try_carried.ensures.value) in
          rw w.in-Some.is (made c.args.self.now.contexts held.contexts c.args.ssrc c.args.seq (told_of w.in-Some.carried.now) w.in_ok-try_carried.field-0 _
          w.in_ok-try_carried.ensures.low c.ranges.seq.fits stands.contexts one
          (rw (← c.self.view_is, ← c.as_slice-2.ensures.value) (rw (w.list-is, w.push.ensures.items, c.new-list.ensures) at c.try_newest.ensures)))
      | in_default w ↦
          rw w.in_default.is (made_alone c.args.self.now.contexts held.contexts c.args.ssrc c.args.seq _ c.ranges.seq.fits stands.contexts
          (rw (← c.self.view_is, ← c.as_slice-2.ensures.value) (rw (w.list-is, c.new-list.ensures) at c.try_newest.ensures)))
    ]
