use Rattle.std.proofs.Common.{◌≡◌, ◌==◌, length, Some, None, subst, arith, refl}
use Rattle.std.specs.List.{position, slice_range}
use Rattle.perc_base.proofs.Decisions.{decides_line, decides_long, decides_last, undecided}
use Rattle.perc_base.proofs.lines.room.Room.decide.Goals as goal

pub returns-in-Some : goal.returns-in-Some
returns-in-Some c =
    let self = c.args.self.now in
    let full : length self.octets.items ≡ 8193 = omega (arith, self.octets.ok.0, self.full) in
    let feed = subst (λ l. Some c.in-Some.length ≡ position (λ x. x == 10) (slice_range l self.start self.end)) c.as_slice.ensures.value c.in-Some.ensures in
    decides_line self.octets.items self.start self.end self.ended self.ordered self.within full c.in-Some.length feed

pub returns-then-held-eq-SIZE : goal.returns-then-held-eq-SIZE
returns-then-held-eq-SIZE c =
    let self = c.args.self.now in
    let full : length self.octets.items ≡ 8193 = omega (arith, self.octets.ok.0, self.full) in
    let feed = subst (λ l. None ≡ position (λ x. x == 10) (slice_range l self.start self.end)) c.as_slice.ensures.value c.in_default.ensures in
    decides_long self.octets.items self.start self.end self.ended self.ordered self.within full feed c.if-held-eq-SIZE.true

pub returns-then-not-self : goal.returns-then-not-self
returns-then-not-self c =
    let self = c.args.self.now in
    let full : length self.octets.items ≡ 8193 = omega (arith, self.octets.ok.0, self.full) in
    let feed = subst (λ l. None ≡ position (λ x. x == 10) (slice_range l self.start self.end)) c.as_slice.ensures.value c.in_default.ensures in
    (undecided self.octets.items self.start self.end self.ended self.ordered self.within full feed c.if-held-eq-SIZE.false c.if-not-self.true, refl)

pub returns : goal.returns
returns c =
    let self = c.args.self.now in
    let full : length self.octets.items ≡ 8193 = omega (arith, self.octets.ok.0, self.full) in
    let feed = subst (λ l. None ≡ position (λ x. x == 10) (slice_range l self.start self.end)) c.as_slice.ensures.value c.in_default.ensures in
    decides_last self.octets.items self.start self.end self.ended self.ordered self.within full feed c.if-held-eq-SIZE.false c.if-not-self.false c.if-held-eq0.false
