use Rattle.std.proofs.Common.{ℕ, List, Ok, None, subst, ◌∙◌, arith}
use Rattle.perc_outer.specs.Datagram.{reached}
use Rattle.perc_outer.specs.Kept.{IsReach}
use Rattle.perc_distributor.proofs.Copies.{copy_reached}
use Rattle.perc_distributor.proofs.origin.reach_copy.Goals as goal

pub returns-clause-answer : goal.returns-clause-answer
returns-clause-answer c = λ before stands.
    copy_reached c.args.keys.now before c.args.datagram.now c.reach.new.datagram _ c.in_ok-told.told
    (record { session = c.requires.session; octets = c.known_octets.ensures.octets; size = omega arith; within = let range = c.in_ok-told.ensures.range in omega (arith, range.len) })
    (subst (λ (xs : List ℕ). IsReach (reached c.args.keys.now None before xs) (Ok c.in_ok-told.told) c.reach.new.datagram) (c.copy_from_slice.ensures.after ∙ c.known_octets.ensures.same)
    (c.in_ok-told.ensures.answer before stands))
