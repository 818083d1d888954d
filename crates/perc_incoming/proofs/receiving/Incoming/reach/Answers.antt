use Rattle.std.proofs.Common.{Some, rules, subst}
use Rattle.perc_outer.specs.Datagram.{Reach, reached}
use Rattle.perc_receiver.specs.Receiver.{reach_of}
use Rattle.perc_incoming.specs.Outcome.{IsReachedAs, after_reach}
use Rattle.perc_outer.specs.Kept as outer
use Rattle.perc_outer.specs.Datagram.{streams_after}
use Rattle.perc_incoming.proofs.Parts.{reach_is, reach_stands, reached_as, reached_some}
use Rattle.perc_incoming.proofs.receiving.Incoming.reach.Goals as goal

pub invariant_of-self : goal.invariant_of-self
invariant_of-self c =
    let i = c.self.invariant in
    let r = i.stands.0 in
    let d = c.args.datagram.now in
    let streams = subst (λ (reach : Reach). outer.StandsFor c.reach.new.streams (streams_after r.streams reach)) (reach_is _ r d i.stands.1) (c.reach.ensures.streams r.streams i.stands.1.streams) in
    record {
      session = i.session;
      some = i.some;
      right = i.right;
      room_is = i.room_is;
      few = i.few;
      stands = (after_reach r (reach_of r d), reach_stands _ r (reach_of r d) c.reach.new.streams i.stands.1 streams);
    }

pub returns-clause-answer : goal.returns-clause-answer
returns-clause-answer c = λ r stands.
    let i = c.self.invariant in
    let inside = c.self.inside in
    let d = c.args.datagram.now in
    let s = rw (← c.self.view_is) at stands in
    subst (λ (reach : Reach). IsReachedAs reach c.reach.result c.reach.new.datagram) (reach_is _ r d s)
    (reached_as inside.media (Some inside.ssrc) r.streams d c.reach.new.datagram c.reach.result i.session c.known_octets.ensures.octets (c.reach.ensures.answer r.streams s.streams))

pub returns-clause-reached : goal.returns-clause-reached
returns-clause-reached c =
    let i = c.self.invariant in
    let inside = c.self.inside in
    let r = i.stands.0 in
    let d = c.args.datagram.now in
    reached_some (reached inside.media (Some inside.ssrc) r.streams d) c.reach.result c.reach.new.datagram (search rules) c.reach.ensures.range
    (reached_as inside.media (Some inside.ssrc) r.streams d c.reach.new.datagram c.reach.result i.session c.known_octets.ensures.octets (c.reach.ensures.answer r.streams i.stands.1.streams))
