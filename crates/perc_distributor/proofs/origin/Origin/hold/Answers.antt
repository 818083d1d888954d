use Rattle.perc_distributor.proofs.origin.Origin.hold.Goals as goal

pub invariant_of-self : goal.invariant_of-self
invariant_of-self c = let i = c.self.invariant in (i.0, record { streams = i.1.streams; rtcp = i.1.rtcp })
