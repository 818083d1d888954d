use Rattle.std.proofs.Common.{◌∷◌}
use Rattle.perc_srtp.specs.Streams.{rtcp_opened}
use Rattle.perc_incoming.proofs.Standing.{rtcp_stands, rtcp_taken}
use Rattle.perc_incoming.proofs.receiving.Incoming.receive_rtcp.Goals as goal

pub invariant_of-self-2 : goal.invariant_of-self-2
invariant_of-self-2 c =
    let i = c.self.invariant in
    let r = i.stands.0 in
    let t = rtcp_taken (rtcp_opened c.self.inside.control r.rtcp c.args.datagram.now) c.in_ok-len.len c.unseal.new.packet c.unseal.new.self r.rtcp _ _
    (c.in_ok-len.ensures.answer r.rtcp i.stands.1.rtcp) in
    record {
      session = i.session;
      some = i.some;
      right = i.right;
      room_is = i.room_is;
      few = i.few;
      stands = (record r { rtcp = t.0 ∷ r.rtcp }, rtcp_stands _ r t.0 c.unseal.new.self i.stands.1 t.1);
    }
