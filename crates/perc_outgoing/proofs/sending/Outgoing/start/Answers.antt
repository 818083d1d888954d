-- What is made is an endpoint that sent nothing.
use Rattle.std.proofs.Common.{refl, arith, ◌∙◌}
use Rattle.perc_receiver.specs.Table.{secret_in}
use Rattle.perc_outgoing.specs.Sending.{started}
use Rattle.perc_outgoing.specs.Kept.{Kept}
use Rattle.perc_outgoing.proofs.Standing.{IsStart, start_stands}
use Rattle.perc_outgoing.proofs.sending.Outgoing.start.Goals as goal

pub invariant_of-result : goal.invariant_of-result
invariant_of-result c =
    let kept : Kept = record { media = c.new-media.result; control = c.new-control.result; granted = c.args.granted.now; sending = c.in-Ok.sender.value; outer = c.new-outer.result; rtcp = c.new-rtcp.result } in
    let is : IsStart kept c.args.client.now c.args.ssrc c.args.first c.args.granted.now c.args.key.now = record {
      media = c.new-media.ensures;
      control = c.new-control.ensures;
      granted_is = refl;
      sending = c.in-Ok.ensures.ok ∙ c.sender_with-first_sender.ensures;
      outer_ssrc = c.new-outer.ensures.ssrc;
      window = c.new-outer.ensures.window;
      rtcp = c.new-rtcp.ensures;
      ssrc_fits = omega arith;
      first_fits = c.requires.first;
      right = c.requires.right;
      size = c.requires.key;
      octets = λ k. omega (arith, c.type_inv.key k);
    } in
    record {
      right = c.requires.right;
      stands = (started c.args.client.now c.args.ssrc c.args.first (secret_in c.args.granted.now) c.args.key.now, start_stands kept c.args.client.now c.args.ssrc c.args.first c.args.granted.now c.args.key.now is);
    }
