use Rattle.std.proofs.Common.{refl}
use Rattle.perc_receiver.specs.Table.{secret_in}
use Rattle.perc_endpoint.specs.Endpoint.{started}
use Rattle.perc_endpoint.proofs.Standing.{started_kept}
use Rattle.perc_endpoint.proofs.endpoint.Endpoint.start.Goals as goal

pub invariant_of-result : goal.invariant_of-result
invariant_of-result c =
    let g = c.args.granted.now in
    started_kept c.in_ok-outgoing.outgoing c.in_ok-incoming.incoming g c.args.profile
    (started c.args.profile c.args.ssrc c.args.first c.args.client.now c.args.server.now (secret_in g) c.args.key.now) c.in_ok-outgoing.ensures.granted c.requires.ekt_key
    c.in_ok-incoming.ensures.profile refl refl c.in_ok-outgoing.ensures.started c.in_ok-incoming.ensures.started
