use Rattle.std.proofs.Common.{ap, arith, length, subst}
use Rattle.perc_octets.specs.Octets.{AreOctets}
use Rattle.perc_kdf.proofs.SessionLaws.{IsSession-session_keys}
use Rattle.perc_kdf.proofs.session.Goals as goal

pub returns-clause-session : goal.returns-clause-session
returns-clause-session c =
    IsSession-session_keys c.args.master.now c.args.kind (record {
      key_size = c.key.ensures.length;
      key_octets = c.key.ensures.octets;
      salt_size = omega (arith, ap length c.salt.ensures);
      salt_octets = subst AreOctets c.salt.ensures c.known.ensures.octets;
    })
