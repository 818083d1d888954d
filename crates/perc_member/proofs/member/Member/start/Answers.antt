use Rattle.std.proofs.Common.{refl, rules}
use Rattle.perc_receiver.specs.Table.{secret_in}
use Rattle.perc_member.proofs.Started.{starts}
use Rattle.perc_member.proofs.member.Member.start.Goals as goal

pub returns : goal.returns
returns c =
    starts c.args.profile c.args.newcomer.now c.args.association (secret_in c.args.granted.now) c.in_ok-endpoint.endpoint c.new-2.result c.octets.result.now c.from-first.result c.new-3.result c.push.new.self
    (record {
      stands = c.in_ok-endpoint.ensures.started;
      key_is = c.octets.ensures.value;
      opening_keys = c.new-2.ensures.keys;
      opening_next = c.new-2.ensures.next;
      below = c.new-2.ensures.below;
      first_is = c.from-first.ensures;
      sends_are = c.new-3.ensures.items;
      keys_are = search rules;
    })
