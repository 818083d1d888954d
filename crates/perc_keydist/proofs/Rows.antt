-- The runs that were worked by hand, computed.
use Rattle.std.proofs.Common.{refl}
use Rattle.perc_ekt.specs.Record as ekt
use Rattle.perc_tunnel.specs.Message as tunnel
use Rattle.perc_keydist.specs.ClearRecord as clear
use Rattle.perc_keydist.specs.Distributing as spec
use Rattle.perc_keydist.specs.Rows.{WorkedRows}

pub worked_rows : WorkedRows
unfolding ekt.record_octets tunnel.spelling tunnel.body clear.spelling clear.record_in spec.step
worked_rows = record {
  first_join = refl;
  rolled = refl;
  key_again = refl;
  pair_twice = refl;
  issued_still = refl;
  other_profile = refl;
  crowded = refl;
  version = refl;
  spent = refl;
  left = refl;
  offered_twice = refl;
  answered = refl;
  keys_heard = refl;
  hello_first = refl;
  end_first = refl;
}
