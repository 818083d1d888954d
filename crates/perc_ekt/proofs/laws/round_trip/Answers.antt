use Rattle.std.proofs.Common.{refl}
use Rattle.perc_ekt.specs.Record.{record_octets}
use Rattle.perc_ekt.proofs.Keys.{opens, opens_only}
use Rattle.perc_ekt.proofs.Records.{record_reads, record_was_read}
use Rattle.perc_ekt.proofs.laws.round_trip.Goals as goal

pub returns-clause-opens : goal.returns-clause-opens
returns-clause-opens c = opens

pub returns-clause-only : goal.returns-clause-only
returns-clause-only c = opens_only

pub returns-clause-record : goal.returns-clause-record
returns-clause-record c = λ r is. record_reads r r.len (record_octets r) is refl refl

pub returns-clause-record_only : goal.returns-clause-record_only
returns-clause-record_only c = λ len octets r right fits. record_was_read len octets r right fits
