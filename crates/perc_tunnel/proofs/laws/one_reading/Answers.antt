use Rattle.perc_tunnel.proofs.Streams.{one_stream, one_fault, never_both}
use Rattle.perc_tunnel.proofs.laws.one_reading.Goals as goal

pub returns-clause-stream : goal.returns-clause-stream
returns-clause-stream c = one_stream

pub returns-clause-fault : goal.returns-clause-fault
returns-clause-fault c = one_fault

pub returns-clause-one : goal.returns-clause-one
returns-clause-one c = never_both
