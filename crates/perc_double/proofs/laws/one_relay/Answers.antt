use Rattle.perc_double.proofs.RelayLaws.{IsHeader-relayed, restored_relayed}
use Rattle.perc_double.proofs.laws.one_relay.Goals as goal

pub returns-clause-header : goal.returns-clause-header
returns-clause-header c = IsHeader-relayed

pub returns-clause-restored : goal.returns-clause-restored
returns-clause-restored c = restored_relayed
