use Rattle.std.proofs.Common.{sym, subst}
use Rattle.perc_kdf.specs.Derivation.{IsSession}
use Rattle.perc_kdf.proofs.SessionLaws.{IsSession-session_keys}
use Rattle.perc_incoming.proofs.records.outer_session.Goals as goal

pub returns-clause-session : goal.returns-clause-session
returns-clause-session c = subst IsSession (sym c.new.ensures) (IsSession-session_keys c.args.master.now c.args.kind c.known.ensures)
