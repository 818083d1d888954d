use Rattle.std.proofs.Common.{sym, subst}
use Rattle.perc_kdf.specs.Derivation.{IsSession}
use Rattle.perc_kdf.specs.declared.Kind.TheVariants.{Srtp}
use Rattle.perc_kdf.proofs.SessionLaws.{IsSession-session_keys}
use Rattle.perc_distributor.proofs.session.media_keys.Goals as goal

pub returns-clause-session : goal.returns-clause-session
returns-clause-session c = subst IsSession (sym c.new.ensures) (IsSession-session_keys c.args.master.now Srtp c.known.ensures)
