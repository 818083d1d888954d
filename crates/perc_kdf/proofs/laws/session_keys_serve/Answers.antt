use Rattle.perc_kdf.proofs.SessionLaws.{IsSession-session_keys}
use Rattle.perc_kdf.proofs.laws.session_keys_serve.Goals as goal

pub returns : goal.returns
returns c = IsSession-session_keys
