-- What a reseal makes, part by part.
use Rattle.std.specs.Prelude.{◌≡◌, ℕ, ◌+◌, ◌*◌, ◌<◌, List, ◌++◌, length, Option, Some, None, Result, Ok, Err}
use Rattle.perc_kdf.specs.Derivation.{KeyAndSalt}
use Rattle.perc_ekt.specs.Field.{spelling}
use Rattle.perc_rtp.specs.Header.{Header}
use Rattle.perc_ohb.specs.Rewriting.{Rewrite}
use Rattle.perc_ohb.specs.declared.block.Ohb.{Ohb}
use Rattle.perc_double.specs.Double.{double}
use Rattle.perc_member.specs.Each.{MirrorsDatagram}
use Rattle.perc_member.specs.declared.datagram.Datagram as code_datagram
use Rattle.perc_script_line.specs.declared.reason.Reason.TheVariants as reason
use Rattle.perc_run.specs.State.{Unsealed}
use Rattle.perc_run.specs.Hostile.{unsealed_anew}
use Rattle.perc_conference_state.specs.declared.conference.Stop.TheVariants as stop
use Rattle.perc_conference_state.specs.declared.conference.Stop.{Stop}

-- a packet sealed at the index that a ROC and its SEQ make, with a field behind it
abbrev pub sealed_behind : KeyAndSalt → ℕ → Header → List ℕ → Ohb → List ℕ → List ℕ
sealed_behind keys roc h inner o field = double keys (roc * 65536 + h.seq) h inner o ++ field

-- the same of a media packet with its own field
abbrev pub octets_anew : KeyAndSalt → ℕ → Unsealed → List ℕ
octets_anew keys roc u = sealed_behind keys roc u.header u.inner u.block (spelling u.field)

-- a datagram of these octets that is kept with what was sealed, or that they are too many
abbrev pub IsSealedAnew : KeyAndSalt → ℕ → Unsealed → Result code_datagram.Datagram Stop → Type 0
IsSealedAnew keys roc u (Ok d) = MirrorsDatagram d (record { octets = octets_anew keys roc u; unsealed = Some u })
IsSealedAnew keys roc u (Err stop.Memory) = Unit {0}
IsSealedAnew keys roc u (Err (stop.Refused given)) = (given ≡ reason.Limit) × (1500 < length (octets_anew keys roc u))
IsSealedAnew keys roc u (Err (stop.Foreign name)) = ⊥

-- Only media is sealed anew, with the change made in it.
abbrev pub IsResealed : KeyAndSalt → ℕ → Rewrite → Option Unsealed → Result code_datagram.Datagram Stop → Type 0
IsResealed keys roc change None result = result ≡ Err (stop.Refused reason.Datagram)
IsResealed keys roc change (Some u) result = IsSealedAnew keys roc (unsealed_anew u change) result
