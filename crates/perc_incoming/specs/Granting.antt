-- What is answered to a record of an EKT key.
use Rattle.std.specs.Prelude.{◌≡◌, ℕ, Option, Result, Ok, Err}
use Rattle.perc_contexts.specs.declared.SpiOld.{SpiOld}
use Rattle.perc_receiver.specs.Table.{Secret}
use Rattle.perc_receiver.specs.Receiver.{Receiver, granted}
use Rattle.perc_incoming.specs.Kept.{Kept, StandsFor}

-- It is taken where its SPI is above the latest, and else that one is told.
abbrev pub IsGranted : Result (Option ℕ) SpiOld → Secret → Receiver → Result (Unit {0}) SpiOld → Kept → Type 0
IsGranted (Ok _) s r result kept = (result ≡ Ok tt) × StandsFor kept (granted s r)
IsGranted (Err old) s r result kept = result ≡ Err old
