-- The statuses of the program.
use Rattle.std.specs.Prelude.{ℕ}
use Rattle.perc_drawing.specs.declared.report.DrawEnd.{DrawEnd}
use Rattle.perc_drawing.specs.declared.report.DrawEnd.TheVariants.{Done, Stopped, WriteFault}
use Rattle.perc_drawing.specs.declared.report.Stop.TheVariants.{NotReport, ReadFault, Memory}

-- the status of an end
abbrev pub status_of : DrawEnd → ℕ
status_of Done = 0
status_of (Stopped (NotReport line)) = 1
status_of (Stopped ReadFault) = 3
status_of WriteFault = 4
status_of (Stopped Memory) = 6
