-- How a run ends that isn't refused.
use Rattle.perc_run.specs.Report.{End, Done, Stopped, Foreign}

abbrev pub IsNotRefused : End → Type 0
IsNotRefused Done = Unit {0}
IsNotRefused (Stopped line reason) = ⊥
IsNotRefused (Foreign line name) = Unit {0}
