-- Ends by their statuses.
use Rattle.std.proofs.Common.{◌≡◌, ℕ, List, Option, Some, None, IfSome, arith, refl}
use Rattle.perc_base.specs.Lines.{lines_of}
use Rattle.perc_drawing.specs.Reading.{Tells, first_other}
use Rattle.perc_drawing.specs.Status.{status_of}
use Rattle.perc_drawing.specs.declared.report.DrawEnd.{DrawEnd}
use Rattle.perc_drawing.specs.declared.report.DrawEnd.TheVariants.{Done, Stopped, WriteFault}
use Rattle.perc_drawing.specs.declared.report.Stop.TheVariants.{NotReport, ReadFault, Memory}

pub zero_is_done : (end : DrawEnd) → status_of end ≡ 0 → end ≡ Done
zero_is_done Done h = refl
zero_is_done (Stopped (NotReport line)) h = absurd (omega (arith, h))
zero_is_done (Stopped ReadFault) h = absurd (omega (arith, h))
zero_is_done WriteFault h = absurd (omega (arith, h))
zero_is_done (Stopped Memory) h = absurd (omega (arith, h))

pub three_is_read : (end : DrawEnd) → status_of end ≡ 3 → end ≡ Stopped ReadFault
three_is_read Done h = absurd (omega (arith, h))
three_is_read (Stopped (NotReport line)) h = absurd (omega (arith, h))
three_is_read (Stopped ReadFault) h = refl
three_is_read WriteFault h = absurd (omega (arith, h))
three_is_read (Stopped Memory) h = absurd (omega (arith, h))

pub four_is_write : (end : DrawEnd) → status_of end ≡ 4 → end ≡ WriteFault
four_is_write Done h = absurd (omega (arith, h))
four_is_write (Stopped (NotReport line)) h = absurd (omega (arith, h))
four_is_write (Stopped ReadFault) h = absurd (omega (arith, h))
four_is_write WriteFault h = refl
four_is_write (Stopped Memory) h = absurd (omega (arith, h))

-- ---- what a status says of the lines

pub zero_reports : (left : Option (List ℕ)) (end : DrawEnd) → status_of end ≡ 0 → IfSome left (λ octets. Tells (lines_of octets) end)
    → IfSome left (λ octets. first_other 1 (lines_of octets) ≡ None)
zero_reports None end is told = tt
zero_reports (Some octets) Done is told = told
zero_reports (Some octets) (Stopped (NotReport line)) is told = absurd (omega (arith, is))
zero_reports (Some octets) (Stopped ReadFault) is told = absurd (omega (arith, is))
zero_reports (Some octets) WriteFault is told = absurd (omega (arith, is))
zero_reports (Some octets) (Stopped Memory) is told = absurd (omega (arith, is))

pub one_is_other : (left : Option (List ℕ)) (end : DrawEnd) → status_of end ≡ 1 → IfSome left (λ octets. Tells (lines_of octets) end)
    → IfSome left (λ octets. (number : ℕ) × (first_other 1 (lines_of octets) ≡ Some number))
one_is_other None end is told = tt
one_is_other (Some octets) Done is told = absurd (omega (arith, is))
one_is_other (Some octets) (Stopped (NotReport line)) is told = (line, told)
one_is_other (Some octets) (Stopped ReadFault) is told = absurd (omega (arith, is))
one_is_other (Some octets) WriteFault is told = absurd (omega (arith, is))
one_is_other (Some octets) (Stopped Memory) is told = absurd (omega (arith, is))
