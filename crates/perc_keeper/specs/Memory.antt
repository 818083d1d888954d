-- What a keeper in memory holds, and which of its calls are to fail.
use Rattle.std.specs.Prelude.{◌≡◌, ℕ, Bool, true, false, if◌then◌else◌, Result, Ok, Err}
use Rattle.perc_base.specs.Memory.{Calls, next_fails, one_made}
use Rattle.perc_base.specs.Outside.{one_more}
use Rattle.perc_keeper.specs.declared.keeper.KeepFault.{KeepFault}
use Rattle.perc_keeper.specs.declared.keeper.KeepFault.TheVariants as fault
use Rattle.perc_keeper.specs.declared.memory.MemKeeper.{MemKeeper}
use Rattle.perc_keeper.specs.Lists.{Lists}

-- the lists of a keeper
abbrev pub mem_lists : MemKeeper → Lists
mem_lists keeper = record { issued = keeper.issued; given = keeper.given; members = keeper.members.items }

abbrev pub mem_calls : MemKeeper → Calls
mem_calls keeper = record { made = keeper.calls; failing = keeper.failing.items }

abbrev pub mem_faults : MemKeeper → ℕ
mem_faults keeper = keeper.fault_count

-- whether a call failed
abbrev pub has_failed : {X : Type 0} → Result X KeepFault → Bool
has_failed (Ok x) = false
has_failed (Err fault.Failed) = true
has_failed (Err fault.Memory) = false

-- One call was made, which fails exactly where it is to.
pub record IsCall {X : Type 0} (before : MemKeeper) (result : Result X KeepFault) (now : MemKeeper) : Type 0 where
  pub calls : mem_calls now ≡ one_made (mem_calls before)
  pub faults : mem_faults now ≡ (if next_fails (mem_calls before) then one_more (mem_faults before) else mem_faults before)
  pub failed : has_failed result ≡ next_fails (mem_calls before)
