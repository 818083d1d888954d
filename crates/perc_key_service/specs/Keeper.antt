-- What the keeper of a script keeps.
use Rattle.perc_keeper.specs.Lists.{Lists}
use Rattle.perc_keeper.specs.Memory.{mem_lists}
use Rattle.perc_key_service.specs.declared.keeper.FaultlessKeeper.{FaultlessKeeper}

-- its lists
abbrev pub faultless_lists : FaultlessKeeper → Lists
faultless_lists keeper = mem_lists keeper.inner
