-- What sources, sinks and randoms in memory hold, which of their calls are to fail, and how often a call of theirs has failed.
use Rattle.std.specs.Prelude.{◌==◌, ℕ, ◌+◌, ◌-◌, ◌^◌, min, Bool, if◌then◌else◌, List, drop, Result, Ok, Err}
use Rattle.std.specs.List.{list_any}
use Rattle.perc_base.specs.declared.outside.Failed.{Failed}
use Rattle.perc_base.specs.declared.memory.MemSource.{MemSource}
use Rattle.perc_base.specs.declared.memory.FaultlessSource.{FaultlessSource}
use Rattle.perc_base.specs.declared.memory.MemSink.{MemSink}
use Rattle.perc_base.specs.declared.randoms.MemRandoms.{MemRandoms}
use Rattle.perc_base.specs.declared.randoms.FaultlessRandoms.{FaultlessRandoms}

-- how many octets a call moves at most, how many calls were made, and the numbers of the calls that are to fail
pub record Plan : Type 0 where
  pub most : ℕ
  pub calls : ℕ
  pub failing : List ℕ

-- whether the next call is to fail
abbrev pub is_to_fail : Plan → Bool
is_to_fail plan = list_any (λ call. call == plan.calls) plan.failing

-- the plan after a call
abbrev pub after_call : Plan → Plan
after_call plan = record plan { calls = min (plan.calls + 1) (2 ^ 64 - 1) }

-- the answer of a call that could move n octets
abbrev pub planned : Plan → ℕ → Result ℕ Failed
planned plan n = if is_to_fail plan then Err (record {}) else Ok (min n plan.most)

-- the octets that are still to be read
abbrev pub mem_left : MemSource → List ℕ
mem_left source = drop source.place source.octets.items

abbrev pub mem_source_plan : MemSource → Plan
mem_source_plan source = record { most = source.most; calls = source.calls; failing = source.failing.items }

abbrev pub mem_source_faults : MemSource → ℕ
mem_source_faults source = source.fault_count

-- the octets that are still to be read
abbrev pub faultless_left : FaultlessSource → List ℕ
faultless_left source = drop source.place source.octets.items

-- the octets that were written
abbrev pub mem_written : MemSink → List ℕ
mem_written sink = sink.octets.items

abbrev pub mem_sink_plan : MemSink → Plan
mem_sink_plan sink = record { most = sink.most; calls = sink.calls; failing = sink.failing.items }

abbrev pub mem_sink_faults : MemSink → ℕ
mem_sink_faults sink = sink.fault_count

-- how many calls were made of an object, and the numbers of those that are to fail
pub record Calls : Type 0 where
  pub made : ℕ
  pub failing : List ℕ

-- whether the next call is to fail
abbrev pub next_fails : Calls → Bool
next_fails calls = list_any (λ call. call == calls.made) calls.failing

-- the calls after one more
abbrev pub one_made : Calls → Calls
one_made calls = record calls { made = min (calls.made + 1) (2 ^ 64 - 1) }

-- the octets that are still to be drawn
abbrev pub mem_randoms_left : MemRandoms → List ℕ
mem_randoms_left randoms = drop randoms.place randoms.octets.items

abbrev pub mem_randoms_calls : MemRandoms → Calls
mem_randoms_calls randoms = record { made = randoms.calls; failing = randoms.failing.items }

abbrev pub mem_randoms_faults : MemRandoms → ℕ
mem_randoms_faults randoms = randoms.fault_count

-- the octets that are still to be drawn
abbrev pub faultless_randoms_left : FaultlessRandoms → List ℕ
faultless_randoms_left randoms = drop randoms.place randoms.octets.items
