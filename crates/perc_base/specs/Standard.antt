-- What the sources and sinks over std hold, and how often a call of theirs has failed.
use Rattle.std.specs.Prelude.{ℕ}
use Rattle.perc_base.specs.declared.standard.StdSource.{StdSource}
use Rattle.perc_base.specs.declared.standard.StdSink.{StdSink}

-- the reader that is read from
abbrev pub source_reader : {R : Type 0} → StdSource R → R
source_reader source = source.reader

abbrev pub source_faults : {R : Type 0} → StdSource R → ℕ
source_faults source = source.fault_count

-- the writer that is written to
abbrev pub sink_writer : {W : Type 0} → StdSink W → W
sink_writer sink = sink.writer

abbrev pub sink_faults : {W : Type 0} → StdSink W → ℕ
sink_faults sink = sink.fault_count
