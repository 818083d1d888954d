-- The report lines of datagrams that come to the wire.
use Rattle.std.specs.Prelude.{ℕ, List}
use Rattle.perc_report_line.specs.Report.{Report, WireMade, WireReseal, WireUp}
use Rattle.perc_wire_lines.specs.declared.putting.Wire.{Wire}
use Rattle.perc_wire_lines.specs.declared.putting.Wire.TheVariants as wire

-- the line of a datagram of this number and these octets
abbrev pub wire_line : Wire → ℕ → List ℕ → Report
wire_line (wire.Up name) number octets = WireUp number name octets
wire_line wire.Made number octets = WireMade number octets
wire_line (wire.Reseal name) number octets = WireReseal number name octets
