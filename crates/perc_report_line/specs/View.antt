-- What the lines of the code say, without where their parts lie in memory.
use Rattle.perc_report_line.specs.Report as report
use Rattle.perc_report_line.specs.Report.{Report}
use Rattle.perc_report_line.specs.declared.report.ReportLine.{ReportLine}
use Rattle.perc_report_line.specs.declared.report.ReportLine.TheVariants as line

-- what a report line says
abbrev pub report_told : ReportLine → Report
report_told (line.Ekt spi) = report.Ekt spi
report_told (line.Joined name association) = report.Joined name association
report_told (line.Left name) = report.Left name
report_told (line.Granted name spi) = report.Granted name spi
report_told (line.Denied name reason) = report.Denied name reason
report_told (line.Rekeyed name spi epoch) = report.Rekeyed name spi epoch
report_told (line.WireUp datagram name octets) = report.WireUp datagram name octets
report_told (line.WireMade datagram octets) = report.WireMade datagram octets
report_told (line.WireReseal datagram name octets) = report.WireReseal datagram name octets
report_told (line.WireDown datagram name octets) = report.WireDown datagram name octets
report_told (line.Dropped datagram name reason) = report.Dropped datagram name reason
report_told (line.RefuseMedia datagram reason) = report.RefuseMedia datagram reason
report_told (line.Accept datagram name sender sent pt seq marker timestamp payload) = report.Accept (record {
  datagram = datagram;
  name = name;
  sender = sender;
  sent = sent;
  pt = pt;
  seq = seq;
  marker = marker;
  timestamp = timestamp;
  payload = payload;
})
report_told (line.Rtcp datagram name octets) = report.Rtcp datagram name octets
report_told (line.Refuse datagram name reason) = report.Refuse datagram name reason
