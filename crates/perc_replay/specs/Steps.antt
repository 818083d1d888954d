-- Kinds of lines.
use Rattle.perc_script_line.specs.Script as script
use Rattle.perc_script_line.specs.Script.{Script}

-- a line that makes or moves datagrams
abbrev pub IsOfDatagrams : Script → Type 0
IsOfDatagrams (script.Send name pt marker timestamp payload options) = Unit {0}
IsOfDatagrams (script.Rtcp name octets) = Unit {0}
IsOfDatagrams (script.Inject octets) = Unit {0}
IsOfDatagrams (script.Alter datagram offset octets) = Unit {0}
IsOfDatagrams (script.Graft first front second back) = Unit {0}
IsOfDatagrams (script.Reseal datagram name roc changes) = Unit {0}
IsOfDatagrams (script.Forward name datagrams changes recipients) = Unit {0}
IsOfDatagrams (script.Deliver datagram name) = Unit {0}
IsOfDatagrams line = ⊥

-- one that puts a datagram on the wire, but for a send
abbrev pub IsOfWire : Script → Type 0
IsOfWire (script.Rtcp name octets) = Unit {0}
IsOfWire (script.Inject octets) = Unit {0}
IsOfWire (script.Alter datagram offset octets) = Unit {0}
IsOfWire (script.Graft first front second back) = Unit {0}
IsOfWire (script.Reseal datagram name roc changes) = Unit {0}
IsOfWire line = ⊥
