-- What the records of the code say.
use Rattle.perc_ekt.specs.Record.{IsRecord}
use Rattle.perc_keydist.specs.declared.record.ClearRecord.{ClearRecord}
use Rattle.perc_keydist.specs.declared.record.ClearRecord.TheVariants as declared
use Rattle.perc_keydist.specs.ClearRecord.{Record, Hello, Welcome, Renew, Leave}

abbrev pub content_of : ClearRecord → Record
content_of (declared.Hello number) = Hello number
content_of (declared.Welcome client server granted) = Welcome client server granted
content_of (declared.Renew granted) = Renew granted
content_of declared.Leave = Leave

-- The record of an EKT key that it has is right.
abbrev pub IsWritable : Record → Type 0
IsWritable (Hello number) = Unit {0}
IsWritable (Welcome client server granted) = IsRecord granted
IsWritable (Renew granted) = IsRecord granted
IsWritable Leave = Unit {0}
