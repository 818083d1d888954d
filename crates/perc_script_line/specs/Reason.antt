-- Why a line of a script is refused, and the word for it.
use Rattle.std.specs.Prelude.{ℕ, List, codes}
use Rattle.perc_script_line.specs.declared.reason.Reason.{Reason}
use Rattle.perc_script_line.specs.declared.reason.Reason.TheVariants.{Long, Form, Order, Name, Datagram, Key, Limit}

abbrev pub reason_text : Reason → List ℕ
reason_text Long = codes "long"
reason_text Form = codes "form"
reason_text Order = codes "order"
reason_text Name = codes "name"
reason_text Datagram = codes "datagram"
reason_text Key = codes "key"
reason_text Limit = codes "limit"
