-- The line `forward` reports no accept line, and makes datagrams alone.
use Rattle.std.proofs.Common.{◌≡◌, ℕ, ◌≤◌, List, [], ◌∷◌, ◌++◌, length, Result, Ok, Err, refl, ◌∙◌, arith}
use Rattle.std.specs.List.{filter_map}
use Rattle.std.specs.Prelude.{filter, ◌==◌}
use Rattle.std.proofs.lemmas.List.{length_push}
use Rattle.std.proofs.lemmas.List.Elements.{filter_map-append}
use Rattle.perc_ohb.specs.Rewriting.{Rewrite}
use Rattle.perc_distributor.specs.Inbound.{Packet}
use Rattle.perc_distributor.specs.Forwarding.{Sent, Sealed, Dropped}
use Rattle.perc_distributor.specs.declared.fault.InboundFault.{InboundFault}
use Rattle.perc_report_line.specs.Report.{Report}
use Rattle.perc_run.specs.State.{Datagram, Member}
use Rattle.perc_run.specs.Forwarding.{Taking, place_behind, place_of, reported_outputs, reported_taking, reported_takings, unsealed_of}
use Rattle.perc_headline.specs.Headline.{accepted_in}

-- No accept line is told, and there are no fewer datagrams.
pub record IsQuiet (told : List Report × List Datagram) (before : ℕ) : Type 0 where
  pub none : filter_map accepted_in told.0 ≡ []
  pub more : before ≤ length told.1

outputs_quiet : (members : List Member) (change : Rewrite) (number : ℕ) (packet : Packet) (datagrams : List Datagram) (outputs : List Sent)
    → IsQuiet (reported_outputs members change number packet datagrams outputs) (length datagrams)
outputs_quiet members change number packet datagrams [] = record { none = refl; more = omega arith }
outputs_quiet members change number packet datagrams (Sealed place to octets ∷ outputs) =
    let d : Datagram = record { octets = octets; unsealed = unsealed_of change packet } in
    let rest = outputs_quiet members change number packet (datagrams ++ d ∷ []) outputs in
    record { none = rest.none; more = omega (arith, rest.more, length_push datagrams d) }
outputs_quiet members change number packet datagrams (Dropped place to f ∷ outputs) =
    let rest = outputs_quiet members change number packet datagrams outputs in record { none = rest.none; more = rest.more }

taking_quiet : (members : List Member) (change : Rewrite) (outputs : List Sent) (place : ℕ) (datagrams : List Datagram) (number : ℕ) (result : Result Packet InboundFault)
    → IsQuiet (reported_taking members change outputs place datagrams number result) (length datagrams)
taking_quiet members change outputs place datagrams number (Err f) = record { none = refl; more = omega arith }
taking_quiet members change outputs place datagrams number (Ok packet) =
    outputs_quiet members change number packet datagrams (filter (λ x. place_of x == place) outputs)

pub takings_quiet : (members : List Member) (change : Rewrite) (outputs : List Sent) (place : ℕ) (datagrams : List Datagram) (takings : List Taking)
    → IsQuiet (reported_takings members change outputs place datagrams takings) (length datagrams)
takings_quiet members change outputs place datagrams [] = record { none = refl; more = omega arith }
takings_quiet members change outputs place datagrams (t ∷ takings) =
    let one = reported_taking members change outputs place datagrams t.number t.result in
    let more = reported_takings members change outputs (place_behind place t.result) one.1 takings in
    let first = taking_quiet members change outputs place datagrams t.number t.result in
    let rest = takings_quiet members change outputs (place_behind place t.result) one.1 takings in record {
      none = filter_map-append accepted_in one.0 more.0 ∙ (λ i. first.none i ++ rest.none i);
      more = omega (arith, first.more, rest.more);
    }
