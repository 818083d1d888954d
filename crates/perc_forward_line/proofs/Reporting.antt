-- What is reported of takings and outputs, list after list.
use Rattle.std.proofs.Common.{◌≡◌, ◌≢◌, ℕ, suc, ◌+◌, ◌*◌, ◌≤◌, ◌<◌, ◌^◌, Bool, true, false, cond, List, [], ◌∷◌, ◌++◌, length, take, slice_get, Option, Some, None, Result, Ok, Err, refl, sym, ap, subst, ◌∙◌, append_assoc, arith}
use Rattle.std.specs.Prelude.{filter, filter_map, ◌==◌, count_by}
use Rattle.std.proofs.lemmas.Bool.Decides.{nat_tests}
use Rattle.std.proofs.lemmas.Grind.{flat_map-append}
use Rattle.std.proofs.lemmas.List.{append-nil, length-append}
use Rattle.std.proofs.lemmas.List.Sums.{length-filter, count_by-le-length}
use Rattle.std.proofs.lemmas.Option.{same_Some}
use Rattle.perc_ohb.specs.Rewriting.{Rewrite}
use Rattle.perc_conference_state.specs.Mirror.{is_wire, is_accept, is_refuse, told_of}
use Rattle.perc_conference_state.specs.declared.conference.Stop.{Stop}
use Rattle.perc_conference_state.specs.declared.conference.Told.{Told}
use Rattle.perc_distributor.specs.Forwarding.{Sent, Sealed, Dropped}
use Rattle.perc_distributor.specs.Inbound.{Packet}
use Rattle.perc_distributor.specs.Kept.{sent_of}
use Rattle.perc_distributor.specs.declared.fault.ForwardFault.{ForwardFault}
use Rattle.perc_distributor.specs.declared.fault.InboundFault.{InboundFault}
use Rattle.perc_distributor.specs.declared.outputs.Output.{Output}
use Rattle.perc_distributor.specs.declared.outputs.Output.TheVariants as output
use Rattle.perc_forwarder.specs.Mirror.{fault_in}
use Rattle.perc_forwarder.specs.declared.distributor.Taking as code_taking
use Rattle.perc_member.specs.Each.{MirrorEach, MirrorsDatagram}
use Rattle.perc_member.specs.declared.datagram.Datagram as code_datagram
use Rattle.perc_report_line.specs.Report.{Report, RefuseMedia, WireDown, Dropped as Lost, report_text, report_texts}
use Rattle.perc_run.specs.Forwarding.{Taking, inbound_refusal, loss_of, name_of, packet_in, place_behind, place_of, reported_output, reported_outputs, reported_taking, reported_takings, unsealed_of}
use Rattle.perc_run.specs.State.{Datagram, Member}
use Rattle.perc_forward_line.specs.Telling.{IsAt, IsReported, Reports, one_reported, outputs_at}
use Rattle.perc_forward_line.proofs.Lists.{count-append, each_push}

abbrev pub Step : Type 0
Step = List Report × List Datagram

-- ---- one list behind another

pub texts_append : (xs ys : List Report) → report_texts (xs ++ ys) ≡ report_texts xs ++ report_texts ys
texts_append xs ys = flat_map-append report_text xs ys

-- what was told, and more
abbrev pub told_and : Told → Told → Told
told_and a b = record { datagrams = a.datagrams + b.datagrams; accepted = a.accepted + b.accepted; refused = a.refused + b.refused }

pub told_append : (xs ys : List Report) → told_of (xs ++ ys) ≡ told_and (told_of xs) (told_of ys)
told_append xs ys =
    ap (λ (n : ℕ). record { datagrams = n; accepted = count_by is_accept (xs ++ ys); refused = count_by is_refuse (xs ++ ys) }) (count-append is_wire xs ys)
    ∙ ap (λ (n : ℕ). record { datagrams = count_by is_wire xs + count_by is_wire ys; accepted = n; refused = count_by is_refuse (xs ++ ys) }) (count-append is_accept xs ys)
    ∙ ap (λ (n : ℕ). record { datagrams = count_by is_wire xs + count_by is_wire ys; accepted = count_by is_accept xs + count_by is_accept ys; refused = n }) (count-append is_refuse xs ys)

-- at most one of each kind a line
pub record IsFew (told : Told) (n : ℕ) : Type 0 where
  pub datagrams : told.datagrams ≤ n
  pub accepted : told.accepted ≤ n
  pub refused : told.refused ≤ n

pub told_few : (told : Told) (lines : List Report) (n : ℕ) → told ≡ told_of lines → length lines ≤ n → IsFew told n
told_few told lines n is few =
    let d : told.datagrams ≡ count_by is_wire lines = ap (λ (t : Told). t.datagrams) is in
    let a : told.accepted ≡ count_by is_accept lines = ap (λ (t : Told). t.accepted) is in
    let r : told.refused ≡ count_by is_refuse lines = ap (λ (t : Told). t.refused) is in
    record {
      datagrams = omega (arith, count_by-le-length is_wire lines);
      accepted = omega (arith, count_by-le-length is_accept lines);
      refused = omega (arith, count_by-le-length is_refuse lines);
    }

-- a step behind a step
pub reported_more : (one two : Step) (told_one told_two : Told) (before mid after : List ℕ) (had has : List code_datagram.Datagram)
    → IsReported one told_one before mid had → IsReported two told_two mid after has
    → IsReported (one.0 ++ two.0, two.1) (told_and told_one told_two) before after has
reported_more one two told_one told_two before mid after had has h k = record {
  text = k.text ∙ ap (λ (t : List ℕ). t ++ report_texts two.0) h.text ∙ append_assoc before (report_texts one.0) (report_texts two.0) ∙ ap (λ (t : List ℕ). before ++ t) (sym (texts_append one.0 two.0));
  told_is = ap (λ (t : Told). told_and t told_two) h.told_is ∙ ap (λ (t : Told). told_and (told_of one.0) t) k.told_is ∙ sym (told_append one.0 two.0);
  datagrams = k.datagrams;
}

pub reported_none : (text : List ℕ) (made : List Datagram) (had : List code_datagram.Datagram) → MirrorEach MirrorsDatagram had made
    → IsReported ([], made) (record { datagrams = 0; accepted = 0; refused = 0 }) text text had
reported_none text made had mirrors = record { text = sym (append-nil text); told_is = refl; datagrams = mirrors }

-- ---- outputs

module _ (members : List Member) (change : Rewrite) (number : ℕ) (packet : Packet) where
  pub outputs_append : (made : List Datagram) (xs ys : List Sent)
      → reported_outputs members change number packet made (xs ++ ys)
      ≡ (
        (reported_outputs members change number packet made xs).0 ++ (reported_outputs members change number packet (reported_outputs members change number packet made xs).1 ys).0,
        (reported_outputs members change number packet (reported_outputs members change number packet made xs).1 ys).1,
      )
  outputs_append made [] ys = refl
  outputs_append made (x ∷ xs) ys =
      let one : Report × List Datagram = reported_output members change number packet made x in
      ap (λ (step : Step). (one.0 ∷ step.0, step.1)) (outputs_append one.1 xs ys)

  pub outputs_lines : (made : List Datagram) (xs : List Sent) → length (reported_outputs members change number packet made xs).0 ≡ length xs
  outputs_lines made [] = refl
  outputs_lines made (x ∷ xs) = ap suc (outputs_lines (reported_output members change number packet made x).1 xs)

  one_made : (made : List Datagram) (x : Sent) → length (reported_output members change number packet made x).1 ≤ length made + 1
  one_made made (Sealed place to octets) = omega (arith, length-append made)
  one_made made (Dropped place to f) = omega arith

  pub outputs_made : (made : List Datagram) (xs : List Sent) → length (reported_outputs members change number packet made xs).1 ≤ length made + length xs
  outputs_made made [] = omega arith
  outputs_made made (x ∷ xs) =
      let one : Report × List Datagram = reported_output members change number packet made x in
      omega (arith, one_made made x, outputs_made one.1 xs)

pub few_at : (place : ℕ) (sent : List Sent) → length (outputs_at place sent) ≤ length sent
few_at place sent = omega (arith, length-filter (λ (x : Sent). place_of x == place) sent, count_by-le-length (λ (x : Sent). place_of x == place) sent)

-- ---- takings

place_after : (place number : ℕ) (r : Result Packet InboundFault) (ts : List Taking)
    → place_behind place r + length (filter_map packet_in ts) ≡ place + length (filter_map packet_in (record { number = number; result = r } ∷ ts))
place_after place number (Ok packet) ts = omega arith
place_after place number (Err f) ts = refl

module _ (members : List Member) (change : Rewrite) (sent : List Sent) where
  pub takings_push : (place last : ℕ) (made : List Datagram) (ts : List Taking) (t : Taking) → last ≡ place + length (filter_map packet_in ts)
      → reported_takings members change sent place made (ts ++ t ∷ [])
      ≡ (
        (reported_takings members change sent place made ts).0 ++ (reported_taking members change sent last (reported_takings members change sent place made ts).1 t.number t.result).0,
        (reported_taking members change sent last (reported_takings members change sent place made ts).1 t.number t.result).1,
      )
  takings_push place last made [] t is =
      let same : last ≡ place = omega arith in
      let one : ℕ → Step = λ n. reported_taking members change sent n made t.number t.result in
      ap (λ (n : ℕ). ((one n).0 ++ [], (one n).1)) (sym same) ∙ ap (λ (xs : List Report). (xs, (one last).1)) (append-nil (one last).0)
  takings_push place last made (u ∷ ts) t is =
      let one : Step = reported_taking members change sent place made u.number u.result in
      let behind = place_behind place u.result in
      let rest = takings_push behind last one.1 ts t (is ∙ sym (place_after place u.number u.result ts)) in
      let more : Step = reported_takings members change sent behind one.1 ts in
      let end : Step = reported_taking members change sent last more.1 t.number t.result in
      ap (λ (step : Step). (one.0 ++ step.0, step.1)) rest ∙ ap (λ (xs : List Report). (xs, end.1)) (sym (append_assoc one.0 more.0 end.0))

  pub taking_lines : (place : ℕ) (made : List Datagram) (number : ℕ) (r : Result Packet InboundFault) → length (reported_taking members change sent place made number r).0 ≤ 1 + length sent
  taking_lines place made number (Ok packet) = omega (arith, outputs_lines members change number packet made (outputs_at place sent), few_at place sent)
  taking_lines place made number (Err f) = omega arith

  pub taking_made : (place : ℕ) (made : List Datagram) (number : ℕ) (r : Result Packet InboundFault) → length (reported_taking members change sent place made number r).1 ≤ length made + length sent
  taking_made place made number (Ok packet) = omega (arith, outputs_made members change number packet made (outputs_at place sent), few_at place sent)
  taking_made place made number (Err f) = omega arith

  pub takings_lines : (place : ℕ) (made : List Datagram) (ts : List Taking) → length sent ≤ 8192 → length (reported_takings members change sent place made ts).0 ≤ 8193 * length ts
  takings_lines place made [] few = omega arith
  takings_lines place made (t ∷ ts) few =
      let one : Step = reported_taking members change sent place made t.number t.result in
      let rest = takings_lines (place_behind place t.result) one.1 ts few in
      omega (arith, rest, taking_lines place made t.number t.result, length-append one.0 (reported_takings members change sent (place_behind place t.result) one.1 ts).0)

  pub takings_made : (place : ℕ) (made : List Datagram) (ts : List Taking) → length sent ≤ 8192 → length (reported_takings members change sent place made ts).1 ≤ length made + 8192 * length ts
  takings_made place made [] few = omega arith
  takings_made place made (t ∷ ts) few =
      let one : Step = reported_taking members change sent place made t.number t.result in
      omega (arith, takings_made (place_behind place t.result) one.1 ts few, taking_made place made t.number t.result)

-- ---- one line

-- a datagram for a member
pub wire_told : (name octets : List ℕ) (number : ℕ) (d : Datagram) (made : List Datagram) (g : code_datagram.Datagram) (had : List code_datagram.Datagram) (before after : List ℕ) → MirrorsDatagram g d
    → MirrorEach MirrorsDatagram had made → number ≡ length had + 1 → octets ≡ g.octets.items → after ≡ before ++ report_text (WireDown number name octets)
    → IsReported (WireDown (length made + 1) name d.octets ∷ [], made ++ d ∷ []) (record { datagrams = 1; accepted = 0; refused = 0 }) before after (had ++ g ∷ [])
wire_told name octets number d made g had before after mirrors all is written text =
    let same : number ≡ length made + 1 = omega (arith, all.count) in
    record {
      text = text ∙ ap (λ (n : ℕ). before ++ report_text (WireDown n name octets)) same ∙ ap (λ (x : List ℕ). before ++ report_text (WireDown (length made + 1) name x)) (written ∙ mirrors.octets)
          ∙ ap (λ (t : List ℕ). before ++ t) (sym (append-nil (report_text (WireDown (length made + 1) name d.octets))));
      told_is = refl;
      datagrams = each_push MirrorsDatagram had made g d all mirrors;
    }

pub sealed_told : (members : List Member) (change : Rewrite) (number : ℕ) (packet : Packet) (made : List Datagram) (o : Output) (place : ℕ) (to octets : List ℕ) (len : ℕ) (name : List ℕ) (had has : List code_datagram.Datagram)
    (result : Result Told Stop) (before after : List ℕ) → o ≡ output.Sealed place to octets len → name ≡ name_of members to
    → Reports (WireDown (length made + 1) name (take len octets) ∷ [], made ++ record { octets = take len octets; unsealed = unsealed_of change packet } ∷ []) made had result before after has
    → Reports (one_reported (reported_output members change number packet made (sent_of o))) made had result before after has
sealed_told members change number packet made o place to octets len name had has result before after is named h =
    subst (λ (x : Output). Reports (one_reported (reported_output members change number packet made (sent_of x))) made had result before after has) (sym is)
    (subst (λ (n : List ℕ). Reports (WireDown (length made + 1) n (take len octets) ∷ [], made ++ record { octets = take len octets; unsealed = unsealed_of change packet } ∷ []) made had result before after has) named h)

pub dropped_told : (members : List Member) (change : Rewrite) (number : ℕ) (packet : Packet) (made : List Datagram) (o : Output) (place : ℕ) (to : List ℕ) (fault : ForwardFault) (name : List ℕ) (had has : List code_datagram.Datagram)
    (result : Result Told Stop) (before after : List ℕ) → o ≡ output.Dropped place to fault → name ≡ name_of members to
    → Reports (Lost number name (loss_of fault) ∷ [], made) made had result before after has
    → Reports (one_reported (reported_output members change number packet made (sent_of o))) made had result before after has
dropped_told members change number packet made o place to fault name had has result before after is named h =
    subst (λ (x : Output). Reports (one_reported (reported_output members change number packet made (sent_of x))) made had result before after has) (sym is)
    (subst (λ (n : List ℕ). Reports (Lost number n (loss_of fault) ∷ [], made) made had result before after has) named h)

-- ---- an output of a place, or of another

pub of_place : (members : List Member) (change : Rewrite) (number : ℕ) (packet : Packet) (made : List Datagram) (place : ℕ) (x : Sent) (had has : List code_datagram.Datagram) (result : Result Told Stop) (before after : List ℕ)
    → place_of x ≡ place → Reports (one_reported (reported_output members change number packet made x)) made had result before after has
    → Reports (reported_outputs members change number packet made (outputs_at place (x ∷ []))) made had result before after has
of_place members change number packet made place x had has result before after is h =
    let here : (place_of x == place) ≡ true = grind (arith, nat_tests) in
    subst (λ (b : Bool). Reports (reported_outputs members change number packet made (cond b (x ∷ []) [])) made had result before after has) (sym here) h

pub of_other : (members : List Member) (change : Rewrite) (number : ℕ) (packet : Packet) (made : List Datagram) (place : ℕ) (x : Sent) (had : List code_datagram.Datagram) (text : List ℕ)
    → place_of x ≢ place
    → Reports (reported_outputs members change number packet made (outputs_at place (x ∷ []))) made had (Ok (record { datagrams = 0; accepted = 0; refused = 0 })) text text had
of_other members change number packet made place x had text other =
    let past : (place_of x == place) ≡ false = grind (arith, nat_tests) in
    subst (λ (b : Bool). Reports (reported_outputs members change number packet made (cond b (x ∷ []) [])) made had (Ok (record { datagrams = 0; accepted = 0; refused = 0 })) text text had) (sym past)
    (λ mirrors. reported_none text made had mirrors)

-- ---- a taking

pub taking_refused : (members : List Member) (change : Rewrite) (sent : List Sent) (place : ℕ) (made : List Datagram) (number : ℕ) (r : Result Packet InboundFault) (k : code_taking.Taking) (fault : InboundFault)
    (had : List code_datagram.Datagram) (before after : List ℕ) → k ≡ record { number = number; fault = fault_in r } → k.fault ≡ Some fault → after ≡ before ++ report_text (RefuseMedia k.number (inbound_refusal fault))
    → Reports (reported_taking members change sent place made number r) made had (Ok (record { datagrams = 0; accepted = 0; refused = 1 })) before after had
taking_refused members change sent place made number (Ok packet) k fault had before after is refused text =
    let e : ◌≡◌ {A = Option InboundFault} None (Some fault) = ap (λ (t : code_taking.Taking). t.fault) (sym is) ∙ refused in
    absurd cc
taking_refused members change sent place made number (Err f) k fault had before after is refused text =
    let e : f ≡ fault = same_Some _ _ (ap (λ (t : code_taking.Taking). t.fault) (sym is) ∙ refused) in
    let n : k.number ≡ number = ap (λ (t : code_taking.Taking). t.number) is in
    λ mirrors. record {
      text = text ∙ ap (λ (x : ℕ). before ++ report_text (RefuseMedia x (inbound_refusal fault))) n ∙ ap (λ (x : InboundFault). before ++ report_text (RefuseMedia number (inbound_refusal x))) (sym e)
          ∙ ap (λ (t : List ℕ). before ++ t) (sym (append-nil (report_text (RefuseMedia number (inbound_refusal f)))));
      told_is = refl;
      datagrams = mirrors;
    }

pub taking_opened : (members : List Member) (change : Rewrite) (taken : List Taking) (sent : List Sent) (place : ℕ) (made : List Datagram) (number : ℕ) (r : Result Packet InboundFault) (k : code_taking.Taking)
    (had has : List code_datagram.Datagram) (result : Result Told Stop) (before after : List ℕ) → k ≡ record { number = number; fault = fault_in r } → k.fault ≡ None → IsAt taken place r
    → ((packet : Packet) → slice_get (filter_map packet_in taken) place ≡ Some packet → Reports (reported_outputs members change k.number packet made (outputs_at place sent)) made had result before after has)
    → Reports (reported_taking members change sent place made number r) made had result before after has
taking_opened members change taken sent place made number (Ok packet) k had has result before after is opened at h =
    let n : k.number ≡ number = ap (λ (t : code_taking.Taking). t.number) is in
    subst (λ (x : ℕ). Reports (reported_outputs members change x packet made (outputs_at place sent)) made had result before after has) n (h packet at)
taking_opened members change taken sent place made number (Err f) k had has result before after is opened at h =
    let e : ◌≡◌ {A = Option InboundFault} (Some f) None = ap (λ (t : code_taking.Taking). t.fault) (sym is) ∙ opened in
    absurd cc
