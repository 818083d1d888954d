-- What is told so far, while outputs and takings are gone through.
use Rattle.std.proofs.Common.{◌≡◌, ℕ, suc, ◌+◌, ◌*◌, ◌≤◌, ◌<◌, Bool, true, false, List, [], ◌∷◌, ◌++◌, length, take, drop, map, slice_get, get_or, Option, Some, None, Result, Ok, Err, refl, sym, ap, subst, ◌∙◌, append_assoc, arith}
use Rattle.std.specs.Prelude.{filter, filter_map, ◌==◌, IfNone, not}
use Rattle.std.specs.Int.{from_bool}
use Rattle.std.specs.Option.{is_none, is_some, option_map}
use Rattle.std.proofs.lemmas.List.{append-nil, length-append, length-map, length-take, take-append-drop, take_more, take_all}
use Rattle.std.proofs.lemmas.List.Elements.{filter-append, filter_map-append}
use Rattle.std.proofs.lemmas.Option.{get_or_from_slice_get, slice_get-map, slice_get_within, slice_get-get_or, same_Some}
use Rattle.perc_ohb.specs.Rewriting.{Rewrite, rewrite_of}
use Rattle.perc_conference_state.specs.declared.conference.Stop.{Stop}
use Rattle.perc_conference_state.specs.declared.conference.Stop.TheVariants as stop
use Rattle.perc_conference_state.specs.declared.conference.Told.{Told}
use Rattle.perc_distributor.specs.Forwarding.{Sent}
use Rattle.perc_distributor.specs.Inbound.{Packet}
use Rattle.perc_distributor.specs.Kept.{sent_of}
use Rattle.perc_distributor.specs.declared.fault.InboundFault.{InboundFault}
use Rattle.perc_distributor.specs.declared.outputs.Output.{Output}
use Rattle.perc_forwarder.specs.Mirror.{fault_in, taking_in}
use Rattle.perc_forwarder.specs.declared.distributor.Taking as code_taking
use Rattle.perc_member.specs.Each.{MirrorEach, MirrorsDatagram}
use Rattle.perc_member.specs.declared.datagram.Datagram as code_datagram
use Rattle.perc_run.specs.Forwarding.{Taking, packet_in, place_of, reported_outputs, reported_taking, reported_takings}
use Rattle.perc_run.specs.State.{Datagram, Member}
use Rattle.perc_forward_line.specs.declared.outputs.Telling.{Telling}
use Rattle.perc_forward_line.specs.Telling.{CanTell, IsAt, IsReported, IsTelling, Reports, outputs_at}
use Rattle.perc_forward_line.proofs.Lists.{slice_get_some, take_push}
use Rattle.perc_forward_line.proofs.Reporting.{IsFew, Step, few_at, outputs_append, outputs_lines, outputs_made, reported_more, reported_none, takings_lines, takings_made, takings_push, taking_lines, told_and, told_few}
use Rattle.perc_forward_line.proofs.Sending.{PacketAt, packet_at, plain_length, sent_at}

-- no memory was found
pub failed : (step : Step) (made : List Datagram) (had has : List code_datagram.Datagram) (result : Result Told Stop) (e : Stop) (before after : List ℕ) → result ≡ Err e → e ≡ stop.Memory
    → Reports step made had result before after has
failed step made had has result e before after is memory = subst (λ (r : Result Told Stop). Reports step made had r before after has) (sym is) memory

-- ---- the outputs of a place

pub record OutputsSoFar (t : Telling) (number place i : ℕ) (had has : List code_datagram.Datagram) (before after : List ℕ) (told : Told) : Type 0 where
  pub each : (members : List Member) (taken : List Taking) (sent : List Sent) (packet : Packet) (made : List Datagram) → IsTelling t members taken sent
      → slice_get (filter_map packet_in taken) place ≡ Some packet → MirrorEach MirrorsDatagram had made
      → IsReported (reported_outputs members (rewrite_of t.change.now) number packet made (outputs_at place (take i sent))) told before after has

pub outputs_begin : (t : Telling) (number place : ℕ) (had : List code_datagram.Datagram) (text : List ℕ)
    → OutputsSoFar t number place 0 had had text text (record { datagrams = 0; accepted = 0; refused = 0 })
outputs_begin t number place had text = record { each = λ members taken sent packet made is there mirrors. reported_none text made had mirrors }

outputs_more : (place i : ℕ) (sent : List Sent) (x : Sent) → slice_get sent i ≡ Some x → outputs_at place (take (i + 1) sent) ≡ outputs_at place (take i sent) ++ outputs_at place (x ∷ [])
outputs_more place i sent x at = ap (outputs_at place) (take_push sent i x at) ∙ filter-append (λ (y : Sent). place_of y == place) (take i sent) (x ∷ [])

-- what an output adds
abbrev pub OutputTold : Telling → (number place : ℕ) → Output → (had has : List code_datagram.Datagram) → Result Told Stop → (before after : List ℕ) → Type 0
OutputTold t number place output had has result before after =
    (members : List Member) (taken : List Taking) (sent : List Sent) (packet : Packet) (made : List Datagram) → IsTelling t members taken sent
    → slice_get (filter_map packet_in taken) place ≡ Some packet
    → Reports (reported_outputs members (rewrite_of t.change.now) number packet made (outputs_at place (sent_of output ∷ []))) made had result before after has

pub outputs_step : (t : Telling) (number place i : ℕ) (output : Output) (had mid has : List code_datagram.Datagram) (before between after : List ℕ) (told one all : Told)
    → OutputsSoFar t number place i had mid before between told
    → slice_get t.distributor.now.outputs i ≡ Some output → OutputTold t number place output mid has (Ok one) between after → all ≡ told_and told one → OutputsSoFar t number place (i + 1) had has before after all
outputs_step t number place i output had mid has before between after told one all so_far at adds sum = record {
  each = λ members taken sent packet made is there mirrors.
      let change = rewrite_of t.change.now in
      let first = so_far.each members taken sent packet made is there mirrors in
      let old : Step = reported_outputs members change number packet made (outputs_at place (take i sent)) in
      let more = adds members taken sent packet old.1 is there first.datagrams in
      let new : Step = reported_outputs members change number packet old.1 (outputs_at place (sent_of output ∷ [])) in
      subst (λ (xs : List Sent). IsReported (reported_outputs members change number packet made xs) all before after has) (sym (outputs_more place i sent (sent_of output) (sent_at t members taken sent output i is at)))
      (subst (λ (step : Step). IsReported step all before after has) (sym (outputs_append members change number packet made (outputs_at place (take i sent)) (outputs_at place (sent_of output ∷ []))))
      (subst (λ (w : Told). IsReported (old.0 ++ new.0, new.1) w before after has) (sym sum) (reported_more old new told one before between after mid has first more)));
}

-- what is known of the datagrams and counts behind i of them
pub record OutputsNow (t : Telling) (i : ℕ) (had has : List code_datagram.Datagram) (told : Told) : Type 0 where
  pub can : CanTell t has
  pub room : length has ≤ length had + i
  pub few : IsFew told i

pub outputs_now : (t : Telling) (number place i : ℕ) (had has : List code_datagram.Datagram) (before after : List ℕ) (told : Told) → CanTell t had → place < length t.distributor.now.batch.items
    → OutputsSoFar t number place i had has before after told → OutputsNow t i had has told
outputs_now t number place i had has before after told h within so_far =
    let change = rewrite_of t.change.now in
    let plain = slice_get_some t.distributor.now.batch.items place within in
    let p = packet_at h.taken t.distributor.now.batch.items place plain.0 h.is.takings_are.batch plain.1 in
    let first = so_far.each h.members h.taken h.sent p.packet h.made h.is p.there h.datagrams in
    let outs = outputs_at place (take i h.sent) in
    let step : Step = reported_outputs h.members change number p.packet h.made outs in
    let lines : length step.0 ≤ i = omega (arith, outputs_lines h.members change number p.packet h.made outs, few_at place (take i h.sent), length-take i h.sent) in
    record {
      can = record { members = h.members; taken = h.taken; sent = h.sent; is = h.is; change = h.change; made = step.1; datagrams = first.datagrams };
      room = omega (arith, first.datagrams.count, h.datagrams.count, outputs_made h.members change number p.packet h.made outs, few_at place (take i h.sent), length-take i h.sent);
      few = told_few told step.0 i first.told_is lines;
    }

-- an output that is told alone
pub one_few : (t : Telling) (number place : ℕ) (output : Output) (i : ℕ) (had has : List code_datagram.Datagram) (before after : List ℕ) (one : Told)
    → CanTell t had → place < length t.distributor.now.batch.items
    → OutputTold t number place output had has (Ok one) before after → IsFew one 1
one_few t number place output i had has before after one h within adds =
    let change = rewrite_of t.change.now in
    let plain = slice_get_some t.distributor.now.batch.items place within in
    let p = packet_at h.taken t.distributor.now.batch.items place plain.0 h.is.takings_are.batch plain.1 in
    let told = adds h.members h.taken h.sent p.packet h.made h.is p.there h.datagrams in
    let outs = outputs_at place (sent_of output ∷ []) in
    let step : Step = reported_outputs h.members change number p.packet h.made outs in
    told_few one step.0 1 told.told_is (omega (arith, outputs_lines h.members change number p.packet h.made outs, few_at place (sent_of output ∷ [])))

-- how many outputs there are
pub outputs_count : (t : Telling) (had : List code_datagram.Datagram) (h : CanTell t had) → length t.distributor.now.outputs ≤ 8192
outputs_count t had h =
    omega (arith, h.is.right.few, ap (λ (xs : List Sent). length xs) h.is.outputs, length-map t.distributor.now.outputs sent_of)

-- all of them
pub outputs_all : (t : Telling) (number place i : ℕ) (had has : List code_datagram.Datagram) (before after : List ℕ) (told : Told)
    → length t.distributor.now.outputs ≤ i → OutputsSoFar t number place i had has before after told
    → (members : List Member) (taken : List Taking) (sent : List Sent) (packet : Packet) (made : List Datagram) → IsTelling t members taken sent
    → slice_get (filter_map packet_in taken) place ≡ Some packet → MirrorEach MirrorsDatagram had made
    → IsReported (reported_outputs members (rewrite_of t.change.now) number packet made (outputs_at place sent)) told before after has
outputs_all t number place i had has before after told whole so_far members taken sent packet made is there mirrors =
    let over : length sent ≤ i = omega (arith, ap (λ (xs : List Sent). length xs) is.outputs, length-map t.distributor.now.outputs sent_of) in
    subst (λ (xs : List Sent). IsReported (reported_outputs members (rewrite_of t.change.now) number packet made (outputs_at place xs)) told before after has) (take_all i sent over)
    (so_far.each members taken sent packet made is there mirrors)

-- ---- the takings

pub record TakingsSoFar (t : Telling) (i : ℕ) (had has : List code_datagram.Datagram) (before after : List ℕ) (told : Told) (place : ℕ) : Type 0 where
  pub each : (members : List Member) (taken : List Taking) (sent : List Sent) (made : List Datagram) → IsTelling t members taken sent → MirrorEach MirrorsDatagram had made
      → IsReported (reported_takings members (rewrite_of t.change.now) sent 0 made (take i taken)) told before after has
  pub behind : (members : List Member) (taken : List Taking) (sent : List Sent) → IsTelling t members taken sent → place ≡ length (filter_map packet_in (take i taken))

pub takings_begin : (t : Telling) (had : List code_datagram.Datagram) (text : List ℕ) → TakingsSoFar t 0 had had text text (record { datagrams = 0; accepted = 0; refused = 0 }) 0
takings_begin t had text = record {
  each = λ members taken sent made is mirrors. reported_none text made had mirrors;
  behind = λ members taken sent is. refl;
}

-- a taking of the code, and that of the definition
pub record TakingAt (taken : List Taking) (i : ℕ) (k : code_taking.Taking) : Type 0 where
  pub taking : Taking
  pub there : slice_get taken i ≡ Some taking
  pub is : k ≡ taking_in taking

mapped : {A B : Type 0} (f : A → B) (o : Option A) (b : B) → option_map f o ≡ Some b → (a : A) × (o ≡ Some a) × (b ≡ f a)
mapped f None b e = absurd cc
mapped f (Some a) b e = (a, refl, sym (same_Some _ _ e))

pub taking_at : (t : Telling) (members : List Member) (taken : List Taking) (sent : List Sent) (i : ℕ) (k : code_taking.Taking)
    → IsTelling t members taken sent → slice_get t.distributor.now.takings.items i ≡ Some k → TakingAt taken i k
taking_at t members taken sent i k is at =
    let e : option_map taking_in (slice_get taken i) ≡ Some k = sym (slice_get-map taking_in taken i) ∙ ap (λ (xs : List code_taking.Taking). slice_get xs i) (sym is.takings_are.takings_are) ∙ at in
    let m = mapped taking_in (slice_get taken i) k e in
    record { taking = m.0; there = m.1; is = m.2 }

at_seam : {X : Type 0} (xs ys : List X) (y : X) → slice_get (xs ++ y ∷ ys) (length xs) ≡ Some y
at_seam [] ys y = refl
at_seam (x ∷ xs) ys y = at_seam xs ys y

split_at : {X : Type 0} (xs : List X) (i : ℕ) (x : X) → slice_get xs i ≡ Some x → xs ≡ take i xs ++ x ∷ drop (i + 1) xs
split_at xs i x at =
    sym (take-append-drop (i + 1) xs) ∙ ap (λ (ys : List _). ys ++ drop (i + 1) xs) (take_push xs i x at) ∙ append_assoc (take i xs) (x ∷ []) (drop (i + 1) xs)

-- the packet of a taking stands in the place that is next
pub is_at : (taken : List Taking) (i place : ℕ) (t : Taking) → slice_get taken i ≡ Some t → place ≡ length (filter_map packet_in (take i taken)) → IsAt taken place t.result
is_at taken i place t at behind = cases t.number t.result at
  where
    cases : (number : ℕ) (r : Result Packet InboundFault) → slice_get taken i ≡ Some (record { number = number; result = r }) → IsAt taken place r
    cases number (Err f) there = tt
    cases number (Ok packet) there =
        let front = filter_map packet_in (take i taken) in
        let e : filter_map packet_in taken ≡ front ++ packet ∷ filter_map packet_in (drop (i + 1) taken) =
        ap (filter_map packet_in) (split_at taken i (record { number = number; result = Ok packet }) there) ∙ filter_map-append packet_in (take i taken) (record { number = number; result = Ok packet } ∷ drop (i + 1) taken) in
        ap (slice_get (filter_map packet_in taken)) behind ∙ ap (λ (xs : List Packet). slice_get xs (length front)) e ∙ at_seam front (filter_map packet_in (drop (i + 1) taken)) packet

-- and the place behind it is one more where it opened
pub place_next : (taken : List Taking) (i place : ℕ) (t : Taking) (k : code_taking.Taking) → slice_get taken i ≡ Some t → k ≡ taking_in t → place ≡ length (filter_map packet_in (take i taken))
    → place + from_bool (is_none k.fault) ≡ length (filter_map packet_in (take (i + 1) taken))
place_next taken i place t k at is behind =
    let e : filter_map packet_in (take (i + 1) taken) ≡ filter_map packet_in (take i taken) ++ filter_map packet_in (t ∷ []) = ap (filter_map packet_in) (take_push taken i t at) ∙ filter_map-append packet_in (take i taken) (t ∷ []) in
    let n : from_bool (is_none k.fault) ≡ length (filter_map packet_in (t ∷ [])) = ap (λ (x : code_taking.Taking). from_bool (is_none x.fault)) is ∙ cases t.number t.result in
    omega (arith, ap (λ (xs : List Packet). length xs) e, length-append (filter_map packet_in (take i taken)) (filter_map packet_in (t ∷ [])))
  where
    cases : (number : ℕ) (r : Result Packet InboundFault) → from_bool (is_none (fault_in r)) ≡ length (filter_map packet_in (record { number = number; result = r } ∷ []))
    cases number (Ok packet) = refl
    cases number (Err f) = refl

-- what a taking adds
abbrev pub TakingTold : Telling → code_taking.Taking → (place : ℕ) → (had has : List code_datagram.Datagram) → Result Told Stop → (before after : List ℕ) → Type 0
TakingTold t k place had has result before after =
    (members : List Member) (taken : List Taking) (sent : List Sent) (u : Taking) (made : List Datagram) → IsTelling t members taken sent → k ≡ taking_in u → IsAt taken place u.result
    → Reports (reported_taking members (rewrite_of t.change.now) sent place made u.number u.result) made had result before after has

pub takings_step : (t : Telling) (i place next : ℕ) (k : code_taking.Taking) (had mid has : List code_datagram.Datagram) (before between after : List ℕ) (told one all : Told)
    → TakingsSoFar t i had mid before between told place
    → slice_get t.distributor.now.takings.items i ≡ Some k → TakingTold t k place mid has (Ok one) between after → all ≡ told_and told one → next ≡ place + from_bool (is_none k.fault) → TakingsSoFar t (i + 1) had has before after all next
takings_step t i place next k had mid has before between after told one all so_far at adds sum goes_on = record {
  each = λ members taken sent made is mirrors.
      let change = rewrite_of t.change.now in
      let u = taking_at t members taken sent i k is at in
      let first = so_far.each members taken sent made is mirrors in
      let old : Step = reported_takings members change sent 0 made (take i taken) in
      let behind = so_far.behind members taken sent is in
      let more = adds members taken sent u.taking old.1 is u.is (is_at taken i place u.taking u.there behind) first.datagrams in
      let new : Step = reported_taking members change sent place old.1 u.taking.number u.taking.result in
      subst (λ (xs : List Taking). IsReported (reported_takings members change sent 0 made xs) all before after has) (sym (take_push taken i u.taking u.there))
      (subst (λ (step : Step). IsReported step all before after has) (sym (takings_push members change sent 0 place made (take i taken) u.taking (omega arith)))
      (subst (λ (w : Told). IsReported (old.0 ++ new.0, new.1) w before after has) (sym sum) (reported_more old new told one before between after mid has first more)));
  behind = λ members taken sent is.
      let u = taking_at t members taken sent i k is at in
      goes_on ∙ place_next taken i place u.taking k u.there u.is (so_far.behind members taken sent is);
}

pub from_bool_few : (b : Bool) → from_bool b ≤ 1
from_bool_few true = omega arith
from_bool_few false = omega arith

pub none_is : (o : Option InboundFault) (b : Bool) → is_some o ≡ not b → b ≡ is_none o
none_is None true h = refl
none_is None false h = absurd cc
none_is (Some f) true h = absurd cc
none_is (Some f) false h = refl

opened_few : (ts : List Taking) → length (filter_map packet_in ts) ≤ length ts
opened_few [] = omega arith
opened_few (t ∷ ts) = one t.number t.result (opened_few ts)
  where
    one : (number : ℕ) (r : Result Packet InboundFault) → length (filter_map packet_in ts) ≤ length ts → length (filter_map packet_in (record { number = number; result = r } ∷ ts)) ≤ suc (length ts)
    one number (Ok packet) h = omega arith
    one number (Err f) h = omega arith

pub record TakingsNow (t : Telling) (i place : ℕ) (had has : List code_datagram.Datagram) (told : Told) : Type 0 where
  pub can : CanTell t has
  pub room : length has ≤ length had + 8192 * i
  pub few : IsFew told (8193 * i)
  pub count : length t.distributor.now.takings.items ≤ 32
  pub place_few : place ≤ i

pub takings_now : (t : Telling) (i place : ℕ) (had has : List code_datagram.Datagram) (before after : List ℕ) (told : Told) → CanTell t had
    → TakingsSoFar t i had has before after told place → TakingsNow t i place had has told
takings_now t i place had has before after told h so_far =
    let change = rewrite_of t.change.now in
    let first = so_far.each h.members h.taken h.sent h.made h.is h.datagrams in
    let step : Step = reported_takings h.members change h.sent 0 h.made (take i h.taken) in
    let size : length (take i h.taken) ≤ i = omega (arith, length-take i h.taken) in
    let lines : length step.0 ≤ 8193 * i = omega (arith, takings_lines h.members change h.sent 0 h.made (take i h.taken) h.is.right.few) in
    record {
      can = record { members = h.members; taken = h.taken; sent = h.sent; is = h.is; change = h.change; made = step.1; datagrams = first.datagrams };
      room = omega (arith, first.datagrams.count, h.datagrams.count, takings_made h.members change h.sent 0 h.made (take i h.taken) h.is.right.few);
      few = told_few told step.0 (8193 * i) first.told_is lines;
      place_few = omega (arith, so_far.behind h.members h.taken h.sent h.is, opened_few (take i h.taken));
      count = omega (arith, h.is.right.few_taken, ap (λ (xs : List code_taking.Taking). length xs) h.is.takings_are.takings_are, length-map h.taken taking_in);
    }

-- a taking that is told alone
pub taking_few : (t : Telling) (i place : ℕ) (k : code_taking.Taking) (had mid has : List code_datagram.Datagram) (before between after : List ℕ) (told one : Told)
    → CanTell t had → TakingsSoFar t i had mid before between told place
    → slice_get t.distributor.now.takings.items i ≡ Some k → TakingTold t k place mid has (Ok one) between after → IsFew one 8193
taking_few t i place k had mid has before between after told one h so_far at adds =
    let change = rewrite_of t.change.now in
    let u = taking_at t h.members h.taken h.sent i k h.is at in
    let first = so_far.each h.members h.taken h.sent h.made h.is h.datagrams in
    let old : Step = reported_takings h.members change h.sent 0 h.made (take i h.taken) in
    let told = adds h.members h.taken h.sent u.taking old.1 h.is u.is (is_at h.taken i place u.taking u.there (so_far.behind h.members h.taken h.sent h.is)) first.datagrams in
    told_few one (reported_taking h.members change h.sent place old.1 u.taking.number u.taking.result).0 8193 told.told_is
    (omega (arith, taking_lines h.members change h.sent place old.1 u.taking.number u.taking.result, h.is.right.few))

-- the packet of a taking that opened is in the batch
within_if : (o : Option InboundFault) (taken : List Taking) (place n : ℕ) (number : ℕ) (r : Result Packet InboundFault) → o ≡ fault_in r
    → n ≡ length (filter_map packet_in taken) → IsAt taken place r → IfNone o (place < n)
within_if o taken place n number (Err f) is size at = subst (λ (x : Option InboundFault). IfNone x (place < n)) (sym is) tt
within_if o taken place n number (Ok packet) is size at =
    subst (λ (x : Option InboundFault). IfNone x (place < n)) (sym is) (omega (arith, slice_get_within (filter_map packet_in taken) place packet at))

pub taking_within : (t : Telling) (i place : ℕ) (k : code_taking.Taking) (had has : List code_datagram.Datagram) (before after : List ℕ) (told : Told) (n : ℕ)
    → CanTell t had → TakingsSoFar t i had has before after told place
    → slice_get t.distributor.now.takings.items i ≡ Some k → n ≡ length t.distributor.now.batch.items → IfNone k.fault (place < n)
taking_within t i place k had has before after told n h so_far at size =
    let u = taking_at t h.members h.taken h.sent i k h.is at in
    within_if k.fault h.taken place n u.taking.number u.taking.result (ap (λ (x : code_taking.Taking). x.fault) u.is)
    (size ∙ plain_length t.distributor.now.batch.items (filter_map packet_in h.taken) h.is.takings_are.batch) (is_at h.taken i place u.taking u.there (so_far.behind h.members h.taken h.sent h.is))

-- all of them
pub takings_all : (t : Telling) (i place : ℕ) (had has : List code_datagram.Datagram) (before after : List ℕ) (told : Told)
    → length t.distributor.now.takings.items ≤ i → TakingsSoFar t i had has before after told place
    → (members : List Member) (taken : List Taking) (sent : List Sent) (made : List Datagram) → IsTelling t members taken sent → MirrorEach MirrorsDatagram had made
    → IsReported (reported_takings members (rewrite_of t.change.now) sent 0 made taken) told before after has
takings_all t i place had has before after told whole so_far members taken sent made is mirrors =
    let over : length taken ≤ i = omega (arith, ap (λ (xs : List code_taking.Taking). length xs) is.takings_are.takings_are, length-map taken taking_in) in
    subst (λ (xs : List Taking). IsReported (reported_takings members (rewrite_of t.change.now) sent 0 made xs) told before after has) (take_all i taken over)
    (so_far.each members taken sent made is mirrors)
