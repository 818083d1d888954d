use Rattle.std.proofs.Common.{◌≡◌, ◌-◌, ◌+◌, ℕ, [], List, Result, sym, ap, subst, ◌∙◌}
use Rattle.std.specs.Prelude.{map}
use Rattle.perc_rtp.specs.declared.head.RtpHead.{RtpHead}
use Rattle.perc_ekt.specs.declared.field.EktField.{EktField}
use Rattle.perc_contexts.specs.Kept as contexts
use Rattle.perc_outer.specs.Datagram.{original_header}
use Rattle.perc_receiver.specs.Table.{Secret, secret_in}
use Rattle.perc_receiver.specs.Opener.{by_cipher}
use Rattle.perc_receiver.specs.Receiver.{Receiver, carried_by, receiving}
use Rattle.perc_incoming.specs.declared.inquiry.Inquiry.{Inquiry}
use Rattle.perc_incoming.specs.Asking.{IsCarriedBy}
use Rattle.perc_incoming.specs.Outcome.{IsDecision}
use Rattle.perc_incoming.specs.Opening.{AreAppended, IsInquiry, decided_of, is_full_told, is_unwrapped, tries_of}
use Rattle.perc_incoming.proofs.Parts.{inner_is}
use Rattle.perc_incoming.proofs.Inquiring.{key_opens_is, key_ready, open_all}
use Rattle.perc_incoming.proofs.inquiry.inquire.Goals as goal
use Rattle.std.specs.Prelude.{◌&&◌}

pub ask_carried-decision-requires-clause-key : goal.ask_carried-decision-requires-clause-key
ask_carried-decision-requires-clause-key c =
    let o = c.requires.reached.opened in
    let is = c.requires.reached.is.told_is in
    key_ready c.args.profile (map secret_in c.args.records.now) c.args.contexts.now.live c.original_head-head.result.ssrc o.field c.carried_key-carried.result c.requires.live
    (c.carried_key-carried.ensures.answer o.field (c.args.reached.now.len + 16) is.field is.field_octets) c.carried_key-carried.ensures.fits

pub returns-clause-answer : goal.returns-clause-answer
returns-clause-answer c = λ r o same stands is.
    let secrets = map secret_in c.args.records.now in
    let t = c.args.reached.now in
    let q : Receiver = record r { secrets = secrets } in
    let h = original_header o in
    let head = c.original_head-head.ensures.head o is in
    let ssrc = ap (λ (x : RtpHead). x.ssrc) head in
    let result = c.carried_key-carried.result in
    let read = c.carried_key-carried.ensures.answer o.field (t.len + 16) is.told_is.field is.told_is.field_octets in
    let found = subst (λ (n : ℕ). IsCarriedBy (carried_by (by_cipher secrets) secrets n o.field) result) ssrc read in
    let carried = carried_by (by_cipher secrets) secrets o.header.ssrc o.field in
    let inner = inner_is o c.args.datagram.now t is c.requires.reached.range.inner in
    let held = subst (λ (l : List Secret). contexts.StandsFor c.args.contexts.now (receiving (record r { secrets = l }))) (sym same) stands in
    let packet = c.original_head-head.ensures.octets o is in
    let decided =
    subst (λ (xs : List ℕ). IsDecision (receiving q) o.header.ssrc (decided_of secrets r.contexts h xs carried) c.ask_carried-decision.result c.ask_carried-decision.new.room) inner
    (c.ask_carried-decision.ensures.decided (receiving q) h carried held packet head found) in
    let appended =
    subst (λ (xs : List ℕ). AreAppended secrets h xs (tries_of r.contexts h xs carried) c.new-open_keys.result.items c.ask_carried-decision.new.open_keys.items) inner
    (c.ask_carried-decision.ensures.appended (receiving q) h carried held packet head found) in
    let key =
    c.is_key_open.ensures ∙ ap (λ (f : EktField). is_full_told f && is_unwrapped result) is.told_is.field ∙ key_opens_is secrets o.header.ssrc (t.len + 16) o.field result found in
    let told : Inquiry = record {
      ssrc = c.original_head-head.result.ssrc;
      key_opens = c.is_key_open.result;
      open_keys = c.ask_carried-decision.new.open_keys;
      decision = c.ask_carried-decision.result;
    } in
    subst (λ (l : List Secret). IsInquiry (record r { secrets = l }) o told c.ask_carried-decision.new.room) same (record {
      ssrc = ssrc;
      key_opens_is = key;
      open_keys = open_all q o c.ask_carried-decision.new.open_keys.items
          (subst (λ (l : List _). AreAppended secrets h o.inner (tries_of r.contexts h o.inner carried) l c.ask_carried-decision.new.open_keys.items) c.new-open_keys.ensures appended);
      decision_is = decided;
    })
