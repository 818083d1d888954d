use Rattle.std.proofs.Common.{◌≡◌, ◌+◌, ◌≤◌, ℕ, List, length, take, Option, Some, sym, ap, subst, ◌∙◌, arith, refl}
use Rattle.std.specs.Option.{option_map}
use Rattle.std.proofs.lemmas.List.{length-take, take-take}
use Rattle.perc_rtp.specs.declared.head.RtpHead.{RtpHead}
use Rattle.perc_contexts.specs.Receiving.{Carried, committed}
use Rattle.perc_contexts.specs.Kept.{IsTry, told}
use Rattle.perc_receiver.specs.Receiver.{receiving, settled}
use Rattle.perc_incoming.specs.Asking.{key_of}
use Rattle.perc_incoming.specs.Outcome.{padding_answer}
use Rattle.perc_incoming.proofs.Parts.{answered_as, commit_stands, payload_is, payload_within, settled_as, told_is}
use Rattle.perc_incoming.proofs.receiving.Incoming.settle.Goals as goal

pub key_under-spi-requires-clause-tried : goal.key_under-spi-requires-clause-tried
key_under-spi-requires-clause-tried c =
    let t = rw (← c.self.view_is) at c.requires.taken in
    let key = told_is c.as_ref.result c.told_key-key.result c.args.decided.now.carried c.as_ref.ensures.value c.told_key-key.ensures.told in (
      receiving t.receiver_is,
      t.datagram.header.ssrc,
      t.try_is.attempt,
      t.stands.contexts,
      subst (λ (k : Option Carried). IsTry t.receiver_is.contexts t.datagram.header.ssrc k c.args.decided.now.attempt t.try_is.attempt) (sym key) t.taken.may.is_try,
    )

pub put_payload-requires : goal.put_payload-requires
put_payload-requires c =
    let room = c.args.room.now in
    let within = payload_within c.original_head-head.result.padding (take c.args.decided.now.len room) c.in-Some.len c.in-Some.ensures.len in
    omega (arith, length-take c.in-Some.len room, length-take c.args.decided.now.len room, within, c.requires.taken.within, c.requires.reached.range.block, c.requires.reached.range.len)

pub invariant_of-self : goal.invariant_of-self
invariant_of-self c =
    let i = c.self.invariant in
    let t = rw (← c.self.view_is) at c.requires.taken in
    let r = t.receiver_is in
    let a = t.try_is.attempt in
    let key = told_is c.as_ref-2.result c.told_key-key.result c.args.decided.now.carried c.as_ref-2.ensures.value c.told_key-key.ensures.told in
    let ssrc = ap (λ (h : RtpHead). h.ssrc) (c.original_head-head.ensures.head t.datagram t.told_is) in
    let is_try = subst (λ (k : Option Carried). IsTry r.contexts t.datagram.header.ssrc k c.args.decided.now.attempt a) (sym key) t.taken.may.is_try in
    let its = subst (λ (n : ℕ). IsTry r.contexts n (told c.as_ref-2.result) c.args.decided.now.attempt a) (sym ssrc) is_try in
    record {
      session = i.session;
      some = i.some;
      right = i.right;
      room_is = i.room_is;
      few = i.few;
      stands = (record r { contexts = committed a r.contexts }, commit_stands _ r a c.commit.new.self t.stands (c.commit.ensures (receiving r) a t.stands.contexts its));
    }

pub returns-clause-answer : goal.returns-clause-answer
returns-clause-answer c = λ r o t stands is taken.
    let s = rw (← c.self.view_is) at stands in
    let d = c.args.decided.now in
    let room = c.args.room.now in
    let head = c.original_head-head.ensures.head o is in
    let within = payload_within c.original_head-head.result.padding (take d.len room) c.in-Some.len c.in-Some.ensures.len in
    let few : c.in-Some.len ≤ d.len = omega (arith, within, length-take d.len room) in
    let payload =
    payload_is o t c.original_head-head.result.padding d.len c.in-Some.len room taken.len taken.body (ap (λ (h : RtpHead). h.padding) head) few c.in-Some.ensures.payload in
    let key = told_is c.as_ref.result c.told_key-key.result d.carried c.as_ref.ensures.value c.told_key-key.ensures.told in
    let is_try = subst (λ (k : Option Carried). IsTry r.contexts o.header.ssrc k d.attempt t.attempt) (sym key) taken.may.is_try in
    answered_as o t c.original_head-head.result.padding d.len c.in-Some.len room (take c.in-Some.len room) _ payload (record {
      ssrc = ap (λ (h : RtpHead). h.ssrc) head;
      spi = c.key_under-spi.ensures.spi (receiving r) o.header.ssrc t.attempt s.contexts is_try;
      index = taken.may.is_try.index;
      pt = ap (λ (h : RtpHead). h.pt) head;
      seq = ap (λ (h : RtpHead). h.seq) head;
      marker = ap (λ (h : RtpHead). h.marker) head;
      timestamp = ap (λ (h : RtpHead). h.timestamp) head;
      payload = c.put_payload.ensures;
    })

pub returns-clause-stands : goal.returns-clause-stands
returns-clause-stands c = λ r o t stands is taken.
    let s = rw (← c.self.view_is) at stands in
    let d = c.args.decided.now in
    let room = c.args.room.now in
    let head = c.original_head-head.ensures.head o is in
    let within = payload_within c.original_head-head.result.padding (take d.len room) c.in-Some.len c.in-Some.ensures.len in
    let few : c.in-Some.len ≤ d.len = omega (arith, within, length-take d.len room) in
    let payload =
    payload_is o t c.original_head-head.result.padding d.len c.in-Some.len room taken.len taken.body (ap (λ (h : RtpHead). h.padding) head) few c.in-Some.ensures.payload in
    let key = told_is c.as_ref-2.result c.told_key-key.result d.carried c.as_ref-2.ensures.value c.told_key-key.ensures.told in
    let is_try = subst (λ (k : Option Carried). IsTry r.contexts o.header.ssrc k d.attempt t.attempt) (sym key) taken.may.is_try in
    let its = subst (λ (n : ℕ). IsTry r.contexts n (told c.as_ref-2.result) d.attempt t.attempt) (sym (ap (λ (h : RtpHead). h.ssrc) head)) is_try in
    settled_as o t c.original_head-head.result.padding d.len c.in-Some.len room _ r (take c.in-Some.len room) payload
    (commit_stands _ r t.attempt c.commit.new.self s (c.commit.ensures (receiving r) t.attempt s.contexts its))
