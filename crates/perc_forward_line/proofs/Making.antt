-- What the one worker makes of what was taken.
use Rattle.std.proofs.Common.{◌≡◌, ℕ, suc, ◌+◌, ◌*◌, ◌^◌, ◌≤◌, Bool, true, false, cond, List, [], ◌∷◌, ◌++◌, length, Option, Some, None, Result, Ok, Err, refl, sym, ap, subst, ◌∙◌, append_assoc, arith}
use Rattle.std.specs.Prelude.{◌&&◌, All, IfSome, filter, filter_map, not, ◌||◌, nat_le, nat_lt}
use Rattle.std.specs.List.{list_any, slice_get}
use Rattle.std.specs.Str.{bytes_eq}
use Rattle.std.proofs.lemmas.List.{length-append}
use Rattle.std.proofs.lemmas.List.Elements.{All-append, All-cons, All-filter, All-head, All-nil, All-tail, All-weaker}
use Rattle.std.proofs.lemmas.List.Sums.{length-filter, count_by-le-length}
use Rattle.std.proofs.lemmas.Slice.Eq.{bytes_eq-Decides}
use Rattle.perc_ekt.specs.Field.{Field, spelling}
use Rattle.perc_rtp.specs.Header as header
use Rattle.perc_rtp.specs.Header.{Header, IsHeader}
use Rattle.perc_ohb.specs.declared.block.Ohb.{Ohb}
use Rattle.perc_ohb.specs.Rewriting.{IsRewrite, Rewrite, block_after}
use Rattle.perc_kdf.specs.Derivation.{session_keys}
use Rattle.perc_kdf.specs.declared.Kind.TheVariants.{Srtp, Srtcp}
use Rattle.perc_srtp.specs.Sealed.{sealed_body, sealed_rtcp}
use Rattle.perc_srtp.proofs.PacketLaws.{length-sealed_body}
use Rattle.perc_double.specs.Double.{opened, relayed}
use Rattle.perc_double.proofs.RelayLaws.{IsHeader-relayed}
use Rattle.perc_keyset.specs.Set.{is_of}
use Rattle.perc_keyset.specs.declared.Entry.{Entry}
use Rattle.perc_distributor.specs.declared.fault.ForwardFault.{ForwardFault}
use Rattle.perc_distributor.specs.declared.fault.ForwardFault.TheVariants as fault
use Rattle.perc_distributor.specs.declared.plain.Plain.{Plain}
use Rattle.perc_distributor.specs.Inbound.{Control, Media, Packet, in_set}
use Rattle.perc_distributor.specs.Forwarding.{Dropped, Sealed, Sealing, Sent, is_named, is_owned, media_index, media_step, most_octets, recipients}
use Rattle.perc_distributor.specs.Forwarding.{sealing_of, sent_control, sent_each, sent_from, sent_media, sent_to, source_of, with_sealing}
use Rattle.perc_distributor.specs.Kept.{ArePlain, IsPlain}
use Rattle.perc_run.specs.Forwarding.{Taking, packet_in}
use Rattle.perc_run.specs.Sound.{entries_from}
use Rattle.perc_run.specs.State.{Member}
use Rattle.perc_forward_line.specs.Telling.{AreOutputs, IsOutputOf, IsSealedOf, is_known, to_of}

-- an association is a member's
abbrev pub is_members : List Member → List ℕ → Bool
is_members members association = list_any (λ m. bytes_eq association m.association) members

abbrev IsMembers : List Member → Entry → Type 0
IsMembers members e = is_members members e.association ≡ true

-- ---- the entries of the set are members'

self_any : (members more : List Member) → All (λ (m : Member). is_members (more ++ members) m.association ≡ true) members
self_any [] more = All-nil (λ (m : Member). is_members (more ++ []) m.association ≡ true)
self_any (x ∷ members) more =
    let P = λ (m : Member). is_members (more ++ x ∷ members) m.association ≡ true in
    let rest = subst (λ (all : List Member). All (λ (m : Member). is_members all m.association ≡ true) members) (append_assoc more (x ∷ []) members) (self_any members (more ++ x ∷ [])) in
    All-cons P x members (here more) rest
  where
    or_true : (b : Bool) → (b || true) ≡ true
    or_true true = refl
    or_true false = refl

    either : (a b : Bool) → b ≡ true → (a || b) ≡ true
    either true b h = refl
    either false b h = h

    here : (front : List Member) → is_members (front ++ x ∷ members) x.association ≡ true
    here [] = ap (λ (b : Bool). b || is_members members x.association) ((bytes_eq-Decides x.association x.association).1 refl)
    here (y ∷ front) = either (bytes_eq x.association y.association) (is_members (front ++ x ∷ members) x.association) (here front)

entries_are : (all members : List Member) (serial : ℕ) → All (λ (m : Member). is_members all m.association ≡ true) members → All (IsMembers all) (entries_from serial members)
entries_are all [] serial are = All-nil (IsMembers all)
entries_are all (m ∷ members) serial are =
    let P = λ (x : Member). is_members all x.association ≡ true in
    let rest = entries_are all members (serial + 1) (All-tail P m members are) in
    let e : Entry = record { association = m.association; serial = serial; client = m.client; server = m.server } in
    let later = entries_from (serial + 1) members in
    pick m.present (e ∷ later) later (All-cons (IsMembers all) e later (All-head P m members are) rest) rest
  where
    pick : (b : Bool) (xs ys : List Entry) → All (IsMembers all) xs → All (IsMembers all) ys → All (IsMembers all) (cond b xs ys)
    pick true xs ys h k = h
    pick false xs ys h k = k

pub members_entries : (members : List Member) → All (IsMembers members) (entries_from 0 members)
members_entries members = entries_are members members 0 (self_any members [])

pub entries_few : (members : List Member) (serial : ℕ) → length (entries_from serial members) ≤ length members
entries_few [] serial = omega arith
entries_few (m ∷ members) serial = pick m.present (entries_few members (serial + 1))
  where
    pick : (b : Bool) → length (entries_from (serial + 1) members) ≤ length members
        → length (cond b (record { association = m.association; serial = serial; client = m.client; server = m.server } ∷ entries_from (serial + 1) members) (entries_from (serial + 1) members)) ≤ suc (length members)
    pick true h = omega arith
    pick false h = omega arith

-- ---- each output

module _ (members : List Member) (packets : List Packet) (change : Rewrite) (may : IsRewrite change) where
  abbrev IsRight : Sent → Type 0
  IsRight x = (is_known members x ≡ true) × IsOutputOf change packets x

  media_right : (s : Sealing) (e : Entry) (place : ℕ) (from : List ℕ) (h : Header) (inner : List ℕ) (block : Ohb) (field : Field) (at : Result ℕ ForwardFault)
      → slice_get packets place ≡ Some (Media from h inner block field) → IsMembers members e → IsHeader h → IsRight (sent_media s e place change h inner block field at).0
  media_right s e place from h inner block field (Err f) there known is = (known, tt)
  media_right s e place from h inner block field (Ok index) there known is =
      let keys = session_keys e.server Srtp in
      let body = sealed_body keys index (relayed h change) (opened inner (block_after h block change)) in
      let front = header.spelling (relayed h change) in (
        known,
        subst (λ (o : Option Packet). IfSome o (λ (x : Packet). IsSealedOf change x ((front ++ body) ++ spelling field))) (sym there) (
          body,
          length-sealed_body keys index (relayed h change) (opened inner (block_after h block change)),
          record { header = IsHeader-relayed h change is may; octets = append_assoc front body (spelling field) },
        ),
      )

  pick : (a b : Bool) (x y z : Sent × Sealing) → IsRight x.0 → IsRight y.0 → IsRight z.0 → IsRight (cond a x (cond b y z)).0
  pick true b x y z f g h = f
  pick false true x y z f g h = g
  pick false false x y z f g h = h

  control_right : (s : Sealing) (e : Entry) (place : ℕ) (from octets : List ℕ) → slice_get packets place ≡ Some (Control from octets) → IsMembers members e → IsRight (sent_control s e place octets).0
  control_right s e place from octets there known =
      let any : (sealed : List ℕ) → IsOutputOf change packets (Sealed place e.association sealed) = λ sealed. subst (λ (o : Option Packet). IfSome o (λ (x : Packet). IsSealedOf change x sealed)) (sym there) tt in
      let sealed = sealed_rtcp (session_keys e.server Srtcp) s.rtcp octets in
      pick (nat_lt most_octets (length octets + 20)) (nat_le (2 ^ 31) s.rtcp) (Dropped place e.association fault.Room, s) (Dropped place e.association fault.RtcpSpent, s)
      (Sealed place e.association sealed, record s { rtcp = s.rtcp + 1 }) (known, tt) (known, tt) (known, any sealed)

  abbrev HasHeader : Packet → Type 0
  HasHeader (Media from h inner block field) = IsHeader h
  HasHeader (Control from octets) = Unit {0}

  sent_right : (s : Sealing) (e : Entry) (place : ℕ) (packet : Packet) → slice_get packets place ≡ Some packet → IsMembers members e → HasHeader packet → IsRight (sent_to s e place change packet).0
  sent_right s e place (Media from h inner block field) there known is = media_right s e place from h inner block field (media_index s.streams h inner block field change) there known is
  sent_right s e place (Control from octets) there known is = control_right s e place from octets there known

  each_right : (es : List Entry) (place : ℕ) (packet : Packet) (sealing : List Sealing) → slice_get packets place ≡ Some packet → All (IsMembers members) es → HasHeader packet
      → All IsRight (sent_each es place change packet sealing).0
  each_right [] place packet sealing there known is = All-nil IsRight
  each_right (e ∷ es) place packet sealing there known is =
      let one : Sent × Sealing = sent_to (sealing_of sealing e.serial) e place change packet in
      All-cons IsRight one.0 (sent_each es place change packet (with_sealing one.1 sealing)).0 (sent_right (sealing_of sealing e.serial) e place packet there (All-head (IsMembers members) e es known) is)
      (each_right es place packet (with_sealing one.1 sealing) there (All-tail (IsMembers members) e es known) is)

  each_count : (es : List Entry) (place : ℕ) (packet : Packet) (sealing : List Sealing) → length (sent_each es place change packet sealing).0 ≡ length es
  each_count [] place packet sealing = refl
  each_count (e ∷ es) place packet sealing =
      let one : Sent × Sealing = sent_to (sealing_of sealing e.serial) e place change packet in
      ap suc (each_count es place packet (with_sealing one.1 sealing))

  has_header : (p : Plain) (packet : Packet) → IsPlain p packet → HasHeader packet
  has_header p (Media from h inner block field) is = is.packet.reads.header
  has_header p (Control from octets) is = tt

  module _ (number of : ℕ) (set : List Entry) (only : Option (List (List ℕ))) (known : All (IsMembers members) set) where
    few_recipients : (packet : Packet) → length (recipients number of set only packet) ≤ length set
    few_recipients packet =
        let p = λ (e : Entry). is_owned number of e && not (is_of (source_of packet) e) && is_named only e in
        omega (arith, length-filter p set, count_by-le-length p set)

    from_right : (place : ℕ) (batch : List Plain) (rest : List Packet) (sealing : List Sealing) → ArePlain batch rest → ((k : ℕ) → slice_get rest k ≡ slice_get packets (place + k))
        → All IsRight (sent_from number of set place rest change only sealing).0
    from_right place batch [] sealing are at = All-nil IsRight
    from_right place [] (packet ∷ rest) sealing are at = absurd are
    from_right place (b ∷ batch) (packet ∷ rest) sealing are at =
        let to : List Entry = recipients number of set only packet in
        let one : List Sent × List Sealing = sent_each to place change packet sealing in
        let more : List Sent × List Sealing = sent_from number of set (place + 1) rest change only one.1 in
        let here : place + 0 ≡ place = omega arith in
        let there : slice_get packets place ≡ Some packet = ap (slice_get packets) (sym here) ∙ sym (at 0) in
        let named = All-filter (λ e. is_owned number of e && not (is_of (source_of packet) e) && is_named only e) (IsMembers members) set known in
        All-append IsRight one.0 more.0 (each_right to place packet sealing there named (has_header b packet are.0))
        (from_right (place + 1) batch rest one.1 are.1 (λ k. let next : place + suc k ≡ place + 1 + k = omega arith in at (suc k) ∙ ap (slice_get packets) next))

    from_count : (place : ℕ) (rest : List Packet) (sealing : List Sealing) → length set ≤ 256 → length (sent_from number of set place rest change only sealing).0 ≤ 256 * length rest
    from_count place [] sealing few = omega arith
    from_count place (packet ∷ rest) sealing few =
        let to : List Entry = recipients number of set only packet in
        let one : List Sent × List Sealing = sent_each to place change packet sealing in
        let more : List Sent × List Sealing = sent_from number of set (place + 1) rest change only one.1 in
        omega (arith, from_count (place + 1) rest one.1 few, length-append one.0 more.0, each_count to place packet sealing, few_recipients packet)

step_right : (members : List Member) (set : List Entry) (batch : List Plain) (packets : List Packet) (change : Rewrite) (only : Option (List (List ℕ))) (sealing : List Sealing) (may : IsRewrite change)
    → All (IsMembers members) set
    → ArePlain batch packets → All (IsRight members packets change may) (media_step 0 1 set packets change only sealing).0
unfolding media_step
step_right members set batch [] change only sealing may known are = All-nil (IsRight members [] change may)
step_right members set batch (packet ∷ packets) change only sealing may known are =
    from_right members (packet ∷ packets) change may 0 1 set only known 0 batch (packet ∷ packets) (filter (λ x. in_set set x.serial) sealing) are
    (λ k. let here : 0 + k ≡ k = omega arith in ap (slice_get (packet ∷ packets)) (sym here))

step_count : (members : List Member) (set : List Entry) (packets : List Packet) (change : Rewrite) (only : Option (List (List ℕ))) (sealing : List Sealing) (may : IsRewrite change)
    → All (IsMembers members) set → length set ≤ 256
    → length (media_step 0 1 set packets change only sealing).0 ≤ 256 * length packets
unfolding media_step
step_count members set [] change only sealing may known few = omega arith
step_count members set (packet ∷ packets) change only sealing may known few =
    from_count members (packet ∷ packets) change may 0 1 set only known 0 (packet ∷ packets) (filter (λ x. in_set set x.serial) sealing) few

opened_few : (ts : List Taking) → length (filter_map packet_in ts) ≤ length ts
opened_few [] = omega arith
opened_few (t ∷ ts) = one t.number t.result (opened_few ts)
  where
    one : (number : ℕ) (r : Result Packet _) → length (filter_map packet_in ts) ≤ length ts → length (filter_map packet_in (record { number = number; result = r } ∷ ts)) ≤ suc (length ts)
    one number (Ok packet) h = omega arith
    one number (Err f) h = omega arith

pub outputs_right : (members : List Member) (set : List Entry) (batch : List Plain) (taken : List Taking) (change : Rewrite) (only : Option (List (List ℕ))) (sealing : List Sealing)
    → IsRewrite change → set ≡ entries_from 0 members
    → length members ≤ 256 → length taken ≤ 32 → ArePlain batch (filter_map packet_in taken) → AreOutputs members taken change (media_step 0 1 set (filter_map packet_in taken) change only sealing).0
outputs_right members set batch taken change only sealing may entries few few_taken are =
    let packets = filter_map packet_in taken in
    let known = subst (λ (es : List Entry). All (IsMembers members) es) (sym entries) (members_entries members) in
    let size : length set ≤ 256 = omega (arith, ap (λ (es : List Entry). length es) entries, entries_few members 0) in
    let right = step_right members set batch packets change only sealing may known are in
    let sent = (media_step 0 1 set packets change only sealing).0 in
    record {
      known = All-weaker (IsRight members packets change may) (λ x. is_known members x ≡ true) (λ x h. h.0) sent right;
      of_batch = All-weaker (IsRight members packets change may) (IsOutputOf change packets) (λ x h. h.1) sent right;
      few = omega (arith, step_count members set packets change only sealing may known size, opened_few taken);
      few_taken = few_taken;
    }
