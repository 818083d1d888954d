-- How many datagrams a forward makes at most: one for each number of its list and each member that it goes to.
use Rattle.std.proofs.Common.{◌≡◌, ℕ, suc, ◌+◌, ◌*◌, ◌<◌, ◌≤◌, inl, inr, Bool, true, false, cond, not, List, [], ◌∷◌, ◌++◌, length, map, get_or, Option, Some, None, Result, Ok, Err, refl, sym, ap, ◌∙◌, subst, arith}
use Rattle.std.specs.List.{AllByRecursion, cons_option, filter_map, list_any}
use Rattle.std.specs.Option.{option_map, option_map_or}
use Rattle.std.specs.Prelude.{AllPairs, Contains, filter, ◌&&◌, ◌==◌, ◌^◌, nat_le, nat_lt}
use Rattle.std.specs.Str.{bytes_eq}
use Rattle.std.proofs.lemmas.Bool.{and_from, and_parts, cases_order, false_from_ne_true, ne_eqb, not-true, or_cases}
use Rattle.std.proofs.Math.Nat.{mul-le-mul_right, suc-mul}
use Rattle.std.proofs.lemmas.List.{length-append, length_push}
use Rattle.std.proofs.lemmas.List.Elements.{Contains-get_or, filter-append, recursion_from_All}
use Rattle.std.proofs.lemmas.Slice.Eq.{bytes_eq-Decides}
use Rattle.perc_contexts.proofs.ReceivingLaws.{found_of}
use Rattle.perc_kdf.specs.Derivation.{session_keys}
use Rattle.perc_kdf.specs.declared.Kind.TheVariants.{Srtcp, Srtp}
use Rattle.perc_rtp.specs.Carried.{kind_of}
use Rattle.perc_rtp.specs.Header.{Header}
use Rattle.perc_rtp.specs.declared.carried.Carried.{Carried}
use Rattle.perc_rtp.specs.declared.carried.Carried.TheVariants as carried
use Rattle.perc_srtp.specs.Sealed.{sealed_rtcp}
use Rattle.perc_srtp.specs.Streams.{rtcp_opened}
use Rattle.perc_srtp.specs.declared.rtcp.RtcpFault.{RtcpFault}
use Rattle.perc_ohb.specs.declared.block.Ohb.{Ohb}
use Rattle.perc_ekt.specs.Field.{Field}
use Rattle.perc_outer.specs.Datagram as outer
use Rattle.perc_outer.specs.Datagram.{Reach, reached}
use Rattle.perc_keyset.specs.Set.{entry_of, is_of}
use Rattle.perc_keyset.specs.declared.Entry.{Entry}
use Rattle.perc_ohb.specs.Rewriting.{Rewrite}
use Rattle.perc_distributor.specs.Inbound.{Control, Heard, Media, Packet, heard_of, in_set, taken, taken_control, taken_of, taken_reach}
use Rattle.perc_distributor.specs.Forwarding.{Dropped, Sealed, Sealing, Sent, is_named, is_owned, media_index, media_step, most_octets, recipients, sealing_of, sent_each, sent_from, sent_media, sent_to, source_of, with_sealing}
use Rattle.perc_distributor.specs.declared.fault.ForwardFault.{ForwardFault}
use Rattle.perc_distributor.specs.declared.fault.ForwardFault.TheVariants as fault
use Rattle.perc_distributor.specs.declared.fault.InboundFault.{InboundFault}
use Rattle.perc_run.specs.State.{Datagram, Member, State, datagram_at, has_name}
use Rattle.perc_run.specs.Forwarding.{Taking, associations_of, count_recipients, numbered, packet_in, place_behind, place_of, reported_outputs, reported_taking, reported_takings, takings, unsealed_of}
use Rattle.perc_run.specs.Sound.{AreOthers, entries_from}
use Rattle.perc_headline.proofs.Lookups.{one_or_others}
use Rattle.perc_headline.proofs.Entries.{AreNumbered, entry_at, same_member}

-- ---- what is reported of outputs

-- the outputs at a place
abbrev pub outputs_at : ℕ → List Sent → List Sent
outputs_at place outputs = filter (λ (x : Sent). place_of x == place) outputs

outputs_made : (members : List Member) (change : Rewrite) (number : ℕ) (packet : Packet) (datagrams : List Datagram) (outputs : List Sent)
    → length (reported_outputs members change number packet datagrams outputs).1 ≤ length datagrams + length outputs
outputs_made members change number packet datagrams [] = omega arith
outputs_made members change number packet datagrams (Sealed place to octets ∷ outputs) =
    let d : Datagram = record { octets = octets; unsealed = unsealed_of change packet } in
    omega (arith, outputs_made members change number packet (datagrams ++ d ∷ []) outputs, length_push datagrams d)
outputs_made members change number packet datagrams (Dropped place to f ∷ outputs) = omega (arith, outputs_made members change number packet datagrams outputs)

-- At each place there are so many outputs at most.
abbrev pub FewAtEach : ℕ → List Sent → Type 0
FewAtEach most outputs = (place : ℕ) → length (outputs_at place outputs) ≤ most

taking_made : (members : List Member) (change : Rewrite) (outputs : List Sent) (place : ℕ) (datagrams : List Datagram) (number : ℕ) (result : Result Packet InboundFault) (most : ℕ)
    → FewAtEach most outputs → length (reported_taking members change outputs place datagrams number result).1 ≤ length datagrams + most
taking_made members change outputs place datagrams number (Err f) most few = omega arith
taking_made members change outputs place datagrams number (Ok packet) most few =
    omega (arith, outputs_made members change number packet datagrams (outputs_at place outputs), few place)

pub takings_made : (members : List Member) (change : Rewrite) (outputs : List Sent) (place : ℕ) (datagrams : List Datagram) (list : List Taking) (most : ℕ)
    → FewAtEach most outputs → length (reported_takings members change outputs place datagrams list).1 ≤ length datagrams + length list * most
takings_made members change outputs place datagrams [] most few = omega arith
takings_made members change outputs place datagrams (t ∷ list) most few =
    let one = reported_taking members change outputs place datagrams t.number t.result in
    let first = taking_made members change outputs place datagrams t.number t.result most few in
    let rest = takings_made members change outputs (place_behind place t.result) one.1 list most few in
    let count = suc-mul (length list) most in
    omega arith

-- ---- where outputs stand

one_of_three : (place : ℕ) (a b : Bool) (x y z : Sent × Sealing) → place_of x.0 ≡ place → place_of y.0 ≡ place → place_of z.0 ≡ place → place_of (cond a x (cond b y z)).0 ≡ place
one_of_three place true b x y z at_x at_y at_z = at_x
one_of_three place false true x y z at_x at_y at_z = at_y
one_of_three place false false x y z at_x at_y at_z = at_z

media_stands : (s : Sealing) (e : Entry) (place : ℕ) (change : Rewrite) (h : Header) (inner : List ℕ) (block : Ohb) (field : Field) (index : Result ℕ ForwardFault)
    → place_of (sent_media s e place change h inner block field index).0 ≡ place
media_stands s e place change h inner block field (Err f) = refl
media_stands s e place change h inner block field (Ok index) = refl

output_stands : (s : Sealing) (e : Entry) (place : ℕ) (change : Rewrite) (packet : Packet) → place_of (sent_to s e place change packet).0 ≡ place
output_stands s e place change (Media from h inner block field) =
    media_stands s e place change h inner block field (media_index s.streams h inner block field change)
output_stands s e place change (Control from octets) =
    one_of_three place (nat_lt most_octets (length octets + 20)) (nat_le (2 ^ 31) s.rtcp) (Dropped place e.association fault.Room, s) (Dropped place e.association fault.RtcpSpent, s)
    (Sealed place e.association (sealed_rtcp (session_keys e.server Srtcp) s.rtcp octets), record s { rtcp = s.rtcp + 1 }) refl refl refl

each_stands : (entries : List Entry) (place : ℕ) (change : Rewrite) (packet : Packet) (sealing : List Sealing)
    → AllByRecursion (λ (x : Sent). place_of x ≡ place) (sent_each entries place change packet sealing).0
each_stands [] place change packet sealing = tt
each_stands (e ∷ entries) place change packet sealing =
    let one = sent_to (sealing_of sealing e.serial) e place change packet in
    (output_stands (sealing_of sealing e.serial) e place change packet, each_stands entries place change packet (with_sealing one.1 sealing))

each_counted : (entries : List Entry) (place : ℕ) (change : Rewrite) (packet : Packet) (sealing : List Sealing)
    → length (sent_each entries place change packet sealing).0 ≡ length entries
each_counted [] place change packet sealing = refl
each_counted (e ∷ entries) place change packet sealing =
    let one = sent_to (sealing_of sealing e.serial) e place change packet in
    ap (λ (n : ℕ). suc n) (each_counted entries place change packet (with_sealing one.1 sealing))

one_at : (place : ℕ) (x : Sent) (outputs : List Sent) (there : Bool) → (place_of x == place) ≡ there → length (outputs_at place outputs) ≤ length outputs
    → length (outputs_at place (x ∷ outputs)) ≤ length (x ∷ outputs)
one_at place x outputs true is few = rw is (omega arith)
one_at place x outputs false is few = rw is (omega arith)

at_few : (place : ℕ) (outputs : List Sent) → length (outputs_at place outputs) ≤ length outputs
at_few place [] = omega arith
at_few place (x ∷ outputs) = one_at place x outputs (place_of x == place) refl (at_few place outputs)

none_at : (place other : ℕ) (outputs : List Sent) → AllByRecursion (λ (x : Sent). place_of x ≡ other) outputs → (other ≡ place → ⊥) → outputs_at place outputs ≡ []
none_at place other [] all differ = refl
none_at place other (x ∷ outputs) all differ = rw (ne_eqb (place_of x) place (λ same. differ (sym all.0 ∙ same))) (none_at place other outputs all.1 differ)

both_at : (place : ℕ) (xs ys : List Sent) → length (outputs_at place (xs ++ ys)) ≡ length (outputs_at place xs) + length (outputs_at place ys)
both_at place xs ys =
    ap (λ (l : List Sent). length l) (filter-append (λ (x : Sent). place_of x == place) xs ys) ∙ length-append (outputs_at place xs) (outputs_at place ys)

none_before : (set : List Entry) (first place : ℕ) (batch : List Packet) (change : Rewrite) (only : Option (List (List ℕ))) (sealing : List Sealing) → place < first
    → length (outputs_at place (sent_from 0 1 set first batch change only sealing).0) ≡ 0
none_before set first place [] change only sealing below = refl
none_before set first place (packet ∷ batch) change only sealing below =
    let one = sent_each (recipients 0 1 set only packet) first change packet sealing in
    let more = sent_from 0 1 set (first + 1) batch change only one.1 in
    let none : length (outputs_at place one.0) ≡ 0 =
    ap (λ (l : List Sent). length l) (none_at place first one.0 (each_stands (recipients 0 1 set only packet) first change packet sealing) (λ same. omega arith)) in
    let rest = none_before set (first + 1) place batch change only one.1 (omega arith) in
    both_at place one.0 more.0 ∙ omega arith

-- A packet goes to so many entries at most.
abbrev pub GoesToFew : ℕ → List Entry → Option (List (List ℕ)) → Packet → Type 0
GoesToFew most set only packet = length (recipients 0 1 set only packet) ≤ most

batch_few : (most : ℕ) (set : List Entry) (first place : ℕ) (batch : List Packet) (change : Rewrite) (only : Option (List (List ℕ))) (sealing : List Sealing)
    → AllByRecursion (GoesToFew most set only) batch → length (outputs_at place (sent_from 0 1 set first batch change only sealing).0) ≤ most
batch_few most set first place [] change only sealing few = omega arith
batch_few most set first place (packet ∷ batch) change only sealing few =
    let one = sent_each (recipients 0 1 set only packet) first change packet sealing in
    let more = sent_from 0 1 set (first + 1) batch change only one.1 in
    let both = both_at place one.0 more.0 in
    let own = few.0 in
    let stand = each_stands (recipients 0 1 set only packet) first change packet sealing in
    let rest = batch_few most set (first + 1) place batch change only one.1 few.1 in
    elim (cases_order first place) [
      | inl same ↦
          let within = at_few place one.0 in
          let count = each_counted (recipients 0 1 set only packet) first change packet sealing in
          let none = none_before set (first + 1) place batch change only one.1 (omega arith) in
          omega arith
      | inr other ↦
          let none : length (outputs_at place one.0) ≡ 0 =
          ap (λ (l : List Sent). length l) (none_at place first one.0 stand (λ same. elim other [ inl before ↦ omega arith | inr behind ↦ omega arith ])) in
          omega arith
    ]

pub step_few : (most : ℕ) (set : List Entry) (batch : List Packet) (change : Rewrite) (only : Option (List (List ℕ))) (sealing : List Sealing)
    → AllByRecursion (GoesToFew most set only) batch → FewAtEach most (media_step 0 1 set batch change only sealing).0
unfolding media_step
step_few most set [] change only sealing few place = omega arith
step_few most set (packet ∷ batch) change only sealing few place =
    batch_few most set 0 place (packet ∷ batch) change only (filter (λ (x : Sealing). in_set set x.serial) sealing) few

-- ---- to whom a packet goes

abbrev is_in : Member → Bool
is_in m = m.present

passed : {X : Type 0} (p : X → Bool) (x : X) (xs : List X) → p x ≡ true → filter p (x ∷ xs) ≡ x ∷ filter p xs
passed p x xs is = rw is refl

dropped : {X : Type 0} (p : X → Bool) (x : X) (xs : List X) → p x ≡ false → filter p (x ∷ xs) ≡ filter p xs
dropped p x xs is = rw is refl

size : {X : Type 0} (xs ys : List X) → xs ≡ ys → length xs ≡ length ys
size xs ys same = ap (λ l. length l) same

one_sent : (p : Entry → Bool) (q : Member → Bool) (e : Entry) (m : Member) (es : List Entry) (members : List Member) (goes counted : Bool)
    → p e ≡ goes → q m ≡ counted → (goes ≡ true → counted ≡ true) → length (filter p es) ≤ length (filter q members) → length (filter p (e ∷ es)) ≤ length (filter q (m ∷ members))
one_sent p q e m es members false false sent own then few =
    let left = size _ _ (dropped p e es sent) in
    let right = size _ _ (dropped q m members own) in
    omega arith
one_sent p q e m es members false true sent own then few =
    let left = size _ _ (dropped p e es sent) in
    let right = size _ _ (passed q m members own) in
    omega arith
one_sent p q e m es members true true sent own then few =
    let left = size _ _ (passed p e es sent) in
    let right = size _ _ (passed q m members own) in
    omega arith
one_sent p q e m es members true false sent own then few = let bad : false ≡ true = then refl in absurd (cc)

one_fewer : (p : Entry → Bool) (q : Member → Bool) (e : Entry) (m : Member) (es : List Entry) (members : List Member) (present : Bool)
    → m.present ≡ present → (p e ≡ true → q m ≡ true) → length (filter p es) ≤ length (filter q (filter is_in members))
    → length (filter p (cond present (e ∷ es) es)) ≤ length (filter q (filter is_in (m ∷ members)))
one_fewer p q e m es members false is then few =
    subst (λ (l : List Member). length (filter p es) ≤ length (filter q l)) (sym (dropped is_in m members is)) few
one_fewer p q e m es members true is then few =
    subst (λ (l : List Member). length (filter p (e ∷ es)) ≤ length (filter q l)) (sym (passed is_in m members is))
    (one_sent p q e m es (filter is_in members) (p e) (q m) refl refl then few)

-- Where an entry passes, its member does.
abbrev Passes : (Entry → Bool) → (Member → Bool) → Member → Type 0
Passes p q m = (serial : ℕ) → p (entry_at m serial) ≡ true → q m ≡ true

fewer : (p : Entry → Bool) (q : Member → Bool) (serial : ℕ) (members : List Member) → AllByRecursion (Passes p q) members
    → length (filter p (entries_from serial members)) ≤ length (filter q (filter is_in members))
fewer p q serial [] pass = omega arith
fewer p q serial (m ∷ members) pass =
    one_fewer p q (entry_at m serial) m (entries_from (serial + 1) members) members m.present refl (pass.0 serial)
    (fewer p q (serial + 1) members pass.1)

-- ---- who is named

abbrev is_called : List (List ℕ) → Member → Bool
is_called names m = list_any (λ name. has_name name m) names

abbrev called : List (List ℕ) → List Member → List (List ℕ)
called names members = map (λ (m : Member). m.association) (filter (is_called names) (filter is_in members))

-- A member of these names has the association.
record IsAmong (association : List ℕ) (names : List (List ℕ)) (members : List Member) : Type 0 where
  member : Member
  there : Contains members member
  is : association ≡ member.association
  called : is_called names member ≡ true

among_more : (association : List ℕ) (names : List (List ℕ)) (m : Member) (members : List Member) → IsAmong association names members → IsAmong association names (m ∷ members)
among_more association names m members it =
    let within = it.there.1 in record { member = it.member; there = (suc it.there.0, omega arith, it.there.2); is = it.is; called = it.called }

among_by : (association : List ℕ) (names : List (List ℕ)) (m : Member) (members : List Member) (present named : Bool) → m.present ≡ present → is_called names m ≡ named
    → list_any (bytes_eq association) (called names (m ∷ members)) ≡ true
    → (list_any (bytes_eq association) (called names members) ≡ true → IsAmong association names members) → IsAmong association names (m ∷ members)
among_by association names m members false named is of held rest = among_more association names m members (rest (rw is at held))
among_by association names m members true false is of held rest = among_more association names m members (rest (rw (is, of) at held))
among_by association names m members true true is of held rest =
    elim (or_cases (bytes_eq association m.association) (list_any (bytes_eq association) (called names members)) (rw (is, of) at held)) [
      | inl own ↦ record { member = m; there = (0, omega arith, refl); is = (bytes_eq-Decides association m.association).0 own; called = of }
      | inr more ↦ among_more association names m members (rest more)
    ]

among : (association : List ℕ) (names : List (List ℕ)) (members : List Member) → list_any (bytes_eq association) (called names members) ≡ true → IsAmong association names members
among association names [] held = absurd (cc)
among association names (m ∷ members) held =
    among_by association names m members m.present (is_called names m) refl refl held (λ more. among association names members more)

-- ---- whom a packet of a member goes to

-- The members of a conference, by name, SSRC and association.
pub record AreMembers (members : List Member) : Type 0 where
  pub others : AllPairs AreOthers members
  pub numbered : AreNumbered members
  pub few : length members < 65535

is_another : (members : List Member) (m n : Member) → AreMembers members → Contains members m → Contains members n → bytes_eq n.association m.association ≡ false
    → not (has_name m.name n) ≡ true
is_another members m n are in_m in_n other =
    ap not (false_from_ne_true (has_name m.name n) λ same.
    elim (one_or_others members n m are.others in_n in_m) [
      | inl one ↦ let own = (bytes_eq-Decides n.association m.association).1 (ap (λ (x : Member). x.association) one) in let bad : true ≡ false = sym own ∙ other in absurd (cc)
      | inr two ↦ absurd (two.name (sym ((bytes_eq-Decides m.name n.name).0 same)))
    ])

-- whether a member is counted as a recipient
abbrev is_counted : Member → Option (List (List ℕ)) → Member → Bool
is_counted m to n = not (has_name m.name n) && option_map_or (list_any (λ name. has_name name n)) to true

named_so : (members : List Member) (n : Member) (to : Option (List (List ℕ))) (serial : ℕ) → AreMembers members → Contains members n
    → is_named (option_map (λ (names : List (List ℕ)). called names members) to) (entry_at n serial) ≡ true → option_map_or (list_any (λ name. has_name name n)) to true ≡ true
named_so members n None serial are there is = refl
named_so members n (Some names) serial are there is =
    let it = among n.association names members is in
    let same = same_member members n it.member are.numbered are.few there it.there it.is in
    ap (is_called names) same ∙ it.called

goes_counted : (members : List Member) (m n : Member) (to : Option (List (List ℕ))) (source : List ℕ) → AreMembers members → Contains members m → Contains members n → source ≡ m.association
    → Passes (λ e. is_owned 0 1 e && not (is_of source e) && is_named (option_map (λ (names : List (List ℕ)). called names members) to) e) (is_counted m to) n
goes_counted members m n to source are in_m in_n is serial passes =
    let only = option_map (λ (names : List (List ℕ)). called names members) to in
    let e : Entry = entry_at n serial in
    let parts = and_parts (is_owned 0 1 e && not (is_of source e)) (is_named only e) passes in
    let other = and_parts (is_owned 0 1 e) (not (is_of source e)) parts.0 in
    let another : bytes_eq n.association m.association ≡ false = ap (bytes_eq n.association) (sym is) ∙ not-true (is_of source e) other.1 in
    and_from (not (has_name m.name n)) (option_map_or (list_any (λ name. has_name name n)) to true) (is_another members m n are in_m in_n another)
    (named_so members n to serial are in_n parts.1)

-- A packet of a member goes to no more entries than members are counted.
goes_to_few : (s : State) (m : Member) (to : Option (List (List ℕ))) (packet : Packet) → AreMembers s.members → s.set ≡ entries_from 0 s.members → Contains s.members m
    → source_of packet ≡ m.association → GoesToFew (count_recipients s m to) s.set (option_map (associations_of s) to) packet
goes_to_few s m to packet are set there is =
    let p : Entry → Bool = λ e. is_owned 0 1 e && not (is_of (source_of packet) e) && is_named (option_map (associations_of s) to) e in
    let count = fewer p (is_counted m to) 0 s.members (recursion_from_All (Passes p (is_counted m to)) s.members
    (λ k d within. goes_counted s.members m (get_or s.members k d) to (source_of packet) are there (Contains-get_or s.members k d within) is)) in
    subst (λ (es : List Entry). length (filter p es) ≤ count_recipients s m to) (sym set) count

-- ---- what is opened

-- It is of this association, if it is opened.
abbrev IsFrom : List ℕ → Result Packet InboundFault → Type 0
IsFrom from (Ok packet) = source_of packet ≡ from
IsFrom from (Err f) = Unit {0}

reach_from : (set : List Entry) (heard : List Heard) (e : Entry) (reach : Reach) (from : List ℕ) → e.association ≡ from → IsFrom from (taken_reach set heard e reach).0
reach_from set heard e (outer.Refused f) from is = tt
reach_from set heard e (outer.Blocked ssrc index f) from is = tt
reach_from set heard e (outer.Reached o) from is = is

control_from : (set : List Entry) (heard : List Heard) (e : Entry) (opened : Result (ℕ × List ℕ) RtcpFault) (from : List ℕ) → e.association ≡ from
    → IsFrom from (taken_control set heard e opened).0
control_from set heard e (Err f) from is = tt
control_from set heard e (Ok opened) from is = is

kind_from : (set : List Entry) (heard : List Heard) (kind : Carried) (entry : Option Entry) (octets from : List ℕ) → ((e : Entry) → entry ≡ Some e → e.association ≡ from)
    → IsFrom from (taken_of set heard kind entry octets).0
kind_from set heard carried.Dtls entry octets from is = tt
kind_from set heard carried.Other entry octets from is = tt
kind_from set heard carried.Rtp None octets from is = tt
kind_from set heard carried.Rtcp None octets from is = tt
kind_from set heard carried.Rtp (Some e) octets from is =
    reach_from set heard e (reached (session_keys e.client Srtp) None (heard_of heard e.serial).streams octets) from (is e refl)
kind_from set heard carried.Rtcp (Some e) octets from is =
    control_from set heard e (rtcp_opened (session_keys e.client Srtcp) (heard_of heard e.serial).rtcp octets) from (is e refl)

taken_from : (set : List Entry) (heard : List Heard) (from octets : List ℕ) → IsFrom from (taken set heard from octets).0
unfolding taken
taken_from set heard from octets =
    kind_from set heard (kind_of octets) (entry_of set from) octets from
    (λ e found. (bytes_eq-Decides e.association from).0 (found_of (is_of from) set e found).1)

one_from : (number : ℕ) (result : Result Packet InboundFault) (list : List Taking) (from : List ℕ) → IsFrom from result
    → AllByRecursion (λ (x : Packet). source_of x ≡ from) (filter_map packet_in list)
    → AllByRecursion (λ (x : Packet). source_of x ≡ from) (filter_map packet_in (record { number = number; result = result } ∷ list))
one_from number (Ok packet) list from is rest = (is, rest)
one_from number (Err f) list from is rest = rest

packets_from : (set : List Entry) (heard : List Heard) (from : List ℕ) (list : List (ℕ × Datagram))
    → AllByRecursion (λ (x : Packet). source_of x ≡ from) (filter_map packet_in (takings set heard from list).0)
packets_from set heard from [] = tt
packets_from set heard from (d ∷ list) =
    let one = taken set heard from d.1.octets in
    one_from d.0 one.0 (takings set one.1 from list).0 from (taken_from set heard from d.1.octets) (packets_from set one.1 from list)

takings_counted : (set : List Entry) (heard : List Heard) (from : List ℕ) (list : List (ℕ × Datagram)) → length (takings set heard from list).0 ≡ length list
takings_counted set heard from [] = refl
takings_counted set heard from (d ∷ list) = ap (λ (n : ℕ). suc n) (takings_counted set (taken set heard from d.1.octets).1 from list)

numbered_few : (datagrams : List Datagram) (numbers : List ℕ) → length (numbered datagrams numbers) ≤ length numbers
numbered_few datagrams [] = omega arith
numbered_few datagrams (n ∷ numbers) = at (datagram_at datagrams n) (numbered_few datagrams numbers) where
  at : (d : Option Datagram) → length (numbered datagrams numbers) ≤ length numbers
      → length (cons_option (option_map (λ (x : Datagram). (n, x)) d) (numbered datagrams numbers)) ≤ length (n ∷ numbers)
  at None few = omega arith
  at (Some d) few = omega arith

-- ---- the line

few_by : (P Q : Packet → Type 0) (packets : List Packet) → ((x : Packet) → P x → Q x) → AllByRecursion P packets → AllByRecursion Q packets
few_by P Q [] goes all = tt
few_by P Q (x ∷ packets) goes all = (goes x all.0, few_by P Q packets goes all.1)

-- A forward makes no more datagrams than its list has numbers, times the members that it goes to.
pub forward_few : (s : State) (m : Member) (numbers : List ℕ) (change : Rewrite) (to : Option (List (List ℕ))) → AreMembers s.members → s.set ≡ entries_from 0 s.members
    → Contains s.members m
    → let opened = takings s.set s.heard m.association (numbered s.datagrams numbers) in
    let step = media_step 0 1 s.set (filter_map packet_in opened.0) change (option_map (associations_of s) to) s.sealing in
    length (reported_takings s.members change step.0 0 s.datagrams opened.0).1 ≤ length s.datagrams + length numbers * count_recipients s m to
forward_few s m numbers change to are set there =
    let list : List (ℕ × Datagram) = numbered s.datagrams numbers in
    let opened = takings s.set s.heard m.association list in
    let most : ℕ = count_recipients s m to in
    let only = option_map (associations_of s) to in
    let step = media_step 0 1 s.set (filter_map packet_in opened.0) change only s.sealing in
    let few = step_few most s.set (filter_map packet_in opened.0) change only s.sealing
    (few_by (λ (x : Packet). source_of x ≡ m.association) (GoesToFew most s.set only) (filter_map packet_in opened.0)
    (λ x is. goes_to_few s m to x are set there is) (packets_from s.set s.heard m.association list)) in
    let made = takings_made s.members change step.0 0 s.datagrams opened.0 most few in
    let counted = takings_counted s.set s.heard m.association list in
    let fewer = numbered_few s.datagrams numbers in
    let times : length opened.0 * most ≤ length numbers * most = mul-le-mul_right most (omega arith) in
    omega arith
