-- What an output is, of what was taken.
use Rattle.std.proofs.Common.{◌≡◌, ℕ, zero, suc, ◌+◌, ◌-◌, ◌≤◌, ◌<◌, true, false, List, [], ◌∷◌, ◌++◌, length, take, drop, Some, None, slice_get, map, refl, sym, ap, subst, ◌∙◌, append_assoc, arith}
use Rattle.std.specs.Prelude.{IfSome, All, filter_map, Option, IsTrue}
use Rattle.std.specs.List.{list_any}
use Rattle.std.specs.Option.{option_map}
use Rattle.std.specs.Str.{bytes_eq}
use Rattle.std.proofs.lemmas.List.{length-append, length-drop, length-take}
use Rattle.std.proofs.lemmas.Option.{slice_get-map, slice_get_within, same_Some}
use Rattle.perc_ekt.specs.Field.{Field, spelling}
use Rattle.perc_ekt.proofs.Octets.{behind}
use Rattle.perc_rtp.specs.Header as header
use Rattle.perc_rtp.specs.Header.{Header, IsPacket}
use Rattle.perc_ohb.specs.declared.block.Ohb.{Ohb}
use Rattle.perc_ohb.specs.Rewriting.{Rewrite, block_after, rewrite_of}
use Rattle.perc_double.specs.Double.{IsOpened, opened, relayed}
use Rattle.perc_distributor.specs.Forwarding.{Sent, Sealed, Dropped}
use Rattle.perc_distributor.specs.Inbound.{Packet, Media, Control}
use Rattle.perc_distributor.specs.Kept.{ArePlain, IsMedia, IsPlain, IsWhole, sent_of}
use Rattle.perc_distributor.specs.declared.plain.Plain.{Plain}
use Rattle.perc_distributor.specs.declared.outputs.Output.{Output}
use Rattle.perc_distributor.specs.declared.outputs.Output.TheVariants as output
use Rattle.perc_member.specs.Each.{MirrorsUnsealed, MirrorsUnsealeds}
use Rattle.perc_member.specs.declared.datagram.Unsealed.{Unsealed}
use Rattle.perc_run.specs.Forwarding.{Taking, packet_in, place_of, unsealed_of}
use Rattle.perc_run.specs.State.{Member}
use Rattle.perc_forward_line.specs.declared.outputs.Telling.{Telling}
use Rattle.perc_forward_line.specs.Telling.{IsOutputOf, IsSealedOf, IsTelling, is_known, to_of}
use Rattle.perc_forward_line.proofs.Lists.{all_at, slice_get_some}
use Rattle.perc_forward_line.proofs.Lookups.{any_known}

-- ---- the packets of a batch

pub plain_length : (batch : List Plain) (packets : List Packet) → ArePlain batch packets → length batch ≡ length packets
plain_length [] [] are = refl
plain_length [] (packet ∷ packets) are = absurd are
plain_length (b ∷ batch) [] are = absurd are
plain_length (b ∷ batch) (packet ∷ packets) are = ap suc (plain_length batch packets are.1)

pub plain_at : (batch : List Plain) (packets : List Packet) (i : ℕ) (p : Plain) (packet : Packet) → ArePlain batch packets
    → slice_get batch i ≡ Some p → slice_get packets i ≡ Some packet → IsPlain p packet
plain_at [] packets i p packet are f g = absurd cc
plain_at (b ∷ batch) [] i p packet are f g = absurd are
plain_at (b ∷ batch) (x ∷ packets) zero p packet are f g =
    subst (λ (q : Plain). IsPlain q packet) (same_Some _ _ f) (subst (λ (y : Packet). IsPlain b y) (same_Some _ _ g) are.0)
plain_at (b ∷ batch) (x ∷ packets) (suc i) p packet are f g = plain_at batch packets i p packet are.1 f g

-- a packet that stands in a place of the batch
pub record PacketAt (taken : List Taking) (place : ℕ) (p : Plain) : Type 0 where
  pub packet : Packet
  pub there : slice_get (filter_map packet_in taken) place ≡ Some packet
  pub is : IsPlain p packet

pub packet_at : (taken : List Taking) (batch : List Plain) (place : ℕ) (p : Plain) → ArePlain batch (filter_map packet_in taken) → slice_get batch place ≡ Some p → PacketAt taken place p
packet_at taken batch place p are at =
    let packets = filter_map packet_in taken in
    let within : place < length packets = omega (arith, slice_get_within batch place p at, plain_length batch packets are) in
    let there = slice_get_some packets place within in
    record { packet = there.0; there = there.1; is = plain_at batch packets place p there.0 are at there.1 }

-- ---- an output

pub sent_at : (t : Telling) (members : List Member) (taken : List Taking) (sent : List Sent) (output : Output) (i : ℕ)
    → IsTelling t members taken sent → slice_get t.distributor.now.outputs i ≡ Some output
    → slice_get sent i ≡ Some (sent_of output)
sent_at t members taken sent output i is at =
    ap (λ (xs : List Sent). slice_get xs i) (sym is.outputs) ∙ slice_get-map sent_of t.distributor.now.outputs i ∙ ap (option_map sent_of) at

-- it is for a member
pub known_at : (t : Telling) (members : List Member) (taken : List Taking) (sent : List Sent) (output : Output) (i : ℕ)
    → IsTelling t members taken sent → slice_get t.distributor.now.outputs i ≡ Some output
    → IsTrue (list_any (λ m. bytes_eq (to_of (sent_of output)) m.association) t.members.now)
known_at t members taken sent output i is at =
    any_known t.members.now members (to_of (sent_of output)) is.members_are
    ∙ all_at (λ (x : Sent). is_known members x ≡ true) sent i (sent_of output) is.right.known (sent_at t members taken sent output i is at)

-- it has at most 1500 octets
pub few_octets : (o : Output) (at : ℕ) (to octets : List ℕ) (len : ℕ) → o ≡ output.Sealed at to octets len → IsWhole o → length (take len octets) ≤ 1500
few_octets o at to octets len sealed whole =
    let few : len ≤ 1500 = subst IsWhole sealed whole in
    omega (arith, length-take len octets)

same_place : (change : Rewrite) (packets : List Packet) (place at : ℕ) (to octets : List ℕ) (packet : Packet) → at ≡ place
    → IsOutputOf change packets (Sealed at to octets) → slice_get packets place ≡ Some packet → IsSealedOf change packet octets
same_place change packets place at to octets packet same is there =
    subst (λ (o : Option Packet). IfSome o (λ (x : Packet). IsSealedOf change x octets)) (ap (slice_get packets) same ∙ there) is

-- and one of its packet
pub sealed_at : (t : Telling) (members : List Member) (taken : List Taking) (sent : List Sent) (o : Output) (i place at : ℕ) (to octets : List ℕ) (len : ℕ) (packet : Packet)
    → IsTelling t members taken sent
    → slice_get t.distributor.now.outputs i ≡ Some o → o ≡ output.Sealed at to octets len → place_of (sent_of o) ≡ place → slice_get (filter_map packet_in taken) place ≡ Some packet
    → IsSealedOf (rewrite_of t.change.now) packet (take len octets)
sealed_at t members taken sent o i place at to octets len packet is there sealed of_place here =
    let change = rewrite_of t.change.now in
    let packets = filter_map packet_in taken in
    let one = all_at (IsOutputOf change packets) sent i (sent_of o) is.right.of_batch (sent_at t members taken sent o i is there) in
    same_place change packets place at to (take len octets) packet (ap (λ (x : Output). place_of (sent_of x)) (sym sealed) ∙ of_place)
    (subst (λ (x : Output). IsOutputOf change packets (sent_of x)) sealed one) here

-- ---- what was sealed

-- the field's length is told
field_length : (p : Plain) (from : List ℕ) (h : Header) (inner : List ℕ) (o : Ohb) (field : Field) → IsMedia p from h inner o field → length p.octets ≡ 1500 → length (spelling field) ≡ p.field
field_length p from h inner o field is room =
    let same : length (drop (p.len - p.field) (take p.len p.octets)) ≡ length (spelling field) = ap (λ (xs : List ℕ). length xs) is.field_octets in
    omega (arith, length-take p.len p.octets, length-drop (p.len - p.field) (take p.len p.octets), is.field_within, is.within)

-- what the code keeps of a packet that was sent on
pub unsealed_mirrors : (p : Plain) (change : Rewrite) (opened : Packet) (datagram : List ℕ) (u : Unsealed) → p.rtcp ≡ false → length p.octets ≡ 1500 → length datagram ≤ 1500
    → IsPlain p opened → IsSealedOf change opened datagram → u.field ≡ p.field
    → ((h : Header) (inner : List ℕ) (o : Ohb) (rest : List ℕ) → IsOpened h inner o (take (p.len - p.field) p.octets) → IsPacket (relayed h change) rest datagram → IsOpened (relayed h change) inner (block_after h o change) u.packet.items)
    → MirrorsUnsealeds datagram (Some u) (unsealed_of change opened)
unsealed_mirrors p change (Media from h inner o field) datagram u media room few is sealed same opens =
    let front = header.spelling (relayed h change) ++ sealed.0 in
    let parts : datagram ≡ front ++ spelling field = sealed.2.octets ∙ sym (append_assoc (header.spelling (relayed h change)) sealed.0 (spelling field)) in
    let size : length (spelling field) ≡ u.field = field_length p from h inner o field is room ∙ sym same in
    let packet = opens h inner o (sealed.0 ++ spelling field) is.packet sealed.2 in
    let whole = ap (λ (xs : List ℕ). length xs) packet.reads.octets in
    let body : List ℕ = opened inner (block_after h o change) in
    record {
      packet = packet;
      few = omega (arith, whole, length-append (header.spelling (relayed h change)) body, sealed.1, ap (λ (xs : List ℕ). length xs) parts, length-append front (spelling field), length-append (header.spelling (relayed h change)) sealed.0, few);
      field = behind front (spelling field) datagram u.field parts size;
      within = omega (arith, ap (λ (xs : List ℕ). length xs) parts, length-append front (spelling field));
    }
unsealed_mirrors p change (Control from octets) datagram u media room few is sealed same opens =
    let other : false ≡ true = sym media ∙ is.kind in
    absurd cc
