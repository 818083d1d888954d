-- Each round of a generated script passes.
use Rattle.std.proofs.Common.{◌≡◌, ℕ, zero, suc, ◌+◌, ◌-◌, ◌*◌, ◌%◌, ◌^◌, ◌<◌, ◌≤◌, Bool, true, false, cond, List, [], ◌∷◌, ◌++◌, length, Option, Some, None, Result, Ok, Err, refl, sym, ap, subst, ◌∙◌, arith}
use Rattle.std.specs.Prelude.{◌==◌, codes, nat_le, replicate}
use Rattle.std.specs.List.{AllByRecursion, slice_get}
use Rattle.std.proofs.lemmas.Bool.{lt-leb, ne_eqb}
use Rattle.std.proofs.lemmas.List.{length_push}
use Rattle.byteorder.specs.Endian.{big_bytes}
use Rattle.perc_ohb.specs.Rewriting.{Rewrite}
use Rattle.perc_double.specs.Double.{nothing_kept, relayed, relayed_length}
use Rattle.perc_ekt.specs.Field.{spelling}
use Rattle.perc_keyset.specs.declared.Entry.{Entry}
use Rattle.perc_outer.specs.Streams.{OuterStream, accepted_of, is_full_for, with_index}
use Rattle.perc_srtp.specs.Streams.{tx_index}
use Rattle.perc_outgoing.specs.Sending.{Outgoing, outer_index, sent_header, sent_inner, sent_row, sent_wraps}
use Rattle.perc_outgoing.proofs.Standing.{free_outer}
use Rattle.perc_receiver.specs.Table.{Secret}
use Rattle.perc_rtp.specs.Media.{Content}
use Rattle.perc_distributor.specs.Inbound.{in_set}
use Rattle.perc_distributor.specs.Forwarding.{Sealing, media_index, sealing_of}
use Rattle.perc_script_line.specs.Script.{Changes, Deliver, Forward, Rekey, Script, Send, script_of, script_text}
use Rattle.perc_script_line.specs.declared.reason.Reason.{Reason}
use Rattle.perc_report_line.specs.Report.{Report}
use Rattle.perc_run.specs.State.{Datagram, Goes, Halts, Member, Refused, State, Turn, datagram_at, most_datagrams, nobody}
use Rattle.perc_run.specs.Sending.{content_of, send_turn, sent_by, with_send}
use Rattle.perc_run.specs.Forwarding.{rewrite_by}
use Rattle.perc_run.specs.Delivering.{Judge, by_cipher}
use Rattle.perc_run.specs.Report.{turn_at}
use Rattle.perc_run.specs.Sound.{IsOrderly}
use Rattle.perc_run.specs.Turn.{turn}
use Rattle.perc_generator.specs.Generator.{Roles, changes_of, no_options, opening, roles_of, round_lines}
use Rattle.perc_generated.proofs.Reading.{IsLine, OneSpelling, opening_is, round_is}
use Rattle.perc_generated.proofs.Passing.{Behind, KeepsRounds, Passes, behind_map}
use Rattle.perc_generated.proofs.Opened.{Parts, begun, entries, entry, member, opening_passes, secret, state_of}
use Rattle.perc_generated.proofs.Between.{Ann, Bob, Cat, Has, View, Who, deliver_has, member_of, name_of, rekey_has, view_of}
use Rattle.perc_generated.proofs.Relay.{HasPlaces, IsForwarded, first_of, forward_is, in_entries, sealed_for, second_of}
use Rattle.perc_generated.proofs.Streams.{Hears, Holds, heard_more, holds_room, place_is, sealing_in_entries, sealing_old, shifted}
use Rattle.perc_generated.proofs.Sent.{IsPlain, Sender, content_at, field_spells, size_is, taken_is}
use Rattle.perc_generated.proofs.Kept.{IsBetween, keeps_between, shifted_free, ssrc_of, view_more}

-- ---- who sends

abbrev pub own_entry : Who → Entry
own_entry Ann = entry 1 0 160
own_entry Bob = entry 2 1 176
own_entry Cat = entry 3 2 192

abbrev pub out_of : Who → Parts → Outgoing
out_of who p = (member_of who p).endpoint.sending

one_secret : (b : Bool) (x y : Secret) → cond b (Some x) None ≡ Some y → x ≡ y
one_secret true x y is = cc
one_secret false x y is = absurd (cc)

pub record MaySend (who : Who) (p : Parts) : Type 0 where
  pub sender : Sender (out_of who p) (own_entry who)
  pub ssrc : (out_of who p).sending.ssrc ≡ ssrc_of who

pub may_send : (who : Who) (p : Parts) → IsOrderly (state_of p) → MaySend who p
may_send Ann p o =
    let m = o.sound.members 0 (member_of Ann p) (omega arith) in
    let size = m.sending.size in
    let same = one_secret (1 == p.ann.sending.secret.spi) secret p.ann.sending.secret m.secret in
    let few = m.few in
    let made = o.few_datagrams in record {
      sender = record { is = m.sending; client = o.clients 0 (member_of Ann p) (omega arith); key = size ∙ sym (ap (λ (s : Secret). length s.key) same); few = omega arith };
      ssrc = m.sender;
    }
may_send Bob p o =
    let m = o.sound.members 1 (member_of Bob p) (omega arith) in
    let size = m.sending.size in
    let same = one_secret (1 == p.bob.sending.secret.spi) secret p.bob.sending.secret m.secret in
    let few = m.few in
    let made = o.few_datagrams in record {
      sender = record { is = m.sending; client = o.clients 1 (member_of Bob p) (omega arith); key = size ∙ sym (ap (λ (s : Secret). length s.key) same); few = omega arith };
      ssrc = m.sender;
    }
may_send Cat p o =
    let m = o.sound.members 2 (member_of Cat p) (omega arith) in
    let size = m.sending.size in
    let same = one_secret (1 == p.cat.sending.secret.spi) secret p.cat.sending.secret m.secret in
    let few = m.few in
    let made = o.few_datagrams in record {
      sender = record { is = m.sending; client = o.clients 2 (member_of Cat p) (omega arith); key = size ∙ sym (ap (λ (s : Secret). length s.key) same); few = omega arith };
      ssrc = m.sender;
    }

-- ---- a send

abbrev pub sent_parts : Who → Parts → Content → Parts
sent_parts who p c = at who (record p {
  table = record { rows = p.table.rows ++ sent_row (name_of who) (length p.datagrams + 1) (out_of who p) c ∷ []; wraps = p.table.wraps ++ sent_wraps (out_of who p) };
  datagrams = p.datagrams ++ sent_by (member_of who p) c ∷ [];
}) where
  at : Who → Parts → Parts
  at Ann q = record q { ann = (with_send (member_of Ann p)).endpoint }
  at Bob q = record q { bob = (with_send (member_of Bob p)).endpoint }
  at Cat q = record q { cat = (with_send (member_of Cat p)).endpoint }

by_limit : (P : State → Type 0) (full : Bool) (reason : Reason) (lines : List Report) (next : State) → full ≡ false → P next → Behind (cond full (Refused reason) (Goes lines next)) P
by_limit P true reason lines next room is = absurd (cc)
by_limit P false reason lines next room is = is

pub send_is : (P : State → Type 0) (who : Who) (p : Parts) (pt : ℕ) (marker : Bool) (timestamp : ℕ) (payload : List ℕ) → length p.datagrams < most_datagrams
    → P (state_of (sent_parts who p (content_at pt marker timestamp payload))) → Behind (turn by_cipher (state_of p) (Send (name_of who) pt marker timestamp payload no_options)) P
unfolding turn send_turn
send_is P Ann p pt marker timestamp payload room is = by_limit P (nat_le most_datagrams (length p.datagrams)) _ _ _ (lt-leb most_datagrams (length p.datagrams) room) is
send_is P Bob p pt marker timestamp payload room is = by_limit P (nat_le most_datagrams (length p.datagrams)) _ _ _ (lt-leb most_datagrams (length p.datagrams) room) is
send_is P Cat p pt marker timestamp payload room is = by_limit P (nat_le most_datagrams (length p.datagrams)) _ _ _ (lt-leb most_datagrams (length p.datagrams) room) is

-- ---- and its forward

last_at : (datagrams : List Datagram) (d : Datagram) → slice_get (datagrams ++ d ∷ []) (length datagrams) ≡ Some d
last_at [] d = refl
last_at (x ∷ datagrams) d = last_at datagrams d

pub last_datagram : (datagrams : List Datagram) (d : Datagram) (n : ℕ) → n ≡ length datagrams + 1 → datagram_at (datagrams ++ d ∷ []) n ≡ Some d
last_datagram datagrams d n is =
    let place : n - 1 ≡ length datagrams = omega arith in
    ap (λ (b : Bool). cond b None (slice_get (datagrams ++ d ∷ []) (n - 1))) (ne_eqb n 0 (λ same. omega arith)) ∙ ap (slice_get (datagrams ++ d ∷ [])) place ∙ last_at datagrams d

-- a change as a round says it
pub record IsShift (change : Rewrite) : Type 0 where
  pub seven : change.shift ≡ 7
  pub none : change.extension ≡ None

-- what one of the two others has of the sender's stream
pub record Takes (streams : List OuterStream) (ssrc : ℕ) (sealed : List ℕ) : Type 0 where
  pub room : is_full_for streams ssrc ≡ false
  pub accepted : accepted_of streams ssrc ≡ shifted sealed

pub place_at : (who : Who) (p : Parts) (may : MaySend who p) (streams : List OuterStream) (pt : ℕ) (marker : Bool) (timestamp : ℕ) (payload : List ℕ) (change : Rewrite) → IsPlain pt timestamp payload
    → IsShift change → ((out_of who p).sealed ≡ [] → (out_of who p).sending.next ≡ 65400) → Takes streams (ssrc_of who) (out_of who p).sealed
    → let out = out_of who p in
    let c = content_at pt marker timestamp payload in
    media_index streams (sent_header out c) (sent_inner out c) nothing_kept (field_spells out (own_entry who) may.sender).field change ≡ Ok (outer_index out + 7)
place_at who p may streams pt marker timestamp payload change plain shift first takes =
    let out = out_of who p in
    let c = content_at pt marker timestamp payload in
    let own = may.ssrc in
    let few = may.sender.few in
    place_is streams (sent_header out c) (sent_inner out c) nothing_kept (field_spells out (own_entry who) may.sender).field change (outer_index out + 7)
    (ap (is_full_for streams) own ∙ takes.room) (size_is out (own_entry who) pt marker timestamp payload may.sender change plain shift.none)
    (
    ap (λ (xs : List ℕ). tx_index xs (relayed (sent_header out c) change).seq) (ap (accepted_of streams) own ∙ takes.accepted)
    ∙ ap (λ (k : ℕ). tx_index (shifted out.sealed) ((out.sending.next % 65536 + k) % 65536)) shift.seven ∙ shifted_free out may.sender.is first (omega arith)
    )

pub takes_in : (sealing : List Sealing) (t ssrc : ℕ) (sealed : List ℕ) → in_set entries t ≡ true
    → Takes (sealing_of sealing t).streams ssrc sealed → Takes (sealing_of (in_entries sealing) t).streams ssrc sealed
takes_in sealing t ssrc sealed there is =
    subst (λ (s : Sealing). Takes s.streams ssrc sealed) (sym (sealing_in_entries sealing t there)) is

pub takes_behind : (sealing : List Sealing) (e : Entry) (of index t ssrc : ℕ) (sealed : List ℕ) → in_set entries t ≡ true → (t ≡ e.serial → ⊥) → Takes (sealing_of sealing t).streams ssrc sealed
    → Takes (sealing_of (sealed_for (in_entries sealing) e of index) t).streams ssrc sealed
takes_behind sealing e of index t ssrc sealed there differ is =
    subst (λ (s : Sealing). Takes s.streams ssrc sealed) (sym (sealing_old (in_entries sealing) e of index t differ)) (takes_in sealing t ssrc sealed there is)

-- what the state has of a sender before its send
pub record IsReady (who : Who) (p : Parts) : Type 0 where
  pub hears : Hears p.heard (own_entry who).serial (ssrc_of who) (out_of who p).sealed
  pub one : Takes (sealing_of p.sealing (first_of who).serial).streams (ssrc_of who) (out_of who p).sealed
  pub two : Takes (sealing_of p.sealing (second_of who).serial).streams (ssrc_of who) (out_of who p).sealed
  pub first : (out_of who p).sealed ≡ [] → (out_of who p).sending.next ≡ 65400

pub is_ready : (who : Who) (p : Parts) (made : ℕ) → IsBetween made (view_of p) → IsReady who p
is_ready Ann p made b = record {
  hears = b.ann_heard;
  one = record { room = holds_room _ 1 3 1 _ _ b.bob_gets; accepted = b.bob_gets.first };
  two = record { room = holds_room _ 1 2 1 _ _ b.cat_gets; accepted = b.cat_gets.first };
  first = b.ann_first;
}
is_ready Bob p made b = record {
  hears = b.bob_heard;
  one = record { room = holds_room _ 2 3 2 _ _ b.ann_gets; accepted = b.ann_gets.first };
  two = record { room = holds_room _ 1 2 2 _ _ b.cat_gets; accepted = b.cat_gets.second };
  first = b.bob_first;
}
is_ready Cat p made b = record {
  hears = b.cat_heard;
  one = record { room = holds_room _ 2 3 3 _ _ b.ann_gets; accepted = b.ann_gets.second };
  two = record { room = holds_room _ 1 3 3 _ _ b.bob_gets; accepted = b.bob_gets.second };
  first = b.cat_first;
}
