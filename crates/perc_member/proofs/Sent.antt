-- What a member of the code is once it sent.
use Rattle.std.proofs.Common.{◌≡◌, ℕ, suc, ◌+◌, ◌-◌, ◌%◌, ◌^◌, ◌<◌, ◌≤◌, List, [], ◌∷◌, ◌++◌, length, map, take, get_or, set, Some, None, Ok, Err, Vec, Global, refl, sym, ap, subst, ◌∙◌, arith}
use Rattle.std.specs.Prelude.{Option, IfSome, MatchOption}
use Rattle.std.specs.List.{last_or}
use Rattle.std.specs.Option.{option_map_or, unwrap_or}
use Rattle.std.proofs.lemmas.List.{length-append, length-take}
use Rattle.perc_kdf.specs.Derivation.{KeyAndSalt, session_keys}
use Rattle.perc_kdf.specs.declared.Kind.TheVariants.{Srtp}
use Rattle.perc_window.specs.Index.{nearest}
use Rattle.perc_window.specs.Replay.{greatest}
use Rattle.perc_srtp.proofs.PacketLaws.{nearest_next}
use Rattle.perc_rtp.specs.Header.{IsHeader}
use Rattle.perc_rtp.specs.Media.{Content, header_of, media_fault}
use Rattle.perc_double.specs.Double.{nothing_kept}
use Rattle.perc_sender.specs.Schedule.{Sending, Taken, after_packet, roll_over}
use Rattle.perc_outgoing.specs.declared.sending.Sent.{Sent}
use Rattle.perc_outgoing.specs.declared.fault.SendFault.{SendFault}
use Rattle.perc_outgoing.specs.Sending.{IsSending, Outgoing, after_send, next_place, outer_index, send_fault, sent_datagram, sent_field, sent_header, sent_inner}
use Rattle.perc_outgoing.proofs.Datagrams.{send_none}
use Rattle.perc_outgoing.proofs.Standing.{free_outer}
use Rattle.perc_endpoint.specs.Endpoint.{departing, sent}
use Rattle.perc_endpoint.specs.Kept as endpoint
use Rattle.perc_endpoint.specs.Kept.{IsDeparture, IsSentAs}
use Rattle.perc_run.specs.State.{Member, Unsealed}
use Rattle.perc_run.specs.Sending.{sent_by, with_send}
use Rattle.perc_member.specs.declared.datagram.Datagram as code_datagram
use Rattle.perc_member.specs.declared.datagram.Unsealed as code_unsealed
use Rattle.perc_member.specs.declared.member.Member as code_member
use Rattle.perc_member.specs.declared.member.Span.{Span}
use Rattle.perc_member.specs.declared.member.TakenKey.{TakenKey}
use Rattle.perc_member.specs.declared.opening.Opening.{Opening}
use Rattle.perc_member.specs.Each.{CountsFrom, EndsAt, MirrorsMember, MirrorsUnsealed, RunsUpTo, taken_in}
use Rattle.perc_member.specs.Making.{MaySend, OpensAs, SendsNext}
use Rattle.perc_member.specs.Taken.{with_sent, with_sent_last}
use Rattle.perc_member.proofs.Keys.{some_same}

-- ---- the keys

set_last : (index : ℕ) (x k : TakenKey) (keys : List TakenKey) → k ≡ get_or (x ∷ keys) (length keys) k
    → set (x ∷ keys) (length keys) (with_sent index k) ≡ with_sent_last index (x ∷ keys)
set_last index x k [] is = ap (λ (y : TakenKey). with_sent index y ∷ []) is
set_last index x k (y ∷ keys) is = ap (λ (ys : List TakenKey). x ∷ ys) (set_last index y k keys is)

-- a packet went out under the last of the keys
pub last_set : (index n : ℕ) (keys : List TakenKey) (k new : TakenKey) → n ≡ length keys → 0 < length keys → k ≡ get_or keys (n - 1) k → new ≡ with_sent index k
    → set keys (n - 1) new ≡ with_sent_last index keys
last_set index n [] k new n_is some is new_is = absurd (omega arith)
last_set index n (x ∷ keys) k new n_is some is new_is =
    let at : n - 1 ≡ length keys = omega arith in
    ap (λ (y : TakenKey). set (x ∷ keys) (n - 1) y) new_is
    ∙ ap (λ (i : ℕ). set (x ∷ keys) i (with_sent index k)) at
    ∙ set_last index x k keys (is ∙ ap (λ (i : ℕ). get_or (x ∷ keys) i k) at)

same_keys : (index : ℕ) (keys : List TakenKey) → map taken_in (with_sent_last index keys) ≡ map taken_in keys
same_keys index [] = refl
same_keys index (k ∷ []) = refl
same_keys index (k ∷ l ∷ keys) = ap (λ (xs : List Taken). taken_in k ∷ xs) (same_keys index (l ∷ keys))

ends_at_last : (index next : ℕ) (o : Option TakenKey) (x : TakenKey) (keys : List TakenKey) → next ≡ index + 1
    → EndsAt next (last_or o (with_sent_last index (x ∷ keys)))
ends_at_last index next o x [] is = sym is
ends_at_last index next o x (y ∷ keys) is = ends_at_last index next (Some x) y keys is

ends_at : (index next before : ℕ) (keys : List TakenKey) → EndsAt before (last_or None keys) → next ≡ index + 1
    → EndsAt next (last_or None (with_sent_last index keys))
ends_at index next before [] some is = absurd some
ends_at index next before (k ∷ keys) some is = ends_at_last index next None k keys is

order_at : (sending : Sending) (o : Option Span) (index : ℕ) → index ≡ sending.next → IfSome o (λ span. span.last + 1 ≡ sending.next)
    → MatchOption o (sending.number ≡ 0) (RunsUpTo sending) → option_map_or (λ span. span.first) o index ≤ index
order_at sending None index is ends counts = omega arith
order_at sending (Some span) index is ends counts = let order = counts.order in omega arith

counts_at_last : (sending : Sending) (index : ℕ) (o : Option TakenKey) (x : TakenKey) (keys : List TakenKey) → index ≡ sending.next
    → EndsAt sending.next (last_or o (x ∷ keys)) → CountsFrom sending (last_or o (x ∷ keys)) → CountsFrom (after_packet sending) (last_or o (with_sent_last index (x ∷ keys)))
counts_at_last sending index o x [] is ends counts =
    record { order = order_at sending x.sent index is ends counts; before = ap (λ (n : ℕ). Some (roll_over n)) (sym is) }
counts_at_last sending index o x (y ∷ keys) is ends counts = counts_at_last sending index (Some x) y keys is ends counts

counts_at : (sending : Sending) (index : ℕ) (keys : List TakenKey) → index ≡ sending.next → EndsAt sending.next (last_or None keys) → CountsFrom sending (last_or None keys)
    → CountsFrom (after_packet sending) (last_or None (with_sent_last index keys))
counts_at sending index [] is ends counts = absurd ends
counts_at sending index (k ∷ keys) is ends counts = counts_at_last sending index None k keys is ends counts

-- ---- the indices

-- The next outer index rises by one.
outer_next : (out : Outgoing) → IsSending out → out.sending.next + 1 < 2 ^ 48 → outer_index (after_send out) ≡ outer_index out + 1
outer_next out is left =
    let free = free_outer out is.outer (omega arith) in
    let high = free.then_beside.0 in
    let beside = free.then_beside.1 in
    let same : high ≡ outer_index out = some_same high (outer_index out) (sym beside.highest ∙ free.top) in
    ap (λ (o : Option ℕ). unwrap_or (nearest o ((out.sending.next + 1) % 65536)) 0) beside.highest
    ∙ ap (λ (seq : ℕ). unwrap_or (nearest (Some high) seq) 0) (sym beside.beside)
    ∙ ap (λ (o : Option ℕ). unwrap_or o 0) (nearest_next high (omega (arith, beside.behind)))
    ∙ ap (λ (n : ℕ). n + 1) same

-- ---- what was sent

sends_so : (m : Member) (content : Content) → MaySend m → media_fault content ≡ None → send_fault m.endpoint.sending content ≡ None
sends_so m content may none = send_none m.endpoint.sending content none (λ spent. omega (arith, spent, may.left))

-- It isn't refused.
pub not_refused : (m : Member) (content : Content) (fault : SendFault) (octets : List ℕ) → MaySend m → media_fault content ≡ None
    → IsDeparture (sent m.endpoint content).0 (Err fault) octets → ⊥
not_refused m content fault octets may none answer = rw (sends_so m content may none) at answer

pub is_sent : (m : Member) (content : Content) (told : Sent) (octets : List ℕ) → MaySend m → media_fault content ≡ None
    → IsDeparture (sent m.endpoint content).0 (Ok told) octets
    → IsSentAs (record { place = next_place m.endpoint.sending; datagram = sent_datagram m.endpoint.sending content }) told octets
is_sent m content told octets may none answer = rw (sends_so m content may none) at answer

stands_after : (m : Member) (content : Content) (kept : endpoint.Kept) → MaySend m → media_fault content ≡ None
    → endpoint.StandsFor kept (sent m.endpoint content).1 → endpoint.StandsFor kept (with_send m).endpoint
stands_after m content kept may none stands = rw (sends_so m content may none) at stands

-- Its datagram is the next to be opened.
pub opens_next : (before : code_member.Member) (m : Member) (content : Content) (datagram : List ℕ) → MirrorsMember before m → MaySend m
    → ((seq ssrc : ℕ) → seq < 2 ^ 16 → ssrc < 2 ^ 32 → IsHeader (header_of content seq ssrc)) → datagram ≡ sent_datagram m.endpoint.sending content
    → OpensAs before.opening m content datagram
opens_next before m content datagram mirrors may fits is = record {
  may = may;
  keys = mirrors.opening_keys ∙ ap (λ (k : KeyAndSalt). session_keys k Srtp) (sym may.client);
  next = mirrors.opening_next;
  header = fits (m.endpoint.sending.sending.next % 65536) m.endpoint.sending.sending.ssrc (omega arith) may.sending.ssrc;
  datagram_is = is;
}

-- what it sealed
abbrev pub sealed_by : Member → Content → Unsealed
sealed_by m content = record {
  header = sent_header m.endpoint.sending content;
  inner = sent_inner m.endpoint.sending content;
  block = nothing_kept;
  field = sent_field m.endpoint.sending;
}

-- What the code did: it sent, and opened what it sent.
pub record HasSent (m : Member) (content : Content) (number : ℕ) (before : code_member.Member) (kept : endpoint.Kept) (opening : Opening) (sends : List ℕ) (keys : List TakenKey) (told : Sent) (octets datagram : List ℕ) (u : code_unsealed.Unsealed) : Type 0 where
  pub answer : IsDeparture (sent m.endpoint content).0 (Ok told) octets
  pub stands : endpoint.StandsFor kept (sent m.endpoint content).1
  pub len : told.len ≤ 1500
  pub opening_is : opening ≡ record before.opening { next = before.opening.next + 1 }
  pub sends_are : sends ≡ before.sends.items ++ number ∷ []
  pub keys_are : keys ≡ with_sent_last told.index before.keys.items
  pub datagram_is : datagram ≡ take told.len octets
  pub unsealed : OpensAs before.opening m content (take told.len octets) → MirrorsUnsealed (take told.len octets) u (sealed_by m content)

mirrors_after : (m : Member) (content : Content) (number : ℕ) (before : code_member.Member) (kept : endpoint.Kept) (opening : Opening) (sends : Vec ℕ Global) (keys : Vec TakenKey Global) (told : Sent) (octets datagram : List ℕ) (u : code_unsealed.Unsealed)
    → MirrorsMember before m → MaySend m → media_fault content ≡ None → HasSent m content number before kept opening sends.items keys.items told octets datagram u
    → MirrorsMember (record before { endpoint = kept; opening = opening; sends = sends; keys = keys }) (with_send m)
mirrors_after m content number before kept opening sends keys told octets datagram u mirrors may none is =
    let out = m.endpoint.sending in
    let index = (is_sent m content told octets may none is.answer).index in
    record {
      name = mirrors.name;
      association = mirrors.association;
      ssrc = mirrors.ssrc;
      client = mirrors.client;
      server = mirrors.server;
      endpoint = stands_after m content kept may none is.stands;
      opening_keys = ap (λ (o : Opening). o.keys) is.opening_is ∙ mirrors.opening_keys;
      opening_next = ap (λ (o : Opening). o.next) is.opening_is ∙ ap (λ (n : ℕ). n + 1) mirrors.opening_next ∙ sym (outer_next out may.sending may.left);
      present = mirrors.present;
      next = omega (arith, ap length is.sends_are, length-append before.sends.items (number ∷ []), mirrors.next);
      keys = ap (map taken_in) is.keys_are ∙ same_keys told.index before.keys.items ∙ mirrors.keys;
      last =
          subst (λ (ks : List TakenKey). EndsAt (out.sending.next + 1) (last_or None ks)) (sym is.keys_are)
          (ends_at told.index (out.sending.next + 1) out.sending.next before.keys.items mirrors.last (ap (λ (n : ℕ). n + 1) (sym index)));
      counted =
          subst (λ (ks : List TakenKey). CountsFrom (after_packet out.sending) (last_or None ks)) (sym is.keys_are)
          (counts_at out.sending told.index before.keys.items index mirrors.last mirrors.counted);
    }

pub sends_next : (m : Member) (content : Content) (number : ℕ) (before : code_member.Member) (kept : endpoint.Kept) (opening : Opening) (sends : Vec ℕ Global) (keys : Vec TakenKey Global) (told : Sent) (octets : List ℕ) (datagram : Vec ℕ Global) (u : code_unsealed.Unsealed)
    → MirrorsMember before m → MaySend m → media_fault content ≡ None → ((seq ssrc : ℕ) → seq < 2 ^ 16 → ssrc < 2 ^ 32 → IsHeader (header_of content seq ssrc))
    → HasSent m content number before kept opening sends.items keys.items told octets datagram.items u
    → SendsNext m content number before (record before { endpoint = kept; opening = opening; sends = sends; keys = keys }) (record { octets = datagram; unsealed = Some u })
sends_next m content number before kept opening sends keys told octets datagram u mirrors may none fits is =
    let out = m.endpoint.sending in
    let sent = is_sent m content told octets may none is.answer in
    record {
      datagram = record {
        octets = is.datagram_is ∙ sent.datagram;
        few = omega (arith, is.len, length-take told.len octets, ap length sent.datagram);
        unsealed = subst (λ (d : List ℕ). MirrorsUnsealed d u (sealed_by m content)) sent.datagram
            (is.unsealed (opens_next before m content (take told.len octets) mirrors may fits sent.datagram));
      };
      member = mirrors_after m content number before kept opening sends keys told octets datagram.items u mirrors may none is;
      first = refl;
      sends = is.sends_are;
      keys = is.keys_are ∙ ap (λ (n : ℕ). with_sent_last n before.keys.items) (sent.index ∙ sym mirrors.next);
    }
