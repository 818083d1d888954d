-- A member of the code sends: its row, and its wrap where the field is full, are found at it, and nothing else is more.
use Rattle.std.proofs.Common.{◌≡◌, ℕ, zero, suc, ◌+◌, ◌-◌, ◌/◌, ◌%◌, ◌<◌, ◌≤◌, ◌⊎◌, inl, inr, Bool, true, false, cond, ◌&&◌, ◌||◌, not, List}
use Rattle.std.proofs.Common.{[], ◌∷◌, ◌++◌, length, map, Option, Some, None, slice_get, slice_set, refl, sym, ap, ◌∙◌, subst, arith}
use Rattle.std.specs.List.{last_or, list_any}
use Rattle.std.specs.Option.{option_map_or, unwrap_or}
use Rattle.std.specs.Prelude.{All, Contains, IfSome, MatchOption, nat_le, nat_lt, ◌==◌}
use Rattle.std.proofs.lemmas.Bool.{and_from, and_parts, cases_eq, cases_lt, eq-eqb, eqb-true, le-leb, leb-true, ne_eqb, or_cases}
use Rattle.std.proofs.lemmas.List.{map-append}
use Rattle.std.proofs.lemmas.List.Elements.{All-cons, All-nil, Contains-append_right}
use Rattle.std.proofs.lemmas.Slice.Eq.{bytes_eq-Decides}
use Rattle.std.specs.Str.{bytes_eq}
use Rattle.perc_rtp.specs.Media.{Content}
use Rattle.perc_sender.specs.Schedule.{Sending, Taken, is_full_field, newest, roll_over}
use Rattle.perc_sender.proofs.Keys.{newest_push}
use Rattle.perc_receiver.specs.Table.{Row, Wrap}
use Rattle.perc_outgoing.specs.Sending.{IsSending, Outgoing, next_place, sending_key, sent_row, sent_wrap, sent_wraps}
use Rattle.perc_member.specs.Each.{CountsFrom, EndsAt, MirrorsMember, RunsUpTo, taken_in}
use Rattle.perc_member.specs.Making.{SendsNext}
use Rattle.perc_member.specs.Taken.{has_sent, has_wrapped, is_taken, is_within, number_at, sent_under, with_sent, with_sent_last, wrapped_under}
use Rattle.perc_member.specs.declared.datagram.Datagram as code_datagram
use Rattle.perc_member.specs.declared.member.Member as code_member
use Rattle.perc_member.specs.declared.member.Span.{Span}
use Rattle.perc_member.specs.declared.member.TakenKey.{TakenKey}
use Rattle.perc_run.specs.Sending.{sent_by}
use Rattle.perc_run.specs.State.{Datagram, Member, State, datagram_at}
use Rattle.perc_sent.specs.Sent.{HasNumbers, HasPacketOf, HasRows, HasWraps, IsSentBy, IsWrappedBy, MirrorsSent}
use Rattle.perc_sent.proofs.Kept.{Grows, IsLonger, at_longer, has_row_at_longer, has_row_longer, has_wrap_longer, sent_grown}
use Rattle.perc_sent.proofs.Rows.{datagram_place}

-- ---- the key that was taken last

last_of : (next : ℕ) (keys : List TakenKey) → EndsAt next (last_or None keys) → (front : List TakenKey) × (k : TakenKey) × (keys ≡ front ++ k ∷ [])
last_of next [] ends = absurd ends
last_of next (k ∷ []) ends = ([], k, refl)
last_of next (k ∷ l ∷ keys) ends =
    let it = last_of next (l ∷ keys) ends in (k ∷ it.0, it.1, ap (λ (rest : List TakenKey). k ∷ rest) it.2)

last_push : (o : Option TakenKey) (front : List TakenKey) (k : TakenKey) → last_or o (front ++ k ∷ []) ≡ Some k
last_push o [] k = refl
last_push o (x ∷ front) k = last_push (Some x) front k

sent_last : (index : ℕ) (front : List TakenKey) (k : TakenKey) → with_sent_last index (front ++ k ∷ []) ≡ front ++ with_sent index k ∷ []
sent_last index [] k = refl
sent_last index (x ∷ []) k = refl
sent_last index (x ∷ y ∷ front) k = ap (λ (rest : List TakenKey). x ∷ rest) (sent_last index (y ∷ front) k)

-- ---- a test of the keys, of which the last one changed

or_right : (b c : Bool) → c ≡ true → (b || c) ≡ true
or_right true c e = refl
or_right false c e = e

any_grows : (p : TakenKey → Bool) (front : List TakenKey) (k l : TakenKey) → (p k ≡ true → p l ≡ true) → list_any p (front ++ k ∷ []) ≡ true
    → list_any p (front ++ l ∷ []) ≡ true
any_grows p [] k l grows is =
    elim (or_cases (p k) false is) [
      | inl here ↦ rw (grows here) refl
      | inr none ↦ absurd (cc)
    ]
any_grows p (x ∷ front) k l grows is =
    elim (or_cases (p x) (list_any p (front ++ k ∷ [])) is) [
      | inl here ↦ rw here refl
      | inr later ↦ or_right (p x) (list_any p (front ++ l ∷ [])) (any_grows p front k l grows later)
    ]

any_last : (p : TakenKey → Bool) (front : List TakenKey) (l : TakenKey) → p l ≡ true → list_any p (front ++ l ∷ []) ≡ true
any_last p [] l is = rw is refl
any_last p (x ∷ front) l is = or_right (p x) (list_any p (front ++ l ∷ [])) (any_last p front l is)

any_shrinks : (p : TakenKey → Bool) (front : List TakenKey) (k l : TakenKey) (New : Type 0) → (p l ≡ true → (p k ≡ true) ⊎ New)
    → list_any p (front ++ l ∷ []) ≡ true → (list_any p (front ++ k ∷ []) ≡ true) ⊎ New
any_shrinks p [] k l New old is =
    elim (or_cases (p l) false is) [
      | inl here ↦
          elim (old here) [
            | inl before ↦ inl (rw before refl)
            | inr new ↦ inr new
          ]
      | inr none ↦ absurd (cc)
    ]
any_shrinks p (x ∷ front) k l New old is =
    elim (or_cases (p x) (list_any p (front ++ l ∷ [])) is) [
      | inl here ↦ inl (rw here refl)
      | inr later ↦
          elim (any_shrinks p front k l New old later) [
            | inl before ↦ inl (or_right (p x) (list_any p (front ++ k ∷ [])) before)
            | inr new ↦ inr new
          ]
    ]

-- ---- the span of a key

-- the span once a packet of this index, the next one, went out
abbrev longer : ℕ → Option Span → Span
longer index o = record { first = option_map_or (λ span. span.first) o index; last = index }

abbrev Ends : ℕ → Option Span → Type 0
Ends index o = IfSome o (λ span. span.last + 1 ≡ index)

within_from : (span : Span) (i : ℕ) → span.first ≤ i → i ≤ span.last → is_within i span ≡ true
within_from span i low high = and_from (nat_le span.first i) (nat_le i span.last) (le-leb span.first i low) (le-leb i span.last high)

within_parts : (span : Span) (i : ℕ) → is_within i span ≡ true → (span.first ≤ i) × (i ≤ span.last)
within_parts span i is =
    let p = and_parts (nat_le span.first i) (nat_le i span.last) is in (leb-true span.first i p.0, leb-true i span.last p.1)

within_more : (o : Option Span) (index i : ℕ) → Ends index o → option_map_or (is_within i) o false ≡ true → is_within i (longer index o) ≡ true
within_more None index i ends is = absurd (cc)
within_more (Some span) index i ends is =
    let p = within_parts span i is in
    let high = p.1 in
    within_from (longer index (Some span)) i p.0 (omega arith)

within_only : (o : Option Span) (index i : ℕ) → Ends index o → is_within i (longer index o) ≡ true → (option_map_or (is_within i) o false ≡ true) ⊎ (i ≡ index)
within_only None index i ends is =
    let p = within_parts (longer index None) i is in
    let low = p.0 in
    let high = p.1 in
    inr (omega arith)
within_only (Some span) index i ends is =
    let p = within_parts (longer index (Some span)) i is in
    let high = p.1 in
    elim (cases_eq i index) [
      | inl same ↦ inr same
      | inr other ↦ inl (within_from span i p.0 (omega arith))
    ]

-- the roll-over counters of a span
abbrev rolls : ℕ → Span → Bool
rolls roc span = nat_le (span.first / 65536) roc && nat_le roc (span.last / 65536)

rolls_from : (span : Span) (roc : ℕ) → span.first / 65536 ≤ roc → roc ≤ span.last / 65536 → rolls roc span ≡ true
rolls_from span roc low high =
    and_from (nat_le (span.first / 65536) roc) (nat_le roc (span.last / 65536)) (le-leb (span.first / 65536) roc low) (le-leb roc (span.last / 65536) high)

rolls_parts : (span : Span) (roc : ℕ) → rolls roc span ≡ true → (span.first / 65536 ≤ roc) × (roc ≤ span.last / 65536)
rolls_parts span roc is =
    let p = and_parts (nat_le (span.first / 65536) roc) (nat_le roc (span.last / 65536)) is in
    (leb-true (span.first / 65536) roc p.0, leb-true roc (span.last / 65536) p.1)

rolls_more : (o : Option Span) (index roc : ℕ) → Ends index o → option_map_or (rolls roc) o false ≡ true → rolls roc (longer index o) ≡ true
rolls_more None index roc ends is = absurd (cc)
rolls_more (Some span) index roc ends is =
    let p = rolls_parts span roc is in
    let high = p.1 in
    rolls_from (longer index (Some span)) roc p.0 (omega arith)

abbrev Counts : Sending → Option Span → Type 0
Counts sending o = MatchOption o (sending.number ≡ 0) (RunsUpTo sending)

full_first : (number roc : ℕ) (before : Option ℕ) → number ≡ 0 → is_full_field number roc before ≡ true
full_first number roc before none = rw none refl

full_rolled : (number roc r : ℕ) (before : Option ℕ) → before ≡ Some r → (r ≡ roc → ⊥) → is_full_field number roc before ≡ true
full_rolled number roc r before is other =
    or_right (nat_lt number 3 || (number % 100 == 0)) (option_map_or (λ b. not (b == roc)) before false) (rw is (ap not (ne_eqb r roc other)))

-- A counter that is new is that of the packet, whose field is full.
rolls_only : (sending : Sending) (o : Option Span) (roc : ℕ) → Ends sending.next o → Counts sending o → rolls roc (longer sending.next o) ≡ true
    → (option_map_or (rolls roc) o false ≡ true)
    ⊎ ((roc ≡ roll_over sending.next) × (is_full_field sending.number (roll_over sending.next) sending.before ≡ true))
rolls_only sending None roc ends counts is =
    let p = rolls_parts (longer sending.next None) roc is in
    let low = p.0 in
    let high = p.1 in
    inr (omega arith, full_first sending.number (roll_over sending.next) sending.before counts)
rolls_only sending (Some span) roc ends counts is =
    let p = rolls_parts (longer sending.next (Some span)) roc is in
    let high = p.1 in
    elim (cases_eq roc (span.last / 65536)) [
      | inl same ↦ inl (rolls_from span roc p.0 (omega arith))
      | inr other ↦
          elim (cases_eq (span.last / 65536) (sending.next / 65536)) [
            | inl same ↦ inl (rolls_from span roc p.0 (omega arith))
            | inr rolled ↦
                elim (cases_lt (span.last / 65536) roc) [
                  | inl above ↦ inr (omega arith, full_rolled sending.number (roll_over sending.next) (span.last / 65536) sending.before counts.before rolled)
                  | inr below ↦ inl (rolls_from span roc p.0 below)
                ]
          ]
    ]

pub first_within : (sending : Sending) (o : Option Span) → Ends sending.next o → Counts sending o → option_map_or (λ span. span.first) o sending.next ≤ sending.next
first_within sending None ends counts = omega arith
first_within sending (Some span) ends counts = let order = counts.order in omega arith

-- ---- what went out under the key

-- the key is this one
record IsKey (spi : ℕ) (key : List ℕ) (k : TakenKey) : Type 0 where
  spi_is : k.spi ≡ spi
  key_is : k.key ≡ key

is_key : (spi : ℕ) (key : List ℕ) (k : TakenKey) → is_taken spi key k ≡ true → IsKey spi key k
is_key spi key k is =
    let p = and_parts (k.spi == spi) (bytes_eq k.key key) is in
    record { spi_is = eqb-true k.spi spi p.0; key_is = (bytes_eq-Decides k.key key).0 p.1 }

taken_from : (spi : ℕ) (key : List ℕ) (k : TakenKey) → k.spi ≡ spi → k.key ≡ key → is_taken spi key k ≡ true
taken_from spi key k spi_is key_is = and_from (k.spi == spi) (bytes_eq k.key key) (eq-eqb k.spi spi spi_is) ((bytes_eq-Decides k.key key).1 key_is)

-- a packet that is new under a key
record IsNewSent (index : ℕ) (k : TakenKey) (spi : ℕ) (key : List ℕ) (i : ℕ) : Type 0 where
  its : IsKey spi key k
  index_is : i ≡ index

-- a roll-over counter that is new under a key: the packet's field is full
record IsNewWrapped (sending : Sending) (k : TakenKey) (spi : ℕ) (key : List ℕ) (roc : ℕ) : Type 0 where
  its : IsKey spi key k
  roc_is : roc ≡ roll_over sending.next
  full : is_full_field sending.number (roll_over sending.next) sending.before ≡ true

-- What a member of the code has of keys, before and after it sends.
record AreKeys (sending : Sending) (a b : code_member.Member) : Type 0 where
  front : List TakenKey
  last : TakenKey
  before : a.keys.items ≡ front ++ last ∷ []
  after : b.keys.items ≡ front ++ with_sent sending.next last ∷ []
  ends : Ends sending.next last.sent
  counts : Counts sending last.sent

module _ (sending : Sending) (a b : code_member.Member) (keys : AreKeys sending a b) where
  sent_more : (spi : ℕ) (key : List ℕ) (i : ℕ) → sent_under a spi key i ≡ true → sent_under b spi key i ≡ true
  sent_more spi key i is =
      let p : TakenKey → Bool = λ k. is_taken spi key k && has_sent i k in
      let grows : p keys.last ≡ true → p (with_sent sending.next keys.last) ≡ true =
      λ here.
      let both = and_parts (is_taken spi key keys.last) (has_sent i keys.last) here in
      and_from (is_taken spi key keys.last) (has_sent i (with_sent sending.next keys.last)) both.0 (within_more keys.last.sent sending.next i keys.ends both.1) in
      ap (list_any p) keys.after
      ∙ any_grows p keys.front keys.last (with_sent sending.next keys.last) grows (sym (ap (list_any p) keys.before) ∙ is)

  wrapped_more : (spi : ℕ) (key : List ℕ) (roc : ℕ) → wrapped_under a spi key roc ≡ true → wrapped_under b spi key roc ≡ true
  wrapped_more spi key roc is =
      let p : TakenKey → Bool = λ k. is_taken spi key k && has_wrapped roc k in
      let grows : p keys.last ≡ true → p (with_sent sending.next keys.last) ≡ true =
      λ here.
      let both = and_parts (is_taken spi key keys.last) (has_wrapped roc keys.last) here in
      and_from (is_taken spi key keys.last) (has_wrapped roc (with_sent sending.next keys.last)) both.0 (rolls_more keys.last.sent sending.next roc keys.ends both.1) in
      ap (list_any p) keys.after
      ∙ any_grows p keys.front keys.last (with_sent sending.next keys.last) grows (sym (ap (list_any p) keys.before) ∙ is)

  sent_only : (spi : ℕ) (key : List ℕ) (i : ℕ) → sent_under b spi key i ≡ true → (sent_under a spi key i ≡ true) ⊎ IsNewSent sending.next keys.last spi key i
  sent_only spi key i is =
      let p : TakenKey → Bool = λ k. is_taken spi key k && has_sent i k in
      elim (any_shrinks p keys.front keys.last (with_sent sending.next keys.last) (IsNewSent sending.next keys.last spi key i) (old p) (sym (ap (list_any p) keys.after) ∙ is)) [
        | inl before ↦ inl (ap (list_any p) keys.before ∙ before)
        | inr new ↦ inr new
      ]
    where
      old : (p : TakenKey → Bool) → (is_taken spi key keys.last && has_sent i (with_sent sending.next keys.last)) ≡ true
          → ((is_taken spi key keys.last && has_sent i keys.last) ≡ true) ⊎ IsNewSent sending.next keys.last spi key i
      old p here =
          let both = and_parts (is_taken spi key keys.last) (has_sent i (with_sent sending.next keys.last)) here in
          elim (within_only keys.last.sent sending.next i keys.ends both.1) [
            | inl before ↦ inl (and_from (is_taken spi key keys.last) (has_sent i keys.last) both.0 before)
            | inr new ↦ inr (record { its = is_key spi key keys.last both.0; index_is = new })
          ]

  wrapped_only : (spi : ℕ) (key : List ℕ) (roc : ℕ) → wrapped_under b spi key roc ≡ true
      → (wrapped_under a spi key roc ≡ true) ⊎ IsNewWrapped sending keys.last spi key roc
  wrapped_only spi key roc is =
      let p : TakenKey → Bool = λ k. is_taken spi key k && has_wrapped roc k in
      elim (any_shrinks p keys.front keys.last (with_sent sending.next keys.last) (IsNewWrapped sending keys.last spi key roc) old (sym (ap (list_any p) keys.after) ∙ is)) [
        | inl before ↦ inl (ap (list_any p) keys.before ∙ before)
        | inr new ↦ inr new
      ]
    where
      old : (is_taken spi key keys.last && has_wrapped roc (with_sent sending.next keys.last)) ≡ true
          → ((is_taken spi key keys.last && has_wrapped roc keys.last) ≡ true) ⊎ IsNewWrapped sending keys.last spi key roc
      old here =
          let both = and_parts (is_taken spi key keys.last) (has_wrapped roc (with_sent sending.next keys.last)) here in
          elim (rolls_only sending keys.last.sent roc keys.ends keys.counts both.1) [
            | inl before ↦ inl (and_from (is_taken spi key keys.last) (has_wrapped roc keys.last) both.0 before)
            | inr new ↦ inr (record { its = is_key spi key keys.last both.0; roc_is = new.0; full = new.1 })
          ]

  -- The packet went out under the key.
  sent_new : (spi : ℕ) (key : List ℕ) → keys.last.spi ≡ spi → keys.last.key ≡ key → sent_under b spi key sending.next ≡ true
  sent_new spi key spi_is key_is =
      let l : TakenKey = with_sent sending.next keys.last in
      let low = first_within sending keys.last.sent keys.ends keys.counts in
      let span : Span = longer sending.next keys.last.sent in
      ap (list_any (λ k. is_taken spi key k && has_sent sending.next k)) keys.after
      ∙ any_last (λ k. is_taken spi key k && has_sent sending.next k) keys.front l
      (and_from (is_taken spi key l) (has_sent sending.next l) (taken_from spi key keys.last spi_is key_is) (within_from span sending.next low (omega arith)))

  wrapped_new : (spi : ℕ) (key : List ℕ) → keys.last.spi ≡ spi → keys.last.key ≡ key → wrapped_under b spi key (roll_over sending.next) ≡ true
  wrapped_new spi key spi_is key_is =
      let l : TakenKey = with_sent sending.next keys.last in
      let low = first_within sending keys.last.sent keys.ends keys.counts in
      let span : Span = longer sending.next keys.last.sent in
      ap (list_any (λ k. is_taken spi key k && has_wrapped (roll_over sending.next) k)) keys.after
      ∙ any_last (λ k. is_taken spi key k && has_wrapped (roll_over sending.next) k) keys.front l
      (and_from (is_taken spi key l) (has_wrapped (roll_over sending.next) l) (taken_from spi key keys.last spi_is key_is)
      (rolls_from span (roll_over sending.next) (omega arith) (omega arith)))

-- ---- numbers

number_parts : (c : code_member.Member) (index number : ℕ) → number_at c index ≡ Some number → (c.first ≤ index) × (slice_get c.sends.items (index - c.first) ≡ Some number)
number_parts c index number is = by (nat_le c.first index) refl is where
  by : (t : Bool) → nat_le c.first index ≡ t → cond t (slice_get c.sends.items (index - c.first)) None ≡ Some number
      → (c.first ≤ index) × (slice_get c.sends.items (index - c.first) ≡ Some number)
  by true low e = (leb-true c.first index low, e)
  by false low e = absurd (cc)

number_from : (c : code_member.Member) (index number : ℕ) → c.first ≤ index → slice_get c.sends.items (index - c.first) ≡ Some number → number_at c index ≡ Some number
number_from c index number low at = rw (le-leb c.first index low) at

at_end : {X : Type 0} (xs : List X) (y : X) → slice_get (xs ++ y ∷ []) (length xs) ≡ Some y
at_end [] y = refl
at_end (x ∷ xs) y = at_end xs y

push_cases : {X : Type 0} (xs : List X) (i : ℕ) (y x : X) → slice_get (xs ++ y ∷ []) i ≡ Some x → (i ≡ length xs) ⊎ (slice_get xs i ≡ Some x)
push_cases [] zero y x at = inl refl
push_cases [] (suc i) y x at = inr at
push_cases (z ∷ xs) zero y x at = inr at
push_cases (z ∷ xs) (suc i) y x at =
    elim (push_cases xs i y x at) [
      | inl same ↦ inl (ap suc same)
      | inr before ↦ inr before
    ]

-- ---- a member that sends

-- A member of the code sends a packet of this content as the next datagram; the state after it has its row, its wraps and its datagram more.
pub record Sends (s t : State) (m : Member) (content : Content) (a b : code_member.Member) : Type 0 where
  pub mirrors : MirrorsMember a m
  pub sending : IsSending m.endpoint.sending
  pub sender : m.endpoint.sending.sending.ssrc ≡ m.ssrc
  pub datagram : code_datagram.Datagram
  pub sends : SendsNext m content (length s.datagrams + 1) a b datagram
  pub rows : t.table.rows ≡ s.table.rows ++ sent_row m.name (length s.datagrams + 1) m.endpoint.sending content ∷ []
  pub wraps : t.table.wraps ≡ s.table.wraps ++ sent_wraps m.endpoint.sending
  pub datagrams : t.datagrams ≡ s.datagrams ++ sent_by m content ∷ []

ends_of : (sending : Sending) (keys : List TakenKey) (front : List TakenKey) (k : TakenKey) → keys ≡ front ++ k ∷ [] → EndsAt sending.next (last_or None keys)
    → CountsFrom sending (last_or None keys) → Ends sending.next k.sent × Counts sending k.sent
ends_of sending keys front k is ends counts =
    let last : last_or None keys ≡ Some k = ap (last_or None) is ∙ last_push None front k in
    (subst (EndsAt sending.next) last ends, subst (CountsFrom sending) last counts)

module _ (s t : State) (m : Member) (content : Content) (a b : code_member.Member) (is : Sends s t m content a b) where
  abbrev out : Outgoing
  out = m.endpoint.sending

  abbrev number : ℕ
  number = length s.datagrams + 1

  abbrev row : Row
  row = sent_row m.name number out content

  keys_of : AreKeys out.sending a b
  keys_of =
      let it = last_of out.sending.next a.keys.items is.mirrors.last in
      let facts = ends_of out.sending a.keys.items it.0 it.1 it.2 is.mirrors.last is.mirrors.counted in record {
        front = it.0;
        last = it.1;
        before = it.2;
        after = is.sends.keys ∙ ap (λ (n : ℕ). with_sent_last n a.keys.items) is.mirrors.next ∙ ap (with_sent_last out.sending.next) it.2 ∙ sent_last out.sending.next it.0 it.1;
        ends = facts.0;
        counts = facts.1;
      }

  -- It sends under the key that it took last.
  key_is : taken_in keys_of.last ≡ sending_key out
  key_is =
      let all : out.sending.keys ≡ map taken_in keys_of.front ++ taken_in keys_of.last ∷ [] =
      sym is.mirrors.keys ∙ ap (map taken_in) keys_of.before ∙ map-append taken_in keys_of.front (keys_of.last ∷ []) in
      let last : newest out.sending.keys ≡ Some (taken_in keys_of.last) = ap newest all ∙ newest_push (map taken_in keys_of.front) (taken_in keys_of.last) in
      sym (ap (λ (o : Option Taken). unwrap_or o (record { spi = 0; key = [] })) last)

  abbrev more : IsLonger s t
  more = record {
    rows = row ∷ [];
    rows_are = is.rows;
    wraps = sent_wraps out;
    wraps_are = is.wraps;
    datagrams = sent_by m content ∷ [];
    datagrams_are = is.datagrams;
  }

  ssrc_is : b.ssrc ≡ out.sending.ssrc
  ssrc_is = is.sends.member.ssrc ∙ sym is.sender

  same_ssrc : b.ssrc ≡ a.ssrc
  same_ssrc = is.sends.member.ssrc ∙ sym is.mirrors.ssrc

  row_there : Contains t.table.rows row
  row_there = subst (λ (l : List Row). Contains l row) (sym is.rows) (Contains-append_right s.table.rows (row ∷ []) row (0, omega arith, refl))

  numbered : slice_get b.sends.items (out.sending.next - b.first) ≡ Some number
  numbered =
      let first = is.sends.first in
      let next = is.mirrors.next in
      let place : out.sending.next - b.first ≡ length a.sends.items = omega arith in
      ap (λ (l : List ℕ). slice_get l (out.sending.next - b.first)) is.sends.sends
      ∙ ap (slice_get (a.sends.items ++ number ∷ [])) place
      ∙ at_end a.sends.items number

  packet : HasPacketOf row (datagram_at t.datagrams number)
  packet =
      let above : 0 < number = omega arith in
      let place : number - 1 ≡ length s.datagrams = omega arith in
      let at : datagram_at t.datagrams number ≡ Some (sent_by m content) =
      datagram_place t.datagrams number above
      ∙ ap (slice_get t.datagrams) place
      ∙ ap (λ (l : List Datagram). slice_get l (length s.datagrams)) is.datagrams
      ∙ at_end s.datagrams (sent_by m content) in
      subst (HasPacketOf row) (sym at) (record { header = refl; inner = refl })

  its_row : IsSentBy t b row
  its_row =
      let first = is.sends.first in
      let next = is.mirrors.next in record {
        ssrc = ssrc_is;
        sender = is.sends.member.name;
        from = omega arith;
        number = numbered;
        key = sent_new out.sending a b keys_of row.spi row.key (ap (λ (k : Taken). k.spi) key_is) (ap (λ (k : Taken). k.key) key_is);
        packet = packet;
      }

  its_wrap : IsWrappedBy b (sent_wrap out)
  its_wrap = record {
    ssrc = ssrc_is;
    key = wrapped_new out.sending a b keys_of row.spi row.key (ap (λ (k : Taken). k.spi) key_is) (ap (λ (k : Taken). k.key) key_is);
  }

  its_wraps : All (IsWrappedBy b) (sent_wraps out)
  its_wraps = by (next_place out).full where
    by : (full : Bool) → All (IsWrappedBy b) (cond full (sent_wrap out ∷ []) [])
    by true = All-cons (IsWrappedBy b) (sent_wrap out) [] its_wrap (All-nil (IsWrappedBy b))
    by false = All-nil (IsWrappedBy b)

  wrap_there : (next_place out).full ≡ true → Contains t.table.wraps (sent_wrap out)
  wrap_there full =
      let one : sent_wraps out ≡ sent_wrap out ∷ [] = ap (λ (f : Bool). cond f (sent_wrap out ∷ []) []) full in
      let there : Contains (sent_wraps out) (sent_wrap out) = subst (λ (l : List Wrap). Contains l (sent_wrap out)) (sym one) (0, omega arith, refl) in
      subst (λ (l : List Wrap). Contains l (sent_wrap out)) (sym is.wraps) (Contains-append_right s.table.wraps (sent_wraps out) (sent_wrap out) there)

  its_rows : HasRows s a → HasRows t b
  its_rows has spi key i sent =
      elim (sent_only out.sending a b keys_of spi key i sent) [
        | inl before ↦ has_row_longer s t a b spi key i more same_ssrc (has spi key i before)
        | inr new ↦ record {
          row = row;
          there = row_there;
          ssrc = sym ssrc_is;
          spi_is = ap (λ (k : Taken). k.spi) (sym key_is) ∙ new.its.spi_is;
          key_is = ap (λ (k : Taken). k.key) (sym key_is) ∙ new.its.key_is;
          index_is = sym new.index_is;
        }
      ]

  wraps_of : HasWraps s a → HasWraps t b
  wraps_of has spi key roc sent =
      elim (wrapped_only out.sending a b keys_of spi key roc sent) [
        | inl before ↦ has_wrap_longer s t a b spi key roc more same_ssrc (has spi key roc before)
        | inr new ↦ record {
          wrap = sent_wrap out;
          there = wrap_there new.full;
          ssrc = sym ssrc_is;
          spi_is = ap (λ (k : Taken). k.spi) (sym key_is) ∙ new.its.spi_is;
          key_is = ap (λ (k : Taken). k.key) (sym key_is) ∙ new.its.key_is;
          roc_is = sym new.roc_is;
        }
      ]

  numbers_of : HasNumbers s a → HasNumbers t b
  numbers_of has index n at =
      let p = number_parts b index n at in
      let low = p.0 in
      let first = is.sends.first in
      let next = is.mirrors.next in
      elim (push_cases a.sends.items (index - b.first) number n (sym (ap (λ (l : List ℕ). slice_get l (index - b.first)) is.sends.sends) ∙ p.1)) [
        | inl new ↦ record { row = row; there = row_there; ssrc = sym ssrc_is; index_is = omega arith }
        | inr before ↦
            has_row_at_longer s t a b index more same_ssrc
            (has index n (number_from a index n (omega arith) (ap (λ (f : ℕ). slice_get a.sends.items (index - f)) (sym first) ∙ before)))
      ]

  -- What it sent is more, and nothing else.
  pub sends_grow : Grows s t a b
  sends_grow = record {
    longer = more;
    keeps = record {
      name = is.sends.member.name ∙ sym is.mirrors.name;
      ssrc = same_ssrc;
      first = is.sends.first;
      number = λ place n at. ap (λ (l : List ℕ). slice_get l place) is.sends.sends ∙ at_longer a.sends.items (number ∷ []) place n at;
      under = sent_more out.sending a b keys_of;
      wrapped = wrapped_more out.sending a b keys_of;
    };
    rows = All-cons (IsSentBy t b) row [] its_row (All-nil (IsSentBy t b));
    wraps = its_wraps;
    only_rows = its_rows;
    only_wraps = wraps_of;
    only_numbers = numbers_of;
  }

-- All is found at the members still, once one of them sent.
pub sent_on : (cs : List code_member.Member) (s t : State) (k : ℕ) (m : Member) (content : Content) (a b : code_member.Member) → MirrorsSent cs s
    → slice_get cs k ≡ Some a → Sends s t m content a b → MirrorsSent (slice_set cs k b) t
sent_on cs s t k m content a b sent at is = sent_grown cs s t k a b sent at (sends_grow s t m content a b is)
