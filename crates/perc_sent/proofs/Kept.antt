-- What was sent is found at the members of the code still, once one of them changed, took a key or joined, and once there are more
-- rows, wraps and datagrams.
use Rattle.std.proofs.Common.{◌≡◌, ◌≢◌, ℕ, zero, suc, ◌-◌, ◌<◌, Bool, true, false, cond, ◌&&◌, List, [], ◌∷◌, ◌++◌, length, Option, Some, None, slice_get, slice_set, inl, inr, refl, sym, ap, ◌∙◌, subst, arith}
use Rattle.std.specs.List.{list_any}
use Rattle.std.specs.Prelude.{All, Contains, nat_le}
use Rattle.std.proofs.lemmas.Bool.{both_ways, cases_eq}
use Rattle.std.proofs.lemmas.List.{append-nil}
use Rattle.std.proofs.lemmas.List.Elements.{All-append, All-contains, All-nil, All-push, All-set, All-weaker, Contains-append_left}
use Rattle.std.proofs.lemmas.Option.{same_Some, slice_get_within}
use Rattle.perc_receiver.specs.Table.{Row, Table, Wrap}
use Rattle.perc_member.specs.Taken.{has_sent, has_wrapped, is_taken, number_at, sent_under, wrapped_under}
use Rattle.perc_member.specs.declared.member.Member as code_member
use Rattle.perc_member.specs.declared.member.TakenKey.{TakenKey}
use Rattle.perc_run.specs.State.{Datagram, State, datagram_at}
use Rattle.perc_sent.specs.Sent.{HasNumbers, HasPacketOf, HasRow, HasRowAt, HasRows, HasWrap, HasWraps, IsSentBy, IsSomebodys, IsWrappedBy, MirrorsSent}
use Rattle.perc_sent.proofs.Finding.{contains_at, place_of}
use Rattle.perc_sent.proofs.Rows.{datagram_place}

-- ---- places

pub at_set : {X : Type 0} (xs : List X) (k : ℕ) (y : X) → k < length xs → slice_get (slice_set xs k y) k ≡ Some y
at_set [] k y within = absurd (omega arith)
at_set (x ∷ xs) zero y within = refl
at_set (x ∷ xs) (suc k) y within = at_set xs k y (omega arith)

pub at_other : {X : Type 0} (xs : List X) (k i : ℕ) (y : X) → i ≢ k → slice_get (slice_set xs k y) i ≡ slice_get xs i
at_other [] k i y other = refl
at_other (x ∷ xs) zero zero y other = absurd (other refl)
at_other (x ∷ xs) zero (suc i) y other = refl
at_other (x ∷ xs) (suc k) zero y other = refl
at_other (x ∷ xs) (suc k) (suc i) y other = at_other xs k i y (λ e. other (ap suc e))

pub at_longer : {X : Type 0} (xs ys : List X) (i : ℕ) (x : X) → slice_get xs i ≡ Some x → slice_get (xs ++ ys) i ≡ Some x
at_longer [] ys i x at = absurd (cc)
at_longer (y ∷ xs) ys zero x at = at
at_longer (y ∷ xs) ys (suc i) x at = at_longer xs ys i x at

-- ---- more rows, wraps and datagrams

-- A state has the table and the datagrams of another, and more behind them.
pub record IsLonger (s t : State) : Type 0 where
  pub rows : List Row
  pub rows_are : t.table.rows ≡ s.table.rows ++ rows
  pub wraps : List Wrap
  pub wraps_are : t.table.wraps ≡ s.table.wraps ++ wraps
  pub datagrams : List Datagram
  pub datagrams_are : t.datagrams ≡ s.datagrams ++ datagrams

packet_longer : (row : Row) (datagrams more : List Datagram) (number : ℕ) → HasPacketOf row (datagram_at datagrams number)
    → HasPacketOf row (datagram_at (datagrams ++ more) number)
packet_longer row datagrams more number packet =
    elim (cases_eq number 0) [
      | inl none ↦ absurd (subst (λ (n : ℕ). HasPacketOf row (datagram_at datagrams n)) none packet)
      | inr some ↦
          let above : 0 < number = omega arith in
          subst (HasPacketOf row) (sym (datagram_place (datagrams ++ more) number above))
          (at (slice_get datagrams (number - 1)) refl (subst (HasPacketOf row) (datagram_place datagrams number above) packet))
    ]
  where
    at : (o : Option Datagram) → slice_get datagrams (number - 1) ≡ o → HasPacketOf row o → HasPacketOf row (slice_get (datagrams ++ more) (number - 1))
    at None e packet = absurd packet
    at (Some d) e packet = subst (HasPacketOf row) (sym (at_longer datagrams more (number - 1) d e)) packet

pub has_row_longer : (s t : State) (a b : code_member.Member) (spi : ℕ) (key : List ℕ) (index : ℕ) → IsLonger s t → b.ssrc ≡ a.ssrc → HasRow s a spi key index
    → HasRow t b spi key index
has_row_longer s t a b spi key index longer ssrc it = record {
  row = it.row;
  there = subst (λ (l : List Row). Contains l it.row) (sym longer.rows_are) (Contains-append_left s.table.rows longer.rows it.row it.there);
  ssrc = it.ssrc ∙ sym ssrc;
  spi_is = it.spi_is;
  key_is = it.key_is;
  index_is = it.index_is;
}

pub has_wrap_longer : (s t : State) (a b : code_member.Member) (spi : ℕ) (key : List ℕ) (roc : ℕ) → IsLonger s t → b.ssrc ≡ a.ssrc → HasWrap s a spi key roc
    → HasWrap t b spi key roc
has_wrap_longer s t a b spi key roc longer ssrc it = record {
  wrap = it.wrap;
  there = subst (λ (l : List Wrap). Contains l it.wrap) (sym longer.wraps_are) (Contains-append_left s.table.wraps longer.wraps it.wrap it.there);
  ssrc = it.ssrc ∙ sym ssrc;
  spi_is = it.spi_is;
  key_is = it.key_is;
  roc_is = it.roc_is;
}

pub has_row_at_longer : (s t : State) (a b : code_member.Member) (index : ℕ) → IsLonger s t → b.ssrc ≡ a.ssrc → HasRowAt s a index → HasRowAt t b index
has_row_at_longer s t a b index longer ssrc it = record {
  row = it.row;
  there = subst (λ (l : List Row). Contains l it.row) (sym longer.rows_are) (Contains-append_left s.table.rows longer.rows it.row it.there);
  ssrc = it.ssrc ∙ sym ssrc;
  index_is = it.index_is;
}

-- ---- a member of the code that changes

-- What it sent is found at it still.
pub record Keeps (a b : code_member.Member) : Type 0 where
  pub name : b.name ≡ a.name
  pub ssrc : b.ssrc ≡ a.ssrc
  pub first : b.first ≡ a.first
  pub number : (place number : ℕ) → slice_get a.sends.items place ≡ Some number → slice_get b.sends.items place ≡ Some number
  pub under : (spi : ℕ) (key : List ℕ) (index : ℕ) → sent_under a spi key index ≡ true → sent_under b spi key index ≡ true
  pub wrapped : (spi : ℕ) (key : List ℕ) (roc : ℕ) → wrapped_under a spi key roc ≡ true → wrapped_under b spi key roc ≡ true

-- What there is more, it sent; and it has nothing that there isn't.
pub record Grows (s t : State) (a b : code_member.Member) : Type 0 where
  pub longer : IsLonger s t
  pub keeps : Keeps a b
  pub rows : All (IsSentBy t b) longer.rows
  pub wraps : All (IsWrappedBy b) longer.wraps
  pub only_rows : HasRows s a → HasRows t b
  pub only_wraps : HasWraps s a → HasWraps t b
  pub only_numbers : HasNumbers s a → HasNumbers t b

sent_by_more : (s t : State) (a b : code_member.Member) (row : Row) → IsLonger s t → Keeps a b → IsSentBy s a row → IsSentBy t b row
sent_by_more s t a b row longer keeps it = record {
  ssrc = keeps.ssrc ∙ it.ssrc;
  sender = keeps.name ∙ it.sender;
  from = rw keeps.first it.from;
  number = rw keeps.first (keeps.number (row.index - a.first) row.datagram it.number);
  key = keeps.under row.spi row.key row.index it.key;
  packet = rw longer.datagrams_are (packet_longer row s.datagrams longer.datagrams row.datagram it.packet);
}

wrapped_by_more : (a b : code_member.Member) (w : Wrap) → Keeps a b → IsWrappedBy a w → IsWrappedBy b w
wrapped_by_more a b w keeps it = record { ssrc = keeps.ssrc ∙ it.ssrc; key = keeps.wrapped w.spi w.key w.roc it.key }

keeps_itself : (c : code_member.Member) → Keeps c c
keeps_itself c = record {
  name = refl;
  ssrc = refl;
  first = refl;
  number = λ place number at. at;
  under = λ spi key index sent. sent;
  wrapped = λ spi key roc sent. sent;
}

-- somebody of these, after a change at one place
somebody_set : {X : Type 0} (P Q : code_member.Member → X → Type 0) (cs : List code_member.Member) (k : ℕ) (a b : code_member.Member) (x : X) → slice_get cs k ≡ Some a
    → (P a x → Q b x) → ((c : code_member.Member) → P c x → Q c x) → IsSomebodys cs P x → IsSomebodys (slice_set cs k b) Q x
somebody_set P Q cs k a b x at here others it =
    let place = place_of cs it.member it.there in
    elim (cases_eq it.there.0 k) [
      | inl one ↦
          let same : it.member ≡ a = same_Some it.member a (sym place ∙ ap (slice_get cs) one ∙ at) in
          record {
            member = b;
            there = contains_at (slice_set cs k b) k b (at_set cs k b (slice_get_within cs k a at));
            is = here (subst (λ (c : code_member.Member). P c x) same it.is);
          }
      | inr other ↦ record {
        member = it.member;
        there = contains_at (slice_set cs k b) it.there.0 it.member (at_other cs k it.there.0 b other ∙ place);
        is = others it.member it.is;
      }
    ]

-- One of the members sent, and all is found at them still.
pub sent_grown : (cs : List code_member.Member) (s t : State) (k : ℕ) (a b : code_member.Member) → MirrorsSent cs s → slice_get cs k ≡ Some a → Grows s t a b
    → MirrorsSent (slice_set cs k b) t
sent_grown cs s t k a b sent at grows =
    let longer = grows.longer in
    let next : List code_member.Member = slice_set cs k b in
    let there : Contains next b = contains_at next k b (at_set cs k b (slice_get_within cs k a at)) in
    let own : Contains cs a = contains_at cs k a at in record {
      rows =
          subst (λ (l : List Row). All (IsSomebodys next (IsSentBy t)) l) (sym longer.rows_are)
          (All-append (IsSomebodys next (IsSentBy t)) s.table.rows longer.rows
          (All-weaker (IsSomebodys cs (IsSentBy s)) (IsSomebodys next (IsSentBy t))
          (λ row it.
          somebody_set (IsSentBy s) (IsSentBy t) cs k a b row at (sent_by_more s t a b row longer grows.keeps)
          (λ c is. sent_by_more s t c c row longer (keeps_itself c) is) it)
          s.table.rows sent.rows)
          (All-weaker (IsSentBy t b) (IsSomebodys next (IsSentBy t)) (λ row is. record { member = b; there = there; is = is }) longer.rows grows.rows));
      wraps =
          subst (λ (l : List Wrap). All (IsSomebodys next IsWrappedBy) l) (sym longer.wraps_are)
          (All-append (IsSomebodys next IsWrappedBy) s.table.wraps longer.wraps
          (All-weaker (IsSomebodys cs IsWrappedBy) (IsSomebodys next IsWrappedBy)
          (λ w it. somebody_set IsWrappedBy IsWrappedBy cs k a b w at (wrapped_by_more a b w grows.keeps) (λ c is. is) it)
          s.table.wraps sent.wraps)
          (All-weaker (IsWrappedBy b) (IsSomebodys next IsWrappedBy) (λ w is. record { member = b; there = there; is = is }) longer.wraps grows.wraps));
      only_rows =
          All-set (HasRows t) cs k b (grows.only_rows (All-contains (HasRows s) cs a sent.only_rows own))
          (All-weaker (HasRows s) (HasRows t) (λ c has spi key index is. has_row_longer s t c c spi key index longer refl (has spi key index is)) cs sent.only_rows);
      only_wraps =
          All-set (HasWraps t) cs k b (grows.only_wraps (All-contains (HasWraps s) cs a sent.only_wraps own))
          (All-weaker (HasWraps s) (HasWraps t) (λ c has spi key roc is. has_wrap_longer s t c c spi key roc longer refl (has spi key roc is)) cs sent.only_wraps);
      only_numbers =
          All-set (HasNumbers t) cs k b (grows.only_numbers (All-contains (HasNumbers s) cs a sent.only_numbers own))
          (All-weaker (HasNumbers s) (HasNumbers t) (λ c has index number is. has_row_at_longer s t c c index longer refl (has index number is)) cs sent.only_numbers);
    }

-- There are more datagrams, and all is found at the members still.
pub sent_longer : (cs : List code_member.Member) (s t : State) (more : List Datagram) → t.table ≡ s.table → t.datagrams ≡ s.datagrams ++ more → MirrorsSent cs s
    → MirrorsSent cs t
sent_longer cs s t more table datagrams sent =
    let longer : IsLonger s t = record {
      rows = [];
      rows_are = ap (λ (x : Table). x.rows) table ∙ sym (append-nil s.table.rows);
      wraps = [];
      wraps_are = ap (λ (x : Table). x.wraps) table ∙ sym (append-nil s.table.wraps);
      datagrams = more;
      datagrams_are = datagrams;
    } in record {
      rows =
          subst (λ (l : Table). All (IsSomebodys cs (IsSentBy t)) l.rows) (sym table)
          (All-weaker (IsSomebodys cs (IsSentBy s)) (IsSomebodys cs (IsSentBy t))
          (λ row it. record { member = it.member; there = it.there; is = sent_by_more s t it.member it.member row longer (keeps_itself it.member) it.is })
          s.table.rows sent.rows);
      wraps = subst (λ (l : Table). All (IsSomebodys cs IsWrappedBy) l.wraps) (sym table) sent.wraps;
      only_rows =
          All-weaker (HasRows s) (HasRows t) (λ c has spi key index is. has_row_longer s t c c spi key index longer refl (has spi key index is)) cs sent.only_rows;
      only_wraps =
          All-weaker (HasWraps s) (HasWraps t) (λ c has spi key roc is. has_wrap_longer s t c c spi key roc longer refl (has spi key roc is)) cs sent.only_wraps;
      only_numbers =
          All-weaker (HasNumbers s) (HasNumbers t) (λ c has index number is. has_row_at_longer s t c c index longer refl (has index number is)) cs sent.only_numbers;
    }

-- The table and the datagrams are the same.
pub sent_moved : (cs : List code_member.Member) (s t : State) → t.table ≡ s.table → t.datagrams ≡ s.datagrams → MirrorsSent cs s → MirrorsSent cs t
sent_moved cs s t table datagrams sent = sent_longer cs s t [] table (datagrams ∙ sym (append-nil s.datagrams)) sent

-- ---- a change of a member that sends nothing by it

-- What it sent is found at it as before, and nothing else is.
pub record KeepsSent (a b : code_member.Member) : Type 0 where
  pub ssrc : b.ssrc ≡ a.ssrc
  pub name : b.name ≡ a.name
  pub first : b.first ≡ a.first
  pub sends : b.sends.items ≡ a.sends.items
  pub under : (spi : ℕ) (key : List ℕ) (index : ℕ) → sent_under b spi key index ≡ sent_under a spi key index
  pub wrapped : (spi : ℕ) (key : List ℕ) (roc : ℕ) → wrapped_under b spi key roc ≡ wrapped_under a spi key roc

same_number : (a b : code_member.Member) (index : ℕ) → KeepsSent a b → number_at b index ≡ number_at a index
same_number a b index keeps = rw (keeps.first, keeps.sends) refl

pub sent_kept : (cs : List code_member.Member) (s : State) (k : ℕ) (a b : code_member.Member) → MirrorsSent cs s → slice_get cs k ≡ Some a → KeepsSent a b
    → MirrorsSent (slice_set cs k b) s
sent_kept cs s k a b sent at keeps =
    let longer : IsLonger s s = record {
      rows = [];
      rows_are = sym (append-nil s.table.rows);
      wraps = [];
      wraps_are = sym (append-nil s.table.wraps);
      datagrams = [];
      datagrams_are = sym (append-nil s.datagrams);
    } in
    sent_grown cs s s k a b sent at (record {
      longer = longer;
      keeps = record {
        name = keeps.name;
        ssrc = keeps.ssrc;
        first = keeps.first;
        number = λ place number is. ap (λ (l : List ℕ). slice_get l place) keeps.sends ∙ is;
        under = λ spi key index is. keeps.under spi key index ∙ is;
        wrapped = λ spi key roc is. keeps.wrapped spi key roc ∙ is;
      };
      rows = All-nil (IsSentBy s b);
      wraps = All-nil (IsWrappedBy b);
      only_rows = λ has spi key index is. has_row_longer s s a b spi key index longer keeps.ssrc (has spi key index (sym (keeps.under spi key index) ∙ is));
      only_wraps = λ has spi key roc is. has_wrap_longer s s a b spi key roc longer keeps.ssrc (has spi key roc (sym (keeps.wrapped spi key roc) ∙ is));
      only_numbers = λ has index number is. has_row_at_longer s s a b index longer keeps.ssrc (has index number (sym (same_number a b index keeps) ∙ is));
    })

-- ---- a key that is taken

any_push_none : {X : Type 0} (p : X → Bool) (xs : List X) (y : X) → p y ≡ false → list_any p (xs ++ y ∷ []) ≡ list_any p xs
any_push_none p [] y none = rw none refl
any_push_none p (x ∷ xs) y none = rw (any_push_none p xs y none) refl

and_none : (b : Bool) → (b && false) ≡ false
and_none true = refl
and_none false = refl

-- a key under which nothing went out
abbrev pub fresh : ℕ → List ℕ → TakenKey
fresh spi key = record { spi = spi; key = key; sent = None }

pub takes_key : (a b : code_member.Member) (spi : ℕ) (key : List ℕ) → b.ssrc ≡ a.ssrc → b.name ≡ a.name → b.first ≡ a.first → b.sends.items ≡ a.sends.items
    → b.keys.items ≡ a.keys.items ++ fresh spi key ∷ [] → KeepsSent a b
takes_key a b spi key ssrc name first sends keys = record {
  ssrc = ssrc;
  name = name;
  first = first;
  sends = sends;
  under = λ of under index.
      ap (list_any (λ k. is_taken of under k && has_sent index k)) keys
      ∙ any_push_none (λ k. is_taken of under k && has_sent index k) a.keys.items (fresh spi key) (and_none (is_taken of under (fresh spi key)));
  wrapped = λ of under roc.
      ap (list_any (λ k. is_taken of under k && has_wrapped roc k)) keys
      ∙ any_push_none (λ k. is_taken of under k && has_wrapped roc k) a.keys.items (fresh spi key) (and_none (is_taken of under (fresh spi key)));
}

-- ---- a member that joins

somebody_push : {X : Type 0} (P : code_member.Member → X → Type 0) (cs : List code_member.Member) (b : code_member.Member) (x : X) → IsSomebodys cs P x
    → IsSomebodys (cs ++ b ∷ []) P x
somebody_push P cs b x it = record { member = it.member; there = Contains-append_left cs (b ∷ []) it.member it.there; is = it.is }

no_numbers : (b : code_member.Member) (index number : ℕ) → b.sends.items ≡ [] → number_at b index ≡ Some number → ⊥
no_numbers b index number none is = by (nat_le b.first index) (sym (ap (λ (l : List ℕ). at l) none) ∙ is) where
  at : List ℕ → Option ℕ
  at l = cond (nat_le b.first index) (slice_get l (index - b.first)) None

  by : (t : Bool) → cond t (slice_get {X = ℕ} [] (index - b.first)) None ≡ Some number → ⊥
  by true e = cc
  by false e = cc

-- A member that joins with a key sent nothing.
pub sent_joined : (cs : List code_member.Member) (s : State) (b : code_member.Member) (spi : ℕ) (key : List ℕ) → MirrorsSent cs s → b.sends.items ≡ []
    → b.keys.items ≡ fresh spi key ∷ [] → MirrorsSent (cs ++ b ∷ []) s
sent_joined cs s b spi key sent sends keys = record {
  rows = All-weaker (IsSomebodys cs (IsSentBy s)) (IsSomebodys (cs ++ b ∷ []) (IsSentBy s)) (λ row it. somebody_push (IsSentBy s) cs b row it) s.table.rows sent.rows;
  wraps = All-weaker (IsSomebodys cs IsWrappedBy) (IsSomebodys (cs ++ b ∷ []) IsWrappedBy) (λ w it. somebody_push IsWrappedBy cs b w it) s.table.wraps sent.wraps;
  only_rows = All-push (HasRows s) cs b sent.only_rows λ of under index is.
      let none =
      ap (list_any (λ k. is_taken of under k && has_sent index k)) keys
      ∙ any_push_none (λ k. is_taken of under k && has_sent index k) [] (fresh spi key) (and_none (is_taken of under (fresh spi key))) in
      absurd (both_ways (sent_under b of under index) none is);
  only_wraps = All-push (HasWraps s) cs b sent.only_wraps λ of under roc is.
      let none =
      ap (list_any (λ k. is_taken of under k && has_wrapped roc k)) keys
      ∙ any_push_none (λ k. is_taken of under k && has_wrapped roc k) [] (fresh spi key) (and_none (is_taken of under (fresh spi key))) in
      absurd (both_ways (wrapped_under b of under roc) none is);
  only_numbers = All-push (HasNumbers s) cs b sent.only_numbers (λ index number is. absurd (no_numbers b index number sends is));
}
