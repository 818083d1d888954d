-- A genuine packet is accepted.
use Rattle.std.proofs.Common.{◌≡◌, ℕ, ◌+◌, ◌*◌, ◌/◌, ◌%◌, ◌<◌, ◌≤◌, zero, suc, Bool, true, false, not, ◌||◌, List, [], ◌∷◌, length, get_or, Option, Some, None, Result, Ok, Err, refl, ap, ◌∙◌, sym, subst, arith}
use Rattle.std.specs.Prelude.{nat_lt, Contains, find, is_some, MatchOption}
use Rattle.std.specs.List.{filter_map, cons_option}
use Rattle.std.specs.Option.{option_map, option_map_or}
use Rattle.std.proofs.lemmas.Bool.{cond-false, eq-eqb, le-ltb}
use Rattle.std.proofs.lemmas.List.Elements.{All-contains}
use Rattle.perc_window.specs.Index.{nearest}
use Rattle.perc_window.specs.Replay.{freshness, greatest}
use Rattle.perc_window.specs.declared.window.Freshness.TheVariants.{Fresh}
use Rattle.perc_rtp.specs.Header.{Header}
use Rattle.perc_rtp.specs.Padding.{payload_of}
use Rattle.perc_srtp.proofs.PacketLaws.{length-sealed_body}
use Rattle.perc_ekt.specs.Field.{Field, Short, Full, Extension}
use Rattle.perc_contexts.specs.Receiving.{Attempt, Carried, Context, at_nearest, attempt_at, carried_context, context_of, is_full, is_live, is_of, new_context, newest_of, tries}
use Rattle.perc_contexts.specs.declared.KeyLimit.{KeyLimit}
use Rattle.perc_contexts.proofs.Names.{is_of-parts}
use Rattle.perc_contexts.proofs.ReceivingLaws.{found_of}
use Rattle.perc_outer.specs.Datagram as outer
use Rattle.perc_outer.specs.Datagram.{Opened, original_header}
use Rattle.perc_receiver.specs.declared.refusal.Refusal.TheVariants as refusal
use Rattle.perc_receiver.specs.Table.{IsRight, IsRightRow, IsSealedUnder, Row, Secret, Table, Wrap, body_of, inner_keys, secret_of}
use Rattle.perc_receiver.specs.Opener.{Opener, by_table, is_row, is_wrap, wrap_of}
use Rattle.perc_receiver.specs.Receiver.{Accepted, OpenTry, Receiver, carried_by, heard, heard_reach, ideal, is_fresh, judged, judged_carried, judged_open, judged_tries, live_of, opening, openings, reach_of, some_tries, without_padding}
use Rattle.perc_receiver.specs.Calls.{IsAcceptedAs, IsCarried, IsGenuine, IsKeyKnown, IsRow, IsTried, IsWrapFor, accepted_under}
use Rattle.perc_receiver.proofs.Headers.{IsRowOf, is_row-made, is_wrap-parts}
use Rattle.perc_receiver.proofs.Secrets.{some_found}
use Rattle.perc_receiver.proofs.Tried.{context_held, context_new, tries_carried, tries_nearest, tries_under}
use Rattle.perc_receiver.proofs.Taken.{decided_some, is_opening, judged_taken, opens_fresh, opens_row, row_payload, taken_row}

-- ---- one of a list, and what becomes of it

behind : {Y : Type 0} (o : Option Y) (ys : List Y) (y : Y) → Contains ys y → Contains (cons_option o ys) y
behind None ys y there = there
behind (Some x) ys y there = (suc there.0, omega arith, there.2)

mapped_in : {X Y : Type 0} (f : X → Option Y) (xs : List X) (k : ℕ) (x : X) (y : Y) → k < length xs → get_or xs k x ≡ x → f x ≡ Some y → Contains (filter_map f xs) y
mapped_in f [] k x y within is e = absurd (omega arith)
mapped_in f (z ∷ xs) zero x y within is e = rw (ap f is ∙ e) (0, omega arith, refl)
mapped_in f (z ∷ xs) (suc k) x y within is e = behind (f z) (filter_map f xs) y (mapped_in f xs k x y (omega arith) is e)

contains_mapped : {X Y : Type 0} (f : X → Option Y) (xs : List X) (x : X) (y : Y) → Contains xs x → f x ≡ Some y → Contains (filter_map f xs) y
contains_mapped f xs x y there e = mapped_in f xs there.0 x y there.1 there.2 e

-- ---- the try of a row

-- The row's context, at its index, is one of the tries, and fresh.
pub record IsReady (table : Table) (r : Receiver) (o : Opened) (row : Row) : Type 0 where
  pub carried : Option Carried
  pub attempts : List Attempt
  pub context : Context
  pub carries : carried_by (by_table table) r.secrets o.header.ssrc o.field ≡ Ok carried
  pub tries_are : tries r.contexts o.header.ssrc (original_header o).seq carried ≡ Ok attempts
  pub tried : Contains attempts (record { context = context; index = row.index })
  pub spi : row.spi ≡ context.spi
  pub ssrc : row.ssrc ≡ context.ssrc
  pub key : row.key ≡ context.key
  pub fresh : freshness context.accepted row.index ≡ Fresh

-- What is so of a reached row: it is right, and its header and inner octets are those of the packet.
pub record IsReached (issued : List Secret) (o : Opened) (row : Row) : Type 0 where
  pub right : IsRightRow issued row
  pub header : original_header o ≡ row.header
  pub inner : o.inner ≡ row.inner

its_ssrc : (issued : List Secret) (o : Opened) (row : Row) → IsReached issued o row → o.header.ssrc ≡ row.ssrc
its_ssrc issued o row is = ap (λ (h : Header). h.ssrc) is.header ∙ is.right.ssrc

its_seq : (issued : List Secret) (o : Opened) (row : Row) → IsReached issued o row → (original_header o).seq ≡ row.index % 65536
its_seq issued o row is = ap (λ (h : Header). h.seq) is.header ∙ is.right.seq

under_held : (contexts : List Context) (row : Row) (c : Context) → context_of contexts row.spi row.ssrc row.key ≡ Some c → accepted_under contexts row ≡ c.accepted
under_held contexts row c e = ap (λ (o : Option Context). option_map_or (λ c. c.accepted) o []) e

under_none : (contexts : List Context) (row : Row) → context_of contexts row.spi row.ssrc row.key ≡ None → accepted_under contexts row ≡ []
under_none contexts row e = ap (λ (o : Option Context). option_map_or (λ c. c.accepted) o []) e

-- under one of the newest contexts
ready_newest : (issued : List Secret) (table : Table) (r : Receiver) (o : Opened) (row : Row) (c : Context) → IsReached issued o row
    → carried_by (by_table table) r.secrets o.header.ssrc o.field ≡ Ok None → freshness (accepted_under r.contexts row) row.index ≡ Fresh → IsTried r row c
    → IsReady table r o row
ready_newest issued table r o row c is none fresh known =
    let parts = is_of-parts row.spi row.ssrc row.key c (found_of (is_of row.spi row.ssrc row.key) r.contexts c known.held).1 in
    let seq : (original_header o).seq ≡ row.header.seq = ap (λ (h : Header). h.seq) is.header in
    let at : nearest (greatest c.accepted) (original_header o).seq ≡ Some row.index = ap (nearest (greatest c.accepted)) seq ∙ known.nearest in
    let newest : Contains (newest_of r.contexts o.header.ssrc) c =
    subst (λ (s : ℕ). Contains (newest_of r.contexts s) c) (sym (its_ssrc issued o row is)) known.newest in record {
      carried = None;
      attempts = at_nearest (newest_of r.contexts o.header.ssrc) (original_header o).seq;
      context = c;
      carries = none;
      tries_are = tries_nearest r.contexts o.header.ssrc (original_header o).seq;
      tried = contains_mapped (attempt_at (original_header o).seq) (newest_of r.contexts o.header.ssrc) c (record { context = c; index = row.index }) newest
          (ap (option_map (λ (index : ℕ). record { context = c; index = index })) at);
      spi = sym parts.0;
      ssrc = sym parts.1;
      key = sym parts.2;
      fresh = subst (λ (accepted : List ℕ). freshness accepted row.index ≡ Fresh) (under_held r.contexts row c known.held) fresh;
    }

-- the key that a wrap tells, under an SPI
abbrev told_key : ℕ → Wrap → Carried
told_key spi w = record { spi = spi; key = w.key; roc = w.roc }

carries_told : (table : Table) (secrets : List Secret) (ssrc spi epoch : ℕ) (octets : List ℕ) (w : Wrap) → is_live (live_of secrets) spi ≡ true
    → wrap_of table spi octets ≡ Some w → w.ssrc ≡ ssrc → carried_by (by_table table) secrets ssrc (Full octets spi epoch) ≡ Ok (Some (told_key spi w))
carries_told table secrets ssrc spi epoch octets w live e same = rw (live, e, eq-eqb w.ssrc ssrc same) refl

-- under the context of a carried key
ready_under : (issued : List Secret) (table : Table) (r : Receiver) (o : Opened) (row : Row) (key : Carried) (c : Context) → IsReached issued o row
    → carried_by (by_table table) r.secrets o.header.ssrc o.field ≡ Ok (Some key) → key.roc ≡ row.index / 65536
    → carried_context r.contexts o.header.ssrc key ≡ Ok c → (c.spi ≡ row.spi) × (c.ssrc ≡ row.ssrc) × (c.key ≡ row.key) → freshness c.accepted row.index ≡ Fresh
    → IsReady table r o row
ready_under issued table r o row key c is carries roc at parts fresh =
    let seq = its_seq issued o row is in
    let index : key.roc * 65536 + (original_header o).seq ≡ row.index = omega arith in record {
      carried = Some key;
      attempts = tries_under r.contexts o.header.ssrc (original_header o).seq key c;
      context = c;
      carries = carries;
      tries_are = tries_carried r.contexts o.header.ssrc (original_header o).seq key c at;
      tried = (0, omega arith, λ i. record { context = c; index = index i });
      spi = sym parts.0;
      ssrc = sym parts.1;
      key = sym parts.2;
      fresh = fresh;
    }

room_left : (full : Bool) → (false || not full) ≡ true → full ≡ false
room_left true h = absurd (cc)
room_left false h = refl

ready_by : (issued : List Secret) (table : Table) (r : Receiver) (o : Opened) (row : Row) (key : Carried) (found : Option Context) → IsReached issued o row
    → carried_by (by_table table) r.secrets o.header.ssrc o.field ≡ Ok (Some key) → key.spi ≡ row.spi → key.key ≡ row.key → key.roc ≡ row.index / 65536
    → context_of r.contexts row.spi row.ssrc row.key ≡ found → (is_some found || not (is_full r.contexts row.spi row.ssrc)) ≡ true
    → freshness (accepted_under r.contexts row) row.index ≡ Fresh → IsReady table r o row
ready_by issued table r o row key (Some c) is carries spi its_key roc e room fresh =
    let ssrc = its_ssrc issued o row is in
    let at : context_of r.contexts key.spi o.header.ssrc key.key ≡ Some c = (λ i. context_of r.contexts (spi i) (ssrc i) (its_key i)) ∙ e in
    ready_under issued table r o row key c is carries roc (context_held r.contexts o.header.ssrc key c at)
    (is_of-parts row.spi row.ssrc row.key c (found_of (is_of row.spi row.ssrc row.key) r.contexts c e).1)
    (subst (λ (accepted : List ℕ). freshness accepted row.index ≡ Fresh) (under_held r.contexts row c e) fresh)
ready_by issued table r o row key None is carries spi its_key roc e room fresh =
    let ssrc = its_ssrc issued o row is in
    let at : context_of r.contexts key.spi o.header.ssrc key.key ≡ None = (λ i. context_of r.contexts (spi i) (ssrc i) (its_key i)) ∙ e in
    let full : is_full r.contexts key.spi o.header.ssrc ≡ false =
    (λ i. is_full r.contexts (spi i) (ssrc i)) ∙ room_left (is_full r.contexts row.spi row.ssrc) room in
    ready_under issued table r o row key (new_context o.header.ssrc key) is carries roc (context_new r.contexts o.header.ssrc key at full) (spi, ssrc, its_key)
    (subst (λ (accepted : List ℕ). freshness accepted row.index ≡ Fresh) (under_none r.contexts row e) fresh)

ready_carried : (issued : List Secret) (table : Table) (r : Receiver) (o : Opened) (row : Row) (octets : List ℕ) (spi epoch : ℕ) → IsReached issued o row
    → o.field ≡ Full octets spi epoch → freshness (accepted_under r.contexts row) row.index ≡ Fresh → IsCarried table r row octets spi → IsReady table r o row
ready_carried issued table r o row octets spi epoch is field fresh known =
    let w : Wrap = known.wrap.0 in
    let for : IsWrapFor row w = known.wrap.2 in
    let parts = is_wrap-parts spi octets w (found_of (is_wrap spi octets) table.wraps w known.wrap.1).1 in
    let carries : carried_by (by_table table) r.secrets o.header.ssrc o.field ≡ Ok (Some (told_key spi w)) =
    ap (carried_by (by_table table) r.secrets o.header.ssrc) field
    ∙ carries_told table r.secrets o.header.ssrc spi epoch octets w known.live known.wrap.1 (for.ssrc ∙ sym (its_ssrc issued o row is)) in
    ready_by issued table r o row (told_key spi w) (context_of r.contexts row.spi row.ssrc row.key) is carries (sym parts.0 ∙ for.spi) for.key for.roc refl known.room fresh

pub ready : (issued : List Secret) (table : Table) (r : Receiver) (o : Opened) (row : Row) (field : Field) → IsReached issued o row → o.field ≡ field
    → freshness (accepted_under r.contexts row) row.index ≡ Fresh → IsKeyKnown table r row field → IsReady table r o row
ready issued table r o row Short is field fresh known =
    ready_newest issued table r o row known.0 is (ap (carried_by (by_table table) r.secrets o.header.ssrc) field) fresh known.1
ready issued table r o row (Extension octets kind) is field fresh known =
    ready_newest issued table r o row known.0 is (ap (carried_by (by_table table) r.secrets o.header.ssrc) field) fresh known.1
ready issued table r o row (Full octets spi epoch) is field fresh known = ready_carried issued table r o row octets spi epoch is field fresh known

-- ---- it is accepted

long_by : (row : Row) (s : Option Secret) → MatchOption s ⊥ (IsSealedUnder row) → 16 ≤ length row.inner
long_by row None under = absurd under
long_by row (Some s) under =
    omega (arith, ap length under.inner, length-sealed_body (inner_keys s row.key) row.index row.header (body_of row))

not_short : (issued : List Secret) (o : Opened) (row : Row) → IsReached issued o row → nat_lt (length o.inner) 16 ≡ false
not_short issued o row is =
    let long = long_by row (secret_of issued row.spi) is.right.sealed in
    le-ltb (length o.inner) 16 (subst (λ (xs : List ℕ). 16 ≤ length xs) (sym is.inner) long)

some_are : (attempts : List Attempt) (a : Attempt) → Contains attempts a → some_tries (Ok attempts) ≡ Ok attempts
some_are [] a there = absurd (omega (arith, there.1))
some_are (b ∷ attempts) a there = refl

-- what is answered, where a fresh try opens to a body that is padded right
record IsOpened (f : Opener) (r : Receiver) (o : Opened) (carried : Option Carried) (attempts : List Attempt) (first : OpenTry) (payload : List ℕ) : Type 0 where
  long : nat_lt (length o.inner) 16 ≡ false
  carries : carried_by f r.secrets o.header.ssrc o.field ≡ Ok carried
  tries_are : tries r.contexts o.header.ssrc (original_header o).seq carried ≡ Ok attempts
  some : some_tries (Ok attempts) ≡ Ok attempts
  found : find opens_fresh (openings f (original_header o) o.inner attempts) ≡ Some first
  padded : payload_of (original_header o).padding first.body ≡ Some payload

judged_is : (f : Opener) (r : Receiver) (o : Opened) (carried : Option Carried) (attempts : List Attempt) (first : OpenTry) (payload : List ℕ)
    → IsOpened f r o carried attempts first payload
    → judged f r o ≡ Ok (record { attempt = first.attempt; header = original_header o; payload = payload })
unfolding judged
judged_is f r o carried attempts first payload is =
    let h : Header = original_header o in
    cond-false (nat_lt (length o.inner) 16) (Err refusal.InnerShort) (judged_carried f r.contexts h o.inner (carried_by f r.secrets o.header.ssrc o.field)) is.long
    ∙ ap (judged_carried f r.contexts h o.inner) is.carries
    ∙ ap (λ (t : Result (List Attempt) KeyLimit). judged_tries f h o.inner (some_tries t)) is.tries_are
    ∙ ap (judged_tries f h o.inner) is.some
    ∙ ap (judged_open h) (decided_some (openings f h o.inner attempts) first is.found)
    ∙ ap (without_padding h first) is.padded

-- The row's own try opens.
row_opened : (table : Table) (r : Receiver) (o : Opened) (row : Row) (issued : List Secret) → IsReached issued o row → Contains table.rows row → (ready : IsReady table r o row)
    → (first : OpenTry) × (find opens_fresh (openings (by_table table) (original_header o) o.inner ready.attempts) ≡ Some first)
row_opened table r o row issued is there ready =
    let a : Attempt = record { context = ready.context; index = row.index } in
    let h : Header = original_header o in
    let of_row : IsRowOf a.context a.index h o.inner row =
    record { spi = ready.spi; ssrc = ready.ssrc; key = ready.key; index_is = refl; header = sym is.header; inner = sym is.inner } in
    let found = some_found (is_row a.context a.index h o.inner) table.rows row there (is_row-made a.context a.index h o.inner row of_row) in
    let body : (by_table table).body a.context a.index h o.inner ≡ Some (body_of found.0) = ap (option_map body_of) found.1 in
    let one : OpenTry = record { attempt = a; body = body_of found.0 } in
    let opened : opening (by_table table) h o.inner a ≡ Some one = ap (option_map (λ (b : List ℕ). record { attempt = a; body = b })) body in
    some_found opens_fresh (openings (by_table table) h o.inner ready.attempts) one
    (contains_mapped (opening (by_table table) h o.inner) ready.attempts a one ready.tried opened) (ap is_fresh ready.fresh)

genuine_judged : (issued : List Secret) (table : Table) (r : Receiver) (o : Opened) (row : Row) → IsRight issued table → IsReached issued o row
    → Contains table.rows row → IsReady table r o row → (a : Accepted) × (judged (by_table table) r o ≡ Ok a)
genuine_judged issued table r o row right is there ready =
    let h : Header = original_header o in
    let first = row_opened table r o row issued is there ready in
    let t : OpenTry = first.0 in
    let at = is_opening (by_table table) h o.inner ready.attempts t (found_of opens_fresh (openings (by_table table) h o.inner ready.attempts) t first.1).0 in
    let found = opens_row table t.attempt.context t.attempt.index h o.inner t.body at.opens in
    let padded = row_payload issued found.0 h t.body (All-contains (IsRightRow issued) table.rows found.0 right.rows found.1) found.2.header found.3 in
    let opened : IsOpened (by_table table) r o ready.carried ready.attempts t found.0.payload = record {
      long = not_short issued o row is;
      carries = ready.carries;
      tries_are = ready.tries_are;
      some = some_are ready.attempts (record { context = ready.context; index = row.index }) ready.tried;
      found = first.1;
      padded = padded;
    } in
    (record { attempt = t.attempt; header = h; payload = found.0.payload }, judged_is (by_table table) r o ready.carried ready.attempts t found.0.payload opened)

heard_at : (f : Opener) (r : Receiver) (datagram : List ℕ) (o : Opened) → reach_of r datagram ≡ outer.Reached o → (heard f r datagram).0 ≡ judged f r o
unfolding heard
heard_at f r datagram o e = ap (heard_reach f r) e

pub genuine_accepted : (issued : List Secret) (table : Table) (r : Receiver) (datagram : List ℕ) (o : Opened) (row : Row) → IsRight issued table
    → IsGenuine table r datagram o row → IsAcceptedAs table row (ideal table r datagram).0
genuine_accepted issued table r datagram o row right genuine =
    let is : IsReached issued o row =
    record { right = All-contains (IsRightRow issued) table.rows row right.rows genuine.sent; header = genuine.header; inner = genuine.inner } in
    let own = ready issued table r o row o.field is refl genuine.fresh genuine.known in
    let j = genuine_judged issued table r o row right is genuine.sent own in
    let a : Accepted = j.0 in
    let of_row = taken_row issued table r o a right (judged_taken (by_table table) r o a j.1) in record {
      accepted = (
        a,
        heard_at (by_table table) r datagram o genuine.reached ∙ j.1,
        (of_row.0, of_row.1, of_row.4),
        λ alone. subst (λ (x : Row). IsRow x a) (alone of_row.0 of_row.1 (of_row.2 ∙ genuine.header) (of_row.3 ∙ genuine.inner)) of_row.4,
      );
    }
