-- What is accepted, by any opener; by the table it is a row.
use Rattle.std.proofs.Common.{◌≡◌, ℕ, suc, Bool, true, false, cond, List, [], ◌∷◌, length, Option, Some, None, Result, Ok, Err, refl, ap, ◌∙◌, sym, subst, arith}
use Rattle.std.specs.Prelude.{nat_lt, Contains, find}
use Rattle.std.specs.List.{AllByRecursion, cons_option}
use Rattle.std.specs.Option.{option_map}
use Rattle.std.proofs.lemmas.List.Elements.{All-contains, All-from_recursion}
use Rattle.perc_window.specs.declared.window.Freshness.{Freshness}
use Rattle.perc_window.specs.declared.window.Freshness.TheVariants.{Fresh, Repeated, TooOld}
use Rattle.perc_rtp.specs.Header.{Header}
use Rattle.perc_rtp.specs.Padding.{payload_of}
use Rattle.perc_rtp.proofs.HeaderLaws.{padding_comes_off}
use Rattle.perc_contexts.specs.Receiving.{Attempt, Carried, Context, freshness_of, tries}
use Rattle.perc_contexts.proofs.ReceivingLaws.{found_of}
use Rattle.perc_outer.specs.Datagram as outer
use Rattle.perc_outer.specs.Datagram.{Opened, Reach, original_header}
use Rattle.perc_receiver.specs.declared.refusal.Refusal.{Refusal}
use Rattle.perc_receiver.specs.declared.refusal.Refusal.TheVariants as refusal
use Rattle.perc_receiver.specs.Table.{IsRight, IsRightRow, Row, Secret, Table, body_of}
use Rattle.perc_receiver.specs.Opener.{Opener, by_table, is_row, row_of}
use Rattle.perc_receiver.specs.Receiver.{Accepted, OpenTry, Receiver, carried_by, decided, heard, heard_reach, ideal, is_fresh, judged}
use Rattle.perc_receiver.specs.Receiver.{judged_carried, judged_open, judged_tries, live_of, openings, reach_of, some_tries, stale, without_padding}
use Rattle.perc_receiver.specs.Calls.{IsRow, IsSent}
use Rattle.perc_receiver.proofs.Headers.{IsRowOf, is_row-parts}
use Rattle.perc_receiver.proofs.Tried.{IsLiveKey, IsTriedUnder, one_tried}
use Rattle.perc_receiver.proofs.Agreeing.{carries_live, tries_are}

-- ---- openings

-- The opening is that of one of these tries.
pub record IsOpening (f : Opener) (h : Header) (octets : List ℕ) (attempts : List Attempt) (o : OpenTry) : Type 0 where
  pub tried : Contains attempts o.attempt
  pub opens : f.body o.attempt.context o.attempt.index h octets ≡ Some o.body

later : {X : Type 0} (y : X) (xs : List X) (x : X) → Contains xs x → Contains (y ∷ xs) x
later y xs x h = (suc h.0, omega arith, h.2)

openings_later : (f : Opener) (h : Header) (octets : List ℕ) (a : Attempt) (attempts : List Attempt) (opened : List OpenTry)
    → AllByRecursion (IsOpening f h octets attempts) opened → AllByRecursion (IsOpening f h octets (a ∷ attempts)) opened
openings_later f h octets a attempts [] all = tt
openings_later f h octets a attempts (o ∷ opened) all =
    (record { tried = later a attempts o.attempt all.0.tried; opens = all.0.opens }, openings_later f h octets a attempts opened all.1)

opening_first : (f : Opener) (h : Header) (octets : List ℕ) (a : Attempt) (attempts : List Attempt) (opened : List OpenTry) (o : Option (List ℕ))
    → f.body a.context a.index h octets ≡ o → AllByRecursion (IsOpening f h octets (a ∷ attempts)) opened
    → AllByRecursion (IsOpening f h octets (a ∷ attempts)) (cons_option (option_map (λ body. record { attempt = a; body = body }) o) opened)
opening_first f h octets a attempts opened None e all = all
opening_first f h octets a attempts opened (Some body) e all = (record { tried = (0, omega arith, refl); opens = e }, all)

each_opening : (f : Opener) (h : Header) (octets : List ℕ) (attempts : List Attempt) → AllByRecursion (IsOpening f h octets attempts) (openings f h octets attempts)
each_opening f h octets [] = tt
each_opening f h octets (a ∷ attempts) =
    opening_first f h octets a attempts (openings f h octets attempts) (f.body a.context a.index h octets) refl
    (openings_later f h octets a attempts (openings f h octets attempts) (each_opening f h octets attempts))

pub is_opening : (f : Opener) (h : Header) (octets : List ℕ) (attempts : List Attempt) (o : OpenTry) → Contains (openings f h octets attempts) o
    → IsOpening f h octets attempts o
is_opening f h octets attempts o there =
    All-contains (IsOpening f h octets attempts) (openings f h octets attempts) o
    (All-from_recursion (IsOpening f h octets attempts) (openings f h octets attempts) (each_opening f h octets attempts)) there

-- ---- what is decided

pub fresh_is : (f : Freshness) → is_fresh f ≡ true → f ≡ Fresh
fresh_is Fresh h = refl
fresh_is Repeated h = absurd (cc)
fresh_is TooOld h = absurd (cc)

abbrev pub opens_fresh : OpenTry → Bool
opens_fresh o = is_fresh (freshness_of o.attempt)

pub decided_some : (opened : List OpenTry) (o : OpenTry) → find opens_fresh opened ≡ Some o → decided opened ≡ Ok o
decided_some opened o e = rw e refl

decided_by : (opened : List OpenTry) (o : OpenTry) (found : Option OpenTry) → find opens_fresh opened ≡ found → decided opened ≡ Ok o → find opens_fresh opened ≡ Some o
decided_by opened o (Some x) e h =
    let same : ◌≡◌ {A = Result OpenTry Refusal} (Ok x) (Ok o) = sym (decided_some opened x e) ∙ h in let is : x ≡ o = cc in e ∙ ap Some is
decided_by opened o None e h = let bad : ◌≡◌ {A = Result OpenTry Refusal} (Err (stale opened)) (Ok o) = rw e at h in absurd (cc)

pub decided_is : (opened : List OpenTry) (o : OpenTry) → decided opened ≡ Ok o → Contains opened o × (freshness_of o.attempt ≡ Fresh)
decided_is opened o h =
    let it = found_of opens_fresh opened o (decided_by opened o (find opens_fresh opened) refl h) in
    (it.0, fresh_is (freshness_of o.attempt) it.1)

-- ---- what is accepted

-- An accepted packet: by a fresh one of its tries, which opens to a body that is padded right.
pub record IsTaken (f : Opener) (r : Receiver) (o : Opened) (a : Accepted) : Type 0 where
  pub carried : Option Carried
  pub attempts : List Attempt
  pub body : List ℕ
  pub carries : carried_by f r.secrets o.header.ssrc o.field ≡ Ok carried
  pub tries_are : tries r.contexts o.header.ssrc (original_header o).seq carried ≡ Ok attempts
  pub tried : Contains attempts a.attempt
  pub fresh : freshness_of a.attempt ≡ Fresh
  pub opens : f.body a.attempt.context a.attempt.index (original_header o) o.inner ≡ Some body
  pub header : a.header ≡ original_header o
  pub payload : payload_of (original_header o).padding body ≡ Some a.payload

-- the same, of a header and octets
record IsTakenBy (f : Opener) (h : Header) (octets : List ℕ) (attempts : List Attempt) (a : Accepted) : Type 0 where
  body : List ℕ
  tried : Contains attempts a.attempt
  fresh : freshness_of a.attempt ≡ Fresh
  opens : f.body a.attempt.context a.attempt.index h octets ≡ Some body
  header : a.header ≡ h
  payload : payload_of h.padding body ≡ Some a.payload

payload_by : (h : Header) (o : OpenTry) (a : Accepted) (p : Option (List ℕ)) → payload_of h.padding o.body ≡ p → without_padding h o p ≡ Ok a
    → (a.attempt ≡ o.attempt) × (a.header ≡ h) × (payload_of h.padding o.body ≡ Some a.payload)
payload_by h o a None e j = absurd (cc)
payload_by h o a (Some payload) e j =
    let same : record { attempt = o.attempt; header = h; payload = payload } ≡ a = cc in
    (ap (λ (x : Accepted). x.attempt) (sym same), ap (λ (x : Accepted). x.header) (sym same), e ∙ ap (λ (x : Accepted). Some x.payload) same)

taken_open : (f : Opener) (h : Header) (octets : List ℕ) (attempts : List Attempt) (a : Accepted) (d : Result OpenTry Refusal)
    → decided (openings f h octets attempts) ≡ d → judged_open h d ≡ Ok a → IsTakenBy f h octets attempts a
taken_open f h octets attempts a (Err e) is j = absurd (cc)
taken_open f h octets attempts a (Ok o) is j =
    let it = decided_is (openings f h octets attempts) o is in
    let at = is_opening f h octets attempts o it.0 in
    let p = payload_by h o a (payload_of h.padding o.body) refl j in
    let same : o.attempt ≡ a.attempt = sym p.0 in record {
      body = o.body;
      tried = subst (λ (x : Attempt). Contains attempts x) same at.tried;
      fresh = subst (λ (x : Attempt). freshness_of x ≡ Fresh) same it.1;
      opens = subst (λ (x : Attempt). f.body x.context x.index h octets ≡ Some o.body) same at.opens;
      header = p.1;
      payload = p.2;
    }

taken_tries : (f : Opener) (h : Header) (octets : List ℕ) (a : Accepted) (t : Result (List Attempt) Refusal) → judged_tries f h octets t ≡ Ok a
    → (attempts : List Attempt) × (t ≡ Ok attempts) × IsTakenBy f h octets attempts a
taken_tries f h octets a (Err e) j = absurd (cc)
taken_tries f h octets a (Ok attempts) j = (attempts, refl, taken_open f h octets attempts a (decided (openings f h octets attempts)) refl j)

taken_carried : (f : Opener) (r : Receiver) (o : Opened) (a : Accepted) (c : Result (Option Carried) Refusal) → carried_by f r.secrets o.header.ssrc o.field ≡ c
    → judged_carried f r.contexts (original_header o) o.inner c ≡ Ok a → IsTaken f r o a
taken_carried f r o a (Err e) is j = absurd (cc)
taken_carried f r o a (Ok carried) is j =
    let t = taken_tries f (original_header o) o.inner a (some_tries (tries r.contexts o.header.ssrc (original_header o).seq carried)) j in record {
      carried = carried;
      attempts = t.0;
      body = t.2.body;
      carries = is;
      tries_are = tries_are (tries r.contexts o.header.ssrc (original_header o).seq carried) t.0 t.1;
      tried = t.2.tried;
      fresh = t.2.fresh;
      opens = t.2.opens;
      header = t.2.header;
      payload = t.2.payload;
    }

unless_short : (f : Opener) (r : Receiver) (o : Opened) (a : Accepted) (short : Bool)
    → cond short (Err refusal.InnerShort) (judged_carried f r.contexts (original_header o) o.inner (carried_by f r.secrets o.header.ssrc o.field)) ≡ Ok a
    → IsTaken f r o a
unless_short f r o a true j = absurd (cc)
unless_short f r o a false j = taken_carried f r o a (carried_by f r.secrets o.header.ssrc o.field) refl j

pub judged_taken : (f : Opener) (r : Receiver) (o : Opened) (a : Accepted) → judged f r o ≡ Ok a → IsTaken f r o a
unfolding judged
judged_taken f r o a j = unless_short f r o a (nat_lt (length o.inner) 16) j

reach_taken : (f : Opener) (r : Receiver) (a : Accepted) (reach : Reach) → heard_reach f r reach ≡ Ok a
    → (o : Opened) × (reach ≡ outer.Reached o) × IsTaken f r o a
reach_taken f r a (outer.Refused fault) j = absurd (cc)
reach_taken f r a (outer.Blocked ssrc index fault) j = absurd (cc)
reach_taken f r a (outer.Reached o) j = (o, refl, judged_taken f r o a j)

-- What is accepted was reached, and taken.
pub heard_taken : (f : Opener) (r : Receiver) (datagram : List ℕ) (a : Accepted) → (heard f r datagram).0 ≡ Ok a
    → (o : Opened) × (reach_of r datagram ≡ outer.Reached o) × IsTaken f r o a
unfolding heard
heard_taken f r datagram a j = reach_taken f r a (reach_of r datagram) j

-- The try that is taken is under a context that is held, or under the new one of a carried key; its SPI is live.
pub taken_tried : (f : Opener) (r : Receiver) (o : Opened) (a : Accepted) (t : IsTaken f r o a) → IsTriedUnder r.contexts o.header.ssrc t.carried a.attempt
taken_tried f r o a t = one_tried r.contexts o.header.ssrc (original_header o).seq t.carried t.attempts a.attempt t.tries_are t.tried

pub taken_live : (f : Opener) (r : Receiver) (o : Opened) (a : Accepted) (t : IsTaken f r o a) → IsLiveKey (live_of r.secrets) t.carried
taken_live f r o a t = carries_live f r.secrets o.header.ssrc o.field t.carried t.carries

-- ---- by the table

row_by : (table : Table) (c : Context) (index : ℕ) (h : Header) (octets body : List ℕ) (found : Option Row) → row_of table c index h octets ≡ found
    → option_map body_of found ≡ Some body → (row : Row) × Contains table.rows row × IsRowOf c index h octets row × (body_of row ≡ body)
row_by table c index h octets body None e j = absurd (cc)
row_by table c index h octets body (Some row) e j =
    let it = found_of (is_row c index h octets) table.rows row e in
    let same : body_of row ≡ body = cc in
    (row, it.0, is_row-parts c index h octets row it.1, same)

-- Octets that the table opens are a row's.
pub opens_row : (table : Table) (c : Context) (index : ℕ) (h : Header) (octets body : List ℕ) → (by_table table).body c index h octets ≡ Some body
    → (row : Row) × Contains table.rows row × IsRowOf c index h octets row × (body_of row ≡ body)
opens_row table c index h octets body j = row_by table c index h octets body (row_of table c index h octets) refl j

-- The padding of a right row comes off.
pub row_payload : (issued : List Secret) (row : Row) (h : Header) (body : List ℕ) → IsRightRow issued row → row.header ≡ h → body_of row ≡ body
    → payload_of h.padding body ≡ Some row.payload
row_payload issued row h body right header body_is =
    let padded : h.padding ≡ nat_lt 0 row.padding = ap (λ (x : Header). x.padding) (sym header) ∙ right.padded in
    (λ i. payload_of (padded i) (sym body_is i)) ∙ padding_comes_off row.payload row.padding right.counted

pub taken_row : (issued : List Secret) (table : Table) (r : Receiver) (o : Opened) (a : Accepted) → IsRight issued table → IsTaken (by_table table) r o a
    → (row : Row) × Contains table.rows row × (row.header ≡ original_header o) × (row.inner ≡ o.inner) × IsRow row a
taken_row issued table r o a right t =
    let found = opens_row table a.attempt.context a.attempt.index (original_header o) o.inner t.body t.opens in
    let row : Row = found.0 in
    let is = found.2 in
    let right_row : IsRightRow issued row = All-contains (IsRightRow issued) table.rows row right.rows found.1 in
    let some : ◌≡◌ {A = Option (List ℕ)} (Some a.payload) (Some row.payload) =
    sym t.payload ∙ row_payload issued row (original_header o) t.body right_row is.header found.3 in
    let payload : a.payload ≡ row.payload = cc in (
      row,
      found.1,
      is.header,
      is.inner,
      record {
        spi = sym is.spi;
        ssrc = sym is.ssrc;
        key = sym is.key;
        index = sym is.index_is;
        header = t.header ∙ sym is.header;
        payload = payload;
      },
    )

-- What the table lets a receiver accept was sent, as it was sent.
pub ideal_sent : (issued : List Secret) (table : Table) (r : Receiver) (datagram : List ℕ) (a : Accepted) → IsRight issued table
    → (ideal table r datagram).0 ≡ Ok a → IsSent table a
ideal_sent issued table r datagram a right j =
    let t = heard_taken (by_table table) r datagram a j in
    let row = taken_row issued table r t.0 a right t.2 in
    (row.0, row.1, row.4)
