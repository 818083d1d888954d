-- What holds of the lines of a script that were done, and what they reported, and that one line more keeps it.
use Rattle.std.proofs.Common.{◌≡◌, ℕ, zero, suc, ◌+◌, ◌<◌, ◌≤◌, inl, inr, List, [], ◌∷◌, ◌++◌, length, take, Option, Some, None, refl, sym, ap, ◌∙◌, subst, arith}
use Rattle.std.specs.List.{slice_get, filter_map, flat_map, Contains, cons_option}
use Rattle.std.specs.Option.{option_map_or}
use Rattle.std.proofs.lemmas.Option.{same_Some}
use Rattle.std.proofs.lemmas.List.{append-nil, take-append-le, take_at, take_all, length_push}
use Rattle.std.proofs.lemmas.List.Elements.{filter_map-append}
use Rattle.std.proofs.lemmas.Grind.{flat_map-append}
use Rattle.perc_rtp.specs.Header.{IsPacket}
use Rattle.perc_rtp.specs.Media.{header_of}
use Rattle.perc_receiver.specs.Table.{Row, Table}
use Rattle.perc_receiver.specs.Receiver.{Accepted}
use Rattle.perc_receiver.specs.Calls.{IsRow}
use Rattle.perc_script_line.specs.Script.{Script, Deliver, Options, Send}
use Rattle.perc_report_line.specs.Report.{Report, Acceptance, WireUp, Accept}
use Rattle.perc_run.specs.State.{State, Goes, nobody}
use Rattle.perc_run.specs.Sending.{content_of}
use Rattle.perc_run.specs.Delivering.{Judge, acceptance, row_at}
use Rattle.perc_run.specs.Turn.{turn}
use Rattle.perc_headline.specs.Headline.{AcceptsGenuine, Turns, TurnAt, NamesSend, IsTrueAccept, accepted_in, acceptances, state_of, state_after, told_of}
use Rattle.perc_headline.proofs.Lookups.{at_longer, at_place, at_push}

-- ---- each line in turn

abbrev pub after_these : Judge → Turns → State
after_these judge turns = state_after judge nobody turns

abbrev pub InTurn : Judge → Turns → Type 0
InTurn judge turns =
    (k : ℕ) (line : Script) (lines : List Report) → TurnAt turns k line lines → turn judge (after_these judge (take k turns)) line ≡ Goes lines (after_these judge (take (k + 1) turns))

state_after_push : (judge : Judge) (s : State) (turns : Turns) (t : Script × List Report)
    → state_after judge s (turns ++ t ∷ []) ≡ state_of (state_after judge s turns) (turn judge (state_after judge s turns) t.0)
state_after_push judge s [] t = refl
state_after_push judge s (u ∷ turns) t = state_after_push judge (state_of s (turn judge s u.0)) turns t

-- the state after one line more
pub after_more : (judge : Judge) (turns : Turns) (s : State) (line : Script) (lines : List Report) (next : State) → after_these judge turns ≡ s → turn judge s line ≡ Goes lines next
    → after_these judge (turns ++ (line, lines) ∷ []) ≡ next
after_more judge turns s line lines next after goes = state_after_push judge nobody turns (line, lines) ∙ rw after (rw goes refl)

in_turn_last : (judge : Judge) (line said : Script) (lines told : List Report) (s next a b : State) → said ≡ line → told ≡ lines → a ≡ s → b ≡ next → turn judge s said ≡ Goes told next
    → turn judge a line ≡ Goes lines b
in_turn_last judge line said lines told s next a b e f g h goes = rw (g, h, ← e, ← f) goes

pub in_turn_more : (judge : Judge) (turns : Turns) (s : State) (line : Script) (lines : List Report) (next : State) → after_these judge turns ≡ s → turn judge s line ≡ Goes lines next
    → InTurn judge turns → InTurn judge (turns ++ (line, lines) ∷ [])
in_turn_more judge turns s line lines next after goes in_turn k said told at = elim (at_push turns (line, lines) k (said, told) at) [
  | inl old ↦ rw (take-append-le k turns ((line, lines) ∷ []) (omega arith), take-append-le (k + 1) turns ((line, lines) ∷ []) (omega arith)) (in_turn k said told old.1)
  | inr new ↦
      let t : Script × List Report = (line, lines) in
      let first = ap (after_these judge) (take_at turns (t ∷ []) k (sym new.0)) ∙ after in
      let second = ap (after_these judge) (take_all (k + 1) (turns ++ t ∷ []) (omega (arith, length_push turns t))) ∙ after_more judge turns s line lines next after goes in
      in_turn_last judge said line told lines s next _ _ (ap (λ (p : Script × List Report). p.0) new.1) (ap (λ (p : Script × List Report). p.1) new.1) first second goes
]

-- ---- each genuine packet is accepted

abbrev pub GenuineIn : Judge → Turns → Type 0
GenuineIn judge turns =
    (k number : ℕ) (name : List ℕ) (lines : List Report) → TurnAt turns k (Deliver number name) lines → AcceptsGenuine (after_these judge (take k turns)) number name lines

genuine_last : (line : Script) (number : ℕ) (name : List ℕ) (lines told : List Report) (s a : State) → line ≡ Deliver number name → lines ≡ told → a ≡ s
    → ((number : ℕ) (name : List ℕ) → line ≡ Deliver number name → AcceptsGenuine s number name lines) → AcceptsGenuine a number name told
genuine_last line number name lines told s a e f g last = rw (g, ← f) (last number name e)

pub genuine_more : (judge : Judge) (turns : Turns) (s : State) (line : Script) (lines : List Report) → after_these judge turns ≡ s → GenuineIn judge turns
    → ((number : ℕ) (name : List ℕ) → line ≡ Deliver number name → AcceptsGenuine s number name lines) → GenuineIn judge (turns ++ (line, lines) ∷ [])
genuine_more judge turns s line lines after genuine last k number name told at = elim (at_push turns (line, lines) k (Deliver number name, told) at) [
  | inl old ↦ rw (take-append-le k turns ((line, lines) ∷ []) (omega arith)) (genuine k number name told old.1)
  | inr new ↦
      let first = ap (after_these judge) (take_at turns ((line, lines) ∷ []) k (sym new.0)) ∙ after in
      genuine_last line number name lines told s _ (ap (λ (p : Script × List Report). p.0) new.1) (ap (λ (p : Script × List Report). p.1) new.1) first last
]

-- ---- each accept line names a send

abbrev pub AsSent : Turns → Type 0
AsSent turns = (k : ℕ) (line : Script) (lines : List Report) (a : Acceptance) → TurnAt turns k line lines → Contains lines (Accept a) → IsTrueAccept turns k line lines a

pub true_longer : (turns more : Turns) (k : ℕ) (line : Script) (lines : List Report) (a : Acceptance) → IsTrueAccept turns k line lines a → IsTrueAccept (turns ++ more) k line lines a
true_longer turns more k line lines a h = record {
  deliver = h.deliver;
  alone = h.alone;
  sent = record {
    place = h.sent.place;
    earlier = h.sent.earlier;
    options = h.sent.options;
    octets = h.sent.octets;
    made = at_longer turns more h.sent.place _ h.sent.made;
    ssrc = h.sent.ssrc;
    behind = h.sent.behind;
    header = h.sent.header;
  };
}

as_sent_last : (turns : Turns) (k n : ℕ) (line said : Script) (lines told : List Report) (a : Acceptance) → n ≡ k → said ≡ line → told ≡ lines
    → ((a : Acceptance) → Contains told (Accept a) → IsTrueAccept turns n said told a) → Contains lines (Accept a) → IsTrueAccept turns k line lines a
as_sent_last turns k n line said lines told a e f g last there = rw (← e, ← f, ← g) (last a (rw (← g) at there))

pub as_sent_more : (turns : Turns) (line : Script) (lines : List Report) → AsSent turns
    → ((a : Acceptance) → Contains lines (Accept a) → IsTrueAccept (turns ++ (line, lines) ∷ []) (length turns) line lines a) → AsSent (turns ++ (line, lines) ∷ [])
as_sent_more turns line lines as_sent last k said told a at there = elim (at_push turns (line, lines) k (said, told) at) [
  | inl old ↦ true_longer turns ((line, lines) ∷ []) k said told a (as_sent k said told a old.1 there)
  | inr new ↦
      as_sent_last (turns ++ (line, lines) ∷ []) k (length turns) said line told lines a (sym new.0)
      (ap (λ (p : Script × List Report). p.0) new.1) (ap (λ (p : Script × List Report). p.1) new.1) last there
]

-- What a filter keeps isn't among those of which it keeps none.
none_first : {X Y : Type 0} (h : X → Option Y) (z : X) (xs : List X) (x : X) (y : Y) (k : ℕ) (o : Option Y) → h z ≡ o → h x ≡ Some y → cons_option o (filter_map h xs) ≡ []
    → (k < length (z ∷ xs)) × (slice_get (z ∷ xs) k ≡ Some x) → (filter_map h xs ≡ [] → (k : ℕ) → (k < length xs) × (slice_get xs k ≡ Some x) → ⊥) → ⊥
none_first h z xs x y k (Some w) e f none at rest = absurd (cc)
none_first h z xs x y zero None e f none at rest =
    let same : z ≡ x = same_Some z x at.1 in let bad : None ≡ Some y = sym e ∙ ap h same ∙ f in absurd (cc)
none_first h z xs x y (suc k) None e f none at rest = rest none k (omega (arith, at.0), at.1)

none_at : {X Y : Type 0} (h : X → Option Y) (xs : List X) (x : X) (y : Y) → h x ≡ Some y → filter_map h xs ≡ [] → (k : ℕ) → (k < length xs) × (slice_get xs k ≡ Some x) → ⊥
none_at h [] x y f none k at = absurd (let within = at.0 in omega arith)
none_at h (z ∷ xs) x y f none k at = none_first h z xs x y k (h z) refl f none at (none_at h xs x y f)

-- lines without an accept line
pub no_accept : (lines : List Report) (a : Acceptance) → filter_map accepted_in lines ≡ [] → Contains lines (Accept a) → ⊥
no_accept lines a none there = none_at accepted_in lines (Accept a) a refl none there.0 (there.1, at_place lines there.0 (Accept a) there.1 there.2)

pub acceptances_more : (turns : Turns) (line : Script) (lines : List Report) → acceptances (turns ++ (line, lines) ∷ []) ≡ acceptances turns ++ filter_map accepted_in lines
acceptances_more turns line lines =
    ap (filter_map accepted_in) (flat_map-append (λ (t : Script × List Report). t.1) turns ((line, lines) ∷ []) ∙ ap (λ z. flat_map (λ (t : Script × List Report). t.1) turns ++ z) (append-nil lines))
    ∙ filter_map-append accepted_in (flat_map (λ (t : Script × List Report). t.1) turns) lines

pub acceptances_same : (turns : Turns) (line : Script) (lines : List Report) → filter_map accepted_in lines ≡ [] → acceptances (turns ++ (line, lines) ∷ []) ≡ acceptances turns
acceptances_same turns line lines none = acceptances_more turns line lines ∙ ap (λ z. acceptances turns ++ z) none ∙ append-nil (acceptances turns)

-- ---- each row was made by a send

-- An earlier line is the send that made the row, and what went out begins with the header of its words, under the row's SEQ.
pub record IsMade (turns : Turns) (row : Row) : Type 0 where
  pub place : ℕ
  pub earlier : place < length turns
  pub options : Options
  pub octets : List ℕ
  pub made : TurnAt turns place (Send row.sender row.header.pt row.header.marker row.header.timestamp row.payload options) (WireUp row.datagram row.sender octets ∷ [])
  pub behind : List ℕ
  pub packet : IsPacket (header_of (content_of row.header.pt row.header.marker row.header.timestamp row.payload options) row.header.seq row.ssrc) behind octets

pub made_longer : (turns : Turns) (t : Script × List Report) (row : Row) → IsMade turns row → IsMade (turns ++ t ∷ []) row
made_longer turns t row h = record {
  place = h.place;
  earlier = omega (arith, length_push turns t, h.earlier);
  options = h.options;
  octets = h.octets;
  made = at_longer turns (t ∷ []) h.place _ h.made;
  behind = h.behind;
  packet = h.packet;
}

pub told_is : (table : Table) (number : ℕ) (name : List ℕ) (row : Row) (x : Accepted) (found : Option Row)
    → row_at table x.attempt.context.ssrc x.attempt.index ≡ found → found ≡ Some row → IsRow row x → acceptance table number name x ≡ told_of number name row
told_is table number name row x found e f is =
    let at = e ∙ f in
    let own : Option Row = row_at table x.attempt.context.ssrc x.attempt.index in
    let sender : option_map_or (λ (r : Row). r.sender) own [] ≡ row.sender = ap (λ (o : Option Row). option_map_or (λ (r : Row). r.sender) o []) at in
    let sent : option_map_or (λ (r : Row). r.datagram) own 0 ≡ row.datagram = ap (λ (o : Option Row). option_map_or (λ (r : Row). r.datagram) o 0) at in
    let header : x.header ≡ row.header = is.header in
    let payload : x.payload ≡ row.payload = is.payload in
    λ i. record {
      datagram = number;
      name = name;
      sender = sender i;
      sent = sent i;
      pt = (header i).pt;
      seq = (header i).seq;
      marker = (header i).marker;
      timestamp = (header i).timestamp;
      payload = payload i;
    }

names_row : (turns : Turns) (k number : ℕ) (name : List ℕ) (row : Row) → length turns ≤ k → IsMade turns row → NamesSend turns k (told_of number name row)
names_row turns k number name row behind h = record {
  place = h.place;
  earlier = omega (arith, h.earlier);
  options = h.options;
  octets = h.octets;
  made = h.made;
  ssrc = row.ssrc;
  behind = h.behind;
  header = h.packet;
}

-- An acceptance of a row names the send that made it.
pub names_send : (turns : Turns) (table : Table) (k number : ℕ) (name : List ℕ) (row : Row) (x : Accepted) → length turns ≤ k
    → row_at table x.attempt.context.ssrc x.attempt.index ≡ Some row → IsRow row x → IsMade turns row → NamesSend turns k (acceptance table number name x)
names_send turns table k number name row x behind at is h =
    subst (λ (a : Acceptance). NamesSend turns k a) (sym (told_is table number name row x (Some row) at refl is)) (names_row turns k number name row behind h)
