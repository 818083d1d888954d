-- Rows of the table are found at the members of the code that have their SSRCs, and are all that is found there.
use Rattle.std.proofs.Common.{◌≡◌, ℕ, ◌<◌, ◌≤◌, inl, inr, Bool, true, false, ◌&&◌, List, length, Option, Some, None, refl, sym, ap, ◌∙◌, subst, arith}
use Rattle.std.specs.Prelude.{Contains, find, is_some, slice_get, ◌==◌, ◌-◌}
use Rattle.std.specs.Option.{option_map_or}
use Rattle.std.specs.Str.{bytes_eq}
use Rattle.std.proofs.lemmas.Bool.{and_from, and_parts, both_ways, eq-eqb, cases_Bool, cases_eq, eqb-true, le-leb, ne_eqb}
use Rattle.std.proofs.lemmas.List.Elements.{All-contains}
use Rattle.std.proofs.lemmas.Option.{slice_get_within}
use Rattle.std.proofs.lemmas.Slice.Eq.{bytes_eq-Decides}
use Rattle.perc_rtp.specs.Header.{Header}
use Rattle.perc_contexts.specs.Receiving.{Attempt}
use Rattle.perc_contexts.proofs.ReceivingLaws.{found_of}
use Rattle.perc_receiver.specs.Table.{Row}
use Rattle.perc_receiver.specs.Opener.{is_row, row_of, same_header}
use Rattle.perc_receiver.proofs.Headers.{IsRowOf, is_row-made, is_row-parts, same_header-is, same_header-made}
use Rattle.perc_receiver.proofs.Once.{one_row}
use Rattle.perc_receiver.proofs.Secrets.{some_found}
use Rattle.perc_member.specs.Taken.{number_at, sent_under}
use Rattle.perc_member.specs.declared.member.Member as code_member
use Rattle.perc_run.specs.State.{Datagram, State, Unsealed, datagram_at}
use Rattle.perc_run.specs.Delivering.{row_at}
use Rattle.perc_sent.specs.Sent.{HasNumbers, HasPacketOf, HasRows, IsSomebodys, IsSentAs, IsSentBy, IsUnsealedOf, MirrorsTable, is_packet, is_packet_of}
use Rattle.perc_sent.specs.declared.table.Table as code
use Rattle.perc_sent.proofs.Finding.{find_none, find_only, member_found}

-- ---- the sender of a row

-- the member of the code that sent a row: the one that is found by its SSRC
pub record IsSender (t : code.Table) (s : State) (row : Row) (c : code_member.Member) : Type 0 where
  pub found : find (λ (m : code_member.Member). m.ssrc == row.ssrc) t.members.now ≡ Some c
  pub sent : IsSentBy s c row

pub sender_of : (t : code.Table) (s : State) (row : Row) → MirrorsTable t s → Contains s.table.rows row → (c : code_member.Member) × IsSender t s row c
sender_of t s row is there =
    let it = All-contains (IsSomebodys t.members.now (IsSentBy s)) s.table.rows row is.sent.rows there in (
      it.member,
      record {
        found = member_found t.members.now s.members it.member row.ssrc is.members is.orderly.sound.others it.there it.is.ssrc;
        sent = it.is;
      },
    )

-- the one that was found by a row's SSRC
pub sender_is : (t : code.Table) (s : State) (row : Row) (ssrc : ℕ) (c : code_member.Member) → MirrorsTable t s → Contains s.table.rows row → row.ssrc ≡ ssrc
    → find (λ (m : code_member.Member). m.ssrc == ssrc) t.members.now ≡ Some c → IsSentBy s c row
sender_is t s row ssrc c is there same found =
    let it = sender_of t s row is there in
    let one : ◌≡◌ {A = Option code_member.Member} (Some it.0) (Some c) =
    sym it.1.found ∙ ap (λ (n : ℕ). find (λ (m : code_member.Member). m.ssrc == n) t.members.now) same ∙ found in
    let e : it.0 ≡ c = cc in
    subst (λ (x : code_member.Member). IsSentBy s x row) e it.1.sent

-- Where none is found by an SSRC, no row has it.
pub no_sender : (t : code.Table) (s : State) (row : Row) (ssrc : ℕ) → MirrorsTable t s → Contains s.table.rows row → row.ssrc ≡ ssrc
    → find (λ (m : code_member.Member). m.ssrc == ssrc) t.members.now ≡ None → ⊥
no_sender t s row ssrc is there same none =
    let it = sender_of t s row is there in
    let bad : ◌≡◌ {A = Option code_member.Member} (Some it.0) None =
    sym it.1.found ∙ ap (λ (n : ℕ). find (λ (m : code_member.Member). m.ssrc == n) t.members.now) same ∙ none in
    cc

-- The number of a row's datagram stands at its index.
pub number_is : (s : State) (c : code_member.Member) (row : Row) → IsSentBy s c row → number_at c row.index ≡ Some row.datagram
number_is s c row is = rw (le-leb c.first row.index is.from) is.number

-- ---- the row of an SSRC and an index

abbrev at_index : ℕ → ℕ → Row → Bool
at_index ssrc index row = row.ssrc == ssrc && row.index == index

-- The row of an SSRC and an index is the only one.
pub row_at_is : (t : code.Table) (s : State) (row : Row) (ssrc index : ℕ) → MirrorsTable t s → Contains s.table.rows row → row.ssrc ≡ ssrc → row.index ≡ index
    → row_at s.table ssrc index ≡ Some row
row_at_is t s row ssrc index is there same_ssrc same_index =
    find_only (at_index ssrc index) s.table.rows row there
    (and_from (row.ssrc == ssrc) (row.index == index) (eq-eqb row.ssrc ssrc same_ssrc) (eq-eqb row.index index same_index))
    (λ other in_other passes.
    let p = and_parts (other.ssrc == ssrc) (other.index == index) passes in
    one_row s.table.rows other row is.orderly.sound.table.one_row in_other there (eqb-true other.ssrc ssrc p.0 ∙ sym same_ssrc)
    (eqb-true other.index index p.1 ∙ sym same_index))

-- a row that is found there
pub record IsRowAt (s : State) (ssrc index : ℕ) (row : Row) : Type 0 where
  pub there : Contains s.table.rows row
  pub ssrc_is : row.ssrc ≡ ssrc
  pub index_is : row.index ≡ index

pub row_at_parts : (s : State) (ssrc index : ℕ) (row : Row) → row_at s.table ssrc index ≡ Some row → IsRowAt s ssrc index row
row_at_parts s ssrc index row e =
    let it = found_of (at_index ssrc index) s.table.rows row e in
    let p = and_parts (row.ssrc == ssrc) (row.index == index) it.1 in
    record { there = it.0; ssrc_is = eqb-true row.ssrc ssrc p.0; index_is = eqb-true row.index index p.1 }

no_row_sent : (s : State) (ssrc index : ℕ) → ((row : Row) → IsRowAt s ssrc index row → ⊥) → IsSentAs (row_at s.table ssrc index) None
no_row_sent s ssrc index none = by (row_at s.table ssrc index) refl where
  by : (o : Option Row) → row_at s.table ssrc index ≡ o → IsSentAs o None
  by None e = refl
  by (Some row) e = absurd (none row (row_at_parts s ssrc index row e))

-- Where no member has the SSRC, no row does.
pub sent_by_none : (t : code.Table) (s : State) (ssrc index : ℕ) → MirrorsTable t s → find (λ (m : code_member.Member). m.ssrc == ssrc) t.members.now ≡ None
    → IsSentAs (row_at s.table ssrc index) None
sent_by_none t s ssrc index is none = no_row_sent s ssrc index (λ row at. no_sender t s row ssrc is at.there at.ssrc_is none)

-- Where the member has no number at the index, there is no row.
pub sent_without : (t : code.Table) (s : State) (ssrc index : ℕ) (c : code_member.Member) → MirrorsTable t s
    → find (λ (m : code_member.Member). m.ssrc == ssrc) t.members.now ≡ Some c → number_at c index ≡ None → IsSentAs (row_at s.table ssrc index) None
sent_without t s ssrc index c is found none =
    no_row_sent s ssrc index λ row at.
    let number = number_is s c row (sender_is t s row ssrc c is at.there at.ssrc_is found) in
    let bad : ◌≡◌ {A = Option ℕ} (Some row.datagram) None = sym number ∙ ap (number_at c) at.index_is ∙ none in
    cc

-- Where it has one, it is that of the row, whose sender it is.
pub sent_with : (t : code.Table) (s : State) (ssrc index number : ℕ) (c : code_member.Member) → MirrorsTable t s
    → find (λ (m : code_member.Member). m.ssrc == ssrc) t.members.now ≡ Some c → number_at c index ≡ Some number
    → IsSentAs (row_at s.table ssrc index) (Some (record { sender = c.name; datagram = number }))
sent_with t s ssrc index number c is found at =
    let own = found_of (λ (m : code_member.Member). m.ssrc == ssrc) t.members.now c found in
    let ssrc_is : c.ssrc ≡ ssrc = eqb-true c.ssrc ssrc own.1 in
    let it = All-contains (HasNumbers s) t.members.now c is.sent.only_numbers own.0 index number at in
    let sent = sender_is t s it.row ssrc c is it.there (it.ssrc ∙ ssrc_is) found in
    let same : ◌≡◌ {A = Option ℕ} (Some number) (Some it.row.datagram) = sym at ∙ ap (number_at c) (sym it.index_is) ∙ number_is s c it.row sent in
    let row_is = row_at_is t s it.row ssrc index is it.there (it.ssrc ∙ ssrc_is) it.index_is in
    let number_is : number ≡ it.row.datagram = cc in
    rw row_is (sent.sender, number_is)

-- ---- the datagram of a row

pub datagram_place : (datagrams : List Datagram) (number : ℕ) → 0 < number → datagram_at datagrams number ≡ slice_get datagrams (number - 1)
datagram_place datagrams number above = rw (ne_eqb number 0 (λ none. omega arith)) refl

has_place : (s : State) (row : Row) → HasPacketOf row (datagram_at s.datagrams row.datagram) → (0 < row.datagram) × (row.datagram ≤ length s.datagrams)
has_place s row packet =
    elim (cases_eq row.datagram 0) [
      | inl none ↦ absurd (subst (λ (n : ℕ). HasPacketOf row (datagram_at s.datagrams n)) none packet)
      | inr some ↦
          let above : 0 < row.datagram = omega arith in
          at above (slice_get s.datagrams (row.datagram - 1)) refl (subst (HasPacketOf row) (datagram_place s.datagrams row.datagram above) packet)
    ]
  where
    at : 0 < row.datagram → (o : Option Datagram) → slice_get s.datagrams (row.datagram - 1) ≡ o → HasPacketOf row o → (0 < row.datagram) × (row.datagram ≤ length s.datagrams)
    at above None e packet = absurd packet
    at above (Some d) e packet = let low = slice_get_within s.datagrams (row.datagram - 1) d e in (above, omega arith)

its_packet : (row : Row) (h : Header) (octets : List ℕ) (o : Option Datagram) → HasPacketOf row o
    → is_packet_of o h octets ≡ (same_header row.header h && bytes_eq row.inner octets)
its_packet row h octets None packet = absurd packet
its_packet row h octets (Some d) packet = by d.unsealed packet where
  by : (u : Option Unsealed) → IsUnsealedOf row u → option_map_or (is_packet h octets) u false ≡ (same_header row.header h && bytes_eq row.inner octets)
  by None packet = absurd packet
  by (Some u) packet = λ i. same_header (packet.header i) h && bytes_eq (packet.inner i) octets

-- ---- the row of a packet that opens

-- The row is of this context and index, whatever its header and its inner octets.
record IsUnder (a : Attempt) (row : Row) : Type 0 where
  spi : row.spi ≡ a.context.spi
  ssrc : row.ssrc ≡ a.context.ssrc
  key : row.key ≡ a.context.key
  index_is : row.index ≡ a.index

-- what a packet is asked for
pub record IsAsked (a : Attempt) (ssrc spi : ℕ) (key : List ℕ) (index : ℕ) : Type 0 where
  pub ssrc_is : a.context.ssrc ≡ ssrc
  pub spi_is : a.context.spi ≡ spi
  pub key_is : a.context.key ≡ key
  pub index_is : a.index ≡ index

none_of : (s : State) (a : Attempt) (h : Header) (octets : List ℕ) → ((row : Row) → Contains s.table.rows row → IsRowOf a.context a.index h octets row → ⊥)
    → false ≡ is_some (row_of s.table a.context a.index h octets)
none_of s a h octets none =
    sym (ap (λ (o : Option Row). is_some o) (find_none (is_row a.context a.index h octets) s.table.rows
    (λ row there passes. none row there (is_row-parts a.context a.index h octets row passes))))

row_tested : (t : code.Table) (s : State) (a : Attempt) (h : Header) (octets : List ℕ) (row : Row) → MirrorsTable t s → Contains s.table.rows row → IsUnder a row
    → (same_header row.header h && bytes_eq row.inner octets) ≡ is_some (row_of s.table a.context a.index h octets)
row_tested t s a h octets row is there under =
    elim (cases_Bool (same_header row.header h && bytes_eq row.inner octets)) [
      | inl passes ↦
          let p = and_parts (same_header row.header h) (bytes_eq row.inner octets) passes in
          let it = some_found (is_row a.context a.index h octets) s.table.rows row there (is_row-made a.context a.index h octets row (record {
            spi = under.spi;
            ssrc = under.ssrc;
            key = under.key;
            index_is = under.index_is;
            header = same_header-is row.header h p.0;
            inner = (bytes_eq-Decides row.inner octets).0 p.1;
          })) in
          passes ∙ sym (ap (λ (o : Option Row). is_some o) it.1)
      | inr other ↦
          other
          ∙ none_of s a h octets (λ found in_found it.
          let one : found ≡ row =
          one_row s.table.rows found row is.orderly.sound.table.one_row in_found there (it.ssrc ∙ sym under.ssrc) (it.index_is ∙ sym under.index_is) in
          let test : Bool = same_header row.header h && bytes_eq row.inner octets in
          let header : same_header row.header h ≡ true = same_header-made row.header h (ap (λ (x : Row). x.header) (sym one) ∙ it.header) in
          let inner : bytes_eq row.inner octets ≡ true = (bytes_eq-Decides row.inner octets).1 (ap (λ (x : Row). x.inner) (sym one) ∙ it.inner) in
          both_ways test other (and_from (same_header row.header h) (bytes_eq row.inner octets) header inner))
    ]

pub row_of_none : (t : code.Table) (s : State) (a : Attempt) (h : Header) (octets : List ℕ) (ssrc : ℕ) → MirrorsTable t s → a.context.ssrc ≡ ssrc
    → find (λ (m : code_member.Member). m.ssrc == ssrc) t.members.now ≡ None → false ≡ is_some (row_of s.table a.context a.index h octets)
row_of_none t s a h octets ssrc is same none =
    none_of s a h octets (λ row there it. no_sender t s row ssrc is there (it.ssrc ∙ same) none)

pub row_unsent : (t : code.Table) (s : State) (a : Attempt) (h : Header) (octets : List ℕ) (ssrc spi : ℕ) (key : List ℕ) (index : ℕ) (c : code_member.Member)
    → MirrorsTable t s → IsAsked a ssrc spi key index → find (λ (m : code_member.Member). m.ssrc == ssrc) t.members.now ≡ Some c
    → sent_under c spi key index ≡ false → false ≡ is_some (row_of s.table a.context a.index h octets)
row_unsent t s a h octets ssrc spi key index c is asked found unsent =
    none_of s a h octets λ row there it.
    let sent = sender_is t s row ssrc c is there (it.ssrc ∙ asked.ssrc_is) found in
    let spis : row.spi ≡ spi = it.spi ∙ asked.spi_is in
    let keys : row.key ≡ key = it.key ∙ asked.key_is in
    let at : row.index ≡ index = it.index_is ∙ asked.index_is in
    let same : sent_under c row.spi row.key row.index ≡ sent_under c spi key index = λ i. sent_under c (spis i) (keys i) (at i) in
    both_ways (sent_under c spi key index) unsent (sym same ∙ sent.key)

-- the row that went out under a key at an index
pub record IsSentRow (s : State) (c : code_member.Member) (ssrc spi : ℕ) (key : List ℕ) (index : ℕ) (row : Row) : Type 0 where
  pub there : Contains s.table.rows row
  pub ssrc_is : row.ssrc ≡ ssrc
  pub spi_is : row.spi ≡ spi
  pub key_is : row.key ≡ key
  pub index_is : row.index ≡ index
  pub sent : IsSentBy s c row

pub sent_row : (t : code.Table) (s : State) (ssrc spi : ℕ) (key : List ℕ) (index : ℕ) (c : code_member.Member) → MirrorsTable t s
    → find (λ (m : code_member.Member). m.ssrc == ssrc) t.members.now ≡ Some c → sent_under c spi key index ≡ true → (row : Row) × IsSentRow s c ssrc spi key index row
sent_row t s ssrc spi key index c is found sent =
    let own = found_of (λ (m : code_member.Member). m.ssrc == ssrc) t.members.now c found in
    let ssrc_is : c.ssrc ≡ ssrc = eqb-true c.ssrc ssrc own.1 in
    let it = All-contains (HasRows s) t.members.now c is.sent.only_rows own.0 spi key index sent in (
      it.row,
      record {
        there = it.there;
        ssrc_is = it.ssrc ∙ ssrc_is;
        spi_is = it.spi_is;
        key_is = it.key_is;
        index_is = it.index_is;
        sent = sender_is t s it.row ssrc c is it.there (it.ssrc ∙ ssrc_is) found;
      },
    )

-- What was sent has a number at its index.
pub sent_numbered : (t : code.Table) (s : State) (ssrc spi : ℕ) (key : List ℕ) (index : ℕ) (c : code_member.Member) → MirrorsTable t s
    → find (λ (m : code_member.Member). m.ssrc == ssrc) t.members.now ≡ Some c → sent_under c spi key index ≡ true → number_at c index ≡ None → ⊥
sent_numbered t s ssrc spi key index c is found sent none =
    let it = sent_row t s ssrc spi key index c is found sent in
    let bad : ◌≡◌ {A = Option ℕ} (Some it.0.datagram) None = sym (number_is s c it.0 it.1.sent) ∙ ap (number_at c) it.1.index_is ∙ none in
    cc

-- It is that of a datagram.
pub number_within : (t : code.Table) (s : State) (ssrc spi : ℕ) (key : List ℕ) (index number : ℕ) (c : code_member.Member) → MirrorsTable t s
    → find (λ (m : code_member.Member). m.ssrc == ssrc) t.members.now ≡ Some c → sent_under c spi key index ≡ true → number_at c index ≡ Some number
    → (0 < number) × (number ≤ length s.datagrams)
number_within t s ssrc spi key index number c is found sent at =
    let it = sent_row t s ssrc spi key index c is found sent in
    let same : ◌≡◌ {A = Option ℕ} (Some number) (Some it.0.datagram) = sym at ∙ ap (number_at c) (sym it.1.index_is) ∙ number_is s c it.0 it.1.sent in
    let e : it.0.datagram ≡ number = cc in
    subst (λ (n : ℕ). (0 < n) × (n ≤ length s.datagrams)) e (has_place s it.0 it.1.sent.packet)

-- The datagram of the number is the row's, or it has another header or other octets.
pub row_by_packet : (t : code.Table) (s : State) (a : Attempt) (h : Header) (octets : List ℕ) (ssrc spi : ℕ) (key : List ℕ) (index number : ℕ) (c : code_member.Member)
    → MirrorsTable t s → IsAsked a ssrc spi key index → find (λ (m : code_member.Member). m.ssrc == ssrc) t.members.now ≡ Some c
    → sent_under c spi key index ≡ true → number_at c index ≡ Some number
    → is_packet_of (datagram_at s.datagrams number) h octets ≡ is_some (row_of s.table a.context a.index h octets)
row_by_packet t s a h octets ssrc spi key index number c is asked found sent at =
    let it = sent_row t s ssrc spi key index c is found sent in
    let same : ◌≡◌ {A = Option ℕ} (Some number) (Some it.0.datagram) = sym at ∙ ap (number_at c) (sym it.1.index_is) ∙ number_is s c it.0 it.1.sent in
    let e : it.0.datagram ≡ number = cc in
    subst (λ (n : ℕ). is_packet_of (datagram_at s.datagrams n) h octets ≡ is_some (row_of s.table a.context a.index h octets)) e
    (its_packet it.0 h octets (datagram_at s.datagrams it.0.datagram) it.1.sent.packet ∙ row_tested t s a h octets it.0 is it.1.there (record {
      spi = it.1.spi_is ∙ sym asked.spi_is;
      ssrc = it.1.ssrc_is ∙ sym asked.ssrc_is;
      key = it.1.key_is ∙ sym asked.key_is;
      index_is = it.1.index_is ∙ sym asked.index_is;
    }))
