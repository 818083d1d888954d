-- A line that sends: a row more, and perhaps a wrap.
use Rattle.std.proofs.Common.{◌≡◌, ℕ, ◌+◌, ◌^◌, ◌<◌, ◌≤◌, Bool, List, [], ◌∷◌, ◌++◌, length, get_or, Some, refl, sym, ap, ◌∙◌, arith}
use Rattle.std.specs.Prelude.{Contains}
use Rattle.std.proofs.lemmas.List.{length_push}
use Rattle.std.proofs.lemmas.List.Elements.{All-append, All-push, All-weaker, Contains-append_left}
use Rattle.std.proofs.lemmas.List.Quantifiers.{all_pairs_push}
use Rattle.perc_rtp.specs.Media.{Content}
use Rattle.perc_receiver.specs.Table.{AreOtherRows, IsRight, IsRightRow, IsRightWrap, Row, Table}
use Rattle.perc_outgoing.specs.Sending.{Outgoing, sent_datagram, sent_row, sent_wraps}
use Rattle.perc_outgoing.proofs.Rows.{right_row, right_wraps}
use Rattle.perc_script_line.specs.Script.{Script, Options, Send}
use Rattle.perc_report_line.specs.Report.{Report, WireUp}
use Rattle.perc_run.specs.State.{Member, with_member}
use Rattle.perc_run.specs.Sending.{content_of, with_send}
use Rattle.perc_headline.specs.Headline.{Turns, acceptances}
use Rattle.perc_run.specs.Sound.{AreOtherDatagrams, AreOthers, Core, IsBefore, IsMember, IsOfMember, IsSound}
use Rattle.perc_headline.proofs.Lookups.{Keeps, at_end, changed_all, others_changed}
use Rattle.perc_headline.proofs.Sends.{IsMedia, behind_header, sendable, sending_sent, sent_packet}
use Rattle.perc_headline.proofs.Turns.{IsMade}
use Rattle.perc_headline.proofs.Hearing.{Hears, hears_same, hears_table}
use Rattle.perc_headline.proofs.Facts.{Facts, IsNamed, named_changed, quiet_line}
use Rattle.perc_headline.proofs.Sound.{joined_changed}

-- ---- the table

abbrev pub row_sent : Core → Member → Content → Row
row_sent c m content = sent_row m.name (c.made + 1) m.endpoint.sending content

abbrev pub table_sent : Core → Member → Content → Table
table_sent c m content = record { rows = c.table.rows ++ row_sent c m content ∷ []; wraps = c.table.wraps ++ sent_wraps m.endpoint.sending }

abbrev pub core_sent : Core → Member → Content → ℕ → Core
core_sent c m content made = record c { members = with_member m.name with_send c.members; table = table_sent c m content; made = made }

send_keeps : Keeps with_send
send_keeps = record { name = λ m. refl; ssrc = λ m. refl }

-- A sender's next index is below 2^48: a script makes no more datagrams than that.
pub record IsSender (c : Core) (m : Member) (content : Content) : Type 0 where
  pub there : Contains c.members m
  pub media : IsMedia content
  pub member : IsMember c.secrets c.table c.made m
  pub few : m.endpoint.sending.sending.next < 2 ^ 48

other_row : (c : Core) (m : Member) (content : Content) (row : Row) → IsMember c.secrets c.table c.made m → IsBefore m row → AreOtherRows row (row_sent c m content)
other_row c m content row is before ssrc index = let low = before (ssrc ∙ is.sender) in omega arith

right_sent : (c : Core) (m : Member) (content : Content) → IsSender c m content → IsRight c.secrets c.table → IsRight c.secrets (table_sent c m content)
right_sent c m content is right =
    let o : Outgoing = m.endpoint.sending in
    let none = sendable o content is.media is.few in
    let row : Row = row_sent c m content in record {
      rows = All-push (IsRightRow c.secrets) c.table.rows row right.rows
          (right_row c.secrets m.name (c.made + 1) o content is.member.secret is.member.sending is.media.content none);
      one_row = all_pairs_push AreOtherRows c.table.rows row right.one_row
          (λ k d within. other_row c m content (get_or c.table.rows k d) is.member (is.member.before k d within));
      wraps = All-append (IsRightWrap c.secrets) c.table.wraps (sent_wraps o) right.wraps
          (right_wraps c.secrets o content is.member.secret is.member.sending none);
    }

-- ---- the members

sender_after : (c : Core) (m : Member) (content : Content) (made : ℕ) → made ≡ c.made + 1 → m.endpoint.sending.sending.next < 2 ^ 48 → IsMember c.secrets c.table c.made m
    → IsMember c.secrets (table_sent c m content) made (with_send m)
sender_after c m content made count room is =
    let few = is.few in
    let control = is.few_control in record {
      sending = sending_sent m.endpoint.sending is.sending room;
      sender = is.sender;
      secret = is.secret;
      few = omega arith;
      few_control = omega arith;
      before = All-push (IsBefore (with_send m)) c.table.rows (row_sent c m content)
          (All-weaker (IsBefore m) (IsBefore (with_send m)) (λ row low same. let below = low same in omega arith) c.table.rows is.before)
          (λ same. omega arith);
    }

other_after : (c : Core) (m n : Member) (content : Content) (made : ℕ) → made ≡ c.made + 1 → IsMember c.secrets c.table c.made m → AreOthers n m → IsMember c.secrets c.table c.made n
    → IsMember c.secrets (table_sent c m content) made n
other_after c m n content made count sender other is =
    let few = is.few in
    let control = is.few_control in record {
      sending = is.sending;
      sender = is.sender;
      secret = is.secret;
      few = omega arith;
      few_control = omega arith;
      before = All-push (IsBefore n) c.table.rows (row_sent c m content) is.before (λ same. absurd (other.ssrc (sym same ∙ sender.sender)));
    }

pub sound_sent : (c : Core) (m : Member) (content : Content) (made : ℕ) → made ≡ c.made + 1 → IsSender c m content → IsSound c → IsSound (core_sent c m content made)
sound_sent c m content made count is sound =
    let members : List Member = with_member m.name with_send c.members in
    let row : Row = row_sent c m content in record {
      fits = sound.fits;
      issued = sound.issued;
      table = right_sent c m content is sound.table;
      others = others_changed m.name with_send c.members send_keeps sound.others;
      members = changed_all (IsMember c.secrets c.table c.made) (IsMember c.secrets (table_sent c m content) made) m with_send c.members sound.others is.there sound.members
          (λ it. sender_after c m content made count is.few it)
          (λ n other it. other_after c m n content made count is.member other it);
      joined = All-push (IsOfMember members) c.table.rows row
          (All-weaker (IsOfMember c.members) (IsOfMember members) (λ r it. joined_changed c.members m.name with_send r send_keeps it) c.table.rows sound.joined)
          (joined_changed c.members m.name with_send row send_keeps (record { member = m; there = is.there; is = is.member.sender }));
      datagrams = all_pairs_push AreOtherDatagrams c.table.rows row sound.datagrams
          (λ k d within same. let low = sound.made k d within in omega arith);
      made = All-push (λ (r : Row). r.datagram ≤ made) c.table.rows row
          (All-weaker (λ (r : Row). r.datagram ≤ c.made) (λ (r : Row). r.datagram ≤ made) (λ r low. omega arith) c.table.rows sound.made)
          (omega arith);
    }

-- ---- the line

-- the words of a send
pub record Said : Type 0 where
  pub name : List ℕ
  pub pt : ℕ
  pub marker : Bool
  pub timestamp : ℕ
  pub payload : List ℕ
  pub options : Options

abbrev pub said_line : Said → Script
said_line w = Send w.name w.pt w.marker w.timestamp w.payload w.options

abbrev pub said_content : Said → Content
said_content w = content_of w.pt w.marker w.timestamp w.payload w.options

abbrev pub sent_lines : Core → Member → Content → List Report
sent_lines c m content = WireUp (c.made + 1) m.name (sent_datagram m.endpoint.sending content) ∷ []

row_made : (turns : Turns) (c : Core) (m : Member) (w : Said) → m.name ≡ w.name → IsSender c m (said_content w)
    → IsMade (turns ++ (said_line w, sent_lines c m (said_content w)) ∷ []) (row_sent c m (said_content w))
row_made turns c m w name is =
    let content : Content = said_content w in
    let o : Outgoing = m.endpoint.sending in
    let t : Script × List Report = (said_line w, sent_lines c m content) in record {
      place = length turns;
      earlier = omega (arith, length_push turns t);
      options = w.options;
      octets = sent_datagram o content;
      made = at_end turns t ∙ ap (λ (of : List ℕ). Some (Send of w.pt w.marker w.timestamp w.payload w.options, sent_lines c m content)) (sym name);
      behind = behind_header o content;
      packet = sent_packet o content is.media is.member.sending;
    }

pub facts_send : (turns : Turns) (c : Core) (m : Member) (w : Said) (made : ℕ) → made ≡ c.made + 1 → m.name ≡ w.name → IsSender c m (said_content w) → Facts turns c
    → Facts (turns ++ (said_line w, sent_lines c m (said_content w)) ∷ []) (core_sent c m (said_content w) made)
facts_send turns c m w made count name is f =
    let content : Content = said_content w in
    let table : Table = table_sent c m content in
    let more : Turns = turns ++ (said_line w, sent_lines c m content) ∷ [] in
    let g = quiet_line turns (said_line w) (sent_lines c m content) c refl f in
    let P : Member → Type 0 = Hears c.secrets c.table (acceptances more) in
    let Q : Member → Type 0 = Hears c.secrets table (acceptances more) in
    let stays = λ (n : Member) (h : P n).
    hears_table c.secrets c.table table (acceptances more) n (λ row there. Contains-append_left c.table.rows (row_sent c m content ∷ []) row there) h in record {
      sound = sound_sent c m content made count is f.sound;
      hearing = changed_all P Q m with_send c.members f.sound.others is.there g.hearing
          (λ h. hears_same c.secrets table (acceptances more) m (with_send m) refl refl (stays m h)) (λ n other h. stays n h);
      named = All-weaker (IsNamed c.members) (IsNamed (with_member m.name with_send c.members)) (λ a it. named_changed c.members m.name with_send a send_keeps it) (acceptances more) g.named;
      rows = All-push (IsMade more) c.table.rows (row_sent c m content) g.rows (row_made turns c m w name is);
      as_sent = g.as_sent;
      once = g.once;
    }
