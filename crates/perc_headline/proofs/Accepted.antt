-- A line whose datagram is accepted: an accept line more.
use Rattle.std.proofs.Common.{◌≡◌, ℕ, List, [], ◌∷◌, ◌++◌, length, false, Ok, refl, sym, ap, subst, arith}
use Rattle.std.specs.Prelude.{All, AllPairs, Contains}
use Rattle.std.proofs.lemmas.List.Elements.{All-contains, All-push, All-weaker}
use Rattle.std.proofs.lemmas.List.Quantifiers.{all_pairs_push}
use Rattle.perc_receiver.specs.Receiver.{Accepted, Receiver, outcome}
use Rattle.perc_receiver.specs.Foreign.{is_foreign}
use Rattle.perc_script_line.specs.Script.{Script, Deliver}
use Rattle.perc_report_line.specs.Report.{Report, Acceptance, Accept}
use Rattle.perc_run.specs.State.{Member, with_member}
use Rattle.perc_run.specs.Delivering.{acceptance, with_receiver}
use Rattle.perc_headline.specs.Headline.{Turns, AreApart, IsTrueAccept, acceptances}
use Rattle.perc_run.specs.Sound.{Core}
use Rattle.perc_headline.proofs.Lookups.{Keeps, changed_all, contains_one}
use Rattle.perc_headline.proofs.Turns.{IsMade, acceptances_more, as_sent_more, made_longer, names_send, true_longer}
use Rattle.perc_headline.proofs.Hearing.{Hears, IsHeard, heard_row, hears_other}
use Rattle.perc_headline.proofs.Facts.{Facts, IsNamed, named_changed}
use Rattle.perc_headline.proofs.Sound.{changed_sound, member_same}

pub receiver_keeps : (r : Receiver) → Keeps (with_receiver r)
receiver_keeps r = record { name = λ m. refl; ssrc = λ m. refl }

-- A datagram that isn't foreign reached a member, who accepted a packet.
pub record IsAccepting (c : Core) (m : Member) (number : ℕ) (name octets : List ℕ) (x : Accepted) : Type 0 where
  pub there : Contains c.members m
  pub name_is : m.name ≡ name
  pub known : is_foreign c.table m.endpoint.receiving octets ≡ false
  pub answer : (outcome m.endpoint.receiving octets).0 ≡ Ok x

abbrev pub after_hearing : Member → List ℕ → Member → Member
after_hearing m octets = with_receiver (outcome m.endpoint.receiving octets).1

same_acceptance : (a b : Acceptance) → Accept a ≡ Accept b → a ≡ b
same_acceptance a b e = cc

-- An accept line names the send of its row.
true_last : (turns : Turns) (c : Core) (m n : Member) (number : ℕ) (name : List ℕ) (x : Accepted) (b : Acceptance) → m.name ≡ name
    → All (IsMade turns) c.table.rows → IsHeard c.secrets c.table (acceptances turns) m n number x → Contains (Accept (acceptance c.table number m.name x) ∷ []) (Accept b)
    → IsTrueAccept turns (length turns) (Deliver number name) (Accept (acceptance c.table number m.name x) ∷ []) b
true_last turns c m n number name x b name_is rows heard there =
    let a : Acceptance = acceptance c.table number m.name x in
    let same : a ≡ b = same_acceptance a b (contains_one (Accept a) (Accept b) there) in
    subst (λ (y : Acceptance). IsTrueAccept turns (length turns) (Deliver number name) (Accept a ∷ []) y) same (record {
      deliver = ap (Deliver number) (sym name_is);
      alone = refl;
      sent = names_send turns c.table (length turns) number m.name heard.row x (omega arith) heard.found heard.is_row
          (All-contains (IsMade turns) c.table.rows heard.row rows heard.there);
    })

pub facts_accept : (turns : Turns) (c : Core) (m : Member) (number : ℕ) (name octets : List ℕ) (x : Accepted) → IsAccepting c m number name octets x → Facts turns c
    → Facts (turns ++ (Deliver number name, Accept (acceptance c.table number m.name x) ∷ []) ∷ []) (record c { members = with_member m.name (after_hearing m octets) c.members })
facts_accept turns c m number name octets x is f =
    let change : Member → Member = after_hearing m octets in
    let keeps = receiver_keeps (outcome m.endpoint.receiving octets).1 in
    let members : List Member = with_member m.name change c.members in
    let a : Acceptance = acceptance c.table number m.name x in
    let line : Script = Deliver number name in
    let lines : List Report = Accept a ∷ [] in
    let P : Member → Type 0 = Hears c.secrets c.table (acceptances turns) in
    let Q : Member → Type 0 = Hears c.secrets c.table (acceptances turns ++ a ∷ []) in
    let heard = λ (h : P m). heard_row c.secrets c.table (acceptances turns) m octets number x f.sound.table f.sound.datagrams is.known is.answer h in
    let own : P m = All-contains P c.members m f.hearing is.there in
    let more : acceptances turns ++ a ∷ [] ≡ acceptances (turns ++ (line, lines) ∷ []) = sym (acceptances_more turns line lines) in record {
      sound = changed_sound c m change is.there keeps (λ it. member_same c.secrets c.table c.made m (change m) refl refl it) f.sound;
      hearing = subst (λ (l : List Acceptance). All (Hears c.secrets c.table l) members) more
          (changed_all P Q m change c.members f.sound.others is.there f.hearing (λ h. (heard h).hears)
          (λ n other h. hears_other c.secrets c.table (acceptances turns) n a (λ same. other.name (sym same)) h));
      named = subst (λ (l : List Acceptance). All (IsNamed members) l) more
          (All-push (IsNamed members) (acceptances turns) a
          (All-weaker (IsNamed c.members) (IsNamed members) (λ b it. named_changed c.members m.name change b keeps it) (acceptances turns) f.named)
          (named_changed c.members m.name change a keeps (record { member = m; there = is.there; is = refl })));
      rows = All-weaker (IsMade turns) (IsMade (turns ++ (line, lines) ∷ [])) (λ row made. made_longer turns (line, lines) row made) c.table.rows f.rows;
      as_sent = as_sent_more turns line lines f.as_sent
          (λ b there. true_longer turns ((line, lines) ∷ []) (length turns) line lines b (true_last turns c m (change m) number name x b is.name_is f.rows (heard own) there));
      once = subst (λ (l : List Acceptance). AllPairs AreApart l) more
          (all_pairs_push AreApart (acceptances turns) a f.once (λ k d within. (heard own).apart k d within));
    }
