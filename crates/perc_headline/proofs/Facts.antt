-- What holds of the lines that were done and of the state after them, and that each thing a line can do keeps it.
use Rattle.std.proofs.Common.{◌≡◌, ℕ, ◌+◌, ◌≤◌, List, [], ◌∷◌, ◌++◌, length, Some, None, sym, ◌∙◌, subst}
use Rattle.std.specs.List.{filter_map}
use Rattle.std.specs.Prelude.{All, AllPairs, Contains}
use Rattle.std.proofs.lemmas.List.Elements.{All-contains, All-push, All-weaker}
use Rattle.perc_base.specs.declared.profile.Profile.{Profile}
use Rattle.perc_base.specs.Profile.{key_length}
use Rattle.perc_receiver.specs.Table.{IsSecret, Secret, secret_of}
use Rattle.perc_receiver.proofs.Once as receiver
use Rattle.perc_receiver.proofs.Once.{secret_more}
use Rattle.perc_script_line.specs.Script.{Script}
use Rattle.perc_report_line.specs.Report.{Report, Acceptance}
use Rattle.perc_run.specs.State.{Member, with_member}
use Rattle.perc_headline.specs.Headline.{Turns, AreApart, acceptances, accepted_in}
use Rattle.perc_run.specs.Sound.{AreOthers, Core, IsMember, IsSomebody, IsSound}
use Rattle.perc_headline.proofs.Lookups.{Keeps, changed_all, somebody_changed}
use Rattle.perc_headline.proofs.Sound.{changed_sound, nothing_sent, somebody_longer, sound_issue, sound_join, sound_made, sound_profile}
use Rattle.perc_headline.proofs.Turns.{AsSent, IsMade, acceptances_same, as_sent_more, made_longer, no_accept}
use Rattle.perc_headline.proofs.Hearing.{Hears, IsToldOf, hears_issued}

abbrev pub IsNamed : List Member → Acceptance → Type 0
IsNamed members a = IsSomebody members (λ m. a.name ≡ m.name)

pub record Facts (turns : Turns) (c : Core) : Type 0 where
  pub sound : IsSound c
  pub hearing : All (Hears c.secrets c.table (acceptances turns)) c.members
  pub named : All (IsNamed c.members) (acceptances turns)
  pub rows : All (IsMade turns) c.table.rows
  pub as_sent : AsSent turns
  pub once : AllPairs AreApart (acceptances turns)

-- ---- a line without an accept line

pub quiet_line : (turns : Turns) (line : Script) (lines : List Report) (c : Core) → filter_map accepted_in lines ≡ [] → Facts turns c → Facts (turns ++ (line, lines) ∷ []) c
quiet_line turns line lines c none f =
    let same : acceptances turns ≡ acceptances (turns ++ (line, lines) ∷ []) = sym (acceptances_same turns line lines none) in record {
      sound = f.sound;
      hearing = subst (λ (l : List Acceptance). All (Hears c.secrets c.table l) c.members) same f.hearing;
      named = subst (λ (l : List Acceptance). All (IsNamed c.members) l) same f.named;
      rows = All-weaker (IsMade turns) (IsMade (turns ++ (line, lines) ∷ [])) (λ row made. made_longer turns (line, lines) row made) c.table.rows f.rows;
      as_sent = as_sent_more turns line lines f.as_sent (λ a there. absurd (no_accept lines a none there));
      once = subst (λ (l : List Acceptance). AllPairs AreApart l) same f.once;
    }

-- ---- the head, and more datagrams

pub facts_profile : (turns : Turns) (c : Core) (profile : Profile) → c.profile ≡ None → Facts turns c → Facts turns (record c { profile = Some profile })
facts_profile turns c profile none f = record {
  sound = sound_profile c profile none f.sound;
  hearing = f.hearing;
  named = f.named;
  rows = f.rows;
  as_sent = f.as_sent;
  once = f.once;
}

pub facts_made : (turns : Turns) (c : Core) (n : ℕ) → c.made ≤ n → Facts turns c → Facts turns (record c { made = n })
facts_made turns c n more f = record {
  sound = sound_made c n more f.sound;
  hearing = f.hearing;
  named = f.named;
  rows = f.rows;
  as_sent = f.as_sent;
  once = f.once;
}

-- ---- a secret

pub facts_issue : (turns : Turns) (c : Core) (profile : Profile) (s : Secret) → c.profile ≡ Some profile → IsSecret s → s.spi ≡ length c.secrets + 1
    → length s.key ≡ key_length profile → Facts turns c → Facts turns (record c { secrets = c.secrets ++ s ∷ [] })
facts_issue turns c profile s head right spi size f = record {
  sound = sound_issue c profile s head right spi size f.sound;
  hearing = All-weaker (Hears c.secrets c.table (acceptances turns)) (Hears (c.secrets ++ s ∷ []) c.table (acceptances turns))
      (λ m h. hears_issued c.secrets (s ∷ []) c.table (acceptances turns) m h) c.members f.hearing;
  named = f.named;
  rows = f.rows;
  as_sent = f.as_sent;
  once = f.once;
}

-- ---- a member more

-- A member that sent and heard nothing has a name and an SSRC of its own.
pub record IsNew (c : Core) (m : Member) : Type 0 where
  pub member : IsMember c.secrets nothing_sent c.made m
  pub held : List Secret
  pub issued : All (λ (s : Secret). secret_of c.secrets s.spi ≡ Some s) held
  pub sound : receiver.IsSound held c.table m.endpoint.receiving []
  pub others : All (λ n. AreOthers n m) c.members

not_new_name : (c : Core) (m : Member) (a : Acceptance) → All (λ n. AreOthers n m) c.members → IsNamed c.members a → IsToldOf c.table m.name [] a
not_new_name c m a others named same =
    let other = All-contains (λ n. AreOthers n m) c.members named.member others named.there in absurd (other.name (sym named.is ∙ same))

pub facts_join : (turns : Turns) (c : Core) (m : Member) → IsNew c m → Facts turns c → Facts turns (record c { members = c.members ++ m ∷ [] })
facts_join turns c m new f =
    let members : List Member = c.members ++ m ∷ [] in record {
      sound = sound_join c m new.member new.others f.sound;
      hearing = All-push (Hears c.secrets c.table (acceptances turns)) c.members m f.hearing (record {
        held = new.held;
        done = [];
        issued = new.issued;
        sound = new.sound;
        told = All-weaker (IsNamed c.members) (IsToldOf c.table m.name []) (λ a named. not_new_name c m a new.others named) (acceptances turns) f.named;
      });
      named = All-weaker (IsNamed c.members) (IsNamed members) (λ a it. somebody_longer (λ n. a.name ≡ n.name) c.members m it) (acceptances turns) f.named;
      rows = f.rows;
      as_sent = f.as_sent;
      once = f.once;
    }

-- ---- a member changes

-- The sending and the hearing of one stay right.
pub record IsChange (turns : Turns) (c : Core) (m : Member) (change : Member → Member) : Type 0 where
  pub there : Contains c.members m
  pub keeps : Keeps change
  pub member : IsMember c.secrets c.table c.made m → IsMember c.secrets c.table c.made (change m)
  pub hears : Hears c.secrets c.table (acceptances turns) m → Hears c.secrets c.table (acceptances turns) (change m)

-- somebody's name and SSRC are kept
pub named_changed : (members : List Member) (name : List ℕ) (change : Member → Member) (a : Acceptance) → Keeps change → IsNamed members a → IsNamed (with_member name change members) a
named_changed members name change a keeps it = somebody_changed (λ n. a.name ≡ n.name) name change members (λ n is. is ∙ sym (keeps.name n)) it

pub facts_change : (turns : Turns) (c : Core) (m : Member) (change : Member → Member) → IsChange turns c m change → Facts turns c
    → Facts turns (record c { members = with_member m.name change c.members })
facts_change turns c m change is f =
    let H : Member → Type 0 = Hears c.secrets c.table (acceptances turns) in record {
      sound = changed_sound c m change is.there is.keeps is.member f.sound;
      hearing = changed_all H H m change c.members f.sound.others is.there f.hearing is.hears (λ n other h. h);
      named = All-weaker (IsNamed c.members) (IsNamed (with_member m.name change c.members)) (λ a it. named_changed c.members m.name change a is.keeps it) (acceptances turns) f.named;
      rows = f.rows;
      as_sent = f.as_sent;
      once = f.once;
    }
