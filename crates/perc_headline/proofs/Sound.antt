-- What is always so while a script runs, and that each thing a line can do keeps it.
use Rattle.std.proofs.Common.{◌≡◌, ℕ, ◌+◌, ◌≤◌, List, [], ◌∷◌, ◌++◌, length, Option, Some, None, refl, sym, ap, ◌∙◌, subst, arith}
use Rattle.std.specs.Prelude.{All, Contains}
use Rattle.std.proofs.lemmas.List.Elements.{All-contains, All-nil, All-push, All-same, All-weaker, Contains-append_left}
use Rattle.std.proofs.lemmas.List.Quantifiers.{all_pairs_push}
use Rattle.perc_base.specs.declared.profile.Profile.{Profile}
use Rattle.perc_base.specs.Profile.{key_length}
use Rattle.perc_receiver.specs.Table.{IsRightRow, IsRightWrap, IsSecret, Row, Secret, Table}
use Rattle.perc_receiver.proofs.Once.{secret_more}
use Rattle.perc_outgoing.specs.Sending.{Outgoing}
use Rattle.perc_run.specs.State.{Member, nobody, with_member}
use Rattle.perc_run.specs.Sound.{AreOthers, Core, IsBefore, IsMember, IsOfMember, IsSomebody, IsSound, KeysFit, core_of}
use Rattle.perc_headline.proofs.Lookups.{Keeps, changed_all, others_changed, somebody_changed}
use Rattle.perc_headline.proofs.Secrets.{fits_more, issued_more, right_more}

-- ---- before the first line

pub sound_nobody : IsSound (core_of nobody)
sound_nobody = record {
  fits = refl;
  issued = record { right = All-nil IsSecret; below = All-nil (λ (s : Secret). _); last = λ s none. absurd (cc) };
  table = record { rows = All-nil (IsRightRow []); one_row = λ i j d below within. absurd (omega arith); wraps = All-nil (IsRightWrap []) };
  others = λ i j d below within. absurd (omega arith);
  members = λ k d within. absurd (omega arith);
  joined = λ k d within. absurd (omega arith);
  datagrams = λ i j d below within. absurd (omega arith);
  made = λ k d within. absurd (omega arith);
}

-- ---- the head, and more datagrams

pub sound_profile : (c : Core) (profile : Profile) → c.profile ≡ None → IsSound c → IsSound (record c { profile = Some profile })
sound_profile c profile none sound =
    let empty : c.secrets ≡ [] = subst (λ (o : Option Profile). KeysFit o c.secrets) none sound.fits in record {
      fits = All-same (λ (s : Secret). length s.key ≡ key_length profile) c.secrets [] empty (All-nil (λ (s : Secret). length s.key ≡ key_length profile));
      issued = sound.issued;
      table = sound.table;
      others = sound.others;
      members = sound.members;
      joined = sound.joined;
      datagrams = sound.datagrams;
      made = sound.made;
    }

member_made : (secrets : List Secret) (table : Table) (made n : ℕ) (m : Member) → made ≤ n → IsMember secrets table made m → IsMember secrets table n m
member_made secrets table made n m more is =
    let few = is.few in
    let control = is.few_control in
    record { sending = is.sending; sender = is.sender; secret = is.secret; few = omega arith; few_control = omega arith; before = is.before }

pub sound_made : (c : Core) (n : ℕ) → c.made ≤ n → IsSound c → IsSound (record c { made = n })
sound_made c n more sound = record {
  fits = sound.fits;
  issued = sound.issued;
  table = sound.table;
  others = sound.others;
  members = All-weaker (IsMember c.secrets c.table c.made) (IsMember c.secrets c.table n) (λ m is. member_made c.secrets c.table c.made n m more is) c.members sound.members;
  joined = sound.joined;
  datagrams = sound.datagrams;
  made = All-weaker (λ (row : Row). row.datagram ≤ c.made) (λ (row : Row). row.datagram ≤ n) (λ row low. omega arith) c.table.rows sound.made;
}

-- ---- a secret

pub sound_issue : (c : Core) (profile : Profile) (s : Secret) → c.profile ≡ Some profile → IsSecret s → s.spi ≡ length c.secrets + 1
    → length s.key ≡ key_length profile → IsSound c → IsSound (record c { secrets = c.secrets ++ s ∷ [] })
sound_issue c profile s head right spi size sound =
    let next : List Secret = c.secrets ++ s ∷ [] in record {
      fits = fits_more profile c.profile c.secrets s head sound.fits size;
      issued = issued_more c.secrets s sound.issued right spi;
      table = right_more c.secrets (s ∷ []) c.table sound.table;
      others = sound.others;
      members = All-weaker (IsMember c.secrets c.table c.made) (IsMember next c.table c.made) (λ m is. record {
        sending = is.sending;
        sender = is.sender;
        secret = secret_more c.secrets (s ∷ []) m.endpoint.sending.secret.spi m.endpoint.sending.secret is.secret;
        few = is.few;
        few_control = is.few_control;
        before = is.before;
      }) c.members sound.members;
      joined = sound.joined;
      datagrams = sound.datagrams;
      made = sound.made;
    }

-- ---- a member more

-- Somebody stays among more.
pub somebody_longer : (P : Member → Type 0) (members : List Member) (m : Member) → IsSomebody members P → IsSomebody (members ++ m ∷ []) P
somebody_longer P members m it = record { member = it.member; there = Contains-append_left members (m ∷ []) it.member it.there; is = it.is }

not_new_row : (c : Core) (m : Member) (row : Row) → All (λ n. AreOthers n m) c.members → IsOfMember c.members row → IsBefore m row
not_new_row c m row others joined same =
    let other = All-contains (λ n. AreOthers n m) c.members joined.member others joined.there in absurd (other.ssrc (sym joined.is ∙ same))

-- The table before anything was sent.
abbrev pub nothing_sent : Table
nothing_sent = record { rows = []; wraps = [] }

pub sound_join : (c : Core) (m : Member) → IsMember c.secrets nothing_sent c.made m → All (λ n. AreOthers n m) c.members → IsSound c
    → IsSound (record c { members = c.members ++ m ∷ [] })
sound_join c m is others sound =
    let members : List Member = c.members ++ m ∷ [] in record {
      fits = sound.fits;
      issued = sound.issued;
      table = sound.table;
      others = all_pairs_push AreOthers c.members m sound.others others;
      members = All-push (IsMember c.secrets c.table c.made) c.members m sound.members (record {
        sending = is.sending;
        sender = is.sender;
        secret = is.secret;
        few = is.few;
        few_control = is.few_control;
        before = All-weaker (IsOfMember c.members) (IsBefore m) (λ row joined. not_new_row c m row others joined) c.table.rows sound.joined;
      });
      joined = All-weaker (IsOfMember c.members) (IsOfMember members) (λ row it. somebody_longer (λ n. row.ssrc ≡ n.ssrc) c.members m it) c.table.rows sound.joined;
      datagrams = sound.datagrams;
      made = sound.made;
    }

-- ---- a member changes

-- A member with the same SSRC that sends the same is as sound.
pub member_same : (secrets : List Secret) (table : Table) (made : ℕ) (m n : Member) → n.ssrc ≡ m.ssrc → n.endpoint.sending ≡ m.endpoint.sending
    → IsMember secrets table made m → IsMember secrets table made n
member_same secrets table made m n ssrc sending is =
    let next : n.endpoint.sending.sending.next ≡ m.endpoint.sending.sending.next = ap (λ (o : Outgoing). o.sending.next) sending in
    let few = is.few in
    let rtcp : n.endpoint.sending.rtcp ≡ m.endpoint.sending.rtcp = ap (λ (o : Outgoing). o.rtcp) sending in
    let control = is.few_control in record {
      sending = rw sending is.sending;
      sender = ap (λ (o : Outgoing). o.sending.ssrc) sending ∙ is.sender ∙ sym ssrc;
      secret = rw sending is.secret;
      few = omega arith;
      few_control = omega arith;
      before = All-weaker (IsBefore m) (IsBefore n) (λ row is same. let low = is (same ∙ ssrc) in omega arith) table.rows is.before;
    }

pub joined_changed : (members : List Member) (name : List ℕ) (change : Member → Member) (row : Row) → Keeps change → IsOfMember members row → IsOfMember (with_member name change members) row
joined_changed members name change row keeps it = somebody_changed (λ n. row.ssrc ≡ n.ssrc) name change members (λ n is. is ∙ sym (keeps.ssrc n)) it

pub changed_sound : (c : Core) (m : Member) (change : Member → Member) → Contains c.members m → Keeps change
    → (IsMember c.secrets c.table c.made m → IsMember c.secrets c.table c.made (change m)) → IsSound c → IsSound (record c { members = with_member m.name change c.members })
changed_sound c m change there keeps member sound =
    let P : Member → Type 0 = IsMember c.secrets c.table c.made in record {
      fits = sound.fits;
      issued = sound.issued;
      table = sound.table;
      others = others_changed m.name change c.members keeps sound.others;
      members = changed_all P P m change c.members sound.others there sound.members member (λ n other is. is);
      joined = All-weaker (IsOfMember c.members) (IsOfMember (with_member m.name change c.members))
          (λ row it. joined_changed c.members m.name change row keeps it) c.table.rows sound.joined;
      datagrams = sound.datagrams;
      made = sound.made;
    }
