-- The state stays orderly whatever receiver a member has.
use Rattle.std.proofs.Common.{◌≡◌, ℕ, ◌+◌, ◌<◌, Bool, true, false, cond, List, [], ◌∷◌, length, map, get_or, Option, Some, None, slice_get, refl, sym, ap, ◌∙◌, subst, arith}
use Rattle.std.specs.Prelude.{All, AllPairs}
use Rattle.std.specs.Option.{option_map}
use Rattle.std.proofs.lemmas.List.{get_or-map, get_or_default, length-map}
use Rattle.std.proofs.lemmas.List.Elements.{All-map, All-weaker}
use Rattle.std.proofs.lemmas.Option.{slice_get-map}
use Rattle.byteorder.specs.Endian.{big_bytes}
use Rattle.perc_base.specs.declared.profile.Profile.{Profile}
use Rattle.perc_keyset.specs.declared.Entry.{Entry}
use Rattle.perc_receiver.specs.Receiver.{Receiver}
use Rattle.perc_receiver.specs.Table.{Row, Secret, Table}
use Rattle.perc_run.specs.Delivering.{with_receiver}
use Rattle.perc_run.specs.Sound.{AreOfProfile, AreOthers, IsMember, IsOfMember, IsOrderly, entries_from}
use Rattle.perc_run.specs.State.{Member, State, has_name, with_member}

module _ (name : List ℕ) (r : Receiver) where
  -- what a member is then
  abbrev now : Member → Member
  now m = cond (has_name name m) (with_receiver r m) m

  kept : (P : Member → Type 0) (m : Member) → P m → P (with_receiver r m) → P (now m)
  kept P m before after = at (has_name name m) where
    at : (b : Bool) → P (cond b (with_receiver r m) m)
    at true = after
    at false = before

  all_kept : (P : Member → Type 0) (members : List Member) → ((m : Member) → P m → P (with_receiver r m)) → All P members → All P (with_member name (with_receiver r) members)
  all_kept P members keep all = All-map P now members (All-weaker P (λ (m : Member). P (now m)) (λ m is. kept P m is (keep m is)) members all)

  others_now : (m n : Member) → AreOthers m n → AreOthers (now m) (now n)
  others_now m n others =
      kept (λ (x : Member). AreOthers x (now n)) m
      (kept (λ (y : Member). AreOthers m y) n others (record { name = others.name; ssrc = others.ssrc }))
      (kept (λ (y : Member). AreOthers (with_receiver r m) y) n (record { name = others.name; ssrc = others.ssrc }) (record { name = others.name; ssrc = others.ssrc }))

  now_at : (members : List Member) (k : ℕ) (d : Member) → k < length members → get_or (map now members) k d ≡ now (get_or members k d)
  now_at members k d within =
      get_or_default (map now members) k d (now d) (subst (λ (n : ℕ). k < n) (sym (length-map members now)) within) ∙ get_or-map now members k d (now d) within

  others_kept : (members : List Member) → AllPairs AreOthers members → AllPairs AreOthers (with_member name (with_receiver r) members)
  others_kept members others i j d below within =
      let second : j < length members = subst (λ (n : ℕ). j < n) (length-map members now) within in
      let first : i < length members = omega arith in
      let it = others_now (get_or members i d) (get_or members j d) (others i j d below second) in
      subst (λ (x : Member). AreOthers x (get_or (map now members) j d)) (sym (now_at members i d first))
      (subst (λ (y : Member). AreOthers (now (get_or members i d)) y) (sym (now_at members j d second)) it)

  member_kept : (secrets : List Secret) (table : Table) (made : ℕ) (m : Member) → IsMember secrets table made m → IsMember secrets table made (with_receiver r m)
  member_kept secrets table made m is = record { sending = is.sending; sender = is.sender; secret = is.secret; few = is.few; few_control = is.few_control; before = is.before }

  joined_kept : (members : List Member) (row : Row) → IsOfMember members row → IsOfMember (with_member name (with_receiver r) members) row
  joined_kept members row it =
      let place : ℕ = it.there.0 in
      let within : place < length members = it.there.1 in
      record {
        member = now it.member;
        there = (
          place,
          subst (λ (n : ℕ). place < n) (sym (length-map members now)) within,
          get_or-map now members place it.member (now it.member) within ∙ ap now it.there.2,
        );
        is = kept (λ (m : Member). row.ssrc ≡ m.ssrc) it.member it.is it.is;
      }

  profiles_kept : (profile : Option Profile) (members : List Member) → AreOfProfile profile members → AreOfProfile profile (with_member name (with_receiver r) members)
  profiles_kept None members none = ap (map now) none
  profiles_kept (Some profile) members all = all_kept (λ (m : Member). m.endpoint.profile ≡ profile) members (λ m is. is) all

  association_by : (place : ℕ) (n : Member) (found : Option Member) → ((m : Member) → found ≡ Some m → m.association ≡ big_bytes 16 (place + 1))
      → option_map now found ≡ Some n → n.association ≡ big_bytes 16 (place + 1)
  association_by place n None known is = absurd (cc)
  association_by place n (Some m) known is =
      let same : now m ≡ n = cc in
      ap (λ (x : Member). x.association) (sym same) ∙ kept (λ (x : Member). x.association ≡ m.association) m refl refl ∙ known m refl

  entry_kept : (serial : ℕ) (m : Member) (later others : List Entry)
      → cond (now m).present (record { association = (now m).association; serial = serial; client = (now m).client; server = (now m).server } ∷ later) others
      ≡ cond m.present (record { association = m.association; serial = serial; client = m.client; server = m.server } ∷ later) others
  entry_kept serial m later others =
      kept
      (λ (x : Member).
      cond x.present (record { association = x.association; serial = serial; client = x.client; server = x.server } ∷ later) others
      ≡ cond m.present (record { association = m.association; serial = serial; client = m.client; server = m.server } ∷ later) others)
      m refl refl

  entries_kept : (serial : ℕ) (members : List Member) → entries_from serial (with_member name (with_receiver r) members) ≡ entries_from serial members
  entries_kept serial [] = refl
  entries_kept serial (m ∷ members) =
      entry_kept serial m _ _
      ∙ (λ i.
      cond m.present (record { association = m.association; serial = serial; client = m.client; server = m.server } ∷ entries_kept (serial + 1) members i)
      (entries_kept (serial + 1) members i))

  pub orderly_kept : (s : State) → IsOrderly s → IsOrderly (record s { members = with_member name (with_receiver r) s.members })
  orderly_kept s o =
      let members : List Member = with_member name (with_receiver r) s.members in
      let P : Member → Type 0 = IsMember s.secrets s.table (length s.datagrams) in
      record {
        sound = record {
          fits = o.sound.fits;
          issued = o.sound.issued;
          table = o.sound.table;
          others = others_kept s.members o.sound.others;
          members = all_kept P s.members (member_kept s.secrets s.table (length s.datagrams)) o.sound.members;
          joined = All-weaker (IsOfMember s.members) (IsOfMember members) (joined_kept s.members) s.table.rows o.sound.joined;
          datagrams = o.sound.datagrams;
          made = o.sound.made;
        };
        profiles = profiles_kept s.profile s.members o.profiles;
        clients = all_kept (λ (m : Member). m.endpoint.sending.client ≡ m.client) s.members (λ m is. is) o.clients;
        associations = λ place n at. association_by place n (slice_get s.members place) (o.associations place) (sym (slice_get-map now s.members place) ∙ at);
        entries = o.entries ∙ sym (entries_kept 0 s.members);
        few_spis = o.few_spis;
        few_members = let same = length-map s.members now in let few = o.few_members in omega arith;
        few_datagrams = o.few_datagrams;
      }
