-- The members of the code and of the definition: where a name is found, and what a change at one of them leaves.
use Rattle.std.proofs.Common.{◌≡◌, ◌≢◌, ℕ, ◌<◌, true, false, cond, List, length, get_or, Some, None, slice_get, slice_set, inl, inr, refl, sym, ◌∙◌, arith}
use Rattle.std.specs.List.{position}
use Rattle.std.specs.Prelude.{AllPairs}
use Rattle.std.proofs.lemmas.Bool.{and_parts, cases_eq, cases_order, false_from_ne_true}
use Rattle.std.proofs.lemmas.List.{same_lists, get_or-map, get_or-set_same, get_or-set_other, length-map, length-set}
use Rattle.std.proofs.lemmas.Option.{slice_get-get_or, slice_get_within, get_or_from_slice_get}
use Rattle.std.proofs.lemmas.Slice.Eq.{bytes_eq-Decides}
use Rattle.perc_contexts.proofs.Found.{find_by}
use Rattle.perc_contexts.proofs.ReceivingLaws.{found_of}
use Rattle.perc_member.specs.Each.{MirrorEach, MirrorsMember}
use Rattle.perc_member.specs.declared.member.Member as code_member
use Rattle.perc_run.specs.State.{State, Member, Turn, Refused, at_member, has_name, is_present, member_named, with_member}
use Rattle.perc_run.specs.Sound.{AreOthers}
use Rattle.perc_script_line.specs.declared.reason.Reason.TheVariants.{Name}
use Rattle.perc_conference_state.specs.Lookups.{is_here}
use Rattle.perc_conference_state.proofs.Lists.{position_same}

-- ---- names

pub position_named : (cs : List code_member.Member) (s : State) (name : List ℕ) → MirrorEach MirrorsMember cs s.members
    → position (is_here name) cs ≡ position (is_present name) s.members
position_named cs s name all =
    position_same MirrorsMember (is_here name) (is_present name) cs s.members all (λ c m mirrors. rw (mirrors.present, mirrors.name) refl)

pub found_at : (s : State) (name : List ℕ) (place : ℕ) → position (is_present name) s.members ≡ Some place
    → (m : Member) × (member_named name s ≡ Some m) × (slice_get s.members place ≡ Some m)
found_at s name place is = find_by (is_present name) s.members (Some place) is

pub found_nowhere : (s : State) (name : List ℕ) → position (is_present name) s.members ≡ None → member_named name s ≡ None
found_nowhere s name is = find_by (is_present name) s.members None is

-- the member that is found has the name
pub name_of_found : (s : State) (name : List ℕ) (m : Member) → member_named name s ≡ Some m → m.name ≡ name
name_of_found s name m found =
    let it = found_of (is_present name) s.members m found in
    sym ((bytes_eq-Decides name m.name).0 (and_parts m.present (has_name name m) it.1).1)

-- ---- a change at one

-- members at two places have other names
other_names : (members : List Member) (i k : ℕ) (a b : Member) → AllPairs AreOthers members → i ≢ k → slice_get members i ≡ Some a → slice_get members k ≡ Some b → a.name ≢ b.name
other_names members i k a b others apart at_a at_b =
    let in_a = slice_get_within members i a at_a in
    let in_b = slice_get_within members k b at_b in
    elim (cases_order i k) [
      | inl same ↦ absurd (apart same)
      | inr other ↦
          elim other [
            | inl before ↦ (
                let pair = others i k a before in_b in
                rw (get_or_from_slice_get members i a a at_a, get_or_from_slice_get members k b a at_b) at pair.name)
            | inr behind ↦ (λ same.
                let pair = others k i b behind in_a in
                (rw (get_or_from_slice_get members k b b at_b, get_or_from_slice_get members i a b at_a) at pair.name) (sym same))
          ]
    ]

-- a change at the member of a name is a change at the place where it stands
pub changed_at : (change : Member → Member) (members : List Member) (k : ℕ) (m : Member) → AllPairs AreOthers members → slice_get members k ≡ Some m
    → with_member m.name change members ≡ slice_set members k (change m)
changed_at change members k m others at =
    same_lists _ _ (length-map members _ ∙ sym (length-set members k (change m))) (λ i d within.
    let in_members : i < length members = omega (arith, length-map members (λ (x : Member). cond (has_name m.name x) (change x) x)) in
    let e = get_or-map (λ (x : Member). cond (has_name m.name x) (change x) x) members i d d in_members in
    let x = slice_get-get_or members i d in_members in
    elim (cases_eq i k) [
      | inl h ↦ (
          let is : get_or members i d ≡ m = rw h (get_or_from_slice_get members k m d at) in
          let named : has_name m.name m ≡ true = (bytes_eq-Decides m.name m.name).1 refl in
          let written = get_or-set_same members k (change m) d (slice_get_within members k m at) in
          e ∙ rw (is, named, h) (sym written))
      | inr h ↦ (
          let other : has_name m.name (get_or members i d) ≡ false =
          false_from_ne_true _ (λ t. other_names members i k _ _ others h x at (sym ((bytes_eq-Decides m.name _).0 t))) in
          e ∙ rw other (sym (get_or-set_other members k i (change m) d h)))
    ])

-- ---- turns

pub at_nobody : (s : State) (name : List ℕ) (goes : Member → Turn) → member_named name s ≡ None → at_member s name goes ≡ Refused Name
at_nobody s name goes none = rw none refl

pub at_somebody : (s : State) (name : List ℕ) (goes : Member → Turn) (m : Member) → member_named name s ≡ Some m → at_member s name goes ≡ goes m
at_somebody s name goes m found = rw found refl
