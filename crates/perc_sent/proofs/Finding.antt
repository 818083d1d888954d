-- Members of the code are found by their SSRCs: two of them have two.
use Rattle.std.proofs.Common.{◌≡◌, ℕ, zero, suc, ◌<◌, inl, inr, Bool, true, List, [], ◌∷◌, length, get_or, Option, Some, None, refl, sym, ap, ◌∙◌, arith}
use Rattle.std.specs.Prelude.{AllPairs, Contains, find, slice_get, ◌==◌, ◌≢◌}
use Rattle.std.proofs.lemmas.Bool.{cases_order, eq-eqb, eqb-true}
use Rattle.std.proofs.lemmas.Option.{get_or_from_slice_get, slice_get-get_or, slice_get_within}
use Rattle.perc_contexts.proofs.ReceivingLaws.{found_of}
use Rattle.perc_receiver.proofs.Secrets.{some_found}
use Rattle.perc_member.specs.Each.{MirrorEach, MirrorsMember}
use Rattle.perc_member.specs.declared.member.Member as code_member
use Rattle.perc_run.specs.State.{Member}
use Rattle.perc_run.specs.Sound.{AreOthers}

-- ---- what is found

-- The only one that passes is found.
pub find_only : {X : Type 0} (test : X → Bool) (xs : List X) (x : X) → Contains xs x → test x ≡ true
    → ((y : X) → Contains xs y → test y ≡ true → y ≡ x) → find test xs ≡ Some x
find_only test xs x there passes only =
    let found = some_found test xs x there passes in
    let it = found_of test xs found.0 found.1 in
    found.1 ∙ ap Some (only found.0 it.0 it.1)

-- Where none passes, none is found.
pub find_none : {X : Type 0} (test : X → Bool) (xs : List X) → ((y : X) → Contains xs y → test y ≡ true → ⊥) → find test xs ≡ None
find_none {X} test xs none = by (find test xs) refl where
  by : (o : Option X) → find test xs ≡ o → find test xs ≡ None
  by None e = e
  by (Some y) e = let it = found_of test xs y e in absurd (none y it.0 it.1)

-- ---- places

-- What stands at a place is one of the list.
pub contains_at : {X : Type 0} (xs : List X) (k : ℕ) (x : X) → slice_get xs k ≡ Some x → Contains xs x
contains_at xs k x at = (k, slice_get_within xs k x at, get_or_from_slice_get xs k x x at)

pub place_of : {X : Type 0} (xs : List X) (x : X) (there : Contains xs x) → slice_get xs there.0 ≡ Some x
place_of xs x there = slice_get-get_or xs there.0 x there.1 ∙ ap Some there.2

pub at_within : {X : Type 0} (xs : List X) (k : ℕ) → k < length xs → (x : X) × (slice_get xs k ≡ Some x)
at_within [] k within = absurd (omega arith)
at_within (y ∷ xs) zero within = (y, refl)
at_within (y ∷ xs) (suc k) within = at_within xs k (omega arith)

-- what is mirrored by the one at a place
pub mirror_at : {C D : Type 0} (M : C → D → Type 0) (cs : List C) (ds : List D) (k : ℕ) (c : C) → MirrorEach M cs ds → slice_get cs k ≡ Some c
    → (d : D) × (slice_get ds k ≡ Some d) × M c d
mirror_at M cs ds k c each at =
    let low = slice_get_within cs k c at in
    let count = each.count in
    let it = at_within ds k (omega arith) in
    (it.0, it.1, each.each k c it.0 at it.1)

-- what mirrors the one at a place
pub mirrored_at : {C D : Type 0} (M : C → D → Type 0) (cs : List C) (ds : List D) (k : ℕ) (d : D) → MirrorEach M cs ds → slice_get ds k ≡ Some d
    → (c : C) × (slice_get cs k ≡ Some c) × M c d
mirrored_at M cs ds k d each at =
    let low = slice_get_within ds k d at in
    let count = each.count in
    let it = at_within cs k (omega arith) in
    (it.0, it.1, each.each k it.0 d it.1 at)

-- ---- members

apart : (cs : List code_member.Member) (ms : List Member) (i j : ℕ) (c d : code_member.Member) → MirrorEach MirrorsMember cs ms → AllPairs AreOthers ms
    → i < j → slice_get cs i ≡ Some c → slice_get cs j ≡ Some d → c.ssrc ≢ d.ssrc
apart cs ms i j c d each others below at_c at_d same =
    let m = mirror_at MirrorsMember cs ms i c each at_c in
    let n = mirror_at MirrorsMember cs ms j d each at_d in
    let two : AreOthers (get_or ms i m.0) (get_or ms j m.0) = others i j m.0 below (slice_get_within ms j n.0 n.1) in
    let first : get_or ms i m.0 ≡ m.0 = get_or_from_slice_get ms i m.0 m.0 m.1 in
    let second : get_or ms j m.0 ≡ n.0 = get_or_from_slice_get ms j n.0 m.0 n.1 in
    let ssrcs : m.0.ssrc ≡ n.0.ssrc = sym m.2.ssrc ∙ same ∙ n.2.ssrc in
    two.ssrc (ap (λ (x : Member). x.ssrc) first ∙ ssrcs ∙ sym (ap (λ (x : Member). x.ssrc) second))

-- Two members of the code with one SSRC are one.
pub one_member : (cs : List code_member.Member) (ms : List Member) (c d : code_member.Member) → MirrorEach MirrorsMember cs ms → AllPairs AreOthers ms
    → Contains cs c → Contains cs d → c.ssrc ≡ d.ssrc → c ≡ d
one_member cs ms c d each others in_c in_d same =
    let at_c = place_of cs c in_c in
    let at_d = place_of cs d in_d in
    elim (cases_order in_c.0 in_d.0) [
      | inl one ↦ let e : ◌≡◌ {A = Option code_member.Member} (Some c) (Some d) = sym at_c ∙ ap (slice_get cs) one ∙ at_d in cc
      | inr two ↦
          elim two [
            | inl before ↦ absurd (apart cs ms in_c.0 in_d.0 c d each others before at_c at_d same)
            | inr behind ↦ absurd (apart cs ms in_d.0 in_c.0 d c each others behind at_d at_c (sym same))
          ]
    ]

-- A member is found by its SSRC.
pub member_found : (cs : List code_member.Member) (ms : List Member) (c : code_member.Member) (ssrc : ℕ) → MirrorEach MirrorsMember cs ms → AllPairs AreOthers ms
    → Contains cs c → c.ssrc ≡ ssrc → find (λ m. m.ssrc == ssrc) cs ≡ Some c
member_found cs ms c ssrc each others there is =
    find_only (λ (m : code_member.Member). m.ssrc == ssrc) cs c there (eq-eqb c.ssrc ssrc is)
    (λ d in_d passes. one_member cs ms d c each others in_d there (eqb-true d.ssrc ssrc passes ∙ sym is))
