-- How a reader of lines steps, and what its callers take from a step.
use Rattle.std.proofs.Common.{◌≡◌, ℕ, ◌⊎◌, Bool, true, false, cond, List, [], ◌∷◌, ◌++◌, length, Option, Some, None, Ok, Err, IfSome, refl, sym, ap, subst, ◌∙◌, inl, inr, append_assoc}
use Rattle.std.specs.List.{Contains}
use Rattle.std.proofs.lemmas.List.{append-nil}
use Rattle.std.proofs.lemmas.Bool.{false≢true}
use Rattle.perc_base.specs.declared.outside.Failed.{Failed}
use Rattle.perc_base.specs.Outside.{Reads}
use Rattle.perc_base.specs.Lines.{Held, Found, Line, Long, End, Gives, Step, Advances, IsDecided, lines_before, lines_of}
use Rattle.perc_base.specs.Room.{Decides, ReadsOn}
use Rattle.perc_base.proofs.Lists.{lines_of-line, lines_of-last, lines_of-long}

-- after an answer: what the source has left, and that the answer is the first of the lines before the reader
pub Step_gives : (old new : Held) (before : List ℕ) (left : Option (List ℕ)) (found : Found) → Step old (Some before) (Ok found) new left
    → (after : List ℕ) × (left ≡ Some after) × Gives (lines_before old before) found (lines_before new after)
Step_gives old new before None found step = let e = step.reads.2 in cc
Step_gives old new before (Some after) found step = (after, refl, step.lines)

-- the octets before a reader: what it holds, and what its source has left
abbrev octets_before : Held → List ℕ → List ℕ
octets_before held left = held.octets ++ (cond held.ended [] left)

bool_cases : (b : Bool) → (b ≡ true) ⊎ (b ≡ false)
bool_cases true = inl refl
bool_cases false = inr refl

-- reading on moves octets from the source to what is held
reads_keep : (old now : Held) (before after : List ℕ) → ReadsOn old (Some before) now (Some after) → octets_before now after ≡ octets_before old before
reads_keep old now before after h = elim (bool_cases old.ended) [
  | inl e ↦
      ap (λ x. octets_before x after) (h.decided (inl e)).1 ∙ ap (λ b. old.octets ++ cond b [] after) e
      ∙ sym (ap (λ b. old.octets ++ cond b [] before) e)
  | inr e ↦
      let r = h.reads in
      let all : before ≡ h.more ++ r.0 = r.1 in
      let same : after ≡ r.0 = let f = r.2 in cc in
      let still : cond now.ended [] after ≡ after = elim (bool_cases now.ended) [
        | inl f ↦ elim (h.ended f) [ inl k ↦ absurd (false≢true (sym e ∙ k)) | inr k ↦ ap (λ b. cond b [] after) f ∙ sym k ]
        | inr f ↦ ap (λ b. cond b [] after) f
      ] in
      ap (λ l. now.octets ++ l) (still ∙ same) ∙ ap (λ l. l ++ r.0) h.octets ∙ append_assoc old.octets h.more r.0
      ∙ ap (λ l. old.octets ++ l) (sym all) ∙ sym (ap (λ b. old.octets ++ cond b [] before) e)
]

-- an answer that what is held decides is the first of the lines before the reader
decides_gives : (now new : Held) (found : Found) (after : List ℕ) → Decides now found new → Gives (lines_of (octets_before now after)) found (lines_of (octets_before new after))
decides_gives now new (Line octets) after h =
    let ended : now.ended ≡ new.ended = sym h.2 in
    elim h.3 [
      | inl e ↦
          let split : octets_before now after ≡ octets ++ 10 ∷ octets_before new after =
          ap (λ l. l ++ cond now.ended [] after) e ∙ append_assoc octets (10 ∷ new.octets) (cond now.ended [] after)
          ∙ ap (λ b. octets ++ 10 ∷ (new.octets ++ cond b [] after)) ended in
          subst (λ l. Gives l (Line octets) (lines_of (octets_before new after))) (sym (ap lines_of split ∙ lines_of-line octets (octets_before new after) h.1))
          (refl, h.0, refl)
      | inr e ↦
          let all : octets_before now after ≡ octets =
          ap (λ l. l ++ cond now.ended [] after) e.0 ∙ ap (λ b. octets ++ cond b [] after) e.3 ∙ append-nil octets in
          let none : octets_before new after ≡ [] =
          ap (λ l. l ++ cond new.ended [] after) e.2 ∙ ap (λ b. cond b [] after) (sym ended ∙ e.3) in
          subst (λ l. Gives l (Line octets) (lines_of (octets_before new after))) (sym (ap lines_of all ∙ lines_of-last octets e.1 h.1))
          (refl, h.0, ap lines_of none)
    ]
decides_gives now new Long after h =
    subst (λ x. Gives (lines_of (octets_before now after)) Long (lines_of (octets_before x after))) (sym h.0)
    (lines_of-long now.octets (cond now.ended [] after) h.1 h.2)
decides_gives now new End after h =
    let none : octets_before now after ≡ [] = ap (λ l. l ++ cond now.ended [] after) h.1 ∙ ap (λ b. cond b [] after) h.2 in
    subst (λ l. Gives (lines_of l) End (lines_of (octets_before new after))) (sym none)
    (ap (λ x. lines_of (octets_before x after)) h.0 ∙ ap lines_of none)

decides_advances : (old now new : Held) (more : List ℕ) (found : Found) → now.octets ≡ old.octets ++ more → Decides now found new → Advances old more (Ok found) new
decides_advances old now new more (Line octets) e h = (
  h.0,
  h.1,
  elim h.3 [
    | inl f ↦ inl (sym e ∙ f)
    | inr f ↦ inr (sym e ∙ f.0, f.1, f.2, h.2 ∙ f.3)
  ],
)
decides_advances old now new more Long e h =
    let same : now.octets ≡ new.octets = ap (λ x. x.octets) (sym h.0) in
    (sym e ∙ same, ap length (sym same) ∙ h.1, λ w. h.2 (subst (λ l. Contains l 10) (sym same) w))
decides_advances old now new more End e h =
    (sym e ∙ h.1, ap (λ x. x.octets) h.0 ∙ h.1, ap (λ x. x.ended) h.0 ∙ h.2)

decides_ended : (now new : Held) (found : Found) → Decides now found new → new.ended ≡ now.ended
decides_ended now new (Line octets) h = h.2
decides_ended now new Long h = ap (λ x. x.ended) h.0
decides_ended now new End h = ap (λ x. x.ended) h.0

-- reading on, and then the answer that what is held decides, is a step
pub Step_decided : (old now new : Held) (found : Found) (all left : Option (List ℕ)) → ReadsOn old all now left → Decides now found new
    → Step old all (Ok found) new left
Step_decided old now new found all left reads decides = record {
  more = reads.more;
  reads = reads.reads;
  advances = decides_advances old now new reads.more found reads.octets decides;
  decided = λ d. (reads.decided d).0;
  ended = λ e. reads.ended (sym (decides_ended now new found decides) ∙ e);
  lines = lines all left reads;
  kept = kept all left;
}
  where
    lines : (all left : Option (List ℕ)) → ReadsOn old all now left
        → IfSome all (λ before. IfSome left (λ after. Gives (lines_before old before) found (lines_before new after)))
    lines None left reads = tt
    lines (Some before) None reads = tt
    lines (Some before) (Some after) reads =
        subst (λ l. Gives (lines_of l) found (lines_of (octets_before new after))) (reads_keep old now before after reads) (decides_gives now new found after decides)

    kept : (all left : Option (List ℕ)) → IfSome all (λ before. IfSome left (λ after. Unit {0}))
    kept None left = tt
    kept (Some before) None = tt
    kept (Some before) (Some after) = tt

-- reading on, and then a failed read, is a step
pub Step_failed : (old now : Held) (failed : Failed) (all left : Option (List ℕ)) → ReadsOn old all now left → (IsDecided now → ⊥)
    → Step old all (Err failed) now left
Step_failed old now failed all left reads undecided = record {
  more = reads.more;
  reads = reads.reads;
  advances = (
    λ d. undecided (subst IsDecided (sym (reads.decided d).1) d),
    undecided,
    reads.octets,
    elim (bool_cases now.ended) [ inl e ↦ absurd (undecided (inl e)) | inr e ↦ e ],
  );
  decided = λ d. (reads.decided d).0;
  ended = reads.ended;
  lines = lines all left;
  kept = kept all left reads;
}
  where
    lines : (all left : Option (List ℕ)) → IfSome all (λ before. IfSome left (λ after. Unit {0}))
    lines None left = tt
    lines (Some before) None = tt
    lines (Some before) (Some after) = tt

    kept : (all left : Option (List ℕ)) → ReadsOn old all now left
        → IfSome all (λ before. IfSome left (λ after. lines_before now after ≡ lines_before old before))
    kept None left reads = tt
    kept (Some before) None reads = tt
    kept (Some before) (Some after) reads = ap lines_of (reads_keep old now before after reads)

-- no read at all
pub ReadsOn_none : (held : Held) (all : Option (List ℕ)) → ReadsOn held all held all
ReadsOn_none held all = record {
  more = [];
  reads = none all;
  octets = sym (append-nil held.octets);
  ended = λ e. inl e;
  decided = λ d. (refl, refl);
}
  where
    none : (all : Option (List ℕ)) → Reads all all []
    none None = refl
    none (Some xs) = (xs, refl, refl)

Reads_more : (all between left : Option (List ℕ)) (xs ys : List ℕ) → Reads all between xs → Reads between left ys → Reads all left (xs ++ ys)
Reads_more None None left xs ys h k = k
Reads_more None (Some between) left xs ys h k = cc
Reads_more (Some all) None left xs ys h k = let e = h.2 in cc
Reads_more (Some all) (Some between) left xs ys h k =
    let same : h.0 ≡ between = let e = h.2 in cc in
    (k.0, h.1 ∙ ap (λ l. xs ++ l) (same ∙ k.1) ∙ sym (append_assoc xs ys k.0), k.2)

-- reads, and one more
pub ReadsOn_more : (old now new : Held) (all between left : Option (List ℕ)) → ReadsOn old all now between → (IsDecided now → ⊥) → ReadsOn now between new left
    → ReadsOn old all new left
ReadsOn_more old now new all between left reads undecided one = record {
  more = reads.more ++ one.more;
  reads = Reads_more all between left reads.more one.more reads.reads one.reads;
  octets = one.octets ∙ ap (λ l. l ++ one.more) reads.octets ∙ append_assoc old.octets reads.more one.more;
  ended = λ e. elim (one.ended e) [ inl f ↦ absurd (undecided (inl f)) | inr f ↦ inr f ];
  decided = λ d. absurd (undecided (subst IsDecided (sym (reads.decided d).1) d));
}
