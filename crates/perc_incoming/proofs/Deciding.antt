-- What is decided over the tries that open, one after another.
use Rattle.std.proofs.Common.{◌≡◌, ℕ, Bool, true, false, cond, List, [], ◌∷◌, length, Option, Some, None, Result, Ok, Err, refl, ap, ◌∙◌, sym, subst}
use Rattle.std.specs.Prelude.{find, if◌then◌else◌}
use Rattle.std.specs.List.{cons_option}
use Rattle.std.specs.Option.{ok_or, option_map, unwrap_or}
use Rattle.perc_window.specs.Replay.{has, is_too_old}
use Rattle.perc_window.specs.declared.window.Freshness.{Freshness}
use Rattle.perc_window.specs.declared.window.Freshness.TheVariants.{Fresh, Repeated, TooOld}
use Rattle.perc_rtp.specs.Header.{Header}
use Rattle.perc_srtp.specs.Sealed.{BeginsWith}
use Rattle.perc_contexts.specs.Receiving.{Attempt, Carried, Context, freshness_of}
use Rattle.perc_contexts.specs.Kept.{AreTries, IsTry}
use Rattle.perc_contexts.specs.declared.Try.{Try}
use Rattle.perc_receiver.specs.declared.refusal.Refusal.{Refusal}
use Rattle.perc_receiver.specs.declared.refusal.Refusal.TheVariants as refusal
use Rattle.perc_receiver.specs.Table.{Secret, secret_of}
use Rattle.perc_receiver.specs.Opener.{body_under, by_cipher}
use Rattle.perc_receiver.specs.Receiver.{OpenTry, decided, is_fresh, openings, stale}
use Rattle.perc_receiver.proofs.Taken.{decided_some, opens_fresh}
use Rattle.perc_incoming.specs.Asking.{IsDecided, IsOpened, IsTried, body_at, decided_after, tried_as}
use Rattle.perc_incoming.specs.declared.trying.Tried.TheVariants as one

-- ---- the first that is fresh, or why none is

pub decided_none : (opened : List OpenTry) → find opens_fresh opened ≡ None → decided opened ≡ Err (stale opened)
decided_none opened e = rw e refl

later_by : (e : Refusal) (o : OpenTry) (opened : List OpenTry) (x : Option OpenTry) → find opens_fresh opened ≡ x → opens_fresh o ≡ false → stale (o ∷ opened) ≡ e
    → decided (o ∷ opened) ≡ decided_after (Some e) opened
later_by e o opened (Some p) is old why =
    let at : find opens_fresh (o ∷ opened) ≡ Some p = ap (λ (b : Bool). cond b (Some o) (find opens_fresh opened)) old ∙ is in
    decided_some (o ∷ opened) p at ∙ sym (ap (λ (x : Option OpenTry). ok_or x e) is)
later_by e o opened None is old why =
    let at : find opens_fresh (o ∷ opened) ≡ None = ap (λ (b : Bool). cond b (Some o) (find opens_fresh opened)) old ∙ is in
    decided_none (o ∷ opened) at ∙ ap Err why ∙ sym (ap (λ (x : Option OpenTry). ok_or x e) is)

pub after_stale : (told : Option Refusal) (e : Refusal) (o : OpenTry) (opened : List OpenTry) → opens_fresh o ≡ false → stale (o ∷ opened) ≡ e
    → decided_after told (o ∷ opened) ≡ decided_after (Some (unwrap_or told e)) opened
after_stale None e o opened old why = later_by e o opened (find opens_fresh opened) refl old why
after_stale (Some d) e o opened old why = ap (λ (b : Bool). ok_or (cond b (Some o) (find opens_fresh opened)) d) old

pub after_fresh : (told : Option Refusal) (o : OpenTry) (opened : List OpenTry) → opens_fresh o ≡ true → decided_after told (o ∷ opened) ≡ Ok o
after_fresh None o opened fresh = decided_some (o ∷ opened) o (ap (λ (b : Bool). cond b (Some o) (find opens_fresh opened)) fresh)
after_fresh (Some d) o opened fresh = ap (λ (b : Bool). ok_or (cond b (Some o) (find opens_fresh opened)) d) fresh

pub after_none : (told : Option Refusal) → decided_after told [] ≡ Err (unwrap_or told refusal.InnerTag)
after_none None = refl
after_none (Some d) = refl

-- ---- what a try opens to

pub body_is : (s : Option Secret) (c : Context) (index : ℕ) (h : Header) (octets : List ℕ) → body_at s c.key index h octets ≡ body_under s c index h octets
body_is None c index h octets = refl
body_is (Some s) c index h octets = refl

module _ (secrets : List Secret) (h : Header) (octets : List ℕ) (a : Attempt) (attempts : List Attempt) where
  abbrev pub behind : Option (List ℕ) → List OpenTry
  behind x = cons_option (option_map (λ (body : List ℕ). record { attempt = a; body = body }) x) (openings (by_cipher secrets) h octets attempts)

  pub opened_as : (x : Option (List ℕ)) → body_at (secret_of secrets a.context.spi) a.context.key a.index h octets ≡ x
      → openings (by_cipher secrets) h octets (a ∷ attempts) ≡ behind x
  opened_as x e = ap behind (sym (body_is (secret_of secrets a.context.spi) a.context a.index h octets) ∙ e)

-- ---- what was told of a try

old_told : (old had : Bool) → (if old then TooOld else (if had then Repeated else Fresh)) ≡ TooOld → old ≡ true
old_told true had e = refl
old_told false true e = absurd (cc)
old_told false false e = absurd (cc)

repeated_told : (old had : Bool) → (if old then TooOld else (if had then Repeated else Fresh)) ≡ Repeated → old ≡ false
repeated_told true had e = absurd (cc)
repeated_told false had e = refl

stale_at : (a : Attempt) (body : List ℕ) (opened : List OpenTry) (f : Freshness) (len : ℕ) (e : Refusal) → freshness_of a ≡ f → one.Stale e ≡ tried_as f len
    → (is_fresh (freshness_of a) ≡ false) × (stale (record { attempt = a; body = body } ∷ opened) ≡ e)
stale_at a body opened Fresh len e is told = absurd (cc)
stale_at a body opened Repeated len e is told =
    let why : e ≡ refusal.InnerRepeated = cc in
    let old = repeated_told (is_too_old a.context.accepted a.index) (has a.context.accepted a.index) is in
    (ap is_fresh is, ap (λ (b : Bool). if b then refusal.InnerOld else refusal.InnerRepeated) old ∙ sym why)
stale_at a body opened TooOld len e is told =
    let why : e ≡ refusal.InnerOld = cc in
    let old = old_told (is_too_old a.context.accepted a.index) (has a.context.accepted a.index) is in
    (ap is_fresh is, ap (λ (b : Bool). if b then refusal.InnerOld else refusal.InnerRepeated) old ∙ sym why)

fresh_at : (f : Freshness) (len n : ℕ) → one.Fresh len ≡ tried_as f n → (is_fresh f ≡ true) × (len ≡ n)
fresh_at Fresh len n told = (refl, cc)
fresh_at Repeated len n told = absurd (cc)
fresh_at TooOld len n told = absurd (cc)

not_shut : (f : Freshness) (n : ℕ) → one.Shut ≡ tried_as f n → ⊥
not_shut Fresh n told = absurd (cc)
not_shut Repeated n told = absurd (cc)
not_shut TooOld n told = absurd (cc)

pub tried_shut : (a : Attempt) (body : Option (List ℕ)) (room : List ℕ) → IsTried a body one.Shut room → body ≡ None
tried_shut a None room is = refl
tried_shut a (Some b) room is = absurd (not_shut (freshness_of a) (length b) is.0)

pub record OpensFresh (a : Attempt) (body : Option (List ℕ)) (len : ℕ) (room : List ℕ) : Type 0 where
  pub octets : List ℕ
  pub opens : body ≡ Some octets
  pub fresh : is_fresh (freshness_of a) ≡ true
  pub len_is : len ≡ length octets
  pub front : BeginsWith octets room

pub tried_fresh : (a : Attempt) (body : Option (List ℕ)) (len : ℕ) (room : List ℕ) → IsTried a body (one.Fresh len) room → OpensFresh a body len room
tried_fresh a None len room is = absurd (cc)
tried_fresh a (Some b) len room is =
    let f = fresh_at (freshness_of a) len (length b) is.0 in
    record { octets = b; opens = refl; fresh = f.0; len_is = f.1; front = is.1 }

pub record OpensStale (a : Attempt) (body : Option (List ℕ)) (e : Refusal) : Type 0 where
  pub octets : List ℕ
  pub opens : body ≡ Some octets
  pub old : is_fresh (freshness_of a) ≡ false
  pub why : (opened : List OpenTry) → stale (record { attempt = a; body = octets } ∷ opened) ≡ e

pub tried_stale : (a : Attempt) (body : Option (List ℕ)) (e : Refusal) (room : List ℕ) → IsTried a body (one.Stale e) room → OpensStale a body e
tried_stale a None e room is = absurd (cc)
tried_stale a (Some b) e room is = record {
  octets = b;
  opens = refl;
  old = (stale_at a b [] (freshness_of a) (length b) e refl is.0).0;
  why = λ opened. (stale_at a b opened (freshness_of a) (length b) e refl is.0).1;
}

-- What opened is told as what its context says to its index.
pub told_by : (a : Attempt) (body : Option (List ℕ)) (len : ℕ) (room : List ℕ) (f : Freshness) → IsOpened body (Some len) room → f ≡ freshness_of a
    → IsTried a body (tried_as f len) room
told_by a None len room f is says = absurd (cc)
told_by a (Some b) len room f is says = let same : len ≡ length b = cc in ((λ i. tried_as (says i) (same i)), is.1)

pub told_shut : (a : Attempt) (body : Option (List ℕ)) (room : List ℕ) → IsOpened body None room → IsTried a body one.Shut room
told_shut a None room is = refl
told_shut a (Some b) room is = let bad : ◌≡◌ {A = Option ℕ} None (Some (length b)) = is.0 in absurd (cc)

-- ---- the tries that are left

pub none_left : (contexts : List Context) (ssrc : ℕ) (carried : Option Carried) (list : List Try) (attempts : List Attempt) → list ≡ []
    → AreTries contexts ssrc carried list attempts → attempts ≡ []
none_left contexts ssrc carried [] [] e are = refl
none_left contexts ssrc carried [] (a ∷ attempts) e are = absurd are
none_left contexts ssrc carried (t ∷ list) attempts e are = absurd (cc)

pub record IsFirst (contexts : List Context) (ssrc : ℕ) (carried : Option Carried) (t : Try) (others : List Try) (attempts : List Attempt) : Type 0 where
  pub attempt : Attempt
  pub rest : List Attempt
  pub is : attempts ≡ attempt ∷ rest
  pub is_try : IsTry contexts ssrc carried t attempt
  pub are : AreTries contexts ssrc carried others rest

first_here : (contexts : List Context) (ssrc : ℕ) (carried : Option Carried) (t : Try) (others : List Try) (attempts : List Attempt)
    → AreTries contexts ssrc carried (t ∷ others) attempts → IsFirst contexts ssrc carried t others attempts
first_here contexts ssrc carried t others [] are = absurd are
first_here contexts ssrc carried t others (a ∷ attempts) are = record { attempt = a; rest = attempts; is = refl; is_try = are.0; are = are.1 }

pub first_left : (contexts : List Context) (ssrc : ℕ) (carried : Option Carried) (t : Try) (others list : List Try) (attempts : List Attempt) → list ≡ t ∷ others
    → AreTries contexts ssrc carried list attempts → IsFirst contexts ssrc carried t others attempts
first_left contexts ssrc carried t others list attempts e are =
    first_here contexts ssrc carried t others attempts (subst (λ (l : List Try). AreTries contexts ssrc carried l attempts) e are)

-- ---- a step

module _ (contexts : List Context) (ssrc : ℕ) (carried : Option Carried) (secrets : List Secret) (h : Header) (octets : List ℕ) (told : Option Refusal) where
  abbrev pub Decides : List Attempt → Result (Try × ℕ) Refusal → List ℕ → Type 0
  Decides attempts result room = IsDecided contexts ssrc carried (decided_after told (openings (by_cipher secrets) h octets attempts)) result room

  pub step_none : (attempts : List Attempt) (room : List ℕ) → attempts ≡ [] → Decides attempts (Err (unwrap_or told refusal.InnerTag)) room
  step_none attempts room e =
      let is = ap (λ (l : List Attempt). decided_after told (openings (by_cipher secrets) h octets l)) e ∙ after_none told in
      subst (λ (x : Result OpenTry Refusal). IsDecided contexts ssrc carried x (Err (unwrap_or told refusal.InnerTag)) room) (sym is) refl

  pub step_fresh : (t : Try) (others : List Try) (attempts : List Attempt) (f : IsFirst contexts ssrc carried t others attempts) (len : ℕ) (room : List ℕ)
      → OpensFresh f.attempt (body_at (secret_of secrets f.attempt.context.spi) f.attempt.context.key f.attempt.index h octets) len room → Decides attempts (Ok (t, len)) room
  step_fresh t others attempts f len room o =
      let this : OpenTry = record { attempt = f.attempt; body = o.octets } in
      let is =
      ap (λ (l : List Attempt). decided_after told (openings (by_cipher secrets) h octets l)) f.is
      ∙ ap (decided_after told) (opened_as secrets h octets f.attempt f.rest (Some o.octets) o.opens)
      ∙ after_fresh told this (openings (by_cipher secrets) h octets f.rest) o.fresh in
      subst (λ (x : Result OpenTry Refusal). IsDecided contexts ssrc carried x (Ok (t, len)) room) (sym is) (f.is_try, o.len_is, o.front)

  pub step_stale : (t : Try) (others : List Try) (attempts : List Attempt) (f : IsFirst contexts ssrc carried t others attempts) (e : Refusal)
      (result : Result (Try × ℕ) Refusal) (room : List ℕ)
      → OpensStale f.attempt (body_at (secret_of secrets f.attempt.context.spi) f.attempt.context.key f.attempt.index h octets) e
      → IsDecided contexts ssrc carried (decided_after (Some (unwrap_or told e)) (openings (by_cipher secrets) h octets f.rest)) result room → Decides attempts result room
  step_stale t others attempts f e result room o later =
      let this : OpenTry = record { attempt = f.attempt; body = o.octets } in
      let rest = openings (by_cipher secrets) h octets f.rest in
      let is =
      ap (λ (l : List Attempt). decided_after told (openings (by_cipher secrets) h octets l)) f.is
      ∙ ap (decided_after told) (opened_as secrets h octets f.attempt f.rest (Some o.octets) o.opens)
      ∙ after_stale told e this rest o.old (o.why rest) in
      subst (λ (x : Result OpenTry Refusal). IsDecided contexts ssrc carried x result room) (sym is) later

  pub step_shut : (t : Try) (others : List Try) (attempts : List Attempt) (f : IsFirst contexts ssrc carried t others attempts) (result : Result (Try × ℕ) Refusal)
      (room : List ℕ) → body_at (secret_of secrets f.attempt.context.spi) f.attempt.context.key f.attempt.index h octets ≡ None
      → IsDecided contexts ssrc carried (decided_after told (openings (by_cipher secrets) h octets f.rest)) result room → Decides attempts result room
  step_shut t others attempts f result room none later =
      let is =
      ap (λ (l : List Attempt). decided_after told (openings (by_cipher secrets) h octets l)) f.is
      ∙ ap (decided_after told) (opened_as secrets h octets f.attempt f.rest None none) in
      subst (λ (x : Result OpenTry Refusal). IsDecided contexts ssrc carried x result room) (sym is) later
