-- What is decided may be committed.
use Rattle.std.proofs.Common.{◌≡◌, ℕ, ◌<◌, List, Option, Result, Ok, Err, refl, sym, ap, subst}
use Rattle.perc_rtp.specs.Header.{Header}
use Rattle.perc_contexts.specs.Receiving.{Attempt, Carried, Receiving, tries}
use Rattle.perc_contexts.specs.Kept.{AreTries}
use Rattle.perc_contexts.specs.declared.Try.{Try}
use Rattle.perc_contexts.proofs.ReceivingLaws.{may_commit}
use Rattle.arrayvec.specs.ArrayVec.{ArrayVec}
use Rattle.perc_receiver.specs.declared.refusal.Refusal.{Refusal}
use Rattle.perc_receiver.specs.Table.{Secret}
use Rattle.perc_receiver.specs.Opener.{by_cipher}
use Rattle.perc_receiver.specs.Receiver.{OpenTry, decided, openings, some_tries}
use Rattle.perc_receiver.proofs.Agreeing.{tries_are}
use Rattle.perc_receiver.proofs.Taken.{decided_is, is_opening}
use Rattle.perc_incoming.specs.Asking.{AreSome, IsDecided, MayTake, decided_by}

-- ---- the tries that were answered

pub some_refused : (held : Receiving) (ssrc : ℕ) (carried : Option Carried) (r : Result (List Attempt) Refusal) (e : Refusal)
    → AreSome held.contexts ssrc carried r (Err e) → r ≡ Err e
some_refused held ssrc carried (Ok attempts) e is = absurd is
some_refused held ssrc carried (Err f) e is = let same : e ≡ f = cc in ap Err (sym same)

pub record SomeAre (held : Receiving) (ssrc : ℕ) (carried : Option Carried) (r : Result (List Attempt) Refusal) (list : List Try) : Type 0 where
  pub attempts : List Attempt
  pub is : r ≡ Ok attempts
  pub are : AreTries held.contexts ssrc carried list attempts

pub some_are : (held : Receiving) (ssrc : ℕ) (carried : Option Carried) (r : Result (List Attempt) Refusal) (list : ArrayVec Try)
    → AreSome held.contexts ssrc carried r (Ok list) → SomeAre held ssrc carried r list.items
some_are held ssrc carried (Ok attempts) list is = record { attempts = attempts; is = refl; are = is }
some_are held ssrc carried (Err e) list is = absurd (cc)

-- ---- what is decided

module _ (held : Receiving) (ssrc seq : ℕ) (carried : Option Carried) (secrets : List Secret) (h : Header) (octets : List ℕ) (fits : seq < 65536) where
  take_by : (attempts : List Attempt) → tries held.contexts ssrc seq carried ≡ Ok attempts → (d : Result OpenTry Refusal)
      → decided (openings (by_cipher secrets) h octets attempts) ≡ d → (result : Result (Try × ℕ) Refusal) (room : List ℕ)
      → IsDecided held.contexts ssrc carried d result room → MayTake held ssrc carried d result room
  take_by attempts tried (Ok o) e (Ok t) room is =
      let it = decided_is (openings (by_cipher secrets) h octets attempts) o e in
      let p = is_opening (by_cipher secrets) h octets attempts o it.0 in
      (may_commit held ssrc seq carried attempts t.0 o.attempt fits tried is.0 p.tried it.1, is.1, is.2)
  take_by attempts tried (Ok o) e (Err f) room is = absurd is
  take_by attempts tried (Err f) e result room is = is

  pub take_decided : (list : List Try) (s : SomeAre held ssrc carried (some_tries (tries held.contexts ssrc seq carried)) list)
      (result : Result (Try × ℕ) Refusal) (room : List ℕ)
      → IsDecided held.contexts ssrc carried (decided (openings (by_cipher secrets) h octets s.attempts)) result room
      → MayTake held ssrc carried (decided_by secrets h octets (some_tries (tries held.contexts ssrc seq carried))) result room
  take_decided list s result room is =
      subst (λ (r : Result (List Attempt) Refusal). MayTake held ssrc carried (decided_by secrets h octets r) result room) (sym s.is)
      (take_by s.attempts (tries_are (tries held.contexts ssrc seq carried) s.attempts s.is) (decided (openings (by_cipher secrets) h octets s.attempts)) refl result room is)

  pub take_refused : (e : Refusal) (result : Result (Try × ℕ) Refusal) (room : List ℕ) → some_tries (tries held.contexts ssrc seq carried) ≡ Err e → result ≡ Err e
      → MayTake held ssrc carried (decided_by secrets h octets (some_tries (tries held.contexts ssrc seq carried))) result room
  take_refused e result room none is =
      subst (λ (r : Result (List Attempt) Refusal). MayTake held ssrc carried (decided_by secrets h octets r) result room) (sym none) is
