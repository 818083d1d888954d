-- Each call keeps that a receiver's contexts agree with what it accepted, and that it holds issued secrets.
use Rattle.std.proofs.Common.{◌≡◌, ℕ, ◌+◌, ◌-◌, List, [], ◌∷◌, ◌++◌, length, drop, Option, Some, Result, Ok, Err, refl, ap, ◌∙◌, sym, subst}
use Rattle.std.proofs.lemmas.List.{drop-map, length-map, map-append}
use Rattle.perc_contexts.specs.declared.SpiOld.{SpiOld}
use Rattle.perc_contexts.specs.Receiving.{Receiving, committed, renewed, spi_answer, still_live}
use Rattle.perc_contexts.specs.History.{Commit, IsHistory, Renew, after_renewal}
use Rattle.perc_contexts.proofs.Histories as histories
use Rattle.perc_outer.specs.Datagram.{Opened}
use Rattle.perc_receiver.specs.declared.refusal.Refusal.{Refusal}
use Rattle.perc_receiver.specs.Table.{Secret}
use Rattle.perc_receiver.specs.Opener.{Opener, by_cipher}
use Rattle.perc_receiver.specs.Receiver.{Accepted, Receiver, granted, heard, heard_reach, live_of, reach_of, receiving, settled}
use Rattle.perc_receiver.specs.Calls.{Call, Grant, Hear, IsConsistent, acceptances, accepts, after_call, after_grant, with_answer}
use Rattle.perc_receiver.proofs.Tried.{carrying, may_commit}
use Rattle.perc_receiver.proofs.Taken.{IsTaken, heard_taken, taken_live, taken_tried}

-- ---- a secret

live_of-drop : (n : ℕ) (s : Secret) (secrets : List Secret) → live_of (drop n secrets ++ s ∷ []) ≡ drop n (live_of secrets) ++ s.spi ∷ []
live_of-drop n s secrets =
    map-append (λ (t : Secret). t.spi) (drop n secrets) (s ∷ [])
    ∙ ap (λ (l : List ℕ). l ++ s.spi ∷ []) (sym (drop-map (λ (t : Secret). t.spi) n secrets))

-- A secret that is granted adds its SPI.
pub granted_live : (s : Secret) (r : Receiver) → live_of (granted s r).secrets ≡ still_live (live_of r.secrets) ++ s.spi ∷ []
granted_live s r =
    live_of-drop (length r.secrets + 1 - 4) s r.secrets
    ∙ ap (λ (n : ℕ). drop (n + 1 - 4) (live_of r.secrets) ++ s.spi ∷ []) (sym (length-map r.secrets (λ (t : Secret). t.spi)))

granted_receiving : (s : Secret) (r : Receiver) → receiving (granted s r) ≡ renewed s.spi (receiving r)
granted_receiving s r = let e = granted_live s r in λ i. record { live = e i; contexts = (renewed s.spi (receiving r)).contexts }

grant_by : (s : Secret) (r : Receiver) (answer : Result (Option ℕ) SpiOld) → receiving (after_grant r s answer) ≡ after_renewal (receiving r) s.spi answer
grant_by s r (Ok retired) = granted_receiving s r
grant_by s r (Err old) = refl

pub grant_receiving : (s : Secret) (r : Receiver)
    → receiving (after_call r (Grant s)) ≡ after_renewal (receiving r) s.spi (spi_answer (live_of r.secrets) s.spi)
grant_receiving s r = grant_by s r (spi_answer (live_of r.secrets) s.spi)

-- ---- a datagram

settled_secrets : (r : Receiver) (answer : Result Accepted Refusal) → (settled r answer).secrets ≡ r.secrets
settled_secrets r (Err e) = refl
settled_secrets r (Ok a) = refl

-- A datagram leaves the secrets.
pub heard_secrets : (f : Opener) (r : Receiver) (datagram : List ℕ) → (heard f r datagram).1.secrets ≡ r.secrets
unfolding heard
heard_secrets f r datagram = settled_secrets r (heard_reach f r (reach_of r datagram))

settled_history : (r : Receiver) (before : List Accepted) (answer : Result Accepted Refusal) → IsConsistent r before
    → ((a : Accepted) → answer ≡ Ok a → IsHistory (record { live = live_of r.secrets; contexts = committed a.attempt r.contexts }) (acceptances (a ∷ before)))
    → IsHistory (receiving (settled r answer)) (acceptances (with_answer answer before))
settled_history r before (Err e) h ok = h
settled_history r before (Ok a) h ok = ok a refl

accepted_history : (f : Opener) (r : Receiver) (o : Opened) (a : Accepted) (before : List Accepted) → IsConsistent r before → IsTaken f r o a
    → IsHistory (record { live = live_of r.secrets; contexts = committed a.attempt r.contexts }) (acceptances (a ∷ before))
accepted_history f r o a before h t =
    histories.each_call (receiving r) (acceptances before) (Commit a.attempt.context.ssrc (Some (carrying a.attempt)) a.attempt) h
    (may_commit (receiving r) o.header.ssrc t.carried a.attempt (acceptances before) h (taken_live f r o a t) (taken_tried f r o a t) t.fresh)

-- A datagram keeps that the contexts agree with what was accepted, whoever answers.
pub heard_consistent : (f : Opener) (r : Receiver) (datagram : List ℕ) (before : List Accepted) → IsConsistent r before
    → IsConsistent (heard f r datagram).1 (with_answer (heard f r datagram).0 before)
unfolding heard
heard_consistent f r datagram before h =
    settled_history r before (heard_reach f r (reach_of r datagram)) h
    (λ a e. let t = heard_taken f r datagram a e in accepted_history f r t.0 a before h t.2)

-- ---- any call

pub each_call : (r : Receiver) (call : Call) (before : List Accepted) → IsConsistent r before → IsConsistent (after_call r call) (accepts r (call ∷ []) before)
each_call r (Grant s) before h =
    subst (λ (held : Receiving). IsHistory held (acceptances before)) (sym (grant_receiving s r))
    (histories.each_call (receiving r) (acceptances before) (Renew s.spi) h tt)
each_call r (Hear datagram) before h = heard_consistent (by_cipher r.secrets) r datagram before h
