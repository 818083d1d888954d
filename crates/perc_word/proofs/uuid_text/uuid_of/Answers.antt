use Rattle.std.proofs.Common.{◌≡◌, ◌↔◌, List, ℕ, Option, Some, None, Result, Ok, Err, refl, IsOk}
use Rattle.perc_word.proofs.uuid_text.uuid_of.Goals as goal

no_ok : {A E : Type 0} (r : Result A E) (e : E) → r ≡ Err e → IsOk r → ⊥
no_ok (Ok x) e h ok = cc h
no_ok (Err x) e h ok = cc ok

none : {A E : Type 0} (o : Option (List ℕ)) (r : Result A E) (e : E) → r ≡ Err e → (IsOk r ↔ ((u : List ℕ) × (o ≡ Some u))) → None ≡ o
none None r e is h = refl
none (Some u) r e is h = absurd (no_ok r e is (h.1 (u, refl)))

pub returns-in-Err : goal.returns-in-Err
returns-in-Err c = none _ _ _ c.in-Err.is c.try_parse_ascii.ensures.ok
