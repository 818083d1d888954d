-- A publisher accepts what is asked for, wherever it publishes.
use Rattle.std.proofs.Common.{◌≡◌, ℕ, ◌<◌, Bool, true, false, cond, List, [], ◌∷◌, ◌++◌, length, refl, sym, ap, subst, ◌∙◌}
use Rattle.perc_tunnel.specs.declared.message.MediaKeys as keys
use Rattle.perc_keyset.specs.declared.Op.{Op}
use Rattle.perc_keyset.specs.declared.Op.TheVariants.{Remove}
use Rattle.perc_keyset.specs.Calls.{Call, AddCall, RemoveCall, after_call, after_calls}
use Rattle.perc_keyset.specs.History.{adds}
use Rattle.perc_keyset.specs.Accepting.{most_adds, add_answer, after_add}
use Rattle.perc_keyset.specs.Set.{fold_ops, holds}
use Rattle.perc_keydist.specs.Distributing.{run_of}
use Rattle.perc_published.specs.Calls.{Publishing, accepting}
use Rattle.perc_membership.specs.Membership.{AreTaken, HasMembers, calls_over}
use Rattle.perc_membership.specs.Publishers.{Act, Adds, Removes, Publishes, AddsAreTaken, MembersArePublished, after_act, after_acts, asked}
use Rattle.perc_membership.proofs.Keeping.{members_are_held}

removed : (p : Publishing) (association : List ℕ) (b : Bool)
    → (cond b (accepting p (p.accepted ++ Remove association ∷ [])) p).accepted ≡ cond b (p.accepted ++ Remove association ∷ []) p.accepted
removed p association true = refl
removed p association false = refl

-- what is accepted behind an act and the others
accepts : (p : Publishing) (acts : List Act) → (after_acts p acts).accepted ≡ after_calls p.accepted (asked acts)
accepts p [] = refl
accepts p (Adds k ∷ acts) = accepts (after_act p (Adds k)) acts
accepts p (Removes association ∷ acts) =
    accepts (after_act p (Removes association)) acts
    ∙ ap (λ (ops : List Op). after_calls ops (asked acts)) (removed p association (holds (fold_ops p.accepted) association))
accepts p (Publishes ∷ acts) = accepts (after_act p Publishes) acts

taken : (p : Publishing) (acts : List Act) → AreTaken p.accepted (asked acts) → AddsAreTaken p acts
taken p [] are = tt
taken p (Adds k ∷ acts) are = (are.0, taken (after_act p (Adds k)) acts are.1)
taken p (Removes association ∷ acts) are =
    taken (after_act p (Removes association)) acts
    (subst (λ (ops : List Op). AreTaken ops (asked acts)) (sym (removed p association (holds (fold_ops p.accepted) association))) are)
taken p (Publishes ∷ acts) are = taken (after_act p Publishes) acts are

pub members_are_published : MembersArePublished
members_are_published a s events randoms p acts none_yet no_fault new same few =
    let accepted : (after_acts p acts).accepted ≡ after_calls [] (calls_over a s events randoms) =
    accepts p acts ∙ ap (λ (ops : List Op). after_calls ops (asked acts)) new ∙ ap (after_calls []) same in
    let held = members_are_held a s events randoms none_yet no_fault (subst (λ (ops : List Op). length (adds ops) < most_adds) accepted few) in
    let members = (run_of a s events randoms).state.lists.members in
    let have : HasMembers (after_acts p acts).accepted members = subst (λ (ops : List Op). HasMembers ops members) (sym accepted) held.1 in
    let are : AreTaken p.accepted (asked acts) =
    subst (λ (ops : List Op). AreTaken ops (asked acts)) (sym new) (subst (AreTaken []) (sym same) held.0) in
    (taken p acts are, have, have)
