-- The service behind the parts of its struct.
use Rattle.std.specs.Prelude.{OnOk, Result, Ok, Err}
use Rattle.std.proofs.Common.{◌≡◌, ℕ, List, refl, sym, ap, subst, ◌∙◌}
use Rattle.perc_base.specs.declared.profile.Profile.{Profile}
use Rattle.perc_keeper.specs.Lists.{Lists}
use Rattle.perc_keydist.specs.KeyDistributor.{KeyDistributor}
use Rattle.perc_key_service.specs.Service.{Service}
use Rattle.perc_key_service.specs.Serving.{service_of}

abbrev pub seen : Profile → Lists → Service
seen p l = record { profile = p; lists = l }

pub same_service : (p : Profile) (k : KeyDistributor) (l : Lists) (s : Service) → k.profile ≡ p → seen p l ≡ s → service_of k l ≡ s
same_service p k l s profile view = ap (λ (q : Profile). seen q l) profile ∙ view

pub service_kept : {X E : Type 0} (result : Result X E) (p : Profile) (k : KeyDistributor) (l kept : Lists) (s : Service) (f : Service → Lists) → k.profile ≡ p → seen p l ≡ s
    → OnOk result (kept ≡ f (service_of k l)) → OnOk result (seen p kept ≡ record s { lists = f s })
service_kept (Ok x) p k l kept s f profile view h =
    ap (seen p) (h ∙ ap f (same_service p k l s profile view)) ∙ ap (λ (q : Profile). seen q (f s)) (ap (λ (t : Service). t.profile) view)
service_kept (Err e) p k l kept s f profile view h = tt

pub whatever : {X E P : Type 0} (result : Result X E) → P → OnOk result P
whatever (Ok x) h = h
whatever (Err e) h = tt
