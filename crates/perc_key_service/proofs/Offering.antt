-- Both profiles are offered to a new key distributor.
use Rattle.std.specs.Prelude.{None}
use Rattle.std.proofs.Common.{◌≡◌, ℕ, ◌+◌, ◌^◌, ◌<◌, ◌≤◌, List, [], refl, sym, ap, subst, ◌∙◌, arith}
use Rattle.perc_base.specs.declared.profile.Profile.{Profile}
use Rattle.perc_tunnel.specs.Message.{TunnelMessage, SupportedProfiles, Fits, message_length}
use Rattle.perc_keeper.specs.Lists.{Lists, nothing}
use Rattle.perc_keydist.specs.KeyDistributor.{KeyDistributor, anew, octets_taken}
use Rattle.perc_key_service.specs.Hearing.{IsIdle, turn_at}
use Rattle.perc_key_service.specs.Serving.{both}
use Rattle.perc_key_service.proofs.Serving.{Leaves}

abbrev pub the_offer : TunnelMessage
the_offer = SupportedProfiles 0 both

pub fits_offer : (m : TunnelMessage) → m ≡ the_offer → Fits m 32
fits_offer m is = subst (λ (n : TunnelMessage). Fits n 32) (sym is) ((omega arith, omega arith), omega arith)

pub idle_anew : (p : Profile) (k : KeyDistributor) → k ≡ anew p → IsIdle k.fault k.decoding.held
idle_anew p k is = subst (λ (d : KeyDistributor). IsIdle d.fault d.decoding.held) (sym is) refl

pub few_anew : (p : Profile) (k : KeyDistributor) → k ≡ anew p → octets_taken k + 32 < 2 ^ 64
few_anew p k is = subst (λ (d : KeyDistributor). octets_taken d + 32 < 2 ^ 64) (sym is) (omega arith)

pub calm_offer : (p : Profile) (k : KeyDistributor) (l : Lists) (m : TunnelMessage) (randoms : List ℕ) → k ≡ anew p → m ≡ the_offer → (turn_at k l m randoms).fault ≡ None
calm_offer p k l m randoms is spelled =
    subst (λ (d : KeyDistributor). (turn_at d l m randoms).fault ≡ None) (sym is) (subst (λ (n : TunnelMessage). (turn_at (anew p) l n randoms).fault ≡ None) (sym spelled) refl)

pub leaves_offer : (p : Profile) (k : KeyDistributor) (l : Lists) (m : TunnelMessage) (randoms : List ℕ) → k ≡ anew p → l ≡ nothing → m ≡ the_offer → Leaves (turn_at k l m randoms) nothing
leaves_offer p k l m randoms is empty spelled =
    subst (λ (d : KeyDistributor). Leaves (turn_at d l m randoms) nothing) (sym is) (subst (λ (n : TunnelMessage). Leaves (turn_at (anew p) l n randoms) nothing) (sym spelled) (refl, empty))

pub offer_room : (m : TunnelMessage) (now before : ℕ) → m ≡ the_offer → now ≤ before + message_length m → now ≤ before + 10
offer_room m now before is below = subst (λ (n : TunnelMessage). now ≤ before + message_length n) is below
