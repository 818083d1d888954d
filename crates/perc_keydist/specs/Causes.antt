-- Faults, and what causes them.
use Rattle.std.specs.Prelude.{◌≡◌, ℕ, ◌≤◌, Bool, true, false, Option, Some, None, Result, IfErr}
use Rattle.perc_base.specs.Outside.{HasRisen}
use Rattle.perc_keeper.specs.declared.keeper.KeepFault.{KeepFault}
use Rattle.perc_keeper.specs.declared.keeper.KeepFault.TheVariants as kept
use Rattle.perc_keydist.specs.declared.fault.KdFault.{KdFault}
use Rattle.perc_keydist.specs.declared.fault.KdFault.TheVariants as fault
use Rattle.perc_keydist.specs.Distributing.{Fault, Order, SpiSpent, KeyRepeated}

-- a keeper's fault, as the key distributor answers it
abbrev pub kept_as : KeepFault → KdFault
kept_as kept.Failed = fault.Keeper
kept_as kept.Memory = fault.Memory

-- What a fault is in the definition. One of the outside, want of memory and one of the stream are none there.
abbrev pub told_as : KdFault → Option Fault
told_as (fault.Order type) = Some (Order type)
told_as fault.SpiSpent = Some SpiSpent
told_as fault.KeyRepeated = Some KeyRepeated
told_as (fault.Tunnel f) = None
told_as fault.Keeper = None
told_as fault.Handshake = None
told_as fault.Random = None
told_as fault.Memory = None

-- whether drawing, issuing and giving may end so
abbrev pub is_of_keys : KdFault → Bool
is_of_keys (fault.Order type) = false
is_of_keys fault.SpiSpent = true
is_of_keys fault.KeyRepeated = true
is_of_keys (fault.Tunnel f) = false
is_of_keys fault.Keeper = true
is_of_keys fault.Handshake = false
is_of_keys fault.Random = true
is_of_keys fault.Memory = true

-- whether a reply may end so
abbrev pub is_of_replies : KdFault → Bool
is_of_replies (fault.Order type) = false
is_of_replies fault.SpiSpent = false
is_of_replies fault.KeyRepeated = false
is_of_replies (fault.Tunnel f) = false
is_of_replies fault.Keeper = false
is_of_replies fault.Handshake = true
is_of_replies fault.Random = false
is_of_replies fault.Memory = true

-- whether a question to the keeper may end so
abbrev pub is_of_keeping : KdFault → Bool
is_of_keeping (fault.Order type) = false
is_of_keeping fault.SpiSpent = false
is_of_keeping fault.KeyRepeated = false
is_of_keeping (fault.Tunnel f) = false
is_of_keeping fault.Keeper = true
is_of_keeping fault.Handshake = false
is_of_keeping fault.Random = false
is_of_keeping fault.Memory = true

-- whether a welcome of a member may end so
abbrev pub is_of_welcomes : KdFault → Bool
is_of_welcomes (fault.Order type) = false
is_of_welcomes fault.SpiSpent = false
is_of_welcomes fault.KeyRepeated = false
is_of_welcomes (fault.Tunnel f) = false
is_of_welcomes fault.Keeper = true
is_of_welcomes fault.Handshake = true
is_of_welcomes fault.Random = false
is_of_welcomes fault.Memory = true

-- whether profiles that are offered may end so
abbrev pub is_of_offers : KdFault → Bool
is_of_offers (fault.Order type) = true
is_of_offers fault.SpiSpent = false
is_of_offers fault.KeyRepeated = false
is_of_offers (fault.Tunnel f) = false
is_of_offers fault.Keeper = false
is_of_offers fault.Handshake = false
is_of_offers fault.Random = false
is_of_offers fault.Memory = true

-- whether the end of an association may
abbrev pub is_of_ends : KdFault → Bool
is_of_ends (fault.Order type) = true
is_of_ends fault.SpiSpent = false
is_of_ends fault.KeyRepeated = false
is_of_ends (fault.Tunnel f) = false
is_of_ends fault.Keeper = true
is_of_ends fault.Handshake = false
is_of_ends fault.Random = false
is_of_ends fault.Memory = true

-- whether this is a fault of the stream of messages
abbrev pub is_of_stream : KdFault → Bool
is_of_stream (fault.Order type) = false
is_of_stream fault.SpiSpent = false
is_of_stream fault.KeyRepeated = false
is_of_stream (fault.Tunnel f) = true
is_of_stream fault.Keeper = false
is_of_stream fault.Handshake = false
is_of_stream fault.Random = false
is_of_stream fault.Memory = false

-- whether a fault is one of what was heard or drawn, and none of the outside
abbrev pub is_stated : KdFault → Bool
is_stated (fault.Order type) = true
is_stated fault.SpiSpent = true
is_stated fault.KeyRepeated = true
is_stated (fault.Tunnel f) = true
is_stated fault.Keeper = false
is_stated fault.Handshake = false
is_stated fault.Random = false
is_stated fault.Memory = false

-- The count of an object's failed calls never falls, and this fault comes only where it has risen.
abbrev pub Blames : {X : Type 0} → KdFault → ℕ → Result X KdFault → ℕ → Type 0
Blames f before result now = (before ≤ now) × IfErr result (λ e. e ≡ f → HasRisen before now)
