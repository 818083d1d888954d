-- What a key distributor does with one message that is fed, where nothing is held before it.
use Rattle.std.specs.List.{flat_map}
use Rattle.std.specs.Prelude.{◌≡◌, ℕ, List, [], ◌++◌, Option, Some, None}
use Rattle.perc_tunnel.specs.Message.{TunnelMessage, spelling}
use Rattle.perc_keeper.specs.Lists.{Lists}
use Rattle.perc_keydist.specs.declared.fault.KdFault.{KdFault}
use Rattle.perc_keydist.specs.declared.fault.KdFault.TheVariants as fault
use Rattle.perc_keydist.specs.Answers.{clear_answers}
use Rattle.perc_keydist.specs.Distributing.{Turn, hear}
use Rattle.perc_keydist.specs.KeyDistributor.{KeyDistributor, state_of}

-- It stands at a message's start, or memory was out.
abbrev pub IsIdle : Option KdFault → List ℕ → Type 0
IsIdle None held = held ≡ []
IsIdle (Some f) held = f ≡ fault.Memory

-- the turn of a message, with clear records
abbrev pub turn_at : KeyDistributor → Lists → TunnelMessage → List ℕ → Turn
turn_at k l m drawn = hear clear_answers (state_of k l) drawn m k.accepted

-- The turn was done: the replies were appended, and this is kept.
pub record IsHeard (t : Turn) (k now : KeyDistributor) (kept : Lists) (before after : List ℕ) : Type 0 where
  pub ready : k.fault ≡ None
  pub no_fault : now.fault ≡ None
  pub at_start : now.decoding.held ≡ []
  pub accepts : now.accepted ≡ t.state.accepted
  pub keeps : kept ≡ t.state.lists
  pub replied : after ≡ before ++ flat_map spelling t.replies
