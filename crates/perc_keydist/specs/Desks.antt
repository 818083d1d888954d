-- The desk of a key distributor: what it knows beside what is kept, and what it makes of a message.
use Rattle.std.specs.List.{flat_map}
use Rattle.std.specs.Option.{option_map}
use Rattle.std.specs.Prelude.{◌≡◌, ℕ, ◌+◌, Bool, true, false, List, [], ◌++◌, Option, Some, None, IfSome, Result, Ok, Err}
use Rattle.perc_tunnel.specs.Message.{spelling}
use Rattle.perc_keeper.specs.Lists.{Lists}
use Rattle.perc_keydist.specs.declared.desk.Desk.{Desk}
use Rattle.perc_keydist.specs.declared.fault.KdFault.{KdFault}
use Rattle.perc_keydist.specs.Causes.{told_as}
use Rattle.perc_keydist.specs.Distributing.{Fault, State, Turn}

-- the profiles that were accepted
abbrev pub accepted_at : Desk → Option (List ℕ)
accepted_at desk = option_map (λ numbers. numbers.items) desk.accepted

-- the state in which this is kept and so many members left
abbrev pub state_at : Desk → Lists → ℕ → State
state_at desk l left = record { profile = desk.profile; accepted = accepted_at desk; lists = l; left = left }

-- how many members have left, where one has or hasn't, and where no answer says so
abbrev pub count_of : Bool → ℕ
count_of true = 1
count_of false = 0

abbrev pub nobody : {X : Type 0} → X → ℕ
nobody x = 0

-- The turn was done: the replies were appended, and this is accepted, kept and to be drawn, and so many left.
pub record IsDone (t : Turn) (before after : List ℕ) (accepted : Option (List ℕ)) (lists : Option Lists) (randoms : Option (List ℕ)) (left : ℕ)
    : Type 0 where
  pub no_fault : t.fault ≡ None
  pub replied : after ≡ before ++ flat_map spelling t.replies
  pub accepts : accepted ≡ t.state.accepted
  pub keeps : lists ≡ Some t.state.lists
  pub draws : randoms ≡ Some t.randoms
  pub leaves : left ≡ t.state.left

-- The turn brought this fault and no reply.
pub record IsRefused (t : Turn) (fault : Fault) (lists : Option Lists) (randoms : Option (List ℕ)) : Type 0 where
  pub brought : t.fault ≡ Some fault
  pub silent : t.replies ≡ []
  pub keeps : lists ≡ Some t.state.lists
  pub draws : randoms ≡ Some t.randoms

-- The turn was done, by which as many members more have left as the answer says, or it brought this fault. Where an object of the
-- outside failed or memory is out, nothing is said.
abbrev pub Hears : {X : Type 0} → Turn → (X → ℕ) → ℕ → Result X KdFault → List ℕ → List ℕ → Option (List ℕ) → Option Lists → Option (List ℕ) → Type 0
Hears t count left (Ok x) before after accepted lists randoms = IsDone t before after accepted lists randoms (left + count x)
Hears t count left (Err e) before after accepted lists randoms = IfSome (told_as e) (λ f. IsRefused t f lists randoms)
