-- What calls of key distributors leave of what is kept, whatever fails in them: no key and no SPI is issued twice, and no outer pair
-- given twice.
use Rattle.std.specs.List.{All, Contains, flat_map}
use Rattle.std.specs.Prelude.{◌≡◌, ℕ, List, [], ◌∷◌, ◌++◌, Option, Some}
use Rattle.perc_ekt.specs.declared.record.EktKeyRecord.{EktKeyRecord}
use Rattle.perc_tunnel.specs.Message.{TunnelMessage, spelling}
use Rattle.perc_keeper.specs.Lists.{Lists, nothing}
use Rattle.perc_keydist.specs.Answers.{Answers}
use Rattle.perc_keydist.specs.IssuedOnce.{Extends, IsBacked, IsOnce}

-- What was issued and given before stands still, in front of what came later; and where nothing had come twice, nothing has now.
pub record Follows (l m : Lists) : Type 0 where
  pub extends : Extends l m
  pub once : IsOnce l → IsOnce m

-- Where lists were told before, lists are told now, which follow them.
unfoldable pub FollowsTold : Option Lists → Option Lists → Type 0
FollowsTold before now = (l : Lists) → before ≡ Some l → (m : Lists) × (now ≡ Some m) × Follows l m

-- Where lists were told before, this record is kept in those that are told now.
unfoldable pub IsKept : Option Lists → Option Lists → EktKeyRecord → Type 0
IsKept before now r = (l m : Lists) → before ≡ Some l → now ≡ Some m → Contains m.issued r

-- Messages were appended, and each record that they bring was made for an EKT key that is kept.
pub record IsSaid (a : Answers) (issued : List EktKeyRecord) (before after : List ℕ) : Type 0 where
  pub replies : List TunnelMessage
  pub spelled : after ≡ before ++ flat_map spelling replies
  pub backed : All (IsBacked a issued) replies

-- What a call leaves of these lists, and what it appended, where the handshake tells its answers.
pub record IsKeptOnce (answers : Option Answers) (l : Lists) (now : Option Lists) (before after : List ℕ) : Type 0 where
  pub lists : Lists
  pub told : now ≡ Some lists
  pub follows : Follows l lists
  pub says : (a : Answers) → answers ≡ Some a → IsSaid a lists.issued before after

unfoldable pub KeepsOnce : Option Answers → Option Lists → Option Lists → List ℕ → List ℕ → Type 0
KeepsOnce answers lists now before after = (l : Lists) → lists ≡ Some l → IsKeptOnce answers l now before after

-- ---- calls one after another

-- what the handshake of a call tells, the lists before and behind it, and its `out` before and behind it
pub record Call : Type 0 where
  pub answers : Option Answers
  pub lists : Option Lists
  pub now : Option Lists
  pub before : List ℕ
  pub after : List ℕ

abbrev pub IsCall : Call → Type 0
IsCall c = KeepsOnce c.answers c.lists c.now c.before c.after

-- Calls over one keeper, of one key distributor or of many: each begins with what the one before left.
abbrev pub AreInARow : Option Lists → List Call → Option Lists → Type 0
AreInARow lists [] now = now ≡ lists
AreInARow lists (c ∷ calls) now = (c.lists ≡ lists) × IsCall c × AreInARow c.now calls now

-- Each record that a call sent was made for one of these EKT keys.
abbrev pub IsSent : List EktKeyRecord → Call → Type 0
IsSent issued c = (a : Answers) → c.answers ≡ Some a → IsSaid a issued c.before c.after

-- what is so behind any calls in a row
abbrev pub CallsAreSafe : Type 0
CallsAreSafe =
    (l : Lists) (calls : List Call) (now : Option Lists) → AreInARow (Some l) calls now
    → (m : Lists) × (now ≡ Some m) × Follows l m × All (IsSent m.issued) calls

-- Before anything was kept nothing had come twice.
abbrev pub BeginsOnce : Type 0
BeginsOnce = IsOnce nothing
