-- What parts of the code give, where the keeper and the randoms tell what they hold.
use Rattle.std.specs.List.{flat_map}
use Rattle.std.specs.Option.{option_map}
use Rattle.std.specs.Prelude.{◌≡◌, ℕ, nat_le, Bool, true, false, List, ◌++◌, drop, map, take, Option, Some, None, IfSome, Result, Ok, Err, is_some}
use Rattle.perc_base.specs.Outside.{drawn}
use Rattle.perc_base.specs.Profile.{key_length}
use Rattle.perc_base.specs.declared.profile.Profile.{Profile}
use Rattle.perc_kdf.specs.Derivation.{KeyAndSalt}
use Rattle.perc_ekt.specs.declared.record.EktKeyRecord.{EktKeyRecord}
use Rattle.perc_tunnel.specs.declared.message.MediaKeys.{MediaKeys}
use Rattle.perc_tunnel.specs.Message.{TunnelMessage, TunneledDtls, spelling}
use Rattle.perc_tunnel.specs.Told.{keys_message}
use Rattle.perc_keeper.specs.Lists.{Lists, key_of, spi_of, with_issued, with_member}
use Rattle.perc_keydist.specs.declared.fault.KdFault.{KdFault}
use Rattle.perc_keydist.specs.Answers.{Answers}
use Rattle.perc_keydist.specs.Causes.{told_as}
use Rattle.perc_keydist.specs.Distributing.{SpiSpent, KeyRepeated, Part, Replying, behind_keys, behind_pair, drawn_keys, drawn_pair, next_spi, repeats}

-- The part of a turn ended so, with this kept and that left to be drawn. Where an object of the outside failed or memory is out,
-- nothing is said.
abbrev pub Gives : {X : Type 0} → Part X → Result X KdFault → Option Lists → Option (List ℕ) → Type 0
Gives part (Ok x) lists left = (part.answer ≡ Ok x) × (lists ≡ Some part.lists) × (left ≡ Some part.randoms)
Gives part (Err e) lists left = IfSome (told_as e) (λ f. (part.answer ≡ Err f) × (lists ≡ Some part.lists) × (left ≡ Some part.randoms))

-- the members, where the lists are told
abbrev pub members_told : Option Lists → Option (List MediaKeys)
members_told = option_map (λ l. l.members)

-- A key of this length was drawn, and stands in front.
abbrev pub DrawsKey : ℕ → List ℕ → Result (List ℕ) KdFault → Option (List ℕ) → Type 0
DrawsKey n randoms (Ok key) left = (take n key ≡ drawn n randoms) × (left ≡ Some (drop n randoms))
DrawsKey n randoms (Err e) left = told_as e ≡ None

-- A salt was drawn.
abbrev pub DrawsSalt : List ℕ → Result (List ℕ) KdFault → Option (List ℕ) → Type 0
DrawsSalt randoms (Ok salt) left = (salt ≡ drawn 12 randoms) × (left ≡ Some (drop 12 randoms))
DrawsSalt randoms (Err e) left = told_as e ≡ None

-- A key and its salt were drawn.
abbrev pub Draws : Profile → List ℕ → Result KeyAndSalt KdFault → Option (List ℕ) → Type 0
Draws profile randoms (Ok pair) left = (pair ≡ drawn_pair (key_length profile) randoms) × (left ≡ Some (behind_pair (key_length profile) randoms))
Draws profile randoms (Err e) left = told_as e ≡ None

-- the SPI that is due, or that none is left
abbrev pub IsDue : Lists → Result ℕ KdFault → Type 0
IsDue l (Ok spi) = (spi ≡ next_spi l.issued) × (nat_le 65536 (next_spi l.issued) ≡ false)
IsDue l (Err e) = IfSome (told_as e) (λ f. (f ≡ SpiSpent) × (nat_le 65536 (next_spi l.issued) ≡ true))

-- A record was kept whose key is new.
abbrev pub Keeps : {X : Type 0} → Lists → EktKeyRecord → Result X KdFault → Option Lists → Type 0
Keeps l r (Ok x) now = (is_some (spi_of l.issued (key_of r)) ≡ false) × (now ≡ Some (with_issued r l))
Keeps l r (Err e) now = (now ≡ Some l) × IfSome (told_as e) (λ f. (f ≡ KeyRepeated) × (is_some (spi_of l.issued (key_of r)) ≡ true))

-- The outer keys of a new member were drawn.
abbrev pub DrawsKeys : Profile → List ℕ → List ℕ → Result MediaKeys KdFault → Option (List ℕ) → Type 0
DrawsKeys profile association randoms (Ok keys) left = (keys ≡ drawn_keys profile association randoms) × (left ≡ Some (behind_keys profile randoms))
DrawsKeys profile association randoms (Err e) left = told_as e ≡ None

-- whether keys repeat
abbrev pub TellsRepeats : MediaKeys → Lists → Result Bool KdFault → Type 0
TellsRepeats keys l (Ok told) = told ≡ repeats keys l
TellsRepeats keys l (Err e) = told_as e ≡ None

-- A member was kept whose keys don't repeat.
abbrev pub Admits : {X : Type 0} → Lists → MediaKeys → Result X KdFault → Option Lists → Type 0
Admits l keys (Ok x) now = (repeats keys l ≡ false) × (now ≡ Some (with_member keys l))
Admits l keys (Err e) now = (now ≡ Some l) × IfSome (told_as e) (λ f. (f ≡ KeyRepeated) × (repeats keys l ≡ true))

-- the octets of a member's outer keys and of a record of its association
abbrev pub both_spelled : MediaKeys → List ℕ → List ℕ
both_spelled keys octets = spelling (keys_message keys) ++ spelling (TunneledDtls keys.association octets)

-- a renewal for each of these names
abbrev pub renewals_to : Answers → EktKeyRecord → List (List ℕ) → List TunnelMessage
renewals_to a granted names = map (λ association. TunneledDtls association (a.renewal granted)) names

-- Replies were appended, as a part of a turn gives them; after a fault nothing was appended.
abbrev pub Replied : {X : Type 0} → Replying → Result X KdFault → List ℕ → List ℕ → Option Lists → Option (List ℕ) → Type 0
Replied part (Ok x) before after lists left =
    (replies : List TunnelMessage) × (part.answer ≡ Ok replies) × (after ≡ before ++ flat_map spelling replies)
    × (lists ≡ Some part.lists) × (left ≡ Some part.randoms)
Replied part (Err e) before after lists left =
    (after ≡ before) × IfSome (told_as e) (λ f. (part.answer ≡ Err f) × (lists ≡ Some part.lists) × (left ≡ Some part.randoms))
