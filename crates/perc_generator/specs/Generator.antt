-- The generated script: three members, who speak in turn through a distributor that changes numbers and payload types, with repeats
-- and new keys between.
use Rattle.std.specs.Prelude.{ℕ, ◌+◌, ◌*◌, ◌%◌, ◌==◌, if◌then◌else◌, List, [], ◌∷◌, ◌++◌, codes, replicate, Some, None}
use Rattle.std.specs.List.{flat_map, range_with_len}
use Rattle.byteorder.specs.Endian.{big_bytes}
use Rattle.perc_base.specs.declared.profile.Profile.TheVariants.{Aes128}
use Rattle.perc_script_line.specs.Script.{Changes, Options, Script, Conference, Deliver, Ekt, Forward, Join, Rekey, Send, script_text}
use Rattle.perc_generator.specs.declared.generator.Roles as code

-- ---- the opening

-- a member whose pairs and key are of one octet each, which follow this one
abbrev pub join_of : List ℕ → ℕ → ℕ → Script
join_of name ssrc octet = Join name ssrc 65400 (replicate 28 (octet + 1)) (replicate 28 (octet + 2)) (replicate 16 (octet + 3))

-- the head, a first EKT key, and three who join
abbrev pub opening : List Script
opening =
    Conference Aes128 ∷ Ekt (replicate 16 1) (replicate 12 2)
    ∷ join_of (codes "Ann") 1 160 ∷ join_of (codes "Bob") 2 176 ∷ join_of (codes "Cat") 3 192 ∷ []

-- ---- a round, counted from 0

-- who speaks in a round, and the two others in the order of joining
pub record Roles : Type 0 where
  pub speaker : List ℕ
  pub first : List ℕ
  pub second : List ℕ

-- Ann speaks first, then Bob, then Cat, and then Ann again.
abbrev pub roles_of : ℕ → Roles
roles_of r =
    if r % 3 == 0 then record { speaker = codes "Ann"; first = codes "Bob"; second = codes "Cat" }
    else (if r % 3 == 1 then record { speaker = codes "Bob"; first = codes "Ann"; second = codes "Cat" }
    else record { speaker = codes "Cat"; first = codes "Ann"; second = codes "Bob" })

abbrev pub no_options : Options
no_options = record { csrcs = None; extension = None; pad = None }

abbrev pub send_of : ℕ → Script
send_of r = Send (roles_of r).speaker (r % 64) (r % 2 == 1) (160 * r) (replicate (r % 40) (r % 256)) no_options

-- The number is 7 higher, and in each second round the payload type is 100.
abbrev pub changes_of : ℕ → Changes
changes_of r = record { pt = if r % 2 == 1 then Some 100 else None; shift = Some 7; marker = None; extension = None }

-- The speaker's packet has the number 3r + 1.
abbrev pub forward_of : ℕ → Script
forward_of r = Forward (roles_of r).speaker ((3 * r + 1) ∷ []) (changes_of r) None

-- In each fifth round the first of the two gets its own again.
abbrev pub repeat_of : ℕ → List Script
repeat_of r = if r % 5 == 4 then Deliver (3 * r + 2) (roles_of r).first ∷ [] else []

-- In each thirtieth the speaker takes a new key.
abbrev pub rekey_of : ℕ → List Script
rekey_of r = if r % 30 == 29 then Rekey (roles_of r).speaker (big_bytes 16 (1000 + r)) ∷ [] else []

abbrev pub round_lines : ℕ → List Script
round_lines r =
    send_of r ∷ forward_of r ∷ Deliver (3 * r + 2) (roles_of r).first ∷ Deliver (3 * r + 3) (roles_of r).second ∷ repeat_of r ++ rekey_of r

-- ---- the script

-- the lines of a script of so many rounds
abbrev pub made_lines : ℕ → List Script
made_lines rounds = opening ++ flat_map round_lines (range_with_len 0 rounds)

-- a line with its line feed
abbrev pub line_text : Script → List ℕ
line_text line = script_text line ++ 10 ∷ []

abbrev pub lines_text : List Script → List ℕ
lines_text lines = flat_map line_text lines

unfoldable pub made_script : ℕ → List ℕ
made_script rounds = lines_text (made_lines rounds)

-- ---- the code's

abbrev pub roles_in : code.Roles → Roles
roles_in r = record { speaker = r.speaker.now; first = r.first.now; second = r.second.now }
