-- The lines `join` and `leave`: who is a member, and whom the distributor forwards to.
use Rattle.std.specs.Prelude.{ℕ, ◌+◌, ◌-◌, true, false, Bool, ◌||◌, ◌==◌, nat_le, if◌then◌else◌, List, [], ◌∷◌, ◌++◌, length, take, drop, Option, Some, None}
use Rattle.std.specs.List.{list_any, last_or}
use Rattle.std.specs.Option.{option_map_or}
use Rattle.byteorder.specs.Endian.{big_bytes}
use Rattle.perc_base.specs.declared.profile.Profile.{Profile}
use Rattle.perc_kdf.specs.Derivation.{KeyAndSalt}
use Rattle.perc_kdf.specs.Order.{same_pair}
use Rattle.perc_keyset.specs.Set.{absorbed}
use Rattle.perc_keyset.specs.declared.Entry.{Entry}
use Rattle.perc_keyset.specs.declared.Op.TheVariants.{Add, Remove}
use Rattle.perc_receiver.specs.Table.{Secret}
use Rattle.perc_endpoint.specs.Endpoint.{started}
use Rattle.perc_script_line.specs.Script.{salt_length}
use Rattle.perc_script_line.specs.declared.reason.Reason.TheVariants.{Order, Name, Key, Limit}
use Rattle.perc_report_line.specs.Report.{Joined, Left}
use Rattle.perc_run.specs.State.{State, Member, Turn, Goes, Refused, at_member, has_name, most_joins, most_members, present_members, with_member}

-- the record with the highest SPI
abbrev pub newest : List Secret → Option Secret
newest secrets = last_or None secrets

-- a key and the salt of 12 octets behind it
abbrev pub pair_of : List ℕ → KeyAndSalt
pair_of octets = record { key = take (length octets - salt_length) octets; salt = drop (length octets - salt_length) octets }

-- a pair was brought by a member
abbrev pub has_pair : KeyAndSalt → Member → Bool
has_pair pair m = same_pair m.client pair || same_pair m.server pair

-- both pairs are one, or one was brought before
abbrev pub are_used : State → KeyAndSalt → KeyAndSalt → Bool
are_used s client server = same_pair client server || list_any (λ m. has_pair client m || has_pair server m) s.members

-- somebody had the name or the SSRC
abbrev pub is_known : State → List ℕ → ℕ → Bool
is_known s name ssrc = list_any (λ m. has_name name m || (m.ssrc == ssrc)) s.members

abbrev pub is_crowded : State → Bool
is_crowded s = nat_le most_members (length (present_members s)) || nat_le most_joins (length s.members)

-- The association of the next member is its number, from 1; its serial is the number of joins before.
abbrev pub new_member : State → Profile → List ℕ → ℕ → ℕ → KeyAndSalt → KeyAndSalt → Secret → List ℕ → Member
new_member s profile name ssrc seq client server secret key = record {
  name = name;
  association = big_bytes 16 (length s.members + 1);
  ssrc = ssrc;
  client = client;
  server = server;
  endpoint = started profile ssrc seq client server secret key;
  present = true;
}

abbrev pub entry_of : State → Member → Entry
entry_of s m = record { association = m.association; serial = length s.members; client = m.client; server = m.server }

abbrev pub joined : State → Member → Turn
joined s m = Goes (Joined m.name m.association ∷ []) (record s { members = s.members ++ m ∷ []; set = absorbed s.set (Add (entry_of s m)) })

abbrev pub join_with : State → Profile → List ℕ → ℕ → ℕ → KeyAndSalt → KeyAndSalt → List ℕ → Option Secret → Turn
join_with s profile name ssrc seq client server key None = Refused Order
join_with s profile name ssrc seq client server key (Some secret) =
    if is_known s name ssrc then Refused Name
    else (if are_used s client server then Refused Key
    else (if is_crowded s then Refused Limit
    else joined s (new_member s profile name ssrc seq client server secret key)))

-- A member begins with the newest record.
unfoldable pub join_turn : State → Profile → List ℕ → ℕ → ℕ → List ℕ → List ℕ → List ℕ → Turn
join_turn s profile name ssrc seq client server key =
    join_with s profile name ssrc seq (pair_of client) (pair_of server) key (newest s.secrets)

abbrev pub gone : Member → Member
gone m = record m { present = false }

unfoldable pub leave_turn : State → List ℕ → Turn
leave_turn s name =
    at_member s name (λ m. Goes (Left m.name ∷ []) (record s { members = with_member m.name gone s.members; set = absorbed s.set (Remove m.association) }))
