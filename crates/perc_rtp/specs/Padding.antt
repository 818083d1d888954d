-- What stands before the padding of a packet (RFC 3550 section 5.1).
use Rattle.std.specs.Prelude.{ℕ, ◌-◌, Bool, true, false, ◌||◌, ◌==◌, nat_lt, if◌then◌else◌, List, [], ◌∷◌, length, take, Option, Some, None, slice_index}
use Rattle.std.specs.Option.{option_map}

-- the last octet, which counts the padding
abbrev pub padding_count : List ℕ → ℕ
padding_count body = slice_index body (length body - 1)

-- How many octets of the body are payload, where the bit P says whether it is padded. The count of the padding counts its
-- own octet too, so it is at least 1, and at most the whole body is padding.
abbrev pub payload_length : Bool → List ℕ → Option ℕ
payload_length false body = Some (length body)
payload_length true [] = None
payload_length true (x ∷ body) =
    if padding_count (x ∷ body) == 0 || nat_lt (length (x ∷ body)) (padding_count (x ∷ body)) then None
    else Some (length (x ∷ body) - padding_count (x ∷ body))

-- the payload of a body
abbrev pub payload_of : Bool → List ℕ → Option (List ℕ)
payload_of padding body = option_map (λ n. take n body) (payload_length padding body)
