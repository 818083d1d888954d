-- What a distributor may change in a header, and how the original is put back (RFC 8723 sections 4 and 5.2).
use Rattle.std.specs.Prelude.{ℕ, ◌+◌, ◌%◌, ◌^◌, ◌≤◌, Bool, true, false, ◌==◌, if◌then◌else◌, List, [], ◌∷◌, length, Option, Some, None, IfSome, IsTrue}
use Rattle.std.specs.Option.{unwrap_or}
use Rattle.perc_rtp.specs.Header.{Header, IsExtension}
use Rattle.perc_rtp.specs.Fields.{cut}
use Rattle.perc_rtp.specs.Media.{is_payload_type}
use Rattle.perc_ohb.specs.declared.block.Ohb.{Ohb}
use Rattle.perc_ohb.specs.declared.rewriting.Change.{Change}
use Rattle.perc_ohb.specs.declared.rewriting.ExtChange.{ExtChange}
use Rattle.perc_ohb.specs.declared.rewriting.ExtChange.TheVariants.{Keep, Drop, Set}

-- a change, without where its parts lie in memory: the payload type that is set, what is added to the sequence number, the
-- marker that is set; and the header extension, or none, that is put in the place of the one there
pub record Rewrite : Type 0 where
  pub pt : Option ℕ
  pub shift : ℕ
  pub marker : Option Bool
  pub extension : Option (Option (ℕ × List ℕ))

abbrev pub extension_set : ExtChange → Option (Option (ℕ × List ℕ))
extension_set Keep = None
extension_set Drop = Some None
extension_set (Set profile words) = Some (Some (profile, words.now))

abbrev pub rewrite_of : Change → Rewrite
rewrite_of c = record { pt = c.pt; shift = c.shift; marker = c.marker; extension = extension_set c.extension }

-- an extension to be set is one, of at most 30 words of 4 octets
abbrev pub IsExtensionSet : Option (Option (ℕ × List ℕ)) → Type 0
IsExtensionSet extension = IfSome extension (λ e. IfSome e (λ x. IsExtension x × (length x.1 ≤ 120)))

-- a payload type to be set is one of RTP's
pub record IsRewrite (c : Rewrite) : Type 0 where
  pub pt : IfSome c.pt (λ pt. IsTrue (is_payload_type pt))
  pub extension : IsExtensionSet c.extension

-- the header after the change; its extension stays here
abbrev pub changed : Header → Rewrite → Header
changed h c = record h {
  pt = unwrap_or c.pt h.pt;
  seq = (h.seq + c.shift) % 2 ^ 16;
  marker = unwrap_or c.marker h.marker;
}

-- What the block keeps of a number that was `now` in the header and becomes `new`. Where nothing changes, it keeps what
-- it kept; else it keeps the original exactly where that isn't what is new.
abbrev pub kept_number : Option ℕ → ℕ → ℕ → Option ℕ
kept_number kept now new =
    if new == now then kept
    else (if new == unwrap_or kept now then None else Some (unwrap_or kept now))

-- the same of the marker
abbrev pub same : Bool → Bool → Bool
same true b = b
same false b = if b then false else true

abbrev pub kept_marker : Option Bool → Bool → Bool → Option Bool
kept_marker kept now new =
    if same new now then kept
    else (if same new (unwrap_or kept now) then None else Some (unwrap_or kept now))

-- the block after the change
abbrev pub block_after : Header → Ohb → Rewrite → Ohb
block_after h o c = record {
  pt = kept_number o.pt h.pt (changed h c).pt;
  seq = kept_number o.seq h.seq (changed h c).seq;
  marker = kept_marker o.marker h.marker (changed h c).marker;
}

-- the sender's header as its inner transform took it: cut, with the originals that the block keeps put back
abbrev pub restored : Header → Ohb → Header
restored h o = record (cut h) {
  pt = unwrap_or o.pt h.pt;
  seq = unwrap_or o.seq h.seq;
  marker = unwrap_or o.marker h.marker;
}

-- header and block after a list of changes, one after another
abbrev pub changed_by : List Rewrite → Header → Ohb → Header
changed_by [] h o = h
changed_by (c ∷ changes) h o = changed_by changes (changed h c) (block_after h o c)

abbrev pub block_by : List Rewrite → Header → Ohb → Ohb
block_by [] h o = o
block_by (c ∷ changes) h o = block_by changes (changed h c) (block_after h o c)
