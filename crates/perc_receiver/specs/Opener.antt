-- Who answers what a wrapped key opens to, and what a sealed inner packet opens to: the ciphers under the secrets that a
-- receiver holds, or a table of what was sent.
use Rattle.std.specs.Prelude.{ℕ, Bool, true, false, ◌==◌, ◌&&◌, List, Option, Some, None, Result, Ok, Err, length, find}
use Rattle.std.specs.Option.{option_map}
use Rattle.std.specs.Str.{bytes_eq}
use Rattle.perc_rtp.specs.Header.{Header}
use Rattle.perc_ohb.specs.Rewriting.{same}
use Rattle.perc_srtp.specs.Sealed.{unsealed_body}
use Rattle.perc_ekt.specs.Key.{WrappedKey, opened_key}
use Rattle.perc_ekt.specs.declared.key.KeyFault.{KeyFault}
use Rattle.perc_ekt.specs.declared.key.KeyFault.TheVariants.{Unwrap}
use Rattle.perc_contexts.specs.Receiving.{Context}
use Rattle.perc_receiver.specs.Table.{Secret, Row, Wrap, Table, secret_of, inner_keys, body_of}

pub record Opener : Type 0 where
  -- what these octets under this SPI open to, as a wrapped key
  pub wrapped_key : ℕ → List ℕ → Result WrappedKey KeyFault
  -- the body that these inner octets open to under a context, at an index, with this original header
  pub body : Context → ℕ → Header → List ℕ → Option (List ℕ)

-- ---- the ciphers

abbrev pub key_under : Option Secret → List ℕ → Result WrappedKey KeyFault
key_under None octets = Err Unwrap
key_under (Some s) octets = opened_key s.key (length s.key) octets

abbrev pub body_under : Option Secret → Context → ℕ → Header → List ℕ → Option (List ℕ)
body_under None c index h octets = None
body_under (Some s) c index h octets = unsealed_body (inner_keys s c.key) index h octets

abbrev pub by_cipher : List Secret → Opener
by_cipher secrets = record {
  wrapped_key = λ spi octets. key_under (secret_of secrets spi) octets;
  body = λ c index h octets. body_under (secret_of secrets c.spi) c index h octets;
}

-- ---- the table

abbrev pub is_wrap : ℕ → List ℕ → Wrap → Bool
is_wrap spi octets w = w.spi == spi && bytes_eq w.octets octets

abbrev pub wrap_of : Table → ℕ → List ℕ → Option Wrap
wrap_of table spi octets = find (is_wrap spi octets) table.wraps

abbrev pub told_wrap : Option Wrap → Result WrappedKey KeyFault
told_wrap None = Err Unwrap
told_wrap (Some w) = Ok (record { key = w.key; ssrc = w.ssrc; roc = w.roc })

abbrev pub same_extension : Option (ℕ × List ℕ) → Option (ℕ × List ℕ) → Bool
same_extension None None = true
same_extension None (Some f) = false
same_extension (Some e) None = false
same_extension (Some e) (Some f) = e.0 == f.0 && bytes_eq e.1 f.1

-- They are one header, field by field.
abbrev pub same_header : Header → Header → Bool
same_header g h =
    same g.padding h.padding && same g.marker h.marker && g.pt == h.pt && g.seq == h.seq && g.timestamp == h.timestamp && g.ssrc == h.ssrc
    && bytes_eq g.csrcs h.csrcs && same_extension g.extension h.extension

-- it is the row of this context and index, with this header and these inner octets
abbrev pub is_row : Context → ℕ → Header → List ℕ → Row → Bool
is_row c index h octets row =
    row.spi == c.spi && row.ssrc == c.ssrc && bytes_eq row.key c.key && row.index == index
    && same_header row.header h && bytes_eq row.inner octets

abbrev pub row_of : Table → Context → ℕ → Header → List ℕ → Option Row
row_of table c index h octets = find (is_row c index h octets) table.rows

abbrev pub by_table : Table → Opener
by_table table = record {
  wrapped_key = λ spi octets. told_wrap (wrap_of table spi octets);
  body = λ c index h octets. option_map body_of (row_of table c index h octets);
}
