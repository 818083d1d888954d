-- Why datagrams, grants and keys are refused, and why outputs are dropped: a word for each reason, and a number behind it
-- where the reason has one.
use Rattle.std.specs.Prelude.{ℕ, ◌≤◌, List, [], ◌∷◌, codes, Option, Some, None, if◌then◌else◌}
use Rattle.std.specs.Str.{bytes_eq}
use Rattle.std.specs.Fmt.{decimal}
use Rattle.perc_word.specs.Word.{◌>>=◌, first_of, word_then, ends, text_in, number_in, most_of_two, most_of_six}
use Rattle.perc_report_line.specs.declared.reasons.Refusal.{Refusal}
use Rattle.perc_report_line.specs.declared.reasons.Refusal.TheVariants as refusal
use Rattle.perc_report_line.specs.declared.reasons.Denial.{Denial}
use Rattle.perc_report_line.specs.declared.reasons.Denial.TheVariants as denial
use Rattle.perc_report_line.specs.declared.reasons.Loss.{Loss}
use Rattle.perc_report_line.specs.declared.reasons.Loss.TheVariants as loss

-- the word of a number, where there is one
abbrev pub number_words : Option ℕ → List (List ℕ)
number_words None = []
number_words (Some n) = decimal n ∷ []

-- ---- refusals

abbrev pub refusal_text : Refusal → List ℕ
refusal_text refusal.NotMedia = codes "not-media"
refusal_text refusal.NoField = codes "no-field"
refusal_text refusal.EktType = codes "ekt-type"
refusal_text refusal.EktLength = codes "ekt-length"
refusal_text refusal.RtpShort = codes "rtp-short"
refusal_text refusal.RtpVersion = codes "rtp-version"
refusal_text refusal.RtpExtension = codes "rtp-extension"
refusal_text refusal.OwnStream = codes "own-stream"
refusal_text refusal.OuterShort = codes "outer-short"
refusal_text refusal.OuterOld = codes "outer-old"
refusal_text refusal.OuterRepeated = codes "outer-repeated"
refusal_text refusal.StreamLimit = codes "stream-limit"
refusal_text refusal.OuterTag = codes "outer-tag"
refusal_text refusal.OhbEmpty = codes "ohb-empty"
refusal_text refusal.OhbReserved = codes "ohb-reserved"
refusal_text refusal.OhbMarker = codes "ohb-marker"
refusal_text refusal.OhbShort = codes "ohb-short"
refusal_text refusal.OhbPt = codes "ohb-pt"
refusal_text refusal.InnerShort = codes "inner-short"
refusal_text (refusal.SpiUnknown number) = codes "spi-unknown"
refusal_text refusal.Unwrap = codes "unwrap"
refusal_text refusal.EktPlain = codes "ekt-plain"
refusal_text refusal.KeyLimit = codes "key-limit"
refusal_text refusal.NoContext = codes "no-context"
refusal_text refusal.InnerOld = codes "inner-old"
refusal_text refusal.InnerRepeated = codes "inner-repeated"
refusal_text refusal.InnerTag = codes "inner-tag"
refusal_text refusal.Padding = codes "padding"
refusal_text refusal.RtcpShort = codes "rtcp-short"
refusal_text refusal.RtcpVersion = codes "rtcp-version"
refusal_text refusal.RtcpClear = codes "rtcp-clear"
refusal_text refusal.RtcpOld = codes "rtcp-old"
refusal_text refusal.RtcpRepeated = codes "rtcp-repeated"
refusal_text refusal.RtcpTag = codes "rtcp-tag"

abbrev pub refusal_number : Refusal → Option ℕ
refusal_number refusal.NotMedia = None
refusal_number refusal.NoField = None
refusal_number refusal.EktType = None
refusal_number refusal.EktLength = None
refusal_number refusal.RtpShort = None
refusal_number refusal.RtpVersion = None
refusal_number refusal.RtpExtension = None
refusal_number refusal.OwnStream = None
refusal_number refusal.OuterShort = None
refusal_number refusal.OuterOld = None
refusal_number refusal.OuterRepeated = None
refusal_number refusal.StreamLimit = None
refusal_number refusal.OuterTag = None
refusal_number refusal.OhbEmpty = None
refusal_number refusal.OhbReserved = None
refusal_number refusal.OhbMarker = None
refusal_number refusal.OhbShort = None
refusal_number refusal.OhbPt = None
refusal_number refusal.InnerShort = None
refusal_number (refusal.SpiUnknown number) = Some number
refusal_number refusal.Unwrap = None
refusal_number refusal.EktPlain = None
refusal_number refusal.KeyLimit = None
refusal_number refusal.NoContext = None
refusal_number refusal.InnerOld = None
refusal_number refusal.InnerRepeated = None
refusal_number refusal.InnerTag = None
refusal_number refusal.Padding = None
refusal_number refusal.RtcpShort = None
refusal_number refusal.RtcpVersion = None
refusal_number refusal.RtcpClear = None
refusal_number refusal.RtcpOld = None
refusal_number refusal.RtcpRepeated = None
refusal_number refusal.RtcpTag = None

-- those without a number
abbrev pub plain_refusals : List Refusal
plain_refusals =
    refusal.NotMedia ∷ refusal.NoField ∷ refusal.EktType ∷ refusal.EktLength ∷ refusal.RtpShort ∷ refusal.RtpVersion
    ∷ refusal.RtpExtension ∷ refusal.OwnStream ∷ refusal.OuterShort ∷ refusal.OuterOld ∷ refusal.OuterRepeated ∷ refusal.StreamLimit
    ∷ refusal.OuterTag ∷ refusal.OhbEmpty ∷ refusal.OhbReserved ∷ refusal.OhbMarker ∷ refusal.OhbShort ∷ refusal.OhbPt
    ∷ refusal.InnerShort ∷ refusal.Unwrap ∷ refusal.EktPlain ∷ refusal.KeyLimit ∷ refusal.NoContext ∷ refusal.InnerOld
    ∷ refusal.InnerRepeated ∷ refusal.InnerTag ∷ refusal.Padding ∷ refusal.RtcpShort ∷ refusal.RtcpVersion ∷ refusal.RtcpClear
    ∷ refusal.RtcpOld ∷ refusal.RtcpRepeated ∷ refusal.RtcpTag ∷ []

abbrev pub refusal_words : Refusal → List (List ℕ)
refusal_words reason = refusal_text reason ∷ number_words (refusal_number reason)

unfoldable pub plain_refusal_in : List ℕ → Option Refusal
plain_refusal_in word = text_in refusal_text plain_refusals word

unfoldable pub refusal_in : List (List ℕ) → Option Refusal
refusal_in words = do
  first ← first_of words
  if bytes_eq first.0 (codes "spi-unknown") then word_then (number_in most_of_two) (λ number. ends (refusal.SpiUnknown number)) first.1
      else (plain_refusal_in first.0 >>= λ reason. ends reason first.1)

-- The number, where there is one, has a spelling.
abbrev pub IsRefusal : Refusal → Type 0
IsRefusal refusal.NotMedia = Unit {0}
IsRefusal refusal.NoField = Unit {0}
IsRefusal refusal.EktType = Unit {0}
IsRefusal refusal.EktLength = Unit {0}
IsRefusal refusal.RtpShort = Unit {0}
IsRefusal refusal.RtpVersion = Unit {0}
IsRefusal refusal.RtpExtension = Unit {0}
IsRefusal refusal.OwnStream = Unit {0}
IsRefusal refusal.OuterShort = Unit {0}
IsRefusal refusal.OuterOld = Unit {0}
IsRefusal refusal.OuterRepeated = Unit {0}
IsRefusal refusal.StreamLimit = Unit {0}
IsRefusal refusal.OuterTag = Unit {0}
IsRefusal refusal.OhbEmpty = Unit {0}
IsRefusal refusal.OhbReserved = Unit {0}
IsRefusal refusal.OhbMarker = Unit {0}
IsRefusal refusal.OhbShort = Unit {0}
IsRefusal refusal.OhbPt = Unit {0}
IsRefusal refusal.InnerShort = Unit {0}
IsRefusal (refusal.SpiUnknown number) = number ≤ most_of_two
IsRefusal refusal.Unwrap = Unit {0}
IsRefusal refusal.EktPlain = Unit {0}
IsRefusal refusal.KeyLimit = Unit {0}
IsRefusal refusal.NoContext = Unit {0}
IsRefusal refusal.InnerOld = Unit {0}
IsRefusal refusal.InnerRepeated = Unit {0}
IsRefusal refusal.InnerTag = Unit {0}
IsRefusal refusal.Padding = Unit {0}
IsRefusal refusal.RtcpShort = Unit {0}
IsRefusal refusal.RtcpVersion = Unit {0}
IsRefusal refusal.RtcpClear = Unit {0}
IsRefusal refusal.RtcpOld = Unit {0}
IsRefusal refusal.RtcpRepeated = Unit {0}
IsRefusal refusal.RtcpTag = Unit {0}

-- ---- denials

abbrev pub denial_text : Denial → List ℕ
denial_text (denial.SpiOld number) = codes "spi-old"
denial_text denial.KeyRepeated = codes "key-repeated"
denial_text denial.KeyLimit = codes "key-limit"

abbrev pub denial_number : Denial → Option ℕ
denial_number (denial.SpiOld number) = Some number
denial_number denial.KeyRepeated = None
denial_number denial.KeyLimit = None

-- those without a number
abbrev pub plain_denials : List Denial
plain_denials =
    denial.KeyRepeated ∷ denial.KeyLimit ∷ []

abbrev pub denial_words : Denial → List (List ℕ)
denial_words reason = denial_text reason ∷ number_words (denial_number reason)

unfoldable pub plain_denial_in : List ℕ → Option Denial
plain_denial_in word = text_in denial_text plain_denials word

unfoldable pub denial_in : List (List ℕ) → Option Denial
denial_in words = do
  first ← first_of words
  if bytes_eq first.0 (codes "spi-old") then word_then (number_in most_of_two) (λ number. ends (denial.SpiOld number)) first.1 else (plain_denial_in first.0 >>= λ reason. ends reason first.1)

-- The number, where there is one, has a spelling.
abbrev pub IsDenial : Denial → Type 0
IsDenial (denial.SpiOld number) = number ≤ most_of_two
IsDenial denial.KeyRepeated = Unit {0}
IsDenial denial.KeyLimit = Unit {0}

-- ---- losses

abbrev pub loss_text : Loss → List ℕ
loss_text loss.StreamLimit = codes "stream-limit"
loss_text loss.Room = codes "room"
loss_text (loss.NoIndex number) = codes "no-index"
loss_text (loss.NonceUsed number) = codes "nonce-used"
loss_text loss.RtcpSpent = codes "rtcp-spent"

abbrev pub loss_number : Loss → Option ℕ
loss_number loss.StreamLimit = None
loss_number loss.Room = None
loss_number (loss.NoIndex number) = Some number
loss_number (loss.NonceUsed number) = Some number
loss_number loss.RtcpSpent = None

-- those without a number
abbrev pub plain_losses : List Loss
plain_losses =
    loss.StreamLimit ∷ loss.Room ∷ loss.RtcpSpent ∷ []

abbrev pub loss_words : Loss → List (List ℕ)
loss_words reason = loss_text reason ∷ number_words (loss_number reason)

unfoldable pub plain_loss_in : List ℕ → Option Loss
plain_loss_in word = text_in loss_text plain_losses word

unfoldable pub loss_in : List (List ℕ) → Option Loss
loss_in words = do
  first ← first_of words
  if bytes_eq first.0 (codes "no-index") then word_then (number_in most_of_two) (λ number. ends (loss.NoIndex number)) first.1
      else (if bytes_eq first.0 (codes "nonce-used") then word_then (number_in most_of_six) (λ number. ends (loss.NonceUsed number)) first.1
      else (plain_loss_in first.0 >>= λ reason. ends reason first.1))

-- The number, where there is one, has a spelling.
abbrev pub IsLoss : Loss → Type 0
IsLoss loss.StreamLimit = Unit {0}
IsLoss loss.Room = Unit {0}
IsLoss (loss.NoIndex number) = number ≤ most_of_two
IsLoss (loss.NonceUsed number) = number ≤ most_of_six
IsLoss loss.RtcpSpent = Unit {0}
