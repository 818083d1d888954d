-- The kinds of words in lines of a report: what each says, and the one word that says it.
use Rattle.std.proofs.Common.{◌≡◌, ◌≤◌, ℕ, Bool, true, false, inl, inr, List, [], ◌∷◌, Some, refl, subst, arith}
use Rattle.std.specs.List.{list_all}
use Rattle.std.specs.Fmt.{decimal}
use Rattle.std.specs.Str.{bytes_eq}
use Rattle.std.proofs.lemmas.Bool.{and_parts}
use Rattle.std.proofs.lemmas.Option.{same_Some}
use Rattle.perc_rtp.specs.Media.{is_payload_type}
use Rattle.perc_word.specs.Word.{text_in, number_in, most_of_two, most_of_four, most_of_six, payload_type_in, Also}
use Rattle.perc_word.proofs.Split.{is_free}
use Rattle.perc_word.proofs.Spelling.{Spelling, chosen, text_spelling, number_spelling, only_spelling}
use Rattle.perc_report_line.specs.declared.verb.Verb.{Verb}
use Rattle.perc_report_line.specs.declared.verb.Verb.TheVariants as verb
use Rattle.perc_report_line.specs.declared.verb.Way.{Way}
use Rattle.perc_report_line.specs.declared.verb.Way.TheVariants as way
use Rattle.perc_report_line.specs.declared.reasons.Refusal.{Refusal}
use Rattle.perc_report_line.specs.declared.reasons.Refusal.TheVariants as refusal
use Rattle.perc_report_line.specs.declared.reasons.Denial.{Denial}
use Rattle.perc_report_line.specs.declared.reasons.Denial.TheVariants as denial
use Rattle.perc_report_line.specs.declared.reasons.Loss.{Loss}
use Rattle.perc_report_line.specs.declared.reasons.Loss.TheVariants as loss
use Rattle.perc_report_line.specs.Reasons.{refusal_text, plain_refusals, plain_refusal_in, denial_text, plain_denials, plain_denial_in, loss_text, plain_losses, plain_loss_in}
use Rattle.perc_report_line.specs.Report.{verbs, verb_in, verb_text, ways, way_in, way_text}

-- ---- first words

abbrev pub Any : {A : Type 0} → A → Type 0
Any x = Unit {0}

verb-again : (x : Verb) → Any x → verb_in (verb_text x) ≡ Some x
unfolding verb_in
verb-again verb.Ekt h = refl
verb-again verb.Joined h = refl
verb-again verb.Left h = refl
verb-again verb.Granted h = refl
verb-again verb.Denied h = refl
verb-again verb.Rekeyed h = refl
verb-again verb.Wire h = refl
verb-again verb.Drop h = refl
verb-again verb.Refuse h = refl
verb-again verb.Accept h = refl
verb-again verb.Rtcp h = refl

verb-free : (x : Verb) → Any x → is_free 32 (verb_text x) ≡ true
verb-free verb.Ekt h = refl
verb-free verb.Joined h = refl
verb-free verb.Left h = refl
verb-free verb.Granted h = refl
verb-free verb.Denied h = refl
verb-free verb.Rekeyed h = refl
verb-free verb.Wire h = refl
verb-free verb.Drop h = refl
verb-free verb.Refuse h = refl
verb-free verb.Accept h = refl
verb-free verb.Rtcp h = refl

pub verb_kind : Spelling verb_in verb_text Any
unfolding verb_in
verb_kind = text_spelling verb_text verbs Any (λ word x h. tt) verb-again verb-free

way-again : (x : Way) → Any x → way_in (way_text x) ≡ Some x
unfolding way_in
way-again way.Up h = refl
way-again way.Made h = refl
way-again way.Reseal h = refl
way-again way.Down h = refl

way-free : (x : Way) → Any x → is_free 32 (way_text x) ≡ true
way-free way.Up h = refl
way-free way.Made h = refl
way-free way.Reseal h = refl
way-free way.Down h = refl

pub way_kind : Spelling way_in way_text Any
unfolding way_in
way_kind = text_spelling way_text ways Any (λ word x h. tt) way-again way-free

-- ---- reasons without a number

-- what holds of all these holds of the one that is found
found_is : {A : Type 0} (test : A → Bool) (text : A → List ℕ) (values : List A) (word : List ℕ) (value : A) → list_all test values ≡ true → text_in text values word ≡ Some value → test value ≡ true
found_is test text [] word value all h = cc h
found_is test text (v ∷ vs) word value all h =
    let parts = and_parts (test v) (list_all test vs) all in
    elim (chosen (bytes_eq (text v) word) (Some v) (text_in text vs word) (Some value) h) [
      | inl at ↦ subst (λ x. test x ≡ true) (same_Some v value at.1) parts.0
      | inr other ↦ found_is test text vs word value parts.1 other.1
    ]

abbrev pub is_plain_refusal : Refusal → Bool
is_plain_refusal refusal.NotMedia = true
is_plain_refusal refusal.NoField = true
is_plain_refusal refusal.EktType = true
is_plain_refusal refusal.EktLength = true
is_plain_refusal refusal.RtpShort = true
is_plain_refusal refusal.RtpVersion = true
is_plain_refusal refusal.RtpExtension = true
is_plain_refusal refusal.OwnStream = true
is_plain_refusal refusal.OuterShort = true
is_plain_refusal refusal.OuterOld = true
is_plain_refusal refusal.OuterRepeated = true
is_plain_refusal refusal.StreamLimit = true
is_plain_refusal refusal.OuterTag = true
is_plain_refusal refusal.OhbEmpty = true
is_plain_refusal refusal.OhbReserved = true
is_plain_refusal refusal.OhbMarker = true
is_plain_refusal refusal.OhbShort = true
is_plain_refusal refusal.OhbPt = true
is_plain_refusal refusal.InnerShort = true
is_plain_refusal (refusal.SpiUnknown number) = false
is_plain_refusal refusal.Unwrap = true
is_plain_refusal refusal.EktPlain = true
is_plain_refusal refusal.KeyLimit = true
is_plain_refusal refusal.NoContext = true
is_plain_refusal refusal.InnerOld = true
is_plain_refusal refusal.InnerRepeated = true
is_plain_refusal refusal.InnerTag = true
is_plain_refusal refusal.Padding = true
is_plain_refusal refusal.RtcpShort = true
is_plain_refusal refusal.RtcpVersion = true
is_plain_refusal refusal.RtcpClear = true
is_plain_refusal refusal.RtcpOld = true
is_plain_refusal refusal.RtcpRepeated = true
is_plain_refusal refusal.RtcpTag = true

abbrev pub IsPlainRefusal : Refusal → Type 0
IsPlainRefusal reason = is_plain_refusal reason ≡ true

refusal-again : (x : Refusal) → IsPlainRefusal x → plain_refusal_in (refusal_text x) ≡ Some x
unfolding plain_refusal_in
refusal-again refusal.NotMedia h = refl
refusal-again refusal.NoField h = refl
refusal-again refusal.EktType h = refl
refusal-again refusal.EktLength h = refl
refusal-again refusal.RtpShort h = refl
refusal-again refusal.RtpVersion h = refl
refusal-again refusal.RtpExtension h = refl
refusal-again refusal.OwnStream h = refl
refusal-again refusal.OuterShort h = refl
refusal-again refusal.OuterOld h = refl
refusal-again refusal.OuterRepeated h = refl
refusal-again refusal.StreamLimit h = refl
refusal-again refusal.OuterTag h = refl
refusal-again refusal.OhbEmpty h = refl
refusal-again refusal.OhbReserved h = refl
refusal-again refusal.OhbMarker h = refl
refusal-again refusal.OhbShort h = refl
refusal-again refusal.OhbPt h = refl
refusal-again refusal.InnerShort h = refl
refusal-again (refusal.SpiUnknown number) h = cc h
refusal-again refusal.Unwrap h = refl
refusal-again refusal.EktPlain h = refl
refusal-again refusal.KeyLimit h = refl
refusal-again refusal.NoContext h = refl
refusal-again refusal.InnerOld h = refl
refusal-again refusal.InnerRepeated h = refl
refusal-again refusal.InnerTag h = refl
refusal-again refusal.Padding h = refl
refusal-again refusal.RtcpShort h = refl
refusal-again refusal.RtcpVersion h = refl
refusal-again refusal.RtcpClear h = refl
refusal-again refusal.RtcpOld h = refl
refusal-again refusal.RtcpRepeated h = refl
refusal-again refusal.RtcpTag h = refl

pub refusal-free : (x : Refusal) → is_free 32 (refusal_text x) ≡ true
refusal-free refusal.NotMedia = refl
refusal-free refusal.NoField = refl
refusal-free refusal.EktType = refl
refusal-free refusal.EktLength = refl
refusal-free refusal.RtpShort = refl
refusal-free refusal.RtpVersion = refl
refusal-free refusal.RtpExtension = refl
refusal-free refusal.OwnStream = refl
refusal-free refusal.OuterShort = refl
refusal-free refusal.OuterOld = refl
refusal-free refusal.OuterRepeated = refl
refusal-free refusal.StreamLimit = refl
refusal-free refusal.OuterTag = refl
refusal-free refusal.OhbEmpty = refl
refusal-free refusal.OhbReserved = refl
refusal-free refusal.OhbMarker = refl
refusal-free refusal.OhbShort = refl
refusal-free refusal.OhbPt = refl
refusal-free refusal.InnerShort = refl
refusal-free (refusal.SpiUnknown number) = refl
refusal-free refusal.Unwrap = refl
refusal-free refusal.EktPlain = refl
refusal-free refusal.KeyLimit = refl
refusal-free refusal.NoContext = refl
refusal-free refusal.InnerOld = refl
refusal-free refusal.InnerRepeated = refl
refusal-free refusal.InnerTag = refl
refusal-free refusal.Padding = refl
refusal-free refusal.RtcpShort = refl
refusal-free refusal.RtcpVersion = refl
refusal-free refusal.RtcpClear = refl
refusal-free refusal.RtcpOld = refl
refusal-free refusal.RtcpRepeated = refl
refusal-free refusal.RtcpTag = refl

pub plain_refusal_kind : Spelling plain_refusal_in refusal_text IsPlainRefusal
unfolding plain_refusal_in
plain_refusal_kind = text_spelling refusal_text plain_refusals IsPlainRefusal (λ word x h. found_is is_plain_refusal refusal_text plain_refusals word x refl h) refusal-again (λ x h. refusal-free x)

abbrev pub is_plain_denial : Denial → Bool
is_plain_denial (denial.SpiOld number) = false
is_plain_denial denial.KeyRepeated = true
is_plain_denial denial.KeyLimit = true

abbrev pub IsPlainDenial : Denial → Type 0
IsPlainDenial reason = is_plain_denial reason ≡ true

denial-again : (x : Denial) → IsPlainDenial x → plain_denial_in (denial_text x) ≡ Some x
unfolding plain_denial_in
denial-again (denial.SpiOld number) h = cc h
denial-again denial.KeyRepeated h = refl
denial-again denial.KeyLimit h = refl

pub denial-free : (x : Denial) → is_free 32 (denial_text x) ≡ true
denial-free (denial.SpiOld number) = refl
denial-free denial.KeyRepeated = refl
denial-free denial.KeyLimit = refl

pub plain_denial_kind : Spelling plain_denial_in denial_text IsPlainDenial
unfolding plain_denial_in
plain_denial_kind = text_spelling denial_text plain_denials IsPlainDenial (λ word x h. found_is is_plain_denial denial_text plain_denials word x refl h) denial-again (λ x h. denial-free x)

abbrev pub is_plain_loss : Loss → Bool
is_plain_loss loss.StreamLimit = true
is_plain_loss loss.Room = true
is_plain_loss (loss.NoIndex number) = false
is_plain_loss (loss.NonceUsed number) = false
is_plain_loss loss.RtcpSpent = true

abbrev pub IsPlainLoss : Loss → Type 0
IsPlainLoss reason = is_plain_loss reason ≡ true

loss-again : (x : Loss) → IsPlainLoss x → plain_loss_in (loss_text x) ≡ Some x
unfolding plain_loss_in
loss-again loss.StreamLimit h = refl
loss-again loss.Room h = refl
loss-again (loss.NoIndex number) h = cc h
loss-again (loss.NonceUsed number) h = cc h
loss-again loss.RtcpSpent h = refl

pub loss-free : (x : Loss) → is_free 32 (loss_text x) ≡ true
loss-free loss.StreamLimit = refl
loss-free loss.Room = refl
loss-free (loss.NoIndex number) = refl
loss-free (loss.NonceUsed number) = refl
loss-free loss.RtcpSpent = refl

pub plain_loss_kind : Spelling plain_loss_in loss_text IsPlainLoss
unfolding plain_loss_in
plain_loss_kind = text_spelling loss_text plain_losses IsPlainLoss (λ word x h. found_is is_plain_loss loss_text plain_losses word x refl h) loss-again (λ x h. loss-free x)

-- ---- numbers

pub two_kind : Spelling (number_in most_of_two) decimal (λ n. n ≤ most_of_two)
two_kind = number_spelling most_of_two (omega arith)

pub four_kind : Spelling (number_in most_of_four) decimal (λ n. n ≤ most_of_four)
four_kind = number_spelling most_of_four (omega arith)

pub six_kind : Spelling (number_in most_of_six) decimal (λ n. n ≤ most_of_six)
six_kind = number_spelling most_of_six (omega arith)

pub payload_type_kind : Spelling payload_type_in decimal (Also (λ n. n ≤ 127) is_payload_type)
payload_type_kind = only_spelling _ _ _ (number_spelling 127 (omega arith)) is_payload_type
