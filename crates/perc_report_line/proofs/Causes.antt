-- Reasons: what is read is spelled by the words, and the words are read.
use Rattle.std.proofs.Common.{◌≡◌, ℕ, true, cond, inl, inr, List, [], ◌∷◌, Option, Some, refl, sym, ap, ◌∙◌, subst}
use Rattle.std.specs.Prelude.{codes, option_and_then}
use Rattle.std.specs.List.{list_all}
use Rattle.std.specs.Str.{bytes_eq}
use Rattle.std.specs.Fmt.{decimal}
use Rattle.std.proofs.lemmas.Bool.{and_from}
use Rattle.perc_word.specs.Word.{word_then, ends, number_in, most_of_two, most_of_six}
use Rattle.perc_word.proofs.Split.{is_free}
use Rattle.perc_word.proofs.Spelling.{bind_some, chosen, same}
use Rattle.perc_word.proofs.Taking.{taken, again_taken, ended}
use Rattle.perc_report_line.specs.declared.reasons.Refusal.{Refusal}
use Rattle.perc_report_line.specs.declared.reasons.Refusal.TheVariants as refusal
use Rattle.perc_report_line.specs.declared.reasons.Denial.{Denial}
use Rattle.perc_report_line.specs.declared.reasons.Denial.TheVariants as denial
use Rattle.perc_report_line.specs.declared.reasons.Loss.{Loss}
use Rattle.perc_report_line.specs.declared.reasons.Loss.TheVariants as loss
use Rattle.perc_report_line.specs.Reasons.{refusal_in, refusal_text, refusal_words, IsRefusal, plain_refusal_in, denial_in, denial_text, denial_words, IsDenial, plain_denial_in, loss_in, loss_text, loss_words, IsLoss, plain_loss_in}
use Rattle.perc_report_line.proofs.Sorts.{two_kind, six_kind, plain_refusal_kind, IsPlainRefusal, plain_denial_kind, IsPlainDenial, plain_loss_kind, IsPlainLoss}

-- ---- refusal

abbrev RefusalIs : List (List ℕ) → Refusal → Type 0
RefusalIs words reason = (words ≡ refusal_words reason) × IsRefusal reason

refusal-plain : (x : Refusal) → IsPlainRefusal x → RefusalIs (refusal_text x ∷ []) x
refusal-plain refusal.NotMedia h = (refl, tt)
refusal-plain refusal.NoField h = (refl, tt)
refusal-plain refusal.EktType h = (refl, tt)
refusal-plain refusal.EktLength h = (refl, tt)
refusal-plain refusal.RtpShort h = (refl, tt)
refusal-plain refusal.RtpVersion h = (refl, tt)
refusal-plain refusal.RtpExtension h = (refl, tt)
refusal-plain refusal.OwnStream h = (refl, tt)
refusal-plain refusal.OuterShort h = (refl, tt)
refusal-plain refusal.OuterOld h = (refl, tt)
refusal-plain refusal.OuterRepeated h = (refl, tt)
refusal-plain refusal.StreamLimit h = (refl, tt)
refusal-plain refusal.OuterTag h = (refl, tt)
refusal-plain refusal.OhbEmpty h = (refl, tt)
refusal-plain refusal.OhbReserved h = (refl, tt)
refusal-plain refusal.OhbMarker h = (refl, tt)
refusal-plain refusal.OhbShort h = (refl, tt)
refusal-plain refusal.OhbPt h = (refl, tt)
refusal-plain refusal.InnerShort h = (refl, tt)
refusal-plain (refusal.SpiUnknown number) h = cc h
refusal-plain refusal.Unwrap h = (refl, tt)
refusal-plain refusal.EktPlain h = (refl, tt)
refusal-plain refusal.KeyLimit h = (refl, tt)
refusal-plain refusal.NoContext h = (refl, tt)
refusal-plain refusal.InnerOld h = (refl, tt)
refusal-plain refusal.InnerRepeated h = (refl, tt)
refusal-plain refusal.InnerTag h = (refl, tt)
refusal-plain refusal.Padding h = (refl, tt)
refusal-plain refusal.RtcpShort h = (refl, tt)
refusal-plain refusal.RtcpVersion h = (refl, tt)
refusal-plain refusal.RtcpClear h = (refl, tt)
refusal-plain refusal.RtcpOld h = (refl, tt)
refusal-plain refusal.RtcpRepeated h = (refl, tt)
refusal-plain refusal.RtcpTag h = (refl, tt)

refusal-other : (word : List ℕ) (rest : List (List ℕ)) (reason : Refusal) → option_and_then (λ reason. ends reason rest) (plain_refusal_in word) ≡ Some reason → RefusalIs (word ∷ rest) reason
refusal-other word rest reason h =
    let found = bind_some (plain_refusal_in word) _ reason h in
    let back = plain_refusal_kind.back word found.0 found.1 in
    let is = refusal-plain found.0 back.1 in
    ended found.0 reason (λ ws y. RefusalIs (word ∷ ws) y) rest found.2 (ap (λ w. w ∷ []) back.0 ∙ is.0, is.1)

refusal-spi-unknown : (word : List ℕ) (rest : List (List ℕ)) (reason : Refusal) → bytes_eq word (codes "spi-unknown") ≡ true
    → word_then (number_in most_of_two) (λ number. ends (refusal.SpiUnknown number)) rest ≡ Some reason → RefusalIs (word ∷ rest) reason
refusal-spi-unknown word rest reason is h =
    subst (λ w. RefusalIs (w ∷ rest) reason) (sym (same word (codes "spi-unknown") is))
    (taken _ _ _ two_kind _ reason (λ ws. RefusalIs (codes "spi-unknown" ∷ ws) reason) rest h λ number w1 f1 h1.
    ended _ reason (λ ws y. RefusalIs (codes "spi-unknown" ∷ decimal number ∷ ws) y) w1 h1 (refl, f1))

pub refusal_back : (words : List (List ℕ)) (reason : Refusal) → refusal_in words ≡ Some reason → (words ≡ refusal_words reason) × IsRefusal reason
unfolding refusal_in
refusal_back [] reason h = cc h
refusal_back (word ∷ rest) reason h =
    let other : Option Refusal = option_and_then (λ reason. ends reason rest) (plain_refusal_in word) in
    elim (chosen (bytes_eq word (codes "spi-unknown")) (word_then (number_in most_of_two) (λ number. ends (refusal.SpiUnknown number)) rest) other (Some reason) h) [
      | inl at ↦ refusal-spi-unknown word rest reason at.0 at.1
      | inr no0 ↦ refusal-other word rest reason no0.1
    ]

pub refusal_again : (reason : Refusal) → IsRefusal reason → refusal_in (refusal_words reason) ≡ Some reason
unfolding refusal_in plain_refusal_in
refusal_again refusal.NotMedia h = refl
refusal_again refusal.NoField h = refl
refusal_again refusal.EktType h = refl
refusal_again refusal.EktLength h = refl
refusal_again refusal.RtpShort h = refl
refusal_again refusal.RtpVersion h = refl
refusal_again refusal.RtpExtension h = refl
refusal_again refusal.OwnStream h = refl
refusal_again refusal.OuterShort h = refl
refusal_again refusal.OuterOld h = refl
refusal_again refusal.OuterRepeated h = refl
refusal_again refusal.StreamLimit h = refl
refusal_again refusal.OuterTag h = refl
refusal_again refusal.OhbEmpty h = refl
refusal_again refusal.OhbReserved h = refl
refusal_again refusal.OhbMarker h = refl
refusal_again refusal.OhbShort h = refl
refusal_again refusal.OhbPt h = refl
refusal_again refusal.InnerShort h = refl
refusal_again (refusal.SpiUnknown number) h = again_taken _ _ _ two_kind _ number [] h
refusal_again refusal.Unwrap h = refl
refusal_again refusal.EktPlain h = refl
refusal_again refusal.KeyLimit h = refl
refusal_again refusal.NoContext h = refl
refusal_again refusal.InnerOld h = refl
refusal_again refusal.InnerRepeated h = refl
refusal_again refusal.InnerTag h = refl
refusal_again refusal.Padding h = refl
refusal_again refusal.RtcpShort h = refl
refusal_again refusal.RtcpVersion h = refl
refusal_again refusal.RtcpClear h = refl
refusal_again refusal.RtcpOld h = refl
refusal_again refusal.RtcpRepeated h = refl
refusal_again refusal.RtcpTag h = refl

pub refusal_free : (reason : Refusal) → IsRefusal reason → list_all (is_free 32) (refusal_words reason) ≡ true
refusal_free refusal.NotMedia h = refl
refusal_free refusal.NoField h = refl
refusal_free refusal.EktType h = refl
refusal_free refusal.EktLength h = refl
refusal_free refusal.RtpShort h = refl
refusal_free refusal.RtpVersion h = refl
refusal_free refusal.RtpExtension h = refl
refusal_free refusal.OwnStream h = refl
refusal_free refusal.OuterShort h = refl
refusal_free refusal.OuterOld h = refl
refusal_free refusal.OuterRepeated h = refl
refusal_free refusal.StreamLimit h = refl
refusal_free refusal.OuterTag h = refl
refusal_free refusal.OhbEmpty h = refl
refusal_free refusal.OhbReserved h = refl
refusal_free refusal.OhbMarker h = refl
refusal_free refusal.OhbShort h = refl
refusal_free refusal.OhbPt h = refl
refusal_free refusal.InnerShort h = refl
refusal_free (refusal.SpiUnknown number) h = and_from _ _ (two_kind.free number h) refl
refusal_free refusal.Unwrap h = refl
refusal_free refusal.EktPlain h = refl
refusal_free refusal.KeyLimit h = refl
refusal_free refusal.NoContext h = refl
refusal_free refusal.InnerOld h = refl
refusal_free refusal.InnerRepeated h = refl
refusal_free refusal.InnerTag h = refl
refusal_free refusal.Padding h = refl
refusal_free refusal.RtcpShort h = refl
refusal_free refusal.RtcpVersion h = refl
refusal_free refusal.RtcpClear h = refl
refusal_free refusal.RtcpOld h = refl
refusal_free refusal.RtcpRepeated h = refl
refusal_free refusal.RtcpTag h = refl

-- ---- denial

abbrev DenialIs : List (List ℕ) → Denial → Type 0
DenialIs words reason = (words ≡ denial_words reason) × IsDenial reason

denial-plain : (x : Denial) → IsPlainDenial x → DenialIs (denial_text x ∷ []) x
denial-plain (denial.SpiOld number) h = cc h
denial-plain denial.KeyRepeated h = (refl, tt)
denial-plain denial.KeyLimit h = (refl, tt)

denial-other : (word : List ℕ) (rest : List (List ℕ)) (reason : Denial) → option_and_then (λ reason. ends reason rest) (plain_denial_in word) ≡ Some reason → DenialIs (word ∷ rest) reason
denial-other word rest reason h =
    let found = bind_some (plain_denial_in word) _ reason h in
    let back = plain_denial_kind.back word found.0 found.1 in
    let is = denial-plain found.0 back.1 in
    ended found.0 reason (λ ws y. DenialIs (word ∷ ws) y) rest found.2 (ap (λ w. w ∷ []) back.0 ∙ is.0, is.1)

denial-spi-old : (word : List ℕ) (rest : List (List ℕ)) (reason : Denial) → bytes_eq word (codes "spi-old") ≡ true
    → word_then (number_in most_of_two) (λ number. ends (denial.SpiOld number)) rest ≡ Some reason → DenialIs (word ∷ rest) reason
denial-spi-old word rest reason is h =
    subst (λ w. DenialIs (w ∷ rest) reason) (sym (same word (codes "spi-old") is))
    (taken _ _ _ two_kind _ reason (λ ws. DenialIs (codes "spi-old" ∷ ws) reason) rest h λ number w1 f1 h1.
    ended _ reason (λ ws y. DenialIs (codes "spi-old" ∷ decimal number ∷ ws) y) w1 h1 (refl, f1))

pub denial_back : (words : List (List ℕ)) (reason : Denial) → denial_in words ≡ Some reason → (words ≡ denial_words reason) × IsDenial reason
unfolding denial_in
denial_back [] reason h = cc h
denial_back (word ∷ rest) reason h =
    let other : Option Denial = option_and_then (λ reason. ends reason rest) (plain_denial_in word) in
    elim (chosen (bytes_eq word (codes "spi-old")) (word_then (number_in most_of_two) (λ number. ends (denial.SpiOld number)) rest) other (Some reason) h) [
      | inl at ↦ denial-spi-old word rest reason at.0 at.1
      | inr no0 ↦ denial-other word rest reason no0.1
    ]

pub denial_again : (reason : Denial) → IsDenial reason → denial_in (denial_words reason) ≡ Some reason
unfolding denial_in plain_denial_in
denial_again (denial.SpiOld number) h = again_taken _ _ _ two_kind _ number [] h
denial_again denial.KeyRepeated h = refl
denial_again denial.KeyLimit h = refl

pub denial_free : (reason : Denial) → IsDenial reason → list_all (is_free 32) (denial_words reason) ≡ true
denial_free (denial.SpiOld number) h = and_from _ _ (two_kind.free number h) refl
denial_free denial.KeyRepeated h = refl
denial_free denial.KeyLimit h = refl

-- ---- loss

abbrev LossIs : List (List ℕ) → Loss → Type 0
LossIs words reason = (words ≡ loss_words reason) × IsLoss reason

loss-plain : (x : Loss) → IsPlainLoss x → LossIs (loss_text x ∷ []) x
loss-plain loss.StreamLimit h = (refl, tt)
loss-plain loss.Room h = (refl, tt)
loss-plain (loss.NoIndex number) h = cc h
loss-plain (loss.NonceUsed number) h = cc h
loss-plain loss.RtcpSpent h = (refl, tt)

loss-other : (word : List ℕ) (rest : List (List ℕ)) (reason : Loss) → option_and_then (λ reason. ends reason rest) (plain_loss_in word) ≡ Some reason → LossIs (word ∷ rest) reason
loss-other word rest reason h =
    let found = bind_some (plain_loss_in word) _ reason h in
    let back = plain_loss_kind.back word found.0 found.1 in
    let is = loss-plain found.0 back.1 in
    ended found.0 reason (λ ws y. LossIs (word ∷ ws) y) rest found.2 (ap (λ w. w ∷ []) back.0 ∙ is.0, is.1)

loss-no-index : (word : List ℕ) (rest : List (List ℕ)) (reason : Loss) → bytes_eq word (codes "no-index") ≡ true
    → word_then (number_in most_of_two) (λ number. ends (loss.NoIndex number)) rest ≡ Some reason → LossIs (word ∷ rest) reason
loss-no-index word rest reason is h =
    subst (λ w. LossIs (w ∷ rest) reason) (sym (same word (codes "no-index") is))
    (taken _ _ _ two_kind _ reason (λ ws. LossIs (codes "no-index" ∷ ws) reason) rest h λ number w1 f1 h1.
    ended _ reason (λ ws y. LossIs (codes "no-index" ∷ decimal number ∷ ws) y) w1 h1 (refl, f1))

loss-nonce-used : (word : List ℕ) (rest : List (List ℕ)) (reason : Loss) → bytes_eq word (codes "nonce-used") ≡ true
    → word_then (number_in most_of_six) (λ number. ends (loss.NonceUsed number)) rest ≡ Some reason → LossIs (word ∷ rest) reason
loss-nonce-used word rest reason is h =
    subst (λ w. LossIs (w ∷ rest) reason) (sym (same word (codes "nonce-used") is))
    (taken _ _ _ six_kind _ reason (λ ws. LossIs (codes "nonce-used" ∷ ws) reason) rest h λ number w1 f1 h1.
    ended _ reason (λ ws y. LossIs (codes "nonce-used" ∷ decimal number ∷ ws) y) w1 h1 (refl, f1))

pub loss_back : (words : List (List ℕ)) (reason : Loss) → loss_in words ≡ Some reason → (words ≡ loss_words reason) × IsLoss reason
unfolding loss_in
loss_back [] reason h = cc h
loss_back (word ∷ rest) reason h =
    let other : Option Loss = option_and_then (λ reason. ends reason rest) (plain_loss_in word) in
    let rest0 : Option Loss = cond (bytes_eq word (codes "nonce-used")) (word_then (number_in most_of_six) (λ number. ends (loss.NonceUsed number)) rest) other in
    elim (chosen (bytes_eq word (codes "no-index")) (word_then (number_in most_of_two) (λ number. ends (loss.NoIndex number)) rest) rest0 (Some reason) h) [
      | inl at ↦ loss-no-index word rest reason at.0 at.1
      | inr no0 ↦
          elim (chosen (bytes_eq word (codes "nonce-used")) (word_then (number_in most_of_six) (λ number. ends (loss.NonceUsed number)) rest) other (Some reason) no0.1) [
            | inl at ↦ loss-nonce-used word rest reason at.0 at.1
            | inr no1 ↦ loss-other word rest reason no1.1
          ]
    ]

pub loss_again : (reason : Loss) → IsLoss reason → loss_in (loss_words reason) ≡ Some reason
unfolding loss_in plain_loss_in
loss_again loss.StreamLimit h = refl
loss_again loss.Room h = refl
loss_again (loss.NoIndex number) h = again_taken _ _ _ two_kind _ number [] h
loss_again (loss.NonceUsed number) h = again_taken _ _ _ six_kind _ number [] h
loss_again loss.RtcpSpent h = refl

pub loss_free : (reason : Loss) → IsLoss reason → list_all (is_free 32) (loss_words reason) ≡ true
loss_free loss.StreamLimit h = refl
loss_free loss.Room h = refl
loss_free (loss.NoIndex number) h = and_from _ _ (two_kind.free number h) refl
loss_free (loss.NonceUsed number) h = and_from _ _ (six_kind.free number h) refl
loss_free loss.RtcpSpent h = refl
