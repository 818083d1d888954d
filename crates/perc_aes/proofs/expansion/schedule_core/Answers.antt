use Rattle.std.proofs.Common.{◌≡◌, ℕ, List, sym, ap, ◌∙◌, arith}
use Rattle.std.proofs.lemmas.Bool.Decides.{nat_tests}
use Rattle.perc_aes.specs.Cipher.{add_words, rotate_word, sub_word}
use Rattle.perc_aes.specs.Words.{octets_of_word}
use Rattle.perc_aes.proofs.StateLaws.{turned_left, word_xor}
use Rattle.perc_aes.proofs.Words.{core_round, core_middle, core_same}
use Rattle.perc_aes.proofs.expansion.schedule_core.Goals as goal
use Rattle.perc_aes.proofs.expansion.schedule_core.Goals.{else-key_words-eq8-via-then-key_words-eq8+else-i-eq4, else-key_words-eq8-via-else-key_words-eq8}

pub returns-then-i-key_words-eq0 : goal.returns-then-i-key_words-eq0
returns-then-i-key_words-eq0 c =
    let turned : octets_of_word c.rotate_left.result ≡ rotate_word (octets_of_word c.args.before) = rw c.rotate_left.ensures (turned_left c.args.before (omega arith)) in
    word_xor c.sub_word.result c.round_constant.result
    ∙ ap (λ (v : List ℕ). add_words v (octets_of_word c.round_constant.result))
    (c.sub_word.ensures ∙ ap (λ (v : List ℕ). sub_word v) turned)
    ∙ ap (λ (v : List ℕ). add_words (sub_word (rotate_word (octets_of_word c.args.before))) v) c.round_constant.ensures
    ∙ sym (core_round c.args.key_words c.args.i (octets_of_word c.args.before) (omega arith))

pub returns-then-i-eq4 : goal.returns-then-i-eq4
returns-then-i-eq4 c =
    c.sub_word-then-i-eq4.ensures
    ∙ sym (core_middle c.args.key_words c.args.i (octets_of_word c.args.before) c.if-i-key_words-eq0.false (omega arith) (omega arith))

pub returns-else-key_words-eq8 : goal.returns-else-key_words-eq8
returns-else-key_words-eq8 c =
    sym (core_same c.args.key_words c.args.i (octets_of_word c.args.before) c.if-i-key_words-eq0.false
    (elim c.else-key_words-eq8.branch [
      | else-key_words-eq8-via-then-key_words-eq8+else-i-eq4 w ↦ grind (arith, nat_tests)
      | else-key_words-eq8-via-else-key_words-eq8 w ↦ grind (arith, nat_tests)
    ]))
