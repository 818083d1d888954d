-- Options and changes: what is read is spelled by the words, and the words are read.
use Rattle.std.proofs.Common.{◌≡◌, ℕ, true, List, Some, refl, subst}
use Rattle.std.specs.Prelude.{codes}
use Rattle.std.specs.List.{list_all}
use Rattle.std.specs.Fmt.{decimal}
use Rattle.std.proofs.lemmas.Option.{same_Some}
use Rattle.hex.specs.Hex.{encode_lower}
use Rattle.perc_word.specs.Word.{option_words, list_text, ssrc_text, marker_text}
use Rattle.perc_word.proofs.Split.{is_free}
use Rattle.perc_word.proofs.Spelling.{marker_spelling}
use Rattle.perc_word.proofs.Taking.{option_taken, option_again, option_free, lacks, lacks_option}
use Rattle.perc_script_line.specs.Script.{Options, AreOptions, options_next, options_words, Changes, AreChanges, changes_next, changes_words, replaced_text}
use Rattle.perc_script_line.proofs.Sorts.{csrcs_kind, extension_kind, pad_kind, payload_type_kind, two_kind, replaced_kind}

-- ---- options

abbrev OptionsAre : List (List ℕ) → Options × List (List ℕ) → Type 0
OptionsAre words next = (words ≡ options_words next.0 next.1) × AreOptions next.0

pub options_back : (words : List (List ℕ)) (next : Options × List (List ℕ)) → options_next words ≡ Some next → (words ≡ options_words next.0 next.1) × AreOptions next.0
unfolding options_next
options_back words next h =
    option_taken (codes "csrc=") _ _ _ csrcs_kind _ next (λ ws. OptionsAre ws next) words h λ csrcs w1 f1 h1.
    option_taken (codes "ext=") _ _ _ extension_kind _ next (λ ws. OptionsAre (option_words (codes "csrc=") (list_text ssrc_text) csrcs ws) next) w1 h1 λ extension w2 f2 h2.
    option_taken (codes "pad=") _ _ _ pad_kind _ next (λ ws. OptionsAre (option_words (codes "csrc=") (list_text ssrc_text) csrcs (option_words (codes "ext=") encode_lower extension ws)) next) w2 h2 λ pad w3 f3 h3.
    let o : Options = record { csrcs = csrcs; extension = extension; pad = pad } in
    subst (OptionsAre (options_words o w3)) (same_Some (o, w3) next h3) (refl, record { csrcs = f1; extension = f2; pad = f3 })

pub options_again : (o : Options) (rest : List (List ℕ)) → AreOptions o → lacks (codes "csrc=") rest ≡ true → lacks (codes "ext=") rest ≡ true → lacks (codes "pad=") rest ≡ true
    → options_next (options_words o rest) ≡ Some (o, rest)
unfolding options_next
options_again o rest h l0 l1 l2 =
    let pads : List (List ℕ) = option_words (codes "pad=") decimal o.pad rest in
    let extensions : List (List ℕ) = option_words (codes "ext=") encode_lower o.extension pads in
    let e0 = option_again (codes "csrc=") _ _ _ csrcs_kind o.csrcs extensions h.csrcs
    (lacks_option (codes "csrc=") (codes "ext=") encode_lower o.extension pads (λ xs. refl) (lacks_option (codes "csrc=") (codes "pad=") decimal o.pad rest (λ xs. refl) l0)) in
    let e1 = option_again (codes "ext=") _ _ _ extension_kind o.extension pads h.extension (lacks_option (codes "ext=") (codes "pad=") decimal o.pad rest (λ xs. refl) l1) in
    let e2 = option_again (codes "pad=") _ _ _ pad_kind o.pad rest h.pad l2 in
    rw (e0, e1, e2) refl

pub options_free : (o : Options) (rest : List (List ℕ)) → AreOptions o → list_all (is_free 32) rest ≡ true → list_all (is_free 32) (options_words o rest) ≡ true
options_free o rest h free =
    option_free (codes "csrc=") _ _ _ csrcs_kind o.csrcs _ refl h.csrcs (option_free (codes "ext=") _ _ _ extension_kind o.extension _ refl h.extension (option_free (codes "pad=") _ _ _ pad_kind o.pad rest refl h.pad free))

-- ---- changes

abbrev ChangesAre : List (List ℕ) → Changes × List (List ℕ) → Type 0
ChangesAre words next = (words ≡ changes_words next.0 next.1) × AreChanges next.0

pub changes_back : (words : List (List ℕ)) (next : Changes × List (List ℕ)) → changes_next words ≡ Some next → (words ≡ changes_words next.0 next.1) × AreChanges next.0
unfolding changes_next
changes_back words next h =
    option_taken (codes "pt=") _ _ _ payload_type_kind _ next (λ ws. ChangesAre ws next) words h λ pt w1 f1 h1.
    option_taken (codes "shift=") _ _ _ two_kind _ next (λ ws. ChangesAre (option_words (codes "pt=") decimal pt ws) next) w1 h1 λ shift w2 f2 h2.
    option_taken (codes "marker=") _ _ _ marker_spelling _ next (λ ws. ChangesAre (option_words (codes "pt=") decimal pt (option_words (codes "shift=") decimal shift ws)) next) w2 h2 λ marker w3 f3 h3.
    option_taken (codes "ext=") _ _ _ replaced_kind _ next
    (λ ws. ChangesAre (option_words (codes "pt=") decimal pt (option_words (codes "shift=") decimal shift (option_words (codes "marker=") marker_text marker ws))) next) w3 h3 λ extension w4 f4 h4.
    let c : Changes = record { pt = pt; shift = shift; marker = marker; extension = extension } in
    subst (ChangesAre (changes_words c w4)) (same_Some (c, w4) next h4) (refl, record { pt = f1; shift = f2; marker = f3; extension = f4 })

-- no word of a change is in front
pub record Lacks (rest : List (List ℕ)) : Type 0 where
  pub pt : lacks (codes "pt=") rest ≡ true
  pub shift : lacks (codes "shift=") rest ≡ true
  pub marker : lacks (codes "marker=") rest ≡ true
  pub extension : lacks (codes "ext=") rest ≡ true

pub changes_again : (c : Changes) (rest : List (List ℕ)) → AreChanges c → Lacks rest → changes_next (changes_words c rest) ≡ Some (c, rest)
unfolding changes_next
changes_again c rest h l =
    let extensions : List (List ℕ) = option_words (codes "ext=") replaced_text c.extension rest in
    let markers : List (List ℕ) = option_words (codes "marker=") marker_text c.marker extensions in
    let shifts : List (List ℕ) = option_words (codes "shift=") decimal c.shift markers in
    let e0 = option_again (codes "pt=") _ _ _ payload_type_kind c.pt shifts h.pt
    (lacks_option (codes "pt=") (codes "shift=") decimal c.shift markers (λ xs. refl)
    (lacks_option (codes "pt=") (codes "marker=") marker_text c.marker extensions (λ xs. refl) (lacks_option (codes "pt=") (codes "ext=") replaced_text c.extension rest (λ xs. refl) l.pt))) in
    let e1 = option_again (codes "shift=") _ _ _ two_kind c.shift markers h.shift
    (lacks_option (codes "shift=") (codes "marker=") marker_text c.marker extensions (λ xs. refl) (lacks_option (codes "shift=") (codes "ext=") replaced_text c.extension rest (λ xs. refl) l.shift)) in
    let e2 = option_again (codes "marker=") _ _ _ marker_spelling c.marker extensions h.marker (lacks_option (codes "marker=") (codes "ext=") replaced_text c.extension rest (λ xs. refl) l.marker) in
    let e3 = option_again (codes "ext=") _ _ _ replaced_kind c.extension rest h.extension l.extension in
    rw (e0, e1, e2, e3) refl

pub changes_free : (c : Changes) (rest : List (List ℕ)) → AreChanges c → list_all (is_free 32) rest ≡ true → list_all (is_free 32) (changes_words c rest) ≡ true
changes_free c rest h free =
    option_free (codes "pt=") _ _ _ payload_type_kind c.pt _ refl h.pt
    (option_free (codes "shift=") _ _ _ two_kind c.shift _ refl h.shift (option_free (codes "marker=") _ _ _ marker_spelling c.marker _ refl h.marker (option_free (codes "ext=") _ _ _ replaced_kind c.extension rest refl h.extension free)))
