-- A line says what it spells, and nothing else.
use Rattle.std.proofs.Common.{◌≡◌, ℕ, ◌+◌, ◌≤◌, true, false, inl, inr, List, [], ◌∷◌, ◌++◌, length, take, Option, Some, refl, sym, ap, ◌∙◌, subst, arith, length-append}
use Rattle.std.specs.Prelude.{codes, option_and_then}
use Rattle.std.specs.List.{list_all, join_with_byte}
use Rattle.std.specs.Str.{bytes_eq}
use Rattle.std.specs.Fmt.{decimal}
use Rattle.std.proofs.lemmas.Bool.{and_from, both_ways, false_from_ne_true}
use Rattle.std.proofs.lemmas.List.{take_at}
use Rattle.std.proofs.lemmas.Option.{same_Some}
use Rattle.hex.specs.Hex.{encode_lower}
use Rattle.uuid.specs.Text.{hyphenated_text, lower}
use Rattle.perc_word.specs.Word.{words_of, name_in, is_name, IsName, AreSomeOctets, marker_text, payload_text, most_of_four}
use Rattle.perc_word.proofs.Split.{is_free, parts-again, parts-joined}
use Rattle.perc_word.proofs.Spelling.{bind_some, chosen, same, name_spelling, octets_spelling, marker_spelling, payload_spelling}
use Rattle.perc_word.proofs.Taking.{taken, again_taken, ended}
use Rattle.perc_report_line.specs.declared.reasons.Refusal.{Refusal}
use Rattle.perc_report_line.specs.declared.reasons.Denial.{Denial}
use Rattle.perc_report_line.specs.declared.reasons.Loss.{Loss}
use Rattle.perc_report_line.specs.Reasons.{refusal_in, refusal_words, denial_in, denial_words, loss_in, loss_words}
use Rattle.perc_report_line.specs.declared.verb.Verb.{Verb}
use Rattle.perc_report_line.specs.declared.verb.Verb.TheVariants as verb
use Rattle.perc_report_line.specs.declared.verb.Way.{Way}
use Rattle.perc_report_line.specs.declared.verb.Way.TheVariants as way
use Rattle.perc_report_line.specs.Report as report
use Rattle.perc_report_line.specs.Report.{Report, Acceptance, IsReport, report_words, report_line, report_text, report_of, said_by, verb_in, verb_text, way_text, wired, refused}
use Rattle.perc_report_line.proofs.Sorts.{verb_kind, way_kind, two_kind, four_kind, payload_type_kind}
use Rattle.perc_report_line.proofs.Uuids.{uuid_kind}
use Rattle.perc_report_line.proofs.Causes.{refusal_back, refusal_again, refusal_free, denial_back, denial_again, denial_free, loss_back, loss_again, loss_free}

-- ---- from what is read to its words

-- These are the words of the line, and each field of it has a spelling.
abbrev Says : List (List ℕ) → Report → Type 0
Says words r = (words ≡ report_words r) × IsReport r

ekt_back : (words : List (List ℕ)) (r : Report) → report.ekt_in words ≡ Some r → Says (codes "ekt" ∷ words) r
unfolding report.ekt_in
ekt_back words r h =
    taken _ _ _ two_kind _ r (λ ws. Says (codes "ekt" ∷ ws) r) words h λ spi w1 f1 h1.
    ended _ r (λ ws y. Says (codes "ekt" ∷ decimal spi ∷ ws) y) w1 h1 (refl, f1)

joined_back : (words : List (List ℕ)) (r : Report) → report.joined_in words ≡ Some r → Says (codes "joined" ∷ words) r
unfolding report.joined_in
joined_back words r h =
    taken _ _ _ name_spelling _ r (λ ws. Says (codes "joined" ∷ ws) r) words h λ name w1 f1 h1.
    taken _ _ _ uuid_kind _ r (λ ws. Says (codes "joined" ∷ name ∷ ws) r) w1 h1 λ association w2 f2 h2.
    ended _ r (λ ws y. Says (codes "joined" ∷ name ∷ hyphenated_text lower association ∷ ws) y) w2 h2 (refl, (f1, f2))

left_back : (words : List (List ℕ)) (r : Report) → report.left_in words ≡ Some r → Says (codes "left" ∷ words) r
unfolding report.left_in
left_back words r h =
    taken _ _ _ name_spelling _ r (λ ws. Says (codes "left" ∷ ws) r) words h λ name w1 f1 h1.
    ended _ r (λ ws y. Says (codes "left" ∷ name ∷ ws) y) w1 h1 (refl, f1)

granted_back : (words : List (List ℕ)) (r : Report) → report.granted_in words ≡ Some r → Says (codes "granted" ∷ words) r
unfolding report.granted_in
granted_back words r h =
    taken _ _ _ name_spelling _ r (λ ws. Says (codes "granted" ∷ ws) r) words h λ name w1 f1 h1.
    taken _ _ _ two_kind _ r (λ ws. Says (codes "granted" ∷ name ∷ ws) r) w1 h1 λ spi w2 f2 h2.
    ended _ r (λ ws y. Says (codes "granted" ∷ name ∷ decimal spi ∷ ws) y) w2 h2 (refl, (f1, f2))

denied_back : (words : List (List ℕ)) (r : Report) → report.denied_in words ≡ Some r → Says (codes "denied" ∷ words) r
unfolding report.denied_in
denied_back words r h =
    taken _ _ _ name_spelling _ r (λ ws. Says (codes "denied" ∷ ws) r) words h λ name w1 f1 h1.
    let reason = bind_some (denial_in w1) _ r h1 in
    let back = denial_back w1 reason.0 reason.1 in
    subst (Says (codes "denied" ∷ name ∷ w1)) (same_Some _ r reason.2) (ap (λ ws. codes "denied" ∷ name ∷ ws) back.0, (f1, back.1))

rekeyed_back : (words : List (List ℕ)) (r : Report) → report.rekeyed_in words ≡ Some r → Says (codes "rekeyed" ∷ words) r
unfolding report.rekeyed_in
rekeyed_back words r h =
    taken _ _ _ name_spelling _ r (λ ws. Says (codes "rekeyed" ∷ ws) r) words h λ name w1 f1 h1.
    taken _ _ _ two_kind _ r (λ ws. Says (codes "rekeyed" ∷ name ∷ ws) r) w1 h1 λ spi w2 f2 h2.
    taken _ _ _ two_kind _ r (λ ws. Says (codes "rekeyed" ∷ name ∷ decimal spi ∷ ws) r) w2 h2 λ epoch w3 f3 h3.
    ended _ r (λ ws y. Says (codes "rekeyed" ∷ name ∷ decimal spi ∷ decimal epoch ∷ ws) y) w3 h3 (refl, (f1, f2, f3))

wired_back : (datagram : ℕ) (w : Way) (words : List (List ℕ)) (r : Report) → datagram ≤ most_of_four → wired datagram w words ≡ Some r → Says (codes "wire" ∷ decimal datagram ∷ way_text w ∷ words) r
wired_back datagram way.Up words r f h =
    let front : List (List ℕ) → List (List ℕ) = λ ws. codes "wire" ∷ decimal datagram ∷ codes "up" ∷ ws in
    taken _ _ _ name_spelling _ r (λ ws. Says (front ws) r) words h λ name w1 f1 h1.
    taken _ _ _ octets_spelling _ r (λ ws. Says (front (name ∷ ws)) r) w1 h1 λ octets w2 f2 h2.
    ended _ r (λ ws y. Says (front (name ∷ encode_lower octets ∷ ws)) y) w2 h2 (refl, (f, f1, f2))
wired_back datagram way.Made words r f h =
    let front : List (List ℕ) → List (List ℕ) = λ ws. codes "wire" ∷ decimal datagram ∷ codes "made" ∷ ws in
    taken _ _ _ octets_spelling _ r (λ ws. Says (front ws) r) words h λ octets w1 f1 h1.
    ended _ r (λ ws y. Says (front (encode_lower octets ∷ ws)) y) w1 h1 (refl, (f, f1))
wired_back datagram way.Reseal words r f h =
    let front : List (List ℕ) → List (List ℕ) = λ ws. codes "wire" ∷ decimal datagram ∷ codes "reseal" ∷ ws in
    taken _ _ _ name_spelling _ r (λ ws. Says (front ws) r) words h λ name w1 f1 h1.
    taken _ _ _ octets_spelling _ r (λ ws. Says (front (name ∷ ws)) r) w1 h1 λ octets w2 f2 h2.
    ended _ r (λ ws y. Says (front (name ∷ encode_lower octets ∷ ws)) y) w2 h2 (refl, (f, f1, f2))
wired_back datagram way.Down words r f h =
    let front : List (List ℕ) → List (List ℕ) = λ ws. codes "wire" ∷ decimal datagram ∷ codes "down" ∷ ws in
    taken _ _ _ name_spelling _ r (λ ws. Says (front ws) r) words h λ name w1 f1 h1.
    taken _ _ _ octets_spelling _ r (λ ws. Says (front (name ∷ ws)) r) w1 h1 λ octets w2 f2 h2.
    ended _ r (λ ws y. Says (front (name ∷ encode_lower octets ∷ ws)) y) w2 h2 (refl, (f, f1, f2))

wire_back : (words : List (List ℕ)) (r : Report) → report.wire_in words ≡ Some r → Says (codes "wire" ∷ words) r
unfolding report.wire_in
wire_back words r h =
    taken _ _ _ four_kind _ r (λ ws. Says (codes "wire" ∷ ws) r) words h λ datagram w1 f1 h1.
    taken _ _ _ way_kind _ r (λ ws. Says (codes "wire" ∷ decimal datagram ∷ ws) r) w1 h1 λ w w2 f2 h2.
    wired_back datagram w w2 r f1 h2

drop_back : (words : List (List ℕ)) (r : Report) → report.drop_in words ≡ Some r → Says (codes "drop" ∷ words) r
unfolding report.drop_in
drop_back words r h =
    taken _ _ _ four_kind _ r (λ ws. Says (codes "drop" ∷ ws) r) words h λ datagram w1 f1 h1.
    taken _ _ _ name_spelling _ r (λ ws. Says (codes "drop" ∷ decimal datagram ∷ ws) r) w1 h1 λ name w2 f2 h2.
    let reason = bind_some (loss_in w2) _ r h2 in
    let back = loss_back w2 reason.0 reason.1 in
    subst (Says (codes "drop" ∷ decimal datagram ∷ name ∷ w2)) (same_Some _ r reason.2) (ap (λ ws. codes "drop" ∷ decimal datagram ∷ name ∷ ws) back.0, (f1, f2, back.1))

refused_back : (datagram : ℕ) (words : List (List ℕ)) (r : Report) → datagram ≤ most_of_four → refused datagram words ≡ Some r → Says (codes "refuse" ∷ decimal datagram ∷ words) r
refused_back datagram [] r f h = cc h
refused_back datagram (word ∷ rest) r f h =
    let media : Option Report = option_and_then (λ reason. Some (report.RefuseMedia datagram reason)) (refusal_in rest) in
    let named : Option Report = option_and_then (λ name. option_and_then (λ reason. Some (report.Refuse datagram name reason)) (refusal_in rest)) (name_in word) in
    elim (chosen (bytes_eq word (codes "media")) media named (Some r) h) [
      | inl at ↦
          let reason = bind_some (refusal_in rest) _ r at.1 in
          let back = refusal_back rest reason.0 reason.1 in
          subst (λ w. Says (codes "refuse" ∷ decimal datagram ∷ w ∷ rest) r) (sym (same word (codes "media") at.0))
          (subst (Says (codes "refuse" ∷ decimal datagram ∷ codes "media" ∷ rest)) (same_Some _ r reason.2) (ap (λ ws. codes "refuse" ∷ decimal datagram ∷ codes "media" ∷ ws) back.0, (f, back.1)))
      | inr other ↦
          let name = bind_some (name_in word) _ r other.1 in
          let is = name_spelling.back word name.0 name.1 in
          let reason = bind_some (refusal_in rest) _ r name.2 in
          let back = refusal_back rest reason.0 reason.1 in
          subst (λ w. Says (codes "refuse" ∷ decimal datagram ∷ w ∷ rest) r) (sym is.0)
          (subst (Says (codes "refuse" ∷ decimal datagram ∷ name.0 ∷ rest)) (same_Some _ r reason.2) (ap (λ ws. codes "refuse" ∷ decimal datagram ∷ name.0 ∷ ws) back.0, (f, is.1, back.1)))
    ]

refuse_back : (words : List (List ℕ)) (r : Report) → report.refuse_in words ≡ Some r → Says (codes "refuse" ∷ words) r
unfolding report.refuse_in
refuse_back words r h =
    taken _ _ _ four_kind _ r (λ ws. Says (codes "refuse" ∷ ws) r) words h λ datagram w1 f1 h1.
    refused_back datagram w1 r f1 h1

accept_back : (words : List (List ℕ)) (r : Report) → report.accept_in words ≡ Some r → Says (codes "accept" ∷ words) r
unfolding report.accept_in
accept_back words r h =
    taken _ _ _ four_kind _ r (λ ws. Says (codes "accept" ∷ ws) r) words h λ datagram w1 f1 h1.
    taken _ _ _ name_spelling _ r (λ ws. Says (codes "accept" ∷ decimal datagram ∷ ws) r) w1 h1 λ name w2 f2 h2.
    taken _ _ _ name_spelling _ r (λ ws. Says (codes "accept" ∷ decimal datagram ∷ name ∷ ws) r) w2 h2 λ sender w3 f3 h3.
    taken _ _ _ four_kind _ r (λ ws. Says (codes "accept" ∷ decimal datagram ∷ name ∷ sender ∷ ws) r) w3 h3 λ sent w4 f4 h4.
    let front : List (List ℕ) → List (List ℕ) = λ ws. codes "accept" ∷ decimal datagram ∷ name ∷ sender ∷ decimal sent ∷ ws in
    taken _ _ _ payload_type_kind _ r (λ ws. Says (front ws) r) w4 h4 λ pt w5 f5 h5.
    taken _ _ _ two_kind _ r (λ ws. Says (front (decimal pt ∷ ws)) r) w5 h5 λ seq w6 f6 h6.
    taken _ _ _ marker_spelling _ r (λ ws. Says (front (decimal pt ∷ decimal seq ∷ ws)) r) w6 h6 λ marker w7 f7 h7.
    taken _ _ _ four_kind _ r (λ ws. Says (front (decimal pt ∷ decimal seq ∷ marker_text marker ∷ ws)) r) w7 h7 λ timestamp w8 f8 h8.
    taken _ _ _ payload_spelling _ r (λ ws. Says (front (decimal pt ∷ decimal seq ∷ marker_text marker ∷ decimal timestamp ∷ ws)) r) w8 h8 λ payload w9 f9 h9.
    ended _ r (λ ws y. Says (front (decimal pt ∷ decimal seq ∷ marker_text marker ∷ decimal timestamp ∷ payload_text payload ∷ ws)) y) w9 h9
    (refl, record { datagram = f1; name = f2; sender = f3; sent = f4; pt = f5; seq = f6; timestamp = f8; payload = f9 })

rtcp_back : (words : List (List ℕ)) (r : Report) → report.rtcp_in words ≡ Some r → Says (codes "rtcp" ∷ words) r
unfolding report.rtcp_in
rtcp_back words r h =
    taken _ _ _ four_kind _ r (λ ws. Says (codes "rtcp" ∷ ws) r) words h λ datagram w1 f1 h1.
    taken _ _ _ name_spelling _ r (λ ws. Says (codes "rtcp" ∷ decimal datagram ∷ ws) r) w1 h1 λ name w2 f2 h2.
    taken _ _ _ octets_spelling _ r (λ ws. Says (codes "rtcp" ∷ decimal datagram ∷ name ∷ ws) r) w2 h2 λ octets w3 f3 h3.
    ended _ r (λ ws y. Says (codes "rtcp" ∷ decimal datagram ∷ name ∷ encode_lower octets ∷ ws) y) w3 h3 (refl, (f1, f2, f3))

said_back : (v : Verb) (words : List (List ℕ)) (r : Report) → said_by v words ≡ Some r → Says (verb_text v ∷ words) r
said_back verb.Ekt words r h = ekt_back words r h
said_back verb.Joined words r h = joined_back words r h
said_back verb.Left words r h = left_back words r h
said_back verb.Granted words r h = granted_back words r h
said_back verb.Denied words r h = denied_back words r h
said_back verb.Rekeyed words r h = rekeyed_back words r h
said_back verb.Wire words r h = wire_back words r h
said_back verb.Drop words r h = drop_back words r h
said_back verb.Refuse words r h = refuse_back words r h
said_back verb.Accept words r h = accept_back words r h
said_back verb.Rtcp words r h = rtcp_back words r h

pub report_back : (line : List ℕ) (r : Report) → report_of line ≡ Some r → (line ≡ report_line r) × IsReport r
unfolding report_of
report_back line r h =
    let says = taken _ _ _ verb_kind _ r (λ ws. Says ws r) (words_of line) h (λ v rest f h2. said_back v rest r h2) in
    (parts-joined 32 line (report_words r) says.0, says.1)

-- ---- from words to what is read

by_words : (line : List ℕ) (v : Verb) (words : List (List ℕ)) (r : Report) → words_of line ≡ verb_text v ∷ words → said_by v words ≡ Some r → report_of line ≡ Some r
unfolding report_of
by_words line v words r e said = rw e (again_taken _ _ _ verb_kind _ v words tt ∙ said)

read_again : (v : Verb) (words : List (List ℕ)) (r : Report) → list_all (is_free 32) words ≡ true → said_by v words ≡ Some r → report_of (join_with_byte 32 (verb_text v ∷ words)) ≡ Some r
read_again v words r free said = by_words _ v words r (parts-again 32 (verb_text v) words (and_from _ _ (verb_kind.free v tt) free)) said

ekt_told : (spi : ℕ) → IsReport (report.Ekt spi) → report.ekt_in (decimal spi ∷ []) ≡ Some (report.Ekt spi)
unfolding report.ekt_in
ekt_told spi f = again_taken _ _ _ two_kind _ spi _ f

joined_told : (name association : List ℕ) → IsReport (report.Joined name association) → report.joined_in (name ∷ hyphenated_text lower association ∷ []) ≡ Some (report.Joined name association)
unfolding report.joined_in
joined_told name association f = again_taken _ _ _ name_spelling _ name _ f.0 ∙ again_taken _ _ _ uuid_kind _ association _ f.1

left_told : (name : List ℕ) → IsReport (report.Left name) → report.left_in (name ∷ []) ≡ Some (report.Left name)
unfolding report.left_in
left_told name f = again_taken _ _ _ name_spelling _ name _ f

granted_told : (name : List ℕ) (spi : ℕ) → IsReport (report.Granted name spi) → report.granted_in (name ∷ decimal spi ∷ []) ≡ Some (report.Granted name spi)
unfolding report.granted_in
granted_told name spi f = again_taken _ _ _ name_spelling _ name _ f.0 ∙ again_taken _ _ _ two_kind _ spi _ f.1

denied_told : (name : List ℕ) (reason : Denial) → IsReport (report.Denied name reason) → report.denied_in (name ∷ denial_words reason) ≡ Some (report.Denied name reason)
unfolding report.denied_in
denied_told name reason f = again_taken _ _ _ name_spelling _ name _ f.0 ∙ rw (denial_again reason f.1) refl

rekeyed_told : (name : List ℕ) (spi epoch : ℕ) → IsReport (report.Rekeyed name spi epoch) → report.rekeyed_in (name ∷ decimal spi ∷ decimal epoch ∷ []) ≡ Some (report.Rekeyed name spi epoch)
unfolding report.rekeyed_in
rekeyed_told name spi epoch f = again_taken _ _ _ name_spelling _ name _ f.0 ∙ again_taken _ _ _ two_kind _ spi _ f.1 ∙ again_taken _ _ _ two_kind _ epoch _ f.2

wire_told : (datagram : ℕ) (w : Way) (words : List (List ℕ)) (r : Report) → datagram ≤ most_of_four → wired datagram w words ≡ Some r → report.wire_in (decimal datagram ∷ way_text w ∷ words) ≡ Some r
unfolding report.wire_in
wire_told datagram w words r f h = again_taken _ _ _ four_kind _ datagram _ f ∙ again_taken _ _ _ way_kind _ w _ tt ∙ h

up_told : (datagram : ℕ) (name octets : List ℕ) → IsName name → AreSomeOctets octets → wired datagram way.Up (name ∷ encode_lower octets ∷ []) ≡ Some (report.WireUp datagram name octets)
up_told datagram name octets f g = again_taken _ _ _ name_spelling _ name _ f ∙ again_taken _ _ _ octets_spelling _ octets _ g

made_told : (datagram : ℕ) (octets : List ℕ) → AreSomeOctets octets → wired datagram way.Made (encode_lower octets ∷ []) ≡ Some (report.WireMade datagram octets)
made_told datagram octets g = again_taken _ _ _ octets_spelling _ octets _ g

reseal_told : (datagram : ℕ) (name octets : List ℕ) → IsName name → AreSomeOctets octets → wired datagram way.Reseal (name ∷ encode_lower octets ∷ []) ≡ Some (report.WireReseal datagram name octets)
reseal_told datagram name octets f g = again_taken _ _ _ name_spelling _ name _ f ∙ again_taken _ _ _ octets_spelling _ octets _ g

down_told : (datagram : ℕ) (name octets : List ℕ) → IsName name → AreSomeOctets octets → wired datagram way.Down (name ∷ encode_lower octets ∷ []) ≡ Some (report.WireDown datagram name octets)
down_told datagram name octets f g = again_taken _ _ _ name_spelling _ name _ f ∙ again_taken _ _ _ octets_spelling _ octets _ g

drop_told : (datagram : ℕ) (name : List ℕ) (reason : Loss) → IsReport (report.Dropped datagram name reason)
    → report.drop_in (decimal datagram ∷ name ∷ loss_words reason) ≡ Some (report.Dropped datagram name reason)
unfolding report.drop_in
drop_told datagram name reason f = again_taken _ _ _ four_kind _ datagram _ f.0 ∙ again_taken _ _ _ name_spelling _ name _ f.1 ∙ rw (loss_again reason f.2) refl

media_told : (datagram : ℕ) (reason : Refusal) → IsReport (report.RefuseMedia datagram reason)
    → report.refuse_in (decimal datagram ∷ codes "media" ∷ refusal_words reason) ≡ Some (report.RefuseMedia datagram reason)
unfolding report.refuse_in
media_told datagram reason f = again_taken _ _ _ four_kind _ datagram _ f.0 ∙ rw (refusal_again reason f.1) refl

-- a name isn't `media`
no_media : (name : List ℕ) → IsName name → bytes_eq name (codes "media") ≡ false
no_media name h = false_from_ne_true _ (λ t. both_ways (is_name (codes "media")) refl (sym (ap is_name (same name (codes "media") t)) ∙ h))

refuse_told : (datagram : ℕ) (name : List ℕ) (reason : Refusal) → IsReport (report.Refuse datagram name reason)
    → report.refuse_in (decimal datagram ∷ name ∷ refusal_words reason) ≡ Some (report.Refuse datagram name reason)
unfolding report.refuse_in
refuse_told datagram name reason f = again_taken _ _ _ four_kind _ datagram _ f.0 ∙ rw (no_media name f.1, f.1, refusal_again reason f.2) refl

accept_told : (a : Acceptance) → IsReport (report.Accept a)
    → report.accept_in (decimal a.datagram ∷ a.name ∷ a.sender ∷ decimal a.sent ∷ decimal a.pt ∷ decimal a.seq ∷ marker_text a.marker ∷ decimal a.timestamp ∷ payload_text a.payload ∷ []) ≡ Some (report.Accept a)
unfolding report.accept_in
accept_told a f =
    again_taken _ _ _ four_kind _ a.datagram _ f.datagram ∙ again_taken _ _ _ name_spelling _ a.name _ f.name ∙ again_taken _ _ _ name_spelling _ a.sender _ f.sender
    ∙ again_taken _ _ _ four_kind _ a.sent _ f.sent ∙ again_taken _ _ _ payload_type_kind _ a.pt _ f.pt ∙ again_taken _ _ _ two_kind _ a.seq _ f.seq
    ∙ again_taken _ _ _ marker_spelling _ a.marker _ tt ∙ again_taken _ _ _ four_kind _ a.timestamp _ f.timestamp ∙ again_taken _ _ _ payload_spelling _ a.payload _ f.payload

rtcp_told : (datagram : ℕ) (name octets : List ℕ) → IsReport (report.Rtcp datagram name octets)
    → report.rtcp_in (decimal datagram ∷ name ∷ encode_lower octets ∷ []) ≡ Some (report.Rtcp datagram name octets)
unfolding report.rtcp_in
rtcp_told datagram name octets f = again_taken _ _ _ four_kind _ datagram _ f.0 ∙ again_taken _ _ _ name_spelling _ name _ f.1 ∙ again_taken _ _ _ octets_spelling _ octets _ f.2

pub report_told : (r : Report) → IsReport r → report_of (report_line r) ≡ Some r
report_told (report.Ekt spi) f = read_again verb.Ekt _ _ (and_from _ _ (two_kind.free spi f) refl) (ekt_told spi f)
report_told (report.Joined name association) f = read_again verb.Joined _ _ (and_from _ _ (name_spelling.free name f.0) (and_from _ _ (uuid_kind.free association f.1) refl)) (joined_told name association f)
report_told (report.Left name) f = read_again verb.Left _ _ (and_from _ _ (name_spelling.free name f) refl) (left_told name f)
report_told (report.Granted name spi) f = read_again verb.Granted _ _ (and_from _ _ (name_spelling.free name f.0) (and_from _ _ (two_kind.free spi f.1) refl)) (granted_told name spi f)
report_told (report.Denied name reason) f = read_again verb.Denied _ _ (and_from _ _ (name_spelling.free name f.0) (denial_free reason f.1)) (denied_told name reason f)
report_told (report.Rekeyed name spi epoch) f =
    read_again verb.Rekeyed _ _ (and_from _ _ (name_spelling.free name f.0) (and_from _ _ (two_kind.free spi f.1) (and_from _ _ (two_kind.free epoch f.2) refl))) (rekeyed_told name spi epoch f)
report_told (report.WireUp datagram name octets) f =
    read_again verb.Wire _ _ (and_from _ _ (four_kind.free datagram f.0) (and_from _ _ refl (and_from _ _ (name_spelling.free name f.1) (and_from _ _ (octets_spelling.free octets f.2) refl))))
    (wire_told datagram way.Up (name ∷ encode_lower octets ∷ []) _ f.0 (up_told datagram name octets f.1 f.2))
report_told (report.WireMade datagram octets) f =
    read_again verb.Wire _ _ (and_from _ _ (four_kind.free datagram f.0) (and_from _ _ refl (and_from _ _ (octets_spelling.free octets f.1) refl)))
    (wire_told datagram way.Made (encode_lower octets ∷ []) _ f.0 (made_told datagram octets f.1))
report_told (report.WireReseal datagram name octets) f =
    read_again verb.Wire _ _ (and_from _ _ (four_kind.free datagram f.0) (and_from _ _ refl (and_from _ _ (name_spelling.free name f.1) (and_from _ _ (octets_spelling.free octets f.2) refl))))
    (wire_told datagram way.Reseal (name ∷ encode_lower octets ∷ []) _ f.0 (reseal_told datagram name octets f.1 f.2))
report_told (report.WireDown datagram name octets) f =
    read_again verb.Wire _ _ (and_from _ _ (four_kind.free datagram f.0) (and_from _ _ refl (and_from _ _ (name_spelling.free name f.1) (and_from _ _ (octets_spelling.free octets f.2) refl))))
    (wire_told datagram way.Down (name ∷ encode_lower octets ∷ []) _ f.0 (down_told datagram name octets f.1 f.2))
report_told (report.Dropped datagram name reason) f =
    read_again verb.Drop _ _ (and_from _ _ (four_kind.free datagram f.0) (and_from _ _ (name_spelling.free name f.1) (loss_free reason f.2))) (drop_told datagram name reason f)
report_told (report.RefuseMedia datagram reason) f =
    read_again verb.Refuse _ _ (and_from _ _ (four_kind.free datagram f.0) (and_from _ _ refl (refusal_free reason f.1))) (media_told datagram reason f)
report_told (report.Accept a) f =
    read_again verb.Accept _ _
    (and_from _ _ (four_kind.free a.datagram f.datagram)
    (and_from _ _ (name_spelling.free a.name f.name)
    (and_from _ _ (name_spelling.free a.sender f.sender)
    (and_from _ _ (four_kind.free a.sent f.sent)
    (and_from _ _ (payload_type_kind.free a.pt f.pt)
    (and_from _ _ (two_kind.free a.seq f.seq)
    (and_from _ _ (marker_spelling.free a.marker tt) (and_from _ _ (four_kind.free a.timestamp f.timestamp) (and_from _ _ (payload_spelling.free a.payload f.payload) refl)))))))))
    (accept_told a f)
report_told (report.Rtcp datagram name octets) f =
    read_again verb.Rtcp _ _ (and_from _ _ (four_kind.free datagram f.0) (and_from _ _ (name_spelling.free name f.1) (and_from _ _ (octets_spelling.free octets f.2) refl))) (rtcp_told datagram name octets f)
report_told (report.Refuse datagram name reason) f =
    read_again verb.Refuse _ _ (and_from _ _ (four_kind.free datagram f.0) (and_from _ _ (name_spelling.free name f.1) (refusal_free reason f.2))) (refuse_told datagram name reason f)

-- ---- with line feeds

-- what stands in front of the same last octet is the same
same_front : (xs ys : List ℕ) → xs ++ 10 ∷ [] ≡ ys ++ 10 ∷ [] → xs ≡ ys
same_front xs ys e =
    let len : length xs + 1 ≡ length ys + 1 = sym (length-append xs (10 ∷ [])) ∙ ap length e ∙ length-append ys (10 ∷ []) in
    sym (take_at xs (10 ∷ []) (length xs) refl) ∙ ap (take (length xs)) e ∙ take_at ys (10 ∷ []) (length xs) (omega arith)

pub text_told : (r : Report) (line : List ℕ) → IsReport r → report_text r ≡ line ++ 10 ∷ [] → report_of line ≡ Some r
unfolding report_text
text_told r line f e = ap report_of (sym (same_front (report_line r) line e)) ∙ report_told r f

pub texts_apart : (a b : Report) → IsReport a → IsReport b → report_text a ≡ report_text b → a ≡ b
unfolding report_text
texts_apart a b f g e = same_Some a b (sym (report_told a f) ∙ ap report_of (same_front (report_line a) (report_line b) e) ∙ report_told b g)
