-- A line says what it spells, and nothing else.
use Rattle.std.proofs.Common.{◌≡◌, ℕ, ◌≤◌, Bool, true, false, cond, inl, inr, List, [], ◌∷◌, length, arith, Option, Some, None, refl, sym, subst}
use Rattle.std.specs.Prelude.{codes}
use Rattle.std.specs.Fmt.{decimal}
use Rattle.std.proofs.lemmas.Option.{same_Some}
use Rattle.hex.specs.Hex.{encode_lower}
use Rattle.perc_word.specs.Word.{words_of, word_then, ends, option_words, list_text, name_text, ssrc_text, marker_text, payload_text}
use Rattle.perc_word.proofs.Split.{parts-joined}
use Rattle.perc_word.proofs.Spelling.{bind_some, chosen, name_spelling, octets_spelling, ssrc_spelling, marker_spelling, payload_spelling}
use Rattle.perc_word.proofs.Items.{words-some}
use Rattle.perc_word.proofs.Taking.{taken, ended, option_taken}
use Rattle.perc_script_line.specs.declared.verb.Verb.{Verb}
use Rattle.perc_script_line.specs.declared.verb.Verb.TheVariants as verb
use Rattle.perc_script_line.specs.Script as script
use Rattle.perc_script_line.specs.Script.{Script, Options, AreOptions, Changes, AreChanges, IsScript, Spells, script_words, options_words, changes_words}
use Rattle.perc_script_line.specs.Script.{means_nothing, verb_in, verb_text, said_by, script_of, is_short, options_next, changes_next, profile_text, most_recipients}
use Rattle.perc_script_line.proofs.Sorts.{verb_kind, profile_kind, two_kind, four_kind, payload_type_kind, key_kind, pair_kind, salt_kind, rtcp_kind, datagram_kind, datagrams_kind, names_kind}
use Rattle.perc_script_line.proofs.Several.{options_back, changes_back}

-- ---- from what is read to its words

-- These are the words of the line, and its fields are in their bounds.
abbrev Says : List (List ℕ) → Script → Type 0
Says words s = (words ≡ script_words s) × IsScript s

conference_back : (words : List (List ℕ)) (s : Script) → script.conference_in words ≡ Some s → Says (codes "conference" ∷ words) s
unfolding script.conference_in
conference_back words s h =
    taken _ _ _ profile_kind _ s (λ ws. Says (codes "conference" ∷ ws) s) words h λ profile w1 f1 h1.
    ended _ s (λ ws y. Says (codes "conference" ∷ profile_text profile ∷ ws) y) w1 h1 (refl, tt)

ekt_back : (words : List (List ℕ)) (s : Script) → script.ekt_in words ≡ Some s → Says (codes "ekt" ∷ words) s
unfolding script.ekt_in
ekt_back words s h =
    taken _ _ _ key_kind _ s (λ ws. Says (codes "ekt" ∷ ws) s) words h λ key w1 f1 h1.
    taken _ _ _ salt_kind _ s (λ ws. Says (codes "ekt" ∷ encode_lower key ∷ ws) s) w1 h1 λ salt w2 f2 h2.
    ended _ s (λ ws y. Says (codes "ekt" ∷ encode_lower key ∷ encode_lower salt ∷ ws) y) w2 h2 (refl, (f1, f2))

join_back : (words : List (List ℕ)) (s : Script) → script.join_in words ≡ Some s → Says (codes "join" ∷ words) s
unfolding script.join_in
join_back words s h =
    taken _ _ _ name_spelling _ s (λ ws. Says (codes "join" ∷ ws) s) words h λ name w1 f1 h1.
    taken _ _ _ ssrc_spelling _ s (λ ws. Says (codes "join" ∷ name ∷ ws) s) w1 h1 λ ssrc w2 f2 h2.
    taken _ _ _ two_kind _ s (λ ws. Says (codes "join" ∷ name ∷ ssrc_text ssrc ∷ ws) s) w2 h2 λ seq w3 f3 h3.
    taken _ _ _ pair_kind _ s (λ ws. Says (codes "join" ∷ name ∷ ssrc_text ssrc ∷ decimal seq ∷ ws) s) w3 h3 λ client w4 f4 h4.
    taken _ _ _ pair_kind _ s (λ ws. Says (codes "join" ∷ name ∷ ssrc_text ssrc ∷ decimal seq ∷ encode_lower client ∷ ws) s) w4 h4 λ server w5 f5 h5.
    taken _ _ _ key_kind _ s (λ ws. Says (codes "join" ∷ name ∷ ssrc_text ssrc ∷ decimal seq ∷ encode_lower client ∷ encode_lower server ∷ ws) s) w5 h5 λ key w6 f6 h6.
    ended _ s (λ ws y. Says (codes "join" ∷ name ∷ ssrc_text ssrc ∷ decimal seq ∷ encode_lower client ∷ encode_lower server ∷ encode_lower key ∷ ws) y) w6 h6
    (refl, (f1, f2, f3, f4, f5, f6))

leave_back : (words : List (List ℕ)) (s : Script) → script.leave_in words ≡ Some s → Says (codes "leave" ∷ words) s
unfolding script.leave_in
leave_back words s h =
    taken _ _ _ name_spelling _ s (λ ws. Says (codes "leave" ∷ ws) s) words h λ name w1 f1 h1.
    ended _ s (λ ws y. Says (codes "leave" ∷ name ∷ ws) y) w1 h1 (refl, f1)

grant_back : (words : List (List ℕ)) (s : Script) → script.grant_in words ≡ Some s → Says (codes "grant" ∷ words) s
unfolding script.grant_in
grant_back words s h =
    taken _ _ _ name_spelling _ s (λ ws. Says (codes "grant" ∷ ws) s) words h λ name w1 f1 h1.
    taken _ _ _ two_kind _ s (λ ws. Says (codes "grant" ∷ name ∷ ws) s) w1 h1 λ spi w2 f2 h2.
    taken _ _ _ key_kind _ s (λ ws. Says (codes "grant" ∷ name ∷ decimal spi ∷ ws) s) w2 h2 λ key w3 f3 h3.
    ended _ s (λ ws y. Says (codes "grant" ∷ name ∷ decimal spi ∷ encode_lower key ∷ ws) y) w3 h3 (refl, (f1, f2, f3))

rekey_back : (words : List (List ℕ)) (s : Script) → script.rekey_in words ≡ Some s → Says (codes "rekey" ∷ words) s
unfolding script.rekey_in
rekey_back words s h =
    taken _ _ _ name_spelling _ s (λ ws. Says (codes "rekey" ∷ ws) s) words h λ name w1 f1 h1.
    taken _ _ _ key_kind _ s (λ ws. Says (codes "rekey" ∷ name ∷ ws) s) w1 h1 λ key w2 f2 h2.
    ended _ s (λ ws y. Says (codes "rekey" ∷ name ∷ encode_lower key ∷ ws) y) w2 h2 (refl, (f1, f2))

-- a test before what is said
tested : {A : Type 0} (b : Bool) (o : Option A) (y : A) → cond b o None ≡ Some y → (b ≡ true) × (o ≡ Some y)
tested true o y h = (refl, h)
tested false o y h = cc h

send_back : (words : List (List ℕ)) (s : Script) → script.send_in words ≡ Some s → Says (codes "send" ∷ words) s
unfolding script.send_in
send_back words s h =
    taken _ _ _ name_spelling _ s (λ ws. Says (codes "send" ∷ ws) s) words h λ name w1 f1 h1.
    taken _ _ _ payload_type_kind _ s (λ ws. Says (codes "send" ∷ name ∷ ws) s) w1 h1 λ pt w2 f2 h2.
    taken _ _ _ marker_spelling _ s (λ ws. Says (codes "send" ∷ name ∷ decimal pt ∷ ws) s) w2 h2 λ marker w3 f3 h3.
    taken _ _ _ four_kind _ s (λ ws. Says (codes "send" ∷ name ∷ decimal pt ∷ marker_text marker ∷ ws) s) w3 h3 λ timestamp w4 f4 h4.
    taken _ _ _ payload_spelling _ s (λ ws. Says (codes "send" ∷ name ∷ decimal pt ∷ marker_text marker ∷ decimal timestamp ∷ ws) s) w4 h4 λ payload w5 f5 h5.
    let front : List (List ℕ) → List (List ℕ) = λ ws. codes "send" ∷ name ∷ decimal pt ∷ marker_text marker ∷ decimal timestamp ∷ payload_text payload ∷ ws in
    let next = bind_some (options_next w5) _ s h5 in
    let back = options_back w5 next.0 next.1 in
    let short = tested (is_short payload next.0.0) (ends (script.Send name pt marker timestamp payload next.0.0) next.0.1) s next.2 in
    subst (λ ws. Says (front ws) s) (sym back.0)
    (ended _ s (λ ws y. Says (front (options_words next.0.0 ws)) y) next.0.1 short.1 (refl, (f1, f2, f4, f5, back.1, short.0)))

rtcp_back : (words : List (List ℕ)) (s : Script) → script.rtcp_in words ≡ Some s → Says (codes "rtcp" ∷ words) s
unfolding script.rtcp_in
rtcp_back words s h =
    taken _ _ _ name_spelling _ s (λ ws. Says (codes "rtcp" ∷ ws) s) words h λ name w1 f1 h1.
    taken _ _ _ rtcp_kind _ s (λ ws. Says (codes "rtcp" ∷ name ∷ ws) s) w1 h1 λ octets w2 f2 h2.
    ended _ s (λ ws y. Says (codes "rtcp" ∷ name ∷ encode_lower octets ∷ ws) y) w2 h2 (refl, (f1, f2))

inject_back : (words : List (List ℕ)) (s : Script) → script.inject_in words ≡ Some s → Says (codes "inject" ∷ words) s
unfolding script.inject_in
inject_back words s h =
    taken _ _ _ datagram_kind _ s (λ ws. Says (codes "inject" ∷ ws) s) words h λ octets w1 f1 h1.
    ended _ s (λ ws y. Says (codes "inject" ∷ encode_lower octets ∷ ws) y) w1 h1 (refl, f1)

alter_back : (words : List (List ℕ)) (s : Script) → script.alter_in words ≡ Some s → Says (codes "alter" ∷ words) s
unfolding script.alter_in
alter_back words s h =
    taken _ _ _ four_kind _ s (λ ws. Says (codes "alter" ∷ ws) s) words h λ datagram w1 f1 h1.
    taken _ _ _ four_kind _ s (λ ws. Says (codes "alter" ∷ decimal datagram ∷ ws) s) w1 h1 λ offset w2 f2 h2.
    taken _ _ _ octets_spelling _ s (λ ws. Says (codes "alter" ∷ decimal datagram ∷ decimal offset ∷ ws) s) w2 h2 λ octets w3 f3 h3.
    ended _ s (λ ws y. Says (codes "alter" ∷ decimal datagram ∷ decimal offset ∷ encode_lower octets ∷ ws) y) w3 h3 (refl, (f1, f2, f3))

graft_back : (words : List (List ℕ)) (s : Script) → script.graft_in words ≡ Some s → Says (codes "graft" ∷ words) s
unfolding script.graft_in
graft_back words s h =
    taken _ _ _ four_kind _ s (λ ws. Says (codes "graft" ∷ ws) s) words h λ first w1 f1 h1.
    taken _ _ _ four_kind _ s (λ ws. Says (codes "graft" ∷ decimal first ∷ ws) s) w1 h1 λ front w2 f2 h2.
    taken _ _ _ four_kind _ s (λ ws. Says (codes "graft" ∷ decimal first ∷ decimal front ∷ ws) s) w2 h2 λ second w3 f3 h3.
    taken _ _ _ four_kind _ s (λ ws. Says (codes "graft" ∷ decimal first ∷ decimal front ∷ decimal second ∷ ws) s) w3 h3 λ back w4 f4 h4.
    ended _ s (λ ws y. Says (codes "graft" ∷ decimal first ∷ decimal front ∷ decimal second ∷ decimal back ∷ ws) y) w4 h4 (refl, (f1, f2, f3, f4))

reseal_back : (words : List (List ℕ)) (s : Script) → script.reseal_in words ≡ Some s → Says (codes "reseal" ∷ words) s
unfolding script.reseal_in
reseal_back words s h =
    taken _ _ _ four_kind _ s (λ ws. Says (codes "reseal" ∷ ws) s) words h λ datagram w1 f1 h1.
    taken _ _ _ name_spelling _ s (λ ws. Says (codes "reseal" ∷ decimal datagram ∷ ws) s) w1 h1 λ name w2 f2 h2.
    taken _ _ _ four_kind _ s (λ ws. Says (codes "reseal" ∷ decimal datagram ∷ name ∷ ws) s) w2 h2 λ roc w3 f3 h3.
    let front : List (List ℕ) → List (List ℕ) = λ ws. codes "reseal" ∷ decimal datagram ∷ name ∷ decimal roc ∷ ws in
    let next = bind_some (changes_next w3) _ s h3 in
    let back = changes_back w3 next.0 next.1 in
    subst (λ ws. Says (front ws) s) (sym back.0) (ended _ s (λ ws y. Says (front (changes_words next.0.0 ws)) y) next.0.1 next.2 (refl, (f1, f2, f3, back.1)))

forward_back : (words : List (List ℕ)) (s : Script) → script.forward_in words ≡ Some s → Says (codes "forward" ∷ words) s
unfolding script.forward_in
forward_back words s h =
    taken _ _ _ name_spelling _ s (λ ws. Says (codes "forward" ∷ ws) s) words h λ name w1 f1 h1.
    taken _ _ _ datagrams_kind _ s (λ ws. Says (codes "forward" ∷ name ∷ ws) s) w1 h1 λ datagrams w2 f2 h2.
    let front : List (List ℕ) → List (List ℕ) = λ ws. codes "forward" ∷ name ∷ list_text decimal datagrams ∷ ws in
    let next = bind_some (changes_next w2) _ s h2 in
    let back = changes_back w2 next.0 next.1 in
    subst (λ ws. Says (front ws) s) (sym back.0)
    (option_taken (codes "to=") _ _ _ names_kind _ s (λ ws. Says (front (changes_words next.0.0 ws)) s) next.0.1 next.2 λ recipients w3 f3 h3.
    ended _ s (λ ws y. Says (front (changes_words next.0.0 (option_words (codes "to=") (list_text name_text) recipients ws))) y) w3 h3 (refl, (f1, f2, back.1, f3)))

deliver_back : (words : List (List ℕ)) (s : Script) → script.deliver_in words ≡ Some s → Says (codes "deliver" ∷ words) s
unfolding script.deliver_in
deliver_back words s h =
    taken _ _ _ four_kind _ s (λ ws. Says (codes "deliver" ∷ ws) s) words h λ datagram w1 f1 h1.
    taken _ _ _ name_spelling _ s (λ ws. Says (codes "deliver" ∷ decimal datagram ∷ ws) s) w1 h1 λ name w2 f2 h2.
    ended _ s (λ ws y. Says (codes "deliver" ∷ decimal datagram ∷ name ∷ ws) y) w2 h2 (refl, (f1, f2))

said_back : (v : Verb) (words : List (List ℕ)) (s : Script) → said_by v words ≡ Some s → Says (verb_text v ∷ words) s
said_back verb.Conference words s h = conference_back words s h
said_back verb.Ekt words s h = ekt_back words s h
said_back verb.Join words s h = join_back words s h
said_back verb.Leave words s h = leave_back words s h
said_back verb.Grant words s h = grant_back words s h
said_back verb.Rekey words s h = rekey_back words s h
said_back verb.Send words s h = send_back words s h
said_back verb.Rtcp words s h = rtcp_back words s h
said_back verb.Inject words s h = inject_back words s h
said_back verb.Alter words s h = alter_back words s h
said_back verb.Graft words s h = graft_back words s h
said_back verb.Reseal words s h = reseal_back words s h
said_back verb.Forward words s h = forward_back words s h
said_back verb.Deliver words s h = deliver_back words s h

-- a line with the words of what it says spells it
spells_by : (octets : List ℕ) (s : Script) → Says (words_of octets) s → Spells octets s × IsScript s
spells_by octets script.Nothing h = absurd (nonempty (words_of octets) (words-some octets) h.0)
  where
    nonempty : (words : List (List ℕ)) → 1 ≤ length words → words ≡ [] → ⊥
    nonempty [] some e = omega arith
    nonempty (word ∷ words) some e = cc e
spells_by octets (script.Conference profile) h = (parts-joined 32 octets _ h.0, h.1)
spells_by octets (script.Ekt key salt) h = (parts-joined 32 octets _ h.0, h.1)
spells_by octets (script.Join name ssrc seq client server key) h = (parts-joined 32 octets _ h.0, h.1)
spells_by octets (script.Leave name) h = (parts-joined 32 octets _ h.0, h.1)
spells_by octets (script.Grant name spi key) h = (parts-joined 32 octets _ h.0, h.1)
spells_by octets (script.Rekey name key) h = (parts-joined 32 octets _ h.0, h.1)
spells_by octets (script.Send name pt marker timestamp payload options) h = (parts-joined 32 octets _ h.0, h.1)
spells_by octets (script.Rtcp name packet) h = (parts-joined 32 octets _ h.0, h.1)
spells_by octets (script.Inject datagram) h = (parts-joined 32 octets _ h.0, h.1)
spells_by octets (script.Alter datagram offset written) h = (parts-joined 32 octets _ h.0, h.1)
spells_by octets (script.Graft first front second back) h = (parts-joined 32 octets _ h.0, h.1)
spells_by octets (script.Reseal datagram name roc changes) h = (parts-joined 32 octets _ h.0, h.1)
spells_by octets (script.Forward name datagrams changes recipients) h = (parts-joined 32 octets _ h.0, h.1)
spells_by octets (script.Deliver datagram name) h = (parts-joined 32 octets _ h.0, h.1)

pub script_back : (octets : List ℕ) (s : Script) → script_of octets ≡ Some s → Spells octets s × IsScript s
unfolding script_of
script_back octets s h =
    elim (chosen (means_nothing octets) (Some script.Nothing) (word_then verb_in said_by (words_of octets)) (Some s) h) [
      | inl nothing ↦ subst (λ y. Spells octets y × IsScript y) (same_Some _ _ nothing.1) (nothing.0, tt)
      | inr meant ↦ spells_by octets s (taken _ _ _ verb_kind _ s (λ ws. Says ws s) (words_of octets) meant.1 λ v rest f h2. said_back v rest s h2)
    ]
