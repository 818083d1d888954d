-- What a line says within its bounds is read from its spelling.
use Rattle.std.proofs.Common.{◌≡◌, ℕ, Bool, true, false, List, [], ◌∷◌, Option, Some, refl, ap, ◌∙◌}
use Rattle.std.specs.Prelude.{codes}
use Rattle.std.specs.List.{list_all, join_with_byte}
use Rattle.std.specs.Fmt.{decimal}
use Rattle.std.proofs.lemmas.Bool.{and_from}
use Rattle.hex.specs.Hex.{encode_lower}
use Rattle.perc_base.specs.declared.profile.Profile.{Profile}
use Rattle.perc_word.specs.Word.{words_of, option_words, list_text, name_text, ssrc_text, marker_text, payload_text}
use Rattle.perc_word.proofs.Split.{is_free, parts-again}
use Rattle.perc_word.proofs.Spelling.{name_spelling, octets_spelling, ssrc_spelling, marker_spelling, payload_spelling}
use Rattle.perc_word.proofs.Taking.{again_taken, option_again, option_free, lacks_option}
use Rattle.perc_script_line.specs.declared.verb.Verb.{Verb}
use Rattle.perc_script_line.specs.declared.verb.Verb.TheVariants as verb
use Rattle.perc_script_line.specs.Script as script
use Rattle.perc_script_line.specs.Script.{Script, Options, Changes, IsScript, Spells, options_words, changes_words, means_nothing, verb_text, said_by, script_of, most_recipients}
use Rattle.perc_script_line.proofs.Sorts.{verb_kind, profile_kind, two_kind, four_kind, payload_type_kind, key_kind, pair_kind, salt_kind, rtcp_kind, datagram_kind, datagrams_kind, names_kind}
use Rattle.perc_script_line.proofs.Several.{options_again, options_free, changes_again, changes_free, Lacks}

-- a line is read by its words
by_words : (octets : List ℕ) (v : Verb) (words : List (List ℕ)) (s : Script) → means_nothing octets ≡ false
    → words_of octets ≡ verb_text v ∷ words → said_by v words ≡ Some s → script_of octets ≡ Some s
unfolding script_of
by_words octets v words s meant e said = rw (meant, e) (again_taken _ _ _ verb_kind _ v words tt ∙ said)

-- the words of a line, apart again
read_again : (octets : List ℕ) (v : Verb) (words : List (List ℕ)) (s : Script) → means_nothing (join_with_byte 32 (verb_text v ∷ words)) ≡ false
    → octets ≡ join_with_byte 32 (verb_text v ∷ words) → list_all (is_free 32) words ≡ true → said_by v words ≡ Some s → script_of octets ≡ Some s
read_again octets v words s meant e free said =
    by_words octets v words s (ap means_nothing e ∙ meant) (ap words_of e ∙ parts-again 32 (verb_text v) words (and_from _ _ (verb_kind.free v tt) free)) said

nothing_told : (octets : List ℕ) → means_nothing octets ≡ true → script_of octets ≡ Some script.Nothing
unfolding script_of
nothing_told octets h = rw h refl

conference_told : (profile : Profile) → script.conference_in (script.profile_text profile ∷ []) ≡ Some (script.Conference profile)
unfolding script.conference_in
conference_told profile = again_taken _ _ _ profile_kind _ profile [] tt

ekt_told : (key salt : List ℕ) → IsScript (script.Ekt key salt) → script.ekt_in (encode_lower key ∷ encode_lower salt ∷ []) ≡ Some (script.Ekt key salt)
unfolding script.ekt_in
ekt_told key salt f = again_taken _ _ _ key_kind _ key _ f.0 ∙ again_taken _ _ _ salt_kind _ salt _ f.1

join_told : (name : List ℕ) (ssrc seq : ℕ) (client server key : List ℕ) → IsScript (script.Join name ssrc seq client server key)
    → script.join_in (name ∷ ssrc_text ssrc ∷ decimal seq ∷ encode_lower client ∷ encode_lower server ∷ encode_lower key ∷ []) ≡ Some (script.Join name ssrc seq client server key)
unfolding script.join_in
join_told name ssrc seq client server key f =
    again_taken _ _ _ name_spelling _ name _ f.0 ∙ again_taken _ _ _ ssrc_spelling _ ssrc _ f.1 ∙ again_taken _ _ _ two_kind _ seq _ f.2
    ∙ again_taken _ _ _ pair_kind _ client _ f.3 ∙ again_taken _ _ _ pair_kind _ server _ f.4 ∙ again_taken _ _ _ key_kind _ key _ f.5

leave_told : (name : List ℕ) → IsScript (script.Leave name) → script.leave_in (name ∷ []) ≡ Some (script.Leave name)
unfolding script.leave_in
leave_told name f = again_taken _ _ _ name_spelling _ name _ f

grant_told : (name : List ℕ) (spi : ℕ) (key : List ℕ) → IsScript (script.Grant name spi key) → script.grant_in (name ∷ decimal spi ∷ encode_lower key ∷ []) ≡ Some (script.Grant name spi key)
unfolding script.grant_in
grant_told name spi key f = again_taken _ _ _ name_spelling _ name _ f.0 ∙ again_taken _ _ _ two_kind _ spi _ f.1 ∙ again_taken _ _ _ key_kind _ key _ f.2

rekey_told : (name key : List ℕ) → IsScript (script.Rekey name key) → script.rekey_in (name ∷ encode_lower key ∷ []) ≡ Some (script.Rekey name key)
unfolding script.rekey_in
rekey_told name key f = again_taken _ _ _ name_spelling _ name _ f.0 ∙ again_taken _ _ _ key_kind _ key _ f.1

sent_told : (name : List ℕ) (pt : ℕ) (marker : Bool) (timestamp : ℕ) (payload : List ℕ) (options : Options) → IsScript (script.Send name pt marker timestamp payload options)
    → script.sent name pt marker timestamp payload (options_words options []) ≡ Some (script.Send name pt marker timestamp payload options)
sent_told name pt marker timestamp payload options f = rw (options_again options [] f.4 refl refl refl, f.5) refl

send_told : (name : List ℕ) (pt : ℕ) (marker : Bool) (timestamp : ℕ) (payload : List ℕ) (options : Options) → IsScript (script.Send name pt marker timestamp payload options)
    → script.send_in (name ∷ decimal pt ∷ marker_text marker ∷ decimal timestamp ∷ payload_text payload ∷ options_words options []) ≡ Some (script.Send name pt marker timestamp payload options)
unfolding script.send_in
send_told name pt marker timestamp payload options f =
    again_taken _ _ _ name_spelling _ name _ f.0 ∙ again_taken _ _ _ payload_type_kind _ pt _ f.1 ∙ again_taken _ _ _ marker_spelling _ marker _ tt
    ∙ again_taken _ _ _ four_kind _ timestamp _ f.2 ∙ again_taken _ _ _ payload_spelling _ payload _ f.3 ∙ sent_told name pt marker timestamp payload options f

rtcp_told : (name octets : List ℕ) → IsScript (script.Rtcp name octets) → script.rtcp_in (name ∷ encode_lower octets ∷ []) ≡ Some (script.Rtcp name octets)
unfolding script.rtcp_in
rtcp_told name octets f = again_taken _ _ _ name_spelling _ name _ f.0 ∙ again_taken _ _ _ rtcp_kind _ octets _ f.1

inject_told : (octets : List ℕ) → IsScript (script.Inject octets) → script.inject_in (encode_lower octets ∷ []) ≡ Some (script.Inject octets)
unfolding script.inject_in
inject_told octets f = again_taken _ _ _ datagram_kind _ octets _ f

alter_told : (datagram offset : ℕ) (octets : List ℕ) → IsScript (script.Alter datagram offset octets)
    → script.alter_in (decimal datagram ∷ decimal offset ∷ encode_lower octets ∷ []) ≡ Some (script.Alter datagram offset octets)
unfolding script.alter_in
alter_told datagram offset octets f = again_taken _ _ _ four_kind _ datagram _ f.0 ∙ again_taken _ _ _ four_kind _ offset _ f.1 ∙ again_taken _ _ _ octets_spelling _ octets _ f.2

graft_told : (first front second back : ℕ) → IsScript (script.Graft first front second back)
    → script.graft_in (decimal first ∷ decimal front ∷ decimal second ∷ decimal back ∷ []) ≡ Some (script.Graft first front second back)
unfolding script.graft_in
graft_told first front second back f =
    again_taken _ _ _ four_kind _ first _ f.0 ∙ again_taken _ _ _ four_kind _ front _ f.1 ∙ again_taken _ _ _ four_kind _ second _ f.2 ∙ again_taken _ _ _ four_kind _ back _ f.3

none_lacks : Lacks []
none_lacks = record { pt = refl; shift = refl; marker = refl; extension = refl }

reseal_told : (datagram : ℕ) (name : List ℕ) (roc : ℕ) (changes : Changes) → IsScript (script.Reseal datagram name roc changes)
    → script.reseal_in (decimal datagram ∷ name ∷ decimal roc ∷ changes_words changes []) ≡ Some (script.Reseal datagram name roc changes)
unfolding script.reseal_in
reseal_told datagram name roc changes f =
    again_taken _ _ _ four_kind _ datagram _ f.0 ∙ again_taken _ _ _ name_spelling _ name _ f.1 ∙ again_taken _ _ _ four_kind _ roc _ f.2
    ∙ rw (changes_again changes [] f.3 none_lacks) refl

abbrev to_words : Option (List (List ℕ)) → List (List ℕ)
to_words recipients = option_words (codes "to=") (list_text name_text) recipients []

to_lacks : (recipients : Option (List (List ℕ))) → Lacks (to_words recipients)
to_lacks recipients = record {
  pt = lacks_option (codes "pt=") (codes "to=") (list_text name_text) recipients [] (λ xs. refl) refl;
  shift = lacks_option (codes "shift=") (codes "to=") (list_text name_text) recipients [] (λ xs. refl) refl;
  marker = lacks_option (codes "marker=") (codes "to=") (list_text name_text) recipients [] (λ xs. refl) refl;
  extension = lacks_option (codes "ext=") (codes "to=") (list_text name_text) recipients [] (λ xs. refl) refl;
}

forward_told : (name datagrams : List ℕ) (changes : Changes) (recipients : Option (List (List ℕ))) → IsScript (script.Forward name datagrams changes recipients)
    → script.forward_in (name ∷ list_text decimal datagrams ∷ changes_words changes (to_words recipients)) ≡ Some (script.Forward name datagrams changes recipients)
unfolding script.forward_in
forward_told name datagrams changes recipients f =
    again_taken _ _ _ name_spelling _ name _ f.0 ∙ again_taken _ _ _ datagrams_kind _ datagrams _ f.1
    ∙ rw (changes_again changes (to_words recipients) f.2 (to_lacks recipients)) (rw (option_again (codes "to=") _ _ _ names_kind recipients [] f.3 refl) refl)

deliver_told : (datagram : ℕ) (name : List ℕ) → IsScript (script.Deliver datagram name) → script.deliver_in (decimal datagram ∷ name ∷ []) ≡ Some (script.Deliver datagram name)
unfolding script.deliver_in
deliver_told datagram name f = again_taken _ _ _ four_kind _ datagram _ f.0 ∙ again_taken _ _ _ name_spelling _ name _ f.1

-- ---- all forms

pub script_told : (octets : List ℕ) (s : Script) → Spells octets s → IsScript s → script_of octets ≡ Some s
script_told octets script.Nothing h f = nothing_told octets h
script_told octets (script.Conference profile) h f = read_again octets verb.Conference _ _ refl h (and_from _ _ (profile_kind.free profile tt) refl) (conference_told profile)
script_told octets (script.Ekt key salt) h f = read_again octets verb.Ekt _ _ refl h (and_from _ _ (key_kind.free key f.0) (and_from _ _ (salt_kind.free salt f.1) refl)) (ekt_told key salt f)
script_told octets (script.Join name ssrc seq client server key) h f =
    read_again octets verb.Join _ _ refl h
    (and_from _ _ (name_spelling.free name f.0)
    (and_from _ _ (ssrc_spelling.free ssrc f.1)
    (and_from _ _ (two_kind.free seq f.2) (and_from _ _ (pair_kind.free client f.3) (and_from _ _ (pair_kind.free server f.4) (and_from _ _ (key_kind.free key f.5) refl))))))
    (join_told name ssrc seq client server key f)
script_told octets (script.Leave name) h f = read_again octets verb.Leave _ _ refl h (and_from _ _ (name_spelling.free name f) refl) (leave_told name f)
script_told octets (script.Grant name spi key) h f =
    read_again octets verb.Grant _ _ refl h (and_from _ _ (name_spelling.free name f.0) (and_from _ _ (two_kind.free spi f.1) (and_from _ _ (key_kind.free key f.2) refl))) (grant_told name spi key f)
script_told octets (script.Rekey name key) h f = read_again octets verb.Rekey _ _ refl h (and_from _ _ (name_spelling.free name f.0) (and_from _ _ (key_kind.free key f.1) refl)) (rekey_told name key f)
script_told octets (script.Send name pt marker timestamp payload options) h f =
    read_again octets verb.Send _ _ refl h
    (and_from _ _ (name_spelling.free name f.0)
    (and_from _ _ (payload_type_kind.free pt f.1)
    (and_from _ _ (marker_spelling.free marker tt) (and_from _ _ (four_kind.free timestamp f.2) (and_from _ _ (payload_spelling.free payload f.3) (options_free options [] f.4 refl))))))
    (send_told name pt marker timestamp payload options f)
script_told octets (script.Rtcp name packet) h f = read_again octets verb.Rtcp _ _ refl h (and_from _ _ (name_spelling.free name f.0) (and_from _ _ (rtcp_kind.free packet f.1) refl)) (rtcp_told name packet f)
script_told octets (script.Inject datagram) h f = read_again octets verb.Inject _ _ refl h (and_from _ _ (datagram_kind.free datagram f) refl) (inject_told datagram f)
script_told octets (script.Alter datagram offset written) h f =
    read_again octets verb.Alter _ _ refl h (and_from _ _ (four_kind.free datagram f.0) (and_from _ _ (four_kind.free offset f.1) (and_from _ _ (octets_spelling.free written f.2) refl))) (alter_told datagram offset written f)
script_told octets (script.Graft first front second back) h f =
    read_again octets verb.Graft _ _ refl h (and_from _ _ (four_kind.free first f.0) (and_from _ _ (four_kind.free front f.1) (and_from _ _ (four_kind.free second f.2) (and_from _ _ (four_kind.free back f.3) refl)))) (graft_told first front second back f)
script_told octets (script.Reseal datagram name roc changes) h f =
    read_again octets verb.Reseal _ _ refl h (and_from _ _ (four_kind.free datagram f.0) (and_from _ _ (name_spelling.free name f.1) (and_from _ _ (four_kind.free roc f.2) (changes_free changes [] f.3 refl)))) (reseal_told datagram name roc changes f)
script_told octets (script.Forward name datagrams changes recipients) h f =
    read_again octets verb.Forward _ _ refl h
    (and_from _ _ (name_spelling.free name f.0)
    (and_from _ _ (datagrams_kind.free datagrams f.1) (changes_free changes (to_words recipients) f.2 (option_free (codes "to=") _ _ _ names_kind recipients [] refl f.3 refl))))
    (forward_told name datagrams changes recipients f)
script_told octets (script.Deliver datagram name) h f =
    read_again octets verb.Deliver _ _ refl h (and_from _ _ (four_kind.free datagram f.0) (and_from _ _ (name_spelling.free name f.1) refl)) (deliver_told datagram name f)
