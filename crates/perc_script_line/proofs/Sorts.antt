-- The kinds of words in lines of a script: what each says, and the one word that says it.
use Rattle.std.proofs.Common.{◌≡◌, ℕ, ◌≤◌, true, false, inl, inr, List, [], ◌∷◌, Option, Some, None, refl, sym, ap, ◌∙◌, subst, arith}
use Rattle.std.specs.Prelude.{codes, nat_le}
use Rattle.std.specs.List.{list_all}
use Rattle.std.specs.Option.{option_map}
use Rattle.std.specs.Str.{bytes_eq}
use Rattle.std.specs.Fmt.{decimal}
use Rattle.std.proofs.lemmas.Bool.{both_ways, false_from_ne_true}
use Rattle.std.proofs.lemmas.Option.{same_Some}
use Rattle.hex.specs.Hex.{encode_lower}
use Rattle.perc_base.specs.declared.profile.Profile.{Profile}
use Rattle.perc_base.specs.declared.profile.Profile.TheVariants.{Aes128, Aes256}
use Rattle.perc_rtp.specs.Media.{is_payload_type}
use Rattle.perc_word.specs.Word.{Also, AreSomeOctets, AreItems, IsName, name_text, number_in, most_of_two, most_of_four, ssrc_text, ssrcs_in, datagrams_in, names_in, payload_type_in, list_text}
use Rattle.perc_word.specs.Digits.{is_lower_digit}
use Rattle.perc_word.proofs.Split.{is_free}
use Rattle.perc_word.proofs.Spelled.{encode-lower}
use Rattle.perc_word.proofs.Spelling.{Spelling, chosen, same, bytes_from, only_spelling, text_spelling, name_spelling, name-no_comma, number_spelling, number-no_comma, octets_spelling, ssrc_spelling, ssrc-no_comma}
use Rattle.perc_word.proofs.Items.{list_spelling}
use Rattle.perc_script_line.specs.declared.verb.Verb.{Verb}
use Rattle.perc_script_line.specs.declared.verb.Verb.TheVariants as verb
use Rattle.perc_script_line.specs.Script.{Replaced, Dropped, By, IsReplaced, verbs, verb_in, verb_text, profile_in, profile_text, is_key, is_pair, is_salt, key_in, pair_in, salt_in, is_rtcp}
use Rattle.perc_script_line.specs.Script.{rtcp_octets_in, is_datagram, datagram_in, is_extension, extension_in, pad_in, most_csrcs, most_datagrams, most_recipients, replaced_in, replaced_text}

-- ---- texts

abbrev pub Any : {A : Type 0} → A → Type 0
Any x = Unit {0}

verb-again : (v : Verb) → Any v → verb_in (verb_text v) ≡ Some v
unfolding verb_in
verb-again verb.Conference h = refl
verb-again verb.Ekt h = refl
verb-again verb.Join h = refl
verb-again verb.Leave h = refl
verb-again verb.Grant h = refl
verb-again verb.Rekey h = refl
verb-again verb.Send h = refl
verb-again verb.Rtcp h = refl
verb-again verb.Inject h = refl
verb-again verb.Alter h = refl
verb-again verb.Graft h = refl
verb-again verb.Reseal h = refl
verb-again verb.Forward h = refl
verb-again verb.Deliver h = refl

verb-free : (v : Verb) → Any v → is_free 32 (verb_text v) ≡ true
verb-free verb.Conference h = refl
verb-free verb.Ekt h = refl
verb-free verb.Join h = refl
verb-free verb.Leave h = refl
verb-free verb.Grant h = refl
verb-free verb.Rekey h = refl
verb-free verb.Send h = refl
verb-free verb.Rtcp h = refl
verb-free verb.Inject h = refl
verb-free verb.Alter h = refl
verb-free verb.Graft h = refl
verb-free verb.Reseal h = refl
verb-free verb.Forward h = refl
verb-free verb.Deliver h = refl

pub verb_kind : Spelling verb_in verb_text Any
unfolding verb_in
verb_kind = text_spelling verb_text verbs Any (λ word v h. tt) verb-again verb-free

profile-again : (p : Profile) → Any p → profile_in (profile_text p) ≡ Some p
unfolding profile_in
profile-again Aes128 h = refl
profile-again Aes256 h = refl

profile-free : (p : Profile) → Any p → is_free 32 (profile_text p) ≡ true
profile-free Aes128 h = refl
profile-free Aes256 h = refl

pub profile_kind : Spelling profile_in profile_text Any
unfolding profile_in
profile_kind = text_spelling profile_text (Aes128 ∷ Aes256 ∷ []) Any (λ word p h. tt) profile-again profile-free

-- ---- numbers and octets

pub two_kind : Spelling (number_in most_of_two) decimal (λ n. n ≤ most_of_two)
two_kind = number_spelling most_of_two (omega arith)

pub four_kind : Spelling (number_in most_of_four) decimal (λ n. n ≤ most_of_four)
four_kind = number_spelling most_of_four (omega arith)

pub payload_type_kind : Spelling payload_type_in decimal (Also (λ n. n ≤ 127) is_payload_type)
payload_type_kind = only_spelling _ _ _ (number_spelling 127 (omega arith)) is_payload_type

pub key_kind : Spelling key_in encode_lower (Also AreSomeOctets is_key)
key_kind = only_spelling _ _ _ octets_spelling is_key

pub pair_kind : Spelling pair_in encode_lower (Also AreSomeOctets is_pair)
pair_kind = only_spelling _ _ _ octets_spelling is_pair

pub salt_kind : Spelling salt_in encode_lower (Also AreSomeOctets is_salt)
salt_kind = only_spelling _ _ _ octets_spelling is_salt

pub rtcp_kind : Spelling rtcp_octets_in encode_lower (Also AreSomeOctets is_rtcp)
rtcp_kind = only_spelling _ _ _ octets_spelling is_rtcp

pub datagram_kind : Spelling datagram_in encode_lower (Also AreSomeOctets is_datagram)
datagram_kind = only_spelling _ _ _ octets_spelling is_datagram

pub extension_kind : Spelling extension_in encode_lower (Also AreSomeOctets is_extension)
extension_kind = only_spelling _ _ _ octets_spelling is_extension

pub pad_kind : Spelling pad_in decimal (Also (λ n. n ≤ 255) (λ n. nat_le 1 n))
pad_kind = only_spelling _ _ _ (number_spelling 255 (omega arith)) (λ n. nat_le 1 n)

-- ---- lists

pub csrcs_kind : Spelling (ssrcs_in most_csrcs) (list_text ssrc_text) (AreItems most_csrcs (λ n. n ≤ most_of_four))
csrcs_kind = list_spelling _ _ _ ssrc_spelling (λ n h. ssrc-no_comma n) most_csrcs

pub datagrams_kind : Spelling (datagrams_in most_datagrams) (list_text decimal) (AreItems most_datagrams (λ n. n ≤ most_of_four))
datagrams_kind = list_spelling _ _ _ four_kind (λ n h. number-no_comma n (omega arith)) most_datagrams

pub names_kind : Spelling (names_in most_recipients) (list_text name_text) (AreItems most_recipients IsName)
names_kind = list_spelling _ _ _ name_spelling name-no_comma most_recipients

-- ---- what becomes of an extension

by_some : (o : Option (List ℕ)) (r : Replaced) → option_map By o ≡ Some r → (x : List ℕ) × (o ≡ Some x) × (By x ≡ r)
by_some (Some x) r h = (x, refl, same_Some (By x) r h)
by_some None r h = cc h

abbrev Back : List ℕ → Replaced → Type 0
Back word r = (word ≡ replaced_text r) × IsReplaced r

replaced-back : (word : List ℕ) (r : Replaced) → replaced_in word ≡ Some r → Back word r
replaced-back word r h =
    elim (chosen (bytes_eq word (codes "drop")) (Some Dropped) (option_map By (extension_in word)) (Some r) h) [
      | inl drop ↦ subst (Back word) (same_Some Dropped r drop.1) (same word (codes "drop") drop.0, tt)
      | inr other ↦
          let by = by_some (extension_in word) r other.1 in
          let back = extension_kind.back word by.0 by.1 in
          subst (Back word) by.2 (back.0, back.1)
    ]

no_drop : (octets : List ℕ) → AreSomeOctets octets → bytes_eq (encode_lower octets) (codes "drop") ≡ false
no_drop octets h =
    false_from_ne_true _ (λ t.
    let digits = encode-lower octets (bytes_from octets h.octets) in
    both_ways (list_all is_lower_digit (codes "drop")) refl (sym (ap (list_all is_lower_digit) (same (encode_lower octets) (codes "drop") t)) ∙ digits))

replaced-again : (r : Replaced) → IsReplaced r → replaced_in (replaced_text r) ≡ Some r
replaced-again Dropped h = refl
replaced-again (By extension) h = rw (no_drop extension h.fits, extension_kind.again extension h) refl

replaced-free : (r : Replaced) → IsReplaced r → is_free 32 (replaced_text r) ≡ true
replaced-free Dropped h = refl
replaced-free (By extension) h = extension_kind.free extension h

pub replaced_kind : Spelling replaced_in replaced_text IsReplaced
replaced_kind = record {
  back = replaced-back;
  again = replaced-again;
  free = replaced-free;
}
