-- What a line `send` says can be sent; the packet begins with its header; and who sends goes on sending.
use Rattle.std.proofs.Common.{◌≡◌, ℕ, zero, suc, ◌+◌, ◌%◌, ◌^◌, ◌<◌, ◌≤◌, ◌⊎◌, inl, inr, Bool, true, List, [], ◌∷◌, ◌++◌, length, take, drop, Option, Some, None, refl, sym, ap, ◌∙◌, subst, arith}
use Rattle.std.specs.Prelude.{nat_le, All, IfSome, ◌==◌}
use Rattle.std.specs.Option.{option_map, option_map_or, unwrap_or}
use Rattle.std.proofs.lemmas.Bool.{and_parts, and_from, eq-eqb, eqb-true, le-leb, leb-true, le-ltb, ne_eqb}
use Rattle.std.proofs.lemmas.List.{append_assoc, length-drop}
use Rattle.std.proofs.lemmas.List.Elements.{All-drop, All-from_get_or, All-nil, All-cons}
use Rattle.hex.specs.Hex.{IsBytes}
use Rattle.byteorder.specs.Endian.{big_number}
use Rattle.perc_kdf.specs.Derivation.{KeyAndSalt, session_keys}
use Rattle.perc_kdf.specs.declared.Kind.TheVariants.{Srtp}
use Rattle.perc_rtp.specs.Header as header
use Rattle.perc_rtp.specs.Header.{Header, IsExtension, IsHeader, IsOctet, IsPacket}
use Rattle.perc_rtp.specs.Media.{Content, header_of, is_payload_type, is_short_extension, media_fault}
use Rattle.perc_srtp.specs.Sealed.{sealed_body}
use Rattle.perc_double.specs.Double.{nothing_kept, opened}
use Rattle.perc_ekt.specs.Field as field
use Rattle.perc_sender.specs.Schedule.{Taken, newest}
use Rattle.perc_sender.specs.Schedule as sender
use Rattle.perc_sender.proofs.Keys.{newest_push}
use Rattle.perc_octets.specs.Octets.{AreOctets}
use Rattle.perc_receiver.specs.Table.{Secret}
use Rattle.perc_outgoing.specs.Sending.{IsContent, IsSending, Outgoing, RunsBeside, after_send, after_take, outer_index, send_fault, sent_datagram, sent_field, sent_header, sent_inner, started}
use Rattle.perc_outgoing.proofs.Standing.{free_outer}
use Rattle.perc_word.specs.Word.{Also, AreItems, AreSomeOctets, Each, most_of_four}
use Rattle.perc_word.proofs.Spelling.{bytes_from}
use Rattle.perc_script_line.specs.Script.{IsScript, Options, Send, extension_of, is_extension, most_csrcs}
use Rattle.perc_run.specs.Sending.{content_of}

-- ---- what the words say

each_fits : (xs : List ℕ) → Each (λ ssrc. ssrc ≤ most_of_four) xs → All (λ x. x < 2 ^ 32) xs
each_fits [] each = All-nil (λ x. x < 2 ^ 32)
each_fits (x ∷ xs) each = let first = each.0 in All-cons (λ x. x < 2 ^ 32) x xs (omega arith) (each_fits xs each.1)

csrcs_fit : (o : Option (List ℕ)) → IfSome o (AreItems most_csrcs (λ ssrc. ssrc ≤ most_of_four))
    → (length (unwrap_or o []) ≤ 15) × All (λ x. x < 2 ^ 32) (unwrap_or o [])
csrcs_fit None is = (omega arith, All-nil (λ x. x < 2 ^ 32))
csrcs_fit (Some csrcs) is =
    (leb-true (length csrcs) 15 (and_parts (nat_le 1 (length csrcs)) (nat_le (length csrcs) 15) is.count).1, each_fits csrcs is.each)

front_bytes : (n : ℕ) (xs : List ℕ) → IsBytes xs → IsBytes (take n xs)
front_bytes zero xs h i = omega arith
front_bytes (suc n) [] h i = omega arith
front_bytes (suc n) (x ∷ xs) h zero = h zero
front_bytes (suc n) (x ∷ xs) h (suc i) = front_bytes n xs (λ k. h (suc k)) i

two_octets : (octets : List ℕ) → IsBytes octets → big_number 2 octets < 2 ^ 16
two_octets octets h = omega (arith, h 0, h 1)

all_octets : (xs : List ℕ) → IsBytes xs → All IsOctet xs
all_octets xs h = All-from_get_or IsOctet xs 0 (λ i within. h i)

-- The words of an extension are whole, and at most 30.
words_fit : (octets : List ℕ) → Also AreSomeOctets is_extension octets → (length (drop 2 octets) % 4 ≡ 0) × (length (drop 2 octets) ≤ 120)
words_fit octets is =
    let tests = and_parts (length octets % 4 == 2) (nat_le (length octets) 122) is.passes in
    let whole : length octets % 4 ≡ 2 = eqb-true (length octets % 4) 2 tests.0 in
    let few : length octets ≤ 122 = leb-true (length octets) 122 tests.1 in
    let size = length-drop 2 octets in
    (omega arith, omega arith)

extension_fits : (o : Option (List ℕ)) → IfSome o (Also AreSomeOctets is_extension)
    → (option_map_or is_short_extension (option_map extension_of o) true ≡ true) × IfSome (option_map extension_of o) IsExtension
extension_fits None is = (refl, tt)
extension_fits (Some octets) is =
    let fits = words_fit octets is in
    let bytes = bytes_from octets is.fits.octets in
    let few = fits.1 in (
      and_from (length (drop 2 octets) % 4 == 0) (nat_le (length (drop 2 octets)) 120) (eq-eqb (length (drop 2 octets) % 4) 0 fits.0) (le-leb (length (drop 2 octets)) 120 fits.1),
      record {
        profile = two_octets (take 2 octets) (front_bytes 2 octets bytes);
        whole = fits.0;
        words = omega arith;
        octets = All-drop IsOctet 2 octets (all_octets octets bytes);
      },
    )

pad_fits : (o : Option ℕ) → IfSome o (Also (λ pad. pad ≤ 255) (λ pad. nat_le 1 pad)) → unwrap_or o 0 < 256
pad_fits None is = omega arith
pad_fits (Some pad) is = let most = is.fits in omega arith

-- What a line says is media that can be sent, under any SEQ and SSRC of their sizes.
pub record IsMedia (c : Content) : Type 0 where
  pub content : IsContent c
  pub fault : media_fault c ≡ None
  pub header : (seq ssrc : ℕ) → seq < 2 ^ 16 → ssrc < 2 ^ 32 → IsHeader (header_of c seq ssrc)

no_fault : (c : Content) → is_payload_type c.pt ≡ true → length c.csrcs ≤ 15 → option_map_or is_short_extension c.extension true ≡ true
    → length c.payload + c.pad ≤ 1200 → media_fault c ≡ None
no_fault c pt csrcs extension size =
    let few = le-ltb 15 (length c.csrcs) csrcs in
    let short = le-ltb 1200 (length c.payload) (omega arith) in
    let padded = le-ltb 1200 (length c.payload + c.pad) size in
    rw (pt, few, extension, short, padded) refl

pub said_media : (name : List ℕ) (pt : ℕ) (marker : Bool) (timestamp : ℕ) (payload : List ℕ) (options : Options)
    → IsScript (Send name pt marker timestamp payload options) → IsMedia (content_of pt marker timestamp payload options)
said_media name pt marker timestamp payload options said =
    let c : Content = content_of pt marker timestamp payload options in
    let pt_most = said.1.fits in
    let timestamp_most = said.2 in
    let csrcs = csrcs_fit options.csrcs said.4.csrcs in
    let extension = extension_fits options.extension said.4.extension in
    let few = csrcs.0 in
    record {
      content = record {
        timestamp = omega arith;
        csrcs = csrcs.1;
        payload = bytes_from payload said.3;
        pad = pad_fits options.pad said.4.pad;
      };
      fault = no_fault c said.1.passes csrcs.0 extension.0 (leb-true (length payload + unwrap_or options.pad 0) 1200 said.5);
      header = λ seq ssrc seq_fits ssrc_fits. record {
        pt = omega arith;
        seq = seq_fits;
        timestamp = omega arith;
        ssrc = ssrc_fits;
        csrc_count = omega arith;
        csrcs = csrcs.1;
        extension = extension.1;
      };
    }

-- ---- the packet

-- what stands behind the header of a datagram that is sent
abbrev pub behind_header : Outgoing → Content → List ℕ
behind_header o c = sealed_body (session_keys o.client Srtp) (outer_index o) (sent_header o c) (opened (sent_inner o c) nothing_kept) ++ field.spelling (sent_field o)

pub sent_begins : (o : Outgoing) (c : Content) → sent_datagram o c ≡ header.spelling (sent_header o c) ++ behind_header o c
unfolding sent_datagram
sent_begins o c =
    append_assoc (header.spelling (sent_header o c))
    (sealed_body (session_keys o.client Srtp) (outer_index o) (sent_header o c) (opened (sent_inner o c) nothing_kept)) (field.spelling (sent_field o))

pub sent_packet : (o : Outgoing) (c : Content) → IsMedia c → IsSending o → IsPacket (sent_header o c) (behind_header o c) (sent_datagram o c)
sent_packet o c media is = record { header = media.header (o.sending.next % 65536) o.sending.ssrc (omega arith) is.ssrc; octets = sent_begins o c }

pub sendable : (o : Outgoing) (c : Content) → IsMedia c → o.sending.next < 2 ^ 48 → send_fault o c ≡ None
sendable o c media few = rw (media.fault, ne_eqb o.sending.next (2 ^ 48) (λ same. omega arith)) refl

-- ---- who sends goes on

pub sending_sent : (o : Outgoing) → IsSending o → o.sending.next < 2 ^ 48 → IsSending (after_send o)
sending_sent o is few = record {
  ssrc = is.ssrc;
  key = is.key;
  spi = is.spi;
  size = is.size;
  octets = is.octets;
  next = omega arith;
  outer = inr (free_outer o is.outer few).then_beside;
  rtcp = is.rtcp;
}

key_last : (keys : List Taken) (t d : Taken) → newest (keys ++ t ∷ []) ≡ Some (unwrap_or (newest (keys ++ t ∷ [])) d)
key_last keys t d = newest_push keys t ∙ ap Some (sym (ap (λ (o : Option Taken). unwrap_or o d) (newest_push keys t)))

key_is : (keys : List Taken) (t d : Taken) → unwrap_or (newest (keys ++ t ∷ [])) d ≡ t
key_is keys t d = ap (λ (o : Option Taken). unwrap_or o d) (newest_push keys t)

with_key : (o : Outgoing) (s : Secret) (key : List ℕ) → o.sending.ssrc < 2 ^ 32 → o.sending.next ≤ 2 ^ 48 → (o.sealed ≡ []) ⊎ ((high : ℕ) × RunsBeside o.sealed o.sending.next high)
    → o.rtcp ≤ 2 ^ 31 → length key ≡ length s.key → AreOctets key → IsSending (after_take o s key)
with_key o s key ssrc next outer rtcp size octets =
    let t : Taken = record { spi = s.spi; key = key } in
    let d : Taken = record { spi = 0; key = [] } in
    let is = key_is o.sending.keys t d in record {
      ssrc = ssrc;
      key = key_last o.sending.keys t d;
      spi = ap (λ (k : Taken). k.spi) is;
      size = ap (λ (k : Taken). length k.key) is ∙ size;
      octets = subst (λ (k : Taken). AreOctets k.key) (sym is) octets;
      next = next;
      outer = outer;
      rtcp = rtcp;
    }

pub sending_taken : (o : Outgoing) (s : Secret) (key : List ℕ) → IsSending o → length key ≡ length s.key → AreOctets key → IsSending (after_take o s key)
sending_taken o s key is size octets = with_key o s key is.ssrc is.next is.outer is.rtcp size octets

pub sending_started : (client : KeyAndSalt) (ssrc first : ℕ) (s : Secret) (key : List ℕ) → ssrc < 2 ^ 32 → first ≤ 65535 → length key ≡ length s.key → AreOctets key
    → IsSending (started client ssrc first s key)
sending_started client ssrc first s key ssrc_fits first_fits size octets =
    let none : Outgoing = record { client = client; secret = s; sending = sender.started ssrc first; sealed = []; rtcp = 0 } in
    with_key none s key ssrc_fits (omega arith) (inl refl) (omega arith) size octets
