-- What the distributor opens of a generated packet, and that it has room for it.
use Rattle.std.proofs.Common.{◌≡◌, ℕ, zero, suc, ◌+◌, ◌*◌, ◌/◌, ◌%◌, ◌^◌, ◌<◌, ◌≤◌, Bool, true, false, cond, List, [], ◌∷◌, ◌++◌, length, Option, Some, None, Result, Ok, Err, refl, sym, ap, subst, ◌∙◌, arith}
use Rattle.std.specs.Prelude.{◌&&◌, ◌==◌, nat_le, replicate}
use Rattle.std.specs.Option.{is_some}
use Rattle.std.proofs.lemmas.Bool.Decides.{nat_tests}
use Rattle.std.proofs.lemmas.List.{length-append}
use Rattle.std.proofs.lemmas.List.Elements.{All-nil}
use Rattle.byteorder.specs.Endian.{big_bytes}
use Rattle.perc_kdf.specs.Derivation.{KeyAndSalt, session_keys}
use Rattle.perc_kdf.specs.declared.Kind.TheVariants.{Srtp}
use Rattle.perc_rtp.specs.Header as header
use Rattle.perc_rtp.specs.Header.{Header, IsHeader, bit, extension_octets}
use Rattle.perc_rtp.specs.Carried.{is_between, kind_of}
use Rattle.perc_rtp.specs.Fields.{cut}
use Rattle.perc_rtp.specs.Media.{Content, rest_of}
use Rattle.perc_rtp.specs.declared.carried.Carried.{Carried}
use Rattle.perc_rtp.specs.declared.carried.Carried.TheVariants.{Dtls, Other, Rtcp, Rtp}
use Rattle.perc_rtp.proofs.HeaderLaws as header_laws
use Rattle.perc_ohb.specs.Block as block
use Rattle.perc_ohb.specs.Rewriting.{Rewrite, block_after}
use Rattle.perc_ohb.specs.declared.block.Ohb.{Ohb}
use Rattle.perc_ohb.proofs.BlockLaws as block_laws
use Rattle.perc_ekt.specs.Field.{Field, Full, IsCipherLength, IsField, Short, spelling}
use Rattle.perc_ekt.specs.Key.{plain_text}
use Rattle.perc_ekt.proofs.Fields.{spelling-length}
use Rattle.perc_ekt.proofs.Keys.{plain-length, plain-octets}
use Rattle.perc_keywrap.specs.Wrap.{IsWrapped, wrapped, wrapped_length}
use Rattle.perc_keywrap.proofs.WrapLaws.{length-wrapped}
use Rattle.perc_window.specs.Index.{nearest}
use Rattle.perc_window.specs.Replay.{freshness, greatest}
use Rattle.perc_window.specs.declared.window.Freshness.{Freshness}
use Rattle.perc_window.specs.declared.window.Freshness.TheVariants.{Fresh, Repeated, TooOld}
use Rattle.perc_srtp.specs.Streams.{rx_index, tx_index}
use Rattle.perc_srtp.proofs.PacketLaws.{length-sealed_body}
use Rattle.perc_double.specs.Double.{double, nothing_kept, opened, relayed, relayed_length}
use Rattle.perc_keyset.specs.Set.{entry_of}
use Rattle.perc_keyset.specs.declared.Entry.{Entry}
use Rattle.perc_octets.specs.Octets.{AreOctets}
use Rattle.perc_receiver.specs.Table.{inner_keys}
use Rattle.perc_outgoing.specs.Sending.{IsSending, Outgoing, next_place, outer_index, sending_key, sent_datagram, sent_field, sent_header, sent_inner}
use Rattle.perc_outer.specs.Streams.{accepted_of, is_full_for}
use Rattle.perc_outer.specs.Datagram.{Reach, Reached, reached}
use Rattle.perc_distributor.specs.declared.fault.InboundFault.{InboundFault}
use Rattle.perc_distributor.specs.Inbound.{Heard, Media, Packet, heard_of, taken, taken_of, taken_reach}
use Rattle.perc_distributor.specs.Laws.{Awaits, HasSpelling, datagram_of, opened_as}
use Rattle.perc_distributor.proofs.OnTheWay.{sealed_reached}
use Rattle.perc_run.specs.Sending.{content_of}
use Rattle.perc_generator.specs.Generator.{no_options}
use Rattle.perc_generated.proofs.Opened.{entries}
use Rattle.perc_generated.proofs.Short.{count_repeated}
use Rattle.perc_generated.proofs.Streams.{Hears, heard_more}

-- ---- the field

-- The octets of a field are those of a short one whose numbers fit.
pub record Spells (f : Field) : Type 0 where
  pub field : Field
  pub fits : IsField field
  pub same : spelling field ≡ spelling f
  pub few : length (spelling field) ≤ 100

low_octets : (n : ℕ) → big_bytes 2 (n % 65536) ≡ big_bytes 2 n
low_octets n =
    let high : n % 65536 / 256 % 256 ≡ n / 256 % 256 = omega arith in
    let low : n % 65536 % 256 ≡ n % 256 = omega arith in
    λ i. high i ∷ low i ∷ []

full_spells : (cipher : List ℕ) (spi epoch : ℕ) → IsCipherLength (length cipher) → length cipher ≤ 64 → Spells (Full cipher spi epoch)
unfolding spelling
full_spells cipher spi epoch size few =
    let long = spelling-length (Full cipher (spi % 65536) (epoch % 65536)) in record {
      field = Full cipher (spi % 65536) (epoch % 65536);
      fits = (size, omega arith, omega arith);
      same = λ i. cipher ++ low_octets spi i ++ low_octets epoch i ++ big_bytes 2 (length cipher + 7) ++ 2 ∷ [];
      few = omega (arith, long);
    }

field_by : (full : Bool) (cipher : List ℕ) (spi epoch : ℕ) → IsCipherLength (length cipher) → length cipher ≤ 64 → Spells (cond full (Full cipher spi epoch) Short)
field_by true cipher spi epoch size few = full_spells cipher spi epoch size few
field_by false cipher spi epoch size few = record { field = Short; fits = tt; same = refl; few = omega (arith, spelling-length Short) }

cipher_fits : (ekt key : List ℕ) (ssrc roc : ℕ) → length key ≡ 16 → AreOctets key
    → IsCipherLength (length (wrapped ekt (plain_text key ssrc roc))) × (length (wrapped ekt (plain_text key ssrc roc)) ≤ 64)
cipher_fits ekt key ssrc roc size octets =
    let plain : List ℕ = plain_text key ssrc roc in
    let long : length plain ≡ 25 = plain-length key ssrc roc ∙ ap (λ (n : ℕ). n + 9) size in
    let is : IsWrapped ekt plain (wrapped ekt plain) = record {
      some = omega arith;
      few = omega arith;
      in_range = plain-octets key ssrc roc (omega arith) octets;
      value = refl;
    } in
    let whole : length (wrapped ekt plain) ≡ 40 = length-wrapped ekt plain (wrapped ekt plain) is ∙ ap wrapped_length long in
    ((omega arith, omega arith, omega arith), omega arith)

-- ---- a member that sends

-- Who sends: under its entry's client pair, with a key of 16 octets.
pub record Sender (out : Outgoing) (e : Entry) : Type 0 where
  pub is : IsSending out
  pub client : out.client ≡ e.client
  pub key : length (sending_key out).key ≡ 16
  pub few : out.sending.next < 2 ^ 47

pub field_spells : (out : Outgoing) (e : Entry) → Sender out e → Spells (sent_field out)
field_spells out e s =
    let place = next_place out in
    let key = (sending_key out).key in
    let fits = cipher_fits out.secret.key key out.sending.ssrc (place.index / 65536) s.key s.is.octets in
    field_by place.full (wrapped out.secret.key (plain_text key out.sending.ssrc (place.index / 65536))) place.spi place.epoch fits.0 fits.1

-- what a round's send says
abbrev pub content_at : ℕ → Bool → ℕ → List ℕ → Content
content_at pt marker timestamp payload = content_of pt marker timestamp payload no_options

pub record IsPlain (pt timestamp : ℕ) (payload : List ℕ) : Type 0 where
  pub low : pt < 64
  pub fits : timestamp < 2 ^ 32
  pub few : length payload ≤ 40

header_is : (out : Outgoing) (pt : ℕ) (marker : Bool) (timestamp : ℕ) (payload : List ℕ) → out.sending.ssrc < 2 ^ 32 → IsPlain pt timestamp payload
    → IsHeader (sent_header out (content_at pt marker timestamp payload))
header_is out pt marker timestamp payload ssrc is =
    let low = is.low in record {
      pt = omega arith;
      seq = omega arith;
      timestamp = is.fits;
      ssrc = ssrc;
      csrc_count = omega arith;
      csrcs = All-nil (λ (c : ℕ). c < 2 ^ 32);
      extension = tt;
    }

low_second : (marker : Bool) (pt : ℕ) → pt < 64 → is_between 192 223 (128 * bit marker + pt) ≡ false
low_second true pt low = grind (arith, nat_tests)
low_second false pt low = grind (arith, nat_tests)

datagram_kind : (keys : KeyAndSalt) (index : ℕ) (out : Outgoing) (pt : ℕ) (marker : Bool) (timestamp : ℕ) (payload inner : List ℕ) (o : Ohb) (field : Field) → pt < 64
    → kind_of (datagram_of keys index (sent_header out (content_at pt marker timestamp payload)) inner o field) ≡ Rtp
unfolding header.spelling
datagram_kind keys index out pt marker timestamp payload inner o field low = ap (λ (b : Bool). cond b Rtcp Rtp) (low_second marker pt low)

datagram_is : (out : Outgoing) (e : Entry) (c : Content) (s : Sender out e)
    → sent_datagram out c ≡ datagram_of (session_keys e.client Srtp) (outer_index out) (sent_header out c) (sent_inner out c) nothing_kept (field_spells out e s).field
unfolding sent_datagram
datagram_is out e c s =
    ap (λ (k : KeyAndSalt). datagram_of (session_keys k Srtp) (outer_index out) (sent_header out c) (sent_inner out c) nothing_kept (sent_field out)) s.client
    ∙ ap (λ (xs : List ℕ). double (session_keys e.client Srtp) (outer_index out) (sent_header out c) (sent_inner out c) nothing_kept ++ xs) (sym (field_spells out e s).same)

taken_by : (heard : List Heard) (from : List ℕ) (e : Entry) (datagram : List ℕ) (reach : Reach) → entry_of entries from ≡ Some e → kind_of datagram ≡ Rtp
    → reached (session_keys e.client Srtp) None (heard_of heard e.serial).streams datagram ≡ reach → taken entries heard from datagram ≡ taken_reach entries heard e reach
unfolding taken
taken_by heard from e datagram reach entry kind is =
    ap (λ (k : Carried). taken_of entries heard k (entry_of entries from) datagram) kind
    ∙ ap (λ (o : Option Entry). taken_of entries heard Rtp o datagram) entry
    ∙ ap (taken_reach entries heard e) is

rx_as_tx : (before : List ℕ) (seq index : ℕ) → tx_index before seq ≡ Ok index → rx_index before seq ≡ Ok index
rx_as_tx before seq index is = by_place (nearest (greatest before) seq) refl is where
  by_fresh : (at : ℕ) (f : Freshness) → freshness before at ≡ f → nearest (greatest before) seq ≡ Some at → tx_index before seq ≡ Ok index → rx_index before seq ≡ Ok index
  by_fresh at Fresh how near is = let told = rw (near, how) at is in let same : at ≡ index = cc in rw (near, how) (ap Ok same)
  by_fresh at Repeated how near is = let told = rw (near, how) at is in absurd (cc)
  by_fresh at TooOld how near is = let told = rw (near, how) at is in absurd (cc)

  by_place : (o : Option ℕ) → nearest (greatest before) seq ≡ o → tx_index before seq ≡ Ok index → rx_index before seq ≡ Ok index
  by_place None near is = let told = rw near at is in absurd (cc)
  by_place (Some at) near is = by_fresh at (freshness before at) refl near is

-- What a member sends the distributor opens, as it was sent.
pub taken_is : (heard : List Heard) (out : Outgoing) (from : List ℕ) (e : Entry) (pt : ℕ) (marker : Bool) (timestamp : ℕ) (payload : List ℕ) (s : Sender out e) → entry_of entries from ≡ Some e
    → IsPlain pt timestamp payload → Hears heard e.serial out.sending.ssrc out.sealed → tx_index out.sealed (out.sending.next % 65536) ≡ Ok (outer_index out)
    → let c = content_at pt marker timestamp payload in
    taken entries heard from (sent_datagram out c)
    ≡ (Ok (Media e.association (sent_header out c) (sent_inner out c) nothing_kept (field_spells out e s).field), heard_more heard e.serial out.sending.ssrc (outer_index out))
taken_is heard out from e pt marker timestamp payload s entry plain hears free =
    let c : Content = content_at pt marker timestamp payload in
    let h : Header = sent_header out c in
    let f = field_spells out e s in
    let spelled : HasSpelling h nothing_kept f.field =
    record { header_is = header_is out pt marker timestamp payload s.is.ssrc plain; block_is = record { pt = tt; seq = tt }; field_is = f.fits } in
    let awaits : Awaits None (heard_of heard e.serial).streams h (outer_index out) =
    record { other = refl; room = hears.room; fresh = ap (λ (xs : List ℕ). rx_index xs h.seq) hears.accepted ∙ rx_as_tx out.sealed h.seq (outer_index out) free } in
    ap (taken entries heard from) (datagram_is out e c s)
    ∙ taken_by heard from e _ (Reached (opened_as (outer_index out) h (sent_inner out c) nothing_kept f.field)) entry
    (datagram_kind (session_keys e.client Srtp) (outer_index out) out pt marker timestamp payload (sent_inner out c) nothing_kept f.field plain.low)
    (sealed_reached (session_keys e.client Srtp) None (heard_of heard e.serial).streams h (sent_inner out c) nothing_kept f.field (outer_index out) spelled awaits)

-- ---- its size

bit_few : (b : Bool) → bit b ≤ 1
bit_few true = omega arith
bit_few false = omega arith

block_few : (o : Ohb) → length (block.spelling o) ≤ 4
block_few o = omega (arith, block_laws.length-spelling o, bit_few (is_some o.pt), bit_few (is_some o.seq))

-- The relayed packet and its field fit into a datagram.
pub size_is : (out : Outgoing) (e : Entry) (pt : ℕ) (marker : Bool) (timestamp : ℕ) (payload : List ℕ) (s : Sender out e) (change : Rewrite) → IsPlain pt timestamp payload → change.extension ≡ None
    → let c = content_at pt marker timestamp payload in
    relayed_length (sent_header out c) (sent_inner out c) nothing_kept change + length (spelling (field_spells out e s).field) ≤ 1500
size_is out e pt marker timestamp payload s change plain none =
    let c : Content = content_at pt marker timestamp payload in
    let h : Header = sent_header out c in
    let kept : Ohb = block_after h nothing_kept change in
    let front : length (header.spelling (relayed h change)) ≡ 12 + 4 * 0 + length (extension_octets (relayed h change).extension) = header_laws.length-spelling (relayed h change) in
    let plain_front : length (extension_octets (relayed h change).extension) ≡ 0 = rw none refl in
    let body = length-append payload [] in
    let inner_long = length-sealed_body (inner_keys out.secret (sending_key out).key) out.sending.next (cut h) (rest_of c) in
    let behind = length-append (sent_inner out c) (block.spelling kept) in
    let all = length-append (header.spelling (relayed h change)) (opened (sent_inner out c) kept) in
    omega (arith, front, plain_front, body, inner_long, behind, all, block_few kept, plain.few, (field_spells out e s).few)
