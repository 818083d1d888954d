-- What a send adds to a table is right.
use Rattle.std.proofs.Common.{◌≡◌, ℕ, ◌^◌, ◌<◌, Bool, true, false, List, [], ◌∷◌, length, Some, None, refl, sym, ap, subst, ◌∙◌, arith}
use Rattle.std.specs.Prelude.{All, MatchOption, Option, ◌==◌, if◌then◌else◌}
use Rattle.std.proofs.lemmas.Bool.{eqb-false}
use Rattle.std.proofs.lemmas.Bool.Decides.{nat_tests}
use Rattle.std.proofs.lemmas.List.Elements.{All-cons, All-nil}
use Rattle.perc_rtp.specs.Media.{Content, media_fault}
use Rattle.perc_rtp.specs.declared.media.MediaFault.{MediaFault}
use Rattle.perc_receiver.specs.Table.{IsRightRow, IsRightWrap, IsSealedUnder, IsWrappedUnder, Secret, Wrap, secret_of}
use Rattle.perc_outgoing.specs.Sending.{IsContent, IsSending, Outgoing, next_place, send_fault, sending_key, sent_row, sent_wrap, sent_wraps}

-- What isn't refused has no fault of its own, and an index is left.
pub record IsSendable (o : Outgoing) (c : Content) : Type 0 where
  pub media : media_fault c ≡ None
  pub left : o.sending.next ≡ 2 ^ 48 → ⊥

sendable_by : (o : Outgoing) (c : Content) (fault : Option MediaFault) (spent : Bool) → media_fault c ≡ fault → (o.sending.next == 2 ^ 48) ≡ spent
    → send_fault o c ≡ None → IsSendable o c
sendable_by o c (Some fault) spent m s none = absurd (let bad = rw m at none in cc)
sendable_by o c None true m s none = absurd (let bad = rw (m, s) at none in cc)
sendable_by o c None false m s none = record { media = m; left = eqb-false o.sending.next (2 ^ 48) s }

pub sendable : (o : Outgoing) (c : Content) → send_fault o c ≡ None → IsSendable o c
sendable o c = sendable_by o c (media_fault c) (o.sending.next == 2 ^ 48) refl refl

-- The secret of the SPI of the key that it sends under is its own.
at_secret : (secrets : List Secret) (o : Outgoing) (P : Secret → Type 0) → secret_of secrets o.secret.spi ≡ Some o.secret → IsSending o → P o.secret
    → MatchOption (secret_of secrets (sending_key o).spi) ⊥ P
at_secret secrets o P known is p =
    let found : secret_of secrets (sending_key o).spi ≡ Some o.secret = ap (secret_of secrets) is.spi ∙ known in
    subst (λ (s : Option Secret). MatchOption s ⊥ P) (sym found) p

fits_header : (c : Content) → media_fault c ≡ None → (c.pt < 128) × (length c.csrcs < 16)
fits_header c none = grind (arith, nat_tests)

pub right_row : (secrets : List Secret) (sender : List ℕ) (datagram : ℕ) (o : Outgoing) (c : Content) → secret_of secrets o.secret.spi ≡ Some o.secret
    → IsSending o → IsContent c → send_fault o c ≡ None → IsRightRow secrets (sent_row sender datagram o c)
right_row secrets sender datagram o c known is content none =
    let s = sendable o c none in
    let fits = fits_header c s.media in
    let left = s.left in
    let most = is.next in
    record {
      sealed = at_secret secrets o (IsSealedUnder (sent_row sender datagram o c)) known is (record { size = is.size; inner = refl });
      key = is.octets;
      index = omega arith;
      header = record {
        pt = fits.0;
        seq = omega arith;
        timestamp = content.timestamp;
        ssrc = is.ssrc;
        csrc_count = fits.1;
        csrcs = content.csrcs;
        extension = tt;
      };
      cut = refl;
      ssrc = refl;
      seq = refl;
      padded = refl;
      counted = content.pad;
      payload = content.payload;
    }

right_wrap : (secrets : List Secret) (o : Outgoing) → secret_of secrets o.secret.spi ≡ Some o.secret → IsSending o → o.sending.next < 2 ^ 48
    → IsRightWrap secrets (sent_wrap o)
right_wrap secrets o known is few = record {
  wrapped = at_secret secrets o (IsWrappedUnder (sent_wrap o)) known is (record { size = is.size; octets = refl });
  key = is.octets;
  ssrc = is.ssrc;
  roc = omega arith;
}

wraps_by : (full : Bool) (P : Wrap → Type 0) (w : Wrap) → P w → All P (if full then w ∷ [] else [])
wraps_by true P w p = All-cons P w [] p (All-nil P)
wraps_by false P w p = All-nil P

pub right_wraps : (secrets : List Secret) (o : Outgoing) (c : Content) → secret_of secrets o.secret.spi ≡ Some o.secret → IsSending o
    → send_fault o c ≡ None → All (IsRightWrap secrets) (sent_wraps o)
right_wraps secrets o c known is none =
    let s = sendable o c none in
    let left = s.left in
    let most = is.next in
    let few : o.sending.next < 2 ^ 48 = omega arith in
    wraps_by (next_place o).full (IsRightWrap secrets) (sent_wrap o) (right_wrap secrets o known is few)
