-- A full field that is a wrap of the table tells one key: the wrap that is found for it carries the same.
use Rattle.std.proofs.Common.{◌≡◌, ℕ, ◌<◌, List, length, Option, Some, None, Result, Ok, inl, inr, refl, sym, ap, ◌∙◌, subst, arith}
use Rattle.std.specs.Prelude.{◌==◌, All, MatchOption}
use Rattle.std.specs.Str.{bytes_eq}
use Rattle.std.proofs.lemmas.Bool.{and_from, eq-eqb}
use Rattle.std.proofs.lemmas.List.Elements.{All-contains}
use Rattle.std.proofs.lemmas.Option.{MatchOption-at_some}
use Rattle.std.proofs.lemmas.Slice.Eq.{bytes_eq-Decides}
use Rattle.perc_aes.specs.Cipher.{IsKey}
use Rattle.perc_ekt.specs.Field.{Extension, Field, Full, Short}
use Rattle.perc_ekt.specs.Key.{HasSize, WrappedKey, opened_key}
use Rattle.perc_ekt.specs.declared.key.KeyFault.{KeyFault}
use Rattle.perc_ekt.proofs.Keys.{opens}
use Rattle.perc_contexts.proofs.ReceivingLaws.{found_of}
use Rattle.perc_receiver.specs.Table.{IsRight, IsRightWrap, IsSecret, IsWrappedUnder, Row, Secret, Table, Wrap, secret_of}
use Rattle.perc_receiver.specs.Opener.{is_wrap}
use Rattle.perc_receiver.specs.Receiver.{Receiver}
use Rattle.perc_receiver.specs.Calls as receiver
use Rattle.perc_receiver.proofs.Agreeing.{key_told}
use Rattle.perc_receiver.proofs.Headers.{is_wrap-parts}
use Rattle.perc_receiver.proofs.Secrets.{some_found}
use Rattle.perc_headline.specs.Headline.{CarriesKey, IsKeyKnown}
use Rattle.perc_headline.proofs.Secrets.{found_secret}

secret_is_key : (s : Secret) → IsSecret s → IsKey s.key × (length s.key < 256)
secret_is_key s right =
    elim right.size [
      | inl short ↦ (record { size = inl short; octets = right.key }, omega arith)
      | inr long ↦ (record { size = inr (inr long); octets = right.key }, omega arith)
    ]

-- A right wrap opens to its key.
wrap_opens : (secrets : List Secret) (s : Secret) (w : Wrap) (spi : ℕ) (octets : List ℕ) → IsSecret s → secret_of secrets spi ≡ Some s → IsRightWrap secrets w → w.spi ≡ spi → w.octets ≡ octets
    → opened_key s.key (length s.key) octets ≡ Ok (key_told w)
wrap_opens secrets s w spi octets secret found right spi_is octets_are =
    let at : secret_of secrets w.spi ≡ Some s = ap (secret_of secrets) spi_is ∙ found in
    let under : IsWrappedUnder w s = MatchOption-at_some ⊥ (IsWrappedUnder w) s at right.wrapped in
    let fits : HasSize (length s.key) (key_told w) = record { len = under.size; octets = right.key; ssrc = right.ssrc; roc = right.roc } in
    let key = secret_is_key s secret in
    ap (opened_key s.key (length s.key)) (sym octets_are ∙ under.octets) ∙ opens s.key (length s.key) (key_told w) key.0 key.1 fits

same_told : (a b : WrappedKey) → ◌≡◌ {A = Result WrappedKey KeyFault} (Ok a) (Ok b) → a ≡ b
same_told a b e = cc

-- Two right wraps with one SPI and the same octets carry one key.
one_key : (secrets : List Secret) (a b : Wrap) (spi : ℕ) (octets : List ℕ) (found : Option Secret) → secret_of secrets spi ≡ found → All IsSecret secrets
    → IsRightWrap secrets a → IsRightWrap secrets b
    → a.spi ≡ spi → b.spi ≡ spi → a.octets ≡ octets → b.octets ≡ octets → key_told a ≡ key_told b
one_key secrets a b spi octets None e right of_a of_b spi_a spi_b is_a is_b =
    absurd (subst (λ (o : Option Secret). MatchOption o ⊥ (IsWrappedUnder a)) (ap (secret_of secrets) spi_a ∙ e) of_a.wrapped)
one_key secrets a b spi octets (Some s) e right of_a of_b spi_a spi_b is_a is_b =
    let secret : IsSecret s = All-contains IsSecret secrets s right (found_secret secrets spi s e).there in
    same_told (key_told a) (key_told b) (sym (wrap_opens secrets s a spi octets secret e of_a spi_a is_a) ∙ wrap_opens secrets s b spi octets secret e of_b spi_b is_b)

carried : (secrets : List Secret) (table : Table) (r : Receiver) (row : Row) (cipher : List ℕ) (spi : ℕ) → All IsSecret secrets → IsRight secrets table → CarriesKey table r row cipher spi
    → receiver.IsCarried table r row cipher spi
carried secrets table r row cipher spi right is c =
    let w : Wrap = c.wrap in
    let found = some_found (is_wrap spi cipher) table.wraps w c.there
    (and_from (w.spi == spi) (bytes_eq w.octets cipher) (eq-eqb w.spi spi c.spi_is) ((bytes_eq-Decides w.octets cipher).1 c.octets)) in
    let v : Wrap = found.0 in
    let it = found_of (is_wrap spi cipher) table.wraps v found.1 in
    let parts = is_wrap-parts spi cipher v it.1 in
    let of_w : IsRightWrap secrets w = All-contains (IsRightWrap secrets) table.wraps w is.wraps c.there in
    let of_v : IsRightWrap secrets v = All-contains (IsRightWrap secrets) table.wraps v is.wraps it.0 in
    let same : key_told v ≡ key_told w = one_key secrets v w spi cipher (secret_of secrets spi) refl right of_v of_w parts.0 c.spi_is parts.1 c.octets in record {
      wrap = (
        v,
        found.1,
        record {
          spi = parts.0 ∙ sym c.spi_is ∙ c.of_row.spi;
          ssrc = ap (λ (k : WrappedKey). k.ssrc) same ∙ c.of_row.ssrc;
          key = ap (λ (k : WrappedKey). k.key) same ∙ c.of_row.key;
          roc = ap (λ (k : WrappedKey). k.roc) same ∙ c.of_row.roc;
        },
      );
      live = c.live;
      room = c.room;
    }

-- What is known of a key is known to the receiver.
pub known : (secrets : List Secret) (table : Table) (r : Receiver) (row : Row) (field : Field) → All IsSecret secrets → IsRight secrets table → IsKeyKnown table r row field
    → receiver.IsKeyKnown table r row field
known secrets table r row Short right is k = k
known secrets table r row (Extension octets kind) right is k = k
known secrets table r row (Full cipher spi epoch) right is k = carried secrets table r row cipher spi right is k
