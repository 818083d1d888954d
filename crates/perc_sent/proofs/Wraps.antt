-- Wraps of the table are found by what they open to, and are all that is found there.
use Rattle.std.proofs.Common.{◌≡◌, ℕ, ◌-◌, ◌<◌, inl, inr, true, false, List, length, replicate, take, Option, Some, None, Result, Ok, Err, MatchResult, refl, sym, ap, ◌∙◌, subst, arith}
use Rattle.std.specs.Prelude.{Contains, find, is_some, ◌==◌}
use Rattle.std.specs.Str.{bytes_eq}
use Rattle.std.proofs.lemmas.Bool.{and_from, both_ways, cases_Bool, eq-eqb, eqb-true}
use Rattle.std.proofs.lemmas.List.{take_at}
use Rattle.std.proofs.lemmas.List.Elements.{All-contains}
use Rattle.std.proofs.lemmas.Option.{MatchOption-at_none, MatchOption-at_some}
use Rattle.std.proofs.lemmas.Slice.Eq.{bytes_eq-Decides}
use Rattle.perc_aes.specs.Cipher.{IsKey}
use Rattle.perc_ekt.specs.Key.{HasSize, WrappedKey, opened_key, unwrapped_as, wrapped_key}
use Rattle.perc_ekt.specs.declared.key.KeyFault.{KeyFault}
use Rattle.perc_ekt.specs.declared.key.Wrapped.{Wrapped}
use Rattle.perc_ekt.proofs.Keys.{opens, opens_only}
use Rattle.perc_contexts.proofs.ReceivingLaws.{found_of}
use Rattle.perc_receiver.specs.Table.{IsRightWrap, IsSecret, IsWrappedUnder, Secret, Wrap, secret_of}
use Rattle.perc_receiver.specs.Opener.{is_wrap, wrap_of}
use Rattle.perc_receiver.proofs.Headers.{is_wrap-parts}
use Rattle.perc_receiver.proofs.Secrets.{some_found}
use Rattle.perc_member.specs.Taken.{wrapped_under}
use Rattle.perc_member.specs.declared.member.Member as code_member
use Rattle.perc_run.specs.State.{State}
use Rattle.perc_sent.specs.Sent.{HasWraps, IsSomebodys, IsWrappedBy, MirrorsTable}
use Rattle.perc_sent.specs.declared.table.Table as code
use Rattle.perc_sent.proofs.Finding.{find_none, member_found}

-- ---- what a wrap opens to

abbrev told : Wrap → WrappedKey
told w = record { key = w.key; ssrc = w.ssrc; roc = w.roc }

secret_is_key : (s : Secret) → IsSecret s → IsKey s.key × (length s.key < 256)
secret_is_key s right =
    elim right.size [
      | inl short ↦ (record { size = inl short; octets = right.key }, omega arith)
      | inr long ↦ (record { size = inr (inr long); octets = right.key }, omega arith)
    ]

-- the wrap of these octets under an SPI: it opens to its key, and somebody sent it
record IsWrapOf (t : code.Table) (s : State) (secret : Secret) (spi : ℕ) (octets : List ℕ) (w : Wrap) : Type 0 where
  there : Contains s.table.wraps w
  spi_is : w.spi ≡ spi
  opens_to : opened_key secret.key (length secret.key) octets ≡ Ok (told w)
  member : code_member.Member
  found : find (λ (m : code_member.Member). m.ssrc == w.ssrc) t.members.now ≡ Some member
  sent : wrapped_under member w.spi w.key w.roc ≡ true

right_wrap : (s : State) (t : code.Table) (w : Wrap) → MirrorsTable t s → Contains s.table.wraps w → IsRightWrap s.secrets w
right_wrap s t w is there = All-contains (IsRightWrap s.secrets) s.table.wraps w is.orderly.sound.table.wraps there

wrap_is : (t : code.Table) (s : State) (secret : Secret) (spi : ℕ) (octets : List ℕ) (w : Wrap) → MirrorsTable t s → secret_of s.secrets spi ≡ Some secret
    → Contains s.table.wraps w → is_wrap spi octets w ≡ true → IsWrapOf t s secret spi octets w
wrap_is t s secret spi octets w is found there passes =
    let parts = is_wrap-parts spi octets w passes in
    let right = right_wrap s t w is there in
    let at : secret_of s.secrets w.spi ≡ Some secret = ap (secret_of s.secrets) parts.0 ∙ found in
    let under : IsWrappedUnder w secret = MatchOption-at_some ⊥ (IsWrappedUnder w) secret at right.wrapped in
    let fits : HasSize (length secret.key) (told w) = record { len = under.size; octets = right.key; ssrc = right.ssrc; roc = right.roc } in
    let issued = All-contains IsSecret s.secrets secret is.orderly.sound.issued.right (found_of (λ (x : Secret). x.spi == spi) s.secrets secret found).0 in
    let key = secret_is_key secret issued in
    let it = All-contains (IsSomebodys t.members.now IsWrappedBy) s.table.wraps w is.sent.wraps there in record {
      there = there;
      spi_is = parts.0;
      opens_to = ap (opened_key secret.key (length secret.key)) (sym parts.1 ∙ under.octets) ∙ opens secret.key (length secret.key) (told w) key.0 key.1 fits;
      member = it.member;
      found = member_found t.members.now s.members it.member w.ssrc is.members is.orderly.sound.others it.there it.is.ssrc;
      sent = it.is.key;
    }

none_of : (s : State) (spi : ℕ) (octets : List ℕ) → ((w : Wrap) → Contains s.table.wraps w → is_wrap spi octets w ≡ true → ⊥) → false ≡ is_some (wrap_of s.table spi octets)
none_of s spi octets none = sym (ap (λ (o : Option Wrap). is_some o) (find_none (is_wrap spi octets) s.table.wraps none))

-- ---- what is answered

-- No wrap is under an SPI that wasn't issued.
pub wrap_unissued : (t : code.Table) (s : State) (spi : ℕ) (octets : List ℕ) → MirrorsTable t s → secret_of s.secrets spi ≡ None
    → false ≡ is_some (wrap_of s.table spi octets)
wrap_unissued t s spi octets is none =
    none_of s spi octets λ w there passes.
    let parts = is_wrap-parts spi octets w passes in
    MatchOption-at_none ⊥ (IsWrappedUnder w) (ap (secret_of s.secrets) parts.0 ∙ none) (right_wrap s t w is there).wrapped

-- What doesn't open is no wrap.
pub wrap_shut : (t : code.Table) (s : State) (secret : Secret) (spi : ℕ) (octets : List ℕ) (fault : KeyFault) → MirrorsTable t s → secret_of s.secrets spi ≡ Some secret
    → opened_key secret.key (length secret.key) octets ≡ Err fault → false ≡ is_some (wrap_of s.table spi octets)
wrap_shut t s secret spi octets fault is found shut =
    none_of s spi octets λ w there passes.
    let it = wrap_is t s secret spi octets w is found there passes in
    let bad : ◌≡◌ {A = Result WrappedKey KeyFault} (Ok (told w)) (Err fault) = sym it.opens_to ∙ shut in
    cc

-- Nor is what opens to an SSRC that no member has.
pub wrap_by_none : (t : code.Table) (s : State) (secret : Secret) (spi : ℕ) (octets : List ℕ) (k : WrappedKey) → MirrorsTable t s → secret_of s.secrets spi ≡ Some secret
    → opened_key secret.key (length secret.key) octets ≡ Ok k → find (λ (m : code_member.Member). m.ssrc == k.ssrc) t.members.now ≡ None
    → false ≡ is_some (wrap_of s.table spi octets)
wrap_by_none t s secret spi octets k is found opened none =
    none_of s spi octets λ w there passes.
    let it = wrap_is t s secret spi octets w is found there passes in
    let same : ◌≡◌ {A = Result WrappedKey KeyFault} (Ok (told w)) (Ok k) = sym it.opens_to ∙ opened in
    let e : told w ≡ k = cc in
    let bad : ◌≡◌ {A = Option code_member.Member} (Some it.member) None =
    sym it.found ∙ ap (λ (x : WrappedKey). find (λ (m : code_member.Member). m.ssrc == x.ssrc) t.members.now) e ∙ none in
    cc

-- What opens to the SSRC of a member is a wrap where the member sent the key so.
pub wrap_by : (t : code.Table) (s : State) (secret : Secret) (spi : ℕ) (octets : List ℕ) (k : WrappedKey) (c : code_member.Member) → MirrorsTable t s
    → secret_of s.secrets spi ≡ Some secret → opened_key secret.key (length secret.key) octets ≡ Ok k
    → find (λ (m : code_member.Member). m.ssrc == k.ssrc) t.members.now ≡ Some c → wrapped_under c spi k.key k.roc ≡ is_some (wrap_of s.table spi octets)
wrap_by t s secret spi octets k c is found opened member =
    elim (cases_Bool (wrapped_under c spi k.key k.roc)) [
      | inl sent ↦ sent ∙ sym (made sent)
      | inr unsent ↦
          unsent
          ∙ none_of s spi octets (λ w there passes.
          let it = wrap_is t s secret spi octets w is found there passes in
          let same : ◌≡◌ {A = Result WrappedKey KeyFault} (Ok (told w)) (Ok k) = sym it.opens_to ∙ opened in
          let e : told w ≡ k = cc in
          let one : ◌≡◌ {A = Option code_member.Member} (Some it.member) (Some c) =
          sym it.found ∙ ap (λ (x : WrappedKey). find (λ (m : code_member.Member). m.ssrc == x.ssrc) t.members.now) e ∙ member in
          let its : it.member ≡ c = cc in
          let key : wrapped_under it.member w.spi w.key w.roc ≡ wrapped_under c spi k.key k.roc = λ i. wrapped_under (its i) (it.spi_is i) (e i).key (e i).roc in
          both_ways (wrapped_under c spi k.key k.roc) unsent (sym key ∙ it.sent))
    ]
  where
    made : wrapped_under c spi k.key k.roc ≡ true → is_some (wrap_of s.table spi octets) ≡ true
    made sent =
        let own = found_of (λ (m : code_member.Member). m.ssrc == k.ssrc) t.members.now c member in
        let ssrc_is : c.ssrc ≡ k.ssrc = eqb-true c.ssrc k.ssrc own.1 in
        let it = All-contains (HasWraps s) t.members.now c is.sent.only_wraps own.0 spi k.key k.roc sent in
        let w : Wrap = it.wrap in
        let right = right_wrap s t w is it.there in
        let at : secret_of s.secrets w.spi ≡ Some secret = ap (secret_of s.secrets) it.spi_is ∙ found in
        let under : IsWrappedUnder w secret = MatchOption-at_some ⊥ (IsWrappedUnder w) secret at right.wrapped in
        let ssrcs : w.ssrc ≡ k.ssrc = it.ssrc ∙ ssrc_is in
        let plain : wrapped_key secret.key (told w) ≡ wrapped_key secret.key k =
        λ i. wrapped_key secret.key (record { key = it.key_is i; ssrc = ssrcs i; roc = it.roc_is i }) in
        let octets_are : w.octets ≡ octets = under.octets ∙ plain ∙ sym (opens_only secret.key (length secret.key) octets k opened).1 in
        let passes : is_wrap spi octets w ≡ true =
        and_from (w.spi == spi) (bytes_eq w.octets octets) (eq-eqb w.spi spi it.spi_is) ((bytes_eq-Decides w.octets octets).1 octets_are) in
        ap (λ (o : Option Wrap). is_some o) (some_found (is_wrap spi octets) s.table.wraps w it.there passes).1

-- ---- what the code tells of an opened key

-- what was opened, of what is told of it
pub record IsOpenedAs (r : Result WrappedKey KeyFault) (w : Wrapped) : Type 0 where
  pub key : WrappedKey
  pub opened : r ≡ Ok key
  pub ssrc : w.ssrc ≡ key.ssrc
  pub roc : w.roc ≡ key.roc
  pub octets : take w.len w.key ≡ key.key

abbrev Tells : Result Wrapped KeyFault → Result WrappedKey KeyFault → Type 0
Tells result r = MatchResult r (λ k. result ≡ Ok (unwrapped_as k.key k.ssrc k.roc)) (λ fault. result ≡ Err fault)

pub opened_as : (result : Result Wrapped KeyFault) (r : Result WrappedKey KeyFault) (w : Wrapped) → Tells result r → result ≡ Ok w → IsOpenedAs r w
opened_as result (Err fault) w told is = let bad : ◌≡◌ {A = Result Wrapped KeyFault} (Err fault) (Ok w) = sym told ∙ is in absurd (cc)
opened_as result (Ok k) w told is =
    let same : ◌≡◌ {A = Result Wrapped KeyFault} (Ok (unwrapped_as k.key k.ssrc k.roc)) (Ok w) = sym told ∙ is in
    let e : unwrapped_as k.key k.ssrc k.roc ≡ w = cc in
    subst (IsOpenedAs (Ok k)) e (record { key = k; opened = refl; ssrc = refl; roc = refl; octets = take_at k.key (replicate (32 - length k.key) 0) (length k.key) refl })

pub shut_as : (result : Result Wrapped KeyFault) (r : Result WrappedKey KeyFault) (fault : KeyFault) → Tells result r → result ≡ Err fault
    → (f : KeyFault) × (r ≡ Err f)
shut_as result (Err f) fault told is = (f, refl)
shut_as result (Ok k) fault told is = let bad : ◌≡◌ {A = Result Wrapped KeyFault} (Ok (unwrapped_as k.key k.ssrc k.roc)) (Err fault) = sym told ∙ is in absurd (cc)
