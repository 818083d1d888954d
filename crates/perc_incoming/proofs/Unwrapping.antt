-- The record of an SPI, and what a key carries that was unwrapped under it.
use Rattle.std.proofs.Common.{◌≡◌, ℕ, Bool, true, false, cond, List, [], ◌∷◌, ◌++◌, length, take, drop, arith, append_assoc, ◌+◌, ◌-◌, ◌≤◌, length-append, length-drop, Option, Some, None, Result, Ok, Err, refl, ap, ◌∙◌, sym, subst}
use Rattle.std.specs.Prelude.{◌==◌, ◌||◌, if◌then◌else◌, map, find, is_some, IsErr, MatchOption, MatchResult}
use Rattle.std.specs.Option.{option_map}
use Rattle.std.specs.Result.{result_ok}
use Rattle.std.proofs.lemmas.Bool.{eq-eqb, eqb-true, false_from_ne_true}
use Rattle.std.proofs.lemmas.List.{take_at}
use Rattle.std.specs.declared.ops.Range.{Range}
use Rattle.byteorder.specs.Endian.{big_bytes}
use Rattle.perc_ekt.specs.Field.{Field, Short, Full, Extension, spelling, told_of}
use Rattle.perc_ekt.specs.declared.field.EktField.TheVariants as told_as
use Rattle.perc_ekt.specs.Key.{WrappedKey, opened_key, unwrapped_as}
use Rattle.perc_ekt.specs.declared.key.Wrapped.{Wrapped}
use Rattle.perc_ekt.specs.declared.key.KeyFault.{KeyFault}
use Rattle.perc_ekt.specs.declared.key.KeyFault.TheVariants as ekt
use Rattle.perc_ekt.specs.declared.record.EktKeyRecord.{EktKeyRecord}
use Rattle.perc_kdf.specs.Derivation.{KeyAndSalt}
use Rattle.perc_rtp.specs.Header.{Header}
use Rattle.perc_srtp.specs.Sealed.{BeginsWith, unsealed_body}
use Rattle.perc_double.specs.declared.ends.InnerFault.{InnerFault}
use Rattle.perc_contexts.specs.Receiving.{is_live}
use Rattle.perc_receiver.specs.declared.refusal.Refusal.{Refusal}
use Rattle.perc_receiver.specs.declared.refusal.Refusal.TheVariants as refusal
use Rattle.perc_receiver.specs.Table.{Secret, inner_keys, secret_in, secret_of}
use Rattle.perc_receiver.specs.Opener.{key_under}
use Rattle.perc_receiver.specs.Receiver.{carried_key, live_of}
use Rattle.perc_incoming.specs.Asking.{IsCarriedBy, IsOpened, body_at, carried_under, key_of, key_refusal}

-- ---- the record of an SPI

abbrev pub its : ℕ → EktKeyRecord → Bool
its spi r = r.spi == spi

secret_at : (b : Bool) (r : EktKeyRecord) (x : Option Secret) (y : Option EktKeyRecord) → x ≡ option_map secret_in y
    → cond b (Some (secret_in r)) x ≡ option_map secret_in (cond b (Some r) y)
secret_at true r x y is = refl
secret_at false r x y is = is

pub found_secret : (records : List EktKeyRecord) (spi : ℕ) → secret_of (map secret_in records) spi ≡ option_map secret_in (find (its spi) records)
found_secret [] spi = refl
found_secret (r ∷ records) spi = secret_at (r.spi == spi) r _ _ (found_secret records spi)

live_at : (b : Bool) (r : EktKeyRecord) (x : Bool) (y : Option EktKeyRecord) → x ≡ is_some y → (b || x) ≡ is_some (cond b (Some r) y)
live_at true r x y is = refl
live_at false r x y is = is

pub found_live : (records : List EktKeyRecord) (spi : ℕ) → is_live (live_of (map secret_in records)) spi ≡ is_some (find (its spi) records)
found_live [] spi = refl
found_live (r ∷ records) spi = live_at (r.spi == spi) r _ _ (found_live records spi)

-- ---- what is carried under it

pub carried_none : (records : List EktKeyRecord) (ssrc spi : ℕ) (cipher : List ℕ) → find (its spi) records ≡ None
    → carried_under (map secret_in records) ssrc spi cipher ≡ Err (refusal.SpiUnknown spi)
carried_none records ssrc spi cipher none =
    ap (λ (b : Bool). if b then carried_key spi ssrc (key_under (secret_of (map secret_in records) spi) cipher) else Err (refusal.SpiUnknown spi))
    (found_live records spi ∙ ap is_some none)

pub carried_some : (records : List EktKeyRecord) (ssrc spi : ℕ) (cipher : List ℕ) (r : EktKeyRecord) → find (its spi) records ≡ Some r
    → carried_under (map secret_in records) ssrc spi cipher ≡ carried_key spi ssrc (opened_key (secret_in r).key (length (secret_in r).key) cipher)
carried_some records ssrc spi cipher r some =
    ap (λ (b : Bool). if b then carried_key spi ssrc (key_under (secret_of (map secret_in records) spi) cipher) else Err (refusal.SpiUnknown spi))
    (found_live records spi ∙ ap is_some some)
    ∙ ap (λ (s : Option Secret). carried_key spi ssrc (key_under s cipher)) (found_secret records spi ∙ ap (option_map secret_in) some)

abbrev pub Unwraps : Result WrappedKey KeyFault → Result Wrapped Refusal → Type 0
Unwraps found result = MatchResult found (λ k. result ≡ Ok (unwrapped_as k.key k.ssrc k.roc)) (λ fault. result ≡ Err (key_refusal fault))

pub carried_refused : (spi ssrc : ℕ) (found : Result WrappedKey KeyFault) (e : Refusal) → Unwraps found (Err e) → carried_key spi ssrc found ≡ Err e
carried_refused spi ssrc (Ok k) e is = absurd (cc)
carried_refused spi ssrc (Err ekt.Unwrap) e is = let same : e ≡ refusal.Unwrap = cc in ap Err (sym same)
carried_refused spi ssrc (Err ekt.Plain) e is = let same : e ≡ refusal.EktPlain = cc in ap Err (sym same)

told_key : (spi : ℕ) (k : WrappedKey) (w : Wrapped) → w ≡ unwrapped_as k.key k.ssrc k.roc
    → Some (key_of (record { spi = spi; wrapped = w })) ≡ Some (record { spi = spi; key = k.key; roc = k.roc })
told_key spi k w is =
    ap (λ (v : Wrapped). Some (key_of (record { spi = spi; wrapped = v }))) is
    ∙ ap (λ (key : List ℕ). Some (record { spi = spi; key = key; roc = k.roc })) (take_at k.key _ (length k.key) refl)

pub carried_same : (spi ssrc : ℕ) (found : Result WrappedKey KeyFault) (w : Wrapped) → Unwraps found (Ok w) → w.ssrc ≡ ssrc
    → IsCarriedBy (carried_key spi ssrc found) (Ok (Some (record { spi = spi; wrapped = w })))
carried_same spi ssrc (Ok k) w is same =
    let w_is : w ≡ unwrapped_as k.key k.ssrc k.roc = cc in
    let ssrc_is : (k.ssrc == ssrc) ≡ true = eq-eqb k.ssrc ssrc (sym (ap (λ (v : Wrapped). v.ssrc) w_is) ∙ same) in
    told_key spi k w w_is ∙ sym (ap (λ (b : Bool). if b then Some (record { spi = spi; key = k.key; roc = k.roc }) else None) ssrc_is)
carried_same spi ssrc (Err fault) w is same = absurd (cc)

pub carried_other : (spi ssrc : ℕ) (found : Result WrappedKey KeyFault) (w : Wrapped) → Unwraps found (Ok w) → (w.ssrc ≡ ssrc → ⊥)
    → IsCarriedBy (carried_key spi ssrc found) (Ok None)
carried_other spi ssrc (Ok k) w is other =
    let w_is : w ≡ unwrapped_as k.key k.ssrc k.roc = cc in
    let ssrc_is : (k.ssrc == ssrc) ≡ false = false_from_ne_true (k.ssrc == ssrc) (λ same. other (ap (λ (v : Wrapped). v.ssrc) w_is ∙ eqb-true k.ssrc ssrc same)) in
    sym (ap (λ (b : Bool). if b then Some (record { spi = spi; key = k.key; roc = k.roc }) else None) ssrc_is)
carried_other spi ssrc (Err fault) w is other = absurd (cc)

-- ---- the field that carries it

-- It is a full field with this SPI, and its wrapped key stands between these offsets.
pub record IsFull (f : Field) (n spi start end : ℕ) : Type 0 where
  pub cipher : List ℕ
  pub epoch : ℕ
  pub is : f ≡ Full cipher spi epoch
  pub start_is : start ≡ n
  pub end_is : end ≡ n + length cipher

pub full_field : (f : Field) (n spi epoch : ℕ) (range : Range ℕ) → told_as.Full spi epoch range ≡ told_of f n → IsFull f n spi range.start range.end
full_field Short n spi epoch range told = absurd (cc)
full_field (Extension octets kind) n spi epoch range told = absurd (cc)
full_field (Full cipher s e) n spi epoch range told =
    let spi_is : spi ≡ s = cc in
    let range_is : ◌≡◌ {A = Range ℕ} range (record { start = n; end = n + length cipher }) = cc in
    record {
      cipher = cipher;
      epoch = e;
      is = ap (λ (x : ℕ). Full cipher x e) (sym spi_is);
      start_is = ap (λ (r : Range ℕ). r.start) range_is;
      end_is = ap (λ (r : Range ℕ). r.end) range_is;
    }

record Behind (cipher octets : List ℕ) : Type 0 where
  pub tail : List ℕ
  pub is : octets ≡ cipher ++ tail
  pub some : 1 ≤ length tail

full_behind : (cipher : List ℕ) (spi epoch : ℕ) → Behind cipher (spelling (Full cipher spi epoch))
unfolding spelling
full_behind cipher spi epoch =
    let numbers : List ℕ = big_bytes 2 spi ++ big_bytes 2 epoch ++ big_bytes 2 (length cipher + 7) in
    record { tail = numbers ++ 2 ∷ []; is = simp append_assoc refl; some = omega (arith, length-append numbers (2 ∷ [])) }

module _ (f : Field) (n spi start end : ℕ) (d : List ℕ) (full : IsFull f n spi start end) (at : drop n d ≡ spelling f) where
  there : Behind full.cipher (drop n d)
  there = subst (Behind full.cipher) (sym (at ∙ ap spelling full.is)) (full_behind full.cipher spi full.epoch)

  pub full_rising : start ≤ end
  full_rising = omega (arith, full.start_is, full.end_is)

  pub full_within : end ≤ length d
  full_within = let t = there in omega (arith, full.start_is, full.end_is, t.some, ap length t.is, length-append full.cipher t.tail, length-drop n d)

  pub full_part : take (end - start) (drop start d) ≡ full.cipher
  full_part =
      let t = there in
      let m : end - start ≡ length full.cipher = omega (arith, full.start_is, full.end_is) in
      (λ i. take (m i) (drop (full.start_is i) d)) ∙ ap (take (length full.cipher)) t.is ∙ take_at full.cipher t.tail (length full.cipher) refl

-- ---- what opens under it

pub opened_not : (records : List EktKeyRecord) (spi : ℕ) (key : List ℕ) (index : ℕ) (h : Header) (octets room : List ℕ) (result : Option ℕ)
    → find (its spi) records ≡ None → result ≡ None → IsOpened (body_at (secret_of (map secret_in records) spi) key index h octets) result room
opened_not records spi key index h octets room result none is =
    subst (λ (s : Option Secret). IsOpened (body_at s key index h octets) result room) (sym (found_secret records spi ∙ ap (option_map secret_in) none)) is

opened_as : (found : Option (List ℕ)) (r : Result ℕ InnerFault) (room : List ℕ) (Same : Type 0)
    → MatchOption found (IsErr r × Same) (λ plain. (r ≡ Ok (length plain)) × BeginsWith plain room) → IsOpened found (result_ok r) room
opened_as None (Ok n) room _ is = absurd (cc)
opened_as None (Err e) room _ is = refl
opened_as (Some plain) r room _ is = (ap result_ok is.0, is.1)

pub opened_found : (records : List EktKeyRecord) (spi : ℕ) (key : List ℕ) (index : ℕ) (h : Header) (octets room : List ℕ) (r : EktKeyRecord) (keys : KeyAndSalt)
    (answer : Result ℕ InnerFault) (Same : Type 0) → find (its spi) records ≡ Some r → keys ≡ inner_keys (secret_in r) key
    → MatchOption (unsealed_body keys index h octets) (IsErr answer × Same) (λ plain. (answer ≡ Ok (length plain)) × BeginsWith plain room)
    → IsOpened (body_at (secret_of (map secret_in records) spi) key index h octets) (result_ok answer) room
opened_found records spi key index h octets room r keys answer Same some keys_are is =
    let e : body_at (secret_of (map secret_in records) spi) key index h octets ≡ unsealed_body keys index h octets =
    ap (λ (s : Option Secret). body_at s key index h octets) (found_secret records spi ∙ ap (option_map secret_in) some)
    ∙ ap (λ (k : KeyAndSalt). unsealed_body k index h octets) (sym keys_are) in
    subst (λ (x : Option (List ℕ)). IsOpened x (result_ok answer) room) (sym e) (opened_as (unsealed_body keys index h octets) answer room Same is)
