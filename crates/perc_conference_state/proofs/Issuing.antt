-- An EKT key is issued: its record has the next SPI, and its key is found from then on.
use Rattle.std.proofs.Common.{◌≡◌, ◌⊎◌, ℕ, zero, suc, ◌+◌, ◌-◌, ◌^◌, ◌<◌, ◌≤◌, Bool, true, false, cond, ◌||◌, ◌==◌, List, [], ◌∷◌, ◌++◌, length}
use Rattle.std.proofs.Common.{map, take, drop, replicate, Option, Some, None, slice_get, inl, inr, refl, sym, ap, ◌∙◌, subst, arith, nat_cmp}
use Rattle.std.specs.BTreeMap as tree
use Rattle.std.specs.BTreeMap.{BTreeMap}
use Rattle.std.specs.Cmp.{Equal-is, both_ways}
use Rattle.std.specs.Cmp.Lexicographic.{slice_cmp}
use Rattle.std.specs.List.{list_any}
use Rattle.std.specs.Option.{is_some, option_map_or}
use Rattle.std.specs.Ordering.{is_eq}
use Rattle.std.specs.Prelude.{nat_lt}
use Rattle.std.specs.Str.{bytes_eq}
use Rattle.std.proofs.lemmas.Bool.{or_parts}
use Rattle.std.proofs.lemmas.Bool.Decides.{nat_tests}
use Rattle.std.proofs.lemmas.Cmp.{nat_list_cmp_total, tied_itself}
use Rattle.std.proofs.lemmas.List.{length-append, length-map, length-replicate, map-append}
use Rattle.std.proofs.lemmas.List.Elements.{All-push}
use Rattle.std.proofs.lemmas.List.Folds.{list_any-append}
use Rattle.std.proofs.lemmas.Map.Lookups.{exact_bytes}
use Rattle.std.proofs.lemmas.Option.{same_Some}
use Rattle.std.proofs.lemmas.Slice.Eq.{bytes_eq-Decides}
use Rattle.std.proofs.Math.Seq.{take-append_seam, drop-append_seam}
use Rattle.perc_base.specs.Profile.{key_length}
use Rattle.perc_base.specs.declared.profile.Profile.{Profile}
use Rattle.perc_base.specs.declared.profile.Profile.TheVariants.{Aes128, Aes256}
use Rattle.perc_ekt.specs.Key.{stored}
use Rattle.perc_ekt.specs.Record.{IsRecord}
use Rattle.perc_ekt.specs.declared.record.EktKeyRecord.{EktKeyRecord}
use Rattle.perc_keeper.specs.Lists.{higher, key_of, newest, spi_of}
use Rattle.perc_keydist.specs.Distributing.{next_spi}
use Rattle.perc_receiver.specs.Table.{Secret, secret_in, secret_of}
use Rattle.perc_report_line.specs.Report.{Ekt}
use Rattle.perc_run.specs.Keys.{ekt_turn}
use Rattle.perc_run.specs.State.{Goes, Refused, State}
use Rattle.perc_script_line.specs.declared.reason.Reason.TheVariants.{Key, Limit}
use Rattle.perc_sent.specs.Sent.{MirrorsRecords}
use Rattle.perc_conference_state.specs.Mirror.{is_issued, padded}
use Rattle.perc_conference_state.proofs.Lists.{push_cases}

-- ---- turns

pub ekt_used : (s : State) (key salt : List ℕ) → list_any (λ x. bytes_eq x.key key) s.secrets ≡ true → ekt_turn s key salt ≡ Refused Key
unfolding ekt_turn
ekt_used s key salt used = rw used refl

pub ekt_full : (s : State) (key salt : List ℕ) → list_any (λ x. bytes_eq x.key key) s.secrets ≡ false → 65535 ≤ length s.secrets → ekt_turn s key salt ≡ Refused Limit
unfolding ekt_turn
ekt_full s key salt used full = rw used (grind (arith, nat_tests))

pub ekt_goes : (s : State) (key salt : List ℕ) → list_any (λ x. bytes_eq x.key key) s.secrets ≡ false → length s.secrets < 65535
    → ekt_turn s key salt ≡ Goes (Ekt (length s.secrets + 1) ∷ []) (record s { secrets = s.secrets ++ record { spi = length s.secrets + 1; key = key; salt = salt } ∷ [] })
unfolding ekt_turn
ekt_goes s key salt used room = rw used (grind (arith, nat_tests))

-- ---- keys

key_of_padded : (key : List ℕ) → take (length key) (padded key) ≡ key
key_of_padded key = take-append_seam key (replicate (32 - length key) 0)

-- Keys of one length are one where they are one behind zeros.
same_padded : (key other : List ℕ) → length key ≡ length other → is_eq (slice_cmp nat_cmp (padded key) (padded other)) ≡ bytes_eq key other
same_padded key other size =
    both_ways (is_eq (slice_cmp nat_cmp (padded key) (padded other))) (bytes_eq key other)
    (λ tied.
    let whole = exact_bytes (padded key) (padded other) ((Equal-is (slice_cmp nat_cmp (padded key) (padded other))).0 tied) in
    (bytes_eq-Decides key other).1 (sym (key_of_padded key) ∙ ap (take (length key)) whole ∙ ap (λ n. take n (padded other)) size ∙ key_of_padded other))
    (λ same.
    let is = (bytes_eq-Decides key other).0 same in
    ap (λ (x : List ℕ). is_eq (slice_cmp nat_cmp (padded key) (padded x))) (sym is) ∙ ap is_eq (tied_itself nat_list_cmp_total (padded key)))

some_or : (b : Bool) (spi : ℕ) (o : Option ℕ) → is_some (cond b (Some spi) o) ≡ (is_some o || (b || false))
some_or true spi None = refl
some_or true spi (Some n) = refl
some_or false spi None = refl
some_or false spi (Some n) = refl

-- One key more is issued.
pub issued_more : (m n : BTreeMap (List ℕ) ℕ) (size spi : ℕ) (secrets : List Secret) (new : Secret) → length new.key ≡ size
    → tree.Updates (slice_cmp nat_cmp) m n (padded new.key) (Some spi)
    → ((key : List ℕ) → length key ≡ size → is_issued m key ≡ list_any (λ x. bytes_eq x.key key) secrets)
    → (key : List ℕ) → length key ≡ size → is_issued n key ≡ list_any (λ x. bytes_eq x.key key) (secrets ++ new ∷ [])
issued_more m n size spi secrets new fits updates before key size_is =
    ap is_some (updates.0 (padded key))
    ∙ some_or (is_eq (slice_cmp nat_cmp (padded new.key) (padded key))) spi (tree.get (slice_cmp nat_cmp) m (padded key))
    ∙ ap (λ (b : Bool). is_issued m key || (b || false)) (same_padded new.key key (fits ∙ sym size_is))
    ∙ ap (λ (b : Bool). b || (bytes_eq new.key key || false)) (before key size_is)
    ∙ sym (list_any-append (λ (x : Secret). bytes_eq x.key key) secrets (new ∷ []))

-- ---- records

-- the record that the code makes of a key and a salt
pub record IsMade (r : EktKeyRecord) (key salt : List ℕ) (spi : ℕ) : Type 0 where
  pub key_is : r.key ≡ stored key
  pub len : r.len ≡ length key
  pub salt_is : r.salt ≡ salt
  pub spi_is : r.spi ≡ spi
  pub life : r.life ≡ 86400

pub secret_made : (r : EktKeyRecord) (key salt : List ℕ) (spi : ℕ) → IsMade r key salt spi → secret_in r ≡ record { spi = spi; key = key; salt = salt }
secret_made r key salt spi made =
    let whole : take r.len r.key ≡ key = ap (λ n. take n r.key) made.len ∙ ap (take (length key)) made.key_is ∙ key_of_padded key in
    λ i. record { spi = made.spi_is i; key = whole i; salt = made.salt_is i }

key_sizes : (profile : Profile) (n : ℕ) → n ≡ key_length profile → (n ≡ 16) ⊎ (n ≡ 32)
key_sizes Aes128 n is = inl is
key_sizes Aes256 n is = inr is

pub key_short : (profile : Profile) (n : ℕ) → n ≡ key_length profile → n ≤ 32
key_short Aes128 n is = omega (arith, is)
key_short Aes256 n is = omega (arith, is)

pub right_record : (profile : Profile) (r : EktKeyRecord) (key salt : List ℕ) (spi : ℕ) → IsMade r key salt spi → length key ≡ key_length profile → length salt ≡ 12
    → spi < 2 ^ 16 → IsRecord r
right_record profile r key salt spi made size twelve fits = record {
  size = key_sizes profile r.len (made.len ∙ size);
  room = ap length made.key_is ∙ omega (arith, length-append key (replicate (32 - length key) 0), length-replicate {A = ℕ} (32 - length key) 0, key_short profile (length key) size);
  zeros = ap (drop r.len) made.key_is ∙ ap (λ n. drop n (stored key)) made.len ∙ drop-append_seam key (replicate (32 - length key) 0) ∙ ap (λ n. replicate (32 - n) 0) (sym made.len);
  salt = ap length made.salt_is ∙ twelve;
  spi = omega (arith, made.spi_is);
  life = omega (arith, made.life);
}

pub records_more : (profile : Profile) (records : List EktKeyRecord) (secrets : List Secret) (r : EktKeyRecord) → MirrorsRecords profile records secrets → IsRecord r
    → r.len ≡ key_length profile → r.spi ≡ length records + 1
    → MirrorsRecords profile (records ++ r ∷ []) (secrets ++ secret_in r ∷ [])
records_more profile records secrets r h right len spi = record {
  secrets_are = map-append secret_in records (r ∷ []) ∙ ap (λ xs. xs ++ secret_in r ∷ []) h.secrets_are;
  right = All-push IsRecord records r h.right right;
  size = All-push (λ (x : EktKeyRecord). x.len ≡ key_length profile) records r h.size len;
  spis = λ k x at.
      elim (push_cases records k r x at) [
        | inl v ↦ ap (λ (y : EktKeyRecord). y.spi) v.1 ∙ spi ∙ ap (λ n. n + 1) (sym v.0)
        | inr v ↦ h.spis k x v
      ];
}

-- the records' number is that of the secrets
pub records_count : (profile : Profile) (records : List EktKeyRecord) (secrets : List Secret) → MirrorsRecords profile records secrets → length records ≡ length secrets
records_count profile records secrets h = sym (length-map records secret_in) ∙ ap length h.secrets_are

-- ---- the record of an SPI

abbrev RiseFrom : ℕ → List EktKeyRecord → Type 0
RiseFrom first records = (k : ℕ) (r : EktKeyRecord) → slice_get records k ≡ Some r → r.spi ≡ first + k

rise_tail : (first : ℕ) (r : EktKeyRecord) (records : List EktKeyRecord) → RiseFrom first (r ∷ records) → RiseFrom (first + 1) records
rise_tail first r records rise k x at = rise (suc k) x at ∙ omega arith

find_at : (records : List EktKeyRecord) (first i spi : ℕ) (x : EktKeyRecord) → RiseFrom first records → slice_get records i ≡ Some x → spi ≡ first + i
    → secret_of (map secret_in records) spi ≡ Some (secret_in x)
find_at [] first i spi x rise at is = absurd (cc)
find_at (r ∷ records) first zero spi x rise at is =
    let own = rise 0 r refl in
    let same : r ≡ x = same_Some r x at in
    let test : (r.spi == spi) ≡ true = grind (arith, nat_tests) in
    rw test (ap (λ (y : EktKeyRecord). Some (secret_in y)) same)
find_at (r ∷ records) first (suc i) spi x rise at is =
    let own = rise 0 r refl in
    let test : (r.spi == spi) ≡ false = grind (arith, nat_tests) in
    rw test (find_at records (first + 1) i spi x (rise_tail first r records rise) at (omega arith))

find_missing : (records : List EktKeyRecord) (first spi : ℕ) → RiseFrom first records → (spi < first) ⊎ (first + length records ≤ spi) → secret_of (map secret_in records) spi ≡ None
find_missing [] first spi rise out = refl
find_missing (r ∷ records) first spi rise out =
    let own = rise 0 r refl in
    let test : (r.spi == spi) ≡ false = elim out [ inl low ↦ grind (arith, nat_tests) | inr high ↦ grind (arith, nat_tests) ] in
    let later : (spi < first + 1) ⊎ (first + 1 + length records ≤ spi) = elim out [ inl low ↦ inl (omega arith) | inr high ↦ inr (omega arith) ] in
    rw test (find_missing records (first + 1) spi (rise_tail first r records rise) later)

rise : (profile : Profile) (records : List EktKeyRecord) (secrets : List Secret) → MirrorsRecords profile records secrets → RiseFrom 1 records
rise profile records secrets h k r at = h.spis k r at ∙ omega arith

pub secret_at : (profile : Profile) (records : List EktKeyRecord) (secrets : List Secret) (i spi : ℕ) (r : EktKeyRecord) → MirrorsRecords profile records secrets
    → slice_get records i ≡ Some r → spi ≡ 1 + i
    → secret_of secrets spi ≡ Some (secret_in r)
secret_at profile records secrets i spi r h at is =
    subst (λ (xs : List Secret). secret_of xs spi ≡ Some (secret_in r)) h.secrets_are (find_at records 1 i spi r (rise profile records secrets h) at is)

pub secret_missing : (profile : Profile) (records : List EktKeyRecord) (secrets : List Secret) (spi : ℕ) → MirrorsRecords profile records secrets
    → (spi < 1) ⊎ (1 + length records ≤ spi) → secret_of secrets spi ≡ None
secret_missing profile records secrets spi h out =
    subst (λ (xs : List Secret). secret_of xs spi ≡ None) h.secrets_are (find_missing records 1 spi (rise profile records secrets h) out)

-- ---- the newest record

-- the newest of records is their last
pub record IsNewest (first : ℕ) (records : List EktKeyRecord) : Type 0 where
  pub last : EktKeyRecord
  pub newest_is : newest records ≡ Some last
  pub at : slice_get records (length records - 1) ≡ Some last
  pub spi : last.spi + 1 ≡ first + length records

newest_of : (r : EktKeyRecord) (records : List EktKeyRecord) (first : ℕ) → RiseFrom first (r ∷ records) → IsNewest first (r ∷ records)
newest_of r [] first rise =
    let own = rise 0 r refl in
    record { last = r; newest_is = refl; at = refl; spi = omega arith }
newest_of r (x ∷ records) first rise =
    let later = newest_of x records (first + 1) (rise_tail first r (x ∷ records) rise) in
    let own = rise 0 r refl in
    let spi = later.spi in
    let test : nat_lt later.last.spi r.spi ≡ false = grind (arith, nat_tests) in
    let place : length (r ∷ x ∷ records) - 1 ≡ suc (length (x ∷ records) - 1) = omega arith in
    record {
      last = later.last;
      newest_is = ap (higher r) later.newest_is ∙ rw test refl;
      at = ap (slice_get (r ∷ x ∷ records)) place ∙ later.at;
      spi = omega arith;
    }

-- what stands last is the newest
pub newest_last : (profile : Profile) (records : List EktKeyRecord) (secrets : List Secret) (r : EktKeyRecord) → MirrorsRecords profile records secrets
    → slice_get records (length records - 1) ≡ Some r → newest records ≡ Some r
newest_last profile [] secrets r h at = absurd cc
newest_last profile (x ∷ records) secrets r h at =
    let it = newest_of x records 1 (rise profile (x ∷ records) secrets h) in
    it.newest_is ∙ sym it.at ∙ at

-- SPIs go on behind the last.
pub next_is : (profile : Profile) (records : List EktKeyRecord) (secrets : List Secret) → MirrorsRecords profile records secrets → next_spi records ≡ length secrets + 1
next_is profile [] secrets h = ap (λ n. n + 1) (records_count profile [] secrets h)
next_is profile (x ∷ records) secrets h =
    let it = newest_of x records 1 (rise profile (x ∷ records) secrets h) in
    let count = records_count profile (x ∷ records) secrets h in
    let spi = it.spi in
    ap (λ (o : Option EktKeyRecord). option_map_or (λ r. r.spi + 1) o 1) it.newest_is ∙ omega arith

none_under : (records : List EktKeyRecord) (key : List ℕ) → list_any (λ (x : Secret). bytes_eq x.key key) (map secret_in records) ≡ false → spi_of records key ≡ None
none_under [] key none = refl
none_under (r ∷ records) key none =
    let parts = or_parts (bytes_eq (key_of r) key) (list_any (λ (x : Secret). bytes_eq x.key key) (map secret_in records)) none in
    rw parts.0 (none_under records key parts.1)

-- A key that was never issued has no SPI.
pub no_spi : (profile : Profile) (records : List EktKeyRecord) (secrets : List Secret) (key : List ℕ) → MirrorsRecords profile records secrets
    → list_any (λ x. bytes_eq x.key key) secrets ≡ false → spi_of records key ≡ None
no_spi profile records secrets key h unused =
    none_under records key (ap (list_any (λ (x : Secret). bytes_eq x.key key)) h.secrets_are ∙ unused)
