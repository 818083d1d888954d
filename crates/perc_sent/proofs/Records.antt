-- The record of an SPI stands at its place.
use Rattle.std.proofs.Common.{◌≡◌, ℕ, zero, suc, ◌+◌, List, [], ◌∷◌, length, get_or, map, Option, Some, None, refl, sym, ap, ◌∙◌, arith}
use Rattle.std.specs.Prelude.{IfSome, is_some, nat_lt, slice_get, ◌==◌}
use Rattle.std.specs.Option.{option_map}
use Rattle.std.specs.Borrow.{Bor}
use Rattle.std.proofs.lemmas.Bool.{eq-eqb, eqb-true, ltb-false, ltb-true}
use Rattle.std.proofs.lemmas.Option.{slice_get_past, slice_get_read}
use Rattle.std.proofs.lemmas.List.Elements.{All-contains}
use Rattle.perc_base.specs.Profile.{key_length}
use Rattle.perc_base.specs.declared.profile.Profile.{Profile}
use Rattle.perc_ekt.specs.declared.record.EktKeyRecord.{EktKeyRecord}
use Rattle.perc_ekt.specs.Record.{IsRecord}
use Rattle.perc_incoming.specs.Kept.{IsRecordFor}
use Rattle.perc_receiver.specs.Table.{Secret, secret_in, secret_of}
use Rattle.perc_sent.specs.Sent.{MirrorsRecords}
use Rattle.perc_sent.proofs.Finding.{contains_at, find_none, find_only, place_of}

-- what stands at a place of a list that was mapped
mapped_at : {X Y : Type 0} (f : X → Y) (xs : List X) (k : ℕ) (y : Y) → slice_get (map f xs) k ≡ Some y → (x : X) × (slice_get xs k ≡ Some x) × (f x ≡ y)
mapped_at f [] k y at = absurd (cc)
mapped_at f (x ∷ xs) zero y at = (x, refl, cc)
mapped_at f (x ∷ xs) (suc k) y at = mapped_at f xs k y at

at_mapped : {X Y : Type 0} (f : X → Y) (xs : List X) (k : ℕ) (x : X) → slice_get xs k ≡ Some x → slice_get (map f xs) k ≡ Some (f x)
at_mapped f [] k x at = absurd (cc)
at_mapped f (y ∷ xs) zero x at = let e : y ≡ x = cc in ap (λ z. Some (f z)) e
at_mapped f (y ∷ xs) (suc k) x at = at_mapped f xs k x at

-- A secret that was issued has the SPI behind its place.
its_place : (profile : Profile) (records : List EktKeyRecord) (secrets : List Secret) (k : ℕ) (s : Secret) → MirrorsRecords profile records secrets
    → slice_get secrets k ≡ Some s → (r : EktKeyRecord) × (slice_get records k ≡ Some r) × (s ≡ secret_in r) × (s.spi ≡ k + 1)
its_place profile records secrets k s is at =
    let it = mapped_at secret_in records k s (ap (λ (l : List Secret). slice_get l k) is.secrets_are ∙ at) in
    (it.0, it.1, sym it.2, ap (λ (x : Secret). x.spi) (sym it.2) ∙ is.spis k it.0 it.1)

-- no SPI is 0
pub no_record : (profile : Profile) (records : List EktKeyRecord) (secrets : List Secret) → MirrorsRecords profile records secrets → secret_of secrets 0 ≡ None
no_record profile records secrets is =
    find_none (λ (s : Secret). s.spi == 0) secrets λ s there passes.
    let it = its_place profile records secrets there.0 s is (place_of secrets s there) in
    let zero_is : s.spi ≡ 0 = eqb-true s.spi 0 passes in
    let spi = it.3 in
    omega arith

pub record_at : (profile : Profile) (records : List EktKeyRecord) (secrets : List Secret) (spi k : ℕ) → MirrorsRecords profile records secrets → spi ≡ k + 1
    → option_map secret_in (slice_get records k) ≡ secret_of secrets spi
record_at profile records secrets spi k is spi_is = by (slice_get records k) refl where
  by : (o : Option EktKeyRecord) → slice_get records k ≡ o → option_map secret_in o ≡ secret_of secrets spi
  by None at =
      sym (find_none (λ (s : Secret). s.spi == spi) secrets λ s there passes.
      let it = its_place profile records secrets there.0 s is (place_of secrets s there) in
      let same : s.spi ≡ spi = eqb-true s.spi spi passes in
      let own = it.3 in
      let place : there.0 ≡ k = omega arith in
      let bad : ◌≡◌ {A = Option EktKeyRecord} (Some it.0) None = sym it.1 ∙ ap (slice_get records) place ∙ at in
      cc)
  by (Some r) at =
      let found : slice_get secrets k ≡ Some (secret_in r) = ap (λ (l : List Secret). slice_get l k) (sym is.secrets_are) ∙ at_mapped secret_in records k r at in
      sym (find_only (λ (s : Secret). s.spi == spi) secrets (secret_in r) (contains_at secrets k (secret_in r) found)
      (eq-eqb r.spi spi (is.spis k r at ∙ sym spi_is))
      λ s there passes.
      let it = its_place profile records secrets there.0 s is (place_of secrets s there) in
      let same : s.spi ≡ spi = eqb-true s.spi spi passes in
      let own = it.3 in
      let place : there.0 ≡ k = omega arith in
      let one : ◌≡◌ {A = Option EktKeyRecord} (Some it.0) (Some r) = sym it.1 ∙ ap (slice_get records) place ∙ at in
      let e : it.0 ≡ r = cc in
      it.2 ∙ ap secret_in e)

-- what was got of the records' place
pub record_got : (records : List EktKeyRecord) (k : ℕ) (o : Option (Bor EktKeyRecord)) → is_some o ≡ nat_lt k (length records)
    → IfSome o (λ x. x.now ≡ get_or records k x.now) → option_map (λ x. secret_in x.now) o ≡ option_map secret_in (slice_get records k)
record_got records k None within is = rw (slice_get_past records k (ltb-false k (length records) (sym within))) refl
record_got records k (Some x) within is = rw (slice_get_read records (length records) k x.now refl (ltb-true k (length records) (sym within)) is) refl

pub record_right : (profile : Profile) (records : List EktKeyRecord) (secrets : List Secret) (k : ℕ) (o : Option (Bor EktKeyRecord)) → MirrorsRecords profile records secrets
    → is_some o ≡ nat_lt k (length records) → IfSome o (λ x. x.now ≡ get_or records k x.now) → IfSome o (λ x. IsRecordFor profile x.now)
record_right profile records secrets k None is within at = tt
record_right profile records secrets k (Some x) is within at =
    let there = contains_at records k x.now (slice_get_read records (length records) k x.now refl (ltb-true k (length records) (sym within)) at) in record {
      right = All-contains IsRecord records x.now is.right there;
      key = All-contains (λ (r : EktKeyRecord). r.len ≡ key_length profile) records x.now is.size there;
    }
