-- How keys with their salts compare: equality tells them apart, and the order is total and agrees with it.
use Rattle.std.proofs.Common.{◌≡◌, true, refl, ap, subst}
use Rattle.std.proofs.lemmas.Bool.Decides.{Decides-and, Decides-like, same_from_decides}
use Rattle.std.proofs.lemmas.Cmp.{tied_itself}
use Rattle.std.proofs.lemmas.Map.Lookups.{CmpEqualImpliesEq, exact_bytes}
use Rattle.std.proofs.lemmas.Slice.Eq.{bytes_eq-Decides}
use Rattle.std.specs.Bool.{Decides}
use Rattle.std.specs.Cmp.{IsTotalOrder, nat_cmp_total, on_total, then_total}
use Rattle.std.specs.Cmp.Lexicographic.{slice_cmp, lists_total}
use Rattle.std.specs.Ordering.{is_eq, nat_cmp, ordering_then}
use Rattle.std.specs.Str.{bytes_eq}
use Rattle.std.specs.declared.cmp.Ordering.{Ordering}
use Rattle.std.specs.declared.cmp.Ordering.TheVariants.{Less, Equal, Greater}
use Rattle.perc_kdf.specs.Derivation.{KeyAndSalt}
use Rattle.perc_kdf.specs.Order.{pair_cmp, same_pair}

pub same_pair-Decides : (p q : KeyAndSalt) → Decides (same_pair p q) (p ≡ q)
same_pair-Decides p q =
    Decides-like (same_pair p q)
    (λ (h : (p.key ≡ q.key) × (p.salt ≡ q.salt)). let whole : p ≡ q = (λ i. record { key = h.0 i; salt = h.1 i }) in whole)
    (λ (e : p ≡ q). (ap (λ (m : KeyAndSalt). m.key) e, ap (λ (m : KeyAndSalt). m.salt) e))
    (Decides-and (bytes_eq p.key q.key) (bytes_eq p.salt q.salt) (bytes_eq-Decides p.key q.key) (bytes_eq-Decides p.salt q.salt))

pub pair_cmp_total : IsTotalOrder pair_cmp
pair_cmp_total =
    then_total (on_total (λ (m : KeyAndSalt). m.key) (lists_total nat_cmp_total)) (on_total (λ (m : KeyAndSalt). m.salt) (lists_total nat_cmp_total))

both_equal : (a b : Ordering) → ordering_then a b ≡ Equal → (a ≡ Equal) × (b ≡ Equal)
both_equal Less b h = cc
both_equal Equal b h = (refl, h)
both_equal Greater b h = cc

pub pair_cmp_exact : CmpEqualImpliesEq pair_cmp
pair_cmp_exact p q h =
    let both = both_equal (slice_cmp nat_cmp p.key q.key) (slice_cmp nat_cmp p.salt q.salt) h in
    let key : p.key ≡ q.key = exact_bytes p.key q.key both.0 in
    let salt : p.salt ≡ q.salt = exact_bytes p.salt q.salt both.1 in
    λ i. record { key = key i; salt = salt i }

is_Equal : (o : Ordering) → is_eq o ≡ true → o ≡ Equal
is_Equal Less h = cc
is_Equal Equal h = refl
is_Equal Greater h = cc

-- the order ties two pairs exactly where they are equal
pub pair_cmp_ties : (p q : KeyAndSalt) → is_eq (pair_cmp p q) ≡ same_pair p q
pair_cmp_ties p q =
    same_from_decides (is_eq (pair_cmp p q)) (same_pair p q) (
      λ (h : is_eq (pair_cmp p q) ≡ true). pair_cmp_exact p q (is_Equal (pair_cmp p q) h),
      λ (e : p ≡ q). subst (λ (r : KeyAndSalt). is_eq (pair_cmp p r) ≡ true) e (ap is_eq (tied_itself pair_cmp_total p)),
    )
    (same_pair-Decides p q)
