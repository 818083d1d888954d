-- The keys that a member took: the last is the one that it sends under.
use Rattle.std.proofs.Common.{◌≡◌, ℕ, ◌+◌, ◌-◌, ◌<◌, ◌≤◌, List, [], ◌∷◌, ◌++◌, length, map, Some, None, refl, sym, ap, ◌∙◌, arith}
use Rattle.std.specs.Prelude.{Option}
use Rattle.std.specs.List.{last_or, slice_get}
use Rattle.std.specs.Option.{option_map}
use Rattle.perc_contexts.proofs.Lists.{last_is}
use Rattle.perc_sender.specs.Schedule.{Taken, newest}
use Rattle.perc_outgoing.specs.Sending.{sending_key}
use Rattle.perc_run.specs.State.{Member}
use Rattle.perc_member.specs.declared.member.Member as code_member
use Rattle.perc_member.specs.declared.member.TakenKey.{TakenKey}
use Rattle.perc_member.specs.Each.{EndsAt, MirrorsMember, taken_in}

last_or-map : {A B : Type 0} (f : A → B) (o : Option A) (xs : List A) → last_or (option_map f o) (map f xs) ≡ option_map f (last_or o xs)
last_or-map f o [] = refl
last_or-map f o (x ∷ xs) = last_or-map f (Some x) xs

pub some_same : {A : Type 0} (x y : A) → Some x ≡ Some y → x ≡ y
some_same x y is = cc

-- A member has a key.
pub has_key : (next : ℕ) (keys : List TakenKey) → EndsAt next (last_or None keys) → 0 < length keys
has_key next [] ends = absurd ends
has_key next (k ∷ keys) ends = omega arith

-- It sends under the last one's SPI.
pub present_spi : (c : code_member.Member) (m : Member) (k : TakenKey) → MirrorsMember c m → Some k ≡ slice_get c.keys.items (length c.keys.items - 1)
    → k.spi ≡ m.endpoint.sending.secret.spi
present_spi c m k mirrors found =
    let out = m.endpoint.sending in
    let is = mirrors.endpoint.sending.sound in
    let last : last_or None c.keys.items ≡ Some k = sym (last_is c.keys.items) ∙ sym found in
    let key : Some (taken_in k) ≡ Some (sending_key out) =
    sym (last_or-map taken_in None c.keys.items ∙ ap (option_map taken_in) last) ∙ ap newest mirrors.keys ∙ is.key in
    ap (λ (t : Taken). t.spi) (some_same (taken_in k) (sending_key out) key) ∙ is.spi
