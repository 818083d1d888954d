-- Members found by their associations and names.
use Rattle.std.proofs.Common.{◌≡◌, ℕ, Bool, true, false, cond, ◌||◌, List, [], ◌∷◌, length, Option, Some, None, refl, sym, ap, subst, ◌∙◌, arith, Bor}
use Rattle.std.specs.Prelude.{IsTrue, find}
use Rattle.std.specs.List.{list_any}
use Rattle.std.specs.Option.{IsSome, option_map, option_map_or}
use Rattle.std.specs.Str.{bytes_eq}
use Rattle.perc_member.specs.Each.{MirrorEach, MirrorsMember}
use Rattle.perc_member.specs.declared.member.Member as code_member
use Rattle.perc_run.specs.Forwarding.{name_of}
use Rattle.perc_run.specs.State.{Member}
use Rattle.perc_forward_line.proofs.Lists.{each_head, each_tail}

choose : {X : Type 0} (b c : Bool) (x : X) (rest : Option X) → IsTrue (b || c) → (IsTrue c → (y : X) × (rest ≡ Some y)) → (y : X) × (cond b (Some x) rest ≡ Some y)
choose true c x rest h f = (x, refl)
choose false c x rest h f = f h

any_found : {X : Type 0} (p : X → Bool) (xs : List X) → IsTrue (list_any p xs) → (x : X) × (find p xs ≡ Some x)
any_found p [] h = absurd cc
any_found p (x ∷ xs) h = choose (p x) (list_any p xs) x (find p xs) h (any_found p xs)

pub member_some : (r : Option (Bor code_member.Member)) (cs : List code_member.Member) (a : List ℕ) → option_map (λ m. m.now) r ≡ find (λ m. bytes_eq a m.association) cs
    → IsTrue (list_any (λ m. bytes_eq a m.association) cs) → IsSome r
member_some None cs a is any =
    let w = any_found (λ (m : code_member.Member). bytes_eq a m.association) cs any in
    let e : ◌≡◌ {A = Option code_member.Member} None (Some w.0) = is ∙ w.1 in
    absurd cc
member_some (Some r) cs a is any = refl

abbrev named : Option code_member.Member → List ℕ
named o = option_map_or (λ m. m.name) o []

abbrev called : Option Member → List ℕ
called o = option_map_or (λ m. m.name) o []

pick : (b : Bool) (c : code_member.Member) (m : Member) (x : Option code_member.Member) (y : Option Member) → c.name ≡ m.name
    → named x ≡ called y → named (cond b (Some c) x) ≡ called (cond b (Some m) y)
pick true c m x y here rest = here
pick false c m x y here rest = rest

name_found : (cs : List code_member.Member) (ms : List Member) (a : List ℕ) → MirrorEach MirrorsMember cs ms → named (find (λ m. bytes_eq a m.association) cs) ≡ name_of ms a
name_found [] [] a m = refl
name_found [] (y ∷ ms) a m = absurd (omega (arith, m.count))
name_found (x ∷ cs) [] a m = absurd (omega (arith, m.count))
name_found (x ∷ cs) (y ∷ ms) a m =
    let h = each_head MirrorsMember x y cs ms m in
    ap (λ (s : List ℕ). named (cond (bytes_eq a s) (Some x) (find (λ m. bytes_eq a m.association) cs))) h.association
    ∙ pick (bytes_eq a y.association) x y (find (λ m. bytes_eq a m.association) cs) (find (λ m. bytes_eq a m.association) ms) h.name (name_found cs ms a (each_tail MirrorsMember x y cs ms m))

pub found_name : (r : Bor code_member.Member) (o : Option (Bor code_member.Member)) (cs : List code_member.Member) (ms : List Member) (a : List ℕ) → o ≡ Some r
    → option_map (λ m. m.now) o ≡ find (λ m. bytes_eq a m.association) cs → MirrorEach MirrorsMember cs ms → r.now.name ≡ name_of ms a
found_name r o cs ms a is found m =
    let e : Some r.now ≡ find (λ (m : code_member.Member). bytes_eq a m.association) cs = ap (λ (x : Option (Bor code_member.Member)). option_map (λ m. m.now) x) (sym is) ∙ found in
    ap named e ∙ name_found cs ms a m

-- an association is a member's of the code where it is one's of the definition
pub any_known : (cs : List code_member.Member) (ms : List Member) (a : List ℕ) → MirrorEach MirrorsMember cs ms
    → list_any (λ m. bytes_eq a m.association) cs ≡ list_any (λ m. bytes_eq a m.association) ms
any_known [] [] a m = refl
any_known [] (y ∷ ms) a m = absurd (omega (arith, m.count))
any_known (x ∷ cs) [] a m = absurd (omega (arith, m.count))
any_known (x ∷ cs) (y ∷ ms) a m =
    let h = each_head MirrorsMember x y cs ms m in
    ap (λ (s : List ℕ). bytes_eq a s || list_any (λ m. bytes_eq a m.association) cs) h.association
    ∙ ap (λ (b : Bool). bytes_eq a y.association || b) (any_known cs ms a (each_tail MirrorsMember x y cs ms m))
