use Rattle.std.proofs.Common.{◌≡◌, List, ℕ, Option, Some, None, map, refl, subst, sym, ap, ◌∙◌}
use Rattle.std.specs.Global.{Vec}
use Rattle.std.specs.Option.{option_map}
use Rattle.std.specs.Prelude.{◌&&◌, filter}
use Rattle.perc_member.specs.declared.member.Member.{Member}
use Rattle.perc_ohb.specs.Rewriting.{rewrite_of}
use Rattle.perc_run.specs.Forwarding.{associations_of}
use Rattle.perc_word.specs.declared.name.Name.{Name}
use Rattle.perc_forward_line.specs.Telling.{is_named_in, names_in}
use Rattle.perc_forward_line.proofs.Choosing.{associations_same}
use Rattle.perc_forward_line.proofs.Forwarded.{seals_all}
use Rattle.perc_forward_line.proofs.forwarding.send_on.Goals as goal

pub returns-in-None : goal.returns-in-None
returns-in-None c = λ s taken mirrors takings.
    seals_all c.args.conference.now (record c.args.conference.now { distributor = c.forward.new.self }) s taken (rewrite_of c.args.change.now) None (names_in c.args.to.now) mirrors
    (record { profile = refl; records = refl; issued = refl; members = refl; keys = refl }) refl (sym (ap (λ (o : Option (Vec Name)). option_map (associations_of s) (names_in o)) c.in-None.is)) (c.forward.ensures s taken mirrors.distributor takings)

pub returns-in_ok-only-in-Some : goal.returns-in_ok-only-in-Some
returns-in_ok-only-in-Some c = λ s taken mirrors takings.
    let names = c.in-Some.field-0.items in
    let only : c.in_ok-only-in-Some.only.items ≡ associations_of s names =
    c.in_ok-only-in-Some.ensures
    ∙ ap (λ (o : Option (Vec Name)). map (λ (m : Member). m.association) (filter (λ (m : Member). m.present && is_named_in (names_in o) m) c.deref.result.now)) c.in-Some.is
    ∙ ap (λ (cs : List Member). map (λ (m : Member). m.association) (filter (λ (m : Member). m.present && is_named_in (Some names) m) cs)) c.deref.ensures.value
    ∙ associations_same c.args.conference.now.members.items s names mirrors.members in
    seals_all c.args.conference.now (record c.args.conference.now { distributor = c.forward-in-Some.new.self }) s taken (rewrite_of c.args.change.now) (Some c.as_slice.result.now) (names_in c.args.to.now) mirrors
    (record { profile = refl; records = refl; issued = refl; members = refl; keys = refl }) refl
    (ap (λ (xs : List (List ℕ)). Some xs) (c.as_slice.ensures.value ∙ only) ∙ sym (ap (λ (o : Option (Vec Name)). option_map (associations_of s) (names_in o)) c.in-Some.is)) (c.forward-in-Some.ensures s taken mirrors.distributor takings)
