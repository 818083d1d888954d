use Rattle.std.specs.BTreeMap as tree
use Rattle.std.proofs.Common.{◌≡◌, List, ◌∙◌, ap, refl, sym, subst}
use Rattle.std.specs.Prelude.{Ok}
use Rattle.perc_kdf.specs.Order.{pair_cmp}
use Rattle.perc_keyset.specs.Accepting.{add_answer, new_entry}
use Rattle.perc_keyset.specs.declared.Added.TheVariants.{New}
use Rattle.perc_keyset.specs.declared.Op.{Op}
use Rattle.perc_keyset.proofs.GivenLaws.{on_err, on_ok}
use Rattle.perc_keyset.proofs.KeptLaws.{AreNotGiven, AreNotGiven-accepted, kept_added, kept_same, taken_back}
use Rattle.perc_keyset.proofs.accepted.Accepted.accept.Goals as goal

pub give-requires : goal.give-requires
give-requires c =
    let keys = c.args.keys.now in
    let answer : add_answer c.self.inside.ops.items keys.association keys.client keys.server ≡ Ok New =
    ap (λ (ops : List Op). add_answer ops keys.association keys.client keys.server) c.self.view_is ∙ c.requires in
    let absent = AreNotGiven-accepted c.self.inside.ops.items keys.association keys.client keys.server c.self.inside.given c.self.invariant.given answer in
    rw c.new_entry-entry.ensures absent.client

pub invariant_of-self : goal.invariant_of-self
invariant_of-self c = kept_same c.self.inside.set.value _ _ _ c.self.inside.given _ c.self.invariant refl c.in_err-give.ensures.refused

pub invariant_of-self-then-is_err : goal.invariant_of-self-then-is_err
invariant_of-self-then-is_err c =
    let keys = c.args.keys.now in
    let answer : add_answer c.self.inside.ops.items keys.association keys.client keys.server ≡ Ok New =
    ap (λ (ops : List Op). add_answer ops keys.association keys.client keys.server) c.self.view_is ∙ c.requires in
    let e_is = c.new_entry-entry.ensures ∙ ap (λ (ops : List Op). new_entry ops keys.association keys.client keys.server) (sym c.self.view_is) in
    let absent =
    subst (AreNotGiven (tree.get pair_cmp c.self.inside.given)) (sym e_is) (AreNotGiven-accepted c.self.inside.ops.items keys.association keys.client keys.server c.self.inside.given c.self.invariant.given answer) in
    kept_same c.self.inside.set.value c.self.inside.ops.items _ _ c.self.inside.given c.take_back.new.given c.self.invariant
    (on_err c.append.result (sym c.is_err.ensures.value ∙ c.if-is_err.true) c.append.ensures.refused)
    (taken_back (tree.get pair_cmp c.self.inside.given) (tree.get pair_cmp c.give.new.given) (tree.get pair_cmp c.take_back.new.given) c.new_entry-entry.result absent c.in_ok-give.ensures.given c.take_back.ensures)

pub invariant_of-self-2 : goal.invariant_of-self-2
invariant_of-self-2 c =
    let keys = c.args.keys.now in
    let answer : add_answer c.self.inside.ops.items keys.association keys.client keys.server ≡ Ok New =
    ap (λ (ops : List Op). add_answer ops keys.association keys.client keys.server) c.self.view_is ∙ c.requires in
    let e_is = c.new_entry-entry.ensures ∙ ap (λ (ops : List Op). new_entry ops keys.association keys.client keys.server) (sym c.self.view_is) in
    kept_added c.self.inside.set.value _ c.self.inside.ops.items _ _ c.self.inside.given c.give.new.given keys.association keys.client keys.server c.self.invariant answer
    c.new_entry-entry.result e_is c.in_ok-give.ensures.given (cc)
    (on_ok c.append.result (sym c.is_err.ensures.value ∙ c.if-is_err.false) c.append.ensures.appended)
