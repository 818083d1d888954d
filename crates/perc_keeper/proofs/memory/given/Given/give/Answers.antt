use Rattle.std.proofs.Common.{◌≡◌, List, [], ◌∷◌, ◌++◌, ◌∙◌, ap, sym, true, false}
use Rattle.perc_kdf.specs.Derivation.{KeyAndSalt}
use Rattle.perc_keeper.specs.Lists.{was_given}
use Rattle.perc_keeper.proofs.KeptLaws.{Writes-updates, append-append, in_back, in_pushed, on_err, on_ok}
use Rattle.perc_keeper.proofs.memory.given.Given.give.Goals as goal

pub invariant_of-self-then-is_err-3 : goal.invariant_of-self-then-is_err-3
invariant_of-self-then-is_err-3 c =
    let put = on_ok c.insert.result (sym c.is_err-2.ensures.value ∙ c.if-is_err-2.false) c.insert.ensures.updates in
    let stayed = on_err c.insert-2.result (sym c.is_err-3.ensures.value ∙ c.if-is_err-3.true) c.insert-2.ensures.err in
    let absent : was_given c.self.inside.pairs.items c.args.client.now ≡ false = ap (λ (ps : List KeyAndSalt). was_given ps c.args.client.now) c.self.view_is ∙ c.requires in
    in_back c.self.inside.pairs.items c.reserve.new.self.items c.args.client.now c.self.inside.found c.insert.new.self c.insert-2.new.self c.remove.new.self
    c.self.invariant absent
    (Writes-updates c.self.inside.found c.insert.new.self c.args.client.now true put) stayed
    (Writes-updates c.insert-2.new.self c.remove.new.self c.args.client.now false c.remove.ensures.updates) c.reserve.ensures.items

pub invariant_of-self-2 : goal.invariant_of-self-2
invariant_of-self-2 c =
    let first = on_ok c.insert.result (sym c.is_err-2.ensures.value ∙ c.if-is_err-2.false) c.insert.ensures.updates in
    let second = on_ok c.insert-2.result (sym c.is_err-3.ensures.value ∙ c.if-is_err-3.false) c.insert-2.ensures.updates in
    in_pushed c.self.inside.pairs.items c.push_reserved-2.new.self.items c.args.client.now c.args.server.now c.self.inside.found c.insert.new.self c.insert-2.new.self
    c.self.invariant
    (Writes-updates c.self.inside.found c.insert.new.self c.args.client.now true first)
    (Writes-updates c.insert.new.self c.insert-2.new.self c.args.server.now true second)
    (c.push_reserved-2.ensures.items ∙ ap (λ (ps : List KeyAndSalt). ps ++ c.args.server.now ∷ []) (c.push_reserved.ensures.items ∙ ap (λ (ps : List KeyAndSalt). ps ++ c.args.client.now ∷ []) c.reserve.ensures.items)
    ∙ append-append c.self.inside.pairs.items c.args.client.now c.args.server.now)
