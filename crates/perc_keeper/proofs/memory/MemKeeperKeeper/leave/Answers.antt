use Rattle.std.proofs.Common.{List, ap, ◌∙◌, not, subst, sym}
use Rattle.std.specs.List.{All}
use Rattle.std.specs.Prelude.{Some}
use Rattle.std.proofs.lemmas.List.Elements.{All-filter}
use Rattle.perc_tunnel.specs.declared.message.MediaKeys.{MediaKeys}
use Rattle.perc_keeper.specs.Lists.{HasKeys, Lists, is_of, without_member}
use Rattle.perc_keeper.specs.Memory.{mem_lists}
use Rattle.perc_keeper.proofs.memory.MemKeeperKeeper.leave.Goals as goal

pub returns-clause-lists : goal.returns-clause-lists
returns-clause-lists c =
    let mid = mem_lists c.make_call.new.self in (
      ap (λ (l : Lists). Some l) (ap (λ (ms : List MediaKeys). record { issued = mid.issued; given = mid.given; members = ms }) c.remove.ensures ∙ ap (without_member c.args.association.now) c.in_ok-make_call.ensures.kept),
      tt,
    )

pub invariant_of-self : goal.invariant_of-self
invariant_of-self c = record {
  right = subst (All HasKeys) (sym c.remove.ensures)
      (All-filter (λ (k : MediaKeys). not (is_of c.args.association.now k)) HasKeys c.make_call.new.self.members.items c.make_call.new.self.right);
}
