use Rattle.std.proofs.Common.{◌≡◌, ◌≤◌, ◌<◌, ◌∙◌, ℕ, ◌||◌, ap, length, arith}
use Rattle.std.specs.List.{filter}
use Rattle.std.specs.Prelude.{count_by, nat_le}
use Rattle.std.proofs.lemmas.Bool.Decides.{nat_tests}
use Rattle.perc_member.specs.Each.{MirrorsMember}
use Rattle.perc_member.specs.declared.member.Member as code_member
use Rattle.perc_run.specs.State.{Member}
use Rattle.perc_conference_state.proofs.Lists.{count_same}
use Rattle.perc_conference_state.proofs.conference.Conference.is_crowded.Goals as goal

full : (n m k : ℕ) → 64 ≤ k → k ≡ n → nat_le 64 k ≡ (nat_le 64 n || nat_le 256 m)
full n m k h is = grind (arith, nat_tests)

room : (n m k : ℕ) → n < 64 → k ≡ m → nat_le 256 k ≡ (nat_le 64 n || nat_le 256 m)
room n m k h is = rw is (grind (arith, nat_tests))

pub returns-then-count_present-ge-MOST_MEMBERS : goal.returns-then-count_present-ge-MOST_MEMBERS
returns-then-count_present-ge-MOST_MEMBERS c = λ s mirrors.
    let present = c.count_present.ensures ∙ ap (count_by (λ (x : code_member.Member). x.present)) c.deref.ensures.value
    ∙ count_same MirrorsMember (λ x. x.present) (λ m. m.present)
    c.args.self.now.members.items s.members mirrors.members (λ x m is. is.present) in
    full (length (filter (λ (m : Member). m.present) s.members)) (length s.members) c.count_present.result c.if-count_present-ge-MOST_MEMBERS.true present

pub returns-else-count_present-ge-MOST_MEMBERS : goal.returns-else-count_present-ge-MOST_MEMBERS
returns-else-count_present-ge-MOST_MEMBERS c = λ s mirrors.
    let present = c.count_present.ensures ∙ ap (count_by (λ (x : code_member.Member). x.present)) c.deref.ensures.value
    ∙ count_same MirrorsMember (λ x. x.present) (λ m. m.present)
    c.args.self.now.members.items s.members mirrors.members (λ x m is. is.present) in
    room (length (filter (λ (m : Member). m.present) s.members)) (length s.members) c.len.result (omega (arith, present))
    (omega (arith, mirrors.members.count, c.args.self.now.members.ok.0))
