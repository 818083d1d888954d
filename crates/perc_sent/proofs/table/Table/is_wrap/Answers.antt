use Rattle.std.proofs.Common.{◌≡◌, ℕ, None, Some, length, take, ap, ◌∙◌, sym}
use Rattle.std.specs.Prelude.{find, ◌==◌}
use Rattle.perc_ekt.specs.Key.{opened_key}
use Rattle.perc_member.specs.Taken.{wrapped_under}
use Rattle.perc_member.specs.declared.member.Member as code_member
use Rattle.perc_receiver.specs.Table.{Secret, secret_in}
use Rattle.perc_sent.proofs.Wraps.{opened_as, shut_as, wrap_by, wrap_by_none, wrap_shut, wrap_unissued}
use Rattle.perc_sent.proofs.table.Table.is_wrap.Goals as goal

pub returns-in_default : goal.returns-in_default
returns-in_default c s is = wrap_unissued c.args.self.now s c.args.spi c.args.octets.now is (sym (c.in_default.ensures.secret s is))

pub returns-in_default-unwrap_copy : goal.returns-in_default-unwrap_copy
returns-in_default-unwrap_copy c s is =
    let secret : Secret = secret_in c.in-Some.granted.now in
    let shut =
    shut_as c.unwrap_copy.result (opened_key secret.key (length secret.key) c.args.octets.now) c.in_default-unwrap_copy.field-0 c.unwrap_copy.ensures.answer
    c.in_default-unwrap_copy.is in
    wrap_shut c.args.self.now s secret c.args.spi c.args.octets.now shut.0 is (sym (c.in-Some.ensures.secret s is)) shut.1

pub returns-in-Some-member_of : goal.returns-in-Some-member_of
returns-in-Some-member_of c s is =
    let secret : Secret = secret_in c.in-Some.granted.now in
    let it =
    opened_as c.unwrap_copy.result (opened_key secret.key (length secret.key) c.args.octets.now) c.in-Ok.wrapped c.unwrap_copy.ensures.answer c.in-Ok.is in
    let m : code_member.Member = c.in-Some-member_of.member.now in
    let by_told : find (λ (x : code_member.Member). x.ssrc == c.in-Ok.wrapped.ssrc) c.args.self.now.members.now ≡ Some m = sym c.in-Some-member_of.ensures in
    let member = ap (λ (n : ℕ). find (λ (x : code_member.Member). x.ssrc == n) c.args.self.now.members.now) (sym it.ssrc) ∙ by_told in
    let same : wrapped_under m c.args.spi (take c.in-Ok.wrapped.len c.in-Ok.wrapped.key) c.in-Ok.wrapped.roc ≡ wrapped_under m c.args.spi it.key.key it.key.roc =
    λ i. wrapped_under m c.args.spi (it.octets i) (it.roc i) in
    c.has_wrapped.ensures
    ∙ same
    ∙ wrap_by c.args.self.now s secret c.args.spi c.args.octets.now it.key m is (sym (c.in-Some.ensures.secret s is)) it.opened member

pub returns-in-None : goal.returns-in-None
returns-in-None c s is =
    let secret : Secret = secret_in c.in-Some.granted.now in
    let it =
    opened_as c.unwrap_copy.result (opened_key secret.key (length secret.key) c.args.octets.now) c.in-Ok.wrapped c.unwrap_copy.ensures.answer c.in-Ok.is in
    let by_told : find (λ (x : code_member.Member). x.ssrc == c.in-Ok.wrapped.ssrc) c.args.self.now.members.now ≡ None = sym c.in-None.ensures in
    let member = ap (λ (n : ℕ). find (λ (x : code_member.Member). x.ssrc == n) c.args.self.now.members.now) (sym it.ssrc) ∙ by_told in
    wrap_by_none c.args.self.now s secret c.args.spi c.args.octets.now it.key is (sym (c.in-Some.ensures.secret s is)) it.opened member
