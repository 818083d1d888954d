use Rattle.std.proofs.Common.{false, Ok, Err, refl, ap}
use Rattle.std.proofs.lemmas.Result.{err_from_is_err_and}
use Rattle.perc_tunnel.specs.declared.message.Message.{Message}
use Rattle.perc_tunnel.specs.Told.{content_of}
use Rattle.perc_keydist.specs.Desks.{accepted_at, count_of, state_at}
use Rattle.perc_keydist.specs.Distributing.{hear}
use Rattle.perc_keydist.proofs.CallLaws.{once_said, once_same, once_silent}
use Rattle.perc_keydist.proofs.Hearing.{heard_with}
use Rattle.perc_keydist.proofs.desk.Desk.hear.Goals as goal

pub returns-in_err-accept-in-SupportedProfiles-clause-told : goal.returns-in_err-accept-in-SupportedProfiles-clause-told
returns-in_err-accept-in-SupportedProfiles-clause-told g c = λ a l rs left told known drawn.
    let e = err_from_is_err_and c.from_residual.result c.from_residual.ensures.1 in
    let s = state_at c.args.self.now l left in
    rw (e.1, e.2) (heard_with _ _ count_of left (Err c.in_err-accept-in-SupportedProfiles.field-0.0) c.args.out.now.items c.accept.new.out.items (accepted_at c.accept.new.self) _ _ _ _
    (ap (λ (m : Message). hear a s rs (content_of m) (accepted_at c.args.self.now)) c.in-SupportedProfiles.is) known drawn (c.in_err-accept-in-SupportedProfiles.ensures.told a l rs left))

pub returns-in_ok-accept-in-SupportedProfiles-clause-told : goal.returns-in_ok-accept-in-SupportedProfiles-clause-told
returns-in_ok-accept-in-SupportedProfiles-clause-told g c = λ a l rs left told known drawn.
    let s = state_at c.args.self.now l left in
    heard_with _ _ count_of left (Ok false) c.args.out.now.items c.accept.new.out.items (accepted_at c.accept.new.self) _ _ _ _
    (ap (λ (m : Message). hear a s rs (content_of m) (accepted_at c.args.self.now)) c.in-SupportedProfiles.is) known drawn (c.in_ok-accept-in-SupportedProfiles.ensures.told a l rs left)

pub returns-in-EndpointDisconnect-clause-told : goal.returns-in-EndpointDisconnect-clause-told
returns-in-EndpointDisconnect-clause-told g c = λ a l rs left told known drawn.
    let s = state_at c.args.self.now l left in
    heard_with _ _ count_of left c.end.result c.args.out.now.items c.args.out.now.items (accepted_at c.args.self.now) _ _ _ _
    (ap (λ (m : Message). hear a s rs (content_of m) (accepted_at c.args.self.now)) c.in-EndpointDisconnect.is) refl drawn (c.end.ensures.told a l rs left c.args.out.now.items known)

pub returns-in_err-accept-in-SupportedProfiles-clause-once : goal.returns-in_err-accept-in-SupportedProfiles-clause-once
returns-in_err-accept-in-SupportedProfiles-clause-once g c = once_said _ _ _ _ c.accept.ensures.said

pub returns-in_ok-accept-in-SupportedProfiles-clause-once : goal.returns-in_ok-accept-in-SupportedProfiles-clause-once
returns-in_ok-accept-in-SupportedProfiles-clause-once g c = once_said _ _ _ _ c.accept.ensures.said

pub returns-in-UnsupportedVersion-clause-once : goal.returns-in-UnsupportedVersion-clause-once
returns-in-UnsupportedVersion-clause-once g c = once_same _ _ _ _ _ refl refl

pub returns-in-MediaKeys-clause-once : goal.returns-in-MediaKeys-clause-once
returns-in-MediaKeys-clause-once g c = once_same _ _ _ _ _ refl refl

pub returns-in-EndpointDisconnect-clause-once : goal.returns-in-EndpointDisconnect-clause-once
returns-in-EndpointDisconnect-clause-once g c = once_silent _ _ _ _ _ c.end.ensures.once refl
