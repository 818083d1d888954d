use Rattle.std.proofs.Common.{ℕ, ◌≤◌, ◌++◌, length, drop, sym, ap, subst, ◌∙◌}
use Rattle.perc_tunnel.specs.declared.message.Message.{Message}
use Rattle.perc_tunnel.specs.Message.{IsMessage, body, body_length}
use Rattle.perc_tunnel.specs.Told.{content_of}
use Rattle.perc_tunnel.proofs.Written.{set_first}
use Rattle.perc_tunnel.proofs.writing.write_body.Goals as goal

pub returns-in-UnsupportedVersion : goal.returns-in-UnsupportedVersion
unfolding body
returns-in-UnsupportedVersion c =
    let old = c.args.out.now in
    let room : 1 ≤ length old = subst (λ (m : Message). body_length (content_of m) ≤ length old) c.in-UnsupportedVersion.is c.requires.room in
    set_first old c.in-UnsupportedVersion.highest room
    ∙ ap (λ (m : Message). body (content_of m) ++ drop (body_length (content_of m)) old) (sym c.in-UnsupportedVersion.is)

pub returns-in-EndpointDisconnect : goal.returns-in-EndpointDisconnect
unfolding body
returns-in-EndpointDisconnect c =
    let old = c.args.out.now in
    let is = subst (λ (m : Message). IsMessage (content_of m)) c.in-EndpointDisconnect.is c.requires.message in
    c.write_octets.ensures
    ∙ ap (λ (k : ℕ). c.in-EndpointDisconnect.association ++ drop k old) is.0
    ∙ ap (λ (m : Message). body (content_of m) ++ drop (body_length (content_of m)) old) (sym c.in-EndpointDisconnect.is)
