use Rattle.std.proofs.Common.{◌≡◌, refl, sym, ap, subst, ◌∙◌}
use Rattle.perc_ohb.specs.Rewriting.{rewrite_of}
use Rattle.perc_kdf.specs.Derivation.{KeyAndSalt, session_keys}
use Rattle.perc_kdf.specs.declared.Kind.TheVariants.{Srtp, Srtcp}
use Rattle.perc_distributor.specs.Kept.{IsSealing, Kept}
use Rattle.perc_distributor.proofs.Sending.{control_for, media_for}
use Rattle.perc_distributor.proofs.slot.Slot.seal.Goals as goal

pub returns-then-plain-clause-control : goal.returns-then-plain-clause-control
returns-then-plain-clause-control c = λ s from octets stands is.
    let inside = c.self.inside in
    let k : Kept = record { serial = inside.serial; streams = inside.streams; rtcp = inside.rtcp } in
    let keys : c.srtcp.result.now ≡ session_keys c.args.server.now Srtcp = c.srtcp.ensures ∙ ap (λ (m : KeyAndSalt). session_keys m Srtcp) c.renew.ensures in
    let kept : IsSealing k s = subst (λ (x : Kept). IsSealing x s) (sym c.self.view_is) stands in
    control_for k (record { serial = inside.serial; streams = inside.streams; rtcp = c.seal_control.new.rtcp }) s c.args.server.now c.srtcp.result.now inside.rtcp octets c.seal_control.result c.seal_control.new.out
    kept keys refl refl (c.seal_control.ensures.sealed from octets is)

pub returns-clause-media : goal.returns-clause-media
returns-clause-media c = λ s from h inner o field stands is.
    let inside = c.self.inside in
    let k : Kept = record { serial = inside.serial; streams = inside.streams; rtcp = inside.rtcp } in
    let keys : c.srtp.result.now ≡ session_keys c.args.server.now Srtp = c.srtp.ensures.keys ∙ ap (λ (m : KeyAndSalt). session_keys m Srtp) c.renew.ensures in
    let kept : IsSealing k s = subst (λ (x : Kept). IsSealing x s) (sym c.self.view_is) stands in
    media_for k (record { serial = inside.serial; streams = c.seal.new.self; rtcp = inside.rtcp }) s c.args.server.now c.srtp.result.now h inner o field (rewrite_of c.args.change.now) c.seal.result c.seal.new.out
    kept keys refl (c.seal.ensures.sealed s.streams from h inner o field kept.streams is)
