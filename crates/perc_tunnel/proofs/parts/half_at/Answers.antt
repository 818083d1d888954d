use Rattle.std.proofs.Common.{◌≡◌, ◌≤◌, length, drop, sym, ap, subst, ◌∙◌, arith}
use Rattle.std.proofs.lemmas.List.{length-take-le, length-drop}
use Rattle.perc_base.specs.Profile.{key_length}
use Rattle.perc_kdf.specs.Derivation.{IsMasterLength}
use Rattle.perc_tunnel.proofs.Options.{some_where, master_length}
use Rattle.perc_tunnel.proofs.parts.half_at.Goals as goal

pub unwrap-requires : goal.unwrap-requires
unwrap-requires c =
    let octets = c.args.octets.now in
    let offset = c.args.key_offset in
    let k = c.key_len.result in
    let is : k ≡ key_length c.args.profile = c.key_len.ensures in
    let long : k ≤ length (drop offset octets) = omega (arith, is, c.requires.key, length-drop offset octets) in
    let size : length c.part-key.result.now ≡ key_length c.args.profile = ap length c.part-key.ensures ∙ length-take-le k (drop offset octets) long ∙ is in
    some_where c.new.result _ _ c.new.ensures (subst IsMasterLength (sym size) (master_length c.args.profile))
