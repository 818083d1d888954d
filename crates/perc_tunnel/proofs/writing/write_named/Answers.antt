use Rattle.std.proofs.Common.{◌≡◌, ℕ, ◌++◌, drop, refl, ap, ◌∙◌}
use Rattle.byteorder.specs.Endian.{big_bytes}
use Rattle.perc_tunnel.proofs.Written.{written_more}
use Rattle.perc_tunnel.proofs.writing.write_named.Goals as goal

pub returns : goal.returns
returns c =
    let a = c.args.association.now in
    let old = c.args.out.now in
    let first : c.write_octets.new.out ≡ a ++ drop 16 old = c.write_octets.ensures ∙ ap (λ (k : ℕ). a ++ drop k old) c.requires.association in
    written_more a (big_bytes 2 c.args.number) old c.write_octets.new.out c.write_u16.new.buf 16 2 c.requires.association refl c.requires.room first c.write_u16.ensures
