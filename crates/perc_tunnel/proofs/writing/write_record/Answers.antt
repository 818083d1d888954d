use Rattle.std.proofs.Common.{◌≡◌, ℕ, ◌+◌, List, ◌++◌, length, refl, ap, ◌∙◌}
use Rattle.std.proofs.lemmas.List.{length-append}
use Rattle.byteorder.specs.Endian.{big_bytes}
use Rattle.perc_tunnel.specs.Message.{body}
use Rattle.perc_tunnel.proofs.Written.{written_more}
use Rattle.perc_tunnel.proofs.writing.write_record.Goals as goal

pub returns : goal.returns
unfolding body
returns c =
    let a = c.args.association.now in
    let octets = c.args.octets.now in
    let bytes : List ℕ = big_bytes 2 (length octets) in
    let size : length (a ++ bytes) ≡ 18 = length-append a bytes ∙ ap (λ (k : ℕ). k + 2) c.requires.association in
    written_more (a ++ bytes) octets c.args.out.now c.write_named.new.out c.write_octets.new.out 18 (length octets) size refl c.requires.room c.write_named.ensures c.write_octets.ensures
