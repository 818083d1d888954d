use Rattle.std.proofs.Common.{◌≡◌, ℕ, ◌+◌, ◌-◌, ◌*◌, List, [], ◌∷◌, ◌++◌, length, drop, set, refl, ap, ◌∙◌, arith}
use Rattle.byteorder.specs.Endian.{big_bytes}
use borrow.Rule.Slice.PartMut.{put_mid}
use Rattle.perc_tunnel.specs.Message.{body}
use Rattle.perc_tunnel.specs.Told.{numbers_of}
use Rattle.perc_tunnel.proofs.Written.{written_more, set_first}
use Rattle.perc_tunnel.proofs.writing.write_profiles.Goals as goal

pub returns : goal.returns
unfolding body
returns c =
    let old = c.args.out.now in
    let v = c.args.version in
    let n : ℕ = 2 * length (numbers_of c.args.profiles.now) in
    let octets = c.octets-octets.result.now in
    let count : length octets ≡ n = c.octets-octets.ensures.length in
    let o1 : List ℕ = set old 0 v in
    let w1 : List ℕ = v ∷ [] in
    let w2 : List ℕ = v ∷ big_bytes 2 (length octets) in
    let o2 : List ℕ = put_mid 1 (length o1 - 1) o1 c.write_u16.new.buf in
    let e1 = set_first old v (omega (arith, c.requires.room)) in
    let e2 : o2 ≡ w2 ++ drop 3 old = written_more w1 (big_bytes 2 (length octets)) old o1 c.write_u16.new.buf 1 2 refl refl (omega (arith, c.requires.room)) e1 c.write_u16.ensures in
    written_more w2 octets old o2 c.write_octets.new.out 3 (length octets) refl refl (omega (arith, c.requires.room, count)) e2 c.write_octets.ensures
    ∙ ap (λ (k : ℕ). (v ∷ (big_bytes 2 k ++ octets)) ++ drop (3 + k) old) count
    ∙ ap (λ (l : List ℕ). (v ∷ (big_bytes 2 n ++ l)) ++ drop (3 + n) old) c.octets-octets.ensures.value
