use Rattle.std.proofs.Common.{◌≡◌, ℕ, ◌+◌, ◌-◌, List, ◌++◌, length, take, drop, refl, sym, ap, ◌∙◌, arith}
use Rattle.std.proofs.lemmas.List.{length-append, length-take-le}
use Rattle.byteorder.specs.Endian.{big_bytes}
use borrow.Rule.Slice.PartMut.{mid_of, put_mid}
use Rattle.perc_ekt.proofs.Records.{few_octets, octets-length, written_parts}
use Rattle.perc_ekt.proofs.Writing.{written_in}
use Rattle.perc_ekt.proofs.record.EktKeyRecord.write.Goals as goal

pub returns-clause-len : goal.returns-clause-len
returns-clause-len c = sym (octets-length c.args.self.now c.requires ∙ omega arith)

pub returns-clause-value : goal.returns-clause-value
returns-clause-value c =
    let r = c.args.self.now in
    let old = c.args.out.now in
    let few = few_octets r c.requires in
    let end : ℕ = r.len + 2 in
    let lk : length (take r.len r.key) ≡ r.len = length-take-le r.len r.key (omega (arith, c.requires.room)) in
    let w1 : List ℕ = big_bytes 2 r.len ++ take r.len r.key in
    let w2 : List ℕ = big_bytes 2 (length r.salt) ++ r.salt in
    let w3 : List ℕ = big_bytes 2 r.spi ++ big_bytes 3 r.life in
    let l1 : length w1 ≡ end = length-append (big_bytes 2 r.len) (take r.len r.key) ∙ omega (arith, lk) in
    let l2 : length (w1 ++ w2) ≡ end + 14 = length-append w1 w2 ∙ omega (arith, l1, length-append (big_bytes 2 (length r.salt)) r.salt, c.requires.salt) in
    let room : length old ≡ 53 = c.told-out in
    let e1 : c.write_part.new.out ≡ w1 ++ drop end old = c.write_part.ensures ∙ ap (λ (n : ℕ). (big_bytes 2 n ++ take r.len r.key) ++ drop (n + 2) old) lk in
    let offset : length r.salt + 2 ≡ 14 = omega (arith, c.requires.salt) in
    let p2 : c.write_part-2.new.out ≡ w2 ++ drop 14 (mid_of end (53 - end) c.write_part.new.out) =
    c.write_part-2.ensures ∙ ap (λ (k : ℕ). w2 ++ drop k (mid_of end (53 - end) c.write_part.new.out)) offset in
    let o2 = put_mid end (53 - end) c.write_part.new.out c.write_part-2.new.out in
    let e2 : o2 ≡ (w1 ++ w2) ++ drop (end + 14) old =
    written_in 53 w1 w2 old c.write_part.new.out c.write_part-2.new.out end 14 l1 (length-append (big_bytes 2 (length r.salt)) r.salt ∙ omega (arith, c.requires.salt)) (omega arith) room e1 p2 in
    let e3 = written_in 53 (w1 ++ w2) w3 old o2 c.write_numbers.new.out (end + 14) 5 l2 refl (omega arith) room e2 c.write_numbers.ensures in
    let last : end + 14 + 5 ≡ end + 19 = omega arith in
    e3 ∙ ap (λ (k : ℕ). ((w1 ++ w2) ++ w3) ++ drop k old) last ∙ ap (λ (xs : List ℕ). xs ++ drop (end + 19) old) (written_parts r (length r.salt) c.requires refl)
