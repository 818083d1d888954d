use Rattle.std.proofs.Common.{ℕ, ◌<◌, ◌+◌, List, [], ◌∷◌, ◌++◌, drop, ap, ◌∙◌, arith}
use Rattle.perc_ohb.specs.Block.{pt_octets, seq_octets, spelling}
use Rattle.perc_ohb.proofs.BlockLaws.{length-spelling, length-pt, length-seq, fields_room}
use Rattle.perc_ohb.proofs.Writing.{written_parts}
use Rattle.perc_ohb.proofs.block.Ohb.write.Goals as goal

pub returns-clause-len : goal.returns-clause-len
returns-clause-len c = omega (arith, length-spelling c.args.self.now, length-pt c.args.self.now.pt, length-seq c.args.self.now.seq)

pub returns-clause-value : goal.returns-clause-value
unfolding spelling
returns-clause-value c =
    let o = c.args.self.now in
    let pt : List ℕ = pt_octets o.pt in
    let seq : List ℕ = seq_octets o.seq in
    let n = c.write_pt-pt.result in
    let k = c.write_seq-seq.result in
    let room : n + k < 4 = omega (arith, fields_room o) in
    written_parts pt seq c.args.out.now _ _ 4 n k _ c.told-out c.write_pt-pt.ensures.len c.write_seq-seq.ensures.len room c.write_pt-pt.ensures.value c.write_seq-seq.ensures.value
    ∙ ap (λ (x : ℕ). ((pt ++ seq) ++ x ∷ []) ++ drop (n + k + 1) c.args.out.now) c.config_octet.ensures
