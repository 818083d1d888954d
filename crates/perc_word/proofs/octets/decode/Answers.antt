use Rattle.std.proofs.Common.{◌∙◌, arith}
use Rattle.perc_word.specs.Word.{spelled_octets}
use Rattle.perc_word.proofs.Spelled.{spelled_twice, octet_of_two, decode_more}
use Rattle.perc_word.proofs.octets.decode.Goals as goal

pub bounds-digits-i : goal.bounds-digits-i
bounds-digits-i c = let two = spelled_twice c.args.digits.now c.requires.spelled in omega arith

pub bounds-digits-i-in-loop-i : goal.bounds-digits-i-in-loop-i
bounds-digits-i-in-loop-i c = let two = spelled_twice c.args.digits.now c.requires.spelled in omega arith

pub loop-i-preserved : goal.loop-i-preserved
loop-i-preserved c =
    let octets = spelled_octets c.args.digits.now in
    let is = c.octet_of.ensures ∙ octet_of_two c.args.digits.now c.loop-i.i c.requires.spelled (omega arith) in
    decode_more c.loop-i.out octets c.loop-i.i c.octet_of.result (omega arith) (omega arith) is c.loop-i.invariant
