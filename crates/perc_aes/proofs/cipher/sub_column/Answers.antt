use Rattle.std.proofs.Common.{ap, ◌∙◌, arith}
use Rattle.perc_aes.specs.Cipher.{sub_octet}
use Rattle.perc_aes.proofs.StateLaws.{word_of_images}
use Rattle.perc_aes.proofs.cipher.sub_column.Goals as goal

pub returns : goal.returns
returns c =
    word_of_images sub_octet c.args.a c.args.b c.args.c c.args.d c.sub_octet.result c.sub_octet-2.result c.sub_octet-3.result c.sub_octet-4.result c.from_be_bytes.result (omega arith) (omega arith) (omega arith) (omega arith)
    (c.sub_octet.ensures ∙ ap sub_octet c.octet.ensures) (c.sub_octet-2.ensures ∙ ap sub_octet c.octet-2.ensures)
    (c.sub_octet-3.ensures ∙ ap sub_octet c.octet-3.ensures) (c.sub_octet-4.ensures ∙ ap sub_octet c.octet-4.ensures) c.from_be_bytes.ensures
