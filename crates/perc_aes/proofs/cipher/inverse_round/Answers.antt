use Rattle.std.proofs.Common.{List, ap, ◌∙◌}
use Rattle.perc_aes.specs.Cipher.{add_round_key}
use Rattle.perc_aes.specs.Inverse.{inverse_mix_columns, inverse_shift_rows, inverse_sub_bytes}
use Rattle.perc_aes.specs.Words.{octets_of}
use Rattle.perc_aes.proofs.Blocks.{mix_sum_undone}
use Rattle.perc_aes.proofs.StateLaws.{unmixed_columns}
use Rattle.perc_aes.proofs.Rounds.{IsBlock-octets_of, IsBlock-undone}
use Rattle.perc_aes.proofs.cipher.inverse_round.Goals as goal

pub returns : goal.returns
returns c =
    mix_sum_undone (inverse_sub_bytes (inverse_shift_rows (octets_of c.args.state))) (octets_of c.args.key) (octets_of c.add.result)
    (IsBlock-undone (octets_of c.args.state) (IsBlock-octets_of c.args.state)) (IsBlock-octets_of c.args.key)
    (c.add.ensures
    ∙ ap (λ (s : List _). add_round_key s (octets_of c.unmixed_key.result))
    (unmixed_columns c.args.state _ c.unmixed_column.ensures c.unmixed_column-2.ensures c.unmixed_column-3.ensures c.unmixed_column-4.ensures)
    ∙ ap (λ (k : List _). add_round_key (inverse_mix_columns (inverse_sub_bytes (inverse_shift_rows (octets_of c.args.state)))) k) c.unmixed_key.ensures)
