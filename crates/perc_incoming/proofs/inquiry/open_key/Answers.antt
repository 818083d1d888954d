use Rattle.std.proofs.Common.{◌≡◌, length, ap, ◌∙◌}
use Rattle.std.proofs.lemmas.List.{take_at}
use Rattle.perc_incoming.proofs.inquiry.open_key.Goals as goal

pub returns : goal.returns
returns c = λ held ssrc a stands is_try.
    let copied : c.copy_from_slice.new.self ≡ c.key_under-spi.result.1.now = c.copy_from_slice.ensures.after in
    record {
      spi = c.key_under-spi.ensures.spi held ssrc a stands is_try;
      key = take_at c.copy_from_slice.new.self _ (length c.key_under-spi.result.1.now) (ap length copied) ∙ copied ∙ c.key_under-spi.ensures.key held ssrc a stands is_try;
      index = is_try.index;
    }
