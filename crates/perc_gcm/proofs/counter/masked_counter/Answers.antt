use borrow.Rule.Slice.PartMut.{put_mid}
use Rattle.std.proofs.Common.{List, ℕ, [], ◌∷◌, ◌++◌, ◌+◌, ap, sym, ◌∙◌}
use Rattle.std.specs.Int.{w32, to_be_bytes}
use Rattle.perc_aes.specs.Cipher.{aes}
use Rattle.perc_gcm.proofs.KeyStream.{counter_is, counter_filled}
use Rattle.perc_gcm.proofs.counter.masked_counter.Goals as goal

pub returns : goal.returns
returns c =
    c.encrypt_block.ensures.value
    ∙ ap (λ (b : List ℕ). aes c.args.key.now b)
    (ap (λ (v : List ℕ). put_mid 12 4 (v ++ 0 ∷ 0 ∷ 0 ∷ 0 ∷ []) c.copy_from_slice-2.new.self) c.copy_from_slice.ensures.after
    ∙ ap (λ (v : List ℕ). put_mid 12 4 (c.args.iv.now ++ 0 ∷ 0 ∷ 0 ∷ 0 ∷ []) v) (c.copy_from_slice-2.ensures.after ∙ c.to_be_bytes.ensures)
    ∙ counter_filled c.args.iv.now (to_be_bytes w32 (c.args.count + 1)) c.told-iv
    ∙ sym (counter_is c.args.iv.now c.args.count c.told-iv c.requires))
