use Rattle.std.proofs.Common.{◌≡◌, ℕ, List, take, ap, ◌∙◌}
use Rattle.std.proofs.lemmas.List.{take_at}
use Rattle.perc_keydist.specs.ClearRecord.{Hello, spelling}
use Rattle.perc_key_service.proofs.Turns.{hello-length}
use Rattle.perc_key_service.proofs.events.hello.Goals as goal

pub returns : goal.returns
returns c =
    let p = c.args.profile in
    c.copy_from_slice.ensures.after ∙ ap (take 8) c.write.ensures.value ∙ take_at (spelling p (Hello c.number.result)) _ 8 (hello-length p c.number.result)
    ∙ ap (λ (n : ℕ). spelling p (Hello n)) c.number.ensures
