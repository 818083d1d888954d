-- The sender keeps its profile.
use Rattle.std.proofs.Common.{◌≡◌}
use Rattle.perc_base.specs.declared.profile.Profile.TheVariants.{Aes128}
use Rattle.perc_media_tests.proofs.endpoint.hand_keys_over.Given as goal

abbrev pub invariant-loop-key : goal.invariant-loop-key
invariant-loop-key l = l.sender.receiving.profile ≡ Aes128
