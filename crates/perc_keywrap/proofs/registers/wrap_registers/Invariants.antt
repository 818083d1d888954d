use Rattle.std.proofs.Common.{◌≡◌, ◌<◌, length}
use Rattle.perc_aes.specs.Cipher.{IsKey}
use Rattle.perc_keywrap.specs.Wrap.{count}
use Rattle.perc_keywrap.proofs.Steps.{after_steps}
use Rattle.perc_keywrap.proofs.registers.wrap_registers.Given as goal

abbrev pub invariant-loop-step : goal.invariant-loop-step
invariant-loop-step l = record {
  size : length l.octets ≡ length l.fn.octets;
  begun : 0 < l.step → IsKey l.key;
  done : l.octets ≡ after_steps l.key (count l.fn.octets) l.fn.octets l.step;
}
