use Rattle.std.proofs.Common.{◌≡◌, ℕ, ◌*◌, ◌<◌, get_or, length}
use Rattle.perc_aes.specs.Cipher.{IsKey}
use Rattle.perc_keywrap.specs.Wrap.{count}
use Rattle.perc_keywrap.proofs.Steps.{LeadsTo}
use Rattle.perc_keywrap.proofs.registers.unwrap_registers.Given as goal

abbrev pub invariant-loop-step : goal.invariant-loop-step
invariant-loop-step l = record {
  size : length l.octets ≡ length l.fn.octets;
  leads : LeadsTo l.key l.octets l.fn.octets (count l.fn.octets) l.step (6 * count l.fn.octets);
  begun : l.step < 6 * count l.fn.octets → IsKey l.key;
  small : l.step < 6 * count l.fn.octets → (k : ℕ) → get_or l.octets k 0 < 256;
}
