-- Octets are read as what ends in a block, or refused for the first fault.
use Rattle.std.proofs.Common.{◌≡◌, ℕ, ◌-◌, ◌≤◌, ◌<◌, ◌++◌, List, length, take, Option, Some, None, Ok, Err, refl, sym, ap, subst, ◌∙◌, arith}
use Rattle.std.specs.Prelude.{◌↔◌}
use Rattle.std.specs.Option.{option_map_or}
use Rattle.std.specs.List.{All}
use Rattle.std.proofs.lemmas.Bool.Decides.{nat_tests}
use Rattle.std.proofs.lemmas.List.{length-append, take_at}
use Rattle.perc_rtp.specs.Header.{IsOctet}
use Rattle.perc_rtp.proofs.Octets.{AreOctets-all}
use Rattle.perc_ohb.specs.declared.block.Ohb.{Ohb}
use Rattle.perc_ohb.specs.declared.block.OhbFault.{OhbFault}
use Rattle.perc_ohb.specs.declared.block.OhbFault.TheVariants.{Short}
use Rattle.perc_ohb.specs.Block.{EndsIn, block_length, last_config, ohb_fault, spelling}
use Rattle.perc_ohb.specs.Reading.{before_block, block_at, block_of, config_at, pt_at}
use Rattle.perc_ohb.proofs.BlockLaws.{reads, stands}

-- ---- refusals

pub refused_for : (octets : List ℕ) (fault : OhbFault) → ohb_fault octets ≡ Some fault → block_of octets ≡ Err fault
unfolding block_of
refused_for octets fault is = rw is refl

faults_by : (f : Option OhbFault) (fault : OhbFault) (read : List ℕ × Ohb) → option_map_or Err f (Ok read) ≡ Err fault → f ≡ Some fault
faults_by None fault read is = cc
faults_by (Some f) fault read is = cc

-- octets are refused for what keeps them from ending in a block
pub block_refused : (octets : List ℕ) (fault : OhbFault) → (block_of octets ≡ Err fault) ↔ (ohb_fault octets ≡ Some fault)
unfolding block_of
block_refused octets fault = (faults_by (ohb_fault octets) fault (before_block octets, block_at octets), refused_for octets fault)

config_fault : (octets : List ℕ) (fault : OhbFault) → config_at octets ≡ Err fault → ohb_fault octets ≡ Some fault
config_fault octets fault is = grind (arith, nat_tests)

pub config_refused : (octets : List ℕ) (fault : OhbFault) → config_at octets ≡ Err fault → block_of octets ≡ Err fault
config_refused octets fault is = refused_for octets fault (config_fault octets fault is)

short_fault : (octets : List ℕ) (c : ℕ) → config_at octets ≡ Ok c → length octets < block_length c → ohb_fault octets ≡ Some Short
short_fault octets c config short = grind (arith, nat_tests)

pub short_refused : (octets : List ℕ) (c : ℕ) → config_at octets ≡ Ok c → length octets < block_length c → block_of octets ≡ Err Short
short_refused octets c config short = refused_for octets Short (short_fault octets c config short)

pt_fault : (octets : List ℕ) (c : ℕ) (fault : OhbFault) → config_at octets ≡ Ok c → block_length c ≤ length octets → pt_at octets ≡ Err fault → ohb_fault octets ≡ Some fault
pt_fault octets c fault config fits is = grind (arith, nat_tests)

pub pt_refused : (octets : List ℕ) (c : ℕ) (fault : OhbFault) → config_at octets ≡ Ok c → block_length c ≤ length octets → pt_at octets ≡ Err fault → block_of octets ≡ Err fault
pt_refused octets c fault config fits is = refused_for octets fault (pt_fault octets c fault config fits is)

-- ---- what is read

-- the parts that were read of octets without a fault
record Faultless (octets : List ℕ) : Type 0 where
  config : config_at octets ≡ Ok (last_config octets)
  len : block_length (last_config octets) ≤ length octets
  pt : pt_at octets ≡ Ok (block_at octets).pt

no_fault : (octets : List ℕ) → ohb_fault octets ≡ None → Faultless octets
no_fault octets is = record {
  config = grind (arith, nat_tests);
  len = grind (arith, nat_tests);
  pt = grind (arith, nat_tests);
}

parts_read : (octets : List ℕ) (pt : Option ℕ) → config_at octets ≡ Ok (last_config octets) → block_length (last_config octets) ≤ length octets → pt_at octets ≡ Ok pt
    → (ohb_fault octets ≡ None) × (pt ≡ (block_at octets).pt)
parts_read octets pt config len pt_is = (grind (arith, nat_tests), grind (arith, nat_tests))

read_by : (f : Option OhbFault) (read other : List ℕ × Ohb) → option_map_or Err f (Ok read) ≡ Ok other → (f ≡ None) × (read ≡ other)
read_by None read other is = (refl, cc)
read_by (Some f) read other is = cc

-- octets that end in a block are read as it
pub block_read : (o : Ohb) (before octets : List ℕ) → EndsIn o before octets → block_of octets ≡ Ok (before, o)
unfolding block_of
block_read o before octets is =
    let s = stands o before octets is in
    let parts = parts_read octets o.pt s.config (omega (arith, s.len, s.fits)) s.pt in
    let n : ℕ = length octets - block_length (last_config octets) in
    let at : length before ≡ n = omega (arith, s.len, s.fits) in
    let front : before_block octets ≡ before = ap (take n) is.split ∙ take_at before (spelling o) n at in
    let pt = sym parts.1 in
    rw parts.0 (λ i. Ok (front i, record { pt = pt i; seq = s.seq i; marker = s.marker i }))

-- and what is read is the block that they end in
pub read_block : (o : Ohb) (before octets : List ℕ) → All IsOctet octets → block_of octets ≡ Ok (before, o) → EndsIn o before octets
unfolding block_of
read_block o before octets fits read =
    let is = read_by (ohb_fault octets) (before_block octets, block_at octets) (before, o) read in
    let parts = no_fault octets is.0 in
    let b : Ohb = block_at octets in
    let n : ℕ = length octets - block_length (last_config octets) in
    let found = reads octets (last_config octets) (block_length (last_config octets)) b.pt b.seq b.marker (AreOctets-all octets fits) parts.config refl parts.len parts.pt refl refl in
    let long : length found.0 ≡ n = omega (arith, found.2, ap length found.1.split, length-append found.0 (spelling b)) in
    let front : before_block octets ≡ found.0 = ap (take n) found.1.split ∙ take_at found.0 (spelling b) n long in
    let ends : EndsIn b (before_block octets) octets =
    record { block = found.1.block; split = found.1.split ∙ ap (λ (xs : List ℕ). xs ++ spelling b) (sym front) } in
    subst (λ (r : List ℕ × Ohb). EndsIn r.1 r.0 octets) is.1 ends

pub block_is_read : (o : Ohb) (before octets : List ℕ) → All IsOctet octets → (block_of octets ≡ Ok (before, o)) ↔ EndsIn o before octets
block_is_read o before octets fits = (read_block o before octets fits, block_read o before octets)
