use Rattle.std.proofs.Common.{ℕ, ◌-◌, List, length, take, drop, refl, sym, subst, ◌∙◌, arith}
use Rattle.std.proofs.lemmas.List.{length-take, take_rest}
use Rattle.perc_ohb.specs.Rewriting.{block_after, rewrite_of}
use Rattle.perc_double.specs.Double.{IsOpened, relayed}
use Rattle.perc_double.proofs.RelayLaws.{IsHeader-relayed}
use Rattle.perc_run.specs.Hostile.{unsealed_anew}
use Rattle.perc_reseal_line.proofs.Keeping.{kept_mirrors}
use Rattle.perc_reseal_line.proofs.Octets.{header_stands}
use Rattle.perc_reseal_line.proofs.resealing.seal_media.Goals as goal

pub returns : goal.returns
returns c = λ u mirrors.
    let change = rewrite_of c.args.change.now in
    let g = relayed u.header change in
    let k = block_after u.header u.block change in
    let datagram = c.args.datagram.now in
    let at = length datagram - c.args.unsealed.now.field in
    let field : List ℕ = take (length datagram - at) (drop at datagram) in
    let octets : List ℕ = take c.in-Some.len c.write_sealed.new.out in
    let first = subst (λ (xs : List ℕ). IsOpened u.header u.inner u.block xs) (sym c.deref.ensures.value) mirrors.packet in
    let again = subst (λ (xs : List ℕ). IsOpened u.header u.inner u.block xs) (sym c.deref-2.ensures.value) mirrors.packet in
    let written = c.in-Some.ensures.octets u.header u.inner u.block first in
    let stands = header_stands c.args.keys.now c.args.roc g u.inner k field octets (IsHeader-relayed u.header change mirrors.packet.reads.header c.requires.change) written in
    kept_mirrors c.args.keys.now c.args.roc (unsealed_anew u change) field octets c.in_ok-kept.kept _
    (record {
      field_is = take_rest datagram at ∙ mirrors.field;
      octets_are = written;
      few = omega (arith, length-take c.in-Some.len c.write_sealed.new.out, c.in-Some.ensures.within);
      field_len = c.in_ok-kept.ensures.field;
      packet = c.in_ok-kept.ensures.packet u.header u.inner u.block _ again stands;
    })
    c.in_ok-from_slice.ensures.items refl
