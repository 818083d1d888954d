use Rattle.std.proofs.Common.{◌≡◌, ℕ, Bool, false, not, List, length, Option, Some, None, refl, sym, ap, ◌∙◌, arith}
use Rattle.std.specs.Prelude.{is_none, is_some}
use Rattle.perc_ekt.specs.Field.{Extension, Field, Full, Short, told_of}
use Rattle.perc_incoming.specs.Opening.{lacks_wrap}
use Rattle.perc_receiver.specs.Opener.{wrap_of}
use Rattle.perc_receiver.specs.Table.{Table, Wrap}
use Rattle.perc_sent.proofs.Carried.{full_of}
use Rattle.perc_sent.proofs.table.Table.lacks_wrap.Goals as goal

not_some : (b : Bool) (o : Option Wrap) → b ≡ is_some o → not b ≡ is_none o
not_some b None e = ap not e
not_some b (Some w) e = ap not e

unfilled : (f : Field) (table : Table) → ((cipher : List ℕ) (spi epoch : ℕ) → f ≡ Full cipher spi epoch → ⊥) → false ≡ lacks_wrap table f
unfilled Short table other = refl
unfilled (Extension octets kind) table other = refl
unfilled (Full cipher spi epoch) table other = absurd (other cipher spi epoch refl)

pub octets_at-requires-clause-rising : goal.octets_at-requires-clause-rising
octets_at-requires-clause-rising c =
    let t = c.requires.told in
    (full_of t.0 t.1 c.in-Full.spi c.in-Full.epoch c.in-Full.cipher c.args.datagram.now (sym c.in-Full.is ∙ t.2) t.3).rising

pub octets_at-requires-clause-within : goal.octets_at-requires-clause-within
octets_at-requires-clause-within c =
    let t = c.requires.told in
    (full_of t.0 t.1 c.in-Full.spi c.in-Full.epoch c.in-Full.cipher c.args.datagram.now (sym c.in-Full.is ∙ t.2) t.3).within

pub is_wrap-requires-clause-few : goal.is_wrap-requires-clause-few
is_wrap-requires-clause-few c =
    let t = c.requires.told in
    let full = full_of t.0 t.1 c.in-Full.spi c.in-Full.epoch c.in-Full.cipher c.args.datagram.now (sym c.in-Full.is ∙ t.2) t.3 in
    let size : length c.octets_at.result.now ≡ length full.cipher = ap length (c.octets_at.ensures ∙ full.octets) in
    let few = full.few in
    let most = c.requires.few in
    omega arith

pub returns : goal.returns
returns c s f n is told at =
    let full = full_of f n c.in-Full.spi c.in-Full.epoch c.in-Full.cipher c.args.datagram.now (sym c.in-Full.is ∙ told) at in
    let octets : c.octets_at.result.now ≡ full.cipher = c.octets_at.ensures ∙ full.octets in
    let lacks : lacks_wrap s.table f ≡ is_none (wrap_of s.table c.in-Full.spi full.cipher) = ap (lacks_wrap s.table) full.is in
    not_some c.is_wrap.result (wrap_of s.table c.in-Full.spi full.cipher)
    (c.is_wrap.ensures s is ∙ ap (λ (xs : List ℕ). is_some (wrap_of s.table c.in-Full.spi xs)) octets)
    ∙ sym lacks

pub returns-in_default : goal.returns-in_default
returns-in_default c s f n is told at =
    unfilled f s.table (λ cipher spi epoch e. c.in_default.not-Full _ _ _ (told ∙ ap (λ (x : Field). told_of x n) e))
