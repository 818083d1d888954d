use Rattle.std.proofs.Common.{ℕ, ◌+◌, ◌-◌, List, ◌++◌, false, length, take, refl, ap, ◌∙◌, arith}
use Rattle.perc_distributor.specs.declared.plain.Plain.{Plain}
use Rattle.perc_distributor.proofs.Copies.{Put, media_put, slice_behind}
use Rattle.perc_distributor.proofs.origin.put_media.Goals as goal

pub returns : goal.returns
returns c = λ o at.
    let n : ℕ = c.args.len in
    let end : ℕ = c.put_behind-end.result in
    let copy : List ℕ = c.args.out.now.octets in
    let p : Plain = record { from = c.args.entry.now.association; rtcp = false; octets = c.put_behind-end.new.out; len = end; field = end - n } in
    let whole = slice_behind (n + 16) c.args.datagram.now in
    let put : Put p c.args.entry.now.association c.args.datagram.now copy n = record {
      source = refl;
      kind = refl;
      len = c.put_behind-end.ensures.end ∙ ap (λ (xs : List ℕ). n + length xs) whole;
      field = refl;
      within = omega arith;
      room = omega arith;
      written = c.put_behind-end.ensures.written ∙ ap (λ (xs : List ℕ). take n copy ++ xs) whole;
    } in
    media_put p c.args.entry.now.association o c.args.datagram.now copy n put at
