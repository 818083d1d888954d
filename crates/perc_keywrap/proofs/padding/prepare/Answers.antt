use Rattle.std.proofs.Common.{◌≡◌, ℕ, ◌+◌, ◌-◌, ◌++◌, length, drop, replicate, take, ◌∙◌, ap, arith, length-drop}
use borrow.Rule.Slice.PartMut.{put_mid}
use Rattle.std.proofs.lemmas.List.{length-take-le}
use Rattle.perc_keywrap.proofs.Prepared.{length-written, prepared_made}
use Rattle.perc_keywrap.proofs.padding.prepare.Goals as goal

pub returns : goal.returns
returns c =
    let p = c.args.plain.now in
    let o = c.args.octets.now in
    let x = c.copy_from_slice.new.self in
    let y = c.copy_from_slice-2.new.self in
    let z = c.copy_from_slice-3.new.self in
    let end : ℕ = 8 + length p in
    let begun = put_mid 8 (end - 8) (put_mid 4 4 (x ++ drop 4 o) y) z in
    let first = c.copy_from_slice.ensures.after ∙ c.to_be_bytes.ensures in
    let second = c.copy_from_slice-2.ensures.after ∙ c.to_be_bytes-2.ensures in
    let third = c.copy_from_slice-3.ensures.after in
    let width : end - 8 ≡ length p = omega arith in
    let size : length begun ≡ length o =
    length-written o x y z (length p) (end - 8) (ap length first) (ap length second) (ap length third) width (omega (arith, c.requires.size)) in
    let left : ℕ = length begun - end in
    let gap : left ≡ length o - end = ap (λ (k : ℕ). k - end) size in
    let whole : length (take left (drop end begun)) ≡ left = length-take-le left (drop end begun) (omega (arith, length-drop end begun)) in
    prepared_made p o x y z c.fill.new.self (end - 8) left (record {
      first = first;
      second = second;
      third = third;
      width = width;
      gap = gap;
      zeros = c.fill.ensures.after (λ y same. same) ∙ ap (λ (k : ℕ). replicate k 0) whole;
      size = c.requires.size;
    })
