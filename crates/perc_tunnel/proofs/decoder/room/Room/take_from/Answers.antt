use Rattle.std.proofs.Common.{◌≡◌, ◌+◌, ◌-◌, ◌≤◌, List, ℕ, ◌++◌, length, take, drop, sym, ap, ◌∙◌, arith}
use Rattle.std.specs.Vec.{with_items}
use Rattle.std.specs.List.{slice_range}
use Rattle.std.proofs.lemmas.List.{with_items_is, length-append, length-take-le, length-drop}
use borrow.Rule.Slice.PartMut.{put_mid, post_of}
use Rattle.perc_tunnel.specs.Room.{decoding_in}
use Rattle.perc_tunnel.proofs.Ranges.{range-written}
use Rattle.perc_tunnel.proofs.Steps.{fed_is}
use Rattle.perc_tunnel.proofs.decoder.room.Room.take_from.Goals as goal

pub returns-clause-held : goal.returns-clause-held
returns-clause-held c =
    let room = c.make_room.new.self in
    let n = c.count_taken-count.result in
    let piece = c.args.piece.now in
    let xs = c.as_mut_slice.result.now in
    let part = c.copy_from_slice.new.self in
    let is : xs ≡ room.octets.items = c.as_mut_slice.ensures.value in
    let full : length xs ≡ 65538 = ap length is ∙ omega (arith, room.octets.ok.0, room.full) in
    let fits : room.end + n ≤ length xs = omega (arith, c.make_room.ensures.room) in
    let len : length part ≡ n = c.copy_from_slice.ensures.len ∙ length-take-le (room.end + n - room.end) (drop room.end xs) (omega (arith, length-drop room.end xs)) ∙ omega arith in
    let ys : List ℕ = put_mid room.end (room.end + n - room.end) xs part in
    let back : List ℕ = post_of room.end (room.end + n - room.end) xs in
    let all : length ys ≡ length xs =
    let two = length-append (take room.end xs) (part ++ back) in
    let front = length-take-le room.end xs (omega arith) in
    let behind = length-drop (room.end + (room.end + n - room.end)) xs in
    omega (arith, two, length-append part back, front, behind, len, fits) in
    let ys-len : length ys ≡ room.octets.len = all ∙ ap length is ∙ sym room.octets.ok.0 in
    let items = with_items_is room.octets ys ys-len in
    let held = range-written xs (with_items room.octets ys).items part back room.start room.end n room.ordered fits len items in
    fed_is (decoding_in c.args.self.now) (decoding_in room) piece (slice_range (with_items room.octets ys).items room.start (room.end + n)) n
    c.make_room.ensures.held c.count_taken-count.ensures
    (held ∙ ap (λ l. slice_range l room.start room.end ++ part) is ∙ ap (λ l. slice_range room.octets.items room.start room.end ++ l) c.copy_from_slice.ensures.after)
