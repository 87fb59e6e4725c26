use Rattle.std.proofs.Common.{◌≡◌, ℕ, ◌-◌, List, length, replicate, arith, ap, ◌∙◌}
use Rattle.std.proofs.lemmas.List.{length-replicate}
use Rattle.margin_rows.specs.Box.{Box}
use Rattle.cert_tree.specs.declared.counts.Counts.{Counts}
use Rattle.cert_tree.proofs.Rooms.{begun_room}
use Rattle.cert_tree.proofs.walk.TreeWalk.at.Goals as goal

pub invariant_of-result : goal.invariant_of-result
invariant_of-result c =
    let none : c.none.result.boxes ≡ 0 = ap (λ (k : Counts). k.boxes) c.none.ensures in
    let all = c.in_ok-room.ensures ∙ ap (λ (n : ℕ). replicate n c.args.ranges.now) c.in_ok-places_from.ensures in
    let size : length c.in_ok-room.room.items ≡ c.in_ok-places_from.field-0 = ap (λ (xs : List Box). length xs) c.in_ok-room.ensures ∙ length-replicate c.in_ok-places_from.field-0 c.args.ranges.now in
    (begun_room c.args.ranges.now c.in_ok-room.room.items (c.len-first.result - 1) all (omega (arith, c.len-first.ensures, c.in_ok-room.room.ok)), omega (arith, none), omega (arith, size, c.in_ok-places_from.in_ok-places_from-own))
