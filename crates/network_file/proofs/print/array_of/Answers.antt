use Rattle.std.proofs.Common.{◌≡◌, ◌+◌, [], ◌∷◌, ◌++◌, Ok, map, take, refl, sym, ap, ◌∙◌, arith}
use Rattle.std.proofs.lemmas.List.{map_push, take_more}
use Rattle.network_file.specs.Elements.{entry_at, place_after}
use Rattle.network_file.specs.Fault.{each_after}
use Rattle.network_file.specs.declared.fault.Place.{Place}
use Rattle.network_file.proofs.EachAfter.{each_push}
use Rattle.network_file.proofs.PlainItems.{plain_push}
use Rattle.toml.specs.View.{view}
use Rattle.network_file.proofs.print.array_of.Goals as goal

pub loop-entry-init : goal.loop-entry-init
unfolding each_after
loop-entry-init g c =
    rw c.in_ok-tables.ensures.items (record { counted = omega (arith, c.in_ok-tables.ensures.len); so_far = λ table. refl; plain = record { nested = omega arith; dated = refl } })

pub loop-entry-preserved : goal.loop-entry-preserved
unfolding entry_at
loop-entry-preserved g c =
    let x = c.entry-item.result in
    let i = c.loop-entry.entry-index in
    let entries = c.args.entries.now in
    let values = c.loop-entry.tables.items in
    let more : take (i + 1) entries ≡ take i entries ++ x ∷ [] =
    take_more entries i x c.loop-entry-test.true ∙ ap (λ y. take i entries ++ y ∷ []) (sym c.entry-item.is) in
    let reads : (place : Place) → entry_at (g.E.Entry.entry_of c.args.format) place (view c.from.result) ≡ Ok x =
    λ place. rw (c.from.ensures, c.in_ok-table.ensures.reads place) in
    rw c.in_ok-push.ensures.items (record {
      counted = omega (arith, c.in_ok-push.ensures.len);
      so_far = λ table. rw (map_push view values c.from.result, more)
          (each_push (λ before. entry_at (g.E.Entry.entry_of c.args.format) (place_after table before)) [] (map view values) (take i entries) (view c.from.result) x
          (c.loop-entry.invariant.so_far table) (reads (place_after table (take i entries))));
      plain = plain_push 1 values c.from.result c.loop-entry.invariant.plain (rw c.from.ensures (omega (arith, c.in_ok-table.ensures.plain.nested))) (rw c.from.ensures c.in_ok-table.ensures.plain.dated);
    })
