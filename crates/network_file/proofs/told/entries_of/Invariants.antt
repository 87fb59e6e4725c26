use Rattle.std.proofs.Common.{◌≡◌, map, drop, vec_len, All}
use Rattle.network_file.specs.Fault.{each_after}
use Rattle.network_file.specs.Elements.{entry_at, entries_of, place_after}
use Rattle.toml.specs.View.{view}
use Rattle.network_file.proofs.told.entries_of.Given as goal

abbrev pub invariant-loop-element : goal.invariant-loop-element
invariant-loop-element g l = record {
  counted : vec_len l.entries ≡ l.element-index;
  so_far : each_after (λ before. entry_at (g.E.Entry.entry_of l.format) (place_after l.table before)) l.entries.items (map view (drop l.element-index l.elements)) ≡ entries_of (g.E.Entry.entry_of l.format) l.table (map view l.elements);
  keeps : All (g.E.Entry.Keeps l.format) l.entries.items;
}
