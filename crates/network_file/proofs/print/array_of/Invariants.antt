use Rattle.std.proofs.Common.{◌≡◌, Ok, map, take, vec_len}
use Rattle.coord_model.specs.declared.kinds.TableName.{TableName}
use Rattle.network_file.specs.Elements.{entries_of}
use Rattle.network_file.specs.Printed.{ArePlain}
use Rattle.toml.specs.View.{view, items_view}
use Rattle.network_file.proofs.print.array_of.Given as goal

abbrev pub invariant-loop-entry : goal.invariant-loop-entry
invariant-loop-entry g l = record {
  counted : vec_len l.tables ≡ l.entry-index;
  so_far : (table : TableName) → entries_of (g.E.Entry.entry_of l.format) table (map view l.tables.items) ≡ Ok (take l.entry-index l.entries);
  plain : ArePlain 1 (items_view l.tables.items);
}
