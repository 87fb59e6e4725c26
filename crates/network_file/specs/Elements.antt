-- Arrays of tables, each taken whole (ours).
use Rattle.std.specs.Prelude.{ℕ, ◌+◌, List, [], length, Result}
use Rattle.coord_model.specs.declared.kinds.Key.TheVariants.{Line, Relay, Fault, Exempt, Interval}
use Rattle.coord_model.specs.declared.kinds.NetKind.TheVariants.{WrongKind}
use Rattle.coord_model.specs.declared.kinds.TableName.{TableName}
use Rattle.coord_model.specs.declared.kinds.TableName.TheVariants as tables
use Rattle.coord_model.specs.declared.kinds.What.TheVariants as counted
use Rattle.network_file.specs.declared.entries.ExemptEntry.{ExemptEntry}
use Rattle.network_file.specs.declared.entries.FaultEntry.{FaultEntry}
use Rattle.network_file.specs.declared.entries.IntervalEntry.{IntervalEntry}
use Rattle.network_file.specs.declared.entries.LineEntry.{LineEntry}
use Rattle.network_file.specs.declared.entries.RelayEntry.{RelayEntry}
use Rattle.network_file.specs.declared.fault.NetFault.{NetFault}
use Rattle.network_file.specs.declared.fault.Place.{Place}
use Rattle.network_file.specs.Entries.{line_entry, fault_entry, exempt_entry, interval_entry}
use Rattle.network_file.specs.Fault.{◌>>=◌, fault_in, each_after}
use Rattle.network_file.specs.Tables.{within, elements_at, some_elements_at, table_or}
use Rattle.toml.specs.Data.{Data, Members}
use Rattle.network_file.specs.RelayEntries.{relay_entry}

-- the top, the study, and the element of an array after those before it
abbrev pub top : Place
top = record { table = tables.Top; index = 0 }

abbrev pub study_place : Place
study_place = record { table = tables.Study; index = 0 }

abbrev pub place_after : {A : Type 0} → TableName → List A → Place
place_after table before = record { table = table; index = length before + 1 }

-- an element as an entry: it has to be a table
unfoldable pub entry_at : {A : Type 0} → (Place → Members → Result A NetFault) → Place → Data → Result A NetFault
entry_at read place value = do
  members ← table_or (fault_in place WrongKind) value
  read place members

-- the elements of an array as entries
abbrev pub entries_of : {A : Type 0} → (Place → Members → Result A NetFault) → TableName → List Data → Result (List A) NetFault
entries_of read table elements = each_after (λ before. entry_at read (place_after table before)) [] elements

-- the lines, the relays, the faults, the exempt pairs and the intervals
unfoldable pub lines_at : ℕ → Members → Result (List LineEntry) NetFault
lines_at format members = do
  elements ← some_elements_at top Line members
  _ ← within counted.Lines 64 (length elements)
  entries_of (line_entry format) tables.Line elements

unfoldable pub relays_at : ℕ → Members → Result (List RelayEntry) NetFault
relays_at format members = do
  elements ← some_elements_at top Relay members
  _ ← within counted.Relays 96 (length elements)
  entries_of (relay_entry format) tables.Relay elements

unfoldable pub faults_at : ℕ → Members → Result (List FaultEntry) NetFault
faults_at format members = do
  elements ← elements_at top Fault members
  _ ← within counted.Faults 256 (length elements)
  entries_of (fault_entry format) tables.Fault elements

unfoldable pub exempt_at : ℕ → Members → Result (List ExemptEntry) NetFault
exempt_at format members = do
  elements ← elements_at top Exempt members
  _ ← within counted.Exempt 1024 (length elements)
  entries_of (exempt_entry format) tables.Exempt elements

unfoldable pub intervals_at : ℕ → Members → Result (List IntervalEntry) NetFault
intervals_at format members = do
  elements ← elements_at top Interval members
  _ ← within counted.Intervals 1024 (length elements)
  entries_of (interval_entry format) tables.Interval elements
