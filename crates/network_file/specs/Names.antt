-- Names and their numbers (ours).
use Rattle.std.specs.Prelude.{ℕ, not, List, [], map, fold, get_or, position, Option, Result}
use Rattle.std.specs.List.{list_any}
use Rattle.std.specs.Str.{bytes_eq}
use Rattle.indexmap.specs.IndexSet.{insert_key}
use Rattle.coord_model.specs.declared.kinds.Key.TheVariants as key
use Rattle.coord_model.specs.declared.kinds.NetKind.TheVariants.{DoubleName}
use Rattle.coord_model.specs.declared.name.Name.{Name}
use Rattle.coord_model.specs.declared.study.Fault.{Fault}
use Rattle.coord_model.specs.declared.study.Line.{Line}
use Rattle.coord_model.specs.declared.study.Relay.{Relay}
use Rattle.network_file.specs.declared.entries.LineEntry.{LineEntry}
use Rattle.network_file.specs.declared.fault.NetFault.{NetFault}
use Rattle.network_file.specs.declared.fault.Place.{Place}
use Rattle.network_file.specs.Fault.{demand, fault_at}

-- the buses, by their first mention in the lines, from before to
abbrev pub with_ends : List Name → LineEntry → List Name
with_ends buses line = insert_key bytes_eq (insert_key bytes_eq buses line.from) line.to

unfoldable pub buses_of : List LineEntry → List Name
buses_of lines = fold with_ends [] lines

-- the names of lines, of relays and of faults
abbrev pub line_names : List Line → List Name
line_names lines = map (λ line. line.name) lines

abbrev pub relay_names : List Relay → List Name
relay_names relays = map (λ relay. relay.name) relays

abbrev pub fault_names : List Fault → List Name
fault_names faults = map (λ fault. fault.name) faults

-- the number of a name among names, from 0
abbrev pub number_in : List Name → Name → Option ℕ
number_in names name = position (bytes_eq name) names

-- the name with this number
abbrev pub named : List Name → ℕ → Name
named names number = get_or names number []

-- a name that none before has
unfoldable pub new_name : Place → List Name → Name → Result (Unit {0}) NetFault
new_name place names name = demand (not (list_any (bytes_eq name) names)) (fault_at place DoubleName key.Name)
