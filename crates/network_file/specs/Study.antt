-- What a network file tells as a study (ours): its tables in order, with numbers in place of names.
use Rattle.std.specs.Prelude.{List, [], length, sum_by, Result, Ok}
use Rattle.coord_model.specs.StudyData.{StudyData}
use Rattle.coord_model.specs.declared.kinds.TableName.TheVariants as tables
use Rattle.coord_model.specs.declared.kinds.What.TheVariants.{Buses, PickupSteps}
use Rattle.coord_model.specs.declared.name.Name.{Name}
use Rattle.coord_model.specs.declared.study.Exempt.{Exempt}
use Rattle.coord_model.specs.declared.study.Fault.{Fault}
use Rattle.coord_model.specs.declared.study.Line.{Line}
use Rattle.coord_model.specs.declared.study.PairInterval.{PairInterval}
use Rattle.coord_model.specs.declared.study.Relay.{Relay}
use Rattle.network_file.specs.declared.entries.ExemptEntry.{ExemptEntry}
use Rattle.network_file.specs.declared.entries.FaultEntry.{FaultEntry}
use Rattle.network_file.specs.declared.entries.IntervalEntry.{IntervalEntry}
use Rattle.network_file.specs.declared.entries.LineEntry.{LineEntry}
use Rattle.network_file.specs.declared.entries.RelayEntry.{RelayEntry}
use Rattle.network_file.specs.declared.fault.NetFault.{NetFault}
use Rattle.network_file.specs.Fault.{◌>>=◌, each_after}
use Rattle.network_file.specs.Names.{buses_of, line_names, relay_names, fault_names}
use Rattle.network_file.specs.Numbered.{line_in, relay_in, fault_on}
use Rattle.network_file.specs.Pairs.{exempt_in, interval_in}
use Rattle.network_file.specs.Tables.{within}
use Rattle.network_file.specs.Told.{ToldData}
use Rattle.network_file.specs.Elements.{place_after}

-- the next line, relay, fault, exempt pair and interval, after those before it
abbrev pub next_line : List Name → List Line → LineEntry → Result Line NetFault
next_line buses before entry = line_in buses (place_after tables.Line before) (line_names before) entry

abbrev pub next_relay : List Name → List Line → List Relay → RelayEntry → Result Relay NetFault
next_relay buses lines before entry =
    relay_in buses (line_names lines) lines (place_after tables.Relay before) (relay_names before) before entry

abbrev pub next_fault : List Line → List Fault → FaultEntry → Result Fault NetFault
next_fault lines before entry = fault_on (line_names lines) (place_after tables.Fault before) (fault_names before) entry

abbrev pub next_exempt : List Name → List Exempt → ExemptEntry → Result Exempt NetFault
next_exempt names before entry = exempt_in names (place_after tables.Exempt before) entry

abbrev pub next_interval : List Name → List PairInterval → IntervalEntry
    → Result PairInterval NetFault
next_interval names before entry =
    interval_in names (place_after tables.Interval before) before entry

-- the lines, between at most 64 buses
unfoldable pub grid_of : List LineEntry → Result (List Line) NetFault
grid_of entries = do
  lines ← each_after (next_line (buses_of entries)) [] entries
  _ ← within Buses 64 (length (buses_of entries))
  Ok lines

-- what is told, with numbers in place of names
unfoldable pub study_of : ToldData → Result StudyData NetFault
study_of told = do
  lines ← grid_of told.lines
  relays ← each_after (next_relay (buses_of told.lines) lines) [] told.relays
  _ ← within PickupSteps 3072 (sum_by (λ relay. relay.plug_count) relays)
  faults ← each_after (next_fault lines) [] told.faults
  exempt ← each_after (next_exempt (relay_names relays)) [] told.exempt
  intervals ← each_after (next_interval (relay_names relays)) [] told.intervals
  Ok (record {
    format = told.format;
    cti_ms = told.study.cti_ms;
    sense = told.study.sense;
    cap = told.study.cap;
    load_percent = told.study.load_percent;
    buses = buses_of told.lines;
    lines = lines;
    relays = relays;
    faults = faults;
    exempt = exempt;
    intervals = intervals;
  })
