-- A study with names in place of numbers, as a network file tells it (ours).
use Rattle.std.specs.Prelude.{List, map}
use Rattle.coord_model.specs.StudyData.{StudyData}
use Rattle.coord_model.specs.declared.name.Name.{Name}
use Rattle.coord_model.specs.declared.study.Exempt.{Exempt}
use Rattle.coord_model.specs.declared.study.Fault.{Fault}
use Rattle.coord_model.specs.declared.study.Line.{Line}
use Rattle.coord_model.specs.declared.study.PairInterval.{PairInterval}
use Rattle.coord_model.specs.declared.study.Relay.{Relay}
use Rattle.network_file.specs.declared.entries.ExemptEntry.{ExemptEntry}
use Rattle.network_file.specs.declared.entries.FaultEntry.{FaultEntry}
use Rattle.network_file.specs.declared.entries.IntervalEntry.{IntervalEntry}
use Rattle.network_file.specs.declared.entries.LineEntry.{LineEntry}
use Rattle.network_file.specs.declared.entries.RelayEntry.{RelayEntry}
use Rattle.network_file.specs.Names.{named, line_names, relay_names}
use Rattle.network_file.specs.Told.{ToldData}

-- a line, a relay, a fault, an exempt pair and an interval with names in place of numbers
abbrev pub line_told : List Name → Line → LineEntry
line_told buses line =
    record { name = line.name; from = named buses line.from; to = named buses line.to }

abbrev pub relay_told : List Name → List Name → Relay → RelayEntry
relay_told buses line_names relay = record {
  name = relay.name;
  line = named line_names relay.line;
  bus = named buses relay.bus;
  curve = relay.curve;
  ct_primary = relay.ct_primary;
  ct_secondary = relay.ct_secondary;
  plug_first = relay.plug_first;
  plug_step = relay.plug_step;
  plug_count = relay.plug_count;
  dial_first = relay.dial_first;
  dial_step = relay.dial_step;
  dial_count = relay.dial_count;
  load_amps = relay.load_amps;
  least_ms = relay.least_ms;
  most_ms = relay.most_ms;
}

abbrev pub fault_told : List Name → Fault → FaultEntry
fault_told line_names fault = record {
  name = fault.name;
  line = named line_names fault.line;
  weight = fault.weight;
}

abbrev pub pair_told : List Name → Exempt → ExemptEntry
pair_told relay_names pair = record {
  backup = named relay_names pair.backup;
  primary = named relay_names pair.primary;
}

abbrev pub interval_told : List Name → PairInterval → IntervalEntry
interval_told relay_names own = record {
  backup = named relay_names own.backup;
  primary = named relay_names own.primary;
  cti_ms = own.cti_ms;
}

-- a study with names in place of numbers
abbrev pub told_of : StudyData → ToldData
told_of study = record {
  format = study.format;
  study = record {
    cti_ms = study.cti_ms;
    sense = study.sense;
    cap = study.cap;
    load_percent = study.load_percent;
  };
  lines = map (line_told study.buses) study.lines;
  relays = map (relay_told study.buses (line_names study.lines)) study.relays;
  faults = map (fault_told (line_names study.lines)) study.faults;
  exempt = map (pair_told (relay_names study.relays)) study.exempt;
  intervals = map (interval_told (relay_names study.relays)) study.intervals;
}
