-- A network file's names as numbers, by the rules that tie its tables together (ours).
use Rattle.std.specs.Prelude.{ℕ, ◌-◌, ◌+◌, ◌*◌, Bool, not, ◌&&◌, ◌||◌, ◌==◌, nat_le, List, slice_get, Result, Ok}
use Rattle.std.specs.List.{list_any}
use Rattle.std.specs.Str.{bytes_eq}
use Rattle.coord_model.specs.Pairs.{ends_at}
use Rattle.coord_model.specs.declared.curve.CurveName.{CurveName}
use Rattle.coord_model.specs.declared.kinds.Key.TheVariants as key
use Rattle.coord_model.specs.declared.kinds.NetKind.TheVariants.{LoopLine, UnknownName, NotAtLine, TwoRelaysAtEnd, OutOfRange}
use Rattle.coord_model.specs.declared.name.Name.{Name}
use Rattle.coord_model.specs.declared.study.Fault.{Fault}
use Rattle.coord_model.specs.declared.study.Line.{Line}
use Rattle.coord_model.specs.declared.study.Relay.{Relay}
use Rattle.network_file.specs.declared.entries.FaultEntry.{FaultEntry}
use Rattle.network_file.specs.declared.entries.LineEntry.{LineEntry}
use Rattle.network_file.specs.declared.entries.RelayEntry.{RelayEntry}
use Rattle.network_file.specs.declared.fault.NetFault.{NetFault}
use Rattle.network_file.specs.declared.fault.Place.{Place}
use Rattle.network_file.specs.Curves.{has_exponent, has_small_time}
use Rattle.network_file.specs.Fault.{◌>>=◌, demand, fault_at}
use Rattle.network_file.specs.Values.{some_or}
use Rattle.network_file.specs.Names.{number_in, new_name}

-- a line with its buses' numbers. The buses are those of the lines, so each has a number.
unfoldable pub line_in : List Name → Place → List Name → LineEntry → Result Line NetFault
line_in buses place names entry = do
  _ ← new_name place names entry.name
  _ ← demand (not (bytes_eq entry.from entry.to)) (fault_at place LoopLine key.To)
  from ← some_or (fault_at place UnknownName key.From) (number_in buses entry.from)
  to ← some_or (fault_at place UnknownName key.To) (number_in buses entry.to)
  Ok (record { name = entry.name; from = from; to = to })

-- the constants of a curve that has its own: its exponent is tried first, and then how long its time is
unfoldable pub within_curve : Place → CurveName → Result (Unit {0}) NetFault
within_curve place curve = do
  _ ← demand (has_exponent curve) (fault_at place OutOfRange key.CustomH)
  demand (has_small_time curve) (fault_at place OutOfRange key.CustomK)

-- a relay at the end of a line
abbrev pub relay_at : RelayEntry → ℕ → ℕ → Relay
relay_at entry line bus = record {
  name = entry.name;
  line = line;
  bus = bus;
  curve = entry.curve;
  ct_primary = entry.ct_primary;
  ct_secondary = entry.ct_secondary;
  plug_first = entry.plug_first;
  plug_step = entry.plug_step;
  plug_count = entry.plug_count;
  dial_first = entry.dial_first;
  dial_step = entry.dial_step;
  dial_count = entry.dial_count;
  load_amps = entry.load_amps;
  least_ms = entry.least_ms;
  most_ms = entry.most_ms;
}

-- one of the relays stands at this end of the line
abbrev pub is_taken : List Relay → ℕ → ℕ → Bool
is_taken relays line bus = list_any (λ relay. (relay.line == line) && (relay.bus == bus)) relays

-- a greatest time is not below the least; a greatest time of 0 is none
abbrev pub is_in_order : ℕ → ℕ → Bool
is_in_order least most = (most == 0) || nat_le least most

-- a relay with its line's and its bus's numbers, after the relays before it
unfoldable pub relay_in : List Name → List Name → List Line → Place → List Name → List Relay → RelayEntry → Result Relay NetFault
relay_in buses line_names lines place names before entry = do
  _ ← new_name place names entry.name
  line ← some_or (fault_at place UnknownName key.Line) (number_in line_names entry.line)
  bus ← some_or (fault_at place NotAtLine key.Bus) (number_in buses entry.bus)
  _ ← demand (ends_at (slice_get lines line) bus) (fault_at place NotAtLine key.Bus)
  _ ← demand (not (is_taken before line bus)) (fault_at place TwoRelaysAtEnd key.Bus)
  _ ← within_curve place entry.curve
  _ ← demand (nat_le (entry.plug_first + (entry.plug_count - 1) * entry.plug_step) 10000) (fault_at place OutOfRange key.PlugCount)
  _ ← demand (nat_le (entry.dial_first + (entry.dial_count - 1) * entry.dial_step) 15000) (fault_at place OutOfRange key.DialCount)
  _ ← demand (is_in_order entry.least_ms entry.most_ms) (fault_at place OutOfRange key.MostMs)
  Ok (relay_at entry line bus)

-- a fault with its line's number
unfoldable pub fault_on : List Name → Place → List Name → FaultEntry → Result Fault NetFault
fault_on line_names place names entry = do
  _ ← new_name place names entry.name
  line ← some_or (fault_at place UnknownName key.Line) (number_in line_names entry.line)
  Ok (record { name = entry.name; line = line; weight = entry.weight })
