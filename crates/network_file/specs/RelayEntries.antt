-- The relays as they are told, with names where a study has numbers (ours).
use Rattle.std.specs.Prelude.{ℕ, Bool, ◌||◌, ◌==◌, List, [], ◌∷◌, ◌++◌, Result, Ok, Err, if◌then◌else◌}
use Rattle.coord_model.specs.declared.kinds.Key.{Key}
use Rattle.coord_model.specs.declared.kinds.Key.TheVariants.{Name, Line, Bus, Curve, CtPrimary, CtSecondary, PlugFirst, PlugStep, PlugCount, DialFirst, DialStep, DialCount, LoadAmps, LeastMs, MostMs}
use Rattle.coord_model.specs.declared.kinds.NetKind.TheVariants.{OutOfRange}
use Rattle.network_file.specs.declared.entries.RelayEntry.{RelayEntry}
use Rattle.network_file.specs.declared.fault.NetFault.{NetFault}
use Rattle.network_file.specs.declared.fault.Place.{Place}
use Rattle.network_file.specs.Curves.{custom_keys, is_custom_at, known_curve, relay_curve}
use Rattle.network_file.specs.Fault.{◌>>=◌, fault_at}
use Rattle.network_file.specs.Tables.{only}
use Rattle.network_file.specs.Values.{name_at, number_at, number_or}
use Rattle.toml.specs.Data.{Members}

-- the keys of each relay
abbrev pub relay_keys : List Key
relay_keys =
    Name ∷ Line ∷ Bus ∷ Curve ∷ CtPrimary ∷ CtSecondary ∷ PlugFirst ∷ PlugStep ∷ PlugCount ∷ DialFirst ∷ DialStep
    ∷ DialCount ∷ LoadAmps ∷ LeastMs ∷ MostMs ∷ []

-- the keys of a relay whose curve has, or has not, constants of its own
abbrev pub keys_of_relay : Bool → List Key
keys_of_relay custom = if custom then relay_keys ++ custom_keys else relay_keys

-- the rated secondary current of a current transformer, 1 or 5 amperes
unfoldable pub secondary_at : Place → Members → Result ℕ NetFault
secondary_at place members = do
  amps ← number_at place CtSecondary 1 5 members
  if (amps == 1) || (amps == 5) then Ok amps else Err (fault_at place OutOfRange CtSecondary)

-- a relay: its keys are tried first, and then read in order; the constants of its curve come last
unfoldable pub relay_entry : ℕ → Place → Members → Result RelayEntry NetFault
relay_entry format place members = do
  _ ← only format place (keys_of_relay (is_custom_at format members)) members
  name ← name_at place Name members
  line ← name_at place Line members
  bus ← name_at place Bus members
  _ ← known_curve format place members
  ct_primary ← number_at place CtPrimary 1 10000 members
  ct_secondary ← secondary_at place members
  plug_first ← number_at place PlugFirst 1 10000 members
  plug_step ← number_or place PlugStep 1 1 10000 members
  plug_count ← number_or place PlugCount 1 1 64 members
  dial_first ← number_at place DialFirst 1 15000 members
  dial_step ← number_or place DialStep 1 1 15000 members
  dial_count ← number_or place DialCount 1 1 4000 members
  load_amps ← number_or place LoadAmps 0 0 100000 members
  least_ms ← number_or place LeastMs 0 0 100000 members
  most_ms ← number_or place MostMs 0 0 20000000 members
  curve ← relay_curve format place members
  Ok (record {
    name = name;
    line = line;
    bus = bus;
    curve = curve;
    ct_primary = ct_primary;
    ct_secondary = ct_secondary;
    plug_first = plug_first;
    plug_step = plug_step;
    plug_count = plug_count;
    dial_first = dial_first;
    dial_step = dial_step;
    dial_count = dial_count;
    load_amps = load_amps;
    least_ms = least_ms;
    most_ms = most_ms;
  })
