-- The study, the lines, the faults, the exempt pairs and the intervals as they are told (ours): with names where
-- a study has numbers.
use Rattle.std.specs.Prelude.{ℕ, List, [], ◌∷◌, Result, Ok}
use Rattle.coord_model.specs.declared.kinds.Key.{Key}
use Rattle.coord_model.specs.declared.kinds.Key.TheVariants.{CtiMs, Sense, Cap, LoadPercent, Name, From, To, Line, Weight, Backup, Primary}
use Rattle.network_file.specs.declared.entries.ExemptEntry.{ExemptEntry}
use Rattle.network_file.specs.declared.entries.FaultEntry.{FaultEntry}
use Rattle.network_file.specs.declared.entries.IntervalEntry.{IntervalEntry}
use Rattle.network_file.specs.declared.entries.LineEntry.{LineEntry}
use Rattle.network_file.specs.declared.entries.StudyEntry.{StudyEntry}
use Rattle.network_file.specs.declared.fault.NetFault.{NetFault}
use Rattle.network_file.specs.declared.fault.Place.{Place}
use Rattle.network_file.specs.Fault.{◌>>=◌}
use Rattle.network_file.specs.Tables.{only}
use Rattle.network_file.specs.Values.{name_at, number_at, number_or}
use Rattle.toml.specs.Data.{Members}

-- the keys of the study, of a line, of a fault, of an exempt pair and of an interval
abbrev pub study_keys : List Key
study_keys = CtiMs ∷ Sense ∷ Cap ∷ LoadPercent ∷ []

abbrev pub line_keys : List Key
line_keys = Name ∷ From ∷ To ∷ []

abbrev pub fault_keys : List Key
fault_keys = Name ∷ Line ∷ Weight ∷ []

abbrev pub exempt_keys : List Key
exempt_keys = Backup ∷ Primary ∷ []

abbrev pub interval_keys : List Key
interval_keys = Backup ∷ Primary ∷ CtiMs ∷ []

-- the study: its keys are tried first, and then read in order
unfoldable pub study_entry : ℕ → Place → Members → Result StudyEntry NetFault
study_entry format place members = do
  _ ← only format place study_keys members
  cti_ms ← number_at place CtiMs 1 10000 members
  sense ← number_or place Sense 110 105 500 members
  cap ← number_or place Cap 20 5 30 members
  load_percent ← number_or place LoadPercent 120 100 300 members
  Ok (record { cti_ms = cti_ms; sense = sense; cap = cap; load_percent = load_percent })

-- a line, read likewise
unfoldable pub line_entry : ℕ → Place → Members → Result LineEntry NetFault
line_entry format place members = do
  _ ← only format place line_keys members
  name ← name_at place Name members
  from ← name_at place From members
  to ← name_at place To members
  Ok (record { name = name; from = from; to = to })

-- a fault, read likewise
unfoldable pub fault_entry : ℕ → Place → Members → Result FaultEntry NetFault
fault_entry format place members = do
  _ ← only format place fault_keys members
  name ← name_at place Name members
  line ← name_at place Line members
  weight ← number_or place Weight 1 1 1000 members
  Ok (record { name = name; line = line; weight = weight })

-- an exempt pair, read likewise
unfoldable pub exempt_entry : ℕ → Place → Members → Result ExemptEntry NetFault
exempt_entry format place members = do
  _ ← only format place exempt_keys members
  backup ← name_at place Backup members
  primary ← name_at place Primary members
  Ok (record { backup = backup; primary = primary })

-- a pair's own interval, read likewise
unfoldable pub interval_entry : ℕ → Place → Members → Result IntervalEntry NetFault
interval_entry format place members = do
  _ ← only format place interval_keys members
  backup ← name_at place Backup members
  primary ← name_at place Primary members
  cti_ms ← number_at place CtiMs 1 10000 members
  Ok (record { backup = backup; primary = primary; cti_ms = cti_ms })
