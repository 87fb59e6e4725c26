-- The exempt pairs and the pairs' own intervals, with numbers in place of names (ours).
use Rattle.std.specs.Prelude.{ℕ, Bool, not, ◌&&◌, ◌==◌, List, Result, Ok}
use Rattle.std.specs.List.{list_any}
use Rattle.coord_model.specs.declared.kinds.Key.TheVariants as key
use Rattle.coord_model.specs.declared.kinds.NetKind.TheVariants.{UnknownName, DoubleName}
use Rattle.coord_model.specs.declared.name.Name.{Name}
use Rattle.coord_model.specs.declared.study.Exempt.{Exempt}
use Rattle.coord_model.specs.declared.study.PairInterval.{PairInterval}
use Rattle.network_file.specs.declared.entries.ExemptEntry.{ExemptEntry}
use Rattle.network_file.specs.declared.entries.IntervalEntry.{IntervalEntry}
use Rattle.network_file.specs.declared.fault.NetFault.{NetFault}
use Rattle.network_file.specs.declared.fault.Place.{Place}
use Rattle.network_file.specs.Fault.{◌>>=◌, demand, fault_at}
use Rattle.network_file.specs.Values.{some_or}
use Rattle.network_file.specs.Names.{number_in}

-- an exempt pair with its relays' numbers
unfoldable pub exempt_in : List Name → Place → ExemptEntry → Result Exempt NetFault
exempt_in relay_names place entry = do
  backup ← some_or (fault_at place UnknownName key.Backup) (number_in relay_names entry.backup)
  primary ← some_or (fault_at place UnknownName key.Primary) (number_in relay_names entry.primary)
  Ok (record { backup = backup; primary = primary })

-- one of the intervals is that of the pair
abbrev pub has_interval : List PairInterval → ℕ → ℕ → Bool
has_interval intervals backup primary =
    list_any (λ own. (own.backup == backup) && (own.primary == primary)) intervals

-- an interval with its relays' numbers, after the intervals before it
unfoldable pub interval_in : List Name → Place → List PairInterval → IntervalEntry
    → Result PairInterval NetFault
interval_in relay_names place before entry = do
  backup ← some_or (fault_at place UnknownName key.Backup) (number_in relay_names entry.backup)
  primary ← some_or (fault_at place UnknownName key.Primary) (number_in relay_names entry.primary)
  _ ← demand (not (has_interval before backup primary)) (fault_at place DoubleName key.Primary)
  Ok (record { backup = backup; primary = primary; cti_ms = entry.cti_ms })
