-- The records that a CSV reader has left.
use Rattle.std.specs.Prelude.{◌≡◌, ℕ, true, Option, IsSome, List, []}
use Rattle.std.specs.Option.{option_map_or}
use Rattle.csv.specs.Reading.{Ready, default_config, is_flexible, reader_config, reader_state, reader_trim, records_from, source_of}
use Rattle.csv.specs.declared.parser.State.{State}
use Rattle.csv.specs.declared.reader.Reader.{Reader}
use Rattle.csv.specs.declared.reader.Trim.TheVariants as trim
use Rattle.fault_table.specs.Entry.{Fields}

-- the records of bytes that are known, as many as n
abbrev pub records_known : ℕ → State → Option (List ℕ) → List Fields
records_known n state bytes = option_map_or (records_from default_config n state) bytes []

-- the records that the reader has left, as many as n
abbrev pub records_left : {R : Type 0} → (R → Option (List ℕ)) → ℕ → Reader R → List Fields
records_left remaining n reader = records_known n (reader_state reader) (source_of remaining reader)

-- the reader gives the records of bytes that are known, of any length and as they are
pub record IsReading {R : Type 0} (remaining : R → Option (List ℕ)) (reader : Reader R) : Type 0 where
  pub default : reader_config reader ≡ default_config
  pub untrimmed : reader_trim reader ≡ trim.None
  pub any_length : is_flexible reader ≡ true
  pub ready : Ready reader
  pub known : IsSome (source_of remaining reader)
