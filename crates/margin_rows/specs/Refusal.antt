-- Why no instance is built.
use Rattle.std.specs.Prelude.{◌≡◌, ◌<◌, ⊤, length}
use Rattle.margin_rows.specs.Case.{Case, rows_in}
use Rattle.margin_rows.specs.declared.fault.BuildFault.{BuildFault}
use Rattle.margin_rows.specs.declared.fault.BuildFault.TheVariants.{TooManyRows, NoMemory}

-- the fault has its cause in the case: there are more rows than the limit, which is 4096
abbrev pub HasCause : Case → BuildFault → Type 0
HasCause case (TooManyRows limit) = (limit ≡ 4096) × (limit < length (rows_in case))
HasCause case NoMemory = ⊤
