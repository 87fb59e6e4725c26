-- Which rows are listed, and in what order rows and terms are (ours).
use Rattle.std.specs.Prelude.{◌≡◌, ℕ, ◌<◌, ◌⊎◌, IsTrue}
use Rattle.coord_model.specs.Pairs.{backs}
use Rattle.coord_model.specs.Rows.{amps_at, is_primary, least_ms_of, most_ms_of}
use Rattle.coord_model.specs.declared.study.Row.{Row}
use Rattle.coord_model.specs.declared.study.RowKind.{RowKind}
use Rattle.coord_model.specs.declared.study.RowKind.TheVariants.{Interval, Least, Most}
use Rattle.coord_model.specs.declared.study.Term.{Term}
use Rattle.margin_rows.specs.Case.{Case}

-- the primary clears the fault first, the backup backs it and has a current there
pub record AsksInterval (case : Case) (row : Row) : Type 0 where
  pub primary : IsTrue (is_primary case.study case.currents row.fault row.primary)
  pub backs : IsTrue (backs case.study row.backup row.primary)
  pub current : 0 < amps_at case.currents row.fault row.backup

-- the relay clears the fault first and has a limit on its time, which is in milliseconds
pub record AsksLimit (case : Case) (limit : ℕ) (row : Row) : Type 0 where
  pub one : row.backup ≡ row.primary
  pub primary : IsTrue (is_primary case.study case.currents row.fault row.primary)
  pub limited : 0 < limit

-- the row stands for what is asked at its fault
abbrev pub IsAsked : RowKind → Case → Row → Type 0
IsAsked Interval case row = AsksInterval case row
IsAsked Least case row = AsksLimit case (least_ms_of case.study row.primary) row
IsAsked Most case row = AsksLimit case (most_ms_of case.study row.primary) row

-- the term comes before the other: by fault and then by relay
abbrev pub TermBefore : Term → Term → Type 0
TermBefore term other = (term.fault < other.fault) ⊎ ((term.fault ≡ other.fault) × (term.relay < other.relay))

-- of two rows of a kind the one comes before the other: by fault, then by primary, then by backup
abbrev pub BeforeInKind : Row → Row → Type 0
BeforeInKind row other =
    (row.fault < other.fault)
    ⊎ ((row.fault ≡ other.fault) × (row.primary < other.primary))
    ⊎ ((row.fault ≡ other.fault) × (row.primary ≡ other.primary) × (row.backup < other.backup))

-- the place of a kind among the kinds
abbrev pub kind_place : RowKind → ℕ
kind_place Interval = 0
kind_place Least = 1
kind_place Most = 2

-- the row comes before the other: by kind, and in a kind by fault, primary and backup
abbrev pub RowBefore : Row → Row → Type 0
RowBefore row other = (kind_place row.kind < kind_place other.kind) ⊎ ((row.kind ≡ other.kind) × BeforeInKind row other)
