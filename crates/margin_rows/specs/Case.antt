-- A study with its currents: what a coordination is worked out for.
use Rattle.std.specs.Prelude.{ℕ, ◌≤◌, List, length, slice_index_or}
use Rattle.coord_model.specs.Limits.{FitsStudy, FitsCurrents}
use Rattle.coord_model.specs.Rows.{rows_of, terms_of}
use Rattle.coord_model.specs.StudyData.{StudyData, study_data, entries_of}
use Rattle.coord_model.specs.declared.study.Current.{Current}
use Rattle.coord_model.specs.declared.study.Currents.{Currents}
use Rattle.coord_model.specs.declared.study.Row.{Row}
use Rattle.coord_model.specs.declared.study.RowKind.TheVariants.{Interval}
use Rattle.coord_model.specs.declared.study.Study.{Study}
use Rattle.coord_model.specs.declared.study.Term.{Term}

-- a study and the entries of its currents table
pub record Case : Type 0 where
  pub study : StudyData
  pub currents : List Current

-- the case of a study and its currents
abbrev pub case_of : Study → Currents → Case
case_of study currents = record { study = study_data study; currents = entries_of currents }

-- the rows of a case
abbrev pub rows_in : Case → List Row
rows_in case = rows_of case.study case.currents

-- the terms of a case
abbrev pub terms_in : Case → List Term
terms_in case = terms_of case.study case.currents

-- the row with a number below their count
abbrev pub row_at : Case → ℕ → Row
row_at case number = slice_index_or (rows_in case) number (record { kind = Interval; fault = 0; backup = 0; primary = 0 })

-- the term with a number below their count
abbrev pub term_at : Case → ℕ → Term
term_at case number = slice_index_or (terms_in case) number (record { fault = 0; relay = 0 })

-- the case is within the limits
pub record FitsCase (case : Case) : Type 0 where
  pub study : FitsStudy case.study
  pub currents : FitsCurrents case.study case.currents
  pub few_rows : length (rows_in case) ≤ 4096
