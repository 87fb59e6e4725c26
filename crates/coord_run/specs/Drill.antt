-- What `drill` does (ours): it searches the study of a ring of buses, and prints what the search comes to. It names no file,
-- and refuses nothing.
use Rattle.std.specs.Prelude.{◌≡◌, ◌⊎◌, ℕ, max, List, ◌++◌, codes, length}
use Rattle.std.specs.Fmt.{decimal}
use Rattle.branch_bound.specs.declared.outcome.Outcome.{Outcome}
use Rattle.coord_io.specs.Outside.{SinkState}
use Rattle.coord_run.specs.Headline.{Asserts}
use Rattle.coord_run.specs.Printing.{Prints}
use Rattle.coord_run.specs.Report.{report_text}
use Rattle.coord_run.specs.Status.{outcome_status}
use Rattle.drill_ring.specs.Drill.{drill_data}
use Rattle.drill_ring.specs.DrillCurrents.{drill_currents}
use Rattle.margin_rows.specs.Case.{Case, rows_in}
use Rattle.margin_rows.specs.Gap.{IsLeastGap}

-- the ring of this many buses with its currents
abbrev pub drill_case : ℕ → Case
drill_case n = record { study = drill_data n; currents = drill_currents n }

-- how many buses, relays and rows there are
unfoldable pub drill_text : ℕ → ℕ → ℕ → List ℕ
drill_text n relays rows = codes "drill " ++ decimal n ++ codes " relays " ++ decimal relays ++ codes " rows " ++ decimal rows ++ codes "\n"

-- the first line for a case, and the report of an outcome
abbrev pub drill_report : ℕ → Case → Outcome → List ℕ
drill_report n case outcome = drill_text n (length case.study.relays) (length (rows_in case)) ++ report_text case outcome

-- the gap that is searched with: the greater of 10,000 and the study's least gap
abbrev pub IsDrillGap : Case → ℕ → Type 0
IsDrillGap case gap = (least : ℕ) × IsLeastGap case least × (gap ≡ max least 10000)

-- the report and the status are those of an outcome that is as it asserts, of a search with a budget of 200 boxes
pub record IsDrilled (n : ℕ) (report : List ℕ) (status : ℕ) : Type 0 where
  pub outcome : Outcome
  pub gap : ℕ
  pub gap_is : IsDrillGap (drill_case n) gap
  pub truth : Asserts (drill_case n) gap 200 outcome
  pub report_is : report ≡ drill_report n (drill_case n) outcome
  pub status_is : status ≡ outcome_status outcome

-- such a report is printed with its status, or memory ran out before: nothing is printed and the status is 30
abbrev pub Drills : ℕ → SinkState → SinkState → ℕ → Type 0
Drills n before after status =
    ((report : List ℕ) × (own : ℕ) × IsDrilled n report own × Prints report own before after status) ⊎ ((status ≡ 30) × (after ≡ before))
