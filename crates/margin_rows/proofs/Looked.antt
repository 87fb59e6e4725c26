-- Where the times of an instance's rows and terms stand.
use Rattle.std.specs.Prelude.{slice_get, slice_index}
use Rattle.std.specs.Option.{IsSomeAnd}
use Rattle.std.proofs.Common.{◌≡◌, ℕ, ◌+◌, ◌<◌, List, length, get_or, Some, Option, arith, sym, ap, ◌∙◌, subst}
use Rattle.std.proofs.lemmas.List.Elements.{Contains-get_or}
use Rattle.std.proofs.lemmas.Option.{slice_get_within, get_or_from_slice_get}
use Rattle.coord_model.specs.Allowed.{IsUsed}
use Rattle.coord_model.specs.Enclosure.{Enclosure}
use Rattle.coord_model.specs.declared.study.Row.{Row}
use Rattle.coord_model.specs.declared.study.Term.{Term}
use Rattle.margin_rows.specs.Case.{Case, FitsCase, rows_in, terms_in, row_at, term_at}
use Rattle.margin_rows.specs.FirstBox.{IsFirstStep}
use Rattle.margin_rows.proofs.Laws.{first_step_senses, sensed_time_is_ordinary}
use Rattle.margin_rows.specs.Tables.{HoldsRun, AreTablesOf}
use Rattle.margin_rows.specs.declared.ends.Ends.{Ends}
use Rattle.margin_rows.specs.Times.{time_at, ends_of, IsOrdinary}
use Rattle.margin_rows.specs.declared.runs.RowRuns.{RowRuns}
use Rattle.margin_rows.specs.declared.tables.Tables.{Tables}
use Rattle.margin_rows.proofs.Listed.{at_number, backup_used, primary_used, term_used}
use Rattle.margin_rows.proofs.Places.{some_and}
use Rattle.margin_rows.proofs.Ran.{HoldsBoth}

-- a step of the first box has its time in a run
pub run_time : (case : Case) (times : List Ends) (f i start step : ℕ) → IsUsed case.study case.currents f i → IsFirstStep case i step → HoldsRun case times f i start
    → slice_get times (start + step) ≡ Some (ends_of (time_at case f i step))
run_time case times f i start step used first run =
    run.each step (first_step_senses case f i step used first)

-- and the time is ordinary
pub first_ordinary : (case : Case) (f i step : ℕ) → FitsCase case → IsUsed case.study case.currents f i → IsFirstStep case i step → IsOrdinary (time_at case f i step)
first_ordinary case f i step fits used first = sensed_time_is_ordinary case f i step fits (first_step_senses case f i step used first)

-- the two runs of the row with a number
pub row_runs_hold : (case : Case) (tables : Tables) (row : ℕ) (at : RowRuns) → AreTablesOf case tables → row < length (rows_in case) → at ≡ get_or tables.row_runs.items row at
    → HoldsBoth case tables.times.items (row_at case row) at
row_runs_hold case tables row at holds below read =
    let of_row = some_and (slice_get (rows_in case) row) (λ r. IsSomeAnd (slice_get tables.row_runs.items row) (λ runs. HoldsBoth case tables.times.items r runs)) (holds.row_runs.each row (omega (arith, below, holds.row_runs.count))) in
    let of_runs = some_and (slice_get tables.row_runs.items row) (λ runs. HoldsBoth case tables.times.items of_row.0 runs) of_row.2 in
    let P : RowRuns → Type 0 = λ runs. HoldsBoth case tables.times.items of_row.0 runs in
    let Q : Row → Type 0 = λ r. HoldsBoth case tables.times.items r at in
    subst Q (sym (get_or_from_slice_get (rows_in case) row of_row.0 _ of_row.1))
    (subst P (sym (get_or_from_slice_get tables.row_runs.items row of_runs.0 at of_runs.1) ∙ sym read) of_runs.2)

-- a time that stands in a run
pub record IsTimeThere (case : Case) (times : List Ends) (f i start step : ℕ) : Type 0 where
  pub there : slice_get times (start + step) ≡ Some (ends_of (time_at case f i step))
  pub within : start + step < length times
  pub ordinary : IsOrdinary (time_at case f i step)

pub time_there : (case : Case) (times : List Ends) (f i start step : ℕ) → FitsCase case → IsUsed case.study case.currents f i → IsFirstStep case i step → HoldsRun case times f i start
    → IsTimeThere case times f i start step
time_there case times f i start step fits used first run =
    let there = run_time case times f i start step used first run in
    record { there = there; within = slice_get_within times (start + step) _ there; ordinary = first_ordinary case f i step fits used first }

-- the time of the backup and of the primary of the row with a number
pub backup_there : (case : Case) (tables : Tables) (row step : ℕ) (at : RowRuns) → FitsCase case → AreTablesOf case tables → row < length (rows_in case) → at ≡ get_or tables.row_runs.items row at
    → IsFirstStep case (row_at case row).backup step → IsTimeThere case tables.times.items (row_at case row).fault (row_at case row).backup at.backup step
backup_there case tables row step at fits holds below read first =
    time_there case tables.times.items _ _ at.backup step fits (backup_used case (row_at case row) (at_number case row below)) first (row_runs_hold case tables row at holds below read).0

pub primary_there : (case : Case) (tables : Tables) (row step : ℕ) (at : RowRuns) → FitsCase case → AreTablesOf case tables → row < length (rows_in case) → at ≡ get_or tables.row_runs.items row at
    → IsFirstStep case (row_at case row).primary step → IsTimeThere case tables.times.items (row_at case row).fault (row_at case row).primary at.primary step
primary_there case tables row step at fits holds below read first =
    time_there case tables.times.items _ _ at.primary step fits (primary_used case (row_at case row) (at_number case row below)) first (row_runs_hold case tables row at holds below read).1

-- the ends that are read are those of the time
pub ends_read : (e : Enclosure) (read : Ends) (o : Option Ends) → o ≡ Some (ends_of e) → o ≡ Some read → (read.lower ≡ e.lower) × (read.upper ≡ e.upper)
ends_read e read o there found =
    let same : read ≡ ends_of e = some_same read (ends_of e) (sym found ∙ there) in
    (ap (λ (p : Ends). p.lower) same, ap (λ (p : Ends). p.upper) same)
  where
    some_same : (p q : Ends) → Some p ≡ Some q → p ≡ q
    some_same p q e = cc

-- the time of the relay of the term with a number
pub term_there : (case : Case) (tables : Tables) (term step start : ℕ) → FitsCase case → AreTablesOf case tables → term < length (terms_in case) → start ≡ get_or tables.term_runs.items term 0
    → IsFirstStep case (term_at case term).relay step → IsTimeThere case tables.times.items (term_at case term).fault (term_at case term).relay start step
term_there case tables term step start fits holds below read first =
    let of_term = some_and (slice_get (terms_in case) term) (λ t. HoldsRun case tables.times.items t.fault t.relay (slice_index tables.term_runs.items term)) (holds.term_runs.each term (omega (arith, below, holds.term_runs.count))) in
    let P : ℕ → Type 0 = λ k. HoldsRun case tables.times.items of_term.0.fault of_term.0.relay k in
    let Q : Term → Type 0 = λ t. HoldsRun case tables.times.items t.fault t.relay start in
    time_there case tables.times.items _ _ start step fits (term_used case (term_at case term) (Contains-get_or (terms_in case) term _ below)) first
    (subst Q (sym (get_or_from_slice_get (terms_in case) term of_term.0 _ of_term.1)) (subst P (sym read) of_term.2))
