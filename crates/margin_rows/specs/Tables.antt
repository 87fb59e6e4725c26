-- What an instance keeps beside its study: lists worked out once.
use Rattle.std.specs.Prelude.{◌≡◌, ℕ, ◌+◌, ◌*◌, ◌<◌, nat_le, Some, sum_by, List, ◌++◌, length, map, slice_get, slice_index, IsSomeAnd, if◌then◌else◌}
use Rattle.std.specs.List.{range_with_len}
use Rattle.margin_rows.specs.Case.{Case, rows_in, terms_in}
use Rattle.margin_rows.specs.FirstBox.{IsFirstStep, IsFirstSpanOf}
use Rattle.coord_model.specs.StudyData.{StudyData}
use Rattle.coord_model.specs.Time.{sensed_multiple}
use Rattle.coord_model.specs.declared.study.Relay.{Relay}
use Rattle.coord_model.specs.declared.study.Term.{Term}
use Rattle.margin_rows.specs.Demands.{demand_of}
use Rattle.margin_rows.specs.Price.{term_part}
use Rattle.margin_rows.specs.Reach.{IsTimed}
use Rattle.margin_rows.specs.Times.{time_at, ends_of, relay_time}
use Rattle.margin_rows.specs.declared.ends.Ends.{Ends}
use Rattle.margin_rows.specs.declared.runs.RowRuns.{RowRuns}
use Rattle.margin_rows.specs.declared.runs.Runs.{Runs}
use Rattle.margin_rows.specs.declared.tables.Tables.{Tables}

-- the times of the relay at the fault stand in the list from this place on, by pickup step
pub record HoldsRun (case : Case) (times : List Ends) (fault relay start : ℕ) : Type 0 where
  pub each : (step : ℕ) → IsTimed case fault relay step → slice_get times (start + step) ≡ Some (ends_of (time_at case fault relay step))

-- the later list begins with the earlier one
abbrev pub Extends : List Ends → List Ends → Type 0
Extends old new = (more : List Ends) × (new ≡ old ++ more)

-- what stands for the time of a step that does not sense the current
abbrev pub no_time : Ends
no_time = record { lower = 0; upper = 0 }

-- the ends of a relay's time at a pickup step, or zeros where the step does not sense the current
unfoldable pub cell : StudyData → Relay → ℕ → ℕ → Ends
cell study relay amps step =
    let m = sensed_multiple relay step amps in
    if nat_le (study.sense * m.den) (100 * m.num) then ends_of (relay_time study.cap relay step amps) else no_time

-- those of all pickup steps
abbrev pub cells : StudyData → Relay → ℕ → List Ends
cells study relay amps = map (cell study relay amps) (range_with_len 0 relay.plug_count)

-- each run that has begun holds the times of its fault and relay
pub record HoldsRuns (case : Case) (runs : Runs) : Type 0 where
  pub count : length runs.starts.items ≡ length case.study.faults * length case.study.relays
  pub each : (f r start : ℕ) → f < length case.study.faults → r < length case.study.relays
      → slice_get runs.starts.items (f * length case.study.relays + r) ≡ Some (Some start) → HoldsRun case runs.times.items f r start

-- the times of each term stand where its number says
pub record HoldTermRuns (case : Case) (times : List Ends) (starts : List ℕ) : Type 0 where
  pub count : length starts ≡ length (terms_in case)
  pub each : (k : ℕ) → k < length starts → IsSomeAnd (slice_get (terms_in case) k) (λ term. HoldsRun case times term.fault term.relay (slice_index starts k))

-- the times of the two relays of each row stand where its numbers say
pub record HoldRowRuns (case : Case) (times : List Ends) (starts : List RowRuns) : Type 0 where
  pub count : length starts ≡ length (rows_in case)
  pub each : (k : ℕ) → k < length starts → IsSomeAnd (slice_get (rows_in case) k) (λ row. IsSomeAnd (slice_get starts k) (λ runs. HoldsRun case times row.fault row.backup runs.backup × HoldsRun case times row.fault row.primary runs.primary))

-- the table has for each relay and pickup step of the first box the sum of its weighted times over these terms, with 64
-- places for each relay
pub record HoldsSums (case : Case) (terms : List Term) (table : List ℕ) : Type 0 where
  pub size : length table ≡ length case.study.relays * 64
  pub each : (i step : ℕ) → IsFirstStep case i step → slice_index table (i * 64 + step) ≡ sum_by (term_part case i step) terms

-- the tables are those of the case
pub record AreTablesOf (case : Case) (tables : Tables) : Type 0 where
  pub rows : tables.rows.items ≡ rows_in case
  pub demands : tables.demands.items ≡ map (demand_of case.study) (rows_in case)
  pub terms : tables.terms.items ≡ terms_in case
  pub span_count : length tables.spans.items ≡ length case.study.relays
  pub spans : (i : ℕ) → i < length case.study.relays → IsSomeAnd (slice_get tables.spans.items i) (IsFirstSpanOf case i)
  pub term_runs : HoldTermRuns case tables.times.items tables.term_runs.items
  pub row_runs : HoldRowRuns case tables.times.items tables.row_runs.items
  pub sums : HoldsSums case (terms_in case) tables.sums.items
