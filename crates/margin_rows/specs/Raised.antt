-- Raising dials, row by row, to the least that meet them.
use Rattle.std.specs.Prelude.{◌≡◌, ℕ, ◌+◌, ◌*◌, ◌^◌, ◌<◌, ◌≤◌, List, length, slice_index, set, sum_by, All}
use Rattle.coord_model.specs.Choice.{Settings}
use Rattle.coord_model.specs.Dial.{dial_at_step}
use Rattle.coord_model.specs.declared.study.Row.{Row}
use Rattle.margin_rows.specs.Box.{IsDialStep}
use Rattle.margin_rows.specs.Case.{Case, rows_in}
use Rattle.margin_rows.specs.Least.{MeetAll, slow_end, fast_end}
use Rattle.margin_rows.specs.Demands.{slow_part, fast_part, asked_ps, granted_ps}
use Rattle.margin_rows.specs.Margin.{MeetsAs}
use Rattle.margin_rows.specs.Times.{time_at}
use Rattle.margin_rows.specs.declared.ends.Meeting.{Meeting}
use Rattle.margin_rows.specs.declared.least.Rise.{Rise}
use Rattle.margin_rows.specs.declared.least.Rise.TheVariants.{Kept, Rose, Beyond}
use Rattle.margin_rows.specs.declared.least.Wait.{Wait}

-- the wait is that of the row with these pickups
pub record IsWaitOf (meeting : Meeting) (case : Case) (pickups : List ℕ) (row : Row) (wait : Wait) : Type 0 where
  pub backup : wait.backup ≡ row.backup
  pub primary : wait.primary ≡ row.primary
  pub slow_time : wait.slow_time ≡ slow_part row.kind (slow_end meeting (time_at case row.fault row.backup (slice_index pickups row.backup)))
  pub fast_time : wait.fast_time ≡ fast_part row.kind (fast_end meeting (time_at case row.fault row.primary (slice_index pickups row.primary)))
  pub asked : wait.asked ≡ asked_ps case.study row
  pub granted : wait.granted ≡ granted_ps case.study row

-- its relays are of the study, its times below 2^40, and what is asked and granted within the limits
pub record FitsWait (case : Case) (wait : Wait) : Type 0 where
  pub backup : wait.backup < length case.study.relays
  pub primary : wait.primary < length case.study.relays
  pub slow_small : wait.slow_time < 2 ^ 40
  pub fast_small : wait.fast_time < 2 ^ 40
  pub asked_small : wait.asked ≤ 10 ^ 14
  pub granted_small : wait.granted ≤ 2 * 10 ^ 16

-- the time of the fast relay at a dial step, and what is asked, in picoseconds
abbrev pub due_at : Case → Wait → ℕ → ℕ
due_at case wait step = dial_at_step case.study wait.primary step * wait.fast_time + wait.asked

-- the same at the step that it has
abbrev pub due : Case → List ℕ → Wait → ℕ
due case dials wait = due_at case wait (slice_index dials wait.primary)

-- the row is met at this dial step of the slow relay
abbrev pub Suffices : Case → List ℕ → Wait → ℕ → Type 0
Suffices case dials wait step = due case dials wait ≤ dial_at_step case.study wait.backup step * wait.slow_time + wait.granted

-- there is one dial step for each relay, below its count
pub record AreDialSteps (case : Case) (dials : List ℕ) : Type 0 where
  pub count : length dials ≡ length case.study.relays
  pub each : (i : ℕ) → i < length case.study.relays → IsDialStep case i (slice_index dials i)

-- the dials are those before, but that of the backup rose to the least step that suffices
pub record IsRaised (case : Case) (wait : Wait) (old new : List ℕ) : Type 0 where
  pub step : ℕ
  pub on_step : IsDialStep case wait.backup step
  pub above : slice_index old wait.backup < step
  pub least : (other : ℕ) → IsDialStep case wait.backup other → Suffices case old wait other → step ≤ other
  pub written : new ≡ set old wait.backup step

-- what raising the backup's dial did: nothing, since it suffices; it rose; or no step suffices
abbrev pub IsRise : Case → Wait → List ℕ → List ℕ → Rise → Type 0
IsRise case wait old new Kept = (new ≡ old) × Suffices case old wait (slice_index old wait.backup)
IsRise case wait old new Rose = IsRaised case wait old new
IsRise case wait old new Beyond = (step : ℕ) → IsDialStep case wait.backup step → ¬ (Suffices case old wait step)

-- the dials lie on the steps, and no settings that meet every row have a lower one
pub record AreLow (meeting : Meeting) (case : Case) (pickups dials : List ℕ) : Type 0 where
  pub on_steps : AreDialSteps case dials
  pub lowest : (other : Settings) → MeetAll meeting case pickups other → (i : ℕ) → slice_index dials i ≤ slice_index other.dial i

-- the sum of the dial steps, which rises until every row is met
abbrev pub step_sum : List ℕ → ℕ
step_sum dials = sum_by (λ step. step) dials

-- what a round over the rows did: the dials meet all of them; a dial rose; or no settings meet every row
abbrev pub IsRound : Meeting → Case → List ℕ → List ℕ → List ℕ → Rise → Type 0
IsRound meeting case pickups old new Kept = AreLow meeting case pickups new × All (MeetsAs meeting case (record { pickup = pickups; dial = new })) (rows_in case)
IsRound meeting case pickups old new Rose = AreLow meeting case pickups new × (step_sum old < step_sum new)
IsRound meeting case pickups old new Beyond = (other : Settings) → ¬ (MeetAll meeting case pickups other)
