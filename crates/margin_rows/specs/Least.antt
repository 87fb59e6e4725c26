-- The least dials that meet every row with given pickups, strictly or loosely (ours).
use Rattle.std.specs.Prelude.{◌≡◌, ℕ, ◌*◌, ◌≤◌, List, Option, Some, None, length, slice_get, slice_index, All, IfSome}
use Rattle.coord_model.specs.Allowed.{AreOnSteps}
use Rattle.coord_model.specs.Choice.{Settings}
use Rattle.coord_model.specs.Dial.{dial_at_step}
use Rattle.coord_model.specs.Enclosure.{Enclosure}
use Rattle.coord_model.specs.declared.study.Row.{Row}
use Rattle.margin_rows.specs.Box.{IsDialStep}
use Rattle.margin_rows.specs.Case.{Case, rows_in}
use Rattle.margin_rows.specs.FirstBox.{IsFirstStep}
use Rattle.margin_rows.specs.Margin.{Meets, MeetsAs}
use Rattle.margin_rows.specs.Times.{time_at}
use Rattle.margin_rows.specs.declared.ends.Meeting.{Meeting}
use Rattle.margin_rows.specs.declared.ends.Meeting.TheVariants.{Strict, Loose}

-- there is one pickup for each relay, and it is a step of the first box
pub record AreFirstPickups (case : Case) (pickups : List ℕ) : Type 0 where
  pub count : length pickups ≡ length case.study.relays
  pub each : (i : ℕ) → IfSome (slice_get pickups i) (IsFirstStep case i)

-- the settings have these pickups, lie on the steps and meet every row, strictly or loosely
pub record MeetAll (by : Meeting) (case : Case) (pickups : List ℕ) (settings : Settings) : Type 0 where
  pub same_pickups : settings.pickup ≡ pickups
  pub on_steps : AreOnSteps case.study settings
  pub met : All (MeetsAs by case settings) (rows_in case)

-- the settings are the least: they meet every row, and no others that do have a lower dial
pub record AreLeast (by : Meeting) (case : Case) (pickups : List ℕ) (settings : Settings) : Type 0 where
  pub meet : MeetAll by case pickups settings
  pub least : (other : Settings) → MeetAll by case pickups other
      → (i : ℕ) → slice_index settings.dial i ≤ slice_index other.dial i

-- what the least settings of the pickups are: there are none exactly if no settings meet every row
abbrev pub AreLeastOf : Meeting → Case → List ℕ → Option Settings → Type 0
AreLeastOf meeting case pickups None = (other : Settings) → ¬ (MeetAll meeting case pickups other)
AreLeastOf meeting case pickups (Some settings) = AreLeast meeting case pickups settings

-- the settings meet every row strictly; they are the strict-least; what those are, and the loosely least
abbrev pub IsStrict : Case → List ℕ → Settings → Type 0
IsStrict = MeetAll Strict

abbrev pub IsStrictLeast : Case → List ℕ → Settings → Type 0
IsStrictLeast = AreLeast Strict

abbrev pub IsStrictLeastOf : Case → List ℕ → Option Settings → Type 0
IsStrictLeastOf = AreLeastOf Strict

abbrev pub IsLooseLeastOf : Case → List ℕ → Option Settings → Type 0
IsLooseLeastOf = AreLeastOf Loose

-- the end of a slow relay's time that counts, and that of a fast relay's
abbrev pub slow_end : Meeting → Enclosure → ℕ
slow_end Strict time = time.lower
slow_end Loose time = time.upper

abbrev pub fast_end : Meeting → Enclosure → ℕ
fast_end Strict time = time.upper
fast_end Loose time = time.lower

-- the row is met with these pickups, its slow relay at a dial step and its fast relay at another
abbrev pub MeetsAt : Meeting → Case → List ℕ → Row → ℕ → ℕ → Type 0
MeetsAt meeting case pickups row slow fast =
    let slow_time = time_at case row.fault row.backup (slice_index pickups row.backup) in
    let fast_time = time_at case row.fault row.primary (slice_index pickups row.primary) in
    Meets case.study row (dial_at_step case.study row.backup slow * slow_end meeting slow_time)
    (dial_at_step case.study row.primary fast * fast_end meeting fast_time)

-- the step is the slow relay's least at which the row is loosely met, the fast relay at its step
pub record IsLeastStep (case : Case) (pickups : List ℕ) (row : Row) (fast step : ℕ) : Type 0 where
  pub on_step : IsDialStep case row.backup step
  pub met : MeetsAt Loose case pickups row step fast
  pub least : (other : ℕ) → IsDialStep case row.backup other
      → MeetsAt Loose case pickups row other fast → step ≤ other

-- what that least step is: there is none exactly if the row is met at no step
abbrev pub IsLeastStepOf : Case → List ℕ → Row → ℕ → Option ℕ → Type 0
IsLeastStepOf case pickups row fast None =
    (other : ℕ) → IsDialStep case row.backup other → ¬ (MeetsAt Loose case pickups row other fast)
IsLeastStepOf case pickups row fast (Some step) = IsLeastStep case pickups row fast step
