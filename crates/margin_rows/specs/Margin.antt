-- By how much settings keep a row, in picoseconds: loosely with the ends of the enclosures that favour the settings,
-- strictly with those that do not (ours).
use Rattle.std.specs.Prelude.{◌≡◌, ℕ, ℤ, pos, ◌+◌, ◌*◌, ◌≤◌, ◌-ℤ◌, slice_index}
use Rattle.coord_model.specs.Choice.{Settings}
use Rattle.coord_model.specs.Dial.{dial_of}
use Rattle.coord_model.specs.Enclosure.{Enclosure}
use Rattle.coord_model.specs.StudyData.{StudyData}
use Rattle.coord_model.specs.declared.study.Row.{Row}
use Rattle.margin_rows.specs.Case.{Case}
use Rattle.margin_rows.specs.Demands.{slow_part, fast_part, asked_ps, granted_ps}
use Rattle.margin_rows.specs.Times.{time_at, width_at}
use Rattle.margin_rows.specs.declared.ends.Ends.{Ends}
use Rattle.margin_rows.specs.declared.ends.Meeting.{Meeting}
use Rattle.margin_rows.specs.declared.ends.Meeting.TheVariants.{Strict, Loose}

-- the enclosure of a relay's time at a fault and dial 1, with its pickup of the settings
abbrev pub time_of : Case → Settings → ℕ → ℕ → Enclosure
time_of case settings fault relay = time_at case fault relay (slice_index settings.pickup relay)

-- the least time of a relay at a fault with the settings, in picoseconds
abbrev pub least_ps : Case → Settings → ℕ → ℕ → ℕ
least_ps case settings fault relay = dial_of case.study settings relay * (time_of case settings fault relay).lower

-- the greatest time of a relay at a fault with the settings, in picoseconds
abbrev pub greatest_ps : Case → Settings → ℕ → ℕ → ℕ
greatest_ps case settings fault relay = dial_of case.study settings relay * (time_of case settings fault relay).upper

-- the ends are those of a relay's time at a fault with its settings, in picoseconds
pub record AreSetEnds (case : Case) (settings : Settings) (fault relay : ℕ) (set : Ends) : Type 0 where
  pub lower : set.lower ≡ least_ps case settings fault relay
  pub upper : set.upper ≡ greatest_ps case settings fault relay

-- what a backup's and a primary's time leave over what the row asks for
abbrev pub margin_of : StudyData → Row → ℕ → ℕ → ℤ
margin_of study row backup primary =
    pos (slow_part row.kind backup + granted_ps study row) -ℤ pos (fast_part row.kind primary + asked_ps study row)

-- the loose margin of a row
unfoldable pub loose_margin : Case → Settings → Row → ℤ
loose_margin case settings row =
    margin_of case.study row (greatest_ps case settings row.fault row.backup) (least_ps case settings row.fault row.primary)

-- the strict margin of a row
unfoldable pub strict_margin : Case → Settings → Row → ℤ
strict_margin case settings row =
    margin_of case.study row (least_ps case settings row.fault row.backup) (greatest_ps case settings row.fault row.primary)

-- how far the loose margin may lie above the strict one: the widths of the two enclosures at their dials
abbrev pub row_width : Case → Settings → Row → ℕ
row_width case settings row =
    slow_part row.kind (dial_of case.study settings row.backup * width_at case row.backup)
    + fast_part row.kind (dial_of case.study settings row.primary * width_at case row.primary)

-- a backup's and a primary's time meet the row
abbrev pub Meets : StudyData → Row → ℕ → ℕ → Type 0
Meets study row backup primary =
    fast_part row.kind primary + asked_ps study row ≤ slow_part row.kind backup + granted_ps study row

-- the settings meet the row loosely: with the ends of the times that favour them
abbrev pub MeetsLoosely : Case → Settings → Row → Type 0
MeetsLoosely case settings row =
    Meets case.study row (greatest_ps case settings row.fault row.backup) (least_ps case settings row.fault row.primary)

-- the settings meet the row strictly: even with the ends of the times that do not
abbrev pub MeetsStrictly : Case → Settings → Row → Type 0
MeetsStrictly case settings row =
    Meets case.study row (least_ps case settings row.fault row.backup) (greatest_ps case settings row.fault row.primary)

-- the settings meet the row strictly, or loosely
abbrev pub MeetsAs : Meeting → Case → Settings → Row → Type 0
MeetsAs Strict = MeetsStrictly
MeetsAs Loose = MeetsLoosely
