-- Whether a row can be met in a box, by the steps of its two relays (ours).
use Rattle.std.specs.Prelude.{◌≡◌, ℕ, ◌-◌, ◌*◌, ◌<◌, Some, length, slice_get}
use Rattle.coord_model.specs.Choice.{Settings}
use Rattle.coord_model.specs.Dial.{dial_at_step}
use Rattle.coord_model.specs.declared.study.Row.{Row}
use Rattle.coord_model.specs.declared.study.RowKind.{RowKind}
use Rattle.coord_model.specs.declared.study.RowKind.TheVariants.{Interval, Least, Most}
use Rattle.margin_rows.specs.Box.{Box, LiesIn, IsDialStep}
use Rattle.margin_rows.specs.Case.{Case, rows_in}
use Rattle.margin_rows.specs.FirstBox.{IsFirstStep}
use Rattle.margin_rows.specs.Margin.{Meets, MeetsLoosely}
use Rattle.margin_rows.specs.Times.{time_at}
use Rattle.box_range.specs.Kinds.{spans_of, span_at}
use Rattle.box_range.specs.declared.kind.Kind.{Kind}
use Rattle.box_range.specs.declared.kind.Kind.TheVariants.{Pickup, Dial}
use Rattle.box_range.specs.declared.row.Part.{Part}
use Rattle.box_range.specs.declared.row.Part.TheVariants.{Backup, Primary}
use Rattle.box_range.specs.declared.row.RowSteps.{RowSteps}

-- the row has this number
abbrev pub HasRow : Case → ℕ → Row → Type 0
HasRow case number row = slice_get (rows_in case) number ≡ Some row

-- some choice of the box loosely meets the row
pub record IsMeetable (case : Case) (box : Box) (row : Row) : Type 0 where
  pub settings : Settings
  pub lies : LiesIn box settings
  pub meets : MeetsLoosely case settings row

-- the box has spans for the two relays of the row
pub record HasRelays (box : Box) (row : Row) : Type 0 where
  pub backup : (kind : Kind) → row.backup < length (spans_of kind box)
  pub primary : (kind : Kind) → row.primary < length (spans_of kind box)

-- the relay that has this part in the row
abbrev pub relay_of : Part → Row → ℕ
relay_of Backup row = row.backup
relay_of Primary row = row.primary

-- the steps lie in the first box
pub record AreFirst (case : Case) (row : Row) (steps : RowSteps) : Type 0 where
  pub backup_pickup : IsFirstStep case row.backup steps.backup_pickup
  pub backup_dial : IsDialStep case row.backup steps.backup_dial
  pub primary_pickup : IsFirstStep case row.primary steps.primary_pickup
  pub primary_dial : IsDialStep case row.primary steps.primary_dial

-- the highest steps of the backup and the lowest of the primary
abbrev pub best_steps : Box → Row → RowSteps
best_steps box row = record {
  backup_pickup = (span_at Pickup box row.backup).past - 1;
  backup_dial = (span_at Dial box row.backup).past - 1;
  primary_pickup = (span_at Pickup box row.primary).low;
  primary_dial = (span_at Dial box row.primary).low;
}

-- the steps with another one for a setting of one of the relays
abbrev pub with_step : Part → Kind → RowSteps → ℕ → RowSteps
with_step Backup Pickup steps step = record steps { backup_pickup = step }
with_step Backup Dial steps step = record steps { backup_dial = step }
with_step Primary Pickup steps step = record steps { primary_pickup = step }
with_step Primary Dial steps step = record steps { primary_dial = step }

-- a row of this kind asks something of the relay that has this part: of its backup to be slow, of its primary to be fast
abbrev pub Asks : RowKind → Part → Type 0
Asks Interval part = Unit {0}
Asks Least Backup = Unit {0}
Asks Least Primary = ⊥
Asks Most Backup = ⊥
Asks Most Primary = Unit {0}

-- the row is loosely met with these steps of its relays
abbrev pub MeetsWith : Case → Row → RowSteps → Type 0
MeetsWith case row steps =
    Meets case.study row
    (dial_at_step case.study row.backup steps.backup_dial
    * (time_at case row.fault row.backup steps.backup_pickup).upper)
    (dial_at_step case.study row.primary steps.primary_dial
    * (time_at case row.fault row.primary steps.primary_pickup).lower)
