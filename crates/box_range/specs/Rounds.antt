-- What a round of looks at the rows makes of a box: a row is looked at again where a relay of it is flagged (ours).
use Rattle.std.specs.Prelude.{◌≡◌, ℕ, ◌<◌, ◌⊎◌, Bool, true, false, List, length, Contains, slice_index_or}
use Rattle.coord_model.specs.declared.study.Row.{Row}
use Rattle.margin_rows.specs.Box.{Box, HasEmptySpan, IsFilled}
use Rattle.margin_rows.specs.Case.{Case, rows_in}
use Rattle.box_range.specs.Settled.{IsSettled, size}
use Rattle.box_range.specs.declared.look.Moved.{Moved}
use Rattle.box_range.specs.declared.round.Progress.{Progress}
use Rattle.box_range.specs.declared.round.Progress.TheVariants.{Emptied, Kept, Advanced}

-- a relay of the row is flagged
abbrev pub IsDue : List Bool → Row → Type 0
IsDue flags row =
    (slice_index_or flags row.backup false ≡ true) ⊎ (slice_index_or flags row.primary false ≡ true)

-- the row is due, or settled in the box
abbrev pub IsDueOrSettled : Case → Box → List Bool → Row → Type 0
IsDueOrSettled case box flags row = IsDue flags row ⊎ IsSettled case box row

-- there are flags for the two relays of the row
pub record HasPlaces (flags : List Bool) (row : Row) : Type 0 where
  pub backup : row.backup < length flags
  pub primary : row.primary < length flags

-- of the row's relays those that lost steps are flagged too, and no flag is lost
pub record AreFlagged (row : Row) (moved : Moved) (flags later : List Bool) : Type 0 where
  pub count : length later ≡ length flags
  pub kept : (relay : ℕ) → slice_index_or flags relay false ≡ true
      → slice_index_or later relay false ≡ true
  pub backup : moved.backup ≡ true → slice_index_or later row.backup false ≡ true
  pub primary : moved.primary ≡ true → slice_index_or later row.primary false ≡ true
  pub unchanged : moved.backup ≡ false → moved.primary ≡ false → later ≡ flags

-- nothing changed, and the row is settled
pub record IsIdle (case : Case) (row : Row) (box later : Box)
    (flags later_flags : List Bool) : Type 0 where
  pub same_box : later ≡ box
  pub same_flags : later_flags ≡ flags
  pub settled : IsSettled case later row

-- some span lost steps; the row is settled, and each other that was settled is so still or is due
pub record IsBusy (case : Case) (row : Row) (box later : Box)
    (flags later_flags : List Bool) : Type 0 where
  pub filled : IsFilled case later
  pub fewer : size later < size box
  pub count : length later_flags ≡ length flags
  pub settled : IsSettled case later row
  pub others : (other : Row) → Contains (rows_in case) other → IsDueOrSettled case box flags other
      → IsDueOrSettled case later later_flags other

-- what a visit of the row made
abbrev pub IsVisit : Case → Row → Box → Box → List Bool → List Bool → Progress → Type 0
IsVisit case row box later flags later_flags Emptied = HasEmptySpan later
IsVisit case row box later flags later_flags Kept = IsIdle case row box later flags later_flags
IsVisit case row box later flags later_flags Advanced = IsBusy case row box later flags later_flags

-- each row is settled in the box
abbrev pub AreSettled : Case → Box → Type 0
AreSettled case box = (row : Row) → Contains (rows_in case) row → IsSettled case box row

-- some span lost steps, and each row is settled or due
pub record IsUnfinished (case : Case) (box later : Box) (flags : List Bool) : Type 0 where
  pub filled : IsFilled case later
  pub fewer : size later < size box
  pub rest : (row : Row) → Contains (rows_in case) row → IsDueOrSettled case later flags row

-- what a round made
abbrev pub IsRound : Case → Box → Box → List Bool → Progress → Type 0
IsRound case box later flags Emptied = HasEmptySpan later
IsRound case box later flags Kept = (later ≡ box) × AreSettled case later
IsRound case box later flags Advanced = IsUnfinished case box later flags
