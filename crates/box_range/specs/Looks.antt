-- What a look at a row makes of a box (ours).
use Rattle.std.specs.Prelude.{◌≡◌, ℕ, ◌<◌, ◌⊎◌, true, false}
use Rattle.coord_model.specs.declared.study.Row.{Row}
use Rattle.margin_rows.specs.Box.{Box, HasEmptySpan, IsFilled}
use Rattle.margin_rows.specs.Case.{Case}
use Rattle.box_range.specs.Kinds.{span_at}
use Rattle.box_range.specs.Settled.{IsSettled, IsCut, size}
use Rattle.box_range.specs.declared.kind.Kind.{Kind}
use Rattle.box_range.specs.declared.look.Look.{Look}
use Rattle.box_range.specs.declared.look.Look.TheVariants.{Emptied, Settled}
use Rattle.box_range.specs.declared.look.Moved.{Moved}

-- the relay is none of the row's that lost steps
pub record IsUnmoved (row : Row) (moved : Moved) (relay : ℕ) : Type 0 where
  pub backup : relay ≡ row.backup → moved.backup ≡ false
  pub primary : relay ≡ row.primary → moved.primary ≡ false

-- the box is cut at the row, and the row is settled
pub record IsSettling (case : Case) (row : Row) (box later : Box) (moved : Moved) : Type 0 where
  pub cut : IsCut case row box later
  pub filled : IsFilled case later
  pub settled : IsSettled case later row
  pub elsewhere : (relay : ℕ) → IsUnmoved row moved relay → (kind : Kind)
      → span_at kind later relay ≡ span_at kind box relay
  pub unchanged : moved.backup ≡ false → moved.primary ≡ false → later ≡ box
  pub fewer : (moved.backup ≡ true) ⊎ (moved.primary ≡ true) → size later < size box

-- what a look at the row made of the box
abbrev pub IsLook : Case → Row → Box → Box → Look → Type 0
IsLook case row box later Emptied = HasEmptySpan later
IsLook case row box later (Settled moved) = IsSettling case row box later moved
