-- The ways in which a node by itself is wrong at its box, and which of them is told (ours).
use Rattle.std.specs.Prelude.{◌≡◌, ℕ, ◌<◌, ◌≤◌, ◌⊎◌, ⊤, length}
use Rattle.coord_model.specs.Tree.{Single}
use Rattle.coord_model.specs.declared.tree.NodeLine.{NodeLine}
use Rattle.coord_model.specs.declared.tree.NodeLine.TheVariants.{Split, Empty, Void, Bound, Hair, OpenLeaf}
use Rattle.margin_rows.specs.Box.{Box, HasEmptySpan}
use Rattle.margin_rows.specs.Case.{Case, row_at}
use Rattle.margin_rows.specs.Halves.{CanSplit}
use Rattle.margin_rows.specs.Lowest.{HasOnePickup, lowest_of}
use Rattle.margin_rows.specs.Margin.{MeetsStrictly}
use Rattle.box_range.specs.Drops.{IsEmptied, TightensTo}
use Rattle.cert_tree.specs.NodeRules.{IsVoid, NamesRows}
use Rattle.cert_tree.specs.declared.kind.NodeKind.{NodeKind}
use Rattle.cert_tree.specs.declared.kind.NodeKind.TheVariants.{RowNumber, SplitRelay, NotEmpty, Emptied, NotVoid, ManyPickups, NotHair, SplitAt}

-- the node is neither an `Empty` nor an open leaf
abbrev pub IsClosing : NodeLine → Type 0
IsClosing (Split relay at) = ⊤
IsClosing Empty = ⊥
IsClosing Void = ⊤
IsClosing (Bound lambda) = ⊤
IsClosing (Hair row) = ⊤
IsClosing (OpenLeaf lambda) = ⊥

-- the node is wrong at its box in this way
abbrev pub IsWrong : Case → Box → Single → NodeKind → Type 0
IsWrong case box node RowNumber = ¬ (NamesRows case node)
IsWrong case box node SplitRelay =
    (relay at : ℕ) × (node.line ≡ Split relay at) × (length case.study.relays ≤ relay)
IsWrong case box node NotEmpty = (node.line ≡ Empty) × ¬ (IsEmptied case box)
IsWrong case box node Emptied =
    (IsClosing node.line × IsEmptied case box)
    ⊎ ((lambda : ℕ) × (node.line ≡ OpenLeaf lambda) × HasEmptySpan box)
IsWrong case box node NotVoid =
    (node.line ≡ Void) × ((tight : Box) → TightensTo case box tight → ¬ (IsVoid case tight node))
IsWrong case box node ManyPickups =
    (row : ℕ) × (node.line ≡ Hair row)
    × ((tight : Box) → TightensTo case box tight → ¬ (HasOnePickup tight))
IsWrong case box node NotHair =
    (row : ℕ) × (node.line ≡ Hair row)
    × ((tight : Box) → TightensTo case box tight
    → MeetsStrictly case (lowest_of tight) (row_at case row))
IsWrong case box node SplitAt =
    (relay at : ℕ) × (node.line ≡ Split relay at)
    × ((tight : Box) → TightensTo case box tight → ¬ (CanSplit tight relay at))

-- the place of a kind in the order in which they are told
abbrev pub rank : NodeKind → ℕ
rank RowNumber = 0
rank SplitRelay = 1
rank NotEmpty = 2
rank Emptied = 3
rank NotVoid = 4
rank ManyPickups = 5
rank NotHair = 6
rank SplitAt = 7

-- the node is wrong in this way, and in none that is told before it
pub record IsFirstWrong (case : Case) (box : Box) (node : Single) (kind : NodeKind) : Type 0 where
  pub wrong : IsWrong case box node kind
  pub before : (earlier : NodeKind) → rank earlier < rank kind → ¬ (IsWrong case box node earlier)
