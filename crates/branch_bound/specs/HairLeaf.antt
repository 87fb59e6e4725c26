-- The first hair leaf of a tree, and what is known of its settings (ours).
use Rattle.std.specs.Prelude.{◌≡◌, ℕ, ◌<◌, ◌⊎◌, false, length}
use Rattle.coord_model.specs.Choice.{Settings, choice_data}
use Rattle.coord_model.specs.Tree.{Tree, bound, empty, hair, open_leaf, split, void}
use Rattle.margin_rows.specs.Box.{Box}
use Rattle.margin_rows.specs.Case.{Case, row_at, rows_in}
use Rattle.margin_rows.specs.FirstBox.{IsInFirstBox}
use Rattle.margin_rows.specs.Lowest.{lowest_of}
use Rattle.margin_rows.specs.Margin.{MeetsStrictly}
use Rattle.box_range.specs.Drops.{MeetsAllLoosely, TightensTo}
use Rattle.cert_tree.specs.Endings.{has_hair}
use Rattle.cert_tree.specs.Holding.{AreTightHalves}
use Rattle.branch_bound.specs.declared.outcome.HairPlace.{HairPlace}

-- the first hair leaf of the tree in pre-order has this row, and these are the lowest settings of
-- its tight box
abbrev pub IsFirstHair : Case → Box → Tree → ℕ → Settings → Type 0
IsFirstHair case box (split relay at below above) row settings =
    (low : Box) × (high : Box) × AreTightHalves case box relay at low high
    × (IsFirstHair case low below row settings
    ⊎ ((has_hair below ≡ false) × IsFirstHair case high above row settings))
IsFirstHair case box empty row settings = ⊥
IsFirstHair case box (void weights) row settings = ⊥
IsFirstHair case box (bound lambda weights) row settings = ⊥
IsFirstHair case box (hair leaf_row) row settings =
    (leaf_row ≡ row) × ((tight : Box) × TightensTo case box tight × (settings ≡ lowest_of tight))
IsFirstHair case box (open_leaf lambda weights) row settings = ⊥

-- the place is the first hair leaf of the tree: its settings lie in the first box, loosely meet
-- every row, and do not strictly meet this one
pub record IsHairPlace (case : Case) (first : Box) (tree : Tree) (place : HairPlace) : Type 0 where
  pub is_first : IsFirstHair case first tree place.row (choice_data place.choice)
  pub is_row : place.row < length (rows_in case)
  pub first_box : IsInFirstBox case (choice_data place.choice)
  pub loose : MeetsAllLoosely case (choice_data place.choice)
  pub unmet : ¬ (MeetsStrictly case (choice_data place.choice) (row_at case place.row))
