-- What each ending asserts of an outcome (ours).
use Rattle.std.specs.Prelude.{◌≡◌, ℕ, pos, ◌+◌, ◌+ℤ◌, ◌<◌, ◌≤◌, ◌≤ℤ◌, true, false, None, Some, is_some, length, All, IfSome}
use Rattle.branch_bound.specs.HairLeaf.{IsFirstHair}
use Rattle.branch_bound.specs.declared.outcome.HairPlace.{HairPlace}
use Rattle.branch_bound.specs.declared.outcome.Outcome.{Outcome}
use Rattle.cert_tree.specs.Endings.{boxes, has_no_settings, has_open_leaf}
use Rattle.coord_model.specs.Allowed.{IsAllowed}
use Rattle.coord_model.specs.Choice.{Settings, choice_data}
use Rattle.coord_model.specs.Tree.{shape}
use Rattle.margin_rows.specs.Box.{Box, IsFirstBox}
use Rattle.margin_rows.specs.Case.{Case, row_at, rows_in}
use Rattle.margin_rows.specs.Margin.{MeetsLoosely, MeetsStrictly, loose_margin, row_width, strict_margin}

-- closed: settings are issued, and cost at most the gap more than the bound
pub record IsClosed (gap : ℕ) (outcome : Outcome) : Type 0 where
  pub issued : is_some outcome.issued ≡ true
  pub cost : ℕ
  pub bound : ℕ
  pub is_cost : outcome.cost ≡ Some cost
  pub is_bound : outcome.bound ≡ Some bound
  pub close : cost ≤ bound + gap

-- no settings: none are allowed, none are issued, and each leaf of the tree is empty or void
pub record HasNoSettings (case : Case) (outcome : Outcome) : Type 0 where
  pub none_allowed : (other : Settings) → ¬ (IsAllowed case.study case.currents other)
  pub none_issued : outcome.issued ≡ None
  pub leaves : has_no_settings (shape outcome.tree) ≡ true

-- budget spent: all boxes of the budget were worked on, a box is open, and there is a bound
pub record IsSpent (budget : ℕ) (outcome : Outcome) : Type 0 where
  pub boxes_told : outcome.boxes ≡ budget
  pub boxes_worked : boxes (shape outcome.tree) ≡ budget
  pub box_open : has_open_leaf (shape outcome.tree) ≡ true
  pub bound_there : is_some outcome.bound ≡ true

-- The row and the settings of the first hair leaf: the settings loosely meet every row, and this row
-- not strictly. Its two margins lie at most the row's width apart.
pub record IsHair (case : Case) (outcome : Outcome) (place : HairPlace) : Type 0 where
  pub box : Box
  pub is_first_box : IsFirstBox case box
  pub first : IsFirstHair case box (shape outcome.tree) place.row (choice_data place.choice)
  pub met : All (MeetsLoosely case (choice_data place.choice)) (rows_in case)
  pub is_row : place.row < length (rows_in case)
  pub unmet : ¬ (MeetsStrictly case (choice_data place.choice) (row_at case place.row))
  pub near : loose_margin case (choice_data place.choice) (row_at case place.row)
      ≤ℤ (strict_margin case (choice_data place.choice) (row_at case place.row)
      +ℤ pos (row_width case (choice_data place.choice) (row_at case place.row)))

-- hairline: no box is open, and bound and gap are below the cost, if settings are issued; the first
-- hair leaf is shown
pub record IsHairline (case : Case) (gap : ℕ) (outcome : Outcome) : Type 0 where
  pub none_open : has_open_leaf (shape outcome.tree) ≡ false
  pub bound : ℕ
  pub is_bound : outcome.bound ≡ Some bound
  pub apart : IfSome outcome.cost (λ cost. bound + gap < cost)
  pub place : HairPlace
  pub is_place : outcome.hair ≡ Some place
  pub hair : IsHair case outcome place
