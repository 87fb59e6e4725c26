-- What is known when a search is done (ours).
use Rattle.std.specs.Prelude.{◌≡◌, ℕ, ◌≤◌, Option, IfSome}
use Rattle.coord_model.specs.Tree.{Tree}
use Rattle.margin_rows.specs.Box.{Box, IsFirstBox}
use Rattle.margin_rows.specs.Case.{Case, FitsCase}
use Rattle.cert_tree.specs.Endings.{boxes as boxes_of}
use Rattle.step_rules.specs.Issuing.{IsPriced, settings_of}
use Rattle.step_rules.specs.declared.issued.Issued.{Issued}
use Rattle.branch_bound.specs.Facts.{IsSound}
use Rattle.branch_bound.specs.Machine.{IsDone, State}

-- the state of a done search
abbrev pub end_state : Tree → Option Issued → State
end_state tree issued = record { tree = tree; issued = settings_of issued }

-- the search is done, with this tree and these settings
pub record IsConcluded (case : Case) (gap budget boxes : ℕ) (issued : Option Issued)
    (tree : Tree) : Type 0 where
  pub limits : FitsCase case
  pub some_budget : 1 ≤ budget
  pub budget_small : budget ≤ 200000
  pub first : Box
  pub is_first : IsFirstBox case first
  pub sound : IsSound case first gap budget (end_state tree issued)
  pub done : IsDone budget (end_state tree issued)
  pub counted : boxes ≡ boxes_of tree
  pub priced : IfSome issued (IsPriced case)
