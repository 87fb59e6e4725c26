-- The rules of a step: what becomes of an open box, in their order (ours).
use Rattle.std.specs.Prelude.{ℕ, [], Option}
use Rattle.coord_model.specs.Choice.{Settings}
use Rattle.coord_model.specs.Tree.{Tree, split, empty, void, bound, hair}
use Rattle.margin_rows.specs.Box.{Box}
use Rattle.margin_rows.specs.Case.{Case}
use Rattle.margin_rows.specs.Lowest.{HasOnePickup, lowest_of}
use Rattle.margin_rows.specs.Unmet.{IsFirstUnmet}
use Rattle.box_range.specs.Drops.{IsEmptied, TightensTo}
use Rattle.step_rules.specs.Offers.{PlainReaches}
use Rattle.step_rules.specs.Premises.{Advised, ClosesBy, IsAsked, IsSingle, IsUndecided, IsVoidBy}
use Rattle.step_rules.specs.Splits.{IsSplit}
use Rattle.step_rules.specs.Usable.{LeafWeights, open_with}

-- an open box with its weights becomes this tree, and other settings may be issued
pub data Handled (case : Case) (gap : ℕ) (box : Box) (own : LeafWeights)
    (issued : Option Settings) : Option Settings → Tree → Type 0 where
  -- drops empty it
  emptied : IsEmptied case box → Handled case gap box own issued issued empty
  -- one pickup step for each relay: its plain bound reaches the cutoff, or it does not
  single_closed : {tight : Box} {later : Option Settings}
      → TightensTo case box tight → IsSingle case tight issued later
      → PlainReaches case gap tight later
      → Handled case gap box own issued later (bound 1 [])
  single_open : {tight : Box} {later : Option Settings} {row : ℕ}
      → TightensTo case box tight → IsSingle case tight issued later
      → ¬ (PlainReaches case gap tight later) → IsFirstUnmet case (lowest_of tight) row
      → Handled case gap box own issued later (hair row)
  -- several: the plain bound reaches the cutoff, before the adviser is asked or after that
  closed : {tight : Box}
      → TightensTo case box tight → ¬ (HasOnePickup tight)
      → PlainReaches case gap tight issued
      → Handled case gap box own issued issued (bound 1 [])
  closed_later : {tight : Box} {advised : Advised} {later : Option Settings}
      → TightensTo case box tight → IsAsked case gap tight advised issued later
      → PlainReaches case gap tight later
      → Handled case gap box own issued later (bound 1 [])
  -- the advised weights show that there are no settings, or their bound reaches the cutoff
  voided : {tight : Box} {advised : Advised} {later : Option Settings}
      → TightensTo case box tight → IsUndecided case gap tight advised issued later
      → IsVoidBy case tight advised.weights.rows
      → Handled case gap box own issued later (void advised.weights.rows)
  weighed : {tight : Box} {advised : Advised} {later : Option Settings}
      → TightensTo case box tight → IsUndecided case gap tight advised issued later
      → ¬ (IsVoidBy case tight advised.weights.rows)
      → ClosesBy case gap tight advised.weights later
      → Handled case gap box own issued later (bound advised.weights.lambda advised.weights.rows)
  -- none of that: it is split
  divided : {tight : Box} {advised : Advised} {later : Option Settings}
      {relay at : ℕ} {low high : LeafWeights}
      → TightensTo case box tight → IsUndecided case gap tight advised issued later
      → ¬ (IsVoidBy case tight advised.weights.rows)
      → ¬ (ClosesBy case gap tight advised.weights later)
      → IsSplit case tight own advised relay at low high
      → Handled case gap box own issued later (split relay at (open_with low) (open_with high))
