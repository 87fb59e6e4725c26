-- A tree that holds at a box proves its bound of the box.
use Rattle.std.specs.Prelude.{Option, None, Some, ℤ, pos, ◌≤ℤ◌}
use Rattle.std.proofs.Common.{ℕ, ◌*◌, ◌≤◌, ◌⊎◌, inl, inr, List, [], min, arith, subst, sym}
use Rattle.std.proofs.Math.Nat.{mul-le-mul_right}
use Rattle.std.proofs.lemmas.Int.{ints}
use Rattle.coord_model.specs.Choice.{Settings}
use Rattle.coord_model.specs.Cost.{CostsAtLeast}
use Rattle.coord_model.specs.Tree.{Tree, split, empty, void, bound, hair, open_leaf}
use Rattle.coord_model.specs.TreeLimits.{FitLeaves}
use Rattle.coord_model.specs.declared.weights.Weight.{Weight}
use Rattle.margin_rows.specs.Box.{Box, FitsBox, LiesIn}
use Rattle.margin_rows.specs.Case.{Case, FitsCase}
use Rattle.margin_rows.specs.Price.{least_sum}
use Rattle.margin_rows.proofs.Boxed.{allowed_meets}
use Rattle.margin_rows.proofs.Halved.{halves_are}
use Rattle.box_range.specs.Drops.{MeetsAllLoosely, TightensTo}
use Rattle.box_range.proofs.Order.{drops_keep, none_left}
use Rattle.box_bound.specs.DualValue.{IsDualValue}
use Rattle.box_bound.specs.Weighing.{FitWeights}
use Rattle.box_bound.proofs.Duality.{bound_costs, rows_met, weak_duality}
use Rattle.cert_tree.specs.Holding.{Holds, lower}
use Rattle.cert_tree.specs.Judgement.{IsDualBound}
use Rattle.cert_tree.specs.Proving.{IsProved}
use Rattle.cert_tree.proofs.TightBoxes.{tight_fits}
use Rattle.cert_tree.proofs.TreeLaws.{can_split, halves_fit, parts}

-- the dual value of a box is at most lambda times the cost of settings of it that loosely meet every row
dual_below : (case : Case) (box : Box) (settings : Settings) (lambda : ℕ) (ws : List Weight) (value : ℤ) → FitsBox case box → FitWeights case ws → IsDualValue case box lambda ws value
    → LiesIn box settings → MeetsAllLoosely case settings → value ≤ℤ pos (lambda * least_sum case settings)
dual_below case box settings lambda ws value fits fit is lies met =
    weak_duality case box lambda ws settings value fits fit is lies (rows_met case box lambda ws settings ws fit.rows met)

-- so they cost at least its bound
dual_proves : (case : Case) (box : Box) (settings : Settings) (lambda : ℕ) (ws : List Weight) (b : ℕ) → FitsCase case → FitsBox case box → FitWeights case ws → 1 ≤ lambda
    → IsDualBound case box lambda ws b → LiesIn box settings → MeetsAllLoosely case settings → CostsAtLeast case.study case.currents settings b
dual_proves case box settings lambda ws b limits fits fit some is lies met =
    subst (λ (c : ℕ). CostsAtLeast case.study case.currents settings c) (sym is.is)
    (bound_costs case box settings lambda is.value limits fits lies some (dual_below case box settings lambda ws is.value fits fit is.dual lies met))

-- settings cost at least what is below a cost that they have at least
costs_less : (case : Case) (settings : Settings) (a b : ℕ) → a ≤ b → CostsAtLeast case.study case.currents settings b → CostsAtLeast case.study case.currents settings a
costs_less case settings a b less costs q n some over =
    let whole = costs q n some over in
    let more : a * q ≤ b * q = mul-le-mul_right q less in
    omega (arith, whole, more)

-- of settings: with a bound they cost at least that, with none there are none
abbrev pub Shows : Case → Settings → Option ℕ → Type 0
Shows case settings (Some b) = CostsAtLeast case.study case.currents settings b
Shows case settings None = ⊥

lower_shows : (case : Case) (settings : Settings) (a b : Option ℕ) → Shows case settings a ⊎ Shows case settings b → Shows case settings (lower a b)
lower_shows case settings None b (inl gone) = absurd gone
lower_shows case settings None b (inr shown) = shown
lower_shows case settings (Some a) None (inl shown) = shown
lower_shows case settings (Some a) None (inr gone) = absurd gone
lower_shows case settings (Some a) (Some b) (inl shown) = costs_less case settings (min a b) a (omega arith) shown
lower_shows case settings (Some a) (Some b) (inr shown) = costs_less case settings (min a b) b (omega arith) shown

module _ (case : Case) (settings : Settings) (limits : FitsCase case) (met : MeetsAllLoosely case settings) where
  in_tight : (box tight : Box) → TightensTo case box tight → LiesIn box settings → LiesIn tight settings
  in_tight box tight is lies = drops_keep case box tight settings is.led lies met

  -- a tree that holds shows its bound of settings that loosely meet every row
  pub shows : (box : Box) (tree : Tree) (b : Option ℕ) → FitsBox case box → FitLeaves tree → LiesIn box settings → Holds case box tree b → Shows case settings b
  shows box (split relay at below above) b fits leaves lies holds =
      let p = parts case box (split relay at below above) b holds in
      let fit = halves_fit case box relay at below above p.low p.high fits p.right p.halves in
      let can = can_split case box p.halves.tight relay at below above p.right p.halves.is_tight in
      let share = (halves_are p.halves.tight p.low p.high relay at can p.halves.halves).0 in
      subst (λ (c : Option ℕ). Shows case settings c) (sym p.is)
      (elim (share.either settings (in_tight box p.halves.tight p.halves.is_tight lies)) as (λ _. Shows case settings (lower p.low_bound p.high_bound)) [
        | inl low ↦ lower_shows case settings p.low_bound p.high_bound (inl (shows p.low below p.low_bound fit.0 leaves.0 low p.low_holds))
        | inr high ↦ lower_shows case settings p.low_bound p.high_bound (inr (shows p.high above p.high_bound fit.1 leaves.1 high p.high_holds))
      ])
  shows box empty b fits leaves lies holds =
      let p = parts case box empty b holds in
      absurd (none_left case box p.right.asks.end settings p.right.asks.drops p.right.asks.empty lies met)
  shows box (void weights) b fits leaves lies holds =
      let p = parts case box (void weights) b holds in
      let tight = p.right.asks.0 in
      let void = p.right.asks.2 in
      let below = dual_below case tight settings 0 weights void.value (tight_fits case box tight fits p.right.asks.1) (record { rows = p.right.names.weighed; few = leaves.few }) void.dual
      (in_tight box tight p.right.asks.1 lies) met in
      absurd (omega (arith, ints, below, void.above))
  shows box (bound lambda weights) b fits leaves lies holds =
      let p = parts case box (bound lambda weights) b holds in
      let g = p.gives in
      subst (λ (c : Option ℕ). Shows case settings c) (sym g.4)
      (dual_proves case g.0 settings lambda weights g.1 limits (tight_fits case box g.0 fits g.2) (record { rows = p.right.names.weighed; few = leaves.1.few }) leaves.0 g.3 (in_tight box g.0 g.2 lies) met)
  shows box (hair row) b fits leaves lies holds =
      let p = parts case box (hair row) b holds in
      let g = p.gives in
      subst (λ (c : Option ℕ). Shows case settings c) (sym g.4)
      (dual_proves case g.0 settings 1 [] g.1 limits (tight_fits case box g.0 fits g.2) (record { rows = p.right.names.weighed; few = omega arith }) (omega arith)
      (record { value = g.3.0; dual = g.3.1; is = g.3.2 }) (in_tight box g.0 g.2 lies) met)
  shows box (open_leaf lambda weights) b fits leaves lies holds =
      let p = parts case box (open_leaf lambda weights) b holds in
      let g = p.gives in
      subst (λ (c : Option ℕ). Shows case settings c) (sym g.2)
      (dual_proves case box settings lambda weights g.0 limits fits (record { rows = p.right.names.weighed; few = leaves.1.few }) leaves.0 g.1 lies met)

-- a tree that holds proves its bound of the box
pub holds_proves : (case : Case) (box : Box) (tree : Tree) (b : Option ℕ) → FitsCase case → FitsBox case box → FitLeaves tree → Holds case box tree b → IsProved case box b
holds_proves case box tree None limits fits leaves holds = λ settings lies allowed. shows case settings limits (allowed_meets case settings limits allowed) box tree None fits leaves lies holds
holds_proves case box tree (Some b) limits fits leaves holds = λ settings lies allowed. shows case settings limits (allowed_meets case settings limits allowed) box tree (Some b) fits leaves lies holds
