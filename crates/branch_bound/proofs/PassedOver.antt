-- What a search without open leaves passed over.
use Rattle.std.specs.Prelude.{ℤ, pos, ◌≤ℤ◌}
use Rattle.std.specs.List.{All}
use Rattle.std.specs.Option.{IfSome, IsSomeAnd}
use Rattle.std.proofs.Common.{◌≡◌, ℕ, ◌+◌, ◌*◌, ◌≤◌, ◌∙◌, inl, inr, List, Option, Some, None, arith, false, sym, subst}
use Rattle.std.proofs.lemmas.Bool.{or_parts, true≢false}
use Rattle.std.proofs.lemmas.Int.{ints}
use Rattle.coord_model.specs.Choice.{Settings}
use Rattle.coord_model.specs.Tree.{Tree, bound, empty, hair, open_leaf, split, void}
use Rattle.coord_model.specs.TreeLimits.{FitLeaves}
use Rattle.coord_model.specs.declared.weights.Weight.{Weight}
use Rattle.margin_rows.specs.Box.{Box, FitsBox, LiesIn}
use Rattle.margin_rows.specs.Case.{Case, FitsCase, rows_in}
use Rattle.margin_rows.specs.FirstBox.{IsInFirstBox}
use Rattle.margin_rows.specs.Least.{IsStrictLeastOf}
use Rattle.margin_rows.specs.Lowest.{HasOnePickup}
use Rattle.margin_rows.specs.Margin.{MeetsStrictly}
use Rattle.margin_rows.specs.Price.{cost_of, least_sum}
use Rattle.margin_rows.proofs.Halved.{halves_are}
use Rattle.margin_rows.proofs.LowestSettings.{same_pickups}
use Rattle.box_range.specs.Drops.{MeetsAllLoosely, TightensTo}
use Rattle.box_range.proofs.Order.{drops_keep, none_left}
use Rattle.box_range.proofs.TightLaws.{strict_is_loose}
use Rattle.box_bound.specs.DualValue.{IsDualValue}
use Rattle.box_bound.specs.Weighing.{FitWeights}
use Rattle.box_bound.proofs.BelowCosts.{bound_below_cost}
use Rattle.box_bound.proofs.Duality.{rows_met, weak_duality}
use Rattle.box_bound.proofs.LowestBounds.{costs_rise}
use Rattle.cert_tree.specs.Endings.{has_open_leaf}
use Rattle.cert_tree.proofs.TightBoxes.{tight_fits, tight_only}
use Rattle.cert_tree.proofs.TreeLaws.{can_split, halves_fit}
use Rattle.step_rules.specs.Offers.{lowest_pickups}
use Rattle.branch_bound.specs.Facts.{Every, IsFair}

module _ (case : Case) (gap : ℕ) (issued : Option Settings) (settings : Settings) (limits : FitsCase case) (inside : IsInFirstBox case settings) (met : All (MeetsStrictly case settings) (rows_in case)) where
  loose : MeetsAllLoosely case settings
  loose = strict_is_loose case settings limits inside met

  in_tight : (box tight : Box) → TightensTo case box tight → LiesIn box settings → LiesIn tight settings
  in_tight box tight is lies = drops_keep case box tight settings is.led lies loose

  -- settings are issued that cost at most the gap more than these
  abbrev pub IsNear : Type 0
  IsNear = IsSomeAnd issued (λ held. cost_of case held ≤ cost_of case settings + gap)

  near : (b : ℕ) → b ≤ cost_of case settings → IsSomeAnd issued (λ held. cost_of case held ≤ b + gap) → IsNear
  near b below reaches = go issued reaches
    where
      go : (o : Option Settings) → IsSomeAnd o (λ held. cost_of case held ≤ b + gap) → IsSomeAnd o (λ held. cost_of case held ≤ cost_of case settings + gap)
      go None gone = absurd gone
      go (Some held) reach = omega (arith, reach, below)

  -- the pickups of the settings were offered
  covered : (pickups : List ℕ) (offer : Option Settings) → settings.pickup ≡ pickups → IsStrictLeastOf case pickups offer
      → IfSome offer (λ least. IsSomeAnd issued (λ held. cost_of case held ≤ cost_of case least)) → IsNear
  covered pickups None same least less = absurd (least settings (record { same_pickups = same; on_steps = inside.on_steps; met = met }))
  covered pickups (Some offer) same least less =
      let under = costs_rise case offer settings (least.meet.same_pickups ∙ sym same) (least.least settings (record { same_pickups = same; on_steps = inside.on_steps; met = met })) in
      go issued less under
    where
      go : (o : Option Settings) → IsSomeAnd o (λ held. cost_of case held ≤ cost_of case offer) → cost_of case offer ≤ cost_of case settings → IsSomeAnd o (λ held. cost_of case held ≤ cost_of case settings + gap)
      go None gone under = absurd gone
      go (Some held) less under = omega (arith, less, under)

  value_below : (box : Box) (lambda : ℕ) (ws : List Weight) (value : ℤ) → FitsBox case box → FitWeights case ws → IsDualValue case box lambda ws value → LiesIn box settings → value ≤ℤ pos (lambda * least_sum case settings)
  value_below box lambda ws value fits fit is lies = weak_duality case box lambda ws settings value fits fit is lies (rows_met case box lambda ws settings ws fit.rows loose)

  -- in a fair tree without open leaves
  pub none_passed : (box : Box) (tree : Tree) → FitsBox case box → FitLeaves tree → Every case (IsFair case gap issued) box tree → has_open_leaf tree ≡ false → LiesIn box settings → IsNear
  none_passed box (split relay at below above) fits leaves (low, high, node, halves, all_low, all_high) no_open lies =
      let fit = halves_fit case box relay at below above low high fits node.right halves in
      let can = can_split case box halves.tight relay at below above node.right halves.is_tight in
      let share = (halves_are halves.tight low high relay at can halves.halves).0 in
      let open_parts = or_parts (has_open_leaf below) (has_open_leaf above) no_open in
      elim (share.either settings (in_tight box halves.tight halves.is_tight lies)) as (λ _. IsNear) [
        | inl there ↦ none_passed low below fit.0 leaves.0 all_low open_parts.0 there
        | inr there ↦ none_passed high above fit.1 leaves.1 all_high open_parts.1 there
      ]
  none_passed box empty fits leaves node no_open lies = absurd (none_left case box node.right.asks.end settings node.right.asks.drops node.right.asks.empty lies loose)
  none_passed box (void weights) fits leaves node no_open lies =
      let tight = node.right.asks.0 in
      let shows = node.right.asks.2 in
      let below = value_below tight 0 weights shows.value (tight_fits case box tight fits node.right.asks.1) (record { rows = node.right.names.weighed; few = leaves.few }) shows.dual (in_tight box tight node.right.asks.1 lies) in
      absurd (omega (arith, ints, below, shows.above))
  none_passed box (bound lambda weights) fits leaves node no_open lies =
      let owed = node.owes in
      let below = value_below owed.tight lambda weights owed.gives.value (tight_fits case box owed.tight fits owed.is_tight) (record { rows = node.right.names.weighed; few = leaves.1.few }) owed.gives.dual (in_tight box owed.tight owed.is_tight lies) in
      near owed.bound (subst (λ (b : ℕ). b ≤ cost_of case settings) (sym owed.gives.exact) (bound_below_cost case settings lambda owed.gives.value limits inside leaves.0 below)) owed.reaches
  none_passed box (hair row) fits leaves node no_open lies =
      let owed = node.owes in
      let tight = node.right.asks.0 in
      let same = tight_only case box tight owed.tight node.right.asks.1 owed.is_tight in
      let one = subst HasOnePickup same node.right.asks.2.one_pickup in
      covered (lowest_pickups owed.tight) owed.offer (same_pickups owed.tight settings one (in_tight box owed.tight owed.is_tight lies)) owed.least owed.no_dearer
  none_passed box (open_leaf lambda weights) fits leaves node no_open lies = absurd (true≢false no_open)
