-- The nodes of a tree that holds are those that a certificate may have.
use Rattle.std.specs.Prelude.{◌<ℤ◌, ℤ, pos, slice_get}
use Rattle.std.specs.List.{All, AllByRecursion}
use Rattle.std.specs.Option.{IsSomeAnd}
use Rattle.std.proofs.Common.{◌≡◌, ◌∙◌, ℕ, suc, ◌+◌, ◌-◌, ◌^◌, ◌<◌, ◌≤◌, List, [], ◌∷◌, length, Option, arith, refl, subst, sym}
use Rattle.std.proofs.lemmas.Int.{ints}
use Rattle.std.proofs.lemmas.List.Elements.{All-head, All-tail}
use Rattle.box_bound.specs.DualValue.{IsDualValue, total}
use Rattle.box_bound.specs.RelayParts.{IsLeastPart, dials_of, part, pickups_of}
use Rattle.cert_text.proofs.PairWords.{all_append}
use Rattle.cert_text.specs.Nodes.{AreWeights, IsNode}
use Rattle.cert_text.specs.Pairs.{AreWithin}
use Rattle.cert_tree.proofs.TightBoxes.{tight_fits}
use Rattle.cert_tree.proofs.TreeLaws.{can_split, halves_fit, parts}
use Rattle.cert_tree.specs.Holding.{Holds}
use Rattle.coord_model.specs.PartLimits.{FitsRelay}
use Rattle.coord_model.specs.Tree.{Tree, bound, empty, hair, nodes_of, open_leaf, split, void}
use Rattle.coord_model.specs.TreeLimits.{AreLeafWeights, FitLeaves}
use Rattle.coord_model.specs.declared.weights.Weight.{Weight}
use Rattle.margin_rows.proofs.Places.{some_and}
use Rattle.margin_rows.proofs.Placed.{of_some}
use Rattle.margin_rows.proofs.Timed.{at_place}
use Rattle.margin_rows.specs.Box.{Box, FitsBox, IsIn}
use Rattle.margin_rows.specs.Case.{Case, FitsCase, rows_in}
use Rattle.margin_rows.specs.FirstBox.{IsFirstStep}
use Rattle.margin_rows.specs.Halves.{CanSplit, HasNext}

-- ---- without weights of rows and without lambda a dual value is 0

zeros : (zs : List ℤ) → ((i : ℕ) → i < length zs → IsSomeAnd (slice_get zs i) (λ z. z ≡ pos 0)) → total zs ≡ pos 0
zeros [] each = refl
zeros (z ∷ zs) each =
    let first : z ≡ pos 0 = each 0 (omega arith) in
    let others = zeros zs (λ i below. each (suc i) (omega (arith, below))) in
    omega (arith, ints, first, others)

no_part : (case : Case) (i step dial : ℕ) → part case 0 [] i step dial ≡ pos 0
no_part case i step dial = omega (arith, ints)

void_weighs : (case : Case) (box : Box) (weights : List Weight) (value : ℤ) → IsDualValue case box 0 weights value → pos 0 <ℤ value → 1 ≤ length weights
void_weighs case box (w ∷ ws) value is above = omega arith
void_weighs case box [] value is above =
    let each : (i : ℕ) → i < length is.leasts → IsSomeAnd (slice_get is.leasts i) (λ z. z ≡ pos 0) = λ i below.
    let least = some_and (slice_get is.leasts i) (IsLeastPart case 0 [] i (pickups_of box i) (dials_of box i)) (is.each i (omega (arith, below, is.count))) in
    subst (λ (o : Option ℤ). IsSomeAnd o (λ z. z ≡ pos 0)) (sym least.1) (least.2.one.4 ∙ no_part case i least.2.one.0 least.2.one.1) in
    let none = zeros is.leasts each in
    absurd (omega (arith, ints, above, is.adds_up, none))

-- ---- the nodes

module _ (case : Case) (limits : FitsCase case) where
  within : (weights : List Weight) → All (λ w. w.row < length (rows_in case)) weights → All (λ w. w.weight ≤ 2 ^ 32 - 1) weights → AreWithin 4095 (2 ^ 32 - 1) weights
  within [] named small = tt
  within (w ∷ ws) named small =
      let row = All-head (λ v. v.row < length (rows_in case)) w ws named in
      let weight = All-head (λ v. v.weight ≤ 2 ^ 32 - 1) w ws small in (
        (omega (arith, row, limits.few_rows), weight),
        within ws (All-tail (λ v. v.row < length (rows_in case)) w ws named) (All-tail (λ v. v.weight ≤ 2 ^ 32 - 1) w ws small),
      )

  weigh : (weights : List Weight) → AreLeafWeights weights → All (λ w. w.row < length (rows_in case)) weights → AreWeights weights
  weigh weights leaf named = record { leaf = leaf; each = within weights named leaf.small }

  step_few : (box : Box) (relay at : ℕ) → FitsBox case box → CanSplit box relay at → at ≤ 63
  step_few box relay at fits can =
      let span = some_and (slice_get box.pickup relay) (λ s. HasNext s at) can in
      let next : IsIn span.0 (at + 1) = record { from = omega (arith, span.2.from); before = span.2.next } in
      let first : IsFirstStep case relay (at + 1) = of_some (slice_get box.pickup relay) (λ s. IsIn s (at + 1) → IsFirstStep case relay (at + 1)) span.0 span.1 (fits.pickup relay (at + 1)) next in
      let there = some_and (slice_get case.study.relays relay) _ first in
      let few = (at_place (FitsRelay case.study) case.study.relays relay there.0 limits.study.relays there.1).plug_count.at_most in
      omega (arith, there.2.0, few)

  pub nodes_held : (box : Box) (tree : Tree) (b : Option ℕ) → FitsBox case box → FitLeaves tree → Holds case box tree b → AllByRecursion IsNode (nodes_of tree)
  nodes_held box (split relay at below above) b fits leaves holds =
      let p = parts case box (split relay at below above) b holds in
      let fit = halves_fit case box relay at below above p.low p.high fits p.right p.halves in
      let can = can_split case box p.halves.tight relay at below above p.right p.halves.is_tight in (
        (
          omega (arith, p.right.asks.2.relay_fits, limits.study.relay_count.at_most),
          step_few p.halves.tight relay at (tight_fits case box p.halves.tight fits p.halves.is_tight) can,
          refl,
        ),
        all_append IsNode (nodes_of below) (nodes_of above) (nodes_held p.low below p.low_bound fit.0 leaves.0 p.low_holds)
            (nodes_held p.high above p.high_bound fit.1 leaves.1 p.high_holds),
      )
  nodes_held box empty b fits leaves holds = (refl, tt)
  nodes_held box (void weights) b fits leaves holds =
      let p = parts case box (void weights) b holds in
      let is = p.right.asks.2 in
      ((void_weighs case p.right.asks.0 weights is.value is.dual is.above, weigh weights leaves p.right.names.weighed), tt)
  nodes_held box (bound lambda weights) b fits leaves holds =
      let p = parts case box (bound lambda weights) b holds in
      (((leaves.0, leaves.2), weigh weights leaves.1 p.right.names.weighed), tt)
  nodes_held box (hair row) b fits leaves holds =
      let p = parts case box (hair row) b holds in
      let below = p.right.names.hair row refl in
      ((omega (arith, below, limits.few_rows), refl), tt)
  nodes_held box (open_leaf lambda weights) b fits leaves holds =
      let p = parts case box (open_leaf lambda weights) b holds in
      (((leaves.0, leaves.2), weigh weights leaves.1 p.right.names.weighed), tt)
