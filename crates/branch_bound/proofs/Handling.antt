-- What becomes of an open leaf is fair.
use Rattle.std.specs.Prelude.{slice_get, ⊤}
use Rattle.std.specs.List.{All}
use Rattle.std.specs.Option.{IsSomeAnd}
use Rattle.std.proofs.Common.{◌≡◌, ℕ, zero, suc, ◌+◌, ◌-◌, ◌^◌, ◌<◌, ◌≤◌, ◌⊎◌, inl, inr, List, [], length, get_or, Option, Some, None, arith, sym, subst}
use Rattle.std.proofs.lemmas.Bool.{cases_lt}
use Rattle.std.proofs.lemmas.Option.{get_or_from_slice_get, slice_get_within}
use Rattle.coord_model.specs.Choice.{Settings}
use Rattle.coord_model.specs.Tree.{Tree, bound, hair, root, split, void}
use Rattle.coord_model.specs.TreeLimits.{AreLeafWeights, FitLeaves}
use Rattle.coord_model.specs.declared.tree.NodeLine.{NodeLine}
use Rattle.coord_model.specs.declared.tree.NodeLine.TheVariants as Line
use Rattle.coord_model.specs.declared.weights.Weight.{Weight}
use Rattle.margin_rows.specs.Box.{Box, FitsBox, HasNoEmptySpan}
use Rattle.margin_rows.specs.Case.{Case, rows_in}
use Rattle.margin_rows.specs.Halves.{CanSplit, HasNext}
use Rattle.margin_rows.specs.Lowest.{lowest_of}
use Rattle.margin_rows.specs.Unmet.{IsFirstUnmet}
use Rattle.margin_rows.specs.declared.span.Steps.{Steps}
use Rattle.margin_rows.proofs.Halved.{halves_are}
use Rattle.margin_rows.proofs.Places.{some_and}
use Rattle.box_range.specs.Drops.{TightensTo}
use Rattle.cert_tree.specs.NodeRules.{NamesRows}
use Rattle.cert_tree.proofs.TightBoxes.{tight_fits}
use Rattle.step_rules.specs.Offers.{PlainReaches, offered}
use Rattle.step_rules.specs.Premises.{Advised, ClosesBy, IsAsked, IsSingle, IsVoidBy}
use Rattle.step_rules.specs.Rules.{Handled, closed, closed_later, divided, emptied, single_closed, single_open, voided, weighed}
use Rattle.step_rules.specs.Splits.{IsSplitPlace, IsUsedAdvice, candidates}
use Rattle.step_rules.specs.Usable.{LeafWeights, open_with, plain_weights}
use Rattle.branch_bound.specs.Facts.{Every, IsFair, ReachesCutoff}
use Rattle.branch_bound.proofs.Offering.{offer_covered}

-- the weights are of rows of the case
abbrev pub AreNamed : Case → List Weight → Type 0
AreNamed case rows = All (λ (w : Weight). w.row < length (rows_in case)) rows

pub none_named : (case : Case) → AreNamed case []
none_named case i d below = absurd (omega (arith, below))

-- the line is that of a hair leaf
abbrev OnHair : NodeLine → Type 0
OnHair (Line.Split r a) = ⊥
OnHair Line.Empty = ⊥
OnHair Line.Void = ⊥
OnHair (Line.Bound l) = ⊥
OnHair (Line.Hair r) = ⊤
OnHair (Line.OpenLeaf l) = ⊥

-- the row of a hair leaf is below the number
abbrev RowBelow : ℕ → NodeLine → Type 0
RowBelow n (Line.Split r a) = ⊤
RowBelow n Line.Empty = ⊤
RowBelow n Line.Void = ⊤
RowBelow n (Line.Bound l) = ⊤
RowBelow n (Line.Hair r) = r < n
RowBelow n (Line.OpenLeaf l) = ⊤

-- a leaf with weights of rows of the case names rows
names : (case : Case) (line : NodeLine) (rows : List Weight) → ((row : ℕ) → line ≡ Line.Hair row → row < length (rows_in case)) → AreNamed case rows → NamesRows case (record { line = line; weights = rows })
names case line rows row named = record { weighed = named; hair = row }

module _ (case : Case) (gap : ℕ) (box : Box) where
  -- a closed leaf whose bound reaches the cutoff
  fair_bound : (tight : Box) (later : Option Settings) (lambda : ℕ) (rows : List Weight) → TightensTo case box tight → AreNamed case rows
      → ReachesCutoff case gap later box (record { lambda = lambda; rows = rows }) → IsFair case gap later box (root (bound lambda rows))
  fair_bound tight later lambda rows to named reaches = record {
    right = record { names = names case (Line.Bound lambda) rows (λ row is. absurd (subst OnHair (sym is) tt)) named; asks = (tight, to, tt) };
    owes = reaches;
  }

  plain_fair : (tight : Box) (later : Option Settings) → TightensTo case box tight → PlainReaches case gap tight later → IsFair case gap later box (root (bound 1 []))
  plain_fair tight later to plain = fair_bound tight later 1 [] to (none_named case) (record {
    tight = tight;
    is_tight = to;
    bound = plain.plain;
    gives = record { value = plain.exact.0; dual = plain.exact.1; exact = plain.exact.2 };
    reaches = plain.reaches;
  })

  -- a hair leaf, whose pickups were offered
  hair_fair : (tight : Box) (issued later : Option Settings) (row : ℕ) → TightensTo case box tight → IsSingle case tight issued later → IsFirstUnmet case (lowest_of tight) row
      → IsFair case gap later box (root (hair row))
  hair_fair tight issued later row to single first = record {
    right = record {
      names = names case (Line.Hair row) [] (λ r is. subst (λ (l : NodeLine). RowBelow (length (rows_in case)) l) is first.is_row) (none_named case);
      asks = (tight, to, record { one_pickup = single.one; unmet = first.unmet });
    };
    owes = record {
      tight = tight;
      is_tight = to;
      offer = single.offer;
      least = single.least;
      no_dearer = rw single.now (offer_covered case issued single.offer);
    };
  }

  -- a leaf whose weights show that there are no settings
  void_fair : (tight : Box) (later : Option Settings) (rows : List Weight) → TightensTo case box tight → IsVoidBy case tight rows → IsFair case gap later box (root (void rows))
  void_fair tight later rows to is = record {
    right = record {
      names = names case Line.Void rows (λ row same. absurd (subst OnHair (sym same) tt)) is.usable.named;
      asks = (tight, to, record { value = is.shows.value; dual = is.shows.dual; above = is.shows.above });
    };
    owes = tt;
  }

  weighed_fair : (tight : Box) (later : Option Settings) (weights : LeafWeights) → TightensTo case box tight → ClosesBy case gap tight weights later → IsFair case gap later box (root (bound weights.lambda weights.rows))
  weighed_fair tight later weights to by = fair_bound tight later weights.lambda weights.rows to by.can.usable.named (record {
    tight = tight;
    is_tight = to;
    bound = by.bound;
    gives = by.gives;
    reaches = by.reaches;
  })

  -- an open leaf at a box with a step in each span
  pub open_fair : (later : Option Settings) (weights : LeafWeights) → HasNoEmptySpan box → AreNamed case weights.rows → IsFair case gap later box (root (open_with weights))
  open_fair later weights steps named = record { right = record { names = names case (Line.OpenLeaf weights.lambda) weights.rows (λ row is. absurd (subst OnHair (sym is) tt)) named; asks = steps }; owes = tt }

  -- the split itself
  split_fair : (tight : Box) (issued later : Option Settings) (advised : Advised) (relay at : ℕ) (below above : Tree) → FitsBox case box → TightensTo case box tight → IsAsked case gap tight advised issued later
      → CanSplit tight relay at → IsFair case gap later box (root (split relay at below above))
  split_fair tight issued later advised relay at below above fits to asked can = record {
    right = record {
      names = names case (Line.Split relay at) [] (λ row is. absurd (subst OnHair (sym is) tt)) (none_named case);
      asks = (tight, to, record { relay_fits = omega (arith, found.2, (tight_fits case box tight fits to).pickups); can = can });
    };
    owes = record {
      tight = tight;
      is_tight = to;
      offer = asked.second;
      least = asked.is_second;
      no_dearer = rw asked.now (offer_covered case (offered case issued asked.first) asked.second);
    };
  }
    where
      found : (span : Steps) × (slice_get tight.pickup relay ≡ Some span) × (relay < length tight.pickup)
      found = let f = some_and (slice_get tight.pickup relay) (λ span. HasNext span at) can in (f.0, f.1, slice_get_within tight.pickup relay f.0 f.1)

-- the weights are those that a leaf with a bound may have
abbrev pub CanStand : LeafWeights → Type 0
CanStand w = (1 ≤ w.lambda) × AreLeafWeights w.rows × (w.lambda ≤ 2 ^ 32 - 1)

pub none_stand : CanStand plain_weights
none_stand = (
  omega arith,
  record {
    few = omega arith;
    ascending = λ i below. absurd (omega (arith, below));
    some = λ i d below. absurd (omega (arith, below));
    small = λ i d below. absurd (omega (arith, below));
  },
  omega arith,
)

-- weights that a half may take are within the limits, and of rows of the case
candidate_named : (case : Case) (weights own best : LeafWeights) (used : Option LeafWeights) (place : ℕ) → AreNamed case own.rows → IsUsedAdvice case weights used
    → slice_get (candidates own used) place ≡ Some best → AreNamed case best.rows
candidate_named case weights own best used place named is found = subst P (get_or_from_slice_get (candidates own used) place best best found) (each used place is (slice_get_within (candidates own used) place best found))
  where
    P : LeafWeights → Type 0
    P w = AreNamed case w.rows

    each : (u : Option LeafWeights) (k : ℕ) → IsUsedAdvice case weights u → k < length (candidates own u) → P (get_or (candidates own u) k best)
    each None zero is below = none_named case
    each None (suc zero) is below = named
    each None (suc (suc k)) is below = absurd (omega (arith, below))
    each (Some w) zero is below = none_named case
    each (Some w) (suc zero) is below = named
    each (Some w) (suc (suc zero)) is below = is.can.usable.named
    each (Some w) (suc (suc (suc k))) is below = absurd (omega (arith, below))

candidate_stands : (case : Case) (weights own best : LeafWeights) (used : Option LeafWeights) (place : ℕ) → CanStand own → IsUsedAdvice case weights used
    → slice_get (candidates own used) place ≡ Some best → CanStand best
candidate_stands case weights own best used place fit is found = subst CanStand (get_or_from_slice_get (candidates own used) place best best found) (each used place is (slice_get_within (candidates own used) place best found))
  where
    each : (u : Option LeafWeights) (k : ℕ) → IsUsedAdvice case weights u → k < length (candidates own u) → CanStand (get_or (candidates own u) k best)
    each None zero is below = none_stand
    each None (suc zero) is below = fit
    each None (suc (suc k)) is below = absurd (omega (arith, below))
    each (Some w) zero is below = none_stand
    each (Some w) (suc zero) is below = fit
    each (Some w) (suc (suc zero)) is below = (is.can.some_lambda, is.can.usable.fit, is.can.small_lambda)
    each (Some w) (suc (suc (suc k))) is below = absurd (omega (arith, below))

-- a box can be split at a place or it can't
can_or_not : (box : Box) (relay at : ℕ) → CanSplit box relay at ⊎ ¬ (CanSplit box relay at)
can_or_not box relay at = go (slice_get box.pickup relay)
  where
    go : (o : Option Steps) → IsSomeAnd o (λ span. HasNext span at) ⊎ ¬ (IsSomeAnd o (λ span. HasNext span at))
    go None = inr (λ is. is)
    go (Some span) = elim (cases_lt at span.low) [
      | inl under ↦ inr (λ is. omega (arith, is.from, under))
      | inr from ↦ elim (cases_lt (at + 1) span.past) [
        | inl next ↦ inl (record { from = from; next = next })
        | inr past ↦ inr (λ is. omega (arith, is.next, past))
      ]
    ]

place_can : (tight : Box) (advised : Advised) (relay at : ℕ) → IsSplitPlace tight advised relay at → CanSplit tight relay at
place_can tight advised relay at place = elim (can_or_not tight advised.relay advised.at) [
  | inl can ↦ let same = place.as_advised can in rw (same.0, same.1) can
  | inr not_there ↦ (place.else_first not_there).can
]

-- an open leaf of a box that fits, with weights of rows of the case, becomes a fair tree
pub handled_fair : (case : Case) (gap : ℕ) (box : Box) (own : LeafWeights) (issued later : Option Settings) (tree : Tree) → FitsBox case box → AreNamed case own.rows
    → Handled case gap box own issued later tree → Every case (IsFair case gap later) box tree
handled_fair case gap box own issued later tree fits named (emptied gone) = record { right = record { names = names case Line.Empty [] (λ row is. absurd (subst OnHair (sym is) tt)) (none_named case); asks = gone }; owes = tt }
handled_fair case gap box own issued later tree fits named (single_closed {tight = tight} to single plain) = plain_fair case gap box tight later to plain
handled_fair case gap box own issued later tree fits named (single_open {tight = tight} {row = row} to single misses first) = hair_fair case gap box tight issued later row to single first
handled_fair case gap box own issued later tree fits named (closed {tight = tight} to several plain) = plain_fair case gap box tight issued to plain
handled_fair case gap box own issued later tree fits named (closed_later {tight = tight} to asked plain) = plain_fair case gap box tight later to plain
handled_fair case gap box own issued later tree fits named (voided {tight = tight} {advised = advised} to undecided is) = void_fair case gap box tight later advised.weights.rows to is
handled_fair case gap box own issued later tree fits named (weighed {tight = tight} {advised = advised} to undecided no_void by) = weighed_fair case gap box tight later advised.weights to by
handled_fair case gap box own issued later tree fits named (divided {tight = tight} {advised = advised} {relay = relay} {at = at} {low = low} {high = high} to undecided no_void no_bound is) =
    let can = place_can tight advised relay at is.place in
    let are = halves_are tight is.lower is.upper relay at can is.halves in (
      is.lower,
      is.upper,
      split_fair case gap box tight issued later advised relay at (open_with low) (open_with high) fits to undecided.asked can,
      record { tight = tight; is_tight = to; halves = is.halves },
      open_fair case gap is.lower later low (are.1.0.steps to.no_more.steps) (candidate_named case advised.weights own low is.used is.low_best.place named is.is_used is.low_best.stands),
      open_fair case gap is.upper later high (are.1.1.steps to.no_more.steps) (candidate_named case advised.weights own high is.used is.high_best.place named is.is_used is.high_best.stands),
    )

-- its leaves have weights within the limits
pub handled_leaves : (case : Case) (gap : ℕ) (box : Box) (own : LeafWeights) (issued later : Option Settings) (tree : Tree) → CanStand own → Handled case gap box own issued later tree → FitLeaves tree
handled_leaves case gap box own issued later tree fit (emptied gone) = tt
handled_leaves case gap box own issued later tree fit (single_closed to single plain) = none_stand
handled_leaves case gap box own issued later tree fit (single_open to single misses first) = tt
handled_leaves case gap box own issued later tree fit (closed to several plain) = none_stand
handled_leaves case gap box own issued later tree fit (closed_later to asked plain) = none_stand
handled_leaves case gap box own issued later tree fit (voided to undecided is) = is.usable.fit
handled_leaves case gap box own issued later tree fit (weighed to undecided no_void by) = (by.can.some_lambda, by.can.usable.fit, by.can.small_lambda)
handled_leaves case gap box own issued later tree fit (divided {advised = advised} {low = low} {high = high} to undecided no_void no_bound is) =
    (candidate_stands case advised.weights own low is.used is.low_best.place fit is.is_used is.low_best.stands, candidate_stands case advised.weights own high is.used is.high_best.place fit is.is_used is.high_best.stands)
