-- A node is right at its box or wrong there first in some way, so a tree holds at its box or fails there.
use Rattle.std.specs.Prelude.{Option, None, Some, IsSomeAnd, ℤ, pos, negsuc, ◌<ℤ◌, slice_get}
use Rattle.std.proofs.Common.{rules, ◌≡◌, ℕ, zero, suc, ◌+◌, ◌<◌, ◌≤◌, ◌⊎◌, inl, inr, List, [], length, get_or, All, arith, refl, subst}
use Rattle.std.proofs.lemmas.Bool.{cases_eq, cases_lt}
use Rattle.std.proofs.lemmas.Int.{ints}
use Rattle.std.proofs.lemmas.List.Elements.{All-from_get_or}
use Rattle.coord_model.specs.Choice.{Settings}
use Rattle.coord_model.specs.Tree.{Single, Tree, split, empty, void, bound, hair, open_leaf, nodes_of, root}
use Rattle.coord_model.specs.declared.study.Row.{Row}
use Rattle.coord_model.specs.declared.tree.NodeLine.{NodeLine}
use Rattle.coord_model.specs.declared.tree.NodeLine.TheVariants.{Split, Empty, Void, Bound, Hair, OpenLeaf}
use Rattle.coord_model.specs.declared.weights.Weight.{Weight}
use Rattle.margin_rows.specs.Box.{Box, FitsBox, HasEmptySpan, no_steps}
use Rattle.margin_rows.specs.Case.{Case, FitsCase, row_at, rows_in}
use Rattle.margin_rows.specs.Halves.{CanSplit, HasNext, above, up_to}
use Rattle.margin_rows.specs.Lowest.{HasOnePickup, lowest_of}
use Rattle.margin_rows.specs.Margin.{MeetsStrictly}
use Rattle.margin_rows.specs.Within.{span_of, with_pickup}
use Rattle.margin_rows.specs.declared.span.Steps.{Steps}
use Rattle.margin_rows.proofs.Places.{and_some, some_and}
use Rattle.margin_rows.proofs.Within.{each_some, some_each}
use Rattle.box_range.specs.Drops.{IsEmptied, TightensTo}
use Rattle.box_bound.specs.DualValue.{IsDualValue}
use Rattle.box_bound.specs.LowerBound.{bound_at}
use Rattle.box_bound.proofs.DualValues.{dual_value_of}
use Rattle.box_bound.proofs.Values.{value_only}
use Rattle.cert_tree.specs.Holding.{AreTightHalves, Holds, at_split, below_high, below_low, here, lower}
use Rattle.cert_tree.specs.Judgement.{IsRightWith, single}
use Rattle.cert_tree.specs.NodeFaults.{IsFirstWrong}
use Rattle.cert_tree.specs.NodeRules.{NamesRows}
use Rattle.cert_tree.specs.Verdict.{IsDecided}
use Rattle.cert_tree.specs.declared.kind.NodeKind.{NodeKind}
use Rattle.cert_tree.specs.declared.kind.NodeKind.TheVariants.{RowNumber, SplitRelay, NotEmpty, Emptied, NotVoid, ManyPickups, NotHair, SplitAt}
use Rattle.cert_tree.proofs.NodeLaws.{not_void}
use Rattle.cert_tree.proofs.TightBoxes.{tight_fits, tight_only, tight_or_emptied}
use Rattle.cert_tree.proofs.TightOrEmptied.{each_or, emptied_or_tight, empty_or, le_or}
use Rattle.cert_tree.proofs.TreeLaws.{halves_fit}
use Rattle.cert_tree.proofs.WalkedTrees.{bound_holds, empty_holds, hair_holds, open_holds, void_holds}

-- whether a box can be split at a step, and whether it has one pickup step for each relay
can_or : (box : Box) (relay at : ℕ) → CanSplit box relay at ⊎ (CanSplit box relay at → ⊥)
can_or box relay at = of (slice_get box.pickup relay)
  where
    of : (o : Option Steps) → IsSomeAnd o (λ span. HasNext span at) ⊎ (IsSomeAnd o (λ span. HasNext span at) → ⊥)
    of None = inr (λ gone. gone)
    of (Some span) = elim (le_or span.low at) [
      | inr far ↦ inr (λ is. far is.from)
      | inl from ↦ elim (cases_lt (at + 1) span.past) [
        | inl next ↦ inl (record { from = from; next = next })
        | inr last ↦ inr (λ is. omega (arith, last, is.next))
      ]
    ]

one_or : (box : Box) → HasOnePickup box ⊎ (HasOnePickup box → ⊥)
one_or box = elim (each_or (λ i. (span_of box.pickup i).past ≡ suc (span_of box.pickup i).low) (λ i. (span_of box.pickup i).past ≡ suc (span_of box.pickup i).low → ⊥) (length box.pickup)
    (λ i below. cases_eq (span_of box.pickup i).past (suc (span_of box.pickup i).low))) [
      | inl all ↦ inl (record { each = each_some box.pickup (λ i span. span.past ≡ suc span.low) no_steps all })
      | inr found ↦ inr (λ is. found.2 (some_each box.pickup (λ i span. span.past ≡ suc span.low) no_steps is.each found.0 found.1))
    ]

met_or : (case : Case) (settings : Settings) (row : Row) → MeetsStrictly case settings row ⊎ (MeetsStrictly case settings row → ⊥)
met_or case settings row = le_or _ _

above_or : (value : ℤ) → (pos 0 <ℤ value) ⊎ (pos 0 <ℤ value → ⊥)
above_or (pos zero) = inr (λ over. omega (arith, ints, over))
above_or (pos (suc n)) = inl (omega (arith, ints))
above_or (negsuc n) = inr (λ over. omega (arith, ints, over))

-- what becomes of a node at a box: it is right and gives something, or it is wrong there first in some way
abbrev Becomes : Case → Box → Single → Type 0
Becomes case box node = ((given : Option ℕ) × IsRightWith case box node given) ⊎ ((kind : NodeKind) × IsFirstWrong case box node kind)

module _ (case : Case) (ws : List Weight) where
  weighed_or : All (λ w. w.row < length (rows_in case)) ws ⊎ (All (λ w. w.row < length (rows_in case)) ws → ⊥)
  weighed_or =
      let d : Weight = record { row = 0; weight = 0 } in
      elim (each_or (λ i. (get_or ws i d).row < length (rows_in case)) (λ i. length (rows_in case) ≤ (get_or ws i d).row) (length ws) (λ i below. cases_lt (get_or ws i d).row (length (rows_in case)))) [
        | inl all ↦ inl (All-from_get_or (λ w. w.row < length (rows_in case)) ws d all)
        | inr found ↦ inr (λ all. omega (arith, found.2, all found.0 d found.1))
      ]

  names : (line : NodeLine) → All (λ w. w.row < length (rows_in case)) ws → ((row : ℕ) → line ≡ Hair row → row < length (rows_in case)) → NamesRows case (single line ws)
  names line weighed there = record { weighed = weighed; hair = there }

  names_or : (line : NodeLine) → NamesRows case (single line ws) ⊎ (NamesRows case (single line ws) → ⊥)
  names_or line = elim weighed_or [
    | inr unnamed ↦ inr (λ is. unnamed is.weighed)
    | inl weighed ↦ of line weighed
  ]
    where
      of : (line : NodeLine) → All (λ w. w.row < length (rows_in case)) ws → NamesRows case (single line ws) ⊎ (NamesRows case (single line ws) → ⊥)
      of (Split relay at) weighed = inl (names (Split relay at) weighed (λ row is. cc))
      of Empty weighed = inl (names Empty weighed (λ row is. cc))
      of Void weighed = inl (names Void weighed (λ row is. cc))
      of (Bound lambda) weighed = inl (names (Bound lambda) weighed (λ row is. cc))
      of (Hair row) weighed = elim (cases_lt row (length (rows_in case))) [
        | inl below ↦ inl (names (Hair row) weighed (λ other is. let e : row ≡ other = cc in omega (arith, e, below)))
        | inr far ↦ inr (λ is. omega (arith, far, is.hair row refl))
      ]
      of (OpenLeaf lambda) weighed = inl (names (OpenLeaf lambda) weighed (λ row is. cc))

-- the first way in which a node is wrong
unnamed : (case : Case) (box : Box) (node : Single) → (NamesRows case node → ⊥) → IsFirstWrong case box node RowNumber
unnamed case box node none = record { wrong = none; before = λ earlier less. absurd (omega (arith, less)) }

module _ (case : Case) (box : Box) (ws : List Weight) where
  far_relay : (relay at : ℕ) → NamesRows case (single (Split relay at) ws) → length case.study.relays ≤ relay → IsFirstWrong case box (single (Split relay at) ws) SplitRelay
  far_relay relay at named far = search rules

  split_emptied : (relay at : ℕ) → NamesRows case (single (Split relay at) ws) → relay < length case.study.relays → IsEmptied case box → IsFirstWrong case box (single (Split relay at) ws) Emptied
  split_emptied relay at named below gone = search rules

  not_split : (relay at : ℕ) → NamesRows case (single (Split relay at) ws) → relay < length case.study.relays → (IsEmptied case box → ⊥)
      → ((tight : Box) → TightensTo case box tight → CanSplit tight relay at → ⊥) → IsFirstWrong case box (single (Split relay at) ws) SplitAt
  not_split relay at named below there none = search rules

  no_split : (tight : Box) (relay at : ℕ) → NamesRows case (single (Split relay at) ws) → relay < length case.study.relays → TightensTo case box tight → (CanSplit tight relay at → ⊥)
      → IsFirstWrong case box (single (Split relay at) ws) SplitAt
  no_split tight relay at named below is none =
      not_split relay at named below (tight_or_emptied case box tight is) (λ other at_other. subst (λ (b : Box). CanSplit b relay at → ⊥) (tight_only case box tight other is at_other) none)

  not_emptied : NamesRows case (single Empty ws) → (IsEmptied case box → ⊥) → IsFirstWrong case box (single Empty ws) NotEmpty
  not_emptied named there = search rules

  void_emptied : NamesRows case (single Void ws) → IsEmptied case box → IsFirstWrong case box (single Void ws) Emptied
  void_emptied named gone = search rules

  bound_emptied : (lambda : ℕ) → NamesRows case (single (Bound lambda) ws) → IsEmptied case box → IsFirstWrong case box (single (Bound lambda) ws) Emptied
  bound_emptied lambda named gone = search rules

  hair_emptied : (row : ℕ) → NamesRows case (single (Hair row) ws) → IsEmptied case box → IsFirstWrong case box (single (Hair row) ws) Emptied
  hair_emptied row named gone = search rules

  not_one : (row : ℕ) → NamesRows case (single (Hair row) ws) → (IsEmptied case box → ⊥) → ((tight : Box) → TightensTo case box tight → HasOnePickup tight → ⊥)
      → IsFirstWrong case box (single (Hair row) ws) ManyPickups
  not_one row named there many = search rules

  many_pickups : (tight : Box) (row : ℕ) → NamesRows case (single (Hair row) ws) → TightensTo case box tight → (HasOnePickup tight → ⊥) → IsFirstWrong case box (single (Hair row) ws) ManyPickups
  many_pickups tight row named is many =
      not_one row named (tight_or_emptied case box tight is) (λ other at_other. subst (λ (b : Box). HasOnePickup b → ⊥) (tight_only case box tight other is at_other) many)

  not_hair : (tight : Box) (row : ℕ) → NamesRows case (single (Hair row) ws) → (IsEmptied case box → ⊥) → TightensTo case box tight → HasOnePickup tight
      → ((other : Box) → TightensTo case box other → MeetsStrictly case (lowest_of other) (row_at case row)) → IsFirstWrong case box (single (Hair row) ws) NotHair
  not_hair tight row named there is one meets = search rules

  no_hair : (tight : Box) (row : ℕ) → NamesRows case (single (Hair row) ws) → TightensTo case box tight → HasOnePickup tight → MeetsStrictly case (lowest_of tight) (row_at case row)
      → IsFirstWrong case box (single (Hair row) ws) NotHair
  no_hair tight row named is one meets =
      not_hair tight row named (tight_or_emptied case box tight is) is one
      (λ other at_other. subst (λ (b : Box). MeetsStrictly case (lowest_of b) (row_at case row)) (tight_only case box tight other is at_other) meets)

  open_emptied : (lambda : ℕ) → NamesRows case (single (OpenLeaf lambda) ws) → HasEmptySpan box → IsFirstWrong case box (single (OpenLeaf lambda) ws) Emptied
  open_emptied lambda named gone = search rules

module _ (case : Case) (box : Box) (limits : FitsCase case) (fits : FitsBox case box) (ws : List Weight) where
  value_of : (tight : Box) (lambda : ℕ) (weights : List Weight) → TightensTo case box tight → (value : ℤ) × IsDualValue case tight lambda weights value
  value_of tight lambda weights is =
      let fit = tight_fits case box tight fits is in
      dual_value_of case lambda weights tight fit.pickups fit.dials is.no_more.steps

  split_becomes : (relay at : ℕ) → NamesRows case (single (Split relay at) ws) → Becomes case box (single (Split relay at) ws)
  split_becomes relay at named = elim (cases_lt relay (length case.study.relays)) [
    | inr far ↦ inr (SplitRelay, far_relay case box ws relay at named far)
    | inl below ↦ elim (emptied_or_tight case limits box fits) [
      | inl gone ↦ inr (Emptied, split_emptied case box ws relay at named below gone)
      | inr found ↦ elim (can_or found.0 relay at) [
        | inl can ↦ inl (None, record { right = record { names = named; asks = (found.0, found.1, record { relay_fits = below; can = can }) }; gives = refl })
        | inr cannot ↦ inr (SplitAt, no_split case box ws found.0 relay at named below found.1 cannot)
      ]
    ]
  ]

  empty_becomes : NamesRows case (single Empty ws) → Becomes case box (single Empty ws)
  empty_becomes named = elim (emptied_or_tight case limits box fits) [
    | inl gone ↦ inl (None, record { right = record { names = named; asks = gone }; gives = refl })
    | inr found ↦ inr (NotEmpty, not_emptied case box ws named (tight_or_emptied case box found.0 found.1))
  ]

  void_becomes : NamesRows case (single Void ws) → Becomes case box (single Void ws)
  void_becomes named = elim (emptied_or_tight case limits box fits) [
    | inl gone ↦ inr (Emptied, void_emptied case box ws named gone)
    | inr found ↦
        let dual = value_of found.0 0 ws found.1 in
        elim (above_or dual.0) [
          | inl over ↦ inl (None, record { right = record { names = named; asks = (found.0, found.1, record { value = dual.0; dual = dual.1; above = over }) }; gives = refl })
          | inr under ↦ inr (
            NotVoid,
            not_void case box found.0 ws named found.1 (λ void.
                under (subst (λ (v : ℤ). pos 0 <ℤ v) (value_only case found.0 0 ws void.value dual.0 found.1.no_more.steps (tight_fits case box found.0 fits found.1).dials void.dual dual.1) void.above)),
          )
        ]
  ]

  bound_becomes : (lambda : ℕ) → NamesRows case (single (Bound lambda) ws) → Becomes case box (single (Bound lambda) ws)
  bound_becomes lambda named = elim (emptied_or_tight case limits box fits) [
    | inl gone ↦ inr (Emptied, bound_emptied case box ws lambda named gone)
    | inr found ↦
        let dual = value_of found.0 lambda ws found.1 in
        inl (
          Some (bound_at dual.0 lambda),
          record {
            right = record { names = named; asks = (found.0, found.1, tt) };
            gives = (found.0, bound_at dual.0 lambda, found.1, record { value = dual.0; dual = dual.1; is = refl }, refl);
          },
        )
  ]

  hair_becomes : (row : ℕ) → NamesRows case (single (Hair row) ws) → Becomes case box (single (Hair row) ws)
  hair_becomes row named = elim (emptied_or_tight case limits box fits) [
    | inl gone ↦ inr (Emptied, hair_emptied case box ws row named gone)
    | inr found ↦ elim (one_or found.0) [
      | inr many ↦ inr (ManyPickups, many_pickups case box ws found.0 row named found.1 many)
      | inl one ↦ elim (met_or case (lowest_of found.0) (row_at case row)) [
        | inl meets ↦ inr (NotHair, no_hair case box ws found.0 row named found.1 one meets)
        | inr unmet ↦
            let dual = value_of found.0 1 [] found.1 in
            inl (
              Some (bound_at dual.0 1),
              record {
                right = record { names = named; asks = (found.0, found.1, record { one_pickup = one; unmet = unmet }) };
                gives = (found.0, bound_at dual.0 1, found.1, (dual.0, dual.1, refl), refl);
              },
            )
      ]
    ]
  ]

  open_becomes : (lambda : ℕ) → NamesRows case (single (OpenLeaf lambda) ws) → Becomes case box (single (OpenLeaf lambda) ws)
  open_becomes lambda named = elim (empty_or box) [
    | inl gone ↦ inr (Emptied, open_emptied case box ws lambda named gone)
    | inr steps ↦
        let dual = dual_value_of case lambda ws box fits.pickups fits.dials steps in
        inl (
          Some (bound_at dual.0 lambda),
          record {
            right = record { names = named; asks = steps };
            gives = (bound_at dual.0 lambda, record { value = dual.0; dual = dual.1; is = refl }, refl);
          },
        )
  ]

  named_becomes : (line : NodeLine) → NamesRows case (single line ws) → Becomes case box (single line ws)
  named_becomes (Split relay at) named = split_becomes relay at named
  named_becomes Empty named = empty_becomes named
  named_becomes Void named = void_becomes named
  named_becomes (Bound lambda) named = bound_becomes lambda named
  named_becomes (Hair row) named = hair_becomes row named
  named_becomes (OpenLeaf lambda) named = open_becomes lambda named

  -- a node is right, or wrong first in some way
  becomes : (line : NodeLine) → Becomes case box (single line ws)
  becomes line = elim (names_or case ws line) [
    | inl named ↦ named_becomes line named
    | inr none ↦ inr (RowNumber, unnamed case box (single line ws) none)
  ]

-- the halves of a box that can be split
halves_at : (case : Case) (box tight : Box) (relay at : ℕ) → TightensTo case box tight → CanSplit tight relay at → (low : Box) × (high : Box) × AreTightHalves case box relay at low high
halves_at case box tight relay at is can =
    let found = some_and (slice_get tight.pickup relay) (λ span. HasNext span at) can in
    let low = with_pickup tight relay (up_to found.0 at) in
    let high = with_pickup tight relay (above found.0 at) in (
      low,
      high,
      record {
        tight = tight;
        is_tight = is;
        halves = record {
          low = and_some (slice_get tight.pickup relay) (λ span. low ≡ with_pickup tight relay (up_to span at)) found.0 found.1 refl;
          high = and_some (slice_get tight.pickup relay) (λ span. high ≡ with_pickup tight relay (above span at)) found.0 found.1 refl;
        };
      },
    )

leaf_or : (case : Case) (box : Box) (leaf : Tree) → ((given : Option ℕ) → IsRightWith case box (root leaf) given → Holds case box leaf given)
    → Becomes case box (root leaf) → IsDecided case box leaf
leaf_or case box leaf right (inl is) = inl (is.0, right is.0 is.1)
leaf_or case box leaf right (inr is) = inr (1, is.0, here is.1)

-- a tree holds at a box that fits, or fails there
pub holds_or_fails : (case : Case) (box : Box) (tree : Tree) → FitsCase case → FitsBox case box → IsDecided case box tree
holds_or_fails case box (split relay at below above) limits fits = elim (becomes case box limits fits [] (Split relay at)) [
  | inr wrong ↦ inr (1, wrong.0, here wrong.1)
  | inl is ↦
      let right = is.1.right in
      let halves = halves_at case box right.asks.0 relay at right.asks.1 right.asks.2.can in
      let fit = halves_fit case box relay at below above halves.0 halves.1 fits right halves.2 in
      elim (holds_or_fails case halves.0 below limits fit.0) [
        | inr low ↦ inr (suc low.0, low.1, below_low right halves.2 low.2)
        | inl low ↦ elim (holds_or_fails case halves.1 above limits fit.1) [
          | inr high ↦ inr (suc (length (nodes_of below) + high.0), high.1, below_high right halves.2 low.1 high.2)
          | inl high ↦ inl (lower low.0 high.0, at_split right halves.2 low.1 high.1)
        ]
      ]
]
holds_or_fails case box empty limits fits = leaf_or case box empty (empty_holds case box) (becomes case box limits fits [] Empty)
holds_or_fails case box (void weights) limits fits = leaf_or case box (void weights) (void_holds case box weights) (becomes case box limits fits weights Void)
holds_or_fails case box (bound lambda weights) limits fits = leaf_or case box (bound lambda weights) (bound_holds case box lambda weights) (becomes case box limits fits weights (Bound lambda))
holds_or_fails case box (hair row) limits fits = leaf_or case box (hair row) (hair_holds case box row) (becomes case box limits fits [] (Hair row))
holds_or_fails case box (open_leaf lambda weights) limits fits = leaf_or case box (open_leaf lambda weights) (open_holds case box lambda weights) (becomes case box limits fits weights (OpenLeaf lambda))
